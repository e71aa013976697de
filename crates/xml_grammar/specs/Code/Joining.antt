-- Pieces of what a tag says, one behind another.
use Rattle.std.specs.Prelude.{ℕ, List, [], ◌++◌, ◌&&◌, cond, Option, Some, None, codes, encode_utf8_all}
use Rattle.xml_grammar.specs.Characters.{◌>>=◌, same, Parts}
use Rattle.xml_grammar.specs.Namespaces.{Binding, Sorted, is_empty, sort_in, declared_by, space_of}
use Rattle.xml_profile.specs.declared.name.QName.{QName}

abbrev pub joined : Sorted → Sorted → Sorted
joined s t = record { declarations = s.declarations ++ t.declarations; attributes = s.attributes ++ t.attributes }

abbrev pub sort_one : Parts → List ℕ → Sorted
sort_one name value = sort_in name value (declared_by name value) (record { declarations = []; attributes = [] })

-- the prefix that a name declares, empty for the default namespace
abbrev pub declared_prefix : Parts → Option (List ℕ)
declared_prefix name = cond (is_empty name.prefix && same name.local (codes "xmlns")) (Some []) (cond (same name.prefix (codes "xmlns")) (Some name.local) None)

abbrev pub prefixed_name : List Binding → Parts → Option QName
prefixed_name bs name = space_of bs name.prefix >>= (λ s. Some (record { space = Some s; local = encode_utf8_all name.local }))
