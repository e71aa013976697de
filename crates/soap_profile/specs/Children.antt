-- The children of an element, looked up by name.
use Rattle.std.specs.Prelude.{ℕ, List, [], ◌∷◌, Bool, Option, Some, None, if◌then◌else◌}
use Rattle.xml_profile.specs.declared.name.QName.{QName}
use Rattle.xml_profile.specs.declared.tree.Child.{Child}
use Rattle.xml_profile.specs.declared.tree.Tree.{Tree}
use Rattle.xml_profile.specs.Children.{forest_of}
use Rattle.soap_profile.specs.Values.{elements, is_named, is_unqualified}

-- whether a name is a local name in a namespace, or in none
abbrev pub has_name : Option (List ℕ) → List ℕ → QName → Bool
has_name None local name = is_unqualified name local
has_name (Some space) local name = is_named name space local

-- the elements of a list that have this name
abbrev pub all_named : List Tree → Option (List ℕ) → List ℕ → List Tree
all_named [] space local = []
all_named (t ∷ ts) space local = if has_name space local t.name then t ∷ all_named ts space local else all_named ts space local

-- those with a name in this namespace
abbrev pub named : List Tree → List ℕ → List ℕ → List Tree
named ts space local = all_named ts (Some space) local

-- the only one of a list, or none where it is empty; nothing where there are more
abbrev pub at_most_one : List Tree → Option (Option Tree)
at_most_one [] = Some None
at_most_one (t ∷ []) = Some (Some t)
at_most_one (t ∷ u ∷ ts) = None

-- the child of this name: nothing where it stands more than once, an inner nothing where it isn't there
abbrev pub child_of : Tree → Option (List ℕ) → List ℕ → Option (Option Tree)
child_of t space local = at_most_one (all_named (elements t.children) space local)

-- the elements of children of which the first element is known, and what stands behind it
abbrev pub listed : Option (Tree × List Child) → List Tree
listed None = []
listed (Some found) = found.0 ∷ elements (forest_of found.1)
