-- The keys under which names are kept apart.
use Rattle.std.specs.Prelude.{ℕ, List, Option, option_map}
use denote.Ref.{Bor}
use Rattle.xml_profile.specs.declared.name.QName.{QName}

-- a local name with a namespace or none
abbrev pub name_of : Bor (List ℕ) × Option (Bor (List ℕ)) → QName
name_of k = record { space = option_map (λ s. s.now) k.1; local = k.0.now }
