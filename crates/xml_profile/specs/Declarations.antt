-- What the declarations of a canonical text come to (Namespaces in XML 1.0, sections 3 and 5).
use Rattle.std.specs.Prelude.{ℕ, List, [], ◌∷◌, ◌≡◌, Bool, true, not, ◌&&◌, ◌||◌, Option, Some, None, is_some}
use Rattle.std.specs.List.{list_any}
use Rattle.std.specs.Str.{bytes_eq}
use Rattle.xml_profile.specs.Prefixes.{xml, fixed_prefix}
use Rattle.xml_profile.specs.CanonicalText.{prefix_of}

-- a namespace, or none, needs no declaration or has one
abbrev pub is_declared : List (List ℕ) → Option (List ℕ) → Bool
is_declared declared None = true
is_declared declared (Some space) = bytes_eq space xml || list_any (bytes_eq space) declared

-- it has a prefix of its own, or a number
abbrev pub has_prefix : List (List ℕ) → Option (List ℕ) → Bool
has_prefix numbered None = true
has_prefix numbered (Some space) = is_some (fixed_prefix space) || list_any (bytes_eq space) numbered

-- none stands twice
abbrev pub is_once : List (List ℕ) → Bool
is_once [] = true
is_once (space ∷ rest) = not (list_any (bytes_eq space) rest) && is_once rest

-- two namespaces never share a prefix
abbrev pub PrefixesDiffer : List (List ℕ) → Type 0
PrefixesDiffer numbered =
    (s t : List ℕ) → has_prefix numbered (Some s) ≡ true → has_prefix numbered (Some t) ≡ true → prefix_of numbered s ≡ prefix_of numbered t → s ≡ t
