-- The place of each namespace in a list, and what a map has for it.
use Rattle.std.specs.Prelude.{◌≡◌, ℕ, suc, List, [], ◌∷◌, map, cond, Option, Some, None, option_map}
use Rattle.std.specs.BTreeMap.{BTreeMap, get_by}
use Rattle.std.specs.Cmp.Lexicographic.{slice_cmp}
use Rattle.std.specs.Ordering.{nat_cmp}
use Rattle.std.specs.Str.{bytes_eq}
use denote.Ref.{Bor}

-- the first place of a text, from 0 on
abbrev pub place_of : List ℕ → List (List ℕ) → Option ℕ
place_of s [] = None
place_of s (x ∷ xs) = cond (bytes_eq s x) (Some 0) (option_map (λ n. suc n) (place_of s xs))

-- the place that a map has for a text
abbrev pub place_in : BTreeMap (Bor (List ℕ)) ℕ → List ℕ → Option ℕ
place_in m s = get_by (λ k. slice_cmp nat_cmp s k.now) m

-- a map has the place of each
abbrev pub Finds : BTreeMap (Bor (List ℕ)) ℕ → List (Bor (List ℕ)) → Type 0
Finds m xs = (s : List ℕ) → place_in m s ≡ place_of s (map (λ x. x.now) xs)
