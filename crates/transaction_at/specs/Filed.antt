-- An index: the places of the keys of a list, in the order of these keys. A key that stands behind an equal one has none.
use Rattle.std.specs.Prelude.{ℕ, suc, List, [], ◌∷◌, ◌≡◌, ◌<◌, Option, Some, None, Bool, true, false, length, slice_get, find, option_map, if◌then◌else◌}
use Rattle.std.specs.List.{All, AllPairs}
use Rattle.std.specs.Ordering.{is_eq, is_lt}
use Rattle.std.specs.declared.cmp.Ordering.{Ordering}

-- the place of the first that passes the test, from 0 on
abbrev pub first_place : {A : Type 0} → (A → Bool) → List A → Option ℕ
first_place test [] = None
first_place test (x ∷ xs) = if test x then Some 0 else option_map (λ n. suc n) (first_place test xs)

abbrev pub passes : {A : Type 0} → (A → Bool) → Option A → Bool
passes test None = false
passes test (Some x) = test x

module _ {K : Type 0} (R : K → K → Ordering) where
  abbrev pub ties : K → List K → ℕ → Bool
  ties k ks i = passes (λ x. is_eq (R x k)) (slice_get ks i)

  abbrev pub below : K → List K → ℕ → Bool
  below k ks i = passes (λ x. is_lt (R x k)) (slice_get ks i)

  abbrev pub comes : List K → ℕ → ℕ → Bool
  comes ks i j = passes (λ y. below y ks i) (slice_get ks j)

  -- the places are those of keys, these rise, and the first key of each sort has its place there
  unfoldable pub IsFiled : List ℕ → List K → Type 0
  IsFiled ix ks =
      All (λ i. i < length ks) ix
      × AllPairs (λ i j. comes ks i j ≡ true) ix
      × ((k : K) → find (ties k ks) ix ≡ first_place (λ x. is_eq (R x k)) ks)
