-- The first value of a field.
use Rattle.std.proofs.Common.{ℕ, List, [], ◌∷◌, ◌≡◌, Option, Some, None, Bool, true, false, map, refl, sym, ◌∙◌}
use Rattle.std.specs.Prelude.{slice_get, IsTrue, ◌↔◌, length, nat_eq}
use Rattle.std.proofs.lemmas.Bool.{eq-eqb, ne_eqb, true≢false}
use Rattle.std.proofs.lemmas.List.{length-map}
use Rattle.http_header.specs.FieldValue.{FieldValue}

pub first_is : (xs : List FieldValue) (v : FieldValue) → Some v ≡ slice_get xs 0 → (others : List (List ℕ)) × (map (λ w. w.bytes) xs ≡ v.bytes ∷ others)
first_is [] v e = absurd cc
first_is (x ∷ xs) v e = (map (λ w. w.bytes) xs, λ i. (w_of (sym e i)).bytes ∷ map (λ w. w.bytes) xs)
  where
    w_of : Option FieldValue → FieldValue
    w_of None = v
    w_of (Some w) = w

pub is_one : (b : Bool) (xs : List FieldValue) → (IsTrue b ↔ (length xs ≡ 1)) → b ≡ nat_eq (length (map (λ w. w.bytes) xs)) 1
is_one true xs h = sym (eq-eqb _ _ (length-map xs (λ w. w.bytes) ∙ h.0 refl))
is_one false xs h = sym (ne_eqb _ _ (λ e. true≢false (sym (h.1 (sym (length-map xs (λ w. w.bytes)) ∙ e)))))
