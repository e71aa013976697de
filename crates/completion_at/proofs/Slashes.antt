-- A base without a slash at its end.
use Rattle.std.proofs.Common.{ℕ, List, [], ◌∷◌, ◌++◌, Bool, true, false, ◌≡◌, ◌≢◌, refl, ap, nat_eq, if◌then◌else◌}
use Rattle.std.proofs.lemmas.Bool.{eqb-true}
use Rattle.endpoints.specs.Addresses.{without_slash}

-- one slash is cut
pub cut : (xs : List ℕ) → without_slash (xs ++ 47 ∷ []) ≡ xs
cut [] = refl
cut (a ∷ []) = refl
cut (a ∷ (b ∷ xs)) = ap (λ ys. a ∷ ys) (cut (b ∷ xs))

one : (b : ℕ) (same : Bool) → nat_eq b 47 ≡ same → b ∷ [] ≢ 47 ∷ [] → (if same then [] else b ∷ []) ≡ b ∷ []
one b false e h = refl
one b true e h = absurd (h (ap (λ x. x ∷ []) (eqb-true b 47 e)))

-- where there is none, nothing is
pub left : (xs : List ℕ) → ((front : List ℕ) → xs ≢ front ++ 47 ∷ []) → without_slash xs ≡ xs
left [] h = refl
left (b ∷ []) h = one b (nat_eq b 47) refl (h [])
left (b ∷ (c ∷ xs)) h = ap (λ ys. b ∷ ys) (left (c ∷ xs) (λ front e. h (b ∷ front) (ap (λ ys. b ∷ ys) e)))
