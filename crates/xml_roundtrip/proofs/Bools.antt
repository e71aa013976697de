-- Tests, taken apart and put together.
use Rattle.std.proofs.Common.{◌≡◌, refl, sym, subst, ◌∙◌, arith, ℕ, ◌≤◌, ◌<◌, List, [], ◌∷◌, ◌++◌, Bool, true, false, not, ◌&&◌, nat_eq}
use Rattle.std.proofs.lemmas.Bool.{eqb-true, eq-eqb}
use Rattle.std.proofs.lemmas.List.Folds.{list_all-append}
use Rattle.std.specs.List.{list_all}

pub and_true : (a b : Bool) → (a && b) ≡ true → (a ≡ true) × (b ≡ true)
and_true true b h = (refl, h)
and_true false b h = (cc, cc)

pub both_true : (a b : Bool) → a ≡ true → b ≡ true → (a && b) ≡ true
both_true true b h k = k
both_true false b h k = cc

pub not_true : (a : Bool) → not a ≡ true → a ≡ false
not_true true h = cc
not_true false h = refl

pub not_false : (a : Bool) → a ≡ false → not a ≡ true
not_false true h = cc
not_false false h = refl

pub apart : (b : Bool) → b ≡ true → b ≡ false → ⊥
apart true h k = cc
apart false h k = cc

pub false_unless : (b : Bool) → (b ≡ true → ⊥) → b ≡ false
false_unless true h = absurd (h refl)
false_unless false h = refl

-- two tests of the same fact
pub tells_same : (a b : Bool) → (a ≡ true → b ≡ true) → (b ≡ true → a ≡ true) → a ≡ b
tells_same true b h k = sym (h refl)
tells_same false true h k = k refl
tells_same false false h k = refl

pub equal_numbers : (a b : ℕ) → nat_eq a b ≡ true → a ≡ b
equal_numbers a b e = eqb-true a b e

-- a test that one number fails fails at each number that is that one
pub differs : (p : ℕ → Bool) (a c : ℕ) → p a ≡ false → p c ≡ true → nat_eq c a ≡ false
differs p a c e h = false_unless (nat_eq c a) (λ k. apart (p c) h (subst (λ v. p v ≡ false) (sym (equal_numbers c a k)) e))

pub turned : (a b : ℕ) → nat_eq a b ≡ false → nat_eq b a ≡ false
turned a b h = false_unless (nat_eq b a) (λ k. apart (nat_eq a b) (eq-eqb a b (sym (equal_numbers b a k))) h)

pub higher : (k c : ℕ) → k < 128 → 128 ≤ c → nat_eq c k ≡ false
higher k c h l = false_unless (nat_eq c k) (λ e. let same = equal_numbers c k e in absurd (omega arith))

pub all_both : {X : Type 0} (p : X → Bool) (xs ys : List X) → list_all p xs ≡ true → list_all p ys ≡ true → list_all p (xs ++ ys) ≡ true
all_both p xs ys h k = list_all-append p xs ys ∙ both_true (list_all p xs) (list_all p ys) h k

pub all_parts : {X : Type 0} (p : X → Bool) (xs ys : List X) → list_all p (xs ++ ys) ≡ true → (list_all p xs ≡ true) × (list_all p ys ≡ true)
all_parts p xs ys h = and_true (list_all p xs) (list_all p ys) (sym (list_all-append p xs ys) ∙ h)

-- what follows from a test at each place
pub all_imply : {X : Type 0} (p q : X → Bool) → ((x : X) → p x ≡ true → q x ≡ true) → (xs : List X) → list_all p xs ≡ true → list_all q xs ≡ true
all_imply p q f [] h = refl
all_imply p q f (x ∷ xs) h = let (a, b) = and_true (p x) (list_all p xs) h in both_true (q x) (list_all q xs) (f x a) (all_imply p q f xs b)
