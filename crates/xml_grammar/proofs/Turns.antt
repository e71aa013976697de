-- What a loop over a list that it owns has still to come; lists that are empty; what stands behind a place; and what a set had.
use Rattle.std.proofs.Common.{◌≡◌, refl, sym, ap, ◌∙◌, subst, arith, ℕ, suc, ◌-◌, ◌<◌, ◌≤◌, drop, drop-cons, get_or, List, [], ◌∷◌, ◌++◌, append_assoc, Option, Some, length, nat_eq, Bool, true, false, not}
use Rattle.std.proofs.lemmas.Bool.{eqb-true}
use Rattle.std.specs.Vec.Iter.{into_iter_items, into_iter_steps}
use Rattle.std.specs.declared.vec.IntoIter.{IntoIter}

pub turn_rest : {A Z : Type 0} (s t : IntoIter A Z) (r : Option A) (x : A) → r ≡ Some x → into_iter_steps s r t → into_iter_items s ≡ x ∷ into_iter_items t
turn_rest s t r x e h = (subst (λ o. into_iter_steps s o t) e h).0

pub turn_all : {A Z : Type 0} (s t : IntoIter A Z) (r : Option A) (x : A) (xs all : List A) → r ≡ Some x → into_iter_steps s r t → xs ++ into_iter_items s ≡ all → xs ++ x ∷ into_iter_items t ≡ all
turn_all s t r x xs all e h k = ap (λ v. xs ++ v) (sym (turn_rest s t r x e h)) ∙ k

pub turn_next : {A Z : Type 0} (s t : IntoIter A Z) (r : Option A) (x : A) (xs all : List A) → r ≡ Some x → into_iter_steps s r t → xs ++ into_iter_items s ≡ all
    → (xs ++ x ∷ []) ++ into_iter_items t ≡ all
turn_next s t r x xs all e h k = append_assoc xs (x ∷ []) (into_iter_items t) ∙ turn_all s t r x xs all e h k

pub no_items : {A : Type 0} (xs : List A) → nat_eq (length xs) 0 ≡ true → xs ≡ []
no_items [] e = refl
no_items (x ∷ xs) e = absurd (omega (arith, eqb-true (length (x ∷ xs)) 0 e))

pub some_items : {A : Type 0} (xs : List A) → nat_eq (length xs) 0 ≡ false → xs ≡ [] → ⊥
some_items [] e f = cc
some_items (x ∷ xs) e f = cc

pub one_more_behind : {A : Type 0} (xs : List A) (n : ℕ) (x : A) → 0 < n → n ≤ length xs → x ≡ get_or xs (n - 1) x → drop (n - 1) xs ≡ x ∷ drop n xs
one_more_behind xs n x h k e =
    let next : suc (n - 1) ≡ n = omega arith in
    drop-cons xs (n - 1) x (omega arith) ∙ (ap (λ y. y ∷ drop (suc (n - 1)) xs) (sym e) ∙ ap (λ m. x ∷ drop m xs) next)

pub was_in : (r b : Bool) → r ≡ not b → r ≡ false → b ≡ true
was_in r true e f = refl
was_in r false e f = sym f ∙ e

pub was_out : (r b : Bool) → r ≡ not b → r ≡ true → b ≡ false
was_out r true e f = sym f ∙ e
was_out r false e f = refl
