-- What a search finds.
use Rattle.std.specs.Prelude.{ℕ, List, [], ◌∷◌, Some, Bool, true, false, nat_eq, if◌then◌else◌, ◌&&◌, find, ◌≡◌, refl}
use Rattle.std.proofs.Common.{inl, inr, sym, subst}
use Rattle.std.proofs.lemmas.Bool.{eqb-true}
use Rattle.at_base.specs.declared.notice.Kind.{Kind}
use Rattle.at_base.specs.Names.{is_kind}
use Rattle.at_model.specs.Book.{Enlistment}
use Rattle.at_model.specs.Step.{find_seat}
use Rattle.model_laws.specs.Agreement.{IsIn}
use Rattle.model_laws.proofs.DecisionLaws.{same_kind}

pub found_by : {A : Type 0} (p : A → Bool) (xs : List A) (x : A) → find p xs ≡ Some x → (p x ≡ true) × IsIn x xs
found_by p [] x f = absurd cc
found_by {A = A} p (y ∷ ys) x f = by_test (λ h. found_by p ys x h) (p y) refl f
  where
    here : y ≡ x → p y ≡ true → (p x ≡ true) × IsIn x (y ∷ ys)
    here e g = (subst (λ z. p z ≡ true) e g, inl (sym e))

    by_test : (find p ys ≡ Some x → (p x ≡ true) × IsIn x ys) → (b : Bool) → p y ≡ b → (if b then Some y else find p ys) ≡ Some x → (p x ≡ true) × IsIn x (y ∷ ys)
    by_test rest true g h = let same : y ≡ x = cc in here same g
    by_test rest false g h = let k : (p x ≡ true) × IsIn x ys = rest h in (k.0, inr k.1)

pub both_true : (a b : Bool) → (a && b) ≡ true → (a ≡ true) × (b ≡ true)
both_true true b e = (refl, e)
both_true false b e = absurd cc

pub found_seat : (number : ℕ) (kind : Kind) (seats : List Enlistment) (s : Enlistment) → find_seat number kind seats ≡ Some s → (s.number ≡ number) × (s.kind ≡ kind) × IsIn s seats
found_seat number kind seats s f =
    let (test, i) = found_by (λ x. nat_eq x.number number && is_kind x.kind kind) seats s f in
    let (n, k) = both_true (nat_eq s.number number) (is_kind s.kind kind) test in
    (eqb-true s.number number n, same_kind s.kind kind k, i)
