-- A number names one seat of a transaction.
use Rattle.std.specs.Prelude.{ℕ, List, [], ◌∷◌, Some, Bool, true, false, nat_eq, ◌+◌, ◌&&◌, if◌then◌else◌, ◌≡◌, ◌≤◌, ◌<◌, ◌⊎◌}
use Rattle.std.proofs.Common.{arith, inl, inr, sym, subst}
use Rattle.at_base.specs.declared.notice.Kind.{Kind}
use Rattle.at_base.specs.Names.{is_kind}
use Rattle.at_model.specs.Book.{Enlistment, Transaction}
use Rattle.at_model.specs.Due.{may_expire}
use Rattle.at_model.specs.Step.{find_seat}
use Rattle.model_laws.specs.BookBounds.{AreNumbered, SeatsRise}
use Rattle.agreement.specs.FinishedTransactions.{IsFinished}
use Rattle.settling.proofs.SeatPayments.{OnlyOne}

rise_from : (last : ℕ) (seats : List Enlistment) → AreNumbered last seats → SeatsRise last seats
rise_from last [] h = tt
rise_from last (s ∷ ss) (h, k) = (omega (arith, h), subst (λ n. SeatsRise n ss) (sym h) (rise_from (last + 1) ss k))

seats_rise : (t : Transaction) → AreNumbered 0 t.seats ⊎ ((may_expire t.phase ≡ false) × SeatsRise 0 t.seats) → SeatsRise 0 t.seats
seats_rise t (inl h) = rise_from 0 t.seats h
seats_rise t (inr h) = h.1

found_above : (last number : ℕ) (kind : Kind) (seats : List Enlistment) (s : Enlistment) → SeatsRise last seats → find_seat number kind seats ≡ Some s → last < s.number
found_above last number kind [] s h e = absurd cc
found_above last number kind (x ∷ xs) s (h, k) e = by_test (nat_eq x.number number && is_kind x.kind kind) (λ f. found_above x.number number kind xs s k f) e
  where
    by_test : (b : Bool) → (find_seat number kind xs ≡ Some s → x.number < s.number) → (if b then Some x else find_seat number kind xs) ≡ Some s → last < s.number
    by_test true rest f = let same : x ≡ s = cc in subst (λ y. last < y.number) same h
    by_test false rest f = omega (arith, h, rest f)

all_above : (last : ℕ) (seats : List Enlistment) (s : Enlistment) → SeatsRise last seats → s.number ≤ last → OnlyOne s seats
all_above last [] s h e = tt
all_above last (x ∷ xs) s (h, k) e = ((λ f. absurd (omega (arith, h, e, f))), all_above x.number xs s k (omega (arith, h, e)))

only_one : (last number : ℕ) (kind : Kind) (seats : List Enlistment) (s : Enlistment) → SeatsRise last seats → find_seat number kind seats ≡ Some s → OnlyOne s seats
only_one last number kind [] s h e = tt
only_one last number kind (x ∷ xs) s (h, k) e = by_test (nat_eq x.number number && is_kind x.kind kind) (λ f. only_one x.number number kind xs s k f) e
  where
    by_test : (b : Bool) → (find_seat number kind xs ≡ Some s → OnlyOne s xs) → (if b then Some x else find_seat number kind xs) ≡ Some s → OnlyOne s (x ∷ xs)
    by_test true rest f =
        let same : x ≡ s = cc in
        let low : s.number ≤ x.number = subst (λ y. y.number ≤ x.number) same (omega arith) in
        ((λ g. same), all_above x.number xs s k low)
    by_test false rest f = ((λ g. let above : x.number < s.number = found_above x.number number kind xs s k f in absurd (omega (arith, above, g))), rest f)

pub seat_alone : (t : Transaction) (number : ℕ) (kind : Kind) (s : Enlistment) → IsFinished t → find_seat number kind t.seats ≡ Some s → OnlyOne s t.seats
seat_alone t number kind s h found = only_one 0 number kind t.seats s (seats_rise t h.numbers) found
