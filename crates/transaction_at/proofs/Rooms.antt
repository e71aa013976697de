-- Room for one seat more.
use Rattle.std.proofs.Common.{ℕ, List, [], ◌∷◌, ◌++◌, Bool, true, false, ◌≡◌, ◌≤◌, ◌<◌, ◌+◌, ◌∙◌, refl, sym, ap, subst, length, arith}
use Rattle.std.specs.Prelude.{nat_lt}
use Rattle.std.proofs.lemmas.Grind.{common_steps}
use Rattle.at_model.specs.Book.{Enlistment}
use Rattle.at_tables.specs.declared.cells.State.{State}
use Rattle.at_model.specs.Seats.{moved}
use Rattle.transaction_at.specs.Counts.{counted, marks, more}
use Rattle.transaction_at.specs.Filed.{IsFiled}
use Rattle.transaction_at.specs.Holders.{IsIndex, holder_of, holders, rank}
use Rattle.transaction_at.specs.Numbers.{IsRising}
use Rattle.transaction_at.specs.Rooms.{has_room, room_of}
use Rattle.transaction_at.specs.declared.counts.Counts.{Counts}
use Rattle.transaction_at.proofs.SeatCounts.{counted_more}
use Rattle.transaction_at.proofs.SeatHolders.{index_behind, index_moved}
use Rattle.transaction_at.proofs.SeatNumbers.{as_long, rising_moved}

pub room_kept : (n : ℕ) → n < room_of n → room_of (n + 1) ≡ room_of n
room_kept n l = grind (arith, common_steps)

pub room_enough : (n : ℕ) → n + 1 ≤ room_of (n + 1)
room_enough n = grind (arith, common_steps)

pub room_brought : (seats : List Enlistment) (room : ℕ) → (nat_lt (length seats) (room_of (length seats)) ≡ false → room ≡ room_of (length seats + 1)) → has_room room seats ≡ true
room_brought seats room h = grind (arith, common_steps, h)

longer : (xs : List Enlistment) (x : Enlistment) → length (xs ++ x ∷ []) ≡ length xs + 1
longer [] x = refl
longer (y ∷ ys) x = omega (arith, longer ys x)

-- counts, order and room of a list, as one seat comes behind the others, and as seats move

pub kept_pushed : (ss ts : List Enlistment) (s : Enlistment) (before after : Counts) (rises : Bool) (most room : ℕ) → ts ≡ ss ++ s ∷ [] → before ≡ counted ss → after ≡ more before (marks s.kind s.state)
    → (rises ≡ true → IsRising (ss ++ s ∷ [])) → room_of (length ss + 1) ≤ most → room ≡ most
    → (after ≡ counted ts) × (rises ≡ true → IsRising ts) × (room_of (length ts) ≤ room)
kept_pushed ss ts s before after rises most room grown was is up le same = (
  is ∙ ap (λ k. more k (marks s.kind s.state)) was ∙ sym (ap counted grown ∙ counted_more ss s),
  λ e. subst IsRising (sym grown) (up e),
  subst (λ n. room_of n ≤ room) (sym (ap length grown ∙ longer ss s)) (subst (λ n. room_of (length ss + 1) ≤ n) (sym same) le),
)

pub kept_moved : (test : Enlistment → Bool) (state : State) (ss ts : List Enlistment) (after : Counts) (rises : Bool) (most room : ℕ) → ts ≡ moved test state ss → after ≡ counted (moved test state ss)
    → (rises ≡ true → IsRising ss) → room_of (length ss) ≤ most → room ≡ most
    → (after ≡ counted ts) × (rises ≡ true → IsRising ts) × (room_of (length ts) ≤ room)
kept_moved test state ss ts after rises most room same is up le kept = (
  is ∙ ap counted (sym same),
  λ e. subst IsRising (sym same) (rising_moved test state ss (up e)),
  subst (λ n. room_of n ≤ room) (sym (ap length same ∙ as_long test state ss)) (subst (λ n. room_of (length ss) ≤ n) (sym kept) le),
)

pub kept_places : (test : Enlistment → Bool) (state : State) (places : List ℕ) (ss ts : List Enlistment) (room : ℕ) → ts ≡ moved test state ss
    → IsIndex places ss → length places ≤ length ss → room_of (length ss) ≤ room → IsIndex places ts × (length places ≤ length ts) × (room_of (length ts) ≤ room)
kept_places test state places ss ts room same index few le = (
  subst (IsIndex places) (sym same) (index_moved test state places ss index),
  subst (λ n. length places ≤ n) (sym (ap length same ∙ as_long test state ss)) few,
  subst (λ n. room_of n ≤ room) (sym (ap length same ∙ as_long test state ss)) le,
)

pub kept_noted : (ss us ts : List Enlistment) (s t : Enlistment) (places noted : List ℕ) (most room : ℕ) → ts ≡ ss ++ s ∷ [] → us ≡ ss → t ≡ s → IsFiled rank noted (holders us ++ holder_of t ∷ [])
    → length noted ≤ length places + 1 → length places ≤ length ss → room_of (length ss + 1) ≤ most → most ≤ room → IsIndex noted ts × (length noted ≤ length ts) × (room_of (length ts) ≤ room)
kept_noted ss us ts s t places noted most room grown same seat filed more few le wide =
    let long : length ts ≡ length ss + 1 = ap length grown ∙ longer ss s in (
      subst (IsIndex noted) (sym grown) (index_behind noted ss s (subst (λ x. IsFiled rank noted (holders ss ++ holder_of x ∷ [])) seat (subst (λ xs. IsFiled rank noted (holders xs ++ holder_of t ∷ [])) same filed))),
      omega (arith, long, more, few),
      subst (λ n. room_of n ≤ room) (sym long) (omega (arith, le, wide)),
    )
