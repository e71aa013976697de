-- What counts say of a list, and how they change as one seat comes or moves.
use Rattle.std.proofs.Common.{ℕ, Bool, List, [], ◌∷◌, ◌++◌, ◌≡◌, ◌<◌, ◌≤◌, ◌+◌, ◌-◌, ◌^◌, ◌∙◌, refl, sym, ap, arith, not, true, false, suc, zero, length, take, get_or, slice_set}
use Rattle.std.specs.Prelude.{nat_eq, count_by, if◌then◌else◌, slice_index_or}
use Rattle.std.specs.List.{list_any}
use Rattle.std.proofs.lemmas.Grind.{common_steps}
use Rattle.std.proofs.lemmas.List.Sums.{count_by-le-length, sum_by-append, sum_by-set}
use Rattle.at_base.specs.Numbers.{Numbers}
use Rattle.at_base.specs.declared.notice.Kind.{Kind}
use Rattle.at_base.specs.declared.notice.Kind.TheVariants as kinds
use Rattle.at_tables.specs.declared.cells.State.{State}
use Rattle.at_tables.specs.declared.cells.State.TheVariants as states
use Rattle.at_model.specs.Book.{Enlistment}
use Rattle.at_model.specs.Due.{is_some_post, seats_again}
use Rattle.at_model.specs.Seats.{all_left, answered, in_state, move_if, moved}
use Rattle.transaction_at.specs.Counts.{IsSmall, counted, less, marks, more, one, unanswered_of}
use Rattle.transaction_at.specs.Groups.{belongs, stands}
use Rattle.transaction_at.specs.Numbers.{is_numbered}
use Rattle.transaction_at.specs.declared.counts.Counts.{Counts}
use Rattle.transaction_at.specs.declared.seats.Group.{Group}
use Rattle.transaction_at.specs.declared.seats.Group.TheVariants as groups

-- what a group asks of a seat, it asks of its kind and its state
pub stands_so : (group : Group) (s : Enlistment) → stands group s.kind s.state ≡ belongs group s
stands_so groups.Open s = refl
stands_so (groups.In state) s = refl
stands_so (groups.Of kind state) s = refl
stands_so (groups.Unanswered kind) s = refl
stands_so groups.DurableStaying s = refl
stands_so groups.Asked s = refl

-- nobody is counted where nobody passes the test

none_counted : {X : Type 0} (test : X → Bool) (xs : List X) → nat_eq (count_by test xs) 0 ≡ not (list_any test xs)
none_counted test [] = refl
none_counted test (x ∷ xs) = grind (arith, common_steps, none_counted test xs)

pub none_unanswered : (kind : Kind) (seats : List Enlistment) → nat_eq (unanswered_of kind (counted seats)) 0 ≡ answered kind seats
none_unanswered kinds.Volatile seats = none_counted (belongs (groups.Unanswered kinds.Volatile)) seats
none_unanswered kinds.Durable seats = none_counted (belongs (groups.Unanswered kinds.Durable)) seats

pub none_staying : (seats : List Enlistment) → nat_eq (counted seats).staying 0 ≡ all_left seats
none_staying seats = none_counted (belongs groups.DurableStaying) seats

pub none_aborting : (seats : List Enlistment) → not (nat_eq (counted seats).aborting 0) ≡ list_any (in_state states.Aborting) seats
none_aborting seats = grind (arith, common_steps, none_counted (belongs (groups.In states.Aborting)) seats)

any_again : (base : List ℕ) (id : Numbers) (seats : List Enlistment) → list_any (belongs groups.Asked) seats ≡ is_some_post (seats_again base id seats)
any_again base id [] = refl
any_again base id (s ∷ ss) = by s.state (any_again base id ss)
  where
    by : (state : State) → list_any (belongs groups.Asked) ss ≡ is_some_post (seats_again base id ss) → list_any (belongs groups.Asked) (record s { state = state } ∷ ss) ≡ is_some_post (seats_again base id (record s { state = state } ∷ ss))
    by states.None e = e
    by states.Registering e = e
    by states.Active e = e
    by states.Preparing e = refl
    by states.Prepared e = e
    by states.PreparedSuccess e = e
    by states.Committing e = refl
    by states.Aborting e = refl
    by states.Completing e = e
    by states.Done e = e

pub none_asked : (base : List ℕ) (id : Numbers) (seats : List Enlistment) → not (nat_eq (counted seats).asked 0) ≡ is_some_post (seats_again base id seats)
none_asked base id seats = grind (arith, common_steps, none_counted (belongs groups.Asked) seats, any_again base id seats)

as_long : (test : Enlistment → Bool) (state : State) (ss : List Enlistment) → length (moved test state ss) ≡ length ss
as_long test state [] = refl
as_long test state (s ∷ ss) = ap suc (as_long test state ss)

-- counts are small

one_small : (b : Bool) → one b < 2 ^ 63
one_small true = omega arith
one_small false = omega arith

pub small_marks : (kind : Kind) (state : State) → IsSmall (marks kind state)
unfolding IsSmall
small_marks kind state = (one_small _, one_small _, one_small _, one_small _, one_small _)

few : {X : Type 0} (test : X → Bool) (xs : List X) → length xs < 2 ^ 63 → count_by test xs < 2 ^ 63
few test xs h = omega (arith, count_by-le-length test xs)

pub small : (seats : List Enlistment) → length seats < 2 ^ 63 → IsSmall (counted seats)
unfolding IsSmall
small seats h = (few _ seats h, few _ seats h, few _ seats h, few _ seats h, few _ seats h)

length_taken : {X : Type 0} (n : ℕ) (xs : List X) → length (take n xs) ≤ n
length_taken zero xs = omega arith
length_taken (suc n) [] = omega arith
length_taken (suc n) (x ∷ xs) = omega (arith, length_taken n xs)

pub small_taken : (c : Counts) (n : ℕ) (seats : List Enlistment) → c ≡ counted (take n seats) → n < 2 ^ 63 → IsSmall c
small_taken c n seats e h = rw e (small (take n seats) (omega (arith, length_taken n seats)))

pub small_taken_moved : (test : Enlistment → Bool) (state : State) (c : Counts) (n : ℕ) (seats : List Enlistment) → c ≡ counted (moved test state (take n seats)) → n < 2 ^ 63 → IsSmall c
small_taken_moved test state c n seats e h = rw e (small (moved test state (take n seats)) (rw (as_long test state (take n seats)) (omega (arith, length_taken n seats))))

-- one seat more

pushed : {X : Type 0} (test : X → Bool) (xs : List X) (x : X) → count_by test (xs ++ x ∷ []) ≡ count_by test xs + one (test x)
pushed test xs x = sum_by-append (λ y. one (test y)) xs (x ∷ []) ∙ omega arith

pub counted_more : (seats : List Enlistment) (s : Enlistment) → counted (seats ++ s ∷ []) ≡ more (counted seats) (marks s.kind s.state)
counted_more seats s = λ i. record {
  volatile = pushed (belongs (groups.Unanswered kinds.Volatile)) seats s i;
  durable = pushed (belongs (groups.Unanswered kinds.Durable)) seats s i;
  staying = pushed (belongs groups.DurableStaying) seats s i;
  aborting = pushed (belongs (groups.In states.Aborting)) seats s i;
  asked = pushed (belongs groups.Asked) seats s i;
}

moved_behind : (test : Enlistment → Bool) (state : State) (seats : List Enlistment) (s : Enlistment) → moved test state (seats ++ s ∷ []) ≡ moved test state seats ++ move_if test state s ∷ []
moved_behind test state [] s = refl
moved_behind test state (x ∷ xs) s = ap (λ ts. move_if test state x ∷ ts) (moved_behind test state xs s)

pub moved_more : (number : ℕ) (state : State) (seats : List Enlistment) (s : Enlistment)
    → counted (moved (is_numbered number) state (seats ++ s ∷ [])) ≡ more (counted (moved (is_numbered number) state seats)) (marks s.kind (if is_numbered number s then state else s.state))
moved_more number state seats s =
    ap counted (moved_behind (is_numbered number) state seats s)
    ∙ counted_more (moved (is_numbered number) state seats) (move_if (is_numbered number) state s)

-- one seat in another state

changed : (group : Group) (n : ℕ) (state : State) (s : Enlistment) (seats : List Enlistment) → n < length seats → s ≡ get_or seats n s
    → count_by (belongs group) (slice_set seats n (record s { state = state })) ≡ (count_by (belongs group) seats + one (stands group s.kind state)) - one (stands group s.kind s.state)
changed group n state s seats l here =
    let sums = sum_by-set (λ (x : Enlistment). one (belongs group x)) seats n (record s { state = state }) s l in
    omega (arith, sums, ap (λ (x : Enlistment). one (belongs group x)) here, ap one (stands_so group s), ap one (stands_so group (record s { state = state })))

pub counted_state : (n : ℕ) (state : State) (s : Enlistment) (seats : List Enlistment) → n < length seats → s ≡ get_or seats n s
    → counted (slice_set seats n (record (slice_index_or seats n s) { state = state })) ≡ less (more (counted seats) (marks s.kind state)) (marks s.kind s.state)
counted_state n state s seats l here =
    ap (λ (x : Enlistment). counted (slice_set seats n (record x { state = state }))) (sym here)
    ∙ λ i. record {
      volatile = changed (groups.Unanswered kinds.Volatile) n state s seats l here i;
      durable = changed (groups.Unanswered kinds.Durable) n state s seats l here i;
      staying = changed groups.DurableStaying n state s seats l here i;
      aborting = changed (groups.In states.Aborting) n state s seats l here i;
      asked = changed groups.Asked n state s seats l here i;
    }
