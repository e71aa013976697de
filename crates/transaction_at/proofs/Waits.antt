-- What is done where a phase still waits, and where with a seat's move the transaction ends.
use Rattle.std.proofs.Common.{Bool, true, false, ◌≡◌, refl, ap, None, []}
use Rattle.std.specs.Prelude.{if◌then◌else◌, not}
use Rattle.std.specs.List.{list_any}
use Rattle.at_base.specs.declared.event.Moment.{Moment}
use Rattle.at_base.specs.declared.record.Record.TheVariants as records
use Rattle.at_tables.specs.declared.cells.State.TheVariants as states
use Rattle.at_model.specs.Abort.{until_rolled_back}
use Rattle.at_model.specs.Book.{Phase, Transaction}
use Rattle.at_model.specs.Moves.{Goes, Records, begin, forgotten, stays}
use Rattle.at_model.specs.Phases.{advance, advance_in, all_committed, durable_answered, ended_posts, volatile_answered}
use Rattle.at_model.specs.Seats.{all_left, in_state}
use Rattle.transaction_at.specs.Waits.{has_come}

rolled_back : (t : Transaction) → not (list_any (in_state states.Aborting) t.seats) ≡ false → until_rolled_back (begin t) ≡ stays (begin t)
rolled_back t e = by (list_any (in_state states.Aborting) t.seats) e
  where
    by : (b : Bool) → not b ≡ false → (if b then stays (begin t) else forgotten (begin t)) ≡ stays (begin t)
    by true e = refl
    by false e = cc

pub waits_on : (m : Moment) (t : Transaction) → has_come t.phase t.seats ≡ false → advance m (begin t) ≡ Goes (stays (begin t))
unfolding advance_in
waits_on m t e = by t.phase e
  where
    by : (p : Phase) → has_come p t.seats ≡ false → advance_in m p (begin t) ≡ Goes (stays (begin t))
    by Phase.Registering e = refl
    by Phase.Active e = refl
    by Phase.Volatile e = ap (λ b. if b then volatile_answered m t.superior (begin t) else Goes (stays (begin t))) e
    by Phase.Durable e = ap (λ b. if b then durable_answered m t.superior (begin t) else Goes (stays (begin t))) e
    by Phase.Voted e = refl
    by Phase.Committing e = ap (λ b. if b then all_committed m (begin t) else Goes (stays (begin t))) e
    by Phase.Aborting e = ap Goes (rolled_back t e)

pub all_left_ends : (m : Moment) (t : Transaction) → all_left t.seats ≡ true
    → advance_in m Phase.Committing (begin t) ≡ Records (records.Ended t.id) (record { item = None; posts = ended_posts m.base t.id t.superior; effects = [] }) None
unfolding advance_in all_committed
all_left_ends m t e = ap (λ b. if b then all_committed m (begin t) else Goes (stays (begin t))) e

pub rolled_back_ends : (m : Moment) (t : Transaction) → not (list_any (in_state states.Aborting) t.seats) ≡ true
    → advance_in m Phase.Aborting (begin t) ≡ Goes (record { item = None; posts = []; effects = [] })
unfolding advance_in
rolled_back_ends m t e = ap Goes (by (list_any (in_state states.Aborting) t.seats) e)
  where
    by : (b : Bool) → not b ≡ true → (if b then stays (begin t) else forgotten (begin t)) ≡ forgotten (begin t)
    by true e = cc
    by false e = refl
