-- What a transaction goes on to by itself: one argument over its phases, for whatever is watched of it.
use Rattle.std.proofs.Common.{ℕ, Option, Some, None, Bool, true, false, cond}
use Rattle.std.specs.List.{list_any}
use Rattle.at_base.specs.declared.epr.Epr.{Epr}
use Rattle.at_base.specs.declared.event.Moment.{Moment}
use Rattle.at_base.specs.declared.notice.Kind.{Kind}
use Rattle.at_base.specs.declared.notice.Kind.TheVariants as kinds
use Rattle.at_tables.specs.declared.cells.State.TheVariants as states
use Rattle.at_tables.specs.Names.{is_state}
use Rattle.at_model.specs.Book.{Transaction, Superior, Phase}
use Rattle.at_model.specs.Moves.{Change, Moving, stays}
use Rattle.at_model.specs.Seats.{all_left, answered, in_phase, is_of, is_prepared_durable, moved, sent_to}
use Rattle.at_model.specs.Abort.{Alone, Reason, abort, until_rolled_back}
use Rattle.at_model.specs.Phases.{advance, advance_in, all_committed, committed, durable_answered, go_durable, go_volatile, if_durable_answered, root_answered, sub_answered, volatile_answered, voted}
use Rattle.cell_laws.specs.NextStates.{Ends}

pub by_test : {A : Type 0} (P : A → Type 0) (b : Bool) (x y : A) → P x → P y → P (cond b x y)
by_test P true x y h k = h
by_test P false x y h k = k

-- What is watched stays good while it is asked, and comes to an end that is told where the transaction aborts, commits or
-- is forgotten.
pub record Watch (Good : Transaction → Type 0) (Told : Option Transaction → Type 0) : Type 0 where
  pub stay : (t : Transaction) → Good t → Told (Some t)
  pub gone : Told None
  pub asks : (m : Moment) (k : Kind) (t : Transaction) → Good t
      → Good (record t { seats = moved (is_of k states.Active) states.Preparing t.seats; sent = sent_to m.now t.sent t.seats (is_of k states.Active) })
  pub goes : (s : Option Superior) (p : Phase) (sent : Option ℕ) (t : Transaction) → Good t → Good (record t { superior = s; phase = p; sent = sent })
  pub aborts : (m : Moment) (reason : Reason) (g : Moving Transaction) → Good g.item → Told (abort m reason g).item
  pub commits : (m : Moment) (g : Moving Transaction) → Good g.item → Told (committed m g).item

module _ (Good : Transaction → Type 0) (Told : Option Transaction → Type 0) (w : Watch Good Told) where
  root_told : (m : Moment) (g : Moving Transaction) → Good g.item → Ends Told (root_answered m g)
  unfolding root_answered
  root_told m g h = (w.commits m g h, w.aborts m Alone g h)

  sub_told : (m : Moment) (s : Superior) (to : Option Epr) (g : Moving Transaction) → Good g.item → Ends Told (sub_answered m s to g)
  unfolding sub_answered voted
  sub_told m s None g h = w.aborts m Alone g h
  sub_told m s (Some to) g h =
      by_test (Ends Told) (list_any is_prepared_durable g.item.seats) _ _ (w.stay _ (w.goes _ Phase.Voted (Some m.now) g.item h), w.aborts m Alone g h) w.gone

  durable_told : (m : Moment) (s : Option Superior) (g : Moving Transaction) → Good g.item → Ends Told (durable_answered m s g)
  durable_told m None g h = root_told m g h
  durable_told m (Some s) g h = sub_told m s s.durable.coordinator g h

  if_durable_told : (m : Moment) (g : Moving Transaction) → Good g.item → Ends Told (if_durable_answered m g)
  if_durable_told m g h = by_test (Ends Told) (answered kinds.Durable g.item.seats) _ _ (durable_told m g.item.superior g h) (w.stay g.item h)

  phased : (p : Phase) (t : Transaction) → Good t → Good (in_phase p t)
  phased p t h = w.goes t.superior p t.sent t h

  go_durable_told : (m : Moment) (g : Moving Transaction) → Good g.item → Ends Told (go_durable m g)
  unfolding go_durable
  go_durable_told m g h = if_durable_told m _ (w.asks m kinds.Durable (in_phase Phase.Durable g.item) (phased Phase.Durable g.item h))

  volatile_told : (m : Moment) (s : Option Superior) (g : Moving Transaction) → Good g.item → Ends Told (volatile_answered m s g)
  unfolding volatile_answered
  volatile_told m None g h = go_durable_told m g h
  volatile_told m (Some s) g h =
      by_test (Ends Told) (is_state s.volatile.state states.Preparing) _ _ (w.stay _ (w.goes _ Phase.Active g.item.sent g.item h))
      (by_test (Ends Told) (is_state s.durable.state states.Preparing) _ _ (go_durable_told m g h) (w.stay g.item h))

  rolled_told : (g : Moving Transaction) → Good g.item → Told (until_rolled_back g).item
  rolled_told g h = by_test (λ (c : Change Transaction). Told c.item) (list_any _ g.item.seats) _ _ (w.stay g.item h) w.gone

  advance_told : (m : Moment) (p : Phase) (g : Moving Transaction) → Good g.item → Ends Told (advance_in m p g)
  unfolding advance_in all_committed
  advance_told m Phase.Registering g h = w.stay g.item h
  advance_told m Phase.Active g h = w.stay g.item h
  advance_told m Phase.Volatile g h = by_test (Ends Told) (answered kinds.Volatile g.item.seats) _ _ (volatile_told m g.item.superior g h) (w.stay g.item h)
  advance_told m Phase.Durable g h = if_durable_told m g h
  advance_told m Phase.Voted g h = w.stay g.item h
  advance_told m Phase.Committing g h = by_test (Ends Told) (all_left g.item.seats) _ _ w.gone (w.stay g.item h)
  advance_told m Phase.Aborting g h = rolled_told g h

  pub advances : (m : Moment) (g : Moving Transaction) → Good g.item → Ends Told (advance m g)
  advances m g h = advance_told m g.item.phase g h

  pub goes_volatile : (m : Moment) (g : Moving Transaction) → Good g.item → Ends Told (go_volatile m g)
  unfolding go_volatile
  goes_volatile m g h = advances m _ (w.asks m kinds.Volatile (in_phase Phase.Volatile g.item) (phased Phase.Volatile g.item h))
