-- The world of the schedule of a seed is that of a run, line by line.
use Rattle.std.proofs.Common.{ℕ, zero, suc, ◌+◌, ◌-◌, ◌≡◌, refl, List, [], ◌∷◌, ◌++◌, length, ap, ◌∙◌, arith, subst, sym}
use Rattle.std.specs.Prelude.{Option, Some, None, option_map}
use Rattle.at_base.specs.declared.event.Local.TheVariants as locals
use Rattle.at_model.specs.Views.{up, deliver_to, tick_at, request, begin_at, interpose_at, work_at, commit_at}
use Rattle.at_model.specs.World.{Crash, HaveOwnAddresses, World, WorldEvent, nth, opening, run_on, world_step, example_hosts}
use Rattle.model_laws.specs.Agreement.{Agrees, HasOneSuperior, IsAgreed, IsBehindAnswers, IsToldTruly}
use Rattle.model_laws.specs.MadeIds.{MakesNoIdTwice}
use Rattle.model_laws.specs.ReachedWorlds.{ExamplesAreApart}
use Rattle.model_laws.specs.Registrations.{EnlistsUnderOne}
use Rattle.schedules.specs.Generator.{made}
use Rattle.schedules.specs.declared.line.Line.{Line}
use Rattle.schedules.specs.declared.line.Line.TheVariants as lines
use Rattle.replay_cmd.specs.Deliveries.{lowest, yes_at}
use Rattle.replay_cmd.specs.Laws.{IsOfRun, IsSafe, MadeWorldsAreSafe}
use Rattle.replay_cmd.specs.MadeCourses.{Course, all_taken, all_up, begun, delivered_to, delivers_lowest, delivers_where, flushes, happens, taken, world_made}
use Rattle.replay_cmd.specs.ReportOf.{receiver_in}

run_append : (w : World) (es : List WorldEvent) (e : WorldEvent) → run_on w (es ++ e ∷ []) ≡ world_step (run_on w es) e
run_append w [] e = refl
run_append w (x ∷ es) e = run_append (world_step w x) es e

-- what holds behind each event, of a world and the events that brought it there, holds behind each line
module _ (P : World → List WorldEvent → Type 0) (step : (w : World) (es : List WorldEvent) (e : WorldEvent) → P w es → P (world_step w e) (es ++ e ∷ [])) where
  abbrev pub Holds : Course → Type 0
  Holds c = P c.world c.events

  happen_on : (e : WorldEvent) (c : Course) → Holds c → Holds (happens e c)
  happen_on e c r = step c.world c.events e r

  deliver_on : (k : ℕ) (receiver : Option (Option ℕ)) (c : Course) → Holds c → Holds (delivered_to k receiver c)
  deliver_on k None c r = r
  deliver_on k (Some None) c r = r
  deliver_on k (Some (Some n)) c r = happen_on (deliver_to n k) (record c { delivered = yes_at (k - 1) c.delivered }) r

  where_on : (number : Option ℕ) (c : Course) → Holds c → Holds (delivers_where number c)
  where_on None c r = r
  where_on (Some k) c r = deliver_on k (option_map receiver_in (nth k c.world.posted)) c r

  pub flush_on : (most : ℕ) (c : Course) → Holds c → Holds (flushes most c)
  flush_on zero c r = r
  flush_on (suc most) c r = flush_on most (delivers_lowest c) (where_on (lowest (length c.world.posted) 1 c.delivered) c r)

  take_on : (line : Line) (c : Course) → Holds c → Holds (taken line c)
  take_on (lines.Nodes n) c r = r
  take_on (lines.Begin n coordinator ms) c r = happen_on (begin_at n coordinator ms) c r
  take_on (lines.Interpose n activity coordinator) c r = happen_on (interpose_at n activity coordinator) c r
  take_on (lines.Work n activity service kind vote) c r = happen_on (work_at n activity service kind vote) c r
  take_on (lines.Commit n activity) c r = happen_on (commit_at n activity) c r
  take_on (lines.Rollback n activity) c r = happen_on (request n (locals.Rollback activity)) c r
  take_on (lines.Deliver k) c r = deliver_on k (option_map receiver_in (nth k c.world.posted)) c r
  take_on (lines.Flush most) c r = flush_on most c r
  take_on (lines.Tick n ms) c r = happen_on (tick_at n ms) c r
  take_on (lines.Crash n) c r = happen_on (Crash n) c r
  take_on (lines.Up n) c r = happen_on (up n) c r
  take_on (lines.Stop n call left) c r = r
  take_on (lines.Fail n call) c r = r
  take_on (lines.Inject n digits) c r = r

  pub all_on : (all : List Line) (c : Course) → Holds c → Holds (all_taken all c)
  all_on [] c r = r
  all_on (line ∷ rest) c r = all_on rest (taken line c) (take_on line c r)

  pub up_on : (left n : ℕ) (c : Course) → Holds c → Holds (all_up left n c)
  up_on zero n c r = r
  up_on (suc left) n c r = up_on left (n + 1) (happens (up n) c) (happen_on (up n) c r)

-- it is that of a run

abbrev OfRun : World → List WorldEvent → Type 0
OfRun w es = IsOfRun 4 w

run_step : (w : World) (es : List WorldEvent) (e : WorldEvent) → OfRun w es → OfRun (world_step w e) (es ++ e ∷ [])
run_step w es e r = record {
  events = r.events ++ e ∷ [];
  run = ap (λ v. world_step v e) r.run ∙ sym (run_append (opening (example_hosts 4)) r.events e);
}

made_run : (seed steps : ℕ) → IsOfRun 4 (world_made seed steps)
made_run seed steps =
    all_on OfRun run_step (made seed steps) (begun 4)
    (up_on OfRun run_step 4 1 (record { world = opening (example_hosts 4); events = []; delivered = [] }) (record { events = []; run = refl }))

-- and what holds of each run holds of it

safe_run : (count : ℕ) (w : World) → IsOfRun count w → HaveOwnAddresses (example_hosts count) → Agrees → EnlistsUnderOne → MakesNoIdTwice → IsSafe count w
safe_run count w r apart agrees superior made = record {
  of_run = r;
  agreed = subst IsAgreed (sym r.run) (agrees.agreed (example_hosts count) r.events apart);
  behind = subst IsBehindAnswers (sym r.run) (agrees.behind (example_hosts count) r.events apart);
  told = subst IsToldTruly (sym r.run) (agrees.told (example_hosts count) r.events apart);
  superior = subst HasOneSuperior (sym r.run) (superior (example_hosts count) r.events apart);
  ids = λ n. made.apart (example_hosts count) n r.events;
}

pub made_are_safe : ExamplesAreApart → Agrees → EnlistsUnderOne → MakesNoIdTwice → MadeWorldsAreSafe
made_are_safe apart agrees superior made seed steps = safe_run 4 (world_made seed steps) (made_run seed steps) (apart 4 (omega arith)) agrees superior made
