-- Nodes and their world behind one event more.
use Rattle.std.proofs.Common.{ℕ, ◌+◌, ◌≡◌, ◌≤◌, ◌++◌, ◌∷◌, List, [], length, inl, inr, arith, sym, subst}
use Rattle.std.proofs.lemmas.List.{append_assoc, length-append}
use Rattle.std.specs.Prelude.{Bool, Option, true, false}
use Rattle.std.specs.List.{AllByRecursion}
use Rattle.armed_calls.specs.declared.fault.Armed.{Armed as Known}
use Rattle.asked_nets.specs.ArmedCalls.{call_of}
use Rattle.asked_nets.specs.Behind.{events_by, world_behind}
use Rattle.asked_nets.specs.Happened.{Happened}
use Rattle.at_model.specs.World.{Hosts, World, WorldEvent, Turn, Ask, Crash, Up, example_hosts, node_of, run_of, world_step}
use Rattle.mirrored_nets.specs.Seen.{Seen}
use Rattle.mirrored_nets.specs.declared.armed.Armed.TheVariants as arms
use Rattle.model_laws.specs.DrawnIds.{IdsStayDrawn}
use Rattle.model_laws.specs.Laws.{StepsKeepPlace}
use Rattle.model_laws.specs.MadeIds.{MakesNoIdTwice}
use Rattle.model_laws.specs.Order.{IdsRise}
use Rattle.world_laws.specs.Events.{ms_of}
use Rattle.world_laws.specs.Moves.{ChangesByMoves, seen}
use Rattle.world_laws.specs.Runs.{IsFit}
use Rattle.world_laws.proofs.RunNodes.{fit_after}
use Rattle.net_plays.specs.Asks.{CanAskOf}
use Rattle.net_plays.specs.Behind.{IsArmedBehind, PlaysGoOn}
use Rattle.net_plays.specs.Incarnations.{IsEarly, IsUnstopped}
use Rattle.net_plays.proofs.EarlyNodes.{early_on}
use Rattle.net_plays.proofs.PlayedRuns.{run_behind}
use Rattle.net_plays.proofs.ReadEvents.{bare_is_asked}

-- a start of which no call is armed isn't stopped
unstopped : (count : ℕ) (w : World) (asked event : WorldEvent) (raw : List ℕ) (old new : Seen) (down : Bool) (calls : ℕ)
    → CanAskOf w asked raw → Happened count w arms.No asked raw old new event down calls → IsUnstopped event
unstopped count w asked (Turn i input fates until) raw old new down calls can h = tt
unstopped count w asked (Ask i request fates until) raw old new down calls can h = tt
unstopped count w asked (Crash i) raw old new down calls can h = tt
unstopped count w (Turn n x y z) (Up i lands stops) raw old new down calls can h = absurd h.of
unstopped count w (Ask n x y z) (Up i lands stops) raw old new down calls can h = absurd h.of
unstopped count w (Crash n) (Up i lands stops) raw old new down calls can h = absurd h.of
unstopped count w (Up n landed stop) (Up i lands stops) raw old new down calls can h =
    subst IsUnstopped (sym (bare_is_asked count w (Up n landed stop) raw old new (Up i lands stops) down calls can h).same) can.1

module _ (ids : IdsRise) (moves : ChangesByMoves) (drawn : IdsStayDrawn) (place : StepsKeepPlace) (lives : MakesNoIdTwice) where
  -- the world of a run
  record Goes (hosts : Hosts) (w : World) (es : List WorldEvent) : Type 0 where
    run : w ≡ run_of hosts es
    fit : IsFit (length es) (seen w)
    early : AllByRecursion (IsEarly (length es)) w.nodes

  one_on : (hosts : Hosts) (w : World) (es : List WorldEvent) (e : WorldEvent) → ms_of e ≤ 4294967295 → (length es ≡ 0 → IsUnstopped e) → Goes hosts w es → Goes hosts (world_step w e) (es ++ e ∷ [])
  one_on hosts w es e short first g =
      let more : length es + 1 ≡ length (es ++ e ∷ []) = sym (length-append es (e ∷ [])) in
      record {
        run = run_behind hosts false w es e g.run;
        fit =
            subst (λ k. IsFit k (seen (world_step w e))) more
            (subst (IsFit (length es + 1)) (sym (moves.moved w e)) (fit_after ids e (length es) (seen w) short g.fit));
        early =
            subst (λ k. AllByRecursion (IsEarly k) (world_step w e).nodes) more
            (early_on drawn place lives moves (length es) hosts w es e g.run first g.early);
      }

  behind_on : (hosts : Hosts) (down : Bool) (w : World) (es : List WorldEvent) (e : WorldEvent) → ms_of e ≤ 4294967295 → (length es ≡ 0 → IsUnstopped e) → Goes hosts w es
      → Goes hosts (world_behind down w e) (es ++ events_by down e)
  behind_on hosts false w es e short first g = one_on hosts w es e short first g
  behind_on hosts true w es e short first g =
      subst (Goes hosts (world_step (world_step w e) (Crash (node_of e)))) (append_assoc es (e ∷ []) (Crash (node_of e) ∷ []))
      (one_on hosts (world_step w e) (es ++ e ∷ []) (Crash (node_of e)) (omega arith) (λ none. tt) (one_on hosts w es e short first g))

  pub plays_go_on : PlaysGoOn
  plays_go_on count net new w es armed asked event raw down calls short b behind can h =
      let g = behind_on (example_hosts count) down w es event short (first behind) (record { run = b.run; fit = b.fit; early = b.early }) in
      record { run = g.run; mirrors = h.mirrors; fit = g.fit; early = g.early }
    where
      first : IsArmedBehind armed es → length es ≡ 0 → IsUnstopped event
      first (inl none) empty = unstopped count w asked event raw net new down calls can (subst (λ (a : Option Known). Happened count w (call_of a) asked raw net new event down calls) none h)
      first (inr some) empty = absurd (omega (arith, some, empty))
