-- What is printed of a play tells what happened in its world.
use Rattle.std.proofs.Common.{ℕ, ◌≡◌, List, [], ◌∷◌, ◌++◌, length, drop, sym, subst, map}
use Rattle.std.specs.Prelude.{Option, Bool, true, option_map}
use Rattle.std.specs.List.{AllByRecursion}
use Rattle.armed_calls.specs.declared.fault.Armed.{Armed}
use Rattle.armed_calls.specs.declared.fault.Fault.{Fault}
use Rattle.asked_nets.specs.ArmedCalls.{call_of}
use Rattle.asked_nets.specs.Behind.{world_behind}
use Rattle.asked_nets.specs.Happened.{Happened}
use Rattle.at_base.specs.declared.outs.Effect.{Effect}
use Rattle.at_model.specs.World.{Posted, World, WorldEvent, happened_at, node_of}
use Rattle.replay_cmd.specs.ReportOf.{ended}
use Rattle.reported_effects.specs.EffectLines.{IsOnOneLine, Tells}
use Rattle.reported_effects.proofs.PrintedLines.{effects_in, end_says, event_says, forged_says, no_message_says}
use Rattle.reported_effects.proofs.PrintedTexts.{Says, says_both, says_nothing, says_on, says_tells}
use Rattle.schedules.specs.declared.line.Line.{Line}
use Rattle.world_laws.specs.Moves.{ChangesByMoves, losses_of, steps_of}
use Rattle.net_plays.specs.EventTexts.{event_lines, losses_by}
use Rattle.net_plays.specs.PlayedLines.{TakesAll}
use Rattle.net_plays.specs.Plays.{Happens, IsBegun, IsOpening, Play, Rests, fault_of}
use Rattle.net_plays.proofs.FallenWorlds.{Adds, event_adds}
use Rattle.net_plays.proofs.PlayedLines.{Keeps, begun_keeps, lines_keep, rests_keep}
use Rattle.net_plays.proofs.ReadEvents.{anew_loses}

-- a list and what stands behind another that it begins with

front_of : (xs ys : List Posted) → AllByRecursion IsOnOneLine (xs ++ ys) → AllByRecursion IsOnOneLine xs
front_of [] ys h = tt
front_of (x ∷ xs) ys h = (h.0, front_of xs ys h.1)

back_of : (xs ys : List Posted) → AllByRecursion IsOnOneLine (xs ++ ys) → AllByRecursion IsOnOneLine (drop (length xs) (xs ++ ys))
back_of [] ys h = h
back_of (x ∷ xs) ys h = back_of xs ys h.1

-- where the messages of a world have names and paths of one line, this text tells what happened in it
abbrev IsTold : World → List ℕ → Type 0
IsTold w text = AllByRecursion IsOnOneLine w.posted → Says text w.happened

told_more : (w v : World) (n : ℕ) (text line : List ℕ) (es : List Effect) → Adds w v n es → IsTold w text
    → (AllByRecursion IsOnOneLine (drop (length w.posted) v.posted) → Says line (map (happened_at n) es)) → IsTold v (text ++ line)
told_more w v n text line es adds before says all =
    let here : AllByRecursion IsOnOneLine (w.posted ++ adds.posts) = subst (AllByRecursion IsOnOneLine) adds.posted all in
    rw adds.happened
    (says_both text line w.happened (map (happened_at n) es) (before (front_of w.posted adds.posts here))
    (says (subst (λ ps. AllByRecursion IsOnOneLine (drop (length w.posted) ps)) (sym adds.posted) (back_of w.posted adds.posts here))))

-- all that is printed of an event
says_event : (down : Bool) (f : Option Fault) (s : ℕ) (w : World) (e : WorldEvent)
    → AllByRecursion IsOnOneLine (drop (length w.posted) (world_behind down w e).posted)
    → Says (event_lines down f s w e) (map (happened_at (node_of e)) (effects_in (steps_of w e) ++ losses_by down w e))
says_event down f s w e h = event_says f s w (world_behind down w e) e (losses_by down w e) h

abbrev Holds : Play → Type 0
Holds p = IsTold p.world p.text

module _ (moves : ChangesByMoves) where
  happens_tell : (armed : Option Armed) (asked : WorldEvent) (raw : List ℕ) (drawn : ℕ) (p q : Play) → Happens armed asked raw drawn p q → Holds p → Holds q
  happens_tell armed asked raw drawn p q t h =
      let none : t.down ≡ true → losses_of p.world t.event ≡ [] =
      λ is. anew_loses p.count p.world (call_of armed) asked raw p.net q.net t.event t.calls
      (subst (λ d. Happened p.count p.world (call_of armed) asked raw p.net q.net t.event d t.calls) is t.happened) in
      subst (λ v. IsTold v q.text) (sym t.world)
      (subst (IsTold (world_behind t.down p.world t.event)) (sym t.text)
      (told_more p.world (world_behind t.down p.world t.event) (node_of t.event) p.text (event_lines t.down (option_map fault_of armed) drawn p.world t.event)
      (effects_in (steps_of p.world t.event) ++ losses_by t.down p.world t.event)
      (event_adds moves t.down p.world t.event none) h
      (says_event t.down (option_map fault_of armed) drawn p.world t.event)))

  keeps_told : Keeps Holds
  keeps_told = record {
    happens = happens_tell;
    forges = λ n p h all. says_on p.text _ p.world.happened (h all) (forged_says n);
    misses = λ k p h all. says_on p.text _ p.world.happened (h all) (no_message_says k);
    arms = λ n armed p h. h;
    marks = λ k p h. h;
  }

  opening_told : (count : ℕ) (p : Play) → IsOpening count p → Holds p
  opening_told count p o = subst Holds (sym o.is) (λ all. says_nothing)

  pub play_tells : (count : ℕ) (settles : Bool) (all : List Line) (first last play : Play) → IsBegun count first → TakesAll all first last → Rests settles last play
      → AllByRecursion IsOnOneLine play.world.posted → Tells (play.text ++ ended play.world) play.world.happened
  play_tells count settles all first last play begun taken rests whole =
      let start : Holds first = begun_keeps Holds keeps_told count first begun (opening_told count begun.first begun.opens) in
      let end : Holds play = rests_keep Holds keeps_told settles last play rests (lines_keep Holds keeps_told all first last taken start) in
      says_tells _ play.world.happened (says_on play.text _ play.world.happened (end whole) (end_says _ _ _ _))
