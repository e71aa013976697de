-- What is printed of a play stands in its world, line by line.
use Rattle.std.proofs.Common.{ℕ, suc, ◌+◌, ◌-◌, ◌≡◌, refl, List, [], ◌∷◌, ◌++◌, length, drop, sym, ap, subst, ◌∙◌, arith}
use Rattle.std.specs.Prelude.{Option, Some, Bool, true, false, if◌then◌else◌, nat_eq, option_map}
use Rattle.std.specs.List.{AllByRecursion}
use Rattle.std.proofs.lemmas.Bool.{eqb-true}
use Rattle.std.proofs.lemmas.List.{append_assoc, length-append}
use Rattle.armed_calls.specs.declared.fault.Armed.{Armed}
use Rattle.armed_calls.specs.declared.fault.Fault.{Fault}
use Rattle.asked_nets.specs.Behind.{world_behind}
use Rattle.at_model.specs.World.{Crash, Hosts, Posted, World, WorldEvent, example_hosts, node_of, nth, world_step, HaveOwnAddresses}
use Rattle.model_laws.specs.ReachedWorlds.{Reached, fell, opened, rose, stepped as steps_to, waited}
use Rattle.model_laws.proofs.ReachedWorlds.{Closed, all_reached}
use Rattle.printed_agreement.specs.PlainPosts.{IsPlain}
use Rattle.printed_agreement.specs.RegisterAnswers.{EventsBring, IsBrought}
use Rattle.printed_agreement.specs.ReportLines.{Quiet}
use Rattle.printed_agreement.proofs.Chunks.{AreNext, Chunk, Printed, Quietly, end_quiet, event_chunk, forged_quiet, none_quiet, reads_both, reads_none, steps_event}
use Rattle.printed_agreement.proofs.Soundness.{sound_both, sound_on}
use Rattle.replay_cmd.specs.Lines.{forged_line, no_message_line}
use Rattle.replay_cmd.specs.ReportOf.{ended}
use Rattle.schedules.specs.declared.line.Line.{Line}
use Rattle.world_laws.specs.Moves.{steps_of}
use Rattle.net_plays.specs.EventTexts.{event_lines, losses_by}
use Rattle.net_plays.specs.PlayedLines.{TakesAll}
use Rattle.net_plays.specs.Plays.{Happens, IsBegun, IsOpening, Play, Rests, fault_of}
use Rattle.net_plays.proofs.PlayedLines.{Keeps, begun_keeps, lines_keep, rests_keep}

-- lists

front_of : (P : Posted → Type 0) (xs ys : List Posted) → AllByRecursion P (xs ++ ys) → AllByRecursion P xs
front_of P [] ys h = tt
front_of P (x ∷ xs) ys h = (h.0, front_of P xs ys h.1)

back_of : (P : Posted → Type 0) (xs ys : List Posted) → AllByRecursion P (xs ++ ys) → AllByRecursion P ys
back_of P [] ys h = h
back_of P (x ∷ xs) ys h = back_of P xs ys h.1

all_both : (P : Posted → Type 0) (xs ys : List Posted) → AllByRecursion P xs → AllByRecursion P ys → AllByRecursion P (xs ++ ys)
all_both P [] ys h k = k
all_both P (x ∷ xs) ys h k = (h.0, all_both P xs ys h.1 k)

drop_front : (xs ys : List Posted) → drop (length xs) (xs ++ ys) ≡ ys
drop_front [] ys = refl
drop_front (x ∷ xs) ys = drop_front xs ys

nth_at : (front : List Posted) (p : Posted) (rest : List Posted) → nth (length front + 1) (front ++ p ∷ rest) ≡ Some p
nth_at [] p rest = refl
nth_at (x ∷ xs) p rest = by_number (nth_at xs p rest) (nat_eq (suc (length xs) + 1) 1) refl
  where
    by_number : nth (length xs + 1) (xs ++ p ∷ rest) ≡ Some p → (b : Bool) → nat_eq (suc (length xs) + 1) 1 ≡ b → (if b then Some x else nth (suc (length xs) + 1 - 1) (xs ++ p ∷ rest)) ≡ Some p
    by_number later true e = absurd (let is = eqb-true (suc (length xs) + 1) 1 e in omega (arith, is))
    by_number later false e = let same : suc (length xs) + 1 - 1 ≡ length xs + 1 = omega arith in ap (λ n. nth n (xs ++ p ∷ rest)) same ∙ later

numbered : (count : ℕ) (v : World) (F : Posted → Type 0) (front ps : List Posted) → v.posted ≡ front ++ ps → AllByRecursion F ps → AllByRecursion (IsPlain count) ps
    → AreNext count v F (length front + 1) ps
numbered count v F front [] e h k = tt
numbered count v F front (p ∷ ps) e h k = (
  record { found = ap (nth (length front + 1)) e ∙ nth_at front p ps; plain = k.0; so = h.0 },
  let long = length-append front (p ∷ []) in
      let same : length (front ++ p ∷ []) + 1 ≡ length front + 1 + 1 = omega (arith, long) in
      subst (λ i. AreNext count v F i ps) same (numbered count v F (front ++ p ∷ []) ps (e ∙ sym (append_assoc front (p ∷ []) ps)) h.1 k.1),
)

-- the worlds that are reached
worlds : Hosts → Closed
worlds hosts = record {
  hosts = hosts;
  Holds = Reached hosts;
  reached = λ w h. h;
  steps = λ u n x b e now landed ps h found up heard those. steps_to u n x b e now landed ps h found up heard those refl;
  falls = λ u n x b h found up. fell u n x b h found up refl;
  rises = λ u n x stop h found down small. rose u n x stop h found down small refl;
  waits = λ u n x clock h found. waited u n x clock h found refl;
}

event_reached : (hosts : Hosts) (w : World) (e : WorldEvent) → Reached hosts w → Reached hosts (world_step w e)
unfolding worlds
event_reached hosts w e h = all_reached (worlds hosts) (e ∷ []) w h

module _ (bring : EventsBring) (count : ℕ) (distinct : HaveOwnAddresses (example_hosts count)) where
  abbrev hosts : Hosts
  hosts = example_hosts count

  -- It is reached, and where its messages are plain, this text stands in it.
  pub record HoldsAt (w : World) (text : List ℕ) : Type 0 where
    pub reached : Reached hosts w
    pub printed : AllByRecursion (IsPlain count) w.posted → Printed count w text

  abbrev pub Holds : Play → Type 0
  Holds p = HoldsAt p.world p.text

  -- what an event adds
  record Adds (w v : World) (e : WorldEvent) : Type 0 where
    more : List Posted
    posted : v.posted ≡ w.posted ++ more
    all : AllByRecursion (IsBrought hosts w e) more
    comes : Reached hosts v

  step_adds : (w : World) (e : WorldEvent) → Reached hosts w → Adds w (world_step w e) e
  step_adds w e h = let (more, posted, all) = bring hosts w e distinct h in record { more = more; posted = posted; all = all; comes = event_reached hosts w e h }

  crash_brings : (w u : World) (e : WorldEvent) (n : ℕ) (qs : List Posted) → AllByRecursion (IsBrought hosts u (Crash n)) qs → AllByRecursion (IsBrought hosts w e) qs
  crash_brings w u e n [] h = tt
  crash_brings w u e n (q ∷ qs) h = (λ c says. let (k, delivers, p, found, a) = h.0 c says in absurd delivers, crash_brings w u e n qs h.1)

  fall_adds : (w : World) (e : WorldEvent) → Reached hosts w → Adds w (world_step (world_step w e) (Crash (node_of e))) e
  fall_adds w e h =
      let one = step_adds w e h in
      let two = step_adds (world_step w e) (Crash (node_of e)) one.comes in
      record {
        more = one.more ++ two.more;
        posted = two.posted ∙ (ap (λ ps. ps ++ two.more) one.posted ∙ append_assoc w.posted one.more two.more);
        all = all_both (IsBrought hosts w e) one.more two.more one.all (crash_brings w (world_step w e) e (node_of e) two.more two.all);
        comes = two.comes;
      }

  event_adds : (down : Bool) (w : World) (e : WorldEvent) → Reached hosts w → Adds w (world_behind down w e) e
  event_adds true w e h = fall_adds w e h
  event_adds false w e h = step_adds w e h

  -- an event, behind whose steps its node went down, or didn't
  event_on : (down : Bool) (f : Option Fault) (s : ℕ) (w : World) (e : WorldEvent) (text : List ℕ) → Adds w (world_behind down w e) e → HoldsAt w text
      → HoldsAt (world_behind down w e) (text ++ event_lines down f s w e)
  event_on down f s w e text adds h = record {
    reached = adds.comes;
    printed = λ plain.
        let v : World = world_behind down w e in
        let F : Posted → Type 0 = IsBrought hosts w e in
        let here : AllByRecursion (IsPlain count) (w.posted ++ adds.more) = subst (AllByRecursion (IsPlain count)) adds.posted plain in
        let before : Printed count w text = h.printed (front_of (IsPlain count) w.posted adds.more here) in
        let next : AreNext count v F (length w.posted + 1) (drop (length w.posted) v.posted) =
        subst (AreNext count v F (length w.posted + 1)) (sym (ap (drop (length w.posted)) adds.posted ∙ drop_front w.posted adds.more))
        (numbered count v F w.posted adds.more adds.posted adds.all (back_of (IsPlain count) w.posted adds.more here)) in
        let chunk : Chunk hosts v (event_lines down f s w e) =
        event_chunk hosts w v adds.more adds.posted f s e (steps_of w e) _
        (steps_event count v F (node_of e) (length w.posted + 1) (drop (length w.posted) v.posted) (steps_of w e) (losses_by down w e) next) in
        record {
          entries = before.entries ++ chunk.entries;
          reads = reads_both text (event_lines down f s w e) before.entries chunk.entries before.reads chunk.reads;
          sound = sound_both hosts v before.entries chunk.entries chunk.opens (sound_on hosts w v adds.more adds.posted before.entries before.sound) chunk.sound;
        };
  }

  quiet_on : (w : World) (text line : List ℕ) → Quietly line → HoldsAt w text → HoldsAt w (text ++ line)
  quiet_on w text line q h = record {
    reached = h.reached;
    printed = λ plain.
        let before : Printed count w text = h.printed plain in
        record {
          entries = before.entries ++ Quiet q.line ∷ [];
          reads = reads_both text line before.entries (Quiet q.line ∷ []) before.reads q.reads;
          sound = sound_both hosts w before.entries (Quiet q.line ∷ []) tt before.sound (q.quiet, tt, tt);
        };
  }

  happens_print : (armed : Option Armed) (asked : WorldEvent) (raw : List ℕ) (drawn : ℕ) (p q : Play) → Happens armed asked raw drawn p q → Holds p → Holds q
  happens_print armed asked raw drawn p q t h =
      subst (λ v. HoldsAt v q.text) (sym t.world)
      (subst (HoldsAt (world_behind t.down p.world t.event)) (sym t.text)
      (event_on t.down (option_map fault_of armed) drawn p.world t.event p.text (event_adds t.down p.world t.event h.reached) h))

  keeps_printed : Keeps Holds
  keeps_printed = record {
    happens = happens_print;
    forges = λ n p h. quiet_on p.world p.text (forged_line n) (forged_quiet n) h;
    misses = λ k p h. quiet_on p.world p.text (no_message_line k) (none_quiet k) h;
    arms = λ n armed p h. h;
    marks = λ k p h. h;
  }

  opening_prints : (p : Play) → IsOpening count p → Holds p
  opening_prints p o = subst Holds (sym o.is) (record { reached = opened refl; printed = λ plain. record { entries = []; reads = reads_none; sound = tt } })

  pub play_prints : (settles : Bool) (all : List Line) (first last play : Play) → IsBegun count first → TakesAll all first last → Rests settles last play
      → HoldsAt play.world (play.text ++ ended play.world)
  play_prints settles all first last play begun taken rests =
      quiet_on play.world play.text (ended play.world) (end_quiet _ _ _ _)
      (rests_keep Holds keeps_printed settles last play rests
      (lines_keep Holds keeps_printed all first last taken (begun_keeps Holds keeps_printed count first begun (opening_prints begun.first begun.opens))))
