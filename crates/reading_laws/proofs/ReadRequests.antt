-- Requests of a node in a net that mirrors a world, at which a call is armed or none: their calls are read.
use Rattle.std.specs.Prelude.{ℕ, List, [], ◌∷◌, ◌++◌, ◌+◌, ◌≡◌, ◌≤◌, Some, None, false, drop, length, suc, zero}
use Rattle.std.proofs.Common.{ap, append-nil, arith, inl, inr, refl, subst, sym, true≢false, ◌∙◌}
use Rattle.std.proofs.Math.Seq.{drop-append_seam}
use Rattle.at_base.specs.declared.event.Event.TheVariants as events
use Rattle.at_base.specs.declared.event.Local.{Local}
use Rattle.at_model.specs.Step.{Plan, plan}
use Rattle.at_model.specs.World.{example_base, example_hosts}
use Rattle.completion_at.specs.declared.requests.Refusal.{Refusal}
use Rattle.fated_walks.specs.Fated.{Fated}
use Rattle.memory_net.proofs.Standing.{same_some}
use Rattle.memory_net.specs.Calls.{Requests}
use Rattle.memory_net.specs.Closed.{ExamplesAskSo}
use Rattle.node_at.specs.Doings.{Doing}
use Rattle.node_at.specs.Locals.{Asked, IsTime, cleared}
use Rattle.node_at.specs.State.{seen}
use Rattle.node_at.specs.Steps.{IsStopped}
use Rattle.node_at.specs.TurnText.{IsStep, TurnStep}
use Rattle.node_at.specs.declared.local.Locally.{Locally}
use Rattle.node_at.specs.declared.local.Locally.TheVariants as answers
use Rattle.node_at.specs.declared.node.Node.{Node as Noded}
use Rattle.node_events.specs.NodeEvents.{IsAsk, RequestsAreEvents}
use Rattle.node_worlds.specs.Acts.{IsUp}
use Rattle.node_worlds.specs.Nets.{Place}
use Rattle.record_bytes.specs.Bytes.{bytes_of}
use Rattle.site_memory.specs.Devices.{calls_in}
use Rattle.site_memory.specs.Sites.{told_of}
use Rattle.site_memory.specs.ToldCalls.{AreArmed, CallsFailAsTold, LinksHold}
use Rattle.site_memory.specs.declared.arm.Choice.{Choice}
use Rattle.site_memory.specs.declared.machine.MemSite.{MemSite}
use Rattle.site_model.specs.Told.{Made}
use Rattle.mirrored_nets.specs.Fates.{AllDone, anew_of, refusals}
use Rattle.mirrored_nets.specs.Mirrors.{Mirrors}
use Rattle.mirrored_nets.specs.ToldMachines.{fails_of}
use Rattle.mirrored_nets.specs.Took.{Adds, AnswersSo, HasRoom}
use Rattle.mirrored_nets.specs.declared.came.Came.TheVariants as cames
use Rattle.mirrored_nets.specs.declared.armed.Armed.{Armed}
use Rattle.mirrored_nets.specs.declared.armed.Armed.TheVariants as arms
use Rattle.mirrored_nets.proofs.AskedMachines.{request_kept}
use Rattle.mirrored_nets.proofs.CallRows.{all_refused_none}
use Rattle.mirrored_nets.proofs.CalledFates.{local_called, planned_calls}
use Rattle.mirrored_nets.proofs.CallsRead.{Read, anew_behind}
use Rattle.mirrored_nets.proofs.FallenHosts.{InWorld, IsBefore, NetLaws, in_world, up_there}
use Rattle.mirrored_nets.proofs.HaltedGates.{broken_gate}
use Rattle.mirrored_nets.proofs.RequestsRead.{doing_done, fate_landed, is_doing, is_step, request_read, step_done}
use Rattle.mirrored_nets.proofs.FailedGates.{GateFails, gate_fails}
use Rattle.mirrored_nets.proofs.ArmedRows.{done_behind}
use Rattle.mirrored_nets.proofs.ToldMachines.{armed_row, gates_stand, numbered}
use Rattle.mirrored_nets.proofs.ToldFares.{HaveCalls}
use Rattle.mirrored_nets.proofs.TurnsRead.{StepsRead}
use Rattle.mirrored_nets.proofs.TurnsTaken.{TurnLaws, fits, owned}
use Rattle.call_readings.specs.Reads.{IsUncut, ReadsRequest, came_to, failing_call, is_halted, read_fates}
use Rattle.call_readings.specs.declared.became.Became.{Became}
use Rattle.call_readings.specs.declared.became.Became.TheVariants as becomes
use Rattle.reading_laws.specs.RequestsAreRead.{IsRequestHere, RequestsAreRead}
use Rattle.reading_laws.proofs.ReadAppends.{halting_none_behind}
use Rattle.reading_laws.proofs.ReadCalls.{append_is, armed_here, call_parts, none_refused}
use Rattle.reading_laws.proofs.ReadStops.{CallParts, stop_read}

as_fallen : (kept : ℕ) (choice : Choice) (answer : Locally) → AnswersSo cames.Stays answer → AnswersSo (cames.Falls kept choice) answer
as_fallen kept choice (answers.Done id) so = tt
as_fallen kept choice (answers.Refused why) so = tt
as_fallen kept choice answers.NoRoom so = absurd so
as_fallen kept choice answers.Halted so = absurd so

-- one that didn't halt was done or refused
answers_up : (b : Became) (answer : Locally) → is_halted b ≡ false → AnswersSo cames.Stays answer → AnswersSo (came_to b) answer
answers_up becomes.Stays answer goes so = so
answers_up (becomes.Falls kept choice) answer goes so = as_fallen kept choice answer so
answers_up becomes.Halts answer goes so = absurd (true≢false goes)
answers_up (becomes.FallsAnew kept choice) answer goes so = as_fallen kept choice answer so
answers_up becomes.HaltsAnew answer goes so = absurd (true≢false goes)

module _ (calls : CallsFailAsTold) (hold : LinksHold) (L : NetLaws) (K : TurnLaws) (asks : RequestsAreEvents) (ask_so : ExamplesAskSo) (i count : ℕ) (request : Local) (n m : Noded)
    (old new : MemSite) (armed : Armed) (answer : Locally) (made : List Made) (S : IsRequestHere i count request n old armed) (has : HasRoom old)
    (R : Requests request answer n m old new) (adds : Adds made old new) where
  abbrev M : Mirrors count S.hosts S.clocks S.mails S.world
  M = S.mirrors

  abbrev p : Place
  p = (M.stands.holds i S.host S.here).place

  before : IsBefore S.host old
  before = record { opening = S.set.opening; calls = S.set.calls }

  abbrev there : InWorld L count S.few S.hosts S.clocks S.mails S.mails S.world M i S.host S.host n S.here S.up S.clock S.time old before
  there = in_world L count S.few S.hosts S.clocks S.mails S.mails S.world M i S.host S.host n S.here S.up S.clock S.time old before

  up_here : IsUp p.records (seen n) (told_of old)
  up_here = up_there L count S.few S.hosts S.clocks S.mails S.mails S.world M i S.host S.host n S.here S.up S.clock S.time old before

  abbrev since : ℕ
  since = length (calls_in old.device)

  row : AreArmed since (fails_of since armed) made
  row = armed_row calls hold old new made (fails_of since armed) S.told (request_kept request answer n m old new R) adds

  failed_so : AreArmed 0 (failing_call armed) made
  failed_so = armed_here since armed made row

  abbrev the_plan : Plan
  the_plan = plan n.book (events.Local request) there.node.clock

  time_is : (now : ℕ) → IsTime now (told_of old) → now ≡ there.node.clock
  time_is now at = at old.clock refl ∙ S.set.clock ∙ sym there.clock

  -- it was done
  module _ (id : _) (D : Asked (answers.Done id) (seen n) (seen m) request (told_of old) (told_of new)) where
    abbrev now : ℕ
    now = D.3.0

    now_is : now ≡ there.node.clock
    now_is = time_is now D.3.2

    abbrev its_step : TurnStep
    its_step = step_done (seen n) (seen m) request now D.3.1 old new D.3.3

    abbrev its_doing : Doing
    its_doing = doing_done (seen n) (seen m) request now D.3.1 old new D.3.3

    is_ask : IsAsk (example_hosts count) M.stands.net S.world i p there.node (seen n) (seen m) request its_step its_doing
    is_ask =
        asks.whole (example_hosts count) M.stands.net S.world i p there.node (seen n) (seen m) request its_step its_doing there.is_at
        (subst (λ k. IsStep n.book (events.Local request) k its_step) now_is (is_step (seen n) (seen m) request now D.3.1 old new D.3.3))
        (is_doing (seen n) (seen m) request now D.3.1 old new D.3.3)
        (fate_landed (plan n.book (events.Local request) now).entry D.3.3.landed n.journal D.3.3.went.first (told_of old) (told_of new) D.3.3.went.fate) D.3.3.went.book D.3.3.went.effects

    abbrev f : Fated
    f = is_ask.fated

    read : (Q : Read n.journal [] made its_step [] its_doing []) × (Q.anew ≡ [])
    read =
        request_read (seen n) (seen m) request now D.3.1 old new D.3.3 L.bodies old made up_here.holds.bodies refl has up_here.holds.keeps (M.limits i S.host n S.here S.up) adds

    have : HaveCalls f
    have =
        planned_calls K.addressed K.reply K.pass K.place (example_base i)
        (owned L K count S.few S.hosts S.clocks S.mails S.mails S.world M i S.least S.host S.host n S.here S.up S.clock S.time) the_plan f
        (local_called K.addressed K.reply K.pass K.place (example_base i)
        (owned L K count S.few S.hosts S.clocks S.mails S.mails S.world M i S.least S.host S.host n S.here S.up S.clock S.time) n.book request there.node.clock
        (fits L K count S.few S.hosts S.clocks S.mails S.mails S.world M i S.least S.host S.host n S.here S.up S.clock S.time old before) (ask_so request S.named).0) is_ask.planned

    abbrev r : StepsRead n.journal [] made (its_step ∷ []) (its_doing ∷ []) (f ∷ [])
    r = record {
      s = its_step;
      ss = [];
      d = its_doing;
      ds = [];
      f = f;
      fs = [];
      steps_are = refl;
      doings_are = refl;
      fated_are = refl;
      fared = (is_ask.fared, tt);
      read = read.0;
      have = (have, tt);
      answered = inr read.1;
    }

    abbrev P : CallParts 0 made
    P = call_parts n.journal 0 [] made (its_step ∷ []) (its_doing ∷ []) (f ∷ []) r refl

    -- its journal wasn't written anew
    anew_none : anew_of (drop 0 made) ≡ []
    anew_none = anew_behind n.journal [] made its_step [] its_doing [] read.0 f [] (is_ask.fared, tt) (have, tt) (inr read.1) ∙ read.1

    stays : IsUncut armed made → ReadsRequest armed made (answers.Done id)
    stays uncut = record {
      became = becomes.Stays;
      fates = read_fates 0 made;
      until = None;
      reads = record { failed = failed_so; are = (uncut, inl (subst AllDone (sym anew_none) tt), refl, refl) };
      ends = tt;
      of_steps = tt;
    }

    stops : AllDone made → (k : ℕ) (choice : Choice) → armed ≡ arms.Stop k choice → ReadsRequest armed made (answers.Done id)
    stops all k choice is =
        let none = none_refused n.journal 0 [] made (its_step ∷ []) (its_doing ∷ []) (f ∷ []) r refl all in
        let stood = append_is n.journal 0 [] made (its_step ∷ []) (its_doing ∷ []) (f ∷ []) r refl none in
        let s = stop_read 0 made P stood.which all armed k choice is in
        record { became = s.became; fates = s.fates; until = s.until; reads = record { failed = failed_so; are = s.are }; ends = answers_up s.became (answers.Done id) s.goes tt; of_steps = s.of_steps anew_none }

  -- it halted
  module _ (now : ℕ) (at : IsTime now (told_of old)) (H : IsStopped (cleared (seen n)) (seen m) (events.Local request) now (told_of old) (told_of new)) where
    -- not where all its calls were done
    halts_not : AllDone made → ⊥
    halts_not all = gates_stand old new made adds (all_refused_none made all) H.stopped.rose

    made_is : made ≡ H.stopped.first
    made_is = adds.calls ∙ ap (drop since) (same_some (calls_in new.device) (calls_in old.device ++ H.stopped.first) H.stopped.calls) ∙ drop-append_seam (calls_in old.device) H.stopped.first

    one_refused : 1 ≤ refusals H.stopped.first
    one_refused =
        let up = H.stopped.rose in
        let most = adds.raised in
        let below = adds.under in
        let all = ap refusals made_is in
        omega (arith, up, most, below, all)

    module _ (k : ℕ) (fails : AreArmed since (since + k) made) where
      here : AreArmed (since + 0) (since + 0 + k) H.stopped.first
      here = let none_before : since ≡ since + 0 = omega arith in subst (λ z. AreArmed z (z + k) H.stopped.first) none_before (subst (AreArmed since (since + k)) made_is fails)

      gate : GateFails k 0 made n.journal.live
      gate =
          gate_fails n.journal.live n.journal.end since 0 k (bytes_of H.entry) made [] H.stopped.first refl made_is here one_refused H.stopped.makes.0 H.stopped.makes.1
          (broken_gate n.journal.live n.journal.end H.stopped.makes.0 H.stopped.makes.2)

      halts : armed ≡ arms.Fail k → ReadsRequest armed made answers.Halted
      halts is =
          let g = gate in
          record {
            became = becomes.Halts;
            fates = g.stands ∷ [];
            until = Some 1;
            reads = record {
              failed = failed_so;
              are = (
                (k, is),
                record { stands = g.stands; fates_are = refl; until_is = refl; file = n.journal.live; calls = g.calls },
                halting_none_behind 0 [] H.stopped.first made n.journal.live n.journal.end (bytes_of H.entry) refl made_is H.stopped.makes,
              );
            };
            ends = refl;
            of_steps = tt;
          }

  none_made : new ≡ old → made ≡ []
  none_made same = adds.calls ∙ ap (λ (z : MemSite). drop since (calls_in z.device)) same ∙ ap (drop since) (sym (append-nil (calls_in old.device))) ∙ drop-append_seam (calls_in old.device) []

  -- it was refused, and made no call
  module _ (why : Refusal) (none : made ≡ []) where
    refused_uncut : (a : Armed) → IsUncut a made
    refused_uncut arms.No = tt
    refused_uncut (arms.Fail k) = tt
    refused_uncut (arms.Stop zero choice) = inl refl
    refused_uncut (arms.Stop (suc k) choice) = inr (let e = ap length none in omega (arith, e))

    refused : ReadsRequest armed made (answers.Refused why)
    refused = record {
      became = becomes.Stays;
      fates = read_fates 0 made;
      until = None;
      reads = record { failed = failed_so; are = (refused_uncut armed, inl (subst (λ ms. AllDone (anew_of (drop 0 ms))) (sym none) tt), refl, refl) };
      ends = tt;
      of_steps = tt;
    }

  made_done : fails_of since armed ≡ 0 → AllDone made
  made_done none = done_behind since 0 made (subst (λ k. AreArmed since k made) none row) (omega arith)

  -- what is done is read so; what halts, so
  by_answer : ((id : _) → Asked (answers.Done id) (seen n) (seen m) request (told_of old) (told_of new) → ReadsRequest armed made (answers.Done id))
      → ((now : ℕ) (at : IsTime now (told_of old)) → IsStopped (cleared (seen n)) (seen m) (events.Local request) now (told_of old) (told_of new) → ReadsRequest armed made answers.Halted)
      → (b : Locally) → Asked b (seen n) (seen m) request (told_of old) (told_of new) → ((why : Refusal) → b ≡ answers.Refused why → new ≡ old) → (b ≡ answers.NoRoom → ⊥) → ReadsRequest armed made b
  by_answer done halted (answers.Done id) asked nothing room = done id asked
  by_answer done halted (answers.Refused why) asked nothing room = refused why (none_made (nothing why refl))
  by_answer done halted answers.NoRoom asked nothing room = absurd (room refl)
  by_answer done halted answers.Halted (inl (off, same)) nothing room = absurd (true≢false (sym off ∙ up_here.runs))
  by_answer done halted answers.Halted (inr (going, taken, (now, at, stopped))) nothing room = halted now at stopped

  -- where no call is to fail
  unharmed : fails_of since armed ≡ 0 → IsUncut armed made → (answer ≡ answers.NoRoom → ⊥) → ReadsRequest armed made answer
  unharmed none uncut room = by_answer (λ id asked. stays id asked uncut) (λ now at stopped. absurd (halts_not now at stopped (made_done none))) answer R.asked R.nothing room

  failing : (k : ℕ) → armed ≡ arms.Fail k → 1 ≤ k → (answer ≡ answers.NoRoom → ⊥) → ReadsRequest armed made answer
  failing k is least room =
      let number = ap (fails_of since) is ∙ numbered since k least in
      by_answer (λ id asked. stays id asked (subst (λ a. IsUncut a made) (sym is) tt)) (λ now at stopped. halts now at stopped k (subst (λ z. AreArmed since z made) number row) is) answer R.asked R.nothing room

  stopping : (k : ℕ) (choice : Choice) → armed ≡ arms.Stop k choice → (answer ≡ answers.NoRoom → ⊥) → ReadsRequest armed made answer
  stopping k choice is room =
      let all = made_done (ap (fails_of since) is) in
      by_answer (λ id asked. stops id asked all k choice is) (λ now at stopped. absurd (halts_not now at stopped all)) answer R.asked R.nothing room

  reads_so : (a : Armed) → armed ≡ a → (answer ≡ answers.NoRoom → ⊥) → ReadsRequest armed made answer
  reads_so arms.No is room = unharmed (ap (fails_of since) is) (subst (λ a. IsUncut a made) (sym is) tt) room
  reads_so (arms.Fail zero) is room = unharmed (ap (fails_of since) is) (subst (λ a. IsUncut a made) (sym is) tt) room
  reads_so (arms.Fail (suc k)) is room = failing (suc k) is (omega arith) room
  reads_so (arms.Stop k choice) is room = stopping k choice is room

pub requests_are_read : CallsFailAsTold → LinksHold → NetLaws → TurnLaws → RequestsAreEvents → ExamplesAskSo → RequestsAreRead
requests_are_read calls hold L K asks ask_so i count request n m old new armed answer made S has R adds room =
    reads_so calls hold L K asks ask_so i count request n m old new armed answer made S has R adds armed refl room
