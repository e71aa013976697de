-- A request for which there was memory, and how it went.
use Rattle.std.specs.Prelude.{ℕ, List, [], ◌++◌, ◌+◌, ◌-◌, ◌^◌, ◌≡◌, ◌≤◌, ◌<◌, Bool, true, false, Option, Some, None, drop, length}
use Rattle.std.proofs.Common.{ap, append-nil, arith, inl, inr, refl, subst, sym, true≢false, ◌∙◌}
use Rattle.std.proofs.Math.Seq.{drop-append_seam}
use Rattle.at_base.specs.Numbers.{Numbers}
use Rattle.at_base.specs.declared.event.Event.TheVariants as events
use Rattle.at_base.specs.declared.event.Local.{Local}
use Rattle.at_base.specs.declared.record.Record.{Record}
use Rattle.at_model.specs.Step.{plan, refuses, step}
use Rattle.completion_at.specs.Names.{refusal_of}
use Rattle.completion_at.specs.declared.requests.Refusal.{Refusal}
use Rattle.journal_at.specs.Format.{frames}
use Rattle.journal_at.specs.declared.journal.Journal.{Journal}
use Rattle.node_at.specs.Doings.{Doing, IsFateAt}
use Rattle.node_at.specs.Locals.{Asked, IsTime, answered_id, cleared}
use Rattle.node_at.specs.Meanings.Meaning.{Steps}
use Rattle.node_at.specs.State.{State, seen}
use Rattle.node_at.specs.Steps.{IsDone, IsFate, IsStopped, landed_by, status_in}
use Rattle.node_at.specs.TurnText.{TurnStep}
use Rattle.node_at.specs.declared.local.Locally.{Locally}
use Rattle.node_at.specs.declared.local.Locally.TheVariants as answers
use Rattle.node_at.specs.declared.node.Node.{Node}
use Rattle.record_bytes.specs.Versions.{AreBodies as RecordsAreBodies}
use Rattle.site_memory.specs.Devices.{calls_in, opening_in}
use Rattle.site_memory.specs.Sites.{told_of}
use Rattle.site_memory.specs.ToldCalls.{AreArmed, CallsFailAsTold, LinksHold}
use Rattle.site_memory.specs.declared.machine.MemSite.{MemSite}
use Rattle.site_model.specs.Counts.{Rose}
use Rattle.site_model.specs.Told.{Made}
use Rattle.mirrored_nets.specs.Fates.{failures, refusals}
use Rattle.mirrored_nets.proofs.AskedMachines.{request_kept}
use Rattle.mirrored_nets.proofs.CallRows.{none_refused, refusals_join}
use Rattle.mirrored_nets.proofs.LeavingCalls.{leaving_outs}
use Rattle.mirrored_nets.proofs.RequestsRead.{is_step, step_done}
use Rattle.mirrored_nets.proofs.ToldMachines.{armed_row}
use Rattle.determined_nodes.specs.RequestsAreDetermined.{HasAsked}
use Rattle.mirrored_nets.proofs.LeftFiles.{opening_kept}
use Rattle.determined_nodes.proofs.RecordCalls.{Fits}
use Rattle.determined_nodes.proofs.RecordRoom.{record_fits}
use Rattle.determined_nodes.proofs.RenewedJournals.{same_calls}
use Rattle.determined_nodes.proofs.StepsBehind.{LeftBy}
use Rattle.determined_nodes.proofs.TriedOuts.{tried_sendings}
use Rattle.determined_nodes.proofs.TwoHalts.{HaltedAt}
use Rattle.determined_nodes.proofs.TwoRuns.{DidSteps}

-- its step was done; or it was refused; or its node halted
pub data AskedSo (since fails now : ℕ) (request : Local) (answer : Locally) (n m : State) (made : List Made) : Type 0 where
  was_done : (id : Numbers) → answer ≡ answers.Done id → refuses n.book request ≡ None → answered_id n.book request ≡ Some id → (steps : DidSteps false since fails now (Steps (events.Local request)) (cleared n) [] made)
      → LeftBy false since fails now (Steps (events.Local request)) (cleared n) m [] made steps → steps.anew ≡ [] → AskedSo since fails now request answer n m made
  was_refused : (why : Refusal) → answer ≡ answers.Refused why → refuses n.book request ≡ Some (refusal_of why) → m ≡ cleared n → made ≡ [] → AskedSo since fails now request answer n m made
  has_halted : answer ≡ answers.Halted → refuses n.book request ≡ None → HaltedAt since fails now (Steps (events.Local request)) (cleared n) m [] made → AskedSo since fails now request answer n m made

-- a request as it went
pub record DidAsk (since fails : ℕ) (request : Local) (answer : Locally) (n m : State) (old new : MemSite) (made : List Made) : Type 0 where
  pub now : ℕ
  pub time : now ≡ old.clock
  pub went : AskedSo since fails now request answer n m made
  pub grown : calls_in new.device ≡ calls_in old.device ++ made
  pub opening : opening_in new.device ≡ opening_in old.device
  pub arming : (told_of new).counts.arming ≡ (told_of old).counts.arming

-- a record's fate, with whether it was refused
fate_at : (entry : Option Record) (landed : Bool) (j : Journal) (first : List Made) (old new : MemSite) → IsFate landed entry j first (told_of old) (told_of new)
    → (Rose (told_of old).counts.disk (told_of new).counts.disk → 1 ≤ refusals first) → (refused : ℕ) × IsFateAt landed entry j.live j.limit j.end first refused × (refused ≤ refusals first)
fate_at None landed j first old new h some = (0, (h.0, refl), omega arith)
fate_at (Some r) true j first old new h some = (0, (h.0, h.1, refl), omega arith)
fate_at (Some r) false j first old new (inl (m, w, rose)) some = (1, inl (m, w, refl), some rose)
fate_at (Some r) false j first old new (inr (m, w)) some = (0, inr (m, w, refl), omega arith)

-- where no call of the disk failed beside those of the record's append
some_first : (first sends made : List Made) (old new : MemSite) → made ≡ first ++ sends → refusals sends ≡ 0 → new.tally.disk ≤ old.tally.disk + refusals made → new.tally.disk < 2 ^ 63
    → Rose (told_of old).counts.disk (told_of new).counts.disk → 1 ≤ refusals first
some_first first sends made old new e quiet most below rose =
    let a = ap refusals e in
    let b = refusals_join first sends in
    omega (arith, a, b, quiet, most, below, rose)

module _ (hold : LinksHold) (fail : CallsFailAsTold) (law : RecordsAreBodies) (request : Local) (fails : ℕ) (n m : Node) (old new : MemSite) (made : List Made) where
  abbrev since : ℕ
  since = length (calls_in old.device)

  added : (more : List Made) → calls_in new.device ≡ calls_in old.device ++ more → made ≡ drop since (calls_in new.device) → made ≡ more
  added more e is = is ∙ ap (drop since) e ∙ drop-append_seam (calls_in old.device) more

  -- its step was done
  module _ (id : Numbers) (H : HasAsked request fails (answers.Done id) n m old new made) (now status : ℕ) (S : IsDone status (cleared (seen n)) (seen m) (events.Local request) now (told_of old) (told_of new)) where
    abbrev bodies : List (List ℕ)
    bodies = H.goes.open_is.bodies

    abbrev its_step : TurnStep
    its_step = step_done (seen n) (seen m) request now status old new S

    abbrev sends : List Made
    sends = S.went.made

    its_calls : calls_in new.device ≡ calls_in old.device ++ (S.went.first ++ sends)
    its_calls = same_calls (calls_in new.device) (calls_in old.device ++ (S.went.first ++ sends)) S.went.calls

    made_is : made ≡ S.went.first ++ sends
    made_is = added (S.went.first ++ sends) its_calls H.adds.calls

    quiet : refusals sends ≡ 0
    quiet = none_refused sends (tried_sendings S.went.tried (leaving_outs (step n.book (events.Local request) now S.landed).outs S.leaving S.are))

    its_fate : (refused : ℕ) × IsFateAt S.landed its_step.entry n.journal.live n.journal.limit n.journal.end S.went.first refused × (refused ≤ refusals S.went.first)
    its_fate = fate_at its_step.entry S.landed n.journal S.went.first old new S.went.fate (some_first S.went.first sends made old new made_is quiet H.adds.refused H.adds.below)

    abbrev d : Doing
    d = record { landed = landed_by S.landed its_step.entry; first = S.went.first; made = sends; lost = S.went.lost; refused = its_fate.0 }

    row : AreArmed since fails made
    row = armed_row fail hold old new made fails H.goes.told (request_kept request (answers.Done id) n m old new H.requests) H.adds

    abbrev its_steps : DidSteps false since fails now (Steps (events.Local request)) (cleared (seen n)) [] made
    its_steps = record {
      first = its_step;
      rest = [];
      status = status;
      is = (is_step (seen n) (seen m) request now status old new S, S.answers);
      due = refl;
      d = d;
      ds = [];
      bodies = bodies;
      end = H.goes.open_is.keeps.end;
      doings = (record { formed = S.went.formed; landed = refl; tried = S.went.tried }, tt);
      fates = (subst (λ k. IsFateAt S.landed its_step.entry n.journal.live n.journal.limit k S.went.first its_fate.0) H.goes.open_is.keeps.end its_fate.1, tt);
      fits = record_fits law n.journal bodies old H.goes.room H.goes.open_is.keeps H.goes.limit its_step.entry S.went.formed;
      refused = its_fate.2;
      lost =
          let a = H.adds.counted in
          let b = H.adds.uncapped in
          let below : new.tally.link < 2 ^ 64 - 1 = omega (arith, b) in
          let k = S.went.counted below in
          let e = ap failures made_is in
          let f = ap failures (append-nil (S.went.first ++ sends)) in
          omega (arith, a, k, e, f);
      anew = [];
      are = made_is ∙ sym (append-nil (S.went.first ++ sends)) ∙ sym (append-nil ((S.went.first ++ sends) ++ []));
      armed = row;
    }

    pub done_so : refuses n.book request ≡ None → answered_id n.book request ≡ Some id → IsTime now (told_of old) → DidAsk since fails request (answers.Done id) (seen n) (seen m) old new made
    done_so taken named time = record {
      now = now;
      time = time old.clock refl;
      went = was_done id refl taken named its_steps (record {
        book = S.went.book;
        effects = S.went.effects ∙ ap (λ z. [] ++ z) (sym (append-nil its_step.came));
        kept = S.went.kept;
        runs = S.went.runs ∙ sym H.goes.runs;
        sure = S.went.sure ∙ sym H.goes.open_is.sure;
        live = S.went.live;
        limit = S.went.limit;
        generation = S.went.generation;
        unshut = S.went.unshut;
        end = (S.went.stands bodies H.goes.open_is.keeps).end ∙ ap (λ z. length (frames (bodies ++ z))) (sym (append-nil (landed_by S.landed its_step.entry)));
      }) refl;
      grown = its_calls ∙ ap (λ z. calls_in old.device ++ z) (sym made_is);
      opening = opening_kept old new _ (S.went.moments bodies H.goes.open_is.keeps);
      arming = request_kept request (answers.Done id) n m old new H.requests;
    }

  -- it halted
  module _ (H : HasAsked request fails answers.Halted n m old new made) (now : ℕ) (S : IsStopped (cleared (seen n)) (seen m) (events.Local request) now (told_of old) (told_of new)) where
    stop_calls : calls_in new.device ≡ calls_in old.device ++ S.stopped.first
    stop_calls = same_calls (calls_in new.device) (calls_in old.device ++ S.stopped.first) S.stopped.calls

    stop_made : made ≡ S.stopped.first
    stop_made = added S.stopped.first stop_calls H.adds.calls

    pub halted_so : refuses n.book request ≡ None → IsTime now (told_of old) → DidAsk since fails request answers.Halted (seen n) (seen m) old new made
    halted_so taken time = record {
      now = now;
      time = time old.clock refl;
      went = has_halted refl taken (record {
        step = record {
          entry = (plan n.book (events.Local request) now).entry;
          landed = true;
          leaving = S.leaving;
          behind = (step n.book (events.Local request) now true).book;
          came = (step n.book (events.Local request) now true).effects;
        };
        status = status_in (step n.book (events.Local request) now true).outs;
        is_first = (record { entry = refl; outcome = record { leaving = S.are; behind = refl; came = refl } }, refl);
        entry = S.entry;
        records = S.is;
        fits = subst (λ k. Fits (Some S.entry) k n.journal.limit) (sym H.goes.open_is.keeps.end)
            (record_fits law n.journal H.goes.open_is.bodies old H.goes.room H.goes.open_is.keeps H.goes.limit (Some S.entry) S.stopped.formed);
        first = S.stopped.first;
        makes = S.stopped.makes;
        some = let a = S.stopped.rose in let b = H.adds.raised in let e = H.adds.under in let f = ap refusals stop_made in omega (arith, a, b, e, f);
        are = stop_made;
        armed = armed_row fail hold old new made fails H.goes.told (request_kept request answers.Halted n m old new H.requests) H.adds;
        same = S.stopped.same;
      });
      grown = stop_calls ∙ ap (λ z. calls_in old.device ++ z) (sym stop_made);
      opening = opening_kept old new _ (S.stopped.moments H.goes.open_is.bodies H.goes.open_is.keeps);
      arming = request_kept request answers.Halted n m old new H.requests;
    }

  refused_so : (why : Refusal) → HasAsked request fails (answers.Refused why) n m old new made → refuses n.book request ≡ Some (refusal_of why) → seen m ≡ cleared (seen n)
      → DidAsk since fails request (answers.Refused why) (seen n) (seen m) old new made
  refused_so why H is same =
      let still = H.requests.nothing why refl in
      let none_more : calls_in new.device ≡ calls_in old.device ++ [] = ap (λ (s : MemSite). calls_in s.device) still ∙ sym (append-nil (calls_in old.device)) in
      let none : made ≡ [] = added [] none_more H.adds.calls in
      record {
        now = old.clock;
        time = refl;
        went = was_refused why refl is same none;
        grown = none_more ∙ ap (λ z. calls_in old.device ++ z) (sym none);
        opening = ap (λ (s : MemSite). opening_in s.device) still;
        arming = ap (λ (s : MemSite). (told_of s).counts.arming) still;
      }

  halts_by : (H : HasAsked request fails answers.Halted n m old new made) → Asked answers.Halted (seen n) (seen m) request (told_of old) (told_of new)
      → DidAsk since fails request answers.Halted (seen n) (seen m) old new made
  halts_by H (inl (off, same)) = absurd (true≢false (sym off ∙ H.goes.runs))
  halts_by H (inr (on, taken, (now, time, stops))) = halted_so H now stops taken time

  pub did_ask : (answer : Locally) → HasAsked request fails answer n m old new made → DidAsk since fails request answer (seen n) (seen m) old new made
  did_ask (answers.Done id) H = let D = H.requests.asked in done_so id H D.3.0 D.3.1 D.3.3 D.1 D.2 D.3.2
  did_ask (answers.Refused why) H = let D = H.requests.asked in refused_so why H D.1 D.2
  did_ask answers.NoRoom H = absurd (H.memory refl)
  did_ask answers.Halted H = halts_by H H.requests.asked
