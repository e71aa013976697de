-- What the calls of a request that was done say of its step.
use Rattle.std.specs.Prelude.{ℕ, List, [], ◌++◌, ◌+◌, ◌-◌, ◌^◌, ◌≡◌, ◌≤◌, ◌<◌, IfSome, Option, Some, None, Bool, true, false, drop, length}
use Rattle.std.proofs.Common.{refl, sym, ap, subst, arith, ◌∙◌, inl, inr}
use Rattle.std.proofs.Math.Seq.{drop-append_seam}
use Rattle.std.proofs.lemmas.List.{append-nil}
use Rattle.at_base.specs.declared.event.Event.TheVariants as events
use Rattle.at_base.specs.declared.event.Local.{Local}
use Rattle.at_base.specs.declared.record.Record.{Record}
use Rattle.at_model.specs.Step.{plan, step}
use Rattle.journal_at.specs.StandingBodies.{Keeps}
use Rattle.journal_at.specs.declared.journal.Journal.{Journal}
use Rattle.journal_at.specs.declared.version.Version.TheVariants.{Two}
use Rattle.memory_net.proofs.Standing.{same_some}
use Rattle.node_at.specs.Doings.{Doing, IsDoing}
use Rattle.node_at.specs.Locals.{cleared}
use Rattle.node_at.specs.State.{State}
use Rattle.node_at.specs.Steps.{IsDone as IsStepDone, IsFate, landed_by}
use Rattle.node_at.specs.TurnText.{IsStep, TurnStep}
use Rattle.record_bytes.specs.Bytes.{bytes_of}
use Rattle.record_bytes.specs.Versions.{IsRecord}
use Rattle.record_bytes.specs.Versions.{AreBodies as RecordsAreBodies}
use Rattle.site_memory.specs.Devices.{calls_in}
use Rattle.site_memory.specs.Sites.{told_of}
use Rattle.site_memory.specs.declared.machine.MemSite.{MemSite}
use Rattle.site_model.specs.Told.{Made, Told}
use Rattle.mirrored_nets.specs.Fates.{refusals}
use Rattle.mirrored_nets.specs.Took.{Adds, HasRoom}
use Rattle.mirrored_nets.proofs.CallsRead.{IsRecordOf, Read}
use Rattle.mirrored_nets.proofs.LeavingCalls.{leaving_outs}
use Rattle.mirrored_nets.proofs.WholeTurns.{room}

-- whether the record was refused
abbrev pub refused_by : Bool → Option Record → ℕ
refused_by landed None = 0
refused_by true (Some r) = 0
refused_by false (Some r) = 1

pub fate_landed : (entry : Option Record) (landed : Bool) (j : Journal) (first : List Made) (old new : Told) → IsFate landed entry j first old new → entry ≡ None → landed ≡ true
fate_landed None landed j first old new h e = h.1
fate_landed (Some r) landed j first old new h e = absurd cc

-- a record that is not there was refused, and that is told
pub fate_record : RecordsAreBodies → (j : Journal) (bodies : List (List ℕ)) (s t : MemSite) (k : ℕ) → HasRoom s → Keeps j bodies (told_of s) → j.limit ≡ 4294967295
    → (entry : Option Record) (landed : Bool) (first : List Made) → IfSome entry (λ r. IsRecord Two r (bytes_of r)) → IsFate landed entry j first (told_of s) (told_of t) → t.tally.disk < 2 ^ 63
    → t.tally.disk ≤ s.tally.disk + k → IsRecordOf entry landed j first (refused_by landed entry) × (refused_by landed entry ≤ k)
fate_record law j bodies s t k has keeps limit None landed first formed h below most = ((h.0, refl), omega arith)
fate_record law j bodies s t k has keeps limit (Some r) true first formed h below most = ((h.0, refl), omega arith)
fate_record law j bodies s t k has keeps limit (Some r) false first formed (inl (made, within, rose)) below most = ((made, refl), omega (arith, rose, below, most))
fate_record law j bodies s t k has keeps limit (Some r) false first formed (inr (made, past)) below most =
    let a = room j bodies s has keeps in
    let b = (law Two r (bytes_of r) formed).0.most in
    let e = keeps.end in
    absurd (omega (arith, a, b, e, past, limit))

-- the step that a request came to, and what was done of it
module _ (n m : State) (l : Local) (now status : ℕ) (s t : MemSite) (D : IsStepDone status (cleared n) m (events.Local l) now (told_of s) (told_of t)) where
  abbrev pub step_done : TurnStep
  step_done = record {
    entry = (plan n.book (events.Local l) now).entry;
    landed = D.landed;
    leaving = D.leaving;
    behind = (step n.book (events.Local l) now D.landed).book;
    came = (step n.book (events.Local l) now D.landed).effects;
  }

  abbrev pub doing_done : Doing
  doing_done = record {
    landed = landed_by D.landed (plan n.book (events.Local l) now).entry;
    first = D.went.first;
    made = D.went.made;
    lost = D.went.lost;
    refused = refused_by D.landed (plan n.book (events.Local l) now).entry;
  }

  pub is_step : IsStep n.book (events.Local l) now step_done
  is_step = record { entry = refl; outcome = record { leaving = D.are; behind = refl; came = refl } }

  pub is_doing : IsDoing n.kept step_done doing_done
  is_doing = record { formed = D.went.formed; landed = refl; tried = D.went.tried }

  -- its calls
  pub request_read : RecordsAreBodies → (old : MemSite) (made : List Made) (bodies : List (List ℕ)) → s ≡ old → HasRoom old → Keeps n.journal bodies (told_of s) → n.journal.limit ≡ 4294967295
      → Adds made old t
      → (R : Read n.journal [] made step_done [] doing_done []) × (R.anew ≡ [])
  request_read law old made bodies same has keeps limit adds = (
    record {
      anew = [];
      are =
          adds.calls
          ∙ ap (λ (z : MemSite). drop (length (calls_in z.device)) (calls_in t.device)) (sym same)
          ∙ ap (drop (length (calls_in s.device))) (same_some (calls_in t.device) (calls_in s.device ++ (D.went.first ++ D.went.made)) D.went.calls)
          ∙ drop-append_seam (calls_in s.device) (D.went.first ++ D.went.made)
          ∙ ap (λ z. D.went.first ++ z) (sym (append-nil D.went.made) ∙ sym (append-nil (D.went.made ++ [])));
      anew_are = tt;
      line_sent = tt;
      record_is = fate.0;
      outs = (leaving_outs (step n.book (events.Local l) now D.landed).outs D.leaving D.are, tt);
      unrecorded = tt;
      lost =
          let a = adds.counted in
          let b = adds.uncapped in
          let e = ap (λ (z : MemSite). z.tally.link) same in
          let below : t.tally.link < 2 ^ 64 - 1 = omega (arith, b) in
          let k = D.went.counted below in
          omega (arith, a, e, k);
      refused = fate.1;
      both = λ some. absurd (omega (arith, some));
    },
    refl,
  )
    where
      most : t.tally.disk ≤ s.tally.disk + refusals made
      most = let a = adds.refused in let e = ap (λ (z : MemSite). z.tally.disk) same in omega (arith, a, e)

      fate : IsRecordOf (plan n.book (events.Local l) now).entry D.landed n.journal D.went.first (refused_by D.landed (plan n.book (events.Local l) now).entry)
          × (refused_by D.landed (plan n.book (events.Local l) now).entry ≤ refusals made)
      fate =
          fate_record law n.journal bodies s t (refusals made) (subst HasRoom (sym same) has) keeps limit (plan n.book (events.Local l) now).entry D.landed D.went.first D.went.formed D.went.fate adds.below most
