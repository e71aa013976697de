use Rattle.std.proofs.Common.{subst, sym, true≢false, ◌≡◌, ◌∙◌}
use Rattle.std.proofs.lemmas.Bool.{eqb-false, eqb-true}
use Rattle.std.specs.Prelude.{[], drop, length}
use Rattle.site_memory.specs.Entries.{mades}
use Rattle.site_memory.specs.ToldCalls.{AreArmed}
use Rattle.mirrored_nets.specs.Fates.{anew_of}
use Rattle.read_calls.proofs.EntryRows.{none_anew, some_anew}
use Rattle.read_calls.proofs.OneReading.{fails_one}
use Rattle.read_calls.proofs.reading.unstopped.Goals as goal
use Rattle.read_calls.proofs.reading.unstopped.Goals.{else-halted-via-then-halted+else-is_empty, else-halted-via-else-halted}
use Rattle.read_calls.proofs.reading.unstopped.Goals.{then-halted-2, else-halted-2}

pub returns-then-is_empty : goal.returns-then-is_empty
returns-then-is_empty c = λ armed became fates until k uncut reads is.
    let one = fails_one c.args.lines (mades c.args.calls.now) armed uncut c.args.halted became fates until reads.are is in
    let none = eqb-true (length c.anew.result.now) 0 (sym c.is_empty.ensures ∙ c.if-is_empty.true) in
    let empty = none_anew c.args.lines c.args.calls.now c.behind.result.now c.anew.result.now c.behind.ensures c.anew.ensures none in
    let (b, f, u) = one.at_gate c.if-halted.true empty in
    record {
      became_is = c.at_gate.ensures.became ∙ b;
      fates_are = c.at_gate.ensures.fates ∙ f;
      until_is = c.at_gate.ensures.until ∙ u;
    }

pub returns : goal.returns
returns c = λ armed became fates until k uncut reads is.
    let one = fails_one c.args.lines (mades c.args.calls.now) armed uncut c.args.halted became fates until reads.are is in
    let read = c.failed_fates.ensures (subst (λ n. AreArmed 0 n (mades c.args.calls.now)) k reads.failed) in
    elim c.if-halted-2.branch [
      | then-halted-2 w ↦
          let some : anew_of (drop c.args.lines (mades c.args.calls.now)) ≡ [] → ⊥ = elim c.else-halted.branch [
            | else-halted-via-then-halted+else-is_empty v ↦
                some_anew c.args.lines c.args.calls.now v.behind.result.now v.anew.result.now v.behind.ensures v.anew.ensures
                (eqb-false (length v.anew.result.now) 0 (sym v.is_empty.ensures ∙ v.if-is_empty.false))
            | else-halted-via-else-halted v ↦ λ none. true≢false (sym w.if-halted-2.true ∙ v.if-halted.false)
          ] in
          let (b, f, u) = one.anew w.if-halted-2.true some in
          record { became_is = w.became-is ∙ b; fates_are = read ∙ f; until_is = u }
      | else-halted-2 w ↦
          let (b, f, u) = one.stays w.if-halted-2.false in
          record { became_is = w.became-is ∙ b; fates_are = read ∙ f; until_is = u }
    ]
