use Rattle.std.proofs.Common.{◌≡◌, ◌+◌, Ok, sym, subst, ap, arith, ◌∙◌}
use Rattle.schedules.specs.Schedules.{at_line}
use Rattle.schedules.specs.Words.{lines_of}
use Rattle.audit_cmd.specs.JournalLines.{journal_line, lines_from}
use Rattle.audit_cmd.proofs.JournalTexts.{goes_on, within}
use Rattle.audit_cmd.proofs.journal_lines.read_all.Goals as goal

pub loop-line-preserved : goal.loop-line-preserved
loop-line-preserved c =
    let so_far = c.loop-line.lines.items in
    let number = c.loop-line.number in
    let read = subst (λ ls. at_line number (journal_line ls number c.in-Some.line.now) ≡ Ok c.in_ok-line.line) c.as_slice.ensures.value c.in_ok-line.ensures in
    let next = goes_on so_far number _ _ c.in-Some.line.now c.in_ok-line.line c.in-Some.ensures.0 read in
    let small = within so_far number c.in-Some.line.now c.in_ok-line.line read in (
      ap (λ ls. lines_from ls (number + 1) (lines_of c.in-Some.behind.now)) c.in_ok-keep.ensures
          ∙ (sym next ∙ c.loop-line.invariant.0),
      omega (arith, small),
    )
