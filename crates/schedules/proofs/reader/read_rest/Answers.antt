use Rattle.std.proofs.Common.{◌+◌, sym, ap, arith, ◌∙◌}
use Rattle.schedules.specs.Schedules.{lines_from, onto}
use Rattle.schedules.specs.Words.{lines_of}
use Rattle.schedules.proofs.Rest.{goes_on, within}
use Rattle.schedules.proofs.reader.read_rest.Goals as goal

pub loop-line-preserved : goal.loop-line-preserved
loop-line-preserved c =
    let nodes = c.args.nodes in
    let number = c.loop-line.number in
    let next = goes_on nodes number _ _ c.in-Some.line.now c.in_ok-line.line c.loop-line.lines.items c.in-Some.ensures.0 c.in_ok-line.ensures in
    let small = within nodes number c.in-Some.line.now c.in_ok-line.line c.in_ok-line.ensures in (
      ap (λ ls. onto ls (lines_from nodes (number + 1) (lines_of c.in-Some.behind.now))) c.in_ok-keep.ensures
          ∙ (sym next ∙ c.loop-line.invariant.0),
      omega (arith, small),
    )
