use Rattle.std.proofs.Common.{arith, ◌∙◌}
use Rattle.schedules.proofs.InitiatorRest.{carried, one_more}
use Rattle.schedules.proofs.initiator_reader.read_all.Goals as goal

pub loop-line-preserved : goal.loop-line-preserved
loop-line-preserved c =
    let made = c.loop-line.made in
    let same = carried made c.made-made.result c.loop-line.number _ _ c.in-Some.line.now c.in_ok-line.line c.loop-line.lines.items _
    c.in-Some.ensures.0 c.in_ok-line.ensures c.made-made.ensures c.in_ok-keep.ensures in
    record {
      so_far = same ∙ c.loop-line.invariant.so_far;
      within = omega (arith, c.in-Some.ensures.1, c.loop-line.invariant.within);
      fewer = omega (arith, one_more made c.in_ok-line.line, c.made-made.ensures, c.loop-line.invariant.fewer);
    }
