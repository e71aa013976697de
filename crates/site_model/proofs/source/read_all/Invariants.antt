use Rattle.std.proofs.Common.{length, ◌≤◌, ◌-◌}
use Rattle.std.specs.Io.KnownBytes.{Consumes}
use Rattle.site_model.specs.Counts.{RisesBy}
use Rattle.site_model.proofs.source.read_all.Given as goal

abbrev pub invariant-loop-n : goal.invariant-loop-n
invariant-loop-n g l = record {
  within : length l.bytes.items ≤ 1048576;
  later : g.S.Source.faults l.fn.source ≤ g.S.Source.faults l.source;
  given : RisesBy (length l.bytes.items) (g.S.Source.given l.fn.source) (g.S.Source.given l.source);
  taken : Consumes (g.S.Source.left l.fn.source) (g.S.Source.left l.source) l.bytes.items;
}

abbrev pub decreases-loop-n : goal.decreases-loop-n
decreases-loop-n g l = 1048576 - length l.bytes.items
