use Rattle.std.proofs.Common.{◌≡◌, ◌≤◌, drop}
use Rattle.std.specs.Prelude.{vec_capacity}
use Rattle.site_memory.specs.Disk.{end_of, filled}
use Rattle.site_memory.proofs.file.fill_all.Given as goal

abbrev pub invariant-loop-range : goal.invariant-loop-range
invariant-loop-range l = record {
  rest : filled l.byte l.fn.buf.items l.ranges ≡ filled l.byte l.buf.items (drop l.range-index l.ranges);
  room : end_of (drop l.range-index l.ranges) ≤ vec_capacity l.buf;
  capacity : vec_capacity l.fn.buf ≤ vec_capacity l.buf;
}
