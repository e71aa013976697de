use Rattle.std.proofs.Common.{◌≡◌, ◌+◌, take}
use Rattle.site_model.specs.Counts.{capped}
use Rattle.node_at.specs.Sizes.{framed_all}
use Rattle.node_at.proofs.size.with_records.Given as goal

abbrev pub invariant-loop-entry : goal.invariant-loop-entry
invariant-loop-entry l = l.size ≡ capped (l.fn.size + framed_all (take l.entry-index l.entries))
