use Rattle.std.proofs.Common.{take}
use Rattle.node_at.specs.Texts.{AreLeaving}
use Rattle.node_at.proofs.text.encode_outs.Given as goal

abbrev pub invariant-loop-out : goal.invariant-loop-out
invariant-loop-out l = AreLeaving (take l.out-index l.outs) l.all.items
