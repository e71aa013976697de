use Rattle.std.proofs.Common.{[], sym, subst}
use Rattle.node_at.specs.Texts.{AreLeaving}
use Rattle.node_at.specs.Texts.AreLeaving.{none}
use Rattle.node_at.proofs.text.encode_outs.Goals as goal

pub loop-out-init : goal.loop-out-init
loop-out-init c = subst (AreLeaving []) (sym c.new-all.ensures.items) none
