use Rattle.std.proofs.Common.{◌∙◌}
use Rattle.participant_at.proofs.Employments.{employs}
use Rattle.participant_at.proofs.work.employ.Goals as goal

pub returns : goal.returns
returns c =
    c.making.ensures
    ∙ employs c.args.moment.now c.args.arrived.now _ c.in_ok-leaf.leaf c.args.work.now.context.registration c.in_ok-outs.outs
    c.in_ok-leaf.ensures c.in_ok-outs.ensures
