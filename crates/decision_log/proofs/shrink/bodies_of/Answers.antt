use Rattle.decision_log.specs.KeptState.{known}
use Rattle.decision_log.proofs.Bodies.{all_three}
use Rattle.decision_log.proofs.shrink.bodies_of.Goals as goal

pub returns : goal.returns
returns c =
    all_three (known c.args.kept.now) c.start.result c.live.result.now c.done.result.now c.new-bodies.result.items _ _ _ c.new-bodies.ensures.items c.start.ensures c.live.ensures c.done.ensures
    c.in_ok-add_start.ensures c.in_ok-add_live.ensures c.in_ok-add_outcomes.ensures
