use Rattle.std.proofs.Common.{arith}
use Rattle.world_laws.proofs.Runs.{one_new}
use Rattle.world_laws.proofs.scene.new_nodes.Goals as goal

pub loop-number-preserved : goal.loop-number-preserved
loop-number-preserved c = (
  let within = c.loop-number-test.true in omega (arith, within),
  one_new c.args.count c.loop-number.number c.loop-number.nodes.items c.push.new.self.items c.in_ok-node.node c.loop-number-test.true
      c.in_ok-node.ensures c.in_ok-push.ensures.items c.loop-number.invariant.1,
)
