use Rattle.std.proofs.Common.{ap, sym, ◌+◌, ◌∙◌}
use Rattle.world_laws.proofs.NamedNodes.{first_here, first_later}
use Rattle.world_laws.proofs.places.place_of.Goals as goal

pub returns-then-has : goal.returns-then-has
returns-then-has c =
    first_here (c.loop-node.number + 1) c.loop-node.node-index c.node-item.result c.args.nodes.now c.args.address.now
    c.loop-node-test.true c.node-item.is (sym c.has.ensures ∙ c.if-has.true) c.loop-node.invariant.1

pub loop-node-preserved : goal.loop-node-preserved
loop-node-preserved c = (
  ap (λ k. k + 1) c.loop-node.invariant.0,
  first_later (c.loop-node.number + 1) c.loop-node.node-index c.node-item.result c.args.nodes.now c.args.address.now
      c.loop-node-test.true c.node-item.is (sym c.has.ensures ∙ c.if-has.false) c.loop-node.invariant.1,
)
