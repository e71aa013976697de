use Rattle.std.proofs.Common.{ap, rules, subst, sym}
use Rattle.model_laws.specs.Order.{IsInOrder}
use Rattle.world_laws.specs.Walks.{Walk}
use Rattle.world_laws.proofs.node.Node.tick.Goals as goal

pub tick-requires : goal.tick-requires
tick-requires c =
    subst IsInOrder (ap (λ (w : Walk). w.book) (sym c.set_out-walk.ensures.walk)) (c.requires.order c.in-Some.book (search rules))
