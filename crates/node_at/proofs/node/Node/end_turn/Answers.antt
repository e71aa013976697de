use Rattle.node_at.specs.State.{seen}
use Rattle.node_at.proofs.TurnAnswers.{goes_on}
use Rattle.node_at.proofs.node.Node.end_turn.Goals as goal

pub returns-else-self-clause-ends : goal.returns-else-self-clause-ends
returns-else-self-clause-ends g c =
    goes_on g.S.Site.told c.args.turned c.shrink_if_due.new.self.shrunk c.shrink_if_due.result (seen c.args.self.now) (seen c.shrink_if_due.new.self) c.args.site.now c.shrink_if_due.new.site c.in-Served.is c.if-self.false
    c.shrink_if_due.ensures.told c.shrink_if_due.ensures.shrinks c.shrink_if_due.ensures.nothing c.shrink_if_due.ensures.memory c.shrink_if_due.ensures.stays c.shrink_if_due.ensures.counted
