use Rattle.std.proofs.Common.{Ok, ◌∙◌, ap}
use Rattle.node_at.specs.State.{State, seen}
use Rattle.node_at.proofs.Turns.{turns_opened}
use Rattle.node_at.proofs.node.Node.take_turn.Goals as goal

pub returns-in-Ok-Opened-clause-turns : goal.returns-in-Ok-Opened-clause-turns
returns-in-Ok-Opened-clause-turns g c =
    let n : State = seen c.args.self.now in
    turns_opened c.serve.result c.args.self.now.role n (record n { effects = c.clear.new.self.items }) (seen c.serve.new.self) _ _ _ c.take.result (c.in-Ok-Opened.is ∙ ap Ok c.in-Ok-Opened.field-0-is)
    c.if-self.false (λ i. record n { effects = c.clear.ensures.items i }) c.take.ensures c.serve.ensures.serves
