use Rattle.journal_at.proofs.Bodies.{gates_more}
use Rattle.journal_at.proofs.read.take_body.Goals as goal

pub returns-in-Ok-clause-placed : goal.returns-in-Ok-clause-placed
returns-in-Ok-clause-placed c gates at = gates_more c.args.bodies.now.items c.push_placed.new.bodies.items c.in_ok-next.next c.args.gate c.in-Ok.ensures c.in_ok-next.ensures.1 gates at
