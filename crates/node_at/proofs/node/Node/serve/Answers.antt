use Rattle.node_at.specs.ConnectionRequests.{meaning_of}
use Rattle.node_at.specs.State.{seen}
use Rattle.node_at.proofs.Turns.{serves_so}
use Rattle.node_at.proofs.node.Node.serve.Goals as goal

pub returns-clause-serves : goal.returns-clause-serves
returns-clause-serves g c =
    serves_so c.run-turned.result c.args.self.now.role (meaning_of c.read-asked.result) c.now-now.result (seen c.args.self.now) (seen c.run-turned.new.self) _ _ _ _ _
    c.read-asked.ensures.hears c.read-asked.ensures.fit c.read-asked.ensures.lost c.read-asked.ensures.received c.read-asked.ensures.line c.read-asked.ensures.counts c.now-now.ensures
    c.run-turned.ensures.works c.run-turned.ensures.received c.close.ensures
