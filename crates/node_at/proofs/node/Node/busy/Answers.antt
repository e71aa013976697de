use Rattle.std.proofs.Common.{refl}
use Rattle.node_at.specs.State.{seen}
use Rattle.node_at.proofs.RefusalLaws.{busy_so}
use Rattle.node_at.proofs.node.Node.busy.Goals as goal

pub returns-clause-refuses : goal.returns-clause-refuses
returns-clause-refuses g c = busy_so (seen c.args.self.now) (seen c.args.self.now) c.say_busy.result _ _ refl c.say_busy.ensures c.requires.runs c.requires.sure
