use Rattle.std.proofs.Common.{refl, option_map}
use Rattle.node_at.specs.State.{seen}
use Rattle.node_at.proofs.AllowedOuts.{answer_may}
use Rattle.node_at.proofs.RefusalLaws.{refuses_so}
use Rattle.node_at.proofs.node.Node.refuse.Goals as goal

pub returns-in-Ok-clause-refuses : goal.returns-in-Ok-clause-refuses
returns-in-Ok-clause-refuses g c =
    refuses_so (seen c.args.self.now) (seen c.args.self.now) c.args.status (option_map (λ bytes. bytes.items) c.args.text.now) c.in-Ok.all.items _ _ refl c.in-Ok.ensures c.send_all.ensures
    c.requires.runs c.requires.sure

pub send_all-requires : goal.send_all-requires
send_all-requires g c = answer_may _ _ c.args.status (option_map (λ bytes. bytes.items) c.args.text.now) c.in-Ok.all.items c.in-Ok.ensures
