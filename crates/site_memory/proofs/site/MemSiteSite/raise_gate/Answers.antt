use Rattle.site_memory.specs.Sites.{counts_of, link_of}
use Rattle.site_memory.proofs.ArmedCalls.{on_gate, twice_arming}
use Rattle.site_memory.proofs.MachineCalls.{raised_on}
use Rattle.site_memory.proofs.site.MemSiteSite.raise_gate.Goals as goal

pub returns-clause-call : goal.returns-clause-call
returns-clause-call c =
    raised_on _ _ (link_of c.args.self.now.line) c.args.self.now.clock (counts_of c.args.self.now.device.arming c.args.self.now.links c.args.self.now.tally c.args.self.now.attached.names) _ c.args.file c.args.at _ _ c.raise-noted.ensures c.answer.ensures.says (record { cause = c.answer.ensures.cause; others = on_gate c.args.self.now.device.arming _ c.args.self.now.links c.args.self.now.tally c.args.self.now.attached.names (twice_arming _ _ _ _ _ c.raise-noted.ensures) })
