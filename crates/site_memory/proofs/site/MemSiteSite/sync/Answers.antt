use Rattle.site_memory.specs.Sites.{counts_of, link_of}
use Rattle.site_memory.proofs.ArmedCalls.{on_disk}
use Rattle.site_memory.proofs.MachineCalls.{synced_on}
use Rattle.site_memory.proofs.site.MemSiteSite.sync.Goals as goal

pub returns-clause-call : goal.returns-clause-call
returns-clause-call c =
    synced_on _ _ (link_of c.args.self.now.line) c.args.self.now.clock (counts_of c.args.self.now.device.arming c.args.self.now.links c.args.self.now.tally c.args.self.now.attached.names) _ c.args.file _ _ c.sync-noted.ensures c.answer.ensures.says (record { cause = c.answer.ensures.cause; others = on_disk c.args.self.now.device.arming _ c.args.self.now.links c.args.self.now.tally c.args.self.now.attached.names c.sync-noted.ensures.arming })
