use Rattle.site_memory.specs.Sites.{counts_of, link_of}
use Rattle.site_memory.proofs.ArmedCalls.{on_link}
use Rattle.site_memory.proofs.MachineCalls.{sent_on}
use Rattle.site_memory.proofs.site.MemSiteSite.send.Goals as goal

pub returns-clause-call : goal.returns-clause-call
returns-clause-call c =
    sent_on _ _ (link_of c.args.self.now.line) c.args.self.now.clock (counts_of c.args.self.now.device.arming c.args.self.now.links c.args.self.now.tally c.args.self.now.attached.names) _ c.args.bytes.now _ _ c.send_kept-noted.ensures.runs c.answer.ensures.says (record { cause = c.answer.ensures.cause; others = on_link c.args.self.now.device.arming _ c.args.self.now.links c.args.self.now.tally c.args.self.now.attached.names c.send_kept-noted.ensures.runs.arming })
