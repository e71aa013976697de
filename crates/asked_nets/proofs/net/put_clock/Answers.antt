use Rattle.std.proofs.Common.{sym}
use Rattle.world_laws.proofs.NumberedItems.{put_back}
use Rattle.asked_nets.proofs.net.put_clock.Goals as goal

pub returns-clause-put : goal.returns-clause-put
returns-clause-put c = sym (put_back c.args.number c.args.clock c.args.clocks.now.items c.if-number-eq0.false)
