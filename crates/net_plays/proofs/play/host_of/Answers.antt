use Rattle.std.proofs.Common.{sym}
use Rattle.world_laws.proofs.NumberedItems.{found, nth_none}
use Rattle.net_plays.proofs.play.host_of.Goals as goal

pub returns-then-number-eq0 : goal.returns-then-number-eq0
returns-then-number-eq0 c = rw c.if-number-eq0.true (sym (nth_none c.args.hosts.now))

pub returns : goal.returns
returns c = found c.args.number c.args.hosts.now c.get.result c.if-number-eq0.false c.get.ensures.lookup
