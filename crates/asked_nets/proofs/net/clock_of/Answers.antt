use Rattle.std.proofs.Common.{sym}
use Rattle.std.specs.Prelude.{Some}
use Rattle.world_laws.proofs.NumberedItems.{found}
use Rattle.asked_nets.proofs.net.clock_of.Goals as goal

pub returns-in-Some-clause-clock : goal.returns-in-Some-clause-clock
returns-in-Some-clause-clock c = sym (found c.args.number c.args.clocks.now (Some c.in-Some.clock) c.if-number-eq0.false c.in-Some.ensures.lookup)
