use Rattle.std.proofs.Common.{refl}
use Rattle.atx_sites.proofs.Pausing.{polled}
use Rattle.atx_sites.proofs.looking.polls.Goals as goal

pub returns : goal.returns
returns g c = polled _ _ _ c.poll.result _ _ _ c.ranges.millis (record { sfits = c.poll.type_inv }) c.poll.ensures refl
