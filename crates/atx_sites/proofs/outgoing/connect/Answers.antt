use Rattle.std.proofs.Common.{rules}
use Rattle.atx_sites.proofs.Leavings.{tried}
use Rattle.atx_sites.proofs.outgoing.connect.Goals as goal

pub tries-preserved : goal.tries-preserved
tries-preserved g c = tried _ _ _ _ _ _ _ _ _ c.tries.invariant c.if-at-addresses.false (search rules) c.connect.ensures c.in-Err.is
