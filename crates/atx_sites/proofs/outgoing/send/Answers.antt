use Rattle.std.proofs.Common.{rules}
use Rattle.atx_sites.proofs.Leavings.{goes_then, goes_begun}
use Rattle.atx_sites.proofs.outgoing.send.Goals as goal

pub addresses-preserved : goal.addresses-preserved
addresses-preserved g c =
    goes_begun _ _ g.S.Stream.AsRawFd.raw_fd c.in-Some.begun _ _ _ _ _ _ _ (goes_then _ _ _ _ _ _ _ _ _ _ _ c.addresses.invariant (c.write.ensures _)) (search rules) c.in-Some.ensures
