use Rattle.std.proofs.Common.{refl}
use Rattle.atx_sites.proofs.DepartureLists.{went}
use Rattle.atx_sites.proofs.departures.go_at.Goals as goal

pub returns : goal.returns
returns g c = (_, _, c.index_mut-outgoing.ensures.value, went g.S.Stream.AsRawFd.raw_fd c.args.now c.index_mut-outgoing.result.now c.go_where.new.outgoing _ _ c.go_where.ensures.calls c.go_where.ensures.same c.go_where.ensures.time, refl)
