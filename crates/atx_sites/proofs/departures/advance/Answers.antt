use Rattle.atx_sites.proofs.DepartureBounds.{within_advanced}
use Rattle.atx_sites.proofs.departures.advance.Goals as goal

pub returns-clause-within : goal.returns-clause-within
returns-clause-within g c = λ h. within_advanced g.S.Stream.AsRawFd.raw_fd c.args.now _ _ _ _ _ c.go_each.ensures c.close_over.ensures h
