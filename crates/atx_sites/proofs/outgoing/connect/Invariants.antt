use Rattle.atx_sites.specs.Departures.{Unreached}
use Rattle.atx_sites.proofs.outgoing.connect.Given as goal

abbrev pub invariant-tries : goal.invariant-tries
invariant-tries g l = Unreached l.addresses (g.S.System.calls l.fn.system) (g.S.System.calls l.system)
