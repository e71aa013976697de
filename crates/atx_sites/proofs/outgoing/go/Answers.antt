use Rattle.atx_sites.specs.declared.outgoing.Outgoing.{Outgoing}
use Rattle.atx_sites.proofs.DepartureTimes.{time_then}
use Rattle.std.proofs.Common.{ap}
use Rattle.atx_sites.proofs.outgoing.go.Goals as goal

pub returns-clause-time : goal.returns-clause-time
returns-clause-time g c =
    (time_then c.args.now c.args.outgoing.now c.go_on.new.outgoing c.give_up.new.outgoing c.go_on.ensures.time (ap (λ (o : Outgoing _). o.ends) c.give_up.ensures.same, c.give_up.ensures.rank), c.give_up.ensures.late)
