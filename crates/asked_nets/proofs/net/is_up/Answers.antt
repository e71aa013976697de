use Rattle.std.proofs.Common.{sym, ◌∙◌, ap}
use Rattle.std.specs.Prelude.{is_some}
use Rattle.mirrored_nets.proofs.NetPlaces.{some_map}
use Rattle.mirrored_nets.proofs.Remirrored.{nth_within}
use Rattle.asked_nets.proofs.net.is_up.Goals as goal

pub returns-in-Some-clause-up : goal.returns-in-Some-clause-up
returns-in-Some-clause-up c = (c.in-Some.host.now, sym c.in-Some.ensures, c.is_some.ensures ∙ some_map (λ n. n.now) c.node.result ∙ ap is_some c.node.ensures)

pub returns-in-None-clause-there : goal.returns-in-None-clause-there
returns-in-None-clause-there c = λ least within. absurd (nth_within c.args.hosts.now c.args.number least within (sym c.in-None.ensures))
