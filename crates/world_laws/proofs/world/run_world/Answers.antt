use Rattle.std.specs.List.{AllByRecursion}
use Rattle.std.specs.Prelude.{map}
use Rattle.std.proofs.Common.{arith, subst, sym}
use Rattle.model_laws.specs.Agreement.{HasOneSuperior, IsAgreed, IsBehindAnswers, IsToldTruly}
use Rattle.model_laws.specs.Settlement.{IsSettling, MayStart}
use Rattle.at_model.specs.World.{example_hosts}
use Rattle.world_laws.specs.Events.{event_of}
use Rattle.world_laws.proofs.world.run_world.Goals as goal

pub returns-clause-superior : goal.returns-clause-superior
returns-clause-superior c =
    subst HasOneSuperior (sym c.in_ok-world.ensures.world)
    (c.laws.ensures.superior (example_hosts c.args.nodes) (map event_of c.args.events.now) (c.laws.ensures.apart c.args.nodes (omega (arith, c.requires.nodes.1))))

pub returns-clause-agreed : goal.returns-clause-agreed
returns-clause-agreed c =
    subst IsAgreed (sym c.in_ok-world.ensures.world)
    (c.laws.ensures.agreement.agreed (example_hosts c.args.nodes) (map event_of c.args.events.now) (c.laws.ensures.apart c.args.nodes (omega (arith, c.requires.nodes.1))))

pub returns-clause-behind : goal.returns-clause-behind
returns-clause-behind c =
    subst IsBehindAnswers (sym c.in_ok-world.ensures.world)
    (c.laws.ensures.agreement.behind (example_hosts c.args.nodes) (map event_of c.args.events.now) (c.laws.ensures.apart c.args.nodes (omega (arith, c.requires.nodes.1))))

pub returns-clause-told : goal.returns-clause-told
returns-clause-told c =
    subst IsToldTruly (sym c.in_ok-world.ensures.world)
    (c.laws.ensures.agreement.told (example_hosts c.args.nodes) (map event_of c.args.events.now) (c.laws.ensures.apart c.args.nodes (omega (arith, c.requires.nodes.1))))

pub returns-clause-settles : goal.returns-clause-settles
returns-clause-settles c =
    subst (λ w. AllByRecursion MayStart w.nodes → IsSettling w) (sym c.in_ok-world.ensures.world)
    (c.laws.ensures.settling (example_hosts c.args.nodes) (map event_of c.args.events.now) (c.laws.ensures.apart c.args.nodes (omega (arith, c.requires.nodes.1))))

pub returns-in_err-world-clause-ids : goal.returns-in_err-world-clause-ids
returns-in_err-world-clause-ids c n = c.laws.ensures.ids.apart (example_hosts c.args.nodes) n (map event_of c.args.events.now)

pub returns-clause-ids : goal.returns-clause-ids
returns-clause-ids c n = c.laws.ensures.ids.apart (example_hosts c.args.nodes) n (map event_of c.args.events.now)
