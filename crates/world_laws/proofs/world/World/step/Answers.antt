use Rattle.std.proofs.Common.{sym, ◌<◌, length, subst}
use Rattle.world_laws.specs.Runs.{Run}
use Rattle.world_laws.proofs.RunNodes.{are_ready}
use Rattle.world_laws.proofs.Runs.{stepped, whole_step, whole_steps}
use Rattle.world_laws.proofs.world.World.step.Goals as goal

pub step-requires-clause-ready : goal.step-requires-clause-ready
step-requires-clause-ready c =
    are_ready (length c.self.inside.events.items) c.self.inside.scene
    (subst (λ (r : Run). length r.events < 4294967295) (sym c.self.view_is) c.requires) c.self.invariant.fit

pub invariant_of-result : goal.invariant_of-result
invariant_of-result c =
    stepped c.ids_rise.ensures c.changes_by_moves.ensures c.self.inside.count c.self.inside.scene c.step.new.self
    c.self.inside.events.items c.push.new.self.items c.args.event c.self.invariant
    (subst (λ (r : Run). length r.events < 4294967295) (sym c.self.view_is) c.requires) c.ms-ms.ensures.short
    c.in_ok-steps.ensures.scene c.in_ok-push.ensures.items

pub returns-clause-world : goal.returns-clause-world
returns-clause-world c =
    whole_step c.args.self c.self.inside.count c.self.inside.events.items c.push.new.self.items c.args.event c.self.view_is
    c.in_ok-push.ensures.items

pub returns-clause-steps : goal.returns-clause-steps
returns-clause-steps c =
    whole_steps c.changes_by_moves.ensures c.args.self c.self.inside.count c.self.inside.scene c.self.inside.events.items c.args.event _ c.self.view_is
    c.self.invariant.scene c.in_ok-steps.ensures.steps
