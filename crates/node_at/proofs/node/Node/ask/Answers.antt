use Rattle.std.proofs.Common.{refl, sym, ◌∙◌}
use Rattle.at_base.specs.declared.event.Event.TheVariants as events
use Rattle.node_at.specs.declared.step.Stepped.TheVariants as stepped
use Rattle.node_at.specs.State.{seen}
use Rattle.node_at.proofs.DueItems.{node_after}
use Rattle.node_at.proofs.LocalRequests.{asked_done, asked_halted, node_from}
use Rattle.node_at.proofs.node.Node.ask.Goals as goal

pub returns-in-Done-clause-asked : goal.returns-in-Done-clause-asked
returns-in-Done-clause-asked g c =
    asked_done (seen c.args.self.now) (seen c.args.self.now) (seen c.step.new.self) c.args.request c.now-now.result _ _ _ refl c.requires.effects c.requires.runs c.requires.taken c.now-now.ensures
    c.in-Some.id c.in-Done.status (sym (c.id_of.ensures c.args.request c.named_by-named.ensures) ∙ c.in-Some.is) c.in-Done.ensures.steps

pub returns-in-Done-clause-node : goal.returns-in-Done-clause-node
returns-in-Done-clause-node g c =
    node_after (stepped.Done c.in-Done.status) (seen c.args.self.now) (seen c.step.new.self) (events.Local c.args.request) c.now-now.result _ _ c.keeps_on.ensures c.promises_stay.ensures c.records_are_well_formed.ensures tt
    (node_from refl c.requires.node) c.in-Done.ensures.steps c.in-Done.ensures.sound c.in-Done.ensures.end

pub returns-clause-asked : goal.returns-clause-asked
returns-clause-asked g c =
    asked_halted (seen c.args.self.now) (seen c.args.self.now) (seen c.step.new.self) c.args.request c.now-now.result _ _ _ refl c.requires.effects c.requires.runs c.requires.taken c.now-now.ensures
    c.in-Halted.ensures.steps

pub returns-clause-node : goal.returns-clause-node
returns-clause-node g c =
    node_after stepped.Halted (seen c.args.self.now) (seen c.step.new.self) (events.Local c.args.request) c.now-now.result _ _ c.keeps_on.ensures c.promises_stay.ensures c.records_are_well_formed.ensures tt
    (node_from refl c.requires.node) c.in-Halted.ensures.steps c.in-Halted.ensures.sound c.in-Halted.ensures.end
