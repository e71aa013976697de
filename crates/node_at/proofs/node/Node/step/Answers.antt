use Rattle.std.proofs.Common.{subst}
use Rattle.decision_log.specs.KeptState.{known}
use Rattle.node_at.specs.StepMemory.{AreTexts}
use Rattle.node_at.specs.State.{seen}
use Rattle.node_at.proofs.AllowedOuts.{absent_may, landed_may, plain_may}
use Rattle.node_at.proofs.ModelSteps.{sound_plain, sound_recorded}
use Rattle.node_at.proofs.node.Node.step.Goals as goal

pub finish-status-requires-clause-leave : goal.finish-status-requires-clause-leave
finish-status-requires-clause-leave g c =
    let are = subst (AreTexts c.in-Ok.field-0.plan) c.in-Plain.is c.in-Ok.ensures.texts in
    plain_may c.outs_may_leave.ensures c.args.self.now.book (known c.args.self.now.kept) c.args.event.now c.args.now c.requires.promises
    (known c.prepare.new.self.kept) c.in-Ok.field-0.plan c.in-Plain.outs.items c.prepare.ensures.kept c.in-Ok.ensures.plan are.0 are.1

pub recorded-requires-clause-landed : goal.recorded-requires-clause-landed
recorded-requires-clause-landed g c =
    let are = subst (AreTexts c.in-Ok.field-0.plan) c.in-Recorded.is c.in-Ok.ensures.texts in
    landed_may c.outs_may_leave.ensures c.args.self.now.book (known c.args.self.now.kept) c.args.event.now c.args.now c.requires.promises
    (known c.prepare.new.self.kept) c.in-Ok.field-0.plan c.in-Recorded.entry.entry c.in-Recorded.landed.items c.prepare.ensures.kept c.in-Ok.ensures.plan are.0 are.1

pub recorded-requires-clause-absent : goal.recorded-requires-clause-absent
recorded-requires-clause-absent g c =
    let are = subst (AreTexts c.in-Ok.field-0.plan) c.in-Recorded.is c.in-Ok.ensures.texts in
    absent_may c.outs_may_leave.ensures c.args.self.now.book (known c.args.self.now.kept) c.args.event.now c.args.now c.requires.promises
    (known c.prepare.new.self.kept) c.in-Ok.field-0.plan c.in-Recorded.entry.entry c.in-Recorded.absent.items c.prepare.ensures.kept c.in-Ok.ensures.plan are.0 are.2

pub returns-in-Plain-clause-sound : goal.returns-in-Plain-clause-sound
returns-in-Plain-clause-sound g c =
    sound_plain c.keeps_bounds.ensures (seen c.finish-status.new.self) (seen c.args.self.now) (seen c.prepare.new.self) c.in-Ok.field-0.plan c.args.event.now c.args.now c.in-Ok.ensures.plan c.requires.sound c.requires.event
    c.prepare.ensures.same c.finish-status.ensures.seen

pub returns-in-Recorded-clause-sound : goal.returns-in-Recorded-clause-sound
returns-in-Recorded-clause-sound g c =
    sound_recorded c.keeps_bounds.ensures (seen c.recorded.new.self) (seen c.args.self.now) (seen c.prepare.new.self) c.in-Ok.field-0.plan c.args.event.now c.args.now c.in-Ok.ensures.plan c.requires.sound c.requires.event
    c.prepare.ensures.same c.recorded.result _ _ _ _ _ c.recorded.ensures.acts
