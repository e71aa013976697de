use Rattle.std.proofs.Common.{refl}
use Rattle.std.specs.Prelude.{codes}
use Rattle.at_base.specs.declared.fault.Fault.TheVariants.{InvalidState, InvalidProtocol, InvalidParameters, CannotCreateContext, CannotRegisterParticipant, UnknownTransaction}
use Rattle.at_base.proofs.Names.{passes}
use Rattle.at_base.proofs.fault.Fault.named.Goals as goal

pub returns-in_default : goal.returns-in_default
returns-in_default c =
    passes c.args.name.now (codes "InvalidState") InvalidState _ _ c.in_default.not-InvalidState
    (passes c.args.name.now (codes "InvalidProtocol") InvalidProtocol _ _ c.in_default.not-InvalidProtocol
    (passes c.args.name.now (codes "InvalidParameters") InvalidParameters _ _ c.in_default.not-InvalidParameters
    (passes c.args.name.now (codes "CannotCreateContext") CannotCreateContext _ _ c.in_default.not-CannotCreateContext
    (passes c.args.name.now (codes "CannotRegisterParticipant") CannotRegisterParticipant _ _ c.in_default.not-CannotRegisterParticipant
    (passes c.args.name.now (codes "UnknownTransaction") UnknownTransaction _ _ c.in_default.not-UnknownTransaction refl)))))
