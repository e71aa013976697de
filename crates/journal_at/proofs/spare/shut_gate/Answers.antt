use Rattle.std.proofs.Common.{subst}
use Rattle.journal_at.specs.Compactions.{Safe}
use Rattle.journal_at.proofs.ShutGates.{readies_failed, readies_shut}
use Rattle.journal_at.proofs.SpareFiles.{gate_done}
use Rattle.journal_at.proofs.spare.shut_gate.Goals as goal

pub returns-in-Ok-clause-saved : goal.returns-in-Ok-clause-saved
returns-in-Ok-clause-saved g c live bodies flip safe = gate_done live c.args.file flip bodies _ _ (subst (λ z. Safe z live bodies (g.S.Site.told c.args.site.now)) c.if-not-unshut.false safe) c.write_at.result _ c.in-Ok.is c.write_at.ensures

pub returns-in-Ok-clause-readies : goal.returns-in-Ok-clause-readies
returns-in-Ok-clause-readies g c = readies_shut c.args.unshut.now c.args.file c.write_at.result _ _ _ c.if-not-unshut.false c.in-Ok.is c.write_at.ensures

pub returns-in-Err-clause-readies : goal.returns-in-Err-clause-readies
returns-in-Err-clause-readies g c = readies_failed c.args.unshut.now c.args.file c.write_at.result _ _ _ c.if-not-unshut.false c.in-Err.is c.write_at.ensures
