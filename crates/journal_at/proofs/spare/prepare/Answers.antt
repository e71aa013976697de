use Rattle.std.proofs.Common.{refl, subst}
use Rattle.journal_at.specs.Compactions.{Safe, fill_calls, shut_calls}
use Rattle.journal_at.specs.Pairs.{Holds}
use Rattle.journal_at.proofs.DiskCalls.{acts_laid, times}
use Rattle.journal_at.proofs.ShutGates.{readies_cut, readies_then}
use Rattle.journal_at.proofs.SpareFiles.{prepared, text_time}
use Rattle.journal_at.proofs.spare.prepare.Goals as goal

pub returns-in-Ok-clause-readies : goal.returns-in-Ok-clause-readies
returns-in-Ok-clause-readies g c =
    readies_then (shut_calls c.args.unshut.now c.args.file) (fill_calls c.args.file c.args.text.now) c.args.unshut.now c.shut.new.unshut c.shut.result _ c.stage.result _ _ _ c.in-Ok.is c.in-Ok.ensures.flag c.shut.ensures.readies (acts_laid c.args.file 1 c.args.text.now c.stage.result _ _ c.stage.ensures)

pub returns-in-Err-clause-readies : goal.returns-in-Err-clause-readies
returns-in-Err-clause-readies g c =
    readies_cut (shut_calls c.args.unshut.now c.args.file) (fill_calls c.args.file c.args.text.now) c.args.unshut.now c.shut.new.unshut c.shut.result _ _ _ _ _ c.in-Err.is refl c.shut.ensures.readies

pub returns-in-Ok-clause-prepares : goal.returns-in-Ok-clause-prepares
returns-in-Ok-clause-prepares g c live bodies flip safe =
    let s = c.shut.ensures.saved live bodies flip safe in
    let now = subst (λ z. Safe z live bodies (g.S.Site.told c.shut.new.site)) c.in-Ok.ensures.flag s.safe in
    prepared live c.args.file flip bodies c.args.text.now _ _ now (c.in-Ok.ensures.settled live bodies flip safe) c.stage.result _ c.in-Ok.ensures.flag c.stage.ensures

pub returns-in-Ok-clause-time : goal.returns-in-Ok-clause-time
returns-in-Ok-clause-time g c live bodies flip safe =
    let s = c.shut.ensures.saved live bodies flip safe in
    let now = subst (λ z. Safe z live bodies (g.S.Site.told c.shut.new.site)) c.in-Ok.ensures.flag s.safe in
    let t = text_time live c.args.file flip bodies c.args.text.now _ _ now (c.in-Ok.ensures.settled live bodies flip safe) c.stage.result c.stage.ensures in
    times _ _ _ c.shut.ensures.readies.acts.runs.made c.stage.ensures.calls.made (Holds live bodies) c.shut.ensures.readies.acts.runs.grown c.stage.ensures.calls.grown s.time t
