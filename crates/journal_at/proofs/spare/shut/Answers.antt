use Rattle.std.proofs.Common.{[], ◌∷◌, refl}
use Rattle.site_model.specs.Told.Call.{Sync}
use Rattle.journal_at.specs.Compactions.{gate_calls}
use Rattle.journal_at.specs.Pairs.{Holds}
use Rattle.journal_at.proofs.DiskCalls.{acts_synced, times}
use Rattle.journal_at.proofs.ShutGates.{readies_cut, readies_then}
use Rattle.journal_at.proofs.SpareFiles.{synced}
use Rattle.journal_at.proofs.spare.shut.Goals as goal

pub returns-in-Ok-clause-readies : goal.returns-in-Ok-clause-readies
returns-in-Ok-clause-readies g c =
    readies_then (gate_calls c.args.unshut.now c.args.file) (Sync c.args.file ∷ []) c.args.unshut.now c.shut_gate.new.unshut c.shut_gate.result _ c.sync.result _ _ _ c.in-Ok.is c.in-Ok.ensures.flag c.shut_gate.ensures.readies (acts_synced c.args.file c.sync.result _ _ c.sync.ensures)

pub returns-in-Err-clause-readies : goal.returns-in-Err-clause-readies
returns-in-Err-clause-readies g c =
    readies_cut (gate_calls c.args.unshut.now c.args.file) (Sync c.args.file ∷ []) c.args.unshut.now c.shut_gate.new.unshut c.shut_gate.result _ _ _ _ _ c.in-Err.is refl c.shut_gate.ensures.readies

pub returns-in-Ok-clause-saved : goal.returns-in-Ok-clause-saved
returns-in-Ok-clause-saved g c live bodies flip safe =
    let s = c.shut_gate.ensures.saved live bodies flip safe in
    let t = synced live c.args.file flip bodies c.shut_gate.new.unshut c.sync.result _ _ s.safe c.sync.ensures in
    record { safe = t.safe; time = times _ _ _ c.shut_gate.ensures.readies.acts.runs.made c.sync.ensures.calls.made (Holds live bodies) c.shut_gate.ensures.readies.acts.runs.grown c.sync.ensures.calls.grown s.time t.time }
