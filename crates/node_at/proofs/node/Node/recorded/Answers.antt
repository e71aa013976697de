use Rattle.std.proofs.Common.{◌∙◌, ap, Err}
use Rattle.decision_log.specs.KeptState.{known}
use Rattle.decision_log.specs.AppendedRecords.{ending}
use Rattle.decision_log.specs.Tokens.{token_of}
use Rattle.journal_at.specs.declared.journal.Append.TheVariants as appends
use Rattle.node_at.specs.State.{State, seen}
use Rattle.node_at.proofs.Exits.{ended, full_exit, landed_exit, refused_exit}
use Rattle.node_at.proofs.node.Node.recorded.Goals as goal

pub returns-in-Ok-clause-acts : goal.returns-in-Ok-clause-acts
returns-in-Ok-clause-acts g c =
    let n : State = seen c.args.self.now in
    let s : State = seen c.finish-status.new.self in
    landed_exit c.args.entry.entry c.args.plan c.args.landed.items c.args.absent.items n (record s { kept = known c.apply.new.self }) c.keep.new.journal _ _ _ c.requires.sure c.requires.begun c.requires.runs s c.in-Ok.token
    (ended c.keep.result appends.Done c.entry.result.now c.args.entry.entry n.journal c.keep.new.journal _ _ c.entry.ensures (ap ending c.in-Ok.is) c.keep.ensures.appended)
    c.keep.ensures.counted (c.in-Ok.ensures.token ∙ ap token_of c.entry.ensures) c.finish-status.ensures.sends c.finish-status.ensures.seen (λ i. record s { kept = c.apply.ensures i })
    c.finish-status.result c.finish-status.ensures.status

pub returns-in-Err-Refused-clause-acts : goal.returns-in-Err-Refused-clause-acts
returns-in-Err-Refused-clause-acts g c =
    let n : State = seen c.args.self.now in
    refused_exit c.args.entry.entry c.args.plan c.args.landed.items c.args.absent.items n (seen c.finish-status-in-Err-Refused.new.self) c.keep.new.journal _ _ _ c.requires.sure c.requires.begun c.requires.runs
    (ended c.keep.result appends.Refused c.entry.result.now c.args.entry.entry n.journal c.keep.new.journal _ _ c.entry.ensures (ap ending (c.in-Err-Refused.is ∙ ap Err c.in-Err-Refused.field-0-is)) c.keep.ensures.appended)
    c.keep.ensures.counted c.finish-status-in-Err-Refused.ensures.sends c.finish-status-in-Err-Refused.ensures.seen
    c.finish-status-in-Err-Refused.result c.finish-status-in-Err-Refused.ensures.status

pub returns-in-Err-Full-clause-acts : goal.returns-in-Err-Full-clause-acts
returns-in-Err-Full-clause-acts g c =
    let n : State = seen c.args.self.now in
    full_exit c.args.entry.entry c.args.plan c.args.landed.items c.args.absent.items n (seen c.finish-status-in-Err-Full.new.self) c.keep.new.journal _ _ _ c.requires.sure c.requires.begun c.requires.runs
    (ended c.keep.result appends.Full c.entry.result.now c.args.entry.entry n.journal c.keep.new.journal _ _ c.entry.ensures (ap ending (c.in-Err-Full.is ∙ ap Err c.in-Err-Full.field-0-is)) c.keep.ensures.appended)
    c.keep.ensures.counted c.finish-status-in-Err-Full.ensures.sends c.finish-status-in-Err-Full.ensures.seen
    c.finish-status-in-Err-Full.result c.finish-status-in-Err-Full.ensures.status
