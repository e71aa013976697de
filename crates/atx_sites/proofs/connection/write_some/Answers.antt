use Rattle.std.proofs.Common.{refl, arith}
use Rattle.atx_sites.proofs.FilePieces.{within}
use Rattle.atx_sites.proofs.Sendings.{sent_more, sent_none}
use Rattle.atx_sites.proofs.connection.write_some.Goals as goal
use Rattle.atx_sites.proofs.connection.write_some.Goals.{in-Ok, in-Err}

pub returns-in-Ok-eq0-clause-calls : goal.returns-in-Ok-eq0-clause-calls
returns-in-Ok-eq0-clause-calls g c = (_, sent_more _ _ _ _ _ _ _ _ _ c.pieces.invariant.1 c.write.ensures.calls c.in-Ok-eq0.is refl)

pub returns-in-Err-2-clause-calls : goal.returns-in-Err-2-clause-calls
returns-in-Err-2-clause-calls g c = sent_none _ _ _ _ _ _ _ _ _ c.pieces.invariant.1 c.write.ensures.calls c.in-Err.is refl

pub returns-in-Err-3-clause-calls : goal.returns-in-Err-3-clause-calls
returns-in-Err-3-clause-calls g c = (_, sent_none _ _ _ _ _ _ _ _ _ c.pieces.invariant.1 c.write.ensures.calls c.in-Err.is refl)

pub pieces-preserved : goal.pieces-preserved
pieces-preserved g c =
    elim c.match-write.branch [
      | in-Ok w ↦ (within _ _ _ c.args.bytes.now w.in-Ok.ensures.bound c.pieces.invariant.0 w.done-is, sent_more _ _ _ _ _ _ _ _ _ c.pieces.invariant.1 c.write.ensures.calls w.in-Ok.is w.done-is)
      | in-Err w ↦ (omega (arith, c.pieces.invariant.0, w.done-is), sent_none _ _ _ _ _ _ _ _ _ c.pieces.invariant.1 c.write.ensures.calls w.in-Err.is w.done-is)
    ]
