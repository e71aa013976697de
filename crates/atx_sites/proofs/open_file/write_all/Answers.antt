use Rattle.std.proofs.Common.{refl, arith}
use Rattle.atx_sites.proofs.FilePieces.{placed, within, wrote_more, wrote_none}
use Rattle.atx_sites.proofs.open_file.write_all.Goals as goal
use Rattle.atx_sites.proofs.open_file.write_all.Goals.{in-Ok, in-Err}

pub returns-in-Ok-eq0-clause-calls : goal.returns-in-Ok-eq0-clause-calls
returns-in-Ok-eq0-clause-calls g c =
    let e = placed _ c.args.at c.pieces.done _ _ _ _ _ c.write_at.ensures.calls c.in-Some.ensures.1 in
    (_, wrote_more _ _ _ _ _ _ _ _ _ _ c.pieces.invariant.1 e c.in-Ok-eq0.is refl)

pub returns-in-Err-2-clause-calls : goal.returns-in-Err-2-clause-calls
returns-in-Err-2-clause-calls g c =
    let e = placed _ c.args.at c.pieces.done _ _ _ _ _ c.write_at.ensures.calls c.in-Some.ensures.1 in
    (_, wrote_none _ _ _ _ _ _ _ _ _ _ c.pieces.invariant.1 e c.in-Err.is refl)

pub pieces-preserved : goal.pieces-preserved
pieces-preserved g c =
    let e = placed _ c.args.at c.pieces.done _ _ _ _ _ c.write_at.ensures.calls c.in-Some.ensures.1 in
    elim c.match-write_at.branch [
      | in-Ok w ↦ (within _ _ _ c.args.bytes.now w.in-Ok.ensures.bound c.pieces.invariant.0 w.done-is, wrote_more _ _ _ _ _ _ _ _ _ _ c.pieces.invariant.1 e w.in-Ok.is w.done-is)
      | in-Err w ↦ (omega (arith, c.pieces.invariant.0, w.done-is), wrote_none _ _ _ _ _ _ _ _ _ _ c.pieces.invariant.1 e w.in-Err.is w.done-is)
    ]
