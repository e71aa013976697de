use Rattle.std.proofs.Common.{refl}
use Rattle.journal_at.specs.Frames.{bodies_of}
use Rattle.decision_log.specs.KeptState.{known}
use Rattle.decision_log.proofs.Keepsakes.{is_kept}
use Rattle.decision_log.proofs.FoldedBodies.{finished}
use Rattle.decision_log.proofs.fold.fold.Goals as goal

pub returns-in-Ok-finish-clause-kept : goal.returns-in-Ok-finish-clause-kept
returns-in-Ok-finish-clause-kept c =
    is_kept c.version-version.result (bodies_of c.items-items.result.now) (known c.in-Ok-finish.kept)
    (finished c.version-version.result (bodies_of c.items-items.result.now) (bodies_of c.items-items.result.now) c.in-Ok.folding c.in-Ok-finish.kept refl c.in-Ok.ensures c.in-Ok-finish.ensures)
