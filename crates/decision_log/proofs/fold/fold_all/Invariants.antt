use Rattle.std.proofs.Common.{take}
use Rattle.journal_at.specs.Frames.{bodies_of}
use Rattle.decision_log.specs.Folds.{AreFolded}
use Rattle.decision_log.proofs.fold.fold_all.Given as goal

abbrev pub invariant-loop-placed : goal.invariant-loop-placed
invariant-loop-placed l = AreFolded l.version (bodies_of (take l.placed-index l.items)) l.folding
