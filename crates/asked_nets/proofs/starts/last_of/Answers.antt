use Rattle.std.proofs.Common.{subst}
use Rattle.std.specs.Prelude.{Err}
use Rattle.decision_log.specs.Folds.{Folds}
use Rattle.mirrored_nets.proofs.ReadRecords.{not_misspelled}
use Rattle.asked_nets.proofs.starts.last_of.Goals as goal

pub returns-in-Err-Bad-clause-records : goal.returns-in-Err-Bad-clause-records
returns-in-Err-Bad-clause-records c = λ rs are.
    absurd (not_misspelled c.args.found.now rs c.in-Err-Bad.field-0-0 are (subst (λ e. Folds (Err e) c.args.found.now) c.in-Err-Bad.field-0-is c.in-Err-Bad.ensures.folds))
