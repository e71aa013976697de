use Rattle.std.proofs.Common.{◌∷◌, ◌++◌, [], Err, ap}
use Rattle.at_base.specs.declared.record.Record.TheVariants as records
use Rattle.journal_at.specs.declared.journal.Append.TheVariants as appends
use Rattle.journal_at.specs.declared.version.Version.TheVariants.{Two}
use Rattle.node_at.proofs.Migrations.{carries_same, start_carries, start_refused, stays_put}
use Rattle.node_at.proofs.opened_journal.record_start.Goals as goal

pub returns-in-Err-clause-carries : goal.returns-in-Err-clause-carries
returns-in-Err-clause-carries g c = λ rs o fits. stays_put _ Two rs (rs ++ records.Start c.args.incarnation ∷ []) c.args.journal.now _ o

pub returns-in-Ok-keep-clause-carries : goal.returns-in-Ok-keep-clause-carries
returns-in-Ok-keep-clause-carries g c = λ rs o fits.
    start_carries rs c.args.incarnation appends.Done c.args.journal.now c.keep.new.journal _ _ o fits c.in-Ok-keep.ensures.appended c.in-Ok-keep.ensures.counted

pub returns-clause-carries : goal.returns-clause-carries
returns-clause-carries g c = λ rs o fits.
    carries_same (ap Err c.keep_fault.ensures)
    (start_refused g.S.Site.told rs c.args.incarnation c.in-Err-keep.fault c.args.journal.now c.keep.new.journal _ _ o fits
    c.in-Err-keep.ensures.appended (λ e. c.in-Err-keep.ensures.memory (ap Err e)) c.in-Err-keep.ensures.counted)
