use Rattle.std.proofs.Common.{refl}
use Rattle.journal_at.specs.declared.version.Version.TheVariants.{One}
use Rattle.node_at.specs.Starts.{anew_calls, carried}
use Rattle.node_at.proofs.JournalsBehind.{renewed}
use Rattle.node_at.proofs.Migrations.{carries_same, compacted_same, migrate_carries, stays_same, texts_same}
use Rattle.node_at.proofs.opened_journal.migrate.Goals as goal

pub returns-in-Ok-clause-migrates : goal.returns-in-Ok-clause-migrates
returns-in-Ok-clause-migrates g c = λ rs o kept fits.
    carries_same c.compact_ended.ensures
    (migrate_carries rs c.in-Ok.ended c.args.journal.now c.shrink.new.journal _ _ c.are_bodies.ensures o c.requires.begun fits
    (texts_same kept c.in-Ok.ensures.records) (compacted_same kept c.in-Ok.ensures.compacted) c.in-Ok.ensures.counted)

pub returns-in-Err-clause-migrates : goal.returns-in-Err-clause-migrates
returns-in-Err-clause-migrates g c = λ rs o kept fits.
    stays_same g.S.Site.told (anew_calls c.args.journal.now (carried One rs)) One rs (carried One rs) c.args.journal.now c.shrink.new.journal _ _
    (c.in-Err.ensures.memory refl).0 (c.in-Err.ensures.memory refl).1 o

pub returns-in-Ok-clause-renewed : goal.returns-in-Ok-clause-renewed
returns-in-Ok-clause-renewed g c = λ sure some. renewed c.compact_ended.result c.in-Ok.ended _ c.args.journal.now c.shrink.new.journal _ _ c.compact_ended.ensures c.in-Ok.ensures.compacted sure some
