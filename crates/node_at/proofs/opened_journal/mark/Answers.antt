use Rattle.node_at.proofs.Migrations.{carries_same, mark_carries}
use Rattle.node_at.proofs.opened_journal.mark.Goals as goal

pub returns-clause-marks : goal.returns-clause-marks
returns-clause-marks g c = λ rs o fits.
    carries_same c.append_ended.ensures
    (mark_carries rs c.append-ended.result c.args.journal.now c.append-ended.new.self _ _ c.requires o fits
    c.append-ended.ensures.appended c.append-ended.ensures.calls c.append-ended.ensures.reason c.append-ended.ensures.full c.append-ended.ensures.unsure c.append-ended.ensures.counted)
