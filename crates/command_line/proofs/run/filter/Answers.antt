use Rattle.command_line.specs.Views.{meant_filter}
use Rattle.command_line.proofs.Reports.{all_given, all_printed, none_given, part_printed, undone_so}
use Rattle.command_line.proofs.run.filter.Goals as goal

pub returns-in-Ok-report-clause-whole : goal.returns-in-Ok-report-clause-whole
returns-in-Ok-report-clause-whole g c = λ printed. all_given _ _ _ _ c.in-Ok.ensures.whole

pub returns-in-Ok-report-clause-ended : goal.returns-in-Ok-report-clause-ended
returns-in-Ok-report-clause-ended g c = λ done.
    all_printed _ _ _ _ _ (meant_filter c.args.filter.now) _ _ _ c.in-Ok-report.printed c.in-Ok.ensures.whole c.as_slice.ensures.value c.in-Ok-report.ensures.sound
    c.print.ensures.statuses c.print.ensures.all done

pub returns-in-Ok-report-clause-cut : goal.returns-in-Ok-report-clause-cut
returns-in-Ok-report-clause-cut g c = λ failed.
    part_printed _ _ _ _ _ (meant_filter c.args.filter.now) _ _ c.in-Ok-report.printed c.in-Ok.ensures.whole c.as_slice.ensures.value c.in-Ok-report.ensures.sound
    c.print.ensures.part

pub returns-in-Err-Full-clause-full : goal.returns-in-Err-Full-clause-full
returns-in-Err-Full-clause-full g c = λ is.
    none_given _ _ _ _ _ (meant_filter c.args.filter.now) c.in-Ok.ensures.whole c.as_slice.ensures.value (c.in-Err-Full.ensures.full c.in-Err-Full.field-0-is)

pub returns-clause-report : goal.returns-clause-report
returns-clause-report g c = λ input given few read wrote.
    undone_so (meant_filter c.args.filter.now) input (g.K.Sink.contents c.args.sink.now) c.in-Err-TooManyEvents.field-0 c.in-Err-TooManyEvents.field-0-is c.in-Err-TooManyEvents.ensures.memory
