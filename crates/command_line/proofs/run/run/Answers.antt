use Rattle.std.specs.Prelude.{◌≡◌, [], map, string_bytes}
use Rattle.std.proofs.Common.{subst}
use Rattle.command_line.specs.Jobs.{IsJobOf}
use Rattle.command_line.specs.Jobs.Job.{Make, Serve}
use Rattle.command_line.specs.Views.{meant, meant_serving}
use Rattle.command_line.proofs.Audits.{unaudited}
use Rattle.command_line.proofs.Summaries.{summed_as}
use Rattle.command_line.proofs.Servings.{initiated_as, served_as, unread_by, unreported, unserved}
use Rattle.command_line.specs.Jobs.Job.{Show, ShowLine}
use Rattle.std.specs.Io.KnownBytes.{Appends}
use Rattle.std.proofs.Common.{sym}
use Rattle.command_line.proofs.Journals.{lined_as, nothing, shown_as, unlined, unshown}
use Rattle.command_line.proofs.run.run.Goals as goal

pub returns-in-Ok-Make-clause-summed : goal.returns-in-Ok-Make-clause-summed
returns-in-Ok-Make-clause-summed g c = λ seed steps job ended.
    summed_as c.in-Ok-Make.seed c.in-Ok-Make.steps seed steps _ _ (subst (λ z. meant z ≡ Make seed steps) c.in-Ok-Make.field-0-is (c.in-Ok-Make.ensures.every (Make seed steps) job))
    (c.make.ensures.summed ended)

pub returns-in-Ok-Serve-clause-unread : goal.returns-in-Ok-Serve-clause-unread
returns-in-Ok-Serve-clause-unread g c = λ filters audits other.
    unread_by (map string_bytes c.args.words.now) (meant_serving c.in-Ok-Serve.serving) _ other
    (subst (λ z. IsJobOf (map string_bytes c.args.words.now) (meant z)) c.in-Ok-Serve.field-0-is c.in-Ok-Serve.ensures.found) c.serve_node.ensures.unread

pub returns-in-Ok-Serve-clause-served : goal.returns-in-Ok-Serve-clause-served
returns-in-Ok-Serve-clause-served g c = λ serving job.
    served_as g.H.Site.told (meant_serving c.in-Ok-Serve.serving) serving [] _ _ _ _ _
    (subst (λ z. meant z ≡ Serve serving) c.in-Ok-Serve.field-0-is (c.in-Ok-Serve.ensures.every (Serve serving) job)) c.serve_node.ensures.served

pub returns-in-Ok-Serve-clause-initiated : goal.returns-in-Ok-Serve-clause-initiated
returns-in-Ok-Serve-clause-initiated g c = λ serving job.
    initiated_as g.H.Site.told (meant_serving c.in-Ok-Serve.serving) serving _ _ _ _ _ _
    (subst (λ z. meant z ≡ Serve serving) c.in-Ok-Serve.field-0-is (c.in-Ok-Serve.ensures.every (Serve serving) job)) c.serve_node.ensures.initiated

pub returns-in-Ok-Audit-clause-audited : goal.returns-in-Ok-Audit-clause-audited
returns-in-Ok-Audit-clause-audited g c = λ job. record {
  statuses = c.audit.ensures.statuses;
  whole = c.audit.ensures.whole;
  quiet = c.audit.ensures.quiet;
  ended = c.audit.ensures.ended;
  cut = c.audit.ensures.cut;
}

pub returns-in-Err-clause-audited : goal.returns-in-Err-clause-audited
returns-in-Err-clause-audited g c = λ job.
    unaudited (map string_bytes c.args.words.now) c.in-Err.reason _ _ _ _ _ _ c.in-Err.ensures.none job c.tell.ensures.statuses c.tell.ensures.silent

pub returns-in-Err-clause-served : goal.returns-in-Err-clause-served
returns-in-Err-clause-served g c = λ serving job other.
    unserved g.H.Site.told (map string_bytes c.args.words.now) c.in-Err.reason serving [] _ _ _ _ c.in-Err.ensures.none job c.tell.ensures.statuses c.tell.ensures.silent

pub returns-in-Err-clause-report : goal.returns-in-Err-clause-report
returns-in-Err-clause-report g c = λ filter input job left few source sink.
    unreported (map string_bytes c.args.words.now) c.in-Err.reason filter input _ _ _ c.in-Err.ensures.none job c.tell.ensures.statuses c.tell.ensures.silent

pub returns-in-Ok-Show-clause-shown : goal.returns-in-Ok-Show-clause-shown
returns-in-Ok-Show-clause-shown g c = λ file job.
    shown_as _ _ _ c.in-Ok-Show.name.now file _ _ _ (subst (λ z. meant z ≡ Show file) c.in-Ok-Show.field-0-is (c.in-Ok-Show.ensures.every (Show file) job)) (record {
      statuses = c.journal.ensures.statuses;
      unread = c.journal.ensures.unread;
      quiet = λ k. subst (λ z. Appends (g.K.Sink.contents c.args.sink.now) (g.K.Sink.contents z) []) (sym (c.journal.ensures.quiet k)) (nothing _);
      printed = c.journal.ensures.printed;
      part = c.journal.ensures.part;
    })

pub returns-in-Ok-ShowLine-clause-shown_line : goal.returns-in-Ok-ShowLine-clause-shown_line
returns-in-Ok-ShowLine-clause-shown_line g c = λ base file job.
    lined_as _ _ _ c.in-Ok-ShowLine.base.now c.in-Ok-ShowLine.file.now base file _ _ _
    (subst (λ z. meant z ≡ ShowLine base file) c.in-Ok-ShowLine.field-0-is (c.in-Ok-ShowLine.ensures.every (ShowLine base file) job)) (record {
      statuses = c.journal_line.ensures.statuses;
      unread = c.journal_line.ensures.unread;
      quiet = λ k. subst (λ z. Appends (g.K.Sink.contents c.args.sink.now) (g.K.Sink.contents z) []) (sym (c.journal_line.ensures.quiet k)) (nothing _);
      printed = c.journal_line.ensures.printed;
      part = c.journal_line.ensures.part;
    })

pub returns-in-Err-clause-shown : goal.returns-in-Err-clause-shown
returns-in-Err-clause-shown g c = λ file job.
    unshown _ _ _ _ _ (map string_bytes c.args.words.now) c.in-Err.reason file _ c.in-Err.ensures.none job c.tell.ensures.statuses c.tell.ensures.silent

pub returns-in-Err-clause-shown_line : goal.returns-in-Err-clause-shown_line
returns-in-Err-clause-shown_line g c = λ base file job.
    unlined _ _ _ _ _ (map string_bytes c.args.words.now) c.in-Err.reason base file _ c.in-Err.ensures.none job c.tell.ensures.statuses c.tell.ensures.silent
