use Rattle.std.proofs.Common.{refl}
use Rattle.at_base.specs.declared.notice.Notice.TheVariants as notices
use Rattle.endpoints.specs.declared.form.Form.TheVariants as forms
use Rattle.wire_msgs.proofs.Forms.{passes}
use Rattle.wire_msgs.proofs.form.notice_at.Goals as goal

pub returns-in_default : goal.returns-in_default
returns-in_default c =
    passes c.args.action.now (forms.Notice notices.Prepare) _ _ c.in_default.not-text
    (passes c.args.action.now (forms.Notice notices.Commit) _ _ c.in_default.not-text-2
    (passes c.args.action.now (forms.Notice notices.Rollback) _ _ c.in_default.not-text-3
    (passes c.args.action.now (forms.Notice notices.Prepared) _ _ c.in_default.not-text-4
    (passes c.args.action.now (forms.Notice notices.ReadOnly) _ _ c.in_default.not-text-5
    (passes c.args.action.now (forms.Notice notices.Aborted) _ _ c.in_default.not-text-6
    (passes c.args.action.now (forms.Notice notices.Committed) _ _ c.in_default.not-text-7
    refl))))))
