use Rattle.endpoints.specs.declared.form.Form.TheVariants as forms
use Rattle.wire_msgs.proofs.Forms.{passes}
use Rattle.wire_msgs.proofs.form.form_at.Goals as goal

pub returns-in_default : goal.returns-in_default
returns-in_default c =
    passes c.args.action.now forms.Create _ _ c.in_default.not-text
    (passes c.args.action.now forms.CreateResponse _ _ c.in_default.not-text-2
    (passes c.args.action.now forms.Register _ _ c.in_default.not-text-3
    (passes c.args.action.now forms.RegisterResponse _ _ c.in_default.not-text-4
    (passes c.args.action.now forms.Work _ _ c.in_default.not-text-5
    (passes c.args.action.now forms.WorkDone _ _ c.in_default.not-text-6
    (passes c.args.action.now forms.WorkRefused _ _ c.in_default.not-text-7
    c.notice_at.ensures))))))
