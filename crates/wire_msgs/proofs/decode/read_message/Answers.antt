use Rattle.std.proofs.Common.{◌≡◌, ◌∙◌, Some, sym, ap, subst}
use Rattle.soap_profile.specs.Faults.{is_fault}
use Rattle.wire_msgs.specs.Arrivals.{fault_at, said_at}
use Rattle.wire_msgs.specs.Forms.{form_at}
use Rattle.wire_msgs.specs.Refusals.{Answers}
use Rattle.wire_msgs.proofs.RefusalChains.{then_answers, else_answers}
use Rattle.wire_msgs.proofs.decode.read_message.Goals as goal

pub returns-then-is_fault : goal.returns-then-is_fault
returns-then-is_fault c =
    then_answers (is_fault c.args.body.now.name) (fault_at c.args.target.now c.args.body.now)
    (said_at (form_at c.args.headers.now.action) c.args.headers.now.context c.args.target.now c.args.body.now)
    c.read_fault_at.result (sym c.is_fault.ensures ∙ c.if-is_fault.true) c.read_fault_at.ensures

pub returns-in-Some : goal.returns-in-Some
returns-in-Some c =
    let said : c.of_action.result ≡ form_at c.args.headers.now.action =
    c.of_action.ensures.value ∙ ap form_at (c.as_str.ensures ∙ (λ i. (c.headers.view_is i).action)) in
    let under : Answers (said_at (Some c.in-Some.form) c.args.headers.now.context c.args.target.now c.args.body.now) c.read_form_at.result =
    subst (λ context. Answers (said_at (Some c.in-Some.form) context c.args.target.now c.args.body.now) c.read_form_at.result) (λ i. (c.headers.view_is i).context) c.read_form_at.ensures in
    else_answers (is_fault c.args.body.now.name) (fault_at c.args.target.now c.args.body.now)
    (said_at (form_at c.args.headers.now.action) c.args.headers.now.context c.args.target.now c.args.body.now)
    c.read_form_at.result (sym c.is_fault.ensures ∙ c.if-is_fault.false)
    (subst (λ form. Answers (said_at form c.args.headers.now.context c.args.target.now c.args.body.now) c.read_form_at.result)
    (sym c.in-Some.is ∙ said) under)
