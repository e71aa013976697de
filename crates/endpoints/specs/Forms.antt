-- The messages by the element in their body (WS-Coordination 1.2, section 3; WS-AtomicTransaction 1.2, section 3),
-- and which of them a target takes.
use Rattle.std.specs.Prelude.{Bool, true, false, ◌||◌, Option, Some, None}
use Rattle.at_base.specs.Names.{is_notice}
use Rattle.at_base.specs.declared.message.Message.{Message}
use Rattle.at_base.specs.declared.message.Message.TheVariants as messages
use Rattle.at_base.specs.declared.notice.Notice.TheVariants as notices
use Rattle.at_base.specs.declared.target.Target.{Target}
use Rattle.at_base.specs.declared.target.Target.TheVariants as targets
use Rattle.endpoints.specs.declared.form.Form.{Form}
use Rattle.endpoints.specs.declared.form.Form.TheVariants as forms

-- what a message is; a fault is told by its body alone
abbrev pub form_of : Message → Option Form
form_of (messages.Create body) = Some forms.Create
form_of (messages.CreateResponse context) = Some forms.CreateResponse
form_of (messages.Register body) = Some forms.Register
form_of (messages.RegisterResponse coordinator) = Some forms.RegisterResponse
form_of (messages.Notice notice) = Some (forms.Notice notice)
form_of (messages.Work body) = Some forms.Work
form_of messages.WorkDone = Some forms.WorkDone
form_of messages.WorkRefused = Some forms.WorkRefused
form_of (messages.Fault name) = None

-- what each target takes, beside faults
abbrev pub takes_form : Target → Form → Bool
takes_form targets.Activation forms.Create = true
takes_form (targets.Registration id) forms.Register = true
takes_form (targets.Completion id) (forms.Notice n) = is_notice n notices.Commit || is_notice n notices.Rollback
takes_form (targets.Coordinator id seat) (forms.Notice n) =
    is_notice n notices.Prepared || (is_notice n notices.ReadOnly || (is_notice n notices.Aborted || is_notice n notices.Committed))
takes_form (targets.Participant id kind) (forms.Notice n) =
    is_notice n notices.Prepare || (is_notice n notices.Commit || is_notice n notices.Rollback)
takes_form (targets.Participant id kind) forms.RegisterResponse = true
takes_form (targets.Initiator id) forms.CreateResponse = true
takes_form (targets.Initiator id) forms.RegisterResponse = true
takes_form (targets.Initiator id) (forms.Notice n) = is_notice n notices.Committed || is_notice n notices.Aborted
takes_form (targets.Initiator id) forms.WorkDone = true
takes_form (targets.Initiator id) forms.WorkRefused = true
takes_form targets.Work forms.Work = true
takes_form target form = false

-- requests are answered by faults and take none
abbrev pub takes_fault : Target → Bool
takes_fault targets.Activation = false
takes_fault (targets.Registration id) = false
takes_fault (targets.Completion id) = true
takes_fault (targets.Coordinator id seat) = true
takes_fault (targets.Participant id kind) = true
takes_fault (targets.Initiator id) = true
takes_fault targets.Work = false

abbrev pub takes_any : Target → Option Form → Bool
takes_any target None = takes_fault target
takes_any target (Some form) = takes_form target form

-- Whether a target takes a message.
abbrev pub takes : Target → Message → Bool
takes target message = takes_any target (form_of message)
