-- Envelopes, and the messages that arrive with them.
use Rattle.std.specs.Prelude.{[], ◌∷◌, ◌≡◌, refl, Ok, Err, None, codes}
use Rattle.std.specs.Fmt.{digits}
use Rattle.xml_profile.specs.Forest.Forest.{End}
use Rattle.xml_profile.specs.Prefixes.{addressing, transaction}
use Rattle.xml_profile.specs.declared.tree.Tree.{Tree}
use Rattle.soap_profile.specs.BuiltElements.{element, qualified, text_children}
use Rattle.soap_profile.specs.Envelopes.{envelope_tree}
use Rattle.soap_profile.specs.Faults.{fault_tree}
use Rattle.at_base.specs.declared.message.Message.TheVariants as messages
use Rattle.at_base.specs.declared.notice.Kind.TheVariants as kinds
use Rattle.at_base.specs.declared.notice.Notice.TheVariants as notices
use Rattle.at_base.specs.declared.target.Target.TheVariants as targets
use Rattle.addressing.specs.declared.headers.Header.TheVariants as headers
use Rattle.endpoints.specs.declared.form.Form.{Form}
use Rattle.endpoints.specs.declared.form.Form.TheVariants as forms
use Rattle.wire_msgs.specs.declared.refusal.ParameterName.TheVariants as names
use Rattle.wire_msgs.specs.declared.refusal.Refusal.TheVariants as refusals
use Rattle.wire_msgs.specs.Arrivals.{arrival_of}
use Rattle.wire_msgs.specs.Forms.{action_of, local_of, space_of}

-- an envelope with nothing but this action and this body
abbrev enveloped : Form → Tree → Tree
enveloped form body = envelope_tree (element (qualified addressing (codes "Action")) (text_children (action_of form)) ∷ []) body

abbrev empty : Form → Tree
empty form = element (qualified (space_of form) (local_of form)) End

abbrev message : Form → Tree
message form = enveloped form (empty form)

pub prepare_arrives :
    arrival_of (message (forms.Notice notices.Prepare)) (codes "/p/d/1-2?x")
    ≡ Ok (record {
      message = messages.Notice notices.Prepare;
      target = targets.Participant (record { incarnation = 1; counter = 2 }) kinds.Durable;
      to = None;
      id = None;
      relates = None;
      from = None;
      reply = None;
      fault = None;
    })
unfolding digits
prepare_arrives = refl

-- a fault is one whatever its action
pub fault_arrives :
    arrival_of (enveloped forms.WorkDone (fault_tree transaction (codes "UnknownTransaction") (codes "unknown") None)) (codes "/completion/1-2")
    ≡ Ok (record {
      message = messages.Fault (codes "UnknownTransaction");
      target = targets.Completion (record { incarnation = 1; counter = 2 });
      to = None;
      id = None;
      relates = None;
      from = None;
      reply = None;
      fault = None;
    })
unfolding digits
fault_arrives = refl

pub nowhere : arrival_of (message (forms.Notice notices.Prepare)) (codes "/p/d/1-02") ≡ Err refusals.NoTarget
unfolding digits
nowhere = refl

pub not_taken : arrival_of (message (forms.Notice notices.Prepared)) (codes "/p/d/1-2") ≡ Err refusals.Action
unfolding digits
not_taken = refl

-- an id is asked for before the target
pub without_id : arrival_of (message forms.Register) (codes "/") ≡ Err (refusals.MissingHeader headers.MessageId)
without_id = refl

pub another_body :
    arrival_of (enveloped (forms.Notice notices.Prepare) (empty (forms.Notice notices.Commit))) (codes "/p/d/1-2")
    ≡ Err (refusals.Parameters names.Body)
unfolding digits
another_body = refl
