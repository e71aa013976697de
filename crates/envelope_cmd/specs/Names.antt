-- How messages, targets, kinds and votes are printed.
use Rattle.std.specs.Prelude.{ℕ, List, ◌++◌, Option, Some, None, codes, decimal, ◌≡◌, refl}
use Rattle.std.specs.Fmt.{digits}
use Rattle.at_base.specs.IdText.{id_text}
use Rattle.at_base.specs.Names.{kind_name}
use Rattle.at_base.specs.declared.message.Message.{Message}
use Rattle.at_base.specs.declared.notice.Kind.TheVariants as kinds
use Rattle.at_base.specs.declared.target.Target.{Target}
use Rattle.at_base.specs.declared.target.Target.TheVariants as targets
use Rattle.endpoints.specs.declared.form.Form.{Form}
use Rattle.endpoints.specs.Forms.{form_of}
use Rattle.wire_msgs.specs.Forms.{local_of}

-- the local name of a body's element; a fault has none of its own (SOAP 1.1, section 4.4)
abbrev pub form_name : Option Form → List ℕ
form_name (Some form) = local_of form
form_name None = codes "Fault"

abbrev pub message_name : Message → List ℕ
message_name message = form_name (form_of message)

-- the service or the item that a message is for
abbrev pub printed_target : Target → List ℕ
printed_target targets.Activation = codes "activation"
printed_target (targets.Registration id) = codes "registration " ++ id_text id
printed_target (targets.Completion id) = codes "completion " ++ id_text id
printed_target (targets.Coordinator id seat) =
    codes "coordinator " ++ (kind_name seat.kind ++ (codes " " ++ (id_text id ++ (codes " " ++ decimal seat.number))))
printed_target (targets.Participant id kind) = codes "participant " ++ (kind_name kind ++ (codes " " ++ id_text id))
printed_target (targets.Initiator id) = codes "initiator " ++ id_text id
printed_target targets.Work = codes "work"

pub a_seat :
    printed_target (targets.Coordinator (record { incarnation = 1; counter = 7 }) (record { number = 12; kind = kinds.Durable }))
    ≡ codes "coordinator durable 1-7 12"
unfolding digits
a_seat = refl
