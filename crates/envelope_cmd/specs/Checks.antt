-- What `check` prints: the lines of the message that the bytes mean, or the line of the first refusal.
use Rattle.std.specs.Prelude.{ℕ, List, [], ◌++◌, Option, Some, Result, Ok, Err, codes, decimal, ◌≡◌}
use Rattle.std.specs.Option.{option_map}
use Rattle.at_base.specs.declared.message.Message.{Message}
use Rattle.at_base.specs.declared.message.Message.TheVariants as messages
use Rattle.at_base.specs.declared.message.Context.{Context}
use Rattle.at_base.specs.declared.message.Create.{Create}
use Rattle.at_base.specs.declared.message.Register.{Register}
use Rattle.at_base.specs.declared.message.Work.{Work}
use Rattle.wire_msgs.specs.declared.decode.Arrival.{Arrival}
use Rattle.wire_msgs.specs.declared.refusal.Refusal.{Refusal}
use Rattle.envelope_cmd.specs.Lines.{address_line, line, text_line, where_some}
use Rattle.envelope_cmd.specs.Names.{message_name, printed_target}
use Rattle.at_base.specs.Names.{kind_name, vote_name}
use Rattle.envelope_cmd.specs.Output.{Output, accepted, refused}
use Rattle.envelope_cmd.specs.RequestMeanings.{Says}
use Rattle.envelope_cmd.specs.Refusals.{refusal_line}

-- the message addressing headers that stood, but To and Action (WS-Addressing 1.0 Core, section 3.1)
abbrev pub header_lines : Arrival → List ℕ
header_lines a =
    where_some (text_line (codes "id")) a.id
    ++ (where_some (text_line (codes "relates")) a.relates
    ++ (where_some (address_line (codes "from")) a.from
    ++ (where_some (address_line (codes "reply")) a.reply
    ++ where_some (address_line (codes "fault")) a.fault)))

-- milliseconds
abbrev pub expires_line : ℕ → List ℕ
expires_line expires = line (codes "expires") (decimal expires)

unfoldable pub identifier_line : Context → List ℕ
identifier_line context = text_line (codes "identifier") context.identifier

unfoldable pub type_line : List ℕ → List ℕ
type_line coordination = text_line (codes "type") coordination

unfoldable pub registration_line : Context → List ℕ
registration_line context = address_line (codes "registration") context.registration

-- a coordination context (WS-Coordination 1.2, section 2)
abbrev pub context_lines : Context → List ℕ
context_lines context =
    where_some expires_line context.expires
    ++ (identifier_line context ++ (type_line context.coordination ++ registration_line context))

-- CreateCoordinationContext (section 3.1): its own time and type, and the rest of the context that it is under
abbrev pub create_lines : Create → List ℕ
create_lines create =
    where_some expires_line create.expires
    ++ (where_some identifier_line create.current
    ++ (type_line create.coordination ++ where_some registration_line create.current))

abbrev pub register_lines : Register → List ℕ
register_lines register =
    text_line (codes "protocol") register.protocol ++ address_line (codes "service") register.participant

abbrev pub work_lines : Work → List ℕ
work_lines work =
    context_lines work.context
    ++ (text_line (codes "key") work.key
    ++ (text_line (codes "value") work.value
    ++ (line (codes "kind") (kind_name work.kind) ++ line (codes "vote") (vote_name work.vote))))

-- the parts of a message's body
abbrev pub message_lines : Message → List ℕ
message_lines (messages.Create create) = create_lines create
message_lines (messages.CreateResponse context) = context_lines context
message_lines (messages.Register register) = register_lines register
message_lines (messages.RegisterResponse coordinator) = address_line (codes "service") coordinator
message_lines (messages.Notice notice) = []
message_lines (messages.Work work) = work_lines work
message_lines messages.WorkDone = []
message_lines messages.WorkRefused = []
message_lines (messages.Fault name) = text_line (codes "name") name

-- what is printed for a message that arrives
abbrev pub check_lines : Arrival → List ℕ
check_lines a =
    line (codes "message") (message_name a.message)
    ++ (line (codes "target") (printed_target a.target) ++ (header_lines a ++ message_lines a.message))

-- what is printed for what the bytes mean; want of memory isn't printed
abbrev pub check_of : Result Arrival Refusal → Option Output
check_of (Ok arrival) = Some (accepted (check_lines arrival))
check_of (Err refusal) = option_map refused (refusal_line refusal)

-- `check` prints this for the bytes of a request at a path
pub record IsCheckOf (bytes path : List ℕ) (output : Output) : Type 0 where
  pub said : Result Arrival Refusal
  pub says : Says bytes path said
  pub prints : check_of said ≡ Some output
