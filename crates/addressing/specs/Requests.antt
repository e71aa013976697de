-- What a message that asks for an answer brings along (WS-Addressing 1.0 Core, sections 3.2 to 3.4).
use Rattle.std.specs.Prelude.{ℕ, List, Bool, true, ◌&&◌, ◌||◌, not, is_some, Option, Some, None, Result, Ok, Err, if◌then◌else◌, codes}
use Rattle.std.specs.Str.{bytes_eq}
use Rattle.xml_profile.specs.declared.name.QName.{QName}
use Rattle.soap_profile.specs.Faults.{is_fault}
use Rattle.at_base.specs.declared.epr.Epr.{Epr}
use Rattle.addressing.specs.declared.headers.Header.{Header}
use Rattle.addressing.specs.declared.headers.Header.TheVariants.{MessageId, ReplyTo, FaultTo, CoordinationContext}
use Rattle.addressing.specs.declared.headers.AddressingRefusal.{AddressingRefusal}
use Rattle.addressing.specs.declared.headers.AddressingRefusal.TheVariants.{MissingHeader, InvalidHeader}
use Rattle.addressing.specs.Endpoints.{is_anonymous, is_nobody}
use Rattle.addressing.specs.Message.{Headers}
use Rattle.addressing.specs.PostAddresses.{post_to_of}
use Rattle.addressing.specs.Headers.{◌>>=◌}

-- the actions of the messages that ask for an answer (WS-Coordination 1.2, sections 3.1 and 3.2), and of this project's Work
abbrev pub create_action : List ℕ
create_action = codes "http://docs.oasis-open.org/ws-tx/wscoor/2006/06/CreateCoordinationContext"

abbrev pub register_action : List ℕ
register_action = codes "http://docs.oasis-open.org/ws-tx/wscoor/2006/06/Register"

abbrev pub work_action : List ℕ
work_action = codes "http://example.org/atx/work/1/Work"

-- a fault asks for no answer, whatever its action
abbrev pub is_request : Headers → QName → Bool
is_request headers body =
    not (is_fault body)
    && (bytes_eq headers.action create_action || (bytes_eq headers.action register_action || bytes_eq headers.action work_action))

-- an endpoint can be answered: on the connection, not at all, or by a post
abbrev pub is_answerable : Option Epr → Bool
is_answerable None = true
is_answerable (Some epr) = is_anonymous epr || (is_nobody epr || is_some (post_to_of epr.address))

abbrev pub required : Header → Bool → Result (Unit {0}) AddressingRefusal
required header present = if present then Ok tt else Err (MissingHeader header)

abbrev pub valid : Header → Bool → Result (Unit {0}) AddressingRefusal
valid header good = if good then Ok tt else Err (InvalidHeader header)

-- an answer relates to an id (Core, section 3.4); Work is done under a context
abbrev pub answerable_of : Headers → Result (Unit {0}) AddressingRefusal
answerable_of headers = do
  id ← required MessageId (is_some headers.id)
  reply ← valid ReplyTo (is_answerable headers.reply)
  fault ← valid FaultTo (is_answerable headers.fault)
  required CoordinationContext (not (bytes_eq headers.action work_action) || is_some headers.context)

-- the first refusal that holds of the headers of a message with this body
abbrev pub request_of : Headers → QName → Result (Unit {0}) AddressingRefusal
request_of headers body = if is_request headers body then answerable_of headers else Ok tt
