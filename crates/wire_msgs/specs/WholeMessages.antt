-- What decoding keeps: the lengths and characters of what arrives, and that it is read back where it is written.
use Rattle.std.specs.Prelude.{◌≡◌, ◌≤◌, ◌||◌, ℕ, List, true, false, IfSome, is_some, length}
use Rattle.xml_profile.specs.SpellableTrees.{is_text}
use Rattle.at_base.specs.declared.limits.TheConstants.{MOST_FIELD}
use Rattle.at_base.specs.declared.epr.Epr.{Epr}
use Rattle.at_base.specs.declared.message.Context.{Context}
use Rattle.at_base.specs.declared.message.Create.{Create}
use Rattle.at_base.specs.declared.message.Register.{Register}
use Rattle.at_base.specs.declared.message.Work.{Work}
use Rattle.at_base.specs.declared.message.Message.{Message}
use Rattle.at_base.specs.declared.message.Message.TheVariants as messages
use Rattle.addressing.specs.Endpoints.{is_anonymous, is_nobody}
use Rattle.addressing.specs.Requests.{is_answerable}
use Rattle.addressing.specs.StoredEndpoints.{IsKept}
use Rattle.addressing.specs.OutgoingHeaders.{IsTrimmed}
use Rattle.context.specs.Bodies.{is_identifier}
use Rattle.context.specs.BodyTrees.{IsNarrow}
use Rattle.wire_msgs.specs.declared.decode.Arrival.{Arrival}

-- a text of characters of XML in UTF-8 (XML 1.0, section 2.2), without white space at an end
pub record IsClean (text : List ℕ) : Type 0 where
  pub trimmed : IsTrimmed text
  pub spelled : is_text text ≡ true

-- an endpoint: its address is such a text and isn't empty, it has at most 2,048 bytes in all, and its parameters are none
-- or the canonical text of the element of reference parameters that they spell
pub record IsWholeEndpoint (epr : Epr) : Type 0 where
  pub kept : IsKept epr
  pub spelled : is_text epr.address ≡ true

-- a source that something can be sent to: one that is anonymous or none counts as absent
pub record IsSource (epr : Epr) : Type 0 where
  pub whole : IsWholeEndpoint epr
  pub somewhere : (is_anonymous epr || is_nobody epr) ≡ false

-- an identifier has 1 to 2,048 bytes
pub record IsWholeContext (context : Context) : Type 0 where
  pub identifier : IsClean context.identifier
  pub within : is_identifier context.identifier ≡ true
  pub expires : IsNarrow context.expires
  pub coordination : IsClean context.coordination
  pub registration : IsWholeEndpoint context.registration

pub record IsWholeCreate (body : Create) : Type 0 where
  pub expires : IsNarrow body.expires
  pub current : IfSome body.current IsWholeContext
  pub coordination : IsClean body.coordination

pub record IsWholeRegister (body : Register) : Type 0 where
  pub protocol : IsClean body.protocol
  pub participant : IsWholeEndpoint body.participant

-- a key and a value have at most 256 bytes
pub record IsWholeWork (body : Work) : Type 0 where
  pub context : IsWholeContext body.context
  pub key : IsClean body.key
  pub short_key : length body.key ≤ MOST_FIELD
  pub value : IsClean body.value
  pub short_value : length body.value ≤ MOST_FIELD

-- a fault may have any name of such characters
abbrev pub IsWholeMessage : Message → Type 0
IsWholeMessage (messages.Create body) = IsWholeCreate body
IsWholeMessage (messages.CreateResponse context) = IsWholeContext context
IsWholeMessage (messages.Register body) = IsWholeRegister body
IsWholeMessage (messages.RegisterResponse coordinator) = IsWholeEndpoint coordinator
IsWholeMessage (messages.Notice notice) = Unit {0}
IsWholeMessage (messages.Work body) = IsWholeWork body
IsWholeMessage messages.WorkDone = Unit {0}
IsWholeMessage messages.WorkRefused = Unit {0}
IsWholeMessage (messages.Fault name) = is_text name ≡ true

-- a request has an id, and its endpoints can be answered (WS-Addressing 1.0 Core, sections 3.2 to 3.4)
pub record CanBeAnswered (arrival : Arrival) : Type 0 where
  pub id : is_some arrival.id ≡ true
  pub reply : is_answerable arrival.reply ≡ true
  pub fault : is_answerable arrival.fault ≡ true

abbrev pub IsAskedWell : Message → Arrival → Type 0
IsAskedWell (messages.Create body) arrival = CanBeAnswered arrival
IsAskedWell (messages.Register body) arrival = CanBeAnswered arrival
IsAskedWell (messages.Work body) arrival = CanBeAnswered arrival
IsAskedWell message arrival = Unit {0}

pub record IsWhole (arrival : Arrival) : Type 0 where
  pub to : IfSome arrival.to IsClean
  pub id : IfSome arrival.id IsClean
  pub relates : IfSome arrival.relates IsClean
  pub from : IfSome arrival.from IsSource
  pub reply : IfSome arrival.reply IsWholeEndpoint
  pub fault : IfSome arrival.fault IsWholeEndpoint
  pub message : IsWholeMessage arrival.message
  pub request : IsAskedWell arrival.message arrival
