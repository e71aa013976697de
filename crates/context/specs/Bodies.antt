-- What the bodies of coordination say (WS-Coordination 1.2, sections 2 and 3).
use Rattle.std.specs.Prelude.{◌≡◌, ℕ, List, Bool, ◌&&◌, nat_le, not, length, Option, Some, None, Result, Ok, Err, if◌then◌else◌}
use Rattle.std.specs.Str.{all_ascii_digits}
use Rattle.std.specs.Str.Parse.{digits_value, without_leading_plus}
use Rattle.xml_profile.specs.declared.tree.Tree.{Tree}
use Rattle.soap_profile.specs.Values.{is_empty, text_value}
use Rattle.at_base.specs.declared.limits.TheConstants.{MOST_IDENTIFIER}
use Rattle.at_base.specs.declared.epr.Epr.{Epr}
use Rattle.at_base.specs.declared.message.Context.{Context}
use Rattle.at_base.specs.declared.message.Create.{Create}
use Rattle.at_base.specs.declared.message.Register.{Register}
use Rattle.addressing.specs.Endpoints.{epr_of}
use Rattle.context.specs.declared.parameter.Parameter.{Parameter}
use Rattle.context.specs.declared.parameter.Parameter.TheVariants.{Identifier, Expires, CoordinationType, RegistrationService, CurrentContext, CoordinationContext, ProtocolIdentifier, ParticipantProtocolService, CoordinatorProtocolService}
use Rattle.context.specs.declared.parameter.ContextFault.{ContextFault}
use Rattle.context.specs.declared.parameter.ContextFault.TheVariants.{Parameters, NoMemory}
use Rattle.context.specs.Parameters.{child_in}

infixl 10 ◌>>=◌
abbrev pub ◌>>=◌ : {A B : Type 0} → Result A ContextFault → (A → Result B ContextFault) → Result B ContextFault
Ok x >>= next = next x
Err fault >>= next = Err fault

-- a child that must be there
abbrev pub required : Parameter → Option (Option Tree) → Result Tree ContextFault
required parameter None = Err (Parameters parameter)
required parameter (Some None) = Err (Parameters parameter)
required parameter (Some (Some t)) = Ok t

-- a child that may be absent
abbrev pub optional : Parameter → Option (Option Tree) → Result (Option Tree) ContextFault
optional parameter None = Err (Parameters parameter)
optional parameter (Some child) = Ok child

-- a value that can be read
abbrev pub readable : {A : Type 0} → Parameter → Option A → Result A ContextFault
readable parameter None = Err (Parameters parameter)
readable parameter (Some value) = Ok value

-- a text
abbrev pub text_in : Tree → Parameter → Result (List ℕ) ContextFault
text_in t parameter = do
  child ← required parameter (child_in t parameter)
  Ok (text_value child)

-- an endpoint (WS-Addressing 1.0 Core, section 2)
abbrev pub endpoint_in : Tree → Parameter → Result Epr ContextFault
endpoint_in t parameter = do
  child ← required parameter (child_in t parameter)
  readable parameter (epr_of child)

-- an Identifier has 1 to 2,048 bytes
abbrev pub is_identifier : List ℕ → Bool
is_identifier text = not (is_empty text) && nat_le (length text) MOST_IDENTIFIER

abbrev pub identifier : List ℕ → Option (List ℕ)
identifier text = if is_identifier text then Some text else None

abbrev pub identifier_in : Tree → Result (List ℕ) ContextFault
identifier_in t = do
  text ← text_in t Identifier
  readable Identifier (identifier text)

-- decimal digits of a number of at most 4,294,967,295
abbrev pub are_digits : List ℕ → Bool
are_digits digits = not (is_empty digits) && (all_ascii_digits digits && nat_le (digits_value 10 digits) 4294967295)

abbrev pub digits_number : List ℕ → Option ℕ
digits_number digits = if are_digits digits then Some (digits_value 10 digits) else None

-- the unsigned integer that a text spells: a plus may stand before its digits
abbrev pub number_of : List ℕ → Option ℕ
number_of text = digits_number (without_leading_plus text)

abbrev pub said_expires : Option Tree → Result (Option ℕ) ContextFault
said_expires None = Ok None
said_expires (Some child) = do
  milliseconds ← readable Expires (number_of (text_value child))
  Ok (Some milliseconds)

-- Expires is an unsigned integer of milliseconds (sections 2 and 3.1.1)
abbrev pub expires_in : Tree → Result (Option ℕ) ContextFault
expires_in t = optional Expires (child_in t Expires) >>= said_expires

-- a CoordinationContext (section 2)
abbrev pub context_of : Tree → Result Context ContextFault
context_of t = do
  identifier ← identifier_in t
  expires ← expires_in t
  coordination ← text_in t CoordinationType
  registration ← endpoint_in t RegistrationService
  Ok (record { identifier = identifier; expires = expires; coordination = coordination; registration = registration })

abbrev pub said_current : Option Tree → Result (Option Context) ContextFault
said_current None = Ok None
said_current (Some child) = do
  context ← context_of child
  Ok (Some context)

abbrev pub current_in : Tree → Result (Option Context) ContextFault
current_in t = optional CurrentContext (child_in t CurrentContext) >>= said_current

-- a CreateCoordinationContext (section 3.1.1)
abbrev pub create_of : Tree → Result Create ContextFault
create_of t = do
  expires ← expires_in t
  current ← current_in t
  coordination ← text_in t CoordinationType
  Ok (record { expires = expires; current = current; coordination = coordination })

-- a CreateCoordinationContextResponse (section 3.1.2)
abbrev pub create_response_of : Tree → Result Context ContextFault
create_response_of t = do
  child ← required CoordinationContext (child_in t CoordinationContext)
  context_of child

-- a Register (section 3.2.1)
abbrev pub register_of : Tree → Result Register ContextFault
register_of t = do
  protocol ← text_in t ProtocolIdentifier
  participant ← endpoint_in t ParticipantProtocolService
  Ok (record { protocol = protocol; participant = participant })

-- a RegisterResponse (section 3.2.2)
abbrev pub register_response_of : Tree → Result Epr ContextFault
register_response_of t = endpoint_in t CoordinatorProtocolService

-- an answer is the expected one, unless memory ran out
abbrev pub Answers : {T : Type 0} → Result T ContextFault → Result T ContextFault → Type 0
Answers expected (Ok value) = expected ≡ Ok value
Answers expected (Err NoMemory) = Unit {0}
Answers expected (Err (Parameters name)) = expected ≡ Err (Parameters name)
