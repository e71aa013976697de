-- Bodies are read as they were written.
use Rattle.std.proofs.Common.{◌≡◌, ℕ, List, [], ◌∷◌, Bool, true, IfOk, IfSome, Option, Some, None, Result, Ok, Err, cond, refl, ap, subst, sym, ◌∙◌}
use Rattle.std.specs.Option.{option_map}
use Rattle.std.specs.Fmt.{decimal}
use Rattle.std.proofs.lemmas.List.{append-nil}
use Rattle.xml_profile.specs.declared.name.QName.{QName}
use Rattle.xml_profile.specs.declared.tree.Tree.{Tree}
use Rattle.soap_profile.specs.BuiltElements.{text_children}
use Rattle.soap_profile.specs.Values.{direct_text, text_value, trim}
use Rattle.at_base.specs.declared.epr.Epr.{Epr}
use Rattle.at_base.specs.declared.message.Context.{Context}
use Rattle.at_base.specs.declared.message.Create.{Create}
use Rattle.at_base.specs.declared.message.Register.{Register}
use Rattle.addressing.specs.declared.writer.Endpoint.{Endpoint}
use Rattle.addressing.specs.Endpoints.{epr_of}
use Rattle.addressing.specs.OutgoingHeaders.{IsLegible, IsTrimmed, epr_in}
use Rattle.context.specs.declared.parameter.ContextFault.{ContextFault}
use Rattle.context.specs.declared.parameter.Parameter.{Parameter}
use Rattle.context.specs.declared.parameter.Parameter.TheVariants.{Identifier, Expires, CoordinationType, RegistrationService, CurrentContext, ProtocolIdentifier, ParticipantProtocolService}
use Rattle.context.specs.declared.writer.OutgoingContext.{OutgoingContext}
use Rattle.context.specs.declared.writer.OutgoingCreate.{OutgoingCreate}
use Rattle.context.specs.declared.writer.OutgoingRegister.{OutgoingRegister}
use Rattle.context.specs.Bodies.{◌>>=◌, context_of, create_of, identifier, is_identifier, number_of, readable, register_of, said_current, said_expires}
use Rattle.context.specs.BodyTrees.{CurrentReturns, IsLegibleContext, IsLegibleCreate, IsLegibleRegister, IsNarrow, context_in, context_tree, create_in, create_tree, endpoint_parameter, parameter_name, register_in, register_tree, text_parameter}
use Rattle.context.proofs.Numbers.{decimal_trimmed, number_written}

-- the text of an element of one text
texted : (text : List ℕ) → direct_text (text_children text) ≡ text
texted [] = refl
texted (c ∷ cs) = append-nil (c ∷ cs)

text_returns : (parameter : Parameter) (text : List ℕ) → IsTrimmed text → text_value (text_parameter parameter text) ≡ text
text_returns parameter text e = ap trim (texted text) ∙ e

identifier_by : (fits : Bool) (text : List ℕ) → fits ≡ true → readable Identifier (cond fits (Some text) None) ≡ Ok text
identifier_by fits text h = rw h refl

identifier_returns : (text : List ℕ) → IsTrimmed text → is_identifier text ≡ true
    → readable Identifier (identifier (text_value (text_parameter Identifier text))) ≡ Ok text
identifier_returns text e h =
    ap (λ (t : List ℕ). readable Identifier (identifier t)) (text_returns Identifier text e) ∙ identifier_by (is_identifier text) text h

abbrev said_number : Option ℕ → Result (Option ℕ) ContextFault
said_number number = readable Expires number >>= λ milliseconds. Ok (Some milliseconds)

abbrev expires_element : Option ℕ → Option Tree
expires_element expires = option_map (λ n. text_parameter Expires (decimal n)) expires

expires_returns : (expires : Option ℕ) → IsNarrow expires → said_expires (expires_element expires) ≡ Ok expires
expires_returns None h = refl
expires_returns (Some n) h =
    ap said_number (ap number_of (text_returns Expires (decimal n) (decimal_trimmed n h)) ∙ number_written n h)

-- the parts of a context together
abbrev together : Result (List ℕ) ContextFault → Result (Option ℕ) ContextFault → List ℕ → Option Epr → Result Context ContextFault
together said_identifier said_expires coordination registration = do
  identifier ← said_identifier
  expires ← said_expires
  registration ← readable RegistrationService registration
  Ok (record { identifier = identifier; expires = expires; coordination = coordination; registration = registration })

-- an endpoint is read as it was written
abbrev pub Returns : Parameter → Endpoint → Type 0
Returns parameter endpoint = IsLegible endpoint → epr_of (endpoint_parameter parameter endpoint) ≡ Some (epr_in endpoint)

context_parts : (expires : Option ℕ) (said type : List ℕ) (registration : Endpoint) (name : QName)
    → context_of (context_tree (record { identifier = said; expires = expires; coordination = type; registration = registration }) name)
    ≡ together (readable Identifier (identifier (text_value (text_parameter Identifier said)))) (said_expires (expires_element expires))
    (text_value (text_parameter CoordinationType type)) (epr_of (endpoint_parameter RegistrationService registration))
context_parts None said type registration name = refl
context_parts (Some n) said type registration name = refl

pub context_returns : (context : OutgoingContext) (name : QName) → Returns RegistrationService context.registration → IsNarrow context.expires
    → IsLegibleContext context → context_of (context_tree context name) ≡ Ok (context_in context)
context_returns context name registered narrow h =
    context_parts context.expires context.identifier context.coordination context.registration name
    ∙ (λ i. together (identifier_returns context.identifier h.identifier h.within i) (expires_returns context.expires narrow i)
    (text_returns CoordinationType context.coordination h.coordination i) (registered h.registration i))

-- the parts of a Create together
abbrev created : Result (Option ℕ) ContextFault → Result (Option Context) ContextFault → List ℕ → Result Create ContextFault
created said_expires said_current coordination = do
  expires ← said_expires
  current ← said_current
  Ok (record { expires = expires; current = current; coordination = coordination })

abbrev current_element : Option OutgoingContext → Option Tree
current_element current = option_map (λ context. context_tree context (parameter_name CurrentContext)) current

create_parts : (expires : Option ℕ) (current : Option OutgoingContext) (type : List ℕ)
    → create_of (create_tree (record { expires = expires; current = current; coordination = type }))
    ≡ created (said_expires (expires_element expires)) (said_current (current_element current)) (text_value (text_parameter CoordinationType type))
create_parts None None type = refl
create_parts None (Some context) type = refl
create_parts (Some n) None type = refl
create_parts (Some n) (Some context) type = refl

abbrev said_context : Result Context ContextFault → Result (Option Context) ContextFault
said_context said = said >>= λ context. Ok (Some context)

current_returns : (current : Option OutgoingContext) → CurrentReturns current → IfSome current IsLegibleContext
    → said_current (current_element current) ≡ Ok (option_map context_in current)
current_returns None returned h = refl
current_returns (Some context) returned h = ap said_context (returned h)

pub create_returns : (body : OutgoingCreate) → IsNarrow body.expires → CurrentReturns body.current
    → IsLegibleCreate body → create_of (create_tree body) ≡ Ok (create_in body)
create_returns body narrow returned h =
    create_parts body.expires body.current body.coordination
    ∙ (λ i. created (expires_returns body.expires narrow i) (current_returns body.current returned h.current i)
    (text_returns CoordinationType body.coordination h.coordination i))

-- the parts of a Register together
abbrev registered : List ℕ → Option Epr → Result Register ContextFault
registered protocol participant = do
  participant ← readable ParticipantProtocolService participant
  Ok (record { protocol = protocol; participant = participant })

pub register_returns : (body : OutgoingRegister) → Returns ParticipantProtocolService body.participant
    → IsLegibleRegister body → register_of (register_tree body) ≡ Ok (register_in body)
register_returns body participant h =
    λ i. registered (text_returns ProtocolIdentifier body.protocol h.protocol i) (participant h.participant i)

pub endpoint_returns : (parameter : Parameter) (endpoint : Endpoint) (t : Tree) → t ≡ endpoint_parameter parameter endpoint
    → (IsLegible endpoint → epr_of t ≡ Some (epr_in endpoint)) → Returns parameter endpoint
endpoint_returns parameter endpoint t e returned = λ h. ap epr_of (sym e) ∙ returned h

-- what holds of the stated tree holds of the answer
pub from_tree : {E : Type 0} (r : Result Tree E) (t : Tree) (P : Tree → Type 0) → IfOk r (λ u. u ≡ t) → P t → IfOk r P
from_tree (Ok u) t P e h = subst P (sym e) h
from_tree (Err fault) t P e h = tt
