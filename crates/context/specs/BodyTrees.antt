-- The trees of the bodies of coordination (WS-Coordination 1.2, sections 2 and 3).
use Rattle.std.specs.Prelude.{◌≡◌, ◌<◌, ◌^◌, ℕ, List, [], ◌∷◌, ◌++◌, true, IfSome, Option, Some, None, Ok, codes}
use Rattle.std.specs.Option.{option_map}
use Rattle.std.specs.Fmt.{decimal}
use Rattle.xml_profile.specs.declared.name.QName.{QName}
use Rattle.xml_profile.specs.declared.tree.Tree.{Tree}
use Rattle.xml_profile.specs.Prefixes.{coordination}
use Rattle.soap_profile.specs.BuiltElements.{children_of, element, qualified, text_children}
use Rattle.at_base.specs.declared.message.Context.{Context}
use Rattle.at_base.specs.declared.message.Create.{Create}
use Rattle.at_base.specs.declared.message.Register.{Register}
use Rattle.addressing.specs.declared.writer.Endpoint.{Endpoint}
use Rattle.addressing.specs.OutgoingHeaders.{IsLegible, IsTrimmed, endpoint_tree, epr_in}
use Rattle.context.specs.declared.parameter.Parameter.{Parameter}
use Rattle.context.specs.declared.parameter.Parameter.TheVariants.{Identifier, Expires, CoordinationType, RegistrationService, CurrentContext, CoordinationContext, ProtocolIdentifier, ParticipantProtocolService, CoordinatorProtocolService}
use Rattle.context.specs.declared.writer.OutgoingContext.{OutgoingContext}
use Rattle.context.specs.declared.writer.OutgoingCreate.{OutgoingCreate}
use Rattle.context.specs.declared.writer.OutgoingRegister.{OutgoingRegister}
use Rattle.context.specs.Parameters.{local_name}
use Rattle.context.specs.Bodies.{context_of, is_identifier}

abbrev pub parameter_name : Parameter → QName
parameter_name parameter = qualified coordination (local_name parameter)

abbrev pub text_parameter : Parameter → List ℕ → Tree
text_parameter parameter text = element (parameter_name parameter) (text_children text)

abbrev pub endpoint_parameter : Parameter → Endpoint → Tree
endpoint_parameter parameter endpoint = endpoint_tree endpoint (parameter_name parameter)

-- milliseconds are written in decimal, without a plus or leading zeros
abbrev pub expires_parameter : Option ℕ → List Tree
expires_parameter None = []
expires_parameter (Some milliseconds) = text_parameter Expires (decimal milliseconds) ∷ []

-- a context under a name of its own (section 2)
abbrev pub context_tree : OutgoingContext → QName → Tree
context_tree context name =
    element name
    (children_of (text_parameter Identifier context.identifier
    ∷ expires_parameter context.expires
    ++ text_parameter CoordinationType context.coordination
    ∷ endpoint_parameter RegistrationService context.registration ∷ []))

abbrev pub current_parameter : Option OutgoingContext → List Tree
current_parameter None = []
current_parameter (Some context) = context_tree context (parameter_name CurrentContext) ∷ []

abbrev pub body_tree : List ℕ → List Tree → Tree
body_tree local parts = element (qualified coordination local) (children_of parts)

-- section 3.1.1
abbrev pub create_tree : OutgoingCreate → Tree
create_tree body =
    body_tree (codes "CreateCoordinationContext")
    (expires_parameter body.expires ++ current_parameter body.current ++ text_parameter CoordinationType body.coordination ∷ [])

-- section 3.1.2
abbrev pub create_response_tree : OutgoingContext → Tree
create_response_tree context =
    body_tree (codes "CreateCoordinationContextResponse") (context_tree context (parameter_name CoordinationContext) ∷ [])

-- section 3.2.1
abbrev pub register_tree : OutgoingRegister → Tree
register_tree body =
    body_tree (codes "Register")
    (text_parameter ProtocolIdentifier body.protocol ∷ endpoint_parameter ParticipantProtocolService body.participant ∷ [])

-- section 3.2.2
abbrev pub register_response_tree : Endpoint → Tree
register_response_tree coordinator =
    body_tree (codes "RegisterResponse") (endpoint_parameter CoordinatorProtocolService coordinator ∷ [])

-- what a body that is written says
abbrev pub context_in : OutgoingContext → Context
context_in context =
    record {
      identifier = context.identifier;
      expires = context.expires;
      coordination = context.coordination;
      registration = epr_in context.registration;
    }

abbrev pub create_in : OutgoingCreate → Create
create_in body =
    record { expires = body.expires; current = option_map context_in body.current; coordination = body.coordination }

abbrev pub register_in : OutgoingRegister → Register
register_in body = record { protocol = body.protocol; participant = epr_in body.participant }

-- milliseconds have 32 bits
abbrev pub IsNarrow : Option ℕ → Type 0
IsNarrow expires = IfSome expires (λ n. n < 2 ^ 32)

-- a context that can be read
pub record IsLegibleContext (context : OutgoingContext) : Type 0 where
  pub identifier : IsTrimmed context.identifier
  pub within : is_identifier context.identifier ≡ true
  pub coordination : IsTrimmed context.coordination
  pub registration : IsLegible context.registration

pub record IsLegibleCreate (body : OutgoingCreate) : Type 0 where
  pub current : IfSome body.current IsLegibleContext
  pub coordination : IsTrimmed body.coordination

pub record IsLegibleRegister (body : OutgoingRegister) : Type 0 where
  pub protocol : IsTrimmed body.protocol
  pub participant : IsLegible body.participant

-- a current context is read as it was written
abbrev pub CurrentReturns : Option OutgoingContext → Type 0
CurrentReturns current =
    IfSome current (λ context. IsLegibleContext context
    → context_of (context_tree context (parameter_name CurrentContext)) ≡ Ok (context_in context))
