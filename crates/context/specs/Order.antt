-- The children of a body stand in any order, beside texts and other elements (WS-Coordination 1.2, sections 2 and 3).
use Rattle.std.specs.Prelude.{◌≡◌, List, [], ◌∷◌, Bool}
use Rattle.std.specs.List.{filter, list_any}
use Rattle.std.specs.List.Sorted.{IsPermutation}
use Rattle.xml_profile.specs.declared.tree.Tree.{Tree}
use Rattle.xml_profile.specs.Prefixes.{coordination}
use Rattle.soap_profile.specs.Values.{elements, is_named}
use Rattle.context.specs.declared.parameter.Parameter.{Parameter}
use Rattle.context.specs.declared.parameter.Parameter.TheVariants.{Identifier, Expires, CoordinationType, RegistrationService, CurrentContext, CoordinationContext, ProtocolIdentifier, ParticipantProtocolService, CoordinatorProtocolService}
use Rattle.context.specs.Parameters.{local_name}
use Rattle.context.specs.Bodies.{context_of, create_of, create_response_of, register_of, register_response_of}

-- section 2
abbrev pub context_children : List Parameter
context_children = Identifier ∷ Expires ∷ CoordinationType ∷ RegistrationService ∷ []

-- section 3.1.1
abbrev pub create_children : List Parameter
create_children = Expires ∷ CurrentContext ∷ CoordinationType ∷ []

-- section 3.1.2
abbrev pub create_response_children : List Parameter
create_response_children = CoordinationContext ∷ []

-- section 3.2.1
abbrev pub register_children : List Parameter
register_children = ProtocolIdentifier ∷ ParticipantProtocolService ∷ []

-- section 3.2.2
abbrev pub register_response_children : List Parameter
register_response_children = CoordinatorProtocolService ∷ []

abbrev pub is_one_of : List Parameter → Tree → Bool
is_one_of parameters t = list_any (λ parameter. is_named t.name coordination (local_name parameter)) parameters

-- two trees have the same of these children, in any order
abbrev pub HaveSame : List Parameter → Tree → Tree → Type 0
HaveSame parameters t u =
    IsPermutation (filter (is_one_of parameters) (elements t.children)) (filter (is_one_of parameters) (elements u.children))

-- what a body says hangs on its own children alone, and not on their order
pub record SayTheSame (t u : Tree) : Type 0 where
  pub context : HaveSame context_children t u → context_of t ≡ context_of u
  pub create : HaveSame create_children t u → create_of t ≡ create_of u
  pub create_response : HaveSame create_response_children t u → create_response_of t ≡ create_response_of u
  pub register : HaveSame register_children t u → register_of t ≡ register_of u
  pub register_response : HaveSame register_response_children t u → register_response_of t ≡ register_response_of u
