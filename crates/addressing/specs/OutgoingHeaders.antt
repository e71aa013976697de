-- The header blocks that a message is sent with (WS-Addressing 1.0 Core, sections 2.2 and 3.3, and SOAP Binding, section 3).
use Rattle.std.specs.Prelude.{◌≡◌, ℕ, List, [], ◌∷◌, ◌++◌, map, Bool, true, false, ◌||◌, IfSome, Option, Some, None, if◌then◌else◌, codes}
use Rattle.std.specs.List.{list_any}
use Rattle.std.specs.Option.{option_map, option_to_list}
use Rattle.std.specs.Str.{bytes_eq}
use Rattle.xml_profile.specs.declared.name.QName.{QName}
use Rattle.xml_profile.specs.declared.name.Attribute.{Attribute}
use Rattle.xml_profile.specs.declared.tree.Tree.{Tree}
use Rattle.url.specs.Parser.{parse_url}
use Rattle.xml_profile.specs.Prefixes.{addressing, coordination, soap}
use Rattle.soap_profile.specs.BuiltElements.{children_of, element, qualified, text_children}
use Rattle.soap_profile.specs.Values.{elements, is_empty, is_named, trim}
use Rattle.at_base.specs.declared.epr.Epr.{Epr}
use Rattle.addressing.specs.declared.writer.Endpoint.{Endpoint}
use Rattle.addressing.specs.declared.writer.OutgoingHeaders.{OutgoingHeaders}
use Rattle.addressing.specs.Endpoints.{anonymous, is_within, params_of}
use Rattle.addressing.specs.Message.{Headers}
use Rattle.addressing.specs.Headers.{is_parsed, source_of}

-- an element of addressing with a text
abbrev pub text_element : List ℕ → List ℕ → Tree
text_element local text = element (qualified addressing local) (text_children text)

-- an endpoint: its address, then its reference parameters (Core, section 2.2)
abbrev pub endpoint_tree : Endpoint → QName → Tree
endpoint_tree endpoint name =
    element name (children_of (text_element (codes "Address") endpoint.address ∷ option_to_list endpoint.params))

-- what marks a block as a reference parameter (SOAP Binding, section 3.3)
abbrev pub mark : Attribute
mark = record { name = qualified addressing (codes "IsReferenceParameter"); value = codes "true" }

abbrev pub is_mark : Attribute → Bool
is_mark a = is_named a.name addressing (codes "IsReferenceParameter")

abbrev pub with_mark : Attribute → Attribute
with_mark a = if is_mark a then mark else a

-- the mark stands first, unless it has a place of its own, where it is replaced
abbrev pub added_mark : List Attribute → List Attribute
added_mark attributes = if list_any is_mark attributes then [] else mark ∷ []

abbrev pub marked_attributes : List Attribute → List Attribute
marked_attributes attributes = added_mark attributes ++ map with_mark attributes

abbrev pub marked : Tree → Tree
marked t = record { name = t.name; attributes = marked_attributes t.attributes; children = t.children }

-- each reference parameter of the destination is a block (Core, section 3.3)
abbrev pub parameters_in : Option Tree → List Tree
parameters_in None = []
parameters_in (Some params) = map marked (elements params.children)

abbrev pub parameters_of : Option Endpoint → List Tree
parameters_of None = []
parameters_of (Some endpoint) = parameters_in endpoint.params

-- a destination that is anonymous isn't written
abbrev pub to_blocks : Option Endpoint → List Tree
to_blocks None = []
to_blocks (Some endpoint) =
    if bytes_eq endpoint.address anonymous then [] else text_element (codes "To") endpoint.address ∷ []

abbrev pub text_blocks : List ℕ → Option (List ℕ) → List Tree
text_blocks local None = []
text_blocks local (Some text) = text_element local text ∷ []

abbrev pub endpoint_blocks : List ℕ → Option Endpoint → List Tree
endpoint_blocks local None = []
endpoint_blocks local (Some endpoint) = endpoint_tree endpoint (qualified addressing local) ∷ []

-- a context must be understood (SOAP 1.1, section 4.2.3)
abbrev pub context_block : Tree → Tree
context_block t =
    record {
      name = t.name;
      attributes = record { name = qualified soap (codes "mustUnderstand"); value = codes "1" } ∷ [];
      children = t.children;
    }

abbrev pub context_blocks : Option Tree → List Tree
context_blocks None = []
context_blocks (Some t) = context_block t ∷ []

abbrev pub message_blocks : Option Endpoint → List ℕ → Option (List ℕ) → Option (List ℕ) → List Tree
message_blocks to action id relates =
    to_blocks to ++ text_element (codes "Action") action ∷ [] ++ text_blocks (codes "MessageID") id ++ text_blocks (codes "RelatesTo") relates

-- the header blocks of a message, in the order in which they are written
abbrev pub blocks_of : OutgoingHeaders → List Tree
blocks_of out =
    message_blocks out.to out.action out.id out.relates
    ++ endpoint_blocks (codes "From") out.from ++ endpoint_blocks (codes "ReplyTo") out.reply
    ++ parameters_of out.to ++ context_blocks out.context

-- an element that isn't of reference parameters is left out
abbrev pub kept_params : Option Tree → Option Tree
kept_params None = None
kept_params (Some t) = if is_named t.name addressing (codes "ReferenceParameters") then Some t else None

abbrev pub endpoint_with : List ℕ → Option Tree → Endpoint
endpoint_with address params = record { address = address; params = kept_params params }

-- what an endpoint is read as
abbrev pub epr_in : Endpoint → Epr
epr_in endpoint = record { address = endpoint.address; params = params_of endpoint.params }

abbrev pub IsParameters : Option Tree → Type 0
IsParameters None = Unit {0}
IsParameters (Some t) = t.name ≡ qualified addressing (codes "ReferenceParameters")

-- a text without white space at its ends
abbrev pub IsTrimmed : List ℕ → Type 0
IsTrimmed text = trim text ≡ text

-- an endpoint that can be read: it keeps the bound, and its address has no white space at an end
pub record IsLegible (endpoint : Endpoint) : Type 0 where
  pub trimmed : IsTrimmed endpoint.address
  pub params : IsParameters endpoint.params
  pub within : is_within endpoint.address (params_of endpoint.params) ≡ true

-- a destination that can be read is anonymous or a URL
pub record IsDestination (endpoint : Endpoint) : Type 0 where
  pub trimmed : IsTrimmed endpoint.address
  pub named : (bytes_eq endpoint.address anonymous || is_parsed (parse_url None endpoint.address)) ≡ true

abbrev pub IsContext : Tree → Type 0
IsContext t = t.name ≡ qualified coordination (codes "CoordinationContext")

-- headers that can be read
pub record AreLegible (out : OutgoingHeaders) : Type 0 where
  pub to : IfSome out.to IsDestination
  pub action : IsTrimmed out.action
  pub said : is_empty out.action ≡ false
  pub id : IfSome out.id IsTrimmed
  pub relates : IfSome out.relates IsTrimmed
  pub from : IfSome out.from IsLegible
  pub reply : IfSome out.reply IsLegible
  pub context : IfSome out.context IsContext

abbrev pub destination_in : Option Endpoint → Option (List ℕ)
destination_in None = None
destination_in (Some endpoint) = if bytes_eq endpoint.address anonymous then None else Some endpoint.address

-- what they are read as
abbrev pub headers_in : OutgoingHeaders → Headers
headers_in out =
    record {
      to = destination_in out.to;
      action = out.action;
      id = out.id;
      relates = out.relates;
      from = source_of (option_map epr_in out.from);
      reply = option_map epr_in out.reply;
      fault = None;
      context = option_map context_block out.context;
    }
