-- What the header blocks of an envelope say (WS-Addressing 1.0 Core, section 3.1, and SOAP Binding, section 3).
use Rattle.std.specs.Prelude.{ℕ, List, [], ◌∷◌, Bool, true, false, ◌&&◌, ◌||◌, Option, Some, None, Result, Ok, Err, if◌then◌else◌, codes, ◌≡◌}
use Rattle.std.specs.List.{find}
use Rattle.std.specs.Option.{option_map}
use Rattle.std.specs.Str.{bytes_eq}
use Rattle.url.specs.Parts.{Parts}
use Rattle.url.specs.Parser.{parse_url, Parsed}
use Rattle.xml_profile.specs.declared.tree.Tree.{Tree}
use Rattle.xml_profile.specs.Prefixes.{addressing, coordination}
use Rattle.soap_profile.specs.Children.{at_most_one, named}
use Rattle.soap_profile.specs.Envelopes.{is_reference_parameter}
use Rattle.soap_profile.specs.Values.{is_named, is_empty, text_value, unqualified_attribute}
use Rattle.at_base.specs.declared.epr.Epr.{Epr}
use Rattle.addressing.specs.declared.headers.Header.{Header}
use Rattle.addressing.specs.declared.headers.Header.TheVariants.{To, Action, MessageId, From, ReplyTo, FaultTo, CoordinationContext}
use Rattle.addressing.specs.declared.headers.AddressingRefusal.{AddressingRefusal}
use Rattle.addressing.specs.declared.headers.AddressingRefusal.TheVariants.{MissingHeader, InvalidHeader, NoMemory}
use Rattle.addressing.specs.Endpoints.{anonymous, epr_of, is_anonymous, is_nobody}
use Rattle.addressing.specs.Message.{Headers}

abbrev pub local_name : Header → List ℕ
local_name To = codes "To"
local_name Action = codes "Action"
local_name MessageId = codes "MessageID"
local_name From = codes "From"
local_name ReplyTo = codes "ReplyTo"
local_name FaultTo = codes "FaultTo"
local_name CoordinationContext = codes "CoordinationContext"

-- a block that is a reference parameter is no header, whatever its name (SOAP Binding, section 3.3)
abbrev pub own_blocks : List Tree → List Tree
own_blocks [] = []
own_blocks (b ∷ bs) = if is_reference_parameter b then own_blocks bs else b ∷ own_blocks bs

-- the headers that stand at most once, in the order in which a repeated one is refused (SOAP Binding, section 6.4.1)
abbrev pub singles : List Header
singles = To ∷ Action ∷ MessageId ∷ From ∷ ReplyTo ∷ FaultTo ∷ []

abbrev pub is_many : Option (Option Tree) → Bool
is_many None = true
is_many (Some block) = false

abbrev pub is_repeated : List Tree → Header → Bool
is_repeated blocks header = is_many (at_most_one (named blocks addressing (local_name header)))

abbrev pub header_in : List Tree → Header → Option Tree
header_in blocks header = find (λ t. is_named t.name addressing (local_name header)) blocks

-- a relationship without a type is that of a reply (Core, section 3.2)
abbrev pub is_reply_type : Option (List ℕ) → Bool
is_reply_type None = true
is_reply_type (Some type) = bytes_eq type (codes "http://www.w3.org/2005/08/addressing/reply")

abbrev pub is_reply : Tree → Bool
is_reply t =
    is_named t.name addressing (codes "RelatesTo")
    && is_reply_type (unqualified_attribute t.attributes (codes "RelationshipType"))

-- the first RelatesTo of a reply counts
abbrev pub relates_of : List Tree → Option (List ℕ)
relates_of blocks = option_map text_value (find is_reply blocks)

-- the first context counts (WS-Coordination 1.2, section 2)
abbrev pub is_context : Tree → Bool
is_context t = is_named t.name coordination (codes "CoordinationContext")

abbrev pub context_of : List Tree → Option Tree
context_of blocks = find is_context blocks

-- an action is there and isn't empty
abbrev pub said_action : List ℕ → Result (List ℕ) AddressingRefusal
said_action text = if is_empty text then Err (InvalidHeader Action) else Ok text

abbrev pub action_of : Option Tree → Result (List ℕ) AddressingRefusal
action_of None = Err (MissingHeader Action)
action_of (Some t) = said_action (text_value t)

abbrev pub is_parsed : Parsed Parts → Bool
is_parsed (Ok url) = true
is_parsed (Err fault) = false

-- a text that is a URL
abbrev pub url_text : List ℕ → Option (List ℕ)
url_text text = if is_parsed (parse_url None text) then Some text else None

-- a destination is a URL, or anonymous, which is the same as none
abbrev pub destination : List ℕ → Result (Option (List ℕ)) AddressingRefusal
destination text =
    if bytes_eq text anonymous then Ok None
    else if is_parsed (parse_url None text) then Ok (Some text)
    else Err (InvalidHeader To)

abbrev pub to_of : Option Tree → Result (Option (List ℕ)) AddressingRefusal
to_of None = Ok None
to_of (Some t) = destination (text_value t)

abbrev pub readable : Header → Option Epr → Result (Option Epr) AddressingRefusal
readable header None = Err (InvalidHeader header)
readable header (Some epr) = Ok (Some epr)

-- an endpoint header is absent or readable
abbrev pub endpoint_of : Header → Option Tree → Result (Option Epr) AddressingRefusal
endpoint_of header None = Ok None
endpoint_of header (Some t) = readable header (epr_of t)

-- a source that is anonymous or none is nowhere to send to
abbrev pub source_of : Option Epr → Option Epr
source_of None = None
source_of (Some epr) = if is_anonymous epr || is_nobody epr then None else Some epr

infixl 10 ◌>>=◌
abbrev pub ◌>>=◌ : {A B : Type 0} → Result A AddressingRefusal → (A → Result B AddressingRefusal) → Result B AddressingRefusal
Ok x >>= next = next x
Err refusal >>= next = Err refusal

abbrev pub unless_repeated : Option Header → Result Headers AddressingRefusal → Result Headers AddressingRefusal
unless_repeated None headers = headers
unless_repeated (Some header) headers = Err (InvalidHeader header)

-- what blocks of which none is repeated say, but for the context
abbrev pub said_once : List Tree → Result Headers AddressingRefusal
said_once blocks = do
  action ← action_of (header_in blocks Action)
  to ← to_of (header_in blocks To)
  from ← endpoint_of From (header_in blocks From)
  reply ← endpoint_of ReplyTo (header_in blocks ReplyTo)
  fault ← endpoint_of FaultTo (header_in blocks FaultTo)
  Ok (record {
    to = to;
    action = action;
    id = option_map text_value (header_in blocks MessageId);
    relates = relates_of blocks;
    from = source_of from;
    reply = reply;
    fault = fault;
    context = None;
  })

abbrev pub with_context : Option Tree → Headers → Headers
with_context context headers = record headers { context = context }

-- what header blocks say, or the first refusal that holds
abbrev pub headers_of : List Tree → Result Headers AddressingRefusal
headers_of blocks = do
  headers ← unless_repeated (find (is_repeated (own_blocks blocks)) singles) (said_once (own_blocks blocks))
  Ok (with_context (context_of (own_blocks blocks)) headers)

-- an answer is the expected one, unless memory ran out
abbrev pub Answers : {T : Type 0} → Result T AddressingRefusal → Result T AddressingRefusal → Type 0
Answers expected (Ok value) = expected ≡ Ok value
Answers expected (Err NoMemory) = Unit {0}
Answers expected (Err (MissingHeader name)) = expected ≡ Err (MissingHeader name)
Answers expected (Err (InvalidHeader name)) = expected ≡ Err (InvalidHeader name)
