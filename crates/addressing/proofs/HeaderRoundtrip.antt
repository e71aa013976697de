-- Headers are read as they were written.
use Rattle.std.proofs.Common.{◌≡◌, ℕ, List, [], ◌∷◌, Bool, true, false, ◌||◌, Option, Some, None, Result, Ok, cond, refl, ap, ◌∙◌}
use Rattle.std.specs.Prelude.{codes, IfSome}
use Rattle.std.specs.List.{find}
use Rattle.std.specs.Option.{option_map}
use Rattle.std.specs.Str.{bytes_eq}
use Rattle.url.specs.Parser.{parse_url}
use Rattle.xml_profile.specs.declared.tree.Tree.{Tree}
use Rattle.xml_profile.specs.Prefixes.{addressing, coordination}
use Rattle.soap_profile.specs.BuiltElements.{qualified}
use Rattle.soap_profile.specs.Children.{at_most_one, named}
use Rattle.soap_profile.specs.Envelopes.{first_of}
use Rattle.soap_profile.specs.Values.{is_empty, text_value, trim}
use Rattle.at_base.specs.declared.epr.Epr.{Epr}
use Rattle.addressing.specs.declared.headers.AddressingRefusal.{AddressingRefusal}
use Rattle.addressing.specs.declared.headers.Header.{Header}
use Rattle.addressing.specs.declared.headers.Header.TheVariants.{To, Action, MessageId, From, ReplyTo, FaultTo}
use Rattle.addressing.specs.declared.writer.Endpoint.{Endpoint}
use Rattle.addressing.specs.declared.writer.OutgoingHeaders.{OutgoingHeaders}
use Rattle.addressing.specs.Endpoints.{anonymous}
use Rattle.addressing.specs.Message.{Headers}
use Rattle.addressing.specs.Headers.{◌>>=◌, action_of, context_of, endpoint_of, header_in, headers_of, is_many, is_parsed, is_repeated, is_reply, local_name, readable, relates_of, said_action, said_once, singles, source_of, to_of, unless_repeated, with_context}
use Rattle.addressing.specs.OutgoingHeaders.{AreLegible, IsTrimmed, IsContext, IsDestination, IsLegible, blocks_of, context_block, context_blocks, destination_in, endpoint_blocks, epr_in, headers_in, text_blocks, text_element, to_blocks}
use Rattle.addressing.proofs.Lookups.{action_named, context_named, fault_named, found, from_named, id_named, relates_named, reply_found, reply_named, to_named}
use Rattle.addressing.proofs.Marks.{heads, own_heads}
use Rattle.addressing.proofs.EndpointRoundtrip.{endpoint_returns, text_returns}

-- each stage, from what is looked up
looked_up : (ts : List Tree) (header : Header) (wanted : List Tree) → named ts addressing (local_name header) ≡ wanted → header_in ts header ≡ first_of wanted
looked_up ts header wanted e = found ts addressing (local_name header) ∙ ap first_of e

action_said : (action : List ℕ) → trim action ≡ action → is_empty action ≡ false → action_of (Some (text_element (codes "Action") action)) ≡ Ok action
action_said action e h =
    ap said_action (text_returns (codes "Action") action e)
    ∙ ap (λ (empty : Bool). cond empty (said_action []) (Ok action)) h

to_said_by : (nowhere : Bool) (address : List ℕ) → bytes_eq address anonymous ≡ nowhere → trim address ≡ address
    → (nowhere || is_parsed (parse_url None address)) ≡ true
    → to_of (first_of (cond nowhere [] (text_element (codes "To") address ∷ []))) ≡ Ok (cond nowhere None (Some address))
to_said_by true address e h k = refl
to_said_by false address e h k = rw (text_returns (codes "To") address h, e, k) refl

to_said : (to : Option Endpoint) → IfSome to IsDestination → to_of (first_of (to_blocks to)) ≡ Ok (destination_in to)
to_said None h = refl
to_said (Some endpoint) h = to_said_by (bytes_eq endpoint.address anonymous) endpoint.address refl h.trimmed h.named

endpoint_said : (header : Header) (local : List ℕ) (endpoint : Option Endpoint) → IfSome endpoint IsLegible
    → endpoint_of header (first_of (endpoint_blocks local endpoint)) ≡ Ok (option_map epr_in endpoint)
endpoint_said header local None h = refl
endpoint_said header local (Some endpoint) h = ap (readable header) (endpoint_returns endpoint (qualified addressing local) h)

text_said : (local : List ℕ) (text : Option (List ℕ)) → IfSome text IsTrimmed → option_map text_value (first_of (text_blocks local text)) ≡ text
text_said local None h = refl
text_said local (Some text) h = ap Some (text_returns local text h)

reply_first : (relates : Option (List ℕ)) → find is_reply (text_blocks (codes "RelatesTo") relates) ≡ first_of (text_blocks (codes "RelatesTo") relates)
reply_first None = refl
reply_first (Some text) = refl

context_first : (context : Option Tree) → first_of (context_blocks context) ≡ option_map context_block context
context_first None = refl
context_first (Some t) = refl

-- no header is repeated
one_text : (local : List ℕ) (text : Option (List ℕ)) → is_many (at_most_one (text_blocks local text)) ≡ false
one_text local None = refl
one_text local (Some text) = refl

one_endpoint : (local : List ℕ) (endpoint : Option Endpoint) → is_many (at_most_one (endpoint_blocks local endpoint)) ≡ false
one_endpoint local None = refl
one_endpoint local (Some endpoint) = refl

one_named : (nowhere : Bool) (address : List ℕ) → is_many (at_most_one (cond nowhere [] (text_element (codes "To") address ∷ []))) ≡ false
one_named true address = refl
one_named false address = refl

one_to : (to : Option Endpoint) → is_many (at_most_one (to_blocks to)) ≡ false
one_to None = refl
one_to (Some endpoint) = one_named (bytes_eq endpoint.address anonymous) endpoint.address

once_each : (repeated : Header → Bool) → repeated To ≡ false → repeated Action ≡ false → repeated MessageId ≡ false → repeated From ≡ false
    → repeated ReplyTo ≡ false → repeated FaultTo ≡ false → find repeated singles ≡ None
once_each repeated a b c d e f = rw (a, b, c, d, e, f) refl

not_repeated : (out : OutgoingHeaders) → IfSome out.context IsContext → find (is_repeated (heads out)) singles ≡ None
not_repeated out h =
    let count : List Tree → Bool = λ ts. is_many (at_most_one ts) in
    once_each (is_repeated (heads out))
    (ap count (to_named out h) ∙ one_to out.to)
    (ap count (action_named out h))
    (ap count (id_named out h) ∙ one_text (codes "MessageID") out.id)
    (ap count (from_named out h) ∙ one_endpoint (codes "From") out.from)
    (ap count (reply_named out h) ∙ one_endpoint (codes "ReplyTo") out.reply)
    (ap count (fault_named out h))

-- the stages together
abbrev together : Result (List ℕ) AddressingRefusal → Result (Option (List ℕ)) AddressingRefusal → Result (Option Epr) AddressingRefusal
    → Result (Option Epr) AddressingRefusal → Result (Option Epr) AddressingRefusal → Option (List ℕ) → Option (List ℕ) → Result Headers AddressingRefusal
together said_action said_to said_from said_reply said_fault id relates = do
  action ← said_action
  to ← said_to
  from ← said_from
  reply ← said_reply
  fault ← said_fault
  Ok (record {
    to = to;
    action = action;
    id = id;
    relates = relates;
    from = source_of from;
    reply = reply;
    fault = fault;
    context = None;
  })

said_heads : (out : OutgoingHeaders) → AreLegible out
    → said_once (heads out)
    ≡ together (Ok out.action) (Ok (destination_in out.to)) (Ok (option_map epr_in out.from)) (Ok (option_map epr_in out.reply)) (Ok None) out.id out.relates
said_heads out h =
    let ts : List Tree = heads out in
    let action : action_of (header_in ts Action) ≡ Ok out.action =
    ap action_of (looked_up ts Action _ (action_named out h.context)) ∙ action_said out.action h.action h.said in
    let to : to_of (header_in ts To) ≡ Ok (destination_in out.to) = ap to_of (looked_up ts To _ (to_named out h.context)) ∙ to_said out.to h.to in
    let from : endpoint_of From (header_in ts From) ≡ Ok (option_map epr_in out.from) =
    ap (endpoint_of From) (looked_up ts From _ (from_named out h.context)) ∙ endpoint_said From (codes "From") out.from h.from in
    let reply : endpoint_of ReplyTo (header_in ts ReplyTo) ≡ Ok (option_map epr_in out.reply) =
    ap (endpoint_of ReplyTo) (looked_up ts ReplyTo _ (reply_named out h.context)) ∙ endpoint_said ReplyTo (codes "ReplyTo") out.reply h.reply in
    let fault : endpoint_of FaultTo (header_in ts FaultTo) ≡ Ok None = ap (endpoint_of FaultTo) (looked_up ts FaultTo _ (fault_named out h.context)) in
    let id : option_map text_value (header_in ts MessageId) ≡ out.id =
    ap (option_map text_value) (looked_up ts MessageId _ (id_named out h.context)) ∙ text_said (codes "MessageID") out.id h.id in
    let relates : relates_of ts ≡ out.relates =
    ap (option_map text_value) (reply_found ts ∙ (ap (find is_reply) (relates_named out h.context) ∙ reply_first out.relates))
    ∙ text_said (codes "RelatesTo") out.relates h.relates in
    λ i. together (action i) (to i) (from i) (reply i) (fault i) (id i) (relates i)

abbrev of_own : Option Header → Result Headers AddressingRefusal → Option Tree → Result Headers AddressingRefusal
of_own repeated said context = unless_repeated repeated said >>= λ headers. Ok (with_context context headers)

pub headers_return : (out : OutgoingHeaders) → AreLegible out → headers_of (blocks_of out) ≡ Ok (headers_in out)
headers_return out h =
    let own : headers_of (blocks_of out) ≡ of_own (find (is_repeated (heads out)) singles) (said_once (heads out)) (context_of (heads out)) =
    ap (λ (ts : List Tree). of_own (find (is_repeated ts) singles) (said_once ts) (context_of ts)) (own_heads out) in
    let context : context_of (heads out) ≡ option_map context_block out.context =
    found (heads out) coordination (codes "CoordinationContext") ∙ (ap first_of (context_named out h.context) ∙ context_first out.context) in
    own ∙ (λ i. of_own (not_repeated out h.context i) (said_heads out h i) (context i))
