-- What is posted arrives.
use Rattle.std.proofs.Common.{inl, ◌≡◌, ℕ, List, [], ◌∷◌, Bool, true, false, ◌&&◌, ◌||◌, not, IfSome, Option, Some, None, Result, Ok, Err, refl, ap, subst, sym, ◌∙◌, cond}
use Rattle.std.specs.Prelude.{codes, is_some}
use Rattle.std.specs.Option.{option_and_then, option_map}
use Rattle.std.specs.Str.{bytes_eq, chars, is_utf8}
use Rattle.url.specs.Parts.{Parts}
use Rattle.url.specs.Parser.{parse_url, Parsed}
use Rattle.xml_profile.specs.declared.name.QName.{QName}
use Rattle.xml_profile.specs.declared.tree.Tree.{Tree}
use Rattle.xml_profile.specs.CanonicalText.{canonical_text}
use Rattle.xml_profile.specs.Prefixes.{soap as soap_space}
use Rattle.xml_grammar.specs.Limits.{IsWithin}
use Rattle.xml_grammar.specs.Refusals.{IsShort}
use Rattle.xml_roundtrip.proofs.RoundtripLimits.{written_reads}
use Rattle.soap_profile.specs.BuiltElements.{children_of, qualified}
use Rattle.soap_profile.specs.Envelopes.{enveloped, envelope_of, envelope_tree, judged, not_understood, opened, sole}
use Rattle.soap_profile.specs.Values.{elements, is_empty, is_named}
use Rattle.soap_profile.proofs.Lists.{elements_of_children}
use Rattle.at_base.specs.declared.fault.Fault.TheVariants as faults
use Rattle.at_base.specs.declared.epr.Epr.{Epr}
use Rattle.at_base.specs.declared.epr.Reply.{Reply}
use Rattle.at_base.specs.declared.epr.Reply.TheVariants as replies
use Rattle.at_base.specs.declared.message.Context.{Context}
use Rattle.at_base.specs.declared.message.Message.{Message}
use Rattle.at_base.specs.declared.message.Message.TheVariants as messages
use Rattle.at_base.specs.declared.notice.Notice.{Notice}
use Rattle.at_base.specs.declared.notice.Notice.TheVariants as notices
use Rattle.at_base.specs.declared.outs.Post.{Post}
use Rattle.at_base.specs.declared.target.Target.{Target}
use Rattle.endpoints.specs.Addresses.{target_of}
use Rattle.addressing.specs.Message.{Headers}
use Rattle.addressing.specs.declared.writer.Endpoint.{Endpoint}
use Rattle.addressing.specs.declared.writer.OutgoingHeaders.{OutgoingHeaders}
use Rattle.addressing.specs.Endpoints.{anonymous, is_anonymous, is_nobody}
use Rattle.addressing.specs.Headers.{headers_of, is_parsed, source_of}
use Rattle.addressing.specs.Requests.{answerable_of, create_action, is_answerable, is_request, register_action, request_of, work_action}
use Rattle.addressing.specs.StoredEndpoints.{IsEndpointOf}
use Rattle.addressing.specs.OutgoingHeaders.{AreLegible, IsContext, IsDestination, IsLegible, IsTrimmed, blocks_of, context_block, destination_in, epr_in, headers_in}
use Rattle.addressing.proofs.HeaderRoundtrip.{headers_return}
use Rattle.addressing.proofs.UnderstoodBlocks.{all_understood}
use Rattle.wire_msgs.specs.declared.decode.Arrival.{Arrival}
use Rattle.endpoints.specs.declared.form.Form.{Form}
use Rattle.endpoints.specs.declared.form.Form.TheVariants as forms
use Rattle.wire_msgs.specs.declared.refusal.Refusal.{Refusal}
use Rattle.wire_msgs.specs.Arrivals.{Arrives, arrival_in, arrival_of, arrival_under, arrived, message_of, targeted}
use Rattle.endpoints.specs.Forms.{form_of, takes_any, takes}
use Rattle.wire_msgs.specs.Forms.{action_of, local_of, space_of}
use Rattle.wire_msgs.specs.Refusals.{addressing, soap, ◌>>=◌}
use Rattle.addressing.specs.PostAddresses.{path_in}
use Rattle.wire_msgs.specs.Targets.{target_at}
use Rattle.wire_posts.specs.declared.fault.WrittenFault.{WrittenFault}
use Rattle.wire_posts.specs.declared.fault.WrittenFault.TheVariants.{NotProfileDocument, VersionMismatch, NotEnvelope, MustUnderstand, HeaderRequired, InvalidHeader, ActionNotSupported, Protocol, Other}
use Rattle.wire_posts.specs.Envelopes.{AreBoth, AreHeadersOf, IsBodyOf, IsEnvelopeOf, IsReplyOf, IsTextOf, IsWorkContext, action_in, context_in, reply_epr}
use Rattle.wire_posts.specs.Faults.{fault_action, written_named}
use Rattle.wire_msgs.specs.WholeMessages.{IsClean, IsSource}
use Rattle.wire_posts.specs.Returns.{CanBeWritten, CanReturn, IsAnswerable, IsRequest, IsWholeReply, Returns, returned, written_to}
use Rattle.wire_posts.proofs.Bodies.{ContextRead, contexts_read, fault_message, named, said_body, said_message}
use Rattle.wire_posts.proofs.Ends.{IsRead, is_read, is_spelled}
use Rattle.wire_posts.proofs.SpellableParts.{Can}
use Rattle.wire_posts.proofs.SpellableEnvelopes.{body_can, envelope_can, headers_can}

-- an envelope opens as what it was made of

opens : (blocks : List Tree) (body : Tree) → not_understood blocks ≡ None → envelope_of (envelope_tree blocks body) ≡ Ok (record { headers = blocks; body = body })
opens blocks body h =
    ap (λ (bs : List Tree). opened (enveloped bs (sole (elements (children_of (body ∷ [])))))) (elements_of_children blocks)
    ∙ ap (λ o. judged (record { headers = blocks; body = body }) o) h

-- headers are what the post says

if_some : {A : Type 0} (P Q : A → Type 0) → ((x : A) → P x → Q x) → (o : Option A) → IfSome o P → IfSome o Q
if_some P Q f None h = tt
if_some P Q f (Some x) h = f x h

-- what they are read as
abbrev expected : Post → Option Tree → Headers
expected post context =
    record {
      to = written_to post.to;
      action = action_in post.message;
      id = post.id;
      relates = post.relates;
      from = post.from;
      reply = option_map reply_epr post.reply;
      fault = None;
      context = context;
    }

abbrev written_if : Bool → List ℕ → Option (List ℕ)
written_if b address = cond b None (Some address)

to_same : (to : Option Epr) (out : Option Endpoint) → AreBoth IsEndpointOf to out → destination_in out ≡ written_to to
to_same None None h = refl
to_same None (Some out) h = absurd h
to_same (Some epr) None h = absurd h
to_same (Some epr) (Some out) h = ap (λ a. written_if (bytes_eq a anonymous) a) (is_spelled epr out h).address

source_kept : (epr : Epr) → (is_anonymous epr || is_nobody epr) ≡ false → source_of (Some epr) ≡ Some epr
source_kept epr h = ap (λ b. cond b None (Some epr)) h

from_same : (from : Option Epr) (out : Option Endpoint) → AreBoth IsEndpointOf from out → IfSome from IsSource → source_of (option_map epr_in out) ≡ from
from_same None None h w = refl
from_same None (Some out) h w = absurd h
from_same (Some epr) None h w = absurd h
from_same (Some epr) (Some out) h w = ap (λ e. source_of (Some e)) (is_read epr out w.whole.kept h).same ∙ source_kept epr w.somewhere

-- a predefined address is read as it is written
reply_read : (reply : Reply) (out : Endpoint) → IsReplyOf reply out → IsWholeReply reply → IsRead (reply_epr reply) out
unfolding chars is_utf8 lib.Utf8.encode
reply_read replies.Anonymous out h w = is_read (reply_epr replies.Anonymous) out (record { trimmed = refl; within = refl; params = inl refl }) h
reply_read replies.Nobody out h w = is_read (reply_epr replies.Nobody) out (record { trimmed = refl; within = refl; params = inl refl }) h
reply_read (replies.At epr) out h w = is_read epr out w.kept h

reply_same : (reply : Option Reply) (out : Option Endpoint) → AreBoth IsReplyOf reply out → IfSome reply IsWholeReply
    → option_map epr_in out ≡ option_map reply_epr reply
reply_same None None h w = refl
reply_same None (Some out) h w = absurd h
reply_same (Some reply) None h w = absurd h
reply_same (Some reply) (Some out) h w = ap Some (reply_read reply out h w).same

headers_same : (post : Post) (path : List ℕ) (target : Target) (out : OutgoingHeaders) → AreHeadersOf post out → CanReturn post path target
    → headers_in out ≡ expected post (option_map context_block out.context)
headers_same post path target out h c =
    let to : destination_in out.to ≡ written_to post.to = to_same post.to out.to h.to in
    let from : source_of (option_map epr_in out.from) ≡ post.from = from_same post.from out.from h.from c.from in
    let reply : option_map epr_in out.reply ≡ option_map reply_epr post.reply = reply_same post.reply out.reply h.reply c.reply in
    λ i. record {
      to = to i;
      action = h.action i;
      id = h.id i;
      relates = h.relates i;
      from = from i;
      reply = reply i;
      fault = None;
      context = option_map context_block out.context;
    }

-- and they can be read

path_parsed : (r : Parsed Parts) (target : Target) → option_and_then target_of (path_in r) ≡ Some target → is_parsed r ≡ true
path_parsed (Ok url) target h = refl
path_parsed (Err fault) target h = absurd cc

is_destination : (address : List ℕ) (path : List ℕ) (target : Target) (b : Bool) → target_at (written_if b address) path ≡ Some target
    → (b || is_parsed (parse_url None address)) ≡ true
is_destination address path target true h = refl
is_destination address path target false h = path_parsed (parse_url None address) target h

to_legible : (to : Option Epr) (out : Option Endpoint) (path : List ℕ) (target : Target) → AreBoth IsEndpointOf to out
    → IfSome to (λ epr. IsClean epr.address) → target_at (written_to to) path ≡ Some target → IfSome out IsDestination
to_legible None None path target h w n = tt
to_legible None (Some out) path target h w n = absurd h
to_legible (Some epr) None path target h w n = absurd h
to_legible (Some epr) (Some out) path target h w n =
    let same : out.address ≡ epr.address = (is_spelled epr out h).address in
    record {
      trimmed = subst IsTrimmed (sym same) w.trimmed;
      named =
          subst (λ a. (bytes_eq a anonymous || is_parsed (parse_url None a)) ≡ true) (sym same)
          (is_destination epr.address path target (bytes_eq epr.address anonymous) n);
    }

form_trimmed : (form : Form) → IsTrimmed (action_of form) × (is_empty (action_of form) ≡ false)
form_trimmed forms.Create = (refl, refl)
form_trimmed forms.CreateResponse = (refl, refl)
form_trimmed forms.Register = (refl, refl)
form_trimmed forms.RegisterResponse = (refl, refl)
form_trimmed (forms.Notice notices.Prepare) = (refl, refl)
form_trimmed (forms.Notice notices.Commit) = (refl, refl)
form_trimmed (forms.Notice notices.Rollback) = (refl, refl)
form_trimmed (forms.Notice notices.Prepared) = (refl, refl)
form_trimmed (forms.Notice notices.ReadOnly) = (refl, refl)
form_trimmed (forms.Notice notices.Aborted) = (refl, refl)
form_trimmed (forms.Notice notices.Committed) = (refl, refl)
form_trimmed forms.Work = (refl, refl)
form_trimmed forms.WorkDone = (refl, refl)
form_trimmed forms.WorkRefused = (refl, refl)

fault_trimmed : (fault : WrittenFault) → IsTrimmed (fault_action fault) × (is_empty (fault_action fault) ≡ false)
fault_trimmed NotProfileDocument = (refl, refl)
fault_trimmed VersionMismatch = (refl, refl)
fault_trimmed NotEnvelope = (refl, refl)
fault_trimmed MustUnderstand = (refl, refl)
fault_trimmed HeaderRequired = (refl, refl)
fault_trimmed InvalidHeader = (refl, refl)
fault_trimmed ActionNotSupported = (refl, refl)
fault_trimmed (Protocol faults.InvalidState) = (refl, refl)
fault_trimmed (Protocol faults.InvalidProtocol) = (refl, refl)
fault_trimmed (Protocol faults.InvalidParameters) = (refl, refl)
fault_trimmed (Protocol faults.CannotCreateContext) = (refl, refl)
fault_trimmed (Protocol faults.CannotRegisterParticipant) = (refl, refl)
fault_trimmed (Protocol faults.UnknownTransaction) = (refl, refl)
fault_trimmed Other = (refl, refl)

action_trimmed : (message : Message) → IsTrimmed (action_in message) × (is_empty (action_in message) ≡ false)
action_trimmed (messages.Create body) = form_trimmed forms.Create
action_trimmed (messages.CreateResponse context) = form_trimmed forms.CreateResponse
action_trimmed (messages.Register body) = form_trimmed forms.Register
action_trimmed (messages.RegisterResponse coordinator) = form_trimmed forms.RegisterResponse
action_trimmed (messages.Notice notice) = form_trimmed (forms.Notice notice)
action_trimmed (messages.Work body) = form_trimmed forms.Work
action_trimmed messages.WorkDone = form_trimmed forms.WorkDone
action_trimmed messages.WorkRefused = form_trimmed forms.WorkRefused
action_trimmed (messages.Fault name) = fault_trimmed (written_named name)

from_legible : (from : Option Epr) (out : Option Endpoint) → AreBoth IsEndpointOf from out → IfSome from IsSource → IfSome out IsLegible
from_legible None None h w = tt
from_legible None (Some out) h w = absurd h
from_legible (Some epr) None h w = absurd h
from_legible (Some epr) (Some out) h w = (is_read epr out w.whole.kept h).legible

reply_legible : (reply : Option Reply) (out : Option Endpoint) → AreBoth IsReplyOf reply out → IfSome reply IsWholeReply → IfSome out IsLegible
reply_legible None None h w = tt
reply_legible None (Some out) h w = absurd h
reply_legible (Some reply) None h w = absurd h
reply_legible (Some reply) (Some out) h w = (reply_read reply out h w).legible

context_named : (context : Option Context) (out : Option Tree) → AreBoth IsWorkContext context out → IfSome out IsContext
context_named None None h = tt
context_named None (Some t) h = absurd h
context_named (Some context) None h = absurd h
context_named (Some context) (Some t) h = ap (λ (u : Tree). u.name) h.whole

trimmed_all : (text : Option (List ℕ)) → IfSome text IsClean → IfSome text IsTrimmed
trimmed_all text h = if_some IsClean IsTrimmed (λ t c. c.trimmed) text h

legible : (post : Post) (path : List ℕ) (target : Target) (out : OutgoingHeaders) → AreHeadersOf post out → CanReturn post path target → AreLegible out
legible post path target out h c = record {
  to = to_legible post.to out.to path target h.to c.to c.named;
  action = subst IsTrimmed (sym h.action) (action_trimmed post.message).0;
  said = ap is_empty h.action ∙ (action_trimmed post.message).1;
  id = subst (λ o. IfSome o IsTrimmed) (sym h.id) (trimmed_all post.id c.id);
  relates = subst (λ o. IfSome o IsTrimmed) (sym h.relates) (trimmed_all post.relates c.relates);
  from = from_legible post.from out.from h.from c.from;
  reply = reply_legible post.reply out.reply h.reply c.reply;
  context = context_named (context_in post.message) out.context h.context;
}

-- what is asked of a request

answerable : (headers : Headers) → is_some headers.id ≡ true → is_answerable headers.reply ≡ true → headers.fault ≡ None
    → (not (bytes_eq headers.action work_action) || is_some headers.context) ≡ true → answerable_of headers ≡ Ok tt
answerable headers i r f c = rw (i, r, f, c) refl

request_by : (b : Bool) (headers : Headers) → answerable_of headers ≡ Ok tt → cond b (answerable_of headers) (Ok tt) ≡ Ok tt
request_by true headers h = h
request_by false headers h = refl

-- whether a message with this action and this body asks for an answer
abbrev asks : List ℕ → QName → Bool
asks action name =
    not (is_named name soap_space (codes "Fault"))
    && (bytes_eq action create_action || (bytes_eq action register_action || bytes_eq action work_action))

unasked : (headers : Headers) (action : List ℕ) (name said : QName) → headers.action ≡ action → name ≡ said → asks action said ≡ false
    → request_of headers name ≡ Ok tt
unasked headers action name said a n h =
    ap (λ b. cond b (answerable_of headers) (Ok tt)) ((λ i. asks (a i) (n i)) ∙ h)

-- what the headers of a message that asks for an answer say
abbrev IsAsked : Message → Headers → Type 0
IsAsked (messages.Create body) headers = answerable_of headers ≡ Ok tt
IsAsked (messages.Register body) headers = answerable_of headers ≡ Ok tt
IsAsked (messages.Work body) headers = answerable_of headers ≡ Ok tt
IsAsked message headers = Unit {0}

named_notice : (post_notice : Notice) → asks (action_of (forms.Notice post_notice)) (qualified (space_of (forms.Notice post_notice)) (local_of (forms.Notice post_notice))) ≡ false
named_notice notices.Prepare = refl
named_notice notices.Commit = refl
named_notice notices.Rollback = refl
named_notice notices.Prepared = refl
named_notice notices.ReadOnly = refl
named_notice notices.Aborted = refl
named_notice notices.Committed = refl

abbrev form_name : Form → QName
form_name form = qualified (space_of form) (local_of form)

asked : (message : Message) (headers : Headers) (body : Tree) → headers.action ≡ action_in message → IsBodyOf message body → IsAsked message headers
    → request_of headers body.name ≡ Ok tt
asked (messages.Create create) headers body a h k = request_by (is_request headers body.name) headers k
asked (messages.CreateResponse context) headers body a h k =
    unasked headers (action_of forms.CreateResponse) body.name (form_name forms.CreateResponse) a (ap named h.whole) refl
asked (messages.Register register) headers body a h k = request_by (is_request headers body.name) headers k
asked (messages.RegisterResponse coordinator) headers body a h k =
    unasked headers (action_of forms.RegisterResponse) body.name (form_name forms.RegisterResponse) a (ap named h.whole) refl
asked (messages.Notice notice) headers body a h k =
    unasked headers (action_of (forms.Notice notice)) body.name (form_name (forms.Notice notice)) a (ap named h) (named_notice notice)
asked (messages.Work work) headers body a h k = request_by (is_request headers body.name) headers k
asked messages.WorkDone headers body a h k = unasked headers (action_of forms.WorkDone) body.name (form_name forms.WorkDone) a (ap named h) refl
asked messages.WorkRefused headers body a h k =
    unasked headers (action_of forms.WorkRefused) body.name (form_name forms.WorkRefused) a (ap named h) refl
asked (messages.Fault name) headers body a h k =
    unasked headers (fault_action (written_named name)) body.name (qualified soap_space (codes "Fault")) a (ap named h) refl

-- an answerable post has such headers
answers : (post : Post) (context : Option Tree) → IsAnswerable post
    → (not (bytes_eq (action_in post.message) work_action) || is_some context) ≡ true → answerable_of (expected post context) ≡ Ok tt
answers post context r h = answerable (expected post context) r.id r.reply refl h

work_has_context : (context : Context) (out : Option Tree) → AreBoth IsWorkContext (Some context) out → is_some (option_map context_block out) ≡ true
work_has_context context None h = absurd h
work_has_context context (Some t) h = refl

or_true : (a b : Bool) → b ≡ true → (a || b) ≡ true
or_true true b h = refl
or_true false b h = h

asked_by : (message : Message) (post : Post) (out : Option Tree) → post.message ≡ message → AreBoth IsWorkContext (context_in message) out
    → IsRequest message post → IsAsked message (expected post (option_map context_block out))
asked_by (messages.Create body) post out e h r =
    answers post (option_map context_block out) r (ap (λ m. not (bytes_eq (action_in m) work_action) || is_some (option_map context_block out)) e)
asked_by (messages.Register body) post out e h r =
    answers post (option_map context_block out) r (ap (λ m. not (bytes_eq (action_in m) work_action) || is_some (option_map context_block out)) e)
asked_by (messages.Work body) post out e h r =
    answers post (option_map context_block out) r
    (or_true (not (bytes_eq (action_in post.message) work_action)) (is_some (option_map context_block out)) (work_has_context body.context out h))
asked_by message post out e h r = tt

-- the message

of_form : (message : Message) (form : Form) (headers : Headers) (target : Target) (body : Tree) → form_of message ≡ Some form
    → headers.action ≡ action_of form → takes target message ≡ true → IsBodyOf message body → CanBeWritten message
    → ContextRead message headers.context → message_of headers target body ≡ Ok message
of_form message form headers target body e a t h w k =
    said_message form headers target message body (said_body message form e headers.context body h w k) a
    (ap (takes_any target) (sym e) ∙ t)

message_read : (message : Message) (headers : Headers) (target : Target) (body : Tree) → headers.action ≡ action_in message
    → takes target message ≡ true → IsBodyOf message body → CanBeWritten message → ContextRead message headers.context
    → message_of headers target body ≡ Ok message
message_read (messages.Create create) headers target body a t h w k = of_form (messages.Create create) forms.Create headers target body refl a t h w k
message_read (messages.CreateResponse context) headers target body a t h w k =
    of_form (messages.CreateResponse context) forms.CreateResponse headers target body refl a t h w k
message_read (messages.Register register) headers target body a t h w k =
    of_form (messages.Register register) forms.Register headers target body refl a t h w k
message_read (messages.RegisterResponse coordinator) headers target body a t h w k =
    of_form (messages.RegisterResponse coordinator) forms.RegisterResponse headers target body refl a t h w k
message_read (messages.Notice notice) headers target body a t h w k =
    of_form (messages.Notice notice) (forms.Notice notice) headers target body refl a t h w k
message_read (messages.Work work) headers target body a t h w k = of_form (messages.Work work) forms.Work headers target body refl a t h w k
message_read messages.WorkDone headers target body a t h w k = of_form messages.WorkDone forms.WorkDone headers target body refl a t h w k
message_read messages.WorkRefused headers target body a t h w k = of_form messages.WorkRefused forms.WorkRefused headers target body refl a t h w k
message_read (messages.Fault name) headers target body a t h w k =
    ap (message_of headers target) h
    ∙ fault_message name headers target w t

-- all together

-- what an envelope means, from what its parts are read as
abbrev meant : Result Headers Refusal → Tree → List ℕ → Result Arrival Refusal
meant said body path = said >>= λ headers. arrival_under headers body path

abbrev said_by : Result (Unit {0}) Refusal → Result Target Refusal → (Target → Result Message Refusal) → Result (Target × Message) Refusal
said_by said_asked said_target said_message = do
  asked ← said_asked
  target ← said_target
  message ← said_message target
  Ok (target, message)

abbrev under : Headers → Result (Unit {0}) Refusal → Result Target Refusal → (Target → Result Message Refusal) → Result Arrival Refusal
under headers said_asked said_target said_message =
    said_by said_asked said_target said_message >>= λ said. Ok (arrived headers said.0 said.1)

arrives_under : (headers : Headers) (body : Tree) (path : List ℕ) (target : Target) (message : Message) → request_of headers body.name ≡ Ok tt
    → target_at headers.to path ≡ Some target → message_of headers target body ≡ Ok message
    → arrival_under headers body path ≡ Ok (arrived headers target message)
arrives_under headers body path target message a t m =
    ap (λ r. under headers (addressing r) (targeted (target_at headers.to path)) (λ found. message_of headers found body)) a
    ∙ (ap (λ o. under headers (Ok tt) (targeted o) (λ found. message_of headers found body)) t
    ∙ ap (λ (r : Result Message Refusal). under headers (Ok tt) (Ok target) (λ found. r)) m)

means : (post : Post) (path : List ℕ) (target : Target) (out : OutgoingHeaders) (body : Tree) → AreHeadersOf post out → IsBodyOf post.message body
    → CanReturn post path target → arrival_of (envelope_tree (blocks_of out) body) path ≡ Ok (returned post target)
means post path target out body h b c =
    let context : Option Tree = option_map context_block out.context in
    let headers : Headers = expected post context in
    let understood : not_understood (blocks_of out) ≡ None = all_understood out (context_named (context_in post.message) out.context h.context) in
    let said : headers_of (blocks_of out) ≡ Ok headers =
    headers_return out (legible post path target out h c) ∙ ap Ok (headers_same post path target out h c) in
    ap (λ e. soap e >>= λ envelope. arrival_in envelope path) (opens (blocks_of out) body understood)
    ∙ (ap (λ r. addressing r >>= λ found. arrival_under found body path) said
    ∙ arrives_under headers body path target post.message
    (asked post.message headers body refl b (asked_by post.message post out.context refl h.context c.request))
    c.named
    (message_read post.message headers target body refl c.taken b c.message (contexts_read post.message out.context h.context c.message)))

pub arrives : (post : Post) (tree : Tree) (path : List ℕ) (target : Target) → IsEnvelopeOf post tree → CanReturn post path target → IsWithin tree
    → IsShort (canonical_text tree) → Arrives (canonical_text tree) path (returned post target)
arrives post tree path target e c w s =
    let can : Can tree =
    subst Can (sym e.whole) (envelope_can (blocks_of e.headers) e.body (headers_can post path target e.headers e.headed c) (body_can post.message e.body e.said c.message)) in
    record {
      tree = tree;
      reads = written_reads tree can w s;
      means = ap (λ t. arrival_of t path) e.whole ∙ means post path target e.headers e.body e.headed e.said c;
    }

pub text_returns : (post : Post) (text : List ℕ) → IsTextOf post text → Returns post text
text_returns post text h path target c w s =
    subst (λ t. Arrives t path (returned post target)) (sym h.whole)
    (arrives post h.tree path target h.of c (w h.tree h.of) (subst IsShort h.whole s))
