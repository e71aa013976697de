-- The envelope of a post whose texts can be spelled can be spelled.
use Rattle.std.proofs.Common.{◌≡◌, ℕ, List, [], ◌∷◌, ◌++◌, Bool, true, false, ◌&&◌, IfSome, Option, Some, None, refl, ap, subst, sym, ◌∙◌, cond}
use Rattle.std.specs.Prelude.{codes}
use Rattle.std.specs.Option.{option_to_list}
use Rattle.std.specs.Str.{bytes_eq, chars, is_utf8}
use Rattle.std.specs.Fmt.{decimal}
use Rattle.xml_profile.specs.declared.name.QName.{QName}
use Rattle.xml_profile.specs.declared.tree.Tree.{Tree}
use Rattle.xml_profile.specs.Forest.Forest.{End}
use Rattle.xml_profile.specs.Prefixes.{addressing, soap, work}
use Rattle.xml_profile.specs.SpellableTrees.{is_content, is_name, is_tag, is_text, texts_apart}
use Rattle.soap_profile.specs.BuiltElements.{children_of, element, qualified}
use Rattle.soap_profile.specs.Envelopes.{envelope_tree}
use Rattle.soap_profile.specs.Values.{elements}
use Rattle.at_base.specs.declared.fault.Fault.TheVariants as faults
use Rattle.at_base.specs.declared.epr.Epr.{Epr}
use Rattle.at_base.specs.declared.epr.Reply.{Reply}
use Rattle.at_base.specs.declared.epr.Reply.TheVariants as replies
use Rattle.at_base.specs.declared.message.Context.{Context}
use Rattle.at_base.specs.declared.message.Create.{Create}
use Rattle.at_base.specs.declared.message.Register.{Register}
use Rattle.at_base.specs.declared.message.Work.{Work}
use Rattle.at_base.specs.declared.message.Message.{Message}
use Rattle.at_base.specs.declared.message.Message.TheVariants as messages
use Rattle.at_base.specs.declared.notice.Kind.{Kind}
use Rattle.at_base.specs.declared.notice.Kind.TheVariants as kinds
use Rattle.at_base.specs.declared.notice.Notice.TheVariants as notices
use Rattle.at_base.specs.declared.notice.Vote.{Vote}
use Rattle.at_base.specs.declared.notice.Vote.TheVariants as votes
use Rattle.at_base.specs.declared.outs.Post.{Post}
use Rattle.at_base.specs.declared.target.Target.{Target}
use Rattle.addressing.specs.declared.writer.Endpoint.{Endpoint}
use Rattle.addressing.specs.declared.writer.OutgoingHeaders.{OutgoingHeaders}
use Rattle.addressing.specs.Endpoints.{anonymous}
use Rattle.addressing.specs.StoredEndpoints.{IsEndpointOf}
use Rattle.addressing.specs.OutgoingHeaders.{blocks_of, context_block, context_blocks, endpoint_blocks, endpoint_tree, message_blocks, parameters_in, parameters_of, text_blocks, text_element, to_blocks}
use Rattle.context.specs.declared.parameter.Parameter.{Parameter}
use Rattle.context.specs.declared.parameter.Parameter.TheVariants.{Identifier, Expires, CoordinationType, RegistrationService, CurrentContext, CoordinationContext, ProtocolIdentifier, ParticipantProtocolService, CoordinatorProtocolService}
use Rattle.context.specs.declared.writer.OutgoingContext.{OutgoingContext}
use Rattle.context.specs.declared.writer.OutgoingCreate.{OutgoingCreate}
use Rattle.context.specs.declared.writer.OutgoingRegister.{OutgoingRegister}
use Rattle.context.specs.BodyTrees.{IsNarrow, context_tree, create_tree, current_parameter, endpoint_parameter, expires_parameter, parameter_name, register_tree, text_parameter}
use Rattle.endpoints.specs.declared.form.Form.{Form}
use Rattle.endpoints.specs.declared.form.Form.TheVariants as forms
use Rattle.wire_msgs.specs.declared.part.Part.{Part}
use Rattle.wire_msgs.specs.declared.part.Part.TheVariants as parts
use Rattle.wire_msgs.specs.Forms.{action_of, local_of, space_of}
use Rattle.wire_msgs.specs.Parts.{part_name}
use Rattle.wire_posts.specs.declared.fault.WrittenFault.{WrittenFault}
use Rattle.wire_posts.specs.declared.fault.WrittenFault.TheVariants.{NotProfileDocument, VersionMismatch, NotEnvelope, MustUnderstand, HeaderRequired, InvalidHeader, ActionNotSupported, Protocol, Other}
use Rattle.wire_posts.specs.Envelopes.{AreBoth, AreHeadersOf, IsBodyOf, IsContextOf, IsCreateOf, IsRegisterOf, IsReplyOf, IsWorkContext, action_in, context_in, empty_tree, reply_epr, work_part, work_tree}
use Rattle.at_base.specs.Names.{kind_name, vote_name}
use Rattle.wire_posts.specs.Faults.{fault_action, fault_body, written_named}
use Rattle.wire_msgs.specs.WholeMessages.{IsClean, IsSource, IsWholeContext, IsWholeCreate, IsWholeRegister, IsWholeWork}
use Rattle.wire_posts.specs.Returns.{CanBeWritten, CanReturn, IsWholeReply}
use Rattle.wire_posts.proofs.Ends.{IsSpelled, is_spelled}
use Rattle.wire_posts.proofs.MarkedParameters.{all_marked}
use Rattle.wire_posts.proofs.SpellableParts.{AllCan, Can, all_can, decimal_text, element_can, elements_can, elements_of, text_can}
use Rattle.wire_posts.proofs.Bools.{both, both_true}

-- names

parameter_named : (parameter : Parameter) → is_name (parameter_name parameter) ≡ true
unfolding chars is_utf8 lib.Utf8.encode
parameter_named Identifier = refl
parameter_named Expires = refl
parameter_named CoordinationType = refl
parameter_named RegistrationService = refl
parameter_named CurrentContext = refl
parameter_named CoordinationContext = refl
parameter_named ProtocolIdentifier = refl
parameter_named ParticipantProtocolService = refl
parameter_named CoordinatorProtocolService = refl

form_named : (form : Form) → is_name (qualified (space_of form) (local_of form)) ≡ true
unfolding chars is_utf8 lib.Utf8.encode
form_named forms.Create = refl
form_named forms.CreateResponse = refl
form_named forms.Register = refl
form_named forms.RegisterResponse = refl
form_named (forms.Notice notices.Prepare) = refl
form_named (forms.Notice notices.Commit) = refl
form_named (forms.Notice notices.Rollback) = refl
form_named (forms.Notice notices.Prepared) = refl
form_named (forms.Notice notices.ReadOnly) = refl
form_named (forms.Notice notices.Aborted) = refl
form_named (forms.Notice notices.Committed) = refl
form_named forms.Work = refl
form_named forms.WorkDone = refl
form_named forms.WorkRefused = refl

part_named : (part : Part) → is_name (qualified work (part_name part)) ≡ true
unfolding chars is_utf8 lib.Utf8.encode
part_named parts.Key = refl
part_named parts.Value = refl
part_named parts.Kind = refl
part_named parts.Vote = refl

to_named : is_name (qualified addressing (codes "To")) ≡ true
unfolding chars is_utf8 lib.Utf8.encode
to_named = refl

action_named : is_name (qualified addressing (codes "Action")) ≡ true
unfolding chars is_utf8 lib.Utf8.encode
action_named = refl

id_named : is_name (qualified addressing (codes "MessageID")) ≡ true
unfolding chars is_utf8 lib.Utf8.encode
id_named = refl

relates_named : is_name (qualified addressing (codes "RelatesTo")) ≡ true
unfolding chars is_utf8 lib.Utf8.encode
relates_named = refl

from_named : is_name (qualified addressing (codes "From")) ≡ true
unfolding chars is_utf8 lib.Utf8.encode
from_named = refl

reply_named : is_name (qualified addressing (codes "ReplyTo")) ≡ true
unfolding chars is_utf8 lib.Utf8.encode
reply_named = refl

address_named : is_name (qualified addressing (codes "Address")) ≡ true
unfolding chars is_utf8 lib.Utf8.encode
address_named = refl

envelope_named : is_name (qualified soap (codes "Envelope")) ≡ true
unfolding chars is_utf8 lib.Utf8.encode
envelope_named = refl

header_named : is_name (qualified soap (codes "Header")) ≡ true
unfolding chars is_utf8 lib.Utf8.encode
header_named = refl

body_named : is_name (qualified soap (codes "Body")) ≡ true
unfolding chars is_utf8 lib.Utf8.encode
body_named = refl

-- texts

form_action : (form : Form) → is_text (action_of form) ≡ true
unfolding chars is_utf8 lib.Utf8.encode
form_action forms.Create = refl
form_action forms.CreateResponse = refl
form_action forms.Register = refl
form_action forms.RegisterResponse = refl
form_action (forms.Notice notices.Prepare) = refl
form_action (forms.Notice notices.Commit) = refl
form_action (forms.Notice notices.Rollback) = refl
form_action (forms.Notice notices.Prepared) = refl
form_action (forms.Notice notices.ReadOnly) = refl
form_action (forms.Notice notices.Aborted) = refl
form_action (forms.Notice notices.Committed) = refl
form_action forms.Work = refl
form_action forms.WorkDone = refl
form_action forms.WorkRefused = refl

of_fault : (fault : WrittenFault) → is_text (fault_action fault) ≡ true
unfolding chars is_utf8 lib.Utf8.encode
of_fault NotProfileDocument = refl
of_fault VersionMismatch = refl
of_fault NotEnvelope = refl
of_fault MustUnderstand = refl
of_fault HeaderRequired = refl
of_fault InvalidHeader = refl
of_fault ActionNotSupported = refl
of_fault (Protocol faults.InvalidState) = refl
of_fault (Protocol faults.InvalidProtocol) = refl
of_fault (Protocol faults.InvalidParameters) = refl
of_fault (Protocol faults.CannotCreateContext) = refl
of_fault (Protocol faults.CannotRegisterParticipant) = refl
of_fault (Protocol faults.UnknownTransaction) = refl
of_fault Other = refl

action_text : (message : Message) → is_text (action_in message) ≡ true
action_text (messages.Create body) = form_action forms.Create
action_text (messages.CreateResponse context) = form_action forms.CreateResponse
action_text (messages.Register body) = form_action forms.Register
action_text (messages.RegisterResponse coordinator) = form_action forms.RegisterResponse
action_text (messages.Notice notice) = form_action (forms.Notice notice)
action_text (messages.Work body) = form_action forms.Work
action_text messages.WorkDone = form_action forms.WorkDone
action_text messages.WorkRefused = form_action forms.WorkRefused
action_text (messages.Fault name) = of_fault (written_named name)

kind_text : (kind : Kind) → is_text (kind_name kind) ≡ true
unfolding chars is_utf8 lib.Utf8.encode
kind_text kinds.Volatile = refl
kind_text kinds.Durable = refl

vote_text : (vote : Vote) → is_text (vote_name vote) ≡ true
unfolding chars is_utf8 lib.Utf8.encode
vote_text votes.Prepared = refl
vote_text votes.ReadOnly = refl
vote_text votes.Aborted = refl

anonymous_text : (reply : Reply) → IsWholeReply reply → is_text (reply_epr reply).address ≡ true
unfolding chars is_utf8 lib.Utf8.encode
anonymous_text replies.Anonymous h = refl
anonymous_text replies.Nobody h = refl
anonymous_text (replies.At epr) h = h.spelled

-- endpoints

params_can : (params : Option Tree) → IfSome params Can → AllCan (option_to_list params)
params_can None h = tt
params_can (Some t) h = (h, tt)

endpoint_can : (epr : Epr) (endpoint : Endpoint) (name : QName) → is_name name ≡ true → is_text epr.address ≡ true → IsEndpointOf epr endpoint
    → Can (endpoint_tree endpoint name)
endpoint_can epr endpoint name n a h =
    let s : IsSpelled epr endpoint = is_spelled epr endpoint h in
    elements_can name (text_element (codes "Address") endpoint.address ∷ option_to_list endpoint.params) n
    (text_can (qualified addressing (codes "Address")) endpoint.address address_named (ap is_text s.address ∙ a), params_can endpoint.params s.params)

-- contexts

expires_can : (expires : Option ℕ) → IsNarrow expires → AllCan (expires_parameter expires)
expires_can None h = tt
expires_can (Some n) h = (text_can (parameter_name Expires) (decimal n) (parameter_named Expires) (decimal_text n h), tt)

abbrev context_children : OutgoingContext → List Tree
context_children out =
    text_parameter Identifier out.identifier ∷ expires_parameter out.expires ++ text_parameter CoordinationType out.coordination
    ∷ endpoint_parameter RegistrationService out.registration ∷ []

context_parts : (context : Context) (out : OutgoingContext) → IsContextOf context out → IsWholeContext context → AllCan (context_children out)
context_parts context out h w = (
  text_can (parameter_name Identifier) out.identifier (parameter_named Identifier) (ap is_text h.identifier ∙ w.identifier.spelled),
  all_can (expires_parameter out.expires) (text_parameter CoordinationType out.coordination ∷ endpoint_parameter RegistrationService out.registration ∷ [])
      (expires_can out.expires (subst IsNarrow (sym h.expires) w.expires)) (
        text_can (parameter_name CoordinationType) out.coordination (parameter_named CoordinationType) (ap is_text h.coordination ∙ w.coordination.spelled),
        (endpoint_can context.registration out.registration (parameter_name RegistrationService) (parameter_named RegistrationService) w.registration.spelled h.registration, tt),
      ),
)

context_can : (context : Context) (out : OutgoingContext) (name : QName) → is_name name ≡ true → IsContextOf context out → IsWholeContext context
    → Can (context_tree out name)
context_can context out name n h w = elements_can name (context_children out) n (context_parts context out h w)

-- bodies

body_elements : (form : Form) (ts : List Tree) → AllCan ts → Can (element (qualified (space_of form) (local_of form)) (children_of ts))
body_elements form ts h = elements_can (qualified (space_of form) (local_of form)) ts (form_named form) h

current_can : (current : Option Context) (out : Option OutgoingContext) → AreBoth IsContextOf current out → IfSome current IsWholeContext
    → AllCan (current_parameter out)
current_can None None h w = tt
current_can None (Some out) h w = absurd h
current_can (Some context) None h w = absurd h
current_can (Some context) (Some out) h w = (context_can context out (parameter_name CurrentContext) (parameter_named CurrentContext) h w, tt)

create_can : (body : Create) (out : OutgoingCreate) → IsCreateOf body out → IsWholeCreate body → Can (create_tree out)
create_can body out h w =
    body_elements forms.Create (expires_parameter out.expires ++ current_parameter out.current ++ text_parameter CoordinationType out.coordination ∷ [])
    (all_can (expires_parameter out.expires ++ current_parameter out.current) (text_parameter CoordinationType out.coordination ∷ [])
    (all_can (expires_parameter out.expires) (current_parameter out.current) (expires_can out.expires (subst IsNarrow (sym h.expires) w.expires))
    (current_can body.current out.current h.current w.current))
    (text_can (parameter_name CoordinationType) out.coordination (parameter_named CoordinationType) (ap is_text h.coordination ∙ w.coordination.spelled), tt))

register_can : (body : Register) (out : OutgoingRegister) → IsRegisterOf body out → IsWholeRegister body → Can (register_tree out)
register_can body out h w =
    body_elements forms.Register (text_parameter ProtocolIdentifier out.protocol ∷ endpoint_parameter ParticipantProtocolService out.participant ∷ []) (
      text_can (parameter_name ProtocolIdentifier) out.protocol (parameter_named ProtocolIdentifier) (ap is_text h.protocol ∙ w.protocol.spelled),
      (endpoint_can body.participant out.participant (parameter_name ParticipantProtocolService) (parameter_named ParticipantProtocolService) w.participant.spelled h.participant, tt),
    )

part_can : (part : Part) (text : List ℕ) → is_text text ≡ true → Can (work_part part text)
part_can part text h = text_can (qualified work (part_name part)) text (part_named part) h

work_can : (body : Work) → IsWholeWork body → Can (work_tree body)
work_can body w =
    body_elements forms.Work (
    work_part parts.Key body.key ∷ work_part parts.Value body.value ∷ work_part parts.Kind (kind_name body.kind)
    ∷ work_part parts.Vote (vote_name body.vote) ∷ []) (
      part_can parts.Key body.key w.key.spelled,
      (part_can parts.Value body.value w.value.spelled, (part_can parts.Kind (kind_name body.kind) (kind_text body.kind), (part_can parts.Vote (vote_name body.vote) (vote_text body.vote), tt))),
    )

empty_can : (form : Form) → Can (empty_tree form)
empty_can form = element_can (qualified (space_of form) (local_of form)) End (form_named form) refl

fault_can : (fault : WrittenFault) → Can (fault_body fault)
unfolding chars is_utf8 lib.Utf8.encode
fault_can NotProfileDocument = refl
fault_can VersionMismatch = refl
fault_can NotEnvelope = refl
fault_can MustUnderstand = refl
fault_can HeaderRequired = refl
fault_can InvalidHeader = refl
fault_can ActionNotSupported = refl
fault_can (Protocol faults.InvalidState) = refl
fault_can (Protocol faults.InvalidProtocol) = refl
fault_can (Protocol faults.InvalidParameters) = refl
fault_can (Protocol faults.CannotCreateContext) = refl
fault_can (Protocol faults.CannotRegisterParticipant) = refl
fault_can (Protocol faults.UnknownTransaction) = refl
fault_can Other = refl

pub body_can : (message : Message) (body : Tree) → IsBodyOf message body → CanBeWritten message → Can body
body_can (messages.Create create) body h w = subst Can (sym h.whole) (create_can create h.out h.of w)
body_can (messages.CreateResponse context) body h w =
    subst Can (sym h.whole)
    (body_elements forms.CreateResponse (context_tree h.out (parameter_name CoordinationContext) ∷ [])
    (context_can context h.out (parameter_name CoordinationContext) (parameter_named CoordinationContext) h.of w, tt))
body_can (messages.Register register) body h w = subst Can (sym h.whole) (register_can register h.out h.of w)
body_can (messages.RegisterResponse coordinator) body h w =
    subst Can (sym h.whole)
    (body_elements forms.RegisterResponse (endpoint_parameter CoordinatorProtocolService h.out ∷ [])
    (endpoint_can coordinator h.out (parameter_name CoordinatorProtocolService) (parameter_named CoordinatorProtocolService) w.spelled h.of, tt))
body_can (messages.Notice notice) body h w = subst Can (sym h) (empty_can (forms.Notice notice))
body_can (messages.Work work) body h w = subst Can (sym h) (work_can work w)
body_can messages.WorkDone body h w = subst Can (sym h) (empty_can forms.WorkDone)
body_can messages.WorkRefused body h w = subst Can (sym h) (empty_can forms.WorkRefused)
body_can (messages.Fault name) body h w = subst Can (sym h) (fault_can (written_named name))

-- header blocks

unless : (b : Bool) (t : Tree) → Can t → AllCan (cond b [] (t ∷ []))
unless true t h = tt
unless false t h = (h, tt)

to_can : (to : Option Epr) (out : Option Endpoint) → AreBoth IsEndpointOf to out → IfSome to (λ epr. IsClean epr.address) → AllCan (to_blocks out)
to_can None None h w = tt
to_can None (Some out) h w = absurd h
to_can (Some epr) None h w = absurd h
to_can (Some epr) (Some out) h w =
    unless (bytes_eq out.address anonymous) (text_element (codes "To") out.address)
    (text_can (qualified addressing (codes "To")) out.address to_named (ap is_text (is_spelled epr out h).address ∙ w.spelled))

texts_can : (local : List ℕ) (text : Option (List ℕ)) → is_name (qualified addressing local) ≡ true → IfSome text IsClean → AllCan (text_blocks local text)
texts_can local None n w = tt
texts_can local (Some text) n w = (text_can (qualified addressing local) text n w.spelled, tt)

from_can : (from : Option Epr) (out : Option Endpoint) → AreBoth IsEndpointOf from out → IfSome from IsSource → AllCan (endpoint_blocks (codes "From") out)
from_can None None h w = tt
from_can None (Some out) h w = absurd h
from_can (Some epr) None h w = absurd h
from_can (Some epr) (Some out) h w = (endpoint_can epr out (qualified addressing (codes "From")) from_named w.whole.spelled h, tt)

reply_can : (reply : Option Reply) (out : Option Endpoint) → AreBoth IsReplyOf reply out → IfSome reply IsWholeReply → AllCan (endpoint_blocks (codes "ReplyTo") out)
reply_can None None h w = tt
reply_can None (Some out) h w = absurd h
reply_can (Some reply) None h w = absurd h
reply_can (Some reply) (Some out) h w = (endpoint_can (reply_epr reply) out (qualified addressing (codes "ReplyTo")) reply_named (anonymous_text reply w) h, tt)

inside_can : (params : Option Tree) → IfSome params Can → AllCan (parameters_in params)
inside_can None h = tt
inside_can (Some t) h = all_marked (elements t.children) (elements_of t h)

parameters_can : (to : Option Epr) (out : Option Endpoint) → AreBoth IsEndpointOf to out → AllCan (parameters_of out)
parameters_can None None h = tt
parameters_can None (Some out) h = absurd h
parameters_can (Some epr) None h = absurd h
parameters_can (Some epr) (Some out) h = inside_can out.params (is_spelled epr out h).params

understood_fits : (name : QName) → is_name name ≡ true → is_tag name (context_block (element name End)).attributes ≡ true
unfolding chars is_utf8 lib.Utf8.encode
understood_fits name n = both_true (is_name name) true n refl

block_can : (t : Tree) → Can t → Can (context_block t)
block_can t h =
    let (tag, inside) = both (is_tag t.name t.attributes) (texts_apart t.children && is_content t.children) h in
    both_true (is_tag t.name (context_block t).attributes) (texts_apart t.children && is_content t.children)
    (understood_fits t.name (both (is_name t.name) _ tag).0) inside

work_context_can : (context : Option Context) (out : Option Tree) → AreBoth IsWorkContext context out → IfSome context IsWholeContext
    → AllCan (context_blocks out)
work_context_can None None h w = tt
work_context_can None (Some t) h w = absurd h
work_context_can (Some context) None h w = absurd h
work_context_can (Some context) (Some t) h w = (
  block_can t (subst Can (sym h.whole) (context_can context h.out (parameter_name CoordinationContext) (parameter_named CoordinationContext) h.of w)),
  tt,
)

pub envelope_can : (blocks : List Tree) (body : Tree) → AllCan blocks → Can body → Can (envelope_tree blocks body)
envelope_can blocks body h b =
    let header : Tree = element (qualified soap (codes "Header")) (children_of blocks) in
    let inner : Tree = element (qualified soap (codes "Body")) (children_of (body ∷ [])) in
    let header_can : Can header = elements_can (qualified soap (codes "Header")) blocks header_named h in
    let inner_can : Can inner = elements_can (qualified soap (codes "Body")) (body ∷ []) body_named (b, tt) in
    elements_can (qualified soap (codes "Envelope")) (header ∷ inner ∷ []) envelope_named (header_can, (inner_can, tt))

text_spelled : (text written : Option (List ℕ)) → written ≡ text → IfSome text IsClean → IfSome written IsClean
text_spelled text written e w = subst (λ o. IfSome o IsClean) (sym e) w

message_can : (post : Post) (path : List ℕ) (target : Target) (out : OutgoingHeaders) → AreHeadersOf post out → CanReturn post path target
    → AllCan (message_blocks out.to out.action out.id out.relates)
message_can post path target out h c =
    let named : List Tree = to_blocks out.to ++ text_element (codes "Action") out.action ∷ [] in
    let action : Can (text_element (codes "Action") out.action) =
    text_can (qualified addressing (codes "Action")) out.action action_named (ap is_text h.action ∙ action_text post.message) in
    all_can (named ++ text_blocks (codes "MessageID") out.id) (text_blocks (codes "RelatesTo") out.relates)
    (all_can named (text_blocks (codes "MessageID") out.id)
    (all_can (to_blocks out.to) (text_element (codes "Action") out.action ∷ []) (to_can post.to out.to h.to c.to) (action, tt))
    (texts_can (codes "MessageID") out.id id_named (text_spelled post.id out.id h.id c.id)))
    (texts_can (codes "RelatesTo") out.relates relates_named (text_spelled post.relates out.relates h.relates c.relates))

-- a Work has its context in the header
context_whole : (message : Message) → CanBeWritten message → IfSome (context_in message) IsWholeContext
context_whole (messages.Work body) w = w.context
context_whole message w = tt

pub headers_can : (post : Post) (path : List ℕ) (target : Target) (out : OutgoingHeaders) → AreHeadersOf post out → CanReturn post path target
    → AllCan (blocks_of out)
headers_can post path target out h c =
    let message : List Tree = message_blocks out.to out.action out.id out.relates in
    let from : List Tree = endpoint_blocks (codes "From") out.from in
    let reply : List Tree = endpoint_blocks (codes "ReplyTo") out.reply in
    all_can (message ++ from ++ reply ++ parameters_of out.to) (context_blocks out.context)
    (all_can (message ++ from ++ reply) (parameters_of out.to)
    (all_can (message ++ from) reply
    (all_can message from (message_can post path target out h c) (from_can post.from out.from h.from c.from))
    (reply_can post.reply out.reply h.reply c.reply))
    (parameters_can post.to out.to h.to))
    (work_context_can (context_in post.message) out.context h.context (context_whole post.message c.message))
