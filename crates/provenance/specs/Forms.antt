-- What is asked of endpoints, contexts, identifiers, ids of messages, URIs, keys and values, and what it then is that they have in
-- messages, books, records and events.
use Rattle.std.specs.Prelude.{ℕ, List, Option, Some, None, true, IfSome, is_some, codes, ◌≡◌, ◌≤◌, ◌<◌, ◌^◌}
use Rattle.std.specs.List.{AllByRecursion}
use Rattle.at_base.specs.Names.{fault_name}
use Rattle.at_base.specs.Numbers.{Numbers}
use Rattle.at_base.specs.IdText.{IsId}
use Rattle.at_base.specs.declared.epr.Epr.{Epr}
use Rattle.at_base.specs.declared.epr.Reply.{Reply}
use Rattle.at_base.specs.declared.epr.Reply.TheVariants as replies
use Rattle.at_base.specs.declared.fault.Fault.{Fault}
use Rattle.at_base.specs.declared.notice.Kind.{Kind}
use Rattle.at_base.specs.declared.message.Context.{Context}
use Rattle.at_base.specs.declared.message.Message.{Message}
use Rattle.at_base.specs.declared.message.Message.TheVariants as messages
use Rattle.at_base.specs.declared.event.Arrived.{Arrived}
use Rattle.at_base.specs.declared.event.Event.{Event}
use Rattle.at_base.specs.declared.event.Event.TheVariants as events
use Rattle.at_base.specs.declared.event.Local.{Local}
use Rattle.at_base.specs.declared.event.Local.TheVariants as locals
use Rattle.at_base.specs.declared.outs.Out.{Out}
use Rattle.at_base.specs.declared.outs.Out.TheVariants as outs
use Rattle.at_base.specs.declared.outs.Post.{Post}
use Rattle.at_base.specs.declared.record.Record.{Record}
use Rattle.at_base.specs.declared.record.Record.TheVariants as records
use Rattle.at_base.specs.declared.record.Seated.{Seated}
use Rattle.at_base.specs.declared.target.Target.{Target}
use Rattle.at_base.specs.declared.target.Target.TheVariants as targets
use Rattle.endpoints.specs.Addresses.{IsWritten, atomic, completion_protocol, create_id, endpoint_of, protocol_of, register_id, work_id}
use Rattle.at_model.specs.Activities.{asked_expires, service}
use Rattle.at_model.specs.Book.{Activity, Book, Enlistment, Leaf, Link, Request, Superior, Transaction, WorkRequest}
use Rattle.at_model.specs.Create.{identifier_of}
use Rattle.at_model.specs.Seats.{seat_target}

pub record Forms : Type 1 where
  pub endpoint : Epr → Type 0
  pub context : Context → Type 0
  -- of a context
  pub identifier : List ℕ → Type 0
  -- how long a context may last, or none
  pub span : Option ℕ → Type 0
  -- of a message
  pub id : List ℕ → Type 0
  -- a coordination type, or a protocol
  pub uri : List ℕ → Type 0
  -- a key or a value
  pub field : List ℕ → Type 0

-- A node's own have it: its endpoints and the ids of its requests; the contexts of its transactions; and the URIs of the protocol.
-- What a context has its parts have.
pub record HaveOwn (F : Forms) (base : List ℕ) : Type 0 where
  pub endpoints : (own : Target) → IsWritten own → F.endpoint (endpoint_of base own)
  pub contexts : (identifier : List ℕ) (expires : Option ℕ) (id : Numbers) → F.identifier identifier → F.span expires → IsId id
      → F.context (record { identifier = identifier; expires = expires; coordination = atomic; registration = endpoint_of base (targets.Registration id) })
  pub parts : (c : Context) → F.context c → F.identifier c.identifier × F.span c.expires × F.endpoint c.registration
  pub identifiers : (id : Numbers) → IsId id → F.identifier (identifier_of base id)
  pub no_span : F.span None
  pub creates : (own : Target) → F.id (create_id base own)
  pub registers : (own : Target) → F.id (register_id base own)
  pub works : (own : Target) (n : ℕ) → F.id (work_id base own n)
  pub atomic_type : F.uri atomic
  pub protocols : (kind : Kind) → F.uri (protocol_of kind)
  pub completion : F.uri completion_protocol

abbrev pub IsReply : Forms → Reply → Type 0
IsReply F replies.Anonymous = Unit {0}
IsReply F replies.Nobody = Unit {0}
IsReply F (replies.At endpoint) = F.endpoint endpoint

-- it is the name of one of the protocols' faults
abbrev pub IsFaultName : List ℕ → Type 0
IsFaultName name = (fault : Fault) × (name ≡ fault_name fault)

abbrev pub IsMessage : Forms → Message → Type 0
IsMessage F (messages.Create body) = F.span body.expires × IfSome body.current F.context × F.uri body.coordination
IsMessage F (messages.CreateResponse context) = F.context context
IsMessage F (messages.Register body) = F.uri body.protocol × F.endpoint body.participant
IsMessage F (messages.RegisterResponse coordinator) = F.endpoint coordinator
IsMessage F (messages.Notice notice) = Unit {0}
IsMessage F (messages.Work body) = F.context body.context × F.field body.key × F.field body.value
IsMessage F messages.WorkDone = Unit {0}
IsMessage F messages.WorkRefused = Unit {0}
IsMessage F (messages.Fault name) = IsFaultName name

-- A message that came has the same, but a fault may be of any name.
abbrev pub IsHeard : Forms → Message → Type 0
IsHeard F (messages.Fault name) = Unit {0}
IsHeard F other = IsMessage F other

-- a request has an id, and an endpoint for its answer
pub record IsAnswerable (p : Post) : Type 0 where
  pub id : is_some p.id ≡ true
  pub reply : (to : Epr) × (p.reply ≡ Some (replies.At to))

abbrev pub IsAnswerableIn : Message → Post → Type 0
IsAnswerableIn (messages.Create body) p = IsAnswerable p
IsAnswerableIn (messages.Register body) p = IsAnswerable p
IsAnswerableIn (messages.Work body) p = IsAnswerable p
IsAnswerableIn other p = Unit {0}

pub record IsPost (F : Forms) (p : Post) : Type 0 where
  pub to : IfSome p.to F.endpoint
  pub id : IfSome p.id F.id
  pub relates : IfSome p.relates F.id
  pub from : IfSome p.from F.endpoint
  pub reply : IfSome p.reply (IsReply F)
  pub message : IsMessage F p.message
  pub request : IsAnswerableIn p.message p

-- an answer on the connection has what a post has, where it holds a message
abbrev pub IsOut : Forms → Out → Type 0
IsOut F (outs.Post p) = IsPost F p
IsOut F (outs.Answer status reply) = IfSome reply (IsPost F)

abbrev pub AreOuts : Forms → List Out → Type 0
AreOuts F os = AllByRecursion (IsOut F) os

abbrev pub ArePosts : Forms → List Post → Type 0
ArePosts F ps = AllByRecursion (IsPost F) ps

pub record IsArrived (F : Forms) (a : Arrived) : Type 0 where
  pub target : IsWritten a.target
  pub id : IfSome a.id F.id
  pub from : IfSome a.from F.endpoint
  pub reply : IsReply F a.reply
  pub fault : IsReply F a.fault
  pub message : IsHeard F a.message

-- A request names a node by its base, and the endpoint there is that of its activation or of its work.
abbrev pub IsLocal : Forms → Local → Type 0
IsLocal F (locals.Begin coordinator ms) = F.endpoint (service coordinator (codes "/activation")) × F.span (asked_expires ms)
IsLocal F (locals.Interpose activity coordinator) = F.endpoint (service coordinator (codes "/activation"))
IsLocal F (locals.Work activity url kind vote key value) = F.endpoint (service url (codes "/work")) × F.field key × F.field value
IsLocal F (locals.Commit activity) = Unit {0}
IsLocal F (locals.Rollback activity) = Unit {0}

abbrev pub IsEvent : Forms → Event → Type 0
IsEvent F (events.Arrived a) = IsArrived F a
IsEvent F (events.Local l) = IsLocal F l
IsEvent F (events.Due item) = Unit {0}
IsEvent F events.Tick = Unit {0}

-- a seat of this transaction
pub record IsSeat (F : Forms) (id : Numbers) (s : Enlistment) : Type 0 where
  pub number : IsWritten (seat_target id s)
  pub participant : F.endpoint s.participant

abbrev pub IsLink : Forms → Link → Type 0
IsLink F link = IfSome link.coordinator F.endpoint

-- a request that is still to be answered, with a context of this identifier
pub record IsRequest (F : Forms) (text : List ℕ) (r : Request) : Type 0 where
  pub identifier : F.identifier text
  pub id : IfSome r.id F.id
  pub reply : F.endpoint r.reply
  pub fault : IsReply F r.fault
  pub expires : F.span r.expires
  pub registration : F.endpoint r.registration

pub record IsSuperior (F : Forms) (identifier : List ℕ) (s : Superior) : Type 0 where
  pub volatile : IsLink F s.volatile
  pub durable : IsLink F s.durable
  pub request : IfSome s.request (IsRequest F identifier)

pub record IsTransaction (F : Forms) (t : Transaction) : Type 0 where
  pub id : IsId t.id
  pub superior : IfSome t.superior (IsSuperior F t.identifier)
  pub seats : AllByRecursion (IsSeat F t.id) t.seats
  pub completion : IfSome t.completion (λ c. F.endpoint c.initiator)

pub record IsWorkRequest (F : Forms) (r : WorkRequest) : Type 0 where
  pub id : IfSome r.id F.id
  pub reply : F.endpoint r.reply
  pub registration : F.endpoint r.registration

pub record IsLeaf (F : Forms) (l : Leaf) : Type 0 where
  pub id : IsId l.id
  pub coordinator : IfSome l.coordinator F.endpoint
  pub key : F.field l.key
  pub value : F.field l.value
  pub request : IfSome l.request (IsWorkRequest F)

pub record IsActivity (F : Forms) (a : Activity) : Type 0 where
  pub id : IsId a.id
  pub context : IfSome a.context F.context
  pub coordinator : IfSome a.coordinator F.endpoint

pub record IsBook (F : Forms) (b : Book) : Type 0 where
  pub incarnation_least : 1 ≤ b.incarnation
  pub incarnation_most : b.incarnation < 2 ^ 32
  pub transactions : AllByRecursion (IsTransaction F) b.transactions
  pub leaves : AllByRecursion (IsLeaf F) b.leaves
  pub activities : AllByRecursion (IsActivity F) b.activities

pub record IsSeated (F : Forms) (s : Seated) : Type 0 where
  pub least : 1 ≤ s.number
  pub most : s.number < 2 ^ 16
  pub endpoint : F.endpoint s.endpoint

abbrev pub IsRecord : Forms → Record → Type 0
IsRecord F (records.LeafPrepared id coordinator key value) = IsId id × F.endpoint coordinator × F.field key × F.field value
IsRecord F (records.Voted id superior seats) = IsId id × F.endpoint superior × AllByRecursion (IsSeated F) seats
IsRecord F (records.Decided id seats) = IsId id × AllByRecursion (IsSeated F) seats
IsRecord F other = Unit {0}
