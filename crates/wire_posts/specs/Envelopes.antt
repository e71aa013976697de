-- The envelope of each message that is posted (WS-Addressing 1.0 Core, section 3; WS-Coordination 1.2, sections 2 and 3;
-- WS-AtomicTransaction 1.2, section 3).
use Rattle.std.specs.Prelude.{◌≡◌, ℕ, List, [], ◌∷◌, Option, Some, None, codes}
use Rattle.std.specs.Option.{option_map}
use Rattle.at_base.specs.Names.{kind_name, vote_name}
use Rattle.xml_profile.specs.declared.tree.Tree.{Tree}
use Rattle.xml_profile.specs.CanonicalText.{canonical_text}
use Rattle.xml_profile.specs.Forest.Forest.{End}
use Rattle.xml_profile.specs.Prefixes.{coordination, work}
use Rattle.soap_profile.specs.BuiltElements.{children_of, element, qualified, text_children}
use Rattle.soap_profile.specs.Envelopes.{envelope_tree}
use Rattle.at_base.specs.declared.epr.Epr.{Epr}
use Rattle.at_base.specs.declared.epr.Reply.{Reply}
use Rattle.at_base.specs.declared.epr.Reply.TheVariants as replies
use Rattle.at_base.specs.declared.message.Context.{Context}
use Rattle.at_base.specs.declared.message.Create.{Create}
use Rattle.at_base.specs.declared.message.Register.{Register}
use Rattle.at_base.specs.declared.message.Work.{Work}
use Rattle.at_base.specs.declared.message.Message.{Message}
use Rattle.at_base.specs.declared.message.Message.TheVariants as messages
use Rattle.at_base.specs.declared.notice.Kind.{Kind}
use Rattle.at_base.specs.declared.notice.Vote.{Vote}
use Rattle.at_base.specs.declared.outs.Post.{Post}
use Rattle.addressing.specs.declared.writer.Endpoint.{Endpoint}
use Rattle.addressing.specs.declared.writer.OutgoingHeaders.{OutgoingHeaders}
use Rattle.addressing.specs.Endpoints.{anonymous, nobody}
use Rattle.addressing.specs.StoredEndpoints.{IsEndpointOf}
use Rattle.addressing.specs.OutgoingHeaders.{blocks_of}
use Rattle.context.specs.declared.writer.OutgoingContext.{OutgoingContext}
use Rattle.context.specs.declared.writer.OutgoingCreate.{OutgoingCreate}
use Rattle.context.specs.declared.writer.OutgoingRegister.{OutgoingRegister}
use Rattle.context.specs.BodyTrees.{context_tree, create_response_tree, create_tree, register_response_tree, register_tree}
use Rattle.endpoints.specs.declared.form.Form.{Form}
use Rattle.endpoints.specs.declared.form.Form.TheVariants as forms
use Rattle.wire_msgs.specs.declared.part.Part.{Part}
use Rattle.wire_msgs.specs.declared.part.Part.TheVariants as parts
use Rattle.wire_msgs.specs.Forms.{action_of, local_of, space_of}
use Rattle.wire_msgs.specs.Parts.{part_name}
use Rattle.wire_posts.specs.declared.encode.Encoded.{Encoded}
use Rattle.wire_posts.specs.declared.encode.Encoded.TheVariants as encoded
use Rattle.wire_posts.specs.declared.encode.Outgoing.{Outgoing}
use Rattle.wire_posts.specs.declared.encode.Outgoing.TheVariants as outgoing
use Rattle.wire_posts.specs.Faults.{fault_action, fault_body, written_named, refusal_status, refusal_text}

-- both are absent, or one is the other's
abbrev pub AreBoth : {A B : Type 0} → (A → B → Type 0) → Option A → Option B → Type 0
AreBoth Is None None = Unit {0}
AreBoth Is None (Some b) = ⊥
AreBoth Is (Some a) None = ⊥
AreBoth Is (Some a) (Some b) = Is a b

-- an address without reference parameters
abbrev pub addressed : List ℕ → Epr
addressed address = record { address = address; params = [] }

-- the endpoint that a ReplyTo names (WS-Addressing 1.0 Core, section 2.1)
abbrev pub reply_epr : Reply → Epr
reply_epr replies.Anonymous = addressed anonymous
reply_epr replies.Nobody = addressed nobody
reply_epr (replies.At epr) = epr

abbrev pub IsReplyOf : Reply → Endpoint → Type 0
IsReplyOf reply endpoint = IsEndpointOf (reply_epr reply) endpoint

-- the action of each message
abbrev pub action_in : Message → List ℕ
action_in (messages.Create body) = action_of forms.Create
action_in (messages.CreateResponse context) = action_of forms.CreateResponse
action_in (messages.Register body) = action_of forms.Register
action_in (messages.RegisterResponse coordinator) = action_of forms.RegisterResponse
action_in (messages.Notice notice) = action_of (forms.Notice notice)
action_in (messages.Work body) = action_of forms.Work
action_in messages.WorkDone = action_of forms.WorkDone
action_in messages.WorkRefused = action_of forms.WorkRefused
action_in (messages.Fault name) = fault_action (written_named name)

-- a context, its registration service as an element
pub record IsContextOf (context : Context) (out : OutgoingContext) : Type 0 where
  pub identifier : out.identifier ≡ context.identifier
  pub expires : out.expires ≡ context.expires
  pub coordination : out.coordination ≡ context.coordination
  pub registration : IsEndpointOf context.registration out.registration

-- the context of a Work, as a header block
pub record IsWorkContext (context : Context) (t : Tree) : Type 0 where
  pub out : OutgoingContext
  pub of : IsContextOf context out
  pub whole : t ≡ context_tree out (qualified coordination (codes "CoordinationContext"))

-- a Work has its context in the header, and no other message has one there (WS-Coordination 1.2, section 2)
abbrev pub context_in : Message → Option Context
context_in (messages.Work body) = Some body.context
context_in message = None

-- the headers of a post, in the order in which they are written
pub record AreHeadersOf (post : Post) (out : OutgoingHeaders) : Type 0 where
  -- none on an answer on the connection; its reference parameters are blocks of their own
  pub to : AreBoth IsEndpointOf post.to out.to
  pub action : out.action ≡ action_in post.message
  -- of requests
  pub id : out.id ≡ post.id
  -- of replies and faults
  pub relates : out.relates ≡ post.relates
  -- of notifications that may draw an answer
  pub from : AreBoth IsEndpointOf post.from out.from
  -- of requests, and of notifications, where it is none
  pub reply : AreBoth IsReplyOf post.reply out.reply
  pub context : AreBoth IsWorkContext (context_in post.message) out.context

abbrev pub work_part : Part → List ℕ → Tree
work_part part text = element (qualified work (part_name part)) (text_children text)

abbrev pub work_tree : Work → Tree
work_tree body =
    element (qualified work (codes "Work"))
    (children_of (work_part parts.Key body.key ∷ work_part parts.Value body.value
    ∷ work_part parts.Kind (kind_name body.kind) ∷ work_part parts.Vote (vote_name body.vote) ∷ []))

-- a body that says no more than its name
abbrev pub empty_tree : Form → Tree
empty_tree form = element (qualified (space_of form) (local_of form)) End

pub record IsCreateOf (body : Create) (out : OutgoingCreate) : Type 0 where
  pub expires : out.expires ≡ body.expires
  pub current : AreBoth IsContextOf body.current out.current
  pub coordination : out.coordination ≡ body.coordination

pub record IsRegisterOf (body : Register) (out : OutgoingRegister) : Type 0 where
  pub protocol : out.protocol ≡ body.protocol
  pub participant : IsEndpointOf body.participant out.participant

-- a tree is made of something written that is of a value
pub record IsMadeOf {A B : Type 0} (Is : A → B → Type 0) (tree_of : B → Tree) (value : A) (t : Tree) : Type 0 where
  pub out : B
  pub of : Is value out
  pub whole : t ≡ tree_of out

-- the body of each message (WS-Coordination 1.2, section 3; WS-AtomicTransaction 1.2, section 3)
abbrev pub IsBodyOf : Message → Tree → Type 0
IsBodyOf (messages.Create body) t = IsMadeOf IsCreateOf create_tree body t
IsBodyOf (messages.CreateResponse context) t = IsMadeOf IsContextOf create_response_tree context t
IsBodyOf (messages.Register body) t = IsMadeOf IsRegisterOf register_tree body t
IsBodyOf (messages.RegisterResponse coordinator) t = IsMadeOf IsEndpointOf register_response_tree coordinator t
IsBodyOf (messages.Notice notice) t = t ≡ empty_tree (forms.Notice notice)
IsBodyOf (messages.Work body) t = t ≡ work_tree body
IsBodyOf messages.WorkDone t = t ≡ empty_tree forms.WorkDone
IsBodyOf messages.WorkRefused t = t ≡ empty_tree forms.WorkRefused
IsBodyOf (messages.Fault name) t = t ≡ fault_body (written_named name)

-- the envelope of a post
pub record IsEnvelopeOf (post : Post) (t : Tree) : Type 0 where
  pub headers : OutgoingHeaders
  pub body : Tree
  pub headed : AreHeadersOf post headers
  pub said : IsBodyOf post.message body
  pub whole : t ≡ envelope_tree (blocks_of headers) body

-- its canonical text
pub record IsTextOf (post : Post) (text : List ℕ) : Type 0 where
  pub tree : Tree
  pub of : IsEnvelopeOf post tree
  pub whole : text ≡ canonical_text tree

-- what goes out, as HTTP carries it: a message is a request, and a refusal an answer
abbrev pub Encodes : Outgoing → Encoded → Type 0
Encodes (outgoing.Post post) (encoded.Request bytes) = IsTextOf post bytes.items
Encodes (outgoing.Refusal refusal) (encoded.Answer answer) =
    (answer.status ≡ refusal_status refusal) × (option_map (λ bytes. bytes.items) answer.body ≡ refusal_text refusal)
Encodes _ _ = ⊥
