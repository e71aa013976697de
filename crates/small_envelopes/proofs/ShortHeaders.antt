-- The header blocks of a brief post are short.
use Rattle.std.proofs.Common.{◌≡◌, ◌+◌, ℕ, true, List, [], ◌∷◌, Option, Some, None, IfSome, refl, ap, sym, subst, arith, length, leb-true}
use Rattle.std.specs.Prelude.{codes, nat_le}
use Rattle.std.specs.Str.{bytes_eq}
use Rattle.xml_profile.specs.declared.tree.Tree.{Tree}
use Rattle.xml_profile.specs.Prefixes.{addressing}
use Rattle.soap_profile.specs.BuiltElements.{children_of, qualified}
use Rattle.at_base.specs.Names.{fault_named}
use Rattle.at_base.specs.declared.epr.Epr.{Epr}
use Rattle.at_base.specs.declared.epr.Reply.{Reply}
use Rattle.at_base.specs.declared.epr.Reply.TheVariants as replies
use Rattle.at_base.specs.declared.fault.Fault.{Fault}
use Rattle.at_base.specs.declared.fault.Fault.TheVariants as faults
use Rattle.at_base.specs.declared.message.Context.{Context}
use Rattle.at_base.specs.declared.message.Message.{Message}
use Rattle.at_base.specs.declared.message.Message.TheVariants as messages
use Rattle.at_base.specs.declared.notice.Notice.TheVariants as notices
use Rattle.at_base.specs.declared.outs.Post.{Post}
use Rattle.addressing.specs.declared.writer.Endpoint.{Endpoint}
use Rattle.addressing.specs.declared.writer.OutgoingHeaders.{OutgoingHeaders}
use Rattle.addressing.specs.Endpoints.{anonymous}
use Rattle.addressing.specs.OutgoingHeaders.{blocks_of, context_block, context_blocks, endpoint_blocks, parameters_in, parameters_of, text_blocks, text_element, to_blocks}
use Rattle.addressing.specs.StoredEndpoints.{IsEndpointOf}
use Rattle.context.specs.declared.parameter.Parameter.TheVariants.{CoordinationContext}
use Rattle.context.specs.BodyTrees.{parameter_name}
use Rattle.provenance.specs.Forms.{IsMessage, IsPost, IsReply}
use Rattle.wire_posts.specs.Envelopes.{AreBoth, AreHeadersOf, IsReplyOf, IsWorkContext, action_in, context_in, reply_epr}
use Rattle.wire_posts.specs.Faults.{fault_action, protocol_or}
use Rattle.small_envelopes.specs.ShortEnvelopes.{IsBrief, IsBriefContext, IsBriefEndpoint, brief}
use Rattle.small_envelopes.proofs.ShortParts.{context_short, endpoint_short}
use Rattle.small_envelopes.proofs.ShortTrees.{AreShort, both_short, none_short, text_short, unless_short}
use Rattle.small_envelopes.proofs.SmallParts.{written_bare, written_without}
use Rattle.small_envelopes.proofs.TextLengths.{ArePlain, is_plain}

fault_brief : (fault : Option Fault) → nat_le (length (fault_action (protocol_or fault))) 256 ≡ true
fault_brief None = refl
fault_brief (Some faults.InvalidState) = refl
fault_brief (Some faults.InvalidProtocol) = refl
fault_brief (Some faults.InvalidParameters) = refl
fault_brief (Some faults.CannotCreateContext) = refl
fault_brief (Some faults.CannotRegisterParticipant) = refl
fault_brief (Some faults.UnknownTransaction) = refl

pub action_brief : (message : Message) → nat_le (length (action_in message)) 256 ≡ true
action_brief (messages.Create body) = refl
action_brief (messages.CreateResponse context) = refl
action_brief (messages.Register body) = refl
action_brief (messages.RegisterResponse coordinator) = refl
action_brief (messages.Notice notices.Prepare) = refl
action_brief (messages.Notice notices.Commit) = refl
action_brief (messages.Notice notices.Rollback) = refl
action_brief (messages.Notice notices.Prepared) = refl
action_brief (messages.Notice notices.ReadOnly) = refl
action_brief (messages.Notice notices.Aborted) = refl
action_brief (messages.Notice notices.Committed) = refl
action_brief (messages.Work body) = refl
action_brief messages.WorkDone = refl
action_brief messages.WorkRefused = refl
action_brief (messages.Fault name) = fault_brief (fault_named name)

action_short : (message : Message) (action : List ℕ) → action ≡ action_in message → AreShort 1780 (text_element (codes "Action") action ∷ [])
action_short message action e =
    text_short (qualified addressing (codes "Action")) action refl (omega (arith, ap length e, leb-true (length (action_in message)) 256 (action_brief message)))

to_short : (to : Option Epr) (out : Option Endpoint) → IfSome to IsBriefEndpoint → AreBoth IsEndpointOf to out → AreShort 1780 (to_blocks out)
to_short None None b h = none_short 1780
to_short None (Some out) b h = absurd h
to_short (Some epr) None b h = absurd h
to_short (Some epr) (Some out) b h =
    unless_short (bytes_eq out.address anonymous)
    (text_short (qualified addressing (codes "To")) out.address refl (omega (arith, ap (λ (x : Endpoint). length x.address) (written_bare epr out b.bare h), b.address)))

texts_short : (local : List ℕ) (text out : Option (List ℕ)) → is_plain (qualified addressing local) ≡ true → out ≡ text → IfSome text IsBrief → AreShort 1780 (text_blocks local out)
texts_short local text out plain e b = by out (subst (λ (o : Option (List ℕ)). IfSome o IsBrief) (sym e) b)
  where
    by : (o : Option (List ℕ)) → IfSome o IsBrief → AreShort 1780 (text_blocks local o)
    by None b = none_short 1780
    by (Some t) b = text_short (qualified addressing local) t plain b

from_short : (from : Option Epr) (out : Option Endpoint) → IfSome from IsBriefEndpoint → AreBoth IsEndpointOf from out → AreShort 2280 (endpoint_blocks (codes "From") out)
from_short None None b h = none_short 2280
from_short None (Some out) b h = absurd h
from_short (Some epr) None b h = absurd h
from_short (Some epr) (Some out) b h = endpoint_short epr out (qualified addressing (codes "From")) refl b h

reply_brief : (reply : Reply) → IsReply brief reply → IsBriefEndpoint (reply_epr reply)
reply_brief replies.Anonymous b = record { address = omega arith; bare = refl }
reply_brief replies.Nobody b = record { address = omega arith; bare = refl }
reply_brief (replies.At epr) b = b

reply_short : (reply : Option Reply) (out : Option Endpoint) → IfSome reply (IsReply brief) → AreBoth IsReplyOf reply out
    → AreShort 2280 (endpoint_blocks (codes "ReplyTo") out)
reply_short None None b h = none_short 2280
reply_short None (Some out) b h = absurd h
reply_short (Some reply) None b h = absurd h
reply_short (Some reply) (Some out) b h = endpoint_short (reply_epr reply) out (qualified addressing (codes "ReplyTo")) refl (reply_brief reply b) h

parameters_short : (to : Option Epr) (out : Option Endpoint) → IfSome to IsBriefEndpoint → AreBoth IsEndpointOf to out → AreShort 0 (parameters_of out)
parameters_short None None b h = none_short 0
parameters_short None (Some out) b h = absurd h
parameters_short (Some epr) None b h = absurd h
parameters_short (Some epr) (Some out) b h =
    subst (λ (params : Option Tree). AreShort 0 (parameters_in params)) (sym (written_without epr out b.bare h)) (none_short 0)

-- a block of a context has one attribute
block_short : (most : ℕ) (t : Tree) → AreShort most (t ∷ []) → AreShort (466 + most) (context_block t ∷ [])
block_short most t h = record { plain = plain h.plain; light = omega (arith, h.light) }
  where
    plain : ArePlain (children_of (t ∷ [])) → ArePlain (children_of (context_block t ∷ []))
    plain (name, attributes, inside, none) = (name, (refl, tt), inside, tt)

work_context_short : (context : Option Context) (out : Option Tree) → IfSome context IsBriefContext → AreBoth IsWorkContext context out
    → AreShort 8586 (context_blocks out)
work_context_short None None b h = none_short 8586
work_context_short None (Some t) b h = absurd h
work_context_short (Some context) None b h = absurd h
work_context_short (Some context) (Some t) b h =
    block_short 8120 t
    (subst (λ (u : Tree). AreShort 8120 (u ∷ [])) (sym h.whole) (context_short context h.out (parameter_name CoordinationContext) refl b h.of))

-- a Work has its context in the header
context_brief : (message : Message) → IsMessage brief message → IfSome (context_in message) IsBriefContext
context_brief (messages.Work body) b = b.0
context_brief message b = tt

pub headers_short : (post : Post) (out : OutgoingHeaders) → IsPost brief post → AreHeadersOf post out → AreShort 20266 (blocks_of out)
headers_short post out b h =
    both_short
    (both_short
    (both_short
    (both_short
    (both_short
    (both_short (both_short (to_short post.to out.to b.to h.to) (action_short post.message out.action h.action))
    (texts_short (codes "MessageID") post.id out.id refl h.id b.id))
    (texts_short (codes "RelatesTo") post.relates out.relates refl h.relates b.relates))
    (from_short post.from out.from b.from h.from))
    (reply_short post.reply out.reply b.reply h.reply))
    (parameters_short post.to out.to b.to h.to))
    (work_context_short (context_in post.message) out.context (context_brief post.message b.message) h.context)
