-- The header blocks of a post without reference parameters are small.
use Rattle.std.proofs.Common.{◌≡◌, ℕ, List, [], ◌∷◌, Option, Some, None, IfSome, refl, sym, subst, arith}
use Rattle.std.specs.Prelude.{codes}
use Rattle.std.specs.Str.{bytes_eq}
use Rattle.xml_profile.specs.declared.tree.Tree.{Tree}
use Rattle.xml_profile.specs.Prefixes.{addressing}
use Rattle.soap_profile.specs.BuiltElements.{qualified}
use Rattle.at_base.specs.declared.epr.Epr.{Epr}
use Rattle.at_base.specs.declared.epr.Reply.{Reply}
use Rattle.at_base.specs.declared.epr.Reply.TheVariants as replies
use Rattle.at_base.specs.declared.message.Context.{Context}
use Rattle.at_base.specs.declared.message.Message.{Message}
use Rattle.at_base.specs.declared.message.Message.TheVariants as messages
use Rattle.at_base.specs.declared.outs.Post.{Post}
use Rattle.addressing.specs.declared.writer.Endpoint.{Endpoint}
use Rattle.addressing.specs.declared.writer.OutgoingHeaders.{OutgoingHeaders}
use Rattle.addressing.specs.Endpoints.{anonymous}
use Rattle.addressing.specs.OutgoingHeaders.{blocks_of, context_block, context_blocks, endpoint_blocks, parameters_in, parameters_of, text_blocks, to_blocks}
use Rattle.addressing.specs.StoredEndpoints.{IsEndpointOf}
use Rattle.context.specs.declared.parameter.Parameter.TheVariants.{CoordinationContext}
use Rattle.context.specs.BodyTrees.{parameter_name}
use Rattle.provenance.specs.Forms.{IsMessage, IsPost, IsReply}
use Rattle.wire_posts.specs.Envelopes.{AreBoth, AreHeadersOf, IsReplyOf, IsWorkContext, context_in, reply_epr}
use Rattle.small_envelopes.specs.SmallEnvelopes.{bare}
use Rattle.small_envelopes.proofs.SmallParts.{context_small, endpoint_small, written_without}
use Rattle.small_envelopes.proofs.SmallTrees.{AreSmall, both_small, none_small, text_small, unless_small}

to_small : (to : Option Endpoint) → AreSmall 4 1 (to_blocks to)
to_small None = none_small 4 1
to_small (Some endpoint) = unless_small (bytes_eq endpoint.address anonymous) (text_small 3 (qualified addressing (codes "To")) endpoint.address)

texts_small : (local : List ℕ) (text : Option (List ℕ)) → AreSmall 4 1 (text_blocks local text)
texts_small local None = none_small 4 1
texts_small local (Some text) = text_small 3 (qualified addressing local) text

from_small : (from : Option Epr) (out : Option Endpoint) → IfSome from bare.endpoint → AreBoth IsEndpointOf from out → AreSmall 4 2 (endpoint_blocks (codes "From") out)
from_small None None b h = none_small 4 2
from_small None (Some out) b h = absurd h
from_small (Some epr) None b h = absurd h
from_small (Some epr) (Some out) b h = endpoint_small 2 epr out (qualified addressing (codes "From")) b h

reply_bare : (reply : Reply) → IsReply bare reply → (reply_epr reply).params ≡ []
reply_bare replies.Anonymous b = refl
reply_bare replies.Nobody b = refl
reply_bare (replies.At epr) b = b

reply_small : (reply : Option Reply) (out : Option Endpoint) → IfSome reply (IsReply bare) → AreBoth IsReplyOf reply out
    → AreSmall 4 2 (endpoint_blocks (codes "ReplyTo") out)
reply_small None None b h = none_small 4 2
reply_small None (Some out) b h = absurd h
reply_small (Some reply) None b h = absurd h
reply_small (Some reply) (Some out) b h = endpoint_small 2 (reply_epr reply) out (qualified addressing (codes "ReplyTo")) (reply_bare reply b) h

parameters_small : (to : Option Epr) (out : Option Endpoint) → IfSome to bare.endpoint → AreBoth IsEndpointOf to out → AreSmall 4 0 (parameters_of out)
parameters_small None None b h = none_small 4 0
parameters_small None (Some out) b h = absurd h
parameters_small (Some epr) None b h = absurd h
parameters_small (Some epr) (Some out) b h =
    subst (λ (params : Option Tree). AreSmall 4 0 (parameters_in params)) (sym (written_without epr out b h)) (none_small 4 0)

-- a block of a context has one attribute
block_small : (deep many : ℕ) (t : Tree) → AreSmall deep many (t ∷ []) → AreSmall deep many (context_block t ∷ [])
block_small deep many t h = record { levels = h.levels; elements = h.elements; attributes = omega arith }

work_context_small : (context : Option Context) (out : Option Tree) → IfSome context bare.context → AreBoth IsWorkContext context out
    → AreSmall 4 6 (context_blocks out)
work_context_small None None b h = none_small 4 6
work_context_small None (Some t) b h = absurd h
work_context_small (Some context) None b h = absurd h
work_context_small (Some context) (Some t) b h =
    block_small 4 6 t
    (subst (λ (u : Tree). AreSmall 4 6 (u ∷ [])) (sym h.whole) (context_small 1 context h.out (parameter_name CoordinationContext) b h.of))

-- a Work has its context in the header
context_bare : (message : Message) → IsMessage bare message → IfSome (context_in message) bare.context
context_bare (messages.Work body) b = b.0
context_bare message b = tt

pub headers_small : (post : Post) (out : OutgoingHeaders) → IsPost bare post → AreHeadersOf post out → AreSmall 4 14 (blocks_of out)
headers_small post out b h =
    both_small
    (both_small
    (both_small
    (both_small
    (both_small
    (both_small (both_small (to_small out.to) (text_small 3 (qualified addressing (codes "Action")) out.action)) (texts_small (codes "MessageID") out.id))
    (texts_small (codes "RelatesTo") out.relates))
    (from_small post.from out.from b.from h.from))
    (reply_small post.reply out.reply b.reply h.reply))
    (parameters_small post.to out.to b.to h.to))
    (work_context_small (context_in post.message) out.context (context_bare post.message b.message) h.context)
