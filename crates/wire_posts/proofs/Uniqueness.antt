-- A post has one envelope, and one text.
use Rattle.std.proofs.Common.{inl, inr, ◌≡◌, ℕ, List, [], ◌∷◌, Option, Some, None, refl, ap, sym, ◌∙◌}
use Rattle.std.specs.Prelude.{codes}
use Rattle.xml_profile.specs.declared.tree.Tree.{Tree}
use Rattle.xml_profile.specs.CanonicalText.{canonical_text}
use Rattle.xml_profile.specs.Prefixes.{coordination}
use Rattle.soap_profile.specs.BuiltElements.{qualified}
use Rattle.soap_profile.specs.Envelopes.{envelope_tree}
use Rattle.at_base.specs.declared.epr.Epr.{Epr}
use Rattle.at_base.specs.declared.message.Message.TheVariants as messages
use Rattle.at_base.specs.declared.outs.Post.{Post}
use Rattle.addressing.specs.declared.writer.Endpoint.{Endpoint}
use Rattle.addressing.specs.StoredEndpoints.{IsEndpointOf, IsWith}
use Rattle.addressing.specs.OutgoingHeaders.{blocks_of, endpoint_with}
use Rattle.context.specs.BodyTrees.{context_tree, create_response_tree, create_tree, register_response_tree, register_tree}
use Rattle.wire_posts.specs.Envelopes.{AreBoth, AreHeadersOf, IsBodyOf, IsContextOf, IsCreateOf, IsEnvelopeOf, IsMadeOf, IsRegisterOf, IsReplyOf, IsTextOf, IsWorkContext, context_in, reply_epr}

-- a relation that gives one thing at most
abbrev IsSingle : {A B : Type 0} → (A → B → Type 0) → Type 0
IsSingle {A} {B} Is = (a : A) (x y : B) → Is a x → Is a y → x ≡ y

with_one : (epr : Epr) (params : List ℕ) (x y : Endpoint) → IsWith params epr x → IsWith params epr y → x ≡ y
with_one epr [] x y h k = h ∙ sym k
with_one epr (c ∷ cs) x y (inl h) (inl k) = h.whole ∙ (ap (λ t. endpoint_with epr.address (Some t)) (h.only k.tree k.reads) ∙ sym k.whole)
with_one epr (c ∷ cs) x y (inl h) (inr k) = absurd (k.reads_none h.tree h.reads)
with_one epr (c ∷ cs) x y (inr h) (inl k) = absurd (h.reads_none k.tree k.reads)
with_one epr (c ∷ cs) x y (inr h) (inr k) = h.whole ∙ sym k.whole

endpoint_one : IsSingle IsEndpointOf
endpoint_one epr x y h k = with_one epr epr.params x y h k

both_one : {A B : Type 0} (Is : A → B → Type 0) → IsSingle Is → (a : Option A) (x y : Option B) → AreBoth Is a x → AreBoth Is a y → x ≡ y
both_one Is one None None None h k = refl
both_one Is one None None (Some y) h k = absurd k
both_one Is one None (Some x) y h k = absurd h
both_one Is one (Some a) None y h k = absurd h
both_one Is one (Some a) (Some x) None h k = absurd k
both_one Is one (Some a) (Some x) (Some y) h k = ap Some (one a x y h k)

reply_one : IsSingle IsReplyOf
reply_one reply x y h k = endpoint_one (reply_epr reply) x y h k

context_one : IsSingle IsContextOf
context_one context x y h k =
    let identifier : x.identifier ≡ y.identifier = h.identifier ∙ sym k.identifier in
    let expires : x.expires ≡ y.expires = h.expires ∙ sym k.expires in
    let coordination : x.coordination ≡ y.coordination = h.coordination ∙ sym k.coordination in
    let registration : x.registration ≡ y.registration = endpoint_one context.registration x.registration y.registration h.registration k.registration in
    λ i. record { identifier = identifier i; expires = expires i; coordination = coordination i; registration = registration i }

header_one : IsSingle IsWorkContext
header_one context x y h k =
    h.whole ∙ (ap (λ out. context_tree out (qualified coordination (codes "CoordinationContext"))) (context_one context h.out k.out h.of k.of) ∙ sym k.whole)

create_one : IsSingle IsCreateOf
create_one body x y h k =
    let expires : x.expires ≡ y.expires = h.expires ∙ sym k.expires in
    let current : x.current ≡ y.current = both_one IsContextOf context_one body.current x.current y.current h.current k.current in
    let coordination : x.coordination ≡ y.coordination = h.coordination ∙ sym k.coordination in
    λ i. record { expires = expires i; current = current i; coordination = coordination i }

register_one : IsSingle IsRegisterOf
register_one body x y h k =
    let protocol : x.protocol ≡ y.protocol = h.protocol ∙ sym k.protocol in
    let participant : x.participant ≡ y.participant = endpoint_one body.participant x.participant y.participant h.participant k.participant in
    λ i. record { protocol = protocol i; participant = participant i }

made_one : {A B : Type 0} (Is : A → B → Type 0) (tree_of : B → Tree) → IsSingle Is → (a : A) (x y : Tree) → IsMadeOf Is tree_of a x → IsMadeOf Is tree_of a y → x ≡ y
made_one Is tree_of one a x y h k = h.whole ∙ (ap tree_of (one a h.out k.out h.of k.of) ∙ sym k.whole)

body_one : IsSingle IsBodyOf
body_one (messages.Create body) x y h k = made_one IsCreateOf create_tree create_one body x y h k
body_one (messages.CreateResponse context) x y h k = made_one IsContextOf create_response_tree context_one context x y h k
body_one (messages.Register body) x y h k = made_one IsRegisterOf register_tree register_one body x y h k
body_one (messages.RegisterResponse coordinator) x y h k = made_one IsEndpointOf register_response_tree endpoint_one coordinator x y h k
body_one (messages.Notice notice) x y h k = h ∙ sym k
body_one (messages.Work body) x y h k = h ∙ sym k
body_one messages.WorkDone x y h k = h ∙ sym k
body_one messages.WorkRefused x y h k = h ∙ sym k
body_one (messages.Fault name) x y h k = h ∙ sym k

headers_one : IsSingle AreHeadersOf
headers_one post x y h k =
    let to : x.to ≡ y.to = both_one IsEndpointOf endpoint_one post.to x.to y.to h.to k.to in
    let action : x.action ≡ y.action = h.action ∙ sym k.action in
    let id : x.id ≡ y.id = h.id ∙ sym k.id in
    let relates : x.relates ≡ y.relates = h.relates ∙ sym k.relates in
    let from : x.from ≡ y.from = both_one IsEndpointOf endpoint_one post.from x.from y.from h.from k.from in
    let reply : x.reply ≡ y.reply = both_one IsReplyOf reply_one post.reply x.reply y.reply h.reply k.reply in
    let context : x.context ≡ y.context = both_one IsWorkContext header_one (context_in post.message) x.context y.context h.context k.context in
    λ i. record { to = to i; action = action i; id = id i; relates = relates i; from = from i; reply = reply i; context = context i }

pub envelope_one : IsSingle IsEnvelopeOf
envelope_one post x y h k =
    let headers : h.headers ≡ k.headers = headers_one post h.headers k.headers h.headed k.headed in
    let body : h.body ≡ k.body = body_one post.message h.body k.body h.said k.said in
    h.whole ∙ ((λ i. envelope_tree (blocks_of (headers i)) (body i)) ∙ sym k.whole)

pub text_one : (post : Post) (x y : List ℕ) → IsTextOf post x → IsTextOf post y → x ≡ y
text_one post x y h k = h.whole ∙ (ap canonical_text (envelope_one post h.tree k.tree h.of k.of) ∙ sym k.whole)
