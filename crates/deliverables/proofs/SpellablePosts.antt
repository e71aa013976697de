-- The envelope of a post that can arrive can be spelled, whatever it goes to.
use Rattle.std.specs.Prelude.{ℕ, List, [], ◌∷◌, ◌++◌, Option, Some, None, IfSome, Bool, true, false, cond, codes, ◌≡◌}
use Rattle.std.specs.Fmt.{digits}
use Rattle.std.specs.Str.{bytes_eq, chars, is_utf8}
use Rattle.std.proofs.Common.{refl, ap, sym, subst, ◌∙◌}
use Rattle.addressing.specs.Endpoints.{anonymous}
use Rattle.addressing.specs.OutgoingHeaders.{blocks_of, context_blocks, endpoint_blocks, message_blocks, parameters_in, parameters_of, text_blocks, text_element, to_blocks}
use Rattle.addressing.specs.StoredEndpoints.{IsEndpointOf}
use Rattle.addressing.specs.declared.writer.Endpoint.{Endpoint}
use Rattle.addressing.specs.declared.writer.OutgoingHeaders.{OutgoingHeaders}
use Rattle.arrivals.specs.Worlds.{CanArrive, IsWritten}
use Rattle.at_base.specs.Numbers.{Numbers}
use Rattle.at_base.specs.declared.epr.Epr.{Epr}
use Rattle.at_base.specs.declared.message.Message.{Message}
use Rattle.at_base.specs.declared.message.Message.TheVariants as messages
use Rattle.at_base.specs.declared.notice.Kind.TheVariants as kinds
use Rattle.at_base.specs.declared.notice.Notice.{Notice}
use Rattle.at_base.specs.declared.notice.Notice.TheVariants as notices
use Rattle.at_base.specs.declared.outs.Post.{Post}
use Rattle.at_base.specs.declared.target.Target.{Target}
use Rattle.at_base.specs.declared.target.Target.TheVariants as targets
use Rattle.endpoints.specs.Forms.{takes}
use Rattle.soap_profile.specs.BuiltElements.{qualified}
use Rattle.soap_profile.specs.Values.{elements}
use Rattle.wire_msgs.specs.Targets.{target_at}
use Rattle.wire_posts.specs.Envelopes.{AreBoth, AreHeadersOf, IsEnvelopeOf}
use Rattle.wire_posts.specs.Returns.{CanReturn, IsRequest}
use Rattle.wire_posts.proofs.Ends.{is_spelled}
use Rattle.wire_posts.proofs.MarkedParameters.{all_marked}
use Rattle.wire_posts.proofs.SpellableEnvelopes.{body_can, envelope_can, headers_can}
use Rattle.wire_posts.proofs.SpellableParts.{AllCan, Can, all_can, elements_of, text_can}
use Rattle.xml_profile.specs.Prefixes.{addressing}
use Rattle.xml_profile.specs.SpellableTrees.{is_name, is_text}
use Rattle.xml_profile.specs.declared.tree.Tree.{Tree}

split_can : (ts us : List Tree) → AllCan (ts ++ us) → AllCan ts × AllCan us
split_can [] us h = (tt, h)
split_can (t ∷ ts) us (h, k) = let (a, b) = split_can ts us k in ((h, a), b)

-- some path whose target takes the message
record Taker (m : Message) : Type 0 where
  path : List ℕ
  target : Target
  named : target_at None path ≡ Some target
  taken : takes target m ≡ true

one : Numbers
one = record { incarnation = 1; counter = 1 }

at_initiator : (m : Message) → takes (targets.Initiator one) m ≡ true → Taker m
unfolding digits one
at_initiator m h = record { path = codes "/i/1-1"; target = targets.Initiator one; named = refl; taken = h }

at_participant : (m : Message) → takes (targets.Participant one kinds.Durable) m ≡ true → Taker m
unfolding digits one
at_participant m h = record { path = codes "/p/d/1-1"; target = targets.Participant one kinds.Durable; named = refl; taken = h }

at_seat : (m : Message) → takes (targets.Coordinator one (record { number = 1; kind = kinds.Durable })) m ≡ true → Taker m
unfolding digits one
at_seat m h = record { path = codes "/c/d/1-1/1"; target = targets.Coordinator one (record { number = 1; kind = kinds.Durable }); named = refl; taken = h }

notice_taker : (n : Notice) → Taker (messages.Notice n)
notice_taker notices.Prepare = at_participant (messages.Notice notices.Prepare) refl
notice_taker notices.Commit = at_participant (messages.Notice notices.Commit) refl
notice_taker notices.Rollback = at_participant (messages.Notice notices.Rollback) refl
notice_taker notices.Prepared = at_seat (messages.Notice notices.Prepared) refl
notice_taker notices.ReadOnly = at_seat (messages.Notice notices.ReadOnly) refl
notice_taker notices.Aborted = at_seat (messages.Notice notices.Aborted) refl
notice_taker notices.Committed = at_seat (messages.Notice notices.Committed) refl

taker : (m : Message) → Taker m
unfolding digits one
taker (messages.Create body) = record { path = codes "/activation"; target = targets.Activation; named = refl; taken = refl }
taker (messages.CreateResponse context) = at_initiator (messages.CreateResponse context) refl
taker (messages.Register body) = record { path = codes "/registration/1-1"; target = targets.Registration one; named = refl; taken = refl }
taker (messages.RegisterResponse coordinator) = at_initiator (messages.RegisterResponse coordinator) refl
taker (messages.Notice n) = notice_taker n
taker (messages.Work body) = record { path = codes "/work"; target = targets.Work; named = refl; taken = refl }
taker messages.WorkDone = at_initiator messages.WorkDone refl
taker messages.WorkRefused = at_initiator messages.WorkRefused refl
taker (messages.Fault name) = at_initiator (messages.Fault name) refl

-- the post without its destination
abbrev bare : Post → Post
bare p = record p { to = None }

request_bare : (m : Message) (p : Post) → IsRequest m p → IsRequest m (bare p)
request_bare (messages.Create body) p r = record { id = r.id; reply = r.reply }
request_bare (messages.Register body) p r = record { id = r.id; reply = r.reply }
request_bare (messages.Work body) p r = record { id = r.id; reply = r.reply }
request_bare (messages.CreateResponse context) p r = tt
request_bare (messages.RegisterResponse coordinator) p r = tt
request_bare (messages.Notice n) p r = tt
request_bare messages.WorkDone p r = tt
request_bare messages.WorkRefused p r = tt
request_bare (messages.Fault name) p r = tt

bare_returns : (p : Post) → CanArrive p → (t : Taker p.message) → CanReturn (bare p) t.path t.target
bare_returns p c t = record {
  to = tt;
  named = t.named;
  taken = t.taken;
  id = c.id;
  relates = c.relates;
  from = c.from;
  reply = c.reply;
  message = c.message;
  request = request_bare p.message p c.request;
}

bare_headers : (p : Post) (out : OutgoingHeaders) → AreHeadersOf p out → AreHeadersOf (bare p) (record out { to = None })
bare_headers p out h = record {
  to = tt;
  action = h.action;
  id = h.id;
  relates = h.relates;
  from = h.from;
  reply = h.reply;
  context = h.context;
}

to_named : is_name (qualified addressing (codes "To")) ≡ true
unfolding chars is_utf8 lib.Utf8.encode
to_named = refl

unless : (b : Bool) (t : Tree) → Can t → AllCan (cond b [] (t ∷ []))
unless true t h = tt
unless false t h = (h, tt)

to_can : (to : Option Epr) (out : Option Endpoint) → AreBoth IsEndpointOf to out → IfSome to IsWritten → AllCan (to_blocks out)
to_can None None h w = tt
to_can None (Some out) h w = absurd h
to_can (Some epr) None h w = absurd h
to_can (Some epr) (Some out) h w =
    unless (bytes_eq out.address anonymous) (text_element (codes "To") out.address)
    (text_can (qualified addressing (codes "To")) out.address to_named (ap is_text (is_spelled epr out h).address ∙ w.clean.spelled))

inside_can : (params : Option Tree) → IfSome params Can → AllCan (parameters_in params)
inside_can None h = tt
inside_can (Some t) h = all_marked (elements t.children) (elements_of t h)

parameters_can : (to : Option Epr) (out : Option Endpoint) → AreBoth IsEndpointOf to out → AllCan (parameters_of out)
parameters_can None None h = tt
parameters_can None (Some out) h = absurd h
parameters_can (Some epr) None h = absurd h
parameters_can (Some epr) (Some out) h = inside_can out.params (is_spelled epr out h).params

blocks_can : (p : Post) (out : OutgoingHeaders) → AreHeadersOf p out → CanArrive p → AllCan (blocks_of out)
blocks_can p out h c =
    let t = taker p.message in
    let action : List Tree = text_element (codes "Action") out.action ∷ [] in
    let id : List Tree = text_blocks (codes "MessageID") out.id in
    let relates : List Tree = text_blocks (codes "RelatesTo") out.relates in
    let from : List Tree = endpoint_blocks (codes "From") out.from in
    let reply : List Tree = endpoint_blocks (codes "ReplyTo") out.reply in
    let context : List Tree = context_blocks out.context in
    let lone : List Tree = message_blocks None out.action out.id out.relates in
    let whole : AllCan (lone ++ from ++ reply ++ [] ++ context) =
    headers_can (bare p) t.path t.target (record out { to = None }) (bare_headers p out h) (bare_returns p c t) in
    let (four, context_can) = split_can (lone ++ from ++ reply ++ []) context whole in
    let (three, none) = split_can (lone ++ from ++ reply) [] four in
    let (two, reply_can) = split_can (lone ++ from) reply three in
    let (lone_can, from_can) = split_can lone from two in
    let (named_can, relates_can) = split_can (action ++ id) relates lone_can in
    let (action_can, id_can) = split_can action id named_can in
    let to : List Tree = to_blocks out.to in
    let message : List Tree = message_blocks out.to out.action out.id out.relates in
    let message_can : AllCan message =
    all_can (to ++ action ++ id) relates (all_can (to ++ action) id (all_can to action (to_can p.to out.to h.to c.to) action_can) id_can) relates_can in
    all_can (message ++ from ++ reply ++ parameters_of out.to) context
    (all_can (message ++ from ++ reply) (parameters_of out.to)
    (all_can (message ++ from) reply (all_can message from message_can from_can) reply_can)
    (parameters_can p.to out.to h.to))
    context_can

pub post_can : (p : Post) (tree : Tree) → IsEnvelopeOf p tree → CanArrive p → Can tree
post_can p tree e c = subst Can (sym e.whole) (envelope_can (blocks_of e.headers) e.body (blocks_can p e.headers e.headed c) (body_can p.message e.body e.said c.message))
