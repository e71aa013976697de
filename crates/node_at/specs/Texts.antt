-- The calls by which a step's outs leave: its answer on the connection, and its posts (SOAP 1.1, section 6).
use Rattle.std.specs.Prelude.{ℕ, List, [], ◌∷◌, ◌++◌, ◌≡◌, Bool, true, false, Option, Some, None}
use Rattle.addressing.specs.declared.post_to.PostTo.{PostTo}
use Rattle.addressing.specs.PostAddresses.{post_to_of}
use Rattle.at_base.specs.declared.epr.Epr.{Epr}
use Rattle.at_base.specs.declared.outs.Out.{Out}
use Rattle.at_base.specs.declared.outs.Out.TheVariants as outs
use Rattle.at_base.specs.declared.outs.Post.{Post}
use Rattle.http_post.specs.OutBytes.{answer_of, has_reason, post_of}
use Rattle.site_model.specs.Told.{Call}
use Rattle.wire_posts.specs.Envelopes.{AreBoth, IsTextOf, action_in}
use Rattle.node_at.specs.declared.text.Sending.{Sending}
use Rattle.node_at.specs.declared.text.Sending.TheVariants as sendings

-- where a post goes: nowhere, where its endpoint has no http URL
abbrev pub goes_to : Option Epr → Option PostTo
goes_to None = None
goes_to (Some endpoint) = post_to_of endpoint.address

-- an answer with the envelope of the reply, where there is one
pub record IsAnswer (status : ℕ) (reply : Option Post) (call : Call) : Type 0 where
  pub text : Option (List ℕ)
  pub of : AreBoth IsTextOf reply text
  pub is : call ≡ Call.Send (answer_of status text)

-- the envelope of a post, to that place
pub record IsPosted (to : PostTo) (post : Post) (call : Call) : Type 0 where
  pub text : List ℕ
  pub of : IsTextOf post text
  pub is : call ≡ Call.Post to.host to.port (post_of to (action_in post.message) text)

-- A post to an endpoint without an http URL is left out.
abbrev pub IsPostOf : Option PostTo → Post → Option Call → Type 0
IsPostOf None post None = Unit {0}
IsPostOf None post (Some call) = ⊥
IsPostOf (Some to) post None = ⊥
IsPostOf (Some to) post (Some call) = IsPosted to post call

-- So is an answer of a status that HTTP doesn't have here.
abbrev pub IsAnswerOf : Bool → ℕ → Option Post → Option Call → Type 0
IsAnswerOf false status reply None = Unit {0}
IsAnswerOf false status reply (Some call) = ⊥
IsAnswerOf true status reply None = ⊥
IsAnswerOf true status reply (Some call) = IsAnswer status reply call

abbrev pub IsCallOf : Out → Option Call → Type 0
IsCallOf (outs.Answer status reply) call = IsAnswerOf (has_reason status) status reply call
IsCallOf (outs.Post post) call = IsPostOf (goes_to post.to) post call

-- an out, and the call by which it leaves
pub record Leaving : Type 0 where
  pub out : Out
  pub call : Call

abbrev pub call_by : Leaving → Call
call_by x = x.call

abbrev pub call_of : Sending → Call
call_of (sendings.Answer bytes) = Call.Send bytes.items
call_of (sendings.Post host port bytes) = Call.Post host port bytes.items

-- the outs in order, each with its call
pub data AreLeaving : List Out → List Leaving → Type 0 where
  none : AreLeaving [] []
  leaves : {os all : List Out} {xs more : List Leaving} (x : Leaving) → AreLeaving os xs → IsCallOf x.out (Some x.call) → all ≡ os ++ x.out ∷ [] → more ≡ xs ++ x ∷ [] → AreLeaving all more
  stays : {os all : List Out} {xs : List Leaving} (o : Out) → AreLeaving os xs → IsCallOf o None → all ≡ os ++ o ∷ [] → AreLeaving all xs
