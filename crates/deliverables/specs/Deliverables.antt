-- What endpoints and texts are to be so that a message that has them can be written, posted, and read where it goes.
use Rattle.std.specs.Prelude.{ℕ, List, Ok, Some, true, false, length, ◌||◌, ◌≡◌, ◌≤◌, ◌<◌, ◌^◌}
use Rattle.addressing.specs.Endpoints.{is_anonymous, is_nobody}
use Rattle.addressing.specs.declared.post_to.PostTo.{PostTo}
use Rattle.arrivals.specs.BookArrivals.{is_postable, reaches}
use Rattle.arrivals.specs.Worlds.{IsBase}
use Rattle.at_base.specs.declared.epr.Epr.{Epr}
use Rattle.at_base.specs.declared.limits.TheConstants.{MOST_FIELD}
use Rattle.at_base.specs.declared.message.Context.{Context}
use Rattle.at_base.specs.declared.outs.Post.{Post}
use Rattle.at_base.specs.declared.target.Target.{Target}
use Rattle.at_model.specs.World.{decoded}
use Rattle.context.specs.Bodies.{is_identifier}
use Rattle.context.specs.BodyTrees.{IsNarrow}
use Rattle.endpoints.specs.Addresses.{target_at}
use Rattle.http_post.specs.OutBytes.{authority, post_of}
use Rattle.http_post.specs.ReadablePosts.{CanBeRead}
use Rattle.http_post.specs.Requests.{Asks}
use Rattle.addressing.specs.PostAddresses.{post_to_of}
use Rattle.provenance.specs.Forms.{Forms, HaveOwn, IsPost}
use Rattle.wire_msgs.specs.Arrivals.{Arrives}
use Rattle.wire_msgs.specs.WholeMessages.{IsClean, IsWholeContext, IsWholeEndpoint}
use Rattle.wire_msgs.specs.declared.decode.Arrival.{Arrival}
use Rattle.wire_posts.specs.Envelopes.{IsTextOf, action_in}
use Rattle.xml_grammar.specs.Refusals.{IsShort}
use Rattle.deliverables.specs.Bases.{IsNodeBase}

-- an endpoint that can be written, read as it was, and posted to
pub record IsDeliverable (endpoint : Epr) : Type 0 where
  pub whole : IsWholeEndpoint endpoint
  pub somewhere : (is_anonymous endpoint || is_nobody endpoint) ≡ false
  pub postable : is_postable endpoint ≡ true

pub record IsDeliverableContext (context : Context) : Type 0 where
  pub whole : IsWholeContext context
  pub registration : IsDeliverable context.registration

pub record IsDeliverableIdentifier (text : List ℕ) : Type 0 where
  pub clean : IsClean text
  pub within : is_identifier text ≡ true

pub record IsDeliverableField (text : List ℕ) : Type 0 where
  pub clean : IsClean text
  pub short : length text ≤ MOST_FIELD

abbrev pub deliverable : Forms
deliverable = record {
  endpoint = IsDeliverable;
  context = IsDeliverableContext;
  identifier = IsDeliverableIdentifier;
  span = IsNarrow;
  id = IsClean;
  uri = IsClean;
  field = IsDeliverableField;
}

-- What is a node's own can be delivered.
abbrev pub NodesOwnIsDeliverable : Type 0
NodesOwnIsDeliverable = (base : List ℕ) → IsNodeBase base → HaveOwn deliverable base

-- The bytes of a post to an endpoint of such a node can be read as a request.
abbrev pub PostsCanBeRead : Type 0
PostsCanBeRead =
    (base : List ℕ) (target : Target) (post : Post) (endpoint : Epr) (to : PostTo) (text : List ℕ) → IsNodeBase base → target_at base endpoint.address ≡ Some target
    → post_to_of endpoint.address ≡ Some to → IsShort text
    → CanBeRead to.path (authority to) (action_in post.message) text (post_of to (action_in post.message) text)

-- Where its envelope is longer than 65,536 bytes, they ask for nothing. Its length is below 2^64, so that all its digits are written.
abbrev pub LongPostsAskNothing : Type 0
LongPostsAskNothing =
    (base : List ℕ) (target : Target) (post : Post) (endpoint : Epr) (to : PostTo) (text path body : List ℕ) → IsNodeBase base → target_at base endpoint.address ≡ Some target
    → post_to_of endpoint.address ≡ Some to → 65536 < length text → length text < 2 ^ 64
    → Asks (post_of to (action_in post.message) text) (Ok (record { path = path; body = body })) → ⊥

-- Whatever is taken of its envelope, at whatever path of the node at whose address it goes, is what the world of the model decodes there.
abbrev pub WhatIsTakenIsDecoded : Type 0
WhatIsTakenIsDecoded =
    (base : List ℕ) (target : Target) (post : Post) (endpoint : Epr) (text path : List ℕ) (arrival : Arrival) → IsBase base → IsPost deliverable post → post.to ≡ Some endpoint
    → target_at base endpoint.address ≡ Some target → IsTextOf post text → IsShort text → Arrives text path arrival → decoded base post ≡ Some (reaches arrival)
