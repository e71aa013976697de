-- A network that brings to a node what was posted to it.
use Rattle.std.specs.Prelude.{ℕ, List, Some, length, ◌≡◌, ◌<◌, ◌^◌}
use Rattle.addressing.specs.declared.post_to.PostTo.{PostTo}
use Rattle.at_base.specs.declared.event.Arrived.{Arrived}
use Rattle.at_base.specs.declared.event.Event.TheVariants as events
use Rattle.at_model.specs.World.{Hosts, Posted}
use Rattle.deliveries.specs.DeliverableNets.{AreNodeHosts, IsDeliverableNet}
use Rattle.http_post.specs.OutBytes.{post_of}
use Rattle.model_laws.specs.Agreement.{IsIn}
use Rattle.node_at.specs.Meanings.{Means}
use Rattle.node_at.specs.Meanings.Meaning.{Steps}
use Rattle.node_at.specs.Texts.{goes_to}
use Rattle.node_at.specs.declared.role.Role.{Role}
use Rattle.node_worlds.specs.Nets.{IsPostedTo, Net}
use Rattle.wire_posts.specs.Envelopes.{IsTextOf, action_in}

-- These are the bytes by which a node posted a message to this one, as many as a machine can hold.
pub record IsCarried (hosts : Hosts) (net : Net) (i : ℕ) (input : List ℕ) : Type 0 where
  pub posted : Posted
  pub stands : IsIn posted net.posted
  pub received : posted.receiver ≡ Some i
  pub text : List ℕ
  pub of : IsTextOf posted.content text
  pub held : length text < 2 ^ 64
  pub to : PostTo
  pub goes : goes_to posted.content.to ≡ Some to
  pub is : input ≡ post_of to (action_in posted.content.message) text

-- Whatever message they ask a node of any role to take, it is the one that was posted, as the world of the model decodes it there.
abbrev pub PostsBring : Type 0
PostsBring =
    (hosts : Hosts) (net : Net) (i : ℕ) (role : Role) (input : List ℕ) (a : Arrived) → AreNodeHosts hosts → IsDeliverableNet hosts net → IsCarried hosts net i input
    → Means role input (Steps (events.Arrived a)) → IsPostedTo hosts net i a
