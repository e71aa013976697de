-- What the bytes of a post ask of the node that they come to, and that any bytes ask one thing.
use Rattle.std.specs.Prelude.{ℕ, List, Option, Some, None, false, codes, ◌≡◌}
use Rattle.addressing.specs.declared.post_to.PostTo.{PostTo}
use Rattle.at_base.specs.declared.event.Arrived.{Arrived}
use Rattle.at_base.specs.declared.event.Event.TheVariants as events
use Rattle.at_base.specs.declared.outs.Post.{Post}
use Rattle.at_model.specs.World.{Hosts, decoded}
use Rattle.deliveries.specs.DeliverableNets.{AreNodeHosts, IsDeliverableNet}
use Rattle.deliveries.specs.Deliveries.{IsCarried}
use Rattle.http_post.specs.Conversations.{Waits}
use Rattle.http_post.specs.OutBytes.{tick_of}
use Rattle.node_at.specs.Meanings.{Meaning, Means, tick_path}
use Rattle.node_at.specs.Meanings.Meaning.{Refused, Steps}
use Rattle.node_at.specs.declared.role.Role.{Role}
use Rattle.node_at.specs.declared.role.Role.TheVariants.{All}
use Rattle.node_worlds.specs.Nets.{Net}
use Rattle.wire_posts.specs.Returns.{IsInLimits}
use Rattle.xml_grammar.specs.Refusals.{IsShort}

-- What a posted message is at a node of this base: it is taken as the world decodes it there, where its envelope is within the limits of
-- what is read; and where the world decodes nothing, or its envelope is past those limits, it is refused with 500.
pub data Takes (base : List ℕ) (p : Post) : Meaning → Type 0 where
  arrives : (a : Arrived) → decoded base p ≡ Some a → IsInLimits p → Takes base p (Steps (events.Arrived a))
  draws : (text : Option (List ℕ)) → decoded base p ≡ None → Takes base p (Refused 500 text)
  is_past : (text : Option (List ℕ)) → (IsInLimits p → ⊥) → Takes base p (Refused 500 text)

-- Such are the bytes by which it was posted, at a node of all roles, where its envelope has at most 65,536 bytes.
abbrev pub PostsSay : Type 0
PostsSay =
    (hosts : Hosts) (net : Net) (i : ℕ) (input : List ℕ) (meaning : Meaning) → AreNodeHosts hosts → IsDeliverableNet hosts net → (c : IsCarried hosts net i input) → IsShort c.text
    → Means All input meaning → Takes (hosts.base_of i) c.posted.content meaning

-- and nobody waits for the interim line behind them
abbrev pub PostsDontWait : Type 0
PostsDontWait =
    (hosts : Hosts) (net : Net) (i : ℕ) (input : List ℕ) → AreNodeHosts hosts → IsDeliverableNet hosts net → (c : IsCarried hosts net i input) → IsShort c.text
    → Waits input false

-- The bytes that ask for what is due do so, and nobody waits behind them.
pub record TicksAsk : Type 0 where
  pub means : (to : PostTo) → to.host ≡ codes "node" → to.port ≡ 80 → to.path ≡ tick_path → Means All (tick_of to) (Steps events.Tick)
  pub waits : (to : PostTo) → to.host ≡ codes "node" → to.port ≡ 80 → to.path ≡ tick_path → Waits (tick_of to) false

-- Bytes mean one thing to a node of a role.
abbrev pub MeanOneThing : Type 0
MeanOneThing = (role : Role) (input : List ℕ) (a b : Meaning) → Means role input a → Means role input b → a ≡ b
