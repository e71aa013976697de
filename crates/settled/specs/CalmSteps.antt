-- One step of a world that settles: each record lands and each message is sent, and the message that arrived is none of those
-- that are on their way any more.
use Rattle.std.specs.Prelude.{ℕ, List, Some, true, map, ◌≡◌, ◌⊎◌}
use Rattle.at_base.specs.declared.event.Arrived.{Arrived}
use Rattle.at_base.specs.declared.event.Event.{Event}
use Rattle.at_base.specs.declared.event.Event.TheVariants as events
use Rattle.at_base.specs.declared.outs.Post.{Post}
use Rattle.at_model.specs.Book.{Book}
use Rattle.at_model.specs.Step.{step}
use Rattle.at_model.specs.World.{Node, Posted, World, decoded, nth, receiver_of, Hosts, HaveOwnAddresses}
use Rattle.model_laws.specs.Agreement.{IsIn}
use Rattle.model_laws.specs.ReachedWorlds.{Heard, Reached, counts, post_all}
use Rattle.owed.specs.Seats.{posts_of}
use Rattle.settling.specs.Payments.{MakesNothing}

-- what is posted
abbrev pub posted_as : ℕ → List Node → Post → Posted
posted_as n nodes p = record { sender = n; receiver = receiver_of nodes p.to; content = p }

-- this message has arrived
abbrev pub HasArrived : Hosts → ℕ → Event → Posted → Type 0
HasArrived hosts n e q = (q.receiver ≡ Some n) × ((a : Arrived) → decoded (hosts.base_of n) q.content ≡ Some a → e ≡ events.Arrived a)

-- an event that makes nothing
abbrev pub MakesNone : Event → Type 0
MakesNone (events.Arrived a) = MakesNothing a.message
MakesNone (events.Local l) = ⊥
MakesNone other = Unit {0}

pub record Goes (hosts : Hosts) (u v : World) (before after : List Posted) : Type 0 where
  pub distinct : HaveOwnAddresses hosts
  pub reached : Reached hosts u
  pub number : ℕ
  pub node : Node
  pub book : Book
  pub event : Event
  pub now : ℕ
  pub found : nth number u.nodes ≡ Some node
  pub up : node.book ≡ Some book
  pub heard : Heard u number node event
  pub makes : MakesNone event
  pub is : v ≡ post_all number (posts_of (step book event now true).outs) (counts u number node book event now true)
  pub stays : (q : Posted) → IsIn q before → IsIn q after ⊎ HasArrived hosts number event q
  pub adds : (q : Posted) → IsIn q (map (posted_as number u.nodes) (posts_of (step book event now true).outs)) → IsIn q after
