-- What stands in a world stays there.
use Rattle.std.specs.Prelude.{ℕ, List, ◌++◌, Option, Some, ◌≡◌}
use Rattle.at_base.specs.declared.notice.Kind.{Kind}
use Rattle.at_base.specs.declared.notice.Notice.{Notice}
use Rattle.at_base.specs.declared.target.Seat.{Seat}
use Rattle.at_base.specs.declared.record.Record.{Record}
use Rattle.at_base.specs.declared.outs.Ending.{Ending}
use Rattle.at_model.specs.World.{Node, Who, Posted, Accepted, Happened, World, WorldEvent, nth, run_of, Hosts}
use Rattle.model_laws.specs.Agreement.{HasEnded, IsAccepted, HasPosted, Stands}

-- A node's journal has records behind those that it had.
pub record HasGrown (w : World) (n : ℕ) (x : Node) : Type 0 where
  pub node : Node
  pub found : nth n w.nodes ≡ Some node
  pub base : node.base ≡ x.base
  pub more : List Record
  pub journal : node.journal ≡ x.journal ++ more

-- What was posted, accepted and recorded, and what happened, stands in front of what came later.
pub record Grows (u w : World) : Type 0 where
  pub posts : List Posted
  pub posted : w.posted ≡ u.posted ++ posts
  pub registrations : List Accepted
  pub accepted : w.accepted ≡ u.accepted ++ registrations
  pub effects : List Happened
  pub happened : w.happened ≡ u.happened ++ effects
  pub nodes : (n : ℕ) (x : Node) → nth n u.nodes ≡ Some x → HasGrown w n x

-- In every run nothing is taken back; so what holds of an item for good once it holds, holds: that it ended so, that its
-- registration was accepted, that it posted this notification, that this record stands.
pub record TakesNothingBack : Type 0 where
  pub grows : (hosts : Hosts) (es more : List WorldEvent) → Grows (run_of hosts es) (run_of hosts (es ++ more))
  pub ended : (u w : World) → Grows u w → (x : Who) (what : Ending) → HasEnded u x what → HasEnded w x what
  pub accepted : (u w : World) → Grows u w → (t : Who) (seat : Option Seat) (x : Who) → IsAccepted u t seat x → IsAccepted w t seat x
  pub posted : (u w : World) → Grows u w → (x : Who) (kind : Kind) (n : Notice) → HasPosted u x kind n → HasPosted w x kind n
  pub stands : (u w : World) → Grows u w → (n : ℕ) (r : Record) → Stands u n r → Stands w n r
