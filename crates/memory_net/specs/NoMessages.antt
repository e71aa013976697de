-- Bytes that are no message.
use Rattle.std.specs.Prelude.{ℕ, List, Option}
use Rattle.at_base.specs.declared.event.Event.TheVariants as events
use Rattle.deliveries.specs.ByteNets.{IsNoMessage}
use Rattle.node_at.specs.Meanings.{Means}
use Rattle.node_at.specs.Meanings.Meaning.{Refused, Steps}
use Rattle.node_at.specs.declared.role.Role.TheVariants.{All}

-- Such are those that are refused, and those that ask for what is due.
pub record AreNoMessages : Type 0 where
  pub refused : (bytes : List ℕ) (status : ℕ) (text : Option (List ℕ)) → Means All bytes (Refused status text) → IsNoMessage All bytes
  pub ticks : (bytes : List ℕ) → Means All bytes (Steps events.Tick) → IsNoMessage All bytes
