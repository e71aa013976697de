-- What can be asked of the nodes of a play.
use Rattle.std.specs.Prelude.{ℕ, List, [], ◌∷◌, ◌≡◌, ◌≤◌, Bool, None, Some, true, false}
use Rattle.at_model.specs.World.{Posted, World, WorldEvent, Deliver, Tick, Raw, Turn, Ask, Crash, Up, node_of, nth, world_step}
use Rattle.mirrored_nets.specs.ExampleRequests.{IsOfEight}
use Rattle.raw_requests.specs.Draws.{Draws}
use Rattle.raw_requests.specs.declared.Drawn.TheVariants as drawns

-- A message that was posted to it; that time goes by; bytes that are refused; a request that names nodes of the examples alone; that it goes down, or
-- comes up.
abbrev pub CanAskOf : World → WorldEvent → List ℕ → Type 0
CanAskOf w (Turn n (Deliver k) fates until) raw = (p : Posted) × (nth k w.posted ≡ Some p) × (p.receiver ≡ Some n)
CanAskOf w (Turn n (Tick ms) fates until) raw = Unit {0}
CanAskOf w (Turn n Raw fates until) raw = (status : ℕ) × (waits : Bool) × Draws raw (drawns.Refused status waits)
CanAskOf w (Ask n request fates until) raw = IsOfEight request
CanAskOf w (Crash n) raw = Unit {0}
CanAskOf w (Up n landed stop) raw = (landed ≡ true) × (stop ≡ false)

-- It is asked of one of so many nodes.
pub record CanAsk (count : ℕ) (w : World) (asked : WorldEvent) (raw : List ℕ) : Type 0 where
  pub least : 1 ≤ node_of asked
  pub within : node_of asked ≤ count
  pub of : CanAskOf w asked raw

-- each where it comes, of nodes that do as they are asked
abbrev pub CanAskAll : ℕ → World → List WorldEvent → Type 0
CanAskAll count w [] = Unit {0}
CanAskAll count w (e ∷ es) = CanAsk count w e [] × CanAskAll count (world_step w e) es

-- an event without fates and without a stop
abbrev pub IsBare : WorldEvent → Type 0
IsBare (Turn n input fates until) = (fates ≡ []) × (until ≡ None)
IsBare (Ask n request fates until) = (fates ≡ []) × (until ≡ None)
IsBare (Crash n) = Unit {0}
IsBare (Up n landed stop) = (landed ≡ true) × (stop ≡ false)
