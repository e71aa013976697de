-- The model's event for an event of the code.
use Rattle.std.specs.Prelude.{ℕ}
use Rattle.at_model.specs.World.{Input, WorldEvent, Deliver, Tick, Raw, Turn, Ask, Crash, Up}
use Rattle.world_laws.specs.declared.event.Input.{Input as Begun}
use Rattle.world_laws.specs.declared.event.Input.TheVariants as inputs
use Rattle.world_laws.specs.declared.event.WorldEvent.{WorldEvent as Given}
use Rattle.world_laws.specs.declared.event.WorldEvent.TheVariants as worlds

abbrev pub input_of : Begun → Input
input_of (inputs.Deliver number) = Deliver number
input_of (inputs.Tick ms) = Tick ms
input_of inputs.Raw = Raw

abbrev pub event_of : Given → WorldEvent
event_of (worlds.Turn node input fates until) = Turn node (input_of input) fates until
event_of (worlds.Ask node local fates until) = Ask node local fates until
event_of (worlds.Crash node) = Crash node
event_of (worlds.Up node landed stop) = Up node landed stop

-- how much time an event lets go by, in milliseconds
abbrev pub ms_of : WorldEvent → ℕ
ms_of (Turn n (Tick ms) fates until) = ms
ms_of (Turn n (Deliver k) fates until) = 0
ms_of (Turn n Raw fates until) = 0
ms_of (Ask n l fates until) = 0
ms_of (Crash n) = 0
ms_of (Up n landed stop) = 0
