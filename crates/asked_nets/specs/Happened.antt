-- An event that is asked for of a net in memory that mirrors a world.
use Rattle.std.specs.Prelude.{ℕ, List, ◌≤◌, ◌<◌, ◌≡◌, Bool, Some, map}
use Rattle.at_model.specs.Recovery.{last_incarnation}
use Rattle.at_model.specs.World.{Node, World, WorldEvent, Turn, Ask, Crash, Up, node_of, nth}
use Rattle.memory_net.specs.Mails.{mail_of}
use Rattle.mirrored_nets.specs.ExampleRequests.{IsOfEight}
use Rattle.mirrored_nets.specs.Mirrors.{Mirrors}
use Rattle.mirrored_nets.specs.MayCome.{FitsClock, MayCome}
use Rattle.mirrored_nets.specs.Seen.{Seen}
use Rattle.mirrored_nets.specs.declared.armed.Armed.{Armed}
use Rattle.call_readings.specs.AskedEvents.{IsOf}
use Rattle.asked_nets.specs.Behind.{world_behind}
use Rattle.asked_nets.specs.ReadAnswers.{StepAnswers}
use Rattle.asked_nets.specs.ReadSteps.{NetStepRead}

-- the net mirrors that world of so many nodes
abbrev pub MirrorsAt : ℕ → Seen → World → Type 0
MirrorsAt count net w = Mirrors count net.hosts net.clocks (map mail_of net.letters) w

-- It was done by its node in one call on its machine, and is the event that its calls are read as; what the call gave is what the world says of that,
-- and the net behind it mirrors the world behind it.
pub record Happened (count : ℕ) (w : World) (armed : Armed) (asked : WorldEvent) (raw : List ℕ) (old new : Seen) (event : WorldEvent) (down : Bool) (calls : ℕ) : Type 0 where
  pub of : IsOf asked event
  pub step : NetStepRead armed asked event down raw calls old new
  pub answers : StepAnswers w armed asked event down raw calls old new step
  pub mirrors : MirrorsAt count new (world_behind down w event)

-- So does whatever was done and read.
abbrev pub AskedHappen : Type 0
AskedHappen =
    (count : ℕ) (w : World) (armed : Armed) (asked event : WorldEvent) (down : Bool) (raw : List ℕ) (calls : ℕ) (old new : Seen) → count ≤ 8 → MirrorsAt count old w → IsOf asked event
    → NetStepRead armed asked event down raw calls old new → Happened count w armed asked raw old new event down calls

-- The node of that number hasn't used all its incarnations.
abbrev pub HasIncarnations : World → ℕ → Type 0
HasIncarnations w n = (x : Node) → nth n w.nodes ≡ Some x → last_incarnation x.journal < 4294967295

-- What can be asked of the node: what its connection can bring, and its clock can show; a request that names nodes of the net alone; a start, where it
-- has an incarnation left.
abbrev pub MayAskOf : World → WorldEvent → List ℕ → Seen → Type 0
MayAskOf w (Turn i input fates until) raw net = MayCome (map mail_of net.letters) i input raw × FitsClock net.clocks i input
MayAskOf w (Ask i request fates until) raw net = IsOfEight request
MayAskOf w (Crash i) raw net = Unit {0}
MayAskOf w (Up i landed stop) raw net = HasIncarnations w i

-- It is asked of one of the nodes, and can be.
pub record MayAsk (count : ℕ) (w : World) (asked : WorldEvent) (raw : List ℕ) (net : Seen) : Type 0 where
  pub least : 1 ≤ node_of asked
  pub within : node_of asked ≤ count
  pub may : MayAskOf w asked raw net
