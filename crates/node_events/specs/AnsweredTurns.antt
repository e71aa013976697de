-- What a node answers in a turn, and what the world says of the turn's event.
use Rattle.std.specs.Prelude.{ℕ, List, [], ◌≡◌, Bool, Option, length}
use Rattle.at_model.specs.World.{Hosts, Input, Node, World, WorldEvent, Deliver, Tick, Raw, Turn}
use Rattle.fated_walks.specs.Fated.{Fated, IsBeyond, StartsWith, all_fates}
use Rattle.node_at.specs.Doings.{Doing}
use Rattle.node_at.specs.Meanings.{Meaning}
use Rattle.node_at.specs.Meanings.Meaning.{Refused}
use Rattle.node_at.specs.State.{State}
use Rattle.node_at.specs.TurnText.{Steppings, TurnStep}
use Rattle.node_worlds.specs.Nets.{Net, Place}
use Rattle.world_laws.specs.Moves.{steps_of}
use Rattle.fated_walks.specs.Statuses.{status_in}
use Rattle.node_events.specs.Fares.{AreFared}
use Rattle.node_events.specs.NodeEvents.{AreStepsOf, IsAt, IsInput}

-- The world's steps of the event answer this status. Of what is answered to bytes that are refused the world knows nothing: they are refused
-- with this status.
abbrev pub SaysStatus : World → WorldEvent → Input → Meaning → ℕ → Type 0
SaysStatus w e (Deliver k) meaning status = status_in (steps_of w e) ≡ status
SaysStatus w e (Tick ms) meaning status = status_in (steps_of w e) ≡ status
SaysStatus w e Raw meaning status = (text : Option (List ℕ)) × (meaning ≡ Refused status text)

-- A turn that goes to its end is answered as its event says, whatever became of its calls, the answer's among them.
abbrev pub TurnsAnswerSo : Type 0
TurnsAnswerSo =
    (hosts : Hosts) (net : Net) (w : World) (i : ℕ) (p : Place) (x : Node) (n : State) (input : Input) (meaning : Meaning) (now status : ℕ) (steps : List TurnStep) (doings : List Doing) (fated : List Fated)
    → IsAt hosts net w i p x n → IsInput w i x input meaning now → Steppings now n.book [] meaning steps status → AreStepsOf w i x n.book input now fated → AreFared steps doings fated
    → (all : List Bool) (until : Option ℕ) → StartsWith (all_fates fated) all → IsBeyond until (length (all_fates fated))
    → SaysStatus w (Turn i input all until) input meaning status
