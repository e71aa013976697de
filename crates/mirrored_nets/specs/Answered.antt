-- What a call of a node in memory gave, and what the world says of its event.
use Rattle.std.specs.Prelude.{ℕ, List, Bool, Option, None, Some, ◌≡◌}
use Rattle.at_base.specs.declared.event.Local.{Local}
use Rattle.at_model.specs.Activities.{Refusal}
use Rattle.at_model.specs.World.{Input, World, WorldEvent, Deliver, Tick, Raw}
use Rattle.completion_at.specs.Names.{refusal_of}
use Rattle.node_at.specs.State.{seen}
use Rattle.node_at.specs.declared.local.Locally.{Locally}
use Rattle.node_at.specs.declared.local.Locally.TheVariants as answers
use Rattle.node_at.specs.declared.node.Node.{Node}
use Rattle.node_at.specs.declared.turn.Turned.{Turned}
use Rattle.node_at.specs.declared.turn.Turned.TheVariants as turneds
use Rattle.raw_requests.specs.Draws.{Draws}
use Rattle.raw_requests.specs.declared.Drawn.TheVariants as drawns
use Rattle.node_events.specs.CallEffects.{effects_of}
use Rattle.world_laws.specs.Moves.{steps_of}
use Rattle.world_laws.specs.Runs.{refused_at}
use Rattle.fated_walks.specs.Statuses.{status_in}

-- a turn that came to this was answered with that status
abbrev pub AnswersWith : Turned → ℕ → Type 0
AnswersWith (turneds.Served answer) status = answer ≡ status
AnswersWith turneds.Ticked status = status ≡ 202
AnswersWith other status = ⊥

-- It was answered with the status that the world's steps of the event answer; bytes, of whose answer the world knows nothing, with the status
-- that they draw.
abbrev pub IsAnswered : World → WorldEvent → Input → List ℕ → Turned → Type 0
IsAnswered w e (Deliver k) bytes result = AnswersWith result (status_in (steps_of w e))
IsAnswered w e (Tick ms) bytes result = AnswersWith result (status_in (steps_of w e))
IsAnswered w e Raw bytes result = (status : ℕ) (waits : Bool) → Draws bytes (drawns.Refused status waits) → AnswersWith result status

-- why a request was refused, where it was
abbrev pub refusal_in : Locally → Option Refusal
refusal_in (answers.Refused why) = Some (refusal_of why)
refusal_in other = None

-- It was refused exactly where the world refuses it at that node, for the same reason.
abbrev pub RefusesAlike : World → ℕ → Local → Locally → Type 0
RefusesAlike w i request answer = refusal_in answer ≡ refused_at w i request

-- The effects that the node gave are, in order, those of that event.
abbrev pub HasEffects : World → WorldEvent → Node → Type 0
HasEffects w e node = (seen node).effects ≡ effects_of w e
