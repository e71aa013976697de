-- What the call of a node gave, as the world says it of the event that it was.
use Rattle.std.specs.Prelude.{ℕ, List, Bool}
use Rattle.std.proofs.Common.{inl, inr}
use Rattle.at_base.specs.declared.event.Local.{Local}
use Rattle.at_model.specs.World.{Input, World, WorldEvent, Turn, Ask}
use Rattle.node_at.specs.declared.local.Locally.{Locally}
use Rattle.node_at.specs.declared.node.Node.{Node}
use Rattle.node_at.specs.declared.turn.Turned.{Turned}
use Rattle.mirrored_nets.specs.Answered.{HasEffects, IsAnswered, RefusesAlike}
use Rattle.mirrored_nets.specs.Seen.{Seen}
use Rattle.mirrored_nets.specs.declared.armed.Armed.{Armed}
use Rattle.call_readings.specs.declared.became.Became.{Became}
use Rattle.call_readings.specs.declared.became.Became.TheVariants.{Stays, Falls, Halts, FallsAnew, HaltsAnew}
use Rattle.reading_laws.specs.GoneTurns.{TellsFallen, TellsHalted}
use Rattle.asked_nets.specs.ReadSteps.{MovesRead, NetStepRead}

-- What a turn is answered whose steps went to their end, and its effects, are what the world says; where the node went down in its steps, the steps
-- that counted and what was lost.
abbrev pub TurnAnswers : World → WorldEvent → Input → List ℕ → Became → Turned → (n m : Node) → List Bool → Type 0
TurnAnswers w e input bytes Stays result n m fates = IsAnswered w e input bytes result × HasEffects w e m
TurnAnswers w e input bytes (Falls kept choice) result n m fates = TellsFallen w e n m fates
TurnAnswers w e input bytes Halts result n m fates = TellsHalted w e n fates
TurnAnswers w e input bytes (FallsAnew kept choice) result n m fates = IsAnswered w e input bytes result × HasEffects w e m
TurnAnswers w e input bytes HaltsAnew result n m fates = HasEffects w e m

-- The same of a request, which is refused where the world refuses it.
abbrev pub AskAnswers : World → ℕ → WorldEvent → Local → Became → Locally → (n m : Node) → List Bool → Type 0
AskAnswers w i e request Stays answer n m fates = RefusesAlike w i request answer × HasEffects w e m
AskAnswers w i e request (Falls kept choice) answer n m fates = TellsFallen w e n m fates
AskAnswers w i e request Halts answer n m fates = TellsHalted w e n fates
AskAnswers w i e request (FallsAnew kept choice) answer n m fates = ⊥
AskAnswers w i e request HaltsAnew answer n m fates = ⊥

abbrev pub MoveAnswers : (w : World) (armed : Armed) (down : Bool) (e : WorldEvent) (raw : List ℕ) (calls : ℕ) (old new : Seen) → MovesRead armed down e raw calls old new → Type 0
MoveAnswers w armed down (Turn i input fates until) raw calls old new t =
    TurnAnswers w (Turn i input fates until) input t.bytes t.took.did.became t.took.did.result t.node t.took.did.node fates
MoveAnswers w armed down (Ask i request fates until) raw calls old new (stays, t) =
    AskAnswers w i (Ask i request fates until) request t.took.did.became t.took.did.answer t.node t.took.did.node fates
MoveAnswers w armed down other raw calls old new t = Unit {0}

-- of a node at which nothing was done nothing is said
abbrev pub StepAnswers : (w : World) (armed : Armed) (asked e : WorldEvent) (down : Bool) (raw : List ℕ) (calls : ℕ) (old new : Seen) → NetStepRead armed asked e down raw calls old new → Type 0
StepAnswers w armed asked e down raw calls old new (inl moves) = MoveAnswers w armed down e raw calls old new moves
StepAnswers w armed asked e down raw calls old new (inr rests) = Unit {0}
