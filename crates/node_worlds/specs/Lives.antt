-- A node since its start, call by call.
use Rattle.std.specs.Prelude.{ℕ, List, [], ◌++◌, ◌≡◌, false}
use Rattle.at_base.specs.declared.event.Local.{Local}
use Rattle.completion_at.specs.declared.requests.Refusal.{Refusal}
use Rattle.site_model.specs.Told.{Told, Still}
use Rattle.node_at.specs.Endings.{TakesTurn}
use Rattle.node_at.specs.Locals.{Asked}
use Rattle.node_at.specs.StartedNodes.{IsStarted}
use Rattle.node_at.specs.Starts.{started}
use Rattle.node_at.specs.State.{State}
use Rattle.node_at.specs.declared.local.Locally.{Locally}
use Rattle.node_at.specs.declared.local.Locally.TheVariants as answers
use Rattle.node_at.specs.declared.role.Role.{Role}
use Rattle.node_at.specs.declared.shrink.Shrunk.{Shrunk}
use Rattle.node_at.specs.declared.turn.Turned.{Turned}
use Rattle.node_worlds.specs.Acts.{Act, Did, acts_for, acts_in}

-- a request of the node's program; one that is refused calls nothing
pub record Requests {S : Type 0} (told : S → Told) (answer : Locally) (n m : State) (l : Local) (old new : S) : Type 0 where
  pub asked : Asked answer n m l (told old) (told new)
  pub nothing : (why : Refusal) → answer ≡ answers.Refused why → new ≡ old

-- Turns and requests, one after the other on one machine, and what they did, step by step. A node that has halted does nothing more.
pub data Lives {S : Type 0} (told : S → Told) (n : State) (s : S) : List Act → State → S → Type 0 where
  begins : {acts : List Act} {m : State} {t : S} → acts ≡ [] → m ≡ n → t ≡ s → Lives told n s acts m t
  -- connections come, and time passes
  waits : {acts : List Act} {m : State} {u : S} (t : S) → Lives told n s acts m t → Still (told t) (told u) → Lives told n s acts m u
  turned : {all : List Act} {m : State} {u : S} (acts : List Act) (k : State) (t : S) (result : Turned) (role : Role) (shrunk : Shrunk) → Lives told n s acts k t → k.halted ≡ false
      → (turn : TakesTurn told result role shrunk k m t u) → all ≡ acts ++ acts_in turn.first role k turn.node (told t) (told turn.behind) turn.steps → Lives told n s all m u
  asked : {all : List Act} {m : State} {u : S} (acts : List Act) (k : State) (t : S) (answer : Locally) (l : Local) → Lives told n s acts k t → k.halted ≡ false
      → (request : Requests told answer k m l t u) → all ≡ acts ++ acts_for answer k m l (told t) (told u) request.asked → Lives told n s all m u

-- At each moment since a node's start its journal, answers and posts are those of a prefix of its steps: of what all its calls did
-- since then, whatever a crash leaves, also while its journal is written anew.
abbrev pub StepsArePrefixed : {S : Type 0} → (S → Told) → Type 0
StepsArePrefixed {S} told =
    (base : List ℕ) (limit : ℕ) (n m : State) (r s t : S) (acts : List Act) → (start : IsStarted base limit n (told r) (told s)) → Lives told n s acts m t
    → Did (started start.version start.rs) acts m (told s) (told t)
