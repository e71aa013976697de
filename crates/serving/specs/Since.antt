-- What a node that serves did since its start, step by step.
use Rattle.std.specs.Prelude.{ℕ, List, ◌≡◌, Option, Some, false}
use Rattle.node_at.specs.Starts.{started}
use Rattle.node_at.specs.State.{State}
use Rattle.node_worlds.specs.Acts.{Act, Did}
use Rattle.node_worlds.specs.Lives.{Lives}
use Rattle.site_model.specs.Told.{Told}
use Rattle.serving.specs.declared.service_end.Ended.{Ended}
use Rattle.serving.specs.declared.service_end.Ended.TheVariants as endings
use Rattle.serving.specs.Runs.{Comes, IsUp, Serviced, all_lines}

-- These are the steps of its lines and turns so far, in order, and this is the node behind them. Unless it ended by a halt, the node
-- goes on.
pub record Since {S : Type 0} (told : S → Told) (v : Serviced) (n : State) (old s new : S) (up : IsUp told v n old s) (ended : Option Ended) : Type 0 where
  pub acts : List Act
  pub node : State
  pub lives : Lives told n s acts node new
  pub did : Did (started up.starts.version up.starts.rs) acts node (told s) (told new)
  pub runs : (ended ≡ Some endings.Halted → ⊥) → node.halted ≡ false

-- At each moment since its start, whatever a crash leaves, the journal, the answers and the posts of a node that serves are those of a
-- prefix of the steps of all its lines and turns.
abbrev pub ServesStepByStep : {S : Type 0} → (S → Told) → Type 0
ServesStepByStep {S} told =
    (v : Serviced) (n : State) (old s new : S) (text : List ℕ) (ended : Option Ended) → (up : IsUp told v n old s) → Comes told v.role (all_lines v) n s new text ended
    → Since told v n old s new up ended
