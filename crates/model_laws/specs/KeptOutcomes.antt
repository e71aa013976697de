-- What a node keeps of its roots that committed.
use Rattle.std.specs.Prelude.{ℕ, List, [], Some, ◌≡◌}
use Rattle.at_model.specs.Book.{Book}
use Rattle.at_model.specs.Outcomes.{outcomes_after}
use Rattle.at_model.specs.World.{Node, WorldEvent, nth, run_of, Hosts}

-- In every run a node that is up keeps exactly the outcomes that the records of its journal add.
abbrev pub KeepsOutcomes : Type 0
KeepsOutcomes =
    (hosts : Hosts) (es : List WorldEvent) (n : ℕ) (x : Node) (b : Book) → nth n (run_of hosts es).nodes ≡ Some x → x.book ≡ Some b
    → b.outcomes ≡ outcomes_after [] x.journal
