-- Every node comes up, and stays up.
use Rattle.std.specs.Prelude.{ℕ, List, Some, false, is_none, ◌≡◌, ◌≤◌}
use Rattle.std.specs.List.{AllByRecursion}
use Rattle.at_model.specs.Book.{last_counter}
use Rattle.at_model.specs.Recovery.{last_incarnation}
use Rattle.at_model.specs.World.{Node, World, WorldEvent, nth, run_of, Hosts}
use Rattle.model_laws.specs.Settlement.{MayStart, settle_rounds}
use Rattle.settling.specs.Drains.{risen}

abbrev pub IsUp : Node → Type 0
IsUp x = is_none x.book ≡ false

abbrev pub AllUp : World → Type 0
AllUp w = AllByRecursion IsUp w.nodes

pub record NodesRise : Type 0 where
  -- in every run no incarnation is behind the last one
  pub counted : (hosts : Hosts) (es : List WorldEvent) (n : ℕ) (x : Node) → nth n (run_of hosts es).nodes ≡ Some x → last_incarnation x.journal ≤ last_counter
  -- where each node may start, each is up as the rounds begin, and behind each round
  pub rounds : (hosts : Hosts) (es : List WorldEvent) (n most : ℕ) → AllByRecursion MayStart (run_of hosts es).nodes → AllUp (settle_rounds n most (risen hosts es)).world
