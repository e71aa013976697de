-- What a run of a world comes to with one event more.
use Rattle.std.specs.Prelude.{List, [], ◌∷◌, ◌++◌, ◌≡◌}
use Rattle.at_model.specs.World.{Hosts, WorldEvent, run_of, world_step}

-- A run's next event is one step of the world that the run led to.
abbrev pub RunsGrow : Type 0
RunsGrow = (hosts : Hosts) (es : List WorldEvent) (e : WorldEvent) → run_of hosts (es ++ e ∷ []) ≡ world_step (run_of hosts es) e
