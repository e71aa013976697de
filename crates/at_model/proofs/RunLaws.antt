-- A run with one event more.
use Rattle.std.specs.Prelude.{List, [], ◌∷◌, ◌++◌, ◌≡◌, refl}
use Rattle.at_model.specs.Runs.{RunsGrow}
use Rattle.at_model.specs.World.{World, WorldEvent, opening, run_on, world_step}

run_more : (w : World) (es : List WorldEvent) (e : WorldEvent) → run_on w (es ++ e ∷ []) ≡ world_step (run_on w es) e
run_more w [] e = refl
run_more w (f ∷ es) e = run_more (world_step w f) es e

pub runs_grow : RunsGrow
runs_grow hosts es e = run_more (opening hosts) es e
