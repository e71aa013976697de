-- What is printed of an event, from whether its node went down behind its steps.
use Rattle.std.specs.Prelude.{ℕ, List, Option, Bool, true, false, ◌++◌, ◌+◌, drop, length}
use Rattle.armed_calls.specs.declared.fault.Fault.{Fault}
use Rattle.asked_nets.specs.Behind.{world_behind}
use Rattle.at_base.specs.declared.outs.Effect.{Effect}
use Rattle.at_model.specs.World.{World, WorldEvent, Crash, node_of, world_step}
use Rattle.replay_cmd.specs.ReportOf.{effect_lines, result_line, step_lines}
use Rattle.world_laws.specs.Moves.{losses_of, steps_of}

-- what going down lost
abbrev pub losses_by : Bool → World → WorldEvent → List Effect
losses_by true w e = losses_of (world_step w e) (Crash (node_of e))
losses_by false w e = losses_of w e

-- Its result, then its steps, then what going down lost. It may have met this fault; raw bytes draw this status.
abbrev pub event_lines : Bool → Option Fault → ℕ → World → WorldEvent → List ℕ
event_lines down f s w e =
    result_line f s e w (world_behind down w e) (steps_of w e)
    ++ (step_lines (node_of e) (length w.posted + 1) (drop (length w.posted) (world_behind down w e).posted) (steps_of w e)
    ++ effect_lines (node_of e) (losses_by down w e))
