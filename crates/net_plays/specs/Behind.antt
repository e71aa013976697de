-- What nodes and their world are behind events, and what is asked of them there.
use Rattle.std.specs.Prelude.{ℕ, List, ◌++◌, ◌≡◌, ◌≤◌, ◌⊎◌, Bool, Option, None, length}
use Rattle.std.specs.List.{AllByRecursion}
use Rattle.armed_calls.specs.declared.fault.Armed.{Armed}
use Rattle.asked_nets.specs.ArmedCalls.{call_of}
use Rattle.asked_nets.specs.Behind.{events_by, world_behind}
use Rattle.asked_nets.specs.Happened.{Happened, MayAsk, MirrorsAt}
use Rattle.at_model.specs.World.{World, WorldEvent, example_hosts, run_of}
use Rattle.mirrored_nets.specs.Seen.{Seen}
use Rattle.world_laws.specs.Events.{ms_of}
use Rattle.world_laws.specs.Moves.{seen}
use Rattle.world_laws.specs.Runs.{IsFit}
use Rattle.net_plays.specs.Asks.{CanAsk, CanAskOf}
use Rattle.net_plays.specs.Incarnations.{IsEarly}

-- The nodes mirror the world of the run of these events. No clock of theirs shows more than as many of the longest ticks as there were events, and none
-- came up more often than that.
pub record IsBehind (count : ℕ) (net : Seen) (w : World) (es : List WorldEvent) : Type 0 where
  pub run : w ≡ run_of (example_hosts count) es
  pub mirrors : MirrorsAt count net w
  pub fit : IsFit (length es) (seen w)
  pub early : AllByRecursion (IsEarly (length es)) w.nodes

-- no call is armed before the first event
abbrev pub IsArmedBehind : Option Armed → List WorldEvent → Type 0
IsArmedBehind armed es = (armed ≡ None) ⊎ (1 ≤ length es)

-- what can be asked of a play, which takes no more than 4,294,967,295 events, can be asked of its nodes
abbrev pub AsksAreMet : Type 0
AsksAreMet =
    (count : ℕ) (net : Seen) (w : World) (es : List WorldEvent) (asked : WorldEvent) (raw : List ℕ) → count ≤ 8 → length es ≤ 4294967295 → ms_of asked ≤ 4294967295 → IsBehind count net w es → CanAsk count w asked raw
    → MayAsk count w asked raw net

-- so the nodes are behind what then happened
abbrev pub PlaysGoOn : Type 0
PlaysGoOn =
    (count : ℕ) (net new : Seen) (w : World) (es : List WorldEvent) (armed : Option Armed) (asked event : WorldEvent) (raw : List ℕ) (down : Bool) (calls : ℕ) → ms_of event ≤ 4294967295 → IsBehind count net w es
    → IsArmedBehind armed es → CanAskOf w asked raw → Happened count w (call_of armed) asked raw net new event down calls → IsBehind count new (world_behind down w event) (es ++ events_by down event)
