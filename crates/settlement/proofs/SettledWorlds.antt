-- What settling is, of the world of a run.
use Rattle.std.proofs.Common.{ℕ, ◌≡◌, ◌≤◌, ◌<◌, ◌+◌, List, length, map, true, arith}
use Rattle.std.specs.List.{AllByRecursion}
use Rattle.at_model.specs.World.{World, WorldEvent, example_hosts, run_on}
use Rattle.model_laws.specs.ReachedWorlds.{ExamplesAreApart}
use Rattle.model_laws.specs.Settlement.{MayStart, Settles, all_up, is_settled, most_deliveries, settle, settle_bound, settle_from, settle_rounds, settled, waiting}
use Rattle.settling.specs.Drains.{Drains, IsDrained}
use Rattle.world_laws.specs.Events.{event_of}
use Rattle.world_laws.specs.Runs.{Run, world_of}

abbrev pub granted_of : World → ℕ
granted_of w = most_deliveries (waiting (all_up w).world)

-- the events of the eight rounds are the model's
pub settles : (r : Run) (es : List WorldEvent) → Drains
    → ((most : ℕ) → ((n : ℕ) → n < 8 → IsDrained most (settle_rounds n most (all_up (world_of r)))) → es ≡ (settle_rounds 8 most (all_up (world_of r))).events)
    → es ≡ settle (world_of r)
unfolding world_of settle settled settle_from
settles r es h are = are (granted_of (world_of r)) (h.rounds (example_hosts r.count) (map event_of r.events))

-- and so are they where they are too many
pub too_many : (r : Run) (past : ℕ) → Drains
    → ((most : ℕ) → ((n : ℕ) → n < 8 → IsDrained most (settle_rounds n most (all_up (world_of r)))) → 4294967295 < past + length (settle_rounds 8 most (all_up (world_of r))).events)
    → 4294967295 < past + length (settle (world_of r))
unfolding world_of settle settled settle_from
too_many r past h are = are (granted_of (world_of r)) (h.rounds (example_hosts r.count) (map event_of r.events))

pub are_few : (r : Run) → Drains → length (settle (world_of r)) ≤ settle_bound (world_of r)
unfolding world_of
are_few r h = h.few (example_hosts r.count) (map event_of r.events)

-- and behind them the world is at rest
pub rests : (r : Run) → ExamplesAreApart → Settles → r.count ≤ 8 → AllByRecursion MayStart (world_of r).nodes → is_settled (run_on (world_of r) (settle (world_of r))) ≡ true
unfolding world_of
rests r apart h few may = (h (example_hosts r.count) (map event_of r.events) (apart r.count (omega (arith, few))) may).rests
