-- The events that bring a world to rest are few by what its nodes hold.
use Rattle.std.proofs.Common.{ℕ, ◌-◌, ◌^◌, ◌<◌, ◌≤◌, ◌≡◌, length, subst, sym}
use Rattle.model_laws.specs.Settlement.{all_up, settle, waiting}
use Rattle.settling.specs.Drains.{Drains}
use Rattle.world_laws.proofs.HoldingLaws.{counts_all}
use Rattle.world_laws.specs.Runs.{Run, world_of}
use Rattle.settlement.proofs.SettledWorlds.{are_few}
use Rattle.settlement.specs.Holdings.{held_up, most_events}

by_held : (events nodes held count : ℕ) → held ≡ count → events ≤ most_events nodes count → events ≤ most_events nodes held
by_held events nodes held count e h = subst (λ n. events ≤ most_events nodes n) (sym e) h

pub few_held :
    (r : Run) → Drains → held_up (world_of r) < 2 ^ 64 - 1
    → length (settle (world_of r)) ≤ most_events (length (world_of r).nodes) (held_up (world_of r))
few_held r d h = by_held _ _ _ (waiting (all_up (world_of r)).world) (counts_all (all_up (world_of r)).world h) (are_few r d)

-- the same of a number that is what they hold
pub few_counted :
    (r : Run) → Drains → (held : ℕ) → held ≡ held_up (world_of r) → held < 2 ^ 64 - 1
    → length (settle (world_of r)) ≤ most_events (length (world_of r).nodes) held
few_counted r d held e h =
    by_held _ _ held (held_up (world_of r)) e (few_held r d (subst (λ n. n < 2 ^ 64 - 1) e h))
