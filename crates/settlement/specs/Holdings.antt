-- How many events bring a world to rest at most, by what its nodes hold once all are up.
use Rattle.std.specs.Prelude.{ℕ, ◌+◌, ◌*◌}
use Rattle.at_model.specs.World.{World}
use Rattle.model_laws.specs.Settlement.{all_up}
use Rattle.world_laws.specs.Holdings.{world_held}

-- what they hold once all are up
abbrev pub held_up : World → ℕ
held_up w = world_held (all_up w).world

-- how many events these are at most for so many nodes, which hold so much
abbrev pub most_events : ℕ → ℕ → ℕ
most_events nodes held = nodes + 8 * (nodes + 128 * (held + 1))
