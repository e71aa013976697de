use Rattle.std.specs.Prelude.{ℕ, ◌≡◌, true, length}
use Rattle.replay_cmd.specs.Deliveries.{all_yes, yes_at}
use Rattle.replay_cmd.proofs.deliveries.reach.Given as goal

abbrev pub invariant-loop-place : goal.invariant-loop-place
invariant-loop-place l =
    (length l.items.items ≡ l._place)
    × ((yes_at l.count l.items.items ≡ yes_at l.count l.fn.items.items)
    × ((n : ℕ) → all_yes n l.fn.items.items ≡ true → all_yes n l.items.items ≡ true))
