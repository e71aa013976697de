-- Every round of settling drains: it ends with no message left to deliver, before its deliveries are spent.
use Rattle.std.specs.Prelude.{ℕ, List, [], Some, None, ◌+◌, ◌≡◌, ◌≤◌, ◌<◌, drop, length}
use Rattle.at_model.specs.World.{Deliver, Turn, WorldEvent, run_of, Hosts}
use Rattle.model_laws.specs.Settlement.{Settling, all_also, all_up, also, first_received, most_deliveries, settle, settle_bound, settle_round, settle_rounds, ticks, waiting}

-- the world with every node up, as the rounds begin
abbrev pub risen : Hosts → List WorldEvent → Settling
risen hosts es = all_up (run_of hosts es)

-- how many deliveries a round may have
abbrev pub granted : Settling → ℕ
granted s = most_deliveries (waiting s.world)

-- Deliveries that lead to this last world, each time of the lowest message that has a receiver, behind those that were passed
-- by: until no such message is left.
pub data Delivers (last : Settling) : ℕ → Settling → Type 0 where
  none_left : {j : ℕ} {s : Settling} → first_received (j + 1) (drop j s.world.posted) ≡ None → last ≡ s → Delivers last j s
  one_more : {j : ℕ} {s : Settling} (k n : ℕ) → first_received (j + 1) (drop j s.world.posted) ≡ Some (k, n) → Delivers last k (also (Turn n (Deliver k) [] None) s) → Delivers last j s

-- A round drains where it delivers, behind its ticks, until no message of the round is left.
abbrev pub IsDrained : ℕ → Settling → Type 0
IsDrained most s = Delivers (settle_round most s) (length s.world.posted) (all_also (ticks 1 s.world.nodes) s)

-- In each run, whatever was lost, repeated, delayed or crashed before, the events that settle its world are few, and each of
-- the eight rounds drains.
pub record Drains : Type 0 where
  pub few : (hosts : Hosts) (es : List WorldEvent) → length (settle (run_of hosts es)) ≤ settle_bound (run_of hosts es)
  pub rounds : (hosts : Hosts) (es : List WorldEvent) (n : ℕ) → n < 8 → IsDrained (granted (risen hosts es)) (settle_rounds n (granted (risen hosts es)) (risen hosts es))
