use Rattle.std.specs.Prelude.{◌≡◌, ◌+◌, drop}
use Rattle.model_laws.specs.Settlement.{first_received}
use Rattle.settlement.proofs.settling_world.next_in.Given as goal

abbrev pub invariant-loop-place : goal.invariant-loop-place
invariant-loop-place l = first_received (l.fn.passed + 1) (drop l.fn.passed l.fn.posted) ≡ first_received (l.place + 1) (drop l.place l.fn.posted)
