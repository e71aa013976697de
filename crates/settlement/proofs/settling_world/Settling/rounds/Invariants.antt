use Rattle.std.specs.Prelude.{ℕ, ◌≡◌, ◌<◌}
use Rattle.model_laws.specs.Settlement.{settle_rounds}
use Rattle.settling.specs.Drains.{IsDrained}
use Rattle.settlement.proofs.settling_world.Settling.rounds.Given as goal

abbrev pub invariant-loop-round : goal.invariant-loop-round
invariant-loop-round l =
    (l.settling.past ≡ l.fn.self.past)
    × ((most : ℕ) → ((n : ℕ) → n < 8 → IsDrained most (settle_rounds n most l.fn.self.settling)) → l.settling.settling ≡ settle_rounds l._round most l.fn.self.settling)
