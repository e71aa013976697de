use Rattle.std.specs.Prelude.{◌≡◌, ◌-◌, length}
use Rattle.model_laws.specs.Settlement.{Settling}
use Rattle.settling.specs.Drains.{Delivers}
use Rattle.settlement.proofs.settling_world.Settling.deliver_all.Given as goal

abbrev pub invariant-loop-number : goal.invariant-loop-number
invariant-loop-number l =
    (l.settling.past ≡ l.fn.self.past)
    × (((last : Settling) → Delivers last l.behind l.settling.settling → Delivers last l.fn.passed l.fn.self.settling)
    × ((last : Settling) → Delivers last l.fn.passed l.fn.self.settling → Delivers last l.behind l.settling.settling))

abbrev pub decreases-loop-number : goal.decreases-loop-number
decreases-loop-number l = 4294967295 - length l.settling.settling.events
