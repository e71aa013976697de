use Rattle.std.specs.Prelude.{ℕ, ◌≡◌, ◌<◌, ◌+◌, length}
use Rattle.std.proofs.Common.{ap, rules, subst, sym, ◌∙◌}
use Rattle.model_laws.specs.Settlement.{Settling, all_also, all_up, settle_rounds, ups}
use Rattle.settling.specs.Drains.{IsDrained}
use Rattle.world_laws.specs.Runs.{world_of}
use Rattle.settlement.proofs.EventGrowth.{rise_of_many}
use Rattle.settlement.specs.Ways.{Way}
use Rattle.settlement.specs.declared.run_error.RunError.TheVariants.{TooManyEvents}
use Rattle.settlement.proofs.settling_world.settled.Goals as goal

pub returns-in_err-risen-clause-many : goal.returns-in_err-risen-clause-many
returns-in_err-risen-clause-many c = λ most drains.
    let many = λ (is : c.in_err-risen.field-0.0 ≡ TooManyEvents).
    rise_of_many most (length c.args.world.now.events) (all_up (world_of c.args.world.now)) drains
    (subst (λ (w : Way). 4294967295 < w.past + length (all_also (ups 1 w.settling.world.nodes) w.settling).events) c.in_ok-begun.ensures
    (c.in_err-risen.ensures.many is)) in
    search rules

pub returns-clause-is : goal.returns-clause-is
returns-clause-is c = λ most drains.
    let risen : c.in_ok-risen.risen.settling ≡ all_up (world_of c.args.world.now) =
    ap (λ (w : Way). w.settling) c.in_ok-risen.ensures.is ∙ ap (λ (w : Way). all_also (ups 1 w.settling.world.nodes) w.settling) c.in_ok-begun.ensures in
    let end = c.in_ok-settled.ensures.is most (subst (λ (s : Settling). (n : ℕ) → n < 8 → IsDrained most (settle_rounds n most s)) (sym risen) drains) in
    ap (λ (w : Way). w.settling.events) c.settled.view_is ∙ (ap (λ (s : Settling). s.events) end ∙ ap (λ s. (settle_rounds 8 most s).events) risen)
