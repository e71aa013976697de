use Rattle.std.proofs.Common.{sym, subst, ◌∙◌}
use Rattle.std.proofs.lemmas.Result.{on_ok_weaker}
use Rattle.interposition.specs.ModelSteps.{IsStep}
use Rattle.world_laws.specs.Walks.{Walk}
use Rattle.world_laws.proofs.ModelSteps.{took_step}
use Rattle.world_laws.proofs.walk.Walk.go.Goals as goal

pub returns : goal.returns
returns c =
    on_ok_weaker c.finish.result
    (took_step c.in_ok-plan.plan c.args.self.now c.finish.new.self c.args.event.now c.args.now
    (subst (λ (w : Walk). IsStep c.in_ok-plan.plan w.book c.args.event.now c.args.now) c.self.view_is c.in_ok-plan.ensures) (sym c.is_over.ensures ∙ c.if-is_over.false))
    c.finish.ensures
