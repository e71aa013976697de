use Rattle.std.proofs.Common.{true, ap, subst, ◌∙◌}
use Rattle.std.proofs.lemmas.Result.{on_ok_weaker}
use Rattle.interposition.specs.ModelSteps.{IsStep}
use Rattle.interposition.specs.PlanResults.{done, sent}
use Rattle.world_laws.specs.Walks.{Walk, given}
use Rattle.world_laws.specs.contracts.walk.Walk.{the_view}
use Rattle.world_laws.proofs.ModelSteps.{took_item}
use Rattle.world_laws.proofs.walk.Walk.go_unrecorded.Goals as goal

pub returns : goal.returns
returns c =
    on_ok_weaker c.count.result
    (λ h. took_item c.in_ok-plan.plan c.args.self.now c.count.new.self c.args.event.now c.args.now
    (subst (λ (w : Walk). IsStep c.in_ok-plan.plan w.book c.args.event.now c.args.now) c.self.view_is c.in_ok-plan.ensures)
    (h ∙ (λ i. given (c.apply-outs.ensures.book i) (c.apply-outs.ensures.outs i) (the_view c.self.inside))
    ∙ ap (λ (w : Walk). given (done c.in_ok-plan.plan true w.book) (sent c.in_ok-plan.plan true) w) c.self.view_is))
    c.count.ensures
