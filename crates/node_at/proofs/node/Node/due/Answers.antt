use Rattle.std.proofs.Common.{refl, sym, ◌∙◌, subst}
use Rattle.node_at.specs.Dues.{DueRun}
use Rattle.node_at.specs.State.{State, seen}
use Rattle.node_at.specs.declared.due.DueEnd.TheVariants as ends
use Rattle.node_at.proofs.DueItems.{far_cut, far_more}
use Rattle.node_at.proofs.node.Node.due.Goals as goal

pub returns-then-not-due_step-clause-run : goal.returns-then-not-due_step-clause-run
returns-then-not-due_step-clause-run g c =
    let n : State = seen c.args.self.now in
    let k : State = seen c.loop-item.self in
    subst (λ z. DueRun (ends.NoRoom c.loop-item.came) c.args.now n (seen c.due_step.new.self) (g.S.Site.told c.args.site.now) (g.S.Site.told z))
    (sym (c.if-not-due_step.ensures.nothing refl))
    (far_cut c.args.now c.loop-item.after c.loop-item.came c.in-Some.item n k (seen c.due_step.new.self) _ _ c.walks_the_due.ensures c.loop-item.invariant.1.promises.ready.order.rising
    (sym c.next_due.ensures.due ∙ c.in-Some.is) c.loop-item.invariant.0 (c.if-not-due_step.ensures.step ∙ (λ i. record k { book = c.next_due.ensures.kept i })))

pub loop-item-preserved : goal.loop-item-preserved
loop-item-preserved g c =
    let n : State = seen c.args.self.now in
    let k : State = seen c.loop-item.self in (
      far_more c.args.now c.loop-item.after c.loop-item.came c.in-Some.item n k (record k { book = c.next_due.new.self }) (seen c.due_step.new.self) _ _ _ c.walks_the_due.ensures
          c.loop-item.invariant.1.promises.ready.order.rising (sym c.next_due.ensures.due ∙ c.in-Some.is) c.loop-item.invariant.0 (λ i. record k { book = c.next_due.ensures.kept i }) c.if-not-due_step.ensures.step,
      c.due_step.ensures.node,
      c.due_step.ensures.runs,
      c.due_step.ensures.role ∙ c.loop-item.invariant.3,
      c.due_step.ensures.received ∙ c.loop-item.invariant.4,
    )
