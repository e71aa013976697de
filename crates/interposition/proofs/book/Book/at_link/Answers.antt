use Rattle.std.proofs.Common.{ap, sym, ◌∙◌}
use Rattle.std.proofs.lemmas.Result.{IfOk-weaker}
use Rattle.at_tables.specs.Tables.{participant_of}
use Rattle.at_tables.specs.declared.cells.State.TheVariants as states
use Rattle.at_model.specs.Step.{link_plan, stranger_plan}
use Rattle.by_id.specs.Wholes.{whole_or}
use Rattle.coordinator_at.specs.TransactionPlans.{with_transactions}
use Rattle.interposition.proofs.UnknownItems.{at_participant}
use Rattle.interposition.proofs.book.Book.at_link.Goals as goal

pub returns-in-Some : goal.returns-in-Some
returns-in-Some c = λ now time found.
    ap (whole_or with_transactions c.args.self.now now (stranger_plan c.args.self.now now c.args.arrived.now (participant_of c.args.kind states.None) c.args.arrived.now.message)) (sym c.in-Some.is)
    ∙ c.in_ok-plan.ensures c.args.self.now now c.args.id time found

pub returns-in-None : goal.returns-in-None
returns-in-None c = λ now time found.
    IfOk-weaker c.stranger.result _ _
    (λ part is. at_participant c.args.self.now now c.args.moment.now c.args.arrived.now c.args.id c.args.kind part (link_plan c.args.self.now now c.args.arrived.now c.args.kind c.args.transaction.now c.args.transaction.now.superior) time c.requires is
    (ap (whole_or with_transactions c.args.self.now now (stranger_plan c.args.self.now now c.args.arrived.now (participant_of c.args.kind states.None) c.args.arrived.now.message)) (sym c.in-None.is)
    ∙ c.in_ok-plan.ensures c.args.self.now now c.args.id time found))
    c.stranger.ensures
