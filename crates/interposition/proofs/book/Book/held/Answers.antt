use Rattle.std.proofs.Common.{◌+◌, ◌-◌, ◌^◌, ap, ◌∙◌, length}
use Rattle.std.specs.Prelude.{min}
use Rattle.at_model.specs.Book.{Book}
use Rattle.coordinator_at.specs.Holdings.{transactions_held}
use Rattle.interposition.proofs.Holdings.{all_held, exactly_held}
use Rattle.interposition.proofs.book.Book.held.Goals as goal

pub returns-clause-value : goal.returns-clause-value
returns-clause-value c =
    all_held c.args.self.now c.held-transactions.result c.held-leaves.result c.held-activities.result c.saturating_add-2.result
    (c.held-transactions.ensures ∙ ap (λ (b : Book). min (transactions_held b.transactions) (2 ^ 64 - 1)) c.self.view_is)
    (c.held-leaves.ensures ∙ ap (λ (b : Book). length b.leaves) c.self.view_is)
    (c.held-activities.ensures ∙ ap (λ (b : Book). length b.activities) c.self.view_is)
    (c.saturating_add-2.ensures ∙ ap (λ n. min (n + c.held-activities.result) (2 ^ 64 - 1)) c.saturating_add.ensures)

pub returns-clause-exact : goal.returns-clause-exact
returns-clause-exact c =
    λ few. exactly_held c.args.self.now c.saturating_add-2.result few (returns-clause-value c)
