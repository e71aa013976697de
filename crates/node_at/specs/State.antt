-- A node as contracts see it.
use Rattle.std.specs.Prelude.{List, Bool, ◌≡◌, ◌≤◌}
use Rattle.at_base.specs.declared.outs.Effect.{Effect}
use Rattle.at_model.specs.Book.{Book}
use Rattle.decision_log.specs.KeptState.{known}
use Rattle.decision_log.specs.KeptRecords.{IsKept, Known}
use Rattle.journal_at.specs.declared.journal.Journal.{Journal}
use Rattle.model_laws.specs.BookBounds.{IsSound}
use Rattle.node_at.specs.declared.node.Node.{Node}
use Rattle.node_at.specs.Promises.{PromisesStand}

pub record State : Type 0 where
  pub book : Book
  pub kept : Known
  pub journal : Journal
  pub effects : List Effect
  pub halted : Bool

abbrev pub seen : Node → State
seen n = record { book = n.book; kept = known n.kept; journal = n.journal; effects = n.effects.items; halted = n.halted }

-- What holds of a node between its calls: its book is within its bounds, it keeps what well-formed records leave, the promises
-- of the book are live in what it keeps, it has halted exactly where its journal is unsure, and the journal's live file has a
-- body.
pub record IsNode (n : State) : Type 0 where
  pub sound : IsSound n.book
  pub kept : IsKept n.kept
  pub promises : PromisesStand n.book n.kept
  pub sure : n.journal.unsure ≡ n.halted
  pub begun : 1 ≤ n.journal.end
