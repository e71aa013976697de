-- What a step that moves a transaction gives.
use Rattle.std.specs.Prelude.{ℕ, List, Some, Bool, ◌≡◌, ◌⊎◌}
use Rattle.at_base.specs.Numbers.{Numbers}
use Rattle.at_base.specs.declared.record.Record.{Record}
use Rattle.at_base.specs.declared.record.Record.TheVariants as records
use Rattle.at_base.specs.declared.event.Event.{Event}
use Rattle.at_base.specs.declared.outs.Out.{Out}
use Rattle.at_model.specs.Book.{Book, Transaction}
use Rattle.at_model.specs.Moves.{Decision}
use Rattle.at_model.specs.Step.{at_time, put_transaction, transaction_at, transaction_plan}
use Rattle.model_laws.specs.PhaseAnswers.{IsInPhase}
use Rattle.model_laws.specs.Shapes.{MovesTransaction}
use Rattle.agreement.specs.Branches.{Became}
use Rattle.agreement.specs.Deeds.{Deed}
use Rattle.agreement.specs.FinishedTransactions.{AreFinished}

-- A subordinate's outcome, or an end, that isn't recorded is waited for as before: the superior, or a participant, says
-- so again (WS-AtomicTransaction 1.2, section 3.3.3).
abbrev pub WaitsOn : Transaction → Record → Type 0
WaitsOn t r = (r ≡ records.SubCommitted t.id) ⊎ (r ≡ records.Ended t.id)

-- Each step that moves a transaction of a book is one of its deeds, with its record in the journal or with none; or it is
-- undone. A vote and a root's decision are never undone: where they aren't recorded, the transaction aborts.
pub record TransactionsStep : Type 0 where
  pub step : (b : Book) (e : Event) (now : ℕ) (landed : Bool) (id : Numbers) (t : Transaction) (answer : List Out) (d : Decision Transaction) → IsInPhase b → AreFinished b
      → transaction_at b id ≡ Some t → MovesTransaction b e now t d
      → Became (Deed e t) (WaitsOn t) b (put_transaction t.id (at_time now b)) answer (transaction_plan b now answer t d) landed
