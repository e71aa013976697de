-- What one step of a book does to its transactions.
use Rattle.std.specs.Prelude.{ℕ, List, [], ◌∷◌, ◌++◌, Option, Some, None, Bool, true, false, ◌≡◌, length, map}
use Rattle.std.specs.List.{AllByRecursion}
use Rattle.at_base.specs.Numbers.{Numbers}
use Rattle.at_base.specs.declared.message.Create.{Create}
use Rattle.at_base.specs.declared.message.Register.{Register}
use Rattle.at_base.specs.declared.message.Message.TheVariants as messages
use Rattle.at_base.specs.declared.event.Arrived.{Arrived}
use Rattle.at_base.specs.declared.event.Event.{Event}
use Rattle.at_base.specs.declared.event.Event.TheVariants as events
use Rattle.at_base.specs.declared.outs.Effect.{Effect}
use Rattle.at_base.specs.declared.outs.Effect.TheVariants as effects
use Rattle.at_base.specs.declared.outs.Out.{Out}
use Rattle.at_base.specs.declared.outs.Out.TheVariants as outs
use Rattle.at_base.specs.declared.record.Record.{Record}
use Rattle.at_base.specs.declared.record.Record.TheVariants as records
use Rattle.at_base.specs.declared.target.Target.TheVariants as targets
use Rattle.at_model.specs.Book.{Book, Transaction, next_id, put_by, transaction_id}
use Rattle.at_model.specs.Create.{on_create}
use Rattle.at_model.specs.Moves.{Change}
use Rattle.at_model.specs.Register.{on_register}
use Rattle.at_model.specs.Step.{Outcome, moment_of, plan, registration_outcome, step, still, transaction_at}
use Rattle.model_laws.specs.PhaseAnswers.{IsInPhase}
use Rattle.model_laws.specs.Shapes.{IsAnswer}
use Rattle.agreement.specs.Deeds.{Deed}
use Rattle.agreement.specs.FinishedTransactions.{AreFinished}

-- what stands in the journal of a step's record
abbrev pub standing : Bool → Option Record → Option Record
standing true entry = entry
standing false entry = None

-- no root ends
abbrev pub IsNoRoot : Effect → Type 0
IsNoRoot (effects.Root id what) = ⊥
IsNoRoot other = Unit {0}

-- nothing of a transaction is recorded
abbrev pub IsOfNoTransaction : Option Record → Type 0
IsOfNoTransaction None = Unit {0}
IsOfNoTransaction (Some (records.Voted id superior named)) = ⊥
IsOfNoTransaction (Some (records.Decided id named)) = ⊥
IsOfNoTransaction (Some (records.SubCommitted id)) = ⊥
IsOfNoTransaction (Some (records.Ended id)) = ⊥
IsOfNoTransaction (Some (records.Done id)) = ⊥
IsOfNoTransaction (Some (records.Start incarnation)) = Unit {0}
IsOfNoTransaction (Some (records.LeafPrepared id coordinator key value)) = Unit {0}
IsOfNoTransaction (Some (records.LeafCommitted id)) = Unit {0}
IsOfNoTransaction (Some (records.LeafAborted id)) = Unit {0}

-- A step with this record in the journal and this outcome: one transaction did a deed; the step was undone, since its
-- record is absent; one took a registration; one was made; or the transactions are as they were, and no root ends.
pub data Done (b : Book) (e : Event) (now : ℕ) (entry : Option Record) (o : Outcome) : Type 0 where
  did : (t : Transaction) (c : Change Transaction) (answer : List Out) → transaction_at b t.id ≡ Some t → Deed e t entry c → IsAnswer answer
      → o.book.transactions ≡ put_by transaction_id t.id c.item b.transactions → o.outs ≡ answer ++ map outs.Post c.posts → o.effects ≡ c.effects → Done b e now entry o
  undone : (answer : List Out) → IsAnswer answer → entry ≡ None → o ≡ still b answer → Done b e now entry o
  registered : (t : Transaction) (a : Arrived) (r : Register) → transaction_at b t.id ≡ Some t → e ≡ events.Arrived a → a.target ≡ targets.Registration t.id → a.message ≡ messages.Register r
      → entry ≡ None → o ≡ registration_outcome b now (on_register (moment_of b now) a r t) → Done b e now entry o
  made : (t : Transaction) (a : Arrived) (c : Create) (id : Numbers) → e ≡ events.Arrived a → a.target ≡ targets.Activation → a.message ≡ messages.Create c → next_id b ≡ Some id
      → (on_create (moment_of b now) (length b.transactions) a c (Some id)).transaction ≡ Some t → entry ≡ None → o.book.transactions ≡ b.transactions ++ t ∷ []
      → o.outs ≡ (on_create (moment_of b now) (length b.transactions) a c (Some id)).outs → o.effects ≡ [] → Done b e now entry o
  elsewhere : IsOfNoTransaction entry → o.book.transactions ≡ b.transactions → AllByRecursion IsNoRoot o.effects → Done b e now entry o

-- So is each step, where its record landed and where it didn't.
pub record StepsDo : Type 0 where
  pub steps : (b : Book) (e : Event) (now : ℕ) (landed : Bool) → IsInPhase b → AreFinished b → Done b e now (standing landed (plan b e now).entry) (step b e now landed)
