-- Once a transaction has asked its durable participants, it doesn't go back.
use Rattle.std.specs.Prelude.{ℕ, Option, Some, None, Bool, true, false, ◌≡◌, ◌⊎◌}
use Rattle.std.specs.List.{AllByRecursion}
use Rattle.at_base.specs.Numbers.{Numbers}
use Rattle.at_base.specs.declared.event.Event.{Event}
use Rattle.at_base.specs.declared.message.Message.TheVariants as messages
use Rattle.at_base.specs.declared.notice.Kind.TheVariants as kinds
use Rattle.at_base.specs.declared.notice.Notice.TheVariants as notices
use Rattle.at_base.specs.declared.outs.Post.{Post}
use Rattle.at_base.specs.declared.target.Target.TheVariants as targets
use Rattle.at_model.specs.Book.{Book, Phase, Transaction}
use Rattle.at_model.specs.Arrivals.{with_answer}
use Rattle.at_model.specs.Moves.{Change, Decision, Goes, Records}
use Rattle.at_model.specs.Step.{moment_of, step, transaction_at}
use Rattle.model_laws.specs.Shapes.{MovesTransaction}
use Rattle.enlistments.specs.Moves.{IsReady}
use Rattle.owed.specs.Shape.{AreShaped}

-- the phases behind the first Prepare to a durable participant
abbrev pub has_asked : Phase → Bool
has_asked Phase.Registering = false
has_asked Phase.Active = false
has_asked Phase.Volatile = false
has_asked Phase.Durable = true
has_asked Phase.Voted = true
has_asked Phase.Committing = true
has_asked Phase.Aborting = true

abbrev pub HasAskedIfLeft : Option Transaction → Type 0
HasAskedIfLeft None = Unit {0}
HasAskedIfLeft (Some t) = has_asked t.phase ≡ true

-- a Prepare that goes out from a durable seat of this transaction
pub record IsDurablePrepare (id : Numbers) (p : Post) : Type 0 where
  pub number : ℕ
  pub owned : p.own ≡ Some (targets.Coordinator id (record { number = number; kind = kinds.Durable }))
  pub says : p.message ≡ messages.Notice notices.Prepare

abbrev pub NoAsk : Post → Type 0
NoAsk p = (i : Numbers) → IsDurablePrepare i p → ⊥

abbrev pub Own : Numbers → Post → Type 0
Own id p = (i : Numbers) → IsDurablePrepare i p → i ≡ id

-- What is left has asked, or is forgotten, and each such Prepare is its own; or it hadn't asked, and none is posted.
abbrev pub GoesOn : Bool → Numbers → Change Transaction → Type 0
GoesOn late id c = (HasAskedIfLeft c.item × AllByRecursion (Own id) c.posts) ⊎ ((late ≡ false) × AllByRecursion NoAsk c.posts)

-- both branches of a decision
abbrev pub GoesOnBoth : Bool → Numbers → Decision Transaction → Type 0
GoesOnBoth late id (Goes c) = GoesOn late id c
GoesOnBoth late id (Records r c None) = GoesOn late id c
GoesOnBoth late id (Records r c (Some d)) = GoesOn late id c × GoesOn late id d

-- So goes whatever moves a transaction; and so, over each step, one that has asked has asked still, or is forgotten.
pub record AskingGoesOn : Type 0 where
  pub moves : (b : Book) (e : Event) (now : ℕ) (id : Numbers) (t : Transaction) (d : Decision Transaction) → IsReady b → AreShaped b → transaction_at b id ≡ Some t
      → MovesTransaction b e now t d → GoesOnBoth (has_asked t.phase) t.id (with_answer (moment_of b now) t d)
  pub steps : (b : Book) (e : Event) (now : ℕ) (landed : Bool) → IsReady b → AreShaped b → (t : Transaction) → transaction_at b t.id ≡ Some t → has_asked t.phase ≡ true
      → HasAskedIfLeft (transaction_at (step b e now landed).book t.id)
