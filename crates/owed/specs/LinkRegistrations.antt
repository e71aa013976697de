-- A link that registers waits for the answer to its Register.
use Rattle.std.specs.Prelude.{ℕ, List, Option, Some, None, true, ◌≡◌}
use Rattle.at_base.specs.declared.event.Arrived.{Arrived}
use Rattle.at_base.specs.declared.event.Event.{Event}
use Rattle.at_base.specs.declared.event.Event.TheVariants as events
use Rattle.at_base.specs.declared.notice.Kind.{Kind}
use Rattle.at_base.specs.declared.target.Target.TheVariants as targets
use Rattle.at_tables.specs.declared.cells.State.TheVariants as states
use Rattle.endpoints.specs.Addresses.{register_id}
use Rattle.at_model.specs.Arrivals.{relates_to}
use Rattle.at_model.specs.Book.{Book, Superior, Transaction}
use Rattle.at_model.specs.Seats.{link_of}
use Rattle.at_model.specs.Step.{step, transaction_at}
use Rattle.enlistments.specs.Moves.{IsReady}
use Rattle.owed.specs.Leaves.{AnswersRegister}
use Rattle.owed.specs.Shape.{AreShaped}
use Rattle.owed.specs.Links.{superior_left}

-- the Register of this link is answered by this event
pub record IsAnsweredOn (base : List ℕ) (e : Event) (t : Transaction) (kind : Kind) : Type 0 where
  pub message : Arrived
  pub came : e ≡ events.Arrived message
  pub target : message.target ≡ targets.Participant t.id kind
  pub relates : relates_to message.relates (register_id base (targets.Participant t.id kind)) ≡ true
  pub answers : AnswersRegister message.message

-- A link that registers registered before, under the same request, and its Register isn't answered by this event.
abbrev pub JoinsStill : List ℕ → Event → Transaction → Superior → Option Superior → Type 0
JoinsStill base e t s None = Unit {0}
JoinsStill base e t s (Some x) =
    (kind : Kind) → (link_of kind x).state ≡ states.Registering → (((link_of kind s).state ≡ states.Registering) × (x.request ≡ s.request)) × (IsAnsweredOn base e t kind → ⊥)

-- So it is over each step whose record lands.
pub record LinksJoin : Type 0 where
  pub joins : (b : Book) (e : Event) (now : ℕ) → IsReady b → AreShaped b → (t : Transaction) (s : Superior) → transaction_at b t.id ≡ Some t → t.superior ≡ Some s
      → JoinsStill b.base e t s (superior_left (transaction_at (step b e now true).book t.id))
