-- What a leaf, a participant that does work of its own, owes its coordinator.
use Rattle.std.specs.Prelude.{ℕ, List, Option, Some, None, true, ◌≡◌, ◌⊎◌}
use Rattle.at_base.specs.declared.epr.Epr.{Epr}
use Rattle.at_base.specs.declared.event.Arrived.{Arrived}
use Rattle.at_base.specs.declared.event.Event.{Event}
use Rattle.at_base.specs.declared.event.Event.TheVariants as events
use Rattle.at_base.specs.declared.message.Message.{Message}
use Rattle.at_base.specs.declared.message.Message.TheVariants as messages
use Rattle.at_base.specs.declared.notice.Notice.TheVariants as notices
use Rattle.at_base.specs.declared.outs.Post.{Post}
use Rattle.at_tables.specs.declared.cells.State.TheVariants as states
use Rattle.endpoints.specs.Addresses.{register_id}
use Rattle.at_model.specs.Arrivals.{relates_to}
use Rattle.at_model.specs.Book.{Book, Leaf}
use Rattle.at_model.specs.Leaves.{leaf_target}
use Rattle.at_model.specs.Posts.{notice_post, stored_or}
use Rattle.at_model.specs.Step.{leaf_at, step, transaction_at}
use Rattle.model_laws.specs.Agreement.{IsIn}
use Rattle.agreement.specs.LeafDeeds.{Notified}
use Rattle.enlistments.specs.Moves.{IsReady}
use Rattle.owed.specs.Seats.{Tells, posts_of}
use Rattle.owed.specs.Links.{TellsAnswer}

-- what answers a Register
abbrev pub AnswersRegister : Message → Type 0
AnswersRegister (messages.RegisterResponse c) = Unit {0}
AnswersRegister (messages.Fault name) = Unit {0}
AnswersRegister other = ⊥

-- the leaf's Register is answered by this event
pub record IsRegistered (base : List ℕ) (e : Event) (l : Leaf) : Type 0 where
  pub message : Arrived
  pub came : e ≡ events.Arrived message
  pub target : message.target ≡ leaf_target l
  pub relates : relates_to message.relates (register_id base (leaf_target l)) ≡ true
  pub answers : AnswersRegister message.message

-- One that has voted Prepared had voted, with the same coordinator, and no outcome came by this event; or it says so now.
abbrev pub KeepsLeafVote : List ℕ → Event → Leaf → List Post → Option Leaf → Type 0
KeepsLeafVote base e l ps None = Unit {0}
KeepsLeafVote base e l ps (Some x) =
    x.state ≡ states.PreparedSuccess
    → (((l.state ≡ states.PreparedSuccess) × (x.coordinator ≡ l.coordinator)) × ((Notified e l notices.Commit → ⊥) × (Notified e l notices.Rollback → ⊥)))
    ⊎ ((to : Epr) × (x.coordinator ≡ Some to) × IsIn (notice_post base (leaf_target l) to notices.Prepared) ps)

-- One that registers registered before, with the same request, and its Register isn't answered by this event.
abbrev pub RegistersStill : List ℕ → Event → Leaf → Option Leaf → Type 0
RegistersStill base e l None = Unit {0}
RegistersStill base e l (Some x) = x.state ≡ states.Registering → ((l.state ≡ states.Registering) × (x.request ≡ l.request)) × (IsRegistered base e l → ⊥)

-- A Prepare is answered once the leaf has registered, and a Commit behind its vote: to the coordinator, or to the message's
-- From where none is known.
abbrev pub LeafOwed : List ℕ → Event → Leaf → List Post → Option Leaf → Type 0
LeafOwed base e l ps o =
    ((h : Notified e l notices.Prepare) (to : Epr) → (l.state ≡ states.Registering → ⊥) → stored_or l.coordinator h.arrived.from ≡ Some to → TellsAnswer to ps)
    × (((h : Notified e l notices.Commit) (to : Epr) → l.state ≡ states.PreparedSuccess → stored_or l.coordinator h.arrived.from ≡ Some to → Tells (Some to) notices.Committed ps)
    × (KeepsLeafVote base e l ps o × RegistersStill base e l o))

-- So does each step whose record lands, of a leaf whose id no transaction has.
pub record StepsOweLeaves : Type 0 where
  pub leaves : (b : Book) (e : Event) (now : ℕ) → IsReady b → (l : Leaf) → leaf_at b l.id ≡ Some l → transaction_at b l.id ≡ None
      → LeafOwed b.base e l (posts_of (step b e now true).outs) (leaf_at (step b e now true).book l.id)
