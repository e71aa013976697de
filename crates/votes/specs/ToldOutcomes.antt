-- What stands behind the outcomes that are told, and behind a transaction that is gone.
use Rattle.std.specs.Prelude.{ℕ, Some, ◌≡◌, ◌⊎◌}
use Rattle.std.specs.List.{AllByRecursion}
use Rattle.at_base.specs.Numbers.{Numbers}
use Rattle.at_base.specs.declared.epr.Epr.{Epr}
use Rattle.at_base.specs.declared.notice.Kind.{Kind}
use Rattle.at_base.specs.declared.notice.Kind.TheVariants as kinds
use Rattle.at_base.specs.declared.notice.Notice.TheVariants as notices
use Rattle.at_base.specs.declared.message.Message.TheVariants as messages
use Rattle.at_base.specs.declared.target.Target.TheVariants as targets
use Rattle.at_base.specs.declared.outs.Post.{Post}
use Rattle.at_model.specs.Book.{Transaction}
use Rattle.at_model.specs.Step.{transaction_at}
use Rattle.at_model.specs.World.{Node, Who, World, nth, Hosts}
use Rattle.model_laws.specs.Agreement.{HasAborted, HasCommitted, HasPosted}
use Rattle.agreement.specs.Lives.{book_of}
use Rattle.enlistments.specs.Leads.{LeadsTo}
use Rattle.votes.specs.NamedParticipants.{HasSeat}
use Rattle.votes.specs.DurableVotes.{HasVoted}

-- a transaction that accepted this participant, as one of this kind, has committed
pub record IsUnderCommitted (w : World) (x : Who) (kind : Kind) : Type 0 where
  pub transaction : Who
  pub number : ℕ
  pub seat : HasSeat w transaction number kind x
  pub committed : HasCommitted w transaction

-- a transaction that accepted this durable participant has aborted
pub record IsUnderAborted (w : World) (x : Who) : Type 0 where
  pub transaction : Who
  pub number : ℕ
  pub seat : HasSeat w transaction number kinds.Durable x
  pub aborted : HasAborted w transaction

-- A Commit goes to a participant that has voted Prepared, and whose transaction has committed
-- (WS-AtomicTransaction 1.2, section 3.3.3).
abbrev pub CommitIsBacked : Hosts → World → Post → Type 0
CommitIsBacked hosts w p =
    (to : Epr) (m : ℕ) (i : Numbers) (kind : Kind) → p.message ≡ messages.Notice notices.Commit → p.to ≡ Some to → LeadsTo hosts to m (targets.Participant i kind)
    → HasPosted w (record { node = m; id = i }) kind notices.Prepared × IsUnderCommitted w (record { node = m; id = i }) kind

abbrev pub CommitsAreBacked : Hosts → World → Type 0
CommitsAreBacked hosts w = AllByRecursion (λ p. CommitIsBacked hosts w p.content) w.posted

-- A Rollback goes to a durable participant whose transaction has aborted, or that has committed already.
abbrev pub RollbackIsBacked : Hosts → World → Post → Type 0
RollbackIsBacked hosts w p =
    (to : Epr) (m : ℕ) (i : Numbers) → p.message ≡ messages.Notice notices.Rollback → p.to ≡ Some to → LeadsTo hosts to m (targets.Participant i kinds.Durable)
    → HasCommitted w (record { node = m; id = i }) ⊎ IsUnderAborted w (record { node = m; id = i })

abbrev pub RollbacksAreBacked : Hosts → World → Type 0
RollbacksAreBacked hosts w = AllByRecursion (λ p. RollbackIsBacked hosts w p.content) w.posted

-- a durable participant of this seat has committed
pub record HasCommittedAt (w : World) (t : Who) (number : ℕ) : Type 0 where
  pub participant : Who
  pub seat : HasSeat w t number kinds.Durable participant
  pub committed : HasCommitted w participant

-- A Committed that goes to a durable seat comes when the seat's participant has committed.
abbrev pub CommittedIsBacked : Hosts → World → Post → Type 0
CommittedIsBacked hosts w p =
    (to : Epr) (n : ℕ) (j : Numbers) (number : ℕ) → p.message ≡ messages.Notice notices.Committed → p.to ≡ Some to
    → LeadsTo hosts to n (targets.Coordinator j (record { number = number; kind = kinds.Durable })) → HasCommittedAt w (record { node = n; id = j }) number

abbrev pub CommittedsAreBacked : Hosts → World → Type 0
CommittedsAreBacked hosts w = AllByRecursion (λ p. CommittedIsBacked hosts w p.content) w.posted

-- Behind its vote Prepared a participant aborts only under a transaction that has aborted.
abbrev pub AbortsWereTold : World → Type 0
AbortsWereTold w = (x : Who) → HasVoted w x → HasAborted w x → IsUnderAborted w x

-- the transaction stands in its node's book, or in what its node's records stand for
pub record IsHeld (w : World) (t : Who) : Type 0 where
  pub node : Node
  pub found : nth t.node w.nodes ≡ Some node
  pub transaction : Transaction
  pub stands : transaction_at (book_of node) t.id ≡ Some transaction

-- A transaction that is gone has aborted, or each of its durable participants has voted ReadOnly or has committed.
abbrev pub GoneIsOver : World → Type 0
GoneIsOver w =
    (t x : Who) (number : ℕ) → HasSeat w t number kinds.Durable x
    → IsHeld w t ⊎ (HasAborted w t ⊎ (HasPosted w x kinds.Durable notices.ReadOnly ⊎ HasCommitted w x))
