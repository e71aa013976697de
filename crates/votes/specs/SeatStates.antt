-- What the state of a seat says of its participant, and of the transaction.
use Rattle.std.specs.Prelude.{ℕ, Option, Some, ◌≡◌, ◌⊎◌}
use Rattle.std.specs.List.{AllByRecursion}
use Rattle.at_base.specs.declared.epr.Epr.{Epr}
use Rattle.at_base.specs.declared.notice.Kind.{Kind}
use Rattle.at_base.specs.declared.notice.Kind.TheVariants as kinds
use Rattle.at_base.specs.declared.notice.Notice.TheVariants as notices
use Rattle.at_tables.specs.declared.cells.State.{State}
use Rattle.at_tables.specs.declared.cells.State.TheVariants as states
use Rattle.at_model.specs.Book.{Enlistment, Transaction}
use Rattle.at_model.specs.World.{Node, Who, World, new_nodes, nth, who_of, Hosts}
use Rattle.model_laws.specs.Agreement.{HasAborted, HasCommitted, HasPosted}
use Rattle.agreement.specs.Lives.{book_of}

-- the item that an endpoint leads to, in a world of so many nodes
abbrev pub who_named : Hosts → Epr → Option Who
who_named hosts e = who_of (new_nodes hosts.base_of hosts.count 1) e

-- It was told to commit, and is done: a volatile one had voted Prepared, a durable one has committed.
abbrev pub HasLeft : World → Who → Who → Kind → Type 0
HasLeft w t x kinds.Volatile = HasPosted w x kinds.Volatile notices.Prepared
HasLeft w t x kinds.Durable = HasCommitted w x × HasCommitted w t

-- A Prepared seat is one whose participant has voted so; where it is told to commit, the transaction has committed; where it
-- is told to roll back, the transaction has aborted; and one that has left was rolled back, voted ReadOnly, or is done
-- (WS-AtomicTransaction 1.2, section 3.3).
abbrev pub SeatSays : World → Who → Who → Kind → State → Type 0
SeatSays w t x kind states.Active = Unit {0}
SeatSays w t x kind states.Preparing = Unit {0}
SeatSays w t x kind states.Prepared = HasPosted w x kind notices.Prepared
SeatSays w t x kind states.Committing = HasPosted w x kind notices.Prepared × HasCommitted w t
SeatSays w t x kind states.Aborting = HasAborted w t
SeatSays w t x kind states.None = HasAborted w t ⊎ (HasPosted w x kind notices.ReadOnly ⊎ HasLeft w t x kind)
SeatSays w t x kind other = ⊥

-- so each seat, of whomever its endpoint leads to
abbrev pub SeatTells : Hosts → World → Who → Enlistment → Type 0
SeatTells hosts w t s = (x : Who) → who_named hosts s.participant ≡ Some x → SeatSays w t x s.kind s.state

abbrev pub TransactionTells : Hosts → World → ℕ → Transaction → Type 0
TransactionTells hosts w n t = AllByRecursion (SeatTells hosts w (record { node = n; id = t.id })) t.seats

abbrev pub SeatsSay : Hosts → World → Type 0
SeatsSay hosts w = (n : ℕ) (y : Node) → nth n w.nodes ≡ Some y → AllByRecursion (TransactionTells hosts w n) (book_of y).transactions
