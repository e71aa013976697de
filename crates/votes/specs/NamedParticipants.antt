-- Whom a vote or a decision names, and whom a transaction keeps behind it.
use Rattle.std.specs.Prelude.{ℕ, List, Some, map, ◌≡◌, ◌⊎◌}
use Rattle.std.specs.List.{AllByRecursion}
use Rattle.at_base.specs.declared.notice.Kind.{Kind}
use Rattle.at_base.specs.declared.notice.Kind.TheVariants as kinds
use Rattle.at_base.specs.declared.notice.Notice.TheVariants as notices
use Rattle.at_base.specs.declared.record.Record.{Record}
use Rattle.at_base.specs.declared.record.Record.TheVariants as records
use Rattle.at_base.specs.declared.record.Seated.{Seated}
use Rattle.at_model.specs.Book.{Phase, Transaction}
use Rattle.at_model.specs.World.{Accepted, Node, Who, World, accepted_seat, new_nodes, nth, Hosts}
use Rattle.model_laws.specs.Agreement.{HasPosted, IsAccepted, IsIn}
use Rattle.agreement.specs.Lives.{book_of}
use Rattle.agreement.specs.SeatRegistrations.{accepted_named}
use Rattle.votes.specs.SeatStates.{who_named}

-- a registration at a seat
abbrev pub registration : Who → ℕ → Kind → Who → Accepted
registration t number kind x = record { transaction = t; seat = Some (record { number = number; kind = kind }); participant = Some x }

-- the transaction accepted this item at a seat of this number and kind
abbrev pub HasSeat : World → Who → ℕ → Kind → Who → Type 0
HasSeat w t number kind x = IsAccepted w t (Some (record { number = number; kind = kind })) x

-- A vote or a decision names durable participants that have voted Prepared; and every participant that the transaction ever
-- accepted has answered: a volatile one with Prepared or ReadOnly, a durable one with ReadOnly, or with Prepared and is named
-- (WS-AtomicTransaction 1.2, section 3.3.1).
pub record IsBehindVotes (hosts : Hosts) (w : World) (t : Who) (seats : List Seated) : Type 0 where
  pub named : AllByRecursion (λ s. (x : Who) → who_named hosts s.endpoint ≡ Some x → HasPosted w x kinds.Durable notices.Prepared) seats
  pub volatile : (number : ℕ) (x : Who) → HasSeat w t number kinds.Volatile x → HasPosted w x kinds.Volatile notices.Prepared ⊎ HasPosted w x kinds.Volatile notices.ReadOnly
  pub durable : (number : ℕ) (x : Who) → HasSeat w t number kinds.Durable x
      → HasPosted w x kinds.Durable notices.ReadOnly
      ⊎ (HasPosted w x kinds.Durable notices.Prepared × IsIn (registration t number kinds.Durable x) (map (accepted_named t.node (new_nodes hosts.base_of hosts.count 1) t.id) seats))

abbrev pub RecordAnswers : Hosts → World → ℕ → Record → Type 0
RecordAnswers hosts w n (records.Voted id superior seats) = IsBehindVotes hosts w (record { node = n; id = id }) seats
RecordAnswers hosts w n (records.Decided id seats) = IsBehindVotes hosts w (record { node = n; id = id }) seats
RecordAnswers hosts w n other = Unit {0}

abbrev pub RecordsAnswer : Hosts → World → Type 0
RecordsAnswer hosts w = (n : ℕ) (y : Node) → nth n w.nodes ≡ Some y → AllByRecursion (RecordAnswers hosts w n) y.journal

-- A transaction that has voted, or that commits, keeps a seat for each durable participant that didn't vote ReadOnly, also
-- over a crash.
abbrev pub HasItsDurable : Hosts → World → ℕ → Transaction → Type 0
HasItsDurable hosts w n t =
    (number : ℕ) (x : Who) → HasSeat w (record { node = n; id = t.id }) number kinds.Durable x
    → HasPosted w x kinds.Durable notices.ReadOnly
    ⊎ IsIn (registration (record { node = n; id = t.id }) number kinds.Durable x) (map (accepted_seat n (new_nodes hosts.base_of hosts.count 1) t.id) t.seats)

abbrev pub KeepsItsDurable : Hosts → World → ℕ → Transaction → Type 0
KeepsItsDurable hosts w n t = (t.phase ≡ Phase.Voted) ⊎ (t.phase ≡ Phase.Committing) → HasItsDurable hosts w n t

abbrev pub KeepsDurable : Hosts → World → Type 0
KeepsDurable hosts w = (n : ℕ) (y : Node) → nth n w.nodes ≡ Some y → AllByRecursion (KeepsItsDurable hosts w n) (book_of y).transactions
