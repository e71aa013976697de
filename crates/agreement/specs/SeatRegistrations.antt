-- Whom a transaction accepted: its seats are its registrations (WS-Coordination 1.2, section 3.2).
use Rattle.std.specs.Prelude.{ℕ, List, Some, true, map, ◌≡◌}
use Rattle.std.specs.List.{AllByRecursion}
use Rattle.at_base.specs.Numbers.{Numbers}
use Rattle.at_base.specs.declared.notice.Kind.TheVariants as kinds
use Rattle.at_base.specs.declared.record.Record.{Record}
use Rattle.at_base.specs.declared.record.Record.TheVariants as records
use Rattle.at_base.specs.declared.record.Seated.{Seated}
use Rattle.at_base.specs.declared.target.Seat.{Seat}
use Rattle.at_model.specs.Book.{Book, Transaction}
use Rattle.at_model.specs.Due.{may_expire}
use Rattle.at_model.specs.World.{Accepted, Node, World, WorldEvent, accepted_seat, nth, run_of, who_of, Hosts, HaveOwnAddresses}
use Rattle.model_laws.specs.Agreement.{IsIn}
use Rattle.model_laws.specs.Registrations.{IsEnlisted}
use Rattle.model_laws.specs.ReachedWorlds.{Reached}
use Rattle.agreement.specs.Registers.{HasDrawn}

-- a durable participant that a record names, as it was accepted
abbrev pub accepted_named : ℕ → List Node → Numbers → Seated → Accepted
accepted_named n nodes id s = record {
  transaction = record { node = n; id = id };
  seat = Some (record { number = s.number; kind = kinds.Durable });
  participant = who_of nodes s.endpoint;
}

-- a vote and a decision name registrations that were accepted
abbrev pub NamesAccepted : World → ℕ → Record → Type 0
NamesAccepted w n (records.Voted id superior seats) = AllByRecursion (λ s. IsIn (accepted_named n w.nodes id s) w.accepted) seats
NamesAccepted w n (records.Decided id seats) = AllByRecursion (λ s. IsIn (accepted_named n w.nodes id s) w.accepted) seats
NamesAccepted w n other = Unit {0}

-- each registration of the transaction, but its initiator's, has its seat
abbrev pub SeatsEach : World → ℕ → Transaction → Type 0
SeatsEach w n t =
    (a : Accepted) (s : Seat) → IsIn a w.accepted → a.transaction ≡ record { node = n; id = t.id } → a.seat ≡ Some s → IsIn a (map (accepted_seat n w.nodes t.id) t.seats)

pub record IsSeated (w : World) : Type 0 where
  -- a transaction gives a seat's number to one registration
  pub one_each : (a c : Accepted) (s r : Seat) → IsIn a w.accepted → IsIn c w.accepted → a.transaction ≡ c.transaction → a.seat ≡ Some s → c.seat ≡ Some r → s.number ≡ r.number → a ≡ c
  -- while it is undecided it has a seat for each
  pub complete : (n : ℕ) (x : Node) (b : Book) (t : Transaction) → nth n w.nodes ≡ Some x → x.book ≡ Some b → IsIn t b.transactions → may_expire t.phase ≡ true → SeatsEach w n t
  -- each seat, and each initiator, is a registration that was accepted
  pub enlisted : (n : ℕ) (x : Node) (b : Book) → nth n w.nodes ≡ Some x → x.book ≡ Some b → AllByRecursion (IsEnlisted w n) b.transactions
  -- and so is each durable participant that a record names
  pub named : (n : ℕ) (x : Node) → nth n w.nodes ≡ Some x → AllByRecursion (NamesAccepted w n) x.journal
  -- each is of an id that its node drew, so what is made anew has none
  pub drawn : (a : Accepted) (x : Node) → IsIn a w.accepted → nth a.transaction.node w.nodes ≡ Some x → HasDrawn x.journal x.book a.transaction.id

-- So it is in every world that is reached, and in every run.
pub record SeatsAreRegistered : Type 0 where
  pub reached : (hosts : Hosts) (w : World) → HaveOwnAddresses hosts → Reached hosts w → IsSeated w
  pub runs : (hosts : Hosts) (es : List WorldEvent) → HaveOwnAddresses hosts → IsSeated (run_of hosts es)
