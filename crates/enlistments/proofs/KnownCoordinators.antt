-- What items know of whom they work with, in every world that is reached.
use Rattle.std.specs.Prelude.{ℕ, Some, ◌≡◌}
use Rattle.std.specs.List.{AllByRecursion}
use Rattle.at_model.specs.Book.{Book, Transaction}
use Rattle.at_model.specs.World.{Node, World, nth, run_of, Hosts, HaveOwnAddresses}
use Rattle.model_laws.specs.Agreement.{IsIn}
use Rattle.model_laws.specs.PhaseAnswers.{accepted_as}
use Rattle.model_laws.specs.ReachedWorlds.{Reached}
use Rattle.model_laws.proofs.DecisionLaws.{all_more}
use Rattle.model_laws.proofs.ReachedWorlds.{run_reached}
use Rattle.agreement.proofs.SeatedEntries.{one_of}
use Rattle.enlistments.specs.KnownCoordinators.{CoordinatorsAreKnown, IsKnowing}
use Rattle.enlistments.specs.Leads.{IsOfKind}
use Rattle.enlistments.proofs.Answers.{answers_name}
use Rattle.enlistments.proofs.NoticeSenders.{asks_its_own, initiators_ask}
use Rattle.enlistments.proofs.Books.{books_know, journals_know}
use Rattle.enlistments.proofs.Places.{IsPlaced, TransactionPlaced, transactions_placed}
use Rattle.enlistments.proofs.SeatVotes.{votes_at_seats}

seats_of_kind : (hosts : Hosts) (w : World) → HaveOwnAddresses hosts → Reached hosts w → (n : ℕ) (x : Node) (b : Book) (t : Transaction) → nth n w.nodes ≡ Some x → x.book ≡ Some b → IsIn t b.transactions
    → AllByRecursion (λ s. IsOfKind hosts s.participant s.kind) t.seats
seats_of_kind hosts w distinct reached n x b t found up i =
    all_more (λ s. IsPlaced hosts (accepted_as s)) (λ s. IsOfKind hosts s.participant s.kind) t.seats (λ s h. h.kind)
    (one_of (TransactionPlaced hosts) b.transactions t (transactions_placed hosts w distinct reached n x b found up) i).1

knowing : (hosts : Hosts) (w : World) → HaveOwnAddresses hosts → Reached hosts w → IsKnowing hosts w
knowing hosts w distinct reached = record {
  answers = answers_name hosts w distinct reached;
  books = books_know hosts w distinct reached;
  journals = journals_know hosts w distinct reached;
  asks = asks_its_own hosts w distinct reached;
  completes = initiators_ask hosts w distinct reached;
  votes = votes_at_seats hosts w distinct reached;
  seats = seats_of_kind hosts w distinct reached;
}

pub coordinators_are_known : CoordinatorsAreKnown
coordinators_are_known = record { reached = knowing; runs = λ hosts es small. knowing hosts (run_of hosts es) small (run_reached hosts es) }
