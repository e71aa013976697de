-- What a message says that comes to a seat: its participant posted it.
use Rattle.std.specs.Prelude.{ℕ, [], ◌∷◌, Some, Bool, ◌≡◌}
use Rattle.std.specs.List.{AllByRecursion}
use Rattle.std.proofs.Common.{inl, subst, ap, ◌∙◌}
use Rattle.at_base.specs.declared.notice.Kind.TheVariants as kinds
use Rattle.at_base.specs.declared.notice.Notice.TheVariants as notices
use Rattle.at_base.specs.declared.target.Target.TheVariants as targets
use Rattle.at_base.specs.declared.event.Event.{Event}
use Rattle.at_base.specs.declared.outs.Ending.TheVariants as endings
use Rattle.at_model.specs.Book.{Book, Enlistment, Transaction, transaction_id}
use Rattle.at_model.specs.Seats.{ending}
use Rattle.at_model.specs.Step.{step, transaction_at}
use Rattle.at_model.specs.World.{Node, Who, World, Hosts}
use Rattle.model_laws.specs.Agreement.{HasCommitted, IsIn}
use Rattle.model_laws.specs.Growth.{Grows}
use Rattle.model_laws.specs.ReachedWorlds.{counts}
use Rattle.model_laws.proofs.DecisionLaws.{all_find}
use Rattle.model_laws.proofs.Growth.{grows_counts}
use Rattle.agreement.specs.Deeds.{ParticipantSaid}
use Rattle.agreement.specs.FinishedTransactions.{IsFinished}
use Rattle.agreement.specs.Lives.{standing}
use Rattle.agreement.proofs.SeatedEntries.{one_of}
use Rattle.enlistments.specs.Leads.{LeadsTo}
use Rattle.enlistments.proofs.Arrivals.{HasCome}
use Rattle.votes.specs.NamedParticipants.{HasSeat}
use Rattle.votes.specs.ToldOutcomes.{CommittedIsBacked, HasCommittedAt}
use Rattle.votes.specs.VotesAndOutcomes.{IsOutcome}
use Rattle.votes.specs.SeatStates.{TransactionTells, who_named}
use Rattle.votes.proofs.AbortVotes.{aborted_ends}
use Rattle.votes.proofs.Growth.{committed_on, posted_on, tells_on}
use Rattle.votes.proofs.StepItems.{came_by, happens_now, has_seat}
use Rattle.votes.proofs.Premises.{StepPremises}
use Rattle.votes.proofs.SeatMoves.{Hears}
use Rattle.votes.proofs.SeatVotes.{same_one, vote_at}

-- a participant's message at its seat
committed_said : (hosts : Hosts) (u : World) (n : ℕ) (x : Node) (b : Book) (e : Event) → StepPremises hosts u n x b e → IsOutcome hosts u → (t : Transaction) → transaction_at b t.id ≡ Some t
    → (s : Enlistment) (y : Who) → IsIn s t.seats → who_named hosts s.participant ≡ Some y → s.kind ≡ kinds.Durable → ParticipantSaid notices.Committed e t s → HasCommitted u y
committed_said hosts u n x b e p j t found s y i named durable said =
    subst (HasCommitted u)
    (same_one u (record { node = n; id = t.id }) (record { number = s.number; kind = kinds.Durable }) c.participant y p.world.laws.seated.one_each c.seat
    (subst (λ k. HasSeat u (record { node = n; id = t.id }) s.number k y) durable (has_seat hosts u n x b e p t s y found i named)))
    c.committed
  where
    w : HasCome hosts u n said.message
    w = came_by hosts u n x b e p said.message said.came

    c : HasCommittedAt u (record { node = n; id = t.id }) s.number
    c =
        one_of (λ q. CommittedIsBacked hosts u q.content) u.posted w.posted j.committeds w.stands w.to n t.id s.number (w.message ∙ said.says) w.sent
        (subst (LeadsTo hosts w.to n) (said.target ∙ ap (λ k. targets.Coordinator t.id (record { number = s.number; kind = k })) durable) w.leads)

-- what its seats said before
pub told_before : (hosts : Hosts) (u : World) (n : ℕ) (x : Node) (b : Book) (e : Event) → StepPremises hosts u n x b e → IsOutcome hosts u → AllByRecursion (TransactionTells hosts u n) b.transactions
told_before hosts u n x b e p j =
    subst (λ o. AllByRecursion (TransactionTells hosts u n) (standing x.base x.journal o).transactions) p.up (j.says n x p.found)

-- in a step that aborts for another reason, or not at all
pub hears_before : (hosts : Hosts) (u : World) (n : ℕ) (x : Node) (b : Book) (e : Event) (now : ℕ) (landed : Bool) → StepPremises hosts u n x b e → IsOutcome hosts u → (t : Transaction)
    → transaction_at b t.id ≡ Some t → ((step b e now landed).effects ≡ ending t endings.Aborted ∷ [] → ⊥) → Hears hosts u (record { node = n; id = t.id }) e t
hears_before hosts u n x b e now landed p j t found quiet = record {
  tells = all_find (TransactionTells hosts u n) transaction_id t.id b.transactions t (told_before hosts u n x b e p j) found;
  voted = λ s y k i named votes said. vote_at hosts u n x b e p k votes t s y found i named said;
  committed = λ s y i named durable state said. committed_said hosts u n x b e p j t found s y i named durable said;
  aborted = λ s i asked said.
      absurd (quiet (aborted_ends b e now landed t s found (all_find IsFinished transaction_id t.id b.transactions t p.ready.finished found) i asked said));
}

-- in the world behind the step
pub hears_behind : (hosts : Hosts) (u : World) (n : ℕ) (x : Node) (b : Book) (e : Event) (now : ℕ) (landed : Bool) → StepPremises hosts u n x b e → IsOutcome hosts u → (t : Transaction)
    → transaction_at b t.id ≡ Some t → Hears hosts (counts u n x b e now landed) (record { node = n; id = t.id }) e t
hears_behind hosts u n x b e now landed p j t found = record {
  tells = tells_on hosts u (counts u n x b e now landed) g n t (all_find (TransactionTells hosts u n) transaction_id t.id b.transactions t (told_before hosts u n x b e p j) found);
  voted = λ s y k i named votes said. posted_on u (counts u n x b e now landed) g y s.kind k (vote_at hosts u n x b e p k votes t s y found i named said);
  committed = λ s y i named durable state said. committed_on u (counts u n x b e now landed) g y (committed_said hosts u n x b e p j t found s y i named durable said);
  aborted = λ s i asked said.
      inl (happens_now u n x b e now landed t endings.Aborted
      (aborted_ends b e now landed t s found (all_find IsFinished transaction_id t.id b.transactions t p.ready.finished found) i asked said));
}
  where
    g : Grows u (counts u n x b e now landed)
    g = grows_counts u n x b e now landed p.found
