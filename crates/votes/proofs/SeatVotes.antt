-- What a participant's vote at its seat says: it is the vote of whom the seat's endpoint leads to.
use Rattle.std.specs.Prelude.{ℕ, Some, ◌≡◌, ◌⊎◌, refl}
use Rattle.std.proofs.Common.{inl, sym, subst, ap, ◌∙◌}
use Rattle.at_base.specs.declared.event.Event.{Event}
use Rattle.at_base.specs.declared.notice.Notice.{Notice}
use Rattle.at_base.specs.declared.notice.Notice.TheVariants as notices
use Rattle.at_base.specs.declared.target.Seat.{Seat}
use Rattle.at_tables.specs.declared.cells.State.TheVariants as states
use Rattle.at_model.specs.Book.{Book, Enlistment, Transaction}
use Rattle.at_model.specs.Step.{transaction_at}
use Rattle.at_model.specs.World.{Accepted, Node, Who, World, Hosts}
use Rattle.model_laws.specs.Agreement.{HasPosted, IsAccepted, IsIn}
use Rattle.agreement.specs.Deeds.{IsCounted, IsWhy, ParticipantSaid, has_said, is_asked, is_still}
use Rattle.agreement.proofs.SeatedEntries.{one_of}
use Rattle.enlistments.specs.KnownCoordinators.{IsVoteOf, VotesAtItsSeat}
use Rattle.enlistments.specs.Leads.{LeadsTo}
use Rattle.enlistments.proofs.Arrivals.{HasCome}
use Rattle.votes.specs.VotesAndOutcomes.{IsOutcome}
use Rattle.votes.specs.SeatStates.{SeatSays, who_named}
use Rattle.votes.proofs.StepItems.{came_by, has_seat, seat_tells}
use Rattle.votes.proofs.Premises.{StepPremises}

-- whom a seat was given to
pub same_one : (u : World) (t : Who) (s : Seat) (y z : Who) → ((a c : Accepted) (k r : Seat) → IsIn a u.accepted → IsIn c u.accepted → a.transaction ≡ c.transaction → a.seat ≡ Some k → c.seat ≡ Some r
    → k.number ≡ r.number → a ≡ c) → IsAccepted u t (Some s) y → IsAccepted u t (Some s) z → y ≡ z
same_one u t s y z each i k =
    let same : Some y ≡ Some z = ap (λ (a : Accepted). a.participant) (each _ _ s s i k refl refl refl refl) in cc

-- what a vote that comes was posted as
pub vote_of : (hosts : Hosts) (u : World) (n : ℕ) (x : Node) (b : Book) (e : Event) → (p : StepPremises hosts u n x b e) → (v : Notice) → (v ≡ notices.Prepared) ⊎ (v ≡ notices.ReadOnly)
    → (t : Transaction) (s : Enlistment) (h : ParticipantSaid v e t s) → (w : HasCome hosts u n h.message)
    → IsVoteOf hosts u w.posted n t.id (record { number = s.number; kind = s.kind })
vote_of hosts u n x b e p v is t s h w =
    one_of (VotesAtItsSeat hosts u) u.posted w.posted p.world.knowing.votes w.stands v w.to n t.id (record { number = s.number; kind = s.kind }) (w.message ∙ h.says) is w.sent
    (subst (LeadsTo hosts w.to n) h.target w.leads)

pub vote_at : (hosts : Hosts) (u : World) (n : ℕ) (x : Node) (b : Book) (e : Event) → StepPremises hosts u n x b e → (v : Notice) → (v ≡ notices.Prepared) ⊎ (v ≡ notices.ReadOnly)
    → (t : Transaction) (s : Enlistment) (y : Who) → transaction_at b t.id ≡ Some t → IsIn s t.seats → who_named hosts s.participant ≡ Some y → ParticipantSaid v e t s → HasPosted u y s.kind v
vote_at hosts u n x b e p v is t s y found i who h =
    let w : HasCome hosts u n h.message = came_by hosts u n x b e p h.message h.came in
    let k : IsVoteOf hosts u w.posted n t.id (record { number = s.number; kind = s.kind }) = vote_of hosts u n x b e p v is t s h w in
    subst (λ z. HasPosted u z s.kind v)
    (same_one u (record { node = n; id = t.id }) (record { number = s.number; kind = s.kind }) (record { node = w.posted.sender; id = k.item }) y p.world.laws.seated.one_each k.accepted
    (has_seat hosts u n x b e p t s y found i who))
    (w.posted, w.stands, refl, k.own, w.message ∙ h.says)

-- a seat that is Prepared: its participant has voted so, now or before
says_prepared : (hosts : Hosts) (u : World) (t y : Who) (s : Enlistment) → states.Prepared ≡ s.state → SeatSays u t y s.kind s.state → HasPosted u y s.kind notices.Prepared
says_prepared hosts u t y s is h = subst (λ state. SeatSays u t y s.kind state) (sym is) h

pub why_prepared : (hosts : Hosts) (u : World) (n : ℕ) (x : Node) (b : Book) (e : Event) → StepPremises hosts u n x b e → IsOutcome hosts u → (t : Transaction) (s : Enlistment) (y : Who)
    → transaction_at b t.id ≡ Some t → IsIn s t.seats → who_named hosts s.participant ≡ Some y → IsWhy e t s states.Prepared → HasPosted u y s.kind notices.Prepared
why_prepared hosts u n x b e p j t s y found i who (is_still is) =
    says_prepared hosts u (record { node = n; id = t.id }) y s is (seat_tells hosts u n x b e p j t s found i y who)
why_prepared hosts u n x b e p j t s y found i who (is_asked undecided before is) = absurd cc
why_prepared hosts u n x b e p j t s y found i who (has_said v said counted) = by_vote v said counted
  where
    by_vote : (v : Notice) → ParticipantSaid v e t s → IsCounted v s.state states.Prepared → HasPosted u y s.kind notices.Prepared
    by_vote notices.Prepared said (was, is) = vote_at hosts u n x b e p notices.Prepared (inl refl) t s y found i who said
    by_vote notices.ReadOnly said (may, is) = absurd cc
    by_vote notices.Aborted said (may, is) = absurd cc
    by_vote notices.Committed said (was, is) = absurd cc
    by_vote other said h = absurd h
