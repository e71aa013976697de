-- A Rollback goes to a durable participant whose transaction has aborted, or that has committed already.
use Rattle.std.specs.Prelude.{ℕ, List, Some, None, Bool, ◌≡◌, ◌⊎◌, refl}
use Rattle.std.proofs.Common.{inl, inr, sym, subst, ap, ◌∙◌}
use Rattle.at_base.specs.declared.event.Event.{Event}
use Rattle.at_base.specs.declared.event.Moment.{Moment}
use Rattle.at_base.specs.declared.notice.Kind.{Kind}
use Rattle.at_base.specs.declared.notice.Kind.TheVariants as kinds
use Rattle.at_base.specs.declared.notice.Notice.{Notice}
use Rattle.at_base.specs.declared.notice.Notice.TheVariants as notices
use Rattle.at_base.specs.declared.message.Message.TheVariants as messages
use Rattle.at_base.specs.declared.outs.Post.{Post}
use Rattle.at_base.specs.declared.target.Target.TheVariants as targets
use Rattle.at_tables.specs.declared.cells.State.TheVariants as states
use Rattle.at_model.specs.Book.{Book, Enlistment, Leaf, Transaction}
use Rattle.at_model.specs.Moves.{Change}
use Rattle.at_model.specs.Step.{find_seat, moment_of, plan, step, transaction_at}
use Rattle.at_model.specs.World.{Node, Who, World, Hosts}
use Rattle.model_laws.specs.Agreement.{HasAborted, HasCommitted, HasPosted, IsIn}
use Rattle.model_laws.specs.Growth.{Grows}
use Rattle.model_laws.specs.ReachedWorlds.{counts}
use Rattle.model_laws.specs.Shapes.{IfFound}
use Rattle.agreement.specs.Deeds.{How, IsAbort, ParticipantSaid, WhyInitiator, WhySuperior}
use Rattle.agreement.specs.StepDeeds.{standing}
use Rattle.agreement.specs.LeafDeeds.{LeafSays, aborted, committed, prepared, read_only, tells_nothing}
use Rattle.enlistments.specs.Leads.{LeadsTo}
use Rattle.enlistments.specs.Moves.{TransactionDid}
use Rattle.enlistments.specs.NoticeOrigins.{AnswersAsNone, Tells, activity_says, as_committed, as_no_participant, as_no_seat, from_left_link, leaf_says, left_link_aborted, says_aborted, to_asking, to_initiator, to_late_seat, to_left_seat, to_seat, to_superior}
use Rattle.votes.specs.NamedParticipants.{HasSeat}
use Rattle.votes.specs.ToldOutcomes.{IsUnderAborted, RollbackIsBacked}
use Rattle.votes.specs.VotesAndOutcomes.{IsOutcome}
use Rattle.votes.specs.SeatStates.{HasLeft, SeatSays, who_named}
use Rattle.votes.proofs.SingleVotes.{not_both_votes}
use Rattle.votes.proofs.Growth.{aborted_on, committed_on, seat_on, under_aborted_on}
use Rattle.votes.proofs.StepItems.{aborts_now, grown, has_seat, leads_who, seat_tells}
use Rattle.votes.proofs.Notices.{SeatsAre, no_participant, other_notice, same_end, same_notice, says_notice}
use Rattle.votes.proofs.UnseatedVotes.{unseated}
use Rattle.votes.proofs.Premises.{StepPremises}
use Rattle.votes.proofs.SeatVotes.{vote_at}

-- who posts no Rollback
no_rollback_up : (t : Transaction) (how : How) (at : List Enlistment) (kind : Kind) → WhySuperior t how at kind notices.Rollback → ⊥
no_rollback_up t how at kinds.Durable h = h
no_rollback_up t how at kinds.Volatile h = h

no_rollback_told : (how : How) → WhyInitiator how notices.Rollback → ⊥
no_rollback_told How.Decides h = h
no_rollback_told How.DecidesAlone h = h
no_rollback_told other h = h

no_rollback_none : (asked : Notice) → AnswersAsNone asked notices.Rollback → ⊥
no_rollback_none notices.Prepare h = absurd cc
no_rollback_none notices.Commit h = absurd cc
no_rollback_none notices.Rollback h = absurd cc
no_rollback_none other h = h

no_leaf_rollback : (m : Moment) (e : Event) (l : Leaf) (c : Change Leaf) (q : Post) → LeafSays m e l c q → q.message ≡ messages.Notice notices.Rollback → ⊥
no_leaf_rollback m e l c q (prepared to left known is goes on) says = let f : notices.Prepared ≡ notices.Rollback = same_notice q.message notices.Prepared notices.Rollback (other_notice q notices.Prepared _ is refl) says in cc
no_leaf_rollback m e l c q (read_only to known is was gone none) says = let f : notices.ReadOnly ≡ notices.Rollback = same_notice q.message notices.ReadOnly notices.Rollback (other_notice q notices.ReadOnly _ is refl) says in cc
no_leaf_rollback m e l c q (committed to known is gone ended) says = let f : notices.Committed ≡ notices.Rollback = same_notice q.message notices.Committed notices.Rollback (other_notice q notices.Committed _ is refl) says in cc
no_leaf_rollback m e l c q (aborted to known is gone ended) says = let f : notices.Aborted ≡ notices.Rollback = same_notice q.message notices.Aborted notices.Rollback (other_notice q notices.Aborted _ is refl) says in cc
no_leaf_rollback m e l c q (tells_nothing none) says = says_notice q.message notices.Rollback none says

-- a seat that is told to roll back: its transaction has aborted
pub seat_aborts : (hosts : Hosts) (u : World) (n : ℕ) (x : Node) (b : Book) (e : Event) (now : ℕ) (landed : Bool) → StepPremises hosts u n x b e → IsOutcome hosts u
    → (d : TransactionDid b e now (standing landed (plan b e now).entry) (step b e now landed)) (s : Enlistment) (y : Who) → IsIn s d.old.seats → who_named hosts s.participant ≡ Some y
    → (s.state ≡ states.Aborting) ⊎ IsAbort d.deed.how → HasAborted (counts u n x b e now landed) (record { node = n; id = d.old.id })
seat_aborts hosts u n x b e now landed p j d s y i who (inl is) =
    aborted_on u (counts u n x b e now landed) (grown hosts u n x b e now landed p) (record { node = n; id = d.old.id })
    (subst (λ state. SeatSays u (record { node = n; id = d.old.id }) y s.kind state) is (seat_tells hosts u n x b e p j d.old s d.found i y who))
seat_aborts hosts u n x b e now landed p j d s y i who (inr aborts) = inl (aborts_now u n x b e now landed (standing landed (plan b e now).entry) d aborts)

rollback_to : (hosts : Hosts) (u : World) (n : ℕ) (x : Node) (b : Book) (e : Event) (now : ℕ) (landed : Bool) → StepPremises hosts u n x b e → IsOutcome hosts u
    → (d : TransactionDid b e now (standing landed (plan b e now).entry) (step b e now landed)) (s : Enlistment) (y : Who) → IsIn s d.old.seats → kinds.Durable ≡ s.kind
    → who_named hosts s.participant ≡ Some y → (s.state ≡ states.Aborting) ⊎ IsAbort d.deed.how → IsUnderAborted (counts u n x b e now landed) y
rollback_to hosts u n x b e now landed p j d s y i durable who why = record {
  transaction = record { node = n; id = d.old.id };
  number = s.number;
  seat = seat_on u (counts u n x b e now landed) (grown hosts u n x b e now landed p) (record { node = n; id = d.old.id }) s.number kinds.Durable y
      (subst (λ c. HasSeat u (record { node = n; id = d.old.id }) s.number c y) (sym durable) (has_seat hosts u n x b e p d.old s y d.found i who));
  aborted = seat_aborts hosts u n x b e now landed p j d s y i who why;
}

-- a seat in None, whose participant says that it is Prepared
left_seat : (hosts : Hosts) (u : World) (n : ℕ) (x : Node) (b : Book) (e : Event) → StepPremises hosts u n x b e → IsOutcome hosts u → (t : Transaction) (s : Enlistment) (y : Who)
    → transaction_at b t.id ≡ Some t → IsIn s t.seats → s.kind ≡ kinds.Durable → s.state ≡ states.None → ParticipantSaid notices.Prepared e t s → who_named hosts s.participant ≡ Some y
    → HasCommitted u y ⊎ IsUnderAborted u y
left_seat hosts u n x b e p j t s y found i durable left said who =
    by_says (subst (λ state. SeatSays u (record { node = n; id = t.id }) y kinds.Durable state) left
    (subst (λ kind. SeatSays u (record { node = n; id = t.id }) y kind s.state) durable (seat_tells hosts u n x b e p j t s found i y who)))
  where
    by_says : HasAborted u (record { node = n; id = t.id }) ⊎ (HasPosted u y kinds.Durable notices.ReadOnly ⊎ HasLeft u (record { node = n; id = t.id }) y kinds.Durable)
        → HasCommitted u y ⊎ IsUnderAborted u y
    by_says (inl a) = inr (record {
      transaction = record { node = n; id = t.id };
      number = s.number;
      seat = subst (λ kind. HasSeat u (record { node = n; id = t.id }) s.number kind y) durable (has_seat hosts u n x b e p t s y found i who);
      aborted = a;
    })
    by_says (inr (inl r)) =
        absurd (not_both_votes hosts u p.world y
        (subst (λ kind. HasPosted u y kind notices.Prepared) durable (vote_at hosts u n x b e p notices.Prepared (inl refl) t s y found i who said)) r)
    by_says (inr (inr (c, k))) = inl c

either_on : (u w : World) → Grows u w → (y : Who) → HasCommitted u y ⊎ IsUnderAborted u y → HasCommitted w y ⊎ IsUnderAborted w y
either_on u w g y (inl c) = inl (committed_on u w g y c)
either_on u w g y (inr a) = inr (under_aborted_on u w g y a)

-- each Rollback of a step
pub rollback_told : (hosts : Hosts) (u : World) (n : ℕ) (x : Node) (b : Book) (e : Event) (now : ℕ) (landed : Bool) → StepPremises hosts u n x b e → IsOutcome hosts u → SeatsAre hosts b → (q : Post)
    → Tells b e now (standing landed (plan b e now).entry) (step b e now landed) notices.Rollback q → RollbackIsBacked hosts (counts u n x b e now landed) q
rollback_told hosts u n x b e now landed p j are q (to_seat d s i why is) to m k says sent leads =
    let there : LeadsTo hosts s.participant m (targets.Participant k kinds.Durable) = subst (λ f. LeadsTo hosts f m (targets.Participant k kinds.Durable)) (same_end q.to to s.participant sent is.sent) leads in
    inr (rollback_to hosts u n x b e now landed p j d s (record { node = m; id = k }) i ((are d.old s d.found i).kind m k kinds.Durable there)
    (leads_who hosts s.participant m (targets.Participant k kinds.Durable) there) why)
rollback_told hosts u n x b e now landed p j are q (to_left_seat d s i durable left said is from) to m k says sent leads =
    let there : LeadsTo hosts s.participant m (targets.Participant k kinds.Durable) = subst (λ f. LeadsTo hosts f m (targets.Participant k kinds.Durable)) (same_end q.to to s.participant sent from.sent) leads in
    either_on u (counts u n x b e now landed) (grown hosts u n x b e now landed p) (record { node = m; id = k })
    (left_seat hosts u n x b e p j d.old s (record { node = m; id = k }) d.found i durable left said (leads_who hosts s.participant m (targets.Participant k kinds.Durable) there))
rollback_told hosts u n x b e now landed p j are q (to_superior d c up known why is) to m k says sent leads = absurd (no_rollback_up d.old d.deed.how d.deed.at c why)
rollback_told hosts u n x b e now landed p j are q (says_aborted d c up under aborts is known from) to m k says sent leads = absurd cc
rollback_told hosts u n x b e now landed p j are q (from_left_link d c s up under left said is known from) to m k says sent leads = absurd cc
rollback_told hosts u n x b e now landed p j are q (left_link_aborted d c up under is known from) to m k says sent leads = absurd cc
rollback_told hosts u n x b e now landed p j are q (to_initiator d up known why from) to m k says sent leads = absurd (no_rollback_told d.deed.how why)
rollback_told hosts u n x b e now landed p j are q (to_asking d c up there done asked is from) to m k says sent leads = absurd cc
rollback_told hosts u n x b e now landed p j are q (leaf_says d h) to m k says sent leads = absurd (no_leaf_rollback (moment_of b now) e d.old d.change q h says)
rollback_told hosts u n x b e now landed p j are q (activity_says d h) to m k says sent leads =
    absurd (no_participant hosts u n x b e p (moment_of b now) d.old d.change q d.found h notices.Rollback to m k kinds.Durable says sent leads)
rollback_told hosts u n x b e now landed p j are q (to_late_seat d c late is i same) to m k says sent leads = absurd cc
rollback_told hosts u n x b e now landed p j are q (as_no_seat d id s up target durable unknown came from is same) to m k says sent leads =
    either_on u (counts u n x b e now landed) (grown hosts u n x b e now landed p) (record { node = m; id = k })
    (unseated hosts u n x b e p j d.arrived d.came id s.number (target ∙ (λ i. targets.Coordinator id (record { number = s.number; kind = durable i })))
    (subst (λ kind. IfFound (λ t. find_seat s.number kind t.seats ≡ None) (transaction_at b id)) durable unknown) came up from m k
    (subst (λ f. LeadsTo hosts f m (targets.Participant k kinds.Durable)) (same_end q.to to up sent (ap (λ (r : Post). r.to) same)) leads))
rollback_told hosts u n x b e now landed p j are q (as_no_participant d id c up asked target unknown came why from same) to m k says sent leads = absurd (no_rollback_none asked why)
rollback_told hosts u n x b e now landed p j are q (as_committed d id up target kept came from is same) to m k says sent leads = absurd cc
