-- A Commit goes to a participant that has voted Prepared, and whose transaction has committed.
use Rattle.std.specs.Prelude.{ℕ, List, Some, Bool, ◌≡◌, ◌⊎◌, refl}
use Rattle.std.proofs.Common.{inl, inr, sym, subst}
use Rattle.at_base.specs.Numbers.{Numbers}
use Rattle.at_base.specs.declared.event.Event.{Event}
use Rattle.at_base.specs.declared.event.Moment.{Moment}
use Rattle.at_base.specs.declared.notice.Kind.{Kind}
use Rattle.at_base.specs.declared.notice.Kind.TheVariants as kinds
use Rattle.at_base.specs.declared.notice.Notice.{Notice}
use Rattle.at_base.specs.declared.notice.Notice.TheVariants as notices
use Rattle.at_base.specs.declared.message.Message.TheVariants as messages
use Rattle.at_base.specs.declared.outs.Post.{Post}
use Rattle.at_base.specs.declared.target.Target.TheVariants as targets
use Rattle.at_tables.specs.declared.cells.State.TheVariants as states
use Rattle.at_model.specs.Book.{Book, Enlistment, Leaf, Transaction}
use Rattle.at_model.specs.Moves.{Change}
use Rattle.at_model.specs.Step.{moment_of, plan, step}
use Rattle.at_model.specs.World.{Node, Who, World, Hosts}
use Rattle.model_laws.specs.Agreement.{HasCommitted, HasPosted, IsIn}
use Rattle.model_laws.specs.Growth.{Grows}
use Rattle.model_laws.specs.ReachedWorlds.{counts}
use Rattle.agreement.specs.Deeds.{How, IsCommit, IsWhy, WhyInitiator, WhySuperior}
use Rattle.agreement.specs.StepDeeds.{standing}
use Rattle.agreement.specs.LeafDeeds.{LeafSays, aborted, committed, prepared, read_only, tells_nothing}
use Rattle.enlistments.specs.Leads.{LeadsTo}
use Rattle.enlistments.specs.Moves.{TransactionDid}
use Rattle.enlistments.specs.NoticeOrigins.{AnswersAsNone, Tells, activity_says, as_committed, as_no_participant, as_no_seat, from_left_link, leaf_says, left_link_aborted, says_aborted, to_asking, to_initiator, to_late_seat, to_left_seat, to_seat, to_superior}
use Rattle.votes.specs.ToldOutcomes.{CommitIsBacked, IsUnderCommitted}
use Rattle.votes.specs.VotesAndOutcomes.{IsOutcome}
use Rattle.votes.specs.SeatStates.{SeatSays, who_named}
use Rattle.votes.proofs.Growth.{committed_on, posted_on, seat_on}
use Rattle.votes.proofs.StepItems.{commits_now, grown, has_seat, leads_who, seat_tells}
use Rattle.votes.proofs.Notices.{SeatsAre, no_participant, other_notice, same_end, same_notice, says_notice}
use Rattle.votes.proofs.Premises.{StepPremises}
use Rattle.votes.proofs.SeatVotes.{why_prepared}

-- who posts no Commit
no_commit_up : (t : Transaction) (how : How) (at : List Enlistment) (kind : Kind) → WhySuperior t how at kind notices.Commit → ⊥
no_commit_up t how at kinds.Durable h = h
no_commit_up t how at kinds.Volatile h = h

no_commit_told : (how : How) → WhyInitiator how notices.Commit → ⊥
no_commit_told How.Decides h = h
no_commit_told How.DecidesAlone h = h
no_commit_told other h = h

no_commit_none : (asked : Notice) → AnswersAsNone asked notices.Commit → ⊥
no_commit_none notices.Prepare h = absurd cc
no_commit_none notices.Commit h = absurd cc
no_commit_none notices.Rollback h = absurd cc
no_commit_none other h = h

no_leaf_commit : (m : Moment) (e : Event) (l : Leaf) (c : Change Leaf) (q : Post) → LeafSays m e l c q → q.message ≡ messages.Notice notices.Commit → ⊥
no_leaf_commit m e l c q (prepared to left known is goes on) says = let f : notices.Prepared ≡ notices.Commit = same_notice q.message notices.Prepared notices.Commit (other_notice q notices.Prepared _ is refl) says in cc
no_leaf_commit m e l c q (read_only to known is was gone none) says = let f : notices.ReadOnly ≡ notices.Commit = same_notice q.message notices.ReadOnly notices.Commit (other_notice q notices.ReadOnly _ is refl) says in cc
no_leaf_commit m e l c q (committed to known is gone ended) says = let f : notices.Committed ≡ notices.Commit = same_notice q.message notices.Committed notices.Commit (other_notice q notices.Committed _ is refl) says in cc
no_leaf_commit m e l c q (aborted to known is gone ended) says = let f : notices.Aborted ≡ notices.Commit = same_notice q.message notices.Aborted notices.Commit (other_notice q notices.Aborted _ is refl) says in cc
no_leaf_commit m e l c q (tells_nothing none) says = says_notice q.message notices.Commit none says

-- a seat that is told to commit
pub seat_commits : (hosts : Hosts) (u : World) (n : ℕ) (x : Node) (b : Book) (e : Event) (now : ℕ) (landed : Bool) → StepPremises hosts u n x b e → IsOutcome hosts u
    → (d : TransactionDid b e now (standing landed (plan b e now).entry) (step b e now landed)) (s : Enlistment) (y : Who) → IsIn s d.old.seats → who_named hosts s.participant ≡ Some y
    → (s.state ≡ states.Committing) ⊎ (IsCommit d.deed.how × IsWhy e d.old s states.Prepared)
    → HasPosted (counts u n x b e now landed) y s.kind notices.Prepared × HasCommitted (counts u n x b e now landed) (record { node = n; id = d.old.id })
seat_commits hosts u n x b e now landed p j d s y i who (inl is) =
    let h : HasPosted u y s.kind notices.Prepared × HasCommitted u (record { node = n; id = d.old.id }) =
    subst (λ state. SeatSays u (record { node = n; id = d.old.id }) y s.kind state) is (seat_tells hosts u n x b e p j d.old s d.found i y who) in
    let g : Grows u (counts u n x b e now landed) = grown hosts u n x b e now landed p in
    (posted_on u (counts u n x b e now landed) g y s.kind notices.Prepared h.0, committed_on u (counts u n x b e now landed) g (record { node = n; id = d.old.id }) h.1)
seat_commits hosts u n x b e now landed p j d s y i who (inr (commits, why)) = (
  posted_on u (counts u n x b e now landed) (grown hosts u n x b e now landed p) y s.kind notices.Prepared (why_prepared hosts u n x b e p j d.old s y d.found i who why),
  commits_now u n x b e now landed (standing landed (plan b e now).entry) d commits,
)

commit_to : (hosts : Hosts) (u : World) (n : ℕ) (x : Node) (b : Book) (e : Event) (now : ℕ) (landed : Bool) → StepPremises hosts u n x b e → IsOutcome hosts u
    → (d : TransactionDid b e now (standing landed (plan b e now).entry) (step b e now landed)) (s : Enlistment) (m : ℕ) (k : Numbers) → IsIn s d.old.seats
    → (s.state ≡ states.Committing) ⊎ (IsCommit d.deed.how × IsWhy e d.old s states.Prepared) → LeadsTo hosts s.participant m (targets.Participant k s.kind)
    → HasPosted (counts u n x b e now landed) (record { node = m; id = k }) s.kind notices.Prepared × IsUnderCommitted (counts u n x b e now landed) (record { node = m; id = k }) s.kind
commit_to hosts u n x b e now landed p j d s m k i why leads =
    let who : who_named hosts s.participant ≡ Some (record { node = m; id = k }) = leads_who hosts s.participant m (targets.Participant k s.kind) leads in
    let (voted, ended) = seat_commits hosts u n x b e now landed p j d s (record { node = m; id = k }) i who why in (
      voted,
      record {
        transaction = record { node = n; id = d.old.id };
        number = s.number;
        seat = seat_on u (counts u n x b e now landed) (grown hosts u n x b e now landed p) (record { node = n; id = d.old.id }) s.number s.kind (record { node = m; id = k })
            (has_seat hosts u n x b e p d.old s (record { node = m; id = k }) d.found i who);
        committed = ended;
      },
    )

pub commit_told : (hosts : Hosts) (u : World) (n : ℕ) (x : Node) (b : Book) (e : Event) (now : ℕ) (landed : Bool) → StepPremises hosts u n x b e → IsOutcome hosts u → SeatsAre hosts b → (q : Post)
    → Tells b e now (standing landed (plan b e now).entry) (step b e now landed) notices.Commit q → CommitIsBacked hosts (counts u n x b e now landed) q
commit_told hosts u n x b e now landed p j are q (to_seat d s i why is) to m k kind says sent leads =
    let there : LeadsTo hosts s.participant m (targets.Participant k kind) = subst (λ f. LeadsTo hosts f m (targets.Participant k kind)) (same_end q.to to s.participant sent is.sent) leads in
    let same : kind ≡ s.kind = (are d.old s d.found i).kind m k kind there in
    subst (λ c. HasPosted (counts u n x b e now landed) (record { node = m; id = k }) c notices.Prepared × IsUnderCommitted (counts u n x b e now landed) (record { node = m; id = k }) c) (sym same)
    (commit_to hosts u n x b e now landed p j d s m k i why (subst (λ c. LeadsTo hosts s.participant m (targets.Participant k c)) same there))
commit_told hosts u n x b e now landed p j are q (to_left_seat d s i durable left said is from) to m k kind says sent leads = absurd cc
commit_told hosts u n x b e now landed p j are q (to_superior d c up known why is) to m k kind says sent leads = absurd (no_commit_up d.old d.deed.how d.deed.at c why)
commit_told hosts u n x b e now landed p j are q (says_aborted d c up under aborts is known from) to m k kind says sent leads = absurd cc
commit_told hosts u n x b e now landed p j are q (from_left_link d c s up under left said is known from) to m k kind says sent leads = absurd cc
commit_told hosts u n x b e now landed p j are q (left_link_aborted d c up under is known from) to m k kind says sent leads = absurd cc
commit_told hosts u n x b e now landed p j are q (to_initiator d up known why from) to m k kind says sent leads = absurd (no_commit_told d.deed.how why)
commit_told hosts u n x b e now landed p j are q (to_asking d c up there done asked is from) to m k kind says sent leads = absurd cc
commit_told hosts u n x b e now landed p j are q (leaf_says d h) to m k kind says sent leads = absurd (no_leaf_commit (moment_of b now) e d.old d.change q h says)
commit_told hosts u n x b e now landed p j are q (activity_says d h) to m k kind says sent leads =
    absurd (no_participant hosts u n x b e p (moment_of b now) d.old d.change q d.found h notices.Commit to m k kind says sent leads)
commit_told hosts u n x b e now landed p j are q (to_late_seat d c late is i same) to m k kind says sent leads = absurd cc
commit_told hosts u n x b e now landed p j are q (as_no_seat d id s up target durable unknown came from is same) to m k kind says sent leads = absurd cc
commit_told hosts u n x b e now landed p j are q (as_no_participant d id c up asked target unknown came why from same) to m k kind says sent leads = absurd (no_commit_none asked why)
commit_told hosts u n x b e now landed p j are q (as_committed d id up target kept came from is same) to m k kind says sent leads = absurd cc
