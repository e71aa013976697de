-- The laws of the tables. Each is a test that is computed over all entries of a table, and then read back as an equation.
use Rattle.std.proofs.Common.{Option, Some, None, Bool, true, false, ◌≡◌, ◌&&◌, ◌||◌, refl, sym, subst, ◌⊎◌, inl, inr}
use Rattle.at_base.specs.declared.notice.Kind.{Kind}
use Rattle.at_base.specs.declared.notice.Notice.{Notice}
use Rattle.at_base.specs.declared.notice.Kind.TheVariants as kinds
use Rattle.at_base.specs.declared.notice.Notice.TheVariants as notices
use Rattle.at_tables.specs.declared.cells.State.{State}
use Rattle.at_tables.specs.declared.cells.Act.{Act}
use Rattle.at_tables.specs.declared.cells.Cell.{Cell}
use Rattle.at_tables.specs.declared.cells.State.TheVariants as states
use Rattle.at_tables.specs.declared.cells.Act.TheVariants as acts
use Rattle.at_tables.specs.Names.{is_state, is_act}
use Rattle.at_base.specs.Names.{is_notice}
use Rattle.at_tables.specs.Tables.{coordinator_of, participant_of, completion_of, initiator_of}
use Rattle.at_tables.specs.Laws.{NoMessageCommits, VotesAtPreparing, CommittedEnds, DecisionStands, CommitAfterDecision, PresumesAbort, NothingBegins, PreparedAfterVote, CommitsWhenTold, StaysInDoubt, CommittedWhenDone, CommitIsFinal, ToldCommittedWhenAsked, CompletesOnce, OutcomeStays, FaultKeepsState}

both : (a b : Bool) → a && b ≡ true → (a ≡ true) × (b ≡ true)
both true b h = (refl, h)
both false b h = absurd cc

abbrev pub every_kind : (Kind → Bool) → Bool
every_kind p = p kinds.Volatile && (p kinds.Durable)

pub at_kind : (p : Kind → Bool) → every_kind p ≡ true → (x : Kind) → p x ≡ true
at_kind p h x =
    let h0 = both (p kinds.Volatile) (p kinds.Durable) h in
    elim x as (λ x. p x ≡ true) [
      | kinds.Volatile ↦ h0.0
      | kinds.Durable ↦ h0.1
    ]

abbrev pub every_state : (State → Bool) → Bool
every_state p = p states.None && (p states.Registering && (p states.Active && (p states.Preparing && (p states.Prepared && (p states.PreparedSuccess && (p states.Committing && (p states.Aborting && (p states.Completing && (p states.Done)))))))))

pub at_state : (p : State → Bool) → every_state p ≡ true → (x : State) → p x ≡ true
at_state p h x =
    let h0 = both (p states.None) (p states.Registering && (p states.Active && (p states.Preparing && (p states.Prepared && (p states.PreparedSuccess && (p states.Committing && (p states.Aborting && (p states.Completing && (p states.Done))))))))) h in
    let h1 = both (p states.Registering) (p states.Active && (p states.Preparing && (p states.Prepared && (p states.PreparedSuccess && (p states.Committing && (p states.Aborting && (p states.Completing && (p states.Done)))))))) h0.1 in
    let h2 = both (p states.Active) (p states.Preparing && (p states.Prepared && (p states.PreparedSuccess && (p states.Committing && (p states.Aborting && (p states.Completing && (p states.Done))))))) h1.1 in
    let h3 = both (p states.Preparing) (p states.Prepared && (p states.PreparedSuccess && (p states.Committing && (p states.Aborting && (p states.Completing && (p states.Done)))))) h2.1 in
    let h4 = both (p states.Prepared) (p states.PreparedSuccess && (p states.Committing && (p states.Aborting && (p states.Completing && (p states.Done))))) h3.1 in
    let h5 = both (p states.PreparedSuccess) (p states.Committing && (p states.Aborting && (p states.Completing && (p states.Done)))) h4.1 in
    let h6 = both (p states.Committing) (p states.Aborting && (p states.Completing && (p states.Done))) h5.1 in
    let h7 = both (p states.Aborting) (p states.Completing && (p states.Done)) h6.1 in
    let h8 = both (p states.Completing) (p states.Done) h7.1 in
    elim x as (λ x. p x ≡ true) [
      | states.None ↦ h0.0
      | states.Registering ↦ h1.0
      | states.Active ↦ h2.0
      | states.Preparing ↦ h3.0
      | states.Prepared ↦ h4.0
      | states.PreparedSuccess ↦ h5.0
      | states.Committing ↦ h6.0
      | states.Aborting ↦ h7.0
      | states.Completing ↦ h8.0
      | states.Done ↦ h8.1
    ]

abbrev pub every_notice : (Notice → Bool) → Bool
every_notice p = p notices.Prepare && (p notices.Commit && (p notices.Rollback && (p notices.Prepared && (p notices.ReadOnly && (p notices.Aborted && (p notices.Committed))))))

pub at_notice : (p : Notice → Bool) → every_notice p ≡ true → (x : Notice) → p x ≡ true
at_notice p h x =
    let h0 = both (p notices.Prepare) (p notices.Commit && (p notices.Rollback && (p notices.Prepared && (p notices.ReadOnly && (p notices.Aborted && (p notices.Committed)))))) h in
    let h1 = both (p notices.Commit) (p notices.Rollback && (p notices.Prepared && (p notices.ReadOnly && (p notices.Aborted && (p notices.Committed))))) h0.1 in
    let h2 = both (p notices.Rollback) (p notices.Prepared && (p notices.ReadOnly && (p notices.Aborted && (p notices.Committed)))) h1.1 in
    let h3 = both (p notices.Prepared) (p notices.ReadOnly && (p notices.Aborted && (p notices.Committed))) h2.1 in
    let h4 = both (p notices.ReadOnly) (p notices.Aborted && (p notices.Committed)) h3.1 in
    let h5 = both (p notices.Aborted) (p notices.Committed) h4.1 in
    elim x as (λ x. p x ≡ true) [
      | notices.Prepare ↦ h0.0
      | notices.Commit ↦ h1.0
      | notices.Rollback ↦ h2.0
      | notices.Prepared ↦ h3.0
      | notices.ReadOnly ↦ h4.0
      | notices.Aborted ↦ h5.0
      | notices.Committed ↦ h5.1
    ]

abbrev every_entry : (Kind → State → Notice → Bool) → Bool
every_entry p = every_kind (λ k. every_state (λ s. every_notice (p k s)))

pub at_entry : (p : Kind → State → Notice → Bool) → every_entry p ≡ true → (k : Kind) (s : State) (n : Notice) → p k s n ≡ true
at_entry p h k s n =
    at_notice (p k s) (at_state (λ s. every_notice (p k s)) (at_kind (λ k. every_state (λ s. every_notice (p k s))) h k) s) n

pub state_is : (x y : State) → is_state x y ≡ true → x ≡ y
state_is states.None states.None h = refl
state_is states.None states.Registering h = absurd cc
state_is states.None states.Active h = absurd cc
state_is states.None states.Preparing h = absurd cc
state_is states.None states.Prepared h = absurd cc
state_is states.None states.PreparedSuccess h = absurd cc
state_is states.None states.Committing h = absurd cc
state_is states.None states.Aborting h = absurd cc
state_is states.None states.Completing h = absurd cc
state_is states.None states.Done h = absurd cc
state_is states.Registering states.None h = absurd cc
state_is states.Registering states.Registering h = refl
state_is states.Registering states.Active h = absurd cc
state_is states.Registering states.Preparing h = absurd cc
state_is states.Registering states.Prepared h = absurd cc
state_is states.Registering states.PreparedSuccess h = absurd cc
state_is states.Registering states.Committing h = absurd cc
state_is states.Registering states.Aborting h = absurd cc
state_is states.Registering states.Completing h = absurd cc
state_is states.Registering states.Done h = absurd cc
state_is states.Active states.None h = absurd cc
state_is states.Active states.Registering h = absurd cc
state_is states.Active states.Active h = refl
state_is states.Active states.Preparing h = absurd cc
state_is states.Active states.Prepared h = absurd cc
state_is states.Active states.PreparedSuccess h = absurd cc
state_is states.Active states.Committing h = absurd cc
state_is states.Active states.Aborting h = absurd cc
state_is states.Active states.Completing h = absurd cc
state_is states.Active states.Done h = absurd cc
state_is states.Preparing states.None h = absurd cc
state_is states.Preparing states.Registering h = absurd cc
state_is states.Preparing states.Active h = absurd cc
state_is states.Preparing states.Preparing h = refl
state_is states.Preparing states.Prepared h = absurd cc
state_is states.Preparing states.PreparedSuccess h = absurd cc
state_is states.Preparing states.Committing h = absurd cc
state_is states.Preparing states.Aborting h = absurd cc
state_is states.Preparing states.Completing h = absurd cc
state_is states.Preparing states.Done h = absurd cc
state_is states.Prepared states.None h = absurd cc
state_is states.Prepared states.Registering h = absurd cc
state_is states.Prepared states.Active h = absurd cc
state_is states.Prepared states.Preparing h = absurd cc
state_is states.Prepared states.Prepared h = refl
state_is states.Prepared states.PreparedSuccess h = absurd cc
state_is states.Prepared states.Committing h = absurd cc
state_is states.Prepared states.Aborting h = absurd cc
state_is states.Prepared states.Completing h = absurd cc
state_is states.Prepared states.Done h = absurd cc
state_is states.PreparedSuccess states.None h = absurd cc
state_is states.PreparedSuccess states.Registering h = absurd cc
state_is states.PreparedSuccess states.Active h = absurd cc
state_is states.PreparedSuccess states.Preparing h = absurd cc
state_is states.PreparedSuccess states.Prepared h = absurd cc
state_is states.PreparedSuccess states.PreparedSuccess h = refl
state_is states.PreparedSuccess states.Committing h = absurd cc
state_is states.PreparedSuccess states.Aborting h = absurd cc
state_is states.PreparedSuccess states.Completing h = absurd cc
state_is states.PreparedSuccess states.Done h = absurd cc
state_is states.Committing states.None h = absurd cc
state_is states.Committing states.Registering h = absurd cc
state_is states.Committing states.Active h = absurd cc
state_is states.Committing states.Preparing h = absurd cc
state_is states.Committing states.Prepared h = absurd cc
state_is states.Committing states.PreparedSuccess h = absurd cc
state_is states.Committing states.Committing h = refl
state_is states.Committing states.Aborting h = absurd cc
state_is states.Committing states.Completing h = absurd cc
state_is states.Committing states.Done h = absurd cc
state_is states.Aborting states.None h = absurd cc
state_is states.Aborting states.Registering h = absurd cc
state_is states.Aborting states.Active h = absurd cc
state_is states.Aborting states.Preparing h = absurd cc
state_is states.Aborting states.Prepared h = absurd cc
state_is states.Aborting states.PreparedSuccess h = absurd cc
state_is states.Aborting states.Committing h = absurd cc
state_is states.Aborting states.Aborting h = refl
state_is states.Aborting states.Completing h = absurd cc
state_is states.Aborting states.Done h = absurd cc
state_is states.Completing states.None h = absurd cc
state_is states.Completing states.Registering h = absurd cc
state_is states.Completing states.Active h = absurd cc
state_is states.Completing states.Preparing h = absurd cc
state_is states.Completing states.Prepared h = absurd cc
state_is states.Completing states.PreparedSuccess h = absurd cc
state_is states.Completing states.Committing h = absurd cc
state_is states.Completing states.Aborting h = absurd cc
state_is states.Completing states.Completing h = refl
state_is states.Completing states.Done h = absurd cc
state_is states.Done states.None h = absurd cc
state_is states.Done states.Registering h = absurd cc
state_is states.Done states.Active h = absurd cc
state_is states.Done states.Preparing h = absurd cc
state_is states.Done states.Prepared h = absurd cc
state_is states.Done states.PreparedSuccess h = absurd cc
state_is states.Done states.Committing h = absurd cc
state_is states.Done states.Aborting h = absurd cc
state_is states.Done states.Completing h = absurd cc
state_is states.Done states.Done h = refl

pub notice_is : (x y : Notice) → is_notice x y ≡ true → x ≡ y
notice_is notices.Prepare notices.Prepare h = refl
notice_is notices.Prepare notices.Commit h = absurd cc
notice_is notices.Prepare notices.Rollback h = absurd cc
notice_is notices.Prepare notices.Prepared h = absurd cc
notice_is notices.Prepare notices.ReadOnly h = absurd cc
notice_is notices.Prepare notices.Aborted h = absurd cc
notice_is notices.Prepare notices.Committed h = absurd cc
notice_is notices.Commit notices.Prepare h = absurd cc
notice_is notices.Commit notices.Commit h = refl
notice_is notices.Commit notices.Rollback h = absurd cc
notice_is notices.Commit notices.Prepared h = absurd cc
notice_is notices.Commit notices.ReadOnly h = absurd cc
notice_is notices.Commit notices.Aborted h = absurd cc
notice_is notices.Commit notices.Committed h = absurd cc
notice_is notices.Rollback notices.Prepare h = absurd cc
notice_is notices.Rollback notices.Commit h = absurd cc
notice_is notices.Rollback notices.Rollback h = refl
notice_is notices.Rollback notices.Prepared h = absurd cc
notice_is notices.Rollback notices.ReadOnly h = absurd cc
notice_is notices.Rollback notices.Aborted h = absurd cc
notice_is notices.Rollback notices.Committed h = absurd cc
notice_is notices.Prepared notices.Prepare h = absurd cc
notice_is notices.Prepared notices.Commit h = absurd cc
notice_is notices.Prepared notices.Rollback h = absurd cc
notice_is notices.Prepared notices.Prepared h = refl
notice_is notices.Prepared notices.ReadOnly h = absurd cc
notice_is notices.Prepared notices.Aborted h = absurd cc
notice_is notices.Prepared notices.Committed h = absurd cc
notice_is notices.ReadOnly notices.Prepare h = absurd cc
notice_is notices.ReadOnly notices.Commit h = absurd cc
notice_is notices.ReadOnly notices.Rollback h = absurd cc
notice_is notices.ReadOnly notices.Prepared h = absurd cc
notice_is notices.ReadOnly notices.ReadOnly h = refl
notice_is notices.ReadOnly notices.Aborted h = absurd cc
notice_is notices.ReadOnly notices.Committed h = absurd cc
notice_is notices.Aborted notices.Prepare h = absurd cc
notice_is notices.Aborted notices.Commit h = absurd cc
notice_is notices.Aborted notices.Rollback h = absurd cc
notice_is notices.Aborted notices.Prepared h = absurd cc
notice_is notices.Aborted notices.ReadOnly h = absurd cc
notice_is notices.Aborted notices.Aborted h = refl
notice_is notices.Aborted notices.Committed h = absurd cc
notice_is notices.Committed notices.Prepare h = absurd cc
notice_is notices.Committed notices.Commit h = absurd cc
notice_is notices.Committed notices.Rollback h = absurd cc
notice_is notices.Committed notices.Prepared h = absurd cc
notice_is notices.Committed notices.ReadOnly h = absurd cc
notice_is notices.Committed notices.Aborted h = absurd cc
notice_is notices.Committed notices.Committed h = refl

state_same : (x : State) → is_state x x ≡ true
state_same states.None = refl
state_same states.Registering = refl
state_same states.Active = refl
state_same states.Preparing = refl
state_same states.Prepared = refl
state_same states.PreparedSuccess = refl
state_same states.Committing = refl
state_same states.Aborting = refl
state_same states.Completing = refl
state_same states.Done = refl

notice_same : (x : Notice) → is_notice x x ≡ true
notice_same notices.Prepare = refl
notice_same notices.Commit = refl
notice_same notices.Rollback = refl
notice_same notices.Prepared = refl
notice_same notices.ReadOnly = refl
notice_same notices.Aborted = refl
notice_same notices.Committed = refl

act_same : (x : Act) → is_act x x ≡ true
act_same acts.Ignore = refl
act_same acts.SendPrepared = refl
act_same acts.SendCommit = refl
act_same acts.SendRollback = refl
act_same acts.SendCommitted = refl
act_same acts.SendAborted = refl
act_same acts.FaultUnknownTransaction = refl
act_same acts.FaultInvalidState = refl
act_same acts.FaultInvalidStateAndAbort = refl
act_same acts.Leave = refl
act_same acts.LeaveAndAbort = refl
act_same acts.Vote = refl
act_same acts.Gather = refl
act_same acts.Commit = refl
act_same acts.AbortAndSendAborted = refl
act_same acts.RecordAndSendAborted = refl
act_same acts.Complete = refl
act_same acts.TellCommitted = refl
act_same acts.TellAborted = refl

abbrev holds : Option Cell → (Cell → Bool) → Bool
holds None f = true
holds (Some c) f = f c

told : (o : Option Cell) (cell : Cell) (f : Cell → Bool) → holds o f ≡ true → o ≡ Some cell → f cell ≡ true
told o cell f h e = subst (λ x. holds x f ≡ true) e h

abbrev when : Bool → Bool → Bool
when true b = b
when false b = true

under : (a b : Bool) → when a b ≡ true → a ≡ true → b ≡ true
under true b h e = h
under false b h e = absurd cc

either : (a b : Bool) → a || b ≡ true → (a ≡ true) ⊎ (b ≡ true)
either true b h = inl refl
either false b h = inr h

no_message_commits_at : every_entry (λ k s n. holds (coordinator_of k s n) (λ c. when (is_state c.next states.Committing) (is_state s states.Committing))) ≡ true
no_message_commits_at = refl

pub no_message_commits : NoMessageCommits
no_message_commits k s n cell e a =
    let h = told (coordinator_of k s n) cell (λ c. when (is_state c.next states.Committing) (is_state s states.Committing)) (at_entry (λ k s n. holds (coordinator_of k s n) (λ c. when (is_state c.next states.Committing) (is_state s states.Committing))) no_message_commits_at k s n) e in
    let i = under (is_state cell.next states.Committing) (is_state s states.Committing) h (subst (λ x. is_state x states.Committing ≡ true) (sym a) refl) in
    state_is s states.Committing i

votes_at_preparing_at : every_entry (λ k s n. holds (coordinator_of k s n) (λ c. when (is_act c.act acts.Vote) (is_state s states.Preparing && (is_notice n notices.Prepared && (is_state c.next states.Prepared))))) ≡ true
votes_at_preparing_at = refl

pub votes_at_preparing : VotesAtPreparing
votes_at_preparing k s n cell e a =
    let h = told (coordinator_of k s n) cell (λ c. when (is_act c.act acts.Vote) (is_state s states.Preparing && (is_notice n notices.Prepared && (is_state c.next states.Prepared)))) (at_entry (λ k s n. holds (coordinator_of k s n) (λ c. when (is_act c.act acts.Vote) (is_state s states.Preparing && (is_notice n notices.Prepared && (is_state c.next states.Prepared))))) votes_at_preparing_at k s n) e in
    let i = under (is_act cell.act acts.Vote) (is_state s states.Preparing && (is_notice n notices.Prepared && (is_state cell.next states.Prepared))) h (subst (λ x. is_act x acts.Vote ≡ true) (sym a) refl) in
    let b0 = both (is_state s states.Preparing) (is_notice n notices.Prepared && (is_state cell.next states.Prepared)) i in
    let b1 = both (is_notice n notices.Prepared) (is_state cell.next states.Prepared) b0.1 in
    (state_is s states.Preparing b0.0, notice_is n notices.Prepared b1.0, state_is cell.next states.Prepared b1.1)

commit_after_decision_at : every_entry (λ k s n. holds (coordinator_of k s n) (λ c. when (is_act c.act acts.SendCommit) (is_state s states.Committing && (is_notice n notices.Prepared)))) ≡ true
commit_after_decision_at = refl

pub commit_after_decision : CommitAfterDecision
commit_after_decision k s n cell e a =
    let h = told (coordinator_of k s n) cell (λ c. when (is_act c.act acts.SendCommit) (is_state s states.Committing && (is_notice n notices.Prepared))) (at_entry (λ k s n. holds (coordinator_of k s n) (λ c. when (is_act c.act acts.SendCommit) (is_state s states.Committing && (is_notice n notices.Prepared)))) commit_after_decision_at k s n) e in
    let i = under (is_act cell.act acts.SendCommit) (is_state s states.Committing && (is_notice n notices.Prepared)) h (subst (λ x. is_act x acts.SendCommit ≡ true) (sym a) refl) in
    let b0 = both (is_state s states.Committing) (is_notice n notices.Prepared) i in
    (state_is s states.Committing b0.0, notice_is n notices.Prepared b0.1)

prepared_after_vote_at : every_entry (λ k s n. holds (participant_of k s n) (λ c. when (is_act c.act acts.SendPrepared) (is_state s states.PreparedSuccess))) ≡ true
prepared_after_vote_at = refl

pub prepared_after_vote : PreparedAfterVote
prepared_after_vote k s n cell e a =
    let h = told (participant_of k s n) cell (λ c. when (is_act c.act acts.SendPrepared) (is_state s states.PreparedSuccess)) (at_entry (λ k s n. holds (participant_of k s n) (λ c. when (is_act c.act acts.SendPrepared) (is_state s states.PreparedSuccess))) prepared_after_vote_at k s n) e in
    let i = under (is_act cell.act acts.SendPrepared) (is_state s states.PreparedSuccess) h (subst (λ x. is_act x acts.SendPrepared ≡ true) (sym a) refl) in
    state_is s states.PreparedSuccess i

commits_when_told_at : every_entry (λ k s n. holds (participant_of k s n) (λ c. when (is_act c.act acts.Commit) (is_state s states.PreparedSuccess && (is_notice n notices.Commit)))) ≡ true
commits_when_told_at = refl

pub commits_when_told : CommitsWhenTold
commits_when_told k s n cell e a =
    let h = told (participant_of k s n) cell (λ c. when (is_act c.act acts.Commit) (is_state s states.PreparedSuccess && (is_notice n notices.Commit))) (at_entry (λ k s n. holds (participant_of k s n) (λ c. when (is_act c.act acts.Commit) (is_state s states.PreparedSuccess && (is_notice n notices.Commit)))) commits_when_told_at k s n) e in
    let i = under (is_act cell.act acts.Commit) (is_state s states.PreparedSuccess && (is_notice n notices.Commit)) h (subst (λ x. is_act x acts.Commit ≡ true) (sym a) refl) in
    let b0 = both (is_state s states.PreparedSuccess) (is_notice n notices.Commit) i in
    (state_is s states.PreparedSuccess b0.0, notice_is n notices.Commit b0.1)

committed_when_done_at : every_entry (λ k s n. holds (participant_of k s n) (λ c. when (is_act c.act acts.SendCommitted) (is_state s states.None && (is_notice n notices.Commit)))) ≡ true
committed_when_done_at = refl

pub committed_when_done : CommittedWhenDone
committed_when_done k s n cell e a =
    let h = told (participant_of k s n) cell (λ c. when (is_act c.act acts.SendCommitted) (is_state s states.None && (is_notice n notices.Commit))) (at_entry (λ k s n. holds (participant_of k s n) (λ c. when (is_act c.act acts.SendCommitted) (is_state s states.None && (is_notice n notices.Commit)))) committed_when_done_at k s n) e in
    let i = under (is_act cell.act acts.SendCommitted) (is_state s states.None && (is_notice n notices.Commit)) h (subst (λ x. is_act x acts.SendCommitted ≡ true) (sym a) refl) in
    let b0 = both (is_state s states.None) (is_notice n notices.Commit) i in
    (state_is s states.None b0.0, notice_is n notices.Commit b0.1)

told_committed_when_asked_at : every_entry (λ k s n. holds (initiator_of s n) (λ c. when (is_act c.act acts.TellCommitted) (is_state s states.Completing && (is_notice n notices.Committed)))) ≡ true
told_committed_when_asked_at = refl

pub told_committed_when_asked : ToldCommittedWhenAsked
told_committed_when_asked s n cell e a =
    let h = told (initiator_of s n) cell (λ c. when (is_act c.act acts.TellCommitted) (is_state s states.Completing && (is_notice n notices.Committed))) (at_entry (λ k s n. holds (initiator_of s n) (λ c. when (is_act c.act acts.TellCommitted) (is_state s states.Completing && (is_notice n notices.Committed)))) told_committed_when_asked_at kinds.Durable s n) e in
    let i = under (is_act cell.act acts.TellCommitted) (is_state s states.Completing && (is_notice n notices.Committed)) h (subst (λ x. is_act x acts.TellCommitted ≡ true) (sym a) refl) in
    let b0 = both (is_state s states.Completing) (is_notice n notices.Committed) i in
    (state_is s states.Completing b0.0, notice_is n notices.Committed b0.1)

completes_once_at : every_entry (λ k s n. holds (completion_of s n) (λ c. when (is_act c.act acts.Complete) (is_state s states.Active && (is_notice n notices.Commit)))) ≡ true
completes_once_at = refl

pub completes_once : CompletesOnce
completes_once s n cell e a =
    let h = told (completion_of s n) cell (λ c. when (is_act c.act acts.Complete) (is_state s states.Active && (is_notice n notices.Commit))) (at_entry (λ k s n. holds (completion_of s n) (λ c. when (is_act c.act acts.Complete) (is_state s states.Active && (is_notice n notices.Commit)))) completes_once_at kinds.Durable s n) e in
    let i = under (is_act cell.act acts.Complete) (is_state s states.Active && (is_notice n notices.Commit)) h (subst (λ x. is_act x acts.Complete ≡ true) (sym a) refl) in
    let b0 = both (is_state s states.Active) (is_notice n notices.Commit) i in
    (state_is s states.Active b0.0, notice_is n notices.Commit b0.1)

outcome_kept_at : every_entry (λ k s n. holds (completion_of states.Done n) (λ c. is_state c.next states.Done)) ≡ true
outcome_kept_at = refl

outcome_kept : (n : Notice) (cell : Cell) → completion_of states.Done n ≡ Some cell → cell.next ≡ states.Done
outcome_kept n cell e =
    state_is cell.next states.Done (told (completion_of states.Done n) cell (λ c. is_state c.next states.Done) (at_entry (λ k s n. holds (completion_of states.Done n) (λ c. is_state c.next states.Done)) outcome_kept_at kinds.Durable states.None n) e)

committed_at_done_at : every_entry (λ k s n. holds (completion_of s n) (λ c. when (is_act c.act acts.SendCommitted) (is_state s states.Done && (is_notice n notices.Commit)))) ≡ true
committed_at_done_at = refl

committed_at_done : (s : State) (n : Notice) (cell : Cell) → completion_of s n ≡ Some cell → cell.act ≡ acts.SendCommitted → (s ≡ states.Done) × (n ≡ notices.Commit)
committed_at_done s n cell e a =
    let h = told (completion_of s n) cell (λ c. when (is_act c.act acts.SendCommitted) (is_state s states.Done && (is_notice n notices.Commit))) (at_entry (λ k s n. holds (completion_of s n) (λ c. when (is_act c.act acts.SendCommitted) (is_state s states.Done && (is_notice n notices.Commit)))) committed_at_done_at kinds.Durable s n) e in
    let i = under (is_act cell.act acts.SendCommitted) (is_state s states.Done && (is_notice n notices.Commit)) h (subst (λ x. is_act x acts.SendCommitted ≡ true) (sym a) refl) in
    let b0 = both (is_state s states.Done) (is_notice n notices.Commit) i in
    (state_is s states.Done b0.0, notice_is n notices.Commit b0.1)

pub outcome_stays : OutcomeStays
outcome_stays s n cell e =
    (λ at. outcome_kept n cell (subst (λ x. completion_of x n ≡ Some cell) at e), committed_at_done s n cell e)

pub committed_ends : CommittedEnds
committed_ends kinds.Volatile = refl
committed_ends kinds.Durable = refl

pub presumes_abort : PresumesAbort
presumes_abort = refl

commit_stays_at : every_entry (λ k s n. holds (participant_of k states.Committing n) (λ c. is_state c.next states.Committing)) ≡ true
commit_stays_at = refl

commit_stays : (k : Kind) (n : Notice) (cell : Cell) → participant_of k states.Committing n ≡ Some cell → cell.next ≡ states.Committing
commit_stays k n cell e =
    state_is cell.next states.Committing (told (participant_of k states.Committing n) cell (λ c. is_state c.next states.Committing) (at_entry (λ k s n. holds (participant_of k states.Committing n) (λ c. is_state c.next states.Committing)) commit_stays_at k states.None n) e)

seat_rests_at : every_entry (λ k s n. holds (coordinator_of k states.None n) (λ c. is_state c.next states.None)) ≡ true
seat_rests_at = refl

seat_rests : (k : Kind) (n : Notice) (cell : Cell) → coordinator_of k states.None n ≡ Some cell → cell.next ≡ states.None
seat_rests k n cell e =
    state_is cell.next states.None (told (coordinator_of k states.None n) cell (λ c. is_state c.next states.None) (at_entry (λ k s n. holds (coordinator_of k states.None n) (λ c. is_state c.next states.None)) seat_rests_at k states.None n) e)

participant_rests_at : every_entry (λ k s n. holds (participant_of k states.None n) (λ c. is_state c.next states.None)) ≡ true
participant_rests_at = refl

participant_rests : (k : Kind) (n : Notice) (cell : Cell) → participant_of k states.None n ≡ Some cell → cell.next ≡ states.None
participant_rests k n cell e =
    state_is cell.next states.None (told (participant_of k states.None n) cell (λ c. is_state c.next states.None) (at_entry (λ k s n. holds (participant_of k states.None n) (λ c. is_state c.next states.None)) participant_rests_at k states.None n) e)

pub commit_is_final : CommitIsFinal
commit_is_final k n cell e = commit_stays k n cell e

pub nothing_begins : NothingBegins
nothing_begins k n cell (inl e) = seat_rests k n cell e
nothing_begins k n cell (inr e) = participant_rests k n cell e

seat_keeps_at : every_entry (λ k s n. holds (coordinator_of k s n) (λ c. when (is_act c.act acts.FaultInvalidState) (is_state c.next s))) ≡ true
seat_keeps_at = refl

seat_keeps : (k : Kind) (s : State) (n : Notice) (cell : Cell) → coordinator_of k s n ≡ Some cell → cell.act ≡ acts.FaultInvalidState → cell.next ≡ s
seat_keeps k s n cell e a =
    state_is cell.next s (under (is_act cell.act acts.FaultInvalidState) (is_state cell.next s)
    (told (coordinator_of k s n) cell (λ c. when (is_act c.act acts.FaultInvalidState) (is_state c.next s)) (at_entry (λ k s n. holds (coordinator_of k s n) (λ c. when (is_act c.act acts.FaultInvalidState) (is_state c.next s))) seat_keeps_at k s n) e)
    (subst (λ x. is_act x acts.FaultInvalidState ≡ true) (sym a) refl))

participant_keeps_at : every_entry (λ k s n. holds (participant_of k s n) (λ c. when (is_act c.act acts.FaultInvalidState) (is_state c.next s))) ≡ true
participant_keeps_at = refl

participant_keeps : (k : Kind) (s : State) (n : Notice) (cell : Cell) → participant_of k s n ≡ Some cell → cell.act ≡ acts.FaultInvalidState → cell.next ≡ s
participant_keeps k s n cell e a =
    state_is cell.next s (under (is_act cell.act acts.FaultInvalidState) (is_state cell.next s)
    (told (participant_of k s n) cell (λ c. when (is_act c.act acts.FaultInvalidState) (is_state c.next s)) (at_entry (λ k s n. holds (participant_of k s n) (λ c. when (is_act c.act acts.FaultInvalidState) (is_state c.next s))) participant_keeps_at k s n) e)
    (subst (λ x. is_act x acts.FaultInvalidState ≡ true) (sym a) refl))

pub fault_keeps_state : FaultKeepsState
fault_keeps_state k s n cell (inl e) a = seat_keeps k s n cell e a
fault_keeps_state k s n cell (inr e) a = participant_keeps k s n cell e a

abbrev stands : Notice → Cell → Bool
stands n c = is_state c.next states.Committing || (is_notice n notices.Committed && is_state c.next states.None)

stands_at : every_entry (λ k s n. holds (coordinator_of k states.Committing n) (stands n)) ≡ true
stands_at = refl

pub decision_stands : DecisionStands
decision_stands k n cell e =
    let h = told (coordinator_of k states.Committing n) cell (stands n)
    (at_entry (λ k s n. holds (coordinator_of k states.Committing n) (stands n)) stands_at k states.None n) e in
    elim (either (is_state cell.next states.Committing) (is_notice n notices.Committed && is_state cell.next states.None) h) [
      | inl a ↦ inl (state_is cell.next states.Committing a)
      | inr b ↦ let c = both (is_notice n notices.Committed) (is_state cell.next states.None) b in
          inr (notice_is n notices.Committed c.0, state_is cell.next states.None c.1)
    ]

abbrev doubts : Notice → Cell → Bool
doubts n c = is_state c.next states.PreparedSuccess
    || ((is_notice n notices.Commit && is_state c.next states.Committing) || (is_notice n notices.Rollback && is_state c.next states.None))

doubts_at : every_entry (λ k s n. holds (participant_of k states.PreparedSuccess n) (doubts n)) ≡ true
doubts_at = refl

pub stays_in_doubt : StaysInDoubt
stays_in_doubt k n cell e =
    let h = told (participant_of k states.PreparedSuccess n) cell (doubts n)
    (at_entry (λ k s n. holds (participant_of k states.PreparedSuccess n) (doubts n)) doubts_at k states.None n) e in
    elim (either (is_state cell.next states.PreparedSuccess) ((is_notice n notices.Commit && is_state cell.next states.Committing) || (is_notice n notices.Rollback && is_state cell.next states.None)) h) [
      | inl a ↦ inl (state_is cell.next states.PreparedSuccess a)
      | inr b ↦ elim (either (is_notice n notices.Commit && is_state cell.next states.Committing) (is_notice n notices.Rollback && is_state cell.next states.None) b) [
        | inl c ↦ let d = both (is_notice n notices.Commit) (is_state cell.next states.Committing) c in
            inr (inl (notice_is n notices.Commit d.0, state_is cell.next states.Committing d.1))
        | inr c ↦ let d = both (is_notice n notices.Rollback) (is_state cell.next states.None) c in
            inr (inr (notice_is n notices.Rollback d.0, state_is cell.next states.None d.1))
      ]
    ]
