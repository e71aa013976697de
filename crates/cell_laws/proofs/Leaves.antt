-- A leaf behind a message of its coordinator.
use Rattle.std.proofs.Common.{sym, subst, ℕ, List, Option, Some, None}
use Rattle.at_base.specs.declared.epr.Epr.{Epr}
use Rattle.at_base.specs.declared.event.Moment.{Moment}
use Rattle.at_base.specs.declared.notice.Kind.{Kind}
use Rattle.at_base.specs.declared.notice.Kind.TheVariants as kinds
use Rattle.at_base.specs.declared.notice.Vote.{Vote}
use Rattle.at_base.specs.declared.notice.Vote.TheVariants as voting
use Rattle.at_tables.specs.declared.cells.State.{State}
use Rattle.at_tables.specs.declared.cells.State.TheVariants as states
use Rattle.at_tables.specs.declared.cells.Act.{Act}
use Rattle.at_tables.specs.declared.cells.Act.TheVariants as acts
use Rattle.settling.proofs.Entries.{state_is}
use Rattle.at_model.specs.Book.{Leaf}
use Rattle.at_model.specs.Leaves.{leaf_act, leaf_commit, leaf_notice, leaf_records_vote, leaf_roll_back, leaf_votes}
use Rattle.cell_laws.specs.NextStates.{Ends, LeavesGoOn, ParticipantGoes, ends, leaf_state, leaves, same, votes}
use Rattle.cell_laws.proofs.Fitting.{participant_fits, participant_next}

abbrev Goes_from : State → Option Leaf → Type 0
Goes_from next i = ParticipantGoes next (leaf_state i)

recorded : (m : Moment) (coordinator : Option Epr) (l : Leaf) → Ends (Goes_from states.Preparing) (leaf_records_vote m coordinator l)
recorded m None l = leaves
recorded m (Some to) l = (votes, leaves)

gathered : (m : Moment) (from : Option Epr) (l : Leaf) (k : Kind) (v : Vote) → Ends (Goes_from states.Preparing) (leaf_votes m from l k v)
unfolding leaf_votes
gathered m from l kinds.Durable voting.Prepared = recorded m l.coordinator l
gathered m from l kinds.Volatile voting.Prepared = votes
gathered m from l kinds.Durable voting.ReadOnly = leaves
gathered m from l kinds.Volatile voting.ReadOnly = leaves
gathered m from l kinds.Durable voting.Aborted = leaves
gathered m from l kinds.Volatile voting.Aborted = leaves

committed : (m : Moment) (from : Option Epr) (l : Leaf) (k : Kind) → Ends (Goes_from states.Committing) (leaf_commit m from l k)
unfolding leaf_commit
committed m from l kinds.Durable = ends
committed m from l kinds.Volatile = ends

rolled_back : (m : Moment) (from : Option Epr) (l : Leaf) (k : Kind) → Ends (Goes_from states.None) (leaf_roll_back m from l k)
unfolding leaf_roll_back
rolled_back m from l kinds.Durable = same states.None
rolled_back m from l kinds.Volatile = same states.None

by_act : (m : Moment) (from : Option Epr) (id : Option (List ℕ)) (l : Leaf) (act : Act) → Ends (Goes_from (participant_next l.state act)) (leaf_act m from id l act)
unfolding leaf_act
by_act m from id l acts.Ignore = same l.state
by_act m from id l acts.SendPrepared = same l.state
by_act m from id l acts.SendCommit = same l.state
by_act m from id l acts.SendRollback = same l.state
by_act m from id l acts.SendCommitted = same l.state
by_act m from id l acts.SendAborted = same l.state
by_act m from id l acts.FaultUnknownTransaction = same l.state
by_act m from id l acts.FaultInvalidState = same l.state
by_act m from id l acts.FaultInvalidStateAndAbort = same states.None
by_act m from id l acts.Leave = same l.state
by_act m from id l acts.LeaveAndAbort = same l.state
by_act m from id l acts.Vote = same l.state
by_act m from id l acts.Gather = gathered m from l l.kind l.vote
by_act m from id l acts.Commit = committed m from l l.kind
by_act m from id l acts.AbortAndSendAborted = same states.None
by_act m from id l acts.RecordAndSendAborted = rolled_back m from l l.kind
by_act m from id l acts.Complete = same l.state
by_act m from id l acts.TellCommitted = same l.state
by_act m from id l acts.TellAborted = same l.state

pub leaves_go_on : LeavesGoOn
unfolding leaf_notice
leaves_go_on m from id l n c e =
    subst (λ next. Ends (Goes_from next) (leaf_act m from id l c.act)) (sym (state_is c.next (participant_next l.state c.act) (participant_fits l.kind l.state n c e)))
    (by_act m from id l c.act)
