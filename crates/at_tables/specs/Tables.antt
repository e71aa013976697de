-- The four state tables of WS-AtomicTransaction 1.2 (section 10) in this project's profile, a row for each cell: the kind
-- of participant that it is for, the state, the message, the act and the next state.
use Rattle.std.specs.Prelude.{Option, Some, None, List, ◌∷◌, [], Bool, true, ◌&&◌, if◌then◌else◌}
use Rattle.at_base.specs.declared.notice.Kind.{Kind}
use Rattle.at_base.specs.declared.notice.Notice.{Notice}
use Rattle.at_base.specs.declared.notice.Kind.TheVariants as kinds
use Rattle.at_base.specs.declared.notice.Notice.TheVariants as notices
use Rattle.at_tables.specs.declared.cells.State.{State}
use Rattle.at_tables.specs.declared.cells.Act.{Act}
use Rattle.at_tables.specs.declared.cells.Cell.{Cell}
use Rattle.at_tables.specs.declared.cells.State.TheVariants as states
use Rattle.at_tables.specs.declared.cells.Act.TheVariants as acts
use Rattle.at_tables.specs.Names.{is_state}
use Rattle.at_base.specs.Names.{is_kind, is_notice}

pub record Row : Type 0 where
  pub kind : Option Kind
  pub state : State
  pub notice : Notice
  pub cell : Cell

abbrev pub row : Option Kind → State → Notice → Act → State → Row
row k s n a x = record { kind = k; state = s; notice = n; cell = record { act = a; next = x } }

-- a row for participants of both kinds, and one for participants of one kind
abbrev pub any : Option Kind
any = None

abbrev pub only : Kind → Option Kind
only k = Some k

-- A coordinator's seat, at a message of its participant. A durable Prepared where nothing is known is answered with
-- Rollback: abort is presumed (WS-AtomicTransaction 1.2, section 3.3.4).
abbrev pub coordinator_table : List Row
coordinator_table =
    row (only kinds.Durable) states.None notices.Prepared acts.SendRollback states.None ∷
    row (only kinds.Durable) states.None notices.ReadOnly acts.Ignore states.None ∷
    row (only kinds.Durable) states.None notices.Aborted acts.Ignore states.None ∷
    row (only kinds.Durable) states.None notices.Committed acts.Ignore states.None ∷
    row (only kinds.Volatile) states.None notices.Prepared acts.FaultUnknownTransaction states.None ∷
    row (only kinds.Volatile) states.None notices.ReadOnly acts.Ignore states.None ∷
    row (only kinds.Volatile) states.None notices.Aborted acts.Ignore states.None ∷
    row (only kinds.Volatile) states.None notices.Committed acts.Ignore states.None ∷
    row any states.Active notices.Prepared acts.FaultInvalidStateAndAbort states.Aborting ∷
    row any states.Active notices.ReadOnly acts.Leave states.None ∷
    row any states.Active notices.Aborted acts.LeaveAndAbort states.None ∷
    row any states.Active notices.Committed acts.FaultInvalidStateAndAbort states.Aborting ∷
    row any states.Preparing notices.Prepared acts.Vote states.Prepared ∷
    row any states.Preparing notices.ReadOnly acts.Leave states.None ∷
    row any states.Preparing notices.Aborted acts.LeaveAndAbort states.None ∷
    row any states.Preparing notices.Committed acts.FaultInvalidStateAndAbort states.Aborting ∷
    row any states.Prepared notices.Prepared acts.Ignore states.Prepared ∷
    row any states.Prepared notices.ReadOnly acts.FaultInvalidState states.Prepared ∷
    row any states.Prepared notices.Aborted acts.FaultInvalidState states.Prepared ∷
    row any states.Prepared notices.Committed acts.FaultInvalidState states.Prepared ∷
    row any states.PreparedSuccess notices.Prepared acts.Ignore states.PreparedSuccess ∷
    row any states.PreparedSuccess notices.ReadOnly acts.FaultInvalidState states.PreparedSuccess ∷
    row any states.PreparedSuccess notices.Aborted acts.FaultInvalidState states.PreparedSuccess ∷
    row any states.PreparedSuccess notices.Committed acts.FaultInvalidState states.PreparedSuccess ∷
    row any states.Committing notices.Prepared acts.SendCommit states.Committing ∷
    row any states.Committing notices.ReadOnly acts.FaultInvalidState states.Committing ∷
    row any states.Committing notices.Aborted acts.FaultInvalidState states.Committing ∷
    row any states.Committing notices.Committed acts.Leave states.None ∷
    row any states.Aborting notices.Prepared acts.SendRollback states.Aborting ∷
    row any states.Aborting notices.ReadOnly acts.Leave states.None ∷
    row any states.Aborting notices.Aborted acts.Leave states.None ∷
    row any states.Aborting notices.Committed acts.FaultInvalidState states.Aborting ∷ []

-- A participant, at a message of its coordinator.
abbrev pub participant_table : List Row
participant_table =
    row any states.None notices.Prepare acts.SendAborted states.None ∷
    row any states.None notices.Commit acts.SendCommitted states.None ∷
    row any states.None notices.Rollback acts.SendAborted states.None ∷
    row any states.Registering notices.Prepare acts.Ignore states.Registering ∷
    row any states.Registering notices.Commit acts.FaultInvalidStateAndAbort states.None ∷
    row any states.Registering notices.Rollback acts.AbortAndSendAborted states.None ∷
    row any states.Active notices.Prepare acts.Gather states.Preparing ∷
    row any states.Active notices.Commit acts.FaultInvalidStateAndAbort states.None ∷
    row any states.Active notices.Rollback acts.AbortAndSendAborted states.None ∷
    row any states.Preparing notices.Prepare acts.Ignore states.Preparing ∷
    row any states.Preparing notices.Commit acts.FaultInvalidStateAndAbort states.None ∷
    row any states.Preparing notices.Rollback acts.AbortAndSendAborted states.None ∷
    row any states.Prepared notices.Prepare acts.Ignore states.Prepared ∷
    row any states.Prepared notices.Commit acts.FaultInvalidState states.Prepared ∷
    row any states.Prepared notices.Rollback acts.RecordAndSendAborted states.None ∷
    row any states.PreparedSuccess notices.Prepare acts.SendPrepared states.PreparedSuccess ∷
    row any states.PreparedSuccess notices.Commit acts.Commit states.Committing ∷
    row any states.PreparedSuccess notices.Rollback acts.RecordAndSendAborted states.None ∷
    row any states.Committing notices.Prepare acts.Ignore states.Committing ∷
    row any states.Committing notices.Commit acts.Ignore states.Committing ∷
    row any states.Committing notices.Rollback acts.FaultInvalidState states.Committing ∷ []

-- The completion seat, at a message of the initiator (WS-AtomicTransaction 1.2, section 3.2). Done is kept beyond the
-- transaction, so that an initiator that asks again hears of the commit.
abbrev pub completion_table : List Row
completion_table =
    row any states.None notices.Commit acts.FaultUnknownTransaction states.None ∷
    row any states.None notices.Rollback acts.FaultUnknownTransaction states.None ∷
    row any states.Active notices.Commit acts.Complete states.Completing ∷
    row any states.Active notices.Rollback acts.AbortAndSendAborted states.None ∷
    row any states.Completing notices.Commit acts.Ignore states.Completing ∷
    row any states.Completing notices.Rollback acts.FaultInvalidState states.Completing ∷
    row any states.Done notices.Commit acts.SendCommitted states.Done ∷
    row any states.Done notices.Rollback acts.FaultInvalidState states.Done ∷ []

-- An initiator's activity, at a message of the coordinator.
abbrev pub initiator_table : List Row
initiator_table =
    row any states.None notices.Committed acts.Ignore states.None ∷
    row any states.None notices.Aborted acts.Ignore states.None ∷
    row any states.Active notices.Committed acts.FaultInvalidState states.Active ∷
    row any states.Active notices.Aborted acts.TellAborted states.None ∷
    row any states.Completing notices.Committed acts.TellCommitted states.None ∷
    row any states.Completing notices.Aborted acts.TellAborted states.None ∷ []

abbrev pub is_for : Option Kind → Kind → Bool
is_for None k = true
is_for (Some only) k = is_kind only k

-- the first row for these, and its cell
abbrev pub find_cell : Kind → State → Notice → List Row → Option Cell
find_cell k s n [] = None
find_cell k s n (r ∷ rs) =
    if is_for r.kind k && is_state r.state s && is_notice r.notice n
    then Some r.cell
    else find_cell k s n rs

abbrev pub coordinator_of : Kind → State → Notice → Option Cell
coordinator_of k s n = find_cell k s n coordinator_table

abbrev pub participant_of : Kind → State → Notice → Option Cell
participant_of k s n = find_cell k s n participant_table

-- these two tables tell no kinds apart
abbrev pub completion_of : State → Notice → Option Cell
completion_of s n = find_cell kinds.Durable s n completion_table

abbrev pub initiator_of : State → Notice → Option Cell
initiator_of s n = find_cell kinds.Durable s n initiator_table
