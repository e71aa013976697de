-- Which state and act one is: their places in the order of their declaration.
use Rattle.std.specs.Prelude.{ℕ, Bool, nat_eq}
use Rattle.at_tables.specs.declared.cells.State.{State}
use Rattle.at_tables.specs.declared.cells.Act.{Act}
use Rattle.at_tables.specs.declared.cells.State.TheVariants as states
use Rattle.at_tables.specs.declared.cells.Act.TheVariants as acts

abbrev pub state_place : State → ℕ
state_place states.None = 0
state_place states.Registering = 1
state_place states.Active = 2
state_place states.Preparing = 3
state_place states.Prepared = 4
state_place states.PreparedSuccess = 5
state_place states.Committing = 6
state_place states.Aborting = 7
state_place states.Completing = 8
state_place states.Done = 9

abbrev pub act_place : Act → ℕ
act_place acts.Ignore = 0
act_place acts.SendPrepared = 1
act_place acts.SendCommit = 2
act_place acts.SendRollback = 3
act_place acts.SendCommitted = 4
act_place acts.SendAborted = 5
act_place acts.FaultUnknownTransaction = 6
act_place acts.FaultInvalidState = 7
act_place acts.FaultInvalidStateAndAbort = 8
act_place acts.Leave = 9
act_place acts.LeaveAndAbort = 10
act_place acts.Vote = 11
act_place acts.Gather = 12
act_place acts.Commit = 13
act_place acts.AbortAndSendAborted = 14
act_place acts.RecordAndSendAborted = 15
act_place acts.Complete = 16
act_place acts.TellCommitted = 17
act_place acts.TellAborted = 18

abbrev pub is_state : State → State → Bool
is_state a b = nat_eq (state_place a) (state_place b)

abbrev pub is_act : Act → Act → Bool
is_act a b = nat_eq (act_place a) (act_place b)
