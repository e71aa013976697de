-- How a state is named and how an act is printed.
use Rattle.std.specs.Prelude.{ℕ, List, codes}
use Rattle.at_tables.specs.declared.cells.State.{State}
use Rattle.at_tables.specs.declared.cells.Act.{Act}
use Rattle.at_tables.specs.declared.cells.State.TheVariants as states
use Rattle.at_tables.specs.declared.cells.Act.TheVariants as acts

abbrev pub state_name : State → List ℕ
state_name states.None = codes "None"
state_name states.Registering = codes "Registering"
state_name states.Active = codes "Active"
state_name states.Preparing = codes "Preparing"
state_name states.Prepared = codes "Prepared"
state_name states.PreparedSuccess = codes "PreparedSuccess"
state_name states.Committing = codes "Committing"
state_name states.Aborting = codes "Aborting"
state_name states.Completing = codes "Completing"
state_name states.Done = codes "Done"

abbrev pub act_text : Act → List ℕ
act_text acts.Ignore = codes "ignore"
act_text acts.SendPrepared = codes "send Prepared"
act_text acts.SendCommit = codes "send Commit"
act_text acts.SendRollback = codes "send Rollback"
act_text acts.SendCommitted = codes "send Committed"
act_text acts.SendAborted = codes "send Aborted"
act_text acts.FaultUnknownTransaction = codes "fault UnknownTransaction"
act_text acts.FaultInvalidState = codes "fault InvalidState"
act_text acts.FaultInvalidStateAndAbort = codes "fault InvalidState +abort"
act_text acts.Leave = codes "leave"
act_text acts.LeaveAndAbort = codes "leave +abort"
act_text acts.Vote = codes "vote"
act_text acts.Gather = codes "gather"
act_text acts.Commit = codes "commit"
act_text acts.AbortAndSendAborted = codes "abort send Aborted"
act_text acts.RecordAndSendAborted = codes "record send Aborted"
act_text acts.Complete = codes "complete"
act_text acts.TellCommitted = codes "told committed"
act_text acts.TellAborted = codes "told aborted"
