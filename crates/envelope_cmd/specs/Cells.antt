-- What `cell` prints: the cell of a state that a notification meets and the envelope that the cell posts, or the line of
-- the first refusal.
use Rattle.std.specs.Prelude.{ℕ, List, [], ◌++◌, Option, Some, None, Result, Ok, Err, codes, ◌≡◌}
use Rattle.std.specs.Option.{option_map}
use Rattle.at_base.specs.declared.fault.Fault.{Fault}
use Rattle.at_base.specs.declared.fault.Fault.TheVariants.{InvalidState, UnknownTransaction}
use Rattle.at_base.specs.declared.epr.Epr.{Epr}
use Rattle.at_base.specs.declared.epr.Reply.TheVariants.{Nobody}
use Rattle.at_base.specs.declared.message.Message.{Message}
use Rattle.at_base.specs.declared.message.Message.TheVariants.{Notice as Notification}
use Rattle.at_base.specs.declared.notice.Notice.{Notice}
use Rattle.at_base.specs.declared.notice.Notice.TheVariants as notices
use Rattle.at_base.specs.declared.outs.Post.{Post}
use Rattle.at_base.specs.declared.target.Target.{Target}
use Rattle.at_base.specs.declared.target.Target.TheVariants as targets
use Rattle.at_model.specs.Posts.{fault_post, from_on}
use Rattle.at_tables.specs.declared.cells.Act.{Act}
use Rattle.at_tables.specs.declared.cells.Act.TheVariants as acts
use Rattle.at_tables.specs.declared.cells.Cell.{Cell}
use Rattle.at_tables.specs.declared.cells.State.{State}
use Rattle.at_tables.specs.Tables.{completion_of, coordinator_of, initiator_of, participant_of}
use Rattle.at_tables.specs.Texts.{act_text, state_name}
use Rattle.addressing.specs.PostAddresses.{post_to_of}
use Rattle.wire_msgs.specs.declared.decode.Arrival.{Arrival}
use Rattle.wire_msgs.specs.declared.refusal.Refusal.{Refusal}
use Rattle.wire_posts.specs.Envelopes.{IsTextOf}
use Rattle.envelope_cmd.specs.declared.table.NoRow.{NoRow}
use Rattle.envelope_cmd.specs.declared.table.NoRow.TheVariants.{NoCell, NoState}
use Rattle.envelope_cmd.specs.Output.{Output, accepted, refused}
use Rattle.envelope_cmd.specs.RequestMeanings.{Says}
use Rattle.envelope_cmd.specs.Refusals.{refusal_line}
use Rattle.xml_grammar.specs.Characters.{◌>>=◌}

-- the cell of the table that a target chooses (WS-AtomicTransaction 1.2, section 10); services have none
abbrev pub cell_at : Target → State → Notice → Option Cell
cell_at (targets.Coordinator id seat) state notice = coordinator_of seat.kind state notice
cell_at (targets.Participant id kind) state notice = participant_of kind state notice
cell_at (targets.Completion id) state notice = completion_of state notice
cell_at (targets.Initiator id) state notice = initiator_of state notice
cell_at target state notice = None

abbrev pub or_no_state : Option Cell → Result Cell NoRow
or_no_state (Some cell) = Ok cell
or_no_state None = Err NoState

-- a table has rows for notifications alone, and not for each state
abbrev pub meets : Target → State → Message → Result Cell NoRow
meets target state (Notification notice) = or_no_state (cell_at target state notice)
meets target state message = Err NoCell

abbrev pub no_row_line : NoRow → List ℕ
no_row_line NoCell = codes "refused 14 NoCell\n"
no_row_line NoState = codes "refused 15 NoState\n"

-- a notification, from where no seat of a node is told
abbrev pub notification : Epr → Epr → Notice → Post
notification to own notice = record {
  own = None;
  to = Some to;
  id = None;
  relates = None;
  from = from_on notice own;
  reply = Some Nobody;
  message = Notification notice;
}

-- the notification that an act sends
abbrev pub notice_of : Act → Option Notice
notice_of acts.SendPrepared = Some notices.Prepared
notice_of acts.SendCommit = Some notices.Commit
notice_of acts.SendRollback = Some notices.Rollback
notice_of acts.SendCommitted = Some notices.Committed
notice_of acts.SendAborted = Some notices.Aborted
notice_of acts.AbortAndSendAborted = Some notices.Aborted
notice_of acts.RecordAndSendAborted = Some notices.Aborted
notice_of act = None

-- the fault that an act posts
abbrev pub fault_of : Act → Option Fault
fault_of acts.FaultUnknownTransaction = Some UnknownTransaction
fault_of acts.FaultInvalidState = Some InvalidState
fault_of acts.FaultInvalidStateAndAbort = Some InvalidState
fault_of act = None

-- one of these to an endpoint: a notification from an own one, a fault related to the message's id
abbrev pub sent : Option Notice → Option Fault → Epr → Epr → Option (List ℕ) → Option Post
sent (Some notice) fault to own id = Some (notification to own notice)
sent None (Some fault) to own id = Some (fault_post (Some to) id fault)
sent None None to own id = None

-- an endpoint without reference parameters
abbrev pub endpoint_at : List ℕ → Epr
endpoint_at address = record { address = address; params = [] }

-- where the message names its sender and its destination, and the sender can be posted to, the answer goes to the one
-- from the other (WS-Addressing 1.0 Core, section 3.4)
abbrev pub posted : Arrival → Act → Option Post
posted a act = do
  from ← a.from
  to ← a.to
  _ ← post_to_of from.address
  sent (notice_of act) (fault_of act) from (endpoint_at to) a.id

-- the envelope of a post, on a line
abbrev pub IsPosted : Option Post → List ℕ → Type 0
IsPosted None text = text ≡ []
IsPosted (Some post) text = (envelope : List ℕ) × IsTextOf post envelope × (text ≡ envelope ++ codes "\n")

abbrev pub cell_line : Cell → List ℕ
cell_line cell = act_text cell.act ++ (codes " -> " ++ (state_name cell.next ++ codes "\n"))

-- what is printed for a message that arrives: the cell that it meets and what this posts
pub record IsCellPrinted (a : Arrival) (cell : Cell) (output : Output) : Type 0 where
  pub envelope : List ℕ
  pub posts : IsPosted (posted a cell.act) envelope
  pub prints : output ≡ accepted (cell_line cell ++ envelope)

abbrev pub IsMetPrinted : Arrival → Result Cell NoRow → Output → Type 0
IsMetPrinted a (Ok cell) output = IsCellPrinted a cell output
IsMetPrinted a (Err none) output = output ≡ refused (no_row_line none)

-- what is printed for what the bytes mean; want of memory isn't printed
abbrev pub IsCellTold : State → Result Arrival Refusal → Output → Type 0
IsCellTold state (Ok a) output = IsMetPrinted a (meets a.target state a.message) output
IsCellTold state (Err refusal) output = option_map refused (refusal_line refusal) ≡ Some output

-- `cell` prints this for an envelope in a state
pub record IsCellOf (bytes : List ℕ) (state : State) (output : Output) : Type 0 where
  pub said : Result Arrival Refusal
  pub says : Says bytes (codes "/") said
  pub tells : IsCellTold state said output
