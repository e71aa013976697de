-- What the state tables of WS-AtomicTransaction 1.2 (sections 3 and 10) promise in words, cell by cell.
use Rattle.std.specs.Prelude.{Some, None, ◌≡◌, ◌⊎◌}
use Rattle.at_base.specs.declared.notice.Kind.{Kind}
use Rattle.at_base.specs.declared.notice.Notice.{Notice}
use Rattle.at_base.specs.declared.notice.Kind.TheVariants as kinds
use Rattle.at_base.specs.declared.notice.Notice.TheVariants as notices
use Rattle.at_tables.specs.declared.cells.State.{State}
use Rattle.at_tables.specs.declared.cells.Act.{Act}
use Rattle.at_tables.specs.declared.cells.Cell.{Cell}
use Rattle.at_tables.specs.declared.cells.State.TheVariants as states
use Rattle.at_tables.specs.declared.cells.Act.TheVariants as acts
use Rattle.at_tables.specs.Tables.{coordinator_of, participant_of, completion_of, initiator_of}

-- A message alone brings no seat to Committing: only a decision does (section 3.3.3).
abbrev pub NoMessageCommits : Type 0
NoMessageCommits = (kind : Kind) (state : State) (notice : Notice) (cell : Cell)
    → coordinator_of kind state notice ≡ Some cell → cell.next ≡ states.Committing → state ≡ states.Committing

-- A seat comes to Prepared by the message Prepared alone, at Preparing, and the vote is noted there alone.
abbrev pub VotesAtPreparing : Type 0
VotesAtPreparing = (kind : Kind) (state : State) (notice : Notice) (cell : Cell)
    → coordinator_of kind state notice ≡ Some cell → cell.act ≡ acts.Vote
    → (state ≡ states.Preparing) × (notice ≡ notices.Prepared) × (cell.next ≡ states.Prepared)

-- Committed at Committing ends the seat (section 3.3.4).
abbrev pub CommittedEnds : Type 0
CommittedEnds = (kind : Kind)
    → coordinator_of kind states.Committing notices.Committed ≡ Some (record { act = acts.Leave; next = states.None })

-- A seat that is Committing stays so or ends by Committed: no message undoes a decision.
abbrev pub DecisionStands : Type 0
DecisionStands = (kind : Kind) (notice : Notice) (cell : Cell)
    → coordinator_of kind states.Committing notice ≡ Some cell
    → (cell.next ≡ states.Committing) ⊎ ((notice ≡ notices.Committed) × (cell.next ≡ states.None))

-- Commit is sent to a seat that is Committing and to no other, as an answer to Prepared.
abbrev pub CommitAfterDecision : Type 0
CommitAfterDecision = (kind : Kind) (state : State) (notice : Notice) (cell : Cell)
    → coordinator_of kind state notice ≡ Some cell → cell.act ≡ acts.SendCommit
    → (state ≡ states.Committing) × (notice ≡ notices.Prepared)

-- Presumed abort: a durable Prepared where nothing is known is answered with Rollback (section 3.3.4).
abbrev pub PresumesAbort : Type 0
PresumesAbort =
    coordinator_of kinds.Durable states.None notices.Prepared ≡ Some (record { act = acts.SendRollback; next = states.None })

-- Where nothing is known nothing begins: None is left by no message.
abbrev pub NothingBegins : Type 0
NothingBegins = (kind : Kind) (notice : Notice) (cell : Cell)
    → ((coordinator_of kind states.None notice ≡ Some cell) ⊎ (participant_of kind states.None notice ≡ Some cell))
    → cell.next ≡ states.None

-- A participant sends Prepared only at PreparedSuccess, after its vote is recorded (section 3.3.3).
abbrev pub PreparedAfterVote : Type 0
PreparedAfterVote = (kind : Kind) (state : State) (notice : Notice) (cell : Cell)
    → participant_of kind state notice ≡ Some cell → cell.act ≡ acts.SendPrepared → state ≡ states.PreparedSuccess

-- A participant commits only at PreparedSuccess, and only when it is told to.
abbrev pub CommitsWhenTold : Type 0
CommitsWhenTold = (kind : Kind) (state : State) (notice : Notice) (cell : Cell)
    → participant_of kind state notice ≡ Some cell → cell.act ≡ acts.Commit
    → (state ≡ states.PreparedSuccess) × (notice ≡ notices.Commit)

-- A participant in doubt (PreparedSuccess) leaves that state by Commit or by Rollback alone: it neither gives up nor
-- decides by itself.
abbrev pub StaysInDoubt : Type 0
StaysInDoubt = (kind : Kind) (notice : Notice) (cell : Cell)
    → participant_of kind states.PreparedSuccess notice ≡ Some cell
    → (cell.next ≡ states.PreparedSuccess) ⊎ (((notice ≡ notices.Commit) × (cell.next ≡ states.Committing))
    ⊎ ((notice ≡ notices.Rollback) × (cell.next ≡ states.None)))

-- A participant answers Committed only to a Commit, where it holds nothing any more.
abbrev pub CommittedWhenDone : Type 0
CommittedWhenDone = (kind : Kind) (state : State) (notice : Notice) (cell : Cell)
    → participant_of kind state notice ≡ Some cell → cell.act ≡ acts.SendCommitted
    → (state ≡ states.None) × (notice ≡ notices.Commit)

-- A participant that is Committing stays so: it takes no Rollback.
abbrev pub CommitIsFinal : Type 0
CommitIsFinal = (kind : Kind) (notice : Notice) (cell : Cell)
    → participant_of kind states.Committing notice ≡ Some cell → cell.next ≡ states.Committing

-- The application is told committed only by Committed, and only after it asked for the commit (section 3.2).
abbrev pub ToldCommittedWhenAsked : Type 0
ToldCommittedWhenAsked = (state : State) (notice : Notice) (cell : Cell)
    → initiator_of state notice ≡ Some cell → cell.act ≡ acts.TellCommitted
    → (state ≡ states.Completing) × (notice ≡ notices.Committed)

-- Completion begins once: at Active, by Commit (section 3.2).
abbrev pub CompletesOnce : Type 0
CompletesOnce = (state : State) (notice : Notice) (cell : Cell)
    → completion_of state notice ≡ Some cell → cell.act ≡ acts.Complete
    → (state ≡ states.Active) × (notice ≡ notices.Commit)

-- An outcome that is kept stays: Done is left by no message, and only Done answers Committed.
abbrev pub OutcomeStays : Type 0
OutcomeStays = (state : State) (notice : Notice) (cell : Cell)
    → completion_of state notice ≡ Some cell
    → (state ≡ states.Done → cell.next ≡ states.Done)
    × (cell.act ≡ acts.SendCommitted → (state ≡ states.Done) × (notice ≡ notices.Commit))

-- No cell of a coordinator's seat or of a participant answers InvalidState with a change of the state, unless it aborts too.
abbrev pub FaultKeepsState : Type 0
FaultKeepsState = (kind : Kind) (state : State) (notice : Notice) (cell : Cell)
    → ((coordinator_of kind state notice ≡ Some cell) ⊎ (participant_of kind state notice ≡ Some cell))
    → cell.act ≡ acts.FaultInvalidState → cell.next ≡ state
