-- What a table says is next after each of its acts, computed over all of its entries.
use Rattle.std.proofs.Common.{◌≡◌, refl, subst, Option, Some, None, Bool, true, false, not, ◌||◌}
use Rattle.at_base.specs.declared.notice.Kind.{Kind}
use Rattle.at_base.specs.declared.notice.Kind.TheVariants as kinds
use Rattle.at_base.specs.declared.notice.Notice.{Notice}
use Rattle.at_tables.specs.declared.cells.State.{State}
use Rattle.at_tables.specs.declared.cells.State.TheVariants as states
use Rattle.at_tables.specs.declared.cells.Act.{Act}
use Rattle.at_tables.specs.declared.cells.Act.TheVariants as acts
use Rattle.at_tables.specs.declared.cells.Cell.{Cell}
use Rattle.at_tables.specs.Names.{is_act, is_state}
use Rattle.at_tables.specs.Tables.{coordinator_of, participant_of, completion_of, initiator_of}
use Rattle.settling.proofs.Entries.{at_entry}

-- a participant: next after this act in this state
abbrev pub participant_next : State → Act → State
participant_next s acts.Gather = states.Preparing
participant_next s acts.Commit = states.Committing
participant_next s acts.AbortAndSendAborted = states.None
participant_next s acts.RecordAndSendAborted = states.None
participant_next s acts.FaultInvalidStateAndAbort = states.None
participant_next s other = s

abbrev pub initiator_next : State → Act → State
initiator_next s acts.TellCommitted = states.None
initiator_next s acts.TellAborted = states.None
initiator_next s other = s

abbrev pub completion_next : State → Act → State
completion_next s acts.Complete = states.Completing
completion_next s acts.AbortAndSendAborted = states.None
completion_next s other = s

abbrev pub coordinator_next : State → Act → State
coordinator_next s acts.Leave = states.None
coordinator_next s acts.LeaveAndAbort = states.None
coordinator_next s acts.Vote = states.Prepared
coordinator_next s acts.FaultInvalidStateAndAbort = states.Aborting
coordinator_next s other = s

abbrev fits : (State → Act → State) → State → Option Cell → Bool
fits f s None = true
fits f s (Some c) = is_state c.next (f s c.act)

next_is : (f : State → Act → State) (s : State) (o : Option Cell) (c : Cell) → fits f s o ≡ true → o ≡ Some c → is_state c.next (f s c.act) ≡ true
next_is f s o c h e = subst (λ x. fits f s x ≡ true) e h

pub participant_fits : (k : Kind) (s : State) (n : Notice) (c : Cell) → participant_of k s n ≡ Some c → is_state c.next (participant_next s c.act) ≡ true
participant_fits k s n c e = next_is participant_next s (participant_of k s n) c (at_entry (λ k s n. fits participant_next s (participant_of k s n)) refl k s n) e

pub initiator_fits : (s : State) (n : Notice) (c : Cell) → initiator_of s n ≡ Some c → is_state c.next (initiator_next s c.act) ≡ true
initiator_fits s n c e = next_is initiator_next s (initiator_of s n) c (at_entry (λ k s n. fits initiator_next s (initiator_of s n)) refl kinds.Durable s n) e

pub completion_fits : (s : State) (n : Notice) (c : Cell) → completion_of s n ≡ Some c → is_state c.next (completion_next s c.act) ≡ true
completion_fits s n c e = next_is completion_next s (completion_of s n) c (at_entry (λ k s n. fits completion_next s (completion_of s n)) refl kinds.Durable s n) e

pub coordinator_fits : (k : Kind) (s : State) (n : Notice) (c : Cell) → coordinator_of k s n ≡ Some c → is_state c.next (coordinator_next s c.act) ≡ true
coordinator_fits k s n c e = next_is coordinator_next s (coordinator_of k s n) c (at_entry (λ k s n. fits coordinator_next s (coordinator_of k s n)) refl k s n) e

-- what an abort rolls back
abbrev pub open_in : State → Bool
open_in y = is_state y states.Active || is_state y states.Preparing || is_state y states.Prepared

-- a coordinator aborts with a fault only while the seat is open
abbrev open_at_fault : State → Option Cell → Bool
open_at_fault s None = true
open_at_fault s (Some c) = not (is_act c.act acts.FaultInvalidStateAndAbort) || open_in s

so : (b : Bool) → (false || b) ≡ true → b ≡ true
so b h = h

pub faults_open : (k : Kind) (s : State) (n : Notice) (c : Cell) → coordinator_of k s n ≡ Some c → c.act ≡ acts.FaultInvalidStateAndAbort → open_in s ≡ true
faults_open k s n c e a =
    let test = subst (λ x. open_at_fault s x ≡ true) e (at_entry (λ k s n. open_at_fault s (coordinator_of k s n)) refl k s n) in
    so (open_in s) (subst (λ y. (not (is_act y acts.FaultInvalidStateAndAbort) || open_in s) ≡ true) a test)

-- a participant commits only where it voted
abbrev voted_at_commit : State → Option Cell → Bool
voted_at_commit s None = true
voted_at_commit s (Some c) = not (is_act c.act acts.Commit) || is_state s states.PreparedSuccess

pub commits_voted : (k : Kind) (s : State) (n : Notice) (c : Cell) → participant_of k s n ≡ Some c → c.act ≡ acts.Commit → is_state s states.PreparedSuccess ≡ true
commits_voted k s n c e a =
    let test = subst (λ x. voted_at_commit s x ≡ true) e (at_entry (λ k s n. voted_at_commit s (participant_of k s n)) refl k s n) in
    so (is_state s states.PreparedSuccess) (subst (λ y. (not (is_act y acts.Commit) || is_state s states.PreparedSuccess) ≡ true) a test)
