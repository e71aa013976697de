-- What a notification may spend beyond 1 for itself, and what the acts that the tables draw from it cost at most.
use Rattle.std.specs.Prelude.{ℕ, Option, Some, None, Bool, true, false, not, ◌+◌, nat_le, ◌≡◌, ◌≤◌, refl}
use Rattle.std.proofs.Common.{arith}
use Rattle.std.proofs.lemmas.Bool.{leb-true}
use Rattle.at_base.specs.declared.notice.Kind.{Kind}
use Rattle.at_base.specs.declared.notice.Kind.TheVariants as kinds
use Rattle.at_base.specs.declared.notice.Notice.{Notice}
use Rattle.at_base.specs.declared.notice.Notice.TheVariants as notices
use Rattle.at_tables.specs.declared.cells.State.{State}
use Rattle.at_tables.specs.declared.cells.State.TheVariants as states
use Rattle.at_tables.specs.declared.cells.Act.{Act}
use Rattle.at_tables.specs.declared.cells.Act.TheVariants as acts
use Rattle.at_tables.specs.declared.cells.Cell.{Cell}
use Rattle.at_tables.specs.Names.{is_state}
use Rattle.at_tables.specs.Tables.{coordinator_of, participant_of, completion_of, initiator_of}
use Rattle.settling.proofs.Entries.{at_entry, state_is}
use Rattle.settling.specs.Load.{notice_weight}

abbrev pub spare : Notice → ℕ
spare notices.Prepare = 4
spare notices.Prepared = 3
spare notices.Commit = 2
spare notices.Rollback = 2
spare notices.ReadOnly = 1
spare notices.Aborted = 1
spare notices.Committed = 1

pub spare_is : (n : Notice) → spare n + 1 ≡ notice_weight n
spare_is notices.Prepare = refl
spare_is notices.Prepared = refl
spare_is notices.Commit = refl
spare_is notices.Rollback = refl
spare_is notices.ReadOnly = refl
spare_is notices.Aborted = refl
spare_is notices.Committed = refl

pub spare_some : (n : Notice) → 1 ≤ spare n
spare_some notices.Prepare = omega arith
spare_some notices.Prepared = omega arith
spare_some notices.Commit = omega arith
spare_some notices.Rollback = omega arith
spare_some notices.ReadOnly = omega arith
spare_some notices.Aborted = omega arith
spare_some notices.Committed = omega arith

-- beyond what the item that acts pays itself
abbrev pub cost : Act → ℕ
cost acts.SendPrepared = 4
cost acts.SendCommit = 3
cost acts.SendRollback = 3
cost acts.SendCommitted = 2
cost acts.SendAborted = 2
cost acts.FaultUnknownTransaction = 1
cost acts.FaultInvalidState = 1
cost acts.FaultInvalidStateAndAbort = 1
cost acts.Gather = 4
cost acts.Commit = 2
cost acts.AbortAndSendAborted = 2
cost acts.RecordAndSendAborted = 2
cost acts.Complete = 2
cost other = 0

abbrev is_within : Notice → Option Cell → Bool
is_within n None = true
is_within n (Some c) = nat_le (cost c.act) (spare n)

abbrev pub Within : Notice → Option Cell → Type 0
Within n None = Unit {0}
Within n (Some c) = cost c.act ≤ spare n

within : (n : Notice) (c : Option Cell) → is_within n c ≡ true → Within n c
within n None e = tt
within n (Some c) e = leb-true (cost c.act) (spare n) e

pub coordinator_within : (k : Kind) (s : State) (n : Notice) → Within n (coordinator_of k s n)
coordinator_within k s n = within n (coordinator_of k s n) (at_entry (λ k s n. is_within n (coordinator_of k s n)) refl k s n)

pub participant_within : (k : Kind) (s : State) (n : Notice) → Within n (participant_of k s n)
participant_within k s n = within n (participant_of k s n) (at_entry (λ k s n. is_within n (participant_of k s n)) refl k s n)

pub completion_within : (s : State) (n : Notice) → Within n (completion_of s n)
completion_within s n = within n (completion_of s n) (at_entry (λ k s n. is_within n (completion_of s n)) refl kinds.Durable s n)

pub initiator_within : (s : State) (n : Notice) → Within n (initiator_of s n)
initiator_within s n = within n (initiator_of s n) (at_entry (λ k s n. is_within n (initiator_of s n)) refl kinds.Durable s n)

-- a vote is counted of a seat that was asked
abbrev pub VotesAt : State → Act → Type 0
VotesAt state acts.Vote = state ≡ states.Preparing
VotesAt state other = Unit {0}

abbrev pub VotesWhere : State → Option Cell → Type 0
VotesWhere state None = Unit {0}
VotesWhere state (Some c) = VotesAt state c.act

abbrev is_asked : State → Act → Bool
is_asked state acts.Vote = is_state state states.Preparing
is_asked state other = true

abbrev is_asked_where : State → Option Cell → Bool
is_asked_where state None = true
is_asked_where state (Some c) = is_asked state c.act

votes_at : (state : State) (a : Act) → is_asked state a ≡ true → VotesAt state a
votes_at state acts.Vote e = state_is state states.Preparing e
votes_at state other e = tt

votes_where : (state : State) (c : Option Cell) → is_asked_where state c ≡ true → VotesWhere state c
votes_where state None e = tt
votes_where state (Some c) e = votes_at state c.act e

pub seat_votes : (k : Kind) (s : State) (n : Notice) → VotesWhere s (coordinator_of k s n)
seat_votes k s n = votes_where s (coordinator_of k s n) (at_entry (λ k s n. is_asked_where s (coordinator_of k s n)) refl k s n)

-- what completes is a seat that isn't None
abbrev pub CompletesAt : State → Act → Type 0
CompletesAt state acts.Complete = is_state state states.None ≡ false
CompletesAt state other = Unit {0}

abbrev pub CompletesWhere : State → Option Cell → Type 0
CompletesWhere state None = Unit {0}
CompletesWhere state (Some c) = CompletesAt state c.act

abbrev is_running : State → Act → Bool
is_running state acts.Complete = not (is_state state states.None)
is_running state other = true

abbrev is_running_where : State → Option Cell → Bool
is_running_where state None = true
is_running_where state (Some c) = is_running state c.act

not_so : (b : Bool) → not b ≡ true → b ≡ false
not_so true e = absurd cc
not_so false e = refl

completes_at : (state : State) (a : Act) → is_running state a ≡ true → CompletesAt state a
completes_at state acts.Complete e = not_so (is_state state states.None) e
completes_at state other e = tt

completes_where : (state : State) (c : Option Cell) → is_running_where state c ≡ true → CompletesWhere state c
completes_where state None e = tt
completes_where state (Some c) e = completes_at state c.act e

pub seat_completes : (s : State) (n : Notice) → CompletesWhere s (completion_of s n)
seat_completes s n = completes_where s (completion_of s n) (at_entry (λ k s n. is_running_where s (completion_of s n)) refl kinds.Durable s n)
