-- What the participant's table does on a subordinate's link.
use Rattle.std.specs.Prelude.{Option, Some, None, ◌≡◌, ◌⊎◌, refl}
use Rattle.std.proofs.Common.{inl, inr}
use Rattle.at_base.specs.declared.notice.Kind.{Kind}
use Rattle.at_base.specs.declared.notice.Kind.TheVariants as kinds
use Rattle.at_base.specs.declared.notice.Notice.{Notice}
use Rattle.at_base.specs.declared.notice.Notice.TheVariants as notices
use Rattle.at_tables.specs.declared.cells.State.{State}
use Rattle.at_tables.specs.declared.cells.State.TheVariants as states
use Rattle.at_tables.specs.declared.cells.Act.{Act}
use Rattle.at_tables.specs.declared.cells.Act.TheVariants as acts
use Rattle.at_tables.specs.declared.cells.Cell.{Cell}
use Rattle.at_tables.specs.Tables.{participant_of}
use Rattle.owed.specs.Links.{IsEarly}

-- a link that aborts
abbrev pub MayRoll : State → Type 0
MayRoll states.Registering = Unit {0}
MayRoll states.Active = Unit {0}
MayRoll states.Preparing = Unit {0}
MayRoll states.Prepared = Unit {0}
MayRoll states.PreparedSuccess = Unit {0}
MayRoll other = ⊥

-- one that is asked in vain
abbrev pub IsDeaf : State → Type 0
IsDeaf states.Registering = Unit {0}
IsDeaf states.Preparing = Unit {0}
IsDeaf states.Committing = Unit {0}
IsDeaf states.Prepared = Unit {0}
IsDeaf states.Aborting = Unit {0}
IsDeaf states.Completing = Unit {0}
IsDeaf states.Done = Unit {0}
IsDeaf other = ⊥

-- one that doesn't hear the outcome
abbrev pub IsDone : State → Type 0
IsDone states.Committing = Unit {0}
IsDone states.Aborting = Unit {0}
IsDone states.Completing = Unit {0}
IsDone states.Done = Unit {0}
IsDone other = ⊥

abbrev pub Passes : State → Notice → Type 0
Passes state notices.Prepare = IsDeaf state
Passes state notices.Commit = IsDone state
Passes state notices.Rollback = IsDone state
Passes state other = Unit {0}

abbrev pub LinkHears : State → Notice → Act → Type 0
LinkHears state n acts.Gather = (state ≡ states.Active) × (n ≡ notices.Prepare)
LinkHears state n acts.Commit = (state ≡ states.PreparedSuccess) × (n ≡ notices.Commit)
LinkHears state n acts.SendPrepared = (state ≡ states.PreparedSuccess) × (n ≡ notices.Prepare)
LinkHears state n acts.SendCommitted = (state ≡ states.None) × (n ≡ notices.Commit)
LinkHears state n acts.SendAborted = (state ≡ states.None) × ((n ≡ notices.Prepare) ⊎ (n ≡ notices.Rollback))
LinkHears state n acts.AbortAndSendAborted = MayRoll state × (n ≡ notices.Rollback)
LinkHears state n acts.RecordAndSendAborted = MayRoll state × (n ≡ notices.Rollback)
LinkHears state n acts.FaultInvalidStateAndAbort = (MayRoll state × IsEarly state) × (n ≡ notices.Commit)
LinkHears state n acts.FaultInvalidState = ((state ≡ states.Committing) × (n ≡ notices.Rollback)) ⊎ ((state ≡ states.Prepared) × (n ≡ notices.Commit))
LinkHears state n other = Passes state n

abbrev pub LinkHearsCell : State → Notice → Option Cell → Type 0
LinkHearsCell state n None = Passes state n
LinkHearsCell state n (Some c) = LinkHears state n c.act

pub link_hears : (kind : Kind) (state : State) (n : Notice) → LinkHearsCell state n (participant_of kind state n)
link_hears kinds.Volatile states.None notices.Prepare = (refl, inl refl)
link_hears kinds.Volatile states.None notices.Commit = (refl, refl)
link_hears kinds.Volatile states.None notices.Rollback = (refl, inr refl)
link_hears kinds.Volatile states.None notices.Prepared = tt
link_hears kinds.Volatile states.None notices.ReadOnly = tt
link_hears kinds.Volatile states.None notices.Aborted = tt
link_hears kinds.Volatile states.None notices.Committed = tt
link_hears kinds.Volatile states.Registering notices.Prepare = tt
link_hears kinds.Volatile states.Registering notices.Commit = ((tt, tt), refl)
link_hears kinds.Volatile states.Registering notices.Rollback = (tt, refl)
link_hears kinds.Volatile states.Registering notices.Prepared = tt
link_hears kinds.Volatile states.Registering notices.ReadOnly = tt
link_hears kinds.Volatile states.Registering notices.Aborted = tt
link_hears kinds.Volatile states.Registering notices.Committed = tt
link_hears kinds.Volatile states.Active notices.Prepare = (refl, refl)
link_hears kinds.Volatile states.Active notices.Commit = ((tt, tt), refl)
link_hears kinds.Volatile states.Active notices.Rollback = (tt, refl)
link_hears kinds.Volatile states.Active notices.Prepared = tt
link_hears kinds.Volatile states.Active notices.ReadOnly = tt
link_hears kinds.Volatile states.Active notices.Aborted = tt
link_hears kinds.Volatile states.Active notices.Committed = tt
link_hears kinds.Volatile states.Preparing notices.Prepare = tt
link_hears kinds.Volatile states.Preparing notices.Commit = ((tt, tt), refl)
link_hears kinds.Volatile states.Preparing notices.Rollback = (tt, refl)
link_hears kinds.Volatile states.Preparing notices.Prepared = tt
link_hears kinds.Volatile states.Preparing notices.ReadOnly = tt
link_hears kinds.Volatile states.Preparing notices.Aborted = tt
link_hears kinds.Volatile states.Preparing notices.Committed = tt
link_hears kinds.Volatile states.Prepared notices.Prepare = tt
link_hears kinds.Volatile states.Prepared notices.Commit = inr (refl, refl)
link_hears kinds.Volatile states.Prepared notices.Rollback = (tt, refl)
link_hears kinds.Volatile states.Prepared notices.Prepared = tt
link_hears kinds.Volatile states.Prepared notices.ReadOnly = tt
link_hears kinds.Volatile states.Prepared notices.Aborted = tt
link_hears kinds.Volatile states.Prepared notices.Committed = tt
link_hears kinds.Volatile states.PreparedSuccess notices.Prepare = (refl, refl)
link_hears kinds.Volatile states.PreparedSuccess notices.Commit = (refl, refl)
link_hears kinds.Volatile states.PreparedSuccess notices.Rollback = (tt, refl)
link_hears kinds.Volatile states.PreparedSuccess notices.Prepared = tt
link_hears kinds.Volatile states.PreparedSuccess notices.ReadOnly = tt
link_hears kinds.Volatile states.PreparedSuccess notices.Aborted = tt
link_hears kinds.Volatile states.PreparedSuccess notices.Committed = tt
link_hears kinds.Volatile states.Committing notices.Prepare = tt
link_hears kinds.Volatile states.Committing notices.Commit = tt
link_hears kinds.Volatile states.Committing notices.Rollback = inl (refl, refl)
link_hears kinds.Volatile states.Committing notices.Prepared = tt
link_hears kinds.Volatile states.Committing notices.ReadOnly = tt
link_hears kinds.Volatile states.Committing notices.Aborted = tt
link_hears kinds.Volatile states.Committing notices.Committed = tt
link_hears kinds.Volatile states.Aborting notices.Prepare = tt
link_hears kinds.Volatile states.Aborting notices.Commit = tt
link_hears kinds.Volatile states.Aborting notices.Rollback = tt
link_hears kinds.Volatile states.Aborting notices.Prepared = tt
link_hears kinds.Volatile states.Aborting notices.ReadOnly = tt
link_hears kinds.Volatile states.Aborting notices.Aborted = tt
link_hears kinds.Volatile states.Aborting notices.Committed = tt
link_hears kinds.Volatile states.Completing notices.Prepare = tt
link_hears kinds.Volatile states.Completing notices.Commit = tt
link_hears kinds.Volatile states.Completing notices.Rollback = tt
link_hears kinds.Volatile states.Completing notices.Prepared = tt
link_hears kinds.Volatile states.Completing notices.ReadOnly = tt
link_hears kinds.Volatile states.Completing notices.Aborted = tt
link_hears kinds.Volatile states.Completing notices.Committed = tt
link_hears kinds.Volatile states.Done notices.Prepare = tt
link_hears kinds.Volatile states.Done notices.Commit = tt
link_hears kinds.Volatile states.Done notices.Rollback = tt
link_hears kinds.Volatile states.Done notices.Prepared = tt
link_hears kinds.Volatile states.Done notices.ReadOnly = tt
link_hears kinds.Volatile states.Done notices.Aborted = tt
link_hears kinds.Volatile states.Done notices.Committed = tt
link_hears kinds.Durable states.None notices.Prepare = (refl, inl refl)
link_hears kinds.Durable states.None notices.Commit = (refl, refl)
link_hears kinds.Durable states.None notices.Rollback = (refl, inr refl)
link_hears kinds.Durable states.None notices.Prepared = tt
link_hears kinds.Durable states.None notices.ReadOnly = tt
link_hears kinds.Durable states.None notices.Aborted = tt
link_hears kinds.Durable states.None notices.Committed = tt
link_hears kinds.Durable states.Registering notices.Prepare = tt
link_hears kinds.Durable states.Registering notices.Commit = ((tt, tt), refl)
link_hears kinds.Durable states.Registering notices.Rollback = (tt, refl)
link_hears kinds.Durable states.Registering notices.Prepared = tt
link_hears kinds.Durable states.Registering notices.ReadOnly = tt
link_hears kinds.Durable states.Registering notices.Aborted = tt
link_hears kinds.Durable states.Registering notices.Committed = tt
link_hears kinds.Durable states.Active notices.Prepare = (refl, refl)
link_hears kinds.Durable states.Active notices.Commit = ((tt, tt), refl)
link_hears kinds.Durable states.Active notices.Rollback = (tt, refl)
link_hears kinds.Durable states.Active notices.Prepared = tt
link_hears kinds.Durable states.Active notices.ReadOnly = tt
link_hears kinds.Durable states.Active notices.Aborted = tt
link_hears kinds.Durable states.Active notices.Committed = tt
link_hears kinds.Durable states.Preparing notices.Prepare = tt
link_hears kinds.Durable states.Preparing notices.Commit = ((tt, tt), refl)
link_hears kinds.Durable states.Preparing notices.Rollback = (tt, refl)
link_hears kinds.Durable states.Preparing notices.Prepared = tt
link_hears kinds.Durable states.Preparing notices.ReadOnly = tt
link_hears kinds.Durable states.Preparing notices.Aborted = tt
link_hears kinds.Durable states.Preparing notices.Committed = tt
link_hears kinds.Durable states.Prepared notices.Prepare = tt
link_hears kinds.Durable states.Prepared notices.Commit = inr (refl, refl)
link_hears kinds.Durable states.Prepared notices.Rollback = (tt, refl)
link_hears kinds.Durable states.Prepared notices.Prepared = tt
link_hears kinds.Durable states.Prepared notices.ReadOnly = tt
link_hears kinds.Durable states.Prepared notices.Aborted = tt
link_hears kinds.Durable states.Prepared notices.Committed = tt
link_hears kinds.Durable states.PreparedSuccess notices.Prepare = (refl, refl)
link_hears kinds.Durable states.PreparedSuccess notices.Commit = (refl, refl)
link_hears kinds.Durable states.PreparedSuccess notices.Rollback = (tt, refl)
link_hears kinds.Durable states.PreparedSuccess notices.Prepared = tt
link_hears kinds.Durable states.PreparedSuccess notices.ReadOnly = tt
link_hears kinds.Durable states.PreparedSuccess notices.Aborted = tt
link_hears kinds.Durable states.PreparedSuccess notices.Committed = tt
link_hears kinds.Durable states.Committing notices.Prepare = tt
link_hears kinds.Durable states.Committing notices.Commit = tt
link_hears kinds.Durable states.Committing notices.Rollback = inl (refl, refl)
link_hears kinds.Durable states.Committing notices.Prepared = tt
link_hears kinds.Durable states.Committing notices.ReadOnly = tt
link_hears kinds.Durable states.Committing notices.Aborted = tt
link_hears kinds.Durable states.Committing notices.Committed = tt
link_hears kinds.Durable states.Aborting notices.Prepare = tt
link_hears kinds.Durable states.Aborting notices.Commit = tt
link_hears kinds.Durable states.Aborting notices.Rollback = tt
link_hears kinds.Durable states.Aborting notices.Prepared = tt
link_hears kinds.Durable states.Aborting notices.ReadOnly = tt
link_hears kinds.Durable states.Aborting notices.Aborted = tt
link_hears kinds.Durable states.Aborting notices.Committed = tt
link_hears kinds.Durable states.Completing notices.Prepare = tt
link_hears kinds.Durable states.Completing notices.Commit = tt
link_hears kinds.Durable states.Completing notices.Rollback = tt
link_hears kinds.Durable states.Completing notices.Prepared = tt
link_hears kinds.Durable states.Completing notices.ReadOnly = tt
link_hears kinds.Durable states.Completing notices.Aborted = tt
link_hears kinds.Durable states.Completing notices.Committed = tt
link_hears kinds.Durable states.Done notices.Prepare = tt
link_hears kinds.Durable states.Done notices.Commit = tt
link_hears kinds.Durable states.Done notices.Rollback = tt
link_hears kinds.Durable states.Done notices.Prepared = tt
link_hears kinds.Durable states.Done notices.ReadOnly = tt
link_hears kinds.Durable states.Done notices.Aborted = tt
link_hears kinds.Durable states.Done notices.Committed = tt
