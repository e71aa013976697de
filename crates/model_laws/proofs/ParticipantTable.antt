-- At which state of a link the participant's table asks for votes, and at which it commits.
use Rattle.std.specs.Prelude.{Option, Some, None, ◌≡◌, refl}
use Rattle.at_base.specs.declared.notice.Kind.{Kind}
use Rattle.at_base.specs.declared.notice.Kind.TheVariants as kinds
use Rattle.at_base.specs.declared.notice.Notice.{Notice}
use Rattle.at_base.specs.declared.notice.Notice.TheVariants as notices
use Rattle.at_tables.specs.declared.cells.State.{State}
use Rattle.at_tables.specs.declared.cells.State.TheVariants as states
use Rattle.at_tables.specs.declared.cells.Act.{Act}
use Rattle.at_tables.specs.declared.cells.Act.TheVariants as acts
use Rattle.at_tables.specs.declared.cells.Cell.{Cell}
use Rattle.at_tables.specs.Tables.{participant_of}

abbrev pub ActsAt : State → Act → Type 0
ActsAt state acts.Gather = state ≡ states.Active
ActsAt state acts.Commit = state ≡ states.PreparedSuccess
ActsAt state other = Unit {0}

abbrev pub CellAt : State → Option Cell → Type 0
CellAt state None = Unit {0}
CellAt state (Some c) = ActsAt state c.act

pub table_acts : (kind : Kind) (state : State) (n : Notice) → CellAt state (participant_of kind state n)
table_acts kinds.Volatile states.None notices.Prepare = tt
table_acts kinds.Volatile states.None notices.Commit = tt
table_acts kinds.Volatile states.None notices.Rollback = tt
table_acts kinds.Volatile states.None notices.Prepared = tt
table_acts kinds.Volatile states.None notices.ReadOnly = tt
table_acts kinds.Volatile states.None notices.Aborted = tt
table_acts kinds.Volatile states.None notices.Committed = tt
table_acts kinds.Volatile states.Registering notices.Prepare = tt
table_acts kinds.Volatile states.Registering notices.Commit = tt
table_acts kinds.Volatile states.Registering notices.Rollback = tt
table_acts kinds.Volatile states.Registering notices.Prepared = tt
table_acts kinds.Volatile states.Registering notices.ReadOnly = tt
table_acts kinds.Volatile states.Registering notices.Aborted = tt
table_acts kinds.Volatile states.Registering notices.Committed = tt
table_acts kinds.Volatile states.Active notices.Prepare = refl
table_acts kinds.Volatile states.Active notices.Commit = tt
table_acts kinds.Volatile states.Active notices.Rollback = tt
table_acts kinds.Volatile states.Active notices.Prepared = tt
table_acts kinds.Volatile states.Active notices.ReadOnly = tt
table_acts kinds.Volatile states.Active notices.Aborted = tt
table_acts kinds.Volatile states.Active notices.Committed = tt
table_acts kinds.Volatile states.Preparing notices.Prepare = tt
table_acts kinds.Volatile states.Preparing notices.Commit = tt
table_acts kinds.Volatile states.Preparing notices.Rollback = tt
table_acts kinds.Volatile states.Preparing notices.Prepared = tt
table_acts kinds.Volatile states.Preparing notices.ReadOnly = tt
table_acts kinds.Volatile states.Preparing notices.Aborted = tt
table_acts kinds.Volatile states.Preparing notices.Committed = tt
table_acts kinds.Volatile states.Prepared notices.Prepare = tt
table_acts kinds.Volatile states.Prepared notices.Commit = tt
table_acts kinds.Volatile states.Prepared notices.Rollback = tt
table_acts kinds.Volatile states.Prepared notices.Prepared = tt
table_acts kinds.Volatile states.Prepared notices.ReadOnly = tt
table_acts kinds.Volatile states.Prepared notices.Aborted = tt
table_acts kinds.Volatile states.Prepared notices.Committed = tt
table_acts kinds.Volatile states.PreparedSuccess notices.Prepare = tt
table_acts kinds.Volatile states.PreparedSuccess notices.Commit = refl
table_acts kinds.Volatile states.PreparedSuccess notices.Rollback = tt
table_acts kinds.Volatile states.PreparedSuccess notices.Prepared = tt
table_acts kinds.Volatile states.PreparedSuccess notices.ReadOnly = tt
table_acts kinds.Volatile states.PreparedSuccess notices.Aborted = tt
table_acts kinds.Volatile states.PreparedSuccess notices.Committed = tt
table_acts kinds.Volatile states.Committing notices.Prepare = tt
table_acts kinds.Volatile states.Committing notices.Commit = tt
table_acts kinds.Volatile states.Committing notices.Rollback = tt
table_acts kinds.Volatile states.Committing notices.Prepared = tt
table_acts kinds.Volatile states.Committing notices.ReadOnly = tt
table_acts kinds.Volatile states.Committing notices.Aborted = tt
table_acts kinds.Volatile states.Committing notices.Committed = tt
table_acts kinds.Volatile states.Aborting notices.Prepare = tt
table_acts kinds.Volatile states.Aborting notices.Commit = tt
table_acts kinds.Volatile states.Aborting notices.Rollback = tt
table_acts kinds.Volatile states.Aborting notices.Prepared = tt
table_acts kinds.Volatile states.Aborting notices.ReadOnly = tt
table_acts kinds.Volatile states.Aborting notices.Aborted = tt
table_acts kinds.Volatile states.Aborting notices.Committed = tt
table_acts kinds.Volatile states.Completing notices.Prepare = tt
table_acts kinds.Volatile states.Completing notices.Commit = tt
table_acts kinds.Volatile states.Completing notices.Rollback = tt
table_acts kinds.Volatile states.Completing notices.Prepared = tt
table_acts kinds.Volatile states.Completing notices.ReadOnly = tt
table_acts kinds.Volatile states.Completing notices.Aborted = tt
table_acts kinds.Volatile states.Completing notices.Committed = tt
table_acts kinds.Volatile states.Done notices.Prepare = tt
table_acts kinds.Volatile states.Done notices.Commit = tt
table_acts kinds.Volatile states.Done notices.Rollback = tt
table_acts kinds.Volatile states.Done notices.Prepared = tt
table_acts kinds.Volatile states.Done notices.ReadOnly = tt
table_acts kinds.Volatile states.Done notices.Aborted = tt
table_acts kinds.Volatile states.Done notices.Committed = tt
table_acts kinds.Durable states.None notices.Prepare = tt
table_acts kinds.Durable states.None notices.Commit = tt
table_acts kinds.Durable states.None notices.Rollback = tt
table_acts kinds.Durable states.None notices.Prepared = tt
table_acts kinds.Durable states.None notices.ReadOnly = tt
table_acts kinds.Durable states.None notices.Aborted = tt
table_acts kinds.Durable states.None notices.Committed = tt
table_acts kinds.Durable states.Registering notices.Prepare = tt
table_acts kinds.Durable states.Registering notices.Commit = tt
table_acts kinds.Durable states.Registering notices.Rollback = tt
table_acts kinds.Durable states.Registering notices.Prepared = tt
table_acts kinds.Durable states.Registering notices.ReadOnly = tt
table_acts kinds.Durable states.Registering notices.Aborted = tt
table_acts kinds.Durable states.Registering notices.Committed = tt
table_acts kinds.Durable states.Active notices.Prepare = refl
table_acts kinds.Durable states.Active notices.Commit = tt
table_acts kinds.Durable states.Active notices.Rollback = tt
table_acts kinds.Durable states.Active notices.Prepared = tt
table_acts kinds.Durable states.Active notices.ReadOnly = tt
table_acts kinds.Durable states.Active notices.Aborted = tt
table_acts kinds.Durable states.Active notices.Committed = tt
table_acts kinds.Durable states.Preparing notices.Prepare = tt
table_acts kinds.Durable states.Preparing notices.Commit = tt
table_acts kinds.Durable states.Preparing notices.Rollback = tt
table_acts kinds.Durable states.Preparing notices.Prepared = tt
table_acts kinds.Durable states.Preparing notices.ReadOnly = tt
table_acts kinds.Durable states.Preparing notices.Aborted = tt
table_acts kinds.Durable states.Preparing notices.Committed = tt
table_acts kinds.Durable states.Prepared notices.Prepare = tt
table_acts kinds.Durable states.Prepared notices.Commit = tt
table_acts kinds.Durable states.Prepared notices.Rollback = tt
table_acts kinds.Durable states.Prepared notices.Prepared = tt
table_acts kinds.Durable states.Prepared notices.ReadOnly = tt
table_acts kinds.Durable states.Prepared notices.Aborted = tt
table_acts kinds.Durable states.Prepared notices.Committed = tt
table_acts kinds.Durable states.PreparedSuccess notices.Prepare = tt
table_acts kinds.Durable states.PreparedSuccess notices.Commit = refl
table_acts kinds.Durable states.PreparedSuccess notices.Rollback = tt
table_acts kinds.Durable states.PreparedSuccess notices.Prepared = tt
table_acts kinds.Durable states.PreparedSuccess notices.ReadOnly = tt
table_acts kinds.Durable states.PreparedSuccess notices.Aborted = tt
table_acts kinds.Durable states.PreparedSuccess notices.Committed = tt
table_acts kinds.Durable states.Committing notices.Prepare = tt
table_acts kinds.Durable states.Committing notices.Commit = tt
table_acts kinds.Durable states.Committing notices.Rollback = tt
table_acts kinds.Durable states.Committing notices.Prepared = tt
table_acts kinds.Durable states.Committing notices.ReadOnly = tt
table_acts kinds.Durable states.Committing notices.Aborted = tt
table_acts kinds.Durable states.Committing notices.Committed = tt
table_acts kinds.Durable states.Aborting notices.Prepare = tt
table_acts kinds.Durable states.Aborting notices.Commit = tt
table_acts kinds.Durable states.Aborting notices.Rollback = tt
table_acts kinds.Durable states.Aborting notices.Prepared = tt
table_acts kinds.Durable states.Aborting notices.ReadOnly = tt
table_acts kinds.Durable states.Aborting notices.Aborted = tt
table_acts kinds.Durable states.Aborting notices.Committed = tt
table_acts kinds.Durable states.Completing notices.Prepare = tt
table_acts kinds.Durable states.Completing notices.Commit = tt
table_acts kinds.Durable states.Completing notices.Rollback = tt
table_acts kinds.Durable states.Completing notices.Prepared = tt
table_acts kinds.Durable states.Completing notices.ReadOnly = tt
table_acts kinds.Durable states.Completing notices.Aborted = tt
table_acts kinds.Durable states.Completing notices.Committed = tt
table_acts kinds.Durable states.Done notices.Prepare = tt
table_acts kinds.Durable states.Done notices.Commit = tt
table_acts kinds.Durable states.Done notices.Rollback = tt
table_acts kinds.Durable states.Done notices.Prepared = tt
table_acts kinds.Durable states.Done notices.ReadOnly = tt
table_acts kinds.Durable states.Done notices.Aborted = tt
table_acts kinds.Durable states.Done notices.Committed = tt
