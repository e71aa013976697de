-- What lets an out leave.
use Rattle.std.specs.Prelude.{List, Option, Some, None, true, ◌≡◌, ◌⊎◌}
use Rattle.at_base.specs.Numbers.{Numbers}
use Rattle.at_base.specs.declared.notice.Kind.{Kind}
use Rattle.at_base.specs.declared.notice.Kind.TheVariants as kinds
use Rattle.at_base.specs.declared.notice.Notice.{Notice}
use Rattle.at_base.specs.declared.notice.Notice.TheVariants as notices
use Rattle.at_base.specs.declared.message.Message.{Message}
use Rattle.at_base.specs.declared.message.Message.TheVariants as messages
use Rattle.at_base.specs.declared.target.Target.{Target}
use Rattle.at_base.specs.declared.target.Target.TheVariants as targets
use Rattle.at_base.specs.declared.outs.Out.{Out}
use Rattle.at_base.specs.declared.outs.Out.TheVariants as outs
use Rattle.at_model.specs.Outcomes.{is_kept}
use Rattle.decision_log.specs.declared.token.What.TheVariants as whats
use Rattle.decision_log.specs.declared.ready.Leave.{Leave}
use Rattle.decision_log.specs.declared.ready.Leave.TheVariants as leaves
use Rattle.decision_log.specs.Tokens.{Token}

-- A volatile participant waits for no record.
abbrev pub if_durable : Kind → Leave → Leave
if_durable kinds.Durable leave = leave
if_durable kinds.Volatile leave = leaves.Free

-- A coordinator's Commit, to a durable seat of a root that decided or of a subordinate that was told to commit
-- (WS-AtomicTransaction 1.2, section 3.3.4).
abbrev pub seat_leave : Numbers → Kind → Notice → Leave
seat_leave id kind notices.Commit = if_durable kind (leaves.Record id whats.Decided whats.SubCommitted)
seat_leave id kind other = leaves.Free

-- A root's Committed, to its initiator.
abbrev pub completion_leave : Numbers → Notice → Leave
completion_leave id notices.Committed = leaves.Record id whats.Decided whats.Decided
completion_leave id other = leaves.Free

-- The Prepared and the Committed of a durable leaf or link.
abbrev pub participant_leave : Numbers → Kind → Notice → Leave
participant_leave id kind notices.Prepared = if_durable kind (leaves.Record id whats.LeafPrepared whats.Voted)
participant_leave id kind notices.Committed = if_durable kind (leaves.Record id whats.LeafCommitted whats.Ended)
participant_leave id kind other = leaves.Free

-- From where nothing is known only what such a state answers.
abbrev pub stranger_leave : Notice → Leave
stranger_leave notices.Rollback = leaves.Echo
stranger_leave notices.Aborted = leaves.Echo
stranger_leave notices.Committed = leaves.Echo
stranger_leave other = leaves.Never

abbrev pub own_leave : Target → Notice → Leave
own_leave (targets.Coordinator id seat) n = seat_leave id seat.kind n
own_leave (targets.Completion id) n = completion_leave id n
own_leave (targets.Participant id kind) n = participant_leave id kind n
own_leave targets.Activation n = leaves.Free
own_leave (targets.Registration id) n = leaves.Free
own_leave (targets.Initiator id) n = leaves.Free
own_leave targets.Work n = leaves.Free

abbrev pub notice_leave : Option Target → Notice → Leave
notice_leave (Some own) n = own_leave own n
notice_leave None n = stranger_leave n

abbrev pub message_leave : Option Target → Message → Leave
message_leave own (messages.Notice n) = notice_leave own n
message_leave own other = leaves.Free

abbrev pub leave_of : Out → Leave
leave_of (outs.Post p) = message_leave p.own p.message
leave_of (outs.Answer status reply) = leaves.Free

abbrev pub IsLeaveOf : Leave → Token → Type 0
IsLeaveOf (leaves.Record id one other) t = (t.id ≡ id) × ((t.what ≡ one) ⊎ (t.what ≡ other))
IsLeaveOf other t = ⊥

-- the token is of the record that the out waits for
abbrev pub Matches : Out → Token → Type 0
Matches out t = IsLeaveOf (leave_of out) t

-- a root's Committed, where its outcome is kept
abbrev pub completion_told : Numbers → List Numbers → Notice → Type 0
completion_told id ids notices.Committed = is_kept id ids ≡ true
completion_told id ids other = ⊥

abbrev pub own_told : Option Target → List Numbers → Message → Type 0
own_told (Some (targets.Completion id)) ids (messages.Notice n) = completion_told id ids n
own_told own ids other = ⊥

abbrev pub IsTold : Out → List Numbers → Type 0
IsTold (outs.Post p) ids = own_told p.own ids p.message
IsTold (outs.Answer status reply) ids = ⊥
