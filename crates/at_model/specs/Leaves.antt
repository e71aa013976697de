-- Leaves: participants that do work of their own (WS-AtomicTransaction 1.2, section 3.3).
use Rattle.std.specs.Prelude.{ℕ, List, [], ◌∷◌, ◌++◌, Option, Some, None, Bool, nat_lt, ◌&&◌, if◌then◌else◌, bytes_eq}
use Rattle.at_base.specs.declared.limits.TheConstants.{MOST_ITEMS}
use Rattle.at_base.specs.declared.fault.Fault.TheVariants.{InvalidState, UnknownTransaction}
use Rattle.at_base.specs.Names.{fault_name, is_kind}
use Rattle.at_base.specs.Numbers.{Numbers}
use Rattle.at_base.specs.declared.epr.Epr.{Epr}
use Rattle.at_base.specs.declared.epr.Reply.{Reply}
use Rattle.at_base.specs.declared.epr.Reply.TheVariants as replies
use Rattle.at_base.specs.declared.notice.Kind.{Kind}
use Rattle.at_base.specs.declared.notice.Kind.TheVariants as kinds
use Rattle.at_base.specs.declared.notice.Vote.{Vote}
use Rattle.at_base.specs.declared.notice.Vote.TheVariants as votes
use Rattle.at_base.specs.declared.notice.Notice.{Notice}
use Rattle.at_base.specs.declared.notice.Notice.TheVariants as notices
use Rattle.at_base.specs.declared.message.Message.{Message}
use Rattle.at_base.specs.declared.message.Message.TheVariants as messages
use Rattle.at_base.specs.declared.message.Work.{Work}
use Rattle.at_base.specs.declared.target.Target.{Target}
use Rattle.at_base.specs.declared.target.Target.TheVariants as targets
use Rattle.at_base.specs.declared.record.Record.TheVariants as records
use Rattle.at_base.specs.declared.event.Arrived.{Arrived}
use Rattle.at_base.specs.declared.event.Moment.{Moment}
use Rattle.at_base.specs.declared.outs.Post.{Post}
use Rattle.at_base.specs.declared.outs.Out.{Out}
use Rattle.at_base.specs.declared.outs.Out.TheVariants as outs
use Rattle.at_base.specs.declared.outs.Ending.{Ending}
use Rattle.at_base.specs.declared.outs.Ending.TheVariants as endings
use Rattle.at_base.specs.declared.outs.Effect.{Effect}
use Rattle.at_base.specs.declared.outs.Effect.TheVariants as effects
use Rattle.at_tables.specs.declared.cells.State.TheVariants as states
use Rattle.at_tables.specs.declared.cells.Act.{Act}
use Rattle.at_tables.specs.declared.cells.Act.TheVariants as acts
use Rattle.at_tables.specs.declared.cells.Cell.{Cell}
use Rattle.at_tables.specs.Names.{is_state}
use Rattle.at_tables.specs.Tables.{participant_of}
use Rattle.at_model.specs.Book.{Leaf, WorkRequest}
use Rattle.endpoints.specs.Addresses.{register_id, protocol_of}
use Rattle.at_model.specs.Posts.{notice_post, fault_post, reply_post, register_post, stored_or, to_each, accepted, replied}
use Rattle.at_model.specs.Moves.{Change, Decision, Goes, Records, begin, posts, effect, stays, forgotten, ignored}
use Rattle.at_model.specs.Arrivals.{relates_to}
use Rattle.at_model.specs.Create.{deadline_of}

abbrev pub leaf_target : Leaf → Target
leaf_target l = targets.Participant l.id l.kind

-- how a leaf ended
abbrev pub leaf_ended : Leaf → Ending → Effect
leaf_ended l what = effects.Leaf l.id l.kind what

-- To the leaf's coordinator, or to the message's From while none is known.
abbrev pub leaf_says : Moment → Option Epr → Notice → Leaf → List Post
leaf_says m from n l = to_each (stored_or l.coordinator from) (λ to. notice_post m.base (leaf_target l) to n)

abbrev pub leaf_faults : Option Epr → Option (List ℕ) → Leaf → List Post
leaf_faults from id l = to_each (stored_or l.coordinator from) (λ to. fault_post (Some to) id InvalidState)

-- The answer to the leaf's Work.
abbrev pub work_answer : Message → Option WorkRequest → List Post
work_answer answer None = []
work_answer answer (Some r) = reply_post (Some r.reply) r.id answer ∷ []

-- Ends as aborted, and says so.
abbrev pub leaf_aborts : Moment → Option Epr → Leaf → Change Leaf
leaf_aborts m from l = forgotten (posts (leaf_says m from notices.Aborted l) (effect (leaf_ended l endings.Aborted) (begin l)))

-- Ends as committed, and says so.
abbrev pub leaf_commits : Moment → Option Epr → Leaf → Change Leaf
leaf_commits m from l = forgotten (posts (leaf_says m from notices.Committed l) (effect (leaf_ended l endings.Committed) (begin l)))

-- It has voted Prepared, and waits for the outcome.
abbrev pub leaf_prepares : Moment → Leaf → Change Leaf
leaf_prepares m l =
    stays (posts (leaf_says m None notices.Prepared l)
    (begin (record l { state = states.PreparedSuccess; sent = Some m.now })))

-- A durable leaf's vote Prepared is recorded first; where the record is absent it votes Aborted.
abbrev pub leaf_records_vote : Moment → Option Epr → Leaf → Decision Leaf
leaf_records_vote m None l = Goes (leaf_aborts m None l)
leaf_records_vote m (Some coordinator) l =
    Records (records.LeafPrepared l.id coordinator l.key l.value) (leaf_prepares m l) (Some (leaf_aborts m None l))

-- Prepare asks the leaf's own vote (WS-AtomicTransaction 1.2, section 3.3.3). Nobody waits for a volatile leaf's vote
-- after a crash, so it records nothing.
unfoldable pub leaf_votes : Moment → Option Epr → Leaf → Kind → Vote → Decision Leaf
leaf_votes m from l kinds.Durable votes.Prepared = leaf_records_vote m l.coordinator l
leaf_votes m from l kinds.Volatile votes.Prepared = Goes (leaf_prepares m l)
leaf_votes m from l kind votes.ReadOnly = Goes (forgotten (posts (leaf_says m from notices.ReadOnly l) (begin l)))
leaf_votes m from l kind votes.Aborted = Goes (leaf_aborts m from l)

-- Commit at a prepared leaf: the record first, for a durable one. Where it is absent the step is undone, and the
-- coordinator asks again.
unfoldable pub leaf_commit : Moment → Option Epr → Leaf → Kind → Decision Leaf
leaf_commit m from l kinds.Durable = Records (records.LeafCommitted l.id) (leaf_commits m from l) None
leaf_commit m from l kinds.Volatile = Goes (leaf_commits m from l)

-- Rollback at a prepared leaf, likewise.
unfoldable pub leaf_roll_back : Moment → Option Epr → Leaf → Kind → Decision Leaf
leaf_roll_back m from l kinds.Durable = Records (records.LeafAborted l.id) (leaf_aborts m from l) None
leaf_roll_back m from l kinds.Volatile = Goes (leaf_aborts m from l)

-- The acts of the participant's table at a leaf (WS-AtomicTransaction 1.2, section 10).
unfoldable pub leaf_act : Moment → Option Epr → Option (List ℕ) → Leaf → Act → Decision Leaf
leaf_act m from id l acts.Gather = leaf_votes m from l l.kind l.vote
leaf_act m from id l acts.SendPrepared =
    Goes (stays (posts (leaf_says m from notices.Prepared l) (begin (record l { sent = Some m.now }))))
leaf_act m from id l acts.Commit = leaf_commit m from l l.kind
leaf_act m from id l acts.AbortAndSendAborted = Goes (leaf_aborts m from l)
leaf_act m from id l acts.RecordAndSendAborted = leaf_roll_back m from l l.kind
leaf_act m from id l acts.FaultInvalidState = Goes (stays (posts (leaf_faults from id l) (begin l)))
leaf_act m from id l acts.FaultInvalidStateAndAbort =
    Goes (forgotten (posts (leaf_faults from id l) (effect (leaf_ended l endings.Aborted) (begin l))))
leaf_act m from id l other = ignored l

unfoldable pub leaf_notice : Moment → Option Epr → Option (List ℕ) → Leaf → Option Cell → Decision Leaf
leaf_notice m from id l None = ignored l
leaf_notice m from id l (Some c) = leaf_act m from id l c.act

-- the message answers the leaf's Register, which waits for it
abbrev pub answers_leaf : Moment → Option (List ℕ) → Leaf → Bool
answers_leaf m relates l = is_state l.state states.Registering && relates_to relates (register_id m.base (leaf_target l))

-- A RegisterResponse that answers the leaf's Register makes it Active and answers its Work with WorkDone.
unfoldable pub leaf_registered : Moment → Option (List ℕ) → Epr → Leaf → Decision Leaf
leaf_registered m relates coordinator l =
    if answers_leaf m relates l
    then Goes (stays (posts (work_answer messages.WorkDone l.request)
    (begin (record l { state = states.Active; coordinator = Some coordinator; request = None }))))
    else ignored l

-- Before it is registered a leaf that ends answers its Work with WorkRefused.
abbrev pub leaf_refused : Leaf → Change Leaf
leaf_refused l =
    forgotten (posts (work_answer messages.WorkRefused l.request) (effect (leaf_ended l endings.Aborted) (begin l)))

-- UnknownTransaction drops a volatile leaf without an effect (WS-AtomicTransaction 1.2, section 5.2).
abbrev pub drops_leaf : Leaf → List ℕ → Bool
drops_leaf l name = is_kind l.kind kinds.Volatile && bytes_eq name (fault_name UnknownTransaction)

-- A fault that answers the leaf's Register refuses the work; every other fault is ignored, but for UnknownTransaction.
unfoldable pub leaf_fault : Moment → Option (List ℕ) → List ℕ → Leaf → Decision Leaf
leaf_fault m relates name l =
    if answers_leaf m relates l then Goes (leaf_refused l)
    else if drops_leaf l name then Goes (forgotten (begin l))
    else ignored l

-- A message at a leaf.
unfoldable pub on_leaf : Moment → Arrived → Leaf → Message → Decision Leaf
on_leaf m a l (messages.Notice n) = leaf_notice m a.from a.id l (participant_of l.kind l.state n)
on_leaf m a l (messages.RegisterResponse coordinator) = leaf_registered m a.relates coordinator l
on_leaf m a l (messages.Fault name) = leaf_fault m a.relates name l
on_leaf m a l other = ignored l

-- What a Work gives: the leaf that it made, or none, and what is sent.
pub record Employment : Type 0 where
  pub leaf : Option Leaf
  pub outs : List Out

abbrev pub new_leaf : Moment → Numbers → Arrived → Epr → Work → Leaf
new_leaf m id a reply w = record {
  id = id;
  kind = w.kind;
  vote = w.vote;
  key = w.key;
  value = w.value;
  state = states.Registering;
  coordinator = None;
  request = Some (record { id = a.id; reply = reply; registration = w.context.registration });
  deadline = deadline_of m.now w.context.expires;
  sent = Some m.now;
}

abbrev pub leaf_register : Moment → Leaf → Epr → Post
leaf_register m l to = register_post m.base (leaf_target l) (protocol_of l.kind) to

abbrev pub refuse_work : Arrived → Employment
refuse_work a = record { leaf = None; outs = replied a.reply a.id messages.WorkRefused }

abbrev pub employ : Moment → Arrived → Leaf → Epr → Employment
employ m a l registration = record { leaf = Some l; outs = accepted ++ outs.Post (leaf_register m l registration) ∷ [] }

abbrev pub work_for : Moment → Numbers → Arrived → Work → Reply → Employment
work_for m id a w (replies.At reply) = employ m a (new_leaf m id a reply w) w.context.registration
work_for m id a w other = refuse_work a

-- Work makes a leaf, which registers under the context that it was given (WS-Coordination 1.2, section 3.2): refused
-- where its answer has no endpoint, where 1,024 leaves live, and where the node has no id left (this project's profile).
unfoldable pub on_work : Moment → ℕ → Arrived → Work → Option Numbers → Employment
on_work m live a w None = refuse_work a
on_work m live a w (Some id) = if nat_lt live MOST_ITEMS then work_for m id a w a.reply else refuse_work a
