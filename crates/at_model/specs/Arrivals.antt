-- What a message does at a transaction: at one of its seats, at one of its links, or at its completion seat.
use Rattle.std.specs.Prelude.{ℕ, List, [], ◌∷◌, ◌++◌, Option, Some, None, Bool, false, ◌&&◌, ◌||◌, if◌then◌else◌, bytes_eq}
use Rattle.at_base.specs.declared.fault.Fault.TheVariants.{CannotCreateContext, InvalidState, UnknownTransaction}
use Rattle.at_base.specs.declared.epr.Epr.{Epr}
use Rattle.at_base.specs.declared.epr.Reply.{Reply}
use Rattle.at_base.specs.declared.epr.Reply.TheVariants as replies
use Rattle.at_base.specs.declared.notice.Kind.{Kind}
use Rattle.at_base.specs.declared.notice.Kind.TheVariants as kinds
use Rattle.at_base.specs.declared.notice.Notice.{Notice}
use Rattle.at_base.specs.declared.notice.Notice.TheVariants as notices
use Rattle.at_base.specs.declared.message.Message.{Message}
use Rattle.at_base.specs.declared.message.Message.TheVariants as messages
use Rattle.at_base.specs.declared.message.Context.{Context}
use Rattle.at_base.specs.declared.target.Target.TheVariants as targets
use Rattle.at_base.specs.declared.record.Record.TheVariants as records
use Rattle.at_base.specs.declared.event.Arrived.{Arrived}
use Rattle.at_base.specs.declared.event.Moment.{Moment}
use Rattle.at_base.specs.declared.outs.Post.{Post}
use Rattle.at_base.specs.declared.outs.Ending.TheVariants as endings
use Rattle.at_tables.specs.declared.cells.State.TheVariants as states
use Rattle.at_tables.specs.declared.cells.Act.{Act}
use Rattle.at_tables.specs.declared.cells.Act.TheVariants as acts
use Rattle.at_tables.specs.declared.cells.Cell.{Cell}
use Rattle.at_tables.specs.Names.{is_state}
use Rattle.at_tables.specs.Tables.{coordinator_of, participant_of, completion_of}
use Rattle.at_model.specs.Book.{Transaction, Enlistment, Completion, Superior, Request, Phase}
use Rattle.endpoints.specs.Addresses.{endpoint_of, register_id, atomic}
use Rattle.at_model.specs.Posts.{notice_post, stranger_post, fault_post, reply_post, stored_or, to_each}
use Rattle.at_model.specs.Moves.{Change, Decision, Goes, Records, begin, post, posts, effect, become, stays, ignored, in_both}
use Rattle.at_model.specs.Seats.{in_state, seat_target, seat_in, sent_now, set_link, link_of, link_in, under, ending}
use Rattle.at_model.specs.Abort.{abort, Alone, Asked, Faulted}
use Rattle.at_model.specs.Phases.{upwards, commit_seats, advance, go_volatile}

-- A seat's Prepared, Commit or Rollback sent as an answer counts as a sending; an answer where nothing is waited for has
-- no sender of its own.
abbrev pub answer_seat : Moment → Notice → Transaction → Enlistment → Decision Transaction
answer_seat m n t s =
    Goes (stays (post (notice_post m.base (seat_target t.id s) s.participant n) (become (sent_now m t) (begin t))))

abbrev pub answer_left_seat : Moment → Notice → Transaction → Enlistment → Decision Transaction
answer_left_seat m n t s =
    Goes (stays (post (stranger_post m.base (seat_target t.id s) s.participant n) (begin t)))

-- The acts of the coordinator's table at a seat that is known (WS-AtomicTransaction 1.2, section 10).
unfoldable pub seat_act : Moment → Option (List ℕ) → Transaction → Enlistment → Act → Decision Transaction
seat_act m id t s acts.Ignore = ignored t
seat_act m id t s acts.SendPrepared = ignored t
seat_act m id t s acts.SendCommit = answer_seat m notices.Commit t s
seat_act m id t s acts.SendRollback =
    if in_state states.None s then answer_left_seat m notices.Rollback t s else answer_seat m notices.Rollback t s
seat_act m id t s acts.SendCommitted = ignored t
seat_act m id t s acts.SendAborted = ignored t
seat_act m id t s acts.FaultUnknownTransaction =
    Goes (stays (post (fault_post (Some s.participant) id UnknownTransaction) (begin t)))
seat_act m id t s acts.FaultInvalidState =
    Goes (stays (post (fault_post (Some s.participant) id InvalidState) (begin t)))
seat_act m id t s acts.FaultInvalidStateAndAbort =
    Goes (abort m Alone (post (fault_post (Some s.participant) id InvalidState) (begin t)))
seat_act m id t s acts.Leave = advance m (begin (seat_in s.number states.None t))
seat_act m id t s acts.LeaveAndAbort = Goes (abort m Alone (begin (seat_in s.number states.None t)))
seat_act m id t s acts.Vote = advance m (begin (seat_in s.number states.Prepared t))
seat_act m id t s acts.Gather = ignored t
seat_act m id t s acts.Commit = ignored t
seat_act m id t s acts.AbortAndSendAborted = ignored t
seat_act m id t s acts.RecordAndSendAborted = ignored t
seat_act m id t s acts.Complete = ignored t
seat_act m id t s acts.TellCommitted = ignored t
seat_act m id t s acts.TellAborted = ignored t

-- A participant's notification at its seat.
unfoldable pub seat_notice : Moment → Option (List ℕ) → Transaction → Enlistment → Option Cell → Decision Transaction
seat_notice m id t s None = ignored t
seat_notice m id t s (Some c) = seat_act m id t s c.act

-- A subordinate that was told to commit: the record first, then Commit to every Prepared seat. Where the record is
-- absent the step is undone, and the superior asks again (WS-AtomicTransaction 1.2, section 3.3.3).
unfoldable pub commit_voted : Moment → Superior → Transaction → Decision Transaction
commit_voted m s t =
    Records (records.SubCommitted t.id)
    (stays (commit_seats m
    (become (record t { superior = Some (link_in kinds.Durable states.Committing s); phase = Phase.Committing })
    (effect (ending t endings.Committed) (begin t))))) None

-- A durable Prepare also ends a volatile link that wasn't answered for.
abbrev pub asked : Kind → Superior → Superior
asked kinds.Volatile s = link_in kinds.Volatile states.Preparing s
asked kinds.Durable s = link_in kinds.Volatile states.None (link_in kinds.Durable states.Preparing s)

-- The acts of the participant's table at a subordinate's link.
unfoldable pub link_act : Moment → Option Epr → Option (List ℕ) → Kind → Superior → Transaction → Act → Decision Transaction
link_act m from id kind s t acts.Ignore = ignored t
link_act m from id kind s t acts.SendPrepared =
    Goes (stays (posts (upwards m.base t.id kind notices.Prepared (link_of kind s)) (become (sent_now m t) (begin t))))
link_act m from id kind s t acts.SendCommit = ignored t
link_act m from id kind s t acts.SendRollback = ignored t
link_act m from id kind s t acts.SendCommitted =
    Goes (stays (posts (to_each (stored_or (link_of kind s).coordinator from)
    (λ to. stranger_post m.base (targets.Participant t.id kind) to notices.Committed)) (begin t)))
link_act m from id kind s t acts.SendAborted =
    Goes (stays (posts (to_each (stored_or (link_of kind s).coordinator from)
    (λ to. stranger_post m.base (targets.Participant t.id kind) to notices.Aborted)) (begin t)))
link_act m from id kind s t acts.FaultUnknownTransaction = ignored t
link_act m from id kind s t acts.FaultInvalidState =
    Goes (stays (posts (to_each (stored_or (link_of kind s).coordinator from)
    (λ to. fault_post (Some to) id InvalidState)) (begin t)))
link_act m from id kind s t acts.FaultInvalidStateAndAbort =
    Goes (abort m (Faulted kind)
    (posts (to_each (stored_or (link_of kind s).coordinator from) (λ to. fault_post (Some to) id InvalidState)) (begin t)))
link_act m from id kind s t acts.Leave = ignored t
link_act m from id kind s t acts.LeaveAndAbort = ignored t
link_act m from id kind s t acts.Vote = ignored t
link_act m from id kind s t acts.Gather = go_volatile m (begin (under (asked kind s) t))
link_act m from id kind s t acts.Commit = commit_voted m s t
link_act m from id kind s t acts.AbortAndSendAborted = Goes (abort m (Asked kind from) (begin t))
link_act m from id kind s t acts.RecordAndSendAborted =
    Records (records.Ended t.id) (abort m (Asked kind from) (begin t)) None
link_act m from id kind s t acts.Complete = ignored t
link_act m from id kind s t acts.TellCommitted = ignored t
link_act m from id kind s t acts.TellAborted = ignored t

-- The superior's notification on a link.
unfoldable pub link_notice : Moment → Option Epr → Option (List ℕ) → Kind → Superior → Transaction → Option Cell → Decision Transaction
link_notice m from id kind s t None = ignored t
link_notice m from id kind s t (Some c) = link_act m from id kind s t c.act

-- The acts of the completion table at a seat that is known (WS-AtomicTransaction 1.2, section 3.2). An initiator that asks
-- for the commit again hears of it at its message's From.
unfoldable pub completion_act : Moment → Option Epr → Option (List ℕ) → Completion → Transaction → Act → Decision Transaction
completion_act m from id c t acts.SendCommitted =
    Goes (stays (posts (to_each from (λ to. notice_post m.base (targets.Completion t.id) to notices.Committed)) (begin t)))
completion_act m from id c t acts.FaultUnknownTransaction =
    Goes (stays (post (fault_post (Some c.initiator) id UnknownTransaction) (begin t)))
completion_act m from id c t acts.FaultInvalidState =
    Goes (stays (post (fault_post (Some c.initiator) id InvalidState) (begin t)))
completion_act m from id c t acts.Complete =
    go_volatile m (begin (record t { completion = Some (record c { state = states.Completing }) }))
completion_act m from id c t acts.AbortAndSendAborted = Goes (abort m Alone (begin t))
completion_act m from id c t other = ignored t

unfoldable pub completion_notice : Moment → Option Epr → Option (List ℕ) → Completion → Transaction → Option Cell → Decision Transaction
completion_notice m from id c t None = ignored t
completion_notice m from id c t (Some cell) = completion_act m from id c t cell.act

-- the message answers what has this id (WS-Addressing 1.0 Core, section 3.3)
abbrev pub relates_to : Option (List ℕ) → List ℕ → Bool
relates_to None id = false
relates_to (Some relates) id = bytes_eq relates id

-- Registering ends once neither link is.
abbrev pub registered : Superior → Phase → Phase
registered s Phase.Registering =
    if is_state s.volatile.state states.Registering || is_state s.durable.state states.Registering
    then Phase.Registering
    else Phase.Active
registered s other = other

-- A RegisterResponse that answers a link's Register makes the link Active (WS-Coordination 1.2, section 3.2).
unfoldable pub link_registered : Moment → Option (List ℕ) → Epr → Kind → Superior → Transaction → Decision Transaction
link_registered m relates coordinator kind s t =
    let after : Superior = set_link kind (record { state = states.Active; coordinator = Some coordinator }) s in
    if is_state (link_of kind s).state states.Registering
    && relates_to relates (register_id m.base (targets.Participant t.id kind))
    then Goes (stays (begin (record t { superior = Some after; phase = registered after t.phase })))
    else ignored t

-- A fault that answers a link's Register aborts the subordinate; every other fault is ignored.
unfoldable pub link_fault : Moment → Option (List ℕ) → Kind → Superior → Transaction → Decision Transaction
link_fault m relates kind s t =
    if is_state (link_of kind s).state states.Registering
    && relates_to relates (register_id m.base (targets.Participant t.id kind))
    then Goes (abort m Alone (begin t))
    else ignored t

-- A message at a subordinate's link.
unfoldable pub on_link : Moment → Arrived → Kind → Transaction → Superior → Message → Decision Transaction
on_link m a kind t s (messages.Notice n) =
    link_notice m a.from a.id kind s t (participant_of kind (link_of kind s).state n)
on_link m a kind t s (messages.RegisterResponse coordinator) = link_registered m a.relates coordinator kind s t
on_link m a kind t s (messages.Fault name) = link_fault m a.relates kind s t
on_link m a kind t s other = ignored t

-- A message at a seat: a notification; a fault is ignored.
unfoldable pub on_seat : Moment → Arrived → Transaction → Enlistment → Message → Decision Transaction
on_seat m a t s (messages.Notice n) = seat_notice m a.id t s (coordinator_of s.kind s.state n)
on_seat m a t s other = ignored t

-- A message at the completion seat: a notification; a fault is ignored.
unfoldable pub on_completion : Moment → Arrived → Transaction → Completion → Message → Decision Transaction
on_completion m a t c (messages.Notice n) = completion_notice m a.from a.id c t (completion_of c.state n)
on_completion m a t c other = ignored t

-- What a subordinate's request is answered with, and when: with the context once neither link is Registering, with
-- CannotCreateContext where it ended before (WS-Coordination 1.2, section 3.1).
abbrev pub context_of : List ℕ → Transaction → Option ℕ → Context
context_of base t expires = record {
  identifier = t.identifier;
  expires = expires;
  coordination = atomic;
  registration = endpoint_of base (targets.Registration t.id);
}

abbrev pub refused_at : Reply → Option (List ℕ) → List Post
refused_at replies.Anonymous id = []
refused_at replies.Nobody id = []
refused_at (replies.At to) id = fault_post (Some to) id CannotCreateContext ∷ []

abbrev pub refused_request : Request → List Post
refused_request r = refused_at r.fault r.id

abbrev pub request_answered : Superior → Superior
request_answered s = record s { request = None }

abbrev pub is_registering : Superior → Bool
is_registering s = is_state s.volatile.state states.Registering || is_state s.durable.state states.Registering

-- the answer, where the transaction stays under this superior in this phase
abbrev pub request_stands : Moment → Request → Transaction → Superior → Phase → Change Transaction → Change Transaction
request_stands m r t s Phase.Aborting c = record {
  item = Some (under (request_answered s) t);
  posts = c.posts ++ refused_request r;
  effects = c.effects;
}
request_stands m r t s other c =
    if is_registering s then c
    else record {
      item = Some (under (request_answered s) t);
      posts = c.posts ++ reply_post (Some r.reply) r.id (messages.CreateResponse (context_of m.base t r.expires)) ∷ [];
      effects = c.effects;
    }

abbrev pub request_under : Moment → Request → Transaction → Option Superior → Change Transaction → Change Transaction
request_under m r t None c = c
request_under m r t (Some s) c = request_stands m r t s t.phase c

abbrev pub request_left : Moment → Request → Option Transaction → Change Transaction → Change Transaction
request_left m r None c = record { item = None; posts = c.posts ++ refused_request r; effects = c.effects }
request_left m r (Some t) c = request_under m r t t.superior c

abbrev pub answer_request : Moment → Option Request → Change Transaction → Change Transaction
answer_request m None c = c
answer_request m (Some r) c = request_left m r c.item c

abbrev pub request_of : Option Superior → Option Request
request_of None = None
request_of (Some s) = s.request

-- The answer is the step's last post.
abbrev pub with_answer : Moment → Transaction → Decision Transaction → Decision Transaction
with_answer m t d = in_both (answer_request m (request_of t.superior)) d
