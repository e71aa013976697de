-- What a message or a due time makes a transaction post goes to some endpoint.
use Rattle.std.specs.Prelude.{ℕ, List, [], ◌∷◌, ◌++◌, Option, Some, None, if◌then◌else◌, refl}
use Rattle.at_base.specs.Numbers.{Numbers}
use Rattle.at_base.specs.declared.epr.Epr.{Epr}
use Rattle.at_base.specs.declared.epr.Reply.{Reply}
use Rattle.at_base.specs.declared.epr.Reply.TheVariants as replies
use Rattle.at_base.specs.declared.event.Arrived.{Arrived}
use Rattle.at_base.specs.declared.event.Moment.{Moment}
use Rattle.at_base.specs.declared.fault.Fault.TheVariants.{InvalidState}
use Rattle.at_base.specs.declared.message.Message.{Message}
use Rattle.at_base.specs.declared.message.Message.TheVariants as messages
use Rattle.at_base.specs.declared.notice.Kind.{Kind}
use Rattle.at_base.specs.declared.notice.Kind.TheVariants as kinds
use Rattle.at_base.specs.declared.notice.Notice.{Notice}
use Rattle.at_base.specs.declared.notice.Notice.TheVariants as notices
use Rattle.at_base.specs.declared.outs.Ending.TheVariants as endings
use Rattle.at_base.specs.declared.outs.Post.{Post}
use Rattle.at_base.specs.declared.target.Target.TheVariants as targets
use Rattle.at_tables.specs.declared.cells.Act.{Act}
use Rattle.at_tables.specs.declared.cells.Act.TheVariants as acts
use Rattle.at_tables.specs.declared.cells.Cell.{Cell}
use Rattle.at_tables.specs.declared.cells.State.TheVariants as states
use Rattle.at_tables.specs.Names.{is_state}
use Rattle.at_tables.specs.Tables.{completion_of, coordinator_of, participant_of}
use Rattle.at_model.specs.Abort.{Alone, Asked, Faulted, abort}
use Rattle.at_model.specs.Arrivals.{answer_left_seat, answer_request, answer_seat, asked, commit_voted, completion_act, completion_notice, context_of, is_registering, link_act, link_fault, link_notice, link_registered, on_completion, on_link, on_seat, refused_at, refused_request, registered, request_answered, request_left, request_of, request_stands, request_under, seat_act, seat_notice, with_answer}
use Rattle.at_model.specs.Book.{Completion, Enlistment, Link, Phase, Request, Superior, Transaction}
use Rattle.at_model.specs.Due.{Expired, Nothing, Over, Reached, Unanswered, link_again, links_again, register_again_at, seat_again, seats_again, transaction_reached, unanswered_seat}
use Rattle.at_model.specs.Moves.{Change, Decision, Goes, become, begin, effect, ignored, post, posts, stays}
use Rattle.at_model.specs.Phases.{upwards}
use Rattle.at_model.specs.Posts.{fault_post, notice_post, reply_post, stored_or, stranger_post, to_each}
use Rattle.at_model.specs.Seats.{ending, in_state, link_in, link_of, seat_in, set_link, under}
use Rattle.model_laws.proofs.DecisionLaws.{both_say, either_left}
use Rattle.model_laws.proofs.OtherEnds.{Anything}
use Rattle.addressed_posts.proofs.Directed.{AreDirected, Decides, Directs, choice, either, join, to_one}
use Rattle.addressed_posts.proofs.TransactionMoves.{abort_directs, advance_decides, commit_directed, go_volatile_decides, upwards_directed}

-- at a seat
seat_act_decides : (m : Moment) (id : Option (List ℕ)) (t : Transaction) (s : Enlistment) (act : Act) → Decides (seat_act m id t s act)
unfolding seat_act
seat_act_decides m id t s acts.SendCommit = ((s.participant, refl), tt)
seat_act_decides m id t s acts.SendRollback =
    either (in_state states.None s) (answer_left_seat m notices.Rollback t s) (answer_seat m notices.Rollback t s) ((s.participant, refl), tt) ((s.participant, refl), tt)
seat_act_decides m id t s acts.FaultUnknownTransaction = ((s.participant, refl), tt)
seat_act_decides m id t s acts.FaultInvalidState = ((s.participant, refl), tt)
seat_act_decides m id t s acts.FaultInvalidStateAndAbort = abort_directs m Alone (post (fault_post (Some s.participant) id InvalidState) (begin t)) ((s.participant, refl), tt)
seat_act_decides m id t s acts.Leave = advance_decides m (begin (seat_in s.number states.None t)) tt
seat_act_decides m id t s acts.LeaveAndAbort = abort_directs m Alone (begin (seat_in s.number states.None t)) tt
seat_act_decides m id t s acts.Vote = advance_decides m (begin (seat_in s.number states.Prepared t)) tt
seat_act_decides m id t s other = tt

seat_notice_decides : (m : Moment) (id : Option (List ℕ)) (t : Transaction) (s : Enlistment) (c : Option Cell) → Decides (seat_notice m id t s c)
unfolding seat_notice
seat_notice_decides m id t s None = tt
seat_notice_decides m id t s (Some c) = seat_act_decides m id t s c.act

pub seat_decides : (m : Moment) (a : Arrived) (t : Transaction) (s : Enlistment) (x : Message) → Decides (on_seat m a t s x)
unfolding on_seat
seat_decides m a t s (messages.Notice n) = seat_notice_decides m a.id t s (coordinator_of s.kind s.state n)
seat_decides m a t s other = tt

-- at a link
commit_voted_decides : (m : Moment) (s : Superior) (t : Transaction) → Decides (commit_voted m s t)
unfolding commit_voted
commit_voted_decides m s t = record {
  entry = tt;
  landed = commit_directed m
      (become (record t { superior = Some (link_in kinds.Durable states.Committing s); phase = Phase.Committing }) (effect (ending t endings.Committed) (begin t))) tt;
  otherwise = tt;
}

module _ (m : Moment) (from : Option Epr) (id : Option (List ℕ)) where
  link_act_decides : (kind : Kind) (s : Superior) (t : Transaction) (act : Act) → Decides (link_act m from id kind s t act)
  unfolding link_act
  link_act_decides kind s t acts.SendPrepared = upwards_directed m.base t.id kind notices.Prepared (link_of kind s)
  link_act_decides kind s t acts.SendCommitted =
      to_one (stored_or (link_of kind s).coordinator from) (λ to. stranger_post m.base (targets.Participant t.id kind) to notices.Committed) (λ to. (to, refl))
  link_act_decides kind s t acts.SendAborted =
      to_one (stored_or (link_of kind s).coordinator from) (λ to. stranger_post m.base (targets.Participant t.id kind) to notices.Aborted) (λ to. (to, refl))
  link_act_decides kind s t acts.FaultInvalidState =
      to_one (stored_or (link_of kind s).coordinator from) (λ to. fault_post (Some to) id InvalidState) (λ to. (to, refl))
  link_act_decides kind s t acts.FaultInvalidStateAndAbort =
      let to_whom : Option Epr = stored_or (link_of kind s).coordinator from in
      let says : Epr → Post = λ to. fault_post (Some to) id InvalidState in
      abort_directs m (Faulted kind) (posts (to_each to_whom says) (begin t)) (to_one to_whom says (λ to. (to, refl)))
  link_act_decides kind s t acts.Gather = go_volatile_decides m (begin (under (asked kind s) t)) tt
  link_act_decides kind s t acts.Commit = commit_voted_decides m s t
  link_act_decides kind s t acts.AbortAndSendAborted = abort_directs m (Asked kind from) (begin t) tt
  link_act_decides kind s t acts.RecordAndSendAborted = record { entry = tt; landed = abort_directs m (Asked kind from) (begin t) tt; otherwise = tt }
  link_act_decides kind s t other = tt

  link_notice_decides : (kind : Kind) (s : Superior) (t : Transaction) (c : Option Cell) → Decides (link_notice m from id kind s t c)
  unfolding link_notice
  link_notice_decides kind s t None = tt
  link_notice_decides kind s t (Some c) = link_act_decides kind s t c.act

  -- at the completion seat
  completion_act_decides : (c : Completion) (t : Transaction) (act : Act) → Decides (completion_act m from id c t act)
  unfolding completion_act
  completion_act_decides c t acts.SendCommitted = to_one from (λ to. notice_post m.base (targets.Completion t.id) to notices.Committed) (λ to. (to, refl))
  completion_act_decides c t acts.FaultUnknownTransaction = ((c.initiator, refl), tt)
  completion_act_decides c t acts.FaultInvalidState = ((c.initiator, refl), tt)
  completion_act_decides c t acts.Complete = go_volatile_decides m (begin (record t { completion = Some (record c { state = states.Completing }) })) tt
  completion_act_decides c t acts.AbortAndSendAborted = abort_directs m Alone (begin t) tt
  completion_act_decides c t other = tt

  completion_notice_decides : (c : Completion) (t : Transaction) (cell : Option Cell) → Decides (completion_notice m from id c t cell)
  unfolding completion_notice
  completion_notice_decides c t None = tt
  completion_notice_decides c t (Some cell) = completion_act_decides c t cell.act

link_registered_decides : (m : Moment) (relates : Option (List ℕ)) (coordinator : Epr) (kind : Kind) (s : Superior) (t : Transaction) → Decides (link_registered m relates coordinator kind s t)
unfolding link_registered
link_registered_decides m relates coordinator kind s t =
    let after : Superior = set_link kind (record { state = states.Active; coordinator = Some coordinator }) s in
    either _ (Goes (stays (begin (record t { superior = Some after; phase = registered after t.phase })))) (ignored t) tt tt

link_fault_decides : (m : Moment) (relates : Option (List ℕ)) (kind : Kind) (s : Superior) (t : Transaction) → Decides (link_fault m relates kind s t)
unfolding link_fault
link_fault_decides m relates kind s t = either _ (Goes (abort m Alone (begin t))) (ignored t) (abort_directs m Alone (begin t) tt) tt

pub link_decides : (m : Moment) (a : Arrived) (kind : Kind) (t : Transaction) (s : Superior) (x : Message) → Decides (on_link m a kind t s x)
unfolding on_link
link_decides m a kind t s (messages.Notice n) = link_notice_decides m a.from a.id kind s t (participant_of kind (link_of kind s).state n)
link_decides m a kind t s (messages.RegisterResponse coordinator) = link_registered_decides m a.relates coordinator kind s t
link_decides m a kind t s (messages.Fault name) = link_fault_decides m a.relates kind s t
link_decides m a kind t s other = tt

pub completion_decides : (m : Moment) (a : Arrived) (t : Transaction) (c : Completion) (x : Message) → Decides (on_completion m a t c x)
unfolding on_completion
completion_decides m a t c (messages.Notice n) = completion_notice_decides m a.from a.id c t (completion_of c.state n)
completion_decides m a t c other = tt

-- what is sent again
register_again_directed : (base : List ℕ) (id : Numbers) (kind : Kind) (r : Option Request) → AreDirected (register_again_at base id kind r)
register_again_directed base id kind None = tt
register_again_directed base id kind (Some r) = ((r.registration, refl), tt)

link_again_directed : (base : List ℕ) (id : Numbers) (kind : Kind) (r : Option Request) (link : Link) → AreDirected (link_again base id kind r link)
link_again_directed base id kind r link =
    let prepares : List Post = upwards base id kind notices.Prepared link in
    choice (is_state link.state states.Registering) (register_again_at base id kind r) (if is_state link.state states.PreparedSuccess then prepares else [])
    (register_again_directed base id kind r) (choice (is_state link.state states.PreparedSuccess) prepares [] (upwards_directed base id kind notices.Prepared link) tt)

links_again_directed : (base : List ℕ) (id : Numbers) (s : Option Superior) → AreDirected (links_again base id s)
links_again_directed base id None = tt
links_again_directed base id (Some s) =
    join (link_again base id kinds.Volatile s.request s.volatile) (link_again base id kinds.Durable s.request s.durable)
    (link_again_directed base id kinds.Volatile s.request s.volatile) (link_again_directed base id kinds.Durable s.request s.durable)

seat_again_directed : (base : List ℕ) (id : Numbers) (s : Enlistment) (n : Option Notice) → AreDirected (seat_again base id s n)
seat_again_directed base id s None = tt
seat_again_directed base id s (Some n) = ((s.participant, refl), tt)

seats_again_directed : (base : List ℕ) (id : Numbers) (seats : List Enlistment) → AreDirected (seats_again base id seats)
seats_again_directed base id [] = tt
seats_again_directed base id (s ∷ seats) =
    join (seat_again base id s (unanswered_seat s.state)) (seats_again base id seats) (seat_again_directed base id s (unanswered_seat s.state)) (seats_again_directed base id seats)

pub due_decides : (m : Moment) (t : Transaction) (r : Reached) → Decides (transaction_reached m t r)
unfolding transaction_reached
due_decides m t Expired = abort_directs m Alone (begin t) tt
due_decides m t Over = tt
due_decides m t Unanswered =
    join (links_again m.base t.id t.superior) (seats_again m.base t.id t.seats) (links_again_directed m.base t.id t.superior) (seats_again_directed m.base t.id t.seats)
due_decides m t Nothing = tt

-- the answer to the request that a transaction had
refused_directed : (fault : Reply) (id : Option (List ℕ)) → AreDirected (refused_at fault id)
refused_directed replies.Anonymous id = tt
refused_directed replies.Nobody id = tt
refused_directed (replies.At to) id = ((to, refl), tt)

stands_directs : (m : Moment) (r : Request) (t : Transaction) (s : Superior) (phase : Phase) (c : Change Transaction) → Directs c → Directs (request_stands m r t s phase c)
stands_directs m r t s Phase.Aborting c h = join c.posts (refused_request r) h (refused_directed r.fault r.id)
stands_directs m r t s other c h =
    let answer : List Post = reply_post (Some r.reply) r.id (messages.CreateResponse (context_of m.base t r.expires)) ∷ [] in
    either_left Directs (is_registering s) c (record { item = Some (under (request_answered s) t); posts = c.posts ++ answer; effects = c.effects }) h
    (join c.posts answer h ((r.reply, refl), tt))

under_directs : (m : Moment) (r : Request) (t : Transaction) (s : Option Superior) (c : Change Transaction) → Directs c → Directs (request_under m r t s c)
under_directs m r t None c h = h
under_directs m r t (Some s) c h = stands_directs m r t s t.phase c h

left_directs : (m : Moment) (r : Request) (t : Option Transaction) (c : Change Transaction) → Directs c → Directs (request_left m r t c)
left_directs m r None c h = join c.posts (refused_request r) h (refused_directed r.fault r.id)
left_directs m r (Some t) c h = under_directs m r t t.superior c h

answer_directs : (m : Moment) (r : Option Request) (c : Change Transaction) → Directs c → Directs (answer_request m r c)
answer_directs m None c h = h
answer_directs m (Some r) c h = left_directs m r c.item c h

pub with_answer_decides : (m : Moment) (t : Transaction) (d : Decision Transaction) → Decides d → Decides (with_answer m t d)
with_answer_decides m t d h =
    let r : Option Request = request_of t.superior in
    both_say Directs Anything (answer_request m r) (λ c k. answer_directs m r c k) (λ s c k. k) d h
