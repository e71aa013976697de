-- What a message or a due time does to a transaction keeps what it has, and so have what is recorded and posted.
use Rattle.std.specs.Prelude.{ℕ, List, [], ◌∷◌, ◌++◌, Option, Some, None, IfSome, if◌then◌else◌, ◌≡◌, refl}
use Rattle.std.specs.List.{AllByRecursion}
use Rattle.std.proofs.Common.{subst, sym}
use Rattle.at_base.specs.declared.fault.Fault.TheVariants.{CannotCreateContext, InvalidState, UnknownTransaction}
use Rattle.at_base.specs.Numbers.{Numbers}
use Rattle.at_base.specs.IdText.{IsId}
use Rattle.at_base.specs.declared.epr.Epr.{Epr}
use Rattle.at_base.specs.declared.epr.Reply.{Reply}
use Rattle.at_base.specs.declared.epr.Reply.TheVariants as replies
use Rattle.at_base.specs.declared.event.Arrived.{Arrived}
use Rattle.at_base.specs.declared.event.Moment.{Moment}
use Rattle.at_base.specs.declared.message.Message.{Message}
use Rattle.at_base.specs.declared.message.Message.TheVariants as messages
use Rattle.at_base.specs.declared.notice.Kind.{Kind}
use Rattle.at_base.specs.declared.notice.Kind.TheVariants as kinds
use Rattle.at_base.specs.declared.notice.Notice.{Notice}
use Rattle.at_base.specs.declared.notice.Notice.TheVariants as notices
use Rattle.at_base.specs.declared.outs.Ending.TheVariants as endings
use Rattle.at_base.specs.declared.outs.Post.{Post}
use Rattle.at_base.specs.declared.target.Target.TheVariants as targets
use Rattle.at_tables.specs.declared.cells.Act.{Act}
use Rattle.at_tables.specs.declared.cells.Act.TheVariants as acts
use Rattle.at_tables.specs.declared.cells.Cell.{Cell}
use Rattle.at_tables.specs.declared.cells.State.{State}
use Rattle.at_tables.specs.declared.cells.State.TheVariants as states
use Rattle.at_tables.specs.Names.{is_state}
use Rattle.at_tables.specs.Tables.{completion_of, coordinator_of, participant_of}
use Rattle.endpoints.specs.Addresses.{protocol_of}
use Rattle.at_model.specs.Book.{Completion, Enlistment, Link, Phase, Request, Superior, Transaction}
use Rattle.at_model.specs.Posts.{fault_post, notice_post, reply_post, stored_or, stranger_post, to_each}
use Rattle.at_model.specs.Moves.{Change, Decision, Goes, Moving, Records, become, begin, effect, ignored, post, posts, stays}
use Rattle.at_model.specs.Seats.{ending, in_state, link_in, link_of, seat_in, seat_target, sent_now, set_link, under}
use Rattle.at_model.specs.Abort.{Alone, Asked, Faulted, abort}
use Rattle.at_model.specs.Phases.{commit_seats, upwards}
use Rattle.at_model.specs.Arrivals.{answer_left_seat, answer_request, answer_seat, asked, commit_voted, completion_act, completion_notice, context_of, is_registering, link_act, link_fault, link_notice, link_registered, on_completion, on_link, on_seat, refused_at, refused_request, registered, request_answered, request_left, request_of, request_stands, request_under, seat_act, seat_notice, with_answer}
use Rattle.at_model.specs.Due.{Expired, Nothing, Over, Reached, Unanswered, link_again, links_again, register_again_at, seat_again, seats_again, transaction_again, transaction_reached, unanswered_seat}
use Rattle.model_laws.proofs.DecisionLaws.{IfThere, all_if, all_join, both_say, either_left}
use Rattle.provenance.specs.Forms.{ArePosts, Forms, HaveOwn, IsArrived, IsLink, IsHeard, IsPost, IsReply, IsRequest, IsSeat, IsSuperior, IsTransaction}
use Rattle.provenance.proofs.Decisions.{DecidesTransaction, Enters, Leaves}
use Rattle.provenance.proofs.TransactionPosts.{each_has, fault_has, notice_has, registering_has, reply_has, stored_has, stranger_has}
use Rattle.provenance.proofs.TransactionMoves.{DecidesKept, IsKept, IsMoving, Keeps, begin_moving, either, forgotten_kept, link_has, link_in_has, post_moving, posts_moving, seat_in_has, set_link_has, stays_kept, upwards_have}
use Rattle.provenance.proofs.Aborts.{abort_kept}
use Rattle.provenance.proofs.Phases.{advance_kept, commit_moving, go_volatile_kept}

module _ (F : Forms) (identifier : List ℕ) where
  -- the transaction under this superior
  under_kept : (s : Superior) (t : Transaction) → IsSuperior F t.identifier s → IsKept F identifier t → IsKept F identifier (under s t)
  under_kept s t k h = record { is = record { id = h.is.id; superior = k; seats = h.is.seats; completion = h.is.completion }; same = h.same }

  sent_now_kept : (m : Moment) (t : Transaction) → IsKept F identifier t → IsKept F identifier (sent_now m t)
  sent_now_kept m t h = record { is = record { id = h.is.id; superior = h.is.superior; seats = h.is.seats; completion = h.is.completion }; same = h.same }

  begun_kept : (t : Transaction) → IsKept F identifier t → Keeps F identifier (stays (begin t))
  begun_kept t h = stays_kept F identifier (begin t) (begin_moving F identifier t h)

  posted_kept : (ps : List Post) (t : Transaction) → ArePosts F ps → IsKept F identifier t → Keeps F identifier (stays (posts ps (begin t)))
  posted_kept ps t h k = stays_kept F identifier (posts ps (begin t)) (posts_moving F identifier ps (begin t) h (begin_moving F identifier t k))

  -- the answer to the request that a transaction had
  refused_has : (r : Request) (fault : Reply) → IsReply F fault → IsRequest F identifier r → ArePosts F (refused_at fault r.id)
  refused_has r replies.Anonymous h k = tt
  refused_has r replies.Nobody h k = tt
  refused_has r (replies.At to) h k = (fault_has F (Some to) r.id CannotCreateContext h k.id, tt)

  unrequested_kept : (s : Superior) (t : Transaction) → IsSuperior F t.identifier s → IsKept F identifier t → IsKept F identifier (under (request_answered s) t)
  unrequested_kept s t k h = under_kept (request_answered s) t (record { volatile = k.volatile; durable = k.durable; request = tt }) h

  context_has : (m : Moment) (r : Request) (t : Transaction) → HaveOwn F m.base → IsRequest F identifier r → IsKept F identifier t → F.context (context_of m.base t r.expires)
  context_has m r t own h k = own.contexts t.identifier r.expires t.id (subst F.identifier (sym k.same) h.identifier) h.expires k.is.id

  module _ (m : Moment) (own : HaveOwn F m.base) (r : Request) (asks : IsRequest F identifier r) where
    stands_kept : (t : Transaction) (s : Superior) (phase : Phase) (c : Change Transaction) → IsSuperior F t.identifier s → IsKept F identifier t → Keeps F identifier c
        → Keeps F identifier (request_stands m r t s phase c)
    stands_kept t s Phase.Aborting c k h l = record {
      item = unrequested_kept s t k h;
      posts = all_join (IsPost F) c.posts (refused_request r) l.posts (refused_has r r.fault asks.fault asks);
    }
    stands_kept t s other c k h l =
        let x : Message = messages.CreateResponse (context_of m.base t r.expires) in
        either_left (Keeps F identifier) (is_registering s) c
        (record {
          item = Some (under (request_answered s) t);
          posts = c.posts ++ reply_post (Some r.reply) r.id x ∷ [];
          effects = c.effects;
        })
        l
        (record {
          item = unrequested_kept s t k h;
          posts = all_join (IsPost F) c.posts (reply_post (Some r.reply) r.id x ∷ []) l.posts
              (reply_has F (Some r.reply) r.id x asks.reply asks.id (context_has m r t own asks h) (λ p. tt), tt);
        })

    requested_kept : (t : Transaction) (s : Option Superior) (c : Change Transaction) → IfSome s (IsSuperior F t.identifier) → IsKept F identifier t → Keeps F identifier c
        → Keeps F identifier (request_under m r t s c)
    requested_kept t None c k h l = l
    requested_kept t (Some s) c k h l = stands_kept t s t.phase c k h l

    left_kept : (t : Option Transaction) (c : Change Transaction) → IfThere (IsKept F identifier) t → Keeps F identifier c → Keeps F identifier (request_left m r t c)
    left_kept None c h l = record { item = tt; posts = all_join (IsPost F) c.posts (refused_request r) l.posts (refused_has r r.fault asks.fault asks) }
    left_kept (Some t) c h l = requested_kept t t.superior c h.is.superior h l

  answered_kept : (m : Moment) (r : Option Request) (c : Change Transaction) → HaveOwn F m.base → IfSome r (IsRequest F identifier) → Keeps F identifier c → Keeps F identifier (answer_request m r c)
  answered_kept m None c own asks h = h
  answered_kept m (Some r) c own asks h = left_kept m own r asks c.item c h.item h

  request_has : (s : Option Superior) → IfSome s (IsSuperior F identifier) → IfSome (request_of s) (IsRequest F identifier)
  request_has None h = tt
  request_has (Some s) h = h.request

  transaction_left : (t : Option Transaction) → IfThere (IsKept F identifier) t → IfThere (IsTransaction F) t
  transaction_left None h = tt
  transaction_left (Some t) h = h.is

  change_leaves : (c : Change Transaction) → Keeps F identifier c → Leaves F (IsTransaction F) c
  change_leaves c h = record { item = transaction_left c.item h.item; posts = h.posts }

  decides : (d : Decision Transaction) → DecidesKept F identifier d → DecidesTransaction F d
  decides (Goes c) h = change_leaves c h
  decides (Records r c None) h = record { entry = h.entry; landed = change_leaves c h.landed; otherwise = tt }
  decides (Records r c (Some d)) h = record { entry = h.entry; landed = change_leaves c h.landed; otherwise = change_leaves d h.otherwise }

with_answer_passes : (F : Forms) (m : Moment) (t : Transaction) (d : Decision Transaction) → HaveOwn F m.base → IsTransaction F t → DecidesKept F t.identifier d → DecidesTransaction F (with_answer m t d)
with_answer_passes F m t d own h k =
    let asks : IfSome (request_of t.superior) (IsRequest F t.identifier) = request_has F t.identifier t.superior h.superior in
    decides F t.identifier (with_answer m t d)
    (both_say (Keeps F t.identifier) (Enters F) (answer_request m (request_of t.superior)) (λ c l. answered_kept F t.identifier m (request_of t.superior) c own asks l) (λ r c l. l) d k)

module _ (F : Forms) (identifier : List ℕ) (m : Moment) (own : HaveOwn F m.base) where
  -- at a seat
  answer_seat_kept : (n : Notice) (t : Transaction) (s : Enlistment) → IsSeat F t.id s → IsKept F identifier t → DecidesKept F identifier (answer_seat m n t s)
  answer_seat_kept n t s k h =
      posted_kept F identifier (notice_post m.base (seat_target t.id s) s.participant n ∷ []) (sent_now m t)
      (notice_has F m.base own (seat_target t.id s) s.participant n k.number k.participant, tt) (sent_now_kept F identifier m t h)

  answer_left_kept : (n : Notice) (t : Transaction) (s : Enlistment) → IsSeat F t.id s → IsKept F identifier t → DecidesKept F identifier (answer_left_seat m n t s)
  answer_left_kept n t s k h =
      posted_kept F identifier (stranger_post m.base (seat_target t.id s) s.participant n ∷ []) t
      (stranger_has F m.base own (seat_target t.id s) s.participant n k.number k.participant, tt) h

  seat_moving : (number : ℕ) (state : State) (t : Transaction) → IsKept F identifier t → IsMoving F identifier (begin (seat_in number state t))
  seat_moving number state t h = begin_moving F identifier (seat_in number state t) (seat_in_has F identifier number state t h)

  seat_act_kept : (id : Option (List ℕ)) (t : Transaction) (s : Enlistment) (act : Act) → IfSome id F.id → IsSeat F t.id s → IsKept F identifier t → DecidesKept F identifier (seat_act m id t s act)
  unfolding seat_act
  seat_act_kept id t s acts.Ignore i k h = begun_kept F identifier t h
  seat_act_kept id t s acts.SendPrepared i k h = begun_kept F identifier t h
  seat_act_kept id t s acts.SendCommit i k h = answer_seat_kept notices.Commit t s k h
  seat_act_kept id t s acts.SendRollback i k h =
      either F identifier (in_state states.None s) (answer_left_seat m notices.Rollback t s) (answer_seat m notices.Rollback t s)
      (answer_left_kept notices.Rollback t s k h) (answer_seat_kept notices.Rollback t s k h)
  seat_act_kept id t s acts.SendCommitted i k h = begun_kept F identifier t h
  seat_act_kept id t s acts.SendAborted i k h = begun_kept F identifier t h
  seat_act_kept id t s acts.FaultUnknownTransaction i k h =
      posted_kept F identifier (fault_post (Some s.participant) id UnknownTransaction ∷ []) t (fault_has F (Some s.participant) id UnknownTransaction k.participant i, tt) h
  seat_act_kept id t s acts.FaultInvalidState i k h =
      posted_kept F identifier (fault_post (Some s.participant) id InvalidState ∷ []) t (fault_has F (Some s.participant) id InvalidState k.participant i, tt) h
  seat_act_kept id t s acts.FaultInvalidStateAndAbort i k h =
      let p : Post = fault_post (Some s.participant) id InvalidState in
      abort_kept F identifier m Alone (post p (begin t)) own tt
      (post_moving F identifier p (begin t) (fault_has F (Some s.participant) id InvalidState k.participant i) (begin_moving F identifier t h))
  seat_act_kept id t s acts.Leave i k h = advance_kept F identifier m own (begin (seat_in s.number states.None t)) (seat_moving s.number states.None t h)
  seat_act_kept id t s acts.LeaveAndAbort i k h = abort_kept F identifier m Alone (begin (seat_in s.number states.None t)) own tt (seat_moving s.number states.None t h)
  seat_act_kept id t s acts.Vote i k h = advance_kept F identifier m own (begin (seat_in s.number states.Prepared t)) (seat_moving s.number states.Prepared t h)
  seat_act_kept id t s acts.Gather i k h = begun_kept F identifier t h
  seat_act_kept id t s acts.Commit i k h = begun_kept F identifier t h
  seat_act_kept id t s acts.AbortAndSendAborted i k h = begun_kept F identifier t h
  seat_act_kept id t s acts.RecordAndSendAborted i k h = begun_kept F identifier t h
  seat_act_kept id t s acts.Complete i k h = begun_kept F identifier t h
  seat_act_kept id t s acts.TellCommitted i k h = begun_kept F identifier t h
  seat_act_kept id t s acts.TellAborted i k h = begun_kept F identifier t h

  seat_notice_kept : (id : Option (List ℕ)) (t : Transaction) (s : Enlistment) (c : Option Cell) → IfSome id F.id → IsSeat F t.id s → IsKept F identifier t
      → DecidesKept F identifier (seat_notice m id t s c)
  unfolding seat_notice
  seat_notice_kept id t s None i k h = begun_kept F identifier t h
  seat_notice_kept id t s (Some c) i k h = seat_act_kept id t s c.act i k h

  seat_kept : (a : Arrived) (t : Transaction) (s : Enlistment) (x : Message) → IsArrived F a → IsSeat F t.id s → IsKept F identifier t → DecidesKept F identifier (on_seat m a t s x)
  unfolding on_seat
  seat_kept a t s (messages.Notice n) came k h = seat_notice_kept a.id t s (coordinator_of s.kind s.state n) came.id k h
  seat_kept a t s other came k h = begun_kept F identifier t h

  -- at a link
  commit_voted_kept : (s : Superior) (t : Transaction) → IsSuperior F t.identifier s → IsKept F identifier t → DecidesKept F identifier (commit_voted m s t)
  unfolding commit_voted
  commit_voted_kept s t k h =
      let first : Moving Transaction = effect (ending t endings.Committed) (begin t) in
      let above : Moving Transaction = become (record t { superior = Some (link_in kinds.Durable states.Committing s); phase = Phase.Committing }) first in
      record {
        entry = tt;
        landed = stays_kept F identifier (commit_seats m above) (commit_moving F identifier m own above (record {
          item = record {
            is = record {
              id = h.is.id;
              superior = link_in_has F t.identifier kinds.Durable states.Committing s k;
              seats = h.is.seats;
              completion = h.is.completion;
            };
            same = h.same;
          };
          posts = tt;
        }));
        otherwise = tt;
      }

  asked_has : (text : List ℕ) (kind : Kind) (s : Superior) → IsSuperior F text s → IsSuperior F text (asked kind s)
  asked_has text kinds.Volatile s h = link_in_has F text kinds.Volatile states.Preparing s h
  asked_has text kinds.Durable s h =
      link_in_has F text kinds.Volatile states.None (link_in kinds.Durable states.Preparing s) (link_in_has F text kinds.Durable states.Preparing s h)

  module _ (from : Option Epr) (id : Option (List ℕ)) (whence : IfSome from F.endpoint) (named : IfSome id F.id) where
    -- to the superior, or where the message came from
    strangers_have : (kind : Kind) (s : Superior) (t : Transaction) (n : Notice) → IsSuperior F t.identifier s → IsKept F identifier t
        → ArePosts F (to_each (stored_or (link_of kind s).coordinator from) (λ to. stranger_post m.base (targets.Participant t.id kind) to n))
    strangers_have kind s t n k h =
        each_has F (stored_or (link_of kind s).coordinator from) (λ to. stranger_post m.base (targets.Participant t.id kind) to n)
        (stored_has F (link_of kind s).coordinator from (link_has F t.identifier kind s k) whence)
        (λ to e. stranger_has F m.base own (targets.Participant t.id kind) to n h.is.id e)

    faults_have : (kind : Kind) (s : Superior) (t : Transaction) → IsSuperior F t.identifier s
        → ArePosts F (to_each (stored_or (link_of kind s).coordinator from) (λ to. fault_post (Some to) id InvalidState))
    faults_have kind s t k =
        each_has F (stored_or (link_of kind s).coordinator from) (λ to. fault_post (Some to) id InvalidState)
        (stored_has F (link_of kind s).coordinator from (link_has F t.identifier kind s k) whence) (λ to e. fault_has F (Some to) id InvalidState e named)

    link_act_kept : (kind : Kind) (s : Superior) (t : Transaction) (act : Act) → IsSuperior F t.identifier s → IsKept F identifier t → DecidesKept F identifier (link_act m from id kind s t act)
    unfolding link_act
    link_act_kept kind s t acts.Ignore k h = begun_kept F identifier t h
    link_act_kept kind s t acts.SendPrepared k h =
        posted_kept F identifier (upwards m.base t.id kind notices.Prepared (link_of kind s)) (sent_now m t)
        (upwards_have F m.base own t.id kind notices.Prepared (link_of kind s) h.is.id (link_has F t.identifier kind s k)) (sent_now_kept F identifier m t h)
    link_act_kept kind s t acts.SendCommit k h = begun_kept F identifier t h
    link_act_kept kind s t acts.SendRollback k h = begun_kept F identifier t h
    link_act_kept kind s t acts.SendCommitted k h =
        posted_kept F identifier (to_each (stored_or (link_of kind s).coordinator from) (λ to. stranger_post m.base (targets.Participant t.id kind) to notices.Committed)) t
        (strangers_have kind s t notices.Committed k h) h
    link_act_kept kind s t acts.SendAborted k h =
        posted_kept F identifier (to_each (stored_or (link_of kind s).coordinator from) (λ to. stranger_post m.base (targets.Participant t.id kind) to notices.Aborted)) t
        (strangers_have kind s t notices.Aborted k h) h
    link_act_kept kind s t acts.FaultUnknownTransaction k h = begun_kept F identifier t h
    link_act_kept kind s t acts.FaultInvalidState k h =
        posted_kept F identifier (to_each (stored_or (link_of kind s).coordinator from) (λ to. fault_post (Some to) id InvalidState)) t (faults_have kind s t k) h
    link_act_kept kind s t acts.FaultInvalidStateAndAbort k h =
        let said : List Post = to_each (stored_or (link_of kind s).coordinator from) (λ to. fault_post (Some to) id InvalidState) in
        abort_kept F identifier m (Faulted kind) (posts said (begin t)) own tt
        (posts_moving F identifier said (begin t) (faults_have kind s t k) (begin_moving F identifier t h))
    link_act_kept kind s t acts.Leave k h = begun_kept F identifier t h
    link_act_kept kind s t acts.LeaveAndAbort k h = begun_kept F identifier t h
    link_act_kept kind s t acts.Vote k h = begun_kept F identifier t h
    link_act_kept kind s t acts.Gather k h =
        go_volatile_kept F identifier m own (begin (under (asked kind s) t))
        (begin_moving F identifier (under (asked kind s) t) (under_kept F identifier (asked kind s) t (asked_has t.identifier kind s k) h))
    link_act_kept kind s t acts.Commit k h = commit_voted_kept s t k h
    link_act_kept kind s t acts.AbortAndSendAborted k h = abort_kept F identifier m (Asked kind from) (begin t) own whence (begin_moving F identifier t h)
    link_act_kept kind s t acts.RecordAndSendAborted k h =
        record { entry = tt; landed = abort_kept F identifier m (Asked kind from) (begin t) own whence (begin_moving F identifier t h); otherwise = tt }
    link_act_kept kind s t acts.Complete k h = begun_kept F identifier t h
    link_act_kept kind s t acts.TellCommitted k h = begun_kept F identifier t h
    link_act_kept kind s t acts.TellAborted k h = begun_kept F identifier t h

    link_notice_kept : (kind : Kind) (s : Superior) (t : Transaction) (c : Option Cell) → IsSuperior F t.identifier s → IsKept F identifier t
        → DecidesKept F identifier (link_notice m from id kind s t c)
    unfolding link_notice
    link_notice_kept kind s t None k h = begun_kept F identifier t h
    link_notice_kept kind s t (Some c) k h = link_act_kept kind s t c.act k h

    -- at the completion seat
    completion_act_kept : (c : Completion) (t : Transaction) (act : Act) → F.endpoint c.initiator → IsKept F identifier t → DecidesKept F identifier (completion_act m from id c t act)
    unfolding completion_act
    completion_act_kept c t acts.SendCommitted k h =
        let says : Epr → Post = λ to. notice_post m.base (targets.Completion t.id) to notices.Committed in
        posted_kept F identifier (to_each from says) t
        (each_has F from says whence (λ to e. notice_has F m.base own (targets.Completion t.id) to notices.Committed h.is.id e)) h
    completion_act_kept c t acts.FaultUnknownTransaction k h =
        posted_kept F identifier (fault_post (Some c.initiator) id UnknownTransaction ∷ []) t (fault_has F (Some c.initiator) id UnknownTransaction k named, tt) h
    completion_act_kept c t acts.FaultInvalidState k h =
        posted_kept F identifier (fault_post (Some c.initiator) id InvalidState ∷ []) t (fault_has F (Some c.initiator) id InvalidState k named, tt) h
    completion_act_kept c t acts.Complete k h =
        let after : Transaction = record t { completion = Some (record c { state = states.Completing }) } in
        go_volatile_kept F identifier m own (begin after)
        (begin_moving F identifier after (record { is = record { id = h.is.id; superior = h.is.superior; seats = h.is.seats; completion = k }; same = h.same }))
    completion_act_kept c t acts.AbortAndSendAborted k h = abort_kept F identifier m Alone (begin t) own tt (begin_moving F identifier t h)
    completion_act_kept c t other k h = begun_kept F identifier t h

    completion_notice_kept : (c : Completion) (t : Transaction) (cell : Option Cell) → F.endpoint c.initiator → IsKept F identifier t
        → DecidesKept F identifier (completion_notice m from id c t cell)
    unfolding completion_notice
    completion_notice_kept c t None k h = begun_kept F identifier t h
    completion_notice_kept c t (Some cell) k h = completion_act_kept c t cell.act k h

  link_registered_kept : (relates : Option (List ℕ)) (coordinator : Epr) (kind : Kind) (s : Superior) (t : Transaction) → F.endpoint coordinator → IsSuperior F t.identifier s → IsKept F identifier t
      → DecidesKept F identifier (link_registered m relates coordinator kind s t)
  unfolding link_registered
  link_registered_kept relates coordinator kind s t e k h =
      let link : Link = record { state = states.Active; coordinator = Some coordinator } in
      let after : Superior = set_link kind link s in
      let next : Transaction = record t { superior = Some after; phase = registered after t.phase } in
      either F identifier _ (Goes (stays (begin next))) (ignored t)
      (begun_kept F identifier next (record {
        is = record { id = h.is.id; superior = set_link_has F t.identifier kind link s e k; seats = h.is.seats; completion = h.is.completion };
        same = h.same;
      }))
      (begun_kept F identifier t h)

  link_fault_kept : (relates : Option (List ℕ)) (kind : Kind) (s : Superior) (t : Transaction) → IsKept F identifier t → DecidesKept F identifier (link_fault m relates kind s t)
  unfolding link_fault
  link_fault_kept relates kind s t h =
      either F identifier _ (Goes (abort m Alone (begin t))) (ignored t) (abort_kept F identifier m Alone (begin t) own tt (begin_moving F identifier t h)) (begun_kept F identifier t h)

  link_kept : (a : Arrived) (kind : Kind) (t : Transaction) (s : Superior) (x : Message) → IsArrived F a → IsHeard F x → IsSuperior F t.identifier s → IsKept F identifier t
      → DecidesKept F identifier (on_link m a kind t s x)
  unfolding on_link
  link_kept a kind t s (messages.Notice n) came says k h =
      link_notice_kept a.from a.id came.from came.id kind s t (participant_of kind (link_of kind s).state n) k h
  link_kept a kind t s (messages.RegisterResponse coordinator) came says k h = link_registered_kept a.relates coordinator kind s t says k h
  link_kept a kind t s (messages.Fault name) came says k h = link_fault_kept a.relates kind s t h
  link_kept a kind t s other came says k h = begun_kept F identifier t h

  completion_kept : (a : Arrived) (t : Transaction) (c : Completion) (x : Message) → IsArrived F a → F.endpoint c.initiator → IsKept F identifier t
      → DecidesKept F identifier (on_completion m a t c x)
  unfolding on_completion
  completion_kept a t c (messages.Notice n) came k h = completion_notice_kept a.from a.id came.from came.id c t (completion_of c.state n) k h
  completion_kept a t c other came k h = begun_kept F identifier t h

  -- what is sent again
  registers_again : (id : Numbers) (kind : Kind) (r : Option Request) → IsId id → IfSome r (IsRequest F identifier) → ArePosts F (register_again_at m.base id kind r)
  registers_again id kind None is h = tt
  registers_again id kind (Some r) is h = (registering_has F m.base own (targets.Participant id kind) (protocol_of kind) r.registration is (own.protocols kind) h.registration, tt)

  link_again_has : (id : Numbers) (kind : Kind) (r : Option Request) (link : Link) → IsId id → IfSome r (IsRequest F identifier) → IsLink F link → ArePosts F (link_again m.base id kind r link)
  link_again_has id kind r link is h k =
      all_if (IsPost F) (is_state link.state states.Registering) (register_again_at m.base id kind r)
      (if is_state link.state states.PreparedSuccess then upwards m.base id kind notices.Prepared link else [])
      (registers_again id kind r is h)
      (all_if (IsPost F) (is_state link.state states.PreparedSuccess) (upwards m.base id kind notices.Prepared link) [] (upwards_have F m.base own id kind notices.Prepared link is k) tt)

  links_again_have : (id : Numbers) (s : Option Superior) → IsId id → IfSome s (IsSuperior F identifier) → ArePosts F (links_again m.base id s)
  links_again_have id None is h = tt
  links_again_have id (Some s) is h =
      all_join (IsPost F) (link_again m.base id kinds.Volatile s.request s.volatile) (link_again m.base id kinds.Durable s.request s.durable)
      (link_again_has id kinds.Volatile s.request s.volatile is h.request h.volatile) (link_again_has id kinds.Durable s.request s.durable is h.request h.durable)

  seat_again_has : (id : Numbers) (s : Enlistment) (n : Option Notice) → IsSeat F id s → ArePosts F (seat_again m.base id s n)
  seat_again_has id s None h = tt
  seat_again_has id s (Some n) h = (notice_has F m.base own (seat_target id s) s.participant n h.number h.participant, tt)

  seats_again_have : (id : Numbers) (seats : List Enlistment) → AllByRecursion (IsSeat F id) seats → ArePosts F (seats_again m.base id seats)
  seats_again_have id [] h = tt
  seats_again_have id (s ∷ seats) (h, k) =
      all_join (IsPost F) (seat_again m.base id s (unanswered_seat s.state)) (seats_again m.base id seats) (seat_again_has id s (unanswered_seat s.state) h) (seats_again_have id seats k)

again_has : (F : Forms) (m : Moment) (t : Transaction) → HaveOwn F m.base → IsTransaction F t → ArePosts F (transaction_again m.base t)
again_has F m t own h =
    all_join (IsPost F) (links_again m.base t.id t.superior) (seats_again m.base t.id t.seats) (links_again_have F t.identifier m own t.id t.superior h.id h.superior)
    (seats_again_have F t.identifier m own t.id t.seats h.seats)

due_kept : (F : Forms) (m : Moment) (t : Transaction) (r : Reached) → HaveOwn F m.base → IsTransaction F t → DecidesKept F t.identifier (transaction_reached m t r)
unfolding transaction_reached
due_kept F m t Expired own h = abort_kept F t.identifier m Alone (begin t) own tt (begin_moving F t.identifier t (record { is = h; same = refl }))
due_kept F m t Over own h = forgotten_kept F t.identifier (begin t) tt
due_kept F m t Unanswered own h =
    posted_kept F t.identifier (transaction_again m.base t) (sent_now m t) (again_has F m t own h) (sent_now_kept F t.identifier m t (record { is = h; same = refl }))
due_kept F m t Nothing own h = begun_kept F t.identifier t (record { is = h; same = refl })

pub seat_passes : (F : Forms) (m : Moment) (a : Arrived) (t : Transaction) (s : Enlistment) → HaveOwn F m.base → IsArrived F a → IsTransaction F t → IsSeat F t.id s
    → DecidesTransaction F (with_answer m t (on_seat m a t s a.message))
seat_passes F m a t s own came h k =
    with_answer_passes F m t (on_seat m a t s a.message) own h (seat_kept F t.identifier m own a t s a.message came k (record { is = h; same = refl }))

pub link_passes : (F : Forms) (m : Moment) (a : Arrived) (kind : Kind) (t : Transaction) (s : Superior) → HaveOwn F m.base → IsArrived F a → IsTransaction F t → t.superior ≡ Some s
    → DecidesTransaction F (with_answer m t (on_link m a kind t s a.message))
link_passes F m a kind t s own came h e =
    with_answer_passes F m t (on_link m a kind t s a.message) own h
    (link_kept F t.identifier m own a kind t s a.message came came.message (subst (λ o. IfSome o (IsSuperior F t.identifier)) e h.superior) (record { is = h; same = refl }))

pub completion_passes : (F : Forms) (m : Moment) (a : Arrived) (t : Transaction) (c : Completion) → HaveOwn F m.base → IsArrived F a → IsTransaction F t → t.completion ≡ Some c
    → DecidesTransaction F (with_answer m t (on_completion m a t c a.message))
completion_passes F m a t c own came h e =
    with_answer_passes F m t (on_completion m a t c a.message) own h
    (completion_kept F t.identifier m own a t c a.message came (subst (λ o. IfSome o (λ x. F.endpoint x.initiator)) e h.completion) (record { is = h; same = refl }))

pub due_passes : (F : Forms) (m : Moment) (t : Transaction) (r : Reached) → HaveOwn F m.base → IsTransaction F t → DecidesTransaction F (with_answer m t (transaction_reached m t r))
due_passes F m t r own h = with_answer_passes F m t (transaction_reached m t r) own h (due_kept F m t r own h)
