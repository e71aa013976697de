-- A transaction's notifications are signed by their senders' own endpoints, and go where they should.
use Rattle.std.specs.Prelude.{ℕ, List, [], ◌∷◌, ◌++◌, Option, Some, None, if◌then◌else◌, ◌&&◌, ◌≡◌, ◌⊎◌, refl}
use Rattle.std.proofs.Common.{inl, inr, sym, ap, ◌∙◌}
use Rattle.at_base.specs.declared.fault.Fault.{Fault}
use Rattle.at_base.specs.declared.fault.Fault.TheVariants.{InvalidState}
use Rattle.at_base.specs.Numbers.{Numbers}
use Rattle.at_base.specs.declared.epr.Epr.{Epr}
use Rattle.at_base.specs.declared.epr.Reply.{Reply}
use Rattle.at_base.specs.declared.epr.Reply.TheVariants as replies
use Rattle.at_base.specs.declared.notice.Kind.{Kind}
use Rattle.at_base.specs.declared.notice.Kind.TheVariants as kinds
use Rattle.at_base.specs.declared.notice.Notice.{Notice}
use Rattle.at_base.specs.declared.notice.Notice.TheVariants as notices
use Rattle.at_base.specs.declared.message.Message.{Message}
use Rattle.at_base.specs.declared.message.Message.TheVariants as messages
use Rattle.at_base.specs.declared.event.Arrived.{Arrived}
use Rattle.at_base.specs.declared.event.Event.{Event}
use Rattle.at_base.specs.declared.event.Event.TheVariants as events
use Rattle.at_base.specs.declared.event.Moment.{Moment}
use Rattle.at_base.specs.declared.target.Target.{Target}
use Rattle.at_base.specs.declared.target.Target.TheVariants as targets
use Rattle.at_tables.specs.declared.cells.Act.{Act}
use Rattle.at_tables.specs.declared.cells.Act.TheVariants as acts
use Rattle.at_tables.specs.declared.cells.Cell.{Cell}
use Rattle.at_tables.specs.declared.cells.State.TheVariants as states
use Rattle.at_tables.specs.Names.{is_state}
use Rattle.at_tables.specs.Tables.{completion_of, coordinator_of, participant_of}
use Rattle.at_model.specs.Abort.{Alone, Asked, Faulted}
use Rattle.at_model.specs.Arrivals.{answer_left_seat, answer_request, answer_seat, asked, commit_voted, completion_act, completion_notice, context_of, is_registering, link_act, link_fault, link_notice, link_registered, on_completion, on_link, on_seat, refused_at, refused_request, relates_to, request_answered, request_left, request_of, request_stands, request_under, seat_act, seat_notice, with_answer}
use Rattle.endpoints.specs.Addresses.{register_id}
use Rattle.at_model.specs.Book.{Completion, Enlistment, Link, Phase, Request, Superior, Transaction}
use Rattle.at_model.specs.Due.{Expired, Nothing, Over, Reached, Unanswered, link_again, links_again, register_again_at, seat_again, seats_again, transaction_reached, unanswered_seat}
use Rattle.at_model.specs.Moves.{Change, Decision, begin, ignored}
use Rattle.at_model.specs.Phases.{upwards}
use Rattle.at_model.specs.Posts.{fault_post, reply_post, stored_or, stranger_post, to_each}
use Rattle.at_model.specs.Seats.{in_state, link_in, link_of, seat_in, seat_target, under}
use Rattle.model_laws.proofs.DecisionLaws.{all_if, all_join, both_say, either_left}
use Rattle.model_laws.proofs.OtherEnds.{Anything}
use Rattle.agreement.specs.Deeds.{coordinator_at}
use Rattle.agreement.proofs.TransactionRules.{above_in}
use Rattle.agreement.proofs.Posts.{to_each_all}
use Rattle.enlistments.specs.Moves.{IsNotified, IsUpwards, Signed}
use Rattle.enlistments.proofs.PhaseSignatures.{AllSigned, Signs, abort_signed, advance_signed, begun, either, go_volatile_signed, known_or_from, seats_signed, upwards_signed}

-- at a seat
seat_act_signed : (m : Moment) (e : Event) (id : Option (List ℕ)) (t : Transaction) (s : Enlistment) (act : Act) → Signs m e t (seat_target t.id s) (seat_act m id t s act)
unfolding seat_act
seat_act_signed m e id t s acts.SendCommit = (record { from = refl; goes = tt }, tt)
seat_act_signed m e id t s acts.SendRollback =
    either m e t (seat_target t.id s) (in_state states.None s) (answer_left_seat m notices.Rollback t s) (answer_seat m notices.Rollback t s)
    (record { from = refl; goes = refl }, tt) (record { from = refl; goes = tt }, tt)
seat_act_signed m e id t s acts.FaultUnknownTransaction = (tt, tt)
seat_act_signed m e id t s acts.FaultInvalidState = (tt, tt)
seat_act_signed m e id t s acts.FaultInvalidStateAndAbort =
    abort_signed m e t (seat_target t.id s) Alone _ tt (record { above = λ kind. refl; sent = (tt, tt) })
seat_act_signed m e id t s acts.Leave =
    advance_signed m e t (seat_target t.id s) t.phase (begin (seat_in s.number states.None t)) (begun m e t (seat_in s.number states.None t) (seat_target t.id s) (λ kind. refl))
seat_act_signed m e id t s acts.LeaveAndAbort =
    abort_signed m e t (seat_target t.id s) Alone (begin (seat_in s.number states.None t)) tt (begun m e t (seat_in s.number states.None t) (seat_target t.id s) (λ kind. refl))
seat_act_signed m e id t s acts.Vote =
    advance_signed m e t (seat_target t.id s) t.phase (begin (seat_in s.number states.Prepared t)) (begun m e t (seat_in s.number states.Prepared t) (seat_target t.id s) (λ kind. refl))
seat_act_signed m e id t s acts.Ignore = tt
seat_act_signed m e id t s acts.SendPrepared = tt
seat_act_signed m e id t s acts.SendCommitted = tt
seat_act_signed m e id t s acts.SendAborted = tt
seat_act_signed m e id t s acts.Gather = tt
seat_act_signed m e id t s acts.Commit = tt
seat_act_signed m e id t s acts.AbortAndSendAborted = tt
seat_act_signed m e id t s acts.RecordAndSendAborted = tt
seat_act_signed m e id t s acts.Complete = tt
seat_act_signed m e id t s acts.TellCommitted = tt
seat_act_signed m e id t s acts.TellAborted = tt

seat_notice_signed : (m : Moment) (e : Event) (id : Option (List ℕ)) (t : Transaction) (s : Enlistment) (c : Option Cell) → Signs m e t (seat_target t.id s) (seat_notice m id t s c)
unfolding seat_notice
seat_notice_signed m e id t s None = tt
seat_notice_signed m e id t s (Some c) = seat_act_signed m e id t s c.act

pub seat_signed : (m : Moment) (e : Event) (a : Arrived) (t : Transaction) (s : Enlistment) (x : Message) → Signs m e t (seat_target t.id s) (on_seat m a t s x)
unfolding on_seat
seat_signed m e a t s (messages.Notice n) = seat_notice_signed m e a.id t s (coordinator_of s.kind s.state n)
seat_signed m e a t s other = tt

-- on a link
stored_signed : (m : Moment) (e : Event) (t : Transaction) (kind : Kind) (a : Arrived) (n : Notice) (known : Option Epr) → e ≡ events.Arrived a → a.target ≡ targets.Participant t.id kind
    → IsNotified a.message → known ≡ coordinator_at kind t.superior
    → AllSigned m e t (targets.Participant t.id kind) (to_each (stored_or known a.from) (λ to. stranger_post m.base (targets.Participant t.id kind) to n))
stored_signed m e t kind a n known came target said h =
    to_each_all (Signed m.base e t (targets.Participant t.id kind)) (stored_or known a.from) _ (λ to f. record { from = refl; goes = (refl, out to (known_or_from known a.from to f)) })
  where
    out : (to : Epr) → (known ≡ Some to) ⊎ (a.from ≡ Some to) → IsUpwards e t kind (Some to)
    out to (inl g) = inl (sym g ∙ h)
    out to (inr g) = inr (a, came, target, sym g, said)

faults_signed : (m : Moment) (e : Event) (t : Transaction) (T : Target) (to : Option Epr) (id : Option (List ℕ)) (drawn : Fault)
    → AllSigned m e t T (to_each to (λ x. fault_post (Some x) id drawn))
faults_signed m e t T to id drawn = to_each_all (Signed m.base e t T) to _ (λ x f. tt)

asked_above : (kind own : Kind) (s : Superior) → coordinator_at own (Some (asked kind s)) ≡ coordinator_at own (Some s)
asked_above kinds.Volatile own s = above_in kinds.Volatile own states.Preparing s
asked_above kinds.Durable own s =
    above_in kinds.Volatile own states.None (link_in kinds.Durable states.Preparing s) ∙ above_in kinds.Durable own states.Preparing s

link_act_signed : (m : Moment) (e : Event) (a : Arrived) (kind : Kind) (s : Superior) (t : Transaction) (act : Act) → e ≡ events.Arrived a → a.target ≡ targets.Participant t.id kind → IsNotified a.message → t.superior ≡ Some s
    → Signs m e t (targets.Participant t.id kind) (link_act m a.from a.id kind s t act)
unfolding link_act commit_voted
link_act_signed m e a kind s t acts.SendPrepared came at said u =
    upwards_signed m e t (targets.Participant t.id kind) t.id kind notices.Prepared (link_of kind s) (sym (ap (coordinator_at kind) u))
link_act_signed m e a kind s t acts.SendCommitted came at said u = stored_signed m e t kind a notices.Committed (link_of kind s).coordinator came at said (sym (ap (coordinator_at kind) u))
link_act_signed m e a kind s t acts.SendAborted came at said u = stored_signed m e t kind a notices.Aborted (link_of kind s).coordinator came at said (sym (ap (coordinator_at kind) u))
link_act_signed m e a kind s t acts.FaultInvalidState came at said u =
    faults_signed m e t (targets.Participant t.id kind) (stored_or (link_of kind s).coordinator a.from) a.id InvalidState
link_act_signed m e a kind s t acts.FaultInvalidStateAndAbort came at said u =
    abort_signed m e t (targets.Participant t.id kind) (Faulted kind) _ tt
    (record { above = λ k. refl; sent = faults_signed m e t (targets.Participant t.id kind) (stored_or (link_of kind s).coordinator a.from) a.id InvalidState })
link_act_signed m e a kind s t acts.Gather came at said u =
    go_volatile_signed m e t (targets.Participant t.id kind) (begin (under (asked kind s) t))
    (begun m e t (under (asked kind s) t) (targets.Participant t.id kind) (λ own. asked_above kind own s ∙ sym (ap (coordinator_at own) u)))
link_act_signed m e a kind s t acts.Commit came at said u = record {
  entry = tt;
  landed = seats_signed m e t (targets.Participant t.id kind) t.id notices.Commit t.seats (in_state states.Prepared);
  otherwise = tt;
}
link_act_signed m e a kind s t acts.AbortAndSendAborted came at said u =
    abort_signed m e t (targets.Participant t.id kind) (Asked kind a.from) (begin t) (a, came, at, refl, said) (begun m e t t (targets.Participant t.id kind) (λ own. refl))
link_act_signed m e a kind s t acts.RecordAndSendAborted came at said u = record {
  entry = tt;
  landed = abort_signed m e t (targets.Participant t.id kind) (Asked kind a.from) (begin t) (a, came, at, refl, said) (begun m e t t (targets.Participant t.id kind) (λ own. refl));
  otherwise = tt;
}
link_act_signed m e a kind s t acts.Ignore came at said u = tt
link_act_signed m e a kind s t acts.SendCommit came at said u = tt
link_act_signed m e a kind s t acts.SendRollback came at said u = tt
link_act_signed m e a kind s t acts.FaultUnknownTransaction came at said u = tt
link_act_signed m e a kind s t acts.Leave came at said u = tt
link_act_signed m e a kind s t acts.LeaveAndAbort came at said u = tt
link_act_signed m e a kind s t acts.Vote came at said u = tt
link_act_signed m e a kind s t acts.Complete came at said u = tt
link_act_signed m e a kind s t acts.TellCommitted came at said u = tt
link_act_signed m e a kind s t acts.TellAborted came at said u = tt

link_notice_signed : (m : Moment) (e : Event) (a : Arrived) (kind : Kind) (s : Superior) (t : Transaction) (c : Option Cell) → e ≡ events.Arrived a → a.target ≡ targets.Participant t.id kind → IsNotified a.message → t.superior ≡ Some s
    → Signs m e t (targets.Participant t.id kind) (link_notice m a.from a.id kind s t c)
unfolding link_notice
link_notice_signed m e a kind s t None came at said u = tt
link_notice_signed m e a kind s t (Some c) came at said u = link_act_signed m e a kind s t c.act came at said u

registered_signed : (m : Moment) (e : Event) (t : Transaction) (T : Target) (relates : Option (List ℕ)) (coordinator : Epr) (kind : Kind) (s : Superior)
    → Signs m e t T (link_registered m relates coordinator kind s t)
unfolding link_registered
registered_signed m e t T relates coordinator kind s =
    either m e t T (is_state (link_of kind s).state states.Registering && relates_to relates (register_id m.base (targets.Participant t.id kind))) _ (ignored t) tt tt

fault_signed : (m : Moment) (e : Event) (t : Transaction) (T : Target) (relates : Option (List ℕ)) (kind : Kind) (s : Superior) → Signs m e t T (link_fault m relates kind s t)
unfolding link_fault
fault_signed m e t T relates kind s =
    either m e t T (is_state (link_of kind s).state states.Registering && relates_to relates (register_id m.base (targets.Participant t.id kind))) _ (ignored t)
    (abort_signed m e t T Alone (begin t) tt (begun m e t t T (λ own. refl))) tt

pub link_signed : (m : Moment) (e : Event) (a : Arrived) (kind : Kind) (t : Transaction) (s : Superior) (x : Message) → e ≡ events.Arrived a → a.target ≡ targets.Participant t.id kind → a.message ≡ x → t.superior ≡ Some s
    → Signs m e t (targets.Participant t.id kind) (on_link m a kind t s x)
unfolding on_link
link_signed m e a kind t s (messages.Notice n) came at says u = link_notice_signed m e a kind s t (participant_of kind (link_of kind s).state n) came at (n, says) u
link_signed m e a kind t s (messages.RegisterResponse coordinator) came at says u = registered_signed m e t (targets.Participant t.id kind) a.relates coordinator kind s
link_signed m e a kind t s (messages.Fault name) came at says u = fault_signed m e t (targets.Participant t.id kind) a.relates kind s
link_signed m e a kind t s other came at says u = tt

-- at the completion seat
completion_act_signed : (m : Moment) (e : Event) (T : Target) (from : Option Epr) (id : Option (List ℕ)) (c : Completion) (t : Transaction) (act : Act)
    → Signs m e t T (completion_act m from id c t act)
unfolding completion_act
completion_act_signed m e T from id c t acts.SendCommitted = to_each_all (Signed m.base e t T) from _ (λ to f. record { from = refl; goes = tt })
completion_act_signed m e T from id c t acts.FaultUnknownTransaction = (tt, tt)
completion_act_signed m e T from id c t acts.FaultInvalidState = (tt, tt)
completion_act_signed m e T from id c t acts.Complete =
    go_volatile_signed m e t T (begin (record t { completion = Some (record c { state = states.Completing }) }))
    (begun m e t (record t { completion = Some (record c { state = states.Completing }) }) T (λ own. refl))
completion_act_signed m e T from id c t acts.AbortAndSendAborted = abort_signed m e t T Alone (begin t) tt (begun m e t t T (λ own. refl))
completion_act_signed m e T from id c t other = tt

completion_notice_signed : (m : Moment) (e : Event) (T : Target) (from : Option Epr) (id : Option (List ℕ)) (c : Completion) (t : Transaction) (cell : Option Cell)
    → Signs m e t T (completion_notice m from id c t cell)
unfolding completion_notice
completion_notice_signed m e T from id c t None = tt
completion_notice_signed m e T from id c t (Some cell) = completion_act_signed m e T from id c t cell.act

pub completion_signed : (m : Moment) (e : Event) (T : Target) (a : Arrived) (t : Transaction) (c : Completion) (x : Message) → Signs m e t T (on_completion m a t c x)
unfolding on_completion
completion_signed m e T a t c (messages.Notice n) = completion_notice_signed m e T a.from a.id c t (completion_of c.state n)
completion_signed m e T a t c other = tt

-- when it is due
register_again_signed : (m : Moment) (e : Event) (t : Transaction) (T : Target) (id : Numbers) (kind : Kind) (r : Option Request) → AllSigned m e t T (register_again_at m.base id kind r)
register_again_signed m e t T id kind None = tt
register_again_signed m e t T id kind (Some r) = (tt, tt)

link_again_signed : (m : Moment) (e : Event) (t : Transaction) (T : Target) (id : Numbers) (kind : Kind) (r : Option Request) (link : Link)
    → link.coordinator ≡ coordinator_at kind t.superior → AllSigned m e t T (link_again m.base id kind r link)
link_again_signed m e t T id kind r link h =
    all_if (Signed m.base e t T) (is_state link.state states.Registering) (register_again_at m.base id kind r)
    (if is_state link.state states.PreparedSuccess then upwards m.base id kind notices.Prepared link else []) (register_again_signed m e t T id kind r)
    (all_if (Signed m.base e t T) (is_state link.state states.PreparedSuccess) (upwards m.base id kind notices.Prepared link) []
    (upwards_signed m e t T id kind notices.Prepared link h) tt)

links_again_signed : (m : Moment) (e : Event) (t : Transaction) (T : Target) (id : Numbers) (s : Option Superior) → ((kind : Kind) → coordinator_at kind s ≡ coordinator_at kind t.superior)
    → AllSigned m e t T (links_again m.base id s)
links_again_signed m e t T id None h = tt
links_again_signed m e t T id (Some s) h =
    all_join (Signed m.base e t T) (link_again m.base id kinds.Volatile s.request s.volatile) (link_again m.base id kinds.Durable s.request s.durable)
    (link_again_signed m e t T id kinds.Volatile s.request s.volatile (h kinds.Volatile)) (link_again_signed m e t T id kinds.Durable s.request s.durable (h kinds.Durable))

seat_again_signed : (m : Moment) (e : Event) (t : Transaction) (T : Target) (id : Numbers) (s : Enlistment) (n : Option Notice) → AllSigned m e t T (seat_again m.base id s n)
seat_again_signed m e t T id s None = tt
seat_again_signed m e t T id s (Some n) = (record { from = refl; goes = tt }, tt)

seats_again_signed : (m : Moment) (e : Event) (t : Transaction) (T : Target) (id : Numbers) (ss : List Enlistment) → AllSigned m e t T (seats_again m.base id ss)
seats_again_signed m e t T id [] = tt
seats_again_signed m e t T id (s ∷ ss) =
    all_join (Signed m.base e t T) (seat_again m.base id s (unanswered_seat s.state)) (seats_again m.base id ss) (seat_again_signed m e t T id s (unanswered_seat s.state))
    (seats_again_signed m e t T id ss)

pub due_signed : (m : Moment) (e : Event) (t : Transaction) (T : Target) (reached : Reached) → Signs m e t T (transaction_reached m t reached)
unfolding transaction_reached
due_signed m e t T Expired = abort_signed m e t T Alone (begin t) tt (begun m e t t T (λ own. refl))
due_signed m e t T Over = tt
due_signed m e t T Unanswered =
    all_join (Signed m.base e t T) (links_again m.base t.id t.superior) (seats_again m.base t.id t.seats) (links_again_signed m e t T t.id t.superior (λ own. refl))
    (seats_again_signed m e t T t.id t.seats)
due_signed m e t T Nothing = tt

-- with its answer
refused_signed : (m : Moment) (e : Event) (t : Transaction) (T : Target) (r : Reply) (id : Option (List ℕ)) → AllSigned m e t T (refused_at r id)
refused_signed m e t T replies.Anonymous id = tt
refused_signed m e t T replies.Nobody id = tt
refused_signed m e t T (replies.At to) id = (tt, tt)

stands_signed : (m : Moment) (e : Event) (t : Transaction) (T : Target) (r : Request) (x : Transaction) (s : Superior) (phase : Phase) (c : Change Transaction)
    → AllSigned m e t T c.posts → AllSigned m e t T (request_stands m r x s phase c).posts
stands_signed m e t T r x s Phase.Aborting c h = all_join (Signed m.base e t T) c.posts (refused_request r) h (refused_signed m e t T r.fault r.id)
stands_signed m e t T r x s other c h =
    either_left (λ y. AllSigned m e t T y.posts) (is_registering s) c
    (record {
      item = Some (under (request_answered s) x);
      posts = c.posts ++ reply_post (Some r.reply) r.id (messages.CreateResponse (context_of m.base x r.expires)) ∷ [];
      effects = c.effects;
    }) h (all_join (Signed m.base e t T) c.posts _ h (tt, tt))

under_signed : (m : Moment) (e : Event) (t : Transaction) (T : Target) (r : Request) (x : Transaction) (s : Option Superior) (c : Change Transaction)
    → AllSigned m e t T c.posts → AllSigned m e t T (request_under m r x s c).posts
under_signed m e t T r x None c h = h
under_signed m e t T r x (Some s) c h = stands_signed m e t T r x s x.phase c h

left_signed : (m : Moment) (e : Event) (t : Transaction) (T : Target) (r : Request) (x : Option Transaction) (c : Change Transaction) → AllSigned m e t T c.posts
    → AllSigned m e t T (request_left m r x c).posts
left_signed m e t T r None c h = all_join (Signed m.base e t T) c.posts (refused_request r) h (refused_signed m e t T r.fault r.id)
left_signed m e t T r (Some x) c h = under_signed m e t T r x x.superior c h

answer_signed : (m : Moment) (e : Event) (t : Transaction) (T : Target) (r : Option Request) (c : Change Transaction) → AllSigned m e t T c.posts → AllSigned m e t T (answer_request m r c).posts
answer_signed m e t T None c h = h
answer_signed m e t T (Some r) c h = left_signed m e t T r c.item c h

pub with_answer_signed : (m : Moment) (e : Event) (t : Transaction) (T : Target) (d : Decision Transaction) → Signs m e t T d → Signs m e t T (with_answer m t d)
with_answer_signed m e t T d h =
    both_say (λ c. AllSigned m e t T c.posts) Anything (answer_request m (request_of t.superior)) (λ c k. answer_signed m e t T (request_of t.superior) c k) (λ r c k. tt) d h
