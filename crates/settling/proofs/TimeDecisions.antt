-- No item sent later than its book has seen: a decision keeps it so.
use Rattle.std.specs.Prelude.{ℕ, List, [], ◌∷◌, Option, Some, None, Bool, true, false, ◌≡◌, if◌then◌else◌, ◌&&◌, bytes_eq, nat_lt}
use Rattle.std.specs.List.{list_any, AllByRecursion}
use Rattle.std.proofs.Common.{arith, subst}
use Rattle.at_base.specs.declared.limits.TheConstants.{MOST_ITEMS}
use Rattle.at_base.specs.Numbers.{Numbers}
use Rattle.at_base.specs.declared.epr.Epr.{Epr}
use Rattle.at_base.specs.declared.epr.Reply.{Reply}
use Rattle.at_base.specs.declared.epr.Reply.TheVariants as replies
use Rattle.at_base.specs.declared.notice.Kind.{Kind}
use Rattle.at_base.specs.declared.notice.Kind.TheVariants as kinds
use Rattle.at_base.specs.declared.message.Context.{Context}
use Rattle.at_base.specs.declared.message.Create.{Create}
use Rattle.at_base.specs.declared.message.Message.{Message}
use Rattle.at_base.specs.declared.message.Message.TheVariants as messages
use Rattle.at_base.specs.declared.record.Record.{Record}
use Rattle.at_base.specs.declared.record.Record.TheVariants as records
use Rattle.at_base.specs.declared.record.Seated.{Seated}
use Rattle.at_base.specs.declared.event.Arrived.{Arrived}
use Rattle.at_base.specs.declared.event.Moment.{Moment}
use Rattle.at_base.specs.declared.target.Target.TheVariants as targets
use Rattle.at_tables.specs.declared.cells.State.TheVariants as states
use Rattle.at_tables.specs.declared.cells.Act.{Act}
use Rattle.at_tables.specs.declared.cells.Act.TheVariants as acts
use Rattle.at_tables.specs.declared.cells.Cell.{Cell}
use Rattle.at_tables.specs.Names.{is_state}
use Rattle.at_tables.specs.Tables.{coordinator_of, participant_of, completion_of}
use Rattle.at_model.specs.Book.{Completion, Enlistment, Phase, Superior, Transaction}
use Rattle.endpoints.specs.Addresses.{atomic, register_id}
use Rattle.at_model.specs.Moves.{Moving, Decision, begin, become, stays, forgotten}
use Rattle.at_model.specs.Seats.{answered, all_left, in_phase, in_state, is_of, is_prepared_durable, link_of, seat_in, under}
use Rattle.at_model.specs.Abort.{Reason, Alone, Asked, until_rolled_back, abort}
use Rattle.at_model.specs.Phases.{decided, committed, root_answered, voted, sub_answered, durable_answered, if_durable_answered, prepare_seats, go_durable, volatile_answered, all_committed, advance_in, go_volatile}
use Rattle.at_model.specs.Arrivals.{asked, seat_act, seat_notice, commit_voted, link_act, link_notice, completion_act, completion_notice, link_registered, link_fault, on_link, on_seat, on_completion, relates_to, with_answer}
use Rattle.at_model.specs.Create.{create_in, create_under, on_create, refuse_create}
use Rattle.at_model.specs.Due.{Reached, Expired, Over, Unanswered, Nothing, transaction_reached}
use Rattle.at_model.specs.Recovery.{recovered_voted, transactions_of, is_sub_committed}
use Rattle.model_laws.proofs.DecisionLaws.{DecisionHas, IfThere, either_has, either_change, either_of, with_answer_has}
use Rattle.model_laws.proofs.LinkDecisions.{AnyRecord}
use Rattle.settling.specs.Times.{IsBy}

-- it sent no later than now
abbrev pub InTime : ℕ → Transaction → Type 0
InTime now t = IsBy now t.sent

abbrev pub Times : ℕ → Decision Transaction → Type 0
Times now d = DecisionHas (IfThere (InTime now)) AnyRecord d

either : (now : ℕ) (b : Bool) (d e : Decision Transaction) → (b ≡ true → Times now d) → (b ≡ false → Times now e) → Times now (if b then d else e)
either now b d e h k = either_has (IfThere (InTime now)) AnyRecord b d e h k

-- where seats are sent to
sent_by : (now : ℕ) (o : Option ℕ) (b : Bool) → IsBy now o → IsBy now (if b then Some now else o)
sent_by now o true h = omega arith
sent_by now o false h = h

rolled_back : (now : ℕ) (g : Moving Transaction) → InTime now g.item → IfThere (InTime now) (until_rolled_back g).item
rolled_back now g h = either_change (IfThere (InTime now)) (list_any (in_state states.Aborting) g.item.seats) (stays g) (forgotten g) h tt

abort_times : (m : Moment) (reason : Reason) (g : Moving Transaction) → InTime m.now g.item → IfThere (InTime m.now) (abort m reason g).item
unfolding abort
abort_times m reason g h = search (rolled_back, sent_by)

root_times : (m : Moment) (g : Moving Transaction) → InTime m.now g.item → Times m.now (root_answered m g)
unfolding root_answered committed decided
root_times m g h = record {
  entry = tt;
  landed = either_change (IfThere (InTime m.now)) (list_any is_prepared_durable g.item.seats) (stays (decided m g)) (forgotten (decided m g))
      (sent_by m.now g.item.sent (list_any (in_state states.Prepared) g.item.seats) h) tt;
  otherwise = abort_times m Alone g h;
}

sub_times : (m : Moment) (s : Superior) (superior : Option Epr) (g : Moving Transaction) → InTime m.now g.item → Times m.now (sub_answered m s superior g)
unfolding sub_answered voted
sub_times m s None g h = abort_times m Alone g h
sub_times m s (Some superior) g h =
    either m.now (list_any is_prepared_durable g.item.seats) _ _ (λ i. record { entry = tt; landed = omega arith; otherwise = abort_times m Alone g h }) (λ i. tt)

durable_times : (m : Moment) (s : Option Superior) (g : Moving Transaction) → InTime m.now g.item → Times m.now (durable_answered m s g)
durable_times m None g h = root_times m g h
durable_times m (Some s) g h = sub_times m s s.durable.coordinator g h

if_durable_times : (m : Moment) (g : Moving Transaction) → InTime m.now g.item → Times m.now (if_durable_answered m g)
if_durable_times m g h = either m.now (answered kinds.Durable g.item.seats) _ _ (λ k. durable_times m g.item.superior g h) (λ k. h)

asked_by : (m : Moment) (kind : Kind) (g : Moving Transaction) → InTime m.now g.item → InTime m.now (prepare_seats m kind g).item
asked_by m kind g h = sent_by m.now g.item.sent (list_any (is_of kind states.Active) g.item.seats) h

go_durable_times : (m : Moment) (g : Moving Transaction) → InTime m.now g.item → Times m.now (go_durable m g)
unfolding go_durable
go_durable_times m g h =
    if_durable_times m (prepare_seats m kinds.Durable (become (in_phase Phase.Durable g.item) g)) (asked_by m kinds.Durable (become (in_phase Phase.Durable g.item) g) h)

volatile_times : (m : Moment) (s : Option Superior) (g : Moving Transaction) → InTime m.now g.item → Times m.now (volatile_answered m s g)
unfolding volatile_answered
volatile_times m None g h = go_durable_times m g h
volatile_times m (Some s) g h =
    either m.now (is_state s.volatile.state states.Preparing) _ _ (λ i. h) (λ i. either m.now (is_state s.durable.state states.Preparing) _ _ (λ j. go_durable_times m g h) (λ j. h))

advance_times : (m : Moment) (phase : Phase) (g : Moving Transaction) → InTime m.now g.item → Times m.now (advance_in m phase g)
unfolding advance_in all_committed
advance_times m Phase.Registering g h = h
advance_times m Phase.Active g h = h
advance_times m Phase.Volatile g h = either m.now (answered kinds.Volatile g.item.seats) _ _ (λ k. volatile_times m g.item.superior g h) (λ k. h)
advance_times m Phase.Durable g h = if_durable_times m g h
advance_times m Phase.Voted g h = h
advance_times m Phase.Committing g h = either m.now (all_left g.item.seats) _ _ (λ k. record { entry = tt; landed = tt; otherwise = tt }) (λ k. h)
advance_times m Phase.Aborting g h = rolled_back m.now g h

go_volatile_times : (m : Moment) (g : Moving Transaction) → InTime m.now g.item → Times m.now (go_volatile m g)
unfolding go_volatile
go_volatile_times m g h =
    advance_times m Phase.Volatile (prepare_seats m kinds.Volatile (become (in_phase Phase.Volatile g.item) g)) (asked_by m kinds.Volatile (become (in_phase Phase.Volatile g.item) g) h)

pub now_by : (now : ℕ) → IsBy now (Some now)
now_by now = omega arith

seat_act_times : (m : Moment) (i : Option (List ℕ)) (t : Transaction) (s : Enlistment) (act : Act) → InTime m.now t → Times m.now (seat_act m i t s act)
unfolding seat_act
seat_act_times m i t s acts.SendCommit h = now_by m.now
seat_act_times m i t s acts.SendRollback h = either m.now (in_state states.None s) _ _ (λ k. h) (λ k. now_by m.now)
seat_act_times m i t s acts.FaultInvalidStateAndAbort h = search (abort_times)
seat_act_times m i t s acts.Leave h = advance_times m t.phase (begin (seat_in s.number states.None t)) h
seat_act_times m i t s acts.LeaveAndAbort h = abort_times m Alone (begin (seat_in s.number states.None t)) h
seat_act_times m i t s acts.Vote h = advance_times m t.phase (begin (seat_in s.number states.Prepared t)) h
seat_act_times m i t s other h = h

seat_notice_times : (m : Moment) (i : Option (List ℕ)) (t : Transaction) (s : Enlistment) (c : Option Cell) → InTime m.now t → Times m.now (seat_notice m i t s c)
unfolding seat_notice
seat_notice_times m i t s None h = h
seat_notice_times m i t s (Some c) h = seat_act_times m i t s c.act h

pub seat_times : (m : Moment) (a : Arrived) (t : Transaction) (s : Enlistment) (x : Message) → InTime m.now t → Times m.now (on_seat m a t s x)
unfolding on_seat
seat_times m a t s (messages.Notice n) h = seat_notice_times m a.id t s (coordinator_of s.kind s.state n) h
seat_times m a t s other h = h

commit_times : (m : Moment) (s : Superior) (t : Transaction) → InTime m.now t → Times m.now (commit_voted m s t)
unfolding commit_voted
commit_times m s t h = record { entry = tt; landed = sent_by m.now t.sent (list_any (in_state states.Prepared) t.seats) h; otherwise = tt }

link_act_times : (m : Moment) (from : Option Epr) (i : Option (List ℕ)) (kind : Kind) (s : Superior) (t : Transaction) (act : Act) → InTime m.now t → Times m.now (link_act m from i kind s t act)
unfolding link_act
link_act_times m from i kind s t acts.SendPrepared h = now_by m.now
link_act_times m from i kind s t acts.FaultInvalidStateAndAbort h = search (abort_times)
link_act_times m from i kind s t acts.Gather h = go_volatile_times m (begin (under (asked kind s) t)) h
link_act_times m from i kind s t acts.Commit h = commit_times m s t h
link_act_times m from i kind s t acts.AbortAndSendAborted h = abort_times m (Asked kind from) (begin t) h
link_act_times m from i kind s t acts.RecordAndSendAborted h = record { entry = tt; landed = abort_times m (Asked kind from) (begin t) h; otherwise = tt }
link_act_times m from i kind s t other h = h

link_notice_times : (m : Moment) (from : Option Epr) (i : Option (List ℕ)) (kind : Kind) (s : Superior) (t : Transaction) (c : Option Cell) → InTime m.now t
    → Times m.now (link_notice m from i kind s t c)
unfolding link_notice
link_notice_times m from i kind s t None h = h
link_notice_times m from i kind s t (Some c) h = link_act_times m from i kind s t c.act h

pub link_times : (m : Moment) (a : Arrived) (kind : Kind) (t : Transaction) (s : Superior) (x : Message) → InTime m.now t → Times m.now (on_link m a kind t s x)
unfolding on_link link_registered link_fault
link_times m a kind t s (messages.Notice n) h = link_notice_times m a.from a.id kind s t (participant_of kind (link_of kind s).state n) h
link_times m a kind t s (messages.RegisterResponse coordinator) h =
    either m.now (is_state (link_of kind s).state states.Registering && relates_to a.relates (register_id m.base (targets.Participant t.id kind))) _ _ (λ k. h) (λ k. h)
link_times m a kind t s (messages.Fault name) h =
    either m.now (is_state (link_of kind s).state states.Registering && relates_to a.relates (register_id m.base (targets.Participant t.id kind))) _ _ (λ k. abort_times m Alone (begin t) h) (λ k. h)
link_times m a kind t s other h = h

completion_act_times : (m : Moment) (from : Option Epr) (i : Option (List ℕ)) (c : Completion) (t : Transaction) (act : Act) → InTime m.now t → Times m.now (completion_act m from i c t act)
unfolding completion_act
completion_act_times m from i c t acts.Complete h = go_volatile_times m (begin (record t { completion = Some (record c { state = states.Completing }) })) h
completion_act_times m from i c t acts.AbortAndSendAborted h = abort_times m Alone (begin t) h
completion_act_times m from i c t other h = h

completion_notice_times : (m : Moment) (from : Option Epr) (i : Option (List ℕ)) (c : Completion) (t : Transaction) (cell : Option Cell) → InTime m.now t
    → Times m.now (completion_notice m from i c t cell)
unfolding completion_notice
completion_notice_times m from i c t None h = h
completion_notice_times m from i c t (Some cell) h = completion_act_times m from i c t cell.act h

pub completion_times : (m : Moment) (a : Arrived) (t : Transaction) (c : Completion) (x : Message) → InTime m.now t → Times m.now (on_completion m a t c x)
unfolding on_completion
completion_times m a t c (messages.Notice n) h = completion_notice_times m a.from a.id c t (completion_of c.state n) h
completion_times m a t c other h = h

pub due_times : (m : Moment) (t : Transaction) (reached : Reached) → InTime m.now t → Times m.now (transaction_reached m t reached)
unfolding transaction_reached
due_times m t Expired h = abort_times m Alone (begin t) h
due_times m t Over h = tt
due_times m t Unanswered h = now_by m.now
due_times m t Nothing h = h

pub with_answer_times : (m : Moment) (t : Transaction) (d : Decision Transaction) → Times m.now d → Times m.now (with_answer m t d)
with_answer_times m t d h = with_answer_has (IfThere (InTime m.now)) AnyRecord (λ s x e k. k) (λ r s x e k. tt) m t d h

-- what is made, and what is recovered
under_times : (m : Moment) (id : Numbers) (a : Arrived) (c : Create) (current : Context) (r : Reply) → IfThere (InTime m.now) (create_under m id a c current r).transaction
unfolding create_under
under_times m id a c current (replies.At reply) = now_by m.now
under_times m id a c current replies.Anonymous = tt
under_times m id a c current replies.Nobody = tt

in_times : (m : Moment) (id : Numbers) (a : Arrived) (c : Create) (current : Option Context) → IfThere (InTime m.now) (create_in m id a c current).transaction
unfolding create_in
in_times m id a c None = tt
in_times m id a c (Some current) = under_times m id a c current a.reply

pub created_times : (m : Moment) (live : ℕ) (a : Arrived) (c : Create) (id : Numbers) (t : Transaction) → (on_create m live a c (Some id)).transaction ≡ Some t → InTime m.now t
unfolding on_create
created_times m live a c id t e =
    subst (IfThere (InTime m.now)) e
    (either_of (λ x. IfThere (InTime m.now) x.transaction) (bytes_eq c.coordination atomic && nat_lt live MOST_ITEMS) (create_in m id a c c.current) (refuse_create a)
    (λ k. in_times m id a c c.current) (λ k. tt))

voted_times : (id : Numbers) (superior : Epr) (seats : List Seated) (committed : Bool) → InTime 0 (recovered_voted id superior seats committed)
voted_times id superior seats true = tt
voted_times id superior seats false = tt

pub records_times : (base : List ℕ) (rs : List Record) → AllByRecursion (InTime 0) (transactions_of base rs)
records_times base [] = tt
records_times base (records.Voted id superior seats ∷ rest) = (voted_times id superior seats (list_any (is_sub_committed id) rest), records_times base rest)
records_times base (records.Decided id seats ∷ rest) = (tt, records_times base rest)
records_times base (other ∷ rest) = records_times base rest
