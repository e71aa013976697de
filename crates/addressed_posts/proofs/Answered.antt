-- Answers where nothing moves, to a registration and to what is made: what is posted of them goes to some endpoint.
use Rattle.std.specs.Prelude.{ℕ, List, [], ◌∷◌, ◌++◌, Option, Some, None, Bool, not, nat_lt, ◌&&◌, if◌then◌else◌, bytes_eq, length, map, refl}
use Rattle.std.proofs.Common.{subst, sym, ◌≡◌}
use Rattle.at_base.specs.Numbers.{Numbers}
use Rattle.at_base.specs.declared.epr.Epr.{Epr}
use Rattle.at_base.specs.declared.epr.Reply.{Reply}
use Rattle.at_base.specs.declared.epr.Reply.TheVariants as replies
use Rattle.at_base.specs.declared.event.Arrived.{Arrived}
use Rattle.at_base.specs.declared.event.Moment.{Moment}
use Rattle.at_base.specs.declared.fault.Fault.TheVariants.{CannotCreateContext, CannotRegisterParticipant, InvalidParameters, InvalidProtocol, InvalidState, UnknownTransaction}
use Rattle.at_base.specs.declared.limits.TheConstants.{MOST_ITEMS}
use Rattle.at_base.specs.declared.message.Context.{Context}
use Rattle.at_base.specs.declared.message.Create.{Create}
use Rattle.at_base.specs.declared.message.Message.TheVariants as messages
use Rattle.at_base.specs.declared.message.Register.{Register}
use Rattle.at_base.specs.declared.message.Work.{Work}
use Rattle.at_base.specs.declared.notice.Kind.{Kind}
use Rattle.at_base.specs.declared.notice.Notice.TheVariants as notices
use Rattle.at_base.specs.declared.outs.Out.{Out}
use Rattle.at_base.specs.declared.outs.Out.TheVariants as outs
use Rattle.at_base.specs.declared.outs.Post.{Post}
use Rattle.at_base.specs.declared.target.Target.{Target}
use Rattle.at_tables.specs.declared.cells.Act.{Act}
use Rattle.at_tables.specs.declared.cells.Act.TheVariants as acts
use Rattle.at_tables.specs.declared.cells.Cell.{Cell}
use Rattle.at_tables.specs.declared.cells.State.TheVariants as states
use Rattle.at_tables.specs.Tables.{completion_of}
use Rattle.endpoints.specs.Addresses.{atomic}
use Rattle.at_model.specs.Arrivals.{context_of}
use Rattle.at_model.specs.Book.{Book, Enlistment, Transaction, next_id}
use Rattle.at_model.specs.Create.{create_in, create_under, new_root, on_create, refuse_create}
use Rattle.at_model.specs.Leaves.{on_work, refuse_work, work_for}
use Rattle.at_model.specs.Posts.{accepted, fault_post, notice_post, stranger_post}
use Rattle.at_model.specs.Register.{accept, completion_endpoint, held_seat, is_late, late_prepare, may_register, new_seat, on_register, protocol_named, refuse_register, register_again, register_new, register_unknown, registered_reply, seat_endpoint}
use Rattle.at_model.specs.Seats.{seat_target}
use Rattle.at_model.specs.Step.{moment_of, outcome_act, outcome_cell, stranger_act, stranger_cell}
use Rattle.model_laws.specs.Shapes.{Answers, committed, ignored, not_created, not_employed, not_registered, unknown, unknown_cell}
use Rattle.model_laws.proofs.DecisionLaws.{all_if, all_join, all_map, either_of}
use Rattle.addressed_posts.specs.AddressedPosts.{IsAddressed}
use Rattle.addressed_posts.proofs.Directed.{AreAddressed, AreDirected, faulted_addressed, replied_addressed, to_one}

-- an answer and posts behind it
pub outs_addressed : (answer : List Out) (ps : List Post) → AreAddressed answer → AreDirected ps → AreAddressed (answer ++ map outs.Post ps)
outs_addressed answer ps h k = all_join IsAddressed answer (map outs.Post ps) h (all_map IsAddressed outs.Post ps k)

-- where nothing is known
stranger_act_directed : (base : List ℕ) (own : Target) (from : Option Epr) (id : Option (List ℕ)) (act : Act) → AreDirected (stranger_act base own from id act)
stranger_act_directed base own from id acts.SendRollback = to_one from (λ to. stranger_post base own to notices.Rollback) (λ to. (to, refl))
stranger_act_directed base own from id acts.SendCommitted = to_one from (λ to. stranger_post base own to notices.Committed) (λ to. (to, refl))
stranger_act_directed base own from id acts.SendAborted = to_one from (λ to. stranger_post base own to notices.Aborted) (λ to. (to, refl))
stranger_act_directed base own from id acts.FaultUnknownTransaction = to_one from (λ to. fault_post (Some to) id UnknownTransaction) (λ to. (to, refl))
stranger_act_directed base own from id other = tt

stranger_directed : (base : List ℕ) (own : Target) (from : Option Epr) (id : Option (List ℕ)) (c : Option Cell) → AreDirected (stranger_cell base own from id c)
stranger_directed base own from id None = tt
stranger_directed base own from id (Some c) = stranger_act_directed base own from id c.act

outcome_act_directed : (base : List ℕ) (own : Target) (from : Option Epr) (id : Option (List ℕ)) (act : Act) → AreDirected (outcome_act base own from id act)
outcome_act_directed base own from id acts.SendCommitted = to_one from (λ to. notice_post base own to notices.Committed) (λ to. (to, refl))
outcome_act_directed base own from id acts.FaultInvalidState = to_one from (λ to. fault_post (Some to) id InvalidState) (λ to. (to, refl))
outcome_act_directed base own from id other = tt

outcome_directed : (base : List ℕ) (own : Target) (from : Option Epr) (id : Option (List ℕ)) (c : Option Cell) → AreDirected (outcome_cell base own from id c)
outcome_directed base own from id None = tt
outcome_directed base own from id (Some c) = outcome_act_directed base own from id c.act

-- what registers
late_addressed : (m : Moment) (id : Numbers) (late : Bool) (s : Enlistment) → AreAddressed (late_prepare m id late s)
late_addressed m id late s =
    all_if IsAddressed late (outs.Post (notice_post m.base (seat_target id s) s.participant notices.Prepare) ∷ []) [] ((s.participant, refl), tt) tt

accept_addressed : (m : Moment) (a : Arrived) (t : Transaction) (participant : Epr) (kind : Option Kind) → AreAddressed (accept m a t participant kind).outs
unfolding accept
accept_addressed m a t participant (Some kind) =
    let s : Enlistment = new_seat t participant kind in
    all_join IsAddressed (registered_reply a (seat_endpoint m.base t.id s)) (late_prepare m t.id (is_late t.phase s.kind) s)
    (replied_addressed a.reply a.id (messages.RegisterResponse (seat_endpoint m.base t.id s))) (late_addressed m t.id (is_late t.phase s.kind) s)
accept_addressed m a t participant None = replied_addressed a.reply a.id (messages.RegisterResponse (completion_endpoint m.base t.id))

register_new_addressed : (m : Moment) (a : Arrived) (r : Register) (t : Transaction) (kind : Option (Option Kind)) → AreAddressed (register_new m a r t kind).outs
unfolding register_new
register_new_addressed m a r t None = faulted_addressed a.fault a.id InvalidProtocol
register_new_addressed m a r t (Some kind) =
    either_of (λ x. AreAddressed x.outs) (not a.postable) (refuse_register a t InvalidParameters) _ (λ e. faulted_addressed a.fault a.id InvalidParameters)
    (λ e. either_of (λ x. AreAddressed x.outs) (may_register t kind) (accept m a t r.participant kind) (refuse_register a t CannotRegisterParticipant)
    (λ f. accept_addressed m a t r.participant kind) (λ f. faulted_addressed a.fault a.id CannotRegisterParticipant))

register_again_addressed : (m : Moment) (a : Arrived) (r : Register) (t : Transaction) (kind : Option (Option Kind)) (held : Option Epr)
    → AreAddressed (register_again m a r t kind held).outs
unfolding register_again
register_again_addressed m a r t kind (Some coordinator) = replied_addressed a.reply a.id (messages.RegisterResponse coordinator)
register_again_addressed m a r t kind None = register_new_addressed m a r t kind

pub register_addressed : (m : Moment) (a : Arrived) (r : Register) (t : Transaction) → AreAddressed (on_register m a r t).outs
unfolding on_register
register_addressed m a r t = register_again_addressed m a r t (protocol_named r.protocol) (held_seat m r t (protocol_named r.protocol))

register_unknown_addressed : (a : Arrived) (r : Register) (kind : Option (Option Kind)) → AreAddressed (register_unknown a r kind)
unfolding register_unknown
register_unknown_addressed a r None = faulted_addressed a.fault a.id InvalidProtocol
register_unknown_addressed a r (Some kind) = faulted_addressed a.fault a.id (if a.postable then CannotRegisterParticipant else InvalidParameters)

-- what is made
create_under_addressed : (m : Moment) (id : Numbers) (a : Arrived) (c : Create) (current : Context) (r : Reply) → AreAddressed (create_under m id a c current r).outs
unfolding create_under
create_under_addressed m id a c current (replies.At reply) = (tt, ((current.registration, refl), ((current.registration, refl), tt)))
create_under_addressed m id a c current other = faulted_addressed a.fault a.id CannotCreateContext

create_in_addressed : (m : Moment) (id : Numbers) (a : Arrived) (c : Create) (current : Option Context) → AreAddressed (create_in m id a c current).outs
unfolding create_in
create_in_addressed m id a c None = replied_addressed a.reply a.id (messages.CreateResponse (context_of m.base (new_root m id c) c.expires))
create_in_addressed m id a c (Some current) = create_under_addressed m id a c current a.reply

pub create_addressed : (m : Moment) (live : ℕ) (a : Arrived) (c : Create) (next : Option Numbers) → AreAddressed (on_create m live a c next).outs
unfolding on_create
create_addressed m live a c None = faulted_addressed a.fault a.id CannotCreateContext
create_addressed m live a c (Some id) =
    either_of (λ x. AreAddressed x.outs) (bytes_eq c.coordination atomic && nat_lt live MOST_ITEMS) (create_in m id a c c.current) (refuse_create a)
    (λ e. create_in_addressed m id a c c.current) (λ e. faulted_addressed a.fault a.id CannotCreateContext)

work_for_addressed : (m : Moment) (id : Numbers) (a : Arrived) (w : Work) (r : Reply) → AreAddressed (work_for m id a w r).outs
work_for_addressed m id a w (replies.At reply) = (tt, ((w.context.registration, refl), tt))
work_for_addressed m id a w other = replied_addressed a.reply a.id messages.WorkRefused

pub work_addressed : (m : Moment) (live : ℕ) (a : Arrived) (w : Work) (next : Option Numbers) → AreAddressed (on_work m live a w next).outs
unfolding on_work
work_addressed m live a w None = replied_addressed a.reply a.id messages.WorkRefused
work_addressed m live a w (Some id) =
    either_of (λ x. AreAddressed x.outs) (nat_lt live MOST_ITEMS) (work_for m id a w a.reply) (refuse_work a) (λ e. work_for_addressed m id a w a.reply)
    (λ e. replied_addressed a.reply a.id messages.WorkRefused)

-- where nothing moves
pub as_these : (os ps : List Out) → os ≡ ps → AreAddressed ps → AreAddressed os
as_these os ps e h = subst AreAddressed (sym e) h

pub answers_addressed : (b : Book) (now : ℕ) (a : Arrived) (os : List Out) → Answers b now a os → AreAddressed os
answers_addressed b now a os (ignored e) = as_these os accepted e (tt, tt)
answers_addressed b now a os (unknown n says at e) =
    as_these os _ e (outs_addressed accepted _ (tt, tt) (stranger_directed b.base a.target a.from a.id (unknown_cell a.target n)))
answers_addressed b now a os (committed n id says at done e) =
    as_these os _ e (outs_addressed accepted _ (tt, tt) (outcome_directed b.base a.target a.from a.id (completion_of states.Done n)))
answers_addressed b now a os (not_created c at says made e) = as_these os _ e (create_addressed (moment_of b now) (length b.transactions) a c (next_id b))
answers_addressed b now a os (not_registered id r at says none e) = as_these os _ e (register_unknown_addressed a r (protocol_named r.protocol))
answers_addressed b now a os (not_employed w at says made e) = as_these os _ e (work_addressed (moment_of b now) (length b.leaves) a w (next_id b))
