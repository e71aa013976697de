-- A completion seat in Done is that of a transaction that commits: what the rules of a transaction leave of it.
use Rattle.at_base.specs.declared.limits.TheConstants.{MOST_ITEMS}
use Rattle.at_base.specs.Numbers.{Numbers}
use Rattle.at_base.specs.declared.epr.Epr.{Epr}
use Rattle.at_base.specs.declared.epr.Reply.{Reply}
use Rattle.at_base.specs.declared.event.Arrived.{Arrived}
use Rattle.at_base.specs.declared.event.Event.{Event}
use Rattle.at_base.specs.declared.event.Moment.{Moment}
use Rattle.at_base.specs.declared.message.Context.{Context}
use Rattle.at_base.specs.declared.message.Create.{Create}
use Rattle.at_base.specs.declared.message.Message.{Message}
use Rattle.at_base.specs.declared.message.Register.{Register}
use Rattle.at_base.specs.declared.notice.Kind.{Kind}
use Rattle.at_base.specs.declared.record.Record.{Record}
use Rattle.at_model.specs.Abort.{Alone, Asked, Reason, abort, until_rolled_back}
use Rattle.endpoints.specs.Addresses.{atomic, register_id}
use Rattle.at_model.specs.Arrivals.{asked, commit_voted, completion_act, completion_notice, link_act, link_fault, link_notice, link_registered, on_completion, on_link, on_seat, relates_to, seat_act, seat_notice, with_answer}
use Rattle.at_model.specs.Book.{Book, Completion, Enlistment, Phase, Superior, Transaction}
use Rattle.at_model.specs.Create.{create_in, create_under, on_create, refuse_create}
use Rattle.at_model.specs.Due.{Expired, Nothing, Over, Reached, Unanswered, transaction_reached}
use Rattle.at_model.specs.Moves.{Decision, Moving, become, begin, forgotten, stays}
use Rattle.at_model.specs.Phases.{advance_in, all_committed, committed, decided, durable_answered, go_durable, go_volatile, if_durable_answered, prepare_seats, root_answered, sub_answered, volatile_answered, voted}
use Rattle.at_model.specs.Recovery.{live}
use Rattle.at_model.specs.Register.{Registration, accept, held_seat, may_register, on_register, protocol_named, register_again, register_new}
use Rattle.at_model.specs.Seats.{all_left, answered, completion_in, in_phase, in_state, is_prepared_durable, link_of, seat_in, under}
use Rattle.at_model.specs.Step.{moment_of}
use Rattle.at_tables.specs.Names.{is_state}
use Rattle.at_tables.specs.Tables.{completion_of, coordinator_of, participant_of}
use Rattle.at_tables.specs.declared.cells.Act.{Act}
use Rattle.at_tables.specs.declared.cells.Cell.{Cell}
use Rattle.at_tables.specs.declared.cells.State.{State}
use Rattle.model_laws.proofs.DecisionLaws.{DecisionHas, IfThere, either_change, either_has, either_of, with_answer_has}
use Rattle.model_laws.proofs.LinkDecisions.{Linked, known}
use Rattle.model_laws.specs.Shapes.{MovesTransaction, at_completion, at_link, at_seat, when_due}
use Rattle.std.proofs.Common.{ap, inl, inr, subst, sym, ◌∙◌}
use Rattle.std.specs.List.{list_any}
use Rattle.std.specs.Prelude.{Bool, List, None, Option, Some, bytes_eq, false, if◌then◌else◌, nat_lt, not, refl, true, ℕ, ◌&&◌, ◌≡◌, ◌⊎◌}
use Rattle.at_base.specs.declared.epr.Reply.TheVariants as replies
use Rattle.at_base.specs.declared.message.Message.TheVariants as messages
use Rattle.at_base.specs.declared.notice.Kind.TheVariants as kinds
use Rattle.at_base.specs.declared.target.Target.TheVariants as targets
use Rattle.at_tables.specs.declared.cells.Act.TheVariants as acts
use Rattle.at_tables.specs.declared.cells.State.TheVariants as states

-- its initiator has heard of no commit
abbrev pub NotDone : Option Completion → Type 0
NotDone completion = (c : Completion) → completion ≡ Some c → c.state ≡ states.Done → ⊥

abbrev pub Fits : Transaction → Type 0
Fits t = (t.phase ≡ Phase.Committing) ⊎ NotDone t.completion

abbrev pub Anything : Record → Option Transaction → Type 0
Anything r left = Unit {0}

abbrev pub Sits : Decision Transaction → Type 0
Sits d = DecisionHas (IfThere Fits) Anything d

either : (b : Bool) (d e : Decision Transaction) → (b ≡ true → Sits d) → (b ≡ false → Sits e) → Sits (if b then d else e)
either b d e h k = either_has (IfThere Fits) Anything b d e h k

-- the initiator's seat in another state
in_state_of : (state : State) (completion : Option Completion) (c : Completion) → completion_in state completion ≡ Some c → c.state ≡ state
in_state_of state None c e = absurd cc
in_state_of state (Some x) c e =
    let y : Completion = record { initiator = x.initiator; state = state } in
    let same : y ≡ c = cc in
    sym (ap (λ (z : Completion). z.state) same)

left_none : (completion : Option Completion) → NotDone (completion_in states.None completion)
left_none completion c e d = let f : states.None ≡ states.Done = sym (in_state_of states.None completion c e) ∙ d in cc

one_state : (x : Completion) → (x.state ≡ states.Done → ⊥) → NotDone (Some x)
one_state x h c e d = let same : x ≡ c = cc in h (ap (λ (z : Completion). z.state) same ∙ d)

pub none_done : (completion : Option Completion) → completion ≡ None → NotDone completion
none_done completion e c f d = let g : None ≡ Some c = sym e ∙ f in cc

-- one that doesn't commit
not_committing : (phase : Phase) (t : Transaction) → t.phase ≡ phase → (phase ≡ Phase.Committing → ⊥) → Fits t → NotDone t.completion
not_committing phase t e never (inl f) = absurd (never (sym e ∙ f))
not_committing phase t e never (inr h) = h

-- the rules
rolled_back : (g : Moving Transaction) → Fits g.item → IfThere Fits (until_rolled_back g).item
rolled_back g h = either_change (IfThere Fits) (list_any (in_state states.Aborting) g.item.seats) (stays g) (forgotten g) h tt

aborted_fits : (t x : Transaction) → x.completion ≡ completion_in states.None t.completion → Fits x
aborted_fits t x f = inr (subst NotDone (sym f) (left_none t.completion))

abort_sits : (m : Moment) (reason : Reason) (g : Moving Transaction) → IfThere Fits (abort m reason g).item
unfolding abort
abort_sits m reason g = search (rolled_back, aborted_fits g.item)

committed_sits : (m : Moment) (g : Moving Transaction) → IfThere Fits (committed m g).item
unfolding committed decided
committed_sits m g = either_change (IfThere Fits) (list_any is_prepared_durable g.item.seats) (stays (decided m g)) (forgotten (decided m g)) (inl refl) tt

root_sits : (m : Moment) (g : Moving Transaction) → Sits (root_answered m g)
unfolding root_answered
root_sits m g = record { entry = tt; landed = committed_sits m g; otherwise = abort_sits m Alone g }

voted_sits : (m : Moment) (s : Superior) (g : Moving Transaction) → NotDone g.item.completion → Fits (voted m s g).item
unfolding voted
voted_sits m s g h = inr h

sub_sits : (m : Moment) (s : Superior) (superior : Option Epr) (g : Moving Transaction) → NotDone g.item.completion → Sits (sub_answered m s superior g)
unfolding sub_answered
sub_sits m s None g h = abort_sits m Alone g
sub_sits m s (Some superior) g h =
    either (list_any is_prepared_durable g.item.seats) _ _ (λ e. record { entry = tt; landed = voted_sits m s g h; otherwise = abort_sits m Alone g }) (λ e. tt)

durable_sits : (m : Moment) (s : Option Superior) (g : Moving Transaction) → NotDone g.item.completion → Sits (durable_answered m s g)
durable_sits m None g h = root_sits m g
durable_sits m (Some s) g h = sub_sits m s s.durable.coordinator g h

if_durable_sits : (m : Moment) (g : Moving Transaction) → NotDone g.item.completion → Sits (if_durable_answered m g)
if_durable_sits m g h = either (answered kinds.Durable g.item.seats) _ _ (λ e. durable_sits m g.item.superior g h) (λ e. inr h)

go_durable_sits : (m : Moment) (g : Moving Transaction) → NotDone g.item.completion → Sits (go_durable m g)
unfolding go_durable
go_durable_sits m g h = if_durable_sits m (prepare_seats m kinds.Durable (become (in_phase Phase.Durable g.item) g)) h

volatile_sits : (m : Moment) (s : Option Superior) (g : Moving Transaction) → NotDone g.item.completion → Sits (volatile_answered m s g)
unfolding volatile_answered
volatile_sits m None g h = go_durable_sits m g h
volatile_sits m (Some s) g h =
    either (is_state s.volatile.state states.Preparing) _ _ (λ e. inr h)
    (λ e. either (is_state s.durable.state states.Preparing) _ _ (λ f. go_durable_sits m g h) (λ f. inr h))

all_committed_sits : (m : Moment) (g : Moving Transaction) → Sits (all_committed m g)
unfolding all_committed
all_committed_sits m g = record { entry = tt; landed = tt; otherwise = tt }

advance_in_sits : (m : Moment) (phase : Phase) (g : Moving Transaction) → g.item.phase ≡ phase → Fits g.item → Sits (advance_in m phase g)
unfolding advance_in
advance_in_sits m Phase.Registering g e h = h
advance_in_sits m Phase.Active g e h = h
advance_in_sits m Phase.Volatile g e h =
    either (answered kinds.Volatile g.item.seats) _ _ (λ k. volatile_sits m g.item.superior g (not_committing Phase.Volatile g.item e (λ f. cc) h)) (λ k. h)
advance_in_sits m Phase.Durable g e h = if_durable_sits m g (not_committing Phase.Durable g.item e (λ f. cc) h)
advance_in_sits m Phase.Voted g e h = h
advance_in_sits m Phase.Committing g e h = either (all_left g.item.seats) _ _ (λ k. all_committed_sits m g) (λ k. h)
advance_in_sits m Phase.Aborting g e h = rolled_back g h

go_volatile_sits : (m : Moment) (g : Moving Transaction) → NotDone g.item.completion → Sits (go_volatile m g)
unfolding go_volatile
go_volatile_sits m g h = advance_in_sits m Phase.Volatile (prepare_seats m kinds.Volatile (become (in_phase Phase.Volatile g.item) g)) refl (inr h)

-- at a seat
seat_act_sits : (m : Moment) (i : Option (List ℕ)) (t : Transaction) (s : Enlistment) (act : Act) → Fits t → Sits (seat_act m i t s act)
unfolding seat_act
seat_act_sits m i t s acts.SendRollback h = either (in_state states.None s) _ _ (λ e. h) (λ e. h)
seat_act_sits m i t s acts.FaultInvalidStateAndAbort h = abort_sits m Alone _
seat_act_sits m i t s acts.Leave h = advance_in_sits m t.phase (begin (seat_in s.number states.None t)) refl h
seat_act_sits m i t s acts.LeaveAndAbort h = abort_sits m Alone (begin (seat_in s.number states.None t))
seat_act_sits m i t s acts.Vote h = advance_in_sits m t.phase (begin (seat_in s.number states.Prepared t)) refl h
seat_act_sits m i t s other h = h

seat_notice_sits : (m : Moment) (i : Option (List ℕ)) (t : Transaction) (s : Enlistment) (c : Option Cell) → Fits t → Sits (seat_notice m i t s c)
unfolding seat_notice
seat_notice_sits m i t s None h = h
seat_notice_sits m i t s (Some c) h = seat_act_sits m i t s c.act h

seat_sits : (m : Moment) (a : Arrived) (t : Transaction) (s : Enlistment) (x : Message) → Fits t → Sits (on_seat m a t s x)
unfolding on_seat
seat_sits m a t s (messages.Notice n) h = seat_notice_sits m a.id t s (coordinator_of s.kind s.state n) h
seat_sits m a t s other h = h

-- on a link, where there is no initiator
commit_sits : (m : Moment) (s : Superior) (t : Transaction) → Sits (commit_voted m s t)
unfolding commit_voted
commit_sits m s t = record { entry = tt; landed = inl refl; otherwise = tt }

link_act_sits : (m : Moment) (from : Option Epr) (i : Option (List ℕ)) (kind : Kind) (s : Superior) (t : Transaction) (act : Act) → NotDone t.completion → Sits (link_act m from i kind s t act)
unfolding link_act
link_act_sits m from i kind s t acts.FaultInvalidStateAndAbort h = abort_sits m _ _
link_act_sits m from i kind s t acts.Gather h = go_volatile_sits m (begin (under (asked kind s) t)) h
link_act_sits m from i kind s t acts.Commit h = commit_sits m s t
link_act_sits m from i kind s t acts.AbortAndSendAborted h = abort_sits m (Asked kind from) (begin t)
link_act_sits m from i kind s t acts.RecordAndSendAborted h = record { entry = tt; landed = abort_sits m (Asked kind from) (begin t); otherwise = tt }
link_act_sits m from i kind s t other h = inr h

link_notice_sits : (m : Moment) (from : Option Epr) (i : Option (List ℕ)) (kind : Kind) (s : Superior) (t : Transaction) (c : Option Cell) → NotDone t.completion → Sits (link_notice m from i kind s t c)
unfolding link_notice
link_notice_sits m from i kind s t None h = inr h
link_notice_sits m from i kind s t (Some c) h = link_act_sits m from i kind s t c.act h

link_registered_sits : (m : Moment) (relates : Option (List ℕ)) (coordinator : Epr) (kind : Kind) (s : Superior) (t : Transaction) → NotDone t.completion → Sits (link_registered m relates coordinator kind s t)
unfolding link_registered
link_registered_sits m relates coordinator kind s t h =
    either (is_state (link_of kind s).state states.Registering && relates_to relates (register_id m.base (targets.Participant t.id kind))) _ _ (λ k. inr h) (λ k. inr h)

link_fault_sits : (m : Moment) (relates : Option (List ℕ)) (kind : Kind) (s : Superior) (t : Transaction) → NotDone t.completion → Sits (link_fault m relates kind s t)
unfolding link_fault
link_fault_sits m relates kind s t h =
    either (is_state (link_of kind s).state states.Registering && relates_to relates (register_id m.base (targets.Participant t.id kind))) _ _ (λ k. abort_sits m Alone (begin t)) (λ k. inr h)

link_sits : (m : Moment) (a : Arrived) (kind : Kind) (t : Transaction) (s : Superior) (x : Message) → NotDone t.completion → Sits (on_link m a kind t s x)
unfolding on_link
link_sits m a kind t s (messages.Notice n) h = link_notice_sits m a.from a.id kind s t (participant_of kind (link_of kind s).state n) h
link_sits m a kind t s (messages.RegisterResponse coordinator) h = link_registered_sits m a.relates coordinator kind s t h
link_sits m a kind t s (messages.Fault name) h = link_fault_sits m a.relates kind s t h
link_sits m a kind t s other h = inr h

-- at the completion seat
completing_not_done : (c : Completion) → NotDone (Some (record c { state = states.Completing }))
completing_not_done c = one_state (record c { state = states.Completing }) (λ e. cc)

completion_act_sits : (m : Moment) (from : Option Epr) (i : Option (List ℕ)) (c : Completion) (t : Transaction) (act : Act) → Fits t → Sits (completion_act m from i c t act)
unfolding completion_act
completion_act_sits m from i c t acts.Complete h = go_volatile_sits m (begin (record t { completion = Some (record c { state = states.Completing }) })) (completing_not_done c)
completion_act_sits m from i c t acts.AbortAndSendAborted h = abort_sits m Alone (begin t)
completion_act_sits m from i c t other h = h

completion_notice_sits : (m : Moment) (from : Option Epr) (i : Option (List ℕ)) (c : Completion) (t : Transaction) (cell : Option Cell) → Fits t → Sits (completion_notice m from i c t cell)
unfolding completion_notice
completion_notice_sits m from i c t None h = h
completion_notice_sits m from i c t (Some cell) h = completion_act_sits m from i c t cell.act h

completion_sits : (m : Moment) (a : Arrived) (t : Transaction) (c : Completion) (x : Message) → Fits t → Sits (on_completion m a t c x)
unfolding on_completion
completion_sits m a t c (messages.Notice n) h = completion_notice_sits m a.from a.id c t (completion_of c.state n) h
completion_sits m a t c other h = h

due_sits : (m : Moment) (t : Transaction) (reached : Reached) → Fits t → Sits (transaction_reached m t reached)
unfolding transaction_reached
due_sits m t Expired h = abort_sits m Alone (begin t)
due_sits m t Over h = tt
due_sits m t Unanswered h = h
due_sits m t Nothing h = h

with_answer_sits : (m : Moment) (t : Transaction) (d : Decision Transaction) → Sits d → Sits (with_answer m t d)
with_answer_sits m t d h = with_answer_has (IfThere Fits) Anything (λ s x e k. k) (λ r s x e k. k) m t d h

no_initiator : (t : Transaction) (s : Superior) → t.superior ≡ Some s → Linked t → NotDone t.completion
no_initiator t s e h = none_done t.completion (known t s e h).1

pub moved_sits : (b : Book) (e : Event) (now : ℕ) (t : Transaction) (d : Decision Transaction) → Linked t → Fits t → MovesTransaction b e now t d → Sits (with_answer (moment_of b now) t d)
moved_sits b e now t d l h (at_seat a s came why is) = with_answer_sits (moment_of b now) t d (subst Sits (sym is) (seat_sits (moment_of b now) a t s a.message h))
moved_sits b e now t d l h (at_link a kind s came why under_it is) =
    with_answer_sits (moment_of b now) t d (subst Sits (sym is) (link_sits (moment_of b now) a kind t s a.message (no_initiator t s under_it l)))
moved_sits b e now t d l h (at_completion a c came why there is) = with_answer_sits (moment_of b now) t d (subst Sits (sym is) (completion_sits (moment_of b now) a t c a.message h))
moved_sits b e now t d l h (when_due came is) = with_answer_sits (moment_of b now) t d (subst Sits (sym is) (due_sits (moment_of b now) t _ h))

-- a registration, and what is made
accept_sits : (m : Moment) (a : Arrived) (t : Transaction) (participant : Epr) (kind : Option Kind) → Fits t → Fits (accept m a t participant kind).transaction
unfolding accept
accept_sits m a t participant (Some kind) h = h
accept_sits m a t participant None h = inr (one_state (record { initiator = participant; state = states.Active }) (λ e. cc))

register_new_sits : (m : Moment) (a : Arrived) (r : Register) (t : Transaction) (kind : Option (Option Kind)) → Fits t → Fits (register_new m a r t kind).transaction
unfolding register_new
register_new_sits m a r t None h = h
register_new_sits m a r t (Some kind) h =
    either_of (λ (x : Registration). Fits x.transaction) (not a.postable) _ _ (λ e. h)
    (λ e. either_of (λ (x : Registration). Fits x.transaction) (may_register t kind) _ _ (λ f. accept_sits m a t r.participant kind h) (λ f. h))

register_again_sits : (m : Moment) (a : Arrived) (r : Register) (t : Transaction) (kind : Option (Option Kind)) (held : Option Epr) → Fits t → Fits (register_again m a r t kind held).transaction
unfolding register_again
register_again_sits m a r t kind (Some coordinator) h = h
register_again_sits m a r t kind None h = register_new_sits m a r t kind h

pub register_sits : (m : Moment) (a : Arrived) (r : Register) (t : Transaction) → Fits t → Fits (on_register m a r t).transaction
unfolding on_register
register_sits m a r t h = register_again_sits m a r t (protocol_named r.protocol) (held_seat m r t (protocol_named r.protocol)) h

under_sits : (m : Moment) (id : Numbers) (a : Arrived) (c : Create) (current : Context) (r : Reply) → IfThere Fits (create_under m id a c current r).transaction
unfolding create_under
under_sits m id a c current (replies.At reply) = inr (none_done None refl)
under_sits m id a c current replies.Anonymous = tt
under_sits m id a c current replies.Nobody = tt

in_sits : (m : Moment) (id : Numbers) (a : Arrived) (c : Create) (current : Option Context) → IfThere Fits (create_in m id a c current).transaction
unfolding create_in
in_sits m id a c None = inr (none_done None refl)
in_sits m id a c (Some current) = under_sits m id a c current a.reply

pub created_sits : (m : Moment) (live : ℕ) (a : Arrived) (c : Create) (id : Numbers) (t : Transaction) → (on_create m live a c (Some id)).transaction ≡ Some t → Fits t
unfolding on_create
created_sits m live a c id t e =
    subst (IfThere Fits) e
    (either_of (λ x. IfThere Fits x.transaction) (bytes_eq c.coordination atomic && nat_lt live MOST_ITEMS) (create_in m id a c c.current) (refuse_create a)
    (λ k. in_sits m id a c c.current) (λ k. tt))
