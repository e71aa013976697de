-- What a finished transaction becomes is finished, where it follows its links; and what it records names seats that rise.
use Rattle.std.specs.Prelude.{ℕ, List, [], ◌∷◌, ◌++◌, Option, Some, None, Bool, true, false, ◌≡◌, refl, if◌then◌else◌, not, ◌&&◌, ◌||◌, bytes_eq, nat_eq, nat_lt, ◌+◌, length, map, filter, ◌≤◌, ◌<◌, ◌⊎◌}
use Rattle.std.specs.List.{list_any}
use Rattle.std.proofs.Common.{sym, subst, ap, inl, inr, arith, ◌∙◌}
use Rattle.at_base.specs.declared.limits.TheConstants.{MOST_ITEMS}
use Rattle.at_base.specs.Numbers.{Numbers}
use Rattle.at_base.specs.WellFormed.{Rises}
use Rattle.at_base.specs.declared.epr.Epr.{Epr}
use Rattle.at_base.specs.declared.epr.Reply.{Reply}
use Rattle.at_base.specs.declared.epr.Reply.TheVariants as replies
use Rattle.at_base.specs.declared.notice.Kind.{Kind}
use Rattle.at_base.specs.declared.notice.Kind.TheVariants as kinds
use Rattle.at_base.specs.declared.notice.Notice.{Notice}
use Rattle.at_base.specs.declared.notice.Notice.TheVariants as notices
use Rattle.at_base.specs.declared.target.Target.TheVariants as targets
use Rattle.at_base.specs.declared.message.Message.{Message}
use Rattle.at_base.specs.declared.message.Message.TheVariants as messages
use Rattle.at_base.specs.declared.message.Context.{Context}
use Rattle.at_base.specs.declared.message.Create.{Create}
use Rattle.at_base.specs.declared.message.Register.{Register}
use Rattle.at_base.specs.declared.record.Record.{Record}
use Rattle.at_base.specs.declared.event.Arrived.{Arrived}
use Rattle.at_base.specs.declared.event.Moment.{Moment}
use Rattle.at_tables.specs.declared.cells.State.{State}
use Rattle.at_tables.specs.declared.cells.State.TheVariants as states
use Rattle.at_tables.specs.declared.cells.Act.{Act}
use Rattle.at_tables.specs.declared.cells.Act.TheVariants as acts
use Rattle.at_tables.specs.declared.cells.Cell.{Cell}
use Rattle.at_tables.specs.Names.{is_state}
use Rattle.at_base.specs.Names.{is_kind}
use Rattle.at_tables.specs.Tables.{coordinator_of, participant_of, completion_of}
use Rattle.at_model.specs.Book.{Completion, Enlistment, Phase, Superior, Transaction}
use Rattle.endpoints.specs.Addresses.{atomic, register_id}
use Rattle.at_model.specs.Moves.{Moving, Decision, begin, become, stays, forgotten}
use Rattle.at_model.specs.Seats.{answered, all_left, completion_in, in_phase, in_state, is_of, is_open, is_prepared_durable, link_in, link_of, move_if, moved, prepared, seat_in, seated, set_link, under}
use Rattle.at_model.specs.Abort.{Reason, Alone, Asked, until_rolled_back, abort}
use Rattle.at_model.specs.Phases.{decided, committed, root_answered, voted, sub_answered, durable_answered, if_durable_answered, prepare_seats, go_durable, volatile_answered, all_committed, advance_in, advance, go_volatile}
use Rattle.at_model.specs.Arrivals.{seat_act, seat_notice, commit_voted, asked, link_act, link_notice, completion_act, completion_notice, relates_to, registered, link_registered, link_fault, on_link, on_seat, on_completion, with_answer}
use Rattle.at_model.specs.Register.{Registration, accepts, new_seat, may_register, accept, register_new, register_again, on_register, protocol_named, held_seat}
use Rattle.at_model.specs.Create.{create_under, create_in, on_create, refuse_create}
use Rattle.at_model.specs.Due.{Reached, Expired, Over, Unanswered, Nothing, may_expire, transaction_reached}
use Rattle.model_laws.specs.Links.{AreIn, AreLinked}
use Rattle.model_laws.specs.BookBounds.{AreNumbered, SeatsRise}
use Rattle.model_laws.proofs.ParticipantTable.{ActsAt, CellAt, table_acts}
use Rattle.model_laws.proofs.DecisionLaws.{either_of, DecisionHas, IfThere, either_has, either_change, with_answer_has}
use Rattle.model_laws.proofs.LinkDecisions.{Linked, known}
use Rattle.model_laws.proofs.PhaseDecisions.{is_unanswered, none_either, neither, answered_moved}
use Rattle.model_laws.proofs.PhaseAnswers.{then_accepts}
use Rattle.agreement.specs.FinishedTransactions.{IsFinished, NamesRising}

-- a finished transaction, said of its phase, its initiator and its seats alone
abbrev pub AsksNobody : Phase → List Enlistment → Type 0
AsksNobody phase seats = phase ≡ Phase.Aborting → (answered kinds.Volatile seats ≡ true) × (answered kinds.Durable seats ≡ true)

abbrev pub MayComplete : Phase → Option Completion → Type 0
MayComplete phase completion = (c : Completion) → completion ≡ Some c → c.state ≡ states.Active → may_expire phase ≡ true

abbrev pub KeepsNumbers : Phase → List Enlistment → Type 0
KeepsNumbers phase seats = AreNumbered 0 seats ⊎ ((may_expire phase ≡ false) × SeatsRise 0 seats)

abbrev pub Finished : Transaction → Type 0
Finished t = AsksNobody t.phase t.seats × MayComplete t.phase t.completion × KeepsNumbers t.phase t.seats

finished : (t : Transaction) → IsFinished t → Finished t
finished t h = (h.asked, h.initiator, h.numbers)

pub is_finished : (t : Transaction) → Finished t → IsFinished t
is_finished t h = record { asked = h.0; initiator = h.1; numbers = h.2 }

-- seats that change their states alone
numbered_moved : (last : ℕ) (test : Enlistment → Bool) (state : State) (seats : List Enlistment) → AreNumbered last seats → AreNumbered last (moved test state seats)
numbered_moved last test state [] h = tt
numbered_moved last test state (s ∷ ss) (h, k) = (h, numbered_moved (last + 1) test state ss k)

rise_moved : (last : ℕ) (test : Enlistment → Bool) (state : State) (seats : List Enlistment) → SeatsRise last seats → SeatsRise last (moved test state seats)
rise_moved last test state [] h = tt
rise_moved last test state (s ∷ ss) (h, k) = (h, rise_moved s.number test state ss k)

rise_from : (last : ℕ) (seats : List Enlistment) → AreNumbered last seats → SeatsRise last seats
rise_from last [] h = tt
rise_from last (s ∷ ss) (h, k) = (omega (arith, h), subst (λ n. SeatsRise n ss) (sym h) (rise_from (last + 1) ss k))

pub kept_rise : (phase : Phase) (seats : List Enlistment) → KeepsNumbers phase seats → SeatsRise 0 seats
kept_rise phase seats (inl h) = rise_from 0 seats h
kept_rise phase seats (inr h) = h.1

-- while it is undecided, a transaction's seats are numbered in order
in_sequence : (phase : Phase) (seats : List Enlistment) → may_expire phase ≡ true → KeepsNumbers phase seats → AreNumbered 0 seats
in_sequence phase seats e (inl h) = h
in_sequence phase seats e (inr h) = absurd cc

kept_moved : (phase : Phase) (test : Enlistment → Bool) (state : State) (seats : List Enlistment) → KeepsNumbers phase seats → KeepsNumbers phase (moved test state seats)
kept_moved phase test state seats (inl h) = inl (numbered_moved 0 test state seats h)
kept_moved phase test state seats (inr h) = inr (h.0, rise_moved 0 test state seats h.1)

-- the seats that a record names
rise_named : (first last : ℕ) (test : Enlistment → Bool) (seats : List Enlistment) → first ≤ last → SeatsRise last seats → Rises first (map seated (filter test seats))
rise_named first last test [] e h = tt
rise_named first last test (s ∷ ss) e (h, k) =
    either_rises (test s) first s (filter test ss) (omega (arith, e, h)) (rise_named s.number s.number test ss (omega arith) k)
    (rise_named first s.number test ss (omega (arith, e, h)) k)
  where
    either_rises : (b : Bool) (first : ℕ) (s : Enlistment) (rest : List Enlistment) → first < s.number
        → Rises s.number (map seated rest) → Rises first (map seated rest) → Rises first (map seated (if b then s ∷ rest else rest))
    either_rises true first s rest e h k = (e, h)
    either_rises false first s rest e h k = k

named_rise : (seats : List Enlistment) → SeatsRise 0 seats → Rises 0 (prepared seats)
named_rise seats h = rise_named 0 0 is_prepared_durable seats (omega arith) h

-- an abort leaves nobody asked
closed_one : (kind own : Kind) (state : State)
    → let after : State = if is_state state states.Active || is_state state states.Preparing || is_state state states.Prepared then states.Aborting else state in
    ((is_kind own kind && is_state after states.Active) || (is_kind own kind && is_state after states.Preparing)) ≡ false
closed_one kind own states.Active = neither (is_kind own kind) false false refl refl
closed_one kind own other = neither (is_kind own kind) false false refl refl

closed : (kind : Kind) (seats : List Enlistment) → answered kind (moved is_open states.Aborting seats) ≡ true
closed kind [] = refl
closed kind (s ∷ ss) =
    none_either (is_unanswered kind (move_if is_open states.Aborting s)) (list_any (is_unanswered kind) (moved is_open states.Aborting ss)) (closed_one kind s.kind s.state)
    (closed kind ss)

-- the initiator's seat in another state
state_of : (state : State) (completion : Option Completion) (c : Completion) → completion_in state completion ≡ Some c → c.state ≡ state
state_of state None c e = absurd cc
state_of state (Some x) c e =
    let y : Completion = record { initiator = x.initiator; state = state } in
    let same : y ≡ c = cc in
    sym (ap (λ (z : Completion). z.state) same)

other_state : (phase : Phase) (state : State) (completion : Option Completion) → is_state state states.Active ≡ false → MayComplete phase (completion_in state completion)
other_state phase state completion e c f g =
    let h : is_state states.Active states.Active ≡ false = subst (λ x. is_state x states.Active ≡ false) (sym (state_of state completion c f) ∙ g) e in
    absurd cc

-- an initiator stands at a root alone
abbrev pub IsRootIf : Option Superior → Option Completion → Type 0
IsRootIf None completion = Unit {0}
IsRootIf (Some s) completion = completion ≡ None

root_if : (phase : Phase) (s : Option Superior) (completion : Option Completion) → AreLinked phase s completion → IsRootIf s completion
root_if phase None completion h = tt
root_if phase (Some s) completion h = h.1

no_initiator : (phase : Phase) (completion : Option Completion) → completion ≡ None → MayComplete phase completion
no_initiator phase completion e c f g = absurd cc

-- what is recorded, and, if G, what is left
abbrev pub Names : Record → Option Transaction → Type 0
Names r left = NamesRising r

abbrev pub FinishedIf : Type 0 → Transaction → Type 0
FinishedIf G t = G → Finished t

abbrev pub Ends : Type 0 → Decision Transaction → Type 0
Ends G d = DecisionHas (IfThere (FinishedIf G)) Names d

either : (G : Type 0) (b : Bool) (d e : Decision Transaction) → (b ≡ true → Ends G d) → (b ≡ false → Ends G e) → Ends G (if b then d else e)
either G b d e h k = either_has (IfThere (FinishedIf G)) Names b d e h k

-- a transaction on its way
pub record Ready (G : Type 0) (t : Transaction) : Type 0 where
  pub rise : SeatsRise 0 t.seats
  pub root : G → IsRootIf t.superior t.completion
  pub finished : G → Finished t

-- one whose seats are still numbered in order
record Asks (G : Type 0) (t : Transaction) : Type 0 where
  rise : SeatsRise 0 t.seats
  root : G → IsRootIf t.superior t.completion
  numbered : G → AreNumbered 0 t.seats

undecided : (phase : Phase) (t : Transaction) → t.phase ≡ phase → may_expire phase ≡ true → AreNumbered 0 t.seats → Finished t
undecided phase t e f h =
    let g : may_expire t.phase ≡ true = subst (λ p. may_expire p ≡ true) (sym e) f in
    ((λ a. let k : may_expire Phase.Aborting ≡ true = subst (λ p. may_expire p ≡ true) a g in absurd cc), (λ c i j. g), inl h)

rolled_back : (G : Type 0) (g : Moving Transaction) → FinishedIf G g.item → IfThere (FinishedIf G) (until_rolled_back g).item
rolled_back G g h = either_change (IfThere (FinishedIf G)) (list_any (in_state states.Aborting) g.item.seats) (stays g) (forgotten g) h tt

aborted : (G : Type 0) (t x : Transaction) → x.phase ≡ Phase.Aborting → x.completion ≡ completion_in states.None t.completion → x.seats ≡ moved is_open states.Aborting t.seats
    → SeatsRise 0 t.seats → FinishedIf G x
aborted G t x e f g h i = rw (e, f, g) (
  (λ a. (closed kinds.Volatile t.seats, closed kinds.Durable t.seats)),
  other_state Phase.Aborting states.None t.completion refl,
  inr (refl, rise_moved 0 is_open states.Aborting t.seats h),
)

abort_ends : (G : Type 0) (m : Moment) (reason : Reason) (g : Moving Transaction) → SeatsRise 0 g.item.seats → IfThere (FinishedIf G) (abort m reason g).item
unfolding abort
abort_ends G m reason g h = search (rolled_back G, aborted G g.item)

decided_ends : (m : Moment) (g : Moving Transaction) → SeatsRise 0 g.item.seats → Finished (decided m g).item
unfolding decided
decided_ends m g h = (
  (λ a. absurd cc),
  other_state Phase.Committing states.Done g.item.completion refl,
  inr (refl, rise_moved 0 (in_state states.Prepared) states.Committing g.item.seats h),
)

committed_ends : (G : Type 0) (m : Moment) (g : Moving Transaction) → SeatsRise 0 g.item.seats → IfThere (FinishedIf G) (committed m g).item
unfolding committed
committed_ends G m g h =
    either_change (IfThere (FinishedIf G)) (list_any is_prepared_durable g.item.seats) (stays (decided m g)) (forgotten (decided m g)) (λ x. decided_ends m g h) tt

root_ends : (G : Type 0) (m : Moment) (g : Moving Transaction) → SeatsRise 0 g.item.seats → Ends G (root_answered m g)
unfolding root_answered
root_ends G m g h = record { entry = named_rise g.item.seats h; landed = committed_ends G m g h; otherwise = abort_ends G m Alone g h }

voted_ends : (m : Moment) (s : Superior) (g : Moving Transaction) → SeatsRise 0 g.item.seats → g.item.completion ≡ None → Finished (voted m s g).item
unfolding voted
voted_ends m s g h e = ((λ a. absurd cc), no_initiator Phase.Voted g.item.completion e, inr (refl, h))

sub_ends : (G : Type 0) (m : Moment) (s : Superior) (superior : Option Epr) (g : Moving Transaction) → SeatsRise 0 g.item.seats → (G → g.item.completion ≡ None)
    → Ends G (sub_answered m s superior g)
unfolding sub_answered
sub_ends G m s None g h k = abort_ends G m Alone g h
sub_ends G m s (Some superior) g h k =
    either G (list_any is_prepared_durable g.item.seats) _ _
    (λ e. record { entry = named_rise g.item.seats h; landed = λ x. voted_ends m s g h (k x); otherwise = abort_ends G m Alone g h }) (λ e. tt)

durable_ends : (G : Type 0) (m : Moment) (s : Option Superior) (g : Moving Transaction) → SeatsRise 0 g.item.seats → (G → IsRootIf s g.item.completion) → Ends G (durable_answered m s g)
durable_ends G m None g h k = root_ends G m g h
durable_ends G m (Some s) g h k = sub_ends G m s s.durable.coordinator g h k

if_durable_ends : (G : Type 0) (m : Moment) (g : Moving Transaction) → Ready G g.item → Ends G (if_durable_answered m g)
if_durable_ends G m g h =
    either G (answered kinds.Durable g.item.seats) _ _ (λ e. durable_ends G m g.item.superior g h.rise h.root) (λ e. h.finished)

-- seats that are asked
ready_asked : (G : Type 0) (phase : Phase) (t : Transaction) (test : Enlistment → Bool) (seats : List Enlistment) → may_expire phase ≡ true → t.phase ≡ phase
    → t.seats ≡ moved test states.Preparing seats → SeatsRise 0 seats → (G → AreNumbered 0 seats) → (G → IsRootIf t.superior t.completion) → Ready G t
ready_asked G phase t test seats e f g h k r = record {
  rise = rw g (rise_moved 0 test states.Preparing seats h);
  root = r;
  finished = λ x. undecided phase t f e (rw g (numbered_moved 0 test states.Preparing seats (k x)));
}

go_durable_ends : (G : Type 0) (m : Moment) (g : Moving Transaction) → Asks G g.item → Ends G (go_durable m g)
unfolding go_durable
go_durable_ends G m g h =
    let x : Moving Transaction = prepare_seats m kinds.Durable (become (in_phase Phase.Durable g.item) g) in
    if_durable_ends G m x (ready_asked G Phase.Durable x.item (is_of kinds.Durable states.Active) g.item.seats refl refl refl h.rise h.numbered h.root)

asks : (G : Type 0) (phase : Phase) (t : Transaction) → t.phase ≡ phase → may_expire phase ≡ true → Ready G t → Asks G t
asks G phase t e f h = record {
  rise = h.rise;
  root = h.root;
  numbered = λ x. in_sequence t.phase t.seats (subst (λ p. may_expire p ≡ true) (sym e) f) (h.finished x).2;
}

volatile_ends : (G : Type 0) (m : Moment) (s : Option Superior) (g : Moving Transaction) → Asks G g.item → (G → Finished g.item) → Ends G (volatile_answered m s g)
unfolding volatile_answered
volatile_ends G m None g h k = go_durable_ends G m g h
volatile_ends G m (Some s) g h k =
    either G (is_state s.volatile.state states.Preparing) _ _
    (λ e x. undecided Phase.Active (record g.item { superior = Some (link_in kinds.Volatile states.None s); phase = Phase.Active }) refl refl (h.numbered x))
    (λ e. either G (is_state s.durable.state states.Preparing) _ _ (λ f. go_durable_ends G m g h) (λ f. k))

all_committed_ends : (G : Type 0) (m : Moment) (g : Moving Transaction) → Ends G (all_committed m g)
unfolding all_committed
all_committed_ends G m g = record { entry = tt; landed = tt; otherwise = tt }

advance_in_ends : (G : Type 0) (m : Moment) (phase : Phase) (g : Moving Transaction) → g.item.phase ≡ phase → Ready G g.item → Ends G (advance_in m phase g)
unfolding advance_in
advance_in_ends G m Phase.Registering g e h = h.finished
advance_in_ends G m Phase.Active g e h = h.finished
advance_in_ends G m Phase.Volatile g e h =
    either G (answered kinds.Volatile g.item.seats) _ _ (λ k. volatile_ends G m g.item.superior g (asks G Phase.Volatile g.item e refl h) h.finished) (λ k. h.finished)
advance_in_ends G m Phase.Durable g e h = if_durable_ends G m g h
advance_in_ends G m Phase.Voted g e h = h.finished
advance_in_ends G m Phase.Committing g e h = either G (all_left g.item.seats) _ _ (λ k. all_committed_ends G m g) (λ k. h.finished)
advance_in_ends G m Phase.Aborting g e h = rolled_back G g h.finished

go_volatile_ends : (G : Type 0) (m : Moment) (g : Moving Transaction) → Asks G g.item → Ends G (go_volatile m g)
unfolding go_volatile
go_volatile_ends G m g h =
    let x : Moving Transaction = prepare_seats m kinds.Volatile (become (in_phase Phase.Volatile g.item) g) in
    advance_in_ends G m Phase.Volatile x refl
    (ready_asked G Phase.Volatile x.item (is_of kinds.Volatile states.Active) g.item.seats refl refl refl h.rise h.numbered h.root)

-- a seat that has answered or left
seat_finished : (number : ℕ) (state : State) (t : Transaction) → is_state state states.Active ≡ false → is_state state states.Preparing ≡ false → Finished t
    → Finished (seat_in number state t)
seat_finished number state t e f (a, i, n) = (
  (λ g. (answered_moved kinds.Volatile (λ s. nat_eq s.number number) state t.seats e f (a g).0, answered_moved kinds.Durable (λ s. nat_eq s.number number) state t.seats e f (a g).1)),
  i,
  kept_moved t.phase (λ s. nat_eq s.number number) state t.seats n,
)

seat_advances : (G : Type 0) (m : Moment) (number : ℕ) (state : State) (t : Transaction) → is_state state states.Active ≡ false → is_state state states.Preparing ≡ false → Ready G t
    → Ends G (advance m (begin (seat_in number state t)))
seat_advances G m number state t e f h = advance_in_ends G m t.phase (begin (seat_in number state t)) refl (record {
  rise = rise_moved 0 (λ s. nat_eq s.number number) state t.seats h.rise;
  root = h.root;
  finished = λ x. seat_finished number state t e f (h.finished x);
})

seat_aborts : (G : Type 0) (m : Moment) (number : ℕ) (state : State) (t : Transaction) → Ready G t → IfThere (FinishedIf G) (abort m Alone (begin (seat_in number state t))).item
seat_aborts G m number state t h = abort_ends G m Alone (begin (seat_in number state t)) (rise_moved 0 (λ s. nat_eq s.number number) state t.seats h.rise)

seat_act_ends : (G : Type 0) (m : Moment) (i : Option (List ℕ)) (t : Transaction) (s : Enlistment) (act : Act) → Ready G t → Ends G (seat_act m i t s act)
unfolding seat_act
seat_act_ends G m i t s acts.SendRollback h = either G (in_state states.None s) _ _ (λ e. h.finished) (λ e. h.finished)
seat_act_ends G m i t s acts.FaultInvalidStateAndAbort h = abort_ends G m Alone _ h.rise
seat_act_ends G m i t s acts.Leave h = seat_advances G m s.number states.None t refl refl h
seat_act_ends G m i t s acts.LeaveAndAbort h = seat_aborts G m s.number states.None t h
seat_act_ends G m i t s acts.Vote h = seat_advances G m s.number states.Prepared t refl refl h
seat_act_ends G m i t s other h = h.finished

seat_notice_ends : (G : Type 0) (m : Moment) (i : Option (List ℕ)) (t : Transaction) (s : Enlistment) (c : Option Cell) → Ready G t → Ends G (seat_notice m i t s c)
unfolding seat_notice
seat_notice_ends G m i t s None h = h.finished
seat_notice_ends G m i t s (Some c) h = seat_act_ends G m i t s c.act h

pub seat_ends : (G : Type 0) (m : Moment) (a : Arrived) (t : Transaction) (s : Enlistment) (x : Message) → Ready G t → Ends G (on_seat m a t s x)
unfolding on_seat
seat_ends G m a t s (messages.Notice n) h = seat_notice_ends G m a.id t s (coordinator_of s.kind s.state n) h
seat_ends G m a t s other h = h.finished

-- a subordinate: where a link is asked, it is undecided
may_ask : (phase : Phase) (kind : Kind) (s : Superior) → AreIn phase s.volatile.state s.durable.state → (link_of kind s).state ≡ states.Active → may_expire phase ≡ true
may_ask Phase.Registering kind s h e = refl
may_ask Phase.Active kind s h e = refl
may_ask Phase.Volatile kind s h e = refl
may_ask Phase.Durable kind s h e = refl
may_ask Phase.Voted kinds.Volatile s (v, d) e = absurd cc
may_ask Phase.Voted kinds.Durable s (v, d) e = absurd cc
may_ask Phase.Committing kinds.Volatile s (v, d) e = absurd cc
may_ask Phase.Committing kinds.Durable s (v, d) e = absurd cc
may_ask Phase.Aborting kinds.Volatile s (v, d) e = absurd cc
may_ask Phase.Aborting kinds.Durable s (v, d) e = absurd cc

link_asks : (kind : Kind) (s : Superior) (t : Transaction) → t.superior ≡ Some s → Ready (Linked t) t → (link_of kind s).state ≡ states.Active → Asks (Linked t) (under (asked kind s) t)
link_asks kind s t e h k = record {
  rise = h.rise;
  root = λ x. (known t s e x).1;
  numbered = λ x. in_sequence t.phase t.seats (may_ask t.phase kind s (known t s e x).0 k) (h.finished x).2;
}

commit_ends : (m : Moment) (s : Superior) (t : Transaction) → t.superior ≡ Some s → Ready (Linked t) t → Ends (Linked t) (commit_voted m s t)
unfolding commit_voted
commit_ends m s t e h = record {
  entry = tt;
  landed = λ x. (
    (λ a. absurd cc),
    no_initiator Phase.Committing t.completion (known t s e x).1,
    inr (refl, rise_moved 0 (in_state states.Prepared) states.Committing t.seats h.rise),
  );
  otherwise = tt;
}

link_act_ends : (m : Moment) (from : Option Epr) (i : Option (List ℕ)) (kind : Kind) (s : Superior) (t : Transaction) (act : Act) → t.superior ≡ Some s → Ready (Linked t) t
    → ActsAt (link_of kind s).state act → Ends (Linked t) (link_act m from i kind s t act)
unfolding link_act
link_act_ends m from i kind s t acts.FaultInvalidStateAndAbort e h k = abort_ends (Linked t) m _ _ h.rise
link_act_ends m from i kind s t acts.Gather e h k = go_volatile_ends (Linked t) m (begin (under (asked kind s) t)) (link_asks kind s t e h k)
link_act_ends m from i kind s t acts.Commit e h k = commit_ends m s t e h
link_act_ends m from i kind s t acts.AbortAndSendAborted e h k = abort_ends (Linked t) m (Asked kind from) (begin t) h.rise
link_act_ends m from i kind s t acts.RecordAndSendAborted e h k = record { entry = tt; landed = abort_ends (Linked t) m (Asked kind from) (begin t) h.rise; otherwise = tt }
link_act_ends m from i kind s t other e h k = h.finished

link_notice_ends : (m : Moment) (from : Option Epr) (i : Option (List ℕ)) (kind : Kind) (s : Superior) (t : Transaction) (c : Option Cell) → t.superior ≡ Some s → Ready (Linked t) t
    → CellAt (link_of kind s).state c → Ends (Linked t) (link_notice m from i kind s t c)
unfolding link_notice
link_notice_ends m from i kind s t None e h k = h.finished
link_notice_ends m from i kind s t (Some c) e h k = link_act_ends m from i kind s t c.act e h k

registered_finished : (s : Superior) (t : Transaction) (phase : Phase) → t.phase ≡ phase → Finished t → Finished (record t { superior = Some s; phase = registered s phase })
registered_finished s t Phase.Registering e h = by_case (is_state s.volatile.state states.Registering || is_state s.durable.state states.Registering)
  where
    in_order : AreNumbered 0 t.seats
    in_order = in_sequence t.phase t.seats (subst (λ p. may_expire p ≡ true) (sym e) refl) h.2

    by_case : (b : Bool) → Finished (record t { superior = Some s; phase = if b then Phase.Registering else Phase.Active })
    by_case true = undecided Phase.Registering (record t { superior = Some s; phase = Phase.Registering }) refl refl in_order
    by_case false = undecided Phase.Active (record t { superior = Some s; phase = Phase.Active }) refl refl in_order
registered_finished s t Phase.Active e h = subst (λ p. Finished (record t { phase = p })) e h
registered_finished s t other e h = subst (λ p. Finished (record t { phase = p })) e h

link_registered_ends : (m : Moment) (relates : Option (List ℕ)) (coordinator : Epr) (kind : Kind) (s : Superior) (t : Transaction) → Ready (Linked t) t
    → Ends (Linked t) (link_registered m relates coordinator kind s t)
unfolding link_registered
link_registered_ends m relates coordinator kind s t h =
    let after : Superior = set_link kind (record { state = states.Active; coordinator = Some coordinator }) s in
    either (Linked t) (is_state (link_of kind s).state states.Registering && relates_to relates (register_id m.base (targets.Participant t.id kind))) _ _
    (λ k x. registered_finished after t t.phase refl (h.finished x)) (λ k. h.finished)

link_fault_ends : (m : Moment) (relates : Option (List ℕ)) (kind : Kind) (s : Superior) (t : Transaction) → Ready (Linked t) t → Ends (Linked t) (link_fault m relates kind s t)
unfolding link_fault
link_fault_ends m relates kind s t h =
    either (Linked t) (is_state (link_of kind s).state states.Registering && relates_to relates (register_id m.base (targets.Participant t.id kind))) _ _
    (λ k. abort_ends (Linked t) m Alone (begin t) h.rise) (λ k. h.finished)

pub link_ends : (m : Moment) (a : Arrived) (kind : Kind) (t : Transaction) (s : Superior) (x : Message) → t.superior ≡ Some s → Ready (Linked t) t → Ends (Linked t) (on_link m a kind t s x)
unfolding on_link
link_ends m a kind t s (messages.Notice n) e h = link_notice_ends m a.from a.id kind s t (participant_of kind (link_of kind s).state n) e h (table_acts kind (link_of kind s).state n)
link_ends m a kind t s (messages.RegisterResponse coordinator) e h = link_registered_ends m a.relates coordinator kind s t h
link_ends m a kind t s (messages.Fault name) e h = link_fault_ends m a.relates kind s t h
link_ends m a kind t s other e h = h.finished

-- an initiator completes only while its seat is Active
abbrev CompletesAt : State → Act → Type 0
CompletesAt state acts.Complete = state ≡ states.Active
CompletesAt state other = Unit {0}

abbrev CompletesIn : State → Option Cell → Type 0
CompletesIn state None = Unit {0}
CompletesIn state (Some c) = CompletesAt state c.act

completes : (state : State) (n : Notice) → CompletesIn state (completion_of state n)
completes states.None notices.Commit = tt
completes states.None other = tt
completes states.Registering notices.Commit = tt
completes states.Registering other = tt
completes states.Active notices.Commit = refl
completes states.Active other = tt
completes states.Preparing notices.Commit = tt
completes states.Preparing other = tt
completes states.Prepared notices.Commit = tt
completes states.Prepared other = tt
completes states.PreparedSuccess notices.Commit = tt
completes states.PreparedSuccess other = tt
completes states.Committing notices.Commit = tt
completes states.Committing other = tt
completes states.Aborting notices.Commit = tt
completes states.Aborting other = tt
completes states.Completing notices.Commit = tt
completes states.Completing other = tt
completes states.Done notices.Commit = tt
completes states.Done other = tt

still_root : (s : Option Superior) (completion : Option Completion) (c x : Completion) → completion ≡ Some c → IsRootIf s completion → IsRootIf s (Some x)
still_root None completion c x e h = tt
still_root (Some s) completion c x e h = absurd cc

completing : (G : Type 0) (c x : Completion) (t : Transaction) → t.completion ≡ Some c → c.state ≡ states.Active → Ready G t → Asks G (record t { completion = Some x })
completing G c x t e f h = record {
  rise = h.rise;
  root = λ y. still_root t.superior t.completion c x e (h.root y);
  numbered = λ y. in_sequence t.phase t.seats ((h.finished y).1 c e f) (h.finished y).2;
}

completion_act_ends : (G : Type 0) (m : Moment) (from : Option Epr) (i : Option (List ℕ)) (c : Completion) (t : Transaction) (act : Act) → t.completion ≡ Some c → CompletesAt c.state act → Ready G t
    → Ends G (completion_act m from i c t act)
unfolding completion_act
completion_act_ends G m from i c t acts.Complete e k h =
    let x : Completion = record c { state = states.Completing } in
    go_volatile_ends G m (begin (record t { completion = Some x })) (completing G c x t e k h)
completion_act_ends G m from i c t acts.AbortAndSendAborted e k h = abort_ends G m Alone (begin t) h.rise
completion_act_ends G m from i c t other e k h = h.finished

completion_notice_ends : (G : Type 0) (m : Moment) (from : Option Epr) (i : Option (List ℕ)) (c : Completion) (t : Transaction) (cell : Option Cell) → t.completion ≡ Some c → CompletesIn c.state cell
    → Ready G t → Ends G (completion_notice m from i c t cell)
unfolding completion_notice
completion_notice_ends G m from i c t None e k h = h.finished
completion_notice_ends G m from i c t (Some cell) e k h = completion_act_ends G m from i c t cell.act e k h

pub completion_ends : (G : Type 0) (m : Moment) (a : Arrived) (t : Transaction) (c : Completion) (x : Message) → t.completion ≡ Some c → Ready G t → Ends G (on_completion m a t c x)
unfolding on_completion
completion_ends G m a t c (messages.Notice n) e h = completion_notice_ends G m a.from a.id c t (completion_of c.state n) e (completes c.state n) h
completion_ends G m a t c other e h = h.finished

pub due_ends : (G : Type 0) (m : Moment) (t : Transaction) (reached : Reached) → Ready G t → Ends G (transaction_reached m t reached)
unfolding transaction_reached
due_ends G m t Expired h = abort_ends G m Alone (begin t) h.rise
due_ends G m t Over h = tt
due_ends G m t Unanswered h = h.finished
due_ends G m t Nothing h = h.finished

-- the answer to a request
pub with_answer_ends : (G : Type 0) (m : Moment) (t : Transaction) (d : Decision Transaction) → Ends G d → Ends G (with_answer m t d)
with_answer_ends G m t d h = with_answer_has (IfThere (FinishedIf G)) Names (λ s x e k. k) (λ r s x e k. k) m t d h

-- how a transaction of a book begins its step
pub ready : (t : Transaction) → IsFinished t → Ready (Linked t) t
ready t h = record {
  rise = kept_rise t.phase t.seats h.numbers;
  root = λ x. root_if t.phase t.superior t.completion x;
  finished = λ x. finished t h;
}

-- registration
numbered_behind : (last : ℕ) (seats : List Enlistment) (s : Enlistment) → AreNumbered last seats → s.number ≡ last + length seats + 1 → AreNumbered last (seats ++ s ∷ [])
numbered_behind last [] s h e = (omega (arith, e), tt)
numbered_behind last (x ∷ xs) s (h, k) e = (h, numbered_behind (last + 1) xs s k (omega (arith, e)))

accepting : (phase : Phase) → accepts phase ≡ true → may_expire phase ≡ true
accepting Phase.Active e = refl
accepting Phase.Volatile e = refl
accepting Phase.Registering e = refl
accepting Phase.Durable e = refl
accepting Phase.Voted e = absurd cc
accepting Phase.Committing e = absurd cc
accepting Phase.Aborting e = absurd cc

accept_finished : (m : Moment) (a : Arrived) (t : Transaction) (participant : Epr) (kind : Option Kind) → may_expire t.phase ≡ true → Finished t
    → Finished (accept m a t participant kind).transaction
unfolding accept
accept_finished m a t participant (Some kind) e h =
    let s : Enlistment = new_seat t participant kind in
    undecided t.phase (record t { seats = t.seats ++ s ∷ [] }) refl e (numbered_behind 0 t.seats s (in_sequence t.phase t.seats e h.2) (omega arith))
accept_finished m a t participant None e h =
    undecided t.phase (record t { completion = Some (record { initiator = participant; state = states.Active }) }) refl e (in_sequence t.phase t.seats e h.2)

register_new_finished : (m : Moment) (a : Arrived) (r : Register) (t : Transaction) (kind : Option (Option Kind)) → Finished t → Finished (register_new m a r t kind).transaction
unfolding register_new
register_new_finished m a r t None h = h
register_new_finished m a r t (Some kind) h =
    either_of (λ (x : Registration). Finished x.transaction) (not a.postable) _ _ (λ e. h)
    (λ e. either_of (λ (x : Registration). Finished x.transaction) (may_register t kind) _ _
    (λ f. accept_finished m a t r.participant kind (accepting t.phase (then_accepts t kind f)) h) (λ f. h))

register_again_finished : (m : Moment) (a : Arrived) (r : Register) (t : Transaction) (kind : Option (Option Kind)) (held : Option Epr) → Finished t
    → Finished (register_again m a r t kind held).transaction
unfolding register_again
register_again_finished m a r t kind (Some coordinator) h = h
register_again_finished m a r t kind None h = register_new_finished m a r t kind h

register_finished : (m : Moment) (a : Arrived) (r : Register) (t : Transaction) → Finished t → Finished (on_register m a r t).transaction
unfolding on_register
register_finished m a r t h = register_again_finished m a r t (protocol_named r.protocol) (held_seat m r t (protocol_named r.protocol)) h

pub register_ends : (m : Moment) (a : Arrived) (r : Register) (t : Transaction) → IsFinished t → IsFinished (on_register m a r t).transaction
register_ends m a r t h = is_finished (on_register m a r t).transaction (register_finished m a r t (finished t h))

-- a transaction that is made
under_finished : (m : Moment) (id : Numbers) (a : Arrived) (c : Create) (current : Context) (r : Reply) → IfThere Finished (create_under m id a c current r).transaction
unfolding create_under
under_finished m id a c current (replies.At reply) = ((λ e. absurd cc), (λ x e f. refl), inl tt)
under_finished m id a c current replies.Anonymous = tt
under_finished m id a c current replies.Nobody = tt

in_finished : (m : Moment) (id : Numbers) (a : Arrived) (c : Create) (current : Option Context) → IfThere Finished (create_in m id a c current).transaction
unfolding create_in
in_finished m id a c None = ((λ e. absurd cc), (λ x e f. refl), inl tt)
in_finished m id a c (Some current) = under_finished m id a c current a.reply

created_finished : (m : Moment) (live : ℕ) (a : Arrived) (c : Create) (id : Numbers) (t : Transaction) → (on_create m live a c (Some id)).transaction ≡ Some t → Finished t
unfolding on_create
created_finished m live a c id t e =
    subst (IfThere Finished) e
    (either_of (λ x. IfThere Finished x.transaction) (bytes_eq c.coordination atomic && nat_lt live MOST_ITEMS) (create_in m id a c c.current) (refuse_create a)
    (λ k. in_finished m id a c c.current) (λ k. tt))

pub created_ends : (m : Moment) (live : ℕ) (a : Arrived) (c : Create) (id : Numbers) (t : Transaction) → (on_create m live a c (Some id)).transaction ≡ Some t → IsFinished t
created_ends m live a c id t e = is_finished t (created_finished m live a c id t e)
