-- A subordinate's links follow its phase: a decision keeps them so.
use Rattle.std.specs.Prelude.{ℕ, List, Option, Some, None, Bool, true, false, ◌≡◌, refl, if◌then◌else◌, ◌&&◌, ◌||◌}
use Rattle.std.specs.List.{list_any}
use Rattle.std.proofs.Common.{ap, sym, subst}
use Rattle.at_base.specs.declared.epr.Epr.{Epr}
use Rattle.at_base.specs.declared.notice.Kind.{Kind}
use Rattle.at_base.specs.declared.notice.Kind.TheVariants as kinds
use Rattle.at_base.specs.declared.message.Message.{Message}
use Rattle.at_base.specs.declared.message.Message.TheVariants as messages
use Rattle.at_base.specs.declared.record.Record.{Record}
use Rattle.at_base.specs.declared.event.Arrived.{Arrived}
use Rattle.at_base.specs.declared.event.Moment.{Moment}
use Rattle.at_tables.specs.declared.cells.State.TheVariants as states
use Rattle.at_tables.specs.declared.cells.Act.{Act}
use Rattle.at_tables.specs.declared.cells.Act.TheVariants as acts
use Rattle.at_tables.specs.declared.cells.Cell.{Cell}
use Rattle.at_tables.specs.Names.{is_state}
use Rattle.at_tables.specs.Tables.{coordinator_of, completion_of}
use Rattle.at_model.specs.Book.{Completion, Enlistment, Phase, Superior, Transaction}
use Rattle.at_model.specs.Moves.{Moving, Decision, begin, become, stays, forgotten}
use Rattle.at_model.specs.Seats.{answered, all_left, in_state, is_prepared_durable, in_phase, under}
use Rattle.at_model.specs.Abort.{Reason, Alone, Asked, until_rolled_back, abort}
use Rattle.at_model.specs.Phases.{decided, committed, root_answered, voted, sub_answered, durable_answered, if_durable_answered, prepare_seats, go_durable, volatile_answered, all_committed, advance_in, advance, go_volatile}
use Rattle.at_model.specs.Arrivals.{seat_act, seat_notice, commit_voted, link_act, link_notice, completion_act, completion_notice, link_registered, link_fault, on_link, on_seat, on_completion, request_answered, with_answer}
use Rattle.at_model.specs.Due.{Reached, Expired, Over, Unanswered, Nothing, transaction_reached}
use Rattle.at_tables.specs.declared.cells.State.{State}
use Rattle.at_model.specs.Seats.{seat_in}
use Rattle.at_model.specs.Arrivals.{registered}
use Rattle.std.proofs.Common.{inl, inr}
use Rattle.at_model.specs.Seats.{set_link, link_of, completion_in}
use Rattle.at_model.specs.Abort.{without_links}
use Rattle.model_laws.specs.Links.{IsJoining, IsIdle, AreIn, AreLinked}
use Rattle.at_model.specs.Arrivals.{asked, relates_to}
use Rattle.at_tables.specs.Tables.{participant_of}
use Rattle.at_base.specs.declared.target.Target.TheVariants as targets
use Rattle.endpoints.specs.Addresses.{register_id}
use Rattle.at_model.specs.Moves.{Goes, ignored}
use Rattle.model_laws.proofs.ParticipantTable.{ActsAt, CellAt, table_acts}
use Rattle.model_laws.proofs.DecisionLaws.{first_true, DecisionHas, IfThere, either_has, either_change, with_answer_has}

-- links
abbrev pub Linked : Transaction → Type 0
Linked t = AreLinked t.phase t.superior t.completion

abbrev pub AnyRecord : Record → Option Transaction → Type 0
AnyRecord r left = Unit {0}

abbrev pub Links : Decision Transaction → Type 0
Links d = DecisionHas (IfThere Linked) AnyRecord d

either : (b : Bool) (d e : Decision Transaction) → (b ≡ true → Links d) → (b ≡ false → Links e) → Links (if b then d else e)
either b d e h k = either_has (IfThere Linked) AnyRecord b d e h k

-- one state isn't another
is_other : (a b c : State) → a ≡ b → is_state b c ≡ false → is_state a c ≡ true → ⊥
is_other a b c e f h = let k : is_state b c ≡ true = subst (λ x. is_state x c ≡ true) e h in cc

no_joining : (a b : State) → a ≡ b → (IsJoining b → ⊥) → IsJoining a → ⊥
no_joining a b e f h = f (subst IsJoining e h)

no_idle : (a b : State) → a ≡ b → (IsIdle b → ⊥) → IsIdle a → ⊥
no_idle a b e f h = f (subst IsIdle e h)

-- Where a link is PreparedSuccess, the subordinate has voted, and its volatile link is None.
pub has_voted : (phase : Phase) (kind : Kind) (s : Superior) → AreIn phase s.volatile.state s.durable.state → (link_of kind s).state ≡ states.PreparedSuccess
    → phase ≡ Phase.Voted
has_voted Phase.Registering kinds.Volatile s (v, d) e = absurd (no_joining s.volatile.state states.PreparedSuccess e (λ x. x) v)
has_voted Phase.Registering kinds.Durable s (v, d) e = absurd (no_joining s.durable.state states.PreparedSuccess e (λ x. x) d)
has_voted Phase.Active kinds.Volatile s (v, d) e = absurd (no_idle s.volatile.state states.PreparedSuccess e (λ x. x) v)
has_voted Phase.Active kinds.Durable s (v, d) e = absurd (no_joining s.durable.state states.PreparedSuccess e (λ x. x) d)
has_voted Phase.Volatile kinds.Volatile s (inl (v, d)) e = absurd cc
has_voted Phase.Volatile kinds.Volatile s (inr (v, d)) e = absurd cc
has_voted Phase.Volatile kinds.Durable s (inl (v, d)) e = absurd (no_joining s.durable.state states.PreparedSuccess e (λ x. x) d)
has_voted Phase.Volatile kinds.Durable s (inr (v, d)) e = absurd cc
has_voted Phase.Durable kinds.Volatile s (v, d) e = absurd cc
has_voted Phase.Durable kinds.Durable s (v, d) e = absurd cc
has_voted Phase.Voted kind s (v, d) e = refl
has_voted Phase.Committing kinds.Volatile s (v, d) e = absurd cc
has_voted Phase.Committing kinds.Durable s (v, d) e = absurd cc
has_voted Phase.Aborting kinds.Volatile s (v, d) e = absurd cc
has_voted Phase.Aborting kinds.Durable s (v, d) e = absurd cc

voted_alone : (phase : Phase) (kind : Kind) (s : Superior) → AreIn phase s.volatile.state s.durable.state → (link_of kind s).state ≡ states.PreparedSuccess
    → s.volatile.state ≡ states.None
voted_alone phase kind s h e =
    let k : AreIn Phase.Voted s.volatile.state s.durable.state = subst (λ p. AreIn p s.volatile.state s.durable.state) (has_voted phase kind s h e) h in
    k.0

-- While a volatile link is Active, the durable one isn't asked.
unasked : (phase : Phase) (s : Superior) → AreIn phase s.volatile.state s.durable.state → s.volatile.state ≡ states.Active → IsJoining s.durable.state
unasked Phase.Registering s (v, d) e = d
unasked Phase.Active s (v, d) e = d
unasked Phase.Volatile s (inl (v, d)) e = d
unasked Phase.Volatile s (inr (v, d)) e = absurd cc
unasked Phase.Durable s (v, d) e = absurd cc
unasked Phase.Voted s (v, d) e = absurd cc
unasked Phase.Committing s (v, d) e = absurd cc
unasked Phase.Aborting s (v, d) e = absurd cc

asked_in : (phase : Phase) (kind : Kind) (s : Superior) → AreIn phase s.volatile.state s.durable.state → (link_of kind s).state ≡ states.Active
    → AreIn Phase.Volatile (asked kind s).volatile.state (asked kind s).durable.state
asked_in phase kinds.Volatile s h e = inl (refl, unasked phase s h e)
asked_in phase kinds.Durable s h e = inr (refl, refl)

abbrev IsRootIf : Option Superior → Option Completion → Type 0
IsRootIf None c = Unit {0}
IsRootIf (Some s) c = c ≡ None

root_if : (phase : Phase) (s : Option Superior) (c : Option Completion) → AreLinked phase s c → IsRootIf s c
root_if phase None c h = tt
root_if phase (Some s) c h = h.1

no_initiator : (s : Option Superior) (c : Option Completion) → c ≡ None → IsRootIf s c
no_initiator None c e = tt
no_initiator (Some s) c e = e

aborted_links : (s : Option Superior) (c : Option Completion) → IsRootIf s c → AreLinked Phase.Aborting (without_links s) (completion_in states.None c)
aborted_links None c h = tt
aborted_links (Some s) c h = ((refl, refl), ap (completion_in states.None) h)

root_alone : (phase : Phase) (s : Option Superior) (c : Option Completion) (initiator : Completion) → AreLinked phase s c → c ≡ Some initiator → s ≡ None
root_alone phase None c initiator h e = refl
root_alone phase (Some s) c initiator h e = let f : c ≡ None = h.1 in cc

-- a link that is registered
one_of_two : (b : Bool) (durable : State) → IsJoining durable → AreIn (if b then Phase.Registering else Phase.Active) states.Active durable
one_of_two true durable h = (tt, h)
one_of_two false durable h = (tt, h)

other_of_two : (volatile : State) → IsJoining volatile → AreIn (if is_state volatile states.Registering || false then Phase.Registering else Phase.Active) volatile states.Active
other_of_two states.Registering h = (tt, tt)
other_of_two states.Active h = (tt, tt)
other_of_two other h = absurd h

idle_is_no : (volatile : State) → IsIdle volatile → is_state volatile states.Registering ≡ true → ⊥
idle_is_no states.None h e = absurd cc
idle_is_no states.Active h e = absurd cc
idle_is_no other h e = absurd h

abbrev joined : Kind → Epr → Superior → Superior
joined kind coordinator s = set_link kind (record { state = states.Active; coordinator = Some coordinator }) s

registered_in : (phase : Phase) (kind : Kind) (coordinator : Epr) (s : Superior) → AreIn phase s.volatile.state s.durable.state
    → is_state (link_of kind s).state states.Registering ≡ true
    → AreIn (registered (joined kind coordinator s) phase) (joined kind coordinator s).volatile.state (joined kind coordinator s).durable.state
registered_in Phase.Registering kinds.Volatile coordinator s (v, d) e = one_of_two (is_state s.durable.state states.Registering) s.durable.state d
registered_in Phase.Registering kinds.Durable coordinator s (v, d) e = other_of_two s.volatile.state v
registered_in Phase.Active kinds.Volatile coordinator s (v, d) e = absurd (idle_is_no s.volatile.state v e)
registered_in Phase.Active kinds.Durable coordinator s (v, d) e = (v, tt)
registered_in Phase.Volatile kinds.Volatile coordinator s (inl (v, d)) e = absurd (is_other s.volatile.state states.Preparing states.Registering v refl e)
registered_in Phase.Volatile kinds.Volatile coordinator s (inr (v, d)) e = absurd (is_other s.volatile.state states.None states.Registering v refl e)
registered_in Phase.Volatile kinds.Durable coordinator s (inl (v, d)) e = inl (v, tt)
registered_in Phase.Volatile kinds.Durable coordinator s (inr (v, d)) e = absurd (is_other s.durable.state states.Preparing states.Registering d refl e)
registered_in Phase.Durable kinds.Volatile coordinator s (v, d) e = absurd (is_other s.volatile.state states.None states.Registering v refl e)
registered_in Phase.Durable kinds.Durable coordinator s (v, d) e = absurd (is_other s.durable.state states.Preparing states.Registering d refl e)
registered_in Phase.Voted kinds.Volatile coordinator s (v, d) e = absurd (is_other s.volatile.state states.None states.Registering v refl e)
registered_in Phase.Voted kinds.Durable coordinator s (v, d) e = absurd (is_other s.durable.state states.PreparedSuccess states.Registering d refl e)
registered_in Phase.Committing kinds.Volatile coordinator s (v, d) e = absurd (is_other s.volatile.state states.None states.Registering v refl e)
registered_in Phase.Committing kinds.Durable coordinator s (v, d) e = absurd (is_other s.durable.state states.Committing states.Registering d refl e)
registered_in Phase.Aborting kinds.Volatile coordinator s (v, d) e = absurd (is_other s.volatile.state states.None states.Registering v refl e)
registered_in Phase.Aborting kinds.Durable coordinator s (v, d) e = absurd (is_other s.durable.state states.None states.Registering d refl e)

-- the rules
rolled_back : (g : Moving Transaction) → Linked g.item → IfThere Linked (until_rolled_back g).item
rolled_back g h = either_change (IfThere Linked) (list_any (in_state states.Aborting) g.item.seats) (stays g) (forgotten g) h tt

abort_links : (m : Moment) (reason : Reason) (g : Moving Transaction) → IsRootIf g.item.superior g.item.completion → IfThere Linked (abort m reason g).item
unfolding abort
abort_links m reason g h = search (rolled_back, aborted_links)

root_only : (phase : Phase) (s : Option Superior) (c : Option Completion) → s ≡ None → AreLinked phase s c
root_only phase s c e = subst (λ x. AreLinked phase x c) (sym e) tt

decided_links : (m : Moment) (g : Moving Transaction) → g.item.superior ≡ None → Linked (decided m g).item
unfolding decided
decided_links m g e = root_only Phase.Committing g.item.superior (completion_in states.Done g.item.completion) e

committed_links : (m : Moment) (g : Moving Transaction) → g.item.superior ≡ None → IfThere Linked (committed m g).item
unfolding committed
committed_links m g e =
    either_change (IfThere Linked) (list_any is_prepared_durable g.item.seats) (stays (decided m g)) (forgotten (decided m g)) (decided_links m g e) tt

root_links : (m : Moment) (g : Moving Transaction) → g.item.superior ≡ None → Links (root_answered m g)
unfolding root_answered
root_links m g e = record {
  entry = tt;
  landed = committed_links m g e;
  otherwise = abort_links m Alone g (root_if Phase.Committing g.item.superior g.item.completion (root_only Phase.Committing g.item.superior g.item.completion e));
}

voted_links : (m : Moment) (s : Superior) (g : Moving Transaction) → s.volatile.state ≡ states.None → g.item.completion ≡ None → Linked (voted m s g).item
unfolding voted
voted_links m s g e f = ((e, refl), f)

sub_links : (m : Moment) (s : Superior) (superior : Option Epr) (g : Moving Transaction) → s.volatile.state ≡ states.None → g.item.completion ≡ None → Links (sub_answered m s superior g)
unfolding sub_answered
sub_links m s None g e f = abort_links m Alone g (no_initiator g.item.superior g.item.completion f)
sub_links m s (Some superior) g e f =
    either (list_any is_prepared_durable g.item.seats) _ _ (λ k. record { entry = tt; landed = voted_links m s g e f; otherwise = abort_links m Alone g (no_initiator g.item.superior g.item.completion f) }) (λ k. tt)

durable_links : (m : Moment) (s : Option Superior) (g : Moving Transaction) → g.item.superior ≡ s → AreLinked Phase.Durable s g.item.completion → Links (durable_answered m s g)
durable_links m None g e h = root_links m g e
durable_links m (Some s) g e h = sub_links m s s.durable.coordinator g h.0.0 h.1

if_durable_links : (m : Moment) (g : Moving Transaction) → g.item.phase ≡ Phase.Durable → AreLinked Phase.Durable g.item.superior g.item.completion → Links (if_durable_answered m g)
if_durable_links m g e h =
    either (answered kinds.Durable g.item.seats) _ _ (λ k. durable_links m g.item.superior g refl h) (λ k. subst (λ p. AreLinked p g.item.superior g.item.completion) (sym e) h)

go_durable_links : (m : Moment) (g : Moving Transaction) → AreLinked Phase.Durable g.item.superior g.item.completion → Links (go_durable m g)
unfolding go_durable
go_durable_links m g h = if_durable_links m (prepare_seats m kinds.Durable (become (in_phase Phase.Durable g.item) g)) refl h

-- the volatile link was asked, and the durable one wasn't; or the other way round
volatile_asked : (s : Superior) → AreIn Phase.Volatile s.volatile.state s.durable.state → is_state s.volatile.state states.Preparing ≡ true → IsJoining s.durable.state
volatile_asked s (inl (v, d)) e = d
volatile_asked s (inr (v, d)) e = absurd (is_other s.volatile.state states.None states.Preparing v refl e)

not_preparing : (a : State) → a ≡ states.Preparing → is_state a states.Preparing ≡ false → ⊥
not_preparing a e f = let k : is_state states.Preparing states.Preparing ≡ false = subst (λ x. is_state x states.Preparing ≡ false) e f in cc

durable_asked : (s : Superior) → AreIn Phase.Volatile s.volatile.state s.durable.state → is_state s.volatile.state states.Preparing ≡ false
    → AreIn Phase.Durable s.volatile.state s.durable.state
durable_asked s (inl (v, d)) e = absurd (not_preparing s.volatile.state v e)
durable_asked s (inr h) e = h

volatile_links : (m : Moment) (s : Option Superior) (g : Moving Transaction) → g.item.superior ≡ s → AreLinked Phase.Volatile s g.item.completion → Linked g.item → Links (volatile_answered m s g)
unfolding volatile_answered
volatile_links m None g e h k = go_durable_links m g (root_only Phase.Durable g.item.superior g.item.completion e)
volatile_links m (Some s) g e h k =
    either (is_state s.volatile.state states.Preparing) _ _ (λ i. ((tt, volatile_asked s h.0 i), h.1))
    (λ i. either (is_state s.durable.state states.Preparing) _ _
    (λ j. go_durable_links m g (subst (λ x. AreLinked Phase.Durable x g.item.completion) (sym e) (durable_asked s h.0 i, h.1))) (λ j. k))

all_committed_links : (m : Moment) (g : Moving Transaction) → Links (all_committed m g)
unfolding all_committed
all_committed_links m g = record { entry = tt; landed = tt; otherwise = tt }

advance_in_links : (m : Moment) (phase : Phase) (g : Moving Transaction) → g.item.phase ≡ phase → Linked g.item → Links (advance_in m phase g)
unfolding advance_in
advance_in_links m Phase.Registering g e h = h
advance_in_links m Phase.Active g e h = h
advance_in_links m Phase.Volatile g e h =
    either (answered kinds.Volatile g.item.seats) _ _ (λ k. volatile_links m g.item.superior g refl (subst (λ p. AreLinked p g.item.superior g.item.completion) e h) h) (λ k. h)
advance_in_links m Phase.Durable g e h = if_durable_links m g e (subst (λ p. AreLinked p g.item.superior g.item.completion) e h)
advance_in_links m Phase.Voted g e h = h
advance_in_links m Phase.Committing g e h = either (all_left g.item.seats) _ _ (λ k. all_committed_links m g) (λ k. h)
advance_in_links m Phase.Aborting g e h = rolled_back g h

go_volatile_links : (m : Moment) (g : Moving Transaction) → AreLinked Phase.Volatile g.item.superior g.item.completion → Links (go_volatile m g)
unfolding go_volatile
go_volatile_links m g h = advance_in_links m Phase.Volatile (prepare_seats m kinds.Volatile (become (in_phase Phase.Volatile g.item) g)) refl h

seat_advances : (m : Moment) (number : ℕ) (state : State) (t : Transaction) → Linked t → Links (advance m (begin (seat_in number state t)))
seat_advances m number state t h = advance_in_links m t.phase (begin (seat_in number state t)) refl h

commit_links : (m : Moment) (s : Superior) (t : Transaction) → s.volatile.state ≡ states.None → t.completion ≡ None → Links (commit_voted m s t)
unfolding commit_voted
commit_links m s t e f = record { entry = tt; landed = ((e, refl), f); otherwise = tt }

pub known : (t : Transaction) (s : Superior) → t.superior ≡ Some s → Linked t → AreIn t.phase s.volatile.state s.durable.state × (t.completion ≡ None)
known t s e h = let k : AreLinked t.phase (Some s) t.completion = subst (λ x. AreLinked t.phase x t.completion) e h in (k.0, k.1)

rooted : (t : Transaction) → Linked t → IsRootIf t.superior t.completion
rooted t h = root_if t.phase t.superior t.completion h

ruleset link_moves = (either, abort_links, rooted, seat_advances)

seat_act_links : (m : Moment) (i : Option (List ℕ)) (t : Transaction) (s : Enlistment) (act : Act) → Linked t → Links (seat_act m i t s act)
unfolding seat_act
seat_act_links m i t s acts.Ignore h = search link_moves
seat_act_links m i t s acts.SendPrepared h = search link_moves
seat_act_links m i t s acts.SendCommit h = search link_moves
seat_act_links m i t s acts.SendRollback h = search link_moves
seat_act_links m i t s acts.SendCommitted h = search link_moves
seat_act_links m i t s acts.SendAborted h = search link_moves
seat_act_links m i t s acts.FaultUnknownTransaction h = search link_moves
seat_act_links m i t s acts.FaultInvalidState h = search link_moves
seat_act_links m i t s acts.FaultInvalidStateAndAbort h = search link_moves
seat_act_links m i t s acts.Leave h = search link_moves
seat_act_links m i t s acts.LeaveAndAbort h = search link_moves
seat_act_links m i t s acts.Vote h = search link_moves
seat_act_links m i t s acts.Gather h = search link_moves
seat_act_links m i t s acts.Commit h = search link_moves
seat_act_links m i t s acts.AbortAndSendAborted h = search link_moves
seat_act_links m i t s acts.RecordAndSendAborted h = search link_moves
seat_act_links m i t s acts.Complete h = search link_moves
seat_act_links m i t s acts.TellCommitted h = search link_moves
seat_act_links m i t s acts.TellAborted h = search link_moves

seat_notice_links : (m : Moment) (i : Option (List ℕ)) (t : Transaction) (s : Enlistment) (c : Option Cell) → Linked t → Links (seat_notice m i t s c)
unfolding seat_notice
seat_notice_links m i t s None h = h
seat_notice_links m i t s (Some c) h = seat_act_links m i t s c.act h

pub seat_links : (m : Moment) (a : Arrived) (t : Transaction) (s : Enlistment) (x : Message) → Linked t → Links (on_seat m a t s x)
unfolding on_seat
seat_links m a t s (messages.Notice n) h = seat_notice_links m a.id t s (coordinator_of s.kind s.state n) h
seat_links m a t s other h = h

link_act_links : (m : Moment) (from : Option Epr) (i : Option (List ℕ)) (kind : Kind) (s : Superior) (t : Transaction) (act : Act) → t.superior ≡ Some s → Linked t → ActsAt (link_of kind s).state act
    → Links (link_act m from i kind s t act)
unfolding link_act
link_act_links m from i kind s t acts.Ignore e h k = search link_moves
link_act_links m from i kind s t acts.SendPrepared e h k = search link_moves
link_act_links m from i kind s t acts.SendCommit e h k = search link_moves
link_act_links m from i kind s t acts.SendRollback e h k = search link_moves
link_act_links m from i kind s t acts.SendCommitted e h k = search link_moves
link_act_links m from i kind s t acts.SendAborted e h k = search link_moves
link_act_links m from i kind s t acts.FaultUnknownTransaction e h k = search link_moves
link_act_links m from i kind s t acts.FaultInvalidState e h k = search link_moves
link_act_links m from i kind s t acts.FaultInvalidStateAndAbort e h k = search link_moves
link_act_links m from i kind s t acts.Leave e h k = search link_moves
link_act_links m from i kind s t acts.LeaveAndAbort e h k = search link_moves
link_act_links m from i kind s t acts.Vote e h k = search link_moves
link_act_links m from i kind s t acts.Gather e h k = go_volatile_links m (begin (under (asked kind s) t)) (asked_in t.phase kind s (known t s e h).0 k, (known t s e h).1)
link_act_links m from i kind s t acts.Commit e h k = commit_links m s t (voted_alone t.phase kind s (known t s e h).0 k) (known t s e h).1
link_act_links m from i kind s t acts.AbortAndSendAborted e h k = search link_moves
link_act_links m from i kind s t acts.RecordAndSendAborted e h k = record { entry = tt; landed = abort_links m (Asked kind from) (begin t) (root_if t.phase t.superior t.completion h); otherwise = tt }
link_act_links m from i kind s t acts.Complete e h k = search link_moves
link_act_links m from i kind s t acts.TellCommitted e h k = search link_moves
link_act_links m from i kind s t acts.TellAborted e h k = search link_moves

link_notice_links : (m : Moment) (from : Option Epr) (i : Option (List ℕ)) (kind : Kind) (s : Superior) (t : Transaction) (c : Option Cell) → t.superior ≡ Some s → Linked t → CellAt (link_of kind s).state c
    → Links (link_notice m from i kind s t c)
unfolding link_notice
link_notice_links m from i kind s t None e h k = h
link_notice_links m from i kind s t (Some c) e h k = link_act_links m from i kind s t c.act e h k

link_registered_links : (m : Moment) (relates : Option (List ℕ)) (coordinator : Epr) (kind : Kind) (s : Superior) (t : Transaction) → t.superior ≡ Some s → Linked t
    → Links (link_registered m relates coordinator kind s t)
unfolding link_registered
link_registered_links m relates coordinator kind s t e h =
    let waits : Bool = is_state (link_of kind s).state states.Registering in
    let answers : Bool = relates_to relates (register_id m.base (targets.Participant t.id kind)) in
    either (waits && answers) (Goes (stays (begin (record t { superior = Some (joined kind coordinator s); phase = registered (joined kind coordinator s) t.phase })))) (ignored t)
    (λ k. (registered_in t.phase kind coordinator s (known t s e h).0 (first_true waits answers k), (known t s e h).1)) (λ k. h)

link_fault_links : (m : Moment) (relates : Option (List ℕ)) (kind : Kind) (s : Superior) (t : Transaction) → Linked t → Links (link_fault m relates kind s t)
unfolding link_fault
link_fault_links m relates kind s t h = search (either, abort_links, rooted)

pub link_links : (m : Moment) (a : Arrived) (kind : Kind) (t : Transaction) (s : Superior) (x : Message) → t.superior ≡ Some s → Linked t → Links (on_link m a kind t s x)
unfolding on_link
link_links m a kind t s (messages.Notice n) e h = link_notice_links m a.from a.id kind s t (participant_of kind (link_of kind s).state n) e h (table_acts kind (link_of kind s).state n)
link_links m a kind t s (messages.RegisterResponse coordinator) e h = link_registered_links m a.relates coordinator kind s t e h
link_links m a kind t s (messages.Fault name) e h = link_fault_links m a.relates kind s t h
link_links m a kind t s other e h = h

completion_act_links : (m : Moment) (from : Option Epr) (i : Option (List ℕ)) (c : Completion) (t : Transaction) (act : Act) → t.completion ≡ Some c → Linked t → Links (completion_act m from i c t act)
unfolding completion_act
completion_act_links m from i c t acts.SendCommitted e h = h
completion_act_links m from i c t acts.FaultUnknownTransaction e h = h
completion_act_links m from i c t acts.FaultInvalidState e h = h
completion_act_links m from i c t acts.Complete e h =
    go_volatile_links m (begin (record t { completion = Some (record c { state = states.Completing }) }))
    (root_only Phase.Volatile t.superior (Some (record c { state = states.Completing })) (root_alone t.phase t.superior t.completion c h e))
completion_act_links m from i c t acts.AbortAndSendAborted e h = abort_links m Alone (begin t) (root_if t.phase t.superior t.completion h)
completion_act_links m from i c t other e h = h

completion_notice_links : (m : Moment) (from : Option Epr) (i : Option (List ℕ)) (c : Completion) (t : Transaction) (cell : Option Cell) → t.completion ≡ Some c → Linked t → Links (completion_notice m from i c t cell)
unfolding completion_notice
completion_notice_links m from i c t None e h = h
completion_notice_links m from i c t (Some cell) e h = completion_act_links m from i c t cell.act e h

pub completion_links : (m : Moment) (a : Arrived) (t : Transaction) (c : Completion) (x : Message) → t.completion ≡ Some c → Linked t → Links (on_completion m a t c x)
unfolding on_completion
completion_links m a t c (messages.Notice n) e h = completion_notice_links m a.from a.id c t (completion_of c.state n) e h
completion_links m a t c other e h = h

pub due_links : (m : Moment) (t : Transaction) (reached : Reached) → Linked t → Links (transaction_reached m t reached)
unfolding transaction_reached
due_links m t Expired h = abort_links m Alone (begin t) (root_if t.phase t.superior t.completion h)
due_links m t Over h = tt
due_links m t Unanswered h = h
due_links m t Nothing h = h

-- the answer to a request
unrequested_links : (s : Superior) (t : Transaction) → t.superior ≡ Some s → Linked t → Linked (under (request_answered s) t)
unrequested_links s t e h = known t s e h

pub with_answer_links : (m : Moment) (t : Transaction) (d : Decision Transaction) → Links d → Links (with_answer m t d)
with_answer_links m t d h = with_answer_has (IfThere Linked) AnyRecord unrequested_links (λ r s x e k. tt) m t d h
