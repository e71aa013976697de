-- Past Registering a subordinate knows a coordinator: a decision keeps it so.
use Rattle.std.specs.Prelude.{ℕ, List, [], ◌∷◌, Option, Some, None, Bool, true, false, is_none, ◌≡◌, refl, if◌then◌else◌, ◌&&◌, bytes_eq, nat_lt}
use Rattle.std.specs.List.{list_any, AllByRecursion}
use Rattle.std.proofs.Common.{sym, subst}
use Rattle.at_base.specs.declared.limits.TheConstants.{MOST_ITEMS}
use Rattle.at_base.specs.Numbers.{Numbers}
use Rattle.at_base.specs.declared.epr.Epr.{Epr}
use Rattle.at_base.specs.declared.epr.Reply.{Reply}
use Rattle.at_base.specs.declared.epr.Reply.TheVariants as replies
use Rattle.at_base.specs.declared.notice.Kind.{Kind}
use Rattle.at_base.specs.declared.notice.Kind.TheVariants as kinds
use Rattle.at_base.specs.declared.message.Context.{Context}
use Rattle.at_base.specs.declared.message.Create.{Create}
use Rattle.at_base.specs.declared.message.Message.{Message}
use Rattle.at_base.specs.declared.message.Message.TheVariants as messages
use Rattle.at_base.specs.declared.record.Record.{Record}
use Rattle.at_base.specs.declared.record.Record.TheVariants as records
use Rattle.at_base.specs.declared.record.Seated.{Seated}
use Rattle.at_base.specs.declared.event.Arrived.{Arrived}
use Rattle.at_base.specs.declared.event.Moment.{Moment}
use Rattle.at_base.specs.declared.target.Target.TheVariants as targets
use Rattle.at_tables.specs.declared.cells.State.{State}
use Rattle.at_tables.specs.declared.cells.State.TheVariants as states
use Rattle.at_tables.specs.declared.cells.Act.{Act}
use Rattle.at_tables.specs.declared.cells.Act.TheVariants as acts
use Rattle.at_tables.specs.declared.cells.Cell.{Cell}
use Rattle.at_tables.specs.Names.{is_state}
use Rattle.at_tables.specs.Tables.{coordinator_of, participant_of, completion_of}
use Rattle.at_model.specs.Book.{Completion, Enlistment, Phase, Superior, Transaction}
use Rattle.endpoints.specs.Addresses.{atomic, register_id}
use Rattle.at_model.specs.Moves.{Moving, Decision, Goes, begin, become, stays, forgotten, ignored}
use Rattle.at_model.specs.Seats.{answered, all_left, in_phase, in_state, is_prepared_durable, link_of, seat_in, set_link, under}
use Rattle.at_model.specs.Abort.{Reason, Alone, Asked, until_rolled_back, abort, without_links}
use Rattle.at_model.specs.Phases.{decided, committed, root_answered, voted, sub_answered, durable_answered, if_durable_answered, prepare_seats, go_durable, volatile_answered, all_committed, advance_in, advance, go_volatile}
use Rattle.at_model.specs.Arrivals.{asked, seat_act, seat_notice, commit_voted, link_act, link_notice, completion_act, completion_notice, link_registered, link_fault, on_link, on_seat, on_completion, registered, relates_to, request_answered, with_answer}
use Rattle.at_model.specs.Create.{create_in, create_under, on_create, refuse_create}
use Rattle.at_model.specs.Due.{Reached, Expired, Over, Unanswered, Nothing, transaction_reached}
use Rattle.at_model.specs.Recovery.{recovered_voted, transactions_of, is_sub_committed}
use Rattle.model_laws.specs.Links.{AreLinked}
use Rattle.model_laws.proofs.ParticipantTable.{ActsAt, CellAt, table_acts}
use Rattle.model_laws.proofs.DecisionLaws.{DecisionHas, IfThere, either_has, either_change, either_of, with_answer_has}
use Rattle.model_laws.proofs.LinkDecisions.{AnyRecord, Linked, has_voted, known}
use Rattle.settling.specs.Order.{HasJoined, JoinsFirst, KnowsAt, KnowsOne}

abbrev pub Joined : Transaction → Type 0
Joined t = JoinsFirst t.phase t.superior

abbrev pub Joins : Decision Transaction → Type 0
Joins d = DecisionHas (IfThere Joined) AnyRecord d

either : (b : Bool) (d e : Decision Transaction) → (b ≡ true → Joins d) → (b ≡ false → Joins e) → Joins (if b then d else e)
either b d e h k = either_has (IfThere Joined) AnyRecord b d e h k

-- one that is past Registering
abbrev Past : Option Superior → Type 0
Past None = Unit {0}
Past (Some s) = KnowsAt s.volatile.state s.volatile.coordinator × KnowsAt s.durable.state s.durable.coordinator × KnowsOne s

in_any : (phase : Phase) (s : Superior) → KnowsOne s → HasJoined phase s
in_any Phase.Registering s h = tt
in_any Phase.Aborting s h = tt
in_any other s h = h

in_past : (phase : Phase) (o : Option Superior) → Past o → JoinsFirst phase o
in_past phase None h = tt
in_past phase (Some s) (v, d, k) = (v, d, in_any phase s k)

past_volatile : (o : Option Superior) → JoinsFirst Phase.Volatile o → Past o
past_volatile None h = tt
past_volatile (Some s) h = h

past_durable : (o : Option Superior) → JoinsFirst Phase.Durable o → Past o
past_durable None h = tt
past_durable (Some s) h = h

aborted_joined : (o : Option Superior) → JoinsFirst Phase.Aborting (without_links o)
aborted_joined None = tt
aborted_joined (Some s) = (tt, tt, tt)

rolled_back : (g : Moving Transaction) → Joined g.item → IfThere Joined (until_rolled_back g).item
rolled_back g h = either_change (IfThere Joined) (list_any (in_state states.Aborting) g.item.seats) (stays g) (forgotten g) h tt

abort_joined : (m : Moment) (reason : Reason) (g : Moving Transaction) → IfThere Joined (abort m reason g).item
unfolding abort
abort_joined m reason g = search (rolled_back, aborted_joined)

root_joined : (m : Moment) (g : Moving Transaction) → Past g.item.superior → Joins (root_answered m g)
unfolding root_answered committed decided
root_joined m g h = record {
  entry = tt;
  landed = either_change (IfThere Joined) (list_any is_prepared_durable g.item.seats) (stays (decided m g)) (forgotten (decided m g)) (in_past Phase.Committing g.item.superior h) tt;
  otherwise = abort_joined m Alone g;
}

sub_joined : (m : Moment) (s : Superior) (superior : Option Epr) (g : Moving Transaction) → Past (Some s) → Joins (sub_answered m s superior g)
unfolding sub_answered voted
sub_joined m s None g h = abort_joined m Alone g
sub_joined m s (Some superior) g (v, d, k) =
    either (list_any is_prepared_durable g.item.seats) _ _ (λ i. record { entry = tt; landed = (v, tt, k); otherwise = abort_joined m Alone g }) (λ i. tt)

durable_joined : (m : Moment) (s : Option Superior) (g : Moving Transaction) → g.item.superior ≡ s → Past s → Joins (durable_answered m s g)
durable_joined m None g e h = root_joined m g (subst Past (sym e) h)
durable_joined m (Some s) g e h = sub_joined m s s.durable.coordinator g h

if_durable_joined : (m : Moment) (g : Moving Transaction) → Past g.item.superior → Joins (if_durable_answered m g)
if_durable_joined m g h = either (answered kinds.Durable g.item.seats) _ _ (λ k. durable_joined m g.item.superior g refl h) (λ k. in_past g.item.phase g.item.superior h)

go_durable_joined : (m : Moment) (g : Moving Transaction) → Past g.item.superior → Joins (go_durable m g)
unfolding go_durable
go_durable_joined m g h = if_durable_joined m (prepare_seats m kinds.Durable (become (in_phase Phase.Durable g.item) g)) h

volatile_joined : (m : Moment) (s : Option Superior) (g : Moving Transaction) → g.item.superior ≡ s → Past s → Joins (volatile_answered m s g)
unfolding volatile_answered
volatile_joined m None g e h = go_durable_joined m g (subst Past (sym e) h)
volatile_joined m (Some s) g e (v, d, k) =
    either (is_state s.volatile.state states.Preparing) _ _ (λ i. (tt, d, k))
    (λ i. either (is_state s.durable.state states.Preparing) _ _ (λ j. go_durable_joined m g (subst Past (sym e) (v, d, k)))
    (λ j. in_past g.item.phase g.item.superior (subst Past (sym e) (v, d, k))))

advance_joined : (m : Moment) (phase : Phase) (g : Moving Transaction) → g.item.phase ≡ phase → Joined g.item → Joins (advance_in m phase g)
unfolding advance_in all_committed
advance_joined m Phase.Registering g e h = h
advance_joined m Phase.Active g e h = h
advance_joined m Phase.Volatile g e h =
    either (answered kinds.Volatile g.item.seats) _ _
    (λ k. volatile_joined m g.item.superior g refl (past_volatile g.item.superior (subst (λ p. JoinsFirst p g.item.superior) e h))) (λ k. h)
advance_joined m Phase.Durable g e h = if_durable_joined m g (past_durable g.item.superior (subst (λ p. JoinsFirst p g.item.superior) e h))
advance_joined m Phase.Voted g e h = h
advance_joined m Phase.Committing g e h = either (all_left g.item.seats) _ _ (λ k. record { entry = tt; landed = tt; otherwise = tt }) (λ k. h)
advance_joined m Phase.Aborting g e h = rolled_back g h

go_volatile_joined : (m : Moment) (g : Moving Transaction) → Past g.item.superior → Joins (go_volatile m g)
unfolding go_volatile
go_volatile_joined m g h = advance_joined m Phase.Volatile (prepare_seats m kinds.Volatile (become (in_phase Phase.Volatile g.item) g)) refl (in_past Phase.Volatile g.item.superior h)

seat_advances : (m : Moment) (number : ℕ) (state : State) (t : Transaction) → Joined t → Joins (advance m (begin (seat_in number state t)))
seat_advances m number state t h = advance_joined m t.phase (begin (seat_in number state t)) refl h

ruleset join_moves = (either, abort_joined, seat_advances)

seat_act_joined : (m : Moment) (i : Option (List ℕ)) (t : Transaction) (s : Enlistment) (act : Act) → Joined t → Joins (seat_act m i t s act)
unfolding seat_act
seat_act_joined m i t s acts.SendRollback h = search join_moves
seat_act_joined m i t s acts.FaultInvalidStateAndAbort h = search join_moves
seat_act_joined m i t s acts.Leave h = search join_moves
seat_act_joined m i t s acts.LeaveAndAbort h = search join_moves
seat_act_joined m i t s acts.Vote h = search join_moves
seat_act_joined m i t s other h = h

seat_notice_joined : (m : Moment) (i : Option (List ℕ)) (t : Transaction) (s : Enlistment) (c : Option Cell) → Joined t → Joins (seat_notice m i t s c)
unfolding seat_notice
seat_notice_joined m i t s None h = h
seat_notice_joined m i t s (Some c) h = seat_act_joined m i t s c.act h

pub seat_joined : (m : Moment) (a : Arrived) (t : Transaction) (s : Enlistment) (x : Message) → Joined t → Joins (on_seat m a t s x)
unfolding on_seat
seat_joined m a t s (messages.Notice n) h = seat_notice_joined m a.id t s (coordinator_of s.kind s.state n) h
seat_joined m a t s other h = h

-- links
joined_as : (t : Transaction) (s : Superior) → t.superior ≡ Some s → Joined t → JoinsFirst t.phase (Some s)
joined_as t s e h = subst (JoinsFirst t.phase) e h

one_known : (a b : Bool) → a ≡ false → (a && b) ≡ false
one_known true b e = absurd cc
one_known false b e = refl

other_known : (a b : Bool) → b ≡ false → (a && b) ≡ false
other_known true b e = e
other_known false b e = refl

asked_past : (kind : Kind) (s : Superior) (phase : Phase) → JoinsFirst phase (Some s) → (link_of kind s).state ≡ states.Active → Past (Some (asked kind s))
asked_past kinds.Volatile s phase (v, d, k) e =
    let knows : is_none s.volatile.coordinator ≡ false = subst (λ x. KnowsAt x s.volatile.coordinator) e v in
    (tt, d, one_known (is_none s.volatile.coordinator) (is_none s.durable.coordinator) knows)
asked_past kinds.Durable s phase (v, d, k) e =
    let knows : is_none s.durable.coordinator ≡ false = subst (λ x. KnowsAt x s.durable.coordinator) e d in
    (tt, tt, other_known (is_none s.volatile.coordinator) (is_none s.durable.coordinator) knows)

commit_joined : (m : Moment) (s : Superior) (t : Transaction) → t.phase ≡ Phase.Voted → JoinsFirst t.phase (Some s) → Joins (commit_voted m s t)
unfolding commit_voted
commit_joined m s t e h = let k : JoinsFirst Phase.Voted (Some s) = subst (λ p. JoinsFirst p (Some s)) e h in record { entry = tt; landed = (k.0, tt, k.2); otherwise = tt }

link_act_joined : (m : Moment) (from : Option Epr) (i : Option (List ℕ)) (kind : Kind) (s : Superior) (t : Transaction) (act : Act) → t.superior ≡ Some s → Linked t → Joined t
    → ActsAt (link_of kind s).state act → Joins (link_act m from i kind s t act)
unfolding link_act
link_act_joined m from i kind s t acts.FaultInvalidStateAndAbort e l h k = search join_moves
link_act_joined m from i kind s t acts.Gather e l h k = go_volatile_joined m (begin (under (asked kind s) t)) (asked_past kind s t.phase (joined_as t s e h) k)
link_act_joined m from i kind s t acts.Commit e l h k = commit_joined m s t (has_voted t.phase kind s (known t s e l).0 k) (joined_as t s e h)
link_act_joined m from i kind s t acts.AbortAndSendAborted e l h k = abort_joined m (Asked kind from) (begin t)
link_act_joined m from i kind s t acts.RecordAndSendAborted e l h k = record { entry = tt; landed = abort_joined m (Asked kind from) (begin t); otherwise = tt }
link_act_joined m from i kind s t other e l h k = h

link_notice_joined : (m : Moment) (from : Option Epr) (i : Option (List ℕ)) (kind : Kind) (s : Superior) (t : Transaction) (c : Option Cell) → t.superior ≡ Some s → Linked t → Joined t
    → CellAt (link_of kind s).state c → Joins (link_notice m from i kind s t c)
unfolding link_notice
link_notice_joined m from i kind s t None e l h k = h
link_notice_joined m from i kind s t (Some c) e l h k = link_act_joined m from i kind s t c.act e l h k

answered_past : (kind : Kind) (coordinator : Epr) (s : Superior) (phase : Phase) → JoinsFirst phase (Some s) → Past (Some (set_link kind (record { state = states.Active; coordinator = Some coordinator }) s))
answered_past kinds.Volatile coordinator s phase (v, d, k) = (refl, d, refl)
answered_past kinds.Durable coordinator s phase (v, d, k) = (v, refl, other_known (is_none s.volatile.coordinator) false refl)

link_registered_joined : (m : Moment) (relates : Option (List ℕ)) (coordinator : Epr) (kind : Kind) (s : Superior) (t : Transaction) → t.superior ≡ Some s → Joined t
    → Joins (link_registered m relates coordinator kind s t)
unfolding link_registered
link_registered_joined m relates coordinator kind s t e h =
    let new : Superior = set_link kind (record { state = states.Active; coordinator = Some coordinator }) s in
    either (is_state (link_of kind s).state states.Registering && relates_to relates (register_id m.base (targets.Participant t.id kind)))
    (Goes (stays (begin (record t { superior = Some new; phase = registered new t.phase })))) (ignored t)
    (λ k. in_past (registered new t.phase) (Some new) (answered_past kind coordinator s t.phase (joined_as t s e h))) (λ k. h)

link_fault_joined : (m : Moment) (relates : Option (List ℕ)) (kind : Kind) (s : Superior) (t : Transaction) → Joined t → Joins (link_fault m relates kind s t)
unfolding link_fault
link_fault_joined m relates kind s t h = search (either, abort_joined)

pub link_joined : (m : Moment) (a : Arrived) (kind : Kind) (t : Transaction) (s : Superior) (x : Message) → t.superior ≡ Some s → Linked t → Joined t → Joins (on_link m a kind t s x)
unfolding on_link
link_joined m a kind t s (messages.Notice n) e l h =
    link_notice_joined m a.from a.id kind s t (participant_of kind (link_of kind s).state n) e l h (table_acts kind (link_of kind s).state n)
link_joined m a kind t s (messages.RegisterResponse coordinator) e l h = link_registered_joined m a.relates coordinator kind s t e h
link_joined m a kind t s (messages.Fault name) e l h = link_fault_joined m a.relates kind s t h
link_joined m a kind t s other e l h = h

-- the completion seat
root_past : (phase : Phase) (s : Option Superior) (c : Option Completion) (initiator : Completion) → AreLinked phase s c → c ≡ Some initiator → Past s
root_past phase None c initiator h e = tt
root_past phase (Some s) c initiator h e = let f : c ≡ None = h.1 in absurd (no_both c initiator f e)
  where
    no_both : (o : Option Completion) (i : Completion) → o ≡ None → o ≡ Some i → ⊥
    no_both o i f g = cc

completion_act_joined : (m : Moment) (from : Option Epr) (i : Option (List ℕ)) (c : Completion) (t : Transaction) (act : Act) → t.completion ≡ Some c → Linked t → Joined t
    → Joins (completion_act m from i c t act)
unfolding completion_act
completion_act_joined m from i c t acts.Complete e l h =
    go_volatile_joined m (begin (record t { completion = Some (record c { state = states.Completing }) })) (root_past t.phase t.superior t.completion c l e)
completion_act_joined m from i c t acts.AbortAndSendAborted e l h = abort_joined m Alone (begin t)
completion_act_joined m from i c t other e l h = h

completion_notice_joined : (m : Moment) (from : Option Epr) (i : Option (List ℕ)) (c : Completion) (t : Transaction) (cell : Option Cell) → t.completion ≡ Some c → Linked t → Joined t
    → Joins (completion_notice m from i c t cell)
unfolding completion_notice
completion_notice_joined m from i c t None e l h = h
completion_notice_joined m from i c t (Some cell) e l h = completion_act_joined m from i c t cell.act e l h

pub completion_joined : (m : Moment) (a : Arrived) (t : Transaction) (c : Completion) (x : Message) → t.completion ≡ Some c → Linked t → Joined t → Joins (on_completion m a t c x)
unfolding on_completion
completion_joined m a t c (messages.Notice n) e l h = completion_notice_joined m a.from a.id c t (completion_of c.state n) e l h
completion_joined m a t c other e l h = h

pub due_joined : (m : Moment) (t : Transaction) (reached : Reached) → Joined t → Joins (transaction_reached m t reached)
unfolding transaction_reached
due_joined m t Expired h = abort_joined m Alone (begin t)
due_joined m t Over h = tt
due_joined m t Unanswered h = h
due_joined m t Nothing h = h

unrequested : (phase : Phase) (s : Superior) → HasJoined phase s → HasJoined phase (request_answered s)
unrequested Phase.Registering s h = tt
unrequested Phase.Aborting s h = tt
unrequested other s h = h

pub with_answer_joined : (m : Moment) (t : Transaction) (d : Decision Transaction) → Joins d → Joins (with_answer m t d)
with_answer_joined m t d h = with_answer_has (IfThere Joined) AnyRecord (λ s x e k. let j : JoinsFirst x.phase (Some s) = joined_as x s e k in (j.0, j.1, unrequested x.phase s j.2)) (λ r s x e k. tt) m t d h

-- what is made, and what is recovered
under_joined : (m : Moment) (id : Numbers) (a : Arrived) (c : Create) (current : Context) (r : Reply) → IfThere Joined (create_under m id a c current r).transaction
unfolding create_under
under_joined m id a c current (replies.At reply) = (tt, tt, tt)
under_joined m id a c current replies.Anonymous = tt
under_joined m id a c current replies.Nobody = tt

in_joined : (m : Moment) (id : Numbers) (a : Arrived) (c : Create) (current : Option Context) → IfThere Joined (create_in m id a c current).transaction
unfolding create_in
in_joined m id a c None = tt
in_joined m id a c (Some current) = under_joined m id a c current a.reply

pub created_joined : (m : Moment) (live : ℕ) (a : Arrived) (c : Create) (id : Numbers) (t : Transaction) → (on_create m live a c (Some id)).transaction ≡ Some t → Joined t
unfolding on_create
created_joined m live a c id t e =
    subst (IfThere Joined) e
    (either_of (λ x. IfThere Joined x.transaction) (bytes_eq c.coordination atomic && nat_lt live MOST_ITEMS) (create_in m id a c c.current) (refuse_create a)
    (λ k. in_joined m id a c c.current) (λ k. tt))

voted_joined : (id : Numbers) (superior : Epr) (seats : List Seated) (committed : Bool) → Joined (recovered_voted id superior seats committed)
voted_joined id superior seats true = (tt, tt, refl)
voted_joined id superior seats false = (tt, tt, refl)

pub records_joined : (base : List ℕ) (rs : List Record) → AllByRecursion Joined (transactions_of base rs)
records_joined base [] = tt
records_joined base (records.Voted id superior seats ∷ rest) = (voted_joined id superior seats (list_any (is_sub_committed id) rest), records_joined base rest)
records_joined base (records.Decided id seats ∷ rest) = (tt, records_joined base rest)
records_joined base (other ∷ rest) = records_joined base rest
