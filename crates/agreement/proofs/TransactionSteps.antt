-- A transaction's step is undone where a subordinate's outcome or an end isn't recorded, and nowhere else.
use Rattle.std.specs.Prelude.{ℕ, List, Option, Some, None, Bool, true, false, ◌≡◌, ◌⊎◌, refl, if◌then◌else◌}
use Rattle.std.proofs.Common.{inl, inr, sym, subst, ap}
use Rattle.std.specs.List.{list_any}
use Rattle.at_base.specs.Numbers.{Numbers}
use Rattle.at_base.specs.declared.epr.Epr.{Epr}
use Rattle.at_base.specs.declared.notice.Kind.{Kind}
use Rattle.at_base.specs.declared.notice.Kind.TheVariants as kinds
use Rattle.at_base.specs.declared.message.Message.{Message}
use Rattle.at_base.specs.declared.message.Message.TheVariants as messages
use Rattle.at_base.specs.declared.record.Record.{Record}
use Rattle.at_base.specs.declared.record.Record.TheVariants as records
use Rattle.at_base.specs.declared.event.Arrived.{Arrived}
use Rattle.at_base.specs.declared.event.Event.{Event}
use Rattle.at_base.specs.declared.event.Moment.{Moment}
use Rattle.at_tables.specs.declared.cells.State.TheVariants as states
use Rattle.at_tables.specs.declared.cells.Act.{Act}
use Rattle.at_tables.specs.declared.cells.Act.TheVariants as acts
use Rattle.at_tables.specs.declared.cells.Cell.{Cell}
use Rattle.at_tables.specs.Names.{is_state}
use Rattle.at_tables.specs.Tables.{coordinator_of, completion_of}
use Rattle.at_model.specs.Book.{Book, Transaction, Enlistment, Completion, Superior, Phase}
use Rattle.at_model.specs.Moves.{Change, Moving, Decision, Goes, Records, become, in_both}
use Rattle.at_model.specs.Seats.{answered, all_left, in_state, is_prepared_durable, in_phase}
use Rattle.at_model.specs.Phases.{root_answered, sub_answered, durable_answered, if_durable_answered, prepare_seats, go_durable, volatile_answered, all_committed, advance_in, go_volatile}
use Rattle.at_model.specs.Arrivals.{seat_act, seat_notice, commit_voted, link_act, link_notice, completion_act, completion_notice, link_registered, link_fault, on_link, on_seat, on_completion, with_answer}
use Rattle.at_model.specs.Due.{Reached, Expired, Over, Unanswered, Nothing, transaction_reached}
use Rattle.at_model.specs.Step.{at_time, moment_of, put_transaction}
use Rattle.model_laws.specs.Shapes.{MovesTransaction, at_seat, at_link, at_completion, when_due}
use Rattle.agreement.specs.Branches.{InBranches}
use Rattle.agreement.specs.Deeds.{Deed, Deeds}
use Rattle.agreement.specs.TransactionSteps.{WaitsOn, TransactionsStep}
use Rattle.agreement.proofs.TransactionEvents.{transactions_do}
use Rattle.agreement.proofs.Branches.{became}

-- what an undone step didn't record
abbrev Undone : Numbers → Decision Transaction → Type 0
Undone id (Goes c) = Unit {0}
Undone id (Records r c None) = (r ≡ records.SubCommitted id) ⊎ (r ≡ records.Ended id)
Undone id (Records r c (Some d)) = Unit {0}

either : (id : Numbers) (b : Bool) (d e : Decision Transaction) → Undone id d → Undone id e → Undone id (if b then d else e)
either id true d e h k = h
either id false d e h k = k

root_undone : (id : Numbers) (m : Moment) (g : Moving Transaction) → Undone id (root_answered m g)
unfolding root_answered
root_undone id m g = tt

sub_undone : (id : Numbers) (m : Moment) (s : Superior) (superior : Option Epr) (g : Moving Transaction) → Undone id (sub_answered m s superior g)
unfolding sub_answered
sub_undone id m s None g = tt
sub_undone id m s (Some superior) g = either id (list_any is_prepared_durable g.item.seats) _ _ tt tt

durable_undone : (id : Numbers) (m : Moment) (s : Option Superior) (g : Moving Transaction) → Undone id (durable_answered m s g)
durable_undone id m None g = root_undone id m g
durable_undone id m (Some s) g = sub_undone id m s s.durable.coordinator g

if_durable_undone : (id : Numbers) (m : Moment) (g : Moving Transaction) → Undone id (if_durable_answered m g)
if_durable_undone id m g = either id (answered kinds.Durable g.item.seats) _ _ (durable_undone id m g.item.superior g) tt

go_durable_undone : (id : Numbers) (m : Moment) (g : Moving Transaction) → Undone id (go_durable m g)
unfolding go_durable
go_durable_undone id m g = if_durable_undone id m (prepare_seats m kinds.Durable (become (in_phase Phase.Durable g.item) g))

volatile_undone : (id : Numbers) (m : Moment) (s : Option Superior) (g : Moving Transaction) → Undone id (volatile_answered m s g)
unfolding volatile_answered
volatile_undone id m None g = go_durable_undone id m g
volatile_undone id m (Some s) g =
    either id (is_state s.volatile.state states.Preparing) _ _ tt
    (either id (is_state s.durable.state states.Preparing) _ _ (go_durable_undone id m g) tt)

ended_undone : (id : Numbers) (m : Moment) (g : Moving Transaction) → g.item.id ≡ id → Undone id (all_committed m g)
unfolding all_committed
ended_undone id m g h = inr (ap (λ i. records.Ended i) h)

advance_undone : (id : Numbers) (m : Moment) (phase : Phase) (g : Moving Transaction) → g.item.id ≡ id → Undone id (advance_in m phase g)
unfolding advance_in
advance_undone id m Phase.Registering g h = tt
advance_undone id m Phase.Active g h = tt
advance_undone id m Phase.Volatile g h = either id (answered kinds.Volatile g.item.seats) _ _ (volatile_undone id m g.item.superior g) tt
advance_undone id m Phase.Durable g h = if_durable_undone id m g
advance_undone id m Phase.Voted g h = tt
advance_undone id m Phase.Committing g h = either id (all_left g.item.seats) _ _ (ended_undone id m g h) tt
advance_undone id m Phase.Aborting g h = tt

go_volatile_undone : (id : Numbers) (m : Moment) (g : Moving Transaction) → g.item.id ≡ id → Undone id (go_volatile m g)
unfolding go_volatile
go_volatile_undone id m g h = advance_undone id m _ _ h

commit_undone : (id : Numbers) (m : Moment) (s : Superior) (t : Transaction) → t.id ≡ id → Undone id (commit_voted m s t)
unfolding commit_voted
commit_undone id m s t h = inl (ap (λ i. records.SubCommitted i) h)

seat_act_undone : (id : Numbers) (m : Moment) (i : Option (List ℕ)) (t : Transaction) (s : Enlistment) (act : Act) → t.id ≡ id → Undone id (seat_act m i t s act)
unfolding seat_act
seat_act_undone id m i t s acts.Ignore h = tt
seat_act_undone id m i t s acts.SendPrepared h = tt
seat_act_undone id m i t s acts.SendCommit h = tt
seat_act_undone id m i t s acts.SendRollback h = either id (in_state states.None s) _ _ tt tt
seat_act_undone id m i t s acts.SendCommitted h = tt
seat_act_undone id m i t s acts.SendAborted h = tt
seat_act_undone id m i t s acts.FaultUnknownTransaction h = tt
seat_act_undone id m i t s acts.FaultInvalidState h = tt
seat_act_undone id m i t s acts.FaultInvalidStateAndAbort h = tt
seat_act_undone id m i t s acts.Leave h = advance_undone id m _ _ h
seat_act_undone id m i t s acts.LeaveAndAbort h = tt
seat_act_undone id m i t s acts.Vote h = advance_undone id m _ _ h
seat_act_undone id m i t s acts.Gather h = tt
seat_act_undone id m i t s acts.Commit h = tt
seat_act_undone id m i t s acts.AbortAndSendAborted h = tt
seat_act_undone id m i t s acts.RecordAndSendAborted h = tt
seat_act_undone id m i t s acts.Complete h = tt
seat_act_undone id m i t s acts.TellCommitted h = tt
seat_act_undone id m i t s acts.TellAborted h = tt

seat_notice_undone : (id : Numbers) (m : Moment) (i : Option (List ℕ)) (t : Transaction) (s : Enlistment) (c : Option Cell) → t.id ≡ id → Undone id (seat_notice m i t s c)
unfolding seat_notice
seat_notice_undone id m i t s None h = tt
seat_notice_undone id m i t s (Some c) h = seat_act_undone id m i t s c.act h

seat_undone : (id : Numbers) (m : Moment) (a : Arrived) (t : Transaction) (s : Enlistment) (x : Message) → t.id ≡ id → Undone id (on_seat m a t s x)
unfolding on_seat
seat_undone id m a t s (messages.Notice n) h = seat_notice_undone id m a.id t s (coordinator_of s.kind s.state n) h
seat_undone id m a t s other h = tt

link_act_undone : (id : Numbers) (m : Moment) (from : Option Epr) (i : Option (List ℕ)) (kind : Kind) (s : Superior) (t : Transaction) (act : Act) → t.id ≡ id
    → Undone id (link_act m from i kind s t act)
unfolding link_act
link_act_undone id m from i kind s t acts.Ignore h = tt
link_act_undone id m from i kind s t acts.SendPrepared h = tt
link_act_undone id m from i kind s t acts.SendCommit h = tt
link_act_undone id m from i kind s t acts.SendRollback h = tt
link_act_undone id m from i kind s t acts.SendCommitted h = tt
link_act_undone id m from i kind s t acts.SendAborted h = tt
link_act_undone id m from i kind s t acts.FaultUnknownTransaction h = tt
link_act_undone id m from i kind s t acts.FaultInvalidState h = tt
link_act_undone id m from i kind s t acts.FaultInvalidStateAndAbort h = tt
link_act_undone id m from i kind s t acts.Leave h = tt
link_act_undone id m from i kind s t acts.LeaveAndAbort h = tt
link_act_undone id m from i kind s t acts.Vote h = tt
link_act_undone id m from i kind s t acts.Gather h = go_volatile_undone id m _ h
link_act_undone id m from i kind s t acts.Commit h = commit_undone id m s t h
link_act_undone id m from i kind s t acts.AbortAndSendAborted h = tt
link_act_undone id m from i kind s t acts.RecordAndSendAborted h = inr (ap (λ x. records.Ended x) h)
link_act_undone id m from i kind s t acts.Complete h = tt
link_act_undone id m from i kind s t acts.TellCommitted h = tt
link_act_undone id m from i kind s t acts.TellAborted h = tt

link_notice_undone : (id : Numbers) (m : Moment) (from : Option Epr) (i : Option (List ℕ)) (kind : Kind) (s : Superior) (t : Transaction) (c : Option Cell) → t.id ≡ id
    → Undone id (link_notice m from i kind s t c)
unfolding link_notice
link_notice_undone id m from i kind s t None h = tt
link_notice_undone id m from i kind s t (Some c) h = link_act_undone id m from i kind s t c.act h

link_registered_undone : (id : Numbers) (m : Moment) (relates : Option (List ℕ)) (coordinator : Epr) (kind : Kind) (s : Superior) (t : Transaction)
    → Undone id (link_registered m relates coordinator kind s t)
unfolding link_registered
link_registered_undone id m relates coordinator kind s t = search either

link_fault_undone : (id : Numbers) (m : Moment) (relates : Option (List ℕ)) (kind : Kind) (s : Superior) (t : Transaction) → Undone id (link_fault m relates kind s t)
unfolding link_fault
link_fault_undone id m relates kind s t = search either

link_undone : (id : Numbers) (m : Moment) (a : Arrived) (kind : Kind) (t : Transaction) (s : Superior) (x : Message) → t.id ≡ id → Undone id (on_link m a kind t s x)
unfolding on_link
link_undone id m a kind t s (messages.Notice n) h = link_notice_undone id m a.from a.id kind s t _ h
link_undone id m a kind t s (messages.RegisterResponse coordinator) h = link_registered_undone id m a.relates coordinator kind s t
link_undone id m a kind t s (messages.Fault name) h = link_fault_undone id m a.relates kind s t
link_undone id m a kind t s other h = tt

completion_act_undone : (id : Numbers) (m : Moment) (from : Option Epr) (i : Option (List ℕ)) (c : Completion) (t : Transaction) (act : Act) → t.id ≡ id
    → Undone id (completion_act m from i c t act)
unfolding completion_act
completion_act_undone id m from i c t acts.Complete h = go_volatile_undone id m _ h
completion_act_undone id m from i c t other h = tt

completion_notice_undone : (id : Numbers) (m : Moment) (from : Option Epr) (i : Option (List ℕ)) (c : Completion) (t : Transaction) (cell : Option Cell) → t.id ≡ id
    → Undone id (completion_notice m from i c t cell)
unfolding completion_notice
completion_notice_undone id m from i c t None h = tt
completion_notice_undone id m from i c t (Some cell) h = completion_act_undone id m from i c t cell.act h

completion_undone : (id : Numbers) (m : Moment) (a : Arrived) (t : Transaction) (c : Completion) (x : Message) → t.id ≡ id → Undone id (on_completion m a t c x)
unfolding on_completion
completion_undone id m a t c (messages.Notice n) h = completion_notice_undone id m a.from a.id c t (completion_of c.state n) h
completion_undone id m a t c other h = tt

due_undone : (id : Numbers) (m : Moment) (t : Transaction) (reached : Reached) → Undone id (transaction_reached m t reached)
unfolding transaction_reached
due_undone id m t Expired = tt
due_undone id m t Over = tt
due_undone id m t Unanswered = tt
due_undone id m t Nothing = tt

answer_undone : (id : Numbers) (f : Change Transaction → Change Transaction) (d : Decision Transaction) → Undone id d → Undone id (in_both f d)
answer_undone id f (Goes c) h = tt
answer_undone id f (Records r c None) h = h
answer_undone id f (Records r c (Some d)) h = tt

moved_undone : (b : Book) (e : Event) (now : ℕ) (t : Transaction) (d : Decision Transaction) → MovesTransaction b e now t d → Undone t.id d
moved_undone b e now t d (at_seat a s came why is) = subst (Undone t.id) (sym is) (seat_undone t.id (moment_of b now) a t s a.message refl)
moved_undone b e now t d (at_link a kind s came why under is) = subst (Undone t.id) (sym is) (link_undone t.id (moment_of b now) a kind t s a.message refl)
moved_undone b e now t d (at_completion a c came why there is) = subst (Undone t.id) (sym is) (completion_undone t.id (moment_of b now) a t c a.message refl)
moved_undone b e now t d (when_due came is) = subst (Undone t.id) (sym is) (due_undone t.id (moment_of b now) t _)

-- so each deed is in its branch
in_branches : (P : Option Record → Change Transaction → Type 0) (t : Transaction) (d : Decision Transaction) → Deeds P d → Undone t.id d → InBranches P (WaitsOn t) d
in_branches P t (Goes c) h k = h
in_branches P t (Records r c None) h k = (h, k)
in_branches P t (Records r c (Some d)) h k = h

pub transactions_step : TransactionsStep
transactions_step = record {
  step = λ b e now landed id t answer d phases finished stands how.
      became (Deed e t) (WaitsOn t) b (put_transaction t.id (at_time now b)) answer (with_answer (moment_of b now) t d) landed
      (in_branches (Deed e t) t (with_answer (moment_of b now) t d) (transactions_do.deeds b e now id t d phases finished stands how)
      (answer_undone t.id _ d (moved_undone b e now t d how)));
}
