-- What a message, or its time, does to a transaction.
use Rattle.std.specs.Prelude.{ℕ, List, [], ◌∷◌, ◌++◌, ◌⊎◌, Option, Some, None, Bool, true, false, ◌≡◌, refl, if◌then◌else◌, ◌&&◌, ◌||◌, not, nat_eq, is_none, ◌<◌, ◌≤◌}
use Rattle.std.specs.List.{list_any, AllByRecursion}
use Rattle.std.proofs.lemmas.Bool.{eqb-true}
use Rattle.std.proofs.Common.{sym, subst, ap, inl, inr, arith, ◌∙◌}
use Rattle.at_base.specs.declared.fault.Fault.{Fault}
use Rattle.at_base.specs.declared.fault.Fault.TheVariants.{InvalidState}
use Rattle.at_base.specs.Numbers.{Numbers}
use Rattle.at_base.specs.declared.epr.Epr.{Epr}
use Rattle.at_base.specs.declared.notice.Kind.{Kind}
use Rattle.at_base.specs.declared.notice.Kind.TheVariants as kinds
use Rattle.at_base.specs.declared.notice.Notice.{Notice}
use Rattle.at_base.specs.declared.notice.Notice.TheVariants as notices
use Rattle.at_base.specs.declared.target.Target.TheVariants as targets
use Rattle.at_base.specs.declared.message.Message.{Message}
use Rattle.at_base.specs.declared.message.Message.TheVariants as messages
use Rattle.at_base.specs.declared.record.Record.{Record}
use Rattle.at_base.specs.declared.record.Record.TheVariants as records
use Rattle.at_base.specs.declared.event.Arrived.{Arrived}
use Rattle.at_base.specs.declared.event.Event.{Event}
use Rattle.at_base.specs.declared.event.Event.TheVariants as events
use Rattle.at_base.specs.declared.event.Moment.{Moment}
use Rattle.at_base.specs.declared.outs.Post.{Post}
use Rattle.at_tables.specs.declared.cells.State.{State}
use Rattle.at_tables.specs.declared.cells.State.TheVariants as states
use Rattle.at_tables.specs.declared.cells.Act.{Act}
use Rattle.at_tables.specs.declared.cells.Act.TheVariants as acts
use Rattle.at_tables.specs.declared.cells.Cell.{Cell}
use Rattle.at_tables.specs.Names.{is_state}
use Rattle.at_base.specs.Names.{is_kind}
use Rattle.at_tables.specs.Tables.{coordinator_of, participant_of, completion_of}
use Rattle.at_base.specs.declared.epr.Reply.{Reply}
use Rattle.at_base.specs.declared.epr.Reply.TheVariants as replies
use Rattle.at_model.specs.Posts.{fault_post, reply_post, stored_or, stranger_post, to_each}
use Rattle.endpoints.specs.Addresses.{register_id}
use Rattle.at_model.specs.Book.{Book, Completion, Enlistment, Phase, Request, Superior, Transaction, transaction_id}
use Rattle.at_model.specs.Moves.{Change, Decision, Goes, Records, begin, in_both}
use Rattle.at_model.specs.Seats.{answered, in_state, link_of, moved, seat_in, set_link, under}
use Rattle.at_model.specs.Abort.{Reason, Alone, Asked, Faulted, abort}
use Rattle.at_model.specs.Phases.{advance, upwards}
use Rattle.at_model.specs.Arrivals.{answer_seat, answer_left_seat, context_of, is_registering, refused_at, refused_request, request_left, request_stands, request_under, seat_act, seat_notice, commit_voted, asked, link_act, link_notice, completion_act, completion_notice, relates_to, registered, link_registered, link_fault, on_link, on_seat, on_completion, request_answered, answer_request, request_of, with_answer}
use Rattle.at_model.specs.Due.{link_again, links_again, register_again_at, seat_again, seats_again, unanswered_seat, Reached, Expired, Over, Unanswered, Nothing, has_come, is_aborting, is_over, is_quiet, is_some_post, may_expire, transaction_again, transaction_due, transaction_reached}
use Rattle.at_model.specs.Step.{find_seat, moment_of, transaction_at}
use Rattle.model_laws.specs.Agreement.{IsIn}
use Rattle.model_laws.specs.PhaseAnswers.{IsInPhase, IsUnanswered, StandsBehind}
use Rattle.model_laws.specs.Links.{AreIn, IsIdle, IsJoining}
use Rattle.model_laws.specs.BookBounds.{SeatsRise}
use Rattle.model_laws.specs.Shapes.{IsAtSeat, MovesTransaction, at_seat, at_link, at_completion, when_due}
use Rattle.model_laws.proofs.DecisionLaws.{all_find, all_join, all_more, either_left, answer_effects, answer_has, either_of, first_true, same_kind}
use Rattle.model_laws.proofs.LinkDecisions.{Linked, known}
use Rattle.model_laws.proofs.PhaseDecisions.{behind_moved, is_unanswered}
use Rattle.agreement.specs.FinishedTransactions.{AreFinished, IsFinished}
use Rattle.agreement.specs.Branches.{IsNoNotice}
use Rattle.agreement.specs.Deeds.{How, AreCounted, Counted, InitiatorAsked, IsCounted, IsPosted, IsSameIfLeft, IsJoined, KeepsLink, KeepsLinksIfLeft, IsWhy, ParticipantSaid, WhyLeft, WhySuperior, from_left_link, has_said, is_no_notice, is_still, to_asking, to_left_seat, to_seat, to_superior, AllAnswered, Becomes, Deed, KeepsOn, SuperiorSaid, TransactionsDo, coordinator_at, initiator}
use Rattle.agreement.proofs.FinishedMoves.{kept_rise}
use Rattle.agreement.proofs.Posts.{initiator_notice_of, link_notice_of, notices_all, seat_notice_of, to_each_all}
use Rattle.agreement.proofs.TransactionRules.{Always, Done, From, OnAbort, Undone, above_in, abort_undoes, aborts, advance_in_does, count_same, either, forgets, go_volatile_does, idles, itself, only_prepared, same_as}

-- A transaction as it stands in a book.
record Standing (t : Transaction) : Type 0 where
  behind : StandsBehind t.phase t.seats
  linked : Linked t
  finished : IsFinished t

begins : (e : Event) (t : Transaction) (ps : List Post) → AllByRecursion (Always e t) ps → Standing t → From e t (record { item = t; posts = ps; effects = [] })
begins e t ps o h = record { same = itself t; above = λ k. refl; counted = count_same e t t.seats; quiet = refl; on = inr refl; behind = h.behind; posts = o }

stays_same : (e : Event) (t : Transaction) (ps : List Post) → AllByRecursion (IsPosted e t How.Idles t.seats) ps → Deed e t None (record { item = Some t; posts = ps; effects = [] })
stays_same e t ps o = idles e t t ps [] (itself t) (λ k. inl refl) (count_same e t t.seats) (inr refl) refl o

ignores : (e : Event) (t : Transaction) → Deed e t None (record { item = Some t; posts = []; effects = [] })
ignores e t = stays_same e t [] tt

-- a fault to whoever is known
faults_always : (e : Event) (t : Transaction) (o : Option Epr) (id : Option (List ℕ)) (drawn : Fault) → AllByRecursion (Always e t) (to_each o (λ to. fault_post (Some to) id drawn))
faults_always e t o id drawn = to_each_all (Always e t) o (λ to. fault_post (Some to) id drawn) (λ to f how at. is_no_notice tt)

faults : (e : Event) (t : Transaction) (o : Option Epr) (id : Option (List ℕ)) (drawn : Fault) → AllByRecursion (IsPosted e t How.Idles t.seats) (to_each o (λ to. fault_post (Some to) id drawn))
faults e t o id drawn = to_each_all (IsPosted e t How.Idles t.seats) o (λ to. fault_post (Some to) id drawn) (λ to f. is_no_notice tt)

-- A seat that hasn't answered keeps the transaction undecided.
has_answered : (kind : Kind) (seats : List Enlistment) (number : ℕ) (s : Enlistment) → find_seat number kind seats ≡ Some s → answered kind seats ≡ true → is_unanswered kind s ≡ false
has_answered kind [] number s e h = absurd cc
has_answered kind (x ∷ xs) number s e h = by_test (nat_eq x.number number && is_kind x.kind kind) (is_unanswered kind x) refl (λ f g. has_answered kind xs number s f g) e h
  where
    by_test : (b c : Bool) → is_unanswered kind x ≡ c → (find_seat number kind xs ≡ Some s → answered kind xs ≡ true → is_unanswered kind s ≡ false)
        → (if b then Some x else find_seat number kind xs) ≡ Some s → not (c || list_any (is_unanswered kind) xs) ≡ true → is_unanswered kind s ≡ false
    by_test b true u rest f g = absurd cc
    by_test true false u rest f g = let same : x ≡ s = cc in subst (λ y. is_unanswered kind y ≡ false) same u
    by_test false false u rest f g = rest f g

of_number : (kind : Kind) (seats : List Enlistment) (number : ℕ) (s : Enlistment) → find_seat number kind seats ≡ Some s → s.number ≡ number
of_number kind [] number s e = absurd cc
of_number kind (x ∷ xs) number s e = by_test (nat_eq x.number number) (is_kind x.kind kind) refl (λ f. of_number kind xs number s f) e
  where
    by_test : (a b : Bool) → nat_eq x.number number ≡ a → (find_seat number kind xs ≡ Some s → s.number ≡ number) → (if a && b then Some x else find_seat number kind xs) ≡ Some s
        → s.number ≡ number
    by_test true true k rest f = let same : x ≡ s = cc in subst (λ y. y.number ≡ number) same (eqb-true x.number number k)
    by_test true false k rest f = rest f
    by_test false b k rest f = rest f

of_kind : (kind : Kind) (seats : List Enlistment) (number : ℕ) (s : Enlistment) → find_seat number kind seats ≡ Some s → is_kind s.kind kind ≡ true
of_kind kind [] number s e = absurd cc
of_kind kind (x ∷ xs) number s e = by_test (nat_eq x.number number) (is_kind x.kind kind) refl (λ f. of_kind kind xs number s f) e
  where
    by_test : (a b : Bool) → is_kind x.kind kind ≡ b → (find_seat number kind xs ≡ Some s → is_kind s.kind kind ≡ true)
        → (if a && b then Some x else find_seat number kind xs) ≡ Some s → is_kind s.kind kind ≡ true
    by_test true true k rest f = let same : x ≡ s = cc in subst (λ y. is_kind y.kind kind ≡ true) same k
    by_test true false k rest f = rest f
    by_test false b k rest f = rest f

found_in : (kind : Kind) (seats : List Enlistment) (number : ℕ) (s : Enlistment) → find_seat number kind seats ≡ Some s → IsIn s seats
found_in kind [] number s e = absurd cc
found_in kind (x ∷ xs) number s e = by_test (nat_eq x.number number && is_kind x.kind kind) (λ f. found_in kind xs number s f) e
  where
    by_test : (b : Bool) → (find_seat number kind xs ≡ Some s → IsIn s xs) → (if b then Some x else find_seat number kind xs) ≡ Some s → IsIn s (x ∷ xs)
    by_test true rest f = let same : x ≡ s = cc in inl (sym same)
    by_test false rest f = inr (rest f)

no_answer : (b : Bool) (state : State) → b ≡ true → IsUnanswered state → ((b && is_state state states.Active) || (b && is_state state states.Preparing)) ≡ false → ⊥
no_answer true states.Active e h f = cc
no_answer true states.Preparing e h f = cc
no_answer true other e h f = h
no_answer false state e h f = cc

unanswered_in : (number : ℕ) (kind : Kind) (t : Transaction) (s : Enlistment) → find_seat number kind t.seats ≡ Some s → IsUnanswered s.state → answered kind t.seats ≡ true → ⊥
unanswered_in number kind t s e h a = no_answer (is_kind s.kind kind) s.state (of_kind kind t.seats number s e) h (has_answered kind t.seats number s e a)

of_both : (kind : Kind) (seats : List Enlistment) → AllAnswered seats → answered kind seats ≡ true
of_both kinds.Volatile seats h = h.0
of_both kinds.Durable seats h = h.1

is_undecided : (phase : Phase) (t : Transaction) → t.phase ≡ phase → (AllAnswered t.seats → ⊥) → Standing t → may_expire phase ≡ true
is_undecided Phase.Registering t e k h = refl
is_undecided Phase.Active t e k h = refl
is_undecided Phase.Volatile t e k h = refl
is_undecided Phase.Durable t e k h = refl
is_undecided Phase.Voted t e k h = absurd (k (subst (λ p. StandsBehind p t.seats) e h.behind))
is_undecided Phase.Committing t e k h = absurd (k (subst (λ p. StandsBehind p t.seats) e h.behind))
is_undecided Phase.Aborting t e k h = absurd (k (h.finished.asked e))

asks_still : (number : ℕ) (kind : Kind) (t : Transaction) (s : Enlistment) → find_seat number kind t.seats ≡ Some s → IsUnanswered s.state → Standing t → may_expire t.phase ≡ true
asks_still number kind t s e u h = is_undecided t.phase t refl (λ a. unanswered_in number kind t s e u (of_both kind t.seats a)) h

-- what the coordinator's table does at a seat: it aborts only where the seat hasn't answered
abbrev SeatActs : Kind → State → Notice → Act → Type 0
SeatActs kind state n acts.SendCommit = state ≡ states.Committing
SeatActs kind state n acts.SendRollback = (state ≡ states.Aborting) ⊎ ((state ≡ states.None) × ((kind ≡ kinds.Durable) × (n ≡ notices.Prepared)))
SeatActs kind state n acts.FaultInvalidStateAndAbort = IsUnanswered state
SeatActs kind state n acts.LeaveAndAbort = IsUnanswered state × IsCounted n state states.None
SeatActs kind state n acts.Leave = IsCounted n state states.None
SeatActs kind state n acts.Vote = IsCounted n state states.Prepared
SeatActs kind state n other = Unit {0}

abbrev SeatCell : Kind → State → Notice → Option Cell → Type 0
SeatCell kind state n None = Unit {0}
SeatCell kind state n (Some c) = SeatActs kind state n c.act

seat_table : (kind : Kind) (state : State) (n : Notice) → SeatCell kind state n (coordinator_of kind state n)
seat_table kinds.Volatile states.None notices.Prepared = tt
seat_table kinds.Volatile states.None other = tt
seat_table kinds.Volatile states.Registering notices.Prepared = tt
seat_table kinds.Volatile states.Registering other = tt
seat_table kinds.Volatile states.Active notices.Prepared = tt
seat_table kinds.Volatile states.Active notices.ReadOnly = (tt, refl)
seat_table kinds.Volatile states.Active notices.Aborted = (tt, (tt, refl))
seat_table kinds.Volatile states.Active notices.Committed = tt
seat_table kinds.Volatile states.Active other = tt
seat_table kinds.Volatile states.Preparing notices.Prepared = (refl, refl)
seat_table kinds.Volatile states.Preparing notices.ReadOnly = (tt, refl)
seat_table kinds.Volatile states.Preparing notices.Aborted = (tt, (tt, refl))
seat_table kinds.Volatile states.Preparing notices.Committed = tt
seat_table kinds.Volatile states.Preparing other = tt
seat_table kinds.Volatile states.Prepared notices.Prepared = tt
seat_table kinds.Volatile states.Prepared other = tt
seat_table kinds.Volatile states.PreparedSuccess notices.Prepared = tt
seat_table kinds.Volatile states.PreparedSuccess other = tt
seat_table kinds.Volatile states.Committing notices.Prepared = refl
seat_table kinds.Volatile states.Committing notices.ReadOnly = tt
seat_table kinds.Volatile states.Committing notices.Aborted = tt
seat_table kinds.Volatile states.Committing notices.Committed = (refl, refl)
seat_table kinds.Volatile states.Committing other = tt
seat_table kinds.Volatile states.Aborting notices.Prepared = inl refl
seat_table kinds.Volatile states.Aborting notices.ReadOnly = (tt, refl)
seat_table kinds.Volatile states.Aborting notices.Aborted = (tt, refl)
seat_table kinds.Volatile states.Aborting notices.Committed = tt
seat_table kinds.Volatile states.Aborting other = tt
seat_table kinds.Volatile states.Completing notices.Prepared = tt
seat_table kinds.Volatile states.Completing other = tt
seat_table kinds.Volatile states.Done notices.Prepared = tt
seat_table kinds.Volatile states.Done other = tt
seat_table kinds.Durable states.None notices.Prepared = inr (refl, (refl, refl))
seat_table kinds.Durable states.None other = tt
seat_table kinds.Durable states.Registering notices.Prepared = tt
seat_table kinds.Durable states.Registering other = tt
seat_table kinds.Durable states.Active notices.Prepared = tt
seat_table kinds.Durable states.Active notices.ReadOnly = (tt, refl)
seat_table kinds.Durable states.Active notices.Aborted = (tt, (tt, refl))
seat_table kinds.Durable states.Active notices.Committed = tt
seat_table kinds.Durable states.Active other = tt
seat_table kinds.Durable states.Preparing notices.Prepared = (refl, refl)
seat_table kinds.Durable states.Preparing notices.ReadOnly = (tt, refl)
seat_table kinds.Durable states.Preparing notices.Aborted = (tt, (tt, refl))
seat_table kinds.Durable states.Preparing notices.Committed = tt
seat_table kinds.Durable states.Preparing other = tt
seat_table kinds.Durable states.Prepared notices.Prepared = tt
seat_table kinds.Durable states.Prepared other = tt
seat_table kinds.Durable states.PreparedSuccess notices.Prepared = tt
seat_table kinds.Durable states.PreparedSuccess other = tt
seat_table kinds.Durable states.Committing notices.Prepared = refl
seat_table kinds.Durable states.Committing notices.ReadOnly = tt
seat_table kinds.Durable states.Committing notices.Aborted = tt
seat_table kinds.Durable states.Committing notices.Committed = (refl, refl)
seat_table kinds.Durable states.Committing other = tt
seat_table kinds.Durable states.Aborting notices.Prepared = inl refl
seat_table kinds.Durable states.Aborting notices.ReadOnly = (tt, refl)
seat_table kinds.Durable states.Aborting notices.Aborted = (tt, refl)
seat_table kinds.Durable states.Aborting notices.Committed = tt
seat_table kinds.Durable states.Aborting other = tt
seat_table kinds.Durable states.Completing notices.Prepared = tt
seat_table kinds.Durable states.Completing other = tt
seat_table kinds.Durable states.Done notices.Prepared = tt
seat_table kinds.Durable states.Done other = tt

-- a number names one seat
found_above : (last number : ℕ) (kind : Kind) (seats : List Enlistment) (s : Enlistment) → SeatsRise last seats → find_seat number kind seats ≡ Some s → last < s.number
found_above last number kind [] s h e = absurd cc
found_above last number kind (x ∷ xs) s (h, k) e = by_test (nat_eq x.number number && is_kind x.kind kind) (λ f. found_above x.number number kind xs s k f) e
  where
    by_test : (b : Bool) → (find_seat number kind xs ≡ Some s → x.number < s.number) → (if b then Some x else find_seat number kind xs) ≡ Some s → last < s.number
    by_test true rest f = let same : x ≡ s = cc in subst (λ y. last < y.number) same h
    by_test false rest f = omega (arith, h, rest f)

all_above : (last : ℕ) (seats : List Enlistment) (number : ℕ) (s : Enlistment) → SeatsRise last seats → number ≤ last → AllByRecursion (λ x. x.number ≡ number → x ≡ s) seats
all_above last [] number s h e = tt
all_above last (x ∷ xs) number s (h, k) e = ((λ f. absurd (omega (arith, h, e, f))), all_above x.number xs number s k (omega (arith, h, e)))

only_one : (last number : ℕ) (kind : Kind) (seats : List Enlistment) (s : Enlistment) → SeatsRise last seats → find_seat number kind seats ≡ Some s
    → AllByRecursion (λ x. x.number ≡ s.number → x ≡ s) seats
only_one last number kind [] s h e = tt
only_one last number kind (x ∷ xs) s (h, k) e = by_test (nat_eq x.number number && is_kind x.kind kind) (λ f. only_one x.number number kind xs s k f) e
  where
    by_test : (b : Bool) → (find_seat number kind xs ≡ Some s → AllByRecursion (λ y. y.number ≡ s.number → y ≡ s) xs) → (if b then Some x else find_seat number kind xs) ≡ Some s
        → AllByRecursion (λ y. y.number ≡ s.number → y ≡ s) (x ∷ xs)
    by_test true rest f =
        let same : x ≡ s = cc in
        let low : s.number ≤ x.number = subst (λ y. y.number ≤ x.number) same (omega arith) in
        ((λ g. same), all_above x.number xs s.number s k low)
    by_test false rest f = ((λ g. let above : x.number < s.number = found_above x.number number kind xs s k f in absurd (omega (arith, above, g))), rest f)

-- a notification at a seat
record AtSeat (e : Event) (t : Transaction) (s : Enlistment) (n : Notice) : Type 0 where
  said : ParticipantSaid n e t s
  sits : IsIn s t.seats
  only : AllByRecursion (λ x. x.number ≡ s.number → x ≡ s) t.seats
  asks : IsUnanswered s.state → may_expire t.phase ≡ true

moved_one : (e : Event) (t : Transaction) (s : Enlistment) (state : State) (x : Enlistment) (b : Bool) → nat_eq x.number s.number ≡ b → (x.number ≡ s.number → x ≡ s)
    → Counted e t s (record s { state = state }) → Counted e t x (record x { state = if b then state else x.state })
moved_one e t s state x true f h k = subst (λ y. Counted e t y (record y { state = state })) (sym (h (eqb-true x.number s.number f))) k
moved_one e t s state x false f h k = record { seat = refl; why = is_still refl }

moved_seats : (e : Event) (t : Transaction) (s : Enlistment) (state : State) (seats : List Enlistment) → AllByRecursion (λ x. x.number ≡ s.number → x ≡ s) seats
    → Counted e t s (record s { state = state }) → AreCounted e t seats (moved (λ x. nat_eq x.number s.number) state seats)
moved_seats e t s state [] h k = tt
moved_seats e t s state (x ∷ xs) (h, i) k = (moved_one e t s state x (nat_eq x.number s.number) refl h k, moved_seats e t s state xs i k)

seat_counted : (e : Event) (t : Transaction) (s : Enlistment) (n : Notice) (state : State) → AtSeat e t s n → IsCounted n s.state state
    → AreCounted e t t.seats (moved (λ x. nat_eq x.number s.number) state t.seats)
seat_counted e t s n state h c = moved_seats e t s state t.seats h.only (record { seat = refl; why = has_said n h.said c })

-- a seat that has answered or left
stays_sent : (e : Event) (t x : Transaction) (ps : List Post) → x.id ≡ t.id → x.identifier ≡ t.identifier → x.deadline ≡ t.deadline → x.superior ≡ t.superior → x.completion ≡ t.completion
    → x.phase ≡ t.phase → x.seats ≡ t.seats → AllByRecursion (IsPosted e t How.Idles t.seats) ps → Deed e t None (record { item = Some x; posts = ps; effects = [] })
stays_sent e t x ps i n d u c p s o =
    idles e t x ps [] (same_as t t x i n d (ap (λ y. is_none y) u) (ap (λ y. initiator y) c) (itself t)) (λ k. inl (ap (coordinator_at k) u)) (subst (AreCounted e t t.seats) (sym s) (count_same e t t.seats)) (inr p) refl
    (subst (λ l. AllByRecursion (IsPosted e t How.Idles l) ps) (sym s) o)

seat_from : (e : Event) (t : Transaction) (s : Enlistment) (n : Notice) (state : State) → is_state state states.Active ≡ false → is_state state states.Preparing ≡ false → IsCounted n s.state state
    → AtSeat e t s n → Standing t → From e t (begin (seat_in s.number state t))
seat_from e t s n state a p c at h = record {
  same = same_as t t (seat_in s.number state t) refl refl refl refl refl (itself t);
  above = λ k. refl;
  counted = seat_counted e t s n state at c;
  quiet = refl;
  on = inr refl;
  behind = behind_moved t.phase (λ x. nat_eq x.number s.number) state t.seats a p h.behind;
  posts = tt;
}

seat_advances : (e : Event) (m : Moment) (t : Transaction) (s : Enlistment) (n : Notice) (state : State) → is_state state states.Active ≡ false → is_state state states.Preparing ≡ false
    → IsCounted n s.state state → AtSeat e t s n → Standing t → Done e t (advance m (begin (seat_in s.number state t)))
seat_advances e m t s n state a p c at h = advance_in_does e t m t.phase (begin (seat_in s.number state t)) refl (seat_from e t s n state a p c at h)

no_none : (state : State) → is_state state states.None ≡ true → state ≡ states.Aborting → ⊥
no_none state e f = let g : is_state states.Aborting states.None ≡ true = subst (λ x. is_state x states.None ≡ true) f e in cc

is_left : (state : State) → is_state state states.None ≡ false → state ≡ states.None → ⊥
is_left state e f = let g : is_state states.None states.None ≡ false = subst (λ x. is_state x states.None ≡ false) f e in cc

-- Rollback again, or for the first time to a participant that has left
rollback_does : (e : Event) (m : Moment) (t : Transaction) (s : Enlistment) (n : Notice) → AtSeat e t s n
    → (s.state ≡ states.Aborting) ⊎ ((s.state ≡ states.None) × ((s.kind ≡ kinds.Durable) × (n ≡ notices.Prepared)))
    → Done e t (if in_state states.None s then answer_left_seat m notices.Rollback t s else answer_seat m notices.Rollback t s)
rollback_does e m t s n at (inl k) =
    either e t (in_state states.None s) _ _ (λ f. absurd (no_none s.state f k))
    (λ f. stays_sent e t _ _ refl refl refl refl refl refl refl
    (to_seat s notices.Rollback at.sits (inl k) (seat_notice_of m.base t.id t.id s s notices.Rollback refl refl), tt))
rollback_does e m t s n at (inr (k, (d, p))) =
    either e t (in_state states.None s) _ _
    (λ f. stays_same e t _ (to_left_seat s at.sits d k (subst (λ x. ParticipantSaid x e t s) p at.said) (record { owned = refl; sent = refl; says = refl }), tt))
    (λ f. absurd (is_left s.state f k))

seat_act_does : (e : Event) (m : Moment) (i : Option (List ℕ)) (t : Transaction) (s : Enlistment) (n : Notice) (act : Act) → AtSeat e t s n → SeatActs s.kind s.state n act → Standing t
    → Done e t (seat_act m i t s act)
unfolding seat_act
seat_act_does e m i t s n acts.SendCommit at k h =
    stays_sent e t _ _ refl refl refl refl refl refl refl
    (to_seat s notices.Commit at.sits (inl k) (seat_notice_of m.base t.id t.id s s notices.Commit refl refl), tt)
seat_act_does e m i t s n acts.SendRollback at k h = rollback_does e m t s n at k
seat_act_does e m i t s n acts.FaultUnknownTransaction at k h = stays_same e t _ (is_no_notice tt, tt)
seat_act_does e m i t s n acts.FaultInvalidState at k h = stays_same e t _ (is_no_notice tt, tt)
seat_act_does e m i t s n acts.FaultInvalidStateAndAbort at k h = aborts e t m Alone _ (at.asks k) (begins e t _ ((λ how l. is_no_notice tt), tt) h)
seat_act_does e m i t s n acts.Leave at k h = seat_advances e m t s n states.None refl refl k at h
seat_act_does e m i t s n acts.LeaveAndAbort at (u, k) h = aborts e t m Alone _ (at.asks u) (seat_from e t s n states.None refl refl k at h)
seat_act_does e m i t s n acts.Vote at k h = seat_advances e m t s n states.Prepared refl refl k at h
seat_act_does e m i t s n other at k h = ignores e t

seat_notice_does : (e : Event) (m : Moment) (i : Option (List ℕ)) (t : Transaction) (s : Enlistment) (n : Notice) (c : Option Cell) → AtSeat e t s n → SeatCell s.kind s.state n c → Standing t
    → Done e t (seat_notice m i t s c)
unfolding seat_notice
seat_notice_does e m i t s n None at k h = ignores e t
seat_notice_does e m i t s n (Some c) at k h = seat_act_does e m i t s n c.act at k h

seat_does : (e : Event) (m : Moment) (a : Arrived) (t : Transaction) (s : Enlistment) (x : Message) → ((n : Notice) → x ≡ messages.Notice n → AtSeat e t s n) → Standing t → Done e t (on_seat m a t s x)
unfolding on_seat
seat_does e m a t s (messages.Notice n) at h = seat_notice_does e m a.id t s n (coordinator_of s.kind s.state n) (at n refl) (seat_table s.kind s.state n) h
seat_does e m a t s other at h = ignores e t

-- a subordinate's links
abbrev MayAbort : State → Type 0
MayAbort states.Registering = Unit {0}
MayAbort states.Active = Unit {0}
MayAbort states.Preparing = Unit {0}
MayAbort other = ⊥

abbrev HasVoted : State → Type 0
HasVoted states.Prepared = Unit {0}
HasVoted states.PreparedSuccess = Unit {0}
HasVoted other = ⊥

may_abort : (phase : Phase) (kind : Kind) (s : Superior) → AreIn phase s.volatile.state s.durable.state → MayAbort (link_of kind s).state → may_expire phase ≡ true
may_abort Phase.Registering kind s h k = refl
may_abort Phase.Active kind s h k = refl
may_abort Phase.Volatile kind s h k = refl
may_abort Phase.Durable kind s h k = refl
may_abort Phase.Voted kinds.Volatile s (v, d) k = absurd (subst MayAbort v k)
may_abort Phase.Voted kinds.Durable s (v, d) k = absurd (subst MayAbort d k)
may_abort Phase.Committing kinds.Volatile s (v, d) k = absurd (subst MayAbort v k)
may_abort Phase.Committing kinds.Durable s (v, d) k = absurd (subst MayAbort d k)
may_abort Phase.Aborting kinds.Volatile s (v, d) k = absurd (subst MayAbort v k)
may_abort Phase.Aborting kinds.Durable s (v, d) k = absurd (subst MayAbort d k)

no_joining : (state : State) → IsJoining state → HasVoted state → ⊥
no_joining states.Registering h k = k
no_joining states.Active h k = k
no_joining other h k = h

no_idle : (state : State) → IsIdle state → HasVoted state → ⊥
no_idle states.None h k = k
no_idle states.Active h k = k
no_idle other h k = h

has_voted : (phase : Phase) (kind : Kind) (s : Superior) → AreIn phase s.volatile.state s.durable.state → HasVoted (link_of kind s).state → (phase ≡ Phase.Voted) × (kind ≡ kinds.Durable)
has_voted Phase.Registering kinds.Volatile s (v, d) k = absurd (no_joining s.volatile.state v k)
has_voted Phase.Registering kinds.Durable s (v, d) k = absurd (no_joining s.durable.state d k)
has_voted Phase.Active kinds.Volatile s (v, d) k = absurd (no_idle s.volatile.state v k)
has_voted Phase.Active kinds.Durable s (v, d) k = absurd (no_joining s.durable.state d k)
has_voted Phase.Volatile kinds.Volatile s (inl (v, d)) k = absurd (subst HasVoted v k)
has_voted Phase.Volatile kinds.Volatile s (inr (v, d)) k = absurd (subst HasVoted v k)
has_voted Phase.Volatile kinds.Durable s (inl (v, d)) k = absurd (no_joining s.durable.state d k)
has_voted Phase.Volatile kinds.Durable s (inr (v, d)) k = absurd (subst HasVoted d k)
has_voted Phase.Durable kinds.Volatile s (v, d) k = absurd (subst HasVoted v k)
has_voted Phase.Durable kinds.Durable s (v, d) k = absurd (subst HasVoted d k)
has_voted Phase.Voted kinds.Volatile s (v, d) k = absurd (subst HasVoted v k)
has_voted Phase.Voted kinds.Durable s (v, d) k = (refl, refl)
has_voted Phase.Committing kinds.Volatile s (v, d) k = absurd (subst HasVoted v k)
has_voted Phase.Committing kinds.Durable s (v, d) k = absurd (subst HasVoted d k)
has_voted Phase.Aborting kinds.Volatile s (v, d) k = absurd (subst HasVoted v k)
has_voted Phase.Aborting kinds.Durable s (v, d) k = absurd (subst HasVoted d k)

-- which acts the participant's table has in a state, and at which notification
abbrev LinkActs : State → Notice → Act → Type 0
LinkActs state n acts.SendPrepared = HasVoted state
LinkActs state n acts.SendCommitted = (state ≡ states.None) × (n ≡ notices.Commit)
LinkActs state n acts.SendAborted = state ≡ states.None
LinkActs state n acts.FaultInvalidStateAndAbort = MayAbort state
LinkActs state n acts.AbortAndSendAborted = MayAbort state
LinkActs state n acts.Gather = MayAbort state
LinkActs state n acts.Commit = HasVoted state × (n ≡ notices.Commit)
LinkActs state n acts.RecordAndSendAborted = HasVoted state × (n ≡ notices.Rollback)
LinkActs state n other = Unit {0}

abbrev LinkCell : State → Notice → Option Cell → Type 0
LinkCell state n None = Unit {0}
LinkCell state n (Some c) = LinkActs state n c.act

link_table : (kind : Kind) (state : State) (n : Notice) → LinkCell state n (participant_of kind state n)
link_table kind states.None notices.Prepare = refl
link_table kind states.None notices.Commit = (refl, refl)
link_table kind states.None notices.Rollback = refl
link_table kind states.None other = tt
link_table kind states.Registering notices.Prepare = tt
link_table kind states.Registering notices.Commit = tt
link_table kind states.Registering notices.Rollback = tt
link_table kind states.Registering other = tt
link_table kind states.Active notices.Prepare = tt
link_table kind states.Active notices.Commit = tt
link_table kind states.Active notices.Rollback = tt
link_table kind states.Active other = tt
link_table kind states.Preparing notices.Prepare = tt
link_table kind states.Preparing notices.Commit = tt
link_table kind states.Preparing notices.Rollback = tt
link_table kind states.Preparing other = tt
link_table kind states.Prepared notices.Prepare = tt
link_table kind states.Prepared notices.Commit = tt
link_table kind states.Prepared notices.Rollback = (tt, refl)
link_table kind states.Prepared other = tt
link_table kind states.PreparedSuccess notices.Prepare = tt
link_table kind states.PreparedSuccess notices.Commit = (tt, refl)
link_table kind states.PreparedSuccess notices.Rollback = (tt, refl)
link_table kind states.PreparedSuccess other = tt
link_table kind states.Committing notices.Prepare = tt
link_table kind states.Committing notices.Commit = tt
link_table kind states.Committing notices.Rollback = tt
link_table kind states.Committing other = tt
link_table kind states.Aborting notices.Prepare = tt
link_table kind states.Aborting notices.Commit = tt
link_table kind states.Aborting notices.Rollback = tt
link_table kind states.Aborting other = tt
link_table kind states.Completing notices.Prepare = tt
link_table kind states.Completing notices.Commit = tt
link_table kind states.Completing notices.Rollback = tt
link_table kind states.Completing other = tt
link_table kind states.Done notices.Prepare = tt
link_table kind states.Done notices.Commit = tt
link_table kind states.Done notices.Rollback = tt
link_table kind states.Done other = tt

asked_above : (kind own : Kind) (s : Superior) → coordinator_at own (Some (asked kind s)) ≡ coordinator_at own (Some s)
asked_above kinds.Volatile kinds.Volatile s = refl
asked_above kinds.Volatile kinds.Durable s = refl
asked_above kinds.Durable kinds.Volatile s = refl
asked_above kinds.Durable kinds.Durable s = refl

link_asks : (e : Event) (kind : Kind) (s : Superior) (t : Transaction) → t.superior ≡ Some s → Standing t → From e t (begin (under (asked kind s) t))
link_asks e kind s t u h = record {
  same = same_as t t (under (asked kind s) t) refl refl refl (sym (ap (λ x. is_none x) u)) refl (itself t);
  above = λ k. asked_above kind k s ∙ sym (ap (coordinator_at k) u);
  counted = count_same e t t.seats;
  quiet = refl;
  on = inr refl;
  behind = h.behind;
  posts = tt;
}

commits : (e : Event) (m : Moment) (s : Superior) (t : Transaction) → t.superior ≡ Some s → t.phase ≡ Phase.Voted → SuperiorSaid kinds.Durable notices.Commit e t → Standing t
    → Done e t (commit_voted m s t)
unfolding commit_voted
commits e m s t u p said h = record {
  how = How.Commits;
  at = t.seats;
  counted = count_same e t t.seats;
  stood = (p, subst (λ x. is_none x ≡ false) (sym u) refl);
  heard = said;
  behind = subst (λ q. StandsBehind q t.seats) p h.behind;
  records = refl;
  happened = refl;
  becomes = (refl, refl);
  same = same_as t t _ refl refl refl (sym (ap (λ x. is_none x) u)) refl (itself t);
  links = λ k. inl (above_in kinds.Durable k states.Committing s ∙ sym (ap (coordinator_at k) u));
  posts = notices_all (IsPosted e t How.Commits t.seats) e t m.base t.id notices.Commit (in_state states.Prepared) t.seats t.seats refl (count_same e t t.seats)
      (λ o x q i k y z. to_seat o notices.Commit i (inr (tt, subst (IsWhy e t o) (only_prepared x.state y) k.why)) z);
}

rolls_back : (e : Event) (m : Moment) (reason : Reason) (s : Superior) (t : Transaction) → t.superior ≡ Some s → t.phase ≡ Phase.Voted → SuperiorSaid kinds.Durable notices.Rollback e t → Standing t
    → Deed e t (Some (records.Ended t.id)) (abort m reason (begin t))
rolls_back e m reason s t u p said h =
    let a : Undone e t t.seats (abort m reason (begin t)) = abort_undoes e t m reason (begin t) (begins e t [] tt h) in
    record {
      how = How.RollsBack;
      at = t.seats;
      counted = count_same e t t.seats;
      stood = (p, subst (λ x. is_none x ≡ false) (sym u) refl);
      heard = said;
      behind = tt;
      records = refl;
      happened = a.happened;
      becomes = a.becomes;
      same = a.same;
      links = a.links;
      posts = all_more (OnAbort e t) (IsPosted e t How.RollsBack t.seats) (abort m reason (begin t)).posts (λ q k. k How.RollsBack t.seats tt) a.posts;
    }

said_so : (kind : Kind) (n own : Notice) (e : Event) (t : Transaction) → kind ≡ kinds.Durable → n ≡ own → SuperiorSaid kind n e t → SuperiorSaid kinds.Durable own e t
said_so kind n own e t d c h = subst (λ x. SuperiorSaid kinds.Durable x e t) c (subst (λ k. SuperiorSaid k n e t) d h)

-- Prepared again, while the outcome is awaited
prepared_again : (e : Event) (m : Moment) (kind : Kind) (s : Superior) (t : Transaction) → t.superior ≡ Some s → HasVoted (link_of kind s).state → Standing t
    → AllByRecursion (IsPosted e t How.Idles t.seats) (upwards m.base t.id kind notices.Prepared (link_of kind s))
prepared_again e m kind s t u k h =
    let v : (t.phase ≡ Phase.Voted) × (kind ≡ kinds.Durable) = has_voted t.phase kind s (known t s u h.linked).0 k in
    to_each_all (IsPosted e t How.Idles t.seats) (link_of kind s).coordinator _
    (λ to f. to_superior kind notices.Prepared to (ap (coordinator_at kind) u ∙ f) (why_again kind v.1 v.0) (link_notice_of m.base t.id t.id kind to notices.Prepared refl))
  where
    why_again : (kind : Kind) → kind ≡ kinds.Durable → t.phase ≡ Phase.Voted → WhySuperior t How.Idles t.seats kind notices.Prepared
    why_again kinds.Durable d p = inr p
    why_again kinds.Volatile d p = absurd cc

-- what a link in None answers
left_link : (e : Event) (m : Moment) (from : Option Epr) (kind : Kind) (s : Superior) (t : Transaction) (n : Notice) → t.superior ≡ Some s → (link_of kind s).state ≡ states.None
    → WhyLeft e t kind n
    → AllByRecursion (IsPosted e t How.Idles t.seats) (to_each (stored_or (link_of kind s).coordinator from) (λ to. stranger_post m.base (targets.Participant t.id kind) to n))
left_link e m from kind s t n u k w =
    to_each_all (IsPosted e t How.Idles t.seats) (stored_or (link_of kind s).coordinator from) _
    (λ to f. from_left_link kind s n to u k w (record { owned = refl; sent = refl; says = refl }))

link_act_does : (e : Event) (m : Moment) (from : Option Epr) (i : Option (List ℕ)) (kind : Kind) (s : Superior) (t : Transaction) (n : Notice) (act : Act) → t.superior ≡ Some s
    → SuperiorSaid kind n e t → LinkActs (link_of kind s).state n act → Standing t → Done e t (link_act m from i kind s t act)
unfolding link_act
link_act_does e m from i kind s t n acts.SendPrepared u said k h = stays_sent e t _ _ refl refl refl refl refl refl refl (prepared_again e m kind s t u k h)
link_act_does e m from i kind s t n acts.SendCommitted u said (k, c) h =
    stays_same e t _ (left_link e m from kind s t notices.Committed u k (subst (λ x. SuperiorSaid kind x e t) c said))
link_act_does e m from i kind s t n acts.SendAborted u said k h = stays_same e t _ (left_link e m from kind s t notices.Aborted u k tt)
link_act_does e m from i kind s t n acts.FaultInvalidState u said k h = stays_same e t _ (faults e t (stored_or (link_of kind s).coordinator from) i InvalidState)
link_act_does e m from i kind s t n acts.FaultInvalidStateAndAbort u said k h =
    aborts e t m (Faulted kind) _ (may_abort t.phase kind s (known t s u h.linked).0 k)
    (begins e t _ (faults_always e t (stored_or (link_of kind s).coordinator from) i InvalidState) h)
link_act_does e m from i kind s t n acts.Gather u said k h =
    go_volatile_does e t m (begin (under (asked kind s) t)) (may_abort t.phase kind s (known t s u h.linked).0 k) (link_asks e kind s t u h)
link_act_does e m from i kind s t n acts.Commit u said (k, c) h =
    let v : (t.phase ≡ Phase.Voted) × (kind ≡ kinds.Durable) = has_voted t.phase kind s (known t s u h.linked).0 k in
    commits e m s t u v.0 (said_so kind n _ e t v.1 c said) h
link_act_does e m from i kind s t n acts.AbortAndSendAborted u said k h =
    aborts e t m (Asked kind from) (begin t) (may_abort t.phase kind s (known t s u h.linked).0 k) (begins e t [] tt h)
link_act_does e m from i kind s t n acts.RecordAndSendAborted u said (k, c) h =
    let v : (t.phase ≡ Phase.Voted) × (kind ≡ kinds.Durable) = has_voted t.phase kind s (known t s u h.linked).0 k in
    rolls_back e m (Asked kind from) s t u v.0 (said_so kind n _ e t v.1 c said) h
link_act_does e m from i kind s t n other u said k h = ignores e t

link_notice_does : (e : Event) (m : Moment) (from : Option Epr) (i : Option (List ℕ)) (kind : Kind) (s : Superior) (t : Transaction) (n : Notice) (c : Option Cell) → t.superior ≡ Some s
    → SuperiorSaid kind n e t → LinkCell (link_of kind s).state n c → Standing t → Done e t (link_notice m from i kind s t c)
unfolding link_notice
link_notice_does e m from i kind s t n None u said k h = ignores e t
link_notice_does e m from i kind s t n (Some c) u said k h = link_act_does e m from i kind s t n c.act u said k h

registered_on : (s : Superior) (phase : Phase) → KeepsOn phase (registered s phase)
registered_on s Phase.Registering = by_test (is_state s.volatile.state states.Registering || is_state s.durable.state states.Registering)
  where
    by_test : (b : Bool) → KeepsOn Phase.Registering (if b then Phase.Registering else Phase.Active)
    by_test true = inr refl
    by_test false = inl (refl, refl)
registered_on s Phase.Active = inr refl
registered_on s other = inr refl

one_superior : (t : Transaction) (s z : Superior) → t.superior ≡ Some s → t.superior ≡ Some z → s ≡ z
one_superior t s z u v = let same : Some s ≡ Some z = sym u ∙ v in cc

only_registering : (state : State) → is_state state states.Registering ≡ true → state ≡ states.Registering
only_registering states.Registering e = refl
only_registering states.None e = absurd cc
only_registering other e = absurd cc

joins : (e : Event) (kind own : Kind) (state : State) (coordinator : Epr) (s : Superior) (t x : Transaction) → t.superior ≡ Some s
    → x.superior ≡ Some (set_link kind (record { state = state; coordinator = Some coordinator }) s)
    → (coordinator_at kind x.superior ≡ Some coordinator → IsJoined kind e t x) → KeepsLink e t x own
joins e kinds.Volatile kinds.Volatile state coordinator s t x u v f = inr (f (ap (coordinator_at kinds.Volatile) v))
joins e kinds.Durable kinds.Durable state coordinator s t x u v f = inr (f (ap (coordinator_at kinds.Durable) v))
joins e kinds.Volatile kinds.Durable state coordinator s t x u v f = inl (ap (coordinator_at kinds.Durable) v ∙ sym (ap (coordinator_at kinds.Durable) u))
joins e kinds.Durable kinds.Volatile state coordinator s t x u v f = inl (ap (coordinator_at kinds.Volatile) v ∙ sym (ap (coordinator_at kinds.Volatile) u))

link_registered_does : (e : Event) (m : Moment) (relates : Option (List ℕ)) (coordinator : Epr) (kind : Kind) (s : Superior) (t : Transaction) → t.superior ≡ Some s
    → ((x : Transaction) → (link_of kind s).state ≡ states.Registering → coordinator_at kind x.superior ≡ Some coordinator → IsJoined kind e t x)
    → Done e t (link_registered m relates coordinator kind s t)
unfolding link_registered
link_registered_does e m relates coordinator kind s t u joined =
    let after : Superior = set_link kind (record { state = states.Active; coordinator = Some coordinator }) s in
    let x : Transaction = record t { superior = Some after; phase = registered after t.phase } in
    let own : Bool = relates_to relates (register_id m.base (targets.Participant t.id kind)) in
    either e t (is_state (link_of kind s).state states.Registering && own) _ _
    (λ f. idles e t x [] [] (same_as t t x refl refl refl (sym (ap (λ y. is_none y) u)) refl (itself t))
    (λ k. joins e kind k states.Active coordinator s t x u refl
    (joined x (only_registering (link_of kind s).state (first_true (is_state (link_of kind s).state states.Registering) own f)))) (count_same e t t.seats) (registered_on after t.phase) refl tt) (λ f. ignores e t)

registering : (state : State) → is_state state states.Registering ≡ true → MayAbort state
registering states.Registering e = tt
registering states.Active e = tt
registering states.Preparing e = tt
registering other e = absurd cc

link_fault_does : (e : Event) (m : Moment) (relates : Option (List ℕ)) (kind : Kind) (s : Superior) (t : Transaction) → t.superior ≡ Some s → Standing t → Done e t (link_fault m relates kind s t)
unfolding link_fault
link_fault_does e m relates kind s t u h =
    let own : Bool = relates_to relates (register_id m.base (targets.Participant t.id kind)) in
    either e t (is_state (link_of kind s).state states.Registering && own) _ _
    (λ f. aborts e t m Alone (begin t)
    (may_abort t.phase kind s (known t s u h.linked).0 (registering (link_of kind s).state (first_true (is_state (link_of kind s).state states.Registering) own f))) (begins e t [] tt h))
    (λ f. ignores e t)

link_does : (e : Event) (m : Moment) (a : Arrived) (kind : Kind) (t : Transaction) (s : Superior) (x : Message) → e ≡ events.Arrived a → a.target ≡ targets.Participant t.id kind → a.message ≡ x
    → t.superior ≡ Some s → Standing t → Done e t (on_link m a kind t s x)
unfolding on_link
link_does e m a kind t s (messages.Notice n) came at says u h =
    link_notice_does e m a.from a.id kind s t n (participant_of kind (link_of kind s).state n) u
    (record { message = a; came = came; target = at; says = says }) (link_table kind (link_of kind s).state n) h
link_does e m a kind t s (messages.RegisterResponse coordinator) came at says u h =
    link_registered_does e m a.relates coordinator kind s t u
    (λ y w k. record {
      coordinator = coordinator;
      message = a;
      came = came;
      target = at;
      says = says;
      waited = λ z v. let same : s ≡ z = one_superior t s z u v in subst (λ l. (link_of kind l).state ≡ states.Registering) same w;
      known = k;
    })
link_does e m a kind t s (messages.Fault name) came at says u h = link_fault_does e m a.relates kind s t u h
link_does e m a kind t s other came at says u h = ignores e t

-- the initiator completes, or aborts, only while its seat is Active
abbrev CompletionActs : State → Notice → Act → Type 0
CompletionActs state n acts.SendCommitted = (state ≡ states.Done) × (n ≡ notices.Commit)
CompletionActs state n acts.Complete = state ≡ states.Active
CompletionActs state n acts.AbortAndSendAborted = state ≡ states.Active
CompletionActs state n other = Unit {0}

abbrev CompletionCell : State → Notice → Option Cell → Type 0
CompletionCell state n None = Unit {0}
CompletionCell state n (Some c) = CompletionActs state n c.act

completion_table : (state : State) (n : Notice) → CompletionCell state n (completion_of state n)
completion_table states.None notices.Commit = tt
completion_table states.None notices.Rollback = tt
completion_table states.None other = tt
completion_table states.Active notices.Commit = refl
completion_table states.Active notices.Rollback = refl
completion_table states.Active other = tt
completion_table states.Completing notices.Commit = tt
completion_table states.Completing notices.Rollback = tt
completion_table states.Completing other = tt
completion_table states.Done notices.Commit = (refl, refl)
completion_table states.Done notices.Rollback = tt
completion_table states.Done other = tt
completion_table states.Registering notices.Commit = tt
completion_table states.Registering other = tt
completion_table states.Preparing notices.Commit = tt
completion_table states.Preparing other = tt
completion_table states.Prepared notices.Commit = tt
completion_table states.Prepared other = tt
completion_table states.PreparedSuccess notices.Commit = tt
completion_table states.PreparedSuccess other = tt
completion_table states.Committing notices.Commit = tt
completion_table states.Committing other = tt
completion_table states.Aborting notices.Commit = tt
completion_table states.Aborting other = tt

completing : (e : Event) (t : Transaction) (c : Completion) → t.completion ≡ Some c → Standing t → From e t (begin (record t { completion = Some (record c { state = states.Completing }) }))
completing e t c u h = record {
  same = same_as t t _ refl refl refl refl (sym (ap (λ x. initiator x) u)) (itself t);
  above = λ k. refl;
  counted = count_same e t t.seats;
  quiet = refl;
  on = inr refl;
  behind = h.behind;
  posts = tt;
}

completion_act_does : (e : Event) (m : Moment) (from : Option Epr) (i : Option (List ℕ)) (c : Completion) (t : Transaction) (n : Notice) (act : Act) → t.completion ≡ Some c
    → (n ≡ notices.Commit → (to : Epr) → from ≡ Some to → InitiatorAsked e t to) → CompletionActs c.state n act → Standing t → Done e t (completion_act m from i c t act)
unfolding completion_act
completion_act_does e m from i c t n acts.SendCommitted u asked (k, l) h =
    stays_same e t _
    (to_each_all (IsPosted e t How.Idles t.seats) from _ (λ to f. to_asking c to u k (asked l to f) (initiator_notice_of m.base t.id t.id to notices.Committed refl)))
completion_act_does e m from i c t n acts.FaultUnknownTransaction u asked k h = stays_same e t _ (is_no_notice tt, tt)
completion_act_does e m from i c t n acts.FaultInvalidState u asked k h = stays_same e t _ (is_no_notice tt, tt)
completion_act_does e m from i c t n acts.Complete u asked k h = go_volatile_does e t m _ (h.finished.initiator c u k) (completing e t c u h)
completion_act_does e m from i c t n acts.AbortAndSendAborted u asked k h = aborts e t m Alone (begin t) (h.finished.initiator c u k) (begins e t [] tt h)
completion_act_does e m from i c t n other u asked k h = ignores e t

completion_notice_does : (e : Event) (m : Moment) (from : Option Epr) (i : Option (List ℕ)) (c : Completion) (t : Transaction) (n : Notice) (cell : Option Cell) → t.completion ≡ Some c
    → (n ≡ notices.Commit → (to : Epr) → from ≡ Some to → InitiatorAsked e t to) → CompletionCell c.state n cell → Standing t → Done e t (completion_notice m from i c t cell)
unfolding completion_notice
completion_notice_does e m from i c t n None u asked k h = ignores e t
completion_notice_does e m from i c t n (Some cell) u asked k h = completion_act_does e m from i c t n cell.act u asked k h

completion_does : (e : Event) (m : Moment) (a : Arrived) (t : Transaction) (c : Completion) (x : Message) → e ≡ events.Arrived a → a.target ≡ targets.Completion t.id → a.message ≡ x
    → t.completion ≡ Some c → Standing t → Done e t (on_completion m a t c x)
unfolding on_completion
completion_does e m a t c (messages.Notice n) came at says u h =
    completion_notice_does e m a.from a.id c t n (completion_of c.state n) u
    (λ k to f. record { message = a; came = came; target = at; says = says ∙ ap (λ y. messages.Notice y) k; from = f }) (completion_table c.state n) h
completion_does e m a t c other came at says u h = ignores e t

-- what is due
abbrev DueSays : Transaction → Reached → Type 0
DueSays t Expired = may_expire t.phase ≡ true
DueSays t Over = t.phase ≡ Phase.Aborting
DueSays t Unanswered = Unit {0}
DueSays t Nothing = Unit {0}

only_aborting : (phase : Phase) → is_aborting phase ≡ true → phase ≡ Phase.Aborting
only_aborting Phase.Aborting e = refl
only_aborting Phase.Registering e = absurd cc
only_aborting Phase.Active e = absurd cc
only_aborting Phase.Volatile e = absurd cc
only_aborting Phase.Durable e = absurd cc
only_aborting Phase.Voted e = absurd cc
only_aborting Phase.Committing e = absurd cc

due_says : (m : Moment) (t : Transaction) → DueSays t (transaction_due m t)
due_says m t =
    either_of (DueSays t) (may_expire t.phase && has_come m.now t.deadline) _ _ (λ e. first_true (may_expire t.phase) (has_come m.now t.deadline) e)
    (λ e. either_of (DueSays t) (is_aborting t.phase && is_over m.now t.aborted) _ _ (λ f. only_aborting t.phase (first_true (is_aborting t.phase) (is_over m.now t.aborted) f))
    (λ f. either_of (DueSays t) (is_quiet m.now t.sent && is_some_post (transaction_again m.base t)) _ _ (λ g. tt) (λ g. tt)))

-- all that is sent again
seat_again_all : (e : Event) (m : Moment) (t : Transaction) (s : Enlistment) (state : State) → s.state ≡ state → IsIn s t.seats
    → AllByRecursion (IsPosted e t How.Idles t.seats) (seat_again m.base t.id s (unanswered_seat state))
seat_again_all e m t s states.Preparing k i =
    (to_seat s notices.Prepare i (subst IsUnanswered (sym k) tt) (seat_notice_of m.base t.id t.id s s notices.Prepare refl refl), tt)
seat_again_all e m t s states.Committing k i = (to_seat s notices.Commit i (inl k) (seat_notice_of m.base t.id t.id s s notices.Commit refl refl), tt)
seat_again_all e m t s states.Aborting k i = (to_seat s notices.Rollback i (inl k) (seat_notice_of m.base t.id t.id s s notices.Rollback refl refl), tt)
seat_again_all e m t s states.None k i = tt
seat_again_all e m t s states.Registering k i = tt
seat_again_all e m t s states.Active k i = tt
seat_again_all e m t s states.Prepared k i = tt
seat_again_all e m t s states.PreparedSuccess k i = tt
seat_again_all e m t s states.Completing k i = tt
seat_again_all e m t s states.Done k i = tt

seats_again_all : (e : Event) (m : Moment) (t : Transaction) (seats : List Enlistment) → ((s : Enlistment) → IsIn s seats → IsIn s t.seats)
    → AllByRecursion (IsPosted e t How.Idles t.seats) (seats_again m.base t.id seats)
seats_again_all e m t [] f = tt
seats_again_all e m t (s ∷ ss) f =
    all_join (IsPosted e t How.Idles t.seats) _ _ (seat_again_all e m t s s.state refl (f s (inl refl))) (seats_again_all e m t ss (λ x i. f x (inr i)))

register_again_all : (e : Event) (m : Moment) (t : Transaction) (kind : Kind) (r : Option Request) → AllByRecursion (IsPosted e t How.Idles t.seats) (register_again_at m.base t.id kind r)
register_again_all e m t kind None = tt
register_again_all e m t kind (Some r) = (is_no_notice tt, tt)

voted_state : (state : State) → is_state state states.PreparedSuccess ≡ true → HasVoted state
voted_state states.PreparedSuccess e = tt
voted_state states.Prepared e = tt
voted_state states.None e = absurd cc
voted_state other e = absurd cc

link_again_all : (e : Event) (m : Moment) (t : Transaction) (kind : Kind) (s : Superior) → t.superior ≡ Some s → Standing t
    → AllByRecursion (IsPosted e t How.Idles t.seats) (link_again m.base t.id kind s.request (link_of kind s))
link_again_all e m t kind s u h =
    either_of (AllByRecursion (IsPosted e t How.Idles t.seats)) (is_state (link_of kind s).state states.Registering) _ _ (λ f. register_again_all e m t kind s.request)
    (λ f. either_of (AllByRecursion (IsPosted e t How.Idles t.seats)) (is_state (link_of kind s).state states.PreparedSuccess) _ _
    (λ g. prepared_again e m kind s t u (voted_state (link_of kind s).state g) h) (λ g. tt))

links_again_all : (e : Event) (m : Moment) (t : Transaction) (s : Option Superior) → t.superior ≡ s → Standing t → AllByRecursion (IsPosted e t How.Idles t.seats) (links_again m.base t.id s)
links_again_all e m t None u h = tt
links_again_all e m t (Some s) u h = all_join (IsPosted e t How.Idles t.seats) _ _ (link_again_all e m t kinds.Volatile s u h) (link_again_all e m t kinds.Durable s u h)

again_all : (e : Event) (m : Moment) (t : Transaction) → Standing t → AllByRecursion (IsPosted e t How.Idles t.seats) (transaction_again m.base t)
again_all e m t h = all_join (IsPosted e t How.Idles t.seats) _ _ (links_again_all e m t t.superior refl h) (seats_again_all e m t t.seats (λ s i. i))

due_does : (e : Event) (m : Moment) (t : Transaction) (reached : Reached) → DueSays t reached → Standing t → Done e t (transaction_reached m t reached)
unfolding transaction_reached
due_does e m t Expired k h = aborts e t m Alone (begin t) k (begins e t [] tt h)
due_does e m t Over k h = forgets e t t.seats [] [] k (count_same e t t.seats) refl tt
due_does e m t Unanswered k h = stays_sent e t _ _ refl refl refl refl refl refl refl (again_all e m t h)
due_does e m t Nothing k h = ignores e t

-- the answer to a request leaves the deed as it is
becomes_under : (how : How) (t : Transaction) (at : List Enlistment) (s : Superior) (x : Transaction) → Becomes how t at (Some x) → Becomes how t at (Some (under s x))
becomes_under How.Idles t at s x h = h
becomes_under How.Aborts t at s x h = h
becomes_under How.Votes t at s x h = h
becomes_under How.Decides t at s x h = h
becomes_under How.DecidesAlone t at s x h = absurd cc
becomes_under How.Leaves t at s x h = absurd cc
becomes_under How.Commits t at s x h = h
becomes_under How.RollsBack t at s x h = h
becomes_under How.Ends t at s x h = absurd cc
becomes_under How.Forgets t at s x h = absurd cc

-- and adds a post that is no notification
abbrev NoNotice : Post → Type 0
NoNotice p = IsNoNotice p.message

refused_all : (P : Post → Type 0) (r : Request) → ((p : Post) → NoNotice p → P p) → AllByRecursion P (refused_request r)
refused_all P r f = at_reply r.fault
  where
    at_reply : (reply : Reply) → AllByRecursion P (refused_at reply r.id)
    at_reply replies.Anonymous = tt
    at_reply replies.Nobody = tt
    at_reply (replies.At to) = (f _ tt, tt)

stands_posts : (P : Post → Type 0) (m : Moment) (r : Request) (t : Transaction) (s : Superior) (phase : Phase) (c : Change Transaction) → ((p : Post) → NoNotice p → P p)
    → AllByRecursion P c.posts → AllByRecursion P (request_stands m r t s phase c).posts
stands_posts P m r t s Phase.Aborting c f h = all_join P c.posts (refused_request r) h (refused_all P r f)
stands_posts P m r t s other c f h =
    either_left (λ x. AllByRecursion P x.posts) (is_registering s) c
    (record {
      item = Some (under (request_answered s) t);
      posts = c.posts ++ reply_post (Some r.reply) r.id (messages.CreateResponse (context_of m.base t r.expires)) ∷ [];
      effects = c.effects;
    }) h (all_join P c.posts _ h (f _ tt, tt))

under_posts : (P : Post → Type 0) (m : Moment) (r : Request) (t : Transaction) (s : Option Superior) (c : Change Transaction) → ((p : Post) → NoNotice p → P p) → AllByRecursion P c.posts
    → AllByRecursion P (request_under m r t s c).posts
under_posts P m r t None c f h = h
under_posts P m r t (Some s) c f h = stands_posts P m r t s t.phase c f h

left_posts : (P : Post → Type 0) (m : Moment) (r : Request) (t : Option Transaction) (c : Change Transaction) → ((p : Post) → NoNotice p → P p) → AllByRecursion P c.posts
    → AllByRecursion P (request_left m r t c).posts
left_posts P m r None c f h = all_join P c.posts (refused_request r) h (refused_all P r f)
left_posts P m r (Some t) c f h = under_posts P m r t t.superior c f h

answer_posts : (P : Post → Type 0) (m : Moment) (q : Option Request) (c : Change Transaction) → ((p : Post) → NoNotice p → P p) → AllByRecursion P c.posts
    → AllByRecursion P (answer_request m q c).posts
answer_posts P m None c f h = h
answer_posts P m (Some r) c f h = left_posts P m r c.item c f h

above_answered : (kind : Kind) (s : Superior) → coordinator_at kind (Some (request_answered s)) ≡ coordinator_at kind (Some s)
above_answered kinds.Volatile s = refl
above_answered kinds.Durable s = refl

still_linked : (e : Event) (t x : Transaction) (s : Superior) (kind : Kind) → x.superior ≡ Some s → KeepsLink e t x kind → KeepsLink e t (under (request_answered s) x) kind
still_linked e t x s kind u (inl k) = inl (above_answered kind s ∙ sym (ap (coordinator_at kind) u) ∙ k)
still_linked e t x s kind u (inr k) = inr (record {
  coordinator = k.coordinator;
  message = k.message;
  came = k.came;
  target = k.target;
  says = k.says;
  waited = k.waited;
  known = above_answered kind s ∙ sym (ap (coordinator_at kind) u) ∙ k.known;
})

answer_deed : (e : Event) (t : Transaction) (r : Option Record) (m : Moment) (q : Option Request) (c : Change Transaction) → Deed e t r c → Deed e t r (answer_request m q c)
answer_deed e t r m q c h = record {
  how = h.how;
  at = h.at;
  counted = h.counted;
  stood = h.stood;
  heard = h.heard;
  behind = h.behind;
  records = h.records;
  happened = answer_effects m q c ∙ h.happened;
  becomes = answer_has (Becomes h.how t h.at) (λ s x u k. becomes_under h.how t h.at (request_answered s) x k) m q c h.becomes;
  same = answer_has (IsSameIfLeft t) (λ s x u k. same_as t x (under (request_answered s) x) refl refl refl (sym (ap (λ y. is_none y) u)) refl k) m q c h.same;
  links = answer_has (KeepsLinksIfLeft e t) (λ s x u k own. still_linked e t x s own u (k own)) m q c h.links;
  posts = answer_posts (IsPosted e t h.how h.at) m q c (λ p k. is_no_notice k) h.posts;
}

with_answer_does : (e : Event) (m : Moment) (t : Transaction) (q : Option Request) (d : Decision Transaction) → Done e t d → Done e t (in_both (answer_request m q) d)
with_answer_does e m t q (Goes c) h = answer_deed e t None m q c h
with_answer_does e m t q (Records r c None) h = answer_deed e t (Some r) m q c h
with_answer_does e m t q (Records r c (Some d)) (h, k) = (answer_deed e t (Some r) m q c h, answer_deed e t None m q d k)

-- each way to move
same_seat : (id : Numbers) (number : ℕ) (kind : Kind) (s : Enlistment) → s.number ≡ number → s.kind ≡ kind
    → targets.Coordinator id (record { number = number; kind = kind }) ≡ targets.Coordinator id (record { number = s.number; kind = s.kind })
same_seat id number kind s e f = rw (e, f) refl

at_its_seat : (e : Event) (a : Arrived) (t : Transaction) (s : Enlistment) (n : Notice) → e ≡ events.Arrived a → IsAtSeat a t s → a.message ≡ messages.Notice n → Standing t → AtSeat e t s n
at_its_seat e a t s n came why says h = record {
  said = record {
    message = a;
    came = came;
    target = why.target
        ∙ same_seat t.id why.number why.kind s (of_number why.kind t.seats why.number s why.found) (same_kind s.kind why.kind (of_kind why.kind t.seats why.number s why.found));
    says = says;
  };
  sits = found_in why.kind t.seats why.number s why.found;
  only = only_one 0 why.number why.kind t.seats s (kept_rise t.phase t.seats h.finished.numbers) why.found;
  asks = λ u. asks_still why.number why.kind t s why.found u h;
}

moved_does : (b : Book) (e : Event) (now : ℕ) (t : Transaction) (d : Decision Transaction) → Standing t → MovesTransaction b e now t d → Done e t d
moved_does b e now t d h (at_seat a s came why is) =
    subst (Done e t) (sym is) (seat_does e (moment_of b now) a t s a.message (λ n says. at_its_seat e a t s n came why says h) h)
moved_does b e now t d h (at_link a kind s came why under is) = subst (Done e t) (sym is) (link_does e (moment_of b now) a kind t s a.message came why refl under h)
moved_does b e now t d h (at_completion a c came why there is) = subst (Done e t) (sym is) (completion_does e (moment_of b now) a t c a.message came why refl there h)
moved_does b e now t d h (when_due came is) = subst (Done e t) (sym is) (due_does e (moment_of b now) t _ (due_says (moment_of b now) t) h)

does : (b : Book) (e : Event) (now : ℕ) (id : Numbers) (t : Transaction) (d : Decision Transaction) → IsInPhase b → AreFinished b → transaction_at b id ≡ Some t → MovesTransaction b e now t d
    → Done e t (with_answer (moment_of b now) t d)
does b e now id t d l f stands how =
    let h : Standing t = record {
      behind = all_find (λ x. StandsBehind x.phase x.seats) transaction_id id b.transactions t l.answers stands;
      linked = all_find Linked transaction_id id b.transactions t l.links stands;
      finished = all_find IsFinished transaction_id id b.transactions t f stands;
    } in
    with_answer_does e (moment_of b now) t (request_of t.superior) d (moved_does b e now t d h how)

pub transactions_do : TransactionsDo
transactions_do = record { deeds = does }
