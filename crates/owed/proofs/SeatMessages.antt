-- What a seat's message does.
use Rattle.std.specs.Prelude.{ℕ, List, [], ◌∷◌, Option, Some, None, Bool, true, false, not, nat_eq, ◌&&◌, ◌||◌, if◌then◌else◌, ◌≡◌, ◌⊎◌, ◌<◌, ◌≤◌, refl}
use Rattle.std.specs.List.{AllByRecursion}
use Rattle.std.proofs.Common.{arith, inl, inr, sym, subst, ◌∙◌}
use Rattle.at_base.specs.declared.fault.Fault.TheVariants.{InvalidState, UnknownTransaction}
use Rattle.at_base.specs.declared.notice.Kind.{Kind}
use Rattle.at_base.specs.declared.notice.Kind.TheVariants as kinds
use Rattle.at_base.specs.declared.notice.Notice.{Notice}
use Rattle.at_base.specs.declared.notice.Notice.TheVariants as notices
use Rattle.at_base.specs.declared.message.Message.{Message}
use Rattle.at_base.specs.declared.message.Message.TheVariants as messages
use Rattle.at_base.specs.declared.event.Arrived.{Arrived}
use Rattle.at_base.specs.declared.event.Event.{Event}
use Rattle.at_base.specs.declared.event.Moment.{Moment}
use Rattle.at_base.specs.declared.outs.Post.{Post}
use Rattle.at_tables.specs.declared.cells.State.{State}
use Rattle.at_tables.specs.declared.cells.State.TheVariants as states
use Rattle.at_tables.specs.declared.cells.Act.{Act}
use Rattle.at_tables.specs.declared.cells.Act.TheVariants as acts
use Rattle.at_tables.specs.declared.cells.Cell.{Cell}
use Rattle.at_tables.specs.Names.{is_state}
use Rattle.at_base.specs.Names.{is_kind}
use Rattle.at_tables.specs.Tables.{coordinator_of}
use Rattle.at_model.specs.Book.{Enlistment, Phase, Transaction}
use Rattle.at_model.specs.Moves.{begin, post}
use Rattle.at_model.specs.Posts.{fault_post, notice_post, stranger_post}
use Rattle.at_model.specs.Seats.{in_state, is_open, moved, seat_in, seat_target}
use Rattle.at_model.specs.Abort.{Alone}
use Rattle.at_model.specs.Phases.{advance}
use Rattle.at_model.specs.Arrivals.{answer_left_seat, answer_seat, on_seat, seat_act, seat_notice}
use Rattle.at_model.specs.Step.{find_seat}
use Rattle.model_laws.specs.Agreement.{IsIn}
use Rattle.model_laws.specs.PhaseAnswers.{IsUnanswered}
use Rattle.model_laws.specs.BookBounds.{SeatsRise}
use Rattle.model_laws.proofs.LinkDecisions.{Linked}
use Rattle.owed.specs.Seats.{AnswersSeat, IsOwed, IsTold, Pairs}
use Rattle.owed.specs.Shape.{IsShaped, suits}
use Rattle.owed.proofs.AtSeats.{AtSeat, Goes, Leaves, LeavesAs, Unheard, are_in, asked_of, goes_are, goes_owed, kept_of, open_pairs, same_left, unanswered_all}
use Rattle.owed.proofs.PhaseAdvances.{advance_owes}
use Rattle.owed.proofs.Rules.{Along, Left, Loose, Owes, aborts, aborts_open, either}
use Rattle.owed.proofs.Tables.{at_kind, at_seat, every_kind, every_seat, implied}

-- A number names one seat.
found_above : (last number : ℕ) (kind : Kind) (seats : List Enlistment) (s : Enlistment) → SeatsRise last seats → find_seat number kind seats ≡ Some s → last < s.number
found_above last number kind [] s h e = absurd cc
found_above last number kind (x ∷ xs) s (h, k) e = by_test (nat_eq x.number number && is_kind x.kind kind) (λ f. found_above x.number number kind xs s k f) e
  where
    by_test : (b : Bool) → (find_seat number kind xs ≡ Some s → x.number < s.number) → (if b then Some x else find_seat number kind xs) ≡ Some s → last < s.number
    by_test true rest f = let same : x ≡ s = cc in subst (λ y. last < y.number) same h
    by_test false rest f = omega (arith, h, rest f)

all_above : (last : ℕ) (seats : List Enlistment) (number : ℕ) (s : Enlistment) → SeatsRise last seats → number ≤ last → AllByRecursion (λ x. x.number ≡ number → x ≡ s) seats
all_above last [] number s h e = tt
all_above last (x ∷ xs) number s (h, k) e = ((λ f. absurd (omega (arith, h, e, f))), all_above x.number xs number s k (omega (arith, h, e)))

pub only_one : (last number : ℕ) (kind : Kind) (seats : List Enlistment) (s : Enlistment) → SeatsRise last seats → find_seat number kind seats ≡ Some s
    → AllByRecursion (λ x. x.number ≡ s.number → x ≡ s) seats
only_one last number kind [] s h e = tt
only_one last number kind (x ∷ xs) s (h, k) e = by_test (nat_eq x.number number && is_kind x.kind kind) (λ f. only_one x.number number kind xs s k f) e
  where
    by_test : (b : Bool) → (find_seat number kind xs ≡ Some s → AllByRecursion (λ y. y.number ≡ s.number → y ≡ s) xs) → (if b then Some x else find_seat number kind xs) ≡ Some s
        → AllByRecursion (λ y. y.number ≡ s.number → y ≡ s) (x ∷ xs)
    by_test true rest f =
        let same : x ≡ s = cc in
        let low : s.number ≤ x.number = subst (λ y. y.number ≤ x.number) same (omega arith) in
        ((λ g. same), all_above x.number xs s.number s k low)
    by_test false rest f = ((λ g. let above : x.number < s.number = found_above x.number number kind xs s k f in absurd (omega (arith, above, g))), rest f)

-- What the coordinator's table does at a seat.
abbrev MovesOn : State → Type 0
MovesOn states.Active = Unit {0}
MovesOn states.Preparing = Unit {0}
MovesOn states.Committing = Unit {0}
MovesOn states.Aborting = Unit {0}
MovesOn other = ⊥

abbrev NeverSays : Notice → Type 0
NeverSays notices.Prepared = ⊥
NeverSays other = Unit {0}

abbrev pub HearsAt : Kind → State → Notice → Act → Type 0
HearsAt kind state n acts.Vote = state ≡ states.Preparing
HearsAt kind state n acts.Leave = MovesOn state × NeverSays n
HearsAt kind state n acts.LeaveAndAbort = IsUnanswered state × NeverSays n
HearsAt kind state n acts.FaultInvalidStateAndAbort = IsUnanswered state
HearsAt kind state n acts.SendCommit = (state ≡ states.Committing) × (n ≡ notices.Prepared)
HearsAt kind state n acts.SendRollback = (state ≡ states.Aborting) ⊎ ((state ≡ states.None) × (kind ≡ kinds.Durable))
HearsAt kind state n other = Leaves kind state n

abbrev pub HearsCell : Kind → State → Notice → Option Cell → Type 0
HearsCell kind state n None = Leaves kind state n
HearsCell kind state n (Some c) = HearsAt kind state n c.act

-- the states that a seat may have
abbrev pub IsSeatState : State → Type 0
IsSeatState states.None = Unit {0}
IsSeatState states.Active = Unit {0}
IsSeatState states.Preparing = Unit {0}
IsSeatState states.Prepared = Unit {0}
IsSeatState states.Committing = Unit {0}
IsSeatState states.Aborting = Unit {0}
IsSeatState other = ⊥

-- nothing that one asks is an answer
unheard : (kind : Kind) (state : State) (n : Notice) → (AnswersSeat n → ⊥) → (n ≡ notices.Committed → ⊥) → (n ≡ notices.Prepared → ⊥) → Leaves kind state n
unheard kind state n f g h = ((λ e a. f a), ((λ e a. g a), (λ d a. absurd (h a))))

other_state : (kind : Kind) (state : State) (n : Notice) → (state ≡ states.Preparing → ⊥) → (state ≡ states.Committing → ⊥) → (n ≡ notices.Prepared → ⊥) → Leaves kind state n
other_state kind state n f g h = ((λ e a. f e), ((λ e a. g e), (λ d a. absurd (h a))))

pub table : (kind : Kind) (state : State) (n : Notice) → IsSeatState state → HearsCell kind state n (coordinator_of kind state n)
table kinds.Volatile states.None notices.Prepared h = ((λ e a. absurd cc), ((λ e a. absurd cc), (λ e a. absurd cc)))
table kinds.Volatile states.None notices.ReadOnly h = other_state kinds.Volatile states.None notices.ReadOnly (λ e. absurd cc) (λ e. absurd cc) (λ e. absurd cc)
table kinds.Volatile states.None notices.Aborted h = other_state kinds.Volatile states.None notices.Aborted (λ e. absurd cc) (λ e. absurd cc) (λ e. absurd cc)
table kinds.Volatile states.None notices.Committed h = other_state kinds.Volatile states.None notices.Committed (λ e. absurd cc) (λ e. absurd cc) (λ e. absurd cc)
table kinds.Volatile states.None notices.Prepare h = unheard kinds.Volatile states.None notices.Prepare (λ a. a) (λ e. absurd cc) (λ e. absurd cc)
table kinds.Volatile states.None notices.Commit h = unheard kinds.Volatile states.None notices.Commit (λ a. a) (λ e. absurd cc) (λ e. absurd cc)
table kinds.Volatile states.None notices.Rollback h = unheard kinds.Volatile states.None notices.Rollback (λ a. a) (λ e. absurd cc) (λ e. absurd cc)
table kinds.Volatile states.Active notices.Prepared h = tt
table kinds.Volatile states.Active notices.ReadOnly h = (tt, tt)
table kinds.Volatile states.Active notices.Aborted h = (tt, tt)
table kinds.Volatile states.Active notices.Committed h = tt
table kinds.Volatile states.Active notices.Prepare h = unheard kinds.Volatile states.Active notices.Prepare (λ a. a) (λ e. absurd cc) (λ e. absurd cc)
table kinds.Volatile states.Active notices.Commit h = unheard kinds.Volatile states.Active notices.Commit (λ a. a) (λ e. absurd cc) (λ e. absurd cc)
table kinds.Volatile states.Active notices.Rollback h = unheard kinds.Volatile states.Active notices.Rollback (λ a. a) (λ e. absurd cc) (λ e. absurd cc)
table kinds.Volatile states.Preparing notices.Prepared h = refl
table kinds.Volatile states.Preparing notices.ReadOnly h = (tt, tt)
table kinds.Volatile states.Preparing notices.Aborted h = (tt, tt)
table kinds.Volatile states.Preparing notices.Committed h = tt
table kinds.Volatile states.Preparing notices.Prepare h = unheard kinds.Volatile states.Preparing notices.Prepare (λ a. a) (λ e. absurd cc) (λ e. absurd cc)
table kinds.Volatile states.Preparing notices.Commit h = unheard kinds.Volatile states.Preparing notices.Commit (λ a. a) (λ e. absurd cc) (λ e. absurd cc)
table kinds.Volatile states.Preparing notices.Rollback h = unheard kinds.Volatile states.Preparing notices.Rollback (λ a. a) (λ e. absurd cc) (λ e. absurd cc)
table kinds.Volatile states.Prepared notices.Prepared h = ((λ e a. absurd cc), ((λ e a. absurd cc), (λ d a. refl)))
table kinds.Volatile states.Prepared notices.ReadOnly h = other_state kinds.Volatile states.Prepared notices.ReadOnly (λ e. absurd cc) (λ e. absurd cc) (λ e. absurd cc)
table kinds.Volatile states.Prepared notices.Aborted h = other_state kinds.Volatile states.Prepared notices.Aborted (λ e. absurd cc) (λ e. absurd cc) (λ e. absurd cc)
table kinds.Volatile states.Prepared notices.Committed h = other_state kinds.Volatile states.Prepared notices.Committed (λ e. absurd cc) (λ e. absurd cc) (λ e. absurd cc)
table kinds.Volatile states.Prepared notices.Prepare h = unheard kinds.Volatile states.Prepared notices.Prepare (λ a. a) (λ e. absurd cc) (λ e. absurd cc)
table kinds.Volatile states.Prepared notices.Commit h = unheard kinds.Volatile states.Prepared notices.Commit (λ a. a) (λ e. absurd cc) (λ e. absurd cc)
table kinds.Volatile states.Prepared notices.Rollback h = unheard kinds.Volatile states.Prepared notices.Rollback (λ a. a) (λ e. absurd cc) (λ e. absurd cc)
table kinds.Volatile states.Committing notices.Prepared h = (refl, refl)
table kinds.Volatile states.Committing notices.ReadOnly h = ((λ e a. absurd cc), ((λ e a. absurd cc), (λ d a. absurd cc)))
table kinds.Volatile states.Committing notices.Aborted h = ((λ e a. absurd cc), ((λ e a. absurd cc), (λ d a. absurd cc)))
table kinds.Volatile states.Committing notices.Committed h = (tt, tt)
table kinds.Volatile states.Committing notices.Prepare h = unheard kinds.Volatile states.Committing notices.Prepare (λ a. a) (λ e. absurd cc) (λ e. absurd cc)
table kinds.Volatile states.Committing notices.Commit h = unheard kinds.Volatile states.Committing notices.Commit (λ a. a) (λ e. absurd cc) (λ e. absurd cc)
table kinds.Volatile states.Committing notices.Rollback h = unheard kinds.Volatile states.Committing notices.Rollback (λ a. a) (λ e. absurd cc) (λ e. absurd cc)
table kinds.Volatile states.Aborting notices.Prepared h = inl refl
table kinds.Volatile states.Aborting notices.ReadOnly h = (tt, tt)
table kinds.Volatile states.Aborting notices.Aborted h = (tt, tt)
table kinds.Volatile states.Aborting notices.Committed h = other_state kinds.Volatile states.Aborting notices.Committed (λ e. absurd cc) (λ e. absurd cc) (λ e. absurd cc)
table kinds.Volatile states.Aborting notices.Prepare h = unheard kinds.Volatile states.Aborting notices.Prepare (λ a. a) (λ e. absurd cc) (λ e. absurd cc)
table kinds.Volatile states.Aborting notices.Commit h = unheard kinds.Volatile states.Aborting notices.Commit (λ a. a) (λ e. absurd cc) (λ e. absurd cc)
table kinds.Volatile states.Aborting notices.Rollback h = unheard kinds.Volatile states.Aborting notices.Rollback (λ a. a) (λ e. absurd cc) (λ e. absurd cc)
table kinds.Durable states.None notices.Prepared h = inr (refl, refl)
table kinds.Durable states.None notices.ReadOnly h = other_state kinds.Durable states.None notices.ReadOnly (λ e. absurd cc) (λ e. absurd cc) (λ e. absurd cc)
table kinds.Durable states.None notices.Aborted h = other_state kinds.Durable states.None notices.Aborted (λ e. absurd cc) (λ e. absurd cc) (λ e. absurd cc)
table kinds.Durable states.None notices.Committed h = other_state kinds.Durable states.None notices.Committed (λ e. absurd cc) (λ e. absurd cc) (λ e. absurd cc)
table kinds.Durable states.None notices.Prepare h = unheard kinds.Durable states.None notices.Prepare (λ a. a) (λ e. absurd cc) (λ e. absurd cc)
table kinds.Durable states.None notices.Commit h = unheard kinds.Durable states.None notices.Commit (λ a. a) (λ e. absurd cc) (λ e. absurd cc)
table kinds.Durable states.None notices.Rollback h = unheard kinds.Durable states.None notices.Rollback (λ a. a) (λ e. absurd cc) (λ e. absurd cc)
table kinds.Durable states.Active notices.Prepared h = tt
table kinds.Durable states.Active notices.ReadOnly h = (tt, tt)
table kinds.Durable states.Active notices.Aborted h = (tt, tt)
table kinds.Durable states.Active notices.Committed h = tt
table kinds.Durable states.Active notices.Prepare h = unheard kinds.Durable states.Active notices.Prepare (λ a. a) (λ e. absurd cc) (λ e. absurd cc)
table kinds.Durable states.Active notices.Commit h = unheard kinds.Durable states.Active notices.Commit (λ a. a) (λ e. absurd cc) (λ e. absurd cc)
table kinds.Durable states.Active notices.Rollback h = unheard kinds.Durable states.Active notices.Rollback (λ a. a) (λ e. absurd cc) (λ e. absurd cc)
table kinds.Durable states.Preparing notices.Prepared h = refl
table kinds.Durable states.Preparing notices.ReadOnly h = (tt, tt)
table kinds.Durable states.Preparing notices.Aborted h = (tt, tt)
table kinds.Durable states.Preparing notices.Committed h = tt
table kinds.Durable states.Preparing notices.Prepare h = unheard kinds.Durable states.Preparing notices.Prepare (λ a. a) (λ e. absurd cc) (λ e. absurd cc)
table kinds.Durable states.Preparing notices.Commit h = unheard kinds.Durable states.Preparing notices.Commit (λ a. a) (λ e. absurd cc) (λ e. absurd cc)
table kinds.Durable states.Preparing notices.Rollback h = unheard kinds.Durable states.Preparing notices.Rollback (λ a. a) (λ e. absurd cc) (λ e. absurd cc)
table kinds.Durable states.Prepared notices.Prepared h = ((λ e a. absurd cc), ((λ e a. absurd cc), (λ d a. refl)))
table kinds.Durable states.Prepared notices.ReadOnly h = other_state kinds.Durable states.Prepared notices.ReadOnly (λ e. absurd cc) (λ e. absurd cc) (λ e. absurd cc)
table kinds.Durable states.Prepared notices.Aborted h = other_state kinds.Durable states.Prepared notices.Aborted (λ e. absurd cc) (λ e. absurd cc) (λ e. absurd cc)
table kinds.Durable states.Prepared notices.Committed h = other_state kinds.Durable states.Prepared notices.Committed (λ e. absurd cc) (λ e. absurd cc) (λ e. absurd cc)
table kinds.Durable states.Prepared notices.Prepare h = unheard kinds.Durable states.Prepared notices.Prepare (λ a. a) (λ e. absurd cc) (λ e. absurd cc)
table kinds.Durable states.Prepared notices.Commit h = unheard kinds.Durable states.Prepared notices.Commit (λ a. a) (λ e. absurd cc) (λ e. absurd cc)
table kinds.Durable states.Prepared notices.Rollback h = unheard kinds.Durable states.Prepared notices.Rollback (λ a. a) (λ e. absurd cc) (λ e. absurd cc)
table kinds.Durable states.Committing notices.Prepared h = (refl, refl)
table kinds.Durable states.Committing notices.ReadOnly h = ((λ e a. absurd cc), ((λ e a. absurd cc), (λ d a. absurd cc)))
table kinds.Durable states.Committing notices.Aborted h = ((λ e a. absurd cc), ((λ e a. absurd cc), (λ d a. absurd cc)))
table kinds.Durable states.Committing notices.Committed h = (tt, tt)
table kinds.Durable states.Committing notices.Prepare h = unheard kinds.Durable states.Committing notices.Prepare (λ a. a) (λ e. absurd cc) (λ e. absurd cc)
table kinds.Durable states.Committing notices.Commit h = unheard kinds.Durable states.Committing notices.Commit (λ a. a) (λ e. absurd cc) (λ e. absurd cc)
table kinds.Durable states.Committing notices.Rollback h = unheard kinds.Durable states.Committing notices.Rollback (λ a. a) (λ e. absurd cc) (λ e. absurd cc)
table kinds.Durable states.Aborting notices.Prepared h = inl refl
table kinds.Durable states.Aborting notices.ReadOnly h = (tt, tt)
table kinds.Durable states.Aborting notices.Aborted h = (tt, tt)
table kinds.Durable states.Aborting notices.Committed h = other_state kinds.Durable states.Aborting notices.Committed (λ e. absurd cc) (λ e. absurd cc) (λ e. absurd cc)
table kinds.Durable states.Aborting notices.Prepare h = unheard kinds.Durable states.Aborting notices.Prepare (λ a. a) (λ e. absurd cc) (λ e. absurd cc)
table kinds.Durable states.Aborting notices.Commit h = unheard kinds.Durable states.Aborting notices.Commit (λ a. a) (λ e. absurd cc) (λ e. absurd cc)
table kinds.Durable states.Aborting notices.Rollback h = unheard kinds.Durable states.Aborting notices.Rollback (λ a. a) (λ e. absurd cc) (λ e. absurd cc)
table kind other n h = absurd h

abbrev is_seat_state : State → Bool
is_seat_state s =
    is_state s states.None || is_state s states.Active || is_state s states.Preparing || is_state s states.Prepared || is_state s states.Committing || is_state s states.Aborting

state_so : (s : State) → is_seat_state s ≡ true → IsSeatState s
state_so states.None e = tt
state_so states.Active e = tt
state_so states.Preparing e = tt
state_so states.Prepared e = tt
state_so states.Committing e = tt
state_so states.Aborting e = tt
state_so other e = absurd cc

suited_states : (phase : Phase) → every_seat (λ k s. not (suits phase k s) || is_seat_state s) ≡ true
suited_states Phase.Registering = refl
suited_states Phase.Active = refl
suited_states Phase.Volatile = refl
suited_states Phase.Durable = refl
suited_states Phase.Voted = refl
suited_states Phase.Committing = refl
suited_states Phase.Aborting = refl

pub seat_state : (phase : Phase) (kind : Kind) (state : State) → suits phase kind state ≡ true → IsSeatState state
seat_state phase kind state e =
    state_so state (implied (suits phase kind state) (is_seat_state state) (at_seat (λ k s. not (suits phase k s) || is_seat_state s) (suited_states phase) kind state) e)

-- what the phase then allows
left_suits : (phase : Phase) → every_seat (λ k s. not (suits phase k s) || suits phase k states.None) ≡ true
left_suits Phase.Registering = refl
left_suits Phase.Active = refl
left_suits Phase.Volatile = refl
left_suits Phase.Durable = refl
left_suits Phase.Voted = refl
left_suits Phase.Committing = refl
left_suits Phase.Aborting = refl

pub may_leave : (phase : Phase) (kind : Kind) (state : State) → suits phase kind state ≡ true → suits phase kind states.None ≡ true
may_leave phase kind state e =
    implied (suits phase kind state) (suits phase kind states.None) (at_seat (λ k s. not (suits phase k s) || suits phase k states.None) (left_suits phase) kind state) e

vote_suits : (phase : Phase) → every_kind (λ k. not (suits phase k states.Preparing) || suits phase k states.Prepared) ≡ true
vote_suits Phase.Registering = refl
vote_suits Phase.Active = refl
vote_suits Phase.Volatile = refl
vote_suits Phase.Durable = refl
vote_suits Phase.Voted = refl
vote_suits Phase.Committing = refl
vote_suits Phase.Aborting = refl

pub may_vote : (phase : Phase) (kind : Kind) → suits phase kind states.Preparing ≡ true → suits phase kind states.Prepared ≡ true
may_vote phase kind e =
    implied (suits phase kind states.Preparing) (suits phase kind states.Prepared) (at_kind (λ k. not (suits phase k states.Preparing) || suits phase k states.Prepared) (vote_suits phase) kind) e

unanswered_loose : (phase : Phase) (kind : Kind) (state : State) → suits phase kind state ≡ true → IsUnanswered state → Loose (suits phase)
unanswered_loose Phase.Registering kind state e u = refl
unanswered_loose Phase.Active kind state e u = refl
unanswered_loose Phase.Volatile kind state e u = refl
unanswered_loose Phase.Durable kind state e u = refl
unanswered_loose Phase.Voted kind state e u = refl
unanswered_loose Phase.Committing kind states.Active e u = absurd cc
unanswered_loose Phase.Committing kind states.Preparing e u = absurd cc
unanswered_loose Phase.Committing kind other e u = absurd u
unanswered_loose Phase.Aborting kind state e u = refl

moves_unvoted : (phase : Phase) (kind : Kind) (state : State) → suits phase kind state ≡ true → MovesOn state → phase ≡ Phase.Voted → ⊥
moves_unvoted phase kind states.Active e u f = let g : suits Phase.Voted kind states.Active ≡ true = subst (λ p. suits p kind states.Active ≡ true) f e in cc
moves_unvoted phase kind states.Preparing e u f = let g : suits Phase.Voted kind states.Preparing ≡ true = subst (λ p. suits p kind states.Preparing ≡ true) f e in cc
moves_unvoted phase kind states.Committing e u f = let g : suits Phase.Voted kind states.Committing ≡ true = subst (λ p. suits p kind states.Committing ≡ true) f e in cc
moves_unvoted phase kind states.Aborting e u f = let g : suits Phase.Voted kind states.Aborting ≡ true = subst (λ p. suits p kind states.Aborting ≡ true) f e in cc
moves_unvoted phase kind other e u f = absurd u

unprepared : (state : State) → MovesOn state → state ≡ states.Prepared → ⊥
unprepared state u e = subst MovesOn e u

unanswered_moves : (state : State) → IsUnanswered state → MovesOn state
unanswered_moves states.Active u = tt
unanswered_moves states.Preparing u = tt
unanswered_moves other u = absurd u

unanswered_opens : (s : Enlistment) → IsUnanswered s.state → is_open s ≡ true
unanswered_opens s u = by_state s.state u
  where
    by_state : (x : State) → IsUnanswered x → (is_state x states.Active || is_state x states.Preparing || is_state x states.Prepared) ≡ true
    by_state states.Active v = refl
    by_state states.Preparing v = refl
    by_state other v = absurd v

never : (n : Notice) (state : State) → NeverSays n → n ≡ notices.Prepared → state ≡ states.Prepared
never n state h e = absurd (subst NeverSays e h)

differs : (s x y : State) → s ≡ x → is_state x y ≡ false → s ≡ y → ⊥
differs s x y e f g = let h : is_state y y ≡ false = subst (λ z. is_state z y ≡ false) (sym e ∙ g) f in absurd (itself y h)
  where
    itself : (z : State) → is_state z z ≡ false → ⊥
    itself states.None h = cc
    itself states.Registering h = cc
    itself states.Active h = cc
    itself states.Preparing h = cc
    itself states.Prepared h = cc
    itself states.PreparedSuccess h = cc
    itself states.Committing h = cc
    itself states.Aborting h = cc
    itself states.Completing h = cc
    itself states.Done h = cc

-- a seat that has answered or left
moves_along : (m : Moment) (e : Event) (t : Transaction) (s : Enlistment) (n : Notice) (new : State) → IsShaped t → AtSeat e t s n → Goes s.kind s.state n new → suits t.phase s.kind new ≡ true
    → Along m e t (suits t.phase) t.id (moved (λ x. nat_eq x.number s.number) new t.seats) []
moves_along m e t s n new h at g f =
    let owed : Pairs (IsOwed m.base e t []) t.seats (moved (λ x. nat_eq x.number s.number) new t.seats) = goes_owed m e t s n new t.seats at.said at.only g in (
      (refl, (goes_are (suits t.phase) s new t.seats f at.only h.0, kept_of m e t [] t.seats (moved (λ x. nat_eq x.number s.number) new t.seats) owed)),
      asked_of m e t [] t.seats (moved (λ x. nat_eq x.number s.number) new t.seats) owed,
    )

advances : (m : Moment) (e : Event) (t : Transaction) (s : Enlistment) (n : Notice) (new : State) → IsShaped t → Linked t → AtSeat e t s n → Goes s.kind s.state n new → suits t.phase s.kind new ≡ true
    → (t.phase ≡ Phase.Voted → ⊥) → Owes m e t (advance m (begin (seat_in s.number new t)))
advances m e t s n new h l at g f v = advance_owes m e t t.phase (begin (seat_in s.number new t)) refl v (moves_along m e t s n new h at g f) h.1.1 l

-- the seats stand as they did
stands_still : (m : Moment) (e : Event) (t : Transaction) (s : Enlistment) (n : Notice) (sent : Option ℕ) (ps : List Post) → IsShaped t → AtSeat e t s n → LeavesAs ps s n
    → Left m e t (record { item = Some (record t { sent = sent }); posts = ps; effects = [] })
stands_still m e t s n sent ps h at l = same_left m e t sent ps h (unanswered_all e t s n ps t.seats at.said at.only l)

as_it_was : (ps : List Post) (s : Enlistment) (n : Notice) → Leaves s.kind s.state n → LeavesAs ps s n
as_it_was ps s n (a, (b, c)) = (a, (b, λ d p. inl (c d p)))

answered_so : (ps : List Post) (s : Enlistment) (n : Notice) (x : State) → s.state ≡ x → is_state x states.Preparing ≡ false → (x ≡ states.Committing → n ≡ notices.Committed → ⊥) → IsTold ps s → LeavesAs ps s n
answered_so ps s n x e f g h = ((λ i a. differs s.state x states.Preparing e f i), ((λ i a. g (sym e ∙ i) a), (λ d p. inr h)))

rolls_again : (m : Moment) (e : Event) (t : Transaction) (s : Enlistment) (n : Notice) → IsShaped t → AtSeat e t s n → (s.state ≡ states.Aborting) ⊎ ((s.state ≡ states.None) × (s.kind ≡ kinds.Durable))
    → Owes m e t (if in_state states.None s then answer_left_seat m notices.Rollback t s else answer_seat m notices.Rollback t s)
rolls_again m e t s n h at k =
    either m e t (in_state states.None s) _ _
    (λ f. stands_still m e t s n t.sent (stranger_post m.base (seat_target t.id s) s.participant notices.Rollback ∷ []) h at (told (stranger_post m.base (seat_target t.id s) s.participant notices.Rollback) refl refl k))
    (λ f. stands_still m e t s n (Some m.now) (notice_post m.base (seat_target t.id s) s.participant notices.Rollback ∷ []) h at (told (notice_post m.base (seat_target t.id s) s.participant notices.Rollback) refl refl k))
  where
    told : (p : Post) → p.to ≡ Some s.participant → p.message ≡ messages.Notice notices.Rollback → (s.state ≡ states.Aborting) ⊎ ((s.state ≡ states.None) × (s.kind ≡ kinds.Durable)) → LeavesAs (p ∷ []) s n
    told p i j (inl x) = answered_so (p ∷ []) s n states.Aborting x refl (λ y z. absurd cc) (inr (p, inl refl, i, j))
    told p i j (inr (x, d)) = answered_so (p ∷ []) s n states.None x refl (λ y z. absurd cc) (inr (p, inl refl, i, j))

seat_act_owes : (m : Moment) (e : Event) (i : Option (List ℕ)) (t : Transaction) (s : Enlistment) (n : Notice) (act : Act) → IsShaped t → Linked t → AtSeat e t s n → HearsAt s.kind s.state n act
    → Owes m e t (seat_act m i t s act)
unfolding seat_act
seat_act_owes m e i t s n acts.Vote h l at k =
    let suited : suits t.phase s.kind states.Preparing ≡ true = subst (λ x. suits t.phase s.kind x ≡ true) k (are_in (suits t.phase) t.seats s h.0 at.sits) in
    advances m e t s n states.Prepared h l at ((λ x. absurd cc), ((λ x. absurd cc), ((λ x. differs s.state states.Preparing states.Prepared k refl x), (λ x. refl))))
    (may_vote t.phase s.kind suited) (moves_unvoted t.phase s.kind states.Preparing suited tt)
seat_act_owes m e i t s n acts.Leave h l at (u, k) =
    let suited : suits t.phase s.kind s.state ≡ true = are_in (suits t.phase) t.seats s h.0 at.sits in
    advances m e t s n states.None h l at ((λ x. absurd cc), ((λ x. absurd cc), (unprepared s.state u, never n states.None k))) (may_leave t.phase s.kind s.state suited)
    (moves_unvoted t.phase s.kind s.state suited u)
seat_act_owes m e i t s n acts.LeaveAndAbort h l at (u, k) =
    let suited : suits t.phase s.kind s.state ≡ true = are_in (suits t.phase) t.seats s h.0 at.sits in
    aborts m e t (suits t.phase) Alone (begin (seat_in s.number states.None t)) (unanswered_loose t.phase s.kind s.state suited u)
    (moves_along m e t s n states.None h at ((λ x. absurd cc), ((λ x. absurd cc), (unprepared s.state (unanswered_moves s.state u), never n states.None k))) (may_leave t.phase s.kind s.state suited)).0
seat_act_owes m e i t s n acts.FaultInvalidStateAndAbort h l at u =
    let suited : suits t.phase s.kind s.state ≡ true = are_in (suits t.phase) t.seats s h.0 at.sits in
    aborts_open m e t (suits t.phase) Alone (post (fault_post (Some s.participant) i InvalidState) (begin t)) (unanswered_loose t.phase s.kind s.state suited u)
    (refl, (h.0, open_pairs e t s n (fault_post (Some s.participant) i InvalidState ∷ []) t.seats at.said at.only (unanswered_opens s u)))
seat_act_owes m e i t s n acts.SendCommit h l at (k, p) =
    stands_still m e t s n (Some m.now) (notice_post m.base (seat_target t.id s) s.participant notices.Commit ∷ []) h at
    (answered_so (notice_post m.base (seat_target t.id s) s.participant notices.Commit ∷ []) s n states.Committing k refl (λ x y. let z : notices.Prepared ≡ notices.Committed = sym p ∙ y in absurd cc)
    (inl (notice_post m.base (seat_target t.id s) s.participant notices.Commit, inl refl, refl, refl)))
seat_act_owes m e i t s n acts.SendRollback h l at k = rolls_again m e t s n h at k
seat_act_owes m e i t s n acts.FaultUnknownTransaction h l at k =
    stands_still m e t s n t.sent (fault_post (Some s.participant) i UnknownTransaction ∷ []) h at (as_it_was (fault_post (Some s.participant) i UnknownTransaction ∷ []) s n k)
seat_act_owes m e i t s n acts.FaultInvalidState h l at k =
    stands_still m e t s n t.sent (fault_post (Some s.participant) i InvalidState ∷ []) h at (as_it_was (fault_post (Some s.participant) i InvalidState ∷ []) s n k)
seat_act_owes m e i t s n other h l at k = stands_still m e t s n t.sent [] h at (as_it_was [] s n k)

seat_notice_owes : (m : Moment) (e : Event) (i : Option (List ℕ)) (t : Transaction) (s : Enlistment) (n : Notice) (c : Option Cell) → IsShaped t → Linked t → AtSeat e t s n
    → HearsCell s.kind s.state n c → Owes m e t (seat_notice m i t s c)
unfolding seat_notice
seat_notice_owes m e i t s n None h l at k = stands_still m e t s n t.sent [] h at (as_it_was [] s n k)
seat_notice_owes m e i t s n (Some c) h l at k = seat_act_owes m e i t s n c.act h l at k

pub seat_owes : (m : Moment) (e : Event) (a : Arrived) (t : Transaction) (s : Enlistment) (x : Message) → IsShaped t → Linked t → ((n : Notice) → x ≡ messages.Notice n → AtSeat e t s n)
    → AllByRecursion (Unheard e t []) t.seats ⊎ ((n : Notice) × (x ≡ messages.Notice n)) → Owes m e t (on_seat m a t s x)
unfolding on_seat
seat_owes m e a t s (messages.Notice n) h l at u =
    let sits : IsIn s t.seats = (at n refl).sits in
    seat_notice_owes m e a.id t s n (coordinator_of s.kind s.state n) h l (at n refl) (table s.kind s.state n (seat_state t.phase s.kind s.state (are_in (suits t.phase) t.seats s h.0 sits)))
seat_owes m e a t s other h l at (inl u) = same_left m e t t.sent [] h u
seat_owes m e a t s other h l at (inr (n, f)) = absurd cc
