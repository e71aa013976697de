-- A transaction stays behind the answers of its phase, and what it records is behind every answer.
use Rattle.std.specs.Prelude.{◌⊎◌, ℕ, List, [], ◌∷◌, ◌++◌, Option, Some, None, Bool, true, false, ◌≡◌, refl, if◌then◌else◌, not, ◌&&◌, ◌||◌, nat_eq, map}
use Rattle.std.specs.List.{list_any, AllByRecursion}
use Rattle.std.proofs.lemmas.Bool.{eqb-true}
use Rattle.std.proofs.Common.{inl, inr, ap, sym, subst, ◌∙◌, filter}
use Rattle.at_base.specs.Numbers.{Numbers}
use Rattle.at_base.specs.declared.epr.Epr.{Epr}
use Rattle.at_base.specs.declared.notice.Kind.{Kind}
use Rattle.at_base.specs.declared.notice.Kind.TheVariants as kinds
use Rattle.at_base.specs.declared.message.Message.{Message}
use Rattle.at_base.specs.declared.message.Message.TheVariants as messages
use Rattle.at_base.specs.declared.record.Record.{Record}
use Rattle.at_base.specs.declared.record.Record.TheVariants as records
use Rattle.at_base.specs.declared.event.Arrived.{Arrived}
use Rattle.at_base.specs.declared.event.Moment.{Moment}
use Rattle.at_tables.specs.declared.cells.State.TheVariants as states
use Rattle.at_tables.specs.declared.cells.Act.{Act}
use Rattle.at_tables.specs.declared.cells.Act.TheVariants as acts
use Rattle.at_tables.specs.declared.cells.Cell.{Cell}
use Rattle.at_tables.specs.Names.{is_state}
use Rattle.at_base.specs.Names.{is_kind}
use Rattle.at_tables.specs.Tables.{coordinator_of, completion_of}
use Rattle.at_model.specs.Book.{Completion, Enlistment, Phase, Request, Superior, Transaction}
use Rattle.at_model.specs.Moves.{Moving, Change, Decision, begin, become, stays, forgotten}
use Rattle.at_model.specs.Seats.{answered, all_left, in_state, is_prepared_durable, in_phase, under, ending_of, seated}
use Rattle.at_model.specs.Abort.{Reason, Alone, Asked, until_rolled_back, abort}
use Rattle.at_model.specs.Phases.{decided, committed, root_answered, voted, sub_answered, durable_answered, if_durable_answered, prepare_seats, go_durable, volatile_answered, all_committed, advance_in, advance, go_volatile}
use Rattle.at_model.specs.Arrivals.{seat_act, seat_notice, commit_voted, link_act, link_notice, completion_act, completion_notice, link_registered, link_fault, on_link, on_seat, on_completion, request_answered, answer_request, request_of, with_answer}
use Rattle.at_model.specs.Due.{Reached, Expired, Over, Unanswered, Nothing, transaction_reached}
use Rattle.at_base.specs.declared.record.Seated.{Seated}
use Rattle.at_tables.specs.declared.cells.State.{State}
use Rattle.at_model.specs.Seats.{is_of, move_if, moved, prepared, seat_in}
use Rattle.at_model.specs.Arrivals.{registered}
use Rattle.model_laws.specs.PhaseAnswers.{StandsBehind, IsUnanswered, accepted_as, AreAnswered, HasVoted, IsCommitting}
use Rattle.at_base.specs.declared.outs.Post.{Post}
use Rattle.at_base.specs.declared.outs.Effect.{Effect}
use Rattle.at_base.specs.declared.outs.Effect.TheVariants as effects
use Rattle.at_base.specs.declared.outs.Ending.{Ending}
use Rattle.at_base.specs.declared.outs.Ending.TheVariants as endings
use Rattle.at_tables.specs.Tables.{participant_of}
use Rattle.at_model.specs.Seats.{link_of}
use Rattle.model_laws.proofs.ParticipantTable.{ActsAt, CellAt, table_acts}
use Rattle.model_laws.proofs.LinkDecisions.{Linked, has_voted, known}
use Rattle.model_laws.proofs.DecisionLaws.{DecisionSays, IfThere, both_say, either_says, either_left, answer_has, answer_effects, all_join}

-- seats
abbrev pub is_unanswered : Kind → Enlistment → Bool
is_unanswered kind s = is_of kind states.Active s || is_of kind states.Preparing s

none_first : (a b : Bool) → not (a || b) ≡ true → (a ≡ false) × (not b ≡ true)
none_first true b e = absurd cc
none_first false b e = (refl, e)

pub none_either : (a b : Bool) → a ≡ false → not b ≡ true → not (a || b) ≡ true
none_either true b e f = absurd cc
none_either false b e f = f

answered_map : (kind : Kind) (f : Enlistment → Enlistment) (seats : List Enlistment) → ((s : Enlistment) → is_unanswered kind s ≡ false → is_unanswered kind (f s) ≡ false)
    → answered kind seats ≡ true → answered kind (map f seats) ≡ true
answered_map kind f [] keeps h = refl
answered_map kind f (s ∷ ss) keeps h =
    let (here, rest) = none_first (is_unanswered kind s) (list_any (is_unanswered kind) ss) h in
    none_either (is_unanswered kind (f s)) (list_any (is_unanswered kind) (map f ss)) (keeps s here) (answered_map kind f ss keeps rest)

pub neither : (a b c : Bool) → b ≡ false → c ≡ false → ((a && b) || (a && c)) ≡ false
neither true b c e f = rw (e, f) refl
neither false b c e f = refl

in_other_state : (kind : Kind) (state : State) (b : Bool) (s : Enlistment) → is_state state states.Active ≡ false → is_state state states.Preparing ≡ false
    → is_unanswered kind s ≡ false → is_unanswered kind (record s { state = if b then state else s.state }) ≡ false
in_other_state kind state true s e f h = neither (is_kind s.kind kind) (is_state state states.Active) (is_state state states.Preparing) e f
in_other_state kind state false s e f h = h

-- seats that go into a state in which they have answered
pub answered_moved : (kind : Kind) (test : Enlistment → Bool) (state : State) (seats : List Enlistment) → is_state state states.Active ≡ false → is_state state states.Preparing ≡ false
    → answered kind seats ≡ true → answered kind (moved test state seats) ≡ true
answered_moved kind test state seats e f h = answered_map kind (move_if test state) seats (λ s k. in_other_state kind state (test s) s e f k) h

asked_durable : (number : ℕ) (kind : Kind) (participant : Epr) (state : State)
    → let s : Enlistment = record { number = number; kind = kind; participant = participant; state = state } in
    is_unanswered kinds.Volatile (move_if (is_of kinds.Durable states.Active) states.Preparing s) ≡ is_unanswered kinds.Volatile s
asked_durable number kinds.Volatile participant state = refl
asked_durable number kinds.Durable participant state = refl

-- asking the durable seats leaves the volatile ones as they are
answered_asked : (seats : List Enlistment) → answered kinds.Volatile seats ≡ true → answered kinds.Volatile (moved (is_of kinds.Durable states.Active) states.Preparing seats) ≡ true
answered_asked seats h =
    answered_map kinds.Volatile (move_if (is_of kinds.Durable states.Active) states.Preparing) seats
    (λ s k. asked_durable s.number s.kind s.participant s.state ∙ k) h

pub accepted_moved : (test : Enlistment → Bool) (state : State) (seats olds : List Enlistment) → map accepted_as seats ≡ map accepted_as olds
    → map accepted_as (moved test state seats) ≡ map accepted_as olds
accepted_moved test state seats olds h = stay test state seats ∙ h
  where
    stay : (test : Enlistment → Bool) (state : State) (seats : List Enlistment) → map accepted_as (moved test state seats) ≡ map accepted_as seats
    stay test state [] = refl
    stay test state (s ∷ ss) = ap (λ l. accepted_as s ∷ l) (stay test state ss)

pub behind_moved : (phase : Phase) (test : Enlistment → Bool) (state : State) (seats : List Enlistment) → is_state state states.Active ≡ false → is_state state states.Preparing ≡ false
    → StandsBehind phase seats → StandsBehind phase (moved test state seats)
behind_moved Phase.Registering test state seats e f h = tt
behind_moved Phase.Active test state seats e f h = tt
behind_moved Phase.Volatile test state seats e f h = tt
behind_moved Phase.Durable test state seats e f h = answered_moved kinds.Volatile test state seats e f h
behind_moved Phase.Voted test state seats e f (h, k) = (answered_moved kinds.Volatile test state seats e f h, answered_moved kinds.Durable test state seats e f k)
behind_moved Phase.Committing test state seats e f (h, k) = (answered_moved kinds.Volatile test state seats e f h, answered_moved kinds.Durable test state seats e f k)
behind_moved Phase.Aborting test state seats e f h = tt

-- seats on their way through a step: but for one, what had not answered has not answered yet
abbrev Follows : ℕ → Enlistment → Enlistment → Type 0
Follows last old new = (old.number ≡ last) ⊎ (IsUnanswered old.state → IsUnanswered new.state)

abbrev pub AreFollowing : ℕ → List Enlistment → List Enlistment → Type 0
AreFollowing last [] [] = Unit {0}
AreFollowing last (o ∷ os) (n ∷ ns) = Follows last o n × AreFollowing last os ns
AreFollowing last olds news = ⊥

follow_same : (last : ℕ) (seats : List Enlistment) → AreFollowing last seats seats
follow_same last [] = tt
follow_same last (s ∷ ss) = (inr (λ h. h), follow_same last ss)

asked_follows : (b : Bool) (last : ℕ) (o n : Enlistment) → Follows last o n → Follows last o (record n { state = if b then states.Preparing else n.state })
asked_follows b last o n (inl e) = inl e
asked_follows true last o n (inr h) = inr (λ k. tt)
asked_follows false last o n (inr h) = inr h

follow_asked : (last : ℕ) (test : Enlistment → Bool) (olds news : List Enlistment) → AreFollowing last olds news → AreFollowing last olds (moved test states.Preparing news)
follow_asked last test [] [] h = tt
follow_asked last test [] (n ∷ ns) h = absurd h
follow_asked last test (o ∷ os) [] h = absurd h
follow_asked last test (o ∷ os) (n ∷ ns) (h, k) = (asked_follows (test n) last o n h, follow_asked last test os ns k)

seat_follows : (b : Bool) (last : ℕ) (state : State) (s : Enlistment) → nat_eq s.number last ≡ b → Follows last s (record s { state = if b then state else s.state })
seat_follows true last state s e = inl (eqb-true s.number last e)
seat_follows false last state s e = inr (λ h. h)

follow_seat : (last : ℕ) (state : State) (seats : List Enlistment) → AreFollowing last seats (moved (λ s. nat_eq s.number last) state seats)
follow_seat last state [] = tt
follow_seat last state (s ∷ ss) = (seat_follows (nat_eq s.number last) last state s refl, follow_seat last state ss)

no_answer : (kind : Kind) (state : State) → IsUnanswered state
    → ((is_kind kind kinds.Volatile && is_state state states.Active) || (is_kind kind kinds.Volatile && is_state state states.Preparing)) ≡ false
    → ((is_kind kind kinds.Durable && is_state state states.Active) || (is_kind kind kinds.Durable && is_state state states.Preparing)) ≡ false → ⊥
no_answer kinds.Volatile states.Active h e f = absurd cc
no_answer kinds.Volatile states.Preparing h e f = absurd cc
no_answer kinds.Durable states.Active h e f = absurd cc
no_answer kinds.Durable states.Preparing h e f = absurd cc
no_answer kind other h e f = absurd h

answered_before : (last : ℕ) (o n : Enlistment) → Follows last o n → is_unanswered kinds.Volatile n ≡ false → is_unanswered kinds.Durable n ≡ false
    → (o.number ≡ last) ⊎ (IsUnanswered o.state → ⊥)
answered_before last o n (inl i) e f = inl i
answered_before last o n (inr h) e f = inr (λ k. no_answer n.kind n.state (h k) e f)

all_but_last : (last : ℕ) (olds news : List Enlistment) → AreFollowing last olds news → answered kinds.Volatile news ≡ true → answered kinds.Durable news ≡ true
    → AllByRecursion (λ s. (s.number ≡ last) ⊎ (IsUnanswered s.state → ⊥)) olds
all_but_last last [] [] h e f = tt
all_but_last last [] (n ∷ ns) h e f = absurd h
all_but_last last (o ∷ os) [] h e f = absurd h
all_but_last last (o ∷ os) (n ∷ ns) (h, k) e f =
    let (v, vs) = none_first (is_unanswered kinds.Volatile n) (list_any (is_unanswered kinds.Volatile) ns) e in
    let (d, ds) = none_first (is_unanswered kinds.Durable n) (list_any (is_unanswered kinds.Durable) ns) f in
    (answered_before last o n h v d, all_but_last last os ns k vs ds)

-- a root that commits has every answer behind it
pub record CommitsBehind (old : Transaction) (id : Numbers) : Type 0 where
  pub own : id ≡ old.id
  pub at : List Enlistment
  pub behind : AreAnswered old.seats at (prepared at)

abbrev pub IsEnded : Transaction → Numbers → Ending → Type 0
IsEnded old id endings.Committed = CommitsBehind old id
IsEnded old id other = Unit {0}

abbrev pub IsTold : Transaction → Effect → Type 0
IsTold old (effects.Root id what) = IsEnded old id what
IsTold old other = Unit {0}

-- a transaction on its way, from what it was
pub record From (old : Transaction) (g : Moving Transaction) : Type 0 where
  pub own : g.item.id ≡ old.id
  pub accepted : map accepted_as g.item.seats ≡ map accepted_as old.seats
  pub told : AllByRecursion (IsTold old) g.effects
  pub last : ℕ
  pub follows : AreFollowing last old.seats g.item.seats

pub record Stands (old t : Transaction) : Type 0 where
  pub own : t.id ≡ old.id
  pub accepted : map accepted_as t.seats ≡ map accepted_as old.seats
  pub behind : StandsBehind t.phase t.seats

-- what is left of it, and what happened
pub record Left (old : Transaction) (c : Change Transaction) : Type 0 where
  pub item : IfThere (Stands old) c.item
  pub told : AllByRecursion (IsTold old) c.effects

-- what a decision that names these seats leaves of the transaction
abbrev pub IsLeft : List Seated → List Enlistment → Option Transaction → Type 0
IsLeft [] at None = Unit {0}
IsLeft [] at (Some t) = ⊥
IsLeft (s ∷ named) at new = IsCommitting at new

pub record AtDecided (old : Transaction) (named : List Seated) (new : Option Transaction) : Type 0 where
  pub at : List Enlistment
  pub behind : AreAnswered old.seats at named
  pub decided : IsLeft named at new

abbrev pub AtVoted : Transaction → List Seated → Option Transaction → Type 0
AtVoted old named None = ⊥
AtVoted old named (Some new) = HasVoted old new named

abbrev pub IsBehind : Transaction → Record → Option Transaction → Type 0
IsBehind old (records.Decided id named) new = (id ≡ old.id) × AtDecided old named new
IsBehind old (records.Voted id superior named) new = (id ≡ old.id) × AtVoted old named new
IsBehind old (records.Start incarnation) new = Unit {0}
IsBehind old (records.LeafPrepared id coordinator key value) new = Unit {0}
IsBehind old (records.LeafCommitted id) new = Unit {0}
IsBehind old (records.LeafAborted id) new = Unit {0}
IsBehind old (records.SubCommitted id) new = Unit {0}
IsBehind old (records.Ended id) new = Unit {0}
IsBehind old (records.Done id) new = Unit {0}

abbrev pub Fine : Transaction → Decision Transaction → Type 0
Fine old d = DecisionSays (Left old) (λ r c. IsBehind old r c.item) d

either : (old : Transaction) (b : Bool) (d e : Decision Transaction) → (b ≡ true → Fine old d) → (b ≡ false → Fine old e) → Fine old (if b then d else e)
either old b d e h k = either_says (Left old) (λ r c. IsBehind old r c.item) b d e h k

rolled_back : (old : Transaction) (g : Moving Transaction) → Stands old g.item → AllByRecursion (IsTold old) g.effects → Left old (until_rolled_back g)
rolled_back old g h k =
    either_left (Left old) (list_any (in_state states.Aborting) g.item.seats) (stays g) (forgotten g) (record { item = h; told = k }) (record { item = tt; told = k })

told_aborted : (old : Transaction) (s : Option Superior) (id : Numbers) → IsTold old (ending_of s id endings.Aborted)
told_aborted old None id = tt
told_aborted old (Some s) id = tt

aborted_told : (old : Transaction) (s : Option Superior) (id : Numbers) (before : List Effect) → AllByRecursion (IsTold old) before
    → AllByRecursion (IsTold old) (before ++ ending_of s id endings.Aborted ∷ [])
aborted_told old s id before h = all_join (IsTold old) before (ending_of s id endings.Aborted ∷ []) h (told_aborted old s id, tt)

abort_fine : (old : Transaction) (m : Moment) (reason : Reason) (g : Moving Transaction) → From old g → Left old (abort m reason g)
unfolding abort
abort_fine old m reason g h = search (rolled_back, accepted_moved, aborted_told)

-- every seat has answered
pub record All (old : Transaction) (g : Moving Transaction) : Type 0 where
  pub from : From old g
  pub volatile : answered kinds.Volatile g.item.seats ≡ true
  pub durable : answered kinds.Durable g.item.seats ≡ true

at_decision : (old : Transaction) (g : Moving Transaction) → All old g → AreAnswered old.seats g.item.seats (prepared g.item.seats)
at_decision old g h = record {
  last = h.from.last;
  others = all_but_last h.from.last old.seats g.item.seats h.from.follows h.volatile h.durable;
  accepted = h.from.accepted;
  volatile = h.volatile;
  durable = h.durable;
  prepared = refl;
}

told_committed : (old : Transaction) (s : Option Superior) (g : Moving Transaction) → All old g → IsTold old (ending_of s g.item.id endings.Committed)
told_committed old None g h = record { own = h.from.own; at = g.item.seats; behind = at_decision old g h }
told_committed old (Some s) g h = tt

decided_told : (old : Transaction) (m : Moment) (g : Moving Transaction) → All old g → AllByRecursion (IsTold old) (decided m g).effects
unfolding decided
decided_told old m g h =
    all_join (IsTold old) g.effects (ending_of g.item.superior g.item.id endings.Committed ∷ []) h.from.told (told_committed old g.item.superior g h, tt)

-- what is told to commit has answered
told_answered : (seats : List Enlistment) → answered kinds.Volatile seats ≡ true → answered kinds.Durable seats ≡ true
    → StandsBehind Phase.Committing (moved (in_state states.Prepared) states.Committing seats)
told_answered seats h k = (
  answered_moved kinds.Volatile (in_state states.Prepared) states.Committing seats refl refl h,
  answered_moved kinds.Durable (in_state states.Prepared) states.Committing seats refl refl k,
)

decided_fine : (old : Transaction) (m : Moment) (g : Moving Transaction) → All old g → Stands old (decided m g).item
unfolding decided
decided_fine old m g h = record {
  own = h.from.own;
  accepted = accepted_moved (in_state states.Prepared) states.Committing g.item.seats old.seats h.from.accepted;
  behind = told_answered g.item.seats h.volatile h.durable;
}

-- a record that names seats, and one that names none
record IsSome (named : List Seated) : Type 0 where
  first : Seated
  others : List Seated
  is : named ≡ first ∷ others

some_prepared : (seats : List Enlistment) → list_any is_prepared_durable seats ≡ true → IsSome (prepared seats)
some_prepared [] e = absurd cc
some_prepared (s ∷ ss) e = by_test (is_prepared_durable s) (λ f. some_prepared ss f) e
  where
    by_test : (b : Bool) → (list_any is_prepared_durable ss ≡ true → IsSome (prepared ss)) → (b || list_any is_prepared_durable ss) ≡ true
        → IsSome (map seated (if b then s ∷ filter is_prepared_durable ss else filter is_prepared_durable ss))
    by_test true rest f = record { first = seated s; others = prepared ss; is = refl }
    by_test false rest f = rest f

none_prepared : (seats : List Enlistment) → list_any is_prepared_durable seats ≡ false → prepared seats ≡ []
none_prepared [] e = refl
none_prepared (s ∷ ss) e = by_test (is_prepared_durable s) (λ f. none_prepared ss f) e
  where
    by_test : (b : Bool) → (list_any is_prepared_durable ss ≡ false → prepared ss ≡ []) → (b || list_any is_prepared_durable ss) ≡ false
        → map seated (if b then s ∷ filter is_prepared_durable ss else filter is_prepared_durable ss) ≡ []
    by_test true rest f = absurd cc
    by_test false rest f = rest f

ended_as : (named : List Seated) (at : List Enlistment) (x : Moving Transaction) (b : Bool) → (b ≡ true → IsSome named) → (b ≡ false → named ≡ [])
    → x.item.phase ≡ Phase.Committing → x.item.seats ≡ moved (in_state states.Prepared) states.Committing at → IsLeft named at (if b then stays x else forgotten x).item
ended_as named at x true some none e f =
    let s : IsSome named = some refl in
    subst (λ l. IsLeft l at (Some x.item)) (sym s.is) (e, f)
ended_as named at x false some none e f = subst (λ l. IsLeft l at None) (sym (none refl)) tt

decided_phase : (m : Moment) (g : Moving Transaction) → (decided m g).item.phase ≡ Phase.Committing
unfolding decided
decided_phase m g = refl

decided_seats : (m : Moment) (g : Moving Transaction) → (decided m g).item.seats ≡ moved (in_state states.Prepared) states.Committing g.item.seats
unfolding decided
decided_seats m g = refl

decided_behind : (old : Transaction) (m : Moment) (g : Moving Transaction) → All old g → AtDecided old (prepared g.item.seats) (committed m g).item
unfolding committed
decided_behind old m g h = record {
  at = g.item.seats;
  behind = at_decision old g h;
  decided = ended_as (prepared g.item.seats) g.item.seats (decided m g) (list_any is_prepared_durable g.item.seats) (some_prepared g.item.seats) (none_prepared g.item.seats)
      (decided_phase m g) (decided_seats m g);
}

committed_fine : (old : Transaction) (m : Moment) (g : Moving Transaction) → All old g → Left old (committed m g)
unfolding committed
committed_fine old m g h =
    either_left (Left old) (list_any is_prepared_durable g.item.seats) (stays (decided m g)) (forgotten (decided m g))
    (record { item = decided_fine old m g h; told = decided_told old m g h }) (record { item = tt; told = decided_told old m g h })

root_fine : (old : Transaction) (m : Moment) (g : Moving Transaction) → All old g → Fine old (root_answered m g)
unfolding root_answered
root_fine old m g h = record {
  entry = (h.from.own, decided_behind old m g h);
  landed = committed_fine old m g h;
  otherwise = abort_fine old m Alone g h.from;
}

voted_fine : (old : Transaction) (m : Moment) (s : Superior) (g : Moving Transaction) → All old g → Left old (stays (voted m s g))
unfolding voted
voted_fine old m s g h = record { item = record { own = h.from.own; accepted = h.from.accepted; behind = (h.volatile, h.durable) }; told = h.from.told }

voted_behind : (old : Transaction) (m : Moment) (s : Superior) (g : Moving Transaction) → All old g → HasVoted old (voted m s g).item (prepared g.item.seats)
unfolding voted
voted_behind old m s g h = record { behind = at_decision old g h; phase = refl }

sub_fine : (old : Transaction) (m : Moment) (s : Superior) (superior : Option Epr) (g : Moving Transaction) → All old g → Fine old (sub_answered m s superior g)
unfolding sub_answered
sub_fine old m s None g h = abort_fine old m Alone g h.from
sub_fine old m s (Some superior) g h =
    either old (list_any is_prepared_durable g.item.seats) _ _
    (λ e. record { entry = (h.from.own, voted_behind old m s g h); landed = voted_fine old m s g h; otherwise = abort_fine old m Alone g h.from })
    (λ e. record { item = tt; told = h.from.told })

durable_fine : (old : Transaction) (m : Moment) (s : Option Superior) (g : Moving Transaction) → All old g → Fine old (durable_answered m s g)
durable_fine old m None g h = root_fine old m g h
durable_fine old m (Some s) g h = sub_fine old m s s.durable.coordinator g h

stands : (old : Transaction) (g : Moving Transaction) → From old g → StandsBehind g.item.phase g.item.seats → Stands old g.item
stands old g h k = record { own = h.own; accepted = h.accepted; behind = k }

left : (old : Transaction) (g : Moving Transaction) → From old g → StandsBehind g.item.phase g.item.seats → Left old (stays g)
left old g h k = record { item = stands old g h k; told = h.told }

if_durable_fine : (old : Transaction) (m : Moment) (g : Moving Transaction) → From old g → answered kinds.Volatile g.item.seats ≡ true → StandsBehind g.item.phase g.item.seats
    → Fine old (if_durable_answered m g)
if_durable_fine old m g h v k =
    either old (answered kinds.Durable g.item.seats) _ _
    (λ e. durable_fine old m g.item.superior g (record { from = h; volatile = v; durable = e })) (λ e. left old g h k)

go_durable_fine : (old : Transaction) (m : Moment) (g : Moving Transaction) → From old g → answered kinds.Volatile g.item.seats ≡ true → Fine old (go_durable m g)
unfolding go_durable
go_durable_fine old m g h v =
    let a : answered kinds.Volatile (moved (is_of kinds.Durable states.Active) states.Preparing g.item.seats) ≡ true = answered_asked g.item.seats v in
    if_durable_fine old m (prepare_seats m kinds.Durable (become (in_phase Phase.Durable g.item) g))
    (record {
      own = h.own;
      accepted = accepted_moved (is_of kinds.Durable states.Active) states.Preparing g.item.seats old.seats h.accepted;
      told = h.told;
      last = h.last;
      follows = follow_asked h.last (is_of kinds.Durable states.Active) old.seats g.item.seats h.follows;
    }) a a

volatile_fine : (old : Transaction) (m : Moment) (s : Option Superior) (g : Moving Transaction) → From old g → answered kinds.Volatile g.item.seats ≡ true
    → StandsBehind g.item.phase g.item.seats → Fine old (volatile_answered m s g)
unfolding volatile_answered
volatile_fine old m None g h v k = go_durable_fine old m g h v
volatile_fine old m (Some s) g h v k =
    either old (is_state s.volatile.state states.Preparing) _ _ (λ e. record { item = record { own = h.own; accepted = h.accepted; behind = tt }; told = h.told })
    (λ e. either old (is_state s.durable.state states.Preparing) _ _ (λ f. go_durable_fine old m g h v) (λ f. left old g h k))

all_committed_fine : (old : Transaction) (m : Moment) (g : Moving Transaction) → From old g → Fine old (all_committed m g)
unfolding all_committed
all_committed_fine old m g h = record { entry = tt; landed = record { item = tt; told = h.told }; otherwise = tt }

advance_in_fine : (old : Transaction) (m : Moment) (phase : Phase) (g : Moving Transaction) → From old g → StandsBehind phase g.item.seats
    → StandsBehind g.item.phase g.item.seats → Fine old (advance_in m phase g)
unfolding advance_in
advance_in_fine old m Phase.Registering g h j k = left old g h k
advance_in_fine old m Phase.Active g h j k = left old g h k
advance_in_fine old m Phase.Volatile g h j k =
    either old (answered kinds.Volatile g.item.seats) _ _ (λ e. volatile_fine old m g.item.superior g h e k) (λ e. left old g h k)
advance_in_fine old m Phase.Durable g h j k = if_durable_fine old m g h j k
advance_in_fine old m Phase.Voted g h j k = left old g h k
advance_in_fine old m Phase.Committing g h j k =
    either old (all_left g.item.seats) _ _ (λ e. all_committed_fine old m g h) (λ e. left old g h k)
advance_in_fine old m Phase.Aborting g h j k = rolled_back old g (stands old g h k) h.told

go_volatile_fine : (old : Transaction) (m : Moment) (g : Moving Transaction) → From old g → Fine old (go_volatile m g)
unfolding go_volatile
go_volatile_fine old m g h =
    advance_in_fine old m Phase.Volatile (prepare_seats m kinds.Volatile (become (in_phase Phase.Volatile g.item) g))
    (record {
      own = h.own;
      accepted = accepted_moved (is_of kinds.Volatile states.Active) states.Preparing g.item.seats old.seats h.accepted;
      told = h.told;
      last = h.last;
      follows = follow_asked h.last (is_of kinds.Volatile states.Active) old.seats g.item.seats h.follows;
    }) tt tt

same : (t : Transaction) (ps : List Post) → From t (record { item = t; posts = ps; effects = [] })
same t ps = record { own = refl; accepted = refl; told = tt; last = 0; follows = follow_same 0 t.seats }

-- the transaction with one seat that has answered or left
seat_fine_in : (m : Moment) (number : ℕ) (state : State) (t : Transaction) → is_state state states.Active ≡ false → is_state state states.Preparing ≡ false
    → StandsBehind t.phase t.seats → Fine t (advance m (begin (seat_in number state t)))
seat_fine_in m number state t e f h =
    let k : StandsBehind t.phase (moved (λ s. nat_eq s.number number) state t.seats) = behind_moved t.phase (λ s. nat_eq s.number number) state t.seats e f h in
    advance_in_fine t m t.phase (begin (seat_in number state t))
    (record {
      own = refl;
      accepted = accepted_moved (λ s. nat_eq s.number number) state t.seats t.seats refl;
      told = tt;
      last = number;
      follows = follow_seat number state t.seats;
    }) k k

seat_aborts : (m : Moment) (number : ℕ) (state : State) (t : Transaction) → Left t (abort m Alone (begin (seat_in number state t)))
seat_aborts m number state t =
    abort_fine t m Alone (begin (seat_in number state t)) (record {
      own = refl;
      accepted = accepted_moved (λ s. nat_eq s.number number) state t.seats t.seats refl;
      told = tt;
      last = number;
      follows = follow_seat number state t.seats;
    })

unmoved : (t : Transaction) → StandsBehind t.phase t.seats → Stands t t
unmoved t h = record { own = refl; accepted = refl; behind = h }

told_sub : (old : Transaction) (s : Superior) (superior : Option Superior) (id : Numbers) → superior ≡ Some s → IsTold old (ending_of superior id endings.Committed)
told_sub old s superior id e = subst (λ x. IsTold old (ending_of x id endings.Committed)) (sym e) tt

commit_fine : (m : Moment) (s : Superior) (t : Transaction) → t.superior ≡ Some s → StandsBehind Phase.Voted t.seats → Fine t (commit_voted m s t)
unfolding commit_voted
commit_fine m s t e (v, d) = record {
  entry = tt;
  landed = record {
    item = record { own = refl; accepted = accepted_moved (in_state states.Prepared) states.Committing t.seats t.seats refl; behind = told_answered t.seats v d };
    told = (told_sub t s t.superior t.id e, tt);
  };
  otherwise = tt;
}

unmoved_left : (t : Transaction) → StandsBehind t.phase t.seats → Left t (stays (begin t))
unmoved_left t h = record { item = unmoved t h; told = tt }

ruleset fine = (either, abort_fine, same, unmoved, unmoved_left, seat_fine_in, seat_aborts)

seat_act_fine : (m : Moment) (i : Option (List ℕ)) (t : Transaction) (s : Enlistment) (act : Act) → StandsBehind t.phase t.seats → Fine t (seat_act m i t s act)
unfolding seat_act
seat_act_fine m i t s acts.Ignore h = search fine
seat_act_fine m i t s acts.SendPrepared h = search fine
seat_act_fine m i t s acts.SendCommit h = search fine
seat_act_fine m i t s acts.SendRollback h = search fine
seat_act_fine m i t s acts.SendCommitted h = search fine
seat_act_fine m i t s acts.SendAborted h = search fine
seat_act_fine m i t s acts.FaultUnknownTransaction h = search fine
seat_act_fine m i t s acts.FaultInvalidState h = search fine
seat_act_fine m i t s acts.FaultInvalidStateAndAbort h = search fine
seat_act_fine m i t s acts.Leave h = search fine
seat_act_fine m i t s acts.LeaveAndAbort h = search fine
seat_act_fine m i t s acts.Vote h = search fine
seat_act_fine m i t s acts.Gather h = search fine
seat_act_fine m i t s acts.Commit h = search fine
seat_act_fine m i t s acts.AbortAndSendAborted h = search fine
seat_act_fine m i t s acts.RecordAndSendAborted h = search fine
seat_act_fine m i t s acts.Complete h = search fine
seat_act_fine m i t s acts.TellCommitted h = search fine
seat_act_fine m i t s acts.TellAborted h = search fine

seat_notice_fine : (m : Moment) (i : Option (List ℕ)) (t : Transaction) (s : Enlistment) (c : Option Cell) → StandsBehind t.phase t.seats → Fine t (seat_notice m i t s c)
unfolding seat_notice
seat_notice_fine m i t s None h = unmoved_left t h
seat_notice_fine m i t s (Some c) h = seat_act_fine m i t s c.act h

pub seat_fine : (m : Moment) (a : Arrived) (t : Transaction) (s : Enlistment) (x : Message) → StandsBehind t.phase t.seats → Fine t (on_seat m a t s x)
unfolding on_seat
seat_fine m a t s (messages.Notice n) h = seat_notice_fine m a.id t s (coordinator_of s.kind s.state n) h
seat_fine m a t s other h = unmoved_left t h

link_act_fine : (m : Moment) (from : Option Epr) (i : Option (List ℕ)) (kind : Kind) (s : Superior) (t : Transaction) (act : Act) → t.superior ≡ Some s → Linked t
    → StandsBehind t.phase t.seats → ActsAt (link_of kind s).state act → Fine t (link_act m from i kind s t act)
unfolding link_act
link_act_fine m from i kind s t acts.Ignore e l h k = search fine
link_act_fine m from i kind s t acts.SendPrepared e l h k = search fine
link_act_fine m from i kind s t acts.SendCommit e l h k = search fine
link_act_fine m from i kind s t acts.SendRollback e l h k = search fine
link_act_fine m from i kind s t acts.SendCommitted e l h k = search fine
link_act_fine m from i kind s t acts.SendAborted e l h k = search fine
link_act_fine m from i kind s t acts.FaultUnknownTransaction e l h k = search fine
link_act_fine m from i kind s t acts.FaultInvalidState e l h k = search fine
link_act_fine m from i kind s t acts.FaultInvalidStateAndAbort e l h k = search fine
link_act_fine m from i kind s t acts.Leave e l h k = search fine
link_act_fine m from i kind s t acts.LeaveAndAbort e l h k = search fine
link_act_fine m from i kind s t acts.Vote e l h k = search fine
link_act_fine m from i kind s t acts.Gather e l h k = go_volatile_fine t m _ (record { own = refl; accepted = refl; told = tt; last = 0; follows = follow_same 0 t.seats })
link_act_fine m from i kind s t acts.Commit e l h k = commit_fine m s t e (subst (λ p. StandsBehind p t.seats) (has_voted t.phase kind s (known t s e l).0 k) h)
link_act_fine m from i kind s t acts.AbortAndSendAborted e l h k = search fine
link_act_fine m from i kind s t acts.RecordAndSendAborted e l h k = record { entry = tt; landed = abort_fine t m (Asked kind from) (begin t) (same t []); otherwise = tt }
link_act_fine m from i kind s t acts.Complete e l h k = search fine
link_act_fine m from i kind s t acts.TellCommitted e l h k = search fine
link_act_fine m from i kind s t acts.TellAborted e l h k = search fine

link_notice_fine : (m : Moment) (from : Option Epr) (i : Option (List ℕ)) (kind : Kind) (s : Superior) (t : Transaction) (c : Option Cell) → t.superior ≡ Some s → Linked t
    → StandsBehind t.phase t.seats → CellAt (link_of kind s).state c → Fine t (link_notice m from i kind s t c)
unfolding link_notice
link_notice_fine m from i kind s t None e l h k = unmoved_left t h
link_notice_fine m from i kind s t (Some c) e l h k = link_act_fine m from i kind s t c.act e l h k

no_longer_registering : (b : Bool) (seats : List Enlistment) → StandsBehind (if b then Phase.Registering else Phase.Active) seats
no_longer_registering true seats = tt
no_longer_registering false seats = tt

behind_registered : (s : Superior) (phase : Phase) (seats : List Enlistment) → StandsBehind phase seats → StandsBehind (registered s phase) seats
behind_registered s Phase.Registering seats h =
    no_longer_registering (is_state s.volatile.state states.Registering || is_state s.durable.state states.Registering) seats
behind_registered s Phase.Active seats h = h
behind_registered s Phase.Volatile seats h = h
behind_registered s Phase.Durable seats h = h
behind_registered s Phase.Voted seats h = h
behind_registered s Phase.Committing seats h = h
behind_registered s Phase.Aborting seats h = h

link_registered_fine : (m : Moment) (relates : Option (List ℕ)) (coordinator : Epr) (kind : Kind) (s : Superior) (t : Transaction) → StandsBehind t.phase t.seats
    → Fine t (link_registered m relates coordinator kind s t)
unfolding link_registered
link_registered_fine m relates coordinator kind s t h = search (either, unmoved, unmoved_left, behind_registered)

link_fault_fine : (m : Moment) (relates : Option (List ℕ)) (kind : Kind) (s : Superior) (t : Transaction) → StandsBehind t.phase t.seats → Fine t (link_fault m relates kind s t)
unfolding link_fault
link_fault_fine m relates kind s t h = search (either, unmoved, unmoved_left, same, abort_fine)

pub link_fine : (m : Moment) (a : Arrived) (kind : Kind) (t : Transaction) (s : Superior) (x : Message) → t.superior ≡ Some s → Linked t → StandsBehind t.phase t.seats → Fine t (on_link m a kind t s x)
unfolding on_link
link_fine m a kind t s (messages.Notice n) e l h = link_notice_fine m a.from a.id kind s t (participant_of kind (link_of kind s).state n) e l h (table_acts kind (link_of kind s).state n)
link_fine m a kind t s (messages.RegisterResponse coordinator) e l h = link_registered_fine m a.relates coordinator kind s t h
link_fine m a kind t s (messages.Fault name) e l h = link_fault_fine m a.relates kind s t h
link_fine m a kind t s other e l h = unmoved_left t h

completion_act_fine : (m : Moment) (from : Option Epr) (i : Option (List ℕ)) (c : Completion) (t : Transaction) (act : Act) → StandsBehind t.phase t.seats → Fine t (completion_act m from i c t act)
unfolding completion_act
completion_act_fine m from i c t acts.SendCommitted h = record { item = unmoved t h; told = tt }
completion_act_fine m from i c t acts.FaultUnknownTransaction h = record { item = unmoved t h; told = tt }
completion_act_fine m from i c t acts.FaultInvalidState h = record { item = unmoved t h; told = tt }
completion_act_fine m from i c t acts.Complete h = go_volatile_fine t m _ (record { own = refl; accepted = refl; told = tt; last = 0; follows = follow_same 0 t.seats })
completion_act_fine m from i c t acts.AbortAndSendAborted h = abort_fine t m Alone (begin t) (same t [])
completion_act_fine m from i c t other h = unmoved_left t h

completion_notice_fine : (m : Moment) (from : Option Epr) (i : Option (List ℕ)) (c : Completion) (t : Transaction) (cell : Option Cell) → StandsBehind t.phase t.seats → Fine t (completion_notice m from i c t cell)
unfolding completion_notice
completion_notice_fine m from i c t None h = unmoved_left t h
completion_notice_fine m from i c t (Some cell) h = completion_act_fine m from i c t cell.act h

pub completion_fine : (m : Moment) (a : Arrived) (t : Transaction) (c : Completion) (x : Message) → StandsBehind t.phase t.seats → Fine t (on_completion m a t c x)
unfolding on_completion
completion_fine m a t c (messages.Notice n) h = completion_notice_fine m a.from a.id c t (completion_of c.state n) h
completion_fine m a t c other h = unmoved_left t h

pub due_fine : (m : Moment) (t : Transaction) (reached : Reached) → StandsBehind t.phase t.seats → Fine t (transaction_reached m t reached)
unfolding transaction_reached
due_fine m t Expired h = abort_fine t m Alone (begin t) (same t [])
due_fine m t Over h = record { item = tt; told = tt }
due_fine m t Unanswered h = record { item = record { own = refl; accepted = refl; behind = h }; told = tt }
due_fine m t Nothing h = unmoved_left t h

-- registration: only before the durable seats are asked
behind_under : (old : Transaction) (r : Record) (s : Superior) (t : Transaction) → IsBehind old r (Some t) → IsBehind old r (Some (under s t))
behind_under old (records.Decided id named) s t (e, h) = (e, record { at = h.at; behind = h.behind; decided = left_under named h.decided })
  where
    left_under : (named : List Seated) → IsLeft named h.at (Some t) → IsLeft named h.at (Some (under s t))
    left_under [] l = absurd l
    left_under (first ∷ others) l = l
behind_under old (records.Voted id superior named) s t (e, h) = (e, record { behind = h.behind; phase = h.phase })
behind_under old (records.Start incarnation) s t h = tt
behind_under old (records.LeafPrepared id coordinator key value) s t h = tt
behind_under old (records.LeafCommitted id) s t h = tt
behind_under old (records.LeafAborted id) s t h = tt
behind_under old (records.SubCommitted id) s t h = tt
behind_under old (records.Ended id) s t h = tt
behind_under old (records.Done id) s t h = tt

stands_under : (old : Transaction) (s : Superior) (t : Transaction) → Stands old t → Stands old (under s t)
stands_under old s t h = record { own = h.own; accepted = h.accepted; behind = h.behind }

answer_left : (old : Transaction) (m : Moment) (r : Option Request) (c : Change Transaction) → Left old c → Left old (answer_request m r c)
answer_left old m r c h = record {
  item = answer_has (IfThere (Stands old)) (λ s x e k. stands_under old (request_answered s) x k) m r c h.item;
  told = subst (AllByRecursion (IsTold old)) (sym (answer_effects m r c)) h.told;
}

pub with_answer_fine : (old : Transaction) (m : Moment) (t : Transaction) (d : Decision Transaction) → Fine old d → Fine old (with_answer m t d)
with_answer_fine old m t d h =
    both_say (Left old) (λ r c. IsBehind old r c.item) (answer_request m (request_of t.superior)) (answer_left old m (request_of t.superior))
    (λ r c k. answer_has (IsBehind old r) (λ s x e i. behind_under old r (request_answered s) x i) m (request_of t.superior) c k) d h
