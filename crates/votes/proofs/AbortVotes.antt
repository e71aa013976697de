-- A participant's vote Aborted aborts the transaction in the step in which it comes.
use Rattle.std.specs.Prelude.{ℕ, List, [], ◌∷◌, ◌++◌, Option, Some, Bool, true, false, if◌then◌else◌, nat_eq, ◌+◌, ◌&&◌, ◌≡◌, ◌<◌, ◌⊎◌, refl}
use Rattle.std.proofs.Common.{arith, inl, inr, sym, subst, ap, ◌∙◌}
use Rattle.std.proofs.lemmas.Bool.{eq-eqb, eqb-true}
use Rattle.at_base.specs.declared.notice.Kind.{Kind}
use Rattle.at_base.specs.declared.notice.Kind.TheVariants as kinds
use Rattle.at_base.specs.declared.notice.Notice.TheVariants as notices
use Rattle.at_base.specs.declared.message.Message.TheVariants as messages
use Rattle.at_base.specs.declared.target.Target.TheVariants as targets
use Rattle.at_base.specs.declared.event.Arrived.{Arrived}
use Rattle.at_base.specs.declared.event.Event.{Event}
use Rattle.at_base.specs.declared.event.Moment.{Moment}
use Rattle.at_base.specs.declared.outs.Effect.{Effect}
use Rattle.at_base.specs.declared.outs.Ending.TheVariants as endings
use Rattle.at_tables.specs.declared.cells.Act.TheVariants as acts
use Rattle.at_tables.specs.declared.cells.State.{State}
use Rattle.at_tables.specs.declared.cells.State.TheVariants as states
use Rattle.at_base.specs.Names.{is_kind}
use Rattle.at_tables.specs.Tables.{coordinator_of}
use Rattle.at_model.specs.Abort.{Alone, Reason, abort}
use Rattle.at_model.specs.Arrivals.{on_seat, request_of, seat_act, seat_notice}
use Rattle.at_model.specs.Book.{Book, Enlistment, Transaction}
use Rattle.at_model.specs.Moves.{Decision, Goes, Moving, begin, forgotten, stays}
use Rattle.at_model.specs.Posts.{accepted}
use Rattle.at_model.specs.Seats.{ending, seat_in}
use Rattle.at_model.specs.Step.{arrived_plan, branch, coordinator_plan, find_seat, moment_of, seat_plan, step, transaction_at, transaction_plan}
use Rattle.model_laws.specs.Agreement.{IsIn}
use Rattle.model_laws.specs.PhaseAnswers.{IsUnanswered}
use Rattle.model_laws.specs.BookBounds.{AreNumbered, SeatsRise}
use Rattle.model_laws.proofs.DecisionLaws.{answer_effects}
use Rattle.agreement.specs.Deeds.{ParticipantSaid}
use Rattle.agreement.specs.FinishedTransactions.{IsFinished}

-- a seat is found by its number
rising : (last : ℕ) (seats : List Enlistment) → AreNumbered last seats → SeatsRise last seats
rising last [] h = tt
rising last (s ∷ rest) (e, h) = (omega (arith, e), subst (λ n. SeatsRise n rest) (sym e) (rising (last + 1) rest h))

rise : (t : Transaction) → IsFinished t → SeatsRise 0 t.seats
rise t h = either h.numbers
  where
    either : {A : Type 0} → AreNumbered 0 t.seats ⊎ (A × SeatsRise 0 t.seats) → SeatsRise 0 t.seats
    either (inl k) = rising 0 t.seats k
    either (inr (closed, k)) = k

above : (last : ℕ) (seats : List Enlistment) (s : Enlistment) → SeatsRise last seats → IsIn s seats → last < s.number
above last [] s h i = absurd i
above last (x ∷ xs) s (h, k) (inl e) = subst (λ (y : Enlistment). last < y.number) (sym e) h
above last (x ∷ xs) s (h, k) (inr i) = omega (arith, h, above x.number xs s k i)

own_kind : (k : Kind) → is_kind k k ≡ true
own_kind kinds.Durable = refl
own_kind kinds.Volatile = refl

pub finds_seat : (last : ℕ) (seats : List Enlistment) (s : Enlistment) → SeatsRise last seats → IsIn s seats → find_seat s.number s.kind seats ≡ Some s
finds_seat last [] s h i = absurd i
finds_seat last (x ∷ xs) s (h, k) (inl e) =
    subst (λ (y : Enlistment). find_seat s.number s.kind (y ∷ xs) ≡ Some s) e
    (ap (λ c. if c && is_kind s.kind s.kind then Some s else find_seat s.number s.kind xs) (eq-eqb s.number s.number refl)
    ∙ ap (λ c. if c then Some s else find_seat s.number s.kind xs) (own_kind s.kind))
finds_seat last (x ∷ xs) s (h, k) (inr i) = by_number (nat_eq x.number s.number) refl (finds_seat x.number xs s k i)
  where
    by_number : (c : Bool) → nat_eq x.number s.number ≡ c → find_seat s.number s.kind xs ≡ Some s → (if c && is_kind x.kind s.kind then Some x else find_seat s.number s.kind xs) ≡ Some s
    by_number true e f = let more : x.number < s.number = above x.number xs s k i in absurd (omega (arith, more, eqb-true x.number s.number e))
    by_number false e f = f

-- what an abort brings about
left_effects : (c : Bool) (g : Moving Transaction) → (if c then stays g else forgotten g).effects ≡ g.effects
left_effects true g = refl
left_effects false g = refl

abort_effects : (m : Moment) (reason : Reason) (g : Moving Transaction) → (abort m reason g).effects ≡ g.effects ++ ending g.item endings.Aborted ∷ []
unfolding abort
abort_effects m reason g = left_effects _ _

-- behind a decision that goes at once
abbrev Gives : Decision Transaction → List Effect → Type 0
Gives (Goes c) es = c.effects ≡ es
Gives other es = ⊥

plan_gives : (b : Book) (now : ℕ) (landed : Bool) (t : Transaction) (d : Decision Transaction) (es : List Effect) → Gives d es → (branch (transaction_plan b now accepted t d) landed).effects ≡ es
plan_gives b now true t (Goes c) es h = answer_effects (moment_of b now) (request_of t.superior) c ∙ h
plan_gives b now false t (Goes c) es h = answer_effects (moment_of b now) (request_of t.superior) c ∙ h
plan_gives b now landed t other es h = absurd h

leave_gives : (m : Moment) (i : Option (List ℕ)) (t : Transaction) (s : Enlistment) → Gives (seat_act m i t s acts.LeaveAndAbort) (ending t endings.Aborted ∷ [])
unfolding seat_act
leave_gives m i t s = abort_effects m Alone (begin (seat_in s.number states.None t))

notice_gives : (m : Moment) (i : Option (List ℕ)) (t : Transaction) (s : Enlistment) (kind : Kind) (state : State) → IsUnanswered state
    → Gives (seat_notice m i t s (coordinator_of kind state notices.Aborted)) (ending t endings.Aborted ∷ [])
unfolding seat_notice
notice_gives m i t s kinds.Volatile states.Active h = leave_gives m i t s
notice_gives m i t s kinds.Volatile states.Preparing h = leave_gives m i t s
notice_gives m i t s kinds.Durable states.Active h = leave_gives m i t s
notice_gives m i t s kinds.Durable states.Preparing h = leave_gives m i t s
notice_gives m i t s kind other h = absurd h

seat_gives : (m : Moment) (a : Arrived) (t : Transaction) (s : Enlistment) → IsUnanswered s.state → Gives (on_seat m a t s (messages.Notice notices.Aborted)) (ending t endings.Aborted ∷ [])
unfolding on_seat
seat_gives m a t s h = notice_gives m a.id t s s.kind s.state h

found_gives : (b : Book) (now : ℕ) (landed : Bool) (a : Arrived) (number : ℕ) (kind : Kind) (t : Transaction) (s : Enlistment) (o : Option Transaction) → o ≡ Some t
    → find_seat number kind t.seats ≡ Some s → a.message ≡ messages.Notice notices.Aborted → IsUnanswered s.state
    → (branch (coordinator_plan b now a number kind o) landed).effects ≡ ending t endings.Aborted ∷ []
unfolding coordinator_plan
found_gives b now landed a number kind t s o found sits says asked =
    ap (λ x. (branch (coordinator_plan b now a number kind x) landed).effects) found ∙ ap (λ x. (branch (seat_plan b now a kind t x) landed).effects) sits
    ∙ plan_gives b now landed t (on_seat (moment_of b now) a t s a.message) (ending t endings.Aborted ∷ [])
    (subst (λ x. Gives (on_seat (moment_of b now) a t s x) (ending t endings.Aborted ∷ [])) (sym says) (seat_gives (moment_of b now) a t s asked))

target_gives : (b : Book) (now : ℕ) (landed : Bool) (a : Arrived) (t : Transaction) (s : Enlistment) → transaction_at b t.id ≡ Some t → find_seat s.number s.kind t.seats ≡ Some s
    → a.target ≡ targets.Coordinator t.id (record { number = s.number; kind = s.kind }) → a.message ≡ messages.Notice notices.Aborted → IsUnanswered s.state
    → (branch (arrived_plan b now a a.target) landed).effects ≡ ending t endings.Aborted ∷ []
unfolding arrived_plan
target_gives b now landed a t s found sits at says asked =
    ap (λ x. (branch (arrived_plan b now a x) landed).effects) at ∙ found_gives b now landed a s.number s.kind t s (transaction_at b t.id) found sits says asked

pub aborted_ends : (b : Book) (e : Event) (now : ℕ) (landed : Bool) (t : Transaction) (s : Enlistment) → transaction_at b t.id ≡ Some t → IsFinished t → IsIn s t.seats → IsUnanswered s.state
    → ParticipantSaid notices.Aborted e t s → (step b e now landed).effects ≡ ending t endings.Aborted ∷ []
aborted_ends b e now landed t s found finished sits asked said =
    ap (λ x. (step b x now landed).effects) said.came
    ∙ target_gives b now landed said.message t s found (finds_seat 0 t.seats s (rise t finished) sits) said.target said.says asked
