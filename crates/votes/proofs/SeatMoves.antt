-- Seats that say what they should go on saying so as they move, each for its reason.
use Rattle.std.specs.Prelude.{List, [], ◌∷◌, Some, ◌≡◌, ◌⊎◌, refl}
use Rattle.std.specs.List.{AllByRecursion}
use Rattle.std.proofs.Common.{inl, inr, sym, subst, ap, ◌∙◌}
use Rattle.at_base.specs.declared.notice.Kind.{Kind}
use Rattle.at_base.specs.declared.notice.Kind.TheVariants as kinds
use Rattle.at_base.specs.declared.notice.Notice.{Notice}
use Rattle.at_base.specs.declared.notice.Notice.TheVariants as notices
use Rattle.at_base.specs.declared.event.Event.{Event}
use Rattle.at_tables.specs.declared.cells.State.{State}
use Rattle.at_tables.specs.declared.cells.State.TheVariants as states
use Rattle.at_model.specs.Book.{Enlistment, Transaction}
use Rattle.at_model.specs.World.{Who, World, Hosts}
use Rattle.model_laws.specs.Agreement.{HasAborted, HasCommitted, HasPosted, IsIn}
use Rattle.model_laws.specs.PhaseAnswers.{Accepted as Seating, IsUnanswered, accepted_as}
use Rattle.agreement.specs.Deeds.{AreCounted, AreSeatsAfter, How, IsAbort, IsCommit, IsCounted, IsWhy, MayLeave, ParticipantSaid, WhyAfter, has_said, is_asked, is_still}
use Rattle.votes.specs.SeatStates.{HasLeft, SeatSays, SeatTells, who_named}

-- what the seats of a transaction say, and what a message says that comes to one of them
pub record Hears (hosts : Hosts) (v : World) (w : Who) (e : Event) (t : Transaction) : Type 0 where
  pub tells : AllByRecursion (SeatTells hosts v w) t.seats
  pub voted : (s : Enlistment) (y : Who) (n : Notice) → IsIn s t.seats → who_named hosts s.participant ≡ Some y → (n ≡ notices.Prepared) ⊎ (n ≡ notices.ReadOnly) → ParticipantSaid n e t s
      → HasPosted v y s.kind n
  pub committed : (s : Enlistment) (y : Who) → IsIn s t.seats → who_named hosts s.participant ≡ Some y → s.kind ≡ kinds.Durable → s.state ≡ states.Committing → ParticipantSaid notices.Committed e t s
      → HasCommitted v y
  pub aborted : (s : Enlistment) → IsIn s t.seats → IsUnanswered s.state → ParticipantSaid notices.Aborted e t s → HasAborted v w

-- one that may leave, and has said Aborted
may_leave : (v : World) (w y : Who) (kind : Kind) (state : State) → MayLeave state → SeatSays v w y kind state → (IsUnanswered state → HasAborted v w) → HasAborted v w
may_leave v w y kind states.Active h k f = f tt
may_leave v w y kind states.Preparing h k f = f tt
may_leave v w y kind states.Aborting h k f = k
may_leave v w y kind other h k f = absurd h

-- one that was told to commit, and has said Committed
has_left : (v : World) (w y : Who) (kind : Kind) → SeatSays v w y kind states.Committing → (kind ≡ kinds.Durable → HasCommitted v y) → HasLeft v w y kind
has_left v w y kinds.Volatile (h, k) f = h
has_left v w y kinds.Durable (h, k) f = (f refl, k)

-- why a seat is in this state
counted_says : (hosts : Hosts) (v : World) (w : Who) (e : Event) (t : Transaction) (s : Enlistment) (y : Who) (n : Notice) (state : State) → Hears hosts v w e t → IsIn s t.seats
    → who_named hosts s.participant ≡ Some y → SeatSays v w y s.kind s.state → ParticipantSaid n e t s → IsCounted n s.state state → SeatSays v w y s.kind state
counted_says hosts v w e t s y notices.Prepared state h i named old said (before, after) =
    subst (SeatSays v w y s.kind) (sym after) (h.voted s y notices.Prepared i named (inl refl) said)
counted_says hosts v w e t s y notices.ReadOnly state h i named old said (before, after) =
    subst (SeatSays v w y s.kind) (sym after) (inr (inl (h.voted s y notices.ReadOnly i named (inr refl) said)))
counted_says hosts v w e t s y notices.Aborted state h i named old said (before, after) =
    subst (SeatSays v w y s.kind) (sym after) (inl (may_leave v w y s.kind s.state before old (λ u. h.aborted s i u said)))
counted_says hosts v w e t s y notices.Committed state h i named old said (before, after) =
    subst (SeatSays v w y s.kind) (sym after)
    (inr (inr (has_left v w y s.kind (subst (SeatSays v w y s.kind) before old) (λ d. h.committed s y i named d before said))))
counted_says hosts v w e t s y notices.Prepare state h i named old said c = absurd c
counted_says hosts v w e t s y other state h i named old said c = absurd c

why_says : (hosts : Hosts) (v : World) (w : Who) (e : Event) (t : Transaction) (s : Enlistment) (y : Who) (state : State) → Hears hosts v w e t → IsIn s t.seats
    → who_named hosts s.participant ≡ Some y → SeatSays v w y s.kind s.state → IsWhy e t s state → SeatSays v w y s.kind state
why_says hosts v w e t s y state h i named old (is_still f) = subst (SeatSays v w y s.kind) (sym f) old
why_says hosts v w e t s y state h i named old (is_asked u f g) = subst (SeatSays v w y s.kind) (sym g) tt
why_says hosts v w e t s y state h i named old (has_said n said c) = counted_says hosts v w e t s y n state h i named old said c

-- of a seat whose participant is the same
as_accepted : (hosts : Hosts) (v : World) (w : Who) (old new : Enlistment) → accepted_as new ≡ accepted_as old
    → ((y : Who) → who_named hosts old.participant ≡ Some y → SeatSays v w y old.kind new.state) → SeatTells hosts v w new
as_accepted hosts v w old new same h y named =
    subst (λ (a : Seating). SeatSays v w y a.kind new.state) (sym same) (h y (ap (λ (a : Seating). who_named hosts a.participant) (sym same) ∙ named))

-- the seats as they stand once the message is counted
pub at_says : (hosts : Hosts) (v : World) (w : Who) (e : Event) (t : Transaction) → Hears hosts v w e t → (olds at : List Enlistment) → ((s : Enlistment) → IsIn s olds → IsIn s t.seats)
    → AllByRecursion (SeatTells hosts v w) olds → AreCounted e t olds at → AllByRecursion (SeatTells hosts v w) at
at_says hosts v w e t h [] [] f k c = tt
at_says hosts v w e t h [] (a ∷ rest) f k c = absurd c
at_says hosts v w e t h (o ∷ os) [] f k c = absurd c
at_says hosts v w e t h (o ∷ os) (a ∷ rest) f (k, ks) (c, cs) = (
  as_accepted hosts v w o a c.seat (λ y named. why_says hosts v w e t o y a.state h (f o (inl refl)) named (k y named) c.why),
  at_says hosts v w e t h os rest (λ s i. f s (inr i)) ks cs,
)

-- and behind the step
after_says : (hosts : Hosts) (v : World) (w : Who) (e : Event) (t : Transaction) (how : How) (s : Enlistment) (y : Who) (state : State) → Hears hosts v w e t
    → (IsCommit how → HasCommitted v w) → (IsAbort how → HasAborted v w) → IsIn s t.seats → who_named hosts s.participant ≡ Some y → SeatSays v w y s.kind s.state
    → WhyAfter e t how s state → SeatSays v w y s.kind state
after_says hosts v w e t how s y states.Active h c a i named old why = tt
after_says hosts v w e t how s y states.Preparing h c a i named old why = tt
after_says hosts v w e t how s y states.Prepared h c a i named old why = why_says hosts v w e t s y states.Prepared h i named old why
after_says hosts v w e t how s y states.Committing h c a i named old (inl f) = subst (SeatSays v w y s.kind) f old
after_says hosts v w e t how s y states.Committing h c a i named old (inr (k, why)) = (why_says hosts v w e t s y states.Prepared h i named old why, c k)
after_says hosts v w e t how s y states.Aborting h c a i named old (inl f) = subst (SeatSays v w y s.kind) f old
after_says hosts v w e t how s y states.Aborting h c a i named old (inr k) = a k
after_says hosts v w e t how s y states.None h c a i named old why = why_says hosts v w e t s y states.None h i named old why
after_says hosts v w e t how s y states.Registering h c a i named old why = subst (SeatSays v w y s.kind) why old
after_says hosts v w e t how s y states.PreparedSuccess h c a i named old why = subst (SeatSays v w y s.kind) why old
after_says hosts v w e t how s y states.Completing h c a i named old why = subst (SeatSays v w y s.kind) why old
after_says hosts v w e t how s y states.Done h c a i named old why = subst (SeatSays v w y s.kind) why old

pub seats_say_on : (hosts : Hosts) (v : World) (w : Who) (e : Event) (t : Transaction) (how : How) → Hears hosts v w e t → (IsCommit how → HasCommitted v w) → (IsAbort how → HasAborted v w)
    → (olds news : List Enlistment) → ((s : Enlistment) → IsIn s olds → IsIn s t.seats) → AllByRecursion (SeatTells hosts v w) olds → AreSeatsAfter e t how olds news
    → AllByRecursion (SeatTells hosts v w) news
seats_say_on hosts v w e t how h c a [] [] f k s = tt
seats_say_on hosts v w e t how h c a [] (n ∷ ns) f k s = absurd s
seats_say_on hosts v w e t how h c a (o ∷ os) [] f k s = absurd s
seats_say_on hosts v w e t how h c a (o ∷ os) (n ∷ ns) f (k, ks) (s, ss) = (
  as_accepted hosts v w o n s.seat (λ y named. after_says hosts v w e t how o y n.state h c a (f o (inl refl)) named (k y named) s.why),
  seats_say_on hosts v w e t how h c a os ns (λ z i. f z (inr i)) ks ss,
)
