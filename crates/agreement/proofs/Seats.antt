-- From the seats before a deed to those behind it.
use Rattle.std.specs.Prelude.{List, [], ◌∷◌, Option, Some, None, Bool, true, false, ◌≡◌, refl, if◌then◌else◌, ◌⊎◌}
use Rattle.std.proofs.Common.{sym, subst, inl, inr}
use Rattle.at_base.specs.declared.event.Event.{Event}
use Rattle.at_base.specs.declared.notice.Notice.{Notice}
use Rattle.at_base.specs.declared.notice.Notice.TheVariants as notices
use Rattle.at_tables.specs.declared.cells.State.{State}
use Rattle.at_tables.specs.declared.cells.State.TheVariants as states
use Rattle.at_model.specs.Book.{Enlistment, Transaction}
use Rattle.at_model.specs.Seats.{in_state, is_open}
use Rattle.model_laws.specs.PhaseAnswers.{IsUnanswered}
use Rattle.agreement.specs.Deeds.{How, AreCounted, AreSeatsAfter, AreSeatsIfLeft, Becomes, Counted, DeedsMoveSeats, IsAbort, IsCommit, IsCounted, IsSeatAfter, IsWhy, WhyAfter, has_said, is_asked, is_still, rolled_back, told_to_commit}
use Rattle.agreement.proofs.TransactionRules.{only_prepared}

-- a message puts a seat into Prepared or None
said_states : (n : Notice) (before after : State) → IsCounted n before after → (after ≡ states.Prepared) ⊎ (after ≡ states.None)
said_states notices.Prepared before after h = inl h.1
said_states notices.ReadOnly before after h = inr h.1
said_states notices.Aborted before after h = inr h.1
said_states notices.Committed before after h = inr h.1
said_states notices.Prepare before after h = absurd h
said_states other before after h = absurd h

-- in every other state it was before
was_so : (e : Event) (t : Transaction) (old : Enlistment) (state : State) → (state ≡ states.Preparing → ⊥) → (state ≡ states.Prepared → ⊥) → (state ≡ states.None → ⊥) → IsWhy e t old state
    → old.state ≡ state
was_so e t old state p q r (is_still f) = sym f
was_so e t old state p q r (is_asked u f g) = absurd (p g)
was_so e t old state p q r (has_said n said c) = either_one (said_states n old.state state c)
  where
    either_one : (state ≡ states.Prepared) ⊎ (state ≡ states.None) → old.state ≡ state
    either_one (inl k) = absurd (q k)
    either_one (inr k) = absurd (r k)

was_preparing : (e : Event) (t : Transaction) (old : Enlistment) → IsWhy e t old states.Preparing → IsUnanswered old.state
was_preparing e t old (is_still f) = subst IsUnanswered f tt
was_preparing e t old (is_asked u f g) = subst IsUnanswered (sym f) tt
was_preparing e t old (has_said n said c) = either_one (said_states n old.state states.Preparing c)
  where
    either_one : (states.Preparing ≡ states.Prepared) ⊎ (states.Preparing ≡ states.None) → IsUnanswered old.state
    either_one (inl k) = absurd cc
    either_one (inr k) = absurd cc

why_after : (e : Event) (t : Transaction) (how : How) (old : Enlistment) (state : State) → IsWhy e t old state → WhyAfter e t how old state
why_after e t how old states.Active h = was_so e t old states.Active (λ x. cc) (λ x. cc) (λ x. cc) h
why_after e t how old states.Preparing h = was_preparing e t old h
why_after e t how old states.Prepared h = h
why_after e t how old states.Committing h = inl (was_so e t old states.Committing (λ x. cc) (λ x. cc) (λ x. cc) h)
why_after e t how old states.Aborting h = inl (was_so e t old states.Aborting (λ x. cc) (λ x. cc) (λ x. cc) h)
why_after e t how old states.None h = h
why_after e t how old states.Registering h = was_so e t old states.Registering (λ x. cc) (λ x. cc) (λ x. cc) h
why_after e t how old states.PreparedSuccess h = was_so e t old states.PreparedSuccess (λ x. cc) (λ x. cc) (λ x. cc) h
why_after e t how old states.Completing h = was_so e t old states.Completing (λ x. cc) (λ x. cc) (λ x. cc) h
why_after e t how old states.Done h = was_so e t old states.Done (λ x. cc) (λ x. cc) (λ x. cc) h

-- seats that nobody tells
as_counted : (e : Event) (t : Transaction) (how : How) (old at : Enlistment) → Counted e t old at → IsSeatAfter e t how old at
as_counted e t how old at h = record { seat = h.seat; why = why_after e t how old at.state h.why }

stay_counted : (e : Event) (t : Transaction) (how : How) (olds ats : List Enlistment) → AreCounted e t olds ats → AreSeatsAfter e t how olds ats
stay_counted e t how [] [] h = tt
stay_counted e t how [] (a ∷ rest) h = absurd h
stay_counted e t how (o ∷ os) [] h = absurd h
stay_counted e t how (o ∷ os) (a ∷ rest) (h, k) = (as_counted e t how o a h, stay_counted e t how os rest k)

-- seats that are told to commit, and to roll back
commit_one : (b : Bool) (e : Event) (t : Transaction) (how : How) (old at : Enlistment) → IsCommit how → in_state states.Prepared at ≡ b → Counted e t old at
    → IsSeatAfter e t how old (record at { state = if b then states.Committing else at.state })
commit_one true e t how old at c f h = record { seat = h.seat; why = inr (c, subst (IsWhy e t old) (only_prepared at.state f) h.why) }
commit_one false e t how old at c f h = record { seat = h.seat; why = why_after e t how old at.state h.why }

commit_seats : (e : Event) (t : Transaction) (how : How) (olds ats : List Enlistment) → IsCommit how → AreCounted e t olds ats → AreSeatsAfter e t how olds (told_to_commit ats)
commit_seats e t how [] [] c h = tt
commit_seats e t how [] (a ∷ rest) c h = absurd h
commit_seats e t how (o ∷ os) [] c h = absurd h
commit_seats e t how (o ∷ os) (a ∷ rest) c (h, k) = (commit_one (in_state states.Prepared a) e t how o a c refl h, commit_seats e t how os rest c k)

roll_one : (b : Bool) (e : Event) (t : Transaction) (how : How) (old at : Enlistment) → IsAbort how → Counted e t old at
    → IsSeatAfter e t how old (record at { state = if b then states.Aborting else at.state })
roll_one true e t how old at a h = record { seat = h.seat; why = inr a }
roll_one false e t how old at a h = record { seat = h.seat; why = why_after e t how old at.state h.why }

roll_seats : (e : Event) (t : Transaction) (how : How) (olds ats : List Enlistment) → IsAbort how → AreCounted e t olds ats → AreSeatsAfter e t how olds (rolled_back ats)
roll_seats e t how [] [] a h = tt
roll_seats e t how [] (x ∷ rest) a h = absurd h
roll_seats e t how (o ∷ os) [] a h = absurd h
roll_seats e t how (o ∷ os) (x ∷ rest) a (h, k) = (roll_one (is_open x) e t how o x a h, roll_seats e t how os rest a k)

-- by the deed
becomes_seats : (e : Event) (t : Transaction) (how : How) (at : List Enlistment) (new : Option Transaction) → AreCounted e t t.seats at → Becomes how t at new → AreSeatsIfLeft e t how new
becomes_seats e t How.Idles at None h k = tt
becomes_seats e t How.Idles at (Some x) h k = subst (AreSeatsAfter e t How.Idles t.seats) (sym k.1) (stay_counted e t How.Idles t.seats at h)
becomes_seats e t How.Aborts at None h k = tt
becomes_seats e t How.Aborts at (Some x) h (p, q, r) = subst (AreSeatsAfter e t How.Aborts t.seats) (sym q) (roll_seats e t How.Aborts t.seats at tt h)
becomes_seats e t How.Votes at None h k = tt
becomes_seats e t How.Votes at (Some x) h k = subst (AreSeatsAfter e t How.Votes t.seats) (sym k.1) (stay_counted e t How.Votes t.seats at h)
becomes_seats e t How.Decides at None h k = tt
becomes_seats e t How.Decides at (Some x) h k = subst (AreSeatsAfter e t How.Decides t.seats) (sym k.1) (commit_seats e t How.Decides t.seats at tt h)
becomes_seats e t How.DecidesAlone at None h k = tt
becomes_seats e t How.DecidesAlone at (Some x) h k = absurd cc
becomes_seats e t How.Leaves at None h k = tt
becomes_seats e t How.Leaves at (Some x) h k = absurd cc
becomes_seats e t How.Commits at None h k = tt
becomes_seats e t How.Commits at (Some x) h k = subst (AreSeatsAfter e t How.Commits t.seats) (sym k.1) (commit_seats e t How.Commits t.seats at tt h)
becomes_seats e t How.RollsBack at None h k = tt
becomes_seats e t How.RollsBack at (Some x) h (p, q, r) = subst (AreSeatsAfter e t How.RollsBack t.seats) (sym q) (roll_seats e t How.RollsBack t.seats at tt h)
becomes_seats e t How.Ends at None h k = tt
becomes_seats e t How.Ends at (Some x) h k = absurd cc
becomes_seats e t How.Forgets at None h k = tt
becomes_seats e t How.Forgets at (Some x) h k = absurd cc

pub deeds_move_seats : DeedsMoveSeats
deeds_move_seats = record { seats = λ e t entry c d. becomes_seats e t d.how d.at c.item d.counted d.becomes }
