-- Behind each step every seat says what it should.
use Rattle.std.specs.Prelude.{ℕ, [], ◌∷◌, Option, Some, None, Bool, true, false, if◌then◌else◌}
use Rattle.std.specs.List.{AllByRecursion}
use Rattle.std.proofs.Common.{inl, sym, subst}
use Rattle.at_base.specs.declared.epr.Epr.{Epr}
use Rattle.at_base.specs.declared.notice.Kind.{Kind}
use Rattle.at_base.specs.declared.message.Register.{Register}
use Rattle.at_base.specs.declared.event.Arrived.{Arrived}
use Rattle.at_base.specs.declared.event.Event.{Event}
use Rattle.at_base.specs.declared.event.Moment.{Moment}
use Rattle.at_base.specs.declared.record.Record.{Record}
use Rattle.at_tables.specs.declared.cells.State.TheVariants as states
use Rattle.at_model.specs.Book.{Book, Transaction, transaction_id}
use Rattle.at_model.specs.Register.{Registration, is_late, new_seat}
use Rattle.at_model.specs.Step.{moment_of, plan, step}
use Rattle.at_model.specs.World.{Node, Who, World, Hosts}
use Rattle.model_laws.specs.DrawnIds.{with_entry}
use Rattle.model_laws.specs.Agreement.{HasAborted, HasCommitted}
use Rattle.model_laws.specs.Growth.{Grows}
use Rattle.model_laws.specs.ReachedWorlds.{counts}
use Rattle.model_laws.proofs.DecisionLaws.{IfThere, all_find, all_join, all_more}
use Rattle.model_laws.proofs.Growth.{grows_counts}
use Rattle.model_laws.proofs.Nodes.{each_put}
use Rattle.agreement.specs.Deeds.{AreSeatsIfLeft, How, IsAbort, IsCommit, IsSameIfLeft}
use Rattle.agreement.specs.StepDeeds.{standing}
use Rattle.agreement.specs.Lives.{book_of}
use Rattle.agreement.proofs.Seats.{deeds_move_seats}
use Rattle.enlistments.specs.Registrations.{Enrolls, has_completion, has_seat, refuses, takes_completion, takes_seat}
use Rattle.enlistments.specs.Moves.{Registered, TransactionDid, TransactionMade}
use Rattle.enlistments.proofs.StepItems.{transactions_after}
use Rattle.enlistments.proofs.NewItems.{made_fresh}
use Rattle.enlistments.proofs.Registrations.{register_enrolls}
use Rattle.votes.specs.VotesAndOutcomes.{IsOutcome}
use Rattle.votes.specs.SeatStates.{SeatSays, SeatTells, SeatsSay, TransactionTells}
use Rattle.votes.proofs.Growth.{tells_on}
use Rattle.votes.proofs.SeatMessages.{hears_behind, told_before}
use Rattle.votes.proofs.StepItems.{aborts_now, commits_now}
use Rattle.votes.proofs.Premises.{StepKeeps, StepPremises}
use Rattle.votes.proofs.SeatMoves.{Hears, seats_say_on}

-- what is left of a transaction
left_tells : (hosts : Hosts) (v : World) (n : ℕ) (e : Event) (t : Transaction) (how : How) (item : Option Transaction) → Hears hosts v (record { node = n; id = t.id }) e t
    → (IsCommit how → HasCommitted v (record { node = n; id = t.id })) → (IsAbort how → HasAborted v (record { node = n; id = t.id })) → IsSameIfLeft t item → AreSeatsIfLeft e t how item
    → IfThere (TransactionTells hosts v n) item
left_tells hosts v n e t how None h c a same seats = tt
left_tells hosts v n e t how (Some new) h c a same seats =
    subst (λ i. AllByRecursion (SeatTells hosts v (record { node = n; id = i })) new.seats) (sym same.id)
    (seats_say_on hosts v (record { node = n; id = t.id }) e t how h c a t.seats new.seats (λ s i. i) h.tells seats)

-- a new seat is asked, or is to be asked
new_tells : (hosts : Hosts) (v : World) (w : Who) (t : Transaction) (participant : Epr) (kind : Kind) → SeatTells hosts v w (new_seat t participant kind)
new_tells hosts v w t participant kind y named = by_late (is_late t.phase kind)
  where
    by_late : (late : Bool) → SeatSays v w y kind (if late then states.Preparing else states.Active)
    by_late true = tt
    by_late false = tt

enrolled_tells : (hosts : Hosts) (v : World) (n : ℕ) (m : Moment) (a : Arrived) (r : Register) (t : Transaction) (g : Registration) → Enrolls m a r t g → TransactionTells hosts v n t
    → TransactionTells hosts v n g.transaction
enrolled_tells hosts v n m a r t g (takes_seat kind asks may is) h =
    subst (λ (y : Registration). TransactionTells hosts v n y.transaction) (sym is)
    (all_join (SeatTells hosts v (record { node = n; id = t.id })) t.seats (new_seat t r.participant kind ∷ []) h (new_tells hosts v (record { node = n; id = t.id }) t r.participant kind, tt))
enrolled_tells hosts v n m a r t g (takes_completion asks may is) h = subst (λ (y : Registration). TransactionTells hosts v n y.transaction) (sym is) h
enrolled_tells hosts v n m a r t g (has_seat kind s asks i k p is) h = subst (λ (y : Registration). TransactionTells hosts v n y.transaction) (sym is) h
enrolled_tells hosts v n m a r t g (has_completion c asks i p is) h = subst (λ (y : Registration). TransactionTells hosts v n y.transaction) (sym is) h
enrolled_tells hosts v n m a r t g (refuses name is) h = subst (λ (y : Registration). TransactionTells hosts v n y.transaction) (sym is) h

-- the book behind a step
did_tell : (hosts : Hosts) (u : World) (n : ℕ) (x : Node) (b : Book) (e : Event) (now : ℕ) (landed : Bool) → StepPremises hosts u n x b e → IsOutcome hosts u → (entry : Option Record)
    → (d : TransactionDid b e now entry (step b e now landed)) → IfThere (TransactionTells hosts (counts u n x b e now landed) n) d.change.item
did_tell hosts u n x b e now landed p j entry d =
    left_tells hosts (counts u n x b e now landed) n e d.old d.deed.how d.change.item (hears_behind hosts u n x b e now landed p j d.old d.found)
    (commits_now u n x b e now landed entry d) (λ a. inl (aborts_now u n x b e now landed entry d a)) d.deed.same
    (deeds_move_seats.seats e d.old entry d.change d.deed)

pub seats_say_step : StepKeeps SeatsSay
seats_say_step hosts u n x b e now landed p j m y found =
    each_put (λ k z. AllByRecursion (TransactionTells hosts w k) (book_of z).transactions) u.nodes n x
    (record x { book = Some (step b e now landed).book; journal = with_entry (plan b e now).entry landed x.journal }) p.found this
    (λ k z differ r. all_more (TransactionTells hosts u k) (TransactionTells hosts w k) (book_of z).transactions (tells_on hosts u w g k) (j.says k z r)) m y found
  where
    w : World
    w = counts u n x b e now landed

    g : Grows u w
    g = grows_counts u n x b e now landed p.found

    entry : Option Record
    entry = standing landed (plan b e now).entry

    before : AllByRecursion (TransactionTells hosts w n) b.transactions
    before = all_more (TransactionTells hosts u n) (TransactionTells hosts w n) b.transactions (tells_on hosts u w g n) (told_before hosts u n x b e p j)

    -- what is made has no seat
    made : (d : TransactionMade b e now entry (step b e now landed)) → TransactionTells hosts w n d.new
    made d = subst (AllByRecursion (SeatTells hosts w (record { node = n; id = d.new.id }))) (sym (made_fresh b e now entry (step b e now landed) d).seats) tt

    enrolled : (d : Registered b e now entry (step b e now landed)) → TransactionTells hosts w n d.gives.transaction
    enrolled d =
        enrolled_tells hosts w n (moment_of b now) d.arrived d.request d.old d.gives
        (subst (Enrolls (moment_of b now) d.arrived d.request d.old) (sym d.given) (register_enrolls (moment_of b now) d.arrived d.request d.old))
        (all_find (TransactionTells hosts w n) transaction_id d.old.id b.transactions d.old before d.found)

    this : AllByRecursion (TransactionTells hosts w n) (step b e now landed).book.transactions
    this =
        transactions_after (TransactionTells hosts w n) b e now entry (step b e now landed) (p.world.moves.moved b e now landed p.ready) before (did_tell hosts u n x b e now landed p j entry) enrolled
        made
