-- Over each step a transaction that has asked its durable participants has asked still, or is forgotten.
use Rattle.std.specs.Prelude.{ℕ, List, [], ◌∷◌, ◌++◌, Option, Some, None, Bool, true, false, map, ◌≡◌, refl}
use Rattle.std.proofs.Common.{inl, inr, ap, sym, subst, ◌∙◌}
use Rattle.at_base.specs.Numbers.{Numbers}
use Rattle.at_base.specs.declared.event.Arrived.{Arrived}
use Rattle.at_base.specs.declared.event.Event.{Event}
use Rattle.at_base.specs.declared.event.Moment.{Moment}
use Rattle.at_base.specs.declared.message.Register.{Register}
use Rattle.at_base.specs.declared.outs.Out.{Out}
use Rattle.at_model.specs.Book.{Book, Transaction, find_by, is_id, put_by, transaction_id}
use Rattle.at_model.specs.Moves.{Change, Decision, Goes, Records}
use Rattle.at_model.specs.Posts.{accepted}
use Rattle.at_model.specs.Arrivals.{with_answer}
use Rattle.at_model.specs.Register.{Registration, on_register}
use Rattle.at_model.specs.Step.{Outcome, Plan, at_time, make_activity, make_leaf, make_transaction, moment_of, plan, plan_of, put_activity, put_leaf, put_transaction, registration_outcome, step, still, transaction_at}
use Rattle.model_laws.specs.Order.{AreRising}
use Rattle.model_laws.specs.Shapes.{Shape, nothing_moves, time_moves, time_passes, transaction_moves, leaf_moves, activity_moves, transaction_registers, transaction_made, leaf_made, activity_made}
use Rattle.model_laws.proofs.DecisionLaws.{Both, IfThere, all_find, decision_both, found_id, in_branch, plain_both}
use Rattle.model_laws.proofs.LinkDecisions.{Linked}
use Rattle.model_laws.proofs.RecoveryLaws.{same_id}
use Rattle.model_laws.proofs.StepShapes.{steps_touch_one}
use Rattle.agreement.specs.FinishedTransactions.{IsFinished}
use Rattle.agreement.proofs.OtherIds.{find_other, find_this}
use Rattle.enlistments.specs.Registrations.{Enrolls, has_completion, has_seat, refuses, takes_completion, takes_seat}
use Rattle.enlistments.specs.Moves.{IsReady}
use Rattle.enlistments.proofs.Answers.{keeps_id}
use Rattle.enlistments.proofs.Registrations.{register_enrolls}
use Rattle.owed.specs.DurablePrepares.{AskingGoesOn, GoesOn, GoesOnBoth, HasAskedIfLeft, has_asked}
use Rattle.owed.specs.Shape.{AreShaped, IsShaped}
use Rattle.owed.proofs.DurablePrepareDues.{both_go}
use Rattle.owed.proofs.Rules.{Owes}
use Rattle.owed.proofs.SeatPosts.{left_id}
use Rattle.owed.proofs.Steps.{moved_owes}
use Rattle.owed.proofs.LinkBooks.{joined_found, one_of}

-- what is left of the transaction of this id
StillAsked : Numbers → Outcome → Type 0
StillAsked id o = HasAskedIfLeft (transaction_at o.book id)

left_so : (late : Bool) (id : Numbers) (c : Change Transaction) → late ≡ true → GoesOn late id c → HasAskedIfLeft c.item
left_so late id c e (inl (h, i)) = h
left_so late id c e (inr (f, i)) = let g : true ≡ false = sym e ∙ f in absurd cc

as_found : (o : Option Transaction) (t : Transaction) → o ≡ Some t → has_asked t.phase ≡ true → HasAskedIfLeft o
as_found o t f e = subst HasAskedIfLeft (sym f) e

one_put : (b : Book) (t u : Transaction) (new : Option Transaction) → AreRising (map transaction_id b.transactions) → transaction_at b t.id ≡ Some t → transaction_at b u.id ≡ Some u → has_asked u.phase ≡ true
    → IfThere (λ x. transaction_id x ≡ t.id) new → (has_asked t.phase ≡ true → HasAskedIfLeft new) → HasAskedIfLeft (find_by transaction_id u.id (put_by transaction_id t.id new b.transactions))
one_put b t u new rising stands found asked own h = by_case (is_id t.id u.id) refl
  where
    by_case : (c : Bool) → is_id t.id u.id ≡ c → HasAskedIfLeft (find_by transaction_id u.id (put_by transaction_id t.id new b.transactions))
    by_case true g =
        let same : t ≡ u = one_of t u (transaction_at b t.id) stands (subst (λ j. transaction_at b j ≡ Some u) (sym (same_id t.id u.id g)) found) in
        subst (λ x. HasAskedIfLeft (find_by transaction_id x.id (put_by transaction_id t.id new b.transactions))) same
        (subst HasAskedIfLeft (sym (find_this transaction_id t.id t new b.transactions rising stands own)) (h (subst (λ x. has_asked x.phase ≡ true) (sym same) asked)))
    by_case false g = as_found (find_by transaction_id u.id (put_by transaction_id t.id new b.transactions)) u (find_other transaction_id t.id u.id new b.transactions own g ∙ found) asked

decision_still : (b : Book) (e : Event) (now : ℕ) (t u : Transaction) (answer : List Out) (d : Decision Transaction) → AreRising (map transaction_id b.transactions) → transaction_at b t.id ≡ Some t
    → transaction_at b u.id ≡ Some u → has_asked u.phase ≡ true → Owes (moment_of b now) e t d → GoesOnBoth (has_asked t.phase) t.id d
    → Both (StillAsked u.id) (plan_of b (put_transaction t.id (at_time now b)) answer d)
unfolding StillAsked
decision_still b e now t u answer (Goes c) rising stands found asked own h =
    let r : HasAskedIfLeft (find_by transaction_id u.id (put_by transaction_id t.id c.item b.transactions)) =
    one_put b t u c.item rising stands found asked (left_id (moment_of b now) e t c.posts c.item own) (λ f. left_so (has_asked t.phase) t.id c f h) in
    record { landed = r; absent = r }
decision_still b e now t u answer (Records r c None) rising stands found asked own h = record {
  landed = one_put b t u c.item rising stands found asked (left_id (moment_of b now) e t c.posts c.item own.landed) (λ f. left_so (has_asked t.phase) t.id c f h);
  absent = as_found (transaction_at b u.id) u found asked;
}
decision_still b e now t u answer (Records r c (Some d)) rising stands found asked own (h, k) = record {
  landed = one_put b t u c.item rising stands found asked (left_id (moment_of b now) e t c.posts c.item own.landed) (λ f. left_so (has_asked t.phase) t.id c f h);
  absent = one_put b t u d.item rising stands found asked (left_id (moment_of b now) e t d.posts d.item own.otherwise) (λ f. left_so (has_asked t.phase) t.id d f k);
}

enrolled_phase : (m : Moment) (a : Arrived) (r : Register) (t : Transaction) (g : Registration) → Enrolls m a r t g → g.transaction.phase ≡ t.phase
enrolled_phase m a r t g (takes_seat kind p may is) = ap (λ x. x.transaction.phase) is
enrolled_phase m a r t g (takes_completion p may is) = ap (λ x. x.transaction.phase) is
enrolled_phase m a r t g (has_seat kind s p i k f is) = ap (λ x. x.transaction.phase) is
enrolled_phase m a r t g (has_completion c p there f is) = ap (λ x. x.transaction.phase) is
enrolled_phase m a r t g (refuses name is) = ap (λ x. x.transaction.phase) is

shape_still : (b : Book) (e : Event) (now : ℕ) (p : Plan) (u : Transaction) → IsReady b → AreShaped b → transaction_at b u.id ≡ Some u → has_asked u.phase ≡ true → Shape b e now p → Both (StillAsked u.id) p
unfolding StillAsked
shape_still b e now p u ready shaped found asked (nothing_moves f) = subst (Both (StillAsked u.id)) (sym f) (plain_both (StillAsked u.id) (still b []) (as_found (transaction_at b u.id) u found asked))
shape_still b e now p u ready shaped found asked (time_moves a os came why o f) =
    subst (Both (StillAsked u.id)) (sym f) (plain_both (StillAsked u.id) (still (at_time now b) os) (as_found (transaction_at b u.id) u found asked))
shape_still b e now p u ready shaped found asked (time_passes came f) =
    subst (Both (StillAsked u.id)) (sym f) (plain_both (StillAsked u.id) (still (at_time now b) accepted) (as_found (transaction_at b u.id) u found asked))
shape_still b e now p u ready shaped found asked (transaction_moves id t answer d stands how o f) =
    subst (Both (StillAsked u.id)) (sym f)
    (decision_still b e now t u answer (with_answer (moment_of b now) t d) ready.order.rising.transactions
    (subst (λ j. transaction_at b j ≡ Some t) (sym (found_id transaction_id id b.transactions t stands)) stands) found asked
    (moved_owes b e now t d (all_find IsShaped transaction_id id b.transactions t shaped stands) (all_find Linked transaction_id id b.transactions t ready.phases.links stands)
    (all_find IsFinished transaction_id id b.transactions t ready.finished stands) how) (both_go b e now id t d ready shaped stands how))
shape_still b e now p u ready shaped found asked (leaf_moves id l answer d stands how o f) =
    subst (Both (StillAsked u.id)) (sym f)
    (decision_both (StillAsked u.id) (λ r x i. i) b (put_leaf l.id (at_time now b)) answer d (λ c. as_found (transaction_at b u.id) u found asked) (as_found (transaction_at b u.id) u found asked))
shape_still b e now p u ready shaped found asked (activity_moves id a answer d stands how o f) =
    subst (Both (StillAsked u.id)) (sym f)
    (decision_both (StillAsked u.id) (λ r x i. i) b (put_activity a.id (at_time now b)) answer d (λ c. as_found (transaction_at b u.id) u found asked) (as_found (transaction_at b u.id) u found asked))
shape_still b e now p u ready shaped found asked (transaction_registers id a r t stands came at says o f) =
    let g : Registration = on_register (moment_of b now) a r t in
    let own : g.transaction.id ≡ t.id = keeps_id (moment_of b now) a r t g (register_enrolls (moment_of b now) a r t) in
    let phase : g.transaction.phase ≡ t.phase = enrolled_phase (moment_of b now) a r t g (register_enrolls (moment_of b now) a r t) in
    subst (Both (StillAsked u.id)) (sym f)
    (plain_both (StillAsked u.id) (registration_outcome b now g)
    (subst (λ j. HasAskedIfLeft (find_by transaction_id u.id (put_by transaction_id j (Some g.transaction) b.transactions))) (sym own)
    (one_put b t u (Some g.transaction) ready.order.rising.transactions (subst (λ j. transaction_at b j ≡ Some t) (sym (found_id transaction_id id b.transactions t stands)) stands) found asked own
    (λ k. ap has_asked phase ∙ k))))
shape_still b e now p u ready shaped found asked (transaction_made a c id t os came at says next made sent o f) =
    subst (Both (StillAsked u.id)) (sym f)
    (plain_both (StillAsked u.id) (still (make_transaction (at_time now b) t) os) (as_found (find_by transaction_id u.id (b.transactions ++ t ∷ [])) u (joined_found u t b.transactions found) asked))
shape_still b e now p u ready shaped found asked (leaf_made a w id l os came at says next made sent o f) =
    subst (Both (StillAsked u.id)) (sym f) (plain_both (StillAsked u.id) (still (make_leaf (at_time now b) l) os) (as_found (transaction_at b u.id) u found asked))
shape_still b e now p u ready shaped found asked (activity_made id a os next made o f) =
    subst (Both (StillAsked u.id)) (sym f) (plain_both (StillAsked u.id) (still (make_activity (at_time now b) a) os) (as_found (transaction_at b u.id) u found asked))

step_still : (b : Book) (e : Event) (now : ℕ) (landed : Bool) → IsReady b → AreShaped b → (t : Transaction) → transaction_at b t.id ≡ Some t → has_asked t.phase ≡ true
    → HasAskedIfLeft (transaction_at (step b e now landed).book t.id)
unfolding StillAsked
step_still b e now landed ready shaped t found asked = in_branch (StillAsked t.id) (plan b e now) landed (shape_still b e now (plan b e now) t ready shaped found asked (steps_touch_one b e now))

pub asking_goes_on : AskingGoesOn
asking_goes_on = record {
  moves = λ b e now id t d ready shaped stands how. both_go b e now id t d ready shaped stands how;
  steps = λ b e now landed ready shaped t found asked. step_still b e now landed ready shaped t found asked;
}
