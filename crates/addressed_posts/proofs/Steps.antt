-- What a step posts goes to some endpoint.
use Rattle.std.specs.Prelude.{ℕ, List, [], Option, Some}
use Rattle.std.proofs.Common.{inl, inr, refl, subst, sym, ◌≡◌}
use Rattle.at_base.specs.Numbers.{Numbers}
use Rattle.at_base.specs.declared.event.Event.{Event}
use Rattle.at_base.specs.declared.outs.Out.{Out}
use Rattle.at_model.specs.Activities.{on_begin, on_interpose}
use Rattle.at_model.specs.Book.{Activity, Book, Leaf, Transaction}
use Rattle.at_model.specs.Due.{activity_due, leaf_due, transaction_due}
use Rattle.at_model.specs.Arrivals.{with_answer}
use Rattle.at_model.specs.Moves.{Decision}
use Rattle.at_model.specs.Posts.{accepted}
use Rattle.at_model.specs.Register.{on_register}
use Rattle.at_model.specs.Step.{Outcome, Plan, at_time, make_activity, make_leaf, make_transaction, moment_of, plain, plan, plan_of, put_activity, put_leaf, put_transaction, registration_outcome, still}
use Rattle.model_laws.specs.Shapes.{IsAnswer, MakesActivity, MovesActivity, MovesLeaf, MovesTransaction, Shape, activity_made, activity_moves, activity_when_due, at_activity, at_completion, at_leaf, at_link, at_seat, begins, completes, interposes, leaf_made, leaf_moves, leaf_when_due, nothing_moves, time_moves, time_passes, transaction_made, transaction_moves, transaction_registers, when_due, works}
use Rattle.model_laws.proofs.DecisionLaws.{Both, decided_says, in_branch, plain_both}
use Rattle.model_laws.proofs.OtherEnds.{Anything}
use Rattle.model_laws.proofs.StepShapes.{steps_touch_one}
use Rattle.addressed_posts.specs.AddressedPosts.{PostsAreAddressed}
use Rattle.addressed_posts.proofs.Directed.{AreAddressed, Decides, Directs}
use Rattle.addressed_posts.proofs.Answered.{answers_addressed, as_these, create_addressed, outs_addressed, register_addressed, work_addressed}
use Rattle.addressed_posts.proofs.ItemMessages.{activity_decides, activity_due_decides, ask_directs, complete_directs, leaf_decides, leaf_due_decides}
use Rattle.addressed_posts.proofs.TransactionMessages.{completion_decides, due_decides, link_decides, seat_decides, with_answer_decides}

-- what each rule decides
as_this : {A : Type 0} (d e : Decision A) → d ≡ e → Decides e → Decides d
as_this d e f h = subst Decides (sym f) h

transaction_decides : (b : Book) (e : Event) (now : ℕ) (t : Transaction) (d : Decision Transaction) → MovesTransaction b e now t d → Decides d
transaction_decides b e now t d (at_seat a s came at f) = as_this d _ f (seat_decides (moment_of b now) a t s a.message)
transaction_decides b e now t d (at_link a kind s came at stands f) = as_this d _ f (link_decides (moment_of b now) a kind t s a.message)
transaction_decides b e now t d (at_completion a c came at stands f) = as_this d _ f (completion_decides (moment_of b now) a t c a.message)
transaction_decides b e now t d (when_due came f) = as_this d _ f (due_decides (moment_of b now) t (transaction_due (moment_of b now) t))

leaf_moves_decide : (b : Book) (e : Event) (now : ℕ) (l : Leaf) (d : Decision Leaf) → MovesLeaf b e now l d → Decides d
leaf_moves_decide b e now l d (at_leaf a came at f) = as_this d _ f (leaf_decides (moment_of b now) a l a.message)
leaf_moves_decide b e now l d (leaf_when_due came f) = as_this d _ f (leaf_due_decides (moment_of b now) l (leaf_due (moment_of b now) l))

activity_moves_decide : (b : Book) (e : Event) (now : ℕ) (a : Activity) (d : Decision Activity) → MovesActivity b e now a d → Decides d
activity_moves_decide b e now a d (at_activity r came at f) = as_this d _ f (activity_decides (moment_of b now) r a r.message)
activity_moves_decide b e now a d (activity_when_due came f) = as_this d _ f (activity_due_decides (moment_of b now) a (activity_due (moment_of b now) a))
activity_moves_decide b e now a d (works url kind vote key value came f) = as_this d _ f (ask_directs (moment_of b now) url kind vote key value a a.context)
activity_moves_decide b e now a d (completes n l came named f) = as_this d _ f (complete_directs (moment_of b now) n a)

made_addressed : (b : Book) (e : Event) (now : ℕ) (id : Numbers) (a : Activity) (os : List Out) → MakesActivity b e now id a os → AreAddressed os
unfolding on_begin on_interpose
made_addressed b e now id a os (begins coordinator ms came f g) = as_these os _ g ((_, refl), tt)
made_addressed b e now id a os (interposes coordinator named x came stands f g) = as_these os _ g ((_, refl), tt)

-- each plan, in both branches
Addressed : Outcome → Type 0
Addressed o = AreAddressed o.outs

answer_addressed : (answer : List Out) → IsAnswer answer → AreAddressed answer
answer_addressed answer (inl e) = as_these answer [] e tt
answer_addressed answer (inr e) = as_these answer accepted e (tt, tt)

moves_addressed : {A : Type 0} (b : Book) (put : Option A → Book) (answer : List Out) (d : Decision A) (p : Plan) → p ≡ plan_of b put answer d → IsAnswer answer → Decides d
    → Both Addressed p
unfolding Addressed
moves_addressed b put answer d p f h k =
    let says : AreAddressed answer = answer_addressed answer h in
    subst (Both Addressed) (sym f) (decided_says Directs Anything Addressed (λ r o i. i) b put answer d k (λ c i. outs_addressed answer c.posts says i) says)

plain_addressed : (o : Outcome) (p : Plan) → p ≡ plain o → AreAddressed o.outs → Both Addressed p
unfolding Addressed
plain_addressed o p f h = subst (Both Addressed) (sym f) (plain_both Addressed o h)

plan_addressed : (b : Book) (e : Event) (now : ℕ) (p : Plan) → Shape b e now p → Both Addressed p
plan_addressed b e now p (nothing_moves f) = plain_addressed (still b []) p f tt
plan_addressed b e now p (time_moves a os came why h f) = plain_addressed (still (at_time now b) os) p f (answers_addressed b now a os why)
plan_addressed b e now p (time_passes came f) = plain_addressed (still (at_time now b) accepted) p f (tt, tt)
plan_addressed b e now p (transaction_moves id t answer d stands how h f) =
    moves_addressed b (put_transaction t.id (at_time now b)) answer (with_answer (moment_of b now) t d) p f h
    (with_answer_decides (moment_of b now) t d (transaction_decides b e now t d how))
plan_addressed b e now p (leaf_moves id l answer d stands how h f) =
    moves_addressed b (put_leaf l.id (at_time now b)) answer d p f h (leaf_moves_decide b e now l d how)
plan_addressed b e now p (activity_moves id a answer d stands how h f) =
    moves_addressed b (put_activity a.id (at_time now b)) answer d p f h (activity_moves_decide b e now a d how)
plan_addressed b e now p (transaction_registers id a r t stands came at says h f) =
    plain_addressed (registration_outcome b now (on_register (moment_of b now) a r t)) p f (register_addressed (moment_of b now) a r t)
plan_addressed b e now p (transaction_made a c id t os came at says next made sent h f) =
    plain_addressed (still (make_transaction (at_time now b) t) os) p f (as_these os _ sent (create_addressed (moment_of b now) _ a c (Some id)))
plan_addressed b e now p (leaf_made a w id l os came at says next made sent h f) =
    plain_addressed (still (make_leaf (at_time now b) l) os) p f (as_these os _ sent (work_addressed (moment_of b now) _ a w (Some id)))
plan_addressed b e now p (activity_made id a os next made h f) =
    plain_addressed (still (make_activity (at_time now b) a) os) p f (made_addressed b e now id a os made)

pub posts_are_addressed : PostsAreAddressed
unfolding Addressed
posts_are_addressed b e now landed = in_branch Addressed (plan b e now) landed (plan_addressed b e now (plan b e now) (steps_touch_one b e now))
