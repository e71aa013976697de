-- Each id that a book holds stays drawn, and a step makes one new id at most.
use Rattle.std.specs.Prelude.{ℕ, List, [], Option, Some, None, Bool, not, length, ◌≡◌, ◌⊎◌, refl}
use Rattle.std.specs.List.{AllByRecursion}
use Rattle.std.proofs.Common.{inl, inr, sym, subst, ap, ◌∙◌}
use Rattle.at_base.specs.Numbers.{Numbers}
use Rattle.at_base.specs.declared.event.Event.{Event}
use Rattle.at_base.specs.declared.event.Moment.{Moment}
use Rattle.at_base.specs.declared.outs.Out.{Out}
use Rattle.at_base.specs.declared.record.Record.{Record}
use Rattle.at_model.specs.Posts.{accepted}
use Rattle.at_model.specs.Book.{Book, Transaction, Leaf, Activity, put_by, transaction_id, leaf_id, activity_id, next_id}
use Rattle.at_model.specs.Moves.{Decision, Change}
use Rattle.at_model.specs.Arrivals.{with_answer}
use Rattle.at_model.specs.Register.{on_register}
use Rattle.at_model.specs.Activities.{on_begin, on_interpose}
use Rattle.at_model.specs.Step.{Outcome, Plan, still, at_time, moment_of, is_under, put_transaction, put_leaf, put_activity, put_activities, make_transaction, make_leaf, make_activity, registration_outcome, plan, step, plan_of}
use Rattle.model_laws.specs.Laws.{HasId, HasLeafId}
use Rattle.model_laws.specs.Shapes.{MovesTransaction, MovesLeaf, MovesActivity, MakesActivity, Shape, at_seat, at_link, at_completion, when_due, at_leaf, leaf_when_due, at_activity, activity_when_due, works, completes, begins, interposes, nothing_moves, time_moves, time_passes, transaction_moves, leaf_moves, activity_moves, transaction_registers, transaction_made, leaf_made, activity_made}
use Rattle.model_laws.proofs.DecisionLaws.{Both, in_branch, plain_both, IfThere, decided_both, all_find, all_put, all_filter, StaysOn, DecisionHas}
use Rattle.model_laws.proofs.ItemIds.{Names, NamesLeaf, Kept, LeafKept, HasBoth, NoRecord, ActivityKept, seat_kept, link_kept, completion_kept, due_kept, with_answer_kept, register_kept, leaf_kept, leaf_due_kept, activity_kept, activity_due_kept, asks_kept, completes_kept}
use Rattle.model_laws.proofs.NextIds.{makes_under_the_next_id}
use Rattle.model_laws.proofs.StepShapes.{steps_touch_one}

-- each way to move keeps the id
pub moved_kept : (b : Book) (e : Event) (now : ℕ) (t : Transaction) (d : Decision Transaction) → MovesTransaction b e now t d → Kept t.id d
moved_kept b e now t d (at_seat a s came why is) = subst (Kept t.id) (sym is) (seat_kept t.id (moment_of b now) a t s a.message refl)
moved_kept b e now t d (at_link a kind s came why under is) = subst (Kept t.id) (sym is) (link_kept t.id (moment_of b now) a kind t s a.message refl)
moved_kept b e now t d (at_completion a c came why there is) = subst (Kept t.id) (sym is) (completion_kept t.id (moment_of b now) a t c a.message refl)
moved_kept b e now t d (when_due came is) = subst (Kept t.id) (sym is) (due_kept t.id (moment_of b now) t _ refl)

pub leaf_moved_kept : (b : Book) (e : Event) (now : ℕ) (l : Leaf) (d : Decision Leaf) → MovesLeaf b e now l d → LeafKept l.id d
leaf_moved_kept b e now l d (at_leaf a came why is) = subst (LeafKept l.id) (sym is) (leaf_kept l.id (moment_of b now) a l a.message refl)
leaf_moved_kept b e now l d (leaf_when_due came is) = subst (LeafKept l.id) (sym is) (leaf_due_kept l.id (moment_of b now) l _ refl)

pub activity_moved_kept : (b : Book) (e : Event) (now : ℕ) (a : Activity) (d : Decision Activity) → MovesActivity b e now a d → ActivityKept a d
activity_moved_kept b e now a d (at_activity r came why is) = subst (ActivityKept a) (sym is) (activity_kept (moment_of b now) r a r.message)
activity_moved_kept b e now a d (activity_when_due came is) = subst (ActivityKept a) (sym is) (activity_due_kept (moment_of b now) a _)
activity_moved_kept b e now a d (works url kind vote key value came is) = subst (ActivityKept a) (sym is) (asks_kept (moment_of b now) url kind vote key value a a.context)
activity_moved_kept b e now a d (completes n l came why is) = subst (ActivityKept a) (sym is) (completes_kept (moment_of b now) n a)

-- a book of which the ids of each list have a property, and each activity's root has one
pub record Holds (T L A R : Numbers → Type 0) (b : Book) : Type 0 where
  pub transactions : AllByRecursion (λ t. T t.id) b.transactions
  pub leaves : AllByRecursion (λ l. L l.id) b.leaves
  pub activities : AllByRecursion (λ a. A a.id) b.activities
  pub roots : AllByRecursion (λ a. R a.root) b.activities

-- What a step leaves: ids that were there, or one item more, under the next id.
pub data Leaves (T L A R : Numbers → Type 0) (b : Book) (now : ℕ) (o : Outcome) : Type 0 where
  as_before : Holds T L A R o.book → Leaves T L A R b now o
  one_transaction : (id : Numbers) (t : Transaction) → next_id b ≡ Some id → t.id ≡ id → o.book ≡ make_transaction (at_time now b) t → Leaves T L A R b now o
  one_leaf : (id : Numbers) (l : Leaf) → next_id b ≡ Some id → l.id ≡ id → o.book ≡ make_leaf (at_time now b) l → Leaves T L A R b now o
  one_activity : (id : Numbers) (a : Activity) → next_id b ≡ Some id → a.id ≡ id → (a.root ≡ id) ⊎ R a.root → o.book ≡ make_activity (at_time now b) a → Leaves T L A R b now o

-- the item that is left has a property of the id that it had
id_there : (P : Numbers → Type 0) (id : Numbers) (t : Option Transaction) → HasId id t → P id → IfThere (λ x. P x.id) t
id_there P id None h p = tt
id_there P id (Some t) h p = subst P (sym h) p

leaf_there : (P : Numbers → Type 0) (id : Numbers) (l : Option Leaf) → HasLeafId id l → P id → IfThere (λ x. P x.id) l
leaf_there P id None h p = tt
leaf_there P id (Some l) h p = subst P (sym h) p

activity_there : (P : Numbers → Type 0) (a : Activity) (x : Option Activity) → HasBoth a x → P a.id → IfThere (λ x. P x.id) x
activity_there P a None h p = tt
activity_there P a (Some x) h p = subst P (sym h.own) p

root_there : (R : Numbers → Type 0) (a : Activity) (x : Option Activity) → HasBoth a x → R a.root → IfThere (λ x. R x.root) x
root_there R a None h p = tt
root_there R a (Some x) h p = subst R (sym h.root) p

all_put_activities : (P : Activity → Type 0) (id : Numbers) (x : Option Activity) (list : List Activity) → IfThere P x → AllByRecursion P list
    → AllByRecursion P (put_activities id x list)
all_put_activities P id None list h k = all_filter P (λ a. not (is_under id a)) (put_by activity_id id None list) (all_put P activity_id id None list h k)
all_put_activities P id (Some a) list h k = all_put P activity_id id (Some a) list h k

put_holds : (T L A R : Numbers → Type 0) (b : Book) (now : ℕ) (id : Numbers) (t : Option Transaction) → Holds T L A R b → T id → HasId id t
    → Holds T L A R (put_transaction id (at_time now b) t)
put_holds T L A R b now id t h p k = record {
  transactions = all_put (λ x. T x.id) transaction_id id t b.transactions (id_there T id t k p) h.transactions;
  leaves = h.leaves;
  activities = h.activities;
  roots = h.roots;
}

put_leaf_holds : (T L A R : Numbers → Type 0) (b : Book) (now : ℕ) (id : Numbers) (l : Option Leaf) → Holds T L A R b → L id → HasLeafId id l
    → Holds T L A R (put_leaf id (at_time now b) l)
put_leaf_holds T L A R b now id l h p k = record {
  transactions = h.transactions;
  leaves = all_put (λ x. L x.id) leaf_id id l b.leaves (leaf_there L id l k p) h.leaves;
  activities = h.activities;
  roots = h.roots;
}

put_activity_holds : (T L A R : Numbers → Type 0) (b : Book) (now : ℕ) (a : Activity) (x : Option Activity) → Holds T L A R b → A a.id → R a.root → HasBoth a x
    → Holds T L A R (put_activity a.id (at_time now b) x)
put_activity_holds T L A R b now a x h p r k = record {
  transactions = h.transactions;
  leaves = h.leaves;
  activities = all_put_activities (λ x. A x.id) a.id x b.activities (activity_there A a x k p) h.activities;
  roots = all_put_activities (λ x. R x.root) a.id x b.activities (root_there R a x k r) h.roots;
}

-- what is made has the next id
made_id : (id : Numbers) (o : Option Transaction) (t : Transaction) → HasId id o → o ≡ Some t → t.id ≡ id
made_id id o t h e = subst (HasId id) e h

made_leaf_id : (id : Numbers) (o : Option Leaf) (l : Leaf) → HasLeafId id o → o ≡ Some l → l.id ≡ id
made_leaf_id id o l h e = subst (HasLeafId id) e h

begun_root : (m : Moment) (id : Numbers) (coordinator : List ℕ) (ms : ℕ) → (on_begin m id coordinator ms).activity.root ≡ id
unfolding on_begin
begun_root m id coordinator ms = refl

interposed_root : (m : Moment) (id : Numbers) (coordinator : List ℕ) (x : Activity) → (on_interpose m id coordinator x.root x.context).activity.root ≡ x.root
unfolding on_interpose
interposed_root m id coordinator x = refl

activity_made_leaves : (T L A R : Numbers → Type 0) (b : Book) (e : Event) (now : ℕ) (id : Numbers) (a : Activity) (os : List Out) → Holds T L A R b → next_id b ≡ Some id
    → MakesActivity b e now id a os → Leaves T L A R b now (still (make_activity (at_time now b) a) os)
activity_made_leaves T L A R b e now id a os h next (begins coordinator ms came is sent) =
    one_activity id a next (ap (λ x. x.id) is ∙ makes_under_the_next_id.begun (moment_of b now) id coordinator ms)
    (inl (ap (λ x. x.root) is ∙ begun_root (moment_of b now) id coordinator ms)) refl
activity_made_leaves T L A R b e now id a os h next (interposes coordinator named x came found is sent) =
    one_activity id a next (ap (λ x. x.id) is ∙ makes_under_the_next_id.interposed (moment_of b now) id coordinator x.root x.context)
    (inr (subst R (sym (ap (λ x. x.root) is ∙ interposed_root (moment_of b now) id coordinator x))
    (all_find (λ x. R x.root) activity_id named b.activities x h.roots found))) refl

holds_on : (T L A R : Numbers → Type 0) → StaysOn (λ o. Holds T L A R o.book)
holds_on T L A R r o h = record { transactions = h.transactions; leaves = h.leaves; activities = h.activities; roots = h.roots }

moved_leaves : {X : Type 0} (P : Option X → Type 0) (Q : Record → Option X → Type 0) (T L A R : Numbers → Type 0) (b : Book) (now : ℕ) (put : Option X → Book) (answer : List Out)
    (d : Decision X) → DecisionHas P Q d → ((c : Change X) → P c.item → Holds T L A R (put c.item)) → Holds T L A R b → Both (Leaves T L A R b now) (plan_of b put answer d)
moved_leaves P Q T L A R b now put answer d has f h =
    let k : Both (λ o. Holds T L A R o.book) (plan_of b put answer d) = decided_both P Q (λ o. Holds T L A R o.book) (holds_on T L A R) b put answer d has f h in
    record { landed = as_before k.landed; absent = as_before k.absent }

step_leaves : (T L A R : Numbers → Type 0) (b : Book) (e : Event) (now : ℕ) (p : Plan) → Holds T L A R b → Shape b e now p → Both (Leaves T L A R b now) p
step_leaves T L A R b e now p h (nothing_moves f) = subst (Both (Leaves T L A R b now)) (sym f) (plain_both (Leaves T L A R b now) (still b []) (as_before h))
step_leaves T L A R b e now p h (time_moves a os came why o f) =
    subst (Both (Leaves T L A R b now)) (sym f) (plain_both (Leaves T L A R b now) (still (at_time now b) os) (as_before (same_holds h)))
  where
    same_holds : Holds T L A R b → Holds T L A R (at_time now b)
    same_holds h = record { transactions = h.transactions; leaves = h.leaves; activities = h.activities; roots = h.roots }
step_leaves T L A R b e now p h (time_passes came f) =
    subst (Both (Leaves T L A R b now)) (sym f) (plain_both (Leaves T L A R b now) (still (at_time now b) accepted)
    (as_before (record { transactions = h.transactions; leaves = h.leaves; activities = h.activities; roots = h.roots })))
step_leaves T L A R b e now p h (transaction_moves id t answer d stands how o f) =
    subst (Both (Leaves T L A R b now)) (sym f)
    (moved_leaves (HasId t.id) (Names t.id) T L A R b now (put_transaction t.id (at_time now b)) answer (with_answer (moment_of b now) t d)
    (with_answer_kept t.id (moment_of b now) t d (moved_kept b e now t d how))
    (λ c k. put_holds T L A R b now t.id c.item h (all_find (λ x. T x.id) transaction_id id b.transactions t h.transactions stands) k)
    h)
step_leaves T L A R b e now p h (leaf_moves id l answer d stands how o f) =
    subst (Both (Leaves T L A R b now)) (sym f)
    (moved_leaves (HasLeafId l.id) (NamesLeaf l.id) T L A R b now (put_leaf l.id (at_time now b)) answer d (leaf_moved_kept b e now l d how)
    (λ c k. put_leaf_holds T L A R b now l.id c.item h (all_find (λ x. L x.id) leaf_id id b.leaves l h.leaves stands) k)
    h)
step_leaves T L A R b e now p h (activity_moves id a answer d stands how o f) =
    subst (Both (Leaves T L A R b now)) (sym f)
    (moved_leaves (HasBoth a) NoRecord T L A R b now (put_activity a.id (at_time now b)) answer d (activity_moved_kept b e now a d how)
    (λ c k. put_activity_holds T L A R b now a c.item h
    (all_find (λ x. A x.id) activity_id id b.activities a h.activities stands) (all_find (λ x. R x.root) activity_id id b.activities a h.roots stands) k)
    h)
step_leaves T L A R b e now p h (transaction_registers id a r t stands came at says o f) =
    subst (Both (Leaves T L A R b now)) (sym f)
    (plain_both (Leaves T L A R b now) (registration_outcome b now (on_register (moment_of b now) a r t))
    (as_before (put_holds T L A R b now (on_register (moment_of b now) a r t).transaction.id (Some (on_register (moment_of b now) a r t).transaction) h
    (subst T (sym (register_kept t.id (moment_of b now) a r t refl)) (all_find (λ x. T x.id) transaction_id id b.transactions t h.transactions stands)) refl)))
step_leaves T L A R b e now p h (transaction_made a c id t os came at says next made sent o f) =
    subst (Both (Leaves T L A R b now)) (sym f)
    (plain_both (Leaves T L A R b now) (still (make_transaction (at_time now b) t) os)
    (one_transaction id t next (made_id id _ t (makes_under_the_next_id.transaction (moment_of b now) (length b.transactions) a c id) made) refl))
step_leaves T L A R b e now p h (leaf_made a w id l os came at says next made sent o f) =
    subst (Both (Leaves T L A R b now)) (sym f)
    (plain_both (Leaves T L A R b now) (still (make_leaf (at_time now b) l) os)
    (one_leaf id l next (made_leaf_id id _ l (makes_under_the_next_id.leaf (moment_of b now) (length b.leaves) a w id) made) refl))
step_leaves T L A R b e now p h (activity_made id a os next made o f) =
    subst (Both (Leaves T L A R b now)) (sym f)
    (plain_both (Leaves T L A R b now) (still (make_activity (at_time now b) a) os) (activity_made_leaves T L A R b e now id a os h next made))

pub leaves : (T L A R : Numbers → Type 0) (b : Book) (e : Event) (now : ℕ) (landed : Bool) → Holds T L A R b → Leaves T L A R b now (step b e now landed)
leaves T L A R b e now landed h = in_branch (Leaves T L A R b now) (plan b e now) landed (step_leaves T L A R b e now (plan b e now) h (steps_touch_one b e now))
