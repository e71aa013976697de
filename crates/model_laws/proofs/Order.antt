-- The lists of a book are in the order of making.
use Rattle.std.specs.Prelude.{ℕ, List, [], ◌∷◌, ◌++◌, Option, Some, None, Bool, true, false, not, nat_lt, nat_eq, ◌&&◌, ◌||◌, if◌then◌else◌, length, map, filter, ◌≡◌, ◌≤◌, ◌<◌, ◌⊎◌, refl}
use Rattle.std.specs.List.{list_any, AllByRecursion}
use Rattle.std.proofs.Common.{inl, inr, sym, subst, ap, arith, ◌∙◌, eq-eqb}
use Rattle.std.proofs.lemmas.Bool.{eqb-true, ltb-true, ltb-false, lt-ltb, true≢false}
use Rattle.at_base.specs.Numbers.{Numbers}
use Rattle.at_base.specs.declared.epr.Epr.{Epr}
use Rattle.at_base.specs.declared.record.Seated.{Seated}
use Rattle.at_base.specs.declared.record.Record.{Record}
use Rattle.at_base.specs.declared.record.Record.TheVariants as records
use Rattle.at_base.specs.declared.outs.Out.{Out}
use Rattle.at_base.specs.declared.event.Event.{Event}
use Rattle.at_base.specs.declared.event.Event.TheVariants as events
use Rattle.at_base.specs.declared.event.Item.{Item}
use Rattle.at_base.specs.declared.event.Item.TheVariants as items
use Rattle.at_model.specs.Moves.{Change, Decision}
use Rattle.at_model.specs.Posts.{accepted}
use Rattle.at_model.specs.Book.{Book, Transaction, Leaf, Activity, is_id, put_by, transaction_id, leaf_id, activity_id, next_id, last_counter}
use Rattle.at_model.specs.Arrivals.{with_answer}
use Rattle.at_model.specs.Register.{on_register}
use Rattle.at_model.specs.Due.{Reached, Expired, Over, Unanswered, Nothing, transaction_due, transaction_reached, leaf_due, leaf_reached, activity_due, activity_reached}
use Rattle.at_model.specs.Step.{Outcome, Plan, still, at_time, moment_of, is_under, put_transaction, put_leaf, put_activity, put_activities, make_transaction, make_leaf, make_activity, registration_outcome, transaction_at, leaf_at, activity_at, transaction_due_plan, leaf_due_plan, activity_due_plan, due_plan, transaction_plan, leaf_plan, activity_plan, plan, step, plan_of}
use Rattle.at_model.specs.Recovery.{is_before, insert_by, in_order, live, with_commit, ends_leaf, ends_transaction, is_sub_committed, transactions_of, leaves_of, recovered_voted, last_incarnation, recover}
use Rattle.model_laws.specs.Laws.{IsDrawn, HasId, HasLeafId}
use Rattle.model_laws.specs.DrawnIds.{AreDrawn, restarted, Life, LifeEvent, Stepped, Stopped, Started, newborn, live_through, life_of}
use Rattle.model_laws.specs.Order.{AreRising, IsRising, IsInOrder, IsInOrderWhileUp, AreOf, HoldsNoMore, IdsRise}
use Rattle.model_laws.specs.Shapes.{Shape, nothing_moves, time_moves, time_passes, transaction_moves, leaf_moves, activity_moves, transaction_registers, transaction_made, leaf_made, activity_made, MakesActivity, begins, interposes}
use Rattle.model_laws.proofs.DecisionLaws.{Both, in_branch, plain_both, IfThere, decided_both, all_join, all_more, all_map, first_true, second_true, StaysOn, DecisionHas}
use Rattle.model_laws.proofs.ItemIds.{Names, NamesLeaf, HasBoth, NoRecord, with_answer_kept, due_kept, leaf_due_kept, activity_due_kept}
use Rattle.model_laws.proofs.DrawnItems.{moved_kept, leaf_moved_kept, activity_moved_kept}
use Rattle.model_laws.proofs.NextIds.{makes_under_the_next_id, next_numbers}
use Rattle.model_laws.proofs.RecoveryLaws.{same_id, self_id, or_false, none_live}
use Rattle.model_laws.proofs.DrawnIds.{ids_stay_drawn, all_insert, all_in_order}
use Rattle.model_laws.proofs.StepShapes.{steps_touch_one}

-- some of a list
pub all_of : (ids : List Numbers) → AreOf ids ids
all_of [] = tt
all_of (id ∷ ids) = inr (refl, all_of ids)

-- one more in front that is left out
left_out : (id : Numbers) (ids is : List Numbers) → AreOf ids is → AreOf (id ∷ ids) is
left_out id ids [] h = h
left_out id ids (i ∷ is) h = inl h

of_of : (xs ys zs : List Numbers) → AreOf xs ys → AreOf ys zs → AreOf xs zs
of_of [] [] zs h k = k
of_of [] (y ∷ ys) zs h k = absurd h
of_of (x ∷ xs) [] zs h k = left_out x xs zs (of_of xs [] zs h k)
of_of (x ∷ xs) (y ∷ ys) [] (inl h) k = of_of xs (y ∷ ys) [] h k
of_of (x ∷ xs) (y ∷ ys) [] (inr (e, h)) k = of_of xs ys [] h k
of_of (x ∷ xs) (y ∷ ys) (z ∷ zs) (inl h) k = inl (of_of xs (y ∷ ys) (z ∷ zs) h k)
of_of (x ∷ xs) (y ∷ ys) (z ∷ zs) (inr (e, h)) (inl k) = inl (of_of xs ys (z ∷ zs) h k)
of_of (x ∷ xs) (y ∷ ys) (z ∷ zs) (inr (e, h)) (inr (f, k)) = inr (e ∙ f, of_of xs ys zs h k)

of_all : (P : Numbers → Type 0) (xs ys : List Numbers) → AreOf xs ys → AllByRecursion P xs → AllByRecursion P ys
of_all P xs [] h k = tt
of_all P [] (y ∷ ys) h k = absurd h
of_all P (x ∷ xs) (y ∷ ys) (inl h) (i, j) = of_all P xs (y ∷ ys) h j
of_all P (x ∷ xs) (y ∷ ys) (inr (e, h)) (i, j) = (subst P e i, of_all P xs ys h j)

of_rising : (xs ys : List Numbers) → AreOf xs ys → AreRising xs → AreRising ys
of_rising xs [] h k = tt
of_rising [] (y ∷ ys) h k = absurd h
of_rising (x ∷ xs) (y ∷ ys) (inl h) (i, j) = of_rising xs (y ∷ ys) h j
of_rising (x ∷ xs) (y ∷ ys) (inr (e, h)) (i, j) =
    (of_all (λ z. is_before y z ≡ true) xs ys h (subst (λ w. AllByRecursion (λ z. is_before w z ≡ true) xs) e i), of_rising xs ys h j)

-- an item given anew under its id, or left out
map_if : {A : Type 0} (key : A → Numbers) (ids : List Numbers) (b : Bool) (xs ys : List A)
    → (b ≡ true → AreOf ids (map key xs)) → (b ≡ false → AreOf ids (map key ys)) → AreOf ids (map key (if b then xs else ys))
map_if key ids true xs ys h k = h refl
map_if key ids false xs ys h k = k refl

pub of_put : {A : Type 0} (key : A → Numbers) (id : Numbers) (new : Option A) (xs : List A) → IfThere (λ x. key x ≡ id) new
    → AreOf (map key xs) (map key (put_by key id new xs))
of_put key id None [] h = tt
of_put key id (Some y) [] h = tt
of_put key id None (x ∷ xs) h =
    map_if key (key x ∷ map key xs) (is_id (key x) id) xs (x ∷ put_by key id None xs)
    (λ e. left_out (key x) (map key xs) (map key xs) (all_of (map key xs))) (λ e. inr (refl, of_put key id None xs h))
of_put key id (Some y) (x ∷ xs) h =
    map_if key (key x ∷ map key xs) (is_id (key x) id) (y ∷ xs) (x ∷ put_by key id (Some y) xs)
    (λ e. inr (same_id (key x) id e ∙ sym h, all_of (map key xs))) (λ e. inr (refl, of_put key id (Some y) xs h))

pub of_filter : {A : Type 0} (key : A → Numbers) (p : A → Bool) (xs : List A) → AreOf (map key xs) (map key (filter p xs))
of_filter key p [] = tt
of_filter key p (x ∷ xs) =
    map_if key (key x ∷ map key xs) (p x) (x ∷ filter p xs) (filter p xs)
    (λ e. inr (refl, of_filter key p xs)) (λ e. left_out (key x) (map key xs) (map key (filter p xs)) (of_filter key p xs))

of_put_activities : (id : Numbers) (x : Option Activity) (list : List Activity) → IfThere (λ a. a.id ≡ id) x
    → AreOf (map activity_id list) (map activity_id (put_activities id x list))
of_put_activities id None list h =
    of_of (map activity_id list) (map activity_id (put_by activity_id id None list)) _
    (of_put activity_id id None list h) (of_filter activity_id (λ a. not (is_under id a)) (put_by activity_id id None list))
of_put_activities id (Some a) list h = of_put activity_id id (Some a) list h

-- what a move leaves of a book
no_more : (b : Book) → HoldsNoMore b b
no_more b = record { transactions = all_of (map transaction_id b.transactions); leaves = all_of (map leaf_id b.leaves); activities = all_of (map activity_id b.activities) }

id_there : (id : Numbers) (t : Option Transaction) → HasId id t → IfThere (λ x. x.id ≡ id) t
id_there id None h = tt
id_there id (Some t) h = h

leaf_there : (id : Numbers) (l : Option Leaf) → HasLeafId id l → IfThere (λ x. x.id ≡ id) l
leaf_there id None h = tt
leaf_there id (Some l) h = h

activity_there : (a : Activity) (x : Option Activity) → HasBoth a x → IfThere (λ y. y.id ≡ a.id) x
activity_there a None h = tt
activity_there a (Some x) h = h.own

put_no_more : (b : Book) (now : ℕ) (id : Numbers) (t : Option Transaction) → HasId id t → HoldsNoMore b (put_transaction id (at_time now b) t)
put_no_more b now id t h = record {
  transactions = of_put transaction_id id t b.transactions (id_there id t h);
  leaves = all_of (map leaf_id b.leaves);
  activities = all_of (map activity_id b.activities);
}

put_leaf_no_more : (b : Book) (now : ℕ) (id : Numbers) (l : Option Leaf) → HasLeafId id l → HoldsNoMore b (put_leaf id (at_time now b) l)
put_leaf_no_more b now id l h = record {
  transactions = all_of (map transaction_id b.transactions);
  leaves = of_put leaf_id id l b.leaves (leaf_there id l h);
  activities = all_of (map activity_id b.activities);
}

put_activity_no_more : (b : Book) (now : ℕ) (a : Activity) (x : Option Activity) → HasBoth a x → HoldsNoMore b (put_activity a.id (at_time now b) x)
put_activity_no_more b now a x h = record {
  transactions = all_of (map transaction_id b.transactions);
  leaves = all_of (map leaf_id b.leaves);
  activities = of_put_activities a.id x b.activities (activity_there a x h);
}

-- a book in order that holds no more is in order
fewer_rising : (b c : Book) → HoldsNoMore b c → IsRising b → IsRising c
fewer_rising b c h k = record {
  transactions = of_rising (map transaction_id b.transactions) (map transaction_id c.transactions) h.transactions k.transactions;
  leaves = of_rising (map leaf_id b.leaves) (map leaf_id c.leaves) h.leaves k.leaves;
  activities = of_rising (map activity_id b.activities) (map activity_id c.activities) h.activities k.activities;
}

-- one more at the end, under the next id
either_before : (a b : Bool) → (a ≡ true) ⊎ (b ≡ true) → (a || b) ≡ true
either_before true b h = refl
either_before false b (inl e) = absurd cc
either_before false b (inr e) = e

both_before : (a b : Bool) → a ≡ true → b ≡ true → (a && b) ≡ true
both_before true b e f = f
both_before false b e f = absurd cc

before_first : (a b : Numbers) → a.incarnation < b.incarnation → is_before a b ≡ true
before_first a b h = either_before (nat_lt a.incarnation b.incarnation) _ (inl (lt-ltb a.incarnation b.incarnation h))

before_then : (a b : Numbers) → a.incarnation ≡ b.incarnation → a.counter < b.counter → is_before a b ≡ true
before_then a b e h =
    either_before (nat_lt a.incarnation b.incarnation) _
    (inr (both_before _ _ (eq-eqb a.incarnation b.incarnation e) (lt-ltb a.counter b.counter h)))

either_true : (a b : Bool) → (a || b) ≡ true → (a ≡ true) ⊎ (b ≡ true)
either_true true b e = inl refl
either_true false b e = inr e

before_means : (a b : Numbers) → is_before a b ≡ true → (a.incarnation < b.incarnation) ⊎ ((a.incarnation ≡ b.incarnation) × (a.counter < b.counter))
before_means a b h = elim (either_true (nat_lt a.incarnation b.incarnation) (nat_eq a.incarnation b.incarnation && nat_lt a.counter b.counter) h) [
  | inl e ↦ inl (ltb-true a.incarnation b.incarnation e)
  | inr e ↦ inr (eqb-true a.incarnation b.incarnation (first_true _ _ e), ltb-true a.counter b.counter (second_true _ _ e))
]

further : (a b c : Numbers) → (a.incarnation < b.incarnation) ⊎ ((a.incarnation ≡ b.incarnation) × (a.counter < b.counter))
    → (b.incarnation < c.incarnation) ⊎ ((b.incarnation ≡ c.incarnation) × (b.counter < c.counter)) → is_before a c ≡ true
further a b c (inl h) (inl k) = before_first a c (omega (arith, h, k))
further a b c (inl h) (inr (e, k)) = before_first a c (omega (arith, h, e))
further a b c (inr (e, h)) (inl k) = before_first a c (omega (arith, e, k))
further a b c (inr (e, h)) (inr (f, k)) = before_then a c (e ∙ f) (omega (arith, h, k))

pub before_further : (a b c : Numbers) → is_before a b ≡ true → is_before b c ≡ true → is_before a c ≡ true
before_further a b c h k = further a b c (before_means a b h) (before_means b c k)

both_at_most : (m n : ℕ) → m ≤ n → n ≤ m → m ≡ n
both_at_most m n h k = omega (arith, h, k)

-- of two different ids one is before the other
pub one_before : (a b : Numbers) → (b ≡ a → ⊥) → is_before b a ≡ false → is_before a b ≡ true
one_before a b differ no_less = by_case (nat_lt b.incarnation a.incarnation) (nat_lt a.incarnation b.incarnation) (nat_lt b.counter a.counter) (nat_lt a.counter b.counter) refl refl refl refl
  where
    both : is_before b a ≡ true → is_before b a ≡ false → ⊥
    both e f = true≢false (sym e ∙ f)

    same : b.incarnation ≡ a.incarnation → b.counter ≡ a.counter → b ≡ a
    same e f = λ i. record { incarnation = e i; counter = f i }

    by_case : (p q r s : Bool) → nat_lt b.incarnation a.incarnation ≡ p → nat_lt a.incarnation b.incarnation ≡ q → nat_lt b.counter a.counter ≡ r → nat_lt a.counter b.counter ≡ s
        → is_before a b ≡ true
    by_case true q r s e f g h = absurd (both (before_first b a (ltb-true b.incarnation a.incarnation e)) no_less)
    by_case false true r s e f g h = before_first a b (ltb-true a.incarnation b.incarnation f)
    by_case false false true s e f g h =
        absurd (both (before_then b a (both_at_most _ _ (ltb-false a.incarnation b.incarnation f) (ltb-false b.incarnation a.incarnation e)) (ltb-true b.counter a.counter g)) no_less)
    by_case false false false true e f g h =
        before_then a b (both_at_most _ _ (ltb-false b.incarnation a.incarnation e) (ltb-false a.incarnation b.incarnation f)) (ltb-true a.counter b.counter h)
    by_case false false false false e f g h =
        absurd (differ (same (both_at_most _ _ (ltb-false a.incarnation b.incarnation f) (ltb-false b.incarnation a.incarnation e))
        (both_at_most _ _ (ltb-false a.counter b.counter h) (ltb-false b.counter a.counter g))))

drawn_before : (b : Book) (id i : Numbers) → next_id b ≡ Some id → IsDrawn b i → is_before i id ≡ true
drawn_before b id i next (inl h) = let (e, f) = next_numbers b id next in before_first i id (omega (arith, h, e))
drawn_before b id i next (inr (h, k)) = let (e, f) = next_numbers b id next in before_then i id (omega (arith, h, e)) (omega (arith, k, f))

-- an id before another is not that one
pub other_id : (a b : Numbers) → is_before a b ≡ true → is_id a b ≡ false
other_id a b h = by_case (is_id a b) refl
  where
    never : (b.incarnation < b.incarnation) ⊎ ((b.incarnation ≡ b.incarnation) × (b.counter < b.counter)) → ⊥
    never (inl k) = omega (arith, k)
    never (inr (e, k)) = omega (arith, k)

    by_case : (c : Bool) → is_id a b ≡ c → c ≡ false
    by_case true e = absurd (never (before_means b b (subst (λ i. is_before i b ≡ true) (same_id a b e) h)))
    by_case false e = refl

pub unmapped : {A : Type 0} (P : Numbers → Type 0) (key : A → Numbers) (xs : List A) → AllByRecursion P (map key xs) → AllByRecursion (λ x. P (key x)) xs
unmapped P key [] h = tt
unmapped P key (x ∷ xs) (h, k) = (h, unmapped P key xs k)

rising_more : {A : Type 0} (key : A → Numbers) (xs : List A) (x : A) → AllByRecursion (λ y. is_before (key y) (key x) ≡ true) xs → AreRising (map key xs)
    → AreRising (map key (xs ++ x ∷ []))
rising_more key [] x h k = (tt, tt)
rising_more key (y ∷ ys) x (h, i) (j, k) = (
  all_map (λ z. is_before (key y) z ≡ true) key (ys ++ x ∷ [])
      (all_join (λ z. is_before (key y) (key z) ≡ true) ys (x ∷ []) (unmapped (λ z. is_before (key y) z ≡ true) key ys j) (h, tt)),
  rising_more key ys x i k,
)

-- what a step leaves: the ids that were there, or one more, under the next id
data Leaves (b : Book) (now : ℕ) (o : Outcome) : Type 0 where
  as_before : HoldsNoMore b o.book → Leaves b now o
  one_transaction : (id : Numbers) (t : Transaction) → next_id b ≡ Some id → t.id ≡ id → o.book ≡ make_transaction (at_time now b) t → Leaves b now o
  one_leaf : (id : Numbers) (l : Leaf) → next_id b ≡ Some id → l.id ≡ id → o.book ≡ make_leaf (at_time now b) l → Leaves b now o
  one_activity : (id : Numbers) (a : Activity) → next_id b ≡ Some id → a.id ≡ id → o.book ≡ make_activity (at_time now b) a → Leaves b now o

made_id : (id : Numbers) (o : Option Transaction) (t : Transaction) → HasId id o → o ≡ Some t → t.id ≡ id
made_id id o t h e = subst (HasId id) e h

made_leaf_id : (id : Numbers) (o : Option Leaf) (l : Leaf) → HasLeafId id o → o ≡ Some l → l.id ≡ id
made_leaf_id id o l h e = subst (HasLeafId id) e h

made_activity_id : (b : Book) (e : Event) (now : ℕ) (id : Numbers) (a : Activity) (os : List Out) → MakesActivity b e now id a os → a.id ≡ id
made_activity_id b e now id a os (begins coordinator ms came is sent) = ap (λ x. x.id) is ∙ makes_under_the_next_id.begun (moment_of b now) id coordinator ms
made_activity_id b e now id a os (interposes coordinator named x came found is sent) =
    ap (λ x. x.id) is ∙ makes_under_the_next_id.interposed (moment_of b now) id coordinator x.root x.context

more_on : (b : Book) → StaysOn (λ o. HoldsNoMore b o.book)
more_on b r o h = record { transactions = h.transactions; leaves = h.leaves; activities = h.activities }

moved_leaves : {X : Type 0} (P : Option X → Type 0) (Q : Record → Option X → Type 0) (b : Book) (now : ℕ) (put : Option X → Book) (answer : List Out)
    (d : Decision X) → DecisionHas P Q d → ((c : Change X) → P c.item → HoldsNoMore b (put c.item)) → HoldsNoMore b b → Both (Leaves b now) (plan_of b put answer d)
moved_leaves P Q b now put answer d has f h =
    let k : Both (λ o. HoldsNoMore b o.book) (plan_of b put answer d) = decided_both P Q (λ o. HoldsNoMore b o.book) (more_on b) b put answer d has f h in
    record { landed = as_before k.landed; absent = as_before k.absent }

step_leaves : (b : Book) (e : Event) (now : ℕ) (p : Plan) → Shape b e now p → Both (Leaves b now) p
step_leaves b e now p (nothing_moves f) = subst (Both (Leaves b now)) (sym f) (plain_both (Leaves b now) (still b []) (as_before (no_more b)))
step_leaves b e now p (time_moves a os came why o f) =
    subst (Both (Leaves b now)) (sym f) (plain_both (Leaves b now) (still (at_time now b) os) (as_before same_book))
  where
    same_book : HoldsNoMore b (at_time now b)
    same_book = record { transactions = all_of (map transaction_id b.transactions); leaves = all_of (map leaf_id b.leaves); activities = all_of (map activity_id b.activities) }
step_leaves b e now p (time_passes came f) =
    subst (Both (Leaves b now)) (sym f) (plain_both (Leaves b now) (still (at_time now b) accepted)
    (as_before (record { transactions = all_of (map transaction_id b.transactions); leaves = all_of (map leaf_id b.leaves); activities = all_of (map activity_id b.activities) })))
step_leaves b e now p (transaction_moves id t answer d stands how o f) =
    subst (Both (Leaves b now)) (sym f)
    (moved_leaves (HasId t.id) (Names t.id) b now (put_transaction t.id (at_time now b)) answer (with_answer (moment_of b now) t d)
    (with_answer_kept t.id (moment_of b now) t d (moved_kept b e now t d how)) (λ c k. put_no_more b now t.id c.item k) (no_more b))
step_leaves b e now p (leaf_moves id l answer d stands how o f) =
    subst (Both (Leaves b now)) (sym f)
    (moved_leaves (HasLeafId l.id) (NamesLeaf l.id) b now (put_leaf l.id (at_time now b)) answer d (leaf_moved_kept b e now l d how)
    (λ c k. put_leaf_no_more b now l.id c.item k) (no_more b))
step_leaves b e now p (activity_moves id a answer d stands how o f) =
    subst (Both (Leaves b now)) (sym f)
    (moved_leaves (HasBoth a) NoRecord b now (put_activity a.id (at_time now b)) answer d (activity_moved_kept b e now a d how)
    (λ c k. put_activity_no_more b now a c.item k) (no_more b))
step_leaves b e now p (transaction_registers id a r t stands came at says o f) =
    subst (Both (Leaves b now)) (sym f)
    (plain_both (Leaves b now) (registration_outcome b now (on_register (moment_of b now) a r t))
    (as_before (put_no_more b now (on_register (moment_of b now) a r t).transaction.id (Some (on_register (moment_of b now) a r t).transaction) refl)))
step_leaves b e now p (transaction_made a c id t os came at says next made sent o f) =
    subst (Both (Leaves b now)) (sym f)
    (plain_both (Leaves b now) (still (make_transaction (at_time now b) t) os)
    (one_transaction id t next (made_id id _ t (makes_under_the_next_id.transaction (moment_of b now) (length b.transactions) a c id) made) refl))
step_leaves b e now p (leaf_made a w id l os came at says next made sent o f) =
    subst (Both (Leaves b now)) (sym f)
    (plain_both (Leaves b now) (still (make_leaf (at_time now b) l) os)
    (one_leaf id l next (made_leaf_id id _ l (makes_under_the_next_id.leaf (moment_of b now) (length b.leaves) a w id) made) refl))
step_leaves b e now p (activity_made id a os next made o f) =
    subst (Both (Leaves b now)) (sym f)
    (plain_both (Leaves b now) (still (make_activity (at_time now b) a) os) (one_activity id a next (made_activity_id b e now id a os made) refl))

all_before : {A : Type 0} (b : Book) (key : A → Numbers) (id i : Numbers) (xs : List A) → next_id b ≡ Some id → i ≡ id → AllByRecursion (λ x. IsDrawn b (key x)) xs
    → AllByRecursion (λ x. is_before (key x) i ≡ true) xs
all_before b key id i xs next same h =
    all_more (λ x. IsDrawn b (key x)) (λ x. is_before (key x) i ≡ true) xs (λ x k. subst (λ j. is_before (key x) j ≡ true) (sym same) (drawn_before b id (key x) next k)) h

left_rising : (b : Book) (now : ℕ) (o : Outcome) → IsInOrder b → Leaves b now o → IsRising o.book
left_rising b now o h (as_before k) = fewer_rising b o.book k h.rising
left_rising b now o h (one_transaction id t next same is) = subst IsRising (sym is) (record {
  transactions = rising_more transaction_id b.transactions t (all_before b transaction_id id t.id b.transactions next same h.drawn.transactions) h.rising.transactions;
  leaves = h.rising.leaves;
  activities = h.rising.activities;
})
left_rising b now o h (one_leaf id l next same is) = subst IsRising (sym is) (record {
  transactions = h.rising.transactions;
  leaves = rising_more leaf_id b.leaves l (all_before b leaf_id id l.id b.leaves next same h.drawn.leaves) h.rising.leaves;
  activities = h.rising.activities;
})
left_rising b now o h (one_activity id a next same is) = subst IsRising (sym is) (record {
  transactions = h.rising.transactions;
  leaves = h.rising.leaves;
  activities = rising_more activity_id b.activities a
      (all_before b activity_id id a.id b.activities next same (all_more (AreDrawn b) (λ x. IsDrawn b x.id) b.activities (λ x k. k.own) h.drawn.activities)) h.rising.activities;
})

step_in_order : (b : Book) (e : Event) (now : ℕ) (landed : Bool) → IsInOrder b → IsInOrder (step b e now landed).book
step_in_order b e now landed h = record {
  rising = left_rising b now (step b e now landed) h (in_branch (Leaves b now) (plan b e now) landed (step_leaves b e now (plan b e now) (steps_touch_one b e now)));
  drawn = ids_stay_drawn.book b e now landed h.drawn;
}

-- the step of an item that is due
due_no_more : (b : Book) (now : ℕ) (item : Item) → Both (λ o. HoldsNoMore b o.book) (plan b (events.Due item) now)
unfolding due_plan
due_no_more b now (items.Transaction id) = transaction_case (transaction_at b id)
  where
    transaction_case : (t : Option Transaction) → Both (λ o. HoldsNoMore b o.book) (transaction_due_plan b now t)
    transaction_case None = plain_both (λ o. HoldsNoMore b o.book) (still b []) (no_more b)
    transaction_case (Some t) =
        decided_both (HasId t.id) (Names t.id) (λ o. HoldsNoMore b o.book) (more_on b) b (put_transaction t.id (at_time now b)) []
        (with_answer (moment_of b now) t (transaction_reached (moment_of b now) t (transaction_due (moment_of b now) t)))
        (with_answer_kept t.id (moment_of b now) t _ (due_kept t.id (moment_of b now) t (transaction_due (moment_of b now) t) refl))
        (λ c k. put_no_more b now t.id c.item k) (no_more b)
due_no_more b now (items.Leaf id) = leaf_case (leaf_at b id)
  where
    leaf_case : (l : Option Leaf) → Both (λ o. HoldsNoMore b o.book) (leaf_due_plan b now l)
    leaf_case None = plain_both (λ o. HoldsNoMore b o.book) (still b []) (no_more b)
    leaf_case (Some l) =
        decided_both (HasLeafId l.id) (NamesLeaf l.id) (λ o. HoldsNoMore b o.book) (more_on b) b (put_leaf l.id (at_time now b)) []
        (leaf_reached (moment_of b now) l (leaf_due (moment_of b now) l)) (leaf_due_kept l.id (moment_of b now) l (leaf_due (moment_of b now) l) refl)
        (λ c k. put_leaf_no_more b now l.id c.item k) (no_more b)
due_no_more b now (items.Activity id) = activity_case (activity_at b id)
  where
    activity_case : (a : Option Activity) → Both (λ o. HoldsNoMore b o.book) (activity_due_plan b now a)
    activity_case None = plain_both (λ o. HoldsNoMore b o.book) (still b []) (no_more b)
    activity_case (Some a) =
        decided_both (HasBoth a) NoRecord (λ o. HoldsNoMore b o.book) (more_on b) b (put_activity a.id (at_time now b)) []
        (activity_reached (moment_of b now) a (activity_due (moment_of b now) a)) (activity_due_kept (moment_of b now) a (activity_due (moment_of b now) a))
        (λ c k. put_activity_no_more b now a c.item k) (no_more b)

transaction_unrecorded : (b : Book) (now : ℕ) (t : Transaction) (reached : Reached)
    → (transaction_plan b now [] t (transaction_reached (moment_of b now) t reached)).entry ≡ None
unfolding transaction_reached
transaction_unrecorded b now t Expired = refl
transaction_unrecorded b now t Over = refl
transaction_unrecorded b now t Unanswered = refl
transaction_unrecorded b now t Nothing = refl

leaf_unrecorded : (b : Book) (now : ℕ) (l : Leaf) (reached : Reached) → (leaf_plan b now [] l (leaf_reached (moment_of b now) l reached)).entry ≡ None
unfolding leaf_reached
leaf_unrecorded b now l Expired = refl
leaf_unrecorded b now l Over = refl
leaf_unrecorded b now l Unanswered = refl
leaf_unrecorded b now l Nothing = refl

activity_unrecorded : (b : Book) (now : ℕ) (a : Activity) (reached : Reached) → (activity_plan b now [] a (activity_reached (moment_of b now) a reached)).entry ≡ None
unfolding activity_reached
activity_unrecorded b now a Expired = refl
activity_unrecorded b now a Over = refl
activity_unrecorded b now a Unanswered = refl
activity_unrecorded b now a Nothing = refl

due_unrecorded : (b : Book) (now : ℕ) (item : Item) → (plan b (events.Due item) now).entry ≡ None
unfolding due_plan
due_unrecorded b now (items.Transaction id) = transaction_case (transaction_at b id)
  where
    transaction_case : (t : Option Transaction) → (transaction_due_plan b now t).entry ≡ None
    transaction_case None = refl
    transaction_case (Some t) = transaction_unrecorded b now t (transaction_due (moment_of b now) t)
due_unrecorded b now (items.Leaf id) = leaf_case (leaf_at b id)
  where
    leaf_case : (l : Option Leaf) → (leaf_due_plan b now l).entry ≡ None
    leaf_case None = refl
    leaf_case (Some l) = leaf_unrecorded b now l (leaf_due (moment_of b now) l)
due_unrecorded b now (items.Activity id) = activity_case (activity_at b id)
  where
    activity_case : (a : Option Activity) → (activity_due_plan b now a).entry ≡ None
    activity_case None = refl
    activity_case (Some a) = activity_unrecorded b now a (activity_due (moment_of b now) a)

-- recovery: each id has one live record at most, and insertion puts different ids in order
abbrev pub AreDifferent : {A : Type 0} → (A → Numbers) → List A → Type 0
AreDifferent key [] = Unit {0}
AreDifferent key (x ∷ xs) = AllByRecursion (λ y. key y ≡ key x → ⊥) xs × AreDifferent key xs

pub insert_rising : {A : Type 0} (key : A → Numbers) (x : A) (ys : List A) → AllByRecursion (λ y. key y ≡ key x → ⊥) ys → AreRising (map key ys) → AreRising (map key (insert_by key x ys))
insert_rising key x [] n h = (tt, tt)
insert_rising key x (y ∷ ys) (n, ns) (h, k) = by_case (insert_rising key x ys ns k) (is_before (key y) (key x)) refl
  where
    by_case : AreRising (map key (insert_by key x ys)) → (b : Bool) → is_before (key y) (key x) ≡ b → AreRising (map key (if b then y ∷ insert_by key x ys else x ∷ (y ∷ ys)))
    by_case more true e = (
      all_map (λ z. is_before (key y) z ≡ true) key (insert_by key x ys)
          (all_insert (λ z. is_before (key y) (key z) ≡ true) key x ys e (unmapped (λ z. is_before (key y) z ≡ true) key ys h)),
      more,
    )
    by_case more false e = (
      (
        one_before (key x) (key y) n e,
        all_more (λ z. is_before (key y) z ≡ true) (λ z. is_before (key x) z ≡ true) (map key ys)
            (λ z f. before_further (key x) (key y) z (one_before (key x) (key y) n e) f) h,
      ),
      (h, k),
    )

pub in_order_rising : {A : Type 0} (key : A → Numbers) (xs : List A) → AreDifferent key xs → AreRising (map key (in_order key xs))
in_order_rising key [] h = tt
in_order_rising key (x ∷ xs) (h, k) =
    insert_rising key x (in_order key xs) (all_in_order (λ y. key y ≡ key x → ⊥) key xs h) (in_order_rising key xs k)

or_nothing : (b : Bool) → (b || false) ≡ false → b ≡ false
or_nothing true e = absurd cc
or_nothing false e = refl

differs : (i id : Numbers) → is_id i id ≡ false → i ≡ id → ⊥
differs i id e f = true≢false (sym (self_id id) ∙ ap (λ j. is_id j id) (sym f) ∙ e)

voted_id : (id : Numbers) (s : Epr) (seats : List Seated) (committed : Bool) → (recovered_voted id s seats committed).id ≡ id
voted_id id s seats true = refl
voted_id id s seats false = refl

-- where no record ends an id, none stands for it
no_transaction : (base : List ℕ) (id : Numbers) (rs : List Record) → list_any (ends_transaction id) rs ≡ false → AllByRecursion (λ t. t.id ≡ id → ⊥) (transactions_of base rs)
no_transaction base id [] e = tt
no_transaction base id (records.Voted i s seats ∷ rest) e =
    let (here, behind) = or_false (ends_transaction id (records.Voted i s seats)) (list_any (ends_transaction id) rest) e in
    (λ f. differs i id (or_nothing (is_id i id) here) (sym (voted_id i s seats (list_any (is_sub_committed i) rest)) ∙ f), no_transaction base id rest behind)
no_transaction base id (records.Decided i seats ∷ rest) e =
    let (here, behind) = or_false (ends_transaction id (records.Decided i seats)) (list_any (ends_transaction id) rest) e in
    (λ f. differs i id here f, no_transaction base id rest behind)
no_transaction base id (records.Start n ∷ rest) e = no_transaction base id rest (or_false (ends_transaction id (records.Start n)) (list_any (ends_transaction id) rest) e).1
no_transaction base id (records.LeafPrepared i c k v ∷ rest) e =
    no_transaction base id rest (or_false (ends_transaction id (records.LeafPrepared i c k v)) (list_any (ends_transaction id) rest) e).1
no_transaction base id (records.LeafCommitted i ∷ rest) e =
    no_transaction base id rest (or_false (ends_transaction id (records.LeafCommitted i)) (list_any (ends_transaction id) rest) e).1
no_transaction base id (records.LeafAborted i ∷ rest) e =
    no_transaction base id rest (or_false (ends_transaction id (records.LeafAborted i)) (list_any (ends_transaction id) rest) e).1
no_transaction base id (records.SubCommitted i ∷ rest) e =
    no_transaction base id rest (or_false (ends_transaction id (records.SubCommitted i)) (list_any (ends_transaction id) rest) e).1
no_transaction base id (records.Ended i ∷ rest) e =
    no_transaction base id rest (or_false (ends_transaction id (records.Ended i)) (list_any (ends_transaction id) rest) e).1
no_transaction base id (records.Done i ∷ rest) e =
    no_transaction base id rest (or_false (ends_transaction id (records.Done i)) (list_any (ends_transaction id) rest) e).1

no_leaf : (id : Numbers) (rs : List Record) → list_any (ends_leaf id) rs ≡ false → AllByRecursion (λ l. l.id ≡ id → ⊥) (leaves_of rs)
no_leaf id [] e = tt
no_leaf id (records.LeafPrepared i c k v ∷ rest) e =
    let (here, behind) = or_false (ends_leaf id (records.LeafPrepared i c k v)) (list_any (ends_leaf id) rest) e in
    (λ f. differs i id (or_nothing (is_id i id) here) f, no_leaf id rest behind)
no_leaf id (records.Voted i s seats ∷ rest) e = no_leaf id rest (or_false (ends_leaf id (records.Voted i s seats)) (list_any (ends_leaf id) rest) e).1
no_leaf id (records.Decided i seats ∷ rest) e = no_leaf id rest (or_false (ends_leaf id (records.Decided i seats)) (list_any (ends_leaf id) rest) e).1
no_leaf id (records.Start n ∷ rest) e = no_leaf id rest (or_false (ends_leaf id (records.Start n)) (list_any (ends_leaf id) rest) e).1
no_leaf id (records.LeafCommitted i ∷ rest) e = no_leaf id rest (or_false (ends_leaf id (records.LeafCommitted i)) (list_any (ends_leaf id) rest) e).1
no_leaf id (records.LeafAborted i ∷ rest) e = no_leaf id rest (or_false (ends_leaf id (records.LeafAborted i)) (list_any (ends_leaf id) rest) e).1
no_leaf id (records.SubCommitted i ∷ rest) e = no_leaf id rest (or_false (ends_leaf id (records.SubCommitted i)) (list_any (ends_leaf id) rest) e).1
no_leaf id (records.Ended i ∷ rest) e = no_leaf id rest (or_false (ends_leaf id (records.Ended i)) (list_any (ends_leaf id) rest) e).1
no_leaf id (records.Done i ∷ rest) e = no_leaf id rest (or_false (ends_leaf id (records.Done i)) (list_any (ends_leaf id) rest) e).1

-- what a SubCommitted adds
with_commit_passes : (P : List Transaction → Type 0) (base : List ℕ) (id : Numbers) (rest : List Record) (b : Bool) → P (transactions_of base rest)
    → P (transactions_of base ((if b then records.SubCommitted id ∷ [] else []) ++ rest))
with_commit_passes P base id rest true h = h
with_commit_passes P base id rest false h = h

pub transactions_different : (base : List ℕ) (rs : List Record) → AreDifferent transaction_id (transactions_of base (live rs))
transactions_different base [] = tt
transactions_different base (records.Voted i s seats ∷ rest) = by_case (transactions_different base rest) (list_any (ends_transaction i) rest) refl
  where
    by_case : AreDifferent transaction_id (transactions_of base (live rest)) → (b : Bool) → list_any (ends_transaction i) rest ≡ b
        → AreDifferent transaction_id (transactions_of base ((if b then [] else records.Voted i s seats ∷ with_commit i rest) ++ live rest))
    by_case more true e = more
    by_case more false e = (
      subst (λ id. AllByRecursion (λ t. t.id ≡ id → ⊥) (transactions_of base (with_commit i rest ++ live rest)))
          (sym (voted_id i s seats (list_any (is_sub_committed i) (with_commit i rest ++ live rest))))
          (with_commit_passes (AllByRecursion (λ t. t.id ≡ i → ⊥)) base i (live rest) (list_any (is_sub_committed i) rest)
          (no_transaction base i (live rest) (none_live (ends_transaction i) rest e))),
      with_commit_passes (AreDifferent transaction_id) base i (live rest) (list_any (is_sub_committed i) rest) more,
    )
transactions_different base (records.Decided i [] ∷ rest) = transactions_different base rest
transactions_different base (records.Decided i (s ∷ seats) ∷ rest) = by_case (transactions_different base rest) (list_any (ends_transaction i) rest) refl
  where
    by_case : AreDifferent transaction_id (transactions_of base (live rest)) → (b : Bool) → list_any (ends_transaction i) rest ≡ b
        → AreDifferent transaction_id (transactions_of base ((if b then [] else records.Decided i (s ∷ seats) ∷ []) ++ live rest))
    by_case more true e = more
    by_case more false e = (no_transaction base i (live rest) (none_live (ends_transaction i) rest e), more)
transactions_different base (records.LeafPrepared i c k v ∷ rest) = by_case (transactions_different base rest) (list_any (ends_leaf i) rest)
  where
    by_case : AreDifferent transaction_id (transactions_of base (live rest)) → (b : Bool) → AreDifferent transaction_id (transactions_of base ((if b then [] else records.LeafPrepared i c k v ∷ []) ++ live rest))
    by_case more true = more
    by_case more false = more
transactions_different base (records.Start n ∷ rest) = transactions_different base rest
transactions_different base (records.LeafCommitted i ∷ rest) = transactions_different base rest
transactions_different base (records.LeafAborted i ∷ rest) = transactions_different base rest
transactions_different base (records.SubCommitted i ∷ rest) = transactions_different base rest
transactions_different base (records.Ended i ∷ rest) = transactions_different base rest
transactions_different base (records.Done i ∷ rest) = transactions_different base rest

leaf_commit_passes : (P : List Leaf → Type 0) (id : Numbers) (rest : List Record) (b : Bool) → P (leaves_of rest)
    → P (leaves_of ((if b then records.SubCommitted id ∷ [] else []) ++ rest))
leaf_commit_passes P id rest true h = h
leaf_commit_passes P id rest false h = h

pub leaves_different : (rs : List Record) → AreDifferent leaf_id (leaves_of (live rs))
leaves_different [] = tt
leaves_different (records.LeafPrepared i c k v ∷ rest) = by_case (leaves_different rest) (list_any (ends_leaf i) rest) refl
  where
    by_case : AreDifferent leaf_id (leaves_of (live rest)) → (b : Bool) → list_any (ends_leaf i) rest ≡ b → AreDifferent leaf_id (leaves_of ((if b then [] else records.LeafPrepared i c k v ∷ []) ++ live rest))
    by_case more true e = more
    by_case more false e = (no_leaf i (live rest) (none_live (ends_leaf i) rest e), more)
leaves_different (records.Voted i s seats ∷ rest) = by_case (leaves_different rest) (list_any (ends_transaction i) rest)
  where
    by_case : AreDifferent leaf_id (leaves_of (live rest)) → (b : Bool) → AreDifferent leaf_id (leaves_of ((if b then [] else records.Voted i s seats ∷ with_commit i rest) ++ live rest))
    by_case more true = more
    by_case more false = leaf_commit_passes (AreDifferent leaf_id) i (live rest) (list_any (is_sub_committed i) rest) more
leaves_different (records.Decided i [] ∷ rest) = leaves_different rest
leaves_different (records.Decided i (s ∷ seats) ∷ rest) = by_case (leaves_different rest) (list_any (ends_transaction i) rest)
  where
    by_case : AreDifferent leaf_id (leaves_of (live rest)) → (b : Bool) → AreDifferent leaf_id (leaves_of ((if b then [] else records.Decided i (s ∷ seats) ∷ []) ++ live rest))
    by_case more true = more
    by_case more false = more
leaves_different (records.Start n ∷ rest) = leaves_different rest
leaves_different (records.LeafCommitted i ∷ rest) = leaves_different rest
leaves_different (records.LeafAborted i ∷ rest) = leaves_different rest
leaves_different (records.SubCommitted i ∷ rest) = leaves_different rest
leaves_different (records.Ended i ∷ rest) = leaves_different rest
leaves_different (records.Done i ∷ rest) = leaves_different rest

recovered_rising : (base : List ℕ) (rs : List Record) → IsRising (recover base rs)
recovered_rising base rs = record {
  transactions = in_order_rising transaction_id (transactions_of base (live rs)) (transactions_different base rs);
  leaves = in_order_rising leaf_id (leaves_of (live rs)) (leaves_different rs);
  activities = tt;
}

started_in_order : (base : List ℕ) (rs : List Record) → IsInOrder (recover base (restarted rs))
started_in_order base rs = record { rising = recovered_rising base (restarted rs); drawn = ids_stay_drawn.recovered base rs }

-- a whole life
abbrev life : List Record → Option Book → Life
life rs o = record { journal = rs; book = o }

starts_in_order : (base : List ℕ) (rs : List Record) (starts : Bool)
    → IsInOrderWhileUp (if starts then record { journal = restarted rs; book = Some (recover base (restarted rs)) } else life rs None).book
starts_in_order base rs false = tt
starts_in_order base rs true = started_in_order base rs

lives_in_order : (base : List ℕ) (e : LifeEvent) (rs : List Record) (o : Option Book) → IsInOrderWhileUp o → IsInOrderWhileUp (live_through base e (life rs o)).book
lives_in_order base (Stepped e now landed) rs None h = h
lives_in_order base (Stepped e now landed) rs (Some b) h = step_in_order b e now landed h
lives_in_order base Stopped rs o h = tt
lives_in_order base (Started landed) rs (Some b) h = h
lives_in_order base (Started landed) rs None h = starts_in_order base rs (landed && nat_lt (last_incarnation rs) last_counter)

life_in_order : (base : List ℕ) (es : List LifeEvent) (l : Life) → IsInOrderWhileUp l.book → IsInOrderWhileUp (life_of base es l).book
life_in_order base [] l h = h
life_in_order base (e ∷ es) l h = life_in_order base es (live_through base e l) (lives_in_order base e l.journal l.book h)

pub ids_rise : IdsRise
ids_rise = record {
  recovered = recovered_rising;
  started = started_in_order;
  stays = step_in_order;
  fewer = fewer_rising;
  due = λ b now item landed. in_branch (λ o. HoldsNoMore b o.book) (plan b (events.Due item) now) landed (due_no_more b now item);
  unrecorded = due_unrecorded;
  life = λ base es. life_in_order base es newborn tt;
}
