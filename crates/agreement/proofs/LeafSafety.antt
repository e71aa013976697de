-- In every run a durable leaf that waits has its record live.
use Rattle.std.specs.Prelude.{ℕ, List, [], ◌∷◌, ◌++◌, Option, Some, None, Bool, true, false, length, map, ◌≡◌, ◌≤◌, refl}
use Rattle.std.specs.List.{AllByRecursion}
use Rattle.std.proofs.Common.{inl, inr, sym, subst, arith, ◌∙◌}
use Rattle.at_base.specs.Numbers.{Numbers}
use Rattle.at_base.specs.declared.record.Record.{Record}
use Rattle.at_base.specs.declared.record.Record.TheVariants as records
use Rattle.at_base.specs.declared.event.Event.{Event}
use Rattle.at_model.specs.Book.{Book, Leaf, Transaction, leaf_id, transaction_id}
use Rattle.at_model.specs.Arrivals.{with_answer}
use Rattle.at_model.specs.Posts.{accepted}
use Rattle.at_model.specs.Register.{on_register}
use Rattle.at_model.specs.Recovery.{is_promise, live, recover, recovered_leaf}
use Rattle.at_model.specs.Step.{Plan, activity_plan, at_time, leaf_plan, make_activity, make_leaf, make_transaction, moment_of, plain, plan, put_activity, put_transaction, registration_outcome, step, still, transaction_plan}
use Rattle.at_model.specs.World.{Node, WorldEvent, nth, run_of, Hosts}
use Rattle.model_laws.specs.Agreement.{IsIn}
use Rattle.model_laws.specs.DrawnIds.{IsDrawnRecord, restarted, with_entry}
use Rattle.model_laws.specs.Laws.{KeepsPlace}
use Rattle.model_laws.specs.Order.{IsInOrder}
use Rattle.model_laws.specs.Shapes.{Shape, nothing_moves, time_moves, time_passes, transaction_moves, leaf_moves, activity_moves, transaction_registers, transaction_made, leaf_made, activity_made}
use Rattle.model_laws.proofs.DecisionLaws.{decision_both, decided_entry, IfThere, all_find, all_join, all_more, in_front}
use Rattle.model_laws.proofs.DrawnItems.{moved_kept, activity_moved_kept}
use Rattle.model_laws.proofs.ItemIds.{IsOfTransaction, HasBoth, Names, NoRecord, with_answer_kept}
use Rattle.model_laws.specs.Laws.{HasId}
use Rattle.model_laws.proofs.DrawnIds.{drawn_on, ids_stay_drawn}
use Rattle.model_laws.proofs.Order.{ids_rise}
use Rattle.model_laws.proofs.ReachedWorlds.{NodeLaw, nodes_hold, run_reached}
use Rattle.model_laws.proofs.StepShapes.{steps_keep_place, steps_touch_one}
use Rattle.agreement.specs.LeafRecords.{LeafBacked, LeavesAreBacked}
use Rattle.agreement.specs.LeafDeeds.{LeafStands, LeavesStand}
use Rattle.agreement.specs.Recoveries.{StandsFor, StandsForLeaf, transaction_from, leaf_from}
use Rattle.agreement.proofs.LeafStates.{leaf_states}
use Rattle.agreement.proofs.LeafRules.{leaves_do}
use Rattle.agreement.proofs.Recoveries.{from_promise, from_leaf_promise, recovers_each}
use Rattle.agreement.proofs.LeafRecords.{AboutOther, of_transaction, AreApart, step_apart, SameLeaves, Backs, by_same, plain_backs, apart_from, became_backed, made_backed, all_in}
use Rattle.agreement.proofs.WaitingLeaves.{AllWait, no_leaf_record, Waits, same_wait, plain_waits, became_waits, found_in}

-- a book and its journal
record IsSafe (rs : List Record) (b : Book) : Type 0 where
  order : IsInOrder b
  drawn : AllByRecursion (IsDrawnRecord b) rs
  apart : AreApart b
  stand : LeavesStand b
  leaves : AllByRecursion (LeafBacked rs) b.leaves
  waiting : AllWait b rs

shape_backs : (rs : List Record) (b : Book) (e : Event) (now : ℕ) (landed : Bool) (p : Plan) → IsSafe rs b → Shape b e now p → Backs b rs landed p
unfolding SameLeaves
shape_backs rs b e now landed p h (nothing_moves f) = subst (Backs b rs landed) (sym f) (plain_backs b rs landed (still b []) refl h.leaves)
shape_backs rs b e now landed p h (time_moves a os came why o f) = subst (Backs b rs landed) (sym f) (plain_backs b rs landed (still (at_time now b) os) refl h.leaves)
shape_backs rs b e now landed p h (time_passes came f) = subst (Backs b rs landed) (sym f) (plain_backs b rs landed (still (at_time now b) accepted) refl h.leaves)
shape_backs rs b e now landed p h (transaction_moves id t answer d stands how o f) =
    subst (Backs b rs landed) (sym f)
    (by_same b rs landed (transaction_plan b now answer t d)
    (decision_both (SameLeaves b) (λ r o i. i) b (put_transaction t.id (at_time now b)) answer (with_answer (moment_of b now) t d) (λ c. refl) refl)
    (λ r k. all_more (λ l. t.id ≡ l.id → ⊥) (λ l. AboutOther l.id r) b.leaves
    (λ l g. of_transaction l.id t.id r g
    (decided_entry (HasId t.id) (Names t.id) (λ s o. IsOfTransaction t.id s) (λ s r o i. i) b (put_transaction t.id (at_time now b)) answer (with_answer (moment_of b now) t d) r
    (with_answer_kept t.id (moment_of b now) t d (moved_kept b e now t d how)) (λ s c j i. i) k))
    (apart_from b t id h.apart stands))
    h.leaves)
shape_backs rs b e now landed p h (leaf_moves id l answer d stands how o f) =
    subst (Backs b rs landed) (sym f)
    (became_backed b rs now (moment_of b now) e l answer (leaf_plan b now answer l d) landed
    (leaves_do.step b e now landed l answer d (all_find LeafStands leaf_id id b.leaves l h.stand stands) how)
    (all_find (LeafBacked rs) leaf_id id b.leaves l h.leaves stands) h.order.rising.leaves h.leaves)
shape_backs rs b e now landed p h (activity_moves id a answer d stands how o f) =
    subst (Backs b rs landed) (sym f)
    (by_same b rs landed (activity_plan b now answer a d)
    (decision_both (SameLeaves b) (λ r o i. i) b (put_activity a.id (at_time now b)) answer d (λ c. refl) refl)
    (λ r k. absurd (decided_entry (HasBoth a) NoRecord (λ s o. ⊥) (λ s r o i. i) b (put_activity a.id (at_time now b)) answer d r (activity_moved_kept b e now a d how) (λ s c j i. i) k))
    h.leaves)
shape_backs rs b e now landed p h (transaction_registers id a r t stands came at says o f) =
    subst (Backs b rs landed) (sym f) (plain_backs b rs landed (registration_outcome b now (on_register (moment_of b now) a r t)) refl h.leaves)
shape_backs rs b e now landed p h (transaction_made a c id t os came at says next made sent o f) =
    subst (Backs b rs landed) (sym f) (plain_backs b rs landed (still (make_transaction (at_time now b) t) os) refl h.leaves)
shape_backs rs b e now landed p h (leaf_made a w id l os came at says next made sent o f) =
    subst (Backs b rs landed) (sym f) (by_branch landed)
  where
    joined : AllByRecursion (LeafBacked rs) (b.leaves ++ l ∷ [])
    joined = all_join (LeafBacked rs) b.leaves (l ∷ []) h.leaves (made_backed b rs (moment_of b now) (length b.leaves) a w id l h.drawn next made, tt)

    by_branch : (landed : Bool) → Backs b rs landed (plain (still (make_leaf (at_time now b) l) os))
    by_branch true = joined
    by_branch false = joined
shape_backs rs b e now landed p h (activity_made id a os next made o f) =
    subst (Backs b rs landed) (sym f) (plain_backs b rs landed (still (make_activity (at_time now b) a) os) refl h.leaves)

shape_waits : (rs : List Record) (b : Book) (e : Event) (now : ℕ) (landed : Bool) (p : Plan) → IsSafe rs b → Shape b e now p → Waits b rs landed p
unfolding SameLeaves
shape_waits rs b e now landed p h (nothing_moves f) = subst (Waits b rs landed) (sym f) (plain_waits b rs landed (still b []) (λ l k. k) h.waiting)
shape_waits rs b e now landed p h (time_moves a os came why o f) = subst (Waits b rs landed) (sym f) (plain_waits b rs landed (still (at_time now b) os) (λ l k. k) h.waiting)
shape_waits rs b e now landed p h (time_passes came f) = subst (Waits b rs landed) (sym f) (plain_waits b rs landed (still (at_time now b) accepted) (λ l k. k) h.waiting)
shape_waits rs b e now landed p h (transaction_moves id t answer d stands how o f) =
    subst (Waits b rs landed) (sym f)
    (same_wait b rs landed (transaction_plan b now answer t d)
    (decision_both (SameLeaves b) (λ r o i. i) b (put_transaction t.id (at_time now b)) answer (with_answer (moment_of b now) t d) (λ c. refl) refl)
    (λ r k. no_leaf_record t.id r
    (decided_entry (HasId t.id) (Names t.id) (λ s o. IsOfTransaction t.id s) (λ s r o i. i) b (put_transaction t.id (at_time now b)) answer (with_answer (moment_of b now) t d) r
    (with_answer_kept t.id (moment_of b now) t d (moved_kept b e now t d how)) (λ s c j i. i) k))
    h.waiting)
shape_waits rs b e now landed p h (leaf_moves id l answer d stands how o f) =
    subst (Waits b rs landed) (sym f)
    (became_waits b rs now (moment_of b now) e l answer (leaf_plan b now answer l d) landed
    (leaves_do.step b e now landed l answer d (all_find LeafStands leaf_id id b.leaves l h.stand stands) how)
    (found_in leaf_id id b.leaves l stands) h.order.rising.leaves h.waiting)
shape_waits rs b e now landed p h (activity_moves id a answer d stands how o f) =
    subst (Waits b rs landed) (sym f)
    (same_wait b rs landed (activity_plan b now answer a d)
    (decision_both (SameLeaves b) (λ r o i. i) b (put_activity a.id (at_time now b)) answer d (λ c. refl) refl)
    (λ r k. absurd (decided_entry (HasBoth a) NoRecord (λ s o. ⊥) (λ s r o i. i) b (put_activity a.id (at_time now b)) answer d r (activity_moved_kept b e now a d how) (λ s c j i. i) k))
    h.waiting)
shape_waits rs b e now landed p h (transaction_registers id a r t stands came at says o f) =
    subst (Waits b rs landed) (sym f) (plain_waits b rs landed (registration_outcome b now (on_register (moment_of b now) a r t)) (λ l k. k) h.waiting)
shape_waits rs b e now landed p h (transaction_made a c id t os came at says next made sent o f) =
    subst (Waits b rs landed) (sym f) (plain_waits b rs landed (still (make_transaction (at_time now b) t) os) (λ l k. k) h.waiting)
shape_waits rs b e now landed p h (leaf_made a w id l os came at says next made sent o f) =
    subst (Waits b rs landed) (sym f) (plain_waits b rs landed (still (make_leaf (at_time now b) l) os) (λ x k. in_front x b.leaves (l ∷ []) k) h.waiting)
shape_waits rs b e now landed p h (activity_made id a os next made o f) =
    subst (Waits b rs landed) (sym f) (plain_waits b rs landed (still (make_activity (at_time now b) a) os) (λ l k. k) h.waiting)

-- records stay drawn
at_most : (i n k : ℕ) → k ≡ n → i ≤ n → i ≤ k
at_most i n k e h = omega (arith, e, h)

record_on : (b c : Book) → KeepsPlace b c → (r : Record) → IsDrawnRecord b r → IsDrawnRecord c r
record_on b c k (records.Start i) h = at_most i b.incarnation c.incarnation k.incarnation h
record_on b c k (records.LeafPrepared id x key value) h = drawn_on b c k id h
record_on b c k (records.LeafCommitted id) h = drawn_on b c k id h
record_on b c k (records.LeafAborted id) h = drawn_on b c k id h
record_on b c k (records.Voted id s seats) h = drawn_on b c k id h
record_on b c k (records.Decided id seats) h = drawn_on b c k id h
record_on b c k (records.SubCommitted id) h = drawn_on b c k id h
record_on b c k (records.Ended id) h = drawn_on b c k id h
record_on b c k (records.Done id) h = drawn_on b c k id h

with_drawn : (b : Book) (entry : Option Record) (landed : Bool) (rs : List Record) → ((r : Record) → entry ≡ Some r → IsDrawnRecord b r) → AllByRecursion (IsDrawnRecord b) rs
    → AllByRecursion (IsDrawnRecord b) (with_entry entry landed rs)
with_drawn b None landed rs f h = h
with_drawn b (Some r) true rs f h = all_join (IsDrawnRecord b) rs (r ∷ []) h (f r refl, tt)
with_drawn b (Some r) false rs f h = h

step_safe : (rs : List Record) (b : Book) (e : Event) (now : ℕ) (landed : Bool) → IsSafe rs b → IsSafe (with_entry (plan b e now).entry landed rs) (step b e now landed).book
step_safe rs b e now landed h = record {
  order = ids_rise.stays b e now landed h.order;
  drawn = all_more (IsDrawnRecord b) (IsDrawnRecord (step b e now landed).book) (with_entry (plan b e now).entry landed rs)
      (record_on b (step b e now landed).book (steps_keep_place b e now landed))
      (with_drawn b (plan b e now).entry landed rs (λ r k. ids_stay_drawn.entry b e now r h.order.drawn k) h.drawn);
  apart = step_apart b e now landed h.order h.apart;
  stand = leaf_states.book b e now landed h.stand;
  leaves = shape_backs rs b e now landed (plan b e now) h (steps_touch_one b e now);
  waiting = shape_waits rs b e now landed (plan b e now) h (steps_touch_one b e now);
}

-- a start
leaf_backed : (js : List Record) (r : Record) (l : Leaf) → IsIn r (live js) → leaf_from r ≡ Some l → LeafBacked js l
leaf_backed js (records.LeafPrepared id c key value) l h e =
    let same : recovered_leaf id c key value ≡ l = cc in subst (LeafBacked js) same (c, refl, h)
leaf_backed js other l h e = absurd cc

recovered_backed : (base : List ℕ) (js : List Record) → AllByRecursion (LeafBacked js) (recover base js).leaves
recovered_backed base js =
    all_in (LeafBacked js) (recover base js).leaves (λ l h. let k : StandsForLeaf (live js) l = recovers_each.leaves base js l h in leaf_backed js k.behind l k.live k.is)

not_both : (base : List ℕ) (rs : List Record) (r : Record) (t : Transaction) (l : Leaf) → transaction_from base rs r ≡ Some t → leaf_from r ≡ Some l → ⊥
not_both base rs (records.LeafPrepared id c key value) t l e f = cc
not_both base rs other t l e f = cc

record IsOfOne {A : Type 0} (key : A → Numbers) (xs : List A) (i : Numbers) : Type 0 where
  one : A
  there : IsIn one xs
  same : i ≡ key one

of_one : {A : Type 0} (key : A → Numbers) (xs : List A) (i : Numbers) → IsIn i (map key xs) → IsOfOne key xs i
of_one key [] i h = absurd h
of_one key (x ∷ xs) i (inl e) = record { one = x; there = inl refl; same = e }
of_one key (x ∷ xs) i (inr h) = further (of_one key xs i h)
  where
    further : IsOfOne key xs i → IsOfOne key (x ∷ xs) i
    further k = record { one = k.one; there = inr k.there; same = k.same }

recovered_apart : (base : List ℕ) (js : List Record) → AreApart (recover base js)
recovered_apart base js i h k = clash (of_one transaction_id (recover base js).transactions i h) (of_one leaf_id (recover base js).leaves i k)
  where
    meet : (t : Transaction) (l : Leaf) → t.id ≡ l.id → StandsFor base (live js) t → StandsForLeaf (live js) l → ⊥
    meet t l same x y =
        let own : is_promise l.id x.behind ≡ true = subst (λ j. is_promise j x.behind ≡ true) same (from_promise base (live js) x.behind t x.is) in
        let one : x.behind ≡ y.behind = recovers_each.single js l.id x.behind y.behind x.live y.live own (from_leaf_promise y.behind l y.is) in
        not_both base (live js) y.behind t l (subst (λ r. transaction_from base (live js) r ≡ Some t) one x.is) y.is

    clash : IsOfOne transaction_id (recover base js).transactions i → IsOfOne leaf_id (recover base js).leaves i → ⊥
    clash x y = meet x.one y.one (sym x.same ∙ y.same) (recovers_each.transactions base js x.one x.there) (recovers_each.leaves base js y.one y.there)

recovered_waiting : (base : List ℕ) (js : List Record) → AllWait (recover base js) js
recovered_waiting base js id to key value h = record {
  leaf = recovered_leaf id to key value;
  there = found_in leaf_id id (recover base js).leaves (recovered_leaf id to key value) (recovers_each.leaf base js (records.LeafPrepared id to key value) (recovered_leaf id to key value) h refl);
  own = refl;
  durable = refl;
  waits = refl;
  coordinator = refl;
  named = refl;
  valued = refl;
}

start_safe : (base : List ℕ) (rs : List Record) → IsSafe (restarted rs) (recover base (restarted rs))
start_safe base rs = record {
  order = ids_rise.started base rs;
  drawn = ids_stay_drawn.journal base rs;
  apart = recovered_apart base (restarted rs);
  stand = leaf_states.recovered base (restarted rs);
  leaves = recovered_backed base (restarted rs);
  waiting = recovered_waiting base (restarted rs);
}

-- runs
safe_law : NodeLaw
safe_law = record {
  Good = λ rs o. IfThere (IsSafe rs) o;
  opens = tt;
  steps = λ rs b e now landed h. step_safe rs b e now landed h;
  falls = λ rs b h. tt;
  rises = λ base rs small h. start_safe base rs;
}

run_safe : (hosts : Hosts) (es : List WorldEvent) (n : ℕ) (x : Node) (b : Book) → nth n (run_of hosts es).nodes ≡ Some x → x.book ≡ Some b → IsSafe x.journal b
unfolding safe_law
run_safe hosts es n x b found up = subst (IfThere (IsSafe x.journal)) up (nodes_hold safe_law hosts (run_of hosts es) (run_reached hosts es) n x found)

pub leaves_are_backed : LeavesAreBacked
leaves_are_backed = record {
  backed = λ hosts es n x b found up. (run_safe hosts es n x b found up).leaves;
  waiting = λ hosts es n x b found up. (run_safe hosts es n x b found up).waiting;
}
