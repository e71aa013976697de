-- Ids stay drawn over steps and starts, so no node makes one twice.
use Rattle.std.specs.Prelude.{ℕ, List, [], ◌∷◌, Some, None, Bool, true, false, ◌||◌, ◌+◌, if◌then◌else◌, ◌≡◌, ◌≤◌, ◌<◌, ◌⊎◌, refl}
use Rattle.std.specs.List.{list_any, AllByRecursion}
use Rattle.std.proofs.Common.{inl, inr, sym, subst, ap, arith, ◌∙◌}
use Rattle.at_base.specs.Numbers.{Numbers}
use Rattle.at_base.specs.declared.epr.Epr.{Epr}
use Rattle.at_base.specs.declared.record.Seated.{Seated}
use Rattle.at_base.specs.declared.record.Record.{Record}
use Rattle.at_base.specs.declared.record.Record.TheVariants as records
use Rattle.at_base.specs.declared.event.Event.{Event}
use Rattle.at_model.specs.Book.{Book, Transaction, Leaf, Activity, transaction_id, leaf_id, next_id}
use Rattle.at_model.specs.Arrivals.{with_answer}
use Rattle.at_model.specs.Step.{Outcome, Plan, plain, at_time, moment_of, put_transaction, put_leaf, put_activity, make_transaction, make_leaf, make_activity, plan, step}
use Rattle.at_model.specs.Recovery.{live, kept, with_commit, last_incarnation, incarnation_of, ends_leaf, ends_transaction, is_sub_committed, transactions_of, leaves_of, is_before, insert_by, in_order, recover, recovered_voted, no_seats}
use Rattle.model_laws.specs.Laws.{IsDrawn, HasId, HasLeafId, KeepsPlace}
use Rattle.model_laws.specs.DrawnIds.{AreDrawn, HoldsDrawn, IsDrawnRecord, restarted, IdsStayDrawn}
use Rattle.model_laws.specs.Shapes.{Shape, nothing_moves, time_moves, time_passes, transaction_moves, leaf_moves, activity_moves, transaction_registers, transaction_made, leaf_made, activity_made}
use Rattle.model_laws.proofs.DecisionLaws.{decided_entry, all_find, all_if, all_join, all_more, all_both}
use Rattle.model_laws.proofs.ItemIds.{IsOfTransaction, IsOfLeaf, Names, NamesLeaf, HasBoth, NoRecord, with_answer_kept}
use Rattle.model_laws.proofs.DrawnItems.{Holds, Leaves, as_before, one_transaction, one_leaf, one_activity, leaves, moved_kept, leaf_moved_kept, activity_moved_kept}
use Rattle.model_laws.proofs.NextIds.{next_numbers}
use Rattle.model_laws.proofs.StepShapes.{steps_touch_one, steps_keep_place}
use Rattle.model_laws.proofs.RecoveryLaws.{incarnations_rise}

-- drawn stays drawn
pub drawn_on : (b c : Book) → KeepsPlace b c → (id : Numbers) → IsDrawn b id → IsDrawn c id
drawn_on b c k id (inl h) = inl (omega (arith, h, k.incarnation))
drawn_on b c k id (inr (e, f)) = inr (omega (arith, e, k.incarnation), omega (arith, f, k.counter))

both_drawn : (b : Book) (a : Activity) → IsDrawn b a.id → IsDrawn b a.root → AreDrawn b a
both_drawn b a h k = record { own = h; root = k }

holds : (b : Book) → HoldsDrawn b → Holds (IsDrawn b) (IsDrawn b) (IsDrawn b) (IsDrawn b) b
holds b h = record {
  transactions = h.transactions;
  leaves = h.leaves;
  activities = all_more (AreDrawn b) (λ a. IsDrawn b a.id) b.activities (λ a k. k.own) h.activities;
  roots = all_more (AreDrawn b) (λ a. IsDrawn b a.root) b.activities (λ a k. k.root) h.activities;
}

held_on : (b c : Book) → KeepsPlace b c → Holds (IsDrawn b) (IsDrawn b) (IsDrawn b) (IsDrawn b) c → HoldsDrawn c
held_on b c k h = record {
  transactions = all_more (λ t. IsDrawn b t.id) (λ t. IsDrawn c t.id) c.transactions (λ t. drawn_on b c k t.id) h.transactions;
  leaves = all_more (λ l. IsDrawn b l.id) (λ l. IsDrawn c l.id) c.leaves (λ l. drawn_on b c k l.id) h.leaves;
  activities = all_both (λ a. IsDrawn b a.id) (λ a. IsDrawn b a.root) (AreDrawn c) c.activities
      (λ a i j. both_drawn c a (drawn_on b c k a.id i) (drawn_on b c k a.root j)) h.activities h.roots;
}

-- a book that drew one id more
one_more : (b c : Book) → c.incarnation ≡ b.incarnation → c.counter ≡ b.counter + 1 → (id : Numbers) → IsDrawn b id → IsDrawn c id
one_more b c e f id (inl h) = inl (omega (arith, h, e))
one_more b c e f id (inr (i, j)) = inr (omega (arith, i, e), omega (arith, j, f))

last_drawn : (b c : Book) → c.incarnation ≡ b.incarnation → c.counter ≡ b.counter + 1 → (id : Numbers) → next_id b ≡ Some id → IsDrawn c id
last_drawn b c e f id next = let (i, j) = next_numbers b id next in inr (omega (arith, i, e), omega (arith, j, f))

pub made_drawn : (b c : Book) → c.incarnation ≡ b.incarnation → c.counter ≡ b.counter + 1 → (id i : Numbers) → next_id b ≡ Some id → i ≡ id → IsDrawn c i
made_drawn b c e f id i next same = subst (IsDrawn c) (sym same) (last_drawn b c e f id next)

all_on : (b c : Book) → c.incarnation ≡ b.incarnation → c.counter ≡ b.counter + 1 → HoldsDrawn b
    → AllByRecursion (λ t. IsDrawn c t.id) b.transactions × AllByRecursion (λ l. IsDrawn c l.id) b.leaves × AllByRecursion (AreDrawn c) b.activities
all_on b c e f h = (
  all_more (λ t. IsDrawn b t.id) (λ t. IsDrawn c t.id) b.transactions (λ t. one_more b c e f t.id) h.transactions,
  all_more (λ l. IsDrawn b l.id) (λ l. IsDrawn c l.id) b.leaves (λ l. one_more b c e f l.id) h.leaves,
  all_more (AreDrawn b) (AreDrawn c) b.activities (λ a k. both_drawn c a (one_more b c e f a.id k.own) (one_more b c e f a.root k.root)) h.activities,
)

one_transaction_drawn : (b : Book) (now : ℕ) (id : Numbers) (t : Transaction) → HoldsDrawn b → next_id b ≡ Some id → t.id ≡ id → HoldsDrawn (make_transaction (at_time now b) t)
one_transaction_drawn b now id t h next same =
    let c : Book = make_transaction (at_time now b) t in
    let (ts, ls, acts) = all_on b c refl refl h in
    record {
      transactions = all_join (λ x. IsDrawn c x.id) b.transactions (t ∷ []) ts (made_drawn b c refl refl id t.id next same, tt);
      leaves = ls;
      activities = acts;
    }

one_leaf_drawn : (b : Book) (now : ℕ) (id : Numbers) (l : Leaf) → HoldsDrawn b → next_id b ≡ Some id → l.id ≡ id → HoldsDrawn (make_leaf (at_time now b) l)
one_leaf_drawn b now id l h next same =
    let c : Book = make_leaf (at_time now b) l in
    let (ts, ls, acts) = all_on b c refl refl h in
    record {
      transactions = ts;
      leaves = all_join (λ x. IsDrawn c x.id) b.leaves (l ∷ []) ls (made_drawn b c refl refl id l.id next same, tt);
      activities = acts;
    }

root_drawn : (b c : Book) → c.incarnation ≡ b.incarnation → c.counter ≡ b.counter + 1 → (id i : Numbers) → next_id b ≡ Some id → (i ≡ id) ⊎ IsDrawn b i → IsDrawn c i
root_drawn b c e f id i next (inl same) = made_drawn b c e f id i next same
root_drawn b c e f id i next (inr h) = one_more b c e f i h

one_activity_drawn : (b : Book) (now : ℕ) (id : Numbers) (a : Activity) → HoldsDrawn b → next_id b ≡ Some id → a.id ≡ id → (a.root ≡ id) ⊎ IsDrawn b a.root
    → HoldsDrawn (make_activity (at_time now b) a)
one_activity_drawn b now id a h next same root =
    let c : Book = make_activity (at_time now b) a in
    let (ts, ls, acts) = all_on b c refl refl h in
    record {
      transactions = ts;
      leaves = ls;
      activities = all_join (AreDrawn c) b.activities (a ∷ []) acts
          (both_drawn c a (made_drawn b c refl refl id a.id next same) (root_drawn b c refl refl id a.root next root), tt);
    }

left_drawn : (b : Book) (now : ℕ) (o : Outcome) → KeepsPlace b o.book → HoldsDrawn b → Leaves (IsDrawn b) (IsDrawn b) (IsDrawn b) (IsDrawn b) b now o → HoldsDrawn o.book
left_drawn b now o k h (as_before i) = held_on b o.book k i
left_drawn b now o k h (one_transaction id t next same is) = subst HoldsDrawn (sym is) (one_transaction_drawn b now id t h next same)
left_drawn b now o k h (one_leaf id l next same is) = subst HoldsDrawn (sym is) (one_leaf_drawn b now id l h next same)
left_drawn b now o k h (one_activity id a next same root is) = subst HoldsDrawn (sym is) (one_activity_drawn b now id a h next same root)

pub step_drawn : (b : Book) (e : Event) (now : ℕ) (landed : Bool) → HoldsDrawn b → HoldsDrawn (step b e now landed).book
step_drawn b e now landed h =
    left_drawn b now (step b e now landed) (steps_keep_place b e now landed) h (leaves (IsDrawn b) (IsDrawn b) (IsDrawn b) (IsDrawn b) b e now landed (holds b h))

-- what is recorded is about a drawn id
about_drawn : (b : Book) (id : Numbers) (r : Record) → IsDrawn b id → IsOfTransaction id r → IsDrawnRecord b r
about_drawn b id (records.Voted i s seats) h k = subst (IsDrawn b) (sym k) h
about_drawn b id (records.Decided i seats) h k = subst (IsDrawn b) (sym k) h
about_drawn b id (records.SubCommitted i) h k = subst (IsDrawn b) (sym k) h
about_drawn b id (records.Ended i) h k = subst (IsDrawn b) (sym k) h
about_drawn b id other h k = absurd k

about_leaf_drawn : (b : Book) (id : Numbers) (r : Record) → IsDrawn b id → IsOfLeaf id r → IsDrawnRecord b r
about_leaf_drawn b id (records.LeafPrepared i c key value) h k = subst (IsDrawn b) (sym k) h
about_leaf_drawn b id (records.LeafCommitted i) h k = subst (IsDrawn b) (sym k) h
about_leaf_drawn b id (records.LeafAborted i) h k = subst (IsDrawn b) (sym k) h
about_leaf_drawn b id other h k = absurd k

pub no_entry : (p : Plan) (o : Outcome) (r : Record) → p ≡ plain o → p.entry ≡ Some r → ⊥
no_entry p o r e f = let g : p.entry ≡ None = ap (λ x. x.entry) e in cc

-- what a record is about: a transaction, or a leaf, of the book
pub data IsAbout (T L : Numbers → Type 0) (r : Record) : Type 0 where
  about_transaction : (id : Numbers) → T id → IsOfTransaction id r → IsAbout T L r
  about_leaf : (id : Numbers) → L id → IsOfLeaf id r → IsAbout T L r

shape_about : (T L : Numbers → Type 0) (b : Book) (e : Event) (now : ℕ) (p : Plan) (r : Record) → AllByRecursion (λ t. T t.id) b.transactions → AllByRecursion (λ l. L l.id) b.leaves
    → Shape b e now p → p.entry ≡ Some r → IsAbout T L r
shape_about T L b e now p r h i (nothing_moves f) k = absurd (no_entry p _ r f k)
shape_about T L b e now p r h i (time_moves a os came why o f) k = absurd (no_entry p _ r f k)
shape_about T L b e now p r h i (time_passes came f) k = absurd (no_entry p _ r f k)
shape_about T L b e now p r h i (transaction_moves id t answer d stands how o f) k =
    decided_entry (HasId t.id) (Names t.id) (λ s o. IsAbout T L s) (λ s r o i. i) b (put_transaction t.id (at_time now b)) answer (with_answer (moment_of b now) t d) r
    (with_answer_kept t.id (moment_of b now) t d (moved_kept b e now t d how))
    (λ s c j m. about_transaction t.id (all_find (λ x. T x.id) transaction_id id b.transactions t h stands) m)
    (sym (ap (λ x. x.entry) f) ∙ k)
shape_about T L b e now p r h i (leaf_moves id l answer d stands how o f) k =
    decided_entry (HasLeafId l.id) (NamesLeaf l.id) (λ s o. IsAbout T L s) (λ s r o i. i) b (put_leaf l.id (at_time now b)) answer d r (leaf_moved_kept b e now l d how)
    (λ s c j m. about_leaf l.id (all_find (λ x. L x.id) leaf_id id b.leaves l i stands) m)
    (sym (ap (λ x. x.entry) f) ∙ k)
shape_about T L b e now p r h i (activity_moves id a answer d stands how o f) k =
    decided_entry (HasBoth a) NoRecord (λ s o. IsAbout T L s) (λ s r o i. i) b (put_activity a.id (at_time now b)) answer d r (activity_moved_kept b e now a d how)
    (λ s c j m. absurd m) (sym (ap (λ x. x.entry) f) ∙ k)
shape_about T L b e now p r h i (transaction_registers id a c t stands came at says o f) k = absurd (no_entry p _ r f k)
shape_about T L b e now p r h i (transaction_made a c id t os came at says next made sent o f) k = absurd (no_entry p _ r f k)
shape_about T L b e now p r h i (leaf_made a w id l os came at says next made sent o f) k = absurd (no_entry p _ r f k)
shape_about T L b e now p r h i (activity_made id a os next made o f) k = absurd (no_entry p _ r f k)

pub entry_about : (T L : Numbers → Type 0) (b : Book) (e : Event) (now : ℕ) (r : Record) → AllByRecursion (λ t. T t.id) b.transactions → AllByRecursion (λ l. L l.id) b.leaves
    → (plan b e now).entry ≡ Some r → IsAbout T L r
entry_about T L b e now r h i k = shape_about T L b e now (plan b e now) r h i (steps_touch_one b e now) k

about_is_drawn : (b : Book) (r : Record) → IsAbout (IsDrawn b) (IsDrawn b) r → IsDrawnRecord b r
about_is_drawn b r (about_transaction id h k) = about_drawn b id r h k
about_is_drawn b r (about_leaf id h k) = about_leaf_drawn b id r h k

-- recovery: what a list keeps while its records are chosen and put in order
pub all_live : (P : Record → Type 0) (rs : List Record) → ((id : Numbers) (superior : Epr) (seats : List Seated) → P (records.Voted id superior seats) → P (records.SubCommitted id))
    → AllByRecursion P rs → AllByRecursion P (live rs)
all_live P [] commits h = tt
all_live P (r ∷ rest) commits (h, k) = all_join P (kept r rest) (live rest) (kept_one P r rest commits h) (all_live P rest commits k)
  where
    maybe : (P : Record → Type 0) (b : Bool) (xs : List Record) → AllByRecursion P xs → AllByRecursion P (if b then [] else xs)
    maybe P true xs h = tt
    maybe P false xs h = h

    maybe_one : (P : Record → Type 0) (b : Bool) (r : Record) → P r → AllByRecursion P (if b then r ∷ [] else [])
    maybe_one P true r h = (h, tt)
    maybe_one P false r h = tt

    kept_one : (P : Record → Type 0) (r : Record) (rest : List Record)
        → ((id : Numbers) (superior : Epr) (seats : List Seated) → P (records.Voted id superior seats) → P (records.SubCommitted id))
        → P r → AllByRecursion P (kept r rest)
    kept_one P (records.LeafPrepared id c key value) rest commits h = maybe P (list_any (ends_leaf id) rest) (records.LeafPrepared id c key value ∷ []) (h, tt)
    kept_one P (records.Voted id s seats) rest commits h =
        maybe P (list_any (ends_transaction id) rest) (records.Voted id s seats ∷ with_commit id rest)
        (h, maybe_one P (list_any (is_sub_committed id) rest) (records.SubCommitted id) (commits id s seats h))
    kept_one P (records.Decided id seats) rest commits h = maybe P (no_seats seats || list_any (ends_transaction id) rest) (records.Decided id seats ∷ []) (h, tt)
    kept_one P (records.Start n) rest commits h = tt
    kept_one P (records.LeafCommitted id) rest commits h = tt
    kept_one P (records.LeafAborted id) rest commits h = tt
    kept_one P (records.SubCommitted id) rest commits h = tt
    kept_one P (records.Ended id) rest commits h = tt
    kept_one P (records.Done id) rest commits h = tt

pub all_insert : {A : Type 0} (P : A → Type 0) (key : A → Numbers) (x : A) (xs : List A) → P x → AllByRecursion P xs → AllByRecursion P (insert_by key x xs)
all_insert P key x [] h k = (h, tt)
all_insert P key x (y ∷ ys) h (i, j) = all_if P (is_before (key y) (key x)) (y ∷ insert_by key x ys) (x ∷ (y ∷ ys)) (i, all_insert P key x ys h j) (h, (i, j))

pub all_in_order : {A : Type 0} (P : A → Type 0) (key : A → Numbers) (xs : List A) → AllByRecursion P xs → AllByRecursion P (in_order key xs)
all_in_order P key [] h = tt
all_in_order P key (x ∷ xs) (h, k) = all_insert P key x (in_order key xs) h (all_in_order P key xs k)

-- the records whose incarnation is an earlier one
abbrev Earlier : ℕ → Record → Type 0
Earlier n (records.Start i) = Unit {0}
Earlier n (records.LeafPrepared id c key value) = id.incarnation < n
Earlier n (records.LeafCommitted id) = id.incarnation < n
Earlier n (records.LeafAborted id) = id.incarnation < n
Earlier n (records.Voted id s seats) = id.incarnation < n
Earlier n (records.Decided id seats) = id.incarnation < n
Earlier n (records.SubCommitted id) = id.incarnation < n
Earlier n (records.Ended id) = id.incarnation < n
Earlier n (records.Done id) = id.incarnation < n

earlier : (n : ℕ) (r : Record) → incarnation_of r < n → Earlier n r
earlier n (records.Start i) h = tt
earlier n (records.LeafPrepared id c key value) h = h
earlier n (records.LeafCommitted id) h = h
earlier n (records.LeafAborted id) h = h
earlier n (records.Voted id s seats) h = h
earlier n (records.Decided id seats) h = h
earlier n (records.SubCommitted id) h = h
earlier n (records.Ended id) h = h
earlier n (records.Done id) h = h

voted_id : (base : List ℕ) (n : ℕ) (id : Numbers) (s : Epr) (seats : List Seated) (committed : Bool) → id.incarnation < n → (recovered_voted id s seats committed).id.incarnation < n
voted_id base n id s seats true h = h
voted_id base n id s seats false h = h

transactions_earlier : (base : List ℕ) (n : ℕ) (rs : List Record) → AllByRecursion (Earlier n) rs → AllByRecursion (λ t. t.id.incarnation < n) (transactions_of base rs)
transactions_earlier base n [] h = tt
transactions_earlier base n (records.Voted id s seats ∷ rest) (h, k) =
    (voted_id base n id s seats (list_any (is_sub_committed id) rest) h, transactions_earlier base n rest k)
transactions_earlier base n (records.Decided id seats ∷ rest) (h, k) = (h, transactions_earlier base n rest k)
transactions_earlier base n (records.Start i ∷ rest) (h, k) = transactions_earlier base n rest k
transactions_earlier base n (records.LeafPrepared id c key value ∷ rest) (h, k) = transactions_earlier base n rest k
transactions_earlier base n (records.LeafCommitted id ∷ rest) (h, k) = transactions_earlier base n rest k
transactions_earlier base n (records.LeafAborted id ∷ rest) (h, k) = transactions_earlier base n rest k
transactions_earlier base n (records.SubCommitted id ∷ rest) (h, k) = transactions_earlier base n rest k
transactions_earlier base n (records.Ended id ∷ rest) (h, k) = transactions_earlier base n rest k
transactions_earlier base n (records.Done id ∷ rest) (h, k) = transactions_earlier base n rest k

leaves_earlier : (n : ℕ) (rs : List Record) → AllByRecursion (Earlier n) rs → AllByRecursion (λ l. l.id.incarnation < n) (leaves_of rs)
leaves_earlier n [] h = tt
leaves_earlier n (records.LeafPrepared id c key value ∷ rest) (h, k) = (h, leaves_earlier n rest k)
leaves_earlier n (records.Voted id s seats ∷ rest) (h, k) = leaves_earlier n rest k
leaves_earlier n (records.Decided id seats ∷ rest) (h, k) = leaves_earlier n rest k
leaves_earlier n (records.Start i ∷ rest) (h, k) = leaves_earlier n rest k
leaves_earlier n (records.LeafCommitted id ∷ rest) (h, k) = leaves_earlier n rest k
leaves_earlier n (records.LeafAborted id ∷ rest) (h, k) = leaves_earlier n rest k
leaves_earlier n (records.SubCommitted id ∷ rest) (h, k) = leaves_earlier n rest k
leaves_earlier n (records.Ended id ∷ rest) (h, k) = leaves_earlier n rest k
leaves_earlier n (records.Done id ∷ rest) (h, k) = leaves_earlier n rest k

-- the records that are live behind a new Start
live_earlier : (rs : List Record) → AllByRecursion (Earlier (last_incarnation (restarted rs))) (live (restarted rs))
live_earlier rs =
    let (is, below) = incarnations_rise rs in
    let all : AllByRecursion (Earlier (last_incarnation rs + 1)) rs =
    all_more (λ r. incarnation_of r < last_incarnation rs + 1) (Earlier (last_incarnation rs + 1)) rs (earlier (last_incarnation rs + 1)) below in
    all_live (Earlier (last_incarnation (restarted rs))) (restarted rs) (λ id s seats h. h)
    (subst (λ n. AllByRecursion (Earlier n) (restarted rs)) (sym is) (all_join (Earlier (last_incarnation rs + 1)) rs (records.Start (last_incarnation rs + 1) ∷ []) all (tt, tt)))

before_this : (b : Book) (id : Numbers) → id.incarnation < b.incarnation → IsDrawn b id
before_this b id h = inl h

pub recovered_drawn : (base : List ℕ) (rs : List Record) → HoldsDrawn (recover base (restarted rs))
recovered_drawn base rs =
    let b : Book = recover base (restarted rs) in
    let n : ℕ = last_incarnation (restarted rs) in
    record {
      transactions = all_more (λ t. t.id.incarnation < n) (λ t. IsDrawn b t.id) b.transactions (λ t. before_this b t.id)
          (all_in_order (λ t. t.id.incarnation < n) transaction_id (transactions_of base (live (restarted rs)))
          (transactions_earlier base n (live (restarted rs)) (live_earlier rs)));
      leaves = all_more (λ l. l.id.incarnation < n) (λ l. IsDrawn b l.id) b.leaves (λ l. before_this b l.id)
          (all_in_order (λ l. l.id.incarnation < n) leaf_id (leaves_of (live (restarted rs))) (leaves_earlier n (live (restarted rs)) (live_earlier rs)));
      activities = tt;
    }

record_before : (b : Book) (n : ℕ) → b.incarnation ≡ n → (r : Record) → incarnation_of r < n → IsDrawnRecord b r
record_before b n e (records.Start i) h = omega (arith, e, h)
record_before b n e (records.LeafPrepared id c key value) h = inl (omega (arith, e, h))
record_before b n e (records.LeafCommitted id) h = inl (omega (arith, e, h))
record_before b n e (records.LeafAborted id) h = inl (omega (arith, e, h))
record_before b n e (records.Voted id s seats) h = inl (omega (arith, e, h))
record_before b n e (records.Decided id seats) h = inl (omega (arith, e, h))
record_before b n e (records.SubCommitted id) h = inl (omega (arith, e, h))
record_before b n e (records.Ended id) h = inl (omega (arith, e, h))
record_before b n e (records.Done id) h = inl (omega (arith, e, h))

at_most : (a b : ℕ) → b ≡ a → a ≤ b
at_most a b e = omega (arith, e)

journal_drawn : (base : List ℕ) (rs : List Record) → AllByRecursion (IsDrawnRecord (recover base (restarted rs))) (restarted rs)
journal_drawn base rs =
    let b : Book = recover base (restarted rs) in
    let (is, below) = incarnations_rise rs in
    all_join (IsDrawnRecord b) rs (records.Start (last_incarnation rs + 1) ∷ [])
    (all_more (λ r. incarnation_of r < last_incarnation rs + 1) (IsDrawnRecord b) rs (record_before b (last_incarnation rs + 1) is) below)
    (at_most (last_incarnation rs + 1) b.incarnation is, tt)

pub ids_stay_drawn : IdsStayDrawn
ids_stay_drawn = record {
  book = step_drawn;
  entry = λ b e now r h k. about_is_drawn b r (entry_about (IsDrawn b) (IsDrawn b) b e now r h.transactions h.leaves k);
  stays = λ b e now landed id h. drawn_on b (step b e now landed).book (steps_keep_place b e now landed) id h;
  recovered = recovered_drawn;
  journal = journal_drawn;
}
