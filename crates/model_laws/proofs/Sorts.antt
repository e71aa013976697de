-- An id names an item of one sort over the whole life of its node; so the ids of one book differ.
use Rattle.std.specs.Prelude.{ℕ, List, [], ◌∷◌, ◌++◌, Option, Some, None, Bool, true, false, nat_lt, ◌+◌, if◌then◌else◌, map, ◌≡◌, ◌<◌, ◌≤◌, refl}
use Rattle.std.specs.List.{list_any, AllByRecursion}
use Rattle.std.proofs.Common.{inl, inr, sym, subst, ap, arith, ◌∙◌}
use Rattle.std.proofs.lemmas.Bool.{ltb-true, ltb-false, true≢false}
use Rattle.at_base.specs.Numbers.{Numbers}
use Rattle.at_base.specs.declared.record.Seated.{Seated}
use Rattle.at_base.specs.declared.record.Record.{Record}
use Rattle.at_base.specs.declared.record.Record.TheVariants as records
use Rattle.at_base.specs.declared.epr.Epr.{Epr}
use Rattle.at_base.specs.declared.event.Event.{Event}
use Rattle.at_model.specs.Book.{Book, is_id, transaction_id, leaf_id, activity_id, next_id}
use Rattle.at_model.specs.Recovery.{recover, last_incarnation, live, is_before, is_sub_committed, recovered_voted, transactions_of, leaves_of}
use Rattle.at_model.specs.Step.{Outcome, at_time, make_transaction, make_leaf, make_activity, plan, step}
use Rattle.at_model.specs.World.{Node, World, nth, run_of, Hosts}
use Rattle.model_laws.specs.Agreement.{IsIn}
use Rattle.model_laws.specs.DrawnIds.{AreApart, ids_of, restarted, with_entry}
use Rattle.model_laws.specs.Laws.{IsDrawn, KeepsPlace}
use Rattle.model_laws.specs.MadeIds.{HoldsNoIdTwice}
use Rattle.model_laws.specs.Order.{AreRising, IsInOrder}
use Rattle.model_laws.specs.ReachedWorlds.{Reached}
use Rattle.model_laws.proofs.DecisionLaws.{IfThere, all_join, all_more}
use Rattle.model_laws.proofs.DrawnItems.{Holds, Leaves, as_before, one_transaction, one_leaf, one_activity, leaves}
use Rattle.model_laws.proofs.ItemIds.{IsOfTransaction, IsOfLeaf}
use Rattle.model_laws.proofs.DrawnIds.{IsAbout, about_transaction, about_leaf, entry_about, drawn_on, made_drawn, all_in_order, all_live}
use Rattle.model_laws.proofs.NextIds.{makes_under_the_next_id}
use Rattle.model_laws.proofs.MadeIds.{entry_rises}
use Rattle.model_laws.proofs.Order.{other_id}
use Rattle.model_laws.proofs.ReachedWorlds.{NodeLaw, nodes_hold, in_order, run_reached}
use Rattle.model_laws.proofs.RecoveryLaws.{same_id, self_id, incarnations_rise}
use Rattle.model_laws.proofs.StepShapes.{steps_keep_place}

pub data Sort : Type 0 where
  Unmade : Sort
  OfTransaction : Sort
  OfLeaf : Sort
  OfActivity : Sort

abbrev pub IsMade : Sort → Type 0
IsMade Unmade = ⊥
IsMade OfTransaction = Unit {0}
IsMade OfLeaf = Unit {0}
IsMade OfActivity = Unit {0}

-- one more id is made
abbrev set : (Numbers → Sort) → Numbers → Sort → Numbers → Sort
set s id K i = if is_id i id then K else s i

unmade : (S K : Sort) → IsMade K → S ≡ Unmade → S ≡ K → ⊥
unmade S Unmade h e f = h
unmade S OfTransaction h e f = absurd cc
unmade S OfLeaf h e f = absurd cc
unmade S OfActivity h e f = absurd cc

set_keeps : (s : Numbers → Sort) (id : Numbers) (K J : Sort) → s id ≡ Unmade → IsMade J → (i : Numbers) → s i ≡ J → set s id K i ≡ J
set_keeps s id K J n made i h = by_id (is_id i id) refl
  where
    by_id : (b : Bool) → is_id i id ≡ b → (if b then K else s i) ≡ J
    by_id true e = absurd (unmade (s id) J made n (ap s (sym (same_id i id e)) ∙ h))
    by_id false e = h

set_this : (s : Numbers → Sort) (id : Numbers) (K : Sort) → set s id K id ≡ K
set_this s id K = ap (λ b. if b then K else s id) (self_id id)

set_other : (s : Numbers → Sort) (id : Numbers) (K : Sort) (i : Numbers) → (i ≡ id → ⊥) → s i ≡ Unmade → set s id K i ≡ Unmade
set_other s id K i differ h = by_id (is_id i id) refl
  where
    by_id : (b : Bool) → is_id i id ≡ b → (if b then K else s i) ≡ Unmade
    by_id true e = absurd (differ (same_id i id e))
    by_id false e = h

-- what a record is about
abbrev IsSortedRecord : (Numbers → Sort) → Record → Type 0
IsSortedRecord s (records.LeafPrepared id c key value) = s id ≡ OfLeaf
IsSortedRecord s (records.LeafCommitted id) = s id ≡ OfLeaf
IsSortedRecord s (records.LeafAborted id) = s id ≡ OfLeaf
IsSortedRecord s (records.Voted id superior seats) = s id ≡ OfTransaction
IsSortedRecord s (records.Decided id seats) = s id ≡ OfTransaction
IsSortedRecord s (records.SubCommitted id) = s id ≡ OfTransaction
IsSortedRecord s (records.Ended id) = s id ≡ OfTransaction
IsSortedRecord s (records.Done id) = s id ≡ OfTransaction
IsSortedRecord s (records.Start i) = Unit {0}

abbrev IsSorted : (Numbers → Sort) → Book → Type 0
IsSorted s b = Holds (λ i. s i ≡ OfTransaction) (λ i. s i ≡ OfLeaf) (λ i. s i ≡ OfActivity) (λ i. Unit {0}) b

record IsDown (rs : List Record) : Type 0 where
  sorts : Numbers → Sort
  journal : AllByRecursion (IsSortedRecord sorts) rs
  undrawn : (id : Numbers) → last_incarnation rs < id.incarnation → sorts id ≡ Unmade

record IsUp (rs : List Record) (b : Book) : Type 0 where
  sorts : Numbers → Sort
  journal : AllByRecursion (IsSortedRecord sorts) rs
  book : IsSorted sorts b
  undrawn : (id : Numbers) → (IsDrawn b id → ⊥) → sorts id ≡ Unmade
  known : b.incarnation ≤ last_incarnation rs

abbrev IsKnown : List Record → Option Book → Type 0
IsKnown rs None = IsDown rs
IsKnown rs (Some b) = IsUp rs b

-- a step
record_on : (s : Numbers → Sort) (id : Numbers) (K : Sort) → s id ≡ Unmade → (r : Record) → IsSortedRecord s r → IsSortedRecord (set s id K) r
record_on s id K n (records.LeafPrepared i c key value) h = set_keeps s id K OfLeaf n tt i h
record_on s id K n (records.LeafCommitted i) h = set_keeps s id K OfLeaf n tt i h
record_on s id K n (records.LeafAborted i) h = set_keeps s id K OfLeaf n tt i h
record_on s id K n (records.Voted i superior seats) h = set_keeps s id K OfTransaction n tt i h
record_on s id K n (records.Decided i seats) h = set_keeps s id K OfTransaction n tt i h
record_on s id K n (records.SubCommitted i) h = set_keeps s id K OfTransaction n tt i h
record_on s id K n (records.Ended i) h = set_keeps s id K OfTransaction n tt i h
record_on s id K n (records.Done i) h = set_keeps s id K OfTransaction n tt i h
record_on s id K n (records.Start i) h = tt

about_sorted : (s : Numbers → Sort) (r : Record) → IsAbout (λ i. s i ≡ OfTransaction) (λ i. s i ≡ OfLeaf) r → IsSortedRecord s r
about_sorted s r (about_transaction id h k) = of_transaction r k
  where
    of_transaction : (r : Record) → IsOfTransaction id r → IsSortedRecord s r
    of_transaction (records.Voted i superior seats) k = ap s k ∙ h
    of_transaction (records.Decided i seats) k = ap s k ∙ h
    of_transaction (records.SubCommitted i) k = ap s k ∙ h
    of_transaction (records.Ended i) k = ap s k ∙ h
    of_transaction (records.Done i) k = absurd k
    of_transaction (records.Start i) k = absurd k
    of_transaction (records.LeafPrepared i c key value) k = absurd k
    of_transaction (records.LeafCommitted i) k = absurd k
    of_transaction (records.LeafAborted i) k = absurd k
about_sorted s r (about_leaf id h k) = of_leaf r k
  where
    of_leaf : (r : Record) → IsOfLeaf id r → IsSortedRecord s r
    of_leaf (records.LeafPrepared i c key value) k = ap s k ∙ h
    of_leaf (records.LeafCommitted i) k = ap s k ∙ h
    of_leaf (records.LeafAborted i) k = ap s k ∙ h
    of_leaf (records.Voted i superior seats) k = absurd k
    of_leaf (records.Decided i seats) k = absurd k
    of_leaf (records.SubCommitted i) k = absurd k
    of_leaf (records.Ended i) k = absurd k
    of_leaf (records.Done i) k = absurd k
    of_leaf (records.Start i) k = absurd k

held_on : (s : Numbers → Sort) (id : Numbers) (K : Sort) (b : Book) → s id ≡ Unmade → IsSorted s b → IsSorted (set s id K) b
held_on s id K b n h = record {
  transactions = all_more (λ t. s t.id ≡ OfTransaction) (λ t. set s id K t.id ≡ OfTransaction) b.transactions (λ t e. set_keeps s id K OfTransaction n tt t.id e) h.transactions;
  leaves = all_more (λ l. s l.id ≡ OfLeaf) (λ l. set s id K l.id ≡ OfLeaf) b.leaves (λ l e. set_keeps s id K OfLeaf n tt l.id e) h.leaves;
  activities = all_more (λ a. s a.id ≡ OfActivity) (λ a. set s id K a.id ≡ OfActivity) b.activities (λ a e. set_keeps s id K OfActivity n tt a.id e) h.activities;
  roots = h.roots;
}

-- a book behind a step: its sorts are as they were, or one more id is made
made_up : (rs more : List Record) (b c : Book) (id : Numbers) (K : Sort) → (h : IsUp rs b) → KeepsPlace b c → next_id b ≡ Some id → IsDrawn c id → last_incarnation rs ≤ last_incarnation more
    → AllByRecursion (IsSortedRecord h.sorts) more → (IsSorted (set h.sorts id K) b → set h.sorts id K id ≡ K → IsSorted (set h.sorts id K) c) → IsUp more c
made_up rs more b c id K h place next drawn grows journal goes =
    let n : h.sorts id ≡ Unmade = h.undrawn id (makes_under_the_next_id.next b id next) in
    record {
      sorts = set h.sorts id K;
      journal = all_more (IsSortedRecord h.sorts) (IsSortedRecord (set h.sorts id K)) more (record_on h.sorts id K n) journal;
      book = goes (held_on h.sorts id K b n h.book) (set_this h.sorts id K);
      undrawn = λ i f.
          set_other h.sorts id K i (λ same. f (subst (IsDrawn c) (sym same) drawn)) (h.undrawn i (λ d. f (drawn_on b c place i d)));
      known = omega (arith, place.incarnation, h.known, grows);
    }

left_up : (rs more : List Record) (b : Book) (now : ℕ) (o : Outcome) → (h : IsUp rs b) → KeepsPlace b o.book → last_incarnation rs ≤ last_incarnation more
    → AllByRecursion (IsSortedRecord h.sorts) more → Leaves (λ i. h.sorts i ≡ OfTransaction) (λ i. h.sorts i ≡ OfLeaf) (λ i. h.sorts i ≡ OfActivity) (λ i. Unit {0}) b now o → IsUp more o.book
left_up rs more b now o h place grows journal (as_before k) = record {
  sorts = h.sorts;
  journal = journal;
  book = k;
  undrawn = λ i f. h.undrawn i (λ d. f (drawn_on b o.book place i d));
  known = omega (arith, place.incarnation, h.known, grows);
}
left_up rs more b now o h place grows journal (one_transaction id t next same is) =
    made_up rs more b o.book id OfTransaction h place next (subst (λ c. IsDrawn c id) (sym is) (made_drawn b (make_transaction (at_time now b) t) refl refl id id next refl)) grows journal
    (λ k e. subst (IsSorted (set h.sorts id OfTransaction)) (sym is) (record {
      transactions = all_join (λ x. set h.sorts id OfTransaction x.id ≡ OfTransaction) b.transactions (t ∷ []) k.transactions (ap (set h.sorts id OfTransaction) same ∙ e, tt);
      leaves = k.leaves;
      activities = k.activities;
      roots = k.roots;
    }))
left_up rs more b now o h place grows journal (one_leaf id l next same is) =
    made_up rs more b o.book id OfLeaf h place next (subst (λ c. IsDrawn c id) (sym is) (made_drawn b (make_leaf (at_time now b) l) refl refl id id next refl)) grows journal
    (λ k e. subst (IsSorted (set h.sorts id OfLeaf)) (sym is) (record {
      transactions = k.transactions;
      leaves = all_join (λ x. set h.sorts id OfLeaf x.id ≡ OfLeaf) b.leaves (l ∷ []) k.leaves (ap (set h.sorts id OfLeaf) same ∙ e, tt);
      activities = k.activities;
      roots = k.roots;
    }))
left_up rs more b now o h place grows journal (one_activity id a next same root is) =
    made_up rs more b o.book id OfActivity h place next (subst (λ c. IsDrawn c id) (sym is) (made_drawn b (make_activity (at_time now b) a) refl refl id id next refl)) grows journal
    (λ k e. subst (IsSorted (set h.sorts id OfActivity)) (sym is) (record {
      transactions = k.transactions;
      leaves = k.leaves;
      activities = all_join (λ x. set h.sorts id OfActivity x.id ≡ OfActivity) b.activities (a ∷ []) k.activities (ap (set h.sorts id OfActivity) same ∙ e, tt);
      roots = all_join (λ x. Unit {0}) b.activities (a ∷ []) k.roots (tt, tt);
    }))

steps_up : (rs : List Record) (b : Book) (e : Event) (now : ℕ) (landed : Bool) → IsUp rs b → IsUp (with_entry (plan b e now).entry landed rs) (step b e now landed).book
steps_up rs b e now landed h =
    left_up rs (with_entry (plan b e now).entry landed rs) b now (step b e now landed) h (steps_keep_place b e now landed) (entry_rises (plan b e now).entry landed rs)
    (by_entry (plan b e now).entry landed refl)
    (leaves (λ i. h.sorts i ≡ OfTransaction) (λ i. h.sorts i ≡ OfLeaf) (λ i. h.sorts i ≡ OfActivity) (λ i. Unit {0}) b e now landed h.book)
  where
    by_entry : (entry : Option Record) (l : Bool) → (plan b e now).entry ≡ entry → AllByRecursion (IsSortedRecord h.sorts) (with_entry entry l rs)
    by_entry None l f = h.journal
    by_entry (Some r) false f = h.journal
    by_entry (Some r) true f =
        all_join (IsSortedRecord h.sorts) rs (r ∷ []) h.journal
        (about_sorted h.sorts r (entry_about (λ i. h.sorts i ≡ OfTransaction) (λ i. h.sorts i ≡ OfLeaf) b e now r h.book.transactions h.book.leaves f), tt)

-- a node goes down, and starts
falls_down : (rs : List Record) (b : Book) → IsUp rs b → IsDown rs
falls_down rs b h = record { sorts = h.sorts; journal = h.journal; undrawn = λ id i. h.undrawn id (not_drawn id i) }
  where
    not_drawn : (id : Numbers) → last_incarnation rs < id.incarnation → IsDrawn b id → ⊥
    not_drawn id i (inl j) = omega (arith, i, j, h.known)
    not_drawn id i (inr (e, j)) = omega (arith, i, e, h.known)

voted_sorted : (s : Numbers → Sort) (id : Numbers) (superior : Epr) (seats : List Seated) (committed : Bool) → s id ≡ OfTransaction → s (recovered_voted id superior seats committed).id ≡ OfTransaction
voted_sorted s id superior seats true h = h
voted_sorted s id superior seats false h = h

transactions_sorted : (s : Numbers → Sort) (base : List ℕ) (rs : List Record) → AllByRecursion (IsSortedRecord s) rs → AllByRecursion (λ t. s t.id ≡ OfTransaction) (transactions_of base rs)
transactions_sorted s base [] h = tt
transactions_sorted s base (records.Voted id superior seats ∷ rest) (h, k) = (voted_sorted s id superior seats (list_any (is_sub_committed id) rest) h, transactions_sorted s base rest k)
transactions_sorted s base (records.Decided id seats ∷ rest) (h, k) = (h, transactions_sorted s base rest k)
transactions_sorted s base (records.Start i ∷ rest) (h, k) = transactions_sorted s base rest k
transactions_sorted s base (records.LeafPrepared id c key value ∷ rest) (h, k) = transactions_sorted s base rest k
transactions_sorted s base (records.LeafCommitted id ∷ rest) (h, k) = transactions_sorted s base rest k
transactions_sorted s base (records.LeafAborted id ∷ rest) (h, k) = transactions_sorted s base rest k
transactions_sorted s base (records.SubCommitted id ∷ rest) (h, k) = transactions_sorted s base rest k
transactions_sorted s base (records.Ended id ∷ rest) (h, k) = transactions_sorted s base rest k
transactions_sorted s base (records.Done id ∷ rest) (h, k) = transactions_sorted s base rest k

leaves_sorted : (s : Numbers → Sort) (rs : List Record) → AllByRecursion (IsSortedRecord s) rs → AllByRecursion (λ l. s l.id ≡ OfLeaf) (leaves_of rs)
leaves_sorted s [] h = tt
leaves_sorted s (records.LeafPrepared id c key value ∷ rest) (h, k) = (h, leaves_sorted s rest k)
leaves_sorted s (records.Voted id superior seats ∷ rest) (h, k) = leaves_sorted s rest k
leaves_sorted s (records.Decided id seats ∷ rest) (h, k) = leaves_sorted s rest k
leaves_sorted s (records.Start i ∷ rest) (h, k) = leaves_sorted s rest k
leaves_sorted s (records.LeafCommitted id ∷ rest) (h, k) = leaves_sorted s rest k
leaves_sorted s (records.LeafAborted id ∷ rest) (h, k) = leaves_sorted s rest k
leaves_sorted s (records.SubCommitted id ∷ rest) (h, k) = leaves_sorted s rest k
leaves_sorted s (records.Ended id ∷ rest) (h, k) = leaves_sorted s rest k
leaves_sorted s (records.Done id ∷ rest) (h, k) = leaves_sorted s rest k

rises_up : (base : List ℕ) (rs : List Record) → IsDown rs → IsUp (restarted rs) (recover base (restarted rs))
rises_up base rs h = record {
  sorts = h.sorts;
  journal = journal;
  book = record {
    transactions = all_in_order (λ t. h.sorts t.id ≡ OfTransaction) transaction_id (transactions_of base (live (restarted rs)))
        (transactions_sorted h.sorts base (live (restarted rs)) alive);
    leaves = all_in_order (λ l. h.sorts l.id ≡ OfLeaf) leaf_id (leaves_of (live (restarted rs))) (leaves_sorted h.sorts (live (restarted rs)) alive);
    activities = tt;
    roots = tt;
  };
  undrawn = λ id f. h.undrawn id (behind id f (nat_lt (last_incarnation rs) id.incarnation) refl);
  known = omega arith;
}
  where
    journal : AllByRecursion (IsSortedRecord h.sorts) (restarted rs)
    journal = all_join (IsSortedRecord h.sorts) rs (records.Start (last_incarnation rs + 1) ∷ []) h.journal (tt, tt)

    alive : AllByRecursion (IsSortedRecord h.sorts) (live (restarted rs))
    alive = all_live (IsSortedRecord h.sorts) (restarted rs) (λ id superior seats i. i) journal

    earlier : (id : Numbers) → id.incarnation ≤ last_incarnation rs → IsDrawn (recover base (restarted rs)) id
    earlier id i = inl (omega (arith, (incarnations_rise rs).0, i))

    behind : (id : Numbers) → (IsDrawn (recover base (restarted rs)) id → ⊥) → (b : Bool) → nat_lt (last_incarnation rs) id.incarnation ≡ b → last_incarnation rs < id.incarnation
    behind id f true e = ltb-true (last_incarnation rs) id.incarnation e
    behind id f false e = absurd (f (earlier id (ltb-false (last_incarnation rs) id.incarnation e)))

sorted_law : NodeLaw
sorted_law = record {
  Good = IsKnown;
  opens = record { sorts = λ id. Unmade; journal = tt; undrawn = λ id i. refl };
  steps = steps_up;
  falls = falls_down;
  rises = λ base rs small h. rises_up base rs h;
}

node_sorted : (hosts : Hosts) (w : World) → Reached hosts w → (n : ℕ) (x : Node) → nth n w.nodes ≡ Some x → IsKnown x.journal x.book
unfolding sorted_law
node_sorted hosts w reached n x found = nodes_hold sorted_law hosts w reached n x found

-- ids that differ
behind_none : (id : Numbers) (rest : List Numbers) → AllByRecursion (λ i. is_before id i ≡ true) rest → IsIn id rest → ⊥
behind_none id [] h i = i
behind_none id (j ∷ rest) (h, k) (inl e) = true≢false (sym (self_id id) ∙ ap (is_id id) e ∙ other_id id j h)
behind_none id (j ∷ rest) (h, k) (inr i) = behind_none id rest k i

rising_apart : (ids : List Numbers) → AreRising ids → AreApart ids
rising_apart [] h = tt
rising_apart (id ∷ rest) (h, k) = (behind_none id rest h, rising_apart rest k)

apart_join : (xs ys : List Numbers) → AreApart xs → AreApart ys → ((id : Numbers) → IsIn id xs → IsIn id ys → ⊥) → AreApart (xs ++ ys)
apart_join [] ys h k f = k
apart_join (x ∷ xs) ys (h, i) k f = (not_there xs (h) (f x (inl refl)), apart_join xs ys i k (λ id j m. f id (inr j) m))
  where
    not_there : (zs : List Numbers) → (IsIn x zs → ⊥) → (IsIn x ys → ⊥) → IsIn x (zs ++ ys) → ⊥
    not_there [] g l j = l j
    not_there (z ∷ zs) g l (inl e) = g (inl e)
    not_there (z ∷ zs) g l (inr j) = not_there zs (λ m. g (inr m)) l j

of_sort : {A : Type 0} (s : Numbers → Sort) (key : A → Numbers) (K : Sort) (xs : List A) → AllByRecursion (λ x. s (key x) ≡ K) xs → (id : Numbers) → IsIn id (map key xs) → s id ≡ K
of_sort s key K [] h id i = absurd i
of_sort s key K (x ∷ xs) (h, k) id (inl e) = ap s e ∙ h
of_sort s key K (x ∷ xs) (h, k) id (inr i) = of_sort s key K xs k id i

either_of : (id : Numbers) (xs ys : List Numbers) (P : Type 0) → (IsIn id xs → P) → (IsIn id ys → P) → IsIn id (xs ++ ys) → P
either_of id [] ys P f g i = g i
either_of id (x ∷ xs) ys P f g (inl e) = f (inl e)
either_of id (x ∷ xs) ys P f g (inr i) = either_of id xs ys P (λ j. f (inr j)) g i

book_apart : (s : Numbers → Sort) (b : Book) → IsSorted s b → IsInOrder b → AreApart (ids_of b)
book_apart s b h o =
    apart_join (map transaction_id b.transactions) (map leaf_id b.leaves ++ map activity_id b.activities) (rising_apart (map transaction_id b.transactions) o.rising.transactions)
    (apart_join (map leaf_id b.leaves) (map activity_id b.activities) (rising_apart (map leaf_id b.leaves) o.rising.leaves) (rising_apart (map activity_id b.activities) o.rising.activities)
    (λ id i j. leaf_activity (s id) (of_sort s leaf_id OfLeaf b.leaves h.leaves id i) (of_sort s activity_id OfActivity b.activities h.activities id j)))
    (λ id i j. either_of id (map leaf_id b.leaves) (map activity_id b.activities) ⊥
    (λ k. transaction_leaf (s id) (of_sort s transaction_id OfTransaction b.transactions h.transactions id i) (of_sort s leaf_id OfLeaf b.leaves h.leaves id k))
    (λ k. transaction_activity (s id) (of_sort s transaction_id OfTransaction b.transactions h.transactions id i) (of_sort s activity_id OfActivity b.activities h.activities id k)) j)
  where
    leaf_activity : (S : Sort) → S ≡ OfLeaf → S ≡ OfActivity → ⊥
    leaf_activity S e f = cc

    transaction_leaf : (S : Sort) → S ≡ OfTransaction → S ≡ OfLeaf → ⊥
    transaction_leaf S e f = cc

    transaction_activity : (S : Sort) → S ≡ OfTransaction → S ≡ OfActivity → ⊥
    transaction_activity S e f = cc

pub holds_no_id_twice : HoldsNoIdTwice
holds_no_id_twice hosts n es x b found up =
    let h : IsUp x.journal b = subst (IsKnown x.journal) up (node_sorted hosts (run_of hosts es) (run_reached hosts es) n x found) in
    book_apart h.sorts b h.book (subst (IfThere IsInOrder) up (in_order hosts (run_of hosts es) (run_reached hosts es) n x found))
