-- A step leaves no leaf with the id of a transaction.
use Rattle.std.specs.Prelude.{ℕ, List, [], ◌∷◌, ◌++◌, ◌≡◌, ◌⊎◌, Option, Some, None, Bool, true, false, if◌then◌else◌, length, map, refl}
use Rattle.std.specs.List.{AllByRecursion}
use Rattle.std.proofs.Common.{inl, inr, sym, subst, ap, ◌∙◌}
use Rattle.at_base.specs.Numbers.{Numbers}
use Rattle.at_base.specs.declared.event.Event.{Event}
use Rattle.at_base.specs.declared.event.Moment.{Moment}
use Rattle.at_base.specs.declared.record.Record.{Record}
use Rattle.at_model.specs.Book.{Book, Leaf, Transaction, is_id, leaf_id, put_by, transaction_id}
use Rattle.at_model.specs.Moves.{Change}
use Rattle.at_model.specs.Step.{Outcome, moment_of}
use Rattle.model_laws.specs.Agreement.{IsIn}
use Rattle.model_laws.specs.Laws.{HasId, HasLeafId, IsDrawn, MakesUnderTheNextId}
use Rattle.model_laws.specs.Order.{IsInOrder}
use Rattle.agreement.specs.Deeds.{IsSameIfLeft}
use Rattle.agreement.specs.LeafDeeds.{LeafDeed, LeafIdles}
use Rattle.agreement.specs.LeafDeeds.LeafDeed.{idles, aborts, prepares, leaves as leaves_early, dropped, commits, rolls_back}
use Rattle.agreement.specs.LeafDeeds.LeafIdles.{rests, registered as has_registered, registers_again, votes_again}
use Rattle.enlistments.specs.Moves.{Moved}
use Rattle.enlistments.specs.Moves.Moved.{transaction_did, leaf_did, activity_did, registered, transaction_made as made_transaction, leaf_made as made_leaf, activity_made as made_activity, answered, rested}
use Rattle.node_at.specs.Promises.{AreApart}
use Rattle.node_at.proofs.IdFacts.{IfThere, same_id}

-- the ids of a list of which one item is given anew
put_in : {A : Type 0} (key : A → Numbers) (id : Numbers) (new : Option A) (xs : List A) (i : Numbers) → IfThere (λ x. key x ≡ id) new → IsIn i (map key (put_by key id new xs)) → IsIn i (map key xs)
put_in {A} key id new [] i n h = by_new new h where
  by_new : (o : Option A) → IsIn i (map key (put_by key id o [])) → IsIn i (map key [])
  by_new None k = k
  by_new (Some y) k = k
put_in {A} key id new (x ∷ xs) i n h = by_new new n (is_id (key x) id) refl (λ o m. put_in key id o xs i m) h where
  further : IsIn i (map key xs) → IsIn i (map key (x ∷ xs))
  further k = inr k

  by_new : (o : Option A) → IfThere (λ y. key y ≡ id) o → (b : Bool) → is_id (key x) id ≡ b
      → ((o : Option A) → IfThere (λ y. key y ≡ id) o → IsIn i (map key (put_by key id o xs)) → IsIn i (map key xs)) → IsIn i (map key (put_by key id o (x ∷ xs))) → IsIn i (map key (x ∷ xs))
  by_new None m true e g k = further (subst (λ b. IsIn i (map key (if b then xs else x ∷ put_by key id None xs))) e k)
  by_new None m false e g k = either (subst (λ b. IsIn i (map key (if b then xs else x ∷ put_by key id None xs))) e k) where
    either : (i ≡ key x) ⊎ IsIn i (map key (put_by key id None xs)) → IsIn i (map key (x ∷ xs))
    either (inl f) = inl f
    either (inr k) = inr (g None tt k)
  by_new (Some y) m true e g k = either (subst (λ b. IsIn i (map key (if b then y ∷ xs else x ∷ put_by key id (Some y) xs))) e k) where
    either : (i ≡ key y) ⊎ IsIn i (map key xs) → IsIn i (map key (x ∷ xs))
    either (inl f) = inl (f ∙ m ∙ sym (same_id (key x) id e))
    either (inr k) = inr k
  by_new (Some y) m false e g k = either (subst (λ b. IsIn i (map key (if b then y ∷ xs else x ∷ put_by key id (Some y) xs))) e k) where
    either : (i ≡ key x) ⊎ IsIn i (map key (put_by key id (Some y) xs)) → IsIn i (map key (x ∷ xs))
    either (inl f) = inl f
    either (inr k) = inr (g (Some y) m k)

join_in : {A : Type 0} (key : A → Numbers) (xs : List A) (y : A) (i : Numbers) → IsIn i (map key (xs ++ y ∷ [])) → IsIn i (map key xs) ⊎ (i ≡ key y)
join_in key [] y i (inl e) = inr e
join_in key [] y i (inr h) = absurd h
join_in key (x ∷ xs) y i (inl e) = inl (inl e)
join_in key (x ∷ xs) y i (inr h) = further (join_in key xs y i h) where
  further : IsIn i (map key xs) ⊎ (i ≡ key y) → IsIn i (map key (x ∷ xs)) ⊎ (i ≡ key y)
  further (inl k) = inl (inr k)
  further (inr e) = inr e

-- each of them was drawn
drawn_in : {A : Type 0} (P : Numbers → Type 0) (key : A → Numbers) (xs : List A) (i : Numbers) → AllByRecursion (λ x. P (key x)) xs → IsIn i (map key xs) → P i
drawn_in P key [] i h k = absurd k
drawn_in P key (x ∷ xs) i (h, j) (inl e) = subst P (sym e) h
drawn_in P key (x ∷ xs) i (h, j) (inr k) = drawn_in P key xs i j k

-- what moves keeps its id
transaction_same : (old : Transaction) (o : Option Transaction) → IsSameIfLeft old o → IfThere (λ x. x.id ≡ old.id) o
transaction_same old None h = tt
transaction_same old (Some x) h = h.id

leaf_left : (m : Moment) (e : Event) (l left : Leaf) (c : Change Leaf) → LeafIdles m e l left c.posts → left.id ≡ l.id
leaf_left m e l left c (rests is p) = ap leaf_id is
leaf_left m e l left c (has_registered to r came f s q is p) = ap leaf_id is
leaf_left m e l left c (registers_again r came s q is p) = ap leaf_id is
leaf_left m e l left c (votes_again to came s k is p) = ap leaf_id is

leaf_same : (m : Moment) (e : Event) (l : Leaf) (entry : Option Record) (c : Change Leaf) → LeafDeed m e l entry c → IfThere (λ x. x.id ≡ l.id) c.item
leaf_same m e l entry c (idles left why f item effects) = subst (IfThere (λ x. x.id ≡ l.id)) (sym item) (leaf_left m e l left c why)
leaf_same m e l entry c (aborts s why f item effects) = subst (IfThere (λ x. x.id ≡ l.id)) (sym item) tt
leaf_same m e l entry c (prepares to came s v k f item effects p) = subst (IfThere (λ x. x.id ≡ l.id)) (sym item) refl
leaf_same m e l entry c (leaves_early to came s v k f item effects p) = subst (IfThere (λ x. x.id ≡ l.id)) (sym item) tt
leaf_same m e l entry c (dropped came k f item effects p) = subst (IfThere (λ x. x.id ≡ l.id)) (sym item) tt
leaf_same m e l entry c (commits to came s k f item effects p) = subst (IfThere (λ x. x.id ≡ l.id)) (sym item) tt
leaf_same m e l entry c (rolls_back to came s k f item effects p) = subst (IfThere (λ x. x.id ≡ l.id)) (sym item) tt

module _ (makes : MakesUnderTheNextId) (b : Book) (e : Event) (now : ℕ) (entry : Option Record) (o : Outcome) (order : IsInOrder b) (apart : AreApart b) where
  as_before : o.book.transactions ≡ b.transactions → o.book.leaves ≡ b.leaves → AreApart o.book
  as_before f g i j k = apart i (subst (λ z. IsIn i (map transaction_id z)) f j) (subst (λ z. IsIn i (map leaf_id z)) g k)

  rested_transactions : (z : Book) → (o.book ≡ b) ⊎ (o.book ≡ z) → z.transactions ≡ b.transactions → o.book.transactions ≡ b.transactions
  rested_transactions z (inl is) f = ap (λ (y : Book). y.transactions) is
  rested_transactions z (inr is) f = ap (λ (y : Book). y.transactions) is ∙ f

  rested_leaves : (z : Book) → (o.book ≡ b) ⊎ (o.book ≡ z) → z.leaves ≡ b.leaves → o.book.leaves ≡ b.leaves
  rested_leaves z (inl is) f = ap (λ (y : Book). y.leaves) is
  rested_leaves z (inr is) f = ap (λ (y : Book). y.leaves) is ∙ f

  pub moved_apart : Moved b e now entry o → AreApart o.book
  moved_apart (transaction_did d) i j k =
      apart i
      (put_in transaction_id d.old.id d.change.item b.transactions i (transaction_same d.old d.change.item d.deed.same) (subst (λ z. IsIn i (map transaction_id z)) d.items.transactions_are j))
      (subst (λ z. IsIn i (map leaf_id z)) d.items.leaves_are k)
  moved_apart (leaf_did d) i j k =
      apart i (subst (λ z. IsIn i (map transaction_id z)) d.items.transactions_are j)
      (put_in leaf_id d.old.id d.change.item b.leaves i (leaf_same (moment_of b now) e d.old entry d.change d.deed) (subst (λ z. IsIn i (map leaf_id z)) d.items.leaves_are k))
  moved_apart (activity_did d) i j k = as_before d.items.transactions_are d.items.leaves_are i j k
  moved_apart (registered d) i j k =
      apart i
      (put_in transaction_id d.gives.transaction.id (Some d.gives.transaction) b.transactions i refl (subst (λ (z : Outcome). IsIn i (map transaction_id z.book.transactions)) d.is j))
      (subst (λ (z : Outcome). IsIn i (map leaf_id z.book.leaves)) d.is k)
  moved_apart (made_transaction d) i j k =
      new (join_in transaction_id b.transactions d.new i (subst (λ (z : Outcome). IsIn i (map transaction_id z.book.transactions)) d.is j)) (subst (λ (z : Outcome). IsIn i (map leaf_id z.book.leaves)) d.is k)
    where
      own : d.new.id ≡ d.id
      own = subst (HasId d.id) d.makes (makes.transaction (moment_of b now) (length b.transactions) d.arrived d.request d.id)

      new : IsIn i (map transaction_id b.transactions) ⊎ (i ≡ d.new.id) → IsIn i (map leaf_id b.leaves) → ⊥
      new (inl h) there = apart i h there
      new (inr same) there = makes.next b d.id d.next (subst (IsDrawn b) (same ∙ own) (drawn_in (IsDrawn b) leaf_id b.leaves i order.drawn.leaves there))
  moved_apart (made_leaf d) i j k =
      new (subst (λ (z : Outcome). IsIn i (map transaction_id z.book.transactions)) d.is j) (join_in leaf_id b.leaves d.new i (subst (λ (z : Outcome). IsIn i (map leaf_id z.book.leaves)) d.is k))
    where
      own : d.new.id ≡ d.id
      own = subst (HasLeafId d.id) d.makes (makes.leaf (moment_of b now) (length b.leaves) d.arrived d.request d.id)

      new : IsIn i (map transaction_id b.transactions) → IsIn i (map leaf_id b.leaves) ⊎ (i ≡ d.new.id) → ⊥
      new there (inl h) = apart i there h
      new there (inr same) = makes.next b d.id d.next (subst (IsDrawn b) (same ∙ own) (drawn_in (IsDrawn b) transaction_id b.transactions i order.drawn.transactions there))
  moved_apart (made_activity d) i j k = as_before (ap (λ (z : Outcome). z.book.transactions) d.is) (ap (λ (z : Outcome). z.book.leaves) d.is) i j k
  moved_apart (answered d) i j k = as_before (ap (λ (z : Outcome). z.book.transactions) d.is) (ap (λ (z : Outcome). z.book.leaves) d.is) i j k
  moved_apart (rested d) i j k = as_before (rested_transactions _ d.book refl) (rested_leaves _ d.book refl) i j k
