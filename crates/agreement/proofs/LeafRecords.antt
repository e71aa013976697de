-- What a step leaves of the records behind leaves.
use Rattle.std.specs.Prelude.{ℕ, List, [], ◌∷◌, ◌++◌, Option, Some, None, Bool, true, false, ◌||◌, if◌then◌else◌, nat_lt, map, ◌≡◌, ◌⊎◌, refl}
use Rattle.std.specs.List.{list_any, AllByRecursion}
use Rattle.std.proofs.Common.{inl, inr, sym, subst, ap, ◌∙◌}
use Rattle.std.proofs.lemmas.List.{append-nil}
use Rattle.at_base.specs.declared.limits.TheConstants.{MOST_ITEMS}
use Rattle.at_base.specs.Numbers.{Numbers}
use Rattle.at_base.specs.declared.epr.Epr.{Epr}
use Rattle.at_base.specs.declared.epr.Reply.{Reply}
use Rattle.at_base.specs.declared.epr.Reply.TheVariants as replies
use Rattle.at_base.specs.declared.notice.Kind.{Kind}
use Rattle.at_base.specs.declared.notice.Kind.TheVariants as kinds
use Rattle.at_base.specs.declared.message.Work.{Work}
use Rattle.at_base.specs.declared.record.Record.{Record}
use Rattle.at_base.specs.declared.record.Record.TheVariants as records
use Rattle.at_base.specs.declared.event.Arrived.{Arrived}
use Rattle.at_base.specs.declared.event.Event.{Event}
use Rattle.at_base.specs.declared.event.Moment.{Moment}
use Rattle.at_base.specs.declared.outs.Out.{Out}
use Rattle.at_tables.specs.declared.cells.State.{State}
use Rattle.at_tables.specs.declared.cells.State.TheVariants as states
use Rattle.at_model.specs.Book.{Book, Leaf, Transaction, is_id, leaf_id, next_id, put_by, transaction_id}
use Rattle.at_model.specs.Moves.{Change}
use Rattle.at_model.specs.Leaves.{on_work, refuse_work, work_for}
use Rattle.at_model.specs.Recovery.{ends_leaf, is_before, is_leaf_ended, is_promise, live}
use Rattle.at_model.specs.Step.{Outcome, Plan, at_time, branch, plain, put_leaf, step, transaction_at}
use Rattle.model_laws.specs.Agreement.{IsIn}
use Rattle.model_laws.specs.DrawnIds.{IsDrawnRecord, with_entry}
use Rattle.model_laws.specs.Laws.{HasLeafId, IsDrawn}
use Rattle.model_laws.specs.Order.{AreRising, IsInOrder}
use Rattle.model_laws.proofs.DecisionLaws.{Both, in_branch, plain_both, either_of, IfThere, all_find, all_more}
use Rattle.model_laws.proofs.DrawnItems.{Leaves, as_before, one_transaction, one_leaf, one_activity, leaves}
use Rattle.model_laws.proofs.ItemIds.{IsOfTransaction, IsOfLeaf}
use Rattle.model_laws.proofs.NextIds.{makes_under_the_next_id}
use Rattle.model_laws.proofs.Order.{other_id, unmapped}
use Rattle.model_laws.proofs.RecoveryLaws.{none_append, or_false, same_id, self_id}
use Rattle.model_laws.proofs.SeatRegistrations.{in_back}
use Rattle.agreement.specs.LeafRecords.{IsBacked, LeafBacked}
use Rattle.agreement.specs.Branches.{Became, happened, knowing, recorded, undone}
use Rattle.agreement.specs.LeafDeeds.{for_durable, LeafIdles, rests, registered, registers_again, votes_again, LeafDeed, idles, aborts, prepares, leaves as gone, dropped, commits, rolls_back, LeafWaitsOn}
use Rattle.agreement.proofs.Journals.{both_ways, journals_live}

-- ids
other_than : (i id : Numbers) → (i ≡ id → ⊥) → is_id i id ≡ false
other_than i id f = by_case (is_id i id) refl
  where
    by_case : (b : Bool) → is_id i id ≡ b → b ≡ false
    by_case true e = absurd (f (same_id i id e))
    by_case false e = refl

or_no : (b : Bool) → b ≡ false → (b || false) ≡ false
or_no true e = absurd cc
or_no false e = refl

-- a record about another id
unfoldable pub AboutOther : Numbers → Record → Type 0
AboutOther id r = ends_leaf id r ≡ false

pub of_transaction : (id i : Numbers) (r : Record) → (i ≡ id → ⊥) → IsOfTransaction i r → AboutOther id r
unfolding AboutOther
of_transaction id i (records.Voted j s seats) f h = or_no (is_id j id) (other_than j id (λ e. f (sym h ∙ e)))
of_transaction id i (records.Decided j seats) f h = other_than j id (λ e. f (sym h ∙ e))
of_transaction id i (records.SubCommitted j) f h = refl
of_transaction id i (records.Ended j) f h = refl
of_transaction id i other f h = absurd h

of_leaf : (id i : Numbers) (r : Record) → (i ≡ id → ⊥) → IsOfLeaf i r → AboutOther id r
unfolding AboutOther
of_leaf id i (records.LeafPrepared j c key value) f h = or_no (is_id j id) (other_than j id (λ e. f (sym h ∙ e)))
of_leaf id i (records.LeafCommitted j) f h = or_no (is_id j id) (other_than j id (λ e. f (sym h ∙ e)))
of_leaf id i (records.LeafAborted j) f h = or_no (is_id j id) (other_than j id (λ e. f (sym h ∙ e)))
of_leaf id i other f h = absurd h

none_more : (id : Numbers) (rs : List Record) (r : Record) → AboutOther id r → list_any (is_promise id) rs ≡ false → list_any (is_promise id) (rs ++ r ∷ []) ≡ false
unfolding AboutOther
none_more id rs r e h = none_append (is_promise id) rs (r ∷ []) h (or_no (is_promise id r) (or_false (is_leaf_ended id r) (is_promise id r) e).1)

backed_more : (rs : List Record) (r : Record) (id : Numbers) (coordinator : Option Epr) (key value : List ℕ) (kind : Kind) (state : State) → AboutOther id r
    → IsBacked rs id coordinator key value kind state → IsBacked (rs ++ r ∷ []) id coordinator key value kind state
unfolding AboutOther
backed_more rs r id coordinator key value kinds.Durable states.PreparedSuccess e (to, c, h) = (to, c, journals_live.stays rs r (records.LeafPrepared id to key value) h e)
backed_more rs r id coordinator key value kind state e h = none_more id rs r e h

-- the record of a leaf's deed is about it
abbrev EntryOf : Numbers → Option Record → Type 0
EntryOf id None = Unit {0}
EntryOf id (Some r) = IsOfLeaf id r

entry_durable : (id : Numbers) (kind : Kind) (r : Record) → IsOfLeaf id r → EntryOf id (for_durable kind r)
entry_durable id kinds.Durable r h = h
entry_durable id kinds.Volatile r h = tt

deed_entry : (m : Moment) (e : Event) (l : Leaf) (entry : Option Record) (c : Change Leaf) → LeafDeed m e l entry c → EntryOf l.id entry
deed_entry m e l entry c (idles left why f item effects) = subst (EntryOf l.id) (sym f) tt
deed_entry m e l entry c (aborts s why f item effects) = subst (EntryOf l.id) (sym f) tt
deed_entry m e l entry c (prepares to came s v k f item effects p) = subst (EntryOf l.id) (sym f) (entry_durable l.id l.kind (records.LeafPrepared l.id to l.key l.value) refl)
deed_entry m e l entry c (gone to came s v k f item effects p) = subst (EntryOf l.id) (sym f) tt
deed_entry m e l entry c (dropped came k f item effects p) = subst (EntryOf l.id) (sym f) tt
deed_entry m e l entry c (commits to came s k f item effects p) = subst (EntryOf l.id) (sym f) (entry_durable l.id l.kind (records.LeafCommitted l.id) refl)
deed_entry m e l entry c (rolls_back to came s k f item effects p) = subst (EntryOf l.id) (sym f) (entry_durable l.id l.kind (records.LeafAborted l.id) refl)

others_backed : (rs : List Record) (entry : Option Record) (id : Numbers) (x : Leaf) → EntryOf id entry → (id ≡ x.id → ⊥) → LeafBacked rs x → LeafBacked (rs ++ recorded entry) x
others_backed rs None id x e f h = subst (λ ys. LeafBacked ys x) (sym (append-nil rs)) h
others_backed rs (Some r) id x e f h = backed_more rs r x.id x.coordinator x.key x.value x.kind x.state (of_leaf x.id id r f e) h

-- what is left of a leaf that moves
unpromised : (rs : List Record) (id : Numbers) (coordinator : Option Epr) (key value : List ℕ) (kind : Kind) (state : State) → (state ≡ states.Registering) ⊎ (state ≡ states.Active)
    → IsBacked rs id coordinator key value kind state → list_any (is_promise id) rs ≡ false
unpromised rs id coordinator key value kind state (inl e) h = registering kind (subst (IsBacked rs id coordinator key value kind) e h)
  where
    registering : (kind : Kind) → IsBacked rs id coordinator key value kind states.Registering → list_any (is_promise id) rs ≡ false
    registering kinds.Durable h = h
    registering kinds.Volatile h = h
unpromised rs id coordinator key value kind state (inr e) h = active kind (subst (IsBacked rs id coordinator key value kind) e h)
  where
    active : (kind : Kind) → IsBacked rs id coordinator key value kind states.Active → list_any (is_promise id) rs ≡ false
    active kinds.Durable h = h
    active kinds.Volatile h = h

backed_active : (rs : List Record) (id : Numbers) (coordinator : Option Epr) (key value : List ℕ) (kind : Kind) → list_any (is_promise id) rs ≡ false
    → IsBacked rs id coordinator key value kind states.Active
backed_active rs id coordinator key value kinds.Durable h = h
backed_active rs id coordinator key value kinds.Volatile h = h

backed_registering : (rs : List Record) (id : Numbers) (coordinator : Option Epr) (key value : List ℕ) (kind : Kind) → list_any (is_promise id) rs ≡ false
    → IsBacked rs id coordinator key value kind states.Registering
backed_registering rs id coordinator key value kinds.Durable h = h
backed_registering rs id coordinator key value kinds.Volatile h = h

backed_prepared : (rs : List Record) (id : Numbers) (coordinator : Option Epr) (to : Epr) (key value : List ℕ) (kind : Kind) → list_any (is_promise id) rs ≡ false → coordinator ≡ Some to
    → IsBacked (rs ++ recorded (for_durable kind (records.LeafPrepared id to key value))) id coordinator key value kind states.PreparedSuccess
backed_prepared rs id coordinator to key value kinds.Volatile h k = subst (λ ys. list_any (is_promise id) ys ≡ false) (sym (append-nil rs)) h
backed_prepared rs id coordinator to key value kinds.Durable h k = (
  to,
  k,
  subst (IsIn (records.LeafPrepared id to key value)) (sym (journals_live.promised rs id (records.LeafPrepared id to key value) (yes (is_id id id) (self_id id)) h))
      (in_back (records.LeafPrepared id to key value) (live rs) (records.LeafPrepared id to key value ∷ []) (inl refl)),
)
  where
    yes : (b : Bool) → b ≡ true → (b || false) ≡ true
    yes true e = refl
    yes false e = absurd cc

idle_backed : (rs : List Record) (m : Moment) (e : Event) (l left : Leaf) (c : Change Leaf) → LeafBacked rs l → LeafIdles m e l left c.posts → LeafBacked rs left
idle_backed rs m e l left c h (rests is p) = subst (LeafBacked rs) (sym is) h
idle_backed rs m e l left c h (registered to r came f s q is p) =
    subst (LeafBacked rs) (sym is) (backed_active rs l.id (Some to) l.key l.value l.kind (unpromised rs l.id l.coordinator l.key l.value l.kind l.state (inl s) h))
idle_backed rs m e l left c h (registers_again r came s q is p) = subst (LeafBacked rs) (sym is) h
idle_backed rs m e l left c h (votes_again to came s k is p) = subst (LeafBacked rs) (sym is) h

none_left : (ys : List Record) (o : Option Leaf) → o ≡ None → IfThere (LeafBacked ys) o
none_left ys o e = subst (IfThere (LeafBacked ys)) (sym e) tt

deed_backed : (rs : List Record) (m : Moment) (e : Event) (l : Leaf) (entry : Option Record) (c : Change Leaf) → LeafBacked rs l → LeafDeed m e l entry c
    → IfThere (LeafBacked (rs ++ recorded entry)) c.item
deed_backed rs m e l entry c h (idles left why f item effects) =
    subst (IfThere (LeafBacked (rs ++ recorded entry))) (sym item)
    (subst (λ o. LeafBacked (rs ++ recorded o) left) (sym f) (subst (λ ys. LeafBacked ys left) (sym (append-nil rs)) (idle_backed rs m e l left c h why)))
deed_backed rs m e l entry c h (aborts s why f item effects) = none_left (rs ++ recorded entry) c.item item
deed_backed rs m e l entry c h (prepares to came s v k f item effects p) =
    subst (IfThere (LeafBacked (rs ++ recorded entry))) (sym item)
    (subst (λ o. IsBacked (rs ++ recorded o) l.id l.coordinator l.key l.value l.kind states.PreparedSuccess) (sym f)
    (backed_prepared rs l.id l.coordinator to l.key l.value l.kind (unpromised rs l.id l.coordinator l.key l.value l.kind l.state (inr s) h) k))
deed_backed rs m e l entry c h (gone to came s v k f item effects p) = none_left (rs ++ recorded entry) c.item item
deed_backed rs m e l entry c h (dropped came k f item effects p) = none_left (rs ++ recorded entry) c.item item
deed_backed rs m e l entry c h (commits to came s k f item effects p) = none_left (rs ++ recorded entry) c.item item
deed_backed rs m e l entry c h (rolls_back to came s k f item effects p) = none_left (rs ++ recorded entry) c.item item

-- lists of leaves
all_with : {A : Type 0} (P Q R : A → Type 0) (xs : List A) → ((x : A) → P x → Q x → R x) → AllByRecursion P xs → AllByRecursion Q xs → AllByRecursion R xs
all_with P Q R [] f h k = tt
all_with P Q R (x ∷ xs) f (h, i) (k, j) = (f x h k, all_with P Q R xs f i j)

pub is_other : (a b : Numbers) → is_before a b ≡ true → a ≡ b → ⊥
is_other a b h e = both_ways (is_id a b) (subst (λ i. is_id a i ≡ true) e (self_id a)) (other_id a b h)

put_all : (P Q : Leaf → Type 0) (id : Numbers) (new : Option Leaf) (xs : List Leaf) → AreRising (map leaf_id xs) → IfThere Q new → ((x : Leaf) → P x → (id ≡ x.id → ⊥) → Q x)
    → AllByRecursion P xs → AllByRecursion Q (put_by leaf_id id new xs)
put_all P Q id new [] rise n f h = by_new new
  where
    by_new : (o : Option Leaf) → AllByRecursion Q (put_by leaf_id id o [])
    by_new None = tt
    by_new (Some y) = tt
put_all P Q id new (x ∷ xs) (before, rise) n f (h, k) = by_new new n (is_id x.id id) refl (λ o i. put_all P Q id o xs rise i f k)
  where
    behind : x.id ≡ id → AllByRecursion Q xs
    behind same =
        all_with P (λ y. is_before x.id y.id ≡ true) Q xs (λ y i j. f y i (λ e. is_other x.id y.id j (same ∙ e))) k (unmapped (λ i. is_before x.id i ≡ true) leaf_id xs before)

    apart : is_id x.id id ≡ false → Q x
    apart e = f x h (λ same. both_ways (is_id x.id id) (subst (λ i. is_id x.id i ≡ true) (sym same) (self_id x.id)) e)

    by_new : (o : Option Leaf) → IfThere Q o → (b : Bool) → is_id x.id id ≡ b → ((o : Option Leaf) → IfThere Q o → AllByRecursion Q (put_by leaf_id id o xs))
        → AllByRecursion Q (put_by leaf_id id o (x ∷ xs))
    by_new None n true e g = subst (λ b. AllByRecursion Q (if b then xs else x ∷ put_by leaf_id id None xs)) (sym e) (behind (same_id x.id id e))
    by_new None n false e g = subst (λ b. AllByRecursion Q (if b then xs else x ∷ put_by leaf_id id None xs)) (sym e) (apart e, g None tt)
    by_new (Some y) n true e g = subst (λ b. AllByRecursion Q (if b then y ∷ xs else x ∷ put_by leaf_id id (Some y) xs)) (sym e) (n, behind (same_id x.id id e))
    by_new (Some y) n false e g = subst (λ b. AllByRecursion Q (if b then y ∷ xs else x ∷ put_by leaf_id id (Some y) xs)) (sym e) (apart e, g (Some y) n)

-- ids of transactions and of leaves differ
abbrev pub AreApart : Book → Type 0
AreApart b = (i : Numbers) → IsIn i (map transaction_id b.transactions) → IsIn i (map leaf_id b.leaves) → ⊥

own_ids : {A : Type 0} (key : A → Numbers) (ids : List Numbers) (xs : List A) → ((i : Numbers) → IsIn i (map key xs) → IsIn i ids) → AllByRecursion (λ x. IsIn (key x) ids) xs
own_ids key ids [] f = tt
own_ids key ids (x ∷ xs) f = (f (key x) (inl refl), own_ids key ids xs (λ i h. f i (inr h)))

every : {A : Type 0} (xs : List A) → AllByRecursion (λ x. Unit {0}) xs
every [] = tt
every (x ∷ xs) = (tt, every xs)

pub in_ids : {A : Type 0} (P : Numbers → Type 0) (key : A → Numbers) (xs : List A) → AllByRecursion (λ x. P (key x)) xs → (i : Numbers) → IsIn i (map key xs) → P i
in_ids P key [] h i k = absurd k
in_ids P key (x ∷ xs) (h, j) i (inl e) = subst P (sym e) h
in_ids P key (x ∷ xs) (h, j) i (inr k) = in_ids P key xs j i k

join_ids : {A : Type 0} (key : A → Numbers) (xs : List A) (y : A) (i : Numbers) → IsIn i (map key (xs ++ y ∷ [])) → IsIn i (map key xs) ⊎ (i ≡ key y)
join_ids key [] y i (inl e) = inr e
join_ids key [] y i (inr h) = absurd h
join_ids key (x ∷ xs) y i (inl e) = inl (inl e)
join_ids key (x ∷ xs) y i (inr h) = further (join_ids key xs y i h)
  where
    further : IsIn i (map key xs) ⊎ (i ≡ key y) → IsIn i (map key (x ∷ xs)) ⊎ (i ≡ key y)
    further (inl k) = inl (inr k)
    further (inr e) = inr e

abbrev OfTransactions : Book → Numbers → Type 0
OfTransactions b i = IsIn i (map transaction_id b.transactions)

abbrev OfLeaves : Book → Numbers → Type 0
OfLeaves b i = IsIn i (map leaf_id b.leaves)

left_apart : (b : Book) (now : ℕ) (o : Outcome) → IsInOrder b → AreApart b → Leaves (OfTransactions b) (OfLeaves b) (λ i. Unit {0}) (λ i. Unit {0}) b now o → AreApart o.book
left_apart b now o order apart (as_before h) i j k =
    apart i (in_ids (OfTransactions b) transaction_id o.book.transactions h.transactions i j) (in_ids (OfLeaves b) leaf_id o.book.leaves h.leaves i k)
left_apart b now o order apart (one_transaction id t next same is) i j k =
    sorted (join_ids transaction_id b.transactions t i (subst (λ (x : Book). IsIn i (map transaction_id x.transactions)) is j)) (subst (λ (x : Book). IsIn i (map leaf_id x.leaves)) is k)
  where
    sorted : IsIn i (map transaction_id b.transactions) ⊎ (i ≡ t.id) → IsIn i (map leaf_id b.leaves) → ⊥
    sorted (inl h) k = apart i h k
    sorted (inr e) k = makes_under_the_next_id.next b id next (subst (IsDrawn b) (e ∙ same) (in_ids (IsDrawn b) leaf_id b.leaves order.drawn.leaves i k))
left_apart b now o order apart (one_leaf id l next same is) i j k =
    sorted (subst (λ (x : Book). IsIn i (map transaction_id x.transactions)) is j) (join_ids leaf_id b.leaves l i (subst (λ (x : Book). IsIn i (map leaf_id x.leaves)) is k))
  where
    sorted : IsIn i (map transaction_id b.transactions) → IsIn i (map leaf_id b.leaves) ⊎ (i ≡ l.id) → ⊥
    sorted j (inl h) = apart i j h
    sorted j (inr e) = makes_under_the_next_id.next b id next (subst (IsDrawn b) (e ∙ same) (in_ids (IsDrawn b) transaction_id b.transactions order.drawn.transactions i j))
left_apart b now o order apart (one_activity id a next same root is) i j k =
    apart i (subst (λ (x : Book). IsIn i (map transaction_id x.transactions)) is j) (subst (λ (x : Book). IsIn i (map leaf_id x.leaves)) is k)

pub step_apart : (b : Book) (e : Event) (now : ℕ) (landed : Bool) → IsInOrder b → AreApart b → AreApart (step b e now landed).book
step_apart b e now landed order apart =
    left_apart b now (step b e now landed) order apart
    (leaves (OfTransactions b) (OfLeaves b) (λ i. Unit {0}) (λ i. Unit {0}) b e now landed
    (record {
      transactions = own_ids transaction_id (map transaction_id b.transactions) b.transactions (λ i h. h);
      leaves = own_ids leaf_id (map leaf_id b.leaves) b.leaves (λ i h. h);
      activities = every b.activities;
      roots = every b.activities;
    }))

-- a step that leaves the leaves as they are
kept_leaves : (b : Book) (rs : List Record) (o : Outcome) (entry : Option Record) (landed : Bool) → o.book.leaves ≡ b.leaves
    → ((r : Record) → entry ≡ Some r → AllByRecursion (λ l. AboutOther l.id r) b.leaves) → AllByRecursion (LeafBacked rs) b.leaves
    → AllByRecursion (LeafBacked (with_entry entry landed rs)) o.book.leaves
kept_leaves b rs o None landed same others h = subst (AllByRecursion (LeafBacked rs)) (sym same) h
kept_leaves b rs o (Some r) false same others h = subst (AllByRecursion (LeafBacked rs)) (sym same) h
kept_leaves b rs o (Some r) true same others h =
    subst (AllByRecursion (LeafBacked (rs ++ r ∷ []))) (sym same)
    (all_with (LeafBacked rs) (λ l. AboutOther l.id r) (LeafBacked (rs ++ r ∷ [])) b.leaves
    (λ l k e. backed_more rs r l.id l.coordinator l.key l.value l.kind l.state e k) h (others r refl))

unfoldable pub SameLeaves : Book → Outcome → Type 0
SameLeaves b o = o.book.leaves ≡ b.leaves

abbrev pub Backs : Book → List Record → Bool → Plan → Type 0
Backs b rs landed p = AllByRecursion (LeafBacked (with_entry p.entry landed rs)) (branch p landed).book.leaves

pub by_same : (b : Book) (rs : List Record) (landed : Bool) (p : Plan) → Both (SameLeaves b) p → ((r : Record) → p.entry ≡ Some r → AllByRecursion (λ l. AboutOther l.id r) b.leaves)
    → AllByRecursion (LeafBacked rs) b.leaves → Backs b rs landed p
unfolding SameLeaves
by_same b rs landed p same others h = kept_leaves b rs (branch p landed) p.entry landed (in_branch (SameLeaves b) p landed same) others h

pub no_record : (o : Option Record) (r : Record) (P : Type 0) → o ≡ None → o ≡ Some r → P
no_record o r P e f = absurd cc

pub plain_backs : (b : Book) (rs : List Record) (landed : Bool) (o : Outcome) → o.book.leaves ≡ b.leaves → AllByRecursion (LeafBacked rs) b.leaves → Backs b rs landed (plain o)
unfolding SameLeaves
plain_backs b rs landed o same h = by_same b rs landed (plain o) (plain_both (SameLeaves b) o same) (λ r e. no_record None r _ refl e) h

pub apart_from : (b : Book) (t : Transaction) (id : Numbers) → AreApart b → transaction_at b id ≡ Some t → AllByRecursion (λ l. t.id ≡ l.id → ⊥) b.leaves
apart_from b t id apart stands =
    let there : IsIn t.id (map transaction_id b.transactions) =
    all_find (λ x. IsIn x.id (map transaction_id b.transactions)) transaction_id id b.transactions t (own_ids transaction_id (map transaction_id b.transactions) b.transactions (λ i h. h)) stands in
    all_more (λ l. IsIn l.id (map leaf_id b.leaves)) (λ l. t.id ≡ l.id → ⊥) b.leaves
    (λ l h e. apart l.id (subst (λ i. IsIn i (map transaction_id b.transactions)) e there) h) (own_ids leaf_id (map leaf_id b.leaves) b.leaves (λ i h. h))

-- a step of a leaf
pub knowing_leaves : (entry : Option Record) (b : Book) → (knowing entry b).leaves ≡ b.leaves
knowing_leaves None b = refl
knowing_leaves (Some r) b = refl

pub became_backed : (b : Book) (rs : List Record) (now : ℕ) (m : Moment) (e : Event) (l : Leaf) (answer : List Out) (p : Plan) (landed : Bool)
    → Became (LeafDeed m e l) (LeafWaitsOn l) b (put_leaf l.id (at_time now b)) answer p landed → LeafBacked rs l → AreRising (map leaf_id b.leaves)
    → AllByRecursion (LeafBacked rs) b.leaves → Backs b rs landed p
became_backed b rs now m e l answer p landed (happened entry c deed journal book outs effects) own rise h =
    subst (λ ys. AllByRecursion (LeafBacked ys) (branch p landed).book.leaves) (sym (journal rs))
    (subst (AllByRecursion (LeafBacked (rs ++ recorded entry))) (sym (ap (λ (x : Book). x.leaves) book ∙ knowing_leaves entry (put_leaf l.id (at_time now b) c.item)))
    (put_all (LeafBacked rs) (LeafBacked (rs ++ recorded entry)) l.id c.item b.leaves rise (deed_backed rs m e l entry c own deed)
    (λ x k f. others_backed rs entry l.id x (deed_entry m e l entry c deed) f k) h))
became_backed b rs now m e l answer p landed (undone r u entry failed is) own rise h =
    subst (λ ys. AllByRecursion (LeafBacked ys) (branch p landed).book.leaves) (sym (λ i. with_entry (entry i) (failed i) rs))
    (subst (AllByRecursion (LeafBacked rs)) (sym (ap (λ (o : Outcome). o.book.leaves) is)) h)

-- a leaf that is made
none_drawn : (b : Book) (id : Numbers) (rs : List Record) → (IsDrawn b id → ⊥) → AllByRecursion (IsDrawnRecord b) rs → list_any (is_promise id) rs ≡ false
none_drawn b id [] f h = refl
none_drawn b id (r ∷ rs) f (h, k) = ap (λ c. c || list_any (is_promise id) rs) (one r h) ∙ none_drawn b id rs f k
  where
    one : (r : Record) → IsDrawnRecord b r → is_promise id r ≡ false
    one (records.LeafPrepared i c key value) h = or_no (is_id i id) (other_than i id (λ e. f (subst (IsDrawn b) e h)))
    one (records.Voted i s seats) h = or_no (is_id i id) (other_than i id (λ e. f (subst (IsDrawn b) e h)))
    one (records.Decided i seats) h = other_than i id (λ e. f (subst (IsDrawn b) e h))
    one (records.Start i) h = refl
    one (records.LeafCommitted i) h = refl
    one (records.LeafAborted i) h = refl
    one (records.SubCommitted i) h = refl
    one (records.Ended i) h = refl
    one (records.Done i) h = refl

abbrev IsRegistering : Leaf → Type 0
IsRegistering l = l.state ≡ states.Registering

for_registers : (m : Moment) (id : Numbers) (a : Arrived) (w : Work) (r : Reply) → IfThere IsRegistering (work_for m id a w r).leaf
for_registers m id a w (replies.At reply) = refl
for_registers m id a w replies.Anonymous = tt
for_registers m id a w replies.Nobody = tt

made_registers : (m : Moment) (live : ℕ) (a : Arrived) (w : Work) (id : Numbers) (l : Leaf) → (on_work m live a w (Some id)).leaf ≡ Some l → l.state ≡ states.Registering
unfolding on_work
made_registers m live a w id l e =
    subst (IfThere IsRegistering) e
    (either_of (λ x. IfThere IsRegistering x.leaf) (nat_lt live MOST_ITEMS) (work_for m id a w a.reply) (refuse_work a) (λ k. for_registers m id a w a.reply) (λ k. tt))

pub made_backed : (b : Book) (rs : List Record) (m : Moment) (live : ℕ) (a : Arrived) (w : Work) (id : Numbers) (l : Leaf) → AllByRecursion (IsDrawnRecord b) rs → next_id b ≡ Some id
    → (on_work m live a w (Some id)).leaf ≡ Some l → LeafBacked rs l
made_backed b rs m live a w id l drawn next made =
    let own : l.id ≡ id = subst (HasLeafId id) made (makes_under_the_next_id.leaf m live a w id) in
    let none : list_any (is_promise l.id) rs ≡ false =
    none_drawn b l.id rs (λ h. makes_under_the_next_id.next b id next (subst (IsDrawn b) own h)) drawn in
    subst (IsBacked rs l.id l.coordinator l.key l.value l.kind) (sym (made_registers m live a w id l made)) (backed_registering rs l.id l.coordinator l.key l.value l.kind none)

pub all_in : {A : Type 0} (P : A → Type 0) (xs : List A) → ((x : A) → IsIn x xs → P x) → AllByRecursion P xs
all_in P [] f = tt
all_in P (x ∷ xs) f = (f x (inl refl), all_in P xs (λ y h. f y (inr h)))
