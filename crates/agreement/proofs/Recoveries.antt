-- What recovery makes of the live records.
use Rattle.std.specs.Prelude.{ℕ, List, [], ◌∷◌, ◌++◌, Option, Some, None, Bool, true, false, ◌||◌, if◌then◌else◌, ◌≡◌, ◌⊎◌, refl}
use Rattle.std.specs.List.{list_any}
use Rattle.std.proofs.Common.{inl, inr, sym, subst, ap, ◌∙◌}
use Rattle.at_base.specs.Numbers.{Numbers}
use Rattle.at_base.specs.declared.record.Record.{Record}
use Rattle.at_base.specs.declared.record.Record.TheVariants as records
use Rattle.at_model.specs.Book.{Leaf, Transaction, find_by, is_id, leaf_id, transaction_id}
use Rattle.at_model.specs.Recovery.{ends_leaf, ends_transaction, is_promise, is_sub_committed, is_voted, kept, leaves_of, live, no_seats, recover, recovered_decided, recovered_leaf, recovered_voted, transactions_of, with_commit}
use Rattle.at_model.specs.Step.{leaf_at, transaction_at}
use Rattle.model_laws.specs.Agreement.{IsIn}
use Rattle.model_laws.proofs.DecisionLaws.{in_front}
use Rattle.model_laws.proofs.RecoveryLaws.{none_live, or_false, same_id, self_id}
use Rattle.model_laws.proofs.SeatRegistrations.{in_back}
use Rattle.agreement.specs.Recoveries.{transaction_from, leaf_from, StandsFor, StandsForLeaf, RecoversEach}
use Rattle.agreement.proofs.Journals.{unless, vote, or_nothing, both_ways, in_either, any_front, any_back, in_ordered, ordered_in}

-- tests of lists
in_any : (p : Record → Bool) (x : Record) (xs : List Record) → IsIn x xs → p x ≡ true → list_any p xs ≡ true
in_any p x [] h e = absurd h
in_any p x (y ∷ ys) (inl f) e = ap (λ b. b || list_any p ys) (ap p (sym f) ∙ e)
in_any p x (y ∷ ys) (inr h) e = by_case (p y) (in_any p x ys h e)
  where
    by_case : (b : Bool) → list_any p ys ≡ true → (b || list_any p ys) ≡ true
    by_case true f = refl
    by_case false f = f

none_too : (p q : Record → Bool) (xs : List Record) → ((x : Record) → q x ≡ false → p x ≡ false) → list_any q xs ≡ false → list_any p xs ≡ false
none_too p q [] h e = refl
none_too p q (x ∷ xs) h e =
    let (here, behind) = or_false (q x) (list_any q xs) e in
    ap (λ b. b || list_any p xs) (h x here) ∙ none_too p q xs h behind

no_leaf_promise : (i : Numbers) (rest : List Record) → list_any (ends_leaf i) rest ≡ false → list_any (is_promise i) rest ≡ false
no_leaf_promise i rest e = none_too (is_promise i) (ends_leaf i) rest (λ x f. (or_false _ (is_promise i x) f).1) e

no_promise : (i : Numbers) (rest : List Record) → list_any (ends_transaction i) rest ≡ false → list_any (is_promise i) rest ≡ false
no_promise i rest e = none_too (is_promise i) (ends_transaction i) rest (λ x f. (or_false _ (is_promise i x) f).1) e

-- what a record keeps is itself, where no other promise of its id stands behind it
abbrev IsKept : Numbers → Record → Record → List Record → Type 0
IsKept id r y rest = (r ≡ y) × (list_any (is_promise id) rest ≡ false)

one_unless : (r y : Record) (b : Bool) → IsIn r (unless b y) → (r ≡ y) × (b ≡ false)
one_unless r y true h = absurd h
one_unless r y false (inl e) = (e, refl)
one_unless r y false (inr h) = absurd h

vote_unless : (r v s : Record) (a c : Bool) → IsIn r (vote a c v s) → ((r ≡ v) ⊎ (r ≡ s)) × (a ≡ false)
vote_unless r v s true c h = absurd h
vote_unless r v s false c (inl e) = (inl e, refl)
vote_unless r v s false true (inr (inl e)) = (inr e, refl)
vote_unless r v s false true (inr (inr h)) = absurd h
vote_unless r v s false false (inr h) = absurd h

pub promise_kept : (id : Numbers) (r y : Record) (rest : List Record) → IsIn r (kept y rest) → is_promise id r ≡ true → IsKept id r y rest
promise_kept id r (records.LeafPrepared i c key value) rest h e =
    let (same, none) = one_unless r (records.LeafPrepared i c key value) (list_any (ends_leaf i) rest) h in
    let own : is_id i id ≡ true = sym (or_nothing (is_id i id)) ∙ ap (is_promise id) (sym same) ∙ e in
    (same, subst (λ k. list_any (is_promise k) rest ≡ false) (same_id i id own) (no_leaf_promise i rest none))
promise_kept id r (records.Decided i seats) rest h e =
    let (same, none) = one_unless r (records.Decided i seats) (no_seats seats || list_any (ends_transaction i) rest) h in
    let own : is_id i id ≡ true = ap (is_promise id) (sym same) ∙ e in
    (same, subst (λ k. list_any (is_promise k) rest ≡ false) (same_id i id own) (no_promise i rest (or_false (no_seats seats) (list_any (ends_transaction i) rest) none).1))
promise_kept id r (records.Voted i s seats) rest h e = sorted (vote_unless r (records.Voted i s seats) (records.SubCommitted i) (list_any (ends_transaction i) rest) (list_any (is_sub_committed i) rest) h)
  where
    sorted : ((r ≡ records.Voted i s seats) ⊎ (r ≡ records.SubCommitted i)) × (list_any (ends_transaction i) rest ≡ false) → IsKept id r (records.Voted i s seats) rest
    sorted (inl same, none) =
        let own : is_id i id ≡ true = sym (or_nothing (is_id i id)) ∙ ap (is_promise id) (sym same) ∙ e in
        (same, subst (λ k. list_any (is_promise k) rest ≡ false) (same_id i id own) (no_promise i rest none))
    sorted (inr same, none) = let never : is_promise id (records.SubCommitted i) ≡ true = ap (is_promise id) (sym same) ∙ e in absurd cc
promise_kept id r other rest h e = absurd h

promised_behind : (id : Numbers) (x : Record) (rest : List Record) → IsIn x (live rest) → is_promise id x ≡ true → list_any (is_promise id) rest ≡ true
promised_behind id x rest h e = by_case (list_any (is_promise id) rest) refl
  where
    by_case : (b : Bool) → list_any (is_promise id) rest ≡ b → b ≡ true
    by_case true f = refl
    by_case false f = absurd (both_ways (list_any (is_promise id) (live rest)) (in_any (is_promise id) x (live rest) h e) (none_live (is_promise id) rest f))

single : (rs : List Record) (id : Numbers) (r x : Record) → IsIn r (live rs) → IsIn x (live rs) → is_promise id r ≡ true → is_promise id x ≡ true → r ≡ x
single [] id r x h k e f = absurd h
single (y ∷ rest) id r x h k e f = sorted (in_either r (kept y rest) (live rest) h) (in_either x (kept y rest) (live rest) k) (λ i j. single rest id r x i j e f)
  where
    sorted : IsIn r (kept y rest) ⊎ IsIn r (live rest) → IsIn x (kept y rest) ⊎ IsIn x (live rest) → (IsIn r (live rest) → IsIn x (live rest) → r ≡ x) → r ≡ x
    sorted (inl i) (inl j) g = (promise_kept id r y rest i e).0 ∙ sym (promise_kept id x y rest j f).0
    sorted (inl i) (inr j) g = absurd (both_ways (list_any (is_promise id) rest) (promised_behind id x rest j f) (promise_kept id r y rest i e).1)
    sorted (inr i) (inl j) g = absurd (both_ways (list_any (is_promise id) rest) (promised_behind id r rest i e) (promise_kept id x y rest j f).1)
    sorted (inr i) (inr j) g = g i j

-- a subordinate's commit stands with its vote
commit_kept : (id : Numbers) (y : Record) (rest : List Record) → IsIn (records.SubCommitted id) (kept y rest) → list_any (is_voted id) (kept y rest) ≡ true
commit_kept id (records.LeafPrepared i c key value) rest h =
    let wrong : records.SubCommitted id ≡ records.LeafPrepared i c key value = (one_unless (records.SubCommitted id) (records.LeafPrepared i c key value) (list_any (ends_leaf i) rest) h).0 in absurd cc
commit_kept id (records.Decided i seats) rest h =
    let wrong : records.SubCommitted id ≡ records.Decided i seats =
    (one_unless (records.SubCommitted id) (records.Decided i seats) (no_seats seats || list_any (ends_transaction i) rest) h).0 in absurd cc
commit_kept id (records.Voted i s seats) rest h =
    by_case (list_any (ends_transaction i) rest) (list_any (is_sub_committed i) rest) h
  where
    by_case : (a c : Bool) → IsIn (records.SubCommitted id) (vote a c (records.Voted i s seats) (records.SubCommitted i))
        → list_any (is_voted id) (vote a c (records.Voted i s seats) (records.SubCommitted i)) ≡ true
    by_case true c h = absurd h
    by_case false c (inl e) = absurd cc
    by_case false false (inr k) = absurd k
    by_case false true (inr (inl e)) =
        let same : id ≡ i = cc in
        ap (λ b. b || false) (subst (λ k. is_id i k ≡ true) (sym same) (self_id i))
    by_case false true (inr (inr k)) = absurd k
commit_kept id other rest h = absurd h

with_vote : (rs : List Record) (id : Numbers) → IsIn (records.SubCommitted id) (live rs) → list_any (is_voted id) (live rs) ≡ true
with_vote [] id h = absurd h
with_vote (y ∷ rest) id h = sorted (in_either (records.SubCommitted id) (kept y rest) (live rest) h) (with_vote rest id)
  where
    sorted : IsIn (records.SubCommitted id) (kept y rest) ⊎ IsIn (records.SubCommitted id) (live rest) → (IsIn (records.SubCommitted id) (live rest) → list_any (is_voted id) (live rest) ≡ true)
        → list_any (is_voted id) (kept y rest ++ live rest) ≡ true
    sorted (inl k) f = any_front (is_voted id) (kept y rest) (live rest) (commit_kept id y rest k)
    sorted (inr k) f = any_back (is_voted id) (kept y rest) (live rest) (f k)

-- the commit of an id that is promised behind stands behind too
elsewhere : (id : Numbers) (y : Record) (rest : List Record) → list_any (is_promise id) rest ≡ true → list_any (is_sub_committed id) (kept y rest) ≡ false
elsewhere id (records.LeafPrepared i c key value) rest e = by_case (list_any (ends_leaf i) rest)
  where
    by_case : (b : Bool) → list_any (is_sub_committed id) (unless b (records.LeafPrepared i c key value)) ≡ false
    by_case true = refl
    by_case false = refl
elsewhere id (records.Decided i seats) rest e = by_case (no_seats seats || list_any (ends_transaction i) rest)
  where
    by_case : (b : Bool) → list_any (is_sub_committed id) (unless b (records.Decided i seats)) ≡ false
    by_case true = refl
    by_case false = refl
elsewhere id (records.Voted i s seats) rest e = by_case (list_any (ends_transaction i) rest) (list_any (is_sub_committed i) rest) refl
  where
    other : (b : Bool) → is_id i id ≡ b → list_any (ends_transaction i) rest ≡ false → (b || false) ≡ false
    other true f g = absurd (both_ways (list_any (is_promise id) rest) e (subst (λ k. list_any (is_promise k) rest ≡ false) (same_id i id f) (no_promise i rest g)))
    other false f g = refl

    by_case : (a c : Bool) → list_any (ends_transaction i) rest ≡ a → list_any (is_sub_committed id) (vote a c (records.Voted i s seats) (records.SubCommitted i)) ≡ false
    by_case true c f = refl
    by_case false true f = other (is_id i id) refl f
    by_case false false f = refl
elsewhere id other rest e = refl

none_in_front : (p : Record → Bool) (xs ys : List Record) → list_any p xs ≡ false → list_any p (xs ++ ys) ≡ list_any p ys
none_in_front p [] ys e = refl
none_in_front p (x ∷ xs) ys e =
    let (here, behind) = or_false (p x) (list_any p xs) e in
    ap (λ b. b || list_any p (xs ++ ys)) here ∙ none_in_front p xs ys behind

-- what a record stands for is promised by it
pub from_promise : (base : List ℕ) (rs : List Record) (r : Record) (t : Transaction) → transaction_from base rs r ≡ Some t → is_promise t.id r ≡ true
from_promise base rs (records.Voted id s seats) t e = or_nothing (is_id id t.id) ∙ subst (λ k. is_id id k ≡ true) (voted_id (list_any (is_sub_committed id) rs) e) (self_id id)
  where
    voted_id : (b : Bool) → Some (recovered_voted id s seats b) ≡ Some t → id ≡ t.id
    voted_id true f = let same : recovered_voted id s seats true ≡ t = cc in ap (λ (x : Transaction). x.id) same
    voted_id false f = let same : recovered_voted id s seats false ≡ t = cc in ap (λ (x : Transaction). x.id) same
from_promise base rs (records.Decided id seats) t e =
    let same : recovered_decided base id seats ≡ t = cc in
    subst (λ k. is_id id k ≡ true) (ap (λ (x : Transaction). x.id) same) (self_id id)
from_promise base rs other t e = absurd cc

pub from_leaf_promise : (r : Record) (l : Leaf) → leaf_from r ≡ Some l → is_promise l.id r ≡ true
from_leaf_promise (records.LeafPrepared id c key value) l e =
    let same : recovered_leaf id c key value ≡ l = cc in
    or_nothing (is_id id l.id) ∙ subst (λ k. is_id id k ≡ true) (ap (λ (x : Leaf). x.id) same) (self_id id)
from_leaf_promise other l e = absurd cc

-- what stands behind others is recovered as before
abbrev AreBehind : List ℕ → Transaction → List Record → List Record → Type 0
AreBehind base t xs ys = IsIn t (transactions_of base ys) → IsIn t (transactions_of base (xs ++ ys))

transaction_behind : (base : List ℕ) (t : Transaction) (xs ys : List Record) → AreBehind base t xs ys
transaction_behind base t [] ys h = h
transaction_behind base t (records.Voted id s seats ∷ xs) ys h = inr (transaction_behind base t xs ys h)
transaction_behind base t (records.Decided id seats ∷ xs) ys h = inr (transaction_behind base t xs ys h)
transaction_behind base t (records.Start i ∷ xs) ys h = transaction_behind base t xs ys h
transaction_behind base t (records.LeafPrepared id c key value ∷ xs) ys h = transaction_behind base t xs ys h
transaction_behind base t (records.LeafCommitted id ∷ xs) ys h = transaction_behind base t xs ys h
transaction_behind base t (records.LeafAborted id ∷ xs) ys h = transaction_behind base t xs ys h
transaction_behind base t (records.SubCommitted id ∷ xs) ys h = transaction_behind base t xs ys h
transaction_behind base t (records.Ended id ∷ xs) ys h = transaction_behind base t xs ys h
transaction_behind base t (records.Done id ∷ xs) ys h = transaction_behind base t xs ys h

same_from : (base : List ℕ) (y r : Record) (rest : List Record) (t : Transaction) → IsIn r (live rest) → is_promise t.id r ≡ true → (b : Bool)
    → transaction_from base (kept y rest ++ live rest) r ≡ transaction_from base (live rest) r
same_from base y (records.Voted id s seats) rest t h e b =
    ap (λ c. Some (recovered_voted id s seats c))
    (none_in_front (is_sub_committed id) (kept y rest) (live rest)
    (elsewhere id y rest (promised_behind id (records.Voted id s seats) rest h (or_nothing (is_id id id) ∙ self_id id))))
same_from base y (records.Decided id seats) rest t h e b = refl
same_from base y other rest t h e b = refl

-- the transaction of a record that is kept
kept_here : (base : List ℕ) (y : Record) (rest : List Record) (t : Transaction) → IsIn y (kept y rest) → transaction_from base (kept y rest ++ live rest) y ≡ Some t
    → IsIn t (transactions_of base (kept y rest ++ live rest))
kept_here base (records.Voted id s seats) rest t h e = by_case (list_any (ends_transaction id) rest) h e
  where
    by_case : (a : Bool) → IsIn (records.Voted id s seats) (vote a (list_any (is_sub_committed id) rest) (records.Voted id s seats) (records.SubCommitted id))
        → transaction_from base (vote a (list_any (is_sub_committed id) rest) (records.Voted id s seats) (records.SubCommitted id) ++ live rest) (records.Voted id s seats) ≡ Some t
        → IsIn t (transactions_of base (vote a (list_any (is_sub_committed id) rest) (records.Voted id s seats) (records.SubCommitted id) ++ live rest))
    by_case true h e = absurd h
    by_case false h e =
        let same : recovered_voted id s seats (list_any (is_sub_committed id) (with_commit id rest ++ live rest)) ≡ t = cc in
        inl (sym same)
kept_here base (records.Decided id seats) rest t h e = by_case (no_seats seats || list_any (ends_transaction id) rest) h
  where
    by_case : (a : Bool) → IsIn (records.Decided id seats) (unless a (records.Decided id seats)) → IsIn t (transactions_of base (unless a (records.Decided id seats) ++ live rest))
    by_case true h = absurd h
    by_case false h = let same : recovered_decided base id seats ≡ t = cc in inl (sym same)
kept_here base other rest t h e = absurd cc

transaction_in : (base : List ℕ) (rs : List Record) (r : Record) (t : Transaction) → IsIn r (live rs) → transaction_from base (live rs) r ≡ Some t → IsIn t (transactions_of base (live rs))
transaction_in base [] r t h e = absurd h
transaction_in base (y ∷ rest) r t h e = sorted (in_either r (kept y rest) (live rest) h) (transaction_in base rest r t)
  where
    promise : is_promise t.id r ≡ true
    promise = from_promise base (kept y rest ++ live rest) r t e

    sorted : IsIn r (kept y rest) ⊎ IsIn r (live rest) → (IsIn r (live rest) → transaction_from base (live rest) r ≡ Some t → IsIn t (transactions_of base (live rest)))
        → IsIn t (transactions_of base (kept y rest ++ live rest))
    sorted (inl k) f =
        let same : r ≡ y = (promise_kept t.id r y rest k promise).0 in
        kept_here base y rest t (subst (λ x. IsIn x (kept y rest)) same k) (subst (λ x. transaction_from base (kept y rest ++ live rest) x ≡ Some t) same e)
    sorted (inr k) f = transaction_behind base t (kept y rest) (live rest) (f k (sym (same_from base y r rest t k promise true) ∙ e))

-- and back
stands_behind : (base : List ℕ) (y : Record) (rest : List Record) (t : Transaction) → StandsFor base (live rest) t → StandsFor base (kept y rest ++ live rest) t
stands_behind base y rest t h = record {
  behind = h.behind;
  live = in_back h.behind (kept y rest) (live rest) h.live;
  is = same_from base y h.behind rest t h.live (from_promise base (live rest) h.behind t h.is) true ∙ h.is;
}

either_kept : (base : List ℕ) (y : Record) (rest : List Record) (t : Transaction) → IsIn t (transactions_of base (kept y rest ++ live rest))
    → (IsIn y (kept y rest) × (transaction_from base (kept y rest ++ live rest) y ≡ Some t)) ⊎ IsIn t (transactions_of base (live rest))
either_kept base (records.LeafPrepared i c key value) rest t h = inr (by_case (list_any (ends_leaf i) rest) h)
  where
    by_case : (b : Bool) → IsIn t (transactions_of base (unless b (records.LeafPrepared i c key value) ++ live rest)) → IsIn t (transactions_of base (live rest))
    by_case true h = h
    by_case false h = h
either_kept base (records.Decided i seats) rest t h = by_case (no_seats seats || list_any (ends_transaction i) rest) h
  where
    by_case : (b : Bool) → IsIn t (transactions_of base (unless b (records.Decided i seats) ++ live rest))
        → (IsIn (records.Decided i seats) (unless b (records.Decided i seats)) × (Some (recovered_decided base i seats) ≡ Some t)) ⊎ IsIn t (transactions_of base (live rest))
    by_case true h = inr h
    by_case false (inl e) = inl (inl refl, ap Some (sym e))
    by_case false (inr h) = inr h
either_kept base (records.Voted i s seats) rest t h = by_case (list_any (ends_transaction i) rest) h
  where
    here : (c : Bool) → IsIn t (transactions_of base ((if c then records.SubCommitted i ∷ [] else []) ++ live rest)) → IsIn t (transactions_of base (live rest))
    here true h = h
    here false h = h

    by_case : (a : Bool) → IsIn t (transactions_of base (vote a (list_any (is_sub_committed i) rest) (records.Voted i s seats) (records.SubCommitted i) ++ live rest))
        → (IsIn (records.Voted i s seats) (vote a (list_any (is_sub_committed i) rest) (records.Voted i s seats) (records.SubCommitted i))
        × (transaction_from base (vote a (list_any (is_sub_committed i) rest) (records.Voted i s seats) (records.SubCommitted i) ++ live rest) (records.Voted i s seats) ≡ Some t))
        ⊎ IsIn t (transactions_of base (live rest))
    by_case true h = inr h
    by_case false (inl e) = inl (inl refl, ap Some (sym e))
    by_case false (inr h) = inr (here (list_any (is_sub_committed i) rest) h)
either_kept base (records.Start i) rest t h = inr h
either_kept base (records.LeafCommitted i) rest t h = inr h
either_kept base (records.LeafAborted i) rest t h = inr h
either_kept base (records.SubCommitted i) rest t h = inr h
either_kept base (records.Ended i) rest t h = inr h
either_kept base (records.Done i) rest t h = inr h

stands_for : (base : List ℕ) (rs : List Record) (t : Transaction) → IsIn t (transactions_of base (live rs)) → StandsFor base (live rs) t
stands_for base [] t h = absurd h
stands_for base (y ∷ rest) t h = sorted (either_kept base y rest t h) (stands_for base rest t)
  where
    sorted : (IsIn y (kept y rest) × (transaction_from base (kept y rest ++ live rest) y ≡ Some t)) ⊎ IsIn t (transactions_of base (live rest))
        → (IsIn t (transactions_of base (live rest)) → StandsFor base (live rest) t) → StandsFor base (kept y rest ++ live rest) t
    sorted (inl (k, e)) f = record { behind = y; live = in_front y (kept y rest) (live rest) k; is = e }
    sorted (inr k) f = stands_behind base y rest t (f k)

-- leaves
abbrev listed : Option Leaf → List Leaf
listed None = []
listed (Some l) = l ∷ []

leaf_first : (r : Record) (rest : List Record) → leaves_of (r ∷ rest) ≡ listed (leaf_from r) ++ leaves_of rest
leaf_first (records.LeafPrepared id c key value) rest = refl
leaf_first (records.Start i) rest = refl
leaf_first (records.LeafCommitted id) rest = refl
leaf_first (records.LeafAborted id) rest = refl
leaf_first (records.Voted id s seats) rest = refl
leaf_first (records.Decided id seats) rest = refl
leaf_first (records.SubCommitted id) rest = refl
leaf_first (records.Ended id) rest = refl
leaf_first (records.Done id) rest = refl

leaf_in : (xs : List Record) (r : Record) (l : Leaf) → IsIn r xs → leaf_from r ≡ Some l → IsIn l (leaves_of xs)
leaf_in [] r l h e = absurd h
leaf_in (y ∷ rest) r l (inl f) e =
    subst (IsIn l) (sym (leaf_first y rest))
    (in_front l (listed (leaf_from y)) (leaves_of rest) (subst (λ o. IsIn l (listed o)) (sym e ∙ ap leaf_from f) (inl refl)))
leaf_in (y ∷ rest) r l (inr h) e = subst (IsIn l) (sym (leaf_first y rest)) (in_back l (listed (leaf_from y)) (leaves_of rest) (leaf_in rest r l h e))

leaf_stands : (xs : List Record) (l : Leaf) → IsIn l (leaves_of xs) → StandsForLeaf xs l
leaf_stands [] l h = absurd h
leaf_stands (y ∷ rest) l h = sorted (leaf_from y) refl (subst (IsIn l) (leaf_first y rest) h) (leaf_stands rest l)
  where
    further : StandsForLeaf rest l → StandsForLeaf (y ∷ rest) l
    further k = record { behind = k.behind; live = inr k.live; is = k.is }

    sorted : (o : Option Leaf) → leaf_from y ≡ o → IsIn l (listed o ++ leaves_of rest) → (IsIn l (leaves_of rest) → StandsForLeaf rest l) → StandsForLeaf (y ∷ rest) l
    sorted None e h f = further (f h)
    sorted (Some x) e (inl k) f = record { behind = y; live = inl refl; is = e ∙ ap Some (sym k) }
    sorted (Some x) e (inr h) f = further (f h)

-- by id
found_by : {A : Type 0} (key : A → Numbers) (x : A) (xs : List A) → IsIn x xs → ((y : A) → IsIn y xs → key y ≡ key x → y ≡ x) → find_by key (key x) xs ≡ Some x
found_by key x [] h f = absurd h
found_by key x (y ∷ ys) h f = by_case (is_id (key y) (key x)) refl h (λ k. found_by key x ys k (λ z i. f z (inr i)))
  where
    by_case : (b : Bool) → is_id (key y) (key x) ≡ b → IsIn x (y ∷ ys) → (IsIn x ys → find_by key (key x) ys ≡ Some x) → (if b then Some y else find_by key (key x) ys) ≡ Some x
    by_case true e h g = ap Some (f y (inl refl) (same_id (key y) (key x) e))
    by_case false e (inl k) g = absurd (both_ways (is_id (key y) (key x)) (subst (λ z. is_id (key z) (key x) ≡ true) k (self_id (key x))) e)
    by_case false e (inr k) g = g k

some_same : {A : Type 0} (x y : A) → Some x ≡ Some y → x ≡ y
some_same x y e = cc

same_transaction : (base : List ℕ) (rs : List Record) (r : Record) (t y : Transaction) → IsIn r (live rs) → transaction_from base (live rs) r ≡ Some t → StandsFor base (live rs) y → y.id ≡ t.id
    → y ≡ t
same_transaction base rs r t y h e k same =
    let own : is_promise t.id k.behind ≡ true = subst (λ i. is_promise i k.behind ≡ true) same (from_promise base (live rs) k.behind y k.is) in
    let one : k.behind ≡ r = single rs t.id k.behind r k.live h own (from_promise base (live rs) r t e) in
    some_same y t (sym k.is ∙ ap (transaction_from base (live rs)) one ∙ e)

same_leaf : (rs : List Record) (r : Record) (l y : Leaf) → IsIn r (live rs) → leaf_from r ≡ Some l → StandsForLeaf (live rs) y → y.id ≡ l.id → y ≡ l
same_leaf rs r l y h e k same =
    let own : is_promise l.id k.behind ≡ true = subst (λ i. is_promise i k.behind ≡ true) same (from_leaf_promise k.behind y k.is) in
    let one : k.behind ≡ r = single rs l.id k.behind r k.live h own (from_leaf_promise r l e) in
    some_same y l (sym k.is ∙ ap leaf_from one ∙ e)

transaction_found : (base : List ℕ) (rs : List Record) (r : Record) (t : Transaction) → IsIn r (live rs) → transaction_from base (live rs) r ≡ Some t
    → transaction_at (recover base rs) t.id ≡ Some t
transaction_found base rs r t h e =
    found_by transaction_id t (recover base rs).transactions (in_ordered transaction_id t (transactions_of base (live rs)) (transaction_in base rs r t h e))
    (λ y k same. same_transaction base rs r t y h e (stands_for base rs y (ordered_in transaction_id y (transactions_of base (live rs)) k)) same)

leaf_found : (base : List ℕ) (rs : List Record) (r : Record) (l : Leaf) → IsIn r (live rs) → leaf_from r ≡ Some l → leaf_at (recover base rs) l.id ≡ Some l
leaf_found base rs r l h e =
    found_by leaf_id l (recover base rs).leaves (in_ordered leaf_id l (leaves_of (live rs)) (leaf_in (live rs) r l h e))
    (λ y k same. same_leaf rs r l y h e (leaf_stands (live rs) y (ordered_in leaf_id y (leaves_of (live rs)) k)) same)

pub recovers_each : RecoversEach
recovers_each = record {
  single = single;
  with_vote = with_vote;
  transaction = transaction_found;
  leaf = leaf_found;
  transactions = λ base rs t h. stands_for base rs t (ordered_in transaction_id t (transactions_of base (live rs)) h);
  leaves = λ base rs l h. leaf_stands (live rs) l (ordered_in leaf_id l (leaves_of (live rs)) h);
}
