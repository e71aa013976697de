-- The live records by rising id stand for the same book.
use Rattle.std.specs.Prelude.{ℕ, List, [], ◌∷◌, ◌++◌, Option, Some, None, Bool, true, false, ◌||◌, if◌then◌else◌, map, max, ◌+◌, ◌≤◌, ◌<◌, ◌≡◌, refl}
use Rattle.std.specs.List.{list_any, AllByRecursion}
use Rattle.std.proofs.Common.{sym, ap, subst, arith, ◌∙◌}
use Rattle.at_base.specs.Numbers.{Numbers}
use Rattle.at_base.specs.declared.epr.Epr.{Epr}
use Rattle.at_base.specs.declared.record.Seated.{Seated}
use Rattle.at_base.specs.declared.record.Record.{Record}
use Rattle.at_base.specs.declared.record.Record.TheVariants as records
use Rattle.at_model.specs.Outcomes.{outcomes_after}
use Rattle.at_model.specs.Book.{Transaction, Leaf, transaction_id, leaf_id, is_id}
use Rattle.at_model.specs.Recovery.{is_before, insert_by, in_order, live, ends_leaf, ends_transaction, is_promise, is_sub_committed, is_leaf_ended, is_ended, transactions_of, leaves_of, recovered_voted, recovered_decided, recovered_leaf, last_incarnation, incarnation_of, no_seats}
use Rattle.model_laws.specs.Compactions.{record_id, compacted, RecoversTheCompacted}
use Rattle.model_laws.specs.Order.{AreRising}
use Rattle.model_laws.proofs.Keepsakes.{outcomes_below, outcomes_again}
use Rattle.model_laws.proofs.DecisionLaws.{all_more, all_join}
use Rattle.model_laws.proofs.DrawnIds.{all_in_order, all_live}
use Rattle.model_laws.proofs.Order.{AreDifferent, other_id, one_before, before_further, in_order_rising, transactions_different, leaves_different, unmapped}
use Rattle.model_laws.proofs.RecoveryLaws.{or_false, none_append, incarnations_rise, same_id, self_id}

-- What is live, promise by promise: a vote with its SubCommitted or without.
data Promise : Type 0 where
  LeafPromise : Numbers → Epr → List ℕ → List ℕ → Promise
  Vote : Numbers → Epr → List Seated → Bool → Promise
  Decision : Numbers → Seated → List Seated → Promise

abbrev promise_id : Promise → Numbers
promise_id (LeafPromise id c key value) = id
promise_id (Vote id superior seats committed) = id
promise_id (Decision id s seats) = id

abbrev records_of : Promise → List Record
records_of (LeafPromise id c key value) = records.LeafPrepared id c key value ∷ []
records_of (Vote id superior seats committed) = records.Voted id superior seats ∷ (if committed then records.SubCommitted id ∷ [] else [])
records_of (Decision id s seats) = records.Decided id (s ∷ seats) ∷ []

abbrev flat : List Promise → List Record
flat [] = []
flat (p ∷ ps) = records_of p ++ flat ps

abbrev promise_of : Record → List Record → List Promise
promise_of (records.LeafPrepared id c key value) rest = if list_any (ends_leaf id) rest then [] else LeafPromise id c key value ∷ []
promise_of (records.Voted id superior seats) rest =
    if list_any (ends_transaction id) rest then [] else Vote id superior seats (list_any (is_sub_committed id) rest) ∷ []
promise_of (records.Decided id []) rest = []
promise_of (records.Decided id (s ∷ seats)) rest = if list_any (ends_transaction id) rest then [] else Decision id s seats ∷ []
promise_of (records.Start i) rest = []
promise_of (records.LeafCommitted id) rest = []
promise_of (records.LeafAborted id) rest = []
promise_of (records.SubCommitted id) rest = []
promise_of (records.Ended id) rest = []
promise_of (records.Done id) rest = []

abbrev promises_of : List Record → List Promise
promises_of [] = []
promises_of (r ∷ rest) = promise_of r rest ++ promises_of rest

kept_flat : (b : Bool) (p : Promise) (xs : List Record) (ps : List Promise) → xs ≡ flat ps → (if b then [] else records_of p) ++ xs ≡ flat ((if b then [] else p ∷ []) ++ ps)
kept_flat true p xs ps e = e
kept_flat false p xs ps e = ap (λ ys. records_of p ++ ys) e

live_flat : (rs : List Record) → live rs ≡ flat (promises_of rs)
live_flat [] = refl
live_flat (records.LeafPrepared id c key value ∷ rest) = kept_flat (list_any (ends_leaf id) rest) (LeafPromise id c key value) (live rest) (promises_of rest) (live_flat rest)
live_flat (records.Voted id superior seats ∷ rest) =
    kept_flat (list_any (ends_transaction id) rest) (Vote id superior seats (list_any (is_sub_committed id) rest)) (live rest) (promises_of rest) (live_flat rest)
live_flat (records.Decided id [] ∷ rest) = live_flat rest
live_flat (records.Decided id (s ∷ seats) ∷ rest) = kept_flat (list_any (ends_transaction id) rest) (Decision id s seats) (live rest) (promises_of rest) (live_flat rest)
live_flat (records.Start i ∷ rest) = live_flat rest
live_flat (records.LeafCommitted id ∷ rest) = live_flat rest
live_flat (records.LeafAborted id ∷ rest) = live_flat rest
live_flat (records.SubCommitted id ∷ rest) = live_flat rest
live_flat (records.Ended id ∷ rest) = live_flat rest
live_flat (records.Done id ∷ rest) = live_flat rest

-- one promise an id
none_of_both : (p q : Record → Bool) (rs : List Record) → list_any (λ r. p r || q r) rs ≡ false → list_any q rs ≡ false
none_of_both p q [] e = refl
none_of_both p q (r ∷ rs) e =
    let (here, behind) = or_false (p r || q r) (list_any (λ s. p s || q s) rs) e in
    both (q r) (list_any q rs) (or_false (p r) (q r) here).1 (none_of_both p q rs behind)
  where
    both : (a b : Bool) → a ≡ false → b ≡ false → (a || b) ≡ false
    both true b e f = absurd cc
    both false b e f = f

differs : (i id : Numbers) → is_id i id ≡ false → i ≡ id → ⊥
differs i id e f = absurd (no (is_id i id) (ap (λ j. is_id j id) f ∙ self_id id) e)
  where
    no : (b : Bool) → b ≡ true → b ≡ false → ⊥
    no b e f = cc

or_nothing : (b : Bool) → (b || false) ≡ false → b ≡ false
or_nothing true e = absurd cc
or_nothing false e = refl

none_promised : (id : Numbers) (rs : List Record) → list_any (is_promise id) rs ≡ false → AllByRecursion (λ p. promise_id p ≡ id → ⊥) (promises_of rs)
none_promised id [] e = tt
none_promised id (r ∷ rest) e =
    let (here, behind) = or_false (is_promise id r) (list_any (is_promise id) rest) e in
    one r here (none_promised id rest behind)
  where
    maybe : (b : Bool) (p : Promise) → (promise_id p ≡ id → ⊥) → AllByRecursion (λ q. promise_id q ≡ id → ⊥) (promises_of rest)
        → AllByRecursion (λ q. promise_id q ≡ id → ⊥) ((if b then [] else p ∷ []) ++ promises_of rest)
    maybe true p h k = k
    maybe false p h k = (h, k)

    one : (r : Record) → is_promise id r ≡ false → AllByRecursion (λ q. promise_id q ≡ id → ⊥) (promises_of rest)
        → AllByRecursion (λ q. promise_id q ≡ id → ⊥) (promise_of r rest ++ promises_of rest)
    one (records.LeafPrepared i c key value) h k = maybe (list_any (ends_leaf i) rest) (LeafPromise i c key value) (differs i id (or_nothing (is_id i id) h)) k
    one (records.Voted i superior seats) h k =
        maybe (list_any (ends_transaction i) rest) (Vote i superior seats (list_any (is_sub_committed i) rest)) (differs i id (or_nothing (is_id i id) h)) k
    one (records.Decided i []) h k = k
    one (records.Decided i (s ∷ seats)) h k = maybe (list_any (ends_transaction i) rest) (Decision i s seats) (differs i id h) k
    one (records.Start i) h k = k
    one (records.LeafCommitted i) h k = k
    one (records.LeafAborted i) h k = k
    one (records.SubCommitted i) h k = k
    one (records.Ended i) h k = k
    one (records.Done i) h k = k

kept_different : (b : Bool) (p : Promise) (ps : List Promise) → (b ≡ false → AllByRecursion (λ q. promise_id q ≡ promise_id p → ⊥) ps) → AreDifferent promise_id ps
    → AreDifferent promise_id ((if b then [] else p ∷ []) ++ ps)
kept_different true p ps f h = h
kept_different false p ps f h = (f refl, h)

promises_different : (rs : List Record) → AreDifferent promise_id (promises_of rs)
promises_different [] = tt
promises_different (records.LeafPrepared id c key value ∷ rest) =
    kept_different (list_any (ends_leaf id) rest) (LeafPromise id c key value) (promises_of rest)
    (λ e. none_promised id rest (none_of_both (is_leaf_ended id) (is_promise id) rest e)) (promises_different rest)
promises_different (records.Voted id superior seats ∷ rest) =
    kept_different (list_any (ends_transaction id) rest) (Vote id superior seats (list_any (is_sub_committed id) rest)) (promises_of rest)
    (λ e. none_promised id rest (none_of_both (is_ended id) (is_promise id) rest e)) (promises_different rest)
promises_different (records.Decided id [] ∷ rest) = promises_different rest
promises_different (records.Decided id (s ∷ seats) ∷ rest) =
    kept_different (list_any (ends_transaction id) rest) (Decision id s seats) (promises_of rest)
    (λ e. none_promised id rest (none_of_both (is_ended id) (is_promise id) rest e)) (promises_different rest)
promises_different (records.Start i ∷ rest) = promises_different rest
promises_different (records.LeafCommitted id ∷ rest) = promises_different rest
promises_different (records.LeafAborted id ∷ rest) = promises_different rest
promises_different (records.SubCommitted id ∷ rest) = promises_different rest
promises_different (records.Ended id ∷ rest) = promises_different rest
promises_different (records.Done id ∷ rest) = promises_different rest

-- records in order are promises in order
not_before : (id : Numbers) → is_before id id ≡ false
not_before id = by_case (is_before id id) refl
  where
    no : (b : Bool) → b ≡ true → b ≡ false → ⊥
    no b e f = cc

    by_case : (b : Bool) → is_before id id ≡ b → b ≡ false
    by_case true e = absurd (no (is_id id id) (self_id id) (other_id id id e))
    by_case false e = refl

insert_one : (r : Record) (d : Promise) (xs : List Record) (b : Bool) → is_before (promise_id d) (record_id r) ≡ b
    → insert_by record_id r (records_of d ++ xs) ≡ (if b then records_of d ++ insert_by record_id r xs else r ∷ (records_of d ++ xs))
insert_one r (LeafPromise id c key value) xs b e =
    ap (λ t. if t then records.LeafPrepared id c key value ∷ insert_by record_id r xs else r ∷ (records.LeafPrepared id c key value ∷ xs)) e
insert_one r (Decision id s seats) xs b e = ap (λ t. if t then records.Decided id (s ∷ seats) ∷ insert_by record_id r xs else r ∷ (records.Decided id (s ∷ seats) ∷ xs)) e
insert_one r (Vote id superior seats false) xs b e =
    ap (λ t. if t then records.Voted id superior seats ∷ insert_by record_id r xs else r ∷ (records.Voted id superior seats ∷ xs)) e
insert_one r (Vote id superior seats true) xs b e = by_case b e
  where
    by_case : (t : Bool) → is_before id (record_id r) ≡ t
        → insert_by record_id r (records.Voted id superior seats ∷ (records.SubCommitted id ∷ xs))
        ≡ (if t then records.Voted id superior seats ∷ (records.SubCommitted id ∷ insert_by record_id r xs) else r ∷ (records.Voted id superior seats ∷ (records.SubCommitted id ∷ xs)))
    by_case true f =
        ap (λ t. if t then records.Voted id superior seats ∷ (if t then records.SubCommitted id ∷ insert_by record_id r xs else r ∷ (records.SubCommitted id ∷ xs))
        else r ∷ (records.Voted id superior seats ∷ (records.SubCommitted id ∷ xs))) f
    by_case false f =
        ap (λ t. if t then records.Voted id superior seats ∷ (if t then records.SubCommitted id ∷ insert_by record_id r xs else r ∷ (records.SubCommitted id ∷ xs))
        else r ∷ (records.Voted id superior seats ∷ (records.SubCommitted id ∷ xs))) f

abbrev insert_records : Promise → List Record → List Record
insert_records (LeafPromise id c key value) xs = insert_by record_id (records.LeafPrepared id c key value) xs
insert_records (Vote id superior seats true) xs = insert_by record_id (records.Voted id superior seats) (insert_by record_id (records.SubCommitted id) xs)
insert_records (Vote id superior seats false) xs = insert_by record_id (records.Voted id superior seats) xs
insert_records (Decision id s seats) xs = insert_by record_id (records.Decided id (s ∷ seats)) xs

-- a vote goes in front of its SubCommitted
insert_vote : (id : Numbers) (superior : Epr) (seats : List Seated) (xs : List Record)
    → insert_by record_id (records.Voted id superior seats) (records.SubCommitted id ∷ xs) ≡ records.Voted id superior seats ∷ (records.SubCommitted id ∷ xs)
insert_vote id superior seats xs =
    ap (λ t. if t then records.SubCommitted id ∷ insert_by record_id (records.Voted id superior seats) xs else records.Voted id superior seats ∷ (records.SubCommitted id ∷ xs)) (not_before id)

insert_passes : (p d : Promise) (xs : List Record) → is_before (promise_id d) (promise_id p) ≡ true → insert_records p (records_of d ++ xs) ≡ records_of d ++ insert_records p xs
insert_passes (LeafPromise id c key value) d xs e = insert_one (records.LeafPrepared id c key value) d xs true e
insert_passes (Decision id s seats) d xs e = insert_one (records.Decided id (s ∷ seats)) d xs true e
insert_passes (Vote id superior seats false) d xs e = insert_one (records.Voted id superior seats) d xs true e
insert_passes (Vote id superior seats true) d xs e =
    ap (insert_by record_id (records.Voted id superior seats)) (insert_one (records.SubCommitted id) d xs true e)
    ∙ insert_one (records.Voted id superior seats) d (insert_by record_id (records.SubCommitted id) xs) true e

insert_stops : (p d : Promise) (xs : List Record) → is_before (promise_id d) (promise_id p) ≡ false → insert_records p (records_of d ++ xs) ≡ records_of p ++ (records_of d ++ xs)
insert_stops (LeafPromise id c key value) d xs e = insert_one (records.LeafPrepared id c key value) d xs false e
insert_stops (Decision id s seats) d xs e = insert_one (records.Decided id (s ∷ seats)) d xs false e
insert_stops (Vote id superior seats false) d xs e = insert_one (records.Voted id superior seats) d xs false e
insert_stops (Vote id superior seats true) d xs e =
    ap (insert_by record_id (records.Voted id superior seats)) (insert_one (records.SubCommitted id) d xs false e) ∙ insert_vote id superior seats (records_of d ++ xs)

insert_last : (p : Promise) → insert_records p [] ≡ records_of p ++ []
insert_last (LeafPromise id c key value) = refl
insert_last (Decision id s seats) = refl
insert_last (Vote id superior seats false) = refl
insert_last (Vote id superior seats true) = insert_vote id superior seats []

insert_flat : (p : Promise) (ps : List Promise) → insert_records p (flat ps) ≡ flat (insert_by promise_id p ps)
insert_flat p [] = insert_last p
insert_flat p (d ∷ ds) = by_case (insert_flat p ds) (is_before (promise_id d) (promise_id p)) refl
  where
    by_case : insert_records p (flat ds) ≡ flat (insert_by promise_id p ds) → (b : Bool) → is_before (promise_id d) (promise_id p) ≡ b
        → insert_records p (records_of d ++ flat ds) ≡ flat (if b then d ∷ insert_by promise_id p ds else p ∷ (d ∷ ds))
    by_case rest true e = insert_passes p d (flat ds) e ∙ ap (λ xs. records_of d ++ xs) rest
    by_case rest false e = insert_stops p d (flat ds) e

sorted_flat : (ps : List Promise) → in_order record_id (flat ps) ≡ flat (in_order promise_id ps)
sorted_flat [] = refl
sorted_flat (p ∷ ps) = first p (flat ps) ∙ ap (insert_records p) (sorted_flat ps) ∙ insert_flat p (in_order promise_id ps)
  where
    first : (p : Promise) (xs : List Record) → in_order record_id (records_of p ++ xs) ≡ insert_records p (in_order record_id xs)
    first (LeafPromise id c key value) xs = refl
    first (Decision id s seats) xs = refl
    first (Vote id superior seats false) xs = refl
    first (Vote id superior seats true) xs = refl

-- promises of different ids are all kept
other : (i id : Numbers) → (i ≡ id → ⊥) → is_id i id ≡ false
other i id f = by_case (is_id i id) refl
  where
    by_case : (b : Bool) → is_id i id ≡ b → b ≡ false
    by_case true e = absurd (f (same_id i id e))
    by_case false e = refl

-- nothing of another id passes this test
abbrev IsAsleep : Numbers → (Record → Bool) → Type 0
IsAsleep id p = (q : Promise) → (promise_id q ≡ id → ⊥) → list_any p (records_of q) ≡ false

asleep : (id : Numbers) (p : Record → Bool) (ps : List Promise) → IsAsleep id p → AllByRecursion (λ q. promise_id q ≡ id → ⊥) ps → list_any p (flat ps) ≡ false
asleep id p [] f h = refl
asleep id p (q ∷ qs) f (h, k) = none_append p (records_of q) (flat qs) (f q h) (asleep id p qs f k)

test_one : (b : Bool) → b ≡ false → (b || false) ≡ false
test_one true e = absurd cc
test_one false e = refl

test_two : (b : Bool) → b ≡ false → ((b || false) || false) ≡ false
test_two true e = absurd cc
test_two false e = refl

leaf_asleep : (id : Numbers) → IsAsleep id (ends_leaf id)
leaf_asleep id (LeafPromise i c key value) f = test_two (is_id i id) (other i id f)
leaf_asleep id (Decision i s seats) f = test_one (is_id i id) (other i id f)
leaf_asleep id (Vote i superior seats true) f = test_two (is_id i id) (other i id f)
leaf_asleep id (Vote i superior seats false) f = test_two (is_id i id) (other i id f)

transaction_asleep : (id : Numbers) → IsAsleep id (ends_transaction id)
transaction_asleep id (LeafPromise i c key value) f = test_two (is_id i id) (other i id f)
transaction_asleep id (Decision i s seats) f = test_one (is_id i id) (other i id f)
transaction_asleep id (Vote i superior seats true) f = test_two (is_id i id) (other i id f)
transaction_asleep id (Vote i superior seats false) f = test_two (is_id i id) (other i id f)

commit_asleep : (id : Numbers) → IsAsleep id (is_sub_committed id)
commit_asleep id (LeafPromise i c key value) f = refl
commit_asleep id (Decision i s seats) f = refl
commit_asleep id (Vote i superior seats true) f = test_one (is_id i id) (other i id f)
commit_asleep id (Vote i superior seats false) f = refl

-- the SubCommitted of a vote
is_committed : (id : Numbers) (committed : Bool) (xs : List Record) → list_any (is_sub_committed id) xs ≡ false
    → list_any (is_sub_committed id) ((if committed then records.SubCommitted id ∷ [] else []) ++ xs) ≡ committed
is_committed id true xs h = ap (λ b. b || list_any (is_sub_committed id) xs) (self_id id)
is_committed id false xs h = h

still_awake : (id : Numbers) (committed : Bool) (xs : List Record) → list_any (ends_transaction id) xs ≡ false
    → list_any (ends_transaction id) ((if committed then records.SubCommitted id ∷ [] else []) ++ xs) ≡ false
still_awake id true xs h = h
still_awake id false xs h = h

same_promises : (id : Numbers) (committed : Bool) (xs : List Record) → promises_of ((if committed then records.SubCommitted id ∷ [] else []) ++ xs) ≡ promises_of xs
same_promises id true xs = refl
same_promises id false xs = refl

all_kept : (ps : List Promise) → AreDifferent promise_id ps → promises_of (flat ps) ≡ ps
all_kept [] h = refl
all_kept (LeafPromise id c key value ∷ ps) (h, k) = λ i.
    (if asleep id (ends_leaf id) ps (leaf_asleep id) h i then [] else LeafPromise id c key value ∷ []) ++ all_kept ps k i
all_kept (Decision id s seats ∷ ps) (h, k) = λ i.
    (if asleep id (ends_transaction id) ps (transaction_asleep id) h i then [] else Decision id s seats ∷ []) ++ all_kept ps k i
all_kept (Vote id superior seats committed ∷ ps) (h, k) = λ i.
    (if still_awake id committed (flat ps) (asleep id (ends_transaction id) ps (transaction_asleep id) h) i then []
    else Vote id superior seats (is_committed id committed (flat ps) (asleep id (is_sub_committed id) ps (commit_asleep id) h) i) ∷ [])
    ++ (same_promises id committed (flat ps) ∙ all_kept ps k) i

-- the items that promises stand for
abbrev with_item : {A : Type 0} → Option A → List A → List A
with_item None xs = xs
with_item (Some x) xs = x ∷ xs

abbrev items : {A : Type 0} → (Promise → Option A) → List Promise → List A
items f [] = []
items f (p ∷ ps) = with_item (f p) (items f ps)

abbrev promised_transaction : List ℕ → Promise → Option Transaction
promised_transaction base (LeafPromise id c key value) = None
promised_transaction base (Vote id superior seats committed) = Some (recovered_voted id superior seats committed)
promised_transaction base (Decision id s seats) = Some (recovered_decided base id (s ∷ seats))

abbrev promised_leaf : Promise → Option Leaf
promised_leaf (LeafPromise id c key value) = Some (recovered_leaf id c key value)
promised_leaf (Vote id superior seats committed) = None
promised_leaf (Decision id s seats) = None

same_transactions : (base : List ℕ) (id : Numbers) (committed : Bool) (xs : List Record)
    → transactions_of base ((if committed then records.SubCommitted id ∷ [] else []) ++ xs) ≡ transactions_of base xs
same_transactions base id true xs = refl
same_transactions base id false xs = refl

transactions_flat : (base : List ℕ) (ps : List Promise) → AreDifferent promise_id ps → transactions_of base (flat ps) ≡ items (promised_transaction base) ps
transactions_flat base [] h = refl
transactions_flat base (LeafPromise id c key value ∷ ps) (h, k) = transactions_flat base ps k
transactions_flat base (Decision id s seats ∷ ps) (h, k) = ap (λ ts. recovered_decided base id (s ∷ seats) ∷ ts) (transactions_flat base ps k)
transactions_flat base (Vote id superior seats committed ∷ ps) (h, k) = λ i.
    recovered_voted id superior seats (is_committed id committed (flat ps) (asleep id (is_sub_committed id) ps (commit_asleep id) h) i)
    ∷ (same_transactions base id committed (flat ps) ∙ transactions_flat base ps k) i

leaves_flat : (ps : List Promise) → leaves_of (flat ps) ≡ items promised_leaf ps
leaves_flat [] = refl
leaves_flat (LeafPromise id c key value ∷ ps) = ap (λ ls. recovered_leaf id c key value ∷ ls) (leaves_flat ps)
leaves_flat (Decision id s seats ∷ ps) = leaves_flat ps
leaves_flat (Vote id superior seats true ∷ ps) = leaves_flat ps
leaves_flat (Vote id superior seats false ∷ ps) = leaves_flat ps

-- items of promises in order are items in order
abbrev HasPromiseId : {A : Type 0} → (A → Numbers) → (Promise → Option A) → Type 0
HasPromiseId {A = A} key f = (p : Promise) (x : A) → f p ≡ Some x → key x ≡ promise_id p

before_not : (a b : Numbers) → is_before a b ≡ true → is_before b a ≡ false
before_not a b h = by_case (is_before b a) refl
  where
    no : (c : Bool) → c ≡ true → c ≡ false → ⊥
    no c e f = cc

    by_case : (c : Bool) → is_before b a ≡ c → c ≡ false
    by_case true e = absurd (no (is_before a a) (before_further a b a h e) (not_before a))
    by_case false e = refl

insert_first : {A : Type 0} (key : A → Numbers) (x : A) (ys : List A) → AllByRecursion (λ y. is_before (key x) (key y) ≡ true) ys → insert_by key x ys ≡ x ∷ ys
insert_first key x [] h = refl
insert_first key x (y ∷ ys) (h, k) = ap (λ b. if b then y ∷ insert_by key x ys else x ∷ (y ∷ ys)) (before_not (key x) (key y) h)

items_behind : {A : Type 0} (key : A → Numbers) (f : Promise → Option A) (id : Numbers) (ps : List Promise) → HasPromiseId key f
    → AllByRecursion (λ p. is_before id (promise_id p) ≡ true) ps → AllByRecursion (λ x. is_before id (key x) ≡ true) (items f ps)
items_behind key f id [] named h = tt
items_behind {A = A} key f id (p ∷ ps) named (h, k) = by_item (items_behind key f id ps named k) (f p) refl
  where
    by_item : AllByRecursion (λ x. is_before id (key x) ≡ true) (items f ps) → (o : Option A) → f p ≡ o → AllByRecursion (λ x. is_before id (key x) ≡ true) (with_item o (items f ps))
    by_item rest None e = rest
    by_item rest (Some x) e = (ap (is_before id) (named p x e) ∙ h, rest)

abbrev with_insert : {A : Type 0} → (A → Numbers) → Option A → List A → List A
with_insert key None xs = xs
with_insert key (Some x) xs = insert_by key x xs

insert_items : {A : Type 0} (key : A → Numbers) (f : Promise → Option A) (p : Promise) (qs : List Promise) → HasPromiseId key f → AreRising (map promise_id qs)
    → AllByRecursion (λ q. promise_id q ≡ promise_id p → ⊥) qs → items f (insert_by promise_id p qs) ≡ with_insert key (f p) (items f qs)
insert_items {A = A} key f p [] named h differ = by_item (f p)
  where
    by_item : (o : Option A) → with_item o [] ≡ with_insert key o []
    by_item None = refl
    by_item (Some x) = refl
insert_items {A = A} key f p (d ∷ ds) named (h, k) (differ, differs) = by_case (insert_items key f p ds named k differs) (is_before (promise_id d) (promise_id p)) refl
  where
    passes : (o : Option A) → f p ≡ o → is_before (promise_id d) (promise_id p) ≡ true → (e : Option A) → f d ≡ e → with_item e (with_insert key o (items f ds)) ≡ with_insert key o (with_item e (items f ds))
    passes None g t e i = refl
    passes (Some x) g t None i = refl
    passes (Some x) g t (Some y) i =
        ap (λ b. if b then y ∷ insert_by key x (items f ds) else x ∷ (y ∷ items f ds))
        (sym t ∙ (λ j. is_before (sym (named d y i) j) (sym (named p x g) j)))

    stops : is_before (promise_id d) (promise_id p) ≡ false → (o : Option A) → f p ≡ o → with_item o (with_item (f d) (items f ds)) ≡ with_insert key o (with_item (f d) (items f ds))
    stops t None g = refl
    stops t (Some x) g =
        sym (insert_first key x (with_item (f d) (items f ds))
        (subst (λ id. AllByRecursion (λ y. is_before id (key y) ≡ true) (items f (d ∷ ds))) (sym (named p x g))
        (items_behind key f (promise_id p) (d ∷ ds) named (
          one_before (promise_id p) (promise_id d) differ t,
          all_more (λ q. is_before (promise_id d) (promise_id q) ≡ true) (λ q. is_before (promise_id p) (promise_id q) ≡ true) ds
              (λ q i. before_further (promise_id p) (promise_id d) (promise_id q) (one_before (promise_id p) (promise_id d) differ t) i)
              (unmapped (λ i. is_before (promise_id d) i ≡ true) promise_id ds h),
        ))))

    by_case : items f (insert_by promise_id p ds) ≡ with_insert key (f p) (items f ds) → (b : Bool) → is_before (promise_id d) (promise_id p) ≡ b
        → items f (if b then d ∷ insert_by promise_id p ds else p ∷ (d ∷ ds)) ≡ with_insert key (f p) (with_item (f d) (items f ds))
    by_case rest true t = ap (with_item (f d)) rest ∙ passes (f p) refl t (f d) refl
    by_case rest false t = stops t (f p) refl

sorted_items : {A : Type 0} (key : A → Numbers) (f : Promise → Option A) (ps : List Promise) → HasPromiseId key f → AreDifferent promise_id ps
    → items f (in_order promise_id ps) ≡ in_order key (items f ps)
sorted_items key f [] named h = refl
sorted_items {A = A} key f (p ∷ ps) named (h, k) =
    insert_items key f p (in_order promise_id ps) named (in_order_rising promise_id ps k) (all_in_order (λ q. promise_id q ≡ promise_id p → ⊥) promise_id ps h)
    ∙ ap (with_insert key (f p)) (sorted_items key f ps named k) ∙ by_item (f p)
  where
    by_item : (o : Option A) → with_insert key o (in_order key (items f ps)) ≡ in_order key (with_item o (items f ps))
    by_item None = refl
    by_item (Some x) = refl

sorted_twice : {A : Type 0} (key : A → Numbers) (xs : List A) → AreRising (map key xs) → in_order key xs ≡ xs
sorted_twice key [] h = refl
sorted_twice key (x ∷ xs) (h, k) = ap (insert_by key x) (sorted_twice key xs k) ∙ insert_first key x xs (unmapped (λ i. is_before (key x) i ≡ true) key xs h)

items_twice : {A : Type 0} (key : A → Numbers) (f : Promise → Option A) (ps : List Promise) → HasPromiseId key f → AreDifferent promise_id ps → AreDifferent key (items f ps)
    → in_order key (items f (in_order promise_id ps)) ≡ in_order key (items f ps)
items_twice key f ps named h k =
    ap (in_order key) (sorted_items key f ps named h) ∙ sorted_twice key (in_order key (items f ps)) (in_order_rising key (items f ps) k)

transaction_named : (base : List ℕ) → HasPromiseId transaction_id (promised_transaction base)
transaction_named base (LeafPromise id c key value) x e = absurd cc
transaction_named base (Vote id superior seats true) x e = let same : recovered_voted id superior seats true ≡ x = cc in ap (λ t. t.id) (sym same)
transaction_named base (Vote id superior seats false) x e = let same : recovered_voted id superior seats false ≡ x = cc in ap (λ t. t.id) (sym same)
transaction_named base (Decision id s seats) x e = let same : recovered_decided base id (s ∷ seats) ≡ x = cc in ap (λ t. t.id) (sym same)

leaf_named : HasPromiseId leaf_id promised_leaf
leaf_named (LeafPromise id c key value) x e = let same : recovered_leaf id c key value ≡ x = cc in ap (λ l. l.id) (sym same)
leaf_named (Vote id superior seats committed) x e = absurd cc
leaf_named (Decision id s seats) x e = absurd cc

-- the compacted records
abbrev promised : List Record → List Promise
promised rs = in_order promise_id (promises_of rs)

sorted_different : (ps : List Promise) → AreDifferent promise_id ps → AreDifferent promise_id (in_order promise_id ps)
sorted_different [] h = tt
sorted_different (p ∷ ps) (h, k) = inserted p (in_order promise_id ps) (all_in_order (λ q. promise_id q ≡ promise_id p → ⊥) promise_id ps h) (sorted_different ps k)
  where
    all_inserted : (P : Promise → Type 0) (p : Promise) (qs : List Promise) → P p → AllByRecursion P qs → AllByRecursion P (insert_by promise_id p qs)
    all_inserted P p [] h k = (h, tt)
    all_inserted P p (q ∷ qs) h (i, is) = by_case (all_inserted P p qs h is) (is_before (promise_id q) (promise_id p))
      where
        by_case : AllByRecursion P (insert_by promise_id p qs) → (b : Bool) → AllByRecursion P (if b then q ∷ insert_by promise_id p qs else p ∷ (q ∷ qs))
        by_case rest true = (i, rest)
        by_case rest false = (h, (i, is))

    inserted : (p : Promise) (qs : List Promise) → AllByRecursion (λ q. promise_id q ≡ promise_id p → ⊥) qs → AreDifferent promise_id qs → AreDifferent promise_id (insert_by promise_id p qs)
    inserted p [] h k = (tt, tt)
    inserted p (q ∷ qs) (h, hs) (k, ks) = by_case (inserted p qs hs ks) (is_before (promise_id q) (promise_id p))
      where
        by_case : AreDifferent promise_id (insert_by promise_id p qs) → (b : Bool) → AreDifferent promise_id (if b then q ∷ insert_by promise_id p qs else p ∷ (q ∷ qs))
        by_case rest true = (all_inserted (λ r. promise_id r ≡ promise_id q → ⊥) p qs (λ e. h (sym e)) k, rest)
        by_case rest false = ((h, hs), (k, ks))

in_order_flat : (rs : List Record) → in_order record_id (live rs) ≡ flat (promised rs)
in_order_flat rs = ap (in_order record_id) (live_flat rs) ∙ sorted_flat (promises_of rs)

live_sorted : (rs : List Record) → live (flat (promised rs)) ≡ flat (promised rs)
live_sorted rs = live_flat (flat (promised rs)) ∙ ap flat (all_kept (promised rs) (sorted_different (promises_of rs) (promises_different rs)))

-- the kept outcomes keep nothing else alive
none_done : (p : Record → Bool) → ((id : Numbers) → p (records.Done id) ≡ false) → (ids : List Numbers) → list_any p (map records.Done ids) ≡ false
none_done p f [] = refl
none_done p f (id ∷ ids) = ap (λ b. b || list_any p (map records.Done ids)) (f id) ∙ none_done p f ids

test_dones : (p : Record → Bool) → ((id : Numbers) → p (records.Done id) ≡ false) → (ids : List Numbers) (xs : List Record) → list_any p (xs ++ map records.Done ids) ≡ list_any p xs
test_dones p f ids [] = none_done p f ids
test_dones p f ids (x ∷ xs) = ap (λ b. p x || b) (test_dones p f ids xs)

live_dones : (ids : List Numbers) (xs : List Record) → live (xs ++ map records.Done ids) ≡ live xs
live_dones [] [] = refl
live_dones (id ∷ ids) [] = live_dones ids []
live_dones ids (records.LeafPrepared id c key value ∷ rest) = λ i.
    (if test_dones (ends_leaf id) (λ j. refl) ids rest i then [] else records.LeafPrepared id c key value ∷ []) ++ live_dones ids rest i
live_dones ids (records.Voted id superior seats ∷ rest) = λ i.
    (if test_dones (ends_transaction id) (λ j. refl) ids rest i then []
    else records.Voted id superior seats ∷ (if test_dones (is_sub_committed id) (λ j. refl) ids rest i then records.SubCommitted id ∷ [] else []))
    ++ live_dones ids rest i
live_dones ids (records.Decided id seats ∷ rest) = λ i.
    (if no_seats seats || test_dones (ends_transaction id) (λ j. refl) ids rest i then [] else records.Decided id seats ∷ []) ++ live_dones ids rest i
live_dones ids (records.Start n ∷ rest) = live_dones ids rest
live_dones ids (records.LeafCommitted id ∷ rest) = live_dones ids rest
live_dones ids (records.LeafAborted id ∷ rest) = live_dones ids rest
live_dones ids (records.SubCommitted id ∷ rest) = live_dones ids rest
live_dones ids (records.Ended id ∷ rest) = live_dones ids rest
live_dones ids (records.Done id ∷ rest) = live_dones ids rest

live_compacted : (rs : List Record) → live (compacted rs) ≡ in_order record_id (live rs)
live_compacted rs =
    live_dones (outcomes_after [] rs) (in_order record_id (live rs)) ∙ ap live (in_order_flat rs) ∙ live_sorted rs ∙ sym (in_order_flat rs)

transactions_same : (base : List ℕ) (rs : List Record) → in_order transaction_id (transactions_of base (live (compacted rs))) ≡ in_order transaction_id (transactions_of base (live rs))
transactions_same base rs =
    ap (λ xs. in_order transaction_id (transactions_of base xs)) (live_compacted rs ∙ in_order_flat rs)
    ∙ ap (in_order transaction_id) (transactions_flat base (promised rs) (sorted_different (promises_of rs) (promises_different rs)))
    ∙ items_twice transaction_id (promised_transaction base) (promises_of rs) (transaction_named base) (promises_different rs)
    (subst (AreDifferent transaction_id) is (transactions_different base rs))
    ∙ ap (in_order transaction_id) (sym is)
  where
    is : transactions_of base (live rs) ≡ items (promised_transaction base) (promises_of rs)
    is = ap (transactions_of base) (live_flat rs) ∙ transactions_flat base (promises_of rs) (promises_different rs)

leaves_same : (rs : List Record) → in_order leaf_id (leaves_of (live (compacted rs))) ≡ in_order leaf_id (leaves_of (live rs))
leaves_same rs =
    ap (λ xs. in_order leaf_id (leaves_of xs)) (live_compacted rs ∙ in_order_flat rs)
    ∙ ap (in_order leaf_id) (leaves_flat (promised rs))
    ∙ items_twice leaf_id promised_leaf (promises_of rs) leaf_named (promises_different rs) (subst (AreDifferent leaf_id) is (leaves_different rs))
    ∙ ap (in_order leaf_id) (sym is)
  where
    is : leaves_of (live rs) ≡ items promised_leaf (promises_of rs)
    is = ap leaves_of (live_flat rs) ∙ leaves_flat (promises_of rs)

-- the incarnation
most_of : (n : ℕ) (rs : List Record) → AllByRecursion (λ r. incarnation_of r < n + 1) rs → max n (last_incarnation rs) ≡ n
most_of n rs h = capped n (last_incarnation rs) (most n rs h)
  where
    capped : (n m : ℕ) → m ≤ n → max n m ≡ n
    capped n m h = omega (arith, h)

    larger : (n a b : ℕ) → a < n + 1 → b ≤ n → max a b ≤ n
    larger n a b h k = omega (arith, h, k)

    most : (n : ℕ) (rs : List Record) → AllByRecursion (λ r. incarnation_of r < n + 1) rs → last_incarnation rs ≤ n
    most n [] h = omega arith
    most n (r ∷ rs) (h, k) = larger n (incarnation_of r) (last_incarnation rs) h (most n rs k)

incarnation_same : (rs : List Record) → last_incarnation (compacted rs) ≡ last_incarnation rs
incarnation_same rs =
    most_of (last_incarnation rs) (in_order record_id (live rs) ++ map records.Done (outcomes_after [] rs))
    (all_join (λ r. incarnation_of r < last_incarnation rs + 1) (in_order record_id (live rs)) (map records.Done (outcomes_after [] rs))
    (all_in_order (λ r. incarnation_of r < last_incarnation rs + 1) record_id (live rs)
    (all_live (λ r. incarnation_of r < last_incarnation rs + 1) rs (λ id superior seats i. i) (incarnations_rise rs).1))
    (outcomes_below rs))

pub recovers_the_compacted : RecoversTheCompacted
recovers_the_compacted = record {
  book = λ base rs i. record {
    base = base;
    incarnation = incarnation_same rs i;
    counter = 0;
    seen = 0;
    outcomes = outcomes_again rs i;
    transactions = transactions_same base rs i;
    leaves = leaves_same rs i;
    activities = [];
  };
  live = live_compacted;
}
