-- The item that is asked next is the first that is due of those that come behind.
use Rattle.std.specs.Prelude.{ℕ, List, [], ◌∷◌, ◌++◌, Option, Some, None, Bool, true, false, nat_eq, nat_lt, ◌&&◌, ◌||◌, if◌then◌else◌, map, filter, find, option_map, ◌≡◌, ◌<◌, ◌⊎◌, refl}
use Rattle.std.specs.List.{AllByRecursion}
use Rattle.std.proofs.Common.{inl, inr, sym, subst, ap, arith, ◌∙◌, eq-eqb}
use Rattle.std.proofs.lemmas.Bool.{eqb-true, ltb-true, lt-ltb, true≢false}
use Rattle.at_base.specs.Numbers.{Numbers}
use Rattle.at_base.specs.declared.event.Item.{Item}
use Rattle.at_base.specs.declared.event.Item.TheVariants as items
use Rattle.at_model.specs.Book.{Book, is_id, find_by, transaction_id, leaf_id, activity_id}
use Rattle.endpoints.specs.Addresses.{or_else}
use Rattle.at_model.specs.Due.{transaction_due, leaf_due, activity_due}
use Rattle.model_laws.specs.Order.{AreRising, IsRising}
use Rattle.at_model.specs.Recovery.{is_before}
use Rattle.at_model.specs.Step.{moment_of, is_reached, is_due, is_due_at, transaction_item, leaf_item, activity_item, items_of}
use Rattle.by_id.specs.Lists.{is_behind, next_due}
use Rattle.interposition.specs.Due.{next_item, next_activity, comes_behind, first_due, FindsTheDue}

-- lists
pub all_more : {A : Type 0} (P Q : A → Type 0) (xs : List A) → ((x : A) → P x → Q x) → AllByRecursion P xs → AllByRecursion Q xs
all_more P Q [] f h = tt
all_more P Q (x ∷ xs) f (h, k) = (f x h, all_more P Q xs f k)

pub all_join : {A : Type 0} (P : A → Type 0) (xs ys : List A) → AllByRecursion P xs → AllByRecursion P ys → AllByRecursion P (xs ++ ys)
all_join P [] ys h k = k
all_join P (x ∷ xs) ys (h, i) k = (h, all_join P xs ys i k)

-- of a map, and back
pub all_map : {A B : Type 0} (P : B → Type 0) (f : A → B) (xs : List A) → AllByRecursion (λ x. P (f x)) xs → AllByRecursion P (map f xs)
all_map P f [] h = tt
all_map P f (x ∷ xs) (h, k) = (h, all_map P f xs k)

pub all_keys : {A : Type 0} (P : Numbers → Type 0) (key : A → Numbers) (xs : List A) → AllByRecursion P (map key xs) → AllByRecursion (λ x. P (key x)) xs
all_keys P key [] h = tt
all_keys P key (x ∷ xs) (h, k) = (h, all_keys P key xs k)

pub each : {A : Type 0} (P : A → Type 0) (xs : List A) → ((x : A) → P x) → AllByRecursion P xs
each P [] f = tt
each P (x ∷ xs) f = (f x, each P xs f)

pub all_found : {A : Type 0} (P : A → Type 0) (p : A → Bool) (xs : List A) (x : A) → AllByRecursion P xs → find p xs ≡ Some x → P x
all_found P p [] x h e = absurd cc
all_found P p (y ∷ ys) x (h, k) e = at (λ f. all_found P p ys x k f) (p y) e
  where
    at : (find p ys ≡ Some x → P x) → (b : Bool) → (if b then Some y else find p ys) ≡ Some x → P x
    at rest true e = let f : y ≡ x = cc in subst P f h
    at rest false e = rest e

-- filters
pub filter_all : {A : Type 0} (q : A → Bool) (xs : List A) → AllByRecursion (λ x. q x ≡ true) xs → filter q xs ≡ xs
filter_all q [] h = refl
filter_all q (x ∷ xs) (h, k) = ap (λ b. if b then x ∷ filter q xs else filter q xs) h ∙ ap (λ l. x ∷ l) (filter_all q xs k)

pub filter_join : {A : Type 0} (q : A → Bool) (xs ys : List A) → filter q (xs ++ ys) ≡ filter q xs ++ filter q ys
filter_join q [] ys = refl
filter_join q (x ∷ xs) ys = at (q x) (filter_join q xs ys)
  where
    at : (b : Bool) → filter q (xs ++ ys) ≡ filter q xs ++ filter q ys
        → (if b then x ∷ filter q (xs ++ ys) else filter q (xs ++ ys)) ≡ (if b then x ∷ filter q xs else filter q xs) ++ filter q ys
    at true e = ap (λ l. x ∷ l) e
    at false e = e

find_join : {A : Type 0} (p : A → Bool) (xs ys : List A) → find p (xs ++ ys) ≡ or_else (find p xs) (find p ys)
find_join p [] ys = refl
find_join p (x ∷ xs) ys = at (p x) (find_join p xs ys)
  where
    at : (b : Bool) → find p (xs ++ ys) ≡ or_else (find p xs) (find p ys) → (if b then Some x else find p (xs ++ ys)) ≡ or_else (if b then Some x else find p xs) (find p ys)
    at true e = refl
    at false e = e

-- ids
pub before_means : (a b : Numbers) → is_before a b ≡ true → (a.incarnation < b.incarnation) ⊎ ((a.incarnation ≡ b.incarnation) × (a.counter < b.counter))
before_means a b h = elim (either (nat_lt a.incarnation b.incarnation) (nat_eq a.incarnation b.incarnation && nat_lt a.counter b.counter) h) [
  | inl e ↦ inl (ltb-true a.incarnation b.incarnation e)
  | inr e ↦ inr (eqb-true a.incarnation b.incarnation (both _ _ e).0, ltb-true a.counter b.counter (both _ _ e).1)
]
  where
    either : (p q : Bool) → (p || q) ≡ true → (p ≡ true) ⊎ (q ≡ true)
    either true q e = inl refl
    either false q e = inr e

    both : (p q : Bool) → (p && q) ≡ true → (p ≡ true) × (q ≡ true)
    both true q e = (refl, e)
    both false q e = absurd cc

before_first : (a b : Numbers) → a.incarnation < b.incarnation → is_before a b ≡ true
before_first a b h = ap (λ p. p || (nat_eq a.incarnation b.incarnation && nat_lt a.counter b.counter)) (lt-ltb a.incarnation b.incarnation h)

before_then : (a b : Numbers) → a.incarnation ≡ b.incarnation → a.counter < b.counter → is_before a b ≡ true
before_then a b e h =
    any (nat_lt a.incarnation b.incarnation) (nat_eq a.incarnation b.incarnation) (nat_lt a.counter b.counter) (eq-eqb a.incarnation b.incarnation e) (lt-ltb a.counter b.counter h)
  where
    any : (p q r : Bool) → q ≡ true → r ≡ true → (p || (q && r)) ≡ true
    any true q r f g = refl
    any false true r f g = g
    any false false r f g = absurd cc

further : (a b c : Numbers) → (a.incarnation < b.incarnation) ⊎ ((a.incarnation ≡ b.incarnation) × (a.counter < b.counter))
    → (b.incarnation < c.incarnation) ⊎ ((b.incarnation ≡ c.incarnation) × (b.counter < c.counter)) → is_before a c ≡ true
further a b c (inl h) (inl k) = before_first a c (omega (arith, h, k))
further a b c (inl h) (inr (e, k)) = before_first a c (omega (arith, h, e))
further a b c (inr (e, h)) (inl k) = before_first a c (omega (arith, e, k))
further a b c (inr (e, h)) (inr (f, k)) = before_then a c (e ∙ f) (omega (arith, h, k))

pub before_further : (a b c : Numbers) → is_before a b ≡ true → is_before b c ≡ true → is_before a c ≡ true
before_further a b c h k = further a b c (before_means a b h) (before_means b c k)

not_true : (b : Bool) → (b ≡ true → ⊥) → b ≡ false
not_true true h = absurd (h refl)
not_true false h = refl

never_both : (a b : Numbers) → (a.incarnation < b.incarnation) ⊎ ((a.incarnation ≡ b.incarnation) × (a.counter < b.counter))
    → (b.incarnation < a.incarnation) ⊎ ((b.incarnation ≡ a.incarnation) × (b.counter < a.counter)) → ⊥
never_both a b (inl h) (inl k) = omega (arith, h, k)
never_both a b (inl h) (inr (e, k)) = omega (arith, h, e)
never_both a b (inr (e, h)) (inl k) = omega (arith, e, k)
never_both a b (inr (e, h)) (inr (f, k)) = omega (arith, h, k)

pub not_back : (a b : Numbers) → is_before a b ≡ true → is_before b a ≡ false
not_back a b h = not_true (is_before b a) (λ k. never_both a b (before_means a b h) (before_means b a k))

pub not_itself : (a : Numbers) → is_before a a ≡ false
not_itself a = not_true (is_before a a) (λ k. never_both a a (before_means a a k) (before_means a a k))

pub same_id : (a b : Numbers) → is_id a b ≡ true → a ≡ b
same_id a b e = join (both _ _ e)
  where
    both : (p q : Bool) → (p && q) ≡ true → (p ≡ true) × (q ≡ true)
    both true q e = (refl, e)
    both false q e = absurd cc

    join : (nat_eq a.incarnation b.incarnation ≡ true) × (nat_eq a.counter b.counter ≡ true) → a ≡ b
    join (f, g) = λ i. record { incarnation = eqb-true a.incarnation b.incarnation f i; counter = eqb-true a.counter b.counter g i }

pub self_id : (a : Numbers) → is_id a a ≡ true
self_id a = grind (arith, eq-eqb a.incarnation a.incarnation refl, eq-eqb a.counter a.counter refl)

-- an id before another is not that one
pub other_id : (a b : Numbers) → is_before a b ≡ true → is_id a b ≡ false
other_id a b h = not_true (is_id a b) (λ e. true≢false (sym (subst (λ i. is_before i b ≡ true) (same_id a b e) h) ∙ not_itself b))

-- in a list in order each item is found by its id
finds_each : {A : Type 0} (key : A → Numbers) (xs : List A) → AreRising (map key xs) → AllByRecursion (λ x. find_by key (key x) xs ≡ Some x) xs
finds_each key [] h = tt
finds_each {A = A} key (x ∷ xs) (h, k) =
    (ap (λ b. if b then Some x else find_by key (key x) xs) (self_id (key x)), behind_first xs (all_keys (λ i. is_before (key x) i ≡ true) key xs h) (finds_each key xs k))
  where
    behind_first : (ys : List A) → AllByRecursion (λ y. is_before (key x) (key y) ≡ true) ys → AllByRecursion (λ y. find_by key (key y) xs ≡ Some y) ys
        → AllByRecursion (λ y. find_by key (key y) (x ∷ xs) ≡ Some y) ys
    behind_first [] h k = tt
    behind_first (y ∷ ys) (h, hs) (k, ks) = (ap (λ b. if b then Some x else find_by key (key y) xs) (other_id (key x) (key y) h) ∙ k, behind_first ys hs ks)

-- whether the items of a list are due
due_each : {A : Type 0} (key : A → Numbers) (due : A → Bool) (ask : Numbers → Bool) (at : Option A → Bool) (whole xs : List A) → ((i : Numbers) → ask i ≡ at (find_by key i whole))
    → ((x : A) → at (Some x) ≡ due x) → AllByRecursion (λ x. find_by key (key x) whole ≡ Some x) xs → AllByRecursion (λ x. ask (key x) ≡ due x) xs
due_each key due ask at whole [] f g h = tt
due_each key due ask at whole (x ∷ xs) f g (h, k) = (f (key x) ∙ ap at h ∙ g x, due_each key due ask at whole xs f g k)

-- one list
found_in : {A : Type 0} (p q : Item → Bool) (item : Numbers → Item) (key : A → Numbers) (due : A → Bool) (after : Option Numbers) (xs : List A)
    → ((i : Numbers) → q (item i) ≡ is_behind after i) → AllByRecursion (λ x. p (item (key x)) ≡ due x) xs
    → find p (filter q (map (λ x. item (key x)) xs)) ≡ option_map item (next_due key due after xs)
found_in p q item key due after [] same h = refl
found_in p q item key due after (x ∷ xs) same (h, k) =
    ap (λ b. find p (if b then item (key x) ∷ filter q (map (λ y. item (key y)) xs) else filter q (map (λ y. item (key y)) xs))) (same (key x))
    ∙ at (is_behind after (key x)) (due x) h (found_in p q item key due after xs same k)
  where
    at : (a d : Bool) → p (item (key x)) ≡ d → find p (filter q (map (λ y. item (key y)) xs)) ≡ option_map item (next_due key due after xs)
        → find p (if a then item (key x) ∷ filter q (map (λ y. item (key y)) xs) else filter q (map (λ y. item (key y)) xs))
        ≡ option_map item (if a && d then Some (key x) else next_due key due after xs)
    at true true e f = ap (λ b. if b then Some (item (key x)) else find p (filter q (map (λ y. item (key y)) xs))) e
    at true false e f = ap (λ b. if b then Some (item (key x)) else find p (filter q (map (λ y. item (key y)) xs))) e ∙ f
    at false d e f = f

none_in : {A : Type 0} (p q : Item → Bool) (item : Numbers → Item) (key : A → Numbers) (xs : List A) → ((i : Numbers) → q (item i) ≡ false)
    → find p (filter q (map (λ x. item (key x)) xs)) ≡ None
none_in p q item key [] f = refl
none_in p q item key (x ∷ xs) f =
    ap (λ b. find p (if b then item (key x) ∷ filter q (map (λ y. item (key y)) xs) else filter q (map (λ y. item (key y)) xs))) (f (key x)) ∙ none_in p q item key xs f

-- the three lists
transactions_found : (b : Book) (now : ℕ) (q : Item → Bool) (after : Option Numbers) → IsRising b → ((i : Numbers) → q (items.Transaction i) ≡ is_behind after i)
    → find (is_due b now) (filter q (map transaction_item b.transactions))
    ≡ option_map items.Transaction (next_due transaction_id (λ t. is_reached (transaction_due (moment_of b now) t)) after b.transactions)
transactions_found b now q after h same =
    found_in (is_due b now) q items.Transaction transaction_id (λ t. is_reached (transaction_due (moment_of b now) t)) after b.transactions same
    (due_each transaction_id (λ t. is_reached (transaction_due (moment_of b now) t)) (λ i. is_due b now (items.Transaction i)) (is_due_at (transaction_due (moment_of b now)))
    b.transactions b.transactions (λ i. refl) (λ t. refl) (finds_each transaction_id b.transactions h.transactions))

leaves_found : (b : Book) (now : ℕ) (q : Item → Bool) (after : Option Numbers) → IsRising b → ((i : Numbers) → q (items.Leaf i) ≡ is_behind after i)
    → find (is_due b now) (filter q (map leaf_item b.leaves))
    ≡ option_map items.Leaf (next_due leaf_id (λ l. is_reached (leaf_due (moment_of b now) l)) after b.leaves)
leaves_found b now q after h same =
    found_in (is_due b now) q items.Leaf leaf_id (λ l. is_reached (leaf_due (moment_of b now) l)) after b.leaves same
    (due_each leaf_id (λ l. is_reached (leaf_due (moment_of b now) l)) (λ i. is_due b now (items.Leaf i)) (is_due_at (leaf_due (moment_of b now)))
    b.leaves b.leaves (λ i. refl) (λ l. refl) (finds_each leaf_id b.leaves h.leaves))

activities_found : (b : Book) (now : ℕ) (q : Item → Bool) (after : Option Numbers) → IsRising b → ((i : Numbers) → q (items.Activity i) ≡ is_behind after i)
    → find (is_due b now) (filter q (map activity_item b.activities)) ≡ next_activity b now after
activities_found b now q after h same =
    found_in (is_due b now) q items.Activity activity_id (λ a. is_reached (activity_due (moment_of b now) a)) after b.activities same
    (due_each activity_id (λ a. is_reached (activity_due (moment_of b now) a)) (λ i. is_due b now (items.Activity i)) (is_due_at (activity_due (moment_of b now)))
    b.activities b.activities (λ i. refl) (λ a. refl) (finds_each activity_id b.activities h.activities))

parted : (b : Book) (now : ℕ) (q : Item → Bool) → find (is_due b now) (filter q (items_of b))
    ≡ or_else (find (is_due b now) (filter q (map transaction_item b.transactions)))
    (or_else (find (is_due b now) (filter q (map leaf_item b.leaves))) (find (is_due b now) (filter q (map activity_item b.activities))))
parted b now q =
    ap (find (is_due b now)) (filter_join q (map transaction_item b.transactions) (map leaf_item b.leaves ++ map activity_item b.activities))
    ∙ find_join (is_due b now) (filter q (map transaction_item b.transactions)) (filter q (map leaf_item b.leaves ++ map activity_item b.activities))
    ∙ ap (or_else (find (is_due b now) (filter q (map transaction_item b.transactions))))
    (ap (find (is_due b now)) (filter_join q (map leaf_item b.leaves) (map activity_item b.activities))
    ∙ find_join (is_due b now) (filter q (map leaf_item b.leaves)) (filter q (map activity_item b.activities)))

three : {A : Type 0} (a b c d e f : Option A) → a ≡ d → b ≡ e → c ≡ f → or_else a (or_else b c) ≡ or_else d (or_else e f)
three a b c d e f h i j = λ k. or_else (h k) (or_else (i k) (j k))

first : (b : Book) (now : ℕ) (after : Option Item) → IsRising b → first_due b now after ≡ next_item b now after
first b now None h =
    parted b now (comes_behind None)
    ∙ three _ _ _ _ _ _ (transactions_found b now (comes_behind None) None h (λ i. refl)) (leaves_found b now (comes_behind None) None h (λ i. refl))
    (activities_found b now (comes_behind None) None h (λ i. refl))
first b now (Some (items.Transaction id)) h =
    let q : Item → Bool = comes_behind (Some (items.Transaction id)) in
    parted b now q
    ∙ three _ _ _ _ _ _ (transactions_found b now q (Some id) h (λ i. refl)) (leaves_found b now q None h (λ i. refl)) (activities_found b now q None h (λ i. refl))
first b now (Some (items.Leaf id)) h =
    let q : Item → Bool = comes_behind (Some (items.Leaf id)) in
    parted b now q
    ∙ three _ _ _ None _ _ (none_in (is_due b now) q items.Transaction transaction_id b.transactions (λ i. refl))
    (leaves_found b now q (Some id) h (λ i. refl)) (activities_found b now q None h (λ i. refl))
first b now (Some (items.Activity id)) h =
    let q : Item → Bool = comes_behind (Some (items.Activity id)) in
    parted b now q
    ∙ three _ _ _ None None _ (none_in (is_due b now) q items.Transaction transaction_id b.transactions (λ i. refl))
    (none_in (is_due b now) q items.Leaf leaf_id b.leaves (λ i. refl)) (activities_found b now q (Some id) h (λ i. refl))

-- the items of a book in order, each of which comes behind those before it
abbrev pub AreSorted : List Item → Type 0
AreSorted [] = Unit {0}
AreSorted (x ∷ xs) = AllByRecursion (λ y. comes_behind (Some x) y ≡ true) xs × AreSorted xs

pub not_behind_back : (x y : Item) → comes_behind (Some x) y ≡ true → comes_behind (Some y) x ≡ false
not_behind_back (items.Transaction a) (items.Transaction b) h = not_back a b h
not_behind_back (items.Transaction a) (items.Leaf b) h = refl
not_behind_back (items.Transaction a) (items.Activity b) h = refl
not_behind_back (items.Leaf a) (items.Transaction b) h = absurd cc
not_behind_back (items.Leaf a) (items.Leaf b) h = not_back a b h
not_behind_back (items.Leaf a) (items.Activity b) h = refl
not_behind_back (items.Activity a) (items.Transaction b) h = absurd cc
not_behind_back (items.Activity a) (items.Leaf b) h = absurd cc
not_behind_back (items.Activity a) (items.Activity b) h = not_back a b h

pub not_behind_itself : (x : Item) → comes_behind (Some x) x ≡ false
not_behind_itself (items.Transaction a) = not_itself a
not_behind_itself (items.Leaf a) = not_itself a
not_behind_itself (items.Activity a) = not_itself a

sorted_list : {A : Type 0} (item : Numbers → Item) (key : A → Numbers) (xs : List A) → ((a b : Numbers) → is_before a b ≡ true → comes_behind (Some (item a)) (item b) ≡ true)
    → AreRising (map key xs) → AreSorted (map (λ x. item (key x)) xs)
sorted_list item key [] f h = tt
sorted_list item key (x ∷ xs) f (h, k) = (
  all_map (λ y. comes_behind (Some (item (key x))) y ≡ true) (λ y. item (key y)) xs
      (all_more (λ y. is_before (key x) (key y) ≡ true) (λ y. comes_behind (Some (item (key x))) (item (key y)) ≡ true) xs (λ y. f (key x) (key y))
      (all_keys (λ i. is_before (key x) i ≡ true) key xs h)),
  sorted_list item key xs f k,
)

sorted_join : (xs ys : List Item) → AreSorted xs → AreSorted ys → AllByRecursion (λ x. AllByRecursion (λ y. comes_behind (Some x) y ≡ true) ys) xs → AreSorted (xs ++ ys)
sorted_join [] ys h k all = k
sorted_join (x ∷ xs) ys (h, i) k (a, all) = (all_join (λ y. comes_behind (Some x) y ≡ true) xs ys h a, sorted_join xs ys i k all)

pub sorted_items : (b : Book) → IsRising b → AreSorted (items_of b)
sorted_items b h =
    sorted_join (map transaction_item b.transactions) (map leaf_item b.leaves ++ map activity_item b.activities)
    (sorted_list items.Transaction transaction_id b.transactions (λ x y e. e) h.transactions)
    (sorted_join (map leaf_item b.leaves) (map activity_item b.activities)
    (sorted_list items.Leaf leaf_id b.leaves (λ x y e. e) h.leaves) (sorted_list items.Activity activity_id b.activities (λ x y e. e) h.activities)
    (all_map (λ x. AllByRecursion (λ y. comes_behind (Some x) y ≡ true) (map activity_item b.activities)) leaf_item b.leaves
    (each (λ l. AllByRecursion (λ y. comes_behind (Some (leaf_item l)) y ≡ true) (map activity_item b.activities)) b.leaves
    (λ l. all_map (λ y. comes_behind (Some (leaf_item l)) y ≡ true) activity_item b.activities (each _ b.activities (λ a. refl))))))
    (all_map (λ x. AllByRecursion (λ y. comes_behind (Some x) y ≡ true) (map leaf_item b.leaves ++ map activity_item b.activities)) transaction_item b.transactions
    (each (λ t. AllByRecursion (λ y. comes_behind (Some (transaction_item t)) y ≡ true) (map leaf_item b.leaves ++ map activity_item b.activities)) b.transactions
    (λ t. all_join (λ y. comes_behind (Some (transaction_item t)) y ≡ true) (map leaf_item b.leaves) (map activity_item b.activities)
    (all_map (λ y. comes_behind (Some (transaction_item t)) y ≡ true) leaf_item b.leaves (each _ b.leaves (λ l. refl)))
    (all_map (λ y. comes_behind (Some (transaction_item t)) y ≡ true) activity_item b.activities (each _ b.activities (λ a. refl))))))

-- what follows an item
follows_in : (front : List Item) (item : Item) (rest : List Item) → AreSorted (front ++ item ∷ rest) → filter (comes_behind (Some item)) (front ++ item ∷ rest) ≡ rest
follows_in [] item rest (h, k) =
    ap (λ b. if b then item ∷ filter (comes_behind (Some item)) rest else filter (comes_behind (Some item)) rest) (not_behind_itself item)
    ∙ filter_all (comes_behind (Some item)) rest h
follows_in (x ∷ front) item rest (h, k) =
    ap (λ b. if b then x ∷ filter (comes_behind (Some item)) (front ++ item ∷ rest) else filter (comes_behind (Some item)) (front ++ item ∷ rest))
    (not_behind_back x item (all_middle (λ y. comes_behind (Some x) y ≡ true) front h)) ∙ follows_in front item rest k
  where
    all_middle : (P : Item → Type 0) (xs : List Item) → AllByRecursion P (xs ++ item ∷ rest) → P item
    all_middle P [] h = h.0
    all_middle P (y ∷ ys) h = all_middle P ys h.1

pub finds_the_due : FindsTheDue
finds_the_due = record {
  all = λ b. filter_all (comes_behind None) (items_of b) (each (λ x. comes_behind None x ≡ true) (items_of b) (λ x. refl));
  follows = λ b front item rest h e.
      ap (filter (comes_behind (Some item))) e ∙ follows_in front item rest (subst AreSorted e (sorted_items b h));
  first = λ b now after h. sym (first b now after h);
}
