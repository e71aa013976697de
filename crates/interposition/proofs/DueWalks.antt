-- Asking the items of a fixed list, each when its place comes, is finding the next due one again and again.
use Rattle.std.specs.Prelude.{ℕ, List, [], ◌∷◌, ◌++◌, Option, Some, None, Bool, true, false, if◌then◌else◌, length, map, filter, find, ◌≡◌, ◌≤◌, ◌<◌, ◌⊎◌, refl}
use Rattle.std.specs.List.{AllByRecursion}
use Rattle.std.proofs.Common.{inl, inr, sym, subst, ap, arith, ◌∙◌}
use Rattle.std.proofs.lemmas.Bool.{true≢false}
use Rattle.at_base.specs.Numbers.{Numbers}
use Rattle.at_base.specs.declared.record.Record.{Record}
use Rattle.at_base.specs.declared.event.Item.{Item}
use Rattle.at_base.specs.declared.event.Item.TheVariants as items
use Rattle.at_base.specs.declared.event.Event.TheVariants as events
use Rattle.at_base.specs.declared.outs.Out.{Out}
use Rattle.model_laws.specs.Agreement.{IsIn}
use Rattle.at_model.specs.Book.{Book, is_id, find_by, transaction_id, leaf_id, activity_id}
use Rattle.at_model.specs.Due.{transaction_due, leaf_due, activity_due}
use Rattle.model_laws.specs.Order.{AreRising, IsRising, AreOf, HoldsNoMore, IdsRise}
use Rattle.at_model.specs.Recovery.{is_before}
use Rattle.at_model.specs.Step.{Outcome, Plan, moment_of, is_due, is_due_at, transaction_item, leaf_item, items_of, plan}
use Rattle.at_model.specs.World.{Turning, is_stopped, after_fate, sent, fate, send_all, step_by, take_step, due_step, due_steps}
use Rattle.interposition.specs.Due.{next_item, comes_behind, items_behind, due_outcome, due_outcomes, WalksTheDue}
use Rattle.interposition.proofs.DueItems.{all_more, all_found, filter_all, before_further, self_id, same_id, other_id, not_behind_back, not_behind_itself, AreSorted, sorted_items, finds_the_due}

-- An item that is in no list of a book is not due, and never comes back.
abbrev pub IsGone : Book → Item → Type 0
IsGone b (items.Transaction id) = AllByRecursion (λ i. is_id i id ≡ false) (map transaction_id b.transactions)
IsGone b (items.Leaf id) = AllByRecursion (λ i. is_id i id ≡ false) (map leaf_id b.leaves)
IsGone b (items.Activity id) = AllByRecursion (λ i. is_id i id ≡ false) (map activity_id b.activities)

not_found : {A : Type 0} (key : A → Numbers) (id : Numbers) (xs : List A) → AllByRecursion (λ i. is_id i id ≡ false) (map key xs) → find_by key id xs ≡ None
not_found key id [] h = refl
not_found key id (x ∷ xs) (h, k) = ap (λ b. if b then Some x else find_by key id xs) h ∙ not_found key id xs k

not_due : (b : Book) (now : ℕ) (item : Item) → IsGone b item → is_due b now item ≡ false
not_due b now (items.Transaction id) h = ap (is_due_at (transaction_due (moment_of b now))) (not_found transaction_id id b.transactions h)
not_due b now (items.Leaf id) h = ap (is_due_at (leaf_due (moment_of b now))) (not_found leaf_id id b.leaves h)
not_due b now (items.Activity id) h = ap (is_due_at (activity_due (moment_of b now))) (not_found activity_id id b.activities h)

of_all : (P : Numbers → Type 0) (xs ys : List Numbers) → AreOf xs ys → AllByRecursion P xs → AllByRecursion P ys
of_all P xs [] h k = tt
of_all P [] (y ∷ ys) h k = absurd h
of_all P (x ∷ xs) (y ∷ ys) (inl h) (i, j) = of_all P xs (y ∷ ys) h j
of_all P (x ∷ xs) (y ∷ ys) (inr (e, h)) (i, j) = (subst P e i, of_all P xs ys h j)

stays_gone : (b c : Book) → HoldsNoMore b c → (item : Item) → IsGone b item → IsGone c item
stays_gone b c h (items.Transaction id) k = of_all (λ i. is_id i id ≡ false) (map transaction_id b.transactions) (map transaction_id c.transactions) h.transactions k
stays_gone b c h (items.Leaf id) k = of_all (λ i. is_id i id ≡ false) (map leaf_id b.leaves) (map leaf_id c.leaves) h.leaves k
stays_gone b c h (items.Activity id) k = of_all (λ i. is_id i id ≡ false) (map activity_id b.activities) (map activity_id c.activities) h.activities k

-- a list of items, and what is left of it without some that are gone
abbrev LessGone : (Item → Type 0) → List Item → List Item → Type 0
LessGone G [] [] = Unit {0}
LessGone G [] (y ∷ ys) = ⊥
LessGone G (x ∷ xs) [] = G x × LessGone G xs []
LessGone G (x ∷ xs) (y ∷ ys) = (G x × LessGone G xs (y ∷ ys)) ⊎ ((x ≡ y) × LessGone G xs ys)

left_out : (G : Item → Type 0) (x : Item) (xs ys : List Item) → G x → LessGone G xs ys → LessGone G (x ∷ xs) ys
left_out G x xs [] g h = (g, h)
left_out G x xs (y ∷ ys) g h = inl (g, h)

less_more : (G H : Item → Type 0) (xs ys : List Item) → ((x : Item) → G x → H x) → LessGone G xs ys → LessGone H xs ys
less_more G H [] [] f h = tt
less_more G H [] (y ∷ ys) f h = absurd h
less_more G H (x ∷ xs) [] f (g, h) = (f x g, less_more G H xs [] f h)
less_more G H (x ∷ xs) (y ∷ ys) f (inl (g, h)) = inl (f x g, less_more G H xs (y ∷ ys) f h)
less_more G H (x ∷ xs) (y ∷ ys) f (inr (e, h)) = inr (e, less_more G H xs ys f h)

less_join : (G : Item → Type 0) (xs ys us vs : List Item) → LessGone G xs ys → LessGone G us vs → LessGone G (xs ++ us) (ys ++ vs)
less_join G [] [] us vs h k = k
less_join G [] (y ∷ ys) us vs h k = absurd h
less_join G (x ∷ xs) [] us vs (g, h) k = left_out G x (xs ++ us) vs g (less_join G xs [] us vs h k)
less_join G (x ∷ xs) (y ∷ ys) us vs (inl (g, h)) k = inl (g, less_join G xs (y ∷ ys) us vs h k)
less_join G (x ∷ xs) (y ∷ ys) us vs (inr (e, h)) k = inr (e, less_join G xs ys us vs h k)

less_filter : (G : Item → Type 0) (q : Item → Bool) (xs ys : List Item) → LessGone G xs ys → LessGone G (filter q xs) (filter q ys)
less_filter G q [] [] h = tt
less_filter G q [] (y ∷ ys) h = absurd h
less_filter G q (x ∷ xs) [] (g, h) = at (q x) (less_filter G q xs [] h)
  where
    at : (b : Bool) → LessGone G (filter q xs) [] → LessGone G (if b then x ∷ filter q xs else filter q xs) []
    at true h = (g, h)
    at false h = h
less_filter G q (x ∷ xs) (y ∷ ys) (inl (g, h)) = at (q x) (less_filter G q xs (y ∷ ys) h)
  where
    at : (b : Bool) → LessGone G (filter q xs) (filter q (y ∷ ys)) → LessGone G (if b then x ∷ filter q xs else filter q xs) (filter q (y ∷ ys))
    at true h = left_out G x (filter q xs) (filter q (y ∷ ys)) g h
    at false h = h
less_filter G q (x ∷ xs) (y ∷ ys) (inr (e, h)) =
    subst (λ z. LessGone G (filter q (x ∷ xs)) (filter q (z ∷ ys))) e (at (q x) (less_filter G q xs ys h))
  where
    at : (b : Bool) → LessGone G (filter q xs) (filter q ys) → LessGone G (if b then x ∷ filter q xs else filter q xs) (if b then x ∷ filter q ys else filter q ys)
    at true h = inr (refl, h)
    at false h = h

less_length : (G : Item → Type 0) (xs ys : List Item) → LessGone G xs ys → length ys ≤ length xs
less_length G [] [] h = omega arith
less_length G [] (y ∷ ys) h = absurd h
less_length G (x ∷ xs) [] (g, h) = omega arith
less_length G (x ∷ xs) (y ∷ ys) (inl (g, h)) = omega (arith, less_length G xs (y ∷ ys) h)
less_length G (x ∷ xs) (y ∷ ys) (inr (e, h)) = omega (arith, less_length G xs ys h)

-- a list of a book in order, and what a step leaves of it
all_in : (P : Numbers → Type 0) (id : Numbers) (ids : List Numbers) → AllByRecursion P ids → IsIn id ids → P id
all_in P id [] h i = absurd i
all_in P id (x ∷ xs) (h, k) (inl e) = subst P (sym e) h
all_in P id (x ∷ xs) (h, k) (inr i) = all_in P id xs k i

-- an id before another is not that one, the other way round
not_that : (a b : Numbers) → is_before a b ≡ true → is_id b a ≡ false
not_that a b h = at (is_id b a) refl
  where
    at : (t : Bool) → is_id b a ≡ t → t ≡ false
    at true e = absurd (true≢false (sym (self_id b) ∙ subst (λ i. is_id i b ≡ false) (sym (same_id b a e)) (other_id a b h)))
    at false e = refl

less_list : {A : Type 0} (key : A → Numbers) (item : Numbers → Item) (G : Item → Type 0) (xs ys : List A) → AreOf (map key xs) (map key ys) → AreRising (map key xs)
    → ((i : Numbers) → IsIn i (map key xs) → AllByRecursion (λ j. is_id j i ≡ false) (map key ys) → G (item i))
    → LessGone G (map (λ x. item (key x)) xs) (map (λ y. item (key y)) ys)
less_list key item G [] [] h r f = tt
less_list key item G [] (y ∷ ys) h r f = absurd h
less_list key item G (x ∷ xs) [] h (r, rs) f = (f (key x) (inl refl) tt, less_list key item G xs [] h rs (λ i m g. f i (inr m) g))
less_list key item G (x ∷ xs) (y ∷ ys) (inl h) (r, rs) f =
    inl (
      f (key x) (inl refl) (all_more (λ i. is_before (key x) i ≡ true) (λ i. is_id i (key x) ≡ false) (map key (y ∷ ys)) (λ i. not_that (key x) i)
          (of_all (λ i. is_before (key x) i ≡ true) (map key xs) (map key (y ∷ ys)) h r)),
      less_list key item G xs (y ∷ ys) h rs (λ i m g. f i (inr m) g),
    )
less_list key item G (x ∷ xs) (y ∷ ys) (inr (e, h)) (r, rs) f =
    inr (
      ap item e,
      less_list key item G xs ys h rs
          (λ i m g. f i (inr m) (subst (λ k. is_id k i ≡ false) e (other_id (key x) i (all_in (λ j. is_before (key x) j ≡ true) i (map key xs) r m)), g)),
    )

less_items : (b c : Book) → HoldsNoMore b c → IsRising b → LessGone (IsGone c) (items_of b) (items_of c)
less_items b c h r =
    less_join (IsGone c) (map transaction_item b.transactions) (map transaction_item c.transactions) _ _
    (less_list transaction_id items.Transaction (IsGone c) b.transactions c.transactions h.transactions r.transactions (λ i m g. g))
    (less_join (IsGone c) (map leaf_item b.leaves) (map leaf_item c.leaves) _ _
    (less_list leaf_id items.Leaf (IsGone c) b.leaves c.leaves h.leaves r.leaves (λ i m g. g))
    (less_list activity_id items.Activity (IsGone c) b.activities c.activities h.activities r.activities (λ i m g. g)))

-- What asks the items of a list, each when its place comes: one that isn't due is passed over, and one that is takes its
-- step, behind which the book holds no more.
record Asks (now : ℕ) (S R : Type 0) (book : S → Book) (act : Item → S → S) (F : List Item → S → R) (G : Item → S → R → R) : Type 0 where
  passes : (x : Item) (xs : List Item) (s : S) → is_due (book s) now x ≡ false → F (x ∷ xs) s ≡ F xs s
  takes : (x : Item) (xs : List Item) (s : S) → is_due (book s) now x ≡ true → F (x ∷ xs) s ≡ G x s (F xs (act x s))
  less : (x : Item) (s : S) → is_due (book s) now x ≡ true → HoldsNoMore (book s) (book (act x s))

less_same : {S R : Type 0} (now : ℕ) (book : S → Book) (act : Item → S → S) (F : List Item → S → R) (G : Item → S → R → R) → Asks now S R book act F G
    → (xs ys : List Item) (s : S) → LessGone (IsGone (book s)) xs ys → F xs s ≡ F ys s
less_same now book act F G asks [] [] s h = refl
less_same now book act F G asks [] (y ∷ ys) s h = absurd h
less_same now book act F G asks (x ∷ xs) [] s (g, h) = asks.passes x xs s (not_due (book s) now x g) ∙ less_same now book act F G asks xs [] s h
less_same now book act F G asks (x ∷ xs) (y ∷ ys) s (inl (g, h)) = asks.passes x xs s (not_due (book s) now x g) ∙ less_same now book act F G asks xs (y ∷ ys) s h
less_same {S = S} now book act F G asks (x ∷ xs) (y ∷ ys) s (inr (e, h)) =
    at (λ t k. less_same now book act F G asks xs ys t k) (is_due (book s) now x) refl ∙ ap (λ z. F (z ∷ ys) s) e
  where
    at : ((t : S) → LessGone (IsGone (book t)) xs ys → F xs t ≡ F ys t) → (b : Bool) → is_due (book s) now x ≡ b → F (x ∷ xs) s ≡ F (x ∷ ys) s
    at again true d =
        asks.takes x xs s d
        ∙ ap (G x s) (again (act x s) (less_more (IsGone (book s)) (IsGone (book (act x s))) xs ys (stays_gone (book s) (book (act x s)) (asks.less x s d)) h))
        ∙ sym (asks.takes x ys s d)
    at again false d = asks.passes x xs s d ∙ again s h ∙ sym (asks.passes x ys s d)

-- those before the first that is due are passed over
skip_to : {S R : Type 0} (now : ℕ) (book : S → Book) (act : Item → S → S) (F : List Item → S → R) (G : Item → S → R → R) → Asks now S R book act F G
    → (xs : List Item) (s : S) (x : Item) → AreSorted xs → find (is_due (book s) now) xs ≡ Some x → F xs s ≡ G x s (F (filter (comes_behind (Some x)) xs) (act x s))
skip_to now book act F G asks [] s x h e = absurd cc
skip_to now book act F G asks (y ∷ ys) s x (h, k) e = at (λ f. skip_to now book act F G asks ys s x k f) (is_due (book s) now y) refl e
  where
    same : Some y ≡ Some x → y ≡ x
    same e = cc

    only_behind : filter (comes_behind (Some y)) (y ∷ ys) ≡ ys
    only_behind =
        ap (λ b. if b then y ∷ filter (comes_behind (Some y)) ys else filter (comes_behind (Some y)) ys) (not_behind_itself y) ∙ filter_all (comes_behind (Some y)) ys h

    at : (find (is_due (book s) now) ys ≡ Some x → F ys s ≡ G x s (F (filter (comes_behind (Some x)) ys) (act x s))) → (b : Bool) → is_due (book s) now y ≡ b
        → (if b then Some y else find (is_due (book s) now) ys) ≡ Some x → F (y ∷ ys) s ≡ G x s (F (filter (comes_behind (Some x)) (y ∷ ys)) (act x s))
    at rest true d e =
        subst (λ z. F (y ∷ ys) s ≡ G z s (F (filter (comes_behind (Some z)) (y ∷ ys)) (act z s))) (same e)
        (asks.takes y ys s d ∙ ap (λ l. G y s (F l (act y s))) (sym only_behind))
    at rest false d e =
        asks.passes y ys s d ∙ rest e
        ∙ ap (λ b. G x s (F (if b then y ∷ filter (comes_behind (Some x)) ys else filter (comes_behind (Some x)) ys) (act x s)))
        (sym (not_behind_back y x (all_found (λ z. comes_behind (Some y) z ≡ true) (is_due (book s) now) ys x h e)))

none_left : {S R : Type 0} (now : ℕ) (book : S → Book) (act : Item → S → S) (F : List Item → S → R) (G : Item → S → R → R) → Asks now S R book act F G
    → (xs : List Item) (s : S) → find (is_due (book s) now) xs ≡ None → F xs s ≡ F [] s
none_left now book act F G asks [] s e = refl
none_left now book act F G asks (y ∷ ys) s e = at (λ f. none_left now book act F G asks ys s f) (is_due (book s) now y) refl e
  where
    at : (find (is_due (book s) now) ys ≡ None → F ys s ≡ F [] s) → (b : Bool) → is_due (book s) now y ≡ b
        → (if b then Some y else find (is_due (book s) now) ys) ≡ None → F (y ∷ ys) s ≡ F [] s
    at rest true d e = absurd cc
    at rest false d e = asks.passes y ys s d ∙ rest e

-- what comes behind
comes_further : (after : Option Item) (x y : Item) → comes_behind after x ≡ true → comes_behind (Some x) y ≡ true → comes_behind after y ≡ true
comes_further None x y h k = refl
comes_further (Some (items.Transaction a)) (items.Transaction b) (items.Transaction c) h k = before_further a b c h k
comes_further (Some (items.Transaction a)) (items.Leaf b) (items.Transaction c) h k = absurd cc
comes_further (Some (items.Transaction a)) (items.Activity b) (items.Transaction c) h k = absurd cc
comes_further (Some (items.Transaction a)) x (items.Leaf c) h k = refl
comes_further (Some (items.Transaction a)) x (items.Activity c) h k = refl
comes_further (Some (items.Leaf a)) (items.Transaction b) y h k = absurd cc
comes_further (Some (items.Leaf a)) (items.Leaf b) (items.Transaction c) h k = absurd cc
comes_further (Some (items.Leaf a)) (items.Leaf b) (items.Leaf c) h k = before_further a b c h k
comes_further (Some (items.Leaf a)) (items.Leaf b) (items.Activity c) h k = refl
comes_further (Some (items.Leaf a)) (items.Activity b) (items.Transaction c) h k = absurd cc
comes_further (Some (items.Leaf a)) (items.Activity b) (items.Leaf c) h k = absurd cc
comes_further (Some (items.Leaf a)) (items.Activity b) (items.Activity c) h k = refl
comes_further (Some (items.Activity a)) (items.Transaction b) y h k = absurd cc
comes_further (Some (items.Activity a)) (items.Leaf b) y h k = absurd cc
comes_further (Some (items.Activity a)) (items.Activity b) (items.Transaction c) h k = absurd cc
comes_further (Some (items.Activity a)) (items.Activity b) (items.Leaf c) h k = absurd cc
comes_further (Some (items.Activity a)) (items.Activity b) (items.Activity c) h k = before_further a b c h k

filter_filter : (q r : Item → Bool) (xs : List Item) → ((y : Item) → q y ≡ true → r y ≡ true) → filter q (filter r xs) ≡ filter q xs
filter_filter q r [] f = refl
filter_filter q r (x ∷ xs) f = at (filter_filter q r xs f) (q x) (r x) refl refl
  where
    at : filter q (filter r xs) ≡ filter q xs → (a b : Bool) → q x ≡ a → r x ≡ b
        → filter q (if b then x ∷ filter r xs else filter r xs) ≡ (if a then x ∷ filter q xs else filter q xs)
    at e true true g h = ap (λ t. if t then x ∷ filter q (filter r xs) else filter q (filter r xs)) g ∙ ap (λ l. x ∷ l) e
    at e true false g h = absurd (true≢false (sym (f x g) ∙ h))
    at e false true g h = ap (λ t. if t then x ∷ filter q (filter r xs) else filter q (filter r xs)) g ∙ e
    at e false false g h = e

all_filter : (P : Item → Type 0) (q : Item → Bool) (xs : List Item) → AllByRecursion P xs → AllByRecursion P (filter q xs)
all_filter P q [] h = tt
all_filter P q (x ∷ xs) (h, k) = at (q x) (all_filter P q xs k)
  where
    at : (b : Bool) → AllByRecursion P (filter q xs) → AllByRecursion P (if b then x ∷ filter q xs else filter q xs)
    at true k = (h, k)
    at false k = k

passed : (q : Item → Bool) (xs : List Item) → AllByRecursion (λ x. q x ≡ true) (filter q xs)
passed q [] = tt
passed q (x ∷ xs) = at (q x) refl (passed q xs)
  where
    at : (b : Bool) → q x ≡ b → AllByRecursion (λ y. q y ≡ true) (filter q xs) → AllByRecursion (λ y. q y ≡ true) (if b then x ∷ filter q xs else filter q xs)
    at true e k = (e, k)
    at false e k = k

sorted_filter : (q : Item → Bool) (xs : List Item) → AreSorted xs → AreSorted (filter q xs)
sorted_filter q [] h = tt
sorted_filter q (x ∷ xs) (h, k) = at (q x) (sorted_filter q xs k)
  where
    at : (b : Bool) → AreSorted (filter q xs) → AreSorted (if b then x ∷ filter q xs else filter q xs)
    at true k = (all_filter (λ y. comes_behind (Some x) y ≡ true) q xs h, k)
    at false k = k

found_passes : (p : Item → Bool) (xs : List Item) (x : Item) → find p xs ≡ Some x → p x ≡ true
found_passes p [] x e = absurd cc
found_passes p (y ∷ ys) x e = at (λ f. found_passes p ys x f) (p y) refl e
  where
    at : (find p ys ≡ Some x → p x ≡ true) → (b : Bool) → p y ≡ b → (if b then Some y else find p ys) ≡ Some x → p x ≡ true
    at rest true d e = let f : y ≡ x = cc in subst (λ z. p z ≡ true) f d
    at rest false d e = rest e

filter_shorter : (q : Item → Bool) (xs : List Item) → length (filter q xs) ≤ length xs
filter_shorter q [] = omega arith
filter_shorter q (x ∷ xs) = at (q x) (filter_shorter q xs)
  where
    at : (b : Bool) → length (filter q xs) ≤ length xs → length (if b then x ∷ filter q xs else filter q xs) ≤ length (x ∷ xs)
    at true h = omega (arith, h)
    at false h = omega (arith, h)

-- where one that is there fails the test
shorter : (p q : Item → Bool) (xs : List Item) (x : Item) → find p xs ≡ Some x → q x ≡ false → length (filter q xs) < length xs
shorter p q [] x e f = absurd cc
shorter p q (y ∷ ys) x e f = at (λ g. shorter p q ys x g f) (p y) e (q y) refl
  where
    at : (find p ys ≡ Some x → length (filter q ys) < length ys) → (b : Bool) → (if b then Some y else find p ys) ≡ Some x → (c : Bool) → q y ≡ c
        → length (if c then y ∷ filter q ys else filter q ys) < length (y ∷ ys)
    at rest true e true g = let h : y ≡ x = cc in absurd (true≢false (sym g ∙ ap q h ∙ f))
    at rest true e false g = omega (arith, filter_shorter q ys)
    at rest false e true g = omega (arith, rest e)
    at rest false e false g = omega (arith, filter_shorter q ys)

-- the walk
is_found : (b : Book) (now : ℕ) (after : Option Item) (o : Option Item) → IsRising b → next_item b now after ≡ o → find (is_due b now) (items_behind b after) ≡ o
is_found b now after o r e = sym (finds_the_due.first b now after r) ∙ e

behind_that : (b : Book) (now : ℕ) (after : Option Item) (x : Item) → IsRising b → next_item b now after ≡ Some x
    → filter (comes_behind (Some x)) (items_behind b after) ≡ items_behind b (Some x)
behind_that b now after x r e =
    filter_filter (comes_behind (Some x)) (comes_behind after) (items_of b)
    (λ y. comes_further after x y
    (all_found (λ z. comes_behind after z ≡ true) (is_due b now) (items_behind b after) x (passed (comes_behind after) (items_of b)) (is_found b now after (Some x) r e)))

is_found_due : (b : Book) (now : ℕ) (after : Option Item) (x : Item) → IsRising b → next_item b now after ≡ Some x → is_due b now x ≡ true
is_found_due b now after x r e = found_passes (is_due b now) (items_behind b after) x (is_found b now after (Some x) r e)

walks : {S R : Type 0} (now : ℕ) (book : S → Book) (act : Item → S → S) (F : List Item → S → R) (G : Item → S → R → R) → Asks now S R book act F G
    → (s : S) (after : Option Item) (x : Item) → IsRising (book s) → next_item (book s) now after ≡ Some x
    → F (items_behind (book s) after) s ≡ G x s (F (items_behind (book (act x s)) (Some x)) (act x s))
walks now book act F G asks s after x r e =
    skip_to now book act F G asks (items_behind (book s) after) s x (sorted_filter (comes_behind after) (items_of (book s)) (sorted_items (book s) r))
    (is_found (book s) now after (Some x) r e)
    ∙ ap (λ l. G x s (F l (act x s))) (behind_that (book s) now after x r e)
    ∙ ap (G x s) (less_same now book act F G asks (items_behind (book s) (Some x)) (items_behind (book (act x s)) (Some x)) (act x s)
    (less_filter (IsGone (book (act x s))) (comes_behind (Some x)) (items_of (book s)) (items_of (book (act x s)))
    (less_items (book s) (book (act x s)) (asks.less x s (is_found_due (book s) now after x r e)) r)))

fewer : IdsRise → (b : Book) (now : ℕ) (after : Option Item) (x : Item) → IsRising b → next_item b now after ≡ Some x
    → length (items_behind (due_outcome b now x).book (Some x)) < length (items_behind b after)
fewer law b now after x r e =
    below _ _ _
    (less_length (IsGone (due_outcome b now x).book) (items_behind b (Some x)) (items_behind (due_outcome b now x).book (Some x))
    (less_filter (IsGone (due_outcome b now x).book) (comes_behind (Some x)) (items_of b) (items_of (due_outcome b now x).book)
    (less_items b (due_outcome b now x).book (law.due b now x true) r)))
    (subst (λ l. length l < length (items_behind b after)) (behind_that b now after x r e)
    (shorter (is_due b now) (comes_behind (Some x)) (items_behind b after) x (is_found b now after (Some x) r e) (not_behind_itself x)))
  where
    below : (k m n : ℕ) → k ≤ m → m < n → k < n
    below k m n h i = omega (arith, h, i)

-- the outcomes
outcomes_ask : IdsRise → (now : ℕ)
    → Asks now Book (List Outcome) (λ b. b) (λ x b. (due_outcome b now x).book) (λ xs b. due_outcomes now xs b) (λ x b os. due_outcome b now x ∷ os)
outcomes_ask law now = record {
  passes = λ x xs b e.
      ap (λ t. if t then due_outcome b now x ∷ due_outcomes now xs (due_outcome b now x).book else due_outcomes now xs b) e;
  takes = λ x xs b e.
      ap (λ t. if t then due_outcome b now x ∷ due_outcomes now xs (due_outcome b now x).book else due_outcomes now xs b) e;
  less = λ x b e. law.due b now x true;
}

-- the due steps of a turn
sent_book : (n : ℕ) (os : List Out) (r : Turning) → (send_all n os r).book ≡ r.book
sent_book n [] r = refl
sent_book n (o ∷ os) r = at (λ t. sent_book n os t) (is_stopped r)
  where
    at : ((t : Turning) → (send_all n os t).book ≡ t.book) → (b : Bool)
        → (if b then r else send_all n os (record (after_fate r) { world = sent n (fate r.fates) o r.world })).book ≡ r.book
    at rest true = refl
    at rest false = rest (record (after_fate r) { world = sent n (fate r.fates) o r.world })

all_of : (ids : List Numbers) → AreOf ids ids
all_of [] = tt
all_of (id ∷ ids) = inr (refl, all_of ids)

no_more : (b : Book) → HoldsNoMore b b
no_more b = record { transactions = all_of (map transaction_id b.transactions); leaves = all_of (map leaf_id b.leaves); activities = all_of (map activity_id b.activities) }

by_entry : (n : ℕ) (p : Plan) (r : Turning) (entry : Option Record) → entry ≡ None → (step_by n entry p r).book ≡ p.landed.book
by_entry n p r None e = sent_book n p.landed.outs _
by_entry n p r (Some x) e = absurd cc

taken_book : (b c : Book) (n : ℕ) (p : Plan) (r : Turning) → r.book ≡ b → p.landed.book ≡ c → p.entry ≡ None → HoldsNoMore b c → HoldsNoMore b (take_step n p r).book
taken_book b c n p r e f g h = at (is_stopped r)
  where
    at : (t : Bool) → HoldsNoMore b (if t then r else step_by n p.entry p r).book
    at true = subst (HoldsNoMore b) (sym e) (no_more b)
    at false = subst (HoldsNoMore b) (sym (by_entry n p r p.entry g ∙ f)) h

due_book : IdsRise → (n now : ℕ) (x : Item) (r : Turning) → HoldsNoMore r.book (due_step n now x r).book
due_book law n now x r = at (is_due r.book now x)
  where
    at : (t : Bool) → HoldsNoMore r.book (if t then take_step n (plan r.book (events.Due x) now) r else r).book
    at true =
        taken_book r.book (due_outcome r.book now x).book n (plan r.book (events.Due x) now) r refl refl (law.unrecorded r.book now x) (law.due r.book now x true)
    at false = no_more r.book

turns_ask : IdsRise → (n now : ℕ) → Asks now Turning Turning (λ r. r.book) (λ x r. due_step n now x r) (λ xs r. due_steps n now xs r) (λ x r t. t)
turns_ask law n now = record {
  passes = λ x xs r e. ap (λ t. due_steps n now xs (if t then take_step n (plan r.book (events.Due x) now) r else r)) e;
  takes = λ x xs r e. refl;
  less = λ x r e. due_book law n now x r;
}

pub walks_the_due : IdsRise → WalksTheDue
walks_the_due law = record {
  unrecorded = law.unrecorded;
  over = λ b now after r e.
      none_left now (λ c. c) _ _ _ (outcomes_ask law now) (items_behind b after) b (is_found b now after None r e);
  found = is_found_due;
  next = λ b now after x r e. walks now (λ c. c) _ _ _ (outcomes_ask law now) b after x r e;
  rising = λ b now x r. law.fewer b (due_outcome b now x).book (law.due b now x true) r;
  fewer = fewer law;
  turn_over = λ n now after r h e.
      none_left now (λ t. t.book) _ _ _ (turns_ask law n now) (items_behind r.book after) r (is_found r.book now after None h e);
  turn_next = λ n now after x r h e. walks now (λ t. t.book) _ _ _ (turns_ask law n now) r after x h e;
  turn_rising = λ n now x r h. law.fewer r.book (due_step n now x r).book (due_book law n now x r) h;
}
