-- Lists that are put in order by the ids of their items.
use Rattle.std.proofs.Common.{List, [], ◌∷◌, ◌≡◌, ◌++◌, ◌||◌, Bool, true, false, refl, sym, ◌∙◌, ap, subst, if◌then◌else◌, true≢false}
use Rattle.std.specs.List.{AllByRecursion, filter, list_any}
use Rattle.at_base.specs.Numbers.{Numbers}
use Rattle.at_model.specs.Book.{is_id}
use Rattle.at_model.specs.Recovery.{in_order, insert_by, is_before}
use Rattle.model_laws.proofs.Order.{before_further, one_before, other_id}
use Rattle.model_laws.proofs.RecoveryLaws.{same_id, self_id}
use Rattle.decision_log.specs.KeptRecords.{insert_last}

-- ids
pub not_true : (b : Bool) → (b ≡ true → ⊥) → b ≡ false
not_true true h = absurd (h refl)
not_true false h = refl

pub not_itself : (a : Numbers) → is_before a a ≡ false
not_itself a = not_true (is_before a a) (λ e. true≢false (sym (self_id a) ∙ other_id a a e))

pub not_back : (a b : Numbers) → is_before a b ≡ true → is_before b a ≡ false
not_back a b h = not_true (is_before b a) (λ k. true≢false (sym (before_further a b a h k) ∙ not_itself a))

-- what is before one is before each that isn't before that one
pub before_later : (s x y : Numbers) → is_before y x ≡ false → is_before s x ≡ true → is_before s y ≡ true
before_later s x y h k = by_case (is_before s y) (is_id y s) refl refl where
  by_case : (b c : Bool) → is_before s y ≡ b → is_id y s ≡ c → b ≡ true
  by_case true c e f = refl
  by_case false true e f = absurd (true≢false (sym (subst (λ z. is_before z x ≡ true) (sym (same_id y s f)) k) ∙ h))
  by_case false false e f =
      absurd (true≢false (sym (before_further y s x (one_before y s (λ i. true≢false (sym (self_id y) ∙ ap (is_id y) (sym i) ∙ f)) e) k) ∙ h))

-- one step of each insertion
insert_goes : {A : Type 0} (key : A → Numbers) (x y : A) (ys : List A) → is_before (key y) (key x) ≡ true → insert_by key x (y ∷ ys) ≡ y ∷ insert_by key x ys
insert_goes key x y ys e = ap (λ b. if b then y ∷ insert_by key x ys else x ∷ (y ∷ ys)) e

insert_stops : {A : Type 0} (key : A → Numbers) (x y : A) (ys : List A) → is_before (key y) (key x) ≡ false → insert_by key x (y ∷ ys) ≡ x ∷ (y ∷ ys)
insert_stops key x y ys e = ap (λ b. if b then y ∷ insert_by key x ys else x ∷ (y ∷ ys)) e

last_stops : {A : Type 0} (key : A → Numbers) (x y : A) (ys : List A) → is_before (key x) (key y) ≡ true → insert_last key x (y ∷ ys) ≡ x ∷ (y ∷ ys)
last_stops key x y ys e = ap (λ b. if b then x ∷ (y ∷ ys) else y ∷ insert_last key x ys) e

last_goes : {A : Type 0} (key : A → Numbers) (x y : A) (ys : List A) → is_before (key x) (key y) ≡ false → insert_last key x (y ∷ ys) ≡ y ∷ insert_last key x ys
last_goes key x y ys e = ap (λ b. if b then x ∷ (y ∷ ys) else y ∷ insert_last key x ys) e

-- the two insertions may change places
pub swaps : {A : Type 0} (key : A → Numbers) (x s : A) (ys : List A) → insert_by key x (insert_last key s ys) ≡ insert_last key s (insert_by key x ys)
swaps key x s [] = refl
swaps key x s (y ∷ ys) = by_case (is_before (key y) (key x)) (is_before (key s) (key y)) (is_before (key s) (key x)) refl refl refl (swaps key x s ys) where
  by_case : (b1 b2 b3 : Bool) → is_before (key y) (key x) ≡ b1 → is_before (key s) (key y) ≡ b2 → is_before (key s) (key x) ≡ b3
      → insert_by key x (insert_last key s ys) ≡ insert_last key s (insert_by key x ys)
      → insert_by key x (insert_last key s (y ∷ ys)) ≡ insert_last key s (insert_by key x (y ∷ ys))
  by_case true true b3 e1 e2 e3 ih =
      ap (insert_by key x) (last_stops key s y ys e2) ∙ insert_goes key x s (y ∷ ys) (before_further (key s) (key y) (key x) e2 e1) ∙ ap (λ z. s ∷ z) (insert_goes key x y ys e1)
      ∙ sym (last_stops key s y (insert_by key x ys) e2) ∙ sym (ap (insert_last key s) (insert_goes key x y ys e1))
  by_case true false b3 e1 e2 e3 ih =
      ap (insert_by key x) (last_goes key s y ys e2) ∙ insert_goes key x y (insert_last key s ys) e1 ∙ ap (λ z. y ∷ z) ih
      ∙ sym (last_goes key s y (insert_by key x ys) e2) ∙ sym (ap (insert_last key s) (insert_goes key x y ys e1))
  by_case false true true e1 e2 e3 ih =
      ap (insert_by key x) (last_stops key s y ys e2) ∙ insert_goes key x s (y ∷ ys) e3 ∙ ap (λ z. s ∷ z) (insert_stops key x y ys e1)
      ∙ sym (last_stops key s x (y ∷ ys) e3) ∙ sym (ap (insert_last key s) (insert_stops key x y ys e1))
  by_case false true false e1 e2 e3 ih =
      ap (insert_by key x) (last_stops key s y ys e2) ∙ insert_stops key x s (y ∷ ys) e3 ∙ ap (λ z. x ∷ z) (sym (last_stops key s y ys e2))
      ∙ sym (last_goes key s x (y ∷ ys) e3) ∙ sym (ap (insert_last key s) (insert_stops key x y ys e1))
  by_case false false true e1 e2 e3 ih = absurd (true≢false (sym (before_later (key s) (key x) (key y) e1 e3) ∙ e2))
  by_case false false false e1 e2 e3 ih =
      ap (insert_by key x) (last_goes key s y ys e2) ∙ insert_stops key x y (insert_last key s ys) e1 ∙ ap (λ z. x ∷ z) (sym (last_goes key s y ys e2))
      ∙ sym (last_goes key s x (y ∷ ys) e3) ∙ sym (ap (insert_last key s) (insert_stops key x y ys e1))

-- what comes last of all is inserted last
pub in_order_push : {A : Type 0} (key : A → Numbers) (xs : List A) (s : A) → in_order key (xs ++ s ∷ []) ≡ insert_last key s (in_order key xs)
in_order_push key [] s = refl
in_order_push key (x ∷ xs) s = ap (insert_by key x) (in_order_push key xs s) ∙ swaps key x s (in_order key xs)

-- beside others that aren't of its id, the insertions are one
pub same_place : {A : Type 0} (key : A → Numbers) (s : A) (ys : List A) → AllByRecursion (λ y. key y ≡ key s → ⊥) ys → insert_by key s ys ≡ insert_last key s ys
same_place key s [] h = refl
same_place key s (y ∷ ys) (h, k) = by_case (is_before (key y) (key s)) refl (same_place key s ys k) where
  by_case : (b : Bool) → is_before (key y) (key s) ≡ b → insert_by key s ys ≡ insert_last key s ys → insert_by key s (y ∷ ys) ≡ insert_last key s (y ∷ ys)
  by_case true e ih = insert_goes key s y ys e ∙ ap (λ z. y ∷ z) ih ∙ sym (last_goes key s y ys (not_back (key y) (key s) e))
  by_case false e ih = insert_stops key s y ys e ∙ sym (last_stops key s y ys (one_before (key s) (key y) h e))

-- no later one is before an earlier one
abbrev pub IsSorted : {A : Type 0} → (A → Numbers) → List A → Type 0
IsSorted key [] = Unit {0}
IsSorted key (y ∷ ys) = AllByRecursion (λ z. is_before (key z) (key y) ≡ false) ys × IsSorted key ys

all_inserted : {A : Type 0} (P : A → Type 0) (key : A → Numbers) (x : A) (ys : List A) → P x → AllByRecursion P ys → AllByRecursion P (insert_by key x ys)
all_inserted P key x [] h k = (h, tt)
all_inserted P key x (y ∷ ys) h (k, l) = by_case (is_before (key y) (key x)) (all_inserted P key x ys h l) where
  by_case : (b : Bool) → AllByRecursion P (insert_by key x ys) → AllByRecursion P (if b then y ∷ insert_by key x ys else x ∷ (y ∷ ys))
  by_case true ih = (k, ih)
  by_case false ih = (h, (k, l))

all_later : {A : Type 0} (key : A → Numbers) (x y : A) (ys : List A) → is_before (key y) (key x) ≡ false → AllByRecursion (λ z. is_before (key z) (key y) ≡ false) ys → AllByRecursion (λ z. is_before (key z) (key x) ≡ false) ys
all_later key x y [] e h = tt
all_later key x y (z ∷ ys) e (h, k) =
    (not_true (is_before (key z) (key x)) (λ f. true≢false (sym (before_later (key z) (key x) (key y) e f) ∙ h)), all_later key x y ys e k)

insert_sorted : {A : Type 0} (key : A → Numbers) (x : A) (ys : List A) → IsSorted key ys → IsSorted key (insert_by key x ys)
insert_sorted key x [] h = (tt, tt)
insert_sorted key x (y ∷ ys) (h, k) = by_case (is_before (key y) (key x)) refl (insert_sorted key x ys k) where
  by_case : (b : Bool) → is_before (key y) (key x) ≡ b → IsSorted key (insert_by key x ys) → IsSorted key (if b then y ∷ insert_by key x ys else x ∷ (y ∷ ys))
  by_case true e ih = (all_inserted (λ z. is_before (key z) (key y) ≡ false) key x ys (not_back (key y) (key x) e) h, ih)
  by_case false e ih = ((e, all_later key x y ys e h), (h, k))

pub in_order_sorted : {A : Type 0} (key : A → Numbers) (xs : List A) → IsSorted key (in_order key xs)
in_order_sorted key [] = tt
in_order_sorted key (x ∷ xs) = insert_sorted key x (in_order key xs) (in_order_sorted key xs)

-- what is left of some
all_left : {A : Type 0} (P : A → Type 0) (p : A → Bool) (ys : List A) → AllByRecursion P ys → AllByRecursion P (filter p ys)
all_left P p [] h = tt
all_left P p (y ∷ ys) (h, k) = by_case (p y) (all_left P p ys k) where
  by_case : (b : Bool) → AllByRecursion P (filter p ys) → AllByRecursion P (if b then y ∷ filter p ys else filter p ys)
  by_case true ih = (h, ih)
  by_case false ih = ih

first_of : {A : Type 0} (key : A → Numbers) (x : A) (ys : List A) → AllByRecursion (λ z. is_before (key z) (key x) ≡ false) ys → insert_by key x ys ≡ x ∷ ys
first_of key x [] h = refl
first_of key x (y ∷ ys) (h, k) = insert_stops key x y ys h

filter_insert : {A : Type 0} (key : A → Numbers) (p : A → Bool) (x : A) (ys : List A) → IsSorted key ys → filter p (insert_by key x ys) ≡ (if p x then insert_by key x (filter p ys) else filter p ys)
filter_insert key p x [] h = refl
filter_insert key p x (y ∷ ys) (h, k) = by_case (is_before (key y) (key x)) (p x) (p y) refl refl refl (filter_insert key p x ys k) where
  here : {A : Type 0} (b : Bool) (x : A) (xs : List A) → List A
  here b x xs = if b then x ∷ xs else xs

  by_case : (b c d : Bool) → is_before (key y) (key x) ≡ b → p x ≡ c → p y ≡ d → filter p (insert_by key x ys) ≡ (if p x then insert_by key x (filter p ys) else filter p ys)
      → filter p (insert_by key x (y ∷ ys)) ≡ (if p x then insert_by key x (filter p (y ∷ ys)) else filter p (y ∷ ys))
  by_case true c true e f g ih =
      ap (filter p) (insert_goes key x y ys e) ∙ ap (λ z. if z then y ∷ filter p (insert_by key x ys) else filter p (insert_by key x ys)) g
      ∙ ap (λ z. y ∷ z) ih ∙ inside c f
      ∙ ap (λ z. if p x then insert_by key x (if z then y ∷ filter p ys else filter p ys) else (if z then y ∷ filter p ys else filter p ys)) (sym g) where
        inside : (c : Bool) → p x ≡ c → y ∷ (if p x then insert_by key x (filter p ys) else filter p ys) ≡ (if p x then insert_by key x (y ∷ filter p ys) else y ∷ filter p ys)
        inside true f = ap (λ z. y ∷ (if z then insert_by key x (filter p ys) else filter p ys)) f ∙ sym (insert_goes key x y (filter p ys) e) ∙ ap (λ z. if z then insert_by key x (y ∷ filter p ys) else y ∷ filter p ys) (sym f)
        inside false f = ap (λ z. y ∷ (if z then insert_by key x (filter p ys) else filter p ys)) f ∙ ap (λ z. if z then insert_by key x (y ∷ filter p ys) else y ∷ filter p ys) (sym f)
  by_case true c false e f g ih =
      ap (filter p) (insert_goes key x y ys e) ∙ ap (λ z. if z then y ∷ filter p (insert_by key x ys) else filter p (insert_by key x ys)) g
      ∙ ih
      ∙ ap (λ z. if p x then insert_by key x (if z then y ∷ filter p ys else filter p ys) else (if z then y ∷ filter p ys else filter p ys)) (sym g)
  by_case false true d e f g ih =
      ap (filter p) (insert_stops key x y ys e) ∙ ap (λ z. if z then x ∷ filter p (y ∷ ys) else filter p (y ∷ ys)) f
      ∙ sym (first_of key x (filter p (y ∷ ys)) (all_left (λ z. is_before (key z) (key x) ≡ false) p (y ∷ ys) (e, all_later key x y ys e h)))
      ∙ ap (λ z. if z then insert_by key x (filter p (y ∷ ys)) else filter p (y ∷ ys)) (sym f)
  by_case false false d e f g ih =
      ap (filter p) (insert_stops key x y ys e) ∙ ap (λ z. if z then x ∷ filter p (y ∷ ys) else filter p (y ∷ ys)) f
      ∙ ap (λ z. if z then insert_by key x (filter p (y ∷ ys)) else filter p (y ∷ ys)) (sym f)

pub in_order_left : {A : Type 0} (key : A → Numbers) (p : A → Bool) (xs : List A) → in_order key (filter p xs) ≡ filter p (in_order key xs)
in_order_left key p [] = refl
in_order_left key p (x ∷ xs) = by_case (p x) refl (in_order_left key p xs) where
  by_case : (b : Bool) → p x ≡ b → in_order key (filter p xs) ≡ filter p (in_order key xs) → in_order key (filter p (x ∷ xs)) ≡ filter p (insert_by key x (in_order key xs))
  by_case true e ih =
      ap (λ z. in_order key (if z then x ∷ filter p xs else filter p xs)) e ∙ ap (insert_by key x) ih
      ∙ ap (λ z. if z then insert_by key x (filter p (in_order key xs)) else filter p (in_order key xs)) (sym e) ∙ sym (filter_insert key p x (in_order key xs) (in_order_sorted key xs))
  by_case false e ih =
      ap (λ z. in_order key (if z then x ∷ filter p xs else filter p xs)) e ∙ ih
      ∙ ap (λ z. if z then insert_by key x (filter p (in_order key xs)) else filter p (in_order key xs)) (sym e) ∙ sym (filter_insert key p x (in_order key xs) (in_order_sorted key xs))

-- a test finds the same
any_inserted : {A : Type 0} (key : A → Numbers) (p : A → Bool) (x : A) (ys : List A) → list_any p (insert_by key x ys) ≡ (p x || list_any p ys)
any_inserted key p x [] = refl
any_inserted key p x (y ∷ ys) = by_case (is_before (key y) (key x)) refl (any_inserted key p x ys) where
  turned : (a b c : Bool) → (a || (b || c)) ≡ (b || (a || c))
  turned true true c = refl
  turned true false c = refl
  turned false b c = refl

  by_case : (b : Bool) → is_before (key y) (key x) ≡ b → list_any p (insert_by key x ys) ≡ (p x || list_any p ys) → list_any p (insert_by key x (y ∷ ys)) ≡ (p x || (p y || list_any p ys))
  by_case true e ih = ap (list_any p) (insert_goes key x y ys e) ∙ ap (λ z. p y || z) ih ∙ turned (p y) (p x) (list_any p ys)
  by_case false e ih = ap (list_any p) (insert_stops key x y ys e)

pub any_in_order : {A : Type 0} (key : A → Numbers) (p : A → Bool) (xs : List A) → list_any p (in_order key xs) ≡ list_any p xs
any_in_order key p [] = refl
any_in_order key p (x ∷ xs) = any_inserted key p x (in_order key xs) ∙ ap (λ z. p x || z) (any_in_order key p xs)

pub all_in_order : {A : Type 0} (P : A → Type 0) (key : A → Numbers) (xs : List A) → AllByRecursion P xs → AllByRecursion P (in_order key xs)
all_in_order P key [] h = tt
all_in_order P key (x ∷ xs) (h, k) = all_inserted P key x (in_order key xs) h (all_in_order P key xs k)

-- keys that are equal there give one order
insert_agrees : {A : Type 0} (f g : A → Numbers) (x : A) (ys : List A) → f x ≡ g x → AllByRecursion (λ y. f y ≡ g y) ys → insert_by f x ys ≡ insert_by g x ys
insert_agrees f g x [] e h = refl
insert_agrees f g x (y ∷ ys) e (h, k) = let ih = insert_agrees f g x ys e k in λ i. if is_before (h i) (e i) then y ∷ ih i else x ∷ (y ∷ ys)

pub order_agrees : {A : Type 0} (f g : A → Numbers) (xs : List A) → AllByRecursion (λ x. f x ≡ g x) xs → in_order f xs ≡ in_order g xs
order_agrees f g [] h = refl
order_agrees f g (x ∷ xs) (h, k) = insert_agrees f g x (in_order f xs) h (all_in_order (λ y. f y ≡ g y) f xs k) ∙ ap (insert_by g x) (order_agrees f g xs k)

-- what is in order stays so
pub sorted_again : {A : Type 0} (key : A → Numbers) (xs : List A) → IsSorted key xs → in_order key xs ≡ xs
sorted_again key [] h = refl
sorted_again key (x ∷ xs) (h, k) = ap (insert_by key x) (sorted_again key xs k) ∙ first_of key x xs h
