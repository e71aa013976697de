-- Small facts of ids, of lists by them, and of the past.
use Rattle.std.specs.Prelude.{ℕ, List, [], ◌∷◌, ◌++◌, ◌≡◌, ◌&&◌, ◌||◌, Option, Some, None, Bool, true, false, if◌then◌else◌, map, nat_eq, nat_lt, refl}
use Rattle.std.specs.List.{AllByRecursion}
use Rattle.std.proofs.Common.{inl, inr, ⊎_elim, subst, true≢false, sym, ◌∙◌, arith}
use Rattle.std.proofs.lemmas.Bool.{eq-eqb, eqb-true, ltb-true}
use Rattle.at_base.specs.Numbers.{Numbers}
use Rattle.at_model.specs.Book.{find_by, is_id}
use Rattle.at_model.specs.Recovery.{is_before}
use Rattle.model_laws.specs.Agreement.{IsIn}
use Rattle.site_model.specs.Told.{Told, Made, Files, Elapses}

-- the past
pub weaker : (a b : Told) (P Q : List Made → Files → Type 0) → Elapses a b P → ((l : List Made) (c : Files) → P l c → Q l c) → Elapses a b Q
weaker a b P Q h k = record { adds = λ l c past. ⊎_elim (λ old. inl old) (λ p. inr (k l c p)) (h.adds l c past); keeps = h.keeps }

pub and_then : (a b d : Told) (P : List Made → Files → Type 0) → Elapses a b P → Elapses b d P → Elapses a d P
and_then a b d P h k = record { adds = λ l c past. ⊎_elim (h.adds l c) (λ p. inr p) (k.adds l c past); keeps = λ l c past. k.keeps l c (h.keeps l c past) }

-- ids
pub both_ways : (b : Bool) → b ≡ true → b ≡ false → ⊥
both_ways b e f = true≢false (sym e ∙ f)

both_true : (a b : Bool) → (a && b) ≡ true → (a ≡ true) × (b ≡ true)
both_true true b e = (refl, e)
both_true false b e = absurd (true≢false (sym e))

pub same_id : (a b : Numbers) → is_id a b ≡ true → a ≡ b
same_id a b e =
    let (i, c) = both_true (nat_eq a.incarnation b.incarnation) (nat_eq a.counter b.counter) e in
    let f : a.incarnation ≡ b.incarnation = eqb-true a.incarnation b.incarnation i in
    let g : a.counter ≡ b.counter = eqb-true a.counter b.counter c in
    λ k. record { incarnation = f k; counter = g k }

pub self_id : (a : Numbers) → is_id a a ≡ true
self_id a = grind (arith, eq-eqb a.incarnation a.incarnation refl, eq-eqb a.counter a.counter refl)

-- an id before another is another
pub is_other : (a b : Numbers) → is_before a b ≡ true → a ≡ b → ⊥
is_other a b h e = never (nat_lt b.incarnation b.incarnation) (nat_lt b.counter b.counter) refl refl (subst (λ i. is_before i b ≡ true) e h)
  where
    less : (n : ℕ) → nat_lt n n ≡ true → ⊥
    less n f = let l = ltb-true n n f in omega (arith, l)

    never : (p q : Bool) → nat_lt b.incarnation b.incarnation ≡ p → nat_lt b.counter b.counter ≡ q → (p || (nat_eq b.incarnation b.incarnation && q)) ≡ true → ⊥
    never true q f g k = less b.incarnation f
    never false true f g k = less b.counter g
    never false false f g k = true≢false (sym (both_true (nat_eq b.incarnation b.incarnation) false k).1)

-- lists
abbrev pub IfThere : {A : Type 0} → (A → Type 0) → Option A → Type 0
IfThere P None = Unit {0}
IfThere P (Some a) = P a

pub all_in : {A : Type 0} (P : A → Type 0) (xs : List A) → ((x : A) → IsIn x xs → P x) → AllByRecursion P xs
all_in P [] f = tt
all_in P (x ∷ xs) f = (f x (inl refl), all_in P xs (λ y h. f y (inr h)))

pub all_more : {A : Type 0} (P Q : A → Type 0) (xs : List A) → ((x : A) → P x → Q x) → AllByRecursion P xs → AllByRecursion Q xs
all_more P Q [] f h = tt
all_more P Q (x ∷ xs) f (h, k) = (f x h, all_more P Q xs f k)

pub all_join : {A : Type 0} (P : A → Type 0) (xs ys : List A) → AllByRecursion P xs → AllByRecursion P ys → AllByRecursion P (xs ++ ys)
all_join P [] ys h k = k
all_join P (x ∷ xs) ys (h, i) k = (h, all_join P xs ys i k)

pub unmapped : {A : Type 0} (P : Numbers → Type 0) (key : A → Numbers) (xs : List A) → AllByRecursion P (map key xs) → AllByRecursion (λ x. P (key x)) xs
unmapped P key [] h = tt
unmapped P key (x ∷ xs) (h, k) = (h, unmapped P key xs k)

abbrev inside : {A : Type 0} → A → Option A → A
inside d None = d
inside d (Some x) = x

found_if : {A : Type 0} (P : A → Type 0) (b : Bool) (x y : A) (o : Option A) → P x → (o ≡ Some y → P y) → (if b then Some x else o) ≡ Some y → P y
found_if P true x y o h k e = subst P (λ i. inside x (e i)) h
found_if P false x y o h k e = k e

pub all_find : {A : Type 0} (P : A → Type 0) (key : A → Numbers) (id : Numbers) (xs : List A) (x : A) → AllByRecursion P xs → find_by key id xs ≡ Some x → P x
all_find P key id [] x h e = absurd cc
all_find P key id (y ∷ ys) x (h, k) e = found_if P (is_id (key y) id) y x (find_by key id ys) h (all_find P key id ys x k) e

pub found_in : {A : Type 0} (key : A → Numbers) (id : Numbers) (xs : List A) (x : A) → find_by key id xs ≡ Some x → IsIn x xs
found_in key id xs x e = all_find (λ y. IsIn y xs) key id xs x (all_in (λ y. IsIn y xs) xs (λ y h. h)) e
