-- Steps up, as many as there are subordinates, come to the top, or back.
use Rattle.std.specs.Prelude.{ℕ, zero, suc, List, [], ◌∷◌, ◌++◌, Option, Some, None, Bool, true, false, ◌||◌, ◌+◌, if◌then◌else◌, length, map, unwrap_or, ◌≡◌, ◌⊎◌, ◌<◌, ◌≤◌, refl}
use Rattle.std.proofs.Common.{arith, inl, inr, sym, subst, ap, ◌∙◌}
use Rattle.std.proofs.lemmas.Bool.{eq-eqb}
use Rattle.std.proofs.lemmas.Slice.Eq.{bytes_eq-Decides}
use Rattle.model_laws.specs.Agreement.{IsIn}
use Rattle.audit_at.specs.Superiors.{climb, comes_back, comes_to, is_item, is_some_and, superior_of, top_of}
use Rattle.audit_at.proofs.Ways.{stays}
use Rattle.audit_at.specs.declared.item.Item.{Item}
use Rattle.audit_at.specs.declared.subordinate.Subordinate.{Subordinate}
use Rattle.audit_laws.specs.Tops.{IsOver, IsTop, TopsAreTops, above, further, itself, superior}
use Rattle.audit_laws.proofs.JournalItems.{same_item}

own_item : (x : Item) → is_item x x ≡ true
own_item x =
    rw ((bytes_eq-Decides x.base x.base).1 refl, eq-eqb x.id.incarnation x.id.incarnation refl, eq-eqb x.id.counter x.id.counter refl) refl

-- one step, where there is a superior
abbrev next : List Subordinate → Item → Item
next subs item = unwrap_or (superior_of subs item) item

next_is : (subs : List Subordinate) (x z : Item) → superior_of subs x ≡ Some z → next subs x ≡ z
next_is subs x z e = ap (λ o. unwrap_or o x) e

-- a way of so many steps, each to a superior, and the items on it but the last
abbrev IsWay : List Subordinate → ℕ → Item → Item → Type 0
IsWay subs zero x y = x ≡ y
IsWay subs (suc n) x y = (z : Item) × (superior_of subs x ≡ Some z) × IsWay subs n z y

abbrev visited : List Subordinate → ℕ → Item → List Item
visited subs zero x = []
visited subs (suc n) x = x ∷ visited subs n (next subs x)

-- lists
kept_in : {A : Type 0} (x y : A) (front back : List A) → IsIn y (front ++ x ∷ back) → (y ≡ x → ⊥) → IsIn y (front ++ back)
kept_in x y [] back (inl e) n = absurd (n e)
kept_in x y [] back (inr i) n = i
kept_in x y (z ∷ front) back (inl e) n = inl e
kept_in x y (z ∷ front) back (inr i) n = inr (kept_in x y front back i n)

record Split {A : Type 0} (x : A) (ys : List A) : Type 0 where
  front : List A
  back : List A
  is : ys ≡ front ++ x ∷ back

split_at : {A : Type 0} (x : A) (ys : List A) → IsIn x ys → Split x ys
split_at x [] i = absurd i
split_at x (y ∷ ys) (inl e) = record { front = []; back = ys; is = ap (λ z. z ∷ ys) (sym e) }
split_at x (y ∷ ys) (inr i) = let s : Split x ys = split_at x ys i in record { front = y ∷ s.front; back = s.back; is = ap (λ zs. y ∷ zs) s.is }

abbrev AreDistinct : List Item → Type 0
AreDistinct [] = Unit {0}
AreDistinct (x ∷ xs) = (IsIn x xs → ⊥) × AreDistinct xs

length_join : {A : Type 0} (xs ys : List A) → length (xs ++ ys) ≡ length xs + length ys
length_join [] ys = omega arith
length_join (x ∷ xs) ys = let e : length (xs ++ ys) ≡ length xs + length ys = length_join xs ys in omega (arith, e)

-- distinct items among others are no more than those
few : (xs ys : List Item) → AreDistinct xs → ((x : Item) → IsIn x xs → IsIn x ys) → length xs ≤ length ys
few [] ys d h = omega arith
few (x ∷ xs) ys (apart, d) h =
    let s : Split x ys = split_at x ys (h x (inl refl)) in
    let rest : length xs ≤ length (s.front ++ s.back) =
    few xs (s.front ++ s.back) d (λ y i. kept_in x y s.front s.back (subst (IsIn y) s.is (h y (inr i))) (λ e. apart (subst (λ z. IsIn z xs) e i))) in
    let whole : length ys ≡ length (s.front ++ x ∷ s.back) = ap length s.is in
    let more : length (s.front ++ x ∷ s.back) ≡ length s.front + length (x ∷ s.back) = length_join s.front (x ∷ s.back) in
    let less : length (s.front ++ s.back) ≡ length s.front + length s.back = length_join s.front s.back in
    omega (arith, rest, whole, more, less)

-- who has a superior is a subordinate
abbrev keys : List Subordinate → List Item
keys subs = map (λ s. s.item) subs

keys_length : (subs : List Subordinate) → length (keys subs) ≡ length subs
keys_length [] = refl
keys_length (s ∷ subs) = let e : length (keys subs) ≡ length subs = keys_length subs in omega (arith, e)

in_keys : (subs : List Subordinate) (item up : Item) → superior_of subs item ≡ Some up → IsIn item (keys subs)
in_keys [] item up e = absurd cc
in_keys (s ∷ subs) item up e = by_test (is_item s.item item) refl (in_keys subs item up) e
  where
    by_test : (c : Bool) → is_item s.item item ≡ c → (superior_of subs item ≡ Some up → IsIn item (keys subs)) → (if c then s.superior else superior_of subs item) ≡ Some up → IsIn item (keys (s ∷ subs))
    by_test true f rest g = inl (sym (same_item s.item item f))
    by_test false f rest g = inr (rest g)

-- the items on a way
visited_length : (subs : List Subordinate) (n : ℕ) (x : Item) → length (visited subs n x) ≡ n
visited_length subs zero x = refl
visited_length subs (suc n) x = let e : length (visited subs n (next subs x)) ≡ n = visited_length subs n (next subs x) in omega (arith, e)

all_in : (subs : List Subordinate) (n : ℕ) (x y v : Item) → IsWay subs n x y → IsIn v (visited subs n x) → IsIn v (keys subs)
all_in subs zero x y v w i = absurd i
all_in subs (suc n) x y v (z, e, w) (inl f) = subst (λ t. IsIn t (keys subs)) (sym f) (in_keys subs x z e)
all_in subs (suc n) x y v (z, e, w) (inr i) = all_in subs n z y v w (subst (λ t. IsIn v (visited subs n t)) (next_is subs x z e) i)

over_visited : (subs : List Subordinate) (n : ℕ) (z y v : Item) → IsWay subs n z y → IsIn v (visited subs n z) → (v ≡ z) ⊎ IsOver subs v z
over_visited subs zero z y v w i = absurd i
over_visited subs (suc n) z y v (t, e, w) (inl f) = inl f
over_visited subs (suc n) z y v (t, e, w) (inr i) = by_place (over_visited subs n t y v w (subst (λ u. IsIn v (visited subs n u)) (next_is subs z t e) i))
  where
    by_place : (v ≡ t) ⊎ IsOver subs v t → (v ≡ z) ⊎ IsOver subs v z
    by_place (inl f) = inr (superior (e ∙ ap (λ u. Some u) (sym f)))
    by_place (inr o) = inr (further t e o)

distinct : (subs : List Subordinate) → ((item : Item) → IsOver subs item item → ⊥) → (n : ℕ) (x y : Item) → IsWay subs n x y → AreDistinct (visited subs n x)
distinct subs none zero x y w = tt
distinct subs none (suc n) x y (z, e, w) =
    ((λ i. apart (over_visited subs n z y x w (subst (λ t. IsIn x (visited subs n t)) (next_is subs x z e) i))), subst (λ t. AreDistinct (visited subs n t)) (sym (next_is subs x z e)) (distinct subs none n z y w))
  where
    apart : (x ≡ z) ⊎ IsOver subs x z → ⊥
    apart (inl f) = none x (superior (e ∙ ap (λ u. Some u) (sym f)))
    apart (inr o) = none x (further z e o)

-- no way of distinct items has more steps than there are subordinates
at_most : (subs : List Subordinate) (n : ℕ) (x y : Item) → IsWay subs n x y → AreDistinct (visited subs n x) → n ≤ length subs
at_most subs n x y w d =
    let some : length (visited subs n x) ≤ length (keys subs) = few (visited subs n x) (keys subs) d (λ v i. all_in subs n x y v w i) in
    let here : length (visited subs n x) ≡ n = visited_length subs n x in
    let all : length (keys subs) ≡ length subs = keys_length subs in
    omega (arith, some, here, all)

-- the top, or a way on
climbs_or : (subs : List Subordinate) (n : ℕ) (x : Item) → IsTop subs (climb subs n x) x ⊎ ((y : Item) × IsWay subs (suc n) x y)
climbs_or subs zero x = by_up (superior_of subs x) refl
  where
    by_up : (o : Option Item) → superior_of subs x ≡ o → IsTop subs x x ⊎ ((y : Item) × IsWay subs (suc zero) x y)
    by_up None e = inl (itself e refl)
    by_up (Some z) e = inr (z, (z, e, refl))
climbs_or subs (suc n) x = by_up (superior_of subs x) refl (λ z. climbs_or subs n z)
  where
    by_up : (o : Option Item) → superior_of subs x ≡ o → ((z : Item) → IsTop subs (climb subs n z) z ⊎ ((y : Item) × IsWay subs (suc n) z y))
        → IsTop subs (climb subs n (unwrap_or o x)) x ⊎ ((y : Item) × IsWay subs (suc (suc n)) x y)
    by_up None e rest = inl (itself e (sym (stays subs n x (sym e))))
    by_up (Some z) e rest = by_rest (rest z)
      where
        by_rest : IsTop subs (climb subs n z) z ⊎ ((y : Item) × IsWay subs (suc n) z y) → IsTop subs (climb subs n z) x ⊎ ((y : Item) × IsWay subs (suc (suc n)) x y)
        by_rest (inl t) = inl (above z e t)
        by_rest (inr (y, w)) = inr (y, (z, e, w))

has_top : (subs : List Subordinate) → ((item : Item) → IsOver subs item item → ⊥) → (item : Item) → IsTop subs (top_of subs item) item
has_top subs none item = by_way (climbs_or subs (length subs) item)
  where
    by_way : IsTop subs (climb subs (length subs) item) item ⊎ ((y : Item) × IsWay subs (suc (length subs)) item y) → IsTop subs (top_of subs item) item
    by_way (inl t) = t
    by_way (inr (y, w)) =
        let few_steps : suc (length subs) ≤ length subs = at_most subs (suc (length subs)) item y w (distinct subs none (suc (length subs)) item y w) in
        absurd (omega (arith, few_steps))

one_top : (subs : List Subordinate) (a b item : Item) → IsTop subs a item → IsTop subs b item → a ≡ b
one_top subs a b item (itself e f) (itself g h) = sym f ∙ h
one_top subs a b item (itself e f) (above up g t) = let no : None ≡ Some up = sym e ∙ g in absurd cc
one_top subs a b item (above up e t) (itself g h) = let no : None ≡ Some up = sym g ∙ e in absurd cc
one_top subs a b item (above up e t) (above other g u) =
    let eq : Some up ≡ Some other = sym e ∙ g in
    let same : up ≡ other = cc in
    one_top subs a b other (subst (IsTop subs a) same t) u

-- who comes back is above itself
over_by : (subs : List Subordinate) (n : ℕ) (item from : Item) → comes_to subs n item from ≡ true → IsOver subs item from
over_by subs zero item from e = absurd cc
over_by subs (suc n) item from e = by_up (superior_of subs from) refl (λ up f. over_by subs n item up f) e
  where
    by_up : (o : Option Item) → superior_of subs from ≡ o → ((up : Item) → comes_to subs n item up ≡ true → IsOver subs item up)
        → is_some_and (λ up. is_item up item || comes_to subs n item up) o ≡ true → IsOver subs item from
    by_up None f rest c = absurd cc
    by_up (Some up) f rest c = by_test (is_item up item) refl c
      where
        by_test : (b : Bool) → is_item up item ≡ b → (b || comes_to subs n item up) ≡ true → IsOver subs item from
        by_test true g c = superior (f ∙ ap (λ u. Some u) (same_item up item g))
        by_test false g c = further up f (rest up c)

-- and the other way: a way back is found within so many steps, as a longer one meets an item twice
way_of : (subs : List Subordinate) (up from : Item) → IsOver subs up from → (m : ℕ) × IsWay subs (suc m) from up
way_of subs up from (superior e) = (0, (up, e, refl))
way_of subs up from (further z e o) = let (m, w) = way_of subs up z o in (suc m, (z, e, w))

reaches : (subs : List Subordinate) (m n : ℕ) (item from : Item) → IsWay subs (suc m) from item → suc m ≤ n → comes_to subs n item from ≡ true
reaches subs m zero item from w l = absurd (omega (arith, l))
reaches subs zero (suc n) item from (z, e, w) l = ap (is_some_and (λ up. is_item up item || comes_to subs n item up)) e ∙ ap (λ b. b || comes_to subs n item z) (ap (is_item z) (sym w) ∙ own_item z)
reaches subs (suc m) (suc n) item from (z, e, w) l =
    ap (is_some_and (λ up. is_item up item || comes_to subs n item up)) e ∙ either (is_item z item) (reaches subs m n item z w (omega (arith, l)))
  where
    either : (b : Bool) → comes_to subs n item z ≡ true → (b || comes_to subs n item z) ≡ true
    either true c = refl
    either false c = c

-- from an item on a way the rest of it goes on
finds : (subs : List Subordinate) (n : ℕ) (x z y : Item) → IsWay subs (suc n) z y → (IsIn x (visited subs (suc n) z) → ⊥) ⊎ ((k : ℕ) × IsWay subs (suc k) x y × (k ≤ n))
finds subs zero x z y w = by_test (is_item x z) refl
  where
    by_test : (c : Bool) → is_item x z ≡ c → (IsIn x (visited subs (suc zero) z) → ⊥) ⊎ ((k : ℕ) × IsWay subs (suc k) x y × (k ≤ zero))
    by_test true f = inr (0, subst (λ t. IsWay subs (suc zero) t y) (sym (same_item x z f)) w, omega arith)
    by_test false f = inl none
      where
        none : IsIn x (visited subs (suc zero) z) → ⊥
        none (inl e) = let no : true ≡ false = sym (own_item x) ∙ (ap (is_item x) e ∙ f) in cc
        none (inr i) = i
finds subs (suc n) x z y (t, e, w) = by_test (is_item x z) refl (finds subs n x t y w)
  where
    by_test : (c : Bool) → is_item x z ≡ c → (IsIn x (visited subs (suc n) t) → ⊥) ⊎ ((k : ℕ) × IsWay subs (suc k) x y × (k ≤ n))
        → (IsIn x (visited subs (suc (suc n)) z) → ⊥) ⊎ ((k : ℕ) × IsWay subs (suc k) x y × (k ≤ suc n))
    by_test true f rest = inr (suc n, subst (λ u. IsWay subs (suc (suc n)) u y) (sym (same_item x z f)) (t, e, w), omega arith)
    by_test false f (inr (k, v, l)) = inr (k, v, omega (arith, l))
    by_test false f (inl none) = inl nowhere
      where
        nowhere : IsIn x (visited subs (suc (suc n)) z) → ⊥
        nowhere (inl g) = let no : true ≡ false = sym (own_item x) ∙ (ap (is_item x) g ∙ f) in cc
        nowhere (inr i) = none (subst (λ u. IsIn x (visited subs (suc n) u)) (next_is subs z t e) i)

cuts : (subs : List Subordinate) (m : ℕ) (x y : Item) → IsWay subs (suc m) x y → AreDistinct (visited subs (suc m) x) ⊎ ((k : ℕ) × IsWay subs (suc k) x y × (k < m))
cuts subs zero x y w = inl ((λ i. i), tt)
cuts subs (suc m) x y (z, e, w) = by_rest (cuts subs m z y w) (finds subs m x z y w)
  where
    by_rest : AreDistinct (visited subs (suc m) z) ⊎ ((k : ℕ) × IsWay subs (suc k) z y × (k < m)) → (IsIn x (visited subs (suc m) z) → ⊥) ⊎ ((k : ℕ) × IsWay subs (suc k) x y × (k ≤ m))
        → AreDistinct (visited subs (suc (suc m)) x) ⊎ ((k : ℕ) × IsWay subs (suc k) x y × (k < suc m))
    by_rest (inr (k, v, l)) found = inr (suc k, (z, e, v), omega (arith, l))
    by_rest (inl d) (inr (k, v, l)) = inr (k, v, omega (arith, l))
    by_rest (inl d) (inl none) =
        inl ((λ i. none (subst (λ t. IsIn x (visited subs (suc m) t)) (next_is subs x z e) i)), subst (λ t. AreDistinct (visited subs (suc m) t)) (sym (next_is subs x z e)) d)

short : (subs : List Subordinate) (fuel m : ℕ) (x y : Item) → m ≤ fuel → IsWay subs (suc m) x y → (k : ℕ) × IsWay subs (suc k) x y × (suc k ≤ length subs)
short subs zero m x y l w = by_cut (cuts subs m x y w)
  where
    by_cut : AreDistinct (visited subs (suc m) x) ⊎ ((k : ℕ) × IsWay subs (suc k) x y × (k < m)) → (k : ℕ) × IsWay subs (suc k) x y × (suc k ≤ length subs)
    by_cut (inl d) = (m, w, at_most subs (suc m) x y w d)
    by_cut (inr (k, v, less)) = absurd (omega (arith, l, less))
short subs (suc fuel) m x y l w = by_cut (cuts subs m x y w) (λ k v less. short subs fuel k x y less v)
  where
    by_cut : AreDistinct (visited subs (suc m) x) ⊎ ((k : ℕ) × IsWay subs (suc k) x y × (k < m)) → ((k : ℕ) → IsWay subs (suc k) x y → k ≤ fuel → (j : ℕ) × IsWay subs (suc j) x y × (suc j ≤ length subs))
        → (k : ℕ) × IsWay subs (suc k) x y × (suc k ≤ length subs)
    by_cut (inl d) rest = (m, w, at_most subs (suc m) x y w d)
    by_cut (inr (k, v, less)) rest = rest k v (omega (arith, l, less))

comes : (subs : List Subordinate) (item : Item) → IsOver subs item item → comes_back subs item ≡ true
comes subs item o =
    let (m, w) = way_of subs item item o in
    let (k, v, few_steps) = short subs m m item item (omega arith) w in
    reaches subs k (length subs) item item v few_steps

pub tops_are_tops : TopsAreTops
tops_are_tops = record { back = λ subs item e. over_by subs (length subs) item item e; comes = comes; top = has_top; one = λ subs item a b h k. one_top subs a b item h k }
