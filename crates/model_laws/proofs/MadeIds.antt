-- No node makes an id twice.
use Rattle.std.specs.Prelude.{ℕ, length, List, [], ◌∷◌, ◌++◌, Option, Some, None, Bool, true, false, not, nat_lt, ◌&&◌, ◌||◌, ◌+◌, if◌then◌else◌, map, filter, ◌≡◌, ◌≤◌, ◌⊎◌, refl}
use Rattle.std.specs.List.{AllByRecursion}
use Rattle.std.proofs.Common.{inl, inr, sym, subst, ap, arith, ◌∙◌}
use Rattle.at_base.specs.Numbers.{Numbers}
use Rattle.at_base.specs.declared.record.Record.{Record}
use Rattle.at_base.specs.declared.event.Event.{Event}
use Rattle.at_model.specs.Book.{Book, Activity, is_id, transaction_id, leaf_id, activity_id, next_id, last_counter}
use Rattle.at_model.specs.Step.{Outcome, at_time, make_transaction, make_leaf, make_activity, plan, step}
use Rattle.at_model.specs.Recovery.{last_incarnation, recover}
use Rattle.model_laws.specs.Agreement.{IsIn}
use Rattle.model_laws.specs.Laws.{IsDrawn, KeepsPlace}
use Rattle.model_laws.specs.DrawnIds.{HoldsDrawn, restarted, Life, LifeEvent, Stepped, Stopped, Started, newborn, with_entry, live_through, ids_of, is_among, new_ids, made_in, made_through, AreApart, NoIdMadeTwice}
use Rattle.model_laws.proofs.DecisionLaws.{all_join, all_more, all_map}
use Rattle.model_laws.proofs.DrawnItems.{Holds, Leaves, as_before, one_transaction, one_leaf, one_activity, leaves}
use Rattle.model_laws.proofs.DrawnIds.{step_drawn, recovered_drawn, drawn_on, made_drawn}
use Rattle.model_laws.proofs.NextIds.{makes_under_the_next_id}
use Rattle.model_laws.proofs.StepShapes.{steps_keep_place}
use Rattle.model_laws.proofs.RecoveryLaws.{self_id, incarnations_rise}

-- the ids that a step makes
or_left : (a b : Bool) → a ≡ true → (a || b) ≡ true
or_left true b e = refl
or_left false b e = absurd cc

or_right : (a b : Bool) → b ≡ true → (a || b) ≡ true
or_right true b e = refl
or_right false b e = e

either_true : (a b : Bool) → (a || b) ≡ true → (a ≡ true) ⊎ (b ≡ true)
either_true true b e = inl refl
either_true false b e = inr e

in_front : (xs ys : List Numbers) (i : Numbers) → is_among xs i ≡ true → is_among (xs ++ ys) i ≡ true
in_front [] ys i h = absurd cc
in_front (x ∷ xs) ys i h = elim (either_true (is_id i x) (is_among xs i) h) [
  | inl e ↦ or_left (is_id i x) (is_among (xs ++ ys) i) e
  | inr e ↦ or_right (is_id i x) (is_among (xs ++ ys) i) (in_front xs ys i e)
]

behind : (xs ys : List Numbers) (i : Numbers) → is_among ys i ≡ true → is_among (xs ++ ys) i ≡ true
behind [] ys i h = h
behind (x ∷ xs) ys i h = or_right (is_id i x) (is_among (xs ++ ys) i) (behind xs ys i h)

any_root : (xs : List Activity) → AllByRecursion (λ a. Unit {0}) xs
any_root [] = tt
any_root (x ∷ xs) = (tt, any_root xs)

all_among : {A : Type 0} (key : A → Numbers) (ids : List Numbers) (xs : List A) → ((i : Numbers) → is_among (map key xs) i ≡ true → is_among ids i ≡ true)
    → AllByRecursion (λ x. is_among ids (key x) ≡ true) xs
all_among key ids [] f = tt
all_among key ids (x ∷ xs) f = (
  f (key x) (or_left (is_id (key x) (key x)) (is_among (map key xs) (key x)) (self_id (key x))),
  all_among key ids xs (λ i h. f i (or_right (is_id i (key x)) (is_among (map key xs) i) h)),
)

abbrev pub IsHeld : Book → Numbers → Type 0
IsHeld b i = is_among (ids_of b) i ≡ true

pub held_all : (b : Book) → Holds (IsHeld b) (IsHeld b) (IsHeld b) (λ i. Unit {0}) b
held_all b = record {
  transactions = all_among transaction_id (ids_of b) b.transactions (in_front (map transaction_id b.transactions) (map leaf_id b.leaves ++ map activity_id b.activities));
  leaves = all_among leaf_id (ids_of b) b.leaves (λ i h.
      behind (map transaction_id b.transactions) (map leaf_id b.leaves ++ map activity_id b.activities) i
      (in_front (map leaf_id b.leaves) (map activity_id b.activities) i h));
  activities = all_among activity_id (ids_of b) b.activities (λ i h.
      behind (map transaction_id b.transactions) (map leaf_id b.leaves ++ map activity_id b.activities) i
      (behind (map leaf_id b.leaves) (map activity_id b.activities) i h));
  roots = any_root b.activities;
}

-- those that the book before did not hold
abbrev fresh : List Numbers → List Numbers → List Numbers
fresh ids xs = filter (λ i. not (is_among ids i)) xs

drop_held : (ids : List Numbers) (x : Numbers) (rest : List Numbers) (b : Bool) → b ≡ true → rest ≡ [] → (if not b then x ∷ rest else rest) ≡ []
drop_held ids x rest true e f = f
drop_held ids x rest false e f = absurd cc

none_fresh : (ids xs : List Numbers) → AllByRecursion (λ i. is_among ids i ≡ true) xs → fresh ids xs ≡ []
none_fresh ids [] h = refl
none_fresh ids (x ∷ xs) (h, k) = drop_held ids x (fresh ids xs) (is_among ids x) h (none_fresh ids xs k)

if_join : (b : Bool) (x : Numbers) (xs ys zs : List Numbers) → zs ≡ xs ++ ys → (if b then x ∷ zs else zs) ≡ (if b then x ∷ xs else xs) ++ ys
if_join true x xs ys zs e = ap (λ l. x ∷ l) e
if_join false x xs ys zs e = e

fresh_join : (ids xs ys : List Numbers) → fresh ids (xs ++ ys) ≡ fresh ids xs ++ fresh ids ys
fresh_join ids [] ys = refl
fresh_join ids (x ∷ xs) ys = if_join (not (is_among ids x)) x (fresh ids xs) (fresh ids ys) (fresh ids (xs ++ ys)) (fresh_join ids xs ys)

-- what is fresh of one more: it, or nothing
data OneAtMost (id : Numbers) (xs : List Numbers) : Type 0 where
  nothing_made : xs ≡ [] → OneAtMost id xs
  one_made : xs ≡ id ∷ [] → OneAtMost id xs

one_of : (ids : List Numbers) (id : Numbers) (b : Bool) → OneAtMost id (if b then id ∷ [] else [])
one_of ids id true = one_made refl
one_of ids id false = nothing_made refl

one_between : (id : Numbers) (xs ys zs : List Numbers) → xs ≡ [] → OneAtMost id ys → zs ≡ [] → OneAtMost id (xs ++ (ys ++ zs))
one_between id xs ys zs e (nothing_made f) g = nothing_made (empty e f g)
  where
    empty : xs ≡ [] → ys ≡ [] → zs ≡ [] → xs ++ (ys ++ zs) ≡ []
    empty e f g = rw (e, f, g) refl
one_between id xs ys zs e (one_made f) g = one_made (single e f g)
  where
    single : xs ≡ [] → ys ≡ id ∷ [] → zs ≡ [] → xs ++ (ys ++ zs) ≡ id ∷ []
    single e f g = rw (e, f, g) refl

-- what a step makes: nothing, or the next id
data Makes (b c : Book) : Type 0 where
  makes_none : new_ids b c ≡ [] → Makes b c
  makes_one : (id : Numbers) → next_id b ≡ Some id → IsDrawn c id → new_ids b c ≡ id ∷ [] → Makes b c

makes_at_most : (b c : Book) (id : Numbers) → next_id b ≡ Some id → IsDrawn c id → OneAtMost id (new_ids b c) → Makes b c
makes_at_most b c id next drawn (nothing_made e) = makes_none e
makes_at_most b c id next drawn (one_made e) = makes_one id next drawn e

-- the fresh ids of a book, list by list
parted : (b c : Book) → new_ids b c
    ≡ fresh (ids_of b) (map transaction_id c.transactions) ++ (fresh (ids_of b) (map leaf_id c.leaves) ++ fresh (ids_of b) (map activity_id c.activities))
parted b c =
    fresh_join (ids_of b) (map transaction_id c.transactions) (map leaf_id c.leaves ++ map activity_id c.activities)
    ∙ ap (λ xs. fresh (ids_of b) (map transaction_id c.transactions) ++ xs) (fresh_join (ids_of b) (map leaf_id c.leaves) (map activity_id c.activities))

none_of : {A : Type 0} (b : Book) (key : A → Numbers) (xs : List A) → AllByRecursion (λ x. is_among (ids_of b) (key x) ≡ true) xs → fresh (ids_of b) (map key xs) ≡ []
none_of b key xs h = none_fresh (ids_of b) (map key xs) (all_map (λ i. is_among (ids_of b) i ≡ true) key xs h)

passes : (id i : Numbers) (rest : List Numbers) (t : Bool) → t ≡ true → OneAtMost id rest → OneAtMost id (if not t then i ∷ rest else rest)
passes id i rest true e h = h
passes id i rest false e h = absurd cc

-- one item behind those that were held
one_behind : {A : Type 0} (b : Book) (key : A → Numbers) (id : Numbers) (x : A) (xs : List A) → key x ≡ id
    → AllByRecursion (λ y. is_among (ids_of b) (key y) ≡ true) xs → OneAtMost id (fresh (ids_of b) (map key (xs ++ x ∷ [])))
one_behind b key id x [] same h =
    subst (λ i. OneAtMost id (fresh (ids_of b) (i ∷ []))) (sym same) (one_of (ids_of b) id (not (is_among (ids_of b) id)))
one_behind b key id x (y ∷ ys) same (h, k) =
    passes id (key y) (fresh (ids_of b) (map key (ys ++ x ∷ []))) (is_among (ids_of b) (key y)) h (one_behind b key id x ys same k)

pub all_none : (b c : Book) → Holds (IsHeld b) (IsHeld b) (IsHeld b) (λ i. Unit {0}) c → new_ids b c ≡ []
all_none b c h =
    parted b c ∙ nothing (fresh (ids_of b) (map transaction_id c.transactions)) (fresh (ids_of b) (map leaf_id c.leaves)) (fresh (ids_of b) (map activity_id c.activities))
    (none_of b transaction_id c.transactions h.transactions) (none_of b leaf_id c.leaves h.leaves) (none_of b activity_id c.activities h.activities)
  where
    nothing : (xs ys zs : List Numbers) → xs ≡ [] → ys ≡ [] → zs ≡ [] → xs ++ (ys ++ zs) ≡ []
    nothing xs ys zs e f g = rw (e, f, g) refl

one_first : (id : Numbers) (xs ys zs : List Numbers) → OneAtMost id xs → ys ≡ [] → zs ≡ [] → OneAtMost id (xs ++ (ys ++ zs))
one_first id xs ys zs (nothing_made e) f g = nothing_made (rw (e, f, g) refl)
one_first id xs ys zs (one_made e) f g = one_made (rw (e, f, g) refl)

one_last : (id : Numbers) (xs ys zs : List Numbers) → xs ≡ [] → ys ≡ [] → OneAtMost id zs → OneAtMost id (xs ++ (ys ++ zs))
one_last id xs ys zs e f (nothing_made g) = nothing_made (rw (e, f, g) refl)
one_last id xs ys zs e f (one_made g) = one_made (rw (e, f, g) refl)

left_makes : (b : Book) (now : ℕ) (o : Outcome) → Leaves (IsHeld b) (IsHeld b) (IsHeld b) (λ i. Unit {0}) b now o → Makes b o.book
left_makes b now o (as_before h) = makes_none (all_none b o.book h)
left_makes b now o (one_transaction id t next same is) =
    let h : Holds (IsHeld b) (IsHeld b) (IsHeld b) (λ i. Unit {0}) b = held_all b in
    let c : Book = make_transaction (at_time now b) t in
    subst (Makes b) (sym is)
    (makes_at_most b c id next (made_drawn b c refl refl id id next refl)
    (subst (OneAtMost id) (sym (parted b c))
    (one_first id _ _ _ (one_behind b transaction_id id t b.transactions same h.transactions)
    (none_of b leaf_id b.leaves h.leaves) (none_of b activity_id b.activities h.activities))))
left_makes b now o (one_leaf id l next same is) =
    let h : Holds (IsHeld b) (IsHeld b) (IsHeld b) (λ i. Unit {0}) b = held_all b in
    let c : Book = make_leaf (at_time now b) l in
    subst (Makes b) (sym is)
    (makes_at_most b c id next (made_drawn b c refl refl id id next refl)
    (subst (OneAtMost id) (sym (parted b c))
    (one_between id _ _ _ (none_of b transaction_id b.transactions h.transactions)
    (one_behind b leaf_id id l b.leaves same h.leaves) (none_of b activity_id b.activities h.activities))))
left_makes b now o (one_activity id a next same root is) =
    let h : Holds (IsHeld b) (IsHeld b) (IsHeld b) (λ i. Unit {0}) b = held_all b in
    let c : Book = make_activity (at_time now b) a in
    subst (Makes b) (sym is)
    (makes_at_most b c id next (made_drawn b c refl refl id id next refl)
    (subst (OneAtMost id) (sym (parted b c))
    (one_last id _ _ _ (none_of b transaction_id b.transactions h.transactions)
    (none_of b leaf_id b.leaves h.leaves) (one_behind b activity_id id a b.activities same h.activities))))

step_makes : (b : Book) (e : Event) (now : ℕ) (landed : Bool) → Makes b (step b e now landed).book
step_makes b e now landed =
    left_makes b now (step b e now landed) (leaves (IsHeld b) (IsHeld b) (IsHeld b) (λ i. Unit {0}) b e now landed (held_all b))

-- Lives. What was made is spent: no id that is made later is one of them.
abbrev life : List Record → Option Book → Life
life rs o = record { journal = rs; book = o }

abbrev IsSpentIn : List Record → Option Book → Numbers → Type 0
IsSpentIn rs None id = id.incarnation ≤ last_incarnation rs
IsSpentIn rs (Some b) id = IsDrawn b id

abbrev IsSpent : Life → Numbers → Type 0
IsSpent l id = IsSpentIn l.journal l.book id

record IsUp (rs : List Record) (b : Book) : Type 0 where
  drawn : HoldsDrawn b
  known : b.incarnation ≤ last_incarnation rs

abbrev IsGoodIn : List Record → Option Book → Type 0
IsGoodIn rs None = Unit {0}
IsGoodIn rs (Some b) = IsUp rs b

record Grows (l m : Life) (made : List Numbers) : Type 0 where
  good : IsGoodIn m.journal m.book
  spent : (id : Numbers) → IsSpent l id → IsSpent m id
  new : AllByRecursion (λ id. IsSpent l id → ⊥) made
  now_spent : AllByRecursion (IsSpent m) made
  apart : AreApart made

still : (l : Life) → IsGoodIn l.journal l.book → Grows l l []
still l h = record { good = h; spent = λ id k. k; new = tt; now_spent = tt; apart = tt }

pub journal_rises : (rs : List Record) (r : Record) → last_incarnation rs ≤ last_incarnation (rs ++ r ∷ [])
journal_rises [] r = omega arith
journal_rises (x ∷ xs) r = omega (arith, journal_rises xs r)

pub entry_rises : (entry : Option Record) (landed : Bool) (rs : List Record) → last_incarnation rs ≤ last_incarnation (with_entry entry landed rs)
entry_rises None landed rs = omega arith
entry_rises (Some r) true rs = journal_rises rs r
entry_rises (Some r) false rs = omega arith

step_grows : (b c : Book) (rs more : List Record) → IsUp rs b → KeepsPlace b c → HoldsDrawn c → last_incarnation rs ≤ last_incarnation more → Makes b c
    → Grows (life rs (Some b)) (life more (Some c)) (new_ids b c)
step_grows b c rs more up place drawn rises (makes_none e) = subst (Grows (life rs (Some b)) (life more (Some c))) (sym e) (record {
  good = record { drawn = drawn; known = omega (arith, up.known, place.incarnation, rises) };
  spent = λ id k. drawn_on b c place id k;
  new = tt;
  now_spent = tt;
  apart = tt;
})
step_grows b c rs more up place drawn rises (makes_one id next made e) = subst (Grows (life rs (Some b)) (life more (Some c))) (sym e) (record {
  good = record { drawn = drawn; known = omega (arith, up.known, place.incarnation, rises) };
  spent = λ i k. drawn_on b c place i k;
  new = (makes_under_the_next_id.next b id next, tt);
  now_spent = (made, tt);
  apart = (λ h. h, tt);
})

drawn_before : (b : Book) (n : ℕ) (id : Numbers) → b.incarnation ≤ n → IsDrawn b id → id.incarnation ≤ n
drawn_before b n id h (inl k) = omega (arith, h, k)
drawn_before b n id h (inr (e, f)) = omega (arith, h, e)

spent_at_start : (b : Book) (n m : ℕ) (id : Numbers) → b.incarnation ≡ m → m ≡ n + 1 → id.incarnation ≤ n → IsDrawn b id
spent_at_start b n m id e f h = inl (omega (arith, e, f, h))

at_start : (base : List ℕ) (rs : List Record) (starts : Bool) → let l : Life = life rs None in
    Grows l (if starts then record { journal = restarted rs; book = Some (recover base (restarted rs)) } else l) []
at_start base rs false = still (life rs None) tt
at_start base rs true = record {
  good = record { drawn = recovered_drawn base rs; known = same_most (last_incarnation (restarted rs)) };
  spent = λ id h. spent_at_start (recover base (restarted rs)) (last_incarnation rs) (last_incarnation (restarted rs)) id refl (incarnations_rise rs).0 h;
  new = tt;
  now_spent = tt;
  apart = tt;
}
  where
    same_most : (n : ℕ) → n ≤ n
    same_most n = omega arith

grows : (base : List ℕ) (e : LifeEvent) (rs : List Record) (o : Option Book) → IsGoodIn rs o → Grows (life rs o) (live_through base e (life rs o)) (made_in e (life rs o))
grows base (Stepped e now landed) rs None h = still (life rs None) h
grows base (Stepped e now landed) rs (Some b) h =
    step_grows b (step b e now landed).book rs (with_entry (plan b e now).entry landed rs) h (steps_keep_place b e now landed)
    (step_drawn b e now landed h.drawn) (entry_rises (plan b e now).entry landed rs) (step_makes b e now landed)
grows base Stopped rs None h = still (life rs None) h
grows base Stopped rs (Some b) h =
    record { good = tt; spent = λ id k. drawn_before b (last_incarnation rs) id h.known k; new = tt; now_spent = tt; apart = tt }
grows base (Started landed) rs (Some b) h = still (life rs (Some b)) h
grows base (Started landed) rs None h = at_start base rs (landed && nat_lt (last_incarnation rs) last_counter)

-- joined lists
none_in : (P : Numbers → Type 0) (xs : List Numbers) (id : Numbers) → AllByRecursion (λ x. P x → ⊥) xs → P id → IsIn id xs → ⊥
none_in P [] id h p i = i
none_in P (x ∷ xs) id (h, k) p (inl e) = h (subst P e p)
none_in P (x ∷ xs) id (h, k) p (inr i) = none_in P xs id k p i

in_join : (id : Numbers) (xs ys : List Numbers) → IsIn id (xs ++ ys) → IsIn id xs ⊎ IsIn id ys
in_join id [] ys i = inr i
in_join id (x ∷ xs) ys (inl e) = inl (inl e)
in_join id (x ∷ xs) ys (inr i) = elim (in_join id xs ys i) [ inl j ↦ inl (inr j) | inr j ↦ inr j ]

neither : (A B : Type 0) → (A → ⊥) → (B → ⊥) → A ⊎ B → ⊥
neither A B f g (inl a) = f a
neither A B f g (inr b) = g b

apart_join : (P : Numbers → Type 0) (xs ys : List Numbers) → AreApart xs → AllByRecursion P xs → AreApart ys → AllByRecursion (λ x. P x → ⊥) ys → AreApart (xs ++ ys)
apart_join P [] ys h p k n = k
apart_join P (x ∷ xs) ys (h, i) (p, q) k n =
    (λ j. neither (IsIn x xs) (IsIn x ys) h (none_in P ys x n p) (in_join x xs ys j), apart_join P xs ys i q k n)

record IsOnce (l : Life) (made : List Numbers) : Type 0 where
  apart : AreApart made
  new : AllByRecursion (λ id. IsSpent l id → ⊥) made

once : (base : List ℕ) (es : List LifeEvent) (l : Life) → IsGoodIn l.journal l.book → IsOnce l (made_through base es l)
once base [] l h = record { apart = tt; new = tt }
once base (e ∷ es) l h =
    let m : Life = live_through base e l in
    let g : Grows l m (made_in e l) = grows base e l.journal l.book h in
    let rest : IsOnce m (made_through base es m) = once base es m g.good in
    record {
      apart = apart_join (IsSpent m) (made_in e l) (made_through base es m) g.apart g.now_spent rest.apart rest.new;
      new = all_join (λ id. IsSpent l id → ⊥) (made_in e l) (made_through base es m) g.new
          (all_more (λ id. IsSpent m id → ⊥) (λ id. IsSpent l id → ⊥) (made_through base es m) (λ id f k. f (g.spent id k)) rest.new);
    }

one_at_most : (b c : Book) → Makes b c → length (new_ids b c) ≤ 1
one_at_most b c (makes_none e) = omega (arith, ap length e)
one_at_most b c (makes_one id next drawn e) = omega (arith, ap length e)

never_drawn : (b c : Book) → Makes b c → AllByRecursion (λ id. IsDrawn b id → ⊥) (new_ids b c)
never_drawn b c (makes_none e) = subst (AllByRecursion (λ id. IsDrawn b id → ⊥)) (sym e) tt
never_drawn b c (makes_one id next drawn e) = subst (AllByRecursion (λ i. IsDrawn b i → ⊥)) (sym e) (makes_under_the_next_id.next b id next, tt)

pub no_id_made_twice : NoIdMadeTwice
no_id_made_twice = record {
  one = λ b e now landed. one_at_most b (step b e now landed).book (step_makes b e now landed);
  new = λ b e now landed. never_drawn b (step b e now landed).book (step_makes b e now landed);
  life = λ base es. (once base es newborn tt).apart;
}
