-- The kept outcomes of a journal, and of what it comes to when its dead records are left out.
use Rattle.std.specs.Prelude.{ℕ, List, [], ◌∷◌, ◌++◌, Bool, true, false, not, ◌||◌, if◌then◌else◌, map, filter, drop, length, zero, suc, nat_lt, ◌+◌, ◌-◌, ◌<◌, ◌≤◌, ◌≡◌, ◌⊎◌, refl}
use Rattle.std.specs.List.{AllByRecursion}
use Rattle.std.proofs.Common.{inl, inr, sym, ap, subst, arith, ◌∙◌}
use Rattle.std.proofs.lemmas.Bool.{ltb-true, ltb-false}
use Rattle.std.proofs.lemmas.List.{length-append, length-drop, append-nil, append_assoc, drop-append-le}
use Rattle.at_base.specs.Numbers.{Numbers}
use Rattle.at_base.specs.declared.limits.TheConstants.{MOST_OUTCOMES}
use Rattle.at_base.specs.declared.record.Record.{Record}
use Rattle.at_base.specs.declared.record.Record.TheVariants as records
use Rattle.at_model.specs.Book.{is_id}
use Rattle.at_model.specs.Outcomes.{outcomes_after, with_outcome, put_last, is_kept}
use Rattle.at_model.specs.Recovery.{in_order, incarnation_of, last_incarnation, live}
use Rattle.model_laws.specs.Compactions.{record_id}
use Rattle.model_laws.proofs.DecisionLaws.{all_filter, all_join, all_map, all_more}
use Rattle.model_laws.proofs.DrawnIds.{all_in_order, all_live}
use Rattle.model_laws.proofs.RecoveryLaws.{incarnations_rise, or_false, same_id, self_id}

-- the other ids, and the id behind them
abbrev without : Numbers → List Numbers → List Numbers
without s ids = filter (λ i. not (is_id i s)) ids

abbrev moved : Numbers → List Numbers → List Numbers
moved s ids = without s ids ++ s ∷ []

-- the last m
abbrev last_of : ℕ → List Numbers → List Numbers
last_of m ids = drop (length ids - m) ids

abbrev AreFresh : List Numbers → Type 0
AreFresh [] = Unit {0}
AreFresh (s ∷ ss) = (is_kept s ss ≡ false) × AreFresh ss

-- an id is in a list, or the list is full
abbrev Stands : ℕ → List Numbers → Numbers → Type 0
Stands m ids id = (is_kept id ids ≡ true) ⊎ (m ≤ length ids)

-- what holds of the id of a record that is a root's outcome
abbrev OfOutcome : (Numbers → Type 0) → Record → Type 0
OfOutcome P (records.Decided id seats) = P id
OfOutcome P (records.Done id) = P id
OfOutcome P other = Unit {0}

contrary : (b : Bool) → b ≡ true → b ≡ false → ⊥
contrary b e f = cc

other_way : (a b : Numbers) → is_id a b ≡ false → is_id b a ≡ false
other_way a b e = by_case (is_id b a) refl
  where
    by_case : (c : Bool) → is_id b a ≡ c → c ≡ false
    by_case true f = absurd (contrary (is_id a b) (ap (is_id a) (same_id b a f) ∙ self_id a) e)
    by_case false f = refl

neither : (a b : Bool) → a ≡ false → b ≡ false → (a || b) ≡ false
neither true b e f = absurd cc
neither false b e f = f

second : (a b : Bool) → b ≡ true → (a || b) ≡ true
second true b e = refl
second false b e = e

-- dropping
all_drop : {A : Type 0} (P : A → Type 0) (n : ℕ) (xs : List A) → AllByRecursion P xs → AllByRecursion P (drop n xs)
all_drop P zero xs h = h
all_drop P (suc n) [] h = tt
all_drop P (suc n) (x ∷ xs) (h, k) = all_drop P n xs k

fresh_drop : (n : ℕ) (xs : List Numbers) → AreFresh xs → AreFresh (drop n xs)
fresh_drop zero xs h = h
fresh_drop (suc n) [] h = tt
fresh_drop (suc n) (x ∷ xs) (h, k) = fresh_drop n xs k

last_length : (m : ℕ) (xs : List Numbers) → length (last_of m xs) ≤ m
last_length m xs = omega (arith, length-drop (length xs - m) xs)

last_full : (m : ℕ) (xs : List Numbers) → m ≤ length xs → m ≤ length (last_of m xs)
last_full m xs h = omega (arith, h, length-drop (length xs - m) xs)

last_short : (m : ℕ) (xs : List Numbers) → length xs < m → last_of m xs ≡ xs
last_short m xs h =
    let none : length xs - m ≡ 0 = omega (arith, h) in
    ap (λ n. drop n xs) none

last_stands : (m : ℕ) (xs : List Numbers) (id : Numbers) → Stands m xs id → Stands m (last_of m xs) id
last_stands m xs id h = by_case (nat_lt (length xs) m) refl
  where
    by_case : (b : Bool) → nat_lt (length xs) m ≡ b → Stands m (last_of m xs) id
    by_case true e = subst (λ ys. Stands m ys id) (sym (last_short m xs (ltb-true (length xs) m e))) h
    by_case false e = inr (last_full m xs (ltb-false (length xs) m e))

-- leaving out
kept_if : (k x : Numbers) (b : Bool) (xs ys : List Numbers) → is_kept k (x ∷ xs) ≡ false → is_kept k ys ≡ false → is_kept k (if b then x ∷ ys else ys) ≡ false
kept_if k x true xs ys e f = neither (is_id x k) (is_kept k ys) (or_false (is_id x k) (is_kept k xs) e).0 f
kept_if k x false xs ys e f = f

not_without : (k s : Numbers) (xs : List Numbers) → is_kept k xs ≡ false → is_kept k (without s xs) ≡ false
not_without k s [] e = refl
not_without k s (x ∷ xs) e =
    kept_if k x (not (is_id x s)) xs (without s xs) e (not_without k s xs (or_false (is_id x k) (is_kept k xs) e).1)

fresh_without : (s : Numbers) (xs : List Numbers) → AreFresh xs → AreFresh (without s xs)
fresh_without s [] h = tt
fresh_without s (x ∷ xs) (h, k) = by_case (not (is_id x s)) (not_without x s xs h) (fresh_without s xs k)
  where
    by_case : (b : Bool) → is_kept x (without s xs) ≡ false → AreFresh (without s xs) → AreFresh (if b then x ∷ without s xs else without s xs)
    by_case true i j = (i, j)
    by_case false i j = j

gone : (s : Numbers) (xs : List Numbers) → is_kept s (without s xs) ≡ false
gone s [] = refl
gone s (x ∷ xs) = by_case (gone s xs) (is_id x s) refl
  where
    by_case : is_kept s (without s xs) ≡ false → (b : Bool) → is_id x s ≡ b → is_kept s (if not b then x ∷ without s xs else without s xs) ≡ false
    by_case rest true e = rest
    by_case rest false e = neither (is_id x s) (is_kept s (without s xs)) e rest

absent : (s : Numbers) (xs : List Numbers) → is_kept s xs ≡ false → without s xs ≡ xs
absent s [] e = refl
absent s (x ∷ xs) e =
    let (here, behind) = or_false (is_id x s) (is_kept s xs) e in
    ap (λ b. if not b then x ∷ without s xs else without s xs) here ∙ ap (λ ys. x ∷ ys) (absent s xs behind)

without_join : (s : Numbers) (xs ys : List Numbers) → without s (xs ++ ys) ≡ without s xs ++ without s ys
without_join s [] ys = refl
without_join s (x ∷ xs) ys = by_case (without_join s xs ys) (not (is_id x s))
  where
    by_case : without s (xs ++ ys) ≡ without s xs ++ without s ys → (b : Bool)
        → (if b then x ∷ without s (xs ++ ys) else without s (xs ++ ys)) ≡ (if b then x ∷ without s xs else without s xs) ++ without s ys
    by_case rest true = ap (λ zs. x ∷ zs) rest
    by_case rest false = rest

-- at most one id goes
one_goes : (s : Numbers) (xs : List Numbers) → AreFresh xs → length xs ≤ length (without s xs) + 1
one_goes s [] h = omega arith
one_goes s (x ∷ xs) (h, k) = by_case (one_goes s xs k) (is_id x s) refl
  where
    same : is_id x s ≡ true → length (without s xs) ≡ length xs
    same e = ap length (absent s xs (subst (λ i. is_kept i xs ≡ false) (same_id x s e) h))

    by_case : length xs ≤ length (without s xs) + 1 → (b : Bool) → is_id x s ≡ b
        → length (x ∷ xs) ≤ length (if not b then x ∷ without s xs else without s xs) + 1
    by_case rest true e = omega (arith, same e)
    by_case rest false e = omega (arith, rest)

-- one more behind the others
kept_last : (k s : Numbers) (xs : List Numbers) → is_id s k ≡ true → is_kept k (xs ++ s ∷ []) ≡ true
kept_last k s [] e = ap (λ b. b || false) e
kept_last k s (x ∷ xs) e = second (is_id x k) (is_kept k (xs ++ s ∷ [])) (kept_last k s xs e)

kept_behind : (k : Numbers) (xs ys : List Numbers) → is_kept k ys ≡ true → is_kept k (xs ++ ys) ≡ true
kept_behind k [] ys e = e
kept_behind k (x ∷ xs) ys e = second (is_id x k) (is_kept k (xs ++ ys)) (kept_behind k xs ys e)

not_joined : (k s : Numbers) (xs : List Numbers) → is_kept k xs ≡ false → is_id s k ≡ false → is_kept k (xs ++ s ∷ []) ≡ false
not_joined k s [] e f = neither (is_id s k) false f refl
not_joined k s (x ∷ xs) e f =
    let (here, behind) = or_false (is_id x k) (is_kept k xs) e in
    neither (is_id x k) (is_kept k (xs ++ s ∷ [])) here (not_joined k s xs behind f)

fresh_last : (s : Numbers) (xs : List Numbers) → AreFresh xs → is_kept s xs ≡ false → AreFresh (xs ++ s ∷ [])
fresh_last s [] h e = (refl, tt)
fresh_last s (x ∷ xs) (h, k) e =
    let (here, behind) = or_false (is_id x s) (is_kept s xs) e in
    (not_joined x s xs h (other_way x s here), fresh_last s xs k behind)

-- the first part of a list holds nothing of what stands behind it
not_before : (s : Numbers) (xs ys : List Numbers) → AreFresh (xs ++ s ∷ ys) → is_kept s xs ≡ false
not_before s [] ys h = refl
not_before s (x ∷ xs) ys (h, k) = neither (is_id x s) (is_kept s xs) (other_way s x (apart x xs h)) (not_before s xs ys k)
  where
    apart : (x : Numbers) (zs : List Numbers) → is_kept x (zs ++ s ∷ ys) ≡ false → is_id s x ≡ false
    apart x [] e = (or_false (is_id s x) (is_kept x ys) e).0
    apart x (z ∷ zs) e = apart x zs (or_false (is_id z x) (is_kept x (zs ++ s ∷ ys)) e).1

-- what a further outcome leaves as it is
put_fresh : (s : Numbers) (xs : List Numbers) → AreFresh xs → AreFresh (put_last s xs)
put_fresh s xs h = fresh_drop (length (moved s xs) - MOST_OUTCOMES) (moved s xs) (fresh_last s (without s xs) (fresh_without s xs h) (gone s xs))

kept_moved : (k s : Numbers) (xs : List Numbers) → is_kept k xs ≡ true → is_kept k (moved s xs) ≡ true
kept_moved k s [] e = absurd cc
kept_moved k s (x ∷ xs) e = by_case (kept_moved k s xs) (is_id x s) refl (is_id x k) refl e
  where
    by_case : (is_kept k xs ≡ true → is_kept k (moved s xs) ≡ true) → (b : Bool) → is_id x s ≡ b → (c : Bool) → is_id x k ≡ c → (c || is_kept k xs) ≡ true
        → is_kept k ((if not b then x ∷ without s xs else without s xs) ++ s ∷ []) ≡ true
    by_case rest true e true f g = kept_last k s (without s xs) (subst (λ i. is_id i k ≡ true) (same_id x s e) f)
    by_case rest true e false f g = rest g
    by_case rest false e true f g = ap (λ b. b || is_kept k (moved s xs)) f
    by_case rest false e false f g = second (is_id x k) (is_kept k (moved s xs)) (rest g)

moved_stands : (m : ℕ) (id s : Numbers) (xs : List Numbers) → AreFresh xs → Stands m xs id → Stands m (moved s xs) id
moved_stands m id s xs h (inl e) = inl (kept_moved id s xs e)
moved_stands m id s xs h (inr k) = inr (omega (arith, k, one_goes s xs h, length-append (without s xs) (s ∷ [])))

put_stands : (id s : Numbers) (xs : List Numbers) → AreFresh xs → Stands MOST_OUTCOMES xs id → Stands MOST_OUTCOMES (put_last s xs) id
put_stands id s xs h k = last_stands MOST_OUTCOMES (moved s xs) id (moved_stands MOST_OUTCOMES id s xs h k)

put_itself : (s : Numbers) (xs : List Numbers) → Stands MOST_OUTCOMES (put_last s xs) s
put_itself s xs = last_stands MOST_OUTCOMES (moved s xs) s (inl (kept_last s s (without s xs) (self_id s)))

-- a property of a list that every further outcome leaves as it is, and one of all ids
with_keeps : (P : List Numbers → Type 0) → ((s : Numbers) (xs : List Numbers) → P xs → P (put_last s xs)) → (r : Record) (xs : List Numbers) → P xs → P (with_outcome r xs)
with_keeps P f (records.Decided id seats) xs h = f id xs h
with_keeps P f (records.Done id) xs h = f id xs h
with_keeps P f other xs h = h

after_keeps : (P : List Numbers → Type 0) → ((s : Numbers) (xs : List Numbers) → P xs → P (put_last s xs)) → (rs : List Record) (xs : List Numbers) → P xs → P (outcomes_after xs rs)
after_keeps P f [] xs h = h
after_keeps P f (r ∷ rest) xs h = after_keeps P f rest (with_outcome r xs) (with_keeps P f r xs h)

all_put_last : (P : Numbers → Type 0) (s : Numbers) (xs : List Numbers) → P s → AllByRecursion P xs → AllByRecursion P (put_last s xs)
all_put_last P s xs h k =
    all_drop P (length (moved s xs) - MOST_OUTCOMES) (moved s xs)
    (all_join P (without s xs) (s ∷ []) (all_filter P (λ i. not (is_id i s)) xs k) (h, tt))

all_with : (P : Numbers → Type 0) (r : Record) (xs : List Numbers) → OfOutcome P r → AllByRecursion P xs → AllByRecursion P (with_outcome r xs)
all_with P (records.Decided id seats) xs h k = all_put_last P id xs h k
all_with P (records.Done id) xs h k = all_put_last P id xs h k
all_with P other xs h k = k

all_after : (P : Numbers → Type 0) (rs : List Record) (xs : List Numbers) → AllByRecursion (OfOutcome P) rs → AllByRecursion P xs → AllByRecursion P (outcomes_after xs rs)
all_after P [] xs h k = k
all_after P (r ∷ rest) xs (h, i) k = all_after P rest (with_outcome r xs) i (all_with P r xs h k)

of_below : (n : ℕ) (r : Record) → incarnation_of r < n → OfOutcome (λ id. id.incarnation < n) r
of_below n (records.Decided id seats) h = h
of_below n (records.Done id) h = h
of_below n other h = tt

-- each is the id of a record
pub outcomes_below : (rs : List Record) → AllByRecursion (λ r. incarnation_of r < last_incarnation rs + 1) (map records.Done (outcomes_after [] rs))
outcomes_below rs =
    let n : ℕ = last_incarnation rs + 1 in
    all_map (λ r. incarnation_of r < n) records.Done (outcomes_after [] rs)
    (all_after (λ id. id.incarnation < n) rs []
    (all_more (λ r. incarnation_of r < n) (OfOutcome (λ id. id.incarnation < n)) rs (of_below n) (incarnations_rise rs).1) tt)

-- the outcomes of any records
fresh_after : (rs : List Record) (xs : List Numbers) → AreFresh xs → AreFresh (outcomes_after xs rs)
fresh_after rs xs h = after_keeps AreFresh put_fresh rs xs h

length_after : (rs : List Record) (xs : List Numbers) → length xs ≤ MOST_OUTCOMES → length (outcomes_after xs rs) ≤ MOST_OUTCOMES
length_after rs xs h = after_keeps (λ ys. length ys ≤ MOST_OUTCOMES) (λ s ys k. last_length MOST_OUTCOMES (moved s ys)) rs xs h

-- each outcome is kept, or as many as may be
abbrev FreshWith : Numbers → List Numbers → Type 0
FreshWith id xs = AreFresh xs × Stands MOST_OUTCOMES xs id

stands_on : (id : Numbers) (rs : List Record) (xs : List Numbers) → FreshWith id xs → Stands MOST_OUTCOMES (outcomes_after xs rs) id
stands_on id rs xs h = (after_keeps (FreshWith id) (λ s ys (i, j). (put_fresh s ys i, put_stands id s ys i j)) rs xs h).1

all_stand : (rs : List Record) (xs : List Numbers) → AreFresh xs → AllByRecursion (OfOutcome (Stands MOST_OUTCOMES (outcomes_after xs rs))) rs
all_stand [] xs h = tt
all_stand (r ∷ rest) xs h = (first r, all_stand rest (with_outcome r xs) (with_keeps AreFresh put_fresh r xs h))
  where
    first : (r : Record) → OfOutcome (Stands MOST_OUTCOMES (outcomes_after (with_outcome r xs) rest)) r
    first (records.Decided id seats) = stands_on id rest (put_last id xs) (put_fresh id xs h, put_itself id xs)
    first (records.Done id) = stands_on id rest (put_last id xs) (put_fresh id xs h, put_itself id xs)
    first other = tt

after_join : (xs : List Numbers) (rs ss : List Record) → outcomes_after xs (rs ++ ss) ≡ outcomes_after (outcomes_after xs rs) ss
after_join xs [] ss = refl
after_join xs (r ∷ rs) ss = after_join (with_outcome r xs) rs ss

-- one that is put behind others pushes those before them out
short : (m : ℕ) (xs : List Numbers) (s : Numbers) (ys : List Numbers) → length (xs ++ s ∷ ys) ≤ m → length (xs ++ s ∷ []) ≤ m
short m xs s ys h = omega (arith, h, length-append xs (s ∷ ys), length-append xs (s ∷ []))

last_join : (m : ℕ) (xs ys : List Numbers) → length ys ≤ m → last_of m (xs ++ ys) ≡ drop (length (xs ++ ys) - m) xs ++ ys
last_join m xs ys h =
    let enough : length (xs ++ ys) - m ≤ length xs = omega (arith, h, length-append xs ys) in
    drop-append-le (length (xs ++ ys) - m) xs ys enough

moved_join : (s : Numbers) (xs ys : List Numbers) → is_kept s ys ≡ false → moved s (xs ++ ys) ≡ without s xs ++ (ys ++ s ∷ [])
moved_join s xs ys e =
    ap (λ zs. zs ++ s ∷ []) (without_join s xs ys ∙ ap (λ zs. without s xs ++ zs) (absent s ys e)) ∙ append_assoc (without s xs) ys (s ∷ [])

record Replayed (P : Numbers → Type 0) (ids whole : List Numbers) : Type 0 where
  rest : List Numbers
  all : AllByRecursion P rest
  is : ids ≡ rest ++ whole

put_again : (P : Numbers → Type 0) (s : Numbers) (xs ys : List Numbers) → AllByRecursion P xs → is_kept s ys ≡ false → length (ys ++ s ∷ []) ≤ MOST_OUTCOMES
    → Replayed P (put_last s (xs ++ ys)) (ys ++ s ∷ [])
put_again P s xs ys h e k = record {
  rest = drop (length (without s xs ++ (ys ++ s ∷ [])) - MOST_OUTCOMES) (without s xs);
  all = all_drop P (length (without s xs ++ (ys ++ s ∷ [])) - MOST_OUTCOMES) (without s xs) (all_filter P (λ i. not (is_id i s)) xs h);
  is = ap (last_of MOST_OUTCOMES) (moved_join s xs ys e) ∙ last_join MOST_OUTCOMES (without s xs) (ys ++ s ∷ []) k;
}

replayed : (P : Numbers → Type 0) (left ids xs ys : List Numbers) → ids ≡ xs ++ ys → AllByRecursion P xs → AreFresh (ys ++ left) → length (ys ++ left) ≤ MOST_OUTCOMES
    → Replayed P (outcomes_after ids (map records.Done left)) (ys ++ left)
replayed P [] ids xs ys e h fresh few = record { rest = xs; all = h; is = e ∙ ap (λ zs. xs ++ zs) (sym (append-nil ys)) }
replayed P (s ∷ left) ids xs ys e h fresh few =
    let next : Replayed P (put_last s (xs ++ ys)) (ys ++ s ∷ []) = put_again P s xs ys h (not_before s ys left fresh) (short MOST_OUTCOMES ys s left few) in
    let same : (ys ++ s ∷ []) ++ left ≡ ys ++ s ∷ left = append_assoc ys (s ∷ []) left in
    subst (Replayed P (outcomes_after (put_last s ids) (map records.Done left))) same
    (replayed P left (put_last s ids) next.rest (ys ++ s ∷ []) (ap (put_last s) e ∙ next.is) next.all (subst AreFresh (sym same) fresh)
    (subst (λ zs. length zs ≤ MOST_OUTCOMES) (sym same) few))

none_left : (m : ℕ) (xs ys : List Numbers) → AllByRecursion (Stands m ys) xs → AreFresh (xs ++ ys) → length (xs ++ ys) ≤ m → xs ++ ys ≡ ys
none_left m [] ys h fresh few = refl
none_left m (x ∷ xs) ys (inl e, k) (here, fresh) few = absurd (contrary (is_kept x (xs ++ ys)) (kept_behind x xs ys e) here)
none_left m (x ∷ xs) ys (inr f, k) (here, fresh) few = absurd (full (length xs) (length ys) (length (xs ++ ys)) f (length-append xs ys) few)
  where
    full : (a b c : ℕ) → m ≤ b → c ≡ a + b → suc c ≤ m → ⊥
    full a b c h e k = omega (arith, h, e, k)

again : (k o : List Numbers) → AreFresh k → length k ≤ MOST_OUTCOMES → AreFresh o → length o ≤ MOST_OUTCOMES → AllByRecursion (Stands MOST_OUTCOMES o) k
    → outcomes_after k (map records.Done o) ≡ o
again k o fresh few own most all =
    let done : Replayed (Stands MOST_OUTCOMES o) (outcomes_after k (map records.Done o)) o = replayed (Stands MOST_OUTCOMES o) o k k [] (sym (append-nil k)) all own most in
    done.is ∙ none_left MOST_OUTCOMES done.rest o done.all (subst AreFresh done.is (fresh_after (map records.Done o) k fresh))
    (subst (λ zs. length zs ≤ MOST_OUTCOMES) done.is (length_after (map records.Done o) k few))

-- the live records and the outcomes give the same outcomes
pub outcomes_again : (rs : List Record) → outcomes_after [] (records.Start (last_incarnation rs) ∷ (in_order record_id (live rs) ++ map records.Done (outcomes_after [] rs))) ≡ outcomes_after [] rs
outcomes_again rs =
    let o : List Numbers = outcomes_after [] rs in
    let kept : List Record = in_order record_id (live rs) in
    let none : length {A = Numbers} [] ≤ MOST_OUTCOMES = omega arith in
    after_join [] kept (map records.Done o)
    ∙ again (outcomes_after [] kept) o (fresh_after kept [] tt) (length_after kept [] none) (fresh_after rs [] tt) (length_after rs [] none)
    (all_after (Stands MOST_OUTCOMES o) kept []
    (all_in_order (OfOutcome (Stands MOST_OUTCOMES o)) record_id (live rs)
    (all_live (OfOutcome (Stands MOST_OUTCOMES o)) rs (λ id superior seats h. tt) (all_stand rs [] tt))) tt)
