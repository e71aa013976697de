-- What a further record and further effects leave as it is: all that is of another id.
use Rattle.std.specs.Prelude.{List, [], ◌∷◌, ◌++◌, Option, Some, None, Bool, true, false, if◌then◌else◌, ◌||◌, length, map, filter, ◌≡◌, ◌⊎◌, ◌≤◌, refl}
use Rattle.std.specs.List.{list_any, AllByRecursion}
use Rattle.std.proofs.Common.{inl, inr, sym, subst, ap, ◌∙◌}
use Rattle.std.proofs.lemmas.List.{append-nil}
use Rattle.at_base.specs.Numbers.{Numbers}
use Rattle.at_base.specs.declared.record.Record.{Record}
use Rattle.at_base.specs.declared.record.Record.TheVariants as records
use Rattle.at_base.specs.declared.outs.Ending.{Ending}
use Rattle.at_base.specs.declared.outs.Effect.{Effect}
use Rattle.at_model.specs.Book.{Leaf, Superior, Transaction, find_by, is_id, put_by}
use Rattle.at_model.specs.Recovery.{ends_leaf, ends_transaction, is_before, is_promise, kept, live}
use Rattle.at_model.specs.Seats.{ending_of}
use Rattle.model_laws.specs.Agreement.{IsIn, ends_as}
use Rattle.model_laws.specs.Order.{AreRising}
use Rattle.model_laws.proofs.DecisionLaws.{IfThere}
use Rattle.model_laws.proofs.Order.{other_id}
use Rattle.model_laws.proofs.RecoveryLaws.{none_live, same_id, self_id}
use Rattle.agreement.specs.Branches.{recorded}
use Rattle.agreement.specs.Journals.{Confirms, drops}
use Rattle.agreement.specs.Lives.{Life, PromisesNothing, ends, has_aborted, has_committed, has_decided, has_voted, is_gone, is_undecided, waits, works}
use Rattle.agreement.proofs.Journals.{both_ways, in_either, journals_live, or_nothing}

-- what a record is about
abbrev pub nobody : Numbers
nobody = record { incarnation = 0; counter = 0 }

abbrev pub id_of : Record → Numbers
id_of (records.Start incarnation) = nobody
id_of (records.LeafPrepared id coordinator key value) = id
id_of (records.LeafCommitted id) = id
id_of (records.LeafAborted id) = id
id_of (records.Voted id superior seats) = id
id_of (records.Decided id seats) = id
id_of (records.SubCommitted id) = id
id_of (records.Ended id) = id
id_of (records.Done id) = id

first_id : (i id : Numbers) → (is_id i id || false) ≡ true → i ≡ id
first_id i id e = same_id i id (sym (or_nothing (is_id i id)) ∙ e)

pub promise_id : (id : Numbers) (r : Record) → is_promise id r ≡ true → id_of r ≡ id
promise_id id (records.LeafPrepared i coordinator key value) e = first_id i id e
promise_id id (records.Voted i superior seats) e = first_id i id e
promise_id id (records.Decided i seats) e = same_id i id e
promise_id id other e = absurd cc

leaf_end_id : (id : Numbers) (r : Record) → ends_leaf id r ≡ true → id_of r ≡ id
leaf_end_id id (records.LeafPrepared i coordinator key value) e = first_id i id e
leaf_end_id id (records.Voted i superior seats) e = first_id i id e
leaf_end_id id (records.Decided i seats) e = same_id i id e
leaf_end_id id (records.LeafCommitted i) e = first_id i id e
leaf_end_id id (records.LeafAborted i) e = first_id i id e
leaf_end_id id other e = absurd cc

transaction_end_id : (id : Numbers) (r : Record) → ends_transaction id r ≡ true → id_of r ≡ id
transaction_end_id id (records.LeafPrepared i coordinator key value) e = first_id i id e
transaction_end_id id (records.Voted i superior seats) e = first_id i id e
transaction_end_id id (records.Decided i seats) e = same_id i id e
transaction_end_id id (records.Ended i) e = first_id i id e
transaction_end_id id other e = absurd cc

drops_own : (r x : Record) → drops r x ≡ true → id_of r ≡ id_of x
drops_own r (records.LeafPrepared id coordinator key value) e = leaf_end_id id r e
drops_own r (records.Voted id superior seats) e = transaction_end_id id r e
drops_own r (records.Decided id seats) e = transaction_end_id id r e
drops_own r (records.SubCommitted id) e = transaction_end_id id r e
drops_own r other e = absurd cc

kept_own : (r x : Record) → IsIn x (kept r []) → id_of x ≡ id_of r
kept_own (records.LeafPrepared id coordinator key value) x (inl e) = ap id_of e
kept_own (records.LeafPrepared id coordinator key value) x (inr h) = absurd h
kept_own (records.Voted id superior seats) x (inl e) = ap id_of e
kept_own (records.Voted id superior seats) x (inr h) = absurd h
kept_own (records.Decided id []) x h = absurd h
kept_own (records.Decided id (s ∷ ss)) x (inl e) = ap id_of e
kept_own (records.Decided id (s ∷ ss)) x (inr h) = absurd h
kept_own other x h = absurd h

-- lists
pub filter_join : {A : Type 0} (p : A → Bool) (xs ys : List A) → filter p (xs ++ ys) ≡ filter p xs ++ filter p ys
filter_join p [] ys = refl
filter_join {A = A} p (x ∷ xs) ys = by_case (p x) (filter_join p xs ys)
  where
    by_case : (b : Bool) → filter p (xs ++ ys) ≡ filter p xs ++ filter p ys
        → (if b then x ∷ filter p (xs ++ ys) else filter p (xs ++ ys)) ≡ (if b then x ∷ filter p xs else filter p xs) ++ filter p ys
    by_case true h = ap (λ zs. x ∷ zs) h
    by_case false h = h

pub ends_join : (id : Numbers) (fx gx : List Effect) → ends id (fx ++ gx) ≡ ends id fx ++ ends id gx
ends_join id fx gx = filter_join (ends_as id) fx gx

pub ends_one : (id : Numbers) (e : Effect) (b : Bool) → ends_as id e ≡ b → ends id (e ∷ []) ≡ (if b then e ∷ [] else [])
ends_one id e b h = ap (λ c. if c then e ∷ [] else []) h

pub ends_first : (id : Numbers) (fx : List Effect) (e : Effect) → ends_as id e ≡ true → ends id fx ≡ [] → ends id (fx ++ e ∷ []) ≡ e ∷ []
ends_first id fx e own none = ends_join id fx (e ∷ []) ∙ (λ i. none i ++ ends_one id e true own i)

pub ending_as : (id i : Numbers) (s : Option Superior) (what : Ending) → ends_as i (ending_of s id what) ≡ is_id id i
ending_as id i None what = refl
ending_as id i (Some s) what = refl

pub none_any : (p : Record → Bool) (rs : List Record) → ((r : Record) → IsIn r rs → p r ≡ true → ⊥) → list_any p rs ≡ false
none_any p [] h = refl
none_any p (r ∷ rs) h = by_case (p r) refl (none_any p rs (λ x k. h x (inr k)))
  where
    by_case : (b : Bool) → p r ≡ b → list_any p rs ≡ false → (b || list_any p rs) ≡ false
    by_case true e k = absurd (h r (inl refl) e)
    by_case false e k = k

pub any_in : (p : Record → Bool) (r : Record) (rs : List Record) → IsIn r rs → p r ≡ true → list_any p rs ≡ true
any_in p r [] h e = absurd h
any_in p r (x ∷ xs) (inl f) e = ap (λ b. b || list_any p xs) (ap p (sym f) ∙ e)
any_in p r (x ∷ xs) (inr h) e = by_case (p x) (any_in p r xs h e)
  where
    by_case : (b : Bool) → list_any p xs ≡ true → (b || list_any p xs) ≡ true
    by_case true k = refl
    by_case false k = k

pub promised_nothing : (id : Numbers) (rs : List Record) → PromisesNothing id rs → list_any (is_promise id) rs ≡ false
promised_nothing id rs h = none_any (is_promise id) rs h

pub nothing_promised : (id : Numbers) (rs : List Record) → list_any (is_promise id) rs ≡ false → PromisesNothing id rs
nothing_promised id rs e r h p = both_ways (list_any (is_promise id) rs) (any_in (is_promise id) r rs h p) e

pub nothing_live : (id : Numbers) (rs : List Record) → PromisesNothing id rs → PromisesNothing id (live rs)
nothing_live id rs h = nothing_promised id (live rs) (none_live (is_promise id) rs (promised_nothing id rs h))

-- all that is of this id is as it was
pub record Same (id : Numbers) (rs after : List Record) (fx new : List Effect) : Type 0 where
  pub ended : ends id new ≡ ends id fx
  pub stays : (x : Record) → id_of x ≡ id → IsIn x (live rs) → IsIn x (live after)
  pub was : (x : Record) → id_of x ≡ id → IsIn x (live after) → IsIn x (live rs)
  pub written : (x : Record) → is_promise id x ≡ true → IsIn x after → IsIn x rs

pub same_all : (id : Numbers) (rs : List Record) (fx : List Effect) → Same id rs rs fx fx
same_all id rs fx = record { ended = refl; stays = λ x e h. h; was = λ x e h. h; written = λ x e h. h }

pub still : (id : Numbers) (rs after : List Record) (fx new : List Effect) (t : Option Transaction) (l : Option Leaf) → Same id rs after fx new → Life rs fx id t l → Life after new id t l
still id rs after fx new t l s (is_gone e f none over one) =
    is_gone e f (λ r h p. none r (s.was r (promise_id id r p) h) p) (λ r h p k. over r (s.written r p h) p (sym s.ended ∙ k)) (subst (λ es. length es ≤ 1) (sym s.ended) one)
still id rs after fx new t l s (is_undecided x e f o none k) = is_undecided x e f o (λ r h p. none r (s.written r p h) p) (s.ended ∙ k)
still id rs after fx new t l s (has_voted x superior seats e f o u h none k) =
    has_voted x superior seats e f o u (s.stays (records.Voted id superior seats) refl h) (λ i. none (s.was (records.SubCommitted id) refl i)) (s.ended ∙ k)
still id rs after fx new t l s (has_decided x seats e f o u h k) = has_decided x seats e f o u (s.stays (records.Decided id seats) refl h) (s.ended ∙ k)
still id rs after fx new t l s (has_committed x superior seats e f o u h i k) =
    has_committed x superior seats e f o u (s.stays (records.Voted id superior seats) refl h) (s.stays (records.SubCommitted id) refl i) (s.ended ∙ k)
still id rs after fx new t l s (has_aborted x e f o none k) = has_aborted x e f o (λ r h p. none r (s.was r (promise_id id r p) h) p) (s.ended ∙ k)
still id rs after fx new t l s (works x e f o none k) = works x e f o (λ r h p. none r (s.written r p h) p) (s.ended ∙ k)
still id rs after fx new t l s (waits x coordinator key value e f d o h k) =
    waits x coordinator key value e f d o (s.stays (records.LeafPrepared id coordinator key value) refl h) (s.ended ∙ k)

more_same : (id : Numbers) (rs : List Record) (r : Record) (fx new : List Effect) → (id_of r ≡ id → ⊥) → ends id new ≡ ends id fx → Same id rs (rs ++ r ∷ []) fx new
more_same id rs r fx new other e = record {
  ended = e;
  stays = λ x own h. journals_live.stays rs r x h (not_dropped x own (drops r x) refl);
  was = λ x own h. was_so x own (journals_live.was rs r x h);
  written = λ x own h. was_written x (promise_id id x own) (in_either x rs (r ∷ []) h);
}
  where
    not_dropped : (x : Record) → id_of x ≡ id → (b : Bool) → drops r x ≡ b → b ≡ false
    not_dropped x own true d = absurd (other (drops_own r x d ∙ own))
    not_dropped x own false d = refl

    was_so : (x : Record) → id_of x ≡ id → (IsIn x (live rs) × (drops r x ≡ false)) ⊎ (IsIn x (kept r []) ⊎ Confirms rs r x) → IsIn x (live rs)
    was_so x own (inl (h, k)) = h
    was_so x own (inr (inl h)) = absurd (other (sym (kept_own r x h) ∙ own))
    was_so x own (inr (inr c)) = absurd (other (ap id_of (c.further ∙ sym c.same) ∙ own))

    was_written : (x : Record) → id_of x ≡ id → IsIn x rs ⊎ IsIn x (r ∷ []) → IsIn x rs
    was_written x own (inl h) = h
    was_written x own (inr (inl e)) = absurd (other (ap id_of (sym e) ∙ own))
    was_written x own (inr (inr h)) = absurd h

abbrev pub AboutOther : Numbers → Option Record → Type 0
AboutOther id None = Unit {0}
AboutOther id (Some r) = id_of r ≡ id → ⊥

pub other_same : (id : Numbers) (rs : List Record) (entry : Option Record) (fx gx : List Effect) → AboutOther id entry → ends id gx ≡ [] → Same id rs (rs ++ recorded entry) fx (fx ++ gx)
other_same id rs None fx gx other e =
    subst (λ ys. Same id rs ys fx (fx ++ gx)) (sym (append-nil rs))
    (record { ended = ends_join id fx gx ∙ ap (λ ys. ends id fx ++ ys) e ∙ append-nil (ends id fx); stays = λ x f h. h; was = λ x f h. h; written = λ x f h. h })
other_same id rs (Some r) fx gx other e = more_same id rs r fx (fx ++ gx) other (ends_join id fx gx ∙ ap (λ ys. ends id fx ++ ys) e ∙ append-nil (ends id fx))

-- what a book finds once an item is put
pub find_other : {A : Type 0} (key : A → Numbers) (id i : Numbers) (new : Option A) (xs : List A) → IfThere (λ x. key x ≡ id) new → is_id id i ≡ false
    → find_by key i (put_by key id new xs) ≡ find_by key i xs
find_other key id i new [] h f = refl
find_other {A = A} key id i None (x ∷ xs) h f = by_case (is_id (key x) id) refl (find_other key id i None xs h f)
  where
    by_case : (b : Bool) → is_id (key x) id ≡ b → find_by key i (put_by key id None xs) ≡ find_by key i xs
        → find_by key i (if b then xs else x ∷ put_by key id None xs) ≡ (if is_id (key x) i then Some x else find_by key i xs)
    by_case true e k = sym (ap (λ c. if c then Some x else find_by key i xs) (ap (λ j. is_id j i) (same_id (key x) id e) ∙ f))
    by_case false e k = ap (λ o. if is_id (key x) i then Some x else o) k
find_other {A = A} key id i (Some y) (x ∷ xs) h f = by_case (is_id (key x) id) refl (find_other key id i (Some y) xs h f)
  where
    by_case : (b : Bool) → is_id (key x) id ≡ b → find_by key i (put_by key id (Some y) xs) ≡ find_by key i xs
        → find_by key i (if b then y ∷ xs else x ∷ put_by key id (Some y) xs) ≡ (if is_id (key x) i then Some x else find_by key i xs)
    by_case true e k =
        ap (λ c. if c then Some y else find_by key i xs) (ap (λ j. is_id j i) h ∙ f)
        ∙ sym (ap (λ c. if c then Some x else find_by key i xs) (ap (λ j. is_id j i) (same_id (key x) id e) ∙ f))
    by_case false e k = ap (λ o. if is_id (key x) i then Some x else o) k

pub none_behind : {A : Type 0} (key : A → Numbers) (i : Numbers) (xs : List A) → AllByRecursion (λ j. is_before i j ≡ true) (map key xs) → find_by key i xs ≡ None
none_behind key i [] h = refl
none_behind {A = A} key i (x ∷ xs) (h, k) = by_case (is_id (key x) i) refl (none_behind key i xs k)
  where
    by_case : (b : Bool) → is_id (key x) i ≡ b → find_by key i xs ≡ None → (if b then Some x else find_by key i xs) ≡ None
    by_case true e n = absurd (both_ways (is_id i (key x)) (ap (λ j. is_id i j) (same_id (key x) i e) ∙ self_id i) (other_id i (key x) h))
    by_case false e n = n

pub find_this : {A : Type 0} (key : A → Numbers) (id : Numbers) (x : A) (new : Option A) (xs : List A) → AreRising (map key xs) → find_by key id xs ≡ Some x → IfThere (λ y. key y ≡ id) new
    → find_by key id (put_by key id new xs) ≡ new
find_this key id x new [] r e h = absurd cc
find_this {A = A} key id x None (y ∷ ys) (b, r) e h = by_case (is_id (key y) id) refl e (λ f. find_this key id x None ys r f h)
  where
    by_case : (c : Bool) → is_id (key y) id ≡ c → (if c then Some y else find_by key id ys) ≡ Some x → (find_by key id ys ≡ Some x → find_by key id (put_by key id None ys) ≡ None)
        → find_by key id (if c then ys else y ∷ put_by key id None ys) ≡ None
    by_case true i f g = none_behind key id ys (subst (λ j. AllByRecursion (λ k. is_before j k ≡ true) (map key ys)) (same_id (key y) id i) b)
    by_case false i f g = ap (λ c. if c then Some y else find_by key id (put_by key id None ys)) i ∙ g f
find_this {A = A} key id x (Some z) (y ∷ ys) (b, r) e h = by_case (is_id (key y) id) refl e (λ f. find_this key id x (Some z) ys r f h)
  where
    by_case : (c : Bool) → is_id (key y) id ≡ c → (if c then Some y else find_by key id ys) ≡ Some x → (find_by key id ys ≡ Some x → find_by key id (put_by key id (Some z) ys) ≡ Some z)
        → find_by key id (if c then z ∷ ys else y ∷ put_by key id (Some z) ys) ≡ Some z
    by_case true i f g = ap (λ c. if c then Some z else find_by key id ys) (ap (λ j. is_id j id) h ∙ self_id id)
    by_case false i f g = ap (λ c. if c then Some y else find_by key id (put_by key id (Some z) ys)) i ∙ g f

pub joined_other : {A : Type 0} (key : A → Numbers) (i : Numbers) (y : A) (xs : List A) → is_id (key y) i ≡ false → find_by key i (xs ++ y ∷ []) ≡ find_by key i xs
joined_other key i y [] e = ap (λ c. if c then Some y else None) e
joined_other key i y (x ∷ xs) e = ap (λ o. if is_id (key x) i then Some x else o) (joined_other key i y xs e)

pub joined_this : {A : Type 0} (key : A → Numbers) (i : Numbers) (y : A) (xs : List A) → key y ≡ i → find_by key i xs ≡ None → find_by key i (xs ++ y ∷ []) ≡ Some y
joined_this key i y [] e n = ap (λ c. if c then Some y else None) (ap (λ j. is_id j i) e ∙ self_id i)
joined_this {A = A} key i y (x ∷ xs) e n = by_case (is_id (key x) i) n (λ f. joined_this key i y xs e f)
  where
    by_case : (b : Bool) → (if b then Some x else find_by key i xs) ≡ None → (find_by key i xs ≡ None → find_by key i (xs ++ y ∷ []) ≡ Some y) → (if b then Some x else find_by key i (xs ++ y ∷ [])) ≡ Some y
    by_case true f g = absurd cc
    by_case false f g = g f
