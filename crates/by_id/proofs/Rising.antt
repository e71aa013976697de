-- Ids that rise rise on where items are added behind, given anew or dropped.
use Rattle.std.proofs.Common.{ℕ, List, [], ◌∷◌, ◌++◌, Some, Bool, true, false, ◌≡◌, ◌<◌, ◌-◌, ◌+◌, refl, subst, suc, zero, length, drop, arith, get_or, slice_set, nat_lt, ltb-true, ltb-false}
use Rattle.std.specs.Prelude.{if◌then◌else◌}
use Rattle.std.specs.List.{All, AllAdjacentBelow, AllWithin, items_where_true}
use Rattle.std.proofs.lemmas.Grind.{common_steps}
use Rattle.std.proofs.lemmas.List.Elements.{All-nil, All-cons, All-tail, All-head}
use Rattle.std.proofs.lemmas.List.Kept.{AllPairs-cons}
use Rattle.std.proofs.lemmas.List.Quantifiers.{all_pairs_push}
use Rattle.at_base.specs.Numbers.{Numbers}
use Rattle.at_model.specs.Book.{is_id}
use Rattle.at_model.specs.Recovery.{is_before}
use Rattle.by_id.specs.Lists.{IsRising, next_due}
use Rattle.by_id.specs.Places.{holds, id_at, left, place_by}
use Rattle.by_id.specs.declared.place.Place.{Place}
use Rattle.by_id.specs.declared.place.Place.TheVariants as places

before_trans : (a b c : Numbers) → is_before a b ≡ true → is_before b c ≡ true → is_before a c ≡ true
before_trans a b c e f = grind (arith)

not_behind : (a b : Numbers) → is_before a b ≡ true → is_before b a ≡ false
not_behind a b e = grind (arith)

pub same_by : (a b id : Numbers) → is_id a id ≡ true → is_id b id ≡ true → a ≡ b
same_by a b id e f = grind (arith)

all_kept : {A : Type 0} (P : A → Type 0) (bs : List Bool) (xs : List A) → All P xs → All P (items_where_true bs xs)
all_kept P [] xs all = All-nil P
all_kept P (b ∷ bs) [] all = All-nil P
all_kept P (true ∷ bs) (x ∷ xs) all = All-cons P x _ (All-head P x xs all) (all_kept P bs xs (All-tail P x xs all))
all_kept P (false ∷ bs) (x ∷ xs) all = all_kept P bs xs (All-tail P x xs all)

module _ {A : Type 0} (key : A → Numbers) where
  abbrev Before : A → A → Type 0
  Before x y = is_before (key x) (key y) ≡ true

  -- each comes before its neighbour, so before all later ones
  pub rising_when : (xs : List A) → AllAdjacentBelow Before xs (length xs) → IsRising key xs
  rising_when xs near i zero d lt l = absurd (omega arith)
  rising_when xs near i (suc j) d lt l = subst (λ n. Before (get_or xs i d) (get_or xs n d)) (omega arith) (by (nat_lt i j) refl (λ h. rising_when xs near i j d h (omega arith)))
    where
      by : (b : Bool) → nat_lt i j ≡ b → (i < j → Before (get_or xs i d) (get_or xs j d)) → Before (get_or xs i d) (get_or xs (j + 1) d)
      by true e rest = before_trans (key (get_or xs i d)) (key (get_or xs j d)) _ (rest (ltb-true i j e)) (near j d (omega arith))
      by false e rest =
          let same : j ≡ i = omega (arith, ltb-false i j e) in
          subst (λ k. Before (get_or xs k d) (get_or xs (j + 1) d)) same (near j d (omega arith))

  pub rising_pushed : (xs : List A) (y : A) → ((d : A) → Before (get_or xs (length xs - 1) d) y) → IsRising key xs → IsRising key (xs ++ y ∷ [])
  rising_pushed xs y last up = all_pairs_push Before xs y up below
    where
      below : (k : ℕ) (d : A) → k < length xs → Before (get_or xs k d) y
      below k d l = grind (arith, last d, up k (length xs - 1) d, before_trans (key (get_or xs k d)) (key (get_or xs (length xs - 1) d)) (key y))

  -- what is kept of a list
  pub rising_kept : (bs : List Bool) (xs : List A) → IsRising key xs → IsRising key (items_where_true bs xs)
  rising_kept [] xs up = λ i j d lt l. absurd (omega arith)
  rising_kept (b ∷ bs) [] up = λ i j d lt l. absurd (omega arith)
  rising_kept (true ∷ bs) (x ∷ xs) up =
      AllPairs-cons Before x _ (all_kept (Before x) bs xs (λ k d l. up 0 (suc k) d (omega arith) (omega arith))) (rising_kept bs xs (λ i j d lt l. up (suc i) (suc j) d (omega arith) (omega arith)))
  rising_kept (false ∷ bs) (x ∷ xs) up = rising_kept bs xs (λ i j d lt l. up (suc i) (suc j) d (omega arith) (omega arith))

-- places, whose ids are those of the items that stand or stood there
module _ {A : Type 0} (key : A → Numbers) where
  -- what was drawn before an id isn't behind it
  pub next_from : (due : A → Bool) (last : Numbers) (ps : List (Place A)) (i : ℕ) → AllWithin (λ p. is_before (id_at key p) last ≡ true) ps 0 i
      → next_due key due (Some last) (left (drop i ps)) ≡ next_due key due (Some last) (left ps)
  next_from due last ps zero before = refl
  next_from due last [] (suc i) before = refl
  next_from due last (places.Live x ∷ ps) (suc i) before =
      rw (not_behind (key x) last (before 0 (places.Live x) (omega arith) (omega arith))) (next_from due last ps i (λ k d z l. before (suc k) d (omega arith) (omega arith)))
  next_from due last (places.Gone gone ∷ ps) (suc i) before = next_from due last ps i (λ k d z l. before (suc k) d (omega arith) (omega arith))

  ids_kept : (id : Numbers) (q : Place A) (ps : List (Place A)) → is_id (id_at key q) id ≡ true → (k : ℕ) (d : Place A)
      → id_at key (get_or (slice_set ps (place_by key id ps) q) k d) ≡ id_at key (get_or ps k d)
  ids_kept id q [] same k d = refl
  ids_kept id q (p ∷ ps) same k d = by p (holds key id p) refl k (λ n. ids_kept id q ps same n d)
    where
      by : (p : Place A) (b : Bool) → holds key id p ≡ b → (n : ℕ) → ((m : ℕ) → id_at key (get_or (slice_set ps (place_by key id ps) q) m d) ≡ id_at key (get_or ps m d))
          → id_at key (get_or (slice_set (p ∷ ps) (if b then 0 else suc (place_by key id ps)) q) n d) ≡ id_at key (get_or (p ∷ ps) n d)
      by (places.Live x) true e zero rest = same_by (id_at key q) (key x) id same e
      by (places.Gone gone) true e zero rest = absurd cc
      by p true e (suc n) rest = refl
      by p false e zero rest = refl
      by p false e (suc n) rest = rest n

  -- an item given anew, moved or dropped under its own id
  pub rising_written : (id : Numbers) (q : Place A) (ps : List (Place A)) → is_id (id_at key q) id ≡ true → IsRising (id_at key) ps → IsRising (id_at key) (slice_set ps (place_by key id ps) q)
  rising_written id q ps same up i j d lt l = rw (ids_kept id q ps same i d, ids_kept id q ps same j d) (up i j d lt (grind (arith, common_steps)))
