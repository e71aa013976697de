-- Where ids rise and are filed, what is filed finds what a walk finds; and they stay filed where items are added behind, given anew or dropped.
use Rattle.std.proofs.Common.{ℕ, List, [], ◌∷◌, Bool, Some, None, true, false, cond, not, ◌≡◌, ◌≤◌, ◌<◌, ◌+◌, ◌∙◌, refl, sym, ap, subst, suc, zero, length, map, arith, get_or, slice_set, nat_lt}
use Rattle.std.specs.Prelude.{if◌then◌else◌}
use Rattle.std.specs.List.{AllWithin, HoldsAt, items_where_true, position, position_or_len}
use Rattle.std.proofs.lemmas.Grind.{common_steps}
use Rattle.std.proofs.lemmas.List.Quantifiers.{position-Some}
use Rattle.std.proofs.lemmas.List.Sums.{fails_before_first}
use Rattle.at_base.specs.Numbers.{Numbers}
use Rattle.at_model.specs.Book.{is_id}
use Rattle.at_model.specs.Recovery.{is_before}
use Rattle.by_id.specs.Lists.{IsRising}
use Rattle.by_id.specs.Places.{IsFiled, IsPart, WasFiled, holds, id_at, place_by}
use Rattle.by_id.specs.declared.place.Place.{Place}
use Rattle.by_id.specs.declared.place.Place.TheVariants as places
use Rattle.by_id.proofs.Rising.{rising_kept, rising_written, same_by}

pub is_id_either : (a b : Numbers) → is_id a b ≡ is_id b a
is_id_either a b = grind (arith)

past : (a b id : Numbers) → is_id a id ≡ true → is_before a b ≡ true → is_id b id ≡ false
past a b id e f = grind (arith)

until : (a b id : Numbers) → is_id b id ≡ true → is_before a b ≡ true → is_before a id ≡ true
until a b id e f = grind (arith)

-- what is found at a place, and what is found at none
pub position_inside : {X : Type 0} (p : X → Bool) (xs : List X) (i : ℕ) → position p xs ≡ Some i → i < length xs
position_inside p [] i e = absurd cc
position_inside p (x ∷ xs) i e = (position-Some p (x ∷ xs) i x e).0

position_none : {X : Type 0} (p : X → Bool) (xs : List X) → position p xs ≡ None → AllWithin (λ x. p x ≡ false) xs 0 (length xs)
position_none p xs e k d z l = fails_before_first p xs k d (grind (arith, common_steps))

pub position_map : {X Y : Type 0} (f : X → Y) (p : Y → Bool) (xs : List X) → position p (map f xs) ≡ position (λ x. p (f x)) xs
position_map {X = X} f p xs = λ i. cond (nat_lt (first xs i) (many xs i)) (Some (first xs i)) None
  where
    first : (xs : List X) → position_or_len p (map f xs) ≡ position_or_len (λ x. p (f x)) xs
    first [] = refl
    first (x ∷ xs) = ap (λ n. cond (not (p (f x))) (1 + n) 0) (first xs)

    many : (xs : List X) → length (map f xs) ≡ length xs
    many [] = refl
    many (x ∷ xs) = ap suc (many xs)

-- what is left out of a list that stays as long is nothing
part_length : {X : Type 0} (bs : List Bool) (xs : List X) → length (items_where_true bs xs) ≤ length xs
part_length [] xs = omega arith
part_length (b ∷ bs) [] = omega arith
part_length (true ∷ bs) (x ∷ xs) = omega (arith, part_length bs xs)
part_length (false ∷ bs) (x ∷ xs) = omega (arith, part_length bs xs)

part_whole : {X : Type 0} (bs : List Bool) (xs : List X) → length xs ≤ length (items_where_true bs xs) → items_where_true bs xs ≡ xs
part_whole [] [] h = refl
part_whole [] (x ∷ xs) h = absurd (omega arith)
part_whole (b ∷ bs) [] h = refl
part_whole (true ∷ bs) (x ∷ xs) h = ap (λ ys. x ∷ ys) (part_whole bs xs (omega arith))
part_whole (false ∷ bs) (x ∷ xs) h = absurd (omega (arith, part_length bs xs))

pub all_part : {X : Type 0} (xs : List X) → IsPart xs xs
all_part {X} xs = (map (λ x. true) xs, sym (all xs))
  where
    all : (xs : List X) → items_where_true (map (λ x. true) xs) xs ≡ xs
    all [] = refl
    all (x ∷ xs) = ap (λ ys. x ∷ ys) (all xs)

module _ {A : Type 0} (key : A → Numbers) where
  other : (id : Numbers) (p : Place A) → is_id (id_at key p) id ≡ false → holds key id p ≡ false
  other id (places.Live x) e = e
  other id (places.Gone gone) e = refl

  place_is : (id : Numbers) (ps : List (Place A)) (i : ℕ) → i ≤ length ps → AllWithin (λ p. holds key id p ≡ false) ps 0 i
      → (i < length ps → HoldsAt (λ p. holds key id p ≡ true) ps i) → place_by key id ps ≡ i
  place_is id [] i le others here = omega arith
  place_is id (p ∷ ps) zero le others here = rw (here (omega arith) p) refl
  place_is id (p ∷ ps) (suc i) le others here =
      rw (others 0 p (omega arith) (omega arith)) (ap suc (place_is id ps i (omega arith) (λ k d z l. others (suc k) d (omega arith) (omega arith)) (λ l d. here (omega arith) d)))

  -- whether the id is that of this place
  abbrev pub has : Numbers → Place A → Bool
  has id p = is_id (id_at key p) id

  -- what is found among the ids that are filed
  pub at_place : (id : Numbers) (ids : List Numbers) (ps : List (Place A)) → IsFiled key ids ps → position (λ other. is_id other id) ids ≡ position (has id) ps
  at_place id ids ps filed = ap (position (λ other. is_id other id)) filed.1 ∙ position_map (id_at key) (λ other. is_id other id) ps

  pub found_at : (id : Numbers) (ps : List (Place A)) (i : ℕ) → position (has id) ps ≡ Some i → HoldsAt (λ p. holds key id p ≡ true) ps i → i ≡ place_by key id ps
  found_at id ps i at here = sym (place_is id ps i (omega (arith, position_inside (has id) ps i at)) (λ k d z b. other id (get_or ps k d) ((position-Some (has id) ps i d at).2 k b)) (λ _. here))

  pub found_gone : (id : Numbers) (ps : List (Place A)) (i : ℕ) → IsRising (id_at key) ps → position (has id) ps ≡ Some i → HoldsAt (λ p. holds key id p ≡ false) ps i → length ps ≡ place_by key id ps
  found_gone id ps i up at gone = sym (place_is id ps (length ps) (omega arith) none (λ l. absurd (omega arith)))
    where
      none : AllWithin (λ p. holds key id p ≡ false) ps 0 (length ps)
      none k d z l =
          let some = position-Some (has id) ps i d at in
          grind (
            arith,
            some.0,
            some.1,
            some.2 k,
            gone d,
            up i k d,
            other id (get_or ps k d),
            past (id_at key (get_or ps i d)) (id_at key (get_or ps k d)) id,
          )

  pub found_none : (id : Numbers) (ps : List (Place A)) → position (has id) ps ≡ None → length ps ≡ place_by key id ps
  found_none id ps none = sym (place_is id ps (length ps) (omega arith) (λ k d z l. other id (get_or ps k d) (position_none (has id) ps none k d z l)) (λ l. absurd (omega arith)))

  -- all before the place of an id were drawn before it
  pub before_place : (id : Numbers) (ps : List (Place A)) (i : ℕ) → IsRising (id_at key) ps → position (has id) ps ≡ Some i → AllWithin (λ p. is_before (id_at key p) id ≡ true) ps 0 i
  before_place id ps i up at k d z l =
      let some = position-Some (has id) ps i d at in
      until (id_at key (get_or ps k d)) (id_at key (get_or ps i d)) id some.1 (up k i d l some.0)

  ids_written : (id : Numbers) (q : Place A) (ps : List (Place A)) → is_id (id_at key q) id ≡ true → map (id_at key) (slice_set ps (place_by key id ps) q) ≡ map (id_at key) ps
  ids_written id q [] same = refl
  ids_written id q (p ∷ ps) same = by p (holds key id p) refl (ids_written id q ps same)
    where
      by : (p : Place A) (b : Bool) → holds key id p ≡ b → map (id_at key) (slice_set ps (place_by key id ps) q) ≡ map (id_at key) ps
          → map (id_at key) (slice_set (p ∷ ps) (if b then 0 else suc (place_by key id ps)) q) ≡ map (id_at key) (p ∷ ps)
      by (places.Live x) true e rest = ap (λ n. n ∷ map (id_at key) ps) (same_by (id_at key q) (key x) id same e)
      by (places.Gone gone) true e rest = absurd cc
      by p false e rest = ap (λ ns. id_at key p ∷ ns) rest

  module _ (ids : List Numbers) where
    pub filed_written : (id : Numbers) (q : Place A) (ps : List (Place A)) → is_id (id_at key q) id ≡ true → IsFiled key ids ps → IsFiled key ids (slice_set ps (place_by key id ps) q)
    filed_written id q ps same filed = (rising_written key id q ps same filed.0, filed.1 ∙ sym (ids_written id q ps same))

    pub was_filed : (ps : List (Place A)) → IsFiled key ids ps → WasFiled key ids (length ps) ps
    was_filed ps filed = (filed.0, omega arith, λ l. filed.1)

    -- some are left out
    pub was_part : (before : ℕ) (ps qs : List (Place A)) → IsPart ps qs → WasFiled key ids before ps → WasFiled key ids before qs
    was_part before ps qs part was = subst (WasFiled key ids before) (sym part.1) (
      rising_kept (id_at key) part.0 ps was.0,
      omega (arith, was.1, part_length part.0 ps),
      λ l. let same = part_whole part.0 ps (omega (arith, was.1)) in was.2 (omega (arith, part_length part.0 ps)) ∙ ap (map (id_at key)) (sym same),
    )
