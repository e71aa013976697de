-- Writing at the place of an id is giving, dropping and moving the item of that id.
use Rattle.std.proofs.Common.{List, [], ◌∷◌, ◌++◌, Some, None, ◌≡◌, ◌≤◌, ◌<◌, ◌+◌, ◌∙◌, sym, refl, length, suc, ap, arith, slice_set, filter, map}
use Rattle.std.specs.Prelude.{HoldsAt, option_and_then, slice_get, slice_index_or}
use Rattle.std.proofs.lemmas.Option.{slice_get_past, slice_get_read}
use Rattle.at_base.specs.Numbers.{Numbers}
use Rattle.at_model.specs.Book.{find_by, put_by}
use Rattle.by_id.specs.Lists.{move_by}
use Rattle.by_id.specs.Places.{held, is_live, left, moved_at, place_by}
use Rattle.by_id.specs.declared.place.Place.{Place}
use Rattle.by_id.specs.declared.place.Place.TheVariants as places

module _ {A : Type 0} (key : A → Numbers) (id : Numbers) where
  pub replace_at : (u : A) (ps : List (Place A)) → left (slice_set ps (place_by key id ps) (places.Live u)) ≡ put_by key id (Some u) (left ps)
  replace_at u [] = refl
  replace_at u (places.Live x ∷ ps) = grind (arith, replace_at u ps)
  replace_at u (places.Gone gone ∷ ps) = replace_at u ps

  pub replace_none : (u : A) (ps : List (Place A)) → length ps ≤ place_by key id ps → put_by key id (Some u) (left ps) ≡ left ps
  replace_none u [] h = refl
  replace_none u (places.Live x ∷ ps) h = grind (arith, replace_none u ps)
  replace_none u (places.Gone gone ∷ ps) h = replace_none u ps (omega arith)

  pub drop_at : (gone : Numbers) (ps : List (Place A)) → left (slice_set ps (place_by key id ps) (places.Gone gone)) ≡ put_by key id None (left ps)
  drop_at gone [] = refl
  drop_at gone (places.Live x ∷ ps) = grind (arith, drop_at gone ps)
  drop_at gone (places.Gone other ∷ ps) = drop_at gone ps

  pub drop_none : (ps : List (Place A)) → length ps ≤ place_by key id ps → put_by key id None (left ps) ≡ left ps
  drop_none [] h = refl
  drop_none (places.Live x ∷ ps) h = grind (arith, drop_none ps)
  drop_none (places.Gone gone ∷ ps) h = drop_none ps (omega arith)

  pub move_at : {M : Type 0} (moved : M → A → A) (by : M) (d : Place A) (ps : List (Place A))
      → left (slice_set ps (place_by key id ps) (moved_at moved by (slice_index_or ps (place_by key id ps) d))) ≡ move_by key moved id by (left ps)
  move_at moved by d [] = refl
  move_at moved by d (places.Live x ∷ ps) = grind (arith, move_at moved by d ps)
  move_at moved by d (places.Gone gone ∷ ps) = move_at moved by d ps

  pub move_none : {M : Type 0} (moved : M → A → A) (by : M) (ps : List (Place A)) → length ps ≤ place_by key id ps → move_by key moved id by (left ps) ≡ left ps
  move_none moved by [] h = refl
  move_none moved by (places.Live x ∷ ps) h = grind (arith, move_none moved by ps)
  move_none moved by (places.Gone gone ∷ ps) h = move_none moved by ps (omega arith)

  find_at : (ps : List (Place A)) → option_and_then held (slice_get ps (place_by key id ps)) ≡ find_by key id (left ps)
  find_at [] = refl
  find_at (places.Live x ∷ ps) = grind (arith, find_at ps)
  find_at (places.Gone gone ∷ ps) = find_at ps

  pub item_none : (ps : List (Place A)) → length ps ≤ place_by key id ps → None ≡ find_by key id (left ps)
  item_none ps past = ap (option_and_then held) (sym (slice_get_past ps _ past)) ∙ find_at ps

  pub item_at : (p : Place A) (ps : List (Place A)) → place_by key id ps < length ps → HoldsAt (λ q. p ≡ q) ps (place_by key id ps) → held p ≡ find_by key id (left ps)
  item_at p ps here there = ap (option_and_then held) (sym (slice_get_read ps (length ps) _ p refl here (there p))) ∙ find_at ps

  -- how many are left
  pub replaced_length : (u : A) (xs : List A) → length (put_by key id (Some u) xs) ≡ length xs
  replaced_length u [] = refl
  replaced_length u (x ∷ xs) = grind (arith, replaced_length u xs)

  pub moved_length : {M : Type 0} (moved : M → A → A) (by : M) (xs : List A) → length (move_by key moved id by xs) ≡ length xs
  moved_length moved by [] = refl
  moved_length moved by (x ∷ xs) = grind (arith, moved_length moved by xs)

  pub dropped_length : (ps : List (Place A)) → place_by key id ps < length ps → length (put_by key id None (left ps)) + 1 ≡ length (left ps)
  dropped_length [] h = absurd (omega arith)
  dropped_length (places.Live x ∷ ps) h = grind (arith, dropped_length ps)
  dropped_length (places.Gone gone ∷ ps) h = dropped_length ps (omega arith)

module _ {A : Type 0} where
  -- each place holds an item
  pub left_all : (xs : List A) → left (map places.Live xs) ≡ xs
  left_all [] = refl
  left_all (x ∷ xs) = ap (λ ys. x ∷ ys) (left_all xs)

  pub length_all : (xs : List A) → length (map places.Live xs) ≡ length xs
  length_all [] = refl
  length_all (x ∷ xs) = ap suc (length_all xs)

  -- what is packed
  pub left_packed : (ps : List (Place A)) → left (filter is_live ps) ≡ left ps
  left_packed [] = refl
  left_packed (places.Live x ∷ ps) = ap (λ xs. x ∷ xs) (left_packed ps)
  left_packed (places.Gone gone ∷ ps) = left_packed ps

  pub length_packed : (ps : List (Place A)) → length (filter is_live ps) ≡ length (left ps)
  length_packed [] = refl
  length_packed (places.Live x ∷ ps) = ap suc (length_packed ps)
  length_packed (places.Gone gone ∷ ps) = length_packed ps

  pub left_pushed : (x : A) (ps : List (Place A)) → left (ps ++ places.Live x ∷ []) ≡ left ps ++ x ∷ []
  left_pushed x [] = refl
  left_pushed x (places.Live y ∷ ps) = ap (λ xs. y ∷ xs) (left_pushed x ps)
  left_pushed x (places.Gone gone ∷ ps) = left_pushed x ps

  pub left_few : (ps : List (Place A)) → length (left ps) ≤ length ps
  left_few [] = omega arith
  left_few (places.Live x ∷ ps) = omega (arith, left_few ps)
  left_few (places.Gone gone ∷ ps) = omega (arith, left_few ps)
