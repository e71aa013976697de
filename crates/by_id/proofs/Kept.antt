-- What is noted of a list of places stays so at each write.
use Rattle.std.proofs.Common.{ℕ, Bool, List, [], ◌∷◌, ◌++◌, ◌≡◌, ◌≤◌, ◌<◌, ◌+◌, ◌-◌, ◌*◌, ◌∙◌, sym, length, ap, true, arith, slice_set, subst}
use Rattle.std.specs.Prelude.{slice_index_or}
use Rattle.std.proofs.lemmas.Grind.{common_steps}
use Rattle.at_base.specs.Numbers.{Numbers}
use Rattle.at_model.specs.Book.{is_id}
use Rattle.by_id.specs.Places.{IsFiled, IsKept, IsPart, WasFiled, id_at, left, moved_at, place_by}
use Rattle.by_id.specs.declared.place.Place.{Place}
use Rattle.by_id.specs.declared.place.Place.TheVariants as places
use Rattle.by_id.proofs.Places.{replace_at, replaced_length, move_at, moved_length, drop_at, dropped_length, left_pushed}
use Rattle.by_id.proofs.Filed.{filed_written, was_filed, was_part}

length_set : {A : Type 0} (xs : List A) (i : ℕ) (x : A) → length (slice_set xs i x) ≡ length xs
length_set xs i x = grind (arith, common_steps)

length_push : {A : Type 0} (xs : List A) (x : A) → length (xs ++ x ∷ []) ≡ length xs + 1
length_push xs x = grind (arith, common_steps)

same_id : (id : Numbers) → is_id id id ≡ true
same_id id = grind (arith)

module _ {A : Type 0} (key : A → Numbers) (filed : Bool) (live : ℕ) (ids : List Numbers) (ps : List (Place A)) where
  -- what is written at the place of an id, under this id
  written : (files : Bool) (id : Numbers) (q : Place A) → (files ≡ true → (filed ≡ true) × (is_id (id_at key q) id ≡ true))
      → length (left (slice_set ps (place_by key id ps) q)) ≡ length (left ps) → IsKept key filed live ids ps → IsKept key files live ids (slice_set ps (place_by key id ps) q)
  written files id q own many kept = (
    kept.0 ∙ sym many,
    subst (λ n. n ≤ 2 * live) (sym (length_set ps _ q)) kept.1,
    λ e. filed_written key ids id q ps (own e).1 (kept.2 (own e).0),
  )

  pub kept_replaced : (files : Bool) (id : Numbers) (u : A) → (files ≡ true → (filed ≡ true) × (is_id (key u) id ≡ true)) → IsKept key filed live ids ps
      → IsKept key files live ids (slice_set ps (place_by key id ps) (places.Live u))
  kept_replaced files id u own kept = written files id (places.Live u) own (ap length (replace_at key id u ps) ∙ replaced_length key id u (left ps)) kept

  pub kept_moved : {M : Type 0} (files : Bool) (id : Numbers) (moved : M → A → A) (by : M) (q d : Place A) → q ≡ moved_at moved by (slice_index_or ps (place_by key id ps) d)
      → (files ≡ true → (filed ≡ true) × (is_id (id_at key q) id ≡ true)) → IsKept key filed live ids ps → IsKept key files live ids (slice_set ps (place_by key id ps) q)
  kept_moved files id moved by q d is own kept =
      written files id q own (ap (λ p. length (left (slice_set ps (place_by key id ps) p))) is ∙ ap length (move_at key id moved by d ps) ∙ moved_length key id moved by (left ps)) kept

  pub kept_pushed : (files : Bool) (more : List Numbers) (x : A) → (files ≡ true → IsFiled key more (ps ++ places.Live x ∷ [])) → IsKept key filed live ids ps
      → IsKept key files (live + 1) more (ps ++ places.Live x ∷ [])
  kept_pushed files more x up kept = (
    omega (arith, kept.0, ap length (left_pushed x ps), length_push (left ps) x),
    omega (arith, kept.1, length_push ps (places.Live x)),
    up,
  )

  module _ (id : Numbers) (there : place_by key id ps < length ps) where
    abbrev Dropped : List (Place A)
    Dropped = slice_set ps (place_by key id ps) (places.Gone id)

    pub fewer : live ≡ length (left ps) → live - 1 ≡ length (left Dropped)
    fewer count = omega (arith, count, ap length (drop_at key id id ps), dropped_length key id ps there)

    pub was_dropped : (qs : List (Place A)) → IsPart Dropped qs → IsKept key filed live ids ps → filed ≡ true → WasFiled key ids (length Dropped) qs
    was_dropped qs part kept e = was_part key ids (length Dropped) Dropped qs part (was_filed key ids Dropped (filed_written key ids id (places.Gone id) ps (same_id id) (kept.2 e)))
