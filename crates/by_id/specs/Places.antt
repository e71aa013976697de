-- The places of a list: each holds an item, or keeps the id of one that stood there.
use Rattle.std.specs.Prelude.{ℕ, List, [], ◌∷◌, Option, Some, None, Bool, true, false, ◌≡◌, ◌≤◌, ◌*◌, if◌then◌else◌, length, map, suc}
use Rattle.std.specs.List.{items_where_true}
use Rattle.at_base.specs.Numbers.{Numbers}
use Rattle.at_model.specs.Book.{is_id}
use Rattle.by_id.specs.Lists.{IsRising}
use Rattle.by_id.specs.declared.place.Place.{Place}
use Rattle.by_id.specs.declared.place.Place.TheVariants as places

abbrev pub is_live : {A : Type 0} → Place A → Bool
is_live (places.Live x) = true
is_live (places.Gone id) = false

abbrev pub held : {A : Type 0} → Place A → Option A
held (places.Live x) = Some x
held (places.Gone id) = None

-- the items that are left
abbrev pub left : {A : Type 0} → List (Place A) → List A
left [] = []
left (places.Live x ∷ ps) = x ∷ left ps
left (places.Gone id ∷ ps) = left ps

abbrev pub id_at : {A : Type 0} → (A → Numbers) → Place A → Numbers
id_at key (places.Live x) = key x
id_at key (places.Gone id) = id

abbrev pub holds : {A : Type 0} → (A → Numbers) → Numbers → Place A → Bool
holds key id (places.Live x) = is_id (key x) id
holds key id (places.Gone gone) = false

abbrev pub due_at : {A : Type 0} → (A → Bool) → Place A → Bool
due_at due (places.Live x) = due x
due_at due (places.Gone id) = false

abbrev pub moved_at : {A M : Type 0} → (M → A → A) → M → Place A → Place A
moved_at moved by (places.Live x) = places.Live (moved by x)
moved_at moved by (places.Gone id) = places.Gone id

-- the place of the item with this id, or the length where there is none
abbrev pub place_by : {A : Type 0} → (A → Numbers) → Numbers → List (Place A) → ℕ
place_by key id [] = 0
place_by key id (p ∷ ps) = if holds key id p then 0 else suc (place_by key id ps)

-- an id by its incarnation and counter
abbrev pub id_of_pair : ℕ × ℕ → Numbers
id_of_pair p = record { incarnation = p.0; counter = p.1 }

-- the ids of the places rise, and are filed in their order
abbrev pub IsFiled : {A : Type 0} → (A → Numbers) → List Numbers → List (Place A) → Type 0
IsFiled key ids ps = IsRising (id_at key) ps × (ids ≡ map (id_at key) ps)

-- so it was when there were so many places, of which none or some have been left out
abbrev pub WasFiled : {A : Type 0} → (A → Numbers) → List Numbers → ℕ → List (Place A) → Type 0
WasFiled key ids before ps = IsRising (id_at key) ps × (length ps ≤ before) × (before ≤ length ps → ids ≡ map (id_at key) ps)

-- what stays of a list, in its order
abbrev pub IsPart : {X : Type 0} → List X → List X → Type 0
IsPart {X} xs ys = (bs : List Bool) × (ys ≡ items_where_true bs xs)

-- so many items are left, at least as many as are gone; and the ids are filed, where that is noted
abbrev pub IsKept : {A : Type 0} → (A → Numbers) → Bool → ℕ → List Numbers → List (Place A) → Type 0
IsKept key filed live ids ps = (live ≡ length (left ps)) × (length ps ≤ 2 * live) × (filed ≡ true → IsFiled key ids ps)

-- a test is asked at items alone, and keeps the other places
abbrev pub told_at : {A P : Type 0} → (P → A → Bool → P → Type 0) → P → Place A → Bool → P → Type 0
told_at R p (places.Live x) b q = R p x b q
told_at R p (places.Gone id) b q = (b ≡ true) × (q ≡ p)
