-- Lists of live items that are found by their ids, in the order of making, as the model's book has them.
use Rattle.std.specs.Prelude.{List, [], ◌∷◌, ◌++◌, Option, Some, None, Bool, true, false, nat_lt, ◌≡◌, ◌&&◌, if◌then◌else◌, length}
use Rattle.std.specs.List.{AllPairs}
use Rattle.at_base.specs.declared.limits.TheConstants.{MOST_ITEMS}
use Rattle.at_base.specs.Numbers.{Numbers}
use Rattle.at_model.specs.Book.{is_id, put_by}
use Rattle.at_model.specs.Recovery.{is_before}
use Rattle.by_id.specs.declared.list.Alteration.{Alteration}
use Rattle.by_id.specs.declared.list.Alteration.TheVariants as alterations

-- each item's id was drawn before those of all later ones
abbrev pub IsRising : {A : Type 0} → (A → Numbers) → List A → Type 0
IsRising key xs = AllPairs (λ x y. is_before (key x) (key y) ≡ true) xs

-- one more at the end, where fewer than 1,024 live (this project's profile)
abbrev pub add_to : {A : Type 0} → A → List A → List A
add_to x xs = if nat_lt (length xs) MOST_ITEMS then xs ++ x ∷ [] else xs

-- the list with the item of this id moved
abbrev pub move_by : {A M : Type 0} → (A → Numbers) → (M → A → A) → Numbers → M → List A → List A
move_by key moved id by [] = []
move_by key moved id by (x ∷ xs) = if is_id (key x) id then moved by x ∷ xs else x ∷ move_by key moved id by xs

-- what becomes of a list
abbrev pub altered : {A M : Type 0} → (A → Numbers) → (M → A → A) → Alteration A M → List A → List A
altered key moved alterations.Keep xs = xs
altered key moved (alterations.Put id item) xs = put_by key id item xs
altered key moved (alterations.Move id by) xs = move_by key moved id by xs
altered key moved (alterations.Add x) xs = add_to x xs

-- one more stands at its end
abbrev pub is_addition : {A M : Type 0} → Alteration A M → Bool
is_addition alterations.Keep = false
is_addition (alterations.Put id item) = false
is_addition (alterations.Move id by) = false
is_addition (alterations.Add x) = true

abbrev pub is_behind : Option Numbers → Numbers → Bool
is_behind None id = true
is_behind (Some last) id = is_before last id

-- The first that is due behind this id, or the first at all.
abbrev pub next_due : {A : Type 0} → (A → Numbers) → (A → Bool) → Option Numbers → List A → Option Numbers
next_due key due after [] = None
next_due key due after (x ∷ xs) =
    if is_behind after (key x) && due x then Some (key x) else next_due key due after xs
