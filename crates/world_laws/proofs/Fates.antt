-- A fate at its place, and those behind it.
use Rattle.std.proofs.Common.{ℕ, zero, suc, List, [], ◌∷◌, ◌≡◌, ◌+◌, ◌-◌, ◌≤◌, ◌<◌, drop, length, Bool, true, Some, ap, sym, ◌∙◌, arith, add-one, refl}
use Rattle.std.specs.Prelude.{slice_get}
use Rattle.at_model.specs.World.{fate, fates_left}
use Rattle.world_laws.specs.Fates.{behind_done}

pub none_done : (items : List Bool) → behind_done 0 items ≡ items
none_done items = refl

pub length_behind : (done : ℕ) (items : List Bool) → done + length items ≡ length (behind_done done items)
length_behind zero items = omega arith
length_behind (suc done) items = let again = length_behind done items in omega (arith, again)

pub fate_before : (done place : ℕ) (items : List Bool) → place < done → true ≡ fate (drop place (behind_done done items))
fate_before zero place items h = absurd (omega (arith, h))
fate_before (suc done) zero items h = refl
fate_before (suc done) (suc place) items h = fate_before done place items (omega (arith, h))

pub fate_at : (place : ℕ) (fates : List Bool) (f : Bool) → slice_get fates place ≡ Some f → f ≡ fate (drop place fates)
fate_at place [] f h = absurd cc
fate_at zero (x ∷ xs) f h = cc
fate_at (suc place) (x ∷ xs) f h = fate_at place xs f h

pub fate_past : (place : ℕ) (fates : List Bool) → length fates ≤ place → true ≡ fate (drop place fates)
fate_past zero [] h = refl
fate_past (suc place) [] h = refl
fate_past zero (x ∷ xs) h = absurd (some (length xs) h)
  where
    some : (n : ℕ) → suc n ≤ zero → ⊥
    some n h = omega (arith, h)
fate_past (suc place) (x ∷ xs) h = fate_past place xs (omega (arith, h))

drop_behind : (done place : ℕ) (items : List Bool) → done ≤ place → drop place (behind_done done items) ≡ drop (place - done) items
drop_behind zero place items h = let same : place ≡ place - 0 = omega arith in ap (λ k. drop k items) same
drop_behind (suc done) zero items h = absurd (omega (arith, h))
drop_behind (suc done) (suc place) items h =
    let same : suc place - suc done ≡ place - done = omega arith in
    drop_behind done place items (omega (arith, h)) ∙ ap (λ k. drop k items) (sym same)

pub fate_behind : (done place : ℕ) (items : List Bool) → done ≤ place
    → fate (drop (place - done) items) ≡ fate (drop place (behind_done done items))
fate_behind done place items h = ap fate (sym (drop_behind done place items h))

pub length_left : (place : ℕ) (fates : List Bool) → length fates - place ≡ length (drop place fates)
length_left zero fates = omega arith
length_left (suc place) [] = omega arith
length_left (suc place) (x ∷ xs) = let again = length_left place xs in omega (arith, again)

next_used : (place : ℕ) (fates : List Bool) → drop (suc place) fates ≡ fates_left (drop place fates)
next_used zero [] = refl
next_used (suc place) [] = refl
next_used zero (x ∷ xs) = refl
next_used (suc place) (x ∷ xs) = next_used place xs

pub one_used : (place : ℕ) (fates : List Bool) → drop (place + 1) fates ≡ fates_left (drop place fates)
one_used place fates = ap (λ n. drop n fates) (add-one place) ∙ next_used place fates

pub none_left : (place : ℕ) (fates : List Bool) → length fates ≤ place → drop place fates ≡ fates_left (drop place fates)
none_left zero [] h = refl
none_left (suc place) [] h = refl
none_left zero (x ∷ xs) h = absurd (some (length xs) h)
  where
    some : (n : ℕ) → suc n ≤ zero → ⊥
    some n h = omega (arith, h)
none_left (suc place) (x ∷ xs) h = none_left place xs (omega (arith, h))
