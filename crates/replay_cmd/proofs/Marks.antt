-- Which messages were delivered, place by place.
use Rattle.std.proofs.Common.{ℕ, zero, suc, ◌+◌, ◌≤◌, ◌<◌, Bool, true, false, ◌≡◌, refl, List, [], ◌∷◌, ◌++◌, length, slice_index_or, slice_set, arith, ap}
use Rattle.std.specs.Prelude.{Some, None}
use Rattle.replay_cmd.specs.Deliveries.{all_yes, lowest, yes_at}

pub set_yes : (k : ℕ) (bs : List Bool) → k < length bs → slice_set bs k true ≡ yes_at k bs
set_yes k [] h = grind arith
set_yes zero (b ∷ bs) h = refl
set_yes (suc k) (b ∷ bs) h = grind (arith, set_yes k bs)

pub all_append : (n : ℕ) (bs : List Bool) (c : Bool) → all_yes n bs ≡ true → all_yes n (bs ++ c ∷ []) ≡ true
all_append zero bs c h = refl
all_append (suc n) [] c h = grind arith
all_append (suc n) (b ∷ bs) c h = grind (arith, all_append n bs c)

pub all_set : (n k : ℕ) (bs : List Bool) → all_yes n bs ≡ true → all_yes n (slice_set bs k true) ≡ true
all_set zero k bs h = refl
all_set (suc n) k [] h = h
all_set (suc n) zero (b ∷ bs) h = grind arith
all_set (suc n) (suc k) (b ∷ bs) h = grind (arith, all_set n k bs)

pub append_no : (k : ℕ) (bs : List Bool) → length bs < k → yes_at k (bs ++ false ∷ []) ≡ yes_at k bs
append_no zero bs h = grind arith
append_no (suc k) [] h = refl
append_no (suc k) (b ∷ bs) h = grind (arith, append_no k bs)

pub append_yes : (k : ℕ) (bs : List Bool) → length bs ≡ k → bs ++ true ∷ [] ≡ yes_at k bs
append_yes zero [] h = refl
append_yes zero (b ∷ bs) h = grind arith
append_yes (suc k) [] h = grind arith
append_yes (suc k) (b ∷ bs) h = grind (arith, append_yes k bs)

pub one_more :
    (n : ℕ) (bs : List Bool) → all_yes n bs ≡ true → slice_index_or bs n false ≡ true → all_yes (n + 1) bs ≡ true
one_more zero [] all next = grind arith
one_more zero (b ∷ bs) all next = grind arith
one_more (suc n) [] all next = grind arith
one_more (suc n) (true ∷ bs) all next =
    let e : suc n + 1 ≡ suc (n + 1) = omega arith in rw e (one_more n bs all next)
one_more (suc n) (false ∷ bs) all next = grind arith

pub all_whole : (n : ℕ) (bs : List Bool) → all_yes n bs ≡ true → length bs ≤ n → all_yes (length bs) bs ≡ true
all_whole n [] all h = refl
all_whole zero (b ∷ bs) all h = grind arith
all_whole (suc n) (true ∷ bs) all h = all_whole n bs all (grind arith)
all_whole (suc n) (false ∷ bs) all h = grind arith

pub none_behind : (bs : List Bool) → slice_index_or bs (length bs) false ≡ false
none_behind [] = refl
none_behind (b ∷ bs) = none_behind bs

pub lowest_some :
    (n count k : ℕ) (bs : List Bool) → all_yes n bs ≡ true → slice_index_or bs n false ≡ false → n < count
    → Some (n + k) ≡ lowest count k bs
lowest_some n zero k bs all next h = grind arith
lowest_some zero (suc count) k [] all next h = let e : 0 + k ≡ k = omega arith in ap Some e
lowest_some zero (suc count) k (false ∷ bs) all next h = let e : 0 + k ≡ k = omega arith in ap Some e
lowest_some zero (suc count) k (true ∷ bs) all next h = grind arith
lowest_some (suc n) (suc count) k [] all next h = grind arith
lowest_some (suc n) (suc count) k (false ∷ bs) all next h = grind arith
lowest_some (suc n) (suc count) k (true ∷ bs) all next h =
    let e : suc n + k ≡ n + (k + 1) = omega arith in rw e (lowest_some n count (k + 1) bs all next (grind arith))

pub lowest_none :
    (n count k : ℕ) (bs : List Bool) → all_yes n bs ≡ true → count ≤ n → None ≡ lowest count k bs
lowest_none n zero k bs all h = refl
lowest_none zero (suc count) k bs all h = grind arith
lowest_none (suc n) (suc count) k [] all h = grind arith
lowest_none (suc n) (suc count) k (false ∷ bs) all h = grind arith
lowest_none (suc n) (suc count) k (true ∷ bs) all h = lowest_none n count (k + 1) bs all (grind arith)
