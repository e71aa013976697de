-- Where numbers rise, halving finds what a walk finds; and they rise on where seats are added behind, and where they move.
use Rattle.std.proofs.Common.{ℕ, List, [], ◌∷◌, ◌++◌, Some, None, Bool, true, false, ◌≡◌, ◌≤◌, ◌<◌, ◌-◌, ◌∙◌, refl, sym, ap, suc, zero, length, arith, get_or, slice_set, nat_lt}
use Rattle.std.specs.Prelude.{◌&&◌, if◌then◌else◌, nat_eq, slice_index_or}
use Rattle.std.specs.List.{AllWithin, HoldsAt}
use Rattle.std.specs.List.Sorted.{IsPartitionPoint, IsPartitionedBy}
use Rattle.std.proofs.lemmas.Grind.{common_steps}
use Rattle.std.proofs.lemmas.List.Quantifiers.{all_pairs_push}
use Rattle.at_base.specs.Names.{is_kind}
use Rattle.at_base.specs.declared.notice.Kind.{Kind}
use Rattle.at_tables.specs.declared.cells.State.{State}
use Rattle.at_model.specs.Book.{Enlistment}
use Rattle.at_model.specs.Seats.{moved}
use Rattle.at_model.specs.Step.{find_seat}
use Rattle.transaction_at.specs.Counts.{counted, less, marks, more}
use Rattle.transaction_at.specs.Numbers.{IsRising, is_numbered, place_of, state_at}
use Rattle.transaction_at.proofs.SeatCounts.{counted_state}

-- the places that halving gives

abbrev Parts : ℕ → List Enlistment → ℕ → Type 0
Parts number ss i = IsPartitionPoint (λ s. nat_lt s.number number ≡ true) (λ s. nat_lt s.number number ≡ false) ss i

pub partitioned : (number : ℕ) (ss : List Enlistment) → IsRising ss → IsPartitionedBy (λ s. nat_lt s.number number) ss
partitioned number ss up i j d le l e = grind (arith, common_steps, up i j d)

place_is : (number : ℕ) (ss : List Enlistment) (i : ℕ) → i ≤ length ss → AllWithin (λ s. is_numbered number s ≡ false) ss 0 i → (i < length ss → HoldsAt (λ s. is_numbered number s ≡ true) ss i) → place_of number ss ≡ i
place_is number [] i le others here = omega arith
place_is number (s ∷ ss) zero le others here = rw (here (omega arith) s) refl
place_is number (s ∷ ss) (suc i) le others here =
    rw (others 0 s (omega arith) (omega arith)) (ap suc (place_is number ss i (omega arith) (λ k d z l. others (suc k) d (omega arith) (omega arith)) (λ l d. here (omega arith) d)))

below : (m n : ℕ) → nat_lt m n ≡ true → nat_eq m n ≡ false
below m n e = grind (arith, common_steps)

pub found_at : (number : ℕ) (ss : List Enlistment) (i : ℕ) → Parts number ss i → i < length ss → HoldsAt (λ s. is_numbered number s ≡ true) ss i → i ≡ place_of number ss
found_at number ss i parts l here = sym (place_is number ss i (omega arith) (λ k d z b. below _ _ (parts.0 k d z b)) (λ _. here))

pub found_none : (number : ℕ) (ss : List Enlistment) (i : ℕ) → IsRising ss → Parts number ss i → (i < length ss → HoldsAt (λ s. is_numbered number s ≡ false) ss i) → length ss ≡ place_of number ss
found_none number ss i up parts other = sym (place_is number ss (length ss) (omega arith) none (λ l. absurd (omega arith)))
  where
    none : AllWithin (λ s. is_numbered number s ≡ false) ss 0 (length ss)
    none k d z l = grind (arith, common_steps, parts.0 k d, parts.1 i d, other, up i k d)

-- numbers that rise

later : (s : Enlistment) (ss : List Enlistment) → IsRising (s ∷ ss) → (k : ℕ) (d : Enlistment) → k < length ss → s.number < (get_or ss k d).number
later s ss up k d l = up 0 (suc k) d (omega arith) (omega arith)

rest_rises : (s : Enlistment) (ss : List Enlistment) → IsRising (s ∷ ss) → IsRising ss
rest_rises s ss up i j d lt l = up (suc i) (suc j) d (omega arith) (omega arith)

pub rising_pushed : (ss : List Enlistment) (s : Enlistment) → ((d : Enlistment) → (get_or ss (length ss - 1) d).number < s.number) → IsRising ss → IsRising (ss ++ s ∷ [])
rising_pushed ss s last up = all_pairs_push (λ (a b : Enlistment). a.number < b.number) ss s up below_it
  where
    below_it : (k : ℕ) (d : Enlistment) → k < length ss → (get_or ss k d).number < s.number
    below_it k d l = grind (arith, common_steps, last d, up k (length ss - 1) d)

pub as_long : (test : Enlistment → Bool) (state : State) (ss : List Enlistment) → length (moved test state ss) ≡ length ss
as_long test state [] = refl
as_long test state (s ∷ ss) = ap suc (as_long test state ss)

number_kept : (test : Enlistment → Bool) (state : State) (ss : List Enlistment) (k : ℕ) (d : Enlistment) → (get_or (moved test state ss) k d).number ≡ (get_or ss k d).number
number_kept test state [] k d = refl
number_kept test state (s ∷ ss) zero d = refl
number_kept test state (s ∷ ss) (suc k) d = number_kept test state ss k d

pub rising_moved : (test : Enlistment → Bool) (state : State) (ss : List Enlistment) → IsRising ss → IsRising (moved test state ss)
rising_moved test state ss up i j d lt l =
    let long = as_long test state ss in
    rw (number_kept test state ss i d, number_kept test state ss j d) (up i j d lt (omega (arith, long)))

-- the seat of a number, where it stands

none_moved : (number : ℕ) (state : State) (ss : List Enlistment) → ((k : ℕ) (d : Enlistment) → k < length ss → number < (get_or ss k d).number) → moved (is_numbered number) state ss ≡ ss
none_moved number state [] up = refl
none_moved number state (s ∷ ss) up =
    let other : is_numbered number s ≡ false = grind (arith, common_steps, up 0 s) in
    rw other (ap (λ ts. s ∷ ts) (none_moved number state ss (λ k d l. up (suc k) d (omega arith))))

pub moved_at : (number : ℕ) (state : State) (ss : List Enlistment) → IsRising ss → moved (is_numbered number) state ss ≡ state_at (place_of number ss) state ss
moved_at number state [] up = refl
moved_at number state (s ∷ ss) up = by (is_numbered number s) refl (moved_at number state ss (rest_rises s ss up))
  where
    by : (b : Bool) → is_numbered number s ≡ b → moved (is_numbered number) state ss ≡ state_at (place_of number ss) state ss → record s { state = if b then state else s.state } ∷ moved (is_numbered number) state ss ≡ state_at (if b then 0 else suc (place_of number ss)) state (s ∷ ss)
    by true e rest = ap (λ ts. record s { state = state } ∷ ts) (none_moved number state ss (λ k d l. grind (arith, common_steps, later s ss up k d)))
    by false e rest = ap (λ ts. s ∷ ts) rest

past : (n : ℕ) (state : State) (ss : List Enlistment) → length ss ≤ n → state_at n state ss ≡ ss
past n state [] le = refl
past zero state (s ∷ ss) le = absurd (omega arith)
past (suc n) state (s ∷ ss) le = ap (λ ts. s ∷ ts) (past n state ss (omega arith))

pub moved_past : (number : ℕ) (state : State) (ss : List Enlistment) → IsRising ss → length ss ≤ place_of number ss → moved (is_numbered number) state ss ≡ ss
moved_past number state ss up le = moved_at number state ss up ∙ past (place_of number ss) state ss le

pub state_set : (n : ℕ) (state : State) (d : Enlistment) (ss : List Enlistment) → slice_set ss n (record (slice_index_or ss n d) { state = state }) ≡ state_at n state ss
state_set n state d [] = refl
state_set zero state d (s ∷ ss) = refl
state_set (suc n) state d (s ∷ ss) = ap (λ ts. s ∷ ts) (state_set n state d ss)

pub state_put : (n : ℕ) (state : State) (s t : Enlistment) (ss : List Enlistment) → s ≡ get_or ss n s → t ≡ record s { state = state } → slice_set ss n t ≡ state_at n state ss
state_put n state s t ss here same = ap (slice_set ss n) (same ∙ ap (λ (x : Enlistment). record x { state = state }) here) ∙ state_set n state s ss

pub counted_at : (number : ℕ) (state : State) (s : Enlistment) (ss : List Enlistment) → IsRising ss → place_of number ss < length ss → s ≡ get_or ss (place_of number ss) s
    → counted (moved (is_numbered number) state ss) ≡ less (more (counted ss) (marks s.kind state)) (marks s.kind s.state)
counted_at number state s ss up l here =
    ap counted (moved_at number state ss up ∙ sym (state_set (place_of number ss) state s ss))
    ∙ counted_state (place_of number ss) state s ss l here

none_later : (number : ℕ) (kind : Kind) (ss : List Enlistment) → ((k : ℕ) (d : Enlistment) → k < length ss → number < (get_or ss k d).number) → find_seat number kind ss ≡ None
none_later number kind [] up = refl
none_later number kind (s ∷ ss) up =
    let other : is_numbered number s ≡ false = grind (arith, common_steps, up 0 s) in
    rw other (none_later number kind ss (λ k d l. up (suc k) d (omega arith)))

-- what is found at its place, or not
found_seat : (number : ℕ) (kind : Kind) (ss : List Enlistment) (d : Enlistment) → IsRising ss → place_of number ss < length ss
    → find_seat number kind ss ≡ (if is_kind (get_or ss (place_of number ss) d).kind kind then Some (get_or ss (place_of number ss) d) else None)
found_seat number kind [] d up l = absurd (omega arith)
found_seat number kind (s ∷ ss) d up l = by (is_numbered number s) refl (is_kind s.kind kind) refl (found_seat number kind ss d (rest_rises s ss up)) l
  where
    Rest : Type 0
    Rest = place_of number ss < length ss
        → find_seat number kind ss ≡ (if is_kind (get_or ss (place_of number ss) d).kind kind then Some (get_or ss (place_of number ss) d) else None)

    by : (b : Bool) → is_numbered number s ≡ b → (k : Bool) → is_kind s.kind kind ≡ k → Rest → (if b then 0 else suc (place_of number ss)) < suc (length ss)
        → (if b && is_kind s.kind kind then Some s else find_seat number kind ss)
        ≡ (if is_kind (get_or (s ∷ ss) (if b then 0 else suc (place_of number ss)) d).kind kind then Some (get_or (s ∷ ss) (if b then 0 else suc (place_of number ss)) d) else None)
    by true e true f rest h = rw f refl
    by true e false f rest h = rw f (none_later number kind ss (λ k x m. grind (arith, common_steps, later s ss up k x)))
    by false e k f rest h = rest (omega arith)

pub seat_at : (number : ℕ) (kind : Kind) (ss : List Enlistment) (s : Enlistment) → IsRising ss → place_of number ss < length ss → s ≡ get_or ss (place_of number ss) s → is_kind s.kind kind ≡ true
    → find_seat number kind ss ≡ Some s
seat_at number kind ss s up l here same =
    found_seat number kind ss s up l ∙ ap (λ (x : Enlistment). if is_kind x.kind kind then Some x else None) (sym here) ∙ ap (λ b. if b then Some s else None) same

pub seat_other : (number : ℕ) (kind : Kind) (ss : List Enlistment) (s : Enlistment) → IsRising ss → place_of number ss < length ss → s ≡ get_or ss (place_of number ss) s → is_kind s.kind kind ≡ false
    → find_seat number kind ss ≡ None
seat_other number kind ss s up l here same =
    found_seat number kind ss s up l ∙ ap (λ (x : Enlistment). if is_kind x.kind kind then Some x else None) (sym here) ∙ ap (λ b. if b then Some s else None) same

pub seat_none : (number : ℕ) (kind : Kind) (ss : List Enlistment) → length ss ≤ place_of number ss → find_seat number kind ss ≡ None
seat_none number kind [] le = refl
seat_none number kind (s ∷ ss) le = by (is_numbered number s) refl (seat_none number kind ss) le
  where
    by : (b : Bool) → is_numbered number s ≡ b → (length ss ≤ place_of number ss → find_seat number kind ss ≡ None) → suc (length ss) ≤ (if b then 0 else suc (place_of number ss))
        → (if b && is_kind s.kind kind then Some s else find_seat number kind ss) ≡ None
    by true e rest h = absurd (omega arith)
    by false e rest h = rest (omega arith)
