-- The seat of a holder, where an index has it.
use Rattle.std.proofs.Common.{ℕ, suc, zero, List, [], ◌∷◌, ◌++◌, Option, Some, None, Bool, true, false, ◌≡◌, ◌<◌, ◌≤◌, ◌∙◌, refl, sym, ap, subst, length, get_or, insert}
use Rattle.std.specs.Prelude.{find, option_map, slice_get, cond, ◌&&◌}
use Rattle.std.specs.List.{HoldsAt}
use Rattle.std.specs.List.Sorted.{IsPartitionPoint, IsPartitionedBy}
use Rattle.std.specs.Cmp.{IsTotalOrder, both_tied, nat_cmp_total, on_total, then_total, unsigned_ties}
use Rattle.std.specs.Cmp.Lexicographic.{on_texts, texts_ties}
use Rattle.std.specs.Ordering.{is_eq}
use Rattle.std.proofs.lemmas.List.Elements.{at_read}
use Rattle.std.proofs.lemmas.Option.{slice_get-get_or, slice_get_within}
use Rattle.at_base.specs.Names.{is_kind, kind_place}
use Rattle.at_tables.specs.declared.cells.State.{State}
use Rattle.at_model.specs.Book.{Enlistment, is_epr}
use Rattle.at_model.specs.Seats.{moved}
use Rattle.transaction_at.specs.Filed.{first_place, passes, ties, below, IsFiled}
use Rattle.transaction_at.specs.Holders.{Holder, IsIndex, holder_of, holders, rank}
use Rattle.transaction_at.proofs.FiledPlaces

some_same : {A : Type 0} {x y : A} → Some x ≡ Some y → x ≡ y
some_same e = cc

rank_total : IsTotalOrder rank
rank_total = then_total (on_total (λ (h : Holder). kind_place h.kind) nat_cmp_total) (then_total (on_texts (λ (h : Holder). h.participant.address)) (on_texts (λ (h : Holder). h.participant.params)))

pub rank_ties : (a b : Holder) → is_eq (rank a b) ≡ (is_kind a.kind b.kind && is_epr a.participant b.participant)
rank_ties a b =
    sym (both_tied _ _ _ _ (unsigned_ties (kind_place a.kind) (kind_place b.kind))
    (both_tied _ _ _ _ (texts_ties a.participant.address b.participant.address) (texts_ties a.participant.params b.participant.params)))

pub holder_at : (seats : List Enlistment) (i : ℕ) → slice_get (holders seats) i ≡ option_map holder_of (slice_get seats i)
holder_at [] i = refl
holder_at (s ∷ ss) zero = refl
holder_at (s ∷ ss) (suc i) = holder_at ss i

pub holders_moved : (test : Enlistment → Bool) (state : State) (seats : List Enlistment) → holders (moved test state seats) ≡ holders seats
holders_moved test state [] = refl
holders_moved test state (s ∷ ss) = ap (λ hs. holder_of s ∷ hs) (holders_moved test state ss)

-- the walk over the seats, and the walk over their holders

found_so : (h : Holder) (seats : List Enlistment) (n : ℕ) → first_place (λ x. is_eq (rank x h)) (holders seats) ≡ Some n
    → slice_get seats n ≡ find (λ s. is_kind s.kind h.kind && is_epr s.participant h.participant) seats
found_so h [] n e = absurd cc
found_so h (s ∷ ss) n e = by (is_eq (rank (holder_of s) h)) refl (first_place (λ x. is_eq (rank x h)) (holders ss)) refl e (found_so h ss) n refl
  where
    by : (b : Bool) → is_eq (rank (holder_of s) h) ≡ b → (o : Option ℕ) → first_place (λ x. is_eq (rank x h)) (holders ss) ≡ o → cond b (Some 0) (option_map (λ k. suc k) o) ≡ Some n
        → ((m : ℕ) → first_place (λ x. is_eq (rank x h)) (holders ss) ≡ Some m → slice_get ss m ≡ find (λ x. is_kind x.kind h.kind && is_epr x.participant h.participant) ss)
        → (k : ℕ) → k ≡ n → slice_get (s ∷ ss) k ≡ cond (is_kind s.kind h.kind && is_epr s.participant h.participant) (Some s) (find (λ x. is_kind x.kind h.kind && is_epr x.participant h.participant) ss)
    by true same o here f rest k at =
        ap (slice_get (s ∷ ss)) (at ∙ sym (some_same f)) ∙ sym (ap (λ c. cond c (Some s) (find (λ x. is_kind x.kind h.kind && is_epr x.participant h.participant) ss)) (sym (rank_ties (holder_of s) h) ∙ same))
    by false same None here f rest k at = absurd cc
    by false same (Some m) here f rest k at =
        ap (slice_get (s ∷ ss)) (at ∙ sym (some_same f)) ∙ rest m here
        ∙ sym (ap (λ c. cond c (Some s) (find (λ x. is_kind x.kind h.kind && is_epr x.participant h.participant) ss)) (sym (rank_ties (holder_of s) h) ∙ same))

absent_so : (h : Holder) (seats : List Enlistment) → first_place (λ x. is_eq (rank x h)) (holders seats) ≡ None → find (λ s. is_kind s.kind h.kind && is_epr s.participant h.participant) seats ≡ None
absent_so h [] e = refl
absent_so h (s ∷ ss) e = by (is_eq (rank (holder_of s) h)) refl (first_place (λ x. is_eq (rank x h)) (holders ss)) refl e (absent_so h ss)
  where
    by : (b : Bool) → is_eq (rank (holder_of s) h) ≡ b → (o : Option ℕ) → first_place (λ x. is_eq (rank x h)) (holders ss) ≡ o → cond b (Some 0) (option_map (λ k. suc k) o) ≡ None
        → (first_place (λ x. is_eq (rank x h)) (holders ss) ≡ None → find (λ x. is_kind x.kind h.kind && is_epr x.participant h.participant) ss ≡ None)
        → cond (is_kind s.kind h.kind && is_epr s.participant h.participant) (Some s) (find (λ x. is_kind x.kind h.kind && is_epr x.participant h.participant) ss) ≡ None
    by true same o here f rest = absurd cc
    by false same None here f rest = ap (λ c. cond c (Some s) (find (λ x. is_kind x.kind h.kind && is_epr x.participant h.participant) ss)) (sym (rank_ties (holder_of s) h) ∙ same) ∙ rest here
    by false same (Some m) here f rest = absurd cc

abbrev pub Parts : Holder → List ℕ → List Enlistment → ℕ → Type 0
Parts h places seats p = IsPartitionPoint (λ i. below rank h (holders seats) i ≡ true) (λ i. below rank h (holders seats) i ≡ false) places p

pub seat_found : (h : Holder) (places : List ℕ) (seats : List Enlistment) (p n : ℕ) → IsIndex places seats → Parts h places seats p → p < length places → n ≡ get_or places p n → ties rank h (holders seats) n ≡ true
    → slice_get seats n ≡ find (λ s. is_kind s.kind h.kind && is_epr s.participant h.participant) seats
seat_found h places seats p n index parts l here held = found_so h seats n (FiledPlaces.found rank rank_total h places (holders seats) p n index parts l here held)

pub seat_absent : (h : Holder) (places : List ℕ) (seats : List Enlistment) (p : ℕ) → IsIndex places seats → Parts h places seats p → (p < length places → HoldsAt (λ i. ties rank h (holders seats) i ≡ false) places p)
    → find (λ s. is_kind s.kind h.kind && is_epr s.participant h.participant) seats ≡ None
seat_absent h places seats p index parts other = absent_so h seats (FiledPlaces.absent rank rank_total h places (holders seats) p index parts other)

pub index_parted : (h : Holder) (places : List ℕ) (seats : List Enlistment) → IsIndex places seats → IsPartitionedBy (λ i. below rank h (holders seats) i) places
index_parted h places seats index = FiledPlaces.partitioned rank rank_total h places (holders seats) index

holders_behind : (seats : List Enlistment) (s : Enlistment) → holders (seats ++ s ∷ []) ≡ holders seats ++ holder_of s ∷ []
holders_behind [] s = refl
holders_behind (x ∷ xs) s = ap (λ hs. holder_of x ∷ hs) (holders_behind xs s)

as_many : (seats : List Enlistment) → length (holders seats) ≡ length seats
as_many [] = refl
as_many (s ∷ ss) = ap suc (as_many ss)

-- what stands at a place
read_so : (t : ℕ → Bool) (places : List ℕ) (p : ℕ) (b : Bool) → p < length places → passes t (slice_get places p) ≡ b → HoldsAt (λ i. t i ≡ b) places p
read_so t places p b l e d = subst (λ o. passes t o ≡ b) (slice_get-get_or places p d l) e

pub index_put : (h : Holder) (places : List ℕ) (seats : List Enlistment) (p : ℕ) → IsIndex places seats → p ≤ length places → Parts h places seats p → passes (ties rank h (holders seats)) (slice_get places p) ≡ false
    → IsFiled rank (insert places p (length seats)) (holders seats ++ h ∷ [])
index_put h places seats p index bound parts other =
    subst (λ n. IsFiled rank (insert places p n) (holders seats ++ h ∷ [])) (as_many seats)
    (FiledPlaces.filed_insert rank rank_total h places (holders seats) p index bound parts (λ l. read_so (ties rank h (holders seats)) places p false l other))

pub index_noted : (h : Holder) (places : List ℕ) (seats : List Enlistment) (p : ℕ) → IsIndex places seats → passes (ties rank h (holders seats)) (slice_get places p) ≡ true → IsFiled rank places (holders seats ++ h ∷ [])
index_noted h places seats p index held = by (slice_get places p) refl held
  where
    by : (o : Option ℕ) → slice_get places p ≡ o → passes (ties rank h (holders seats)) o ≡ true → IsFiled rank places (holders seats ++ h ∷ [])
    by None at e = absurd cc
    by (Some n) at e = FiledPlaces.filed_same rank rank_total h places (holders seats) p n index (slice_get_within places p n at) (some_same (sym at ∙ slice_get-get_or places p n (slice_get_within places p n at))) e

pub index_behind : (places : List ℕ) (seats : List Enlistment) (s : Enlistment) → IsFiled rank places (holders seats ++ holder_of s ∷ []) → IsIndex places (seats ++ s ∷ [])
index_behind places seats s filed = subst (IsFiled rank places) (sym (holders_behind seats s)) filed

pub seat_other : (h : Holder) (places : List ℕ) (seats : List Enlistment) (p n : ℕ) → IsIndex places seats → Parts h places seats p → ties rank h (holders seats) n ≡ false → p < length places → n ≡ get_or places p n
    → find (λ s. is_kind s.kind h.kind && is_epr s.participant h.participant) seats ≡ None
seat_other h places seats p n index parts other l here = seat_absent h places seats p index parts (λ m. at_read places (λ i. ties rank h (holders seats) i ≡ false) p n l here other)

pub index_none : IsIndex [] []
index_none = FiledPlaces.filed_none rank rank_total

pub index_moved : (test : Enlistment → Bool) (state : State) (places : List ℕ) (seats : List Enlistment) → IsIndex places seats → IsIndex places (moved test state seats)
index_moved test state places seats index = subst (IsFiled rank places) (sym (holders_moved test state seats)) index
