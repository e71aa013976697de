-- The calls of a journal whose last gate may be raised or not, of which the last one failed.
use Rattle.std.specs.Prelude.{ℕ, List, [], ◌∷◌, ◌++◌, ◌+◌, ◌≡◌, ◌≤◌, ◌⊎◌, Bool, Option, true, false, drop, length, map, take, zero, suc}
use Rattle.std.proofs.Common.{refl, sym, ap, subst, ◌∙◌, inl, inr, arith, append-nil, length-append, length-drop}
use Rattle.std.proofs.lemmas.List.{append_assoc}
use Rattle.journal_at.specs.Compactions.{prepare_calls}
use Rattle.journal_at.specs.StandingBodies.{Makes, lay, raise}
use Rattle.journal_at.specs.declared.journal.Append.TheVariants as appends
use Rattle.journal_at.specs.declared.journal.Journal.{Journal}
use Rattle.mirrored_nets.specs.Took.{HaltsSo, IsTriedLine}
use Rattle.mirrored_nets.proofs.TriedLines.{disk_untried}
use Rattle.site_model.specs.Told.{BreaksOff, Call, Made, done, failed}
use Rattle.torn_appends.specs.TornAppends.{append_calls, up_to}

-- the last of a row
last_is : {A : Type 0} (k : ℕ) (xs : List A) (y z : A) → drop k (xs ++ y ∷ []) ≡ z ∷ [] → y ≡ z
last_is zero [] y z e = cc
last_is zero (x ∷ []) y z e = absurd cc
last_is zero (x ∷ (w ∷ xs)) y z e = absurd cc
last_is (suc k) [] y z e = absurd (none k z e)
  where
    none : {A : Type 0} (k : ℕ) (z : A) → drop k [] ≡ z ∷ [] → ⊥
    none zero z f = cc
    none (suc k) z f = cc
last_is (suc k) (x ∷ xs) y z e = last_is k xs y z e

pub one_left : {A : Type 0} (k : ℕ) (xs : List A) (z : A) → drop k xs ≡ z ∷ [] → length xs ≡ k + 1
one_left k xs z e = let l = length-drop k xs in let m = ap length e in omega (arith, l, m)

-- a gate that isn't raised for certain
pub data IsBroken (file place : ℕ) : List Made → Type 0 where
  untried : IsBroken file place []
  unwritten : IsBroken file place (failed (Call.Write file place (1 ∷ [])) ∷ [])
  unheard : IsBroken file place (done (Call.Write file place (1 ∷ [])) ∷ [])
  unsynced : IsBroken file place (done (Call.Write file place (1 ∷ [])) ∷ failed (Call.Sync file) ∷ [])

heads : {A : Type 0} (x y : A) (xs ys : List A) → x ∷ xs ≡ y ∷ ys → x ≡ y
heads x y xs ys e = cc

tails : {A : Type 0} (x y : A) (xs ys : List A) → x ∷ xs ≡ y ∷ ys → xs ≡ ys
tails x y xs ys e = cc

pub broken_gate : (file place : ℕ) (made : List Made) → BreaksOff (raise file place) made → IsBroken file place made
broken_gate file place made b = by b.front b.split b.is
  where
    w : Call
    w = Call.Write file place (1 ∷ [])

    none_more : (c : Call) (cs : List Call) → [] ≡ c ∷ cs → ⊥
    none_more c cs e = cc

    none_behind : (cs : List Call) (c : Call) (more : List Call) → [] ≡ cs ++ c ∷ more → ⊥
    none_behind [] c more e = cc
    none_behind (x ∷ xs) c more e = cc

    by : (front : List Call) → Call.Write file place (1 ∷ []) ∷ Call.Sync file ∷ [] ≡ front ++ b.call ∷ b.rest → (made ≡ map done front ++ failed b.call ∷ []) ⊎ (made ≡ map done front) → IsBroken file place made
    by [] e (inl is) =
        subst (IsBroken file place) (sym (is ∙ ap (λ c. failed c ∷ []) (sym (heads (Call.Write file place (1 ∷ [])) b.call (Call.Sync file ∷ []) b.rest e)))) unwritten
    by [] e (inr is) = subst (IsBroken file place) (sym is) untried
    by (x ∷ []) e (inl is) =
        let first = heads (Call.Write file place (1 ∷ [])) x (Call.Sync file ∷ []) (b.call ∷ b.rest) e in
        let second = heads (Call.Sync file) b.call [] b.rest (tails (Call.Write file place (1 ∷ [])) x (Call.Sync file ∷ []) (b.call ∷ b.rest) e) in
        subst (IsBroken file place) (sym (is ∙ (λ i. done (sym first i) ∷ failed (sym second i) ∷ []))) unsynced
    by (x ∷ []) e (inr is) =
        let first = heads (Call.Write file place (1 ∷ [])) x (Call.Sync file ∷ []) (b.call ∷ b.rest) e in
        subst (IsBroken file place) (sym (is ∙ (λ i. done (sym first i) ∷ []))) unheard
    by (x ∷ (y ∷ ys)) e is =
        absurd (none_behind ys b.call b.rest (tails (Call.Sync file) y [] (ys ++ b.call ∷ b.rest) (tails (Call.Write file place (1 ∷ [])) x (Call.Sync file ∷ []) (y ∷ (ys ++ b.call ∷ b.rest)) e)))

yes_no : true ≡ false → ⊥
yes_no e = cc

not_failed : (c d : Call) → done c ≡ failed d → ⊥
not_failed c d e = yes_no (ap (λ (m : Made). m.done) e)

other_calls : (file place at : ℕ) (bytes : List ℕ) → Call.Write file place bytes ≡ Call.Sync at → ⊥
other_calls file place at bytes e = cc

no_sync : (file place at : ℕ) (bytes : List ℕ) → failed (Call.Write file place bytes) ≡ failed (Call.Sync at) → ⊥
no_sync file place at bytes e = other_calls file place at bytes (ap (λ (m : Made). m.call) e)

-- the last call failed, the gate's write or its sync
abbrev pub FailsAt : ℕ → List Made → (file : ℕ) → Bool → Type 0
FailsAt lines made file stands =
    ((place : ℕ) × (bytes : List ℕ) × (drop (lines + 2) made ≡ failed (Call.Write file place bytes) ∷ []) × (stands ≡ false)) ⊎ ((drop (lines + 3) made ≡ failed (Call.Sync file) ∷ []) × (stands ≡ true))

-- the call that failed is the gate's: it is the third, or the fourth
pub record IsHalt (j : Journal) (body : List ℕ) (stands : Bool) (first : List Made) : Type 0 where
  pub k : ℕ
  pub either : (k ≡ 3) ⊎ (k ≡ 4)
  pub first_is : first ≡ up_to k false (append_calls j body)
  pub stands_is : ((k ≡ 3) × (stands ≡ false)) ⊎ ((k ≡ 4) × (stands ≡ true))

module _ (j : Journal) (body : List ℕ) (first : List Made) (file : ℕ) (stands : Bool) where
  at_write : (rest : List Made) → first ≡ map done (lay j.live j.end body) ++ rest → IsBroken j.live j.end rest → (place : ℕ) (bytes : List ℕ) → drop 2 first ≡ failed (Call.Write file place bytes) ∷ [] → stands ≡ false
      → IsHalt j body stands first
  at_write _ e untried place bytes is f = absurd (let l = one_left 2 first _ is in let m = ap length e in omega (arith, l, m))
  at_write _ e unwritten place bytes is f = record { k = 3; either = inl refl; first_is = e; stands_is = inl (refl, f) }
  at_write _ e unheard place bytes is f =
      absurd (not_failed _ _ (last_is 2 (map done (lay j.live j.end body)) _ _ (ap (drop 2) (sym e) ∙ is)))
  at_write _ e unsynced place bytes is f = absurd (let l = one_left 2 first _ is in let m = ap length e in omega (arith, l, m))

  at_sync : (rest : List Made) → first ≡ map done (lay j.live j.end body) ++ rest → IsBroken j.live j.end rest → drop 3 first ≡ failed (Call.Sync file) ∷ [] → stands ≡ true → IsHalt j body stands first
  at_sync _ e untried is f = absurd (let l = one_left 3 first _ is in let m = ap length e in omega (arith, l, m))
  at_sync _ e unwritten is f = absurd (let l = one_left 3 first _ is in let m = ap length e in omega (arith, l, m))
  at_sync _ e unheard is f = absurd (let l = one_left 3 first _ is in let m = ap length e in omega (arith, l, m))
  at_sync _ e unsynced is f = record { k = 4; either = inr refl; first_is = e; stands_is = inr (refl, f) }

  pub halt_by : Makes appends.Unsure j.live j.end body first
      → FailsAt 0 first file stands → IsHalt j body stands first
  halt_by (rest, e, b) (inl (place, bytes, is, f)) = at_write rest e (broken_gate j.live j.end rest b) place bytes is f
  halt_by (rest, e, b) (inr (is, f)) = at_sync rest e (broken_gate j.live j.end rest b) is f

-- so a turn whose append was done can't have halted while its journal was written anew
module _ (lines : ℕ) (few : lines ≤ 1) (made : List Made) (tried : IsTriedLine lines (take lines made)) (front : List Made) (unshut : Bool) (file place : ℕ) (text : List ℕ) where
  abbrev prepared : List Made
  prepared = map done (prepare_calls unshut file text)

  last_prepared : (unshut : Bool) → (before : List Made) × (map done (prepare_calls unshut file text) ≡ before ++ done (Call.Sync file) ∷ [])
  last_prepared true = (done (Call.Write file 0 (0 ∷ [])) ∷ done (Call.Sync file) ∷ done (Call.Write file 1 text) ∷ [], refl)
  last_prepared false = (done (Call.Sync file) ∷ done (Call.Write file 1 text) ∷ [], refl)

  long_prepared : (unshut : Bool) → 3 ≤ length (map done (prepare_calls unshut file text))
  long_prepared true = omega arith
  long_prepared false = omega arith

  -- its first call isn't the line's
  first_other : (unshut : Bool) (rest : List Made) (k : ℕ) → k ≡ 1 → IsTriedLine k (take k (map done (prepare_calls unshut file text) ++ rest)) → ⊥
  first_other true rest k e f = disk_untried (done (Call.Write file 0 (0 ∷ []))) (done (Call.Sync file) ∷ done (Call.Write file 1 text) ∷ done (Call.Sync file) ∷ rest) k refl e f
  first_other false rest k e f = disk_untried (done (Call.Sync file)) (done (Call.Write file 1 text) ∷ done (Call.Sync file) ∷ rest) k refl e f

  too_few : (rest : List Made) → made ≡ front ++ (prepared ++ rest) → length made ≤ lines + (2 + length rest) → ⊥
  too_few rest e most = by front e (ap length e ∙ length-append front (prepared ++ rest) ∙ ap (λ k. length front + k) (length-append prepared rest))
    where
      by : (xs : List Made) → made ≡ xs ++ (prepared ++ rest) → length made ≡ length xs + (length prepared + length rest) → ⊥
      by [] f l = let p = long_prepared unshut in first_other unshut rest lines (omega (arith, few, l, p, most)) (subst (λ z. IsTriedLine lines (take lines z)) f tried)
      by (x ∷ xs) f l = let p = long_prepared unshut in omega (arith, few, l, p, most)

  -- the last of them
  ends_in : (rest : List Made) (m z : Made) (k : ℕ) → made ≡ front ++ (prepared ++ (rest ++ m ∷ [])) → drop k made ≡ z ∷ [] → m ≡ z
  ends_in rest m z k e f =
      last_is k (front ++ (prepared ++ rest)) m z
      (ap (drop k) (append_assoc front (prepared ++ rest) (m ∷ []) ∙ ap (λ z. front ++ z) (append_assoc prepared rest (m ∷ [])) ∙ sym e) ∙ f)

  no_gate : made ≡ front ++ (prepared ++ []) → (k : ℕ) (c : Call) → drop k made ≡ failed c ∷ [] → ⊥
  no_gate e k c f =
      let (xs, g) = last_prepared unshut in
      not_failed (Call.Sync file) c
      (last_is k (front ++ xs) (done (Call.Sync file)) (failed c) (ap (drop k) (append_assoc front xs (done (Call.Sync file) ∷ []) ∙ ap (λ z. front ++ z) (sym g ∙ sym (append-nil prepared)) ∙ sym e) ∙ f))

  pub not_anew : (rest : List Made) → made ≡ front ++ (prepared ++ rest) → IsBroken file place rest → (fates : List Bool) (until : Option ℕ) → HaltsSo lines made fates until → ⊥
  not_anew _ e untried fates until H = by H.calls
    where
      by : FailsAt lines made H.file H.stands → ⊥
      by (inl (at, bytes, is, f)) = no_gate e (lines + 2) (Call.Write H.file at bytes) is
      by (inr (is, f)) = no_gate e (lines + 3) (Call.Sync H.file) is
  not_anew _ e unwritten fates until H = by H.calls
    where
      by : FailsAt lines made H.file H.stands → ⊥
      by (inl (at, bytes, is, f)) = let l = one_left (lines + 2) made (failed (Call.Write H.file at bytes)) is in too_few _ e (omega (arith, l))
      by (inr (is, f)) = no_sync file place H.file (1 ∷ []) (ends_in [] _ _ (lines + 3) e is)
  not_anew _ e unheard fates until H = by H.calls
    where
      by : FailsAt lines made H.file H.stands → ⊥
      by (inl (at, bytes, is, f)) = not_failed _ _ (ends_in [] _ _ (lines + 2) e is)
      by (inr (is, f)) = not_failed _ _ (ends_in [] _ _ (lines + 3) e is)
  not_anew _ e unsynced fates until H = by H.calls
    where
      by : FailsAt lines made H.file H.stands → ⊥
      by (inl (at, bytes, is, f)) = let l = one_left (lines + 2) made (failed (Call.Write H.file at bytes)) is in too_few _ e (omega (arith, l))
      by (inr (is, f)) = let l = one_left (lines + 3) made (failed (Call.Sync H.file)) is in too_few _ e (omega (arith, l))
