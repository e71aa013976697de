-- Rows of calls of a machine that was told which of them is to fail: the calls say which were made, and what became of each.
use Rattle.std.specs.Prelude.{ℕ, List, [], ◌∷◌, ◌++◌, ◌+◌, ◌≡◌, ◌≤◌, ◌⊎◌, Bool, true, false, if◌then◌else◌, length, map, nat_eq, not, suc}
use Rattle.std.proofs.Common.{ap, arith, inl, inr, refl, subst, sym, ◌∙◌}
use Rattle.std.proofs.lemmas.List.{append_assoc, length-append, length-map}
use Rattle.site_memory.specs.ToldCalls.{AreArmed}
use Rattle.site_model.specs.Told.{BreaksOff, Call, Made, done, failed}
use Rattle.mirrored_nets.specs.Fates.{AllDone, refusals}
use Rattle.mirrored_nets.proofs.AnewCalls.{each_done}
use Rattle.mirrored_nets.proofs.CallRows.{all_refused_none}

abbrev pub called : Made → Call
called m = m.call

-- behind so many calls, each of these is tried
abbrev pub tried : (before fails : ℕ) → List Call → List Made
tried before fails [] = []
tried before fails (c ∷ cs) = record { call = c; done = not (nat_eq (suc before) fails) } ∷ tried (suc before) fails cs

-- each is tried up to the first that fails
abbrev pub cut : (before fails : ℕ) → List Call → List Made
cut before fails [] = []
cut before fails (c ∷ cs) = record { call = c; done = not (nat_eq (suc before) fails) } ∷ (if not (nat_eq (suc before) fails) then cut (suc before) fails cs else [])

pub tried_is : (before fails : ℕ) (made : List Made) → AreArmed before fails made → made ≡ tried before fails (map called made)
tried_is before fails [] h = refl
tried_is before fails (m ∷ ms) (is, more) = λ i. record { call = m.call; done = is i } ∷ tried_is (suc before) fails ms more i

-- calls that all were tried
pub tried_one : (before fails : ℕ) (made also : List Made) → AreArmed before fails made → AreArmed before fails also → map called made ≡ map called also → made ≡ also
tried_one before fails made also h k e = tried_is before fails made h ∙ ap (tried before fails) e ∙ sym (tried_is before fails also k)

done_cut : (before fails : ℕ) (cs : List Call) → AreArmed before fails (map done cs) → map done cs ≡ cut before fails cs
done_cut before fails [] h = refl
done_cut before fails (c ∷ cs) (is, more) = by (not (nat_eq (suc before) fails)) is (done_cut (suc before) fails cs more)
  where
    by : (t : Bool) → true ≡ t → map done cs ≡ cut (suc before) fails cs → done c ∷ map done cs ≡ record { call = c; done = t } ∷ (if t then cut (suc before) fails cs else [])
    by true e rest = ap (λ z. done c ∷ z) rest
    by false e rest = absurd cc

off_cut : (before fails : ℕ) (front : List Call) (c : Call) (rest : List Call) → AreArmed before fails (map done front ++ failed c ∷ []) → map done front ++ failed c ∷ [] ≡ cut before fails (front ++ c ∷ rest)
off_cut before fails [] c rest (is, more) = by (not (nat_eq (suc before) fails)) is
  where
    by : (t : Bool) → false ≡ t → failed c ∷ [] ≡ record { call = c; done = t } ∷ (if t then cut (suc before) fails rest else [])
    by true e = absurd cc
    by false e = refl
off_cut before fails (x ∷ front) c rest (is, more) = by (not (nat_eq (suc before) fails)) is (off_cut (suc before) fails front c rest more)
  where
    by : (t : Bool) → true ≡ t → map done front ++ failed c ∷ [] ≡ cut (suc before) fails (front ++ c ∷ rest)
        → done x ∷ (map done front ++ failed c ∷ []) ≡ record { call = x; done = t } ∷ (if t then cut (suc before) fails (front ++ c ∷ rest) else [])
    by true e ih = ap (λ z. done x ∷ z) ih
    by false e ih = absurd cc

-- all were done
pub whole_cut : (before fails : ℕ) (cs : List Call) (made : List Made) → made ≡ map done cs → AreArmed before fails made → made ≡ cut before fails cs
whole_cut before fails cs made e h = e ∙ done_cut before fails cs (subst (AreArmed before fails) e h)

-- one of them failed, and is there
pub breaks_cut : (before fails : ℕ) (cs more : List Call) (made : List Made) → BreaksOff cs made → 1 ≤ refusals made → AreArmed before fails made → made ≡ cut before fails (cs ++ more)
breaks_cut before fails cs more made b some h = by b.is
  where
    all : cs ++ more ≡ b.front ++ b.call ∷ (b.rest ++ more)
    all = ap (λ z. z ++ more) b.split ∙ append_assoc b.front (b.call ∷ b.rest) more

    by : (made ≡ map done b.front ++ failed b.call ∷ []) ⊎ (made ≡ map done b.front) → made ≡ cut before fails (cs ++ more)
    by (inl e) = e ∙ off_cut before fails b.front b.call (b.rest ++ more) (subst (AreArmed before fails) e h) ∙ ap (cut before fails) (sym all)
    by (inr e) = let none = all_refused_none made (subst AllDone (sym e) (each_done b.front)) in absurd (omega (arith, none, some))

-- behind calls that all were done
pub later_cut : (before fails : ℕ) (cs ds : List Call) (made rest : List Made) → made ≡ map done cs ++ rest → BreaksOff ds rest → 1 ≤ refusals made → AreArmed before fails made → made ≡ cut before fails (cs ++ ds)
later_cut before fails cs ds made rest e b some h =
    breaks_cut before fails (cs ++ ds) [] made (record {
      front = cs ++ b.front;
      call = b.call;
      rest = b.rest;
      split = ap (λ z. cs ++ z) b.split ∙ sym (append_assoc cs b.front (b.call ∷ b.rest));
      is = by b.is;
    }) some h ∙ ap (cut before fails) (append_none (cs ++ ds))
  where
    append_none : (xs : List Call) → xs ++ [] ≡ xs
    append_none [] = refl
    append_none (x ∷ xs) = ap (λ z. x ∷ z) (append_none xs)

    each : (xs ys : List Call) → map done (xs ++ ys) ≡ map done xs ++ map done ys
    each [] ys = refl
    each (x ∷ xs) ys = ap (λ z. done x ∷ z) (each xs ys)

    by : (rest ≡ map done b.front ++ failed b.call ∷ []) ⊎ (rest ≡ map done b.front) → (made ≡ map done (cs ++ b.front) ++ failed b.call ∷ []) ⊎ (made ≡ map done (cs ++ b.front))
    by (inl f) =
        inl (e ∙ ap (λ z. map done cs ++ z) f ∙ sym (append_assoc (map done cs) (map done b.front) (failed b.call ∷ [])) ∙ ap (λ z. z ++ failed b.call ∷ []) (sym (each cs b.front)))
    by (inr f) = inr (e ∙ ap (λ z. map done cs ++ z) f ∙ sym (each cs b.front))

-- how long a row is that breaks off
pub breaks_within : (cs : List Call) (made : List Made) → BreaksOff cs made → length made ≤ length cs
breaks_within cs made b = by b.is
  where
    all : length cs ≡ length b.front + suc (length b.rest)
    all = ap length b.split ∙ length-append b.front (b.call ∷ b.rest)

    by : (made ≡ map done b.front ++ failed b.call ∷ []) ⊎ (made ≡ map done b.front) → length made ≤ length cs
    by (inl e) =
        let a = ap length e ∙ length-append (map done b.front) (failed b.call ∷ []) in
        let l = length-map b.front done in
        let c = all in
        omega (arith, a, l, c)
    by (inr e) = let a = ap length e in let l = length-map b.front done in let c = all in omega (arith, a, l, c)
