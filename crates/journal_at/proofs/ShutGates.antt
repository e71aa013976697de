-- What a row of calls leaves of the gate that its first call shuts.
use Rattle.std.proofs.Common.{ℕ, List, Bool, Result, Ok, Err, true, false, [], ◌∷◌, ◌≡◌, ◌++◌, ◌⊎◌, ◌&&◌, ⊎_elim, sym, ◌∙◌, ap, subst, length, map, arith}
use Rattle.std.proofs.lemmas.List.{length-append}
use Rattle.site_model.specs.Calls.{Wrote}
use Rattle.site_model.specs.Told.{Told, Made, Call, BreaksOff, done, failed}
use Rattle.site_model.specs.Told.Call.{Write}
use Rattle.journal_at.specs.Compactions.{Acts, Readies, fails_first, gate_calls}
use Rattle.journal_at.proofs.DiskCalls.{acts_cut, acts_then, acts_wrote}
use Rattle.journal_at.proofs.Openings.{no_true}

one_failed : (call : Call) (made : List Made) → BreaksOff (call ∷ []) made → fails_first made ≡ true
one_failed call made b = by_front b.front (ap length b.split) b.is where
  by_front : (front : List Call) → length (call ∷ []) ≡ length (front ++ b.call ∷ b.rest) → (made ≡ map done front ++ failed b.call ∷ []) ⊎ (made ≡ map done front) → fails_first made ≡ true
  by_front [] e h = ⊎_elim (λ k. ap fails_first k) (λ k. ap fails_first k) h
  by_front (first ∷ front) e h = absurd (omega (arith, e, length-append front (b.call ∷ b.rest)))

pub readies_shut : {T E : Type 0} (unshut : Bool) (file : ℕ) (r : Result T E) (x : T) (old new : Told) → unshut ≡ true → r ≡ Ok x → Wrote file 0 (0 ∷ []) r old new → Readies {T = T} {E = E} (gate_calls unshut file) unshut false (Ok x) old new
readies_shut {T} {E} unshut file r x old new u e h = subst (λ z. Readies {T = T} {E = E} (gate_calls z file) z false (Ok x) old new) (sym u) (put (subst (λ z. Wrote file 0 (0 ∷ []) z old new) e h)) where
  put : Wrote {T = T} {E = E} file 0 (0 ∷ []) (Ok x) old new → Readies {T = T} {E = E} (gate_calls true file) true false (Ok x) old new
  put k = record { acts = acts_wrote file 0 (0 ∷ []) (Ok x) old new k; flag = sym (ap fails_first k.calls.outcome) }

pub readies_failed : {T E : Type 0} (unshut : Bool) (file : ℕ) (r : Result T E) (x : E) (old new : Told) → unshut ≡ true → r ≡ Err x → Wrote file 0 (0 ∷ []) r old new → Readies {T = T} {E = E} (gate_calls unshut file) unshut unshut (Err x) old new
readies_failed {T} {E} unshut file r x old new u e h = subst (λ z. Readies {T = T} {E = E} (gate_calls z file) z z (Err x) old new) (sym u) (put (subst (λ z. Wrote file 0 (0 ∷ []) z old new) e h)) where
  put : Wrote {T = T} {E = E} file 0 (0 ∷ []) (Err x) old new → Readies {T = T} {E = E} (gate_calls true file) true true (Err x) old new
  put k = record { acts = acts_wrote file 0 (0 ∷ []) (Err x) old new k; flag = sym (one_failed (Write file 0 (0 ∷ [])) k.calls.made k.calls.outcome) }

-- more calls, behind a gate that is shut
first_then : (unshut after : Bool) (m n : List Made) → after ≡ false → after ≡ (unshut && fails_first m) → after ≡ (unshut && fails_first (m ++ n))
first_then false after m n f e = e
first_then true after [] n f e = absurd (no_true (sym f ∙ e))
first_then true after (made ∷ m) n f e = e

pub readies_then : {T E U F : Type 0} (c d : List Call) (unshut after : Bool) (r : Result T E) (x : T) (q : Result U F) (old mid new : Told) → r ≡ Ok x → after ≡ false → Readies c unshut after r old mid → Acts d q mid new
    → Readies (c ++ d) unshut after q old new
readies_then c d unshut after r x q old mid new e shut h k =
    record { acts = acts_then c d r x q old mid new e h.acts k; flag = first_then unshut after h.acts.runs.made k.runs.made shut h.flag }

pub readies_cut : {T E U F : Type 0} (c d : List Call) (unshut after : Bool) (r : Result T E) (x : E) (q : Result U F) (y : F) (old new : Told) → r ≡ Err x → q ≡ Err y → Readies c unshut after r old new
    → Readies (c ++ d) unshut after q old new
readies_cut c d unshut after r x q y old new e f h = record { acts = acts_cut c d r x q y old new e f h.acts; flag = h.flag }
