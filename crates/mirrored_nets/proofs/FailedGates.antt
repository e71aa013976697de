-- The calls of a turn or a request that halted in its first step, on a machine that was told which of its calls is to fail: that call is its gate's.
-- failure there.
use Rattle.std.specs.Prelude.{ℕ, List, [], ◌∷◌, ◌++◌, ◌+◌, ◌≡◌, ◌≤◌, ◌⊎◌, Bool, true, false, drop, length, map, nat_eq, not, suc}
use Rattle.std.proofs.Common.{ap, arith, inl, inr, refl, subst, sym, true≢false, ◌∙◌}
use Rattle.std.proofs.lemmas.Bool.{eqb-true}
use Rattle.journal_at.specs.StandingBodies.{lay}
use Rattle.site_memory.specs.ToldCalls.{AreArmed}
use Rattle.site_model.specs.Told.{Call, Made, done, failed}
use Rattle.mirrored_nets.specs.Fates.{AllDone, refusals}
use Rattle.mirrored_nets.proofs.CallRows.{all_refused_none}
use Rattle.mirrored_nets.proofs.HaltCuts.{drop_behind}
use Rattle.mirrored_nets.proofs.HaltedGates.{FailsAt, IsBroken}
use Rattle.mirrored_nets.proofs.HaltedGates.IsBroken.{unheard, unsynced, untried, unwritten}
use Rattle.mirrored_nets.proofs.ArmedRows.{parts_armed}

-- Which of a gate's calls failed, behind the two of its body: the third or the fourth of the append.
pub record GateFails (k lines : ℕ) (made : List Made) (file : ℕ) : Type 0 where
  pub stands : Bool
  pub place : ((k ≡ 3) × (stands ≡ false)) ⊎ ((k ≡ 4) × (stands ≡ true))
  pub calls : FailsAt lines made file stands

-- a call that failed is the one that was to
pub at_last : (before fails : ℕ) (c : Call) → AreArmed before fails (failed c ∷ []) → fails ≡ suc before
at_last before fails c (is, more) = by (nat_eq (suc before) fails) refl
  where
    by : (b : Bool) → nat_eq (suc before) fails ≡ b → fails ≡ suc before
    by true e = sym (eqb-true (suc before) fails e)
    by false e = absurd (true≢false (sym (is ∙ ap not e)))

module _ (file end since lines k : ℕ) (body : List ℕ) (made line first : List Made) (long : length line ≡ lines) (is : made ≡ line ++ first) (armed : AreArmed (since + lines) (since + lines + k) first)
    (some : 1 ≤ refusals first) where
  behind : (n : ℕ) → drop (lines + n) made ≡ drop n first
  behind n = (λ i. drop (sym long i + n) (is i)) ∙ drop_behind line first n

  pub gate_fails : (rest : List Made) → first ≡ map done (lay file end body) ++ rest → IsBroken file end rest → GateFails k lines made file
  gate_fails _ e untried = absurd (let none = all_refused_none first (subst AllDone (sym e) (refl, (refl, tt))) in omega (arith, none, some))
  gate_fails _ e unheard = absurd (let none = all_refused_none first (subst AllDone (sym e) (refl, (refl, (refl, tt)))) in omega (arith, none, some))
  gate_fails _ e unwritten = record {
    stands = false;
    place = inl (third, refl);
    calls = inl (end, 1 ∷ [], behind 2 ∙ ap (drop 2) e, refl);
  }
    where
      here : AreArmed (since + lines) (since + lines + k) (map done (lay file end body) ++ failed (Call.Write file end (1 ∷ [])) ∷ [])
      here = subst (AreArmed (since + lines) (since + lines + k)) e armed

      last : AreArmed (since + lines + 2) (since + lines + k) (failed (Call.Write file end (1 ∷ [])) ∷ [])
      last = (parts_armed (since + lines) (since + lines + k) (map done (lay file end body)) (failed (Call.Write file end (1 ∷ [])) ∷ []) here).1

      third : k ≡ 3
      third = let a = at_last (since + lines + 2) (since + lines + k) (Call.Write file end (1 ∷ [])) last in omega (arith, a)
  gate_fails _ e unsynced = record {
    stands = true;
    place = inr (fourth, refl);
    calls = inr (behind 3 ∙ ap (drop 3) e, refl);
  }
    where
      here : AreArmed (since + lines) (since + lines + k) ((map done (lay file end body) ++ done (Call.Write file end (1 ∷ [])) ∷ []) ++ failed (Call.Sync file) ∷ [])
      here = subst (AreArmed (since + lines) (since + lines + k)) e armed

      last : AreArmed (since + lines + 3) (since + lines + k) (failed (Call.Sync file) ∷ [])
      last = (parts_armed (since + lines) (since + lines + k) (map done (lay file end body) ++ done (Call.Write file end (1 ∷ [])) ∷ []) (failed (Call.Sync file) ∷ []) here).1

      fourth : k ≡ 4
      fourth = let a = at_last (since + lines + 3) (since + lines + k) (Call.Sync file) last in omega (arith, a)
