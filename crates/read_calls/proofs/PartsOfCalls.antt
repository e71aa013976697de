-- The parts of the calls of an event, of which this one was armed to fail.
use Rattle.std.specs.Prelude.{ℕ, List, [], ◌∷◌, ◌++◌, ◌+◌, ◌-◌, ◌≡◌, ◌≤◌, ◌<◌, ◌⊎◌, Bool, true, false, drop, if◌then◌else◌, length, nat_eq, not, suc, zero}
use Rattle.std.proofs.Common.{ap, arith, inl, inr, refl, subst, sym, ◌∙◌}
use Rattle.std.proofs.lemmas.Bool.{cases_lt, eqb-false}
use Rattle.std.proofs.lemmas.List.{length-append, length-drop}
use Rattle.site_memory.specs.ToldCalls.{AreArmed}
use Rattle.site_model.specs.Told.{Made}
use Rattle.mirrored_nets.specs.Fates.{all_done, anew_of, behind_disk, behind_sent, disk_part, is_disk, sent_of, sent_part}
use Rattle.mirrored_nets.specs.AnewCalls.{before_anew}
use Rattle.mirrored_nets.proofs.ArmedRows.{parts_armed}

-- those behind so many
pub dropped_armed : (n before fails : ℕ) (ms : List Made) → AreArmed before fails ms → AreArmed (before + n) fails (drop n ms)
dropped_armed zero before fails ms h = let e : before ≡ before + 0 = omega arith in subst (λ k. AreArmed k fails ms) e h
dropped_armed (suc n) before fails [] h = tt
dropped_armed (suc n) before fails (m ∷ ms) (is, more) =
    let e : suc before + n ≡ before + suc n = omega arith in
    subst (λ k. AreArmed k fails (drop n ms)) e (dropped_armed n (suc before) fails ms more)

disk_parts : (ms : List Made) → ms ≡ disk_part ms ++ behind_disk ms
disk_parts [] = refl
disk_parts (m ∷ ms) = by (is_disk m.call) (disk_parts ms)
  where
    by : (b : Bool) → ms ≡ disk_part ms ++ behind_disk ms → m ∷ ms ≡ (if b then m ∷ disk_part ms else []) ++ (if b then behind_disk ms else m ∷ ms)
    by true rest = ap (λ z. m ∷ z) rest
    by false rest = refl

sent_parts : (ms : List Made) → ms ≡ sent_part ms ++ behind_sent ms
sent_parts [] = refl
sent_parts (m ∷ ms) = by (is_disk m.call) (sent_parts ms)
  where
    by : (b : Bool) → ms ≡ sent_part ms ++ behind_sent ms → m ∷ ms ≡ (if b then [] else m ∷ sent_part ms) ++ (if b then m ∷ ms else behind_sent ms)
    by true rest = refl
    by false rest = ap (λ z. m ∷ z) rest

pub parts_are : (ms : List Made) → ms ≡ disk_part ms ++ (sent_of ms ++ anew_of ms)
parts_are ms = disk_parts ms ∙ ap (λ z. disk_part ms ++ z) (sent_parts (behind_disk ms))

-- of calls that reach the one that is to fail not all were done
pub fails_within : (before fails : ℕ) (ms : List Made) → AreArmed before fails ms → before < fails → fails ≤ before + length ms → all_done ms ≡ false
fails_within before fails [] h less most = absurd (omega (arith, less, most))
fails_within before fails (m ∷ ms) (is, more) less most = by (λ past. fails_within (suc before) fails ms more past (omega (arith, most))) (nat_eq (suc before) fails) refl
  where
    later : (suc before < fails → all_done ms ≡ false) → (suc before ≡ fails → ⊥) → (suc before < fails) ⊎ (fails ≤ suc before) → all_done ms ≡ false
    later next apart (inl past) = next past
    later next apart (inr here) = absurd (apart (omega (arith, here, less)))

    by : (suc before < fails → all_done ms ≡ false) → (b : Bool) → nat_eq (suc before) fails ≡ b → (if m.done then all_done ms else false) ≡ false
    by next true e = ap (λ t. if t then all_done ms else false) (is ∙ ap not e)
    by next false e = ap (λ t. if t then all_done ms else false) (is ∙ ap not e) ∙ later next (eqb-false (suc before) fails e) (cases_lt (suc before) fails)

-- The parts of the calls behind so many.
module _ (lines k : ℕ) (made : List Made) (armed : AreArmed 0 k made) where
  abbrev pub rest : List Made
  rest = drop lines made

  abbrev pub disk : List Made
  disk = disk_part rest

  abbrev pub sent : List Made
  sent = sent_of rest

  rest_armed : AreArmed lines k (disk ++ (sent ++ anew_of rest))
  rest_armed =
      let e : 0 + lines ≡ lines = omega arith in
      subst (AreArmed lines k) (parts_are rest) (subst (λ n. AreArmed n k rest) e (dropped_armed lines 0 k made armed))

  pub disk_armed : AreArmed lines k disk
  disk_armed = (parts_armed lines k disk (sent ++ anew_of rest) rest_armed).0

  pub sent_armed : AreArmed (lines + length disk) k sent
  sent_armed = (parts_armed (lines + length disk) k sent (anew_of rest) (parts_armed lines k disk (sent ++ anew_of rest) rest_armed).1).0

  counts : length made - lines ≡ length disk + (length sent + length (anew_of rest))
  counts =
      sym (length-drop lines made) ∙ ap length (parts_are rest) ∙ length-append disk (sent ++ anew_of rest) ∙ ap (λ n. length disk + n) (length-append sent (anew_of rest))

  -- where it comes behind them
  pub behind_parts : lines < k → before_anew lines made < k → lines + length disk + length sent < k
  behind_parts more past = let c = counts in omega (arith, more, past, c)

  -- and where it is one of them
  pub among_parts : lines < k → k ≤ before_anew lines made → k ≤ lines + length disk + length sent
  among_parts more most = let c = counts in omega (arith, more, most, c)
