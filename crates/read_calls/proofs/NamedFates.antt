-- The fates that are named of calls of which one failed.
use Rattle.std.specs.Prelude.{ℕ, List, [], ◌∷◌, ◌++◌, ◌+◌, ◌-◌, ◌≡◌, ◌≤◌, ◌<◌, ◌⊎◌, Bool, true, false, drop, length, map, not, suc, zero}
use Rattle.std.proofs.Common.{ap, arith, inl, inr, refl, subst, sym, ◌∙◌}
use Rattle.std.proofs.lemmas.Bool.{cases_lt, eq-eqb, ne_eqb}
use Rattle.node_events.specs.NodeEvents.{struck}
use Rattle.site_memory.specs.ToldCalls.{AreArmed}
use Rattle.site_model.specs.Told.{Made}
use Rattle.world_laws.specs.Fates.{behind_done}
use Rattle.mirrored_nets.specs.Fates.{AllDone, all_done, disk_part, fates_in, is_done, record_fate, sent_of}
use Rattle.mirrored_nets.specs.AnewCalls.{before_anew}
use Rattle.mirrored_nets.proofs.CallsRead.{record_fate_is}
use Rattle.mirrored_nets.proofs.DoneCalls.{all_test}
use Rattle.mirrored_nets.proofs.ArmedRows.{AllYes, done_before, done_behind, yes_each, yes_join, yes_record}
use Rattle.call_readings.specs.Reads.{led_by, named, read_fates}
use Rattle.read_calls.proofs.PartsOfCalls.{among_parts, behind_parts, disk_armed, fails_within, sent_armed}

-- none of yeses
pub named_yes : (fates : List Bool) → AllYes fates → named fates ≡ []
named_yes [] all = refl
named_yes (f ∷ fates) (is, all) = (λ i. led_by (is i) (named_yes fates all i))

led_struck : (j : ℕ) → led_by true (behind_done j (false ∷ [])) ≡ behind_done (suc j) (false ∷ [])
led_struck zero = refl
led_struck (suc j) = refl

-- those up to the one that failed
named_struck : (before j : ℕ) (ms : List Made) → AreArmed before (before + suc j) ms → j < length ms → named (map is_done ms) ≡ struck j false
named_struck before j [] armed within = absurd (omega (arith, within))
named_struck before zero (m ∷ ms) (is, more) within =
    let no : m.done ≡ false = is ∙ ap not (eq-eqb (suc before) (before + 1) (omega arith)) in
    let rest = named_yes (map is_done ms) (yes_each ms (done_behind (suc before) (before + 1) ms more (omega arith))) in
    (λ i. led_by (no i) (rest i))
named_struck before (suc j) (m ∷ ms) (is, more) within =
    let yes : m.done ≡ true = is ∙ ap not (ne_eqb (suc before) (before + suc (suc j)) (λ e. omega (arith, e))) in
    let e : before + suc (suc j) ≡ suc before + suc j = omega arith in
    let rest = named_struck (suc before) j ms (subst (λ k. AreArmed (suc before) k ms) e more) (omega (arith, within)) in
    (λ i. led_by (yes i) (rest i)) ∙ led_struck j

module _ (lines k : ℕ) (made : List Made) (armed : AreArmed 0 k made) where
  abbrev rest : List Made
  rest = drop lines made

  abbrev disk : List Made
  disk = disk_part rest

  abbrev sent : List Made
  sent = sent_of rest

  none_of : AllDone disk → AllDone sent → read_fates lines made ≡ []
  none_of first second = named_yes (fates_in rest) (yes_join (record_fate disk) (map is_done sent) (yes_record disk first) (yes_each sent second))

  none_first : k ≤ lines → read_fates lines made ≡ []
  none_first most =
      none_of (done_behind lines k disk (disk_armed lines k made armed) most) (done_behind (lines + length disk) k sent (sent_armed lines k made armed) (omega (arith, most)))

  none_past : before_anew lines made < k → (lines < k) ⊎ (k ≤ lines) → read_fates lines made ≡ []
  none_past past (inr most) = none_first most
  none_past past (inl more) =
      let far = behind_parts lines k made armed more past in
      none_of (done_before lines k disk (disk_armed lines k made armed) (omega (arith, far))) (done_before (lines + length disk) k sent (sent_armed lines k made armed) far)

  -- It is none of its steps.
  pub none_named : (k ≤ lines) ⊎ (before_anew lines made < k) → read_fates lines made ≡ []
  none_named (inl most) = none_first most
  none_named (inr past) = none_past past (cases_lt lines k)

  module _ (more : lines < k) (most : k ≤ before_anew lines made) where
    among : k ≤ lines + length disk + length sent
    among = among_parts lines k made armed more most

    -- no record comes first
    pub bare_named : disk ≡ [] → struck (k - lines - 1) false ≡ read_fates lines made
    bare_named none =
        let zero_long = ap length none in
        let a = among in
        let place : k ≡ lines + length disk + suc (k - lines - 1) = omega (arith, more, zero_long) in
        let there = subst (λ z. AreArmed (lines + length disk) z sent) place (sent_armed lines k made armed) in
        sym (ap (λ ds. named (record_fate ds ++ map is_done sent)) none ∙ named_struck (lines + length disk) (k - lines - 1) sent there (omega (arith, a, more, zero_long)))

    -- one does
    pub append_named : (disk ≡ [] → ⊥) → struck (k - lines - length disk) false ≡ read_fates lines made
    append_named some = by (cases_lt (lines + length disk) k)
      where
        first : record_fate disk ≡ all_done disk ∷ []
        first = record_fate_is disk some

        by : (lines + length disk < k) ⊎ (k ≤ lines + length disk) → struck (k - lines - length disk) false ≡ read_fates lines made
        by (inl past) =
            let a = among in
            let next : suc (k - lines - length disk - 1) ≡ k - lines - length disk = omega (arith, past) in
            let place : k ≡ lines + length disk + suc (k - lines - length disk - 1) = omega (arith, past) in
            let there = subst (λ z. AreArmed (lines + length disk) z sent) place (sent_armed lines k made armed) in
            let yes = all_test disk (done_before lines k disk (disk_armed lines k made armed) past) in
            let rest_is = named_struck (lines + length disk) (k - lines - length disk - 1) sent there (omega (arith, a, past)) in
            ap (λ n. struck n false) (sym next)
            ∙ sym
            (ap (λ fs. named (fs ++ map is_done sent)) first
            ∙ (λ i. led_by (yes i) (rest_is i)) ∙ led_struck (k - lines - length disk - 1))
        by (inr here) =
            let place : k - lines - length disk ≡ 0 = omega (arith, here) in
            let no = fails_within lines k disk (disk_armed lines k made armed) more here in
            let rest_is = named_yes (map is_done sent) (yes_each sent (done_behind (lines + length disk) k sent (sent_armed lines k made armed) here)) in
            ap (λ n. struck n false) place ∙ sym (ap (λ fs. named (fs ++ map is_done sent)) first ∙ (λ i. led_by (no i) (rest_is i)))
