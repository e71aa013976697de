-- Calls are read in one way.
use Rattle.std.specs.Prelude.{ℕ, List, [], ◌∷◌, ◌+◌, ◌-◌, ◌≡◌, ◌≤◌, ◌<◌, ◌⊎◌, Bool, true, false, Option, None, Some, drop, if◌then◌else◌, length, nat_eq, suc}
use Rattle.std.proofs.Common.{ap, arith, inl, inr, refl, subst, sym, true≢false, ◌∙◌}
use Rattle.std.proofs.lemmas.Bool.{eq-eqb, lt-leb, ne_eqb}
use Rattle.std.proofs.lemmas.List.{length-append}
use Rattle.node_events.specs.NodeEvents.{one_if, struck}
use Rattle.site_memory.specs.declared.arm.Choice.{Choice}
use Rattle.site_model.specs.Told.{Call, Made, failed}
use Rattle.torn_appends.specs.TornAppends.{stands_behind}
use Rattle.mirrored_nets.specs.Fates.{anew_of, disk_part}
use Rattle.mirrored_nets.specs.Kept.{kept_at}
use Rattle.mirrored_nets.specs.Took.{HaltsSo, IsKept, StopsBefore, StopsInStep}
use Rattle.mirrored_nets.specs.AnewCalls.{before_anew}
use Rattle.mirrored_nets.specs.declared.armed.Armed.{Armed}
use Rattle.mirrored_nets.specs.declared.armed.Armed.TheVariants as arms
use Rattle.mirrored_nets.proofs.HaltedGates.{one_left}
use Rattle.call_readings.specs.Reads.{FailsLast, IsCutAt, IsUncut, ReadsAs, fate_behind, fate_number, is_halted, read_fates}
use Rattle.call_readings.specs.declared.became.Became.{Became}
use Rattle.call_readings.specs.declared.became.Became.TheVariants as becomes

same_stop : (k j : ℕ) (choice left : Choice) → arms.Stop k choice ≡ arms.Stop j left → (k ≡ j) × (choice ≡ left)
same_stop k j choice left e = let a : k ≡ j = cc in let b : choice ≡ left = cc in (a, b)

same_number : (a b : ℕ) → Some a ≡ Some b → a ≡ b
same_number a b e = cc

one_if_so : (b : Bool) (kept least : ℕ) → kept ≡ least + one_if b → nat_eq kept (least + 1) ≡ b
one_if_so true kept least e = eq-eqb kept (least + 1) e
one_if_so false kept least e = ne_eqb kept (least + 1) (λ f. omega (arith, e, f))

-- What a stop at the k-th call is read as, which came.
module _ (lines : ℕ) (made : List Made) (k : ℕ) (choice : Choice) where
  abbrev kept : ℕ
  kept = kept_at made k choice

  abbrev number : ℕ
  number = fate_number lines made k

  module _ (more : lines < k) where
    counted : number ≡ fate_behind (disk_part (drop lines made)) (k - lines)
    counted = ap (λ b. if b then 0 else fate_behind (disk_part (drop lines made)) (k - lines)) (lt-leb k lines more)

    pub some_number : (disk_part (drop lines made) ≡ [] → ⊥) → number ≡ suc (k - lines - 4)
    some_number some = counted ∙ by (disk_part (drop lines made)) some
      where
        by : (ms : List Made) → (ms ≡ [] → ⊥) → fate_behind ms (k - lines) ≡ suc (k - lines - 4)
        by [] apart = absurd (apart refl)
        by (m ∷ ms) apart = refl

    pub none_number : disk_part (drop lines made) ≡ [] → number ≡ k - lines
    none_number none = counted ∙ ap (λ ms. fate_behind ms (k - lines)) none

    -- its fate
    module _ (before : ℕ) (last : Bool) (at : number ≡ before + 1) where
      pub last_in_record : (disk_part (drop lines made) ≡ [] → ⊥) → k - lines ≤ 4 → IsKept lines made choice before last kept → stands_behind (kept - lines) choice ≡ last
      last_in_record some most (inl h) =
          let are = h.are in
          let calls : kept - lines ≡ h.calls = omega (arith, are) in
          ap (λ n. stands_behind n choice) calls ∙ sym h.last_is
      last_in_record some most (inr (inl h)) = let n = some_number some in let least = h.least in absurd (omega (arith, n, at, least, most))
      last_in_record some most (inr (inr h)) = absurd (some h.none)

      pub last_at_out : (disk_part (drop lines made) ≡ []) ⊎ (4 < k - lines) → IsKept lines made choice before last kept → nat_eq kept k ≡ last
      last_at_out (inl none) (inl h) = absurd (h.some none)
      last_at_out (inl none) (inr (inl h)) = absurd (h.some none)
      last_at_out (inl none) (inr (inr h)) =
          let n = none_number none in
          let are = h.are in
          let same : kept ≡ lines + before + one_if last = omega (arith, are) in
          let next : lines + before + 1 ≡ k = omega (arith, n, at, more) in
          ap (nat_eq kept) (sym next) ∙ one_if_so last kept (lines + before) same
      last_at_out (inr past) (inl h) = let n = some_number h.some in let first = h.first in absurd (omega (arith, n, at, first, past))
      last_at_out (inr past) (inr (inl h)) =
          let n = some_number h.some in
          let are = h.are in
          let least = h.least in
          let same : kept ≡ lines + (3 + before) + one_if last = omega (arith, are, least) in
          let next : lines + (3 + before) + 1 ≡ k = omega (arith, n, at, past) in
          ap (nat_eq kept) (sym next) ∙ one_if_so last kept (lines + (3 + before)) same
      last_at_out (inr past) (inr (inr h)) =
          let n = none_number h.none in
          let are = h.are in
          let same : kept ≡ lines + before + one_if last = omega (arith, are) in
          let next : lines + before + 1 ≡ k = omega (arith, n, at, more) in
          ap (nat_eq kept) (sym next) ∙ one_if_so last kept (lines + before) same

  abbrev pub Falls : List Bool → Type 0
  Falls fates = StopsInStep lines made choice fates (Some number) kept ⊎ StopsBefore lines fates (Some number) kept

  -- where it is one of its steps'
  pub one_at : (fates : List Bool) (last : Bool) → 1 ≤ number → ((before : ℕ) (l : Bool) → number ≡ before + 1 → IsKept lines made choice before l kept → last ≡ l) → Falls fates → struck (number - 1) last ≡ fates
  one_at fates last least is (inl s) =
      let e = same_number number (s.before + 1) s.until_is in
      let before : number - 1 ≡ s.before = omega (arith, e) in
      let same = is s.before s.last e s.is_kept in
      (λ i. struck (before i) (same i)) ∙ sym s.fates_are
  one_at fates last least is (inr s) = let e = same_number number 0 s.until_is in absurd (omega (arith, least, e))

  -- what it is read as
  pub record StopsOne (became : Became) (fates : List Bool) (until : Option ℕ) : Type 0 where
    pub steps : k ≤ before_anew lines made → (becomes.Falls kept choice ≡ became) × (Some number ≡ until) × Falls fates
    pub anew : before_anew lines made < k → (becomes.FallsAnew kept choice ≡ became) × ([] ≡ fates) × (None ≡ until)

  module _ (least : 1 ≤ k) (within : k ≤ length made) where
    cut_same : (j left_kept : ℕ) (left : Choice) → IsCutAt (arms.Stop k choice) made j left_kept left → (k ≡ j) × (choice ≡ left) × (kept ≡ left_kept)
    cut_same j left_kept left c =
        let (a, b) = same_stop k j choice left c.armed_is in
        (a, b, (λ i. kept_at made (a i) (b i)) ∙ sym c.kept_is)

    pub stops_one : (became : Became) (fates : List Bool) (until : Option ℕ) → ReadsAs (arms.Stop k choice) lines made became fates until → is_halted became ≡ false → StopsOne became fates until
    stops_one becomes.Stays fates until (inl none, ends, f, u) goes = absurd (omega (arith, none, least))
    stops_one becomes.Stays fates until (inr far, ends, f, u) goes = absurd (omega (arith, far, within))
    stops_one (becomes.Falls left_kept left) fates until (all, cut, at) goes =
        let (a, b, c) = cut_same cut.k left_kept left cut.cut in
        let u : Some number ≡ until = ap (λ j. Some (fate_number lines made j)) a ∙ sym cut.until_is in
        record {
          steps = λ most. (
            (λ i. becomes.Falls (c i) (b i)),
            u,
            subst (λ z. StopsInStep lines made choice fates z kept ⊎ StopsBefore lines fates z kept) (sym u)
                (subst (λ n. StopsInStep lines made choice fates until n ⊎ StopsBefore lines fates until n) (sym c) (subst (λ z. StopsInStep lines made z fates until left_kept ⊎ StopsBefore lines fates until left_kept) (sym b) at)),
          );
          anew = λ past. let most = cut.most in absurd (omega (arith, past, most, a));
        }
    stops_one becomes.Halts fates until h goes = absurd (true≢false goes)
    stops_one (becomes.FallsAnew left_kept left) fates until (all, cut, f, u) goes =
        let (a, b, c) = cut_same cut.k left_kept left cut.cut in
        record {
          steps = λ most. let past = cut.behind in absurd (omega (arith, past, most, a));
          anew = λ past. ((λ i. becomes.FallsAnew (c i) (b i)), sym f, sym u);
        }
    stops_one becomes.HaltsAnew fates until h goes = absurd (true≢false goes)

some_last : (anew : List Made) → FailsLast anew → anew ≡ [] → ⊥
some_last anew F e = let a = ap length (sym F.all ∙ e) in let b = length-append F.front (F.last ∷ []) in omega (arith, a, b)

-- What calls are read as none of which was stopped at.
pub record FailsOne (lines : ℕ) (made : List Made) (halted : Bool) (became : Became) (fates : List Bool) (until : Option ℕ) : Type 0 where
  pub at_gate : halted ≡ true → anew_of (drop lines made) ≡ [] → (becomes.Halts ≡ became) × (struck 0 (nat_eq (length made - lines) 4) ≡ fates) × (Some 1 ≡ until)
  pub anew : halted ≡ true → (anew_of (drop lines made) ≡ [] → ⊥) → (becomes.HaltsAnew ≡ became) × (read_fates lines made ≡ fates) × (None ≡ until)
  pub stays : halted ≡ false → (becomes.Stays ≡ became) × (read_fates lines made ≡ fates) × (None ≡ until)

module _ (lines : ℕ) (made : List Made) where
  stands_so : (fates : List Bool) (until : Option ℕ) (H : HaltsSo lines made fates until) → nat_eq (length made - lines) 4 ≡ H.stands
  stands_so fates until H = by H.calls
    where
      by : ((place : ℕ) × (bytes : List ℕ) × (drop (lines + 2) made ≡ failed (Call.Write H.file place bytes) ∷ []) × (H.stands ≡ false)) ⊎ ((drop (lines + 3) made ≡ failed (Call.Sync H.file) ∷ []) × (H.stands ≡ true))
          → nat_eq (length made - lines) 4 ≡ H.stands
      by (inl (place, bytes, is, absent)) = let l = one_left (lines + 2) made (failed (Call.Write H.file place bytes)) is in ne_eqb (length made - lines) 4 (λ e. omega (arith, l, e)) ∙ sym absent
      by (inr (is, stands)) = let l = one_left (lines + 3) made (failed (Call.Sync H.file)) is in eq-eqb (length made - lines) 4 (omega (arith, l)) ∙ sym stands

  module _ (armed : Armed) (uncut : IsUncut armed made) (halted : Bool) where
    cannot : (j kept : ℕ) (left : Choice) → IsCutAt armed made j kept left → ⊥
    cannot j kept left cut = by (subst (λ a. IsUncut a made) cut.armed_is uncut)
      where
        by : (j ≡ 0) ⊎ (length made < j) → ⊥
        by (inl none) = let least = cut.least in omega (arith, none, least)
        by (inr past) = let within = cut.within in omega (arith, past, within)

    pub fails_one : (became : Became) (fates : List Bool) (until : Option ℕ) → ReadsAs armed lines made became fates until → is_halted became ≡ halted → FailsOne lines made halted became fates until
    fails_one becomes.Stays fates until (far, ends, f, u) is = record {
      at_gate = λ off. absurd (true≢false (sym off ∙ sym is));
      anew = λ off. absurd (true≢false (sym off ∙ sym is));
      stays = λ on. (refl, sym f, sym u);
    }
    fails_one (becomes.Falls kept choice) fates until (all, cut, at) is = absurd (cannot cut.k kept choice cut.cut)
    fails_one becomes.Halts fates until (failing, H, none) is = record {
      at_gate = λ off empty. (refl, ap (struck 0) (stands_so fates until H) ∙ sym H.fates_are, sym H.until_is);
      anew = λ off some. absurd (some none);
      stays = λ on. absurd (true≢false (is ∙ on));
    }
    fails_one (becomes.FallsAnew kept choice) fates until (all, cut, f, u) is = absurd (cannot cut.k kept choice cut.cut)
    fails_one becomes.HaltsAnew fates until (failing, last, f, u) is = record {
      at_gate = λ off empty. absurd (some_last (anew_of (drop lines made)) last empty);
      anew = λ off some. (refl, sym f, sym u);
      stays = λ on. absurd (true≢false (is ∙ on));
    }
