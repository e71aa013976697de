-- A stop at one of the calls of an event, all of which were done.
use Rattle.std.specs.Prelude.{ℕ, List, [], ◌∷◌, ◌++◌, ◌+◌, ◌-◌, ◌≡◌, ◌≤◌, ◌<◌, ◌⊎◌, Bool, true, false, Option, Some, None, drop, if◌then◌else◌, length, nat_le, suc, zero}
use Rattle.std.proofs.Common.{ap, arith, inl, inr, refl, subst, sym, ◌∙◌}
use Rattle.std.proofs.Math.Seq.{drop-append_seam}
use Rattle.std.proofs.lemmas.Bool.{le-leb, leb-false, leb-true, lt-leb}
use Rattle.std.proofs.lemmas.List.{length-append}
use Rattle.node_events.specs.NodeEvents.{one_if, struck}
use Rattle.site_memory.specs.declared.arm.Choice.{Choice}
use Rattle.site_memory.specs.declared.arm.Choice.TheVariants.{Keep, Drop, Fill}
use Rattle.site_model.specs.Told.{Call, Made}
use Rattle.torn_appends.specs.TornAppends.{stands_behind}
use Rattle.memory_net.proofs.MailedPosts.{all_right}
use Rattle.mirrored_nets.specs.Fates.{AllDone, IsDone, anew_of, disk_part, is_disk, sent_of}
use Rattle.mirrored_nets.specs.Kept.{is_write, kept_at, writes_at}
use Rattle.mirrored_nets.specs.Took.{StopsBefore, StopsInStep}
use Rattle.mirrored_nets.specs.AnewCalls.{before_anew}
use Rattle.mirrored_nets.specs.declared.armed.Armed.{Armed}
use Rattle.mirrored_nets.specs.declared.armed.Armed.TheVariants as arms
use Rattle.mirrored_nets.proofs.CallRows.{AreParts, AreSendings, anew_is, disk_is, sent_is}
use Rattle.mirrored_nets.proofs.KeptCalls.{kept_most}
use Rattle.call_readings.specs.Reads.{IsCutAt, IsOfSteps, IsUncut, ReadsAs, fate_behind, fate_number, is_halted, read_fates}
use Rattle.call_readings.specs.declared.became.Became.{Became}
use Rattle.call_readings.specs.declared.became.Became.TheVariants as becomes

-- The calls of an event: those of a line, which have no fate, of a record's append, answers and posts, and those by which the journal is written anew.
pub record CallParts (lines : ℕ) (made : List Made) : Type 0 where
  pub line : List Made
  pub first : List Made
  pub sends : List Made
  pub anew : List Made
  pub are : made ≡ line ++ (first ++ (sends ++ anew))
  pub long : length line ≡ lines
  pub parts : AreParts first sends anew

-- a call is no write
no_write : (c : Call) → is_disk c ≡ false → is_write c ≡ false
no_write (Call.Write file at bytes) e = absurd cc
no_write (Call.Sync file) e = refl
no_write (Call.Send bytes) e = refl
no_write (Call.Post host port bytes) e = refl

writes_past : (xs ys : List Made) (place : ℕ) → writes_at (length xs + place) (xs ++ ys) ≡ writes_at place ys
writes_past [] ys place = let same : zero + place ≡ place = omega arith in ap (λ k. writes_at k ys) same
writes_past (x ∷ xs) ys place =
    let same : suc (length xs) + place ≡ suc (length xs + place) = omega arith in
    ap (λ k. writes_at k (x ∷ (xs ++ ys))) same ∙ writes_past xs ys place

sends_write : (xs ys : List Made) (place : ℕ) → AreSendings xs → place < length xs → writes_at place (xs ++ ys) ≡ false
sends_write [] ys place are within = absurd (omega (arith, within))
sends_write (x ∷ xs) ys zero (is, are) within = no_write x.call is
sends_write (x ∷ xs) ys (suc place) (is, are) within = sends_write xs ys place are (omega (arith, within))

-- whether an answer or a post leaves at which the machine stops
abbrev pub out_left : Choice → Bool
out_left Keep = true
out_left Drop = false
out_left (Fill byte) = false

kept_out : (made : List Made) (k : ℕ) (choice : Choice) → 1 ≤ k → writes_at (k - 1) made ≡ false → kept_at made k choice ≡ k - 1 + one_if (out_left choice)
kept_out made k Keep least none = omega (arith, least)
kept_out made k Drop least none = omega arith
kept_out made k (Fill byte) least none = let last : k - 1 ≡ k - 1 + 0 = omega arith in ap (λ w. if w then k else k - 1) none ∙ last

-- no fewer than up to the call before it
kept_least : (made : List Made) (k : ℕ) (choice : Choice) → k - 1 ≤ kept_at made k choice
kept_least made k Keep = omega arith
kept_least made k Drop = omega arith
kept_least made k (Fill byte) = by (writes_at (k - 1) made)
  where
    by : (b : Bool) → k - 1 ≤ (if b then k else k - 1)
    by true = omega arith
    by false = omega arith

behind_four : (append : List Made) → length append ≡ 4 → (k : ℕ) → fate_behind append k ≡ suc (k - 4)
behind_four [] e k = absurd (omega (arith, e))
behind_four (m ∷ ms) e k = refl

-- Where the machine stops at that call.
pub record FallsSo (lines : ℕ) (made : List Made) (k : ℕ) (choice : Choice) : Type 0 where
  pub fates : List Bool
  pub falls : StopsInStep lines made choice fates (Some (fate_number lines made k)) (kept_at made k choice) ⊎ StopsBefore lines fates (Some (fate_number lines made k)) (kept_at made k choice)

module _ (lines : ℕ) (made : List Made) (P : CallParts lines made) where
  behind : drop lines made ≡ P.first ++ (P.sends ++ P.anew)
  behind = (λ i. drop (sym P.long i) (P.are i)) ∙ drop-append_seam P.line (P.first ++ (P.sends ++ P.anew))

  disk : disk_part (drop lines made) ≡ P.first
  disk = ap disk_part behind ∙ disk_is P.first P.sends P.anew P.parts

  sent : sent_of (drop lines made) ≡ P.sends
  sent = ap sent_of behind ∙ sent_is P.first P.sends P.anew P.parts

  pub anew_here : anew_of (drop lines made) ≡ P.anew
  anew_here = ap anew_of behind ∙ anew_is P.first P.sends P.anew P.parts

  count : length made ≡ lines + (length P.first + (length P.sends + length P.anew))
  count =
      let a = ap length P.are in
      let b = length-append P.line (P.first ++ (P.sends ++ P.anew)) in
      let c = length-append P.first (P.sends ++ P.anew) in
      let d = length-append P.sends P.anew in
      let l = P.long in
      omega (arith, a, b, c, d, l)

  pub front_count : before_anew lines made ≡ lines + (length P.first + length P.sends)
  front_count = let a = count in let b = ap length anew_here in omega (arith, a, b)

  -- an answer or a post among them
  no_write_here : (p : ℕ) → p < length P.sends → writes_at (lines + (length P.first + p)) made ≡ false
  no_write_here p within =
      (λ i. writes_at (sym P.long i + (length P.first + p)) (P.are i))
      ∙ writes_past P.line (P.first ++ (P.sends ++ P.anew)) (length P.first + p)
      ∙ writes_past P.first (P.sends ++ P.anew) p
      ∙ sends_write P.sends P.anew p P.parts.sends_are within

  module _ (k : ℕ) (choice : Choice) (least : 1 ≤ k) where
    abbrev kept : ℕ
    kept = kept_at made k choice

    few : kept ≤ k
    few = kept_most made k choice

    enough : k - 1 ≤ kept
    enough = kept_least made k choice

    stops_before : k ≤ lines → StopsBefore lines [] (Some (fate_number lines made k)) kept
    stops_before most = record {
      fates_are = refl;
      until_is = ap (λ b. Some (if b then 0 else fate_behind (disk_part (drop lines made)) (k - lines))) (le-leb k lines most);
      within = let f = few in omega (arith, f, most);
    }

    number : lines < k → fate_number lines made k ≡ fate_behind P.first (k - lines)
    number more = ap (λ b. if b then 0 else fate_behind (disk_part (drop lines made)) (k - lines)) (lt-leb k lines more) ∙ ap (λ ms. fate_behind ms (k - lines)) disk

    sent_count : length (sent_of (drop lines made)) ≡ length P.sends
    sent_count = ap length sent

    -- at an answer or a post
    out_kept : lines + length P.first < k → k ≤ lines + (length P.first + length P.sends) → kept ≡ k - 1 + one_if (out_left choice)
    out_kept more most =
        let place : k - 1 ≡ lines + (length P.first + (k - 1 - lines - length P.first)) = omega (arith, more) in
        kept_out made k choice least (ap (λ n. writes_at n made) place ∙ no_write_here (k - 1 - lines - length P.first) (omega (arith, more, most)))

    at_out : P.first ≡ [] → lines < k → k ≤ lines + length P.sends → StopsInStep lines made choice (struck (k - lines - 1) (out_left choice)) (Some (fate_number lines made k)) kept
    at_out none more most =
        let zero_long = ap length none in
        let same = out_kept (omega (arith, more, zero_long)) (omega (arith, most, zero_long)) in
        let sends = sent_count in
        let next : k - lines ≡ k - lines - 1 + 1 = omega (arith, more) in
        record {
          before = k - lines - 1;
          last = out_left choice;
          fates_are = refl;
          until_is = ap (λ n. Some n) (number more ∙ ap (λ ms. fate_behind ms (k - lines)) none ∙ next);
          is_kept = inr (inr (record { none = disk ∙ none; within = omega (arith, more, most, sends); are = omega (arith, same, more) }));
        }

    module _ (four : length P.first ≡ 4) (more : lines < k) where
      some : disk_part (drop lines made) ≡ [] → ⊥
      some none = let a = ap length (sym disk ∙ none) in omega (arith, a, four)

      numbered : fate_number lines made k ≡ suc (k - lines - 4)
      numbered = number more ∙ behind_four P.first four (k - lines)

      -- at one of a record's four
      at_record : k ≤ lines + 4 → StopsInStep lines made choice (struck 0 (stands_behind (kept - lines) choice)) (Some (fate_number lines made k)) kept
      at_record most =
          let first : suc (k - lines - 4) ≡ 1 = omega (arith, most) in
          let f = few in
          let e = enough in
          record {
            before = 0;
            last = stands_behind (kept - lines) choice;
            fates_are = refl;
            until_is = ap (λ n. Some n) (numbered ∙ first);
            is_kept = inl (record { some = some; first = refl; calls = kept - lines; most = omega (arith, f, most); last_is = refl; are = omega (arith, e, more) });
          }

      behind_record : lines + 4 < k → k ≤ lines + (4 + length P.sends) → StopsInStep lines made choice (struck (k - lines - 4) (out_left choice)) (Some (fate_number lines made k)) kept
      behind_record past most =
          let same = out_kept (omega (arith, past, four)) (omega (arith, most, four)) in
          let sends = sent_count in
          let next : suc (k - lines - 4) ≡ k - lines - 4 + 1 = omega arith in
          record {
            before = k - lines - 4;
            last = out_left choice;
            fates_are = refl;
            until_is = ap (λ n. Some n) (numbered ∙ next);
            is_kept = inr (inl (record { some = some; least = omega (arith, past); within = omega (arith, past, most, sends); are = omega (arith, same, past) }));
          }

    abbrev So : Type 0
    So = FallsSo lines made k choice

    in_step : (P.first ≡ []) ⊎ (length P.first ≡ 4) → lines < k → k ≤ lines + (length P.first + length P.sends) → So
    in_step (inl none) more most = let zero_long = ap length none in record { fates = struck (k - lines - 1) (out_left choice); falls = inl (at_out none more (omega (arith, most, zero_long))) }
    in_step (inr four) more most = by (nat_le k (lines + 4)) refl
      where
        by : (b : Bool) → nat_le k (lines + 4) ≡ b → So
        by true e = record { fates = struck 0 (stands_behind (kept - lines) choice); falls = inl (at_record four more (leb-true k (lines + 4) e)) }
        by false e = record { fates = struck (k - lines - 4) (out_left choice); falls = inl (behind_record four more (leb-false k (lines + 4) e) (omega (arith, most, four))) }

    pub falls_so : (P.first ≡ []) ⊎ (length P.first ≡ 4) → k ≤ before_anew lines made → So
    falls_so which most = by (nat_le k lines) refl
      where
        by : (b : Bool) → nat_le k lines ≡ b → So
        by true e = record { fates = []; falls = inr (stops_before (leb-true k lines e)) }
        by false e = let f = front_count in in_step which (leb-false k lines e) (omega (arith, most, f))

-- What such calls are read as, where the machine was to stop and didn't halt.
pub record ReadsStop (armed : Armed) (lines : ℕ) (made : List Made) : Type 0 where
  pub became : Became
  pub fates : List Bool
  pub until : Option ℕ
  pub are : ReadsAs armed lines made became fates until
  pub goes : is_halted became ≡ false
  -- where no call came by which the journal is written anew, it is one of its steps
  pub of_steps : anew_of (drop lines made) ≡ [] → IsOfSteps became

module _ (lines : ℕ) (made : List Made) (P : CallParts lines made) (which : (P.first ≡ []) ⊎ (length P.first ≡ 4)) (all : AllDone made) (armed : Armed) (k : ℕ) (choice : Choice) (is : armed ≡ arms.Stop k choice) where
  anew_done : AllDone (anew_of (drop lines made))
  anew_done =
      subst AllDone (sym (anew_here lines made P))
      (all_right IsDone P.sends P.anew (all_right IsDone P.first (P.sends ++ P.anew) (all_right IsDone P.line (P.first ++ (P.sends ++ P.anew)) (subst AllDone P.are all))))

  uncut : (k ≡ 0) ⊎ (length made < k) → ReadsStop armed lines made
  uncut far = record {
    became = becomes.Stays;
    fates = read_fates lines made;
    until = None;
    are = (subst (λ a. IsUncut a made) (sym is) far, inl anew_done, refl, refl);
    goes = refl;
    of_steps = λ none. tt;
  }

  module _ (least : 1 ≤ k) (within : k ≤ length made) where
    cut : IsCutAt armed made k (kept_at made k choice) choice
    cut = record { armed_is = is; least = least; within = within; kept_is = refl }

    cut_in_steps : k ≤ before_anew lines made → ReadsStop armed lines made
    cut_in_steps most =
        let so = falls_so lines made P k choice least which most in
        record {
          became = becomes.Falls (kept_at made k choice) choice;
          fates = so.fates;
          until = Some (fate_number lines made k);
          are = (all, record { k = k; cut = cut; most = most; until_is = refl }, so.falls);
          goes = refl;
          of_steps = λ none. tt;
        }

    cut_anew : before_anew lines made < k → ReadsStop armed lines made
    cut_anew more = record {
      became = becomes.FallsAnew (kept_at made k choice) choice;
      fates = [];
      until = None;
      are = (all, record { k = k; cut = cut; behind = more }, refl, refl);
      goes = refl;
      of_steps = λ none. absurd (let e = ap length none in omega (arith, e, more, within));
    }

    comes : ReadsStop armed lines made
    comes = by (nat_le k (before_anew lines made)) refl
      where
        by : (b : Bool) → nat_le k (before_anew lines made) ≡ b → ReadsStop armed lines made
        by true e = cut_in_steps (leb-true k (before_anew lines made) e)
        by false e = cut_anew (leb-false k (before_anew lines made) e)

  pub stop_read : ReadsStop armed lines made
  stop_read = by k refl
    where
      each : 1 ≤ k → (b : Bool) → nat_le k (length made) ≡ b → ReadsStop armed lines made
      each least true e = comes least (leb-true k (length made) e)
      each least false e = uncut (inr (leb-false k (length made) e))

      by : (n : ℕ) → k ≡ n → ReadsStop armed lines made
      by zero e = uncut (inl e)
      by (suc n) e = each (omega (arith, e)) (nat_le k (length made)) refl
