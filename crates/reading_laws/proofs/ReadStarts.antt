-- Starts of a node that has started before: their calls are read.
use Rattle.std.specs.Prelude.{ℕ, List, [], ◌∷◌, ◌++◌, ◌+◌, ◌-◌, ◌≡◌, ◌≤◌, ◌<◌, ◌⊎◌, Bool, true, false, Err, Ok, drop, length, map, nat_eq, nat_le, not, suc, zero}
use Rattle.std.proofs.Common.{ap, arith, inl, inr, refl, subst, sym, true≢false, ◌∙◌}
use Rattle.std.proofs.Math.Seq.{drop-append_seam}
use Rattle.std.proofs.lemmas.Bool.{eq-eqb, eqb-false, eqb-true, leb-false, leb-true, ne_eqb}
use Rattle.std.proofs.lemmas.List.{length-append, length-map}
use Rattle.journal_at.specs.Loads.{FailsAt, syncs}
use Rattle.journal_at.specs.Loads.FailsAt.{sync, read, gate}
use Rattle.journal_at.specs.declared.version.Version.TheVariants.{One, Two}
use Rattle.memory_net.specs.Calls.{Begins}
use Rattle.memory_net.proofs.Standing.{same_some}
use Rattle.node_at.specs.Starts.{BeganTo, CannotStart, StandFor, append_calls, start_calls}
use Rattle.node_at.specs.declared.fault.StartFault.TheVariants as ends
use Rattle.node_at.specs.declared.node.Node.{Node}
use Rattle.record_bytes.specs.Versions.{AreApart}
use Rattle.site_memory.specs.Devices.{calls_in, opening_in}
use Rattle.site_memory.specs.Disk.{ChosenAreImages}
use Rattle.site_memory.specs.Sites.{told_of}
use Rattle.site_memory.specs.ToldCalls.{AreArmed, CallsFailAsTold, LinksHold}
use Rattle.site_memory.specs.declared.arm.Choice.{Choice}
use Rattle.site_memory.specs.declared.arm.Choice.TheVariants.{Keep}
use Rattle.site_memory.specs.declared.machine.MemSite.{MemSite}
use Rattle.site_model.specs.Counts.{Rose}
use Rattle.site_model.specs.Site.{Counts as Numbers}
use Rattle.site_model.specs.Told.{BreaksOff, Call, Made, done, failed}
use Rattle.torn_appends.specs.TornAppends.{stands_behind}
use Rattle.mirrored_nets.specs.DueStarts.{StartsFailForWant}
use Rattle.mirrored_nets.specs.Fates.{AllDone, refusals}
use Rattle.mirrored_nets.specs.Kept.{kept_at}
use Rattle.mirrored_nets.specs.LeftStarts.{FailedStartsLeave, IsMarked, LeavesFailed, LeavesStart, StartsLeave, stands_failed}
use Rattle.mirrored_nets.specs.ToldMachines.{IsToldOf, fails_of}
use Rattle.mirrored_nets.specs.Took.{Adds}
use Rattle.mirrored_nets.specs.declared.armed.Armed.{Armed}
use Rattle.mirrored_nets.specs.declared.armed.Armed.TheVariants as arms
use Rattle.mirrored_nets.proofs.AnewCalls.{each_done}
use Rattle.mirrored_nets.proofs.CallRows.{all_refused_none}
use Rattle.mirrored_nets.proofs.LeftStarts.{plain, two}
use Rattle.mirrored_nets.proofs.OneStanding.{version_one}
use Rattle.mirrored_nets.proofs.StoodStarts.{read_in}
use Rattle.mirrored_nets.proofs.ArmedRows.{done_behind, parts_armed}
use Rattle.mirrored_nets.proofs.ToldMachines.{armed_row, numbered}
use Rattle.call_readings.specs.Reads.{FailsLast, IsUncut, failing_call}
use Rattle.call_readings.specs.ReadsStart.{ReadsStart}
use Rattle.call_readings.specs.declared.became.Became.TheVariants as becomes
use Rattle.reading_laws.specs.StartsAreRead.{StartsAreRead}
use Rattle.reading_laws.proofs.ReadCalls.{armed_here}
use Rattle.reading_laws.proofs.ReadEnds.{EndsAnew, breaks_end}

-- A row that breaks off is no longer than what it breaks off.
breaks_short : (cs : List Call) (made : List Made) → BreaksOff cs made → length made ≤ length cs
breaks_short cs made b = by b.is
  where
    all : length cs ≡ length b.front + suc (length b.rest)
    all = ap length b.split ∙ length-append b.front (b.call ∷ b.rest)

    by : (made ≡ map done b.front ++ failed b.call ∷ []) ⊎ (made ≡ map done b.front) → length made ≤ length cs
    by (inl e) =
        let a = ap length e ∙ length-append (map done b.front) (failed b.call ∷ []) in
        let l = length-map b.front done in
        let c = all in
        omega (arith, a, l, c)
    by (inr e) = let a = ap length e in let l = length-map b.front done in let c = all in omega (arith, a, l, c)

-- the last of calls that failed is the one that was to
last_armed : (before k : ℕ) (made : List Made) → FailsLast made → AreArmed before (before + k) made → length made ≡ k
last_armed before k made F armed = by (nat_eq (suc (before + length F.front)) (before + k)) refl
  where
    last : F.last.done ≡ not (nat_eq (suc (before + length F.front)) (before + k))
    last = (parts_armed before (before + k) F.front (F.last ∷ []) (subst (AreArmed before (before + k)) F.all armed)).1.0

    by : (b : Bool) → nat_eq (suc (before + length F.front)) (before + k) ≡ b → length made ≡ k
    by true e =
        let same = eqb-true (suc (before + length F.front)) (before + k) e in
        let long = ap length F.all ∙ length-append F.front (F.last ∷ []) in
        omega (arith, same, long)
    by false e = absurd (true≢false (sym (last ∙ ap not e) ∙ F.fails))

-- the Start stands behind its four calls alone
sixth : (k : ℕ) → nat_eq k 6 ≡ stands_failed (k - 2)
sixth k = by (nat_eq (k - 2) 4) refl
  where
    by : (b : Bool) → nat_eq (k - 2) 4 ≡ b → nat_eq k 6 ≡ b
    by true e = let same = eqb-true (k - 2) 4 e in eq-eqb k 6 (omega (arith, same))
    by false e = ne_eqb k 6 (λ six. eqb-false (k - 2) 4 e (omega (arith, six)))

module _ (told_calls : CallsFailAsTold) (links : LinksHold) (apart : AreApart) (images : ChosenAreImages) (leave : StartsLeave) (leave_failed : FailedStartsLeave) (base : List ℕ) (old t : MemSite) (last : ℕ)
    (armed : Armed) (made : List Made) (K : IsMarked last old) (told : IsToldOf armed old) (adds : Adds made old t) where
  abbrev since : ℕ
  since = length (calls_in old.device)

  abbrev fails : ℕ
  fails = fails_of since armed

  row : (told_of t).counts.arming ≡ (told_of old).counts.arming → AreArmed since fails made
  row kept = armed_row told_calls links old t made fails told kept adds

  -- it came up
  module _ (n : Node) (B : Begins base (Ok n) old t) where
    abbrev L : LeavesStart old t
    L = leave base n old t last K B

    abbrev six : List Call
    six = syncs ++ append_calls L.file L.end L.body

    made_all : made ≡ map done six
    made_all = adds.calls ∙ L.calls

    all : AllDone made
    all = subst AllDone (sym made_all) (each_done six)

    up_failed : AreArmed 0 (failing_call armed) made
    up_failed = armed_here since armed made (row (ap (λ (z : Numbers). z.arming) B.0.counted.others))

    abbrev So : Type 0
    So = ReadsStart armed made (Ok n) old t

    up : IsUncut armed made → So
    up uncut = record { became = becomes.Stays; landed = true; stop = false; failed = up_failed; are = ((n, refl), uncut, refl, refl); lands = tt }

    down : (k : ℕ) (choice : Choice) → armed ≡ arms.Stop k choice → 1 ≤ k → k ≤ length made → So
    down k choice is least within = record {
      became = becomes.Falls (kept_at made k choice) choice;
      landed = stands_behind (kept_at made k choice - 2) choice;
      stop = true;
      failed = up_failed;
      are = ((n, refl), all, (k, record { armed_is = is; least = least; within = within; kept_is = refl }), refl, refl);
      lands = record {
        stands = λ new F. L.stands (kept_at made k choice) choice new F;
        rose = λ new before behind F was now. sym (L.rose (kept_at made k choice) choice new before behind F was now);
      };
    }

    stopping : (k : ℕ) (choice : Choice) → armed ≡ arms.Stop k choice → So
    stopping k choice is = by k refl
      where
        far : (k ≡ 0) ⊎ (length made < k) → So
        far missed = up (subst (λ a. IsUncut a made) (sym is) missed)

        each : 1 ≤ k → (b : Bool) → nat_le k (length made) ≡ b → So
        each least true e = down k choice is least (leb-true k (length made) e)
        each least false e = far (inr (leb-false k (length made) e))

        by : (j : ℕ) → k ≡ j → So
        by zero e = far (inl e)
        by (suc j) e = each (omega (arith, e)) (nat_le k (length made)) refl

    pub up_read : (a : Armed) → armed ≡ a → So
    up_read arms.No is = up (subst (λ a. IsUncut a made) (sym is) tt)
    up_read (arms.Fail k) is = up (subst (λ a. IsUncut a made) (sym is) tt)
    up_read (arms.Stop k choice) is = stopping k choice is

  -- the disk failed
  module _ (C : CannotStart ends.Disk 4294967295 (told_of old) (told_of t)) where
    made_is : made ≡ C.made
    made_is =
        adds.calls ∙ ap (drop since) (same_some (calls_in t.device) (calls_in old.device ++ C.made) C.grown) ∙ drop-append_seam (calls_in old.device) C.made

    one : Rose old.tally.disk t.tally.disk ⊎ Rose old.tally.gate t.tally.gate → 1 ≤ refusals made
    one (inl r) = let a = adds.refused in let b = adds.below in omega (arith, r, a, b)
    one (inr r) = let a = adds.raised in let b = adds.under in omega (arith, r, a, b)

    some : 1 ≤ refusals made
    some = one C.cause

    failed_row : AreArmed since fails made
    failed_row = row (ap (λ (z : Numbers). z.arming) C.counted.others)

    not_all : AllDone made → ⊥
    not_all all = let none = all_refused_none made all in let s = some in omega (arith, none, s)

    record IsShort (calls : List Made) : Type 0 where
      most : length calls ≤ 6
      ends : EndsAnew calls

    at_start : BeganTo (λ cs. BreaksOff cs C.made) (told_of old) → IsShort C.made
    at_start B =
        let bare = plain apart images old last K B.bare B.version B.rs B.journal B.file B.was B.behind B.least in
        let version = two apart images old last K B.bare B.version B.rs B.journal B.file B.was B.behind B.least in
        let off : BreaksOff (start_calls false Two B.rs B.journal B.file) C.made = subst (λ v. BreaksOff (start_calls false v B.rs B.journal B.file) C.made) version
        (subst (λ b. BreaksOff (start_calls b B.version B.rs B.journal B.file) C.made) bare B.ended) in
        record { most = breaks_short (start_calls false Two B.rs B.journal B.file) C.made off; ends = breaks_end (start_calls false Two B.rs B.journal B.file) C.made off }

    short : FailsAt C.made (told_of old) ⊎ BeganTo (λ cs. BreaksOff cs C.made) (told_of old) → IsShort C.made
    short (inl (sync off)) = let few = breaks_short syncs C.made off in record { most = omega (arith, few); ends = breaks_end syncs C.made off }
    short (inl (read e)) = absurd (not_all (subst AllDone (sym (made_is ∙ e)) (each_done syncs)))
    short (inl (gate empty off)) =
        let f = read_in old in
        let (qs, stands, same) = K.stands f (images Keep (opening_in old.device) (calls_in old.device)) in
        let bare : StandFor One [] f = record { texts = []; is = empty f refl; are = tt } in
        let e : One ≡ Two = version_one f One Two [] qs bare stands in
        absurd cc
    short (inr B) = at_start B

    its : IsShort made
    its = subst IsShort (sym made_is) (short C.ends)

    fails_last : FailsLast made
    fails_last = by its.ends
      where
        by : EndsAnew made → FailsLast made
        by (inl all) = absurd (not_all all)
        by (inr f) = f

    abbrev Down : Type 0
    Down = ReadsStart armed made (Err ends.Disk) old t

    none_failing : fails ≡ 0 → Down
    none_failing none = absurd (not_all (done_behind since 0 made (subst (λ k. AreArmed since k made) none failed_row) (omega arith)))

    failing : (k : ℕ) → armed ≡ arms.Fail k → 1 ≤ k → Down
    failing k is least =
        let number = ap (fails_of since) is ∙ numbered since k least in
        let long = last_armed since k made fails_last (subst (λ z. AreArmed since z made) number failed_row) in
        let few = its.most in
        let L : LeavesFailed k made old t = leave_failed base (Err ends.Disk) old t last k made K (subst (λ a. IsToldOf a old) is told) least (omega (arith, long, few)) C refl adds in
        record {
          became = becomes.Halts;
          landed = nat_eq (length made) 6;
          stop = true;
          failed = armed_here since armed made failed_row;
          are = (refl, (k, is), fails_last, refl, refl);
          lands = record {
            stands = L.stands;
            rose = λ new before behind F was now. ap (λ n. nat_eq n 6) long ∙ sixth k ∙ sym (L.rose new before behind F was now);
          };
        }

    pub failed_read : (a : Armed) → armed ≡ a → Down
    failed_read arms.No is = none_failing (ap (fails_of since) is)
    failed_read (arms.Fail zero) is = none_failing (ap (fails_of since) is)
    failed_read (arms.Fail (suc k)) is = failing (suc k) is (omega arith)
    failed_read (arms.Stop k choice) is = none_failing (ap (fails_of since) is)

pub starts_are_read : CallsFailAsTold → LinksHold → AreApart → ChosenAreImages → StartsLeave → FailedStartsLeave → StartsFailForWant → StartsAreRead
starts_are_read told_calls links apart images leave leave_failed want base (Ok n) old t last armed made K can told B adds memory =
    up_read told_calls links apart images leave leave_failed base old t last armed made K told adds n B armed refl
starts_are_read told_calls links apart images leave leave_failed want base (Err ends.Disk) old t last armed made K can told B adds memory =
    failed_read told_calls links apart images leave leave_failed base old t last armed made K told adds B armed refl
starts_are_read told_calls links apart images leave leave_failed want base (Err ends.NoMemory) old t last armed made K can told B adds memory = absurd (memory refl)
starts_are_read told_calls links apart images leave leave_failed want base (Err (ends.Bad file place)) old t last armed made K can told B adds memory = absurd (want base (ends.Bad file place) old t can B)
starts_are_read told_calls links apart images leave leave_failed want base (Err ends.NoJournal) old t last armed made K can told B adds memory = absurd (want base ends.NoJournal old t can B)
starts_are_read told_calls links apart images leave leave_failed want base (Err ends.Spent) old t last armed made K can told B adds memory = absurd (want base ends.Spent old t can B)
starts_are_read told_calls links apart images leave leave_failed want base (Err ends.Full) old t last armed made K can told B adds memory = absurd (want base ends.Full old t can B)
