-- What a start on files of version 2 leaves that failed at a call of the disk that was to fail.
use Rattle.std.specs.Prelude.{ℕ, List, [], ◌∷◌, ◌++◌, ◌+◌, ◌-◌, ◌≡◌, ◌≤◌, ◌<◌, ◌⊎◌, Bool, true, false, Ok, Err, cond, drop, length, map, not, suc, take, zero}
use Rattle.std.proofs.Common.{refl, sym, ap, subst, arith, ◌∙◌, inl, inr, true≢false}
use Rattle.std.proofs.Math.Seq.{drop-append_seam}
use Rattle.std.proofs.lemmas.Bool.{cases_lt, eq-eqb}
use Rattle.std.proofs.lemmas.List.{length-append, take_all}
use Rattle.journal_at.specs.Loads.{FailsAt, syncs}
use Rattle.journal_at.specs.Loads.FailsAt.{sync, read, gate}
use Rattle.journal_at.specs.declared.version.Version.TheVariants.{One, Two}
use Rattle.memory_net.specs.Calls.{Begins}
use Rattle.memory_net.proofs.Standing.{comes_on, same_some}
use Rattle.node_at.specs.Starts.{BeganTo, CannotStart, StandFor, append_calls, start_calls}
use Rattle.node_at.specs.declared.fault.StartFault.TheVariants as ends
use Rattle.node_at.specs.declared.node.Node.{Node}
use Rattle.record_bytes.specs.Versions.{AreApart, AreBodies as RecordsAreBodies}
use Rattle.site_memory.specs.Armings.{call_number}
use Rattle.site_memory.specs.Devices.{calls_in, opening_in}
use Rattle.site_memory.specs.Disk.{ChosenAreImages, Disk, after_call, after_sync, after_write, chosen_files, disk, run, same, which_of}
use Rattle.site_memory.specs.Sites.{told_of}
use Rattle.site_memory.specs.ToldCalls.{AreArmed, CallsFailAsTold, LinksHold}
use Rattle.site_memory.specs.declared.arm.Choice.TheVariants.{Keep}
use Rattle.site_memory.specs.declared.machine.MemSite.{MemSite}
use Rattle.site_memory.specs.declared.range.Which.{Which}
use Rattle.site_memory.specs.declared.range.Which.TheVariants.{First, Second}
use Rattle.site_model.specs.Counts.{Rose}
use Rattle.site_model.specs.Site.{Counts as Numbers}
use Rattle.site_model.specs.Told.{BreaksOff, Call, Files, Made, done, failed}
use Rattle.torn_appends.specs.TornAppends.{stands_behind}
use Rattle.torn_appends.proofs.DiskRuns.{run_on}
use Rattle.mirrored_nets.specs.Fates.{AllDone, refusals}
use Rattle.mirrored_nets.specs.LeftStarts.{FailedStartsLeave, IsMarked, LeavesFailed, LeavesStart, stands_failed, start_calls as all_calls}
use Rattle.mirrored_nets.specs.ToldMachines.{IsToldOf}
use Rattle.mirrored_nets.specs.Took.{Adds, FellBack}
use Rattle.mirrored_nets.specs.declared.armed.Armed.TheVariants as calls
use Rattle.mirrored_nets.proofs.CallRows.{all_refused_none}
use Rattle.mirrored_nets.proofs.CutCalls.{take_behind}
use Rattle.mirrored_nets.proofs.LeftFiles.{opening_kept}
use Rattle.mirrored_nets.proofs.LeftStarts.{ground, plain, starts_leave, two}
use Rattle.mirrored_nets.proofs.OneStanding.{version_one}
use Rattle.mirrored_nets.proofs.StoodStarts.{Ground, Stood, early, is_standing, read_in, rose, stood}
use Rattle.mirrored_nets.proofs.FailedGates.{at_last}
use Rattle.mirrored_nets.proofs.ArmedRows.{parts_armed}
use Rattle.mirrored_nets.proofs.ToldMachines.{armed_row}

-- a call that fails leaves what a stop before it would, of which all is kept
fails_at : (k : ℕ) → 1 ≤ k → k ≤ 6 → stands_failed (k - 2) ≡ stands_behind (k - 1 - 2) Keep
fails_at zero some few = absurd (omega (arith, some))
fails_at (suc zero) some few = refl
fails_at (suc (suc zero)) some few = refl
fails_at (suc (suc (suc zero))) some few = refl
fails_at (suc (suc (suc (suc zero)))) some few = refl
fails_at (suc (suc (suc (suc (suc zero))))) some few = refl
fails_at (suc (suc (suc (suc (suc (suc zero)))))) some few = refl
fails_at (suc (suc (suc (suc (suc (suc (suc k))))))) some few = absurd (omega (arith, few))

-- reads don't see a call that failed
failed_seen : (which : Which) (d : Disk) (c : Call) → (after_call which d c false).seen ≡ d.seen
failed_seen which d (Call.Write g at bytes) = by (same which (which_of g))
  where
    by : (b : Bool) → (cond b (after_write at bytes false d) d).seen ≡ d.seen
    by true = refl
    by false = refl
failed_seen which d (Call.Sync g) = by (same which (which_of g))
  where
    by : (b : Bool) → (cond b (after_sync false d) d).seen ≡ d.seen
    by true = refl
    by false = refl
failed_seen which d (Call.Send bytes) = refl
failed_seen which d (Call.Post host port bytes) = refl

unseen : (which : Which) (o : Files) (log xs : List Made) (c : Call) → (disk which o (log ++ (xs ++ failed c ∷ []))).seen ≡ (disk which o (log ++ xs)).seen
unseen which o log xs c =
    ap (λ (d : Disk). d.seen) (run_on which _ log (xs ++ failed c ∷ []) ∙ run_on which _ xs (failed c ∷ [])) ∙ failed_seen which (run which (disk which o log) xs) c
    ∙ ap (λ (d : Disk). d.seen) (sym (run_on which _ log xs))

unseen_files : (o : Files) (log xs : List Made) (c : Call) → chosen_files Keep o (log ++ (xs ++ failed c ∷ [])) ≡ chosen_files Keep o (log ++ xs)
unseen_files o log xs c = λ i. record { first = unseen First o log xs c i; second = unseen Second o log xs c i }

take_front : (xs ys zs : List Call) → zs ≡ xs ++ ys → map done xs ≡ take (length xs) (map done zs)
take_front xs ys zs e = go xs ∙ ap (λ z. take (length xs) (map done z)) (sym e)
  where
    go : (xs : List Call) → map done xs ≡ take (length xs) (map done (xs ++ ys))
    go [] = refl
    go (x ∷ xs) = ap (λ z. done x ∷ z) (go xs)

all_map_done : (xs : List Call) → AllDone (map done xs)
all_map_done [] = tt
all_map_done (x ∷ xs) = (refl, all_map_done xs)

length_done : (xs : List Call) → length (map done xs) ≡ length xs
length_done [] = refl
length_done (x ∷ xs) = ap suc (length_done xs)

-- of calls that reach the one that is to fail not all were done
not_all : (before fails : ℕ) (ms : List Made) → AreArmed before fails ms → AllDone ms → before < fails → fails ≤ before + length ms → ⊥
not_all before fails [] h all less within = omega (arith, less, within)
not_all before fails (m ∷ ms) (is, more) (d, all) less within = by (λ past. not_all (suc before) fails ms more all past (omega (arith, within))) (cases_lt (suc before) fails)
  where
    by : (suc before < fails → ⊥) → (suc before < fails) ⊎ (fails ≤ suc before) → ⊥
    by rest (inl past) = rest past
    by rest (inr here) = true≢false (sym d ∙ is ∙ ap not (eq-eqb (suc before) fails (omega (arith, less, here))))

-- calls that broke off at the k-th
record Broken (k : ℕ) (calls : List Call) (made : List Made) : Type 0 where
  front : List Call
  call : Call
  rest : List Call
  split : calls ≡ front ++ call ∷ rest
  is : made ≡ map done front ++ failed call ∷ []
  place : length front + 1 ≡ k

broken : (since k : ℕ) (calls : List Call) (made : List Made) → BreaksOff calls made → AreArmed since (since + k) made → 1 ≤ refusals made → Broken k calls made
broken since k calls made b armed some = by b.is
  where
    by : (made ≡ map done b.front ++ failed b.call ∷ []) ⊎ (made ≡ map done b.front) → Broken k calls made
    by (inr e) = let none = all_refused_none made (subst AllDone (sym e) (all_map_done b.front)) in absurd (omega (arith, none, some))
    by (inl e) =
        let last = at_last (since + length (map done b.front)) (since + k) b.call (parts_armed since (since + k) (map done b.front) (failed b.call ∷ []) (subst (λ z. AreArmed since (since + k) z) e armed)).1 in
        let long = length_done b.front in
        record { front = b.front; call = b.call; rest = b.rest; split = b.split; is = e; place = omega (arith, last, long) }

-- so reads give what they give behind the calls before it
broken_files : (k : ℕ) (o : Files) (log : List Made) (calls : List Call) (made : List Made) → Broken k calls made
    → chosen_files Keep o (log ++ made) ≡ chosen_files Keep o (log ++ take (k - 1) (map done calls))
broken_files k o log calls made b =
    let place : length b.front ≡ k - 1 = let p = b.place in omega (arith, p) in
    ap (λ z. chosen_files Keep o (log ++ z)) b.is ∙ unseen_files o log (map done b.front) b.call
    ∙ ap (λ z. chosen_files Keep o (log ++ z)) (take_front b.front (b.call ∷ b.rest) calls b.split ∙ ap (λ n. take n (map done calls)) place)

numbered : (since k : ℕ) → 1 ≤ k → call_number since k ≡ since + k
numbered since zero some = absurd (omega (arith, some))
numbered since (suc k) some = refl

module _ (told_calls : CallsFailAsTold) (links : LinksHold) (apart : AreApart) (law : RecordsAreBodies) (images : ChosenAreImages) (base : List ℕ) (old t : MemSite) (last k : ℕ) (made : List Made)
    (K : IsMarked last old) (told : IsToldOf (calls.Fail k) old) (least : 1 ≤ k) (most : k ≤ all_calls) (adds : Adds made old t) where
  abbrev o : Files
  o = opening_in old.device

  abbrev log : List Made
  log = calls_in old.device

  abbrev since : ℕ
  since = length log

  armed : (told_of t).counts.arming ≡ (told_of old).counts.arming → AreArmed since (since + k) made
  armed kept = subst (λ z. AreArmed since z made) (numbered since k least) (armed_row told_calls links old t made (call_number since k) told kept adds)

  -- not all of them were done
  pub whole_not : (n : Node) → Begins base (Ok n) old t → ⊥
  whole_not n B =
      let L : LeavesStart old t = starts_leave apart law images base n old t last K B in
      let six = syncs ++ append_calls L.file L.end L.body in
      let is : made ≡ map done six = adds.calls ∙ L.calls in
      not_all since (since + k) (map done six) (subst (λ z. AreArmed since (since + k) z) is (armed (ap (λ (z : Numbers). z.arming) B.0.counted.others))) (all_map_done six) (omega (arith, least)) (omega (arith, most))

  module _ (C : CannotStart ends.Disk 4294967295 (told_of old) (told_of t)) where
    grown : calls_in t.device ≡ log ++ C.made
    grown = same_some (calls_in t.device) (log ++ C.made) C.grown

    made_is : made ≡ C.made
    made_is = adds.calls ∙ ap (drop since) grown ∙ drop-append_seam log C.made

    one : Rose old.tally.disk t.tally.disk ⊎ Rose old.tally.gate t.tally.gate → 1 ≤ refusals made
    one (inl r) = let a = adds.refused in let b = adds.below in omega (arith, r, a, b)
    one (inr r) = let a = adds.raised in let b = adds.under in omega (arith, r, a, b)

    some : 1 ≤ refusals C.made
    some = subst (λ z. 1 ≤ refusals z) made_is (one C.cause)

    row : AreArmed since (since + k) C.made
    row = subst (λ z. AreArmed since (since + k) z) made_is (armed (ap (λ (z : Numbers). z.arming) C.counted.others))

    abbrev Left : Type 0
    Left = Stood last (stands_failed (k - 2)) (chosen_files Keep o (log ++ C.made))

    -- at one of the first two
    at_sync : BreaksOff syncs C.made → Left
    at_sync off =
        let b = broken since k syncs C.made off row some in
        let long = ap length b.split ∙ length-append b.front (b.call ∷ b.rest) in
        let place = b.place in
        let early_k : k - 1 ≤ 1 = omega (arith, long, place) in
        let none : k - 2 ≡ 0 = omega (arith, long, place) in
        subst (λ z. Stood last z (chosen_files Keep o (log ++ C.made))) (sym (ap (λ n. stands_failed n) none))
        (subst (Stood last false) (sym (broken_files k o log syncs C.made b)) (early images last old K (k - 1) Keep early_k))

    -- or behind reading
    at_start : BeganTo (λ cs. BreaksOff cs C.made) (told_of old) → Left
    at_start B =
        let G : Ground last old = ground apart images old last K B.bare B.version B.rs B.journal B.file B.was B.behind B.least in
        let bare = plain apart images old last K B.bare B.version B.rs B.journal B.file B.was B.behind B.least in
        let version = two apart images old last K B.bare B.version B.rs B.journal B.file B.was B.behind B.least in
        let off : BreaksOff (start_calls false Two B.rs B.journal B.file) C.made = subst (λ v. BreaksOff (start_calls false v B.rs B.journal B.file) C.made) version
        (subst (λ b. BreaksOff (start_calls b B.version B.rs B.journal B.file) C.made) bare B.ended) in
        subst (λ z. Stood last z (chosen_files Keep o (log ++ C.made))) (sym (fails_at k least most))
        (subst (Stood last (stands_behind (k - 1 - 2) Keep)) (sym (broken_files k o log (start_calls false Two B.rs B.journal B.file) C.made (broken since k _ C.made off row some)))
        (stood images last old K law (ground apart images old last K B.bare B.version B.rs B.journal B.file B.was B.behind B.least) (k - 1) Keep))

    left : FailsAt C.made (told_of old) ⊎ BeganTo (λ cs. BreaksOff cs C.made) (told_of old) → Left
    left (inl (sync off)) = at_sync off
    left (inl (read e)) = let none = all_refused_none C.made (subst AllDone (sym e) (all_map_done syncs)) in let least_one = some in absurd (omega (arith, none, least_one))
    left (inl (gate empty off)) =
        let f = read_in old in
        let (qs, stands, same) = K.stands f (images Keep o log) in
        let bare : StandFor One [] f = record { texts = []; is = empty f refl; are = tt } in
        let e : One ≡ Two = version_one f One Two [] qs bare stands in
        absurd cc
    left (inr B) = at_start B

    module _ (new : MemSite) (F : FellBack old t (length made) Keep new) where
      read_then : read_in new ≡ chosen_files Keep o (log ++ C.made)
      read_then =
          let long = ap length made_is in
          same_some _ _ (comes_on Keep F.mid new F.left).files
          ∙ (λ i. chosen_files Keep ((F.back.opening ∙ opening_kept old t _ C.time) i)
          ((F.back.calls_are ∙ ap (take (since + length made)) grown ∙ take_behind (length made) since (since + length made) log C.made refl refl
          ∙ ap (λ z. log ++ z) (take_all (length made) C.made (omega (arith, long)))) i))

      its : Stood last (stands_failed (k - 2)) (read_in new)
      its = subst (Stood last (stands_failed (k - 2))) (sym read_then) (left C.ends)

    pub leaves : LeavesFailed k made old t
    leaves = record {
      stands = λ new F. is_standing images last old K apart (stands_failed (k - 2)) new (its new F);
      rose = λ new before behind F was is. rose images last old K apart (stands_failed (k - 2)) new (its new F) before behind was is;
    }

pub failed_starts_leave : CallsFailAsTold → LinksHold → AreApart → RecordsAreBodies → ChosenAreImages → FailedStartsLeave
failed_starts_leave told_calls links apart law images base (Ok n) old t last k made K told least most B begun adds =
    absurd (whole_not told_calls links apart law images base old t last k made K told least most adds n B)
failed_starts_leave told_calls links apart law images base (Err ends.Disk) old t last k made K told least most B begun adds =
    leaves told_calls links apart law images base old t last k made K told least most adds B
failed_starts_leave told_calls links apart law images base (Err ends.NoMemory) old t last k made K told least most B begun adds = absurd (true≢false (sym begun))
failed_starts_leave told_calls links apart law images base (Err (ends.Bad file place)) old t last k made K told least most B begun adds = absurd (true≢false (sym begun))
failed_starts_leave told_calls links apart law images base (Err ends.NoJournal) old t last k made K told least most B begun adds = absurd (true≢false (sym begun))
failed_starts_leave told_calls links apart law images base (Err ends.Spent) old t last k made K told least most B begun adds = absurd (true≢false (sym begun))
failed_starts_leave told_calls links apart law images base (Err ends.Full) old t last k made K told least most B begun adds = absurd (true≢false (sym begun))
