-- A start for which there was memory: it made all its calls, or they end in the one that failed.
use Rattle.std.specs.Prelude.{ℕ, List, [], ◌∷◌, ◌++◌, ◌+◌, ◌≡◌, ◌≤◌, ◌<◌, ◌⊎◌, Bool, true, false, Err, Ok, Result, drop, if◌then◌else◌, length, map, nat_eq, not, suc}
use Rattle.std.proofs.Common.{ap, arith, inl, inr, refl, subst, sym, ◌∙◌}
use Rattle.std.proofs.lemmas.Bool.{ne_eqb}
use Rattle.std.proofs.Math.Seq.{drop-append_seam}
use Rattle.at_base.specs.declared.record.Record.{Record}
use Rattle.at_model.specs.Recovery.{last_incarnation}
use Rattle.journal_at.specs.Format.{frames}
use Rattle.journal_at.specs.Loads.{FailsAt, shuts, syncs}
use Rattle.journal_at.specs.Loads.FailsAt.{sync, read, gate}
use Rattle.journal_at.specs.Pairs.{FilesOf}
use Rattle.journal_at.specs.declared.journal.Journal.{Journal}
use Rattle.journal_at.specs.declared.version.Version.{Version}
use Rattle.journal_at.specs.declared.version.Version.TheVariants.{One, Two}
use Rattle.mirrored_nets.specs.DueStarts.{CanBegin, StandSo, StartsFailForWant}
use Rattle.mirrored_nets.specs.Fates.{AllDone, refusals}
use Rattle.mirrored_nets.proofs.AnewCalls.{each_done}
use Rattle.mirrored_nets.proofs.CallRows.{all_refused_none}
use Rattle.mirrored_nets.proofs.LeftFiles.{opening_kept}
use Rattle.mirrored_nets.proofs.OneStanding.{version_one}
use Rattle.mirrored_nets.proofs.StoodStarts.{read_in}
use Rattle.mirrored_nets.proofs.ToldMachines.{armed_row}
use Rattle.node_at.specs.StartedNodes.{IsStarted}
use Rattle.node_at.specs.Starts.{BeganTo, CannotStart, IsJournalBehind, IsLiveBehind, start_calls}
use Rattle.node_at.specs.State.{seen}
use Rattle.node_at.specs.declared.fault.StartFault.{StartFault}
use Rattle.node_at.specs.declared.fault.StartFault.TheVariants as faults
use Rattle.node_at.specs.declared.node.Node.{Node}
use Rattle.site_memory.specs.Devices.{calls_in, opening_in}
use Rattle.site_memory.specs.Sites.{told_of}
use Rattle.site_memory.specs.ToldCalls.{AreArmed, CallsFailAsTold, LinksHold}
use Rattle.site_memory.specs.declared.machine.MemSite.{MemSite}
use Rattle.site_model.specs.Counts.{Rose}
use Rattle.site_model.specs.Site.{Counts as Numbers}
use Rattle.site_model.specs.Told.{BreaksOff, Call, Files, Made, done}
use Rattle.determined_nodes.specs.StartsAreDetermined.{HasBegun, HasLeft, IsTried, StartsFrom}
use Rattle.determined_nodes.proofs.ArmedRows.{breaks_cut, cut, whole_cut}
use Rattle.determined_nodes.proofs.ReadJournals.{ReadOf, StartRow, bodiless_live, read_of}
use Rattle.determined_nodes.proofs.RenewedJournals.{same_calls}

-- how far a start came that failed: a sync of both files, a first gate, or its whole row
pub data Stage (f : Files) (row : List Call) : Type 0 where
  at_sync : row ≡ syncs → Stage f row
  at_gate : row ≡ syncs ++ shuts → ((bare : Bool) (version : Version) (rs : List Record) (j : Journal) → ReadOf f bare version rs j → bare ≡ true) → Stage f row
  at_row : StartRow f row → Stage f row

-- Behind so many calls.
pub data StartedSo (since fails : ℕ) (f : Files) (made : List Made) (result : Result Node StartFault) : Type 0 where
  up : (n : Node) → result ≡ Ok n → (row : List Call) → StartRow f row → made ≡ cut since fails row → refusals made ≡ 0 → StartedSo since fails f made result
  down : result ≡ Err faults.Disk → (row : List Call) → Stage f row → ((more : List Call) → made ≡ cut since fails (row ++ more)) → 1 ≤ refusals made → StartedSo since fails f made result

-- a start as it went
pub record DidStart (since fails : ℕ) (result : Result Node StartFault) (old new : MemSite) (made : List Made) : Type 0 where
  pub went : StartedSo since fails (read_in old) made result
  pub grown : calls_in new.device ≡ calls_in old.device ++ made
  pub opening : opening_in new.device ≡ opening_in old.device
  pub arming : (told_of new).counts.arming ≡ (told_of old).counts.arming

-- the Start goes into the file that is live
pub into_live : (since fails : ℕ) (f : Files) (bare : Bool) (version : Version) (rs : List Record) (j : Journal) (file : ℕ) → StartsFrom since fails f → ReadOf f bare version rs j → IsLiveBehind version j file
    → file ≡ j.live
into_live since fails f bare Two rs j file from was h = h
into_live since fails f bare One rs j file (inl (qs, stands)) was h = absurd (let e : One ≡ Two = version_one f One Two rs qs was.stand stands in cc)
into_live since fails f bare One rs j file (inr ((first, second, new), so)) was h =
    let (live, none) = bodiless_live f j.live was.bodies first second was.live in h (was.end ∙ ap (λ z. length (frames z)) none)

-- and whether the other one's first gate is to be shut stays
pub still_unshut : (since fails : ℕ) (f : Files) (bare : Bool) (version : Version) (rs : List Record) (j k : Journal) → StartsFrom since fails f → ReadOf f bare version rs j → IsJournalBehind version j k → k.unshut ≡ j.unshut
still_unshut since fails f bare Two rs j k from was h = h.unshut
still_unshut since fails f bare One rs j k (inl (qs, stands)) was h = absurd (let e : One ≡ Two = version_one f One Two rs qs was.stand stands in cc)
still_unshut since fails f bare One rs j k (inr ((first, second, new), so)) was h =
    let (live, none) = bodiless_live f j.live was.bodies first second was.live in (h.0 (was.end ∙ ap (λ z. length (frames z)) none)).unshut

-- Where none of the two calls fails that write a first gate, one before them did.
abbrev two_by : Bool → Bool → List Made → List Made
two_by a b rest = record { call = Call.Sync 0; done = not a } ∷ (if not a then record { call = Call.Sync 1; done = not b } ∷ (if not b then rest else []) else [])

none_at : (k fails : ℕ) → (fails ≡ k → ⊥) → nat_eq k fails ≡ false
none_at k fails other = ne_eqb k fails (λ e. other (sym e))

in_syncs : (since fails : ℕ) (made : List Made) → (fails ≡ since + 3 → ⊥) → (fails ≡ since + 4 → ⊥) → ((more : List Call) → made ≡ cut since fails ((syncs ++ shuts) ++ more)) → 1 ≤ refusals made → (more : List Call)
    → made ≡ cut since fails (syncs ++ more)
in_syncs since fails made third fourth e some more = by (nat_eq (suc since) fails) (nat_eq (suc (suc since)) fails) refl refl
  where
    gate_calls : cut (suc (suc since)) fails (shuts ++ []) ≡ map done shuts
    gate_calls =
        let a = none_at (suc (suc (suc since))) fails (λ f. third (omega (arith, f))) in
        let b = none_at (suc (suc (suc (suc since)))) fails (λ f. fourth (omega (arith, f))) in
        λ i. record { call = Call.Write 0 0 (0 ∷ []); done = not (a i) } ∷ (if not (a i) then record { call = Call.Sync 0; done = not (b i) } ∷ (if not (b i) then [] else []) else [])

    whole : (a b : Bool) → nat_eq (suc since) fails ≡ a → nat_eq (suc (suc since)) fails ≡ b → (rest : List Call) → cut since fails (syncs ++ rest) ≡ two_by a b (cut (suc (suc since)) fails rest)
    whole a b f g rest = λ i. two_by (f i) (g i) (cut (suc (suc since)) fails rest)

    by : (a b : Bool) → nat_eq (suc since) fails ≡ a → nat_eq (suc (suc since)) fails ≡ b → made ≡ cut since fails (syncs ++ more)
    by true b f g = e [] ∙ whole true b f g (shuts ++ []) ∙ sym (whole true b f g more)
    by false true f g = e [] ∙ whole false true f g (shuts ++ []) ∙ sym (whole false true f g more)
    by false false f g =
        let all : made ≡ map done (syncs ++ shuts) = e [] ∙ whole false false f g (shuts ++ []) ∙ ap (two_by false false) gate_calls in
        let none = all_refused_none made (subst AllDone (sym all) (each_done (syncs ++ shuts))) in
        absurd (omega (arith, none, some))

module _ (hold : LinksHold) (fail : CallsFailAsTold) (want : StartsFailForWant) (base : List ℕ) (fails : ℕ) (old new : MemSite) (made : List Made) where
  abbrev since : ℕ
  since = length (calls_in old.device)

  abbrev f : Files
  f = read_in old

  added : (more : List Made) → calls_in new.device ≡ calls_in old.device ++ more → made ≡ drop since (calls_in new.device) → made ≡ more
  added more e is = is ∙ ap (drop since) e ∙ drop-append_seam (calls_in old.device) more

  -- it came up
  module _ (n : Node) (H : HasBegun base fails (Ok n) old new made) where
    abbrev S : IsStarted base 4294967295 (seen n) (told_of old) (told_of new)
    S = H.begins.0

    abbrev row : List Call
    row = start_calls S.bare S.version S.rs S.journal n.journal.live

    up_calls : calls_in new.device ≡ calls_in old.device ++ map done row
    up_calls = same_calls (calls_in new.device) (calls_in old.device ++ map done row) S.grown

    up_made : made ≡ map done row
    up_made = added (map done row) up_calls H.adds.calls

    kept_up : (told_of new).counts.arming ≡ (told_of old).counts.arming
    kept_up = ap (λ (z : Numbers). z.arming) S.counted.others

    abbrev was_up : ReadOf f S.bare S.version S.rs S.journal
    was_up = read_of S.bare S.version S.rs S.journal old S.was

    went_up : DidStart since fails (Ok n) old new made
    went_up = record {
      went = StartedSo.up n refl row (record {
        bare = S.bare;
        version = S.version;
        records = S.rs;
        journal = S.journal;
        file = n.journal.live;
        was = was_up;
        goes_into = into_live since fails f S.bare S.version S.rs S.journal n.journal.live H.from was_up S.live;
        is = refl;
      }) (whole_cut since fails row made up_made (armed_row fail hold old new made fails H.told kept_up H.adds)) (all_refused_none made (subst AllDone (sym up_made) (each_done row)));
      grown = up_calls ∙ ap (λ z. calls_in old.device ++ z) (sym up_made);
      opening = opening_kept old new _ S.time;
      arming = kept_up;
    }

  -- the disk failed
  module _ (H : HasBegun base fails (Err faults.Disk) old new made) (C : CannotStart faults.Disk 4294967295 (told_of old) (told_of new)) where
    down_calls : calls_in new.device ≡ calls_in old.device ++ C.made
    down_calls = same_calls (calls_in new.device) (calls_in old.device ++ C.made) C.grown

    down_made : made ≡ C.made
    down_made = added C.made down_calls H.adds.calls

    kept_down : (told_of new).counts.arming ≡ (told_of old).counts.arming
    kept_down = ap (λ (z : Numbers). z.arming) C.counted.others

    armed : AreArmed since fails made
    armed = armed_row fail hold old new made fails H.told kept_down H.adds

    some_by : Rose old.tally.disk new.tally.disk ⊎ Rose old.tally.gate new.tally.gate → 1 ≤ refusals made
    some_by (inl r) = let a = H.adds.refused in let b = H.adds.below in omega (arith, r, a, b)
    some_by (inr r) = let a = H.adds.raised in let b = H.adds.under in omega (arith, r, a, b)

    some : 1 ≤ refusals made
    some = some_by C.cause

    off : (row : List Call) → BreaksOff row C.made → (more : List Call) → made ≡ cut since fails (row ++ more)
    off row b more = breaks_cut since fails row more made (subst (BreaksOff row) (sym down_made) b) some armed

    gated : FilesOf f One [] → BreaksOff (syncs ++ shuts) C.made → StartsFrom since fails f → StartedSo since fails f made (Err faults.Disk)
    gated empty b (inl (qs, stands)) = absurd (let e : One ≡ Two = version_one f One Two [] qs (record { texts = []; is = empty; are = tt }) stands in cc)
    gated empty b (inr ((first, second, new), inl short)) =
        StartedSo.down refl (syncs ++ shuts) (Stage.at_gate refl (λ bare version rs j was. was.when.1 ((bodiless_live f j.live was.bodies first second was.live).0, short))) (off (syncs ++ shuts) b) some
    gated empty b (inr ((first, second, new), inr (third, fourth))) = StartedSo.down refl syncs (Stage.at_sync refl) (in_syncs since fails made third fourth (off (syncs ++ shuts) b) some) some

    stage : FailsAt C.made (told_of old) ⊎ BeganTo (λ calls. BreaksOff calls C.made) (told_of old) → StartedSo since fails f made (Err faults.Disk)
    stage (inl (sync b)) = StartedSo.down refl syncs (Stage.at_sync refl) (off syncs b) some
    stage (inl (read e)) = absurd (let none = all_refused_none made (subst AllDone (sym (down_made ∙ e)) (each_done syncs)) in let one = some in omega (arith, none, one))
    stage (inl (gate empty b)) = gated (empty f refl) b H.from
    stage (inr B) =
        let was = read_of B.bare B.version B.rs B.journal old B.was in
        StartedSo.down refl (start_calls B.bare B.version B.rs B.journal B.file) (Stage.at_row (record {
          bare = B.bare;
          version = B.version;
          records = B.rs;
          journal = B.journal;
          file = B.file;
          was = was;
          goes_into = into_live since fails f B.bare B.version B.rs B.journal B.file H.from was B.behind;
          is = refl;
        })) (off (start_calls B.bare B.version B.rs B.journal B.file) B.ended) some

    went_down : DidStart since fails (Err faults.Disk) old new made
    went_down = record {
      went = stage C.ends;
      grown = down_calls ∙ ap (λ z. calls_in old.device ++ z) (sym down_made);
      opening = opening_kept old new _ C.time;
      arming = kept_down;
    }

  stands_so : StartsFrom since fails f → HasLeft f → (rs : List Record) × StandSo rs f × (last_incarnation rs < 4294967295)
  stands_so (inl (rs, stands)) left = (rs, inl stands, left Two rs stands)
  stands_so (inr ((first, second, new), so)) left = ([], inr (refl, record { texts = []; is = empty; are = tt }), omega arith)
    where
      empty : FilesOf f One []
      empty = record { live = 0; bodies = []; others = []; is = first; other = second; newer = omega arith; journal = new; versions = refl; all = refl }

  can : (result : Result Node StartFault) → HasBegun base fails result old new made → HasLeft f → CanBegin old
  can result H left = let (rs, stands, least) = stands_so H.from left in record { records = rs; stand = stands; least = least; room = H.room }

  -- where it was neither done nor failed by the disk, there was memory and incarnations were left
  untried : (fault : StartFault) → (IsTried (Err fault) → ⊥) → HasBegun base fails (Err fault) old new made → HasLeft f × (◌≡◌ {A = Result Node StartFault} (Err fault) (Err faults.NoMemory) → ⊥)
  untried fault none H = by H.ends
    where
      by : IsTried (Err fault) ⊎ (HasLeft f × (◌≡◌ {A = Result Node StartFault} (Err fault) (Err faults.NoMemory) → ⊥)) → HasLeft f × (◌≡◌ {A = Result Node StartFault} (Err fault) (Err faults.NoMemory) → ⊥)
      by (inl tried) = absurd (none tried)
      by (inr so) = so

  pub did_start : (result : Result Node StartFault) → HasBegun base fails result old new made → DidStart since fails result old new made
  did_start (Ok n) H = went_up n H
  did_start (Err faults.Disk) H = went_down H H.begins
  did_start (Err faults.NoMemory) H = absurd ((untried faults.NoMemory (λ tried. tried) H).1 refl)
  did_start (Err (faults.Bad file place)) H =
      absurd (want base (faults.Bad file place) old new (can (Err (faults.Bad file place)) H (untried (faults.Bad file place) (λ tried. tried) H).0) H.begins)
  did_start (Err faults.NoJournal) H = absurd (want base faults.NoJournal old new (can (Err faults.NoJournal) H (untried faults.NoJournal (λ tried. tried) H).0) H.begins)
  did_start (Err faults.Spent) H = absurd (want base faults.Spent old new (can (Err faults.Spent) H (untried faults.Spent (λ tried. tried) H).0) H.begins)
  did_start (Err faults.Full) H = absurd (want base faults.Full old new (can (Err faults.Full) H (untried faults.Full (λ tried. tried) H).0) H.begins)
