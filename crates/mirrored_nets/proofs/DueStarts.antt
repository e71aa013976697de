-- A start fails for want of memory or by the disk alone, where a node can begin.
use Rattle.std.specs.Prelude.{ℕ, List, [], ◌∷◌, ◌++◌, ◌+◌, ◌≡◌, ◌≤◌, ◌<◌, length, zero, suc}
use Rattle.std.proofs.Common.{refl, sym, ap, subst, arith, ◌∙◌, inl, inr}
use Rattle.std.proofs.lemmas.List.{length-append}
use Rattle.at_base.specs.declared.record.Record.{Record}
use Rattle.at_base.specs.declared.record.Record.TheVariants as records
use Rattle.at_model.specs.Recovery.{last_incarnation}
use Rattle.at_model.specs.World.{Node as Known, example_hosts}
use Rattle.decision_log.specs.Folds.{AreRecords}
use Rattle.deliverables.specs.Bases.{ExamplesAreNodeBases}
use Rattle.deliveries.specs.ByteNets.{ServeAsNets}
use Rattle.mirrored_nets.proofs.RecordFrames.{end_is}
use Rattle.journal_at.specs.Format.{Closed, frames}
use Rattle.journal_at.specs.Scans.{records_in}
use Rattle.journal_at.specs.declared.version.Version.{Version}
use Rattle.journal_at.specs.declared.version.Version.TheVariants.{One, Two}
use Rattle.journal_at.proofs.Frames.{four}
use Rattle.memory_net.specs.Stands.{Holds}
use Rattle.memory_net.proofs.Standing.{same_some}
use Rattle.node_at.specs.Sizes.{end_of, framed_all, size_of}
use Rattle.node_at.specs.Starts.{Found, IsCause, IsNoRecord, StandFor, carried, start_after, started}
use Rattle.node_at.specs.declared.fault.StartFault.{StartFault}
use Rattle.node_at.specs.declared.fault.StartFault.TheVariants.{Bad, Disk, Full, NoJournal, NoMemory, Spent}
use Rattle.node_worlds.specs.Crashes.{CrashesAreMet}
use Rattle.node_worlds.specs.Restarts.{StandsFor}
use Rattle.node_worlds.proofs.NetWorlds.{same_last}
use Rattle.node_worlds.proofs.Restarts.{restarts}
use Rattle.record_bytes.specs.Versions.{AreApart}
use Rattle.site_memory.specs.Devices.{calls_in, opening_in}
use Rattle.site_memory.specs.Sites.{told_of}
use Rattle.site_memory.specs.Tells.{reads}
use Rattle.site_memory.specs.declared.machine.MemSite.{MemSite}
use Rattle.site_memory.specs.declared.range.Which.TheVariants.{First, Second}
use Rattle.site_memory.proofs.Images.{seen_image}
use Rattle.site_model.specs.Told.{Files, file_of}
use Rattle.mirrored_nets.specs.DueStarts.{CanBegin, DownCanBegin, IsWant, StandSo, StartsFailForWant}
use Rattle.mirrored_nets.specs.Goings.{IsSet}
use Rattle.mirrored_nets.specs.Mirrors.{IsOfTwo}
use Rattle.mirrored_nets.specs.Took.{HasRoom}
use Rattle.mirrored_nets.proofs.LeftStarts.{two_closed}
use Rattle.mirrored_nets.proofs.OneStanding.{found_one, version_one}
use Rattle.mirrored_nets.proofs.ReadRecords.{not_foreign, not_judged, not_misspelled, records_read}

-- a file is as long as its bodies and their gate at least
closed_long : (bodies : List (List ℕ)) (f : List ℕ) → Closed bodies f → length (frames bodies) + 1 ≤ length f
closed_long bodies f h =
    let a = length-append (frames bodies) (h.gate ∷ h.rest) in
    let b = ap length h.is in
    omega (arith, a, b)

either_file : (live most : ℕ) (f : Files) → length f.first ≤ most → length f.second ≤ most → length (file_of live f) ≤ most
either_file zero most f h k = h
either_file (suc n) most f h k = k

-- The records with the Start take few bytes more than the files.
framed_push : (rs : List Record) (n : ℕ) → framed_all (rs ++ records.Start n ∷ []) ≡ framed_all rs + 10
framed_push [] n = let k = four n in omega (arith, k)
framed_push (r ∷ rs) n = let h = framed_push rs n in omega (arith, h)

push_long : (rs : List Record) → size_of (rs ++ start_after rs ∷ []) ≡ end_of rs + 11
push_long rs = let a = framed_push rs (last_incarnation rs + 1) in omega (arith, a)

two_fits : (rs : List Record) (s : MemSite) → StandFor Two rs (reads (opening_in s.device) (calls_in s.device)) → HasRoom s → size_of (started Two rs) ≤ 4294967295
two_fits rs s h room =
    let f : Files = reads (opening_in s.device) (calls_in s.device) in
    let first = room.first in
    let second = room.second in
    let most : length (file_of h.is.live f) ≤ 4293907285 = either_file h.is.live 4293907285 f (omega (arith, first)) (omega (arith, second)) in
    let long = closed_long h.is.bodies (file_of h.is.live f) (two_closed (file_of h.is.live f) h.is.bodies h.is.versions h.is.is) in
    let end = end_is h.is.bodies rs h.is.versions (subst (AreRecords Two rs) (sym h.is.all) h.are) in
    let push = push_long rs in
    omega (arith, most, long, end, push)

none_fits : size_of (started One []) ≤ 4294967295
none_fits =
    let none : carried One [] ≡ [] = refl in
    let a = ap (λ (rs : List Record). size_of (rs ++ start_after [] ∷ [])) none in
    let b = push_long [] in
    omega (arith, a, b)

-- what the files of a machine stand for
stand_version : (rs : List Record) (f : Files) → StandSo rs f → (version : Version) × StandFor version rs f
stand_version rs f (inl h) = (Two, h)
stand_version rs f (inr (none, h)) = (One, subst (λ z. StandFor One z f) (sym none) h)

module _ (apart : AreApart) (old : MemSite) (can : CanBegin old) where
  abbrev f : Files
  f = reads (opening_in old.device) (calls_in old.device)

  known : (version : Version) × StandFor version can.records f
  known = stand_version can.records f can.stand

  same : (version : Version) (rs : List Record) → Found version rs (told_of old) → rs ≡ can.records
  same version rs found = found_one apart f version known.0 rs can.records (found.is f refl) known.1

  not_spent : (version : Version) (rs : List Record) → Found version rs (told_of old) → last_incarnation rs ≡ 4294967295 → ⊥
  not_spent version rs found spent =
      let e = ap last_incarnation (same version rs found) in
      let least = can.least in
      omega (arith, e, least, spent)

  fits : (version : Version) (rs : List Record) → StandFor version rs f → StandSo rs f → size_of (started version rs) ≤ 4294967295
  fits version rs h (inl two) = subst (λ v. size_of (started v rs) ≤ 4294967295) (version_one f Two version rs rs two h) (two_fits rs old two can.room)
  fits version rs h (inr (none, one)) =
      subst (λ (z : List Record). size_of (started version z) ≤ 4294967295) (sym none)
      (subst (λ v. size_of (started v []) ≤ 4294967295) (version_one f One version [] rs one h) none_fits)

  not_full : (version : Version) (rs : List Record) → Found version rs (told_of old) → 4294967295 < size_of (started version rs) → ⊥
  not_full version rs found full =
      let most = fits version rs (found.is f refl) (subst (λ (z : List Record). StandSo z f) (sym (same version rs found)) can.stand) in
      omega (arith, most, full)

  not_record : (file place : ℕ) (t : MemSite) → IsNoRecord file place (told_of old) (told_of t) → ⊥
  not_record file place t h =
      not_misspelled h.found can.records place (records_read f known.0 h.found.version can.records (records_in h.found) known.1 (h.is f refl)) h.bad

  wants : (fault : StartFault) (t : MemSite) → IsCause fault 4294967295 (told_of old) (told_of t) → IsWant fault
  wants NoMemory t h = tt
  wants Disk t h = tt
  wants (Bad file place) t (inl judged) = not_judged f known.0 known.1.texts file place known.1.is (judged f refl)
  wants (Bad file place) t (inr none) = not_record file place t none
  wants NoJournal t foreign = not_foreign f known.0 known.1.texts known.1.is (foreign f refl)
  wants Spent t (version, rs, found, spent) = not_spent version rs found spent
  wants Full t (version, rs, found, least, full) = not_full version rs found full

pub starts_fail_for_want : AreApart → StartsFailForWant
starts_fail_for_want apart base fault old t can B = wants apart old can fault t B.cause

-- the machine when it is set for a start
pub same_begin : (now : ℕ) (site old : MemSite) → IsSet now site old → CanBegin site → CanBegin old
same_begin now site old set can = record {
  records = can.records;
  stand = subst (StandSo can.records) files can.stand;
  least = can.least;
  room = record {
    first = subst (λ (f : Files). length f.first + 1060010 ≤ 4294967295) files can.room.first;
    second = subst (λ (f : Files). length f.second + 1060010 ≤ 4294967295) files can.room.second;
  };
}
  where
    files : reads (opening_in site.device) (calls_in site.device) ≡ reads (opening_in old.device) (calls_in old.device)
    files = ap (λ o. reads o (calls_in site.device)) (sym set.opening) ∙ ap (reads (opening_in old.device)) (sym set.calls)

-- the files of a node that is down
pub down_can_begin : AreApart → ExamplesAreNodeBases → ServeAsNets told_of → CrashesAreMet told_of → DownCanBegin
down_can_begin apart bases nets crashes count hosts clocks mails w i h x few M here down known left room = by (M.of_two i h hold.place here down hold.here f image)
  where
    hold : Holds M.stands.net M.stands.sites i h
    hold = M.stands.holds i h here

    f : Files
    f = reads (opening_in h.site.device) (calls_in h.site.device)

    image : (told_of h.site).images f
    image = (seen_image First (opening_in h.site.device) (calls_in h.site.device), seen_image Second (opening_in h.site.device) (calls_in h.site.device))

    few_left : last_incarnation hold.place.records < 4294967295
    few_left =
        let (y, found, stands) = M.world.nodes i hold.place hold.here in
        let same = ap last_incarnation (sym (ap (λ (z : Known). z.journal) (same_some x y (sym known ∙ found)) ∙ stands.journal)) in
        omega (arith, same, left)

    stands : StandsFor hold.place.records f
    stands =
        crashes.between (example_hosts count) M.stands.net M.stands.sites i hold.place f
        (nets (example_hosts count) M.stands.net M.stands.sites (λ k number. bases k (omega (arith, number.1, few))) M.stands.serves).runs hold.here
        (subst (λ (z : MemSite). (told_of z).images f) (sym hold.site) image)

    by : IsOfTwo hold.place.records f → CanBegin h.site
    by (inl (qs, h)) =
        let same = same_last qs hold.place.records (restarts apart f Two qs hold.place.records h stands) in
        record { records = qs; stand = inl h; least = omega (arith, same, few_left); room = room }
    by (inr (none, h)) = record { records = []; stand = inr (refl, h); least = omega arith; room = room }
