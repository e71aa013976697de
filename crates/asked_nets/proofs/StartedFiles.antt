-- Nodes that start: what their machines' files stand for, and as what their calls are read.
use Rattle.std.specs.Prelude.{ℕ, List, [], ◌-◌, ◌<◌, ◌≡◌, ◌≤◌, ◌⊎◌, Bool, Err, None, Ok, Option, Result, Some, false, if◌then◌else◌, length, map, nat_eq, nat_lt, suc, true, zero, ◌||◌}
use Rattle.std.proofs.Common.{ap, arith, inl, inr, refl, subst, sym, ◌∙◌}
use Rattle.std.proofs.lemmas.Bool.{eqb-false, eqb-true, ltb-false, ltb-true}
use Rattle.at_model.specs.Recovery.{last_incarnation}
use Rattle.at_model.specs.World.{World, example_hosts, nth}
use Rattle.decision_log.specs.ShrunkJournals.{ShrinksTheSame}
use Rattle.deliverables.specs.Bases.{ExamplesAreNodeBases}
use Rattle.deliveries.specs.ByteNets.{ServeAsNets}
use Rattle.memory_net.specs.Mails.{mail_of}
use Rattle.memory_net.specs.Stands.{Holds}
use Rattle.memory_net.specs.declared.host.Host.{Host}
use Rattle.node_at.specs.declared.fault.StartFault.{StartFault}
use Rattle.node_at.specs.declared.fault.StartFault.TheVariants as ends
use Rattle.node_at.specs.declared.node.Node.{Node}
use Rattle.node_worlds.specs.Crashes.{CrashesAreMet}
use Rattle.node_worlds.specs.Restarts.{StandsFor}
use Rattle.journal_at.specs.declared.version.Version.TheVariants.{One, Two}
use Rattle.node_at.specs.Starts.{carried}
use Rattle.node_worlds.proofs.NetWorlds.{carried_last, same_last}
use Rattle.node_worlds.proofs.Restarts.{restarts}
use Rattle.record_bytes.specs.Versions.{AreApart}
use Rattle.site_memory.specs.Devices.{calls_in, opening_in}
use Rattle.site_memory.specs.Disk.{ChosenAreImages}
use Rattle.site_memory.specs.Sites.{told_of}
use Rattle.site_memory.specs.Tells.{reads}
use Rattle.site_memory.specs.ToldCalls.{CallsFailAsTold, LinksHold}
use Rattle.site_memory.specs.declared.arm.Choice.{Choice}
use Rattle.site_memory.specs.declared.arm.Choice.TheVariants.{Keep}
use Rattle.site_memory.specs.declared.machine.MemSite.{MemSite}
use Rattle.site_memory.specs.declared.range.Which.TheVariants.{First, Second}
use Rattle.site_memory.proofs.Images.{seen_image}
use Rattle.site_model.specs.Told.{Made}
use Rattle.torn_appends.specs.TornAppends.{stands_behind}
use Rattle.mirrored_nets.specs.Kept.{kept_at}
use Rattle.mirrored_nets.specs.DueStarts.{CanBegin, DownCanBegin, StandSo}
use Rattle.mirrored_nets.specs.Goings.{IsSet}
use Rattle.mirrored_nets.specs.Seen.{Seen}
use Rattle.mirrored_nets.specs.Took.{HasRoom}
use Rattle.mirrored_nets.specs.LeftStarts.{DownAreMarked, FailedStartsLeave, IsMarked, IsStanding, StartsLeave}
use Rattle.mirrored_nets.specs.declared.armed.Armed.{Armed}
use Rattle.mirrored_nets.specs.declared.armed.Armed.TheVariants as arms
use Rattle.call_readings.specs.Reads.{IsCutAt, IsUncut}
use Rattle.call_readings.specs.ReadsStart.{LandsBy, LandsSo, ReadsStart, StartsAs}
use Rattle.call_readings.specs.declared.became.Became.{Became}
use Rattle.call_readings.specs.declared.became.Became.TheVariants as becomes
use Rattle.mirrored_nets.proofs.StartFaults.{same_marked}
use Rattle.reading_laws.proofs.ReadStarts.{failed_read, up_read}
use Rattle.asked_nets.specs.BegunFiles.{BegunAreMarked, TriedAreRead}
use Rattle.asked_nets.specs.Happened.{HasIncarnations, MirrorsAt}
use Rattle.asked_nets.specs.ReadSteps.{HasBegun, IsTold}
use Rattle.asked_nets.specs.Stops.{stop_in}

pub begun_are_marked : AreApart → ExamplesAreNodeBases → ServeAsNets told_of → CrashesAreMet told_of → ShrinksTheSame → DownAreMarked → BegunAreMarked
begun_are_marked apart bases nets crashes shrinks marked count hosts clocks mails w i h few M here down begun =
    let (x, found, stands) = M.world.nodes i hold.place hold.here in
    marked count hosts clocks mails w i h x few M here down found (λ none. some_record (sym stands.journal ∙ none))
  where
    hold : Holds M.stands.net M.stands.sites i h
    hold = M.stands.holds i h here

    stand : StandsFor hold.place.records (reads (opening_in h.site.device) (calls_in h.site.device))
    stand =
        crashes.between (example_hosts count) M.stands.net M.stands.sites i hold.place (reads (opening_in h.site.device) (calls_in h.site.device))
        (nets (example_hosts count) M.stands.net M.stands.sites (λ k number. bases k (omega (arith, number.1, few))) M.stands.serves).runs hold.here
        (subst (λ (z : MemSite). (told_of z).images (reads (opening_in h.site.device) (calls_in h.site.device))) (sym hold.site)
        (seen_image First (opening_in h.site.device) (calls_in h.site.device), seen_image Second (opening_in h.site.device) (calls_in h.site.device)))

    last_is : begun.last ≡ last_incarnation hold.place.records
    last_is =
        begun.is.last_is ∙ sym (carried_last shrinks begun.is.version begun.is.records)
        ∙ same_last (carried begun.is.version begun.is.records) hold.place.records (restarts apart (reads (opening_in h.site.device) (calls_in h.site.device)) begun.is.version begun.is.records hold.place.records begun.is.stand stand)

    some_record : hold.place.records ≡ [] → ⊥
    some_record none = let e : begun.last ≡ 0 = last_is ∙ ap last_incarnation none in let k = begun.some in omega (arith, e, k)

pub tried_are_read : CallsFailAsTold → LinksHold → AreApart → ChosenAreImages → StartsLeave → FailedStartsLeave → TriedAreRead
tried_are_read told_calls links apart images leave leave_failed base (Ok n) old t last armed made K told B adds tried =
    up_read told_calls links apart images leave leave_failed base old t last armed made K told adds n B armed refl
tried_are_read told_calls links apart images leave leave_failed base (Err ends.Disk) old t last armed made K told B adds tried =
    failed_read told_calls links apart images leave leave_failed base old t last armed made K told adds B armed refl
tried_are_read told_calls links apart images leave leave_failed base (Err ends.NoMemory) old t last armed made K told B adds tried = absurd tried
tried_are_read told_calls links apart images leave leave_failed base (Err (ends.Bad file place)) old t last armed made K told B adds tried = absurd tried
tried_are_read told_calls links apart images leave leave_failed base (Err ends.NoJournal) old t last armed made K told B adds tried = absurd tried
tried_are_read told_calls links apart images leave leave_failed base (Err ends.Spent) old t last armed made K told B adds tried = absurd tried
tried_are_read told_calls links apart images leave leave_failed base (Err ends.Full) old t last armed made K told B adds tried = absurd tried

-- No call came at which the machine was to stop.
pub unstopped : (armed : Armed) (made : List Made) → stop_in armed made ≡ None → IsUncut armed made
unstopped arms.No made e = tt
unstopped (arms.Fail k) made e = tt
unstopped (arms.Stop k choice) made e = by (nat_eq k 0) (nat_lt (length made) k) refl refl e
  where
    by : (a b : Bool) → nat_eq k 0 ≡ a → nat_lt (length made) k ≡ b → if◌then◌else◌ {A = Option (ℕ × Choice)} (a || b) None (Some (kept_at made k choice, choice)) ≡ None → IsUncut (arms.Stop k choice) made
    by true b p q f = inl (eqb-true k 0 p)
    by false true p q f = inr (ltb-true (length made) k q)
    by false false p q f = absurd cc

-- One came, and so many are kept.
pub record StoppedAt (armed : Armed) (made : List Made) (kept : ℕ) (choice : Choice) : Type 0 where
  pub k : ℕ
  pub cut : IsCutAt armed made k kept choice

pub stopped_at : (armed : Armed) (made : List Made) (kept : ℕ) (choice : Choice) → stop_in armed made ≡ Some (kept, choice) → StoppedAt armed made kept choice
stopped_at arms.No made kept choice e = absurd cc
stopped_at (arms.Fail k) made kept choice e = absurd cc
stopped_at (arms.Stop k left) made kept choice e = by (nat_eq k 0) (nat_lt (length made) k) refl refl e
  where
    pair : (x y : ℕ × Choice) → Some x ≡ Some y → x ≡ y
    pair x y f = cc

    by : (a b : Bool) → nat_eq k 0 ≡ a → nat_lt (length made) k ≡ b → if◌then◌else◌ {A = Option (ℕ × Choice)} (a || b) None (Some (kept_at made k left, left)) ≡ Some (kept, choice) → StoppedAt (arms.Stop k left) made kept choice
    by true b p q f = absurd cc
    by false true p q f = absurd cc
    by false false p q f =
        let same = pair (kept_at made k left, left) (kept, choice) f in
        let choice_is : left ≡ choice = ap (λ (z : ℕ × Choice). z.1) same in
        let not_zero = eqb-false k 0 p in
        let within = ltb-false (length made) k q in
        record {
          k = k;
          cut = record {
            armed_is = ap (λ c. arms.Stop k c) choice_is;
            least = by_zero k not_zero;
            within = within;
            kept_is = sym (ap (λ (z : ℕ × Choice). z.0) same) ∙ ap (kept_at made k) choice_is;
          };
        }
      where
        by_zero : (j : ℕ) → (j ≡ 0 → ⊥) → 1 ≤ j
        by_zero zero some = absurd (some refl)
        by_zero (suc j) some = omega arith

same_stop : (j k : ℕ) (a b : Choice) → arms.Stop j a ≡ arms.Stop k b → (j ≡ k) × (a ≡ b)
same_stop j k a b e = (cc, cc)

-- What a start that was done is read as, at whose call it stopped.
module _ (armed : Armed) (made : List Made) (old t : MemSite) (kept : ℕ) (choice : Choice) (S : StoppedAt armed made kept choice) where
  -- as that reading says
  abbrev pub FallsSo : Result Node StartFault → Type 0
  FallsSo result = StartsAs armed made result (becomes.Falls kept choice) (stands_behind (kept - 2) choice) true × LandsSo old t kept choice (stands_behind (kept - 2) choice)

  falls_by : (n : Node) (b : Became) (landed stop : Bool) → StartsAs armed made (Ok n) b landed stop → LandsBy b old t made landed → FallsSo (Ok n)
  falls_by n becomes.Stays landed stop (up, uncut, l, s) lands = absurd (by (subst (λ a. IsUncut a made) S.cut.armed_is uncut))
    where
      by : (S.k ≡ 0) ⊎ (length made < S.k) → ⊥
      by (inl e) = let l = S.cut.least in omega (arith, e, l)
      by (inr e) = let l = S.cut.within in omega (arith, e, l)
  falls_by n (becomes.Falls other left) landed stop (up, all, (k, cut), l, s) lands =
      let (number, leaves) = same_stop k S.k left choice (sym cut.armed_is ∙ S.cut.armed_is) in
      let same : other ≡ kept = cut.kept_is ∙ ap (λ z. kept_at made z left) number ∙ ap (kept_at made S.k) leaves ∙ sym S.cut.kept_is in
      let land : landed ≡ stands_behind (kept - 2) choice = l ∙ ap (λ z. stands_behind (z - 2) left) same ∙ ap (stands_behind (kept - 2)) leaves in (
        (up, all, (S.k, S.cut), refl, refl),
        subst (LandsSo old t kept choice) land (subst (λ c. LandsSo old t kept c landed) leaves (subst (λ z. LandsSo old t z left landed) same lands)),
      )
  falls_by n becomes.Halts landed stop (e, fails, last, l, s) lands = absurd (by e)
    where
      by : Ok n ≡ Err ends.Disk → ⊥
      by f = cc
  falls_by n (becomes.FallsAnew other left) landed stop h lands = absurd h
  falls_by n becomes.HaltsAnew landed stop h lands = absurd h

  pub falls_read : (n : Node) → ReadsStart armed made (Ok n) old t → FallsSo (Ok n)
  falls_read n R = falls_by n R.became R.landed R.stop R.are R.lands

-- One that a call failed.
module _ (armed : Armed) (made : List Made) (old t : MemSite) where
  abbrev pub HaltsSo : Type 0
  HaltsSo = StartsAs armed made (Err ends.Disk) becomes.Halts (nat_eq (length made) 6) true × LandsSo old t (length made) Keep (nat_eq (length made) 6)

  not_up : (n : Node) → Err ends.Disk ≡ Ok n → ⊥
  not_up n e = cc

  halts_by : (b : Became) (landed stop : Bool) → StartsAs armed made (Err ends.Disk) b landed stop → LandsBy b old t made landed → HaltsSo
  halts_by becomes.Stays landed stop ((n, e), uncut, l, s) lands = absurd (not_up n e)
  halts_by (becomes.Falls kept choice) landed stop ((n, e), all, cut, l, s) lands = absurd (not_up n e)
  halts_by becomes.Halts landed stop (e, fails, last, l, s) lands = ((refl, fails, last, refl, refl), subst (LandsSo old t (length made) Keep) l lands)
  halts_by (becomes.FallsAnew kept choice) landed stop h lands = absurd h
  halts_by becomes.HaltsAnew landed stop h lands = absurd h

  pub halts_read : ReadsStart armed made (Err ends.Disk) old t → HaltsSo
  halts_read R = halts_by R.became R.landed R.stop R.are R.lands

-- What the machine was told of an armed call it is read by.
module _ (marked : BegunAreMarked) (net : Seen) (count : ℕ) (w : World) (few : count ≤ 8) (M : MirrorsAt count net w) (i : ℕ) (h : Host) (here : nth i net.hosts ≡ Some h) (down : h.node ≡ None) (armed told : Armed)
    (site machine : MemSite) (same : site ≡ h.site) (now : ℕ) (set : IsSet now site machine) (is : IsTold armed site told) {P : Type 0} (whole : told ≡ arms.No → P) (read : (last : ℕ) → IsMarked last machine → P) where
  pub told_read : P
  told_read = by is
    where
      by : IsTold armed site told → P
      by (inl (none, why)) = whole none
      by (inr (still, begun)) =
          let (last, K) = marked count net.hosts net.clocks (map mail_of net.letters) w i h few M here down (subst HasBegun same begun) in
          read last (same_marked now last site machine set (subst (IsMarked last) (sym same) K))

-- A node that has an incarnation left can begin there.
module _ (begins : DownCanBegin) (net : Seen) (count : ℕ) (w : World) (few : count ≤ 8) (M : MirrorsAt count net w) (i : ℕ) (h : Host) (here : nth i net.hosts ≡ Some h) (down : h.node ≡ None)
    (left : HasIncarnations w i) (room : HasRoom h.site) where
  pub can_begin : CanBegin h.site
  can_begin =
      let (x, found, stands) = M.world.nodes i (M.stands.holds i h here).place (M.stands.holds i h here).here in
      begins count net.hosts net.clocks (map mail_of net.letters) w i h x few M here down found (left x found) room

pub begin_standing : (s : MemSite) → CanBegin s → IsStanding s
begin_standing s C = by C.stand
  where
    by : StandSo C.records (reads (opening_in s.device) (calls_in s.device)) → IsStanding s
    by (inl two) = record { version = Two; records = C.records; stand = two }
    by (inr (none, one)) = record { version = One; records = []; stand = one }
