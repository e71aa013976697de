-- What the start of a node came to on its machine.
use Rattle.std.specs.Prelude.{ℕ, List, [], ◌∷◌, ◌-◌, ◌≡◌, Bool, Err, None, Ok, Result, Some, false, length, nat_eq, suc, true}
use Rattle.std.proofs.Common.{ap, refl, subst, sym, ◌∙◌}
use Rattle.memory_net.specs.Calls.{Begins, IsServing}
use Rattle.memory_net.specs.declared.host.Host.{Host}
use Rattle.node_at.specs.declared.fault.StartFault.{StartFault}
use Rattle.node_at.specs.declared.fault.StartFault.TheVariants as ends
use Rattle.node_at.specs.declared.node.Node.{Node}
use Rattle.site_memory.specs.Devices.{calls_in}
use Rattle.site_memory.specs.Entries.{mades}
use Rattle.site_memory.specs.declared.arm.Choice.{Choice}
use Rattle.site_memory.specs.declared.arm.Choice.TheVariants.{Keep}
use Rattle.site_memory.specs.declared.entry.Entry.{Entry}
use Rattle.site_memory.specs.declared.machine.MemSite.{MemSite}
use Rattle.torn_appends.specs.TornAppends.{stands_behind}
use Rattle.mirrored_nets.specs.LeftStarts.{IsMarked, may_fail}
use Rattle.mirrored_nets.specs.ToldMachines.{IsToldOf}
use Rattle.mirrored_nets.specs.Took.{Adds, FellBack}
use Rattle.mirrored_nets.specs.declared.armed.Armed.{Armed}
use Rattle.call_readings.specs.ReadsStart.{ReadsStart, StartsAs}
use Rattle.call_readings.specs.declared.became.Became.{Became}
use Rattle.call_readings.specs.declared.became.Became.TheVariants as becomes
use Rattle.asked_nets.specs.BegunFiles.{TriedAreRead}
use Rattle.asked_nets.specs.DidStart.{DidStart, LeftStart, ReadStart}
use Rattle.asked_nets.specs.Stops.{stop_in}
use Rattle.asked_nets.proofs.StartedFiles.{FallsSo, HaltsSo, falls_read, halts_read, stopped_at, unstopped}

pub long : (entries : List Entry) → length entries ≡ length (mades entries)
long [] = refl
long (x ∷ xs) = ap suc (long xs)

-- a start fails so by the disk alone, where a call is to fail
pub by_disk : (fault : StartFault) (armed : Armed) → may_fail fault armed ≡ true → fault ≡ ends.Disk
by_disk ends.NoMemory armed e = absurd cc
by_disk ends.Disk armed e = refl
by_disk (ends.Bad file place) armed e = absurd cc
by_disk ends.NoJournal armed e = absurd cc
by_disk ends.Spent armed e = absurd cc
by_disk ends.Full armed e = absurd cc

-- as what is answered says it
pub did_so : (base : List ℕ) (old : MemSite) (new : Host) (many calls : ℕ) → calls ≡ many → DidStart base old new many → DidStart base old new calls
did_so base old new many calls same = subst (DidStart base old new) (sym same)

pub read_so : (armed : Armed) (base : List ℕ) (old : MemSite) (new : Host) (landed lands stop : Bool) (many calls : ℕ) → landed ≡ lands → stop ≡ true → calls ≡ many → ReadStart armed base old new lands true many
    → ReadStart armed base old new landed stop calls
read_so armed base old new landed lands stop many calls l s same r =
    subst (λ z. ReadStart armed base old new z stop calls) (sym l) (subst (λ z. ReadStart armed base old new lands z calls) (sym s) (subst (ReadStart armed base old new lands true) (sym same) r))

module _ (base : List ℕ) (result : Result Node StartFault) (old t : MemSite) (new : Host) (before many : ℕ) (calls : List Entry) (begins : Begins base result old t) (since : before ≡ length (calls_in old.device))
    (adds : Adds (mades calls) old t) (counts : many ≡ length calls) (armed : Armed) where
  abbrev did : (b : Became) → LeftStart b result old t (mades calls) new → DidStart base old new many
  did b left = record { result = result; site = t; begins = begins; made = mades calls; adds = adds; became = b; left = left; calls_are = counts ∙ long calls }

  -- it is up
  module _ (n : Node) (is : result ≡ Ok n) (serving : IsServing n) (up : new.node ≡ Some n) (site : new.site ≡ t) where
    abbrev up_left : LeftStart becomes.Stays result old t (mades calls) new
    up_left = record { node = n; is = is; up = up; site = site; serving = serving }

    abbrev pub did_up : DidStart base old new many
    did_up = did becomes.Stays up_left

    pub read_up : stop_in armed (mades calls) ≡ None → ReadStart armed base old new true false many
    read_up none = record { did = did_up; reads = ((n, is), unstopped armed (mades calls) none, refl, refl); lands = tt }

  -- it stopped
  module _ (n : Node) (is : result ≡ Ok n) (kept : ℕ) (choice : Choice) (off : new.node ≡ None) (fell : (z : MemSite) → before ≡ length (calls_in z.device) → FellBack z t kept choice new.site) where
    abbrev pub did_fall : DidStart base old new many
    did_fall = did (becomes.Falls kept choice) (off, fell old since)

    pub read_fall : stop_in armed (mades calls) ≡ Some (kept, choice) → TriedAreRead → (last : ℕ) → IsMarked last old → IsToldOf armed old
        → ReadStart armed base old new (stands_behind (kept - 2) choice) true many
    read_fall stops tried last K told =
        let R : ReadsStart armed (mades calls) (Ok n) old t = tried base (Ok n) old t last armed (mades calls) K told (subst (λ r. Begins base r old t) is begins) adds tt in
        let S = stopped_at armed (mades calls) kept choice stops in
        let so : FallsSo armed (mades calls) old t kept choice S result =
        subst (FallsSo armed (mades calls) old t kept choice S) (sym is) (falls_read armed (mades calls) old t kept choice S n R) in
        record { did = did_fall; reads = so.0; lands = so.1 }

  -- a call failed
  module _ (fault : StartFault) (is : result ≡ Err fault) (fails : may_fail fault armed ≡ true) (off : new.node ≡ None)
      (fell : (z : MemSite) → before ≡ length (calls_in z.device) → FellBack z t many Keep new.site) where
    disk : result ≡ Err ends.Disk
    disk = is ∙ ap (λ f. Err f) (by_disk fault armed fails)

    abbrev pub did_halt : DidStart base old new many
    did_halt = did becomes.Halts (off, subst (λ k. FellBack old t k Keep new.site) (counts ∙ long calls) (fell old since))

    pub read_halt : (landed : Bool) → landed ≡ nat_eq many 6 → TriedAreRead → (last : ℕ) → IsMarked last old → IsToldOf armed old → ReadStart armed base old new landed true many
    read_halt landed lands tried last K told =
        let R : ReadsStart armed (mades calls) (Err ends.Disk) old t = tried base (Err ends.Disk) old t last armed (mades calls) K told (subst (λ r. Begins base r old t) disk begins) adds tt in
        let so : HaltsSo armed (mades calls) old t = halts_read armed (mades calls) old t R in
        subst (λ l. ReadStart armed base old new l true many) (sym (lands ∙ ap (λ k. nat_eq k 6) (counts ∙ long calls)))
        (record {
          did = did_halt;
          reads = subst (λ r. StartsAs armed (mades calls) r becomes.Halts (nat_eq (length (mades calls)) 6) true) (sym disk) so.0;
          lands = so.1;
        })
