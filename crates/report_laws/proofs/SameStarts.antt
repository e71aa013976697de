-- Two starts, or two crashes, of nodes that are alike come to one event.
use Rattle.std.proofs.Common.{ℕ, ◌+◌, ◌-◌, ◌≡◌, ◌≤◌, ◌⊎◌, inl, inr, refl, List, length, ap, subst, sym, arith, ◌∙◌}
use Rattle.std.specs.Prelude.{Bool, true, false, Option, Some, None, Result, Ok, Err}
use Rattle.asked_nets.specs.DidStart.{CameUp, LeftStart}
use Rattle.asked_nets.specs.ReadSteps.{HasBegun, IsTold, StartsNode}
use Rattle.at_base.specs.declared.record.Record.{Record}
use Rattle.at_model.specs.Recovery.{last_incarnation}
use Rattle.at_model.specs.World.{WorldEvent, Crash, Up, example_base, nth, put_nth}
use Rattle.call_readings.specs.ReadsStart.{StartsAs}
use Rattle.call_readings.specs.declared.became.Became.{Became}
use Rattle.call_readings.specs.declared.became.Became.TheVariants as becomes
use Rattle.determined_nodes.specs.AlikeCalls.{MachinesAlike}
use Rattle.determined_nodes.specs.AlikeHosts.{IsSameHost}
use Rattle.determined_nodes.specs.FallsAreDetermined.{FallsAreDetermined}
use Rattle.determined_nodes.specs.SameNodes.{IsSameBehind, IsSameMachine}
use Rattle.determined_nodes.specs.StartsAreDetermined.{HasBegun as Begun, IsTried, StartAlike, StartsFrom}
use Rattle.journal_at.specs.declared.version.Version.{Version}
use Rattle.memory_net.specs.declared.host.Host.{Host}
use Rattle.mirrored_nets.specs.Goings.{IsSet}
use Rattle.mirrored_nets.specs.NetSteps.{CrashesNode}
use Rattle.mirrored_nets.specs.Seen.{Seen}
use Rattle.mirrored_nets.specs.ToldMachines.{IsToldOf, fails_of}
use Rattle.mirrored_nets.specs.Took.{HasRoom}
use Rattle.mirrored_nets.specs.TookStart.{HasLast}
use Rattle.mirrored_nets.specs.declared.armed.Armed.{Armed}
use Rattle.mirrored_nets.proofs.OneStanding.{found_one}
use Rattle.node_at.specs.Starts.{StandFor}
use Rattle.node_at.specs.State.{seen}
use Rattle.node_at.specs.declared.fault.StartFault.{StartFault}
use Rattle.node_at.specs.declared.fault.StartFault.TheVariants.{Disk}
use Rattle.node_at.specs.declared.node.Node.{Node}
use Rattle.record_bytes.specs.Versions.{AreApart}
use Rattle.site_memory.specs.Devices.{calls_in, opening_in}
use Rattle.site_memory.specs.Sites.{told_of}
use Rattle.site_memory.specs.Tells.{reads}
use Rattle.site_memory.specs.declared.arm.Choice.TheVariants.{Drop, Keep}
use Rattle.site_memory.specs.declared.machine.MemSite.{MemSite}
use Rattle.site_model.specs.Told.{Files, Made}
use Rattle.report_laws.specs.AlikeNets.{IsSameNet}
use Rattle.report_laws.proofs.AlikeHosts.{both_down, both_up, nth_same, of_some, put_same}
use Rattle.report_laws.proofs.NodeLaws.{CameSame, CanStart, NodeLaws}

abbrev files_in : MemSite → Files
files_in s = reads (opening_in s.device) (calls_in s.device)

same_files : (s t : MemSite) → IsSameMachine s t → files_in t ≡ files_in s
same_files s t same = λ i. reads (sym same.opening i) (sym same.calls i)

-- which call a machine is told to fail as its node starts

never : AreApart → (s t : MemSite) → IsSameMachine s t → HasLast 0 s → HasBegun t → ⊥
never apart s t same last begun =
    let one : last.records ≡ begun.is.records = found_one apart (files_in s) last.version begun.is.version last.records begun.is.records last.stand (subst (StandFor begun.is.version begun.is.records) (same_files s t same) begun.is.stand) in
    let none : 0 ≡ last_incarnation begun.is.records = last.last_is ∙ ap last_incarnation one in
    let is = begun.is.last_is in
    let some = begun.some in
    omega (arith, none, is, some)

turned_round : (s t : MemSite) → IsSameMachine s t → IsSameMachine t s
turned_round s t same = record { opening = sym same.opening; calls = sym same.calls }

told_one : AreApart → (s t : MemSite) → IsSameMachine s t → (armed a b : Armed) → IsTold armed s a → IsTold armed t b → a ≡ b
told_one apart s t same armed a b (inl (e, why)) (inl (f, too)) = e ∙ sym f
told_one apart s t same armed a b (inl (e, inl none)) (inr (f, begun)) = e ∙ (sym none ∙ sym f)
told_one apart s t same armed a b (inl (e, inr last)) (inr (f, begun)) = absurd (never apart s t same last begun)
told_one apart s t same armed a b (inr (e, begun)) (inl (f, inl none)) = e ∙ (none ∙ sym f)
told_one apart s t same armed a b (inr (e, begun)) (inl (f, inr last)) = absurd (never apart t s (turned_round s t same) last begun)
told_one apart s t same armed a b (inr (e, begun)) (inr (f, too)) = e ∙ sym f

room_there : (now : ℕ) (h old : MemSite) → IsSet now h old → HasRoom h → HasRoom old
room_there now h old set room = record {
  first = subst (λ (f : Files). length f.first + 1060010 ≤ 4294967295) files room.first;
  second = subst (λ (f : Files). length f.second + 1060010 ≤ 4294967295) files room.second;
}
  where
    files : files_in h ≡ files_in old
    files = λ i. reads (sym set.opening i) (sym set.calls i)

tried : (armed : Armed) (made : List Made) (r : Result Node StartFault) (b : Became) (landed stop : Bool) → StartsAs armed made r b landed stop → IsTried r
tried armed made r becomes.Stays landed stop ((n, e), uncut, l, s) = subst IsTried (sym e) tt
tried armed made r (becomes.Falls kept choice) landed stop ((n, e), all, cut, l, s) = subst IsTried (sym e) tt
tried armed made r becomes.Halts landed stop (e, failing, last, l, s) = subst IsTried (sym e) tt
tried armed made r (becomes.FallsAnew kept choice) landed stop h = absurd h
tried armed made r becomes.HaltsAnew landed stop h = absurd h

ups_alike : (r s : Result Node StartFault) (n m : Node) → r ≡ Ok n → s ≡ Ok m → StartAlike r s → IsSameBehind (seen n) (seen m)
ups_alike r s n m e f h = subst (StartAlike (Ok n)) f (subst (λ z. StartAlike z s) e h)

-- the host behind a start
left_one : FallsAreDetermined → (b : Became) (r s : Result Node StartFault) (old t here q : MemSite) (made : List Made) (g h : Host) → StartAlike r s → IsSameMachine old here → IsSameMachine t q
    → LeftStart b r old t made g → LeftStart b s here q made h → IsSameHost g h
left_one falls becomes.Stays r s old t here q made g h alike before behind U V = record {
  node = both_up g.node h.node U.node V.node U.up V.up (ups_alike r s U.node V.node U.is V.is alike).same;
  site = subst (λ z. IsSameMachine z h.site) (sym U.site) (subst (IsSameMachine t) (sym V.site) behind);
}
left_one falls (becomes.Falls kept choice) r s old t here q made g h alike before behind (down, fell) (off, also) = record {
  node = both_down g.node h.node down off;
  site = falls.fell kept choice old t g.site here q h.site before behind fell also;
}
left_one falls becomes.Halts r s old t here q made g h alike before behind (down, fell) (off, also) = record {
  node = both_down g.node h.node down off;
  site = falls.fell (length made) Keep old t g.site here q h.site before behind fell also;
}
left_one falls (becomes.FallsAnew kept choice) r s old t here q made g h alike before behind U V = absurd U
left_one falls becomes.HaltsAnew r s old t here q made g h alike before behind U V = absurd U

module _ (L : NodeLaws) (armed : Armed) (old new here there : Seen) (same : IsSameNet old here) (i : ℕ) where
  -- two starts
  module _ (landed there_landed stop stopped : Bool) (calls also : ℕ) (T : StartsNode armed i landed stop calls old new) (U : StartsNode armed i there_landed stopped also here there) (can : CanStart i old) where
    hosts_same : IsSameHost T.host U.host
    hosts_same = nth_same i old.hosts here.hosts T.host U.host same.hosts T.here U.here

    clock_is : T.clock ≡ U.clock
    clock_is = of_some (nth i old.clocks) T.clock U.clock T.time (ap (nth i) same.clocks ∙ U.time)

    struck_is : T.struck ≡ U.struck
    struck_is = told_one L.apart T.host.site U.host.site hosts_same.site armed T.struck U.struck T.struck_is U.struck_is

    machines : IsSameMachine T.machine U.machine
    machines = (L.stay.set T.clock T.host U.host T.machine U.machine hosts_same T.set (subst (λ c. IsSet c U.host.site U.machine) (sym clock_is) U.set)).0

    abbrev fails : ℕ
    fails = fails_of (length (calls_in T.machine.device)) T.struck

    from : StartsFrom (length (calls_in T.machine.device)) fails (files_in T.machine)
    from =
        let files : files_in T.host.site ≡ files_in T.machine = (λ j. reads (sym T.set.opening j) (sym T.set.calls j)) in
        subst (λ f. StartsFrom (length (calls_in T.machine.device)) fails f) files (can T.host T.here T.down (length (calls_in T.machine.device)) fails)

    begun : Begun (example_base i) fails T.took.did.result T.machine T.took.did.site T.took.did.made
    begun = record {
      from = from;
      room = room_there T.clock T.host.site T.machine T.set T.room;
      told = T.told;
      begins = T.took.did.begins;
      adds = T.took.did.adds;
      ends = inl (tried T.struck T.took.did.made T.took.did.result T.took.did.became landed stop T.took.reads);
    }

    begun_too : Begun (example_base i) fails U.took.did.result U.machine U.took.did.site U.took.did.made
    begun_too = record {
      from = subst (λ f. StartsFrom (length (calls_in U.machine.device)) fails f) (sym (same_files T.machine U.machine machines)) (subst (λ (cs : List Made). StartsFrom (length cs) fails (files_in T.machine)) machines.calls from);
      room = room_there U.clock U.host.site U.machine U.set U.room;
      told = U.told ∙ (λ j. Some (record { since = length (calls_in U.machine.device); fails = fails_of (length (sym machines.calls j)) (sym struck_is j) }));
      begins = U.took.did.begins;
      adds = U.took.did.adds;
      ends = inl (tried U.struck U.took.did.made U.took.did.result U.took.did.became there_landed stopped U.took.reads);
    }

    went : StartAlike T.took.did.result U.took.did.result × MachinesAlike T.took.did.site U.took.did.site T.took.did.made U.took.did.made
    went = L.starts (example_base i) fails T.took.did.result U.took.did.result T.machine T.took.did.site U.machine U.took.did.site T.took.did.made U.took.did.made machines begun begun_too

    one : (T.took.did.became ≡ U.took.did.became) × (landed ≡ there_landed) × (stop ≡ stopped)
    one =
        L.readings.starts T.struck T.took.did.made T.took.did.result U.took.did.result T.took.did.became U.took.did.became landed there_landed stop stopped T.took.reads
        (subst (λ ms. StartsAs T.struck ms U.took.did.result U.took.did.became there_landed stopped) (sym went.1.calls)
        (subst (λ a. StartsAs a U.took.did.made U.took.did.result U.took.did.became there_landed stopped) (sym struck_is) U.took.reads)) went.0

    behind_same : IsSameHost T.behind U.behind
    behind_same =
        left_one L.falls T.took.did.became T.took.did.result U.took.did.result T.machine T.took.did.site U.machine U.took.did.site T.took.did.made T.behind U.behind went.0 machines went.1.machine T.took.did.left
        (subst (λ b. LeftStart b U.took.did.result U.machine U.took.did.site T.took.did.made U.behind) (sym one.0)
        (subst (λ ms. LeftStart U.took.did.became U.took.did.result U.machine U.took.did.site ms U.behind) (sym went.1.calls) U.took.did.left))

    net_behind : IsSameNet (record old { hosts = put_nth i T.behind old.hosts }) (record here { hosts = put_nth i U.behind here.hosts })
    net_behind = record { hosts = put_same i T.behind U.behind old.hosts here.hosts behind_same same.hosts; clocks = same.clocks; letters = same.letters }

    pub starts_same : (down off : Bool) → down ≡ false → off ≡ false → CameSame (Up i landed stop) (Up i there_landed stopped) down off calls also new there
    starts_same down off stays rests = record {
      event_is = λ j. Up i (one.1 j) (one.2 j);
      down_is = stays ∙ sym rests;
      calls_are = T.took.did.calls_are ∙ (ap (λ (ms : List Made). length ms) went.1.calls ∙ sym U.took.did.calls_are);
      net = subst (λ z. IsSameNet z there) (sym T.are) (subst (IsSameNet (record old { hosts = put_nth i T.behind old.hosts })) (sym U.are) net_behind);
    }

  -- two crashes
  module _ (calls also : ℕ) (T : CrashesNode i old new) (U : CrashesNode i here there) where
    hosts_alike : IsSameHost T.host U.host
    hosts_alike = nth_same i old.hosts here.hosts T.host U.host same.hosts T.here U.here

    behind_alike : IsSameHost T.behind U.behind
    behind_alike = record {
      node = both_down T.behind.node U.behind.node T.went.down U.went.down;
      site = L.falls.crashed Drop T.host.site U.host.site T.behind.site U.behind.site hosts_alike.site T.went.left U.went.left;
    }

    net_left : IsSameNet (record old { hosts = put_nth i T.behind old.hosts }) (record here { hosts = put_nth i U.behind here.hosts })
    net_left = record { hosts = put_same i T.behind U.behind old.hosts here.hosts behind_alike same.hosts; clocks = same.clocks; letters = same.letters }

    pub crashes_same : (down off : Bool) → down ≡ false → off ≡ false → calls ≡ 0 → also ≡ 0 → CameSame (Crash i) (Crash i) down off calls also new there
    crashes_same down off stays rests none nil = record {
      event_is = refl;
      down_is = stays ∙ sym rests;
      calls_are = none ∙ sym nil;
      net = subst (λ z. IsSameNet z there) (sym T.are) (subst (IsSameNet (record old { hosts = put_nth i T.behind old.hosts })) (sym U.are) net_left);
    }
