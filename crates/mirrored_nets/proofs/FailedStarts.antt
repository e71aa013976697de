-- A node whose start meets a fault, as the world's does, whether its Start landed or not.
use Rattle.std.specs.Prelude.{ℕ, List, [], ◌∷◌, ◌++◌, ◌+◌, ◌≡◌, ◌≤◌, ◌<◌, ◌⊎◌, IfSome, Bool, true, false, Some, None, Ok, Err, Result, drop, length, nat_lt, option_map, suc, take, zero}
use Rattle.std.proofs.Common.{refl, sym, ap, subst, arith, ◌∙◌, inl, inr}
use Rattle.std.proofs.lemmas.Bool.{ltb-false, ltb-true}
use Rattle.std.proofs.lemmas.List.{append_assoc, take-append-drop}
use Rattle.at_base.specs.declared.record.Record.{Record}
use Rattle.at_model.specs.Recovery.{last_incarnation}
use Rattle.at_model.specs.World.{Node as Known, Up, World, example_base, example_hosts, nth, put_nth, world_step}
use Rattle.decision_log.specs.ShrunkJournals.{ShrinksTheSame}
use Rattle.deliverables.specs.Bases.{ExamplesAreNodeBases}
use Rattle.deliveries.specs.ByteNets.{ServeAsNets, Serves}
use Rattle.deliveries.specs.DeliverableNets.{AreNodeHosts}
use Rattle.deliveries.specs.Letters.{Adds, CallsPost}
use Rattle.memory_net.specs.Calls.{IsServing}
use Rattle.memory_net.specs.Mails.{Mail}
use Rattle.memory_net.specs.declared.host.Host.{Host}
use Rattle.memory_net.proofs.Standing.{alone_where, comes_on, goes_so, placed_at, placed_other, placed_this, same_some}
use Rattle.node_at.specs.StartedNodes.{Starts}
use Rattle.node_at.specs.Starts.{carried, start_after}
use Rattle.node_at.specs.State.{seen}
use Rattle.node_at.specs.declared.fault.StartFault.{StartFault}
use Rattle.node_at.specs.declared.node.Node.{Node}
use Rattle.node_at.specs.declared.role.Role.TheVariants.{All}
use Rattle.node_events.specs.NodeEvents.{StartsAreEvents}
use Rattle.node_worlds.specs.Crashes.{CrashesAreMet}
use Rattle.node_worlds.specs.Machines.{Begins, Crashes, IsLeft, IsOn, RunsOn}
use Rattle.node_worlds.specs.Nets.{Place, with_start}
use Rattle.node_worlds.specs.Restarts.{StandsFor}
use Rattle.node_worlds.proofs.NetWorlds.{carried_last, same_last}
use Rattle.node_worlds.proofs.Restarts.{restarts}
use Rattle.record_bytes.specs.Versions.{AreApart}
use Rattle.site_memory.specs.Devices.{calls_in, opening_in}
use Rattle.site_memory.specs.Disk.{ChosenAreImages, Image, chosen_files}
use Rattle.site_memory.specs.Sites.{told_of}
use Rattle.site_memory.specs.Tells.{reads}
use Rattle.site_memory.specs.declared.arm.Choice.TheVariants.{Keep}
use Rattle.site_memory.specs.declared.machine.MemSite.{MemSite}
use Rattle.site_model.specs.Told.{Files, Made}
use Rattle.world_laws.proofs.Nodes.{put_same}
use Rattle.mirrored_nets.specs.Goings.{IsSet}
use Rattle.mirrored_nets.specs.Mirrors.{AreOfTwo, IsOfTwo, Mirrors}
use Rattle.mirrored_nets.specs.TookStart.{HasLast, TookStart}
use Rattle.mirrored_nets.proofs.MarkedFiles.{on_two, recorded_two, same_two, start_two}
use Rattle.mirrored_nets.proofs.Remirrored.{remirror}
use Rattle.mirrored_nets.proofs.UpsAndDowns.{last_push, same_clocks, this, time}

-- the last incarnation of what files stand for
last_of : AreApart → ShrinksTheSame → (last : ℕ) (s : MemSite) (rs : List Record) (c : Files) → HasLast last s → reads (opening_in s.device) (calls_in s.device) ≡ c → StandsFor rs c
    → last ≡ last_incarnation rs
last_of apart shrinks last s rs c has same stands =
    has.last_is ∙ sym (carried_last shrinks has.version has.records)
    ∙ same_last (carried has.version has.records) rs (restarts apart (reads (opening_in s.device) (calls_in s.device)) has.version has.records rs has.stand (subst (StandsFor rs) (sym same) stands))

take_behind : (xs ys : List Made) (k n : ℕ) → n ≡ length xs + k → take n (xs ++ ys) ≡ xs ++ take k ys
take_behind [] ys k n e = let same : n ≡ k = omega (arith, e) in ap (λ m. take m ys) same
take_behind (x ∷ xs) ys k zero e = absurd (omega (arith, e))
take_behind (x ∷ xs) ys k (suc n) e = ap (λ z. x ∷ z) (take_behind xs ys k n (omega (arith, e)))

-- whether the last incarnation rose
not_rose : (landed : Bool) (before behind last : ℕ) → landed ≡ nat_lt before behind → before ≡ last → behind ≡ last → landed ≡ false
not_rose false before behind last e f g = refl
not_rose true before behind last e f g = let less = ltb-true before behind (sym e) in absurd (omega (arith, less, f, g))

rose : (landed : Bool) (before behind last : ℕ) → landed ≡ nat_lt before behind → before ≡ last → behind ≡ last + 1 → landed ≡ true
rose true before behind last e f g = refl
rose false before behind last e f g = let less = ltb-false before behind (sym e) in absurd (omega (arith, less, f, g))

module _ (starts : StartsAreEvents) (bases : ExamplesAreNodeBases) (nets : ServeAsNets told_of) (crashes : CrashesAreMet told_of) (calls : CallsPost told_of) (images : ChosenAreImages) (apart : AreApart)
    (shrinks : ShrinksTheSame) (count : ℕ) (hosts : List Host) (clocks : List ℕ) (mails : List Mail) (w : World) (M : Mirrors count hosts clocks mails w) (i : ℕ) (least : 1 ≤ i) (h g : Host)
    (here : nth i hosts ≡ Some h) (few : count ≤ 8) (down : h.node ≡ None) (c : ℕ) (old : MemSite) (set : IsSet c h.site old) (landed : Bool) (T : TookStart (example_base i) old g landed) where
  are : AreNodeHosts (example_hosts count)
  are k number = bases k (omega (arith, number.1, few))

  abbrev p : Place
  p = (this count hosts clocks mails w M i least h g here).place

  at_p : nth i M.stands.net.places ≡ Some p
  at_p = (this count hosts clocks mails w M i least h g here).here

  is_down : p.node ≡ None
  is_down = (this count hosts clocks mails w M i least h g here).node ∙ ap (option_map seen) down

  abbrev sites : ℕ → MemSite
  sites = placed_at i old M.stands.sites

  at_this : sites i ≡ old
  at_this = placed_this i old M.stands.sites

  abbrev waits : Serves told_of (example_hosts count) M.stands.net sites
  waits = Serves.waited M.stands.sites M.stands.serves (alone_where i h.site old M.stands.sites (this count hosts clocks mails w M i least h g here).site set.opening set.calls)

  runs : RunsOn told_of (example_hosts count) M.stands.net sites
  runs = (nets (example_hosts count) M.stands.net sites are waits).runs

  -- its calls, up to where it crashed, and what that left
  abbrev l : List Made
  l = calls_in T.fell.mid.device

  abbrev files : Files
  files = chosen_files T.choice (opening_in T.fell.mid.device) l

  begun_so : (r : Result Node StartFault) → Starts r (example_base i) All 4294967295 (told_of old) (told_of T.site) → Begins (example_base i) 4294967295 (told_of old) (told_of T.site)
  begun_so (Ok n) h = inl (seen n, h.0)
  begun_so (Err e) h = inr (e, h)

  begun : Begins (example_base i) 4294967295 (told_of (sites i)) (told_of T.site)
  begun = subst (λ z. Begins (example_base i) 4294967295 (told_of z) (told_of T.site)) (sym at_this) (begun_so T.result T.begins)

  added : Adds (told_of old) (told_of T.site)
  added = calls.starts_add (example_base i) 4294967295 old T.site (begun_so T.result T.begins)

  grown : calls_in T.site.device ≡ calls_in old.device ++ added.made
  grown = same_some (calls_in T.site.device) (calls_in old.device ++ added.made) added.calls

  part : l ≡ calls_in old.device ++ take T.kept added.made
  part = T.fell.back.calls_are ∙ ap (take (length (calls_in old.device) + T.kept)) grown ∙ take_behind (calls_in old.device) added.made T.kept (length (calls_in old.device) + T.kept) refl

  whole : l ++ drop T.kept added.made ≡ calls_in T.site.device
  whole =
      ap (λ (z : List Made). z ++ drop T.kept added.made) part ∙ append_assoc (calls_in old.device) (take T.kept added.made) (drop T.kept added.made)
      ∙ ap (λ z. calls_in old.device ++ z) (take-append-drop T.kept added.made) ∙ sym grown

  left : IsLeft (told_of (sites i)) (told_of T.site) l files
  left = subst (λ z. IsLeft (told_of z) (told_of T.site) l files) (sym at_this) (record {
    between = (calls_in old.device, calls_in T.site.device, refl, refl, (take T.kept added.made, sym part), (drop T.kept added.made, whole));
    past = ((drop T.kept added.made, whole), subst (λ z. Image z l files) T.fell.back.opening (images T.choice (opening_in T.fell.mid.device) l));
  })

  on : IsOn files (told_of g.site)
  on = comes_on T.choice T.fell.mid g.site T.fell.left

  files_two : IsOfTwo p.records files
  files_two =
      start_two (sites i) T.site l files left apart images p.records
      (subst (AreOfTwo p.records) (sym at_this) (same_two p.records h.site old set.opening set.calls (M.of_two i h p here down at_p))) (example_base i) 4294967295 begun

  abbrev ws : ℕ → MemSite
  ws = placed_at i g.site sites

  crashed : Crashes told_of i T.site g.site l files sites ws
  crashed = record { left = left; on = on; goes = goes_so i g.site sites }

  pub before_is : T.before ≡ last_incarnation p.records
  before_is =
      last_of apart shrinks T.before old p.records (reads (opening_in old.device) (calls_in old.device)) T.was refl
      (crashes.between (example_hosts count) M.stands.net sites i p (reads (opening_in old.device) (calls_in old.device)) runs at_p
      (subst (λ z. (told_of z).images (reads (opening_in old.device) (calls_in old.device))) (sym at_this) (images Keep (opening_in old.device) (calls_in old.device))))

  behind_is : (rs : List Record) → StandsFor rs files → T.behind ≡ last_incarnation rs
  behind_is rs stands = last_of apart shrinks T.behind g.site rs files T.is (same_some (reads (opening_in g.site.device) (calls_in g.site.device)) files on.files) stands

  pub upped_not : (stop : Bool) → (landed ≡ true → stop ≡ true) → Mirrors count (put_nth i g hosts) clocks mails (world_step w (Up i landed stop))
  upped_not stop stops =
      let (x, known, stands) = M.world.nodes i p at_p in
      same_clocks count hosts clocks mails w M i least h g here x (world_step w (Up i landed stop)) known
      (by x known (crashes.starts (example_hosts count) M.stands.net sites i p 4294967295 T.site l files (reads (opening_in (sites i).device) (calls_in (sites i).device)) runs at_p is_down refl begun left))
    where
      by : (x : Known) → nth i w.nodes ≡ Some x
          → StandsFor p.records files ⊎ ((last_incarnation p.records < 4294967295) × StandsFor (p.records ++ start_after p.records ∷ []) files)
          → Mirrors count (put_nth i g hosts) (put_nth i x.clock clocks) mails (world_step w (Up i landed stop))
      by x known (inl stands) =
          subst (λ b. Mirrors count (put_nth i g hosts) (put_nth i x.clock clocks) mails (world_step w (Up i b stop))) (sym (not_rose landed T.before T.behind (last_incarnation p.records) T.landed_is before_is (behind_is p.records stands)))
          (remirror count hosts clocks mails mails w M i h g here (time count hosts clocks mails w M i least h g here).0 x.clock (time count hosts clocks mails w M i least h g here).1 x known (Up i false stop) M.stands.net ws
          (Serves.start_cut_off M.stands.net sites i p 4294967295 T.site g.site l files (reads (opening_in (sites i).device) (calls_in (sites i).device)) waits at_p is_down refl begun crashed stands refl)
          M.stands.asks p p at_p (sym (put_same i M.stands.net.places p at_p)) (is_down ∙ sym (ap (option_map seen) T.down)) (subst (λ o. IfSome o IsServing) (sym T.down) tt) (placed_this i g.site sites)
          (λ j f. placed_other i g.site sites j f ∙ placed_other i old M.stands.sites j f) M.stands.letters
          (λ m e. let f : None ≡ Some m = sym T.down ∙ e in absurd cc)
          (starts.unrecorded (example_hosts count) M.stands.net w i p x stop M.world at_p known is_down) (λ off. on_two p.records files g.site on files_two))
      by x known (inr (small, stands)) =
          let q : Place = record { node = None; records = p.records ++ start_after p.records ∷ [] } in
          let high : last_incarnation q.records ≡ last_incarnation p.records + 1 = let e = last_push p.records (start_after p.records) in omega (arith, e) in
          let is : landed ≡ true = rose landed T.before T.behind (last_incarnation p.records) T.landed_is before_is (behind_is q.records stands ∙ high) in
          subst (λ b. Mirrors count (put_nth i g hosts) (put_nth i x.clock clocks) mails (world_step w (Up i landed b))) (sym (stops is))
          (subst (λ b. Mirrors count (put_nth i g hosts) (put_nth i x.clock clocks) mails (world_step w (Up i b true))) (sym is)
          (remirror count hosts clocks mails mails w M i h g here (time count hosts clocks mails w M i least h g here).0 x.clock (time count hosts clocks mails w M i least h g here).1 x known (Up i true true)
          (with_start i M.stands.net p) ws
          (Serves.start_recorded M.stands.net sites i p 4294967295 T.site g.site l files (reads (opening_in (sites i).device) (calls_in (sites i).device)) waits at_p is_down refl begun crashed small stands refl)
          M.stands.asks p q at_p refl (sym (ap (option_map seen) T.down)) (subst (λ o. IfSome o IsServing) (sym T.down) tt) (placed_this i g.site sites)
          (λ j f. placed_other i g.site sites j f ∙ placed_other i old M.stands.sites j f) M.stands.letters
          (λ m e. let f : None ≡ Some m = sym T.down ∙ e in absurd cc)
          (starts.recorded (example_hosts count) M.stands.net w i p x M.world at_p known is_down small)
          (λ off. on_two q.records files g.site on (recorded_two apart shrinks (λ rs. last_push rs (start_after rs)) p.records files stands files_two))))
