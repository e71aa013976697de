-- A node that comes up, and one that goes down, as the world's does.
use Rattle.std.specs.Prelude.{ℕ, List, [], ◌∷◌, ◌++◌, ◌+◌, ◌≡◌, ◌≤◌, ◌<◌, ◌⊎◌, IfSome, true, false, Some, None, Ok, length, map, max, option_map}
use Rattle.std.proofs.Common.{refl, sym, ap, subst, arith, ◌∙◌, inl, inr}
use Rattle.std.proofs.lemmas.Bool.{cases_lt}
use Rattle.at_base.specs.declared.record.Record.{Record}
use Rattle.at_base.specs.declared.record.Record.TheVariants as records
use Rattle.at_model.specs.Book.{Book}
use Rattle.at_model.specs.Recovery.{incarnation_of, last_incarnation, recover}
use Rattle.at_model.specs.World.{Crash, Node as Known, Up, World, example_base, example_hosts, nth, put_nth, world_step}
use Rattle.decision_log.specs.KeptRecords.{Known as Kept, kept_of}
use Rattle.deliverables.specs.Bases.{ExamplesAreNodeBases}
use Rattle.deliveries.specs.ByteNets.{ServeAsNets, Serves}
use Rattle.deliveries.specs.DeliverableNets.{AreNodeHosts}
use Rattle.journal_at.specs.declared.version.Version.TheVariants.{Two}
use Rattle.memory_net.specs.Calls.{IsServing}
use Rattle.memory_net.specs.Mails.{Mail}
use Rattle.memory_net.specs.Stands.{Holds}
use Rattle.memory_net.specs.declared.host.Host.{Host}
use Rattle.memory_net.proofs.Standing.{alone_where, comes_on, goes_so, placed_at, placed_other, placed_this, same_some}
use Rattle.model_laws.specs.Compactions.{RecoversTheCompacted}
use Rattle.node_at.specs.StartedNodes.{Starts}
use Rattle.node_at.specs.Starts.{start_after, started}
use Rattle.node_at.specs.State.{seen}
use Rattle.node_at.specs.declared.node.Node.{Node}
use Rattle.node_at.specs.declared.role.Role.TheVariants.{All}
use Rattle.node_events.specs.NodeEvents.{StartsAreEvents}
use Rattle.node_worlds.specs.KeptRecords.{NetsKeep}
use Rattle.node_worlds.specs.Machines.{RunsOn, RunsOnMachines}
use Rattle.node_worlds.specs.Nets.{Place, with_started, without}
use Rattle.node_worlds.proofs.Places.{nth_this}
use Rattle.site_memory.specs.Devices.{calls_in, opening_in}
use Rattle.site_memory.specs.Disk.{ChosenAreImages, chosen_files}
use Rattle.site_memory.specs.Sites.{told_of}
use Rattle.site_memory.specs.Tells.{reads}
use Rattle.site_memory.specs.declared.arm.Choice.TheVariants.{Drop}
use Rattle.site_memory.specs.declared.machine.MemSite.{MemSite}
use Rattle.site_model.specs.Told.{Files}
use Rattle.world_laws.proofs.Nodes.{put_same}
use Rattle.mirrored_nets.specs.Goings.{CameUp, IsSet, WentDown}
use Rattle.mirrored_nets.specs.Mirrors.{Mirrors}
use Rattle.mirrored_nets.proofs.FallenHosts.{NetLaws, up_there}
use Rattle.mirrored_nets.proofs.MarkedFiles.{on_two, up_two}
use Rattle.mirrored_nets.proofs.Remirrored.{nth_past, nth_within, remirror}

same_book : RecoversTheCompacted → (base : List ℕ) (xs ys : List Record) → kept_of Two xs ≡ kept_of Two ys → recover base xs ≡ recover base ys
same_book law base xs ys e =
    sym (law.book base xs) ∙ ap (λ (k : Kept). recover base (records.Start k.start ∷ (k.live ++ map records.Done k.done))) e ∙ law.book base ys

pub last_push : (rs : List Record) (r : Record) → last_incarnation (rs ++ r ∷ []) ≡ max (incarnation_of r) (last_incarnation rs)
last_push [] r = refl
last_push (x ∷ rs) r = let rest = last_push rs r in omega (arith, rest)

-- a list as long has that item too
nth_there : {A B : Type 0} (xs : List A) (ys : List B) (i : ℕ) (x : A) → length ys ≡ length xs → 1 ≤ i → nth i xs ≡ Some x → (y : B) × (nth i ys ≡ Some y)
nth_there xs ys i x long least e = by (nth i ys) refl
  where
    within : (length xs < i) ⊎ (i ≤ length xs) → i ≤ length xs
    within (inl past) = let none = nth_past xs i past in absurd cc
    within (inr most) = most

    by : (o : _) → nth i ys ≡ o → (y : _) × (nth i ys ≡ Some y)
    by (Some y) f = (y, f)
    by None f = absurd (nth_within ys i least (subst (λ k. i ≤ k) (sym long) (within (cases_lt (length xs) i))) f)

module _ (count : ℕ) (hosts : List Host) (clocks : List ℕ) (mails : List Mail) (w : World) (M : Mirrors count hosts clocks mails w) (i : ℕ) (least : 1 ≤ i) (h g : Host) (here : nth i hosts ≡ Some h) where
  abbrev pub this : Holds M.stands.net M.stands.sites i h
  this = M.stands.holds i h here

  pub time : (c : ℕ) × (nth i clocks ≡ Some c)
  time = nth_there hosts clocks i h (M.times ∙ sym M.many) least here

  -- its clock stays
  pub same_clocks : (x : Known) (v : World) → nth i w.nodes ≡ Some x → Mirrors count (put_nth i g hosts) (put_nth i x.clock clocks) mails v → Mirrors count (put_nth i g hosts) clocks mails v
  same_clocks x v known =
      subst (λ cs. Mirrors count (put_nth i g hosts) cs mails v)
      (ap (λ c. put_nth i c clocks) (M.clocks_are i time.0 x time.1 known) ∙ put_same i clocks time.0 time.1)

  module _ (starts : StartsAreEvents) where
    module _ (bases : ExamplesAreNodeBases) (nets : ServeAsNets told_of) (keep : NetsKeep told_of) (machines : RunsOnMachines told_of) (recovers : RecoversTheCompacted) (few : count ≤ 8)
        (down : h.node ≡ None) (c : ℕ) (old : MemSite) (set : IsSet c h.site old) (U : CameUp (example_base i) old g) where
      are : AreNodeHosts (example_hosts count)
      are k number = bases k (omega (arith, number.1, few))

      is_down : this.place.node ≡ None
      is_down = this.node ∙ ap (option_map seen) down

      abbrev sites : ℕ → MemSite
      sites = placed_at i old M.stands.sites

      abbrev waits : Serves told_of (example_hosts count) M.stands.net sites
      waits = Serves.waited M.stands.sites M.stands.serves (alone_where i h.site old M.stands.sites this.site set.opening set.calls)

      abbrev files : Files
      files = reads (opening_in (sites i).device) (calls_in (sites i).device)

      pub begins : Starts (Ok U.node) (example_base i) All 4294967295 (told_of (sites i)) (told_of g.site)
      begins = subst (λ z. Starts (Ok U.node) (example_base i) All 4294967295 (told_of z) (told_of g.site)) (sym (placed_this i old M.stands.sites)) U.begins

      abbrev q : Place
      q = record { node = Some (seen U.node); records = this.place.records ++ start_after this.place.records ∷ [] }

      abbrev ws : ℕ → MemSite
      ws = placed_at i g.site sites

      abbrev serves : Serves told_of (example_hosts count) (with_started i M.stands.net this.place (seen U.node)) ws
      serves =
          Serves.started M.stands.net sites i this.place (seen U.node) 4294967295 g.site files waits this.here is_down refl begins.0 (goes_so i g.site sites) refl

      -- it keeps what its records make
      pub kept : kept_of Two (started begins.0.version begins.0.rs) ≡ kept_of Two q.records
      kept =
          let runs : RunsOn told_of (example_hosts count) (with_started i M.stands.net this.place (seen U.node)) ws =
          RunsOn.started M.stands.net sites i this.place (seen U.node) 4294967295 g.site files (nets (example_hosts count) M.stands.net sites are waits).runs this.here is_down refl begins.0 (goes_so i g.site sites) refl in
          sym begins.0.kept
          ∙ keep (example_hosts count) (with_started i M.stands.net this.place (seen U.node)) (machines (example_hosts count) (with_started i M.stands.net this.place (seen U.node)) ws runs) i q (seen U.node)
          (nth_this M.stands.net.places i this.place q this.here) refl

      pub book : (seen U.node).book ≡ recover (example_base i) q.records
      book = begins.0.book ∙ same_book recovers (example_base i) (started begins.0.version begins.0.rs) q.records kept

      pub small : last_incarnation this.place.records < 4294967295
      small =
          let last : (seen U.node).book.incarnation ≡ max (last_incarnation this.place.records + 1) (last_incarnation this.place.records) =
          ap (λ (b : Book). b.incarnation) book ∙ last_push this.place.records (start_after this.place.records) in
          omega (arith, last, U.serving.node.sound.incarnation_most)

      pub upped : Mirrors count (put_nth i g hosts) clocks mails (world_step w (Up i true false))
      upped =
          let (x, known, stands) = M.world.nodes i this.place this.here in
          same_clocks x (world_step w (Up i true false)) known
          (remirror count hosts clocks mails mails w M i h g here time.0 x.clock time.1 x known (Up i true false) (with_started i M.stands.net this.place (seen U.node)) ws serves M.stands.asks this.place q this.here
          refl (sym (ap (option_map seen) U.is)) (subst (λ o. IfSome o IsServing) (sym U.is) U.serving) (placed_this i g.site sites)
          (λ j f. placed_other i g.site sites j f ∙ placed_other i old M.stands.sites j f) M.stands.letters
          (λ m e. ap (λ (n : Node). n.journal.limit) (sym (same_some U.node m (sym U.is ∙ e))) ∙ begins.0.limit_is)
          (starts.started (example_hosts count) M.stands.net w i this.place x (seen U.node) M.world this.here known is_down small book)
          (λ off. let e : Some U.node ≡ None = sym U.is ∙ off in absurd cc))

    module _ (L : NetLaws) (few : count ≤ 8) (images : ChosenAreImages) (n : Node) (up : h.node ≡ Some n) (D : WentDown h.site g) where
      is_up : this.place.node ≡ Some (seen n)
      is_up = this.node ∙ ap (option_map seen) up

      pub downed : Mirrors count (put_nth i g hosts) clocks mails (world_step w (Crash i))
      downed =
          let (x, known, stands) = M.world.nodes i this.place this.here in
          let p : Place = record { node = None; records = this.place.records } in
          let d = chosen_files Drop (opening_in h.site.device) (calls_in h.site.device) in
          let image : (told_of (M.stands.sites i)).images d = subst (λ z. (told_of z).images d) (sym this.site) (images Drop (opening_in h.site.device) (calls_in h.site.device)) in
          let v = without i M.stands.net this.place (seen n) in
          let ended : Serves told_of (example_hosts count) v M.stands.sites = Serves.ended M.stands.net i this.place (seen n) M.stands.serves this.here is_up refl in
          let serves : Serves told_of (example_hosts count) v (placed_at i g.site M.stands.sites) =
          Serves.crashed M.stands.sites i g.site p d ended (nth_this M.stands.net.places i this.place p this.here) refl image (comes_on Drop h.site g.site D.left) (goes_so i g.site M.stands.sites) in
          same_clocks x (world_step w (Crash i)) known
          (remirror count hosts clocks mails mails w M i h g here time.0 x.clock time.1 x known (Crash i) v (placed_at i g.site M.stands.sites) serves M.stands.asks this.place p this.here refl
          (sym (ap (option_map seen) D.down)) (subst (λ o. IfSome o IsServing) (sym D.down) tt) (placed_this i g.site M.stands.sites) (placed_other i g.site M.stands.sites) M.stands.letters
          (λ m e. let f : None ≡ Some m = sym D.down ∙ e in absurd cc)
          (starts.ended (example_hosts count) M.stands.net w i this.place x (seen n) (record { world = M.world; place = this.here; node = known; up = is_up; reach = M.reach }))
          (λ off.
          on_two this.place.records d g.site (comes_on Drop h.site g.site D.left)
          (up_two this.place.records this.place.records (seen n) h.site
          (up_there L count few hosts clocks mails mails w M i h g n here up time.0 time.1 h.site (record { opening = refl; calls = refl })) d
          (images Drop (opening_in h.site.device) (calls_in h.site.device)))))
