-- A host that goes down in a call: what it came up on, and the net and the world behind that.
use Rattle.std.specs.Prelude.{ℕ, List, ◌++◌, ◌+◌, ◌≡◌, ◌≤◌, IfSome, None, Some, length, option_map, take, drop}
use Rattle.std.proofs.Common.{refl, sym, ap, subst, ◌∙◌}
use Rattle.std.proofs.lemmas.List.{append_assoc, take-append-drop}
use Rattle.at_base.specs.declared.outs.Post.{Post}
use Rattle.at_model.specs.World.{Node as Known, World, WorldEvent, example_hosts, nth, put_nth, world_step}
use Rattle.decision_log.specs.KeptRecords.{GrowsByOne}
use Rattle.decision_log.specs.ShrunkJournals.{ShrinksTheSame}
use Rattle.deliverables.specs.Bases.{ExamplesAreNodeBases}
use Rattle.deliveries.specs.ByteNets.{ServeAsNets, Serves}
use Rattle.deliveries.specs.Letters.{AreLetters, CallsPost, posts_in}
use Rattle.interposition.proofs.DueWalks.{walks_the_due}
use Rattle.memory_net.specs.Calls.{IsServing}
use Rattle.memory_net.specs.Closed.{AsksOf, HostsTellReceivers, StaysClosed, closed}
use Rattle.memory_net.specs.Mails.{Mail, mails_in}
use Rattle.memory_net.specs.Stands.{AreMailsOf, Holds}
use Rattle.memory_net.specs.declared.host.Host.{Host}
use Rattle.memory_net.proofs.Going.{are, letters_last, small}
use Rattle.memory_net.proofs.Standing.{alone_where, comes_on, mails_join, placed_at, placed_other, placed_this}
use Rattle.mirrored_nets.specs.Mirrors.{AreOfTwo, Mirrors}
use Rattle.mirrored_nets.specs.Took.{FellBack}
use Rattle.mirrored_nets.proofs.Remirrored.{remirror_to}
use Rattle.model_laws.proofs.Compactions.{recovers_the_compacted}
use Rattle.model_laws.proofs.Order.{ids_rise}
use Rattle.model_laws.specs.Order.{IsInOrder}
use Rattle.node_at.specs.State.{seen}
use Rattle.node_at.specs.TurnText.{TurnStep}
use Rattle.node_at.specs.declared.node.Node.{Node}
use Rattle.node_events.specs.NodeEvents.{IsAt, Leads, MovesOne}
use Rattle.node_worlds.specs.Acts.{IsUp}
use Rattle.node_worlds.specs.Crashes.{CrashesAreMet}
use Rattle.node_worlds.specs.Machines.{IsLeft, IsOn}
use Rattle.node_worlds.specs.Nets.{IsWorldOf, Place, as_far, broken, posts_from}
use Rattle.node_worlds.specs.Restarts.{RestartsOnRecords}
use Rattle.node_worlds.specs.SentPosts.{recorded}
use Rattle.node_worlds.proofs.Machines.{all_fit, runs_on_machines}
use Rattle.node_worlds.proofs.NetWorlds.{book_order}
use Rattle.record_bytes.specs.Versions.{AreBodies as RecordsAreBodies}
use Rattle.site_memory.specs.Devices.{calls_in, opening_in}
use Rattle.site_memory.specs.Disk.{ChosenAreImages, chosen_files}
use Rattle.site_memory.specs.Sites.{told_of}
use Rattle.site_memory.specs.declared.arm.Choice.{Choice}
use Rattle.site_memory.specs.declared.machine.MemSite.{MemSite}
use Rattle.site_model.specs.Told.{Call, Made}
use Rattle.world_laws.proofs.Nodes.{put_put}

-- the laws that this stands on
pub record NetLaws : Type 0 where
  pub tell : HostsTellReceivers
  pub bases : ExamplesAreNodeBases
  pub closes : StaysClosed told_of
  pub nets : ServeAsNets told_of
  pub crashes : CrashesAreMet told_of
  pub calls : CallsPost told_of
  pub images : ChosenAreImages
  pub bodies : RecordsAreBodies
  pub grows : GrowsByOne
  pub shrinks : ShrinksTheSame
  pub restarts : RestartsOnRecords told_of

-- the machine before the call has the files and the calls of this host's
pub record IsBefore (h : Host) (s : MemSite) : Type 0 where
  pub opening : opening_in s.device ≡ opening_in h.site.device
  pub calls : calls_in s.device ≡ calls_in h.site.device

-- it came up on what was chosen of a crash behind these calls
pub comes_back : (old t new : MemSite) (kept : ℕ) (choice : Choice) (l : List Made) → take (length (calls_in old.device) + kept) (calls_in t.device) ≡ l → FellBack old t kept choice new
    → IsOn (chosen_files choice (opening_in t.device) l) (told_of new)
comes_back old t new kept choice l e fell =
    subst (λ z. IsOn (chosen_files choice z l) (told_of new)) fell.back.opening
    (subst (λ z. IsOn (chosen_files choice (opening_in fell.mid.device) z) (told_of new)) (fell.back.calls_are ∙ e) (comes_on choice fell.mid new fell.left))

-- at a moment of a call's
pub left_at : ChosenAreImages → (s t : MemSite) (choice : Choice) (made : List Made) (kept : ℕ) → calls_in t.device ≡ calls_in s.device ++ made
    → IsLeft (told_of s) (told_of t) (calls_in s.device ++ take kept made) (chosen_files choice (opening_in t.device) (calls_in s.device ++ take kept made))
left_at images s t choice made kept e = record {
  between = (calls_in s.device, calls_in t.device, refl, refl, (take kept made, refl), (drop kept made, all));
  past = ((drop kept made, all), images choice (opening_in t.device) (calls_in s.device ++ take kept made));
}
  where
    all : (calls_in s.device ++ take kept made) ++ drop kept made ≡ calls_in t.device
    all = append_assoc (calls_in s.device) (take kept made) (drop kept made) ∙ ap (λ z. calls_in s.device ++ z) (take-append-drop kept made) ∙ sym e

module _ (L : NetLaws) (count : ℕ) (few : count ≤ 8) (hosts : List Host) (clocks : List ℕ) (mails more : List Mail) (w : World) (M : Mirrors count hosts clocks mails w) (i : ℕ) (h g : Host) (n : Node)
    (here : nth i hosts ≡ Some h) (up : h.node ≡ Some n) (c : ℕ) (time : nth i clocks ≡ Some c) (s : MemSite) (before : IsBefore h s) where
  abbrev pub hold : Holds M.stands.net M.stands.sites i h
  hold = M.stands.holds i h here

  abbrev pub place : Place
  place = hold.place

  pub is_up : hold.place.node ≡ Some (seen n)
  is_up = hold.node ∙ ap (option_map seen) up

  abbrev pub sites : ℕ → MemSite
  sites = placed_at i s M.stands.sites

  pub at_this : sites i ≡ s
  at_this = placed_this i s M.stands.sites

  abbrev pub waits : Serves told_of (example_hosts count) M.stands.net sites
  waits = Serves.waited M.stands.sites M.stands.serves (alone_where i h.site s M.stands.sites hold.site before.opening before.calls)

  -- its journal holds what its place was told
  pub up_there : IsUp hold.place.records (seen n) (told_of s)
  up_there =
      subst (λ z. IsUp hold.place.records (seen n) (told_of z)) at_this
      ((all_fit L.bodies L.grows L.shrinks told_of L.restarts (example_hosts count) M.stands.net sites
      (L.nets (example_hosts count) M.stands.net sites (are L.tell L.bases L.closes L.nets L.crashes L.calls L.images count few) waits).runs i hold.place hold.here).up (seen n) is_up)

  -- the node in the world
  pub record InWorld : Type 0 where
    pub node : Known
    pub known : nth i w.nodes ≡ Some node
    pub is_at : IsAt (example_hosts count) M.stands.net w i hold.place node (seen n)
    pub clock : node.clock ≡ c
    pub order : IsInOrder n.book

  pub in_world : InWorld
  in_world =
      let (x, known, stands) = M.world.nodes i hold.place hold.here in
      record {
        node = x;
        known = known;
        is_at = record { world = M.world; place = hold.here; node = known; up = is_up; reach = M.reach };
        clock = M.clocks_are i c x time known;
        order = book_order (walks_the_due ids_rise) recovers_the_compacted L.shrinks told_of (example_hosts count) M.stands.net
            (runs_on_machines L.bodies L.grows L.shrinks told_of L.restarts (example_hosts count) M.stands.net sites
            (L.nets (example_hosts count) M.stands.net sites (are L.tell L.bases L.closes L.nets L.crashes L.calls L.images count few) waits).runs)
            i hold.place (seen n) hold.here is_up;
      }

  -- the net behind these steps, as the world is then
  pub fallen_to : (front : List TurnStep) (posts : List Post) (sent : List Call)
      (serves : Serves told_of (example_hosts count) (broken (example_hosts count) i M.stands.net hold.place (seen n) front posts) (placed_at i g.site sites))
      → AsksOf closed told_of (example_hosts count) (broken (example_hosts count) i M.stands.net hold.place (seen n) front posts) (placed_at i g.site sites) serves
      → AreLetters posts (posts_in sent) → more ≡ mails ++ mails_in i count sent → (now : ℕ) (v : World)
      → IsWorldOf (example_hosts count) (broken (example_hosts count) i M.stands.net hold.place (seen n) front posts) v → MovesOne i now w v → g.node ≡ None → AreOfTwo (hold.place.records ++ recorded front) g.site
      → Mirrors count (put_nth i g hosts) (put_nth i now clocks) more v
  fallen_to front posts sent serves asks letters posted now v world moves down two =
      remirror_to count hosts clocks mails more w M i h g here c now time in_world.node in_world.known v (broken (example_hosts count) i M.stands.net hold.place (seen n) front posts)
      (placed_at i g.site sites) serves asks hold.place (record { node = None; records = hold.place.records ++ recorded front }) hold.here
      (put_put i M.stands.net.places (record { node = Some (as_far (seen n) front); records = hold.place.records ++ recorded front }) (record { node = None; records = hold.place.records ++ recorded front }))
      (sym (ap (option_map seen) down)) (subst (λ o. IfSome o IsServing) (sym down) tt) (placed_this i g.site sites)
      (λ j f. placed_other i g.site sites j f ∙ placed_other i s M.stands.sites j f)
      (subst (AreMailsOf (M.stands.net.posted ++ posts_from (example_hosts count) i posts)) (sym posted)
      (mails_join M.stands.net.posted (posts_from (example_hosts count) i posts) mails (mails_in i count sent) M.stands.letters
      (letters_last L.tell L.bases L.closes L.nets L.crashes L.calls L.images count few i M.stands.net.posted posts sent letters
      (L.closes count (broken (example_hosts count) i M.stands.net hold.place (seen n) front posts) (placed_at i g.site sites) (small L.tell L.bases L.closes L.nets L.crashes L.calls L.images count few) serves asks).posted)))
      (λ m f. absurd (nobody m (sym down ∙ f))) world moves (λ none. two)
    where
      nobody : (m : Node) → None ≡ Some m → ⊥
      nobody m f = cc

  -- as an event leads
  pub fallen : (front : List TurnStep) (posts : List Post) (sent : List Call)
      (serves : Serves told_of (example_hosts count) (broken (example_hosts count) i M.stands.net hold.place (seen n) front posts) (placed_at i g.site sites))
      → AsksOf closed told_of (example_hosts count) (broken (example_hosts count) i M.stands.net hold.place (seen n) front posts) (placed_at i g.site sites) serves
      → AreLetters posts (posts_in sent) → more ≡ mails ++ mails_in i count sent → (now : ℕ) (e : WorldEvent)
      → Leads (example_hosts count) i now w e (broken (example_hosts count) i M.stands.net hold.place (seen n) front posts) → g.node ≡ None → AreOfTwo (hold.place.records ++ recorded front) g.site
      → Mirrors count (put_nth i g hosts) (put_nth i now clocks) more (world_step w e)
  fallen front posts sent serves asks letters posted now e leads down two =
      fallen_to front posts sent serves asks letters posted now (world_step w e) leads.world leads.moves down two
