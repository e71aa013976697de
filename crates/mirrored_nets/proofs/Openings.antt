-- Hosts on new machines mirror the opening world.
use Rattle.std.specs.Prelude.{ℕ, List, [], ◌∷◌, ◌+◌, ◌-◌, ◌≡◌, ◌≤◌, IfSome, Option, Some, None, Bool, true, false, if◌then◌else◌, nat_eq, length, option_map, replicate, zero, suc}
use Rattle.std.specs.List.{AllByRecursion}
use Rattle.std.proofs.Common.{refl, sym, ap, subst, arith, ◌∙◌, inr}
use Rattle.std.proofs.lemmas.List.{length-replicate}
use Rattle.at_model.specs.World.{Hosts, Node as Known, example_base, example_hosts, new_node, new_nodes, nth, opening}
use Rattle.deliveries.specs.ByteNets.{Serves}
use Rattle.memory_net.specs.Calls.{IsServing}
use Rattle.memory_net.specs.Hosts.{IsFresh}
use Rattle.memory_net.specs.Stands.{Stands}
use Rattle.memory_net.specs.declared.host.Host.{Host}
use Rattle.memory_net.proofs.Standing.{same_some}
use Rattle.model_laws.proofs.NodeLives.{opening_node}
use Rattle.node_at.specs.State.{seen}
use Rattle.node_at.specs.declared.node.Node.{Node}
use Rattle.node_worlds.specs.Machines.{IsOn}
use Rattle.node_worlds.specs.Nets.{IsWorldOf, Place, new_net, new_place, new_places}
use Rattle.site_memory.specs.Devices.{opening_in}
use Rattle.site_memory.specs.Disk.{Image}
use Rattle.site_memory.specs.Sites.{IsNew, told_of}
use Rattle.site_memory.specs.Tells.{reads}
use Rattle.site_memory.specs.declared.machine.MemSite.{MemSite}
use Rattle.site_model.specs.Told.{Files}
use Rattle.mirrored_nets.specs.Mirrors.{Mirrors}
use Rattle.mirrored_nets.proofs.MarkedFiles.{empty_stands, on_two}

abbrev no_files : Files
no_files = record { first = []; second = [] }

new_on : (s : MemSite) → IsNew s → IsOn no_files (told_of s)
new_on s new =
    subst (λ o. IsOn o (told_of s)) new.opening (record {
      files = ap (λ l. Some (reads (opening_in s.device) l)) new.calls;
      images = λ d image. same d (subst (λ l. Image (opening_in s.device) l d) new.calls image);
    })
  where
    same : (d : Files) → Image (opening_in s.device) [] d → d ≡ opening_in s.device
    same d (first, second) = λ i. record { first = first i; second = second i }

-- the machine of each host, and another elsewhere
abbrev site_or : Host → Option Host → MemSite
site_or h None = h.site
site_or h (Some g) = g.site

fresh_at : (hosts : List Host) (i : ℕ) (h : Host) → AllByRecursion IsFresh hosts → nth i hosts ≡ Some h → IsFresh h
fresh_at [] i h all e = absurd cc
fresh_at (x ∷ xs) i h (fresh, all) e = by (λ f. fresh_at xs (i - 1) h all f) (nat_eq i 1) e
  where
    by : (nth (i - 1) xs ≡ Some h → IsFresh h) → (b : Bool) → (if b then Some x else nth (i - 1) xs) ≡ Some h → IsFresh h
    by later true f = subst IsFresh (same_some x h f) fresh
    by later false f = later f

place_at : (hosts : List Host) (i : ℕ) (h : Host) → nth i hosts ≡ Some h → nth i (new_places (length hosts)) ≡ Some new_place
place_at [] i h e = absurd cc
place_at (x ∷ xs) i h e = by (λ f. place_at xs (i - 1) h f) (nat_eq i 1) e
  where
    by : (nth (i - 1) xs ≡ Some h → nth (i - 1) (new_places (length xs)) ≡ Some new_place) → (b : Bool) → (if b then Some x else nth (i - 1) xs) ≡ Some h
        → (if b then Some new_place else nth (i - 1) (new_places (length xs))) ≡ Some new_place
    by later true f = refl
    by later false f = later f

-- the places of a net that nobody has started in
opens_at : (base_of : ℕ → List ℕ) (k m i : ℕ) (p : Place) → nth i (new_places k) ≡ Some p → (p ≡ new_place) × ((x : Known) × (nth i (new_nodes base_of k m) ≡ Some x))
opens_at base_of zero m i p e = absurd cc
opens_at base_of (suc k) m i p e = by (λ f. opens_at base_of k (m + 1) (i - 1) p f) (nat_eq i 1) e
  where
    by : (nth (i - 1) (new_places k) ≡ Some p → (p ≡ new_place) × ((x : Known) × (nth (i - 1) (new_nodes base_of k (m + 1)) ≡ Some x))) → (b : Bool)
        → (if b then Some new_place else nth (i - 1) (new_places k)) ≡ Some p → (p ≡ new_place) × ((x : Known) × ((if b then Some (new_node (base_of m)) else nth (i - 1) (new_nodes base_of k (m + 1))) ≡ Some x))
    by later true f = (sym (same_some new_place p f), (new_node (base_of m), refl))
    by later false f = later f

opening_world : (hosts : Hosts) → IsWorldOf hosts (new_net hosts) (opening hosts)
opening_world hosts = record {
  nodes = λ i p e.
      let (is, (x, found)) = opens_at hosts.base_of hosts.count 1 i p e in
      let node : x ≡ new_node (hosts.base_of i) = opening_node hosts i x found in (
        x,
        found,
        record {
          base = ap (λ (y : Known). y.base) node;
          book = ap (λ (y : Known). y.book) node ∙ ap (λ (q : Place). option_map (λ n. n.book) q.node) (sym is);
          journal = ap (λ (y : Known). y.journal) node ∙ ap (λ (q : Place). q.records) (sym is);
        },
      );
  posted = refl;
  accepted = refl;
  happened = refl;
}

all_zero : (count i c : ℕ) → nth i (replicate count 0) ≡ Some c → c ≡ 0
all_zero zero i c e = absurd cc
all_zero (suc k) i c e = by (λ f. all_zero k (i - 1) c f) (nat_eq i 1) e
  where
    by : (nth (i - 1) (replicate k 0) ≡ Some c → c ≡ 0) → (b : Bool) → (if b then Some 0 else nth (i - 1) (replicate k 0)) ≡ Some c → c ≡ 0
    by later true f = sym (same_some 0 c f)
    by later false f = later f

nodes_length : (base_of : ℕ → List ℕ) (k m : ℕ) → length (new_nodes base_of k m) ≡ k
nodes_length base_of zero m = refl
nodes_length base_of (suc k) m = ap suc (nodes_length base_of k (m + 1))

abbrev stands : (count : ℕ) (h : Host) (hosts : List Host) → length hosts ≡ count → IsFresh h → AllByRecursion IsFresh hosts → Stands count hosts []
stands count h hosts long fresh all = record {
  net = new_net (example_hosts count);
  sites = λ i. site_or h (nth i hosts);
  serves = Serves.opened refl on;
  asks = tt;
  holds = λ i g e. record {
    place = new_place;
    here = ap (λ k. nth i (new_places k)) (sym long) ∙ place_at hosts i g e;
    node = sym (ap (option_map seen) (fresh_at hosts i g all e).node);
    site = ap (site_or h) e;
    serving = subst (λ o. IfSome o IsServing) (sym (fresh_at hosts i g all e).node) tt;
  };
  letters = tt;
}
  where
    on : (i : ℕ) → IsOn no_files (told_of (site_or h (nth i hosts)))
    on i = by (nth i hosts) refl
      where
        by : (o : Option Host) → nth i hosts ≡ o → IsOn no_files (told_of (site_or h o))
        by None e = new_on h.site fresh.site
        by (Some g) e = new_on g.site (fresh_at hosts i g all e).site

no_node : (o : Option Node) (n : Node) → o ≡ None → o ≡ Some n → ⊥
no_node o n e f = absurd cc

opened_with : (count : ℕ) (h : Host) (hosts : List Host) → length hosts ≡ count → IsFresh h → AllByRecursion IsFresh hosts → Mirrors count hosts (replicate count 0) [] (opening (example_hosts count))
opened_with count h hosts long fresh all = record {
  many = long;
  stands = stands count h hosts long fresh all;
  world = opening_world (example_hosts count);
  times = length-replicate count 0;
  nodes = nodes_length example_base count 1;
  reach = λ to. refl;
  clocks_are = λ i c x e f. ap (λ (y : Known). y.clock) (opening_node (example_hosts count) i x f) ∙ sym (all_zero count i c e);
  limits = λ i g n e up. absurd (no_node g.node n (fresh_at hosts i g all e).node up);
  of_two = λ i g p e down at.
      on_two p.records no_files g.site (new_on g.site (fresh_at hosts i g all e).site) (inr (ap (λ (q : Place). q.records) (opens_at example_base count 1 i p at).0, empty_stands));
}

pub opened : (count : ℕ) (hosts : List Host) → length hosts ≡ count → 1 ≤ count → count ≤ 8 → AllByRecursion IsFresh hosts → Mirrors count hosts (replicate count 0) [] (opening (example_hosts count))
opened count [] long least few all = absurd (omega (arith, long, least))
opened count (h ∷ hosts) long least few (fresh, all) = opened_with count h (h ∷ hosts) long fresh (fresh, all)
