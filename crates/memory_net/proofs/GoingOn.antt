-- What is done to a net in memory keeps it one.
use Rattle.std.specs.Prelude.{ℕ, List, [], ◌∷◌, ◌≡◌, ◌≤◌, ◌-◌, IfSome, Option, Some, None, Bool, true, false, if◌then◌else◌, nat_eq, length, option_map}
use Rattle.std.specs.List.{AllByRecursion}
use Rattle.std.proofs.Common.{refl, sym, ap, subst, arith, ◌∙◌}
use Rattle.at_model.specs.World.{example_hosts, nth}
use Rattle.deliverables.specs.Bases.{ExamplesAreNodeBases}
use Rattle.deliveries.specs.ByteNets.{ServeAsNets, Serves, ServersAgree}
use Rattle.deliveries.specs.Letters.{CallsPost}
use Rattle.model_laws.specs.ReachedWorlds.{ExamplesAreApart}
use Rattle.node_at.specs.State.{seen}
use Rattle.node_worlds.specs.Crashes.{CrashesAreMet}
use Rattle.node_worlds.specs.Machines.{IsOn}
use Rattle.node_worlds.specs.Nets.{new_net, new_place, new_places}
use Rattle.site_memory.specs.Devices.{opening_in}
use Rattle.site_memory.specs.Disk.{ChosenAreImages, Image}
use Rattle.site_memory.specs.Sites.{IsNew, told_of}
use Rattle.site_memory.specs.Tells.{reads}
use Rattle.site_memory.specs.declared.machine.MemSite.{MemSite}
use Rattle.site_model.specs.Told.{Files}
use Rattle.memory_net.specs.Calls.{IsServing}
use Rattle.memory_net.specs.Closed.{ExamplesAskSo, HostsTellReceivers, StaysClosed}
use Rattle.memory_net.specs.Goings.{GoOn}
use Rattle.memory_net.specs.Hosts.{IsFresh}
use Rattle.memory_net.specs.Mails.{Mail}
use Rattle.memory_net.specs.Stands.{Agrees, Stands}
use Rattle.memory_net.specs.declared.host.Host.{Host}
use Rattle.memory_net.proofs.Asking.{asked, downed, upped, waited}
use Rattle.memory_net.proofs.Going.{are, turned}
use Rattle.memory_net.proofs.Standing.{same_some}

abbrev no_files : Files
no_files = record { first = []; second = [] }

new_on : (s : MemSite) → IsNew s → IsOn no_files (told_of s)
new_on s new =
    subst (λ o. IsOn o (told_of s)) new.opening (record {
      files = ap (λ l. Some (reads (opening_in s.device) l)) new.calls;
      images = λ d image. same d (subst (λ l. Image (opening_in s.device) l d) new.calls image);
    })
  where
    same : (d : Files) → Image (opening_in s.device) [] d → d ≡ opening_in s.device
    same d (first, second) = λ i. record { first = first i; second = second i }

-- the machine of each host, and another elsewhere
site_or : Host → Option Host → MemSite
site_or h None = h.site
site_or h (Some g) = g.site

fresh_at : (hosts : List Host) (i : ℕ) (h : Host) → AllByRecursion IsFresh hosts → nth i hosts ≡ Some h → IsFresh h
fresh_at [] i h all e = absurd cc
fresh_at (x ∷ xs) i h (fresh, all) e = by (λ f. fresh_at xs (i - 1) h all f) (nat_eq i 1) e
  where
    by : (nth (i - 1) xs ≡ Some h → IsFresh h) → (b : Bool) → (if b then Some x else nth (i - 1) xs) ≡ Some h → IsFresh h
    by later true f = subst IsFresh (same_some x h f) fresh
    by later false f = later f

place_at : (hosts : List Host) (i : ℕ) (h : Host) → nth i hosts ≡ Some h → nth i (new_places (length hosts)) ≡ Some new_place
place_at [] i h e = absurd cc
place_at (x ∷ xs) i h e = by (λ f. place_at xs (i - 1) h f) (nat_eq i 1) e
  where
    by : (nth (i - 1) xs ≡ Some h → nth (i - 1) (new_places (length xs)) ≡ Some new_place) → (b : Bool) → (if b then Some x else nth (i - 1) xs) ≡ Some h
        → (if b then Some new_place else nth (i - 1) (new_places (length xs))) ≡ Some new_place
    by later true f = refl
    by later false f = later f

opened : (count : ℕ) (h : Host) (hosts : List Host) → length hosts ≡ count → IsFresh h → AllByRecursion IsFresh hosts → Stands count hosts []
unfolding site_or
opened count h hosts long fresh all = record {
  net = new_net (example_hosts count);
  sites = λ i. site_or h (nth i hosts);
  serves = Serves.opened refl on;
  asks = tt;
  holds = λ i g e. record {
    place = new_place;
    here = ap (λ k. nth i (new_places k)) (sym long) ∙ place_at hosts i g e;
    node = sym (ap (option_map seen) (fresh_at hosts i g all e).node);
    site = ap (site_or h) e;
    serving = subst (λ o. IfSome o IsServing) (sym (fresh_at hosts i g all e).node) tt;
  };
  letters = tt;
}
  where
    on : (i : ℕ) → IsOn no_files (told_of (site_or h (nth i hosts)))
    on i = by (nth i hosts) refl
      where
        by : (o : Option Host) → nth i hosts ≡ o → IsOn no_files (told_of (site_or h o))
        by None e = new_on h.site fresh.site
        by (Some g) e = new_on g.site (fresh_at hosts i g all e).site

module _ (tell : HostsTellReceivers) (bases : ExamplesAreNodeBases) (closes : StaysClosed told_of) (nets : ServeAsNets told_of) (crashes : CrashesAreMet told_of) (calls : CallsPost told_of)
    (images : ChosenAreImages) (ask_so : ExamplesAskSo) (apart : ExamplesAreApart) (agree : ServersAgree told_of) where
  agrees : (count : ℕ) (hosts : List Host) (mails : List Mail) → count ≤ 8 → (st : Stands count hosts mails) → Agrees count hosts mails st.net
  agrees count hosts mails few st = record {
    agreed = agree (example_hosts count) st.net st.sites (are tell bases closes nets crashes calls images count few) (apart count (omega (arith, few))) st.serves;
    nodes = λ i h e. ((st.holds i h e).place, (st.holds i h e).here, (st.holds i h e).node);
    letters = st.letters;
  }

  pub go_on : GoOn
  go_on = record {
    opened = opened;
    turned = λ count hosts mails more i h g n bytes few st least here up short may T. turned tell bases closes nets crashes calls images count few hosts mails st i least h g n here up bytes more short may T;
    asked = λ count hosts mails more i h g n request few st least here up named T. asked tell bases closes nets crashes calls images count few hosts mails st i h g here least n up ask_so request named more T;
    upped = λ count hosts mails i h g few st here down T. upped tell bases closes nets crashes calls images count few hosts mails st i h g here down T;
    downed = λ count hosts mails i h g n few st least here up down fell. downed tell bases closes nets crashes calls images count few hosts mails st i h g here least n up down fell;
    waited = λ count hosts mails i h g few st here T. waited tell bases closes nets crashes calls images count few hosts mails st i h g here T;
    agree = agrees;
  }
