-- A net in memory of which one host changes, as the world does of which the node there moved.
use Rattle.std.specs.Prelude.{ℕ, List, [], ◌∷◌, ◌≡◌, ◌≤◌, ◌<◌, ◌-◌, ◌⊎◌, Option, IfSome, Some, None, Bool, true, false, if◌then◌else◌, nat_eq, length, option_map}
use Rattle.std.proofs.Common.{refl, sym, ap, subst, ◌∙◌, inl, inr, arith}
use Rattle.std.proofs.lemmas.Bool.{cases_eq, cases_lt, eqb-true, eqb-false}
use Rattle.at_model.specs.World.{Node as Known, World, WorldEvent, example_hosts, nth, put_nth, world_step}
use Rattle.deliveries.specs.ByteNets.{Serves}
use Rattle.memory_net.specs.Calls.{IsServing}
use Rattle.memory_net.specs.Closed.{AsksOf, closed}
use Rattle.memory_net.specs.Mails.{Mail}
use Rattle.memory_net.specs.Stands.{AreMailsOf, Holds}
use Rattle.memory_net.specs.declared.host.Host.{Host}
use Rattle.memory_net.proofs.Standing.{same_some}
use Rattle.mirrored_nets.specs.Mirrors.{AreOfTwo, Mirrors}
use Rattle.node_at.specs.State.{seen}
use Rattle.node_at.specs.declared.node.Node.{Node}
use Rattle.node_events.specs.NodeEvents.{Leads, MovesOne}
use Rattle.node_worlds.specs.Nets.{IsWorldOf, Net, Place}
use Rattle.node_worlds.proofs.Places.{nth_other, nth_this}
use Rattle.site_memory.specs.Sites.{told_of}
use Rattle.site_memory.specs.declared.machine.MemSite.{MemSite}

pub length_put : {A : Type 0} (n : ℕ) (y : A) (xs : List A) → length (put_nth n y xs) ≡ length xs
length_put n y [] = refl
length_put n y (x ∷ xs) = by (nat_eq n 1) (length_put (n - 1) y xs)
  where
    by : (b : Bool) → length (put_nth (n - 1) y xs) ≡ length xs → length (if b then y ∷ xs else x ∷ put_nth (n - 1) y xs) ≡ length (x ∷ xs)
    by true e = refl
    by false e = omega (arith, e)

-- there is an item up to the length
pub nth_within : {A : Type 0} (xs : List A) (n : ℕ) → 1 ≤ n → n ≤ length xs → nth n xs ≡ None → ⊥
nth_within [] n least most e = omega (arith, least, most)
nth_within (x ∷ xs) n least most e = by (λ l m. nth_within xs (n - 1) l m) (nat_eq n 1) refl e
  where
    by : (1 ≤ n - 1 → n - 1 ≤ length xs → nth (n - 1) xs ≡ None → ⊥) → (b : Bool) → nat_eq n 1 ≡ b → (if b then Some x else nth (n - 1) xs) ≡ None → ⊥
    by later true is f = cc
    by later false is f = let other = eqb-false n 1 is in later (omega (arith, least, other)) (omega (arith, least, most)) f

-- and none past it
pub nth_past : {A : Type 0} (xs : List A) (n : ℕ) → length xs < n → nth n xs ≡ None
nth_past [] n past = refl
nth_past (x ∷ xs) n past = by (nth_past xs (n - 1)) (nat_eq n 1) refl
  where
    by : (length xs < n - 1 → nth (n - 1) xs ≡ None) → (b : Bool) → nat_eq n 1 ≡ b → (if b then Some x else nth (n - 1) xs) ≡ None
    by later true is = let one = eqb-true n 1 is in absurd (omega (arith, past, one))
    by later false is = later (omega (arith, past))

-- lists that have the same numbers are as long as each other
no_longer : {A : Type 0} (xs ys : List A) → ((n : ℕ) → nth n xs ≡ None → nth n ys ≡ None) → length ys ≤ length xs
no_longer xs ys same = by (cases_lt (length xs) (length ys))
  where
    by : (length xs < length ys) ⊎ (length ys ≤ length xs) → length ys ≤ length xs
    by (inl less) = absurd (nth_within ys (length ys) (omega (arith, less)) (omega arith) (same (length ys) (nth_past xs (length ys) less)))
    by (inr most) = most

some_not_none : {A : Type 0} (x : A) (o : Option A) → o ≡ Some x → o ≡ None → ⊥
some_not_none x o e f = cc

pub same_length : {A : Type 0} (xs ys : List A) (i : ℕ) (x y : A) → nth i xs ≡ Some x → nth i ys ≡ Some y → ((j : ℕ) → (j ≡ i → ⊥) → nth j ys ≡ nth j xs) → length ys ≡ length xs
same_length xs ys i x y here there others = omega (arith, no_longer xs ys down, no_longer ys xs up)
  where
    down : (n : ℕ) → nth n xs ≡ None → nth n ys ≡ None
    down n e = by (cases_eq n i)
      where
        by : (n ≡ i) ⊎ (n ≡ i → ⊥) → nth n ys ≡ None
        by (inl f) = absurd (some_not_none x (nth n xs) (ap (λ k. nth k xs) f ∙ here) e)
        by (inr f) = others n f ∙ e

    up : (n : ℕ) → nth n ys ≡ None → nth n xs ≡ None
    up n e = by (cases_eq n i)
      where
        by : (n ≡ i) ⊎ (n ≡ i → ⊥) → nth n xs ≡ None
        by (inl f) = absurd (some_not_none y (nth n ys) (ap (λ k. nth k ys) f ∙ there) e)
        by (inr f) = sym (others n f) ∙ e

module _ (count : ℕ) (hosts : List Host) (clocks : List ℕ) (mails more : List Mail) (w : World) (M : Mirrors count hosts clocks mails w) (i : ℕ) (h g : Host) (here : nth i hosts ≡ Some h)
    (c now : ℕ) (time : nth i clocks ≡ Some c) (x : Known) (known : nth i w.nodes ≡ Some x) (v : World) (net : Net) (sites : ℕ → MemSite) (serves : Serves told_of (example_hosts count) net sites)
    (asks : AsksOf closed told_of (example_hosts count) net sites serves) (p q : Place) (at : nth i M.stands.net.places ≡ Some p) (placed : net.places ≡ put_nth i q M.stands.net.places)
    (node : q.node ≡ option_map seen g.node) (serving : IfSome g.node IsServing) (site : sites i ≡ g.site) (others : (j : ℕ) → (j ≡ i → ⊥) → sites j ≡ M.stands.sites j)
    (letters : AreMailsOf net.posted more) (limit : (m : Node) → g.node ≡ Some m → m.journal.limit ≡ 4294967295) (world : IsWorldOf (example_hosts count) net v)
    (moves : MovesOne i now w v) (two : g.node ≡ None → AreOfTwo q.records g.site) where
  this : Holds net sites i g
  this = record { place = q; here = ap (nth i) placed ∙ nth_this M.stands.net.places i p q at; node = node; site = site; serving = serving }

  held : (j : ℕ) (y : Host) → nth j (put_nth i g hosts) ≡ Some y → Holds net sites j y
  held j y f = by (cases_eq j i)
    where
      by : (j ≡ i) ⊎ (j ≡ i → ⊥) → Holds net sites j y
      by (inl k) =
          let same : g ≡ y = same_some g y (sym (nth_this hosts i h g here) ∙ ap (λ n. nth n (put_nth i g hosts)) (sym k) ∙ f) in
          subst (λ n. Holds net sites n y) (sym k) (subst (Holds net sites i) same this)
      by (inr k) =
          let old = M.stands.holds j y (sym (nth_other hosts j i g k) ∙ f) in
          record {
            place = old.place;
            here = ap (nth j) placed ∙ nth_other M.stands.net.places j i q k ∙ old.here;
            node = old.node;
            site = others j k ∙ old.site;
            serving = old.serving;
          }

  told : (j d : ℕ) (y : Known) → nth j (put_nth i now clocks) ≡ Some d → nth j v.nodes ≡ Some y → y.clock ≡ d
  told j d y f l = by (cases_eq j i)
    where
      by : (j ≡ i) ⊎ (j ≡ i → ⊥) → y.clock ≡ d
      by (inl k) =
          let time_is : now ≡ d = same_some now d (sym (nth_this clocks i c now time) ∙ ap (λ n. nth n (put_nth i now clocks)) (sym k) ∙ f) in
          let node_is : moves.node ≡ y = same_some moves.node y (sym moves.this ∙ ap (λ n. nth n v.nodes) (sym k) ∙ l) in
          ap (λ (z : Known). z.clock) (sym node_is) ∙ moves.clock ∙ time_is
      by (inr k) = M.clocks_are j d y (sym (nth_other clocks j i now k) ∙ f) (sym (moves.others j k) ∙ l)

  bounded : (j : ℕ) (y : Host) (m : Node) → nth j (put_nth i g hosts) ≡ Some y → y.node ≡ Some m → m.journal.limit ≡ 4294967295
  bounded j y m f up = by (cases_eq j i)
    where
      by : (j ≡ i) ⊎ (j ≡ i → ⊥) → m.journal.limit ≡ 4294967295
      by (inl k) =
          let same : g ≡ y = same_some g y (sym (nth_this hosts i h g here) ∙ ap (λ n. nth n (put_nth i g hosts)) (sym k) ∙ f) in
          limit m (ap (λ (z : Host). z.node) same ∙ up)
      by (inr k) = M.limits j y m (sym (nth_other hosts j i g k) ∙ f) up

  of_version : (j : ℕ) (y : Host) (r : Place) → nth j (put_nth i g hosts) ≡ Some y → y.node ≡ None → nth j net.places ≡ Some r → AreOfTwo r.records y.site
  of_version j y r f down l = by (cases_eq j i)
    where
      by : (j ≡ i) ⊎ (j ≡ i → ⊥) → AreOfTwo r.records y.site
      by (inl k) =
          let same : g ≡ y = same_some g y (sym (nth_this hosts i h g here) ∙ ap (λ n. nth n (put_nth i g hosts)) (sym k) ∙ f) in
          let place : q ≡ r = same_some q r (sym (nth_this M.stands.net.places i p q at) ∙ sym (ap (nth i) placed) ∙ ap (λ n. nth n net.places) (sym k) ∙ l) in
          subst (λ (z : Host). AreOfTwo r.records z.site) same (subst (λ (z : Place). AreOfTwo z.records g.site) place (two (ap (λ (z : Host). z.node) same ∙ down)))
      by (inr k) = M.of_two j y r (sym (nth_other hosts j i g k) ∙ f) down (sym (nth_other M.stands.net.places j i q k) ∙ sym (ap (nth j) placed) ∙ l)

  -- as the world does that the net is then
  pub remirror_to : Mirrors count (put_nth i g hosts) (put_nth i now clocks) more v
  remirror_to = record {
    many = length_put i g hosts ∙ M.many;
    stands = record { net = net; sites = sites; serves = serves; asks = asks; holds = held; letters = letters };
    world = world;
    times = length_put i now clocks ∙ M.times;
    nodes = same_length w.nodes v.nodes i x moves.node known moves.this moves.others ∙ M.nodes;
    reach = λ to. moves.reach to ∙ M.reach to;
    clocks_are = told;
    limits = bounded;
    of_two = of_version;
  }

-- as an event leads
module _ (count : ℕ) (hosts : List Host) (clocks : List ℕ) (mails more : List Mail) (w : World) (M : Mirrors count hosts clocks mails w) (i : ℕ) (h g : Host) (here : nth i hosts ≡ Some h)
    (c now : ℕ) (time : nth i clocks ≡ Some c) (x : Known) (known : nth i w.nodes ≡ Some x) (e : WorldEvent) (net : Net) (sites : ℕ → MemSite) (serves : Serves told_of (example_hosts count) net sites)
    (asks : AsksOf closed told_of (example_hosts count) net sites serves) (p q : Place) (at : nth i M.stands.net.places ≡ Some p) (placed : net.places ≡ put_nth i q M.stands.net.places)
    (node : q.node ≡ option_map seen g.node) (serving : IfSome g.node IsServing) (site : sites i ≡ g.site) (others : (j : ℕ) → (j ≡ i → ⊥) → sites j ≡ M.stands.sites j)
    (letters : AreMailsOf net.posted more) (limit : (m : Node) → g.node ≡ Some m → m.journal.limit ≡ 4294967295) (leads : Leads (example_hosts count) i now w e net)
    (two : g.node ≡ None → AreOfTwo q.records g.site) where
  pub remirror : Mirrors count (put_nth i g hosts) (put_nth i now clocks) more (world_step w e)
  remirror =
      remirror_to count hosts clocks mails more w M i h g here c now time x known (world_step w e) net sites serves asks p q at placed node serving site others letters limit leads.world leads.moves two
