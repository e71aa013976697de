-- Two plays begin alike: the nodes of both come up, one after another.
use Rattle.std.proofs.Common.{ℕ, zero, suc, ◌+◌, ◌-◌, ◌≡◌, ◌≤◌, ◌<◌, ◌⊎◌, inl, inr, refl, List, [], ◌∷◌, length, map, ap, subst, sym, arith, ◌∙◌}
use Rattle.std.proofs.lemmas.Bool.{eqb-false, eqb-true}
use Rattle.std.specs.Prelude.{Bool, true, false, Option, Some, None, Result, nat_eq, replicate}
use Rattle.asked_nets.specs.Happened.{MirrorsAt}
use Rattle.asked_nets.specs.ReadSteps.{IsTold, NetStepRead}
use Rattle.at_model.specs.Views.{up}
use Rattle.at_model.specs.World.{WorldEvent, Turn, Ask, Crash, Up, example_hosts, nth, opening, put_nth, run_of, world_step}
use Rattle.asked_nets.specs.Behind.{world_behind}
use Rattle.call_readings.specs.AskedEvents.{IsOf}
use Rattle.call_readings.specs.Reads.{IsCutAt}
use Rattle.call_readings.specs.ReadsStart.{StartsAs}
use Rattle.call_readings.specs.declared.became.Became.{Became}
use Rattle.call_readings.specs.declared.became.Became.TheVariants as becomes
use Rattle.memory_net.specs.Hosts.{IsFresh}
use Rattle.memory_net.specs.Mails.{mail_of}
use Rattle.memory_net.specs.declared.host.Host.{Host}
use Rattle.mirrored_nets.specs.Goings.{IsNothing, NetsMirror}
use Rattle.mirrored_nets.specs.Mirrors.{Mirrors}
use Rattle.mirrored_nets.specs.NetSteps.{RestsNode}
use Rattle.mirrored_nets.specs.Seen.{Seen}
use Rattle.mirrored_nets.specs.declared.armed.Armed.{Armed}
use Rattle.mirrored_nets.specs.declared.armed.Armed.TheVariants as calls
use Rattle.node_at.specs.declared.fault.StartFault.{StartFault}
use Rattle.node_at.specs.declared.node.Node.{Node}
use Rattle.site_memory.specs.declared.arm.Choice.{Choice}
use Rattle.site_memory.specs.declared.machine.MemSite.{MemSite}
use Rattle.site_model.specs.Told.{Made}
use Rattle.net_plays.specs.Plays.{AllHappen, Happens, IsBegun, IsOpening, Play, ups_from}
use Rattle.report_laws.specs.AlikeNets.{IsSameNet}
use Rattle.report_laws.proofs.AlikeHosts.{fresh_nth, fresh_same, put_others}
use Rattle.report_laws.proofs.AlikePlays.{AreAlike, GoOnAlike, HasRecords, WorldLaws, happens_records, happens_run, stay_alike}
use Rattle.report_laws.proofs.NodeLaws.{CanStart, NodeLaws}
use Rattle.report_laws.proofs.StartedWorlds.{IsUnstartedAt, opening_unstarted, up_begins, up_others}

-- a start on a machine of which no call is armed is whole

not_cut : (k : ℕ) (choice : Choice) → calls.No ≡ calls.Stop k choice → ⊥
not_cut k choice e = cc

not_failing : (k : ℕ) → calls.No ≡ calls.Fail k → ⊥
not_failing k e = cc

whole_start : (made : List Made) (r : Result Node StartFault) (b : Became) (landed stop : Bool) → StartsAs calls.No made r b landed stop → (landed ≡ true) × (stop ≡ false)
whole_start made r becomes.Stays landed stop (up_is, uncut, l, s) = (l, s)
whole_start made r (becomes.Falls kept choice) landed stop (up_is, all, (k, cut), l, s) = absurd (not_cut k choice cut.armed_is)
whole_start made r becomes.Halts landed stop (e, (k, failing), last, l, s) = absurd (not_failing k failing)
whole_start made r (becomes.FallsAnew kept choice) landed stop h = absurd h
whole_start made r becomes.HaltsAnew landed stop h = absurd h

told_none : (s : MemSite) (told : Armed) → IsTold calls.No s told → told ≡ calls.No
told_none s told (inl (e, why)) = e
told_none s told (inr (e, begun)) = e

-- the node that hadn't started came up, and the others stayed
pub record RoseIn (n : ℕ) (event : WorldEvent) (down : Bool) (old new : Seen) : Type 0 where
  pub event_is : event ≡ up n
  pub stays : down ≡ false
  pub behind : Host
  pub hosts : new.hosts ≡ put_nth n behind old.hosts

nothing_down : (n : ℕ) (o : Option Node) → IsNothing (up n) o → o ≡ None → ⊥
nothing_down n None h e = h
nothing_down n (Some m) h e = absurd cc

rose : (n : ℕ) (old new : Seen) (event : WorldEvent) (down : Bool) (many : ℕ) → ((h : Host) → nth n old.hosts ≡ Some h → IsFresh h) → IsOf (up n) event → NetStepRead calls.No (up n) event down [] many old new → RoseIn n event down old new
rose n old new (Up i landed stop) down many fresh e (inl (stays, T)) =
    let none = told_none T.host.site T.struck T.struck_is in
    let (land, on) = whole_start T.took.did.made T.took.did.result T.took.did.became landed stop (subst (λ a. StartsAs a T.took.did.made T.took.did.result T.took.did.became landed stop) none T.took.reads) in
    record {
      event_is = λ j. Up (e j) (land j) (on j);
      stays = stays;
      behind = T.behind;
      hosts = ap (λ (z : Seen). z.hosts) T.are ∙ ap (λ (k : ℕ). put_nth k T.behind old.hosts) e;
    }
rose n old new event down many fresh e (inr r) =
    let R : RestsNode (up n) old new = subst (λ z. RestsNode z old new) r.same r.rests in
    absurd (nothing_down n R.host.node R.nothing (fresh R.host R.here).node)
rose n old new (Turn i input fates until) down many fresh e (inl T) = absurd e
rose n old new (Ask i request fates until) down many fresh e (inl T) = absurd e
rose n old new (Crash i) down many fresh e (inl T) = absurd e

-- So many nodes of two plays that are alike have come up; the others haven't started.
pub record RiseAlike (count n : ℕ) (p q : Play) : Type 0 where
  pub alike : AreAlike p q
  pub many : p.count ≡ count
  pub run : p.world ≡ run_of (example_hosts p.count) p.events
  pub begun : (m : ℕ) → 1 ≤ m → m < n → HasRecords p.world m
  pub unstarted : (m : ℕ) → n ≤ m → m ≤ count → IsUnstartedAt p.world m
  pub fresh : (m : ℕ) (h : Host) → n ≤ m → nth m p.net.hosts ≡ Some h → IsFresh h

module _ (L : NodeLaws) (W : WorldLaws) (count : ℕ) where
  can_begin : (n : ℕ) (p q : Play) → RiseAlike count n p q → CanStart n p.net
  can_begin n p q R h here down since fails = L.nodes.fresh since fails h.site (R.fresh n h (omega arith) here).site

  rise : (n : ℕ) (p r q s : Play) → 1 ≤ n → n ≤ count → RiseAlike count n p q → Happens None (up n) [] 0 p r → Happens None (up n) [] 0 q s → RiseAlike count (n + 1) r s
  rise n p r q s least most R H K = by (rose n p.net r.net H.event H.down H.calls (λ h here. R.fresh n h (omega arith) here) H.happened.of H.happened.step)
    where
      by : RoseIn n H.event H.down p.net r.net → RiseAlike count (n + 1) r s
      by X = record {
        alike = stay_alike L None (up n) [] 0 p r q s R.alike H K (can_begin n p q R);
        many = H.count ∙ R.many;
        run = happens_run W.grow None (up n) [] 0 p r H R.run;
        begun = λ m one less. begun_by (nat_eq m n) m one less refl;
        unstarted = λ m past within.
            subst (λ w. IsUnstartedAt w m) (sym world) (up_others p.world n m (R.unstarted n (omega arith) most) (λ e. omega (arith, past, e)) (R.unstarted m (omega (arith, past)) within));
        fresh = λ m h past at. R.fresh m h (omega (arith, past)) (sym (put_others p.net.hosts m n X.behind (λ e. omega (arith, past, e))) ∙ (ap (nth m) (sym X.hosts) ∙ at));
      }
        where
          world : r.world ≡ world_step p.world (up n)
          world = H.world ∙ (λ j. world_behind (X.stays j) p.world (X.event_is j))

          begun_by : (b : Bool) (m : ℕ) → 1 ≤ m → m < n + 1 → nat_eq m n ≡ b → HasRecords r.world m
          begun_by true m one less t = subst (HasRecords r.world) (sym (eqb-true m n t)) (subst (λ w. HasRecords w n) (sym world) (up_begins p.world n (R.unstarted n (omega arith) most)))
          begun_by false m one less t =
              let other = eqb-false m n t in happens_records W.back W.grow None (up n) [] 0 p r H R.run m (R.begun m one (omega (arith, less, other)))

  rise_all : (left n : ℕ) (p r q s : Play) → n + left ≡ count + 1 → 1 ≤ n → RiseAlike count n p q → AllHappen (ups_from left n) p r → AllHappen (ups_from left n) q s → GoOnAlike r s
  rise_all zero n p r q s all least R e f =
      subst (λ z. GoOnAlike z s) (sym e)
      (subst (GoOnAlike p) (sym f)
      (record { alike = R.alike; run = R.run; begun = λ m one most. let many = R.many in R.begun m one (omega (arith, all, most, many)) }))
  rise_all (suc left) n p r q s all least R (a, first, rest) (b, one, others) =
      rise_all left (n + 1) a r b s (omega (arith, all)) (omega arith) (rise n p a q b least (omega (arith, all)) R first one) rest others

  open_mirrors : NetsMirror → 1 ≤ count → count ≤ 8 → (p : Play) → IsOpening count p → MirrorsAt p.count p.net p.world
  open_mirrors mirror least most p o =
      subst (λ n. MirrorsAt n p.net p.world) (sym (ap (λ (z : Play). z.count) o.is))
      (subst (MirrorsAt count p.net) (sym (ap (λ (z : Play). z.world) o.is))
      (subst (λ ms. Mirrors count p.net.hosts p.net.clocks ms (opening (example_hosts count))) (sym (ap (map mail_of) o.unstarted.letters))
      (subst (λ cs. Mirrors count p.net.hosts cs [] (opening (example_hosts count))) (sym o.unstarted.clocks) (mirror.opened count p.net.hosts o.unstarted.many least most o.unstarted.fresh))))

  opens : NetsMirror → 1 ≤ count → count ≤ 8 → (p q : Play) → IsOpening count p → IsOpening count q → RiseAlike count 1 p q
  opens mirror least most p q o u = record {
    alike = record {
      few = subst (λ n. n ≤ 8) (sym count_is) most;
      count = count_is ∙ sym (ap (λ (z : Play). z.count) u.is);
      net = record {
        hosts = fresh_same p.net.hosts q.net.hosts (o.unstarted.many ∙ sym u.unstarted.many) o.unstarted.fresh u.unstarted.fresh;
        clocks = o.unstarted.clocks ∙ sym u.unstarted.clocks;
        letters = ap (map mail_of) (o.unstarted.letters ∙ sym u.unstarted.letters);
      };
      mirrors = open_mirrors mirror least most p o;
      also = open_mirrors mirror least most q u;
      world = world_is ∙ sym (ap (λ (z : Play). z.world) u.is);
      events = events_are ∙ sym (ap (λ (z : Play). z.events) u.is);
      delivered = ap (λ (z : Play). z.delivered) o.is ∙ sym (ap (λ (z : Play). z.delivered) u.is);
      armed = ap (λ (z : Play). z.armed) o.is ∙ sym (ap (λ (z : Play). z.armed) u.is);
      text = ap (λ (z : Play). z.text) o.is ∙ sym (ap (λ (z : Play). z.text) u.is);
    };
    many = count_is;
    run = world_is ∙ (λ j. run_of (example_hosts (sym count_is j)) (sym events_are j));
    begun = λ m one less. absurd (omega (arith, one, less));
    unstarted = λ m one within. subst (λ w. IsUnstartedAt w m) (sym world_is) (opening_unstarted count m one within);
    fresh = λ m h one here. fresh_nth m p.net.hosts h o.unstarted.fresh here;
  }
    where
      count_is : p.count ≡ count
      count_is = ap (λ (z : Play). z.count) o.is

      world_is : p.world ≡ opening (example_hosts count)
      world_is = ap (λ (z : Play). z.world) o.is

      events_are : p.events ≡ []
      events_are = ap (λ (z : Play). z.events) o.is

  pub begin_alike : NetsMirror → 1 ≤ count → count ≤ 8 → (p q : Play) → IsBegun count p → IsBegun count q → GoOnAlike p q
  begin_alike mirror least most p q B C = rise_all count 1 B.first p C.first q (omega arith) (omega arith) (opens mirror least most B.first C.first B.opens C.opens) B.ups C.ups
