-- Two plays that are alike, in which the same is asked for, stay alike.
use Rattle.std.proofs.Common.{ℕ, ◌+◌, ◌-◌, ◌++◌, ◌≡◌, ◌≤◌, ◌<◌, refl, List, [], ◌∷◌, length, map, ap, subst, sym, arith, ◌∙◌}
use Rattle.std.proofs.lemmas.List.{append_assoc}
use Rattle.std.specs.Prelude.{Bool, true, false, Option, Some, None, is_some, option_map, slice_set}
use Rattle.armed_calls.specs.declared.fault.Armed.{Armed as Known}
use Rattle.asked_nets.specs.ArmedCalls.{call_of}
use Rattle.asked_nets.specs.Behind.{events_by, world_behind}
use Rattle.asked_nets.specs.Happened.{MirrorsAt}
use Rattle.at_base.specs.declared.record.Record.{Record}
use Rattle.at_model.specs.Runs.{RunsGrow}
use Rattle.at_model.specs.World.{Crash, Hosts, Node, World, WorldEvent, example_hosts, node_of, nth, run_of, world_step}
use Rattle.memory_net.specs.Mails.{mail_of}
use Rattle.memory_net.specs.declared.host.Host.{Host}
use Rattle.mirrored_nets.specs.Seen.{Seen}
use Rattle.mirrored_nets.specs.LeftStarts.{DownAreMarked}
use Rattle.model_laws.specs.Growth.{Grows, HasGrown, TakesNothingBack}
use Rattle.world_laws.specs.Runs.{incarnation_at}
use Rattle.net_plays.specs.EventTexts.{event_lines}
use Rattle.net_plays.specs.Plays.{Happens, Play, armed_behind, fault_of}
use Rattle.report_laws.specs.AlikeNets.{IsSameNet}
use Rattle.report_laws.proofs.AlikeHosts.{nth_least, nth_within}
use Rattle.report_laws.proofs.NodeLaws.{CameSame, CanStart, Mirrored, NodeLaws}
use Rattle.report_laws.proofs.SameSteps.{steps_same}

-- They tell the same of their worlds and print the same, and their nets are alike, each of which mirrors its world.
pub record AreAlike (p q : Play) : Type 0 where
  pub few : p.count ≤ 8
  pub count : p.count ≡ q.count
  pub net : IsSameNet p.net q.net
  pub mirrors : MirrorsAt p.count p.net p.world
  pub also : MirrorsAt q.count q.net q.world
  pub world : p.world ≡ q.world
  pub events : p.events ≡ q.events
  pub delivered : p.delivered ≡ q.delivered
  pub armed : p.armed ≡ q.armed
  pub text : p.text ≡ q.text

-- a play whose net mirrors its world
mirrored : (p : Play) → p.count ≤ 8 → MirrorsAt p.count p.net p.world → Mirrored p.net
mirrored p few M = record { count = p.count; few = few; world = p.world; mirrors = M }

mirrors_behind : (p r : Play) (v : World) → r.count ≡ p.count → r.world ≡ v → MirrorsAt p.count r.net v → MirrorsAt r.count r.net r.world
mirrors_behind p r v count world M = subst (λ n. MirrorsAt n r.net r.world) (sym count) (subst (MirrorsAt p.count r.net) (sym world) M)

module _ (L : NodeLaws) (armed : Option Known) (asked : WorldEvent) (raw : List ℕ) (drawn : ℕ) (p r q s : Play) (alike : AreAlike p q) (H : Happens armed asked raw drawn p r) (K : Happens armed asked raw drawn q s)
    (can : CanStart (node_of asked) p.net) where
  came : CameSame H.event K.event H.down K.down H.calls K.calls r.net s.net
  came =
      steps_same L (call_of armed) raw p.net r.net q.net s.net alike.net (mirrored p alike.few alike.mirrors) (mirrored q (subst (λ n. n ≤ 8) alike.count alike.few) alike.also) asked H.event K.event H.down K.down H.calls K.calls
      H.happened.of K.happened.of H.happened.step K.happened.step can

  pub stay_alike : AreAlike r s
  stay_alike = record {
    few = subst (λ n. n ≤ 8) (sym H.count) alike.few;
    count = H.count ∙ (alike.count ∙ sym K.count);
    net = came.net;
    mirrors = mirrors_behind p r (world_behind H.down p.world H.event) H.count H.world H.happened.mirrors;
    also = mirrors_behind q s (world_behind K.down q.world K.event) K.count K.world K.happened.mirrors;
    world = H.world ∙ ((λ j. world_behind (came.down_is j) (alike.world j) (came.event_is j)) ∙ sym K.world);
    events = H.events ∙ ((λ j. alike.events j ++ events_by (came.down_is j) (came.event_is j)) ∙ sym K.events);
    delivered = H.delivered ∙ (alike.delivered ∙ sym K.delivered);
    armed =
        H.armed_is
        ∙ ((λ j. slice_set (alike.armed j) (node_of asked - 1) (armed_behind armed (is_some (incarnation_at (alike.world j) (node_of asked))) (came.calls_are j) asked)) ∙ sym K.armed_is);
    text = H.text ∙ ((λ j. alike.text j ++ event_lines (came.down_is j) (option_map fault_of armed) drawn (alike.world j) (came.event_is j)) ∙ sym K.text);
  }

-- the node of that number is there, and its journal has records
pub record HasRecords (w : World) (n : ℕ) : Type 0 where
  pub node : Node
  pub found : nth n w.nodes ≡ Some node
  pub some : node.journal ≡ [] → ⊥

none_of : (rs more : List Record) → rs ++ more ≡ [] → rs ≡ []
none_of [] more e = refl
none_of (r ∷ rs) more e = absurd cc

grown_records : (u w : World) (n : ℕ) → Grows u w → HasRecords u n → HasRecords w n
grown_records u w n grows h =
    let g : HasGrown w n h.node = grows.nodes n h.node h.found in
    record { node = g.node; found = g.found; some = λ e. h.some (none_of h.node.journal g.more (sym g.journal ∙ e)) }

-- the world behind an event is that of the run with it
run_behind : RunsGrow → (hosts : Hosts) (down : Bool) (w : World) (es : List WorldEvent) (e : WorldEvent) → w ≡ run_of hosts es → world_behind down w e ≡ run_of hosts (es ++ events_by down e)
run_behind grow hosts false w es e h = ap (λ v. world_step v e) h ∙ sym (grow hosts es e)
run_behind grow hosts true w es e h =
    ap (λ v. world_step v (Crash (node_of e))) (ap (λ v. world_step v e) h ∙ sym (grow hosts es e))
    ∙ (sym (grow hosts (es ++ e ∷ []) (Crash (node_of e))) ∙ ap (run_of hosts) (append_assoc es (e ∷ []) (Crash (node_of e) ∷ [])))

pub happens_run : RunsGrow → (armed : Option Known) (asked : WorldEvent) (raw : List ℕ) (drawn : ℕ) (p r : Play) → Happens armed asked raw drawn p r → p.world ≡ run_of (example_hosts p.count) p.events
    → r.world ≡ run_of (example_hosts r.count) r.events
happens_run grow armed asked raw drawn p r H run =
    H.world
    ∙ (run_behind grow (example_hosts p.count) H.down p.world p.events H.event run
    ∙ (λ j. run_of (example_hosts (sym H.count j)) (sym H.events j)))

-- what a node has it keeps
pub happens_records : TakesNothingBack → RunsGrow → (armed : Option Known) (asked : WorldEvent) (raw : List ℕ) (drawn : ℕ) (p r : Play) → Happens armed asked raw drawn p r → p.world ≡ run_of (example_hosts p.count) p.events
    → (n : ℕ) → HasRecords p.world n → HasRecords r.world n
happens_records law grow armed asked raw drawn p r H run n has =
    let behind : run_of (example_hosts p.count) (p.events ++ events_by H.down H.event) ≡ r.world = sym (run_behind grow (example_hosts p.count) H.down p.world p.events H.event run) ∙ sym H.world in
    subst (λ w. HasRecords w n) behind
    (grown_records (run_of (example_hosts p.count) p.events) (run_of (example_hosts p.count) (p.events ++ events_by H.down H.event)) n (law.grows (example_hosts p.count) p.events (events_by H.down H.event))
    (subst (λ w. HasRecords w n) run has))

-- Two plays that are alike, each of whose nodes has started.
pub record GoOnAlike (p q : Play) : Type 0 where
  pub alike : AreAlike p q
  pub run : p.world ≡ run_of (example_hosts p.count) p.events
  pub begun : (n : ℕ) → 1 ≤ n → n ≤ p.count → HasRecords p.world n

pub record WorldLaws : Type 0 where
  pub marked : DownAreMarked
  pub back : TakesNothingBack
  pub grow : RunsGrow

module _ (L : NodeLaws) (W : WorldLaws) where
  can_start : (p : Play) → p.count ≤ 8 → MirrorsAt p.count p.net p.world → ((n : ℕ) → 1 ≤ n → n ≤ p.count → HasRecords p.world n) → (i : ℕ) → CanStart i p.net
  can_start p few M begun i h here down since fails =
      let within = nth_within i p.net.hosts h here in
      let many = M.many in
      let has = begun i (nth_least i p.net.hosts h here) (omega (arith, within, many)) in
      let (last, marked) = W.marked p.count p.net.hosts p.net.clocks (map mail_of p.net.letters) p.world i h has.node few M here down has.found has.some in
      L.nodes.marked last since fails h.site marked

  pub go_on : (armed : Option Known) (asked : WorldEvent) (raw : List ℕ) (drawn : ℕ) (p r q s : Play) → GoOnAlike p q → Happens armed asked raw drawn p r → Happens armed asked raw drawn q s → GoOnAlike r s
  go_on armed asked raw drawn p r q s G H K = record {
    alike = stay_alike L armed asked raw drawn p r q s G.alike H K (can_start p G.alike.few G.alike.mirrors G.begun (node_of asked));
    run = happens_run W.grow armed asked raw drawn p r H G.run;
    begun = λ n least most. happens_records W.back W.grow armed asked raw drawn p r H G.run n (G.begun n least (subst (λ c. n ≤ c) H.count most));
  }
