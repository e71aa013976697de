-- What a play takes from what its nodes did, and its loops.
use Rattle.std.proofs.Common.{ℕ, zero, suc, ◌+◌, ◌-◌, ◌≡◌, ◌≤◌, ◌<◌, ◌++◌, ◌∷◌, List, [], refl, drop, drop-cons, get_or, length, map, ap, subst, sym, arith, ◌∙◌}
use Rattle.std.proofs.lemmas.List.{length-map}
use Rattle.std.specs.Prelude.{Bool, Option, Some, None, is_some, option_map, slice_set}
use Rattle.armed_calls.specs.declared.fault.Armed.{Armed as Known}
use Rattle.armed_calls.specs.declared.fault.Fault.{Fault}
use Rattle.asked_nets.specs.ArmedCalls.{call_of}
use Rattle.asked_nets.specs.Behind.{events_by, world_behind}
use Rattle.asked_nets.specs.Happened.{Happened, MirrorsAt}
use Rattle.at_model.specs.Views.{up}
use Rattle.at_model.specs.World.{World, WorldEvent, example_hosts, node_of, opening}
use Rattle.mirrored_nets.specs.NetSteps.{IsUnstarted}
use Rattle.mirrored_nets.specs.Seen.{Seen}
use Rattle.replay_cmd.specs.Deliveries.{lowest}
use Rattle.replay_cmd.specs.ReportOf.{nobody_armed}
use Rattle.schedules.specs.declared.line.Line.{Line}
use Rattle.world_laws.specs.Events.{event_of, ms_of}
use Rattle.world_laws.specs.Runs.{Run, incarnation_at, world_of}
use Rattle.world_laws.specs.declared.event.WorldEvent.{WorldEvent as Given}
use Rattle.world_laws.proofs.RunNodes.{opening_fits}
use Rattle.net_plays.specs.Asks.{CanAsk}
use Rattle.net_plays.specs.Behind.{IsArmedBehind, IsBehind, PlaysGoOn}
use Rattle.net_plays.specs.EventTexts.{event_lines}
use Rattle.net_plays.specs.PlayedLines.{Delivers, DeliversWhere, Flushes, Takes, TakesAll}
use Rattle.net_plays.specs.Plays.{AllHappen, Happens, IsOpening, Play, armed_behind, fault_of, ups_from}
use Rattle.net_plays.proofs.EarlyNodes.{opening_early}

-- its nodes and its world behind what happened
pub goes_on : PlaysGoOn
    → (count n : ℕ) (w v : World) (es fs : List WorldEvent) (armed : Option Known) (asked : WorldEvent) (raw : List ℕ) (old new : Seen) (event : WorldEvent) (down : Bool) (calls : ℕ)
    → n ≡ count → v ≡ world_behind down w event → fs ≡ es ++ events_by down event → ms_of event ≤ 4294967295 → IsBehind count old w es → IsArmedBehind armed es → CanAsk count w asked raw
    → Happened count w (call_of armed) asked raw old new event down calls → IsBehind n new v fs
goes_on law count n w v es fs armed asked raw old new event down calls many is events short b behind can h =
    subst (λ k. IsBehind k new v fs) (sym many)
    (subst (λ u. IsBehind count new u fs) (sym is)
    (subst (λ l. IsBehind count new (world_behind down w event) l) (sym events) (law count old new w es armed asked event raw down calls short b behind can.of h)))

-- what is known of a play of these fields

pub can_inside : (p r : Play) (asked : WorldEvent) (raw : List ℕ) → p ≡ r → CanAsk r.count r.world asked raw → CanAsk p.count p.world asked raw
can_inside p r asked raw same can = subst (λ (q : Play). CanAsk q.count q.world asked raw) (sym same) can

pub behind_inside : (p r : Play) (armed : Option Known) → p ≡ r → IsArmedBehind armed r.events → IsArmedBehind armed p.events
behind_inside p r armed same behind = subst (λ (q : Play). IsArmedBehind armed q.events) (sym same) behind

pub few_events : (given now : List Given) → now ≡ given → length now ≤ 4294967295 → length (map event_of given) ≤ 4294967295
few_events given now is few = omega (arith, ap length is, few, length-map given event_of)

pub happens :
    (armed : Option Known) (asked : WorldEvent) (raw : List ℕ) (drawn : ℕ) (p r q : Play) (node : ℕ) (inc : Option ℕ) (was_up : Bool) (still : Option Known) (fault : Option Fault)
    (event : WorldEvent) (down : Bool) (calls : ℕ)
    → p ≡ r → node ≡ node_of asked → inc ≡ incarnation_at p.world node → was_up ≡ is_some inc → still ≡ armed_behind armed was_up calls asked → fault ≡ option_map fault_of armed
    → Happened p.count p.world (call_of armed) asked raw p.net q.net event down calls → q.count ≡ p.count → q.world ≡ world_behind down p.world event → q.events ≡ p.events ++ events_by down event
    → q.delivered ≡ p.delivered → q.armed ≡ slice_set p.armed (node - 1) still → q.text ≡ p.text ++ event_lines down fault drawn p.world event
    → Happens armed asked raw drawn r q
happens armed asked raw drawn p r q node inc was_up still fault event down calls same is_node is_inc is_up is_still is_fault h count world events delivered arms text = subst (λ x. Happens armed asked raw drawn x q) same (record {
  event = event;
  down = down;
  calls = calls;
  happened = h;
  count = count;
  world = world;
  events = events;
  delivered = delivered;
  armed_is =
      arms
      ∙ (ap (λ o. slice_set p.armed (node - 1) o)
      (is_still ∙ ap (λ b. armed_behind armed b calls asked) (is_up ∙ ap is_some (is_inc ∙ ap (incarnation_at p.world) is_node)))
      ∙ ap (λ n. slice_set p.armed (n - 1) (armed_behind armed (is_some (incarnation_at p.world (node_of asked))) calls asked)) is_node);
  text = text ∙ ap (λ f. p.text ++ event_lines down f drawn p.world event) is_fault;
})

-- so many nodes in a world where nothing happened

pub opened : (r : Run) (count : ℕ) → r ≡ record { count = count; events = [] } → world_of r ≡ opening (example_hosts count)
unfolding world_of
opened r count h = ap world_of h

pub behind_opening : (r : Run) (count : ℕ) (net : Seen) → r ≡ record { count = count; events = [] } → count ≤ 8 → MirrorsAt count net (opening (example_hosts count))
    → IsBehind r.count net (world_of r) (map event_of r.events)
unfolding world_of
behind_opening r count net h few m =
    subst (λ (x : Run). IsBehind x.count net (world_of x) (map event_of x.events)) (sym h)
    (record { run = refl; mirrors = m; fit = opening_fits count few; early = opening_early count })

pub opens : (count : ℕ) (r : Run) (net : Seen) (ds : List Bool) (arms : List (Option Known)) (text : List ℕ)
    → r ≡ record { count = count; events = [] } → IsUnstarted count net → ds ≡ [] → arms ≡ nobody_armed → text ≡ []
    → IsOpening count (record { count = r.count; net = net; world = world_of r; events = map event_of r.events; delivered = ds; armed = arms; text = text })
opens count r net ds arms text h unstarted none nobody empty = record {
  unstarted = unstarted;
  is = λ i. record {
    count = (ap (λ (x : Run). x.count) h) i;
    net = net;
    world = (opened r count h) i;
    events = (ap (λ (x : Run). map event_of x.events) h) i;
    delivered = none i;
    armed = nobody i;
    text = empty i;
  };
}

-- the loops, one time after another

pub ups_more : (m i : ℕ) → i < m → ups_from (m - i) (i + 1) ≡ up (i + 1) ∷ ups_from (m - (i + 1)) (i + 1 + 1)
ups_more m i h = let d : m - i ≡ suc (m - (i + 1)) = omega arith in ap (λ k. ups_from k (i + 1)) d

pub ups_next : (m i : ℕ) (p q c : Play) → i < m → Happens None (up (i + 1)) [] 0 c q → ((last : Play) → AllHappen (ups_from (m - i) (i + 1)) c last → AllHappen (ups_from m 1) p last)
    → (last : Play) → AllHappen (ups_from (m - (i + 1)) (i + 1 + 1)) q last → AllHappen (ups_from m 1) p last
ups_next m i p q c less first so last rest = so last (subst (λ es. AllHappen es c last) (sym (ups_more m i less)) (q, first, rest))

pub ups_end : (m i : ℕ) (p c : Play) → m ≤ i → ((last : Play) → AllHappen (ups_from (m - i) (i + 1)) c last → AllHappen (ups_from m 1) p last) → AllHappen (ups_from m 1) p c
ups_end m i p c past so = let none : m - i ≡ 0 = omega arith in so c (subst (λ k. AllHappen (ups_from k (i + 1)) c c) (sym none) refl)

pub flush_next : (m i k : ℕ) (p c q : Play) → i < m → Some k ≡ lowest (length c.world.posted) 1 c.delivered → Delivers k c q
    → ((last : Play) → Flushes (m - i) c last → Flushes m p last) → (last : Play) → Flushes (m - (i + 1)) q last → Flushes m p last
flush_next m i k p c q less is first so last rest =
    let d : m - i ≡ suc (m - (i + 1)) = omega arith in
    so last (subst (λ n. Flushes n c last) (sym d) (q, subst (λ o. DeliversWhere o c q) is first, rest))

none_left : (m : ℕ) (c : Play) → None ≡ lowest (length c.world.posted) 1 c.delivered → Flushes m c c
none_left zero c is = refl
none_left (suc m) c is = (c, subst (λ o. DeliversWhere o c c) is refl, none_left m c is)

pub flush_none : (m i : ℕ) (p c : Play) → None ≡ lowest (length c.world.posted) 1 c.delivered → ((last : Play) → Flushes (m - i) c last → Flushes m p last) → Flushes m p c
flush_none m i p c is so = so c (none_left (m - i) c is)

pub flush_end : (m i : ℕ) (p c : Play) → m ≤ i → ((last : Play) → Flushes (m - i) c last → Flushes m p last) → Flushes m p c
flush_end m i p c past so = let none : m - i ≡ 0 = omega arith in so c (subst (λ n. Flushes n c c) (sym none) refl)

pub happen_next : (all : List Given) (i : ℕ) (e d : Given) (p c q : Play) → i < length all → e ≡ get_or all i d → Happens None (event_of e) [] 0 c q
    → ((last : Play) → AllHappen (map event_of (drop i all)) c last → AllHappen (map event_of all) p last)
    → (last : Play) → AllHappen (map event_of (drop (i + 1) all)) q last → AllHappen (map event_of all) p last
happen_next all i e d p c q within is first so last rest =
    let next : suc i ≡ i + 1 = omega arith in
    let here : drop i all ≡ e ∷ drop (i + 1) all = drop-cons all i d within ∙ ((λ j. sym is j ∷ drop (next j) all)) in
    so last (subst (λ es. AllHappen (map event_of es) c last) (sym here) (q, first, rest))

pub take_next : (all : List Line) (i : ℕ) (line d : Line) (p c q : Play) → i < length all → line ≡ get_or all i d → Takes line c q
    → ((last : Play) → TakesAll (drop i all) c last → TakesAll all p last)
    → (last : Play) → TakesAll (drop (i + 1) all) q last → TakesAll all p last
take_next all i line d p c q within is first so last rest =
    let next : suc i ≡ i + 1 = omega arith in
    let here : drop i all ≡ line ∷ drop (i + 1) all = drop-cons all i d within ∙ ((λ j. sym is j ∷ drop (next j) all)) in
    so last (subst (λ ls. TakesAll ls c last) (sym here) (q, first, rest))
