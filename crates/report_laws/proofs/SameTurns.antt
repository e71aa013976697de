-- Two turns, or two requests, of nodes that are alike come to one event.
use Rattle.std.proofs.Common.{ℕ, zero, suc, ◌+◌, ◌++◌, ◌≡◌, ◌≤◌, refl, List, [], ◌∷◌, length, map, take, ap, subst, sym, arith, ◌∙◌}
use Rattle.std.specs.Prelude.{Bool, true, false, Option, Some, None}
use Rattle.asked_nets.specs.Behind.{goes_anew}
use Rattle.asked_nets.specs.Happened.{MirrorsAt}
use Rattle.asked_nets.specs.ReadSteps.{AsksNode, TurnsNode}
use Rattle.at_base.specs.declared.event.Local.{Local}
use Rattle.at_model.specs.World.{Input, WorldEvent, Deliver, Tick, Raw, Turn, Ask, nth, put_nth}
use Rattle.call_readings.specs.Reads.{Reads, came_to}
use Rattle.call_readings.specs.declared.became.Became.{Became}
use Rattle.call_readings.specs.declared.became.Became.TheVariants as becomes
use Rattle.determined_nodes.specs.AlikeCalls.{CanGo, EndAlike}
use Rattle.determined_nodes.specs.AlikeHosts.{IsSameHost}
use Rattle.determined_nodes.specs.RequestsAreDetermined.{HasAsked}
use Rattle.determined_nodes.specs.SameNodes.{IsSameMachine, IsSameNode}
use Rattle.determined_nodes.specs.TurnsAreDetermined.{HasTurned}
use Rattle.http_post.specs.OutBytes.{tick_of}
use Rattle.memory_net.specs.Mails.{Mail, mail_of, mails_in}
use Rattle.memory_net.specs.declared.host.Host.{Host}
use Rattle.mirrored_nets.specs.Goings.{IsBrought, IsSet, IsTick, ms_of}
use Rattle.mirrored_nets.specs.NetSteps.{IsGiven}
use Rattle.mirrored_nets.specs.Seen.{Seen}
use Rattle.mirrored_nets.specs.ToldMachines.{fails_of}
use Rattle.mirrored_nets.specs.Took.{AnswersSo, EndsSo, IsTriedLine, LeftSo, kept_of}
use Rattle.mirrored_nets.specs.declared.armed.Armed.{Armed}
use Rattle.node_at.specs.State.{seen}
use Rattle.node_at.specs.declared.local.Locally.{Locally}
use Rattle.node_at.specs.declared.local.Locally.TheVariants as answers
use Rattle.node_at.specs.declared.node.Node.{Node}
use Rattle.node_at.specs.declared.turn.Turned.{Turned}
use Rattle.node_at.specs.declared.turn.Turned.TheVariants as turneds
use Rattle.node_events.specs.NodeEvents.{one_if}
use Rattle.addressing.specs.declared.post_to.PostTo.{PostTo}
use Rattle.raw_requests.specs.Draws.{Draws}
use Rattle.raw_requests.specs.declared.Drawn.{Drawn}
use Rattle.raw_requests.specs.declared.Drawn.TheVariants as drawns
use Rattle.site_memory.specs.Devices.{calls_in}
use Rattle.site_memory.specs.Sites.{told_of}
use Rattle.site_memory.specs.declared.machine.MemSite.{MemSite}
use Rattle.site_model.specs.Told.{Made, sent_by}
use Rattle.report_laws.specs.AlikeNets.{AreSameHosts, IsSameNet}
use Rattle.report_laws.specs.Laws.{DrawOneThing}
use Rattle.report_laws.proofs.AlikeHosts.{length_same, nth_least, nth_same, of_some, put_same, up_same}
use Rattle.report_laws.proofs.NodeLaws.{CameSame, Mirrored, NodeLaws}

-- what a connection brings

same_waits : (a b : ℕ) (v w : Bool) → drawns.Refused a v ≡ drawns.Refused b w → v ≡ w
same_waits a b v w e = cc

tick_one : (xs ys : List ℕ) → IsTick xs → IsTick ys → xs ≡ ys
tick_one xs ys h k =
    let host : h.to.host ≡ k.to.host = h.host ∙ sym k.host in
    let port : h.to.port ≡ k.to.port = h.port ∙ sym k.port in
    let path : h.to.path ≡ k.to.path = h.path ∙ sym k.path in
    let to : h.to ≡ k.to = (λ i. record { host = host i; port = port i; path = path i }) in
    h.are ∙ (ap tick_of to ∙ sym k.are)

brought_one : DrawOneThing → (mails : List Mail) (i : ℕ) (input : Input) (raw : List ℕ) (lines rows : ℕ) (xs ys : List ℕ) → IsBrought mails i input lines xs → IsBrought mails i input rows ys → IsGiven input raw xs → IsGiven input raw ys
    → (lines ≡ rows) × (xs ≡ ys)
brought_one draw mails i (Deliver k) raw lines rows xs ys (m, here, to, bytes, most, none) (n, there, too, text, least, nil) given also =
    let same : m ≡ n = of_some (nth k mails) m n here there in
    (none ∙ sym nil, sym bytes ∙ (ap (λ (z : Mail). z.bytes) same ∙ text))
brought_one draw mails i (Tick ms) raw lines rows xs ys (tick, none) (other, nil) given also = (none ∙ sym nil, tick_one xs ys tick other)
brought_one draw mails i Raw raw lines rows xs ys (status, waits, draws, most, are) (code, holds, drawn, least, is) given also =
    let same : xs ≡ ys = given ∙ sym also in
    let one = draw xs (drawns.Refused status waits) (drawns.Refused code holds) draws (subst (λ z. Draws z (drawns.Refused code holds)) (sym same) drawn) in
    (are ∙ (ap one_if (same_waits status code waits holds one) ∙ sym is), same)

-- there was memory

turn_memory : (b : Became) (r : Turned) → EndsSo (came_to b) r → r ≡ turneds.NoRoom → ⊥
turn_memory becomes.Stays r h e = subst (EndsSo (came_to becomes.Stays)) e h
turn_memory (becomes.Falls kept choice) r h e = subst (EndsSo (came_to (becomes.Falls kept choice))) e h
turn_memory becomes.Halts r h e = let f : turneds.Halted ≡ turneds.NoRoom = sym h ∙ e in cc
turn_memory (becomes.FallsAnew kept choice) r h e = subst (EndsSo (came_to (becomes.FallsAnew kept choice))) e h
turn_memory becomes.HaltsAnew r h e = let f : turneds.Halted ≡ turneds.NoRoom = sym h ∙ e in cc

request_memory : (b : Became) (r : Locally) → AnswersSo (came_to b) r → r ≡ answers.NoRoom → ⊥
request_memory becomes.Stays r h e = subst (AnswersSo (came_to becomes.Stays)) e h
request_memory (becomes.Falls kept choice) r h e = subst (AnswersSo (came_to (becomes.Falls kept choice))) e h
request_memory becomes.Halts r h e = let f : answers.Halted ≡ answers.NoRoom = sym h ∙ e in cc
request_memory (becomes.FallsAnew kept choice) r h e = subst (AnswersSo (came_to (becomes.FallsAnew kept choice))) e h
request_memory becomes.HaltsAnew r h e = let f : answers.Halted ≡ answers.NoRoom = sym h ∙ e in cc

module _ (L : NodeLaws) (armed : Armed) (raw : List ℕ) (old new here there : Seen) (same : IsSameNet old here) (M : Mirrored old) (N : Mirrored here) (i : ℕ) where
  -- two turns
  module _ (input : Input) (fates others : List Bool) (until stop : Option ℕ) (down off : Bool) (calls also : ℕ)
      (T : TurnsNode armed down i input fates until raw calls old new) (U : TurnsNode armed off i input others stop raw also here there) where
    hosts_same : IsSameHost T.host U.host
    hosts_same = nth_same i old.hosts here.hosts T.host U.host same.hosts T.here U.here

    nodes_same : IsSameNode (seen T.node) (seen U.node)
    nodes_same = up_same T.host.node U.host.node T.node U.node T.up U.up hosts_same.node

    clock_is : T.clock ≡ U.clock
    clock_is = of_some (nth i old.clocks) T.clock U.clock T.time (ap (nth i) same.clocks ∙ U.time)

    brought : (T.lines ≡ U.lines) × (T.bytes ≡ U.bytes)
    brought = brought_one L.draw (map mail_of old.letters) i input raw T.lines U.lines T.bytes U.bytes T.brought (subst (λ ms. IsBrought ms i input U.lines U.bytes) (sym same.letters) U.brought) T.given U.given

    machines : IsSameMachine T.machine U.machine × (T.machine.clock ≡ U.machine.clock)
    machines = L.stay.set (T.clock + ms_of input) T.host U.host T.machine U.machine hosts_same T.set (subst (λ c. IsSet (c + ms_of input) U.host.site U.machine) (sym clock_is) U.set)

    abbrev fails : ℕ
    fails = fails_of (length (calls_in T.machine.device)) armed

    can_go : CanGo fails T.node T.machine
    can_go = L.nodes.goes M.count old.hosts old.clocks (map mail_of old.letters) M.world i T.clock T.host T.node T.machine fails M.few M.mirrors T.here T.up T.time T.set.opening T.set.calls T.took.did.room T.told

    can_too : CanGo fails U.node U.machine
    can_too =
        L.nodes.goes N.count here.hosts here.clocks (map mail_of here.letters) N.world i U.clock U.host U.node U.machine fails N.few N.mirrors U.here U.up U.time U.set.opening U.set.calls U.took.did.room
        (U.told ∙ (λ j. Some (record { since = length (calls_in U.machine.device); fails = fails_of (length (sym machines.0.calls j)) armed })))

    turned : HasTurned T.bytes fails T.took.did.result T.node T.took.did.node T.machine T.took.did.site T.took.did.made
    turned = record {
      goes = can_go;
      turns = T.took.did.turns;
      adds = T.took.did.adds;
      memory = turn_memory T.took.did.became T.took.did.result T.took.did.ends;
      remembers = T.took.did.remembers;
      tried = λ waits.
          subst (λ n. IsTriedLine n (take n T.took.did.made))
          (L.nodes.waits M.count old.hosts old.clocks (map mail_of old.letters) M.world i input T.lines T.bytes M.few M.mirrors (nth_least i old.hosts T.host T.here) T.brought waits) T.took.did.tried;
    }

    turned_too : HasTurned U.bytes fails U.took.did.result U.node U.took.did.node U.machine U.took.did.site U.took.did.made
    turned_too = record {
      goes = can_too;
      turns = U.took.did.turns;
      adds = U.took.did.adds;
      memory = turn_memory U.took.did.became U.took.did.result U.took.did.ends;
      remembers = U.took.did.remembers;
      tried = λ waits.
          subst (λ n. IsTriedLine n (take n U.took.did.made))
          (L.nodes.waits N.count here.hosts here.clocks (map mail_of here.letters) N.world i input U.lines U.bytes N.few N.mirrors (nth_least i here.hosts U.host U.here) U.brought waits) U.took.did.tried;
    }

    went : (T.took.did.result ≡ U.took.did.result) × EndAlike T.took.did.node U.took.did.node T.took.did.site U.took.did.site T.took.did.made U.took.did.made
    went =
        L.turns T.bytes fails T.took.did.result U.took.did.result T.node T.took.did.node U.node U.took.did.node T.machine T.took.did.site U.machine U.took.did.site T.took.did.made U.took.did.made nodes_same machines.0 machines.1 turned
        (subst (λ bs. HasTurned bs fails U.took.did.result U.node U.took.did.node U.machine U.took.did.site U.took.did.made) (sym brought.1) turned_too)

    calls_same : T.took.did.made ≡ U.took.did.made
    calls_same = went.1.machines.calls

    one : (T.took.did.became ≡ U.took.did.became) × (fates ≡ others) × (until ≡ stop)
    one =
        L.readings.turns armed T.lines T.took.did.made T.took.did.result (record { became = T.took.did.became; fates = fates; until = until; reads = T.took.reads; ends = T.took.did.ends })
        (record {
          became = U.took.did.became;
          fates = others;
          until = stop;
          reads = subst (λ n. Reads armed n T.took.did.made U.took.did.became others stop) (sym brought.0) (subst (λ ms. Reads armed U.lines ms U.took.did.became others stop) (sym calls_same) U.took.reads);
          ends = subst (EndsSo (came_to U.took.did.became)) (sym went.0) U.took.did.ends;
        })

    behind_same : IsSameHost T.behind U.behind
    behind_same =
        L.stay.left (came_to T.took.did.became) T.took.did.node U.took.did.node T.machine T.took.did.site U.machine U.took.did.site T.behind U.behind went.1.node.same machines.0 went.1.machines.machine T.took.did.left
        (subst (λ b. LeftSo (came_to b) U.took.did.node U.machine U.took.did.site U.behind) (sym one.0) U.took.did.left)

    many : length old.hosts ≡ length here.hosts
    many = length_same old.hosts here.hosts same.hosts

    pub turns_same : CameSame (Turn i input fates until) (Turn i input others stop) down off calls also new there
    turns_same = record {
      event_is = λ j. Turn i input (one.1 j) (one.2 j);
      down_is = T.took.did.down_is ∙ (ap goes_anew one.0 ∙ sym U.took.did.down_is);
      calls_are = T.took.did.calls_are ∙ (ap (λ (ms : List Made). length ms) calls_same ∙ sym U.took.did.calls_are);
      net = record {
        hosts = subst (λ hs. AreSameHosts hs there.hosts) (sym T.hosts) (subst (AreSameHosts (put_nth i T.behind old.hosts)) (sym U.hosts) (put_same i T.behind U.behind old.hosts here.hosts behind_same same.hosts));
        clocks = T.clocks ∙ ((λ j. put_nth i (clock_is j + ms_of input) (same.clocks j)) ∙ sym U.clocks);
        letters =
            T.took.did.posted
            ∙ ((λ j. same.letters j ++ mails_in i (many j) (sent_by (take (kept_of (came_to (one.0 j)) (calls_same j)) (calls_same j)))) ∙ sym U.took.did.posted);
      };
    }

  -- two requests
  module _ (request : Local) (fates others : List Bool) (until stop : Option ℕ) (calls also : ℕ) (T : AsksNode armed i request fates until calls old new) (U : AsksNode armed i request others stop also here there) where
    hosts_alike : IsSameHost T.host U.host
    hosts_alike = nth_same i old.hosts here.hosts T.host U.host same.hosts T.here U.here

    nodes_alike : IsSameNode (seen T.node) (seen U.node)
    nodes_alike = up_same T.host.node U.host.node T.node U.node T.up U.up hosts_alike.node

    time_is : T.clock ≡ U.clock
    time_is = of_some (nth i old.clocks) T.clock U.clock T.time (ap (nth i) same.clocks ∙ U.time)

    machines_alike : IsSameMachine T.machine U.machine × (T.machine.clock ≡ U.machine.clock)
    machines_alike = L.stay.set T.clock T.host U.host T.machine U.machine hosts_alike T.set (subst (λ c. IsSet c U.host.site U.machine) (sym time_is) U.set)

    abbrev failing : ℕ
    failing = fails_of (length (calls_in T.machine.device)) armed

    asked : HasAsked request failing T.took.did.answer T.node T.took.did.node T.machine T.took.did.site T.took.did.made
    asked = record {
      goes = L.nodes.goes M.count old.hosts old.clocks (map mail_of old.letters) M.world i T.clock T.host T.node T.machine failing M.few M.mirrors T.here T.up T.time T.set.opening T.set.calls T.took.did.room T.told;
      requests = T.took.did.requests;
      adds = T.took.did.adds;
      memory = request_memory T.took.did.became T.took.did.answer T.took.did.ends;
    }

    asked_too : HasAsked request failing U.took.did.answer U.node U.took.did.node U.machine U.took.did.site U.took.did.made
    asked_too = record {
      goes =
          L.nodes.goes N.count here.hosts here.clocks (map mail_of here.letters) N.world i U.clock U.host U.node U.machine failing N.few N.mirrors U.here U.up U.time U.set.opening U.set.calls U.took.did.room
          (U.told ∙ (λ j. Some (record { since = length (calls_in U.machine.device); fails = fails_of (length (sym machines_alike.0.calls j)) armed })));
      requests = U.took.did.requests;
      adds = U.took.did.adds;
      memory = request_memory U.took.did.became U.took.did.answer U.took.did.ends;
    }

    answered : (T.took.did.answer ≡ U.took.did.answer) × EndAlike T.took.did.node U.took.did.node T.took.did.site U.took.did.site T.took.did.made U.took.did.made
    answered =
        L.requests request failing T.took.did.answer U.took.did.answer T.node T.took.did.node U.node U.took.did.node T.machine T.took.did.site U.machine U.took.did.site T.took.did.made U.took.did.made nodes_alike machines_alike.0
        machines_alike.1 asked asked_too

    made_same : T.took.did.made ≡ U.took.did.made
    made_same = answered.1.machines.calls

    read : (T.took.did.became ≡ U.took.did.became) × (fates ≡ others) × (until ≡ stop)
    read =
        L.readings.requests armed T.took.did.made T.took.did.answer
        (record { became = T.took.did.became; fates = fates; until = until; reads = T.took.reads; ends = T.took.did.ends; of_steps = T.took.of_steps })
        (record {
          became = U.took.did.became;
          fates = others;
          until = stop;
          reads = subst (λ ms. Reads armed 0 ms U.took.did.became others stop) (sym made_same) U.took.reads;
          ends = subst (AnswersSo (came_to U.took.did.became)) (sym answered.0) U.took.did.ends;
          of_steps = U.took.of_steps;
        })

    left_alike : IsSameHost T.behind U.behind
    left_alike =
        L.stay.left (came_to T.took.did.became) T.took.did.node U.took.did.node T.machine T.took.did.site U.machine U.took.did.site T.behind U.behind answered.1.node.same machines_alike.0 answered.1.machines.machine T.took.did.left
        (subst (λ b. LeftSo (came_to b) U.took.did.node U.machine U.took.did.site U.behind) (sym read.0) U.took.did.left)

    many_alike : length old.hosts ≡ length here.hosts
    many_alike = length_same old.hosts here.hosts same.hosts

    pub requests_same : (down off : Bool) → down ≡ false → off ≡ false → CameSame (Ask i request fates until) (Ask i request others stop) down off calls also new there
    requests_same down off stays rests = record {
      event_is = λ j. Ask i request (read.1 j) (read.2 j);
      down_is = stays ∙ sym rests;
      calls_are = T.took.did.calls_are ∙ (ap (λ (ms : List Made). length ms) made_same ∙ sym U.took.did.calls_are);
      net = record {
        hosts = subst (λ hs. AreSameHosts hs there.hosts) (sym T.hosts) (subst (AreSameHosts (put_nth i T.behind old.hosts)) (sym U.hosts) (put_same i T.behind U.behind old.hosts here.hosts left_alike same.hosts));
        clocks = T.clocks ∙ (same.clocks ∙ sym U.clocks);
        letters =
            T.took.did.posted
            ∙ ((λ j. same.letters j ++ mails_in i (many_alike j) (sent_by (take (kept_of (came_to (read.0 j)) (made_same j)) (made_same j)))) ∙ sym U.took.did.posted);
      };
    }
