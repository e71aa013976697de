-- Rounds of settling: behind the first nobody registers any more, and behind each later one nobody is in doubt.
use Rattle.std.specs.Prelude.{ℕ, List, [], ◌∷◌, ◌++◌, Option, Some, None, Bool, true, false, is_none, nat_eq, zero, suc, ◌+◌, ◌-◌, ◌*◌, if◌then◌else◌, drop, length, option_map, ◌≡◌, ◌≤◌, ◌<◌, refl}
use Rattle.std.specs.List.{AllByRecursion}
use Rattle.std.proofs.Common.{inl, inr, arith, sym, subst, ap, ◌∙◌}
use Rattle.std.proofs.lemmas.List.{drop_all}
use Rattle.std.proofs.lemmas.List.Sums.{sum_by-cons}
use Rattle.at_base.specs.Numbers.{Numbers}
use Rattle.at_base.specs.declared.epr.Epr.{Epr}
use Rattle.at_base.specs.declared.event.Arrived.{Arrived}
use Rattle.at_base.specs.declared.notice.Kind.{Kind}
use Rattle.std.proofs.lemmas.Bool.{eqb-false}
use Rattle.at_base.specs.declared.message.Message.{Message}
use Rattle.at_base.specs.declared.message.Message.TheVariants as messages
use Rattle.at_base.specs.declared.target.Target.{Target}
use Rattle.at_model.specs.Book.{Book}
use Rattle.at_base.specs.declared.limits.TheConstants.{RESEND_AFTER}
use Rattle.at_model.specs.World.{Deliver, Node, Posted, Tick, Turn, Who, World, WorldEvent, new_nodes, nth, place_of, receiver_of, run_of, run_on, world_step, Hosts, HaveOwnAddresses}
use Rattle.model_laws.specs.Agreement.{IsIn}
use Rattle.model_laws.specs.ReachedWorlds.{Reached}
use Rattle.model_laws.specs.Settlement.{MayStart, Settles, Settling, all_also, all_up, also, deliver_next, deliveries_from, first_received, is_settled, received_or, settle, settle_from, settle_round, settle_rounds, settled, ticks, ups}
use Rattle.model_laws.proofs.Addresses.{place_is}
use Rattle.paired.proofs.Homes.{node_range}
use Rattle.settling.specs.Resends.{ticked_at}
use Rattle.settling.specs.Drains.{Delivers, IsDrained, granted, none_left, one_more, risen}
use Rattle.settling.specs.Load.{Prices, weight}
use Rattle.settling.specs.Payments.{MakesNothing}
use Rattle.settling.specs.Rises.{AllUp, IsUp}
use Rattle.settling.proofs.Deliveries.{Lowers, burden, next_lowers}
use Rattle.settling.proofs.Drains.{drains, risen_run, round_run}
use Rattle.settling.proofs.Places.{all_nth}
use Rattle.settling.proofs.Rises.{nodes_rise}
use Rattle.settling.proofs.Rounds.{Good, begun_good, others_of, seats_of}
use Rattle.settling.proofs.Caps.{other_most, seat_most}
use Rattle.settling.proofs.Runs.{IsOfRun, further_run, reached_length, run_is, run_length}
use Rattle.settling.proofs.TurnCosts.{posted_weight, queued}
use Rattle.settled.specs.SettlingInvariants.{Invariant}
use Rattle.settled.specs.OwedMessages.{Comes, CommitsAreOwed, Holds, OutcomesAreOwed, OwesRegistered, RegistrationsAreOwed, VotesAreOwed}
use Rattle.settled.specs.EndedRegistrations.{NoneRouted}
use Rattle.settled.proofs.CalmTurns.{After, FirstAt, delivery_after, first_at, tick_after}
use Rattle.settled.proofs.Invariants.{AreUp, Known, commits_both, commits_of, outcomes_both, outcomes_of, owing, registering, registrations_both, registrations_of, up_to, votes_both, votes_of}
use Rattle.settled.proofs.QuietWorlds.{NoneLeft, rests}
use Rattle.settled.proofs.Routes.{routed}
use Rattle.settled.proofs.Ticks.{commits_asked, outcomes_asked, registrations_asked, votes_asked}

-- the ticks
record Family (hosts : Hosts) : Type 1 where
  inv : ℕ → Invariant hosts
  join : (es : List WorldEvent) (u j : ℕ) → j ≤ length (run_of hosts es).posted → (inv u).Of (ticked_at (u + 1) (run_of hosts es)) (drop j (ticked_at (u + 1) (run_of hosts es)).posted)
      → (inv (u + 1)).Of (ticked_at (u + 1) (run_of hosts es)) (drop j (ticked_at (u + 1) (run_of hosts es)).posted)

tick_walk : (hosts : Hosts) (f : Family hosts) (u j : ℕ) (w : World) → HaveOwnAddresses hosts → IsOfRun hosts w → After hosts (f.inv u) j w
    → After hosts (f.inv (u + 1)) j (world_step w (Turn (u + 1) (Tick RESEND_AFTER) [] None))
tick_walk hosts f u j w distinct r a =
    subst (λ z. After hosts (f.inv u) j z → After hosts (f.inv (u + 1)) j (world_step z (Turn (u + 1) (Tick RESEND_AFTER) [] None))) (sym r.is) of_run a
  where
    of_run : After hosts (f.inv u) j (run_of hosts r.events) → After hosts (f.inv (u + 1)) j (ticked_at (u + 1) (run_of hosts r.events))
    of_run b =
        let k : After hosts (f.inv u) j (ticked_at (u + 1) (run_of hosts r.events)) = tick_after hosts (f.inv u) (u + 1) j (run_of hosts r.events) distinct b in
        record { reached = k.reached; passed = k.passed; holds = f.join r.events u j b.passed k.holds }

ticks_walk : (hosts : Hosts) (f : Family hosts) (j u m : ℕ) (xs : List Node) (s : Settling) → HaveOwnAddresses hosts → IsOfRun hosts s.world → u + length xs ≡ m → After hosts (f.inv u) j s.world
    → After hosts (f.inv m) j (all_also (ticks (u + 1) xs) s).world
ticks_walk hosts f j u m [] s distinct r e a = let same : u ≡ m = omega (arith, e) in subst (λ k. After hosts (f.inv k) j s.world) same a
ticks_walk hosts f j u m (x ∷ xs) s distinct r e a =
    let tick : WorldEvent = Turn (u + 1) (Tick RESEND_AFTER) [] None in
    ticks_walk hosts f j (u + 1) m xs (also tick s) distinct (further_run hosts s.world tick r) (omega (arith, e)) (tick_walk hosts f u j s.world distinct r a)

-- the deliveries
in_queue : (P : Prices) (q : Posted) (ps : List Posted) → IsIn q ps → posted_weight P q ≤ queued P ps
in_queue P q [] i = absurd i
in_queue P q (p ∷ ps) (inl e) =
    let same : posted_weight P q ≡ posted_weight P p = ap (posted_weight P) e in
    omega (arith, same, sum_by-cons (posted_weight P) p ps)
in_queue P q (p ∷ ps) (inr i) = omega (arith, in_queue P q ps i, sum_by-cons (posted_weight P) p ps)

makes_nothing : (P : Prices) (m : Message) → weight P m < P.making → MakesNothing m
makes_nothing P (messages.Create c) h = absurd (omega (arith, h))
makes_nothing P (messages.Work w) h = absurd (omega (arith, h))
makes_nothing P other h = tt

first_in : (n : ℕ) (x : Posted) (xs : List Posted) → nth n xs ≡ Some x → IsIn x xs
first_in n x [] e = absurd cc
first_in n x (y ∷ ys) e = by_number (λ f. first_in (n - 1) x ys f) (nat_eq n 1) e
  where
    by_number : (nth (n - 1) ys ≡ Some x → IsIn x ys) → (c : Bool) → (if c then Some y else nth (n - 1) ys) ≡ Some x → IsIn x (y ∷ ys)
    by_number rest true f = inl cc
    by_number rest false f = inr (rest f)

none_received : (i : ℕ) (ps : List Posted) → first_received i ps ≡ None → NoneLeft ps
none_received i [] e q j = absurd j
none_received i (p ∷ ps) e q j = by_receiver p.receiver refl e (λ f. none_received (i + 1) ps f) j
  where
    by_receiver : (o : Option ℕ) → p.receiver ≡ o → received_or i o (first_received (i + 1) ps) ≡ None → (first_received (i + 1) ps ≡ None → NoneLeft ps) → IsIn q (p ∷ ps) → q.receiver ≡ None
    by_receiver None f g rest (inl is) = ap (λ (y : Posted). y.receiver) is ∙ f
    by_receiver None f g rest (inr k) = rest g q k
    by_receiver (Some m) f g rest k = absurd cc

-- the node that a message goes to
node_there : (n : ℕ) (xs : List Node) → 1 ≤ n → n ≤ length xs → (x : Node) × (nth n xs ≡ Some x)
node_there n [] h k = absurd (omega (arith, h, k))
node_there n (y ∷ ys) h k = by_number (λ i j. node_there (n - 1) ys i j) (nat_eq n 1) refl
  where
    by_number : (1 ≤ n - 1 → n - 1 ≤ length ys → (x : Node) × (nth (n - 1) ys ≡ Some x)) → (c : Bool) → nat_eq n 1 ≡ c → (x : Node) × ((if c then Some y else nth (n - 1) ys) ≡ Some x)
    by_number rest true e = (y, refl)
    by_number rest false e = let other : n ≡ 1 → ⊥ = eqb-false n 1 e in rest (omega (arith, h, other)) (omega (arith, k))

receiver_there : (hosts : Hosts) (w : World) → HaveOwnAddresses hosts → Reached hosts w → (q : Posted) (n : ℕ) → IsIn q w.posted → q.receiver ≡ Some n → (x : Node) × (nth n w.nodes ≡ Some x)
receiver_there hosts w distinct reached q n i to = by_to q.content.to refl (sym (routed hosts w reached q i) ∙ to)
  where
    by_place : (address : List ℕ) (o : Option (ℕ × Target)) → place_of 1 (new_nodes hosts.base_of hosts.count 1) address ≡ o → option_map (λ p. p.0) o ≡ Some n → (x : Node) × (nth n w.nodes ≡ Some x)
    by_place address None e f = absurd cc
    by_place address (Some p) e f =
        let same : p.0 ≡ n = cc in
        let place = place_is hosts.base_of hosts.count 1 address p e in
        node_there n w.nodes (omega (arith, same, place.least)) (omega (arith, same, place.most, reached_length hosts w reached))

    by_to : (o : Option Epr) → q.content.to ≡ o → receiver_of (new_nodes hosts.base_of hosts.count 1) o ≡ Some n → (x : Node) × (nth n w.nodes ≡ Some x)
    by_to None e f = absurd cc
    by_to (Some to) e f = by_place to.address (place_of 1 (new_nodes hosts.base_of hosts.count 1) to.address) refl f

record Drained (hosts : Hosts) (inv : Invariant hosts) (w : World) : Type 0 where
  place : ℕ
  after : After hosts inv place w
  none : NoneLeft (drop place w.posted)

if_up : (o : Option Book) → is_none o ≡ false → (b : Book) × (o ≡ Some b)
if_up None e = absurd cc
if_up (Some b) e = (b, refl)

dropped_in : (j : ℕ) (q : Posted) (ps : List Posted) → IsIn q (drop j ps) → IsIn q ps
dropped_in zero q [] i = absurd i
dropped_in zero q (p ∷ ps) i = i
dropped_in (suc j) q [] i = absurd i
dropped_in (suc j) q (p ∷ ps) i = inr (dropped_in j q ps i)

deliveries_walk : (hosts : Hosts) (inv : Invariant hosts) (P : Prices) (limit : ℕ) (last : Settling) (j : ℕ) (s : Settling) → HaveOwnAddresses hosts → ((w : World) (queue : List Posted) → inv.Of w queue → AreUp w)
    → limit < P.making → Delivers last j s → After hosts inv j s.world → Good P limit j s.world → Drained hosts inv last.world
deliveries_walk hosts inv P limit last j s distinct up most (none_left e is) a g =
    subst (λ (t : Settling). Drained hosts inv t.world) (sym is) (record { place = j; after = a; none = none_received (j + 1) (drop j s.world.posted) e })
deliveries_walk hosts inv P limit last j s distinct up most (one_more k n e rest) a g =
    let f : FirstAt (j + 1) (drop j s.world.posted) k n = first_at (j + 1) (drop j s.world.posted) k n e in
    let among : IsIn f.post (drop j s.world.posted) = first_in (f.behind + 1) f.post (drop j s.world.posted) f.at in
    let (x, found) = receiver_there hosts s.world distinct a.reached f.post n (dropped_in j f.post s.world.posted among) f.receiver in
    let (b, held) = if_up x.book (up s.world (drop j s.world.posted) a.holds n x found) in
    let light : weight P f.post.content.message < P.making = omega (arith, in_queue P f.post (drop j s.world.posted) among, g.paid, most) in
    let l : Lowers P k (burden P j s.world) (world_step s.world (Turn n (Deliver k) [] None)) = next_lowers P j k n s.world e g.steady (omega (arith, g.paid, most)) in
    deliveries_walk hosts inv P limit last k (also (Turn n (Deliver k) [] None) s) distinct up most rest
    (delivery_after hosts inv j k n s.world x b f.post distinct found held f (makes_nothing P f.post.content.message light) a)
    (record { passed = l.passed; paid = omega (arith, l.paid, g.paid); steady = l.steady })

-- a round
dear : ℕ → Prices
dear making = record { seat = 0; other = 0; making = making }

round_walk : (hosts : Hosts) (most : ℕ) (f : Family hosts) (s : Settling) → HaveOwnAddresses hosts → ((u : ℕ) (w : World) (queue : List Posted) → (f.inv u).Of w queue → AreUp w) → IsOfRun hosts s.world
    → IsDrained most s → (f.inv 0).Of s.world [] → Drained hosts (f.inv hosts.count) (settle_round most s).world
unfolding dear
round_walk hosts most f s distinct up r d h =
    let j : ℕ = length s.world.posted in
    let limit : ℕ = seat_most (dear 0) * seats_of s.world + other_most (dear 0) * others_of s.world in
    let P : Prices = dear (limit + 1) in
    deliveries_walk hosts (f.inv hosts.count) P limit (settle_round most s) j (all_also (ticks 1 s.world.nodes) s) distinct (up hosts.count) (omega arith) d
    (ticks_walk hosts f j 0 hosts.count s.world.nodes s distinct r (omega (arith, run_length hosts s.world r))
    (record { reached = run_is hosts s.world r; passed = omega arith; holds = subst ((f.inv 0).Of s.world) (sym (drop_all j s.world.posted (omega arith))) h }))
    (begun_good P hosts s r)

-- nobody is asked by no tick
none_yet : (hosts : Hosts) (w : World) → HaveOwnAddresses hosts → Reached hosts w → (n : ℕ) (b : Book) → Holds w n b → n ≤ 0 → ⊥
none_yet hosts w distinct reached n b h k = omega (arith, k, (node_range hosts w distinct reached n h.node h.found).0)

all_asked : (hosts : Hosts) (w : World) → HaveOwnAddresses hosts → Reached hosts w → (n : ℕ) (b : Book) → Holds w n b → Unit {0} → n ≤ hosts.count
all_asked hosts w distinct reached n b h k = (node_range hosts w distinct reached n h.node h.found).1

-- The first round.
first_round : (hosts : Hosts) → HaveOwnAddresses hosts → Family hosts
unfolding registering
first_round hosts distinct = record {
  inv = λ u. registering hosts (λ n. n ≤ u);
  join = λ es u j passed (up, h). (
    up,
    registrations_both hosts (λ n. n ≤ u) (λ n. n ≡ u + 1) (λ n. n ≤ u + 1) (ticked_at (u + 1) (run_of hosts es)) (drop j (ticked_at (u + 1) (run_of hosts es)).posted) (λ n k. up_to u n k) h
        (registrations_asked hosts es (u + 1) j distinct passed),
  );
}

none_comes : (hosts : Hosts) (queue : List Posted) (n : ℕ) (P : Arrived → Type 0) → NoneLeft queue → Comes hosts queue n P → ⊥
none_comes hosts queue n P h c = differ c.posted.receiver (h c.posted c.waits) c.receiver
  where
    differ : (o : Option ℕ) → o ≡ None → o ≡ Some n → ⊥
    differ o e f = cc

none_registers : (hosts : Hosts) (w : World) (queue : List Posted) → NoneLeft queue → RegistrationsAreOwed hosts (λ n. Unit {0}) w queue → NoneRouted hosts w
none_registers hosts w queue none h = record {
  links = λ n b t s kind r m id holds found under state request leads.
      nobody (record { node = n; id = t.id }) kind m id (h.links n b t s kind r m id tt holds found under state request leads);
  leaves = λ n b l r m id holds found state request leads. nobody (record { node = n; id = l.id }) l.kind m id (h.leaves n b l r m id tt holds found state request leads);
}
  where
    nobody : (x : Who) (kind : Kind) (m : ℕ) (id : Numbers) → OwesRegistered hosts queue x kind m id → ⊥
    nobody x kind m id (inl c) = none_comes hosts queue m _ none c
    nobody x kind m id (inr c) = none_comes hosts queue x.node _ none c

round_registers : (hosts : Hosts) (most : ℕ) (s : Settling) → HaveOwnAddresses hosts → IsOfRun hosts s.world → AreUp s.world → IsDrained most s → NoneRouted hosts (settle_round most s).world
unfolding registering first_round
round_registers hosts most s distinct r up d =
    let k : Drained hosts (registering hosts (λ n. n ≤ hosts.count)) (settle_round most s).world =
    round_walk hosts most (first_round hosts distinct) s distinct (λ u w queue h. h.0) r d (
      up,
      record {
        links = λ n b t q kind a m id asked holds found. absurd (none_yet hosts s.world distinct (run_is hosts s.world r) n b holds asked);
        leaves = λ n b l a m id asked holds found. absurd (none_yet hosts s.world distinct (run_is hosts s.world r) n b holds asked);
      },
    ) in
    none_registers hosts (settle_round most s).world (drop k.place (settle_round most s).world.posted) k.none
    (registrations_of hosts (λ n. n ≤ hosts.count) (λ n. Unit {0}) (settle_round most s).world (drop k.place (settle_round most s).world.posted)
    (all_asked hosts (settle_round most s).world distinct k.after.reached) k.after.holds.1)

-- Each later one.
later_round : (hosts : Hosts) → HaveOwnAddresses hosts → Known hosts → Family hosts
unfolding owing
later_round hosts distinct known = record {
  inv = λ u. owing hosts (λ n. n ≤ u) known;
  join = λ es u j passed h.
      let v : World = ticked_at (u + 1) (run_of hosts es) in
      let queue : List Posted = drop j v.posted in
      record {
        up = h.up;
        routed = h.routed;
        votes = votes_both hosts (λ n. n ≤ u) (λ n. n ≡ u + 1) (λ n. n ≤ u + 1) v queue (λ n k. up_to u n k) h.votes (votes_asked hosts es (u + 1) j distinct passed);
        commits = commits_both hosts (λ n. n ≤ u) (λ n. n ≡ u + 1) (λ n. n ≤ u + 1) v queue (λ n k. up_to u n k) h.commits (commits_asked hosts es (u + 1) j distinct passed);
        outcomes = outcomes_both hosts (λ n. n ≤ u) (λ n. n ≡ u + 1) (λ n. n ≤ u + 1) v queue (λ n k. up_to u n k) h.outcomes (outcomes_asked hosts es (u + 1) j distinct passed);
      };
}

-- the world behind it
record IsResting (hosts : Hosts) (w : World) : Type 0 where
  routed : NoneRouted hosts w
  settled : is_settled w ≡ true

round_rests : (hosts : Hosts) (most : ℕ) (s : Settling) → HaveOwnAddresses hosts → Known hosts → IsOfRun hosts s.world → AreUp s.world → NoneRouted hosts s.world → IsDrained most s
    → IsResting hosts (settle_round most s).world
unfolding owing later_round
round_rests hosts most s distinct known r up routes d =
    let reached : Reached hosts s.world = run_is hosts s.world r in
    let k : Drained hosts (owing hosts (λ n. n ≤ hosts.count) known) (settle_round most s).world =
    round_walk hosts most (later_round hosts distinct known) s distinct (λ u w queue h. h.up) r d (record {
      up = up;
      routed = routes;
      votes = record { seats = λ n b t q x asked holds. absurd (none_yet hosts s.world distinct reached n b holds asked) };
      commits = record { seats = λ n b t q x asked holds. absurd (none_yet hosts s.world distinct reached n b holds asked) };
      outcomes = record {
        links = λ n b t q z number asked holds. absurd (none_yet hosts s.world distinct reached n b holds asked);
        leaves = λ n b l z number asked holds. absurd (none_yet hosts s.world distinct reached n b holds asked);
      };
    }) in
    let w : World = (settle_round most s).world in
    let queue : List Posted = drop k.place w.posted in
    let all : (n : ℕ) (b : Book) → Holds w n b → Unit {0} → n ≤ hosts.count = all_asked hosts w distinct k.after.reached in
    record {
      routed = k.after.holds.routed;
      settled = at_rest w queue (round_run hosts most s r) k.after.holds.up k.none (votes_of hosts (λ n. n ≤ hosts.count) (λ n. Unit {0}) w queue all k.after.holds.votes)
          (commits_of hosts (λ n. n ≤ hosts.count) (λ n. Unit {0}) w queue all k.after.holds.commits)
          (outcomes_of hosts (λ n. n ≤ hosts.count) (λ n. Unit {0}) w queue all k.after.holds.outcomes);
    }
  where
    at_rest : (w : World) (queue : List Posted) → IsOfRun hosts w → AreUp w → NoneLeft queue → VotesAreOwed hosts (λ n. Unit {0}) w queue → CommitsAreOwed hosts (λ n. Unit {0}) w queue
        → OutcomesAreOwed hosts (λ n. Unit {0}) w queue → is_settled w ≡ true
    at_rest w queue h =
        subst (λ z. AreUp z → NoneLeft queue → VotesAreOwed hosts (λ n. Unit {0}) z queue → CommitsAreOwed hosts (λ n. Unit {0}) z queue → OutcomesAreOwed hosts (λ n. Unit {0}) z queue
        → is_settled z ≡ true) (sym h.is) (rests hosts h.events queue distinct)

-- Eight rounds.
one_further : (n most : ℕ) (s : Settling) → settle_rounds (suc n) most s ≡ settle_round most (settle_rounds n most s)
unfolding settle_rounds
one_further zero most s = refl
one_further (suc n) most s = one_further n most (settle_round most s)

rounds_run : (hosts : Hosts) (n most : ℕ) (s : Settling) → IsOfRun hosts s.world → IsOfRun hosts (settle_rounds n most s).world
unfolding settle_rounds
rounds_run hosts zero most s r = r
rounds_run hosts (suc n) most s r = rounds_run hosts n most (settle_round most s) (round_run hosts most s r)

up_at : (w : World) → AllUp w → AreUp w
up_at w h n x found = all_nth IsUp n x w.nodes h found

nobody_registers : (hosts : Hosts) (es : List WorldEvent) (n : ℕ) → HaveOwnAddresses hosts → Known hosts → AllByRecursion MayStart (run_of hosts es).nodes → n < 8
    → NoneRouted hosts (settle_rounds (suc n) (granted (risen hosts es)) (risen hosts es)).world
unfolding settle_rounds
nobody_registers hosts es zero distinct known may h =
    let most : ℕ = granted (risen hosts es) in
    round_registers hosts most (risen hosts es) distinct (risen_run hosts es) (up_at (risen hosts es).world (nodes_rise.rounds hosts es 0 most may)) (drains.rounds hosts es 0 h)
nobody_registers hosts es (suc n) distinct known may h =
    let most : ℕ = granted (risen hosts es) in
    subst (λ (s : Settling). NoneRouted hosts s.world) (sym (one_further (suc n) most (risen hosts es)))
    (round_rests hosts most (settle_rounds (suc n) most (risen hosts es)) distinct known (rounds_run hosts (suc n) most (risen hosts es) (risen_run hosts es))
    (up_at (settle_rounds (suc n) most (risen hosts es)).world (nodes_rise.rounds hosts es (suc n) most may)) (nobody_registers hosts es n distinct known may (omega (arith, h)))
    (drains.rounds hosts es (suc n) h)).routed

rounds_rest : (hosts : Hosts) (es : List WorldEvent) → HaveOwnAddresses hosts → Known hosts → AllByRecursion MayStart (run_of hosts es).nodes
    → is_settled (settle_rounds 8 (granted (risen hosts es)) (risen hosts es)).world ≡ true
rounds_rest hosts es distinct known may =
    let most : ℕ = granted (risen hosts es) in
    subst (λ (s : Settling). is_settled s.world ≡ true) (sym (one_further 7 most (risen hosts es)))
    (round_rests hosts most (settle_rounds 7 most (risen hosts es)) distinct known (rounds_run hosts 7 most (risen hosts es) (risen_run hosts es))
    (up_at (settle_rounds 7 most (risen hosts es)).world (nodes_rise.rounds hosts es 7 most may)) (nobody_registers hosts es 6 distinct known may (omega arith)) (drains.rounds hosts es 7 (omega arith))).settled

-- The events lead to that world.
abbrev LedBy : World → Settling → Type 0
LedBy w s = s.world ≡ run_on w s.events

one_event : (w : World) (es : List WorldEvent) (e : WorldEvent) → run_on w (es ++ e ∷ []) ≡ world_step (run_on w es) e
one_event w [] e = refl
one_event w (x ∷ es) e = one_event (world_step w x) es e

also_led : (w : World) (e : WorldEvent) (s : Settling) → LedBy w s → LedBy w (also e s)
also_led w e s h = ap (λ v. world_step v e) h ∙ sym (one_event w s.events e)

all_led : (w : World) (es : List WorldEvent) (s : Settling) → LedBy w s → LedBy w (all_also es s)
all_led w [] s h = h
all_led w (e ∷ es) s h = all_led w es (also e s) (also_led w e s h)

deliveries_led : (w : World) (most j : ℕ) (s : Settling) → LedBy w s → LedBy w (deliveries_from most j s)
unfolding deliveries_from
deliveries_led w zero j s h = h
deliveries_led w (suc most) j s h = by_next (first_received (j + 1) (drop j s.world.posted)) (λ p t i. deliveries_led w most p t i)
  where
    by_next : (o : Option (ℕ × ℕ)) → ((p : ℕ) (t : Settling) → LedBy w t → LedBy w (deliveries_from most p t)) → LedBy w (deliver_next o (deliveries_from most) s)
    by_next None rest = h
    by_next (Some (k, n)) rest = rest k (also (Turn n (Deliver k) [] None) s) (also_led w (Turn n (Deliver k) [] None) s h)

round_led : (w : World) (most : ℕ) (s : Settling) → LedBy w s → LedBy w (settle_round most s)
unfolding settle_round
round_led w most s h = deliveries_led w most (length s.world.posted) (all_also (ticks 1 s.world.nodes) s) (all_led w (ticks 1 s.world.nodes) s h)

rounds_led : (w : World) (n most : ℕ) (s : Settling) → LedBy w s → LedBy w (settle_rounds n most s)
unfolding settle_rounds
rounds_led w zero most s h = h
rounds_led w (suc n) most s h = rounds_led w n most (settle_round most s) (round_led w most s h)

settled_led : (w : World) → LedBy w (settled w)
unfolding settled settle_from
settled_led w = rounds_led w 8 (granted (all_up w)) (all_up w) (all_led w (ups 1 w.nodes) (record { world = w; events = [] }) refl)

settled_rests : (hosts : Hosts) (es : List WorldEvent) → HaveOwnAddresses hosts → Known hosts → AllByRecursion MayStart (run_of hosts es).nodes → is_settled (settled (run_of hosts es)).world ≡ true
unfolding settled settle_from
settled_rests hosts es distinct known may = rounds_rest hosts es distinct known may

pub settles_if : ((hosts : Hosts) → HaveOwnAddresses hosts → Known hosts) → Settles
unfolding settle
settles_if known hosts es distinct may = record {
  rests = ap is_settled (sym (settled_led (run_of hosts es))) ∙ settled_rests hosts es distinct (known hosts distinct) may;
  few = drains.few hosts es;
}
