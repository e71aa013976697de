-- Every node comes up, and stays up.
use Rattle.std.specs.Prelude.{ℕ, List, [], ◌∷◌, ◌++◌, Option, Some, None, Bool, true, false, is_none, nat_lt, nat_le, ◌+◌, ◌-◌, if◌then◌else◌, max, zero, suc, length, ◌≡◌, ◌≢◌, ◌≤◌, ◌<◌, ◌⊎◌, refl}
use Rattle.std.specs.List.{AllByRecursion}
use Rattle.std.proofs.Common.{arith, sym, subst, ap, inl, inr, ◌∙◌}
use Rattle.std.proofs.lemmas.Bool.{lt-ltb, leb-true, leb-false}
use Rattle.at_base.specs.Numbers.{Numbers}
use Rattle.at_base.specs.declared.event.Arrived.{Arrived}
use Rattle.at_base.specs.declared.event.Event.TheVariants as events
use Rattle.at_base.specs.declared.record.Record.{Record}
use Rattle.at_base.specs.declared.record.Record.TheVariants as records
use Rattle.at_model.specs.Book.{Book, last_counter}
use Rattle.at_base.specs.declared.limits.TheConstants.{RESEND_AFTER}
use Rattle.at_model.specs.Recovery.{incarnation_of, last_incarnation}
use Rattle.at_model.specs.Step.{Plan, plan, step}
use Rattle.at_model.specs.World.{Deliver, Node, Posted, Tick, Turn, Up, World, WorldEvent, answer_plan, arrival_plan, at_some_node, decoded, deliver, down_only, is_receiver, later, nth, on_book, put_nth, run_of, start, started, take_turn, ticked, turn, turn_from, up_after, world_step, Hosts}
use Rattle.model_laws.specs.DrawnIds.{HoldsDrawn, IsDrawnRecord, restarted, with_entry}
use Rattle.model_laws.specs.Laws.{IsDrawn}
use Rattle.model_laws.specs.Settlement.{MayStart, Settling, all_also, also, deliver_next, deliveries_from, settle_round, settle_rounds, ticks, up_if, ups}
use Rattle.model_laws.proofs.DecisionLaws.{IfThere}
use Rattle.model_laws.proofs.DrawnIds.{ids_stay_drawn, recovered_drawn, step_drawn}
use Rattle.model_laws.proofs.ReachedWorlds.{NodeLaw, nodes_hold}
use Rattle.model_laws.proofs.RecoveryLaws.{incarnations_rise}
use Rattle.model_laws.proofs.NodeLives.{put_other, put_this}
use Rattle.model_laws.proofs.StepShapes.{steps_keep_place}
use Rattle.settling.specs.Drains.{risen}
use Rattle.settling.specs.Load.{load}
use Rattle.settling.specs.Payments.{IsSteady, after}
use Rattle.settling.specs.Rises.{AllUp, IsUp, NodesRise}
use Rattle.settling.proofs.Deliveries.{IsSteadyNode}
use Rattle.settling.proofs.Drains.{risen_run, round_run}
use Rattle.settling.proofs.BookPayments.{stays_steady}
use Rattle.settling.proofs.Places.{all_nth, all_put_nth, length_put, nth_behind, nth_within}
use Rattle.settling.proofs.Rounds.{next}
use Rattle.settling.proofs.Runs.{IsOfRun, all_from_nth, all_further, further_run, nth_least, run_is, run_steady}
use Rattle.settling.proofs.TurnCosts.{Turned, turn_ends, no_prices}

-- incarnations are counted
record Counts (rs : List Record) (b : Book) : Type 0 where
  drawn : HoldsDrawn b
  known : b.incarnation ≤ last_incarnation rs

record CountsIn (rs : List Record) (o : Option Book) : Type 0 where
  most : last_incarnation rs ≤ last_counter
  book : IfThere (Counts rs) o

last_more : (rs : List Record) (r : Record) → last_incarnation (rs ++ r ∷ []) ≡ max (last_incarnation rs) (incarnation_of r)
last_more [] r = omega arith
last_more (x ∷ rs) r = omega (arith, last_more rs r)

drawn_most : (b : Book) (id : Numbers) → IsDrawn b id → id.incarnation ≤ b.incarnation
drawn_most b id (inl h) = omega (arith, h)
drawn_most b id (inr (h, k)) = omega (arith, h)

record_most : (b : Book) (r : Record) → IsDrawnRecord b r → incarnation_of r ≤ b.incarnation
record_most b (records.Start i) h = h
record_most b (records.LeafPrepared id coordinator key value) h = drawn_most b id h
record_most b (records.LeafCommitted id) h = drawn_most b id h
record_most b (records.LeafAborted id) h = drawn_most b id h
record_most b (records.Voted id superior seats) h = drawn_most b id h
record_most b (records.Decided id seats) h = drawn_most b id h
record_most b (records.SubCommitted id) h = drawn_most b id h
record_most b (records.Ended id) h = drawn_most b id h
record_most b (records.Done id) h = drawn_most b id h

entry_counts : (rs : List Record) (b c : Book) (entry : Option Record) (landed : Bool) → ((r : Record) → entry ≡ Some r → IsDrawnRecord b r) → HoldsDrawn c → c.incarnation ≡ b.incarnation
    → last_incarnation rs ≤ last_counter → b.incarnation ≤ last_incarnation rs → CountsIn (with_entry entry landed rs) (Some c)
entry_counts rs b c None landed f d e most known = record { most = most; book = record { drawn = d; known = omega (arith, e, known) } }
entry_counts rs b c (Some r) true f d e most known = record {
  most = omega (arith, last_more rs r, record_most b r (f r refl), most, known);
  book = record { drawn = d; known = omega (arith, last_more rs r, e, known) };
}
entry_counts rs b c (Some r) false f d e most known = record { most = most; book = record { drawn = d; known = omega (arith, e, known) } }

counting_law : NodeLaw
counting_law = record {
  Good = CountsIn;
  opens = record { most = omega arith; book = tt };
  steps = λ rs b e now landed h.
      entry_counts rs b (step b e now landed).book (plan b e now).entry landed (λ r is. ids_stay_drawn.entry b e now r h.book.drawn is) (step_drawn b e now landed h.book.drawn)
      (steps_keep_place b e now landed).incarnation h.most h.book.known;
  falls = λ rs b h. record { most = h.most; book = tt };
  rises = λ base rs small h. record {
    most = omega (arith, small, (incarnations_rise rs).0);
    book = record { drawn = recovered_drawn base rs; known = same (last_incarnation (restarted rs)) };
  };
}
  where
    same : (n : ℕ) → n ≤ n
    same n = omega arith

incarnations_counted : (hosts : Hosts) (w : World) → IsOfRun hosts w → (n : ℕ) (x : Node) → nth n w.nodes ≡ Some x → last_incarnation x.journal ≤ last_counter
unfolding counting_law
incarnations_counted hosts w r n x found = (nodes_hold counting_law hosts w (run_is hosts w r) n x found).most

-- what a turn does to the nodes: nothing, or one of them is up
data KeepsUp (w v : World) : Type 0 where
  as_it_was : v ≡ w → KeepsUp w v
  one_up : (n : ℕ) (y : Node) → IsUp y → v.nodes ≡ put_nth n y w.nodes → KeepsUp w v

kept_up : (w v : World) → KeepsUp w v → AllUp w → AllUp v
kept_up w v (as_it_was e) h = subst AllUp (sym e) h
kept_up w v (one_up n y up e) h = subst (AllByRecursion IsUp) (sym e) (all_put_nth IsUp n y w.nodes up h)

turn_keeps : (n now : ℕ) (w : World) (x : Node) (b : Book) (p : Plan) → nth n w.nodes ≡ Some x → x.clock ≡ now → IsSteady b → IsSteady p.landed.book → KeepsUp w (take_turn n now p (turn_from w b [] None))
turn_keeps n now w x b p found clock steady stays =
    let more : ℕ = after no_prices now p.landed in
    let t : Turned no_prices n now (load no_prices now b + more) w (take_turn n now p (turn_from w b [] None)) =
    turn_ends no_prices n now more (load no_prices now b + more) w x b p found clock steady stays (omega arith) (omega arith) in
    one_up n t.node (ap (λ o. is_none o) t.up) t.nodes

delivery_keeps : (hosts : Hosts) (n k : ℕ) (w : World) → IsOfRun hosts w → KeepsUp w (world_step w (Turn n (Deliver k) [] None))
unfolding world_step
delivery_keeps hosts n k w r = by_node (nth n w.nodes) refl
  where
    good : (x : Node) (b : Book) → nth n w.nodes ≡ Some x → x.book ≡ Some b → IsSteady b
    good x b found up = subst (IfThere IsSteady) up (all_nth IsSteadyNode n x w.nodes (run_steady hosts w r) found)

    by_decoded : (x : Node) (b : Book) (o : Option Arrived) → nth n w.nodes ≡ Some x → x.book ≡ Some b → KeepsUp w (take_turn n x.clock (arrival_plan b x.clock o) (turn_from w b [] None))
    by_decoded x b None found up = turn_keeps n x.clock w x b (answer_plan b 500) found refl (good x b found up) (good x b found up)
    by_decoded x b (Some a) found up =
        turn_keeps n x.clock w x b (plan b (events.Arrived a) x.clock) found refl (good x b found up) (stays_steady b (events.Arrived a) x.clock true (good x b found up))

    by_receiver : (x : Node) (b : Book) (p : Posted) (c : Bool) → nth n w.nodes ≡ Some x → x.book ≡ Some b
        → KeepsUp w (if c then take_turn n x.clock (arrival_plan b x.clock (decoded x.base p.content)) (turn_from w b [] None) else w)
    by_receiver x b p true found up = by_decoded x b (decoded x.base p.content) found up
    by_receiver x b p false found up = as_it_was refl

    by_post : (x : Node) (b : Book) (o : Option Posted) → nth n w.nodes ≡ Some x → x.book ≡ Some b → KeepsUp w (deliver n x b [] None o w)
    by_post x b None found up = as_it_was refl
    by_post x b (Some p) found up = by_receiver x b p (is_receiver n p.receiver) found up

    by_book : (x : Node) (o : Option Book) → nth n w.nodes ≡ Some x → x.book ≡ o → KeepsUp w (on_book o (λ b. deliver n x b [] None (nth k w.posted) w) w)
    by_book x None found up = as_it_was refl
    by_book x (Some b) found up = by_post x b (nth k w.posted) found up

    by_node : (o : Option Node) → nth n w.nodes ≡ o → KeepsUp w (at_some_node (Turn n (Deliver k) [] None) o w)
    by_node None found = as_it_was refl
    by_node (Some x) found = by_book x x.book found refl

tick_up : (hosts : Hosts) (n ms : ℕ) (w : World) → IsOfRun hosts w → AllUp w → AllUp (world_step w (Turn n (Tick ms) [] None))
unfolding world_step
tick_up hosts n ms w r h = by_node (nth n w.nodes) refl
  where
    by_book : (x : Node) (o : Option Book) → nth n w.nodes ≡ Some x → x.book ≡ o → AllUp (on_book o (λ b. turn n (Tick ms) [] None x b w) w)
    by_book x None found up = h
    by_book x (Some b) found up =
        let y : Node = later ms x in
        let now : ℕ = x.clock + ms in
        let good : IsSteady b = subst (IfThere IsSteady) up (all_nth IsSteadyNode n x w.nodes (run_steady hosts w r) found) in
        kept_up (ticked n y w) (take_turn n now (plan b events.Tick now) (turn_from (ticked n y w) b [] None))
        (turn_keeps n now (ticked n y w) y b (plan b events.Tick now) (put_this w.nodes n x y found) refl good (stays_steady b events.Tick now true good))
        (all_put_nth IsUp n y w.nodes (ap (λ o. is_none o) up) h)

    by_node : (o : Option Node) → nth n w.nodes ≡ o → AllUp (at_some_node (Turn n (Tick ms) [] None) o w)
    by_node None found = h
    by_node (Some x) found = by_book x x.book found refl

-- rounds
ticks_up : (hosts : Hosts) (n : ℕ) (xs : List Node) (s : Settling) → IsOfRun hosts s.world → AllUp s.world → AllUp (all_also (ticks n xs) s).world
ticks_up hosts n [] s r h = h
ticks_up hosts n (x ∷ xs) s r h =
    let e : WorldEvent = Turn n (Tick RESEND_AFTER) [] None in
    ticks_up hosts (n + 1) xs (also e s) (further_run hosts s.world e r) (tick_up hosts n RESEND_AFTER s.world r h)

deliveries_up : (hosts : Hosts) (most j : ℕ) (s : Settling) → IsOfRun hosts s.world → AllUp s.world → AllUp (deliveries_from most j s).world
unfolding deliveries_from
deliveries_up hosts zero j s r h = h
deliveries_up hosts (suc most) j s r h = by_next (next j s.world) (λ p t i k. deliveries_up hosts most p t i k)
  where
    by_next : (o : Option (ℕ × ℕ)) → ((p : ℕ) (t : Settling) → IsOfRun hosts t.world → AllUp t.world → AllUp (deliveries_from most p t).world) → AllUp (deliver_next o (deliveries_from most) s).world
    by_next None rest = h
    by_next (Some (k, n)) rest =
        let e : WorldEvent = Turn n (Deliver k) [] None in
        rest k (also e s) (further_run hosts s.world e r) (kept_up s.world (world_step s.world e) (delivery_keeps hosts n k s.world r) h)

round_up : (hosts : Hosts) (most : ℕ) (s : Settling) → IsOfRun hosts s.world → AllUp s.world → AllUp (settle_round most s).world
unfolding settle_round
round_up hosts most s r h =
    deliveries_up hosts most (length s.world.posted) (all_also (ticks 1 s.world.nodes) s) (all_further hosts (ticks 1 s.world.nodes) s r) (ticks_up hosts 1 s.world.nodes s r h)

rounds_up : (hosts : Hosts) (most n : ℕ) (s : Settling) → IsOfRun hosts s.world → AllUp s.world → AllUp (settle_rounds n most s).world
unfolding settle_rounds
rounds_up hosts most zero s r h = h
rounds_up hosts most (suc n) s r h = rounds_up hosts most n (settle_round most s) (round_run hosts most s r) (round_up hosts most s r h)

-- Up for each node that is down: the first nodes are up, and the others are as they were
record Rising (hosts : Hosts) (u : ℕ) (xs : List Node) (w : World) : Type 0 where
  run : IsOfRun hosts w
  size : u + length xs ≡ length w.nodes
  done : (i : ℕ) (x : Node) → i ≤ u → nth i w.nodes ≡ Some x → IsUp x
  rest : (i : ℕ) (x : Node) → nth i xs ≡ Some x → nth (u + i) w.nodes ≡ Some x

may_start : (n : ℕ) → n ≤ last_counter → n ≢ last_counter → nat_lt n last_counter ≡ true
may_start n h k = by_test (nat_le last_counter n) refl
  where
    by_test : (c : Bool) → nat_le last_counter n ≡ c → nat_lt n last_counter ≡ true
    by_test true e = let above : last_counter ≤ n = leb-true last_counter n e in let same : n ≡ last_counter = omega (arith, above, h) in absurd (k same)
    by_test false e = lt-ltb n last_counter (leb-false last_counter n e)

starts_up : (hosts : Hosts) (n : ℕ) (w : World) (x : Node) → IsOfRun hosts w → nth n w.nodes ≡ Some x → x.book ≡ None → MayStart x
    → (y : Node) × IsUp y × ((world_step w (Up n true false)).nodes ≡ put_nth n y w.nodes)
unfolding world_step
starts_up hosts n w x r found down may =
    let y : Node = up_after (started (last_incarnation x.journal + 1) x) false in
    let lands : nat_lt (last_incarnation x.journal) last_counter ≡ true = may_start (last_incarnation x.journal) (incarnations_counted hosts w r n x found) may in (
      y,
      refl,
      ap (λ o. (at_some_node (Up n true false) o w).nodes) found ∙ ap (λ o. (down_only o (start n true false x w) w).nodes) down
          ∙ ap (λ c. (if c then record w { nodes = put_nth n y w.nodes } else w).nodes) lands,
    )

next_rest : (u : ℕ) (x : Node) (xs ys : List Node) → ((i : ℕ) (z : Node) → nth i (x ∷ xs) ≡ Some z → nth (u + i) ys ≡ Some z) → (i : ℕ) (z : Node) → nth i xs ≡ Some z → nth (u + 1 + i) ys ≡ Some z
next_rest u x xs ys rest i z e =
    let least : 1 ≤ i = nth_least i xs z e in
    let less : i + 1 - 1 ≡ i = omega arith in
    let same : u + (i + 1) ≡ u + 1 + i = omega arith in
    subst (λ k. nth k ys ≡ Some z) same (rest (i + 1) z (nth_behind (i + 1) x xs (omega (arith, least)) ∙ ap (λ k. nth k xs) less ∙ e))

all_join_also : (xs ys : List WorldEvent) (s : Settling) → all_also (xs ++ ys) s ≡ all_also ys (all_also xs s)
all_join_also [] ys s = refl
all_join_also (x ∷ xs) ys s = all_join_also xs ys (also x s)

one_of_two : (i u : ℕ) → i ≤ u + 1 → (i ≤ u) ⊎ (i ≡ u + 1)
one_of_two i u h = by_test (nat_le i u) refl
  where
    by_test : (c : Bool) → nat_le i u ≡ c → (i ≤ u) ⊎ (i ≡ u + 1)
    by_test true e = inl (leb-true i u e)
    by_test false e = let over : u < i = leb-false i u e in inr (omega (arith, over, h))

ups_rise : (hosts : Hosts) (u : ℕ) (xs : List Node) (s : Settling) → Rising hosts u xs s.world → AllByRecursion MayStart xs → AllUp (all_also (ups (u + 1) xs) s).world
ups_rise hosts u [] s h may = all_from_nth IsUp s.world.nodes (λ i x e. h.done i x (omega (arith, nth_within i s.world.nodes x e, h.size)) e)
ups_rise hosts u (x ∷ xs) s h (start, may) =
    subst (λ t. AllUp t.world) (sym (all_join_also (up_if (u + 1) x.book) (ups (u + 1 + 1) xs) s)) (by_book x.book refl (λ t k. ups_rise hosts (u + 1) xs t k may))
  where
    w : World
    w = s.world

    here : nth (u + 1) w.nodes ≡ Some x
    here = h.rest 1 x refl

    by_book : (o : Option Book) → x.book ≡ o → ((t : Settling) → Rising hosts (u + 1) xs t.world → AllUp (all_also (ups (u + 1 + 1) xs) t).world)
        → AllUp (all_also (ups (u + 1 + 1) xs) (all_also (up_if (u + 1) o) s)).world
    by_book (Some b) up rest = rest s (record {
      run = h.run;
      size = omega (arith, h.size);
      done = λ i z e f. elim (one_of_two i u e) [
        | inl k ↦ h.done i z k f
        | inr k ↦ same_up z (sym (ap (λ j. nth j w.nodes) k) ∙ f)
      ];
      rest = next_rest u x xs w.nodes h.rest;
    })
      where
        same_up : (z : Node) → nth (u + 1) w.nodes ≡ Some z → IsUp z
        same_up z f = let same : Some x ≡ Some z = sym here ∙ f in let one : x ≡ z = cc in subst IsUp one (ap (λ o. is_none o) up)
    by_book None down rest =
        let e : WorldEvent = Up (u + 1) true false in
        let (y, up, nodes) = starts_up hosts (u + 1) w x h.run here down start in
        rest (also e s) (record {
          run = further_run hosts w e h.run;
          size = let same : length (world_step w e).nodes ≡ length w.nodes = ap length nodes ∙ length_put (u + 1) y w.nodes in omega (arith, same, h.size);
          done = λ i z k f. elim (one_of_two i u k) [
            | inl j ↦ h.done i z j (sym (put_other w.nodes i (u + 1) y (λ same. absurd (omega (arith, same, j)))) ∙ sym (ap (nth i) nodes) ∙ f)
            | inr j ↦ new_up y up z (sym (put_this w.nodes (u + 1) x y here) ∙ sym (ap (nth (u + 1)) nodes) ∙ sym (ap (λ m. nth m (world_step w e).nodes) j) ∙ f)
          ];
          rest = λ i z f. ap (nth (u + 1 + i)) nodes ∙ put_other w.nodes (u + 1 + i) (u + 1) y (λ same. absurd (omega (arith, same, nth_least i xs z f))) ∙ next_rest u x xs w.nodes h.rest i z f;
        })
      where
        new_up : (y : Node) → IsUp y → (z : Node) → Some y ≡ Some z → IsUp z
        new_up y up z f = let one : y ≡ z = cc in subst IsUp one up

risen_up : (hosts : Hosts) (es : List WorldEvent) → AllByRecursion MayStart (run_of hosts es).nodes → AllUp (risen hosts es).world
risen_up hosts es may =
    let w : World = run_of hosts es in
    ups_rise hosts 0 w.nodes (record { world = w; events = [] }) (record {
      run = record { events = es; is = refl };
      size = omega arith;
      done = λ i x k f. absurd (omega (arith, k, nth_least i w.nodes x f));
      rest = λ i x f. let same : i ≡ 0 + i = omega arith in subst (λ k. nth k w.nodes ≡ Some x) same f;
    }) may

pub nodes_rise : NodesRise
nodes_rise = record {
  counted = λ hosts es n x found. incarnations_counted hosts (run_of hosts es) (record { events = es; is = refl }) n x found;
  rounds = λ hosts es n most may. rounds_up hosts most n (risen hosts es) (risen_run hosts es) (risen_up hosts es may);
}
