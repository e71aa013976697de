-- In every run no book has seen a time that its node's clock hasn't shown.
use Rattle.std.specs.Prelude.{ℕ, List, [], ◌∷◌, ◌++◌, Option, Some, None, Bool, true, false, nat_lt, ◌+◌, ◌&&◌, if◌then◌else◌, map, zero, suc, ◌≡◌, ◌≤◌, refl}
use Rattle.std.specs.List.{AllByRecursion}
use Rattle.std.proofs.Common.{arith, sym, subst, ap, ◌∙◌}
use Rattle.at_base.specs.declared.event.Arrived.{Arrived}
use Rattle.at_base.specs.declared.event.Event.{Event}
use Rattle.at_base.specs.declared.event.Event.TheVariants as events
use Rattle.at_base.specs.declared.event.Item.{Item}
use Rattle.at_base.specs.declared.outs.Out.{Out}
use Rattle.at_base.specs.declared.outs.Out.TheVariants as outs
use Rattle.at_base.specs.declared.record.Record.{Record}
use Rattle.at_model.specs.Arrivals.{with_answer}
use Rattle.at_model.specs.Book.{Book, last_counter}
use Rattle.at_model.specs.Posts.{accepted}
use Rattle.at_model.specs.Recovery.{last_incarnation}
use Rattle.at_model.specs.Register.{on_register}
use Rattle.at_model.specs.Step.{Outcome, Plan, at_time, is_due, items_of, make_activity, make_leaf, make_transaction, moment_of, plan, put_activity, put_leaf, put_transaction, registration_outcome, still, time_of}
use Rattle.at_model.specs.World.{Ask, Crash, Deliver, Input, Node, Posted, Raw, Tick, Turn, Turning, Up, World, WorldEvent, absent_step, accepted_in, after_fate, answer_plan, arrival_plan, ask, at_node, at_some_node, counted, decoded, deliver, down_only, due_step, due_steps, fate, goes_down, happened_at, is_receiver, is_stopped, landed_step, later, lost_in, new_nodes, node_of, nth, on_book, opening, put_book, put_nth, run_of, run_on, send_all, sent, start, started, step_by, take_step, take_turn, ticked, turn, turn_from, turned, up_after, with_record, world_step, Hosts, traced}
use Rattle.model_laws.specs.Shapes.{Shape, activity_made, activity_moves, leaf_made, leaf_moves, nothing_moves, time_moves, time_passes, transaction_made, transaction_moves, transaction_registers}
use Rattle.model_laws.proofs.DecisionLaws.{Both, IfThere, decision_both, plain_both}
use Rattle.model_laws.proofs.NodeLives.{put_this}
use Rattle.model_laws.proofs.StepShapes.{steps_touch_one}
use Rattle.settling.proofs.Places.{all_nth, all_put_nth}

-- a step sees no later time than the clock, or than its book had seen
SeenBy : ℕ → Outcome → Type 0
SeenBy now o = o.book.seen ≤ now

seen_both : (b : Book) (e : Event) (now : ℕ) (p : Plan) → Shape b e now p → Both (SeenBy (time_of b now)) p
unfolding SeenBy
seen_both b e now p (nothing_moves f) = subst (Both (SeenBy (time_of b now))) (sym f) (plain_both (SeenBy (time_of b now)) (still b []) (omega arith))
seen_both b e now p (time_moves a os came why o f) = subst (Both (SeenBy (time_of b now))) (sym f) (plain_both (SeenBy (time_of b now)) (still (at_time now b) os) (omega arith))
seen_both b e now p (time_passes came f) = subst (Both (SeenBy (time_of b now))) (sym f) (plain_both (SeenBy (time_of b now)) (still (at_time now b) accepted) (omega arith))
seen_both b e now p (transaction_moves id t answer d stands how o f) =
    subst (Both (SeenBy (time_of b now))) (sym f)
    (decision_both (SeenBy (time_of b now)) (λ r o i. i) b (put_transaction t.id (at_time now b)) answer (with_answer (moment_of b now) t d) (λ c. omega arith) (omega arith))
seen_both b e now p (leaf_moves id x answer d stands how o f) =
    subst (Both (SeenBy (time_of b now))) (sym f) (decision_both (SeenBy (time_of b now)) (λ r o i. i) b (put_leaf x.id (at_time now b)) answer d (λ c. omega arith) (omega arith))
seen_both b e now p (activity_moves id a answer d stands how o f) =
    subst (Both (SeenBy (time_of b now))) (sym f) (decision_both (SeenBy (time_of b now)) (λ r o i. i) b (put_activity a.id (at_time now b)) answer d (λ c. omega arith) (omega arith))
seen_both b e now p (transaction_registers id a r t stands came at says o f) =
    subst (Both (SeenBy (time_of b now))) (sym f) (plain_both (SeenBy (time_of b now)) (registration_outcome b now (on_register (moment_of b now) a r t)) (omega arith))
seen_both b e now p (transaction_made a c id t os came at says next made sent o f) =
    subst (Both (SeenBy (time_of b now))) (sym f) (plain_both (SeenBy (time_of b now)) (still (make_transaction (at_time now b) t) os) (omega arith))
seen_both b e now p (leaf_made a w id x os came at says next made sent o f) =
    subst (Both (SeenBy (time_of b now))) (sym f) (plain_both (SeenBy (time_of b now)) (still (make_leaf (at_time now b) x) os) (omega arith))
seen_both b e now p (activity_made id a os next made o f) =
    subst (Both (SeenBy (time_of b now))) (sym f) (plain_both (SeenBy (time_of b now)) (still (make_activity (at_time now b) a) os) (omega arith))

-- both branches of a plan, at a book that has seen no later time
record PlanSees (now : ℕ) (p : Plan) : Type 0 where
  landed : p.landed.book.seen ≤ now
  absent : p.absent.book.seen ≤ now

plan_sees : (b : Book) (e : Event) (now : ℕ) → b.seen ≤ now → PlanSees now (plan b e now)
unfolding SeenBy
plan_sees b e now h =
    let k : Both (SeenBy (time_of b now)) (plan b e now) = seen_both b e now (plan b e now) (steps_touch_one b e now) in
    let landed : (plan b e now).landed.book.seen ≤ time_of b now = k.landed in
    let absent : (plan b e now).absent.book.seen ≤ time_of b now = k.absent in
    record { landed = omega (arith, landed, h); absent = omega (arith, absent, h) }

answer_sees : (b : Book) (now status : ℕ) → b.seen ≤ now → PlanSees now (answer_plan b status)
answer_sees b now status h = record { landed = h; absent = h }

-- nodes
abbrev pub IsTimed : Node → Type 0
IsTimed x = IfThere (λ b. b.seen ≤ x.clock) x.book

abbrev pub AreTimed : World → Type 0
AreTimed w = AllByRecursion IsTimed w.nodes

-- a turn on its way
record Goes (n now : ℕ) (r : Turning) : Type 0 where
  node : Node
  found : nth n r.world.nodes ≡ Some node
  clock : node.clock ≡ now
  book : r.book.seen ≤ now
  nodes : AreTimed r.world

record Same (r t : Turning) : Type 0 where
  book : t.book ≡ r.book
  nodes : t.world.nodes ≡ r.world.nodes

goes_same : (n now : ℕ) (r t : Turning) → Same r t → Goes n now r → Goes n now t
goes_same n now r t s g = record {
  node = g.node;
  found = ap (nth n) s.nodes ∙ g.found;
  clock = g.clock;
  book = subst (λ (b : Book). b.seen ≤ now) (sym s.book) g.book;
  nodes = subst (AllByRecursion IsTimed) (sym s.nodes) g.nodes;
}

sent_nodes : (n : ℕ) (f : Bool) (o : Out) (w : World) → (sent n f o w).nodes ≡ w.nodes
sent_nodes n true (outs.Post p) w = refl
sent_nodes n true (outs.Answer status reply) w = refl
sent_nodes n false o w = refl

sends_same : (n : ℕ) (os : List Out) (r : Turning) → Same r (send_all n os r)
sends_same n [] r = record { book = refl; nodes = refl }
sends_same n (o ∷ os) r = by_stop (is_stopped r) (sends_same n os (record (after_fate r) { world = sent n (fate r.fates) o r.world }))
  where
    by_stop : (c : Bool) → Same (record (after_fate r) { world = sent n (fate r.fates) o r.world }) (send_all n os (record (after_fate r) { world = sent n (fate r.fates) o r.world }))
        → Same r (if c then r else send_all n os (record (after_fate r) { world = sent n (fate r.fates) o r.world }))
    by_stop true h = record { book = refl; nodes = refl }
    by_stop false h = record { book = h.book; nodes = h.nodes ∙ sent_nodes n (fate r.fates) o r.world }

counted_goes : (n now : ℕ) (o : Outcome) (r : Turning) → o.book.seen ≤ now → Goes n now r → Goes n now (counted n o r)
counted_goes n now o r h g =
    let t : Turning = record r {
      book = o.book;
      trace = r.trace ++ traced o r ∷ [];
      world = record r.world { accepted = r.world.accepted ++ accepted_in n r.world.nodes r.book o.book.transactions; happened = r.world.happened ++ map (happened_at n) o.effects };
    } in
    goes_same n now t (send_all n o.outs t) (sends_same n o.outs t) (record { node = g.node; found = g.found; clock = g.clock; book = h; nodes = g.nodes })

after_goes : (n now : ℕ) (r : Turning) → Goes n now r → Goes n now (after_fate r)
after_goes n now r g = record { node = g.node; found = g.found; clock = g.clock; book = g.book; nodes = g.nodes }

journaled_goes : (n now : ℕ) (entry : Record) (r : Turning) → Goes n now r → Goes n now (record (after_fate r) { world = with_record n entry r.world (nth n r.world.nodes) })
journaled_goes n now entry r g =
    let y : Node = record g.node { journal = g.node.journal ++ entry ∷ [] } in
    subst (λ o. Goes n now (record (after_fate r) { world = with_record n entry r.world o })) (sym g.found)
    (record {
      node = y;
      found = put_this r.world.nodes n g.node y g.found;
      clock = g.clock;
      book = g.book;
      nodes = all_put_nth IsTimed n y r.world.nodes (all_nth IsTimed n g.node r.world.nodes g.nodes g.found) g.nodes;
    })

take_goes : (n now : ℕ) (p : Plan) (r : Turning) → PlanSees now p → Goes n now r → Goes n now (take_step n p r)
take_goes n now p r h g = by_stop (is_stopped r)
  where
    by_absent : (c : Bool) → Goes n now (if c then after_fate r else counted n p.absent (after_fate r))
    by_absent true = after_goes n now r g
    by_absent false = counted_goes n now p.absent (after_fate r) h.absent (after_goes n now r g)

    by_fate : (entry : Record) (c : Bool) → Goes n now (if c then landed_step n entry p r else absent_step n p r)
    by_fate entry true = counted_goes n now p.landed (record (after_fate r) { world = with_record n entry r.world (nth n r.world.nodes) }) h.landed (journaled_goes n now entry r g)
    by_fate entry false = by_absent (is_stopped (after_fate r))

    by_entry : (o : Option Record) → Goes n now (step_by n o p r)
    by_entry None = counted_goes n now p.landed r h.landed g
    by_entry (Some entry) = by_fate entry (fate r.fates)

    by_stop : (c : Bool) → Goes n now (if c then r else step_by n p.entry p r)
    by_stop true = g
    by_stop false = by_entry p.entry

due_goes : (n now : ℕ) (item : Item) (r : Turning) → Goes n now r → Goes n now (due_step n now item r)
due_goes n now item r g = by_due (is_due r.book now item)
  where
    by_due : (c : Bool) → Goes n now (if c then take_step n (plan r.book (events.Due item) now) r else r)
    by_due true = take_goes n now (plan r.book (events.Due item) now) r (plan_sees r.book (events.Due item) now g.book) g
    by_due false = g

dues_go : (n now : ℕ) (items : List Item) (r : Turning) → Goes n now r → Goes n now (due_steps n now items r)
dues_go n now [] r g = g
dues_go n now (item ∷ rest) r g = dues_go n now rest (due_step n now item r) (due_goes n now item r g)

down_timed : (n : ℕ) (b : Book) (w : World) (x : Node) → nth n w.nodes ≡ Some x → AreTimed w → AreTimed (goes_down n b w)
down_timed n b w x found h =
    subst (λ o. AreTimed (put_book n None (record w { happened = w.happened ++ lost_in n b }) o)) (sym found) (all_put_nth IsTimed n (record x { book = None }) w.nodes tt h)

turned_timed : (n now : ℕ) (r : Turning) → Goes n now r → AreTimed (turned n r)
turned_timed n now r g = by_stop (is_stopped r)
  where
    by_stop : (c : Bool) → AreTimed (if c then goes_down n r.book r.world else put_book n (Some r.book) r.world (nth n r.world.nodes))
    by_stop true = down_timed n r.book r.world g.node g.found g.nodes
    by_stop false =
        subst (λ o. AreTimed (put_book n (Some r.book) r.world o)) (sym g.found)
        (all_put_nth IsTimed n (record g.node { book = Some r.book }) r.world.nodes (subst (λ k. r.book.seen ≤ k) (sym g.clock) g.book) g.nodes)

taken_timed : (n now : ℕ) (p : Plan) (w : World) (x : Node) (b : Book) (fates : List Bool) (until : Option ℕ) → PlanSees now p → nth n w.nodes ≡ Some x → x.clock ≡ now → b.seen ≤ now → AreTimed w
    → AreTimed (take_turn n now p (turn_from w b fates until))
taken_timed n now p w x b fates until h found clock seen timed =
    let r : Turning = take_step n p (turn_from w b fates until) in
    turned_timed n now (due_steps n now (items_of r.book) r)
    (dues_go n now (items_of r.book) r (take_goes n now p (turn_from w b fates until) h (record { node = x; found = found; clock = clock; book = seen; nodes = timed })))

-- each event
input_timed : (n : ℕ) (x : Node) (b : Book) (input : Input) (fates : List Bool) (until : Option ℕ) (w : World) → nth n w.nodes ≡ Some x → x.book ≡ Some b → AreTimed w → AreTimed (turn n input fates until x b w)
input_timed n x b (Deliver k) fates until w found up h = by_post (nth k w.posted)
  where
    seen : b.seen ≤ x.clock
    seen = subst (IfThere (λ c. c.seen ≤ x.clock)) up (all_nth IsTimed n x w.nodes h found)

    by_decoded : (o : Option Arrived) → AreTimed (take_turn n x.clock (arrival_plan b x.clock o) (turn_from w b fates until))
    by_decoded None = taken_timed n x.clock (answer_plan b 500) w x b fates until (answer_sees b x.clock 500 seen) found refl seen h
    by_decoded (Some a) = taken_timed n x.clock (plan b (events.Arrived a) x.clock) w x b fates until (plan_sees b (events.Arrived a) x.clock seen) found refl seen h

    by_receiver : (p : Posted) (c : Bool) → AreTimed (if c then take_turn n x.clock (arrival_plan b x.clock (decoded x.base p.content)) (turn_from w b fates until) else w)
    by_receiver p true = by_decoded (decoded x.base p.content)
    by_receiver p false = h

    by_post : (o : Option Posted) → AreTimed (deliver n x b fates until o w)
    by_post None = h
    by_post (Some p) = by_receiver p (is_receiver n p.receiver)
input_timed n x b (Tick ms) fates until w found up h =
    let y : Node = later ms x in
    let seen : b.seen ≤ x.clock = subst (IfThere (λ c. c.seen ≤ x.clock)) up (all_nth IsTimed n x w.nodes h found) in
    let more : b.seen ≤ x.clock + ms = omega (arith, seen) in
    taken_timed n (x.clock + ms) (plan b events.Tick (x.clock + ms)) (ticked n y w) y b fates until (plan_sees b events.Tick (x.clock + ms) more) (put_this w.nodes n x y found) refl more
    (all_put_nth IsTimed n y w.nodes (subst (IfThere (λ c. c.seen ≤ x.clock + ms)) (sym up) more) h)
input_timed n x b Raw fates until w found up h =
    let seen : b.seen ≤ x.clock = subst (IfThere (λ c. c.seen ≤ x.clock)) up (all_nth IsTimed n x w.nodes h found) in
    taken_timed n x.clock (answer_plan b 400) w x b fates until (answer_sees b x.clock 400 seen) found refl seen h

event_timed : (e : WorldEvent) (x : Node) (w : World) → nth (node_of e) w.nodes ≡ Some x → AreTimed w → AreTimed (at_node e x w)
event_timed (Turn n input fates until) x w found h = by_book x.book refl
  where
    by_book : (o : Option Book) → x.book ≡ o → AreTimed (on_book o (λ b. turn n input fates until x b w) w)
    by_book None up = h
    by_book (Some b) up = input_timed n x b input fates until w found up h
event_timed (Ask n l fates until) x w found h = by_book x.book refl
  where
    by_book : (o : Option Book) → x.book ≡ o → AreTimed (on_book o (λ b. ask n l fates until x b w) w)
    by_book None up = h
    by_book (Some b) up =
        let seen : b.seen ≤ x.clock = subst (IfThere (λ c. c.seen ≤ x.clock)) up (all_nth IsTimed n x w.nodes h found) in
        turned_timed n x.clock (take_step n (plan b (events.Local l) x.clock) (turn_from w b fates until))
        (take_goes n x.clock (plan b (events.Local l) x.clock) (turn_from w b fates until) (plan_sees b (events.Local l) x.clock seen)
        (record { node = x; found = found; clock = refl; book = seen; nodes = h }))
event_timed (Crash n) x w found h = by_book x.book
  where
    by_book : (o : Option Book) → AreTimed (on_book o (λ b. goes_down n b w) w)
    by_book None = h
    by_book (Some b) = down_timed n b w x found h
event_timed (Up n landed stop) x w found h = by_book x.book
  where
    by_stop : (c : Bool) → IsTimed (up_after (started (last_incarnation x.journal + 1) x) c)
    by_stop true = tt
    by_stop false = omega arith

    by_landed : (c : Bool) → AreTimed (if c then record w { nodes = put_nth n (up_after (started (last_incarnation x.journal + 1) x) stop) w.nodes } else w)
    by_landed true = all_put_nth IsTimed n (up_after (started (last_incarnation x.journal + 1) x) stop) w.nodes (by_stop stop) h
    by_landed false = h

    by_book : (o : Option Book) → AreTimed (down_only o (start n landed stop x w) w)
    by_book None = by_landed (landed && nat_lt (last_incarnation x.journal) last_counter)
    by_book (Some b) = h

step_timed : (w : World) (e : WorldEvent) → AreTimed w → AreTimed (world_step w e)
unfolding world_step
step_timed w e h = by_node (nth (node_of e) w.nodes) refl
  where
    by_node : (o : Option Node) → nth (node_of e) w.nodes ≡ o → AreTimed (at_some_node e o w)
    by_node None found = h
    by_node (Some x) found = event_timed e x w found h

all_timed : (es : List WorldEvent) (w : World) → AreTimed w → AreTimed (run_on w es)
all_timed [] w h = h
all_timed (e ∷ es) w h = all_timed es (world_step w e) (step_timed w e h)

new_timed : (base_of : ℕ → List ℕ) (k n : ℕ) → AllByRecursion IsTimed (new_nodes base_of k n)
new_timed base_of zero n = tt
new_timed base_of (suc k) n = (tt, new_timed base_of k (n + 1))

pub run_timed : (hosts : Hosts) (es : List WorldEvent) → AreTimed (run_of hosts es)
run_timed hosts es = all_timed es (opening hosts) (new_timed hosts.base_of hosts.count 1)
