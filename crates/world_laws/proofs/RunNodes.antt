-- The nodes of a run stay as they have to be.
use Rattle.std.proofs.Common.{ℕ, zero, suc, List, [], ◌∷◌, ◌≡◌, ◌+◌, ◌*◌, ◌<◌, ◌≤◌, length, Option, Some, None, Bool, true, false, ap, subst, arith, refl}
use Rattle.std.specs.Prelude.{nat_eq, nat_lt, ◌-◌, ◌&&◌, slice_get, if◌then◌else◌}
use Rattle.std.specs.List.{AllByRecursion}
use Rattle.at_base.specs.declared.event.Arrived.{Arrived}
use Rattle.at_base.specs.declared.event.Local.{Local}
use Rattle.at_base.specs.declared.event.Event.TheVariants as events
use Rattle.at_model.specs.Book.{Book, last_counter}
use Rattle.model_laws.specs.Order.{IdsRise, IsInOrder}
use Rattle.model_laws.specs.DrawnIds.{restarted}
use Rattle.at_model.specs.Recovery.{last_incarnation, recover}
use Rattle.at_model.specs.Step.{Plan, plan}
use Rattle.at_model.specs.World.{Node, Posted, WorldEvent, Deliver, Tick, Raw, Turn, Ask, Crash, Up, nth, put_nth, new_node, new_nodes, node_of, opening, arrival_plan, answer_plan, decoded, is_receiver, started, up_after, example_hosts, example_base}
use Rattle.world_laws.specs.Events.{ms_of}
use Rattle.world_laws.specs.Runs.{AreReady, IsFit, IsNode, IsReady}
use Rattle.world_laws.specs.Moves.{Scene, after, arrival_move, crash_move, delivery_move, ended, later_at, lost_of, luck_of, move_of, moved_in, nodes_by, quiet, raw_move, request_move, seen, start_move, tick_move, turn_move, with_all, with_nodes, with_taken}
use Rattle.world_laws.specs.Walks.{Luck, Walk, begin, is_over, stepped, turned}
use Rattle.world_laws.specs.declared.step_outs.Taken.{Taken}
use Rattle.world_laws.proofs.Bases.{either_move}
use Rattle.world_laws.proofs.Nodes.{nodes_length, some_is}
use Rattle.world_laws.proofs.Orders.{IsOrderly, arrival_order, plan_order, stepped_order, turned_order}

-- a list with an item put anew
all_put_by : {A : Type 0} (Q : A → Type 0) (b : Bool) (n : ℕ) (x y : A) (xs : List A) → nat_eq n 1 ≡ b → Q x → Q y
    → AllByRecursion Q xs → AllByRecursion Q (put_nth (n - 1) y xs) → AllByRecursion Q (put_nth n y (x ∷ xs))
all_put_by Q true n x y xs e q r all more = rw e (r, all)
all_put_by Q false n x y xs e q r all more = rw e (q, more)

all_put : {A : Type 0} (Q : A → Type 0) (n : ℕ) (y : A) (xs : List A) → Q y → AllByRecursion Q xs
    → AllByRecursion Q (put_nth n y xs)
all_put Q n y [] r all = tt
all_put Q n y (x ∷ xs) r (q, all) =
    all_put_by Q (nat_eq n 1) n x y xs refl q r all (all_put Q (n - 1) y xs r all)

all_more : {A : Type 0} (P Q : A → Type 0) → ((x : A) → P x → Q x) → (xs : List A) → AllByRecursion P xs → AllByRecursion Q xs
all_more P Q f [] all = tt
all_more P Q f (x ∷ xs) (p, all) = (f x p, all_more P Q f xs all)

pub all_at : {A : Type 0} (P : A → Type 0) (xs : List A) (i : ℕ) (x : A) → AllByRecursion P xs → slice_get xs i ≡ Some x → P x
all_at P [] i x all e = absurd cc
all_at P (y ∷ xs) zero x (p, all) e = subst P (some_is y x e) p
all_at P (y ∷ xs) (suc i) x (p, all) e = all_at P xs i x all e

all_nth_by : {A : Type 0} (P : A → Type 0) (b : Bool) (n : ℕ) (x y : A) (xs : List A) → nat_eq n 1 ≡ b → P y
    → (nth (n - 1) xs ≡ Some x → P x) → nth n (y ∷ xs) ≡ Some x → P x
all_nth_by P true n x y xs e p f h = subst P (some_is y x (rw e at h)) p
all_nth_by P false n x y xs e p f h = f (rw e at h)

all_nth : {A : Type 0} (P : A → Type 0) (n : ℕ) (xs : List A) (x : A) → AllByRecursion P xs → nth n xs ≡ Some x → P x
all_nth P n [] x all h = absurd cc
all_nth P n (y ∷ xs) x (p, all) h = all_nth_by P (nat_eq n 1) n x y xs refl p (all_nth P (n - 1) xs x all) h

-- a node that is as it has to be is ready for one event more
ready : (ticks : ℕ) → ticks < 4294967295 → (x : Node) → IsNode ticks x → IsReady x
ready ticks few x h = record {
  order = h.order;
  clock = let within = h.clock in omega (arith, within);
}

pub are_ready : (ticks : ℕ) (s : Scene) → ticks < 4294967295 → IsFit ticks s → AreReady s.nodes
are_ready ticks s few h = all_more (IsNode ticks) IsReady (ready ticks few) s.nodes h.each

none_some : (b : Book) → None ≡ Some b → ⊥
none_some b e = absurd cc

later : (ticks : ℕ) (x : Node) → IsNode ticks x → IsNode (ticks + 1) x
later ticks x h = record { order = h.order; clock = let within = h.clock in omega (arith, within) }

-- a node behind its steps
ended_node : (ticks : ℕ) (x : Node) (w : Walk) → x.clock ≤ (ticks + 1) * 4294967295 → IsInOrder w.book → IsNode (ticks + 1) (ended x w).node
ended_node ticks x w within h =
    either_move (IsNode (ticks + 1)) (is_over w.luck)
    (record { node = record x { book = None; journal = w.journal }; moved = record { taken = w.taken; lost = lost_of w.book; left = w.luck } })
    (record { node = record x { book = Some w.book; journal = w.journal }; moved = record { taken = w.taken; lost = []; left = w.luck } })
    (record { order = λ b e. absurd (none_some b e); clock = within })
    (record { order = λ b e. subst IsInOrder (some_is w.book b e) h; clock = within })

-- books in order
module _ (ids : IdsRise) where
  turned_node : (ticks now : ℕ) (x : Node) (b : Book) (p : Plan) (l : Luck) → now ≤ (ticks + 1) * 4294967295 → IsInOrder b → IsOrderly p
      → IsNode (ticks + 1) (turn_move now x b p l).node
  turned_node ticks now x b p l within h o =
      ended_node ticks (later_at now x) (turned now p (begin b x.journal l)) within (turned_order ids now p (begin b x.journal l) o h)

  still_within : (ticks : ℕ) (x : Node) → IsNode ticks x → x.clock ≤ (ticks + 1) * 4294967295
  still_within ticks x h = let within = h.clock in omega (arith, within)

  arrived_node : (ticks : ℕ) (a : Option Arrived) (l : Luck) (x : Node) (o : Option Book) → x.book ≡ o → IsNode ticks x
      → IsNode (ticks + 1) (arrival_move a l x o).node
  arrived_node ticks a l x None e h = later ticks x h
  arrived_node ticks a l x (Some b) e h =
      turned_node ticks x.clock x b (arrival_plan b x.clock a) l (still_within ticks x h) (h.order b e) (arrival_order ids b x.clock a (h.order b e))

  delivered_node : (ticks n : ℕ) (found : Option Posted) (l : Luck) (x : Node) → IsNode ticks x
      → IsNode (ticks + 1) (delivery_move n found l x x.book).node
  delivered_node ticks n None l x h = later ticks x h
  delivered_node ticks n (Some p) l x h =
      either_move (IsNode (ticks + 1)) (is_receiver n p.receiver) (arrival_move (decoded x.base p.content) l x x.book) (quiet x)
      (arrived_node ticks (decoded x.base p.content) l x x.book refl h) (later ticks x h)

  ticked_node : (ticks ms : ℕ) (l : Luck) (x : Node) (o : Option Book) → x.book ≡ o → ms ≤ 4294967295 → IsNode ticks x
      → IsNode (ticks + 1) (tick_move ms l x o).node
  ticked_node ticks ms l x None e short h = later ticks x h
  ticked_node ticks ms l x (Some b) e short h =
      turned_node ticks (x.clock + ms) x b (plan b events.Tick (x.clock + ms)) l (let within = h.clock in omega (arith, within, short)) (h.order b e)
      (plan_order ids b events.Tick (x.clock + ms) (h.order b e))

  raw_node : (ticks : ℕ) (l : Luck) (x : Node) (o : Option Book) → x.book ≡ o → IsNode ticks x → IsNode (ticks + 1) (raw_move l x o).node
  raw_node ticks l x None e h = later ticks x h
  raw_node ticks l x (Some b) e h =
      turned_node ticks x.clock x b (answer_plan b 400) l (still_within ticks x h) (h.order b e)
      (record { landed = h.order b e; absent = h.order b e })

  asked_node : (ticks : ℕ) (r : Local) (l : Luck) (x : Node) (o : Option Book) → x.book ≡ o → IsNode ticks x
      → IsNode (ticks + 1) (request_move r l x o).node
  asked_node ticks r l x None e h = later ticks x h
  asked_node ticks r l x (Some b) e h =
      ended_node ticks x (stepped (plan b (events.Local r) x.clock) (begin b x.journal l)) (still_within ticks x h)
      (stepped_order (plan b (events.Local r) x.clock) (begin b x.journal l) (plan_order ids b (events.Local r) x.clock (h.order b e)) (h.order b e))

  crashed_node : (ticks : ℕ) (x : Node) (o : Option Book) → IsNode ticks x → IsNode (ticks + 1) (crash_move x o).node
  crashed_node ticks x None h = later ticks x h
  crashed_node ticks x (Some b) h = record { order = λ c e. absurd (none_some c e); clock = still_within ticks x h }

  begun_by : (more stop : Bool) (ticks : ℕ) (x : Node) → IsNode ticks x
      → IsNode (ticks + 1) (if more then up_after (started (last_incarnation x.journal + 1) x) stop else x)
  begun_by true true ticks x h = record { order = λ b e. absurd (none_some b e); clock = still_within ticks x h }
  begun_by true false ticks x h = record {
    order = λ b f. subst IsInOrder (some_is (recover x.base (restarted x.journal)) b f) (ids.started x.base x.journal);
    clock = still_within ticks x h;
  }
  begun_by false stop ticks x h = later ticks x h

  started_node : (ticks : ℕ) (landed stop : Bool) (x : Node) (o : Option Book) → IsNode ticks x → IsNode (ticks + 1) (start_move landed stop x o).node
  started_node ticks landed stop x None h = begun_by (landed && nat_lt (last_incarnation x.journal) last_counter) stop ticks x h
  started_node ticks landed stop x (Some b) h = later ticks x h

  moved_node : (e : WorldEvent) (ticks : ℕ) (posted : List Posted) (x : Node) → ms_of e ≤ 4294967295 → IsNode ticks x
      → IsNode (ticks + 1) (move_of e posted x).node
  moved_node (Turn n (Deliver k) fates until) ticks posted x short h = delivered_node ticks n (nth k posted) (luck_of fates until) x h
  moved_node (Turn n (Tick ms) fates until) ticks posted x short h = ticked_node ticks ms (luck_of fates until) x x.book refl short h
  moved_node (Turn n Raw fates until) ticks posted x short h = raw_node ticks (luck_of fates until) x x.book refl h
  moved_node (Ask n r fates until) ticks posted x short h = asked_node ticks r (luck_of fates until) x x.book refl h
  moved_node (Crash n) ticks posted x short h = crashed_node ticks x x.book h
  moved_node (Up n landed stop) ticks posted x short h = started_node ticks landed stop x x.book h

  fit_by : (e : WorldEvent) (ticks : ℕ) (posted : List Posted) (nodes : List Node) (o : Option Node) → nth (node_of e) nodes ≡ o
      → ms_of e ≤ 4294967295 → AllByRecursion (IsNode ticks) nodes
      → AllByRecursion (IsNode (ticks + 1)) (nodes_by e posted nodes o)
  fit_by e ticks posted nodes None h short all = all_more (IsNode ticks) (IsNode (ticks + 1)) (later ticks) nodes all
  fit_by e ticks posted nodes (Some x) h short all =
      all_put (IsNode (ticks + 1)) (node_of e) (move_of e posted x).node nodes
      (moved_node e ticks posted x short (all_nth (IsNode ticks) (node_of e) nodes x all h))
      (all_more (IsNode ticks) (IsNode (ticks + 1)) (later ticks) nodes all)

  -- what is kept moves no node
  kept_nodes : (n : ℕ) (ts : List Taken) (s : Scene) → (with_all n ts s).nodes ≡ s.nodes
  kept_nodes n [] s = refl
  kept_nodes n (t ∷ ts) s = kept_nodes n ts (with_taken n t s)

  pub fit_after : (e : WorldEvent) (ticks : ℕ) (s : Scene) → ms_of e ≤ 4294967295 → IsFit ticks s → IsFit (ticks + 1) (after s e)
  unfolding after
  fit_after e ticks s short h = record {
    few = rw (kept_nodes (node_of e) (moved_in s e).taken (with_nodes s e), nodes_length e s.posted s.nodes (nth (node_of e) s.nodes)) (h.few);
    each = rw (kept_nodes (node_of e) (moved_in s e).taken (with_nodes s e)) (fit_by e ticks s.posted s.nodes (nth (node_of e) s.nodes) refl short h.each);
  }

-- the opening nodes
new_node_is : (n : ℕ) → IsNode 0 (new_node (example_base n))
new_node_is n = record { order = λ b e. absurd (none_some b e); clock = omega arith }

new_each : (count n : ℕ) → AllByRecursion (IsNode 0) (new_nodes example_base count n)
new_each zero n = tt
new_each (suc k) n = (new_node_is n, new_each k (n + 1))

new_length : (count n : ℕ) → length (new_nodes example_base count n) ≡ count
new_length zero n = refl
new_length (suc k) n = ap suc (new_length k (n + 1))

pub opening_fits : (count : ℕ) → count ≤ 8 → IsFit 0 (seen (opening (example_hosts count)))
opening_fits count few = record { few = rw (new_length count 1) few; each = new_each count 1 }
