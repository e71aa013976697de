-- Behind an event a node is of no later incarnation, but where it came up, and then of the next.
use Rattle.std.proofs.Common.{ℕ, zero, suc, ◌+◌, ◌≤◌, ◌≡◌, refl, List, [], ◌∷◌, ◌++◌, ap, sym, subst, arith, Bool, true, false, inl, inr}
use Rattle.std.specs.Prelude.{Option, Some, None, ◌&&◌, if◌then◌else◌, nat_lt}
use Rattle.std.specs.List.{AllByRecursion}
use Rattle.at_base.specs.Numbers.{Numbers}
use Rattle.at_base.specs.declared.event.Arrived.{Arrived}
use Rattle.at_base.specs.declared.event.Event.{Event}
use Rattle.at_base.specs.declared.event.Event.TheVariants as events
use Rattle.at_base.specs.declared.event.Local.{Local}
use Rattle.at_base.specs.declared.record.Record.{Record}
use Rattle.at_base.specs.declared.record.Record.TheVariants as records
use Rattle.at_model.specs.Book.{Book, last_counter}
use Rattle.at_model.specs.Recovery.{incarnation_of, last_incarnation, recover}
use Rattle.at_model.specs.Step.{Outcome, Plan, items_of, plan}
use Rattle.at_model.specs.World.{Ask, Crash, Deliver, Hosts, Node, Posted, Raw, Tick, Turn, Up, World, WorldEvent, answer_plan, arrival_plan, decoded, example_base, example_hosts, fate, is_receiver, new_nodes, node_of, nth, opening, run_of, started, up_after, world_step}
use Rattle.interposition.specs.Due.{due_outcomes}
use Rattle.model_laws.specs.DrawnIds.{HoldsDrawn, IdsStayDrawn, IsDrawnRecord, Life, LifeEvent, Started, Stepped, Stopped, life_of, live_through, newborn, restarted}
use Rattle.model_laws.specs.Laws.{IsDrawn, StepsKeepPlace}
use Rattle.model_laws.specs.MadeIds.{MakesNoIdTwice}
use Rattle.model_laws.proofs.MadeIds.{entry_rises}
use Rattle.settling.proofs.Places.{all_nth, all_put_nth}
use Rattle.world_laws.specs.Moves.{ChangesByMoves, Scene, after, arrival_move, crash_move, delivery_move, ended, later_at, lost_of, luck_of, move_of, moved_in, nodes_by, quiet, raw_move, request_move, seen, start_move, tick_move, turn_move, with_all, with_nodes, with_taken}
use Rattle.world_laws.specs.Walks.{Luck, Walk, begin, branch, counted_all, counted_by, counted_one, is_over, recorded, stepped, turned}
use Rattle.world_laws.specs.declared.step_outs.Taken.{Taken}
use Rattle.world_laws.proofs.Bases.{either_move}
use Rattle.net_plays.specs.Incarnations.{IsEarly, IsUnstopped}

-- its records are of no later incarnation than this
abbrev IsUpTo : ℕ → Node → Type 0
IsUpTo k x = last_incarnation x.journal ≤ k

last_more : (rs : List Record) (r : Record) (k : ℕ) → last_incarnation rs ≤ k → incarnation_of r ≤ k → last_incarnation (rs ++ r ∷ []) ≤ k
last_more [] r k h i = omega (arith, i)
last_more (x ∷ xs) r k h i = omega (arith, h, last_more xs r k (omega (arith, h)) i)

id_before : (b : Book) (id : Numbers) → IsDrawn b id → id.incarnation ≤ b.incarnation
id_before b id (inl h) = omega (arith, h)
id_before b id (inr (h, k)) = omega (arith, h)

record_before : (b : Book) (r : Record) → IsDrawnRecord b r → incarnation_of r ≤ b.incarnation
record_before b (records.Start incarnation) h = h
record_before b (records.LeafPrepared id coordinator key value) h = id_before b id h
record_before b (records.LeafCommitted id) h = id_before b id h
record_before b (records.LeafAborted id) h = id_before b id h
record_before b (records.Voted id superior seats) h = id_before b id h
record_before b (records.Decided id seats) h = id_before b id h
record_before b (records.SubCommitted id) h = id_before b id h
record_before b (records.Ended id) h = id_before b id h
record_before b (records.Done id) h = id_before b id h

-- the record of a plan is of no later incarnation than this
abbrev IsPlannedBy : ℕ → Plan → Type 0
IsPlannedBy k p = (r : Record) → p.entry ≡ Some r → incarnation_of r ≤ k

-- through a walk
module _ (k : ℕ) where
  recorded_early : (entry : Option Record) (v : Walk) → last_incarnation v.journal ≤ k → ((r : Record) → entry ≡ Some r → incarnation_of r ≤ k) → last_incarnation (recorded entry v).journal ≤ k
  recorded_early None v h i = h
  recorded_early (Some r) v h i = by_fate (fate v.luck.fates)
    where
      by_fate : (f : Bool) → last_incarnation (if f then v.journal ++ r ∷ [] else v.journal) ≤ k
      by_fate true = last_more v.journal r k h (i r refl)
      by_fate false = h

  counted_early : (o : Option Bool) (p : Plan) (v : Walk) → last_incarnation v.journal ≤ k → last_incarnation (counted_by o p v).journal ≤ k
  counted_early None p v h = h
  counted_early (Some true) p v h = h
  counted_early (Some false) p v h = h

  abbrev IsUpToWalk : Walk → Type 0
  IsUpToWalk v = last_incarnation v.journal ≤ k

  stepped_early : (p : Plan) (v : Walk) → IsUpToWalk v → IsPlannedBy k p → IsUpToWalk (stepped p v)
  stepped_early p v h i = by_over (is_over v.luck)
    where
      by_over : (t : Bool) → IsUpToWalk (if t then v else counted_by (branch p.entry v.luck) p (recorded p.entry v))
      by_over true = h
      by_over false = counted_early (branch p.entry v.luck) p (recorded p.entry v) (recorded_early p.entry v h i)

  all_early : (os : List Outcome) (v : Walk) → IsUpToWalk v → IsUpToWalk (counted_all os v)
  all_early [] v h = h
  all_early (o ∷ os) v h = all_early os (counted_one o v) (by_over (is_over v.luck))
    where
      by_over : (t : Bool) → IsUpToWalk (if t then v else counted_by (Some true) (record { entry = None; landed = o; absent = o }) v)
      by_over true = h
      by_over false = h

  turned_early : (now : ℕ) (p : Plan) (v : Walk) → IsUpToWalk v → IsPlannedBy k p → IsUpToWalk (turned now p v)
  turned_early now p v h i = all_early (due_outcomes now (items_of (stepped p v).book) (stepped p v).book) (stepped p v) (stepped_early p v h i)

  ended_early : (x : Node) (v : Walk) → IsUpToWalk v → IsUpTo k (ended x v).node
  ended_early x v h =
      either_move (IsUpTo k) (is_over v.luck)
      (record { node = record x { book = None; journal = v.journal }; moved = record { taken = v.taken; lost = lost_of v.book; left = v.luck } })
      (record { node = record x { book = Some v.book; journal = v.journal }; moved = record { taken = v.taken; lost = []; left = v.luck } })
      h h

-- what is in the book of a node that is up was drawn, and its incarnation is in its journal
record IsUp (rs : List Record) (b : Book) : Type 0 where
  held : HoldsDrawn b
  known : b.incarnation ≤ last_incarnation rs

abbrev IsGood : List Record → Option Book → Type 0
IsGood rs None = Unit {0}
IsGood rs (Some b) = IsUp rs b

abbrev IsGoodLife : Life → Type 0
IsGoodLife l = IsGood l.journal l.book

module _ (drawn : IdsStayDrawn) (place : StepsKeepPlace) (lives : MakesNoIdTwice) (moves : ChangesByMoves) where
  good_on : (base : List ℕ) (e : LifeEvent) (rs : List Record) (o : Option Book) → IsGood rs o → IsGoodLife (live_through base e (record { journal = rs; book = o }))
  good_on base (Stepped e now landed) rs None h = h
  good_on base (Stepped e now landed) rs (Some b) h = record {
    held = drawn.book b e now landed h.held;
    known = omega (arith, h.known, (place b e now landed).incarnation, entry_rises (plan b e now).entry landed rs);
  }
  good_on base Stopped rs o h = tt
  good_on base (Started landed) rs (Some b) h = h
  good_on base (Started landed) rs None h = by_start (landed && nat_lt (last_incarnation rs) last_counter)
    where
      by_start : (t : Bool) → IsGoodLife (if t then record { journal = restarted rs; book = Some (recover base (restarted rs)) } else record { journal = rs; book = None })
      by_start true = record { held = drawn.recovered base rs; known = omega arith }
      by_start false = tt

  good_life : (base : List ℕ) (es : List LifeEvent) (l : Life) → IsGoodLife l → IsGoodLife (life_of base es l)
  good_life base [] l h = h
  good_life base (e ∷ es) l h = good_life base es (live_through base e l) (good_on base e l.journal l.book h)

  node_good : (hosts : Hosts) (n : ℕ) (es : List WorldEvent) (x : Node) → nth n (run_of hosts es).nodes ≡ Some x → IsGood x.journal x.book
  node_good hosts n es x found =
      let h = lives.lived hosts n es x found in
      subst (λ o. IsGood x.journal o) h.book
      (subst (λ rs. IsGood rs (life_of (hosts.base_of n) h.events newborn).book) h.journal (good_life (hosts.base_of n) h.events newborn tt))

  -- a node of a run, of no later incarnation than this
  module _ (k : ℕ) where
    planned_by : (rs : List Record) (b : Book) (e : Event) (now : ℕ) → IsUp rs b → last_incarnation rs ≤ k → IsPlannedBy k (plan b e now)
    planned_by rs b e now up early r is =
        omega (arith, record_before b r (drawn.entry b e now r up.held is), up.known, early)

    arrival_by : (rs : List Record) (b : Book) (now : ℕ) (a : Option Arrived) → IsUp rs b → last_incarnation rs ≤ k → IsPlannedBy k (arrival_plan b now a)
    arrival_by rs b now None up early r is = absurd cc
    arrival_by rs b now (Some a) up early r is = planned_by rs b (events.Arrived a) now up early r is

    turned_node : (now : ℕ) (x : Node) (b : Book) (p : Plan) (l : Luck) → IsUpTo k x → IsPlannedBy k p → IsUpTo k (turn_move now x b p l).node
    turned_node now x b p l h i = ended_early k (later_at now x) (turned now p (begin b x.journal l)) (turned_early k now p (begin b x.journal l) h i)

    arrived_node : (a : Option Arrived) (l : Luck) (x : Node) (o : Option Book) → IsGood x.journal o → IsUpTo k x → IsUpTo k (arrival_move a l x o).node
    arrived_node a l x None g h = h
    arrived_node a l x (Some b) g h = turned_node x.clock x b (arrival_plan b x.clock a) l h (arrival_by x.journal b x.clock a g h)

    delivered_node : (n : ℕ) (found : Option Posted) (l : Luck) (x : Node) → IsGood x.journal x.book → IsUpTo k x → IsUpTo k (delivery_move n found l x x.book).node
    delivered_node n None l x g h = h
    delivered_node n (Some p) l x g h =
        either_move (IsUpTo k) (is_receiver n p.receiver) (arrival_move (decoded x.base p.content) l x x.book) (quiet x)
        (arrived_node (decoded x.base p.content) l x x.book g h) h

    ticked_node : (ms : ℕ) (l : Luck) (x : Node) (o : Option Book) → IsGood x.journal o → IsUpTo k x → IsUpTo k (tick_move ms l x o).node
    ticked_node ms l x None g h = h
    ticked_node ms l x (Some b) g h =
        turned_node (x.clock + ms) x b (plan b events.Tick (x.clock + ms)) l h (planned_by x.journal b events.Tick (x.clock + ms) g h)

    raw_node : (l : Luck) (x : Node) (o : Option Book) → IsUpTo k x → IsUpTo k (raw_move l x o).node
    raw_node l x None h = h
    raw_node l x (Some b) h = turned_node x.clock x b (answer_plan b 400) l h (λ r is. absurd cc)

    asked_node : (r : Local) (l : Luck) (x : Node) (o : Option Book) → IsGood x.journal o → IsUpTo k x → IsUpTo k (request_move r l x o).node
    asked_node r l x None g h = h
    asked_node r l x (Some b) g h =
        ended_early k x (stepped (plan b (events.Local r) x.clock) (begin b x.journal l))
        (stepped_early k (plan b (events.Local r) x.clock) (begin b x.journal l) h (planned_by x.journal b (events.Local r) x.clock g h))

  -- behind an event
  module _ (k : ℕ) where
    later : (x : Node) → IsEarly k x → IsEarly (k + 1) x
    later x h = record {
      most = let most = h.most in omega (arith, most);
      fewer = let fewer = h.fewer in omega (arith, fewer);
      down = λ none. let less = h.down none in omega (arith, less);
    }

    -- but for a start
    kept : (x y : Node) → IsUpTo (last_incarnation x.journal) y → IsEarly k x → IsEarly (k + 1) y
    kept x y no_later h = record {
      most = let most = h.most in omega (arith, most, no_later);
      fewer = let fewer = h.fewer in omega (arith, fewer, no_later);
      down = λ none. let most = h.most in omega (arith, most, no_later);
    }

    some_before : (k ≡ 0 → true ≡ false) → 1 ≤ k
    some_before first = by k refl
      where
        by : (n : ℕ) → k ≡ n → 1 ≤ k
        by zero e = absurd (let never : true ≡ false = first e in cc)
        by (suc n) e = omega (arith, e)

    begun_node : (more stop : Bool) (x : Node) → x.book ≡ None → (k ≡ 0 → stop ≡ false) → IsEarly k x
        → IsEarly (k + 1) (if more then up_after (started (last_incarnation x.journal + 1) x) stop else x)
    begun_node false stop x none first h = later x h
    begun_node true stop x none first h = by stop first
      where
        next : last_incarnation (x.journal ++ records.Start (last_incarnation x.journal + 1) ∷ []) ≤ last_incarnation x.journal + 1
        next = last_more x.journal (records.Start (last_incarnation x.journal + 1)) (last_incarnation x.journal + 1) (omega arith) (omega arith)

        by : (s : Bool) → (k ≡ 0 → s ≡ false) → IsEarly (k + 1) (up_after (started (last_incarnation x.journal + 1) x) s)
        by true before = record {
          most = let less = h.down none in omega (arith, less, next);
          fewer = let less = h.down none in omega (arith, less, next);
          down = λ same. let less = h.down none in omega (arith, less, next, some_before before);
        }
        by false before = record {
          most = let less = h.down none in omega (arith, less, next);
          fewer = let less = h.down none in omega (arith, less, next);
          down = λ same. absurd cc;
        }

    moved_node : (e : WorldEvent) (posted : List Posted) (x : Node) → (k ≡ 0 → IsUnstopped e) → IsGood x.journal x.book → IsEarly k x → IsEarly (k + 1) (move_of e posted x).node
    moved_node (Turn n (Deliver j) fates until) posted x first g h =
        kept x (delivery_move n (nth j posted) (luck_of fates until) x x.book).node
        (delivered_node (last_incarnation x.journal) n (nth j posted) (luck_of fates until) x g (omega arith)) h
    moved_node (Turn n (Tick ms) fates until) posted x first g h =
        kept x (tick_move ms (luck_of fates until) x x.book).node (ticked_node (last_incarnation x.journal) ms (luck_of fates until) x x.book g (omega arith)) h
    moved_node (Turn n Raw fates until) posted x first g h =
        kept x (raw_move (luck_of fates until) x x.book).node (raw_node (last_incarnation x.journal) (luck_of fates until) x x.book (omega arith)) h
    moved_node (Ask n r fates until) posted x first g h =
        kept x (request_move r (luck_of fates until) x x.book).node (asked_node (last_incarnation x.journal) r (luck_of fates until) x x.book g (omega arith)) h
    moved_node (Crash n) posted x first g h = by_book x.book
      where
        by_book : (o : Option Book) → IsEarly (k + 1) (crash_move x o).node
        by_book None = later x h
        by_book (Some b) = kept x (record x { book = None }) (omega arith) h
    moved_node (Up n landed stop) posted x first g h = by_book x.book refl
      where
        by_book : (o : Option Book) → x.book ≡ o → IsEarly (k + 1) (start_move landed stop x o).node
        by_book None none = begun_node (landed && nat_lt (last_incarnation x.journal) last_counter) stop x none first h
        by_book (Some b) up = later x h

    all_later : (xs : List Node) → AllByRecursion (IsEarly k) xs → AllByRecursion (IsEarly (k + 1)) xs
    all_later [] h = tt
    all_later (x ∷ xs) (h, hs) = (later x h, all_later xs hs)

    nodes_early : (hosts : Hosts) (es : List WorldEvent) (e : WorldEvent) (posted : List Posted) (nodes : List Node) → nodes ≡ (run_of hosts es).nodes → (k ≡ 0 → IsUnstopped e)
        → (o : Option Node) → nth (node_of e) nodes ≡ o → AllByRecursion (IsEarly k) nodes → AllByRecursion (IsEarly (k + 1)) (nodes_by e posted nodes o)
    nodes_early hosts es e posted nodes run first None found h = all_later nodes h
    nodes_early hosts es e posted nodes run first (Some x) found h =
        all_put_nth (IsEarly (k + 1)) (node_of e) (move_of e posted x).node nodes
        (moved_node e posted x first (node_good hosts (node_of e) es x (subst (λ xs. nth (node_of e) xs ≡ Some x) run found)) (all_nth (IsEarly k) (node_of e) x nodes h found))
        (all_later nodes h)

  -- what is kept moves no node
  kept_nodes : (n : ℕ) (ts : List Taken) (s : Scene) → (with_all n ts s).nodes ≡ s.nodes
  kept_nodes n [] s = refl
  kept_nodes n (t ∷ ts) s = kept_nodes n ts (with_taken n t s)

  scene_early : (k : ℕ) (hosts : Hosts) (es : List WorldEvent) (e : WorldEvent) (s : Scene) → s.nodes ≡ (run_of hosts es).nodes → (k ≡ 0 → IsUnstopped e) → AllByRecursion (IsEarly k) s.nodes
      → AllByRecursion (IsEarly (k + 1)) (after s e).nodes
  unfolding after
  scene_early k hosts es e s run first h =
      rw (kept_nodes (node_of e) (moved_in s e).taken (with_nodes s e)) (nodes_early k hosts es e s.posted s.nodes run first (nth (node_of e) s.nodes) refl h)

  pub early_on : (k : ℕ) (hosts : Hosts) (w : World) (es : List WorldEvent) (e : WorldEvent) → w ≡ run_of hosts es → (k ≡ 0 → IsUnstopped e) → AllByRecursion (IsEarly k) w.nodes
      → AllByRecursion (IsEarly (k + 1)) (world_step w e).nodes
  early_on k hosts w es e run first h =
      subst (AllByRecursion (IsEarly (k + 1))) (sym (ap (λ (s : Scene). s.nodes) (moves.moved w e)))
      (scene_early k hosts es e (seen w) (ap (λ (v : World). v.nodes) run) first h)

-- no node of the opening world has records
pub opening_early : (count : ℕ) → AllByRecursion (IsEarly 0) (opening (example_hosts count)).nodes
opening_early count = each count 1
  where
    each : (left n : ℕ) → AllByRecursion (IsEarly 0) (new_nodes example_base left n)
    each zero n = tt
    each (suc left) n = (record { most = omega arith; fewer = omega arith; down = λ none. omega arith }, each left (n + 1))
