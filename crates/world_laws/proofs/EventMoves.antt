-- An event changes a world by the moves of its node.
use Rattle.std.proofs.Common.{ℕ, List, [], ◌∷◌, ◌++◌, ◌≡◌, ◌+◌, Option, Some, None, Bool, true, false, ap, sym, ◌∙◌, refl}
use Rattle.std.specs.Prelude.{length, map, nat_lt, ◌&&◌, if◌then◌else◌}
use Rattle.std.proofs.lemmas.List.{append-nil, append_assoc}
use Rattle.at_base.specs.declared.event.Arrived.{Arrived}
use Rattle.at_base.specs.declared.event.Local.{Local}
use Rattle.at_base.specs.declared.event.Event.TheVariants as events
use Rattle.at_model.specs.Book.{Book, last_counter}
use Rattle.at_model.specs.Recovery.{last_incarnation}
use Rattle.at_model.specs.Step.{Plan, plan}
use Rattle.at_model.specs.World.{World, Node, Posted, WorldEvent, delivery_trace, trace_at, trace_while_up, turn_trace, walked, Input, Turn, Ask, Crash, Up, Deliver, Tick, Raw, nth, put_nth, node_of, turn, ask, start, started, up_after, deliver, on_book, down_only, goes_down, put_book, lost_in, turn_from, take_turn, at_node, at_some_node, arrival_plan, answer_plan, decoded, is_receiver, happened_at, later, ticked, world_step}
use Rattle.interposition.specs.ModelSteps.{LosesAsTheModel}
use Rattle.world_laws.specs.declared.step_outs.Taken.{Taken}
use Rattle.world_laws.specs.Moves.{ChangesByMoves, Move, Scene, after, arrival_move, crash_move, delivery_move, ended, input_move, later_at, lost_of, luck_of, move_of, moved_by, moved_in, nodes_by, numbered, posted_at, quiet, request_move, seen, start_move, steps_in, steps_of, taken_of, turn_move, with_all, with_lost, with_moved, with_taken}
use Rattle.world_laws.specs.Walks.{Walk, begin, is_over, stepped, turned}
use Rattle.world_laws.proofs.Bases.{moved_base}
use Rattle.world_laws.proofs.Nodes.{nth_put, posts_put, put_put, put_same}
use Rattle.world_laws.proofs.Walks.{Unrecorded, asked_on, at_move, happened_by, posted_by, step_told, turn_told, turned_on}

posted_put : (n : ℕ) (xs : List Node) (y z : Node) (ts : List Taken) → y.base ≡ z.base → nth n xs ≡ Some y
    → posted_by n (put_nth n z xs) ts ≡ posted_by n xs ts
posted_put n xs y z [] same h = refl
posted_put n xs y z (t ∷ ts) same h = λ i. posts_put n n xs y z t.posts same h i ++ posted_put n xs y z ts same h i

quiet_shown : (n : ℕ) (w : World) (x : Node) → nth n w.nodes ≡ Some x → seen w ≡ at_move n w (quiet x)
quiet_shown n w x h = λ i. record {
  nodes = sym (put_same n w.nodes x h) i;
  posted = sym (append-nil w.posted) i;
  happened = sym (append-nil (w.happened ++ []) ∙ append-nil w.happened) i;
}

-- what the steps gave stays as it was at the end
ended_taken : (x : Node) (v : Walk) → (ended x v).moved.taken ≡ v.taken
ended_taken x v = at (is_over v.luck)
  where
    down : Move
    down = record { node = record x { book = None; journal = v.journal }; moved = record { taken = v.taken; lost = lost_of v.book; left = v.luck } }

    stays : Move
    stays = record { node = record x { book = Some v.book; journal = v.journal }; moved = record { taken = v.taken; lost = []; left = v.luck } }

    at : (b : Bool) → (λ (m : Move). m.moved.taken) (if b then down else stays) ≡ v.taken
    at true = refl
    at false = refl

-- the move of a node, of which it is told apart whether it is up
abbrev move_with : WorldEvent → List Posted → Node → Option Book → Move
move_with (Turn n input fates until) posted x o = input_move n input (luck_of fates until) posted x o
move_with (Ask n r fates until) posted x o = request_move r (luck_of fates until) x o
move_with (Crash n) posted x o = crash_move x o
move_with (Up n landed stop) posted x o = start_move landed stop x o

as_moved : (e : WorldEvent) (posted : List Posted) (x : Node) → (move_with e posted x x.book).moved.taken ≡ (move_of e posted x).moved.taken
as_moved (Turn n input fates until) posted x = refl
as_moved (Ask n r fates until) posted x = refl
as_moved (Crash n) posted x = refl
as_moved (Up n landed stop) posted x = refl

-- a node that is down takes no step
none_taken : (n : ℕ) (input : Input) (fates : List Bool) (until : Option ℕ) (posted : List Posted) (x : Node)
    → (input_move n input (luck_of fates until) posted x None).moved.taken ≡ []
none_taken n (Deliver k) fates until posted x = by_found (nth k posted)
  where
    by_found : (o : Option Posted) → (delivery_move n o (luck_of fates until) x None).moved.taken ≡ []
    by_found None = refl
    by_found (Some p) = by_receiver (is_receiver n p.receiver)
      where
        by_receiver : (c : Bool) → (λ (m : Move). m.moved.taken) (if c then arrival_move (decoded x.base p.content) (luck_of fates until) x None else quiet x) ≡ []
        by_receiver true = refl
        by_receiver false = refl
none_taken n (Tick ms) fates until posted x = refl
none_taken n Raw fates until posted x = refl

module _ (none : Unrecorded) (loses : LosesAsTheModel) where
  turn_shown : (n : ℕ) (p : Plan) (w : World) (x : Node) (b : Book) (fates : List Bool) (until : Option ℕ) → nth n w.nodes ≡ Some x
      → seen (take_turn n x.clock p (turn_from w b fates until)) ≡ at_move n w (turn_move x.clock x b p (luck_of fates until))
  turn_shown n p w x b fates until h = turned_on n w x h none loses x.clock p b fates until

  -- a node whose clock went on
  ticked_shown : (n : ℕ) (w : World) (x y : Node) (m : Move) → nth n w.nodes ≡ Some x → x.base ≡ y.base
      → at_move n (ticked n y w) m ≡ at_move n w m
  ticked_shown n w x y m h same = λ i. record {
    nodes = put_put n w.nodes y m.node i;
    posted = w.posted ++ posted_put n w.nodes x y m.moved.taken same h i;
    happened = (w.happened ++ happened_by n m.moved.taken) ++ map (happened_at n) m.moved.lost;
  }

  arrived_at : (n : ℕ) (a : Option Arrived) (fates : List Bool) (until : Option ℕ) (w : World) (x : Node) (o : Option Book) → nth n w.nodes ≡ Some x
      → seen (on_book o (λ b. take_turn n x.clock (arrival_plan b x.clock a) (turn_from w b fates until)) w)
      ≡ at_move n w (arrival_move a (luck_of fates until) x o)
  arrived_at n a fates until w x None h = quiet_shown n w x h
  arrived_at n a fates until w x (Some b) h = turn_shown n (arrival_plan b x.clock a) w x b fates until h

  never : (o : Option Book) (w : World) → on_book o (λ b. w) w ≡ w
  never None w = refl
  never (Some b) w = refl

  delivered_by : (to : Bool) (n : ℕ) (p : Posted) (fates : List Bool) (until : Option ℕ) (w : World) (x : Node) (o : Option Book)
      → nth n w.nodes ≡ Some x → is_receiver n p.receiver ≡ to
      → seen (on_book o (λ b. deliver n x b fates until (Some p) w) w) ≡ at_move n w (delivery_move n (Some p) (luck_of fates until) x o)
  delivered_by true n p fates until w x o h e = rw e (arrived_at n (decoded x.base p.content) fates until w x o h)
  delivered_by false n p fates until w x o h e = rw e (ap seen (never o w) ∙ quiet_shown n w x h)

  delivered : (n : ℕ) (found : Option Posted) (fates : List Bool) (until : Option ℕ) (w : World) (x : Node) (o : Option Book)
      → nth n w.nodes ≡ Some x
      → seen (on_book o (λ b. deliver n x b fates until found w) w) ≡ at_move n w (delivery_move n found (luck_of fates until) x o)
  delivered n None fates until w x o h = ap seen (never o w) ∙ quiet_shown n w x h
  delivered n (Some p) fates until w x o h = delivered_by (is_receiver n p.receiver) n p fates until w x o h refl

  turn_at : (n : ℕ) (input : Input) (fates : List Bool) (until : Option ℕ) (w : World) (x : Node) (o : Option Book) → nth n w.nodes ≡ Some x
      → seen (on_book o (λ b. turn n input fates until x b w) w) ≡ at_move n w (input_move n input (luck_of fates until) w.posted x o)
  turn_at n (Deliver k) fates until w x o h = delivered n (nth k w.posted) fates until w x o h
  turn_at n (Tick ms) fates until w x None h = quiet_shown n w x h
  turn_at n (Tick ms) fates until w x (Some b) h =
      turn_shown n (plan b events.Tick (x.clock + ms)) (ticked n (later ms x) w) (later ms x) b fates until (nth_put n w.nodes x (later ms x) h)
      ∙ ticked_shown n w x (later ms x) (turn_move (x.clock + ms) x b (plan b events.Tick (x.clock + ms)) (luck_of fates until)) h refl
  turn_at n Raw fates until w x None h = quiet_shown n w x h
  turn_at n Raw fates until w x (Some b) h = turn_shown n (answer_plan b 400) w x b fates until h

  ask_at : (n : ℕ) (l : Local) (fates : List Bool) (until : Option ℕ) (w : World) (x : Node) (o : Option Book) → nth n w.nodes ≡ Some x
      → seen (on_book o (λ b. ask n l fates until x b w) w) ≡ at_move n w (request_move l (luck_of fates until) x o)
  ask_at n l fates until w x None h = quiet_shown n w x h
  ask_at n l fates until w x (Some b) h = asked_on n w x h loses (plan b (events.Local l) x.clock) b fates until

  crash_at : (n : ℕ) (w : World) (x : Node) (o : Option Book) → nth n w.nodes ≡ Some x
      → seen (on_book o (λ b. goes_down n b w) w) ≡ at_move n w (crash_move x o)
  crash_at n w x None h = quiet_shown n w x h
  crash_at n w x (Some b) h =
      ap (λ o. seen (put_book n None (record w { happened = w.happened ++ lost_in n b }) o)) h
      ∙ (λ i. record {
        nodes = put_nth n (record x { book = None }) w.nodes;
        posted = sym (append-nil w.posted) i;
        happened = sym (append-nil w.happened) i ++ sym (loses n b) i;
      })

  started_by : (more : Bool) (n : ℕ) (stop : Bool) (w : World) (x : Node) → nth n w.nodes ≡ Some x
      → seen (if more then record w { nodes = put_nth n (up_after (started (last_incarnation x.journal + 1) x) stop) w.nodes } else w)
      ≡ at_move n w (quiet (if more then up_after (started (last_incarnation x.journal + 1) x) stop else x))
  started_by true n stop w x h = λ i. record {
    nodes = put_nth n (up_after (started (last_incarnation x.journal + 1) x) stop) w.nodes;
    posted = sym (append-nil w.posted) i;
    happened = sym (append-nil (w.happened ++ []) ∙ append-nil w.happened) i;
  }
  started_by false n stop w x h = quiet_shown n w x h

  up_at : (n : ℕ) (fate stop : Bool) (w : World) (x : Node) (o : Option Book) → nth n w.nodes ≡ Some x
      → seen (down_only o (start n fate stop x w) w) ≡ at_move n w (start_move fate stop x o)
  up_at n fate stop w x None h = started_by (fate && nat_lt (last_incarnation x.journal) last_counter) n stop w x h
  up_at n fate stop w x (Some b) h = quiet_shown n w x h

  at_one : (e : WorldEvent) (w : World) (x : Node) → nth (node_of e) w.nodes ≡ Some x → seen (at_node e x w) ≡ at_move (node_of e) w (move_of e w.posted x)
  at_one (Turn n input fates until) w x h = turn_at n input fates until w x x.book h
  at_one (Ask n l fates until) w x h = ask_at n l fates until w x x.book h
  at_one (Crash n) w x h = crash_at n w x x.book h
  at_one (Up n fate stop) w x h = up_at n fate stop w x x.book h

  -- what is kept one after another
  all_with : (n : ℕ) (ts : List Taken) (s : Scene)
      → with_all n ts s ≡ record s { posted = s.posted ++ posted_by n s.nodes ts; happened = s.happened ++ happened_by n ts }
  all_with n [] s = λ i. record { nodes = s.nodes; posted = sym (append-nil s.posted) i; happened = sym (append-nil s.happened) i }
  all_with n (t ∷ ts) s =
      all_with n ts (with_taken n t s)
      ∙ (λ i. record {
        nodes = s.nodes;
        posted = append_assoc s.posted (map (posted_at n s.nodes) t.posts) (posted_by n s.nodes ts) i;
        happened = append_assoc s.happened (map (happened_at n) t.effects) (happened_by n ts) i;
      })

  kept : (n : ℕ) (w : World) (x : Node) (m : Move) → nth n w.nodes ≡ Some x → x.base ≡ m.node.base
      → at_move n w m ≡ with_moved n m.moved (record (seen w) { nodes = put_nth n m.node w.nodes })
  kept n w x m h same =
      (λ i. record {
        nodes = put_nth n m.node w.nodes;
        posted = w.posted ++ sym (posted_put n w.nodes x m.node m.moved.taken same h) i;
        happened = (w.happened ++ happened_by n m.moved.taken) ++ map (happened_at n) m.moved.lost;
      })
      ∙ ap (with_lost n m.moved.lost) (sym (all_with n m.moved.taken (record (seen w) { nodes = put_nth n m.node w.nodes })))

  at_any : (e : WorldEvent) (w : World) (o : Option Node) → nth (node_of e) w.nodes ≡ o
      → seen (at_some_node e o w)
      ≡ with_moved (node_of e) (moved_by e w.posted o) (record (seen w) { nodes = nodes_by e w.posted w.nodes o })
  at_any e w None h = λ i. record { nodes = w.nodes; posted = w.posted; happened = sym (append-nil w.happened) i }
  at_any e w (Some x) h = at_one e w x h ∙ kept (node_of e) w x (move_of e w.posted x) h (moved_base e w.posted x)

  -- the trace of an event
  delivery_told : (n : ℕ) (found : Option Posted) (fates : List Bool) (until : Option ℕ) (w : World) (x : Node) (b : Book) → nth n w.nodes ≡ Some x
      → map taken_of (delivery_trace n x b fates until found w) ≡ (delivery_move n found (luck_of fates until) x (Some b)).moved.taken
  delivery_told n None fates until w x b h = refl
  delivery_told n (Some p) fates until w x b h = by_receiver (is_receiver n p.receiver)
    where
      a : Option Arrived
      a = decoded x.base p.content

      by_receiver : (c : Bool)
          → map taken_of (if c then (walked n x.clock (arrival_plan b x.clock a) (turn_from w b fates until)).trace else [])
          ≡ (λ (m : Move). m.moved.taken) (if c then arrival_move a (luck_of fates until) x (Some b) else quiet x)
      by_receiver true =
          turn_told n w x h none x.clock (arrival_plan b x.clock a) b fates until
          ∙ sym (ended_taken x (turned x.clock (arrival_plan b x.clock a) (begin b x.journal (luck_of fates until))))
      by_receiver false = refl

  turn_told_at : (n : ℕ) (input : Input) (fates : List Bool) (until : Option ℕ) (w : World) (x : Node) (b : Book) → nth n w.nodes ≡ Some x
      → map taken_of (turn_trace n input fates until x b w) ≡ (input_move n input (luck_of fates until) w.posted x (Some b)).moved.taken
  turn_told_at n (Deliver k) fates until w x b h = delivery_told n (nth k w.posted) fates until w x b h
  turn_told_at n (Tick ms) fates until w x b h =
      turn_told n (ticked n (later ms x) w) (later ms x) (nth_put n w.nodes x (later ms x) h) none (x.clock + ms) (plan b events.Tick (x.clock + ms)) b fates until
      ∙ sym (ended_taken (later_at (x.clock + ms) x) (turned (x.clock + ms) (plan b events.Tick (x.clock + ms)) (begin b x.journal (luck_of fates until))))
  turn_told_at n Raw fates until w x b h =
      turn_told n w x h none x.clock (answer_plan b 400) b fates until
      ∙ sym (ended_taken x (turned x.clock (answer_plan b 400) (begin b x.journal (luck_of fates until))))

  up_told : (e : WorldEvent) (w : World) (x : Node) (o : Option Book) → x.book ≡ o → nth (node_of e) w.nodes ≡ Some x
      → map taken_of (trace_while_up e x o w) ≡ (move_with e w.posted x o).moved.taken
  up_told (Turn n input fates until) w x None up h = sym (none_taken n input fates until w.posted x)
  up_told (Turn n input fates until) w x (Some b) up h = turn_told_at n input fates until w x b h
  up_told (Ask n l fates until) w x None up h = refl
  up_told (Ask n l fates until) w x (Some b) up h =
      step_told n w x h (plan b (events.Local l) x.clock) b fates until
      ∙ sym (ended_taken x (stepped (plan b (events.Local l) x.clock) (begin b x.journal (luck_of fates until))))
  up_told (Crash n) w x None up h = refl
  up_told (Crash n) w x (Some b) up h = refl
  up_told (Up n landed stop) w x None up h = refl
  up_told (Up n landed stop) w x (Some b) up h = refl

  told : (e : WorldEvent) (w : World) (o : Option Node) → nth (node_of e) w.nodes ≡ o → map taken_of (trace_at e o w) ≡ (moved_by e w.posted o).taken
  told e w None h = refl
  told e w (Some x) h = up_told e w x x.book refl h ∙ as_moved e w.posted x

  changed : (w : World) (e : WorldEvent) → seen (world_step w e) ≡ after (seen w) e
  unfolding world_step after moved_in
  changed w e = at_any e w (nth (node_of e) w.nodes) refl

  counted_told : (w : World) (e : WorldEvent) → steps_of w e ≡ steps_in (seen w) e
  unfolding moved_in
  counted_told w e = ap (numbered (length w.posted)) (told e w (nth (node_of e) w.nodes) refl)

  pub changes_by_moves : ChangesByMoves
  changes_by_moves = record { moved = changed; told = counted_told }
