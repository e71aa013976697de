-- What an event of a world accepts.
use Rattle.std.specs.Prelude.{ℕ, List, [], ◌∷◌, ◌++◌, ◌≡◌, ◌⊎◌, Option, Some, None, Bool, true, false, ◌&&◌, ◌+◌, if◌then◌else◌, length, map, nat_lt, suc, refl}
use Rattle.std.proofs.Common.{sym, ap, ◌∙◌}
use Rattle.std.proofs.lemmas.List.{length-map}
use Rattle.at_base.specs.declared.event.Event.TheVariants as events
use Rattle.at_base.specs.declared.event.Local.{Local}
use Rattle.at_model.specs.Book.{Book, last_counter}
use Rattle.at_model.specs.Recovery.{last_incarnation}
use Rattle.at_model.specs.Step.{Outcome, plan}
use Rattle.at_model.specs.World.{Ask, Crash, Input, Node, Turn, Up, World, WorldEvent, ask, at_some_node, down_only, goes_down, node_of, nth, on_book, start, started, take_step, trace_at, trace_of, trace_while_up, turn, turn_from, turn_trace, up_after, put_nth, world_step}
use Rattle.fated_walks.specs.Fated.{Fated}
use Rattle.model_laws.proofs.Nodes.{same_bases}
use Rattle.node_at.specs.Meanings.{Meaning}
use Rattle.node_events.proofs.Acceptances.{IsRow, accepted_by_all, ask_accepts, down_accepted, first_of, outcomes_of, turn_accepts}
use Rattle.node_events.proofs.HeardInputs.{Heard}
use Rattle.world_laws.specs.Moves.{ChangesByMoves, Move, move_of, moved_by, moved_in, numbered, seen, taken_of}
use Rattle.world_laws.specs.declared.step_outs.Moved.{Moved}
use Rattle.world_laws.specs.declared.step_outs.Taken.{Taken}

-- as many steps counted as the moves of its node say
numbered_length : (k : ℕ) (ts : List Taken) → length (numbered k ts) ≡ length ts
numbered_length k [] = refl
numbered_length k (t ∷ ts) = ap suc (numbered_length (k + length t.posts) ts)

pub traced_length : ChangesByMoves → (w : World) (e : WorldEvent) (x : Node) (m : Move) → nth (node_of e) w.nodes ≡ Some x → move_of e w.posted x ≡ m
    → length (trace_of w e) ≡ length m.moved.taken
unfolding moved_in
traced_length moves w e x m found is =
    sym (numbered_length (length w.posted) (map taken_of (trace_of w e)) ∙ length-map (trace_of w e) taken_of)
    ∙ ap length (moves.told w e)
    ∙ numbered_length (length w.posted) (moved_in (seen w) e).taken
    ∙ ap (λ (z : Moved). length z.taken) (ap (moved_by e w.posted) found ∙ ap (λ (z : Move). z.moved) is)

-- a turn and a request at a node that is up
turn_is : (w : World) (i : ℕ) (x : Node) (b : Book) (input : Input) (fates : List Bool) (until : Option ℕ) → nth i w.nodes ≡ Some x → x.book ≡ Some b
    → world_step w (Turn i input fates until) ≡ turn i input fates until x b w
unfolding world_step
turn_is w i x b input fates until found up =
    ap (λ o. at_some_node (Turn i input fates until) o w) found ∙ ap (λ o. on_book o (λ c. turn i input fates until x c w) w) up

turn_traced : (w : World) (i : ℕ) (x : Node) (b : Book) (input : Input) (fates : List Bool) (until : Option ℕ) → nth i w.nodes ≡ Some x → x.book ≡ Some b
    → trace_of w (Turn i input fates until) ≡ turn_trace i input fates until x b w
turn_traced w i x b input fates until found up =
    ap (λ o. trace_at (Turn i input fates until) o w) found ∙ ap (λ o. trace_while_up (Turn i input fates until) x o w) up

ask_is : (w : World) (i : ℕ) (x : Node) (b : Book) (l : Local) (fates : List Bool) (until : Option ℕ) → nth i w.nodes ≡ Some x → x.book ≡ Some b
    → world_step w (Ask i l fates until) ≡ ask i l fates until x b w
unfolding world_step
ask_is w i x b l fates until found up = ap (λ o. at_some_node (Ask i l fates until) o w) found ∙ ap (λ o. on_book o (λ c. ask i l fates until x c w) w) up

ask_traced : (w : World) (i : ℕ) (x : Node) (b : Book) (l : Local) (fates : List Bool) (until : Option ℕ) → nth i w.nodes ≡ Some x → x.book ≡ Some b
    → trace_of w (Ask i l fates until) ≡ (take_step i (plan b (events.Local l) x.clock) (turn_from w b fates until)).trace
ask_traced w i x b l fates until found up =
    ap (λ o. trace_at (Ask i l fates until) o w) found ∙ ap (λ o. trace_while_up (Ask i l fates until) x o w) up

-- By its moves an event has so many steps; where they are these, it accepts what they accept.
pub turn_adds : ChangesByMoves → (w : World) (i : ℕ) (x : Node) (b : Book) (input : Input) (meaning : Meaning) (now : ℕ) (h : Heard w i x b input meaning now) → nth i w.nodes ≡ Some x
    → x.book ≡ Some b → (fates : List Bool) (until : Option ℕ) (m : Move) (fs : List Fated) → move_of (Turn i input fates until) w.posted x ≡ m → length m.moved.taken ≡ length fs
    → IsRow now h.begun fates fs → (world_step w (Turn i input fates until)).accepted ≡ w.accepted ++ accepted_by_all i w.nodes b (outcomes_of fs)
turn_adds moves w i x b input meaning now h found up fates until m fs is count row =
    ap (λ (v : World). v.accepted) (turn_is w i x b input fates until found up ∙ h.begins fates until)
    ∙ turn_accepts i now w.nodes h.begun h.start b fates until fs (h.bases found) row
    (sym (ap length (turn_traced w i x b input fates until found up ∙ h.traces fates until)) ∙ traced_length moves w (Turn i input fates until) x m found is ∙ count)
    ∙ ap (λ z. z ++ accepted_by_all i w.nodes b (outcomes_of fs)) h.accepted

pub ask_adds : ChangesByMoves → (w : World) (i : ℕ) (x : Node) (b : Book) (l : Local) → nth i w.nodes ≡ Some x → x.book ≡ Some b → (fates : List Bool)
    (until : Option ℕ) (m : Move) (os : List Outcome)
    → move_of (Ask i l fates until) w.posted x ≡ m → length m.moved.taken ≡ length os → (os ≡ []) ⊎ (os ≡ first_of (plan b (events.Local l) x.clock) fates ∷ [])
    → (world_step w (Ask i l fates until)).accepted ≡ w.accepted ++ accepted_by_all i w.nodes b os
ask_adds moves w i x b l found up fates until m os is count row =
    ap (λ (v : World). v.accepted) (ask_is w i x b l fates until found up)
    ∙ ask_accepts i w.nodes (plan b (events.Local l) x.clock) w b fates until os (same_bases w.nodes) row
    (sym (ap length (ask_traced w i x b l fates until found up)) ∙ traced_length moves w (Ask i l fates until) x m found is ∙ count)

-- a node that starts, and one that goes down, accept nothing
pub up_accepts : (w : World) (i : ℕ) (landed stop : Bool) → (world_step w (Up i landed stop)).accepted ≡ w.accepted
unfolding world_step
up_accepts w i landed stop = by_node (nth i w.nodes)
  where
    by_flag : (x : Node) (c : Bool) → (if c then record w { nodes = put_nth i (up_after (started (last_incarnation x.journal + 1) x) stop) w.nodes } else w).accepted ≡ w.accepted
    by_flag x true = refl
    by_flag x false = refl

    by_book : (x : Node) (o : Option Book) → (down_only o (start i landed stop x w) w).accepted ≡ w.accepted
    by_book x None = by_flag x (landed && nat_lt (last_incarnation x.journal) last_counter)
    by_book x (Some b) = refl

    by_node : (o : Option Node) → (at_some_node (Up i landed stop) o w).accepted ≡ w.accepted
    by_node None = refl
    by_node (Some x) = by_book x x.book

pub crash_accepts : (w : World) (i : ℕ) → (world_step w (Crash i)).accepted ≡ w.accepted
unfolding world_step
crash_accepts w i = by_node (nth i w.nodes)
  where
    by_book : (o : Option Book) → (on_book o (λ b. goes_down i b w) w).accepted ≡ w.accepted
    by_book None = refl
    by_book (Some b) = down_accepted i b w

    by_node : (o : Option Node) → (at_some_node (Crash i) o w).accepted ≡ w.accepted
    by_node None = refl
    by_node (Some x) = by_book x.book
