-- A run with one event more, and what the steps of a scene come to.
use Rattle.std.proofs.Common.{ℕ, zero, suc, List, [], ◌∷◌, ◌++◌, ◌≡◌, ◌+◌, ◌-◌, ◌<◌, ◌≤◌, drop, length, length-append, Some, None, Result, Ok, Err, IfOk, ap, sym, subst, ◌∙◌, arith, refl}
use Rattle.std.specs.Prelude.{Bool, Option, map, option_and_then, slice_get, slice_set}
use Rattle.std.proofs.lemmas.List.{append-nil, append_assoc, drop_all, map-append}
use Rattle.std.proofs.lemmas.Option.{slice_get_past}
use Rattle.at_base.specs.declared.outs.Effect.{Effect}
use Rattle.model_laws.specs.Order.{IdsRise}
use Rattle.at_model.specs.World.{World, Node, Posted, WorldEvent, nth, new_node, new_nodes, node_of, put_nth, run_of, run_on, opening, world_step, example_hosts, example_base}
use Rattle.world_laws.specs.declared.event.WorldEvent.{WorldEvent as Given}
use Rattle.world_laws.specs.Events.{event_of, ms_of}
use Rattle.world_laws.specs.Firsts.{node_records}
use Rattle.world_laws.specs.declared.posts.Counted.{Counted}
use Rattle.world_laws.specs.declared.step_outs.Moved.{Moved}
use Rattle.world_laws.specs.declared.step_outs.Taken.{Taken}
use Rattle.world_laws.specs.Runs.{IsFit, IsRun, Run, world_of}
use Rattle.world_laws.specs.Moves.{ChangesByMoves, Scene, after, move_of, moved_by, moved_in, nodes_by, nothing, numbered, seen, steps_in, steps_of, with_all, with_lost, with_nodes}
use Rattle.world_laws.specs.Walks.{Luck}
use Rattle.world_laws.proofs.RunNodes.{fit_after, opening_fits}
use Rattle.world_laws.proofs.NumberedItems.{nth_back, put_back}
use Rattle.world_laws.proofs.Nodes.{nodes_length}

run_more : (w : World) (es : List WorldEvent) (e : WorldEvent) → run_on w (es ++ e ∷ []) ≡ world_step (run_on w es) e
run_more w [] e = refl
run_more w (f ∷ es) e = run_more (world_step w f) es e

pub one_more : (count : ℕ) (events : List Given) (e : Given)
    → world_of (record { count = count; events = events ++ e ∷ [] })
    ≡ world_step (world_of (record { count = count; events = events })) (event_of e)
unfolding world_of
one_more count events e =
    ap (run_on (opening (example_hosts count))) (map-append event_of events (e ∷ []))
    ∙ run_more (opening (example_hosts count)) (map event_of events) (event_of e)

pub nth_past : {A : Type 0} (n : ℕ) (xs : List A) → length xs < n → nth n xs ≡ None
nth_past n xs h =
    nth_back n xs (λ e. omega (arith, h, e)) ∙ slice_get_past xs (n - 1) (omega (arith, h))

pub none_moves : (e : WorldEvent) (posted : List Posted) (n : ℕ) (nodes : List Node) → nth n nodes ≡ None
    → nodes ≡ nodes_by e posted nodes (nth n nodes)
none_moves e posted n nodes h = rw h refl

pub no_steps : (e : WorldEvent) (posted : List Posted) (n : ℕ) (nodes : List Node) (m : Moved) → nth n nodes ≡ None
    → m ≡ nothing → m ≡ moved_by e posted (nth n nodes)
no_steps e posted n nodes m h g = rw h g

pub one_moves : (e : WorldEvent) (posted : List Posted) (n : ℕ) (nodes ys : List Node) (x : Node) → n ≡ node_of e → (n ≡ 0 → ⊥)
    → slice_get nodes (n - 1) ≡ Some x → ys ≡ slice_set nodes (n - 1) (move_of e posted x).node
    → ys ≡ nodes_by e posted nodes (nth n nodes)
one_moves e posted n nodes ys x same some h g =
    rw (nth_back n nodes some ∙ h) (g
    ∙ sym (put_back n (move_of e posted x).node nodes some)
    ∙ ap (λ k. put_nth k (move_of e posted x).node nodes) same)

pub one_steps : (e : WorldEvent) (posted : List Posted) (n : ℕ) (nodes : List Node) (x : Node) (m : Moved) → (n ≡ 0 → ⊥)
    → slice_get nodes (n - 1) ≡ Some x → m ≡ (move_of e posted x).moved
    → m ≡ moved_by e posted (nth n nodes)
one_steps e posted n nodes x m some h g = rw (nth_back n nodes some ∙ h) g

-- whether the first step of an event has a record
pub no_record : (e : WorldEvent) (posted : List Posted) (n : ℕ) (nodes : List Node) → nth n nodes ≡ None
    → None ≡ option_and_then (node_records e posted) (nth n nodes)
no_record e posted n nodes h = rw h refl

pub one_record : (e : WorldEvent) (posted : List Posted) (n : ℕ) (nodes : List Node) (x : Node) (r : Option Bool) → (n ≡ 0 → ⊥)
    → slice_get nodes (n - 1) ≡ Some x → r ≡ node_records e posted x → r ≡ option_and_then (node_records e posted) (nth n nodes)
one_record e posted n nodes x r some h g = rw (nth_back n nodes some ∙ h) g

-- A scene behind an event: its node moves, and then what its steps gave and what it lost is kept.
parts_of : (s : Scene) (e : WorldEvent) (m : Moved) (p : List Taken × List Effect × Luck) → p ≡ (m.taken, m.lost, m.left)
    → m ≡ moved_by e s.posted (nth (node_of e) s.nodes) → p ≡ ((moved_in s e).taken, (moved_in s e).lost, (moved_in s e).left)
unfolding moved_in
parts_of s e m p parts is = parts ∙ (λ i. ((is i).taken, (is i).lost, (is i).left))

pub kept_after : (s t u v : Scene) (e : WorldEvent) (n k : ℕ) (m : Moved) (p : List Taken × List Effect × Luck) → t ≡ with_nodes s e
    → m ≡ moved_by e s.posted (nth (node_of e) s.nodes) → p ≡ (m.taken, m.lost, m.left) → n ≡ node_of e → k ≡ node_of e
    → u ≡ with_all n p.0 t → v ≡ with_lost k p.1 u → v ≡ after s e
unfolding after
kept_after s t u v e n k m p moved is parts at again kept lost =
    lost ∙ ap (with_lost k p.1) kept
    ∙ (λ i. with_lost (again i) (parts_of s e m p parts is i).1 (with_all (at i) (parts_of s e m p parts is i).0 (moved i)))

pub steps_after : (s t : Scene) (e : WorldEvent) (m : Moved) (p : List Taken × List Effect × Luck) (steps : List Counted) → t ≡ with_nodes s e
    → m ≡ moved_by e s.posted (nth (node_of e) s.nodes) → p ≡ (m.taken, m.lost, m.left) → steps ≡ numbered (length t.posted) p.0 → steps ≡ steps_in s e
steps_after s t e m p steps moved is parts gave = gave ∙ (λ i. numbered (length (moved i).posted) (parts_of s e m p parts is i).0)

pub lost_after : (s : Scene) (e : WorldEvent) (m : Moved) (p : List Taken × List Effect × Luck) → m ≡ moved_by e s.posted (nth (node_of e) s.nodes)
    → p ≡ (m.taken, m.lost, m.left) → p.1 ≡ (moved_in s e).lost
lost_after s e m p is parts = ap (λ (q : List Taken × List Effect × Luck). q.1) (parts_of s e m p parts is)

pub left_after : (s : Scene) (e : WorldEvent) (m : Moved) (p : List Taken × List Effect × Luck) → m ≡ moved_by e s.posted (nth (node_of e) s.nodes)
    → p ≡ (m.taken, m.lost, m.left) → p.2 ≡ (moved_in s e).left
left_after s e m p is parts = ap (λ (q : List Taken × List Effect × Luck). q.2) (parts_of s e m p parts is)

pub few_after : (s t : Scene) (e : WorldEvent) → t ≡ with_nodes s e → length s.nodes ≤ 8 → length t.nodes ≤ 8
few_after s t e moved few =
    let same = ap (λ (z : Scene). length z.nodes) moved ∙ nodes_length e s.posted s.nodes (nth (node_of e) s.nodes) in
    omega (arith, same, few)

pub ok_more : {T E : Type 0} (P Q : T → Type 0) (r : Result T E) → ((t : T) → P t → Q t) → IfOk r P → IfOk r Q
ok_more P Q (Ok t) f h = f t h
ok_more P Q (Err e) f h = tt

-- the opening world
first_node : (k n : ℕ) → 0 < k → new_nodes example_base k n ≡ new_node (example_base n) ∷ new_nodes example_base (k - 1) (n + 1)
first_node zero n h = absurd (omega (arith, h))
first_node (suc k) n h = let same : k ≡ suc k - 1 = omega arith in ap (λ j. new_node (example_base n) ∷ new_nodes example_base j (n + 1)) same

pub one_new : (count number : ℕ) (nodes more : List Node) (x : Node) → number < count → x ≡ new_node (example_base (number + 1))
    → more ≡ nodes ++ x ∷ [] → nodes ++ new_nodes example_base (count - number) (number + 1) ≡ new_nodes example_base count 1
    → more ++ new_nodes example_base (count - (number + 1)) (number + 1 + 1) ≡ new_nodes example_base count 1
one_new count number nodes more x within is pushed all =
    let fewer : count - number - 1 ≡ count - (number + 1) = omega (arith, within) in
    ap (λ ys. ys ++ new_nodes example_base (count - (number + 1)) (number + 1 + 1)) (pushed ∙ ap (λ y. nodes ++ y ∷ []) is)
    ∙ append_assoc nodes (new_node (example_base (number + 1)) ∷ []) (new_nodes example_base (count - (number + 1)) (number + 1 + 1))
    ∙ ap (λ k. nodes ++ (new_node (example_base (number + 1)) ∷ new_nodes example_base k (number + 1 + 1))) (sym fewer)
    ∙ ap (λ ys. nodes ++ ys) (sym (first_node (count - number) (number + 1) (omega (arith, within))))
    ∙ all

pub opened : (count : ℕ) (s : Scene) (events : List Given) → 1 ≤ count → count ≤ 8 → s ≡ seen (opening (example_hosts count)) → events ≡ []
    → IsRun count s events
unfolding world_of
opened count s events least most is none = rw none (record {
  scene = is;
  fit = subst (IsFit 0) (sym is) (opening_fits count most);
  least = least;
  most = most;
  few = omega arith;
})

-- one event more
pub stepped : IdsRise → ChangesByMoves → (count : ℕ) (s t : Scene) (events more : List Given) (e : Given) → IsRun count s events
    → length events < 4294967295 → ms_of (event_of e) ≤ 4294967295 → t ≡ after s (event_of e) → more ≡ events ++ e ∷ []
    → IsRun count t more
stepped ids changes count s t events more e h room short is pushed = rw pushed (record {
  scene = is
      ∙ ap (λ z. after z (event_of e)) h.scene
      ∙ sym (changes.moved (world_of (record { count = count; events = events })) (event_of e))
      ∙ ap seen (sym (one_more count events e));
  fit =
      let same : length events + 1 ≡ length (events ++ e ∷ []) = sym (length-append events (e ∷ [])) in
      subst (λ k. IsFit k t) same
      (subst (IsFit (length events + 1)) (sym is) (fit_after ids (event_of e) (length events) s short h.fit));
  least = h.least;
  most = h.most;
  few = let same : length (events ++ e ∷ []) ≡ length events + 1 = length-append events (e ∷ []) in omega (arith, same, room);
})

abbrev run : ℕ → List Given → Run
run count events = record { count = count; events = events }

abbrev with_event : Given → Run → Run
with_event e r = run r.count (r.events ++ e ∷ [])

pub whole_step : (r : Run) (count : ℕ) (events more : List Given) (e : Given) → run count events ≡ r → more ≡ events ++ e ∷ []
    → world_of (run count more) ≡ world_step (world_of r) (event_of e)
whole_step r count events more e is pushed =
    ap world_of (ap (run count) pushed ∙ ap (with_event e) is) ∙ one_more r.count r.events e

pub whole_steps : ChangesByMoves → (r : Run) (count : ℕ) (s : Scene) (events : List Given) (e : Given) (steps : List Counted) → run count events ≡ r
    → s ≡ seen (world_of (run count events)) → steps ≡ steps_in s (event_of e) → steps ≡ steps_of (world_of r) (event_of e)
whole_steps changes r count s events e steps is shown h =
    h ∙ ap (λ z. steps_in z (event_of e)) shown ∙ sym (changes.told (world_of (run count events)) (event_of e)) ∙ ap (λ z. steps_of (world_of z) (event_of e)) is

pub whole_run : (w : Run) (n i : ℕ) (all : List Given) → w.count ≡ n → w.events ++ drop i all ≡ all → length all ≤ i
    → world_of w ≡ run_of (example_hosts n) (map event_of all)
unfolding world_of
whole_run w n i all count is over =
    let none : w.events ++ [] ≡ all = subst (λ xs. w.events ++ xs ≡ all) (drop_all i all over) is in
    let same : w.events ≡ all = sym (append-nil w.events) ∙ none in
    ap (λ k. run_of (example_hosts k) (map event_of w.events)) count ∙ ap (λ xs. run_of (example_hosts n) (map event_of xs)) same
