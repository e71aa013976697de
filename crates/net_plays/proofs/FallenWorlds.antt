-- What an event adds to its world, also where its node goes down behind its steps.
use Rattle.std.proofs.Common.{ℕ, List, [], ◌∷◌, ◌++◌, ◌≡◌, ◌+◌, Bool, true, false, refl, sym, ap, map, length, ◌∙◌}
use Rattle.std.specs.Prelude.{Option, Some, None}
use Rattle.std.proofs.lemmas.List.{append_assoc, append-nil, map-append}
use Rattle.asked_nets.specs.Behind.{world_behind}
use Rattle.at_base.specs.declared.outs.Effect.{Effect}
use Rattle.at_model.specs.Book.{Book}
use Rattle.at_model.specs.World.{Node, Posted, World, WorldEvent, Crash, happened_at, node_of, nth, world_step}
use Rattle.reported_effects.proofs.PrintedLines.{effects_in}
use Rattle.world_laws.specs.Moves.{ChangesByMoves, Scene, after, crash_move, losses_of, moved_by, moved_in, numbered, posted_at, seen, steps_of, with_all, with_nodes, with_taken}
use Rattle.world_laws.specs.declared.step_outs.Taken.{Taken}
use Rattle.net_plays.specs.EventTexts.{losses_by}

-- what steps took, kept one after another

abbrev effects_of : List Taken → List Effect
effects_of [] = []
effects_of (t ∷ ts) = t.effects ++ effects_of ts

all_happened : (n : ℕ) (ts : List Taken) (s : Scene) → (with_all n ts s).happened ≡ s.happened ++ map (happened_at n) (effects_of ts)
all_happened n [] s = sym (append-nil s.happened)
all_happened n (t ∷ ts) s =
    all_happened n ts (with_taken n t s)
    ∙ (append_assoc s.happened (map (happened_at n) t.effects) (map (happened_at n) (effects_of ts))
    ∙ ap (λ es. s.happened ++ es) (sym (map-append (happened_at n) t.effects (effects_of ts))))

all_posted : (n : ℕ) (ts : List Taken) (s : Scene) → (more : List Posted) × ((with_all n ts s).posted ≡ s.posted ++ more)
all_posted n [] s = ([], sym (append-nil s.posted))
all_posted n (t ∷ ts) s =
    let rest = all_posted n ts (with_taken n t s) in
    (map (posted_at n s.nodes) t.posts ++ rest.0, rest.1 ∙ append_assoc s.posted (map (posted_at n s.nodes) t.posts) rest.0)

same_effects : (k : ℕ) (ts : List Taken) → effects_in (numbered k ts) ≡ effects_of ts
same_effects k [] = refl
same_effects k (t ∷ ts) = ap (λ es. t.effects ++ es) (same_effects (k + length t.posts) ts)

-- Of an event: what it adds to what was posted and happened.
pub record Adds (w v : World) (n : ℕ) (es : List Effect) : Type 0 where
  pub posts : List Posted
  pub posted : v.posted ≡ w.posted ++ posts
  pub happened : v.happened ≡ w.happened ++ map (happened_at n) es

module _ (moves : ChangesByMoves) where
  abbrev given : World → WorldEvent → List Effect
  given w e = effects_of (moved_in (seen w) e).taken

  stepped_happened : (w : World) (e : WorldEvent)
      → (world_step w e).happened ≡ (w.happened ++ map (happened_at (node_of e)) (given w e)) ++ map (happened_at (node_of e)) (losses_of w e)
  unfolding after
  stepped_happened w e =
      ap (λ (s : Scene). s.happened) (moves.moved w e)
      ∙ ap (λ es. es ++ map (happened_at (node_of e)) (losses_of w e)) (all_happened (node_of e) (moved_in (seen w) e).taken (with_nodes (seen w) e))

  stepped_posted : (w : World) (e : WorldEvent) → (more : List Posted) × ((world_step w e).posted ≡ w.posted ++ more)
  unfolding after
  stepped_posted w e =
      let rest = all_posted (node_of e) (moved_in (seen w) e).taken (with_nodes (seen w) e) in
      (rest.0, ap (λ (s : Scene). s.posted) (moves.moved w e) ∙ rest.1)

  stepped_effects : (w : World) (e : WorldEvent) → effects_in (steps_of w e) ≡ given w e
  stepped_effects w e = ap effects_in (moves.told w e) ∙ same_effects (length w.posted) (moved_in (seen w) e).taken

  step_adds : (w : World) (e : WorldEvent) → Adds w (world_step w e) (node_of e) (effects_in (steps_of w e) ++ losses_of w e)
  step_adds w e = record {
    posts = (stepped_posted w e).0;
    posted = (stepped_posted w e).1;
    happened =
        stepped_happened w e
        ∙ (append_assoc w.happened (map (happened_at (node_of e)) (given w e)) (map (happened_at (node_of e)) (losses_of w e))
        ∙ ap (λ es. w.happened ++ es)
        (sym (map-append (happened_at (node_of e)) (given w e) (losses_of w e))
        ∙ ap (λ es. map (happened_at (node_of e)) (es ++ losses_of w e)) (sym (stepped_effects w e))));
  }

  -- a crash has no steps
  crash_steps : (w : World) (n : ℕ) → effects_in (steps_of w (Crash n)) ≡ []
  unfolding moved_in
  crash_steps w n = ap effects_in (moves.told w (Crash n)) ∙ by_node (nth n w.nodes)
    where
      by_book : (x : Node) (o : Option Book) → effects_in (numbered (length w.posted) (crash_move x o).moved.taken) ≡ []
      by_book x None = refl
      by_book x (Some b) = refl

      by_node : (o : Option Node) → effects_in (numbered (length w.posted) (moved_by (Crash n) w.posted o).taken) ≡ []
      by_node None = refl
      by_node (Some x) = by_book x x.book

  -- a node that loses nothing in its steps, and then goes down
  fall_adds : (w : World) (e : WorldEvent) → losses_of w e ≡ []
      → Adds w (world_step (world_step w e) (Crash (node_of e))) (node_of e) (effects_in (steps_of w e) ++ losses_of (world_step w e) (Crash (node_of e)))
  fall_adds w e none =
      let first = step_adds w e in
      let next = step_adds (world_step w e) (Crash (node_of e)) in
      let kept : effects_in (steps_of w e) ++ losses_of w e ≡ effects_in (steps_of w e) =
      ap (λ es. effects_in (steps_of w e) ++ es) none ∙ append-nil (effects_in (steps_of w e)) in
      let lost : effects_in (steps_of (world_step w e) (Crash (node_of e))) ++ losses_of (world_step w e) (Crash (node_of e)) ≡ losses_of (world_step w e) (Crash (node_of e)) =
      ap (λ es. es ++ losses_of (world_step w e) (Crash (node_of e))) (crash_steps (world_step w e) (node_of e)) in
      record {
        posts = first.posts ++ next.posts;
        posted = next.posted ∙ (ap (λ ps. ps ++ next.posts) first.posted ∙ append_assoc w.posted first.posts next.posts);
        happened =
            next.happened
            ∙ ((λ i. (first.happened ∙ ap (λ es. w.happened ++ map (happened_at (node_of e)) es) kept) i ++ map (happened_at (node_of e)) (lost i))
            ∙ (append_assoc w.happened (map (happened_at (node_of e)) (effects_in (steps_of w e))) (map (happened_at (node_of e)) (losses_of (world_step w e) (Crash (node_of e))))
            ∙ ap (λ es. w.happened ++ es) (sym (map-append (happened_at (node_of e)) (effects_in (steps_of w e)) (losses_of (world_step w e) (Crash (node_of e)))))));
      }

  pub event_adds : (down : Bool) (w : World) (e : WorldEvent) → (down ≡ true → losses_of w e ≡ [])
      → Adds w (world_behind down w e) (node_of e) (effects_in (steps_of w e) ++ losses_by down w e)
  event_adds false w e none = step_adds w e
  event_adds true w e none = fall_adds w e (none refl)
