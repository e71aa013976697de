-- A world of a net in which one node moved is a world of the net in which its place did.
use Rattle.std.specs.Prelude.{ℕ, List, [], ◌∷◌, ◌++◌, ◌≡◌, ◌⊎◌, Some, map, refl}
use Rattle.std.proofs.Common.{inl, inr, sym, subst, ap, ◌∙◌}
use Rattle.std.proofs.lemmas.Bool.{cases_eq}
use Rattle.std.proofs.lemmas.List.{append-nil, append_assoc}
use Rattle.at_model.specs.World.{Accepted, Happened, Hosts, Node, Posted, World, WorldEvent, happened_at, node_of, nth, place_of, put_nth, world_step}
use Rattle.model_laws.proofs.Addresses.{same_place}
use Rattle.model_laws.proofs.Nodes.{bases_put, same_bases}
use Rattle.node_events.specs.NodeEvents.{Leads}
use Rattle.node_worlds.specs.Nets.{IsWorldOf, Net, Place, StandsAs}
use Rattle.node_worlds.proofs.Places.{nth_other, nth_this}
use Rattle.world_laws.specs.Moves.{ChangesByMoves, Move, Scene, after, move_of, moved_by, moved_in, nodes_by, posted_at, seen, with_all, with_lost, with_moved, with_taken}
use Rattle.world_laws.specs.declared.step_outs.Taken.{Taken}
use Rattle.world_laws.proofs.Nodes.{posts_put}
use Rattle.world_laws.proofs.Nodes.{put_put as world_put_put}
use Rattle.world_laws.proofs.Walks.{at_move, happened_by, posted_by}

pub same_some : {A : Type 0} (x y : A) → Some x ≡ Some y → x ≡ y
same_some x y e = cc

-- what steps gave, kept one after another
all_with : (i : ℕ) (ts : List Taken) (s : Scene)
    → with_all i ts s ≡ record s { posted = s.posted ++ posted_by i s.nodes ts; happened = s.happened ++ happened_by i ts }
all_with i [] s = λ j. record { nodes = s.nodes; posted = sym (append-nil s.posted) j; happened = sym (append-nil s.happened) j }
all_with i (t ∷ ts) s =
    all_with i ts (with_taken i t s)
    ∙ (λ j. record {
      nodes = s.nodes;
      posted = append_assoc s.posted (map (posted_at i s.nodes) t.posts) (posted_by i s.nodes ts) j;
      happened = append_assoc s.happened (map (happened_at i) t.effects) (happened_by i ts) j;
    })

posted_put : (i : ℕ) (nodes : List Node) (x y : Node) (ts : List Taken) → x.base ≡ y.base → nth i nodes ≡ Some x → posted_by i (put_nth i y nodes) ts ≡ posted_by i nodes ts
posted_put i nodes x y [] same found = refl
posted_put i nodes x y (t ∷ ts) same found = λ j. posts_put i i nodes x y t.posts same found j ++ posted_put i nodes x y ts same found j

after_move : (w : World) (e : WorldEvent) (x : Node) (m : Move) → nth (node_of e) w.nodes ≡ Some x → move_of e w.posted x ≡ m
    → after (seen w) e ≡ with_moved (node_of e) m.moved (record (seen w) { nodes = put_nth (node_of e) m.node w.nodes })
unfolding after moved_in
after_move w e x m found is =
    ap (λ o. with_moved (node_of e) (moved_by e w.posted o) (record (seen w) { nodes = nodes_by e w.posted w.nodes o })) found
    ∙ ap (λ (n : Move). with_moved (node_of e) n.moved (record (seen w) { nodes = put_nth (node_of e) n.node w.nodes })) is

kept_move : (i : ℕ) (w : World) (x : Node) (m : Move) → nth i w.nodes ≡ Some x → x.base ≡ m.node.base
    → with_moved i m.moved (record (seen w) { nodes = put_nth i m.node w.nodes }) ≡ at_move i w m
kept_move i w x m found same =
    ap (with_lost i m.moved.lost) (all_with i m.moved.taken (record (seen w) { nodes = put_nth i m.node w.nodes }))
    ∙ (λ j. record {
      nodes = put_nth i m.node w.nodes;
      posted = w.posted ++ posted_put i w.nodes x m.node m.moved.taken same found j;
      happened = (w.happened ++ happened_by i m.moved.taken) ++ map (happened_at i) m.moved.lost;
    })

-- one node moved, and its place with it
places_put : (hosts : Hosts) (places : List Place) (nodes : List Node) (i : ℕ) (p q : Place) (x y : Node) → nth i places ≡ Some p → nth i nodes ≡ Some x → StandsAs hosts i q y
    → ((j : ℕ) (r : Place) → nth j places ≡ Some r → (z : Node) × (nth j nodes ≡ Some z) × StandsAs hosts j r z)
    → (j : ℕ) (r : Place) → nth j (put_nth i q places) ≡ Some r → (z : Node) × (nth j (put_nth i y nodes) ≡ Some z) × StandsAs hosts j r z
places_put hosts places nodes i p q x y here found stands all j r e = by_number (cases_eq j i)
  where
    this : j ≡ i → (z : Node) × (nth j (put_nth i y nodes) ≡ Some z) × StandsAs hosts j r z
    this f =
        let place : q ≡ r = same_some q r (sym (nth_this places i p q here) ∙ ap (λ k. nth k (put_nth i q places)) (sym f) ∙ e) in (
          y,
          ap (λ k. nth k (put_nth i y nodes)) f ∙ nth_this nodes i x y found,
          subst (λ k. StandsAs hosts k r y) (sym f) (subst (λ s. StandsAs hosts i s y) place stands),
        )

    by_number : (j ≡ i) ⊎ (j ≡ i → ⊥) → (z : Node) × (nth j (put_nth i y nodes) ≡ Some z) × StandsAs hosts j r z
    by_number (inl f) = this f
    by_number (inr f) =
        let (z, there, is) = all j r (sym (nth_other places j i q f) ∙ e) in
        (z, nth_other nodes j i y f ∙ there, is)

pub places_put_put : (i : ℕ) (p q : Place) (places : List Place) → put_nth i q (put_nth i p places) ≡ put_nth i q places
places_put_put i p q places = world_put_put i places p q

-- the node of a world that stands at this place
pub stands_at : (hosts : Hosts) (net : Net) (w : World) (i : ℕ) (p : Place) (x : Node) → IsWorldOf hosts net w → nth i net.places ≡ Some p → nth i w.nodes ≡ Some x → StandsAs hosts i p x
stands_at hosts net w i p x world here found =
    let (z, there, is) = world.nodes i p here in
    subst (StandsAs hosts i p) (same_some z x (sym there ∙ found)) is

-- What a move leaves of its node and its place, of what was posted and accepted, and of what happened.
pub record Moves (hosts : Hosts) (now : ℕ) (w : World) (e : WorldEvent) (x : Node) (q : Place) (posted : List Posted) (accepted : List Accepted)
    (happened : List Happened) : Type 0 where
  pub move : Move
  pub is : move_of e w.posted x ≡ move
  pub stands : StandsAs hosts (node_of e) q move.node
  pub clock : move.node.clock ≡ now
  pub posts : posted_by (node_of e) w.nodes move.moved.taken ≡ posted
  pub accepts : (world_step w e).accepted ≡ w.accepted ++ accepted
  pub came : happened_by (node_of e) move.moved.taken ++ map (happened_at (node_of e)) move.moved.lost ≡ happened

pub move_leads : ChangesByMoves → (hosts : Hosts) (now : ℕ) (net : Net) (w : World) (e : WorldEvent) (p q : Place) (x : Node) (posted : List Posted) (accepted : List Accepted)
    (happened : List Happened)
    → IsWorldOf hosts net w → nth (node_of e) net.places ≡ Some p → nth (node_of e) w.nodes ≡ Some x → Moves hosts now w e x q posted accepted happened
    → Leads hosts (node_of e) now w e (record {
      places = put_nth (node_of e) q net.places;
      posted = net.posted ++ posted;
      accepted = net.accepted ++ accepted;
      happened = net.happened ++ happened;
    })
move_leads law hosts now net w e p q x posted accepted happened world here found m = record {
  world = record {
    nodes = λ j r f.
        let (z, there, is) = places_put hosts net.places w.nodes i p q x y here found m.stands world.nodes j r f in
        (z, ap (nth j) nodes ∙ there, is);
    posted = ap (λ (s : Scene). s.posted) scene ∙ (λ j. world.posted j ++ m.posts j);
    accepted = m.accepts ∙ ap (λ z. z ++ accepted) world.accepted;
    happened = ap (λ (s : Scene). s.happened) scene ∙ append_assoc w.happened (happened_by i m.move.moved.taken) (map (happened_at i) m.move.moved.lost) ∙ (λ j. world.happened j ++ m.came j);
  };
  moves = record {
    node = y;
    this = ap (nth i) nodes ∙ nth_this w.nodes i x y found;
    clock = m.clock;
    others = λ j f. ap (nth j) nodes ∙ nth_other w.nodes j i y f;
    reach = λ address. ap (λ xs. place_of 1 xs address) nodes ∙ same_place 1 (put_nth i y w.nodes) w.nodes address
        (bases_put w.nodes w.nodes i x y found (sym same) (same_bases w.nodes));
  };
}
  where
    i : ℕ
    i = node_of e

    y : Node
    y = m.move.node

    same : x.base ≡ y.base
    same = (stands_at hosts net w i p x world here found).base ∙ sym m.stands.base

    scene : seen (world_step w e) ≡ at_move i w m.move
    scene = law.moved w e ∙ after_move w e x m.move found m.is ∙ kept_move i w x m.move found same

    nodes : (world_step w e).nodes ≡ put_nth i y w.nodes
    nodes = ap (λ (s : Scene). s.nodes) scene
