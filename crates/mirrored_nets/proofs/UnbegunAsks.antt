-- A request at whose node the machine stops before its step.
use Rattle.std.specs.Prelude.{ℕ, [], ◌++◌, ◌≡◌, Some, None, option_map}
use Rattle.std.proofs.Common.{inl, refl, ap, subst, ◌∙◌, append-nil}
use Rattle.at_base.specs.declared.event.Local.{Local}
use Rattle.at_model.specs.World.{Ask, Hosts, Node as Known, World, lost_in, put_nth}
use Rattle.interposition.proofs.Losses.{loses_as_the_model}
use Rattle.node_at.specs.State.{State}
use Rattle.node_events.specs.NodeEvents.{IsAt, Leads}
use Rattle.node_events.proofs.EventAcceptances.{ask_adds}
use Rattle.node_events.proofs.MovedWorlds.{move_leads, stands_at}
use Rattle.node_worlds.specs.Nets.{Net, Place, StandsAs, as_far, broken, without}
use Rattle.world_laws.proofs.Nodes.{put_put}
use Rattle.world_laws.specs.Moves.{ChangesByMoves, Move, lost_of, luck_of, move_of, request_move}

-- a node that did nothing, and ended
pub broken_none : (hosts : Hosts) (i : ℕ) (net : Net) (p : Place) (n : State) → broken hosts i net p n [] [] ≡ without i net p n
broken_none hosts i net p n = λ j. record {
  places = (put_put i net.places (record { node = Some (as_far n []); records = p.records ++ [] }) (record { node = None; records = p.records ++ [] })
      ∙ ap (λ rs. put_nth i (record { node = None; records = rs }) net.places) (append-nil p.records)) j;
  posted = append-nil net.posted j;
  accepted = append-nil net.accepted j;
  happened = append-nil net.happened j ++ lost_in i n.book;
}

module _ (moves : ChangesByMoves) (hosts : Hosts) (net : Net) (w : World) (i : ℕ) (p : Place) (x : Known) (n : State) (l : Local) (at : IsAt hosts net w i p x n) where
  stands : StandsAs hosts i p x
  stands = stands_at hosts net w i p x at.world at.place at.node

  pub unbegun_ask : Leads hosts i x.clock w (Ask i l [] (Some 0)) (without i net p n)
  unbegun_ask =
      subst (Leads hosts i x.clock w (Ask i l [] (Some 0))) (λ j. record {
        places = put_nth i q net.places;
        posted = append-nil net.posted j;
        accepted = append-nil net.accepted j;
        happened = net.happened ++ lost_in i n.book;
      })
      (move_leads moves hosts x.clock net w (Ask i l [] (Some 0)) p q x [] [] (lost_in i n.book) at.world at.place at.node (record {
        move = move;
        is = is;
        stands = record { base = stands.base; book = refl; journal = stands.journal };
        clock = refl;
        posts = refl;
        accepts = ask_adds moves w i x n.book l at.node up [] (Some 0) move [] is refl (inl refl);
        came = loses_as_the_model i n.book;
      }))
    where
      q : Place
      q = record { node = None; records = p.records }

      up : x.book ≡ Some n.book
      up = stands.book ∙ ap (option_map (λ (m : State). m.book)) at.up

      move : Move
      move = record { node = record x { book = None }; moved = record { taken = []; lost = lost_of n.book; left = luck_of [] (Some 0) } }

      is : move_of (Ask i l [] (Some 0)) w.posted x ≡ move
      is = ap (request_move l (luck_of [] (Some 0)) x) up
