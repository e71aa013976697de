-- A node that starts, that fails to, or that ends, does one event of the world.
use Rattle.std.specs.Prelude.{ℕ, List, [], ◌∷◌, ◌++◌, ◌+◌, ◌<◌, ◌≡◌, Bool, true, false, Some, None, if◌then◌else◌, option_map}
use Rattle.std.proofs.Common.{sym, subst, ap, refl, ◌∙◌}
use Rattle.std.proofs.lemmas.Bool.{lt-ltb}
use Rattle.std.proofs.lemmas.List.{append-nil}
use Rattle.at_base.specs.declared.record.Record.{Record}
use Rattle.at_base.specs.declared.record.Record.TheVariants as records
use Rattle.at_model.specs.Book.{last_counter}
use Rattle.at_model.specs.Recovery.{last_incarnation, recover}
use Rattle.at_model.specs.World.{Crash, Hosts, Node, Posted, Up, World, lost_in, nth, put_nth, up_after}
use Rattle.at_model.specs.World.{started as node_started}
use Rattle.interposition.proofs.Losses.{loses_as_the_model}
use Rattle.node_at.specs.State.{State}
use Rattle.node_worlds.specs.Nets.{IsWorldOf, Net, Place, StandsAs, with_start, with_started, without}
use Rattle.world_laws.proofs.Nodes.{put_same}
use Rattle.world_laws.specs.Moves.{ChangesByMoves, crash_move, lost_of, move_of, nothing, quiet, start_move}
use Rattle.node_events.specs.NodeEvents.{Leads, StartsAreEvents}
use Rattle.node_events.proofs.EventAcceptances.{crash_accepts, up_accepts}
use Rattle.node_events.proofs.MovedWorlds.{move_leads, stands_at}

-- the node behind a start
abbrev begun_node : Node → Bool → Node
begun_node x stop = up_after (node_started (last_incarnation x.journal + 1) x) stop

begun_move : (i : ℕ) (stop : Bool) (posted : List Posted) (x : Node) → x.book ≡ None → last_incarnation x.journal < last_counter → move_of (Up i true stop) posted x ≡ quiet (begun_node x stop)
begun_move i stop posted x down small =
    ap (start_move true stop x) down ∙ ap (λ (c : Bool). quiet (if c then begun_node x stop else x)) (lt-ltb (last_incarnation x.journal) last_counter small)

abbrev with_begin : List Record → List Record
with_begin rs = rs ++ records.Start (last_incarnation rs + 1) ∷ []

module _ (moves : ChangesByMoves) (hosts : Hosts) (net : Net) (w : World) (i : ℕ) (p : Place) (x : Node) (is : IsWorldOf hosts net w) (here : nth i net.places ≡ Some p) (found : nth i w.nodes ≡ Some x) where
  stands : StandsAs hosts i p x
  stands = stands_at hosts net w i p x is here found

  -- a start that makes this of the node
  starts_as : (landed stop : Bool) (q : Place) (y : Node) → move_of (Up i landed stop) w.posted x ≡ quiet y → StandsAs hosts i q y → y.clock ≡ x.clock
      → Leads hosts i x.clock w (Up i landed stop) (record net { places = put_nth i q net.places })
  starts_as landed stop q y move so clock =
      subst (Leads hosts i x.clock w (Up i landed stop))
      (λ j. record { places = put_nth i q net.places; posted = append-nil net.posted j; accepted = append-nil net.accepted j; happened = append-nil net.happened j })
      (move_leads moves hosts x.clock net w (Up i landed stop) p q x [] [] [] is here found (record {
        move = quiet y;
        is = move;
        stands = so;
        clock = clock;
        posts = refl;
        accepts = up_accepts w i landed stop ∙ sym (append-nil w.accepted);
        came = refl;
      }))

  module _ (down : p.node ≡ None) where
    no_book : x.book ≡ None
    no_book = stands.book ∙ ap (option_map (λ (n : State). n.book)) down

    small : last_incarnation p.records < 4294967295 → last_incarnation x.journal < last_counter
    small = subst (λ rs. last_incarnation rs < last_counter) (sym stands.journal)

    pub started_leads : (n : State) → last_incarnation p.records < 4294967295 → n.book ≡ recover (hosts.base_of i) (with_begin p.records) → Leads hosts i x.clock w (Up i true false) (with_started i net p n)
    started_leads n less book =
        starts_as true false (record { node = Some n; records = with_begin p.records }) (begun_node x false) (begun_move i false w.posted x no_book (small less))
        (record { base = stands.base; book = ap Some ((λ j. recover (stands.base j) (with_begin (stands.journal j))) ∙ sym book); journal = ap with_begin stands.journal }) refl

    pub recorded_leads : last_incarnation p.records < 4294967295 → Leads hosts i x.clock w (Up i true true) (with_start i net p)
    recorded_leads less =
        starts_as true true (record { node = None; records = with_begin p.records }) (begun_node x true) (begun_move i true w.posted x no_book (small less))
        (record { base = stands.base; book = refl; journal = ap with_begin stands.journal }) refl

    pub unrecorded_leads : (stop : Bool) → Leads hosts i x.clock w (Up i false stop) net
    unrecorded_leads stop =
        subst (λ places. Leads hosts i x.clock w (Up i false stop) (record net { places = places })) (put_same i net.places p here)
        (starts_as false stop p x (ap (start_move false stop x) no_book) stands refl)

  pub ended_leads : (n : State) → p.node ≡ Some n → Leads hosts i x.clock w (Crash i) (without i net p n)
  ended_leads n up =
      subst (Leads hosts i x.clock w (Crash i))
      (λ j. record {
        places = put_nth i (record { node = None; records = p.records }) net.places;
        posted = append-nil net.posted j;
        accepted = append-nil net.accepted j;
        happened = net.happened ++ lost_in i n.book;
      })
      (move_leads moves hosts x.clock net w (Crash i) p (record { node = None; records = p.records }) x [] [] (lost_in i n.book) is here found (record {
        move = record { node = record x { book = None }; moved = record nothing { lost = lost_of n.book } };
        is = ap (crash_move x) (stands.book ∙ ap (option_map (λ (m : State). m.book)) up);
        stands = record { base = stands.base; book = refl; journal = stands.journal };
        clock = refl;
        posts = refl;
        accepts = crash_accepts w i ∙ sym (append-nil w.accepted);
        came = loses_as_the_model i n.book;
      }))

pub starts_are_events : ChangesByMoves → StartsAreEvents
starts_are_events moves = record {
  started = λ hosts net w i p x n is here found down less book. started_leads moves hosts net w i p x is here found down n less book;
  recorded = λ hosts net w i p x is here found down less. recorded_leads moves hosts net w i p x is here found down less;
  unrecorded = λ hosts net w i p x stop is here found down. unrecorded_leads moves hosts net w i p x is here found down stop;
  ended = λ hosts net w i p x n at. ended_leads moves hosts net w i p x at.world at.place at.node n at.up;
}
