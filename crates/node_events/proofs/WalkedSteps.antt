-- A node that walked through its steps: what it leaves of its place, its net and its world.
use Rattle.std.specs.Prelude.{ℕ, List, [], ◌∷◌, ◌++◌, ◌-◌, ◌≡◌, Option, None, Some, Bool, true, false, if◌then◌else◌, length, map, option_map, refl}
use Rattle.std.proofs.Common.{sym, subst, ap, arith, ◌∙◌}
use Rattle.std.proofs.lemmas.Bool.{ne_eqb}
use Rattle.std.proofs.lemmas.List.{append-nil, append_assoc, map-append}
use Rattle.at_base.specs.declared.epr.Epr.{Epr}
use Rattle.at_base.specs.declared.outs.Post.{Post}
use Rattle.at_base.specs.declared.target.Target.{Target}
use Rattle.at_model.specs.Book.{Book}
use Rattle.at_model.specs.World.{Happened, Hosts, Node, World, WorldEvent, happened_at, lost_in, new_nodes, node_of, put_nth, receiver_of, stops, world_step}
use Rattle.fated_walks.specs.Fated.{Fated, IsBeyond, all_posts, book_of, left_before, posts_of, records_of, stands_by, taken_of}
use Rattle.interposition.proofs.Losses.{loses_as_the_model}
use Rattle.node_at.specs.Doings.{Doing, book_behind, came_of}
use Rattle.node_at.specs.State.{State}
use Rattle.node_at.specs.Steps.{if_landed}
use Rattle.node_at.specs.TurnText.{TurnStep}
use Rattle.node_events.specs.Fares.{AreFared, IsFared}
use Rattle.node_events.specs.NodeEvents.{IsAt, Leads}
use Rattle.node_events.proofs.Acceptances.{accepted_by_all, all_reached, outcomes_of}
use Rattle.node_events.proofs.MovedWorlds.{move_leads, places_put_put, stands_at}
use Rattle.node_worlds.specs.Nets.{Net, Place, StandsAs, after, as_far, broken, posts_from}
use Rattle.node_worlds.specs.SentPosts.{accepted_along, accepted_between, recorded, records_by}
use Rattle.world_laws.specs.Moves.{ChangesByMoves, Move, ended, later_at, lost_of, luck_of, move_of, posted_at}
use Rattle.world_laws.specs.Walks.{Walk, is_over}
use Rattle.world_laws.proofs.Walks.{happened_by, posted_by}

-- The model's step has the record of the node's, and leaves the same book and effects.
pub record IsLike (s : TurnStep) (f : Fated) : Type 0 where
  pub records : stands_by f.entry f.landed ≡ records_by (if_landed s.landed s.entry)
  pub behind : f.outcome.book ≡ s.behind
  pub came : f.outcome.effects ≡ s.came

abbrev pub AreAlike : List TurnStep → List Fated → Type 0
AreAlike [] [] = Unit {0}
AreAlike [] (f ∷ fs) = ⊥
AreAlike (s ∷ ss) [] = ⊥
AreAlike (s ∷ ss) (f ∷ fs) = IsLike s f × AreAlike ss fs

pub fared_like : (s : TurnStep) (d : Doing) (f : Fated) → IsFared s d f → IsLike s f
fared_like s d f h = record { records = h.records; behind = h.behind; came = h.came }

pub fared_alike : (ss : List TurnStep) (ds : List Doing) (fs : List Fated) → AreFared ss ds fs → AreAlike ss fs
fared_alike [] [] [] h = tt
fared_alike (s ∷ ss) (d ∷ ds) (f ∷ fs) (h, more) = (fared_like s d f h, fared_alike ss ds fs more)
fared_alike [] [] (f ∷ fs) h = absurd h
fared_alike [] (d ∷ ds) fs h = absurd h
fared_alike (s ∷ ss) [] fs h = absurd h
fared_alike (s ∷ ss) (d ∷ ds) [] h = absurd h

alike_book : (b : Book) (ss : List TurnStep) (fs : List Fated) → AreAlike ss fs → book_of b fs ≡ book_behind b ss
alike_book b [] [] h = refl
alike_book b [] (f ∷ fs) h = absurd h
alike_book b (s ∷ ss) [] h = absurd h
alike_book b (s ∷ ss) (f ∷ fs) (h, more) = alike_book f.outcome.book ss fs more ∙ ap (λ z. book_behind z ss) h.behind

alike_records : (ss : List TurnStep) (fs : List Fated) → AreAlike ss fs → records_of fs ≡ recorded ss
alike_records [] [] h = refl
alike_records [] (f ∷ fs) h = absurd h
alike_records (s ∷ ss) [] h = absurd h
alike_records (s ∷ ss) (f ∷ fs) (h, more) = λ j. h.records j ++ alike_records ss fs more j

alike_accepted : (hosts : Hosts) (i : ℕ) (b : Book) (ss : List TurnStep) (fs : List Fated) → AreAlike ss fs
    → accepted_by_all i (new_nodes hosts.base_of hosts.count 1) b (outcomes_of fs) ≡ accepted_along hosts i b ss
alike_accepted hosts i b [] [] h = refl
alike_accepted hosts i b [] (f ∷ fs) h = absurd h
alike_accepted hosts i b (s ∷ ss) [] h = absurd h
alike_accepted hosts i b (s ∷ ss) (f ∷ fs) (h, more) =
    ap (λ c. accepted_between hosts i b c ++ accepted_by_all i (new_nodes hosts.base_of hosts.count 1) c (outcomes_of fs)) h.behind
    ∙ ap (λ z. accepted_between hosts i b s.behind ++ z) (alike_accepted hosts i s.behind ss fs more)

alike_came : (i : ℕ) (ss : List TurnStep) (fs : List Fated) → AreAlike ss fs → happened_by i (map taken_of fs) ≡ map (happened_at i) (came_of ss)
alike_came i [] [] h = refl
alike_came i [] (f ∷ fs) h = absurd h
alike_came i (s ∷ ss) [] h = absurd h
alike_came i (s ∷ ss) (f ∷ fs) (h, more) = (λ j. map (happened_at i) (h.came j) ++ alike_came i ss fs more j) ∙ sym (map-append (happened_at i) s.came (came_of ss))

taken_posts : (i : ℕ) (nodes : List Node) (fs : List Fated) → posted_by i nodes (map taken_of fs) ≡ map (posted_at i nodes) (all_posts fs)
taken_posts i nodes [] = refl
taken_posts i nodes (f ∷ fs) = ap (λ z. map (posted_at i nodes) (posts_of f.ways) ++ z) (taken_posts i nodes fs) ∙ sym (map-append (posted_at i nodes) (posts_of f.ways) (all_posts fs))

-- the node that goes on, and the one that goes down
abbrev pub gone_on : Node → Walk → Move
gone_on x v = record { node = record x { book = Some v.book; journal = v.journal }; moved = record { taken = v.taken; lost = []; left = v.luck } }

abbrev pub gone_down : Node → Walk → Move
gone_down x v = record { node = record x { book = None; journal = v.journal }; moved = record { taken = v.taken; lost = lost_of v.book; left = v.luck } }

pub goes_on : (x : Node) (v : Walk) → is_over v.luck ≡ false → ended x v ≡ gone_on x v
goes_on x v e = ap (λ b. if b then gone_down x v else gone_on x v) e

-- also where it goes down, so many steps counted
pub ended_taken : (x : Node) (v : Walk) → length (ended x v).moved.taken ≡ length v.taken
ended_taken x v = by_luck (is_over v.luck)
  where
    by_luck : (c : Bool) → length (if c then gone_down x v else gone_on x v).moved.taken ≡ length v.taken
    by_luck true = refl
    by_luck false = refl

-- a stop that comes later doesn't come here
pub runs_on : (until : Option ℕ) (n : ℕ) → IsBeyond until n → stops (left_before until n) ≡ false
runs_on None n beyond = refl
runs_on (Some until) n beyond = ne_eqb (until - n) 0 (λ e. omega (arith, e, beyond))

-- the book of the node
pub book_up : (hosts : Hosts) (net : Net) (w : World) (i : ℕ) (p : Place) (x : Node) (n : State) → IsAt hosts net w i p x n → x.book ≡ Some n.book
book_up hosts net w i p x n at = (stands_at hosts net w i p x at.world at.place at.node).book ∙ ap (option_map (λ (k : State). k.book)) at.up

-- the walk came through these steps, and then its luck is this
abbrev pub walked : Book → Node → List Bool → Option ℕ → List Fated → Walk
walked b x left until fs = record { book = book_of b fs; journal = x.journal ++ records_of fs; luck = luck_of left until; taken = map taken_of fs }

module _ (law : ChangesByMoves) (hosts : Hosts) (net : Net) (w : World) (e : WorldEvent) (p : Place) (x : Node) (n : State) (now : ℕ) (at : IsAt hosts net w (node_of e) p x n) where
  receiver_reach : (to : Option Epr) → receiver_of w.nodes to ≡ receiver_of (new_nodes hosts.base_of hosts.count 1) to
  receiver_reach None = refl
  receiver_reach (Some to) = ap (option_map (λ (z : ℕ × Target). z.0)) (at.reach to.address)

  posts_reach : (ps : List Post) → map (posted_at (node_of e) w.nodes) ps ≡ posts_from hosts (node_of e) ps
  posts_reach [] = refl
  posts_reach (q ∷ ps) = λ j. record { sender = node_of e; receiver = receiver_reach q.to j; content = q } ∷ posts_reach ps j

  is_at : StandsAs hosts (node_of e) p x
  is_at = stands_at hosts net w (node_of e) p x at.world at.place at.node

  abbrev came_by : Move → List Happened
  came_by m = happened_by (node_of e) m.moved.taken ++ map (happened_at (node_of e)) m.moved.lost

  accepts_so : (ss : List TurnStep) (fs : List Fated) → AreAlike ss fs → accepted_by_all (node_of e) w.nodes n.book (outcomes_of fs) ≡ accepted_along hosts (node_of e) n.book ss
  accepts_so ss fs like =
      all_reached (node_of e) w.nodes (new_nodes hosts.base_of hosts.count 1) n.book (outcomes_of fs) at.reach ∙ alike_accepted hosts (node_of e) n.book ss fs like

  -- to its end
  pub end_leads : (m : State) (v : Walk) (left : List Bool) (until : Option ℕ) (ss : List TurnStep) (fs : List Fated) → move_of e w.posted x ≡ ended (later_at now x) v → v ≡ walked n.book x left until fs
      → stops until ≡ false → AreAlike ss fs → m.book ≡ book_behind n.book ss → m.effects ≡ came_of ss
      → (world_step w e).accepted ≡ w.accepted ++ accepted_by_all (node_of e) w.nodes n.book (outcomes_of fs)
      → Leads hosts (node_of e) now w e (after hosts (node_of e) net p m (recorded ss) (all_posts fs) (accepted_along hosts (node_of e) n.book ss))
  end_leads m v left until ss fs moved is runs like book came adds =
      move_leads law hosts now net w e p (record { node = Some m; records = p.records ++ recorded ss }) x (posts_from hosts (node_of e) (all_posts fs))
      (accepted_along hosts (node_of e) n.book ss)
      (map (happened_at (node_of e)) m.effects) at.world at.place at.node
      (record {
        move = gone_on (later_at now x) (walked n.book x left until fs);
        is = moved ∙ ap (ended (later_at now x)) is ∙ goes_on (later_at now x) (walked n.book x left until fs) runs;
        stands = record {
          base = is_at.base;
          book = ap Some (alike_book n.book ss fs like ∙ sym book);
          journal = λ j. is_at.journal j ++ alike_records ss fs like j;
        };
        clock = refl;
        posts = taken_posts (node_of e) w.nodes fs ∙ posts_reach (all_posts fs);
        accepts = adds ∙ ap (λ z. w.accepted ++ z) (accepts_so ss fs like);
        came = append-nil (happened_by (node_of e) (map taken_of fs)) ∙ alike_came (node_of e) ss fs like ∙ ap (map (happened_at (node_of e))) (sym came);
      })

  -- up to a stop
  pub stop_leads : (v : Walk) (left : List Bool) (ss : List TurnStep) (fs : List Fated) → move_of e w.posted x ≡ ended (later_at now x) v → v ≡ walked n.book x left (Some 0) fs → AreAlike ss fs
      → (world_step w e).accepted ≡ w.accepted ++ accepted_by_all (node_of e) w.nodes n.book (outcomes_of fs)
      → Leads hosts (node_of e) now w e (broken hosts (node_of e) net p n ss (all_posts fs))
  stop_leads v left ss fs moved is like adds =
      subst (Leads hosts (node_of e) now w e) same
      (move_leads law hosts now net w e p q x (posts_from hosts (node_of e) (all_posts fs)) (accepted_along hosts (node_of e) n.book ss) (came ++ lost) at.world at.place at.node
      (record {
        move = ended (later_at now x) (walked n.book x left (Some 0) fs);
        is = moved ∙ ap (ended (later_at now x)) is;
        stands = record {
          base = is_at.base;
          book = refl;
          journal = λ j. is_at.journal j ++ alike_records ss fs like j;
        };
        clock = refl;
        posts = taken_posts (node_of e) w.nodes fs ∙ posts_reach (all_posts fs);
        accepts = adds ∙ ap (λ z. w.accepted ++ z) (accepts_so ss fs like);
        came = λ j. alike_came (node_of e) ss fs like j ++ (loses_as_the_model (node_of e) (book_of n.book fs) ∙ ap (lost_in (node_of e)) (alike_book n.book ss fs like)) j;
      }))
    where
      q : Place
      q = record { node = None; records = p.records ++ recorded ss }

      came : List Happened
      came = map (happened_at (node_of e)) (came_of ss)

      lost : List Happened
      lost = lost_in (node_of e) (book_behind n.book ss)

      behind : Net
      behind = record {
        places = put_nth (node_of e) q net.places;
        posted = net.posted ++ posts_from hosts (node_of e) (all_posts fs);
        accepted = net.accepted ++ accepted_along hosts (node_of e) n.book ss;
        happened = net.happened ++ (came ++ lost);
      }

      same : behind ≡ broken hosts (node_of e) net p n ss (all_posts fs)
      same = λ j. record {
        places = sym (places_put_put (node_of e) (record { node = Some (as_far n ss); records = p.records ++ recorded ss }) q net.places) j;
        posted = net.posted ++ posts_from hosts (node_of e) (all_posts fs);
        accepted = net.accepted ++ accepted_along hosts (node_of e) n.book ss;
        happened = sym (append_assoc net.happened came lost) j;
      }
