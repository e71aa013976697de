-- A request of a node's program does one event of the world.
use Rattle.std.specs.Prelude.{ℕ, List, [], ◌∷◌, ◌++◌, ◌+◌, ◌-◌, ◌≡◌, ◌⊎◌, Bool, true, false, Option, Some, None, drop, if◌then◌else◌, length, map, option_map, refl}
use Rattle.std.proofs.Common.{inl, inr, sym, subst, ap, arith, ◌∙◌}
use Rattle.std.proofs.lemmas.Bool.{ne_eqb}
use Rattle.std.proofs.lemmas.List.{append-nil, append_assoc}
use Rattle.at_base.specs.declared.epr.Epr.{Epr}
use Rattle.at_base.specs.declared.event.Event.TheVariants as events
use Rattle.at_base.specs.declared.event.Local.{Local}
use Rattle.at_base.specs.declared.outs.Post.{Post}
use Rattle.at_base.specs.declared.record.Record.{Record}
use Rattle.at_base.specs.declared.target.Target.{Target}
use Rattle.at_model.specs.Activities.{Refusal}
use Rattle.at_model.specs.Book.{Book}
use Rattle.at_model.specs.Step.{Outcome, Plan, local_plan, plan, refuses, still}
use Rattle.at_model.specs.World.{Ask, Hosts, Node, World, happened_at, lost_in, new_nodes, put_nth, receiver_of, stops, world_step}
use Rattle.fated_walks.specs.Fated.{Fated, IsBeyond, IsPart, IsPlanned, StartsWith, all_fates, fates_of, left_before, posts_of, stands_by, taken_of}
use Rattle.fated_walks.specs.WalksByFates.{WalksByFates}
use Rattle.interposition.proofs.Losses.{loses_as_the_model}
use Rattle.model_laws.specs.Order.{IsInOrder}
use Rattle.model_laws.proofs.StepRegistrations.{none_new}
use Rattle.node_at.specs.Doings.{Doing, IsDoing, book_behind, came_of}
use Rattle.node_at.specs.State.{State}
use Rattle.node_at.specs.Steps.{if_landed}
use Rattle.node_at.specs.TurnText.{IsStep, TurnStep}
use Rattle.node_worlds.specs.Nets.{Net, Place, StandsAs, after, broken, posts_from, rested}
use Rattle.node_worlds.specs.SentPosts.{accepted_along, accepted_between, recorded, records_by}
use Rattle.world_laws.proofs.Walks.{happened_by, posted_by}
use Rattle.world_laws.specs.declared.step_outs.Taken.{Taken}
use Rattle.world_laws.specs.Moves.{ChangesByMoves, Move, ended, lost_of, luck_of, move_of, posted_at, request_move}
use Rattle.world_laws.specs.Walks.{Luck, Walk, begin, counted, is_over, sends, stepped}
use Rattle.node_events.specs.Fares.{way_of}
use Rattle.node_events.specs.NodeEvents.{IsAsk, IsAt, Leads, front_by, struck}
use Rattle.node_events.proofs.Acceptances.{accepted_by_all, all_reached, first_of, planned_first}
use Rattle.node_events.proofs.EventAcceptances.{ask_adds}
use Rattle.node_events.proofs.MovedWorlds.{move_leads, places_put_put, stands_at}
use Rattle.node_events.proofs.PlannedSteps.{ComesTo, IsStepOf, comes_planned, counts_as, fated_by, outcome_by, planned_by, same_records, step_of}
use Rattle.node_events.proofs.RequestCuts.{starts_itself, struck_length, struck_some}
use Rattle.node_events.proofs.StepFares.{Fared, goes_fared}

-- a walk of one step, or of none
abbrev pub walk_of : Book → List Record → Luck → List Taken → Walk
walk_of b journal luck taken = record { book = b; journal = journal; luck = luck; taken = taken }

-- what is left behind a step
abbrev luck_behind : List Bool → Option ℕ → Fated → Luck
luck_behind all until f = luck_of (drop (length (all_fates (f ∷ []))) all) until

pub left_runs : (until : Option ℕ) (k : ℕ) → IsBeyond until k → stops (left_before until k) ≡ false
left_runs None k h = refl
left_runs (Some until) k h = ne_eqb (until - k) 0 (λ e. absurd (omega (arith, h, e)))

module _ (walks : WalksByFates) (moves : ChangesByMoves) (hosts : Hosts) (net : Net) (w : World) (i : ℕ) (p : Place) (x : Node) (n : State) (l : Local) (at : IsAt hosts net w i p x n) where
  abbrev begun : Plan
  begun = plan n.book (events.Local l) x.clock

  abbrev walked : List Bool → Option ℕ → Walk
  walked fates until = stepped begun (begin n.book x.journal (luck_of fates until))

  stands : StandsAs hosts i p x
  stands = stands_at hosts net w i p x at.world at.place at.node

  pub moved : (fates : List Bool) (until : Option ℕ) (v : Walk) → walked fates until ≡ v → move_of (Ask i l fates until) w.posted x ≡ ended x v
  moved fates until v e = ap (request_move l (luck_of fates until) x) (stands.book ∙ ap (option_map (λ (m : State). m.book)) at.up) ∙ ap (ended x) e

  receiver_reach : (to : Option Epr) → receiver_of w.nodes to ≡ receiver_of (new_nodes hosts.base_of hosts.count 1) to
  receiver_reach None = refl
  receiver_reach (Some to) = ap (option_map (λ (z : ℕ × Target). z.0)) (at.reach to.address)

  -- what its step accepts
  accepts : (fates : List Bool) (until : Option ℕ) (m : Move) (os : List Outcome) → move_of (Ask i l fates until) w.posted x ≡ m → length m.moved.taken ≡ length os
      → (os ≡ []) ⊎ (os ≡ first_of begun fates ∷ [])
      → (world_step w (Ask i l fates until)).accepted ≡ w.accepted ++ accepted_by_all i (new_nodes hosts.base_of hosts.count 1) n.book os
  accepts fates until m os is count row =
      ask_adds moves w i x n.book l at.node (stands.book ∙ ap (option_map (λ (k : State). k.book)) at.up) fates until m os is count row
      ∙ ap (λ z. w.accepted ++ z) (all_reached i w.nodes (new_nodes hosts.base_of hosts.count 1) n.book os at.reach)

  reached : (ps : List Post) → map (posted_at i w.nodes) ps ≡ posts_from hosts i ps
  reached [] = refl
  reached (q ∷ ps) = λ j. record { sender = i; receiver = receiver_reach q.to j; content = q } ∷ reached ps j

  -- the node goes on
  goes_on : (fates : List Bool) (until : Option ℕ) (m : State) (rs : List Record) (b : Book) (luck : Luck) (t : Taken) → is_over luck ≡ false → b ≡ m.book → t.effects ≡ m.effects
      → (first_of begun fates).book ≡ m.book → walked fates until ≡ walk_of b (x.journal ++ rs) luck (t ∷ [])
      → Leads hosts i x.clock w (Ask i l fates until) (after hosts i net p m rs t.posts (accepted_between hosts i n.book m.book))
  goes_on fates until m rs b luck t over book came so walk =
      move_leads moves hosts x.clock net w (Ask i l fates until) p (record { node = Some m; records = p.records ++ rs }) x (posts_from hosts i t.posts)
      (accepted_between hosts i n.book m.book) (map (happened_at i) m.effects) at.world at.place at.node (record {
        move = move;
        is = is;
        stands = record { base = stands.base; book = ap Some book; journal = ap (λ js. js ++ rs) stands.journal };
        clock = refl;
        posts = append-nil (map (posted_at i w.nodes) t.posts) ∙ reached t.posts;
        accepts = accepts fates until move (first_of begun fates ∷ []) is refl (inr refl)
            ∙ ap (λ z. w.accepted ++ z) (append-nil (accepted_between hosts i n.book (first_of begun fates).book) ∙ ap (accepted_between hosts i n.book) so);
        came = append-nil (map (happened_at i) t.effects ++ []) ∙ append-nil (map (happened_at i) t.effects) ∙ ap (map (happened_at i)) came;
      })
    where
      move : Move
      move = record { node = record x { book = Some b; journal = x.journal ++ rs }; moved = record { taken = t ∷ []; lost = []; left = luck } }

      is : move_of (Ask i l fates until) w.posted x ≡ move
      is =
          moved fates until (walk_of b (x.journal ++ rs) luck (t ∷ [])) walk ∙ ap (λ (c : Bool). if c
          then record { node = record x { book = None; journal = x.journal ++ rs }; moved = record { taken = t ∷ []; lost = lost_of b; left = luck } }
          else record { node = record x { book = Some b; journal = x.journal ++ rs }; moved = record { taken = t ∷ []; lost = []; left = luck } }) over

  -- it goes down
  goes_down : (fates : List Bool) (until : Option ℕ) (steps : List TurnStep) (ps : List Post) (b : Book) (luck : Luck) (ts : List Taken) (os : List Outcome)
      → is_over luck ≡ true → b ≡ book_behind n.book steps
      → happened_by i ts ≡ map (happened_at i) (came_of steps) → posted_by i w.nodes ts ≡ map (posted_at i w.nodes) ps
      → length ts ≡ length os → (os ≡ []) ⊎ (os ≡ first_of begun fates ∷ []) → accepted_by_all i (new_nodes hosts.base_of hosts.count 1) n.book os ≡ accepted_along hosts i n.book steps
      → walked fates until ≡ walk_of b (x.journal ++ recorded steps) luck ts → Leads hosts i x.clock w (Ask i l fates until) (broken hosts i net p n steps ps)
  goes_down fates until steps ps b luck ts os over book came posts count row so walk =
      subst (Leads hosts i x.clock w (Ask i l fates until)) (λ j. record {
        places = sym (places_put_put i (record { node = Some (record n { book = book_behind n.book steps; effects = came_of steps }); records = p.records ++ recorded steps }) q net.places) j;
        posted = net.posted ++ posts_from hosts i ps;
        accepted = net.accepted ++ accepted_along hosts i n.book steps;
        happened = sym (append_assoc net.happened (map (happened_at i) (came_of steps)) (lost_in i (book_behind n.book steps))) j;
      })
      (move_leads moves hosts x.clock net w (Ask i l fates until) p q x (posts_from hosts i ps) (accepted_along hosts i n.book steps)
      (map (happened_at i) (came_of steps) ++ lost_in i (book_behind n.book steps)) at.world at.place at.node (record {
        move = move;
        is = is;
        stands = record { base = stands.base; book = refl; journal = ap (λ js. js ++ recorded steps) stands.journal };
        clock = refl;
        posts = posts ∙ reached ps;
        accepts = accepts fates until move os is count row ∙ ap (λ z. w.accepted ++ z) so;
        came = λ j. came j ++ (ap (λ c. map (happened_at i) (lost_of c)) book ∙ loses_as_the_model i (book_behind n.book steps)) j;
      }))
    where
      q : Place
      q = record { node = None; records = p.records ++ recorded steps }

      move : Move
      move = record { node = record x { book = None; journal = x.journal ++ recorded steps }; moved = record { taken = ts; lost = lost_of b; left = luck } }

      is : move_of (Ask i l fates until) w.posted x ≡ move
      is =
          moved fates until (walk_of b (x.journal ++ recorded steps) luck ts) walk ∙ ap (λ (c : Bool). if c
          then record { node = record x { book = None; journal = x.journal ++ recorded steps }; moved = record { taken = ts; lost = lost_of b; left = luck } }
          else record { node = record x { book = Some b; journal = x.journal ++ recorded steps }; moved = record { taken = ts; lost = []; left = luck } }) over

  -- the step with these fates
  first_step : (f : Fated) (all : List Bool) → IsPlanned begun f → StartsWith (fates_of f) all → f.outcome ≡ first_of begun all
  first_step f all planned starts = planned_first begun f [] all planned (subst (λ z. StartsWith z all) (sym (append-nil (fates_of f))) starts)

  -- a request whose one step went to its end
  pub whole_asks : (m : State) (step : TurnStep) (doing : Doing) → IsStep n.book (events.Local l) x.clock step → IsDoing n.kept step doing → m.book ≡ step.behind → m.effects ≡ step.came
      → IsAsk hosts net w i p x n m l step doing
  whole_asks m step doing is does book came = record {
    fated = fated;
    planned = planned;
    fared = record {
      fares = fared.fares;
      ways = refl;
      whole = fared.outs;
      calls = fared.calls;
      made = fared.mades;
      lost = fared.losses;
      rightly = fared.rightly;
      entry = refl;
      records = same_records step.entry step.landed;
      behind = sym comes.behind;
      came = sym comes.came;
    };
    sent = fared.sent;
    leads = leads;
  }
    where
      so : IsStepOf begun step
      so = step_of n.book (events.Local l) x.clock step is

      comes : ComesTo (outcome_by begun (counts_as step.entry step.landed)) step
      comes = comes_planned begun step so

      fared : Fared (outcome_by begun (counts_as step.entry step.landed)).outs step.leaving doing.made doing.lost
      fared = goes_fared comes.leaves does.tried

      fated : Fated
      fated = fated_by step begun (map way_of fared.fares)

      planned : IsPlanned begun fated
      planned = planned_by begun step (map way_of fared.fares) so

      -- also where a stop is still to come
      leads : (all : List Bool) (until : Option ℕ) → StartsWith (fates_of fated) all → IsBeyond until (length (fates_of fated))
          → Leads hosts i x.clock w (Ask i l all until)
          (after hosts i net p m (records_by (if_landed step.landed step.entry)) (posts_of fated.ways) (accepted_between hosts i n.book m.book))
      leads all until starts beyond =
          goes_on all until m (records_by (if_landed step.landed step.entry)) fated.outcome.book (luck_behind all (left_before until (length (fates_of fated))) fated) (taken_of fated)
          (left_runs until (length (fates_of fated)) beyond) (sym comes.behind ∙ sym book) (sym comes.came ∙ sym came)
          (ap (λ (o : Outcome). o.book) (sym (first_step fated all planned starts)) ∙ sym comes.behind ∙ sym book)
          (walks.whole_step begun n.book x.journal fated all until planned fared.outs starts beyond
          ∙ (λ j. walk_of fated.outcome.book (x.journal ++ (append-nil (stands_by fated.entry fated.landed) ∙ same_records step.entry step.landed) j)
          (luck_behind all (left_before until (length (fates_of fated))) fated) (taken_of fated ∷ [])))

  -- a stop behind its record, or at one of its outs
  pub cut_leads : (step : TurnStep) (f : Fated) (before : ℕ) (last : Bool) → IsPlanned begun f → f.landed ≡ true → IsPart f → fates_of f ≡ struck before last → f.outcome.book ≡ step.behind
      → f.outcome.effects ≡ step.came → stands_by f.entry f.landed ≡ records_by (if_landed step.landed step.entry)
      → Leads hosts i x.clock w (Ask i l (struck before last) (Some (before + 1))) (broken hosts i net p n (step ∷ []) (posts_of f.ways))
  cut_leads step f before last planned landed part fates behind came records =
      goes_down (struck before last) (Some (before + 1)) (step ∷ []) (posts_of f.ways) f.outcome.book luck (taken_of f ∷ []) (f.outcome ∷ []) refl behind
      (append-nil (map (happened_at i) f.outcome.effects) ∙ ap (map (happened_at i)) (came ∙ sym (append-nil step.came))) (append-nil (map (posted_at i w.nodes) (posts_of f.ways)))
      refl (inr (ap (λ o. o ∷ []) (first_step f (struck before last) planned starts))) (ap (λ c. accepted_between hosts i n.book c ++ []) behind)
      (ap (λ k. walked (struck before last) (Some k)) (sym (ap length (append-nil (fates_of f) ∙ fates) ∙ struck_length before last))
      ∙ walks.cut_step begun n.book x.journal f (struck before last) planned (part, λ e. struck_some before last (sym fates ∙ e))
      starts (λ (none, absent, ways). not_both f.landed landed absent)
      ∙ (λ j. walk_of f.outcome.book (x.journal ++ (records j ++ [])) luck (taken_of f ∷ [])))
    where
      luck : Luck
      luck = luck_behind (struck before last) (Some 0) f

      starts : StartsWith (fates_of f) (struck before last)
      starts = subst (λ z. StartsWith z (struck before last)) (sym fates) (starts_itself (struck before last))

      not_both : (b : Bool) → b ≡ true → b ≡ false → ⊥
      not_both b e f = absurd cc

  -- a stop at its record, which is absent
  pub undone_leads : (entry : Record) → begun.entry ≡ Some entry → Leads hosts i x.clock w (Ask i l (false ∷ []) (Some 1)) (broken hosts i net p n [] [])
  undone_leads entry e =
      goes_down (false ∷ []) (Some 1) [] [] n.book (luck_of [] (Some 0)) [] [] refl refl refl refl refl (inl refl) refl
      (walks.undone_step begun n.book x.journal entry (false ∷ []) e refl ∙ (λ j. walk_of n.book (sym (append-nil x.journal) j) (luck_of [] (Some 0)) []))

  pub halted_leads : (step : TurnStep) (entry : Record) (stood : Bool) → IsStep n.book (events.Local l) x.clock step → step.entry ≡ Some entry → step.landed ≡ true
      → Leads hosts i x.clock w (Ask i l (stood ∷ []) (Some 1)) (broken hosts i net p n (front_by stood step) [])
  halted_leads step entry false is e landed = undone_leads entry (sym is.entry ∙ e)
  halted_leads step entry true is e landed =
      cut_leads step (record { entry = Some entry; landed = true; outcome = begun.landed; ways = [] }) 0 true
      (record { entry = sym e ∙ is.entry; sure = λ k. refl; outcome = refl }) refl (record { rest = begun.landed.outs; all = refl }) refl
      (ap (λ c. (outcome_by begun c).book) (sym landed) ∙ sym is.outcome.behind) (ap (λ c. (outcome_by begun c).effects) (sym landed) ∙ sym is.outcome.came)
      (λ j. records_by (if_landed (sym landed j) (sym e j)))

  -- one that is refused
  pub refused_walk : (why : Option Refusal) (fates : List Bool) (until : Option ℕ) (reason : Refusal) → why ≡ Some reason → stops until ≡ false
      → stepped (local_plan n.book x.clock l why) (begin n.book x.journal (luck_of fates until)) ≡ walk_of n.book x.journal (luck_of fates until) (record { effects = []; answer = None; posts = [] } ∷ [])
  unfolding sends
  refused_walk why fates until reason e runs =
      ap (λ o. stepped (local_plan n.book x.clock l o) (begin n.book x.journal (luck_of fates until))) e
      ∙ ap (λ (c : Bool). if c then begin n.book x.journal (luck_of fates until) else counted (still n.book []) (begin n.book x.journal (luck_of fates until))) runs

  pub runs_on : (until : Option ℕ) → (until ≡ Some 0 → ⊥) → stops until ≡ false
  runs_on None h = refl
  runs_on (Some k) h = ne_eqb k 0 (λ e. h (ap Some e))

  pub refused_leads : (why : Refusal) (fates : List Bool) (until : Option ℕ) → refuses n.book l ≡ Some why → IsInOrder n.book → (until ≡ Some 0 → ⊥)
      → Leads hosts i x.clock w (Ask i l fates until) (rested i net p n)
  refused_leads why fates until e order runs =
      subst (Leads hosts i x.clock w (Ask i l fates until)) (λ j. record {
        places = put_nth i (record { node = Some (record n { effects = [] }); records = append-nil p.records j }) net.places;
        posted = append-nil net.posted j;
        accepted = (ap (λ z. net.accepted ++ z) (none_new (new_nodes hosts.base_of hosts.count 1) n.book order i) ∙ append-nil net.accepted) j;
        happened = append-nil net.happened j;
      })
      (goes_on fates until (record n { effects = [] }) [] n.book (luck_of fates until) (record { effects = []; answer = None; posts = [] }) (runs_on until runs) refl refl
      (ap (λ o. (first_of (local_plan n.book x.clock l o) fates).book) e)
      (refused_walk (refuses n.book l) fates until why e (runs_on until runs)
      ∙ (λ j. walk_of n.book (sym (append-nil x.journal) j) (luck_of fates until) (record { effects = []; answer = None; posts = [] } ∷ []))))
