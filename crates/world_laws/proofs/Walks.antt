-- The steps of a turn in a world are those of a walk.
use Rattle.std.proofs.Common.{ℕ, List, [], ◌∷◌, ◌++◌, ◌≡◌, Option, Some, None, Bool, true, false, ap, subst, sym, ◌∙◌, refl}
use Rattle.std.specs.Prelude.{map, if◌then◌else◌}
use Rattle.std.proofs.lemmas.List.{append-nil, append_assoc, map-append}
use Rattle.at_base.specs.declared.record.Record.{Record}
use Rattle.at_base.specs.declared.event.Item.{Item}
use Rattle.at_base.specs.declared.event.Event.TheVariants as events
use Rattle.at_model.specs.Book.{Book}
use Rattle.at_model.specs.Step.{Outcome, Plan, plan, is_due, items_of}
use Rattle.at_model.specs.World.{World, Node, Posted, Accepted, Happened, Traced, Turning, traced, walked, nth, put_nth, turn_from, send_all, after_fate, fate, counted as counted_there, step_by, landed_step, absent_step, take_step, take_turn, after_input, turned as turned_there, goes_down, put_book, lost_in, due_steps, accepted_in, happened_at, with_record}
use Rattle.interposition.specs.Due.{due_outcome, due_outcomes}
use Rattle.interposition.specs.ModelSteps.{LosesAsTheModel}
use Rattle.world_laws.specs.declared.step_outs.Taken.{Taken}
use Rattle.world_laws.specs.Moves.{Move, Scene, ended, lost_of, posted_at, seen, taken_of}
use Rattle.world_laws.specs.Walks.{Sending, Walk, asked, begin, branch, counted, counted_all, counted_by, is_over, outs_of, recorded, sending, sends, stepped, turned, used}
use Rattle.world_laws.proofs.DueItems.{over_stays}
use Rattle.world_laws.proofs.Nodes.{nth_put, posts_put, put_put, put_same}
use Rattle.world_laws.proofs.StepSends.{Amid, amid, sent_effects, whole_sent}

-- what steps posted and brought about
abbrev pub posted_by : ℕ → List Node → List Taken → List Posted
posted_by n nodes [] = []
posted_by n nodes (t ∷ ts) = map (posted_at n nodes) t.posts ++ posted_by n nodes ts

abbrev pub happened_by : ℕ → List Taken → List Happened
happened_by n [] = []
happened_by n (t ∷ ts) = map (happened_at n) t.effects ++ happened_by n ts

posted_more : (n : ℕ) (nodes : List Node) (ts : List Taken) (t : Taken)
    → posted_by n nodes (ts ++ t ∷ []) ≡ posted_by n nodes ts ++ map (posted_at n nodes) t.posts
posted_more n nodes [] t = append-nil (map (posted_at n nodes) t.posts)
posted_more n nodes (u ∷ us) t =
    ap (λ ps. map (posted_at n nodes) u.posts ++ ps) (posted_more n nodes us t)
    ∙ sym (append_assoc (map (posted_at n nodes) u.posts) (posted_by n nodes us) (map (posted_at n nodes) t.posts))

happened_more : (n : ℕ) (ts : List Taken) (t : Taken) → happened_by n (ts ++ t ∷ []) ≡ happened_by n ts ++ map (happened_at n) t.effects
happened_more n [] t = append-nil (map (happened_at n) t.effects)
happened_more n (u ∷ us) t =
    ap (λ es. map (happened_at n) u.effects ++ es) (happened_more n us t)
    ∙ sym (append_assoc (map (happened_at n) u.effects) (happened_by n us) (map (happened_at n) t.effects))

abbrev pub noted : List Record → Node → Node
noted journal x = record x { journal = journal }

-- what a world keeps of its steps beside what its scene shows: the registrations that were accepted, and the trace
pub record Kept : Type 0 where
  pub accepted : List Accepted
  pub trace : List Traced

-- a turn of the node in a world, as far as the walk came
abbrev pub shown : ℕ → World → Node → Kept → Walk → Turning
shown n w x k v = record {
  world = record {
    nodes = put_nth n (noted v.journal x) w.nodes;
    posted = w.posted ++ posted_by n w.nodes v.taken;
    accepted = k.accepted;
    happened = w.happened ++ happened_by n v.taken;
  };
  book = v.book;
  fates = v.luck.fates;
  until = v.luck.until;
  trace = k.trace;
}

-- the trace says what the steps gave
abbrev pub Tells : Kept → Walk → Type 0
Tells k v = map taken_of k.trace ≡ v.taken

abbrev pub Unrecorded : Type 0
Unrecorded = (b : Book) (now : ℕ) (item : Item) → (plan b (events.Due item) now).entry ≡ None

abbrev pub at_move : ℕ → World → Move → Scene
at_move n w m = record {
  nodes = put_nth n m.node w.nodes;
  posted = w.posted ++ posted_by n w.nodes m.moved.taken;
  happened = (w.happened ++ happened_by n m.moved.taken) ++ map (happened_at n) m.moved.lost;
}

module _ (n : ℕ) (w : World) (x : Node) (there : nth n w.nodes ≡ Some x) where
  -- a turn is shown by a walk
  abbrev Becomes : Turning → Walk → Type 0
  Becomes r v = (k : Kept) × (r ≡ shown n w x k v) × Tells k v

  abbrev nodes_of : Walk → List Node
  nodes_of v = put_nth n (noted v.journal x) w.nodes

  abbrev with_step : Kept → Walk → Outcome → Kept
  with_step k v o = record {
    accepted = k.accepted ++ accepted_in n (nodes_of v) v.book o.book.transactions;
    trace = k.trace ++ traced o (shown n w x k v) ∷ [];
  }

  tells_more : (k : Kept) (v : Walk) (o : Outcome) → Tells k v → Tells (with_step k v o) (counted o v)
  tells_more k v o h =
      map-append taken_of k.trace (traced o (shown n w x k v) ∷ []) ∙ ap (λ ts. ts ++ (sends (outs_of o) v.luck).taken ∷ []) h

  abbrev amid_of : Kept → Walk → Outcome → Amid
  amid_of k v o = record {
    nodes = nodes_of v;
    posted = w.posted ++ posted_by n w.nodes v.taken;
    accepted = (with_step k v o).accepted;
    happened = (w.happened ++ happened_by n v.taken) ++ map (happened_at n) o.effects;
    book = o.book;
    trace = (with_step k v o).trace;
  }

  all_posted : (v : Walk) (t : Taken)
      → (w.posted ++ posted_by n w.nodes v.taken) ++ map (posted_at n (nodes_of v)) t.posts ≡ w.posted ++ posted_by n w.nodes (v.taken ++ t ∷ [])
  all_posted v t =
      ap (λ ps. (w.posted ++ posted_by n w.nodes v.taken) ++ ps) (posts_put n n w.nodes x (noted v.journal x) t.posts refl there)
      ∙ append_assoc w.posted (posted_by n w.nodes v.taken) (map (posted_at n w.nodes) t.posts)
      ∙ ap (λ ps. w.posted ++ ps) (sym (posted_more n w.nodes v.taken t))

  all_happened : (v : Walk) (o : Outcome) (t : Taken) → t.effects ≡ o.effects
      → (w.happened ++ happened_by n v.taken) ++ map (happened_at n) o.effects ≡ w.happened ++ happened_by n (v.taken ++ t ∷ [])
  all_happened v o t e =
      ap (λ es. (w.happened ++ happened_by n v.taken) ++ map (happened_at n) es) (sym e)
      ∙ append_assoc w.happened (happened_by n v.taken) (map (happened_at n) t.effects)
      ∙ ap (λ es. w.happened ++ es) (sym (happened_more n v.taken t))

  counted_end : (k : Kept) (v : Walk) (o : Outcome) (s : Sending) → s.taken.effects ≡ o.effects
      → amid n (amid_of k v o) s
      ≡ shown n w x (with_step k v o) (record v { book = o.book; luck = s.luck; taken = v.taken ++ s.taken ∷ [] })
  counted_end k v o s e = λ i. record {
    world = record {
      nodes = nodes_of v;
      posted = all_posted v s.taken i;
      accepted = (with_step k v o).accepted;
      happened = all_happened v o s.taken e i;
    };
    book = o.book;
    fates = s.luck.fates;
    until = s.luck.until;
    trace = (with_step k v o).trace;
  }

  counted_begin : (k : Kept) (v : Walk) (o : Outcome)
      → record (shown n w x k v) {
        book = o.book;
        trace = (with_step k v o).trace;
        world = record (shown n w x k v).world {
          accepted = (with_step k v o).accepted;
          happened = (w.happened ++ happened_by n v.taken) ++ map (happened_at n) o.effects;
        };
      }
      ≡ amid n (amid_of k v o) (sending (outs_of o) v.luck)
  counted_begin k v o = λ i. record {
    world = record {
      nodes = nodes_of v;
      posted = sym (append-nil (w.posted ++ posted_by n w.nodes v.taken)) i;
      accepted = (with_step k v o).accepted;
      happened = (w.happened ++ happened_by n v.taken) ++ map (happened_at n) o.effects;
    };
    book = o.book;
    fates = v.luck.fates;
    until = v.luck.until;
    trace = (with_step k v o).trace;
  }

  counted_on : (k : Kept) (v : Walk) (o : Outcome) → Tells k v → Becomes (counted_there n o (shown n w x k v)) (counted o v)
  counted_on k v o h = (
    with_step k v o,
    ap (send_all n o.outs) (counted_begin k v o)
        ∙ whole_sent n (amid_of k v o) (outs_of o) v.luck
        ∙ counted_end k v o (sends (outs_of o) v.luck) (sent_effects (outs_of o) v.luck),
    tells_more k v o h,
  )

  -- a record that landed
  abbrev landed : Record → Walk → Walk
  landed entry v = record v { luck = used v.luck; journal = v.journal ++ entry ∷ [] }

  landed_on : (k : Kept) (entry : Record) (v : Walk)
      → record (after_fate (shown n w x k v)) { world = with_record n entry (shown n w x k v).world (nth n (nodes_of v)) }
      ≡ shown n w x k (landed entry v)
  landed_on k entry v =
      ap (λ o. record (after_fate (shown n w x k v)) { world = with_record n entry (shown n w x k v).world o })
      (nth_put n w.nodes x (noted v.journal x) there)
      ∙ ap (λ nodes. record (shown n w x k (landed entry v)) { world = record (shown n w x k (landed entry v)).world { nodes = nodes } })
      (put_put n w.nodes (noted v.journal x) (noted (v.journal ++ entry ∷ []) x))

  landed_becomes : (k : Kept) (entry : Record) (p : Plan) (v : Walk) → Tells k v
      → Becomes (landed_step n entry p (shown n w x k v)) (counted p.landed (landed entry v))
  landed_becomes k entry p v h =
      let (more, f, tells) = counted_on k (landed entry v) p.landed h in
      (more, ap (counted_there n p.landed) (landed_on k entry v) ∙ f, tells)

  absent_becomes : (k : Kept) (p : Plan) (v : Walk) (b : Bool) → Tells k v
      → Becomes (if b then after_fate (shown n w x k v) else counted_there n p.absent (after_fate (shown n w x k v)))
      (counted_by (if b then None else Some false) p (record v { luck = used v.luck }))
  absent_becomes k p v true h = (k, refl, h)
  absent_becomes k p v false h = counted_on k (record v { luck = used v.luck }) p.absent h

  fate_becomes : (k : Kept) (entry : Record) (p : Plan) (v : Walk) (f : Bool) → Tells k v
      → Becomes (if f then landed_step n entry p (shown n w x k v) else absent_step n p (shown n w x k v))
      (counted_by (if f then Some true else (if is_over (used v.luck) then None else Some false)) p
      (record v { luck = used v.luck; journal = if f then v.journal ++ entry ∷ [] else v.journal }))
  fate_becomes k entry p v true h = landed_becomes k entry p v h
  fate_becomes k entry p v false h = absent_becomes k p v (is_over (used v.luck)) h

  entry_on : (k : Kept) (entry : Option Record) (p : Plan) (v : Walk) → Tells k v
      → Becomes (step_by n entry p (shown n w x k v)) (counted_by (branch entry v.luck) p (recorded entry v))
  entry_on k None p v h = counted_on k v p.landed h
  entry_on k (Some entry) p v h = fate_becomes k entry p v (fate v.luck.fates) h

  pub stepped_on : (k : Kept) (p : Plan) (v : Walk) → Tells k v → Becomes (take_step n p (shown n w x k v)) (stepped p v)
  stepped_on k p v h = at (is_over v.luck)
    where
      at : (b : Bool)
          → Becomes (if b then shown n w x k v else step_by n p.entry p (shown n w x k v))
          (if b then v else counted_by (branch p.entry v.luck) p (recorded p.entry v))
      at true = (k, refl, h)
      at false = entry_on k p.entry p v h

  -- the steps of the items that are due
  abbrev Asks : ℕ → List Item → Type 0
  Asks now items = (k : Kept) (v : Walk) → Tells k v → Becomes (due_steps n now items (shown n w x k v)) (counted_all (due_outcomes now items v.book) v)

  over_becomes : (now : ℕ) (item : Item) (rest : List Item) → Asks now rest → (k : Kept) (v : Walk) → Tells k v → is_over v.luck ≡ true
      → Becomes (due_steps n now rest (shown n w x k v)) (counted_all (due_outcomes now rest (due_outcome v.book now item).book) v)
  over_becomes now item rest again k v h e =
      let (more, f, tells) = again k v h in
      let same : counted_all (due_outcomes now rest v.book) v ≡ counted_all (due_outcomes now rest (due_outcome v.book now item).book) v =
      over_stays (due_outcomes now rest v.book) v e ∙ sym (over_stays (due_outcomes now rest (due_outcome v.book now item).book) v e) in
      (more, f ∙ ap (shown n w x more) same, subst (Tells more) same tells)

  goes_becomes : Unrecorded → (now : ℕ) (item : Item) (rest : List Item) → Asks now rest → (k : Kept) (v : Walk) → Tells k v
      → Becomes (due_steps n now rest (step_by n (plan v.book (events.Due item) now).entry (plan v.book (events.Due item) now) (shown n w x k v)))
      (counted_all (due_outcomes now rest (due_outcome v.book now item).book) (counted (due_outcome v.book now item) v))
  goes_becomes none now item rest again k v h =
      let (more, f, tells) = counted_on k v (due_outcome v.book now item) h in
      let (last, g, told) = again more (counted (due_outcome v.book now item) v) tells in (
        last,
        ap (λ e. due_steps n now rest (step_by n e (plan v.book (events.Due item) now) (shown n w x k v))) (none v.book now item)
            ∙ ap (due_steps n now rest) f
            ∙ g,
        told,
      )

  stop_becomes : Unrecorded → (now : ℕ) (item : Item) (rest : List Item) → Asks now rest → (k : Kept) (v : Walk) (b : Bool) → Tells k v → is_over v.luck ≡ b
      → Becomes
      (due_steps n now rest (if b then shown n w x k v else step_by n (plan v.book (events.Due item) now).entry (plan v.book (events.Due item) now) (shown n w x k v)))
      (counted_all (due_outcomes now rest (due_outcome v.book now item).book) (if b then v else counted (due_outcome v.book now item) v))
  stop_becomes none now item rest again k v true h e = over_becomes now item rest again k v h e
  stop_becomes none now item rest again k v false h e = goes_becomes none now item rest again k v h

  due_becomes : Unrecorded → (now : ℕ) (item : Item) (rest : List Item) → Asks now rest → (k : Kept) (v : Walk) (t : Bool) → Tells k v
      → Becomes (due_steps n now rest (if t then take_step n (plan v.book (events.Due item) now) (shown n w x k v) else shown n w x k v))
      (counted_all (if t then due_outcome v.book now item ∷ due_outcomes now rest (due_outcome v.book now item).book else due_outcomes now rest v.book) v)
  due_becomes none now item rest again k v true h = stop_becomes none now item rest again k v (is_over v.luck) h refl
  due_becomes none now item rest again k v false h = again k v h

  pub due_on : Unrecorded → (now : ℕ) (items : List Item) → Asks now items
  due_on none now [] k v h = (k, refl, h)
  due_on none now (item ∷ rest) k v h = due_becomes none now item rest (due_on none now rest) k v (is_due v.book now item) h

  -- the end of a turn
  ended_on : LosesAsTheModel → (k : Kept) (v : Walk) → seen (turned_there n (shown n w x k v)) ≡ at_move n w (ended x v)
  ended_on loses k v = at (is_over v.luck)
    where
      r : Turning
      r = shown n w x k v

      z : Node
      z = noted v.journal x

      placed : (book : Option Book) → put_nth n (record z { book = book }) (nodes_of v) ≡ put_nth n (record x { book = book; journal = v.journal }) w.nodes
      placed book = put_put n w.nodes z (record z { book = book })

      down : Move
      down = record { node = record x { book = None; journal = v.journal }; moved = record { taken = v.taken; lost = lost_of v.book; left = v.luck } }

      stays : Move
      stays = record { node = record x { book = Some v.book; journal = v.journal }; moved = record { taken = v.taken; lost = []; left = v.luck } }

      at : (b : Bool)
          → seen (if b then goes_down n v.book r.world else put_book n (Some v.book) r.world (nth n (nodes_of v)))
          ≡ at_move n w (if b then down else stays)
      at true =
          ap (λ o. seen (put_book n None (record r.world { happened = r.world.happened ++ lost_in n v.book }) o)) (nth_put n w.nodes x z there)
          ∙ (λ i. record {
            nodes = placed None i;
            posted = w.posted ++ posted_by n w.nodes v.taken;
            happened = (w.happened ++ happened_by n v.taken) ++ sym (loses n v.book) i;
          })
      at false =
          ap (λ o. seen (put_book n (Some v.book) r.world o)) (nth_put n w.nodes x z there)
          ∙ (λ i. record {
            nodes = placed (Some v.book) i;
            posted = w.posted ++ posted_by n w.nodes v.taken;
            happened = sym (append-nil (w.happened ++ happened_by n v.taken)) i;
          })

  -- the beginning
  abbrev nothing_yet : Kept
  nothing_yet = record { accepted = w.accepted; trace = [] }

  begun_on : (b : Book) (fates : List Bool) (until : Option ℕ)
      → turn_from w b fates until ≡ shown n w x nothing_yet (begin b x.journal (record { fates = fates; until = until }))
  begun_on b fates until = λ i. record {
    world = record {
      nodes = sym (put_same n w.nodes x there) i;
      posted = sym (append-nil w.posted) i;
      accepted = w.accepted;
      happened = sym (append-nil w.happened) i;
    };
    book = b;
    fates = fates;
    until = until;
    trace = [];
  }

  -- a whole turn, and one step alone
  turn_becomes : Unrecorded → (now : ℕ) (p : Plan) (b : Book) (fates : List Bool) (until : Option ℕ)
      → Becomes (walked n now p (turn_from w b fates until)) (turned now p (begin b x.journal (record { fates = fates; until = until })))
  turn_becomes none now p b fates until =
      let v : Walk = begin b x.journal (record { fates = fates; until = until }) in
      let (more, f, tells) = stepped_on nothing_yet p v refl in
      let (last, g, told) = due_on none now (items_of (stepped p v).book) more (stepped p v) tells in
      (last, ap (walked n now p) (begun_on b fates until) ∙ ap (after_input n now) f ∙ g, told)

  step_becomes : (p : Plan) (b : Book) (fates : List Bool) (until : Option ℕ)
      → Becomes (take_step n p (turn_from w b fates until)) (stepped p (begin b x.journal (record { fates = fates; until = until })))
  step_becomes p b fates until =
      let (more, f, tells) = stepped_on nothing_yet p (begin b x.journal (record { fates = fates; until = until })) refl in
      (more, ap (take_step n p) (begun_on b fates until) ∙ f, tells)

  -- what the trace says
  told_by : (r : Turning) (v : Walk) → Becomes r v → map taken_of r.trace ≡ v.taken
  told_by r v (k, f, tells) = ap (λ (t : Turning). map taken_of t.trace) f ∙ tells

  pub turn_told : Unrecorded → (now : ℕ) (p : Plan) (b : Book) (fates : List Bool) (until : Option ℕ)
      → map taken_of (walked n now p (turn_from w b fates until)).trace
      ≡ (turned now p (begin b x.journal (record { fates = fates; until = until }))).taken
  turn_told none now p b fates until =
      told_by (walked n now p (turn_from w b fates until)) (turned now p (begin b x.journal (record { fates = fates; until = until })))
      (turn_becomes none now p b fates until)

  pub step_told : (p : Plan) (b : Book) (fates : List Bool) (until : Option ℕ)
      → map taken_of (take_step n p (turn_from w b fates until)).trace
      ≡ (stepped p (begin b x.journal (record { fates = fates; until = until }))).taken
  step_told p b fates until =
      told_by (take_step n p (turn_from w b fates until)) (stepped p (begin b x.journal (record { fates = fates; until = until })))
      (step_becomes p b fates until)

  pub turned_on : Unrecorded → LosesAsTheModel → (now : ℕ) (p : Plan) (b : Book) (fates : List Bool) (until : Option ℕ)
      → seen (take_turn n now p (turn_from w b fates until))
      ≡ at_move n w (ended x (turned now p (begin b x.journal (record { fates = fates; until = until }))))
  turned_on none loses now p b fates until =
      let (last, g, told) = turn_becomes none now p b fates until in
      ap (λ r. seen (turned_there n r)) g
      ∙ ended_on loses last (turned now p (begin b x.journal (record { fates = fates; until = until })))

  pub asked_on : LosesAsTheModel → (p : Plan) (b : Book) (fates : List Bool) (until : Option ℕ)
      → seen (turned_there n (take_step n p (turn_from w b fates until)))
      ≡ at_move n w (ended x (stepped p (begin b x.journal (record { fates = fates; until = until }))))
  asked_on loses p b fates until =
      let (more, f, tells) = step_becomes p b fates until in
      ap (λ r. seen (turned_there n r)) f
      ∙ ended_on loses more (stepped p (begin b x.journal (record { fates = fates; until = until })))
