-- What the steps of a turn accept, by the books that it comes through.
use Rattle.std.specs.Prelude.{ℕ, List, [], ◌∷◌, ◌++◌, ◌+◌, ◌≡◌, ◌⊎◌, Option, Some, None, Bool, true, false, if◌then◌else◌, drop, length, map, refl}
use Rattle.std.proofs.Common.{inl, inr, sym, subst, ap, arith, ◌∙◌}
use Rattle.std.proofs.lemmas.List.{append-nil, append_assoc, length-append, length-map}
use Rattle.at_base.specs.Numbers.{Numbers}
use Rattle.at_base.specs.declared.epr.Epr.{Epr}
use Rattle.at_base.specs.declared.event.Event.TheVariants as events
use Rattle.at_base.specs.declared.event.Item.{Item}
use Rattle.at_base.specs.declared.outs.Out.{Out}
use Rattle.at_base.specs.declared.outs.Out.TheVariants as outs
use Rattle.at_base.specs.declared.record.Record.{Record}
use Rattle.at_model.specs.Book.{Book, Completion, Enlistment, Transaction}
use Rattle.at_model.specs.Step.{Outcome, Plan, is_due, items_of, plan, transaction_at}
use Rattle.at_model.specs.World.{Accepted, Node, Turning, World, accepted_by, accepted_completion, accepted_in, accepted_seat, absent_step, after_fate, counted, due_steps, fate, goes_down, is_stopped, landed_step, lost_in, nth, place_of, put_book, send_all, sent, step_by, take_step, take_turn, traced, turn_from, turned, walked, who_at, who_of, with_record}
use Rattle.fated_walks.specs.Fated.{AreFirstDue, AreUnrecorded, Fated, IsPlanned, StartsWith, all_fates, record_fates, went_of}
use Rattle.interposition.specs.Due.{due_outcome, due_outcomes}
use Rattle.model_laws.proofs.Addresses.{HaveBases}
use Rattle.model_laws.proofs.Nodes.{accepted_same, bases_put}
use Rattle.model_laws.proofs.Order.{ids_rise}
use Rattle.node_worlds.proofs.TurnLeads.{same_first, same_rest}

-- the registrations of a row of steps, each by the book before it and behind it
abbrev pub accepted_by_all : ℕ → List Node → Book → List Outcome → List Accepted
accepted_by_all n nodes b [] = []
accepted_by_all n nodes b (o ∷ os) = accepted_in n nodes b o.book.transactions ++ accepted_by_all n nodes o.book os

abbrev last_book : Book → List Outcome → Book
last_book b [] = b
last_book b (o ∷ os) = last_book o.book os

all_more : (n : ℕ) (nodes : List Node) (b : Book) (os ps : List Outcome) → accepted_by_all n nodes b (os ++ ps)
    ≡ accepted_by_all n nodes b os ++ accepted_by_all n nodes (last_book b os) ps
all_more n nodes b [] ps = refl
all_more n nodes b (o ∷ os) ps =
    ap (λ z. accepted_in n nodes b o.book.transactions ++ z) (all_more n nodes o.book os ps)
    ∙ sym (append_assoc (accepted_in n nodes b o.book.transactions) (accepted_by_all n nodes o.book os) (accepted_by_all n nodes (last_book o.book os) ps))

last_more : (b : Book) (os ps : List Outcome) → last_book b (os ++ ps) ≡ last_book (last_book b os) ps
last_more b [] ps = refl
last_more b (o ∷ os) ps = last_more o.book os ps

-- A turn came on by these steps: it accepted what they did, each of them counted, and each node has its base.
record Came (n : ℕ) (nodes : List Node) (r s : Turning) (os : List Outcome) : Type 0 where
  accepted : s.world.accepted ≡ r.world.accepted ++ accepted_by_all n nodes r.book os
  bases : HaveBases s.world.nodes nodes
  book : s.book ≡ last_book r.book os
  count : length s.trace ≡ length r.trace + length os

came_stays : (n : ℕ) (nodes : List Node) (r s : Turning) → s.world.accepted ≡ r.world.accepted → HaveBases s.world.nodes nodes → s.book ≡ r.book → s.trace ≡ r.trace
    → Came n nodes r s []
came_stays n nodes r s same bases book trace = record {
  accepted = same ∙ sym (append-nil r.world.accepted);
  bases = bases;
  book = book;
  count = let long = ap length trace in omega (arith, long);
}

came_none : (n : ℕ) (nodes : List Node) (r : Turning) → HaveBases r.world.nodes nodes → Came n nodes r r []
came_none n nodes r bases = came_stays n nodes r r refl bases refl refl

came_then : (n : ℕ) (nodes : List Node) (r s t : Turning) (os ps : List Outcome) → Came n nodes r s os → Came n nodes s t ps → Came n nodes r t (os ++ ps)
came_then n nodes r s t os ps h k = record {
  accepted = k.accepted ∙ (λ j. h.accepted j ++ accepted_by_all n nodes (h.book j) ps)
      ∙ append_assoc r.world.accepted (accepted_by_all n nodes r.book os) (accepted_by_all n nodes (last_book r.book os) ps)
      ∙ ap (λ z. r.world.accepted ++ z) (sym (all_more n nodes r.book os ps));
  bases = k.bases;
  book = k.book ∙ ap (λ b. last_book b ps) h.book ∙ sym (last_more r.book os ps);
  count =
      let a = h.count in
      let b = k.count in
      let c = length-append os ps in
      omega (arith, a, b, c);
}

-- what is sent accepts nothing
record Sends (r s : Turning) : Type 0 where
  accepted : s.world.accepted ≡ r.world.accepted
  nodes : s.world.nodes ≡ r.world.nodes
  book : s.book ≡ r.book
  trace : s.trace ≡ r.trace

sent_accepted : (n : ℕ) (f : Bool) (out : Out) (w : World) → (sent n f out w).accepted ≡ w.accepted
sent_accepted n true (outs.Post p) w = refl
sent_accepted n true (outs.Answer status reply) w = refl
sent_accepted n false out w = refl

sent_nodes : (n : ℕ) (f : Bool) (out : Out) (w : World) → (sent n f out w).nodes ≡ w.nodes
sent_nodes n true (outs.Post p) w = refl
sent_nodes n true (outs.Answer status reply) w = refl
sent_nodes n false out w = refl

sends_all : (n : ℕ) (os : List Out) (r : Turning) → Sends r (send_all n os r)
sends_all n [] r = record { accepted = refl; nodes = refl; book = refl; trace = refl }
sends_all n (out ∷ rest) r = by_stop (sends_all n rest (record (after_fate r) { world = sent n (fate r.fates) out r.world })) (is_stopped r)
  where
    next : Turning
    next = record (after_fate r) { world = sent n (fate r.fates) out r.world }

    by_stop : Sends next (send_all n rest next) → (c : Bool) → Sends r (if c then r else send_all n rest next)
    by_stop more true = record { accepted = refl; nodes = refl; book = refl; trace = refl }
    by_stop more false = record {
      accepted = more.accepted ∙ sent_accepted n (fate r.fates) out r.world;
      nodes = more.nodes ∙ sent_nodes n (fate r.fates) out r.world;
      book = more.book;
      trace = more.trace;
    }

-- a step that counts
abbrev with_step : ℕ → Outcome → Turning → Turning
with_step n o r = record r {
  book = o.book;
  trace = r.trace ++ traced o r ∷ [];
  world = record r.world {
    accepted = r.world.accepted ++ accepted_in n r.world.nodes r.book o.book.transactions;
    happened = r.world.happened ++ map (λ e. record { node = n; what = e }) o.effects;
  };
}

counted_came : (n : ℕ) (nodes : List Node) (o : Outcome) (r : Turning) → HaveBases r.world.nodes nodes → Came n nodes r (counted n o r) (o ∷ [])
counted_came n nodes o r bases =
    let sends : Sends (with_step n o r) (counted n o r) = sends_all n o.outs (with_step n o r) in
    record {
      accepted = sends.accepted
          ∙ ap (λ z. r.world.accepted ++ z) (accepted_same n r.world.nodes nodes r.book o.book.transactions bases ∙ sym (append-nil (accepted_in n nodes r.book o.book.transactions)));
      bases = subst (λ xs. HaveBases xs nodes) (sym sends.nodes) bases;
      book = sends.book;
      count = ap length sends.trace ∙ length-append r.trace (traced o r ∷ []);
    }

record_accepted : (n : ℕ) (entry : Record) (w : World) (o : Option Node) → (with_record n entry w o).accepted ≡ w.accepted
record_accepted n entry w None = refl
record_accepted n entry w (Some x) = refl

record_bases : (n : ℕ) (entry : Record) (nodes : List Node) (w : World) (o : Option Node) → nth n w.nodes ≡ o → HaveBases w.nodes nodes → HaveBases (with_record n entry w o).nodes nodes
record_bases n entry nodes w None e bases = bases
record_bases n entry nodes w (Some x) e bases = bases_put w.nodes nodes n x (record x { journal = x.journal ++ entry ∷ [] }) e refl bases

-- what a plan comes to with these fates
abbrev first_by : Option Record → Plan → Bool → Outcome
first_by None p f = p.landed
first_by (Some entry) p f = if f then p.landed else p.absent

abbrev pub first_of : Plan → List Bool → Outcome
first_of p fates = first_by p.entry p (fate fates)

-- It counts, or it is undone and its node stops.
abbrev TookStep : ℕ → List Node → Turning → Turning → Outcome → Type 0
TookStep n nodes r s o = (Came n nodes r s [] × (is_stopped s ≡ true)) ⊎ Came n nodes r s (o ∷ [])

took_step : (n : ℕ) (nodes : List Node) (p : Plan) (r : Turning) → HaveBases r.world.nodes nodes → TookStep n nodes r (take_step n p r) (first_of p r.fates)
took_step n nodes p r bases = by_stop (is_stopped r) refl
  where
    used : Came n nodes r (after_fate r) []
    used = came_stays n nodes r (after_fate r) refl bases refl refl

    by_absent : (c : Bool) → is_stopped (after_fate r) ≡ c → TookStep n nodes r (if c then after_fate r else counted n p.absent (after_fate r)) p.absent
    by_absent true e = inl (used, e)
    by_absent false e = inr (came_then n nodes r (after_fate r) (counted n p.absent (after_fate r)) [] (p.absent ∷ []) used (counted_came n nodes p.absent (after_fate r) bases))

    by_fate : (entry : Record) (f : Bool) → TookStep n nodes r (if f then landed_step n entry p r else absent_step n p r) (if f then p.landed else p.absent)
    by_fate entry true =
        let s : Turning = record (after_fate r) { world = with_record n entry r.world (nth n r.world.nodes) } in
        let there = record_bases n entry nodes r.world (nth n r.world.nodes) refl bases in
        inr (came_then n nodes r s (counted n p.landed s) [] (p.landed ∷ []) (came_stays n nodes r s (record_accepted n entry r.world (nth n r.world.nodes)) there refl refl)
        (counted_came n nodes p.landed s there))
    by_fate entry false = by_absent (is_stopped (after_fate r)) refl

    by_entry : (o : Option Record) → TookStep n nodes r (step_by n o p r) (first_by o p (fate r.fates))
    by_entry None = inr (counted_came n nodes p.landed r bases)
    by_entry (Some entry) = by_fate entry (fate r.fates)

    by_stop : (c : Bool) → is_stopped r ≡ c → TookStep n nodes r (if c then r else step_by n p.entry p r) (first_of p r.fates)
    by_stop true e = inl (came_none n nodes r bases, e)
    by_stop false e = by_entry p.entry

-- behind the stop nothing is due
due_stopped : (n now : ℕ) (items : List Item) (r : Turning) → is_stopped r ≡ true → due_steps n now items r ≡ r
due_stopped n now [] r e = refl
due_stopped n now (item ∷ rest) r e = by_due (due_stopped n now rest r e) (is_due r.book now item)
  where
    by_due : due_steps n now rest r ≡ r → (c : Bool) → due_steps n now rest (if c then take_step n (plan r.book (events.Due item) now) r else r) ≡ r
    by_due more true =
        ap (λ (b : Bool). due_steps n now rest (if b then r else step_by n (plan r.book (events.Due item) now).entry (plan r.book (events.Due item) now) r)) e
        ∙ more
    by_due more false = more

-- the first of the items that are due
record DueCame (n now : ℕ) (nodes : List Node) (all : List Outcome) (r s : Turning) : Type 0 where
  done : List Outcome
  left : List Outcome
  of : done ++ left ≡ all
  came : Came n nodes r s done

due_first : (b : Book) (now : ℕ) (item : Item) (fates : List Bool) → first_of (plan b (events.Due item) now) fates ≡ due_outcome b now item
due_first b now item fates = ap (λ o. first_by o (plan b (events.Due item) now) (fate fates)) (ids_rise.unrecorded b now item)

-- so it is of these items, wherever a turn stands
abbrev ComesThrough : ℕ → ℕ → List Node → List Item → Type 0
ComesThrough n now nodes items = (s : Turning) → HaveBases s.world.nodes nodes → DueCame n now nodes (due_outcomes now items s.book) s (due_steps n now items s)

due_came : (n now : ℕ) (nodes : List Node) (items : List Item) (r : Turning) → HaveBases r.world.nodes nodes → DueCame n now nodes (due_outcomes now items r.book) r
    (due_steps n now items r)
due_came n now nodes [] r bases = record { done = []; left = []; of = refl; came = came_none n nodes r bases }
due_came n now nodes (item ∷ rest) r bases = by_due (λ s h. due_came n now nodes rest s h) (is_due r.book now item)
  where
    o : Outcome
    o = due_outcome r.book now item

    next : Turning
    next = take_step n (plan r.book (events.Due item) now) r

    by_took : ComesThrough n now nodes rest → TookStep n nodes r next (first_of (plan r.book (events.Due item) now) r.fates)
        → DueCame n now nodes (o ∷ due_outcomes now rest o.book) r (due_steps n now rest next)
    by_took again (inl (came, stopped)) = record {
      done = [];
      left = o ∷ due_outcomes now rest o.book;
      of = refl;
      came = subst (λ s. Came n nodes r s []) (sym (due_stopped n now rest next stopped)) came;
    }
    by_took again (inr came) =
        let h : Came n nodes r next (o ∷ []) = subst (λ z. Came n nodes r next (z ∷ [])) (due_first r.book now item r.fates) came in
        let more = again next h.bases in
        record {
          done = o ∷ more.done;
          left = more.left;
          of = ap (λ z. o ∷ z) (more.of ∙ ap (due_outcomes now rest) h.book);
          came = came_then n nodes r next (due_steps n now rest next) (o ∷ []) more.done h more.came;
        }

    by_due : ComesThrough n now nodes rest → (c : Bool) → DueCame n now nodes (if c then o ∷ due_outcomes now rest o.book else due_outcomes now rest r.book) r
        (due_steps n now rest (if c then next else r))
    by_due again true = by_took again (took_step n nodes (plan r.book (events.Due item) now) r bases)
    by_due again false = again r bases

-- the end of a turn
put_accepted : (n : ℕ) (b : Option Book) (w : World) (o : Option Node) → (put_book n b w o).accepted ≡ w.accepted
put_accepted n b w None = refl
put_accepted n b w (Some x) = refl

pub down_accepted : (n : ℕ) (b : Book) (w : World) → (goes_down n b w).accepted ≡ w.accepted
down_accepted n b w = put_accepted n None (record w { happened = w.happened ++ lost_in n b }) (nth n w.nodes)

turned_accepted : (n : ℕ) (r : Turning) → (turned n r).accepted ≡ r.world.accepted
turned_accepted n r = by_stop (is_stopped r)
  where
    by_stop : (c : Bool) → (if c then goes_down n r.book r.world else put_book n (Some r.book) r.world (nth n r.world.nodes)).accepted ≡ r.world.accepted
    by_stop true = down_accepted n r.book r.world
    by_stop false = put_accepted n (Some r.book) r.world (nth n r.world.nodes)

-- of two beginnings of one list, those that are as long are the same
fronts : {A : Type 0} (xs ys us vs : List A) → xs ++ us ≡ ys ++ vs → length xs ≡ length ys → xs ≡ ys
fronts [] [] us vs e g = refl
fronts [] (y ∷ ys) us vs e g = absurd (omega (arith, g))
fronts (x ∷ xs) [] us vs e g = absurd (omega (arith, g))
fronts (x ∷ xs) (y ∷ ys) us vs e g =
    λ j. same_first x y (xs ++ us) (ys ++ vs) e j ∷ fronts xs ys us vs (same_rest x y (xs ++ us) (ys ++ vs) e) (omega (arith, g)) j

abbrev pub outcomes_of : List Fated → List Outcome
outcomes_of fs = map (λ (f : Fated). f.outcome) fs

unrecorded_outcomes : (os : List Outcome) (fs : List Fated) → AreUnrecorded os fs → outcomes_of fs ≡ os
unrecorded_outcomes [] [] h = refl
unrecorded_outcomes [] (f ∷ fs) h = absurd h
unrecorded_outcomes (o ∷ os) [] h = absurd h
unrecorded_outcomes (o ∷ os) (f ∷ fs) (is, more) = λ j. is.outcome j ∷ unrecorded_outcomes os fs more j

-- Steps with these fates: the first is what the plan comes to, and the others are the first of the items that are due.
abbrev pub IsRow : ℕ → Plan → List Bool → List Fated → Type 0
IsRow now p fates [] = Unit {0}
IsRow now p fates (f ∷ fs) = (f.outcome ≡ first_of p fates) × ((left : List Outcome) × AreFirstDue now f.outcome.book left fs)

pub planned_first : (p : Plan) (f : Fated) (fs : List Fated) (all : List Bool) → IsPlanned p f → StartsWith (all_fates (f ∷ fs)) all → f.outcome ≡ first_of p all
planned_first p f fs all h starts = by_entry f.entry refl starts ∙ ap (λ o. first_by o p (fate all)) h.entry
  where
    by_entry : (o : Option Record) → f.entry ≡ o → StartsWith ((record_fates o f.landed ++ map went_of f.ways) ++ all_fates fs) all → f.outcome ≡ first_by o p (fate all)
    by_entry None e s = h.outcome ∙ ap (λ c. if c then p.landed else p.absent) (h.sure e)
    by_entry (Some entry) e s = h.outcome ∙ ap (λ c. if c then p.landed else p.absent) (sym s.0)

module _ (n now : ℕ) (nodes : List Node) (p : Plan) where
  -- a turn came on by as many steps as these, and so by these
  walk_came : (r : Turning) (fs : List Fated) → HaveBases r.world.nodes nodes → r.trace ≡ [] → IsRow now p r.fates fs → length (walked n now p r).trace ≡ length fs
      → Came n nodes r (walked n now p r) (outcomes_of fs)
  walk_came r fs bases fresh row count = by_took (took_step n nodes p r bases)
    where
      next : Turning
      next = take_step n p r

      begun : length r.trace ≡ 0
      begun = ap length fresh

      by_none : Came n nodes r next [] → is_stopped next ≡ true → (gs : List Fated) → length (walked n now p r).trace ≡ length gs → Came n nodes r (walked n now p r) (outcomes_of gs)
      by_none came stopped [] long = subst (λ s. Came n nodes r s []) (sym (due_stopped n now (items_of next.book) next stopped)) came
      by_none came stopped (g ∷ gs) long =
          let none = ap (λ (s : Turning). length s.trace) (due_stopped n now (items_of next.book) next stopped) in
          let short = came.count in
          absurd (omega (arith, none, short, long, begun))

      by_some : Came n nodes r next (first_of p r.fates ∷ []) → (gs : List Fated) → IsRow now p r.fates gs → length (walked n now p r).trace ≡ length gs
          → Came n nodes r (walked n now p r) (outcomes_of gs)
      by_some came [] so long =
          let more = due_came n now nodes (items_of next.book) next came.bases in
          let a = came.count in
          let b = more.came.count in
          absurd (omega (arith, a, b, long, begun))
      by_some came (g ∷ gs) (same, (left, due)) long =
          let more = due_came n now nodes (items_of next.book) next came.bases in
          let a = came.count in
          let b = more.came.count in
          let book : next.book ≡ g.outcome.book = came.book ∙ ap (λ (o : Outcome). o.book) (sym same) in
          let listed : outcomes_of gs ≡ due.done = unrecorded_outcomes due.done gs due.are in
          let counted = length-map gs (λ (f : Fated). f.outcome) in
          let as_long : length more.done ≡ length due.done = let c = ap length (sym listed) in omega (arith, a, b, c, counted, long, begun) in
          let steps : more.done ≡ outcomes_of gs = fronts more.done due.done more.left left
          (more.of ∙ ap (λ z. due_outcomes now (items_of z) z) book ∙ sym due.all) as_long ∙ sym listed in
          subst (Came n nodes r (walked n now p r)) (λ j. sym same j ∷ steps j) (came_then n nodes r next (walked n now p r) (first_of p r.fates ∷ []) more.done came more.came)

      by_took : TookStep n nodes r next (first_of p r.fates) → Came n nodes r (walked n now p r) (outcomes_of fs)
      by_took (inl (came, stopped)) = by_none came stopped fs count
      by_took (inr came) = by_some came fs row count

  pub turn_accepts : (v : World) (b : Book) (fates : List Bool) (until : Option ℕ) (fs : List Fated) → HaveBases v.nodes nodes → IsRow now p fates fs
      → length (walked n now p (turn_from v b fates until)).trace ≡ length fs
      → (take_turn n now p (turn_from v b fates until)).accepted ≡ v.accepted ++ accepted_by_all n nodes b (outcomes_of fs)
  turn_accepts v b fates until fs bases row count =
      turned_accepted n (walked n now p (turn_from v b fates until)) ∙ (walk_came (turn_from v b fates until) fs bases refl row count).accepted

-- the same of the one step of a request
pub ask_accepts : (n : ℕ) (nodes : List Node) (p : Plan) (v : World) (b : Book) (fates : List Bool) (until : Option ℕ) (os : List Outcome) → HaveBases v.nodes nodes
    → ((os ≡ []) ⊎ (os ≡ first_of p fates ∷ [])) → length (take_step n p (turn_from v b fates until)).trace ≡ length os
    → (turned n (take_step n p (turn_from v b fates until))).accepted ≡ v.accepted ++ accepted_by_all n nodes b os
ask_accepts n nodes p v b fates until os bases row count =
    turned_accepted n (take_step n p (turn_from v b fates until)) ∙ by_took (took_step n nodes p (turn_from v b fates until) bases) row
  where
    r : Turning
    r = turn_from v b fates until

    so : (ps : List Outcome) → os ≡ ps → Came n nodes r (take_step n p r) ps → (take_step n p r).world.accepted ≡ v.accepted ++ accepted_by_all n nodes b os
    so ps e came = came.accepted ∙ ap (λ z. v.accepted ++ accepted_by_all n nodes b z) (sym e)

    by_took : TookStep n nodes r (take_step n p r) (first_of p fates) → (os ≡ []) ⊎ (os ≡ first_of p fates ∷ [])
        → (take_step n p r).world.accepted ≡ v.accepted ++ accepted_by_all n nodes b os
    by_took (inl (came, stopped)) (inl e) = so [] e came
    by_took (inl (came, stopped)) (inr e) =
        let a = came.count in
        let b = ap length e in
        absurd (omega (arith, a, b, count))
    by_took (inr came) (inl e) =
        let a = came.count in
        let b = ap length e in
        absurd (omega (arith, a, b, count))
    by_took (inr came) (inr e) = so (first_of p fates ∷ []) e came

-- addresses that lead to the same places name the same participants
abbrev pub Reaches : List Node → List Node → Type 0
Reaches xs ys = (address : List ℕ) → place_of 1 xs address ≡ place_of 1 ys address

who_reached : (xs ys : List Node) → Reaches xs ys → (e : Epr) → who_of xs e ≡ who_of ys e
who_reached xs ys h e = ap who_at (h e.address)

seats_reached : (n : ℕ) (xs ys : List Node) (id : Numbers) (seats : List Enlistment) → Reaches xs ys → map (accepted_seat n xs id) seats ≡ map (accepted_seat n ys id) seats
seats_reached n xs ys id [] h = refl
seats_reached n xs ys id (s ∷ seats) h = λ j. record {
  transaction = record { node = n; id = id };
  seat = Some (record { number = s.number; kind = s.kind });
  participant = who_reached xs ys h s.participant j;
} ∷ seats_reached n xs ys id seats h j

completion_reached : (n : ℕ) (xs ys : List Node) (id : Numbers) (before behind : Option Completion) → Reaches xs ys
    → accepted_completion n xs id before behind ≡ accepted_completion n ys id before behind
completion_reached n xs ys id None None h = refl
completion_reached n xs ys id None (Some c) h = λ j. record { transaction = record { node = n; id = id }; seat = None; participant = who_reached xs ys h c.initiator j } ∷ []
completion_reached n xs ys id (Some c) None h = refl
completion_reached n xs ys id (Some c) (Some d) h = refl

by_reached : (n : ℕ) (xs ys : List Node) (before : Option Transaction) (t : Transaction) → Reaches xs ys → accepted_by n xs before t ≡ accepted_by n ys before t
by_reached n xs ys None t h = refl
by_reached n xs ys (Some before) t h = λ j.
    seats_reached n xs ys t.id (drop (length before.seats) t.seats) h j ++ completion_reached n xs ys t.id before.completion t.completion h j

in_reached : (n : ℕ) (xs ys : List Node) (b : Book) (ts : List Transaction) → Reaches xs ys → accepted_in n xs b ts ≡ accepted_in n ys b ts
in_reached n xs ys b [] h = refl
in_reached n xs ys b (t ∷ ts) h = λ j. by_reached n xs ys (transaction_at b t.id) t h j ++ in_reached n xs ys b ts h j

pub all_reached : (n : ℕ) (xs ys : List Node) (b : Book) (os : List Outcome) → Reaches xs ys → accepted_by_all n xs b os ≡ accepted_by_all n ys b os
all_reached n xs ys b [] h = refl
all_reached n xs ys b (o ∷ os) h = λ j. in_reached n xs ys b o.book.transactions h j ++ all_reached n xs ys o.book os h j
