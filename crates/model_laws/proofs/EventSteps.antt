-- An event of a world step by step: one step of what came to the node, and then steps of what is due.
use Rattle.std.specs.Prelude.{ℕ, List, [], ◌∷◌, ◌++◌, Option, Some, None, Bool, true, false, nat_eq, nat_lt, ◌&&◌, ◌+◌, ◌-◌, if◌then◌else◌, map, ◌≡◌, ◌<◌, refl}
use Rattle.std.specs.List.{AllByRecursion}
use Rattle.std.proofs.Common.{inl, inr, sym, subst, ap, ◌∙◌}
use Rattle.std.proofs.lemmas.Bool.{eqb-true, ltb-true}
use Rattle.std.proofs.lemmas.List.{append-nil}
use Rattle.at_base.specs.declared.record.Record.{Record}
use Rattle.at_base.specs.declared.event.Arrived.{Arrived}
use Rattle.at_base.specs.declared.event.Item.{Item}
use Rattle.at_base.specs.declared.event.Local.{Local}
use Rattle.at_base.specs.declared.event.Event.{Event}
use Rattle.at_base.specs.declared.event.Event.TheVariants as events
use Rattle.at_base.specs.declared.outs.Post.{Post}
use Rattle.at_base.specs.declared.outs.Out.{Out}
use Rattle.at_base.specs.declared.outs.Out.TheVariants as outs
use Rattle.at_model.specs.Book.{Book, last_counter}
use Rattle.at_model.specs.Recovery.{last_incarnation}
use Rattle.at_model.specs.Step.{Outcome, Plan, still, items_of, plan, is_due, step}
use Rattle.at_model.specs.World.{Node, Posted, World, WorldEvent, Turn, Ask, Crash, Up, Input, Deliver, Tick, Raw, Turning, nth, put_nth, with_post, decoded, is_stopped, fate, fates_left, one_nearer, after_fate, sent, send_all, accepted_in, happened_at, counted, with_record, landed_step, absent_step, step_by, take_step, due_step, due_steps, put_book, goes_down, lost_in, turned, turn_from, take_turn, ticked, later, answer_plan, arrival_plan, is_receiver, deliver, turn, ask, started, up_after, start, on_book, down_only, at_node, at_some_node, node_of, world_step, Traced, traced}
use Rattle.model_laws.specs.Agreement.{IsIn}
use Rattle.model_laws.specs.DrawnIds.{with_entry}
use Rattle.model_laws.specs.Order.{IsInOrder}
use Rattle.model_laws.specs.ReachedWorlds.{Heard, post_all, counts}
use Rattle.model_laws.proofs.StepRegistrations.{none_new}
use Rattle.model_laws.proofs.Nodes.{put_put, put_same, same_bases, bases_back, bases_put, receiver_same, accepted_same}
use Rattle.model_laws.proofs.DecisionLaws.{IfThere}
use Rattle.model_laws.proofs.NodeLives.{put_this}

-- a step that no message and no request brings: of an item that is due, or of a tick
abbrev pub IsTimed : Event → Type 0
IsTimed (events.Arrived a) = ⊥
IsTimed (events.Local l) = ⊥
IsTimed (events.Due item) = Unit {0}
IsTimed events.Tick = Unit {0}

pub timed_heard : (u : World) (n : ℕ) (x : Node) (e : Event) → IsTimed e → Heard u n x e
timed_heard u n x (events.Arrived a) timed = absurd timed
timed_heard u n x (events.Local l) timed = tt
timed_heard u n x (events.Due item) timed = tt
timed_heard u n x events.Tick timed = tt

-- what holds in the midst of an event, and is kept by the steps of time, and where the node goes down
pub record Lasting : Type 1 where
  pub Holds : World → Type 0
  pub order : (w : World) → Holds w → (n : ℕ) (x : Node) → nth n w.nodes ≡ Some x → IfThere IsInOrder x.book
  pub timed : (u : World) (n : ℕ) (x : Node) (b : Book) (e : Event) (now : ℕ) (landed : Bool) (ps : List Post) → Holds u → nth n u.nodes ≡ Some x
      → x.book ≡ Some b → IsTimed e
      → AllByRecursion (λ p. IsIn (outs.Post p) (step b e now landed).outs) ps → Holds (post_all n ps (counts u n x b e now landed))
  pub falls : (u : World) (n : ℕ) (x : Node) (b : Book) → Holds u → nth n u.nodes ≡ Some x → x.book ≡ Some b → Holds (goes_down n b u)
  pub waits : (u : World) (n : ℕ) (x : Node) (clock : ℕ) → Holds u → nth n u.nodes ≡ Some x
      → Holds (record u { nodes = put_nth n (record x { clock = clock }) u.nodes })

-- and what brings it about: nothing yet, a step of what came, or a start
pub record Begins (c : Lasting) (w : World) : Type 0 where
  pub rests : c.Holds w
  pub steps : (n : ℕ) (x : Node) (b : Book) (e : Event) (now : ℕ) (landed : Bool) (ps : List Post) → nth n w.nodes ≡ Some x → x.book ≡ Some b → Heard w n x e
      → AllByRecursion (λ p. IsIn (outs.Post p) (step b e now landed).outs) ps → c.Holds (post_all n ps (counts w n x b e now landed))
  pub rises : (n : ℕ) (x : Node) (stop : Bool) → nth n w.nodes ≡ Some x → x.book ≡ None → last_incarnation x.journal < last_counter
      → c.Holds (record w { nodes = put_nth n (up_after (started (last_incarnation x.journal + 1) x) stop) w.nodes })

-- the world of a turn, in which the node holds the book of the turn
abbrev newest : ℕ → Node → Turning → World
newest n x r = record r.world { nodes = put_nth n (record x { book = Some r.book }) r.world.nodes }

record Within (c : Lasting) (n : ℕ) (r : Turning) : Type 0 where
  node : Node
  found : nth n r.world.nodes ≡ Some node
  holds : c.Holds (newest n node r)

-- what a step of a turn comes to, its record landed or absent, and any of its posts sent
abbrev Leads : (c : Lasting) (n : ℕ) (r : Turning) (x : Node) (e : Event) (now : ℕ) → Type 0
Leads c n r x e now =
    (landed : Bool) (ps : List Post) → AllByRecursion (λ p. IsIn (outs.Post p) (step r.book e now landed).outs) ps
    → c.Holds (post_all n ps (counts (newest n x r) n (record x { book = Some r.book }) r.book e now landed))

-- what is sent
record Sends (n : ℕ) (os : List Out) (x : Node) (r t : Turning) : Type 0 where
  ps : List Post
  of : AllByRecursion (λ p. IsIn (outs.Post p) os) ps
  same : t.book ≡ r.book
  nodes : t.world.nodes ≡ r.world.nodes
  is : newest n x t ≡ post_all n ps (newest n x r)

more_of : (o : Out) (os : List Out) (ps : List Post) → AllByRecursion (λ p. IsIn (outs.Post p) os) ps → AllByRecursion (λ p. IsIn (outs.Post p) (o ∷ os)) ps
more_of o os [] h = tt
more_of o os (p ∷ ps) (h, k) = (inr h, more_of o os ps k)

posted_newest : (n : ℕ) (p : Post) (x : Node) (w : World) (b : Book) → nth n w.nodes ≡ Some x
    → record (with_post n p w) { nodes = put_nth n (record x { book = Some b }) w.nodes } ≡ with_post n p
    (record w { nodes = put_nth n (record x { book = Some b }) w.nodes })
posted_newest n p x w b found = λ i. record w {
  nodes = put_nth n (record x { book = Some b }) w.nodes;
  posted = w.posted ++ record {
    sender = n;
    receiver = sym (receiver_same (put_nth n (record x { book = Some b }) w.nodes) w.nodes p.to
        (bases_put w.nodes w.nodes n x (record x { book = Some b }) found refl (same_bases w.nodes))) i;
    content = p;
  } ∷ [];
}

sends_none : (n : ℕ) (o : Out) (os : List Out) (x : Node) (r t : Turning) → Sends n os x (after_fate r) t → Sends n (o ∷ os) x r t
sends_none n o os x r t h = record { ps = h.ps; of = more_of o os h.ps h.of; same = h.same; nodes = h.nodes; is = h.is }

sends_one : (n : ℕ) (p : Post) (os : List Out) (x : Node) (r t : Turning) → nth n r.world.nodes ≡ Some x
    → Sends n os x (record (after_fate r) { world = with_post n p r.world }) t
    → Sends n (outs.Post p ∷ os) x r t
sends_one n p os x r t found h = record {
  ps = p ∷ h.ps;
  of = (inl refl, more_of (outs.Post p) os h.ps h.of);
  same = h.same;
  nodes = h.nodes;
  is = h.is ∙ ap (post_all n h.ps) (posted_newest n p x r.world r.book found);
}

sends : (n : ℕ) (os : List Out) (x : Node) (r : Turning) → nth n r.world.nodes ≡ Some x → Sends n os x r (send_all n os r)
sends n [] x r found = record { ps = []; of = tt; same = refl; nodes = refl; is = refl }
sends n (o ∷ os) x r found = by_stop (λ t f. sends n os x t f) (is_stopped r) (fate r.fates) o
  where
    by_stop : ((t : Turning) → nth n t.world.nodes ≡ Some x → Sends n os x t (send_all n os t)) → (s f : Bool) (a : Out)
        → Sends n (a ∷ os) x r (if s then r else send_all n os (record (after_fate r) { world = sent n f a r.world }))
    by_stop rest true f a = record { ps = []; of = tt; same = refl; nodes = refl; is = refl }
    by_stop rest false true (outs.Post p) =
        sends_one n p os x r (send_all n os (record (after_fate r) { world = with_post n p r.world })) found (rest (record (after_fate r) { world = with_post n p r.world }) found)
    by_stop rest false true (outs.Answer status reply) =
        sends_none n (outs.Answer status reply) os x r (send_all n os (after_fate r)) (rest (after_fate r) found)
    by_stop rest false false a = sends_none n a os x r (send_all n os (after_fate r)) (rest (after_fate r) found)

-- A step that counts; its record, if any, stands in the journal.
counted_within : (c : Lasting) (n : ℕ) (r : Turning) (x : Node) (e : Event) (now : ℕ) (landed : Bool) (entry : Option Record) (o : Outcome)
    (fates : List Bool) (until : Option ℕ)
    (trace : List Traced) → nth n r.world.nodes ≡ Some x → Leads c n r x e now → (plan r.book e now).entry ≡ entry → step r.book e now landed ≡ o
    → Within c n (counted n o (record {
      world = record r.world { nodes = put_nth n (record x { journal = with_entry entry landed x.journal }) r.world.nodes };
      book = r.book;
      fates = fates;
      until = until;
      trace = trace;
    }))
counted_within c n r x e now landed entry o fates until trace found leads entry_is is = record {
  node = y;
  found = ap (nth n) sent_all.nodes ∙ stands;
  holds = subst c.Holds (sym (sent_all.is ∙ ap (post_all n sent_all.ps) (before ∙ ap (λ q. now_counts q) (sym is) ∙ ap entered (sym entry_is))))
      (leads landed sent_all.ps (subst (λ (q : Outcome). AllByRecursion (λ p. IsIn (outs.Post p) q.outs) sent_all.ps) (sym is) sent_all.of));
}
  where
    y : Node
    y = record x { journal = with_entry entry landed x.journal }

    begun : Turning
    begun = record {
      world = record r.world {
        nodes = put_nth n y r.world.nodes;
        accepted = r.world.accepted ++ accepted_in n (put_nth n y r.world.nodes) r.book o.book.transactions;
        happened = r.world.happened ++ map (happened_at n) o.effects;
      };
      book = o.book;
      fates = fates;
      until = until;
      trace = trace ++ record { before = r.book; outcome = o; fates = fates; until = until } ∷ [];
    }

    stands : nth n begun.world.nodes ≡ Some y
    stands = put_this r.world.nodes n x y found

    sent_all : Sends n o.outs y begun (send_all n o.outs begun)
    sent_all = sends n o.outs y begun stands

    now_counts : Outcome → World
    now_counts q = record r.world {
      nodes = put_nth n (record x { book = Some q.book; journal = with_entry entry landed x.journal }) (put_nth n (record x { book = Some r.book }) r.world.nodes);
      accepted = r.world.accepted ++ accepted_in n (put_nth n (record x { book = Some r.book }) r.world.nodes) r.book q.book.transactions;
      happened = r.world.happened ++ map (happened_at n) q.effects;
    }

    entered : Option Record → World
    entered rec = record r.world {
      nodes = put_nth n (record x { book = Some (step r.book e now landed).book; journal = with_entry rec landed x.journal }) (put_nth n (record x { book = Some r.book }) r.world.nodes);
      accepted = r.world.accepted ++ accepted_in n (put_nth n (record x { book = Some r.book }) r.world.nodes) r.book (step r.book e now landed).book.transactions;
      happened = r.world.happened ++ map (happened_at n) (step r.book e now landed).effects;
    }

    before : newest n y begun ≡ now_counts o
    before = λ i. record r.world {
      nodes = (put_put n y (record y { book = Some o.book }) r.world.nodes ∙ sym (put_put n (record x { book = Some r.book }) (record y { book = Some o.book }) r.world.nodes)) i;
      accepted = r.world.accepted ++ accepted_same n (put_nth n y r.world.nodes) (put_nth n (record x { book = Some r.book }) r.world.nodes) r.book o.book.transactions
          (bases_put r.world.nodes (put_nth n (record x { book = Some r.book }) r.world.nodes) n x y found refl
          (bases_back (put_nth n (record x { book = Some r.book }) r.world.nodes) r.world.nodes
          (bases_put r.world.nodes r.world.nodes n x (record x { book = Some r.book }) found refl (same_bases r.world.nodes)))) i;
      happened = r.world.happened ++ map (happened_at n) o.effects;
    }

-- nothing moved but the fates
same_within : (c : Lasting) (n : ℕ) (r t : Turning) → t.book ≡ r.book → t.world ≡ r.world → Within c n r → Within c n t
same_within c n r t e f h = record {
  node = h.node;
  found = ap (λ (w : World). nth n w.nodes) f ∙ h.found;
  holds = subst (c.Holds) (λ i. record (sym f i) { nodes = put_nth n (record h.node { book = Some (sym e i) }) (sym f i).nodes }) h.holds;
}

-- a step of a turn
record Steps (c : Lasting) (n : ℕ) (r : Turning) (e : Event) (now : ℕ) : Type 0 where
  at : Within c n r
  leads : Leads c n r at.node e now

still_there : (c : Lasting) (n : ℕ) (r t : Turning) (x : Node) (o : Outcome) → nth n r.world.nodes ≡ Some x
    → Within c n (counted n o (record t { world = record r.world { nodes = put_nth n x r.world.nodes } }))
    → Within c n (counted n o (record t { world = r.world }))
still_there c n r t x o found h =
    subst (λ xs. Within c n (counted n o (record t { world = record r.world { nodes = xs } }))) (put_same n x r.world.nodes found) h

absent_within : (c : Lasting) (n : ℕ) (r : Turning) (e : Event) (now : ℕ) (entry : Record) → Steps c n r e now → (plan r.book e now).entry ≡ Some entry
    → Within c n (absent_step n (plan r.book e now) r)
absent_within c n r e now entry h f = by_stop (is_stopped (after_fate r))
  where
    by_stop : (b : Bool) → Within c n (if b then after_fate r else counted n (plan r.book e now).absent (after_fate r))
    by_stop true = same_within c n r (after_fate r) refl refl h.at
    by_stop false =
        still_there c n r (after_fate r) h.at.node (plan r.book e now).absent h.at.found
        (counted_within c n r h.at.node e now false (Some entry) (plan r.book e now).absent (fates_left r.fates) (one_nearer r.until) r.trace h.at.found h.leads f refl)

landed_within : (c : Lasting) (n : ℕ) (r : Turning) (e : Event) (now : ℕ) (entry : Record) → Steps c n r e now → (plan r.book e now).entry ≡ Some entry
    → Within c n (landed_step n entry (plan r.book e now) r)
landed_within c n r e now entry h f =
    subst (λ w. Within c n (counted n (plan r.book e now).landed (record (after_fate r) { world = w })))
    (sym (ap (with_record n entry r.world) h.at.found))
    (counted_within c n r h.at.node e now true (Some entry) (plan r.book e now).landed (fates_left r.fates) (one_nearer r.until) r.trace h.at.found h.leads f refl)

entry_within : (c : Lasting) (n : ℕ) (r : Turning) (e : Event) (now : ℕ) (entry : Option Record) → Steps c n r e now → (plan r.book e now).entry ≡ entry
    → Within c n (step_by n entry (plan r.book e now) r)
entry_within c n r e now None h f =
    still_there c n r r h.at.node (plan r.book e now).landed h.at.found
    (counted_within c n r h.at.node e now true None (plan r.book e now).landed r.fates r.until r.trace h.at.found h.leads f refl)
entry_within c n r e now (Some entry) h f = by_fate (fate r.fates)
  where
    by_fate : (b : Bool) → Within c n (if b then landed_step n entry (plan r.book e now) r else absent_step n (plan r.book e now) r)
    by_fate true = landed_within c n r e now entry h f
    by_fate false = absent_within c n r e now entry h f

take_within : (c : Lasting) (n : ℕ) (r : Turning) (e : Event) (now : ℕ) → Steps c n r e now → Within c n (take_step n (plan r.book e now) r)
take_within c n r e now h = by_stop (is_stopped r)
  where
    by_stop : (b : Bool) → Within c n (if b then r else step_by n (plan r.book e now).entry (plan r.book e now) r)
    by_stop true = h.at
    by_stop false = entry_within c n r e now (plan r.book e now).entry h refl

-- an answer alone
answer_within : (c : Lasting) (n : ℕ) (r : Turning) (status : ℕ) → Within c n r → Within c n (take_step n (answer_plan r.book status) r)
answer_within c n r status h = by_stop (is_stopped r)
  where
    order : IsInOrder r.book
    order = c.order (newest n h.node r) h.holds n (record h.node { book = Some r.book }) (put_this r.world.nodes n h.node (record h.node { book = Some r.book }) h.found)

    same : record r.world {
      accepted = r.world.accepted ++ accepted_in n r.world.nodes r.book r.book.transactions;
      happened = r.world.happened ++ [];
    } ≡ r.world
    same = λ i. record r.world {
      accepted = (ap (λ xs. r.world.accepted ++ xs) (none_new r.world.nodes r.book order n) ∙ append-nil r.world.accepted) i;
      happened = append-nil r.world.happened i;
    }

    begun : Turning
    begun = record r {
      trace = r.trace ++ traced (still r.book (outs.Answer status None ∷ [])) r ∷ [];
      world = record r.world {
        accepted = r.world.accepted ++ accepted_in n r.world.nodes r.book r.book.transactions;
        happened = r.world.happened ++ [];
      };
    }

    by_fate : (s : Bool)
        → Within c n (if s then begun else record (after_fate begun) { world = sent n (fate begun.fates) (outs.Answer status None) begun.world })
    by_fate true = same_within c n r begun refl same h
    by_fate false = answered (fate begun.fates)
      where
        answered : (f : Bool) → Within c n (record (after_fate begun) { world = sent n f (outs.Answer status None) begun.world })
        answered true = same_within c n r (after_fate begun) refl same h
        answered false = same_within c n r (after_fate begun) refl same h

    by_stop : (b : Bool) → Within c n (if b then r else counted n (still r.book (outs.Answer status None ∷ [])) r)
    by_stop true = h
    by_stop false = by_fate (is_stopped begun)

arrival_within : (c : Lasting) (n : ℕ) (r : Turning) (now : ℕ) (a : Option Arrived) → (h : Within c n r)
    → ((y : Arrived) → a ≡ Some y → Leads c n r h.node (events.Arrived y) now)
    → Within c n (take_step n (arrival_plan r.book now a) r)
arrival_within c n r now None h leads = answer_within c n r 500 h
arrival_within c n r now (Some a) h leads = take_within c n r (events.Arrived a) now (record { at = h; leads = leads a refl })

-- a step of time
timed_leads : (c : Lasting) (n : ℕ) (r : Turning) (e : Event) (now : ℕ) → IsTimed e → (h : Within c n r) → Leads c n r h.node e now
timed_leads c n r e now is h landed ps those =
    c.timed (newest n h.node r) n (record h.node { book = Some r.book }) r.book e now landed ps h.holds (put_this r.world.nodes n h.node (record h.node { book = Some r.book }) h.found) refl is those

-- the due steps
due_within : (c : Lasting) (n now : ℕ) (item : Item) (r : Turning) → Within c n r → Within c n (due_step n now item r)
due_within c n now item r h = by_due (is_due r.book now item)
  where
    by_due : (b : Bool) → Within c n (if b then take_step n (plan r.book (events.Due item) now) r else r)
    by_due true = take_within c n r (events.Due item) now (record { at = h; leads = timed_leads c n r (events.Due item) now tt h })
    by_due false = h

dues_within : (c : Lasting) (n now : ℕ) (items : List Item) (r : Turning) → Within c n r → Within c n (due_steps n now items r)
dues_within c n now [] r h = h
dues_within c n now (item ∷ rest) r h = dues_within c n now rest (due_step n now item r) (due_within c n now item r h)

-- a turn is over
turned_within : (c : Lasting) (n : ℕ) (t : Turning) → Within c n t → c.Holds (turned n t)
turned_within c n t h = by_stop (is_stopped t)
  where
    up : Node
    up = record h.node { book = Some t.book }

    lost : World
    lost = record (newest n h.node t) { happened = t.world.happened ++ lost_in n t.book }

    by_stop : (b : Bool) → c.Holds (if b then goes_down n t.book t.world else put_book n (Some t.book) t.world (nth n t.world.nodes))
    by_stop true =
        subst c.Holds
        (sym (ap (put_book n None (record t.world { happened = t.world.happened ++ lost_in n t.book })) h.found
        ∙ (λ i. record t.world {
          nodes = sym (put_put n up (record up { book = None }) t.world.nodes) i;
          happened = t.world.happened ++ lost_in n t.book;
        })
        ∙ sym (ap (put_book n None lost) (put_this t.world.nodes n h.node up h.found))))
        (c.falls (newest n h.node t) n up t.book h.holds (put_this t.world.nodes n h.node up h.found) refl)
    by_stop false = subst (c.Holds) (sym (ap (put_book n (Some t.book) t.world) h.found)) h.holds

turn_within : (c : Lasting) (n now : ℕ) (p : Plan) (r : Turning) → Within c n (take_step n p r) → c.Holds (take_turn n now p r)
turn_within c n now p r h =
    turned_within c n (due_steps n now (items_of (take_step n p r).book) (take_step n p r)) (dues_within c n now (items_of (take_step n p r).book) (take_step n p r) h)

-- a turn begins with the world as it is
begun_so : (w : World) (n : ℕ) (x : Node) (b : Book) → nth n w.nodes ≡ Some x → x.book ≡ Some b
    → w ≡ record w { nodes = put_nth n (record x { book = Some b }) w.nodes }
begun_so w n x b found up = λ i. record w {
  nodes = (sym (put_same n x w.nodes found) ∙ ap (λ o. put_nth n (record x { book = o }) w.nodes) up) i;
}

turn_begins : (c : Lasting) (w : World) (n : ℕ) (x : Node) (b : Book) (fates : List Bool) (until : Option ℕ) → c.Holds w → nth n w.nodes ≡ Some x
    → x.book ≡ Some b
    → Within c n (turn_from w b fates until)
turn_begins c w n x b fates until h found up = record { node = x; found = found; holds = subst (c.Holds) (begun_so w n x b found up) h }

-- the first step of a turn
input_leads : (c : Lasting) (w : World) (n : ℕ) (x : Node) (b : Book) (fates : List Bool) (until : Option ℕ) (e : Event) (now : ℕ) → Begins c w
    → nth n w.nodes ≡ Some x → x.book ≡ Some b
    → Heard w n x e → Leads c n (turn_from w b fates until) x e now
input_leads c w n x b fates until e now h found up heard landed ps those =
    (subst (Begins c) (begun_so w n x b found up) h).steps n (record x { book = Some b }) b e now landed ps (put_this w.nodes n x (record x { book = Some b }) found) refl (same_heard e heard) those
  where
    same_heard : (f : Event) → Heard w n x f → Heard (record w { nodes = put_nth n (record x { book = Some b }) w.nodes }) n (record x { book = Some b }) f
    same_heard (events.Arrived a) k = k
    same_heard (events.Local l) k = tt
    same_heard (events.Due item) k = tt
    same_heard events.Tick k = tt

is_in_list : {A : Type 0} (k : ℕ) (x : A) (xs : List A) → nth k xs ≡ Some x → IsIn x xs
is_in_list k x [] e = absurd cc
is_in_list k x (y ∷ xs) e = by_number (λ f. is_in_list (k - 1) x xs f) (nat_eq k 1) e
  where
    by_number : (nth (k - 1) xs ≡ Some x → IsIn x xs) → (c : Bool) → (if c then Some y else nth (k - 1) xs) ≡ Some x → IsIn x (y ∷ xs)
    by_number rest true f = inl cc
    by_number rest false f = inr (rest f)

receives : (n : ℕ) (o : Option ℕ) → is_receiver n o ≡ true → o ≡ Some n
receives n None e = absurd cc
receives n (Some m) e = ap Some (eqb-true m n e)

delivered_within : (c : Lasting) (w : World) (n : ℕ) (x : Node) (b : Book) (fates : List Bool) (until : Option ℕ) (k : ℕ) → Begins c w
    → nth n w.nodes ≡ Some x → x.book ≡ Some b
    → (o : Option Posted) → nth k w.posted ≡ o → c.Holds (deliver n x b fates until o w)
unfolding turn_begins
delivered_within c w n x b fates until k h found up None e = h.rests
delivered_within c w n x b fates until k h found up (Some p) e = by_receiver (is_receiver n p.receiver) refl
  where
    by_receiver : (t : Bool) → is_receiver n p.receiver ≡ t
        → c.Holds (if t then take_turn n x.clock (arrival_plan b x.clock (decoded x.base p.content)) (turn_from w b fates until) else w)
    by_receiver true f =
        turn_within c n x.clock (arrival_plan b x.clock (decoded x.base p.content)) (turn_from w b fates until)
        (arrival_within c n (turn_from w b fates until) x.clock (decoded x.base p.content) (turn_begins c w n x b fates until h.rests found up)
        (λ a g. input_leads c w n x b fates until (events.Arrived a) x.clock h found up (p, is_in_list k p w.posted e, receives n p.receiver f, g)))
    by_receiver false f = h.rests

input_within : (c : Lasting) (w : World) (n : ℕ) (x : Node) (b : Book) (input : Input) (fates : List Bool) (until : Option ℕ) → Begins c w
    → nth n w.nodes ≡ Some x → x.book ≡ Some b
    → c.Holds (turn n input fates until x b w)
input_within c w n x b (Deliver k) fates until h found up = delivered_within c w n x b fates until k h found up (nth k w.posted) refl
input_within c w n x b (Tick ms) fates until h found up =
    turn_within c n (x.clock + ms) (plan b events.Tick (x.clock + ms)) (turn_from (ticked n (later ms x) w) b fates until)
    (take_within c n (turn_from (ticked n (later ms x) w) b fates until) events.Tick (x.clock + ms) (record {
      at = begun;
      leads = timed_leads c n (turn_from (ticked n (later ms x) w) b fates until) events.Tick (x.clock + ms) tt begun;
    }))
  where
    begun : Within c n (turn_from (ticked n (later ms x) w) b fates until)
    begun = turn_begins c (ticked n (later ms x) w) n (later ms x) b fates until (c.waits w n x (x.clock + ms) h.rests found) (put_this w.nodes n x (later ms x) found) up
input_within c w n x b Raw fates until h found up =
    turn_within c n x.clock (answer_plan b 400) (turn_from w b fates until)
    (answer_within c n (turn_from w b fates until) 400 (turn_begins c w n x b fates until h.rests found up))

asked_within : (c : Lasting) (w : World) (n : ℕ) (x : Node) (b : Book) (l : Local) (fates : List Bool) (until : Option ℕ) → Begins c w
    → nth n w.nodes ≡ Some x → x.book ≡ Some b
    → c.Holds (ask n l fates until x b w)
unfolding turn_begins
asked_within c w n x b l fates until h found up =
    turned_within c n (take_step n (plan b (events.Local l) x.clock) (turn_from w b fates until))
    (take_within c n (turn_from w b fates until) (events.Local l) x.clock (record {
      at = turn_begins c w n x b fates until h.rests found up;
      leads = input_leads c w n x b fates until (events.Local l) x.clock h found up tt;
    }))

started_within : (c : Lasting) (w : World) (n : ℕ) (x : Node) (landed stop : Bool) → Begins c w → nth n w.nodes ≡ Some x → x.book ≡ None
    → c.Holds (start n landed stop x w)
started_within c w n x landed stop h found down = by_landed landed (nat_lt (last_incarnation x.journal) last_counter) refl
  where
    by_landed : (a b : Bool) → nat_lt (last_incarnation x.journal) last_counter ≡ b
        → c.Holds (if a && b then record w { nodes = put_nth n (up_after (started (last_incarnation x.journal + 1) x) stop) w.nodes } else w)
    by_landed true true e = h.rises n x stop found down (ltb-true (last_incarnation x.journal) last_counter e)
    by_landed true false e = h.rests
    by_landed false b e = h.rests

-- each event
at_node_within : (c : Lasting) (e : WorldEvent) (x : Node) (w : World) → Begins c w → nth (node_of e) w.nodes ≡ Some x → c.Holds (at_node e x w)
at_node_within c (Turn n input fates until) x w h found = by_book x.book refl
  where
    by_book : (o : Option Book) → x.book ≡ o → c.Holds (on_book o (λ b. turn n input fates until x b w) w)
    by_book None up = h.rests
    by_book (Some b) up = input_within c w n x b input fates until h found up
at_node_within c (Ask n l fates until) x w h found = by_book x.book refl
  where
    by_book : (o : Option Book) → x.book ≡ o → c.Holds (on_book o (λ b. ask n l fates until x b w) w)
    by_book None up = h.rests
    by_book (Some b) up = asked_within c w n x b l fates until h found up
at_node_within c (Crash n) x w h found = by_book x.book refl
  where
    by_book : (o : Option Book) → x.book ≡ o → c.Holds (on_book o (λ b. goes_down n b w) w)
    by_book None up = h.rests
    by_book (Some b) up = c.falls w n x b h.rests found up
at_node_within c (Up n landed stop) x w h found = by_book x.book refl
  where
    by_book : (o : Option Book) → x.book ≡ o → c.Holds (down_only o (start n landed stop x w) w)
    by_book None up = started_within c w n x landed stop h found up
    by_book (Some b) up = h.rests

pub event_lasts : (c : Lasting) (w : World) (e : WorldEvent) → Begins c w → c.Holds (world_step w e)
unfolding world_step
event_lasts c w e h = by_node (nth (node_of e) w.nodes) refl
  where
    by_node : (o : Option Node) → nth (node_of e) w.nodes ≡ o → c.Holds (at_some_node e o w)
    by_node None f = h.rests
    by_node (Some x) f = at_node_within c e x w h f
