-- In every run each node lives a life.
use Rattle.std.specs.Prelude.{ℕ, List, [], ◌∷◌, ◌++◌, Option, Some, None, Bool, true, false, nat_eq, nat_lt, ◌&&◌, ◌+◌, ◌-◌, if◌then◌else◌, ◌≡◌, ◌≤◌, refl, zero, suc}
use Rattle.std.proofs.Common.{sym, subst, ap, arith, ◌∙◌}
use Rattle.std.proofs.lemmas.Bool.{eqb-true, eqb-false}
use Rattle.std.proofs.lemmas.List.{append_assoc}
use Rattle.at_base.specs.Numbers.{Numbers}
use Rattle.at_base.specs.declared.record.Record.{Record}
use Rattle.at_base.specs.declared.event.Event.{Event}
use Rattle.at_base.specs.declared.event.Event.TheVariants as events
use Rattle.at_base.specs.declared.event.Arrived.{Arrived}
use Rattle.at_base.specs.declared.event.Item.{Item}
use Rattle.at_base.specs.declared.outs.Out.{Out}
use Rattle.at_base.specs.declared.outs.Out.TheVariants as outs
use Rattle.at_model.specs.Book.{Book, last_counter}
use Rattle.at_model.specs.Recovery.{recover, last_incarnation}
use Rattle.model_laws.specs.DrawnIds.{Life, LifeEvent, Stepped, Stopped, Started, live_through, life_of, with_entry, made_in, made_through, new_ids, AreApart, restarted}
use Rattle.model_laws.specs.Order.{IsInOrderWhileUp}
use Rattle.at_model.specs.Step.{Outcome, Plan, still, items_of, plan, step, is_due}
use Rattle.at_model.specs.World.{Node, Posted, World, WorldEvent, Turn, Ask, Crash, Up, Input, Deliver, Tick, Raw, Turning, nth, put_nth, new_node, new_nodes, opening, is_stopped, fate, after_fate, sent, send_all, counted, with_record, landed_step, absent_step, step_by, take_step, due_step, due_steps, put_book, goes_down, lost_in, turned, turn_from, take_turn, ticked, later, answer_plan, arrival_plan, is_receiver, deliver, decoded, turn, ask, started, up_after, start, on_book, down_only, at_node, at_some_node, node_of, world_step, run_on, run_of, Hosts}
use Rattle.model_laws.specs.MadeIds.{HasLived, MakesNoIdTwice}
use Rattle.model_laws.proofs.MadeIds.{no_id_made_twice}
use Rattle.model_laws.proofs.StepMakes.{counted_book, made_by, made_by_due, made_by_turn, made_by_delivery, made_by_input, made_while_up, none_new, nothing_more, on_makes, stepwise_by_event, stepwise_on}
use Rattle.model_laws.proofs.Order.{ids_rise}

-- nodes by their numbers
less_one : (m n : ℕ) → (m ≡ n → ⊥) → (m ≡ 1 → ⊥) → (n ≡ 1 → ⊥) → m - 1 ≡ n - 1 → ⊥
less_one m n h i j e = omega (arith, h, i, j, e)

pub put_other : (xs : List Node) (m n : ℕ) (y : Node) → (m ≡ n → ⊥) → nth m (put_nth n y xs) ≡ nth m xs
put_other [] m n y h = refl
put_other (x ∷ xs) m n y h = at (λ k l i. put_other xs k l y i) (nat_eq n 1) (nat_eq m 1) refl refl
  where
    at : ((k l : ℕ) → (k ≡ l → ⊥) → nth k (put_nth l y xs) ≡ nth k xs) → (a b : Bool) → nat_eq n 1 ≡ a → nat_eq m 1 ≡ b
        → nth m (if a then y ∷ xs else x ∷ put_nth (n - 1) y xs) ≡ (if b then Some x else nth (m - 1) xs)
    at rest true true e f = absurd (h (eqb-true m 1 f ∙ sym (eqb-true n 1 e)))
    at rest true false e f = ap (λ t. if t then Some y else nth (m - 1) xs) f
    at rest false true e f = ap (λ t. if t then Some x else nth (m - 1) (put_nth (n - 1) y xs)) f
    at rest false false e f =
        ap (λ t. if t then Some x else nth (m - 1) (put_nth (n - 1) y xs)) f ∙ rest (m - 1) (n - 1) (less_one m n h (eqb-false m 1 f) (eqb-false n 1 e))

pub put_this : (xs : List Node) (n : ℕ) (x y : Node) → nth n xs ≡ Some x → nth n (put_nth n y xs) ≡ Some y
put_this [] n x y h = absurd cc
put_this (z ∷ zs) n x y h = at (λ i. put_this zs (n - 1) x y i) (nat_eq n 1) refl h
  where
    at : (nth (n - 1) zs ≡ Some x → nth (n - 1) (put_nth (n - 1) y zs) ≡ Some y) → (a : Bool) → nat_eq n 1 ≡ a
        → (if a then Some z else nth (n - 1) zs) ≡ Some x → nth n (if a then y ∷ zs else z ∷ put_nth (n - 1) y zs) ≡ Some y
    at rest true e h = ap (λ t. if t then Some y else nth (n - 1) zs) e
    at rest false e h = ap (λ t. if t then Some z else nth (n - 1) (put_nth (n - 1) y zs)) e ∙ rest h

-- a part of a life: what happened in it, and what was made
record Lives (base : List ℕ) (l m : Life) (made : List Numbers) : Type 0 where
  events : List LifeEvent
  life : life_of base events l ≡ m
  makes : made_through base events l ≡ made

stays : (base : List ℕ) (l : Life) → Lives base l l []
stays base l = record { events = []; life = refl; makes = refl }

lives_one : (base : List ℕ) (e : LifeEvent) (l m : Life) (made : List Numbers) → live_through base e l ≡ m → made_in e l ≡ made → Lives base l m made
lives_one base e l m made h k = record { events = e ∷ []; life = h; makes = nothing_more (made_in e l) ∙ k }

life_join : (base : List ℕ) (es fs : List LifeEvent) (l : Life) → life_of base (es ++ fs) l ≡ life_of base fs (life_of base es l)
life_join base [] fs l = refl
life_join base (e ∷ es) fs l = life_join base es fs (live_through base e l)

made_join : (base : List ℕ) (es fs : List LifeEvent) (l : Life) → made_through base (es ++ fs) l ≡ made_through base es l ++ made_through base fs (life_of base es l)
made_join base [] fs l = refl
made_join base (e ∷ es) fs l =
    ap (λ ids. made_in e l ++ ids) (made_join base es fs (live_through base e l))
    ∙ sym (append_assoc (made_in e l) (made_through base es (live_through base e l)) (made_through base fs (life_of base es (live_through base e l))))

lives_then : (base : List ℕ) (l m k : Life) (these those : List Numbers) → Lives base l m these → Lives base m k those → Lives base l k (these ++ those)
lives_then base l m k these those h i = record {
  events = h.events ++ i.events;
  life = life_join base h.events i.events l ∙ ap (life_of base i.events) h.life ∙ i.life;
  makes = made_join base h.events i.events l ∙ both (made_through base h.events l) these _ those h.makes (ap (made_through base i.events) h.life ∙ i.makes);
}
  where
    both : (xs ys us vs : List Numbers) → xs ≡ ys → us ≡ vs → xs ++ us ≡ ys ++ vs
    both xs ys us vs e f = λ i. e i ++ f i

abbrev life : List Record → Option Book → Life
life rs o = record { journal = rs; book = o }

-- a turn of a node: the journal stands in the world, the book in the turn
record IsAt (n : ℕ) (base : List ℕ) (x : Node) (r : Turning) : Type 0 where
  found : nth n r.world.nodes ≡ Some x
  base_is : x.base ≡ base

-- what a part of a turn leaves
record Goes (n : ℕ) (base : List ℕ) (x : Node) (r t : Turning) (made : List Numbers) : Type 0 where
  node : Node
  at : IsAt n base node t
  lives : Lives base (life x.journal (Some r.book)) (life node.journal (Some t.book)) made
  elsewhere : (m : ℕ) → (m ≡ n → ⊥) → nth m t.world.nodes ≡ nth m r.world.nodes

goes_then : (n : ℕ) (base : List ℕ) (x : Node) (r s t : Turning) (these those : List Numbers) → (h : Goes n base x r s these) → Goes n base h.node s t those
    → Goes n base x r t (these ++ those)
goes_then n base x r s t these those h k = record {
  node = k.node;
  at = k.at;
  lives = lives_then base (life x.journal (Some r.book)) (life h.node.journal (Some s.book)) (life k.node.journal (Some t.book)) these those h.lives k.lives;
  elsewhere = λ m i. k.elsewhere m i ∙ h.elsewhere m i;
}

-- nothing moved but the fates
same_goes : (n : ℕ) (base : List ℕ) (x : Node) (r t : Turning) → IsAt n base x r → t.book ≡ r.book → t.world.nodes ≡ r.world.nodes → Goes n base x r t (new_ids r.book t.book)
same_goes n base x r t at e f = record {
  node = x;
  at = record { found = ap (nth n) f ∙ at.found; base_is = at.base_is };
  lives = subst (λ b. Lives base (life x.journal (Some r.book)) (life x.journal (Some b)) (new_ids r.book b)) (sym e)
      (subst (Lives base (life x.journal (Some r.book)) (life x.journal (Some r.book))) (sym (none_new r.book)) (stays base (life x.journal (Some r.book))));
  elsewhere = λ m i. ap (nth m) f;
}

-- sending leaves nodes as they are
sent_one : (n : ℕ) (f : Bool) (o : Out) (w : World) → (sent n f o w).nodes ≡ w.nodes
sent_one n true (outs.Post p) w = refl
sent_one n true (outs.Answer status reply) w = refl
sent_one n false o w = refl

sent_nodes : (n : ℕ) (os : List Out) (r : Turning) → (send_all n os r).world.nodes ≡ r.world.nodes
sent_nodes n [] r = refl
sent_nodes n (o ∷ os) r = at (λ t. sent_nodes n os t) (is_stopped r)
  where
    at : ((t : Turning) → (send_all n os t).world.nodes ≡ t.world.nodes) → (b : Bool)
        → (if b then r else send_all n os (record (after_fate r) { world = sent n (fate r.fates) o r.world })).world.nodes ≡ r.world.nodes
    at rest true = refl
    at rest false = rest (record (after_fate r) { world = sent n (fate r.fates) o r.world }) ∙ sent_one n (fate r.fates) o r.world

counted_nodes : (n : ℕ) (o : Outcome) (r : Turning) → (counted n o r).world.nodes ≡ r.world.nodes
counted_nodes n o r = sent_nodes n o.outs _

-- a step that counts, of an event
step_goes : (n : ℕ) (base : List ℕ) (x : Node) (r t : Turning) (e : Event) (now : ℕ) (landed : Bool) (y : Node) → IsAt n base y t
    → with_entry (plan r.book e now).entry landed x.journal ≡ y.journal → (step r.book e now landed).book ≡ t.book
    → ((m : ℕ) → (m ≡ n → ⊥) → nth m t.world.nodes ≡ nth m r.world.nodes) → Goes n base x r t (new_ids r.book t.book)
step_goes n base x r t e now landed y at h k same = record {
  node = y;
  at = at;
  lives = lives_one base (Stepped e now landed) (life x.journal (Some r.book)) (life y.journal (Some t.book)) (new_ids r.book t.book)
      (λ i. record { journal = h i; book = Some (k i) }) (ap (new_ids r.book) k);
  elsewhere = same;
}

-- without a record, or where it is absent
counted_goes : (n : ℕ) (base : List ℕ) (x : Node) (r t : Turning) (e : Event) (now : ℕ) (landed : Bool) (o : Outcome) → IsAt n base x r → t.world.nodes ≡ r.world.nodes
    → with_entry (plan r.book e now).entry landed x.journal ≡ x.journal → (step r.book e now landed).book ≡ o.book
    → Goes n base x r (counted n o t) (new_ids r.book (counted n o t).book)
counted_goes n base x r t e now landed o at same h k =
    step_goes n base x r (counted n o t) e now landed x
    (record { found = ap (nth n) (counted_nodes n o t ∙ same) ∙ at.found; base_is = at.base_is }) h (k ∙ sym (counted_book n o t))
    (λ m i. ap (nth m) (counted_nodes n o t ∙ same))

landed_goes : (n : ℕ) (base : List ℕ) (x : Node) (r : Turning) (e : Event) (now : ℕ) (entry : Record) → IsAt n base x r → (plan r.book e now).entry ≡ Some entry
    → Goes n base x r (landed_step n entry (plan r.book e now) r) (new_ids r.book (landed_step n entry (plan r.book e now) r).book)
landed_goes n base x r e now entry at f =
    let y : Node = record x { journal = x.journal ++ entry ∷ [] } in
    let t : Turning = landed_step n entry (plan r.book e now) r in
    let nodes : t.world.nodes ≡ put_nth n y r.world.nodes =
    counted_nodes n (plan r.book e now).landed (record (after_fate r) { world = with_record n entry r.world (nth n r.world.nodes) })
    ∙ ap (λ o. (with_record n entry r.world o).nodes) at.found in
    step_goes n base x r t e now true y
    (record { found = ap (nth n) nodes ∙ put_this r.world.nodes n x y at.found; base_is = at.base_is })
    (ap (λ o. with_entry o true x.journal) f)
    (sym (counted_book n (plan r.book e now).landed (record (after_fate r) { world = with_record n entry r.world (nth n r.world.nodes) })))
    (λ m i. ap (nth m) nodes ∙ put_other r.world.nodes m n y i)

absent_goes : (n : ℕ) (base : List ℕ) (x : Node) (r : Turning) (e : Event) (now : ℕ) (entry : Record) → IsAt n base x r → (plan r.book e now).entry ≡ Some entry
    → Goes n base x r (absent_step n (plan r.book e now) r) (new_ids r.book (absent_step n (plan r.book e now) r).book)
absent_goes n base x r e now entry at f = by_stop (is_stopped (after_fate r))
  where
    by_stop : (b : Bool) → Goes n base x r (if b then after_fate r else counted n (plan r.book e now).absent (after_fate r))
        (new_ids r.book (if b then after_fate r else counted n (plan r.book e now).absent (after_fate r)).book)
    by_stop true = same_goes n base x r (after_fate r) at refl refl
    by_stop false =
        counted_goes n base x r (after_fate r) e now false (plan r.book e now).absent at refl (ap (λ o. with_entry o false x.journal) f) refl

entry_goes : (n : ℕ) (base : List ℕ) (x : Node) (r : Turning) (e : Event) (now : ℕ) (entry : Option Record) → IsAt n base x r → (plan r.book e now).entry ≡ entry
    → Goes n base x r (step_by n entry (plan r.book e now) r) (new_ids r.book (step_by n entry (plan r.book e now) r).book)
entry_goes n base x r e now None at f =
    counted_goes n base x r r e now true (plan r.book e now).landed at refl (ap (λ o. with_entry o true x.journal) f) refl
entry_goes n base x r e now (Some entry) at f = by_fate (fate r.fates)
  where
    by_fate : (b : Bool) → Goes n base x r (if b then landed_step n entry (plan r.book e now) r else absent_step n (plan r.book e now) r)
        (new_ids r.book (if b then landed_step n entry (plan r.book e now) r else absent_step n (plan r.book e now) r).book)
    by_fate true = landed_goes n base x r e now entry at f
    by_fate false = absent_goes n base x r e now entry at f

take_goes : (n : ℕ) (base : List ℕ) (x : Node) (r : Turning) (e : Event) (now : ℕ) → IsAt n base x r
    → Goes n base x r (take_step n (plan r.book e now) r) (made_by r (take_step n (plan r.book e now) r))
take_goes n base x r e now at = by_stop (is_stopped r)
  where
    by_stop : (b : Bool) → Goes n base x r (if b then r else step_by n (plan r.book e now).entry (plan r.book e now) r)
        (new_ids r.book (if b then r else step_by n (plan r.book e now).entry (plan r.book e now) r).book)
    by_stop true = same_goes n base x r r at refl refl
    by_stop false = entry_goes n base x r e now (plan r.book e now).entry at refl

-- an answer alone
answer_goes : (n : ℕ) (base : List ℕ) (x : Node) (r : Turning) (status : ℕ) → IsAt n base x r
    → Goes n base x r (take_step n (answer_plan r.book status) r) (made_by r (take_step n (answer_plan r.book status) r))
answer_goes n base x r status at = by_stop (is_stopped r)
  where
    o : Outcome
    o = still r.book (outs.Answer status None ∷ [])

    by_stop : (b : Bool) → Goes n base x r (if b then r else counted n o r) (new_ids r.book (if b then r else counted n o r).book)
    by_stop true = same_goes n base x r r at refl refl
    by_stop false = same_goes n base x r (counted n o r) at (counted_book n o r) (counted_nodes n o r)

arrival_goes : (n : ℕ) (base : List ℕ) (x : Node) (r : Turning) (now : ℕ) (a : Option Arrived) → IsAt n base x r
    → Goes n base x r (take_step n (arrival_plan r.book now a) r) (made_by r (take_step n (arrival_plan r.book now a) r))
arrival_goes n base x r now None at = answer_goes n base x r 500 at
arrival_goes n base x r now (Some a) at = take_goes n base x r (events.Arrived a) now at

-- the due steps
due_goes : (n : ℕ) (base : List ℕ) (x : Node) (r : Turning) (now : ℕ) (item : Item) → IsAt n base x r
    → Goes n base x r (due_step n now item r) (made_by r (due_step n now item r))
due_goes n base x r now item at = by_due (is_due r.book now item)
  where
    by_due : (b : Bool) → Goes n base x r (if b then take_step n (plan r.book (events.Due item) now) r else r)
        (new_ids r.book (if b then take_step n (plan r.book (events.Due item) now) r else r).book)
    by_due true = take_goes n base x r (events.Due item) now at
    by_due false = same_goes n base x r r at refl refl

dues_go : (n : ℕ) (base : List ℕ) (now : ℕ) (items : List Item) (x : Node) (r : Turning) → IsAt n base x r
    → Goes n base x r (due_steps n now items r) (made_by_due n now items r)
dues_go n base now [] x r at = record { node = x; at = at; lives = stays base (life x.journal (Some r.book)); elsewhere = λ m i. refl }
dues_go n base now (item ∷ rest) x r at =
    let h : Goes n base x r (due_step n now item r) (made_by r (due_step n now item r)) = due_goes n base x r now item at in
    goes_then n base x r (due_step n now item r) (due_steps n now rest (due_step n now item r)) (made_by r (due_step n now item r))
    (made_by_due n now rest (due_step n now item r)) h (dues_go n base now rest h.node (due_step n now item r) h.at)

-- what an event leaves of its node, and of the others
record Ends (n : ℕ) (base : List ℕ) (x : Node) (w v : World) (made : List Numbers) : Type 0 where
  node : Node
  found : nth n v.nodes ≡ Some node
  base_is : node.base ≡ base
  lives : Lives base (life x.journal x.book) (life node.journal node.book) made
  elsewhere : (m : ℕ) → (m ≡ n → ⊥) → nth m v.nodes ≡ nth m w.nodes

ends_same : (n : ℕ) (base : List ℕ) (x : Node) (w : World) → nth n w.nodes ≡ Some x → x.base ≡ base → Ends n base x w w []
ends_same n base x w h e = record { node = x; found = h; base_is = e; lives = stays base (life x.journal x.book); elsewhere = λ m i. refl }

ends_put : (n : ℕ) (base : List ℕ) (x y z : Node) (w u v : World) (made : List Numbers) → nth n u.nodes ≡ Some y → v.nodes ≡ put_nth n z u.nodes → z.base ≡ base
    → Lives base (life x.journal x.book) (life z.journal z.book) made → ((m : ℕ) → (m ≡ n → ⊥) → nth m u.nodes ≡ nth m w.nodes) → Ends n base x w v made
ends_put n base x y z w u v made h e b l same = record {
  node = z;
  found = ap (nth n) e ∙ put_this u.nodes n y z h;
  base_is = b;
  lives = l;
  elsewhere = λ m i. ap (nth m) e ∙ put_other u.nodes m n z i ∙ same m i;
}

-- a turn is over
turned_ends : (n : ℕ) (base : List ℕ) (x : Node) (w : World) (r t : Turning) (made : List Numbers) → x.book ≡ Some r.book → (y : Node) → y.journal ≡ x.journal
    → Goes n base y r t made → ((m : ℕ) → (m ≡ n → ⊥) → nth m r.world.nodes ≡ nth m w.nodes) → Ends n base x w (turned n t) made
turned_ends n base x w r t made up y same g others = by_stop (is_stopped t)
  where
    lives : Lives base (life x.journal x.book) (life g.node.journal (Some t.book)) made
    lives = subst (λ l. Lives base l (life g.node.journal (Some t.book)) made) (λ i. life (same i) (sym up i)) g.lives

    elsewhere : (m : ℕ) → (m ≡ n → ⊥) → nth m t.world.nodes ≡ nth m w.nodes
    elsewhere m i = g.elsewhere m i ∙ others m i

    by_stop : (b : Bool) → Ends n base x w (if b then goes_down n t.book t.world else put_book n (Some t.book) t.world (nth n t.world.nodes)) made
    by_stop true =
        ends_put n base x g.node (record g.node { book = None }) w t.world _ made g.at.found
        (ap (λ o. (put_book n None (record t.world { happened = t.world.happened ++ lost_in n t.book }) o).nodes) g.at.found) g.at.base_is
        (subst (Lives base (life x.journal x.book) (life g.node.journal None)) (nothing_more made)
        (lives_then base (life x.journal x.book) (life g.node.journal (Some t.book)) (life g.node.journal None) made [] lives
        (lives_one base Stopped (life g.node.journal (Some t.book)) (life g.node.journal None) [] refl refl))) elsewhere
    by_stop false =
        ends_put n base x g.node (record g.node { book = Some t.book }) w t.world _ made g.at.found
        (ap (λ o. (put_book n (Some t.book) t.world o).nodes) g.at.found) g.at.base_is lives elsewhere

turn_ends : (n : ℕ) (base : List ℕ) (x : Node) (w : World) (now : ℕ) (p : Plan) (r : Turning) → x.book ≡ Some r.book → (y : Node) → y.journal ≡ x.journal
    → Goes n base y r (take_step n p r) (made_by r (take_step n p r)) → ((m : ℕ) → (m ≡ n → ⊥) → nth m r.world.nodes ≡ nth m w.nodes)
    → Ends n base x w (take_turn n now p r) (made_by_turn n now p r)
turn_ends n base x w now p r up y same g others =
    let s : Turning = take_step n p r in
    turned_ends n base x w r (due_steps n now (items_of s.book) s) (made_by_turn n now p r) up y same
    (goes_then n base y r s (due_steps n now (items_of s.book) s) (made_by r s) (made_by_due n now (items_of s.book) s) g
    (dues_go n base now (items_of s.book) g.node s g.at)) others

-- each event, at a node that is there
delivered_ends : (n : ℕ) (base : List ℕ) (x : Node) (w : World) (b : Book) (fates : List Bool) (until : Option ℕ) (p : Option Posted) → x.book ≡ Some b → nth n w.nodes ≡ Some x
    → x.base ≡ base → Ends n base x w (deliver n x b fates until p w) (made_by_delivery n x b fates until p w)
delivered_ends n base x w b fates until None up h e = ends_same n base x w h e
delivered_ends n base x w b fates until (Some p) up h e = by_receiver (is_receiver n p.receiver)
  where
    a : Option Arrived
    a = decoded x.base p.content

    r : Turning
    r = turn_from w b fates until

    by_receiver : (c : Bool) → Ends n base x w (if c then take_turn n x.clock (arrival_plan b x.clock a) r else w)
        (if c then made_by_turn n x.clock (arrival_plan b x.clock a) r else [])
    by_receiver true =
        turn_ends n base x w x.clock (arrival_plan b x.clock a) r up x refl (arrival_goes n base x r x.clock a (record { found = h; base_is = e })) (λ m i. refl)
    by_receiver false = ends_same n base x w h e

input_ends : (n : ℕ) (base : List ℕ) (x : Node) (w : World) (b : Book) (input : Input) (fates : List Bool) (until : Option ℕ) → x.book ≡ Some b → nth n w.nodes ≡ Some x
    → x.base ≡ base → Ends n base x w (turn n input fates until x b w) (made_by_input n input fates until x b w)
input_ends n base x w b (Deliver k) fates until up h e = delivered_ends n base x w b fates until (nth k w.posted) up h e
input_ends n base x w b (Tick ms) fates until up h e =
    let r : Turning = turn_from (ticked n (later ms x) w) b fates until in
    turn_ends n base x w (x.clock + ms) (plan b events.Tick (x.clock + ms)) r up (later ms x) refl
    (take_goes n base (later ms x) r events.Tick (x.clock + ms) (record { found = put_this w.nodes n x (later ms x) h; base_is = e })) (λ m i. put_other w.nodes m n (later ms x) i)
input_ends n base x w b Raw fates until up h e =
    let r : Turning = turn_from w b fates until in
    turn_ends n base x w x.clock (answer_plan b 400) r up x refl (answer_goes n base x r 400 (record { found = h; base_is = e })) (λ m i. refl)

crash_ends : (n : ℕ) (base : List ℕ) (x : Node) (w : World) (b : Book) → x.book ≡ Some b → nth n w.nodes ≡ Some x → x.base ≡ base → Ends n base x w (goes_down n b w) []
crash_ends n base x w b up h e =
    ends_put n base x x (record x { book = None }) w w _ [] h
    (ap (λ o. (put_book n None (record w { happened = w.happened ++ lost_in n b }) o).nodes) h) e
    (subst (λ o. Lives base (life x.journal o) (life x.journal None) []) (sym up) (lives_one base Stopped (life x.journal (Some b)) (life x.journal None) [] refl refl))
    (λ m i. refl)

start_ends : (n : ℕ) (base : List ℕ) (x : Node) (w : World) (landed stop : Bool) → x.book ≡ None → nth n w.nodes ≡ Some x → x.base ≡ base
    → Ends n base x w (start n landed stop x w) []
start_ends n base x w landed stop down h e = by_landed (landed && nat_lt (last_incarnation x.journal) last_counter) refl
  where
    begun : Node
    begun = started (last_incarnation x.journal + 1) x

    came_up : (landed && nat_lt (last_incarnation x.journal) last_counter) ≡ true
        → Lives base (life x.journal x.book) (life (restarted x.journal) (Some (recover base (restarted x.journal)))) []
    came_up c =
        subst (λ o. Lives base (life x.journal o) (life (restarted x.journal) (Some (recover base (restarted x.journal)))) []) (sym down)
        (lives_one base (Started landed) (life x.journal None) (life (restarted x.journal) (Some (recover base (restarted x.journal)))) []
        (ap (λ b. if b then record { journal = restarted x.journal; book = Some (recover base (restarted x.journal)) } else life x.journal None) c) refl)

    by_end : (s : Bool) → (landed && nat_lt (last_incarnation x.journal) last_counter) ≡ true
        → Lives base (life x.journal x.book) (life (restarted x.journal) (if s then None else Some (recover x.base (restarted x.journal)))) []
    by_end true c =
        lives_then base (life x.journal x.book) (life (restarted x.journal) (Some (recover base (restarted x.journal)))) (life (restarted x.journal) None) [] [] (came_up c)
        (lives_one base Stopped (life (restarted x.journal) (Some (recover base (restarted x.journal)))) (life (restarted x.journal) None) [] refl refl)
    by_end false c =
        subst (λ b. Lives base (life x.journal x.book) (life (restarted x.journal) (Some (recover b (restarted x.journal)))) []) (sym e) (came_up c)

    by_landed : (c : Bool) → (landed && nat_lt (last_incarnation x.journal) last_counter) ≡ c
        → Ends n base x w (if c then record w { nodes = put_nth n (up_after begun stop) w.nodes } else w) []
    by_landed true c = ends_put n base x x (up_after begun stop) w w _ [] h refl e (by_end stop c) (λ m i. refl)
    by_landed false c = ends_same n base x w h e

event_ends : (base : List ℕ) (e : WorldEvent) (x : Node) (w : World) → nth (node_of e) w.nodes ≡ Some x → x.base ≡ base
    → Ends (node_of e) base x w (at_node e x w) (made_while_up e x x.book w)
event_ends base (Turn n input fates until) x w h e = by_book x.book refl
  where
    by_book : (o : Option Book) → x.book ≡ o → Ends n base x w (on_book o (λ b. turn n input fates until x b w) w) (made_while_up (Turn n input fates until) x o w)
    by_book None up = ends_same n base x w h e
    by_book (Some b) up = input_ends n base x w b input fates until up h e
event_ends base (Ask n l fates until) x w h e = by_book x.book refl
  where
    by_book : (o : Option Book) → x.book ≡ o → Ends n base x w (on_book o (λ b. ask n l fates until x b w) w) (made_while_up (Ask n l fates until) x o w)
    by_book None up = ends_same n base x w h e
    by_book (Some b) up =
        let r : Turning = turn_from w b fates until in
        turned_ends n base x w r (take_step n (plan b (events.Local l) x.clock) r) (made_by r (take_step n (plan b (events.Local l) x.clock) r)) up x refl
        (take_goes n base x r (events.Local l) x.clock (record { found = h; base_is = e })) (λ m i. refl)
event_ends base (Crash n) x w h e = by_book x.book refl
  where
    by_book : (o : Option Book) → x.book ≡ o → Ends n base x w (on_book o (λ b. goes_down n b w) w) (made_while_up (Crash n) x o w)
    by_book None up = ends_same n base x w h e
    by_book (Some b) up = crash_ends n base x w b up h e
event_ends base (Up n landed stop) x w h e = by_book x.book refl
  where
    by_book : (o : Option Book) → x.book ≡ o → Ends n base x w (down_only o (start n landed stop x w) w) (made_while_up (Up n landed stop) x o w)
    by_book None up = start_ends n base x w landed stop up h e
    by_book (Some b) up = ends_same n base x w h e

-- one event, for each node
elsewhere : (w : World) (e : WorldEvent) (m : ℕ) → (m ≡ node_of e → ⊥) → nth m (world_step w e).nodes ≡ nth m w.nodes
unfolding world_step
elsewhere w e m h = by_node (nth (node_of e) w.nodes) refl
  where
    by_node : (o : Option Node) → nth (node_of e) w.nodes ≡ o → nth m (at_some_node e o w).nodes ≡ nth m w.nodes
    by_node None f = refl
    by_node (Some x) f = (event_ends x.base e x w f refl).elsewhere m h

record Ran (n : ℕ) (base : List ℕ) (x : Node) (v : World) (made : List Numbers) : Type 0 where
  node : Node
  found : nth n v.nodes ≡ Some node
  base_is : node.base ≡ base
  lives : Lives base (life x.journal x.book) (life node.journal node.book) made

abbrev made_at : ℕ → World → WorldEvent → List Numbers
made_at n w e = if nat_eq (node_of e) n then stepwise_by_event e (nth n w.nodes) w else []

ran_here : (base : List ℕ) (e : WorldEvent) (x : Node) (w : World) → nth (node_of e) w.nodes ≡ Some x → x.base ≡ base
    → Ran (node_of e) base x (world_step w e) (stepwise_by_event e (nth (node_of e) w.nodes) w)
unfolding world_step
ran_here base e x w h b =
    subst (λ o. Ran (node_of e) base x (at_some_node e o w) (stepwise_by_event e o w)) (sym h) (ran (event_ends base e x w h b))
  where
    ran : Ends (node_of e) base x w (at_node e x w) (made_while_up e x x.book w) → Ran (node_of e) base x (at_node e x w) (made_while_up e x x.book w)
    ran h = record { node = h.node; found = h.found; base_is = h.base_is; lives = h.lives }

ran_one : (n : ℕ) (base : List ℕ) (e : WorldEvent) (x : Node) (w : World) → nth n w.nodes ≡ Some x → x.base ≡ base → Ran n base x (world_step w e) (made_at n w e)
ran_one n base e x w h b = by_number (nat_eq (node_of e) n) refl
  where
    by_number : (c : Bool) → nat_eq (node_of e) n ≡ c → Ran n base x (world_step w e) (if c then stepwise_by_event e (nth n w.nodes) w else [])
    by_number true c =
        subst (λ m. Ran m base x (world_step w e) (stepwise_by_event e (nth m w.nodes) w)) (eqb-true (node_of e) n c)
        (ran_here base e x w (ap (λ m. nth m w.nodes) (eqb-true (node_of e) n c) ∙ h) b)
    by_number false c = record {
      node = x;
      found = elsewhere w e n (λ i. eqb-false (node_of e) n c (sym i)) ∙ h;
      base_is = b;
      lives = stays base (life x.journal x.book);
    }

runs : (n : ℕ) (base : List ℕ) (es : List WorldEvent) (x : Node) (w : World) → nth n w.nodes ≡ Some x → x.base ≡ base → Ran n base x (run_on w es) (stepwise_on n w es)
runs n base [] x w h b = record { node = x; found = h; base_is = b; lives = stays base (life x.journal x.book) }
runs n base (e ∷ es) x w h b =
    let one : Ran n base x (world_step w e) (made_at n w e) = ran_one n base e x w h b in
    let rest : Ran n base one.node (run_on (world_step w e) es) (stepwise_on n (world_step w e) es) = runs n base es one.node (world_step w e) one.found one.base_is in
    record {
      node = rest.node;
      found = rest.found;
      base_is = rest.base_is;
      lives = lives_then base (life x.journal x.book) (life one.node.journal one.node.book) (life rest.node.journal rest.node.book) (made_at n w e) (stepwise_on n (world_step w e) es)
          one.lives rest.lives;
    }

-- where no node has this number
nowhere_one : (n : ℕ) (e : WorldEvent) (w : World) → nth n w.nodes ≡ None → nth n (world_step w e).nodes ≡ None
unfolding world_step
nowhere_one n e w h = by_number (nat_eq (node_of e) n) refl
  where
    by_number : (c : Bool) → nat_eq (node_of e) n ≡ c → nth n (at_some_node e (nth (node_of e) w.nodes) w).nodes ≡ None
    by_number true c = ap (λ o. nth n (at_some_node e o w).nodes) (ap (λ m. nth m w.nodes) (eqb-true (node_of e) n c) ∙ h) ∙ h
    by_number false c = elsewhere w e n (λ i. eqb-false (node_of e) n c (sym i)) ∙ h

nowhere_made : (n : ℕ) (e : WorldEvent) (w : World) → nth n w.nodes ≡ None → made_at n w e ≡ []
nowhere_made n e w h = by_number (nat_eq (node_of e) n)
  where
    by_number : (c : Bool) → (if c then stepwise_by_event e (nth n w.nodes) w else []) ≡ []
    by_number true = ap (λ o. stepwise_by_event e o w) h
    by_number false = refl

nowhere : (n : ℕ) (es : List WorldEvent) (w : World) → nth n w.nodes ≡ None → (nth n (run_on w es).nodes ≡ None) × (stepwise_on n w es ≡ [])
nowhere n [] w h = (h, refl)
nowhere n (e ∷ es) w h =
    let (left, made) = nowhere n es (world_step w e) (nowhere_one n e w h) in
    (left, ap (λ ids. ids ++ stepwise_on n (world_step w e) es) (nowhere_made n e w h) ∙ made)

-- the opening world
none_at_zero : (xs : List Node) → nth 0 xs ≡ None
none_at_zero [] = refl
none_at_zero (x ∷ xs) = none_at_zero xs

two_of : (n : ℕ) → 1 ≤ n → (n ≡ 1 → ⊥) → 1 ≤ n - 1
two_of n h i = omega (arith, h, i)

same_place : (n m : ℕ) → 1 ≤ n → n - 1 + (m + 1) - 1 ≡ n + m - 1
same_place n m h = omega (arith, h)

opened : (base_of : ℕ → List ℕ) (k m n : ℕ) (x : Node) → 1 ≤ n → nth n (new_nodes base_of k m) ≡ Some x → x ≡ new_node (base_of (n + m - 1))
opened base_of zero m n x h e = absurd cc
opened base_of (suc k) m n x h e = by_number (λ i f. opened base_of k (m + 1) (n - 1) x i f) (nat_eq n 1) refl e
  where
    first : (y z : Node) → Some y ≡ Some z → z ≡ y
    first y z e = cc

    by_number : (1 ≤ n - 1 → nth (n - 1) (new_nodes base_of k (m + 1)) ≡ Some x → x ≡ new_node (base_of (n - 1 + (m + 1) - 1))) → (c : Bool) → nat_eq n 1 ≡ c
        → (if c then Some (new_node (base_of m)) else nth (n - 1) (new_nodes base_of k (m + 1))) ≡ Some x → x ≡ new_node (base_of (n + m - 1))
    by_number rest true c e = first (new_node (base_of m)) x e ∙ ap (λ i. new_node (base_of i)) (omega (arith, eqb-true n 1 c))
    by_number rest false c e = rest (two_of n h (eqb-false n 1 c)) e ∙ ap (λ i. new_node (base_of i)) (same_place n m h)

pub opening_node : (hosts : Hosts) (n : ℕ) (x : Node) → nth n (opening hosts).nodes ≡ Some x → x ≡ new_node (hosts.base_of n)
opening_node hosts zero x e = absurd (none_found (nth 0 (new_nodes hosts.base_of hosts.count 1)) x (none_at_zero (new_nodes hosts.base_of hosts.count 1)) e)
  where
    none_found : (o : Option Node) (x : Node) → o ≡ None → o ≡ Some x → ⊥
    none_found o x e f = cc
opening_node hosts (suc n) x e = opened hosts.base_of hosts.count 1 (suc n) x (omega arith) e ∙ ap (λ i. new_node (hosts.base_of i)) (omega arith)

run_from : (hosts : Hosts) (n : ℕ) (es : List WorldEvent) (x : Node) → nth n (opening hosts).nodes ≡ Some x → Ran n (hosts.base_of n) (new_node (hosts.base_of n)) (run_of hosts es) (stepwise_on n (opening hosts) es)
run_from hosts n es x h =
    runs n (hosts.base_of n) es (new_node (hosts.base_of n)) (opening hosts) (subst (λ y. nth n (opening hosts).nodes ≡ Some y) (opening_node hosts n x h) h) refl

same_node : (o : Option Node) (x y : Node) → o ≡ Some x → o ≡ Some y → x ≡ y
same_node o x y e f = cc

not_there : (o : Option Node) (x : Node) → o ≡ None → o ≡ Some x → ⊥
not_there o x e f = cc

lived : (hosts : Hosts) (n : ℕ) (es : List WorldEvent) (x : Node) → nth n (run_of hosts es).nodes ≡ Some x → HasLived (hosts.base_of n) x (stepwise_on n (opening hosts) es)
lived hosts n es x h = by_node (nth n (opening hosts).nodes) refl
  where
    by_node : (o : Option Node) → nth n (opening hosts).nodes ≡ o → HasLived (hosts.base_of n) x (stepwise_on n (opening hosts) es)
    by_node None e = absurd (not_there (nth n (run_of hosts es).nodes) x (nowhere n es (opening hosts) e).0 h)
    by_node (Some y) e =
        let r : Ran n (hosts.base_of n) (new_node (hosts.base_of n)) (run_of hosts es) (stepwise_on n (opening hosts) es) = run_from hosts n es y e in
        let same : r.node ≡ x = same_node (nth n (run_of hosts es).nodes) r.node x r.found h in
        record {
          events = r.lives.events;
          journal = ap (λ (l : Life). l.journal) r.lives.life ∙ ap (λ (z : Node). z.journal) same;
          book = ap (λ (l : Life). l.book) r.lives.life ∙ ap (λ (z : Node). z.book) same;
          made = r.lives.makes;
        }

apart : (hosts : Hosts) (n : ℕ) (es : List WorldEvent) → AreApart (stepwise_on n (opening hosts) es)
apart hosts n es = by_node (nth n (opening hosts).nodes) refl
  where
    by_node : (o : Option Node) → nth n (opening hosts).nodes ≡ o → AreApart (stepwise_on n (opening hosts) es)
    by_node None e = subst AreApart (sym (nowhere n es (opening hosts) e).1) tt
    by_node (Some y) e =
        let r : Ran n (hosts.base_of n) (new_node (hosts.base_of n)) (run_of hosts es) (stepwise_on n (opening hosts) es) = run_from hosts n es y e in
        subst AreApart r.lives.makes (no_id_made_twice.life (hosts.base_of n) r.lives.events)

pub makes_no_id_twice : MakesNoIdTwice
makes_no_id_twice = record {
  apart = λ hosts n es. subst AreApart (sym (on_makes n (opening hosts) es)) (apart hosts n es);
  lived = λ hosts n es x h. subst (HasLived (hosts.base_of n) x) (sym (on_makes n (opening hosts) es)) (lived hosts n es x h);
  order = λ hosts n es x h.
      let l : HasLived (hosts.base_of n) x (stepwise_on n (opening hosts) es) = lived hosts n es x h in
      subst IsInOrderWhileUp l.book (ids_rise.life (hosts.base_of n) l.events);
}
