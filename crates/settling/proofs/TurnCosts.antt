-- A turn in which every record lands and every message is sent: what it costs.
use Rattle.std.specs.Prelude.{ℕ, List, [], ◌∷◌, ◌++◌, Option, Some, None, Bool, true, false, ◌+◌, if◌then◌else◌, map, ◌≡◌, ◌≤◌, refl}
use Rattle.std.specs.List.{sum_by}
use Rattle.std.proofs.Common.{arith, sym, subst, ap, ◌∙◌}
use Rattle.std.proofs.lemmas.List.{append-nil, append_assoc}
use Rattle.std.proofs.lemmas.List.Sums.{sum_by-cons, sum_by-append}
use Rattle.at_base.specs.declared.event.Event.TheVariants as events
use Rattle.at_base.specs.declared.event.Item.{Item}
use Rattle.at_base.specs.declared.outs.Out.{Out}
use Rattle.at_base.specs.declared.outs.Out.TheVariants as outs
use Rattle.at_base.specs.declared.outs.Post.{Post}
use Rattle.at_base.specs.declared.record.Record.{Record}
use Rattle.at_model.specs.Book.{Book}
use Rattle.at_model.specs.Step.{Outcome, Plan, is_due, items_of, plan}
use Rattle.at_model.specs.World.{Node, Posted, Turning, World, accepted_in, counted, due_step, due_steps, happened_at, nth, put_book, put_nth, receiver_of, send_all, step_by, take_step, take_turn, turned, with_post, with_record, Traced, traced}
use Rattle.model_laws.specs.ReachedWorlds.{post_all}
use Rattle.model_laws.proofs.Nodes.{put_put, put_same}
use Rattle.model_laws.proofs.NodeLives.{put_this}
use Rattle.settling.specs.Load.{Prices, load, post_weight, posts_in, weights}
use Rattle.settling.specs.Payments.{IsSteady, after}
use Rattle.settling.proofs.BookPayments.{stays_steady, step_within}

-- prices of nothing, for what holds whatever it costs
pub no_prices : Prices
no_prices = record { seat = 0; other = 0; making = 0 }

abbrev pub posted_weight : Prices → Posted → ℕ
posted_weight P p = post_weight P p.content

abbrev pub queued : Prices → List Posted → ℕ
queued P ps = sum_by (posted_weight P) ps

-- no fate is told, and no stop comes
abbrev pub calm : World → Book → List Traced → Turning
calm w b t = record { world = w; book = b; fates = []; until = None; trace = t }

send_calm : (n : ℕ) (os : List Out) (w : World) (b : Book) (t : List Traced) → send_all n os (calm w b t) ≡ calm (post_all n (posts_in os) w) b t
send_calm n [] w b t = refl
send_calm n (outs.Post p ∷ os) w b t = send_calm n os (with_post n p w) b t
send_calm n (outs.Answer status reply ∷ os) w b t = send_calm n os w b t

-- what is posted
abbrev pub posted_by : ℕ → List Node → Post → Posted
posted_by n nodes p = record { sender = n; receiver = receiver_of nodes p.to; content = p }

pub posts_nodes : (n : ℕ) (ps : List Post) (w : World) → (post_all n ps w).nodes ≡ w.nodes
posts_nodes n [] w = refl
posts_nodes n (p ∷ ps) w = posts_nodes n ps (with_post n p w)

posts_posted : (n : ℕ) (ps : List Post) (w : World) → (post_all n ps w).posted ≡ w.posted ++ map (posted_by n w.nodes) ps
posts_posted n [] w = sym (append-nil w.posted)
posts_posted n (p ∷ ps) w = posts_posted n ps (with_post n p w) ∙ append_assoc w.posted (posted_by n w.nodes p ∷ []) (map (posted_by n w.nodes) ps)

posts_queued : (P : Prices) (n : ℕ) (nodes : List Node) (ps : List Post) → queued P (map (posted_by n nodes) ps) ≡ weights P ps
posts_queued P n nodes [] = refl
posts_queued P n nodes (p ∷ ps) =
    omega (arith, sum_by-cons (posted_weight P) (posted_by n nodes p) (map (posted_by n nodes) ps), sum_by-cons (post_weight P) p ps, posts_queued P n nodes ps)

-- A turn on its way: what it has posted and what the book holds are within the budget.
pub record Stands (P : Prices) (n now budget : ℕ) (w u : World) (b : Book) : Type 0 where
  pub steady : IsSteady b
  pub node : Node
  pub found : nth n u.nodes ≡ Some node
  pub nodes : u.nodes ≡ put_nth n node w.nodes
  pub clock : node.clock ≡ now
  pub new : List Posted
  pub posted : u.posted ≡ w.posted ++ new
  pub paid : queued P new + load P now b ≤ budget

pub record Goes (P : Prices) (n now budget : ℕ) (w : World) (r : Turning) : Type 0 where
  pub world : World
  pub book : Book
  pub trace : List Traced
  pub is : r ≡ calm world book trace
  pub stands : Stands P n now budget w world book

-- What a step of a turn leads to: this book, with these posts behind the others.
pub record Took (P : Prices) (n now limit : ℕ) (w : World) (before : List Posted) (o : Outcome) (r : Turning) : Type 0 where
  pub goes : Goes P n now limit w r
  pub book : goes.book ≡ o.book
  pub nodes : List Node
  pub new : goes.stands.new ≡ before ++ map (posted_by n nodes) (posts_in o.outs)

counted_took : (P : Prices) (n now budget more limit : ℕ) (w u : World) (b : Book) (t : List Traced) (o : Outcome) → (s : Stands P n now budget w u b) → IsSteady o.book → after P now o ≤ load P now b + more
    → budget + more ≤ limit → Took P n now limit w s.new o (counted n o (calm u b t))
counted_took P n now budget more limit w u b t o s steady paid less =
    let v : World = record u { accepted = u.accepted ++ accepted_in n u.nodes b o.book.transactions; happened = u.happened ++ map (happened_at n) o.effects } in
    let ps : List Post = posts_in o.outs in
    record {
      goes = record {
        world = post_all n ps v;
        book = o.book;
        trace = t ++ traced o (calm u b t) ∷ [];
        is = send_calm n o.outs v o.book (t ++ traced o (calm u b t) ∷ []);
        stands = record {
          steady = steady;
          node = s.node;
          found = ap (nth n) (posts_nodes n ps v) ∙ s.found;
          nodes = posts_nodes n ps v ∙ s.nodes;
          clock = s.clock;
          new = s.new ++ map (posted_by n u.nodes) ps;
          posted = posts_posted n ps v ∙ ap (λ l. l ++ map (posted_by n u.nodes) ps) s.posted ∙ append_assoc w.posted s.new (map (posted_by n u.nodes) ps);
          paid = omega (arith, s.paid, paid, less, sum_by-append (posted_weight P) s.new (map (posted_by n u.nodes) ps), posts_queued P n u.nodes ps);
        };
      };
      book = refl;
      nodes = u.nodes;
      new = refl;
    }

journaled_stands : (P : Prices) (n now budget : ℕ) (w u : World) (b : Book) (entry : Record) → Stands P n now budget w u b → Stands P n now budget w (with_record n entry u (nth n u.nodes)) b
journaled_stands P n now budget w u b entry s =
    let x : Node = record s.node { journal = s.node.journal ++ entry ∷ [] } in
    record {
      steady = s.steady;
      node = x;
      found = ap (λ o. nth n (with_record n entry u o).nodes) s.found ∙ put_this u.nodes n s.node x s.found;
      nodes = ap (λ o. (with_record n entry u o).nodes) s.found ∙ ap (put_nth n x) s.nodes ∙ put_put n s.node x w.nodes;
      clock = s.clock;
      new = s.new;
      posted = ap (λ o. (with_record n entry u o).posted) s.found ∙ s.posted;
      paid = s.paid;
    }

pub take_took : (P : Prices) (n now budget more limit : ℕ) (w u : World) (b : Book) (t : List Traced) (p : Plan) → (s : Stands P n now budget w u b) → IsSteady p.landed.book
    → after P now p.landed ≤ load P now b + more → budget + more ≤ limit → Took P n now limit w s.new p.landed (take_step n p (calm u b t))
unfolding journaled_stands
take_took P n now budget more limit w u b t p s steady paid less = by_entry p.entry
  where
    by_entry : (entry : Option Record) → Took P n now limit w s.new p.landed (step_by n entry p (calm u b t))
    by_entry None = counted_took P n now budget more limit w u b t p.landed s steady paid less
    by_entry (Some entry) =
        counted_took P n now budget more limit w (with_record n entry u (nth n u.nodes)) b t p.landed (journaled_stands P n now budget w u b entry s) steady paid less

take_goes : (P : Prices) (n now budget more limit : ℕ) (w u : World) (b : Book) (t : List Traced) (p : Plan) → Stands P n now budget w u b → IsSteady p.landed.book
    → after P now p.landed ≤ load P now b + more → budget + more ≤ limit → Goes P n now limit w (take_step n p (calm u b t))
take_goes P n now budget more limit w u b t p s steady paid less = (take_took P n now budget more limit w u b t p s steady paid less).goes

-- the due steps
due_goes : (P : Prices) (n now budget : ℕ) (w u : World) (b : Book) (t : List Traced) (item : Item) → Stands P n now budget w u b → Goes P n now budget w (due_step n now item (calm u b t))
due_goes P n now budget w u b t item s = by_due (is_due b now item)
  where
    by_due : (c : Bool) → Goes P n now budget w (if c then take_step n (plan b (events.Due item) now) (calm u b t) else calm u b t)
    by_due true =
        take_goes P n now budget 0 budget w u b t (plan b (events.Due item) now) s (stays_steady b (events.Due item) now true s.steady)
        (step_within P b (events.Due item) now true s.steady tt).paid (omega arith)
    by_due false = record { world = u; book = b; trace = t; is = refl; stands = s }

dues_go : (P : Prices) (n now budget : ℕ) (w : World) (items : List Item) (r : Turning) → Goes P n now budget w r → Goes P n now budget w (due_steps n now items r)
dues_go P n now budget w [] r g = g
dues_go P n now budget w (item ∷ rest) r g =
    dues_go P n now budget w rest (due_step n now item r)
    (subst (λ t. Goes P n now budget w (due_step n now item t)) (sym g.is) (due_goes P n now budget w g.world g.book g.trace item g.stands))

-- A turn that is over.
pub record Turned (P : Prices) (n now budget : ℕ) (w v : World) : Type 0 where
  pub node : Node
  pub book : Book
  pub up : node.book ≡ Some book
  pub clock : node.clock ≡ now
  pub steady : IsSteady book
  pub nodes : v.nodes ≡ put_nth n node w.nodes
  pub new : List Posted
  pub posted : v.posted ≡ w.posted ++ new
  pub paid : queued P new + load P now book ≤ budget

ends : (P : Prices) (n now budget : ℕ) (w : World) (r : Turning) → Goes P n now budget w r → Turned P n now budget w (turned n r)
ends P n now budget w r g =
    let s : Stands P n now budget w g.world g.book = g.stands in
    let x : Node = record s.node { book = Some g.book } in
    subst (λ t. Turned P n now budget w (turned n t)) (sym g.is)
    (subst (λ o. Turned P n now budget w (put_book n (Some g.book) g.world o)) (sym s.found)
    (record {
      node = x;
      book = g.book;
      up = refl;
      clock = s.clock;
      steady = s.steady;
      nodes = ap (put_nth n x) s.nodes ∙ put_put n s.node x w.nodes;
      new = s.new;
      posted = s.posted;
      paid = s.paid;
    }))

pub turn_ends : (P : Prices) (n now more limit : ℕ) (w : World) (x : Node) (b : Book) (p : Plan) → nth n w.nodes ≡ Some x → x.clock ≡ now → IsSteady b → IsSteady p.landed.book
    → after P now p.landed ≤ load P now b + more → load P now b + more ≤ limit → Turned P n now limit w (take_turn n now p (calm w b []))
turn_ends P n now more limit w x b p found clock steady stays paid less =
    let begun : Stands P n now (load P now b) w w b = record {
      steady = steady;
      node = x;
      found = found;
      nodes = sym (put_same n x w.nodes found);
      clock = clock;
      new = [];
      posted = sym (append-nil w.posted);
      paid = omega arith;
    } in
    let r : Turning = take_step n p (calm w b []) in
    ends P n now limit w (due_steps n now (items_of r.book) r)
    (dues_go P n now limit w (items_of r.book) r (take_goes P n now (load P now b) more limit w w b [] p begun stays paid less))
