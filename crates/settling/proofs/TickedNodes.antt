-- Once a node has ticked, each of its transactions and leaves has sent again what it waits for.
use Rattle.std.specs.Prelude.{ℕ, List, [], ◌∷◌, ◌++◌, Option, Some, None, true, ◌+◌, map, ◌≡◌, ◌≤◌, ◌⊎◌, refl}
use Rattle.std.specs.List.{AllByRecursion}
use Rattle.std.proofs.Common.{arith, sym, subst, ap, inl, inr, ◌∙◌}
use Rattle.std.proofs.lemmas.Bool.{le-leb}
use Rattle.at_base.specs.Numbers.{Numbers}
use Rattle.at_base.specs.declared.event.Event.TheVariants as events
use Rattle.at_base.specs.declared.event.Item.{Item}
use Rattle.at_base.specs.declared.event.Item.TheVariants as items
use Rattle.at_base.specs.declared.outs.Post.{Post}
use Rattle.at_model.specs.Book.{Book, Leaf, Phase, Transaction, leaf_id, transaction_id}
use Rattle.at_model.specs.Due.{is_quiet, leaf_again, transaction_again}
use Rattle.at_base.specs.declared.limits.TheConstants.{RESEND_AFTER}
use Rattle.at_model.specs.Step.{activity_item, at_time, items_of, leaf_at, leaf_item, moment_of, plan, transaction_at, transaction_item}
use Rattle.at_model.specs.World.{Node, Posted, Tick, Turn, Turning, World, WorldEvent, due_steps, nth, run_of, take_step, Hosts}
use Rattle.model_laws.specs.Agreement.{IsIn}
use Rattle.settling.specs.Resends.{ArePosted, HasPosted, TicksAsk, ticked_at}
use Rattle.settling.specs.Load.{load}
use Rattle.settling.specs.Payments.{IsSteady}
use Rattle.settling.proofs.Due.{AreAmong, HasAsked}
use Rattle.settling.proofs.DueLeaves.{LeafAsked}
use Rattle.settling.proofs.BookPayments.{stays_steady, step_within}
use Rattle.settling.proofs.TurnCosts.{Stands, Took, calm, take_took, no_prices}
use Rattle.std.proofs.lemmas.List.{append-nil}
use Rattle.at_model.specs.World.{at_some_node, later, on_book, put_book, ticked, turn, turned, world_step}
use Rattle.model_laws.proofs.DecisionLaws.{all_find, found_id}
use Rattle.model_laws.proofs.Nodes.{put_same}
use Rattle.model_laws.proofs.ReachedWorlds.{run_reached}
use Rattle.model_laws.proofs.NodeLives.{put_this}
use Rattle.agreement.proofs.WaitingLeaves.{found_in}
use Rattle.settling.specs.Times.{IsBy, SentBy}
use Rattle.settling.proofs.Resends.{Asked, AsksOn, contents, dues_on, plain_moment, from_plain, took_asked}
use Rattle.settling.proofs.BookPayments.{steady_books}
use Rattle.settling.proofs.Times.{times_pass}

-- all is quiet by then
quiet_after : (seen clock : ℕ) (o : Option ℕ) → IsBy seen o → seen ≤ clock → is_quiet (clock + RESEND_AFTER) o ≡ true
quiet_after seen clock None h k = refl
quiet_after seen clock (Some s) h k = le-leb (s + RESEND_AFTER) (clock + RESEND_AFTER) (omega (arith, h, k))

-- each item of a book is asked whether it is due
in_front : (x : Item) (xs ys : List Item) → IsIn x xs → IsIn x (xs ++ ys)
in_front x [] ys h = absurd h
in_front x (y ∷ xs) ys (inl e) = inl e
in_front x (y ∷ xs) ys (inr h) = inr (in_front x xs ys h)

behind : (x : Item) (xs ys : List Item) → IsIn x ys → IsIn x (xs ++ ys)
behind x [] ys h = h
behind x (y ∷ xs) ys h = inr (behind x xs ys h)

in_map : {A : Type 0} (f : A → Item) (a : A) (xs : List A) → IsIn a xs → IsIn (f a) (map f xs)
in_map f a [] h = absurd h
in_map f a (x ∷ xs) (inl e) = inl (ap f e)
in_map f a (x ∷ xs) (inr h) = inr (in_map f a xs h)

transaction_listed : (b : Book) (id : Numbers) (t : Transaction) → transaction_at b id ≡ Some t → IsIn (items.Transaction id) (items_of b)
transaction_listed b id t e =
    subst (λ i. IsIn (items.Transaction i) (items_of b)) (found_id transaction_id id b.transactions t e)
    (in_front (transaction_item t) (map transaction_item b.transactions) _ (in_map transaction_item t b.transactions (found_in transaction_id id b.transactions t e)))

leaf_listed : (b : Book) (id : Numbers) (l : Leaf) → leaf_at b id ≡ Some l → IsIn (items.Leaf id) (items_of b)
leaf_listed b id l e =
    subst (λ i. IsIn (items.Leaf i) (items_of b)) (found_id leaf_id id b.leaves l e)
    (behind (leaf_item l) (map transaction_item b.transactions) _
    (in_front (leaf_item l) (map leaf_item b.leaves) (map activity_item b.activities) (in_map leaf_item l b.leaves (found_in leaf_id id b.leaves l e))))

-- a tick at a node that is up
record HasTicked (n : ℕ) (w v : World) : Type 0 where
  book : Book
  now : ℕ
  new : List Posted
  posted : v.posted ≡ w.posted ++ new
  up : (x : Node) (b : Book) → nth n v.nodes ≡ Some x → x.book ≡ Some b → b ≡ book
  asked : Asked now book.base book (contents new) []

same_some : {A : Type 0} (a b : A) → Some a ≡ Some b → a ≡ b
same_some a b e = cc

turn_asks : (n now : ℕ) (base : List ℕ) (w v : World) (r : Turning) → v.posted ≡ w.posted → AsksOn n now base v [] r → HasTicked n w (turned n r)
turn_asks n now base w v r same a =
    let s : Stands no_prices n now a.budget v a.goes.world a.goes.book = a.goes.stands in
    let y : Node = record s.node { book = Some a.goes.book } in
    subst (λ t. HasTicked n w (turned n t)) (sym a.goes.is)
    (subst (λ o. HasTicked n w (put_book n (Some a.goes.book) a.goes.world o)) (sym s.found)
    (record {
      book = a.goes.book;
      now = now;
      new = s.new;
      posted = s.posted ∙ ap (λ l. l ++ s.new) same;
      up = λ x b found up.
          let one : y ≡ x = same_some y x (sym (put_this a.goes.world.nodes n s.node y s.found) ∙ found) in
          same_some b a.goes.book (sym up ∙ ap (λ (z : Node). z.book) (sym one));
      asked = subst (λ c. Asked now c a.goes.book (contents s.new) []) (sym a.asked.based) a.asked;
    }))

tick_asks : (n : ℕ) (w : World) (x : Node) (b : Book) → nth n w.nodes ≡ Some x → x.book ≡ Some b → IsSteady b → SentBy b.seen b → b.seen ≤ x.clock
    → HasTicked n w (turn n (Tick RESEND_AFTER) [] None x b w)
tick_asks n w x b found up g sent seen =
    let now : ℕ = x.clock + RESEND_AFTER in
    let y : Node = later RESEND_AFTER x in
    let v : World = ticked n y w in
    let c : Book = at_time now b in
    let there : nth n v.nodes ≡ Some y = put_this w.nodes n x y found in
    let begun : Stands no_prices n now (load no_prices now b) v v b = record {
      steady = g;
      node = y;
      found = there;
      nodes = sym (put_same n y v.nodes there);
      clock = refl;
      new = [];
      posted = sym (append-nil v.posted);
      paid = omega arith;
    } in
    let budget : ℕ = load no_prices now b + 0 in
    let r : Turning = take_step n (plan b events.Tick now) (calm v b []) in
    let t : Took no_prices n now budget v [] (plan b events.Tick now).landed r =
    take_took no_prices n now (load no_prices now b) 0 budget v v b [] (plan b events.Tick now) begun (stays_steady b events.Tick now true g)
    (step_within no_prices b events.Tick now true g tt).paid (omega arith) in
    let first : Asked now b.base c ([] ++ []) (items_of c) = record {
      based = refl;
      transactions = λ id z e. inl (transaction_listed b id z e, quiet_after b.seen x.clock z.sent (all_find (λ q. IsBy b.seen q.sent) transaction_id id b.transactions z sent.transactions e) seen);
      leaves = λ id l e. inl (leaf_listed b id l e, quiet_after b.seen x.clock l.sent (all_find (λ q. IsBy b.seen q.sent) leaf_id id b.leaves l sent.leaves e) seen);
    } in
    let a : AsksOn n now b.base v (items_of c) r = took_asked n now budget b.base v [] (plan b events.Tick now).landed r (items_of c) t first in
    let so_far : items_of r.book ≡ items_of t.goes.book = ap (λ (q : Turning). items_of q.book) t.goes.is in
    let as_before : items_of t.goes.book ≡ items_of c = ap items_of t.book in
    let listed : items_of r.book ≡ items_of c = so_far ∙ as_before in
    turn_asks n now b.base w v (due_steps n now (items_of r.book) r) refl
    (dues_on n now b.base v (items_of r.book) r (subst (λ l. AsksOn n now b.base v l r) (sym listed) a))

-- any tick
none_there : {A : Type 0} (o : Option A) (x : A) → o ≡ None → o ≡ Some x → ⊥
none_there o x e f = cc

world_ticked : (hosts : Hosts) (es : List WorldEvent) (n : ℕ) (y : Node) (c : Book) → nth n (ticked_at n (run_of hosts es)).nodes ≡ Some y → y.book ≡ Some c
    → HasTicked n (run_of hosts es) (ticked_at n (run_of hosts es))
unfolding world_step
world_ticked hosts es n y c = by_node (nth n w.nodes) refl
  where
    w : World
    w = run_of hosts es

    by_book : (x : Node) (o : Option Book) → nth n w.nodes ≡ Some x → x.book ≡ o → nth n (on_book o (λ b. turn n (Tick RESEND_AFTER) [] None x b w) w).nodes ≡ Some y → y.book ≡ Some c
        → HasTicked n w (on_book o (λ b. turn n (Tick RESEND_AFTER) [] None x b w) w)
    by_book x None found down there up =
        let one : x ≡ y = same_some x y (sym found ∙ there) in
        absurd (none_there y.book c (sym (ap (λ (z : Node). z.book) one) ∙ down) up)
    by_book x (Some b) found up there more =
        tick_asks n w x b found up (steady_books hosts w (run_reached hosts es) n x b found up) (times_pass.sent hosts es n x b found up) (times_pass.seen hosts es n x b found up)

    by_node : (o : Option Node) → nth n w.nodes ≡ o → nth n (at_some_node (Turn n (Tick RESEND_AFTER) [] None) o w).nodes ≡ Some y → y.book ≡ Some c
        → HasTicked n w (at_some_node (Turn n (Tick RESEND_AFTER) [] None) o w)
    by_node None found there up = absurd (none_there (nth n w.nodes) y found there)
    by_node (Some x) found there up = by_book x x.book found refl there up

-- what is among the contents was posted
each_posted : (new : List Posted) (ps : List Post) → AreAmong (contents new) ps → AllByRecursion (HasPosted new) ps
each_posted new [] h = tt
each_posted new (p ∷ ps) (i, h) = (posted_in new i, each_posted new ps h)
  where
    posted_in : (qs : List Posted) → IsIn p (contents qs) → HasPosted qs p
    posted_in [] i = absurd i
    posted_in (q ∷ qs) (inl e) = (q, inl refl, sym e)
    posted_in (q ∷ qs) (inr i) = let (z, there, same) = posted_in qs i in (z, inr there, same)

pub ticks_ask : TicksAsk
ticks_ask = record {
  transactions = λ hosts es n x b id t found up e.
      let h : HasTicked n (run_of hosts es) (ticked_at n (run_of hosts es)) = world_ticked hosts es n x b found up in
      let same : b ≡ h.book = h.up x b found up in
      by_asked hosts es n b id t h same (h.asked.transactions id t (subst (λ c. transaction_at c id ≡ Some t) same e));
  leaves = λ hosts es n x b id l found up e.
      let h : HasTicked n (run_of hosts es) (ticked_at n (run_of hosts es)) = world_ticked hosts es n x b found up in
      let same : b ≡ h.book = h.up x b found up in
      by_leaf hosts es n x b id l h same (h.asked.leaves id l (subst (λ c. leaf_at c id ≡ Some l) same e));
}
  where
    by_asked : (hosts : Hosts) (es : List WorldEvent) (n : ℕ) (b : Book) (id : Numbers) (t : Transaction) (h : HasTicked n (run_of hosts es) (ticked_at n (run_of hosts es))) → b ≡ h.book
        → (IsIn (items.Transaction id) [] × (is_quiet h.now t.sent ≡ true)) ⊎ HasAsked h.book.base (contents h.new) t
        → (t.phase ≡ Phase.Aborting) ⊎ ArePosted (run_of hosts es) (ticked_at n (run_of hosts es)) (transaction_again b.base t)
    by_asked hosts es n b id t h same (inl (i, q)) = absurd i
    by_asked hosts es n b id t h same (inr (inl e)) = inl e
    by_asked hosts es n b id t h same (inr (inr k)) =
        inr (record {
          new = h.new;
          posted = h.posted;
          each = each_posted h.new (transaction_again b.base t) (subst (λ (c : Book). AreAmong (contents h.new) (transaction_again c.base t)) (sym same) k);
        })

    by_leaf : (hosts : Hosts) (es : List WorldEvent) (n : ℕ) (x : Node) (b : Book) (id : Numbers) (l : Leaf) (h : HasTicked n (run_of hosts es) (ticked_at n (run_of hosts es))) → b ≡ h.book
        → (IsIn (items.Leaf id) [] × (is_quiet h.now l.sent ≡ true)) ⊎ LeafAsked (plain_moment h.book.base) (contents h.new) l
        → ArePosted (run_of hosts es) (ticked_at n (run_of hosts es)) (leaf_again (moment_of b x.clock) l)
    by_leaf hosts es n x b id l h same (inl (i, q)) = absurd i
    by_leaf hosts es n x b id l h same (inr k) = record {
      new = h.new;
      posted = h.posted;
      each = each_posted h.new (leaf_again (moment_of b x.clock) l) (from_plain (moment_of b x.clock) h.book.base (contents h.new) l (ap (λ (c : Book). c.base) same) k);
    }
