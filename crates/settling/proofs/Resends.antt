-- Once a node has ticked, each of its transactions and leaves has sent again what it waits for.
use Rattle.std.specs.Prelude.{ℕ, List, [], ◌∷◌, ◌++◌, Option, Some, None, Bool, true, false, ◌+◌, if◌then◌else◌, map, ◌≡◌, ◌⊎◌, refl}
use Rattle.std.proofs.Common.{arith, sym, subst, ap, inl, inr, ◌∙◌}
use Rattle.std.proofs.lemmas.List.{map-append}
use Rattle.at_base.specs.Numbers.{Numbers}
use Rattle.at_base.specs.declared.event.Event.TheVariants as events
use Rattle.at_base.specs.declared.event.Item.{Item}
use Rattle.at_base.specs.declared.event.Item.TheVariants as items
use Rattle.at_base.specs.declared.event.Moment.{Moment}
use Rattle.at_base.specs.declared.outs.Post.{Post}
use Rattle.at_model.specs.Book.{Book, Leaf, Transaction, find_by, is_id, leaf_id, transaction_id}
use Rattle.at_model.specs.Due.{is_quiet, leaf_again}
use Rattle.at_model.specs.Step.{Outcome, is_due, leaf_at, moment_of, plan, step, transaction_at}
use Rattle.at_model.specs.World.{Node, Posted, Turning, World, due_step, due_steps, take_step}
use Rattle.model_laws.specs.Agreement.{IsIn}
use Rattle.model_laws.proofs.StepShapes.{steps_keep_place}
use Rattle.model_laws.proofs.RecoveryLaws.{same_id, self_id}
use Rattle.settling.specs.Load.{posts_in}
use Rattle.settling.specs.Payments.{IsSteady}
use Rattle.settling.proofs.Due.{AreAmong, HasAsked, activity_due_same, due_none, due_other, due_transaction, leaf_due_same, more_asked, more_among, undue_transaction}
use Rattle.settling.proofs.DueLeaves.{LeafAsked, activity_due_leaves, due_leaf, leaf_due_none, leaf_other, transaction_due_leaves, undue_leaf}
use Rattle.settling.proofs.BookPayments.{stays_steady, step_within}
use Rattle.settling.proofs.TurnCosts.{Goes, Stands, Took, calm, posted_by, take_took, no_prices}

-- what was posted, and which items are still to come
abbrev pub contents : List Posted → List Post
contents ps = map (λ q. q.content) ps

abbrev pub plain_moment : List ℕ → Moment
plain_moment base = record { now = 0; next = None; base = base }

pub record Asked (now : ℕ) (base : List ℕ) (b : Book) (all : List Post) (rest : List Item) : Type 0 where
  pub based : b.base ≡ base
  pub transactions : (id : Numbers) (t : Transaction) → transaction_at b id ≡ Some t → (IsIn (items.Transaction id) rest × (is_quiet now t.sent ≡ true)) ⊎ HasAsked base all t
  pub leaves : (id : Numbers) (l : Leaf) → leaf_at b id ≡ Some l → (IsIn (items.Leaf id) rest × (is_quiet now l.sent ≡ true)) ⊎ LeafAsked (plain_moment base) all l

-- a step: its own item has asked behind it, and the others stand as they did
in_rest : (x : Item) (y : Item) (rest : List Item) → IsIn x (y ∷ rest) → (x ≡ y → ⊥) → IsIn x rest
in_rest x y rest (inl e) h = absurd (h e)
in_rest x y rest (inr i) h = i

other_id : (j id : Numbers) → is_id j id ≡ false → id ≡ j → ⊥
other_id j id e same = let own : is_id j id ≡ true = subst (λ i. is_id j i ≡ true) (sym same) (self_id j) in no_both (is_id j id) own e
  where
    no_both : (b : Bool) → b ≡ true → b ≡ false → ⊥
    no_both b f g = cc

still_there : (F : Numbers → Item) (now : ℕ) (sent : Option ℕ) (item : Item) (rest : List Item) (id : Numbers) (P Q : Type 0) → (F id ≡ item → ⊥) → (P → Q)
    → (IsIn (F id) (item ∷ rest) × (is_quiet now sent ≡ true)) ⊎ P → (IsIn (F id) rest × (is_quiet now sent ≡ true)) ⊎ Q
still_there F now sent item rest id P Q other more (inl (i, q)) = inl (in_rest (F id) item rest i other, q)
still_there F now sent item rest id P Q other more (inr h) = inr (more h)

ready : (F : Numbers → Item) (now : ℕ) (sent : Option ℕ) (rest : List Item) (id : Numbers) (P : Type 0) → (IsIn (F id) rest × (is_quiet now sent ≡ true)) ⊎ P → (is_quiet now sent ≡ true) ⊎ P
ready F now sent rest id P (inl (i, q)) = inl q
ready F now sent rest id P (inr h) = inr h

more_leaf : (base : List ℕ) (all more : List Post) (l : Leaf) → LeafAsked (plain_moment base) all l → LeafAsked (plain_moment base) (all ++ more) l
more_leaf base all more l h = more_among all more (leaf_again (plain_moment base) l) h

-- the transactions, behind a step of a transaction
own_transaction : (b : Book) (now : ℕ) (base : List ℕ) (all : List Post) (j id : Numbers) (rest : List Item) → IsSteady b → Asked now base b all (items.Transaction j ∷ rest) → is_id j id ≡ true → (new : Transaction)
    → transaction_at (step b (events.Due (items.Transaction j)) now true).book id ≡ Some new → HasAsked base (all ++ posts_in (step b (events.Due (items.Transaction j)) now true).outs) new
own_transaction b now base all j id rest g h e new is = by_old (transaction_at b j) refl
  where
    o : Outcome
    o = step b (events.Due (items.Transaction j)) now true

    here : transaction_at o.book j ≡ Some new
    here = subst (λ i. transaction_at o.book i ≡ Some new) (sym (same_id j id e)) is

    none_there : (x : Option Transaction) → x ≡ None → x ≡ Some new → ⊥
    none_there x f k = cc

    by_old : (x : Option Transaction) → transaction_at b j ≡ x → HasAsked base (all ++ posts_in o.outs) new
    by_old None none = absurd (none_there (transaction_at o.book j) (due_none b now j none) here)
    by_old (Some t) found =
        subst (λ c. HasAsked c (all ++ posts_in o.outs) new) h.based
        (due_transaction b now all j t new g.order found (own_ready (h.transactions j t found)) here)
      where
        own_ready : (IsIn (items.Transaction j) (items.Transaction j ∷ rest) × (is_quiet now t.sent ≡ true)) ⊎ HasAsked base all t → (is_quiet now t.sent ≡ true) ⊎ HasAsked b.base all t
        own_ready (inl (i, q)) = inl q
        own_ready (inr k) = inr (subst (λ c. HasAsked c all t) (sym h.based) k)

-- the leaves, behind a step of a leaf
to_plain : (m : Moment) (base : List ℕ) (all : List Post) (l : Leaf) → m.base ≡ base → LeafAsked m all l → LeafAsked (plain_moment base) all l
to_plain m base all l e h = subst (λ c. AreAmong all (leaf_again (plain_moment c) l)) e h

pub from_plain : (m : Moment) (base : List ℕ) (all : List Post) (l : Leaf) → m.base ≡ base → LeafAsked (plain_moment base) all l → LeafAsked m all l
from_plain m base all l e h = subst (λ c. AreAmong all (leaf_again (plain_moment c) l)) (sym e) h

own_leaf : (b : Book) (now : ℕ) (base : List ℕ) (all : List Post) (j id : Numbers) (rest : List Item) → IsSteady b → Asked now base b all (items.Leaf j ∷ rest) → is_id j id ≡ true → (new : Leaf)
    → leaf_at (step b (events.Due (items.Leaf j)) now true).book id ≡ Some new → LeafAsked (plain_moment base) (all ++ posts_in (step b (events.Due (items.Leaf j)) now true).outs) new
own_leaf b now base all j id rest g h e new is = by_old (leaf_at b j) refl
  where
    o : Outcome
    o = step b (events.Due (items.Leaf j)) now true

    here : leaf_at o.book j ≡ Some new
    here = subst (λ i. leaf_at o.book i ≡ Some new) (sym (same_id j id e)) is

    none_there : (x : Option Leaf) → x ≡ None → x ≡ Some new → ⊥
    none_there x f k = cc

    by_old : (x : Option Leaf) → leaf_at b j ≡ x → LeafAsked (plain_moment base) (all ++ posts_in o.outs) new
    by_old None none = absurd (none_there (leaf_at o.book j) (leaf_due_none b now j none) here)
    by_old (Some l) found =
        to_plain (moment_of b now) base (all ++ posts_in o.outs) new h.based (due_leaf b now all j l new g.order found (own_ready (h.leaves j l found)) here)
      where
        own_ready : (IsIn (items.Leaf j) (items.Leaf j ∷ rest) × (is_quiet now l.sent ≡ true)) ⊎ LeafAsked (plain_moment base) all l → (is_quiet now l.sent ≡ true) ⊎ LeafAsked (moment_of b now) all l
        own_ready (inl (i, q)) = inl q
        own_ready (inr k) = inr (from_plain (moment_of b now) base all l h.based k)

due_asked : (b : Book) (now : ℕ) (base : List ℕ) (all : List Post) (item : Item) (rest : List Item) → IsSteady b → Asked now base b all (item ∷ rest)
    → Asked now base (step b (events.Due item) now true).book (all ++ posts_in (step b (events.Due item) now true).outs) rest
due_asked b now base all (items.Transaction j) rest g h = record {
  based = (steps_keep_place b (events.Due (items.Transaction j)) now true).base ∙ h.based;
  transactions = λ id t e. by_id id t e (is_id j id) refl;
  leaves = λ id l e.
      still_there items.Leaf now l.sent (items.Transaction j) rest id (LeafAsked (plain_moment base) all l) (LeafAsked (plain_moment base) (all ++ posts_in o.outs) l) (λ f. cc) (more_leaf base all (posts_in o.outs) l)
      (h.leaves id l (sym (ap (find_by leaf_id id) (transaction_due_leaves b now j)) ∙ e));
}
  where
    o : Outcome
    o = step b (events.Due (items.Transaction j)) now true

    same_item : (id : Numbers) → items.Transaction id ≡ items.Transaction j → id ≡ j
    same_item id e = cc

    by_id : (id : Numbers) (t : Transaction) → transaction_at o.book id ≡ Some t → (c : Bool) → is_id j id ≡ c
        → (IsIn (items.Transaction id) rest × (is_quiet now t.sent ≡ true)) ⊎ HasAsked base (all ++ posts_in o.outs) t
    by_id id t e true f = inr (own_transaction b now base all j id rest g h f t e)
    by_id id t e false f =
        still_there items.Transaction now t.sent (items.Transaction j) rest id (HasAsked base all t) (HasAsked base (all ++ posts_in o.outs) t) (λ k. other_id j id f (same_item id k))
        (more_asked base all (posts_in o.outs) t) (h.transactions id t (sym (due_other b now j id f) ∙ e))
due_asked b now base all (items.Leaf j) rest g h = record {
  based = (steps_keep_place b (events.Due (items.Leaf j)) now true).base ∙ h.based;
  transactions = λ id t e.
      still_there items.Transaction now t.sent (items.Leaf j) rest id (HasAsked base all t) (HasAsked base (all ++ posts_in o.outs) t) (λ f. cc) (more_asked base all (posts_in o.outs) t)
      (h.transactions id t (sym (ap (find_by transaction_id id) (leaf_due_same b now j)) ∙ e));
  leaves = λ id l e. by_id id l e (is_id j id) refl;
}
  where
    o : Outcome
    o = step b (events.Due (items.Leaf j)) now true

    same_item : (id : Numbers) → items.Leaf id ≡ items.Leaf j → id ≡ j
    same_item id e = cc

    by_id : (id : Numbers) (l : Leaf) → leaf_at o.book id ≡ Some l → (c : Bool) → is_id j id ≡ c
        → (IsIn (items.Leaf id) rest × (is_quiet now l.sent ≡ true)) ⊎ LeafAsked (plain_moment base) (all ++ posts_in o.outs) l
    by_id id l e true f = inr (own_leaf b now base all j id rest g h f l e)
    by_id id l e false f =
        still_there items.Leaf now l.sent (items.Leaf j) rest id (LeafAsked (plain_moment base) all l) (LeafAsked (plain_moment base) (all ++ posts_in o.outs) l) (λ k. other_id j id f (same_item id k))
        (more_leaf base all (posts_in o.outs) l) (h.leaves id l (sym (leaf_other b now j id f) ∙ e))
due_asked b now base all (items.Activity j) rest g h = record {
  based = (steps_keep_place b (events.Due (items.Activity j)) now true).base ∙ h.based;
  transactions = λ id t e.
      still_there items.Transaction now t.sent (items.Activity j) rest id (HasAsked base all t) (HasAsked base (all ++ posts_in o.outs) t) (λ f. cc) (more_asked base all (posts_in o.outs) t)
      (h.transactions id t (sym (ap (find_by transaction_id id) (activity_due_same b now j)) ∙ e));
  leaves = λ id l e.
      still_there items.Leaf now l.sent (items.Activity j) rest id (LeafAsked (plain_moment base) all l) (LeafAsked (plain_moment base) (all ++ posts_in o.outs) l) (λ f. cc) (more_leaf base all (posts_in o.outs) l)
      (h.leaves id l (sym (ap (find_by leaf_id id) (activity_due_leaves b now j)) ∙ e));
}
  where
    o : Outcome
    o = step b (events.Due (items.Activity j)) now true

-- where the item isn't due it has nothing to ask
undue_asked : (b : Book) (now : ℕ) (base : List ℕ) (all : List Post) (item : Item) (rest : List Item) → is_due b now item ≡ false → Asked now base b all (item ∷ rest) → Asked now base b all rest
undue_asked b now base all item rest idle h = record {
  based = h.based;
  transactions = λ id t e. by_place id t e (h.transactions id t e);
  leaves = λ id l e. by_leaf id l e (h.leaves id l e);
}
  where
    by_place : (id : Numbers) (t : Transaction) → transaction_at b id ≡ Some t → (IsIn (items.Transaction id) (item ∷ rest) × (is_quiet now t.sent ≡ true)) ⊎ HasAsked base all t
        → (IsIn (items.Transaction id) rest × (is_quiet now t.sent ≡ true)) ⊎ HasAsked base all t
    by_place id t e (inr k) = inr k
    by_place id t e (inl (inr i, q)) = inl (i, q)
    by_place id t e (inl (inl same, q)) =
        inr (subst (λ c. HasAsked c all t) h.based (undue_transaction b now all id t e (ap (is_due b now) same ∙ idle) (inl q)))

    by_leaf : (id : Numbers) (l : Leaf) → leaf_at b id ≡ Some l → (IsIn (items.Leaf id) (item ∷ rest) × (is_quiet now l.sent ≡ true)) ⊎ LeafAsked (plain_moment base) all l
        → (IsIn (items.Leaf id) rest × (is_quiet now l.sent ≡ true)) ⊎ LeafAsked (plain_moment base) all l
    by_leaf id l e (inr k) = inr k
    by_leaf id l e (inl (inr i, q)) = inl (i, q)
    by_leaf id l e (inl (inl same, q)) =
        inr (to_plain (moment_of b now) base all l h.based (undue_leaf b now all id l e (ap (is_due b now) same ∙ idle) (inl q)))

-- a turn on its way through the items
pub record AsksOn (n now : ℕ) (base : List ℕ) (w : World) (rest : List Item) (r : Turning) : Type 0 where
  pub budget : ℕ
  pub goes : Goes no_prices n now budget w r
  pub asked : Asked now base goes.book (contents goes.stands.new) rest

contents_of : (n : ℕ) (nodes : List Node) (ps : List Post) → contents (map (posted_by n nodes) ps) ≡ ps
contents_of n nodes [] = refl
contents_of n nodes (p ∷ ps) = ap (λ l. p ∷ l) (contents_of n nodes ps)

pub took_asked : (n now budget : ℕ) (base : List ℕ) (w : World) (before : List Posted) (o : Outcome) (r : Turning) (rest : List Item) → (t : Took no_prices n now budget w before o r)
    → Asked now base o.book (contents before ++ posts_in o.outs) rest → AsksOn n now base w rest r
took_asked n now budget base w before o r rest t h =
    let ps : List Post = posts_in o.outs in
    let all : contents t.goes.stands.new ≡ contents before ++ ps =
    ap contents t.new ∙ map-append (λ q. q.content) before (map (posted_by n t.nodes) ps) ∙ ap (λ l. contents before ++ l) (contents_of n t.nodes ps) in
    record {
      budget = budget;
      goes = t.goes;
      asked = subst (λ l. Asked now base t.goes.book l rest) (sym all) (subst (λ b. Asked now base b (contents before ++ ps) rest) (sym t.book) h);
    }

due_on : (n now : ℕ) (base : List ℕ) (w : World) (item : Item) (rest : List Item) (r : Turning) → AsksOn n now base w (item ∷ rest) r → AsksOn n now base w rest (due_step n now item r)
due_on n now base w item rest r a =
    subst (λ t. AsksOn n now base w rest (due_step n now item t)) (sym a.goes.is) (by_due (is_due a.goes.book now item) refl)
  where
    b : Book
    b = a.goes.book

    s : Stands no_prices n now a.budget w a.goes.world b
    s = a.goes.stands

    o : Outcome
    o = step b (events.Due item) now true

    by_due : (c : Bool) → is_due b now item ≡ c → AsksOn n now base w rest (if c then take_step n (plan b (events.Due item) now) (calm a.goes.world b a.goes.trace) else calm a.goes.world b a.goes.trace)
    by_due true e =
        took_asked n now (a.budget + 0) base w s.new o (take_step n (plan b (events.Due item) now) (calm a.goes.world b a.goes.trace)) rest
        (take_took no_prices n now a.budget 0 (a.budget + 0) w a.goes.world b a.goes.trace (plan b (events.Due item) now) s (stays_steady b (events.Due item) now true s.steady)
        (step_within no_prices b (events.Due item) now true s.steady tt).paid (omega arith))
        (due_asked b now base (contents s.new) item rest s.steady a.asked)
    by_due false e = record {
      budget = a.budget;
      goes = record { world = a.goes.world; book = b; trace = a.goes.trace; is = refl; stands = s };
      asked = undue_asked b now base (contents s.new) item rest e a.asked;
    }

pub dues_on : (n now : ℕ) (base : List ℕ) (w : World) (rest : List Item) (r : Turning) → AsksOn n now base w rest r → AsksOn n now base w [] (due_steps n now rest r)
dues_on n now base w [] r a = a
dues_on n now base w (item ∷ rest) r a = dues_on n now base w rest (due_step n now item r) (due_on n now base w item rest r a)
