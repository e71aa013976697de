-- What a leaf that is due leaves: it has sent again what it waits for.
use Rattle.std.specs.Prelude.{ℕ, List, [], ◌∷◌, ◌++◌, Option, Some, None, Bool, true, false, ◌&&◌, if◌then◌else◌, map, ◌≡◌, ◌⊎◌, refl}
use Rattle.std.proofs.Common.{arith, sym, subst, ap, inl, inr, ◌∙◌}
use Rattle.at_base.specs.Numbers.{Numbers}
use Rattle.at_base.specs.declared.event.Event.TheVariants as events
use Rattle.at_base.specs.declared.event.Item.TheVariants as items
use Rattle.at_base.specs.declared.event.Moment.{Moment}
use Rattle.at_base.specs.declared.outs.Out.TheVariants as outs
use Rattle.at_base.specs.declared.outs.Post.{Post}
use Rattle.at_tables.specs.declared.cells.State.TheVariants as states
use Rattle.at_tables.specs.Names.{is_state}
use Rattle.at_model.specs.Book.{Activity, Book, is_id, Leaf, Transaction, leaf_id}
use Rattle.at_model.specs.Due.{activity_due, activity_reached, Expired, Nothing, Over, Reached, Unanswered, is_quiet, is_some_post, leaf_again, leaf_due, leaf_expires, leaf_reached, transaction_due, transaction_reached}
use Rattle.at_model.specs.Leaves.{leaf_aborts, leaf_refused}
use Rattle.at_model.specs.Moves.{Change, Decision, Goes, Records, begin, posts, stays}
use Rattle.at_model.specs.Step.{activity_at, activity_due_plan, activity_plan, at_time, due_plan, is_due, is_due_at, is_reached, leaf_at, leaf_due_plan, leaf_plan, moment_of, step, transaction_at, transaction_due_plan, transaction_plan}
use Rattle.model_laws.specs.Order.{IsInOrder}
use Rattle.model_laws.proofs.DecisionLaws.{IfThere, either_left, found_id}
use Rattle.agreement.proofs.OtherIds.{find_other, find_this}
use Rattle.settling.specs.Load.{posts_in}
use Rattle.settling.proofs.RegisterPayments.{posts_of}
use Rattle.at_model.specs.Step.{put_leaf}
use Rattle.settling.proofs.Due.{AreAmong, behind_among, more_among, quiet_later, unreached, left_found}

-- what is left of a leaf has asked
abbrev pub LeafAsked : Moment → List Post → Leaf → Type 0
LeafAsked m ps l = AreAmong ps (leaf_again m l)

abbrev Leaves : Moment → List Post → Change Leaf → Type 0
Leaves m all c = IfThere (LeafAsked m (all ++ c.posts)) c.item

leaf_nothing : (a q : Bool) (ps : List Post) → (if a then Expired else if q && is_some_post ps then Unanswered else Nothing) ≡ Nothing → q ≡ true → ps ≡ []
leaf_nothing true q ps e f = absurd cc
leaf_nothing false true [] e f = refl
leaf_nothing false true (p ∷ ps) e f = absurd cc
leaf_nothing false false ps e f = absurd cc

never_over : (a c : Bool) → (if a then Expired else if c then Unanswered else Nothing) ≡ Over → ⊥
never_over true c e = cc
never_over false true e = cc
never_over false false e = cc

leaf_change : Moment → Leaf → Reached → Change Leaf
leaf_change m l Expired = leaf_expires m l
leaf_change m l Over = stays (begin l)
leaf_change m l Unanswered = stays (posts (leaf_again m l) (begin (record l { sent = Some m.now })))
leaf_change m l Nothing = stays (begin l)

gone : (P : Leaf → Type 0) (m : Moment) (l : Leaf) → IfThere P (leaf_expires m l).item
gone P m l = either_left (λ c. IfThere P c.item) (is_state l.state states.Registering) (leaf_refused l) (leaf_aborts m None l) tt tt

leaf_leaves : (m : Moment) (all : List Post) (l : Leaf) (r : Reached) → (r ≡ Nothing → LeafAsked m all l) → (r ≡ Over → ⊥) → Leaves m all (leaf_change m l r)
unfolding leaf_change
leaf_leaves m all l Expired h k = either_left (Leaves m all) (is_state l.state states.Registering) (leaf_refused l) (leaf_aborts m None l) tt tt
leaf_leaves m all l Over h k = absurd (k refl)
leaf_leaves m all l Unanswered h k = behind_among all (leaf_again m l)
leaf_leaves m all l Nothing h k = more_among all [] (leaf_again m l) (h refl)

leaf_own : (m : Moment) (l : Leaf) (r : Reached) → IfThere (λ x. x.id ≡ l.id) (leaf_change m l r).item
unfolding leaf_change
leaf_own m l Expired = gone (λ x. x.id ≡ l.id) m l
leaf_own m l Over = refl
leaf_own m l Unanswered = refl
leaf_own m l Nothing = refl

pub due_leaf : (b : Book) (now : ℕ) (all : List Post) (id : Numbers) (l new : Leaf) → IsInOrder b → leaf_at b id ≡ Some l
    → (is_quiet now l.sent ≡ true) ⊎ LeafAsked (moment_of b now) all l → leaf_at (step b (events.Due (items.Leaf id)) now true).book id ≡ Some new
    → LeafAsked (moment_of b now) (all ++ posts_in (step b (events.Due (items.Leaf id)) now true).outs) new
unfolding due_plan leaf_reached leaf_change
due_leaf b now all id l new order found ready is =
    subst (λ o. leaf_at (leaf_due_plan b now o).landed.book id ≡ Some new → LeafAsked m (all ++ posts_in (leaf_due_plan b now o).landed.outs) new) (sym found)
    (by_reached (leaf_due m l) refl) is
  where
    m : Moment
    m = moment_of b now

    own : l.id ≡ id
    own = found_id leaf_id id b.leaves l found

    still_asks : (r : Reached) → leaf_due m l ≡ r → (is_quiet now l.sent ≡ true) ⊎ LeafAsked m all l → r ≡ Nothing → LeafAsked m all l
    still_asks r e (inr h) f = h
    still_asks r e (inl q) f =
        let none : leaf_again m l ≡ [] = leaf_nothing _ _ _ (e ∙ f) (quiet_later now m.now l.sent (omega arith) q) in
        subst (AreAmong all) (sym none) tt

    changed : (r : Reached) → leaf_due m l ≡ r → (c : Change Leaf) → c ≡ leaf_change m l r → leaf_at (put_leaf l.id (at_time now b) c.item) id ≡ Some new
        → LeafAsked m (all ++ posts_in ([] ++ map outs.Post c.posts)) new
    changed r e c same f =
        let kept : IfThere (λ x. x.id ≡ l.id) c.item = subst (λ x. IfThere (λ y. y.id ≡ l.id) x.item) (sym same) (leaf_own m l r) in
        let there : leaf_at b l.id ≡ Some l = subst (λ i. leaf_at b i ≡ Some l) (sym own) found in
        let put : leaf_at (put_leaf l.id (at_time now b) c.item) l.id ≡ c.item = find_this leaf_id l.id l c.item b.leaves order.rising.leaves there kept in
        let item : c.item ≡ Some new = sym put ∙ ap (leaf_at (put_leaf l.id (at_time now b) c.item)) own ∙ f in
        let asked : Leaves m all c = subst (Leaves m all) (sym same) (leaf_leaves m all l r (still_asks r e ready) (λ over. never_over _ _ (e ∙ over))) in
        subst (λ ps. LeafAsked m (all ++ ps) new) (sym (posts_of c.posts)) (left_found (LeafAsked m (all ++ c.posts)) c.item new asked item)

    by_reached : (r : Reached) → leaf_due m l ≡ r → leaf_at (leaf_plan b now [] l (leaf_reached m l r)).landed.book id ≡ Some new
        → LeafAsked m (all ++ posts_in (leaf_plan b now [] l (leaf_reached m l r)).landed.outs) new
    by_reached Expired e f = changed Expired e _ refl f
    by_reached Over e f = changed Over e _ refl f
    by_reached Unanswered e f = changed Unanswered e _ refl f
    by_reached Nothing e f = changed Nothing e _ refl f

pub undue_leaf : (b : Book) (now : ℕ) (all : List Post) (id : Numbers) (l : Leaf) → leaf_at b id ≡ Some l → is_due b now (items.Leaf id) ≡ false
    → (is_quiet now l.sent ≡ true) ⊎ LeafAsked (moment_of b now) all l → LeafAsked (moment_of b now) all l
undue_leaf b now all id l found e (inr h) = h
undue_leaf b now all id l found e (inl q) =
    let m : Moment = moment_of b now in
    let no : is_reached (leaf_due m l) ≡ false = sym (ap (is_due_at (leaf_due m)) found) ∙ e in
    let none : leaf_again m l ≡ [] = leaf_nothing _ _ _ (unreached (leaf_due m l) no) (quiet_later now m.now l.sent (omega arith) q) in
    subst (AreAmong all) (sym none) tt

-- another leaf stays as it is
pub leaf_other : (b : Book) (now : ℕ) (j id : Numbers) → is_id j id ≡ false → leaf_at (step b (events.Due (items.Leaf j)) now true).book id ≡ leaf_at b id
unfolding due_plan leaf_reached leaf_change
leaf_other b now j id other = by_found (leaf_at b j) refl
  where
    m : Moment
    m = moment_of b now

    changed : (l : Leaf) → l.id ≡ j → (r : Reached) → leaf_at (put_leaf l.id (at_time now b) (leaf_change m l r).item) id ≡ leaf_at b id
    changed l own r = find_other leaf_id l.id id (leaf_change m l r).item b.leaves (leaf_own m l r) (ap (λ i. is_id i id) own ∙ other)

    by_reached : (l : Leaf) → l.id ≡ j → (r : Reached) → leaf_at (leaf_plan b now [] l (leaf_reached m l r)).landed.book id ≡ leaf_at b id
    by_reached l own Expired = changed l own Expired
    by_reached l own Over = changed l own Over
    by_reached l own Unanswered = changed l own Unanswered
    by_reached l own Nothing = changed l own Nothing

    by_found : (o : Option Leaf) → leaf_at b j ≡ o → leaf_at (leaf_due_plan b now o).landed.book id ≡ leaf_at b id
    by_found None e = refl
    by_found (Some l) e = by_reached l (found_id leaf_id j b.leaves l e) (leaf_due m l)

transaction_plan_same : (b : Book) (now : ℕ) (t : Transaction) (d : Decision Transaction) → (transaction_plan b now [] t d).landed.book.leaves ≡ b.leaves
transaction_plan_same b now t (Goes c) = refl
transaction_plan_same b now t (Records r c None) = refl
transaction_plan_same b now t (Records r c (Some d)) = refl

activity_plan_same : (b : Book) (now : ℕ) (a : Activity) (d : Decision Activity) → (activity_plan b now [] a d).landed.book.leaves ≡ b.leaves
activity_plan_same b now a (Goes c) = refl
activity_plan_same b now a (Records r c o) = refl

pub transaction_due_leaves : (b : Book) (now : ℕ) (j : Numbers) → (step b (events.Due (items.Transaction j)) now true).book.leaves ≡ b.leaves
unfolding due_plan
transaction_due_leaves b now j = by_found (transaction_at b j)
  where
    by_found : (o : Option Transaction) → (transaction_due_plan b now o).landed.book.leaves ≡ b.leaves
    by_found None = refl
    by_found (Some t) = transaction_plan_same b now t (transaction_reached (moment_of b now) t (transaction_due (moment_of b now) t))

pub activity_due_leaves : (b : Book) (now : ℕ) (j : Numbers) → (step b (events.Due (items.Activity j)) now true).book.leaves ≡ b.leaves
unfolding due_plan
activity_due_leaves b now j = by_found (activity_at b j)
  where
    by_found : (o : Option Activity) → (activity_due_plan b now o).landed.book.leaves ≡ b.leaves
    by_found None = refl
    by_found (Some a) = activity_plan_same b now a (activity_reached (moment_of b now) a (activity_due (moment_of b now) a))

pub leaf_due_none : (b : Book) (now : ℕ) (j : Numbers) → leaf_at b j ≡ None → leaf_at (step b (events.Due (items.Leaf j)) now true).book j ≡ None
unfolding due_plan
leaf_due_none b now j none = ap (λ o. leaf_at (leaf_due_plan b now o).landed.book j) none ∙ none
