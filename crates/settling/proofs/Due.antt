-- What an item that is due leaves: it has sent again what it waits for.
use Rattle.std.specs.Prelude.{ℕ, List, [], ◌∷◌, ◌++◌, Option, Some, None, Bool, true, false, ◌+◌, ◌&&◌, ◌||◌, if◌then◌else◌, map, ◌≡◌, ◌≤◌, ◌⊎◌, refl}
use Rattle.std.specs.List.{AllByRecursion}
use Rattle.std.proofs.Common.{arith, sym, subst, ap, inl, inr, ◌∙◌}
use Rattle.std.proofs.lemmas.Bool.{le-leb, leb-true}
use Rattle.std.proofs.lemmas.List.{append_assoc}
use Rattle.at_base.specs.Numbers.{Numbers}
use Rattle.at_base.specs.declared.event.Event.TheVariants as events
use Rattle.at_base.specs.declared.event.Item.TheVariants as items
use Rattle.at_base.specs.declared.event.Moment.{Moment}
use Rattle.at_base.specs.declared.message.Message.TheVariants as messages
use Rattle.at_base.specs.declared.notice.Kind.{Kind}
use Rattle.at_base.specs.declared.notice.Kind.TheVariants as kinds
use Rattle.at_base.specs.declared.notice.Notice.TheVariants as notices
use Rattle.at_base.specs.declared.outs.Out.{Out}
use Rattle.at_base.specs.declared.outs.Out.TheVariants as outs
use Rattle.at_base.specs.declared.outs.Post.{Post}
use Rattle.at_tables.specs.declared.cells.State.TheVariants as states
use Rattle.at_tables.specs.Names.{is_state}
use Rattle.at_model.specs.Abort.{Alone, abort, until_rolled_back}
use Rattle.at_model.specs.Arrivals.{answer_request, context_of, is_registering, request_answered, request_left, request_of, request_stands, request_under}
use Rattle.at_model.specs.Book.{Activity, Book, is_id, Leaf, Link, Phase, Request, Superior, Transaction, transaction_id}
use Rattle.at_model.specs.Due.{activity_due, activity_reached, Expired, Nothing, Over, Reached, Unanswered, is_quiet, is_some_post, leaf_due, leaf_reached, link_again, links_again, register_again_at, seats_again, transaction_again, transaction_due, transaction_reached}
use Rattle.at_base.specs.declared.limits.TheConstants.{RESEND_AFTER}
use Rattle.at_model.specs.Moves.{Change, Decision, Goes, Records, Moving, begin, forgotten, posts, stays}
use Rattle.at_model.specs.Phases.{upwards}
use Rattle.at_model.specs.Posts.{reply_post}
use Rattle.at_model.specs.Seats.{sent_now, under}
use Rattle.at_model.specs.Step.{activity_at, activity_due_plan, activity_plan, at_time, due_plan, is_due, is_due_at, is_reached, leaf_at, leaf_due_plan, leaf_plan, moment_of, put_transaction, step, transaction_at, transaction_due_plan, transaction_plan}
use Rattle.model_laws.specs.Agreement.{IsIn}
use Rattle.model_laws.specs.Order.{IsInOrder}
use Rattle.model_laws.proofs.DecisionLaws.{IfThere, answer_has, either_left, found_id}
use Rattle.agreement.proofs.OtherIds.{find_other, find_this}
use Rattle.settling.specs.Load.{posts_in}
use Rattle.settling.proofs.RegisterPayments.{posts_of}

-- each of these posts is among those
abbrev pub AreAmong : List Post → List Post → Type 0
AreAmong all ps = AllByRecursion (λ p. IsIn p all) ps

pub more_among : (all more ps : List Post) → AreAmong all ps → AreAmong (all ++ more) ps
more_among all more [] h = tt
more_among all more (p ∷ ps) (i, h) = (in_more all i, more_among all more ps h)
  where
    in_more : (xs : List Post) → IsIn p xs → IsIn p (xs ++ more)
    in_more [] j = absurd j
    in_more (x ∷ xs) (inl e) = inl e
    in_more (x ∷ xs) (inr j) = inr (in_more xs j)

in_behind : (all more : List Post) (p : Post) → IsIn p more → IsIn p (all ++ more)
in_behind [] more p i = i
in_behind (x ∷ all) more p i = inr (in_behind all more p i)

pub behind_among : (all ps : List Post) → AreAmong (all ++ ps) ps
behind_among all ps = among ps (λ p i. in_behind all ps p i)
  where
    among : (qs : List Post) → ((p : Post) → IsIn p qs → IsIn p (all ++ ps)) → AreAmong (all ++ ps) qs
    among [] h = tt
    among (q ∷ qs) h = (h q (inl refl), among qs (λ p i. h p (inr i)))

-- later it is quiet as well
pub quiet_later : (now later : ℕ) (o : Option ℕ) → now ≤ later → is_quiet now o ≡ true → is_quiet later o ≡ true
quiet_later now later None h e = refl
quiet_later now later (Some s) h e = let old : s + RESEND_AFTER ≤ now = leb-true (s + RESEND_AFTER) now e in le-leb (s + RESEND_AFTER) later (omega (arith, old, h))

-- what is left has asked, or aborts
abbrev pub HasAsked : List ℕ → List Post → Transaction → Type 0
HasAsked base ps t = (t.phase ≡ Phase.Aborting) ⊎ AreAmong ps (transaction_again base t)

pub more_asked : (base : List ℕ) (all more : List Post) (t : Transaction) → HasAsked base all t → HasAsked base (all ++ more) t
more_asked base all more t (inl a) = inl a
more_asked base all more t (inr h) = inr (more_among all more (transaction_again base t) h)

-- behind what was posted before
abbrev Leaves : List ℕ → List Post → Change Transaction → Type 0
Leaves base all c = IfThere (HasAsked base (all ++ c.posts)) c.item

-- the answer to a request changes nothing of it
link_same : (base : List ℕ) (id : Numbers) (kind : Kind) (r q : Option Request) (link : Link) → is_state link.state states.Registering ≡ false → link_again base id kind r link ≡ link_again base id kind q link
link_same base id kind r q link e = by_state (is_state link.state states.Registering) e
  where
    by_state : (c : Bool) → c ≡ false
        → (if c then register_again_at base id kind r else if is_state link.state states.PreparedSuccess then upwards base id kind notices.Prepared link else [])
        ≡ (if c then register_again_at base id kind q else if is_state link.state states.PreparedSuccess then upwards base id kind notices.Prepared link else [])
    by_state true f = absurd cc
    by_state false f = refl

neither : (a b : Bool) → (a || b) ≡ false → (a ≡ false) × (b ≡ false)
neither true b e = absurd cc
neither false b e = (refl, e)

links_same : (base : List ℕ) (id : Numbers) (s : Superior) → is_registering s ≡ false → links_again base id (Some (request_answered s)) ≡ links_again base id (Some s)
links_same base id s e =
    let (v, d) = neither (is_state s.volatile.state states.Registering) (is_state s.durable.state states.Registering) e in
    λ i. link_same base id kinds.Volatile None s.request s.volatile v i ++ link_same base id kinds.Durable None s.request s.durable d i

stands_leaves : (base : List ℕ) (all : List Post) (m : Moment) (r : Request) (t : Transaction) (s : Superior) (phase : Phase) (c : Change Transaction) → t.superior ≡ Some s → t.phase ≡ phase
    → HasAsked base (all ++ c.posts) t → Leaves base all c → Leaves base all (request_stands m r t s phase c)
stands_leaves base all m r t s Phase.Aborting c e f h k = inl f
stands_leaves base all m r t s other c e f h k = by_test (is_registering s) refl h
  where
    p : Post
    p = reply_post (Some r.reply) r.id (messages.CreateResponse (context_of m.base t r.expires))

    answered : is_registering s ≡ false → HasAsked base (all ++ c.posts) t → HasAsked base (all ++ (c.posts ++ p ∷ [])) (under (request_answered s) t)
    answered g (inl a) = inl a
    answered g (inr a) =
        let same : transaction_again base (under (request_answered s) t) ≡ transaction_again base t =
        ap (λ l. l ++ seats_again base t.id t.seats) (links_same base t.id s g ∙ ap (links_again base t.id) (sym e)) in
        inr (subst (λ l. AreAmong l (transaction_again base (under (request_answered s) t))) (append_assoc all c.posts (p ∷ []))
        (subst (AreAmong (all ++ c.posts ++ p ∷ [])) (sym same) (more_among (all ++ c.posts) (p ∷ []) (transaction_again base t) a)))

    by_test : (b : Bool) → is_registering s ≡ b → HasAsked base (all ++ c.posts) t
        → Leaves base all (if b then c else record { item = Some (under (request_answered s) t); posts = c.posts ++ p ∷ []; effects = c.effects })
    by_test true g a = k
    by_test false g a = answered g a

under_leaves : (base : List ℕ) (all : List Post) (m : Moment) (r : Request) (t : Transaction) (o : Option Superior) (c : Change Transaction) → t.superior ≡ o → HasAsked base (all ++ c.posts) t
    → Leaves base all c → Leaves base all (request_under m r t o c)
under_leaves base all m r t None c e h k = k
under_leaves base all m r t (Some s) c e h k = stands_leaves base all m r t s t.phase c e refl h k

left_leaves : (base : List ℕ) (all : List Post) (m : Moment) (r : Request) (o : Option Transaction) (c : Change Transaction) → IfThere (HasAsked base (all ++ c.posts)) o → Leaves base all c
    → Leaves base all (request_left m r o c)
left_leaves base all m r None c h k = tt
left_leaves base all m r (Some t) c h k = under_leaves base all m r t t.superior c refl h k

answer_leaves : (base : List ℕ) (all : List Post) (m : Moment) (r : Option Request) (c : Change Transaction) → Leaves base all c → Leaves base all (answer_request m r c)
answer_leaves base all m None c h = h
answer_leaves base all m (Some r) c h = left_leaves base all m r c.item c h h

-- a transaction that is due
aborted_left : (g : Moving Transaction) → g.item.phase ≡ Phase.Aborting → (base : List ℕ) (all : List Post) → Leaves base all (until_rolled_back g)
aborted_left g e base all = either_left (Leaves base all) _ (stays g) (forgotten g) (inl e) tt

abort_leaves : (base : List ℕ) (all : List Post) (m : Moment) (t : Transaction) → Leaves base all (abort m Alone (begin t))
unfolding abort
abort_leaves base all m t = search (aborted_left)

pub nothing_again : (a b q : Bool) (ps : List Post) → (if a then Expired else if b then Over else if q && is_some_post ps then Unanswered else Nothing) ≡ Nothing → q ≡ true → ps ≡ []
nothing_again true b q ps e f = absurd cc
nothing_again false true q ps e f = absurd cc
nothing_again false false true [] e f = refl
nothing_again false false true (p ∷ ps) e f = absurd cc
nothing_again false false false ps e f = absurd cc

-- the change that a due transaction makes
due_change : Moment → Transaction → Reached → Change Transaction
due_change m t Expired = abort m Alone (begin t)
due_change m t Over = forgotten (begin t)
due_change m t Unanswered = stays (posts (transaction_again m.base t) (begin (sent_now m t)))
due_change m t Nothing = stays (begin t)

due_leaves : (m : Moment) (all : List Post) (t : Transaction) (reached : Reached) → (reached ≡ Nothing → HasAsked m.base all t) → Leaves m.base all (due_change m t reached)
unfolding due_change
due_leaves m all t Expired h = abort_leaves m.base all m t
due_leaves m all t Over h = tt
due_leaves m all t Unanswered h = inr (behind_among all (transaction_again m.base t))
due_leaves m all t Nothing h = more_asked m.base all [] t (h refl)

-- it keeps its id
abort_id : (m : Moment) (t : Transaction) (id : Numbers) → t.id ≡ id → IfThere (λ x. x.id ≡ id) (abort m Alone (begin t)).item
unfolding abort
abort_id m t id e = search (until_id)
  where
    until_id : (g : Moving Transaction) → g.item.id ≡ id → IfThere (λ x. x.id ≡ id) (until_rolled_back g).item
    until_id g f = either_left (λ c. IfThere (λ x. x.id ≡ id) c.item) _ (stays g) (forgotten g) f tt

due_id : (m : Moment) (t : Transaction) (reached : Reached) → IfThere (λ x. x.id ≡ t.id) (due_change m t reached).item
unfolding due_change
due_id m t Expired = abort_id m t t.id refl
due_id m t Over = tt
due_id m t Unanswered = refl
due_id m t Nothing = refl

-- The step of a transaction that is due: what it leaves has asked, where it had, or was quiet.
pub left_found : {A : Type 0} (P : A → Type 0) (o : Option A) (x : A) → IfThere P o → o ≡ Some x → P x
left_found P o x h e = subst (IfThere P) e h

pub due_transaction : (b : Book) (now : ℕ) (all : List Post) (id : Numbers) (t new : Transaction) → IsInOrder b → transaction_at b id ≡ Some t
    → (is_quiet now t.sent ≡ true) ⊎ HasAsked b.base all t → transaction_at (step b (events.Due (items.Transaction id)) now true).book id ≡ Some new
    → HasAsked b.base (all ++ posts_in (step b (events.Due (items.Transaction id)) now true).outs) new
unfolding due_plan transaction_reached due_change
due_transaction b now all id t new order found ready is =
    subst (λ o. transaction_at (transaction_due_plan b now o).landed.book id ≡ Some new → HasAsked b.base (all ++ posts_in (transaction_due_plan b now o).landed.outs) new) (sym found)
    (by_reached (transaction_due m t) refl) is
  where
    m : Moment
    m = moment_of b now

    own : t.id ≡ id
    own = found_id transaction_id id b.transactions t found

    still_asks : (r : Reached) → transaction_due m t ≡ r → (is_quiet now t.sent ≡ true) ⊎ HasAsked b.base all t → r ≡ Nothing → HasAsked b.base all t
    still_asks r e (inr h) f = h
    still_asks r e (inl q) f =
        let none : transaction_again b.base t ≡ [] = nothing_again _ _ _ _ (e ∙ f) (quiet_later now m.now t.sent (omega arith) q) in
        inr (subst (AreAmong all) (sym none) tt)

    changed : (r : Reached) → transaction_due m t ≡ r → (c : Change Transaction) → c ≡ answer_request m (request_of t.superior) (due_change m t r)
        → transaction_at (put_transaction t.id (at_time now b) c.item) id ≡ Some new → HasAsked b.base (all ++ posts_in ([] ++ map outs.Post c.posts)) new
    changed r e c same f =
        let kept : IfThere (λ x. x.id ≡ t.id) c.item =
        subst (λ x. IfThere (λ y. y.id ≡ t.id) x.item) (sym same) (answer_has (IfThere (λ x. x.id ≡ t.id)) (λ s x i k. k) m (request_of t.superior) (due_change m t r) (due_id m t r)) in
        let there : transaction_at b t.id ≡ Some t = subst (λ i. transaction_at b i ≡ Some t) (sym own) found in
        let put : transaction_at (put_transaction t.id (at_time now b) c.item) t.id ≡ c.item = find_this transaction_id t.id t c.item b.transactions order.rising.transactions there kept in
        let item : c.item ≡ Some new = sym put ∙ ap (transaction_at (put_transaction t.id (at_time now b) c.item)) own ∙ f in
        let asked : Leaves b.base all c = subst (Leaves b.base all) (sym same) (answer_leaves b.base all m (request_of t.superior) (due_change m t r) (due_leaves m all t r (still_asks r e ready))) in
        subst (λ l. HasAsked b.base (all ++ l) new) (sym (posts_of c.posts)) (left_found (HasAsked b.base (all ++ c.posts)) c.item new asked item)

    by_reached : (r : Reached) → transaction_due m t ≡ r → transaction_at (transaction_plan b now [] t (transaction_reached m t r)).landed.book id ≡ Some new
        → HasAsked b.base (all ++ posts_in (transaction_plan b now [] t (transaction_reached m t r)).landed.outs) new
    by_reached Expired e f = changed Expired e _ refl f
    by_reached Over e f = changed Over e _ refl f
    by_reached Unanswered e f = changed Unanswered e _ refl f
    by_reached Nothing e f = changed Nothing e _ refl f

-- where it isn't due, it has nothing to ask
pub unreached : (r : Reached) → is_reached r ≡ false → r ≡ Nothing
unreached Expired e = absurd cc
unreached Over e = absurd cc
unreached Unanswered e = absurd cc
unreached Nothing e = refl

pub undue_transaction : (b : Book) (now : ℕ) (all : List Post) (id : Numbers) (t : Transaction) → transaction_at b id ≡ Some t → is_due b now (items.Transaction id) ≡ false
    → (is_quiet now t.sent ≡ true) ⊎ HasAsked b.base all t → HasAsked b.base all t
undue_transaction b now all id t found e (inr h) = h
undue_transaction b now all id t found e (inl q) =
    let m : Moment = moment_of b now in
    let no : is_reached (transaction_due m t) ≡ false = sym (ap (is_due_at (transaction_due m)) found) ∙ e in
    let none : transaction_again b.base t ≡ [] = nothing_again _ _ _ _ (unreached (transaction_due m t) no) (quiet_later now m.now t.sent (omega arith) q) in
    inr (subst (AreAmong all) (sym none) tt)

-- another transaction stays as it is
pub due_other : (b : Book) (now : ℕ) (j id : Numbers) → is_id j id ≡ false → transaction_at (step b (events.Due (items.Transaction j)) now true).book id ≡ transaction_at b id
unfolding due_plan transaction_reached due_change
due_other b now j id other = by_found (transaction_at b j) refl
  where
    m : Moment
    m = moment_of b now

    changed : (t : Transaction) → t.id ≡ j → (r : Reached)
        → transaction_at (put_transaction t.id (at_time now b) (answer_request m (request_of t.superior) (due_change m t r)).item) id ≡ transaction_at b id
    changed t own r =
        find_other transaction_id t.id id (answer_request m (request_of t.superior) (due_change m t r)).item b.transactions
        (answer_has (IfThere (λ x. x.id ≡ t.id)) (λ s x i k. k) m (request_of t.superior) (due_change m t r) (due_id m t r)) (ap (λ i. is_id i id) own ∙ other)

    by_reached : (t : Transaction) → t.id ≡ j → (r : Reached) → transaction_at (transaction_plan b now [] t (transaction_reached m t r)).landed.book id ≡ transaction_at b id
    by_reached t own Expired = changed t own Expired
    by_reached t own Over = changed t own Over
    by_reached t own Unanswered = changed t own Unanswered
    by_reached t own Nothing = changed t own Nothing

    by_found : (o : Option Transaction) → transaction_at b j ≡ o → transaction_at (transaction_due_plan b now o).landed.book id ≡ transaction_at b id
    by_found None e = refl
    by_found (Some t) e = by_reached t (found_id transaction_id j b.transactions t e) (transaction_due m t)

-- and so does each, where a leaf or an activity is due
leaf_plan_same : (b : Book) (now : ℕ) (answer : List Out) (l : Leaf) (d : Decision Leaf) → (leaf_plan b now answer l d).landed.book.transactions ≡ b.transactions
leaf_plan_same b now answer l (Goes c) = refl
leaf_plan_same b now answer l (Records r c o) = refl

activity_plan_same : (b : Book) (now : ℕ) (answer : List Out) (a : Activity) (d : Decision Activity) → (activity_plan b now answer a d).landed.book.transactions ≡ b.transactions
activity_plan_same b now answer a (Goes c) = refl
activity_plan_same b now answer a (Records r c o) = refl

pub leaf_due_same : (b : Book) (now : ℕ) (j : Numbers) → (step b (events.Due (items.Leaf j)) now true).book.transactions ≡ b.transactions
unfolding due_plan
leaf_due_same b now j = by_found (leaf_at b j)
  where
    by_found : (o : Option Leaf) → (leaf_due_plan b now o).landed.book.transactions ≡ b.transactions
    by_found None = refl
    by_found (Some l) = leaf_plan_same b now [] l (leaf_reached (moment_of b now) l (leaf_due (moment_of b now) l))

pub activity_due_same : (b : Book) (now : ℕ) (j : Numbers) → (step b (events.Due (items.Activity j)) now true).book.transactions ≡ b.transactions
unfolding due_plan
activity_due_same b now j = by_found (activity_at b j)
  where
    by_found : (o : Option Activity) → (activity_due_plan b now o).landed.book.transactions ≡ b.transactions
    by_found None = refl
    by_found (Some a) = activity_plan_same b now [] a (activity_reached (moment_of b now) a (activity_due (moment_of b now) a))

-- where there is none, there is none behind the step
pub due_none : (b : Book) (now : ℕ) (j : Numbers) → transaction_at b j ≡ None → transaction_at (step b (events.Due (items.Transaction j)) now true).book j ≡ None
unfolding due_plan
due_none b now j none = ap (λ o. transaction_at (transaction_due_plan b now o).landed.book j) none ∙ none
