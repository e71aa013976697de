-- In every reached world a node's book, its journal and what happened at it agree.
use Rattle.std.specs.Prelude.{ℕ, List, [], ◌∷◌, ◌++◌, Option, Some, None, Bool, true, false, if◌then◌else◌, ◌+◌, nat_eq, nat_lt, length, map, max, filter, ◌≡◌, ◌⊎◌, ◌≤◌, ◌<◌, refl}
use Rattle.std.specs.List.{AllByRecursion}
use Rattle.std.proofs.Common.{arith, inl, inr, sym, subst, ap, ◌∙◌}
use Rattle.std.proofs.lemmas.Bool.{eq-eqb, eqb-true, ltb-true, ltb-false}
use Rattle.std.proofs.lemmas.List.{append-nil}
use Rattle.at_base.specs.Numbers.{Numbers}
use Rattle.at_base.specs.declared.notice.Kind.TheVariants as kinds
use Rattle.at_base.specs.declared.record.Record.{Record}
use Rattle.at_base.specs.declared.record.Record.TheVariants as records
use Rattle.at_base.specs.declared.event.Event.{Event}
use Rattle.at_base.specs.declared.outs.Effect.{Effect}
use Rattle.at_base.specs.declared.outs.Effect.TheVariants as effects
use Rattle.at_base.specs.declared.outs.Ending.{Ending}
use Rattle.at_base.specs.declared.outs.Ending.TheVariants as endings
use Rattle.at_base.specs.declared.outs.Post.{Post}
use Rattle.at_model.specs.Book.{Book, Leaf, Transaction, leaf_id, transaction_id}
use Rattle.at_model.specs.Recovery.{incarnation_of, is_promise, last_incarnation, recover}
use Rattle.at_model.specs.Leaves.{leaf_ended}
use Rattle.at_model.specs.Seats.{ending}
use Rattle.at_model.specs.Step.{leaf_at, plan, step, transaction_at}
use Rattle.at_model.specs.World.{Happened, Node, World, WorldEvent, goes_down, happened_at, is_lost_leaf, is_lost_root, is_lost_subordinate, lost_in, nth, put_book, put_nth, run_of, started, up_after, with_post, Hosts}
use Rattle.model_laws.specs.Agreement.{HasAborted, HasCommitted, HasEnded, IsIn, ends_as}
use Rattle.model_laws.specs.DrawnIds.{restarted, with_entry}
use Rattle.model_laws.specs.Laws.{IsDrawn}
use Rattle.model_laws.specs.ReachedWorlds.{Reached, counts, fell, opened, post_all, rose, stepped, waited}
use Rattle.model_laws.proofs.DecisionLaws.{all_join}
use Rattle.model_laws.proofs.DrawnIds.{ids_stay_drawn}
use Rattle.model_laws.proofs.Nodes.{each_put}
use Rattle.model_laws.proofs.Order.{ids_rise}
use Rattle.model_laws.proofs.ReachedWorlds.{run_reached}
use Rattle.model_laws.proofs.RecoveryLaws.{incarnations_rise, self_id}
use Rattle.model_laws.proofs.NodeLives.{opening_node}
use Rattle.model_laws.proofs.StepShapes.{steps_keep_place}
use Rattle.model_laws.proofs.PhaseAnswers.{decides_behind_every_answer}
use Rattle.agreement.specs.FinishedTransactions.{NamesRising}
use Rattle.agreement.specs.Lives.{Life, LivesAgree, PromisesNothing, book_of, ends, happened_on, has_aborted, has_committed, has_decided, has_voted, is_gone, is_undecided, standing, waits, works}
use Rattle.agreement.proofs.ActivityStates.{activity_states}
use Rattle.agreement.proofs.Crashes.{Recovered, ends_lost, falls_as, lost, lost_as, rises_as, start_same}
use Rattle.agreement.proofs.FinishedTransactions.{finishes_all}
use Rattle.agreement.proofs.Journals.{in_either}
use Rattle.agreement.proofs.LeafStates.{leaf_states}
use Rattle.agreement.proofs.LifeSteps.{IsFresh, IsGood, StepsOn, steps_on, unfound}
use Rattle.agreement.proofs.OtherIds.{Same, ends_join}

-- a node that is up, and one that is down
pub record IsUp (b : Book) (rs : List Record) (fx : List Effect) : Type 0 where
  pub good : IsGood b rs fx
  pub names : AllByRecursion NamesRising rs
  pub recent : b.incarnation ≤ last_incarnation rs

pub record IsDown (rs : List Record) (fx : List Effect) : Type 0 where
  pub names : AllByRecursion NamesRising rs
  pub fresh : (id : Numbers) → last_incarnation rs < id.incarnation → IsFresh id rs fx
  pub lives : (base : List ℕ) (id : Numbers) → Recovered base rs fx id

abbrev AsItIs : List Record → Option Book → List Effect → Type 0
AsItIs rs None fx = IsDown rs fx
AsItIs rs (Some b) fx = IsUp b rs fx

-- a step
named : (entry : Option Record) (landed : Bool) (rs : List Record) → ((r : Record) → entry ≡ Some r → NamesRising r) → AllByRecursion NamesRising rs
    → AllByRecursion NamesRising (with_entry entry landed rs)
named None landed rs f h = h
named (Some r) true rs f h = all_join NamesRising rs (r ∷ []) h (f r refl, tt)
named (Some r) false rs f h = h

max_more : (a b c : ℕ) → b ≤ c → max a b ≤ max a c
max_more a b c h = omega (arith, h)

last_more : (rs : List Record) (r : Record) → last_incarnation rs ≤ last_incarnation (rs ++ r ∷ [])
last_more [] r = omega arith
last_more (x ∷ rs) r = max_more (incarnation_of x) (last_incarnation rs) (last_incarnation (rs ++ r ∷ [])) (last_more rs r)

last_with : (entry : Option Record) (landed : Bool) (rs : List Record) → last_incarnation rs ≤ last_incarnation (with_entry entry landed rs)
last_with None landed rs = omega arith
last_with (Some r) true rs = last_more rs r
last_with (Some r) false rs = omega arith

still_fresh : (id : Numbers) (rs after : List Record) (fx new : List Effect) → Same id rs after fx new → IsFresh id rs fx → IsFresh id after new
still_fresh id rs after fx new s (nothing, k) = ((λ r h p. nothing r (s.written r p h) p), s.ended ∙ k)

pub goes_on : (rs : List Record) (fx : List Effect) (b : Book) (e : Event) (now : ℕ) (landed : Bool) → IsUp b rs fx
    → IsUp (step b e now landed).book (with_entry (plan b e now).entry landed rs) (fx ++ (step b e now landed).effects)
goes_on rs fx b e now landed h = record {
  good = record {
    order = ids_rise.stays b e now landed h.good.order;
    phases = decides_behind_every_answer.book b e now landed h.good.phases;
    finished = finishes_all.book b e now landed h.good.phases h.good.finished;
    leaves = leaf_states.book b e now landed h.good.leaves;
    activities = activity_states.book b e now landed h.good.activities;
    fresh = λ id new. fresh id (λ d. new (ids_stay_drawn.stays b e now landed id d)) (steps.others id);
    lives = steps.lives;
  };
  names = named (plan b e now).entry landed rs (λ r k. finishes_all.entry b e now r h.good.finished k) h.names;
  recent = omega (arith, (steps_keep_place b e now landed).incarnation, h.recent, last_with (plan b e now).entry landed rs);
}
  where
    steps : StepsOn b rs fx (step b e now landed).book (with_entry (plan b e now).entry landed rs) (fx ++ (step b e now landed).effects)
    steps = steps_on b e now landed rs fx h.good

    fresh : (id : Numbers) → (IsDrawn b id → ⊥) → IsDrawn b id ⊎ Same id rs (with_entry (plan b e now).entry landed rs) fx (fx ++ (step b e now landed).effects)
        → IsFresh id (with_entry (plan b e now).entry landed rs) (fx ++ (step b e now landed).effects)
    fresh id new (inl d) = absurd (new d)
    fresh id new (inr s) = still_fresh id rs (with_entry (plan b e now).entry landed rs) fx (fx ++ (step b e now landed).effects) s (h.good.fresh id new)

-- a fall
pub falls : (rs : List Record) (fx : List Effect) (b : Book) → IsUp b rs fx → IsDown rs (fx ++ lost b)
falls rs fx b h = record {
  names = h.names;
  fresh = λ id later. (
    (h.good.fresh id (undrawn id later)).0,
    ends_join id fx (lost b) ∙ (λ i. (h.good.fresh id (undrawn id later)).1 i ++ none_lost id (undrawn id later) i),
  );
  lives = λ base id. falls_as base rs fx (lost b) id (transaction_at b id) (leaf_at b id) (ends_lost b id h.good.order) (h.good.lives id);
}
  where
    undrawn : (id : Numbers) → last_incarnation rs < id.incarnation → IsDrawn b id → ⊥
    undrawn id later (inl k) = omega (arith, later, k, h.recent)
    undrawn id later (inr (k, c)) = omega (arith, later, k, h.recent)

    none_lost : (id : Numbers) → (IsDrawn b id → ⊥) → ends id (lost b) ≡ []
    none_lost id new =
        ends_lost b id h.good.order
        ∙ (λ i. lost_as (unfound transaction_id b id b.transactions h.good.order.drawn.transactions new i) (unfound leaf_id b id b.leaves h.good.order.drawn.leaves new i))

-- a start
pub rises : (base : List ℕ) (rs : List Record) (fx : List Effect) → IsDown rs fx → IsUp (recover base (restarted rs)) (restarted rs) fx
rises base rs fx h = record {
  good = record {
    order = ids_rise.started base rs;
    phases = decides_behind_every_answer.recovered base (restarted rs);
    finished = finishes_all.recovered base (restarted rs) names;
    leaves = leaf_states.recovered base (restarted rs);
    activities = activity_states.recovered base (restarted rs);
    fresh = λ id new. fresh id (h.fresh id (later id new));
    lives = λ id. rises_as base rs fx id (h.lives base id);
  };
  names = names;
  recent = omega arith;
}
  where
    names : AllByRecursion NamesRising (restarted rs)
    names = all_join NamesRising rs _ h.names (tt, tt)

    not_below : (n m : ℕ) → (n < m → ⊥) → (b : Bool) → nat_lt n m ≡ b → m ≤ n
    not_below n m new true e = absurd (new (ltb-true n m e))
    not_below n m new false e = ltb-false n m e

    later : (id : Numbers) → (IsDrawn (recover base (restarted rs)) id → ⊥) → last_incarnation rs < id.incarnation
    later id new =
        omega (arith, not_below id.incarnation (last_incarnation (restarted rs)) (λ k. new (inl k)) (nat_lt id.incarnation (last_incarnation (restarted rs))) refl, (incarnations_rise rs).0)

    no_start : (id : Numbers) (r : Record) → is_promise id r ≡ true → r ≡ records.Start (last_incarnation rs + 1) → ⊥
    no_start id r p e = let f : false ≡ true = sym (ap (is_promise id) e) ∙ p in cc

    fresh : (id : Numbers) → IsFresh id rs fx → IsFresh id (restarted rs) fx
    fresh id (nothing, k) = ((λ r i p. before r p (in_either r rs (records.Start (last_incarnation rs + 1) ∷ []) i)), k)
      where
        before : (r : Record) → is_promise id r ≡ true → IsIn r rs ⊎ IsIn r (records.Start (last_incarnation rs + 1) ∷ []) → ⊥
        before r p (inl i) = nothing r i p
        before r p (inr (inl e)) = no_start id r p e
        before r p (inr (inr i)) = i

-- what happened at a node
on_join : (n : ℕ) (xs ys : List Happened) → happened_on n (xs ++ ys) ≡ happened_on n xs ++ happened_on n ys
on_join n [] ys = refl
on_join n (x ∷ xs) ys = by_case (nat_eq x.node n) (on_join n xs ys)
  where
    by_case : (b : Bool) → happened_on n (xs ++ ys) ≡ happened_on n xs ++ happened_on n ys
        → (if b then x.what ∷ happened_on n (xs ++ ys) else happened_on n (xs ++ ys)) ≡ (if b then x.what ∷ happened_on n xs else happened_on n xs) ++ happened_on n ys
    by_case true h = ap (λ zs. x.what ∷ zs) h
    by_case false h = h

on_here : {A : Type 0} (n : ℕ) (f : A → Effect) (xs : List A) → happened_on n (map (λ x. happened_at n (f x)) xs) ≡ map f xs
on_here n f [] = refl
on_here n f (x ∷ xs) =
    ap (λ b. if b then f x ∷ happened_on n (map (λ y. happened_at n (f y)) xs) else happened_on n (map (λ y. happened_at n (f y)) xs)) (eq-eqb n n refl)
    ∙ ap (λ es. f x ∷ es) (on_here n f xs)

apart : (m n : ℕ) → (m ≡ n → ⊥) → (b : Bool) → nat_eq n m ≡ b → b ≡ false
apart m n differ true e = absurd (differ (sym (eqb-true n m e)))
apart m n differ false e = refl

on_there : {A : Type 0} (m n : ℕ) (f : A → Effect) → (m ≡ n → ⊥) → (xs : List A) → happened_on m (map (λ x. happened_at n (f x)) xs) ≡ []
on_there m n f differ [] = refl
on_there m n f differ (x ∷ xs) =
    ap (λ b. if b then f x ∷ happened_on m (map (λ y. happened_at n (f y)) xs) else happened_on m (map (λ y. happened_at n (f y)) xs)) (apart m n differ (nat_eq n m) refl)
    ∙ on_there m n f differ xs

same_effects : (es : List Effect) → map (λ x. x) es ≡ es
same_effects [] = refl
same_effects (e ∷ es) = ap (λ zs. e ∷ zs) (same_effects es)

step_here : (n : ℕ) (hs : List Happened) (es : List Effect) → happened_on n (hs ++ map (happened_at n) es) ≡ happened_on n hs ++ es
step_here n hs es = on_join n hs (map (happened_at n) es) ∙ ap (λ zs. happened_on n hs ++ zs) (on_here n (λ x. x) es ∙ same_effects es)

step_there : (m n : ℕ) (hs : List Happened) (es : List Effect) → (m ≡ n → ⊥) → happened_on m (hs ++ map (happened_at n) es) ≡ happened_on m hs
step_there m n hs es differ =
    on_join m hs (map (happened_at n) es) ∙ ap (λ zs. happened_on m hs ++ zs) (on_there m n (λ x. x) differ es) ∙ append-nil (happened_on m hs)

lost_here : (n : ℕ) (b : Book) → happened_on n (lost_in n b) ≡ lost b
lost_here n b =
    on_join n (map (λ t. happened_at n (ending t endings.Lost)) (filter is_lost_root b.transactions)) _
    ∙ (λ i. on_here n (λ t. ending t endings.Lost) (filter is_lost_root b.transactions) i
    ++ on_join n (map (λ t. happened_at n (ending t endings.Lost)) (filter is_lost_subordinate b.transactions)) (map (λ l. happened_at n (leaf_ended l endings.Lost)) (filter is_lost_leaf b.leaves)) i)
    ∙ (λ i. map (λ t. ending t endings.Lost) (filter is_lost_root b.transactions)
    ++ (on_here n (λ t. ending t endings.Lost) (filter is_lost_subordinate b.transactions) i ++ on_here n (λ l. leaf_ended l endings.Lost) (filter is_lost_leaf b.leaves) i))

pub lost_there : (m n : ℕ) (b : Book) → (m ≡ n → ⊥) → happened_on m (lost_in n b) ≡ []
lost_there m n b differ =
    on_join m (map (λ t. happened_at n (ending t endings.Lost)) (filter is_lost_root b.transactions)) _
    ∙ (λ i. on_there m n (λ t. ending t endings.Lost) differ (filter is_lost_root b.transactions) i
    ++ on_join m (map (λ t. happened_at n (ending t endings.Lost)) (filter is_lost_subordinate b.transactions)) (map (λ l. happened_at n (leaf_ended l endings.Lost)) (filter is_lost_leaf b.leaves)) i)
    ∙ (λ i. on_there m n (λ t. ending t endings.Lost) differ (filter is_lost_subordinate b.transactions) i ++ on_there m n (λ l. leaf_ended l endings.Lost) differ (filter is_lost_leaf b.leaves) i)

-- a start that stops at once
start_fresh : (rs : List Record) (fx : List Effect) (id : Numbers) → IsFresh id rs fx → IsFresh id (restarted rs) fx
start_fresh rs fx id h = still_fresh id rs (restarted rs) fx fx (start_same rs fx id) h

-- every reached world
posted_happened : (n : ℕ) (ps : List Post) (w : World) → (post_all n ps w).happened ≡ w.happened
posted_happened n [] w = refl
posted_happened n (p ∷ ps) w = posted_happened n ps (with_post n p w)

posted_nodes : (n : ℕ) (ps : List Post) (w : World) → (post_all n ps w).nodes ≡ w.nodes
posted_nodes n [] w = refl
posted_nodes n (p ∷ ps) w = posted_nodes n ps (with_post n p w)

unpromised : (id : Numbers) → PromisesNothing id []
unpromised id r h p = h

new_down : IsDown [] []
new_down = record {
  names = tt;
  fresh = λ id later. (unpromised id, refl);
  lives = λ base id. is_gone refl refl (unpromised id) (λ r h p e. h) (omega arith);
}

abbrev NodeIs : List Happened → ℕ → Node → Type 0
NodeIs hs n x = AsItIs x.journal x.book (happened_on n hs)

gone_down : (n : ℕ) (b : Book) (u : World) (x : Node) → nth n u.nodes ≡ Some x
    → goes_down n b u ≡ record u { nodes = put_nth n (record x { book = None }) u.nodes; happened = u.happened ++ lost_in n b }
gone_down n b u x found = ap (put_book n None (record u { happened = u.happened ++ lost_in n b })) found

node_is : (hosts : Hosts) (w : World) → Reached hosts w → (n : ℕ) (x : Node) → nth n w.nodes ≡ Some x → NodeIs w.happened n x
node_is hosts w (opened is) n x found =
    subst (λ hs. NodeIs hs n x) (sym (ap (λ (v : World). v.happened) is))
    (subst (NodeIs [] n) (sym (opening_node hosts n x (ap (λ (v : World). nth n v.nodes) (sym is) ∙ found))) new_down)
node_is hosts w (stepped u n x b e now landed ps reached found up heard posts is) m y f =
    subst (λ hs. NodeIs hs m y) (sym (ap (λ (v : World). v.happened) is ∙ posted_happened n ps (counts u n x b e now landed)))
    (each_put (NodeIs (u.happened ++ map (happened_at n) (step b e now landed).effects)) u.nodes n x
    (record x { book = Some (step b e now landed).book; journal = with_entry (plan b e now).entry landed x.journal }) found
    (subst (IsUp (step b e now landed).book (with_entry (plan b e now).entry landed x.journal)) (sym (step_here n u.happened (step b e now landed).effects))
    (goes_on x.journal (happened_on n u.happened) b e now landed (subst (λ o. AsItIs x.journal o (happened_on n u.happened)) up (node_is hosts u reached n x found))))
    (λ k z differ r. subst (AsItIs z.journal z.book) (sym (step_there k n u.happened (step b e now landed).effects differ)) (node_is hosts u reached k z r)) m y
    (sym (ap (nth m) (ap (λ (v : World). v.nodes) is ∙ posted_nodes n ps (counts u n x b e now landed))) ∙ f))
node_is hosts w (fell u n x b reached found up is) m y f =
    subst (λ hs. NodeIs hs m y) (sym (ap (λ (v : World). v.happened) (is ∙ gone_down n b u x found)))
    (each_put (NodeIs (u.happened ++ lost_in n b)) u.nodes n x (record x { book = None }) found
    (subst (IsDown x.journal) (sym (on_join n u.happened (lost_in n b) ∙ ap (λ zs. happened_on n u.happened ++ zs) (lost_here n b)))
    (falls x.journal (happened_on n u.happened) b (subst (λ o. AsItIs x.journal o (happened_on n u.happened)) up (node_is hosts u reached n x found))))
    (λ k z differ r. subst (AsItIs z.journal z.book)
    (sym (on_join k u.happened (lost_in n b) ∙ ap (λ zs. happened_on k u.happened ++ zs) (lost_there k n b differ) ∙ append-nil (happened_on k u.happened)))
    (node_is hosts u reached k z r)) m y
    (sym (ap (λ (v : World). nth m v.nodes) (is ∙ gone_down n b u x found)) ∙ f))
node_is hosts w (rose u n x stop reached found down small is) m y f =
    subst (λ hs. NodeIs hs m y) (sym (ap (λ (v : World). v.happened) is))
    (each_put (NodeIs u.happened) u.nodes n x (up_after (started (last_incarnation x.journal + 1) x) stop) found
    (by_stop stop (subst (λ o. AsItIs x.journal o (happened_on n u.happened)) down (node_is hosts u reached n x found))) (λ k z differ r. node_is hosts u reached k z r) m y
    (sym (ap (λ (v : World). nth m v.nodes) is) ∙ f))
  where
    stopped : IsDown x.journal (happened_on n u.happened) → IsDown (restarted x.journal) (happened_on n u.happened)
    stopped h = record {
      names = all_join NamesRising x.journal _ h.names (tt, tt);
      fresh = λ id later. start_fresh x.journal (happened_on n u.happened) id (h.fresh id (omega (arith, later, (incarnations_rise x.journal).0)));
      lives = λ base id. rises_as base x.journal (happened_on n u.happened) id (h.lives base id);
    }

    by_stop : (s : Bool) → IsDown x.journal (happened_on n u.happened)
        → AsItIs (restarted x.journal) (up_after (started (last_incarnation x.journal + 1) x) s).book (happened_on n u.happened)
    by_stop true h = stopped h
    by_stop false h = rises x.base x.journal (happened_on n u.happened) h
node_is hosts w (waited u n x clock reached found is) m y f =
    subst (λ hs. NodeIs hs m y) (sym (ap (λ (v : World). v.happened) is))
    (each_put (NodeIs u.happened) u.nodes n x (record x { clock = clock }) found (node_is hosts u reached n x found) (λ k z differ r. node_is hosts u reached k z r) m y
    (sym (ap (λ (v : World). nth m v.nodes) is) ∙ f))

-- the standing book
stands : (base : List ℕ) (rs : List Record) (o : Option Book) (fx : List Effect) → AsItIs rs o fx → (id : Numbers)
    → Life rs fx id (transaction_at (standing base rs o) id) (leaf_at (standing base rs o) id)
stands base rs None fx h id = h.lives base id
stands base rs (Some b) fx h id = h.good.lives id

run_lives : (hosts : Hosts) (es : List WorldEvent) (n : ℕ) (x : Node) → nth n (run_of hosts es).nodes ≡ Some x → (id : Numbers)
    → Life x.journal (happened_on n (run_of hosts es).happened) id (transaction_at (book_of x) id) (leaf_at (book_of x) id)
run_lives hosts es n x found id = stands x.base x.journal x.book (happened_on n (run_of hosts es).happened) (node_is hosts (run_of hosts es) (run_reached hosts es) n x found) id

-- it ends once
at_most_one : (es : List Effect) (e : Effect) → es ≡ e ∷ [] → length es ≤ 1
at_most_one es e k = subst (λ (fs : List Effect). length fs ≤ 1) (sym k) (omega arith)

unended : (es : List Effect) → es ≡ [] → length es ≤ 1
unended es k = subst (λ (fs : List Effect). length fs ≤ 1) (sym k) (omega arith)

life_once : (rs : List Record) (fx : List Effect) (id : Numbers) (t : Option Transaction) (l : Option Leaf) → Life rs fx id t l → length (ends id fx) ≤ 1
life_once rs fx id t l (is_gone e f dead over once) = once
life_once rs fx id t l (is_undecided x e f o nothing k) = unended (ends id fx) k
life_once rs fx id t l (has_voted x superior seats e f o u h out k) = unended (ends id fx) k
life_once rs fx id t l (has_decided x seats e f o u h k) = at_most_one (ends id fx) (effects.Root id endings.Committed) k
life_once rs fx id t l (has_committed x superior seats e f o u h i k) = at_most_one (ends id fx) (effects.Sub id endings.Committed) k
life_once rs fx id t l (has_aborted x e f o dead k) = at_most_one (ends id fx) (ending x endings.Aborted) k
life_once rs fx id t l (works x e f o nothing k) = unended (ends id fx) k
life_once rs fx id t l (waits x coordinator key value e f d o h k) = unended (ends id fx) k

passes : (p : Effect → Bool) (x : Effect) (xs : List Effect) → IsIn x xs → p x ≡ true → IsIn x (filter p xs)
passes p x [] h e = absurd h
passes p x (y ∷ ys) (inl f) e = subst (IsIn x) (sym (ap (λ b. if b then y ∷ filter p ys else filter p ys) (ap p (sym f) ∙ e))) (inl f)
passes p x (y ∷ ys) (inr h) e = by_case (p y) (passes p x ys h e)
  where
    by_case : (b : Bool) → IsIn x (filter p ys) → IsIn x (if b then y ∷ filter p ys else filter p ys)
    by_case true k = inr k
    by_case false k = k

one_only : (xs : List Effect) (x y : Effect) → length xs ≤ 1 → IsIn x xs → IsIn y xs → x ≡ y
one_only [] x y l h k = absurd h
one_only (z ∷ []) x y l (inl e) (inl f) = e ∙ sym f
one_only (z ∷ []) x y l (inr h) k = absurd h
one_only (z ∷ []) x y l (inl e) (inr k) = absurd k
one_only (z ∷ v ∷ zs) x y l h k = absurd (omega (arith, l))

in_there : (n : ℕ) (e : Effect) (hs : List Happened) → IsIn (happened_at n e) hs → IsIn e (happened_on n hs)
in_there n e [] i = absurd i
in_there n e (h ∷ hs) (inl f) =
    subst (IsIn e) (sym (ap (λ b. if b then h.what ∷ happened_on n hs else happened_on n hs) (ap (λ (x : Happened). nat_eq x.node n) (sym f) ∙ eq-eqb n n refl))) (inl (ap (λ (x : Happened). x.what) f))
in_there n e (h ∷ hs) (inr i) = by_case (nat_eq h.node n) (in_there n e hs i)
  where
    by_case : (b : Bool) → IsIn e (happened_on n hs) → IsIn e (if b then h.what ∷ happened_on n hs else happened_on n hs)
    by_case true k = inr k
    by_case false k = k

abbrev as_what : Effect → Option Ending
as_what (effects.Root i what) = Some what
as_what (effects.Sub i what) = Some what
as_what (effects.Leaf i kind what) = Some what
as_what (effects.Told i what) = None

record EndedAs (fx : List Effect) (id : Numbers) (what : Ending) : Type 0 where
  effect : Effect
  ended : IsIn effect (ends id fx)
  so : as_what effect ≡ Some what

ended_as : (w : World) (n : ℕ) (id : Numbers) (what : Ending) → HasEnded w (record { node = n; id = id }) what → EndedAs (happened_on n w.happened) id what
ended_as w n id what (inl i) =
    record { effect = effects.Root id what; ended = passes (ends_as id) (effects.Root id what) (happened_on n w.happened) (in_there n (effects.Root id what) w.happened i) (self_id id); so = refl }
ended_as w n id what (inr (inl i)) =
    record { effect = effects.Sub id what; ended = passes (ends_as id) (effects.Sub id what) (happened_on n w.happened) (in_there n (effects.Sub id what) w.happened i) (self_id id); so = refl }
ended_as w n id what (inr (inr i)) = record {
  effect = effects.Leaf id kinds.Durable what;
  ended = passes (ends_as id) (effects.Leaf id kinds.Durable what) (happened_on n w.happened) (in_there n (effects.Leaf id kinds.Durable what) w.happened i) (self_id id);
  so = refl;
}

both_ended : (fx : List Effect) (id : Numbers) (one other : Ending) → length (ends id fx) ≤ 1 → EndedAs fx id one → EndedAs fx id other → Some one ≡ Some other
both_ended fx id one other l h k = sym h.so ∙ ap as_what (one_only (ends id fx) h.effect k.effect l h.ended k.ended) ∙ k.so

run_once : (hosts : Hosts) (es : List WorldEvent) (n : ℕ) (x : Node) → nth n (run_of hosts es).nodes ≡ Some x → (id : Numbers) → length (ends id (happened_on n (run_of hosts es).happened)) ≤ 1
run_once hosts es n x found id =
    life_once x.journal (happened_on n (run_of hosts es).happened) id (transaction_at (book_of x) id) (leaf_at (book_of x) id) (run_lives hosts es n x found id)

run_one : (hosts : Hosts) (es : List WorldEvent) (n : ℕ) (x : Node) → nth n (run_of hosts es).nodes ≡ Some x → (id : Numbers)
    → HasCommitted (run_of hosts es) (record { node = n; id = id }) → HasAborted (run_of hosts es) (record { node = n; id = id }) → ⊥
run_one hosts es n x found id c (inl a) =
    let e : Some endings.Committed ≡ Some endings.Aborted = both_ended (happened_on n (run_of hosts es).happened) id endings.Committed endings.Aborted (run_once hosts es n x found id)
    (ended_as (run_of hosts es) n id endings.Committed c) (ended_as (run_of hosts es) n id endings.Aborted a) in cc
run_one hosts es n x found id c (inr a) =
    let e : Some endings.Committed ≡ Some endings.Lost = both_ended (happened_on n (run_of hosts es).happened) id endings.Committed endings.Lost (run_once hosts es n x found id)
    (ended_as (run_of hosts es) n id endings.Committed c) (ended_as (run_of hosts es) n id endings.Lost a) in cc

pub lives_agree : LivesAgree
lives_agree = record { lives = run_lives; one = run_one; once = run_once }
