-- Each Register that a node posted names an item that the node made, in every run.
use Rattle.std.specs.Prelude.{ℕ, List, [], ◌∷◌, ◌++◌, Option, Some, None, Bool, true, false, nat_eq, nat_lt, ◌+◌, if◌then◌else◌, length, map, option_map, ◌≡◌, ◌≤◌, ◌<◌, is_none, refl}
use Rattle.std.specs.List.{AllByRecursion}
use Rattle.std.proofs.Common.{inl, inr, sym, subst, ap, arith, ◌∙◌}
use Rattle.std.proofs.lemmas.Bool.{eqb-true, eqb-false, ltb-true}
use Rattle.at_base.specs.declared.fault.Fault.TheVariants.{InvalidState, UnknownTransaction}
use Rattle.at_base.specs.Numbers.{Numbers}
use Rattle.at_base.specs.IdText.{IsId}
use Rattle.at_base.specs.declared.epr.Epr.{Epr}
use Rattle.at_base.specs.declared.notice.Notice.TheVariants as notices
use Rattle.at_base.specs.declared.message.Message.{Message}
use Rattle.at_base.specs.declared.message.Message.TheVariants as messages
use Rattle.at_base.specs.declared.message.Register.{Register}
use Rattle.at_base.specs.declared.target.Target.{Target}
use Rattle.at_base.specs.declared.target.Target.TheVariants as targets
use Rattle.at_base.specs.declared.notice.Kind.{Kind}
use Rattle.at_model.specs.Leaves.{leaf_target}
use Rattle.at_model.specs.Activities.{activity_target}
use Rattle.model_laws.proofs.NextIds.{makes_under_the_next_id}
use Rattle.model_laws.specs.Laws.{HasId, HasLeafId}
use Rattle.at_base.specs.declared.record.Record.{Record}
use Rattle.at_base.specs.declared.event.Arrived.{Arrived}
use Rattle.at_base.specs.declared.event.Event.{Event}
use Rattle.at_base.specs.declared.outs.Post.{Post}
use Rattle.at_base.specs.declared.outs.Out.{Out}
use Rattle.at_base.specs.declared.outs.Out.TheVariants as outs
use Rattle.at_tables.specs.declared.cells.Act.{Act}
use Rattle.at_tables.specs.declared.cells.Act.TheVariants as acts
use Rattle.at_tables.specs.declared.cells.Cell.{Cell}
use Rattle.at_model.specs.Book.{Book, Transaction, Leaf, Activity, Request, WorkRequest, transaction_id, leaf_id, activity_id, next_id, last_counter}
use Rattle.at_model.specs.Posts.{accepted, stranger_post, fault_post, notice_post}
use Rattle.at_model.specs.Moves.{Decision}
use Rattle.at_model.specs.Arrivals.{request_of, with_answer}
use Rattle.at_model.specs.Activities.{on_begin, on_interpose}
use Rattle.at_model.specs.Register.{on_register, protocol_named}
use Rattle.at_model.specs.Due.{transaction_due, leaf_due, activity_due}
use Rattle.at_model.specs.Recovery.{last_incarnation, recover}
use Rattle.at_model.specs.Step.{Outcome, Plan, plain, still, at_time, moment_of, make_transaction, make_leaf, make_activity, put_transaction, put_leaf, put_activity, plan_of, registration_outcome, stranger_act, stranger_cell, outcome_act, outcome_cell, transaction_at, leaf_at, activity_at, branch, plan, step}
use Rattle.at_model.specs.World.{Node, Posted, World, nth, put_nth, put_book, with_post, lost_in, goes_down, started, up_after, run_of, Hosts, HaveOwnAddresses}
use Rattle.model_laws.specs.Agreement.{IsIn}
use Rattle.model_laws.specs.DrawnIds.{AreDrawn, restarted, with_entry}
use Rattle.model_laws.specs.Laws.{IsDrawn}
use Rattle.model_laws.specs.ReachedWorlds.{counts, Reached}
use Rattle.model_laws.specs.Shapes.{IsAnswer, Answers, ignored, unknown, committed, not_created, not_registered, not_employed, unknown_cell, MovesTransaction, at_seat, at_link, at_completion, when_due, MovesLeaf, at_leaf, leaf_when_due, MovesActivity, at_activity, activity_when_due, works, completes, MakesActivity, begins, interposes, Shape, nothing_moves, time_moves, time_passes, transaction_moves, leaf_moves, activity_moves, transaction_registers, transaction_made, leaf_made, activity_made}
use Rattle.model_laws.specs.PhaseAnswers.{accepted_as}
use Rattle.model_laws.proofs.DecisionLaws.{Both, plain_both, decided_says, in_branch, all_find, all_join, all_more}
use Rattle.model_laws.proofs.OtherEnds.{Anything}
use Rattle.model_laws.proofs.MovePosts.{Standing, activity_standing, initiator_endpoint, seat_like, link_like, completion_like}
use Rattle.model_laws.proofs.StepRegistrations.{Says as Standings, NoRegister, transaction_standing, leaf_standing, by_request, by_work, meets_at, Meets}
use Rattle.model_laws.proofs.Registrations.{WorldGood, IsKnown, IsUp, world_good}
use Rattle.model_laws.proofs.WorldInvariants.{Law, OutFine, holds}
use Rattle.model_laws.proofs.DrawnIds.{drawn_on, made_drawn}
use Rattle.model_laws.proofs.NextIds.{next_numbers}
use Rattle.model_laws.proofs.MadeIds.{entry_rises}
use Rattle.model_laws.proofs.ReachedWorlds.{NodeLaw, nodes_hold, run_reached}
use Rattle.model_laws.proofs.RecoveryLaws.{incarnations_rise}
use Rattle.model_laws.proofs.NodeLives.{put_this, put_other}
use Rattle.model_laws.proofs.StepShapes.{steps_touch_one, steps_keep_place}
use Rattle.agreement.specs.Registers.{IsOwnRegister, Whose, IsWhose, HasDrawn, WasDrawn, IsOwnId, RegistersNameTheirSender}
use Rattle.agreement.proofs.RegisterPosts.{AreWhose, OutWhose, OutsWhose, Says, outs_whose, to_each_whose, like_says, with_answer_whose, due_whose, on_leaf_whose, leaf_due_whose, on_activity_whose, activity_due_whose, asks_whose, completes_whose, register_none, unknown_none, create_whose, work_whose}

posts_whose : (P : Target → Numbers → Type 0) (base : List ℕ) (ps : List Post) → AreWhose P base ps → OutsWhose P base (map outs.Post ps)
posts_whose P base [] h = tt
posts_whose P base (p ∷ ps) (h, k) = (h, posts_whose P base ps k)

answered_whose : (P : Target → Numbers → Type 0) (base : List ℕ) (answer : List Out) → IsAnswer answer → OutsWhose P base answer
answered_whose P base answer (inl e) = subst (OutsWhose P base) (sym e) tt
answered_whose P base answer (inr e) = subst (OutsWhose P base) (sym e) (tt, tt)

abbrev SaysOuts : (Target → Numbers → Type 0) → List ℕ → Outcome → Type 0
SaysOuts P base o = OutsWhose P base o.outs

abbrev BothSay : (Target → Numbers → Type 0) → List ℕ → Plan → Type 0
BothSay P base p = Both (SaysOuts P base) p

decision_says : {A : Type 0} (P : Target → Numbers → Type 0) (base : List ℕ) (b : Book) (put : Option A → Book) (answer : List Out) (d : Decision A) → IsAnswer answer → Says P base d
    → BothSay P base (plan_of b put answer d)
decision_says P base b put answer d a h =
    decided_says (λ c. AreWhose P base c.posts) Anything (SaysOuts P base) (λ r o k. k) b put answer d h
    (λ c k. all_join (OutWhose P base) answer (map outs.Post c.posts) (answered_whose P base answer a) (posts_whose P base c.posts k)) (answered_whose P base answer a)

still_says : (P : Target → Numbers → Type 0) (base : List ℕ) (b : Book) (os : List Out) → OutsWhose P base os → BothSay P base (plain (still b os))
still_says P base b os h = plain_both (SaysOuts P base) (still b os) h

-- strangers
stranger_act_whose : (P : Target → Numbers → Type 0) (base : List ℕ) (own : Target) (from : Option Epr) (id : Option (List ℕ)) (act : Act) → AreWhose P base (stranger_act base own from id act)
stranger_act_whose P base own from id acts.SendRollback = to_each_whose P base from (λ to. stranger_post base own to notices.Rollback) (λ to. tt)
stranger_act_whose P base own from id acts.SendCommitted = to_each_whose P base from (λ to. stranger_post base own to notices.Committed) (λ to. tt)
stranger_act_whose P base own from id acts.SendAborted = to_each_whose P base from (λ to. stranger_post base own to notices.Aborted) (λ to. tt)
stranger_act_whose P base own from id acts.FaultUnknownTransaction = to_each_whose P base from (λ to. fault_post (Some to) id UnknownTransaction) (λ to. tt)
stranger_act_whose P base own from id other = tt

stranger_whose : (P : Target → Numbers → Type 0) (base : List ℕ) (own : Target) (from : Option Epr) (id : Option (List ℕ)) (c : Option Cell) → AreWhose P base (stranger_cell base own from id c)
stranger_whose P base own from id None = tt
stranger_whose P base own from id (Some c) = stranger_act_whose P base own from id c.act

outcome_act_whose : (P : Target → Numbers → Type 0) (base : List ℕ) (own : Target) (from : Option Epr) (id : Option (List ℕ)) (act : Act) → AreWhose P base (outcome_act base own from id act)
outcome_act_whose P base own from id acts.SendCommitted = to_each_whose P base from (λ to. notice_post base own to notices.Committed) (λ to. tt)
outcome_act_whose P base own from id acts.FaultInvalidState = to_each_whose P base from (λ to. fault_post (Some to) id InvalidState) (λ to. tt)
outcome_act_whose P base own from id other = tt

outcome_whose : (P : Target → Numbers → Type 0) (base : List ℕ) (own : Target) (from : Option Epr) (id : Option (List ℕ)) (c : Option Cell) → AreWhose P base (outcome_cell base own from id c)
outcome_whose P base own from id None = tt
outcome_whose P base own from id (Some c) = outcome_act_whose P base own from id c.act

-- what is known of the ids of a book: those that register, and the next one where it is drawn
pub record Knows (P : Target → Numbers → Type 0) (b : Book) : Type 0 where
  pub transactions : (id : Numbers) (t : Transaction) (r : Request) → transaction_at b id ≡ Some t → request_of t.superior ≡ Some r → (kind : Kind) → P (targets.Participant t.id kind) t.id
  pub leaves : (id : Numbers) (l : Leaf) (r : WorkRequest) → leaf_at b id ≡ Some l → l.request ≡ Some r → P (leaf_target l) l.id
  pub activities : (id : Numbers) (a : Activity) → activity_at b id ≡ Some a → P (activity_target a) a.id

-- what is known of an item that is made
pub record Draws (P : Target → Numbers → Type 0) (b : Book) (now : ℕ) (p : Plan) : Type 0 where
  pub transaction : (t : Transaction) (os : List Out) → p ≡ plain (still (make_transaction (at_time now b) t) os) → next_id b ≡ Some t.id → is_none t.superior ≡ false → (kind : Kind)
      → P (targets.Participant t.id kind) t.id
  pub leaf : (l : Leaf) (os : List Out) → p ≡ plain (still (make_leaf (at_time now b) l) os) → next_id b ≡ Some l.id → P (leaf_target l) l.id

one_item : {A : Type 0} (o : Option A) (x y : A) → o ≡ Some x → o ≡ Some y → x ≡ y
one_item o x y e f = cc

no_item : {A : Type 0} (o : Option A) (x : A) → o ≡ None → o ≡ Some x → ⊥
no_item o x e f = cc

-- an answer
answers_whose : (P : Target → Numbers → Type 0) (b : Book) (now : ℕ) (a : Arrived) (os : List Out) → Answers b now a os → OutsWhose P b.base os
answers_whose P b now a os (ignored e) = subst (OutsWhose P b.base) (sym e) (tt, tt)
answers_whose P b now a os (unknown n says at e) =
    subst (OutsWhose P b.base) (sym e) (tt, posts_whose P b.base _ (stranger_whose P b.base a.target a.from a.id (unknown_cell a.target n)))
answers_whose P b now a os (committed n id says at kept e) =
    subst (OutsWhose P b.base) (sym e) (tt, posts_whose P b.base _ (outcome_whose P b.base a.target a.from a.id _))
answers_whose P b now a os (not_created c at says none e) =
    subst (OutsWhose P b.base) (sym e) (create_whose P (moment_of b now) (length b.transactions) a c (next_id b) (λ id t next made superior kind. absurd (no_item _ t none made)))
answers_whose P b now a os (not_registered id r at says none e) = subst (OutsWhose P b.base) (sym e) (outs_whose P b.base _ (unknown_none a r (protocol_named r.protocol)))
answers_whose P b now a os (not_employed w at says none e) =
    subst (OutsWhose P b.base) (sym e) (work_whose P (moment_of b now) (length b.leaves) a w (next_id b) (λ id l next made. absurd (no_item _ l none made)))

-- moves
transaction_whose : (P : Target → Numbers → Type 0) (b : Book) (e : Event) (now : ℕ) (id : Numbers) (t : Transaction) (d : Decision Transaction) → Knows P b → transaction_at b id ≡ Some t
    → MovesTransaction b e now t d → Says P b.base d
transaction_whose P b e now id t d k found (at_seat a s came here is) =
    subst (Says P b.base) (sym is) (like_says P b.base t _ (seat_like NoRegister (request_of t.superior) (map accepted_as t.seats) (option_map initiator_endpoint t.completion) (moment_of b now) a t s a.message (refl, refl, refl)))
transaction_whose P b e now id t d k found (at_link a kind s came target superior is) =
    subst (Says P b.base) (sym is)
    (like_says P b.base t _ (link_like NoRegister (request_of t.superior) (map accepted_as t.seats) (option_map initiator_endpoint t.completion) (moment_of b now) a kind t s a.message (sym (ap request_of superior)) (refl, refl, refl)))
transaction_whose P b e now id t d k found (at_completion a c came target completion is) =
    subst (Says P b.base) (sym is)
    (like_says P b.base t _ (completion_like NoRegister (request_of t.superior) (map accepted_as t.seats) (option_map initiator_endpoint t.completion) (moment_of b now) a t c a.message (sym (ap (option_map initiator_endpoint) completion)) (refl, refl, refl)))
transaction_whose P b e now id t d k found (when_due came is) =
    subst (Says P b.base) (sym is) (due_whose P (moment_of b now) t (transaction_due (moment_of b now) t) (λ kind r f. k.transactions id t r found f kind))

leaf_whose : (P : Target → Numbers → Type 0) (b : Book) (e : Event) (now : ℕ) (id : Numbers) (l : Leaf) (d : Decision Leaf) → Knows P b → leaf_at b id ≡ Some l → MovesLeaf b e now l d → Says P b.base d
leaf_whose P b e now id l d k found (at_leaf a came target is) = subst (Says P b.base) (sym is) (on_leaf_whose P b.base (moment_of b now) a l a.message)
leaf_whose P b e now id l d k found (leaf_when_due came is) =
    subst (Says P b.base) (sym is) (leaf_due_whose P (moment_of b now) l (leaf_due (moment_of b now) l) (λ r f. k.leaves id l r found f))

activity_whose : (P : Target → Numbers → Type 0) (b : Book) (e : Event) (now : ℕ) (id : Numbers) (a : Activity) (d : Decision Activity) → Knows P b → activity_at b id ≡ Some a → MovesActivity b e now a d
    → Says P b.base d
activity_whose P b e now id a d k found (at_activity r came target is) = subst (Says P b.base) (sym is) (on_activity_whose P (moment_of b now) r a r.message (k.activities id a found))
activity_whose P b e now id a d k found (activity_when_due came is) =
    subst (Says P b.base) (sym is) (activity_due_whose P (moment_of b now) a (activity_due (moment_of b now) a) (k.activities id a found))
activity_whose P b e now id a d k found (works url kind vote key value came is) = subst (Says P b.base) (sym is) (asks_whose P b.base (moment_of b now) url kind vote key value a a.context)
activity_whose P b e now id a d k found (completes n l came asked is) = subst (Says P b.base) (sym is) (completes_whose P b.base (moment_of b now) n a)

made_whose : (P : Target → Numbers → Type 0) (b : Book) (e : Event) (now : ℕ) (id : Numbers) (a : Activity) (os : List Out) → MakesActivity b e now id a os → OutsWhose P b.base os
unfolding on_begin on_interpose
made_whose P b e now id a os (begins coordinator ms came is e2) = subst (OutsWhose P b.base) (sym e2) (tt, tt)
made_whose P b e now id a os (interposes coordinator named x came found is e2) = subst (OutsWhose P b.base) (sym e2) (tt, tt)

-- a step
by_shape : (P : Target → Numbers → Type 0) (b : Book) (e : Event) (now : ℕ) (p : Plan) → Knows P b → Draws P b now p → Shape b e now p → BothSay P b.base p
by_shape P b e now p k draws (nothing_moves is) = subst (BothSay P b.base) (sym is) (still_says P b.base b [] tt)
by_shape P b e now p k draws (time_moves a os came answers ordered is) = subst (BothSay P b.base) (sym is) (still_says P b.base (at_time now b) os (answers_whose P b now a os answers))
by_shape P b e now p k draws (time_passes came is) = subst (BothSay P b.base) (sym is) (still_says P b.base (at_time now b) accepted (tt, tt))
by_shape P b e now p k draws (transaction_moves id t answer d found moves a is) =
    subst (BothSay P b.base) (sym is)
    (decision_says P b.base b (put_transaction t.id (at_time now b)) answer (with_answer (moment_of b now) t d) a
    (with_answer_whose P b.base (moment_of b now) t d (transaction_whose P b e now id t d k found moves)))
by_shape P b e now p k draws (leaf_moves id l answer d found moves a is) =
    subst (BothSay P b.base) (sym is) (decision_says P b.base b (put_leaf l.id (at_time now b)) answer d a (leaf_whose P b e now id l d k found moves))
by_shape P b e now p k draws (activity_moves id x answer d found moves a is) =
    subst (BothSay P b.base) (sym is) (decision_says P b.base b (put_activity x.id (at_time now b)) answer d a (activity_whose P b e now id x d k found moves))
by_shape P b e now p k draws (transaction_registers id a r t found came target says ordered is) =
    subst (BothSay P b.base) (sym is)
    (plain_both (SaysOuts P b.base) (registration_outcome b now (on_register (moment_of b now) a r t)) (outs_whose P b.base _ (register_none (moment_of b now) a r t)))
by_shape P b e now p k draws (transaction_made a c id t os came target says next makes sent ordered is) =
    subst (BothSay P b.base) (sym is)
    (still_says P b.base (make_transaction (at_time now b) t) os
    (subst (OutsWhose P b.base) (sym sent) (create_whose P (moment_of b now) (length b.transactions) a c (Some id)
    (λ i x f g superior kind.
    let same : x ≡ t = one_item _ x t g makes in
    let here : t.id ≡ i = subst (HasId id) makes (makes_under_the_next_id.transaction (moment_of b now) (length b.transactions) a c id) ∙ one_item (Some id) id i refl f in
    subst (λ j. P (targets.Participant j kind) j) here
    (draws.transaction t os is (next ∙ f ∙ ap Some (sym here)) (subst (λ (y : Transaction). is_none y.superior ≡ false) same superior) kind)))))
by_shape P b e now p k draws (leaf_made a w id l os came target says next makes sent ordered is) =
    subst (BothSay P b.base) (sym is)
    (still_says P b.base (make_leaf (at_time now b) l) os
    (subst (OutsWhose P b.base) (sym sent) (work_whose P (moment_of b now) (length b.leaves) a w (Some id)
    (λ i x f g.
    let same : x ≡ l = one_item _ x l g makes in
    let here : l.id ≡ i = subst (HasLeafId id) makes (makes_under_the_next_id.leaf (moment_of b now) (length b.leaves) a w id) ∙ one_item (Some id) id i refl f in
    subst (λ (y : Leaf). P (targets.Participant i y.kind) i) (sym same)
    (subst (λ j. P (targets.Participant j l.kind) j) here (draws.leaf l os is (next ∙ f ∙ ap Some (sym here))))))))
by_shape P b e now p k draws (activity_made id a os next makes ordered is) =
    subst (BothSay P b.base) (sym is) (still_says P b.base (make_activity (at_time now b) a) os (made_whose P b e now id a os makes))

-- what an item that registers is known to be
pub next_small : (b : Book) (id : Numbers) → 1 ≤ b.incarnation → b.incarnation ≤ last_counter → next_id b ≡ Some id → IsId id
next_small b id l h e =
    let (i, c) = next_numbers b id e in
    record {
      incarnation_least = omega (arith, i, l);
      incarnation_most = omega (arith, i, h);
      counter_least = omega (arith, c);
      counter_most = omega (arith, c, by_test (nat_lt b.counter last_counter) refl e);
    }
  where
    by_test : (t : Bool) → nat_lt b.counter last_counter ≡ t → (if t then Some (record { incarnation = b.incarnation; counter = b.counter + 1 }) else None) ≡ Some id
        → b.counter < last_counter
    by_test true f e = ltb-true b.counter last_counter f
    by_test false f e = absurd cc

abbrev pub IsKept : Book → Target → Numbers → Type 0
IsKept b own id = IsId id × IsDrawn b id

pub knows : (base : List ℕ) (s : Numbers → Standing) (b : Book) → Standings base s b → Knows (IsKept b) b
knows base s b h = record {
  transactions = λ id t r found asks kind. (
    h.small t.id r.registration
        (meets_at (s t.id) (transaction_standing t) r.registration
        (all_find (λ y. Meets (s y.id) (transaction_standing y)) transaction_id id b.transactions t h.fits.transactions found) (ap by_request asks)),
    all_find (λ y. IsDrawn b y.id) transaction_id id b.transactions t h.order.drawn.transactions found,
  );
  leaves = λ id l r found asks. (
    h.small l.id r.registration
        (meets_at (s l.id) (leaf_standing l) r.registration
        (all_find (λ y. Meets (s y.id) (leaf_standing y)) leaf_id id b.leaves l h.fits.leaves found) (ap by_work asks)),
    all_find (λ y. IsDrawn b y.id) leaf_id id b.leaves l h.order.drawn.leaves found,
  );
  activities = λ id a found. (
    (all_find (λ y. Meets (s y.id) (activity_standing y) × IsId y.id) activity_id id b.activities a h.fits.activities found).1,
    (all_find (AreDrawn b) activity_id id b.activities a h.order.drawn.activities found).own,
  );
}

pub whose_more : (P Q : Target → Numbers → Type 0) (base : List ℕ) (p : Post) (x : Message) → ((own : Target) (id : Numbers) → P own id → Q own id) → Whose P base p x → Whose Q base p x
whose_more P Q base p (messages.Register r) f h =
    record { own = h.own; id = h.id; registers = h.registers; known = f h.own h.id h.known; participant = h.participant; reply = h.reply; to = h.to; whole = h.whole }
whose_more P Q base p (messages.Create c) f h = tt
whose_more P Q base p (messages.CreateResponse c) f h = tt
whose_more P Q base p (messages.RegisterResponse c) f h = tt
whose_more P Q base p (messages.Notice n) f h = tt
whose_more P Q base p (messages.Work w) f h = tt
whose_more P Q base p messages.WorkDone f h = tt
whose_more P Q base p messages.WorkRefused f h = tt
whose_more P Q base p (messages.Fault name) f h = tt

-- the Registers of a step
pub step_says : (P : Target → Numbers → Type 0) (b : Book) (e : Event) (now : ℕ) (landed : Bool) → Knows P b → Draws P b now (plan b e now) → OutsWhose P b.base (step b e now landed).outs
step_says P b e now landed k draws = in_branch (SaysOuts P b.base) (plan b e now) landed (by_shape P b e now (plan b e now) k draws (steps_touch_one b e now))

step_whose : (base : List ℕ) (s : Numbers → Standing) (b : Book) (e : Event) (now : ℕ) (landed : Bool) → Standings base s b
    → OutsWhose (IsKept (step b e now landed).book) b.base (step b e now landed).outs
step_whose base s b e now landed h =
    step_says (IsKept (step b e now landed).book) b e now landed known (record {
      transaction = λ t os is next superior kind. (next_small b t.id h.least h.most next, drawn (make_transaction (at_time now b) t) os is refl refl t.id next);
      leaf = λ l os is next. (next_small b l.id h.least h.most next, drawn (make_leaf (at_time now b) l) os is refl refl l.id next);
    })
  where
    more : (id : Numbers) → IsId id × IsDrawn b id → IsId id × IsDrawn (step b e now landed).book id
    more id (small, d) = (small, drawn_on b (step b e now landed).book (steps_keep_place b e now landed) id d)

    known : Knows (IsKept (step b e now landed).book) b
    known =
        let k : Knows (IsKept b) b = knows base s b h in
        record {
          transactions = λ id t r found asks kind. more t.id (k.transactions id t r found asks kind);
          leaves = λ id l r found asks. more l.id (k.leaves id l r found asks);
          activities = λ id a found. more a.id (k.activities id a found);
        }

    in_either : (c : Book) (os : List Out) (id : Numbers) → IsDrawn c id → (t : Bool) → IsDrawn (branch (plain (still c os)) t).book id
    in_either c os id d true = d
    in_either c os id d false = d

    drawn : (c : Book) (os : List Out) → plan b e now ≡ plain (still c os) → c.incarnation ≡ b.incarnation → c.counter ≡ b.counter + 1 → (id : Numbers) → next_id b ≡ Some id
        → IsDrawn (step b e now landed).book id
    drawn c os is i k id next =
        subst (λ (p : Plan). IsDrawn (branch p landed).book id) (sym is) (in_either c os id (made_drawn b c i k id id next refl) landed)

-- the incarnation of a book is one of its node's records
abbrev pub IsOfRecords : List Record → Option Book → Type 0
IsOfRecords rs None = Unit {0}
IsOfRecords rs (Some b) = b.incarnation ≤ last_incarnation rs

records_law : NodeLaw
records_law = record {
  Good = IsOfRecords;
  opens = tt;
  steps = λ rs b e now landed h. omega (arith, h, (steps_keep_place b e now landed).incarnation, entry_rises (plan b e now).entry landed rs);
  falls = λ rs b h. tt;
  rises = λ base rs small h. omega arith;
}

pub of_records : (hosts : Hosts) (w : World) → Reached hosts w → (n : ℕ) (x : Node) → nth n w.nodes ≡ Some x → IsOfRecords x.journal x.book
unfolding records_law
of_records hosts w reached n x found = nodes_hold records_law hosts w reached n x found

-- what was drawn stays drawn
pub drawn_put : (u v : World) (n : ℕ) (x z : Node) → nth n u.nodes ≡ Some x → v.nodes ≡ put_nth n z u.nodes → ((id : Numbers) → HasDrawn x.journal x.book id → HasDrawn z.journal z.book id)
    → (m : ℕ) (id : Numbers) → WasDrawn u m id → WasDrawn v m id
drawn_put u v n x z found is more m id (y, there, h) = by_number (nat_eq m n) refl
  where
    same_node : (o : Option Node) → o ≡ Some y → o ≡ Some x → y ≡ x
    same_node o e f = cc

    by_number : (c : Bool) → nat_eq m n ≡ c → WasDrawn v m id
    by_number true c =
        let here : m ≡ n = eqb-true m n c in (
          z,
          ap (nth m) is ∙ ap (λ k. nth k (put_nth n z u.nodes)) here ∙ put_this u.nodes n x z found,
          more id (subst (λ (k : Node). HasDrawn k.journal k.book id) (same_node (nth n u.nodes) (subst (λ k. nth k u.nodes ≡ Some y) here there) found) h),
        )
    by_number false c = (y, ap (nth m) is ∙ put_other u.nodes m n z (eqb-false m n c) ∙ there, h)

drawn_step : (x : Node) (b : Book) (e : Event) (now : ℕ) (landed : Bool) (o : Option Book) → x.book ≡ o → o ≡ Some b → (id : Numbers) → HasDrawn x.journal o id
    → IsDrawn (step b e now landed).book id
drawn_step x b e now landed None up is id h = absurd cc
drawn_step x b e now landed (Some c) up is id h =
    let same : c ≡ b = cc in
    drawn_on b (step b e now landed).book (steps_keep_place b e now landed) id (subst (λ (k : Book). IsDrawn k id) same h)

pub drawn_down : (rs : List Record) (o : Option Book) → IsOfRecords rs o → (id : Numbers) → HasDrawn rs o id → HasDrawn rs None id
drawn_down rs None k id h = h
drawn_down rs (Some b) k id (inl h) = omega (arith, h, k)
drawn_down rs (Some b) k id (inr (e, h)) = omega (arith, e, k)

pub drawn_up : (base : List ℕ) (rs : List Record) (stop : Bool) (id : Numbers) → HasDrawn rs None id
    → HasDrawn (restarted rs) (if stop then None else Some (recover base (restarted rs))) id
drawn_up base rs true id h = omega (arith, h, (incarnations_rise rs).0)
drawn_up base rs false id h = inl (omega (arith, h, (incarnations_rise rs).0))

-- runs
abbrev PostedWhose : Hosts → World → Posted → Type 0
PostedWhose hosts w p = IsWhose (IsOwnId w p.sender) (hosts.base_of p.sender) p.content

abbrev AllWhose : Hosts → World → Type 0
AllWhose hosts w = AllByRecursion (PostedWhose hosts w) w.posted

whose_on : (hosts : Hosts) (u v : World) → ((m : ℕ) (id : Numbers) → WasDrawn u m id → WasDrawn v m id) → (ps : List Posted) → AllByRecursion (PostedWhose hosts u) ps → AllByRecursion (PostedWhose hosts v) ps
whose_on hosts u v f ps h =
    all_more (PostedWhose hosts u) (PostedWhose hosts v) ps
    (λ p k. whose_more (IsOwnId u p.sender) (IsOwnId v p.sender) (hosts.base_of p.sender) p.content p.content.message (λ own id i. (i.0, f p.sender id i.1)) k) h

pub outs_on : (P Q : Target → Numbers → Type 0) (base : List ℕ) (os : List Out) → ((own : Target) (id : Numbers) → P own id → Q own id) → OutsWhose P base os → AllByRecursion (OutFine (IsWhose Q base)) os
outs_on P Q base [] f h = tt
outs_on P Q base (outs.Post p ∷ os) f (h, k) = (whose_more P Q base p p.message f h, outs_on P Q base os f k)
outs_on P Q base (outs.Answer status reply ∷ os) f (h, k) = (tt, outs_on P Q base os f k)

steps_whose : (hosts : Hosts) (u : World) (n : ℕ) (x : Node) (b : Book) (e : Event) (now : ℕ) (landed : Bool) → HaveOwnAddresses hosts → Reached hosts u → nth n u.nodes ≡ Some x → x.book ≡ Some b → AllWhose hosts u
    → AllWhose hosts (counts u n x b e now landed) × AllByRecursion (OutFine (IsWhose (IsOwnId (counts u n x b e now landed) n) (hosts.base_of n))) (step b e now landed).outs
steps_whose hosts u n x b e now landed distinct reached found up h =
    let v : World = counts u n x b e now landed in
    let g : WorldGood hosts u = world_good hosts u distinct reached in
    let known : IsUp (hosts.base_of n) (g.choices n) x.journal b = subst (IsKnown (hosts.base_of n) (g.choices n) x.journal) up (g.nodes n x found) in (
      whose_on hosts u v (drawn_put u v n x z found refl (λ id k. drawn_step x b e now landed x.book refl up id k)) u.posted h,
      outs_on (IsKept (step b e now landed).book) (IsOwnId v n) (hosts.base_of n) (step b e now landed).outs (λ own id k. (k.0, (z, put_this u.nodes n x z found, k.1)))
          (subst (λ base. OutsWhose (IsKept (step b e now landed).book) base (step b e now landed).outs) known.says.base_is
          (step_whose (hosts.base_of n) (g.choices n) b e now landed known.says)),
    )
  where
    z : Node
    z = record x { book = Some (step b e now landed).book; journal = with_entry (plan b e now).entry landed x.journal }

falls_whose : (hosts : Hosts) (u : World) (n : ℕ) (x : Node) (b : Book) → Reached hosts u → nth n u.nodes ≡ Some x → AllWhose hosts u → AllWhose hosts (goes_down n b u)
falls_whose hosts u n x b reached found h =
    let is : goes_down n b u ≡ put_book n None (record u { happened = u.happened ++ lost_in n b }) (Some x) = ap (put_book n None (record u { happened = u.happened ++ lost_in n b })) found in
    subst (AllWhose hosts) (sym is)
    (whose_on hosts u (put_book n None (record u { happened = u.happened ++ lost_in n b }) (Some x))
    (drawn_put u (put_book n None (record u { happened = u.happened ++ lost_in n b }) (Some x)) n x (record x { book = None }) found refl
    (drawn_down x.journal x.book (of_records hosts u reached n x found))) u.posted h)

rises_whose : (hosts : Hosts) (u : World) (n : ℕ) (x : Node) (stop : Bool) → nth n u.nodes ≡ Some x → x.book ≡ None → AllWhose hosts u
    → AllWhose hosts (record u { nodes = put_nth n (up_after (started (last_incarnation x.journal + 1) x) stop) u.nodes })
rises_whose hosts u n x stop found down h =
    let v : World = record u { nodes = put_nth n (up_after (started (last_incarnation x.journal + 1) x) stop) u.nodes } in
    whose_on hosts u v
    (drawn_put u v n x (up_after (started (last_incarnation x.journal + 1) x) stop) found refl
    (λ id k. drawn_up x.base x.journal stop id (subst (λ o. HasDrawn x.journal o id) down k))) u.posted h

registering : (hosts : Hosts) → HaveOwnAddresses hosts → Law hosts
registering hosts distinct = record {
  Good = AllWhose hosts;
  Fine = λ w g n p. IsWhose (IsOwnId w n) (hosts.base_of n) p;
  opens = tt;
  steps = λ u n x b e now landed reached found up heard g. steps_whose hosts u n x b e now landed distinct reached found up g;
  posts = λ w g n p f. all_join (PostedWhose hosts (with_post n p w)) w.posted _ g (f, tt);
  still_fine = λ w g n p q f h. h;
  falls = λ u n x b reached found up g. falls_whose hosts u n x b reached found g;
  rises = λ u n x stop reached found down little g. rises_whose hosts u n x stop found down g;
  waits = λ u n x clock reached found g.
      whose_on hosts u (record u { nodes = put_nth n (record x { clock = clock }) u.nodes })
      (drawn_put u (record u { nodes = put_nth n (record x { clock = clock }) u.nodes }) n x (record x { clock = clock }) found refl (λ id k. k)) u.posted g;
}

one_whose : (hosts : Hosts) (w : World) (ps : List Posted) (p : Posted) → AllByRecursion (PostedWhose hosts w) ps → IsIn p ps → PostedWhose hosts w p
one_whose hosts w [] p h i = absurd i
one_whose hosts w (q ∷ ps) p (h, k) (inl e) = subst (PostedWhose hosts w) (sym e) h
one_whose hosts w (q ∷ ps) p (h, k) (inr i) = one_whose hosts w ps p k i

-- each Register that was posted, in every world that is reached
pub registers_named : (hosts : Hosts) (w : World) → HaveOwnAddresses hosts → Reached hosts w → (p : Posted) (r : Register) → IsIn p w.posted → p.content.message ≡ messages.Register r
    → IsOwnRegister (IsOwnId w p.sender) (hosts.base_of p.sender) p.content r
unfolding registering
registers_named hosts w distinct reached p r i e =
    subst (Whose (IsOwnId w p.sender) (hosts.base_of p.sender) p.content) e (one_whose hosts w w.posted p (holds hosts (registering hosts distinct) w reached) i)

pub registers_name_their_sender : RegistersNameTheirSender
registers_name_their_sender hosts es small p r i e = registers_named hosts (run_of hosts es) small (run_reached hosts es) p r i e
