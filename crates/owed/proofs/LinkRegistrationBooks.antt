-- A link that registers waits for the answer to its Register, over whole steps of a book.
use Rattle.std.specs.Prelude.{ℕ, List, [], ◌∷◌, ◌++◌, Option, Some, None, Bool, true, false, if◌then◌else◌, map, ◌≡◌, refl}
use Rattle.std.proofs.Common.{inr, ap, sym, subst, ◌∙◌}
use Rattle.at_base.specs.Numbers.{Numbers}
use Rattle.at_base.specs.declared.notice.Kind.{Kind}
use Rattle.at_base.specs.declared.notice.Notice.{Notice}
use Rattle.at_base.specs.declared.message.Message.{Message}
use Rattle.at_base.specs.declared.message.Message.TheVariants as messages
use Rattle.at_base.specs.declared.target.Target.{Target}
use Rattle.at_base.specs.declared.target.Target.TheVariants as targets
use Rattle.at_base.specs.declared.event.Arrived.{Arrived}
use Rattle.at_base.specs.declared.event.Event.{Event}
use Rattle.at_base.specs.declared.event.Event.TheVariants as events
use Rattle.at_base.specs.declared.outs.Post.{Post}
use Rattle.at_tables.specs.declared.cells.State.TheVariants as states
use Rattle.at_tables.specs.declared.cells.Cell.{Cell}
use Rattle.at_base.specs.Names.{is_kind}
use Rattle.at_tables.specs.Tables.{participant_of}
use Rattle.at_model.specs.Book.{Book, Superior, Transaction}
use Rattle.at_model.specs.Moves.{Decision, Goes, Records}
use Rattle.at_model.specs.Arrivals.{on_link, with_answer}
use Rattle.model_laws.proofs.LinkDecisions.{Linked}
use Rattle.owed.specs.Shape.{IsShaped}
use Rattle.owed.specs.Links.{superior_left}
use Rattle.at_model.specs.Step.{moment_of}
use Rattle.model_laws.specs.Shapes.{MovesTransaction, at_link}
use Rattle.at_base.specs.declared.outs.Out.{Out}
use Rattle.at_base.specs.declared.outs.Out.TheVariants as outs
use Rattle.at_model.specs.Book.{Leaf, find_by, is_id, put_by, transaction_id}
use Rattle.at_model.specs.Posts.{accepted}
use Rattle.at_model.specs.Register.{Registration, on_register}
use Rattle.at_model.specs.Step.{Plan, arrived_plan, at_time, leaf_at, leaf_or_stranger_plan, link_plan, participant_plan, plan, plan_of, put_activity, put_leaf, put_transaction, stranger_cell, stranger_plan, transaction_at}
use Rattle.model_laws.specs.Order.{AreRising}
use Rattle.model_laws.specs.Shapes.{IsAnswer, Shape, nothing_moves, time_moves, time_passes, transaction_moves, leaf_moves, activity_moves, transaction_registers, transaction_made, leaf_made, activity_made}
use Rattle.model_laws.proofs.DecisionLaws.{IfThere, all_find, found_id}
use Rattle.model_laws.proofs.RecoveryLaws.{same_id, self_id}
use Rattle.model_laws.proofs.StepShapes.{steps_touch_one}
use Rattle.agreement.specs.FinishedTransactions.{IsFinished}
use Rattle.agreement.proofs.OtherIds.{find_other, find_this}
use Rattle.enlistments.specs.Moves.{IsReady}
use Rattle.enlistments.proofs.Answers.{keeps_id}
use Rattle.enlistments.proofs.Registrations.{register_enrolls}
use Rattle.owed.specs.Seats.{posts_of}
use Rattle.owed.specs.Shape.{AreShaped}
use Rattle.owed.proofs.SeatPosts.{posts_all}
use Rattle.at_model.specs.Leaves.{on_leaf}
use Rattle.at_model.specs.Step.{leaf_plan}
use Rattle.owed.specs.LinkRegistrations.{IsAnsweredOn, JoinsStill, LinksJoin}
use Rattle.owed.proofs.LinkRegistrations.{same_since}
use Rattle.owed.proofs.LinkRegistrationRules.{JoinsAll, NotAnswered, joins_so, moved_joins, not_at}
use Rattle.owed.proofs.LinkBooks.{enrolled_superior, joined_found, one_of}

abbrev Waits : List ℕ → Event → Transaction → Superior → List Post → Option Superior → Type 0
Waits base e t s ps o = JoinsStill base e t s o

abbrev Fine : Book → Event → Transaction → Superior → Plan → Type 0
Fine b e u s p = Waits b.base e u s (posts_of p.landed.outs) (superior_left (transaction_at p.landed.book u.id))

-- a transaction that is as it was
same_up : (base : List ℕ) (e : Event) (u : Transaction) (s : Superior) (ps : List Post) (o : Option Transaction) → NotAnswered base e u → u.superior ≡ Some s → o ≡ Some u
    → Waits base e u s ps (superior_left o)
same_up base e u s ps o q f g = subst (λ x. Waits base e u s ps (superior_left x)) (sym g) (joins_so base e u s u.superior q (same_since s u.superior f))

-- one transaction moves
moves_one : (base : List ℕ) (e : Event) (b : Book) (t u : Transaction) (s : Superior) (ps : List Post) (new : Option Transaction) → AreRising (map transaction_id b.transactions)
    → transaction_at b t.id ≡ Some t → transaction_at b u.id ≡ Some u → u.superior ≡ Some s → ((u.id ≡ t.id → ⊥) → NotAnswered base e u) → IfThere (λ x. transaction_id x ≡ t.id) new
    → (t.superior ≡ Some s → Waits base e t s ps (superior_left new)) → Waits base e u s ps (superior_left (find_by transaction_id u.id (put_by transaction_id t.id new b.transactions)))
moves_one base e b t u s ps new rising stands found f others own h = by_case (is_id t.id u.id) refl
  where
    by_case : (c : Bool) → is_id t.id u.id ≡ c → Waits base e u s ps (superior_left (find_by transaction_id u.id (put_by transaction_id t.id new b.transactions)))
    by_case true g =
        let same : t ≡ u = one_of t u (transaction_at b t.id) stands (subst (λ j. transaction_at b j ≡ Some u) (sym (same_id t.id u.id g)) found) in
        subst (λ x. Waits base e x s ps (superior_left (find_by transaction_id x.id (put_by transaction_id t.id new b.transactions)))) same
        (subst (λ x. Waits base e t s ps (superior_left x)) (sym (find_this transaction_id t.id t new b.transactions rising stands own)) (h (subst (λ x. x.superior ≡ Some s) (sym same) f)))
    by_case false g =
        same_up base e u s ps (find_by transaction_id u.id (put_by transaction_id t.id new b.transactions))
        (others (λ k. let z : is_id t.id t.id ≡ false = subst (λ x. is_id t.id x ≡ false) k g in let y : is_id t.id t.id ≡ true = self_id t.id in absurd cc)) f
        (find_other transaction_id t.id u.id new b.transactions own g ∙ found)

decision_up : (b : Book) (e : Event) (now : ℕ) (t u : Transaction) (s : Superior) (answer : List Out) (d : Decision Transaction) → AreRising (map transaction_id b.transactions)
    → transaction_at b t.id ≡ Some t → transaction_at b u.id ≡ Some u → u.superior ≡ Some s → ((u.id ≡ t.id → ⊥) → NotAnswered b.base e u) → IsAnswer answer
    → Rattle.owed.proofs.Rules.Owes (moment_of b now) e t d → (t.superior ≡ Some s → JoinsAll b.base e t s d) → Fine b e u s (plan_of b (put_transaction t.id (at_time now b)) answer d)
decision_up b e now t u s answer (Goes c) rising stands found f others o own h =
    subst (λ ps. Waits b.base e u s ps (superior_left (find_by transaction_id u.id (put_by transaction_id t.id c.item b.transactions)))) (sym (posts_all answer c.posts o))
    (moves_one b.base e b t u s c.posts c.item rising stands found f others (Rattle.owed.proofs.SeatPosts.left_id (moment_of b now) e t c.posts c.item own) h)
decision_up b e now t u s answer (Records r c absent) rising stands found f others o own h =
    subst (λ ps. Waits b.base e u s ps (superior_left (find_by transaction_id u.id (put_by transaction_id t.id c.item b.transactions)))) (sym (posts_all answer c.posts o))
    (moves_one b.base e b t u s c.posts c.item rising stands found f others (Rattle.owed.proofs.SeatPosts.left_id (moment_of b now) e t c.posts c.item own.landed) (λ g. (h g).landed))

moves_fine : (b : Book) (e : Event) (now : ℕ) (id : Numbers) (t u : Transaction) (s : Superior) (answer : List Out) (d : Decision Transaction) → IsReady b → AreShaped b
    → transaction_at b id ≡ Some t → transaction_at b u.id ≡ Some u → u.superior ≡ Some s → ((u.id ≡ t.id → ⊥) → NotAnswered b.base e u) → IsAnswer answer → MovesTransaction b e now t d
    → Fine b e u s (plan_of b (put_transaction t.id (at_time now b)) answer (with_answer (moment_of b now) t d))
moves_fine b e now id t u s answer d ready shaped stands found f others o how =
    let h : IsShaped t = all_find IsShaped transaction_id id b.transactions t shaped stands in
    let l : Linked t = all_find Linked transaction_id id b.transactions t ready.phases.links stands in
    decision_up b e now t u s answer (with_answer (moment_of b now) t d) ready.order.rising.transactions
    (subst (λ j. transaction_at b j ≡ Some t) (sym (found_id transaction_id id b.transactions t stands)) stands) found f others o
    (Rattle.owed.proofs.Steps.moved_owes b e now t d h l (all_find IsFinished transaction_id id b.transactions t ready.finished stands) how) (λ g. moved_joins b e now t s d g l how)

others_fine : {A : Type 0} (b : Book) (e : Event) (u : Transaction) (s : Superior) (put : Option A → Book) (answer : List Out) (d : Decision A) → NotAnswered b.base e u → u.superior ≡ Some s
    → transaction_at b u.id ≡ Some u → ((x : Option A) → (put x).transactions ≡ b.transactions) → Fine b e u s (plan_of b put answer d)
others_fine b e u s put answer (Goes c) q f found same =
    same_up b.base e u s (posts_of (answer ++ map outs.Post c.posts)) (transaction_at (put c.item) u.id) q f (ap (λ ts. find_by transaction_id u.id ts) (same c.item) ∙ found)
others_fine b e u s put answer (Records r c absent) q f found same =
    same_up b.base e u s (posts_of (answer ++ map outs.Post c.posts)) (transaction_at (put c.item) u.id) q f (ap (λ ts. find_by transaction_id u.id ts) (same c.item) ∙ found)

quiet_fine : (b : Book) (e : Event) (now : ℕ) (p : Plan) (u : Transaction) (s : Superior) → IsReady b → AreShaped b → NotAnswered b.base e u → transaction_at b u.id ≡ Some u → u.superior ≡ Some s
    → Shape b e now p → Fine b e u s p
quiet_fine b e now p u s ready shaped q found f (nothing_moves is) = subst (Fine b e u s) (sym is) (same_up b.base e u s [] (transaction_at b u.id) q f found)
quiet_fine b e now p u s ready shaped q found f (time_moves a os came why o is) = subst (Fine b e u s) (sym is) (same_up b.base e u s (posts_of os) (transaction_at b u.id) q f found)
quiet_fine b e now p u s ready shaped q found f (time_passes came is) = subst (Fine b e u s) (sym is) (same_up b.base e u s [] (transaction_at b u.id) q f found)
quiet_fine b e now p u s ready shaped q found f (transaction_moves id t answer d stands how o is) =
    subst (Fine b e u s) (sym is) (moves_fine b e now id t u s answer d ready shaped stands found f (λ k. q) o how)
quiet_fine b e now p u s ready shaped q found f (leaf_moves id l answer d stands how o is) =
    subst (Fine b e u s) (sym is) (others_fine b e u s (put_leaf l.id (at_time now b)) answer d q f found (λ x. refl))
quiet_fine b e now p u s ready shaped q found f (activity_moves id a answer d stands how o is) =
    subst (Fine b e u s) (sym is) (others_fine b e u s (put_activity a.id (at_time now b)) answer d q f found (λ x. refl))
quiet_fine b e now p u s ready shaped q found f (transaction_registers id a r t stands came at says o is) =
    let g : Registration = on_register (moment_of b now) a r t in
    let own : g.transaction.id ≡ t.id = keeps_id (moment_of b now) a r t g (register_enrolls (moment_of b now) a r t) in
    let here : transaction_at b t.id ≡ Some t = subst (λ j. transaction_at b j ≡ Some t) (sym (found_id transaction_id id b.transactions t stands)) stands in
    subst (Fine b e u s) (sym is)
    (subst (λ j. Waits b.base e u s (posts_of g.outs) (superior_left (find_by transaction_id u.id (put_by transaction_id j (Some g.transaction) b.transactions)))) (sym own)
    (moves_one b.base e b t u s (posts_of g.outs) (Some g.transaction) ready.order.rising.transactions here found f (λ k. q) own (λ k. taken t g k (own_quiet t here))))
  where
    own_quiet : (t : Transaction) → transaction_at b t.id ≡ Some t → (kind : Kind) → IsAnsweredOn b.base e t kind → ⊥
    own_quiet t here kind h = registers_only t h
      where
        registers_only : (y : Transaction) → IsAnsweredOn b.base e y kind → ⊥
        registers_only y k =
            let same : k.message ≡ a = Rattle.owed.proofs.Steps.came_so e k.message a k.came came in
            let target : targets.Participant y.id kind ≡ targets.Registration id = sym k.target ∙ (ap (λ (v : Arrived). v.target) same ∙ at) in
            cc

    taken : (t : Transaction) (g : Registration) → t.superior ≡ Some s → NotAnswered b.base e t → Waits b.base e t s (posts_of (on_register (moment_of b now) a r t).outs) (on_register (moment_of b now) a r t).transaction.superior
    taken t g k z =
        subst (Waits b.base e t s (posts_of (on_register (moment_of b now) a r t).outs)) (sym (enrolled_superior (moment_of b now) a r t (on_register (moment_of b now) a r t) (register_enrolls (moment_of b now) a r t)))
        (joins_so b.base e t s t.superior z (same_since s t.superior k))
quiet_fine b e now p u s ready shaped q found f (transaction_made a c id t os came at says next made sent o is) =
    subst (Fine b e u s) (sym is) (same_up b.base e u s (posts_of os) (find_by transaction_id u.id (b.transactions ++ t ∷ [])) q f (joined_found u t b.transactions found))
quiet_fine b e now p u s ready shaped q found f (leaf_made a w id l os came at says next made sent o is) =
    subst (Fine b e u s) (sym is) (same_up b.base e u s (posts_of os) (transaction_at b u.id) q f found)
quiet_fine b e now p u s ready shaped q found f (activity_made id a os next made o is) =
    subst (Fine b e u s) (sym is) (same_up b.base e u s (posts_of os) (transaction_at b u.id) q f found)

-- A message for a participant.
stranger_fine : (b : Book) (now : ℕ) (a : Arrived) (cells : Notice → Option Cell) (x : Message) (u : Transaction) (s : Superior) → NotAnswered b.base (events.Arrived a) u
    → transaction_at b u.id ≡ Some u → u.superior ≡ Some s → Fine b (events.Arrived a) u s (stranger_plan b now a cells x)
stranger_fine b now a cells (messages.Notice n) u s q found f =
    same_up b.base (events.Arrived a) u s (posts_of (accepted ++ map outs.Post (stranger_cell b.base a.target a.from a.id (cells n)))) (transaction_at b u.id) q f found
stranger_fine b now a cells other u s q found f = same_up b.base (events.Arrived a) u s [] (transaction_at b u.id) q f found

leaf_fine : (b : Book) (now : ℕ) (a : Arrived) (kind : Kind) (l : Option Leaf) (u : Transaction) (s : Superior) → NotAnswered b.base (events.Arrived a) u → transaction_at b u.id ≡ Some u
    → u.superior ≡ Some s → Fine b (events.Arrived a) u s (leaf_or_stranger_plan b now a kind l)
leaf_fine b now a kind None u s q found f = stranger_fine b now a (participant_of kind states.None) a.message u s q found f
leaf_fine b now a kind (Some l) u s q found f = by_kind (is_kind l.kind kind)
  where
    by_kind : (c : Bool) → Fine b (events.Arrived a) u s (if c then leaf_plan b now accepted l (on_leaf (moment_of b now) a l a.message)
        else stranger_plan b now a (participant_of kind states.None) a.message)
    by_kind true = others_fine b (events.Arrived a) u s (put_leaf l.id (at_time now b)) accepted (on_leaf (moment_of b now) a l a.message) q f found (λ x. refl)
    by_kind false = stranger_fine b now a (participant_of kind states.None) a.message u s q found f

id_of : Target → Numbers → Numbers
id_of (targets.Participant id kind) other = id
id_of T other = other

others_quiet : (b : Book) (a : Arrived) (id : Numbers) (kind : Kind) (u : Transaction) → a.target ≡ targets.Participant id kind → (u.id ≡ id → ⊥) → NotAnswered b.base (events.Arrived a) u
unfolding id_of
others_quiet b a id kind u at f =
    not_at b.base (events.Arrived a) a u refl (λ k g. f (ap (λ T. id_of T id) (sym g ∙ at)))

link_fine : (b : Book) (now : ℕ) (a : Arrived) (id : Numbers) (kind : Kind) (t u : Transaction) (s : Superior) (o : Option Superior) → a.target ≡ targets.Participant id kind → IsReady b → AreShaped b
    → transaction_at b id ≡ Some t → t.superior ≡ o → transaction_at b u.id ≡ Some u → u.superior ≡ Some s → Fine b (events.Arrived a) u s (link_plan b now a kind t o)
link_fine b now a id kind t u s None at ready shaped stands none found f =
    stranger_fine b now a (participant_of kind states.None) a.message u s
    (others_quiet b a id kind u at (λ k. let same : t ≡ u = one_of t u (transaction_at b id) stands (subst (λ j. transaction_at b j ≡ Some u) k found) in
    let both : None ≡ Some s = sym none ∙ (ap (λ (x : Transaction). x.superior) same ∙ f) in cc)) found f
link_fine b now a id kind t u s (Some z) at ready shaped stands is found f =
    let own : t.id ≡ id = found_id transaction_id id b.transactions t stands in
    moves_fine b (events.Arrived a) now id t u s accepted (on_link (moment_of b now) a kind t z a.message) ready shaped stands found f
    (λ k. others_quiet b a id kind u at (λ g. k (g ∙ sym own))) (inr refl) (at_link a kind z refl (at ∙ ap (λ j. targets.Participant j kind) (sym own)) is refl)

participant_fine : (b : Book) (now : ℕ) (a : Arrived) (id : Numbers) (kind : Kind) (o : Option Transaction) (u : Transaction) (s : Superior) → a.target ≡ targets.Participant id kind → IsReady b
    → AreShaped b → transaction_at b id ≡ o → transaction_at b u.id ≡ Some u → u.superior ≡ Some s → Fine b (events.Arrived a) u s (participant_plan b now a kind o (leaf_at b id))
unfolding participant_plan
participant_fine b now a id kind None u s at ready shaped none found f =
    leaf_fine b now a kind (leaf_at b id) u s (others_quiet b a id kind u at (λ k. let g : transaction_at b id ≡ Some u = subst (λ j. transaction_at b j ≡ Some u) k found in let h : None ≡ Some u = sym none ∙ g in cc)) found f
participant_fine b now a id kind (Some t) u s at ready shaped stands found f = link_fine b now a id kind t u s t.superior at ready shaped stands refl found f

abbrev IsLinkTarget : Target → Type 0
IsLinkTarget (targets.Participant id kind) = Unit {0}
IsLinkTarget other = ⊥

arrived_fine : (b : Book) (a : Arrived) (now : ℕ) (T : Target) (u : Transaction) (s : Superior) → a.target ≡ T → IsReady b → AreShaped b
    → transaction_at b u.id ≡ Some u → u.superior ≡ Some s → Fine b (events.Arrived a) u s (arrived_plan b now a T)
unfolding arrived_plan
arrived_fine b a now (targets.Participant id kind) u s at ready shaped found f = participant_fine b now a id kind (transaction_at b id) u s at ready shaped refl found f
arrived_fine b a now other u s at ready shaped found f =
    quiet_fine b (events.Arrived a) now (arrived_plan b now a other) u s ready shaped (not_at b.base (events.Arrived a) a u refl (λ k g. subst IsLinkTarget (sym g ∙ at) tt)) found f
    (subst (λ T. Shape b (events.Arrived a) now (arrived_plan b now a T)) at (steps_touch_one b (events.Arrived a) now))

pub steps_so : (b : Book) (e : Event) (now : ℕ) → IsReady b → AreShaped b → (u : Transaction) (s : Superior) → transaction_at b u.id ≡ Some u → u.superior ≡ Some s → Fine b e u s (plan b e now)
steps_so b (events.Arrived a) now ready shaped u s found f = arrived_fine b a now a.target u s refl ready shaped found f
steps_so b (events.Local l) now ready shaped u s found f =
    quiet_fine b (events.Local l) now (plan b (events.Local l) now) u s ready shaped (λ k h. let g : events.Local l ≡ events.Arrived h.message = h.came in absurd cc) found f (steps_touch_one b (events.Local l) now)
steps_so b (events.Due item) now ready shaped u s found f =
    quiet_fine b (events.Due item) now (plan b (events.Due item) now) u s ready shaped (λ k h. let g : events.Due item ≡ events.Arrived h.message = h.came in absurd cc) found f (steps_touch_one b (events.Due item) now)
steps_so b events.Tick now ready shaped u s found f =
    quiet_fine b events.Tick now (plan b events.Tick now) u s ready shaped (λ k h. let g : events.Tick ≡ events.Arrived h.message = h.came in absurd cc) found f (steps_touch_one b events.Tick now)

pub links_join : LinksJoin
links_join = record { joins = λ b e now ready shaped t s found f. steps_so b e now ready shaped t s found f }
