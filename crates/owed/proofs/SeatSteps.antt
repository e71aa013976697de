-- So does each step: messages that are for no seat, requests and time.
use Rattle.std.specs.Prelude.{ℕ, List, [], ◌∷◌, ◌++◌, Option, Some, None, Bool, true, false, if◌then◌else◌, length, map, nat_lt, bytes_eq, ◌&&◌, ◌≡◌, refl}
use Rattle.std.specs.List.{AllByRecursion}
use Rattle.std.proofs.Common.{inl, ap, sym, subst, ◌∙◌}
use Rattle.at_base.specs.declared.limits.TheConstants.{MOST_ITEMS}
use Rattle.at_base.specs.Numbers.{Numbers}
use Rattle.at_base.specs.declared.epr.Epr.{Epr}
use Rattle.at_base.specs.declared.epr.Reply.{Reply}
use Rattle.at_base.specs.declared.epr.Reply.TheVariants as replies
use Rattle.at_base.specs.declared.notice.Kind.{Kind}
use Rattle.at_base.specs.declared.notice.Kind.TheVariants as kinds
use Rattle.at_base.specs.declared.notice.Notice.TheVariants as notices
use Rattle.at_base.specs.declared.message.Context.{Context}
use Rattle.at_base.specs.declared.message.Create.{Create}
use Rattle.at_base.specs.declared.message.Message.{Message}
use Rattle.at_base.specs.declared.message.Message.TheVariants as messages
use Rattle.at_base.specs.declared.message.Register.{Register}
use Rattle.at_base.specs.declared.target.Seat.{Seat}
use Rattle.at_base.specs.declared.target.Target.{Target}
use Rattle.at_base.specs.declared.target.Target.TheVariants as targets
use Rattle.at_base.specs.declared.event.Arrived.{Arrived}
use Rattle.at_base.specs.declared.event.Event.{Event}
use Rattle.at_base.specs.declared.event.Event.TheVariants as events
use Rattle.at_base.specs.declared.event.Moment.{Moment}
use Rattle.at_base.specs.declared.outs.Out.{Out}
use Rattle.at_base.specs.declared.outs.Out.TheVariants as outs
use Rattle.at_base.specs.declared.outs.Post.{Post}
use Rattle.at_tables.specs.declared.cells.State.{State}
use Rattle.at_tables.specs.declared.cells.State.TheVariants as states
use Rattle.at_tables.specs.Tables.{coordinator_of}
use Rattle.endpoints.specs.Addresses.{atomic}
use Rattle.at_model.specs.Book.{Book, Enlistment, Transaction, find_by, put_by, transaction_id}
use Rattle.at_model.specs.Create.{create_in, create_under, on_create, refuse_create}
use Rattle.at_model.specs.Moves.{Decision, Goes, Records}
use Rattle.at_model.specs.Posts.{stranger_post}
use Rattle.at_model.specs.Arrivals.{with_answer}
use Rattle.at_model.specs.Register.{Registration, accept_seat, is_late, late_prepare, new_seat, on_register, registered_reply, seat_endpoint}
use Rattle.at_model.specs.Step.{Plan, arrived_plan, at_time, coordinator_plan, find_seat, moment_of, plan, plan_of, put_activity, put_leaf, seat_plan, step, transaction_at}
use Rattle.model_laws.specs.Agreement.{IsIn}
use Rattle.model_laws.specs.Shapes.{IfFound, IsUnknownAt, Shape, nothing_moves, time_moves, time_passes, transaction_moves, leaf_moves, activity_moves, transaction_registers, transaction_made, leaf_made, activity_made}
use Rattle.model_laws.proofs.DecisionLaws.{IfThere, all_find, either_of, found_id}
use Rattle.model_laws.proofs.LinkDecisions.{Linked}
use Rattle.model_laws.proofs.StepShapes.{steps_touch_one}
use Rattle.agreement.specs.FinishedTransactions.{IsFinished}
use Rattle.enlistments.specs.Registrations.{Enrolls, has_completion, has_seat, refuses, takes_completion, takes_seat}
use Rattle.enlistments.specs.Moves.{IsReady}
use Rattle.enlistments.proofs.Answers.{keeps_id}
use Rattle.enlistments.proofs.Registrations.{register_enrolls}
use Rattle.owed.specs.Seats.{AreOwed, IsNew, IsOwed, PairsOrNew, StepsOweSeats, Tells, posts_of}
use Rattle.owed.specs.Shape.{AreShaped, IsShaped}
use Rattle.owed.proofs.StepSeats.{in_back}
use Rattle.owed.proofs.AtSeats.{Unheard, same_owed}
use Rattle.owed.proofs.OnLinks.{IsQuiet, quiet_all}
use Rattle.owed.proofs.SeatPosts.{at_coordinator, decision_owed, one_moves, or_new, same_so}
use Rattle.owed.proofs.Steps.{moved_owes}

-- a new seat behind those that were
seat_added : (m : Moment) (e : Event) (t : Transaction) (ps : List Post) (s : Enlistment) (seats : List Enlistment) → AllByRecursion (Unheard e t ps) seats → IsNew m.base t ps s
    → PairsOrNew (IsOwed m.base e t ps) (IsNew m.base t ps) seats (seats ++ s ∷ [])
seat_added m e t ps s seats h k = behind seats (same_owed m e t ps seats h)
  where
    behind : (xs : List Enlistment) → Rattle.owed.specs.Seats.Pairs (IsOwed m.base e t ps) xs xs → PairsOrNew (IsOwed m.base e t ps) (IsNew m.base t ps) xs (xs ++ s ∷ [])
    behind [] i = (k, tt)
    behind (x ∷ xs) (i, is) = (i, behind xs is)

pub posts_join : (xs ys : List Out) → posts_of (xs ++ ys) ≡ posts_of xs ++ posts_of ys
posts_join [] ys = refl
posts_join (outs.Post p ∷ xs) ys = ap (λ z. p ∷ z) (posts_join xs ys)
posts_join (outs.Answer status reply ∷ xs) ys = posts_join xs ys

new_asked : (m : Moment) (a : Arrived) (t : Transaction) (participant : Epr) (kind : Kind)
    → IsNew m.base t (posts_of (accept_seat m a t (new_seat t participant kind)).outs) (new_seat t participant kind)
new_asked m a t participant kind = by_late (is_late t.phase kind) refl
  where
    reply : List Out
    reply = registered_reply a (seat_endpoint m.base t.id (new_seat t participant kind))

    by_late : (b : Bool) → is_late t.phase kind ≡ b → IsNew m.base t (posts_of (accept_seat m a t (new_seat t participant kind)).outs) (new_seat t participant kind)
    by_late true f = (
      (λ d. subst (IsIn (Rattle.owed.specs.Seats.seat_post m.base t.id (new_seat t participant kind) notices.Prepare))
          (sym (posts_join (registered_reply a (seat_endpoint m.base t.id (new_seat t participant kind))) (late_prepare m t.id (is_late t.phase kind) (new_seat t participant kind))))
          (in_back _ (posts_of (registered_reply a (seat_endpoint m.base t.id (new_seat t participant kind)))) (posts_of (late_prepare m t.id (is_late t.phase kind) (new_seat t participant kind)))
          (subst (λ c. IsIn (Rattle.owed.specs.Seats.seat_post m.base t.id (new_seat t participant kind) notices.Prepare) (posts_of (late_prepare m t.id c (new_seat t participant kind)))) (sym f) (inl refl)))),
      ((λ d. other states.Committing refl refl d), (λ d. other states.Prepared refl refl d)),
    )
      where
        other : (s : State) → Rattle.at_tables.specs.Names.is_state states.Preparing s ≡ false → Rattle.at_tables.specs.Names.is_state states.Active s ≡ false
            → (if is_late t.phase kind then states.Preparing else states.Active) ≡ s → ⊥
        other s g h d = let k : states.Preparing ≡ s = subst (λ c. (if c then states.Preparing else states.Active) ≡ s) f d in let z : Rattle.at_tables.specs.Names.is_state states.Preparing states.Preparing ≡ false = subst (λ x. Rattle.at_tables.specs.Names.is_state states.Preparing x ≡ false) (sym k) g in cc
    by_late false f =
        ((λ d. absurd (other states.Preparing refl d)), ((λ d. other states.Committing refl d), (λ d. other states.Prepared refl d)))
      where
        other : (s : State) → Rattle.at_tables.specs.Names.is_state states.Active s ≡ false → (if is_late t.phase kind then states.Preparing else states.Active) ≡ s → ⊥
        other s g d = let k : states.Active ≡ s = subst (λ c. (if c then states.Preparing else states.Active) ≡ s) f d in let z : Rattle.at_tables.specs.Names.is_state states.Active states.Active ≡ false = subst (λ x. Rattle.at_tables.specs.Names.is_state states.Active x ≡ false) (sym k) g in cc

-- a registration
abbrev Taken : Moment → Event → Transaction → Registration → Type 0
Taken m e t g = AreOwed m.base e (posts_of g.outs) (Some t) (Some g.transaction)

kept_seats : (m : Moment) (e : Event) (t : Transaction) (ps : List Post) → IsQuiet e t → PairsOrNew (IsOwed m.base e t ps) (IsNew m.base t ps) t.seats t.seats
kept_seats m e t ps q = or_new (IsOwed m.base e t ps) (IsNew m.base t ps) t.seats t.seats (same_owed m e t ps t.seats (quiet_all e t ps t.seats q))

enrolls_owed : (m : Moment) (e : Event) (a : Arrived) (r : Register) (t : Transaction) (g : Registration) → Enrolls m a r t g → IsQuiet e t → Taken m e t g
enrolls_owed m e a r t g (takes_seat kind p may is) q =
    subst (Taken m e t) (sym is) (
      refl,
      seat_added m e t (posts_of (accept_seat m a t (new_seat t r.participant kind)).outs) (new_seat t r.participant kind) t.seats
          (quiet_all e t (posts_of (accept_seat m a t (new_seat t r.participant kind)).outs) t.seats q) (new_asked m a t r.participant kind),
    )
enrolls_owed m e a r t g (takes_completion p may is) q = subst (Taken m e t) (sym is) (refl, kept_seats m e t _ q)
enrolls_owed m e a r t g (has_seat kind s p i k f is) q = subst (Taken m e t) (sym is) (refl, kept_seats m e t _ q)
enrolls_owed m e a r t g (has_completion c p there f is) q = subst (Taken m e t) (sym is) (refl, kept_seats m e t _ q)
enrolls_owed m e a r t g (refuses name is) q = subst (Taken m e t) (sym is) (refl, kept_seats m e t _ q)

-- a transaction that is made
abbrev HasNoSeats : Transaction → Type 0
HasNoSeats t = t.seats ≡ []

under_empty : (m : Moment) (id : Numbers) (a : Arrived) (c : Create) (current : Context) (r : Reply) → IfThere HasNoSeats (create_under m id a c current r).transaction
unfolding create_under
under_empty m id a c current (replies.At reply) = refl
under_empty m id a c current replies.Anonymous = tt
under_empty m id a c current replies.Nobody = tt

in_empty : (m : Moment) (id : Numbers) (a : Arrived) (c : Create) (current : Option Context) → IfThere HasNoSeats (create_in m id a c current).transaction
unfolding create_in
in_empty m id a c None = refl
in_empty m id a c (Some current) = under_empty m id a c current a.reply

made_empty : (m : Moment) (live : ℕ) (a : Arrived) (c : Create) (id : Numbers) (t : Transaction) → (on_create m live a c (Some id)).transaction ≡ Some t → HasNoSeats t
unfolding on_create
made_empty m live a c id t e =
    subst (IfThere HasNoSeats) e
    (either_of (λ x. IfThere HasNoSeats x.transaction) (bytes_eq c.coordination atomic && nat_lt live MOST_ITEMS) (create_in m id a c c.current) (refuse_create a) (λ k. (in_empty m id a c c.current)) (λ k. tt))

-- behind the others
joined_owed : (m : Moment) (e : Event) (ps : List Post) (i : Numbers) (t : Transaction) (xs : List Transaction) → HasNoSeats t → ((u : Transaction) → IsQuiet e u)
    → AreOwed m.base e ps (find_by transaction_id i xs) (find_by transaction_id i (xs ++ t ∷ []))
joined_owed m e ps i t [] h q = by_test (Rattle.at_model.specs.Book.is_id t.id i)
  where
    by_test : (b : Bool) → AreOwed m.base e ps None (if b then Some t else None)
    by_test true = h
    by_test false = tt
joined_owed m e ps i t (x ∷ xs) h q = by_test (joined_owed m e ps i t xs h q) (Rattle.at_model.specs.Book.is_id x.id i)
  where
    by_test : AreOwed m.base e ps (find_by transaction_id i xs) (find_by transaction_id i (xs ++ t ∷ [])) → (b : Bool)
        → AreOwed m.base e ps (if b then Some x else find_by transaction_id i xs) (if b then Some x else find_by transaction_id i (xs ++ t ∷ []))
    by_test rest true = same_so m e ps (Some x) (λ u f n s k said. q u n s said)
    by_test rest false = rest

abbrev Fine : Book → Event → Numbers → Plan → Type 0
Fine b e i p = AreOwed b.base e (posts_of p.landed.outs) (transaction_at b i) (transaction_at p.landed.book i)

others_fine : {A : Type 0} (b : Book) (e : Event) (i : Numbers) (put : Option A → Book) (answer : List Out) (d : Decision A) → ((u : Transaction) → IsQuiet e u)
    → ((x : Option A) → (put x).transactions ≡ b.transactions) → Fine b e i (plan_of b put answer d)
others_fine b e i put answer (Goes c) q same =
    subst (λ ts. AreOwed b.base e (posts_of (answer ++ map outs.Post c.posts)) (transaction_at b i) (find_by transaction_id i ts)) (sym (same c.item))
    (same_so (moment_of b 0) e (posts_of (answer ++ map outs.Post c.posts)) (transaction_at b i) (λ u f n s k said. q u n s said))
others_fine b e i put answer (Records r c absent) q same =
    subst (λ ts. AreOwed b.base e (posts_of (answer ++ map outs.Post c.posts)) (transaction_at b i) (find_by transaction_id i ts)) (sym (same c.item))
    (same_so (moment_of b 0) e (posts_of (answer ++ map outs.Post c.posts)) (transaction_at b i) (λ u f n s k said. q u n s said))

as_it_was : (b : Book) (e : Event) (now : ℕ) (i : Numbers) (ps : List Post) → ((u : Transaction) → IsQuiet e u) → AreOwed b.base e ps (transaction_at b i) (transaction_at b i)
as_it_was b e now i ps q = same_so (moment_of b now) e ps (transaction_at b i) (λ u f n s k said. q u n s said)

quiet_fine : (b : Book) (e : Event) (now : ℕ) (p : Plan) (i : Numbers) → IsReady b → AreShaped b → ((u : Transaction) → IsQuiet e u) → Shape b e now p → Fine b e i p
quiet_fine b e now p i ready shaped q (nothing_moves f) = subst (Fine b e i) (sym f) (as_it_was b e now i [] q)
quiet_fine b e now p i ready shaped q (time_moves a os came why o f) = subst (Fine b e i) (sym f) (as_it_was b e now i (posts_of os) q)
quiet_fine b e now p i ready shaped q (time_passes came f) = subst (Fine b e i) (sym f) (as_it_was b e now i [] q)
quiet_fine b e now p i ready shaped q (transaction_moves id t answer d stands how o f) =
    subst (Fine b e i) (sym f)
    (decision_owed (moment_of b now) e b now t answer (with_answer (moment_of b now) t d) i ready.order.rising.transactions
    (subst (λ j. transaction_at b j ≡ Some t) (sym (found_id transaction_id id b.transactions t stands)) stands) (λ u g h n s k said. q u n s said) o
    (moved_owes b e now t d (all_find IsShaped transaction_id id b.transactions t shaped stands) (all_find Linked transaction_id id b.transactions t ready.phases.links stands)
    (all_find IsFinished transaction_id id b.transactions t ready.finished stands) how))
quiet_fine b e now p i ready shaped q (leaf_moves id l answer d stands how o f) = subst (Fine b e i) (sym f) (others_fine b e i (put_leaf l.id (at_time now b)) answer d q (λ x. refl))
quiet_fine b e now p i ready shaped q (activity_moves id a answer d stands how o f) = subst (Fine b e i) (sym f) (others_fine b e i (put_activity a.id (at_time now b)) answer d q (λ x. refl))
quiet_fine b e now p i ready shaped q (transaction_registers id a r t stands came at says o f) =
    let g : Registration = on_register (moment_of b now) a r t in
    let own : g.transaction.id ≡ t.id = keeps_id (moment_of b now) a r t g (register_enrolls (moment_of b now) a r t) in
    subst (Fine b e i) (sym f)
    (subst (λ j. AreOwed b.base e (posts_of g.outs) (transaction_at b i) (find_by transaction_id i (put_by transaction_id j (Some g.transaction) b.transactions))) (sym own)
    (one_moves (moment_of b now) e b t (posts_of g.outs) (Some g.transaction) i ready.order.rising.transactions
    (subst (λ j. transaction_at b j ≡ Some t) (sym (found_id transaction_id id b.transactions t stands)) stands) (λ u y h n s k said. q u n s said) own
    (enrolls_owed (moment_of b now) e a r t g (register_enrolls (moment_of b now) a r t) (q t))))
quiet_fine b e now p i ready shaped q (transaction_made a c id t os came at says next made sent o f) =
    subst (Fine b e i) (sym f) (joined_owed (moment_of b now) e (posts_of os) i t b.transactions (made_empty (moment_of b now) (length b.transactions) a c id t made) q)
quiet_fine b e now p i ready shaped q (leaf_made a w id l os came at says next made sent o f) = subst (Fine b e i) (sym f) (as_it_was b e now i (posts_of os) q)
quiet_fine b e now p i ready shaped q (activity_made id a os next made o f) = subst (Fine b e i) (sym f) (as_it_was b e now i (posts_of os) q)

-- all events
abbrev IsSeatTarget : Target → Type 0
IsSeatTarget (targets.Coordinator id seat) = Unit {0}
IsSeatTarget other = ⊥

quiet_at : (a : Arrived) (T : Target) → a.target ≡ T → (IsSeatTarget T → ⊥) → (u : Transaction) → IsQuiet (events.Arrived a) u
quiet_at a T at f u n s h =
    let came : events.Arrived a ≡ events.Arrived h.message = h.came in
    let same : h.message ≡ a = cc in
    f (subst IsSeatTarget (sym h.target ∙ (ap (λ (x : Arrived). x.target) same ∙ at)) tt)

arrived_fine : (b : Book) (a : Arrived) (now : ℕ) (i : Numbers) (T : Target) → a.target ≡ T → IsReady b → AreShaped b → Fine b (events.Arrived a) i (arrived_plan b now a T)
arrived_fine b a now i (targets.Coordinator id seat) at ready shaped = at_coordinator b now a id seat i at ready shaped
arrived_fine b a now i other at ready shaped =
    quiet_fine b (events.Arrived a) now (arrived_plan b now a other) i ready shaped (quiet_at a other at (λ x. x))
    (subst (λ T. Shape b (events.Arrived a) now (arrived_plan b now a T)) at (steps_touch_one b (events.Arrived a) now))

steps_fine : (b : Book) (e : Event) (now : ℕ) → IsReady b → AreShaped b → (i : Numbers) → Fine b e i (plan b e now)
steps_fine b (events.Arrived a) now ready shaped i = arrived_fine b a now i a.target refl ready shaped
steps_fine b (events.Local l) now ready shaped i =
    quiet_fine b (events.Local l) now (plan b (events.Local l) now) i ready shaped (λ u n s h. let f : events.Local l ≡ events.Arrived h.message = h.came in absurd cc) (steps_touch_one b (events.Local l) now)
steps_fine b (events.Due item) now ready shaped i =
    quiet_fine b (events.Due item) now (plan b (events.Due item) now) i ready shaped (λ u n s h. let f : events.Due item ≡ events.Arrived h.message = h.came in absurd cc) (steps_touch_one b (events.Due item) now)
steps_fine b events.Tick now ready shaped i =
    quiet_fine b events.Tick now (plan b events.Tick now) i ready shaped (λ u n s h. let f : events.Tick ≡ events.Arrived h.message = h.came in absurd cc) (steps_touch_one b events.Tick now)

-- A seat that isn't known.
abbrev Answers : Book → Arrived → Epr → Plan → Type 0
Answers b a to p = Tells (Some to) notices.Rollback (posts_of p.landed.outs)

stranger_tells : (b : Book) (now : ℕ) (a : Arrived) (kind : Kind) (x : Message) (to : Epr) (from : Option Epr) → kind ≡ kinds.Durable → x ≡ messages.Notice notices.Prepared → from ≡ Some to
    → Tells (Some to) notices.Rollback (posts_of (Rattle.at_model.specs.Step.stranger_plan b now (record a { from = from }) (coordinator_of kind states.None) x).landed.outs)
stranger_tells b now a kind x to from f g h = rw (f, g, h) (stranger_post b.base a.target to notices.Rollback, inl refl, refl, refl)

unknown_seat : (b : Book) (now : ℕ) (a : Arrived) (s : Seat) (to : Epr) (o : Option Transaction) → s.kind ≡ kinds.Durable → a.message ≡ messages.Notice notices.Prepared → a.from ≡ Some to
    → IfFound (λ t. find_seat s.number s.kind t.seats ≡ None) o → Answers b a to (coordinator_plan b now a s.number s.kind o)
unfolding coordinator_plan
unknown_seat b now a s to None k g h u = stranger_tells b now a s.kind a.message to a.from k g h
unknown_seat b now a s to (Some t) k g h u =
    subst (λ x. Answers b a to (seat_plan b now a s.kind t x)) (sym u) (stranger_tells b now a s.kind a.message to a.from k g h)

unknown_target : (b : Book) (now : ℕ) (a : Arrived) (id : Numbers) (s : Seat) (to : Epr) → s.kind ≡ kinds.Durable → IsUnknownAt b (targets.Coordinator id s)
    → a.message ≡ messages.Notice notices.Prepared → a.from ≡ Some to → Answers b a to (arrived_plan b now a (targets.Coordinator id s))
unfolding arrived_plan
unknown_target b now a id s to k u g h = unknown_seat b now a s to (transaction_at b id) k g h u

pub steps_owe_seats : StepsOweSeats
steps_owe_seats = record {
  seats = steps_fine;
  unknown = λ b a now id s at k u g to h. subst (λ T. Answers b a to (arrived_plan b now a T)) (sym at) (unknown_target b now a id s to k u g h);
}
