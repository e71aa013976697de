-- Each step answers for its leaves.
use Rattle.std.specs.Prelude.{ℕ, List, [], ◌∷◌, ◌++◌, Option, Some, None, Bool, true, false, map, ◌&&◌, if◌then◌else◌, ◌≡◌, refl}
use Rattle.std.proofs.Common.{inl, inr, ap, sym, subst, ◌∙◌}
use Rattle.at_base.specs.declared.epr.Epr.{Epr}
use Rattle.at_base.specs.declared.notice.Kind.{Kind}
use Rattle.at_base.specs.declared.notice.Kind.TheVariants as kinds
use Rattle.at_base.specs.declared.notice.Notice.{Notice}
use Rattle.at_base.specs.declared.notice.Notice.TheVariants as notices
use Rattle.at_base.specs.declared.message.Message.{Message}
use Rattle.at_base.specs.declared.message.Message.TheVariants as messages
use Rattle.at_base.specs.declared.event.Arrived.{Arrived}
use Rattle.at_base.specs.declared.event.Event.{Event}
use Rattle.at_base.specs.declared.event.Event.TheVariants as events
use Rattle.at_base.specs.declared.event.Moment.{Moment}
use Rattle.at_base.specs.declared.outs.Post.{Post}
use Rattle.at_tables.specs.declared.cells.State.{State}
use Rattle.at_tables.specs.declared.cells.State.TheVariants as states
use Rattle.at_tables.specs.declared.cells.Act.{Act}
use Rattle.at_tables.specs.declared.cells.Act.TheVariants as acts
use Rattle.at_tables.specs.declared.cells.Cell.{Cell}
use Rattle.at_tables.specs.Names.{is_state}
use Rattle.at_tables.specs.Tables.{participant_of}
use Rattle.endpoints.specs.Addresses.{register_id}
use Rattle.at_model.specs.Arrivals.{relates_to}
use Rattle.at_model.specs.Book.{Book, Leaf, Transaction, find_by, is_id, leaf_id, put_by}
use Rattle.at_model.specs.Due.{Reached, Expired, Over, Unanswered, Nothing, leaf_again, leaf_due, leaf_reached}
use Rattle.at_model.specs.Leaves.{answers_leaf, drops_leaf, leaf_aborts, leaf_act, leaf_fault, leaf_faults, leaf_notice, leaf_refused, leaf_registered, leaf_says, leaf_target, on_leaf}
use Rattle.at_model.specs.Moves.{Decision, Goes, Records, ignored}
use Rattle.at_model.specs.Posts.{stored_or}
use Rattle.model_laws.proofs.DecisionLaws.{either_left, either_says}
use Rattle.agreement.specs.LeafDeeds.{CameTo, LeafStands, Notified, registers, works, waits}
use Rattle.owed.specs.Leaves.{IsRegistered, LeafOwed}
use Rattle.owed.proofs.LinkTable.{IsDeaf, IsDone, LinkHears, LinkHearsCell, Passes, link_hears}
use Rattle.at_base.specs.declared.outs.Out.{Out}
use Rattle.at_base.specs.declared.outs.Out.TheVariants as outs
use Rattle.at_base.specs.Names.{is_kind}
use Rattle.at_model.specs.Arrivals.{with_answer}
use Rattle.at_model.specs.Posts.{accepted}
use Rattle.at_model.specs.Step.{Plan, arrived_plan, at_time, leaf_at, leaf_or_stranger_plan, leaf_plan, moment_of, participant_plan, plan_of, put_activity, put_leaf, put_transaction, stranger_plan, transaction_at}
use Rattle.model_laws.specs.Order.{AreRising}
use Rattle.model_laws.specs.Shapes.{IsAnswer, MovesLeaf, Shape, at_leaf, leaf_when_due, nothing_moves, time_moves, time_passes, transaction_moves, leaf_moves, activity_moves, transaction_registers, transaction_made, leaf_made, activity_made}
use Rattle.model_laws.proofs.DecisionLaws.{IfThere, all_find, found_id}
use Rattle.model_laws.proofs.RecoveryLaws.{same_id, self_id}
use Rattle.model_laws.proofs.DrawnItems.{leaf_moved_kept}
use Rattle.model_laws.specs.Laws.{HasLeafId}
use Rattle.agreement.proofs.OtherIds.{find_other, find_this}
use Rattle.enlistments.specs.Moves.{IsReady}
use Rattle.owed.specs.Seats.{posts_of}
use Rattle.owed.specs.Links.{IsEarly}
use Rattle.owed.proofs.LeafRules.{LeafChange, LeafIsQuiet, LeafOwes, commit_owes, ends_with, gone, is_not, no_answer, one_message, one_notice, roll_owes, said, same_leaf, says, votes_owe}
use Rattle.owed.proofs.SeatPosts.{posts_all}

either : (base : List ℕ) (e : Event) (l : Leaf) (b : Bool) (c d : Decision Leaf) → (b ≡ true → LeafOwes base e l c) → (b ≡ false → LeafOwes base e l d) → LeafOwes base e l (if b then c else d)
either base e l b c d h k = either_says (LeafChange base e l) (λ r x. Unit {0}) b c d h k

-- what a leaf knows by its state
known_active : (l : Leaf) → LeafStands l → l.state ≡ states.Active → (c : Epr) × (l.coordinator ≡ Some c)
known_active l (registers r s c q) e = absurd (is_not l states.Registering states.Active s refl e)
known_active l (works c s k q) e = (c, k)
known_active l (waits c s k q v) e = absurd (is_not l states.PreparedSuccess states.Active s refl e)

abbrev IsLeafState : State → Type 0
IsLeafState states.Registering = Unit {0}
IsLeafState states.Active = Unit {0}
IsLeafState states.PreparedSuccess = Unit {0}
IsLeafState other = ⊥

leaf_state : (l : Leaf) → LeafStands l → IsLeafState l.state
leaf_state l (registers r s c q) = subst IsLeafState (sym s) tt
leaf_state l (works c s k q) = subst IsLeafState (sym s) tt
leaf_state l (waits c s k q v) = subst IsLeafState (sym s) tt

-- a notification that passes
passes : (m : Moment) (e : Event) (l : Leaf) (n : Notice) (h : Notified e l n) → LeafStands l → Passes l.state n → LeafOwes m.base e l (ignored l)
passes m e l n h stands p =
    said m.base e l n h [] (Some l) (λ to x y z. absurd (deaf l.state (leaf_state l stands) (subst (Passes l.state) x p) y))
    (λ to x y z. absurd (voted_done y (subst (Passes l.state) x p)))
    (λ d. inl ((d, refl), ((λ k. voted_done d (subst (Passes l.state) (one_notice e l n notices.Commit h k) p)), (λ k. voted_done d (subst (Passes l.state) (one_notice e l n notices.Rollback h k) p)))))
    (λ d. ((d, refl), no_answer m.base e l (messages.Notice n) h (λ x. x)))
  where
    deaf : (x : State) → IsLeafState x → IsDeaf x → (x ≡ states.Registering → ⊥) → ⊥
    deaf states.Registering a b f = f refl
    deaf states.Active a b f = b
    deaf states.PreparedSuccess a b f = b
    deaf other a b f = a

    voted_done : l.state ≡ states.PreparedSuccess → IsDone l.state → ⊥
    voted_done d b = subst IsDone d b

leaf_act_owes : (m : Moment) (e : Event) (from : Option Epr) (i : Option (List ℕ)) (l : Leaf) (n : Notice) (act : Act) (h : Notified e l n) → h.arrived.from ≡ from → LeafStands l → LinkHears l.state n act
    → LeafOwes m.base e l (leaf_act m from i l act)
unfolding leaf_act
leaf_act_owes m e from i l n acts.Gather h f stands (a, p) = let (c, k) = known_active l stands a in votes_owe m e l n h from c l.kind l.vote f p k
leaf_act_owes m e from i l n acts.SendPrepared h f stands (a, p) =
    said m.base e l n h (leaf_says m from notices.Prepared l) (Some (record l { sent = Some m.now }))
    (λ to x y z. (notices.Prepared, tt, says m from notices.Prepared l to (subst (λ w. stored_or l.coordinator w ≡ Some to) f z)))
    (λ to x y z. let g : notices.Prepare ≡ notices.Commit = sym p ∙ x in absurd cc)
    (λ d. inl (
      (a, refl),
      (
        (λ k. let g : notices.Prepare ≡ notices.Commit = sym p ∙ one_notice e l n notices.Commit h k in cc),
        (λ k. let g : notices.Prepare ≡ notices.Rollback = sym p ∙ one_notice e l n notices.Rollback h k in cc),
      ),
    ))
    (λ d. absurd (is_not l states.PreparedSuccess states.Registering a refl d))
leaf_act_owes m e from i l n acts.Commit h f stands (a, p) = commit_owes m e l n h from l.kind f p
leaf_act_owes m e from i l n acts.AbortAndSendAborted h f stands (a, p) =
    ends_with m e l n h (leaf_says m from notices.Aborted l) (λ x. let g : notices.Rollback ≡ notices.Prepare = sym p ∙ x in cc) (λ x y. let g : notices.Rollback ≡ notices.Commit = sym p ∙ x in cc)
leaf_act_owes m e from i l n acts.RecordAndSendAborted h f stands (a, p) = roll_owes m e l n h from l.kind p
leaf_act_owes m e from i l n acts.FaultInvalidStateAndAbort h f stands ((a, b), p) =
    ends_with m e l n h (leaf_faults from i l) (λ x. let g : notices.Commit ≡ notices.Prepare = sym p ∙ x in cc) (λ x y. subst IsEarly y b)
leaf_act_owes m e from i l n acts.FaultInvalidState h f stands (inl (a, p)) = absurd (subst IsLeafState a (leaf_state l stands))
leaf_act_owes m e from i l n acts.FaultInvalidState h f stands (inr (a, p)) = absurd (subst IsLeafState a (leaf_state l stands))
leaf_act_owes m e from i l n acts.SendCommitted h f stands (a, p) = absurd (subst IsLeafState a (leaf_state l stands))
leaf_act_owes m e from i l n acts.SendAborted h f stands (a, p) = absurd (subst IsLeafState a (leaf_state l stands))
leaf_act_owes m e from i l n other h f stands k = passes m e l n h stands k

leaf_notice_owes : (m : Moment) (e : Event) (from : Option Epr) (i : Option (List ℕ)) (l : Leaf) (n : Notice) (c : Option Cell) (h : Notified e l n) → h.arrived.from ≡ from → LeafStands l
    → LinkHearsCell l.state n c → LeafOwes m.base e l (leaf_notice m from i l c)
unfolding leaf_notice
leaf_notice_owes m e from i l n None h f stands k = passes m e l n h stands k
leaf_notice_owes m e from i l n (Some c) h f stands k = leaf_act_owes m e from i l n c.act h f stands k

-- other messages
quiet_by : (e : Event) (l : Leaf) (x : Message) → CameTo e l x → ((n : Notice) → x ≡ messages.Notice n → ⊥) → LeafIsQuiet e l
quiet_by e l x h f n k = f n (one_message e l x (messages.Notice n) h k)

none_left : (base : List ℕ) (e : Event) (l : Leaf) (ps : List Post) → LeafIsQuiet e l → LeafOwed base e l ps None
none_left base e l ps q = gone base e l ps (λ h to x y. absurd (q notices.Prepare h)) (λ h to x y. absurd (q notices.Commit h))

unanswered : (m : Moment) (e : Event) (l : Leaf) (x : Message) (h : CameTo e l x) → answers_leaf m h.arrived.relates l ≡ false → l.state ≡ states.Registering → IsRegistered m.base e l → ⊥
unanswered m e l x h f s r =
    let came : events.Arrived h.arrived ≡ events.Arrived r.message = sym h.event ∙ r.came in
    let same : h.arrived ≡ r.message = cc in
    let yes_so : relates_to h.arrived.relates (register_id m.base (leaf_target l)) ≡ true = ap (λ (a : Arrived). relates_to a.relates (register_id m.base (leaf_target l))) same ∙ r.relates in
    let g : (is_state states.Registering states.Registering && relates_to h.arrived.relates (register_id m.base (leaf_target l))) ≡ false = subst (λ y. (is_state y states.Registering && relates_to h.arrived.relates (register_id m.base (leaf_target l))) ≡ false) s f in
    cc

registered_owes : (m : Moment) (e : Event) (c : Epr) (l : Leaf) (h : CameTo e l (messages.RegisterResponse c)) → LeafOwes m.base e l (leaf_registered m h.arrived.relates c l)
unfolding leaf_registered
registered_owes m e c l h =
    either m.base e l (answers_leaf m h.arrived.relates l) _ _
    (λ f. ((λ k to x y. absurd (q notices.Prepare k)), ((λ k to x y. absurd (q notices.Commit k)), ((λ d. absurd cc), (λ d. absurd cc)))))
    (λ f. same_leaf m.base e l l.sent [] q (unanswered m e l _ h f))
  where
    q : LeafIsQuiet e l
    q = quiet_by e l (messages.RegisterResponse c) h (λ n f. cc)

fault_owes : (m : Moment) (e : Event) (name : List ℕ) (l : Leaf) (h : CameTo e l (messages.Fault name)) → LeafOwes m.base e l (leaf_fault m h.arrived.relates name l)
unfolding leaf_fault
fault_owes m e name l h =
    either m.base e l (answers_leaf m h.arrived.relates l) _ _ (λ f. none_left m.base e l _ q)
    (λ f. either m.base e l (drops_leaf l name) _ _ (λ g. none_left m.base e l [] q) (λ g. same_leaf m.base e l l.sent [] q (unanswered m e l _ h f)))
  where
    q : LeafIsQuiet e l
    q = quiet_by e l (messages.Fault name) h (λ n f. cc)

leaf_owes : (m : Moment) (e : Event) (a : Arrived) (l : Leaf) (x : Message) → e ≡ events.Arrived a → a.target ≡ leaf_target l → a.message ≡ x → LeafStands l → LeafOwes m.base e l (on_leaf m a l x)
unfolding on_leaf
leaf_owes m e a l (messages.Notice n) came at mess stands =
    leaf_notice_owes m e a.from a.id l n (participant_of l.kind l.state n) (record { arrived = a; event = came; target = at; message = mess }) refl stands (link_hears l.kind l.state n)
leaf_owes m e a l (messages.RegisterResponse c) came at mess stands = registered_owes m e c l (record { arrived = a; event = came; target = at; message = mess })
leaf_owes m e a l (messages.Fault name) came at mess stands = fault_owes m e name l (record { arrived = a; event = came; target = at; message = mess })
leaf_owes m e a l other came at mess stands =
    same_leaf m.base e l l.sent [] (quiet_by e l other (record { arrived = a; event = came; target = at; message = mess }) (λ n f. cc))
    (λ s. no_answer m.base e l other (record { arrived = a; event = came; target = at; message = mess }) (λ x. x))

-- what is due
reached_owes : (m : Moment) (e : Event) (l : Leaf) (reached : Reached) → LeafIsQuiet e l → (IsRegistered m.base e l → ⊥) → LeafOwes m.base e l (leaf_reached m l reached)
unfolding leaf_reached
reached_owes m e l Expired q r =
    either_left (LeafChange m.base e l) (is_state l.state states.Registering) (leaf_refused l) (leaf_aborts m None l) (none_left m.base e l _ q) (none_left m.base e l _ q)
reached_owes m e l Over q r = same_leaf m.base e l l.sent [] q (λ s. r)
reached_owes m e l Unanswered q r = same_leaf m.base e l (Some m.now) (leaf_again m l) q (λ s. r)
reached_owes m e l Nothing q r = same_leaf m.base e l l.sent [] q (λ s. r)

moved_leaf : (b : Book) (e : Event) (now : ℕ) (l : Leaf) (d : Decision Leaf) → LeafStands l → MovesLeaf b e now l d → LeafOwes b.base e l d
moved_leaf b e now l d stands (at_leaf a came at is) = subst (LeafOwes b.base e l) (sym is) (leaf_owes (moment_of b now) e a l a.message came at refl stands)
moved_leaf b e now l d stands (leaf_when_due came is) =
    subst (LeafOwes b.base e l) (sym is)
    (reached_owes (moment_of b now) e l (leaf_due (moment_of b now) l) (λ n h. let g : events.Arrived h.arrived ≡ e = sym h.event in absurd cc) (λ r. let g : events.Arrived r.message ≡ e = sym r.came in absurd cc))

-- over a step
abbrev Fine : Book → Event → Leaf → Plan → Type 0
Fine b e u p = LeafOwed b.base e u (posts_of p.landed.outs) (leaf_at p.landed.book u.id)

same_so : (base : List ℕ) (e : Event) (u : Leaf) (ps : List Post) (o : Option Leaf) → LeafIsQuiet e u → (IsRegistered base e u → ⊥) → o ≡ Some u → LeafOwed base e u ps o
same_so base e u ps o q r f = subst (LeafOwed base e u ps) (sym f) (same_leaf base e u u.sent ps q (λ s. r))

one_of : (t u : Leaf) (o : Option Leaf) → o ≡ Some t → o ≡ Some u → t ≡ u
one_of t u o e f = let g : Some t ≡ Some u = sym e ∙ f in cc

moves_one : (base : List ℕ) (e : Event) (b : Book) (l u : Leaf) (ps : List Post) (new : Option Leaf) → AreRising (map leaf_id b.leaves) → leaf_at b l.id ≡ Some l → leaf_at b u.id ≡ Some u
    → ((u.id ≡ l.id → ⊥) → LeafIsQuiet e u × (IsRegistered base e u → ⊥)) → IfThere (λ x. leaf_id x ≡ l.id) new → LeafOwed base e l ps new
    → LeafOwed base e u ps (find_by leaf_id u.id (put_by leaf_id l.id new b.leaves))
moves_one base e b l u ps new rising stands found others own h = by_case (is_id l.id u.id) refl
  where
    by_case : (c : Bool) → is_id l.id u.id ≡ c → LeafOwed base e u ps (find_by leaf_id u.id (put_by leaf_id l.id new b.leaves))
    by_case true g =
        let same : l ≡ u = one_of l u (leaf_at b l.id) stands (subst (λ j. leaf_at b j ≡ Some u) (sym (same_id l.id u.id g)) found) in
        subst (λ x. LeafOwed base e x ps (find_by leaf_id x.id (put_by leaf_id l.id new b.leaves))) same
        (subst (LeafOwed base e l ps) (sym (find_this leaf_id l.id l new b.leaves rising stands own)) h)
    by_case false g =
        let (q, r) = others (λ k. let z : is_id l.id l.id ≡ false = subst (λ x. is_id l.id x ≡ false) k g in let y : is_id l.id l.id ≡ true = self_id l.id in absurd cc) in
        same_so base e u ps (find_by leaf_id u.id (put_by leaf_id l.id new b.leaves)) q r (find_other leaf_id l.id u.id new b.leaves own g ∙ found)

own_id : (l : Leaf) (o : Option Leaf) → HasLeafId l.id o → IfThere (λ x. leaf_id x ≡ l.id) o
own_id l None h = tt
own_id l (Some x) h = h

decision_fine : (b : Book) (e : Event) (now : ℕ) (l u : Leaf) (answer : List Out) (d : Decision Leaf) → AreRising (map leaf_id b.leaves) → leaf_at b l.id ≡ Some l → leaf_at b u.id ≡ Some u
    → ((u.id ≡ l.id → ⊥) → LeafIsQuiet e u × (IsRegistered b.base e u → ⊥)) → IsAnswer answer → MovesLeaf b e now l d → LeafOwes b.base e l d
    → Fine b e u (plan_of b (put_leaf l.id (at_time now b)) answer d)
decision_fine b e now l u answer (Goes c) rising stands found others o how h =
    subst (λ ps. LeafOwed b.base e u ps (find_by leaf_id u.id (put_by leaf_id l.id c.item b.leaves))) (sym (posts_all answer c.posts o))
    (moves_one b.base e b l u c.posts c.item rising stands found others (own_id l c.item (leaf_moved_kept b e now l (Goes c) how)) h)
decision_fine b e now l u answer (Records r c absent) rising stands found others o how h =
    subst (λ ps. LeafOwed b.base e u ps (find_by leaf_id u.id (put_by leaf_id l.id c.item b.leaves))) (sym (posts_all answer c.posts o))
    (moves_one b.base e b l u c.posts c.item rising stands found others (own_id l c.item (leaf_moved_kept b e now l (Records r c absent) how).landed) h.landed)

elsewhere_fine : {A : Type 0} (b : Book) (e : Event) (u : Leaf) (put : Option A → Book) (answer : List Out) (d : Decision A) → LeafIsQuiet e u → (IsRegistered b.base e u → ⊥) → leaf_at b u.id ≡ Some u
    → ((x : Option A) → (put x).leaves ≡ b.leaves) → Fine b e u (plan_of b put answer d)
elsewhere_fine b e u put answer (Goes c) q r found same = same_so b.base e u (posts_of (answer ++ map outs.Post c.posts)) (leaf_at (put c.item) u.id) q r (ap (λ ls. find_by leaf_id u.id ls) (same c.item) ∙ found)
elsewhere_fine b e u put answer (Records s c absent) q r found same = same_so b.base e u (posts_of (answer ++ map outs.Post c.posts)) (leaf_at (put c.item) u.id) q r (ap (λ ls. find_by leaf_id u.id ls) (same c.item) ∙ found)

joined_found : (u l : Leaf) (xs : List Leaf) → find_by leaf_id u.id xs ≡ Some u → find_by leaf_id u.id (xs ++ l ∷ []) ≡ Some u
joined_found u l [] e = absurd cc
joined_found u l (x ∷ xs) e = by_test (joined_found u l xs) (is_id x.id u.id) e
  where
    by_test : (find_by leaf_id u.id xs ≡ Some u → find_by leaf_id u.id (xs ++ l ∷ []) ≡ Some u) → (b : Bool) → (if b then Some x else find_by leaf_id u.id xs) ≡ Some u
        → (if b then Some x else find_by leaf_id u.id (xs ++ l ∷ [])) ≡ Some u
    by_test rest true f = f
    by_test rest false f = rest f

pub quiet_fine : (b : Book) (e : Event) (now : ℕ) (p : Plan) (u : Leaf) → IsReady b → LeafIsQuiet e u → (IsRegistered b.base e u → ⊥) → leaf_at b u.id ≡ Some u → Shape b e now p → Fine b e u p
quiet_fine b e now p u ready q r found (nothing_moves is) = subst (Fine b e u) (sym is) (same_so b.base e u [] (leaf_at b u.id) q r found)
quiet_fine b e now p u ready q r found (time_moves a os came why o is) = subst (Fine b e u) (sym is) (same_so b.base e u (posts_of os) (leaf_at b u.id) q r found)
quiet_fine b e now p u ready q r found (time_passes came is) = subst (Fine b e u) (sym is) (same_so b.base e u [] (leaf_at b u.id) q r found)
quiet_fine b e now p u ready q r found (transaction_moves id t answer d stands how o is) =
    subst (Fine b e u) (sym is) (elsewhere_fine b e u (put_transaction t.id (at_time now b)) answer (with_answer (moment_of b now) t d) q r found (λ x. refl))
quiet_fine b e now p u ready q r found (leaf_moves id l answer d stands how o is) =
    subst (Fine b e u) (sym is)
    (decision_fine b e now l u answer d ready.order.rising.leaves (subst (λ j. leaf_at b j ≡ Some l) (sym (found_id leaf_id id b.leaves l stands)) stands) found (λ k. (q, r)) o how
    (moved_leaf b e now l d (all_find LeafStands leaf_id id b.leaves l ready.leaves stands) how))
quiet_fine b e now p u ready q r found (activity_moves id a answer d stands how o is) =
    subst (Fine b e u) (sym is) (elsewhere_fine b e u (put_activity a.id (at_time now b)) answer d q r found (λ x. refl))
quiet_fine b e now p u ready q r found (transaction_registers id a x t stands came at mess o is) = subst (Fine b e u) (sym is) (same_so b.base e u _ (leaf_at b u.id) q r found)
quiet_fine b e now p u ready q r found (transaction_made a c id t os came at mess next made sent o is) = subst (Fine b e u) (sym is) (same_so b.base e u (posts_of os) (leaf_at b u.id) q r found)
quiet_fine b e now p u ready q r found (leaf_made a w id l os came at mess next made sent o is) =
    subst (Fine b e u) (sym is) (same_so b.base e u (posts_of os) (find_by leaf_id u.id (b.leaves ++ l ∷ [])) q r (joined_found u l b.leaves found))
quiet_fine b e now p u ready q r found (activity_made id a os next made o is) = subst (Fine b e u) (sym is) (same_so b.base e u (posts_of os) (leaf_at b u.id) q r found)

-- a message for the leaf
itself : (k : Kind) → is_kind k k ≡ true
itself kinds.Volatile = refl
itself kinds.Durable = refl

at_it : (b : Book) (a : Arrived) (now : ℕ) (l : Leaf) → a.target ≡ leaf_target l → IsReady b → leaf_at b l.id ≡ Some l → Fine b (events.Arrived a) l (leaf_or_stranger_plan b now a l.kind (Some l))
at_it b a now l at ready found =
    subst (λ c. Fine b (events.Arrived a) l (if c then leaf_plan b now accepted l (on_leaf (moment_of b now) a l a.message) else stranger_plan b now a (participant_of l.kind states.None) a.message))
    (sym (itself l.kind))
    (decision_fine b (events.Arrived a) now l l accepted (on_leaf (moment_of b now) a l a.message) ready.order.rising.leaves found found (λ k. absurd (k refl)) (inr refl) (at_leaf a refl at refl)
    (moved_leaf b (events.Arrived a) now l (on_leaf (moment_of b now) a l a.message) (all_find LeafStands leaf_id l.id b.leaves l ready.leaves found) (at_leaf a refl at refl)))

at_its : (b : Book) (a : Arrived) (now : ℕ) (l : Leaf) (o : Option Transaction) (x : Option Leaf) → a.target ≡ leaf_target l → IsReady b → leaf_at b l.id ≡ Some l → o ≡ None → x ≡ Some l
    → Fine b (events.Arrived a) l (participant_plan b now a l.kind o x)
unfolding participant_plan
at_its b a now l None x at ready found none is = subst (λ y. Fine b (events.Arrived a) l (leaf_or_stranger_plan b now a l.kind y)) (sym is) (at_it b a now l at ready found)
at_its b a now l (Some t) x at ready found none is = absurd cc

pub at_target : (b : Book) (a : Arrived) (now : ℕ) (l : Leaf) → a.target ≡ leaf_target l → IsReady b → leaf_at b l.id ≡ Some l → transaction_at b l.id ≡ None
    → Fine b (events.Arrived a) l (arrived_plan b now a (leaf_target l))
unfolding arrived_plan
at_target b a now l at ready found none = at_its b a now l (transaction_at b l.id) (leaf_at b l.id) at ready found none found
