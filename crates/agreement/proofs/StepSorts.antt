-- What a step leaves, records and brings about is of the sort of its id.
use Rattle.std.specs.Prelude.{ℕ, List, [], ◌∷◌, Option, Some, None, Bool, true, false, not, if◌then◌else◌, is_none, length, option_map, ◌≡◌, ◌⊎◌, refl}
use Rattle.std.specs.List.{AllByRecursion}
use Rattle.std.proofs.Common.{inl, inr, sym, subst, ap, ◌∙◌}
use Rattle.at_base.specs.declared.fault.Fault.TheVariants.{CannotRegisterParticipant, InvalidParameters}
use Rattle.at_base.specs.Numbers.{Numbers}
use Rattle.at_base.specs.declared.epr.Epr.{Epr}
use Rattle.at_base.specs.declared.notice.Kind.{Kind}
use Rattle.at_base.specs.declared.notice.Kind.TheVariants as kinds
use Rattle.at_base.specs.declared.message.Register.{Register}
use Rattle.at_base.specs.declared.record.Record.{Record}
use Rattle.at_base.specs.declared.record.Record.TheVariants as records
use Rattle.at_base.specs.declared.event.Arrived.{Arrived}
use Rattle.at_base.specs.declared.event.Moment.{Moment}
use Rattle.at_base.specs.declared.event.Event.{Event}
use Rattle.at_base.specs.declared.outs.Out.{Out}
use Rattle.at_base.specs.declared.outs.Post.{Post}
use Rattle.at_base.specs.declared.outs.Ending.{Ending}
use Rattle.at_base.specs.declared.outs.Ending.TheVariants as endings
use Rattle.at_base.specs.declared.outs.Effect.{Effect}
use Rattle.at_model.specs.Book.{Book, Transaction, Leaf, Activity, Enlistment, Superior, is_id, put_by, transaction_id, leaf_id, activity_id, next_id}
use Rattle.at_model.specs.Moves.{Change, Decision, Goes, Records}
use Rattle.at_model.specs.Seats.{ending_of}
use Rattle.at_model.specs.Posts.{accepted}
use Rattle.at_model.specs.Arrivals.{with_answer}
use Rattle.at_model.specs.Register.{accept, refuse_register, register_new, register_again, held_seat, on_register, protocol_named, may_register}
use Rattle.at_model.specs.Step.{Outcome, Plan, plain, still, at_time, moment_of, is_under, make_transaction, make_leaf, make_activity, put_transaction, put_leaf, put_activity, put_activities, outcome_of, plan_of, transaction_plan, leaf_plan, activity_plan, registration_outcome, transaction_at, leaf_at, activity_at, branch, plan, noting}
use Rattle.model_laws.specs.PhaseAnswers.{IsInPhase}
use Rattle.model_laws.specs.Laws.{IsDrawn, HasId, HasLeafId}
use Rattle.model_laws.specs.Shapes.{MovesTransaction, MovesLeaf, MovesActivity, MakesActivity, begins, interposes, Shape, nothing_moves, time_moves, time_passes, transaction_moves, leaf_moves, activity_moves, transaction_registers, transaction_made, leaf_made, activity_made}
use Rattle.model_laws.proofs.DecisionLaws.{IfThere, found_id, all_find, all_put, all_filter, all_join, all_more}
use Rattle.model_laws.proofs.ItemIds.{register_kept}
use Rattle.model_laws.proofs.DrawnIds.{made_drawn}
use Rattle.model_laws.proofs.NextIds.{makes_under_the_next_id}
use Rattle.model_laws.proofs.RecoveryLaws.{same_id, self_id}
use Rattle.model_laws.proofs.StepShapes.{steps_touch_one}
use Rattle.agreement.specs.Branches.{InBranches}
use Rattle.agreement.specs.FinishedTransactions.{AreFinished}
use Rattle.agreement.specs.Deeds.{How, Idles, Aborts, Votes, Decides, DecidesAlone, Leaves, Commits, RollsBack, Ends, Forgets, Deed, Deeds, IsSameIfLeft, StoodFor, recorded, happens, superior_at}
use Rattle.agreement.specs.LeafDeeds.{LeafStands, LeavesStand, LeafDeed, idles as leaf_idles, aborts, prepares, leaves, dropped, commits, rolls_back, LeafIdles, rests, registered, registers_again, votes_again, LeafWaitsOn, for_durable}
use Rattle.agreement.specs.ActivityDeeds.{ActivityStands, ActivitiesStand, ActivityDeed, idles as activity_idles, tells, ActivityIdles, rests as activity_rests, misled, created, interposed, registered as activity_registered, registers_again as activity_registers_again, asks_again, works, asks, IsTaken, NeverUndone}
use Rattle.agreement.specs.Sorts.{Sort, Unmade, Root, Subordinate, LeafOf, Begun, sort_under, IsTransaction, FitsBook, FitsRecord, FitsEffect}
use Rattle.agreement.proofs.TransactionEvents.{transactions_do}
use Rattle.agreement.proofs.LeafRules.{leaves_do}
use Rattle.agreement.proofs.ActivityRules.{activities_do}
use Rattle.agreement.proofs.ActivityStates.{refused_or_taken}

-- ids that are made
abbrev pub IsMade : Sort → Type 0
IsMade Unmade = ⊥
IsMade other = Unit {0}

abbrev pub set : (Numbers → Sort) → Numbers → Sort → Numbers → Sort
set s id K i = if is_id i id then K else s i

unmade : (S K : Sort) → IsMade K → S ≡ Unmade → S ≡ K → ⊥
unmade S K made e f = subst IsMade (sym f ∙ e) made

pub set_keeps : (s : Numbers → Sort) (id : Numbers) (K J : Sort) → s id ≡ Unmade → IsMade J → (i : Numbers) → s i ≡ J → set s id K i ≡ J
set_keeps s id K J n made i h = by_id (is_id i id) refl
  where
    by_id : (b : Bool) → is_id i id ≡ b → (if b then K else s i) ≡ J
    by_id true e = absurd (unmade (s id) J made n (ap s (sym (same_id i id e)) ∙ h))
    by_id false e = h

set_this : (s : Numbers → Sort) (id : Numbers) (K : Sort) → set s id K id ≡ K
set_this s id K = ap (λ b. if b then K else s id) (self_id id)

set_other : (s : Numbers → Sort) (id : Numbers) (K : Sort) (i : Numbers) → (i ≡ id → ⊥) → s i ≡ Unmade → set s id K i ≡ Unmade
set_other s id K i differ h = by_id (is_id i id) refl
  where
    by_id : (b : Bool) → is_id i id ≡ b → (if b then K else s i) ≡ Unmade
    by_id true e = absurd (differ (same_id i id e))
    by_id false e = h

under_made : (o : Option Superior) → IsMade (sort_under o)
under_made None = tt
under_made (Some s) = tt

-- more is made
abbrev pub Keeps : (Numbers → Sort) → (Numbers → Sort) → Type 0
Keeps s t = (K : Sort) → IsMade K → (id : Numbers) → s id ≡ K → t id ≡ K

pub book_on : (s t : Numbers → Sort) (b : Book) → Keeps s t → FitsBook s b → FitsBook t b
book_on s t b k h = record {
  transactions = all_more (λ x. s x.id ≡ sort_under x.superior) (λ x. t x.id ≡ sort_under x.superior) b.transactions (λ x e. k (sort_under x.superior) (under_made x.superior) x.id e) h.transactions;
  leaves = all_more (λ l. s l.id ≡ LeafOf l.kind) (λ l. t l.id ≡ LeafOf l.kind) b.leaves (λ l e. k (LeafOf l.kind) tt l.id e) h.leaves;
  activities = all_more (λ a. s a.id ≡ Begun) (λ a. t a.id ≡ Begun) b.activities (λ a e. k Begun tt a.id e) h.activities;
}

pub record_on : (s t : Numbers → Sort) → Keeps s t → (r : Record) → FitsRecord s r → FitsRecord t r
record_on s t k (records.Voted id superior seats) h = k Subordinate tt id h
record_on s t k (records.SubCommitted id) h = k Subordinate tt id h
record_on s t k (records.Decided id seats) h = k Root tt id h
record_on s t k (records.Done id) h = k Root tt id h
record_on s t k (records.Ended id) (inl h) = inl (k Root tt id h)
record_on s t k (records.Ended id) (inr h) = inr (k Subordinate tt id h)
record_on s t k (records.LeafPrepared id c key value) h = k (LeafOf kinds.Durable) tt id h
record_on s t k (records.LeafCommitted id) h = k (LeafOf kinds.Durable) tt id h
record_on s t k (records.LeafAborted id) h = k (LeafOf kinds.Durable) tt id h
record_on s t k (records.Start i) h = tt

-- a plan in which all is of its sort
abbrev FitsOutcome : (Numbers → Sort) → Outcome → Type 0
FitsOutcome s o = FitsBook s o.book × AllByRecursion (FitsEffect s) o.effects

pub record FitsPlan (s : Numbers → Sort) (p : Plan) : Type 0 where
  pub landed : FitsOutcome s p.landed
  pub absent : FitsOutcome s p.absent
  pub entry : IfThere (FitsRecord s) p.entry

plain_fits : (s : Numbers → Sort) (o : Outcome) → FitsOutcome s o → FitsPlan s (plain o)
plain_fits s o h = record { landed = h; absent = h; entry = tt }

abbrev FitsChange : {A : Type 0} → (Numbers → Sort) → (Option A → Book) → Option Record → Change A → Type 0
FitsChange s put entry c = FitsBook s (put c.item) × (AllByRecursion (FitsEffect s) c.effects × IfThere (FitsRecord s) entry)

noted_fits : (s : Numbers → Sort) (r : Record) (o : Outcome) → FitsOutcome s o → FitsOutcome s (noting r o)
noted_fits s r o (h, k) = (record { transactions = h.transactions; leaves = h.leaves; activities = h.activities }, k)

decision_fits : {A : Type 0} (Q : Option Record → Change A → Type 0) (s : Numbers → Sort) (b : Book) (put : Option A → Book) (answer : List Out) (d : Decision A) → FitsBook s b → Deeds Q d
    → ((entry : Option Record) (c : Change A) → Q entry c → FitsChange s put entry c) → FitsPlan s (plan_of b put answer d)
decision_fits Q s b put answer (Goes c) h q f = let (k, (e, r)) = f None c q in plain_fits s (outcome_of put answer c) (k, e)
decision_fits Q s b put answer (Records r c None) h q f =
    let (k, (e, i)) = f (Some r) c q in record { landed = noted_fits s r (outcome_of put answer c) (k, e); absent = (h, tt); entry = i }
decision_fits Q s b put answer (Records r c (Some d)) h (q, p) f =
    let (k, (e, i)) = f (Some r) c q in
    let (l, (g, j)) = f None d p in
    record { landed = noted_fits s r (outcome_of put answer c) (k, e); absent = (l, g); entry = i }

branches_deeds : {A : Type 0} (P : Option Record → Change A → Type 0) (U : Record → Type 0) (d : Decision A) → InBranches P U d → Deeds P d
branches_deeds P U (Goes c) h = h
branches_deeds P U (Records r c None) h = h.0
branches_deeds P U (Records r c (Some d)) h = h

-- a transaction
as_under : (o p : Option Superior) → is_none o ≡ is_none p → sort_under o ≡ sort_under p
as_under None None e = refl
as_under None (Some p) e = absurd cc
as_under (Some o) None e = absurd cc
as_under (Some o) (Some p) e = refl

left_fits : (s : Numbers → Sort) (t : Transaction) (o : Option Transaction) → s t.id ≡ sort_under t.superior → IsSameIfLeft t o → IfThere (λ x. s x.id ≡ sort_under x.superior) o
left_fits s t None h k = tt
left_fits s t (Some x) h k = ap s k.id ∙ h ∙ as_under t.superior x.superior (sym k.root)

pub ending_fits : (s : Numbers → Sort) (id : Numbers) (o : Option Superior) (what : Ending) → s id ≡ sort_under o → FitsEffect s (ending_of o id what)
ending_fits s id None what h = h
ending_fits s id (Some x) what h = h

pub either_sort : (S : Sort) (o : Option Superior) → S ≡ sort_under o → IsTransaction S
either_sort S None e = inl e
either_sort S (Some x) e = inr e

under_sort : (S : Sort) (o : Option Superior) → is_none o ≡ false → S ≡ sort_under o → S ≡ Subordinate
under_sort S None e f = absurd cc
under_sort S (Some x) e f = f

known_under : (o : Option Superior) → is_none (superior_at o) ≡ false → is_none o ≡ false
known_under None e = absurd cc
known_under (Some x) e = refl

voted_fits : (s : Numbers → Sort) (id : Numbers) (seats : _) (o : Option Epr) → s id ≡ Subordinate → IfThere (FitsRecord s) (option_map (λ superior. records.Voted id superior seats) o)
voted_fits s id seats None h = tt
voted_fits s id seats (Some e) h = h

recorded_fits : (s : Numbers → Sort) (t : Transaction) (how : How) (at : List Enlistment) → s t.id ≡ sort_under t.superior → StoodFor how t → IfThere (FitsRecord s) (recorded how t at)
recorded_fits s t Idles at h k = tt
recorded_fits s t Aborts at h k = tt
recorded_fits s t Votes at h k = voted_fits s t.id _ (superior_at t.superior) (under_sort (s t.id) t.superior (known_under t.superior k.1) h)
recorded_fits s t Decides at h k = h ∙ ap sort_under k.1
recorded_fits s t DecidesAlone at h k = h ∙ ap sort_under k.1
recorded_fits s t Leaves at h k = tt
recorded_fits s t Commits at h k = under_sort (s t.id) t.superior k.1 h
recorded_fits s t RollsBack at h k = either_sort (s t.id) t.superior h
recorded_fits s t Ends at h k = either_sort (s t.id) t.superior h
recorded_fits s t Forgets at h k = tt

happens_fits : (s : Numbers → Sort) (t : Transaction) (how : How) → s t.id ≡ sort_under t.superior → AllByRecursion (FitsEffect s) (happens how t)
happens_fits s t Idles h = tt
happens_fits s t Aborts h = (ending_fits s t.id t.superior endings.Aborted h, tt)
happens_fits s t Votes h = tt
happens_fits s t Decides h = (ending_fits s t.id t.superior endings.Committed h, tt)
happens_fits s t DecidesAlone h = (ending_fits s t.id t.superior endings.Committed h, tt)
happens_fits s t Leaves h = tt
happens_fits s t Commits h = (ending_fits s t.id t.superior endings.Committed h, tt)
happens_fits s t RollsBack h = (ending_fits s t.id t.superior endings.Aborted h, tt)
happens_fits s t Ends h = tt
happens_fits s t Forgets h = tt

put_fits : (s : Numbers → Sort) (b : Book) (now : ℕ) (id : Numbers) (o : Option Transaction) → FitsBook s b → IfThere (λ x. s x.id ≡ sort_under x.superior) o
    → FitsBook s (put_transaction id (at_time now b) o)
put_fits s b now id o h k = record {
  transactions = all_put (λ x. s x.id ≡ sort_under x.superior) transaction_id id o b.transactions k h.transactions;
  leaves = h.leaves;
  activities = h.activities;
}

deed_fits : (s : Numbers → Sort) (b : Book) (e : Event) (now : ℕ) (t : Transaction) (entry : Option Record) (c : Change Transaction) → FitsBook s b → s t.id ≡ sort_under t.superior → Deed e t entry c
    → FitsChange s (put_transaction t.id (at_time now b)) entry c
deed_fits s b e now t entry c h k d = (
  put_fits s b now t.id c.item h (left_fits s t c.item k d.same),
  (subst (AllByRecursion (FitsEffect s)) (sym d.happened) (happens_fits s t d.how k), subst (IfThere (FitsRecord s)) (sym d.records) (recorded_fits s t d.how d.at k d.stood)),
)

transaction_fits : (s : Numbers → Sort) (b : Book) (e : Event) (now : ℕ) (id : Numbers) (t : Transaction) (answer : List Out) (d : Decision Transaction) → IsInPhase b → AreFinished b → FitsBook s b
    → transaction_at b id ≡ Some t → MovesTransaction b e now t d → FitsPlan s (transaction_plan b now answer t d)
transaction_fits s b e now id t answer d phases finished h found moves =
    decision_fits (Deed e t) s b (put_transaction t.id (at_time now b)) answer (with_answer (moment_of b now) t d) h (transactions_do.deeds b e now id t d phases finished found moves)
    (λ entry c k. deed_fits s b e now t entry c h (all_find (λ x. s x.id ≡ sort_under x.superior) transaction_id id b.transactions t h.transactions found) k)

-- a leaf
idle_leaf : (s : Numbers → Sort) (m : Moment) (e : Event) (l left : Leaf) (ps : List Post) → s l.id ≡ LeafOf l.kind → LeafIdles m e l left ps → s left.id ≡ LeafOf left.kind
idle_leaf s m e l left ps h (rests is sent) = subst (λ (x : Leaf). s x.id ≡ LeafOf x.kind) (sym is) h
idle_leaf s m e l left ps h (registered to r came answers state known is sent) = subst (λ (x : Leaf). s x.id ≡ LeafOf x.kind) (sym is) h
idle_leaf s m e l left ps h (registers_again r came state known is sent) = subst (λ (x : Leaf). s x.id ≡ LeafOf x.kind) (sym is) h
idle_leaf s m e l left ps h (votes_again to why state known is sent) = subst (λ (x : Leaf). s x.id ≡ LeafOf x.kind) (sym is) h

durable_fits : (s : Numbers → Sort) (id : Numbers) (kind : Kind) (r : Record) → (s id ≡ LeafOf kinds.Durable → FitsRecord s r) → s id ≡ LeafOf kind → IfThere (FitsRecord s) (for_durable kind r)
durable_fits s id kinds.Durable r f h = f h
durable_fits s id kinds.Volatile r f h = tt

abbrev FitsLeaf : (Numbers → Sort) → Option Record → Change Leaf → Type 0
FitsLeaf s entry c = IfThere (λ x. s x.id ≡ LeafOf x.kind) c.item × (AllByRecursion (FitsEffect s) c.effects × IfThere (FitsRecord s) entry)

leaf_changes : (s : Numbers → Sort) (entry other : Option Record) (c : Change Leaf) (o : Option Leaf) (es : List Effect) → entry ≡ other → c.item ≡ o → c.effects ≡ es
    → IfThere (λ x. s x.id ≡ LeafOf x.kind) o → AllByRecursion (FitsEffect s) es → IfThere (FitsRecord s) other → FitsLeaf s entry c
leaf_changes s entry other c o es e f g h k j = (
  subst (IfThere (λ x. s x.id ≡ LeafOf x.kind)) (sym f) h,
  (subst (AllByRecursion (FitsEffect s)) (sym g) k, subst (IfThere (FitsRecord s)) (sym e) j),
)

leaf_deed_fits : (s : Numbers → Sort) (m : Moment) (e : Event) (l : Leaf) (entry : Option Record) (c : Change Leaf) → s l.id ≡ LeafOf l.kind → LeafDeed m e l entry c → FitsLeaf s entry c
leaf_deed_fits s m e l entry c h (leaf_idles left why none is quiet) = leaf_changes s entry None c (Some left) [] none is quiet (idle_leaf s m e l left c.posts h why) tt tt
leaf_deed_fits s m e l entry c h (aborts state why none is ended) = leaf_changes s entry None c None _ none is ended tt (h, tt) tt
leaf_deed_fits s m e l entry c h (prepares to came state vote known voted is quiet sent) =
    leaf_changes s entry _ c _ [] voted is quiet h tt (durable_fits s l.id l.kind _ (λ k. k) h)
leaf_deed_fits s m e l entry c h (leaves to came state vote known none is quiet sent) = leaf_changes s entry None c None [] none is quiet tt tt tt
leaf_deed_fits s m e l entry c h (dropped came kind none is quiet sent) = leaf_changes s entry None c None [] none is quiet tt tt tt
leaf_deed_fits s m e l entry c h (commits to came state known ends is ended sent) =
    leaf_changes s entry _ c None _ ends is ended tt (h, tt) (durable_fits s l.id l.kind _ (λ k. k) h)
leaf_deed_fits s m e l entry c h (rolls_back to came state known ends is ended sent) =
    leaf_changes s entry _ c None _ ends is ended tt (h, tt) (durable_fits s l.id l.kind _ (λ k. k) h)

leaf_fits : (s : Numbers → Sort) (b : Book) (e : Event) (now : ℕ) (id : Numbers) (l : Leaf) (answer : List Out) (d : Decision Leaf) → LeavesStand b → FitsBook s b → leaf_at b id ≡ Some l
    → MovesLeaf b e now l d → FitsPlan s (leaf_plan b now answer l d)
leaf_fits s b e now id l answer d stands h found moves =
    decision_fits (LeafDeed (moment_of b now) e l) s b (put_leaf l.id (at_time now b)) answer d h
    (branches_deeds (LeafDeed (moment_of b now) e l) (LeafWaitsOn l) d (leaves_do.deed b e now l d (all_find LeafStands leaf_id id b.leaves l stands found) moves))
    (λ entry c k. put entry c (leaf_deed_fits s (moment_of b now) e l entry c (all_find (λ x. s x.id ≡ LeafOf x.kind) leaf_id id b.leaves l h.leaves found) k))
  where
    put : (entry : Option Record) (c : Change Leaf) → FitsLeaf s entry c → FitsChange s (put_leaf l.id (at_time now b)) entry c
    put entry c (i, k) = (
      record { transactions = h.transactions; leaves = all_put (λ x. s x.id ≡ LeafOf x.kind) leaf_id l.id c.item b.leaves i h.leaves; activities = h.activities },
      k,
    )

-- an activity
idle_activity : (m : Moment) (e : Event) (a left : Activity) (ps : List Post) → ActivityIdles m e a left ps → left.id ≡ a.id
idle_activity m e a left ps (activity_rests is sent) = ap (λ (x : Activity). x.id) is
idle_activity m e a left ps (misled came state is sent) = ap (λ (x : Activity). x.id) is
idle_activity m e a left ps (created context came relates state begun is sent) = ap (λ (x : Activity). x.id) is
idle_activity m e a left ps (interposed context came relates state begun is sent) = ap (λ (x : Activity). x.id) is
idle_activity m e a left ps (activity_registered to came relates state is sent) = ap (λ (x : Activity). x.id) is
idle_activity m e a left ps (activity_registers_again context came state known is sent) = ap (λ (x : Activity). x.id) is
idle_activity m e a left ps (asks_again n to came asked state known is sent) = ap (λ (x : Activity). x.id) is
idle_activity m e a left ps (works url kind vote key value context came state known is sent) = ap (λ (x : Activity). x.id) is
idle_activity m e a left ps (asks n to came begun state known is sent) = ap (λ (x : Activity). x.id) is

put_activities_fit : (P : Activity → Type 0) (id : Numbers) (x : Option Activity) (list : List Activity) → IfThere P x → AllByRecursion P list → AllByRecursion P (put_activities id x list)
put_activities_fit P id None list h k = all_filter P (λ a. not (is_under id a)) (put_by activity_id id None list) (all_put P activity_id id None list h k)
put_activities_fit P id (Some a) list h k = all_put P activity_id id (Some a) list h k

put_activity_fits : (s : Numbers → Sort) (b : Book) (now : ℕ) (id : Numbers) (x : Option Activity) → FitsBook s b → IfThere (λ a. s a.id ≡ Begun) x → FitsBook s (put_activity id (at_time now b) x)
put_activity_fits s b now id x h k = record {
  transactions = h.transactions;
  leaves = h.leaves;
  activities = put_activities_fit (λ a. s a.id ≡ Begun) id x b.activities k h.activities;
}

activity_deed_fits : (s : Numbers → Sort) (b : Book) (e : Event) (now : ℕ) (a : Activity) (entry : Option Record) (c : Change Activity) → FitsBook s b → s a.id ≡ Begun
    → ActivityDeed (moment_of b now) e a entry c → FitsChange s (put_activity a.id (at_time now b)) entry c
activity_deed_fits s b e now a entry c h k (activity_idles left why none is quiet) = (
  put_activity_fits s b now a.id c.item h (subst (IfThere (λ x. s x.id ≡ Begun)) (sym is) (ap s (idle_activity (moment_of b now) e a left c.posts why) ∙ k)),
  (subst (AllByRecursion (FitsEffect s)) (sym quiet) tt, subst (IfThere (FitsRecord s)) (sym none) tt),
)
activity_deed_fits s b e now a entry c h k (tells what why none is told sent) = (
  put_activity_fits s b now a.id c.item h (subst (IfThere (λ x. s x.id ≡ Begun)) (sym is) tt),
  (subst (AllByRecursion (FitsEffect s)) (sym told) (k, tt), subst (IfThere (FitsRecord s)) (sym none) tt),
)

activity_fits : (s : Numbers → Sort) (b : Book) (e : Event) (now : ℕ) (id : Numbers) (a : Activity) (answer : List Out) (d : Decision Activity) → ActivitiesStand b → IsTaken b e → FitsBook s b
    → activity_at b id ≡ Some a → MovesActivity b e now a d → FitsPlan s (activity_plan b now answer a d)
activity_fits s b e now id a answer d stands taken h found moves =
    decision_fits (ActivityDeed (moment_of b now) e a) s b (put_activity a.id (at_time now b)) answer d h
    (branches_deeds (ActivityDeed (moment_of b now) e a) NeverUndone d
    (activities_do.deed b e now a d (ap (activity_at b) (found_id activity_id id b.activities a found) ∙ found) (all_find ActivityStands activity_id id b.activities a stands found) taken moves))
    (λ entry c k. activity_deed_fits s b e now a entry c h (all_find (λ x. s x.id ≡ Begun) activity_id id b.activities a h.activities found) k)

-- a registration
accept_superior : (m : Moment) (a : Arrived) (t : Transaction) (participant : Epr) (kind : Option Kind) → (accept m a t participant kind).transaction.superior ≡ t.superior
unfolding accept
accept_superior m a t participant (Some kind) = refl
accept_superior m a t participant None = refl

new_superior : (m : Moment) (a : Arrived) (r : Register) (t : Transaction) (kind : Option (Option Kind)) → (register_new m a r t kind).transaction.superior ≡ t.superior
unfolding register_new
new_superior m a r t None = refl
new_superior m a r t (Some kind) = by_tests (not a.postable) (may_register t kind)
  where
    by_tests : (b c : Bool)
        → (if b then refuse_register a t InvalidParameters else if c then accept m a t r.participant kind else refuse_register a t CannotRegisterParticipant).transaction.superior ≡ t.superior
    by_tests true c = refl
    by_tests false true = accept_superior m a t r.participant kind
    by_tests false false = refl

again_superior : (m : Moment) (a : Arrived) (r : Register) (t : Transaction) (kind : Option (Option Kind)) (held : Option Epr) → (register_again m a r t kind held).transaction.superior ≡ t.superior
unfolding register_again
again_superior m a r t kind (Some to) = refl
again_superior m a r t kind None = new_superior m a r t kind

register_superior : (m : Moment) (a : Arrived) (r : Register) (t : Transaction) → (on_register m a r t).transaction.superior ≡ t.superior
unfolding on_register
register_superior m a r t = again_superior m a r t (protocol_named r.protocol) (held_seat m r t (protocol_named r.protocol))

registers_fits : (s : Numbers → Sort) (b : Book) (now : ℕ) (id : Numbers) (a : Arrived) (r : Register) (t : Transaction) → FitsBook s b → transaction_at b id ≡ Some t
    → FitsPlan s (plain (registration_outcome b now (on_register (moment_of b now) a r t)))
registers_fits s b now id a r t h found =
    let x : Transaction = (on_register (moment_of b now) a r t).transaction in
    plain_fits s (registration_outcome b now (on_register (moment_of b now) a r t)) (
      put_fits s b now x.id (Some x) h
          (ap s (register_kept t.id (moment_of b now) a r t refl) ∙ all_find (λ y. s y.id ≡ sort_under y.superior) transaction_id id b.transactions t h.transactions found
          ∙ ap sort_under (sym (register_superior (moment_of b now) a r t))),
      tt,
    )

-- What a step does to the sorts: they stay as they are, or one more id is made.
pub record Grown (s : Numbers → Sort) (p : Plan) (landed : Bool) : Type 0 where
  pub after : Numbers → Sort
  pub keeps : Keeps s after
  pub undrawn : (id : Numbers) → s id ≡ Unmade → (IsDrawn (branch p landed).book id → ⊥) → after id ≡ Unmade
  pub book : FitsBook after (branch p landed).book
  pub effects : AllByRecursion (FitsEffect after) (branch p landed).effects
  pub entry : IfThere (FitsRecord after) p.entry

same_grown : (s : Numbers → Sort) (p : Plan) (landed : Bool) → FitsPlan s p → Grown s p landed
same_grown s p true h = record { after = s; keeps = λ K made id e. e; undrawn = λ id e f. e; book = h.landed.0; effects = h.landed.1; entry = h.entry }
same_grown s p false h = record { after = s; keeps = λ K made id e. e; undrawn = λ id e f. e; book = h.absent.0; effects = h.absent.1; entry = h.entry }

still_grown : (s : Numbers → Sort) (b : Book) (os : List Out) (landed : Bool) → FitsBook s b → Grown s (plain (still b os)) landed
still_grown s b os landed h = same_grown s (plain (still b os)) landed (plain_fits s (still b os) (h, tt))

made_grown : (s : Numbers → Sort) (c : Book) (os : List Out) (landed : Bool) (id : Numbers) (K : Sort) → s id ≡ Unmade → IsDrawn c id → FitsBook (set s id K) c → Grown s (plain (still c os)) landed
made_grown s c os landed id K n drawn h = by_landed landed
  where
    keeps : Keeps s (set s id K)
    keeps J made i e = set_keeps s id K J n made i e

    by_landed : (l : Bool) → Grown s (plain (still c os)) l
    by_landed true = record { after = set s id K; keeps = keeps; undrawn = λ i e f. set_other s id K i (λ same. f (subst (IsDrawn c) (sym same) drawn)) e; book = h; effects = tt; entry = tt }
    by_landed false = record { after = set s id K; keeps = keeps; undrawn = λ i e f. set_other s id K i (λ same. f (subst (IsDrawn c) (sym same) drawn)) e; book = h; effects = tt; entry = tt }

made_on : (s : Numbers → Sort) (b : Book) (id : Numbers) (K : Sort) → s id ≡ Unmade → FitsBook s b → FitsBook (set s id K) b
made_on s b id K n h = book_on s (set s id K) b (λ J made i e. set_keeps s id K J n made i e) h

transaction_grown : (s : Numbers → Sort) (b : Book) (now : ℕ) (id : Numbers) (t : Transaction) (os : List Out) (landed : Bool) → FitsBook s b → s id ≡ Unmade → next_id b ≡ Some id → t.id ≡ id
    → Grown s (plain (still (make_transaction (at_time now b) t) os)) landed
transaction_grown s b now id t os landed h n next same =
    let k : FitsBook (set s id (sort_under t.superior)) b = made_on s b id (sort_under t.superior) n h in
    made_grown s (make_transaction (at_time now b) t) os landed id (sort_under t.superior) n (made_drawn b (make_transaction (at_time now b) t) refl refl id id next refl) (record {
      transactions = all_join (λ x. set s id (sort_under t.superior) x.id ≡ sort_under x.superior) b.transactions (t ∷ []) k.transactions
          (ap (set s id (sort_under t.superior)) same ∙ set_this s id (sort_under t.superior), tt);
      leaves = k.leaves;
      activities = k.activities;
    })

leaf_grown : (s : Numbers → Sort) (b : Book) (now : ℕ) (id : Numbers) (l : Leaf) (os : List Out) (landed : Bool) → FitsBook s b → s id ≡ Unmade → next_id b ≡ Some id → l.id ≡ id
    → Grown s (plain (still (make_leaf (at_time now b) l) os)) landed
leaf_grown s b now id l os landed h n next same =
    let k : FitsBook (set s id (LeafOf l.kind)) b = made_on s b id (LeafOf l.kind) n h in
    made_grown s (make_leaf (at_time now b) l) os landed id (LeafOf l.kind) n (made_drawn b (make_leaf (at_time now b) l) refl refl id id next refl) (record {
      transactions = k.transactions;
      leaves = all_join (λ x. set s id (LeafOf l.kind) x.id ≡ LeafOf x.kind) b.leaves (l ∷ []) k.leaves (ap (set s id (LeafOf l.kind)) same ∙ set_this s id (LeafOf l.kind), tt);
      activities = k.activities;
    })

activity_grown : (s : Numbers → Sort) (b : Book) (now : ℕ) (id : Numbers) (a : Activity) (os : List Out) (landed : Bool) → FitsBook s b → s id ≡ Unmade → next_id b ≡ Some id → a.id ≡ id
    → Grown s (plain (still (make_activity (at_time now b) a) os)) landed
activity_grown s b now id a os landed h n next same =
    let k : FitsBook (set s id Begun) b = made_on s b id Begun n h in
    made_grown s (make_activity (at_time now b) a) os landed id Begun n (made_drawn b (make_activity (at_time now b) a) refl refl id id next refl) (record {
      transactions = k.transactions;
      leaves = k.leaves;
      activities = all_join (λ x. set s id Begun x.id ≡ Begun) b.activities (a ∷ []) k.activities (ap (set s id Begun) same ∙ set_this s id Begun, tt);
    })

activity_made_id : (b : Book) (e : Event) (now : ℕ) (id : Numbers) (a : Activity) (os : List Out) → MakesActivity b e now id a os → a.id ≡ id
activity_made_id b e now id a os (begins to ms came is sent) = ap (λ (x : Activity). x.id) is ∙ makes_under_the_next_id.begun (moment_of b now) id to ms
activity_made_id b e now id a os (interposes to named x came found is sent) = ap (λ (y : Activity). y.id) is ∙ makes_under_the_next_id.interposed (moment_of b now) id to x.root x.context

-- a book whose items stand as in every run
pub record Stands (b : Book) : Type 0 where
  pub phases : IsInPhase b
  pub finished : AreFinished b
  pub leaves : LeavesStand b
  pub activities : ActivitiesStand b

by_shape : (s : Numbers → Sort) (b : Book) (e : Event) (now : ℕ) (p : Plan) (landed : Bool) → Stands b → IsTaken b e → FitsBook s b → ((id : Numbers) → (IsDrawn b id → ⊥) → s id ≡ Unmade)
    → Shape b e now p → Grown s p landed
by_shape s b e now p landed g taken h undrawn (nothing_moves is) = subst (λ q. Grown s q landed) (sym is) (still_grown s b [] landed h)
by_shape s b e now p landed g taken h undrawn (time_moves a os came answers ordered is) =
    subst (λ q. Grown s q landed) (sym is) (still_grown s (at_time now b) os landed (record { transactions = h.transactions; leaves = h.leaves; activities = h.activities }))
by_shape s b e now p landed g taken h undrawn (time_passes came is) =
    subst (λ q. Grown s q landed) (sym is) (still_grown s (at_time now b) accepted landed (record { transactions = h.transactions; leaves = h.leaves; activities = h.activities }))
by_shape s b e now p landed g taken h undrawn (transaction_moves id t answer d found moves a is) =
    subst (λ q. Grown s q landed) (sym is) (same_grown s _ landed (transaction_fits s b e now id t answer d g.phases g.finished h found moves))
by_shape s b e now p landed g taken h undrawn (leaf_moves id l answer d found moves a is) =
    subst (λ q. Grown s q landed) (sym is) (same_grown s _ landed (leaf_fits s b e now id l answer d g.leaves h found moves))
by_shape s b e now p landed g taken h undrawn (activity_moves id x answer d found moves a is) =
    subst (λ q. Grown s q landed) (sym is) (same_grown s _ landed (activity_fits s b e now id x answer d g.activities taken h found moves))
by_shape s b e now p landed g taken h undrawn (transaction_registers id a r t found came target says ordered is) =
    subst (λ q. Grown s q landed) (sym is) (same_grown s _ landed (registers_fits s b now id a r t h found))
by_shape s b e now p landed g taken h undrawn (transaction_made a c id t os came target says next makes sent ordered is) =
    subst (λ q. Grown s q landed) (sym is)
    (transaction_grown s b now id t os landed h (undrawn id (makes_under_the_next_id.next b id next)) next
    (subst (HasId id) makes (makes_under_the_next_id.transaction (moment_of b now) (length b.transactions) a c id)))
by_shape s b e now p landed g taken h undrawn (leaf_made a w id l os came target says next makes sent ordered is) =
    subst (λ q. Grown s q landed) (sym is)
    (leaf_grown s b now id l os landed h (undrawn id (makes_under_the_next_id.next b id next)) next
    (subst (HasLeafId id) makes (makes_under_the_next_id.leaf (moment_of b now) (length b.leaves) a w id)))
by_shape s b e now p landed g taken h undrawn (activity_made id a os next makes ordered is) =
    subst (λ q. Grown s q landed) (sym is)
    (activity_grown s b now id a os landed h (undrawn id (makes_under_the_next_id.next b id next)) next (activity_made_id b e now id a os makes))

pub step_sorts : (s : Numbers → Sort) (b : Book) (e : Event) (now : ℕ) (landed : Bool) → Stands b → FitsBook s b → ((id : Numbers) → (IsDrawn b id → ⊥) → s id ≡ Unmade) → Grown s (plan b e now) landed
step_sorts s b e now landed g h undrawn = by_case (refused_or_taken b e now)
  where
    by_case : IsTaken b e ⊎ (plan b e now ≡ plain (still b [])) → Grown s (plan b e now) landed
    by_case (inl taken) = by_shape s b e now (plan b e now) landed g taken h undrawn (steps_touch_one b e now)
    by_case (inr is) = subst (λ q. Grown s q landed) (sym is) (still_grown s b [] landed h)
