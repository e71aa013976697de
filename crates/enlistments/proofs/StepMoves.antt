-- Each step of a book moves one item, makes one, takes a registration, answers, or rests.
use Rattle.std.specs.Prelude.{ℕ, List, [], ◌++◌, Option, Some, None, Bool, true, false, map, ◌≡◌, ◌⊎◌, refl}
use Rattle.std.specs.List.{AllByRecursion}
use Rattle.std.proofs.Common.{inl, inr, sym, subst, ap, ◌∙◌}
use Rattle.at_base.specs.Numbers.{Numbers}
use Rattle.at_base.specs.declared.event.Event.{Event}
use Rattle.at_base.specs.declared.event.Event.TheVariants as events
use Rattle.at_base.specs.declared.outs.Out.{Out}
use Rattle.at_base.specs.declared.outs.Out.TheVariants as outs
use Rattle.at_base.specs.declared.record.Record.{Record}
use Rattle.at_base.specs.declared.target.Target.{Target}
use Rattle.at_base.specs.declared.target.Target.TheVariants as targets
use Rattle.at_model.specs.Activities.{Refusal}
use Rattle.at_model.specs.Arrivals.{with_answer}
use Rattle.at_model.specs.Book.{Activity, Book, Leaf, Transaction, activity_id, leaf_id, transaction_id}
use Rattle.at_model.specs.Due.{transaction_due}
use Rattle.at_model.specs.Moves.{Change, Decision, Goes, Records}
use Rattle.at_model.specs.Posts.{accepted}
use Rattle.at_model.specs.Register.{on_register}
use Rattle.at_model.specs.Seats.{seat_target}
use Rattle.at_model.specs.Step.{Outcome, Plan, activity_at, at_time, branch, leaf_at, local_plan, make_activity, make_leaf, make_transaction, moment_of, plain, plan, plan_of, put_activity, put_leaf, put_transaction, refuses, registration_outcome, still, step, transaction_at}
use Rattle.at_model.specs.World.{Node, World, nth, Hosts}
use Rattle.model_laws.specs.DrawnIds.{restarted}
use Rattle.model_laws.specs.ReachedWorlds.{Reached}
use Rattle.model_laws.specs.Shapes.{IsAnswer, MovesTransaction, Shape, activity_made as shape_activity, activity_moves, at_completion, at_link, at_seat, leaf_made as shape_leaf, leaf_moves, nothing_moves, time_moves, time_passes, transaction_made as shape_transaction, transaction_moves, transaction_registers, when_due}
use Rattle.model_laws.proofs.DecisionLaws.{IfThere, all_find, found_id}
use Rattle.model_laws.proofs.ReachedWorlds.{NodeLaw, nodes_hold}
use Rattle.model_laws.proofs.StepShapes.{steps_touch_one}
use Rattle.agreement.specs.ActivityDeeds.{ActivitiesStand, ActivityDeed, ActivityStands, IsTaken, NeverUndone}
use Rattle.agreement.specs.Branches.{InBranches}
use Rattle.agreement.specs.Deeds.{Deed, Deeds}
use Rattle.agreement.specs.StepDeeds.{standing}
use Rattle.agreement.specs.LeafDeeds.{LeafDeed, LeafStands, LeafWaitsOn, LeavesStand}
use Rattle.agreement.proofs.ActivityRules.{activities_do}
use Rattle.agreement.proofs.ActivityStates.{activity_states}
use Rattle.agreement.proofs.TransactionEvents.{transactions_do}
use Rattle.agreement.proofs.LeafStates.{leaf_states}
use Rattle.agreement.proofs.LeafRules.{leaves_do}
use Rattle.agreement.proofs.SeatedBooks.{IsSoundBook, book_sound}
use Rattle.enlistments.specs.Moves.{CameAt, HasItems, IsReady, Moved, Signed, StepsMove, activity_did, activity_made, answered, leaf_did, leaf_made, registered, rested, transaction_did, transaction_made}
use Rattle.enlistments.proofs.Registrations.{register_enrolls}
use Rattle.enlistments.proofs.Searches.{found_seat}
use Rattle.enlistments.proofs.PhaseSignatures.{Signs}
use Rattle.enlistments.proofs.NoticeSignatures.{completion_signed, due_signed, link_signed, seat_signed, with_answer_signed}

-- both branches of a plan
abbrev Moves : Book → Event → ℕ → Bool → Plan → Type 0
Moves b e now landed p = Moved b e now (standing landed p.entry) (branch p landed)

plain_moves : (b : Book) (e : Event) (now : ℕ) (landed : Bool) (o : Outcome) → Moved b e now None o → Moves b e now landed (plain o)
plain_moves b e now true o h = h
plain_moves b e now false o h = h

-- an item is moved: what the step gives is that of one of its branches
abbrev Gives : {A : Type 0} → (Option Record → Change A → Type 0) → Book → Event → ℕ → (Option A → Book) → List Out → Type 0
Gives {A = A} P b e now put answer =
    (entry : Option Record) (c : Change A) (o : Outcome) → P entry c → HasItems o.book (put c.item).transactions (put c.item).leaves (put c.item).activities
    → o.outs ≡ answer ++ map outs.Post c.posts → o.effects ≡ c.effects → Moved b e now entry o

same_items : (b : Book) → HasItems b b.transactions b.leaves b.activities
same_items b = record { transactions_are = refl; leaves_are = refl; activities_are = refl }

rests : (b : Book) (e : Event) (now : ℕ) (answer : List Out) → IsAnswer answer → Moved b e now None (still b answer)
rests b e now answer h = rested (record { answer = answer; answers = h; unrecorded = refl; book = inl refl; outs_are = refl; effects_are = refl })

decision_moves : {A : Type 0} (P : Option Record → Change A → Type 0) (b : Book) (e : Event) (now : ℕ) (landed : Bool) (put : Option A → Book) (answer : List Out) (d : Decision A) → IsAnswer answer
    → Deeds P d → Gives P b e now put answer → Moves b e now landed (plan_of b put answer d)
decision_moves P b e now landed put answer (Goes c) a h f = plain_moves b e now landed _ (f None c _ h (same_items (put c.item)) refl refl)
decision_moves P b e now true put answer (Records r c None) a h f = f (Some r) c _ h (record { transactions_are = refl; leaves_are = refl; activities_are = refl }) refl refl
decision_moves P b e now false put answer (Records r c None) a h f = rests b e now answer a
decision_moves P b e now true put answer (Records r c (Some d)) a (h, k) f = f (Some r) c _ h (record { transactions_are = refl; leaves_are = refl; activities_are = refl }) refl refl
decision_moves P b e now false put answer (Records r c (Some d)) a (h, k) f = f None d _ k (same_items (put d.item)) refl refl

branches_deeds : {A : Type 0} (P : Option Record → Change A → Type 0) (U : Record → Type 0) (d : Decision A) → InBranches P U d → Deeds P d
branches_deeds P U (Goes c) h = h
branches_deeds P U (Records r c None) h = h.0
branches_deeds P U (Records r c (Some d)) h = h

-- a transaction's deeds are signed
decision_signed : (b : Book) (e : Event) (now : ℕ) (t : Transaction) (d : Decision Transaction) → MovesTransaction b e now t d → (T : Target) → CameAt T e → Signs (moment_of b now) e t T d
decision_signed b e now t d (at_seat a s came here is) T h =
    let (n, k, i) = found_seat here.number here.kind t.seats s here.found in
    let same : seat_target t.id s ≡ T = (λ j. targets.Coordinator t.id (record { number = n j; kind = k j })) ∙ sym here.target ∙ h a came in
    subst (λ S. Signs (moment_of b now) e t S d) same (subst (Signs (moment_of b now) e t (seat_target t.id s)) (sym is) (seat_signed (moment_of b now) e a t s a.message))
decision_signed b e now t d (at_link a kind s came target under is) T h =
    subst (λ S. Signs (moment_of b now) e t S d) (sym target ∙ h a came)
    (subst (Signs (moment_of b now) e t (targets.Participant t.id kind)) (sym is) (link_signed (moment_of b now) e a kind t s a.message came target refl under))
decision_signed b e now t d (at_completion a c came target there is) T h =
    subst (Signs (moment_of b now) e t T) (sym is) (completion_signed (moment_of b now) e T a t c a.message)
decision_signed b e now t d (when_due came is) T h =
    subst (Signs (moment_of b now) e t T) (sym is) (due_signed (moment_of b now) e t T (transaction_due (moment_of b now) t))

record SignedDeed (b : Book) (e : Event) (now : ℕ) (t : Transaction) (entry : Option Record) (c : Change Transaction) : Type 0 where
  deed : Deed e t entry c
  signed : (T : Target) → CameAt T e → AllByRecursion (Signed b.base e t T) c.posts

signed_deeds : (b : Book) (e : Event) (now : ℕ) (t : Transaction) (d : Decision Transaction) → Deeds (Deed e t) d → ((T : Target) → CameAt T e → Signs (moment_of b now) e t T d)
    → Deeds (SignedDeed b e now t) d
signed_deeds b e now t (Goes c) h f = record { deed = h; signed = f }
signed_deeds b e now t (Records r c None) h f = record { deed = h; signed = λ T k. (f T k).landed }
signed_deeds b e now t (Records r c (Some d)) (h, k) f = (record { deed = h; signed = λ T i. (f T i).landed }, record { deed = k; signed = λ T i. (f T i).otherwise })

at_own : (b : Book) (id : Numbers) (t : Transaction) → transaction_at b id ≡ Some t → transaction_at b t.id ≡ Some t
at_own b id t found = subst (λ i. transaction_at b i ≡ Some t) (sym (found_id transaction_id id b.transactions t found)) found

leaf_at_own : (b : Book) (id : Numbers) (l : Leaf) → leaf_at b id ≡ Some l → leaf_at b l.id ≡ Some l
leaf_at_own b id l found = subst (λ i. leaf_at b i ≡ Some l) (sym (found_id leaf_id id b.leaves l found)) found

activity_at_own : (b : Book) (id : Numbers) (a : Activity) → activity_at b id ≡ Some a → activity_at b a.id ≡ Some a
activity_at_own b id a found = subst (λ i. activity_at b i ≡ Some a) (sym (found_id activity_id id b.activities a found)) found

-- each shape of a step
by_shape : (b : Book) (e : Event) (now : ℕ) (landed : Bool) (p : Plan) → IsReady b → IsTaken b e → Shape b e now p → Moves b e now landed p
by_shape b e now landed p g taken (nothing_moves f) = subst (Moves b e now landed) (sym f) (plain_moves b e now landed (still b []) (rests b e now [] (inl refl)))
by_shape b e now landed p g taken (time_moves a os came why o f) =
    subst (Moves b e now landed) (sym f)
    (plain_moves b e now landed (still (at_time now b) os) (answered (record { arrived = a; answer = os; came = came; answers = why; unrecorded = refl; is = refl })))
by_shape b e now landed p g taken (time_passes came f) =
    subst (Moves b e now landed) (sym f)
    (plain_moves b e now landed (still (at_time now b) accepted)
    (rested (record { answer = accepted; answers = inr refl; unrecorded = refl; book = inr refl; outs_are = refl; effects_are = refl })))
by_shape b e now landed p g taken (transaction_moves id t answer d stands how o f) =
    subst (Moves b e now landed) (sym f)
    (decision_moves (SignedDeed b e now t) b e now landed (put_transaction t.id (at_time now b)) answer (with_answer (moment_of b now) t d) o
    (signed_deeds b e now t (with_answer (moment_of b now) t d) (transactions_do.deeds b e now id t d g.phases g.finished stands how)
    (λ T k. with_answer_signed (moment_of b now) e t T d (decision_signed b e now t d how T k)))
    (λ entry c out h items sent happens.
    transaction_did (record {
      old = t;
      change = c;
      answer = answer;
      found = at_own b id t stands;
      deed = h.deed;
      signed = h.signed;
      answers = o;
      items = items;
      outs_are = sent;
      effects_are = happens;
    })))
by_shape b e now landed p g taken (leaf_moves id l answer d stands how o f) =
    subst (Moves b e now landed) (sym f)
    (decision_moves (LeafDeed (moment_of b now) e l) b e now landed (put_leaf l.id (at_time now b)) answer d o
    (branches_deeds (LeafDeed (moment_of b now) e l) (LeafWaitsOn l) d (leaves_do.deed b e now l d (all_find LeafStands leaf_id id b.leaves l g.leaves stands) how))
    (λ entry c out h items sent happens.
    leaf_did (record {
      old = l;
      change = c;
      answer = answer;
      found = leaf_at_own b id l stands;
      deed = h;
      answers = o;
      items = items;
      outs_are = sent;
      effects_are = happens;
    })))
by_shape b e now landed p g taken (activity_moves id a answer d stands how o f) =
    subst (Moves b e now landed) (sym f)
    (decision_moves (ActivityDeed (moment_of b now) e a) b e now landed (put_activity a.id (at_time now b)) answer d o
    (branches_deeds (ActivityDeed (moment_of b now) e a) NeverUndone d
    (activities_do.deed b e now a d (activity_at_own b id a stands) (all_find ActivityStands activity_id id b.activities a g.activities stands) taken how))
    (λ entry c out h items sent happens.
    activity_did (record {
      old = a;
      change = c;
      answer = answer;
      found = activity_at_own b id a stands;
      deed = h;
      answers = o;
      items = items;
      outs_are = sent;
      effects_are = happens;
    })))
by_shape b e now landed p g taken (transaction_registers id a r t stands came at says o f) =
    subst (Moves b e now landed) (sym f)
    (plain_moves b e now landed (registration_outcome b now (on_register (moment_of b now) a r t))
    (registered (record {
      old = t;
      arrived = a;
      request = r;
      found = at_own b id t stands;
      came = came;
      target = at ∙ ap (λ x. targets.Registration x) (sym (found_id transaction_id id b.transactions t stands));
      says = says;
      unrecorded = refl;
      gives = on_register (moment_of b now) a r t;
      given = refl;
      enrolls = register_enrolls (moment_of b now) a r t;
      is = refl;
    })))
by_shape b e now landed p g taken (shape_transaction a c id t os came at says next makes sent o f) =
    subst (Moves b e now landed) (sym f)
    (plain_moves b e now landed (still (make_transaction (at_time now b) t) os)
    (transaction_made (record {
      new = t;
      id = id;
      arrived = a;
      request = c;
      next = next;
      came = came;
      target = at;
      says = says;
      makes = makes;
      unrecorded = refl;
      is = ap (still (make_transaction (at_time now b) t)) sent;
    })))
by_shape b e now landed p g taken (shape_leaf a w id l os came at says next makes sent o f) =
    subst (Moves b e now landed) (sym f)
    (plain_moves b e now landed (still (make_leaf (at_time now b) l) os)
    (leaf_made (record {
      new = l;
      id = id;
      arrived = a;
      request = w;
      next = next;
      came = came;
      target = at;
      says = says;
      makes = makes;
      unrecorded = refl;
      is = ap (still (make_leaf (at_time now b) l)) sent;
    })))
by_shape b e now landed p g taken (shape_activity id a os next makes o f) =
    subst (Moves b e now landed) (sym f)
    (plain_moves b e now landed (still (make_activity (at_time now b) a) os)
    (activity_made (record { new = a; id = id; posts = os; next = next; makes = makes; unrecorded = refl; is = refl })))

-- a request that is refused changes nothing
taken_or_still : (b : Book) (e : Event) (now : ℕ) → IsTaken b e ⊎ (plan b e now ≡ plain (still b []))
taken_or_still b (events.Arrived a) now = inl (λ l came. absurd cc)
taken_or_still b (events.Due item) now = inl (λ l came. absurd cc)
taken_or_still b events.Tick now = inl (λ l came. absurd cc)
taken_or_still b (events.Local x) now = by_case (refuses b x) refl
  where
    by_case : (o : Option Refusal) → refuses b x ≡ o → IsTaken b (events.Local x) ⊎ (plan b (events.Local x) now ≡ plain (still b []))
    by_case None e = inl (λ l came. let same : x ≡ l = cc in subst (λ y. refuses b y ≡ None) same e)
    by_case (Some refusal) e = inr (ap (local_plan b now x) e)

pub step_moves : (b : Book) (e : Event) (now : ℕ) (landed : Bool) → IsReady b → Moved b e now (standing landed (plan b e now).entry) (step b e now landed)
step_moves b e now landed g = by_case (taken_or_still b e now)
  where
    by_case : IsTaken b e ⊎ (plan b e now ≡ plain (still b [])) → Moves b e now landed (plan b e now)
    by_case (inl taken) = by_shape b e now landed (plan b e now) g taken (steps_touch_one b e now)
    by_case (inr is) = subst (Moves b e now landed) (sym is) (plain_moves b e now landed (still b []) (rests b e now [] (inl refl)))

-- the books of worlds that are reached
record ItemsStand (b : Book) : Type 0 where
  leaves : LeavesStand b
  activities : ActivitiesStand b

items_law : NodeLaw
items_law = record {
  Good = λ rs o. IfThere ItemsStand o;
  opens = tt;
  steps = λ rs b e now landed h. record { leaves = leaf_states.book b e now landed h.leaves; activities = activity_states.book b e now landed h.activities };
  falls = λ rs b h. tt;
  rises = λ base rs small h. record { leaves = leaf_states.recovered base (restarted rs); activities = activity_states.recovered base (restarted rs) };
}

pub book_ready : (hosts : Hosts) (w : World) → Reached hosts w → (n : ℕ) (x : Node) (b : Book) → nth n w.nodes ≡ Some x → x.book ≡ Some b → IsReady b
unfolding items_law
book_ready hosts w reached n x b found up =
    let sound : IsSoundBook x.journal b = book_sound hosts w reached n x b found up in
    let stand : ItemsStand b = subst (IfThere ItemsStand) up (nodes_hold items_law hosts w reached n x found) in
    record { order = sound.order; phases = sound.phases; finished = sound.finished; leaves = stand.leaves; activities = stand.activities }

pub steps_move : StepsMove
steps_move = record { moved = step_moves; ready = book_ready }
