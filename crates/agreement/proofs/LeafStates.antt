-- In every run a leaf registers, works or waits.
use Rattle.std.specs.Prelude.{ℕ, List, [], ◌∷◌, Option, Some, None, Bool, length, ◌≡◌, refl, nat_lt}
use Rattle.std.specs.List.{AllByRecursion}
use Rattle.std.proofs.Common.{sym, subst}
use Rattle.at_base.specs.declared.limits.TheConstants.{MOST_ITEMS}
use Rattle.at_base.specs.Numbers.{Numbers}
use Rattle.at_base.specs.declared.epr.Reply.{Reply}
use Rattle.at_base.specs.declared.epr.Reply.TheVariants as replies
use Rattle.at_base.specs.declared.message.Work.{Work}
use Rattle.at_base.specs.declared.record.Record.{Record}
use Rattle.at_base.specs.declared.record.Record.TheVariants as records
use Rattle.at_base.specs.declared.event.Arrived.{Arrived}
use Rattle.at_base.specs.declared.event.Event.{Event}
use Rattle.at_base.specs.declared.event.Moment.{Moment}
use Rattle.at_tables.specs.declared.cells.State.TheVariants as states
use Rattle.at_model.specs.Posts.{accepted}
use Rattle.at_model.specs.Book.{Book, Leaf, leaf_id}
use Rattle.at_model.specs.Moves.{Change, Decision, Goes, Records}
use Rattle.at_model.specs.Arrivals.{with_answer}
use Rattle.at_model.specs.Leaves.{on_work, refuse_work, work_for}
use Rattle.at_model.specs.Register.{on_register}
use Rattle.at_model.specs.Step.{Outcome, Plan, still, at_time, moment_of, put_transaction, put_leaf, put_activity, make_transaction, make_leaf, make_activity, registration_outcome, plan, step}
use Rattle.at_model.specs.Recovery.{live, leaves_of, recover}
use Rattle.at_model.specs.World.{Node, WorldEvent, nth, run_of, Hosts}
use Rattle.model_laws.specs.DrawnIds.{restarted}
use Rattle.model_laws.specs.Shapes.{Shape, nothing_moves, time_moves, time_passes, transaction_moves, leaf_moves, activity_moves, transaction_registers, transaction_made, leaf_made, activity_made}
use Rattle.model_laws.proofs.DecisionLaws.{Both, in_branch, plain_both, decision_both, either_of, DecisionHas, IfThere, decided_both, all_find, all_put, all_join}
use Rattle.model_laws.proofs.DrawnIds.{all_in_order}
use Rattle.model_laws.proofs.ReachedWorlds.{NodeLaw, nodes_hold, run_reached}
use Rattle.model_laws.proofs.StepShapes.{steps_touch_one}
use Rattle.agreement.specs.Branches.{InBranches}
use Rattle.agreement.specs.LeafDeeds.{LeafStands, registers, works, waits, LeavesStand, LeafStates, LeafDeed, LeafIdles, rests, registered, registers_again, votes_again, idles, aborts, prepares, leaves, dropped, commits, rolls_back, LeafWaitsOn}
use Rattle.agreement.proofs.LeafRules.{leaves_do}

-- what is left stands
again : (l : Leaf) (sent : Option ℕ) → LeafStands l → LeafStands (record l { sent = sent })
again l sent (registers r s c q) = registers r s c q
again l sent (works to s c q) = works to s c q
again l sent (waits to s c q v) = waits to s c q v

idle_stands : (m : Moment) (e : Event) (l left : Leaf) (c : Change Leaf) → LeafStands l → LeafIdles m e l left c.posts → LeafStands left
idle_stands m e l left c h (rests is p) = subst LeafStands (sym is) h
idle_stands m e l left c h (registered to r came f s q is p) = subst LeafStands (sym is) (works to refl refl refl)
idle_stands m e l left c h (registers_again r came s q is p) = subst LeafStands (sym is) (again l (Some m.now) h)
idle_stands m e l left c h (votes_again to came s q is p) = subst LeafStands (sym is) (again l (Some m.now) h)

no_request : (l : Leaf) → LeafStands l → l.state ≡ states.Active → l.request ≡ None
no_request l (registers r s c q) e = absurd cc
no_request l (works to s c q) e = q
no_request l (waits to s c q v) e = q

none_left : (o : Option Leaf) → o ≡ None → IfThere LeafStands o
none_left o e = subst (IfThere LeafStands) (sym e) tt

one_left : (o : Option Leaf) (l : Leaf) → o ≡ Some l → LeafStands l → IfThere LeafStands o
one_left o l e h = subst (IfThere LeafStands) (sym e) h

deed_stands : (m : Moment) (e : Event) (l : Leaf) (entry : Option Record) (c : Change Leaf) → LeafStands l → LeafDeed m e l entry c → IfThere LeafStands c.item
deed_stands m e l entry c h (idles left why f item effects) = one_left c.item left item (idle_stands m e l left c h why)
deed_stands m e l entry c h (aborts s why f item effects) = none_left c.item item
deed_stands m e l entry c h (prepares to came s v k f item effects posts) = one_left c.item _ item (waits to refl k (no_request l h s) v)
deed_stands m e l entry c h (leaves to came s v k f item effects posts) = none_left c.item item
deed_stands m e l entry c h (dropped came k f item effects posts) = none_left c.item item
deed_stands m e l entry c h (commits to came s k f item effects posts) = none_left c.item item
deed_stands m e l entry c h (rolls_back to came s k f item effects posts) = none_left c.item item

NoNames : Record → Option Leaf → Type 0
NoNames r left = Unit {0}

branches_stand : (m : Moment) (e : Event) (l : Leaf) (d : Decision Leaf) → LeafStands l → InBranches (LeafDeed m e l) (LeafWaitsOn l) d → DecisionHas (IfThere LeafStands) NoNames d
unfolding NoNames
branches_stand m e l (Goes c) h k = deed_stands m e l None c h k
branches_stand m e l (Records r c None) h (k, u) = record { entry = tt; landed = deed_stands m e l (Some r) c h k; otherwise = tt }
branches_stand m e l (Records r c (Some d)) h (k, i) = record { entry = tt; landed = deed_stands m e l (Some r) c h k; otherwise = deed_stands m e l None d h i }

-- what is made registers
for_stands : (m : Moment) (id : Numbers) (a : Arrived) (w : Work) (r : Reply) → IfThere LeafStands (work_for m id a w r).leaf
for_stands m id a w (replies.At reply) = registers (record { id = a.id; reply = reply; registration = w.context.registration }) refl refl refl
for_stands m id a w replies.Anonymous = tt
for_stands m id a w replies.Nobody = tt

made_stands : (m : Moment) (live : ℕ) (a : Arrived) (w : Work) (id : Numbers) (l : Leaf) → (on_work m live a w (Some id)).leaf ≡ Some l → LeafStands l
unfolding on_work
made_stands m live a w id l e =
    subst (IfThere LeafStands) e
    (either_of (λ x. IfThere LeafStands x.leaf) (nat_lt live MOST_ITEMS) (work_for m id a w a.reply) (refuse_work a) (λ k. for_stands m id a w a.reply) (λ k. tt))

-- a step
StandAfter : Outcome → Type 0
StandAfter o = LeavesStand o.book

stand_both : (b : Book) (e : Event) (now : ℕ) (p : Plan) → LeavesStand b → Shape b e now p → Both StandAfter p
unfolding StandAfter
stand_both b e now p h (nothing_moves f) = subst (Both StandAfter) (sym f) (plain_both StandAfter (still b []) h)
stand_both b e now p h (time_moves a os came why o f) = subst (Both StandAfter) (sym f) (plain_both StandAfter (still (at_time now b) os) h)
stand_both b e now p h (time_passes came f) = subst (Both StandAfter) (sym f) (plain_both StandAfter (still (at_time now b) accepted) h)
stand_both b e now p h (transaction_moves id t answer d stands how o f) =
    subst (Both StandAfter) (sym f)
    (decision_both StandAfter (λ r o i. i) b (put_transaction t.id (at_time now b)) answer (with_answer (moment_of b now) t d) (λ c. h) h)
stand_both b e now p h (leaf_moves id l answer d stands how o f) =
    subst (Both StandAfter) (sym f)
    (decided_both (IfThere LeafStands) NoNames StandAfter (λ r o i. i) b (put_leaf l.id (at_time now b)) answer d
    (branches_stand (moment_of b now) e l d (all_find LeafStands leaf_id id b.leaves l h stands)
    (leaves_do.deed b e now l d (all_find LeafStands leaf_id id b.leaves l h stands) how))
    (λ c k. all_put LeafStands leaf_id l.id c.item b.leaves k h) h)
stand_both b e now p h (activity_moves id a answer d stands how o f) =
    subst (Both StandAfter) (sym f) (decision_both StandAfter (λ r o i. i) b (put_activity a.id (at_time now b)) answer d (λ c. h) h)
stand_both b e now p h (transaction_registers id a r t stands came at says o f) =
    subst (Both StandAfter) (sym f) (plain_both StandAfter (registration_outcome b now (on_register (moment_of b now) a r t)) h)
stand_both b e now p h (transaction_made a c id t os came at says next made sent o f) =
    subst (Both StandAfter) (sym f) (plain_both StandAfter (still (make_transaction (at_time now b) t) os) h)
stand_both b e now p h (leaf_made a w id x os came at says next made sent o f) =
    subst (Both StandAfter) (sym f)
    (plain_both StandAfter (still (make_leaf (at_time now b) x) os)
    (all_join LeafStands b.leaves (x ∷ []) h (made_stands (moment_of b now) (length b.leaves) a w id x made, tt)))
stand_both b e now p h (activity_made id a os next made o f) =
    subst (Both StandAfter) (sym f) (plain_both StandAfter (still (make_activity (at_time now b) a) os) h)

step_stands : (b : Book) (e : Event) (now : ℕ) (landed : Bool) → LeavesStand b → LeavesStand (step b e now landed).book
unfolding StandAfter
step_stands b e now landed h = in_branch StandAfter (plan b e now) landed (stand_both b e now (plan b e now) h (steps_touch_one b e now))

-- recovery
records_stand : (rs : List Record) → AllByRecursion LeafStands (leaves_of rs)
records_stand [] = tt
records_stand (records.LeafPrepared id coordinator key value ∷ rest) = (waits coordinator refl refl refl refl, records_stand rest)
records_stand (records.Start incarnation ∷ rest) = records_stand rest
records_stand (records.LeafCommitted id ∷ rest) = records_stand rest
records_stand (records.LeafAborted id ∷ rest) = records_stand rest
records_stand (records.Voted id superior seats ∷ rest) = records_stand rest
records_stand (records.Decided id seats ∷ rest) = records_stand rest
records_stand (records.SubCommitted id ∷ rest) = records_stand rest
records_stand (records.Ended id ∷ rest) = records_stand rest
records_stand (records.Done id ∷ rest) = records_stand rest

recovered_stand : (base : List ℕ) (rs : List Record) → LeavesStand (recover base rs)
recovered_stand base rs = all_in_order LeafStands leaf_id (leaves_of (live rs)) (records_stand (live rs))

-- runs
standing_law : NodeLaw
standing_law = record {
  Good = λ rs o. IfThere LeavesStand o;
  opens = tt;
  steps = λ rs b e now landed h. step_stands b e now landed h;
  falls = λ rs b h. tt;
  rises = λ base rs small h. recovered_stand base (restarted rs);
}

run_stands : (hosts : Hosts) (es : List WorldEvent) (n : ℕ) (x : Node) (b : Book) → nth n (run_of hosts es).nodes ≡ Some x → x.book ≡ Some b → LeavesStand b
unfolding standing_law
run_stands hosts es n x b found up =
    subst (IfThere LeavesStand) up (nodes_hold standing_law hosts (run_of hosts es) (run_reached hosts es) n x found)

pub leaf_states : LeafStates
leaf_states = record { book = step_stands; recovered = recovered_stand; books = run_stands }
