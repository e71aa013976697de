-- In every run no item has sent later than its book has seen.
use Rattle.std.specs.Prelude.{ℕ, List, [], ◌∷◌, Option, Some, None, Bool, true, false, nat_lt, if◌then◌else◌, ◌≡◌, ◌≤◌}
use Rattle.std.specs.List.{AllByRecursion}
use Rattle.std.proofs.Common.{arith, sym, subst}
use Rattle.at_base.specs.declared.limits.TheConstants.{MOST_ITEMS}
use Rattle.at_base.specs.Numbers.{Numbers}
use Rattle.at_base.specs.declared.event.Arrived.{Arrived}
use Rattle.at_base.specs.declared.event.Event.{Event}
use Rattle.at_base.specs.declared.event.Moment.{Moment}
use Rattle.at_base.specs.declared.message.Register.{Register}
use Rattle.at_base.specs.declared.outs.Post.{Post}
use Rattle.at_base.specs.declared.record.Record.{Record}
use Rattle.at_base.specs.declared.record.Record.TheVariants as records
use Rattle.at_model.specs.Arrivals.{with_answer}
use Rattle.at_model.specs.Book.{Book, Leaf, Transaction, leaf_id, transaction_id}
use Rattle.at_model.specs.Moves.{Change, Decision}
use Rattle.at_model.specs.Posts.{accepted}
use Rattle.at_model.specs.Recovery.{leaves_of, live, transactions_of}
use Rattle.at_model.specs.Register.{Registration, is_late, on_register}
use Rattle.at_model.specs.Step.{Outcome, Plan, at_time, make_activity, make_leaf, make_transaction, moment_of, plan, put_activity, put_leaf, put_transaction, registration_outcome, still, step, time_of}
use Rattle.at_model.specs.World.{Node, World, nth, Hosts}
use Rattle.model_laws.specs.DrawnIds.{restarted}
use Rattle.model_laws.specs.Shapes.{MovesTransaction, Shape, activity_made, activity_moves, at_completion, at_link, at_seat, leaf_made, leaf_moves, nothing_moves, time_moves, time_passes, transaction_made, transaction_moves, transaction_registers, when_due}
use Rattle.at_base.specs.declared.epr.Reply.{Reply}
use Rattle.at_base.specs.declared.epr.Reply.TheVariants as replies
use Rattle.at_base.specs.declared.message.Work.{Work}
use Rattle.at_model.specs.Leaves.{on_work, refuse_work, work_for}
use Rattle.at_model.specs.Moves.{Goes, Records}
use Rattle.agreement.specs.Branches.{InBranches}
use Rattle.agreement.specs.LeafDeeds.{LeafDeed, LeafIdles, LeafStands, LeafWaitsOn, LeavesStand, aborts, commits, dropped, idles, leaves, prepares, registered, registers_again, rests, rolls_back, votes_again}
use Rattle.agreement.proofs.LeafStates.{leaf_states}
use Rattle.agreement.proofs.LeafRules.{leaves_do}
use Rattle.model_laws.specs.ReachedWorlds.{Reached}
use Rattle.model_laws.proofs.DecisionLaws.{Both, either_of, DecisionHas, IfThere, all_find, all_join, all_more, all_put, decided_both, decision_both, in_branch, plain_both}
use Rattle.model_laws.proofs.LinkDecisions.{AnyRecord}
use Rattle.model_laws.proofs.DrawnIds.{all_in_order}
use Rattle.model_laws.proofs.ReachedWorlds.{NodeLaw, nodes_hold}
use Rattle.model_laws.proofs.StepShapes.{steps_touch_one}
use Rattle.enlistments.specs.Registrations.{Enrolls, has_completion, has_seat, refuses, takes_completion, takes_seat}
use Rattle.enlistments.proofs.Registrations.{register_enrolls}
use Rattle.settling.specs.Times.{IsBy, SentBy}
use Rattle.settling.proofs.TimeDecisions.{InTime, Times, completion_times, created_times, due_times, link_times, now_by, records_times, seat_times, with_answer_times}

-- a later time
by_later : (now later : ℕ) (o : Option ℕ) → now ≤ later → IsBy now o → IsBy later o
by_later now later None h k = tt
by_later now later (Some s) h k = omega (arith, h, k)

-- each way to move
moved_times : (b : Book) (e : Event) (now : ℕ) (t : Transaction) (d : Decision Transaction) → InTime (time_of b now) t → MovesTransaction b e now t d → Times (time_of b now) (with_answer (moment_of b now) t d)
moved_times b e now t d h (at_seat a s came why is) = with_answer_times (moment_of b now) t d (subst (Times (time_of b now)) (sym is) (seat_times (moment_of b now) a t s a.message h))
moved_times b e now t d h (at_link a kind s came why under is) =
    with_answer_times (moment_of b now) t d (subst (Times (time_of b now)) (sym is) (link_times (moment_of b now) a kind t s a.message h))
moved_times b e now t d h (at_completion a c came why there is) =
    with_answer_times (moment_of b now) t d (subst (Times (time_of b now)) (sym is) (completion_times (moment_of b now) a t c a.message h))
moved_times b e now t d h (when_due came is) = with_answer_times (moment_of b now) t d (subst (Times (time_of b now)) (sym is) (due_times (moment_of b now) t _ h))

late_by : (now : ℕ) (o : Option ℕ) (b : Bool) → IsBy now o → IsBy now (if b then Some now else o)
late_by now o true h = omega arith
late_by now o false h = h

enrolled_times : (b : Book) (now : ℕ) (a : Arrived) (r : Register) (t : Transaction) (g : Registration) → Enrolls (moment_of b now) a r t g → InTime (time_of b now) t → InTime (time_of b now) g.transaction
enrolled_times b now a r t g (takes_seat kind protocol may is) h = subst (λ x. InTime (time_of b now) x.transaction) (sym is) (late_by (time_of b now) t.sent (is_late t.phase kind) h)
enrolled_times b now a r t g (takes_completion protocol may is) h = subst (λ x. InTime (time_of b now) x.transaction) (sym is) h
enrolled_times b now a r t g (has_seat kind q protocol there k who is) h = subst (λ x. InTime (time_of b now) x.transaction) (sym is) h
enrolled_times b now a r t g (has_completion c protocol there who is) h = subst (λ x. InTime (time_of b now) x.transaction) (sym is) h
enrolled_times b now a r t g (refuses name is) h = subst (λ x. InTime (time_of b now) x.transaction) (sym is) h

-- the transactions of a book
record SentIn (b : Book) : Type 0 where
  sent : AllByRecursion (InTime b.seen) b.transactions

SentAfter : Outcome → Type 0
SentAfter o = SentIn o.book

later_all : (b : Book) (now : ℕ) → SentIn b → AllByRecursion (InTime (time_of b now)) b.transactions
later_all b now h = all_more (InTime b.seen) (InTime (time_of b now)) b.transactions (λ t k. by_later b.seen (time_of b now) t.sent (omega arith) k) h.sent

sent_both : (b : Book) (e : Event) (now : ℕ) (p : Plan) → SentIn b → Shape b e now p → Both SentAfter p
unfolding SentAfter
sent_both b e now p h (nothing_moves f) = subst (Both SentAfter) (sym f) (plain_both SentAfter (still b []) h)
sent_both b e now p h (time_moves a os came why o f) = subst (Both SentAfter) (sym f) (plain_both SentAfter (still (at_time now b) os) (record { sent = later_all b now h }))
sent_both b e now p h (time_passes came f) = subst (Both SentAfter) (sym f) (plain_both SentAfter (still (at_time now b) accepted) (record { sent = later_all b now h }))
sent_both b e now p h (transaction_moves id t answer d stands how o f) =
    subst (Both SentAfter) (sym f)
    (decided_both (IfThere (InTime (time_of b now))) AnyRecord SentAfter (λ r o i. record { sent = i.sent }) b (put_transaction t.id (at_time now b)) answer (with_answer (moment_of b now) t d)
    (moved_times b e now t d (all_find (InTime (time_of b now)) transaction_id id b.transactions t (later_all b now h) stands) how)
    (λ c k. record { sent = all_put (InTime (time_of b now)) transaction_id t.id c.item b.transactions k (later_all b now h) }) h)
sent_both b e now p h (leaf_moves id x answer d stands how o f) =
    subst (Both SentAfter) (sym f)
    (decision_both SentAfter (λ r o i. record { sent = i.sent }) b (put_leaf x.id (at_time now b)) answer d (λ c. record { sent = later_all b now h }) h)
sent_both b e now p h (activity_moves id a answer d stands how o f) =
    subst (Both SentAfter) (sym f)
    (decision_both SentAfter (λ r o i. record { sent = i.sent }) b (put_activity a.id (at_time now b)) answer d (λ c. record { sent = later_all b now h }) h)
sent_both b e now p h (transaction_registers id a r t stands came at says o f) =
    subst (Both SentAfter) (sym f)
    (plain_both SentAfter (registration_outcome b now (on_register (moment_of b now) a r t))
    (record {
      sent = all_put (InTime (time_of b now)) transaction_id (on_register (moment_of b now) a r t).transaction.id (Some (on_register (moment_of b now) a r t).transaction) b.transactions
          (enrolled_times b now a r t (on_register (moment_of b now) a r t) (register_enrolls (moment_of b now) a r t)
          (all_find (InTime (time_of b now)) transaction_id id b.transactions t (later_all b now h) stands)) (later_all b now h);
    }))
sent_both b e now p h (transaction_made a c id t os came at says next made sent o f) =
    subst (Both SentAfter) (sym f)
    (plain_both SentAfter (still (make_transaction (at_time now b) t) os)
    (record { sent = all_join (InTime (time_of b now)) b.transactions (t ∷ []) (later_all b now h) (created_times (moment_of b now) _ a c id t made, tt) }))
sent_both b e now p h (leaf_made a w id x os came at says next made sent o f) =
    subst (Both SentAfter) (sym f) (plain_both SentAfter (still (make_leaf (at_time now b) x) os) (record { sent = later_all b now h }))
sent_both b e now p h (activity_made id a os next made o f) =
    subst (Both SentAfter) (sym f) (plain_both SentAfter (still (make_activity (at_time now b) a) os) (record { sent = later_all b now h }))

step_sent : (b : Book) (e : Event) (now : ℕ) (landed : Bool) → SentIn b → SentIn (step b e now landed).book
unfolding SentAfter
step_sent b e now landed h = in_branch SentAfter (plan b e now) landed (sent_both b e now (plan b e now) h (steps_touch_one b e now))

-- the leaves of a book
LeafIn : ℕ → Leaf → Type 0
LeafIn now l = IsBy now l.sent

idle_times : (m : Moment) (e : Event) (l left : Leaf) (ps : List Post) → LeafIdles m e l left ps → LeafIn m.now l → LeafIn m.now left
unfolding LeafIn
idle_times m e l left ps (rests is sent) h = subst (λ (x : Leaf). IsBy m.now x.sent) (sym is) h
idle_times m e l left ps (registered c r came answers state request is sent) h = subst (λ (x : Leaf). IsBy m.now x.sent) (sym is) h
idle_times m e l left ps (registers_again r due state request is sent) h = subst (λ (x : Leaf). IsBy m.now x.sent) (sym is) (now_by m.now)
idle_times m e l left ps (votes_again to why state knows is sent) h = subst (λ (x : Leaf). IsBy m.now x.sent) (sym is) (now_by m.now)

gone : (now : ℕ) (o : Option Leaf) → o ≡ None → IfThere (LeafIn now) o
gone now o e = subst (IfThere (LeafIn now)) (sym e) tt

leaf_times : (m : Moment) (e : Event) (l : Leaf) (entry : Option Record) (c : Change Leaf) → LeafDeed m e l entry c → LeafIn m.now l → IfThere (LeafIn m.now) c.item
unfolding LeafIn
leaf_times m e l entry c (idles left why none item effects) h = subst (IfThere (LeafIn m.now)) (sym item) (idle_times m e l left c.posts why h)
leaf_times m e l entry c (aborts state why none item effects) h = gone m.now c.item item
leaf_times m e l entry c (prepares to came state vote knows is item effects sent) h = subst (IfThere (LeafIn m.now)) (sym item) (now_by m.now)
leaf_times m e l entry c (leaves to came state vote knows none item effects sent) h = gone m.now c.item item
leaf_times m e l entry c (dropped came kind none item effects sent) h = gone m.now c.item item
leaf_times m e l entry c (commits to came state knows is item effects sent) h = gone m.now c.item item
leaf_times m e l entry c (rolls_back to came state knows is item effects sent) h = gone m.now c.item item

abbrev AnyLeaf : Record → Option Leaf → Type 0
AnyLeaf r left = Unit {0}

branches_times : (m : Moment) (e : Event) (l : Leaf) (d : Decision Leaf) → InBranches (LeafDeed m e l) (LeafWaitsOn l) d → LeafIn m.now l → DecisionHas (IfThere (LeafIn m.now)) AnyLeaf d
branches_times m e l (Goes c) h k = leaf_times m e l None c h k
branches_times m e l (Records r c None) h k = record { entry = tt; landed = leaf_times m e l (Some r) c h.0 k; otherwise = tt }
branches_times m e l (Records r c (Some d)) h k = record { entry = tt; landed = leaf_times m e l (Some r) c h.0 k; otherwise = leaf_times m e l None d h.1 k }

record LeavesIn (b : Book) : Type 0 where
  sent : AllByRecursion (LeafIn b.seen) b.leaves

LeavesAfter : Outcome → Type 0
LeavesAfter o = LeavesIn o.book

later_leaves : (b : Book) (now : ℕ) → LeavesIn b → AllByRecursion (LeafIn (time_of b now)) b.leaves
unfolding LeafIn
later_leaves b now h = all_more (LeafIn b.seen) (LeafIn (time_of b now)) b.leaves (λ l k. by_later b.seen (time_of b now) l.sent (omega arith) k) h.sent

-- what is made sends now
made_leaf : (m : Moment) (live : ℕ) (a : Arrived) (w : Work) (id : Numbers) (l : Leaf) → (on_work m live a w (Some id)).leaf ≡ Some l → LeafIn m.now l
unfolding on_work LeafIn
made_leaf m live a w id l e =
    subst (IfThere (LeafIn m.now)) e
    (either_of (λ x. IfThere (LeafIn m.now) x.leaf) (nat_lt live MOST_ITEMS) (work_for m id a w a.reply) (refuse_work a) (λ k. by_reply a.reply) (λ k. tt))
  where
    by_reply : (r : Reply) → IfThere (LeafIn m.now) (work_for m id a w r).leaf
    by_reply (replies.At reply) = now_by m.now
    by_reply replies.Anonymous = tt
    by_reply replies.Nobody = tt

leaves_both : (b : Book) (e : Event) (now : ℕ) (p : Plan) → LeavesStand b → LeavesIn b → Shape b e now p → Both LeavesAfter p
unfolding LeavesAfter
leaves_both b e now p g h (nothing_moves f) = subst (Both LeavesAfter) (sym f) (plain_both LeavesAfter (still b []) h)
leaves_both b e now p g h (time_moves a os came why o f) = subst (Both LeavesAfter) (sym f) (plain_both LeavesAfter (still (at_time now b) os) (record { sent = later_leaves b now h }))
leaves_both b e now p g h (time_passes came f) = subst (Both LeavesAfter) (sym f) (plain_both LeavesAfter (still (at_time now b) accepted) (record { sent = later_leaves b now h }))
leaves_both b e now p g h (transaction_moves id t answer d stands how o f) =
    subst (Both LeavesAfter) (sym f)
    (decision_both LeavesAfter (λ r o i. record { sent = i.sent }) b (put_transaction t.id (at_time now b)) answer (with_answer (moment_of b now) t d) (λ c. record { sent = later_leaves b now h }) h)
leaves_both b e now p g h (leaf_moves id x answer d stands how o f) =
    subst (Both LeavesAfter) (sym f)
    (decided_both (IfThere (LeafIn (time_of b now))) AnyLeaf LeavesAfter (λ r o i. record { sent = i.sent }) b (put_leaf x.id (at_time now b)) answer d
    (branches_times (moment_of b now) e x d (leaves_do.deed b e now x d (all_find LeafStands leaf_id id b.leaves x g stands) how)
    (all_find (LeafIn (time_of b now)) leaf_id id b.leaves x (later_leaves b now h) stands))
    (λ c k. record { sent = all_put (LeafIn (time_of b now)) leaf_id x.id c.item b.leaves k (later_leaves b now h) }) h)
leaves_both b e now p g h (activity_moves id a answer d stands how o f) =
    subst (Both LeavesAfter) (sym f)
    (decision_both LeavesAfter (λ r o i. record { sent = i.sent }) b (put_activity a.id (at_time now b)) answer d (λ c. record { sent = later_leaves b now h }) h)
leaves_both b e now p g h (transaction_registers id a r t stands came at says o f) =
    subst (Both LeavesAfter) (sym f) (plain_both LeavesAfter (registration_outcome b now (on_register (moment_of b now) a r t)) (record { sent = later_leaves b now h }))
leaves_both b e now p g h (transaction_made a c id t os came at says next made sent o f) =
    subst (Both LeavesAfter) (sym f) (plain_both LeavesAfter (still (make_transaction (at_time now b) t) os) (record { sent = later_leaves b now h }))
leaves_both b e now p g h (leaf_made a w id x os came at says next made sent o f) =
    subst (Both LeavesAfter) (sym f)
    (plain_both LeavesAfter (still (make_leaf (at_time now b) x) os)
    (record { sent = all_join (LeafIn (time_of b now)) b.leaves (x ∷ []) (later_leaves b now h) (made_leaf (moment_of b now) _ a w id x made, tt) }))
leaves_both b e now p g h (activity_made id a os next made o f) =
    subst (Both LeavesAfter) (sym f) (plain_both LeavesAfter (still (make_activity (at_time now b) a) os) (record { sent = later_leaves b now h }))

step_leaves : (b : Book) (e : Event) (now : ℕ) (landed : Bool) → LeavesStand b → LeavesIn b → LeavesIn (step b e now landed).book
unfolding LeavesAfter
step_leaves b e now landed g h = in_branch LeavesAfter (plan b e now) landed (leaves_both b e now (plan b e now) g h (steps_touch_one b e now))

records_leaves : (rs : List Record) → AllByRecursion (LeafIn 0) (leaves_of rs)
unfolding LeafIn
records_leaves [] = tt
records_leaves (records.LeafPrepared id coordinator key value ∷ rest) = (tt, records_leaves rest)
records_leaves (other ∷ rest) = records_leaves rest

-- runs
record IsTimely (b : Book) : Type 0 where
  stands : LeavesStand b
  transactions : SentIn b
  leaves : LeavesIn b

timely_law : NodeLaw
timely_law = record {
  Good = λ rs o. IfThere IsTimely o;
  opens = tt;
  steps = λ rs b e now landed h. record {
    stands = leaf_states.book b e now landed h.stands;
    transactions = step_sent b e now landed h.transactions;
    leaves = step_leaves b e now landed h.stands h.leaves;
  };
  falls = λ rs b h. tt;
  rises = λ base rs small h. record {
    stands = leaf_states.recovered base (restarted rs);
    transactions = record { sent = all_in_order (InTime 0) transaction_id (transactions_of base (live (restarted rs))) (records_times base (live (restarted rs))) };
    leaves = record { sent = all_in_order (LeafIn 0) leaf_id (leaves_of (live (restarted rs))) (records_leaves (live (restarted rs))) };
  };
}

pub books_timely : (hosts : Hosts) (w : World) → Reached hosts w → (n : ℕ) (x : Node) (b : Book) → nth n w.nodes ≡ Some x → x.book ≡ Some b → SentBy b.seen b
unfolding timely_law LeafIn
books_timely hosts w reached n x b found up =
    let h : IsTimely b = subst (IfThere IsTimely) up (nodes_hold timely_law hosts w reached n x found) in
    record { transactions = h.transactions.sent; leaves = h.leaves.sent }
