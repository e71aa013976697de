-- In every run a subordinate that is past Registering knows a coordinator, and each coordinator that one knows is a seat of a node.
use Rattle.std.specs.Prelude.{ℕ, List, [], ◌∷◌, Option, Some, None, Bool, ◌≡◌}
use Rattle.std.proofs.Common.{sym, subst}
use Rattle.at_base.specs.declared.epr.Epr.{Epr}
use Rattle.at_base.specs.declared.event.Arrived.{Arrived}
use Rattle.at_base.specs.declared.event.Event.{Event}
use Rattle.at_base.specs.declared.message.Message.TheVariants as messages
use Rattle.at_base.specs.declared.message.Register.{Register}
use Rattle.at_base.specs.declared.record.Record.{Record}
use Rattle.at_base.specs.declared.target.Target.{Target}
use Rattle.at_model.specs.Arrivals.{with_answer}
use Rattle.at_model.specs.Book.{Book, Transaction, transaction_id}
use Rattle.at_model.specs.Moves.{Decision}
use Rattle.at_model.specs.Posts.{accepted}
use Rattle.at_model.specs.Recovery.{live, recover, transactions_of}
use Rattle.at_model.specs.Register.{Registration, on_register}
use Rattle.at_model.specs.Step.{Outcome, Plan, at_time, make_activity, make_leaf, make_transaction, moment_of, plan, put_activity, put_leaf, put_transaction, registration_outcome, step, still}
use Rattle.at_model.specs.World.{Node, Posted, World, nth, Hosts}
use Rattle.model_laws.specs.PhaseAnswers.{IsInPhase}
use Rattle.model_laws.specs.DrawnIds.{restarted}
use Rattle.model_laws.specs.ReachedWorlds.{Reached}
use Rattle.model_laws.specs.Shapes.{MovesTransaction, Shape, activity_made, activity_moves, at_completion, at_link, at_seat, leaf_made, leaf_moves, nothing_moves, time_moves, time_passes, transaction_made, transaction_moves, transaction_registers, when_due}
use Rattle.model_laws.proofs.DecisionLaws.{Both, IfThere, all_find, all_join, all_put, decided_both, decision_both, in_branch, plain_both}
use Rattle.model_laws.proofs.LinkDecisions.{AnyRecord, Linked}
use Rattle.model_laws.proofs.DrawnIds.{all_in_order}
use Rattle.model_laws.proofs.ReachedWorlds.{NodeLaw, nodes_hold}
use Rattle.model_laws.proofs.StepShapes.{steps_touch_one}
use Rattle.model_laws.proofs.PhaseAnswers.{decides_behind_every_answer}
use Rattle.enlistments.specs.Registrations.{Enrolls, has_completion, has_seat, refuses, takes_completion, takes_seat}
use Rattle.enlistments.specs.Leads.{LeadsTo}
use Rattle.enlistments.proofs.Registrations.{register_enrolls}
use Rattle.settling.specs.Order.{AreJoined}
use Rattle.settling.proofs.CoordinatorDecisions.{Joined, completion_joined, created_joined, due_joined, link_joined, records_joined, seat_joined, with_answer_joined, Joins}

-- each way to move
moved_joined : (b : Book) (e : Event) (now : ℕ) (t : Transaction) (d : Decision Transaction) → Linked t → Joined t → MovesTransaction b e now t d → Joins (with_answer (moment_of b now) t d)
moved_joined b e now t d l h (at_seat a s came why is) = with_answer_joined (moment_of b now) t d (subst Joins (sym is) (seat_joined (moment_of b now) a t s a.message h))
moved_joined b e now t d l h (at_link a kind s came why under is) =
    with_answer_joined (moment_of b now) t d (subst Joins (sym is) (link_joined (moment_of b now) a kind t s a.message under l h))
moved_joined b e now t d l h (at_completion a c came why there is) =
    with_answer_joined (moment_of b now) t d (subst Joins (sym is) (completion_joined (moment_of b now) a t c a.message there l h))
moved_joined b e now t d l h (when_due came is) = with_answer_joined (moment_of b now) t d (subst Joins (sym is) (due_joined (moment_of b now) t _ h))

enrolled_joined : (b : Book) (now : ℕ) (a : Arrived) (r : Register) (t : Transaction) (g : Registration) → Enrolls (moment_of b now) a r t g → Joined t → Joined g.transaction
enrolled_joined b now a r t g (takes_seat kind protocol may is) h = subst (λ x. Joined x.transaction) (sym is) h
enrolled_joined b now a r t g (takes_completion protocol may is) h = subst (λ x. Joined x.transaction) (sym is) h
enrolled_joined b now a r t g (has_seat kind q protocol there k who is) h = subst (λ x. Joined x.transaction) (sym is) h
enrolled_joined b now a r t g (has_completion c protocol there who is) h = subst (λ x. Joined x.transaction) (sym is) h
enrolled_joined b now a r t g (refuses name is) h = subst (λ x. Joined x.transaction) (sym is) h

-- a step
JoinedAfter : Outcome → Type 0
JoinedAfter o = AreJoined o.book

joined_both : (b : Book) (e : Event) (now : ℕ) (p : Plan) → IsInPhase b → AreJoined b → Shape b e now p → Both JoinedAfter p
unfolding JoinedAfter
joined_both b e now p l h (nothing_moves f) = subst (Both JoinedAfter) (sym f) (plain_both JoinedAfter (still b []) h)
joined_both b e now p l h (time_moves a os came why o f) = subst (Both JoinedAfter) (sym f) (plain_both JoinedAfter (still (at_time now b) os) h)
joined_both b e now p l h (time_passes came f) = subst (Both JoinedAfter) (sym f) (plain_both JoinedAfter (still (at_time now b) accepted) h)
joined_both b e now p l h (transaction_moves id t answer d stands how o f) =
    subst (Both JoinedAfter) (sym f)
    (decided_both (IfThere Joined) AnyRecord JoinedAfter (λ r o i. i) b (put_transaction t.id (at_time now b)) answer (with_answer (moment_of b now) t d)
    (moved_joined b e now t d (all_find Linked transaction_id id b.transactions t l.links stands) (all_find Joined transaction_id id b.transactions t h stands) how)
    (λ c k. all_put Joined transaction_id t.id c.item b.transactions k h) h)
joined_both b e now p l h (leaf_moves id x answer d stands how o f) =
    subst (Both JoinedAfter) (sym f) (decision_both JoinedAfter (λ r o i. i) b (put_leaf x.id (at_time now b)) answer d (λ c. h) h)
joined_both b e now p l h (activity_moves id a answer d stands how o f) =
    subst (Both JoinedAfter) (sym f) (decision_both JoinedAfter (λ r o i. i) b (put_activity a.id (at_time now b)) answer d (λ c. h) h)
joined_both b e now p l h (transaction_registers id a r t stands came at says o f) =
    subst (Both JoinedAfter) (sym f)
    (plain_both JoinedAfter (registration_outcome b now (on_register (moment_of b now) a r t))
    (all_put Joined transaction_id (on_register (moment_of b now) a r t).transaction.id (Some (on_register (moment_of b now) a r t).transaction) b.transactions
    (enrolled_joined b now a r t (on_register (moment_of b now) a r t) (register_enrolls (moment_of b now) a r t) (all_find Joined transaction_id id b.transactions t h stands)) h))
joined_both b e now p l h (transaction_made a c id t os came at says next made sent o f) =
    subst (Both JoinedAfter) (sym f)
    (plain_both JoinedAfter (still (make_transaction (at_time now b) t) os) (all_join Joined b.transactions (t ∷ []) h (created_joined _ _ a c id t made, tt)))
joined_both b e now p l h (leaf_made a w id x os came at says next made sent o f) =
    subst (Both JoinedAfter) (sym f) (plain_both JoinedAfter (still (make_leaf (at_time now b) x) os) h)
joined_both b e now p l h (activity_made id a os next made o f) =
    subst (Both JoinedAfter) (sym f) (plain_both JoinedAfter (still (make_activity (at_time now b) a) os) h)

step_joined : (b : Book) (e : Event) (now : ℕ) (landed : Bool) → IsInPhase b → AreJoined b → AreJoined (step b e now landed).book
unfolding JoinedAfter
step_joined b e now landed l h = in_branch JoinedAfter (plan b e now) landed (joined_both b e now (plan b e now) l h (steps_touch_one b e now))

recovered_joined : (base : List ℕ) (rs : List Record) → AreJoined (recover base rs)
recovered_joined base rs = all_in_order Joined transaction_id (transactions_of base (live rs)) (records_joined base (live rs))

record JoinsWell (b : Book) : Type 0 where
  phases : IsInPhase b
  joined : AreJoined b

joined_law : NodeLaw
joined_law = record {
  Good = λ rs o. IfThere JoinsWell o;
  opens = tt;
  steps = λ rs b e now landed h. record { phases = decides_behind_every_answer.book b e now landed h.phases; joined = step_joined b e now landed h.phases h.joined };
  falls = λ rs b h. tt;
  rises = λ base rs small h. record { phases = decides_behind_every_answer.recovered base (restarted rs); joined = recovered_joined base (restarted rs) };
}

pub books_joined : (hosts : Hosts) (w : World) → Reached hosts w → (n : ℕ) (x : Node) (b : Book) → nth n w.nodes ≡ Some x → x.book ≡ Some b → AreJoined b
unfolding joined_law
books_joined hosts w reached n x b found up = (subst (IfThere JoinsWell) up (nodes_hold joined_law hosts w reached n x found)).joined

-- an endpoint leads somewhere
pub record Leads (hosts : Hosts) (c : Epr) : Type 0 where
  pub node : ℕ
  pub target : Target
  pub leads : LeadsTo hosts c node target

abbrev pub LeadsIfKnown : Hosts → Option Epr → Type 0
LeadsIfKnown hosts None = Unit {0}
LeadsIfKnown hosts (Some c) = Leads hosts c

abbrev pub AnswerLeads : Hosts → Posted → Type 0
AnswerLeads hosts p = (c : Epr) → p.content.message ≡ messages.RegisterResponse c → Leads hosts c
