-- Over steps and recovery a subordinate's links follow its phase.
use Rattle.std.specs.Prelude.{ℕ, List, [], ◌∷◌, Option, Some, None, Bool, true, false, not, ◌&&◌, nat_lt, length, bytes_eq, ◌≡◌, refl}
use Rattle.std.specs.List.{list_any, AllByRecursion}
use Rattle.std.proofs.Common.{sym, subst}
use Rattle.at_base.specs.Numbers.{Numbers}
use Rattle.at_base.specs.declared.epr.Epr.{Epr}
use Rattle.at_base.specs.declared.epr.Reply.{Reply}
use Rattle.at_base.specs.declared.epr.Reply.TheVariants as replies
use Rattle.at_base.specs.declared.notice.Kind.{Kind}
use Rattle.at_base.specs.declared.message.Context.{Context}
use Rattle.at_base.specs.declared.message.Create.{Create}
use Rattle.at_base.specs.declared.message.Register.{Register}
use Rattle.at_base.specs.declared.record.Seated.{Seated}
use Rattle.at_base.specs.declared.record.Record.{Record}
use Rattle.at_base.specs.declared.record.Record.TheVariants as records
use Rattle.at_base.specs.declared.event.Arrived.{Arrived}
use Rattle.at_base.specs.declared.event.Event.{Event}
use Rattle.at_base.specs.declared.event.Moment.{Moment}
use Rattle.at_tables.specs.declared.cells.State.TheVariants as states
use Rattle.at_base.specs.declared.limits.TheConstants.{MOST_SEATS, MOST_ITEMS}
use Rattle.at_model.specs.Posts.{accepted}
use Rattle.at_model.specs.Book.{Book, Transaction, transaction_id}
use Rattle.endpoints.specs.Addresses.{atomic}
use Rattle.at_model.specs.Moves.{Decision}
use Rattle.at_model.specs.Arrivals.{with_answer}
use Rattle.at_model.specs.Register.{Registration, accepts, may_complete, may_register, accept, register_new, register_again, on_register, protocol_named, held_seat}
use Rattle.at_model.specs.Create.{create_under, create_in, on_create, refuse_create}
use Rattle.at_model.specs.Step.{Outcome, Plan, still, at_time, moment_of, put_transaction, put_leaf, put_activity, make_transaction, make_leaf, make_activity, registration_outcome, plan, step}
use Rattle.at_model.specs.Recovery.{live, is_sub_committed, transactions_of, recovered_voted}
use Rattle.model_laws.specs.Shapes.{MovesTransaction, Shape, at_seat, at_link, at_completion, when_due, nothing_moves, time_moves, time_passes, transaction_moves, leaf_moves, activity_moves, transaction_registers, transaction_made, leaf_made, activity_made}
use Rattle.model_laws.proofs.DrawnIds.{all_in_order}
use Rattle.model_laws.proofs.StepShapes.{steps_touch_one}
use Rattle.std.specs.Prelude.{is_none}
use Rattle.at_model.specs.Book.{Completion, Superior}
use Rattle.model_laws.specs.Links.{AreLinked, IsLinked, LinksFollowPhases}
use Rattle.model_laws.proofs.DecisionLaws.{either_of, first_true, second_true, Both, in_branch, plain_both, decision_both, IfThere, decided_both, all_find, all_put, all_join}
use Rattle.model_laws.proofs.LinkDecisions.{Linked, AnyRecord, Links, seat_links, link_links, completion_links, due_links, with_answer_links}

moved_links : (b : Book) (e : Event) (now : ℕ) (t : Transaction) (d : Decision Transaction) → Linked t → MovesTransaction b e now t d → Links (with_answer (moment_of b now) t d)
moved_links b e now t d h (at_seat a s came why is) =
    with_answer_links (moment_of b now) t d (subst Links (sym is) (seat_links (moment_of b now) a t s a.message h))
moved_links b e now t d h (at_link a kind s came why under is) =
    with_answer_links (moment_of b now) t d (subst Links (sym is) (link_links (moment_of b now) a kind t s a.message under h))
moved_links b e now t d h (at_completion a c came why there is) =
    with_answer_links (moment_of b now) t d (subst Links (sym is) (completion_links (moment_of b now) a t c a.message there h))
moved_links b e now t d h (when_due came is) =
    with_answer_links (moment_of b now) t d (subst Links (sym is) (due_links (moment_of b now) t _ h))

-- a registration: only a root takes one for Completion
none_is : (s : Option Superior) → is_none s ≡ true → s ≡ None
none_is None e = refl
none_is (Some s) e = absurd cc

then_root : (t : Transaction) → may_register t None ≡ true → t.superior ≡ None
then_root t e =
    none_is t.superior
    (first_true (is_none t.superior) (is_none t.completion) (second_true (accepts t.phase && nat_lt (length t.seats) MOST_SEATS) (may_complete t None) e))

accept_linked : (m : Moment) (a : Arrived) (t : Transaction) (participant : Epr) (kind : Option Kind) → may_register t kind ≡ true → Linked t
    → Linked (accept m a t participant kind).transaction
unfolding accept
accept_linked m a t participant (Some kind) e h = h
accept_linked m a t participant None e h =
    let c : Option Completion = Some (record { initiator = participant; state = states.Active }) in
    subst (λ s. AreLinked t.phase s c) (sym (then_root t e)) tt

register_new_linked : (m : Moment) (a : Arrived) (r : Register) (t : Transaction) (kind : Option (Option Kind)) → Linked t → Linked (register_new m a r t kind).transaction
unfolding register_new
register_new_linked m a r t None h = h
register_new_linked m a r t (Some kind) h =
    either_of (λ (x : Registration). Linked x.transaction) (not a.postable) _ _ (λ e. h)
    (λ e. either_of (λ (x : Registration). Linked x.transaction) (may_register t kind) _ _ (λ f. accept_linked m a t r.participant kind f h) (λ f. h))

register_again_linked : (m : Moment) (a : Arrived) (r : Register) (t : Transaction) (kind : Option (Option Kind)) (held : Option Epr) → Linked t
    → Linked (register_again m a r t kind held).transaction
unfolding register_again
register_again_linked m a r t kind (Some coordinator) h = h
register_again_linked m a r t kind None h = register_new_linked m a r t kind h

register_linked : (m : Moment) (a : Arrived) (r : Register) (t : Transaction) → Linked t → Linked (on_register m a r t).transaction
unfolding on_register
register_linked m a r t h = register_again_linked m a r t (protocol_named r.protocol) (held_seat m r t (protocol_named r.protocol)) h

-- a transaction that is made
under_linked : (m : Moment) (id : Numbers) (a : Arrived) (c : Create) (current : Context) (r : Reply) → IfThere Linked (create_under m id a c current r).transaction
unfolding create_under
under_linked m id a c current (replies.At reply) = ((tt, tt), refl)
under_linked m id a c current replies.Anonymous = tt
under_linked m id a c current replies.Nobody = tt

in_linked : (m : Moment) (id : Numbers) (a : Arrived) (c : Create) (current : Option Context) → IfThere Linked (create_in m id a c current).transaction
unfolding create_in
in_linked m id a c None = tt
in_linked m id a c (Some current) = under_linked m id a c current a.reply

created_linked : (m : Moment) (live : ℕ) (a : Arrived) (c : Create) (id : Numbers) (t : Transaction) → (on_create m live a c (Some id)).transaction ≡ Some t → Linked t
unfolding on_create
created_linked m live a c id t e =
    subst (IfThere Linked) e
    (either_of (λ x. IfThere Linked x.transaction) (bytes_eq c.coordination atomic && nat_lt live MOST_ITEMS) (create_in m id a c c.current) (refuse_create a) (λ k. (in_linked m id a c c.current)) (λ k. tt))

-- a step
LinkedAfter : Outcome → Type 0
LinkedAfter o = IsLinked o.book

linked_both : (b : Book) (e : Event) (now : ℕ) (p : Plan) → IsLinked b → Shape b e now p → Both LinkedAfter p
unfolding LinkedAfter
linked_both b e now p h (nothing_moves f) = subst (Both LinkedAfter) (sym f) (plain_both LinkedAfter (still b []) h)
linked_both b e now p h (time_moves a os came why o f) = subst (Both LinkedAfter) (sym f) (plain_both LinkedAfter (still (at_time now b) os) h)
linked_both b e now p h (time_passes came f) = subst (Both LinkedAfter) (sym f) (plain_both LinkedAfter (still (at_time now b) accepted) h)
linked_both b e now p h (transaction_moves id t answer d stands how o f) =
    subst (Both LinkedAfter) (sym f)
    (decided_both (IfThere Linked) AnyRecord LinkedAfter (λ r o i. i) b (put_transaction t.id (at_time now b)) answer (with_answer (moment_of b now) t d)
    (moved_links b e now t d (all_find Linked transaction_id id b.transactions t h stands) how)
    (λ c k. all_put Linked transaction_id t.id c.item b.transactions k h) h)
linked_both b e now p h (leaf_moves id l answer d stands how o f) =
    subst (Both LinkedAfter) (sym f) (decision_both LinkedAfter (λ r o i. i) b (put_leaf l.id (at_time now b)) answer d (λ c. h) h)
linked_both b e now p h (activity_moves id a answer d stands how o f) =
    subst (Both LinkedAfter) (sym f) (decision_both LinkedAfter (λ r o i. i) b (put_activity a.id (at_time now b)) answer d (λ c. h) h)
linked_both b e now p h (transaction_registers id a r t stands came at says o f) =
    subst (Both LinkedAfter) (sym f)
    (plain_both LinkedAfter (registration_outcome b now (on_register (moment_of b now) a r t))
    (all_put Linked transaction_id (on_register (moment_of b now) a r t).transaction.id (Some (on_register (moment_of b now) a r t).transaction) b.transactions
    (register_linked (moment_of b now) a r t (all_find Linked transaction_id id b.transactions t h stands)) h))
linked_both b e now p h (transaction_made a c id t os came at says next made sent o f) =
    subst (Both LinkedAfter) (sym f)
    (plain_both LinkedAfter (still (make_transaction (at_time now b) t) os)
    (all_join Linked b.transactions (t ∷ []) h (created_linked (moment_of b now) (length b.transactions) a c id t made, tt)))
linked_both b e now p h (leaf_made a w id l os came at says next made sent o f) =
    subst (Both LinkedAfter) (sym f) (plain_both LinkedAfter (still (make_leaf (at_time now b) l) os) h)
linked_both b e now p h (activity_made id a os next made o f) =
    subst (Both LinkedAfter) (sym f) (plain_both LinkedAfter (still (make_activity (at_time now b) a) os) h)

step_linked : (b : Book) (e : Event) (now : ℕ) (landed : Bool) → IsLinked b → IsLinked (step b e now landed).book
unfolding LinkedAfter
step_linked b e now landed h = in_branch LinkedAfter (plan b e now) landed (linked_both b e now (plan b e now) h (steps_touch_one b e now))

-- recovery
voted_linked : (id : Numbers) (superior : Epr) (seats : List Seated) (committed : Bool) → Linked (recovered_voted id superior seats committed)
voted_linked id superior seats true = ((refl, refl), refl)
voted_linked id superior seats false = ((refl, refl), refl)

records_linked : (base : List ℕ) (rs : List Record) → AllByRecursion Linked (transactions_of base rs)
records_linked base [] = tt
records_linked base (records.Voted id superior seats ∷ rest) =
    (voted_linked id superior seats (list_any (is_sub_committed id) rest), records_linked base rest)
records_linked base (records.Decided id seats ∷ rest) = (tt, records_linked base rest)
records_linked base (records.Start incarnation ∷ rest) = records_linked base rest
records_linked base (records.LeafPrepared id coordinator key value ∷ rest) = records_linked base rest
records_linked base (records.LeafCommitted id ∷ rest) = records_linked base rest
records_linked base (records.LeafAborted id ∷ rest) = records_linked base rest
records_linked base (records.SubCommitted id ∷ rest) = records_linked base rest
records_linked base (records.Ended id ∷ rest) = records_linked base rest
records_linked base (records.Done id ∷ rest) = records_linked base rest

pub links_follow_phases : LinksFollowPhases
links_follow_phases = record {
  book = step_linked;
  recovered = λ base rs. all_in_order Linked transaction_id (transactions_of base (live rs)) (records_linked base (live rs));
}
