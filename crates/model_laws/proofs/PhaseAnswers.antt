-- Over steps and recovery each transaction stays behind the answers of its phase, and decides only behind all of them.
use Rattle.std.specs.Prelude.{ℕ, List, [], ◌∷◌, Option, Some, None, Bool, true, false, not, ◌&&◌, nat_lt, if◌then◌else◌, length, map, bytes_eq, ◌≡◌, refl}
use Rattle.std.specs.List.{list_any, AllByRecursion}
use Rattle.std.proofs.Common.{sym, subst, ap, ◌∙◌}
use Rattle.at_base.specs.Numbers.{Numbers}
use Rattle.at_base.specs.declared.epr.Epr.{Epr}
use Rattle.at_base.specs.declared.epr.Reply.{Reply}
use Rattle.at_base.specs.declared.epr.Reply.TheVariants as replies
use Rattle.at_base.specs.declared.notice.Kind.{Kind}
use Rattle.at_base.specs.declared.notice.Kind.TheVariants as kinds
use Rattle.at_base.specs.declared.message.Context.{Context}
use Rattle.at_base.specs.declared.message.Create.{Create}
use Rattle.at_base.specs.declared.message.Register.{Register}
use Rattle.at_base.specs.declared.record.Seated.{Seated}
use Rattle.at_base.specs.declared.record.Record.{Record}
use Rattle.at_base.specs.declared.record.Record.TheVariants as records
use Rattle.at_base.specs.declared.event.Arrived.{Arrived}
use Rattle.at_base.specs.declared.event.Event.{Event}
use Rattle.at_base.specs.declared.event.Moment.{Moment}
use Rattle.at_base.specs.declared.outs.Out.{Out}
use Rattle.at_tables.specs.declared.cells.State.TheVariants as states
use Rattle.at_base.specs.declared.limits.TheConstants.{MOST_SEATS, MOST_ITEMS}
use Rattle.at_model.specs.Posts.{accepted}
use Rattle.at_model.specs.Outcomes.{noted}
use Rattle.at_model.specs.Book.{Book, Transaction, Enlistment, Phase, is_id, find_by, put_by, transaction_id}
use Rattle.endpoints.specs.Addresses.{atomic}
use Rattle.at_model.specs.Moves.{Change, Decision}
use Rattle.at_model.specs.Seats.{answered}
use Rattle.at_model.specs.Arrivals.{with_answer}
use Rattle.at_model.specs.Register.{Registration, accepts, may_complete, may_register, accept, register_new, register_again, on_register, protocol_named, held_seat}
use Rattle.at_model.specs.Create.{create_under, create_in, on_create, refuse_create}
use Rattle.at_model.specs.Step.{Outcome, Plan, still, at_time, moment_of, put_transaction, put_leaf, put_activity, make_transaction, make_leaf, make_activity, outcome_of, registration_outcome, plan, step, transaction_at}
use Rattle.at_model.specs.Recovery.{live, is_sub_committed, transactions_of, recovered_seat, recovered_voted, recover}
use Rattle.model_laws.specs.PhaseAnswers.{StandsBehind, IsInPhase, HasDecided, HasVoted, HasCommitted, Passed, DecidesBehindEveryAnswer, IsDecided, IsCommitting}
use Rattle.model_laws.specs.Shapes.{MovesTransaction, Shape, at_seat, at_link, at_completion, when_due, nothing_moves, time_moves, time_passes, transaction_moves, leaf_moves, activity_moves, transaction_registers, transaction_made, leaf_made, activity_made}
use Rattle.model_laws.proofs.DecisionLaws.{either_of, first_true, second_true, Both, in_branch, plain_both, decision_both, IfThere, decided_says, says_entry, decided_entry, all_find, all_put, all_join, StaysOn}
use Rattle.model_laws.proofs.ItemIds.{IsOfLeaf, NamesLeaf, HasBoth, NoRecord}
use Rattle.model_laws.proofs.DrawnItems.{leaf_moved_kept, activity_moved_kept}
use Rattle.model_laws.proofs.DrawnIds.{all_in_order, no_entry}
use Rattle.at_tables.specs.declared.cells.State.{State}
use Rattle.at_tables.specs.Names.{is_state}
use Rattle.at_base.specs.Names.{is_kind}
use Rattle.model_laws.proofs.LinkDecisions.{Linked}
use Rattle.model_laws.proofs.LinkPhases.{links_follow_phases}
use Rattle.model_laws.proofs.PhaseDecisions.{is_unanswered, none_either, neither, IsTold, CommitsBehind, Left, Fine, Stands, IsBehind, IsLeft, AtDecided, AtVoted, seat_fine, link_fine, completion_fine, due_fine, with_answer_fine}
use Rattle.model_laws.proofs.OtherEnds.{IsOther, Tells, Anything, leaf_moved_other, activity_moved_other}
use Rattle.std.proofs.Common.{inl, inr}
use Rattle.at_base.specs.declared.outs.Effect.{Effect}
use Rattle.at_base.specs.declared.outs.Effect.TheVariants as effects
use Rattle.at_base.specs.declared.outs.Ending.TheVariants as endings
use Rattle.model_laws.specs.Agreement.{IsIn}
use Rattle.model_laws.proofs.StepShapes.{steps_touch_one}
use Rattle.model_laws.proofs.RecoveryLaws.{self_id, same_id}
use Rattle.model_laws.specs.Laws.{HasLeafId}

moved_fine : (b : Book) (e : Event) (now : ℕ) (t : Transaction) (d : Decision Transaction) → Linked t → StandsBehind t.phase t.seats → MovesTransaction b e now t d
    → Fine t (with_answer (moment_of b now) t d)
moved_fine b e now t d l h (at_seat a s came why is) =
    with_answer_fine t (moment_of b now) t d (subst (Fine t) (sym is) (seat_fine (moment_of b now) a t s a.message h))
moved_fine b e now t d l h (at_link a kind s came why under is) =
    with_answer_fine t (moment_of b now) t d (subst (Fine t) (sym is) (link_fine (moment_of b now) a kind t s a.message under l h))
moved_fine b e now t d l h (at_completion a c came why there is) =
    with_answer_fine t (moment_of b now) t d (subst (Fine t) (sym is) (completion_fine (moment_of b now) a t c a.message h))
moved_fine b e now t d l h (when_due came is) =
    with_answer_fine t (moment_of b now) t d (subst (Fine t) (sym is) (due_fine (moment_of b now) t _ h))

-- a registration
abbrev InPhase : Transaction → Type 0
InPhase t = StandsBehind t.phase t.seats

accepting : (phase : Phase) (seats : List Enlistment) → accepts phase ≡ true → StandsBehind phase seats
accepting Phase.Registering seats e = tt
accepting Phase.Active seats e = tt
accepting Phase.Volatile seats e = tt
accepting Phase.Durable seats e = absurd cc
accepting Phase.Voted seats e = absurd cc
accepting Phase.Committing seats e = absurd cc
accepting Phase.Aborting seats e = tt

pub then_accepts : (t : Transaction) (kind : Option Kind) → may_register t kind ≡ true → accepts t.phase ≡ true
then_accepts t kind e =
    first_true (accepts t.phase) (nat_lt (length t.seats) MOST_SEATS) (first_true (accepts t.phase && nat_lt (length t.seats) MOST_SEATS) (may_complete t kind) e)

pub then_room : (t : Transaction) (kind : Option Kind) → may_register t kind ≡ true → nat_lt (length t.seats) MOST_SEATS ≡ true
then_room t kind e =
    second_true (accepts t.phase) (nat_lt (length t.seats) MOST_SEATS) (first_true (accepts t.phase && nat_lt (length t.seats) MOST_SEATS) (may_complete t kind) e)

accept_stands : (m : Moment) (a : Arrived) (t : Transaction) (participant : Epr) (kind : Option Kind) → accepts t.phase ≡ true → InPhase t → InPhase (accept m a t participant kind).transaction
unfolding accept
accept_stands m a t participant (Some kind) e h = accepting t.phase _ e
accept_stands m a t participant None e h = h

register_new_stands : (m : Moment) (a : Arrived) (r : Register) (t : Transaction) (kind : Option (Option Kind)) → InPhase t → InPhase (register_new m a r t kind).transaction
unfolding register_new
register_new_stands m a r t None h = h
register_new_stands m a r t (Some kind) h =
    either_of (λ (x : Registration). InPhase x.transaction) (not a.postable) _ _ (λ e. h)
    (λ e. either_of (λ (x : Registration). InPhase x.transaction) (may_register t kind) _ _ (λ f. accept_stands m a t r.participant kind (then_accepts t kind f) h) (λ f. h))

register_again_stands : (m : Moment) (a : Arrived) (r : Register) (t : Transaction) (kind : Option (Option Kind)) (held : Option Epr) → InPhase t
    → InPhase (register_again m a r t kind held).transaction
unfolding register_again
register_again_stands m a r t kind (Some coordinator) h = h
register_again_stands m a r t kind None h = register_new_stands m a r t kind h

register_stands : (m : Moment) (a : Arrived) (r : Register) (t : Transaction) → InPhase t → InPhase (on_register m a r t).transaction
unfolding on_register
register_stands m a r t h = register_again_stands m a r t (protocol_named r.protocol) (held_seat m r t (protocol_named r.protocol)) h

-- a transaction that is made
under_stands : (m : Moment) (id : Numbers) (a : Arrived) (c : Create) (current : Context) (r : Reply) → IfThere InPhase (create_under m id a c current r).transaction
unfolding create_under
under_stands m id a c current (replies.At reply) = tt
under_stands m id a c current replies.Anonymous = tt
under_stands m id a c current replies.Nobody = tt

in_stands : (m : Moment) (id : Numbers) (a : Arrived) (c : Create) (current : Option Context) → IfThere InPhase (create_in m id a c current).transaction
unfolding create_in
in_stands m id a c None = tt
in_stands m id a c (Some current) = under_stands m id a c current a.reply

created_stands : (m : Moment) (live : ℕ) (a : Arrived) (c : Create) (id : Numbers) (t : Transaction) → (on_create m live a c (Some id)).transaction ≡ Some t → InPhase t
unfolding on_create
created_stands m live a c id t e =
    subst (IfThere InPhase) e
    (either_of (λ x. IfThere InPhase x.transaction) (bytes_eq c.coordination atomic && nat_lt live MOST_ITEMS) (create_in m id a c c.current) (refuse_create a) (λ k. (in_stands m id a c c.current)) (λ k. tt))

-- a step
left_stands : (old : Transaction) (t : Option Transaction) → IfThere (Stands old) t → IfThere InPhase t
left_stands old None h = tt
left_stands old (Some t) h = h.behind

KeepsPhase : Outcome → Type 0
KeepsPhase o = AllByRecursion InPhase o.book.transactions

phase_both : (b : Book) (e : Event) (now : ℕ) (p : Plan) → IsInPhase b → Shape b e now p → Both KeepsPhase p
unfolding KeepsPhase
phase_both b e now p h (nothing_moves f) = subst (Both KeepsPhase) (sym f) (plain_both KeepsPhase (still b []) h.answers)
phase_both b e now p h (time_moves a os came why o f) = subst (Both KeepsPhase) (sym f) (plain_both KeepsPhase (still (at_time now b) os) h.answers)
phase_both b e now p h (time_passes came f) = subst (Both KeepsPhase) (sym f) (plain_both KeepsPhase (still (at_time now b) accepted) h.answers)
phase_both b e now p h (transaction_moves id t answer d stands how o f) =
    subst (Both KeepsPhase) (sym f)
    (decided_says (Left t) (λ r c. IsBehind t r c.item) KeepsPhase (λ r o i. i) b (put_transaction t.id (at_time now b)) answer (with_answer (moment_of b now) t d)
    (moved_fine b e now t d (all_find Linked transaction_id id b.transactions t h.links stands) (all_find InPhase transaction_id id b.transactions t h.answers stands) how)
    (λ c k. all_put InPhase transaction_id t.id c.item b.transactions (left_stands t c.item k.item) h.answers) h.answers)
phase_both b e now p h (leaf_moves id l answer d stands how o f) =
    subst (Both KeepsPhase) (sym f) (decision_both KeepsPhase (λ r o i. i) b (put_leaf l.id (at_time now b)) answer d (λ c. h.answers) h.answers)
phase_both b e now p h (activity_moves id a answer d stands how o f) =
    subst (Both KeepsPhase) (sym f) (decision_both KeepsPhase (λ r o i. i) b (put_activity a.id (at_time now b)) answer d (λ c. h.answers) h.answers)
phase_both b e now p h (transaction_registers id a r t stands came at says o f) =
    subst (Both KeepsPhase) (sym f)
    (plain_both KeepsPhase (registration_outcome b now (on_register (moment_of b now) a r t))
    (all_put InPhase transaction_id (on_register (moment_of b now) a r t).transaction.id (Some (on_register (moment_of b now) a r t).transaction) b.transactions
    (register_stands (moment_of b now) a r t (all_find InPhase transaction_id id b.transactions t h.answers stands)) h.answers))
phase_both b e now p h (transaction_made a c id t os came at says next made sent o f) =
    subst (Both KeepsPhase) (sym f)
    (plain_both KeepsPhase (still (make_transaction (at_time now b) t) os)
    (all_join InPhase b.transactions (t ∷ []) h.answers (created_stands (moment_of b now) (length b.transactions) a c id t made, tt)))
phase_both b e now p h (leaf_made a w id l os came at says next made sent o f) =
    subst (Both KeepsPhase) (sym f) (plain_both KeepsPhase (still (make_leaf (at_time now b) l) os) h.answers)
phase_both b e now p h (activity_made id a os next made o f) =
    subst (Both KeepsPhase) (sym f) (plain_both KeepsPhase (still (make_activity (at_time now b) a) os) h.answers)

step_stands : (b : Book) (e : Event) (now : ℕ) (landed : Bool) → IsInPhase b → IsInPhase (step b e now landed).book
unfolding KeepsPhase
step_stands b e now landed h = record {
  answers = in_branch KeepsPhase (plan b e now) landed (phase_both b e now (plan b e now) h (steps_touch_one b e now));
  links = links_follow_phases.book b e now landed h.links;
}

-- recovery
recovered_answered : (kind : Kind) (state : State) (seats : List Seated) → is_state state states.Active ≡ false → is_state state states.Preparing ≡ false
    → answered kind (map (recovered_seat state) seats) ≡ true
recovered_answered kind state [] e f = refl
recovered_answered kind state (s ∷ ss) e f =
    none_either (is_unanswered kind (recovered_seat state s)) (list_any (is_unanswered kind) (map (recovered_seat state) ss))
    (neither (is_kind kinds.Durable kind) (is_state state states.Active) (is_state state states.Preparing) e f) (recovered_answered kind state ss e f)

all_answered : (state : State) (seats : List Seated) → is_state state states.Active ≡ false → is_state state states.Preparing ≡ false
    → (answered kinds.Volatile (map (recovered_seat state) seats) ≡ true) × (answered kinds.Durable (map (recovered_seat state) seats) ≡ true)
all_answered state seats e f = (recovered_answered kinds.Volatile state seats e f, recovered_answered kinds.Durable state seats e f)

voted_stands : (id : Numbers) (superior : Epr) (seats : List Seated) (committed : Bool) → InPhase (recovered_voted id superior seats committed)
voted_stands id superior seats true = all_answered states.Committing seats refl refl
voted_stands id superior seats false = all_answered states.Prepared seats refl refl

records_stand : (base : List ℕ) (rs : List Record) → AllByRecursion InPhase (transactions_of base rs)
records_stand base [] = tt
records_stand base (records.Voted id superior seats ∷ rest) =
    (voted_stands id superior seats (list_any (is_sub_committed id) rest), records_stand base rest)
records_stand base (records.Decided id seats ∷ rest) = (all_answered states.Committing seats refl refl, records_stand base rest)
records_stand base (records.Start incarnation ∷ rest) = records_stand base rest
records_stand base (records.LeafPrepared id coordinator key value ∷ rest) = records_stand base rest
records_stand base (records.LeafCommitted id ∷ rest) = records_stand base rest
records_stand base (records.LeafAborted id ∷ rest) = records_stand base rest
records_stand base (records.SubCommitted id ∷ rest) = records_stand base rest
records_stand base (records.Ended id ∷ rest) = records_stand base rest
records_stand base (records.Done id ∷ rest) = records_stand base rest

recovered_stands : (base : List ℕ) (rs : List Record) → IsInPhase (recover base rs)
recovered_stands base rs = record {
  answers = all_in_order InPhase transaction_id (transactions_of base (live rs)) (records_stand base (live rs));
  links = links_follow_phases.recovered base rs;
}

-- the transaction before and after
found_if : (b : Bool) (id i : Numbers) (t x : Transaction) (o : Option Transaction) → b ≡ is_id x.id id → (o ≡ Some t → t.id ≡ id) → (if b then Some x else o) ≡ Some t → t.id ≡ id
found_if true id i t x o is h e = let f : x ≡ t = cc in same_id t.id id (ap (λ y. is_id y.id id) (sym f) ∙ sym is)
found_if false id i t x o is h e = h e

found_id : (id : Numbers) (ts : List Transaction) (t : Transaction) → find_by transaction_id id ts ≡ Some t → t.id ≡ id
found_id id [] t e = absurd cc
found_id id (x ∷ xs) t e = found_if (is_id x.id id) id id t x (find_by transaction_id id xs) refl (found_id id xs t) e

find_if : (id : Numbers) (x new : Transaction) (xs put : List Transaction) (b : Bool) → is_id x.id id ≡ b → is_id new.id id ≡ true → (b ≡ false → find_by transaction_id id put ≡ Some new)
    → find_by transaction_id id (if b then new ∷ xs else x ∷ put) ≡ Some new
find_if id x new xs put true is e h = ap (λ b. if b then Some new else find_by transaction_id id xs) e
find_if id x new xs put false is e h = ap (λ b. if b then Some x else find_by transaction_id id put) is ∙ h refl

still_found : (b : Bool) (x t : Transaction) (o : Option Transaction) → b ≡ false → (if b then Some x else o) ≡ Some t → o ≡ Some t
still_found true x t o e h = absurd cc
still_found false x t o e h = h

found_put : (id : Numbers) (ts : List Transaction) (t new : Transaction) → is_id new.id id ≡ true → find_by transaction_id id ts ≡ Some t
    → find_by transaction_id id (put_by transaction_id id (Some new) ts) ≡ Some new
found_put id [] t new e h = absurd cc
found_put id (x ∷ xs) t new e h =
    find_if id x new xs (put_by transaction_id id (Some new) xs) (is_id x.id id) refl e
    (λ k. found_put id xs t new e (still_found (is_id x.id id) x t (find_by transaction_id id xs) k h))

passes : (P : Transaction → Transaction → Type 0) (b : Book) (now : ℕ) (id i : Numbers) (t new : Transaction) → transaction_at b id ≡ Some t → i ≡ t.id → Stands t new → P t new
    → Passed b (put_transaction t.id (at_time now b) (Some new)) i P
passes P b now id i t new found e h p =
    let own : t.id ≡ id = found_id id b.transactions t found in
    let there : transaction_at b t.id ≡ Some t = subst (λ x. transaction_at b x ≡ Some t) (sym own) found in
    let is : is_id new.id t.id ≡ true = subst (λ x. is_id x t.id ≡ true) (sym h.own) (self_id t.id) in
    subst (λ x. Passed b (put_transaction t.id (at_time now b) (Some new)) x P) (sym e)
    (record { old = t; new = new; stood = there; stands = found_put t.id b.transactions t new is there; passed = p })

abbrev IsPassed : Book → Record → Outcome → Type 0
IsPassed b (records.Decided id named) o = HasDecided b o.book id named
IsPassed b (records.Voted id superior named) o = Passed b o.book id (λ old new. HasVoted old new named)
IsPassed b other o = Unit {0}

decided_in : (b : Book) (now : ℕ) (named : List Seated) (at : List Enlistment) (t : Transaction) (new : Option Transaction) → transaction_at b t.id ≡ Some t → IfThere (Stands t) new
    → IsLeft named at new → IsDecided named at t.id b (put_transaction t.id (at_time now b) new)
decided_in b now [] at t None there h l = refl
decided_in b now [] at t (Some x) there h l = absurd l
decided_in b now (s ∷ named) at t None there h l = absurd l
decided_in b now (s ∷ named) at t (Some x) there h l =
    subst (IsCommitting at) (sym (found_put t.id b.transactions t x (subst (λ i. is_id i t.id ≡ true) (sym h.own) (self_id t.id)) there)) l

decided_passes : (b : Book) (now : ℕ) (id i : Numbers) (named : List Seated) (t : Transaction) (new : Option Transaction) → transaction_at b id ≡ Some t → i ≡ t.id
    → IfThere (Stands t) new → AtDecided t named new → HasDecided b (put_transaction t.id (at_time now b) new) i named
decided_passes b now id i named t new found e h p =
    let own : t.id ≡ id = found_id id b.transactions t found in
    let there : transaction_at b t.id ≡ Some t = subst (λ x. transaction_at b x ≡ Some t) (sym own) found in
    subst (λ x. HasDecided b (put_transaction t.id (at_time now b) new) x named) (sym e)
    (record { old = t; stood = there; at = p.at; behind = p.behind; decided = decided_in b now named p.at t new there h p.decided })

voted_passes : (b : Book) (now : ℕ) (id i : Numbers) (named : List Seated) (t : Transaction) (new : Option Transaction) → transaction_at b id ≡ Some t → i ≡ t.id
    → IfThere (Stands t) new → AtVoted t named new → Passed b (put_transaction t.id (at_time now b) new) i (λ old new. HasVoted old new named)
voted_passes b now id i named t None found e h p = absurd p
voted_passes b now id i named t (Some new) found e h p = passes (λ old new. HasVoted old new named) b now id i t new found e h p

entry_passes : (b : Book) (now : ℕ) (id : Numbers) (t : Transaction) (answer : List Out) → transaction_at b id ≡ Some t → (r : Record) (c : Change Transaction)
    → IfThere (Stands t) c.item → IsBehind t r c.item → IsPassed b r (outcome_of (put_transaction t.id (at_time now b)) answer c)
entry_passes b now id t answer found (records.Decided i named) c h (e, p) = decided_passes b now id i named t c.item found e h p
entry_passes b now id t answer found (records.Voted i superior named) c h (e, p) = voted_passes b now id i named t c.item found e h p
entry_passes b now id t answer found other c h p = tt

leaf_passes : (b : Book) (id : Numbers) (r : Record) (o : Outcome) → IsOfLeaf id r → IsPassed b r o
leaf_passes b id (records.Decided i named) o h = absurd h
leaf_passes b id (records.Voted i superior named) o h = absurd h
leaf_passes b id other o h = tt

-- a kept outcome changes no transaction
passed_on : (b : Book) (s : Record) → StaysOn (IsPassed b s)
passed_on b (records.Decided id named) r o h = record {
  old = h.old;
  stood = h.stood;
  at = h.at;
  behind = h.behind;
  decided = decided_on named h.decided;
}
  where
    decided_on : (named : List Seated) → IsDecided named h.at id b o.book → IsDecided named h.at id b (noted r o.book)
    decided_on [] d = d
    decided_on (s ∷ rest) d = d
passed_on b (records.Voted id superior named) r o h = record { old = h.old; new = h.new; stood = h.stood; stands = h.stands; passed = h.passed }
passed_on b (records.Start i) r o h = tt
passed_on b (records.LeafPrepared i c k v) r o h = tt
passed_on b (records.LeafCommitted i) r o h = tt
passed_on b (records.LeafAborted i) r o h = tt
passed_on b (records.SubCommitted i) r o h = tt
passed_on b (records.Ended i) r o h = tt
passed_on b (records.Done i) r o h = tt

shape_passes : (b : Book) (e : Event) (now : ℕ) (p : Plan) (r : Record) → IsInPhase b → Shape b e now p → p.entry ≡ Some r → IsPassed b r p.landed
shape_passes b e now p r h (nothing_moves f) k = absurd (no_entry p _ r f k)
shape_passes b e now p r h (time_moves a os came why o f) k = absurd (no_entry p _ r f k)
shape_passes b e now p r h (time_passes came f) k = absurd (no_entry p _ r f k)
shape_passes b e now p r h (transaction_moves id t answer d stands how o f) k =
    subst (λ x. IsPassed b r x.landed) (sym f)
    (says_entry (Left t) (λ s c. IsBehind t s c.item) (IsPassed b) (passed_on b) b (put_transaction t.id (at_time now b)) answer (with_answer (moment_of b now) t d) r
    (moved_fine b e now t d (all_find Linked transaction_id id b.transactions t h.links stands) (all_find InPhase transaction_id id b.transactions t h.answers stands) how)
    (λ s c i j. entry_passes b now id t answer stands s c i.item j) (sym (ap (λ x. x.entry) f) ∙ k))
shape_passes b e now p r h (leaf_moves id l answer d stands how o f) k =
    subst (λ x. IsPassed b r x.landed) (sym f)
    (decided_entry (HasLeafId l.id) (NamesLeaf l.id) (IsPassed b) (passed_on b) b (put_leaf l.id (at_time now b)) answer d r (leaf_moved_kept b e now l d how)
    (λ s c i j. leaf_passes b l.id s (outcome_of (put_leaf l.id (at_time now b)) answer c) j) (sym (ap (λ x. x.entry) f) ∙ k))
shape_passes b e now p r h (activity_moves id a answer d stands how o f) k =
    subst (λ x. IsPassed b r x.landed) (sym f)
    (decided_entry (HasBoth a) NoRecord (IsPassed b) (passed_on b) b (put_activity a.id (at_time now b)) answer d r (activity_moved_kept b e now a d how)
    (λ s c i j. absurd j) (sym (ap (λ x. x.entry) f) ∙ k))
shape_passes b e now p r h (transaction_registers id a c t stands came at says o f) k = absurd (no_entry p _ r f k)
shape_passes b e now p r h (transaction_made a c id t os came at says next made sent o f) k = absurd (no_entry p _ r f k)
shape_passes b e now p r h (leaf_made a w id l os came at says next made sent o f) k = absurd (no_entry p _ r f k)
shape_passes b e now p r h (activity_made id a os next made o f) k = absurd (no_entry p _ r f k)

-- what a step tells
TellsBehind : Book → Outcome → Type 0
TellsBehind b o = (id : Numbers) → IsIn (effects.Root id endings.Committed) o.effects → HasCommitted b id

nothing_told : (b : Book) (o : Outcome) → o.effects ≡ [] → TellsBehind b o
unfolding TellsBehind
nothing_told b o e id i = absurd (subst (IsIn (effects.Root id endings.Committed)) e i)

committed_of : (b : Book) (named id : Numbers) (t : Transaction) → transaction_at b named ≡ Some t → CommitsBehind t id → HasCommitted b id
committed_of b named id t found h =
    let own : t.id ≡ named = found_id named b.transactions t found in
    record { old = t; stood = subst (λ x. transaction_at b x ≡ Some t) (sym (h.own ∙ own)) found; at = h.at; behind = h.behind }

told_behind : (b : Book) (named : Numbers) (t : Transaction) (es : List Effect) → transaction_at b named ≡ Some t → AllByRecursion (IsTold t) es → (id : Numbers)
    → IsIn (effects.Root id endings.Committed) es → HasCommitted b id
told_behind b named t [] found h id i = absurd i
told_behind b named t (x ∷ xs) found (h, k) id (inl e) = committed_of b named id t found (subst (IsTold t) (sym e) h)
told_behind b named t (x ∷ xs) found (h, k) id (inr i) = told_behind b named t xs found k id i

other_behind : (b : Book) (es : List Effect) → AllByRecursion IsOther es → (id : Numbers) → IsIn (effects.Root id endings.Committed) es → HasCommitted b id
other_behind b [] h id i = absurd i
other_behind b (x ∷ xs) (h, k) id (inl e) = absurd (subst IsOther (sym e) h)
other_behind b (x ∷ xs) (h, k) id (inr i) = other_behind b xs k id i

tells_both : (b : Book) (e : Event) (now : ℕ) (p : Plan) → IsInPhase b → Shape b e now p → Both (TellsBehind b) p
unfolding TellsBehind
tells_both b e now p h (nothing_moves f) = subst (Both (TellsBehind b)) (sym f) (plain_both (TellsBehind b) (still b []) (nothing_told b (still b []) refl))
tells_both b e now p h (time_moves a os came why o f) =
    subst (Both (TellsBehind b)) (sym f) (plain_both (TellsBehind b) (still (at_time now b) os) (nothing_told b (still (at_time now b) os) refl))
tells_both b e now p h (time_passes came f) =
    subst (Both (TellsBehind b)) (sym f) (plain_both (TellsBehind b) (still (at_time now b) accepted) (nothing_told b (still (at_time now b) accepted) refl))
tells_both b e now p h (transaction_moves id t answer d stands how o f) =
    subst (Both (TellsBehind b)) (sym f)
    (decided_says (Left t) (λ r c. IsBehind t r c.item) (TellsBehind b) (λ r o i. i) b (put_transaction t.id (at_time now b)) answer (with_answer (moment_of b now) t d)
    (moved_fine b e now t d (all_find Linked transaction_id id b.transactions t h.links stands) (all_find InPhase transaction_id id b.transactions t h.answers stands) how)
    (λ c k. told_behind b id t c.effects stands k.told) (nothing_told b (still b answer) refl))
tells_both b e now p h (leaf_moves id l answer d stands how o f) =
    subst (Both (TellsBehind b)) (sym f)
    (decided_says Tells Anything (TellsBehind b) (λ r o i. i) b (put_leaf l.id (at_time now b)) answer d (leaf_moved_other b e now l d how)
    (λ c k. other_behind b c.effects k) (nothing_told b (still b answer) refl))
tells_both b e now p h (activity_moves id a answer d stands how o f) =
    subst (Both (TellsBehind b)) (sym f)
    (decided_says Tells Anything (TellsBehind b) (λ r o i. i) b (put_activity a.id (at_time now b)) answer d (activity_moved_other b e now a d how)
    (λ c k. other_behind b c.effects k) (nothing_told b (still b answer) refl))
tells_both b e now p h (transaction_registers id a r t stands came at says o f) =
    subst (Both (TellsBehind b)) (sym f)
    (plain_both (TellsBehind b) (registration_outcome b now (on_register (moment_of b now) a r t)) (nothing_told b (registration_outcome b now (on_register (moment_of b now) a r t)) refl))
tells_both b e now p h (transaction_made a c id t os came at says next made sent o f) =
    subst (Both (TellsBehind b)) (sym f)
    (plain_both (TellsBehind b) (still (make_transaction (at_time now b) t) os) (nothing_told b (still (make_transaction (at_time now b) t) os) refl))
tells_both b e now p h (leaf_made a w id l os came at says next made sent o f) =
    subst (Both (TellsBehind b)) (sym f) (plain_both (TellsBehind b) (still (make_leaf (at_time now b) l) os) (nothing_told b (still (make_leaf (at_time now b) l) os) refl))
tells_both b e now p h (activity_made id a os next made o f) =
    subst (Both (TellsBehind b)) (sym f)
    (plain_both (TellsBehind b) (still (make_activity (at_time now b) a) os) (nothing_told b (still (make_activity (at_time now b) a) os) refl))

committed_behind : (b : Book) (e : Event) (now : ℕ) (landed : Bool) (id : Numbers) → IsInPhase b → IsIn (effects.Root id endings.Committed) (step b e now landed).effects → HasCommitted b id
unfolding TellsBehind
committed_behind b e now landed id h i = in_branch (TellsBehind b) (plan b e now) landed (tells_both b e now (plan b e now) h (steps_touch_one b e now)) id i

pub decides_behind_every_answer : DecidesBehindEveryAnswer
decides_behind_every_answer = record {
  book = step_stands;
  recovered = recovered_stands;
  decided = λ b e now id named h k. shape_passes b e now (plan b e now) (records.Decided id named) h (steps_touch_one b e now) k;
  voted = λ b e now id superior named h k. shape_passes b e now (plan b e now) (records.Voted id superior named) h (steps_touch_one b e now) k;
  committed = committed_behind;
}
