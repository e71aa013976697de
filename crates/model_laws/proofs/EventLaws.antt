-- What a step makes of an arrival, of a request and of a due item.
use Rattle.std.specs.Prelude.{ℕ, List, [], ◌∷◌, ◌++◌, Option, Some, None, Bool, true, false, not, nat_lt, ◌&&◌, ◌+◌, if◌then◌else◌, bytes_eq, is_none, length, map, option_map, drop, ◌≡◌, ◌≤◌, ◌<◌, refl}
use Rattle.std.specs.List.{AllByRecursion}
use Rattle.std.proofs.Common.{inl, inr, sym, subst, ap, arith, ◌∙◌}
use Rattle.std.proofs.lemmas.Bool.{ltb-true}
use Rattle.std.proofs.Math.Seq.{take-append_seam}
use Rattle.at_base.specs.declared.fault.Fault.{Fault}
use Rattle.at_base.specs.declared.fault.Fault.TheVariants.{CannotCreateContext, CannotRegisterParticipant, InvalidParameters, InvalidProtocol, InvalidState, UnknownTransaction}
use Rattle.at_base.specs.Numbers.{Numbers}
use Rattle.at_base.specs.declared.epr.Epr.{Epr}
use Rattle.at_base.specs.declared.epr.Reply.{Reply}
use Rattle.at_base.specs.declared.epr.Reply.TheVariants as replies
use Rattle.at_base.specs.declared.notice.Kind.{Kind}
use Rattle.at_base.specs.declared.notice.Kind.TheVariants as kinds
use Rattle.at_base.specs.declared.notice.Notice.{Notice}
use Rattle.at_base.specs.declared.notice.Notice.TheVariants as notices
use Rattle.at_base.specs.declared.message.Message.{Message}
use Rattle.at_base.specs.declared.message.Message.TheVariants as messages
use Rattle.at_base.specs.declared.message.Context.{Context}
use Rattle.at_base.specs.declared.message.Create.{Create}
use Rattle.at_base.specs.declared.message.Register.{Register}
use Rattle.at_base.specs.declared.message.Work.{Work}
use Rattle.at_base.specs.declared.target.Target.{Target}
use Rattle.at_base.specs.declared.target.Target.TheVariants as targets
use Rattle.at_base.specs.declared.event.Arrived.{Arrived}
use Rattle.at_base.specs.declared.event.Moment.{Moment}
use Rattle.at_base.specs.declared.event.Local.{Local}
use Rattle.at_base.specs.declared.event.Local.TheVariants as locals
use Rattle.at_base.specs.declared.event.Item.{Item}
use Rattle.at_base.specs.declared.event.Item.TheVariants as items
use Rattle.at_base.specs.declared.event.Event.{Event}
use Rattle.at_base.specs.declared.event.Event.TheVariants as events
use Rattle.at_base.specs.declared.outs.Out.{Out}
use Rattle.at_base.specs.declared.outs.Out.TheVariants as outs
use Rattle.at_tables.specs.declared.cells.State.TheVariants as states
use Rattle.at_tables.specs.declared.cells.Act.{Act}
use Rattle.at_tables.specs.declared.cells.Act.TheVariants as acts
use Rattle.at_tables.specs.declared.cells.Cell.{Cell}
use Rattle.at_base.specs.Names.{is_kind}
use Rattle.at_tables.specs.Tables.{coordinator_of, participant_of, completion_of, initiator_of}
use Rattle.at_base.specs.declared.limits.TheConstants.{MOST_SEATS, MOST_ITEMS}
use Rattle.at_base.specs.declared.outs.Post.{Post}
use Rattle.at_model.specs.Book.{Book, Transaction, Leaf, Activity, Enlistment, Completion, Superior, is_id, find_by, put_by, transaction_id, leaf_id, next_id, last_counter}
use Rattle.endpoints.specs.Addresses.{endpoint_of, atomic}
use Rattle.at_model.specs.Posts.{accepted, replied, stranger_post, fault_post, notice_post}
use Rattle.at_model.specs.Moves.{Change, Decision, Goes}
use Rattle.at_model.specs.Arrivals.{on_link, on_seat, on_completion, request_of, with_answer, context_of}
use Rattle.at_model.specs.Register.{accepts, protocol_named, Registration, seat_endpoint, completion_endpoint, may_register, is_late, new_seat, late_prepare, accept, refuse_register, register_new, register_again, held_seat, on_register, register_unknown}
use Rattle.at_model.specs.Create.{new_root, Creation, refuse_create, create_under, create_in, on_create}
use Rattle.at_model.specs.Leaves.{leaf_target, on_leaf, Employment, refuse_work, work_for, on_work}
use Rattle.at_model.specs.Activities.{on_activity, Refusal, Beginning, on_begin, on_interpose, on_ask, on_complete}
use Rattle.at_model.specs.Due.{transaction_due, transaction_reached, leaf_due, leaf_reached, activity_due, activity_reached}
use Rattle.at_model.specs.Step.{plain, still, at_time, moment_of, make_transaction, make_leaf, make_activity, leaf_plan, stranger_act, stranger_cell, nothing, stranger_plan, created_plan, activation_plan, registration_plan, registration_outcome, completion_seat_plan, completion_plan, find_seat, seat_plan, coordinator_plan, leaf_or_stranger_plan, link_plan, participant_plan, initiator_plan, employed_plan, work_plan, transaction_at, leaf_at, activity_at, arrived_plan, refuses, begun_plan, begin_plan, interpose_plan, asking_plan, request_plan, local_plan, transaction_due_plan, leaf_due_plan, activity_due_plan, due_plan, plan, step, outcome_act, outcome_cell, outcome_plan, seatless_plan, has_committed}
use Rattle.at_model.specs.World.{Node, Accepted, who_of, accepted_seat, accepted_completion, accepted_by}
use Rattle.model_laws.specs.PhaseAnswers.{accepted_as}
use Rattle.model_laws.specs.DrawnIds.{AreDrawn}
use Rattle.model_laws.specs.Laws.{IsDrawn, HasId, HasLeafId, KeepsPlace}
use Rattle.model_laws.specs.Order.{IsInOrder}
use Rattle.model_laws.specs.Shapes.{IsAnswer}
use Rattle.model_laws.proofs.DecisionLaws.{found_id, Both, plain_both, DecisionSays, all_find, all_put, all_join, all_more, all_both, in_branch}
use Rattle.model_laws.proofs.ItemIds.{HasBoth, Names, NamesLeaf, NoRecord, Kept, LeafKept, ActivityKept, with_answer_kept, seat_kept, link_kept, completion_kept, due_kept, register_kept, leaf_kept, leaf_due_kept, activity_kept, activity_due_kept, asks_kept, completes_kept}
use Rattle.model_laws.proofs.NextIds.{makes_under_the_next_id, next_numbers}
use Rattle.at_base.specs.IdText.{IsId}
use Rattle.model_laws.proofs.StepRegistrations.{HasInitiator, Grown, grown_like, none_grown, by_request, transaction_standing, by_work, leaf_standing, Meets, choose, Says, Registers, OutSays, AreOuts, AcceptedBy, Gives, NoRegister, still_gives, time_gives, transaction_gives, leaf_gives, activity_gives, ids_alone, replied_says, faulted_says, outs_more, posts_say, accepted_all, nothing_new, no_completion, dropped, unchanged, none_accepted, others_choose, choose_this, choose_other, choose_keeps, choose_never, choose_small, choose_at, by_request_never, by_work_never, meets_at}
use Rattle.model_laws.proofs.DrawnIds.{made_drawn, drawn_on}
use Rattle.model_laws.proofs.Order.{ids_rise}
use Rattle.model_laws.proofs.StepShapes.{steps_keep_place}
use Rattle.model_laws.proofs.MovePosts.{initiator_endpoint, to_each_fine, IsLike, AreFine, IsOwn, seat_like, link_like, completion_like, due_like, IsOwnLeaf, leaf_like, leaf_due_like, Standing, Never, At, activity_standing, AreActivityLike, activity_like, activity_due_like, asks_like, completes_like}
use Rattle.model_laws.proofs.RecoveryLaws.{same_id}

-- the next id
next_small : (b : Book) (id : Numbers) → 1 ≤ b.incarnation → b.incarnation ≤ last_counter → next_id b ≡ Some id → IsId id
next_small b id l h e =
    let (i, c) = next_numbers b id e in
    record {
      incarnation_least = omega (arith, i, l);
      incarnation_most = omega (arith, i, h);
      counter_least = omega (arith, c);
      counter_most = omega (arith, c, by_test (nat_lt b.counter last_counter) refl e);
    }
  where
    by_test : (t : Bool) → nat_lt b.counter last_counter ≡ t → (if t then Some (record { incarnation = b.incarnation; counter = b.counter + 1 }) else None) ≡ Some id
        → b.counter < last_counter
    by_test true f e = ltb-true b.counter last_counter f
    by_test false f e = absurd cc

next_never : (base : List ℕ) (s : Numbers → Standing) (b : Book) (id : Numbers) → Says base s b → next_id b ≡ Some id → s id ≡ Never
next_never base s b id h e = h.undrawn id (makes_under_the_next_id.next b id e)

not_next : (b : Book) (id i : Numbers) → next_id b ≡ Some id → IsDrawn b i → i ≡ id → ⊥
not_next b id i e h f = makes_under_the_next_id.next b id e (subst (IsDrawn b) f h)

activities_choose : (s : Numbers → Standing) (b : Book) (id : Numbers) (S : Standing) → IsInOrder b → next_id b ≡ Some id → s id ≡ Never
    → AllByRecursion (λ a. Meets (s a.id) (activity_standing a) × IsId a.id) b.activities
    → AllByRecursion (λ a. Meets (choose s id S a.id) (activity_standing a) × IsId a.id) b.activities
activities_choose s b id S o e n h =
    all_both (AreDrawn b) (λ a. Meets (s a.id) (activity_standing a) × IsId a.id) (λ a. Meets (choose s id S a.id) (activity_standing a) × IsId a.id) b.activities
    (λ a d m. (choose_other s id a.id S (activity_standing a) n (λ never same. not_next b id a.id e d.own same) m.0, m.1)) o.drawn.activities h

none_found : {A : Type 0} (key : A → Numbers) (id : Numbers) (xs : List A) → AllByRecursion (λ x. key x ≡ id → ⊥) xs → find_by key id xs ≡ None
none_found key id [] h = refl
none_found key id (x ∷ xs) (h, k) = by_id (none_found key id xs k) (is_id (key x) id) refl
  where
    by_id : find_by key id xs ≡ None → (b : Bool) → is_id (key x) id ≡ b → (if b then Some x else find_by key id xs) ≡ None
    by_id more true e = absurd (h (same_id (key x) id e))
    by_id more false e = more

-- a transaction is made
abbrev OwnsNew : List ℕ → Transaction → Epr → Option Epr → Type 0
OwnsNew base t participant to =
    (kind : Kind) × (participant ≡ endpoint_of base (targets.Participant t.id kind)) × ((endpoint : Epr) × (transaction_standing t ≡ At endpoint) × (to ≡ Some endpoint))

made_gives : (base : List ℕ) (e : Event) (s : Numbers → Standing) (b : Book) (now : ℕ) (id : Numbers) (t : Transaction) (os : List Out) → Says base s b → next_id b ≡ Some id
    → t.id ≡ id → Grown None t → AreOuts (OwnsNew b.base t) os → Gives base e s b (still (make_transaction (at_time now b) t) os)
made_gives base e s b now id t os h next same empty k =
    let n : s id ≡ Never = next_never base s b id h next in
    let S : Standing = transaction_standing t in
    let c : Book = make_transaction (at_time now b) t in
    record {
      after = choose s id S;
      keeps = choose_keeps s id S n;
      fits = record {
        transactions = all_join (λ y. Meets (choose s id S y.id) (transaction_standing y)) b.transactions (t ∷ [])
            (others_choose s id S transaction_id transaction_standing b.transactions n (λ y. by_request_never (request_of y.superior)) h.fits.transactions)
            (subst (λ i. Meets (choose s id S i) S) (sym same) (choose_this s id S n), tt);
        leaves = others_choose s id S leaf_id leaf_standing b.leaves n (λ y. by_work_never y.request) h.fits.leaves;
        activities = activities_choose s b id S h.order next n h.fits.activities;
      };
      undrawn = λ i f g. choose_never s id i S (λ j. g (made_drawn b c refl refl id i next j)) f;
      small = choose_small s id S (next_small b id h.least h.most next) h.small;
      outs = outs_more (OwnsNew b.base t) (Registers base (choose s id S)) (λ participant to f. registers n participant to f) os k;
      accepted = λ m nodes.
          accepted_all (AcceptedBy e m nodes) m nodes b (b.transactions ++ t ∷ [])
          (all_join (λ y. AllByRecursion (AcceptedBy e m nodes) (accepted_by m nodes (transaction_at b y.id) y)) b.transactions (t ∷ [])
          (unchanged (AcceptedBy e m nodes) m nodes b h.order)
          (subst (λ o. AllByRecursion (AcceptedBy e m nodes) (accepted_by m nodes o t)) (sym (not_there h)) tt, tt));
      grown = all_join (λ y. Grown (transaction_at b y.id) y) b.transactions (t ∷ []) (none_grown b h.order) (subst (λ o. Grown o t) (sym (not_there h)) empty, tt);
    }
  where
    registers : s id ≡ Never → (participant : Epr) (to : Option Epr) → OwnsNew b.base t participant to → Registers base (choose s id (transaction_standing t)) participant to
    registers n participant to (kind, is, (endpoint, stands, goes)) = record {
      id = t.id;
      own = targets.Participant t.id kind;
      endpoint = endpoint;
      named = refl;
      is = is ∙ ap (λ y. endpoint_of y (targets.Participant t.id kind)) h.base_is;
      goes = goes;
      stands = ap (choose s id (transaction_standing t)) same ∙ choose_at s id (transaction_standing t) endpoint n stands;
    }

    not_there : Says base s b → transaction_at b t.id ≡ None
    not_there h =
        ap (transaction_at b) same
        ∙ none_found transaction_id id b.transactions (all_more (λ y. IsDrawn b y.id) (λ y. y.id ≡ id → ⊥) b.transactions (λ y d. not_next b id y.id next d) h.order.drawn.transactions)

-- a leaf is made
abbrev OwnsNewLeaf : List ℕ → Leaf → Epr → Option Epr → Type 0
OwnsNewLeaf base l participant to =
    (participant ≡ endpoint_of base (leaf_target l)) × ((endpoint : Epr) × (leaf_standing l ≡ At endpoint) × (to ≡ Some endpoint))

leaf_made_gives : (base : List ℕ) (e : Event) (s : Numbers → Standing) (b : Book) (now : ℕ) (id : Numbers) (l : Leaf) (os : List Out) → Says base s b → next_id b ≡ Some id
    → l.id ≡ id → AreOuts (OwnsNewLeaf b.base l) os → Gives base e s b (still (make_leaf (at_time now b) l) os)
leaf_made_gives base e s b now id l os h next same k =
    let n : s id ≡ Never = next_never base s b id h next in
    let S : Standing = leaf_standing l in
    let c : Book = make_leaf (at_time now b) l in
    record {
      after = choose s id S;
      keeps = choose_keeps s id S n;
      fits = record {
        transactions = others_choose s id S transaction_id transaction_standing b.transactions n (λ y. by_request_never (request_of y.superior)) h.fits.transactions;
        leaves = all_join (λ y. Meets (choose s id S y.id) (leaf_standing y)) b.leaves (l ∷ [])
            (others_choose s id S leaf_id leaf_standing b.leaves n (λ y. by_work_never y.request) h.fits.leaves)
            (subst (λ i. Meets (choose s id S i) S) (sym same) (choose_this s id S n), tt);
        activities = activities_choose s b id S h.order next n h.fits.activities;
      };
      undrawn = λ i f g. choose_never s id i S (λ j. g (made_drawn b c refl refl id i next j)) f;
      small = choose_small s id S (next_small b id h.least h.most next) h.small;
      outs = outs_more (OwnsNewLeaf b.base l) (Registers base (choose s id S)) (λ participant to f. registers n participant to f) os k;
      accepted = λ m nodes. none_accepted e m nodes b h.order;
      grown = none_grown b h.order;
    }
  where
    registers : s id ≡ Never → (participant : Epr) (to : Option Epr) → OwnsNewLeaf b.base l participant to → Registers base (choose s id (leaf_standing l)) participant to
    registers n participant to (is, (endpoint, stands, goes)) = record {
      id = l.id;
      own = leaf_target l;
      endpoint = endpoint;
      named = refl;
      is = is ∙ ap (λ y. endpoint_of y (leaf_target l)) h.base_is;
      goes = goes;
      stands = ap (choose s id (leaf_standing l)) same ∙ choose_at s id (leaf_standing l) endpoint n stands;
    }

-- an activity is made
activity_made_gives : (base : List ℕ) (e : Event) (s : Numbers → Standing) (b : Book) (now : ℕ) (id : Numbers) (a : Activity) (os : List Out) → Says base s b → next_id b ≡ Some id
    → a.id ≡ id → activity_standing a ≡ Never → AreOuts NoRegister os → Gives base e s b (still (make_activity (at_time now b) a) os)
activity_made_gives base e s b now id a os h next same never k = record {
  after = s;
  keeps = λ i p j. j;
  fits = record {
    transactions = h.fits.transactions;
    leaves = h.fits.leaves;
    activities = all_join (λ y. Meets (s y.id) (activity_standing y) × IsId y.id) b.activities (a ∷ []) h.fits.activities
        ((subst (Meets (s a.id)) (sym never) (ap s same ∙ next_never base s b id h next), subst IsId (sym same) (next_small b id h.least h.most next)), tt);
  };
  undrawn = λ i j g. j;
  small = h.small;
  outs = outs_more NoRegister (Registers base s) (λ participant to f. absurd f) os k;
  accepted = λ m nodes. none_accepted e m nodes b h.order;
  grown = none_grown b h.order;
}

-- what a Create gives
abbrev CreationOf : List ℕ → Numbers → Option Transaction → List Out → Type 0
CreationOf base id None os = AreOuts NoRegister os
CreationOf base id (Some t) os = (t.id ≡ id) × Grown None t × AreOuts (OwnsNew base t) os

abbrev CreationSays : List ℕ → Numbers → Creation → Type 0
CreationSays base id c = CreationOf base id c.transaction c.outs

refused_says : (base : List ℕ) (id : Numbers) (a : Arrived) → CreationSays base id (refuse_create a)
refused_says base id a = faulted_says NoRegister a.fault a.id CannotCreateContext

under_says : (m : Moment) (id : Numbers) (a : Arrived) (c : Create) (current : Context) (r : Reply) → CreationSays m.base id (create_under m id a c current r)
unfolding create_under
under_says m id a c current (replies.At reply) =
    (refl, (refl, refl), (tt, ((kinds.Volatile, refl, (current.registration, refl, refl)), ((kinds.Durable, refl, (current.registration, refl, refl)), tt))))
under_says m id a c current replies.Anonymous = refused_says m.base id a
under_says m id a c current replies.Nobody = refused_says m.base id a

in_says : (m : Moment) (id : Numbers) (a : Arrived) (c : Create) (current : Option Context) → CreationSays m.base id (create_in m id a c current)
unfolding create_in
in_says m id a c None =
    (refl, (refl, refl), replied_says (OwnsNew m.base (new_root m id c)) a.reply a.id (messages.CreateResponse (context_of m.base (new_root m id c) c.expires)) tt (λ to. tt))
in_says m id a c (Some current) = under_says m id a c current a.reply

create_says : (m : Moment) (live : ℕ) (a : Arrived) (c : Create) (id : Numbers) → CreationSays m.base id (on_create m live a c (Some id))
unfolding on_create
create_says m live a c id = by_test (bytes_eq c.coordination atomic && nat_lt live MOST_ITEMS)
  where
    by_test : (b : Bool) → CreationSays m.base id (if b then create_in m id a c c.current else refuse_create a)
    by_test true = in_says m id a c c.current
    by_test false = refused_says m.base id a

created_gives : (base : List ℕ) (e : Event) (s : Numbers → Standing) (b : Book) (now : ℕ) (id : Numbers) (t : Option Transaction) (os : List Out) → Says base s b → next_id b ≡ Some id
    → CreationOf b.base id t os → Both (Gives base e s b) (created_plan b now t os)
created_gives base e s b now id None os h next k = plain_both (Gives base e s b) (still (at_time now b) os) (time_gives base e s b now os h k)
created_gives base e s b now id (Some t) os h next (same, empty, k) =
    plain_both (Gives base e s b) (still (make_transaction (at_time now b) t) os) (made_gives base e s b now id t os h next same empty k)

nothing_gives : (base : List ℕ) (e : Event) (s : Numbers → Standing) (b : Book) (now : ℕ) → Says base s b → Both (Gives base e s b) (nothing b now)
nothing_gives base e s b now h = plain_both (Gives base e s b) (still (at_time now b) accepted) (time_gives base e s b now accepted h (tt, tt))

creation_refused : (m : Moment) (live : ℕ) (a : Arrived) (c : Create) → (on_create m live a c None ≡ refuse_create a)
unfolding on_create
creation_refused m live a c = refl

activation_gives : (base : List ℕ) (e : Event) (s : Numbers → Standing) (b : Book) (now : ℕ) (a : Arrived) (x : Message) → Says base s b
    → Both (Gives base e s b) (activation_plan b now a x)
unfolding activation_plan
activation_gives base e s b now a (messages.Create c) h = by_next (next_id b) refl
  where
    by_next : (o : Option Numbers) → next_id b ≡ o
        → Both (Gives base e s b) (created_plan b now (on_create (moment_of b now) (length b.transactions) a c o).transaction (on_create (moment_of b now) (length b.transactions) a c o).outs)
    by_next None f =
        subst (λ (x : Creation). Both (Gives base e s b) (created_plan b now x.transaction x.outs)) (sym (creation_refused (moment_of b now) (length b.transactions) a c))
        (plain_both (Gives base e s b) (still (at_time now b) (refuse_create a).outs)
        (time_gives base e s b now (refuse_create a).outs h (faulted_says NoRegister a.fault a.id CannotCreateContext)))
    by_next (Some id) f =
        created_gives base e s b now id _ _ h f (create_says (moment_of b now) (length b.transactions) a c id)
activation_gives base e s b now a other h = nothing_gives base e s b now h

-- what a Work gives
abbrev WorkOf : List ℕ → Numbers → Option Leaf → List Out → Type 0
WorkOf base id None os = AreOuts NoRegister os
WorkOf base id (Some l) os = (l.id ≡ id) × AreOuts (OwnsNewLeaf base l) os

abbrev WorkSays : List ℕ → Numbers → Employment → Type 0
WorkSays base id x = WorkOf base id x.leaf x.outs

work_refused : (base : List ℕ) (id : Numbers) (a : Arrived) → WorkSays base id (refuse_work a)
work_refused base id a = replied_says NoRegister a.reply a.id messages.WorkRefused tt (λ to. tt)

work_for_says : (m : Moment) (id : Numbers) (a : Arrived) (w : Work) (r : Reply) → WorkSays m.base id (work_for m id a w r)
work_for_says m id a w (replies.At reply) = (refl, (tt, ((refl, (w.context.registration, refl, refl)), tt)))
work_for_says m id a w replies.Anonymous = work_refused m.base id a
work_for_says m id a w replies.Nobody = work_refused m.base id a

work_says : (m : Moment) (live : ℕ) (a : Arrived) (w : Work) (id : Numbers) → WorkSays m.base id (on_work m live a w (Some id))
unfolding on_work
work_says m live a w id = by_test (nat_lt live MOST_ITEMS)
  where
    by_test : (b : Bool) → WorkSays m.base id (if b then work_for m id a w a.reply else refuse_work a)
    by_test true = work_for_says m id a w a.reply
    by_test false = work_refused m.base id a

employed_gives : (base : List ℕ) (e : Event) (s : Numbers → Standing) (b : Book) (now : ℕ) (id : Numbers) (l : Option Leaf) (os : List Out) → Says base s b → next_id b ≡ Some id
    → WorkOf b.base id l os → Both (Gives base e s b) (employed_plan b now l os)
employed_gives base e s b now id None os h next k = plain_both (Gives base e s b) (still (at_time now b) os) (time_gives base e s b now os h k)
employed_gives base e s b now id (Some l) os h next (same, k) =
    plain_both (Gives base e s b) (still (make_leaf (at_time now b) l) os) (leaf_made_gives base e s b now id l os h next same k)

no_work : (m : Moment) (live : ℕ) (a : Arrived) (w : Work) → (on_work m live a w None ≡ refuse_work a)
unfolding on_work
no_work m live a w = refl

work_gives : (base : List ℕ) (e : Event) (s : Numbers → Standing) (b : Book) (now : ℕ) (a : Arrived) (x : Message) → Says base s b → Both (Gives base e s b) (work_plan b now a x)
unfolding work_plan
work_gives base e s b now a (messages.Work w) h = by_next (next_id b) refl
  where
    by_next : (o : Option Numbers) → next_id b ≡ o
        → Both (Gives base e s b) (employed_plan b now (on_work (moment_of b now) (length b.leaves) a w o).leaf (on_work (moment_of b now) (length b.leaves) a w o).outs)
    by_next None f =
        subst (λ (x : Employment). Both (Gives base e s b) (employed_plan b now x.leaf x.outs)) (sym (no_work (moment_of b now) (length b.leaves) a w))
        (plain_both (Gives base e s b) (still (at_time now b) (refuse_work a).outs)
        (time_gives base e s b now (refuse_work a).outs h (replied_says NoRegister a.reply a.id messages.WorkRefused tt (λ to. tt))))
    by_next (Some id) f = employed_gives base e s b now id _ _ h f (work_says (moment_of b now) (length b.leaves) a w id)
work_gives base e s b now a other h = nothing_gives base e s b now h

-- what a Register gives
abbrev IsNew : ℕ → List Node → Numbers → Epr → Accepted → Type 0
IsNew n nodes id participant acc = (acc.transaction ≡ record { node = n; id = id }) × (acc.participant ≡ who_of nodes participant)

record RegistrationSays (participant : Epr) (t : Transaction) (x : Registration) : Type 0 where
  superior : x.transaction.superior ≡ t.superior
  outs : AreOuts NoRegister x.outs
  accepts : (n : ℕ) (nodes : List Node) → AllByRecursion (IsNew n nodes x.transaction.id participant) (accepted_by n nodes (Some t) x.transaction)
  grown : Grown (Some t) x.transaction

behind_all : {A : Type 0} (xs ys : List A) → drop (length xs) (xs ++ ys) ≡ ys
behind_all [] ys = refl
behind_all (x ∷ xs) ys = behind_all xs ys

late_says : (m : Moment) (id : Numbers) (late : Bool) (s : Enlistment) → AreOuts NoRegister (late_prepare m id late s)
late_says m id true s = (tt, tt)
late_says m id false s = tt

initiator_new : (n : ℕ) (nodes : List Node) (id : Numbers) (before : Option Completion) (c : Completion)
    → AllByRecursion (IsNew n nodes id c.initiator) (accepted_completion n nodes id before (Some c))
initiator_new n nodes id None c = ((refl, refl), tt)
initiator_new n nodes id (Some d) c = tt

accept_says : (m : Moment) (a : Arrived) (t : Transaction) (participant : Epr) (kind : Option Kind) → may_register t kind ≡ true → RegistrationSays participant t (accept m a t participant kind)
unfolding accept
accept_says m a t participant (Some kind) may = record {
  superior = refl;
  outs = all_join (OutSays NoRegister) (replied a.reply a.id (messages.RegisterResponse (seat_endpoint m.base t.id (new_seat t participant kind)))) _
      (replied_says NoRegister a.reply a.id (messages.RegisterResponse (seat_endpoint m.base t.id (new_seat t participant kind))) tt (λ to. tt))
      (late_says m t.id (is_late t.phase kind) (new_seat t participant kind));
  accepts = λ n nodes.
      subst (AllByRecursion (IsNew n nodes t.id participant))
      (sym (λ i. map (accepted_seat n nodes t.id) (behind_all t.seats (new_seat t participant kind ∷ []) i) ++ no_completion n nodes t.id t.completion t.completion refl i)) ((refl, refl), tt);
  grown = (ap (map accepted_as) (take-append_seam t.seats (new_seat t participant kind ∷ [])), (grown_like t t refl refl).1);
}
accept_says m a t participant None may = record {
  superior = refl;
  outs = replied_says NoRegister a.reply a.id (messages.RegisterResponse (completion_endpoint m.base t.id)) tt (λ to. tt);
  accepts = λ n nodes.
      subst (λ (ss : List Enlistment). AllByRecursion (IsNew n nodes t.id participant)
      (map (accepted_seat n nodes t.id) ss ++ accepted_completion n nodes t.id t.completion (Some (record { initiator = participant; state = states.Active }))))
      (sym (dropped t.seats (length t.seats) refl)) (initiator_new n nodes t.id t.completion (record { initiator = participant; state = states.Active }));
  grown = ((grown_like t t refl refl).0, free t.completion (has_none (accepts t.phase) (nat_lt (length t.seats) MOST_SEATS) (is_none t.superior) (is_none t.completion) may));
}
  where
    has_none : (a b c d : Bool) → (a && b && (c && d)) ≡ true → d ≡ true
    has_none true true true d e = e
    has_none true true false d e = absurd cc
    has_none true false c d e = absurd cc
    has_none false b c d e = absurd cc

    free : (c : Option Completion) → is_none c ≡ true → HasInitiator c (Some (record { initiator = participant; state = states.Active }))
    free None e = tt
    free (Some c) e = absurd cc

refuses_says : (participant : Epr) (a : Arrived) (t : Transaction) (drawn : Fault) → RegistrationSays participant t (refuse_register a t drawn)
refuses_says participant a t drawn = record {
  superior = refl;
  outs = faulted_says NoRegister a.fault a.id drawn;
  accepts = λ n nodes. nothing_new (IsNew n nodes t.id participant) n nodes t t refl refl;
  grown = grown_like t t refl refl;
}

register_new_says : (m : Moment) (a : Arrived) (r : Register) (t : Transaction) (kind : Option (Option Kind)) → RegistrationSays r.participant t (register_new m a r t kind)
unfolding register_new
register_new_says m a r t None = refuses_says r.participant a t InvalidProtocol
register_new_says m a r t (Some kind) = by_tests (not a.postable) (may_register t kind) refl
  where
    by_tests : (b c : Bool) → may_register t kind ≡ c → RegistrationSays r.participant t
        (if b then refuse_register a t InvalidParameters else if c then accept m a t r.participant kind else refuse_register a t CannotRegisterParticipant)
    by_tests true c e = refuses_says r.participant a t InvalidParameters
    by_tests false true e = accept_says m a t r.participant kind e
    by_tests false false e = refuses_says r.participant a t CannotRegisterParticipant

register_again_says : (m : Moment) (a : Arrived) (r : Register) (t : Transaction) (kind : Option (Option Kind)) (held : Option Epr)
    → RegistrationSays r.participant t (register_again m a r t kind held)
unfolding register_again
register_again_says m a r t kind (Some coordinator) = record {
  superior = refl;
  outs = replied_says NoRegister a.reply a.id (messages.RegisterResponse coordinator) tt (λ to. tt);
  accepts = λ n nodes. nothing_new (IsNew n nodes t.id r.participant) n nodes t t refl refl;
  grown = grown_like t t refl refl;
}
register_again_says m a r t kind None = register_new_says m a r t kind

register_says : (m : Moment) (a : Arrived) (r : Register) (t : Transaction) → RegistrationSays r.participant t (on_register m a r t)
unfolding on_register
register_says m a r t = register_again_says m a r t (protocol_named r.protocol) (held_seat m r t (protocol_named r.protocol))

registers_gives : (base : List ℕ) (s : Numbers → Standing) (b : Book) (now : ℕ) (a : Arrived) (r : Register) (id : Numbers) (t : Transaction) → Says base s b
    → a.message ≡ messages.Register r → a.target ≡ targets.Registration id → transaction_at b id ≡ Some t → (x : Registration) → x.transaction.id ≡ t.id → RegistrationSays r.participant t x
    → Gives base (events.Arrived a) s b (registration_outcome b now x)
registers_gives base s b now a r id t h says target stands x same k =
    let there : t.id ≡ id = found_id transaction_id id b.transactions t stands in
    let e : Event = events.Arrived a in
    record {
      after = s;
      keeps = λ i p j. j;
      fits = record {
        transactions = all_put (λ y. Meets (s y.id) (transaction_standing y)) transaction_id x.transaction.id (Some x.transaction) b.transactions
            (subst (λ o. Meets (s x.transaction.id) (by_request (request_of o))) (sym k.superior)
            (subst (λ i. Meets (s i) (transaction_standing t)) (sym same)
            (all_find (λ y. Meets (s y.id) (transaction_standing y)) transaction_id id b.transactions t h.fits.transactions stands))) h.fits.transactions;
        leaves = h.fits.leaves;
        activities = h.fits.activities;
      };
      undrawn = λ i j g. j;
      small = h.small;
      outs = outs_more NoRegister (Registers base s) (λ participant to f. absurd f) x.outs k.outs;
      accepted = λ n nodes.
          accepted_all (AcceptedBy e n nodes) n nodes b (put_by transaction_id x.transaction.id (Some x.transaction) b.transactions)
          (all_put (λ y. AllByRecursion (AcceptedBy e n nodes) (accepted_by n nodes (transaction_at b y.id) y)) transaction_id x.transaction.id (Some x.transaction) b.transactions
          (subst (λ o. AllByRecursion (AcceptedBy e n nodes) (accepted_by n nodes o x.transaction)) (sym (ap (transaction_at b) (same ∙ there) ∙ stands))
          (all_more (IsNew n nodes x.transaction.id r.participant) (AcceptedBy e n nodes) (accepted_by n nodes (Some t) x.transaction)
          (λ acc f. record {
            arrived = a;
            register = r;
            id = x.transaction.id;
            came = refl;
            says = says;
            target = target ∙ ap targets.Registration (sym (same ∙ there));
            transaction = f.0;
            participant = f.1;
          }) (k.accepts n nodes))) (unchanged (AcceptedBy e n nodes) n nodes b h.order));
      grown = all_put (λ y. Grown (transaction_at b y.id) y) transaction_id x.transaction.id (Some x.transaction) b.transactions
          (subst (λ o. Grown o x.transaction) (sym (ap (transaction_at b) (same ∙ there) ∙ stands)) k.grown) (none_grown b h.order);
    }

unknown_says : (a : Arrived) (r : Register) (kind : Option (Option Kind)) → AreOuts NoRegister (register_unknown a r kind)
unfolding register_unknown
unknown_says a r None = faulted_says NoRegister a.fault a.id InvalidProtocol
unknown_says a r (Some kind) = faulted_says NoRegister a.fault a.id (if a.postable then CannotRegisterParticipant else InvalidParameters)

registration_gives : (base : List ℕ) (s : Numbers → Standing) (b : Book) (now : ℕ) (a : Arrived) (id : Numbers) (x : Message) (t : Option Transaction) → Says base s b → a.message ≡ x
    → a.target ≡ targets.Registration id → transaction_at b id ≡ t → Both (Gives base (events.Arrived a) s b) (registration_plan b now a x t)
unfolding registration_plan
registration_gives base s b now a id (messages.Register r) None h f g k =
    plain_both (Gives base (events.Arrived a) s b) (still (at_time now b) (register_unknown a r (protocol_named r.protocol)))
    (time_gives base (events.Arrived a) s b now (register_unknown a r (protocol_named r.protocol)) h (unknown_says a r (protocol_named r.protocol)))
registration_gives base s b now a id (messages.Register r) (Some t) h f g k =
    plain_both (Gives base (events.Arrived a) s b) (registration_outcome b now (on_register (moment_of b now) a r t))
    (registers_gives base s b now a r id t h f g k (on_register (moment_of b now) a r t) (register_kept t.id (moment_of b now) a r t refl) (register_says (moment_of b now) a r t))
registration_gives base s b now a id other t h f g k = nothing_gives base (events.Arrived a) s b now h

-- a message at what isn't known
cell_fine : (base : List ℕ) (own : Target) (from : Option Epr) (id : Option (List ℕ)) (c : Option Cell) → AreFine NoRegister (stranger_cell base own from id c)
cell_fine base own from id None = tt
cell_fine base own from id (Some c) = act_fine c.act
  where
    act_fine : (act : Act) → AreFine NoRegister (stranger_act base own from id act)
    act_fine acts.SendRollback = to_each_fine NoRegister from (λ to. stranger_post base own to notices.Rollback) (λ to. tt)
    act_fine acts.SendCommitted = to_each_fine NoRegister from (λ to. stranger_post base own to notices.Committed) (λ to. tt)
    act_fine acts.SendAborted = to_each_fine NoRegister from (λ to. stranger_post base own to notices.Aborted) (λ to. tt)
    act_fine acts.FaultUnknownTransaction = to_each_fine NoRegister from (λ to. fault_post (Some to) id UnknownTransaction) (λ to. tt)
    act_fine other = tt

stranger_gives : (base : List ℕ) (e : Event) (s : Numbers → Standing) (b : Book) (now : ℕ) (a : Arrived) (table : Notice → Option Cell) (x : Message) → Says base s b
    → Both (Gives base e s b) (stranger_plan b now a table x)
stranger_gives base e s b now a table (messages.Notice n) h =
    plain_both (Gives base e s b) (still (at_time now b) (accepted ++ map outs.Post (stranger_cell b.base a.target a.from a.id (table n))))
    (time_gives base e s b now (accepted ++ map outs.Post (stranger_cell b.base a.target a.from a.id (table n))) h
    (tt, posts_say NoRegister NoRegister (λ participant to f. f) (stranger_cell b.base a.target a.from a.id (table n)) (cell_fine b.base a.target a.from a.id (table n))))
stranger_gives base e s b now a table other h = nothing_gives base e s b now h

-- what is like itself
as_it_is : (t : Transaction) → IsLike (request_of t.superior) (map accepted_as t.seats) (option_map initiator_endpoint t.completion) t
as_it_is t = (refl, refl, refl)

is_accepted : IsAnswer accepted
is_accepted = inr refl

no_answer : IsAnswer []
no_answer = inl refl

keeps_id : (t : Transaction) (m : Moment) (d : Decision Transaction) → Kept t.id d → DecisionSays (λ c. HasId t.id c.item) (λ r c. Unit {0}) (with_answer m t d)
keeps_id t m d h = ids_alone (HasId t.id) (Names t.id) (with_answer m t d) (with_answer_kept t.id m t d h)

keeps_leaf_id : (l : Leaf) (d : Decision Leaf) → LeafKept l.id d → DecisionSays (λ c. HasLeafId l.id c.item) (λ r c. Unit {0}) d
keeps_leaf_id l d h = ids_alone (HasLeafId l.id) (NamesLeaf l.id) d h

keeps_both : (a : Activity) (d : Decision Activity) → ActivityKept a d → DecisionSays (λ c. HasBoth a c.item) (λ r c. Unit {0}) d
keeps_both a d h = ids_alone (HasBoth a) NoRecord d h

-- arrivals
kept_fine : (base : List ℕ) (own : Target) (from : Option Epr) (id : Option (List ℕ)) (c : Option Cell) → AreFine NoRegister (outcome_cell base own from id c)
kept_fine base own from id None = tt
kept_fine base own from id (Some c) = act_fine c.act
  where
    act_fine : (act : Act) → AreFine NoRegister (outcome_act base own from id act)
    act_fine acts.SendCommitted = to_each_fine NoRegister from (λ to. notice_post base own to notices.Committed) (λ to. tt)
    act_fine acts.FaultInvalidState = to_each_fine NoRegister from (λ to. fault_post (Some to) id InvalidState) (λ to. tt)
    act_fine other = tt

outcome_gives : (base : List ℕ) (s : Numbers → Standing) (b : Book) (now : ℕ) (a : Arrived) (x : Message) → Says base s b → Both (Gives base (events.Arrived a) s b) (outcome_plan b now a x)
outcome_gives base s b now a (messages.Notice n) h =
    let posted : List Post = outcome_cell b.base a.target a.from a.id (completion_of states.Done n) in
    plain_both (Gives base (events.Arrived a) s b) (still (at_time now b) (accepted ++ map outs.Post posted))
    (time_gives base (events.Arrived a) s b now (accepted ++ map outs.Post posted) h
    (tt, posts_say NoRegister NoRegister (λ participant to f. f) posted (kept_fine b.base a.target a.from a.id (completion_of states.Done n))))
outcome_gives base s b now a other h = nothing_gives base (events.Arrived a) s b now h

seatless_gives : (base : List ℕ) (s : Numbers → Standing) (b : Book) (now : ℕ) (a : Arrived) (done : Bool) → Says base s b → Both (Gives base (events.Arrived a) s b) (seatless_plan b now a done)
seatless_gives base s b now a true h = outcome_gives base s b now a a.message h
seatless_gives base s b now a false h = stranger_gives base (events.Arrived a) s b now a (completion_of states.None) a.message h

completion_seat_gives : (base : List ℕ) (s : Numbers → Standing) (b : Book) (now : ℕ) (a : Arrived) (id : Numbers) (t : Transaction) (c : Option Completion) → Says base s b
    → transaction_at b id ≡ Some t → t.completion ≡ c → (done : Bool) → Both (Gives base (events.Arrived a) s b) (completion_seat_plan b now a done t c)
completion_seat_gives base s b now a id t None h f g done = seatless_gives base s b now a done h
completion_seat_gives base s b now a id t (Some c) h f g done =
    let m : Moment = moment_of b now in
    transaction_gives base (events.Arrived a) s b now accepted id t (on_completion m a t c a.message) h f is_accepted
    (keeps_id t m (on_completion m a t c a.message) (completion_kept t.id m a t c a.message refl))
    (completion_like (Registers base s) (request_of t.superior) (map accepted_as t.seats) (option_map initiator_endpoint t.completion) m a t c a.message (sym (ap (option_map initiator_endpoint) g)) (as_it_is t))

completion_gives : (base : List ℕ) (s : Numbers → Standing) (b : Book) (now : ℕ) (a : Arrived) (id : Numbers) (t : Option Transaction) → Says base s b → transaction_at b id ≡ t
    → (done : Bool) → Both (Gives base (events.Arrived a) s b) (completion_plan b now a done t)
unfolding completion_plan
completion_gives base s b now a id None h f done = seatless_gives base s b now a done h
completion_gives base s b now a id (Some t) h f done = completion_seat_gives base s b now a id t t.completion h f refl done

seat_gives : (base : List ℕ) (s : Numbers → Standing) (b : Book) (now : ℕ) (a : Arrived) (kind : Kind) (id : Numbers) (t : Transaction) (x : Option Enlistment) → Says base s b
    → transaction_at b id ≡ Some t → Both (Gives base (events.Arrived a) s b) (seat_plan b now a kind t x)
seat_gives base s b now a kind id t None h f = stranger_gives base (events.Arrived a) s b now a (coordinator_of kind states.None) a.message h
seat_gives base s b now a kind id t (Some x) h f =
    let m : Moment = moment_of b now in
    transaction_gives base (events.Arrived a) s b now accepted id t (on_seat m a t x a.message) h f is_accepted
    (keeps_id t m (on_seat m a t x a.message) (seat_kept t.id m a t x a.message refl))
    (seat_like (Registers base s) (request_of t.superior) (map accepted_as t.seats) (option_map initiator_endpoint t.completion) m a t x a.message (as_it_is t))

coordinator_gives : (base : List ℕ) (s : Numbers → Standing) (b : Book) (now : ℕ) (a : Arrived) (number : ℕ) (kind : Kind) (id : Numbers) (t : Option Transaction) → Says base s b
    → transaction_at b id ≡ t → Both (Gives base (events.Arrived a) s b) (coordinator_plan b now a number kind t)
unfolding coordinator_plan
coordinator_gives base s b now a number kind id None h f = stranger_gives base (events.Arrived a) s b now a (coordinator_of kind states.None) a.message h
coordinator_gives base s b now a number kind id (Some t) h f = seat_gives base s b now a kind id t (find_seat number kind t.seats) h f

link_gives : (base : List ℕ) (s : Numbers → Standing) (b : Book) (now : ℕ) (a : Arrived) (kind : Kind) (id : Numbers) (t : Transaction) (x : Option Superior) → Says base s b
    → transaction_at b id ≡ Some t → t.superior ≡ x → Both (Gives base (events.Arrived a) s b) (link_plan b now a kind t x)
link_gives base s b now a kind id t None h f g = stranger_gives base (events.Arrived a) s b now a (participant_of kind states.None) a.message h
link_gives base s b now a kind id t (Some x) h f g =
    let m : Moment = moment_of b now in
    transaction_gives base (events.Arrived a) s b now accepted id t (on_link m a kind t x a.message) h f is_accepted
    (keeps_id t m (on_link m a kind t x a.message) (link_kept t.id m a kind t x a.message refl))
    (link_like (Registers base s) (request_of t.superior) (map accepted_as t.seats) (option_map initiator_endpoint t.completion) m a kind t x a.message (sym (ap request_of g)) (as_it_is t))

leaf_or_stranger_gives : (base : List ℕ) (s : Numbers → Standing) (b : Book) (now : ℕ) (a : Arrived) (kind : Kind) (id : Numbers) (l : Option Leaf) → Says base s b → leaf_at b id ≡ l
    → Both (Gives base (events.Arrived a) s b) (leaf_or_stranger_plan b now a kind l)
leaf_or_stranger_gives base s b now a kind id None h f = stranger_gives base (events.Arrived a) s b now a (participant_of kind states.None) a.message h
leaf_or_stranger_gives base s b now a kind id (Some l) h f = by_kind (is_kind l.kind kind)
  where
    m : Moment
    m = moment_of b now

    by_kind : (c : Bool) → Both (Gives base (events.Arrived a) s b)
        (if c then leaf_plan b now accepted l (on_leaf m a l a.message) else stranger_plan b now a (participant_of kind states.None) a.message)
    by_kind true =
        leaf_gives base (events.Arrived a) s b now accepted id l (on_leaf m a l a.message) h f is_accepted
        (keeps_leaf_id l (on_leaf m a l a.message) (leaf_kept l.id m a l a.message refl)) (leaf_like (Registers base s) m a l a.message)
    by_kind false = stranger_gives base (events.Arrived a) s b now a (participant_of kind states.None) a.message h

participant_gives : (base : List ℕ) (s : Numbers → Standing) (b : Book) (now : ℕ) (a : Arrived) (kind : Kind) (id : Numbers) (t : Option Transaction) (l : Option Leaf) → Says base s b
    → transaction_at b id ≡ t → leaf_at b id ≡ l → Both (Gives base (events.Arrived a) s b) (participant_plan b now a kind t l)
unfolding participant_plan
participant_gives base s b now a kind id (Some t) l h f g = link_gives base s b now a kind id t t.superior h f refl
participant_gives base s b now a kind id None l h f g = leaf_or_stranger_gives base s b now a kind id l h g

initiator_gives : (base : List ℕ) (s : Numbers → Standing) (b : Book) (now : ℕ) (a : Arrived) (id : Numbers) (x : Option Activity) → Says base s b → activity_at b id ≡ x
    → Both (Gives base (events.Arrived a) s b) (initiator_plan b now a x)
unfolding initiator_plan
initiator_gives base s b now a id None h f = stranger_gives base (events.Arrived a) s b now a (initiator_of states.None) a.message h
initiator_gives base s b now a id (Some x) h f =
    let m : Moment = moment_of b now in
    activity_gives base (events.Arrived a) s b now accepted id x (on_activity m a x a.message) h f is_accepted
    (keeps_both x (on_activity m a x a.message) (activity_kept m a x a.message)) (activity_like m a x a.message)

arrived_gives : (base : List ℕ) (s : Numbers → Standing) (b : Book) (now : ℕ) (a : Arrived) (target : Target) → Says base s b → a.target ≡ target
    → Both (Gives base (events.Arrived a) s b) (arrived_plan b now a target)
unfolding arrived_plan
arrived_gives base s b now a targets.Activation h e = activation_gives base (events.Arrived a) s b now a a.message h
arrived_gives base s b now a (targets.Registration id) h e = registration_gives base s b now a id a.message (transaction_at b id) h refl e refl
arrived_gives base s b now a (targets.Completion id) h e = completion_gives base s b now a id (transaction_at b id) h refl (has_committed b id)
arrived_gives base s b now a (targets.Coordinator id seat) h e = coordinator_gives base s b now a seat.number seat.kind id (transaction_at b id) h refl
arrived_gives base s b now a (targets.Participant id kind) h e = participant_gives base s b now a kind id (transaction_at b id) (leaf_at b id) h refl refl
arrived_gives base s b now a (targets.Initiator id) h e = initiator_gives base s b now a id (activity_at b id) h refl
arrived_gives base s b now a targets.Work h e = work_gives base (events.Arrived a) s b now a a.message h

-- requests
nothing_sent : (base : List ℕ) (e : Event) (s : Numbers → Standing) (b : Book) → Says base s b → Both (Gives base e s b) (plain (still b []))
nothing_sent base e s b h = plain_both (Gives base e s b) (still b []) (still_gives base e s b [] h tt)

begun_gives : (base : List ℕ) (e : Event) (s : Numbers → Standing) (b : Book) (now : ℕ) (id : Numbers) (x : Beginning) → Says base s b → next_id b ≡ Some id → x.activity.id ≡ id
    → activity_standing x.activity ≡ Never → AreFine NoRegister x.posts → Both (Gives base e s b) (begun_plan b now x)
begun_gives base e s b now id x h next same never k =
    plain_both (Gives base e s b) (still (make_activity (at_time now b) x.activity) (map outs.Post x.posts))
    (activity_made_gives base e s b now id x.activity (map outs.Post x.posts) h next same never (posts_say NoRegister NoRegister (λ participant to f. f) x.posts k))

begin_gives : (base : List ℕ) (e : Event) (s : Numbers → Standing) (b : Book) (now : ℕ) (coordinator : List ℕ) (ms : ℕ) (next : Option Numbers) → Says base s b → next_id b ≡ next
    → Both (Gives base e s b) (begin_plan b now coordinator ms next)
unfolding on_begin
begin_gives base e s b now coordinator ms None h f = nothing_sent base e s b h
begin_gives base e s b now coordinator ms (Some id) h f = begun_gives base e s b now id (on_begin (moment_of b now) id coordinator ms) h f refl refl (tt, tt)

interpose_gives : (base : List ℕ) (e : Event) (s : Numbers → Standing) (b : Book) (now : ℕ) (coordinator : List ℕ) (next : Option Numbers) (a : Option Activity) → Says base s b
    → next_id b ≡ next → Both (Gives base e s b) (interpose_plan b now coordinator next a)
unfolding on_interpose
interpose_gives base e s b now coordinator None a h f = nothing_sent base e s b h
interpose_gives base e s b now coordinator (Some id) None h f = nothing_sent base e s b h
interpose_gives base e s b now coordinator (Some id) (Some a) h f =
    begun_gives base e s b now id (on_interpose (moment_of b now) id coordinator a.root a.context) h f refl refl (tt, tt)

asking_gives : (base : List ℕ) (e : Event) (s : Numbers → Standing) (b : Book) (now : ℕ) (change : Activity → Change Activity) (id : Numbers) (a : Option Activity) → Says base s b
    → activity_at b id ≡ a → ((x : Activity) → ActivityKept x (Goes (change x))) → ((x : Activity) → AreActivityLike b.base x (Goes (change x)))
    → Both (Gives base e s b) (asking_plan b now change a)
asking_gives base e s b now change id None h f kept like = nothing_sent base e s b h
asking_gives base e s b now change id (Some a) h f kept like =
    activity_gives base e s b now [] id a (Goes (change a)) h f no_answer (keeps_both a (Goes (change a)) (kept a)) (like a)

request_gives : (base : List ℕ) (s : Numbers → Standing) (b : Book) (now : ℕ) (l : Local) → Says base s b → Both (Gives base (events.Local l) s b) (request_plan b now l)
unfolding request_plan
request_gives base s b now (locals.Begin coordinator ms) h = begin_gives base _ s b now coordinator ms (next_id b) h refl
request_gives base s b now (locals.Interpose activity coordinator) h = interpose_gives base _ s b now coordinator (next_id b) (activity_at b activity) h refl
request_gives base s b now (locals.Work activity url kind vote key value) h =
    asking_gives base _ s b now (λ a. on_ask (moment_of b now) url kind vote key value a a.context) activity (activity_at b activity) h refl
    (λ a. asks_kept (moment_of b now) url kind vote key value a a.context) (λ a. asks_like (moment_of b now) url kind vote key value a a.context)
request_gives base s b now (locals.Commit activity) h =
    asking_gives base _ s b now (on_complete (moment_of b now) notices.Commit) activity (activity_at b activity) h refl
    (completes_kept (moment_of b now) notices.Commit) (completes_like (moment_of b now) notices.Commit)
request_gives base s b now (locals.Rollback activity) h =
    asking_gives base _ s b now (on_complete (moment_of b now) notices.Rollback) activity (activity_at b activity) h refl
    (completes_kept (moment_of b now) notices.Rollback) (completes_like (moment_of b now) notices.Rollback)

local_gives : (base : List ℕ) (s : Numbers → Standing) (b : Book) (now : ℕ) (l : Local) (r : Option Refusal) → Says base s b
    → Both (Gives base (events.Local l) s b) (local_plan b now l r)
local_gives base s b now l None h = request_gives base s b now l h
local_gives base s b now l (Some refusal) h = nothing_sent base (events.Local l) s b h

-- due items register again where they registered
own_transaction : (base : List ℕ) (s : Numbers → Standing) (b : Book) (id : Numbers) (t : Transaction) → Says base s b → transaction_at b id ≡ Some t
    → IsOwn (Registers base s) b.base t.id (request_of t.superior)
own_transaction base s b id t h stands kind r e = record {
  id = t.id;
  own = targets.Participant t.id kind;
  endpoint = r.registration;
  named = refl;
  is = ap (λ y. endpoint_of y (targets.Participant t.id kind)) h.base_is;
  goes = refl;
  stands = meets_at (s t.id) (transaction_standing t) r.registration
      (all_find (λ y. Meets (s y.id) (transaction_standing y)) transaction_id id b.transactions t h.fits.transactions stands) (ap by_request e);
}

own_leaf : (base : List ℕ) (s : Numbers → Standing) (b : Book) (id : Numbers) (l : Leaf) → Says base s b → leaf_at b id ≡ Some l → IsOwnLeaf (Registers base s) b.base l
own_leaf base s b id l h stands r e = record {
  id = l.id;
  own = leaf_target l;
  endpoint = r.registration;
  named = refl;
  is = ap (λ y. endpoint_of y (leaf_target l)) h.base_is;
  goes = refl;
  stands = meets_at (s l.id) (leaf_standing l) r.registration
      (all_find (λ y. Meets (s y.id) (leaf_standing y)) leaf_id id b.leaves l h.fits.leaves stands) (ap by_work e);
}

transaction_due_gives : (base : List ℕ) (e : Event) (s : Numbers → Standing) (b : Book) (now : ℕ) (id : Numbers) (t : Option Transaction) → Says base s b → transaction_at b id ≡ t
    → Both (Gives base e s b) (transaction_due_plan b now t)
transaction_due_gives base e s b now id None h f = nothing_sent base e s b h
transaction_due_gives base e s b now id (Some t) h f =
    let m : Moment = moment_of b now in
    transaction_gives base e s b now [] id t (transaction_reached m t (transaction_due m t)) h f no_answer
    (keeps_id t m (transaction_reached m t (transaction_due m t)) (due_kept t.id m t (transaction_due m t) refl))
    (due_like (Registers base s) (request_of t.superior) (map accepted_as t.seats) (option_map initiator_endpoint t.completion) m t (transaction_due m t) (own_transaction base s b id t h f) (as_it_is t))

leaf_due_gives : (base : List ℕ) (e : Event) (s : Numbers → Standing) (b : Book) (now : ℕ) (id : Numbers) (l : Option Leaf) → Says base s b → leaf_at b id ≡ l
    → Both (Gives base e s b) (leaf_due_plan b now l)
leaf_due_gives base e s b now id None h f = nothing_sent base e s b h
leaf_due_gives base e s b now id (Some l) h f =
    let m : Moment = moment_of b now in
    leaf_gives base e s b now [] id l (leaf_reached m l (leaf_due m l)) h f no_answer (keeps_leaf_id l (leaf_reached m l (leaf_due m l)) (leaf_due_kept l.id m l (leaf_due m l) refl))
    (leaf_due_like (Registers base s) m l (leaf_due m l) (own_leaf base s b id l h f))

activity_due_gives : (base : List ℕ) (e : Event) (s : Numbers → Standing) (b : Book) (now : ℕ) (id : Numbers) (a : Option Activity) → Says base s b → activity_at b id ≡ a
    → Both (Gives base e s b) (activity_due_plan b now a)
activity_due_gives base e s b now id None h f = nothing_sent base e s b h
activity_due_gives base e s b now id (Some a) h f =
    let m : Moment = moment_of b now in
    activity_gives base e s b now [] id a (activity_reached m a (activity_due m a)) h f no_answer
    (keeps_both a (activity_reached m a (activity_due m a)) (activity_due_kept m a (activity_due m a))) (activity_due_like m a (activity_due m a))

due_gives : (base : List ℕ) (s : Numbers → Standing) (b : Book) (now : ℕ) (item : Item) → Says base s b → Both (Gives base (events.Due item) s b) (due_plan b now item)
unfolding due_plan
due_gives base s b now (items.Transaction id) h = transaction_due_gives base _ s b now id (transaction_at b id) h refl
due_gives base s b now (items.Leaf id) h = leaf_due_gives base _ s b now id (leaf_at b id) h refl
due_gives base s b now (items.Activity id) h = activity_due_gives base _ s b now id (activity_at b id) h refl

plan_gives : (base : List ℕ) (s : Numbers → Standing) (b : Book) (e : Event) (now : ℕ) → Says base s b → Both (Gives base e s b) (plan b e now)
plan_gives base s b (events.Arrived a) now h = arrived_gives base s b now a a.target h refl
plan_gives base s b (events.Local l) now h = local_gives base s b now l (refuses b l) h
plan_gives base s b (events.Due item) now h = due_gives base s b now item h
plan_gives base s b events.Tick now h = nothing_gives base events.Tick s b now h

pub step_gives : (base : List ℕ) (s : Numbers → Standing) (b : Book) (e : Event) (now : ℕ) (landed : Bool) → Says base s b → Gives base e s b (step b e now landed)
step_gives base s b e now landed h = in_branch (Gives base e s b) (plan b e now) landed (plan_gives base s b e now h)

-- and the book behind the step says the same
pub says_on : (base : List ℕ) (s : Numbers → Standing) (b : Book) (e : Event) (now : ℕ) (landed : Bool) → Says base s b → (g : Gives base e s b (step b e now landed))
    → Says base g.after (step b e now landed).book
says_on base s b e now landed h g =
    let place : KeepsPlace b (step b e now landed).book = steps_keep_place b e now landed in
    record {
      base_is = place.base ∙ h.base_is;
      order = ids_rise.stays b e now landed h.order;
      fits = g.fits;
      undrawn = λ id f. g.undrawn id (h.undrawn id (λ d. f (drawn_on b (step b e now landed).book place id d))) f;
      small = g.small;
      least = omega (arith, place.incarnation, h.least);
      most = omega (arith, place.incarnation, h.most);
    }
