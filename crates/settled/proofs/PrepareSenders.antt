-- Whoever posts a Prepare to a durable participant has asked the durable ones from then on.
use Rattle.std.specs.Prelude.{ℕ, List, [], ◌∷◌, ◌++◌, Option, Some, None, Bool, true, false, length, map, bytes_eq, ◌≡◌, refl}
use Rattle.std.specs.List.{AllByRecursion}
use Rattle.std.proofs.Common.{inl, inr, sym, subst, ap, ◌∙◌}
use Rattle.at_base.specs.declared.fault.Fault.{Fault}
use Rattle.at_base.specs.declared.fault.Fault.TheVariants.{InvalidState, UnknownTransaction}
use Rattle.at_base.specs.Names.{fault_name}
use Rattle.at_base.specs.Numbers.{Numbers}
use Rattle.at_base.specs.declared.epr.Epr.{Epr}
use Rattle.at_base.specs.declared.epr.Reply.{Reply}
use Rattle.at_base.specs.declared.epr.Reply.TheVariants as replies
use Rattle.at_base.specs.declared.notice.Kind.{Kind}
use Rattle.at_base.specs.declared.notice.Kind.TheVariants as kinds
use Rattle.at_base.specs.declared.notice.Notice.{Notice}
use Rattle.at_base.specs.declared.notice.Notice.TheVariants as notices
use Rattle.at_base.specs.declared.notice.Vote.{Vote}
use Rattle.at_base.specs.declared.message.Context.{Context}
use Rattle.at_base.specs.declared.message.Create.{Create}
use Rattle.at_base.specs.declared.message.Message.{Message}
use Rattle.at_base.specs.declared.message.Message.TheVariants as messages
use Rattle.at_base.specs.declared.message.Register.{Register}
use Rattle.at_base.specs.declared.message.Work.{Work}
use Rattle.at_base.specs.declared.event.Arrived.{Arrived}
use Rattle.at_base.specs.declared.event.Event.{Event}
use Rattle.at_base.specs.declared.event.Moment.{Moment}
use Rattle.at_base.specs.declared.outs.Out.{Out}
use Rattle.at_base.specs.declared.outs.Out.TheVariants as outs
use Rattle.at_base.specs.declared.outs.Post.{Post}
use Rattle.at_base.specs.declared.record.Record.{Record}
use Rattle.at_base.specs.declared.target.Seat.{Seat}
use Rattle.at_base.specs.declared.target.Target.{Target}
use Rattle.at_base.specs.declared.target.Target.TheVariants as targets
use Rattle.at_tables.specs.declared.cells.State.TheVariants as states
use Rattle.at_tables.specs.declared.cells.Act.{Act}
use Rattle.at_tables.specs.declared.cells.Act.TheVariants as acts
use Rattle.at_tables.specs.declared.cells.Cell.{Cell}
use Rattle.at_tables.specs.Tables.{completion_of, initiator_of}
use Rattle.at_model.specs.Activities.{activity_act, activity_created, activity_fault, activity_notice, activity_registered, activity_state, activity_target, complete_posts, is_begun, on_activity, on_ask, on_begin, on_complete, on_interpose, with_context}
use Rattle.endpoints.specs.Addresses.{create_id, register_id}
use Rattle.at_model.specs.Arrivals.{relates_to, with_answer}
use Rattle.at_model.specs.Book.{Activity, Book, Enlistment, Leaf, Phase, Progress, Transaction, leaf_id, transaction_id}
use Rattle.at_model.specs.Create.{create_in, create_under, on_create, refuse_create}
use Rattle.at_model.specs.Due.{Expired, Nothing, Over, Reached as Due, Unanswered, activity_again, activity_due, activity_reached, completion_register_again}
use Rattle.at_model.specs.Leaves.{on_work, refuse_work, work_for}
use Rattle.at_model.specs.Moves.{Change, Decision, Goes, Records}
use Rattle.at_model.specs.Posts.{accepted, fault_post, faulted, notice_post, replied, stored_or, stranger_post, to_each}
use Rattle.at_model.specs.Register.{Registration, is_late, late_prepare, new_seat, on_register, register_unknown, registered_reply, seat_endpoint}
use Rattle.at_model.specs.Step.{Outcome, Plan, at_time, make_activity, make_leaf, make_transaction, moment_of, outcome_act, outcome_cell, plain, plan, plan_of, put_activity, put_leaf, put_transaction, registration_outcome, step, still, stranger_act, stranger_cell, transaction_at}
use Rattle.model_laws.specs.Agreement.{IsIn}
use Rattle.model_laws.specs.Order.{AreRising}
use Rattle.model_laws.specs.Shapes.{Answers, IsAnswer, MakesActivity, MovesActivity, Shape, activity_made, activity_moves, activity_when_due, at_activity, begins, committed, completes, ignored, interposes, leaf_made, leaf_moves, not_created, not_employed, not_registered, nothing_moves, time_moves, time_passes, transaction_made, transaction_moves, transaction_registers, unknown, unknown_cell, works}
use Rattle.model_laws.proofs.DecisionLaws.{Both, IfThere, all_find, all_join, either_of, found_id, in_branch, plain_both}
use Rattle.model_laws.proofs.StepShapes.{steps_touch_one}
use Rattle.agreement.specs.Branches.{InBranches, IsNoNotice}
use Rattle.agreement.specs.Deeds.{Deed, Deeds, IsSameIfLeft}
use Rattle.agreement.specs.LeafDeeds.{LeafDeed, LeafSays, LeafStands, LeafWaitsOn, aborted, committed as leaf_committed, prepared, read_only, tells_nothing}
use Rattle.agreement.proofs.TransactionEvents.{transactions_do}
use Rattle.agreement.proofs.LeafRules.{leaves_do}
use Rattle.agreement.proofs.OtherIds.{find_this}
use Rattle.enlistments.specs.Registrations.{Enrolls, has_completion, has_seat, refuses, takes_completion, takes_seat}
use Rattle.enlistments.specs.Moves.{IsReady}
use Rattle.enlistments.proofs.Registrations.{register_enrolls}
use Rattle.owed.specs.DurablePrepares.{GoesOn, GoesOnBoth, HasAskedIfLeft, IsDurablePrepare, NoAsk, has_asked}
use Rattle.owed.specs.Shape.{AreShaped}
use Rattle.owed.proofs.DurablePrepareBooks.{asking_goes_on}

-- a message that is no seat's Prepare
abbrev Quiet : Option Target → Message → Type 0
Quiet (Some (targets.Coordinator id s)) (messages.Notice notices.Prepare) = ⊥
Quiet own m = Unit {0}

abbrev IsQuiet : Post → Type 0
IsQuiet p = Quiet p.own p.message

quiet_never : (p : Post) → IsQuiet p → NoAsk p
quiet_never p h i k = subst (Quiet (Some (targets.Coordinator i (record { number = k.number; kind = kinds.Durable })))) k.says (subst (λ o. Quiet o p.message) k.owned h)

abbrev OutNever : Out → Type 0
OutNever (outs.Post p) = NoAsk p
OutNever (outs.Answer status reply) = Unit {0}

abbrev Never : List Out → Type 0
Never os = AllByRecursion OutNever os

posts_never : (ps : List Post) → AllByRecursion IsQuiet ps → Never (map outs.Post ps)
posts_never [] h = tt
posts_never (p ∷ ps) (h, k) = (quiet_never p h, posts_never ps k)

each_quiet : (o : Option Epr) (f : Epr → Post) → ((to : Epr) → IsQuiet (f to)) → AllByRecursion IsQuiet (to_each o f)
each_quiet None f h = tt
each_quiet (Some to) f h = (h to, tt)

answer_never : (answer : List Out) → IsAnswer answer → Never answer
answer_never answer (inl e) = subst Never (sym e) tt
answer_never answer (inr e) = subst Never (sym e) (tt, tt)

replied_never : (r : Reply) (relates : Option (List ℕ)) (m : Message) → Never (replied r relates m)
replied_never replies.Anonymous relates m = (tt, tt)
replied_never replies.Nobody relates m = (tt, tt)
replied_never (replies.At to) relates m = (tt, (quiet_never _ tt, tt))

faulted_never : (r : Reply) (relates : Option (List ℕ)) (drawn : Fault) → Never (faulted r relates drawn)
faulted_never replies.Anonymous relates drawn = (tt, tt)
faulted_never replies.Nobody relates drawn = (tt, tt)
faulted_never (replies.At to) relates drawn = (tt, (quiet_never _ tt, tt))

-- where nothing is known
stranger_quiet : (base : List ℕ) (own : Target) (from : Option Epr) (id : Option (List ℕ)) (act : Act) → AllByRecursion IsQuiet (stranger_act base own from id act)
stranger_quiet base own from id acts.SendRollback = each_quiet from (λ to. stranger_post base own to notices.Rollback) (λ to. tt)
stranger_quiet base own from id acts.SendCommitted = each_quiet from (λ to. stranger_post base own to notices.Committed) (λ to. tt)
stranger_quiet base own from id acts.SendAborted = each_quiet from (λ to. stranger_post base own to notices.Aborted) (λ to. tt)
stranger_quiet base own from id acts.FaultUnknownTransaction = each_quiet from (λ to. fault_post (Some to) id UnknownTransaction) (λ to. tt)
stranger_quiet base own from id other = tt

strangers_quiet : (base : List ℕ) (own : Target) (from : Option Epr) (id : Option (List ℕ)) (c : Option Cell) → AllByRecursion IsQuiet (stranger_cell base own from id c)
strangers_quiet base own from id None = tt
strangers_quiet base own from id (Some c) = stranger_quiet base own from id c.act

outcome_quiet : (base : List ℕ) (i : Numbers) (from : Option Epr) (id : Option (List ℕ)) (act : Act) → AllByRecursion IsQuiet (outcome_act base (targets.Completion i) from id act)
outcome_quiet base i from id acts.SendCommitted = each_quiet from (λ to. notice_post base (targets.Completion i) to notices.Committed) (λ to. tt)
outcome_quiet base i from id acts.FaultInvalidState = each_quiet from (λ to. fault_post (Some to) id InvalidState) (λ to. tt)
outcome_quiet base i from id other = tt

outcomes_quiet : (base : List ℕ) (i : Numbers) (from : Option Epr) (id : Option (List ℕ)) (c : Option Cell) → AllByRecursion IsQuiet (outcome_cell base (targets.Completion i) from id c)
outcomes_quiet base i from id None = tt
outcomes_quiet base i from id (Some c) = outcome_quiet base i from id c.act

-- what is made
under_never : (m : Moment) (id : Numbers) (a : Arrived) (c : Create) (current : Context) (r : Reply) → Never (create_under m id a c current r).outs
unfolding create_under
under_never m id a c current (replies.At reply) = (tt, (quiet_never _ tt, (quiet_never _ tt, tt)))
under_never m id a c current replies.Anonymous = faulted_never a.fault a.id _
under_never m id a c current replies.Nobody = faulted_never a.fault a.id _

in_never : (m : Moment) (id : Numbers) (a : Arrived) (c : Create) (current : Option Context) → Never (create_in m id a c current).outs
unfolding create_in
in_never m id a c None = replied_never a.reply a.id _
in_never m id a c (Some current) = under_never m id a c current a.reply

create_never : (m : Moment) (live : ℕ) (a : Arrived) (c : Create) (id : Option Numbers) → Never (on_create m live a c id).outs
unfolding on_create
create_never m live a c None = faulted_never a.fault a.id _
create_never m live a c (Some id) =
    either_of (λ x. Never x.outs) _ (create_in m id a c c.current) (refuse_create a) (λ e. in_never m id a c c.current) (λ e. faulted_never a.fault a.id _)

work_for_never : (m : Moment) (id : Numbers) (a : Arrived) (w : Work) (r : Reply) → Never (work_for m id a w r).outs
work_for_never m id a w (replies.At reply) = (tt, (quiet_never _ tt, tt))
work_for_never m id a w replies.Anonymous = replied_never a.reply a.id _
work_for_never m id a w replies.Nobody = replied_never a.reply a.id _

work_never : (m : Moment) (live : ℕ) (a : Arrived) (w : Work) (id : Option Numbers) → Never (on_work m live a w id).outs
unfolding on_work
work_never m live a w None = replied_never a.reply a.id _
work_never m live a w (Some id) =
    either_of (λ x. Never x.outs) _ (work_for m id a w a.reply) (refuse_work a) (λ e. work_for_never m id a w a.reply) (λ e. replied_never a.reply a.id _)

unknown_never : (a : Arrived) (r : Register) (kind : Option (Option Kind)) → Never (register_unknown a r kind)
unfolding register_unknown
unknown_never a r None = faulted_never a.fault a.id _
unknown_never a r (Some kind) = faulted_never a.fault a.id _

-- a registration
late_never : (m : Moment) (id : Numbers) (phase : Phase) (s : Enlistment) (late : Bool) → is_late phase s.kind ≡ late → Never (late_prepare m id late s)
late_never m id phase s false e = tt
late_never m id phase s true e = (λ i k. not_durable phase s.kind (same_kind id i s.number k.number s.kind k.owned) e, tt)
  where
    same_kind : (j l : Numbers) (a b : ℕ) (kind : Kind) → Some (targets.Coordinator j (record { number = a; kind = kind })) ≡ Some (targets.Coordinator l (record { number = b; kind = kinds.Durable }))
        → kind ≡ kinds.Durable
    same_kind j l a b kind f =
        let seats : ◌≡◌ {A = Seat} (record { number = a; kind = kind }) (record { number = b; kind = kinds.Durable }) = cc in
        ap (λ (z : Seat). z.kind) seats

    not_durable : (p : Phase) (kind : Kind) → kind ≡ kinds.Durable → is_late p kind ≡ true → ⊥
    not_durable p kinds.Volatile f g = cc
    not_durable Phase.Volatile kinds.Durable f g = cc
    not_durable Phase.Registering kinds.Durable f g = cc
    not_durable Phase.Active kinds.Durable f g = cc
    not_durable Phase.Durable kinds.Durable f g = cc
    not_durable Phase.Voted kinds.Durable f g = cc
    not_durable Phase.Committing kinds.Durable f g = cc
    not_durable Phase.Aborting kinds.Durable f g = cc

enrolled_never : (m : Moment) (a : Arrived) (r : Register) (t : Transaction) (g : Registration) → Enrolls m a r t g → Never g.outs
enrolled_never m a r t g (takes_seat kind p may is) =
    subst (λ (x : Registration). Never x.outs) (sym is)
    (all_join OutNever (registered_reply a (seat_endpoint m.base t.id (new_seat t r.participant kind))) (late_prepare m t.id (is_late t.phase kind) (new_seat t r.participant kind))
    (replied_never a.reply a.id _) (late_never m t.id t.phase (new_seat t r.participant kind) (is_late t.phase kind) refl))
enrolled_never m a r t g (takes_completion p may is) = subst (λ (x : Registration). Never x.outs) (sym is) (replied_never a.reply a.id _)
enrolled_never m a r t g (has_seat kind s p i k f is) = subst (λ (x : Registration). Never x.outs) (sym is) (replied_never a.reply a.id _)
enrolled_never m a r t g (has_completion c p there f is) = subst (λ (x : Registration). Never x.outs) (sym is) (replied_never a.reply a.id _)
enrolled_never m a r t g (refuses name is) = subst (λ (x : Registration). Never x.outs) (sym is) (faulted_never a.fault a.id name)

-- an answer
answers_never : (b : Book) (now : ℕ) (a : Arrived) (os : List Out) → Answers b now a os → Never os
answers_never b now a os (ignored e) = subst Never (sym e) (tt, tt)
answers_never b now a os (unknown n says at e) = subst Never (sym e) (tt, posts_never _ (strangers_quiet b.base a.target a.from a.id (unknown_cell a.target n)))
answers_never b now a os (committed n id says at kept e) =
    subst Never (sym e)
    (subst (λ T. Never (accepted ++ map outs.Post (outcome_cell b.base T a.from a.id (completion_of states.Done n)))) (sym at)
    (tt, posts_never _ (outcomes_quiet b.base id a.from a.id (completion_of states.Done n))))
answers_never b now a os (not_created c at says none e) = subst Never (sym e) (create_never (moment_of b now) (length b.transactions) a c _)
answers_never b now a os (not_registered id r at says none e) = subst Never (sym e) (unknown_never a r _)
answers_never b now a os (not_employed w at says none e) = subst Never (sym e) (work_never (moment_of b now) (length b.leaves) a w _)

-- a leaf
leaf_quiet : (m : Moment) (e : Event) (l : Leaf) (c : Change Leaf) (p : Post) → LeafSays m e l c p → NoAsk p
leaf_quiet m e l c p (prepared to left knows is item state) = subst NoAsk (sym is) (quiet_never _ tt)
leaf_quiet m e l c p (read_only to knows is state item effects) = subst NoAsk (sym is) (quiet_never _ tt)
leaf_quiet m e l c p (leaf_committed to knows is item effects) = subst NoAsk (sym is) (quiet_never _ tt)
leaf_quiet m e l c p (aborted to why is item effects) = subst NoAsk (sym is) (quiet_never _ tt)
leaf_quiet m e l c p (tells_nothing none) = λ i k. subst IsNoNotice k.says none

said_never : (m : Moment) (e : Event) (l : Leaf) (c : Change Leaf) (ps : List Post) → AllByRecursion (LeafSays m e l c) ps → Never (map outs.Post ps)
said_never m e l c [] h = tt
said_never m e l c (p ∷ ps) (h, k) = (leaf_quiet m e l c p h, said_never m e l c ps k)

-- decisions that post no such message
abbrev PostsNever : {A : Type 0} → Change A → Type 0
PostsNever c = Never (map outs.Post c.posts)

abbrev BothNever : {A : Type 0} → Decision A → Type 0
BothNever (Goes c) = PostsNever c
BothNever (Records r c None) = PostsNever c
BothNever (Records r c (Some d)) = PostsNever c × PostsNever d

leaf_never : (m : Moment) (e : Event) (l : Leaf) (d : Decision Leaf) → InBranches (LeafDeed m e l) (LeafWaitsOn l) d → BothNever d
leaf_never m e l (Goes c) h = said_never m e l c c.posts (leaves_do.says m e l None c h)
leaf_never m e l (Records r c None) (h, k) = said_never m e l c c.posts (leaves_do.says m e l (Some r) c h)
leaf_never m e l (Records r c (Some d)) (h, k) =
    (said_never m e l c c.posts (leaves_do.says m e l (Some r) c h), said_never m e l d d.posts (leaves_do.says m e l None d k))

-- an activity
told_never : (m : Moment) (from : Option Epr) (id : Option (List ℕ)) (a : Activity) (act : Act) → BothNever (activity_act m from id a act)
unfolding activity_act
told_never m from id a acts.TellCommitted = tt
told_never m from id a acts.TellAborted = tt
told_never m from id a acts.FaultInvalidState = posts_never _ (each_quiet (stored_or a.coordinator from) (λ to. fault_post (Some to) id InvalidState) (λ to. tt))
told_never m from id a other = tt

notice_never : (m : Moment) (from : Option Epr) (id : Option (List ℕ)) (a : Activity) (c : Option Cell) → BothNever (activity_notice m from id a c)
unfolding activity_notice
notice_never m from id a None = tt
notice_never m from id a (Some c) = told_never m from id a c.act

context_never : (m : Moment) (context : Context) (a : Activity) → BothNever (with_context m context a)
context_never m context a = either_of BothNever (is_begun a) _ _ (λ e. (quiet_never _ tt, tt)) (λ e. tt)

created_never : (m : Moment) (relates : Option (List ℕ)) (context : Context) (a : Activity) (p : Progress) → BothNever (activity_created m relates context a p)
unfolding activity_created
created_never m relates context a Progress.Creating = either_of BothNever (relates_to relates (create_id m.base (activity_target a))) _ _ (λ e. context_never m context a) (λ e. tt)
created_never m relates context a other = tt

registered_never : (m : Moment) (relates : Option (List ℕ)) (coordinator : Epr) (a : Activity) (p : Progress) → BothNever (activity_registered m relates coordinator a p)
unfolding activity_registered
registered_never m relates coordinator a Progress.Registering = either_of BothNever (relates_to relates (register_id m.base (activity_target a))) _ _ (λ e. tt) (λ e. tt)
registered_never m relates coordinator a other = tt

fault_never : (m : Moment) (relates : Option (List ℕ)) (name : List ℕ) (a : Activity) (p : Progress) → BothNever (activity_fault m relates name a p)
unfolding activity_fault
fault_never m relates name a Progress.Creating = either_of BothNever (relates_to relates (create_id m.base (activity_target a))) _ _ (λ e. tt) (λ e. tt)
fault_never m relates name a Progress.Registering = either_of BothNever (relates_to relates (register_id m.base (activity_target a))) _ _ (λ e. tt) (λ e. tt)
fault_never m relates name a Progress.Active = tt
fault_never m relates name a (Progress.Completing n) = either_of BothNever (bytes_eq name (fault_name UnknownTransaction)) _ _ (λ e. tt) (λ e. tt)

message_never : (m : Moment) (r : Arrived) (a : Activity) (x : Message) → BothNever (on_activity m r a x)
unfolding on_activity
message_never m r a (messages.Notice n) = notice_never m r.from r.id a (initiator_of (activity_state a.progress) n)
message_never m r a (messages.CreateResponse context) = created_never m r.relates context a a.progress
message_never m r a (messages.RegisterResponse coordinator) = registered_never m r.relates coordinator a a.progress
message_never m r a (messages.Fault name) = fault_never m r.relates name a a.progress
message_never m r a other = tt

completes_quiet : (base : List ℕ) (n : Notice) (a : Activity) → AllByRecursion IsQuiet (complete_posts base n a)
completes_quiet base n a = each_quiet a.coordinator (λ to. notice_post base (activity_target a) to n) (λ to. tt)

again_quiet : (base : List ℕ) (a : Activity) (p : Progress) → AllByRecursion IsQuiet (activity_again base a p)
again_quiet base a Progress.Creating = tt
again_quiet base a Progress.Registering = by_context a.context
  where
    by_context : (c : Option Context) → AllByRecursion IsQuiet (completion_register_again base a c)
    by_context None = tt
    by_context (Some c) = (tt, tt)
again_quiet base a Progress.Active = tt
again_quiet base a (Progress.Completing n) = completes_quiet base n a

due_never : (m : Moment) (a : Activity) (d : Due) → BothNever (activity_reached m a d)
unfolding activity_reached
due_never m a Expired = tt
due_never m a Over = tt
due_never m a Unanswered = posts_never _ (again_quiet m.base a a.progress)
due_never m a Nothing = tt

ask_never : (m : Moment) (url : List ℕ) (kind : Kind) (vote : Vote) (key value : List ℕ) (a : Activity) (c : Option Context) → PostsNever (on_ask m url kind vote key value a c)
unfolding on_ask
ask_never m url kind vote key value a None = tt
ask_never m url kind vote key value a (Some c) = (quiet_never _ tt, tt)

complete_never : (m : Moment) (n : Notice) (a : Activity) → PostsNever (on_complete m n a)
unfolding on_complete
complete_never m n a = posts_never _ (completes_quiet m.base n a)

activity_never : (b : Book) (e : Event) (now : ℕ) (a : Activity) (d : Decision Activity) → MovesActivity b e now a d → BothNever d
activity_never b e now a d (at_activity r came target is) = subst BothNever (sym is) (message_never (moment_of b now) r a r.message)
activity_never b e now a d (activity_when_due came is) = subst BothNever (sym is) (due_never (moment_of b now) a (activity_due (moment_of b now) a))
activity_never b e now a d (works url kind vote key value came is) = subst BothNever (sym is) (ask_never (moment_of b now) url kind vote key value a a.context)
activity_never b e now a d (completes n l came asks is) = subst BothNever (sym is) (complete_never (moment_of b now) n a)

made_never : (b : Book) (e : Event) (now : ℕ) (id : Numbers) (a : Activity) (os : List Out) → MakesActivity b e now id a os → Never os
unfolding on_begin on_interpose
made_never b e now id a os (begins to ms came made sent) = subst Never (sym sent) (quiet_never _ tt, tt)
made_never b e now id a os (interposes to named x came found made sent) = subst Never (sym sent) (quiet_never _ tt, tt)

-- Whoever posts such a message has asked, in the book behind the step.
abbrev OutAsks : Book → Out → Type 0
OutAsks c (outs.Post p) = (i : Numbers) → IsDurablePrepare i p → HasAskedIfLeft (transaction_at c i)
OutAsks c (outs.Answer status reply) = Unit {0}

abbrev SoAsked : Outcome → Type 0
SoAsked o = AllByRecursion (OutAsks o.book) o.outs

never_asks : (c : Book) (os : List Out) → Never os → AllByRecursion (OutAsks c) os
never_asks c [] h = tt
never_asks c (outs.Post p ∷ os) (h, k) = (λ i d. absurd (h i d), never_asks c os k)
never_asks c (outs.Answer status reply ∷ os) (h, k) = (tt, never_asks c os k)

never_plain : (c : Book) (os : List Out) → Never os → Both SoAsked (plain (still c os))
never_plain c os h = plain_both SoAsked (still c os) (never_asks c os h)

decision_never : {A : Type 0} (b : Book) (put : Option A → Book) (answer : List Out) (d : Decision A) → IsAnswer answer → BothNever d → Both SoAsked (plan_of b put answer d)
decision_never b put answer (Goes c) a h =
    let r : AllByRecursion (OutAsks (put c.item)) (answer ++ map outs.Post c.posts) = never_asks (put c.item) _ (all_join OutNever answer (map outs.Post c.posts) (answer_never answer a) h) in
    record { landed = r; absent = r }
decision_never b put answer (Records r c None) a h = record {
  landed = never_asks (put c.item) _ (all_join OutNever answer (map outs.Post c.posts) (answer_never answer a) h);
  absent = never_asks b answer (answer_never answer a);
}
decision_never b put answer (Records r c (Some d)) a (h, k) = record {
  landed = never_asks (put c.item) _ (all_join OutNever answer (map outs.Post c.posts) (answer_never answer a) h);
  absent = never_asks (put d.item) _ (all_join OutNever answer (map outs.Post d.posts) (answer_never answer a) k);
}

-- a transaction that moves
left_id : (t : Transaction) (item : Option Transaction) → IsSameIfLeft t item → IfThere (λ y. transaction_id y ≡ t.id) item
left_id t None h = tt
left_id t (Some y) h = h.id

own_asks : (c : Book) (id : Numbers) (ps : List Post) → HasAskedIfLeft (transaction_at c id) → AllByRecursion (λ p. (i : Numbers) → IsDurablePrepare i p → i ≡ id) ps
    → AllByRecursion (OutAsks c) (map outs.Post ps)
own_asks c id [] h k = tt
own_asks c id (p ∷ ps) h (k, ks) = (λ i d. subst (λ j. HasAskedIfLeft (transaction_at c j)) (sym (k i d)) h, own_asks c id ps h ks)

none_asks : (c : Book) (ps : List Post) → AllByRecursion NoAsk ps → AllByRecursion (OutAsks c) (map outs.Post ps)
none_asks c [] h = tt
none_asks c (p ∷ ps) (h, k) = (λ i d. absurd (h i d), none_asks c ps k)

change_asks : (b : Book) (now : ℕ) (e : Event) (t : Transaction) (answer : List Out) (entry : Option Record) (c : Change Transaction) (late : Bool) → AreRising (map transaction_id b.transactions)
    → transaction_at b t.id ≡ Some t → IsAnswer answer → Deed e t entry c → GoesOn late t.id c
    → AllByRecursion (OutAsks (put_transaction t.id (at_time now b) c.item)) (answer ++ map outs.Post c.posts)
change_asks b now e t answer entry c late rising found a d (inl (asked, own)) =
    let after : Book = put_transaction t.id (at_time now b) c.item in
    all_join (OutAsks after) answer (map outs.Post c.posts) (never_asks after answer (answer_never answer a))
    (own_asks after t.id c.posts (subst HasAskedIfLeft (sym (find_this transaction_id t.id t c.item b.transactions rising found (left_id t c.item d.same))) asked) own)
change_asks b now e t answer entry c late rising found a d (inr (early, none)) =
    let after : Book = put_transaction t.id (at_time now b) c.item in
    all_join (OutAsks after) answer (map outs.Post c.posts) (never_asks after answer (answer_never answer a)) (none_asks after c.posts none)

decision_asks : (b : Book) (now : ℕ) (e : Event) (t : Transaction) (answer : List Out) (d : Decision Transaction) (late : Bool) → AreRising (map transaction_id b.transactions)
    → transaction_at b t.id ≡ Some t → IsAnswer answer → Deeds (Deed e t) d → GoesOnBoth late t.id d → Both SoAsked (plan_of b (put_transaction t.id (at_time now b)) answer d)
decision_asks b now e t answer (Goes c) late rising found a h k =
    let r : AllByRecursion (OutAsks (put_transaction t.id (at_time now b) c.item)) (answer ++ map outs.Post c.posts) = change_asks b now e t answer None c late rising found a h k in
    record { landed = r; absent = r }
decision_asks b now e t answer (Records r c None) late rising found a h k = record {
  landed = change_asks b now e t answer (Some r) c late rising found a h k;
  absent = never_asks b answer (answer_never answer a);
}
decision_asks b now e t answer (Records r c (Some d)) late rising found a (h, i) (k, l) = record {
  landed = change_asks b now e t answer (Some r) c late rising found a h k;
  absent = change_asks b now e t answer None d late rising found a i l;
}

shape_asks : (b : Book) (e : Event) (now : ℕ) (p : Plan) → IsReady b → AreShaped b → Shape b e now p → Both SoAsked p
shape_asks b e now p ready shaped (nothing_moves f) = subst (Both SoAsked) (sym f) (never_plain b [] tt)
shape_asks b e now p ready shaped (time_moves a os came why o f) = subst (Both SoAsked) (sym f) (never_plain (at_time now b) os (answers_never b now a os why))
shape_asks b e now p ready shaped (time_passes came f) = subst (Both SoAsked) (sym f) (never_plain (at_time now b) accepted (tt, tt))
shape_asks b e now p ready shaped (transaction_moves id t answer d stands how o f) =
    subst (Both SoAsked) (sym f)
    (decision_asks b now e t answer (with_answer (moment_of b now) t d) (has_asked t.phase) ready.order.rising.transactions
    (ap (transaction_at b) (found_id transaction_id id b.transactions t stands) ∙ stands) o (transactions_do.deeds b e now id t d ready.phases ready.finished stands how)
    (asking_goes_on.moves b e now id t d ready shaped stands how))
shape_asks b e now p ready shaped (leaf_moves id l answer d stands how o f) =
    subst (Both SoAsked) (sym f)
    (decision_never b (put_leaf l.id (at_time now b)) answer d o
    (leaf_never (moment_of b now) e l d (leaves_do.deed b e now l d (all_find LeafStands leaf_id id b.leaves l ready.leaves stands) how)))
shape_asks b e now p ready shaped (activity_moves id a answer d stands how o f) =
    subst (Both SoAsked) (sym f) (decision_never b (put_activity a.id (at_time now b)) answer d o (activity_never b e now a d how))
shape_asks b e now p ready shaped (transaction_registers id a r t stands came at says o f) =
    let g : Registration = on_register (moment_of b now) a r t in
    subst (Both SoAsked) (sym f)
    (plain_both SoAsked (registration_outcome b now g) (never_asks (registration_outcome b now g).book g.outs (enrolled_never (moment_of b now) a r t g (register_enrolls (moment_of b now) a r t))))
shape_asks b e now p ready shaped (transaction_made a c id t os came at says next made sent o f) =
    subst (Both SoAsked) (sym f)
    (never_plain (make_transaction (at_time now b) t) os (subst Never (sym sent) (create_never (moment_of b now) (length b.transactions) a c (Some id))))
shape_asks b e now p ready shaped (leaf_made a w id l os came at says next made sent o f) =
    subst (Both SoAsked) (sym f) (never_plain (make_leaf (at_time now b) l) os (subst Never (sym sent) (work_never (moment_of b now) (length b.leaves) a w (Some id))))
shape_asks b e now p ready shaped (activity_made id a os next made o f) =
    subst (Both SoAsked) (sym f) (never_plain (make_activity (at_time now b) a) os (made_never b e now id a os made))

out_asks : (c : Book) (os : List Out) (p : Post) → AllByRecursion (OutAsks c) os → IsIn (outs.Post p) os → (i : Numbers) → IsDurablePrepare i p → HasAskedIfLeft (transaction_at c i)
out_asks c [] p h k = absurd k
out_asks c (o ∷ os) p (h, hs) (inl e) = subst (OutAsks c) (sym e) h
out_asks c (o ∷ os) p (h, hs) (inr k) = out_asks c os p hs k

pub step_asks : (b : Book) (e : Event) (now : ℕ) (landed : Bool) → IsReady b → AreShaped b → (p : Post) → IsIn (outs.Post p) (step b e now landed).outs → (i : Numbers) → IsDurablePrepare i p
    → HasAskedIfLeft (transaction_at (step b e now landed).book i)
step_asks b e now landed ready shaped p j =
    out_asks (step b e now landed).book (step b e now landed).outs p (in_branch SoAsked (plan b e now) landed (shape_asks b e now (plan b e now) ready shaped (steps_touch_one b e now))) j
