-- Why a registration and an answer post what they post, and what is posted by what is made; so of each step.
use Rattle.std.specs.Prelude.{ℕ, List, [], ◌∷◌, ◌++◌, Option, Some, None, Bool, true, false, nat_lt, ◌&&◌, if◌then◌else◌, bytes_eq, length, map, ◌≡◌, refl}
use Rattle.std.specs.List.{AllByRecursion}
use Rattle.std.proofs.Common.{inl, inr, sym, subst, ap, ◌∙◌}
use Rattle.at_base.specs.declared.limits.TheConstants.{MOST_ITEMS}
use Rattle.at_base.specs.declared.fault.Fault.{Fault}
use Rattle.at_base.specs.Numbers.{Numbers}
use Rattle.at_base.specs.declared.epr.Epr.{Epr}
use Rattle.at_base.specs.declared.epr.Reply.{Reply}
use Rattle.at_base.specs.declared.epr.Reply.TheVariants as replies
use Rattle.at_base.specs.declared.notice.Kind.{Kind}
use Rattle.at_base.specs.declared.notice.Kind.TheVariants as kinds
use Rattle.at_base.specs.declared.notice.Notice.{Notice}
use Rattle.at_base.specs.declared.notice.Notice.TheVariants as notices
use Rattle.at_base.specs.declared.message.Context.{Context}
use Rattle.at_base.specs.declared.message.Create.{Create}
use Rattle.at_base.specs.declared.message.Message.{Message}
use Rattle.at_base.specs.declared.message.Message.TheVariants as messages
use Rattle.at_base.specs.declared.message.Register.{Register}
use Rattle.at_base.specs.declared.message.Work.{Work}
use Rattle.at_base.specs.declared.event.Arrived.{Arrived}
use Rattle.at_base.specs.declared.event.Event.{Event}
use Rattle.at_base.specs.declared.event.Moment.{Moment}
use Rattle.at_base.specs.declared.outs.Out.{Out}
use Rattle.at_base.specs.declared.outs.Out.TheVariants as outs
use Rattle.at_base.specs.declared.outs.Post.{Post}
use Rattle.at_base.specs.declared.record.Record.{Record}
use Rattle.at_base.specs.declared.target.Seat.{Seat}
use Rattle.at_base.specs.declared.target.Target.{Target}
use Rattle.at_base.specs.declared.target.Target.TheVariants as targets
use Rattle.at_tables.specs.Tables.{completion_of}
use Rattle.at_tables.specs.declared.cells.State.TheVariants as states
use Rattle.at_model.specs.Activities.{on_begin, on_interpose}
use Rattle.endpoints.specs.Addresses.{atomic}
use Rattle.at_model.specs.Book.{Activity, Book, Enlistment}
use Rattle.at_model.specs.Create.{create_in, create_under, on_create, refuse_create}
use Rattle.at_model.specs.Leaves.{on_work, refuse_work, work_for}
use Rattle.at_model.specs.Posts.{accepted, faulted, notice_post, replied, reply_post}
use Rattle.at_model.specs.Register.{completion_endpoint, is_late, late_prepare, new_seat, protocol_named, register_unknown, registered_reply, seat_endpoint}
use Rattle.at_model.specs.Seats.{seat_target}
use Rattle.at_model.specs.Step.{Outcome, has_committed, moment_of, outcome_cell, plan, step, stranger_cell}
use Rattle.model_laws.specs.Agreement.{IsIn}
use Rattle.model_laws.specs.Shapes.{Answers, IsAnswer, IsUnknownAt, MakesActivity, begins, committed, ignored, interposes, not_created, not_employed, not_registered, unknown, unknown_cell}
use Rattle.model_laws.proofs.DecisionLaws.{all_join, all_map, all_more}
use Rattle.model_laws.proofs.SeatRegistrations.{in_back}
use Rattle.agreement.specs.StepDeeds.{standing}
use Rattle.agreement.proofs.Posts.{to_each_all}
use Rattle.agreement.proofs.SeatedEntries.{one_of}
use Rattle.enlistments.specs.Registrations.{Enrolls, has_completion, has_seat, refuses, takes_completion, takes_seat}
use Rattle.enlistments.specs.Moves.{Answered, IsReady, Moved, Registered, activity_did, activity_made, answered, leaf_did, leaf_made, registered, rested, transaction_did, transaction_made}
use Rattle.enlistments.specs.NoticeOrigins.{OutIsSaid, Responds, Says, StepsTell, Tells, as_committed, as_no_participant, as_no_seat, names_completion, names_seat, to_late_seat}
use Rattle.enlistments.proofs.StepMoves.{step_moves}
use Rattle.enlistments.proofs.NoticeOrigins.{SaysAll, activity_told, leaf_told, transaction_told}

abbrev AllSaid : Book → Event → ℕ → Option Record → Outcome → List Out → Type 0
AllSaid b e now entry o os = AllByRecursion (OutIsSaid b e now entry o) os

-- neither a notification nor a RegisterResponse
abbrev IsSilent : Message → Type 0
IsSilent (messages.Notice n) = ⊥
IsSilent (messages.RegisterResponse c) = ⊥
IsSilent other = Unit {0}

abbrev OutIsSilent : Out → Type 0
OutIsSilent (outs.Post p) = IsSilent p.message
OutIsSilent (outs.Answer status reply) = Unit {0}

abbrev AllSilent : List Out → Type 0
AllSilent os = AllByRecursion OutIsSilent os

silent_says : (b : Book) (e : Event) (now : ℕ) (entry : Option Record) (o : Outcome) (p : Post) (x : Message) → IsSilent x → Says b e now entry o p x
silent_says b e now entry o p (messages.Notice n) h = absurd h
silent_says b e now entry o p (messages.RegisterResponse c) h = absurd h
silent_says b e now entry o p other h = tt

silent_said : (b : Book) (e : Event) (now : ℕ) (entry : Option Record) (o : Outcome) (os : List Out) → AllSilent os → AllSaid b e now entry o os
silent_said b e now entry o os h = all_more OutIsSilent (OutIsSaid b e now entry o) os one h
  where
    one : (x : Out) → OutIsSilent x → OutIsSaid b e now entry o x
    one (outs.Post p) k = silent_says b e now entry o p p.message k
    one (outs.Answer status reply) k = tt

answer_said : (b : Book) (e : Event) (now : ℕ) (entry : Option Record) (o : Outcome) (answer : List Out) → IsAnswer answer → AllSaid b e now entry o answer
answer_said b e now entry o answer (inl f) = subst (AllSaid b e now entry o) (sym f) tt
answer_said b e now entry o answer (inr f) = subst (AllSaid b e now entry o) (sym f) (tt, tt)

posts_said : (b : Book) (e : Event) (now : ℕ) (entry : Option Record) (o : Outcome) (answer : List Out) (ps : List Post) → IsAnswer answer → SaysAll b e now entry o ps
    → AllSaid b e now entry o (answer ++ map outs.Post ps)
posts_said b e now entry o answer ps a h =
    all_join (OutIsSaid b e now entry o) answer (map outs.Post ps) (answer_said b e now entry o answer a) (all_map (OutIsSaid b e now entry o) outs.Post ps h)

-- faults and replies
replied_silent : (r : Reply) (id : Option (List ℕ)) (x : Message) → IsSilent x → AllSilent (replied r id x)
replied_silent replies.Anonymous id x h = (tt, tt)
replied_silent replies.Nobody id x h = (tt, tt)
replied_silent (replies.At to) id x h = (tt, (h, tt))

faulted_silent : (r : Reply) (id : Option (List ℕ)) (drawn : Fault) → AllSilent (faulted r id drawn)
faulted_silent replies.Anonymous id drawn = (tt, tt)
faulted_silent replies.Nobody id drawn = (tt, tt)
faulted_silent (replies.At to) id drawn = (tt, (tt, tt))

either_silent : (c : Bool) (os qs : List Out) → AllSilent os → AllSilent qs → AllSilent (if c then os else qs)
either_silent true os qs h k = h
either_silent false os qs h k = k

-- what is made
under_silent : (m : Moment) (id : Numbers) (a : Arrived) (c : Create) (current : Context) (r : Reply) → AllSilent (create_under m id a c current r).outs
unfolding create_under
under_silent m id a c current (replies.At reply) = (tt, (tt, (tt, tt)))
under_silent m id a c current replies.Anonymous = faulted_silent a.fault a.id _
under_silent m id a c current replies.Nobody = faulted_silent a.fault a.id _

create_in_silent : (m : Moment) (id : Numbers) (a : Arrived) (c : Create) (current : Option Context) → AllSilent (create_in m id a c current).outs
unfolding create_in
create_in_silent m id a c None = replied_silent a.reply a.id _ tt
create_in_silent m id a c (Some current) = under_silent m id a c current a.reply

create_silent : (m : Moment) (live : ℕ) (a : Arrived) (c : Create) (next : Option Numbers) → AllSilent (on_create m live a c next).outs
unfolding on_create
create_silent m live a c None = faulted_silent a.fault a.id _
create_silent m live a c (Some id) = by_test (bytes_eq c.coordination atomic && nat_lt live MOST_ITEMS)
  where
    by_test : (t : Bool) → AllSilent (if t then create_in m id a c c.current else refuse_create a).outs
    by_test true = create_in_silent m id a c c.current
    by_test false = faulted_silent a.fault a.id _

work_for_silent : (m : Moment) (id : Numbers) (a : Arrived) (w : Work) (r : Reply) → AllSilent (work_for m id a w r).outs
work_for_silent m id a w (replies.At reply) = (tt, (tt, tt))
work_for_silent m id a w replies.Anonymous = replied_silent a.reply a.id messages.WorkRefused tt
work_for_silent m id a w replies.Nobody = replied_silent a.reply a.id messages.WorkRefused tt

work_silent : (m : Moment) (live : ℕ) (a : Arrived) (w : Work) (next : Option Numbers) → AllSilent (on_work m live a w next).outs
unfolding on_work
work_silent m live a w None = replied_silent a.reply a.id messages.WorkRefused tt
work_silent m live a w (Some id) = by_test (nat_lt live MOST_ITEMS)
  where
    by_test : (t : Bool) → AllSilent (if t then work_for m id a w a.reply else refuse_work a).outs
    by_test true = work_for_silent m id a w a.reply
    by_test false = replied_silent a.reply a.id messages.WorkRefused tt

made_silent : (b : Book) (e : Event) (now : ℕ) (id : Numbers) (a : Activity) (os : List Out) → MakesActivity b e now id a os → AllSilent os
unfolding on_begin on_interpose
made_silent b e now id a os (begins coordinator ms came is sent) = subst AllSilent (sym sent) (tt, tt)
made_silent b e now id a os (interposes coordinator named x came found is sent) = subst AllSilent (sym sent) (tt, tt)

unknown_silent : (a : Arrived) (r : Register) (kind : Option (Option Kind)) → AllSilent (register_unknown a r kind)
unfolding register_unknown
unknown_silent a r None = faulted_silent a.fault a.id _
unknown_silent a r (Some kind) = faulted_silent a.fault a.id _

-- a stranger's answers
seat_unknown : (b : Book) (e : Event) (now : ℕ) (entry : Option Record) (o : Outcome) (d : Answered b e now entry o) (id : Numbers) (s : Seat) (kind : Kind) (n : Notice)
    → d.arrived.target ≡ targets.Coordinator id s → IsUnknownAt b (targets.Coordinator id s) → s.kind ≡ kind → d.arrived.message ≡ messages.Notice n
    → SaysAll b e now entry o (stranger_cell b.base (targets.Coordinator id s) d.arrived.from d.arrived.id (unknown_cell (targets.Coordinator id (record { number = s.number; kind = kind })) n))
seat_unknown b e now entry o d id s kinds.Durable notices.Prepared at none durable says =
    to_each_all (λ p. Says b e now entry o p p.message) d.arrived.from _ (λ to f. as_no_seat d id s to at durable none says f refl refl)
seat_unknown b e now entry o d id s kinds.Volatile notices.Prepared at none k says = to_each_all (λ p. Says b e now entry o p p.message) d.arrived.from _ (λ to f. tt)
seat_unknown b e now entry o d id s kinds.Durable notices.ReadOnly at none k says = tt
seat_unknown b e now entry o d id s kinds.Durable notices.Aborted at none k says = tt
seat_unknown b e now entry o d id s kinds.Durable notices.Committed at none k says = tt
seat_unknown b e now entry o d id s kinds.Durable notices.Prepare at none k says = tt
seat_unknown b e now entry o d id s kinds.Durable notices.Commit at none k says = tt
seat_unknown b e now entry o d id s kinds.Durable notices.Rollback at none k says = tt
seat_unknown b e now entry o d id s kinds.Volatile notices.ReadOnly at none k says = tt
seat_unknown b e now entry o d id s kinds.Volatile notices.Aborted at none k says = tt
seat_unknown b e now entry o d id s kinds.Volatile notices.Committed at none k says = tt
seat_unknown b e now entry o d id s kinds.Volatile notices.Prepare at none k says = tt
seat_unknown b e now entry o d id s kinds.Volatile notices.Commit at none k says = tt
seat_unknown b e now entry o d id s kinds.Volatile notices.Rollback at none k says = tt

participant_unknown : (b : Book) (e : Event) (now : ℕ) (entry : Option Record) (o : Outcome) (d : Answered b e now entry o) (id : Numbers) (kind : Kind) (n : Notice)
    → d.arrived.target ≡ targets.Participant id kind → IsUnknownAt b (targets.Participant id kind) → d.arrived.message ≡ messages.Notice n
    → SaysAll b e now entry o (stranger_cell b.base (targets.Participant id kind) d.arrived.from d.arrived.id (unknown_cell (targets.Participant id kind) n))
participant_unknown b e now entry o d id kind notices.Prepare at none says =
    to_each_all (λ p. Says b e now entry o p p.message) d.arrived.from _ (λ to f. as_no_participant d id kind to notices.Prepare at none says refl f refl)
participant_unknown b e now entry o d id kind notices.Commit at none says =
    to_each_all (λ p. Says b e now entry o p p.message) d.arrived.from _ (λ to f. as_no_participant d id kind to notices.Commit at none says refl f refl)
participant_unknown b e now entry o d id kind notices.Rollback at none says =
    to_each_all (λ p. Says b e now entry o p p.message) d.arrived.from _ (λ to f. as_no_participant d id kind to notices.Rollback at none says refl f refl)
participant_unknown b e now entry o d id kind notices.Prepared at none says = tt
participant_unknown b e now entry o d id kind notices.ReadOnly at none says = tt
participant_unknown b e now entry o d id kind notices.Aborted at none says = tt
participant_unknown b e now entry o d id kind notices.Committed at none says = tt

completion_unknown : (b : Book) (e : Event) (now : ℕ) (entry : Option Record) (o : Outcome) (T : Target) (id : Numbers) (from : Option Epr) (i : Option (List ℕ)) (n : Notice)
    → SaysAll b e now entry o (stranger_cell b.base T from i (unknown_cell (targets.Completion id) n))
completion_unknown b e now entry o T id from i notices.Commit = to_each_all (λ p. Says b e now entry o p p.message) from _ (λ to f. tt)
completion_unknown b e now entry o T id from i notices.Rollback = to_each_all (λ p. Says b e now entry o p p.message) from _ (λ to f. tt)
completion_unknown b e now entry o T id from i notices.Prepare = tt
completion_unknown b e now entry o T id from i notices.Prepared = tt
completion_unknown b e now entry o T id from i notices.ReadOnly = tt
completion_unknown b e now entry o T id from i notices.Aborted = tt
completion_unknown b e now entry o T id from i notices.Committed = tt

initiator_unknown : (b : Book) (e : Event) (now : ℕ) (entry : Option Record) (o : Outcome) (T : Target) (id : Numbers) (from : Option Epr) (i : Option (List ℕ)) (n : Notice)
    → SaysAll b e now entry o (stranger_cell b.base T from i (unknown_cell (targets.Initiator id) n))
initiator_unknown b e now entry o T id from i notices.Commit = tt
initiator_unknown b e now entry o T id from i notices.Rollback = tt
initiator_unknown b e now entry o T id from i notices.Prepare = tt
initiator_unknown b e now entry o T id from i notices.Prepared = tt
initiator_unknown b e now entry o T id from i notices.ReadOnly = tt
initiator_unknown b e now entry o T id from i notices.Aborted = tt
initiator_unknown b e now entry o T id from i notices.Committed = tt

stranger_told : (b : Book) (e : Event) (now : ℕ) (entry : Option Record) (o : Outcome) (d : Answered b e now entry o) (T : Target) (n : Notice) → d.arrived.target ≡ T
    → IsUnknownAt b T → d.arrived.message ≡ messages.Notice n → SaysAll b e now entry o (stranger_cell b.base T d.arrived.from d.arrived.id (unknown_cell T n))
stranger_told b e now entry o d (targets.Coordinator id s) n at none says = seat_unknown b e now entry o d id s s.kind n at none refl says
stranger_told b e now entry o d (targets.Participant id kind) n at none says = participant_unknown b e now entry o d id kind n at none says
stranger_told b e now entry o d (targets.Completion id) n at none says = completion_unknown b e now entry o (targets.Completion id) id d.arrived.from d.arrived.id n
stranger_told b e now entry o d (targets.Initiator id) n at none says = initiator_unknown b e now entry o (targets.Initiator id) id d.arrived.from d.arrived.id n
stranger_told b e now entry o d targets.Activation n at none says = tt
stranger_told b e now entry o d targets.Work n at none says = tt
stranger_told b e now entry o d (targets.Registration id) n at none says = tt

-- a kept outcome
outcome_told : (b : Book) (e : Event) (now : ℕ) (entry : Option Record) (o : Outcome) (d : Answered b e now entry o) (id : Numbers) (n : Notice) → d.arrived.target ≡ targets.Completion id
    → has_committed b id ≡ true → d.arrived.message ≡ messages.Notice n
    → SaysAll b e now entry o (outcome_cell b.base (targets.Completion id) d.arrived.from d.arrived.id (completion_of states.Done n))
outcome_told b e now entry o d id notices.Commit at kept says =
    to_each_all (λ p. Says b e now entry o p p.message) d.arrived.from _ (λ to f. as_committed d id to at kept says f refl refl)
outcome_told b e now entry o d id notices.Rollback at kept says = to_each_all (λ p. Says b e now entry o p p.message) d.arrived.from _ (λ to f. tt)
outcome_told b e now entry o d id notices.Prepare at kept says = tt
outcome_told b e now entry o d id notices.Prepared at kept says = tt
outcome_told b e now entry o d id notices.ReadOnly at kept says = tt
outcome_told b e now entry o d id notices.Aborted at kept says = tt
outcome_told b e now entry o d id notices.Committed at kept says = tt

-- an answer
answers_told : (b : Book) (e : Event) (now : ℕ) (entry : Option Record) (o : Outcome) (d : Answered b e now entry o) (os : List Out) → Answers b now d.arrived os → AllSaid b e now entry o os
answers_told b e now entry o d os (ignored f) = subst (AllSaid b e now entry o) (sym f) (tt, tt)
answers_told b e now entry o d os (unknown n says none f) =
    subst (AllSaid b e now entry o) (sym f) (posts_said b e now entry o accepted _ (inr refl) (stranger_told b e now entry o d d.arrived.target n refl none says))
answers_told b e now entry o d os (committed n id says at kept f) =
    subst (AllSaid b e now entry o) (sym f)
    (posts_said b e now entry o accepted _ (inr refl)
    (subst (λ T. SaysAll b e now entry o (outcome_cell b.base T d.arrived.from d.arrived.id (completion_of states.Done n))) (sym at) (outcome_told b e now entry o d id n at kept says)))
answers_told b e now entry o d os (not_created c at says none f) =
    subst (AllSaid b e now entry o) (sym f) (silent_said b e now entry o _ (create_silent (moment_of b now) (length b.transactions) d.arrived c _))
answers_told b e now entry o d os (not_registered id r at says none f) =
    subst (AllSaid b e now entry o) (sym f) (silent_said b e now entry o _ (unknown_silent d.arrived r (protocol_named r.protocol)))
answers_told b e now entry o d os (not_employed w at says none f) =
    subst (AllSaid b e now entry o) (sym f) (silent_said b e now entry o _ (work_silent (moment_of b now) (length b.leaves) d.arrived w _))

-- a registration
reply_told : (b : Book) (e : Event) (now : ℕ) (entry : Option Record) (o : Outcome) (a : Arrived) (c : Epr) (r : Reply)
    → ((to : Epr) (p : Post) → r ≡ replies.At to → p ≡ reply_post (Some to) a.id (messages.RegisterResponse c) → Responds b e now entry o c p)
    → AllSaid b e now entry o (replied r a.id (messages.RegisterResponse c))
reply_told b e now entry o a c replies.Anonymous f = (tt, tt)
reply_told b e now entry o a c replies.Nobody f = (tt, tt)
reply_told b e now entry o a c (replies.At to) f = (tt, (f to _ refl refl, tt))

late_told : (b : Book) (e : Event) (now : ℕ) (entry : Option Record) (o : Outcome) (id : Numbers) (s : Enlistment) (late : Bool)
    → (late ≡ true → Tells b e now entry o notices.Prepare (notice_post b.base (seat_target id s) s.participant notices.Prepare))
    → AllSaid b e now entry o (late_prepare (moment_of b now) id late s)
late_told b e now entry o id s true f = (f refl, tt)
late_told b e now entry o id s false f = tt

last_in : {A : Type 0} (x : A) (xs : List A) → IsIn x (xs ++ x ∷ [])
last_in x xs = in_back x xs (x ∷ []) (inl refl)

enrolled_told : (b : Book) (e : Event) (now : ℕ) (entry : Option Record) (o : Outcome) (d : Registered b e now entry o)
    → Enrolls (moment_of b now) d.arrived d.request d.old d.gives → AllSaid b e now entry o d.gives.outs
enrolled_told b e now entry o d (takes_seat kind protocol may is) =
    let s : Enlistment = new_seat d.old d.request.participant kind in
    let there : IsIn s d.gives.transaction.seats = subst (λ g. IsIn s g.transaction.seats) (sym is) (last_in s d.old.seats) in
    subst (λ g. AllSaid b e now entry o g.outs) (sym is)
    (all_join (OutIsSaid b e now entry o) (registered_reply d.arrived (seat_endpoint b.base d.old.id s)) _
    (reply_told b e now entry o d.arrived (seat_endpoint b.base d.old.id s) d.arrived.reply
    (λ to p f g. names_seat d kind s protocol there refl refl refl (record { to = to; asked = f; is = g })))
    (late_told b e now entry o d.old.id s (is_late d.old.phase kind) (λ f. to_late_seat d kind f refl there refl)))
enrolled_told b e now entry o d (takes_completion protocol may is) =
    subst (λ g. AllSaid b e now entry o g.outs) (sym is)
    (reply_told b e now entry o d.arrived (completion_endpoint b.base d.old.id) d.arrived.reply
    (λ to p f g.
    names_completion d (record { initiator = d.request.participant; state = states.Active }) protocol (ap (λ x. x.transaction.completion) is) refl refl
    (record { to = to; asked = f; is = g })))
enrolled_told b e now entry o d (has_seat kind s protocol there k who is) =
    subst (λ g. AllSaid b e now entry o g.outs) (sym is)
    (reply_told b e now entry o d.arrived (seat_endpoint b.base d.old.id s) d.arrived.reply
    (λ to p f g. names_seat d kind s protocol (subst (λ x. IsIn s x.transaction.seats) (sym is) there) k who refl (record { to = to; asked = f; is = g })))
enrolled_told b e now entry o d (has_completion c protocol there who is) =
    subst (λ g. AllSaid b e now entry o g.outs) (sym is)
    (reply_told b e now entry o d.arrived (completion_endpoint b.base d.old.id) d.arrived.reply
    (λ to p f g. names_completion d c protocol (ap (λ x. x.transaction.completion) is ∙ there) who refl (record { to = to; asked = f; is = g })))
enrolled_told b e now entry o d (refuses name is) =
    subst (λ g. AllSaid b e now entry o g.outs) (sym is) (silent_said b e now entry o _ (faulted_silent d.arrived.fault d.arrived.id name))

-- a step
outs_same : (b : Book) (e : Event) (now : ℕ) (entry : Option Record) (o : Outcome) (os : List Out) → o.outs ≡ os → AllSaid b e now entry o os → AllSaid b e now entry o o.outs
outs_same b e now entry o os f h = subst (AllSaid b e now entry o) (sym f) h

moved_said : (b : Book) (e : Event) (now : ℕ) (entry : Option Record) (o : Outcome) → Moved b e now entry o → AllSaid b e now entry o o.outs
moved_said b e now entry o (transaction_did d) = outs_same b e now entry o _ d.outs_are (posts_said b e now entry o d.answer d.change.posts d.answers (transaction_told b e now entry o d))
moved_said b e now entry o (leaf_did d) = outs_same b e now entry o _ d.outs_are (posts_said b e now entry o d.answer d.change.posts d.answers (leaf_told b e now entry o d))
moved_said b e now entry o (activity_did d) = outs_same b e now entry o _ d.outs_are (posts_said b e now entry o d.answer d.change.posts d.answers (activity_told b e now entry o d))
moved_said b e now entry o (registered d) = outs_same b e now entry o d.gives.outs (ap (λ (x : Outcome). x.outs) d.is) (enrolled_told b e now entry o d d.enrolls)
moved_said b e now entry o (transaction_made d) =
    outs_same b e now entry o _ (ap (λ (x : Outcome). x.outs) d.is) (silent_said b e now entry o _ (create_silent (moment_of b now) (length b.transactions) d.arrived d.request (Some d.id)))
moved_said b e now entry o (leaf_made d) =
    outs_same b e now entry o _ (ap (λ (x : Outcome). x.outs) d.is) (silent_said b e now entry o _ (work_silent (moment_of b now) (length b.leaves) d.arrived d.request (Some d.id)))
moved_said b e now entry o (activity_made d) =
    outs_same b e now entry o d.posts (ap (λ (x : Outcome). x.outs) d.is) (silent_said b e now entry o d.posts (made_silent b e now d.id d.new d.posts d.makes))
moved_said b e now entry o (answered d) = outs_same b e now entry o d.answer (ap (λ (x : Outcome). x.outs) d.is) (answers_told b e now entry o d d.answer d.answers)
moved_said b e now entry o (rested d) = outs_same b e now entry o d.answer d.outs_are (answer_said b e now entry o d.answer d.answers)

step_said : (b : Book) (e : Event) (now : ℕ) (landed : Bool) → IsReady b
    → AllSaid b e now (standing landed (plan b e now).entry) (step b e now landed) (step b e now landed).outs
step_said b e now landed ready = moved_said b e now (standing landed (plan b e now).entry) (step b e now landed) (step_moves b e now landed ready)

pub steps_tell : StepsTell
steps_tell = record {
  says = step_said;
  told = λ b e now landed ready p n i f.
      subst (Says b e now (standing landed (plan b e now).entry) (step b e now landed) p) f
      (one_of (OutIsSaid b e now (standing landed (plan b e now).entry) (step b e now landed)) (step b e now landed).outs (outs.Post p) (step_said b e now landed ready) i);
  responds = λ b e now landed ready p c i f.
      subst (Says b e now (standing landed (plan b e now).entry) (step b e now landed) p) f
      (one_of (OutIsSaid b e now (standing landed (plan b e now).entry) (step b e now landed)) (step b e now landed).outs (outs.Post p) (step_said b e now landed ready) i);
}
