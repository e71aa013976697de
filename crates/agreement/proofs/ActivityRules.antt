-- Each rule of activities is one of the deeds.
use Rattle.std.specs.Prelude.{ℕ, List, ◌+◌, Option, Some, None, Bool, true, false, ◌≡◌, ◌⊎◌, refl, ◌&&◌, if◌then◌else◌, bytes_eq}
use Rattle.std.proofs.Common.{inl, inr, sym, subst, ap, ◌∙◌}
use Rattle.std.proofs.lemmas.Slice.Eq.{bytes_eq-Decides}
use Rattle.at_base.specs.declared.fault.Fault.TheVariants.{UnknownTransaction}
use Rattle.at_base.specs.Names.{fault_name}
use Rattle.at_base.specs.declared.epr.Epr.{Epr}
use Rattle.at_base.specs.declared.notice.Kind.{Kind}
use Rattle.at_base.specs.declared.notice.Vote.{Vote}
use Rattle.at_base.specs.declared.notice.Notice.{Notice}
use Rattle.at_base.specs.declared.notice.Notice.TheVariants as notices
use Rattle.at_base.specs.declared.message.Message.{Message}
use Rattle.at_base.specs.declared.message.Message.TheVariants as messages
use Rattle.at_base.specs.declared.message.Context.{Context}
use Rattle.at_base.specs.declared.event.Arrived.{Arrived}
use Rattle.at_base.specs.declared.event.Item.TheVariants as items
use Rattle.at_base.specs.declared.event.Local.{Local}
use Rattle.at_base.specs.declared.event.Local.TheVariants as locals
use Rattle.at_base.specs.declared.event.Event.{Event}
use Rattle.at_base.specs.declared.event.Event.TheVariants as events
use Rattle.at_base.specs.declared.event.Moment.{Moment}
use Rattle.at_base.specs.declared.outs.Told.{Told}
use Rattle.at_base.specs.declared.outs.Told.TheVariants as tellings
use Rattle.at_tables.specs.declared.cells.State.TheVariants as states
use Rattle.at_tables.specs.Tables.{initiator_of}
use Rattle.at_model.specs.Book.{Book, Activity, Progress}
use Rattle.at_model.specs.Moves.{Decision, Goes, ignored}
use Rattle.at_model.specs.Activities.{activity_target, activity_act, activity_notice, activity_created, activity_fault, activity_registered, is_active, is_begun, on_activity, on_ask, on_complete, told, Refusal, Stale}
use Rattle.endpoints.specs.Addresses.{create_id, register_id}
use Rattle.at_model.specs.Arrivals.{relates_to}
use Rattle.at_model.specs.Due.{Expired, Unanswered, Nothing, has_come, is_quiet, activity_due, activity_reached}
use Rattle.at_model.specs.Step.{at_time, put_activity, activity_at, moment_of, only_begun, refuses_named, works_left}
use Rattle.model_laws.specs.Shapes.{MovesActivity, at_activity, activity_when_due, works, completes, completion_request}
use Rattle.model_laws.proofs.DecisionLaws.{first_true, second_true}
use Rattle.agreement.specs.Branches.{InBranches}
use Rattle.agreement.specs.ActivityDeeds.{Completes, ActivityStands, creates, registers, runs, runs_under, CameToActivity, rests, misled, created, interposed, registered, registers_again, asks_again, asks, ActivityTells, committed, aborted, uncreated, unregistered, unknown, expired, ActivityDeed, idles, tells, IsTaken, NeverUndone, ActivitiesDo}
use Rattle.agreement.specs.ActivityDeeds as deeds
use Rattle.agreement.proofs.ActivityPosts.{deed_says}
use Rattle.agreement.proofs.Branches.{became}

abbrev pub Does : Moment → Event → Activity → Decision Activity → Type 0
Does m e a d = InBranches (ActivityDeed m e a) NeverUndone d

-- an activity as it stands
abbrev creating : Activity → Activity
creating a = record a { progress = Progress.Creating; context = None; coordinator = None }

abbrev registering : Activity → Context → Activity
registering a context = record a { progress = Progress.Registering; context = Some context; coordinator = None }

abbrev running : Activity → Context → Option Epr → Activity
running a context to = record a { progress = Progress.Active; context = Some context; coordinator = to }

abbrev completing : Activity → Notice → Context → Epr → Activity
completing a n context to = record a { progress = Progress.Completing n; context = Some context; coordinator = Some to }

is_creating : (a : Activity) → a.progress ≡ Progress.Creating → a.context ≡ None → a.coordinator ≡ None → a ≡ creating a
is_creating a e f g i = record a { progress = e i; context = f i; coordinator = g i }

is_registering : (a : Activity) (context : Context) → a.progress ≡ Progress.Registering → a.context ≡ Some context → a.coordinator ≡ None → a ≡ registering a context
is_registering a context e f g i = record a { progress = e i; context = f i; coordinator = g i }

is_running : (a : Activity) (context : Context) (to : Option Epr) → a.progress ≡ Progress.Active → a.context ≡ Some context → a.coordinator ≡ to → a ≡ running a context to
is_running a context to e f g i = record a { progress = e i; context = f i; coordinator = g i }

is_completing : (a : Activity) (n : Notice) (context : Context) (to : Epr) → a.progress ≡ Progress.Completing n → a.context ≡ Some context → a.coordinator ≡ Some to → a ≡ completing a n context to
is_completing a n context to e f g i = record a { progress = e i; context = f i; coordinator = g i }

idle : (m : Moment) (e : Event) (a : Activity) → Does m e a (ignored a)
idle m e a = idles a (rests refl refl) refl refl refl

tell : (m : Moment) (e : Event) (a : Activity) (what : Told) → ActivityTells m e a what → Does m e a (told what a)
tell m e a what why = tells what why refl refl refl refl

abbrev came_to : (e : Event) (r : Arrived) (a : Activity) (x : Message) → e ≡ events.Arrived r → r.target ≡ activity_target a → r.message ≡ x → CameToActivity e a x
came_to e r a x f g h = record { arrived = r; event = f; target = g; message = h }

either : (m : Moment) (e : Event) (a : Activity) (b : Bool) (d x : Decision Activity) → (b ≡ true → Does m e a d) → (b ≡ false → Does m e a x) → Does m e a (if b then d else x)
either m e a true d x h k = h refl
either m e a false d x h k = k refl

-- notifications
early_notice : (m : Moment) (e : Event) (r : Arrived) (a : Activity) (n : Notice) → Does m e a (activity_notice m r.from r.id a (initiator_of states.None n))
unfolding activity_notice activity_act
early_notice m e r a notices.Prepare = idle m e a
early_notice m e r a notices.Commit = idle m e a
early_notice m e r a notices.Rollback = idle m e a
early_notice m e r a notices.Prepared = idle m e a
early_notice m e r a notices.ReadOnly = idle m e a
early_notice m e r a notices.Aborted = idle m e a
early_notice m e r a notices.Committed = idle m e a

running_notice : (m : Moment) (e : Event) (r : Arrived) (a : Activity) (n : Notice) → a.progress ≡ Progress.Active → e ≡ events.Arrived r → r.target ≡ activity_target a → r.message ≡ messages.Notice n
    → Does m e a (activity_notice m r.from r.id a (initiator_of states.Active n))
unfolding activity_notice activity_act
running_notice m e r a notices.Prepare p f g h = idle m e a
running_notice m e r a notices.Commit p f g h = idle m e a
running_notice m e r a notices.Rollback p f g h = idle m e a
running_notice m e r a notices.Prepared p f g h = idle m e a
running_notice m e r a notices.ReadOnly p f g h = idle m e a
running_notice m e r a notices.Aborted p f g h = tell m e a tellings.Aborted (aborted (came_to e r a _ f g h) (inl p) refl)
running_notice m e r a notices.Committed p f g h = idles a (misled (came_to e r a _ f g h) p refl refl) refl refl refl

completing_notice : (m : Moment) (e : Event) (r : Arrived) (a : Activity) (asked n : Notice) → a.progress ≡ Progress.Completing asked → e ≡ events.Arrived r → r.target ≡ activity_target a
    → r.message ≡ messages.Notice n → Does m e a (activity_notice m r.from r.id a (initiator_of states.Completing n))
unfolding activity_notice activity_act
completing_notice m e r a asked notices.Prepare p f g h = idle m e a
completing_notice m e r a asked notices.Commit p f g h = idle m e a
completing_notice m e r a asked notices.Rollback p f g h = idle m e a
completing_notice m e r a asked notices.Prepared p f g h = idle m e a
completing_notice m e r a asked notices.ReadOnly p f g h = idle m e a
completing_notice m e r a asked notices.Aborted p f g h = tell m e a tellings.Aborted (aborted (came_to e r a _ f g h) (inr (asked, p)) refl)
completing_notice m e r a asked notices.Committed p f g h = tell m e a tellings.Committed (committed asked (came_to e r a _ f g h) p refl)

-- messages
creating_message : (m : Moment) (e : Event) (r : Arrived) (a : Activity) (x : Message) → e ≡ events.Arrived r → r.target ≡ activity_target a → r.message ≡ x
    → Does m e (creating a) (on_activity m r (creating a) x)
unfolding on_activity activity_created activity_registered activity_fault
creating_message m e r a (messages.Notice n) f g h = early_notice m e r (creating a) n
creating_message m e r a (messages.CreateResponse context) f g h =
    either m e (creating a) (relates_to r.relates (create_id m.base (activity_target a))) _ _
    (λ k. either m e (creating a) (is_begun a) _ _
    (λ i. idles (record (creating a) { progress = Progress.Registering; context = Some context; sent = Some m.now }) (created context (came_to e r (creating a) _ f g h) k refl i refl refl) refl refl refl)
    (λ i. idles (record (creating a) { progress = Progress.Active; context = Some context }) (interposed context (came_to e r (creating a) _ f g h) k refl i refl refl) refl refl refl))
    (λ k. idle m e (creating a))
creating_message m e r a (messages.RegisterResponse to) f g h = idle m e (creating a)
creating_message m e r a (messages.Fault name) f g h =
    either m e (creating a) (relates_to r.relates (create_id m.base (activity_target a))) _ _
    (λ k. tell m e (creating a) tellings.Refused (uncreated name (came_to e r (creating a) _ f g h) k refl refl))
    (λ k. idle m e (creating a))
creating_message m e r a other f g h = idle m e (creating a)

registering_message : (m : Moment) (e : Event) (r : Arrived) (a : Activity) (context : Context) (x : Message) → e ≡ events.Arrived r → r.target ≡ activity_target a → r.message ≡ x
    → Does m e (registering a context) (on_activity m r (registering a context) x)
unfolding on_activity activity_created activity_registered activity_fault
registering_message m e r a context (messages.Notice n) f g h = early_notice m e r (registering a context) n
registering_message m e r a context (messages.CreateResponse new) f g h = idle m e (registering a context)
registering_message m e r a context (messages.RegisterResponse to) f g h =
    either m e (registering a context) (relates_to r.relates (register_id m.base (activity_target a))) _ _
    (λ k. idles (running a context (Some to)) (registered to (came_to e r (registering a context) _ f g h) k refl refl refl) refl refl refl)
    (λ k. idle m e (registering a context))
registering_message m e r a context (messages.Fault name) f g h =
    either m e (registering a context) (relates_to r.relates (register_id m.base (activity_target a))) _ _
    (λ k. tell m e (registering a context) tellings.Refused (unregistered name (came_to e r (registering a context) _ f g h) k refl refl))
    (λ k. idle m e (registering a context))
registering_message m e r a context other f g h = idle m e (registering a context)

running_message : (m : Moment) (e : Event) (r : Arrived) (a : Activity) (context : Context) (to : Option Epr) (x : Message) → e ≡ events.Arrived r → r.target ≡ activity_target a → r.message ≡ x
    → Does m e (running a context to) (on_activity m r (running a context to) x)
unfolding on_activity activity_created activity_registered activity_fault
running_message m e r a context to (messages.Notice n) f g h = running_notice m e r (running a context to) n refl f g h
running_message m e r a context to (messages.CreateResponse new) f g h = idle m e (running a context to)
running_message m e r a context to (messages.RegisterResponse other) f g h = idle m e (running a context to)
running_message m e r a context to (messages.Fault name) f g h = idle m e (running a context to)
running_message m e r a context to other f g h = idle m e (running a context to)

same_name : (e : Event) (a : Activity) (name : List ℕ) → bytes_eq name (fault_name UnknownTransaction) ≡ true → CameToActivity e a (messages.Fault name) → CameToActivity e a (messages.Fault (fault_name UnknownTransaction))
same_name e a name f came = subst (λ x. CameToActivity e a (messages.Fault x)) ((bytes_eq-Decides name (fault_name UnknownTransaction)).0 f) came

completing_message : (m : Moment) (e : Event) (r : Arrived) (a : Activity) (asked : Notice) (context : Context) (to : Epr) (x : Message) → e ≡ events.Arrived r → r.target ≡ activity_target a → r.message ≡ x
    → Does m e (completing a asked context to) (on_activity m r (completing a asked context to) x)
unfolding on_activity activity_created activity_registered activity_fault
completing_message m e r a asked context to (messages.Notice n) f g h = completing_notice m e r (completing a asked context to) asked n refl f g h
completing_message m e r a asked context to (messages.CreateResponse new) f g h = idle m e (completing a asked context to)
completing_message m e r a asked context to (messages.RegisterResponse other) f g h = idle m e (completing a asked context to)
completing_message m e r a asked context to (messages.Fault name) f g h =
    either m e (completing a asked context to) (bytes_eq name (fault_name UnknownTransaction)) _ _
    (λ k. tell m e (completing a asked context to) tellings.Unknown
    (unknown asked (same_name e (completing a asked context to) name k (came_to e r (completing a asked context to) _ f g h)) refl refl))
    (λ k. idle m e (completing a asked context to))
completing_message m e r a asked context to other f g h = idle m e (completing a asked context to)

-- when it is due
abbrev DuesDo : Moment → Event → Activity → Type 0
DuesDo m e a = Does m e a (activity_reached m a (activity_due m a))

due_either : (m : Moment) (e : Event) (a : Activity) (late quiet : Bool) → (late ≡ true → Does m e a (activity_reached m a Expired)) → (quiet ≡ true → Does m e a (activity_reached m a Unanswered))
    → Does m e a (activity_reached m a (if late then Expired else if quiet then Unanswered else Nothing))
unfolding activity_reached
due_either m e a true quiet h k = h refl
due_either m e a false true h k = k refl
due_either m e a false false h k = idle m e a

never : (b : Bool) → (b && false) ≡ true → ⊥
never true e = cc
never false e = cc

creating_due : (m : Moment) (e : Event) (a : Activity) → e ≡ events.Due (items.Activity a.id) → DuesDo m e (creating a)
unfolding activity_reached
creating_due m e a came =
    due_either m e (creating a) ((is_begun a && true) && has_come m.now a.deadline) (is_quiet m.now a.sent && false)
    (λ f. tell m e (creating a) tellings.Unknown (expired came (first_true (is_begun a) true (first_true (is_begun a && true) (has_come m.now a.deadline) f)) (inl refl) (second_true (is_begun a && true) (has_come m.now a.deadline) f) refl))
    (λ f. absurd (never (is_quiet m.now a.sent) f))

registering_due : (m : Moment) (e : Event) (a : Activity) (context : Context) → e ≡ events.Due (items.Activity a.id) → DuesDo m e (registering a context)
unfolding activity_reached
registering_due m e a context came =
    due_either m e (registering a context) ((is_begun a && true) && has_come m.now a.deadline) (is_quiet m.now a.sent && true)
    (λ f. tell m e (registering a context) tellings.Unknown
    (expired came (first_true (is_begun a) true (first_true (is_begun a && true) (has_come m.now a.deadline) f)) (inr refl) (second_true (is_begun a && true) (has_come m.now a.deadline) f) refl))
    (λ f. idles (record (registering a context) { sent = Some m.now }) (registers_again context came refl refl refl refl) refl refl refl)

running_due : (m : Moment) (e : Event) (a : Activity) (context : Context) (to : Option Epr) → DuesDo m e (running a context to)
unfolding activity_reached
running_due m e a context to =
    due_either m e (running a context to) ((is_begun a && false) && has_come m.now a.deadline) (is_quiet m.now a.sent && false)
    (λ f. absurd (never (is_begun a) (first_true (is_begun a && false) (has_come m.now a.deadline) f))) (λ f. absurd (never (is_quiet m.now a.sent) f))

completing_due : (m : Moment) (e : Event) (a : Activity) (n : Notice) (context : Context) (to : Epr) → Completes n → e ≡ events.Due (items.Activity a.id) → DuesDo m e (completing a n context to)
unfolding activity_reached
completing_due m e a n context to which came =
    due_either m e (completing a n context to) ((is_begun a && false) && has_come m.now a.deadline) (is_quiet m.now a.sent && true)
    (λ f. absurd (never (is_begun a) (first_true (is_begun a && false) (has_come m.now a.deadline) f)))
    (λ f. idles (record (completing a n context to) { sent = Some m.now }) (asks_again n to came which refl refl refl refl) refl refl refl)

-- requests of its program

is_taken : (o : Option Activity) (a : Activity) (more : Option Refusal) → o ≡ Some a → refuses_named o more ≡ None → (is_active a.progress ≡ true) × (more ≡ None)
is_taken o a more found e = by_case (is_active a.progress) refl (subst (λ x. refuses_named x more ≡ None) found e)
  where
    by_case : (b : Bool) → is_active a.progress ≡ b → (if b then more else Some Stale) ≡ None → (is_active a.progress ≡ true) × (more ≡ None)
    by_case true f g = (f, g)
    by_case false f g = absurd cc

is_ours : (o : Option Activity) (a : Activity) → o ≡ Some a → only_begun o ≡ None → is_begun a ≡ true
is_ours o a found e = by_case (is_begun a) refl (subst (λ x. only_begun x ≡ None) found e)
  where
    by_case : (b : Bool) → is_begun a ≡ b → (if b then None else Some Stale) ≡ None → is_begun a ≡ true
    by_case true f g = f
    by_case false f g = absurd cc

asks_work : (m : Moment) (e : Event) (url : List ℕ) (kind : Kind) (vote : Vote) (key value : List ℕ) (a : Activity) → ActivityStands a → is_active a.progress ≡ true
    → e ≡ events.Local (locals.Work a.id url kind vote key value) → Does m e a (Goes (on_ask m url kind vote key value a a.context))
unfolding on_ask
asks_work m e url kind vote key value a (creates p x c) active came = absurd cc
asks_work m e url kind vote key value a (registers context o p x c) active came = absurd cc
asks_work m e url kind vote key value a (runs context to o p x c) active came =
    subst (λ y. Does m e a (Goes (on_ask m url kind vote key value a y))) (sym x)
    (idles (record a { works = a.works + 1 }) (deeds.works url kind vote key value context came p x refl refl) refl refl refl)
asks_work m e url kind vote key value a (runs_under context o p x c) active came =
    subst (λ y. Does m e a (Goes (on_ask m url kind vote key value a y))) (sym x)
    (idles (record a { works = a.works + 1 }) (deeds.works url kind vote key value context came p x refl refl) refl refl refl)
asks_work m e url kind vote key value a (deeds.completes n context to o w p x c) active came = absurd cc

abbrev Requested : Event → Activity → Notice → Type 0
Requested e a n = ((n ≡ notices.Commit) × (e ≡ events.Local (locals.Commit a.id))) ⊎ ((n ≡ notices.Rollback) × (e ≡ events.Local (locals.Rollback a.id)))

running_completes : (m : Moment) (e : Event) (n : Notice) (a : Activity) (context : Context) (to : Epr) → is_begun a ≡ true → Requested e a n
    → Does m e (running a context (Some to)) (Goes (on_complete m n (running a context (Some to))))
unfolding on_complete
running_completes m e n a context to begun came = idles (record (running a context (Some to)) { progress = Progress.Completing n; sent = Some m.now }) (asks n to came begun refl refl refl refl) refl refl refl

not_begun : (b : Bool) → b ≡ true → b ≡ false → ⊥
not_begun b e f = cc

asks_outcome : (m : Moment) (e : Event) (n : Notice) (a : Activity) → ActivityStands a → is_active a.progress ≡ true → is_begun a ≡ true → Requested e a n
    → Does m e a (Goes (on_complete m n a))
asks_outcome m e n a (creates p x c) active begun came = absurd cc
asks_outcome m e n a (registers context o p x c) active begun came = absurd cc
asks_outcome m e n a (runs context to o p x c) active begun came =
    subst (λ y. Does m e y (Goes (on_complete m n y))) (sym (is_running a context (Some to) p x c)) (running_completes m e n a context to begun came)
asks_outcome m e n a (runs_under context o p x c) active begun came = absurd (not_begun (is_begun a) begun o)
asks_outcome m e n a (deeds.completes k context to o w p x c) active begun came = absurd cc

-- an activity by how it stands
message_does : (m : Moment) (e : Event) (r : Arrived) (a : Activity) → ActivityStands a → e ≡ events.Arrived r → r.target ≡ activity_target a → Does m e a (on_activity m r a r.message)
message_does m e r a (creates p x c) f g =
    subst (λ y. Does m e y (on_activity m r y r.message)) (sym (is_creating a p x c)) (creating_message m e r a r.message f g refl)
message_does m e r a (registers context o p x c) f g =
    subst (λ y. Does m e y (on_activity m r y r.message)) (sym (is_registering a context p x c)) (registering_message m e r a context r.message f g refl)
message_does m e r a (runs context to o p x c) f g =
    subst (λ y. Does m e y (on_activity m r y r.message)) (sym (is_running a context (Some to) p x c)) (running_message m e r a context (Some to) r.message f g refl)
message_does m e r a (runs_under context o p x c) f g =
    subst (λ y. Does m e y (on_activity m r y r.message)) (sym (is_running a context None p x c)) (running_message m e r a context None r.message f g refl)
message_does m e r a (deeds.completes n context to o w p x c) f g =
    subst (λ y. Does m e y (on_activity m r y r.message)) (sym (is_completing a n context to p x c)) (completing_message m e r a n context to r.message f g refl)

due_does : (m : Moment) (e : Event) (a : Activity) → ActivityStands a → e ≡ events.Due (items.Activity a.id) → DuesDo m e a
due_does m e a (creates p x c) f = subst (DuesDo m e) (sym (is_creating a p x c)) (creating_due m e a f)
due_does m e a (registers context o p x c) f = subst (DuesDo m e) (sym (is_registering a context p x c)) (registering_due m e a context f)
due_does m e a (runs context to o p x c) f = subst (DuesDo m e) (sym (is_running a context (Some to) p x c)) (running_due m e a context (Some to))
due_does m e a (runs_under context o p x c) f = subst (DuesDo m e) (sym (is_running a context None p x c)) (running_due m e a context None)
due_does m e a (deeds.completes n context to o w p x c) f = subst (DuesDo m e) (sym (is_completing a n context to p x c)) (completing_due m e a n context to w f)

work_does : (b : Book) (e : Event) (now : ℕ) (a : Activity) (url : List ℕ) (kind : Kind) (vote : Vote) (key value : List ℕ) → activity_at b a.id ≡ Some a → ActivityStands a → IsTaken b e
    → e ≡ events.Local (locals.Work a.id url kind vote key value) → Does (moment_of b now) e a (Goes (on_ask (moment_of b now) url kind vote key value a a.context))
work_does b e now a url kind vote key value found stands taken came =
    asks_work (moment_of b now) e url kind vote key value a stands
    (is_taken (activity_at b a.id) a (works_left (activity_at b a.id)) found (taken (locals.Work a.id url kind vote key value) came)).0 came

outcome_does : (b : Book) (e : Event) (now : ℕ) (a : Activity) (n : Notice) (l : Local) → activity_at b a.id ≡ Some a → ActivityStands a → IsTaken b e → e ≡ events.Local l
    → completion_request n a.id ≡ Some l → Does (moment_of b now) e a (Goes (on_complete (moment_of b now) n a))
outcome_does b e now a notices.Commit l found stands taken came why =
    let same : l ≡ locals.Commit a.id = cc in
    let ok : (is_active a.progress ≡ true) × (only_begun (activity_at b a.id) ≡ None) =
    is_taken (activity_at b a.id) a (only_begun (activity_at b a.id)) found (taken (locals.Commit a.id) (came ∙ ap events.Local same)) in
    asks_outcome (moment_of b now) e notices.Commit a stands ok.0 (is_ours (activity_at b a.id) a found ok.1) (inl (refl, came ∙ ap events.Local same))
outcome_does b e now a notices.Rollback l found stands taken came why =
    let same : l ≡ locals.Rollback a.id = cc in
    let ok : (is_active a.progress ≡ true) × (only_begun (activity_at b a.id) ≡ None) =
    is_taken (activity_at b a.id) a (only_begun (activity_at b a.id)) found (taken (locals.Rollback a.id) (came ∙ ap events.Local same)) in
    asks_outcome (moment_of b now) e notices.Rollback a stands ok.0 (is_ours (activity_at b a.id) a found ok.1) (inr (refl, came ∙ ap events.Local same))
outcome_does b e now a other l found stands taken came why = absurd cc

moved_does : (b : Book) (e : Event) (now : ℕ) (a : Activity) (d : Decision Activity) → activity_at b a.id ≡ Some a → ActivityStands a → IsTaken b e → MovesActivity b e now a d
    → Does (moment_of b now) e a d
moved_does b e now a d found stands taken (at_activity r came why is) = subst (Does (moment_of b now) e a) (sym is) (message_does (moment_of b now) e r a stands came why)
moved_does b e now a d found stands taken (activity_when_due came is) = subst (Does (moment_of b now) e a) (sym is) (due_does (moment_of b now) e a stands came)
moved_does b e now a d found stands taken (works url kind vote key value came is) =
    subst (Does (moment_of b now) e a) (sym is) (work_does b e now a url kind vote key value found stands taken came)
moved_does b e now a d found stands taken (completes n l came why is) =
    subst (Does (moment_of b now) e a) (sym is) (outcome_does b e now a n l found stands taken came why)

pub activities_do : ActivitiesDo
activities_do = record {
  deed = moved_does;
  step = λ b e now landed a answer d found stands taken how.
      became (ActivityDeed (moment_of b now) e a) NeverUndone b (put_activity a.id (at_time now b)) answer d landed (moved_does b e now a d found stands taken how);
  says = deed_says;
}
