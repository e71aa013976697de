-- What one step may do to an activity, which an initiator runs: which messages it posts, how it is told the outcome
-- (WS-AtomicTransaction 1.2, section 3.2), and what is left of it.
use Rattle.std.specs.Prelude.{ℕ, List, [], ◌∷◌, ◌+◌, Option, Some, None, Bool, true, false, ◌≡◌, ◌⊎◌}
use Rattle.std.specs.List.{AllByRecursion}
use Rattle.at_base.specs.Names.{fault_name}
use Rattle.at_base.specs.declared.fault.Fault.TheVariants.{InvalidState, UnknownTransaction}
use Rattle.at_base.specs.declared.epr.Epr.{Epr}
use Rattle.at_base.specs.declared.notice.Kind.{Kind}
use Rattle.at_base.specs.declared.notice.Vote.{Vote}
use Rattle.at_base.specs.declared.notice.Notice.{Notice}
use Rattle.at_base.specs.declared.notice.Notice.TheVariants as notices
use Rattle.at_base.specs.declared.message.Message.{Message}
use Rattle.at_base.specs.declared.message.Message.TheVariants as messages
use Rattle.at_base.specs.declared.message.Context.{Context}
use Rattle.at_base.specs.declared.record.Record.{Record}
use Rattle.at_base.specs.declared.event.Arrived.{Arrived}
use Rattle.at_base.specs.declared.event.Item.TheVariants as items
use Rattle.at_base.specs.declared.event.Local.{Local}
use Rattle.at_base.specs.declared.event.Local.TheVariants as locals
use Rattle.at_base.specs.declared.event.Event.{Event}
use Rattle.at_base.specs.declared.event.Event.TheVariants as events
use Rattle.at_base.specs.declared.event.Moment.{Moment}
use Rattle.at_base.specs.declared.outs.Out.{Out}
use Rattle.at_base.specs.declared.outs.Post.{Post}
use Rattle.at_base.specs.declared.outs.Told.{Told}
use Rattle.at_base.specs.declared.outs.Told.TheVariants as tellings
use Rattle.at_base.specs.declared.outs.Effect.TheVariants as effects
use Rattle.at_model.specs.Book.{Activity, Book, Progress}
use Rattle.endpoints.specs.Addresses.{create_id, register_id}
use Rattle.at_model.specs.Posts.{fault_post, notice_post, stored_or, to_each}
use Rattle.at_model.specs.Moves.{Change, Decision}
use Rattle.at_model.specs.Arrivals.{relates_to}
use Rattle.at_model.specs.Activities.{activity_target, completion_register, is_begun, work_post}
use Rattle.at_model.specs.Due.{has_come}
use Rattle.at_model.specs.Recovery.{recover}
use Rattle.at_model.specs.Step.{activity_at, activity_plan, at_time, moment_of, put_activity, refuses, step}
use Rattle.at_model.specs.World.{Node, WorldEvent, nth, run_of, Hosts}
use Rattle.model_laws.specs.Shapes.{MovesActivity}
use Rattle.agreement.specs.Branches.{Became, InBranches, IsNoNotice}

-- what an initiator may ask of the coordinator
abbrev pub Completes : Notice → Type 0
Completes n = (n ≡ notices.Commit) ⊎ (n ≡ notices.Rollback)

-- An activity waits for its context. One that was begun then registers for Completion, works under the coordinator that it
-- knows, and completes; one that was interposed works, and knows no coordinator.
pub data ActivityStands (a : Activity) : Type 0 where
  creates : a.progress ≡ Progress.Creating → a.context ≡ None → a.coordinator ≡ None → ActivityStands a
  registers : (context : Context) → is_begun a ≡ true → a.progress ≡ Progress.Registering → a.context ≡ Some context → a.coordinator ≡ None → ActivityStands a
  runs : (context : Context) (to : Epr) → is_begun a ≡ true → a.progress ≡ Progress.Active → a.context ≡ Some context → a.coordinator ≡ Some to → ActivityStands a
  runs_under : (context : Context) → is_begun a ≡ false → a.progress ≡ Progress.Active → a.context ≡ Some context → a.coordinator ≡ None → ActivityStands a
  completes : (n : Notice) (context : Context) (to : Epr) → is_begun a ≡ true → Completes n → a.progress ≡ Progress.Completing n → a.context ≡ Some context
      → a.coordinator ≡ Some to → ActivityStands a

abbrev pub ActivitiesStand : Book → Type 0
ActivitiesStand b = AllByRecursion ActivityStands b.activities

-- So stands each activity over each start and each step, and so in every run.
pub record ActivityStates : Type 0 where
  pub book : (b : Book) (e : Event) (now : ℕ) (landed : Bool) → ActivitiesStand b → ActivitiesStand (step b e now landed).book
  pub recovered : (base : List ℕ) (rs : List Record) → ActivitiesStand (recover base rs)
  pub books : (hosts : Hosts) (es : List WorldEvent) (n : ℕ) (x : Node) (b : Book) → nth n (run_of hosts es).nodes ≡ Some x → x.book ≡ Some b → ActivitiesStand b

-- a message that came to the activity
pub record CameToActivity (e : Event) (a : Activity) (what : Message) : Type 0 where
  pub arrived : Arrived
  pub event : e ≡ events.Arrived arrived
  pub target : arrived.target ≡ activity_target a
  pub message : arrived.message ≡ what

-- What is left of an activity that goes on, and what it posts.
pub data ActivityIdles (m : Moment) (e : Event) (a : Activity) (left : Activity) (ps : List Post) : Type 0 where
  -- nothing
  rests : left ≡ a → ps ≡ [] → ActivityIdles m e a left ps
  -- a Committed came before it asked for one
  misled : (came : CameToActivity e a (messages.Notice notices.Committed)) → a.progress ≡ Progress.Active → left ≡ a
      → ps ≡ to_each (stored_or a.coordinator came.arrived.from) (λ to. fault_post (Some to) came.arrived.id InvalidState) → ActivityIdles m e a left ps
  -- its context came: begun, it registers for Completion
  created : (context : Context) (came : CameToActivity e a (messages.CreateResponse context)) → relates_to came.arrived.relates (create_id m.base (activity_target a)) ≡ true
      → a.progress ≡ Progress.Creating → is_begun a ≡ true → left ≡ record a { progress = Progress.Registering; context = Some context; sent = Some m.now }
      → ps ≡ completion_register m.base a context.registration ∷ [] → ActivityIdles m e a left ps
  -- interposed, it is Active
  interposed : (context : Context) (came : CameToActivity e a (messages.CreateResponse context)) → relates_to came.arrived.relates (create_id m.base (activity_target a)) ≡ true
      → a.progress ≡ Progress.Creating → is_begun a ≡ false → left ≡ record a { progress = Progress.Active; context = Some context } → ps ≡ [] → ActivityIdles m e a left ps
  -- its Register was answered
  registered : (to : Epr) (came : CameToActivity e a (messages.RegisterResponse to)) → relates_to came.arrived.relates (register_id m.base (activity_target a)) ≡ true
      → a.progress ≡ Progress.Registering → left ≡ record a { progress = Progress.Active; coordinator = Some to } → ps ≡ [] → ActivityIdles m e a left ps
  -- it is due, and registers again
  registers_again : (context : Context) → e ≡ events.Due (items.Activity a.id) → a.progress ≡ Progress.Registering → a.context ≡ Some context
      → left ≡ record a { sent = Some m.now } → ps ≡ completion_register m.base a context.registration ∷ [] → ActivityIdles m e a left ps
  -- it is due, and asks again for the outcome
  asks_again : (n : Notice) (to : Epr) → e ≡ events.Due (items.Activity a.id) → Completes n → a.progress ≡ Progress.Completing n → a.coordinator ≡ Some to
      → left ≡ record a { sent = Some m.now } → ps ≡ notice_post m.base (activity_target a) to n ∷ [] → ActivityIdles m e a left ps
  -- its program asks for work under its context
  works : (url : List ℕ) (kind : Kind) (vote : Vote) (key value : List ℕ) (context : Context) → e ≡ events.Local (locals.Work a.id url kind vote key value)
      → a.progress ≡ Progress.Active → a.context ≡ Some context → left ≡ record a { works = a.works + 1 } → ps ≡ work_post m.base a url kind vote key value context ∷ []
      → ActivityIdles m e a left ps
  -- its program asks to commit, or to roll back
  asks : (n : Notice) (to : Epr) → ((n ≡ notices.Commit) × (e ≡ events.Local (locals.Commit a.id))) ⊎ ((n ≡ notices.Rollback) × (e ≡ events.Local (locals.Rollback a.id)))
      → is_begun a ≡ true → a.progress ≡ Progress.Active → a.coordinator ≡ Some to → left ≡ record a { progress = Progress.Completing n; sent = Some m.now }
      → ps ≡ notice_post m.base (activity_target a) to n ∷ [] → ActivityIdles m e a left ps

-- Why an activity is told this.
pub data ActivityTells (m : Moment) (e : Event) (a : Activity) (what : Told) : Type 0 where
  -- a Committed came, while it completes
  committed : (n : Notice) → CameToActivity e a (messages.Notice notices.Committed) → a.progress ≡ Progress.Completing n → what ≡ tellings.Committed → ActivityTells m e a what
  -- an Aborted came, while it runs or completes
  aborted : CameToActivity e a (messages.Notice notices.Aborted) → (a.progress ≡ Progress.Active) ⊎ ((n : Notice) × (a.progress ≡ Progress.Completing n))
      → what ≡ tellings.Aborted → ActivityTells m e a what
  -- its Create was refused
  uncreated : (name : List ℕ) (came : CameToActivity e a (messages.Fault name)) → relates_to came.arrived.relates (create_id m.base (activity_target a)) ≡ true
      → a.progress ≡ Progress.Creating → what ≡ tellings.Refused → ActivityTells m e a what
  -- or its Register
  unregistered : (name : List ℕ) (came : CameToActivity e a (messages.Fault name)) → relates_to came.arrived.relates (register_id m.base (activity_target a)) ≡ true
      → a.progress ≡ Progress.Registering → what ≡ tellings.Refused → ActivityTells m e a what
  -- the coordinator knows the transaction no more
  unknown : (n : Notice) → CameToActivity e a (messages.Fault (fault_name UnknownTransaction)) → a.progress ≡ Progress.Completing n → what ≡ tellings.Unknown → ActivityTells m e a what
  -- its time was over before it was registered
  expired : e ≡ events.Due (items.Activity a.id) → is_begun a ≡ true → (a.progress ≡ Progress.Creating) ⊎ (a.progress ≡ Progress.Registering)
      → has_come m.now a.deadline ≡ true → what ≡ tellings.Unknown → ActivityTells m e a what

-- What happens to an activity. Nothing of it is recorded.
pub data ActivityDeed (m : Moment) (e : Event) (a : Activity) (entry : Option Record) (c : Change Activity) : Type 0 where
  idles : (left : Activity) → ActivityIdles m e a left c.posts → entry ≡ None → c.item ≡ Some left → c.effects ≡ [] → ActivityDeed m e a entry c
  tells : (what : Told) → ActivityTells m e a what → entry ≡ None → c.item ≡ None → c.effects ≡ effects.Told a.id what ∷ [] → c.posts ≡ [] → ActivityDeed m e a entry c

-- Why an activity posts a message, by what is left of it: Commit and Rollback go to the coordinator that it knows, from one
-- that completes so.
pub data ActivitySays (m : Moment) (a : Activity) (c : Change Activity) (p : Post) : Type 0 where
  completing : (n : Notice) (to : Epr) (left : Activity) → Completes n → a.coordinator ≡ Some to → p ≡ notice_post m.base (activity_target a) to n → c.item ≡ Some left
      → left.progress ≡ Progress.Completing n → ActivitySays m a c p
  tells_nothing : IsNoNotice p.message → ActivitySays m a c p

-- a request of a program is taken
abbrev pub IsTaken : Book → Event → Type 0
IsTaken b e = (l : Local) → e ≡ events.Local l → refuses b l ≡ None

abbrev pub NeverUndone : Record → Type 0
NeverUndone r = ⊥

-- Whatever comes to an activity, whenever it is due, and whatever its program asks that isn't refused, one of these happens.
pub record ActivitiesDo : Type 0 where
  pub deed : (b : Book) (e : Event) (now : ℕ) (a : Activity) (d : Decision Activity) → activity_at b a.id ≡ Some a → ActivityStands a → IsTaken b e → MovesActivity b e now a d
      → InBranches (ActivityDeed (moment_of b now) e a) NeverUndone d
  -- so each step that moves an activity is one of these
  pub step : (b : Book) (e : Event) (now : ℕ) (landed : Bool) (a : Activity) (answer : List Out) (d : Decision Activity) → activity_at b a.id ≡ Some a → ActivityStands a
      → IsTaken b e → MovesActivity b e now a d
      → Became (ActivityDeed (moment_of b now) e a) NeverUndone b (put_activity a.id (at_time now b)) answer (activity_plan b now answer a d) landed
  -- and each message that it posts has its reason
  pub says : (m : Moment) (e : Event) (a : Activity) (entry : Option Record) (c : Change Activity) → ActivityDeed m e a entry c → AllByRecursion (ActivitySays m a c) c.posts
