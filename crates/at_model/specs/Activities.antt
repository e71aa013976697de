-- Activities: what an initiator runs, and how it is told the outcome.
use Rattle.std.specs.Prelude.{ℕ, List, [], ◌∷◌, ◌++◌, Option, Some, None, Bool, true, false, nat_eq, ◌+◌, if◌then◌else◌, bytes_eq, codes}
use Rattle.at_base.specs.declared.fault.Fault.TheVariants.{InvalidState, UnknownTransaction}
use Rattle.at_base.specs.Names.{fault_name}
use Rattle.at_base.specs.Numbers.{Numbers}
use Rattle.at_base.specs.declared.epr.Epr.{Epr}
use Rattle.at_base.specs.declared.notice.Kind.{Kind}
use Rattle.at_base.specs.declared.notice.Vote.{Vote}
use Rattle.at_base.specs.declared.notice.Notice.{Notice}
use Rattle.at_base.specs.declared.message.Message.{Message}
use Rattle.at_base.specs.declared.message.Message.TheVariants as messages
use Rattle.at_base.specs.declared.message.Context.{Context}
use Rattle.at_base.specs.declared.target.Target.{Target}
use Rattle.at_base.specs.declared.target.Target.TheVariants as targets
use Rattle.at_base.specs.declared.event.Arrived.{Arrived}
use Rattle.at_base.specs.declared.event.Moment.{Moment}
use Rattle.at_base.specs.declared.outs.Post.{Post}
use Rattle.at_base.specs.declared.outs.Told.{Told}
use Rattle.at_base.specs.declared.outs.Told.TheVariants as tellings
use Rattle.at_base.specs.declared.outs.Effect.TheVariants as effects
use Rattle.at_tables.specs.declared.cells.State.{State}
use Rattle.at_tables.specs.declared.cells.State.TheVariants as states
use Rattle.at_tables.specs.declared.cells.Act.{Act}
use Rattle.at_tables.specs.declared.cells.Act.TheVariants as acts
use Rattle.at_tables.specs.declared.cells.Cell.{Cell}
use Rattle.at_tables.specs.Tables.{initiator_of}
use Rattle.at_model.specs.Book.{Activity, Progress, is_id}
use Rattle.endpoints.specs.Addresses.{create_id, register_id, work_id, completion_protocol, atomic, without_slash}
use Rattle.at_model.specs.Posts.{notice_post, fault_post, request_post, register_post, stored_or, to_each}
use Rattle.at_model.specs.Moves.{Change, Decision, Goes, begin, post, posts, effect, stays, forgotten, ignored}
use Rattle.at_model.specs.Arrivals.{relates_to}
use Rattle.at_model.specs.Create.{deadline_of}

abbrev pub activity_target : Activity → Target
activity_target a = targets.Initiator a.id

-- it was begun, and so may commit
abbrev pub is_begun : Activity → Bool
is_begun a = is_id a.root a.id

-- What the initiator's table sees: nothing before Active.
abbrev pub activity_state : Progress → State
activity_state Progress.Creating = states.None
activity_state Progress.Registering = states.None
activity_state Progress.Active = states.Active
activity_state (Progress.Completing n) = states.Completing

-- The activity ends, and is told how.
abbrev pub told : Told → Activity → Decision Activity
told what a = Goes (forgotten (effect (effects.Told a.id what) (begin a)))

-- The acts of the initiator's table (WS-AtomicTransaction 1.2, section 3.2).
unfoldable pub activity_act : Moment → Option Epr → Option (List ℕ) → Activity → Act → Decision Activity
activity_act m from id a acts.TellCommitted = told tellings.Committed a
activity_act m from id a acts.TellAborted = told tellings.Aborted a
activity_act m from id a acts.FaultInvalidState =
    Goes (stays (posts (to_each (stored_or a.coordinator from) (λ to. fault_post (Some to) id InvalidState)) (begin a)))
activity_act m from id a other = ignored a

unfoldable pub activity_notice : Moment → Option Epr → Option (List ℕ) → Activity → Option Cell → Decision Activity
activity_notice m from id a None = ignored a
activity_notice m from id a (Some c) = activity_act m from id a c.act

-- Register for Completion.
abbrev pub completion_register : List ℕ → Activity → Epr → Post
completion_register base a to = register_post base (activity_target a) completion_protocol to

-- With its context a begun activity registers for Completion, and an interposed one is Active.
abbrev pub with_context : Moment → Context → Activity → Decision Activity
with_context m context a =
    if is_begun a
    then Goes (stays (post (completion_register m.base a context.registration)
    (begin (record a { progress = Progress.Registering; context = Some context; sent = Some m.now }))))
    else Goes (stays (begin (record a { progress = Progress.Active; context = Some context })))

-- CreateCoordinationContextResponse, where it answers the activity's Create.
unfoldable pub activity_created : Moment → Option (List ℕ) → Context → Activity → Progress → Decision Activity
activity_created m relates context a Progress.Creating =
    if relates_to relates (create_id m.base (activity_target a)) then with_context m context a else ignored a
activity_created m relates context a other = ignored a

-- RegisterResponse, where it answers the activity's Register.
unfoldable pub activity_registered : Moment → Option (List ℕ) → Epr → Activity → Progress → Decision Activity
activity_registered m relates coordinator a Progress.Registering =
    if relates_to relates (register_id m.base (activity_target a))
    then Goes (stays (begin (record a { progress = Progress.Active; coordinator = Some coordinator })))
    else ignored a
activity_registered m relates coordinator a other = ignored a

-- A fault that answers the activity's Create or Register tells it that it was refused; UnknownTransaction while it
-- completes tells it that the outcome is unknown; every other fault is ignored.
unfoldable pub activity_fault : Moment → Option (List ℕ) → List ℕ → Activity → Progress → Decision Activity
activity_fault m relates name a Progress.Creating =
    if relates_to relates (create_id m.base (activity_target a)) then told tellings.Refused a else ignored a
activity_fault m relates name a Progress.Registering =
    if relates_to relates (register_id m.base (activity_target a)) then told tellings.Refused a else ignored a
activity_fault m relates name a Progress.Active = ignored a
activity_fault m relates name a (Progress.Completing n) =
    if bytes_eq name (fault_name UnknownTransaction) then told tellings.Unknown a else ignored a

-- A message at an activity.
unfoldable pub on_activity : Moment → Arrived → Activity → Message → Decision Activity
on_activity m r a (messages.Notice n) =
    activity_notice m r.from r.id a (initiator_of (activity_state a.progress) n)
on_activity m r a (messages.CreateResponse context) = activity_created m r.relates context a a.progress
on_activity m r a (messages.RegisterResponse coordinator) = activity_registered m r.relates coordinator a a.progress
on_activity m r a (messages.Fault name) = activity_fault m r.relates name a a.progress
on_activity m r a other = ignored a

-- The requests of the program that runs an initiator.

-- why one is refused
pub data Refusal : Type 0 where
  Stale : Refusal
  Full : Refusal
  Spent : Refusal

abbrev pub is_active : Progress → Bool
is_active Progress.Creating = false
is_active Progress.Registering = false
is_active Progress.Active = true
is_active (Progress.Completing n) = false

abbrev pub service : List ℕ → List ℕ → Epr
service url path = record { address = without_slash url ++ path; params = [] }

-- What a request that makes an activity gives: the activity and what it posts.
pub record Beginning : Type 0 where
  pub activity : Activity
  pub posts : List Post

abbrev pub create_post : List ℕ → Activity → List ℕ → Option ℕ → Option Context → Post
create_post base a coordinator expires current =
    request_post base (activity_target a) (service coordinator (codes "/activation")) (create_id base (activity_target a))
    (messages.Create (record { expires = expires; current = current; coordination = atomic }))

-- no Expires is asked for with 0
abbrev pub asked_expires : ℕ → Option ℕ
asked_expires ms = if nat_eq ms 0 then None else Some ms

abbrev pub new_activity : Numbers → Numbers → Option ℕ → Activity
new_activity id root deadline = record {
  id = id;
  root = root;
  progress = Progress.Creating;
  context = None;
  coordinator = None;
  works = 0;
  deadline = deadline;
  sent = None;
}

abbrev pub beginning : List ℕ → List ℕ → Option ℕ → Option Context → Activity → Beginning
beginning base coordinator expires current a = record { activity = a; posts = create_post base a coordinator expires current ∷ [] }

-- Begin: asks for a context (WS-Coordination 1.2, section 3.1).
unfoldable pub on_begin : Moment → Numbers → List ℕ → ℕ → Beginning
on_begin m id coordinator ms =
    beginning m.base coordinator (asked_expires ms) None (new_activity id id (deadline_of m.now (asked_expires ms)))

-- Interpose: asks another coordinator for a context under the one of an activity; the new activity is under its root.
unfoldable pub on_interpose : Moment → Numbers → List ℕ → Numbers → Option Context → Beginning
on_interpose m id coordinator root context = beginning m.base coordinator None context (new_activity id root None)

-- Work: the activity's context, and what is to be done, to a participant.
abbrev pub work_post : List ℕ → Activity → List ℕ → Kind → Vote → List ℕ → List ℕ → Context → Post
work_post base a url kind vote key value context =
    request_post base (activity_target a) (service url (codes "/work")) (work_id base (activity_target a) (a.works + 1))
    (messages.Work (record { context = context; key = key; value = value; kind = kind; vote = vote }))

unfoldable pub on_ask : Moment → List ℕ → Kind → Vote → List ℕ → List ℕ → Activity → Option Context → Change Activity
on_ask m url kind vote key value a None = stays (begin a)
on_ask m url kind vote key value a (Some context) =
    stays (post (work_post m.base a url kind vote key value context) (begin (record a { works = a.works + 1 })))

-- Commit or Rollback, to the completion seat (WS-AtomicTransaction 1.2, section 3.2).
abbrev pub complete_posts : List ℕ → Notice → Activity → List Post
complete_posts base n a = to_each a.coordinator (λ to. notice_post base (activity_target a) to n)

unfoldable pub on_complete : Moment → Notice → Activity → Change Activity
on_complete m n a =
    stays (posts (complete_posts m.base n a) (begin (record a { progress = Progress.Completing n; sent = Some m.now })))
