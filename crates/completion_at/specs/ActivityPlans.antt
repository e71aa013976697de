-- The live activities of a node, and the book that holds them.
use Rattle.std.specs.Prelude.{ℕ, List, [], Option, Some, None, ◌≡◌, nat_lt, if◌then◌else◌, length, map, codes}
use Rattle.at_base.specs.declared.limits.TheConstants.{MOST_ACTIVITIES}
use Rattle.at_base.specs.Numbers.{Numbers}
use Rattle.at_base.specs.declared.event.Moment.{Moment}
use Rattle.at_base.specs.declared.event.Local.{Local}
use Rattle.at_base.specs.declared.event.Local.TheVariants as locals
use Rattle.at_base.specs.declared.message.Message.TheVariants as messages
use Rattle.at_base.specs.declared.message.Work.{Work}
use Rattle.at_base.specs.declared.outs.Post.{Post}
use Rattle.at_base.specs.declared.outs.Out.TheVariants as outs
use Rattle.at_model.specs.Book.{Book, Activity, find_by, activity_id, next_id}
use Rattle.endpoints.specs.Addresses.{work_id}
use Rattle.at_model.specs.Posts.{request_post}
use Rattle.at_model.specs.Activities.{activity_target, service, Refusal, Full, Spent, Beginning}
use Rattle.at_model.specs.Step.{Plan, moment_of, only_begun, plain, put_activities, refuses, refuses_named, still, works_left}
use Rattle.by_id.specs.Lists.{add_to}
use Rattle.by_id.specs.Plans.{making}
use Rattle.by_id.specs.Wholes.{whole_by}
use Rattle.by_id.specs.declared.list.Alteration.{Alteration}
use Rattle.by_id.specs.declared.list.Alteration.TheVariants as alterations
use Rattle.by_id.specs.declared.plan.Plan.{Plan as Planned}

-- a book that holds these activities, at this moment
abbrev pub Holds : Book → ℕ → List Activity → Moment → Type 0
Holds b now xs m = (b.activities ≡ xs) × (m ≡ moment_of b now)

-- What becomes of the list: with an activity that is dropped go all that are under it.
abbrev pub settled : Alteration Activity (Unit {0}) → List Activity → List Activity
settled alterations.Keep xs = xs
settled (alterations.Put id a) xs = put_activities id a xs
settled (alterations.Move id by) xs = xs
settled (alterations.Add a) xs = add_to a xs

-- the book with what becomes of its activities
abbrev pub with_activities : Alteration Activity (Unit {0}) → Book → Book
with_activities change b = record b { activities = settled change b.activities }

-- The plan of the activities, as a plan of the book that holds them.
abbrev pub whole : Book → ℕ → Planned Activity (Unit {0}) → Plan
whole = whole_by with_activities

-- one activity more
abbrev pub begun : Beginning → Planned Activity (Unit {0})
begun x = making x.activity (map outs.Post x.posts)

-- An activity's n-th Work.
unfoldable pub nth_work : List ℕ → Activity → ℕ → List ℕ → Work → Post
nth_work base a n url w =
    request_post base (activity_target a) (service url (codes "/work")) (work_id base (activity_target a) n) (messages.Work w)

-- A node has at most 256 activities, and as many as it has ids for.
abbrev pub no_room : ℕ → Option Numbers → Option Refusal
no_room live None = if nat_lt live MOST_ACTIVITIES then Some Spent else Some Full
no_room live (Some id) = if nat_lt live MOST_ACTIVITIES then None else Some Full

-- Why a request is refused, the first that holds: the state of the activity that it names, no room, nothing left to
-- count with.
abbrev pub refused_at : Option Numbers → List Activity → Local → Option Refusal
refused_at next xs (locals.Begin coordinator ms) = no_room (length xs) next
refused_at next xs (locals.Interpose activity coordinator) =
    refuses_named (find_by activity_id activity xs) (no_room (length xs) next)
refused_at next xs (locals.Work activity url kind vote key value) =
    refuses_named (find_by activity_id activity xs) (works_left (find_by activity_id activity xs))
refused_at next xs (locals.Commit activity) =
    refuses_named (find_by activity_id activity xs) (only_begun (find_by activity_id activity xs))
refused_at next xs (locals.Rollback activity) =
    refuses_named (find_by activity_id activity xs) (only_begun (find_by activity_id activity xs))

-- A request is refused as the model refuses it.
abbrev pub RefusesAsTheModel : Type 0
RefusesAsTheModel = (b : Book) (l : Local) → refuses b l ≡ refused_at (next_id b) b.activities l

-- a request that is refused does nothing
abbrev pub unless : Book → Option Refusal → Plan → Plan
unless b None p = p
unless b (Some why) p = plain (still b [])
