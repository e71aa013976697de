-- How the schedule of a seed comes out: what its lines do to a world. They arm no call, and bring no bytes.
use Rattle.std.specs.Prelude.{ℕ, List, [], ◌∷◌, ◌++◌, ◌+◌, ◌-◌, ◌<◌, Bool, Option, Some, None, zero, suc, length, option_map}
use Rattle.at_base.specs.declared.event.Local.TheVariants as locals
use Rattle.at_model.specs.Views.{up, deliver_to, tick_at, request, begin_at, interpose_at, work_at, commit_at}
use Rattle.at_model.specs.World.{World, WorldEvent, Crash, nth, opening, world_step, example_hosts}
use Rattle.schedules.specs.Generator.{made}
use Rattle.schedules.specs.declared.line.Line.{Line}
use Rattle.schedules.specs.declared.line.Line.TheVariants as lines
use Rattle.replay_cmd.specs.Deliveries.{lowest, yes_at}
use Rattle.replay_cmd.specs.ReportOf.{receiver_in, summed}

-- How far it has come: the world, what happened to it, in order, and for each message from the first on whether it was delivered; those behind the list
-- weren't.
pub record Course : Type 0 where
  pub world : World
  pub events : List WorldEvent
  pub delivered : List Bool

-- An event that a line asks for.
abbrev pub happens : WorldEvent → Course → Course
happens e c = record c { world = world_step c.world e; events = c.events ++ e ∷ [] }

-- A message goes to its node, whether it did before or not, where a node has its address.
abbrev pub goes_to : ℕ → Option ℕ → Course → Course
goes_to k None c = c
goes_to k (Some n) c = happens (deliver_to n k) c

abbrev pub delivered_to : ℕ → Option (Option ℕ) → Course → Course
delivered_to k None c = c
delivered_to k (Some receiver) c = goes_to k receiver (record c { delivered = yes_at (k - 1) c.delivered })

abbrev pub delivers : ℕ → Course → Course
delivers k c = delivered_to k (option_map receiver_in (nth k c.world.posted)) c

abbrev pub delivers_where : Option ℕ → Course → Course
delivers_where None c = c
delivers_where (Some k) c = delivers k c

-- The lowest message that was never delivered goes to its node, where there is one.
abbrev pub delivers_lowest : Course → Course
delivers_lowest c = delivers_where (lowest (length c.world.posted) 1 c.delivered) c

abbrev pub flushes : ℕ → Course → Course
flushes zero c = c
flushes (suc most) c = flushes most (delivers_lowest c)

-- What a line does. How many nodes there are is known from the start. No line is made that arms a call or brings bytes.
abbrev pub taken : Line → Course → Course
taken (lines.Nodes count) c = c
taken (lines.Begin n coordinator ms) c = happens (begin_at n coordinator ms) c
taken (lines.Interpose n activity coordinator) c = happens (interpose_at n activity coordinator) c
taken (lines.Work n activity service kind vote) c = happens (work_at n activity service kind vote) c
taken (lines.Commit n activity) c = happens (commit_at n activity) c
taken (lines.Rollback n activity) c = happens (request n (locals.Rollback activity)) c
taken (lines.Deliver k) c = delivers k c
taken (lines.Flush most) c = flushes most c
taken (lines.Tick n ms) c = happens (tick_at n ms) c
taken (lines.Crash n) c = happens (Crash n) c
taken (lines.Up n) c = happens (up n) c
taken (lines.Stop n call left) c = c
taken (lines.Fail n call) c = c
taken (lines.Inject n digits) c = c

abbrev pub all_taken : List Line → Course → Course
all_taken [] c = c
all_taken (line ∷ rest) c = all_taken rest (taken line c)

-- so many nodes come up, numbered from this one on
abbrev pub all_up : ℕ → ℕ → Course → Course
all_up zero n c = c
all_up (suc count) n c = all_up count (n + 1) (happens (up n) c)

-- Every node comes up, in a world where nothing happened before.
abbrev pub begun : ℕ → Course
begun count = all_up count 1 (record { world = opening (example_hosts count); events = []; delivered = [] })

-- How the schedule of a seed comes out, which has four nodes.
abbrev pub course_made : ℕ → ℕ → Course
course_made seed steps = all_taken (made seed steps) (begun 4)

-- a world takes 4,294,967,295 events
abbrev pub HasTooManyEvents : Course → Type 0
HasTooManyEvents c = 4294967295 < length c.events

-- Its world.
abbrev pub world_made : ℕ → ℕ → World
world_made seed steps = (course_made seed steps).world

-- What is said of it.
abbrev pub summary_of : ℕ → ℕ → List ℕ
summary_of seed steps = summed steps (world_made seed steps)
