-- Where a play comes to no end: what is asked for next isn't done, since its node's journal is full; or it was done, and its world takes no more events.
use Rattle.std.specs.Prelude.{ℕ, List, [], ◌∷◌, ◌++◌, ◌+◌, ◌<◌, ◌≡◌, ◌⊎◌, Bool, Option, Some, None, true, length, option_map}
use Rattle.armed_calls.specs.Faults.{raw_at}
use Rattle.armed_calls.specs.declared.fault.Armed.{Armed}
use Rattle.asked_nets.specs.ArmedCalls.{call_of}
use Rattle.asked_nets.specs.Behind.{events_by}
use Rattle.asked_nets.specs.Happened.{Happened}
use Rattle.at_base.specs.declared.event.Local.TheVariants as locals
use Rattle.at_model.specs.Views.{up, deliver_to, tick_at, request, begin_at, interpose_at, work_at, commit_at}
use Rattle.at_model.specs.World.{WorldEvent, Crash, node_of, nth}
use Rattle.mirrored_nets.specs.Rooms.{IsFullAt}
use Rattle.mirrored_nets.specs.Seen.{Seen}
use Rattle.model_laws.specs.Settlement.{settle}
use Rattle.raw_requests.specs.Draws.{Draws}
use Rattle.raw_requests.specs.declared.Drawn.TheVariants as drawns
use Rattle.replay_cmd.specs.Deliveries.{lowest}
use Rattle.replay_cmd.specs.ReportOf.{armed_at, nodes_of, receiver_in}
use Rattle.schedules.specs.Values.{bytes_in}
use Rattle.schedules.specs.declared.line.Line.{Line}
use Rattle.schedules.specs.declared.line.Line.TheVariants as lines
use Rattle.net_plays.specs.PlayedLines.{Flushes, TakesAll, marked}
use Rattle.net_plays.specs.Plays.{AllHappen, IsBegun, IsOpening, Play, ups_from}

-- the journal of a node is full, or there are too many events
pub data Why : Type 0 where
  IsFull : Why
  HasMany : Why

-- It was done, and with it there are more events than a world takes.
pub record HasTooMany (armed : Option Armed) (asked : WorldEvent) (raw : List ℕ) (p : Play) : Type 0 where
  pub event : WorldEvent
  pub down : Bool
  pub calls : ℕ
  pub net : Seen
  pub happened : Happened p.count p.world (call_of armed) asked raw p.net net event down calls
  pub many : 4294967295 < length (p.events ++ events_by down event)

-- The journal of its node has no room for another record.
pub record HasNoRoom (asked : WorldEvent) (p : Play) : Type 0 where
  pub full : IsFullAt (node_of asked) p.net.hosts

-- Why what is asked for doesn't happen.
abbrev pub Stops : Why → Option Armed → WorldEvent → List ℕ → Play → Type 0
Stops IsFull armed asked raw p = HasNoRoom asked p
Stops HasMany armed asked raw p = HasTooMany armed asked raw p

-- Of events that are asked for one after another one doesn't happen, behind those before it.
pub record StopsAmong (why : Why) (es : List WorldEvent) (p : Play) : Type 0 where
  pub front : List WorldEvent
  pub next : WorldEvent
  pub rest : List WorldEvent
  pub all : es ≡ front ++ next ∷ rest
  pub last : Play
  pub before : AllHappen front p last
  pub stops : Stops why None next [] last

abbrev pub StopsComing : Why → WorldEvent → Play → Type 0
StopsComing why asked p = Stops why (armed_at (node_of asked) p.armed) asked [] p

-- A message can't go to its node.
pub record StopsDelivery (why : Why) (k : ℕ) (p : Play) : Type 0 where
  pub node : ℕ
  pub received : option_map receiver_in (nth k p.world.posted) ≡ Some (Some node)
  pub stops : StopsComing why (deliver_to node k) (marked k p)

-- After so many deliveries the next can't be made.
pub record StopsFlush (why : Why) (most : ℕ) (p : Play) : Type 0 where
  pub done : ℕ
  pub less : done < most
  pub last : Play
  pub before : Flushes done p last
  pub next : ℕ
  pub lowest_is : lowest (length last.world.posted) 1 last.delivered ≡ Some next
  pub stops : StopsDelivery why next last

pub record StopsInjection (why : Why) (bytes : List ℕ) (n : ℕ) (p : Play) : Type 0 where
  pub status : ℕ
  pub waits : Bool
  pub draws : Draws bytes (drawns.Refused status waits)
  pub stops : Stops why (armed_at n p.armed) (raw_at n) bytes p

-- In a line.
abbrev pub StopsIn : Why → Line → Play → Type 0
StopsIn why (lines.Nodes count) p = ⊥
StopsIn why (lines.Begin n coordinator ms) p = StopsComing why (begin_at n coordinator ms) p
StopsIn why (lines.Interpose n activity coordinator) p = StopsComing why (interpose_at n activity coordinator) p
StopsIn why (lines.Work n activity service kind vote) p = StopsComing why (work_at n activity service kind vote) p
StopsIn why (lines.Commit n activity) p = StopsComing why (commit_at n activity) p
StopsIn why (lines.Rollback n activity) p = StopsComing why (request n (locals.Rollback activity)) p
StopsIn why (lines.Deliver k) p = StopsDelivery why k p
StopsIn why (lines.Flush most) p = StopsFlush why most p
StopsIn why (lines.Tick n ms) p = StopsComing why (tick_at n ms) p
StopsIn why (lines.Crash n) p = StopsComing why (Crash n) p
StopsIn why (lines.Up n) p = StopsComing why (up n) p
StopsIn why (lines.Stop n call left) p = ⊥
StopsIn why (lines.Fail n call) p = ⊥
StopsIn why (lines.Inject n digits) p = StopsInjection why (bytes_in digits) n p

-- In one of these lines, behind those before it.
pub record StopsInLines (why : Why) (all : List Line) (p : Play) : Type 0 where
  pub front : List Line
  pub next : Line
  pub rest : List Line
  pub lines_are : all ≡ front ++ next ∷ rest
  pub last : Play
  pub before : TakesAll front p last
  pub stops : StopsIn why next last

-- As the nodes come up before the first line.
pub record StopsBegin (why : Why) (count : ℕ) : Type 0 where
  pub first : Play
  pub opens : IsOpening count first
  pub stops : StopsAmong why (ups_from count 1) first

-- Behind the last line, as the world is brought to rest; or with the events that bring it there are more than a world takes.
abbrev pub StopsResting : Why → Play → Type 0
StopsResting IsFull p = StopsAmong IsFull (settle p.world) p
StopsResting HasMany p = (4294967295 < length p.events + length (settle p.world)) ⊎ StopsAmong HasMany (settle p.world) p

pub record StopsRest (why : Why) (settles : Bool) (p : Play) : Type 0 where
  pub asked : settles ≡ true
  pub resting : StopsResting why p

-- There is no report: on the way something stops.
pub record StopsInLast (why : Why) (settles : Bool) (all : List Line) (first : Play) : Type 0 where
  pub last : Play
  pub lines_are : TakesAll all first last
  pub stops : StopsRest why settles last

pub record StopsBehind (why : Why) (settles : Bool) (all : List Line) : Type 0 where
  pub first : Play
  pub begun : IsBegun (nodes_of all) first
  pub stops : StopsInLines why all first ⊎ StopsInLast why settles all first

abbrev pub HasNoReport : Why → Bool → List Line → Type 0
HasNoReport why settles all = StopsBegin why (nodes_of all) ⊎ StopsBehind why settles all
