-- The world of a run, and what it shows of its nodes.
use Rattle.std.specs.Prelude.{ℕ, List, [], Option, Some, None, map, option_map, option_and_then, length, ◌≡◌, ◌≤◌, ◌<◌, ◌+◌, ◌*◌}
use Rattle.std.specs.List.{AllByRecursion}
use Rattle.at_base.specs.declared.event.Local.{Local}
use Rattle.at_base.specs.declared.record.Record.{Record}
use Rattle.at_model.specs.Activities.{Refusal}
use Rattle.at_model.specs.Book.{Book}
use Rattle.model_laws.specs.Order.{IsInOrder}
use Rattle.at_model.specs.Step.{refuses}
use Rattle.at_model.specs.World.{World, Node, nth, run_of, example_hosts}
use Rattle.world_laws.specs.declared.event.WorldEvent.{WorldEvent as Given}
use Rattle.world_laws.specs.Events.{event_of}
use Rattle.world_laws.specs.Moves.{Scene, seen}

-- A run: how many nodes there are, and what happened, in order.
pub record Run : Type 0 where
  pub count : ℕ
  pub events : List Given

-- The world that a run comes to.
unfoldable pub world_of : Run → World
world_of r = run_of (example_hosts r.count) (map event_of r.events)

abbrev pub clock_of : Node → ℕ
clock_of x = x.clock

abbrev pub book_of : Node → Option Book
book_of x = x.book

abbrev pub incarnation_of : Book → ℕ
incarnation_of b = b.incarnation

-- the clock of a node
abbrev pub clock_at : World → ℕ → Option ℕ
clock_at w n = option_map clock_of (nth n w.nodes)

-- the book of a node that is up
abbrev pub book_at : World → ℕ → Option Book
book_at w n = option_and_then book_of (nth n w.nodes)

abbrev pub incarnation_at : World → ℕ → Option ℕ
incarnation_at w n = option_map incarnation_of (book_at w n)

abbrev pub journal_of : Option Node → List Record
journal_of None = []
journal_of (Some x) = x.journal

-- the records of a node's journal
abbrev pub journal_at : World → ℕ → List Record
journal_at w n = journal_of (nth n w.nodes)

-- why a node that is up refuses a request
abbrev pub refused_at : World → ℕ → Local → Option Refusal
refused_at w n l = option_and_then (λ b. refuses b l) (book_at w n)

-- A node of a run: the lists of its book are in the order of making, and its clock shows no more than so many of the
-- longest ticks.
pub record IsNode (ticks : ℕ) (x : Node) : Type 0 where
  pub order : (b : Book) → x.book ≡ Some b → IsInOrder b
  pub clock : x.clock ≤ ticks * 4294967295

-- A node at which an event may happen: there is room for one tick more.
pub record IsReady (x : Node) : Type 0 where
  pub order : (b : Book) → x.book ≡ Some b → IsInOrder b
  pub clock : x.clock + 4294967295 < 18446744073709551616

abbrev pub AreReady : List Node → Type 0
AreReady nodes = AllByRecursion IsReady nodes

-- The nodes of a run, 8 at most.
pub record IsFit (ticks : ℕ) (s : Scene) : Type 0 where
  pub few : length s.nodes ≤ 8
  pub each : AllByRecursion (IsNode ticks) s.nodes

-- A scene is that of the run of its events.
pub record IsRun (count : ℕ) (s : Scene) (events : List Given) : Type 0 where
  pub scene : s ≡ seen (world_of (record { count = count; events = events }))
  pub fit : IsFit (length events) s
  pub least : 1 ≤ count
  pub most : count ≤ 8
  pub few : length events ≤ 4294967295
