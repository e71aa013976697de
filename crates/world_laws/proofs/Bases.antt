-- No event moves a base.
use Rattle.std.proofs.Common.{ℕ, List, [], ◌≡◌, ◌+◌, Option, Some, None, Bool, true, false, refl}
use Rattle.std.specs.Prelude.{nat_lt, ◌&&◌, if◌then◌else◌}
use Rattle.at_base.specs.declared.event.Arrived.{Arrived}
use Rattle.at_base.specs.declared.event.Local.{Local}
use Rattle.at_base.specs.declared.event.Event.TheVariants as events
use Rattle.at_model.specs.Book.{Book, last_counter}
use Rattle.at_model.specs.Recovery.{last_incarnation}
use Rattle.at_model.specs.Step.{plan}
use Rattle.at_model.specs.World.{Node, Posted, WorldEvent, Input, Turn, Ask, Crash, Up, Deliver, Tick, Raw, nth, decoded, arrival_plan, answer_plan, is_receiver, started, up_after}
use Rattle.world_laws.specs.Moves.{Move, arrival_move, crash_move, delivery_move, ended, input_move, later_at, lost_of, luck_of, move_of, quiet, request_move, start_move}
use Rattle.world_laws.specs.Walks.{Luck, Walk, begin, is_over, stepped, turned}

abbrev pub node_in : Move → Node
node_in m = m.node

-- what holds of both moves
pub either_move : (P : Node → Type 0) (b : Bool) (m k : Move) → P m.node → P k.node → P (node_in (if b then m else k))
either_move P true m k h i = h
either_move P false m k h i = i

ended_base : (x : Node) (w : Walk) → x.base ≡ (ended x w).node.base
ended_base x w =
    either_move (λ y. x.base ≡ y.base) (is_over w.luck)
    (record { node = record x { book = None; journal = w.journal }; moved = record { taken = w.taken; lost = lost_of w.book; left = w.luck } })
    (record { node = record x { book = Some w.book; journal = w.journal }; moved = record { taken = w.taken; lost = []; left = w.luck } })
    refl refl

arrived_base : (a : Option Arrived) (l : Luck) (x : Node) (o : Option Book) → x.base ≡ (arrival_move a l x o).node.base
arrived_base a l x None = refl
arrived_base a l x (Some b) = ended_base (later_at x.clock x) (turned x.clock (arrival_plan b x.clock a) (begin b x.journal l))

delivered_base : (n : ℕ) (found : Option Posted) (l : Luck) (x : Node) (o : Option Book) → x.base ≡ (delivery_move n found l x o).node.base
delivered_base n None l x o = refl
delivered_base n (Some p) l x o =
    either_move (λ y. x.base ≡ y.base) (is_receiver n p.receiver) (arrival_move (decoded x.base p.content) l x o) (quiet x)
    (arrived_base (decoded x.base p.content) l x o) refl

input_base : (n : ℕ) (input : Input) (l : Luck) (posted : List Posted) (x : Node) (o : Option Book) → x.base ≡ (input_move n input l posted x o).node.base
input_base n (Deliver k) l posted x o = delivered_base n (nth k posted) l x o
input_base n (Tick ms) l posted x None = refl
input_base n (Tick ms) l posted x (Some b) =
    ended_base (later_at (x.clock + ms) x) (turned (x.clock + ms) (plan b events.Tick (x.clock + ms)) (begin b x.journal l))
input_base n Raw l posted x None = refl
input_base n Raw l posted x (Some b) = ended_base (later_at x.clock x) (turned x.clock (answer_plan b 400) (begin b x.journal l))

asked_base : (r : Local) (l : Luck) (x : Node) (o : Option Book) → x.base ≡ (request_move r l x o).node.base
asked_base r l x None = refl
asked_base r l x (Some b) = ended_base x (stepped (plan b (events.Local r) x.clock) (begin b x.journal l))

crashed_base : (x : Node) (o : Option Book) → x.base ≡ (crash_move x o).node.base
crashed_base x None = refl
crashed_base x (Some b) = refl

begun_by : (more stop : Bool) (x : Node) → x.base ≡ (if more then up_after (started (last_incarnation x.journal + 1) x) stop else x).base
begun_by true stop x = refl
begun_by false stop x = refl

started_base : (landed stop : Bool) (x : Node) (o : Option Book) → x.base ≡ (start_move landed stop x o).node.base
started_base landed stop x None = begun_by (landed && nat_lt (last_incarnation x.journal) last_counter) stop x
started_base landed stop x (Some b) = refl

pub moved_base : (e : WorldEvent) (posted : List Posted) (x : Node) → x.base ≡ (move_of e posted x).node.base
moved_base (Turn n input fates until) posted x = input_base n input (luck_of fates until) posted x x.book
moved_base (Ask n r fates until) posted x = asked_base r (luck_of fates until) x x.book
moved_base (Crash n) posted x = crashed_base x x.book
moved_base (Up n landed stop) posted x = started_base landed stop x x.book
