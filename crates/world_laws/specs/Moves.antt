-- What an event makes of a world: its node moves, and what its steps posted and brought about is kept.
use Rattle.std.specs.Prelude.{ℕ, List, [], ◌∷◌, ◌++◌, Option, Some, None, Bool, ◌&&◌, ◌+◌, ◌≡◌, if◌then◌else◌, length, map, nat_lt}
use Rattle.at_base.specs.declared.event.Arrived.{Arrived}
use Rattle.at_base.specs.declared.event.Local.{Local}
use Rattle.at_base.specs.declared.event.Event.TheVariants as events
use Rattle.at_base.specs.declared.outs.Effect.{Effect}
use Rattle.at_base.specs.declared.outs.Post.{Post}
use Rattle.at_model.specs.Book.{Book, last_counter}
use Rattle.at_model.specs.Recovery.{last_incarnation}
use Rattle.at_model.specs.Step.{Plan, plan}
use Rattle.at_model.specs.World.{World, Node, Posted, Happened, Traced, trace_of, WorldEvent, Input, Turn, Ask, Crash, Up, Deliver, Tick, Raw, nth, put_nth, node_of, decoded, arrival_plan, answer_plan, is_receiver, receiver_of, happened_at, started, up_after, world_step}
use Rattle.coordinator_at.specs.TransactionPlans.{transactions_lost}
use Rattle.participant_at.specs.LeafPlans.{leaves_lost}
use Rattle.world_laws.specs.declared.posts.Counted.{Counted}
use Rattle.world_laws.specs.declared.step_outs.Moved.{Moved}
use Rattle.world_laws.specs.declared.step_outs.Taken.{Taken}
use Rattle.world_laws.specs.Walks.{Luck, Walk, begin, is_over, outs_of, sends, stepped, turned}

-- A world, but for the registrations that it accepted.
pub record Scene : Type 0 where
  pub nodes : List Node
  pub posted : List Posted
  pub happened : List Happened

abbrev pub seen : World → Scene
seen w = record { nodes = w.nodes; posted = w.posted; happened = w.happened }

-- What an event makes of its node: the node, what each step that counted gave, and then what going down lost; and what is
-- left of its luck.
pub record Move : Type 0 where
  pub node : Node
  pub moved : Moved

abbrev pub nothing : Moved
nothing = record { taken = []; lost = []; left = record { fates = []; until = None } }

-- What a step that counted gives: its effects, its answer, and the posts that were sent.
abbrev pub taken_of : Traced → Taken
taken_of t = (sends (outs_of t.outcome) (record { fates = t.fates; until = t.until })).taken

-- no step
abbrev pub quiet : Node → Move
quiet x = record { node = x; moved = nothing }

abbrev pub luck_of : List Bool → Option ℕ → Luck
luck_of fates until = record { fates = fates; until = until }

-- what a node that goes down with this book loses
abbrev pub lost_of : Book → List Effect
lost_of b = transactions_lost b.transactions ++ leaves_lost b.leaves

-- A node behind its steps: at the stop it goes down.
abbrev pub ended : Node → Walk → Move
ended x w =
    if is_over w.luck
    then record { node = record x { book = None; journal = w.journal }; moved = record { taken = w.taken; lost = lost_of w.book; left = w.luck } }
    else record { node = record x { book = Some w.book; journal = w.journal }; moved = record { taken = w.taken; lost = []; left = w.luck } }

abbrev pub later_at : ℕ → Node → Node
later_at now x = record x { clock = now }

abbrev pub turn_move : ℕ → Node → Book → Plan → Luck → Move
turn_move now x b p l = ended (later_at now x) (turned now p (begin b x.journal l))

-- A message at its target; one that can't be decoded changes nothing.
abbrev pub arrival_move : Option Arrived → Luck → Node → Option Book → Move
arrival_move a l x None = quiet x
arrival_move a l x (Some b) = turn_move x.clock x b (arrival_plan b x.clock a) l

-- A message is delivered to the node that it was posted to.
abbrev pub delivery_move : ℕ → Option Posted → Luck → Node → Option Book → Move
delivery_move n None l x o = quiet x
delivery_move n (Some p) l x o =
    if is_receiver n p.receiver then arrival_move (decoded x.base p.content) l x o else quiet x

abbrev pub tick_move : ℕ → Luck → Node → Option Book → Move
tick_move ms l x None = quiet x
tick_move ms l x (Some b) = turn_move (x.clock + ms) x b (plan b events.Tick (x.clock + ms)) l

abbrev pub raw_move : Luck → Node → Option Book → Move
raw_move l x None = quiet x
raw_move l x (Some b) = turn_move x.clock x b (answer_plan b 400) l

abbrev pub input_move : ℕ → Input → Luck → List Posted → Node → Option Book → Move
input_move n (Deliver k) l posted x o = delivery_move n (nth k posted) l x o
input_move n (Tick ms) l posted x o = tick_move ms l x o
input_move n Raw l posted x o = raw_move l x o

-- A request of the node's own program is one step.
abbrev pub request_move : Local → Luck → Node → Option Book → Move
request_move r l x None = quiet x
request_move r l x (Some b) = ended x (stepped (plan b (events.Local r) x.clock) (begin b x.journal l))

abbrev pub crash_move : Node → Option Book → Move
crash_move x None = quiet x
crash_move x (Some b) = record { node = record x { book = None }; moved = record nothing { lost = lost_of b } }

-- A node that starts: where its Start record landed and no stop comes, it has the book of its records.
abbrev pub begun : Bool → Bool → Node → Node
begun landed stop x =
    if landed && nat_lt (last_incarnation x.journal) last_counter
    then up_after (started (last_incarnation x.journal + 1) x) stop
    else x

abbrev pub start_move : Bool → Bool → Node → Option Book → Move
start_move landed stop x None = quiet (begun landed stop x)
start_move landed stop x (Some b) = quiet x

abbrev pub move_of : WorldEvent → List Posted → Node → Move
move_of (Turn n input fates until) posted x = input_move n input (luck_of fates until) posted x x.book
move_of (Ask n r fates until) posted x = request_move r (luck_of fates until) x x.book
move_of (Crash n) posted x = crash_move x x.book
move_of (Up n landed stop) posted x = start_move landed stop x x.book

abbrev pub moved_by : WorldEvent → List Posted → Option Node → Moved
moved_by e posted None = nothing
moved_by e posted (Some x) = (move_of e posted x).moved

abbrev pub nodes_by : WorldEvent → List Posted → List Node → Option Node → List Node
nodes_by e posted nodes None = nodes
nodes_by e posted nodes (Some x) = put_nth (node_of e) (move_of e posted x).node nodes

unfoldable pub moved_in : Scene → WorldEvent → Moved
moved_in s e = moved_by e s.posted (nth (node_of e) s.nodes)

abbrev pub with_nodes : Scene → WorldEvent → Scene
with_nodes s e = record s { nodes = nodes_by e s.posted s.nodes (nth (node_of e) s.nodes) }

-- A post reaches the node that its address names.
abbrev pub posted_at : ℕ → List Node → Post → Posted
posted_at n nodes p = record { sender = n; receiver = receiver_of nodes p.to; content = p }

abbrev pub with_taken : ℕ → Taken → Scene → Scene
with_taken n t s = record s {
  posted = s.posted ++ map (posted_at n s.nodes) t.posts;
  happened = s.happened ++ map (happened_at n) t.effects;
}

abbrev pub with_all : ℕ → List Taken → Scene → Scene
with_all n [] s = s
with_all n (t ∷ ts) s = with_all n ts (with_taken n t s)

abbrev pub with_lost : ℕ → List Effect → Scene → Scene
with_lost n lost s = record s { happened = s.happened ++ map (happened_at n) lost }

abbrev pub with_moved : ℕ → Moved → Scene → Scene
with_moved n m s = with_lost n m.lost (with_all n m.taken s)

-- What an event makes of a world.
unfoldable pub after : Scene → WorldEvent → Scene
after s e = with_moved (node_of e) (moved_in s e) (with_nodes s e)

-- What a step that counted gives in a world that had so many messages: its posts are the next ones.
abbrev pub counted_in : ℕ → Taken → Counted
counted_in k t = record { effects = t.effects; answer = t.answer; first = k + 1; posts = length t.posts }

abbrev pub numbered : ℕ → List Taken → List Counted
numbered k [] = []
numbered k (t ∷ ts) = counted_in k t ∷ numbered (k + length t.posts) ts

-- What the steps of an event gave, read off its trace, and then what going down lost.
abbrev pub steps_of : World → WorldEvent → List Counted
steps_of w e = numbered (length w.posted) (map taken_of (trace_of w e))

-- the same of the moves of its node
abbrev pub steps_in : Scene → WorldEvent → List Counted
steps_in s e = numbered (length s.posted) (moved_in s e).taken

abbrev pub losses_of : World → WorldEvent → List Effect
losses_of w e = (moved_in (seen w) e).lost

-- What an event doesn't use of its fates, and how many of them stand before its stop.
abbrev pub left_of : World → WorldEvent → Luck
left_of w e = (moved_in (seen w) e).left

-- An event changes a world by the moves of its node, and by nothing else; and these are what its trace says.
pub record ChangesByMoves : Type 0 where
  pub moved : (w : World) (e : WorldEvent) → seen (world_step w e) ≡ after (seen w) e
  pub told : (w : World) (e : WorldEvent) → steps_of w e ≡ steps_in (seen w) e
