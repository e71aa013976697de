-- The first step of an event, and whether it has a record.
use Rattle.std.specs.Prelude.{ℕ, List, Option, Some, None, Bool, ◌+◌, if◌then◌else◌, is_some, option_map, option_and_then}
use Rattle.at_base.specs.declared.event.Event.TheVariants as events
use Rattle.at_model.specs.Book.{Book}
use Rattle.at_model.specs.Step.{Plan, plan}
use Rattle.at_model.specs.World.{World, Node, Posted, WorldEvent, Input, Turn, Ask, Crash, Up, Deliver, Tick, Raw, nth, node_of, decoded, arrival_plan, answer_plan, is_receiver}

-- a message at the node that it was posted to
abbrev pub delivery_plan : ℕ → Option Posted → Node → Option Book → Option Plan
delivery_plan n None x o = None
delivery_plan n (Some p) x o =
    if is_receiver n p.receiver then option_map (λ b. arrival_plan b x.clock (decoded x.base p.content)) o else None

abbrev pub input_plan : ℕ → Input → List Posted → Node → Option Book → Option Plan
input_plan n (Deliver k) posted x o = delivery_plan n (nth k posted) x o
input_plan n (Tick ms) posted x o = option_map (λ b. plan b events.Tick (x.clock + ms)) o
input_plan n Raw posted x o = option_map (λ b. answer_plan b 400) o

-- a node that is down takes no step
abbrev pub first_plan : WorldEvent → List Posted → Node → Option Book → Option Plan
first_plan (Turn n input fates until) posted x o = input_plan n input posted x o
first_plan (Ask n l fates until) posted x o = option_map (λ b. plan b (events.Local l) x.clock) o
first_plan (Crash n) posted x o = None
first_plan (Up n landed stop) posted x o = None

abbrev pub has_record : Plan → Bool
has_record p = is_some p.entry

abbrev pub node_records : WorldEvent → List Posted → Node → Option Bool
node_records e posted x = option_map has_record (first_plan e posted x x.book)

-- Whether the first step of an event has a record; none where it takes no step.
abbrev pub first_records : World → WorldEvent → Option Bool
first_records w e = option_and_then (node_records e w.posted) (nth (node_of e) w.nodes)
