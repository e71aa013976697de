-- Worlds: several nodes, the messages between them, and what happens to them.
use Rattle.std.specs.Prelude.{ℕ, List, [], ◌∷◌, ◌++◌, Option, Some, None, Bool, true, false, nat_eq, nat_lt, ◌&&◌, ◌||◌, ◌+◌, ◌-◌, if◌then◌else◌, length, map, filter, option_map, option_and_then, is_some, is_none, codes, drop, zero, suc, decimal, ◌≡◌, ◌≤◌}
use Rattle.at_base.specs.Numbers.{Numbers}
use Rattle.at_base.specs.declared.epr.Epr.{Epr}
use Rattle.at_base.specs.declared.epr.Reply.{Reply}
use Rattle.at_base.specs.declared.epr.Reply.TheVariants as replies
use Rattle.at_base.specs.declared.target.Seat.{Seat}
use Rattle.at_base.specs.declared.target.Target.{Target}
use Rattle.at_base.specs.declared.target.Target.TheVariants as targets
use Rattle.at_base.specs.declared.record.Record.{Record}
use Rattle.at_base.specs.declared.record.Record.TheVariants as records
use Rattle.at_base.specs.declared.event.Arrived.{Arrived}
use Rattle.at_base.specs.declared.event.Local.{Local}
use Rattle.at_base.specs.declared.event.Item.{Item}
use Rattle.at_base.specs.declared.event.Event.TheVariants as events
use Rattle.at_base.specs.declared.outs.Post.{Post}
use Rattle.at_base.specs.declared.outs.Out.{Out}
use Rattle.at_base.specs.declared.outs.Out.TheVariants as outs
use Rattle.at_base.specs.declared.outs.Ending.TheVariants as endings
use Rattle.at_base.specs.declared.outs.Effect.{Effect}
use Rattle.at_tables.specs.declared.cells.State.TheVariants as states
use Rattle.at_tables.specs.Names.{is_state}
use Rattle.at_model.specs.Book.{Book, Transaction, Leaf, Enlistment, Completion, last_counter}
use Rattle.endpoints.specs.Addresses.{target_at, target_of}
use Rattle.endpoints.specs.Forms.{takes}
use Rattle.at_model.specs.Seats.{ending}
use Rattle.at_model.specs.Leaves.{leaf_ended}
use Rattle.at_model.specs.Due.{may_expire}
use Rattle.at_model.specs.Step.{Outcome, Plan, plain, still, transaction_at, plan, is_due, items_of}
use Rattle.at_model.specs.Recovery.{last_incarnation, recover}

-- A node: its base, its book where it is up, the records of its journal, and its clock in milliseconds.
pub record Node : Type 0 where
  pub base : List ℕ
  pub book : Option Book
  pub journal : List Record
  pub clock : ℕ

-- An item of a node. Nodes are numbered from 1.
pub record Who : Type 0 where
  pub node : ℕ
  pub id : Numbers

-- A message that was posted, by the number of its sender and of its receiver; none where no node has its address.
pub record Posted : Type 0 where
  pub sender : ℕ
  pub receiver : Option ℕ
  pub content : Post

-- A registration that a transaction accepted: a seat, or none for Completion; and the participant's or initiator's item.
pub record Accepted : Type 0 where
  pub transaction : Who
  pub seat : Option Seat
  pub participant : Option Who

-- An effect on a node.
pub record Happened : Type 0 where
  pub node : ℕ
  pub what : Effect

pub record World : Type 0 where
  pub nodes : List Node
  pub posted : List Posted
  pub accepted : List Accepted
  pub happened : List Happened

-- The nodes of a world, numbered from 1: how many there are, and the base of each.
pub record Hosts : Type 0 where
  pub count : ℕ
  pub base_of : ℕ → List ℕ

abbrev pub IsNumber : Hosts → ℕ → Type 0
IsNumber hosts n = (1 ≤ n) × (n ≤ hosts.count)

-- No address of an item of one node is that of an item of another.
abbrev pub HaveOwnAddresses : Hosts → Type 0
HaveOwnAddresses hosts =
    (m n : ℕ) (rest path : List ℕ) (S T : Target) → IsNumber hosts m → IsNumber hosts n → target_of rest ≡ Some S → target_of path ≡ Some T
    → hosts.base_of m ++ rest ≡ hosts.base_of n ++ path → m ≡ n

-- The bases of the nodes of a replay, and of worked examples.
abbrev pub example_base : ℕ → List ℕ
example_base n = codes "http://n" ++ (decimal n ++ codes ".example")

abbrev pub example_hosts : ℕ → Hosts
example_hosts count = record { count = count; base_of = example_base }

abbrev pub new_node : List ℕ → Node
new_node base = record { base = base; book = None; journal = []; clock = 0 }

-- nodes numbered from this one on
abbrev pub new_nodes : (ℕ → List ℕ) → ℕ → ℕ → List Node
new_nodes base_of zero n = []
new_nodes base_of (suc k) n = new_node (base_of n) ∷ new_nodes base_of k (n + 1)

-- The opening world: every node is down, with no record.
abbrev pub opening : Hosts → World
opening hosts = record { nodes = new_nodes hosts.base_of hosts.count 1; posted = []; accepted = []; happened = [] }

-- the node of this number, from a list that begins with the node 1; numbers from 1 also elsewhere
abbrev pub nth : {A : Type 0} → ℕ → List A → Option A
nth n [] = None
nth n (x ∷ xs) = if nat_eq n 1 then Some x else nth (n - 1) xs

abbrev pub put_nth : {A : Type 0} → ℕ → A → List A → List A
put_nth n y [] = []
put_nth n y (x ∷ xs) = if nat_eq n 1 then y ∷ xs else x ∷ put_nth (n - 1) y xs

abbrev pub place_or : ℕ → Option Target → Option (ℕ × Target) → Option (ℕ × Target)
place_or n None rest = rest
place_or n (Some target) rest = Some (n, target)

-- the first node, numbered from this one on, that an address names, and the target on it
abbrev pub place_of : ℕ → List Node → List ℕ → Option (ℕ × Target)
place_of n [] address = None
place_of n (x ∷ xs) address = place_or n (target_at x.base address) (place_of (n + 1) xs address)

abbrev pub receiver_of : List Node → Option Epr → Option ℕ
receiver_of nodes None = None
receiver_of nodes (Some to) = option_map (λ p. p.0) (place_of 1 nodes to.address)

-- the item that a target names
abbrev pub item_at : Target → Option Numbers
item_at (targets.Participant id kind) = Some id
item_at (targets.Initiator id) = Some id
item_at other = None

abbrev pub who_at : Option (ℕ × Target) → Option Who
who_at None = None
who_at (Some p) = option_map (λ id. record { node = p.0; id = id }) (item_at p.1)

abbrev pub who_of : List Node → Epr → Option Who
who_of nodes epr = who_at (place_of 1 nodes epr.address)

-- Without ReplyTo the reply goes back on the connection (WS-Addressing 1.0 Core, section 3.3).
abbrev pub reply_of : Option Reply → Reply
reply_of None = replies.Anonymous
reply_of (Some r) = r

-- A post as it arrives: no FaultTo is written, so faults go where replies go; a Register names the endpoint of its
-- sender, a node's own, which can be posted to.
abbrev pub arrival_of : Target → Post → Arrived
arrival_of target p = record {
  target = target;
  id = p.id;
  relates = p.relates;
  from = p.from;
  reply = reply_of p.reply;
  fault = reply_of p.reply;
  postable = true;
  message = p.message;
}

-- A message that its target doesn't take is refused, and changes nothing.
abbrev pub decoded_at : Option Target → Post → Option Arrived
decoded_at None p = None
decoded_at (Some target) p = if takes target p.message then Some (arrival_of target p) else None

abbrev pub decoded : List ℕ → Post → Option Arrived
decoded base p = option_and_then (λ to. decoded_at (target_at base to.address) p) p.to

-- A step that counted: the book before it, what it came to, and the fates of what it sends, with how many of these stand before
-- the stop.
pub record Traced : Type 0 where
  pub before : Book
  pub outcome : Outcome
  pub fates : List Bool
  pub until : Option ℕ

-- A turn on its way: the world, the book of the node, the fates that are left, how many fates stand before the stop, and the
-- steps that counted so far.
pub record Turning : Type 0 where
  pub world : World
  pub book : Book
  pub fates : List Bool
  pub until : Option ℕ
  pub trace : List Traced

abbrev pub stops : Option ℕ → Bool
stops None = false
stops (Some n) = nat_eq n 0

-- the stop has come
abbrev pub is_stopped : Turning → Bool
is_stopped r = stops r.until

-- the next fate; a missing one is yes
abbrev pub fate : List Bool → Bool
fate [] = true
fate (f ∷ fs) = f

abbrev pub fates_left : List Bool → List Bool
fates_left [] = []
fates_left (f ∷ fs) = fs

abbrev pub one_nearer : Option ℕ → Option ℕ
one_nearer None = None
one_nearer (Some n) = Some (n - 1)

abbrev pub after_fate : Turning → Turning
after_fate r = record r { fates = fates_left r.fates; until = one_nearer r.until }

abbrev pub with_post : ℕ → Post → World → World
with_post n p w = record w {
  posted = w.posted ++ record { sender = n; receiver = receiver_of w.nodes p.to; content = p } ∷ [];
}

abbrev pub sent : ℕ → Bool → Out → World → World
sent n true (outs.Post p) w = with_post n p w
sent n true (outs.Answer status reply) w = w
sent n false out w = w

-- Each out has a fate; behind the stop nothing is sent.
abbrev pub send_all : ℕ → List Out → Turning → Turning
send_all n [] r = r
send_all n (out ∷ rest) r =
    if is_stopped r then r
    else send_all n rest (record (after_fate r) { world = sent n (fate r.fates) out r.world })

abbrev pub happened_at : ℕ → Effect → Happened
happened_at n e = record { node = n; what = e }

-- The registrations that a step accepted: the seats, and the completion seat, that the book after it has beyond the book
-- before it.
abbrev pub accepted_seat : ℕ → List Node → Numbers → Enlistment → Accepted
accepted_seat n nodes id s = record {
  transaction = record { node = n; id = id };
  seat = Some (record { number = s.number; kind = s.kind });
  participant = who_of nodes s.participant;
}

abbrev pub accepted_completion : ℕ → List Node → Numbers → Option Completion → Option Completion → List Accepted
accepted_completion n nodes id None (Some c) =
    record { transaction = record { node = n; id = id }; seat = None; participant = who_of nodes c.initiator } ∷ []
accepted_completion n nodes id before after = []

abbrev pub accepted_by : ℕ → List Node → Option Transaction → Transaction → List Accepted
accepted_by n nodes None t = []
accepted_by n nodes (Some before) t =
    map (accepted_seat n nodes t.id) (drop (length before.seats) t.seats)
    ++ accepted_completion n nodes t.id before.completion t.completion

abbrev pub accepted_in : ℕ → List Node → Book → List Transaction → List Accepted
accepted_in n nodes before [] = []
accepted_in n nodes before (t ∷ ts) =
    accepted_by n nodes (transaction_at before t.id) t ++ accepted_in n nodes before ts

abbrev pub traced : Outcome → Turning → Traced
traced o r = record { before = r.book; outcome = o; fates = r.fates; until = r.until }

-- A step that counts: its book, its effects and what it accepted; then its outs, each by its fate.
abbrev pub counted : ℕ → Outcome → Turning → Turning
counted n o r =
    send_all n o.outs (record r {
      book = o.book;
      trace = r.trace ++ traced o r ∷ [];
      world = record r.world {
        accepted = r.world.accepted ++ accepted_in n r.world.nodes r.book o.book.transactions;
        happened = r.world.happened ++ map (happened_at n) o.effects;
      };
    })

abbrev pub journaled : ℕ → Record → Node → World → World
journaled n r x w = record w { nodes = put_nth n (record x { journal = x.journal ++ r ∷ [] }) w.nodes }

abbrev pub with_record : ℕ → Record → World → Option Node → World
with_record n r w None = w
with_record n r w (Some x) = journaled n r x w

abbrev pub landed_step : ℕ → Record → Plan → Turning → Turning
landed_step n entry p r =
    counted n p.landed (record (after_fate r) { world = with_record n entry r.world (nth n r.world.nodes) })

-- A record that isn't landed: where the stop is at its fate, the step is undone.
abbrev pub absent_step : ℕ → Plan → Turning → Turning
absent_step n p r = if is_stopped (after_fate r) then after_fate r else counted n p.absent (after_fate r)

abbrev pub step_by : ℕ → Option Record → Plan → Turning → Turning
step_by n None p r = counted n p.landed r
step_by n (Some entry) p r = if fate r.fates then landed_step n entry p r else absent_step n p r

-- One step of a turn; behind the stop there is none.
abbrev pub take_step : ℕ → Plan → Turning → Turning
take_step n p r = if is_stopped r then r else step_by n p.entry p r

-- then one step for each item that is due, each asked when its place comes
abbrev pub due_step : ℕ → ℕ → Item → Turning → Turning
due_step n now item r = if is_due r.book now item then take_step n (plan r.book (events.Due item) now) r else r

abbrev pub due_steps : ℕ → ℕ → List Item → Turning → Turning
due_steps n now [] r = r
due_steps n now (item ∷ rest) r = due_steps n now rest (due_step n now item r)

-- What is lost where a node goes down: each root, subordinate and leaf before its vote or decision.
abbrev pub is_lost_root : Transaction → Bool
is_lost_root t = is_none t.superior && may_expire t.phase

abbrev pub is_lost_subordinate : Transaction → Bool
is_lost_subordinate t = is_some t.superior && may_expire t.phase

abbrev pub is_lost_leaf : Leaf → Bool
is_lost_leaf l = is_state l.state states.Registering || is_state l.state states.Active

abbrev pub transaction_lost : ℕ → Transaction → Happened
transaction_lost n t = happened_at n (ending t endings.Lost)

abbrev pub leaf_lost : ℕ → Leaf → Happened
leaf_lost n l = happened_at n (leaf_ended l endings.Lost)

abbrev pub lost_in : ℕ → Book → List Happened
lost_in n b =
    map (transaction_lost n) (filter is_lost_root b.transactions)
    ++ (map (transaction_lost n) (filter is_lost_subordinate b.transactions)
    ++ map (leaf_lost n) (filter is_lost_leaf b.leaves))

abbrev pub put_book : ℕ → Option Book → World → Option Node → World
put_book n b w None = w
put_book n b w (Some x) = record w { nodes = put_nth n (record x { book = b }) w.nodes }

abbrev pub goes_down : ℕ → Book → World → World
goes_down n b w = put_book n None (record w { happened = w.happened ++ lost_in n b }) (nth n w.nodes)

-- A turn is over: at the stop the node goes down.
abbrev pub turned : ℕ → Turning → World
turned n r = if is_stopped r then goes_down n r.book r.world else put_book n (Some r.book) r.world (nth n r.world.nodes)

abbrev pub turn_from : World → Book → List Bool → Option ℕ → Turning
turn_from w b fates until = record { world = w; book = b; fates = fates; until = until; trace = [] }

-- A turn: the step of its input, then the due steps.
abbrev pub after_input : ℕ → ℕ → Turning → Turning
after_input n now r = due_steps n now (items_of r.book) r

abbrev pub walked : ℕ → ℕ → Plan → Turning → Turning
walked n now p r = after_input n now (take_step n p r)

abbrev pub take_turn : ℕ → ℕ → Plan → Turning → World
take_turn n now p r = turned n (walked n now p r)

-- What a turn begins with.
pub data Input : Type 0 where
  -- this message is delivered, by its number from 1
  Deliver : ℕ → Input
  -- so many milliseconds went by
  Tick : ℕ → Input
  -- bytes that are no message
  Raw : Input

pub data WorldEvent : Type 0 where
  Turn : ℕ → Input → List Bool → Option ℕ → WorldEvent
  Ask : ℕ → Local → List Bool → Option ℕ → WorldEvent
  Crash : ℕ → WorldEvent
  Up : ℕ → Bool → Bool → WorldEvent

-- what changes nothing, but for this answer
abbrev pub answer_plan : Book → ℕ → Plan
answer_plan b status = plain (still b (outs.Answer status None ∷ []))

abbrev pub arrival_plan : Book → ℕ → Option Arrived → Plan
arrival_plan b now None = answer_plan b 500
arrival_plan b now (Some a) = plan b (events.Arrived a) now

abbrev pub is_receiver : ℕ → Option ℕ → Bool
is_receiver n None = false
is_receiver n (Some m) = nat_eq m n

-- A message reaches the node that it was posted to, for the first time or again.
abbrev pub deliver : ℕ → Node → Book → List Bool → Option ℕ → Option Posted → World → World
deliver n x b fates until None w = w
deliver n x b fates until (Some p) w =
    if is_receiver n p.receiver
    then take_turn n x.clock (arrival_plan b x.clock (decoded x.base p.content)) (turn_from w b fates until)
    else w

abbrev pub ticked : ℕ → Node → World → World
ticked n x w = record w { nodes = put_nth n x w.nodes }

abbrev pub later : ℕ → Node → Node
later ms x = record x { clock = x.clock + ms }

abbrev pub turn : ℕ → Input → List Bool → Option ℕ → Node → Book → World → World
turn n (Deliver k) fates until x b w = deliver n x b fates until (nth k w.posted) w
turn n (Tick ms) fates until x b w =
    take_turn n (x.clock + ms) (plan b events.Tick (x.clock + ms)) (turn_from (ticked n (later ms x) w) b fates until)
turn n Raw fates until x b w = take_turn n x.clock (answer_plan b 400) (turn_from w b fates until)

-- A request of the node's own program: one step.
abbrev pub ask : ℕ → Local → List Bool → Option ℕ → Node → Book → World → World
ask n l fates until x b w = turned n (take_step n (plan b (events.Local l) x.clock) (turn_from w b fates until))

-- The steps of an event that counted, in order.
abbrev pub delivery_trace : ℕ → Node → Book → List Bool → Option ℕ → Option Posted → World → List Traced
delivery_trace n x b fates until None w = []
delivery_trace n x b fates until (Some p) w =
    if is_receiver n p.receiver
    then (walked n x.clock (arrival_plan b x.clock (decoded x.base p.content)) (turn_from w b fates until)).trace
    else []

abbrev pub turn_trace : ℕ → Input → List Bool → Option ℕ → Node → Book → World → List Traced
turn_trace n (Deliver k) fates until x b w = delivery_trace n x b fates until (nth k w.posted) w
turn_trace n (Tick ms) fates until x b w =
    (walked n (x.clock + ms) (plan b events.Tick (x.clock + ms)) (turn_from (ticked n (later ms x) w) b fates until)).trace
turn_trace n Raw fates until x b w = (walked n x.clock (answer_plan b 400) (turn_from w b fates until)).trace

abbrev pub trace_while_up : WorldEvent → Node → Option Book → World → List Traced
trace_while_up e x None w = []
trace_while_up (Turn n input fates until) x (Some b) w = turn_trace n input fates until x b w
trace_while_up (Ask n l fates until) x (Some b) w = (take_step n (plan b (events.Local l) x.clock) (turn_from w b fates until)).trace
trace_while_up (Crash n) x (Some b) w = []
trace_while_up (Up n landed stop) x (Some b) w = []

abbrev pub trace_at : WorldEvent → Option Node → World → List Traced
trace_at e None w = []
trace_at e (Some x) w = trace_while_up e x x.book w

-- the last incarnation leaves no next one
abbrev pub started : ℕ → Node → Node
started incarnation x = record x { journal = x.journal ++ records.Start incarnation ∷ [] }

abbrev pub up_after : Node → Bool → Node
up_after x stop = record x { book = if stop then None else Some (recover x.base x.journal) }

-- A node starts: its Start record, of the next incarnation, lands or not; where it landed and no stop comes, the node is
-- up, with the book of its records.
abbrev pub start : ℕ → Bool → Bool → Node → World → World
start n fate stop x w =
    if fate && nat_lt (last_incarnation x.journal) last_counter
    then record w { nodes = put_nth n (up_after (started (last_incarnation x.journal + 1) x) stop) w.nodes }
    else w

abbrev pub on_book : Option Book → (Book → World) → World → World
on_book None up w = w
on_book (Some b) up w = up b

abbrev pub down_only : Option Book → World → World → World
down_only None down w = down
down_only (Some b) down w = w

-- An event at a node that is there; one at a node that is down, or an Up of one that is up, changes nothing.
abbrev pub at_node : WorldEvent → Node → World → World
at_node (Turn n input fates until) x w = on_book x.book (λ b. turn n input fates until x b w) w
at_node (Ask n l fates until) x w = on_book x.book (λ b. ask n l fates until x b w) w
at_node (Crash n) x w = on_book x.book (λ b. goes_down n b w) w
at_node (Up n fate stop) x w = down_only x.book (start n fate stop x w) w

abbrev pub node_of : WorldEvent → ℕ
node_of (Turn n input fates until) = n
node_of (Ask n l fates until) = n
node_of (Crash n) = n
node_of (Up n fate stop) = n

abbrev pub at_some_node : WorldEvent → Option Node → World → World
at_some_node e None w = w
at_some_node e (Some x) w = at_node e x w

-- One event of a world.
unfoldable pub world_step : World → WorldEvent → World
world_step w e = at_some_node e (nth (node_of e) w.nodes) w

abbrev pub trace_of : World → WorldEvent → List Traced
trace_of w e = trace_at e (nth (node_of e) w.nodes) w

-- A run: the events in order, from a world, or from the opening one.
abbrev pub run_on : World → List WorldEvent → World
run_on w [] = w
run_on w (e ∷ es) = run_on (world_step w e) es

abbrev pub run_of : Hosts → List WorldEvent → World
run_of hosts es = run_on (opening hosts) es
