-- Settling: a schedule that brings every world to rest, and its length.
use Rattle.std.specs.Prelude.{ℕ, List, [], ◌∷◌, ◌++◌, Option, Some, None, Bool, true, false, not, ◌&&◌, ◌+◌, ◌*◌, ◌≡◌, ◌≢◌, ◌≤◌, length, drop, zero, suc, sum_by}
use Rattle.std.specs.List.{list_any, list_all, AllByRecursion}
use Rattle.at_base.specs.declared.notice.Kind.TheVariants as kinds
use Rattle.at_tables.specs.declared.cells.State.TheVariants as states
use Rattle.at_tables.specs.Names.{is_state}
use Rattle.at_base.specs.Names.{is_kind}
use Rattle.at_model.specs.Book.{Book, Transaction, Leaf, Completion, Superior, Phase, last_counter}
use Rattle.at_base.specs.declared.limits.TheConstants.{RESEND_AFTER}
use Rattle.at_model.specs.Recovery.{last_incarnation}
use Rattle.at_model.specs.World.{Node, Posted, World, WorldEvent, world_step, Deliver, Tick, Turn, Up, run_on, run_of, Hosts, HaveOwnAddresses}

-- A world on its way to rest, and the events that brought it there.
pub record Settling : Type 0 where
  pub world : World
  pub events : List WorldEvent

abbrev pub also : WorldEvent → Settling → Settling
also e s = record { world = world_step s.world e; events = s.events ++ e ∷ [] }

abbrev pub all_also : List WorldEvent → Settling → Settling
all_also [] s = s
all_also (e ∷ es) s = all_also es (also e s)

-- Up for each node that is down, of those numbered from this one on.
abbrev pub up_if : ℕ → Option Book → List WorldEvent
up_if n None = Up n true false ∷ []
up_if n (Some b) = []

abbrev pub ups : ℕ → List Node → List WorldEvent
ups n [] = []
ups n (x ∷ xs) = up_if n x.book ++ ups (n + 1) xs

-- A tick at each node, long enough that all sends again.
abbrev pub ticks : ℕ → List Node → List WorldEvent
ticks n [] = []
ticks n (x ∷ xs) = Turn n (Tick RESEND_AFTER) [] None ∷ ticks (n + 1) xs

-- How much may wait for an answer: seats and completion seats; and links, leaves and activities.
abbrev pub completions_held : Option Completion → ℕ
completions_held None = 0
completions_held (Some c) = 1

abbrev pub seats_held : Transaction → ℕ
seats_held t = length t.seats + completions_held t.completion

abbrev pub links_held : Option Superior → ℕ
links_held None = 0
links_held (Some s) = 2

abbrev pub superior_links : Transaction → ℕ
superior_links t = links_held t.superior

abbrev pub seats_in : Option Book → ℕ
seats_in None = 0
seats_in (Some b) = sum_by seats_held b.transactions

abbrev pub others_in : Option Book → ℕ
others_in None = 0
others_in (Some b) = sum_by superior_links b.transactions + (length b.leaves + length b.activities)

abbrev pub node_count : Node → ℕ
node_count x = seats_in x.book + others_in x.book

abbrev pub waiting : World → ℕ
waiting w = sum_by node_count w.nodes

abbrev pub received_or : ℕ → Option ℕ → Option (ℕ × ℕ) → Option (ℕ × ℕ)
received_or k None rest = rest
received_or k (Some n) rest = Some (k, n)

-- the first message of these, numbered from this one on, that has a receiver: its number, and its receiver
abbrev pub first_received : ℕ → List Posted → Option (ℕ × ℕ)
first_received k [] = None
first_received k (p ∷ ps) = received_or k p.receiver (first_received (k + 1) ps)

-- At most so many deliveries, behind so many messages that were passed by: each time the lowest message that has a
-- receiver, to its receiver.
abbrev pub deliver_next : Option (ℕ × ℕ) → (ℕ → Settling → Settling) → Settling → Settling
deliver_next None further s = s
deliver_next (Some p) further s = further p.0 (also (Turn p.1 (Deliver p.0) [] None) s)

unfoldable pub deliveries_from : ℕ → ℕ → Settling → Settling
deliveries_from zero passed s = s
deliveries_from (suc most) passed s =
    deliver_next (first_received (passed + 1) (drop passed s.world.posted)) (deliveries_from most) s

-- A round: a tick at each node, then the messages of the round.
unfoldable pub settle_round : ℕ → Settling → Settling
settle_round most s = deliveries_from most (length s.world.posted) (all_also (ticks 1 s.world.nodes) s)

unfoldable pub settle_rounds : ℕ → ℕ → Settling → Settling
settle_rounds zero most s = s
settle_rounds (suc n) most s = settle_rounds n most (settle_round most s)

-- how many deliveries a round has at most
abbrev pub most_deliveries : ℕ → ℕ
most_deliveries waiting = 128 * (waiting + 1)

unfoldable pub settle_from : Settling → Settling
settle_from s = settle_rounds 8 (most_deliveries (waiting s.world)) s

-- every node up
abbrev pub all_up : World → Settling
all_up w = all_also (ups 1 w.nodes) (record { world = w; events = [] })

-- The events that bring a world to rest: every node up, then eight rounds.
unfoldable pub settled : World → Settling
settled w = settle_from (all_up w)

unfoldable pub settle : World → List WorldEvent
settle w = (settled w).events

-- How many these are at most.
abbrev pub settle_bound : World → ℕ
settle_bound w = length w.nodes + 8 * (length w.nodes + most_deliveries (waiting (all_up w).world))

-- At rest: no durable leaf is in doubt, no subordinate has voted and waits, no decision waits to be carried out.
abbrev pub is_doubtful_leaf : Leaf → Bool
is_doubtful_leaf l = is_kind l.kind kinds.Durable && is_state l.state states.PreparedSuccess

abbrev pub waits_in : Phase → Bool
waits_in Phase.Voted = true
waits_in Phase.Committing = true
waits_in Phase.Registering = false
waits_in Phase.Active = false
waits_in Phase.Volatile = false
waits_in Phase.Durable = false
waits_in Phase.Aborting = false

abbrev pub waits : Transaction → Bool
waits t = waits_in t.phase

abbrev pub is_book_settled : Option Book → Bool
is_book_settled None = false
is_book_settled (Some b) = not (list_any is_doubtful_leaf b.leaves) && not (list_any waits b.transactions)

abbrev pub is_node_settled : Node → Bool
is_node_settled x = is_book_settled x.book

abbrev pub is_settled : World → Bool
is_settled w = list_all is_node_settled w.nodes

-- no next incarnation is left only behind the last one
abbrev pub MayStart : Node → Type 0
MayStart x = last_incarnation x.journal ≢ last_counter

-- Settling, stated of every run: where each node may start, these events bring the world to rest, and they are few.
pub record IsSettling (w : World) : Type 0 where
  pub rests : is_settled (run_on w (settle w)) ≡ true
  pub few : length (settle w) ≤ settle_bound w

abbrev pub Settles : Type 0
Settles = (hosts : Hosts) (es : List WorldEvent) → HaveOwnAddresses hosts → AllByRecursion MayStart (run_of hosts es).nodes → IsSettling (run_of hosts es)
