-- What the lines of a schedule do to a play.
use Rattle.std.specs.Prelude.{ℕ, List, [], ◌∷◌, ◌++◌, ◌-◌, ◌≡◌, Option, Some, None, length, option_map, slice_set, zero, suc}
use Rattle.armed_calls.specs.Faults.{raw_at}
use Rattle.armed_calls.specs.declared.fault.Armed.{Armed}
use Rattle.armed_calls.specs.declared.fault.Fault.TheVariants as faults
use Rattle.at_base.specs.declared.event.Local.TheVariants as locals
use Rattle.at_model.specs.Views.{up, deliver_to, tick_at, request, begin_at, interpose_at, work_at, commit_at}
use Rattle.at_model.specs.World.{WorldEvent, Crash, node_of, nth}
use Rattle.raw_requests.specs.Draws.{Draws}
use Rattle.raw_requests.specs.declared.Drawn.{Drawn}
use Rattle.raw_requests.specs.declared.Drawn.TheVariants as drawns
use Rattle.replay_cmd.specs.Deliveries.{lowest, yes_at}
use Rattle.replay_cmd.specs.Lines.{forged_line, no_message_line}
use Rattle.replay_cmd.specs.ReportOf.{armed_at, receiver_in}
use Rattle.schedules.specs.Values.{bytes_in}
use Rattle.schedules.specs.declared.line.Line.{Line}
use Rattle.schedules.specs.declared.line.Line.TheVariants as lines
use Rattle.net_plays.specs.Plays.{Happens, Play}

-- What a line asks for happens, with the call armed that is armed at its node.
abbrev pub Comes : WorldEvent → Play → Play → Type 0
Comes asked p q = Happens (armed_at (node_of asked) p.armed) asked [] 0 p q

abbrev pub printed : List ℕ → Play → Play
printed line p = record p { text = p.text ++ line }

-- A node has one call armed; the next takes its place.
abbrev pub with_armed : ℕ → Option Armed → Play → Play
with_armed n a p = record p { armed = slice_set p.armed (n - 1) a }

-- Bytes that draw this come to a node; those that are a message, or ask for what is due, aren't handed over.
abbrev pub BringsDrawn : Drawn → List ℕ → ℕ → Play → Play → Type 0
BringsDrawn drawns.Forged bytes n p q = q ≡ printed (forged_line n) p
BringsDrawn (drawns.Refused s waits) bytes n p q = Happens (armed_at n p.armed) (raw_at n) bytes s p q

abbrev pub Brings : List ℕ → ℕ → Play → Play → Type 0
Brings bytes n p q = (d : Drawn) × Draws bytes d × BringsDrawn d bytes n p q

-- A message goes to its node, whether it did before or not.
abbrev pub GoesTo : ℕ → Option ℕ → Play → Play → Type 0
GoesTo k None p q = q ≡ printed (no_message_line k) p
GoesTo k (Some n) p q = Comes (deliver_to n k) p q

abbrev pub marked : ℕ → Play → Play
marked k p = record p { delivered = yes_at (k - 1) p.delivered }

abbrev pub DeliveredTo : ℕ → Option (Option ℕ) → Play → Play → Type 0
DeliveredTo k None p q = q ≡ printed (no_message_line k) p
DeliveredTo k (Some receiver) p q = GoesTo k receiver (marked k p) q

abbrev pub Delivers : ℕ → Play → Play → Type 0
Delivers k p q = DeliveredTo k (option_map receiver_in (nth k p.world.posted)) p q

abbrev pub DeliversWhere : Option ℕ → Play → Play → Type 0
DeliversWhere None p q = q ≡ p
DeliversWhere (Some k) p q = Delivers k p q

-- Up to so many times, the lowest message that was never delivered goes to its node.
abbrev pub Flushes : ℕ → Play → Play → Type 0
Flushes zero p q = q ≡ p
Flushes (suc most) p q = (r : Play) × DeliversWhere (lowest (length p.world.posted) 1 p.delivered) p r × Flushes most r q

-- How many nodes there are is known from the start.
abbrev pub Takes : Line → Play → Play → Type 0
Takes (lines.Nodes count) p q = q ≡ p
Takes (lines.Begin n coordinator ms) p q = Comes (begin_at n coordinator ms) p q
Takes (lines.Interpose n activity coordinator) p q = Comes (interpose_at n activity coordinator) p q
Takes (lines.Work n activity service kind vote) p q = Comes (work_at n activity service kind vote) p q
Takes (lines.Commit n activity) p q = Comes (commit_at n activity) p q
Takes (lines.Rollback n activity) p q = Comes (request n (locals.Rollback activity)) p q
Takes (lines.Deliver k) p q = Delivers k p q
Takes (lines.Flush most) p q = Flushes most p q
Takes (lines.Tick n ms) p q = Comes (tick_at n ms) p q
Takes (lines.Crash n) p q = Comes (Crash n) p q
Takes (lines.Up n) p q = Comes (up n) p q
Takes (lines.Stop n call left) p q = q ≡ with_armed n (Some (record { call = call; fault = faults.Stop left })) p
Takes (lines.Fail n call) p q = q ≡ with_armed n (Some (record { call = call; fault = faults.Fail })) p
Takes (lines.Inject n digits) p q = Brings (bytes_in digits) n p q

abbrev pub TakesAll : List Line → Play → Play → Type 0
TakesAll [] p q = q ≡ p
TakesAll (line ∷ rest) p q = (r : Play) × Takes line p r × TakesAll rest r q
