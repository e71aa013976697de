-- Schedules, and what a report shows of a world.
use Rattle.std.specs.Prelude.{ℕ, List, [], ◌∷◌, Option, Some, None, true, false, nat_eq, ◌+◌, ◌-◌, if◌then◌else◌, length, map, codes, drop}
use Rattle.at_base.specs.Names.{notice_name}
use Rattle.at_base.specs.Numbers.{Numbers}
use Rattle.at_base.specs.declared.epr.Epr.{Epr}
use Rattle.at_base.specs.declared.notice.Kind.{Kind}
use Rattle.at_base.specs.declared.notice.Vote.{Vote}
use Rattle.at_base.specs.declared.notice.Notice.{Notice}
use Rattle.at_base.specs.declared.message.Message.{Message}
use Rattle.at_base.specs.declared.message.Message.TheVariants as messages
use Rattle.at_base.specs.declared.event.Local.{Local}
use Rattle.at_base.specs.declared.event.Local.TheVariants as locals
use Rattle.at_base.specs.declared.outs.Effect.{Effect}
use Rattle.endpoints.specs.Addresses.{slash}
use Rattle.at_model.specs.Activities.{service}
use Rattle.at_model.specs.World.{Posted, Happened, World, example_base, WorldEvent, Deliver, Tick, Turn, Ask, Up}

-- A message as a report shows it: sender, receiver (0 where it has none), the body's name (of a fault its own), and the
-- path of its address.
pub record Line : Type 0 where
  pub sender : ℕ
  pub receiver : ℕ
  pub name : List ℕ
  pub path : List ℕ

abbrev pub line : ℕ → ℕ → List ℕ → List ℕ → Line
line i j name path = record { sender = i; receiver = j; name = name; path = path }

abbrev pub message_name : Message → List ℕ
message_name (messages.Create c) = codes "CreateCoordinationContext"
message_name (messages.CreateResponse context) = codes "CreateCoordinationContextResponse"
message_name (messages.Register r) = codes "Register"
message_name (messages.RegisterResponse epr) = codes "RegisterResponse"
message_name (messages.Notice n) = notice_name n
message_name (messages.Work w) = codes "Work"
message_name messages.WorkDone = codes "WorkDone"
message_name messages.WorkRefused = codes "WorkRefused"
message_name (messages.Fault name) = name

abbrev pub receiver_number : Option ℕ → ℕ
receiver_number None = 0
receiver_number (Some n) = n

-- what stands behind the host of an http address
abbrev pub behind_slash : List ℕ → List ℕ
behind_slash [] = []
behind_slash (b ∷ bytes) = if nat_eq b slash then b ∷ bytes else behind_slash bytes

abbrev pub path_in : Option Epr → List ℕ
path_in None = []
path_in (Some to) = behind_slash (drop (length (codes "http://")) to.address)

abbrev pub line_of : Posted → Line
line_of p = line p.sender (receiver_number p.receiver) (message_name p.content.message) (path_in p.content.to)

-- the messages of a world from this number on
abbrev pub lines_from : ℕ → World → List Line
lines_from k w = map line_of (drop (k - 1) w.posted)

abbrev pub at : ℕ → Effect → Happened
at n e = record { node = n; what = e }

abbrev pub id_at : ℕ → ℕ → Numbers
id_at incarnation counter = record { incarnation = incarnation; counter = counter }

-- The events of a schedule in which every record lands and every out is sent.
abbrev pub up : ℕ → WorldEvent
up n = Up n true false

abbrev pub deliver_to : ℕ → ℕ → WorldEvent
deliver_to n k = Turn n (Deliver k) [] None

abbrev pub tick_at : ℕ → ℕ → WorldEvent
tick_at n ms = Turn n (Tick ms) [] None

abbrev pub request : ℕ → Local → WorldEvent
request n l = Ask n l [] None

abbrev pub begin_at : ℕ → ℕ → ℕ → WorldEvent
begin_at n coordinator ms = request n (locals.Begin (example_base coordinator) ms)

abbrev pub work_at : ℕ → Numbers → ℕ → Kind → Vote → WorldEvent
work_at n activity service kind vote =
    request n (locals.Work activity (example_base service) kind vote (codes "k") (codes "v"))

abbrev pub interpose_at : ℕ → Numbers → ℕ → WorldEvent
interpose_at n activity coordinator = request n (locals.Interpose activity (example_base coordinator))

abbrev pub commit_at : ℕ → Numbers → WorldEvent
commit_at n activity = request n (locals.Commit activity)

-- each message to its node, once: the receivers of the messages from this number on
abbrev pub deliveries : ℕ → List ℕ → List WorldEvent
deliveries k [] = []
deliveries k (n ∷ ns) = deliver_to n k ∷ deliveries (k + 1) ns
