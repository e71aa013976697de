-- What a node's turn leaves: its steps, their records and what was sent, and at each moment those of a prefix of them.
use Rattle.std.specs.Prelude.{ℕ, List, [], ◌∷◌, ◌++◌, ◌+◌, ◌≡◌, ◌⊎◌, Bool, true, false, Option, Some, None, if◌then◌else◌, option_map, map, length}
use Rattle.at_base.specs.declared.event.Event.{Event}
use Rattle.at_base.specs.declared.event.Event.TheVariants as events
use Rattle.at_base.specs.declared.record.Record.{Record}
use Rattle.at_model.specs.Book.{Book}
use Rattle.at_model.specs.Step.{Outcome}
use Rattle.http_post.specs.Conversations.{IsSaid, Waits, said, unsaid}
use Rattle.journal_at.specs.declared.journal.Append.TheVariants as appends
use Rattle.journal_at.specs.Format.{frames}
use Rattle.journal_at.specs.StandingBodies.{Keeps, Makes}
use Rattle.journal_at.specs.declared.version.Version.TheVariants.{Two}
use Rattle.record_bytes.specs.Bytes.{bytes_of}
use Rattle.record_bytes.specs.Versions.{IsRecord}
use Rattle.site_model.specs.Counts.{Rose}
use Rattle.site_model.specs.Told.{Told, Link, Made, Still}
use Rattle.node_at.specs.Doings.{Doing, NoLess, Ran, calls_of, deeds_of, lost_of}
use Rattle.node_at.specs.Meanings.{Hears, IsFit, Meaning, next_input}
use Rattle.node_at.specs.Meanings.Meaning.{Refused, Steps, Lost, Unread}
use Rattle.node_at.specs.Moments.{Moments}
use Rattle.node_at.specs.Sends.{Counts}
use Rattle.node_at.specs.State.{State}
use Rattle.node_at.specs.Texts.{call_by}
use Rattle.node_at.specs.TurnText.{IsFirst, Steppings, TurnStep, refusing}
use Rattle.node_at.specs.declared.role.Role.{Role}
use Rattle.node_at.specs.declared.turn.Turned.{Turned}
use Rattle.node_at.specs.declared.turn.Turned.TheVariants as turneds

-- whether a request was there
abbrev pub is_heard : Meaning → Bool
is_heard (Refused status text) = true
is_heard (Steps event) = true
is_heard Lost = false
is_heard Unread = false

abbrev pub is_tick_event : Event → Bool
is_tick_event events.Tick = true
is_tick_event (events.Arrived a) = false
is_tick_event (events.Local l) = false
is_tick_event (events.Due item) = false

abbrev pub is_tick : Meaning → Bool
is_tick (Refused status text) = false
is_tick (Steps event) = is_tick_event event
is_tick Lost = false
is_tick Unread = false

-- The interim line is said at most once, before the first step: where the client waits for it, and not elsewhere, unless
-- sending it failed, which is counted. Where the connection failed, or there was no memory, perhaps it wasn't tried
-- (RFC 9110, section 10.1.1).
pub record IsLine (input : Option (List ℕ)) (heard : Bool) (old new : Told) (made : List Made) : Type 0 where
  pub once : (made ≡ []) ⊎ ((made ≡ said true) ⊎ (made ≡ unsaid))
  pub asked : (bytes : List ℕ) → input ≡ Some bytes → (made ≡ []) ⊎ Waits bytes true
  pub exact : heard ≡ true → (bytes : List ℕ) → input ≡ Some bytes → (waits : Bool) × (Waits bytes waits × IsSaid waits old.counts.link new.counts.link made)

abbrev pub line_of : List Made → List Doing
line_of made = record { landed = []; first = []; made = made; lost = 0; refused = 0 } ∷ []

-- where no step came, the node answers that it is busy
abbrev pub busy : Book → List TurnStep → List TurnStep
busy b [] = refusing b 503 None ∷ []
busy b (s ∷ ss) = []

-- All steps were done.
pub record Whole (lines : List Doing) (meaning : Meaning) (now status : ℕ) (n m : State) (old new : Told) : Type 0 where
  pub steps : List TurnStep
  pub doings : List Doing
  pub turns : Steppings now n.book [] meaning steps status
  pub ran : Ran lines steps doings n m old new

-- no step, or some, but not all
pub data Begun (meaning : Meaning) (now : ℕ) (b : Book) : List TurnStep → Type 0 where
  none : Begun meaning now b []
  some : {steps : List TurnStep} (status : ℕ) (left : List Outcome) → Steppings now b left meaning steps status → (left ≡ [] → ⊥) → Begun meaning now b steps

-- For the next step there was no memory.
pub record Cut (lines : List Doing) (meaning : Meaning) (now : ℕ) (n m : State) (old new : Told) : Type 0 where
  pub steps : List TurnStep
  pub doings : List Doing
  pub begun : Begun meaning now n.book steps
  pub ran : Ran lines (steps ++ busy n.book steps) doings n m old new

-- The record of the first step may stand or not: nothing of it was sent. It counts as one whose record landed and whose
-- outs are still to be sent.
pub record Halts (lines : List Doing) (meaning : Meaning) (now : ℕ) (n m : State) (old new : Told) : Type 0 where
  pub step : TurnStep
  pub status : ℕ
  pub is_first : IsFirst n.book now meaning step status
  pub entry : Record
  pub records : step.entry ≡ Some entry
  pub formed : IsRecord Two entry (bytes_of entry)
  pub landed : step.landed ≡ true
  pub same : m ≡ record n { journal = m.journal; halted = true }
  pub unsure : m.journal.unsure ≡ true
  pub rose : Rose old.counts.gate new.counts.gate
  pub first : List Made
  pub makes : (bodies : List (List ℕ)) → Keeps n.journal bodies old → Makes appends.Unsure n.journal.live (length (frames bodies)) (bytes_of entry) first
  pub calls : new.calls ≡ option_map (λ l. l ++ (calls_of lines ++ first)) old.calls
  pub later : NoLess old.counts new.counts
  pub moments : (bodies : List (List ℕ)) → Keeps n.journal bodies old
      → Moments n.journal.live bodies (deeds_of lines ++ record { landed = bytes_of entry ∷ []; sent = map call_by step.leaving } ∷ []) old new

-- what the turn of an event answers
abbrev pub turned_by : Event → ℕ → Turned
turned_by events.Tick status = turneds.Ticked
turned_by (events.Arrived a) status = turneds.Served status
turned_by (events.Local l) status = turneds.Served status
turned_by (events.Due item) status = turneds.Served status

-- What a turn that answers so did for a request that asks this.
abbrev pub Works : Turned → List Doing → Meaning → ℕ → State → State → Told → Told → Type 0
Works (turneds.Served status) lines meaning now n m old new = Whole lines meaning now status n m old new × (is_tick meaning ≡ false)
Works turneds.Ticked lines meaning now n m old new = Whole lines meaning now 202 n m old new × (is_tick meaning ≡ true)
Works turneds.NoRoom lines meaning now n m old new = Cut lines meaning now n m old new
Works turneds.Halted lines meaning now n m old new = Halts lines meaning now n m old new
Works turneds.Closed lines meaning now n m old new = ⊥
Works turneds.LinkDown lines meaning now n m old new = ⊥

-- how many answers and posts of its steps were lost
abbrev pub lost_in : (result : Turned) (lines : List Doing) (meaning : Meaning) (now : ℕ) (n m : State) (old new : Told) → Works result lines meaning now n m old new → ℕ
lost_in (turneds.Served status) lines meaning now n m old new works = lost_of works.0.doings
lost_in turneds.Ticked lines meaning now n m old new works = lost_of works.0.doings
lost_in turneds.NoRoom lines meaning now n m old new works = lost_of works.doings
lost_in turneds.Halted lines meaning now n m old new works = 0
lost_in turneds.Closed lines meaning now n m old new works = 0
lost_in turneds.LinkDown lines meaning now n m old new works = 0

-- the calls of the line that failed
abbrev pub unsaid_in : List Made → ℕ
unsaid_in [] = 0
unsaid_in (m ∷ ms) = (if m.done then 0 else 1) + unsaid_in ms

-- What a turn over an open connection that brings this did. The clock is asked once. Where a request was there, a line that
-- wasn't said is counted beside the answers and posts that were lost. At the end the connection is closed.
pub record Serves (result : Turned) (role : Role) (input : Option (List ℕ)) (n m : State) (old new : Told) : Type 0 where
  pub meaning : Meaning
  pub heard : Hears role input meaning
  pub fit : IsFit meaning
  pub now : ℕ
  pub clock : (t : ℕ) → old.clock ≡ Some t → now ≡ t
  pub made : List Made
  pub line : IsLine input (is_heard meaning) old new made
  pub lost : meaning ≡ Lost → Rose old.counts.receive new.counts.receive
  pub received : (meaning ≡ Lost → ⊥) → new.counts.receive ≡ old.counts.receive
  pub works : Works result (line_of made) meaning now n m old new
  pub counted : is_heard meaning ≡ true → (bytes : List ℕ) → input ≡ Some bytes → Counts (unsaid_in made + lost_in result (line_of made) meaning now n m old new works) old.counts.link new.counts.link
  pub closed : (l : Link) → new.link ≡ Some l → l.open_bytes ≡ []
  pub later : NoLess old.counts new.counts

-- a request was there, and was answered
abbrev pub IsAnswer : Turned → Type 0
IsAnswer (turneds.Served status) = status ≡ 0 → ⊥
IsAnswer turneds.Ticked = Unit {0}
IsAnswer other = ⊥

-- no effect yet
abbrev pub calm : State → State
calm n = record n { effects = [] }

-- a connection was opened, and served
pub record Opens (result : Turned) (role : Role) (n m : State) (old new : Told) : Type 0 where
  pub serves : Serves result role (next_input old.link) (calm n) m old new
  pub taken : Rose old.counts.taken new.counts.taken

-- nothing was sent, appended or attached, and the node is as before
pub record Rests (n m : State) (old new : Told) : Type 0 where
  pub same : m ≡ calm n
  pub still : Still old new
  pub attached : new.counts.attached ≡ old.counts.attached

-- it is told of no connection that waits
abbrev pub NoneWait : Told → Type 0
NoneWait old = (l : Link) → old.link ≡ Some l → l.waiting ≡ []

abbrev pub Turns : Turned → Role → State → State → Told → Told → Type 0
Turns (turneds.Served status) role n m old new = Opens (turneds.Served status) role n m old new
Turns turneds.Ticked role n m old new = Opens turneds.Ticked role n m old new
Turns turneds.NoRoom role n m old new = Opens turneds.NoRoom role n m old new
Turns turneds.Halted role n m old new = ((n.halted ≡ true) × Rests n m old new) ⊎ ((n.halted ≡ false) × Opens turneds.Halted role n m old new)
Turns turneds.Closed role n m old new = (n.halted ≡ false) × Rests n m old new × Rose old.counts.closings new.counts.closings × NoneWait old
Turns turneds.LinkDown role n m old new = (n.halted ≡ false) × Rests n m old new × Rose old.counts.accept new.counts.accept × (new.counts.arming ≡ old.counts.arming)
