-- A node that serves: its journal is opened and its listener, it comes up, and then it does line after line.
use Rattle.std.specs.Prelude.{ℕ, List, [], ◌∷◌, ◌++◌, ◌≡◌, ◌≤◌, ◌<◌, ◌⊎◌, Option, Some, None, Ok, Err, length, map, replicate, take}
use Rattle.std.specs.Io.KnownBytes.{Appends}
use Rattle.node_at.specs.Endings.{TakesTurn}
use Rattle.node_at.specs.StartedNodes.{IsStarted}
use Rattle.node_at.specs.Starts.{CannotStart}
use Rattle.node_at.specs.State.{State}
use Rattle.node_at.specs.Steps.{Keeping}
use Rattle.node_at.specs.declared.fault.StartFault.{StartFault}
use Rattle.node_at.specs.declared.fault.StartFault.TheVariants as faults
use Rattle.node_at.specs.declared.role.Role.{Role}
use Rattle.node_at.specs.declared.shrink.Shrunk.{Shrunk}
use Rattle.node_worlds.specs.Lives.{Requests}
use Rattle.schedules.specs.declared.initiator_line.InitiatorLine.{InitiatorLine}
use Rattle.shown_pages.specs.Quiet.{Quiet}
use Rattle.site_model.specs.Calls.{Attaches}
use Rattle.site_model.specs.Told.{Told}
use Rattle.site_model.specs.declared.site.AttachFailed.{AttachFailed}
use Rattle.site_model.specs.declared.site.AttachFailed.TheVariants as attaching
use Rattle.serving.specs.declared.answer.Answer.{Answer}
use Rattle.serving.specs.declared.answer.Answer.TheVariants as answers
use Rattle.serving.specs.declared.service_end.Ended.{Ended}
use Rattle.serving.specs.declared.service_end.Ended.TheVariants as endings
use Rattle.serving.specs.declared.request.Request.{Request}
use Rattle.serving.specs.declared.request.Request.TheVariants as requests
use Rattle.serving.specs.Lines.{fault_text, up_line}
use Rattle.serving.specs.Notes.{Item, Notes, left, no_notes, noted}
use Rattle.serving.specs.Requests.{done_by, ended_by, printed, request_of}

-- What a node does for a line: a step for a request, a turn for a `wait`, before which pages may be shown. A line on an activity whose own line was refused
-- is refused, and nothing is done; so is the commit of an activity of which a work was refused.
abbrev pub Does : {S : Type 0} → (S → Told) → Role → Request → Answer → State → State → S → S → Type 0
Does told role (requests.Local l) (answers.Local answer) n m s t = Requests told answer n m l s t × Keeping (told s) (told t)
Does told role requests.Stale answers.Stale n m s t = (m ≡ n) × (t ≡ s)
Does {S} told role requests.Wait (answers.Turn turned) n m s t = (shown : S) × Quiet (told s) (told shown) × ((shrunk : Shrunk) × TakesTurn told turned role shrunk n m shown t)
Does told role request answer n m s t = ⊥

-- A row of lines and turns that were done one after the other, from this node and this machine on: those that are left of all of
-- them, what is noted, what is printed, and the node and the machine behind them.
pub data Row {S : Type 0} (told : S → Told) (role : Role) (all : List Item) (n : State) (s : S) : List Item → Notes → List ℕ → State → S → Type 0 where
  none : Row told role all n s all no_notes [] n s
  more : {rest : List Item} {notes : Notes} {text : List ℕ} {m : State} {t : S} (item : Item) (answer : Answer) (k : State) (u : S)
      → Row told role all n s (item ∷ rest) notes text m t → Does told role (request_of notes item) answer m k t u
      → ended_by (noted notes item answer k.effects).met answer ≡ None
      → Row told role all n s (left (noted notes item answer k.effects) item rest) (noted notes item answer k.effects) (text ++ printed answer k.effects) k u

-- How far a node that came up has come with its lines and turns, what is printed of that, and how it ended, where it did.
pub data Attends {S : Type 0} (told : S → Told) (role : Role) (all : List Item) (n : State) (s new : S) : List ℕ → Option Ended → Type 0 where
  -- it did some of them, but not all
  some : {m : State} {notes : Notes} {text : List ℕ} (item : Item) (rest : List Item) → Row told role all n s (item ∷ rest) notes text m new → Attends told role all n s new text None
  -- it did them all
  whole : {m : State} {notes : Notes} {text : List ℕ} → Row told role all n s [] notes text m new → Attends told role all n s new text (Some (done_by notes.met))
  -- it came to an end with one of them
  last : {m : State} {t : S} {notes : Notes} {text : List ℕ} {ended : Ended} (item : Item) (rest : List Item) (answer : Answer) (k : State)
      → Row told role all n s (item ∷ rest) notes text m t → Does told role (request_of notes item) answer m k t new
      → ended_by (noted notes item answer k.effects).met answer ≡ Some ended → Attends told role all n s new (text ++ printed answer k.effects) (Some ended)

-- What is to be served: at this base, with a journal of this name and a listener at this address, with at most so many bytes a file, with
-- these lines before so many turns.
pub record Serviced : Type 0 where
  pub base : List ℕ
  pub journal : List ℕ
  pub listen : List ℕ
  pub role : Role
  pub limit : ℕ
  pub lines : List InitiatorLine
  pub turns : ℕ

-- the lines, and then so many turns
abbrev pub all_items : List InitiatorLine → ℕ → List Item
all_items ls turns = map Some ls ++ replicate turns None

abbrev pub all_lines : Serviced → List Item
all_lines v = all_items v.lines v.turns

-- the node came up, on a machine whose files and listener were opened, by the names of what is to be served
pub record IsUp {S : Type 0} (told : S → Told) (v : Serviced) (n : State) (old new : S) : Type 0 where
  pub opened : S
  pub attaches : Attaches {T = Unit {0}} v.journal v.listen (Ok tt) (told old) (told opened)
  pub starts : IsStarted v.base v.limit n (told opened) (told new)

abbrev pub attach_ended : AttachFailed → Ended
attach_ended attaching.Disk = endings.DiskFailed
attach_ended attaching.Link = endings.ListenerFailed

abbrev pub start_ended : StartFault → Ended
start_ended faults.NoMemory = endings.NoMemory
start_ended faults.Disk = endings.DiskFailed
start_ended (faults.Bad file place) = endings.BadJournal
start_ended faults.NoJournal = endings.NoJournal
start_ended faults.Spent = endings.Spent
start_ended faults.Full = endings.Full

-- the node says that it is up, before all else
pub data Comes {S : Type 0} (told : S → Told) (role : Role) (all : List Item) (n : State) (s new : S) : List ℕ → Option Ended → Type 0 where
  comes : {text : List ℕ} {ended : Option Ended} → Attends told role all n s new text ended → Comes told role all n s new (up_line n.book.incarnation ++ text) ended

-- How far serving has come, what is printed of that, and how it ended, where it did.
pub data Course {S : Type 0} (told : S → Told) (v : Serviced) (old new : S) : List ℕ → Option Ended → Type 0 where
  -- files or listener couldn't be opened
  unopened : (why : AttachFailed) → Attaches {T = Unit {0}} v.journal v.listen (Err why) (told old) (told new) → Course told v old new [] (Some (attach_ended why))
  -- they were
  opened : Attaches {T = Unit {0}} v.journal v.listen (Ok tt) (told old) (told new) → Course told v old new [] None
  -- the node couldn't start
  unstarted : (opened : S) (fault : StartFault) → Attaches {T = Unit {0}} v.journal v.listen (Ok tt) (told old) (told opened)
      → CannotStart fault v.limit (told opened) (told new) → Course told v old new (fault_text fault) (Some (start_ended fault))
  -- it came up, and attends to its lines
  up : {n : State} {s : S} {text : List ℕ} {ended : Option Ended} → IsUp told v n old s → Comes told v.role (all_lines v) n s new text ended
      → Course told v old new text ended

-- a beginning of what was to be printed was printed
pub record IsCut (P : List ℕ → Option Ended → Type 0) (before after : Option (List ℕ)) : Type 0 where
  pub text : List ℕ
  pub ended : Option Ended
  pub is : P text ended
  pub count : ℕ
  pub within : count ≤ length text
  pub printed : Appends before after (take count text)

-- all of it was printed
pub record IsTold (P : List ℕ → Option Ended → Type 0) (ended : Ended) (before after : Option (List ℕ)) : Type 0 where
  pub text : List ℕ
  pub is : P text (Some ended)
  pub printed : Appends before after text

-- there is more to do, or memory is wanted for it
abbrev pub IsOpen : Option Ended → Type 0
IsOpen None = Unit {0}
IsOpen (Some endings.NoMemory) = Unit {0}
IsOpen (Some other) = ⊥

-- memory was wanted before all was done, or before all was printed
pub record IsWanting (P : List ℕ → Option Ended → Type 0) (before after : Option (List ℕ)) : Type 0 where
  pub cut : IsCut P before after
  pub wanting : IsOpen cut.ended ⊎ (cut.count < length cut.text)

-- A sink that fails may end it anywhere, and want of memory where there is more to do or to print; else it ends as it is said, and all is
-- printed.
abbrev pub Prints : (List ℕ → Option Ended → Type 0) → Ended → Option (List ℕ) → Option (List ℕ) → Type 0
Prints P endings.NoMemory before after = IsWanting P before after
Prints P endings.SinkFailed before after = IsCut P before after
Prints P endings.Done before after = IsTold P endings.Done before after
Prints P endings.DiskFailed before after = IsTold P endings.DiskFailed before after
Prints P endings.Halted before after = IsTold P endings.Halted before after
Prints P endings.BadJournal before after = IsTold P endings.BadJournal before after
Prints P endings.NoJournal before after = IsTold P endings.NoJournal before after
Prints P endings.ListenerFailed before after = IsTold P endings.ListenerFailed before after
Prints P endings.Spent before after = IsTold P endings.Spent before after
Prints P endings.Full before after = IsTold P endings.Full before after
Prints P endings.Unmet before after = IsTold P endings.Unmet before after

-- How serving ended, and what was printed.
abbrev pub Serves : {S : Type 0} → (S → Told) → Serviced → Ended → Option (List ℕ) → Option (List ℕ) → S → S → Type 0
Serves told v ended before after old new = Prints (Course told v old new) ended before after
