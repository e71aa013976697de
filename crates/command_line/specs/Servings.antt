-- What the commands that serve do.
use Rattle.std.specs.Prelude.{ℕ, List, [], ◌∷◌, ◌≡◌, ◌≤◌, ◌⊎◌, Bool, true, false, Ok, Err, Option, IfSome, IsTrue, length, nat_eq, take}
use Rattle.std.specs.List.{list_any}
use Rattle.std.specs.Io.KnownBytes.{Appends}
use Rattle.schedules.specs.InitiatorLines.{initiator_lines_of}
use Rattle.schedules.specs.declared.initiator_line.InitiatorLine.{InitiatorLine}
use Rattle.schedules.specs.declared.line.BadLine.{BadLine}
use Rattle.serving.specs.Runs.{Serves, Serviced}
use Rattle.serving.specs.Services.{base_at}
use Rattle.serving.specs.declared.service_end.Ended.{Ended}
use Rattle.serving.specs.declared.service_end.Ended.TheVariants as endings
use Rattle.node_at.specs.declared.role.Role.{Role as Served}
use Rattle.node_at.specs.declared.role.Role.TheVariants as roles
use Rattle.site_model.specs.Told.{Told}
use Rattle.command_line.specs.Jobs.{Role, Serving}
use Rattle.command_line.specs.Jobs.Role.{Coordinator, Participant, Initiator}
use Rattle.command_line.specs.Reports.{bad_line}

abbrev pub role_of : Role → Served
role_of Coordinator = roles.Coordinator
role_of Participant = roles.Participant
role_of Initiator = roles.Initiator

abbrev pub is_initiator : Role → Bool
is_initiator Coordinator = false
is_initiator Participant = false
is_initiator Initiator = true

-- the most bytes of a journal's file
abbrev pub journal_limit : ℕ
journal_limit = 4294967295

-- its base is the one that is given, or else `http://` and its address; what is opened are the journal and the address of the words
abbrev pub service_of : Serving → List InitiatorLine → Serviced
service_of s lines = record { base = base_at s.listen s.base; journal = s.journal; listen = s.listen; role = role_of s.role; limit = journal_limit; lines = lines; turns = s.turns }

-- the status that serving ends with
abbrev pub status_by : Ended → ℕ
status_by endings.Done = 0
status_by endings.SinkFailed = 5
status_by endings.DiskFailed = 6
status_by endings.Halted = 6
status_by endings.BadJournal = 7
status_by endings.NoJournal = 7
status_by endings.ListenerFailed = 8
status_by endings.NoMemory = 9
status_by endings.Spent = 11
status_by endings.Full = 12
status_by endings.Unmet = 13

-- It served these lines and so many turns, and ended so; or there was no memory to begin, and nothing was done.
pub data HasServed {S : Type 0} (told : S → Told) (s : Serving) (lines : List InitiatorLine) (status : ℕ) (before after : Option (List ℕ)) (old new : S) : Type 0 where
  served : (ended : Ended) → Serves told (service_of s lines) ended before after old new → status ≡ status_by ended → HasServed told s lines status before after old new
  unserved : status ≡ 9 → Appends before after [] → new ≡ old → HasServed told s lines status before after old new

-- The bad line was printed, or a beginning of that; or there was no memory, and nothing was.
abbrev pub Refuses : BadLine → ℕ → Option (List ℕ) → Option (List ℕ) → Type 0
Refuses bad status before after =
    ((status ≡ 3) × Appends before after (bad_line bad))
    ⊎ (((status ≡ 5) × ((count : ℕ) × ((count ≤ length (bad_line bad)) × Appends before after (take count (bad_line bad))))) ⊎ ((status ≡ 9) × Appends before after []))

-- An initiator reads its lines first, all of them.
pub data Initiates {S : Type 0} (told : S → Told) (s : Serving) (left : Option (List ℕ)) (status : ℕ) (before after : Option (List ℕ)) (old new : S) : Type 0 where
  -- it served them
  served : (lines : List InitiatorLine) → IfSome left (λ input. initiator_lines_of input ≡ Ok lines) → HasServed told s lines status before after old new
      → Initiates told s left status before after old new
  -- one is bad
  refused : (bad : BadLine) → IfSome left (λ input. initiator_lines_of input ≡ Err bad) → Refuses bad status before after → new ≡ old
      → Initiates told s left status before after old new
  -- the input couldn't be read, is too long, or there was no memory
  unread : IsTrue (list_any (nat_eq status) (4 ∷ 9 ∷ 10 ∷ [])) → Appends before after [] → new ≡ old → Initiates told s left status before after old new

-- whether it is an initiator
abbrev pub initiates : Serving → Bool
initiates s = is_initiator s.role
