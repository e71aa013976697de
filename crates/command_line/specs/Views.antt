-- The job that the program's own names, and what stands where the words are none.
use Rattle.std.specs.Prelude.{ℕ, List, string_bytes, ◌∷◌, [], ◌≡◌, ◌≢◌, codes, Bool, true, false, if◌then◌else◌, bytes_eq, Option, Some, None, option_map}
use Rattle.clap.specs.Simple.{subcommand_of}
use Rattle.clap.specs.Faults.{fault_of}
use Rattle.clap.specs.Walk.{Row, Text, first_of}
use Rattle.clap.specs.declared.error.kind.ErrorKind.{ErrorKind}
use Rattle.clap.specs.declared.error.kind.ErrorKind.TheVariants.{OutOfMemory}
use Rattle.command_line.specs.declared.job.Job.{Job as Named}
use Rattle.command_line.specs.declared.job.Job.TheVariants as named
use Rattle.command_line.specs.declared.job.NoJob.{NoJob}
use Rattle.command_line.specs.declared.job.NoJob.TheVariants as none
use Rattle.command_line.specs.Commands.{whole}
use Rattle.command_line.specs.declared.job.Filter.{Filter as NamedFilter}
use Rattle.command_line.specs.declared.job.Filter.TheVariants as filters
use Rattle.command_line.specs.declared.job.Role.{Role as NamedRole}
use Rattle.command_line.specs.declared.job.Role.TheVariants as roles
use Rattle.command_line.specs.declared.job.Serving.{Serving as NamedServing}
use Rattle.command_line.specs.Jobs.{Filter, IsFaulty, IsQuestion, Job, Role, Serving, asks_for, is_wildcard}
use Rattle.command_line.specs.Jobs.Role.{Coordinator, Participant, Initiator}
use Rattle.command_line.specs.Jobs.Filter.{Cell, Check, Replay}
use Rattle.command_line.specs.Jobs.Job.{Audit, Filters, Make, Serve, Show, ShowLine, Tick}

abbrev pub meant_filter : NamedFilter → Filter
meant_filter (filters.Cell state) = Cell state
meant_filter (filters.Check path) = Check path.now
meant_filter (filters.Replay options) = Replay options

abbrev pub meant_role : NamedRole → Role
meant_role roles.Coordinator = Coordinator
meant_role roles.Participant = Participant
meant_role roles.Initiator = Initiator

abbrev pub meant_serving : NamedServing → Serving
meant_serving s = record { role = meant_role s.role; listen = s.listen.now; base = option_map (λ b. b.now) s.base; journal = s.journal.now; turns = s.turns }

abbrev pub meant : Named → Job
meant (named.Filter filter) = Filters (meant_filter filter)
meant named.Audit = Audit
meant (named.Show file) = Show file.now
meant (named.ShowLine base file) = ShowLine base.now file.now
meant (named.Make seed steps) = Make seed steps
meant (named.Tick to) = Tick to
meant (named.Serve s) = Serve (meant_serving s)

-- what is said of a value that doesn't read: the states that there are, which clap takes any value for,
unfoldable pub unknown_state : List ℕ
unknown_state = codes "error: invalid value for '--state <STATE>'\n  [possible values: None, Registering, Active, Preparing, Prepared, PreparedSuccess, Committing, Aborting, Completing, Done]\n\nFor more information, try '--help'.\n"

-- or what a node's URL is
unfoldable pub no_destination : List ℕ
no_destination = codes "error: invalid value for '--to <URL>'\n  [an http URL, with '/tick' behind it of at most 2048 bytes]\n\nFor more information, try '--help'.\n"

-- or what the numbers are of which a schedule is made
unfoldable pub no_numbers : List ℕ
no_numbers = codes "error: invalid value for '--seed <SEED>' or '--steps <N>'\n  [SEED: 0 to 18446744073709551615; N: 0 to 9999]\n\nFor more information, try '--help'.\n"

-- or what the base is of a node whose journal is audited
unfoldable pub no_journal_base : List ℕ
no_journal_base = codes "error: invalid value for '--hex <BASE>'\n  [an http URL of at most 1024 bytes, without a slash at its end, behind which a path may stand]\n\nFor more information, try '--help'.\n"

-- or what the address, the base and the number of a node that serves are
unfoldable pub no_serving : List ℕ
no_serving = codes "error: invalid value for '--listen <ADDR>', '--base <URL>' or '--turns <N>'\n  [ADDR: HOST:PORT of at most 1000 bytes, as http URLs are normalized, PORT 1 to 65535; URL: http:// and such an ADDR, not 0.0.0.0 or [::]; N: 0 to 4294967295]\n\nFor more information, try '--help'.\n"

-- or that nobody reaches a node at every address of its machine
unfoldable pub no_base : List ℕ
no_base = codes "error: '--listen <ADDR>' is every address of this machine, at which no other node reaches it\n  [say by '--base <URL>' how others reach it, as http://h.example:9001]\n\nFor more information, try '--help'.\n"

-- it would listen at every address of its machine, and no base is given
abbrev pub is_unreached : Option Text → Option Text → Bool
is_unreached (Some listen) None = is_wildcard listen
is_unreached (Some listen) (Some base) = false
is_unreached None base = false

abbrev pub unread_serving : List Row → List ℕ
unread_serving rows = if is_unreached (first_of (codes "listen") rows) (first_of (codes "base") rows) then no_base else no_serving

-- of the command of this name, with these values of its options
abbrev pub unread_at : Text → List Row → List ℕ
unread_at name rows =
    if bytes_eq name (codes "tick") then no_destination
    else if bytes_eq name (codes "make") then no_numbers
    else if bytes_eq name (codes "journal") then no_journal_base
    else if bytes_eq name (codes "cell") then unknown_state
    else unread_serving rows

abbrev pub unread_text : Option (Text × List Row) → List ℕ
unread_text (Some found) = unread_at found.0 found.1
unread_text None = unknown_state

-- clap refuses the words, or only a value doesn't read
abbrev pub Tells : List Text → NoJob → Type 0
Tells words none.NoMemory = Unit {0}
Tells words (none.Question text) = IsQuestion words
Tells words (none.Refused text) = IsFaulty words × (fault_of whole words ≢ [])
Tells words none.UnknownState = IsFaulty words × (fault_of whole words ≡ []) × (unread_text (subcommand_of whole words) ≡ unknown_state)
Tells words none.NoDestination = IsFaulty words × (fault_of whole words ≡ []) × (unread_text (subcommand_of whole words) ≡ no_destination)
Tells words none.NoNumbers = IsFaulty words × (fault_of whole words ≡ []) × (unread_text (subcommand_of whole words) ≡ no_numbers)
Tells words none.NoJournalBase = IsFaulty words × (fault_of whole words ≡ []) × (unread_text (subcommand_of whole words) ≡ no_journal_base)
Tells words none.NoServing = IsFaulty words × (fault_of whole words ≡ []) × (unread_text (subcommand_of whole words) ≡ no_serving)
Tells words none.NoBase = IsFaulty words × (fault_of whole words ≡ []) × (unread_text (subcommand_of whole words) ≡ no_base)

-- what an error of clap's says, by its kind
abbrev pub Says : ErrorKind → NoJob → Type 0
Says kind none.NoMemory = Unit {0}
Says kind (none.Question text) = asks_for kind ≡ true
Says kind (none.Refused text) = (asks_for kind ≡ false) × (kind ≢ OutOfMemory)
Says kind none.UnknownState = ⊥
Says kind none.NoDestination = ⊥
Says kind none.NoNumbers = ⊥
Says kind none.NoJournalBase = ⊥
Says kind none.NoServing = ⊥
Says kind none.NoBase = ⊥

-- what a value that doesn't read says, by the command's name and the values of its options
abbrev pub SaysUnread : Text → List Row → NoJob → Type 0
SaysUnread name rows none.UnknownState = unread_at name rows ≡ unknown_state
SaysUnread name rows none.NoDestination = unread_at name rows ≡ no_destination
SaysUnread name rows none.NoNumbers = unread_at name rows ≡ no_numbers
SaysUnread name rows none.NoJournalBase = unread_at name rows ≡ no_journal_base
SaysUnread name rows none.NoServing = unread_at name rows ≡ no_serving
SaysUnread name rows none.NoBase = unread_at name rows ≡ no_base
SaysUnread name rows _ = ⊥

abbrev pub SaysServing : List Row → NoJob → Type 0
SaysServing rows none.NoServing = unread_serving rows ≡ no_serving
SaysServing rows none.NoBase = unread_serving rows ≡ no_base
SaysServing rows _ = ⊥

-- the statuses that it ends with
abbrev pub statuses_of : NoJob → List ℕ
statuses_of none.NoMemory = 9 ∷ []
statuses_of (none.Question text) = 0 ∷ 5 ∷ []
statuses_of (none.Refused text) = 2 ∷ []
statuses_of none.UnknownState = 2 ∷ []
statuses_of none.NoDestination = 2 ∷ []
statuses_of none.NoNumbers = 2 ∷ []
statuses_of none.NoJournalBase = 2 ∷ []
statuses_of none.NoServing = 2 ∷ []
statuses_of none.NoBase = 2 ∷ []

-- what is said of it: of a question on the output, of words that are faulty among the errors
abbrev pub told : NoJob → List ℕ
told none.NoMemory = []
told (none.Question text) = string_bytes text
told (none.Refused text) = string_bytes text
told none.UnknownState = unknown_state
told none.NoDestination = no_destination
told none.NoNumbers = no_numbers
told none.NoJournalBase = no_journal_base
told none.NoServing = no_serving
told none.NoBase = no_base

-- where nothing is said, this holds
abbrev pub Leaves : NoJob → Type 0 → Type 0
Leaves none.NoMemory quiet = quiet
Leaves _ quiet = Unit {0}
