-- What the words are: a job, a question for the help or the version, or faulty.
use Rattle.std.specs.Prelude.{ℕ, List, [], ◌∷◌, ◌++◌, ◌-◌, ◌^◌, ◌≡◌, Bool, true, false, ◌&&◌, ◌||◌, ◌==◌, ◌⊎◌, bytes_eq, decimal, drop, is_some, nat_le, not, length, take, if◌then◌else◌, Option, Some, None, Ok, codes, IsSomeAnd, IsTrue}
use Rattle.std.specs.List.{list_all}
use Rattle.at_base.specs.declared.limits.TheConstants.{MOST_ENDPOINT}
use Rattle.addressing.specs.PostAddresses.{post_to_of}
use Rattle.addressing.specs.declared.post_to.PostTo.{PostTo}
use Rattle.arrivals.specs.Worlds.{IsBase}
use Rattle.at_tables.specs.Texts.{state_name}
use Rattle.at_tables.specs.declared.cells.State.{State}
use Rattle.clap.specs.Faults.{fault_of}
use Rattle.clap.specs.Kinds.{Kinds}
use Rattle.clap.specs.Simple.{subcommand_of}
use Rattle.clap.specs.Walk.{Row, Text, first_of}
use Rattle.clap.specs.declared.error.kind.ErrorKind.{ErrorKind}
use Rattle.clap.specs.declared.error.kind.ErrorKind.TheVariants.{DisplayHelp, DisplayVersion}
use Rattle.replay_cmd.specs.declared.options.Options.{Options}
use Rattle.schedules.specs.Values.{number_in}
use Rattle.journal_cmd.specs.Bases.{is_journal_base}
use Rattle.command_line.specs.Commands.{whole}

-- what reads its input to the end, and prints what it makes of it
pub data Filter : Type 0 where
  -- the cell of this state that an envelope meets
  Cell : State → Filter
  -- what an envelope says, for the path of its request
  Check : List ℕ → Filter
  -- the report of a schedule, with what is asked beside it
  Replay : Options → Filter

abbrev pub is_replay : Filter → Bool
is_replay (Cell state) = false
is_replay (Check path) = false
is_replay (Replay options) = true

-- what a node that serves is
pub data Role : Type 0 where
  Coordinator : Role
  Participant : Role
  Initiator : Role

abbrev pub role_name : Role → Text
role_name Coordinator = codes "coordinator"
role_name Participant = codes "participant"
role_name Initiator = codes "initiator"

-- a node that takes so many connections at an address, and that others reach at a base where one is given, with its journal in a
-- file of that name
pub record Serving : Type 0 where
  pub role : Role
  pub listen : List ℕ
  pub base : Option (List ℕ)
  pub journal : List ℕ
  pub turns : ℕ

pub data Job : Type 0 where
  Filters : Filter → Job
  -- what the journals of several nodes say together
  Audit : Job
  -- what the journal in a file of this name stands for
  Show : List ℕ → Job
  -- its line for an audit, of a node with this base
  ShowLine : List ℕ → List ℕ → Job
  -- how so many lines that are made of a seed come out
  Make : ℕ → ℕ → Job
  -- a post to this destination, which asks a node for what is due
  Tick : PostTo → Job
  Serve : Serving → Job

-- the value of a flag
abbrev pub flag_text : Bool → Text
flag_text true = codes "true"
flag_text false = codes "false"

abbrev pub MeansFilter : Text → List Row → Filter → Type 0
MeansFilter name rows (Cell state) = (name ≡ codes "cell") × (first_of (codes "state") rows ≡ Some (state_name state))
MeansFilter name rows (Check path) = (name ≡ codes "check") × (first_of (codes "path") rows ≡ Some path)
MeansFilter name rows (Replay options) =
    (name ≡ codes "replay")
    × (first_of (codes "settle") rows ≡ Some (flag_text options.settle))
    × (first_of (codes "bytes") rows ≡ Some (flag_text options.bytes))

-- the seed and how many lines, in decimal without sign or leading zeros
abbrev pub MeansMade : List Row → ℕ → ℕ → Type 0
MeansMade rows seed steps =
    IsSomeAnd (first_of (codes "seed") rows) (λ word. number_in 0 (2 ^ 64 - 1) word ≡ Ok seed)
    × IsSomeAnd (first_of (codes "steps") rows) (λ word. number_in 0 9999 word ≡ Ok steps)

-- where a node at this base is asked: an http URL of at most 2,048 bytes
abbrev pub tick_address : List ℕ → List ℕ
tick_address url = url ++ codes "/tick"

abbrev pub tick_to : List ℕ → Option PostTo
tick_to url = if nat_le (length (tick_address url)) MOST_ENDPOINT then post_to_of (tick_address url) else None

abbrev pub is_visible : ℕ → Bool
is_visible b = nat_le 33 b && nat_le b 126

-- the host and the port of a destination, as they stand in an http URL (RFC 9110, section 4.2.1)
abbrev pub authority : PostTo → List ℕ
authority to = to.host ++ (codes ":" ++ decimal to.port)

-- they are the whole address, and the port isn't 0
abbrev pub is_authority : List ℕ → Option PostTo → Bool
is_authority listen (Some to) = nat_le 1 to.port && bytes_eq (authority to) listen
is_authority listen None = false

-- the address of a node: exactly the host and the port to which a post goes whose URL is the node's base, `http://` and the address
abbrev pub is_address : List ℕ → Bool
is_address listen = nat_le (length listen) 1000 && list_all is_visible listen && is_authority listen (post_to_of (codes "http://" ++ listen))

-- `#`, `/`, `?` or `@`, which begins or ends another part of a URL
abbrev pub is_delimiter : ℕ → Bool
is_delimiter b = b == 35 || b == 47 || b == 63 || b == 64

-- an address has none of them
abbrev pub IsNoDelimiter : ℕ → Type 0
IsNoDelimiter b = is_delimiter b ≡ false

-- Under `http://` and the address the addresses of a node's items are URLs with their paths. A URL names port 80 by no port (URL Standard,
-- section 4.5), so of that port nothing is said.
abbrev pub HasBase : List ℕ → Type 0
HasBase listen = (to : PostTo) → post_to_of (codes "http://" ++ listen) ≡ Some to → (to.port ≡ 80 → ⊥) → IsBase (codes "http://" ++ listen)

-- what stands behind this text
abbrev pub behind : List ℕ → List ℕ → Option (List ℕ)
behind prefix bytes = if bytes_eq (take (length prefix) bytes) prefix then Some (drop (length prefix) bytes) else None

-- every address of a machine (RFC 1122, section 3.2.1.3; RFC 4291, section 2.5.2), at which nobody else reaches it
abbrev pub is_wildcard : List ℕ → Bool
is_wildcard listen = is_some (behind (codes "0.0.0.0:") listen) || is_some (behind (codes "[::]:") listen)

-- how others reach a node: `http://` and an address at which they do
abbrev pub is_reachable : Option (List ℕ) → Bool
is_reachable (Some address) = not (is_wildcard address) && is_address address
is_reachable None = false

abbrev pub is_base : List ℕ → Bool
is_base base = is_reachable (behind (codes "http://") base)

-- others reach the node: at the base that is given, or else where it listens
abbrev pub is_reached : List ℕ → Option (List ℕ) → Bool
is_reached listen (Some base) = is_base base
is_reached listen None = not (is_wildcard listen)

-- how many connections: no end of them, where none is said
abbrev pub MeansTurns : Option Text → ℕ → Type 0
MeansTurns None turns = turns ≡ 2 ^ 64 - 1
MeansTurns (Some word) turns = number_in 0 (2 ^ 32 - 1) word ≡ Ok turns

abbrev pub MeansServing : Text → List Row → Serving → Type 0
MeansServing name rows s =
    (name ≡ role_name s.role) × (first_of (codes "listen") rows ≡ Some s.listen) × (is_address s.listen ≡ true)
    × (first_of (codes "base") rows ≡ s.base) × (is_reached s.listen s.base ≡ true)
    × (first_of (codes "journal") rows ≡ Some s.journal) × MeansTurns (first_of (codes "turns") rows) s.turns

-- a command of this name, with these values of its options, is the job
abbrev pub Means : Text → List Row → Job → Type 0
Means name rows (Filters filter) = MeansFilter name rows filter
Means name rows Audit = name ≡ codes "audit"
Means name rows (Show file) = (name ≡ codes "journal") × (first_of (codes "file") rows ≡ Some file) × (first_of (codes "hex") rows ≡ None)
Means name rows (ShowLine base file) =
    (name ≡ codes "journal") × (first_of (codes "file") rows ≡ Some file) × (first_of (codes "hex") rows ≡ Some base) × (is_journal_base base ≡ true)
Means name rows (Make seed steps) = (name ≡ codes "make") × MeansMade rows seed steps
Means name rows (Tick to) = (name ≡ codes "tick") × IsSomeAnd (first_of (codes "to") rows) (λ url. tick_to url ≡ Some to)
Means name rows (Serve s) = MeansServing name rows s

-- clap finds no fault in the words, and the command that it finds is the job
abbrev pub IsJobOf : List Text → Job → Type 0
IsJobOf words job = (fault_of whole words ≡ []) × IsSomeAnd (subcommand_of whole words) (λ found. Means found.0 found.1 job)

abbrev pub IsJob : List Text → Type 0
IsJob words = (job : Job) × IsJobOf words job

-- they are a job that reads its input
abbrev pub IsFilter : List Text → Type 0
IsFilter words = (filter : Filter) × IsJobOf words (Filters filter)

-- they ask for an audit, which reads its input too
abbrev pub IsAudit : List Text → Type 0
IsAudit words = IsJobOf words Audit

-- they ask what a journal stands for, or for its line
abbrev pub IsShow : List Text → Type 0
IsShow words = ((file : List ℕ) × IsJobOf words (Show file)) ⊎ ((base : List ℕ) × (file : List ℕ) × IsJobOf words (ShowLine base file))

-- they are a node that serves
abbrev pub IsServing : List Text → Type 0
IsServing words = (serving : Serving) × IsJobOf words (Serve serving)

-- they are an initiator
abbrev pub IsInitiator : List Text → Type 0
IsInitiator words = (serving : Serving) × (serving.role ≡ Initiator) × IsJobOf words (Serve serving)

abbrev pub asks_for : ErrorKind → Bool
asks_for DisplayHelp = true
asks_for DisplayVersion = true
asks_for _ = false

abbrev pub asks : Kinds → Bool
asks [] = false
asks (kind ∷ kinds) = asks_for kind

-- what clap stops at is `--help`, `-h`, `--version` or `-V`
abbrev pub IsQuestion : List Text → Type 0
IsQuestion words = IsTrue (asks (fault_of whole words))

abbrev pub IsFaulty : List Text → Type 0
IsFaulty words = (¬ (IsJob words)) × (¬ (IsQuestion words))
