-- How lines are written, and which lists of lines are schedules.
use Rattle.std.specs.Prelude.{ℕ, List, [], ◌∷◌, ◌++◌, ◌≡◌, ◌≤◌, Ok, codes, decimal, flat_map, length}
use Rattle.std.specs.List.{AllByRecursion, join_with_byte}
use Rattle.at_base.specs.Names.{kind_letter, vote_name}
use Rattle.at_base.specs.IdText.{IsId, id_text}
use Rattle.schedules.specs.declared.line.Leaves.{Leaves}
use Rattle.schedules.specs.declared.line.Leaves.TheVariants as leaves
use Rattle.schedules.specs.declared.line.Line.{Line}
use Rattle.schedules.specs.declared.line.Line.TheVariants as lines
use Rattle.schedules.specs.Values.{hex_in, largest}

abbrev pub leaves_words : Leaves → List (List ℕ)
leaves_words leaves.Keep = codes "keep" ∷ []
leaves_words leaves.Drop = codes "drop" ∷ []
leaves_words (leaves.Fill byte) = codes "fill" ∷ decimal byte ∷ []

abbrev pub words_in : Line → List (List ℕ)
words_in (lines.Nodes count) = codes "nodes" ∷ decimal count ∷ []
words_in (lines.Begin node coordinator ms) = codes "begin" ∷ decimal node ∷ decimal coordinator ∷ decimal ms ∷ []
words_in (lines.Interpose node activity coordinator) =
    codes "interpose" ∷ decimal node ∷ id_text activity ∷ decimal coordinator ∷ []
words_in (lines.Work node activity service kind vote) =
    codes "work" ∷ decimal node ∷ id_text activity ∷ decimal service ∷ kind_letter kind ∷ vote_name vote ∷ []
words_in (lines.Commit node activity) = codes "commit" ∷ decimal node ∷ id_text activity ∷ []
words_in (lines.Rollback node activity) = codes "rollback" ∷ decimal node ∷ id_text activity ∷ []
words_in (lines.Deliver message) = codes "deliver" ∷ decimal message ∷ []
words_in (lines.Flush most) = codes "flush" ∷ decimal most ∷ []
words_in (lines.Tick node ms) = codes "tick" ∷ decimal node ∷ decimal ms ∷ []
words_in (lines.Crash node) = codes "crash" ∷ decimal node ∷ []
words_in (lines.Up node) = codes "up" ∷ decimal node ∷ []
words_in (lines.Stop node call left) = codes "stop" ∷ decimal node ∷ decimal call ∷ leaves_words left
words_in (lines.Fail node call) = codes "fail" ∷ decimal node ∷ decimal call ∷ []
words_in (lines.Inject node digits) = codes "inject" ∷ decimal node ∷ digits ∷ []

-- the words, separated by one space
abbrev pub line_text : Line → List ℕ
line_text line = join_with_byte 32 (words_in line)

-- each line ends in LF
abbrev pub written : List Line → List ℕ
written all = flat_map (λ line. line_text line ++ 10 ∷ []) all

abbrev pub IsNode : ℕ → ℕ → Type 0
IsNode nodes n = (1 ≤ n) × (n ≤ nodes)

abbrev pub IsCall : ℕ → Type 0
IsCall k = (1 ≤ k) × (k ≤ 1000000)

abbrev pub IsLeft : Leaves → Type 0
IsLeft leaves.Keep = Unit {0}
IsLeft leaves.Drop = Unit {0}
IsLeft (leaves.Fill byte) = byte ≤ 255

-- hexadecimal digits, two of each byte
abbrev pub IsHex : List ℕ → Type 0
IsHex digits = hex_in digits ≡ Ok digits

-- a line behind the first, where there are so many nodes
abbrev pub IsNext : ℕ → Line → Type 0
IsNext nodes (lines.Nodes count) = ⊥
IsNext nodes (lines.Begin node coordinator ms) = IsNode nodes node × IsNode nodes coordinator × (ms ≤ largest)
IsNext nodes (lines.Interpose node activity coordinator) = IsNode nodes node × IsId activity × IsNode nodes coordinator
IsNext nodes (lines.Work node activity service kind vote) = IsNode nodes node × IsId activity × IsNode nodes service
IsNext nodes (lines.Commit node activity) = IsNode nodes node × IsId activity
IsNext nodes (lines.Rollback node activity) = IsNode nodes node × IsId activity
IsNext nodes (lines.Deliver message) = (1 ≤ message) × (message ≤ 1000000)
IsNext nodes (lines.Flush most) = most ≤ 10000
IsNext nodes (lines.Tick node ms) = IsNode nodes node × (ms ≤ largest)
IsNext nodes (lines.Crash node) = IsNode nodes node
IsNext nodes (lines.Up node) = IsNode nodes node
IsNext nodes (lines.Stop node call left) = IsNode nodes node × IsCall call × IsLeft left
IsNext nodes (lines.Fail node call) = IsNode nodes node × IsCall call
IsNext nodes (lines.Inject node digits) = IsNode nodes node × IsHex digits

-- `nodes` stands first and once, all numbers are within their bounds, and there are at most 10,000 lines
abbrev pub IsSchedule : List Line → Type 0
IsSchedule [] = ⊥
IsSchedule (lines.Nodes count ∷ rest) =
    IsNode 8 count × AllByRecursion (IsNext count) rest × (length rest ≤ 9999)
IsSchedule (line ∷ rest) = ⊥
