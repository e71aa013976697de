-- What a text says as the lines of an initiator: the lines, or the first bad one with the first cause that holds of it.
use Rattle.std.specs.Prelude.{ℕ, List, [], ◌∷◌, ◌++◌, ◌+◌, ◌≡◌, Bool, true, false, ◌&&◌, not, nat_le, Option, Some, None, Result, Ok, Err, if◌then◌else◌, bytes_eq, codes, length}
use Rattle.at_base.specs.declared.limits.TheConstants.{MOST_BASE, MOST_FIELD}
use Rattle.url.specs.Parts.{Parts}
use Rattle.url.specs.Parser.{Parsed, parse_url}
use Rattle.schedules.specs.declared.initiator_line.InitiatorLine.{InitiatorLine}
use Rattle.schedules.specs.declared.initiator_line.InitiatorLine.TheVariants as lines
use Rattle.schedules.specs.declared.initiator_line.WordFault.{WordFault}
use Rattle.schedules.specs.declared.initiator_line.WordFault.TheVariants as faults
use Rattle.schedules.specs.declared.line.BadLine.{BadLine}
use Rattle.schedules.specs.declared.line.Cause.{Cause}
use Rattle.schedules.specs.declared.line.Cause.TheVariants as causes
use Rattle.schedules.specs.Schedules.{at_line}
use Rattle.schedules.specs.Values.{kind_in, largest, number_in, vote_in}
use Rattle.schedules.specs.Words.{is_plain, lines_of, words_of}
use Rattle.schedules.specs.Meanings.{◌>>=◌}

-- there is none
abbrev pub is_absent : {A : Type 0} → Option A → Bool
is_absent None = true
is_absent (Some x) = false

-- an http URL behind which a path may stand (RFC 9110, section 4.2.1; RFC 3986, section 3)
abbrev pub is_plain_http : Parts → Bool
is_plain_http url = bytes_eq url.scheme (codes "http") && bytes_eq url.path (codes "/") && is_absent url.query && is_absent url.fragment

abbrev pub is_parsed_base : Parsed Parts → Bool
is_parsed_base (Ok url) = is_plain_http url
is_parsed_base (Err fault) = false

-- the base URL of a node
abbrev pub is_base : List ℕ → Bool
is_base word = nat_le (length word) MOST_BASE && is_parsed_base (parse_url None word)

-- the key or the value of a Work
abbrev pub is_content : List ℕ → Bool
is_content word = nat_le (length word) MOST_FIELD

-- what may not stand there
abbrev pub allowed : Bool → Result (Unit {0}) Cause
allowed true = Ok tt
allowed false = Err causes.Keyword

abbrev pub begin_line : List (List ℕ) → Result InitiatorLine Cause
begin_line (url ∷ ms ∷ []) = do
  ms ← number_in 0 largest ms
  base ← allowed (is_base url)
  Ok (lines.Begin url ms)
begin_line _ = Err causes.WordCount

-- an activity is named by the number of the line that made it, among those that make one
abbrev pub interpose_line : ℕ → List (List ℕ) → Result InitiatorLine Cause
interpose_line made (a ∷ url ∷ []) = do
  activity ← number_in 1 made a
  base ← allowed (is_base url)
  Ok (lines.Interpose activity url)
interpose_line made _ = Err causes.WordCount

abbrev pub task : ℕ → List ℕ → List ℕ → List ℕ → List ℕ → List ℕ → Result InitiatorLine Cause
task activity url k v key value = do
  kind ← kind_in k
  vote ← vote_in v
  rest ← allowed (is_content key && is_content value && is_base url)
  Ok (lines.Work activity url kind vote key value)

abbrev pub work_line : ℕ → List (List ℕ) → Result InitiatorLine Cause
work_line made (a ∷ url ∷ k ∷ v ∷ key ∷ value ∷ []) = do
  activity ← number_in 1 made a
  task activity url k v key value
work_line made _ = Err causes.WordCount

abbrev pub commit_line : ℕ → List (List ℕ) → Result InitiatorLine Cause
commit_line made (a ∷ []) = do
  activity ← number_in 1 made a
  Ok (lines.Commit activity false)
commit_line made (a ∷ word ∷ []) = do
  activity ← number_in 1 made a
  said ← allowed (bytes_eq word (codes "anyway"))
  Ok (lines.Commit activity true)
commit_line made _ = Err causes.WordCount

abbrev pub rollback_line : ℕ → List (List ℕ) → Result InitiatorLine Cause
rollback_line made (a ∷ []) = do
  activity ← number_in 1 made a
  Ok (lines.Rollback activity)
rollback_line made _ = Err causes.WordCount

abbrev pub wait_line : List (List ℕ) → Result InitiatorLine Cause
wait_line [] = Ok lines.Wait
wait_line _ = Err causes.WordCount

-- behind lines that make so many activities
abbrev pub asked : ℕ → List ℕ → List (List ℕ) → Result InitiatorLine Cause
asked made word rest =
    if bytes_eq word (codes "begin") then begin_line rest
    else if bytes_eq word (codes "interpose") then interpose_line made rest
    else if bytes_eq word (codes "work") then work_line made rest
    else if bytes_eq word (codes "commit") then commit_line made rest
    else if bytes_eq word (codes "rollback") then rollback_line made rest
    else if bytes_eq word (codes "wait") then wait_line rest
    else Err causes.UnknownWord

abbrev pub asked_words : ℕ → List (List ℕ) → Result InitiatorLine Cause
asked_words made [] = Err causes.UnknownWord
asked_words made (word ∷ rest) = asked made word rest

abbrev pub asked_line : ℕ → List ℕ → Result InitiatorLine Cause
asked_line made line = if not (is_plain line) then Err causes.Unprintable else asked_words made (words_of line)

-- how many activities there are behind a line
abbrev pub made_by : ℕ → InitiatorLine → ℕ
made_by made (lines.Begin url ms) = made + 1
made_by made (lines.Interpose a url) = made + 1
made_by made other = made

-- the lines from this number on
abbrev pub asked_from : ℕ → ℕ → List (List ℕ) → Result (List InitiatorLine) BadLine
asked_from made number [] = Ok []
asked_from made number (text ∷ texts) = do
  line ← at_line number (asked_line made text)
  more ← asked_from (made_by made line) (number + 1) texts
  Ok (line ∷ more)

abbrev pub initiator_lines_of : List ℕ → Result (List InitiatorLine) BadLine
initiator_lines_of text = asked_from 0 1 (lines_of text)

-- what is found is what is said, or want of memory
abbrev pub Finds : {A : Type 0} → Result A Cause → Result A WordFault → Type 0
Finds said (Ok x) = said ≡ Ok x
Finds said (Err (faults.Wrong cause)) = said ≡ Err cause
Finds said (Err faults.OutOfMemory) = Unit {0}

-- lines put behind others
abbrev pub behind : List InitiatorLine → Result (List InitiatorLine) BadLine → Result (List InitiatorLine) BadLine
behind front (Ok more) = Ok (front ++ more)
behind front (Err bad) = Err bad
