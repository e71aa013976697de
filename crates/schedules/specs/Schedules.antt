-- What a text says as a schedule: its lines, or the first bad line with the first cause that holds of it.
use Rattle.std.specs.Prelude.{ℕ, List, [], ◌∷◌, ◌++◌, ◌+◌, ◌≡◌, not, nat_lt, Result, Ok, Err, if◌then◌else◌, bytes_eq, codes}
use Rattle.schedules.specs.declared.line.BadLine.{BadLine}
use Rattle.schedules.specs.declared.line.Cause.{Cause}
use Rattle.schedules.specs.declared.line.Cause.TheVariants as causes
use Rattle.schedules.specs.declared.line.Line.{Line}
use Rattle.schedules.specs.declared.line.Line.TheVariants as lines
use Rattle.schedules.specs.declared.line.ScheduleError.{ScheduleError}
use Rattle.schedules.specs.declared.line.ScheduleError.TheVariants as errors
use Rattle.schedules.specs.Meanings.{◌>>=◌, count_of, meaning}
use Rattle.schedules.specs.Words.{is_plain, lines_of, words_of}

-- the first line says how many nodes there are
abbrev pub first_words : List (List ℕ) → Result ℕ Cause
first_words [] = Err causes.Nodes
first_words (word ∷ rest) = if bytes_eq word (codes "nodes") then count_of rest else Err causes.Nodes

-- and no other does
abbrev pub next_words : ℕ → List (List ℕ) → Result Line Cause
next_words nodes [] = Err causes.UnknownWord
next_words nodes (word ∷ rest) = if bytes_eq word (codes "nodes") then Err causes.Nodes else meaning nodes word rest

abbrev pub first_line : List ℕ → Result ℕ Cause
first_line line = if not (is_plain line) then Err causes.Unprintable else first_words (words_of line)

-- the line of this number in a schedule of this many nodes
abbrev pub next_line : ℕ → ℕ → List ℕ → Result Line Cause
next_line nodes number line =
    if not (is_plain line) then Err causes.Unprintable
    else if nat_lt 10000 number then Err causes.TooManyLines
    else next_words nodes (words_of line)

abbrev pub at_line : {A : Type 0} → ℕ → Result A Cause → Result A BadLine
at_line number (Ok x) = Ok x
at_line number (Err cause) = Err (record { line = number; cause = cause })

-- the lines from this number on
abbrev pub lines_from : ℕ → ℕ → List (List ℕ) → Result (List Line) BadLine
lines_from nodes number [] = Ok []
lines_from nodes number (text ∷ texts) = do
  line ← at_line number (next_line nodes number text)
  more ← lines_from nodes (number + 1) texts
  Ok (line ∷ more)

abbrev pub schedule_in : List (List ℕ) → Result (List Line) BadLine
schedule_in [] = Err (record { line = 1; cause = causes.Nodes })
schedule_in (text ∷ texts) = do
  count ← at_line 1 (first_line text)
  more ← lines_from count 2 texts
  Ok (lines.Nodes count ∷ more)

abbrev pub schedule_of : List ℕ → Result (List Line) BadLine
schedule_of text = schedule_in (lines_of text)

-- where a refusal is a bad line
abbrev pub IfBad : ScheduleError → (BadLine → Type 0) → Type 0
IfBad (errors.Bad b) P = P b
IfBad errors.OutOfMemory P = Unit {0}

-- an answer is the one that is said, or want of memory
abbrev pub Answers : {A : Type 0} → Result A BadLine → Result A ScheduleError → Type 0
Answers said (Ok x) = said ≡ Ok x
Answers said (Err e) = IfBad e (λ b. said ≡ Err b)

-- lines put behind others
abbrev pub onto : List Line → Result (List Line) BadLine → Result (List Line) BadLine
onto front (Ok more) = Ok (front ++ more)
onto front (Err b) = Err b
