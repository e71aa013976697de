-- What a text says as the journals of several nodes: a line each, or the first bad one with the first cause that holds of it.
use Rattle.std.specs.Prelude.{ℕ, List, [], ◌∷◌, ◌++◌, ◌+◌, ◌-◌, Bool, ◌&&◌, not, nat_eq, nat_lt, Option, Some, None, Result, Ok, Err, if◌then◌else◌, bytes_eq, codes, get_or, length}
use Rattle.std.specs.List.{list_any}
use Rattle.endpoints.specs.Addresses.{slash}
use Rattle.hex.specs.Hex.{decode_of}
use Rattle.hex.specs.declared.error.FromHexError.{FromHexError}
use Rattle.schedules.specs.InitiatorLines.{allowed, is_base}
use Rattle.schedules.specs.Meanings.{◌>>=◌}
use Rattle.schedules.specs.Schedules.{at_line}
use Rattle.schedules.specs.Words.{is_plain, lines_of, words_of}
use Rattle.schedules.specs.declared.line.BadLine.{BadLine}
use Rattle.schedules.specs.declared.line.Cause.{Cause}
use Rattle.schedules.specs.declared.line.Cause.TheVariants as causes
use Rattle.site_model.specs.Told.{Files}

-- `journal BASE HEX0 HEX1`: the base of a node, and the two files of its journal
pub record JournalLine : Type 0 where
  pub base : List ℕ
  pub files : Files

-- a base stands before paths, so it has no slash at its end
abbrev pub ends_in_slash : List ℕ → Bool
ends_in_slash base = nat_eq (get_or base (length base - 1) 0) slash

abbrev pub is_journal_base : List ℕ → Bool
is_journal_base base = is_base base && not (ends_in_slash base)

abbrev pub decoded : Result (List ℕ) FromHexError → Option (List ℕ)
decoded (Ok bytes) = Some bytes
decoded (Err e) = None

-- a file in hexadecimal, `-` where it is empty
abbrev pub file_in : List ℕ → Option (List ℕ)
file_in word = if bytes_eq word (codes "-") then Some [] else decoded (decode_of word)

abbrev pub in_hexadecimal : Option (List ℕ) → Result (List ℕ) Cause
in_hexadecimal (Some bytes) = Ok bytes
in_hexadecimal None = Err causes.Hexadecimal

-- each node has one line
abbrev pub is_taken : List JournalLine → List ℕ → Bool
is_taken lines base = list_any (λ line. bytes_eq line.base base) lines

abbrev pub unless_taken : List JournalLine → JournalLine → Result JournalLine Cause
unless_taken lines line = if is_taken lines line.base then Err causes.Nodes else Ok line

abbrev pub fields : List JournalLine → List (List ℕ) → Result JournalLine Cause
fields lines (base ∷ one ∷ two ∷ []) = do
  fit ← allowed (is_journal_base base)
  first ← in_hexadecimal (file_in one)
  second ← in_hexadecimal (file_in two)
  unless_taken lines (record { base = base; files = record { first = first; second = second } })
fields lines _ = Err causes.WordCount

abbrev pub journal_words : List JournalLine → List (List ℕ) → Result JournalLine Cause
journal_words lines [] = Err causes.UnknownWord
journal_words lines (word ∷ rest) = if bytes_eq word (codes "journal") then fields lines rest else Err causes.UnknownWord

-- a line of this number, behind others
abbrev pub journal_line : List JournalLine → ℕ → List ℕ → Result JournalLine Cause
journal_line lines number text =
    if not (is_plain text) then Err causes.Unprintable
    else if nat_lt 8 number then Err causes.TooManyLines
    else journal_words lines (words_of text)

-- the lines so far, and those from this number on
abbrev pub lines_from : List JournalLine → ℕ → List (List ℕ) → Result (List JournalLine) BadLine
lines_from lines number [] = Ok lines
lines_from lines number (text ∷ texts) = do
  line ← at_line number (journal_line lines number text)
  lines_from (lines ++ line ∷ []) (number + 1) texts

-- at least one
abbrev pub journals_in : List (List ℕ) → Result (List JournalLine) BadLine
journals_in [] = Err (record { line = 1; cause = causes.Nodes })
journals_in (text ∷ texts) = lines_from [] 1 (text ∷ texts)

abbrev pub journals_of : List ℕ → Result (List JournalLine) BadLine
journals_of text = journals_in (lines_of text)
