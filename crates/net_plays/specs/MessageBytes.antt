-- A report with the bytes of its messages.
use Rattle.std.specs.Prelude.{ℕ, List, [], ◌∷◌, ◌++◌, Bool, true, false, bytes_eq, codes, drop, take}
use Rattle.memory_net.specs.Mails.{Mail}
use Rattle.replay_cmd.specs.Lines.{bytes_line}
use Rattle.schedules.specs.Words.{lines_of}

-- whether a line of a report is that of a message
abbrev pub is_message : List ℕ → Bool
is_message line = bytes_eq (take 4 line) (codes "msg ")

-- a line of a report, and behind that of a message the bytes of the first of these letters
abbrev pub line_with : Bool → List Mail → List ℕ → List ℕ
line_with true (mail ∷ mails) line = (line ++ codes "\n") ++ bytes_line mail.bytes
line_with true [] line = line ++ codes "\n"
line_with false mails line = line ++ codes "\n"

-- the letters that are left behind it
abbrev pub left_by : Bool → List Mail → List Mail
left_by true mails = drop 1 mails
left_by false mails = mails

-- these lines of a report, with the bytes of these letters behind those of messages
abbrev pub with_bytes : List Mail → List (List ℕ) → List ℕ
with_bytes mails [] = []
with_bytes mails (line ∷ rest) =
    line_with (is_message line) mails line ++ with_bytes (left_by (is_message line) mails) rest

-- a report, with the bytes of these letters where they are asked for
abbrev pub shown : Bool → List Mail → List ℕ → List ℕ
shown false mails report = report
shown true mails report = with_bytes mails (lines_of report)
