-- Worked lines of an initiator: what is read of them, and the first bad line.
use Rattle.std.specs.Prelude.{[], ◌∷◌, ◌≡◌, true, Ok, Err, codes, refl}
use Rattle.std.specs.Fmt.{digits}
use Rattle.schedules.specs.declared.line.Cause.TheVariants as causes
use Rattle.schedules.specs.declared.initiator_line.InitiatorLine.TheVariants as lines
use Rattle.schedules.specs.InitiatorLines.{asked_line, initiator_lines_of}

-- no line, no request
pub empty_text : initiator_lines_of [] ≡ Ok []
empty_text = refl

pub waits : initiator_lines_of (codes "wait\nwait\n") ≡ Ok (lines.Wait ∷ lines.Wait ∷ [])
waits = refl

-- no line made an activity
pub no_such_activity : initiator_lines_of (codes "commit 1") ≡ Err (record { line = 1; cause = causes.Number })
unfolding digits
no_such_activity = refl

-- whatever was refused before it
pub anyway : asked_line 1 (codes "commit 1 anyway") ≡ Ok (lines.Commit 1 true)
unfolding digits
anyway = refl

pub another_word : asked_line 1 (codes "commit 1 now") ≡ Err causes.Keyword
unfolding digits
another_word = refl

pub unknown_word : initiator_lines_of (codes "wait\nnodes 1") ≡ Err (record { line = 2; cause = causes.UnknownWord })
unknown_word = refl

-- a number goes before a URL
pub number_first : initiator_lines_of (codes "begin ftp://h 4294967296") ≡ Err (record { line = 1; cause = causes.Number })
unfolding digits
number_first = refl
