-- Lines read one by one are the lines of the whole.
use Rattle.std.proofs.Common.{ℕ, List, [], ◌∷◌, ◌++◌, ◌≡◌, ◌≤◌, ◌+◌, nat_lt, not, Bool, true, false, cond, Ok, Err, ◌∙◌, ap, arith, refl}
use Rattle.std.proofs.lemmas.Bool.Decides.{nat_tests}
use Rattle.schedules.specs.declared.line.Cause.TheVariants as causes
use Rattle.schedules.specs.Meanings.{◌>>=◌}
use Rattle.schedules.specs.Schedules.{at_line}
use Rattle.schedules.specs.Words.{is_plain, words_of}
use Rattle.audit_cmd.specs.JournalLines.{JournalLine, journal_line, journal_words, lines_from}

pub goes_on : (lines : List JournalLine) (number : ℕ) (texts behind : List (List ℕ)) (text : List ℕ) (line : JournalLine)
    → texts ≡ text ∷ behind → at_line number (journal_line lines number text) ≡ Ok line
    → lines_from lines number texts ≡ lines_from (lines ++ line ∷ []) (number + 1) behind
goes_on lines number texts behind text line e k =
    ap (lines_from lines number) e ∙ ap (λ r. r >>= (λ l. lines_from (lines ++ l ∷ []) (number + 1) behind)) k

-- a line that is read isn't past the last that there may be
pub within : (lines : List JournalLine) (number : ℕ) (text : List ℕ) (line : JournalLine) → at_line number (journal_line lines number text) ≡ Ok line → number ≤ 8
within lines number text line e = by_case (is_plain text) (nat_lt 8 number) refl e
  where
    by_case : (p q : Bool) → nat_lt 8 number ≡ q
        → at_line number (cond (not p) (Err causes.Unprintable) (cond q (Err causes.TooManyLines) (journal_words lines (words_of text)))) ≡ Ok line
        → number ≤ 8
    by_case false q f e = absurd cc
    by_case true true f e = absurd cc
    by_case true false f e = grind (arith, nat_tests, f)
