-- Lines read one by one are the lines of the whole.
use Rattle.std.proofs.Common.{ℕ, List, [], ◌∷◌, ◌++◌, ◌≡◌, ◌≤◌, ◌+◌, nat_lt, not, Bool, true, false, cond, Result, Ok, Err, sym, ◌∙◌, ap, arith, refl}
use Rattle.schedules.specs.declared.line.BadLine.{BadLine}
use Rattle.schedules.specs.declared.line.Line.{Line}
use Rattle.schedules.specs.declared.line.Cause.TheVariants as causes
use Rattle.std.proofs.lemmas.List.{append_assoc}
use Rattle.schedules.specs.Meanings.{◌>>=◌}
use Rattle.schedules.specs.Schedules.{at_line, lines_from, next_line, next_words, onto}
use Rattle.schedules.specs.Words.{is_plain, words_of}
use Rattle.std.proofs.lemmas.Bool.Decides.{nat_tests}

onto_more : (front : List Line) (line : Line) (more : Result (List Line) BadLine)
    → onto front (more >>= (λ ls. Ok (line ∷ ls))) ≡ onto (front ++ line ∷ []) more
onto_more front line (Ok more) = ap Ok (sym (append_assoc front (line ∷ []) more))
onto_more front line (Err b) = refl

pub goes_on : (nodes number : ℕ) (texts behind : List (List ℕ)) (text : List ℕ) (line : Line) (front : List Line)
    → texts ≡ text ∷ behind → at_line number (next_line nodes number text) ≡ Ok line
    → onto front (lines_from nodes number texts) ≡ onto (front ++ line ∷ []) (lines_from nodes (number + 1) behind)
goes_on nodes number texts behind text line front e k =
    ap (λ ts. onto front (lines_from nodes number ts)) e
    ∙ (ap (λ r. onto front (r >>= (λ l. lines_from nodes (number + 1) behind >>= (λ ls. Ok (l ∷ ls))))) k
    ∙ onto_more front line (lines_from nodes (number + 1) behind))

-- a line that is read isn't past the last that there may be
pub within : (nodes number : ℕ) (text : List ℕ) (line : Line) → at_line number (next_line nodes number text) ≡ Ok line → number ≤ 10000
within nodes number text line e = by_case (is_plain text) (nat_lt 10000 number) refl e
  where
    by_case : (p q : Bool) → nat_lt 10000 number ≡ q
        → at_line number (cond (not p) (Err causes.Unprintable) (cond q (Err causes.TooManyLines) (next_words nodes (words_of text)))) ≡ Ok line
        → number ≤ 10000
    by_case false q f e = absurd cc
    by_case true true f e = absurd cc
    by_case true false f e = grind (arith, nat_tests, f)
