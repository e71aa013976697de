-- Lines read one by one are the lines of the whole.
use Rattle.std.proofs.Common.{ℕ, List, [], ◌∷◌, ◌++◌, ◌≡◌, ◌≤◌, ◌+◌, Result, Ok, Err, sym, ◌∙◌, ap, arith, refl}
use Rattle.std.proofs.lemmas.List.{append_assoc}
use Rattle.schedules.specs.declared.line.BadLine.{BadLine}
use Rattle.schedules.specs.declared.initiator_line.InitiatorLine.{InitiatorLine}
use Rattle.schedules.specs.declared.initiator_line.InitiatorLine.TheVariants as lines
use Rattle.schedules.specs.InitiatorLines.{asked_from, asked_line, behind, made_by}
use Rattle.schedules.specs.Meanings.{◌>>=◌}
use Rattle.schedules.specs.Schedules.{at_line}

pub nothing_before : (r : Result (List InitiatorLine) BadLine) → behind [] r ≡ r
nothing_before (Ok ls) = refl
nothing_before (Err b) = refl

behind_more : (front : List InitiatorLine) (line : InitiatorLine) (more : Result (List InitiatorLine) BadLine)
    → behind front (more >>= (λ ls. Ok (line ∷ ls))) ≡ behind (front ++ line ∷ []) more
behind_more front line (Ok more) = ap Ok (sym (append_assoc front (line ∷ []) more))
behind_more front line (Err b) = refl

goes_on : (made number : ℕ) (texts rest : List (List ℕ)) (text : List ℕ) (line : InitiatorLine) (front : List InitiatorLine)
    → texts ≡ text ∷ rest → at_line number (asked_line made text) ≡ Ok line
    → behind front (asked_from made number texts) ≡ behind (front ++ line ∷ []) (asked_from (made_by made line) (number + 1) rest)
goes_on made number texts rest text line front e k =
    ap (λ ts. behind front (asked_from made number ts)) e
    ∙ (ap (λ r. behind front (r >>= (λ l. asked_from (made_by made l) (number + 1) rest >>= (λ ls. Ok (l ∷ ls))))) k
    ∙ behind_more front line (asked_from (made_by made line) (number + 1) rest))

pub carried : (made now number : ℕ) (texts rest : List (List ℕ)) (text : List ℕ) (line : InitiatorLine) (front kept : List InitiatorLine)
    → texts ≡ text ∷ rest → at_line number (asked_line made text) ≡ Ok line → now ≡ made_by made line → kept ≡ front ++ line ∷ []
    → behind kept (asked_from now (number + 1) rest) ≡ behind front (asked_from made number texts)
carried made now number texts rest text line front kept e k m h =
    ap (λ ls. behind ls (asked_from now (number + 1) rest)) h
    ∙ (ap (λ n. behind (front ++ line ∷ []) (asked_from n (number + 1) rest)) m ∙ sym (goes_on made number texts rest text line front e k))

pub one_more : (made : ℕ) (line : InitiatorLine) → made_by made line ≤ made + 1
one_more made (lines.Begin url ms) = omega arith
one_more made (lines.Interpose a url) = omega arith
one_more made (lines.Work a url k v key value) = omega arith
one_more made (lines.Commit a anyway) = omega arith
one_more made (lines.Rollback a) = omega arith
one_more made lines.Wait = omega arith
