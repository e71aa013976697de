-- That something came of a connection.
use Rattle.std.proofs.Common.{ℕ, zero, suc, List, Option, Some, None, [], ◌∷◌, ◌++◌, ◌≡◌, ◌≤◌, ◌<◌, length, take, ap, refl, ◌∙◌, subst, arith}
use Rattle.std.proofs.lemmas.List.{length-append, length-take}
use Rattle.std.specs.Io.KnownBytes.{Consumes, IsAtEnd}
use Rattle.httparse.specs.Grammar.{HasNoRequest, print_blank, print_end, print_section, print_version}
use Rattle.httparse.proofs.GrammarLemmas.{print_request-append}
use Rattle.httparse.specs.declared.spans.HeaderSpan.{HeaderSpan}
use Rattle.httparse.specs.declared.spans.RequestSpans.{RequestSpans}
use Rattle.http_post.specs.Connections.{HasCome}
use Rattle.http_post.specs.PartialHeads.{HasNoHead, HoldsHead}
use Rattle.http_post.proofs.PartialHeads.{none_at_end}

-- it was to come before, where it comes still
pub came_before : (left now : Option (List ℕ)) (bytes : List ℕ) → Consumes left now bytes → HasCome now → HasCome left
came_before None now bytes h k = tt
came_before (Some input) None bytes h k = absurd h
came_before (Some input) (Some more) bytes h k = omega (arith, k, ap length h, length-append bytes more)

-- a read gave some bytes
pub came_by : (n : ℕ) (buf : List ℕ) (left now : Option (List ℕ)) → Consumes left now (take n buf) → n ≤ length buf → (n ≡ 0 → ⊥) → HasCome left
came_by n buf None now h le some = tt
came_by n buf (Some input) None h le some = absurd h
came_by n buf (Some input) (Some more) h le some = by n le some h where
  by : (n : ℕ) → n ≤ length buf → (n ≡ 0 → ⊥) → input ≡ take n buf ++ more → 0 < length input
  by zero le some e = absurd (some refl)
  by (suc k) le some e = omega (arith, le, ap length e, length-append (take (suc k) buf) more, length-take (suc k) buf)

some_behind : (a b c : List ℕ) → 0 < length (a ++ (b ++ 32 ∷ c))
some_behind a b c = omega (arith, length-append a (b ++ 32 ∷ c), length-append b (32 ∷ c))

-- there is a space behind a head's method
pub none_in_nothing : HasNoRequest []
none_in_nothing h rest (is, e) =
    let some = some_behind (print_blank h.blank) h.method (h.target ++ 32 ∷ (print_version h.minor ++ (print_end h.line_end ++ (print_section h.fields h.last ++ rest)))) in
    omega (arith, some, ap length (e ∙ print_request-append h rest))

-- a head came
pub head_came : (left : Option (List ℕ)) (bytes : List ℕ) (places : List HeaderSpan) (spans : RequestSpans) → HoldsHead left bytes places spans → HasCome left
head_came None bytes places spans h = tt
head_came (Some []) bytes places spans h = absurd (none_in_nothing h.head h.begins.0 h.begins.1)
head_came (Some (x ∷ xs)) bytes places spans h = omega arith

-- a read gave nothing
pub nothing_came : (n : ℕ) (buf : List ℕ) (left now : Option (List ℕ)) → n ≡ 0 → 0 < length buf → Consumes left now (take n buf) × (n ≡ 0 → 0 < length buf → IsAtEnd now) → HasNoHead left
nothing_came n buf left now none room (taken, end) = none_at_end left now [] (subst (λ k. Consumes left now (take k buf)) none taken) (omega arith) (end none room) none_in_nothing
