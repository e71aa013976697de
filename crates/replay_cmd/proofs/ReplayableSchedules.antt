-- A schedule that was read begins with its nodes, 1 to 8.
use Rattle.std.proofs.Common.{ℕ, ◌≡◌, ◌≤◌, refl, List, [], ◌∷◌, arith, Bool, true, false, subst}
use Rattle.std.specs.Prelude.{Option, Some, None, Result, Ok, Err, nat_le, ◌&&◌, not, cond, codes, bytes_eq}
use Rattle.schedules.specs.declared.line.BadLine.{BadLine}
use Rattle.schedules.specs.declared.line.Cause.{Cause}
use Rattle.schedules.specs.declared.line.Cause.TheVariants as causes
use Rattle.schedules.specs.declared.line.Line.{Line}
use Rattle.schedules.specs.declared.line.Line.TheVariants as lines
use Rattle.schedules.specs.Meanings.{◌>>=◌, count_of}
use Rattle.schedules.specs.Schedules.{at_line, first_line, first_words, lines_from, schedule_in}
use Rattle.schedules.specs.Values.{decimal_of, within}
use Rattle.schedules.specs.Words.{is_plain, lines_of, words_of}
use Rattle.replay_cmd.specs.Laws.{IsReplayable, ReadIsReplayable}

abbrev Bounded : ℕ → Type 0
Bounded count = (1 ≤ count) × (count ≤ 8)

-- what an answer says where it is one
abbrev IfSaid : {E : Type 0} → Result ℕ E → Type 0
IfSaid (Ok count) = Bounded count
IfSaid (Err e) = Unit {0}

counted : (o : Option ℕ) → IfSaid (within 1 8 o)
counted None = tt
counted (Some n) = by_case (nat_le 1 n) (nat_le n 8) refl refl
  where
    by_case : (b c : Bool) → nat_le 1 n ≡ b → nat_le n 8 ≡ c → IfSaid (cond (b && c) (Ok n) (Err causes.Number))
    by_case true true e f = grind arith
    by_case true false e f = tt
    by_case false c e f = tt

count_bounded : (words : List (List ℕ)) → IfSaid (count_of words)
count_bounded [] = tt
count_bounded (n ∷ []) = counted (decimal_of n)
count_bounded (n ∷ m ∷ rest) = tt

words_bounded : (words : List (List ℕ)) → IfSaid (first_words words)
words_bounded [] = tt
words_bounded (word ∷ rest) = by_case (bytes_eq word (codes "nodes"))
  where
    by_case : (b : Bool) → IfSaid (cond b (count_of rest) (Err causes.Nodes))
    by_case true = count_bounded rest
    by_case false = tt

line_bounded : (line : List ℕ) → IfSaid (first_line line)
line_bounded line = by_case (not (is_plain line))
  where
    by_case : (b : Bool) → IfSaid (cond b (Err causes.Unprintable) (first_words (words_of line)))
    by_case true = tt
    by_case false = words_bounded (words_of line)

numbered : (r : Result ℕ Cause) → IfSaid r → IfSaid (at_line 1 r)
numbered (Ok count) h = h
numbered (Err e) h = tt

-- a list of lines, where there is one, is one of so many nodes
abbrev IfRead : Result (List Line) BadLine → Type 0
IfRead (Ok all) = IsReplayable all
IfRead (Err e) = Unit {0}

behind_count :
    (count : ℕ) (more : Result (List Line) BadLine) → Bounded count
    → IfRead (more >>= (λ rest. Ok (lines.Nodes count ∷ rest)))
behind_count count (Ok rest) h = record { least = h.0; most = h.1 }
behind_count count (Err e) h = tt

behind_first :
    (first : Result ℕ BadLine) (next : ℕ → Result (List Line) BadLine) → IfSaid first
    → IfRead (first >>= (λ count. next count >>= (λ rest. Ok (lines.Nodes count ∷ rest))))
behind_first (Ok count) next h = behind_count count (next count) h
behind_first (Err e) next h = tt

texts_replayable : (texts : List (List ℕ)) → IfRead (schedule_in texts)
texts_replayable [] = tt
texts_replayable (text ∷ texts) =
    behind_first (at_line 1 (first_line text)) (λ count. lines_from count 2 texts) (numbered (first_line text) (line_bounded text))

pub read_is_replayable : ReadIsReplayable
read_is_replayable text all h = subst IfRead h (texts_replayable (lines_of text))
