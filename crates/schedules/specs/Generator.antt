-- Schedules that are made from a seed. A generator's state goes on by a multiplication and an addition, modulo 2^64, and its
-- upper 31 bits are drawn.
use Rattle.std.specs.Prelude.{ℕ, zero, suc, List, [], ◌∷◌, ◌+◌, ◌*◌, ◌/◌, ◌%◌, ◌^◌, nat_eq, nat_lt, if◌then◌else◌}
use Rattle.at_base.specs.Numbers.{Numbers}
use Rattle.at_base.specs.declared.notice.Kind.{Kind}
use Rattle.at_base.specs.declared.notice.Kind.TheVariants as kinds
use Rattle.at_base.specs.declared.notice.Vote.TheVariants as votes
use Rattle.schedules.specs.declared.line.Line.{Line}
use Rattle.schedules.specs.declared.line.Line.TheVariants as lines

-- the state behind a draw
abbrev pub next : ℕ → ℕ
next x = (6364136223846793005 * x + 1442695040888963407) % 2 ^ 64

-- what a state draws
abbrev pub drawn : ℕ → ℕ
drawn x = x / 2 ^ 33

-- one of the first eight activities of an incarnation
abbrev pub activity : ℕ → Numbers
activity d = record { incarnation = 1; counter = 1 + d % 8 }

-- one of the nodes 2 to 4
abbrev pub other_node : ℕ → ℕ
other_node d = 2 + d % 3

-- one of the first 64 messages
abbrev pub message : ℕ → ℕ
message d = 1 + d % 64

abbrev pub a_begin : Line
a_begin = lines.Begin 1 2 60000

abbrev pub a_work : Kind → ℕ → Line
a_work kind d = lines.Work 1 (activity d) 4 kind votes.Prepared

-- a line, and the state behind it
pub record Made : Type 0 where
  pub line : Line
  pub state : ℕ

-- a line without a number that is drawn
abbrev pub plain : ℕ → Line → Made
plain x line = record { line = line; state = x }

-- a line with one
abbrev pub with_draw : ℕ → (ℕ → Line) → Made
with_draw x line = record { line = line (drawn (next x)); state = next x }

-- An initiator's lines, of 16 that are drawn: 0 and 1 begin, 2 interposes, 3 and 4 ask for work, 5 commits.
abbrev pub asking : ℕ → ℕ → Made
asking r x =
    if nat_lt r 2 then plain x a_begin
    else if nat_eq r 2 then with_draw x (λ d. lines.Interpose 1 (activity d) 3)
    else if nat_eq r 3 then with_draw x (a_work kinds.Durable)
    else if nat_eq r 4 then with_draw x (a_work kinds.Volatile)
    else with_draw x (λ d. lines.Commit 1 (activity d))

-- 11 delivers, 12 lets time go by, 13 crashes, 14 starts, 15 rolls back.
abbrev pub disturbing : ℕ → ℕ → Made
disturbing r x =
    if nat_eq r 11 then with_draw x (λ d. lines.Deliver (message d))
    else if nat_eq r 12 then with_draw x (λ d. lines.Tick (other_node d) 5000)
    else if nat_eq r 13 then with_draw x (λ d. lines.Crash (other_node d))
    else if nat_eq r 14 then with_draw x (λ d. lines.Up (other_node d))
    else with_draw x (λ d. lines.Rollback 1 (activity d))

-- 6 to 10 deliver up to eight messages that were never delivered.
abbrev pub chosen : ℕ → ℕ → Made
chosen r x =
    if nat_lt r 6 then asking r x
    else if nat_lt r 11 then plain x (lines.Flush 8)
    else disturbing r x

-- the next line: one of 16 is drawn, and then its number
abbrev pub next_line : ℕ → Made
next_line x = chosen (drawn (next x) % 16) (next x)

abbrev pub lines_from : ℕ → ℕ → List Line
lines_from zero x = []
lines_from (suc count) x = (next_line x).line ∷ lines_from count (next_line x).state

-- The schedule of a seed: four nodes, and so many lines.
abbrev pub made : ℕ → ℕ → List Line
made seed steps = lines.Nodes 4 ∷ lines_from steps seed
