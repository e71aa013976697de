-- Which lines of a printed text tell how something ended, and what it then is that a text tells what happened.
use Rattle.std.specs.Prelude.{ℕ, List, ◌++◌, Bool, false, ◌||◌, ◌==◌, ◌≡◌, bytes_eq, codes, filter, length, map, take}
use Rattle.std.specs.List.{list_any}
use Rattle.at_model.specs.Views.{line_of}
use Rattle.at_model.specs.World.{Happened, Posted}
use Rattle.replay_cmd.specs.Lines.{effect_line}
use Rattle.schedules.specs.Words.{lines_of}

-- a line that begins so
abbrev pub begins : List ℕ → List ℕ → Bool
begins word line = bytes_eq (take (length word) line) word

-- It tells that a transaction ended at its root, at a subordinate coordinator or at a participant, or what an initiator was told.
abbrev pub is_effect_line : List ℕ → Bool
is_effect_line line = begins (codes "root ") line || (begins (codes "sub ") line || (begins (codes "leaf ") line || begins (codes "told ") line))

-- the lines of a text that tell so, in their order
abbrev pub effect_lines_in : List ℕ → List (List ℕ)
effect_lines_in text = filter is_effect_line (lines_of text)

-- a line with its LF
abbrev pub with_end : List ℕ → List ℕ
with_end line = line ++ codes "\n"

-- the line of what happened on a node
abbrev pub happened_line : Happened → List ℕ
happened_line h = effect_line h.node h.what

-- The lines of a text that tell how something ended are those of what happened, one by one and in order.
abbrev pub Tells : List ℕ → List Happened → Type 0
Tells text all = map with_end (effect_lines_in text) ≡ map happened_line all

-- a text without LF
abbrev pub IsUnbroken : List ℕ → Type 0
IsUnbroken text = list_any (λ b. b == 10) text ≡ false

-- the name and the path of a message stand on one line
pub record IsOnOneLine (p : Posted) : Type 0 where
  pub name : IsUnbroken (line_of p).name
  pub path : IsUnbroken (line_of p).path
