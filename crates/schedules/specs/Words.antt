-- The lines of a text, and the words of a line.
use Rattle.std.specs.Prelude.{ℕ, List, [], ◌∷◌, Bool, ◌&&◌, ◌==◌, nat_le}
use Rattle.std.specs.List.{slice_split, list_all}

abbrev pub unless_empty : List ℕ → List (List ℕ)
unless_empty [] = []
unless_empty (c ∷ cs) = (c ∷ cs) ∷ []

-- what stands behind the last line feed is a line only where it isn't empty
abbrev pub ended : List (List ℕ) → List (List ℕ)
ended [] = []
ended (last ∷ []) = unless_empty last
ended (line ∷ next ∷ more) = line ∷ ended (next ∷ more)

-- each line ends in LF, which the last may lack
abbrev pub lines_of : List ℕ → List (List ℕ)
lines_of text = ended (slice_split (λ b. b == 10) text)

-- words are separated by one space: between two spaces stands an empty word
abbrev pub words_of : List ℕ → List (List ℕ)
words_of line = slice_split (λ b. b == 32) line

abbrev pub is_printable : ℕ → Bool
is_printable b = nat_le 32 b && nat_le b 126

abbrev pub is_plain : List ℕ → Bool
is_plain line = list_all is_printable line
