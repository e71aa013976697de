-- A journal's line for an audit: the base of its node, and its two files in hexadecimal.
use Rattle.std.specs.Prelude.{ℕ, List, [], ◌∷◌, ◌++◌, codes}
use Rattle.hex.specs.Hex.{encode_lower}
use Rattle.site_model.specs.Told.{Files}

-- a file, `-` where it is empty
abbrev pub hex_word : List ℕ → List ℕ
hex_word [] = codes "-"
hex_word (b ∷ bs) = encode_lower (b ∷ bs)

unfoldable pub hex_line : List ℕ → Files → List ℕ
hex_line base files = codes "journal " ++ (base ++ (codes " " ++ (hex_word files.first ++ (codes " " ++ (hex_word files.second ++ codes "\n")))))
