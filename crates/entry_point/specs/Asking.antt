-- The command `help`, which `clap` isn't given.
use Rattle.std.specs.Prelude.{ℕ, List, [], ◌∷◌, ◌≡◌, Bool, false, if◌then◌else◌, bytes_eq, codes, refl}

-- `help`, alone or before one word
abbrev pub asks_help : List (List ℕ) → Bool
asks_help (first ∷ []) = bytes_eq first (codes "help")
asks_help (first ∷ second ∷ []) = bytes_eq first (codes "help")
asks_help words = false

-- what is asked by `--help` behind the word, or alone
abbrev pub asked : List (List ℕ) → List (List ℕ)
asked (first ∷ second ∷ []) = second ∷ codes "--help" ∷ []
asked words = codes "--help" ∷ []

-- the words as `clap` is given them
abbrev pub heard : List (List ℕ) → List (List ℕ)
heard words = if asks_help words then asked words else words

alone : heard (codes "help" ∷ []) ≡ codes "--help" ∷ []
alone = refl

of_a_command : heard (codes "help" ∷ codes "replay" ∷ []) ≡ codes "replay" ∷ codes "--help" ∷ []
of_a_command = refl

of_two : heard (codes "help" ∷ codes "replay" ∷ codes "make" ∷ []) ≡ codes "help" ∷ codes "replay" ∷ codes "make" ∷ []
of_two = refl
