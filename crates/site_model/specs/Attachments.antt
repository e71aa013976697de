-- By which names a node's machine was attached.
use Rattle.std.specs.Prelude.{ℕ, List, Result, Ok, Err, [], ◌∷◌}

-- the name of the journal's first file, and the address at which it listens, as `attach` takes them
pub record Names : Type 0 where
  pub journal : List ℕ
  pub listen : List ℕ

-- An attach that succeeds adds the names that it was given, and nothing else; one that fails adds none.
abbrev pub attached_by : {T E : Type 0} → List ℕ → List ℕ → Result T E → List Names
attached_by journal listen (Ok x) = record { journal = journal; listen = listen } ∷ []
attached_by journal listen (Err e) = []
