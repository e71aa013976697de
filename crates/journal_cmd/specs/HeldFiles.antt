-- What files in memory hold.
use Rattle.std.specs.Prelude.{ℕ, List, [], ◌∷◌, ◌++◌, ◌≡◌, Option, Some, None, if◌then◌else◌, bytes_eq, string_bytes}
use Rattle.journal_cmd.specs.declared.memory_files.NamedFile.{NamedFile}

-- the first of a name
abbrev pub held_in : List NamedFile → List ℕ → Option (List ℕ)
held_in [] name = None
held_in (f ∷ fs) name = if bytes_eq (string_bytes f.name) name then Some f.bytes.items else held_in fs name

-- a file of this name and of these bytes stands behind the others
pub record IsAdded (name bytes : List ℕ) (old new : List NamedFile) : Type 0 where
  pub file : NamedFile
  pub named : string_bytes file.name ≡ name
  pub holds : file.bytes.items ≡ bytes
  pub is : new ≡ old ++ file ∷ []
