-- A file behind others.
use Rattle.std.proofs.Common.{ℕ, List, [], ◌∷◌, ◌++◌, ◌≡◌, OnOk, Result, Ok, Err, string_bytes}
use Rattle.journal_cmd.specs.HeldFiles.{IsAdded}
use Rattle.journal_cmd.specs.declared.memory_files.NamedFile.{NamedFile}

pub is_added : {T E : Type 0} (r : Result T E) (name bytes : List ℕ) (old new : List NamedFile) (file : NamedFile) → string_bytes file.name ≡ name → file.bytes.items ≡ bytes → OnOk r (new ≡ old ++ file ∷ [])
    → OnOk r (IsAdded name bytes old new)
is_added (Ok x) name bytes old new file n b e = record { file = file; named = n; holds = b; is = e }
is_added (Err x) name bytes old new file n b e = tt
