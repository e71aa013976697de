-- Files that are read by their names.
use Rattle.std.specs.Prelude.{ℕ, List, [], ◌≡◌, ◌≤◌, ◌<◌, Bool, true, false, Option, Some, None, Result, Ok, Err, length, take, drop}
use Rattle.site_model.specs.Counts.{Rose}
use Rattle.journal_cmd.specs.declared.files.FileFault.{FileFault}
use Rattle.journal_cmd.specs.declared.files.FileFault.TheVariants.{Missing, Failed}
use Rattle.journal_cmd.specs.declared.read_file.Unread.{Unread}
use Rattle.journal_cmd.specs.declared.read_file.Unread.TheVariants as unread

-- the bytes of the file of a name, or none where there is no such file
abbrev pub Held : Type 0
Held = List ℕ → Option (List ℕ)

-- bytes of the file from a place on; none into a buffer that has room is the end of the file
pub record Gives (bytes : List ℕ) (at n : ℕ) (buf : List ℕ) : Type 0 where
  pub given : take n buf ≡ take n (drop at bytes)
  pub end : n ≡ 0 → 0 < length buf → length bytes ≤ at

abbrev pub Answers : Result ℕ FileFault → ℕ → List ℕ → Option (List ℕ) → Type 0
Answers (Ok n) at buf (Some bytes) = Gives bytes at n buf
Answers (Ok n) at buf None = ⊥
Answers (Err Missing) at buf (Some bytes) = ⊥
Answers (Err Missing) at buf None = Unit {0}
Answers (Err Failed) at buf file = Unit {0}

abbrev pub IfFailed : {T : Type 0} → Result T FileFault → Type 0 → Type 0
IfFailed (Ok x) P = Unit {0}
IfFailed (Err Missing) P = Unit {0}
IfFailed (Err Failed) P = P

-- a failure is counted, and the count doesn't fall
pub record FileCause {T : Type 0} (result : Result T FileFault) (old new : ℕ) : Type 0 where
  pub later : old ≤ new
  pub failed : IfFailed result (Rose old new)

-- why a file wasn't read whole: there is none, or the count of failures rose
abbrev pub IfUnread : {T : Type 0} → Result T Unread → Type 0 → Type 0
IfUnread (Ok x) P = Unit {0}
IfUnread (Err unread.Missing) P = Unit {0}
IfUnread (Err unread.NoMemory) P = Unit {0}
IfUnread (Err unread.Failed) P = P

pub record ReadCause {T : Type 0} (result : Result T Unread) (old new : ℕ) : Type 0 where
  pub later : old ≤ new
  pub failed : IfUnread result (Rose old new)

-- so far a beginning of the file was read
abbrev pub IsBeginning : List ℕ → Option (List ℕ) → Type 0
IsBeginning so_far (Some bytes) = so_far ≡ take (length so_far) bytes
IsBeginning so_far None = so_far ≡ []

-- one piece more was read, or all was read before
abbrev pub IsPiece : Result Bool Unread → List ℕ → Option (List ℕ) → Type 0
IsPiece (Ok true) so_far file = IsBeginning so_far file
IsPiece (Ok false) so_far file = file ≡ Some so_far
IsPiece (Err unread.Missing) so_far file = file ≡ None
IsPiece (Err unread.NoMemory) so_far file = Unit {0}
IsPiece (Err unread.Failed) so_far file = Unit {0}
