-- The two files of a journal.
use Rattle.std.specs.Prelude.{ℕ, List, [], ◌++◌, ◌≡◌, ◌≤◌, ◌⊎◌, Option, Some, None, Result, Ok, Err, codes}
use Rattle.site_model.specs.Counts.{Rose}
use Rattle.site_model.specs.Told.{Files}
use Rattle.journal_cmd.specs.Folders.{Held}
use Rattle.journal_cmd.specs.declared.pair.PairFault.{PairFault}
use Rattle.journal_cmd.specs.declared.pair.PairFault.TheVariants.{NoMemory, Unread}

-- a second file that isn't there is empty, as at a start
abbrev pub IsSecond : List ℕ → Option (List ℕ) → Type 0
IsSecond bytes (Some second) = bytes ≡ second
IsSecond bytes None = bytes ≡ []

-- the files of a name: the second has `.1` behind it
pub record PairOf (held : Held) (name : List ℕ) (files : Files) : Type 0 where
  pub first : held name ≡ Some files.first
  pub second : IsSecond files.second (held (name ++ codes ".1"))

abbrev pub IfUnread : {T : Type 0} → Result T PairFault → Type 0 → Type 0
IfUnread (Ok x) P = Unit {0}
IfUnread (Err NoMemory) P = Unit {0}
IfUnread (Err Unread) P = P

pub record SecondCause {T : Type 0} (result : Result T PairFault) (old new : ℕ) : Type 0 where
  pub later : old ≤ new
  pub failed : IfUnread result (Rose old new)

-- there is no first file, as far as that is told
abbrev pub IsMissing : Option Held → List ℕ → Type 0
IsMissing told name = (held : Held) → told ≡ Some held → held name ≡ None

pub record PairCause {T : Type 0} (result : Result T PairFault) (told : Option Held) (name : List ℕ) (old new : ℕ) : Type 0 where
  pub later : old ≤ new
  pub unread : IfUnread result (IsMissing told name ⊎ Rose old new)
