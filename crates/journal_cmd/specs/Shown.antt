-- What the command writes, and the status that it ends with.
use Rattle.std.specs.Prelude.{ℕ, List, Bool, true, false, Option, length, take, ◌≡◌, ◌≤◌}
use Rattle.std.specs.Io.KnownBytes.{Appends}
use Rattle.journal_page.specs.Contents.{Contents, StandFor}
use Rattle.journal_page.specs.HexLines.{hex_line}
use Rattle.journal_page.specs.Pages.{IsPageOf, Printed, whole_page}
use Rattle.site_model.specs.Told.{Files}
use Rattle.journal_cmd.specs.Folders.{Held}
use Rattle.journal_cmd.specs.Pairs.{PairOf}

-- the page of these files: the only one, where they stand for something
pub record IsThePage (files : Files) (p : Printed) : Type 0 where
  pub is : IsPageOf files p
  pub only : (c : Contents) → StandFor files c → p ≡ whole_page c

abbrev pub status_if : Bool → ℕ
status_if true = 7
status_if false = 0

-- the whole page was written, and the status says whether the files are a journal
pub record IsPrinted (files : Files) (old new : Option (List ℕ)) (status : ℕ) : Type 0 where
  pub page : Printed
  pub is : IsThePage files page
  pub printed : Appends old new page.text
  pub ended : status ≡ status_if page.is_bad

-- a beginning of it was written
pub record IsPrintedInPart (files : Files) (old new : Option (List ℕ)) : Type 0 where
  pub page : Printed
  pub is : IsThePage files page
  pub count : ℕ
  pub within : count ≤ length page.text
  pub printed : Appends old new (take count page.text)

-- a beginning of the line for an audit was
pub record IsLineInPart (base : List ℕ) (files : Files) (old new : Option (List ℕ)) : Type 0 where
  pub count : ℕ
  pub within : count ≤ length (hex_line base files)
  pub printed : Appends old new (take count (hex_line base files))

-- the same of the files of a name
pub record IsShown (held : Held) (name : List ℕ) (old new : Option (List ℕ)) (status : ℕ) : Type 0 where
  pub files : Files
  pub are : PairOf held name files
  pub printed : IsPrinted files old new status

pub record IsShownInPart (held : Held) (name : List ℕ) (old new : Option (List ℕ)) : Type 0 where
  pub files : Files
  pub are : PairOf held name files
  pub printed : IsPrintedInPart files old new

pub record IsLineOf (base : List ℕ) (held : Held) (name : List ℕ) (old new : Option (List ℕ)) : Type 0 where
  pub files : Files
  pub are : PairOf held name files
  pub printed : Appends old new (hex_line base files)

pub record IsLineOfInPart (base : List ℕ) (held : Held) (name : List ℕ) (old new : Option (List ℕ)) : Type 0 where
  pub files : Files
  pub are : PairOf held name files
  pub printed : IsLineInPart base files old new
