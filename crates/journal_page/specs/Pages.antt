-- What is printed of a journal: what its files stand for, or where they stand for none.
use Rattle.std.specs.Prelude.{ℕ, List, Bool, true, false, ◌++◌, ◌≡◌, ◌⊎◌, zero, suc, codes, decimal}
use Rattle.at_base.specs.declared.record.Record.{Record}
use Rattle.decision_log.specs.KeptRecords.{Known, kept_of}
use Rattle.journal_at.specs.Pairs.{IsForeign}
use Rattle.journal_at.specs.declared.version.Version.{Version}
use Rattle.journal_at.specs.declared.version.Version.TheVariants.{One, Two}
use Rattle.site_model.specs.Told.{Files}
use Rattle.journal_page.specs.Contents.{Contents, IsBadAt, StandFor}
use Rattle.journal_page.specs.OpenLines.{open_lines}
use Rattle.journal_page.specs.RecordLines.{record_lines}
use Rattle.journal_page.specs.Words.{number_line}

-- what is printed, and whether that is that the files are no journal
pub record Printed : Type 0 where
  pub text : List ℕ
  pub is_bad : Bool

abbrev pub version_number : Version → ℕ
version_number One = 1
version_number Two = 2

-- the version, the generation, and the last incarnation
unfoldable pub head_lines : Version → ℕ → ℕ → List ℕ
head_lines version generation incarnation =
    number_line (codes "version") (version_number version)
    ++ (number_line (codes "generation") generation ++ number_line (codes "incarnation") incarnation)

-- then the records, and of what is kept of them what is open
abbrev pub lines_of : Version → ℕ → List Record → Known → List ℕ
lines_of version generation rs k = head_lines version generation k.start ++ (record_lines rs ++ open_lines k.live)

-- the page of what files stand for; a node keeps of records the live ones, by rising id, and the greatest incarnation, or 0
abbrev pub page_text : Contents → List ℕ
page_text c = lines_of c.version c.generation c.records (kept_of c.version c.records)

abbrev pub whole_page : Contents → Printed
whole_page c = record { text = page_text c; is_bad = false }

-- the place of a gate, in the first file or in the second
unfoldable pub bad_line : ℕ → ℕ → List ℕ
bad_line zero place = codes "bad journal at " ++ (decimal place ++ codes "\n")
bad_line (suc n) place = codes "bad journal file 1 at " ++ (decimal place ++ codes "\n")

abbrev pub bad_page : ℕ → ℕ → Printed
bad_page file place = record { text = bad_line file place; is_bad = true }

-- the live file has no body, and one is longer than those of a new journal
unfoldable pub no_journal_line : List ℕ
no_journal_line = codes "no journal\n"

abbrev pub no_journal_page : Printed
no_journal_page = record { text = no_journal_line; is_bad = true }

pub record IsWhole (files : Files) (p : Printed) : Type 0 where
  pub contents : Contents
  pub stand : StandFor files contents
  pub is : p ≡ whole_page contents

pub record IsRefusal (files : Files) (p : Printed) : Type 0 where
  pub file : ℕ
  pub place : ℕ
  pub bad : IsBadAt file place files
  pub is : p ≡ bad_page file place

-- the files are no journal, and not a bad one
pub record IsNone (files : Files) (p : Printed) : Type 0 where
  pub none : IsForeign files
  pub is : p ≡ no_journal_page

abbrev pub IsPageOf : Files → Printed → Type 0
IsPageOf files p = IsWhole files p ⊎ (IsRefusal files p ⊎ IsNone files p)

-- What files stand for has one page, and no other is printed of them.
abbrev pub OneIsPrinted : Type 0
OneIsPrinted = (files : Files) (p : Printed) → IsPageOf files p → (c : Contents) → StandFor files c → p ≡ whole_page c
