-- What the two files say, each by itself.
use Rattle.std.specs.Prelude.{ℕ, List, Bool, Option, Some, None, [], ◌∷◌, ◌≡◌, ◌≤◌, ◌<◌, ◌⊎◌, true, false, not, ◌&&◌, nat_lt, length, drop}
use Rattle.site_model.specs.Told.{Told, Files, Is, file_of}
use Rattle.journal_at.specs.declared.journal.Journal.{Journal}
use Rattle.journal_at.specs.declared.scan.Head.{Head}
use Rattle.journal_at.specs.declared.scan.Scan.{Scan}
use Rattle.journal_at.specs.declared.scan.Both.{Both}
use Rattle.journal_at.specs.declared.records.Records.{Records}
use Rattle.journal_at.specs.Format.{FileOf, Mark, frames, mark_of, marked}
use Rattle.journal_at.specs.Frames.{ArePlaced, IsShut, bodies_of, listed_in}

abbrev pub mark_in : List (List ℕ) → Option Mark
mark_in [] = None
mark_in (body ∷ bodies) = mark_of body

-- how many bodies stand before the first record
abbrev pub starts : Option Mark → ℕ
starts (Some mark) = 1
starts None = 0

pub record IsHead (head : Head) (mark : Option Mark) : Type 0 where
  pub version : head.version ≡ (marked mark).version
  pub generation : head.generation ≡ (marked mark).generation
  pub start : head.start ≡ starts mark

-- a first gate is open or not there, or it is shut
abbrev pub IsGate : Bool → List ℕ → Type 0
IsGate true f = (f ≡ []) ⊎ ((rest : List ℕ) × (f ≡ 1 ∷ rest))
IsGate false f = IsShut f

pub record IsScan (scan : Scan) (f : List ℕ) : Type 0 where
  pub is : FileOf f (listed_in scan.bodies)
  pub gates : ArePlaced 0 scan.bodies.items.items
  pub end : scan.bodies.end ≡ length (frames (listed_in scan.bodies))
  pub head : IsHead scan.head (mark_in (listed_in scan.bodies))
  pub gate : IsGate scan.unshut f
  pub bare : scan.bare ≡ true → length f ≤ 1
  pub long : scan.bare ≡ false → 1 < length f
  pub large : scan.large ≡ true → 11 < length f
  pub small : scan.large ≡ false → length f ≤ 11

-- these are the bytes that reads of a file give
pub record IsSeen (scan : Scan) (file : ℕ) (s : Told) : Type 0 where
  pub bytes : List ℕ
  pub is : IsScan scan bytes
  pub told : (f : Files) → Is s.files f → bytes ≡ file_of file f

-- whether file 1 is live
abbrev pub second_lives : Both → Bool
second_lives both = nat_lt both.first.head.generation both.second.head.generation

-- file 0 is live and has at most one byte
abbrev pub is_bare : Both → Bool
is_bare both = both.first.bare && not (second_lives both)

-- file 0 is live, it has no body, and a file is longer than those of a new journal
abbrev pub IsForeignIn : Both → Type 0
IsForeignIn both = (second_lives both ≡ false) × (listed_in both.first.bodies ≡ []) × ((both.first.large ≡ true) ⊎ (both.second.large ≡ true))

-- where file 0 is live and has no body, both files are those of a new journal
abbrev pub IsJournalIn : Both → Type 0
IsJournalIn both = second_lives both ≡ false → listed_in both.first.bodies ≡ [] → (both.first.large ≡ false) × (both.second.large ≡ false)

-- whether the pair is no journal
abbrev pub Judges : Bool → Both → Type 0
Judges true both = IsForeignIn both
Judges false both = IsJournalIn both

abbrev pub records_in : Records → List (List ℕ)
records_in records = drop records.start (bodies_of records.items.items)

-- a journal and records of what a file says
pub record IsOpened (live limit : ℕ) (unshut : Bool) (scan : Scan) (journal : Journal) (records : Records) : Type 0 where
  pub live_is : journal.live ≡ live
  pub end : journal.end ≡ scan.bodies.end
  pub limit_is : journal.limit ≡ limit
  pub generation : journal.generation ≡ scan.head.generation
  pub unshut_is : journal.unshut ≡ unshut
  pub sure : journal.unsure ≡ false
  pub version : records.version ≡ scan.head.version
  pub start : records.start ≡ scan.head.start
  pub items : records.items.items ≡ scan.bodies.items.items

abbrev pub IsPicked : Bool → ℕ → Both → Journal → Records → Type 0
IsPicked true limit both journal records = IsOpened 1 limit both.first.unshut both.second journal records
IsPicked false limit both journal records = IsOpened 0 limit both.second.unshut both.first journal records
