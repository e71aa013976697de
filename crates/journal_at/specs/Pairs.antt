-- What a pair of files stands for.
use Rattle.std.specs.Prelude.{ℕ, List, [], ◌∷◌, ◌≡◌, ◌≤◌, ◌<◌, ◌⊎◌, zero, suc, length}
use Rattle.site_model.specs.Told.{Files, file_of, other_than}
use Rattle.journal_at.specs.declared.version.Version.{Version}
use Rattle.journal_at.specs.Format.{Closed, FileOf, head_of, records_of}

-- file 1 is live exactly where its generation is the greater one
abbrev pub IsLive : ℕ → List (List ℕ) → List (List ℕ) → Type 0
IsLive zero bodies others = (head_of others).generation ≤ (head_of bodies).generation
IsLive (suc n) bodies others = (head_of others).generation < (head_of bodies).generation

-- Neither file has more bytes than the first append of a new journal can have left: a gate of one byte, a length of four, a
-- mark of five, and a gate of one.
pub record AreNew (c : Files) : Type 0 where
  pub first : length c.first ≤ 11
  pub second : length c.second ≤ 11

-- a pair whose live file has no body is a journal only where it is a new one
abbrev pub IsJournal : (bodies : List (List ℕ)) → Files → Type 0
IsJournal [] c = AreNew c
IsJournal (body ∷ bodies) c = Unit {0}

-- the live file has no body, and a file is longer than those of a new journal
pub record IsForeign (c : Files) : Type 0 where
  pub others : List (List ℕ)
  pub is : FileOf c.first []
  pub other : FileOf c.second others
  pub newer : IsLive 0 [] others
  pub long : (11 < length c.first) ⊎ (11 < length c.second)

-- the pair stands for the live file's records
pub record FilesOf (c : Files) (version : Version) (records : List (List ℕ)) : Type 0 where
  pub live : ℕ
  pub bodies : List (List ℕ)
  pub others : List (List ℕ)
  pub is : FileOf (file_of live c) bodies
  pub other : FileOf (other_than live c) others
  pub newer : IsLive live bodies others
  pub journal : IsJournal bodies c
  pub versions : (head_of bodies).version ≡ version
  pub all : records_of bodies ≡ records

-- the other file is older
pub record Beside (live : ℕ) (bodies : List (List ℕ)) (other : List ℕ) : Type 0 where
  pub others : List (List ℕ)
  pub is : FileOf other others
  pub newer : IsLive live bodies others

-- the file that is live has these bodies, and the pair is a journal
abbrev pub HasLive : (live : ℕ) → (bodies : List (List ℕ)) → Files → Type 0
HasLive live bodies c = FileOf (file_of live c) bodies × Beside live bodies (other_than live c) × IsJournal bodies c

-- the file that is live holds these bodies, up to a gate that is there, and the pair is a journal
pub record Holds (live : ℕ) (bodies : List (List ℕ)) (c : Files) : Type 0 where
  pub closed : Closed bodies (file_of live c)
  pub beside : Beside live bodies (other_than live c)
  pub journal : IsJournal bodies c
