-- What stands, and what an append leaves.
use Rattle.std.specs.Prelude.{ℕ, List, Bool, Result, true, false, [], ◌∷◌, ◌++◌, ◌+◌, ◌≡◌, ◌≤◌, ◌⊎◌, length, map, option_map, OnOk, OnErr}
use Rattle.site_model.specs.Counts.{HasCause, Rose}
use Rattle.site_model.specs.Calls.{Runs}
use Rattle.site_model.specs.Told.{Told, Files, Made, Call, Is, Elapses, Between, Apart, BreaksOff, Torn, TornFrom, Tears, Settled, done, other_than, with_file, written}
use Rattle.site_model.specs.Told.Call.{Write, Sync}
use Rattle.journal_at.specs.declared.journal.Journal.{Journal}
use Rattle.journal_at.specs.declared.journal.Append.{Append}
use Rattle.journal_at.specs.declared.journal.Append.TheVariants.{Done, Refused, Unsure, Full}
use Rattle.journal_at.specs.Format.{AreListed, behind, frames, head_of}
use Rattle.journal_at.specs.Pairs.{Beside, Holds}
use Rattle.journal_at.specs.Frames.{IsShut}

-- the files, and whatever a crash leaves of them, hold these bodies
pub record Stands (live : ℕ) (bodies : List (List ℕ)) (s : Told) : Type 0 where
  pub listed : AreListed bodies
  pub files : (f : Files) → Is s.files f → Holds live bodies f
  pub images : (c : Files) → s.images c → Holds live bodies c

-- whatever its first byte becomes, the other file stands for an older list
pub record MayShut (live : ℕ) (bodies : List (List ℕ)) (other : List ℕ) : Type 0 where
  pub any : (x : List ℕ) → Torn 0 1 other x → Beside live bodies x

-- the first gate of the other file may be written, or it is there and shut, and must not be written again
abbrev pub Spare : Bool → ℕ → List (List ℕ) → Told → Type 0
Spare true live bodies s = ((f : Files) → Is s.files f → MayShut live bodies (other_than live f)) × ((c : Files) → s.images c → MayShut live bodies (other_than live c))
Spare false live bodies s = (f : Files) → Is s.files f → IsShut (other_than live f)

pub record Keeps (journal : Journal) (bodies : List (List ℕ)) (s : Told) : Type 0 where
  pub stands : Stands journal.live bodies s
  pub spare : Spare journal.unshut journal.live bodies s
  pub end : journal.end ≡ length (frames bodies)
  pub generation : journal.generation ≡ (head_of bodies).generation

-- the first body of a file is no longer than a mark, so that a crash in its append leaves no more than a new journal has
abbrev pub MayBegin : (bodies : List (List ℕ)) → List ℕ → Type 0
MayBegin [] body = length body ≤ 5
MayBegin (other ∷ bodies) body = Unit {0}

-- a mark is appended to an empty file alone, and says no generation
pub record MayFollow (bodies : List (List ℕ)) (body : List ℕ) : Type 0 where
  pub listed : AreListed (bodies ++ body ∷ [])
  pub generation : (head_of (bodies ++ body ∷ [])).generation ≡ (head_of bodies).generation
  pub begins : MayBegin bodies body

-- the write of a body with a closed gate, and its sync
pub record Laid {T E : Type 0} (file at : ℕ) (bytes : List ℕ) (result : Result T E) (old new : Told) : Type 0 where
  pub calls : Runs (Write file at bytes ∷ Sync file ∷ []) result old new
  pub done : OnOk result (new.files ≡ option_map (with_file file (written at bytes)) old.files)
  pub settled : OnOk result (Settled file new.files new.images)
  pub failed : OnErr result ((f : Files) → Is new.files f → ((g : Files) × Is old.files g × (f ≡ with_file file (written at bytes) g)) ⊎ TornFrom file at (length bytes) (Is old.files) f)
  pub images : Tears file at (length bytes) old.images new.images
  pub time : Elapses old new (λ l c. Between old new l × TornFrom file at (length bytes) old.images c)
  pub apart : Apart old new
  pub cause : HasCause old.counts.disk new.counts.disk result
  pub others : new.counts ≡ record old.counts { disk = new.counts.disk }

abbrev pub EitherHolds : ℕ → List (List ℕ) → List ℕ → Files → Type 0
EitherHolds live bodies body c = Holds live bodies c ⊎ Holds live (bodies ++ body ∷ []) c

-- what a crash during the call leaves
abbrev pub During : Append → ℕ → List (List ℕ) → List ℕ → Files → Type 0
During Done live bodies body c = EitherHolds live bodies body c
During Refused live bodies body c = Holds live bodies c
During Unsure live bodies body c = EitherHolds live bodies body c
During Full live bodies body c = Holds live bodies c

-- what stands behind it
abbrev pub After : Append → List (List ℕ) → List ℕ → Journal → Told → Type 0
After Done bodies body journal s = Keeps journal (bodies ++ body ∷ []) s
After Refused bodies body journal s = Keeps journal bodies s
After Unsure bodies body journal s = (c : Files) → s.images c → EitherHolds journal.live bodies body c
After Full bodies body journal s = Keeps journal bodies s

abbrev pub lay : ℕ → ℕ → List ℕ → List Call
lay file end body = Write file (end + 1) (behind body ++ 0 ∷ []) ∷ Sync file ∷ []

abbrev pub raise : ℕ → ℕ → List Call
raise file end = Write file end (1 ∷ []) ∷ Sync file ∷ []

-- the device calls that an append makes, in order, up to the first that failed
abbrev pub Makes : Append → ℕ → ℕ → List ℕ → List Made → Type 0
Makes Done file end body made = made ≡ map done (lay file end body) ++ map done (raise file end)
Makes Refused file end body made = BreaksOff (lay file end body) made
Makes Unsure file end body made = (rest : List Made) × (made ≡ map done (lay file end body) ++ rest) × BreaksOff (raise file end) rest
Makes Full file end body made = made ≡ []

pub record Calls (result : Append) (file end : ℕ) (body : List ℕ) (old new : Told) : Type 0 where
  pub made : List Made
  pub are : Makes result file end body made
  pub grown : new.calls ≡ option_map (λ l. l ++ made) old.calls

pub record Appended (result : Append) (bodies : List (List ℕ)) (body : List ℕ) (journal : Journal) (old new : Told) : Type 0 where
  pub after : After result bodies body journal new
  pub time : Elapses old new (λ l c. Between old new l × During result journal.live bodies body c)

-- what no append changes, and the last gate stands no further to the front
pub record IsSame (before after : Journal) : Type 0 where
  pub live : after.live ≡ before.live
  pub limit : after.limit ≡ before.limit
  pub generation : after.generation ≡ before.generation
  pub unshut : after.unshut ≡ before.unshut
  pub end : before.end ≤ after.end

-- why
abbrev pub HasReason : Append → Journal → Told → Told → Type 0
HasReason Done journal old new = Unit {0}
HasReason Refused journal old new = Rose old.counts.disk new.counts.disk
HasReason Unsure journal old new = (journal.unsure ≡ true) ⊎ Rose old.counts.gate new.counts.gate
HasReason Full journal old new = Unit {0}

-- the counts of the disk and of gates don't fall, and nothing else is counted, nor are listener, connections and clock touched
pub record Counted (old new : Told) : Type 0 where
  pub disk : old.counts.disk ≤ new.counts.disk
  pub gate : old.counts.gate ≤ new.counts.gate
  pub others : new.counts ≡ record old.counts { disk = new.counts.disk; gate = new.counts.gate }
  pub apart : Apart old new
