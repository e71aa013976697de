-- What a compaction writes, and what it leaves.
use Rattle.std.specs.Prelude.{ℕ, List, Bool, Result, Ok, Err, true, false, not, [], ◌∷◌, ◌++◌, ◌+◌, ◌-◌, ◌&&◌, ◌≡◌, ◌≢◌, ◌≤◌, ◌⊎◌, ◌↔◌, length, map, option_map}
use Rattle.site_model.specs.Counts.{Rose}
use Rattle.site_model.specs.Site.{OnDisk}
use Rattle.site_model.specs.Calls.{Runs}
use Rattle.site_model.specs.Told.{Told, Files, Made, Call, Is, Elapses, Between, Apart, BreaksOff, done, file_of, other_than}
use Rattle.site_model.specs.Told.Call.{Write, Sync}
use Rattle.journal_at.specs.declared.body.Body.{Body}
use Rattle.journal_at.specs.declared.journal.Journal.{Journal}
use Rattle.journal_at.specs.declared.journal.Compact.{Compact}
use Rattle.journal_at.specs.declared.journal.Compact.TheVariants.{Done, Kept, Unsure, Full}
use Rattle.journal_at.specs.Format.{behind, frames, mark_body}
use Rattle.journal_at.specs.Pairs.{Holds}
use Rattle.journal_at.specs.Frames.{IsShut}
use Rattle.journal_at.specs.StandingBodies.{Keeps, Spare, Stands, raise}

abbrev pub text_in : Body → List ℕ
text_in body = body.bytes.items

abbrev pub texts_in : List Body → List (List ℕ)
texts_in bodies = map text_in bodies

-- what stands behind the first gate: a mark, the bodies, a shut gate
abbrev pub text_of : ℕ → List (List ℕ) → List ℕ
text_of g bodies = behind (mark_body g) ++ (frames bodies ++ (0 ∷ []))

-- the other file
pub record Flips (live other : ℕ) : Type 0 where
  pub of : (f : Files) → file_of other f ≡ other_than live f
  pub than : (f : Files) → other_than other f ≡ file_of live f

-- a row of calls on the disk
pub record Acts {T E : Type 0} (calls : List Call) (result : Result T E) (old new : Told) : Type 0 where
  pub runs : Runs calls result old new
  pub apart : Apart old new
  pub counts : OnDisk old.counts new.counts result

-- the first of these calls failed, or wasn't made
abbrev pub fails_first : List Made → Bool
fails_first [] = true
fails_first (made ∷ rest) = not made.done

-- such a row, the first of which shuts a first gate, where that is still to be done; it is then still, where that call failed
pub record Readies {T E : Type 0} (calls : List Call) (unshut after : Bool) (result : Result T E) (old new : Told) : Type 0 where
  pub acts : Acts calls result old new
  pub flag : after ≡ (unshut && fails_first acts.runs.made)

-- what was stands, whatever a crash leaves, and has a body
pub record Safe (unshut : Bool) (live : ℕ) (bodies : List (List ℕ)) (s : Told) : Type 0 where
  pub stands : Stands live bodies s
  pub some : bodies ≢ []
  pub spare : Spare unshut live bodies s

pub record Saved (unshut : Bool) (live : ℕ) (bodies : List (List ℕ)) (old new : Told) : Type 0 where
  pub safe : Safe unshut live bodies new
  pub time : Elapses old new (λ l c. Between old new l × Holds live bodies c)

-- a crash leaves the other file's first gate shut
abbrev pub IsShutIn : ℕ → Told → Type 0
IsShutIn live s = (c : Files) → s.images c → IsShut (other_than live c)

-- the text stands behind a gate that is shut
pub record IsFilled (live : ℕ) (bodies : List (List ℕ)) (text : List ℕ) (c : Files) : Type 0 where
  pub gate : ℕ
  pub rest : List ℕ
  pub shut : gate ≢ 1
  pub is : other_than live c ≡ gate ∷ (text ++ rest)
  pub holds : Holds live bodies c

pub record Fills (live : ℕ) (bodies : List (List ℕ)) (text : List ℕ) (s : Told) : Type 0 where
  pub files : (f : Files) → Is s.files f → IsFilled live bodies text f
  pub images : (c : Files) → s.images c → IsFilled live bodies text c

abbrev pub Prepares : {T E : Type 0} → Result T E → Bool → ℕ → List (List ℕ) → List ℕ → Told → Type 0
Prepares (Ok x) unshut live bodies text s = Fills live bodies text s × (unshut ≡ false)
Prepares (Err e) unshut live bodies text s = Safe unshut live bodies s

-- the first gate is shut where that is still to be done
abbrev pub gate_calls : Bool → ℕ → List Call
gate_calls true file = Write file 0 (0 ∷ []) ∷ []
gate_calls false file = []

abbrev pub shut_calls : Bool → ℕ → List Call
shut_calls unshut file = gate_calls unshut file ++ (Sync file ∷ [])

abbrev pub fill_calls : ℕ → List ℕ → List Call
fill_calls file text = Write file 1 text ∷ Sync file ∷ []

abbrev pub prepare_calls : Bool → ℕ → List ℕ → List Call
prepare_calls unshut file text = shut_calls unshut file ++ fill_calls file text

abbrev pub EitherStands : ℕ → List (List ℕ) → List (List ℕ) → Files → Type 0
EitherStands live bodies later c = Holds live bodies c ⊎ Holds (1 - live) later c

-- what a crash during the call leaves
abbrev pub Meanwhile : Compact → ℕ → List (List ℕ) → List (List ℕ) → Files → Type 0
Meanwhile Done live bodies later c = EitherStands live bodies later c
Meanwhile Kept live bodies later c = Holds live bodies c
Meanwhile Unsure live bodies later c = EitherStands live bodies later c
Meanwhile Full live bodies later c = Holds live bodies c

-- what stands behind it
abbrev pub Leaves : Compact → ℕ → List (List ℕ) → List (List ℕ) → Journal → Told → Type 0
Leaves Done live bodies later journal s = Keeps journal later s
Leaves Kept live bodies later journal s = Keeps journal bodies s
Leaves Unsure live bodies later journal s = (c : Files) → s.images c → EitherStands live bodies later c
Leaves Full live bodies later journal s = Keeps journal bodies s

pub record Compacted (result : Compact) (live : ℕ) (bodies later : List (List ℕ)) (journal : Journal) (old new : Told) : Type 0 where
  pub leaves : Leaves result live bodies later journal new
  pub time : Elapses old new (λ l c. Between old new l × Meanwhile result live bodies later c)

-- the device calls that a compaction makes, in order, up to the first that failed
abbrev pub Steps : Compact → Bool → ℕ → List ℕ → List Made → Type 0
Steps Done unshut file text made = made ≡ map done (prepare_calls unshut file text) ++ map done (raise file 0)
Steps Kept unshut file text made = BreaksOff (prepare_calls unshut file text) made
Steps Unsure unshut file text made = (rest : List Made) × (made ≡ map done (prepare_calls unshut file text) ++ rest) × BreaksOff (raise file 0) rest
Steps Full unshut file text made = made ≡ []

-- the file that is then live, and its generation
abbrev pub IsFile : Compact → Journal → Journal → Type 0
IsFile Done before after = (after.live ≡ 1 - before.live) × (after.generation ≡ before.generation + 1)
IsFile other before after = (after.live ≡ before.live) × (after.generation ≡ before.generation)

-- the place of its last gate
abbrev pub IsEnd : Compact → (text : List ℕ) → Journal → Journal → Type 0
IsEnd Done text before after = after.end ≡ length text
IsEnd other text before after = after.end ≡ before.end

-- Whether the first gate of the file that is then the other one is still to be shut. The file that was live has an open gate,
-- where it has bodies. A gate that was to be shut still is, where the call failed that shuts it, which is the first.
abbrev pub IsUnshut : Compact → (unshut : Bool) → (end : ℕ) → List Made → (after : Bool) → Type 0
IsUnshut Done unshut end made after = (after ≡ true) ↔ (1 ≤ end)
IsUnshut Kept unshut end made after = after ≡ (unshut && fails_first made)
IsUnshut Unsure unshut end made after = after ≡ false
IsUnshut Full unshut end made after = after ≡ unshut

-- they were made, and so the journal is behind them
pub record Moves (result : Compact) (text : List ℕ) (before after : Journal) (old new : Told) : Type 0 where
  pub made : List Made
  pub are : Steps result before.unshut (1 - before.live) text made
  pub file : IsFile result before after
  pub end : IsEnd result text before after
  pub unshut : IsUnshut result before.unshut before.end made after.unshut
  pub grown : new.calls ≡ option_map (λ l. l ++ made) old.calls

-- why
abbrev pub HasGround : Compact → Journal → Told → Told → Type 0
HasGround Done journal old new = Unit {0}
HasGround Kept journal old new = Rose old.counts.disk new.counts.disk
HasGround Unsure journal old new = (journal.unsure ≡ true) ⊎ Rose old.counts.gate new.counts.gate
HasGround Full journal old new = Unit {0}
