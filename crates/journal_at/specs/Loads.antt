-- What reading a journal does, and why it stops.
use Rattle.std.specs.Prelude.{ℕ, List, Result, Ok, Err, Bool, true, false, ◌∷◌, [], ◌++◌, ◌≡◌, ◌≤◌, ◌⊎◌, ◌↔◌, zero, suc, length, map, option_map, OnOk}
use Rattle.site_model.specs.Counts.{Rose}
use Rattle.site_model.specs.Site.{OnDisk}
use Rattle.site_model.specs.Calls.{Runs}
use Rattle.site_model.specs.Told.{Told, Files, Made, Call, Is, Within, Elapses, Between, Apart, Still, BreaksOff, done, file_of, other_than}
use Rattle.site_model.specs.Told.Call.{Write, Sync}
use Rattle.journal_at.specs.declared.journal.Journal.{Journal}
use Rattle.journal_at.specs.declared.load.LoadFault.{LoadFault}
use Rattle.journal_at.specs.declared.load.LoadFault.TheVariants.{NoMemory, Disk, Bad, NoJournal}
use Rattle.journal_at.specs.declared.records.Records.{Records}
use Rattle.journal_at.specs.declared.scan.Both.{Both}
use Rattle.journal_at.specs.declared.version.Version.{Version}
use Rattle.journal_at.specs.declared.version.Version.TheVariants.{One}
use Rattle.journal_at.specs.Format.{FileOf, head_of, records_of}
use Rattle.journal_at.specs.Pairs.{FilesOf, HasLive, IsForeign}
use Rattle.journal_at.specs.Frames.{ArePlaced, IsBadAt}
use Rattle.journal_at.specs.Scans.{IsGate, IsSeen, records_in}
use Rattle.journal_at.specs.StandingBodies.{Keeps}

-- nothing but the count of the disk's faults changes
pub record Quiet (old new : Told) : Type 0 where
  pub still : Still old new
  pub apart : Apart old new
  pub later : old.counts.disk ≤ new.counts.disk
  pub others : new.counts ≡ record old.counts { disk = new.counts.disk }

-- file 0 is judged first
abbrev pub IsJudged : ℕ → ℕ → Files → Type 0
IsJudged zero place f = IsBadAt place f.first
IsJudged (suc n) place f = ((bodies : List (List ℕ)) × FileOf f.first bodies) × IsBadAt place f.second

abbrev pub LookCause : {T : Type 0} → ℕ → Result T LoadFault → Told → Told → Type 0
LookCause file (Ok x) old new = Unit {0}
LookCause file (Err NoMemory) old new = Unit {0}
LookCause file (Err Disk) old new = Rose old.counts.disk new.counts.disk
LookCause file (Err (Bad which place)) old new = (which ≡ file) × ((f : Files) → Is old.files f → IsBadAt place (file_of file f))
LookCause file (Err NoJournal) old new = ⊥

abbrev pub IsCause : LoadFault → Told → Told → Type 0
IsCause NoMemory old new = Unit {0}
IsCause Disk old new = Rose old.counts.disk new.counts.disk
IsCause (Bad file place) old new = (f : Files) → Is old.files f → IsJudged file place f
IsCause NoJournal old new = (f : Files) → Is old.files f → IsForeign f

abbrev pub LoadCause : {T : Type 0} → Result T LoadFault → Told → Told → Type 0
LoadCause (Ok x) old new = Unit {0}
LoadCause (Err e) old new = IsCause e old new

-- what the one pair stands for, the other does
abbrev pub Alike : Files → Files → Type 0
Alike f c = (version : Version) (records : List (List ℕ)) → FilesOf f version records → FilesOf c version records

-- what a crash might leave since: what it might have left before, or what stands for what reads gave
abbrev pub Lasts : Told → Files → Type 0
Lasts old c = old.images c ⊎ ((f : Files) × Is old.files f × Alike f c)

-- what reads give stands for what they gave
abbrev pub Rests : Told → Told → Type 0
Rests old new = (f : Files) → Is new.files f → (g : Files) × Is old.files g × Alike g f

abbrev pub syncs : List Call
syncs = Sync 0 ∷ Sync 1 ∷ []

abbrev pub shuts : List Call
shuts = Write 0 0 (0 ∷ []) ∷ Sync 0 ∷ []

-- both files are synced
pub record Settles {T E : Type 0} (result : Result T E) (old new : Told) : Type 0 where
  pub calls : Runs syncs result old new
  pub settled : OnOk result (Within (Is new.files) new.images)
  pub files : new.files ≡ old.files
  pub images : Within old.images new.images
  pub time : Elapses old new (λ l c. Between old new l × old.images c)
  pub apart : Apart old new
  pub counts : OnDisk old.counts new.counts result

-- only the disk's faults are counted
pub record Spent (old new : Told) : Type 0 where
  pub disk : old.counts.disk ≤ new.counts.disk
  pub others : new.counts ≡ record old.counts { disk = new.counts.disk }
  pub apart : Apart old new

-- both files were synced, and a crash leaves what reads give
pub record Ready (old new : Told) : Type 0 where
  pub settled : Within (Is new.files) new.images
  pub files : new.files ≡ old.files
  pub images : Within old.images new.images
  pub grown : new.calls ≡ option_map (λ l. l ++ map done syncs) old.calls
  pub time : Elapses old new (λ l c. Between old new l × old.images c)
  pub spent : Spent old new

-- no file has a body
abbrev pub AreEmpty : Told → Type 0
AreEmpty old = (f : Files) → Is old.files f → FilesOf f One []

-- A disk that failed: at a sync; in reading, behind both; or as a first gate was written, where no file has a body.
pub data FailsAt (made : List Made) (old : Told) : Type 0 where
  sync : BreaksOff syncs made → FailsAt made old
  read : made ≡ map done syncs → FailsAt made old
  gate : AreEmpty old → BreaksOff (syncs ++ shuts) made → FailsAt made old

-- the calls that ended it, and what it left
abbrev pub Ends : LoadFault → List Made → Told → Told → Type 0
Ends NoMemory made old new = (made ≡ map done syncs) × (new.files ≡ old.files) × Within old.images new.images
Ends Disk made old new = FailsAt made old
Ends (Bad file place) made old new = (made ≡ map done syncs) × (new.files ≡ old.files) × Within old.images new.images
Ends NoJournal made old new = (made ≡ map done syncs) × (new.files ≡ old.files) × Within old.images new.images

pub record Fails (e : LoadFault) (old new : Told) : Type 0 where
  pub cause : IsCause e old new
  pub made : List Made
  pub ends : Ends e made old new
  pub grown : new.calls ≡ option_map (λ l. l ++ made) old.calls
  pub files : Rests old new
  pub images : (c : Files) → new.images c → Lasts old c
  pub time : Elapses old new (λ l c. Between old new l × Lasts old c)
  pub spent : Spent old new

abbrev pub Surveys : Result Both LoadFault → Told → Told → Type 0
Surveys (Ok both) old new = Ready old new × IsSeen both.first 0 new × IsSeen both.second 1 new
Surveys (Err e) old new = Fails e old new

-- a first gate is written where file 0 is live and has at most one byte
abbrev pub shuts_if : Bool → List Call
shuts_if true = shuts
shuts_if false = []

abbrev pub IsBare : Journal → Files → Type 0
IsBare journal f = (journal.live ≡ 0) × (length f.first ≤ 1)

pub record Opens (journal : Journal) (records : Records) (old new : Told) : Type 0 where
  pub is : (f : Files) → Is old.files f → FilesOf f records.version (records_in records)
  pub bodies : List (List ℕ)
  pub held : (f : Files) → Is old.files f → HasLive journal.live bodies f
  pub gate : (f : Files) → Is old.files f → IsGate journal.unshut (other_than journal.live f)
  pub keeps : Keeps journal bodies new
  pub version : (head_of bodies).version ≡ records.version
  pub records_are : records_of bodies ≡ records_in records
  pub placed : ArePlaced 0 records.items.items
  pub bare : Bool
  pub when : (f : Files) → Is old.files f → (bare ≡ true) ↔ IsBare journal f
  pub grown : new.calls ≡ option_map (λ l. l ++ map done (syncs ++ shuts_if bare)) old.calls
  pub images : (c : Files) → new.images c → Lasts old c
  pub time : Elapses old new (λ l c. Between old new l × Lasts old c)
  pub spent : Spent old new

abbrev pub Loads : Result (Journal × Records) LoadFault → ℕ → Told → Told → Type 0
Loads (Ok (journal, records)) limit old new = Opens journal records old new × (journal.unsure ≡ false) × (journal.limit ≡ limit)
Loads (Err e) limit old new = Fails e old new
