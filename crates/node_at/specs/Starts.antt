-- What a node does as it starts: it reads its journal, brings its records into version 2, and records its Start.
use Rattle.std.specs.Prelude.{ℕ, List, Bool, OnOk, Result, Ok, Err, true, false, [], ◌∷◌, ◌++◌, ◌+◌, ◌-◌, ◌≡◌, ◌≤◌, ◌<◌, ◌⊎◌, ◌↔◌, cond, nat_eq, length, map, option_map}
use Rattle.at_base.specs.declared.record.Record.{Record}
use Rattle.at_base.specs.declared.record.Record.TheVariants as records
use Rattle.at_model.specs.Recovery.{last_incarnation}
use Rattle.decision_log.specs.Folds.{AreRecords, IsBadAt, IsFolded, placed_in}
use Rattle.decision_log.specs.KeptRecords.{IsKept, kept_of}
use Rattle.decision_log.specs.ShrunkJournals.{shrunk, texts_of}
use Rattle.journal_at.specs.Compactions.{prepare_calls, text_of}
use Rattle.journal_at.specs.declared.journal.Append.{Append}
use Rattle.journal_at.specs.declared.journal.Append.TheVariants as appends
use Rattle.journal_at.specs.declared.journal.Compact.{Compact}
use Rattle.journal_at.specs.declared.journal.Compact.TheVariants as compacts
use Rattle.journal_at.specs.declared.journal.Journal.{Journal}
use Rattle.journal_at.specs.declared.load.LoadFault.{LoadFault}
use Rattle.journal_at.specs.declared.load.LoadFault.TheVariants as loads
use Rattle.journal_at.specs.declared.records.Records.{Records}
use Rattle.journal_at.specs.declared.version.Version.{Version}
use Rattle.journal_at.specs.declared.version.Version.TheVariants.{One, Two}
use Rattle.journal_at.specs.Format.{frames, head_of, mark_body, records_of}
use Rattle.journal_at.specs.Loads.{FailsAt, IsBare, IsJudged, Lasts, shuts_if, syncs}
use Rattle.journal_at.specs.Pairs.{FilesOf, HasLive, Holds, IsForeign}
use Rattle.journal_at.specs.Frames.{ArePlaced}
use Rattle.journal_at.specs.Scans.{IsGate, records_in}
use Rattle.journal_at.specs.StandingBodies.{Counted, Keeps, lay, raise}
use Rattle.record_bytes.specs.Bytes.{bytes_of}
use Rattle.site_model.specs.Counts.{Rose}
use Rattle.site_model.specs.Told.{Told, Files, Made, Call, Is, Between, BreaksOff, Elapses, done, other_than, sent_by}
use Rattle.decision_log.specs.declared.keep.KeepFault.{KeepFault}
use Rattle.decision_log.specs.declared.keep.KeepFault.TheVariants as keeps
use Rattle.decision_log.specs.KeptState.{known}
use Rattle.node_at.specs.declared.opened_journal.Opened.{Opened}
use Rattle.node_at.specs.declared.fault.StartFault.{StartFault}
use Rattle.node_at.specs.declared.fault.StartFault.TheVariants.{NoMemory, Disk, Bad, NoJournal, Spent, Full}
use Rattle.node_at.specs.Sizes.{end_of, size_of}

-- the files stand for these records, of this version
pub record StandFor (version : Version) (rs : List Record) (c : Files) : Type 0 where
  pub texts : List (List ℕ)
  pub is : FilesOf c version texts
  pub are : AreRecords version rs texts

-- The records that a node goes on with, in version 2: of those of version 1 it keeps what is left of them.
abbrev pub carried : Version → List Record → List Record
carried Two rs = rs
carried One rs = shrunk (kept_of One rs)

-- the incarnation that begins is one more than the last
abbrev pub start_after : List Record → Record
start_after rs = records.Start (last_incarnation rs + 1)

abbrev pub started : Version → List Record → List Record
started version rs = carried version rs ++ start_after rs ∷ []

-- the files as they are read stand for these records
pub record Found (version : Version) (rs : List Record) (old : Told) : Type 0 where
  pub is : (f : Files) → Is old.files f → StandFor version rs f

-- The journal holds these records, whatever a crash leaves, and takes more.
pub record IsOpen (version : Version) (rs : List Record) (journal : Journal) (s : Told) : Type 0 where
  pub bodies : List (List ℕ)
  pub keeps : Keeps journal bodies s
  pub of : (head_of bodies).version ≡ version
  pub are : AreRecords version rs (records_of bodies)
  pub sure : journal.unsure ≡ false

-- Device calls in order. All were done; or one failed and ended them; or there was no memory for those behind some.
abbrev pub Ran : {T : Type 0} → List Call → Result T StartFault → List Made → Type 0
Ran calls (Ok x) made = made ≡ map done calls
Ran calls (Err Disk) made = BreaksOff calls made
Ran calls (Err NoMemory) made = (front rest : List Call) × (calls ≡ front ++ rest) × (made ≡ map done front)
Ran calls (Err other) made = ⊥

abbrev pub IsDue : {T : Type 0} → Result T StartFault → Told → Told → Type 0
IsDue (Err Disk) old new = Rose old.counts.disk new.counts.disk ⊎ Rose old.counts.gate new.counts.gate
IsDue other old new = Unit {0}

-- a part of a start: its calls, and what a crash leaves at each moment of it
pub record Goes {T : Type 0} (calls : List Call) (P : Files → Type 0) (result : Result T StartFault) (old new : Told) : Type 0 where
  pub made : List Made
  pub ran : Ran calls result made
  pub grown : new.calls ≡ option_map (λ l. l ++ made) old.calls
  pub images : (c : Files) → new.images c → P c
  pub time : Elapses old new (λ l c. Between old new l × P c)
  pub cause : IsDue result old new
  pub counted : Counted old new

-- the append of a body
abbrev pub append_calls : ℕ → ℕ → List ℕ → List Call
append_calls live end body = lay live end body ++ raise live end

-- the first body of a file of version 2
abbrev pub first_mark : List ℕ
first_mark = mark_body 0

-- records that are written anew into the other file, behind a mark of the next generation
abbrev pub anew_calls : Journal → List Record → List Call
anew_calls journal rs =
    prepare_calls journal.unshut (1 - journal.live) (text_of (journal.generation + 1) (texts_of rs)) ++ raise (1 - journal.live) 0

-- How records come into version 2: an empty file begins with a mark; others of version 1 are written anew into the other
-- file.
abbrev pub carrying : Version → List Record → Journal → List Call
carrying Two rs journal = []
carrying One rs journal =
    cond (nat_eq journal.end 0) (append_calls journal.live journal.end first_mark) (anew_calls journal (carried One rs))

-- the file that is then live
abbrev pub IsLiveBehind : Version → Journal → ℕ → Type 0
IsLiveBehind Two journal file = file ≡ journal.live
IsLiveBehind One journal file = journal.end ≡ 0 → file ≡ journal.live

-- a file goes on: its generation stays, and so does whether the other file's first gate is still to be shut
pub record IsContinued (before after : Journal) : Type 0 where
  pub generation : after.generation ≡ before.generation
  pub unshut : after.unshut ≡ before.unshut

-- the next generation stands in the other file, and the first gate of the one that was live is open
pub record IsRenewed (before after : Journal) : Type 0 where
  pub live : after.live ≡ 1 - before.live
  pub generation : after.generation ≡ before.generation + 1
  pub unshut : after.unshut ≡ true

-- the journal that is then open, as far as no record says it
abbrev pub IsJournalBehind : Version → Journal → Journal → Type 0
IsJournalBehind Two before after = IsContinued before after
IsJournalBehind One before after = (before.end ≡ 0 → IsContinued before after) × (1 ≤ before.end → IsRenewed before after)

-- the records before, those that are carried over, and these with the new Start
abbrev pub OnTheWay : Version → List Record → Files → Type 0
OnTheWay version rs c = StandFor version rs c ⊎ (StandFor Two (carried version rs) c ⊎ StandFor Two (started version rs) c)

-- what a call that ended so answers
abbrev pub append_ended : Append → Result (Unit {0}) StartFault
append_ended appends.Done = Ok tt
append_ended other = Err Disk

abbrev pub compact_ended : Compact → Result (Unit {0}) StartFault
compact_ended compacts.Done = Ok tt
compact_ended other = Err Disk

abbrev pub keep_fault : KeepFault → StartFault
keep_fault keeps.NoMemory = NoMemory
keep_fault other = Disk

-- one list of records or the other
abbrev pub Either : Version → List Record → List Record → Files → Type 0
Either version rs later c = StandFor version rs c ⊎ StandFor Two later c

-- a part of a start behind which the journal holds these records in version 2
pub record Carries {T : Type 0} (calls : List Call) (version : Version) (rs later : List Record) (result : Result T StartFault) (journal : Journal) (old new : Told) : Type 0 where
  pub goes : Goes calls (Either version rs later) result old new
  pub holds : OnOk result (IsOpen Two later journal new)

-- where the live file is of version 2, its last gate stands behind these records
abbrev pub IsEnd : Version → List Record → Journal → Type 0
IsEnd Two rs journal = journal.end ≡ end_of rs
IsEnd One rs journal = Unit {0}

-- whether a node may start: its next incarnation, or why there is none
abbrev pub IsNext : Result ℕ StartFault → Version → List Record → ℕ → Type 0
IsNext (Ok n) version rs limit = (n ≡ last_incarnation rs + 1) × (last_incarnation rs < 4294967295) × (size_of (started version rs) ≤ limit)
IsNext (Err Spent) version rs limit = last_incarnation rs ≡ 4294967295
IsNext (Err Full) version rs limit = (last_incarnation rs < 4294967295) × (limit < size_of (started version rs))
IsNext (Err other) version rs limit = ⊥

-- its calls behind reading the journal; the Start goes into that file
abbrev pub beginning_calls : Version → List Record → Journal → ℕ → List Call
beginning_calls version rs journal file =
    carrying version rs journal ++ append_calls file (end_of (carried version rs)) (bytes_of (start_after rs))

-- the records are carried over, and the Start is recorded
pub record Begins {T : Type 0} (result : Result T StartFault) (rs : List Record) (before after : Opened) (old new : Told) : Type 0 where
  pub file : ℕ
  pub goes : Goes (beginning_calls before.version rs before.journal file) (OnTheWay before.version rs) result old new
  pub behind : IsLiveBehind before.version before.journal file
  pub holds : OnOk result (IsOpen Two (started before.version rs) after.journal new)
  pub live : OnOk result (file ≡ after.journal.live)
  pub kept : OnOk result (known after.kept ≡ kept_of Two (started before.version rs))
  pub limit : after.journal.limit ≡ before.journal.limit
  pub journal : OnOk result (IsJournalBehind before.version before.journal after.journal)

-- A body of the live file is no record of the file's version, at its gate.
pub record IsNoRecord (file place : ℕ) (old new : Told) : Type 0 where
  pub found : Records
  pub is : (f : Files) → Is old.files f → FilesOf f found.version (records_in found)
  pub bodies : List (List ℕ)
  pub held : (f : Files) → Is new.files f → Holds file bodies f
  pub same : records_of bodies ≡ records_in found
  pub placed : ArePlaced 0 found.items.items
  pub bad : IsBadAt found.version (placed_in found) place

-- why a node wasn't started
abbrev pub IsCause : StartFault → ℕ → Told → Told → Type 0
IsCause NoMemory limit old new = Unit {0}
IsCause Disk limit old new = Rose old.counts.disk new.counts.disk ⊎ Rose old.counts.gate new.counts.gate
IsCause (Bad file place) limit old new = ((f : Files) → Is old.files f → IsJudged file place f) ⊎ IsNoRecord file place old new
IsCause NoJournal limit old new = (f : Files) → Is old.files f → IsForeign f
IsCause Spent limit old new = (version : Version) × (rs : List Record) × Found version rs old × (last_incarnation rs ≡ 4294967295)
IsCause Full limit old new =
    (version : Version) × (rs : List Record) × Found version rs old × (last_incarnation rs < 4294967295) × (limit < size_of (started version rs))

-- The device calls of a start, in order: both files are synced; a first gate is written where file 0 is live and has at most
-- one byte; the records are carried over; the Start is appended.
abbrev pub start_calls : Bool → Version → List Record → Journal → ℕ → List Call
start_calls bare version rs journal file = (syncs ++ shuts_if bare) ++ beginning_calls version rs journal file

-- what was read
pub record IsRead (bare : Bool) (version : Version) (rs : List Record) (journal : Journal) (old : Told) : Type 0 where
  pub found : Found version rs old
  pub when : (f : Files) → Is old.files f → (bare ≡ true) ↔ IsBare journal f
  pub bodies : List (List ℕ)
  pub live : (f : Files) → Is old.files f → HasLive journal.live bodies f
  pub gate : (f : Files) → Is old.files f → IsGate journal.unshut (other_than journal.live f)
  pub of : (head_of bodies).version ≡ version
  pub are : AreRecords version rs (records_of bodies)
  pub end : journal.end ≡ length (frames bodies)
  pub generation : journal.generation ≡ (head_of bodies).generation

-- the journal was read, and nothing was written into it but a first gate
abbrev pub OnlyReads : List Made → Type 0
OnlyReads made = (made ≡ map done syncs) ⊎ ((bare : Bool) × (made ≡ map done (syncs ++ shuts_if bare)))

-- the journal was read, and some of the calls of a start were made, its Start's into that file
pub record BeganTo (calls : List Call → Type 0) (old : Told) : Type 0 where
  pub bare : Bool
  pub version : Version
  pub rs : List Record
  pub journal : Journal
  pub file : ℕ
  pub was : IsRead bare version rs journal old
  pub behind : IsLiveBehind version journal file
  pub least : last_incarnation rs < 4294967295
  pub ended : calls (start_calls bare version rs journal file)

-- all of them before one, and no more
abbrev pub MadeSome : List Made → List Call → Type 0
MadeSome made calls = (front rest : List Call) × (calls ≡ front ++ rest) × (made ≡ map done front)

-- where a start that failed ended
abbrev pub Ends : StartFault → List Made → Told → Type 0
Ends Disk made old = FailsAt made old ⊎ BeganTo (λ calls. BreaksOff calls made) old
Ends NoMemory made old = OnlyReads made ⊎ BeganTo (MadeSome made) old
Ends NoJournal made old = made ≡ map done syncs
Ends other made old = OnlyReads made

-- what a crash leaves in a start: what it might have left before, or what stands for what the files did, or for that on
-- the way
abbrev pub MayBe : Told → Files → Type 0
MayBe old c = Lasts old c ⊎ ((version : Version) × (rs : List Record) × Found version rs old × OnTheWay version rs c)

pub record CannotStart (e : StartFault) (limit : ℕ) (old new : Told) : Type 0 where
  pub cause : IsCause e limit old new
  pub made : List Made
  pub ends : Ends e made old
  pub silent : sent_by made ≡ []
  pub grown : new.calls ≡ option_map (λ l. l ++ made) old.calls
  pub images : (c : Files) → new.images c → MayBe old c
  pub time : Elapses old new (λ l c. Between old new l × MayBe old c)
  pub counted : Counted old new

-- reading a journal
pub record Opens (o : Opened) (limit : ℕ) (old new : Told) : Type 0 where
  pub rs : List Record
  pub bare : Bool
  pub was : IsRead bare o.version rs o.journal old
  pub holds : IsOpen o.version rs o.journal new
  pub is : known o.kept ≡ kept_of o.version rs
  pub is_kept : IsKept (known o.kept)
  pub limit_is : o.journal.limit ≡ limit
  pub grown : new.calls ≡ option_map (λ l. l ++ map done (syncs ++ shuts_if bare)) old.calls
  pub images : (c : Files) → new.images c → Lasts old c
  pub time : Elapses old new (λ l c. Between old new l × Lasts old c)
  pub counted : Counted old new

abbrev pub OpensAs : Result Opened StartFault → ℕ → Told → Told → Type 0
OpensAs (Ok o) limit old new = Opens o limit old new
OpensAs (Err e) limit old new = CannotStart e limit old new

abbrev pub load_fault : LoadFault → StartFault
load_fault loads.NoMemory = NoMemory
load_fault loads.Disk = Disk
load_fault (loads.Bad file place) = Bad file place
load_fault loads.NoJournal = NoJournal

-- what is kept of what was read
abbrev pub Gathers : Result Opened StartFault → Journal → Records → Type 0
Gathers (Ok o) journal found = (o.version ≡ found.version) × (o.journal ≡ journal) × IsFolded found.version (records_in found) (known o.kept) × IsKept (known o.kept)
Gathers (Err NoMemory) journal found = Unit {0}
Gathers (Err (Bad file place)) journal found = (file ≡ journal.live) × IsBadAt found.version (placed_in found) place
Gathers (Err other) journal found = ⊥
