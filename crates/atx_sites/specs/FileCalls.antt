-- Which calls of the system a machine makes on its files: what the calls were before, and what they are behind it.
use Rattle.std.specs.Prelude.{ℕ, List, None, Result, Ok, Err, ◌∷◌, [], ◌++◌, ◌≡◌, ◌+◌, ◌⊎◌, true, length, drop, take, codes}
use Rattle.std.specs.Str.Pattern.{RFindsChar, SplitsAroundMatch}
use Rattle.std.specs.declared.io.Error.{Error}
use Rattle.system_calls.specs.Calls.{Calls, Number, Answer, then}
use Rattle.system_calls.specs.Calls.Call.{Open, OpenFolder, Duplicate, Examine, Lock, ReadAt, WriteAt, Sync, Forget}
use Rattle.system_calls.specs.declared.system.Stat.{Stat}
use Rattle.atx_sites.specs.declared.open_file.Held.{Held}

-- the file of that name was opened; where its number was a standard stream's, it has another
abbrev pub Opens : List ℕ → Number → Calls → Calls → Type 0
Opens name file old new =
    (new ≡ then (Open name (Ok file)) old) ⊎ ((low : Number) × (new ≡ then (Duplicate low (Ok file)) (then (Open name (Ok low)) old)))

-- a regular file was locked; only then what an earlier process left of it was made last, and is read from the disk from now on
abbrev pub Takes : Number → Calls → Calls → Type 0
Takes file old new =
    (stat : Stat) × (stat.is_file ≡ true) × (new ≡ then (Forget file (Ok tt)) (then (Sync file (Ok tt)) (then (Lock file (Ok tt)) (then (Examine file (Ok stat)) old))))

-- both in turn
abbrev pub OpensAlone : List ℕ → Number → Calls → Calls → Type 0
OpensAlone name file old new = (mid : Calls) × Opens name file old mid × Takes file mid new

abbrev pub or_root : List ℕ → List ℕ
or_root [] = codes "/"
or_root (x ∷ front) = x ∷ front

-- the folder of a file: what stands in front of the last slash of its name
abbrev pub IsFolderOf : List ℕ → List ℕ → Type 0
IsFolderOf name folder =
    (RFindsChar 47 name None × (folder ≡ codes "."))
    ⊎ ((front last : List ℕ) × SplitsAroundMatch (RFindsChar 47) name front last × (folder ≡ or_root front))

-- which files the folder has was made last
abbrev pub SyncsFolder : List ℕ → Calls → Calls → Type 0
SyncsFolder name old new = (folder : Number) × (new ≡ then (Sync folder (Ok tt)) (then (OpenFolder name (Ok folder)) old))

abbrev pub IfOpened : {F : Type 0} → (F → Number) → List ℕ → Answer F → Calls → Calls → Type 0
IfOpened number name (Ok file) old new = Opens name (number file) old new
IfOpened number name (Err fault) old new = Unit {0}

abbrev pub IfTaken : {E : Type 0} → Number → Result (Unit {0}) E → Calls → Calls → Type 0
IfTaken file (Ok done) old new = Takes file old new
IfTaken file (Err fault) old new = Unit {0}

abbrev pub IfAlone : {F E : Type 0} → (F → Number) → List ℕ → Result (Held F) E → Calls → Calls → Type 0
IfAlone number name (Ok held) old new = OpensAlone name (number held.file) old new
IfAlone number name (Err fault) old new = Unit {0}

abbrev pub IfSynced : {E : Type 0} → List ℕ → Result (Unit {0}) E → Calls → Calls → Type 0
IfSynced name (Ok done) old new = SyncsFolder name old new
IfSynced name (Err fault) old new = Unit {0}

-- both files of a journal were opened, each locked before the other is named, and then their folder was made last
abbrev pub OpensBoth : List ℕ → Number → Number → Calls → Calls → Type 0
OpensBoth journal first second old new =
    (one two : Calls) × OpensAlone journal first old one × OpensAlone (journal ++ codes ".1") second one two
    × ((folder : List ℕ) × IsFolderOf journal folder × SyncsFolder folder two new)

abbrev pub IfBoth : {F E : Type 0} → (F → Number) → List ℕ → Result (Held F × Held F) E → Calls → Calls → Type 0
IfBoth number journal (Ok both) old new = OpensBoth journal (number both.0.file) (number both.1.file) old new
IfBoth number journal (Err fault) old new = Unit {0}

-- the bytes of a file are those that the system tells
abbrev pub Sized : {E : Type 0} → Number → Result ℕ E → Calls → Calls → Type 0
Sized file (Ok n) old new = (stat : Stat) × (n ≡ stat.bytes) × (new ≡ then (Examine file (Ok stat)) old)
Sized file (Err fault) old new = (new ≡ old) ⊎ ((why : Error) × (new ≡ then (Examine file (Err why)) old))

-- it was read at that place in vain, any number of times
pub data Tries (file : Number) (at : ℕ) (old : Calls) : Calls → Type 0 where
  none : {new : Calls} → new ≡ old → Tries file at old new
  again : {mid new : Calls} (fault : Error) → Tries file at old mid → new ≡ then (ReadAt file at (Err fault)) mid → Tries file at old new

-- the bytes are those of the last read, which was of that place
abbrev pub Reads : {E : Type 0} → Number → ℕ → List ℕ → Result ℕ E → Calls → Calls → Type 0
Reads file at buf (Ok n) old new = (mid : Calls) × Tries file at old mid × (new ≡ then (ReadAt file at (Ok (take n buf))) mid)
Reads file at buf (Err fault) old new = Tries file at old new

-- so many of the bytes were taken: each write is of all that those before it didn't take, at their place
pub data Writing (file : Number) (at : ℕ) (bytes : List ℕ) (old : Calls) : ℕ → Calls → Type 0 where
  none : {k : ℕ} {new : Calls} → k ≡ 0 → new ≡ old → Writing file at bytes old k new
  took : {k j : ℕ} {mid new : Calls} (m : ℕ) → Writing file at bytes old k mid → j ≡ k + m
      → new ≡ then (WriteAt file (at + k) (drop k bytes) (Ok m)) mid → Writing file at bytes old j new
  failed : {k : ℕ} {mid new : Calls} (fault : Error) → Writing file at bytes old k mid
      → new ≡ then (WriteAt file (at + k) (drop k bytes) (Err fault)) mid → Writing file at bytes old k new

-- all bytes were taken, or it failed
abbrev pub Writes : {E : Type 0} → Number → ℕ → List ℕ → Result (Unit {0}) E → Calls → Calls → Type 0
Writes file at bytes (Ok done) old new = Writing file at bytes old (length bytes) new
Writes file at bytes (Err fault) old new = (k : ℕ) × Writing file at bytes old k new

-- an fsync of the file, and nothing behind it
abbrev pub Syncs : {E : Type 0} → Number → Result (Unit {0}) E → Calls → Calls → Type 0
Syncs file (Ok done) old new = new ≡ then (Sync file (Ok tt)) old
Syncs file (Err fault) old new = (new ≡ old) ⊎ ((why : Error) × (new ≡ then (Sync file (Err why)) old))

-- the byte 1 was written whole, and then the file was synced
abbrev pub Raises : {E : Type 0} → Number → ℕ → Result (Unit {0}) E → Calls → Calls → Type 0
Raises file at (Ok done) old new = (mid : Calls) × Writing file at (1 ∷ []) old 1 mid × (new ≡ then (Sync file (Ok tt)) mid)
Raises file at (Err fault) old new =
    (k : ℕ) × (mid : Calls) × Writing file at (1 ∷ []) old k mid × ((new ≡ mid) ⊎ ((why : Error) × (new ≡ then (Sync file (Err why)) mid)))
