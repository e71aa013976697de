-- Why a call of a machine failed.
use Rattle.std.specs.Prelude.{ℕ, List, Option, Some, None, Result, Ok, Err, ◌≡◌, ◌⊎◌, false}
use Rattle.std.specs.IoError.{error_kind, raw_os_error}
use Rattle.std.specs.declared.io.ErrorKind.TheVariants as kinds
use Rattle.std.specs.declared.io.Error.{Error}
use Rattle.system_calls.specs.Calls.{Call, Calls, Number, then}
use Rattle.system_calls.specs.declared.system.Stat.{Stat}
use Rattle.system_calls.specs.Calls.Call.{Accept, Duplicate, Examine, Forget, Listen, Lock, Monotonic, Open, OpenFolder, ReadAt, Sync, WriteAt}
use Rattle.atx_sites.specs.declared.troubles.Step.{Step}
use Rattle.atx_sites.specs.declared.troubles.Step.TheVariants as steps
use Rattle.atx_sites.specs.declared.troubles.Trouble.{Trouble}

-- the system's calls that a step makes, which answered so, of the file or the listener of this number; while a machine is had
-- the files have none yet
abbrev pub IsCall : Number → Step → Error → Call → Type 0
IsCall number (steps.Open file) e call = ((name : List ℕ) × (call ≡ Open name (Err e))) ⊎ ((low : Number) × (call ≡ Duplicate low (Err e)))
IsCall number (steps.Kind file) e call = (opened : Number) × (call ≡ Examine opened (Err e))
IsCall number (steps.Lock file) e call = (opened : Number) × (call ≡ Lock opened (Err e))
IsCall number (steps.Settle file) e call = (opened : Number) × ((call ≡ Sync opened (Err e)) ⊎ (call ≡ Forget opened (Err e)))
IsCall number steps.Folder e call = ((name : List ℕ) × (call ≡ OpenFolder name (Err e))) ⊎ ((folder : Number) × (call ≡ Sync folder (Err e)))
IsCall number steps.Listen e call = (address : List ℕ) × (call ≡ Listen address (Err e))
IsCall number steps.Accept e call = (call ≡ Accept number (Err e)) ⊎ (call ≡ Monotonic (Err e))
IsCall number (steps.Size file) e call = call ≡ Examine number (Err e)
IsCall number (steps.Read file) e call = (at : ℕ) × (call ≡ ReadAt number at (Err e))
IsCall number (steps.Write file) e call = (at : ℕ) × (bytes : List ℕ) × (call ≡ WriteAt number at bytes (Err e))
IsCall number (steps.Sync file) e call = call ≡ Sync number (Err e)
IsCall number (steps.Gate file) e call = ((at : ℕ) × (bytes : List ℕ) × (call ≡ WriteAt number at bytes (Err e))) ⊎ (call ≡ Sync number (Err e))

-- the file isn't open
abbrev pub IsShut : Number → Error → Type 0
IsShut number e = (error_kind e ≡ kinds.NotFound) × (number ≡ None)

-- it isn't; or no file has so many bytes, or the system took none of them, or was interrupted again and again
abbrev pub IsUnwritten : Number → Error → Calls → Type 0
IsUnwritten number e calls =
    IsShut number e ⊎ (error_kind e ≡ kinds.InvalidInput) ⊎ (error_kind e ≡ kinds.Interrupted)
    ⊎ ((error_kind e ≡ kinds.WriteZero) × ((at : ℕ) × (bytes : List ℕ) × (mid : Calls) × (calls ≡ then (WriteAt number at bytes (Ok 0)) mid)))

-- it isn't; or a sync of it failed before
abbrev pub IsUnsynced : Number → Error → Type 0
IsUnsynced number e = IsShut number e ⊎ (error_kind e ≡ kinds.Other)

-- The machine's own error at a step, for which no call of the system failed: the name of the second file is too long, what was examined last is no
-- regular file, there was no memory to listen, nothing listens, or as above. Other steps have none.
abbrev pub IsOwn : Number → Step → Error → Calls → Type 0
IsOwn number (steps.Open file) e calls = (error_kind e ≡ kinds.InvalidFilename) × (file ≡ 1)
IsOwn number (steps.Kind file) e calls =
    (error_kind e ≡ kinds.Unsupported) × ((opened : Number) × (stat : Stat) × (mid : Calls) × (stat.is_file ≡ false) × (calls ≡ then (Examine opened (Ok stat)) mid))
IsOwn number (steps.Lock file) e calls = ⊥
IsOwn number (steps.Settle file) e calls = ⊥
IsOwn number steps.Folder e calls = ⊥
IsOwn number steps.Listen e calls = error_kind e ≡ kinds.OutOfMemory
IsOwn number steps.Accept e calls = (error_kind e ≡ kinds.NotConnected) × (number ≡ None)
IsOwn number (steps.Size file) e calls = IsShut number e
IsOwn number (steps.Read file) e calls = IsShut number e ⊎ (error_kind e ≡ kinds.Interrupted)
IsOwn number (steps.Write file) e calls = IsUnwritten number e calls
IsOwn number (steps.Sync file) e calls = IsUnsynced number e
IsOwn number (steps.Gate file) e calls = IsUnwritten number e calls ⊎ IsUnsynced number e

-- the last call that was made answered so; or the error has no number of the system, and is the machine's own
abbrev pub Ends : Number → Step → Error → Calls → Type 0
Ends number step e calls = ((raw_os_error e ≡ None) × IsOwn number step e calls) ⊎ ((call : Call) × (mid : Calls) × (calls ≡ then call mid) × IsCall number step e call)

-- a failure is told with its step and its error, and nothing else is
abbrev pub Tells : {T E : Type 0} → Number → Step → Result T E → Option Trouble → Option Trouble → Calls → Type 0
Tells number step (Ok x) was now calls = now ≡ was
Tells number step (Err f) was now calls = (e : Error) × (now ≡ Some (record { step = step; fault = e })) × Ends number step e calls

-- the same, where the step may be any
abbrev pub TellsOne : {T E : Type 0} → Number → Result T E → Option Trouble → Option Trouble → Calls → Type 0
TellsOne number (Ok x) was now calls = now ≡ was
TellsOne number (Err f) was now calls = (t : Trouble) × (now ≡ Some t) × Ends number t.step t.fault calls

-- what is noted of an answer
abbrev pub Notes : {T : Type 0} → Step → Result T Error → Option Trouble → Option Trouble → Type 0
Notes step (Ok x) was now = now ≡ was
Notes step (Err e) was now = now ≡ Some (record { step = step; fault = e })
