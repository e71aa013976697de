-- Posts that are held back.
use Rattle.std.specs.Prelude.{ℕ, List, Bool, true, false, Result, is_err, ◌≡◌, ◌⊎◌, ◌/◌, ◌^◌, ◌*◌, ◌+◌, ◌-◌, min, Ok, Err}
use Rattle.std.specs.declared.time.Duration.{Duration}
use Rattle.resend_delays.specs.Delays.{goes, kept, mark_of}
use Rattle.resend_delays.specs.declared.delays.Delays.{Delays}
use Rattle.system_calls.specs.Calls.{Answer, Calls, Number, then}
use Rattle.system_calls.specs.Calls.Call.{Monotonic}
use Rattle.atx_sites.specs.Departures.{Posts}
use Rattle.atx_sites.specs.declared.outgoing.Outgoing.{Outgoing}
use Rattle.atx_sites.specs.declared.resolved_names.Name.{Name}

abbrev pub nanos_of : Duration → ℕ
nanos_of time = time.secs * 1000000000 + (min time.nanos 999999999)

-- a time in whole milliseconds; the most that a number of 64 bits says, where it has more
abbrev pub IsMillis : Duration → ℕ → Type 0
IsMillis time millis = millis ≡ min (nanos_of time / 1000000) (2 ^ 64 - 1)

-- The clock is read, or it fails, or nothing is done. Where the post is held, by that clock the same went out a shorter time ago than
-- its delay.
abbrev pub IfHeld : Bool → List ℕ → ℕ → List ℕ → Delays → Calls → Calls → Type 0
IfHeld true host port bytes delays old new =
    (time : Duration) × (new ≡ then (Monotonic (Ok time)) old) × ((now : ℕ) × IsMillis time now × (goes now (kept now delays (mark_of host port bytes)) ≡ false))
IfHeld false host port bytes delays old new = (new ≡ old) ⊎ ((got : Answer Duration) × (new ≡ then (Monotonic got) old))

-- Nothing is sent, and nothing else is changed; or the bytes are posted.
abbrev pub PostsOrHolds : {C E : Type 0} → (C → Number) → List Name → List ℕ → ℕ → List ℕ → Delays → List (Outgoing C) → Calls → Result (Unit {0}) E → List (Outgoing C) → Calls → Type 0
PostsOrHolds number names host port bytes delays before old result after new =
    ((is_err result ≡ false) × (after ≡ before) × IfHeld true host port bytes delays old new) ⊎ Posts number names host port bytes before old result after new

-- what the clock was read as, in milliseconds; 0 where it couldn't be
abbrev pub IsTime : Answer Duration → ℕ → Type 0
IsTime (Ok time) millis = IsMillis time millis
IsTime (Err fault) millis = millis ≡ 0

-- the clock is read, and nothing else is done
abbrev pub TellsTime : ℕ → Calls → Calls → Type 0
TellsTime millis old new = (got : Answer Duration) × (new ≡ then (Monotonic got) old) × IsTime got millis
