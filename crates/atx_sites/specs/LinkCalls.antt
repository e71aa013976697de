-- Which calls of the system a machine makes on its listener and its connections.
use Rattle.std.specs.Prelude.{ℕ, ℤ, pos, Bool, List, Option, Some, None, Result, Ok, Err, [], ◌++◌, ◌≡◌, ◌+◌, ◌⊎◌, true, false, drop}
use Rattle.std.specs.Int.Signed.{le_z}
use Rattle.std.specs.declared.io.Error.{Error}
use Rattle.std.specs.declared.net.SocketAddr.{SocketAddr}
use Rattle.std.specs.declared.time.Duration.{Duration}
use Rattle.system_calls.specs.Calls.{Call, Calls, Number, then}
use Rattle.system_calls.specs.Calls.Call.{Accept, Listen, Monotonic, Poll, Read, Write}
use Rattle.libc.specs.declared.types.pollfd.{pollfd}

abbrev pub number_at : {L : Type 0} → (L → Number) → Option L → Number
number_at number (Some listener) = number listener
number_at number None = None

-- it listens at that address
abbrev pub Listens : List ℕ → Number → Calls → Calls → Type 0
Listens address listener old new = new ≡ then (Listen address (Ok listener)) old

abbrev pub IfListens : {E : Type 0} → List ℕ → Result (Unit {0}) E → Number → Calls → Calls → Type 0
IfListens address (Ok done) listener old new = Listens address listener old new
IfListens address (Err fault) listener old new = Unit {0}

-- some calls more, of any kind
pub data Later (old : Calls) : Calls → Type 0 where
  none : {new : Calls} → new ≡ old → Later old new
  more : {mid new : Calls} (call : Call) → Later old mid → new ≡ then call mid → Later old new

-- the clock was read so, at some time
abbrev pub HasRead : Duration → Calls → Type 0
HasRead now calls = (mid : Calls) × (next : Calls) × (next ≡ then (Monotonic (Ok now)) mid) × Later next calls

-- and since then
abbrev pub ReadsClock : Duration → Calls → Calls → Type 0
ReadsClock now old new = (mid : Calls) × (next : Calls) × Later old mid × (next ≡ then (Monotonic (Ok now)) mid) × Later next new

-- poll waits for nothing, 100 milliseconds
abbrev pub Pauses : Calls → Calls → Type 0
Pauses old new = (found : List pollfd) × (count : ℤ) × (new ≡ then (Poll [] (pos 100) found count) old)

-- poll is asked, and whether it didn't fail
abbrev pub Polls : List pollfd → ℤ → List pollfd → Bool → Calls → Calls → Type 0
Polls asks millis found done old new = (count : ℤ) × (new ≡ then (Poll asks millis found count) old) × (le_z (pos 0) count ≡ done)

-- where it fails it is asked again, and where it fails again it pauses
abbrev pub Looks : List pollfd → ℤ → List pollfd → Calls → Calls → Type 0
Looks asks millis found old new =
    Polls asks millis found true old new
    ⊎ ((looked : List pollfd) × (mid : Calls) × Polls asks millis looked false old mid
    × (Polls looked millis found true mid new ⊎ ((late : Calls) × Polls looked millis found false mid late × Pauses late new)))

-- a connection that accept on the listener gave, with the address that it comes from, and the bytes that reads of it gave since, in
-- order, each once. Other calls may stand between
pub data Came (listener : Number) (stream : Number × SocketAddr) : List ℕ → Calls → Type 0 where
  accepted : {bytes : List ℕ} {new : Calls} (mid : Calls) → bytes ≡ [] → new ≡ then (Accept listener (Ok stream)) mid
      → Came listener stream bytes new
  read : {front bytes : List ℕ} {mid new : Calls} (got : List ℕ) → Came listener stream front mid → bytes ≡ front ++ got
      → new ≡ then (Read stream.0 (Ok got)) mid → Came listener stream bytes new
  beside : {bytes : List ℕ} {mid new : Calls} (call : Call) → Came listener stream bytes mid → new ≡ then call mid → Came listener stream bytes new

-- so many of the bytes were taken: each write on the connection is of all that those before it didn't take, and no other call is made
pub data Sending (stream : Number) (bytes : List ℕ) (old : Calls) : ℕ → Calls → Type 0 where
  none : {k : ℕ} {new : Calls} → k ≡ 0 → new ≡ old → Sending stream bytes old k new
  took : {k j : ℕ} {mid new : Calls} (m : ℕ) → Sending stream bytes old k mid → j ≡ k + m
      → new ≡ then (Write stream (drop k bytes) (Ok m)) mid → Sending stream bytes old j new
  failed : {k : ℕ} {mid new : Calls} (fault : Error) → Sending stream bytes old k mid
      → new ≡ then (Write stream (drop k bytes) (Err fault)) mid → Sending stream bytes old k new

-- so many were taken, or some
abbrev pub Sends : {E : Type 0} → Number → List ℕ → Result ℕ E → Calls → Calls → Type 0
Sends stream bytes (Ok n) old new = Sending stream bytes old n new
Sends stream bytes (Err fault) old new = (k : ℕ) × Sending stream bytes old k new
