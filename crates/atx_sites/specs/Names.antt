-- To which addresses a host may be posted, and when they were answered.
use Rattle.std.specs.Prelude.{ℕ, List, [], ◌∷◌, ◌≡◌, ◌⊎◌, ◌+◌, ◌<◌, ◌≤◌, All, Ok, string_bytes}
use Rattle.std.specs.Duration.{as_nanos}
use Rattle.std.specs.Net.Grammar.{IsIpText}
use Rattle.std.specs.Net.Socket.{IsPlainSocket, socket_ip}
use Rattle.std.specs.declared.net.SocketAddr.{SocketAddr}
use Rattle.std.specs.declared.time.Duration.{Duration}
use Rattle.system_calls.specs.Calls.{Call, Calls, then}
use Rattle.system_calls.specs.Calls.Call.{Monotonic, Resolve}
use Rattle.atx_sites.specs.LinkCalls.{ReadsClock}
use Rattle.atx_sites.specs.declared.resolved_names.Name.{Name}

-- a host was answered these addresses at a port, and right behind that the clock read so. Other calls may stand behind both
pub data Answered (host : List ℕ) (port : ℕ) (addresses : List SocketAddr) (at : Duration) : Calls → Type 0 where
  read : {mid new : Calls} (old : Calls) → mid ≡ then (Resolve host port (Ok addresses)) old → new ≡ then (Monotonic (Ok at)) mid → Answered host port addresses at new
  beside : {mid new : Calls} (call : Call) → Answered host port addresses at mid → new ≡ then call mid → Answered host port addresses at new

-- a name that is kept has no address, or those that it was answered, until 60 seconds behind that
abbrev pub IsAnswered : Calls → Name → Type 0
IsAnswered calls name =
    (name.addresses.items ≡ [])
    ⊎ ((at : Duration) × Answered (string_bytes name.host) name.port name.addresses.items at calls × (as_nanos name.ends ≤ as_nanos at + 60_000_000_000))

abbrev pub AreAnswered : Calls → List Name → Type 0
AreAnswered calls names = All (IsAnswered calls) names

-- it is kept for that host and port, and its time isn't over
abbrev pub IsFor : List ℕ → ℕ → Duration → Name → Type 0
IsFor host port now name = (string_bytes name.host ≡ host) × (name.port ≡ port) × (as_nanos now < as_nanos name.ends)

-- the host was answered them at that port less than 60 seconds ago, by the clock as it was read in this call
abbrev pub IsFresh : List ℕ → ℕ → List SocketAddr → Calls → Calls → Type 0
IsFresh host port addresses old new =
    (at : Duration) × (now : Duration) × Answered host port addresses at new × ReadsClock now old new × (as_nanos now < as_nanos at + 60_000_000_000)

-- there is none, or it is that IP address itself, or they were answered
abbrev pub MayReach : List ℕ → ℕ → List SocketAddr → Calls → Calls → Type 0
MayReach host port addresses old new =
    (addresses ≡ [])
    ⊎ ((a : SocketAddr) × (addresses ≡ a ∷ []) × IsIpText host (socket_ip a) × IsPlainSocket a port)
    ⊎ IsFresh host port addresses old new

-- what looking a host up once gave
abbrev pub LookedUp : List ℕ → ℕ → List SocketAddr → Calls → Calls → Type 0
LookedUp host port addresses old new = (addresses ≡ []) ⊎ (new ≡ then (Resolve host port (Ok addresses)) old)
