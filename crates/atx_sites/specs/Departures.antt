-- Which calls of the system are made on connections with bytes that leave.
use Rattle.std.specs.Prelude.{ℕ, Bool, true, false, List, Option, Vec, Some, None, Result, Ok, Err, IsErr, [], ◌∷◌, ◌++◌, ◌≡◌, ◌⊎◌, ◌+◌, ◌≤◌, ◌<◌, length, drop, filter, is_err, not, slice_get, slice_index_or, slice_set, remove, Contains}
use Rattle.std.specs.List.{sum_by}
use Rattle.std.specs.Duration.{as_nanos}
use Rattle.std.specs.declared.io.Error.{Error}
use Rattle.std.specs.declared.net.SocketAddr.{SocketAddr}
use Rattle.std.specs.declared.time.Duration.{Duration}
use Rattle.std.specs.declared.alloc.Global.{Global}
use Rattle.system_calls.specs.Calls.{Calls, Number, Answer, then}
use Rattle.system_calls.specs.Calls.Call.{Connect, Monotonic, Read, Resolve, ShutDown, Write}
use Rattle.atx_sites.specs.Deadlines.{has_passed}
use Rattle.atx_sites.specs.LinkCalls.{HasRead, ReadsClock}
use Rattle.atx_sites.specs.Names.{AreAnswered, MayReach}
use Rattle.atx_sites.specs.declared.outgoing.Outgoing.{Outgoing}
use Rattle.atx_sites.specs.declared.outgoing.Stage.{Stage}
use Rattle.atx_sites.specs.declared.resolved_names.Name.{Name}
use Rattle.atx_sites.specs.declared.outgoing.Stage.TheVariants as stages

-- The calls of one connection, from where `sent` of its bytes were taken: each write is of all that those before it didn't take.
-- Where an address took none of them, there is another connection, to another of the host's. Behind the last byte nothing more is
-- sent, and what comes is read. No other call is made.
pub data Leaves (addresses : List SocketAddr) (bytes : List ℕ) (stream : Number) (sent : ℕ) (old : Calls) : Number → ℕ → Calls → Type 0 where
  none : {s : Number} {k : ℕ} {new : Calls} → s ≡ stream → k ≡ sent → new ≡ old → Leaves addresses bytes stream sent old s k new
  took : {s : Number} {j k : ℕ} {mid new : Calls} (m : ℕ) → Leaves addresses bytes stream sent old s j mid → k ≡ j + m
      → new ≡ then (Write s (drop j bytes) (Ok m)) mid → Leaves addresses bytes stream sent old s k new
  failed : {s : Number} {k : ℕ} {mid new : Calls} (fault : Error) → Leaves addresses bytes stream sent old s k mid
      → new ≡ then (Write s (drop k bytes) (Err fault)) mid → Leaves addresses bytes stream sent old s k new
  connects : {s next : Number} {k : ℕ} {mid new : Calls} (address : SocketAddr) → Leaves addresses bytes stream sent old s k mid → k ≡ 0 → Contains addresses address
      → new ≡ then (Connect address (Ok next)) mid → Leaves addresses bytes stream sent old next k new
  unreached : {s : Number} {k : ℕ} {mid new : Calls} (address : SocketAddr) (fault : Error) → Leaves addresses bytes stream sent old s k mid → k ≡ 0
      → Contains addresses address → new ≡ then (Connect address (Err fault)) mid → Leaves addresses bytes stream sent old s k new
  shuts : {s : Number} {k : ℕ} {mid new : Calls} (got : Answer (Unit {0})) → Leaves addresses bytes stream sent old s k mid → length bytes ≤ k
      → new ≡ then (ShutDown s got) mid → Leaves addresses bytes stream sent old s k new
  reads : {s : Number} {k : ℕ} {mid new : Calls} (got : Answer (List ℕ)) → Leaves addresses bytes stream sent old s k mid → length bytes ≤ k
      → new ≡ then (Read s got) mid → Leaves addresses bytes stream sent old s k new

-- the same, of a connection whose calls so far were such ones: they still are
abbrev pub Goes : List SocketAddr → List ℕ → Number → ℕ → Calls → Number → ℕ → Calls → Type 0
Goes addresses bytes from sent old to now new =
    (stream : Number) (k : ℕ) (first : Calls) → Leaves addresses bytes stream k first from sent old → Leaves addresses bytes stream k first to now new

-- connections to some of these addresses were begun in vain, any number
pub data Unreached (addresses : List SocketAddr) (old : Calls) : Calls → Type 0 where
  none : {new : Calls} → new ≡ old → Unreached addresses old new
  again : {mid new : Calls} (address : SocketAddr) (fault : Error) → Unreached addresses old mid → Contains addresses address
      → new ≡ then (Connect address (Err fault)) mid → Unreached addresses old new

-- and then one is begun, or none
abbrev pub Begins : {C : Type 0} → (C → Number) → List SocketAddr → Option C → Calls → Calls → Type 0
Begins number addresses (Some stream) old new =
    (mid : Calls) × Unreached addresses old mid × ((address : SocketAddr) × Contains addresses address × (new ≡ then (Connect address (Ok (number stream))) mid))
Begins number addresses None old new = Unreached addresses old new

-- nothing more is to be done; and of these, those of which not all bytes were taken
abbrev pub is_last : Stage → Bool
is_last stages.Over = true
is_last stages.Lost = true
is_last stage = false

abbrev pub is_loss : Stage → Bool
is_loss stages.Lost = true
is_loss stage = false

abbrev pub is_over : {C : Type 0} → Outgoing C → Bool
is_over outgoing = is_last outgoing.stage

abbrev pub is_lost : {C : Type 0} → Outgoing C → Bool
is_lost outgoing = is_loss outgoing.stage

-- it has 5 seconds at most from then on
abbrev pub HasFive : {C : Type 0} → Duration → Outgoing C → Type 0
HasFive at outgoing = as_nanos outgoing.ends ≤ as_nanos at + 5_000_000_000

-- by a clock that was read
abbrev pub IsTimed : {C : Type 0} → Calls → Outgoing C → Type 0
IsTimed calls outgoing = (at : Duration) × HasRead at calls × HasFive at outgoing

-- how many stages it has behind it
abbrev pub rank : Stage → ℕ
rank stages.Connecting = 0
rank stages.Sending = 1
rank stages.Ending = 2
rank stage = 3

-- its time is as before; or it came to a later stage, and has 5 seconds from now on
abbrev pub StaysInTime : {C : Type 0} → Duration → Outgoing C → Outgoing C → Type 0
StaysInTime now before after = (after.ends ≡ before.ends) ⊎ ((rank before.stage < rank after.stage) × HasFive now after)

-- by a clock that reads so; and where it isn't over, its time is to come
abbrev pub GoesInTime : {C : Type 0} → Duration → Outgoing C → Outgoing C → Type 0
GoesInTime now before after = StaysInTime now before after × (is_over after ≡ false → has_passed now after.ends ≡ false)

-- one connection went on by a clock that reads so: its bytes and its host's addresses stay
abbrev pub Went : {C : Type 0} → (C → Number) → Duration → Outgoing C → Calls → Outgoing C → Calls → Type 0
Went number now before old after new =
    Leaves before.addresses.items before.bytes.items (number before.stream) before.done old (number after.stream) after.done new
    × (after.bytes ≡ before.bytes) × (after.addresses ≡ before.addresses) × GoesInTime now before after

-- the one at a place went on
abbrev pub WentAt : {C : Type 0} → (C → Number) → Duration → ℕ → List (Outgoing C) → Calls → List (Outgoing C) → Calls → Type 0
WentAt {C = C} number now place befores old afters new =
    (before : Outgoing C) × (after : Outgoing C) × (before ≡ slice_index_or befores place before) × Went number now before old after new × (afters ≡ slice_set befores place after)

-- each of them went on, one behind the other
pub data Advances {C : Type 0} (number : C → Number) (now : Duration) (old : Calls) : List (Outgoing C) → List (Outgoing C) → Calls → Type 0 where
  none : {befores afters : List (Outgoing C)} {new : Calls} → befores ≡ [] → afters ≡ [] → new ≡ old → Advances number now old befores afters new
  next : {befores afters front went : List (Outgoing C)} {mid new : Calls} (before after : Outgoing C) → Advances number now old front went mid → Went number now before mid after new
      → befores ≡ front ++ before ∷ [] → afters ≡ went ++ after ∷ [] → Advances number now old befores afters new

-- the time of each is to come, by a clock that was read since then
abbrev pub IsOnTime : {C : Type 0} → Calls → Calls → Outgoing C → Type 0
IsOnTime start new outgoing = (now : Duration) × ReadsClock now start new × (has_passed now outgoing.ends ≡ false)

-- some of them were left out, and the others are in their order
pub data IsPart {X : Type 0} (all : List X) : List X → Type 0 where
  none : {part : List X} → part ≡ all → IsPart all part
  less : {mid part : List X} (i : ℕ) → IsPart all mid → part ≡ remove mid i → IsPart all part

-- the first address of its host, by which the host is known; an answer has none
abbrev pub host_of : {C : Type 0} → Outgoing C → Option SocketAddr
host_of outgoing = slice_get outgoing.addresses.items 0

abbrev pub weight : {C : Type 0} → Outgoing C → ℕ
weight outgoing = length outgoing.bytes.items

-- the test passes no host but that one
abbrev pub Tests : Option SocketAddr → (Option SocketAddr → Bool) → Type 0
Tests host test = (h : Option SocketAddr) → test h ≡ true → h ≡ host

-- how many go to a host that the test passes
abbrev pub number_to : {C : Type 0} → (Option SocketAddr → Bool) → List (Outgoing C) → ℕ
number_to test leaving = length (filter (λ o. test (host_of o)) leaving)

-- they are 1,024 at most, with 16,777,216 bytes in all, and 64 at most go to one host
abbrev pub Within : {C : Type 0} → List (Outgoing C) → Type 0
Within leaving =
    (length leaving ≤ 1_024) × (sum_by weight leaving ≤ 16_777_216)
    × ((host : SocketAddr) (test : Option SocketAddr → Bool) → Tests (Some host) test → number_to test leaving ≤ 64)

-- where there is room, there is some for one more, with so many bytes
abbrev pub HasRoom : {C : Type 0} → Bool → ℕ → List (Outgoing C) → Type 0
HasRoom room bytes leaving = room ≡ true → (length leaving < 1_024) × (sum_by weight leaving + bytes ≤ 16_777_216)

-- and one more may go to that host
abbrev pub HasShare : {C : Type 0} → Option SocketAddr → Bool → List (Outgoing C) → Type 0
HasShare host room leaving = room ≡ true → (test : Option SocketAddr → Bool) → Tests host test → number_to test leaving < 64

-- a post's connection was begun, to one of these addresses
abbrev pub IfBegun : {C : Type 0} → (C → Number) → Duration → List SocketAddr → List ℕ → Option (Outgoing C) → Calls → Calls → Type 0
IfBegun number now addresses bytes (Some begun) old new =
    Begins number addresses (Some begun.stream) old new × (begun.addresses.items ≡ addresses) × (begun.bytes.items ≡ bytes) × (begun.done ≡ 0) × HasFive now begun
IfBegun number now addresses bytes None old new = Unreached addresses old new

-- whether so many bytes were taken of all
abbrev pub IfOut : Bool → ℕ → ℕ → Type 0
IfOut true all taken = all ≤ taken
IfOut false all taken = taken < all

-- one of which so many bytes were taken is closed: that is a failure where there are more
abbrev pub Closes : {T E : Type 0} → Result T E → ℕ → ℕ → Type 0
Closes result all taken = IfOut (not (is_err result)) all taken

-- it stands behind the others, or it is closed
abbrev pub Joins : {C E : Type 0} → Result (Unit {0}) E → Outgoing C → List (Outgoing C) → List (Outgoing C) → Type 0
Joins result outgoing others all =
    ((is_err result ≡ false) × (is_over outgoing ≡ false) × (all ≡ others ++ outgoing ∷ [])) ⊎ ((all ≡ others) × Closes result (length outgoing.bytes.items) outgoing.done)

-- one more went on as far as it could, and stands behind the others unless it is closed
abbrev pub Starts : {C E : Type 0} → (C → Number) → Duration → Outgoing C → Calls → Result (Unit {0}) E → List (Outgoing C) → List (Outgoing C) → Calls → Type 0
Starts {C = C} number now before old result others all new = (after : Outgoing C) × Went number now before old after new × Joins result after others all

-- these bytes are posted to one of these addresses, where one more has room
abbrev pub PostsTo : {C E : Type 0} → (C → Number) → List SocketAddr → List ℕ → List (Outgoing C) → Calls → Result (Unit {0}) E → List (Outgoing C) → Calls → Type 0
PostsTo {C = C} number addresses bytes before old result after new =
    (others : List (Outgoing C)) × IsPart before others
    × ((IsErr result × (after ≡ others) × Unreached addresses old new)
    ⊎ ((now : Duration) × HasRead now old × (begun : Outgoing C) × (mid : Calls) × IfBegun number now addresses bytes (Some begun) old mid × Starts number now begun mid result others after new))

-- the clock is read, and a host is looked up
pub data Looks (host : List ℕ) (port : ℕ) (old : Calls) : Calls → Type 0 where
  none : {new : Calls} → new ≡ old → Looks host port old new
  clock : {mid new : Calls} (got : Answer Duration) → Looks host port old mid → new ≡ then (Monotonic got) mid → Looks host port old new
  resolves : {mid new : Calls} (got : Answer (List SocketAddr)) → Looks host port old mid → new ≡ then (Resolve host port got) mid → Looks host port old new

-- a host without the brackets of an IPv6 address, or as it is
abbrev pub IsBare : List ℕ → List ℕ → Type 0
IsBare host bare = (bare ≡ host) ⊎ (host ≡ 91 ∷ bare ++ 93 ∷ [])

-- these bytes are posted, where the addresses of that host are known or it is looked up, at that port. Where the names that are
-- kept were answered, so were these addresses, less than 60 seconds ago
abbrev pub Posts : {C E : Type 0} → (C → Number) → List Name → List ℕ → ℕ → List ℕ → List (Outgoing C) → Calls → Result (Unit {0}) E → List (Outgoing C) → Calls → Type 0
Posts number names host port bytes before old result after new =
    (bare : List ℕ) × IsBare host bare × (addresses : List SocketAddr) × (looked : Calls) × Looks bare port old looked
    × (AreAnswered old names → MayReach bare port addresses old looked) × PostsTo number addresses bytes before looked result after new

-- what is left of an answer is taken over with its connection, where one more has room
abbrev pub Answers : {C : Type 0} → (C → Number) → C → Vec ℕ Global → ℕ → List (Outgoing C) → Calls → Result (Unit {0}) Error → List (Outgoing C) → Calls → Type 0
Answers {C = C} number stream bytes sent before old result after new =
    (others : List (Outgoing C)) × IsPart before others × (mid : Calls) × ((got : Answer Duration) × (mid ≡ then (Monotonic got) old))
    × (((after ≡ others) × (new ≡ mid) × Closes result (length bytes.items) sent)
    ⊎ ((now : Duration) × ReadsClock now old mid × (begun : Outgoing C) × (begun.stream ≡ stream) × (begun.bytes ≡ bytes) × (begun.done ≡ sent) × HasFive now begun
    × Starts number now begun mid result others after new))
