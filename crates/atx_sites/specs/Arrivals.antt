-- What is known of connections that are read aside.
use Rattle.std.specs.Prelude.{ℕ, List, Bool, Option, Some, None, Result, Ok, Err, All, [], ◌++◌, ◌≡◌, ◌≤◌, ◌+◌, ◌⊎◌, ◌&&◌, ◌||◌, true, false, length, take, drop, is_err, not, nat_eq, nat_lt}
use Rattle.std.specs.List.{sum_by}
use Rattle.std.specs.declared.net.SocketAddr.{SocketAddr}
use Rattle.system_calls.specs.Calls.{Calls, Number, came}
use Rattle.atx_sites.specs.LinkCalls.{Came, Sending, number_at}
use Rattle.std.specs.declared.time.Duration.{Duration}
use Rattle.atx_sites.specs.Deadlines.{has_passed}
use Rattle.atx_sites.specs.declared.arriving.Arriving.{Arriving}
use Rattle.atx_sites.specs.declared.arriving.Rest.{Rest}
use Rattle.atx_sites.specs.declared.arriving.Rest.TheVariants as rests
use Rattle.atx_sites.specs.declared.framing.Stage.{Stage}
use Rattle.atx_sites.specs.declared.framing.Stage.TheVariants as stages
use Rattle.atx_sites.specs.declared.connection.Connection.{Connection}
use Rattle.atx_sites.specs.declared.connection.Served.{Served}

abbrev pub is_more : Rest → Bool
is_more rests.More = true
is_more rest = false

-- nothing more of its request is wanted: it is whole, or refused by what is there, or a web page's
abbrev pub is_read : Stage → Bool
is_read stages.Whole = true
is_read stages.Foreign = true
is_read stage = false

-- more of it is to be read aside
abbrev pub is_coming : {C : Type 0} → Arriving C → Bool
is_coming arriving = is_more arriving.rest && not (is_read arriving.progress.stage) && nat_lt (length arriving.bytes.items) 131_072

-- its turn may come: its request is in, it ended or failed, it has as many bytes as it may, or its time is over
abbrev pub is_ready : {C : Type 0} → Duration → Arriving C → Bool
is_ready now arriving = not (is_coming arriving) || has_passed now arriving.ends

-- its time is over, and nothing came
abbrev pub is_silent : {C : Type 0} → Duration → Arriving C → Bool
is_silent now arriving = is_more arriving.rest && nat_eq (length arriving.bytes.items) 0 && has_passed now arriving.ends

-- its client waits for the interim line, which has 25 bytes and of which some isn't out, and more of it is to come
abbrev pub is_due : {C : Type 0} → Arriving C → Bool
is_due arriving = arriving.progress.waits && nat_lt arriving.said 25 && is_coming arriving

-- it is the same connection from the same address, and has the same time
abbrev pub Stays : {C : Type 0} → Arriving C → Arriving C → Type 0
Stays before after = (after.stream ≡ before.stream) × (after.ends ≡ before.ends) × (after.peer ≡ before.peer)

-- it came, from that address, and its bytes are those that its reads gave
abbrev pub HasCome : {C : Type 0} → (C → Number) → Number → Calls → Arriving C → Type 0
HasCome number listener calls arriving = Came listener (number arriving.stream, arriving.peer) arriving.bytes.items calls

-- each of them did
abbrev pub HaveCome : {C : Type 0} → (C → Number) → Number → Calls → List (Arriving C) → Type 0
HaveCome number listener calls arrivals = All (HasCome number listener calls) arrivals

abbrev pub size_of : {C : Type 0} → Arriving C → ℕ
size_of arriving = length arriving.bytes.items

-- they are 1,024 at most, with 67,108,864 bytes in all, and each has 131,072 at most
abbrev pub Bounded : {C : Type 0} → List (Arriving C) → Type 0
Bounded arrivals = (length arrivals ≤ 1_024) × (sum_by size_of arrivals ≤ 67_108_864) × All (λ a. size_of a ≤ 131_072) arrivals

-- one that was accepted, if any
abbrev pub IfCame : {C E : Type 0} → (C → Number) → Number → Calls → Result (Option (C × SocketAddr)) E → Type 0
IfCame number listener calls (Ok (Some accepted)) = Came listener (came number accepted) [] calls
IfCame number listener calls (Ok None) = Unit {0}
IfCame number listener calls (Err fault) = Unit {0}

-- they are those of before, and maybe more
abbrev pub Grows : List ℕ → List ℕ → Type 0
Grows old new = (more : List ℕ) × (new ≡ old ++ more)

-- of the connection that is served, if one is
abbrev pub ServedCame : {C : Type 0} → (C → Number) → Number → Calls → Option (Served C) → Type 0
ServedCame number listener calls (Some served) = HasCome number listener calls served.arriving
ServedCame number listener calls None = Unit {0}

-- the address from which it comes
abbrev pub IsPeer : {C : Type 0} → Option SocketAddr → Option (Served C) → Type 0
IsPeer peer (Some served) = peer ≡ Some served.arriving.peer
IsPeer peer None = peer ≡ None

-- bytes that are given are the next of those that were read, of which none is lost
abbrev pub Gives : {C E : Type 0} → List ℕ → Result ℕ E → Option (Served C) → Option (Served C) → Type 0
Gives buf (Ok n) (Some old) (Some new) =
    Grows old.arriving.bytes.items new.arriving.bytes.items × (take n buf ≡ take n (drop old.given new.arriving.bytes.items)) × (new.given ≡ old.given + n)
Gives buf (Err fault) (Some old) (Some new) = Grows old.arriving.bytes.items new.arriving.bytes.items × (new.given ≡ old.given)
Gives buf (Ok n) None new = ⊥
Gives buf (Err fault) None new = new ≡ None
Gives buf result (Some old) None = ⊥

-- of the bytes so many were sent at once, and the others are kept behind those that were kept before; where some were, none
-- is sent at once
abbrev pub Keeps : {C E : Type 0} → (C → Number) → List ℕ → Result (Unit {0}) E → Served C → Served C → Calls → Calls → Type 0
Keeps number bytes (Ok done) old new before now =
    (new.arriving ≡ old.arriving) × ((k : ℕ) × Sending (number old.arriving.stream) bytes before k now
    × (new.unsent.items ≡ old.unsent.items ++ drop k bytes) × ((k ≡ 0) ⊎ (length old.unsent.items ≡ 0)))
Keeps number bytes (Err fault) old new before now =
    (new.arriving ≡ old.arriving) × (new.unsent.items ≡ old.unsent.items) × ((k : ℕ) × Sending (number old.arriving.stream) bytes before k now)

-- behind a failure nothing more is sent
abbrev pub KeptOn : {C E : Type 0} → Bool → (C → Number) → List ℕ → Result (Unit {0}) E → Served C → Served C → Calls → Calls → Type 0
KeptOn true number bytes result old new before now = (new ≡ old) × (now ≡ before)
KeptOn false number bytes result old new before now = Keeps number bytes result old new before now × (new.is_cut ≡ is_err result)

-- on the connection that is served
abbrev pub KeepsOn : {C E : Type 0} → (C → Number) → List ℕ → Result (Unit {0}) E → Option (Served C) → Option (Served C) → Calls → Calls → Type 0
KeepsOn number bytes result (Some old) (Some new) before now = KeptOn old.is_cut number bytes result old new before now
KeepsOn number bytes result (Some old) None before now = ⊥
KeepsOn number bytes result None new before now = (new ≡ None) × (now ≡ before)

-- of all that wait and of the one that is served
abbrev pub ConnectionCame : {L C : Type 0} → (C → Number) → (L → Number) → Calls → Connection L C → Type 0
ConnectionCame number listens calls connection =
    HaveCome number (number_at listens connection.listener) calls connection.waiting.arriving.items
    × ServedCame number (number_at listens connection.listener) calls connection.served
