-- What becomes of connections that are read aside, and for how long they may be.
use Rattle.std.specs.Prelude.{ℕ, List, Option, Some, None, Result, Ok, Err, All, [], ◌∷◌, ◌++◌, ◌≡◌, ◌≤◌, ◌<◌, ◌+◌, true, false, filter, length, min, not, slice_index_or, slice_set, remove}
use Rattle.std.specs.List.{sum_by}
use Rattle.std.specs.Duration.{as_nanos, max_nanos}
use Rattle.std.specs.declared.time.Duration.{Duration}
use Rattle.system_calls.specs.Calls.{Calls}
use Rattle.atx_sites.specs.Arrivals.{Stays, is_coming, is_ready, is_silent, size_of}
use Rattle.atx_sites.specs.Departures.{IsOnTime}
use Rattle.atx_sites.specs.LinkCalls.{HasRead, Later, ReadsClock}
use Rattle.atx_sites.specs.declared.arriving.Arriving.{Arriving}
use Rattle.atx_sites.specs.declared.connection.Served.{Served}
use Rattle.atx_sites.specs.declared.outgoing.Outgoing.{Outgoing}

-- it has 10 seconds from then on; less only where the type's last time is nearer
abbrev pub HasTen : {C : Type 0} → Duration → Arriving C → Type 0
HasTen at arriving = as_nanos arriving.ends ≡ min (as_nanos at + 10_000_000_000) max_nanos

-- by a clock that was read
abbrev pub IsTimed : {C : Type 0} → Calls → Arriving C → Type 0
IsTimed calls arriving = (at : Duration) × HasRead at calls × HasTen at arriving

-- From these some went on; those whose time was over without a byte were closed; the turn of one came, which was ready; one was closed for room, which
-- wasn't, and one for bytes, of which more was to come; and others came. Each time is by a clock that was read since then. None is closed otherwise.
pub data Changes {C : Type 0} (first : List (Arriving C)) (start : Calls) : List (Arriving C) → Calls → Type 0 where
  none : {items : List (Arriving C)} {new : Calls} → items ≡ first → new ≡ start → Changes first start items new
  later : {items : List (Arriving C)} {mid new : Calls} → Changes first start items mid → Later mid new → Changes first start items new
  read : {items mid : List (Arriving C)} {new : Calls} (i : ℕ) (before after : Arriving C) → Changes first start mid new → i < length mid → before ≡ slice_index_or mid i before
      → Stays before after → items ≡ slice_set mid i after → Changes first start items new
  silent : {items mid : List (Arriving C)} {new : Calls} (now : Duration) → Changes first start mid new → ReadsClock now start new
      → items ≡ filter (λ a. not (is_silent now a)) mid → Changes first start items new
  turn : {items mid : List (Arriving C)} {new : Calls} (now : Duration) (i : ℕ) (a : Arriving C) → Changes first start mid new → ReadsClock now start new
      → a ≡ slice_index_or mid i a → is_ready now a ≡ true → items ≡ remove mid i → Changes first start items new
  crowded : {items mid : List (Arriving C)} {new : Calls} (now : Duration) (i : ℕ) (a : Arriving C) → Changes first start mid new → ReadsClock now start new
      → 1_024 ≤ length mid → a ≡ slice_index_or mid i a → is_ready now a ≡ false → items ≡ remove mid i → Changes first start items new
  heavy : {items mid : List (Arriving C)} {new : Calls} (i : ℕ) (a : Arriving C) → Changes first start mid new
      → 67_108_864 ≤ sum_by size_of mid → a ≡ slice_index_or mid i a → is_coming a ≡ true → items ≡ remove mid i → Changes first start items new
  came : {items mid : List (Arriving C)} {new : Calls} (now : Duration) (a : Arriving C) → Changes first start mid new → ReadsClock now start new → HasTen now a
      → items ≡ mid ++ a ∷ [] → Changes first start items new

-- By a clock that was read since then, the one whose turn came was ready, and of the others none is left whose time is over without a byte.
abbrev pub IsInTime : {C : Type 0} → Arriving C → List (Arriving C) → Calls → Calls → Type 0
IsInTime taken others old new = (now : Duration) × ReadsClock now old new × (is_ready now taken ≡ true) × All (λ a. is_silent now a ≡ false) others

-- the same, where a connection is served
abbrev pub IfInTime : {T C E : Type 0} → Result T E → Option (Served C) → List (Arriving C) → Calls → Calls → Type 0
IfInTime (Ok done) (Some served) others old new = IsInTime served.arriving others old new
IfInTime (Ok done) None others old new = Unit {0}
IfInTime (Err fault) served others old new = Unit {0}

-- then no time is over of those that leave either
abbrev pub IfAllOnTime : {T C E : Type 0} → Result T E → Option (Served C) → List (Outgoing C) → Calls → Calls → Type 0
IfAllOnTime (Ok done) (Some served) leaving old new = All (IsOnTime old new) leaving
IfAllOnTime (Ok done) None leaving old new = Unit {0}
IfAllOnTime (Err fault) served leaving old new = Unit {0}
