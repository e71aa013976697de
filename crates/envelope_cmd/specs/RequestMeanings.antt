-- What the bytes of a request say.
use Rattle.std.specs.Prelude.{ℕ, List, Some, Result, Ok, Err, ◌≡◌}
use Rattle.wire_msgs.specs.declared.decode.Arrival.{Arrival}
use Rattle.wire_msgs.specs.declared.refusal.Refusal.{Refusal}
use Rattle.wire_msgs.specs.Arrivals.{Arrives, IsRefused}
use Rattle.envelope_cmd.specs.Refusals.{refusal_line}

-- at this path they mean this message, or this is the first refusal that holds
abbrev pub Says : List ℕ → List ℕ → Result Arrival Refusal → Type 0
Says bytes path (Ok arrival) = Arrives bytes path arrival
Says bytes path (Err refusal) = IsRefused bytes path refusal

-- a message, or a refusal that says something of the bytes, as each does but want of memory
abbrev pub IsTold : Result Arrival Refusal → Type 0
IsTold (Ok a) = Unit {0}
IsTold (Err r) = (line : List ℕ) × (refusal_line r ≡ Some line)

-- at one path bytes say one thing
abbrev pub SayOneThing : Type 0
SayOneThing =
    (bytes path : List ℕ) (said other : Result Arrival Refusal) → Says bytes path said → Says bytes path other
    → IsTold said → IsTold other → said ≡ other
