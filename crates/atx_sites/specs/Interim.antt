-- The interim line, and which calls of the system are made for it.
use Rattle.std.specs.Prelude.{ℕ, zero, suc, List, Ok, Err, ◌++◌, ◌≡◌, ◌⊎◌, ◌+◌, false, true, drop, codes, [], ◌∷◌}
use Rattle.system_calls.specs.Calls.{Answer, Calls, Number, then}
use Rattle.system_calls.specs.Calls.Call.{Read, Write}
use Rattle.atx_sites.specs.Arrivals.{is_due}
use Rattle.atx_sites.specs.declared.arriving.Arriving.{Arriving}

-- 100 Continue, and the empty line (RFC 9110, section 15.2.1)
abbrev pub interim : List ℕ
interim = codes "HTTP/1.1 100 Continue" ++ 13 ∷ 10 ∷ 13 ∷ 10 ∷ []

-- reads of one connection, any number, and no other call
pub data Hears (stream : Number) (old : Calls) : Calls → Type 0 where
  none : {new : Calls} → new ≡ old → Hears stream old new
  more : {mid new : Calls} (got : Answer (List ℕ)) → Hears stream old mid → new ≡ then (Read stream got) mid → Hears stream old new

-- how many bytes were taken
abbrev pub taken_by : Answer ℕ → ℕ
taken_by (Ok n) = n
taken_by (Err fault) = 0

-- what is left of the line was handed over once
abbrev pub Says : {C : Type 0} → (C → Number) → Arriving C → Arriving C → Calls → Calls → Type 0
Says number before after old new =
    (got : Answer ℕ) × (new ≡ then (Write (number before.stream) (drop before.said interim) got) old) × (after.said ≡ before.said + taken_by got)

-- It was read, and nothing else was done. Where its client waits for the interim line then, of which some isn't out, what is left of that was
-- handed over, once; and else nothing was.
abbrev pub HearsAndSays : {C : Type 0} → (C → Number) → Arriving C → Arriving C → Calls → Calls → Type 0
HearsAndSays {C = C} number before after old new =
    (heard : Arriving C) × (mid : Calls) × Hears (number before.stream) old mid × (heard.said ≡ before.said) × (heard.stream ≡ before.stream)
    × (((is_due heard ≡ false) × (after ≡ heard) × (new ≡ mid)) ⊎ ((is_due heard ≡ true) × Says number heard after mid new))

-- what goes out before an answer, where so many bytes of the line were taken
abbrev pub begun_of : ℕ → List ℕ
begun_of zero = []
begun_of (suc n) = drop (suc n) interim
