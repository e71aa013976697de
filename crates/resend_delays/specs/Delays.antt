-- How soon the same post goes out again.
use Rattle.std.specs.Prelude.{ℕ, ◌≡◌, ◌+◌, ◌*◌, ◌-◌, ◌⊎◌, Bool, Option, Some, None, min, bytes_eq, nat_le, List, [], ◌∷◌, ◌++◌, ◌/◌, ◌%◌, true, refl, if◌then◌else◌}
use Rattle.sha1.specs.Sha1.{sha1}
use Rattle.indexmap.specs.IndexMap.{get}
use Rattle.resend_delays.specs.declared.delays.Delay.{Delay}
use Rattle.resend_delays.specs.declared.delays.Delays.{Delays}

-- it went out first now
abbrev pub begun : ℕ → Delay
begun now = record { sent = now; wait = 5000 }

-- it may go out again, in milliseconds
abbrev pub is_over : ℕ → Delay → Bool
is_over now delay = nat_le (delay.sent + delay.wait) now

-- each wait is twice the one before, and none more than a minute
abbrev pub again : ℕ → Delay → Delay
again now delay = record { sent = now; wait = min (2 * delay.wait) 60000 }

-- Whether a post goes out of which this is known.
abbrev pub goes : ℕ → Option Delay → Bool
goes now None = true
goes now (Some delay) = is_over now delay

fourth : again 35000 (again 15000 (again 5000 (begun 0))) ≡ record { sent = 35000; wait = 40000 }
fourth = refl

longest : again 9 (again 8 (again 7 (again 6 (begun 5)))) ≡ record { sent = 9; wait = 60000 }
longest = refl

abbrev pub either : Option Delay → Option Delay → Option Delay
either None second = second
either (Some delay) second = Some delay

-- What is known of a post that is known by this mark.
abbrev pub known : Delays → List ℕ → Option Delay
known delays mark = either (get bytes_eq delays.recent mark) (get bytes_eq delays.earlier mark)

-- the same now, where what nobody asked about for two minutes is forgotten
abbrev pub kept : ℕ → Delays → List ℕ → Option Delay
kept now delays mark = if nat_le 120000 (now - delays.turned) then get bytes_eq delays.recent mark else known delays mark

abbrev pub next : ℕ → Option Delay → Delay
next now None = begun now
next now (Some delay) = again now delay

-- it is noted that the post went out, or there was no room for that
abbrev pub IsNoted : ℕ → Option Delay → Option Delay → Type 0
IsNoted now before behind = (behind ≡ Some (next now before)) ⊎ (behind ≡ before)

-- A post is known by the SHA-1 of its host, its port in two bytes, and its bytes.
abbrev pub mark_of : List ℕ → ℕ → List ℕ → List ℕ
mark_of host port bytes = sha1 (host ++ (port / 256 ∷ port % 256 ∷ []) ++ bytes)
