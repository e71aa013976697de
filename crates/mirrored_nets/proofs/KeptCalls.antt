-- How many calls are kept at a stop at a call that has a fate.
use Rattle.std.specs.Prelude.{ℕ, List, [], ◌∷◌, ◌-◌, ◌≡◌, ◌≤◌, ◌<◌, Bool, true, false, if◌then◌else◌, length, suc, zero}
use Rattle.std.proofs.Common.{ap, arith, get_or, refl}
use Rattle.site_memory.specs.Entries.{call_of, mades}
use Rattle.site_memory.specs.declared.arm.Choice.{Choice}
use Rattle.site_memory.specs.declared.arm.Choice.TheVariants as choices
use Rattle.site_memory.specs.declared.entry.Entry.{Entry}
use Rattle.site_model.specs.Told.{Made}
use Rattle.mirrored_nets.specs.Kept.{is_write, kept_at, writes_at}

-- which of the calls are writes
pub write_found : (place : ℕ) (calls : List Entry) (x : Entry) → place < length calls → x ≡ get_or calls place x → is_write (call_of x.deed) ≡ writes_at place (mades calls)
write_found place [] x within is = absurd (omega (arith, within))
write_found zero (y ∷ ys) x within is = ap (λ (z : Entry). is_write (call_of z.deed)) is
write_found (suc place) (y ∷ ys) x within is = write_found place ys x (omega (arith, within)) is

pub none_writes : (place : ℕ) (calls : List Entry) → length calls ≤ place → false ≡ writes_at place (mades calls)
none_writes place [] past = refl
none_writes zero (y ∷ ys) past = absurd (omega (arith, past))
none_writes (suc place) (y ∷ ys) past = none_writes place ys (omega (arith, past))

-- no more than up to that call
pub kept_most : (made : List Made) (k : ℕ) (choice : Choice) → kept_at made k choice ≤ k
kept_most made k choices.Keep = omega arith
kept_most made k choices.Drop = omega arith
kept_most made k (choices.Fill byte) = by (writes_at (k - 1) made)
  where
    by : (b : Bool) → (if b then k else k - 1) ≤ k
    by true = omega arith
    by false = omega arith
