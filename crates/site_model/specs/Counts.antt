-- Counts that never fall: of faults, of bytes given, of connections taken. A count that stands at 2^64 - 1 stays there.
use Rattle.std.specs.Prelude.{ℕ, ◌+◌, ◌-◌, ◌^◌, ◌≤◌, Result, OnErr, min}

abbrev pub capped : ℕ → ℕ
capped n = min n (2 ^ 64 - 1)

-- the count rose by one or more
abbrev pub Rose : ℕ → ℕ → Type 0
Rose before now = capped (before + 1) ≤ now

-- a call's failure has its cause in the count, which didn't fall
pub record HasCause {T E : Type 0} (before now : ℕ) (result : Result T E) : Type 0 where
  pub later : before ≤ now
  pub failed : OnErr result (Rose before now)

-- the count rose by n, as far as it can
pub record RisesBy (n before now : ℕ) : Type 0 where
  pub at_least : capped (before + n) ≤ now
  pub at_most : now ≤ before + n
