-- Times that are over.
use Rattle.std.specs.Prelude.{Bool, nat_le}
use Rattle.std.specs.Duration.{as_nanos}
use Rattle.std.specs.declared.time.Duration.{Duration}

-- that time is over, by a clock that reads so
abbrev pub has_passed : Duration → Duration → Bool
has_passed now time = nat_le (as_nanos time) (as_nanos now)
