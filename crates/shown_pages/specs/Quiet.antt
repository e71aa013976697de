-- A call of a machine that changes nothing of what it tells.
use Rattle.std.specs.Prelude.{◌≡◌}
use Rattle.site_model.specs.Told.{Apart, Still, Told}

pub record Quiet (old new : Told) : Type 0 where
  pub still : Still old new
  pub apart : Apart old new
  pub counts : new.counts ≡ old.counts
