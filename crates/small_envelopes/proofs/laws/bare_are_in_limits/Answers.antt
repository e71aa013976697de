use Rattle.small_envelopes.proofs.SmallPosts.{in_limits}
use Rattle.small_envelopes.proofs.laws.bare_are_in_limits.Goals as goal

pub returns : goal.returns
returns c = in_limits
