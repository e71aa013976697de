use Rattle.small_envelopes.proofs.ShortPosts.{are_short}
use Rattle.small_envelopes.proofs.laws.brief_are_short.Goals as goal

pub returns : goal.returns
returns c = are_short
