use Rattle.mirrored_nets.proofs.DueStarts.{starts_fail_for_want}
use Rattle.mirrored_nets.proofs.laws.starts_fail_for_want.Goals as goal

pub returns : goal.returns
returns c = starts_fail_for_want c.are_apart.ensures
