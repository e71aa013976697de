use Rattle.addressing.proofs.Lengths.{is_longer}
use Rattle.addressing.proofs.long_space.has_long_space.Goals as goal

pub returns-clause-long : goal.returns-clause-long
returns-clause-long c = is_longer c.args.tree.now c.is_long_within.result c.declarations.ensures.declared c.is_long_within.ensures
