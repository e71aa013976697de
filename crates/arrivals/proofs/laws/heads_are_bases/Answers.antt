use Rattle.arrivals.proofs.Bases.{example_is_base, head_is_base}
use Rattle.arrivals.proofs.laws.heads_are_bases.Goals as goal

pub returns-clause-every : goal.returns-clause-every
returns-clause-every c = head_is_base

pub returns-clause-examples : goal.returns-clause-examples
returns-clause-examples c = example_is_base
