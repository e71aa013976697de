use Rattle.command_line.proofs.ClapAnswers.{found, refused}
use Rattle.command_line.proofs.job.parsed.Goals as goal

pub returns-clause-found : goal.returns-clause-found
returns-clause-found c = found _ _ c.try_get_matches_from.result c.in_ok-whole.ensures.is c.try_get_matches_from.ensures.matches c.try_get_matches_from.ensures.kinds

pub returns-clause-refused : goal.returns-clause-refused
returns-clause-refused c = refused _ _ c.try_get_matches_from.result c.in_ok-whole.ensures.is c.try_get_matches_from.ensures.kinds
