use Rattle.site_memory.proofs.ArmedCalls.{told_so}
use Rattle.site_memory.proofs.laws.calls_fail_as_told.Goals as goal

pub returns : goal.returns
returns c = told_so
