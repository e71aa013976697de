use Rattle.atx_sites.proofs.Leavings.{goes_shut}
use Rattle.atx_sites.proofs.outgoing.end.Goals as goal

pub returns-then-is_err-clause-calls : goal.returns-then-is_err-clause-calls
returns-then-is_err-clause-calls g c = λ out. goes_shut _ _ _ _ _ _ _ out c.shut_down.ensures

pub returns-else-is_err-clause-calls : goal.returns-else-is_err-clause-calls
returns-else-is_err-clause-calls g c = λ out. goes_shut _ _ _ _ _ _ _ out c.shut_down.ensures
