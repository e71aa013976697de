use Rattle.atx_sites.proofs.Leavings.{goes_read}
use Rattle.atx_sites.proofs.outgoing.read_away.Goals as goal

pub returns-in-Ok-eq0 : goal.returns-in-Ok-eq0
returns-in-Ok-eq0 g c = λ addresses bytes k out. goes_read _ _ _ _ _ _ _ _ _ _ (c.reads.invariant addresses bytes k out) out c.read.ensures.calls

pub returns-in-Err-2 : goal.returns-in-Err-2
returns-in-Err-2 g c = λ addresses bytes k out. goes_read _ _ _ _ _ _ _ _ _ _ (c.reads.invariant addresses bytes k out) out c.read.ensures.calls

pub reads-preserved : goal.reads-preserved
reads-preserved g c = λ addresses bytes k out. goes_read _ _ _ _ _ _ _ _ _ _ (c.reads.invariant addresses bytes k out) out c.read.ensures.calls
