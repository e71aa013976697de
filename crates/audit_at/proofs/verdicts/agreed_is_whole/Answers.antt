use Rattle.audit_at.proofs.Agreements.{agreed_is_whole}
use Rattle.audit_at.proofs.verdicts.agreed_is_whole.Goals as goal

pub returns : goal.returns
returns c = agreed_is_whole
