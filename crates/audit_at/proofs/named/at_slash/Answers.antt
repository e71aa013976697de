use Rattle.std.proofs.Common.{arith}
use Rattle.endpoints.specs.Addresses.{slash}
use Rattle.endpoints.proofs.TextSplits.{both_parts}
use Rattle.audit_at.proofs.named.at_slash.Goals as goal

pub returns : goal.returns
returns c = both_parts slash c.args.text.now c.split_once.result c.split_once.ensures.cases (omega arith)
