use Rattle.record_bytes.proofs.Uniqueness.{are_apart}
use Rattle.record_bytes.proofs.read.are_apart.Goals as goal

-- src/read.rt:18:1
pub returns : goal.returns
returns c = are_apart
