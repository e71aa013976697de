use Rattle.record_bytes.proofs.Sizes.{are_bodies}
use Rattle.record_bytes.proofs.write.are_bodies.Goals as goal

-- src/write.rt:18:1
pub returns : goal.returns
returns c = are_bodies
