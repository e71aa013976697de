use Rattle.std.proofs.Common.{rules}
use Rattle.record_bytes.proofs.Uniqueness.{is_record}
use Rattle.record_bytes.proofs.read.read_record.Goals as goal

-- src/read.rt:67:1
pub returns-else-not-is_of_version : goal.returns-else-not-is_of_version
returns-else-not-is_of_version c = is_record _ _ _ c.in-Ok.ensures (search rules) (search rules)
