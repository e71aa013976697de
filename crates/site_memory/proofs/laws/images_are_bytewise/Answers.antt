use Rattle.site_memory.proofs.ByteImages as by_byte
use Rattle.site_memory.proofs.laws.images_are_bytewise.Goals as goal

pub returns : goal.returns
returns c = by_byte.images_are_bytewise
