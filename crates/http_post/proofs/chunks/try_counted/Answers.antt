use Rattle.std.proofs.Common.{arith, ap, length}
use Rattle.std.proofs.lemmas.List.{length-take}
use Rattle.http_post.proofs.chunks.try_counted.Goals as goal

pub try_line-requires : goal.try_line-requires
try_line-requires c = omega (arith, c.requires, ap length c.counted.ensures, length-take 131072 c.args.bytes.now)
