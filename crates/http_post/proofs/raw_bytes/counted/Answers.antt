use Rattle.std.proofs.Common.{ap, take, ◌∙◌}
use Rattle.http_post.proofs.RawBytes.{take_least}
use Rattle.http_post.proofs.raw_bytes.counted.Goals as goal

-- src/raw_bytes.rt:71:1
pub returns : goal.returns
returns c = ap (λ n. take n c.args.bytes.now) c.counting.ensures ∙ take_least 131072 c.args.bytes.now
