use Rattle.std.proofs.Common.{refl}
use Rattle.std.specs.Fmt.{digits}
use Rattle.http_post.specs.OutBytes.{line, field, head_end}
use Rattle.http_post.proofs.writer.busy_bytes.Goals as goal

pub returns : goal.returns
unfolding digits line field head_end
returns c = refl
