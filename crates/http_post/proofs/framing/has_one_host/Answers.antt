use Rattle.http_post.proofs.Firsts.{is_one}
use Rattle.http_post.proofs.framing.has_one_host.Goals as goal

-- src/framing.rt:53:1
pub returns : goal.returns
returns c = is_one _ _ c.one_host.ensures
