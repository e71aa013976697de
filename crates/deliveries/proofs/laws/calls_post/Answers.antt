use Rattle.deliveries.proofs.Letters.{calls_post}
use Rattle.deliveries.proofs.laws.calls_post.Goals as goal

pub returns : goal.returns
returns g c = calls_post g.S.Site.told
