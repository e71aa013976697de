use Rattle.std.proofs.Common.{refl}
use Rattle.http_post.specs.Conversations.{interim}
use Rattle.http_post.proofs.request.interim.Goals as goal

pub returns : goal.returns
unfolding interim
returns c = refl
