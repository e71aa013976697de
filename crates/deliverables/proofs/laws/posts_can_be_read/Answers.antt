use Rattle.deliverables.proofs.ReadablePosts.{posts_can_be_read}
use Rattle.deliverables.proofs.laws.posts_can_be_read.Goals as goal

pub returns : goal.returns
returns c = posts_can_be_read
