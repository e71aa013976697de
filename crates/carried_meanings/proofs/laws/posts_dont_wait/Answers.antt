use Rattle.carried_meanings.proofs.CarriedPosts.{posts_dont_wait}
use Rattle.carried_meanings.proofs.laws.posts_dont_wait.Goals as goal

pub returns : goal.returns
returns c = posts_dont_wait c.posts_are_read_back.ensures c.posts_can_be_read.ensures
