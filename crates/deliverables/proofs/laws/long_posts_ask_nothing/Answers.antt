use Rattle.deliverables.proofs.LongPosts.{long_posts_ask_nothing}
use Rattle.deliverables.proofs.laws.long_posts_ask_nothing.Goals as goal

pub returns : goal.returns
returns c = long_posts_ask_nothing
