use Rattle.deliveries.proofs.Deliveries.{posts_bring}
use Rattle.deliveries.proofs.laws.posts_bring.Goals as goal

pub returns : goal.returns
returns c =
    posts_bring c.posts_are_read_back.ensures c.bytes_ask_one_thing.ensures c.heads_are_bases.ensures.every c.posts_can_be_read.ensures c.long_posts_ask_nothing.ensures c.what_is_taken_is_decoded.ensures
