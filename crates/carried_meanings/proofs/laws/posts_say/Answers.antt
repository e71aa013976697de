use Rattle.carried_meanings.proofs.CarriedPosts.{posts_say}
use Rattle.carried_meanings.proofs.laws.posts_say.Goals as goal

pub returns : goal.returns
returns c =
    posts_say c.posts_are_read_back.ensures c.posts_can_be_read.ensures c.bytes_ask_one_thing.ensures c.bytes_say_one_thing.ensures c.one_text_spells_one_tree.ensures c.heads_are_bases.ensures.every
    c.what_is_taken_is_decoded.ensures c.what_is_posted_reaches_the_book.ensures.addressed
