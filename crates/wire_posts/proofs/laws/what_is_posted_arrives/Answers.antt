use Rattle.wire_posts.proofs.Uniqueness.{text_one}
use Rattle.wire_posts.proofs.laws.what_is_posted_arrives.Goals as goal

pub returns-clause-one : goal.returns-clause-one
returns-clause-one c = text_one
