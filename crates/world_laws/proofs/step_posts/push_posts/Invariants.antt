use Rattle.std.proofs.Common.{◌≡◌, ◌++◌, map}
use Rattle.std.specs.Vec.Iter.{into_iter_items}
use Rattle.world_laws.specs.Moves.{posted_at}
use Rattle.world_laws.proofs.step_posts.push_posts.Given as goal

abbrev pub invariant-loop-post : goal.invariant-loop-post
invariant-loop-post l =
    l.posted.items ++ map (posted_at l.number l.nodes) (into_iter_items l.post-iterator)
    ≡ l.fn.posted.items ++ map (posted_at l.number l.nodes) l.fn.posts
