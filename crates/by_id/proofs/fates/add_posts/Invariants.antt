use Rattle.std.proofs.Common.{◌≡◌, ◌++◌, map}
use Rattle.std.specs.Vec.Iter.{into_iter_items}
use Rattle.at_base.specs.declared.outs.Out.TheVariants as out
use Rattle.by_id.proofs.fates.add_posts.Given as goal

abbrev pub invariant-loop-post : goal.invariant-loop-post
invariant-loop-post l = l.outs ++ map out.Post (into_iter_items l.post-iterator) ≡ l.fn.outs ++ map out.Post l.fn.posts
