use Rattle.std.proofs.Common.{sym, ◌∙◌}
use Rattle.atx_sites.proofs.Pushes.{tallied_err, tallied_ok}
use Rattle.atx_sites.proofs.departures.post.Goals as goal

pub returns-then-is_err : goal.returns-then-is_err
returns-then-is_err g c = record {
  posts = c.begin_post-posted.ensures.posts;
  lost = tallied_err c.begin_post-posted.result _ _ _ (sym c.is_err.ensures.value ∙ c.if-is_err.true) c.begin_post-posted.ensures.same c.count_one.ensures;
  within = c.begin_post-posted.ensures.within;
  kept = c.begin_post-posted.ensures.kept;
}

pub returns-else-is_err : goal.returns-else-is_err
returns-else-is_err g c = record {
  posts = c.begin_post-posted.ensures.posts;
  lost = tallied_ok c.begin_post-posted.result _ _ (sym c.is_err.ensures.value ∙ c.if-is_err.false) c.begin_post-posted.ensures.same;
  within = c.begin_post-posted.ensures.within;
  kept = c.begin_post-posted.ensures.kept;
}
