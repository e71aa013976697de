use Rattle.std.proofs.Common.{sym, ap, ◌∙◌}
use Rattle.http_post.proofs.TextSplits.{first_or, first_part}
use Rattle.http_post.proofs.head_request.without_query.Goals as goal

pub returns-in-Some : goal.returns-in-Some
returns-in-Some c =
    sym (ap (first_or c.args.path.now) c.in-Some.is)
    ∙ first_part c.args.path.now c.split_once.result c.split_once.ensures.cases

pub returns-in-None : goal.returns-in-None
returns-in-None c =
    sym (ap (first_or c.args.path.now) c.in-None.is)
    ∙ first_part c.args.path.now c.split_once.result c.split_once.ensures.cases
