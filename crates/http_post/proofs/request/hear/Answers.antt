use Rattle.std.proofs.Common.{subst}
use Rattle.http_post.specs.PartialHeads.{HasNoHead}
use Rattle.http_post.specs.ReadFaults.{IfNoHead}
use Rattle.http_post.specs.Connections.{left}
use Rattle.http_post.proofs.Conversations.{drawn, heard, nothing_heard}
use Rattle.http_post.proofs.request.hear.Goals as goal

pub returns-in-Err-NoHead-clause-err : goal.returns-in-Err-NoHead-clause-err
returns-in-Err-NoHead-clause-err g c = nothing_heard (left (g.S.Site.told c.args.site.now)) (subst (λ f. IfNoHead f (HasNoHead (left (g.S.Site.told c.args.site.now)))) c.in-Err-NoHead.field-0-is c.in-Err-NoHead.ensures.none)

pub returns-in-Ok-judged-clause-ok : goal.returns-in-Ok-judged-clause-ok
returns-in-Ok-judged-clause-ok g c =
    heard (left (g.S.Site.told c.args.site.now)) (left (g.S.Site.told c.read_head.new.site)) _ _ _ c.in-Ok.ensures.head _ _ _ _ c.in-Ok.ensures.taken c.in-Ok-judged.ensures.ok c.in-Ok-judged.ensures.rest

pub returns-clause-err : goal.returns-clause-err
returns-clause-err g c =
    drawn (left (g.S.Site.told c.args.site.now)) (left (g.S.Site.told c.read_head.new.site)) _ _ _ c.in-Ok.ensures.head c.in-Err.refusal c.in-Err.ensures.err

pub returns-in-Ok-judged-clause-early : goal.returns-in-Ok-judged-clause-early
returns-in-Ok-judged-clause-early g c = (_, (c.in-Ok.ensures.head.fits, c.in-Ok.ensures.taken))
