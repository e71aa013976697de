use Rattle.http_post.proofs.Conversations.{same_left, spoken}
use Rattle.http_post.proofs.request.go_on.Goals as goal

pub returns-clause-hears : goal.returns-clause-hears
returns-clause-hears g c = spoken _ c.args.waits c.send.result (g.S.Site.told c.args.site.now) (g.S.Site.told c.send.new.self) c.interim.ensures c.if-not-waits.false c.send.ensures

pub returns-clause-same : goal.returns-clause-same
returns-clause-same g c = same_left _ c.send.result (g.S.Site.told c.args.site.now) (g.S.Site.told c.send.new.self) c.send.ensures
