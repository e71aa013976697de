use Rattle.http_post.specs.Connections.{left}
use Rattle.http_post.proofs.TakenRequests.{body_asked, body_refused}
use Rattle.http_post.proofs.Conversations.{stays_same}
use Rattle.http_post.proofs.request.hear_body.Goals as goal

pub returns-in-Ok-clause-ok : goal.returns-in-Ok-clause-ok
returns-in-Ok-clause-ok g c =
    body_asked (left (g.S.Site.told c.args.site.now)) (left (g.S.Site.told c.go_on.new.site)) c.args.heard.asking.path c.into_path.result c.args.heard.rest.items c.in-Ok.body.items c.args.heard.asking.framing c.args.heard.asking.waits
    c.into_path.ensures c.go_on.ensures.same c.in-Ok.ensures.content

pub returns-in-Err-clause-err : goal.returns-in-Err-clause-err
returns-in-Err-clause-err g c =
    body_refused (left (g.S.Site.told c.args.site.now)) (left (g.S.Site.told c.go_on.new.site)) c.args.heard.asking.path c.args.heard.rest.items c.args.heard.asking.framing c.args.heard.asking.waits
    c.in-Err.refusal c.go_on.ensures.same c.in-Err.ensures.fault

pub returns-in-Ok-clause-order : goal.returns-in-Ok-clause-order
returns-in-Ok-clause-order g c = record {
  after = c.go_on.new.site;
  made = c.go_on.ensures.hears.0;
  line = c.go_on.ensures.hears.1.0;
  same = c.go_on.ensures.same;
  body = c.in-Ok.ensures.leaves c.go_on.new.site (stays_same (g.S.Site.told c.go_on.new.site));
}

pub returns-in-Err-clause-order : goal.returns-in-Err-clause-order
returns-in-Err-clause-order g c = record {
  after = c.go_on.new.site;
  made = c.go_on.ensures.hears.0;
  line = c.go_on.ensures.hears.1.0;
  same = c.go_on.ensures.same;
  body = c.in-Err.ensures.leaves c.go_on.new.site (stays_same (g.S.Site.told c.go_on.new.site));
}
