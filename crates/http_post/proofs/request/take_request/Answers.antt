use Rattle.std.proofs.Common.{Ok, Err, inl, inr}
use Rattle.http_post.specs.Connections.{left}
use Rattle.http_post.proofs.TakenRequests.{asked_of, faulty_of, head_refused, refused_of, whole_hears}
use Rattle.http_post.proofs.Conversations.{stays_same}
use Rattle.http_post.proofs.request.take_request.Goals as goal

pub returns-in-Err-clause-err : goal.returns-in-Err-clause-err
returns-in-Err-clause-err g c = refused_of (g.S.Site.told c.args.site.now) c.in-Err.refused c.in-Err.ensures.err

pub returns-in-Err-clause-hears : goal.returns-in-Err-clause-hears
returns-in-Err-clause-hears g c =
    head_refused (g.S.Site.told c.args.site.now) (g.S.Site.told c.hear.new.site) c.in-Err.refused (c.in-Err.ensures.leaves c.args.site.now (stays_same (g.S.Site.told c.args.site.now))) c.in-Err.ensures.err

pub returns-in-Ok-hear_body-clause-ok : goal.returns-in-Ok-hear_body-clause-ok
returns-in-Ok-hear_body-clause-ok g c =
    asked_of (g.S.Site.told c.args.site.now) (left (g.S.Site.told c.hear.new.site)) _ _ _ _ _ c.in-Ok.ensures.ok c.in-Ok-hear_body.ensures.ok

pub returns-in-Ok-hear_body-clause-hears : goal.returns-in-Ok-hear_body-clause-hears
returns-in-Ok-hear_body-clause-hears g c =
    whole_hears (Ok c.in-Ok-hear_body.request) (g.S.Site.told c.args.site.now) (g.S.Site.told c.hear.new.site) (g.S.Site.told c.hear_body.new.site) _ _ _ _
    (c.in-Ok.ensures.leaves c.args.site.now (stays_same (g.S.Site.told c.args.site.now))) c.in-Ok.ensures.ok c.in-Ok-hear_body.ensures.hears

pub returns-in-Err-hear_body-clause-err : goal.returns-in-Err-hear_body-clause-err
returns-in-Err-hear_body-clause-err g c =
    faulty_of (g.S.Site.told c.args.site.now) (left (g.S.Site.told c.hear.new.site)) _ _ _ _ c.in-Err-hear_body.refusal c.in-Ok.ensures.ok c.in-Err-hear_body.ensures.err

pub returns-in-Err-hear_body-clause-hears : goal.returns-in-Err-hear_body-clause-hears
returns-in-Err-hear_body-clause-hears g c =
    whole_hears (Err c.in-Err-hear_body.refusal) (g.S.Site.told c.args.site.now) (g.S.Site.told c.hear.new.site) (g.S.Site.told c.hear_body.new.site) _ _ _ _
    (c.in-Ok.ensures.leaves c.args.site.now (stays_same (g.S.Site.told c.args.site.now))) c.in-Ok.ensures.ok c.in-Err-hear_body.ensures.hears

pub returns-in-Err-clause-order : goal.returns-in-Err-clause-order
returns-in-Err-clause-order g c = inl (c.in-Err.ensures.leaves c.args.site.now (stays_same (g.S.Site.told c.args.site.now))).still.calls

pub returns-in-Ok-hear_body-clause-order : goal.returns-in-Ok-hear_body-clause-order
returns-in-Ok-hear_body-clause-order g c = inr (record {
  before = c.hear.new.site;
  head = c.in-Ok.ensures.leaves c.args.site.now (stays_same (g.S.Site.told c.args.site.now));
  early = c.in-Ok.ensures.early;
  speaks = c.in-Ok-hear_body.ensures.order;
})

pub returns-in-Err-hear_body-clause-order : goal.returns-in-Err-hear_body-clause-order
returns-in-Err-hear_body-clause-order g c = inr (record {
  before = c.hear.new.site;
  head = c.in-Ok.ensures.leaves c.args.site.now (stays_same (g.S.Site.told c.args.site.now));
  early = c.in-Ok.ensures.early;
  speaks = c.in-Err-hear_body.ensures.order;
})
