use Rattle.std.proofs.Common.{arith, ap, take, ◌∙◌}
use Rattle.http_post.specs.Connections.{left}
use Rattle.http_post.proofs.ChunkLaws.{short_body, whole_body}
use Rattle.http_post.proofs.body.sized_body.Goals as goal

-- src/body.rt:53:22
pub returns-in-Ok-eq0-clause-fault : goal.returns-in-Ok-eq0-clause-fault
returns-in-Ok-eq0-clause-fault g c raw k =
    short_body (left (g.S.Site.told c.loop-site.site)) c.loop-site.bytes.items raw c.args.count (omega (arith, c.loop-site-test.true, c.len.ensures))
    (c.in-Ok-eq0.ensures.end c.in-Ok-eq0.field-0-test raw (c.loop-site.invariant.0 raw k))

-- src/body.rt:42:1
pub returns-in-Ok-from_slice-clause-content : goal.returns-in-Ok-from_slice-clause-content
returns-in-Ok-from_slice-clause-content g c raw k =
    whole_body (left (g.S.Site.told c.loop-site.site)) c.loop-site.bytes.items raw c.in-Ok-from_slice.body.items c.args.count (c.loop-site.invariant.0 raw k)
    (omega (arith, c.loop-site-test.false, c.len.ensures)) (c.in-Ok-from_slice.ensures.items ∙ ap (take c.args.count) c.deref.ensures.value)
