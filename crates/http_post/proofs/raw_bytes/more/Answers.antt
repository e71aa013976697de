use Rattle.std.proofs.Common.{arith}
use Rattle.http_post.specs.Connections.{left}
use Rattle.http_post.proofs.RawBytes.{cut_full, held_full, held_still}
use Rattle.http_post.proofs.raw_bytes.more.Goals as goal

-- src/raw_bytes.rt:55:9
pub returns-then-n-eq0-clause-held : goal.returns-then-n-eq0-clause-held
returns-then-n-eq0-clause-held g c =
    held_still c.args.bytes.now.items c.read_on.ensures.front.0 c.read_on.new.bytes.items c.in-Ok.n c.read_on.ensures.front.1 c.in-Ok.ensures.grown c.if-n-eq0.true

-- src/raw_bytes.rt:58:9
pub returns-then-not-counts-clause-fault : goal.returns-then-not-counts-clause-fault
returns-then-not-counts-clause-fault g c raw k =
    cut_full (left (g.S.Site.told c.args.site.now)) (left (g.S.Site.told c.read_on.new.site)) c.args.bytes.now.items c.read_on.new.bytes.items raw c.in-Ok.n
    k (c.in-Ok.ensures.kept raw k) c.in-Ok.ensures.grown (omega (arith, c.if-n-eq0.false)) (omega (arith, c.if-len-gt-MOST_RAW.false, c.if-not-counts.true))

-- src/raw_bytes.rt:58:9
pub returns-then-not-counts-clause-held : goal.returns-then-not-counts-clause-held
returns-then-not-counts-clause-held g c =
    held_full c.args.bytes.now.items c.read_on.ensures.front.0 c.read_on.new.bytes.items c.read_on.ensures.front.1 (omega (arith, c.if-len-gt-MOST_RAW.false, c.if-not-counts.true))
