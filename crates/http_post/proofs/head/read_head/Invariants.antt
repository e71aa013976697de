use Rattle.std.proofs.Common.{◌<◌, ◌-◌, length, ◌≡◌}
use Rattle.std.specs.Io.KnownBytes.{Consumes}
use Rattle.http_post.specs.Connections.{Leaves, left}
use Rattle.http_post.proofs.head.read_head.Given as goal

-- what came was taken of the connection
abbrev pub invariant-loop-n : goal.invariant-loop-n
invariant-loop-n g l =
    (((length l.bytes.items < 8192) × Consumes (left (g.S.Site.told l.fn.site)) (left (g.S.Site.told l.site)) l.bytes.items)
    × (((g.S.Site.told l.site).counts.receive ≡ (g.S.Site.told l.fn.site).counts.receive) × Leaves g.S.Site.told l.fn.site l.site))

abbrev pub decreases-loop-n : goal.decreases-loop-n
decreases-loop-n g l = 8192 - length l.bytes.items
