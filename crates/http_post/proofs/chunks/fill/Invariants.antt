use Rattle.std.proofs.Common.{ℕ, List, ◌-◌, length, ◌≡◌}
use Rattle.http_post.specs.Connections.{Leaves, left}
use Rattle.http_post.specs.RawBytes.{IsRaw}
use Rattle.http_post.proofs.chunks.fill.Given as goal

-- the same bytes are held or left
abbrev pub invariant-loop-site : goal.invariant-loop-site
invariant-loop-site g l = ((raw : List ℕ) → IsRaw (left (g.S.Site.told l.fn.site)) l.fn.bytes.items raw → IsRaw (left (g.S.Site.told l.site)) l.bytes.items raw)
    × (((g.S.Site.told l.site).counts.receive ≡ (g.S.Site.told l.fn.site).counts.receive) × Leaves g.S.Site.told l.fn.site l.site)

abbrev pub decreases-loop-site : goal.decreases-loop-site
decreases-loop-site g l = 131072 - length l.bytes.items
