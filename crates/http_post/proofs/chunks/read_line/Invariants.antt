use Rattle.std.proofs.Common.{ℕ, List, ◌-◌, ◌≤◌, min, length, ◌≡◌}
use Rattle.http_post.specs.Connections.{Leaves, left}
use Rattle.http_post.specs.RawBytes.{IsRaw}
use Rattle.http_post.proofs.chunks.read_line.Given as goal

-- the same bytes are held or left, and what was tried counts
abbrev pub invariant-loop-bytes : goal.invariant-loop-bytes
invariant-loop-bytes g l =
    ((((raw : List ℕ) → IsRaw (left (g.S.Site.told l.fn.site)) l.fn.bytes.items raw → IsRaw (left (g.S.Site.told l.site)) l.bytes.items raw)
    × ((l.at ≤ l.tried) × (l.at ≤ min (length l.bytes.items) 131072)))
    × (((g.S.Site.told l.site).counts.receive ≡ (g.S.Site.told l.fn.site).counts.receive) × Leaves g.S.Site.told l.fn.site l.site))

abbrev pub decreases-loop-bytes : goal.decreases-loop-bytes
decreases-loop-bytes g l = 131072 - length l.bytes.items
