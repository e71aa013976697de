use Rattle.std.proofs.Common.{ℕ, List, ◌≡◌, ◌-◌, ◌≤◌, drop}
use Rattle.http_post.specs.Connections.{Leaves, left}
use Rattle.http_post.specs.Chunks.{ends_trailers, has_empty_line}
use Rattle.http_post.specs.RawBytes.{IsRaw, seen}
use Rattle.http_post.proofs.trailers.read_trailers.Given as goal

-- the same bytes are held or left, and from here on the trailers go on as they began
abbrev pub invariant-loop-refusal : goal.invariant-loop-refusal
invariant-loop-refusal g l =
    ((((raw : List ℕ) → IsRaw (left (g.S.Site.told l.fn.site)) l.fn.bytes.items raw → IsRaw (left (g.S.Site.told l.site)) l.bytes.items raw)
    × ((l.at ≤ 131072)
    × ((raw : List ℕ) → IsRaw (left (g.S.Site.told l.fn.site)) l.fn.bytes.items raw → ends_trailers (drop l.from (seen raw)) ≡ has_empty_line l.line (drop l.at (seen raw)))))
    × (((g.S.Site.told l.site).counts.receive ≡ (g.S.Site.told l.fn.site).counts.receive) × Leaves g.S.Site.told l.fn.site l.site))

abbrev pub decreases-loop-refusal : goal.decreases-loop-refusal
decreases-loop-refusal g l = 131072 - l.at
