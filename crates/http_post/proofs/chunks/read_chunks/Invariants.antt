use Rattle.std.proofs.Common.{ℕ, List, Result, ◌-◌, ◌≤◌, drop, length, min, ◌≡◌}
use Rattle.http_post.specs.Connections.{Leaves, left}
use Rattle.http_post.specs.declared.refusal.HttpRefusal.{HttpRefusal}
use Rattle.http_post.specs.Chunks.{Chunks, cut_at_end, prefixed}
use Rattle.http_post.specs.RawBytes.{IsRaw, seen}
use Rattle.http_post.proofs.chunks.read_chunks.Given as goal

-- what the chunks from here on give is, behind the body so far, what all chunks give
abbrev pub invariant-loop-next : goal.invariant-loop-next
invariant-loop-next g l =
    ((((raw : List ℕ) → IsRaw (left (g.S.Site.told l.fn.site)) l.fn.bytes.items raw → IsRaw (left (g.S.Site.told l.site)) l.bytes.items raw)
    × ((l.at ≤ min (length l.bytes.items) 131072)
    × ((length l.body.items ≤ 65536)
    × ((raw : List ℕ) → IsRaw (left (g.S.Site.told l.fn.site)) l.fn.bytes.items raw → (out : Result (List ℕ) HttpRefusal)
    → Chunks (cut_at_end raw) (length l.body.items) (drop l.at (seen raw)) out → Chunks (cut_at_end raw) 0 (seen raw) (prefixed l.body.items out)))))
    × (((g.S.Site.told l.site).counts.receive ≡ (g.S.Site.told l.fn.site).counts.receive) × Leaves g.S.Site.told l.fn.site l.site))

abbrev pub decreases-loop-next : goal.decreases-loop-next
decreases-loop-next g l = 131072 - l.at
