use Rattle.std.proofs.Common.{ℕ, List, ◌≡◌, map, take}
use Rattle.http_header.specs.HeaderMap.{get_all}
use Rattle.httparse.specs.Spans.{header_bytes}
use Rattle.http_post.specs.FieldMaps.{named}
use Rattle.http_post.proofs.fields.keep_all.Given as goal

-- the fields so far are kept
abbrev pub invariant-loop-place : goal.invariant-loop-place
invariant-loop-place l = (name : List ℕ) → get_all l.fields name ≡ named name (map (header_bytes l.bytes) (take l.place-index l.places))
