use Rattle.std.proofs.Common.{ℕ, List, Err, subst, true, ◌≡◌, ◌+◌, ◌∙◌, arith, ap, length, ◌≤◌, min, drop, take}
use Rattle.http_post.specs.Causes.{HasLinkCause}
use Rattle.http_post.specs.Connections.{left}
use Rattle.http_post.specs.Chunks.{cut_at_end}
use Rattle.http_post.specs.Lines.{IsLast, IsNoLine}
use Rattle.http_post.specs.RawBytes.{IsFault, IsRaw, is_cut, seen}
use Rattle.httparse.specs.Grammar.{ChunkLine}
use Rattle.httparse.specs.Spans.{IsChunkLineAt}
use Rattle.http_post.proofs.ChunkLines.{if_err, if_ok, last_cause, last_kept, on_ok, last_fault, last_of, last_seen, line_of, line_seen, line_within, never_of, never_seen, still_within}
use Rattle.http_post.proofs.chunks.read_line.Goals.{then-is_worth+in-More, else-is_worth}
use Rattle.http_post.proofs.chunks.read_line.Goals as goal

-- src/chunks.rt:117:42
pub returns-in-Whole-clause-line : goal.returns-in-Whole-clause-line
returns-in-Whole-clause-line g c raw k =
    line_seen _ _ raw (c.loop-bytes.invariant.0.0 raw k) _ c.loop-bytes.invariant.0.1.1 _ _ (line_of _ _ _ _ _ c.as_slice-then-is_worth.ensures.value c.in-Whole.ensures)

-- src/chunks.rt:117:42
pub returns-in-Whole-clause-within : goal.returns-in-Whole-clause-within
returns-in-Whole-clause-within g c =
    line_within _ _ _ _ c.loop-bytes.invariant.0.1.1 (line_of _ _ _ _ _ c.as_slice-then-is_worth.ensures.value c.in-Whole.ensures)

-- src/chunks.rt:118:36
pub returns-in-Never-clause-fault : goal.returns-in-Never-clause-fault
returns-in-Never-clause-fault g c raw k =
    never_seen _ _ raw (c.loop-bytes.invariant.0.0 raw k) _ c.loop-bytes.invariant.0.1.1 _ (never_of _ _ _ c.as_slice-then-is_worth.ensures.value c.in-Never.ensures)

-- src/chunks.rt:123:13
pub last_line-requires : goal.last_line-requires
last_line-requires g c =
    let le : c.args.at ≤ min (length c.more.new.bytes.items) 131072 = still_within c.loop-bytes.bytes.items c.more.new.bytes.items c.args.at c.in-Err.ensures.held c.loop-bytes.invariant.0.1.1 in
    omega (arith, le, ap length c.as_slice-in-Err.ensures.value)

-- src/chunks.rt:123:13
pub returns-in-Err-clause-line : goal.returns-in-Err-clause-line
returns-in-Err-clause-line g c =
    if_ok _ _ _ c.last_line.ensures.line (λ line h. last_seen _ _ _ _ _ _ _ _ c.loop-bytes.invariant.0.0 c.loop-bytes.invariant.0.1.1 c.in-Err.ensures.fault c.in-Err.ensures.kept_at_cut c.in-Err.ensures.held _ _ (line_of _ _ _ _ _ c.as_slice-in-Err.ensures.value h.1))

-- src/chunks.rt:123:13
pub returns-in-Err-clause-within : goal.returns-in-Err-clause-within
returns-in-Err-clause-within g c =
    let le : c.args.at ≤ min (length c.more.new.bytes.items) 131072 = still_within c.loop-bytes.bytes.items c.more.new.bytes.items c.args.at c.in-Err.ensures.held c.loop-bytes.invariant.0.1.1 in
    if_ok c.last_line.result (λ line. (is_cut c.in-Err.refusal ≡ true) × ((l : ChunkLine) × IsChunkLineAt (drop c.args.at (take 131072 c.as_slice-in-Err.result.now)) line.len line.size l))
    (λ line. c.args.at + line.len ≤ min (length c.more.new.bytes.items) 131072) c.last_line.ensures.line (λ line h. line_within _ _ _ _ le (line_of _ _ _ _ _ c.as_slice-in-Err.ensures.value h.1))

-- src/chunks.rt:123:13
pub returns-in-Err-clause-fault : goal.returns-in-Err-clause-fault
returns-in-Err-clause-fault g c =
    if_err c.last_line.result (λ e. IsLast (drop c.args.at (take 131072 c.as_slice-in-Err.result.now)) c.in-Err.refusal e)
    (λ e. IsFault e (λ r. (raw : List ℕ) → IsRaw (left (g.S.Site.told c.args.site.now)) c.args.bytes.now.items raw → IsNoLine (drop c.args.at (seen raw)) (cut_at_end raw) r))
    c.last_line.ensures.fault
    (λ e h. last_fault _ _ _ _ _ _ _ _ c.loop-bytes.invariant.0.0 c.loop-bytes.invariant.0.1.1 c.in-Err.ensures.fault c.in-Err.ensures.kept_at_cut c.in-Err.ensures.held e
    (last_of c.more.new.bytes.items c.as_slice-in-Err.result.now c.args.at c.in-Err.refusal e c.as_slice-in-Err.ensures.value h))

-- src/chunks.rt:128:13
pub returns-in-Err-clause-kept : goal.returns-in-Err-clause-kept
returns-in-Err-clause-kept g c =
    on_ok c.last_line.result (λ line. (is_cut c.in-Err.refusal ≡ true) × ((l : ChunkLine) × IsChunkLineAt (drop c.args.at (take 131072 c.as_slice-in-Err.result.now)) line.len line.size l))
    ((raw : List ℕ) → IsRaw (left (g.S.Site.told c.args.site.now)) c.args.bytes.now.items raw → IsRaw (left (g.S.Site.told c.more.new.site)) c.more.new.bytes.items raw)
    c.last_line.ensures.line
    (λ line h. last_kept _ _ _ _ _ _ _ _ c.loop-bytes.invariant.0.0 c.loop-bytes.invariant.0.1.1 c.in-Err.ensures.fault c.in-Err.ensures.kept_at_cut c.in-Err.ensures.held h.0)

-- src/chunks.rt:119:5
pub loop-bytes-preserved : goal.loop-bytes-preserved
loop-bytes-preserved g c =
    let tried : c.args.at ≤ c.if-is_worth.tried = elim c.if-is_worth.branch [
      | then-is_worth+in-More w ↦ omega (arith, w.tried-is, w.counting-tried.ensures, c.loop-bytes.invariant.0.1.1, ap length w.as_slice-in-More.ensures.value)
      | else-is_worth w ↦ omega (arith, w.tried-is, c.loop-bytes.invariant.0.1.0)
    ] in (
      (
        (λ raw k. c.in_default.ensures.kept raw (c.loop-bytes.invariant.0.0 raw k)),
        (tried, omega (arith, c.in_default.ensures.grown, c.loop-bytes.invariant.0.1.1)),
      ),
      (c.in_default.ensures.cause.quiet ∙ c.loop-bytes.invariant.1.0, (λ first h. c.more.ensures.leaves first (c.loop-bytes.invariant.1.1 first h))),
    )

pub returns-in-Err-clause-cause : goal.returns-in-Err-clause-cause
returns-in-Err-clause-cause g c =
    last_cause (g.S.Site.told c.args.site.now).counts.receive (g.S.Site.told c.more.new.site).counts.receive c.in-Err.refusal (subst (λ n. HasLinkCause {T = Unit {0}} n (g.S.Site.told c.more.new.site).counts.receive (Err c.in-Err.refusal)) c.loop-bytes.invariant.1.0 c.in-Err.ensures.cause) (drop c.args.at (take 131072 c.as_slice-in-Err.result.now)) _ c.last_line.result
    c.last_line.ensures.line c.last_line.ensures.fault
