use Rattle.std.proofs.Common.{◌∙◌, arith, None, Some}
use Rattle.http_post.specs.Connections.{left}
use Rattle.http_post.proofs.TrailerLaws.{after_byte, goes_on, goes_out, goes_short}
use Rattle.http_post.proofs.trailers.read_trailers.Goals as goal

-- src/trailers.rt:53:21
pub returns-in-None-clause-ended : goal.returns-in-None-clause-ended
returns-in-None-clause-ended g c =
    goes_out _ _ _ c.fill.new.bytes.items _ c.loop-refusal.at c.loop-refusal.line c.loop-refusal.invariant.0.1.1 (λ raw k. c.in-Ok.ensures.kept raw (c.loop-refusal.invariant.0.0 raw k)) c.in-Ok.ensures.full (after_byte _ _ _ c.index.result.now None c.in-Ok.ensures.full c.index.ensures c.in-None.ensures)

-- src/trailers.rt:47:5
pub loop-refusal-preserved : goal.loop-refusal-preserved
loop-refusal-preserved g c = (
  (
    (λ raw k. c.in-Ok.ensures.kept raw (c.loop-refusal.invariant.0.0 raw k)),
    (
      omega (arith, c.in-Ok.ensures.full),
      goes_on _ _ _ c.fill.new.bytes.items _ c.loop-refusal.at c.loop-refusal.line c.loop-refusal.invariant.0.1.1 (λ raw k. c.in-Ok.ensures.kept raw (c.loop-refusal.invariant.0.0 raw k)) c.in-Ok.ensures.full c.in-Some.next (after_byte _ _ _ c.index.result.now (Some c.in-Some.next) c.in-Ok.ensures.full c.index.ensures c.in-Some.ensures),
    ),
  ),
  (c.in-Ok.ensures.cause.quiet ∙ c.loop-refusal.invariant.1.0, (λ first h. c.fill.ensures.leaves first (c.loop-refusal.invariant.1.1 first h))),
)

-- src/trailers.rt:55:29
pub returns-in-Err-clause-fault : goal.returns-in-Err-clause-fault
returns-in-Err-clause-fault g c =
    goes_short _ (left (g.S.Site.told c.loop-refusal.site)) _ c.loop-refusal.bytes.items _ c.loop-refusal.at c.loop-refusal.line c.loop-refusal.invariant.0.1.1 (left (g.S.Site.told c.loop-refusal.site)) c.loop-refusal.bytes.items c.loop-refusal.invariant.0.0 c.in-Err.refusal c.in-Err.ensures.fault
