use Rattle.std.proofs.Common.{◌∙◌, Some, None}
use Rattle.http_post.proofs.ChunkLaws.{all_fault, all_read, one_further, place_is, step_is}
use Rattle.http_post.proofs.chunks.read_chunks.Goals as goal

-- src/chunks.rt:186:5
pub loop-next-preserved : goal.loop-next-preserved
loop-next-preserved g c = (
  (
    (λ raw k. c.in-Ok.ensures.kept raw (c.loop-next.invariant.0.0 raw k)),
    (
      (place_is c.in-Ok.next c.in-Some.place _ _ c.in-Some.is c.in-Ok.ensures.next).1,
      (
        c.in-Ok.ensures.most,
        one_further _ _ _ _ _ _ c.loop-next.invariant.0.0 c.loop-next.invariant.0.1.1.1 _ _ (step_is _ _ _ _ _ c.in-Ok.next (Some c.in-Some.place) c.in-Some.is c.in-Ok.ensures.step),
      ),
    ),
  ),
  (c.in-Ok.ensures.cause.quiet ∙ c.loop-next.invariant.1.0, (λ first h. c.read_chunk.ensures.leaves first (c.loop-next.invariant.1.1 first h))),
)

-- src/chunks.rt:193:21
pub returns-in-None-clause-content : goal.returns-in-None-clause-content
returns-in-None-clause-content g c =
    all_read _ _ _ _ _ _ c.loop-next.invariant.0.0 c.loop-next.invariant.0.1.1.1 _ (step_is _ _ _ _ _ c.in-Ok.next None c.in-None.is c.in-Ok.ensures.step)

pub returns-in-Err-clause-fault : goal.returns-in-Err-clause-fault
returns-in-Err-clause-fault g c = all_fault _ _ _ _ _ _ c.loop-next.invariant.0.0 c.loop-next.invariant.0.1.1.1 _ c.in-Err.ensures.fault
