use Rattle.std.proofs.Common.{arith, ap, ◌∙◌, ◌++◌, ◌+◌}
use Rattle.std.specs.Prelude.{slice_range}
use Rattle.http_post.proofs.ChunkLaws.{fault_no_line, step_last, fault_in_trailers, fault_too_large, fault_in_content, step_chunk}
use Rattle.http_post.proofs.chunks.read_chunk.Goals as goal

-- src/chunks.rt:152:25
pub returns-in-Err-clause-fault : goal.returns-in-Err-clause-fault
returns-in-Err-clause-fault g c = fault_no_line _ _ _ _ _ c.in-Err.ensures.fault

-- src/chunks.rt:156:9
pub returns-in-Ok-read_trailers-clause-step : goal.returns-in-Ok-read_trailers-clause-step
returns-in-Ok-read_trailers-clause-step g c =
    step_last _ _ _ _ _ _ c.in-Ok.ensures.kept _ _ c.in-Ok.ensures.line c.if-line-eq0.true c.in-Ok-read_trailers.ensures.ended

-- src/chunks.rt:156:9
pub returns-in-Err-read_trailers-clause-fault : goal.returns-in-Err-read_trailers-clause-fault
returns-in-Err-read_trailers-clause-fault g c =
    fault_in_trailers _ _ _ _ _ _ c.in-Ok.ensures.kept _ _ c.in-Ok.ensures.line _ c.if-line-eq0.true c.in-Err-read_trailers.ensures.fault

-- src/chunks.rt:162:9
pub returns-then-line-len-clause-fault : goal.returns-then-line-len-clause-fault
returns-then-line-len-clause-fault g c =
    fault_too_large _ _ _ _ _ _ c.in-Ok.ensures.kept _ _ c.in-Ok.ensures.line (omega (arith, c.if-line-len.true, c.requires.body, c.len.ensures))

-- src/chunks.rt:167:25
pub returns-in-Err-read_content-clause-fault : goal.returns-in-Err-read_content-clause-fault
returns-in-Err-read_content-clause-fault g c =
    fault_in_content _ _ _ _ _ _ c.in-Ok.ensures.kept _ _ c.in-Ok.ensures.line _ (omega (arith, c.if-line-eq0.false)) (omega (arith, c.if-line-len.false, c.requires.body, c.len.ensures)) c.in-Err-read_content.ensures.fault

-- src/chunks.rt:136:1
pub returns-in-Ok-extend_from_slice-clause-step : goal.returns-in-Ok-extend_from_slice-clause-step
returns-in-Ok-extend_from_slice-clause-step g c =
    step_chunk _ _ _ _ _ _ c.in-Ok.ensures.kept _ _ c.in-Ok.ensures.line _ _ _ c.in-Ok-read_content.ensures.kept (omega (arith, c.if-line-eq0.false)) (omega (arith, c.if-line-len.false, c.requires.body, c.len.ensures))
    c.in-Ok-read_content.ensures.full c.in-Ok-read_content.ensures.whole (c.in-Ok-extend_from_slice.ensures.items ∙ ap (λ z. c.args.body.now.items ++ slice_range z (c.args.at + c.in-Ok.line.len) (c.args.at + c.in-Ok.line.len + c.in-Ok.line.size)) c.deref.ensures.value)
