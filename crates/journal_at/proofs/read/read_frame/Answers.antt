use Rattle.std.proofs.Common.{arith, inl, inr}
use Rattle.journal_at.proofs.Frames.{too_short, of_no_size, cut_off}
use Rattle.journal_at.proofs.read.read_frame.Goals as goal

pub returns-then-rest-lt4 : goal.returns-then-rest-lt4
returns-then-rest-lt4 c = too_short c.args.bytes.now c.in-Some.rest.now c.in-Some.gate.now c.in-Some.ensures.cases.0 (omega (arith, c.if-gate-ne1.false)) (omega (arith, c.if-rest-lt4.true))

pub returns-then-size-eq0 : goal.returns-then-size-eq0
returns-then-size-eq0 c = of_no_size c.args.bytes.now c.in-Some.rest.now c.in-Some.gate.now c.in-Some.ensures.cases.0 (omega (arith, c.if-gate-ne1.false)) _ _ c.split_at.ensures.front c.number-size.ensures.read (inl (omega (arith, c.if-size-eq0.true)))

pub returns-then-size-gt1060000 : goal.returns-then-size-gt1060000
returns-then-size-gt1060000 c = of_no_size c.args.bytes.now c.in-Some.rest.now c.in-Some.gate.now c.in-Some.ensures.cases.0 (omega (arith, c.if-gate-ne1.false)) _ _ c.split_at.ensures.front c.number-size.ensures.read (inr (omega (arith, c.if-size-gt1060000.true)))

pub returns-then-back-size : goal.returns-then-back-size
returns-then-back-size c = cut_off c.args.bytes.now c.in-Some.rest.now c.in-Some.gate.now c.in-Some.ensures.cases.0 (omega (arith, c.if-gate-ne1.false)) _ _ _ c.split_at.ensures.front c.split_at.ensures.back c.number-size.ensures.read (omega (arith, c.if-back-size.true))
