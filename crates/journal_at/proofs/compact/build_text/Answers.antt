use Rattle.std.proofs.Common.{arith}
use Rattle.journal_at.proofs.Texts.{body_sized, built_all, built_more}
use Rattle.journal_at.proofs.compact.build_text.Goals as goal

pub push_frame-requires : goal.push_frame-requires
push_frame-requires c = body_sized c.args.bodies.now c.loop-body.body-index c.body-item.result _ (omega (arith, c.loop-body-test.true)) c.body-item.is c.as_slice.ensures c.requires

pub loop-body-preserved : goal.loop-body-preserved
loop-body-preserved c = built_more c.args.generation c.args.bodies.now c.loop-body.body-index c.body-item.result c.loop-body.text.items _ _ (omega (arith, c.loop-body-test.true)) c.body-item.is c.as_slice.ensures c.in_ok-push_frame.ensures c.loop-body.invariant

pub returns : goal.returns
returns c = built_all c.args.generation c.args.bodies.now c.loop-body.body-index c.loop-body.text.items _ (omega (arith, c.loop-body-test.false)) c.in_ok-push.ensures.items c.loop-body.invariant
