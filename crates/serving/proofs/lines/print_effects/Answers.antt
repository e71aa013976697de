use Rattle.std.proofs.Common.{arith}
use Rattle.serving.proofs.Printings.{all_printed, next_printed, stopped}
use Rattle.serving.proofs.lines.print_effects.Goals as goal

pub returns-in_err-print_effect-clause-prints : goal.returns-in_err-print_effect-clause-prints
returns-in_err-print_effect-clause-prints g c =
    stopped c.in_err-print_effect.field-0.0 c.print_effect.result c.from_residual.result c.args.effects.now c.loop-effect.effect-index c.effect-item.result _
    (g.K.Sink.contents c.args.sink.now) (g.K.Sink.contents c.loop-effect.sink) (g.K.Sink.contents c.print_effect.new.sink)
    c.loop-effect-test.true c.effect-item.is c.in_err-print_effect.was c.from_residual.ensures.0 c.from_residual.ensures.1 c.print_effect.ensures.prints c.loop-effect.invariant.0

pub loop-effect-preserved : goal.loop-effect-preserved
loop-effect-preserved g c = (
  next_printed c.print_effect.result c.in_ok-print_effect.field-0 c.args.effects.now c.loop-effect.effect-index c.effect-item.result _
      (g.K.Sink.contents c.args.sink.now) (g.K.Sink.contents c.loop-effect.sink) (g.K.Sink.contents c.print_effect.new.sink)
      c.loop-effect-test.true c.effect-item.is c.in_ok-print_effect.was c.print_effect.ensures.prints c.loop-effect.invariant.0,
  omega (arith, c.loop-effect.invariant.1, c.print_effect.ensures.later),
)

pub returns-clause-prints : goal.returns-clause-prints
returns-clause-prints g c =
    all_printed c.args.effects.now c.loop-effect.effect-index (g.K.Sink.contents c.args.sink.now) (g.K.Sink.contents c.loop-effect.sink) c.loop-effect-test.false c.loop-effect.invariant.0
