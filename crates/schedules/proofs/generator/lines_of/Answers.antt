use Rattle.schedules.specs.Generator.{made}
use Rattle.schedules.proofs.GeneratedSchedules.{one_more}
use Rattle.schedules.proofs.generator.lines_of.Goals as goal

pub loop-step-preserved : goal.loop-step-preserved
loop-step-preserved c =
    one_more c.loop-step.lines.items (made c.args.seed c.args.steps) c.args.steps c.loop-step._step c.loop-step.generator.state
    c.line-line.new.self.state c.line-line.result c.keep-in-loop-step.new.lines.items c.loop-step-test.true c.line-line.ensures.is
    c.line-line.ensures.state c.in_ok-keep-2.ensures c.loop-step.invariant
