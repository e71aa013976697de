use Rattle.std.specs.Prelude.{◌≡◌, ◌<◌, drop, length}
use Rattle.std.proofs.Common.{ap, arith, drop-cons, rules, suc, sym, ◌∙◌, ◌∷◌}
use Rattle.settlement.specs.declared.run_error.RunError.TheVariants.{TooManyEvents}
use Rattle.replay_cmd.proofs.EventCounts.{take_many}
use Rattle.replay_cmd.proofs.summary.take_lines.Goals as goal

pub returns-in_err-course-clause-many : goal.returns-in_err-course-clause-many
returns-in_err-course-clause-many c =
    let all = c.args.lines.now in
    let i = c.loop-line.line-index in
    let within : i < length all = omega arith in
    let here : drop i all ≡ c.line-item.result ∷ drop (suc i) all = drop-cons all i c.line-item.result within ∙ ap (λ x. x ∷ drop (suc i) all) (sym c.line-item.is) in
    let many = λ (is : c.in_err-course.field-0.0 ≡ TooManyEvents).
    take_many all (drop i all) (drop (suc i) all) c.line-item.result c.loop-line.course c.args.course here c.loop-line.invariant (c.in_err-course.ensures.many is) in
    search rules
