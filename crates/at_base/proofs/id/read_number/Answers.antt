use Rattle.std.proofs.Common.{◌≡◌, arith, get_or, ◌∙◌, ap}
use Rattle.std.specs.Result.{result_ok}
use Rattle.std.proofs.lemmas.Grind.{common_steps}
use Rattle.at_base.proofs.Numbers.{number_begins, number_some, number_parses}
use Rattle.at_base.proofs.id.read_number.Goals as goal

pub returns-in_err-first-clause-every : goal.returns-in_err-first-clause-every
returns-in_err-first-clause-every c = λ n s.
    let (some, first) = number_begins c.args.text.now n s in grind (arith, common_steps, c.in_err-first.ensures.value)

pub returns-then-first-eq48-clause-every : goal.returns-then-first-eq48-clause-every
returns-then-first-eq48-clause-every c = λ n s.
    let (some, first) = number_begins c.args.text.now n s in
    let here : c.in_ok-first.field-0.now ≡ get_or c.args.text.now 0 0 = grind (arith, common_steps, c.in_ok-first.ensures.value) in
    absurd (grind (arith, common_steps))

pub returns-clause-spelled : goal.returns-clause-spelled
returns-clause-spelled c =
    let here : c.in_ok-first.field-0.now ≡ get_or c.args.text.now 0 0 = grind (arith, common_steps, c.in_ok-first.ensures.value) in
    number_some c.args.text.now c.ok.result c.parse.result c.parse.ensures.value.0
    (λ e. c.if-first-eq48.false (here ∙ e)) (λ e. c.if-first-eq43.false (here ∙ e)) c.ok.ensures.value

pub returns-clause-every : goal.returns-clause-every
returns-clause-every c = λ n s.
    c.ok.ensures.value ∙ ap result_ok (number_parses c.args.text.now n c.parse.result c.parse.ensures.value.0 s)
