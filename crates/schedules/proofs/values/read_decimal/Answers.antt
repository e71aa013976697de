use Rattle.std.proofs.Common.{◌≡◌, arith, get_or, ◌∙◌, ap, sym}
use Rattle.std.specs.Result.{result_ok}
use Rattle.std.proofs.lemmas.Grind.{common_steps}
use Rattle.schedules.proofs.Decimals.{some_digit, no_sign, no_zero, one_zero, parses, parsed}
use Rattle.schedules.proofs.values.read_decimal.Goals as goal

pub returns-in_err-first-clause-every : goal.returns-in_err-first-clause-every
returns-in_err-first-clause-every c = λ n small e.
    let some = some_digit c.args.word.now n small e in grind (arith, common_steps, c.in_err-first.ensures.value)

pub returns-then-first-eq43-clause-every : goal.returns-then-first-eq43-clause-every
returns-then-first-eq43-clause-every c = λ n small e.
    let here : c.in_ok-first.field-0.now ≡ get_or c.args.word.now 0 0 = grind (arith, common_steps, c.in_ok-first.ensures.value) in
    absurd (no_sign c.args.word.now n small e (sym here ∙ c.if-first-eq43.true))

pub returns-then-word-gt1-clause-every : goal.returns-then-word-gt1-clause-every
returns-then-word-gt1-clause-every c = λ n small e.
    let here : c.in_ok-first.field-0.now ≡ get_or c.args.word.now 0 0 = grind (arith, common_steps, c.in_ok-first.ensures.value) in
    absurd (no_zero c.args.word.now n small e (sym here ∙ c.if-first-eq48.true) c.if-word-gt1.true)

pub returns-clause-spelled : goal.returns-clause-spelled
returns-clause-spelled c =
    let here : c.in_ok-first.field-0.now ≡ get_or c.args.word.now 0 0 = grind (arith, common_steps, c.in_ok-first.ensures.value) in
    parsed c.args.word.now c.ok.result c.parse.result c.parse.ensures.value.0
    (λ e. c.if-first-eq43.false (here ∙ e))
    (one_zero c.args.word.now c.in_ok-first.field-0.now here c.else-first-eq48.either)
    c.ok.ensures.value

pub returns-clause-every : goal.returns-clause-every
returns-clause-every c = λ n small e.
    c.ok.ensures.value ∙ ap result_ok (parses c.args.word.now n c.parse.result c.parse.ensures.value.0 small e)
