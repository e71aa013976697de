use Rattle.std.proofs.Common.{◌≡◌, ◌∙◌, sym, get_or, arith}
use Rattle.std.proofs.lemmas.Grind.{common_steps}
use Rattle.endpoints.proofs.Numbers.{no_number, number_parsed}
use Rattle.endpoints.proofs.target.read_number.Goals as goal
use Rattle.endpoints.proofs.target.read_number.Goals.{then-first-eq48-via-then-first-eq48, then-first-eq48-via-else-first-eq48+then-first-eq43}

pub returns-then-first-eq48 : goal.returns-then-first-eq48
returns-then-first-eq48 c =
    let here : c.in_ok-first.field-0.now ≡ get_or c.args.text.now 0 0 = grind (arith, common_steps, c.in_ok-first.ensures.value) in
    sym (no_number c.args.text.now (elim c.then-first-eq48.branch [
      | then-first-eq48-via-then-first-eq48 w ↦ let e = w.if-first-eq48.true in omega (arith, here, e)
      | then-first-eq48-via-else-first-eq48+then-first-eq43 w ↦ let e = w.if-first-eq43.true in omega (arith, here, e)
    ]))

pub returns : goal.returns
returns c =
    let here : c.in_ok-first.field-0.now ≡ get_or c.args.text.now 0 0 = grind (arith, common_steps, c.in_ok-first.ensures.value) in
    c.ok.ensures.value
    ∙ number_parsed c.args.text.now c.parse.result c.parse.ensures.value.0 (λ e. c.if-first-eq48.false (here ∙ e))
    (λ e. c.if-first-eq43.false (here ∙ e))
