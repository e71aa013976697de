use Rattle.std.proofs.Common.{sym, ap, ◌∙◌}
use Rattle.std.specs.Prelude.{option_copied}
use Rattle.serving.specs.Requests.{activity_at, joined}
use Rattle.serving.proofs.Places.{activity_got, no_activity}
use Rattle.serving.proofs.request.activity_at.Goals as goal

pub returns-then-number-eq0 : goal.returns-then-number-eq0
returns-then-number-eq0 c = sym (ap (λ n. activity_at n c.args.made.now) c.if-number-eq0.true ∙ no_activity c.args.made.now)

pub returns-in-None : goal.returns-in-None
returns-in-None c =
    ap (λ r. joined (option_copied r)) (sym c.in-None.is) ∙ activity_got c.args.number c.args.made.now c.get.result c.if-number-eq0.false c.get.ensures.lookup

pub returns-in-Some : goal.returns-in-Some
returns-in-Some c =
    ap (λ r. joined (option_copied r)) (sym c.in-Some.is) ∙ activity_got c.args.number c.args.made.now c.get.result c.if-number-eq0.false c.get.ensures.lookup
