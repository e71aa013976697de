use Rattle.std.proofs.Common.{◌∙◌, None, Some, ap, arith, if◌then◌else◌, sym}
use Rattle.address_seals.proofs.Ends.{answered, short}
use Rattle.address_seals.proofs.seal.Secret.opened.Goals as goal

pub returns-then-text-lt33 : goal.returns-then-text-lt33
returns-then-text-lt33 c = sym (short c.args.self.now.bytes c.args.text.now c.if-text-lt33.true)

pub returns-else-is_same : goal.returns-else-is_same
returns-else-is_same c =
    let said = answered c.args.self.now.bytes c.args.text.now c.split_at.result.0.now c.split_at.result.1.now c.as_slice.result.now c.is_same.result
    (omega (arith, c.if-text-lt33.false)) c.split_at.ensures.front c.split_at.ensures.back (c.as_slice.ensures ∙ c.end_of.ensures) c.is_same.ensures in
    sym (said ∙ ap (λ same. if same then Some c.split_at.result.0.now else None) c.if-is_same.false)
