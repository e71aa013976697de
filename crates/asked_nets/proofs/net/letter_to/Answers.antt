use Rattle.std.proofs.Common.{◌∙◌, ◌≡◌, ◌≤◌, ap, arith, length, refl, sym}
use Rattle.std.proofs.lemmas.Grind.{common_steps}
use Rattle.memory_net.specs.Mails.{Mail, mail_of}
use Rattle.mirrored_nets.proofs.NetPlaces.{letter_is, mail_at, no_letter}
use Rattle.asked_nets.proofs.net.letter_to.Goals.{then-letter-node-via-then-letter-node, then-letter-node-via-else-letter-node+then-len-gt65536}
use Rattle.asked_nets.proofs.net.letter_to.Goals as goal

pub returns-clause-brought : goal.returns-clause-brought
returns-clause-brought c =
    let short : length c.in-Ok.bytes.items ≤ 65536 = grind (arith, common_steps, c.in-Ok.ensures.items, c.as_slice.ensures.value) in
    (mail_of c.in-Some.letter.now, mail_at c.args.number c.args.letters.now c.in-Some.letter.now c.in-Some.ensures, c.if-letter-node.false, sym (c.in-Ok.ensures.items ∙ c.as_slice.ensures.value), short, refl)

pub returns-in_default-clause-there : goal.returns-in_default-clause-there
returns-in_default-clause-there c = λ can. absurd (no_letter c.args.number c.args.letters.now can.0 can.1 c.in_default.ensures)

pub returns-then-letter-node-clause-there : goal.returns-then-letter-node-clause-there
returns-then-letter-node-clause-there c = λ can same.
    let is = letter_is c.args.number c.args.letters.now c.in-Some.letter.now can.0 c.in-Some.ensures can.1 in
    elim c.then-letter-node.branch [
      | then-letter-node-via-then-letter-node w ↦ w.if-letter-node.true (ap (λ (m : Mail). m.receiver) is ∙ can.2)
      | then-letter-node-via-else-letter-node+then-len-gt65536 w ↦
          let long : length c.in-Some.letter.now.bytes.items ≡ length can.0.bytes = ap (λ (m : Mail). length m.bytes) is in
          omega (arith, long, can.3, w.if-len-gt65536.true, w.len.ensures)
    ]
