use Rattle.std.proofs.Common.{◌≡◌, Err, refl}
use Rattle.schedules.specs.InitiatorLines.{initiator_lines_of}
use Rattle.command_line.specs.Views.{meant_serving}
use Rattle.command_line.proofs.Servings.{initiated, of_named, refused}
use Rattle.command_line.proofs.node.initiate.Goals as goal

pub returns-in-Ok-read_initiator_lines-clause-initiates : goal.returns-in-Ok-read_initiator_lines-clause-initiates
returns-in-Ok-read_initiator_lines-clause-initiates g c =
    initiated g.H.Site.told (meant_serving c.args.serving.now) _ _ _ _ _ _ _ _ _ _ _ _ c.in-Ok.ensures.whole c.as_slice.ensures.value c.in-Ok-read_initiator_lines.ensures.ok
    c.as_slice-in-Ok-read_initiator_lines.ensures c.attend.ensures.served

pub returns-in-Err-Bad-clause-initiates : goal.returns-in-Err-Bad-clause-initiates
returns-in-Err-Bad-clause-initiates g c =
    let bad = c.in-Err-Bad.bad in
    let is = of_named c.in-Err-Bad.field-0 bad (λ b. initiator_lines_of c.as_slice.result.now ≡ Err b) c.in-Err-Bad.field-0-is c.in-Err-Bad.ensures.err in
    refused g.H.Site.told (meant_serving c.args.serving.now) _ _ _ _ _ _ _ _ _ _ bad c.in-Ok.ensures.whole c.as_slice.ensures.value is c.refuse.ensures.refuses refl
