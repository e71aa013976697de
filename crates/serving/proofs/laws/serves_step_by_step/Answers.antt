use Rattle.serving.proofs.Since.{serves_step_by_step}
use Rattle.serving.proofs.laws.serves_step_by_step.Goals as goal

pub returns : goal.returns
returns g c = serves_step_by_step g.S.Site.told c.steps_are_prefixed.ensures
