use Rattle.model_laws.proofs.StepShapes.{steps_keep_place}
use Rattle.model_laws.proofs.rules.steps_keep_place.Goals as goal

pub returns : goal.returns
returns c = steps_keep_place
