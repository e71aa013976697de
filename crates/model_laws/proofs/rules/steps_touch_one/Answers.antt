use Rattle.model_laws.proofs.StepShapes.{steps_touch_one}
use Rattle.model_laws.proofs.rules.steps_touch_one.Goals as goal

pub returns : goal.returns
returns c = steps_touch_one
