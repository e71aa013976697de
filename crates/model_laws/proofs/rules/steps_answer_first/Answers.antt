use Rattle.model_laws.proofs.StepShapes.{steps_answer_first}
use Rattle.model_laws.proofs.rules.steps_answer_first.Goals as goal

pub returns : goal.returns
returns c = steps_answer_first
