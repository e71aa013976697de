use Rattle.std.proofs.Common.{refl}
use Rattle.command_line.specs.Views.{no_serving}
use Rattle.command_line.proofs.run.no_serving.Goals as goal

pub returns : goal.returns
unfolding no_serving
returns c = refl
