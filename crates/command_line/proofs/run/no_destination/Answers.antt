use Rattle.std.proofs.Common.{refl}
use Rattle.command_line.specs.Views.{no_destination}
use Rattle.command_line.proofs.run.no_destination.Goals as goal

pub returns : goal.returns
unfolding no_destination
returns c = refl
