use Rattle.std.proofs.Common.{refl}
use Rattle.command_line.specs.Views.{no_numbers}
use Rattle.command_line.proofs.run.no_numbers.Goals as goal

pub returns : goal.returns
unfolding no_numbers
returns c = refl
