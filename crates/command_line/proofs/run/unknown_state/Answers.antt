use Rattle.std.proofs.Common.{refl}
use Rattle.command_line.specs.Views.{unknown_state}
use Rattle.command_line.proofs.run.unknown_state.Goals as goal

pub returns : goal.returns
unfolding unknown_state
returns c = refl
