use Rattle.std.proofs.Common.{refl}
use Rattle.command_line.specs.Views.{no_journal_base}
use Rattle.command_line.proofs.run.no_journal_base.Goals as goal

pub returns : goal.returns
unfolding no_journal_base
returns c = refl
