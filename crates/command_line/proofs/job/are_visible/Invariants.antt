use Rattle.std.proofs.Common.{◌≡◌, drop}
use Rattle.std.specs.List.{list_all}
use Rattle.command_line.specs.Jobs.{is_visible}
use Rattle.command_line.proofs.job.are_visible.Given as goal

abbrev pub invariant-loop-byte : goal.invariant-loop-byte
invariant-loop-byte l = list_all is_visible (drop l.byte-index l.word) ≡ list_all is_visible l.word
