use Rattle.std.proofs.Common.{◌≡◌, drop}
use Rattle.journal_cmd.specs.HeldFiles.{held_in}
use Rattle.journal_cmd.proofs.memory_files.file_of.Given as goal

abbrev pub invariant-loop-file : goal.invariant-loop-file
invariant-loop-file l = held_in (drop l.file-index l.files) l.name ≡ held_in l.fn.files l.fn.name
