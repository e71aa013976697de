use Rattle.std.proofs.Common.{Some, ◌≡◌, ◌≤◌, length, ◌-◌, ◌^◌}
use Rattle.journal_cmd.specs.Folders.{Held, IsBeginning}
use Rattle.journal_cmd.proofs.read_file.read_file.Given as goal

abbrev pub invariant-loop-bytes : goal.invariant-loop-bytes
invariant-loop-bytes g l = record {
  so_far : (held : Held) → g.F.Files.told l.fn.files ≡ Some held → IsBeginning l.bytes.items (held l.fn.name);
  kept : g.F.Files.told l.files ≡ g.F.Files.told l.fn.files;
  later : g.F.Files.faults l.fn.files ≤ g.F.Files.faults l.files;
}

abbrev pub decreases-loop-bytes : goal.decreases-loop-bytes
decreases-loop-bytes g l = 2 ^ 63 - length l.bytes.items
