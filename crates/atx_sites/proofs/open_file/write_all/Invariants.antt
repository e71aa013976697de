use Rattle.atx_sites.specs.FileCalls.{Writing}
use Rattle.std.proofs.Common.{◌≤◌, length}
use Rattle.atx_sites.proofs.open_file.write_all.Given as goal

abbrev pub invariant-pieces : goal.invariant-pieces
invariant-pieces g l =
    (l.done ≤ length l.bytes) × Writing (g.S.File.AsRawFd.raw_fd l.file) l.at l.bytes (g.S.System.calls l.fn.system) l.done (g.S.System.calls l.system)
