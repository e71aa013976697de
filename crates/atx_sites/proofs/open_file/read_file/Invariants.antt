use Rattle.atx_sites.specs.FileCalls.{Tries}
use Rattle.atx_sites.proofs.open_file.read_file.Given as goal

abbrev pub invariant-tries : goal.invariant-tries
invariant-tries g l = Tries (g.S.File.AsRawFd.raw_fd l.file) l.at (g.S.System.calls l.fn.system) (g.S.System.calls l.system)
