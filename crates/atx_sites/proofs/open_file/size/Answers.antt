use Rattle.std.proofs.Common.{subst, sym}
use Rattle.atx_sites.specs.Failures.{Ends}
use Rattle.atx_sites.specs.Files.{number_of}
use Rattle.atx_sites.specs.declared.troubles.Step.TheVariants as steps
use Rattle.atx_sites.proofs.Tellings.{ended_size}
use Rattle.atx_sites.proofs.open_file.size.Goals as goal

pub returns-in-Err-clause-fault : goal.returns-in-Err-clause-fault
returns-in-Err-clause-fault g c =
    subst (λ h. Ends (number_of g.S.File.AsRawFd.raw_fd h) (steps.Size 0) c.in-Err.fault (g.S.System.calls c.examine.new.self)) (sym c.in-Some.is)
    (ended_size _ _ _ _ 0 _ c.examine.ensures c.in-Err.is)
