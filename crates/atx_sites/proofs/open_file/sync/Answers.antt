use Rattle.std.proofs.Common.{subst, sym}
use Rattle.std.specs.Prelude.{IfErr}
use Rattle.atx_sites.specs.Failures.{Ends}
use Rattle.atx_sites.specs.Files.{number_of}
use Rattle.atx_sites.specs.declared.troubles.Step.TheVariants as steps
use Rattle.atx_sites.proofs.Tellings.{any_sync}
use Rattle.atx_sites.proofs.open_file.sync.Goals as goal

pub returns-clause-fault : goal.returns-clause-fault
returns-clause-fault g c =
    subst (λ h. IfErr c.sync-answer.result (λ e. Ends (number_of g.S.File.AsRawFd.raw_fd h) (steps.Sync 0) e (g.S.System.calls c.sync-answer.new.self))) (sym c.in-Some.is)
    (any_sync _ 0 c.sync-answer.result _ _ c.sync-answer.ensures)
