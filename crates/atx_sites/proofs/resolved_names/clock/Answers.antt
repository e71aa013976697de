use Rattle.atx_sites.proofs.DepartureLists.{looked_clock}
use Rattle.atx_sites.proofs.resolved_names.clock.Goals as goal

pub returns-clause-looks : goal.returns-clause-looks
returns-clause-looks g c = λ host port first looks. looked_clock _ _ _ _ _ _ looks c.monotonic.ensures
