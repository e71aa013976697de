use Rattle.std.proofs.Common.{◌↔◌, drop}
use Rattle.at_base.specs.WellFormed.{Rises}
use Rattle.at_base.proofs.well_formed.rises.Given as goal

abbrev pub invariant-loop-seated : goal.invariant-loop-seated
invariant-loop-seated l = Rises 0 l.seats ↔ Rises l.last (drop l.seated-index l.seats)
