use Rattle.std.proofs.Common.{◌≡◌, drop}
use Rattle.std.specs.List.{list_all}
use Rattle.serving.specs.Notes.{is_met}
use Rattle.serving.proofs.session.are_met.Given as goal

abbrev pub invariant-loop-effect : goal.invariant-loop-effect
invariant-loop-effect l = list_all is_met (drop l.effect-index l.fn.effects) ≡ list_all is_met l.fn.effects
