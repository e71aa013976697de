use Rattle.std.proofs.Common.{sym, ◌∙◌}
use Rattle.mirrored_nets.proofs.NetPlaces.{not_up}
use Rattle.asked_nets.proofs.net.taken_up.Goals as goal

pub returns-in-Some-clause-here : goal.returns-in-Some-clause-here
returns-in-Some-clause-here c = (c.in_ok-taken_out.field-0, c.in_ok-taken_out.ensures.here, sym c.into_parts-node.ensures.0 ∙ c.in-Some.is, c.into_parts-node.ensures.1)

pub returns-in-None-clause-there : goal.returns-in-None-clause-there
returns-in-None-clause-there c = λ least within up.
    absurd (not_up c.in_ok-taken_out.field-0.node (up c.in_ok-taken_out.field-0 c.in_ok-taken_out.ensures.here) (sym c.into_parts-node.ensures.0 ∙ c.in-None.is))
