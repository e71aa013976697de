use Rattle.std.proofs.Common.{ap, subst, ◌∙◌}
use Rattle.mirrored_nets.specs.Seen.{Seen}
use Rattle.mirrored_nets.specs.Took.{IsFull}
use Rattle.mirrored_nets.proofs.NetEvents.{full_there}
use Rattle.asked_nets.proofs.net.Net.has_room.Goals as goal

pub returns-in-Some-clause-full : goal.returns-in-Some-clause-full
returns-in-Some-clause-full c = λ none.
    full_there c.args.number _ c.as_slice.result.now c.in-Some.host.now (c.as_slice.ensures.value ∙ ap (λ (s : Seen). s.hosts) c.self.view_is) c.in-Some.ensures (subst IsFull c.site.ensures (c.has_room.ensures.full none))
