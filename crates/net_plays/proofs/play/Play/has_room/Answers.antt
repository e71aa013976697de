use Rattle.std.proofs.Common.{ap, subst, ◌∙◌}
use Rattle.mirrored_nets.specs.Took.{IsFull}
use Rattle.mirrored_nets.proofs.NetEvents.{full_there}
use Rattle.net_plays.specs.Plays.{Play}
use Rattle.net_plays.proofs.play.Play.has_room.Goals as goal

pub returns-in-Some-clause-full : goal.returns-in-Some-clause-full
returns-in-Some-clause-full c = λ none.
    full_there c.args.node _ c.hosts.result.now c.in-Some.host.now (c.hosts.ensures ∙ ap (λ (p : Play). p.net.hosts) c.self.view_is) c.in-Some.ensures (subst IsFull c.site.ensures (c.has_room.ensures.full none))
