use Rattle.std.proofs.Common.{ap, refl, subst, sym, ◌∙◌, ◌≡◌}
use Rattle.std.specs.Prelude.{not}
use Rattle.world_laws.specs.Events.{event_of}
use Rattle.mirrored_nets.specs.Seen.{Seen}
use Rattle.asked_nets.specs.Rests.{rests_at}
use Rattle.asked_nets.proofs.NetReads.{rests_by}
use Rattle.asked_nets.proofs.net.Net.rests.Goals as goal

pub returns-in-Up-clause-rests : goal.returns-in-Up-clause-rests
returns-in-Up-clause-rests c =
    rests_by (event_of c.args.asked.now) c.node.result c.as_slice.result.now _ c.in_ok-up.up _ c.node.ensures (c.as_slice.ensures.value ∙ ap (λ (s : Seen). s.hosts) c.self.view_is) c.in_ok-up.ensures.up
    (subst (λ e. c.in_ok-up.up ≡ rests_at (event_of e) c.in_ok-up.up) (sym c.in-Up.is) refl)

pub returns-in-Turn-clause-rests : goal.returns-in-Turn-clause-rests
returns-in-Turn-clause-rests c =
    rests_by (event_of c.args.asked.now) c.node.result c.as_slice.result.now _ c.in_ok-up.up _ c.node.ensures (c.as_slice.ensures.value ∙ ap (λ (s : Seen). s.hosts) c.self.view_is) c.in_ok-up.ensures.up
    (subst (λ e. (not c.in_ok-up.up) ≡ rests_at (event_of e) c.in_ok-up.up) (sym c.in-Turn.is) refl)

pub returns-in-Ask-clause-rests : goal.returns-in-Ask-clause-rests
returns-in-Ask-clause-rests c =
    rests_by (event_of c.args.asked.now) c.node.result c.as_slice.result.now _ c.in_ok-up.up _ c.node.ensures (c.as_slice.ensures.value ∙ ap (λ (s : Seen). s.hosts) c.self.view_is) c.in_ok-up.ensures.up
    (subst (λ e. (not c.in_ok-up.up) ≡ rests_at (event_of e) c.in_ok-up.up) (sym c.in-Ask.is) refl)

pub returns-in-Crash-clause-rests : goal.returns-in-Crash-clause-rests
returns-in-Crash-clause-rests c =
    rests_by (event_of c.args.asked.now) c.node.result c.as_slice.result.now _ c.in_ok-up.up _ c.node.ensures (c.as_slice.ensures.value ∙ ap (λ (s : Seen). s.hosts) c.self.view_is) c.in_ok-up.ensures.up
    (subst (λ e. (not c.in_ok-up.up) ≡ rests_at (event_of e) c.in_ok-up.up) (sym c.in-Crash.is) refl)
