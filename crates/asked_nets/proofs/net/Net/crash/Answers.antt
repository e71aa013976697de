use Rattle.std.proofs.Common.{subst, ◌∙◌, ◌≡◌}
use Rattle.std.specs.Prelude.{Some, false}
use Rattle.at_model.specs.World.{Crash, nth}
use Rattle.mirrored_nets.specs.Seen.{Seen}
use Rattle.mirrored_nets.proofs.NetEvents.{serve_on}
use Rattle.mirrored_nets.proofs.OpenedNets.{there_ready}
use Rattle.mirrored_nets.proofs.ReadyHosts.{down_serves}
use Rattle.asked_nets.proofs.NetReads.{crashes, seen_by}
use Rattle.asked_nets.proofs.net.Net.crash.Goals as goal

pub returns-clause-step : goal.returns-clause-step
returns-clause-step c = λ armed raw.
    let inside : Seen = record { hosts = c.self.inside.hosts.items; clocks = c.self.inside.clocks.items; letters = c.self.inside.letters.items } in
    seen_by armed false (Crash c.args.number) raw 0 c.args.self (record { hosts = c.put_host.new.hosts.items; clocks = c.self.inside.clocks.items; letters = c.self.inside.letters.items }) inside c.self.view_is
    (crashes c.args.number c.self.inside.hosts.items c.put_host.new.hosts.items c.self.inside.clocks.items c.self.inside.letters.items c.in_ok-taken_out.field-0 c.go_down.result c.in_ok-taken_out.ensures.here
    (c.in_ok-put_host.ensures.put ∙ c.in_ok-taken_out.ensures.place c.go_down.result) armed raw _
    (c.requires.up c.in_ok-taken_out.field-0 (subst (λ (s : Seen). nth c.args.number s.hosts ≡ Some c.in_ok-taken_out.field-0) c.self.view_is c.in_ok-taken_out.ensures.here)) c.into_parts-node.ensures.1 c.go_down.ensures)

pub invariant_of-result : goal.invariant_of-result
invariant_of-result c =
    serve_on c.args.number c.go_down.result c.self.inside.hosts.items c.put_host.new.hosts.items c.self.invariant (down_serves _ c.go_down.result
    (there_ready c.args.number c.self.inside.hosts.items c.in_ok-taken_out.field-0 c.into_parts-node.result.1 c.self.invariant c.in_ok-taken_out.ensures.here c.into_parts-node.ensures.1) c.go_down.ensures)
    (c.in_ok-put_host.ensures.put ∙ c.in_ok-taken_out.ensures.place c.go_down.result)
