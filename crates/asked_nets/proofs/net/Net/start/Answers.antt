use Rattle.std.proofs.Common.{ap, arith, length, subst, sym, ◌∙◌, ◌≡◌, List, ℕ}
use Rattle.std.specs.Prelude.{Some, false}
use Rattle.at_model.specs.World.{Up, nth}
use Rattle.mirrored_nets.specs.DueStarts.{CanBegin}
use Rattle.mirrored_nets.specs.Seen.{Seen}
use Rattle.mirrored_nets.specs.LeftStarts.{IsStanding}
use Rattle.mirrored_nets.proofs.DueStarts.{same_begin}
use Rattle.mirrored_nets.proofs.NetEvents.{serve_on}
use Rattle.mirrored_nets.proofs.OpenedNets.{there_ready}
use Rattle.asked_nets.specs.DidStart.{ReadStart}
use Rattle.asked_nets.proofs.NetReads.{mirrors_inside, seen_by, starts, still_isnt}
use Rattle.asked_nets.proofs.ServingHosts.{start_serves}
use Rattle.asked_nets.proofs.StartedFiles.{begin_standing, can_begin, told_read}
use Rattle.asked_nets.proofs.net.Net.start.Goals as goal

pub returns-clause-step : goal.returns-clause-step
returns-clause-step c = λ count w raw few mirrors.
    let inside : Seen = record { hosts = c.self.inside.hosts.items; clocks = c.self.inside.clocks.items; letters = c.self.inside.letters.items } in
    let clock : nth c.args.number c.self.inside.clocks.items ≡ Some c.in_ok-clock.clock = subst (λ (l : List ℕ). nth c.args.number l ≡ Some c.in_ok-clock.clock) c.as_slice.ensures.value c.in_ok-clock.ensures.clock in
    let here : nth c.args.number c.args.self.hosts ≡ Some c.in_ok-taken_out.field-0 = subst (λ (s : Seen). nth c.args.number s.hosts ≡ Some c.in_ok-taken_out.field-0) c.self.view_is c.in_ok-taken_out.ensures.here in
    let down = c.requires.down c.in_ok-taken_out.field-0 here in
    let told = c.set.ensures.told (there_ready c.args.number c.self.inside.hosts.items c.in_ok-taken_out.field-0 c.into_parts-node.result.1 c.self.invariant c.in_ok-taken_out.ensures.here c.into_parts-node.ensures.1) in
    let took : ReadStart c.in_ok-told.told c.in-Ok.base c.set.result c.in_ok-begun.begun.host c.in_ok-begun.begun.landed c.in_ok-begun.begun.stop c.in_ok-begun.begun.calls =
    told_read c.begun_are_marked.ensures inside count w few (mirrors_inside inside c.args.self c.self.view_is count w few mirrors) c.args.number c.in_ok-taken_out.field-0 c.in_ok-taken_out.ensures.here down c.args.armed c.in_ok-told.told
    c.into_parts-node.result.1 c.set.result c.into_parts-node.ensures.1 c.in_ok-clock.clock c.set.ensures.set c.in_ok-told.ensures.told c.in_ok-begun.ensures.whole (λ last K. c.in_ok-begun.ensures.read last K told) in
    seen_by c.args.armed false (Up c.args.number c.in_ok-begun.begun.landed c.in_ok-begun.begun.stop) raw c.in_ok-begun.begun.calls c.args.self
    (record { hosts = c.put_host.new.hosts.items; clocks = c.self.inside.clocks.items; letters = c.self.inside.letters.items }) inside c.self.view_is
    (starts c.args.number c.self.inside.hosts.items c.put_host.new.hosts.items c.self.inside.clocks.items c.self.inside.letters.items c.in_ok-taken_out.field-0 c.in_ok-begun.begun.host c.in_ok-taken_out.ensures.here
    (c.in_ok-put_host.ensures.put ∙ c.in_ok-taken_out.ensures.place c.in_ok-begun.begun.host) c.args.armed c.in_ok-told.told raw c.in_ok-begun.begun.landed c.in_ok-begun.begun.stop c.in_ok-clock.clock c.in_ok-begun.begun.calls
    c.into_parts-node.result.1 c.set.result c.in-Ok.base down (c.requires.room c.in_ok-taken_out.field-0 here) clock c.in-Ok.ensures c.into_parts-node.ensures.1 c.set.ensures.set c.in_ok-told.ensures.told told took)

pub returns-in_err-told-clause-may : goal.returns-in_err-told-clause-may
returns-in_err-told-clause-may c = λ count w raw few mirrors may.
    let here : nth c.args.number c.args.self.hosts ≡ Some c.in_ok-taken_out.field-0 = subst (λ (s : Seen). nth c.args.number s.hosts ≡ Some c.in_ok-taken_out.field-0) c.self.view_is c.in_ok-taken_out.ensures.here in
    let can : CanBegin c.in_ok-taken_out.field-0.site =
    can_begin c.down_can_begin.ensures c.args.self count w few mirrors c.args.number c.in_ok-taken_out.field-0 here (c.requires.down c.in_ok-taken_out.field-0 here) may.may (c.requires.room c.in_ok-taken_out.field-0 here) in
    still_isnt c.in_err-told.field-0.0 c.from_residual-in_err-told.result c.from_residual-in_err-told.ensures.1
    (c.in_err-told.ensures.stands (subst IsStanding (sym c.into_parts-node.ensures.1) (begin_standing c.in_ok-taken_out.field-0.site can)))

pub returns-in_err-begun-clause-may : goal.returns-in_err-begun-clause-may
returns-in_err-begun-clause-may c = λ count w raw few mirrors may.
    let here : nth c.args.number c.args.self.hosts ≡ Some c.in_ok-taken_out.field-0 = subst (λ (s : Seen). nth c.args.number s.hosts ≡ Some c.in_ok-taken_out.field-0) c.self.view_is c.in_ok-taken_out.ensures.here in
    let can : CanBegin c.in_ok-taken_out.field-0.site =
    can_begin c.down_can_begin.ensures c.args.self count w few mirrors c.args.number c.in_ok-taken_out.field-0 here (c.requires.down c.in_ok-taken_out.field-0 here) may.may (c.requires.room c.in_ok-taken_out.field-0 here) in
    still_isnt c.in_err-begun.field-0.0 c.from_residual-in_err-begun.result c.from_residual-in_err-begun.ensures.1
    (c.in_err-begun.ensures.begins
    (same_begin c.in_ok-clock.clock c.into_parts-node.result.1 c.set.result c.set.ensures.set (subst CanBegin (sym c.into_parts-node.ensures.1) can)))

pub returns-in_err-put_host-clause-may : goal.returns-in_err-put_host-clause-may
returns-in_err-put_host-clause-may c = λ count w raw few mirrors may.
    let least = may.least in
    let within = may.within in
    let all = mirrors.many in
    let many = c.taken_out.ensures.many in
    let same = ap (λ (s : Seen). length s.hosts) c.self.view_is in
    still_isnt c.in_err-put_host.field-0.0 c.from_residual-in_err-put_host.result c.from_residual-in_err-put_host.ensures.1
    (c.in_err-put_host.ensures.there least (omega (arith, within, all, many, same)))

pub invariant_of-result : goal.invariant_of-result
invariant_of-result c =
    serve_on c.args.number c.in_ok-begun.begun.host c.self.inside.hosts.items c.put_host.new.hosts.items c.self.invariant
    (start_serves c.links_hold.ensures c.in-Ok.base c.set.result c.in_ok-begun.begun.host _
    (c.set.ensures.set.told (there_ready c.args.number c.self.inside.hosts.items c.in_ok-taken_out.field-0 c.into_parts-node.result.1 c.self.invariant c.in_ok-taken_out.ensures.here c.into_parts-node.ensures.1))
    c.in_ok-begun.ensures.did)
    (c.in_ok-put_host.ensures.put ∙ c.in_ok-taken_out.ensures.place c.in_ok-begun.begun.host)
