use Rattle.std.proofs.Common.{ap, arith, subst, sym, true≢false, ◌∙◌, ◌≡◌, length, List, ℕ}
use Rattle.std.specs.Prelude.{Some, false, map}
use Rattle.at_model.specs.World.{Ask, nth}
use Rattle.memory_net.specs.Mails.{mail_of}
use Rattle.memory_net.specs.declared.host.Host.{Host}
use Rattle.mirrored_nets.specs.Seen.{Seen}
use Rattle.mirrored_nets.proofs.NetEvents.{room_set, serve_on}
use Rattle.mirrored_nets.proofs.OpenedNets.{there_ready, there_serves}
use Rattle.reading_laws.specs.RequestsAreRead.{IsRequestHere}
use Rattle.asked_nets.specs.DidRequest.{ReadRequest}
use Rattle.asked_nets.specs.ReadSteps.{MovesRead}
use Rattle.asked_nets.proofs.NetReads.{asks, request_here, seen_by, still_isnt}
use Rattle.asked_nets.proofs.ServingHosts.{request_serves}
use Rattle.asked_nets.proofs.net.Net.ask.Goals as goal

pub request-requires-clause-serving : goal.request-requires-clause-serving
request-requires-clause-serving c = there_serves c.args.number c.self.inside.hosts.items c.in_ok-node.node c.in_ok-node.site c.self.invariant c.in_ok-node.ensures.here

pub request-requires-clause-room : goal.request-requires-clause-room
request-requires-clause-room c =
    let there = c.in_ok-node.ensures.here in
    room_set c.args.number _ _ c.args.self there.0 c.in_ok-node.site c.set.result c.self.view_is c.requires.room there.1 there.3 c.set.ensures.set

pub returns-clause-step : goal.returns-clause-step
returns-clause-step c = λ count w raw few mirrors.
    let there = c.in_ok-node.ensures.here in
    let inside : Seen = record { hosts = c.self.inside.hosts.items; clocks = c.self.inside.clocks.items; letters = c.self.inside.letters.items } in
    let clock : nth c.args.number c.self.inside.clocks.items ≡ Some c.in_ok-clock.clock = subst (λ (l : List ℕ). nth c.args.number l ≡ Some c.in_ok-clock.clock) c.as_slice-2.ensures.value c.in_ok-clock.ensures.clock in
    let all : c.in_ok-count.count ≡ length c.self.inside.hosts.items = c.in_ok-count.ensures.count ∙ ap (λ (l : List Host). length l) c.as_slice.ensures.value in
    let told = c.set.ensures.told (there_ready c.args.number c.self.inside.hosts.items there.0 c.in_ok-node.site c.self.invariant there.1 there.3) in
    let named = c.in-Ok.ensures.is c.if-not-named.false in
    let here : IsRequestHere c.args.number c.in_ok-count.count c.args.local.now c.in_ok-node.node c.set.result c.args.armed =
    request_here inside c.args.self c.self.view_is count w few mirrors c.in_ok-count.count all c.args.number c.in_ok-clock.clock c.args.local.now c.args.armed there.0 c.in_ok-node.node c.in_ok-node.site c.set.result there.1
    there.2 there.3 clock named c.set.ensures.set told in
    let took : ReadRequest c.args.armed c.args.number c.in_ok-count.count c.args.local.now c.in_ok-node.node c.set.result c.in_ok-did.did.host (map mail_of c.self.inside.letters.items) (map mail_of c.request.new.letters.items)
    c.in_ok-fates.fates c.in_ok-did.did.reading.until c.in_ok-did.did.calls =
    subst (λ fs. ReadRequest c.args.armed c.args.number c.in_ok-count.count c.args.local.now c.in_ok-node.node c.set.result c.in_ok-did.did.host (map mail_of c.self.inside.letters.items) (map mail_of c.request.new.letters.items)
    fs c.in_ok-did.did.reading.until c.in_ok-did.did.calls) (sym c.in_ok-fates.ensures.fates) (c.in_ok-did.ensures.read here) in
    subst (λ l. MovesRead c.args.armed false (Ask c.args.number l c.in_ok-fates.fates c.in_ok-did.did.reading.until) raw c.in_ok-did.did.calls c.args.self
    (record { hosts = c.put_host.new.hosts.items; clocks = c.self.inside.clocks.items; letters = c.request.new.letters.items })) (sym c.in-Ok-clone.ensures.cases)
    (seen_by c.args.armed false (Ask c.args.number c.args.local.now c.in_ok-fates.fates c.in_ok-did.did.reading.until) raw c.in_ok-did.did.calls c.args.self (record { hosts = c.put_host.new.hosts.items; clocks = c.self.inside.clocks.items; letters = c.request.new.letters.items }) inside c.self.view_is
    (asks c.args.number c.self.inside.hosts.items c.put_host.new.hosts.items c.self.inside.clocks.items c.self.inside.letters.items there.0 c.in_ok-did.did.host there.1
    (c.in_ok-put_host.ensures.put ∙ c.in_ok-node.ensures.place c.in_ok-did.did.host) c.args.armed raw c.in_ok-node.node c.in_ok-clock.clock c.in_ok-count.count c.in_ok-did.did.calls c.args.local.now c.in_ok-node.site c.set.result
    c.request.new.letters.items c.in_ok-fates.fates c.in_ok-did.did.reading.until there.2 clock all named there.3 c.set.ensures.set told took))

pub returns-then-not-named-clause-may : goal.returns-then-not-named-clause-may
returns-then-not-named-clause-may c = λ count w raw few mirrors may. absurd (true≢false (sym (c.in-Ok.ensures.exact may.may) ∙ c.if-not-named.true))

pub returns-in_err-did-clause-may : goal.returns-in_err-did-clause-may
returns-in_err-did-clause-may c = λ count w raw few mirrors may.
    let there = c.in_ok-node.ensures.here in
    let inside : Seen = record { hosts = c.self.inside.hosts.items; clocks = c.self.inside.clocks.items; letters = c.self.inside.letters.items } in
    let clock : nth c.args.number c.self.inside.clocks.items ≡ Some c.in_ok-clock.clock = subst (λ (l : List ℕ). nth c.args.number l ≡ Some c.in_ok-clock.clock) c.as_slice-2.ensures.value c.in_ok-clock.ensures.clock in
    still_isnt c.in_err-did.field-0.0 c.from_residual-in_err-did.result c.from_residual-in_err-did.ensures.1
    (c.in_err-did.ensures.there
    (request_here inside c.args.self c.self.view_is count w few mirrors c.in_ok-count.count (c.in_ok-count.ensures.count ∙ ap (λ (l : List Host). length l) c.as_slice.ensures.value) c.args.number c.in_ok-clock.clock
    c.args.local.now c.args.armed there.0 c.in_ok-node.node c.in_ok-node.site c.set.result there.1 there.2 there.3 clock (c.in-Ok.ensures.is c.if-not-named.false) c.set.ensures.set
    (c.set.ensures.told (there_ready c.args.number c.self.inside.hosts.items there.0 c.in_ok-node.site c.self.invariant there.1 there.3))))

pub returns-in_err-put_host-clause-may : goal.returns-in_err-put_host-clause-may
returns-in_err-put_host-clause-may c = λ count w raw few mirrors may.
    let least = may.least in
    let within = may.within in
    let all = mirrors.many in
    let many = c.taken_up.ensures.many in
    let same = ap (λ (s : Seen). length s.hosts) c.self.view_is in
    still_isnt c.in_err-put_host.field-0.0 c.from_residual-in_err-put_host.result c.from_residual-in_err-put_host.ensures.1
    (c.in_err-put_host.ensures.there least (omega (arith, within, all, many, same)))

pub invariant_of-result : goal.invariant_of-result
invariant_of-result c =
    let there = c.in_ok-node.ensures.here in
    serve_on c.args.number c.in_ok-did.did.host c.self.inside.hosts.items c.put_host.new.hosts.items c.self.invariant
    (request_serves c.links_hold.ensures c.args.number c.in_ok-count.count c.args.local.now c.in_ok-node.node c.set.result c.in_ok-did.did.host _ _ _
    (c.set.ensures.set.told (there_ready c.args.number c.self.inside.hosts.items there.0 c.in_ok-node.site c.self.invariant there.1 there.3)) c.in_ok-did.ensures.did)
    (c.in_ok-put_host.ensures.put ∙ c.in_ok-node.ensures.place c.in_ok-did.did.host)

pub returns-in_err-fates-clause-may : goal.returns-in_err-fates-clause-may
returns-in_err-fates-clause-may c = λ count w raw few mirrors may. still_isnt c.in_err-fates.field-0.0 c.from_residual-in_err-fates.result c.from_residual-in_err-fates.ensures.1 c.in_err-fates.ensures.memory
