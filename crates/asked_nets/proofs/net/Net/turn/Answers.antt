use Rattle.std.proofs.Common.{ap, arith, subst, sym, ◌∙◌, ◌≡◌, ◌+◌, length, List, ℕ}
use Rattle.std.specs.Prelude.{Some, map}
use Rattle.at_model.specs.World.{Turn, nth}
use Rattle.memory_net.specs.Mails.{mail_of}
use Rattle.memory_net.specs.declared.host.Host.{Host}
use Rattle.memory_net.specs.declared.letter.Letter.{Letter}
use Rattle.world_laws.specs.Events.{input_of}
use Rattle.mirrored_nets.specs.Goings.{IsBrought, ms_of}
use Rattle.mirrored_nets.specs.MayCome.{MayCome}
use Rattle.mirrored_nets.specs.Seen.{Seen}
use Rattle.mirrored_nets.proofs.BroughtLines.{clock_fits}
use Rattle.mirrored_nets.proofs.NetEvents.{room_set, serve_on}
use Rattle.mirrored_nets.proofs.OpenedNets.{there_ready, there_runs, there_serves}
use Rattle.reading_laws.specs.TurnsAreRead.{IsTurnHere}
use Rattle.read_calls.specs.IsRead.{fates_of}
use Rattle.asked_nets.specs.Behind.{goes_anew}
use Rattle.asked_nets.specs.DidTurn.{ReadTurn}
use Rattle.asked_nets.proofs.NetReads.{seen_by, still_isnt, turn_here, turns}
use Rattle.asked_nets.proofs.ServingHosts.{turn_serves}
use Rattle.asked_nets.proofs.net.Net.turn.Goals as goal

pub take-requires-clause-serving : goal.take-requires-clause-serving
take-requires-clause-serving c = there_serves c.args.number c.self.inside.hosts.items c.in_ok-node.node c.in_ok-node.site c.self.invariant c.in_ok-node.ensures.here

pub take-requires-clause-room : goal.take-requires-clause-room
take-requires-clause-room c =
    let there = c.in_ok-node.ensures.here in
    room_set c.args.number _ _ c.args.self there.0 c.in_ok-node.site c.set.result c.self.view_is c.requires.room there.1 there.3 c.set.ensures.set

pub returns-clause-step : goal.returns-clause-step
returns-clause-step c = λ count w few mirrors.
    let there = c.in_ok-node.ensures.here in
    let inside : Seen = record { hosts = c.self.inside.hosts.items; clocks = c.self.inside.clocks.items; letters = c.self.inside.letters.items } in
    let clock : nth c.args.number c.self.inside.clocks.items ≡ Some c.in_ok-clock.clock = subst (λ (l : List ℕ). nth c.args.number l ≡ Some c.in_ok-clock.clock) c.as_slice-2.ensures.value c.in_ok-clock.ensures.clock in
    let brought : IsBrought (map mail_of c.self.inside.letters.items) c.args.number (input_of c.args.input) c.in_ok-brought.brought.lines c.in_ok-brought.brought.bytes.items =
    subst (λ (l : List Letter). IsBrought (map mail_of l) c.args.number (input_of c.args.input) c.in_ok-brought.brought.lines c.in_ok-brought.brought.bytes.items) c.as_slice-3.ensures.value c.in_ok-brought.ensures.brought in
    let later : c.in-Some.now ≡ c.in_ok-clock.clock + ms_of (input_of c.args.input) = c.in-Some.ensures.1 ∙ ap (λ k. c.in_ok-clock.clock + k) c.ms_of.ensures in
    let all : c.in_ok-count.count ≡ length c.self.inside.hosts.items = c.in_ok-count.ensures.count ∙ ap (λ (l : List Host). length l) c.as_slice.ensures.value in
    let told = c.set.ensures.told (there_ready c.args.number c.self.inside.hosts.items there.0 c.in_ok-node.site c.self.invariant there.1 there.3) in
    let here : IsTurnHere c.args.number c.in_ok-count.count c.in_ok-brought.brought.lines c.in_ok-brought.brought.bytes.items c.in_ok-node.node c.set.result c.args.armed =
    turn_here inside c.args.self c.self.view_is count w few mirrors c.in_ok-count.count all c.args.number c.in_ok-clock.clock c.in-Some.now c.in_ok-brought.brought.lines (input_of c.args.input)
    c.in_ok-brought.brought.bytes.items c.args.armed there.0 c.in_ok-node.node c.in_ok-node.site c.set.result there.1 there.2 there.3 clock brought later c.set.ensures.set told in
    let took : ReadTurn c.args.armed c.args.number c.in_ok-count.count c.in_ok-brought.brought.lines c.in_ok-brought.brought.bytes.items c.in_ok-node.node c.set.result c.in_ok-did.did.host (map mail_of c.self.inside.letters.items)
    (map mail_of c.take.new.letters.items) c.in_ok-fates.fates c.in_ok-did.did.reading.until c.goes_anew.result c.in_ok-did.did.calls =
    subst (λ d. ReadTurn c.args.armed c.args.number c.in_ok-count.count c.in_ok-brought.brought.lines c.in_ok-brought.brought.bytes.items c.in_ok-node.node c.set.result c.in_ok-did.did.host (map mail_of c.self.inside.letters.items)
    (map mail_of c.take.new.letters.items) c.in_ok-fates.fates c.in_ok-did.did.reading.until d c.in_ok-did.did.calls) (sym c.goes_anew.ensures)
    (subst (λ fs. ReadTurn c.args.armed c.args.number c.in_ok-count.count c.in_ok-brought.brought.lines c.in_ok-brought.brought.bytes.items c.in_ok-node.node c.set.result c.in_ok-did.did.host (map mail_of c.self.inside.letters.items)
    (map mail_of c.take.new.letters.items) fs c.in_ok-did.did.reading.until (goes_anew c.in_ok-did.did.reading.became) c.in_ok-did.did.calls) (sym c.in_ok-fates.ensures.fates)
    (subst (λ (b : List ℕ). ReadTurn c.args.armed c.args.number c.in_ok-count.count c.in_ok-brought.brought.lines b c.in_ok-node.node c.set.result c.in_ok-did.did.host (map mail_of c.self.inside.letters.items)
    (map mail_of c.take.new.letters.items) (fates_of c.in_ok-did.did.reading.fates) c.in_ok-did.did.reading.until (goes_anew c.in_ok-did.did.reading.became) c.in_ok-did.did.calls) c.as_slice-4.ensures.value
    (c.in_ok-did.ensures.read (subst (λ (b : List ℕ). IsTurnHere c.args.number c.in_ok-count.count c.in_ok-brought.brought.lines b c.in_ok-node.node c.set.result c.args.armed) (sym c.as_slice-4.ensures.value) here)))) in
    seen_by c.args.armed c.goes_anew.result (Turn c.args.number (input_of c.args.input) c.in_ok-fates.fates c.in_ok-did.did.reading.until) c.args.raw.now c.in_ok-did.did.calls c.args.self
    (record { hosts = c.put_host.new.hosts.items; clocks = c.put_clock.new.clocks.items; letters = c.take.new.letters.items }) inside c.self.view_is
    (turns c.args.number c.self.inside.hosts.items c.put_host.new.hosts.items c.self.inside.clocks.items c.self.inside.letters.items there.0 c.in_ok-did.did.host there.1
    (c.in_ok-put_host.ensures.put ∙ c.in_ok-node.ensures.place c.in_ok-did.did.host) c.args.armed c.goes_anew.result c.in_ok-node.node c.in_ok-clock.clock c.in_ok-count.count c.in-Some.now c.in_ok-brought.brought.lines
    c.in_ok-did.did.calls (input_of c.args.input) c.in_ok-brought.brought.bytes.items c.args.raw.now c.in_ok-node.site c.set.result c.put_clock.new.clocks.items c.take.new.letters.items c.in_ok-fates.fates
    c.in_ok-did.did.reading.until there.2 clock all brought c.in_ok-brought.ensures.given later there.3 c.set.ensures.set told took c.in_ok-put_clock.ensures.put)

pub returns-in_default-clause-may : goal.returns-in_default-clause-may
returns-in_default-clause-may c = λ count w few mirrors may.
    let clock : nth c.args.number c.args.self.clocks ≡ Some c.in_ok-clock.clock =
    subst (λ (l : List ℕ). nth c.args.number l ≡ Some c.in_ok-clock.clock) (c.as_slice-2.ensures.value ∙ ap (λ (s : Seen). s.clocks) c.self.view_is) c.in_ok-clock.ensures.clock in
    let fits = clock_fits c.args.self.clocks c.args.number c.in_ok-clock.clock c.ms_of.result (input_of c.args.input) may.may.1 clock c.in_ok-clock.ensures.fits c.ms_of.ensures in
    absurd (c.in_default.ensures fits)

pub returns-in_err-brought-clause-may : goal.returns-in_err-brought-clause-may
returns-in_err-brought-clause-may c = λ count w few mirrors may.
    still_isnt c.in_err-brought.field-0.0 c.from_residual-in_err-brought.result c.from_residual-in_err-brought.ensures.1
    (c.in_err-brought.ensures.there
    (subst (λ (l : List Letter). MayCome (map mail_of l) c.args.number (input_of c.args.input) c.args.raw.now) (sym (c.as_slice-3.ensures.value ∙ ap (λ (s : Seen). s.letters) c.self.view_is)) may.may.0))

pub returns-in_err-did-clause-may : goal.returns-in_err-did-clause-may
returns-in_err-did-clause-may c = λ count w few mirrors may.
    let there = c.in_ok-node.ensures.here in
    let inside : Seen = record { hosts = c.self.inside.hosts.items; clocks = c.self.inside.clocks.items; letters = c.self.inside.letters.items } in
    let clock : nth c.args.number c.self.inside.clocks.items ≡ Some c.in_ok-clock.clock = subst (λ (l : List ℕ). nth c.args.number l ≡ Some c.in_ok-clock.clock) c.as_slice-2.ensures.value c.in_ok-clock.ensures.clock in
    let brought : IsBrought (map mail_of c.self.inside.letters.items) c.args.number (input_of c.args.input) c.in_ok-brought.brought.lines c.in_ok-brought.brought.bytes.items =
    subst (λ (l : List Letter). IsBrought (map mail_of l) c.args.number (input_of c.args.input) c.in_ok-brought.brought.lines c.in_ok-brought.brought.bytes.items) c.as_slice-3.ensures.value c.in_ok-brought.ensures.brought in
    let here : IsTurnHere c.args.number c.in_ok-count.count c.in_ok-brought.brought.lines c.in_ok-brought.brought.bytes.items c.in_ok-node.node c.set.result c.args.armed =
    turn_here inside c.args.self c.self.view_is count w few mirrors c.in_ok-count.count (c.in_ok-count.ensures.count ∙ ap (λ (l : List Host). length l) c.as_slice.ensures.value) c.args.number c.in_ok-clock.clock c.in-Some.now
    c.in_ok-brought.brought.lines (input_of c.args.input) c.in_ok-brought.brought.bytes.items c.args.armed there.0 c.in_ok-node.node c.in_ok-node.site c.set.result there.1 there.2 there.3 clock brought
    (c.in-Some.ensures.1 ∙ ap (λ k. c.in_ok-clock.clock + k) c.ms_of.ensures) c.set.ensures.set
    (c.set.ensures.told (there_ready c.args.number c.self.inside.hosts.items there.0 c.in_ok-node.site c.self.invariant there.1 there.3)) in
    still_isnt c.in_err-did.field-0.0 c.from_residual-in_err-did.result c.from_residual-in_err-did.ensures.1
    (c.in_err-did.ensures.there (subst (λ (b : List ℕ). IsTurnHere c.args.number c.in_ok-count.count c.in_ok-brought.brought.lines b c.in_ok-node.node c.set.result c.args.armed) (sym c.as_slice-4.ensures.value) here))

pub returns-in_err-put_host-clause-may : goal.returns-in_err-put_host-clause-may
returns-in_err-put_host-clause-may c = λ count w few mirrors may.
    let least = may.least in
    let within = may.within in
    let all = mirrors.many in
    let many = c.in_ok-node.ensures.many in
    let same = ap (λ (s : Seen). length s.hosts) c.self.view_is in
    still_isnt c.in_err-put_host.field-0.0 c.from_residual-in_err-put_host.result c.from_residual-in_err-put_host.ensures.1
    (c.in_err-put_host.ensures.there least (omega (arith, within, all, many, same)))

pub returns-in_err-put_clock-clause-may : goal.returns-in_err-put_clock-clause-may
returns-in_err-put_clock-clause-may c = λ count w few mirrors may.
    let least = may.least in
    let within = may.within in
    let times = mirrors.times in
    let same = ap (λ (s : Seen). length s.clocks) c.self.view_is in
    still_isnt c.in_err-put_clock.field-0.0 c.from_residual-in_err-put_clock.result c.from_residual-in_err-put_clock.ensures.1
    (c.in_err-put_clock.ensures.there least (omega (arith, within, times, same)))

pub invariant_of-result : goal.invariant_of-result
invariant_of-result c =
    let there = c.in_ok-node.ensures.here in
    serve_on c.args.number c.in_ok-did.did.host c.self.inside.hosts.items c.put_host.new.hosts.items c.self.invariant
    (turn_serves c.links_hold.ensures c.args.number c.in_ok-count.count c.in_ok-brought.brought.lines _ c.in_ok-node.node c.set.result c.in_ok-did.did.host _ _ _ _
    (there_runs c.args.number c.self.inside.hosts.items c.in_ok-node.node c.in_ok-node.site c.self.invariant there)
    (c.set.ensures.set.told (there_ready c.args.number c.self.inside.hosts.items there.0 c.in_ok-node.site c.self.invariant there.1 there.3)) c.in_ok-did.ensures.did)
    (c.in_ok-put_host.ensures.put ∙ c.in_ok-node.ensures.place c.in_ok-did.did.host)

pub returns-in_err-fates-clause-may : goal.returns-in_err-fates-clause-may
returns-in_err-fates-clause-may c = λ count w few mirrors may. still_isnt c.in_err-fates.field-0.0 c.from_residual-in_err-fates.result c.from_residual-in_err-fates.ensures.1 c.in_err-fates.ensures.memory
