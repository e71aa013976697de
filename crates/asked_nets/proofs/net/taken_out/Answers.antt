use Rattle.std.proofs.Common.{sym, ◌∙◌, ap, arith, ◌≤◌, length}
use Rattle.std.specs.Prelude.{Some}
use Rattle.memory_net.specs.declared.host.Host.{Host}
use Rattle.mirrored_nets.proofs.NetPlaces.{nth_or, put_over}
use Rattle.asked_nets.proofs.net.taken_out.Goals as goal

pub returns-clause-here : goal.returns-clause-here
returns-clause-here c =
    let within : c.args.number ≤ length c.args.hosts.now.items = omega arith in
    nth_or c.args.number c.args.hosts.now.items c.index_mut.result.now c.if-number-eq0.false within c.index_mut.ensures.value ∙ ap (λ (h : Host). Some h) (sym c.replace.ensures.value)

pub returns-clause-place : goal.returns-clause-place
returns-clause-place c = λ g. put_over c.args.number c.args.hosts.now.items c.replace.new.dest g c.if-number-eq0.false
