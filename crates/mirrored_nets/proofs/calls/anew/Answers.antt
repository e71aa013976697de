use Rattle.std.proofs.Common.{ap, ◌∙◌, drop}
use Rattle.site_memory.specs.Entries.{mades}
use Rattle.mirrored_nets.proofs.FatesOfCalls.{anew_are, first_so}
use Rattle.mirrored_nets.proofs.calls.anew.Goals as goal

pub returns : goal.returns
returns c =
    let d = c.disk_calls.ensures in
    let s = c.send_calls.ensures in
    ap mades c.behind.ensures ∙ ap (λ l. mades (drop c.send_calls.result l)) c.behind-step.ensures
    ∙ anew_are c.args.calls.now c.disk_calls.result c.send_calls.result
    (first_so c.args.calls.now c.behind-step.result.now c.disk_calls.result c.send_calls.result c.behind-step.ensures d.disk d.behind d.within s.sent s.behind s.within)
