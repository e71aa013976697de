use Rattle.std.proofs.Common.{◌∙◌}
use Rattle.mirrored_nets.proofs.KeptCalls.{none_writes, write_found}
use Rattle.asked_nets.proofs.starts.writes_at.Goals as goal

pub returns-in-Some : goal.returns-in-Some
returns-in-Some c =
    let (within, is) = c.in-Some.ensures.lookup.3 in
    c.is_write.ensures ∙ write_found c.args.place c.args.calls.now c.in-Some.entry.now within (is c.in-Some.entry.now)

pub returns-in-None : goal.returns-in-None
returns-in-None c = none_writes c.args.place c.args.calls.now c.in-None.ensures.lookup.3
