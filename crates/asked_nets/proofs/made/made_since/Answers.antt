use Rattle.mirrored_nets.proofs.HostSteps.{both_so}
use Rattle.asked_nets.proofs.MadeCalls.{adds_so}
use Rattle.asked_nets.proofs.made.made_since.Goals as goal

pub returns-clause-adds : goal.returns-clause-adds
returns-clause-adds c = λ old was.
    adds_so c.args.before.now c.since-calls.result.now c.failed_sends.result c.failed_disk_calls-disk.result c.failed_gates-gates.result old c.args.site.now was c.since-calls.ensures
    c.failed_sends.ensures c.failed_disk_calls-disk.ensures c.failed_gates-gates.ensures c.in_ok-counted.ensures.counted c.in_ok-refused.ensures.refused c.in_ok-refused-2.ensures.refused
    (both_so _ _ _ _ c.saturating_add.result _ c.saturating_add.ensures c.in_ok-refused-3.ensures.refused.0)
