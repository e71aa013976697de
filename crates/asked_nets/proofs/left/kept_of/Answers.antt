use Rattle.mirrored_nets.proofs.HostSteps.{kept_so}
use Rattle.asked_nets.proofs.left.kept_of.Goals as goal

pub returns-in-Falls : goal.returns-in-Falls
returns-in-Falls c = kept_so c.args.came c.in-Falls.kept c.in-Falls.choice c.args.calls.now c.first.result.now c.in-Falls.is c.first.ensures
