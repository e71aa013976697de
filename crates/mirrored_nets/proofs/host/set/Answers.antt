use Rattle.std.proofs.Common.{◌≡◌, subst}
use Rattle.site_memory.specs.declared.machine.MemSite.{MemSite}
use Rattle.mirrored_nets.proofs.ToldMachines.{is_set}
use Rattle.mirrored_nets.proofs.host.set.Goals as goal
use Rattle.mirrored_nets.proofs.host.set.Goals.{in-Fail, in-No}

pub returns-clause-set : goal.returns-clause-set
returns-clause-set c = elim c.match-armed.branch [
  | in-Fail w ↦ is_set _ c.args.now c.args.site w.fail.new.self c.set_now.new.self w.fail.ensures.arm w.fail.ensures.arming w.fail.ensures.told
      (subst (λ (s : MemSite). c.set_now.new.self ≡ record s { clock = c.args.now }) w.site-is c.set_now.ensures)
  | in-No w ↦ is_set 0 c.args.now c.args.site w.fail-in-No.new.self c.set_now.new.self w.fail-in-No.ensures.arm w.fail-in-No.ensures.arming w.fail-in-No.ensures.told
      (subst (λ (s : MemSite). c.set_now.new.self ≡ record s { clock = c.args.now }) w.site-is c.set_now.ensures)
]
