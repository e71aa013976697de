use Rattle.std.proofs.Common.{◌-◌, ◌∙◌, ap, sym}
use Rattle.std.specs.Prelude.{slice_set}
use Rattle.world_laws.proofs.NumberedItems.{put_back}
use Rattle.asked_nets.proofs.net.put_host.Goals as goal

pub returns-clause-put : goal.returns-clause-put
returns-clause-put c =
    ap (slice_set c.args.hosts.now.items (c.args.number - 1)) c.replace-empty.ensures.after ∙ sym (put_back c.args.number c.args.host c.args.hosts.now.items c.if-number-eq0.false)
