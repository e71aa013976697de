use Rattle.node_at.proofs.Migrations.{carries_still}
use Rattle.node_at.proofs.opened_journal.carry.Goals as goal

pub returns-in-Two-clause-carries : goal.returns-in-Two-clause-carries
returns-in-Two-clause-carries g c = λ rs o kept fits. carries_still c.args.version rs _ _ c.in-Two.is o
