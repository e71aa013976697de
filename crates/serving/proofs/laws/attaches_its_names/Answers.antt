use Rattle.serving.proofs.AttachedNames.{attaches_its_names}
use Rattle.serving.proofs.laws.attaches_its_names.Goals as goal

pub returns : goal.returns
returns g c = attaches_its_names g.S.Site.told
