use Rattle.std.proofs.Common.{sym, ap, ◌∙◌}
use Rattle.soap_profile.proofs.Colons.{last_or, last_part}
use Rattle.soap_profile.proofs.fault.local_part.Goals as goal

pub returns-in-Some : goal.returns-in-Some
returns-in-Some c =
    sym (ap (last_or c.args.name.now) c.in-Some.is)
    ∙ last_part c.args.name.now c.rsplit_once.result c.rsplit_once.ensures.cases

pub returns-in-None : goal.returns-in-None
returns-in-None c =
    sym (ap (last_or c.args.name.now) c.in-None.is)
    ∙ last_part c.args.name.now c.rsplit_once.result c.rsplit_once.ensures.cases
