use Rattle.command_line.specs.Views.{meant_serving}
use Rattle.command_line.proofs.Servings.{has_served}
use Rattle.command_line.proofs.node.attend.Goals as goal

pub returns-clause-served : goal.returns-clause-served
returns-clause-served g c =
    has_served g.H.Site.told (meant_serving c.args.serving.now) c.args.lines.now c.role_of.result c.serve-ended.result c.status_by.result _ _ _ _ c.role_of.ensures
    c.serve-ended.ensures.serves c.status_by.ensures.is
