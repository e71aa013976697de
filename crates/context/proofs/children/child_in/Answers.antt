use Rattle.std.proofs.Common.{◌∙◌, Some, ap}
use Rattle.xml_profile.specs.Prefixes.{coordination}
use Rattle.soap_profile.specs.Children.{child_of}
use Rattle.context.proofs.children.child_in.Goals as goal

pub returns : goal.returns
returns c = c.child.ensures ∙ ap (λ local. child_of c.args.tree.now (Some coordination) local) c.local_name.ensures
