use Rattle.std.proofs.Common.{◌∙◌, Some, ap}
use Rattle.xml_profile.specs.Prefixes.{work}
use Rattle.soap_profile.specs.Children.{child_of}
use Rattle.wire_msgs.proofs.part.child_in.Goals as goal

pub returns : goal.returns
returns c = c.child.ensures ∙ ap (λ local. child_of c.args.tree.now (Some work) local) c.local_name.ensures
