use Rattle.std.proofs.Common.{ap, ◌∙◌}
use Rattle.xml_profile.proofs.Ends.{ends}
use Rattle.xml_profile.specs.CanonicalText.{is_end}
use Rattle.xml_profile.proofs.writer.is_empty.Goals as goal

pub returns : goal.returns
returns c = c.is_empty.ensures ∙ (ends _ ∙ ap is_end c.as_slice.ensures)
