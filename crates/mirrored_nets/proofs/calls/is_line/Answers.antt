use Rattle.std.proofs.Common.{◌∙◌, sym}
use Rattle.std.proofs.lemmas.Slice.Eq.{bytes_eq-Decides}
use Rattle.mirrored_nets.proofs.InterimBytes.{interim_is, is_interim}
use Rattle.mirrored_nets.proofs.calls.is_line.Goals as goal

pub returns-clause-is : goal.returns-clause-is
returns-clause-is c h = is_interim _ ((bytes_eq-Decides c.args.bytes.now c.as_slice.result.now).0 (sym c.eq.ensures ∙ h) ∙ c.as_slice.ensures)

pub returns-clause-exact : goal.returns-clause-exact
returns-clause-exact c h = c.eq.ensures ∙ (bytes_eq-Decides c.args.bytes.now c.as_slice.result.now).1 (h ∙ interim_is ∙ sym c.as_slice.ensures)
