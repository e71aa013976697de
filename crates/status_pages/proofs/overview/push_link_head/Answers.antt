use Rattle.std.proofs.Common.{◌++◌, ap, codes}
use Rattle.status_pages.specs.Overview.{link_head, said}
use Rattle.status_pages.proofs.Pushes.{then_is}
use Rattle.status_pages.proofs.overview.push_link_head.Goals as goal

pub returns : goal.returns
unfolding link_head
returns c = then_is c.push_three.result _ _ _ _ c.push_three.ensures (ap (λ w. said (codes "<li>superior ") ++ (said w ++ said (codes " "))) c.name.ensures)
