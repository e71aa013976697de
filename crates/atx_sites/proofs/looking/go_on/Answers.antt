use Rattle.atx_sites.proofs.Changing.{read_behind}
use Rattle.atx_sites.proofs.Comings.{as_late, later_still}
use Rattle.atx_sites.proofs.looking.go_on.Goals as goal

pub returns-in_default-clause-later : goal.returns-in_default-clause-later
returns-in_default-clause-later g c = as_late _

pub returns-then-first-ne0-clause-later : goal.returns-then-first-ne0-clause-later
returns-then-first-ne0-clause-later g c = later_still _ _ _ c.read_found.ensures.later c.accept_all.ensures.later

pub returns-then-first-ne0-clause-changes : goal.returns-then-first-ne0-clause-changes
returns-then-first-ne0-clause-changes g c = λ first start clock h.
    c.accept_all.ensures.changes first start (read_behind _ _ _ _ clock c.read_found.ensures.later) (c.read_found.ensures.changes first start h)
