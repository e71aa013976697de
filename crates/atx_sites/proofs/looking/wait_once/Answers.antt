use Rattle.atx_sites.proofs.Changing.{changed_since, changes_later, read_clock, read_from}
use Rattle.atx_sites.proofs.Comings.{have_still, later_by, later_still}
use Rattle.atx_sites.proofs.Pausing.{looks_later}
use Rattle.atx_sites.proofs.looking.wait_once.Goals as goal

pub returns-in_default-clause-came : goal.returns-in_default-clause-came
returns-in_default-clause-came g c = λ h. have_still g.S.Stream.AsRawFd.raw_fd _ _ _ _ h c.pause_unless.ensures

pub returns-in-Ok-monotonic-clause-came : goal.returns-in-Ok-monotonic-clause-came
returns-in-Ok-monotonic-clause-came g c =
    λ h. c.go_on-done.ensures.came (have_still g.S.Stream.AsRawFd.raw_fd _ _ _ _ h (later_by _ _ _ _ (looks_later _ _ _ _ _ c.look.ensures) c.monotonic.ensures))

pub returns-in-Ok-monotonic-clause-later : goal.returns-in-Ok-monotonic-clause-later
returns-in-Ok-monotonic-clause-later g c =
    later_still _ _ _ (later_by _ _ _ _ (looks_later _ _ _ _ _ c.look.ensures) c.monotonic.ensures) c.go_on-done.ensures.later

pub returns-in-Err-clause-came : goal.returns-in-Err-clause-came
returns-in-Err-clause-came g c = λ h. have_still g.S.Stream.AsRawFd.raw_fd _ _ _ _ h (later_by _ _ _ _ (looks_later _ _ _ _ _ c.look.ensures) c.monotonic.ensures)

pub returns-in-Err-clause-later : goal.returns-in-Err-clause-later
returns-in-Err-clause-later g c = later_by _ _ _ _ (looks_later _ _ _ _ _ c.look.ensures) c.monotonic.ensures

pub returns-in_default-clause-changes : goal.returns-in_default-clause-changes
returns-in_default-clause-changes g c = λ first start h. changes_later first start _ _ _ h c.pause_unless.ensures

pub returns-in-Ok-monotonic-clause-changes : goal.returns-in-Ok-monotonic-clause-changes
returns-in-Ok-monotonic-clause-changes g c = λ first start h.
    let looked = looks_later _ _ _ _ _ c.look.ensures in
    c.go_on-done.ensures.changes first start
    (read_from c.in-Ok-monotonic.later start _ _ (later_still _ _ _ (changed_since first start _ _ h) looked) (read_clock c.in-Ok-monotonic.later c.monotonic.result _ _ c.monotonic.ensures c.in-Ok-monotonic.is))
    (changes_later first start _ _ _ h (later_by _ _ _ _ looked c.monotonic.ensures))

pub returns-in-Err-clause-changes : goal.returns-in-Err-clause-changes
returns-in-Err-clause-changes g c = λ first start h. changes_later first start _ _ _ h (later_by _ _ _ _ (looks_later _ _ _ _ _ c.look.ensures) c.monotonic.ensures)
