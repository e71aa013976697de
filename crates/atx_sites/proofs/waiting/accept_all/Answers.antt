use Rattle.atx_sites.proofs.Changing.{changes_later, read_behind}
use Rattle.atx_sites.proofs.Comings.{came_if, have_still, later_still}
use Rattle.atx_sites.proofs.waiting.accept_all.Goals as goal

pub returns-in-Ok-None-clause-came : goal.returns-in-Ok-None-clause-came
returns-in-Ok-None-clause-came g c = λ h. have_still g.S.Stream.AsRawFd.raw_fd (g.S.Listener.AsRawFd.raw_fd c.args.listener.now) _ _ _ (c.accepted.invariant.0 h) c.accept_one.ensures.later

pub returns-in-Ok-None-clause-later : goal.returns-in-Ok-None-clause-later
returns-in-Ok-None-clause-later g c = later_still _ _ _ c.accepted.invariant.1 c.accept_one.ensures.later

pub returns-in-Err-clause-came : goal.returns-in-Err-clause-came
returns-in-Err-clause-came g c = λ h. have_still g.S.Stream.AsRawFd.raw_fd (g.S.Listener.AsRawFd.raw_fd c.args.listener.now) _ _ _ (c.accepted.invariant.0 h) c.accept_one.ensures.later

pub returns-in-Err-clause-later : goal.returns-in-Err-clause-later
returns-in-Err-clause-later g c = later_still _ _ _ c.accepted.invariant.1 c.accept_one.ensures.later

pub accepted-preserved : goal.accepted-preserved
accepted-preserved g c = (
  (λ h. c.begin.ensures.came (g.S.Listener.AsRawFd.raw_fd c.args.listener.now) (came_if g.S.Stream.AsRawFd.raw_fd _ _ _ _ _ c.in-Ok-Some.ensures.came c.in-Ok-Some.field-0-is)
      (have_still g.S.Stream.AsRawFd.raw_fd (g.S.Listener.AsRawFd.raw_fd c.args.listener.now) _ _ _ (c.accepted.invariant.0 h) c.accept_one.ensures.later)),
  later_still _ _ _ (later_still _ _ _ c.accepted.invariant.1 c.accept_one.ensures.later) c.begin.ensures.later,
  (λ h. c.begin.ensures.bounded (c.accepted.invariant.2 h)),
  (λ first start clock h. c.begin.ensures.changes first start (read_behind _ _ _ _ clock (later_still _ _ _ c.accepted.invariant.1 c.accept_one.ensures.later))
      (changes_later first start _ _ _ (c.accepted.invariant.3 first start clock h) c.accept_one.ensures.later)),
)

pub returns-in-Ok-None-clause-bounded : goal.returns-in-Ok-None-clause-bounded
returns-in-Ok-None-clause-bounded g c = c.accepted.invariant.2

pub returns-in-Err-clause-bounded : goal.returns-in-Err-clause-bounded
returns-in-Err-clause-bounded g c = c.accepted.invariant.2

pub returns-clause-bounded : goal.returns-clause-bounded
returns-clause-bounded g c = c.accepted.invariant.2

pub returns-in-Ok-None-clause-changes : goal.returns-in-Ok-None-clause-changes
returns-in-Ok-None-clause-changes g c = λ first start clock h. changes_later first start _ _ _ (c.accepted.invariant.3 first start clock h) c.accept_one.ensures.later

pub returns-in-Err-clause-changes : goal.returns-in-Err-clause-changes
returns-in-Err-clause-changes g c = λ first start clock h. changes_later first start _ _ _ (c.accepted.invariant.3 first start clock h) c.accept_one.ensures.later

pub returns-clause-changes : goal.returns-clause-changes
returns-clause-changes g c = c.accepted.invariant.3
