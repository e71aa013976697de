use Rattle.std.proofs.Common.{◌∙◌}
use Rattle.atx_sites.proofs.Changing.{changed_since, changes_later, read_from}
use Rattle.atx_sites.proofs.Comings.{have_still, later_still}
use Rattle.atx_sites.proofs.showing.show_until.Goals as goal

pub returns-in_default-clause-came : goal.returns-in_default-clause-came
returns-in_default-clause-came g c = λ h. have_still g.S.Stream.AsRawFd.raw_fd _ _ _ _ (c.waits.invariant.0 h) c.advance.ensures.later

pub returns-in_default-clause-later : goal.returns-in_default-clause-later
returns-in_default-clause-later g c = later_still _ _ _ c.waits.invariant.1 c.advance.ensures.later

pub returns-in_default-clause-bounded : goal.returns-in_default-clause-bounded
returns-in_default-clause-bounded g c = c.waits.invariant.2

pub returns-in_default-clause-within : goal.returns-in_default-clause-within
returns-in_default-clause-within g c = λ h. c.advance.ensures.within (c.waits.invariant.3 h)

pub returns-in_default-clause-changes : goal.returns-in_default-clause-changes
returns-in_default-clause-changes g c = λ first start h. changes_later first start _ _ _ (c.waits.invariant.4 first start h) c.advance.ensures.later

pub returns-in_default-clause-timed : goal.returns-in_default-clause-timed
returns-in_default-clause-timed g c = λ h. c.advance.ensures.timed (c.waits.invariant.5 h)

pub returns-in_default-clause-names : goal.returns-in_default-clause-names
returns-in_default-clause-names g c = c.advance.ensures.names ∙ c.waits.invariant.6

pub returns-then-not-show_or_wait-clause-came : goal.returns-then-not-show_or_wait-clause-came
returns-then-not-show_or_wait-clause-came g c = λ h. c.show_or_wait.ensures.came (have_still g.S.Stream.AsRawFd.raw_fd _ _ _ _ (c.waits.invariant.0 h) c.advance.ensures.later)

pub returns-then-not-show_or_wait-clause-later : goal.returns-then-not-show_or_wait-clause-later
returns-then-not-show_or_wait-clause-later g c = later_still _ _ _ (later_still _ _ _ c.waits.invariant.1 c.advance.ensures.later) c.show_or_wait.ensures.later

pub returns-then-not-show_or_wait-clause-bounded : goal.returns-then-not-show_or_wait-clause-bounded
returns-then-not-show_or_wait-clause-bounded g c = λ h. c.show_or_wait.ensures.bounded (c.waits.invariant.2 h)

pub returns-then-not-show_or_wait-clause-within : goal.returns-then-not-show_or_wait-clause-within
returns-then-not-show_or_wait-clause-within g c = λ h. c.show_or_wait.ensures.within (c.advance.ensures.within (c.waits.invariant.3 h))

pub returns-then-not-show_or_wait-clause-changes : goal.returns-then-not-show_or_wait-clause-changes
returns-then-not-show_or_wait-clause-changes g c = λ first start h.
    let since = later_still _ _ _ (changed_since first start _ _ h) c.waits.invariant.1 in
    c.show_or_wait.ensures.changes first start (read_from c.in-Ok.now start _ _ since c.in-Ok.ensures.clock) (changes_later first start _ _ _ (c.waits.invariant.4 first start h) c.advance.ensures.later)

pub returns-then-not-show_or_wait-clause-timed : goal.returns-then-not-show_or_wait-clause-timed
returns-then-not-show_or_wait-clause-timed g c = λ h. c.show_or_wait.ensures.timed (c.advance.ensures.timed (c.waits.invariant.5 h))

pub returns-then-not-show_or_wait-clause-names : goal.returns-then-not-show_or_wait-clause-names
returns-then-not-show_or_wait-clause-names g c = c.show_or_wait.ensures.names ∙ (c.advance.ensures.names ∙ c.waits.invariant.6)

pub waits-preserved : goal.waits-preserved
waits-preserved g c = (
  (λ h. c.show_or_wait.ensures.came (have_still g.S.Stream.AsRawFd.raw_fd _ _ _ _ (c.waits.invariant.0 h) c.advance.ensures.later)),
  (later_still _ _ _ (later_still _ _ _ c.waits.invariant.1 c.advance.ensures.later) c.show_or_wait.ensures.later),
  (λ h. c.show_or_wait.ensures.bounded (c.waits.invariant.2 h)),
  (λ h. c.show_or_wait.ensures.within (c.advance.ensures.within (c.waits.invariant.3 h))),
  (λ first start h.
      let since = later_still _ _ _ (changed_since first start _ _ h) c.waits.invariant.1 in
      c.show_or_wait.ensures.changes first start (read_from c.in-Ok.now start _ _ since c.in-Ok.ensures.clock) (changes_later first start _ _ _ (c.waits.invariant.4 first start h) c.advance.ensures.later)),
  (λ h. c.show_or_wait.ensures.timed (c.advance.ensures.timed (c.waits.invariant.5 h))),
  (c.show_or_wait.ensures.names ∙ (c.advance.ensures.names ∙ c.waits.invariant.6)),
)

pub returns-clause-came : goal.returns-clause-came
returns-clause-came g c = c.waits.invariant.0

pub returns-clause-later : goal.returns-clause-later
returns-clause-later g c = c.waits.invariant.1

pub returns-clause-bounded : goal.returns-clause-bounded
returns-clause-bounded g c = c.waits.invariant.2

pub returns-clause-within : goal.returns-clause-within
returns-clause-within g c = c.waits.invariant.3

pub returns-clause-changes : goal.returns-clause-changes
returns-clause-changes g c = c.waits.invariant.4

pub returns-clause-timed : goal.returns-clause-timed
returns-clause-timed g c = c.waits.invariant.5

pub returns-clause-names : goal.returns-clause-names
returns-clause-names g c = c.waits.invariant.6
