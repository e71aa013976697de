use Rattle.std.proofs.Common.{◌∙◌}
use Rattle.atx_sites.proofs.Changing.{changed_since, changes_later, read_behind, read_from}
use Rattle.atx_sites.proofs.DepartureTimes.{all_on_time_from, all_on_time_later, all_timed_later}
use Rattle.atx_sites.proofs.Comings.{have_still, later_still}
use Rattle.atx_sites.proofs.connection.wait.Goals as goal

pub returns-in-Err-clause-came : goal.returns-in-Err-clause-came
returns-in-Err-clause-came g c = λ h. have_still g.S.Stream.AsRawFd.raw_fd _ _ _ _ (c.waits.invariant.0 h) c.advance.ensures.later

pub returns-in-Err-clause-later : goal.returns-in-Err-clause-later
returns-in-Err-clause-later g c = later_still _ _ _ c.waits.invariant.1 c.advance.ensures.later

pub returns-in-Err-wait_once-clause-came : goal.returns-in-Err-wait_once-clause-came
returns-in-Err-wait_once-clause-came g c =
    λ h. c.wait_once.ensures.came (have_still g.S.Stream.AsRawFd.raw_fd _ _ _ _ (c.waits.invariant.0 h) c.advance.ensures.later)

pub returns-in-Err-wait_once-clause-later : goal.returns-in-Err-wait_once-clause-later
returns-in-Err-wait_once-clause-later g c = later_still _ _ _ (later_still _ _ _ c.waits.invariant.1 c.advance.ensures.later) c.wait_once.ensures.later

pub returns-in-Some-clause-came : goal.returns-in-Some-clause-came
returns-in-Some-clause-came g c =
    λ h. c.next.ensures.came _ (c.wait_once.ensures.came (have_still g.S.Stream.AsRawFd.raw_fd _ _ _ _ (c.waits.invariant.0 h) c.advance.ensures.later))

pub returns-in-Some-clause-later : goal.returns-in-Some-clause-later
returns-in-Some-clause-later g c = later_still _ _ _ (later_still _ _ _ (later_still _ _ _ c.waits.invariant.1 c.advance.ensures.later) c.wait_once.ensures.later) c.in-Some.ensures.later

pub returns-in-Some-clause-taken : goal.returns-in-Some-clause-taken
returns-in-Some-clause-taken g c =
    λ h. c.in-Some.ensures.taken _ (c.wait_once.ensures.came (have_still g.S.Stream.AsRawFd.raw_fd _ _ _ _ (c.waits.invariant.0 h) c.advance.ensures.later))

pub returns-then-is_over-clause-came : goal.returns-then-is_over-clause-came
returns-then-is_over-clause-came g c =
    λ h. c.next.ensures.came _ (c.wait_once.ensures.came (have_still g.S.Stream.AsRawFd.raw_fd _ _ _ _ (c.waits.invariant.0 h) c.advance.ensures.later))

pub returns-then-is_over-clause-later : goal.returns-then-is_over-clause-later
returns-then-is_over-clause-later g c = later_still _ _ _ (later_still _ _ _ (later_still _ _ _ c.waits.invariant.1 c.advance.ensures.later) c.wait_once.ensures.later) c.next.ensures.later

pub waits-preserved : goal.waits-preserved
waits-preserved g c = (
  λ h. c.next.ensures.came _ (c.wait_once.ensures.came (have_still g.S.Stream.AsRawFd.raw_fd _ _ _ _ (c.waits.invariant.0 h) c.advance.ensures.later)),
  later_still _ _ _ (later_still _ _ _ (later_still _ _ _ c.waits.invariant.1 c.advance.ensures.later) c.wait_once.ensures.later) c.next.ensures.later,
  (λ h. c.next.ensures.bounded (c.wait_once.ensures.bounded (c.waits.invariant.2 h))),
  (λ h. c.next.ensures.within (c.advance.ensures.within (c.waits.invariant.3 h))),
  (λ first start h.
      let changed = c.wait_once.ensures.changes first start (changes_later first start _ _ _ (c.waits.invariant.4 first start h) c.advance.ensures.later) in
      let since = later_still _ _ _ (changed_since first start _ _ h) c.waits.invariant.1 in
      c.next.ensures.changes first start (read_behind _ _ _ _ (read_from c.in-Ok.now start _ _ since c.in-Ok.ensures.clock) c.wait_once.ensures.later) changed),
  (λ h. c.next.ensures.timed (all_timed_later _ _ _ (c.advance.ensures.timed (c.waits.invariant.5 h)) c.wait_once.ensures.later)),
  c.next.ensures.names ∙ (c.advance.ensures.names ∙ c.waits.invariant.6),
)

pub returns-in-Err-clause-fault : goal.returns-in-Err-clause-fault
returns-in-Err-clause-fault g c = c.in-Err.ensures.fault _

pub returns-in-Err-clause-bounded : goal.returns-in-Err-clause-bounded
returns-in-Err-clause-bounded g c = c.waits.invariant.2

pub returns-in-Err-wait_once-clause-bounded : goal.returns-in-Err-wait_once-clause-bounded
returns-in-Err-wait_once-clause-bounded g c = λ h. c.wait_once.ensures.bounded (c.waits.invariant.2 h)

pub returns-in-Some-clause-bounded : goal.returns-in-Some-clause-bounded
returns-in-Some-clause-bounded g c = λ h. c.next.ensures.bounded (c.wait_once.ensures.bounded (c.waits.invariant.2 h))

pub returns-then-is_over-clause-bounded : goal.returns-then-is_over-clause-bounded
returns-then-is_over-clause-bounded g c = λ h. c.next.ensures.bounded (c.wait_once.ensures.bounded (c.waits.invariant.2 h))

pub returns-clause-bounded : goal.returns-clause-bounded
returns-clause-bounded g c = c.waits.invariant.2

pub returns-in-Err-clause-within : goal.returns-in-Err-clause-within
returns-in-Err-clause-within g c = λ h. c.advance.ensures.within (c.waits.invariant.3 h)

pub returns-in-Err-wait_once-clause-within : goal.returns-in-Err-wait_once-clause-within
returns-in-Err-wait_once-clause-within g c = λ h. c.advance.ensures.within (c.waits.invariant.3 h)

pub returns-in-Some-clause-within : goal.returns-in-Some-clause-within
returns-in-Some-clause-within g c = λ h. c.next.ensures.within (c.advance.ensures.within (c.waits.invariant.3 h))

pub returns-then-is_over-clause-within : goal.returns-then-is_over-clause-within
returns-then-is_over-clause-within g c = λ h. c.next.ensures.within (c.advance.ensures.within (c.waits.invariant.3 h))

pub returns-clause-within : goal.returns-clause-within
returns-clause-within g c = c.waits.invariant.3

pub returns-in-Err-clause-changes : goal.returns-in-Err-clause-changes
returns-in-Err-clause-changes g c = λ first start h. changes_later first start _ _ _ (c.waits.invariant.4 first start h) c.advance.ensures.later

pub returns-in-Err-wait_once-clause-changes : goal.returns-in-Err-wait_once-clause-changes
returns-in-Err-wait_once-clause-changes g c = λ first start h. c.wait_once.ensures.changes first start (changes_later first start _ _ _ (c.waits.invariant.4 first start h) c.advance.ensures.later)

pub returns-in-Some-clause-changes : goal.returns-in-Some-clause-changes
returns-in-Some-clause-changes g c = λ first start h.
    let since = later_still _ _ _ (changed_since first start _ _ h) c.waits.invariant.1 in
    c.in-Some.ensures.changes first start (read_behind _ _ _ _ (read_from c.in-Ok.now start _ _ since c.in-Ok.ensures.clock) c.wait_once.ensures.later)
    (c.wait_once.ensures.changes first start (changes_later first start _ _ _ (c.waits.invariant.4 first start h) c.advance.ensures.later))

pub returns-then-is_over-clause-changes : goal.returns-then-is_over-clause-changes
returns-then-is_over-clause-changes g c = λ first start h.
    let since = later_still _ _ _ (changed_since first start _ _ h) c.waits.invariant.1 in
    c.next.ensures.changes first start (read_behind _ _ _ _ (read_from c.in-Ok.now start _ _ since c.in-Ok.ensures.clock) c.wait_once.ensures.later)
    (c.wait_once.ensures.changes first start (changes_later first start _ _ _ (c.waits.invariant.4 first start h) c.advance.ensures.later))

pub returns-clause-changes : goal.returns-clause-changes
returns-clause-changes g c = c.waits.invariant.4

pub returns-in-Err-clause-timed : goal.returns-in-Err-clause-timed
returns-in-Err-clause-timed g c = λ h. c.advance.ensures.timed (c.waits.invariant.5 h)

pub returns-in-Err-wait_once-clause-timed : goal.returns-in-Err-wait_once-clause-timed
returns-in-Err-wait_once-clause-timed g c = λ h. all_timed_later _ _ _ (c.advance.ensures.timed (c.waits.invariant.5 h)) c.wait_once.ensures.later

pub returns-in-Some-clause-timed : goal.returns-in-Some-clause-timed
returns-in-Some-clause-timed g c = λ h. c.in-Some.ensures.timed (all_timed_later _ _ _ (c.advance.ensures.timed (c.waits.invariant.5 h)) c.wait_once.ensures.later)

pub returns-then-is_over-clause-timed : goal.returns-then-is_over-clause-timed
returns-then-is_over-clause-timed g c = λ h. c.next.ensures.timed (all_timed_later _ _ _ (c.advance.ensures.timed (c.waits.invariant.5 h)) c.wait_once.ensures.later)

pub returns-clause-timed : goal.returns-clause-timed
returns-clause-timed g c = c.waits.invariant.5

pub returns-in-Err-clause-names : goal.returns-in-Err-clause-names
returns-in-Err-clause-names g c = c.advance.ensures.names ∙ c.waits.invariant.6

pub returns-in-Err-wait_once-clause-names : goal.returns-in-Err-wait_once-clause-names
returns-in-Err-wait_once-clause-names g c = c.advance.ensures.names ∙ c.waits.invariant.6

pub returns-in-Some-clause-names : goal.returns-in-Some-clause-names
returns-in-Some-clause-names g c = c.in-Some.ensures.names ∙ (c.advance.ensures.names ∙ c.waits.invariant.6)

pub returns-then-is_over-clause-names : goal.returns-then-is_over-clause-names
returns-then-is_over-clause-names g c = c.next.ensures.names ∙ (c.advance.ensures.names ∙ c.waits.invariant.6)

pub returns-clause-names : goal.returns-clause-names
returns-clause-names g c = c.waits.invariant.6

pub returns-in-Some-clause-in_time : goal.returns-in-Some-clause-in_time
returns-in-Some-clause-in_time g c = (
  c.in-Ok.now,
  read_behind _ _ _ _ (read_behind _ _ _ _ (read_from c.in-Ok.now _ _ _ c.waits.invariant.1 c.in-Ok.ensures.clock) c.wait_once.ensures.later) c.in-Some.ensures.later,
  c.in-Some.ensures.ready,
  c.in-Some.ensures.silent,
)

pub returns-in-Some-clause-pace : goal.returns-in-Some-clause-pace
returns-in-Some-clause-pace g c =
    c.in-Some.ensures.pace _ (later_still _ _ _ (later_still _ _ _ c.waits.invariant.1 c.advance.ensures.later) c.wait_once.ensures.later)
    (all_on_time_later _ _ _ _ (all_on_time_from _ _ _ _ c.waits.invariant.1 c.in-Ok.ensures.pace) c.wait_once.ensures.later)
