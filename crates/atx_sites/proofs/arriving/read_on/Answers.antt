use Rattle.std.proofs.Common.{◌∙◌, ap}
use Rattle.atx_sites.proofs.Comings.{came_by, grown_more, later_by, later_still, still_came}
use Rattle.atx_sites.specs.LinkCalls.Later.{none}
use Rattle.atx_sites.proofs.arriving.read_on.Goals as goal
use Rattle.atx_sites.proofs.arriving.read_on.Goals.{then-n-eq0+then-eq, else-n-eq0}

pub returns-in_err-millis-clause-later : goal.returns-in_err-millis-clause-later
returns-in_err-millis-clause-later g c = later_still _ _ _ c.reads.invariant.1 c.left.ensures

pub returns-then-arriving-clause-later : goal.returns-then-arriving-clause-later
returns-then-arriving-clause-later g c = later_still _ _ _ (later_still _ _ _ c.reads.invariant.1 c.left.ensures) c.read_once-n.ensures.later

pub reads-preserved : goal.reads-preserved
reads-preserved g c =
    elim c.if-n-eq0.branch [
      | then-n-eq0+then-eq w ↦ (
        (λ listener h. came_by _ _ _ _ _ _ (c.read_once-n.ensures.came listener (still_came _ _ _ _ _ (c.reads.invariant.0 listener h) c.left.ensures)) (ap g.S.System.calls w.system-is ∙ w.poll.ensures)),
        later_by _ _ _ _ (later_still _ _ _ (later_still _ _ _ c.reads.invariant.1 c.left.ensures) c.read_once-n.ensures.later) (ap g.S.System.calls w.system-is ∙ w.poll.ensures),
        grown_more _ _ _ c.reads.invariant.2 c.read_once-n.ensures.grows,
      )
      | else-n-eq0 w ↦ (
        (λ listener h. still_came _ _ _ _ _ (c.read_once-n.ensures.came listener (still_came _ _ _ _ _ (c.reads.invariant.0 listener h) c.left.ensures)) (none (ap g.S.System.calls w.system-is))),
        later_still _ _ _ (later_still _ _ _ (later_still _ _ _ c.reads.invariant.1 c.left.ensures) c.read_once-n.ensures.later) (none (ap g.S.System.calls w.system-is)),
        grown_more _ _ _ c.reads.invariant.2 c.read_once-n.ensures.grows,
      )
    ]
