use Rattle.std.proofs.Common.{◌∙◌, ap, subst, sym}
use Rattle.atx_sites.specs.Arrivals.{Bounded}
use Rattle.atx_sites.proofs.Changing.{changed_as}
use Rattle.atx_sites.proofs.Comings.{have_as, later_still}
use Rattle.atx_sites.specs.LinkCalls.Later.{none}
use Rattle.atx_sites.specs.declared.waiting.Waiting.{Waiting}
use Rattle.atx_sites.proofs.waiting.read_found.Goals as goal
use Rattle.atx_sites.proofs.waiting.read_found.Goals.{then-not-is_found, then-not-is_found-via-then-not-is_found, then-not-is_found-via-else-not-is_found+then-read_at, else-not-is_found+else-read_at}

pub found-preserved : goal.found-preserved
found-preserved g c =
    let number = g.S.Stream.AsRawFd.raw_fd in
    let items = λ (v : Waiting g.row.S-Stream.Denot). v.arriving.items in
    elim c.if-not-is_found.branch [
      | then-not-is_found w ↦ elim w.then-not-is_found.branch [
        | then-not-is_found-via-then-not-is_found w' ↦ (
          (λ listener h. have_as number listener _ _ _ _ (c.found.invariant.0 listener h) (ap g.S.System.calls (w.system-is ∙ w'.system-is)) (ap items (w.waiting-is ∙ w'.waiting-is))),
          later_still _ _ _ c.found.invariant.1 (none (ap g.S.System.calls (w.system-is ∙ w'.system-is))),
          (λ h. subst Bounded (sym (ap items (w.waiting-is ∙ w'.waiting-is))) (c.found.invariant.2 h)),
          (λ first start h. changed_as first start _ _ _ _ (c.found.invariant.3 first start h) (ap g.S.System.calls (w.system-is ∙ w'.system-is)) (ap items (w.waiting-is ∙ w'.waiting-is))),
        )
        | then-not-is_found-via-else-not-is_found+then-read_at w' ↦ (
          (λ listener h. have_as number listener _ _ _ _ (w'.read_at.ensures.came listener (c.found.invariant.0 listener h)) (ap g.S.System.calls (w.system-is ∙ w'.system-is)) (ap items (w.waiting-is ∙ w'.waiting-is))),
          later_still _ _ _ (later_still _ _ _ c.found.invariant.1 w'.read_at.ensures.later) (none (ap g.S.System.calls (w.system-is ∙ w'.system-is))),
          (λ h. subst Bounded (sym (ap items (w.waiting-is ∙ w'.waiting-is))) (w'.read_at.ensures.bounded (c.found.invariant.2 h))),
          (λ first start h. changed_as first start _ _ _ _ (w'.read_at.ensures.changes first start (c.found.invariant.3 first start h)) (ap g.S.System.calls (w.system-is ∙ w'.system-is)) (ap items (w.waiting-is ∙ w'.waiting-is))),
        )
      ]
      | else-not-is_found+else-read_at w ↦ (
        (λ listener h. have_as number listener _ _ _ _ (w.read_at.ensures.came listener (c.found.invariant.0 listener h)) (ap g.S.System.calls w.system-is) (ap items w.waiting-is)),
        later_still _ _ _ (later_still _ _ _ c.found.invariant.1 w.read_at.ensures.later) (none (ap g.S.System.calls w.system-is)),
        (λ h. subst Bounded (sym (ap items w.waiting-is)) (w.read_at.ensures.bounded (c.found.invariant.2 h))),
        (λ first start h. changed_as first start _ _ _ _ (w.read_at.ensures.changes first start (c.found.invariant.3 first start h)) (ap g.S.System.calls w.system-is) (ap items w.waiting-is)),
      )
    ]

pub returns-then-place-len-clause-bounded : goal.returns-then-place-len-clause-bounded
returns-then-place-len-clause-bounded g c = c.found.invariant.2

pub returns-clause-bounded : goal.returns-clause-bounded
returns-clause-bounded g c = c.found.invariant.2

pub returns-then-place-len-clause-changes : goal.returns-then-place-len-clause-changes
returns-then-place-len-clause-changes g c = c.found.invariant.3

pub returns-clause-changes : goal.returns-clause-changes
returns-clause-changes g c = c.found.invariant.3
