use Rattle.atx_sites.proofs.Afterwards.{posts_to_later}
use Rattle.atx_sites.proofs.Changing.{read_clock, was_read}
use Rattle.atx_sites.proofs.NamesKept.{still_kept}
use Rattle.std.proofs.Common.{[], inl, refl}
use Rattle.atx_sites.proofs.DepartureLists.{looked_clock, same_bytes, whole}
use Rattle.atx_sites.proofs.Comings.{late_by}
use Rattle.atx_sites.proofs.Leavings.{untried}
use Rattle.atx_sites.proofs.NamesKept.{reaches_behind}
use Rattle.atx_sites.proofs.departures.begin_post.Goals as goal

pub returns-in_default-clause-posts : goal.returns-in_default-clause-posts
returns-in_default-clause-posts g c = (c.addresses.ensures.found.0, c.addresses.ensures.found.1, [], _, c.addresses.ensures.found.2, (λ h. inl refl), (c.args.departures.now.leaving.items, whole _, inl (refl, refl, untried _ _)))

pub returns-in_default-monotonic-clause-posts : goal.returns-in_default-monotonic-clause-posts
returns-in_default-monotonic-clause-posts g c =
    (c.addresses.ensures.found.0, c.addresses.ensures.found.1, [], _, looked_clock _ _ _ _ _ _ c.addresses.ensures.found.2 c.monotonic.ensures, (λ h. inl refl), (c.args.departures.now.leaving.items, whole _, inl (refl, refl, untried _ _)))

pub returns-in_default-copied-clause-posts : goal.returns-in_default-copied-clause-posts
returns-in_default-copied-clause-posts g c =
    (c.addresses.ensures.found.0, c.addresses.ensures.found.1, [], _, looked_clock _ _ _ _ _ _ c.addresses.ensures.found.2 c.monotonic.ensures, (λ h. inl refl), (c.args.departures.now.leaving.items, whole _, inl (refl, refl, untried _ _)))

pub returns-clause-posts : goal.returns-clause-posts
returns-clause-posts g c =
    let posts = same_bytes _ _ c.args.bytes.now _ _ _ _ _ _ c.in-Ok-copied.ensures (c.post_to.ensures.posts (was_read c.in-Ok-monotonic.now _ _ (read_clock c.in-Ok-monotonic.now c.monotonic.result _ _ c.monotonic.ensures c.in-Ok-monotonic.is))) in
    (c.in-Ok.ensures.found.0, c.in-Ok.ensures.found.1, _, _, looked_clock _ _ _ _ _ _ c.in-Ok.ensures.found.2 c.monotonic.ensures, (λ h. reaches_behind _ _ _ _ _ _ (c.in-Ok.ensures.found.3 h) (late_by _ _ _ c.monotonic.ensures)), posts)

pub returns-in_default-clause-kept : goal.returns-in_default-clause-kept
returns-in_default-clause-kept g c = λ h. c.addresses.ensures.kept h

pub returns-in_default-monotonic-clause-kept : goal.returns-in_default-monotonic-clause-kept
returns-in_default-monotonic-clause-kept g c = λ h. still_kept _ _ _ (c.addresses.ensures.kept h) (late_by _ _ _ c.monotonic.ensures)

pub returns-in_default-copied-clause-kept : goal.returns-in_default-copied-clause-kept
returns-in_default-copied-clause-kept g c = λ h. still_kept _ _ _ (c.addresses.ensures.kept h) (late_by _ _ _ c.monotonic.ensures)

pub returns-clause-kept : goal.returns-clause-kept
returns-clause-kept g c = λ h.
    still_kept _ _ _ (still_kept _ _ _ (c.in-Ok.ensures.kept h) (late_by _ _ _ c.monotonic.ensures))
    (posts_to_later _ _ _ _ _ _ _ _ (c.post_to.ensures.posts (was_read c.in-Ok-monotonic.now _ _ (read_clock c.in-Ok-monotonic.now c.monotonic.result _ _ c.monotonic.ensures c.in-Ok-monotonic.is))))
