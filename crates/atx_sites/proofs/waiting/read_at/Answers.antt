use Rattle.std.proofs.Common.{refl, rules, subst, sym}
use Rattle.atx_sites.specs.Arrivals.{Bounded, HaveCome}
use Rattle.atx_sites.proofs.Bounds.{bounded_left, bounded_set}
use Rattle.atx_sites.proofs.Changing.{changes_later, read_on_at, weighed_out}
use Rattle.atx_sites.proofs.Comings.{have_removed, have_set, have_still, has_taken}
use Rattle.atx_sites.proofs.waiting.read_at.Goals as goal

pub returns-then-room-gt0-clause-came : goal.returns-then-room-gt0-clause-came
returns-then-room-gt0-clause-came g c = λ listener h.
    let number = g.S.Stream.AsRawFd.raw_fd in
    have_set number listener _ _ c.args.place c.hear.new.arriving (have_still number listener _ _ _ h c.hear.ensures.later)
    (c.hear.ensures.came listener (has_taken number listener _ c.args.waiting.now.arriving.items c.args.place c.index_mut-arriving.result.now h c.requires c.index_mut-arriving.ensures.value))

pub returns-clause-came : goal.returns-clause-came
returns-clause-came g c = λ listener h.
    let number = g.S.Stream.AsRawFd.raw_fd in
    subst (HaveCome number listener _) (sym c.remove.ensures.items)
    (have_removed number listener _ _ c.args.place
    (have_set number listener _ _ c.args.place c.hear.new.arriving (have_still number listener _ _ _ h c.hear.ensures.later)
    (c.hear.ensures.came listener (has_taken number listener _ c.args.waiting.now.arriving.items c.args.place c.index_mut-arriving.result.now h c.requires c.index_mut-arriving.ensures.value))))

pub returns-then-room-gt0-clause-bounded : goal.returns-then-room-gt0-clause-bounded
returns-then-room-gt0-clause-bounded g c = λ h.
    bounded_set c.args.waiting.now.arriving.items c.args.place c.index_mut-arriving.result.now c.hear.new.arriving c.requires c.index_mut-arriving.ensures.value c.room-room.result c.hear.ensures.most c.room-room.ensures c.hear.ensures.bound h

pub returns-clause-bounded : goal.returns-clause-bounded
returns-clause-bounded g c = λ h.
    subst Bounded (sym c.remove.ensures.items)
    (bounded_left c.args.waiting.now.arriving.items c.args.place c.index_mut-arriving.result.now c.hear.new.arriving c.remove.result c.requires c.index_mut-arriving.ensures.value c.room-room.result c.hear.ensures.most c.room-room.ensures c.hear.ensures.bound h)

pub returns-then-room-gt0-clause-changes : goal.returns-then-room-gt0-clause-changes
returns-then-room-gt0-clause-changes g c = λ first start h.
    read_on_at first start c.args.waiting.now.arriving.items _ _ c.args.place c.index_mut-arriving.result.now c.hear.new.arriving c.requires c.index_mut-arriving.ensures.value c.hear.ensures.stays refl
    (changes_later first start _ _ _ h c.hear.ensures.later)

pub returns-clause-changes : goal.returns-clause-changes
returns-clause-changes g c = λ first start h.
    weighed_out first start _ _ _ c.args.place c.index.result.now (search rules) (search rules) (search rules) c.remove.ensures.items
    (read_on_at first start c.args.waiting.now.arriving.items _ _ c.args.place c.index_mut-arriving.result.now c.hear.new.arriving c.requires c.index_mut-arriving.ensures.value c.hear.ensures.stays refl
    (changes_later first start _ _ _ h c.hear.ensures.later))
