use Rattle.atx_sites.proofs.Comings.{came_new, have_still}
use Rattle.std.proofs.Common.{◌∙◌}
use Rattle.atx_sites.proofs.Changing.{changes_later, has_ten, read_behind}
use Rattle.atx_sites.proofs.waiting.begin.Goals as goal

pub returns-clause-came : goal.returns-clause-came
returns-clause-came g c = λ listener first h.
    let number = g.S.Stream.AsRawFd.raw_fd in
    c.keep.ensures.came number listener _ (have_still number listener _ _ _ h c.hear.ensures.later)
    (c.hear.ensures.came listener (came_new number listener _ c.args.stream c.args.peer c.new-arriving.result first c.new-arriving.ensures.stream c.new-arriving.ensures.bytes))

pub returns-clause-changes : goal.returns-clause-changes
returns-clause-changes g c = λ first start clock h.
    c.keep.ensures.changes first start _ (read_behind _ _ _ _ clock c.hear.ensures.later)
    (has_ten _ _ c.saturating_add-ends.result c.hear.new.arriving c.saturating_add-ends.ensures c.from_secs.ensures (c.hear.ensures.stays.1 ∙ c.new-arriving.ensures.ends)) (changes_later first start _ _ _ h c.hear.ensures.later)
