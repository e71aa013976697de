use Rattle.std.proofs.Common.{option_copied}
use Rattle.std.specs.Vec.Iter.{into_iter_items}
use Rattle.decision_log.specs.KeptState.{known}
use Rattle.node_at.specs.Sends.{AllMayLeave, Sends, given}
use Rattle.node_at.proofs.send.send_all.Given as goal

abbrev pub invariant-loop-encoded : goal.invariant-loop-encoded
invariant-loop-encoded g l =
    Sends (given (option_copied l.fresh) (known l.kept)) (known l.kept).done l.yielded (g.S.Site.told l.fn.site) (g.S.Site.told l.site)
    × AllMayLeave (given (option_copied l.fresh) (known l.kept)) (known l.kept).done (into_iter_items l.encoded-iterator)
