use Rattle.atx_sites.proofs.Pushes.{maybe_came}
use Rattle.atx_sites.proofs.waiting.Waiting.keep.Goals as goal

pub returns-then-len-room-clause-changes : goal.returns-then-len-room-clause-changes
returns-then-len-room-clause-changes g c = λ first start calls clock ten h.
    maybe_came first start c.push.result _ _ calls c.args.now c.args.arriving clock ten c.push.ensures.items (c.has_room.ensures.changes first start calls clock h)
