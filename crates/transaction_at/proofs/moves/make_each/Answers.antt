use Rattle.transaction_at.proofs.Drafts.{ended, one_done}
use Rattle.transaction_at.proofs.moves.make_each.Goals as goal

pub loop-by-preserved : goal.loop-by-preserved
loop-by-preserved c = one_done c.loop-by.by-index c.args.moves.now c.loop-by.seats _ _ _ c.loop-by-test.true c.make.ensures c.loop-by.invariant

pub returns : goal.returns
returns c = ended c.loop-by.by-index c.args.moves.now c.loop-by.seats _ c.loop-by-test.false c.loop-by.invariant
