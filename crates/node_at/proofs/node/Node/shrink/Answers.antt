use Rattle.std.proofs.Common.{refl}
use Rattle.node_at.specs.ShrunkJournals.{shrunk_by}
use Rattle.node_at.specs.State.{seen}
use Rattle.node_at.proofs.ShrunkJournals.{node_by, node_memory, shrinks_by, shrinks_same, stays_by, stays_memory, stays_still, sure_at}
use Rattle.node_at.proofs.node.Node.shrink.Goals as goal

pub returns-then-not-is_due-clause-stays : goal.returns-then-not-is_due-clause-stays
returns-then-not-is_due-clause-stays g c = λ rs o kept. stays_still rs (seen c.args.self.now) _ o

pub returns-in-Ok-clause-shrinks : goal.returns-in-Ok-clause-shrinks
returns-in-Ok-clause-shrinks g c =
    shrinks_same (shrunk_by c.in-Ok.ended) c.compacted.result (seen c.args.self.now) (seen c.compacted.new.self) _ _ c.compacted.ensures.result
    (shrinks_by c.in-Ok.ended (seen c.args.self.now) (seen c.compacted.new.self) c.shrink.new.journal _ _ (sure_at (seen c.args.self.now) c.requires.node (c.if-not-is_due.ensures.yes refl).runs) (c.if-not-is_due.ensures.yes refl)
    c.in-Ok.ensures.compacted c.in-Ok.ensures.records c.compacted.ensures.seen c.in-Ok.ensures.limit)

pub returns-in-Ok-clause-stays : goal.returns-in-Ok-clause-stays
returns-in-Ok-clause-stays g c = λ rs o kept.
    stays_by rs (seen c.args.self.now) (seen c.compacted.new.self) c.shrink.new.journal _ _ c.are_bodies.ensures c.shrinks_the_same.ensures o kept c.in-Ok.ensures.records c.in-Ok.ensures.counted c.requires.node.begun
    c.in-Ok.ended c.in-Ok.ensures.compacted c.compacted.ensures.seen

pub returns-in-Err-clause-stays : goal.returns-in-Err-clause-stays
returns-in-Err-clause-stays g c = λ rs o kept.
    stays_memory g.S.Site.told rs (seen (record c.args.self.now { journal = c.shrink.new.journal })) c.args.self.now.journal _ _ (c.in-Err.ensures.memory refl).0 (c.in-Err.ensures.memory refl).1 o

pub returns-in-Ok-clause-node : goal.returns-in-Ok-clause-node
returns-in-Ok-clause-node g c =
    node_by c.in-Ok.ended (seen c.args.self.now) (seen c.compacted.new.self) c.shrink.new.journal _ _ c.requires.node (c.if-not-is_due.ensures.yes refl).runs c.in-Ok.ensures.compacted c.compacted.ensures.seen

pub returns-in-Err-clause-node : goal.returns-in-Err-clause-node
returns-in-Err-clause-node g c = node_memory (seen c.args.self.now) c.shrink.new.journal (c.in-Err.ensures.memory refl).1 c.requires.node
