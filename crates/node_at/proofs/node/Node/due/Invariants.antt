use Rattle.std.proofs.Common.{◌≡◌, false, length}
use Rattle.interposition.specs.Due.{items_behind}
use Rattle.node_at.specs.Dues.{SoFar}
use Rattle.node_at.specs.State.{IsNode, seen}
use Rattle.node_at.proofs.node.Node.due.Given as goal

abbrev pub invariant-loop-item : goal.invariant-loop-item
invariant-loop-item g l =
    SoFar l.now l.after l.came (seen l.fn.self) (seen l.self) (g.S.Site.told l.fn.site) (g.S.Site.told l.site)
    × IsNode (seen l.self) × (l.self.halted ≡ false) × (l.self.role ≡ l.fn.self.role) × ((g.S.Site.told l.site).counts.receive ≡ (g.S.Site.told l.fn.site).counts.receive)

abbrev pub decreases-loop-item : goal.decreases-loop-item
decreases-loop-item g l = length (items_behind l.self.book l.after)
