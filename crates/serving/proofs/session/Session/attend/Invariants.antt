use Rattle.std.proofs.Common.{◌≡◌, ◌≤◌, ◌<◌, ◌-◌, ◌^◌, None}
use Rattle.std.specs.Prelude.{replicate}
use Rattle.node_at.specs.State.{IsNode, seen}
use Rattle.serving.specs.Runs.{all_items}
use Rattle.serving.specs.Sessions.{notes_of}
use Rattle.serving.proofs.Sessions.{SoFar, measure}
use Rattle.serving.proofs.session.Session.attend.Given as goal

abbrev pub invariant-loop-line : goal.invariant-loop-line
invariant-loop-line g l =
    SoFar g.H.Site.told l.fn.self.node.role (all_items l.fn.lines l.turns) (all_items l.rest l.turns) (notes_of l.self) (seen l.fn.self.node) (seen l.self.node) l.fn.site l.site
    (g.K.Sink.contents l.fn.sink) (g.K.Sink.contents l.sink)
    × IsNode (seen l.self.node) × (l.self.node.role ≡ l.fn.self.node.role)
    × (g.K.Sink.faults l.fn.sink ≤ g.K.Sink.faults l.sink)
    × (l.self.waited < 2 ^ 64 - 1)

abbrev pub decreases-loop-line : goal.decreases-loop-line
decreases-loop-line g l = measure l.rest l.self.waited

abbrev pub invariant-loop : goal.invariant-loop
invariant-loop g l =
    SoFar g.H.Site.told l.fn.self.node.role (all_items l.fn.lines l.turns) (replicate (l.turns - l.counter) None) (notes_of l.self) (seen l.fn.self.node) (seen l.self.node) l.fn.site l.site
    (g.K.Sink.contents l.fn.sink) (g.K.Sink.contents l.sink)
    × IsNode (seen l.self.node) × (l.self.node.role ≡ l.fn.self.node.role)
    × (g.K.Sink.faults l.fn.sink ≤ g.K.Sink.faults l.sink)
    × (l.self.waited < 2 ^ 64 - 1)
