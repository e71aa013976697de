use Rattle.std.proofs.Common.{refl, ◌∙◌, arith}
use Rattle.node_at.specs.State.{seen}
use Rattle.serving.specs.Runs.{all_items}
use Rattle.serving.specs.Sessions.{notes_of}
use Rattle.serving.proofs.Sessions.{first_notes, line_waits, so_far_begin, so_far_done, so_far_end, so_far_line, so_far_stop_line, so_far_stop_turn, so_far_turn, turn_waits, waited_within}
use Rattle.serving.proofs.session.Session.attend.Goals as goal

pub loop-line-init : goal.loop-line-init
loop-line-init g c = (
  so_far_begin g.H.Site.told c.args.self.now.node.role (all_items c.args.lines.now c.args.turns) (seen c.args.self.now.node) c.args.site.now _ _ (first_notes c.args.self.now c.requires.first),
  c.requires.node,
  refl,
  omega arith,
  omega (arith, c.requires.first.3),
)

pub returns-in-Some-take-clause-attends : goal.returns-in-Some-take-clause-attends
returns-in-Some-take-clause-attends g c =
    so_far_stop_line g.H.Site.told c.args.self.now.node.role (all_items c.args.lines.now c.args.turns) (seen c.args.self.now.node) c.args.site.now c.args.turns
    c.in-Some.line.now c.loop-line.rest.now c.in-Some.behind.now (notes_of c.loop-line.self) (notes_of c.take.new.self) (seen c.loop-line.self.node) (seen c.take.new.self.node)
    c.loop-line.site c.take.new.site _ _ _ c.loop-line.self.node.role c.loop-line.invariant.2 c.take.result c.in-Some-take.ended c.in-Some-take.is c.in-Some.ensures
    c.loop-line.invariant.0 c.take.ensures.takes

pub loop-line-preserved : goal.loop-line-preserved
loop-line-preserved g c = (
  so_far_line g.H.Site.told c.args.self.now.node.role (all_items c.args.lines.now c.args.turns) (seen c.args.self.now.node) c.args.site.now c.args.turns
      c.in-Some.line.now c.loop-line.rest.now c.in-Some.behind.now (notes_of c.loop-line.self) (notes_of c.take.new.self) (seen c.loop-line.self.node) (seen c.take.new.self.node)
      c.loop-line.site c.take.new.site _ _ _ c.left-rest.result.now c.loop-line.self.node.role c.loop-line.invariant.2 c.take.result c.in-None.is c.in-Some.ensures
      c.left-rest.ensures c.loop-line.invariant.0 c.take.ensures.takes,
  c.take.ensures.node,
  c.take.ensures.role ∙ c.loop-line.invariant.2,
  omega (arith, c.take.ensures.later, c.loop-line.invariant.3),
  waited_within c.loop-line.self.waited c.take.new.self.waited
      (line_waits g.H.Site.told c.args.self.now.node.role (all_items c.args.lines.now c.args.turns) (seen c.args.self.now.node) c.args.site.now c.args.turns
      c.in-Some.line.now c.loop-line.rest.now c.in-Some.behind.now (notes_of c.loop-line.self) (notes_of c.take.new.self) (seen c.loop-line.self.node) (seen c.take.new.self.node)
      c.loop-line.site c.take.new.site (g.K.Sink.contents c.args.sink.now) _ _ c.loop-line.self.node.role c.loop-line.invariant.2 c.take.result c.in-None.is c.take.ensures.takes
      c.loop-line.invariant.4),
)

pub returns-in-Some-take-2-clause-attends : goal.returns-in-Some-take-2-clause-attends
returns-in-Some-take-2-clause-attends g c =
    so_far_stop_turn g.H.Site.told c.args.self.now.node.role (all_items c.args.lines.now c.args.turns) (seen c.args.self.now.node) c.args.site.now c.loop.counter c.args.turns
    c.loop-test.true (notes_of c.loop.self) (notes_of c.take-in-loop.new.self) (seen c.loop.self.node) (seen c.take-in-loop.new.self.node) c.loop.site c.take-in-loop.new.site _ _ _
    c.loop.self.node.role c.loop.invariant.2 c.take-in-loop.result c.in-Some-take-2.ended c.in-Some-take-2.is c.loop.invariant.0 c.take-in-loop.ensures.takes

pub loop-preserved : goal.loop-preserved
loop-preserved g c = (
  so_far_turn g.H.Site.told c.args.self.now.node.role (all_items c.args.lines.now c.args.turns) (seen c.args.self.now.node) c.args.site.now c.loop.counter c.args.turns
      c.loop-test.true (notes_of c.loop.self) (notes_of c.take-in-loop.new.self) (seen c.loop.self.node) (seen c.take-in-loop.new.self.node) c.loop.site c.take-in-loop.new.site _ _ _
      c.loop.self.node.role c.loop.invariant.2 c.take-in-loop.result c.in-None-take.is c.loop.invariant.0 c.take-in-loop.ensures.takes,
  c.take-in-loop.ensures.node,
  c.take-in-loop.ensures.role ∙ c.loop.invariant.2,
  omega (arith, c.take-in-loop.ensures.later, c.loop.invariant.3),
  turn_waits g.H.Site.told c.args.self.now.node.role (all_items c.args.lines.now c.args.turns) (seen c.args.self.now.node) c.args.site.now c.loop.counter c.args.turns
      c.loop-test.true (notes_of c.loop.self) (notes_of c.take-in-loop.new.self) (seen c.loop.self.node) (seen c.take-in-loop.new.self.node) c.loop.site c.take-in-loop.new.site
      (g.K.Sink.contents c.args.sink.now) _ _ c.loop.self.node.role c.loop.invariant.2 c.take-in-loop.result c.in-None-take.is c.take-in-loop.ensures.takes,
)

pub returns-clause-attends : goal.returns-clause-attends
returns-clause-attends g c =
    so_far_end g.H.Site.told c.args.self.now.node.role (all_items c.args.lines.now c.args.turns) (seen c.args.self.now.node) c.args.site.now c.loop.site (notes_of c.loop.self)
    (seen c.loop.self.node) c.done_by.result _ _ c.done_by.ensures
    (so_far_done g.H.Site.told c.args.self.now.node.role (all_items c.args.lines.now c.args.turns) (seen c.args.self.now.node) c.args.site.now c.loop.counter c.args.turns
    (notes_of c.loop.self) (seen c.loop.self.node) c.loop.site _ _ (λ h. omega (arith, h, c.loop-test.false)) c.loop.invariant.0)
