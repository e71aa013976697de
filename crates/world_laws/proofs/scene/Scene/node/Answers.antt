use Rattle.std.proofs.Common.{sym, ap, ◌∙◌}
use Rattle.at_model.specs.World.{nth}
use Rattle.world_laws.specs.Moves.{Scene}
use Rattle.world_laws.proofs.NumberedItems.{found, nth_none}
use Rattle.world_laws.proofs.scene.Scene.node.Goals as goal

pub returns-then-number-eq0 : goal.returns-then-number-eq0
returns-then-number-eq0 c = rw c.if-number-eq0.true (sym (nth_none c.args.self.now.nodes))

pub returns : goal.returns
returns c =
    found c.args.number c.deref.result.now c.get.result c.if-number-eq0.false c.get.ensures.lookup
    ∙ ap (nth c.args.number) c.deref.ensures.value
    ∙ ap (λ (s : Scene). nth c.args.number s.nodes) c.self.view_is
