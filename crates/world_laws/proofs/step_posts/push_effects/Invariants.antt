use Rattle.std.proofs.Common.{◌≡◌, ◌++◌, drop, map}
use Rattle.at_model.specs.World.{happened_at}
use Rattle.world_laws.proofs.step_posts.push_effects.Given as goal

abbrev pub invariant-loop-effect : goal.invariant-loop-effect
invariant-loop-effect l =
    l.happened.items ++ map (happened_at l.number) (drop l.effect-index l.effects)
    ≡ l.fn.happened.items ++ map (happened_at l.number) l.effects
