use Rattle.std.proofs.Common.{◌≡◌, length}
use Rattle.xml_profile.specs.SpellableTrees.{are_apart}
use Rattle.xml_profile.proofs.spellable_trees.are_apart.Given as goal

abbrev pub invariant-loop-first : goal.invariant-loop-first
invariant-loop-first l = are_apart l.rest ≡ are_apart l.attributes

abbrev pub decreases-loop-first : goal.decreases-loop-first
decreases-loop-first l = length l.rest
