use Rattle.std.proofs.Common.{◌≡◌, drop}
use Rattle.xml_profile.specs.Children.{forest_of}
use Rattle.xml_profile.specs.SpellableTrees.{texts_apart}
use Rattle.xml_profile.proofs.AdjacentTexts.{apart_from}
use Rattle.xml_profile.proofs.spellable_trees.texts_apart.Given as goal

abbrev pub invariant-loop-child : goal.invariant-loop-child
invariant-loop-child l = apart_from l.after_text (forest_of (drop l.child-index l.child-items)) ≡ texts_apart l.children
