-- What a look-up still gives, from what it found and what is ahead.
use Rattle.std.proofs.Common.{List, ◌∷◌, Option, Some, None}
use Rattle.xml_profile.specs.declared.tree.Tree.{Tree}
use Rattle.soap_profile.specs.Children.{at_most_one}

abbrev pub ahead : Option Tree → List Tree → Option (Option Tree)
ahead None ts = at_most_one ts
ahead (Some t) ts = at_most_one (t ∷ ts)
