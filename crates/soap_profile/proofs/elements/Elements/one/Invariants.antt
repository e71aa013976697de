use Rattle.std.proofs.Common.{◌≡◌, drop, map}
use Rattle.std.specs.Option.{option_copied}
use Rattle.soap_profile.specs.Children.{at_most_one, named}
use Rattle.soap_profile.proofs.Lookups.{ahead}
use Rattle.soap_profile.proofs.elements.Elements.one.Given as goal

abbrev pub invariant-loop-element : goal.invariant-loop-element
invariant-loop-element l =
    ahead (option_copied l.found) (named (map (λ t. t.now) (drop l.element-index l.element-items)) l.space l.local)
    ≡ at_most_one (named l.self l.space l.local)
