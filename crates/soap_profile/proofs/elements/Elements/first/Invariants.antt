use Rattle.std.proofs.Common.{◌≡◌, drop, map}
use Rattle.std.specs.List.{find}
use Rattle.soap_profile.specs.Values.{is_named}
use Rattle.soap_profile.proofs.elements.Elements.first.Given as goal

abbrev pub invariant-loop-element : goal.invariant-loop-element
invariant-loop-element l =
    find (λ t. is_named t.name l.space l.local) (map (λ t. t.now) (drop l.element-index l.element-items))
    ≡ find (λ t. is_named t.name l.space l.local) l.self
