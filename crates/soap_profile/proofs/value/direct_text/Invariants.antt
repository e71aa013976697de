use Rattle.std.proofs.Common.{◌≡◌, ◌++◌, drop, string_bytes}
use Rattle.xml_profile.specs.Children.{forest_of}
use Rattle.soap_profile.specs.Values.{direct_text}
use Rattle.soap_profile.proofs.value.direct_text.Given as goal

abbrev pub invariant-loop-child : goal.invariant-loop-child
invariant-loop-child l = string_bytes l.joined ++ direct_text (forest_of (drop l.child-index l.child-items)) ≡ direct_text l.children
