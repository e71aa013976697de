-- A list of children is empty where its forest ends at once.
use Rattle.std.proofs.Common.{◌≡◌, refl, ℕ, suc, List, [], ◌∷◌, length, ◌==◌, false, arith}
use Rattle.std.proofs.lemmas.Bool.Decides.{nat_tests}
use Rattle.xml_profile.specs.declared.tree.Child.{Child}
use Rattle.xml_profile.specs.declared.tree.Child.TheVariants.{Element, Text}
use Rattle.xml_profile.specs.Children.{forest_of}
use Rattle.xml_profile.specs.CanonicalText.{is_end}

some : (n : ℕ) → (suc n == 0) ≡ false
some n = grind (arith, nat_tests)

pub ends : (items : List Child) → (length items == 0) ≡ is_end (forest_of items)
ends [] = refl
ends (Text t ∷ rest) = some (length rest)
ends (Element t ∷ rest) = some (length rest)
