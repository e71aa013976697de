-- One pass over children finds two adjacent texts.
use Rattle.std.proofs.Common.{◌≡◌, List, [], ◌∷◌, Bool, true, false, not, ◌&&◌}
use Rattle.xml_profile.specs.declared.tree.Child.{Child}
use Rattle.xml_profile.specs.declared.tree.Child.TheVariants.{Element, Text}
use Rattle.xml_profile.specs.Forest.{Forest}
use Rattle.xml_profile.specs.Children.{forest_of}
use Rattle.xml_profile.specs.SpellableTrees.{begins_with_text, texts_apart}

-- behind a text, or not
abbrev pub apart_from : Bool → Forest → Bool
apart_from b f = not (b && begins_with_text f) && texts_apart f

pub goes_on : (b : Bool) (child : Child) (rest : List Child) (all : Bool) → (b && begins_with_text (forest_of (child ∷ []))) ≡ false → apart_from b (forest_of (child ∷ rest)) ≡ all → apart_from (begins_with_text (forest_of (child ∷ []))) (forest_of rest) ≡ all
goes_on true (Text t) rest all h e = cc
goes_on false (Text t) rest all h e = e
goes_on true (Element t) rest all h e = e
goes_on false (Element t) rest all h e = e

pub stops : (b : Bool) (child : Child) (rest : List Child) (all : Bool) → (b && begins_with_text (forest_of (child ∷ []))) ≡ true → apart_from b (forest_of (child ∷ rest)) ≡ all → all ≡ false
stops true (Text t) rest all h e = cc
stops false (Text t) rest all h e = cc
stops true (Element t) rest all h e = cc
stops false (Element t) rest all h e = cc
