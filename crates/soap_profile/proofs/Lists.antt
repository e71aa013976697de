-- Elements and texts, one more child at a time.
use Rattle.std.proofs.Common.{◌≡◌, ℕ, List, [], ◌∷◌, ◌++◌, map, refl, ap}
use Rattle.std.proofs.lemmas.List.{append-nil}
use Rattle.xml_profile.specs.declared.tree.Tree.{Tree}
use Rattle.xml_profile.specs.declared.tree.Child.{Child}
use Rattle.xml_profile.specs.declared.tree.Child.TheVariants.{Element, Text}
use Rattle.xml_profile.specs.Forest.{Forest}
use Rattle.xml_profile.specs.Forest.Forest.{Element_then}
use Rattle.xml_profile.specs.Children.{forest_of}
use Rattle.soap_profile.specs.Values.{elements, direct_text}
use Rattle.soap_profile.specs.BuiltElements.{children_of, text_children}

pub elements_and_element : (cs : List Child) (t : Tree) → elements (forest_of (cs ++ Element t ∷ [])) ≡ elements (forest_of cs) ++ t ∷ []
elements_and_element [] t = refl
elements_and_element (Element u ∷ cs) t = ap (λ (r : List Tree). u ∷ r) (elements_and_element cs t)
elements_and_element (Text u ∷ cs) t = elements_and_element cs t

pub elements_and_text : (cs : List Child) (t : List ℕ) → elements (forest_of (cs ++ Text t ∷ [])) ≡ elements (forest_of cs)
elements_and_text [] t = refl
elements_and_text (Element u ∷ cs) t = ap (λ (r : List Tree). u ∷ r) (elements_and_text cs t)
elements_and_text (Text u ∷ cs) t = elements_and_text cs t

-- elements alone are read back
pub elements_of_children : (ts : List Tree) → elements (children_of ts) ≡ ts
elements_of_children [] = refl
elements_of_children (t ∷ ts) = ap (λ (r : List Tree). t ∷ r) (elements_of_children ts)

-- elements as children, one more at a time
pub forest_of_elements : (ts : List Tree) → forest_of (map Element ts) ≡ children_of ts
forest_of_elements [] = refl
forest_of_elements (t ∷ ts) = ap (λ (r : Forest). Element_then t.name t.attributes t.children r) (forest_of_elements ts)

-- a text alone is read back
pub direct_text_of_children : (t : List ℕ) → direct_text (text_children t) ≡ t
direct_text_of_children [] = refl
direct_text_of_children (c ∷ cs) = append-nil (c ∷ cs)
