-- A child behind the children of an open element, and an open element inside the others.
use Rattle.std.proofs.Common.{◌≡◌, refl, sym, ap, ◌∙◌, ℕ, List, [], ◌∷◌, ◌++◌, map, reverse}
use Rattle.std.proofs.lemmas.List.{map-append, reverse-append}
use Rattle.xml_grammar.specs.Spells.{add_text}
use Rattle.xml_grammar.specs.Code.Machine.{append, Frame, flushed}
use Rattle.xml_grammar.specs.Code.Open.{frame_of, frames_of}
use Rattle.xml_grammar.specs.declared.machine.Frame.{Frame as FrameRead}
use Rattle.xml_profile.specs.Forest.{Forest}
use Rattle.xml_profile.specs.Forest.Forest.{End as Nothing, Text_then, Element_then}
use Rattle.xml_profile.specs.Children.{forest_of}
use Rattle.xml_profile.specs.declared.tree.Tree.{Tree}
use Rattle.xml_profile.specs.declared.tree.Child.{Child}
use Rattle.xml_profile.specs.declared.tree.Child.TheVariants.{Element, Text}

append-nothing : (a : Forest) → append a Nothing ≡ a
append-nothing Nothing = refl
append-nothing (Text_then t r) = ap (Text_then t) (append-nothing r)
append-nothing (Element_then name a k r) = ap (Element_then name a k) (append-nothing r)

pub text_pushed : (items : List Child) (c : ℕ) (t : List ℕ) → forest_of (items ++ Text (c ∷ t) ∷ []) ≡ append (forest_of items) (add_text (c ∷ t) Nothing)
text_pushed [] c t = refl
text_pushed (Text s ∷ items) c t = ap (Text_then s) (text_pushed items c t)
text_pushed (Element s ∷ items) c t = ap (Element_then s.name s.attributes s.children) (text_pushed items c t)

pub no_text_pushed : (f : Frame) (p : List ℕ) → p ≡ [] → f ≡ flushed f p
no_text_pushed f p e =
    sym (ap (flushed f) e ∙ (λ i. record { spelled = f.spelled; name = f.name; attributes = f.attributes; kids = append-nothing f.kids i; outside = f.outside }))

pub element_pushed : (items : List Child) (t : Tree) → forest_of (items ++ Element t ∷ []) ≡ append (forest_of items) (Element_then t.name t.attributes t.children Nothing)
element_pushed [] t = refl
element_pushed (Text s ∷ items) t = ap (Text_then s) (element_pushed items t)
element_pushed (Element s ∷ items) t = ap (Element_then s.name s.attributes s.children) (element_pushed items t)

pub frames_pushed : (fs : List FrameRead) (f : FrameRead) → frames_of (fs ++ f ∷ []) ≡ frame_of f ∷ frames_of fs
frames_pushed fs f = ap reverse (map-append frame_of fs (f ∷ [])) ∙ reverse-append (map frame_of fs) (frame_of f ∷ [])
