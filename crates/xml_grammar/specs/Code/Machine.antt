-- A machine over tokens with a stack of open elements and one of bindings.
use Rattle.std.specs.Prelude.{ℕ, List, [], ◌∷◌, ◌++◌, cond, Option, Some, None, length, take, encode_utf8}
use Rattle.xml_grammar.specs.Characters.{◌>>=◌, same, is_white}
use Rattle.xml_grammar.specs.Tokens.{Tag, Token}
use Rattle.xml_grammar.specs.Tokens.Token.{Plain, Meant, Comment, Start, End}
use Rattle.xml_grammar.specs.Namespaces.{Binding, Meaning, means}
use Rattle.xml_grammar.specs.Spells.{add_text}
use Rattle.xml_profile.specs.Forest.{Forest}
use Rattle.xml_profile.specs.Forest.Forest.{End as Nothing, Text_then, Element_then}
use Rattle.xml_profile.specs.declared.name.QName.{QName}
use Rattle.xml_profile.specs.declared.name.Attribute.{Attribute}
use Rattle.xml_profile.specs.declared.tree.Tree.{Tree}

abbrev pub append : Forest → Forest → Forest
append Nothing more = more
append (Text_then t rest) more = Text_then t (append rest more)
append (Element_then n a kids rest) more = Element_then n a kids (append rest more)

-- an open element: its spelling, what it is so far, and the number of bindings outside it
pub record Frame : Type 0 where
  pub spelled : List ℕ
  pub name : QName
  pub attributes : List Attribute
  pub kids : Forest
  pub outside : ℕ

-- the bindings in force, the open elements from the innermost out, the text that is not yet a node, and the root once it has ended
pub record State : Type 0 where
  pub bindings : List Binding
  pub frames : List Frame
  pub pending : List ℕ
  pub ended : Option Tree

abbrev pub state : List Binding → List Frame → List ℕ → Option Tree → State
state bs fs p e = record { bindings = bs; frames = fs; pending = p; ended = e }

abbrev pub opening : State
opening = state [] [] [] None

abbrev pub flushed : Frame → List ℕ → Frame
flushed f p = record { spelled = f.spelled; name = f.name; attributes = f.attributes; kids = append f.kids (add_text p Nothing); outside = f.outside }

abbrev pub with_kid : Frame → Frame → Frame
with_kid g f = record { spelled = g.spelled; name = g.name; attributes = g.attributes; kids = append g.kids (Element_then f.name f.attributes f.kids Nothing); outside = g.outside }

abbrev pub tree_of : Frame → Tree
tree_of f = record { name = f.name; attributes = f.attributes; children = f.kids }

-- the innermost element ends
abbrev pub closed : List Binding → Frame → List Frame → State
closed bs f [] = state (take f.outside bs) [] [] (Some (tree_of f))
closed bs f (g ∷ gs) = state (take f.outside bs) (with_kid g f ∷ gs) [] None

abbrev pub frame_of : ℕ → List ℕ → Meaning → Frame
frame_of outside spelled m = record { spelled = spelled; name = m.name; attributes = m.attributes; kids = Nothing; outside = outside }

-- an element begins; one of an empty tag ends at once
abbrev pub begun : ℕ → List Frame → Tag → Meaning → State
begun outside fs tag m = cond tag.is_empty (closed m.bindings (frame_of outside tag.name m) fs) (state m.bindings (frame_of outside tag.name m ∷ fs) [] None)

abbrev pub plain_on : List Binding → List Frame → List ℕ → Option Tree → ℕ → Option State
plain_on bs [] p e c = cond (is_white c) (Some (state bs [] p e)) None
plain_on bs (f ∷ fs) p e c = Some (state bs (f ∷ fs) (p ++ encode_utf8 c) e)

abbrev pub meant_on : List Binding → List Frame → List ℕ → Option Tree → List ℕ → Option State
meant_on bs [] p e text = None
meant_on bs (f ∷ fs) p e text = Some (state bs (f ∷ fs) (p ++ text) e)

abbrev pub start_on : List Binding → List Frame → List ℕ → Option Tree → Tag → Option State
start_on bs [] p None tag = means bs tag >>= (λ m. Some (begun (length bs) [] tag m))
start_on bs [] p (Some t) tag = None
start_on bs (f ∷ fs) p e tag = means bs tag >>= (λ m. Some (begun (length bs) (flushed f p ∷ fs) tag m))

abbrev pub end_on : List Binding → List Frame → List ℕ → Option Tree → List ℕ → Option State
end_on bs [] p e name = None
end_on bs (f ∷ fs) p e name = cond (same f.spelled name) (Some (closed bs (flushed f p) fs)) None

abbrev pub advance : List Binding → List Frame → List ℕ → Option Tree → Token → Option State
advance bs fs p e (Plain c) = plain_on bs fs p e c
advance bs fs p e (Meant text) = meant_on bs fs p e text
advance bs fs p e Comment = Some (state bs fs p e)
advance bs fs p e (Start tag) = start_on bs fs p e tag
advance bs fs p e (End name) = end_on bs fs p e name
