-- Elements built of names, texts and elements.
use Rattle.std.specs.Prelude.{ℕ, List, [], ◌∷◌, Some, None}
use Rattle.xml_profile.specs.declared.name.QName.{QName}
use Rattle.xml_profile.specs.declared.tree.Tree.{Tree}
use Rattle.xml_profile.specs.Forest.{Forest}
use Rattle.xml_profile.specs.Forest.Forest.{End, Text_then, Element_then}

-- elements alone, as the children of one
abbrev pub children_of : List Tree → Forest
children_of [] = End
children_of (t ∷ ts) = Element_then t.name t.attributes t.children (children_of ts)

-- a text as the only child, unless it is empty: no text of a tree is
abbrev pub text_children : List ℕ → Forest
text_children [] = End
text_children (c ∷ cs) = Text_then (c ∷ cs) End

abbrev pub qualified : List ℕ → List ℕ → QName
qualified space local = record { space = Some space; local = local }

abbrev pub unqualified : List ℕ → QName
unqualified local = record { space = None; local = local }

-- an element without attributes
abbrev pub element : QName → Forest → Tree
element name children = record { name = name; attributes = []; children = children }
