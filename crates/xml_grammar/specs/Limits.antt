-- How deep, how long and how wide a tree is, and how much of it is read.
use Rattle.std.specs.Prelude.{ℕ, ◌+◌, ◌≤◌, max, length}
use Rattle.xml_profile.specs.Forest.{Forest}
use Rattle.xml_profile.specs.Forest.Forest.{End, Text_then, Element_then}
use Rattle.xml_profile.specs.declared.tree.Tree.{Tree}

-- the most elements that stand one in another
abbrev pub levels : Forest → ℕ
levels End = 0
levels (Text_then t r) = levels r
levels (Element_then n a kids r) = max (1 + levels kids) (levels r)

abbrev pub levels_of : Tree → ℕ
levels_of t = 1 + levels t.children

-- the number of elements, at every depth
abbrev pub elements : Forest → ℕ
elements End = 0
elements (Text_then t r) = elements r
elements (Element_then n a kids r) = 1 + elements kids + elements r

abbrev pub elements_of : Tree → ℕ
elements_of t = 1 + elements t.children

-- the most attributes that one element has, at every depth
abbrev pub widest : Forest → ℕ
widest End = 0
widest (Text_then t r) = widest r
widest (Element_then n a kids r) = max (length a) (max (widest kids) (widest r))

abbrev pub widest_of : Tree → ℕ
widest_of t = max (length t.attributes) (widest t.children)

-- at most 32 levels, 4,096 elements, and 32 attributes on each
pub record IsWithin (t : Tree) : Type 0 where
  pub levels : levels_of t ≤ 32
  pub elements : elements_of t ≤ 4096
  pub attributes : widest_of t ≤ 32
