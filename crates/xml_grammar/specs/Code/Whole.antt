-- The tree that a whole text is read as, through the machine.
use Rattle.std.specs.Prelude.{ℕ, zero, suc, List, [], ◌∷◌, Option, None, length}
use Rattle.xml_grammar.specs.Characters.{◌>>=◌}
use Rattle.xml_grammar.specs.Code.Reading.{next_at}
use Rattle.xml_grammar.specs.Code.Machine.{Frame, State, opening, advance}
use Rattle.xml_profile.specs.declared.tree.Tree.{Tree}

abbrev pub finished : List Frame → Option Tree → Option Tree
finished [] ended = ended
finished (f ∷ fs) ended = None

-- in at most so many tokens
abbrev pub read_from : ℕ → State → List ℕ → Option Tree
read_from zero s cs = None
read_from (suc n) s [] = finished s.frames s.ended
read_from (suc n) s (c ∷ cs) = next_at (c ∷ cs) >>= (λ p. advance s.bindings s.frames s.pending s.ended p.0 >>= (λ t. read_from n t p.1))

unfoldable pub read_text : List ℕ → Option Tree
read_text cs = read_from (suc (length cs)) opening cs
