-- The machine that keeps no element below the 32nd level, and counts the levels that it has seen.
use Rattle.std.specs.Prelude.{ℕ, zero, suc, List, [], ◌∷◌, ◌+◌, ◌-◌, Bool, true, false, cond, nat_lt, Option, Some, None, length, take, max}
use Rattle.std.specs.Option.{option_map}
use Rattle.xml_grammar.specs.Characters.{◌>>=◌, same}
use Rattle.xml_grammar.specs.Tokens.{Tag, Token}
use Rattle.xml_grammar.specs.Tokens.Token.{Plain, Meant, Comment, Start, End}
use Rattle.xml_grammar.specs.Namespaces.{Binding, Meaning, means}
use Rattle.xml_grammar.specs.Code.Machine.{append, Frame, State, state, flushed, tree_of, frame_of, plain_on, meant_on}
use Rattle.xml_grammar.specs.Limits.{levels}
use Rattle.xml_profile.specs.Forest.{Forest}
use Rattle.xml_profile.specs.Forest.Forest.{End as Nothing, Text_then, Element_then}
use Rattle.xml_profile.specs.declared.tree.Tree.{Tree}

-- an element that has ended goes to the one around it, which has so many around it, unless it is too deep
abbrev pub kept_tree : ℕ → Frame → Tree → Frame
kept_tree around g t =
    cond (nat_lt around 31) (record { spelled = g.spelled; name = g.name; attributes = g.attributes; kids = append g.kids (Element_then t.name t.attributes t.children Nothing); outside = g.outside }) g

abbrev pub kept_kid : ℕ → Frame → Frame → Frame
kept_kid around g f = kept_tree around g (tree_of f)

abbrev pub shut : List Binding → Frame → List Frame → State
shut bs f [] = state (take f.outside bs) [] [] (Some (tree_of f))
shut bs f (g ∷ gs) = state (take f.outside bs) (kept_kid (length gs) g f ∷ gs) [] None

-- an element begins, and ends at once where its tag is empty
abbrev pub entered_by : Bool → List Binding → Frame → List Frame → State
entered_by true bs f fs = shut bs f fs
entered_by false bs f fs = state bs (f ∷ fs) [] None

abbrev pub entered : ℕ → List Frame → Tag → Meaning → State
entered outside fs tag m = entered_by tag.is_empty m.bindings (frame_of outside tag.name m) fs

-- the state, and the most elements that stood open so far
pub record Reading : Type 0 where
  pub state : State
  pub deepest : ℕ

abbrev pub reading : ℕ → State → Reading
reading n s = record { state = s; deepest = n }

abbrev pub read_start : ℕ → List Binding → List Frame → List ℕ → Option Tree → Tag → Option Reading
read_start n bs [] p None tag = means bs tag >>= (λ m. Some (reading (max n 1) (entered (length bs) [] tag m)))
read_start n bs [] p (Some t) tag = None
read_start n bs (f ∷ fs) p e tag = means bs tag >>= (λ m. Some (reading (max n (length (f ∷ fs) + 1)) (entered (length bs) (flushed f p ∷ fs) tag m)))

abbrev pub read_end : ℕ → List Binding → List Frame → List ℕ → Option Tree → List ℕ → Option Reading
read_end n bs [] p e name = None
read_end n bs (f ∷ fs) p e name = cond (same f.spelled name) (Some (reading n (shut bs (flushed f p) fs))) None

abbrev pub read_on : ℕ → List Binding → List Frame → List ℕ → Option Tree → Token → Option Reading
read_on n bs fs p e (Plain c) = option_map (reading n) (plain_on bs fs p e c)
read_on n bs fs p e (Meant text) = option_map (reading n) (meant_on bs fs p e text)
read_on n bs fs p e Comment = Some (reading n (state bs fs p e))
read_on n bs fs p e (Start tag) = read_start n bs fs p e tag
read_on n bs fs p e (End name) = read_end n bs fs p e name

abbrev pub read_with : Reading → Token → Option Reading
read_with r t = read_on r.deepest r.state.bindings r.state.frames r.state.pending r.state.ended t

-- the text that has ended goes to the innermost open element
abbrev pub flushed_in : List Frame → List ℕ → List Frame
flushed_in [] p = []
flushed_in (f ∷ fs) p = flushed f p ∷ fs

abbrev pub flushed_reading : Reading → Reading
flushed_reading r = reading r.deepest (state r.state.bindings (flushed_in r.state.frames r.state.pending) [] r.state.ended)

-- Nodes down to so many levels, without what is deeper

abbrev pub cut : ℕ → Forest → Forest
cut n Nothing = Nothing
cut n (Text_then t r) = Text_then t (cut n r)
cut zero (Element_then name a kids r) = cut zero r
cut (suc n) (Element_then name a kids r) = Element_then name a (cut n kids) (cut (suc n) r)

-- Frames

-- with so many elements around it
abbrev pub cut_frame : ℕ → Frame → Frame
cut_frame around f = record { spelled = f.spelled; name = f.name; attributes = f.attributes; kids = cut (31 - around) f.kids; outside = f.outside }

abbrev pub cut_frames : List Frame → List Frame
cut_frames [] = []
cut_frames (f ∷ fs) = cut_frame (length fs) f ∷ cut_frames fs

abbrev pub cut_tree : Tree → Tree
cut_tree t = record { name = t.name; attributes = t.attributes; children = cut 31 t.children }

abbrev pub cut_state : State → State
cut_state s = state s.bindings (cut_frames s.frames) s.pending (option_map cut_tree s.ended)

-- the most elements that stood one in another, in open elements
abbrev pub open_levels : List Frame → ℕ
open_levels [] = 0
open_levels (f ∷ fs) = max (length (f ∷ fs) + levels f.kids) (open_levels fs)

abbrev pub ended_levels : Option Tree → ℕ
ended_levels None = 0
ended_levels (Some t) = 1 + levels t.children

abbrev pub levels_at : List Frame → Option Tree → ℕ
levels_at [] e = ended_levels e
levels_at (f ∷ fs) e = open_levels (f ∷ fs)

-- what is read of a state
abbrev pub shallow : State → Reading
shallow s = reading (levels_at s.frames s.ended) (cut_state s)
