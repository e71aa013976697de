-- What is read without the deep elements is what the whole machine reads, without its deep elements.
use Rattle.std.proofs.Common.{◌≡◌, refl, sym, ap, ◌∙◌, arith, ℕ, zero, suc, ◌+◌, ◌-◌, ◌<◌, ◌≤◌, List, [], ◌∷◌, Bool, true, false, cond, Option, Some, None, length, take, max, nat_lt, option_map}
use Rattle.std.proofs.lemmas.Bool.{ltb-true, ltb-false}
use Rattle.xml_grammar.specs.Characters.{◌>>=◌, same, is_white}
use Rattle.xml_grammar.specs.Tokens.{Tag, Token}
use Rattle.xml_grammar.specs.Tokens.Token.{Plain, Meant, Comment, Start, End}
use Rattle.xml_grammar.specs.Namespaces.{Binding, Meaning, means}
use Rattle.xml_grammar.specs.Spells.{add_text}
use Rattle.xml_grammar.specs.Code.Machine.{append, Frame, state, flushed, with_kid, closed, frame_of, begun, advance}
use Rattle.xml_grammar.specs.Code.Shallow.{kept_kid, shut, entered_by, entered, reading, read_on, cut, cut_frame, cut_frames, cut_tree, cut_state, open_levels, ended_levels, levels_at, shallow}
use Rattle.xml_grammar.specs.Limits.{levels}
use Rattle.xml_profile.specs.Forest.{Forest}
use Rattle.xml_profile.specs.Forest.Forest.{End as Nothing, Text_then, Element_then}
use Rattle.xml_profile.specs.declared.tree.Tree.{Tree}
use Rattle.xml_profile.specs.declared.name.QName.{QName}
use Rattle.xml_profile.specs.declared.name.Attribute.{Attribute}

cut-append : (n : ℕ) (a b : Forest) → cut n (append a b) ≡ append (cut n a) (cut n b)
cut-append n Nothing b = refl
cut-append n (Text_then t r) b = ap (Text_then t) (cut-append n r b)
cut-append zero (Element_then name a k r) b = cut-append zero r b
cut-append (suc n) (Element_then name a k r) b = ap (Element_then name a (cut n k)) (cut-append (suc n) r b)

cut-text : (n : ℕ) (p : List ℕ) → cut n (add_text p Nothing) ≡ add_text p Nothing
cut-text n [] = refl
cut-text n (c ∷ p) = refl

append-nothing : (a : Forest) → append a Nothing ≡ a
append-nothing Nothing = refl
append-nothing (Text_then t r) = ap (Text_then t) (append-nothing r)
append-nothing (Element_then name a k r) = ap (Element_then name a k) (append-nothing r)

-- what is not deep stays whole
pub cut-whole : (n : ℕ) (f : Forest) → levels f ≤ n → cut n f ≡ f
cut-whole n Nothing h = refl
cut-whole n (Text_then t r) h = ap (Text_then t) (cut-whole n r h)
cut-whole zero (Element_then name a k r) h = absurd (omega (arith, h))
cut-whole (suc n) (Element_then name a k r) h =
    let e : cut n k ≡ k = cut-whole n k (omega (arith, h)) in
    let f : cut (suc n) r ≡ r = cut-whole (suc n) r (omega (arith, h)) in
    λ i. Element_then name a (e i) (f i)

levels-append : (a b : Forest) → levels (append a b) ≡ max (levels a) (levels b)
levels-append Nothing b = omega arith
levels-append (Text_then t r) b = levels-append r b
levels-append (Element_then name a k r) b = omega (arith, levels-append r b)

levels-text : (p : List ℕ) → levels (add_text p Nothing) ≡ 0
levels-text [] = refl
levels-text (c ∷ p) = refl

cut-length : (fs : List Frame) → length (cut_frames fs) ≡ length fs
cut-length [] = refl
cut-length (f ∷ fs) = ap suc (cut-length fs)

frame_with : Frame → Forest → Frame
frame_with f kids = record { spelled = f.spelled; name = f.name; attributes = f.attributes; kids = kids; outside = f.outside }

cut-flushed : (n : ℕ) (f : Frame) (p : List ℕ) → flushed (cut_frame n f) p ≡ cut_frame n (flushed f p)
cut-flushed n f p =
    let e : append (cut (31 - n) f.kids) (add_text p Nothing) ≡ cut (31 - n) (append f.kids (add_text p Nothing)) =
    ap (append (cut (31 - n) f.kids)) (sym (cut-text (31 - n) p)) ∙ sym (cut-append (31 - n) f.kids (add_text p Nothing)) in
    λ i. record { spelled = f.spelled; name = f.name; attributes = f.attributes; kids = e i; outside = f.outside }

module _ (g : Forest) (name : QName) (a : List Attribute) (k : Forest) where
  kid-kept : (m n : ℕ) → m ≡ suc n → append (cut m g) (Element_then name a (cut n k) Nothing) ≡ cut m (append g (Element_then name a k Nothing))
  kid-kept zero n e = cc
  kid-kept (suc m) n e =
      let h : n ≡ m = cc in
      ap (λ v. append (cut (suc m) g) (Element_then name a (cut v k) Nothing)) h ∙ sym (cut-append (suc m) g (Element_then name a k Nothing))

  kid-dropped : (m : ℕ) → m ≡ 0 → cut m g ≡ cut m (append g (Element_then name a k Nothing))
  kid-dropped zero e = sym (cut-append zero g (Element_then name a k Nothing) ∙ append-nothing (cut zero g))
  kid-dropped (suc m) e = cc

cut-kid : (n : ℕ) (g f : Frame) (b : Bool) → nat_lt n 31 ≡ b → cond b (with_kid (cut_frame n g) (cut_frame (suc n) f)) (cut_frame n g) ≡ cut_frame n (with_kid g f)
cut-kid n g f true l =
    let small : n < 31 = ltb-true n 31 l in
    let e : 31 - n ≡ suc (31 - suc n) = omega (arith, small) in
    let k = kid-kept g.kids f.name f.attributes f.kids (31 - n) (31 - suc n) e in
    λ i. record { spelled = g.spelled; name = g.name; attributes = g.attributes; kids = k i; outside = g.outside }
cut-kid n g f false l =
    let large : 31 ≤ n = ltb-false n 31 l in
    let e : 31 - n ≡ 0 = omega (arith, large) in
    let k = kid-dropped g.kids f.name f.attributes f.kids (31 - n) e in
    λ i. record { spelled = g.spelled; name = g.name; attributes = g.attributes; kids = k i; outside = g.outside }

cut-shut : (bs : List Binding) (f : Frame) (fs : List Frame) → shut bs (cut_frame (length fs) f) (cut_frames fs) ≡ cut_state (closed bs f fs)
cut-shut bs f [] = refl
cut-shut bs f (g ∷ gs) =
    let e = ap (λ n. kept_kid n (cut_frame (length gs) g) (cut_frame (suc (length gs)) f)) (cut-length gs) ∙ cut-kid (length gs) g f (nat_lt (length gs) 31) refl in
    ap (λ h. state (take f.outside bs) (h ∷ cut_frames gs) [] None) e

-- Levels

levels-flushed : (f : Frame) (p : List ℕ) → levels (flushed f p).kids ≡ levels f.kids
levels-flushed f p = omega (arith, levels-append f.kids (add_text p Nothing), levels-text p)

levels-kid : (g f : Frame) → levels (with_kid g f).kids ≡ max (levels g.kids) (1 + levels f.kids)
levels-kid g f = omega (arith, levels-append g.kids (Element_then f.name f.attributes f.kids Nothing))

levels-shut : (bs : List Binding) (f : Frame) (fs : List Frame) → levels_at (closed bs f fs).frames (closed bs f fs).ended ≡ open_levels (f ∷ fs)
levels-shut bs f [] = omega arith
levels-shut bs f (g ∷ gs) = omega (arith, levels-kid g f)

shut_reading : (n : ℕ) (bs : List Binding) (f : Frame) (fs : List Frame) → n ≡ open_levels (f ∷ fs) → reading n (shut bs (cut_frame (length fs) f) (cut_frames fs)) ≡ shallow (closed bs f fs)
shut_reading n bs f fs e =
    let a = cut-shut bs f fs in
    let b : n ≡ levels_at (closed bs f fs).frames (closed bs f fs).ended = e ∙ sym (levels-shut bs f fs) in
    λ i. reading (b i) (a i)

entered_reading : (n outside : ℕ) (fs : List Frame) (tag : Tag) (m : Meaning) (b : Bool) → n ≡ max (length fs + 1) (open_levels fs)
    → reading n (entered_by b m.bindings (frame_of outside tag.name m) (cut_frames fs))
    ≡ shallow (cond b (closed m.bindings (frame_of outside tag.name m) fs) (state m.bindings (frame_of outside tag.name m ∷ fs) [] None))
entered_reading n outside fs tag m true e = shut_reading n m.bindings (frame_of outside tag.name m) fs (omega (arith, e))
entered_reading n outside fs tag m false e =
    let a : n ≡ open_levels (frame_of outside tag.name m ∷ fs) = omega (arith, e) in
    λ i. reading (a i) (state m.bindings (frame_of outside tag.name m ∷ cut_frames fs) [] None)

start_reading : (o : Option Meaning) (n outside : ℕ) (fs : List Frame) (tag : Tag) → n ≡ max (length fs + 1) (open_levels fs)
    → (o >>= (λ m. Some (reading n (entered outside (cut_frames fs) tag m)))) ≡ option_map shallow (o >>= (λ m. Some (begun outside fs tag m)))
start_reading None n outside fs tag e = refl
start_reading (Some m) n outside fs tag e = ap Some (entered_reading n outside fs tag m tag.is_empty e)

open-flushed : (f : Frame) (p : List ℕ) (fs : List Frame) → open_levels (flushed f p ∷ fs) ≡ open_levels (f ∷ fs)
open-flushed f p fs = ap (λ n. max (length (f ∷ fs) + n) (open_levels fs)) (levels-flushed f p)

starts_reading : (n : ℕ) (bs : List Binding) (f : Frame) (fs : List Frame) (p : List ℕ) (tag : Tag) → n ≡ max (length (f ∷ fs) + 1) (open_levels (flushed f p ∷ fs))
    → (means bs tag >>= (λ m. Some (reading n (entered (length bs) (flushed (cut_frame (length fs) f) p ∷ cut_frames fs) tag m))))
    ≡ option_map shallow (means bs tag >>= (λ m. Some (begun (length bs) (flushed f p ∷ fs) tag m)))
starts_reading n bs f fs p tag e =
    ap (λ g. means bs tag >>= (λ m. Some (reading n (entered (length bs) (g ∷ cut_frames fs) tag m)))) (cut-flushed (length fs) f p)
    ∙ start_reading (means bs tag) n (length bs) (flushed f p ∷ fs) tag e

end_reading : (b : Bool) (n : ℕ) (bs : List Binding) (f : Frame) (fs : List Frame) (p : List ℕ) → n ≡ open_levels (f ∷ fs)
    → cond b (Some (reading n (shut bs (flushed (cut_frame (length fs) f) p) (cut_frames fs)))) None ≡ option_map shallow (cond b (Some (closed bs (flushed f p) fs)) None)
end_reading true n bs f fs p e =
    ap (λ g. Some (reading n (shut bs g (cut_frames fs)))) (cut-flushed (length fs) f p) ∙ ap Some (shut_reading n bs (flushed f p) fs (e ∙ sym (open-flushed f p fs)))
end_reading false n bs f fs p e = refl

white_reading : (b : Bool) (bs : List Binding) (p : List ℕ) (e : Option Tree)
    → option_map (reading (ended_levels e)) (cond b (Some (state bs [] p (option_map cut_tree e))) None) ≡ option_map shallow (cond b (Some (state bs [] p e)) None)
white_reading true bs p e = refl
white_reading false bs p e = refl

cut_length_max : (n : ℕ) (f : Frame) (fs : List Frame) → length (cut_frames fs) ≡ length fs → max n (length (cut_frame (length fs) f ∷ cut_frames fs) + 1) ≡ max n (length (f ∷ fs) + 1)
cut_length_max n f fs e = ap (λ k. max n (suc k + 1)) e

pub read_on_reads : (bs : List Binding) (fs : List Frame) (p : List ℕ) (e : Option Tree) (t : Token)
    → read_on (levels_at fs e) bs (cut_frames fs) p (option_map cut_tree e) t ≡ option_map shallow (advance bs fs p e t)
read_on_reads bs [] p e (Plain c) = white_reading (is_white c) bs p e
read_on_reads bs (f ∷ fs) p e (Plain c) = refl
read_on_reads bs [] p e (Meant text) = refl
read_on_reads bs (f ∷ fs) p e (Meant text) = refl
read_on_reads bs [] p e Comment = refl
read_on_reads bs (f ∷ fs) p e Comment = refl
read_on_reads bs [] p None (Start tag) = start_reading (means bs tag) 1 (length bs) [] tag refl
read_on_reads bs [] p (Some t) (Start tag) = refl
read_on_reads bs (f ∷ fs) p e (Start tag) =
    let a = cut_length_max (open_levels (f ∷ fs)) f fs (cut-length fs) in
    let b : max (open_levels (f ∷ fs)) (length (f ∷ fs) + 1) ≡ max (length (f ∷ fs) + 1) (open_levels (flushed f p ∷ fs)) = omega (arith, open-flushed f p fs) in
    starts_reading (max (open_levels (f ∷ fs)) (length (cut_frame (length fs) f ∷ cut_frames fs) + 1)) bs f fs p tag (a ∙ b)
read_on_reads bs [] p e (End name) = refl
read_on_reads bs (f ∷ fs) p e (End name) = end_reading (same f.spelled name) (open_levels (f ∷ fs)) bs f fs p refl
