-- One token of the machine is one step of the grammar, in both directions.
use Rattle.std.proofs.Common.{◌≡◌, ◌⊎◌, inl, inr, refl, sym, subst, ap, ◌∙◌, ℕ, List, [], ◌∷◌, ◌++◌, Bool, true, false, cond, Option, Some, None, length, take, append_assoc, encode_utf8, nat_eq, ◌&&◌}
use Rattle.std.proofs.Math.Seq.{take-append_seam}
use Rattle.xml_grammar.specs.Characters.{◌>>=◌, given, parts, same, is_white}
use Rattle.xml_grammar.specs.Tokens.{Tag, Token, TokenAt}
use Rattle.xml_grammar.specs.Tokens.Token.{Plain, Meant, Comment, Start, End}
use Rattle.xml_grammar.specs.Namespaces.{Binding, Meaning, means, sort, may_declare, element_name, attributes_of, are_apart}
use Rattle.xml_grammar.specs.Spells.{add_text, said, Content, Epilog, Document, tree}
use Rattle.xml_profile.specs.Forest.{Forest}
use Rattle.xml_profile.specs.Forest.Forest.{End as Nothing, Text_then, Element_then}
use Rattle.xml_grammar.proofs.TokenLaws.{one_token, next_complete, bind_some, nat_eq_is, nat_eq_same}
use Rattle.xml_grammar.specs.Code.Machine.{append, Frame, State, state, flushed, with_kid, closed, frame_of, begun, plain_on, meant_on, start_on, end_on, advance}
use Rattle.xml_profile.specs.declared.tree.Tree.{Tree}
use Rattle.xml_profile.specs.declared.name.QName.{QName}
use Rattle.xml_profile.specs.declared.name.Attribute.{Attribute}

pub same_is : (a b : List ℕ) → same a b ≡ true → a ≡ b
same_is [] [] e = refl
same_is [] (y ∷ ys) e = cc
same_is (x ∷ xs) [] e = cc
same_is (x ∷ xs) (y ∷ ys) e = step (nat_eq x y) refl (same_is xs ys) e
  where
    step : (b : Bool) → nat_eq x y ≡ b → (same xs ys ≡ true → xs ≡ ys) → (b && same xs ys) ≡ true → x ∷ xs ≡ y ∷ ys
    step true p go e = let i = nat_eq_is x y p in let k = go e in cc
    step false p go e = cc

pub same_same : (a : List ℕ) → same a a ≡ true
same_same [] = refl
same_same (x ∷ xs) = rw (nat_eq_same x, same_same xs) refl

take_append : (bs ds : List Binding) → take (length bs) (bs ++ ds) ≡ bs
take_append bs ds = take-append_seam bs ds

pub means_bindings : (bs : List Binding) (tag : Tag) (m : Meaning) → means bs tag ≡ Some m → take (length bs) m.bindings ≡ bs
unfolding means
means_bindings bs tag m e =
    let (sorted, a, f) = bind_some (sort tag.pairs) _ m e in
    let (_, b, g) = bind_some (given (may_declare sorted.declarations)) _ m f in
    let (name, c, h) = bind_some (parts tag.name) _ m g in
    let (element, d, i) = bind_some (element_name (bs ++ sorted.declarations) name) _ m h in
    let (attributes, j, k) = bind_some (attributes_of (bs ++ sorted.declarations) sorted.attributes) _ m i in
    let (_, l, n) = bind_some (given (are_apart attributes)) _ m k in
    let same : record { bindings = bs ++ sorted.declarations; name = element; attributes = attributes } ≡ m = cc in
    subst (λ v. take (length bs) v ≡ bs) (ap (λ v. v.bindings) same) (take_append bs sorted.declarations)

-- Nodes

pub append_append : (a b c : Forest) → append (append a b) c ≡ append a (append b c)
append_append Nothing b c = refl
append_append (Text_then t r) b c = ap (Text_then t) (append_append r b c)
append_append (Element_then n ats k r) b c = ap (Element_then n ats k) (append_append r b c)

pub add_text-add_text : (a b : List ℕ) (ns : Forest) → add_text a (add_text b ns) ≡ add_text (a ++ b) ns
add_text-add_text [] b ns = refl
add_text-add_text (x ∷ a) [] Nothing = ap (λ t. Text_then t Nothing) (sym (append_nil (x ∷ a)))
  where
    append_nil : (v : List ℕ) → v ++ [] ≡ v
    append_nil [] = refl
    append_nil (y ∷ v) = ap (λ w. y ∷ w) (append_nil v)
add_text-add_text (x ∷ a) [] (Text_then t r) = ap (λ v. Text_then (v ++ t) r) (sym (append_nil (x ∷ a)))
  where
    append_nil : (v : List ℕ) → v ++ [] ≡ v
    append_nil [] = refl
    append_nil (y ∷ v) = ap (λ w. y ∷ w) (append_nil v)
add_text-add_text (x ∷ a) [] (Element_then n ats k r) = ap (λ t. Text_then t (Element_then n ats k r)) (sym (append_nil (x ∷ a)))
  where
    append_nil : (v : List ℕ) → v ++ [] ≡ v
    append_nil [] = refl
    append_nil (y ∷ v) = ap (λ w. y ∷ w) (append_nil v)
add_text-add_text (x ∷ a) (y ∷ b) Nothing = refl
add_text-add_text (x ∷ a) (y ∷ b) (Text_then t r) = ap (λ v. Text_then v r) (sym (append_assoc (x ∷ a) (y ∷ b) t))
add_text-add_text (x ∷ a) (y ∷ b) (Element_then n ats k r) = refl

text_then_element : (p : List ℕ) (n : QName) (ats : List Attribute) (k ns : Forest) → append (add_text p Nothing) (Element_then n ats k ns) ≡ add_text p (Element_then n ats k ns)
text_then_element [] n ats k ns = refl
text_then_element (x ∷ p) n ats k ns = refl

pub flush-element : (f : Forest) (p : List ℕ) (n : QName) (ats : List Attribute) (k ns : Forest)
    → append (append f (add_text p Nothing)) (Element_then n ats k ns) ≡ append f (add_text p (Element_then n ats k ns))
flush-element f p n ats k ns = append_append f (add_text p Nothing) (Element_then n ats k ns) ∙ ap (append f) (text_then_element p n ats k ns)

pub kid-more : (f : Forest) (n : QName) (ats : List Attribute) (k ns : Forest) → append (append f (Element_then n ats k Nothing)) ns ≡ append f (Element_then n ats k ns)
kid-more f n ats k ns = append_append f (Element_then n ats k Nothing) ns

-- What stands behind a token

pub record EmptyBehind (bs : List Binding) (tag : Tag) (more : List ℕ) (all : Forest) (rest : List ℕ) : Type 0 where
  pub meaning : Meaning
  pub nodes : Forest
  pub meant : means bs tag ≡ Some meaning
  pub empty : tag.is_empty ≡ true
  pub content : Content bs more nodes rest
  pub whole : all ≡ Element_then meaning.name meaning.attributes Nothing nodes

pub record NestedBehind (bs : List Binding) (tag : Tag) (inner : List ℕ) (all : Forest) (rest : List ℕ) : Type 0 where
  pub meaning : Meaning
  pub kids : Forest
  pub close : List ℕ
  pub more : List ℕ
  pub nodes : Forest
  pub meant : means bs tag ≡ Some meaning
  pub empty : tag.is_empty ≡ false
  pub inside : Content meaning.bindings inner kids close
  pub closes : TokenAt close (End tag.name) more
  pub content : Content bs more nodes rest
  pub whole : all ≡ Element_then meaning.name meaning.attributes kids nodes

pub record TextBehind (bs : List Binding) (text more : List ℕ) (all : Forest) (rest : List ℕ) : Type 0 where
  pub nodes : Forest
  pub content : Content bs more nodes rest
  pub whole : all ≡ add_text text nodes

abbrev pub Behind : List Binding → Token → List ℕ → Forest → List ℕ → Type 0
Behind bs (Plain c) more all rest = TextBehind bs (encode_utf8 c) more all rest
Behind bs (Meant text) more all rest = TextBehind bs text more all rest
Behind bs Comment more all rest = Content bs more all rest
Behind bs (Start tag) more all rest = EmptyBehind bs tag more all rest ⊎ NestedBehind bs tag more all rest
Behind bs (End name) more all rest = ⊥

text_behind : (bs : List Binding) (t : Token) (bytes more : List ℕ) (all : Forest) (rest : List ℕ) → said t ≡ Some bytes → TextBehind bs bytes more all rest → Behind bs t more all rest
text_behind bs (Plain c) bytes more all rest s h = let e : bytes ≡ encode_utf8 c = cc in subst (λ v. TextBehind bs v more all rest) e h
text_behind bs (Meant text) bytes more all rest s h = let e : bytes ≡ text = cc in subst (λ v. TextBehind bs v more all rest) e h
text_behind bs Comment bytes more all rest s h = cc
text_behind bs (Start tag) bytes more all rest s h = cc
text_behind bs (End n) bytes more all rest s h = cc

module _ (t : Token) (cs after : List ℕ) (h : TokenAt cs t after) where
  behind : (bs : List Binding) (all : Forest) (rest : List ℕ) → Content bs cs all rest → ((cs ≡ rest) × (all ≡ Nothing)) ⊎ Behind bs t after all rest
  behind bs all rest (Content.stop e f) = inl (e, f)
  behind bs all rest (Content.text {more = more} {ns = ns} u bytes at s k e) =
      let w = one_token cs u t more after at h in
      inr (subst (λ v. Behind bs v after all rest) w.0 (text_behind bs u bytes after all rest s (record { nodes = ns; content = subst (λ m. Content bs m ns rest) w.1 k; whole = e })))
  behind bs all rest (Content.comment {more = more} at k) =
      let w = one_token cs Comment t more after at h in
      inr (subst (λ v. Behind bs v after all rest) w.0 (subst (λ m. Content bs m all rest) w.1 k))
  behind bs all rest (Content.empty {more = more} {ns = ns} tag m at b d k e) =
      let w = one_token cs (Start tag) t more after at h in
      inr (subst (λ v. Behind bs v after all rest) w.0 (inl (record { meaning = m; nodes = ns; meant = d; empty = b; content = subst (λ m. Content bs m ns rest) w.1 k; whole = e })))
  behind bs all rest (Content.nested {inner = inner} {close = close} {more = more} {kids = kids} {ns = ns} tag m at b d k c g e) =
      let w = one_token cs (Start tag) t inner after at h in
      inr (subst (λ v. Behind bs v after all rest) w.0 (inr (record {
        meaning = m;
        kids = kids;
        close = close;
        more = more;
        nodes = ns;
        meant = d;
        empty = b;
        inside = subst (λ i. Content m.bindings i kids close) w.1 k;
        closes = c;
        content = g;
        whole = e;
      })))

-- What completes a state

abbrev pub root : Frame → Forest → Tree
root f kids = record { name = f.name; attributes = f.attributes; children = kids }

abbrev pub Goes : List Binding → Frame → List Frame → Forest → List ℕ → Tree → Type 0
Goes bs f [] kids close all = (rest : List ℕ) × TokenAt close (End f.spelled) rest × Epilog rest × (all ≡ root f kids)
Goes bs f (g ∷ gs) kids close all = (rest after : List ℕ) × (nodes : Forest) × TokenAt close (End f.spelled) rest × Content (take f.outside bs) rest nodes after
    × Goes (take f.outside bs) g gs (append g.kids (Element_then f.name f.attributes kids nodes)) after all

pub record Inside (bs : List Binding) (f : Frame) (fs : List Frame) (p cs : List ℕ) (all : Tree) : Type 0 where
  pub nodes : Forest
  pub close : List ℕ
  pub content : Content bs cs nodes close
  pub goes : Goes bs f fs (append f.kids (add_text p nodes)) close all

abbrev pub Completes : List Binding → List Frame → List ℕ → Option Tree → List ℕ → Tree → Type 0
Completes bs [] p None cs all = Document bs cs all
Completes bs [] p (Some t) cs all = Epilog cs × (all ≡ t)
Completes bs (f ∷ fs) p e cs all = Inside bs f fs p cs all

abbrev pub Leads : Option State → List ℕ → Tree → Type 0
Leads None cs all = ⊥
Leads (Some s) cs all = Completes s.bindings s.frames s.pending s.ended cs all

-- what is closed goes on with an end tag
pub goes_end : (bs : List Binding) (f : Frame) (fs : List Frame) (kids : Forest) (close : List ℕ) (all : Tree) → Goes bs f fs kids close all → (rest : List ℕ) × TokenAt close (End f.spelled) rest
goes_end bs f [] kids close all (rest, h, k, e) = (rest, h)
goes_end bs f (g ∷ gs) kids close all (rest, after, nodes, h, k, m) = (rest, h)

not_end : (bs : List Binding) (f : Frame) (fs : List Frame) (kids : Forest) (cs close : List ℕ) (all : Tree) (t : Token) (more : List ℕ) → Goes bs f fs kids close all → cs ≡ close → TokenAt cs t more → t ≡ End f.spelled
not_end bs f fs kids cs close all t more g e h =
    let (rest, k) = goes_end bs f fs kids close all g in
    (one_token cs t (End f.spelled) more rest h (subst (λ v. TokenAt v (End f.spelled) rest) (sym e) k)).0

-- Text

module _ (bs : List Binding) (f : Frame) (fs : List Frame) (p cs : List ℕ) (all : Tree) (text more : List ℕ) where
  text_on : (close : List ℕ) (nodes : Forest) → TextBehind bs text more nodes close → Goes bs f fs (append f.kids (add_text p nodes)) close all → Inside bs f fs (p ++ text) more all
  text_on close nodes h g = record {
    nodes = h.nodes;
    close = close;
    content = h.content;
    goes = subst (λ v. Goes bs f fs (append f.kids v) close all) (ap (add_text p) h.whole ∙ add_text-add_text p text h.nodes) g;
  }

  text_back : (t : Token) → TokenAt cs t more → said t ≡ Some text → Inside bs f fs (p ++ text) more all → Inside bs f fs p cs all
  text_back t at s h = record {
    nodes = add_text text h.nodes;
    close = h.close;
    content = Content.text t text at s h.content refl;
    goes = subst (λ v. Goes bs f fs (append f.kids v) h.close all) (sym (add_text-add_text p text h.nodes)) h.goes;
  }

pub no_token : (t : Token) (more : List ℕ) → TokenAt [] t more → ⊥
no_token t more h = let k = next_complete h in absurd cc

-- Plain characters

plain_step : (bs : List Binding) (fs : List Frame) (p : List ℕ) (e : Option Tree) (c : ℕ) (cs more : List ℕ) (all : Tree) → TokenAt cs (Plain c) more
    → Completes bs fs p e cs all → Leads (plain_on bs fs p e c) more all
plain_step bs [] p None c cs more all at h = document_plain h
  where
    kept : (b : Bool) → b ≡ true → Document bs more all → Leads (cond b (Some (state bs [] p None)) None) more all
    kept true q k = k
    kept false q k = cc

    document_plain : Document bs cs all → Leads (cond (is_white c) (Some (state bs [] p None)) None) more all
    document_plain (Document.white {more = m} d a w k) =
        let z = one_token cs (Plain d) (Plain c) m more a at in
        let i : d ≡ c = let y = z.0 in cc in
        kept (is_white c) (subst (λ v. is_white v ≡ true) i w) (subst (λ v. Document bs v all) z.1 k)
    document_plain (Document.comment {more = m} a k) = let z = (one_token cs Comment (Plain c) m more a at).0 in absurd cc
    document_plain (Document.empty {more = m} tag x a b d k e) = let z = (one_token cs (Start tag) (Plain c) m more a at).0 in absurd cc
    document_plain (Document.nested {inner = m} tag x kids a b d i k q e) = let z = (one_token cs (Start tag) (Plain c) m more a at).0 in absurd cc
plain_step bs [] p (Some t) c cs more all at (h, e) = epilog_plain h
  where
    kept : (b : Bool) → b ≡ true → Epilog more → Leads (cond b (Some (state bs [] p (Some t))) None) more all
    kept true q k = (k, e)
    kept false q k = cc

    epilog_plain : Epilog cs → Leads (cond (is_white c) (Some (state bs [] p (Some t))) None) more all
    epilog_plain (Epilog.stop i) = absurd (no_token (Plain c) more (subst (λ v. TokenAt v (Plain c) more) i at))
    epilog_plain (Epilog.white {more = m} d a w k) =
        let z = one_token cs (Plain d) (Plain c) m more a at in
        let i : d ≡ c = let y = z.0 in cc in
        kept (is_white c) (subst (λ v. is_white v ≡ true) i w) (subst Epilog z.1 k)
    epilog_plain (Epilog.comment {more = m} a k) = let z = (one_token cs Comment (Plain c) m more a at).0 in absurd cc
plain_step bs (f ∷ fs) p e c cs more all at h =
    elim (behind (Plain c) cs more at bs h.nodes h.close h.content) [
      | inl (i, k) ↦ let z = not_end bs f fs _ cs h.close all (Plain c) more h.goes i at in absurd cc
      | inr t ↦ text_on bs f fs p cs all (encode_utf8 c) more h.close h.nodes t h.goes
    ]

plain_back : (bs : List Binding) (fs : List Frame) (p : List ℕ) (e : Option Tree) (c : ℕ) (cs more : List ℕ) (all : Tree) → TokenAt cs (Plain c) more
    → Leads (plain_on bs fs p e c) more all → Completes bs fs p e cs all
plain_back bs [] p None c cs more all at h = step (is_white c) refl h
  where
    step : (b : Bool) → is_white c ≡ b → Leads (cond b (Some (state bs [] p None)) None) more all → Document bs cs all
    step true w k = Document.white c at w k
    step false w k = absurd k
plain_back bs [] p (Some t) c cs more all at h = step (is_white c) refl h
  where
    step : (b : Bool) → is_white c ≡ b → Leads (cond b (Some (state bs [] p (Some t))) None) more all → Epilog cs × (all ≡ t)
    step true w (k, e) = (Epilog.white c at w k, e)
    step false w k = absurd k
plain_back bs (f ∷ fs) p e c cs more all at h = text_back bs f fs p cs all (encode_utf8 c) more (Plain c) at refl h

-- References and sections

meant_step : (bs : List Binding) (fs : List Frame) (p : List ℕ) (e : Option Tree) (text cs more : List ℕ) (all : Tree) → TokenAt cs (Meant text) more
    → Completes bs fs p e cs all → Leads (meant_on bs fs p e text) more all
meant_step bs [] p None text cs more all at h = document_meant h
  where
    document_meant : Document bs cs all → ⊥
    document_meant (Document.white {more = m} d a w k) = let z = (one_token cs (Plain d) (Meant text) m more a at).0 in cc
    document_meant (Document.comment {more = m} a k) = let z = (one_token cs Comment (Meant text) m more a at).0 in cc
    document_meant (Document.empty {more = m} tag x a b d k e) = let z = (one_token cs (Start tag) (Meant text) m more a at).0 in cc
    document_meant (Document.nested {inner = m} tag x kids a b d i k q e) = let z = (one_token cs (Start tag) (Meant text) m more a at).0 in cc
meant_step bs [] p (Some t) text cs more all at (h, e) = epilog_meant h
  where
    epilog_meant : Epilog cs → ⊥
    epilog_meant (Epilog.stop i) = no_token (Meant text) more (subst (λ v. TokenAt v (Meant text) more) i at)
    epilog_meant (Epilog.white {more = m} d a w k) = let z = (one_token cs (Plain d) (Meant text) m more a at).0 in cc
    epilog_meant (Epilog.comment {more = m} a k) = let z = (one_token cs Comment (Meant text) m more a at).0 in cc
meant_step bs (f ∷ fs) p e text cs more all at h =
    elim (behind (Meant text) cs more at bs h.nodes h.close h.content) [
      | inl (i, k) ↦ let z = not_end bs f fs _ cs h.close all (Meant text) more h.goes i at in absurd cc
      | inr t ↦ text_on bs f fs p cs all text more h.close h.nodes t h.goes
    ]

meant_back : (bs : List Binding) (fs : List Frame) (p : List ℕ) (e : Option Tree) (text cs more : List ℕ) (all : Tree) → TokenAt cs (Meant text) more
    → Leads (meant_on bs fs p e text) more all → Completes bs fs p e cs all
meant_back bs [] p e text cs more all at h = absurd h
meant_back bs (f ∷ fs) p e text cs more all at h = text_back bs f fs p cs all text more (Meant text) at refl h

-- Comments

comment_step : (bs : List Binding) (fs : List Frame) (p : List ℕ) (e : Option Tree) (cs more : List ℕ) (all : Tree) → TokenAt cs Comment more
    → Completes bs fs p e cs all → Completes bs fs p e more all
comment_step bs [] p None cs more all at h = document_comment h
  where
    document_comment : Document bs cs all → Document bs more all
    document_comment (Document.white {more = m} d a w k) = let z = (one_token cs (Plain d) Comment m more a at).0 in absurd cc
    document_comment (Document.comment {more = m} a k) = subst (λ v. Document bs v all) (one_token cs Comment Comment m more a at).1 k
    document_comment (Document.empty {more = m} tag x a b d k e) = let z = (one_token cs (Start tag) Comment m more a at).0 in absurd cc
    document_comment (Document.nested {inner = m} tag x kids a b d i k q e) = let z = (one_token cs (Start tag) Comment m more a at).0 in absurd cc
comment_step bs [] p (Some t) cs more all at (h, e) = (epilog_comment h, e)
  where
    epilog_comment : Epilog cs → Epilog more
    epilog_comment (Epilog.stop i) = absurd (no_token Comment more (subst (λ v. TokenAt v Comment more) i at))
    epilog_comment (Epilog.white {more = m} d a w k) = let z = (one_token cs (Plain d) Comment m more a at).0 in absurd cc
    epilog_comment (Epilog.comment {more = m} a k) = subst Epilog (one_token cs Comment Comment m more a at).1 k
comment_step bs (f ∷ fs) p e cs more all at h =
    elim (behind Comment cs more at bs h.nodes h.close h.content) [
      | inl (i, k) ↦ let z = not_end bs f fs _ cs h.close all Comment more h.goes i at in absurd cc
      | inr k ↦ record { nodes = h.nodes; close = h.close; content = k; goes = h.goes }
    ]

comment_back : (bs : List Binding) (fs : List Frame) (p : List ℕ) (e : Option Tree) (cs more : List ℕ) (all : Tree) → TokenAt cs Comment more
    → Completes bs fs p e more all → Completes bs fs p e cs all
comment_back bs [] p None cs more all at h = Document.comment at h
comment_back bs [] p (Some t) cs more all at (h, e) = (Epilog.comment at h, e)
comment_back bs (f ∷ fs) p e cs more all at h = record { nodes = h.nodes; close = h.close; content = Content.comment at h.content; goes = h.goes }

-- End tags

-- what closing leads to, and what stands behind an end tag
close_step : (bs : List Binding) (f : Frame) (fs : List Frame) (p cs more : List ℕ) (all : Tree) → TokenAt cs (End f.spelled) more
    → Goes bs f fs (append f.kids (add_text p Nothing)) cs all → Leads (Some (closed bs (flushed f p) fs)) more all
close_step bs f [] p cs more all at (rest, h, k, e) = let z = (one_token cs (End f.spelled) (End f.spelled) rest more h at).1 in (subst Epilog z k, e)
close_step bs f (g ∷ gs) p cs more all at (rest, after, nodes, h, k, m) =
    let z = (one_token cs (End f.spelled) (End f.spelled) rest more h at).1 in
    record {
      nodes = nodes;
      close = after;
      content = subst (λ v. Content (take f.outside bs) v nodes after) z k;
      goes = goes_with gs (sym (kid-more g.kids f.name f.attributes (append f.kids (add_text p Nothing)) nodes)) m;
    }
  where
    goes_with : (gs : List Frame) {a b : Forest} → a ≡ b → Goes (take f.outside bs) g gs a after all → Goes (take f.outside bs) (with_kid g (flushed f p)) gs b after all
    goes_with [] {a} {b} i m = subst (λ v. Goes (take f.outside bs) (with_kid g (flushed f p)) [] v after all) i m
    goes_with (q ∷ qs) {a} {b} i m = subst (λ v. Goes (take f.outside bs) (with_kid g (flushed f p)) (q ∷ qs) v after all) i m

close_back : (bs : List Binding) (f : Frame) (fs : List Frame) (p cs more : List ℕ) (all : Tree) → TokenAt cs (End f.spelled) more
    → Leads (Some (closed bs (flushed f p) fs)) more all → Goes bs f fs (append f.kids (add_text p Nothing)) cs all
close_back bs f [] p cs more all at (k, e) = (more, at, k, e)
close_back bs f (g ∷ gs) p cs more all at h =
    (more, h.close, h.nodes, at, h.content, goes_with gs (kid-more g.kids f.name f.attributes (append f.kids (add_text p Nothing)) h.nodes) h.goes)
  where
    goes_with : (gs : List Frame) {a b : Forest} → a ≡ b → Goes (take f.outside bs) (with_kid g (flushed f p)) gs a h.close all → Goes (take f.outside bs) g gs b h.close all
    goes_with [] {a} {b} i m = subst (λ v. Goes (take f.outside bs) g [] v h.close all) i m
    goes_with (q ∷ qs) {a} {b} i m = subst (λ v. Goes (take f.outside bs) g (q ∷ qs) v h.close all) i m

end_step : (bs : List Binding) (fs : List Frame) (p : List ℕ) (e : Option Tree) (name cs more : List ℕ) (all : Tree) → TokenAt cs (End name) more
    → Completes bs fs p e cs all → Leads (end_on bs fs p e name) more all
end_step bs [] p None name cs more all at h = document_end h
  where
    document_end : Document bs cs all → ⊥
    document_end (Document.white {more = m} d a w k) = let z = (one_token cs (Plain d) (End name) m more a at).0 in cc
    document_end (Document.comment {more = m} a k) = let z = (one_token cs Comment (End name) m more a at).0 in cc
    document_end (Document.empty {more = m} tag x a b d k e) = let z = (one_token cs (Start tag) (End name) m more a at).0 in cc
    document_end (Document.nested {inner = m} tag x kids a b d i k q e) = let z = (one_token cs (Start tag) (End name) m more a at).0 in cc
end_step bs [] p (Some t) name cs more all at (h, e) = epilog_end h
  where
    epilog_end : Epilog cs → ⊥
    epilog_end (Epilog.stop i) = no_token (End name) more (subst (λ v. TokenAt v (End name) more) i at)
    epilog_end (Epilog.white {more = m} d a w k) = let z = (one_token cs (Plain d) (End name) m more a at).0 in cc
    epilog_end (Epilog.comment {more = m} a k) = let z = (one_token cs Comment (End name) m more a at).0 in cc
end_step bs (f ∷ fs) p e name cs more all at h =
    elim (behind (End name) cs more at bs h.nodes h.close h.content) [
      | inl (i, k) ↦
          let z = not_end bs f fs (append f.kids (add_text p h.nodes)) cs h.close all (End name) more h.goes i at in
          let n : name ≡ f.spelled = cc in
          let g : Goes bs f fs (append f.kids (add_text p Nothing)) cs all =
          subst (λ v. Goes bs f fs (append f.kids (add_text p Nothing)) v all) (sym i) (subst (λ v. Goes bs f fs (append f.kids (add_text p v)) h.close all) k h.goes) in
          ends (same f.spelled name) (subst (λ v. same f.spelled v ≡ true) (sym n) (same_same f.spelled)) (close_step bs f fs p cs more all (subst (λ v. TokenAt cs (End v) more) n at) g)
      | inr k ↦ absurd k
    ]
  where
    ends : (b : Bool) → b ≡ true → Leads (Some (closed bs (flushed f p) fs)) more all → Leads (cond b (Some (closed bs (flushed f p) fs)) None) more all
    ends true q k = k
    ends false q k = cc

end_back : (bs : List Binding) (fs : List Frame) (p : List ℕ) (e : Option Tree) (name cs more : List ℕ) (all : Tree) → TokenAt cs (End name) more
    → Leads (end_on bs fs p e name) more all → Completes bs fs p e cs all
end_back bs [] p e name cs more all at h = absurd h
end_back bs (f ∷ fs) p e name cs more all at h = step (same f.spelled name) refl h
  where
    step : (b : Bool) → same f.spelled name ≡ b → Leads (cond b (Some (closed bs (flushed f p) fs)) None) more all → Inside bs f fs p cs all
    step true q k = record {
      nodes = Nothing;
      close = cs;
      content = Content.stop refl refl;
      goes = close_back bs f fs p cs more all (subst (λ v. TokenAt cs (End v) more) (sym (same_is f.spelled name q)) at) k;
    }
    step false q k = absurd k

-- Start tags and empty tags

abbrev pub Begun : List Binding → List Frame → Tag → Meaning → List ℕ → Tree → Type 0
Begun bs fs tag m more all = Leads (Some (begun (length bs) fs tag m)) more all

begun_empty : (outside : ℕ) (fs : List Frame) (tag : Tag) (m : Meaning) → tag.is_empty ≡ true → begun outside fs tag m ≡ closed m.bindings (frame_of outside tag.name m) fs
begun_empty outside fs tag m e = rw e refl

begun_nested : (outside : ℕ) (fs : List Frame) (tag : Tag) (m : Meaning) → tag.is_empty ≡ false → begun outside fs tag m ≡ state m.bindings (frame_of outside tag.name m ∷ fs) [] None
begun_nested outside fs tag m e = rw e refl

meant_leads : (bs : List Binding) (tag : Tag) (m : Meaning) (f : Meaning → Option State) (more : List ℕ) (all : Tree) → means bs tag ≡ Some m → Leads (f m) more all → Leads (means bs tag >>= f) more all
meant_leads bs tag m f more all e h = subst (λ o. Leads (o >>= f) more all) (sym e) h

meant_came : (bs : List Binding) (tag : Tag) (f : Meaning → Option State) (more : List ℕ) (all : Tree) → Leads (means bs tag >>= f) more all → (m : Meaning) × (means bs tag ≡ Some m) × Leads (f m) more all
meant_came bs tag f more all h = step (means bs tag) refl h
  where
    step : (o : Option Meaning) → means bs tag ≡ o → Leads (o >>= f) more all → (m : Meaning) × (means bs tag ≡ Some m) × Leads (f m) more all
    step None e h = absurd h
    step (Some m) e h = (m, e, h)

module _ (bs : List Binding) (f : Frame) (fs : List Frame) (p : List ℕ) (tag : Tag) (cs more : List ℕ) (all : Tree) where
  goes_as : (gs : List Frame) (k : Forest) (close : List ℕ) → Goes bs f gs k close all → Goes bs (flushed f p) gs k close all
  goes_as [] k close g = g
  goes_as (q ∷ qs) k close g = g

  goes_from : (gs : List Frame) (k : Forest) (close : List ℕ) → Goes bs (flushed f p) gs k close all → Goes bs f gs k close all
  goes_from [] k close g = g
  goes_from (q ∷ qs) k close g = g

  kid_as : (x : Frame) (gs : List Frame) (k : Forest) (close : List ℕ) → Goes bs (flushed f p) gs k close all → Goes bs (with_kid (flushed f p) x) gs k close all
  kid_as x [] k close g = g
  kid_as x (q ∷ qs) k close g = g

  kid_from : (x : Frame) (gs : List Frame) (k : Forest) (close : List ℕ) → Goes bs (with_kid (flushed f p) x) gs k close all → Goes bs (flushed f p) gs k close all
  kid_from x [] k close g = g
  kid_from x (q ∷ qs) k close g = g

  empty_in : (m : Meaning) (nodes : Forest) (close : List ℕ) → means bs tag ≡ Some m → tag.is_empty ≡ true → Content bs more nodes close
      → Goes bs f fs (append f.kids (add_text p (Element_then m.name m.attributes Nothing nodes))) close all → Begun bs (flushed f p ∷ fs) tag m more all
  empty_in m nodes close d b c g =
      let i = sym (means_bindings bs tag m d) in
      let k : Inside bs (with_kid (flushed f p) (frame_of (length bs) tag.name m)) fs [] more all = record {
        nodes = nodes;
        close = close;
        content = c;
        goes = kid_as (frame_of (length bs) tag.name m) fs _ close (goes_as fs _ close (subst (λ v. Goes bs f fs v close all)
            (sym (kid-more (append f.kids (add_text p Nothing)) m.name m.attributes Nothing nodes ∙ flush-element f.kids p m.name m.attributes Nothing nodes)) g));
      } in
      subst (λ s. Leads (Some s) more all) (sym (begun_empty (length bs) (flushed f p ∷ fs) tag m b))
      (subst (λ v. Inside v (with_kid (flushed f p) (frame_of (length bs) tag.name m)) fs [] more all) i k)

  empty_out : (m : Meaning) → TokenAt cs (Start tag) more → means bs tag ≡ Some m → tag.is_empty ≡ true → Begun bs (flushed f p ∷ fs) tag m more all → Inside bs f fs p cs all
  empty_out m at d b h =
      let h' : Inside (take (length bs) m.bindings) (with_kid (flushed f p) (frame_of (length bs) tag.name m)) fs [] more all =
      subst (λ s. Leads (Some s) more all) (begun_empty (length bs) (flushed f p ∷ fs) tag m b) h in
      let k = subst (λ v. Inside v (with_kid (flushed f p) (frame_of (length bs) tag.name m)) fs [] more all) (means_bindings bs tag m d) h' in
      record {
        nodes = Element_then m.name m.attributes Nothing k.nodes;
        close = k.close;
        content = Content.empty tag m at b d k.content refl;
        goes = subst (λ v. Goes bs f fs v k.close all)
            (kid-more (append f.kids (add_text p Nothing)) m.name m.attributes Nothing k.nodes ∙ flush-element f.kids p m.name m.attributes Nothing k.nodes)
            (goes_from fs _ k.close (kid_from (frame_of (length bs) tag.name m) fs _ k.close k.goes));
      }

  nested_in : (m : Meaning) (kids nodes : Forest) (end after close : List ℕ) → means bs tag ≡ Some m → tag.is_empty ≡ false → Content m.bindings more kids end → TokenAt end (End tag.name) after
      → Content bs after nodes close → Goes bs f fs (append f.kids (add_text p (Element_then m.name m.attributes kids nodes))) close all → Begun bs (flushed f p ∷ fs) tag m more all
  nested_in m kids nodes end after close d b c q k g =
      let i = sym (means_bindings bs tag m d) in
      let goes' : Goes bs (flushed f p) fs (append (append f.kids (add_text p Nothing)) (Element_then m.name m.attributes kids nodes)) close all =
      goes_as fs _ close (subst (λ v. Goes bs f fs v close all) (sym (flush-element f.kids p m.name m.attributes kids nodes)) g) in
      let inside : Inside m.bindings (frame_of (length bs) tag.name m) (flushed f p ∷ fs) [] more all = record {
        nodes = kids;
        close = end;
        content = c;
        goes = (
          after,
          close,
          nodes,
          q,
          subst (λ v. Content v after nodes close) i k,
          subst (λ v. Goes v (flushed f p) fs (append (append f.kids (add_text p Nothing)) (Element_then m.name m.attributes kids nodes)) close all) i goes',
        );
      } in
      subst (λ s. Leads (Some s) more all) (sym (begun_nested (length bs) (flushed f p ∷ fs) tag m b)) inside

  nested_out : (m : Meaning) → TokenAt cs (Start tag) more → means bs tag ≡ Some m → tag.is_empty ≡ false → Begun bs (flushed f p ∷ fs) tag m more all → Inside bs f fs p cs all
  nested_out m at d b h =
      let k : Inside m.bindings (frame_of (length bs) tag.name m) (flushed f p ∷ fs) [] more all =
      subst (λ s. Leads (Some s) more all) (begun_nested (length bs) (flushed f p ∷ fs) tag m b) h in
      let (after, close, nodes, q, c, g) = k.goes in
      let i = means_bindings bs tag m d in
      record {
        nodes = Element_then m.name m.attributes k.nodes nodes;
        close = close;
        content = Content.nested tag m at b d k.content q (subst (λ v. Content v after nodes close) i c) refl;
        goes = subst (λ v. Goes bs f fs v close all) (flush-element f.kids p m.name m.attributes k.nodes nodes)
            (goes_from fs _ close (subst (λ v. Goes v (flushed f p) fs (append (append f.kids (add_text p Nothing)) (Element_then m.name m.attributes k.nodes nodes)) close all) i g));
      }

  begun_out : (b : Bool) → tag.is_empty ≡ b → (m : Meaning) → TokenAt cs (Start tag) more → means bs tag ≡ Some m → Begun bs (flushed f p ∷ fs) tag m more all → Inside bs f fs p cs all
  begun_out true b m at d h = empty_out m at d b h
  begun_out false b m at d h = nested_out m at d b h

-- the root
module _ (bs : List Binding) (tag : Tag) (cs more : List ℕ) (all : Tree) where
  root_empty : (m : Meaning) → tag.is_empty ≡ true → Epilog more → all ≡ tree m Nothing → Begun bs [] tag m more all
  root_empty m b k e = subst (λ s. Leads (Some s) more all) (sym (begun_empty (length bs) [] tag m b)) (k, e)

  root_nested : (m : Meaning) (kids : Forest) (close rest : List ℕ) → tag.is_empty ≡ false → Content m.bindings more kids close → TokenAt close (End tag.name) rest → Epilog rest → all ≡ tree m kids
      → Begun bs [] tag m more all
  root_nested m kids close rest b c q k e =
      let inside : Inside m.bindings (frame_of (length bs) tag.name m) [] [] more all = record { nodes = kids; close = close; content = c; goes = (rest, q, k, e) } in
      subst (λ s. Leads (Some s) more all) (sym (begun_nested (length bs) [] tag m b)) inside

  root_out : (b : Bool) → tag.is_empty ≡ b → (m : Meaning) → TokenAt cs (Start tag) more → means bs tag ≡ Some m → Begun bs [] tag m more all → Document bs cs all
  root_out true b m at d h =
      let k : Epilog more × (all ≡ tree m Nothing) = subst (λ s. Leads (Some s) more all) (begun_empty (length bs) [] tag m b) h in
      Document.empty tag m at b d k.0 k.1
  root_out false b m at d h =
      let k : Inside m.bindings (frame_of (length bs) tag.name m) [] [] more all = subst (λ s. Leads (Some s) more all) (begun_nested (length bs) [] tag m b) h in
      let (rest, q, g, e) = k.goes in
      Document.nested tag m k.nodes at b d k.content q g e

start_step : (bs : List Binding) (fs : List Frame) (p : List ℕ) (e : Option Tree) (tag : Tag) (cs more : List ℕ) (all : Tree) → TokenAt cs (Start tag) more
    → Completes bs fs p e cs all → Leads (start_on bs fs p e tag) more all
start_step bs [] p None tag cs more all at h = document_start h
  where
    document_start : Document bs cs all → Leads (means bs tag >>= (λ m. Some (begun (length bs) [] tag m))) more all
    document_start (Document.white {more = m} d a w k) = let z = (one_token cs (Plain d) (Start tag) m more a at).0 in absurd cc
    document_start (Document.comment {more = m} a k) = let z = (one_token cs Comment (Start tag) m more a at).0 in absurd cc
    document_start (Document.empty {more = m} t x a b d k e) =
        let z = one_token cs (Start t) (Start tag) m more a at in
        let i : t ≡ tag = let y = z.0 in cc in
        meant_leads bs tag x _ more all (subst (λ v. means bs v ≡ Some x) i d) (root_empty bs tag cs more all x (subst (λ v. v.is_empty ≡ true) i b) (subst Epilog z.1 k) e)
    document_start (Document.nested {inner = m} {close = c} {more = r} t x kids a b d k q g e) =
        let z = one_token cs (Start t) (Start tag) m more a at in
        let i : t ≡ tag = let y = z.0 in cc in
        meant_leads bs tag x _ more all (subst (λ v. means bs v ≡ Some x) i d)
        (root_nested bs tag cs more all x kids c r (subst (λ v. v.is_empty ≡ false) i b) (subst (λ v. Content x.bindings v kids c) z.1 k) (subst (λ v. TokenAt c (End v.name) r) i q) g e)
start_step bs [] p (Some t) tag cs more all at (h, e) = epilog_start h
  where
    epilog_start : Epilog cs → ⊥
    epilog_start (Epilog.stop i) = no_token (Start tag) more (subst (λ v. TokenAt v (Start tag) more) i at)
    epilog_start (Epilog.white {more = m} d a w k) = let z = (one_token cs (Plain d) (Start tag) m more a at).0 in cc
    epilog_start (Epilog.comment {more = m} a k) = let z = (one_token cs Comment (Start tag) m more a at).0 in cc
start_step bs (f ∷ fs) p e tag cs more all at h =
    elim (behind (Start tag) cs more at bs h.nodes h.close h.content) [
      | inl (i, k) ↦ let z = not_end bs f fs (append f.kids (add_text p h.nodes)) cs h.close all (Start tag) more h.goes i at in absurd cc
      | inr w ↦ elim w [
        | inl x ↦ meant_leads bs tag x.meaning _ more all x.meant (empty_in bs f fs p tag cs more all x.meaning x.nodes h.close x.meant x.empty x.content
            (subst (λ v. Goes bs f fs (append f.kids (add_text p v)) h.close all) x.whole h.goes))
        | inr x ↦ meant_leads bs tag x.meaning _ more all x.meant (nested_in bs f fs p tag cs more all x.meaning x.kids x.nodes x.close x.more h.close x.meant x.empty x.inside x.closes x.content
            (subst (λ v. Goes bs f fs (append f.kids (add_text p v)) h.close all) x.whole h.goes))
      ]
    ]

start_back : (bs : List Binding) (fs : List Frame) (p : List ℕ) (e : Option Tree) (tag : Tag) (cs more : List ℕ) (all : Tree) → TokenAt cs (Start tag) more
    → Leads (start_on bs fs p e tag) more all → Completes bs fs p e cs all
start_back bs [] p None tag cs more all at h =
    let (m, d, k) = meant_came bs tag (λ m. Some (begun (length bs) [] tag m)) more all h in
    root_out bs tag cs more all tag.is_empty refl m at d k
start_back bs [] p (Some t) tag cs more all at h = absurd h
start_back bs (f ∷ fs) p e tag cs more all at h =
    let (m, d, k) = meant_came bs tag (λ m. Some (begun (length bs) (flushed f p ∷ fs) tag m)) more all h in
    begun_out bs f fs p tag cs more all tag.is_empty refl m at d k

-- The step law

pub step_on : (bs : List Binding) (fs : List Frame) (p : List ℕ) (e : Option Tree) (t : Token) (cs more : List ℕ) (all : Tree) → TokenAt cs t more
    → Completes bs fs p e cs all → Leads (advance bs fs p e t) more all
step_on bs fs p e (Plain c) cs more all at h = plain_step bs fs p e c cs more all at h
step_on bs fs p e (Meant text) cs more all at h = meant_step bs fs p e text cs more all at h
step_on bs fs p e Comment cs more all at h = comment_step bs fs p e cs more all at h
step_on bs fs p e (Start tag) cs more all at h = start_step bs fs p e tag cs more all at h
step_on bs fs p e (End name) cs more all at h = end_step bs fs p e name cs more all at h

pub step_back : (bs : List Binding) (fs : List Frame) (p : List ℕ) (e : Option Tree) (t : Token) (cs more : List ℕ) (all : Tree) → TokenAt cs t more
    → Leads (advance bs fs p e t) more all → Completes bs fs p e cs all
step_back bs fs p e (Plain c) cs more all at h = plain_back bs fs p e c cs more all at h
step_back bs fs p e (Meant text) cs more all at h = meant_back bs fs p e text cs more all at h
step_back bs fs p e Comment cs more all at h = comment_back bs fs p e cs more all at h
step_back bs fs p e (Start tag) cs more all at h = start_back bs fs p e tag cs more all at h
step_back bs fs p e (End name) cs more all at h = end_back bs fs p e name cs more all at h
