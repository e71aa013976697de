-- The whole is spelled exactly where the rest completes the state; and one text spells one tree.
use Rattle.std.proofs.Common.{◌≡◌, ◌⊎◌, inl, inr, refl, sym, subst, ap, ◌∙◌, arith, ℕ, zero, suc, ◌<◌, ◌≤◌, List, [], ◌∷◌, Bool, Option, Some, None, length, codes, chars}
use Rattle.std.proofs.lemmas.Option.{some_pair_parts, none-some}
use Rattle.xml_grammar.specs.Characters.{◌>>=◌, found, strip_at, behind_white, name_at, until}
use Rattle.xml_grammar.specs.Tokens.{Pair, Token, TokenAt, Pairs}
use Rattle.xml_grammar.specs.Tokens.Token.{Plain, Comment, Start, End}
use Rattle.xml_grammar.specs.Namespaces.{Binding}
use Rattle.xml_grammar.specs.Spells.{Content, Epilog, Document, Spells, body, line_ends}
use Rattle.xml_grammar.specs.Code.Reading.{next_at}
use Rattle.xml_grammar.specs.Code.Machine.{Frame, State, opening, advance}
use Rattle.xml_grammar.specs.Code.Whole.{finished, read_from, read_text}
use Rattle.xml_grammar.proofs.TokenLaws.{next_complete, bind_some, strip_length, pair_shorter, begins_length, white_length, name_length, reference_shorter}
use Rattle.xml_grammar.proofs.StepLaws.{Completes, Leads, goes_end, no_token, step_on, step_back}
use Rattle.xml_profile.specs.declared.tree.Tree.{Tree}

-- Tokens are not empty

until_shorter : (word cs a r : List ℕ) → until word cs ≡ Some (a, r) → length r ≤ length cs
until_shorter word [] a r e = cc
until_shorter word (c ∷ cs) a r e = step (strip_at word (c ∷ cs)) refl (λ b. until_shorter word cs b r) e
  where
    step : (o : Option (List ℕ)) → strip_at word (c ∷ cs) ≡ o → ((b : List ℕ) → until word cs ≡ Some (b, r) → length r ≤ length cs)
        → found {B = Option (List ℕ × List ℕ)} o (λ rest. Some ([], rest)) (until word cs >>= (λ p. Some (c ∷ p.0, p.1))) ≡ Some (a, r) → length r ≤ length (c ∷ cs)
    step (Some x) p go e =
        let k = some_pair_parts [] a x r e in
        let l = strip_length word (c ∷ cs) x p in
        subst (λ v. length v ≤ length (c ∷ cs)) k.1 (omega arith)
    step None p go e =
        let ((b, q), f, g) = bind_some (until word cs) (λ p. Some (c ∷ p.0, p.1)) (a, r) e in
        let k = some_pair_parts (c ∷ b) a q r g in
        let h = go b (f ∙ ap (λ v. Some (b, v)) k.1) in
        omega arith

pairs_shorter : {cs : List ℕ} {ps : List Pair} {empty : Bool} {rest : List ℕ} → Pairs cs ps empty rest → length rest < length cs
pairs_shorter {cs} {ps} {empty} {rest} (Pairs.start e f g) = let a = strip_length (codes ">") (behind_white cs) rest e in let b = white_length cs in omega arith
pairs_shorter {cs} {ps} {empty} {rest} (Pairs.empty e f g) = let a = strip_length (codes "/>") (behind_white cs) rest e in let b = white_length cs in omega arith
pairs_shorter {cs} {ps} {empty} {rest} (Pairs.pair {more = more} p w h k f) =
    let a = begins_length cs w in
    let b = pair_shorter (behind_white cs) p more h in
    let c = pairs_shorter k in
    omega arith

pub token_shorter : {cs : List ℕ} {t : Token} {rest : List ℕ} → TokenAt cs t rest → length rest < length cs
token_shorter (TokenAt.plain c e p s f) = omega (arith, ap length e)
token_shorter {cs} {t} {rest} (TokenAt.reference c e f) = reference_shorter cs c rest e
token_shorter {cs} {t} {rest} (TokenAt.section inside e f) =
    let (x, a, b) = bind_some (strip_at (codes "<![CDATA[") cs) (until (codes "]]>")) (inside, rest) e in
    let c = strip_length (codes "<![CDATA[") cs x a in
    let d = until_shorter (codes "]]>") x inside rest b in
    omega arith
token_shorter {cs} {t} {rest} (TokenAt.comment e f) =
    let (x, a, b) = bind_some (strip_at (codes "<!--") cs) (λ inside. until (codes "--") inside >>= (λ closing. strip_at (codes ">") closing.1)) rest e in
    let ((y, z), c, d) = bind_some (until (codes "--") x) (λ closing. strip_at (codes ">") closing.1) rest b in
    let g = strip_length (codes "<!--") cs x a in
    let h = until_shorter (codes "--") x y z c in
    let i = strip_length (codes ">") z rest d in
    omega arith
token_shorter {cs} {t} {rest} (TokenAt.start tag h f) =
    let a = strip_length (codes "<") cs h.inside h.opens in
    let b = name_length h.inside tag.name h.behind_name h.named in
    let c = pairs_shorter h.pairs in
    omega arith
token_shorter {cs} {t} {rest} (TokenAt.end name e f) =
    let (x, a, b) = bind_some (strip_at (codes "</") cs) (λ inside. name_at inside >>= (λ name. strip_at (codes ">") (behind_white name.1) >>= (λ rest. Some (name.0, rest)))) (name, rest) e in
    let ((n, y), c, d) = bind_some (name_at x) (λ name. strip_at (codes ">") (behind_white name.1) >>= (λ rest. Some (name.0, rest))) (name, rest) b in
    let (z, g, h) = bind_some (strip_at (codes ">") (behind_white y)) (λ rest. Some (n, rest)) (name, rest) d in
    let i = strip_length (codes "</") cs x a in
    let j = name_length x n y c in
    let k = white_length y in
    let l = strip_length (codes ">") (behind_white y) z g in
    let m = ap length (some_pair_parts n name z rest h).1 in
    omega arith

-- What completes a state begins with a token, or the state is finished

pub record HasToken (cs : List ℕ) : Type 0 where
  pub token : Token
  pub rest : List ℕ
  pub at : TokenAt cs token rest

document_token : {bs : List Binding} {cs : List ℕ} {all : Tree} → Document bs cs all → HasToken cs
document_token (Document.white {more = m} d a w k) = record { token = Plain d; rest = m; at = a }
document_token (Document.comment {more = m} a k) = record { token = Comment; rest = m; at = a }
document_token (Document.empty {more = m} tag x a b d k e) = record { token = Start tag; rest = m; at = a }
document_token (Document.nested {inner = m} tag x kids a b d i k q e) = record { token = Start tag; rest = m; at = a }

epilog_token : {cs : List ℕ} → Epilog cs → (cs ≡ []) ⊎ HasToken cs
epilog_token (Epilog.stop e) = inl e
epilog_token (Epilog.white {more = m} d a w k) = inr (record { token = Plain d; rest = m; at = a })
epilog_token (Epilog.comment {more = m} a k) = inr (record { token = Comment; rest = m; at = a })

content_token : {bs : List Binding} {cs : List ℕ} {ns : _} {rest : List ℕ} → Content bs cs ns rest → (cs ≡ rest) ⊎ HasToken cs
content_token (Content.stop e f) = inl e
content_token (Content.text {more = m} u bytes at s k e) = inr (record { token = u; rest = m; at = at })
content_token (Content.comment {more = m} a k) = inr (record { token = Comment; rest = m; at = a })
content_token (Content.empty {more = m} tag x a b d k e) = inr (record { token = Start tag; rest = m; at = a })
content_token (Content.nested {inner = m} tag x a b d i k q e) = inr (record { token = Start tag; rest = m; at = a })

pub has_token : (bs : List Binding) (fs : List Frame) (p : List ℕ) (e : Option Tree) (c : ℕ) (cs : List ℕ) (all : Tree) → Completes bs fs p e (c ∷ cs) all → HasToken (c ∷ cs)
has_token bs [] p None c cs all h = document_token h
has_token bs [] p (Some t) c cs all h = elim (epilog_token h.0) [ inl i ↦ absurd cc | inr k ↦ k ]
has_token bs (f ∷ fs) p e c cs all h = elim (content_token h.content) [
  | inl i ↦ let (rest, k) = goes_end bs f fs _ h.close all h.goes in record { token = End f.spelled; rest = rest; at = subst (λ v. TokenAt v (End f.spelled) rest) (sym i) k }
  | inr k ↦ k
]

none_empty : HasToken [] → ⊥
none_empty h = no_token h.token h.rest h.at

pub at_end : (bs : List Binding) (fs : List Frame) (p : List ℕ) (e : Option Tree) (all : Tree) → Completes bs fs p e [] all → finished fs e ≡ Some all
at_end bs [] p None all h = absurd (none_empty (document_token h))
at_end bs [] p (Some t) all h = ap Some (sym h.1)
at_end bs (f ∷ fs) p e all h = elim (content_token h.content) [
  | inl i ↦ let (rest, k) = goes_end bs f fs _ h.close all h.goes in absurd (no_token (End f.spelled) rest (subst (λ v. TokenAt v (End f.spelled) rest) (sym i) k))
  | inr k ↦ absurd (none_empty k)
]

pub at_end_back : (bs : List Binding) (fs : List Frame) (p : List ℕ) (e : Option Tree) (all : Tree) → finished fs e ≡ Some all → Completes bs fs p e [] all
at_end_back bs [] p None all h = cc
at_end_back bs [] p (Some t) all h = let k : t ≡ all = cc in (Epilog.stop refl, sym k)
at_end_back bs (f ∷ fs) p e all h = cc

leads_some : (o : Option State) (cs : List ℕ) (all : Tree) → Leads o cs all → (s : State) × (o ≡ Some s) × Completes s.bindings s.frames s.pending s.ended cs all
leads_some None cs all h = absurd h
leads_some (Some s) cs all h = (s, refl, h)

read_step : (n : ℕ) (s t : State) (c : ℕ) (cs : List ℕ) (u : Token) (rest : List ℕ) (all : Tree) → next_at (c ∷ cs) ≡ Some (u, rest) → advance s.bindings s.frames s.pending s.ended u ≡ Some t
    → read_from n t rest ≡ Some all → read_from (suc n) s (c ∷ cs) ≡ Some all
read_step n s t c cs u rest all e f g =
    ap (λ o. o >>= (λ p. advance s.bindings s.frames s.pending s.ended p.0 >>= (λ t. read_from n t p.1))) e ∙ ap (λ o. o >>= (λ t. read_from n t rest)) f ∙ g

pub reads : (n : ℕ) (s : State) (cs : List ℕ) (all : Tree) → length cs < n → Completes s.bindings s.frames s.pending s.ended cs all → read_from n s cs ≡ Some all
reads zero s cs all l h = absurd (omega (arith, l))
reads (suc n) s [] all l h = at_end s.bindings s.frames s.pending s.ended all h
reads (suc n) s (c ∷ cs) all l h =
    let k = has_token s.bindings s.frames s.pending s.ended c cs all h in
    let (t, a, b) = leads_some (advance s.bindings s.frames s.pending s.ended k.token) k.rest all (step_on s.bindings s.frames s.pending s.ended k.token (c ∷ cs) k.rest all k.at h) in
    let m = token_shorter k.at in
    let i : length k.rest < n = omega arith in
    read_step n s t c cs k.token k.rest all (next_complete k.at) a (reads n t k.rest all i b)

pub document_read : (cs : List ℕ) (all : Tree) → Document [] cs all → read_text cs ≡ Some all
unfolding read_text
document_read cs all h = reads (suc (length cs)) opening cs all (omega arith) h

-- one text spells at most one tree
pub spells_one : (bytes : List ℕ) (t u : Tree) → Spells bytes t → Spells bytes u → t ≡ u
spells_one bytes t u h k =
    let a = document_read (body (line_ends (chars bytes))) t h.document in
    let b = document_read (body (line_ends (chars bytes))) u k.document in
    let c : Some t ≡ Some u = sym a ∙ b in cc

-- The loop

pub record Stands (whole : List ℕ) (s : State) (rest : List ℕ) : Type 0 where
  pub on : (all : Tree) → Document [] whole all → Completes s.bindings s.frames s.pending s.ended rest all
  pub back : (all : Tree) → Completes s.bindings s.frames s.pending s.ended rest all → Document [] whole all

pub stands_first : (whole : List ℕ) → Stands whole opening whole
stands_first whole = record { on = λ all h. h; back = λ all h. h }

pub stands_next : (whole : List ℕ) (s t : State) (here rest : List ℕ) (u : Token) → TokenAt here u rest → advance s.bindings s.frames s.pending s.ended u ≡ Some t → Stands whole s here → Stands whole t rest
stands_next whole s t here rest u at a h = record {
  on = λ all k. subst (λ o. Leads o rest all) a (step_on s.bindings s.frames s.pending s.ended u here rest all at (h.on all k));
  back = λ all k. h.back all (step_back s.bindings s.frames s.pending s.ended u here rest all at (subst (λ o. Leads o rest all) (sym a) k));
}

pub stands_not : (whole : List ℕ) (s : State) (here rest : List ℕ) (u : Token) → TokenAt here u rest → advance s.bindings s.frames s.pending s.ended u ≡ None → Stands whole s here → (all : Tree) → Document [] whole all → ⊥
stands_not whole s here rest u at a h all k = subst (λ o. Leads o rest all) a (step_on s.bindings s.frames s.pending s.ended u here rest all at (h.on all k))

pub stands_none : (whole : List ℕ) (s : State) (c : ℕ) (cs : List ℕ) → next_at (c ∷ cs) ≡ None → Stands whole s (c ∷ cs) → (all : Tree) → Document [] whole all → ⊥
stands_none whole s c cs e h all k =
    let t = has_token s.bindings s.frames s.pending s.ended c cs all (h.on all k) in
    none-some (t.token, t.rest) (sym e ∙ next_complete t.at)

pub stands_end : (whole : List ℕ) (s : State) (all : Tree) → Stands whole s [] → finished s.frames s.ended ≡ Some all → Document [] whole all
stands_end whole s all h e = h.back all (at_end_back s.bindings s.frames s.pending s.ended all e)

pub stands_only : (whole : List ℕ) (s : State) (all : Tree) → Stands whole s [] → Document [] whole all → finished s.frames s.ended ≡ Some all
stands_only whole s all h k = at_end s.bindings s.frames s.pending s.ended all (h.on all k)
