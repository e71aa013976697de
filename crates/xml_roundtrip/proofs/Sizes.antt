-- A tree has no more names than the text that spells it has bytes.
use Rattle.std.proofs.Common.{nat_eq, ◌≡◌, refl, sym, subst, arith, ℕ, ◌+◌, ◌<◌, ◌≤◌, le_trans, List, [], ◌∷◌, ◌++◌, length, length-append, map, Bool, true, false, cond, Option, Some, None, is_some, codes, chars}
use Rattle.std.specs.List.{fold, list_any}
use Rattle.std.specs.Str.{bytes_eq}
use Rattle.std.proofs.lemmas.Str.{length-le-encodes, encodes-chars}
use Rattle.xml_profile.specs.declared.name.Attribute.{Attribute}
use Rattle.xml_profile.specs.declared.tree.Tree.{Tree}
use Rattle.xml_profile.specs.Forest.{Forest}
use Rattle.xml_profile.specs.Forest.Forest.{End as Nothing, Text_then, Element_then}
use Rattle.xml_profile.specs.Prefixes.{fixed_prefix}
use Rattle.xml_profile.specs.CanonicalText.{enumerate, spaces_at, spaces_in, spaces_of, numbered_by}
use Rattle.xml_grammar.specs.Characters.{◌>>=◌, given, behind_white, parts}
use Rattle.xml_grammar.specs.Tokens.{Pair, Pairs, Tag, Token, TokenAt}
use Rattle.xml_grammar.specs.Tokens.Token.{Plain, Meant, Comment, Start, End}
use Rattle.xml_grammar.specs.Namespaces.{Binding, declared_by, Spelled, Sorted, sort_in, sort, may_declare, element_name, attribute_name, attributes_of, are_apart, Meaning, means}
use Rattle.xml_grammar.specs.Spells.{add_text, Content, Document, tree, begins_feed, line_end, line_ends, body, Spells}
use Rattle.xml_grammar.proofs.TokenLaws.{bind_some, strip_length, white_length, begins_length, name_length, pair_shorter}
use Rattle.xml_grammar.proofs.WholeLaws.{token_shorter}
use Rattle.xml_roundtrip.proofs.Suffixes.{of_body}

-- What is in front of a document

ends_shorter : (cs : List ℕ) → length (line_ends cs) ≤ length cs
ends_shorter [] = omega arith
ends_shorter (c ∷ cs) =
    let e = length-append (line_end c cs) (line_ends cs) in
    let f = by_case (nat_eq c 13) (begins_feed cs) in
    let g = ends_shorter cs in
    omega arith
  where
    by_case : (x y : Bool) → length (cond x (cond y [] (10 ∷ [])) (c ∷ [])) ≤ 1
    by_case true true = omega arith
    by_case true false = omega arith
    by_case false y = omega arith

body_shorter : (cs : List ℕ) → length (body cs) ≤ length cs
body_shorter cs = of_body (λ v. length v ≤ length cs) (λ c v h. omega (arith, h)) cs (omega arith)

-- Tags

sorted_fewer : (ps : List Pair) (s : Sorted) → sort ps ≡ Some s → length s.attributes ≤ length ps
sorted_fewer [] s e = let i : record { declarations = []; attributes = [] } ≡ s = cc in subst (λ s. length s.attributes ≤ 0) i (omega arith)
sorted_fewer (p ∷ ps) s e =
    let (name, a, f) = bind_some (parts p.name) (λ name. sort ps >>= (λ rest. Some (sort_in name p.value (declared_by name p.value) rest))) s e in
    let (rest, b, g) = bind_some (sort ps) (λ rest. Some (sort_in name p.value (declared_by name p.value) rest)) s f in
    let i : sort_in name p.value (declared_by name p.value) rest ≡ s = cc in
    let h = sorted_fewer ps rest b in
    subst (λ s. length s.attributes ≤ length (p ∷ ps)) i (one_more name (declared_by name p.value) rest h)
  where
    one_more : (name : _) (o : Option Binding) (rest : Sorted) → length rest.attributes ≤ length ps → length (sort_in name p.value o rest).attributes ≤ length (p ∷ ps)
    one_more name None rest h = omega arith
    one_more name (Some b) rest h = omega arith

attributes_fewer : (bs : List Binding) (ss : List Spelled) (ats : List Attribute) → attributes_of bs ss ≡ Some ats → length ats ≤ length ss
attributes_fewer bs [] ats e = let i : [] ≡ ats = cc in subst (λ v. length v ≤ 0) i (omega arith)
attributes_fewer bs (a ∷ ss) ats e =
    let (name, x, f) = bind_some (attribute_name bs a.name) (λ name. attributes_of bs ss >>= (λ more. Some (record { name = name; value = a.value } ∷ more))) ats e in
    let (more, y, g) = bind_some (attributes_of bs ss) (λ more. Some (record { name = name; value = a.value } ∷ more)) ats f in
    let i : record { name = name; value = a.value } ∷ more ≡ ats = cc in
    let h = attributes_fewer bs ss more y in
    subst (λ v. length v ≤ length (a ∷ ss)) i (omega arith)

means_fewer : (bs : List Binding) (tag : Tag) (m : Meaning) → means bs tag ≡ Some m → length m.attributes ≤ length tag.pairs
unfolding means
means_fewer bs tag m e =
    let (sorted, a, f) = bind_some (sort tag.pairs) _ m e in
    let (u, b, g) = bind_some (given (may_declare sorted.declarations)) _ m f in
    let (name, c, i) = bind_some (parts tag.name) _ m g in
    let (element, d, j) = bind_some (element_name (bs ++ sorted.declarations) name) _ m i in
    let (attributes, k, l) = bind_some (attributes_of (bs ++ sorted.declarations) sorted.attributes) _ m j in
    let (v, n, o) = bind_some (given (are_apart attributes)) _ m l in
    let same : record { bindings = bs ++ sorted.declarations; name = element; attributes = attributes } ≡ m = cc in
    subst (λ m. length m.attributes ≤ length tag.pairs) same (le_trans (attributes_fewer (bs ++ sorted.declarations) sorted.attributes attributes k) (sorted_fewer tag.pairs sorted a))

pairs_fit : {cs : List ℕ} {ps : List Pair} {empty : Bool} {rest : List ℕ} → Pairs cs ps empty rest → length ps + length rest ≤ length cs
pairs_fit {cs} {ps} {empty} {rest} (Pairs.start e f g) = let a = strip_length (codes ">") (behind_white cs) rest e in let b = white_length cs in rw f (omega arith)
pairs_fit {cs} {ps} {empty} {rest} (Pairs.empty e f g) = let a = strip_length (codes "/>") (behind_white cs) rest e in let b = white_length cs in rw f (omega arith)
pairs_fit {cs} {ps} {empty} {rest} (Pairs.pair {more = more} {ps = qs} p w h k f) =
    let a = begins_length cs w in
    let b = pair_shorter (behind_white cs) p more h in
    let c = pairs_fit k in
    rw f (omega arith)

-- the names of a token
abbrev names_of : Token → ℕ
names_of (Plain c) = 0
names_of (Meant text) = 0
names_of Comment = 0
names_of (Start tag) = 1 + length tag.pairs
names_of (End name) = 0

no_names : (cs rest : List ℕ) (t u : Token) → t ≡ u → names_of u ≡ 0 → length rest < length cs → names_of t + length rest ≤ length cs
no_names cs rest t u e f h = rw (e, f) (omega arith)

token_fits : {cs : List ℕ} {t : Token} {rest : List ℕ} → TokenAt cs t rest → names_of t + length rest ≤ length cs
token_fits {cs} {t} {rest} (TokenAt.plain c e p s f) = no_names cs rest t (Plain c) f refl (token_shorter (TokenAt.plain c e p s f))
token_fits {cs} {t} {rest} (TokenAt.reference c e f) = no_names cs rest t (Meant _) f refl (token_shorter (TokenAt.reference c e f))
token_fits {cs} {t} {rest} (TokenAt.section inside e f) = no_names cs rest t (Meant _) f refl (token_shorter (TokenAt.section inside e f))
token_fits {cs} {t} {rest} (TokenAt.comment e f) = no_names cs rest t Comment f refl (token_shorter (TokenAt.comment e f))
token_fits {cs} {t} {rest} (TokenAt.start tag h f) =
    let a = strip_length (codes "<") cs h.inside h.opens in
    let b = name_length h.inside tag.name h.behind_name h.named in
    let c = pairs_fit h.pairs in
    rw f (omega arith)
token_fits {cs} {t} {rest} (TokenAt.end name e f) = no_names cs rest t (End name) f refl (token_shorter (TokenAt.end name e f))

-- Content

text_names : (t : List ℕ) (f : Forest) → length (spaces_in (add_text t f)) ≡ length (spaces_in f)
text_names [] f = refl
text_names (c ∷ cs) Nothing = refl
text_names (c ∷ cs) (Text_then u r) = refl
text_names (c ∷ cs) (Element_then n a q r) = refl

length_mapped : (ats : List Attribute) → length (map (λ a. a.name.space) ats) ≡ length ats
length_mapped [] = refl
length_mapped (a ∷ ats) = let h = length_mapped ats in omega arith

element_names : (n : _) (ats : List Attribute) (c r : Forest) → length (spaces_in (Element_then n ats c r)) ≡ 1 + length ats + length (spaces_in c) + length (spaces_in r)
element_names n ats c r =
    let a = length-append (spaces_at n ats) (spaces_in c ++ spaces_in r) in
    let b = length-append (spaces_in c) (spaces_in r) in
    let d = length_mapped ats in
    omega arith

content_fits : {bs : List Binding} {cs : List ℕ} {f : Forest} {rest : List ℕ} → Content bs cs f rest → length (spaces_in f) + length rest ≤ length cs
content_fits {bs} {cs} {f} {rest} (Content.stop e g) = rw (e, g) (omega arith)
content_fits {bs} {cs} {f} {rest} (Content.text {ns = ns} t bytes at s k e) =
    let a = token_shorter at in
    let b = content_fits k in
    let c = text_names bytes ns in
    rw e (omega arith)
content_fits {bs} {cs} {f} {rest} (Content.comment at k) = let a = token_shorter at in let b = content_fits k in omega arith
content_fits {bs} {cs} {f} {rest} (Content.empty {ns = ns} tag m at i d k e) =
    let a = token_fits at in
    let b = means_fewer bs tag m d in
    let c = content_fits k in
    let l = element_names m.name m.attributes Nothing ns in
    rw e (omega arith)
content_fits {bs} {cs} {f} {rest} (Content.nested {kids = kids} {ns = ns} tag m at i d inside closes k e) =
    let a = token_fits at in
    let b = means_fewer bs tag m d in
    let c = content_fits inside in
    let g = token_shorter closes in
    let h = content_fits k in
    let l = element_names m.name m.attributes kids ns in
    rw e (omega arith)

abbrev Names : ℕ → Tree → Type 0
Names n t = length (spaces_of t) ≤ n

tree_names : (m : Meaning) (kids : Forest) → length (spaces_of (tree m kids)) ≡ 1 + length m.attributes + length (spaces_in kids)
tree_names m kids = let a = length-append (spaces_at m.name m.attributes) (spaces_in kids) in let b = length_mapped m.attributes in omega arith

document_fits : {bs : List Binding} {cs : List ℕ} {t : Tree} → Document bs cs t → length (spaces_of t) ≤ length cs
document_fits (Document.white c at w k) = let a = token_shorter at in let b = document_fits k in omega arith
document_fits (Document.comment at k) = let a = token_shorter at in let b = document_fits k in omega arith
document_fits {bs} {cs} {t} (Document.empty tag m at i d k e) =
    let a = token_fits at in
    let b = means_fewer bs tag m d in
    let c = tree_names m Nothing in
    subst (Names (length cs)) (sym e) (omega arith)
document_fits {bs} {cs} {t} (Document.nested tag m kids at i d inside closes k e) =
    let a = token_fits at in
    let b = means_fewer bs tag m d in
    let c = content_fits inside in
    let g = tree_names m kids in
    subst (Names (length cs)) (sym e) (omega arith)

-- at most one number for each name
one_number : (xs : List (List ℕ)) (o : Option (List ℕ)) → length (enumerate xs o) ≤ 1 + length xs
one_number xs None = omega arith
one_number xs (Some s) = by_case (is_some (fixed_prefix s)) (list_any (bytes_eq s) xs)
  where
    by_case : (a b : Bool) → length (cond a xs (cond b xs (xs ++ s ∷ []))) ≤ 1 + length xs
    by_case true b = omega arith
    by_case false true = omega arith
    by_case false false = let e = length-append xs (s ∷ []) in omega arith

all_numbers : (xs : List (List ℕ)) (os : List (Option (List ℕ))) → length (fold enumerate xs os) ≤ length xs + length os
all_numbers xs [] = omega arith
all_numbers xs (o ∷ os) = let a = one_number xs o in let b = all_numbers (enumerate xs o) os in omega arith

pub numbers_fit : (bytes : List ℕ) (t : Tree) → Spells bytes t → length (numbered_by t) ≤ length bytes
numbers_fit bytes t h =
    let a : length (numbered_by t) ≤ 0 + length (spaces_of t) = all_numbers [] (spaces_of t) in
    let b = document_fits h.document in
    let c = body_shorter (line_ends (chars bytes)) in
    let d = ends_shorter (chars bytes) in
    let e : length (chars bytes) ≤ length bytes = subst (λ v. length (chars bytes) ≤ length v) (encodes-chars bytes h.utf8) (length-le-encodes (chars bytes)) in
    chain (length (numbered_by t)) (length (spaces_of t)) (length (body (line_ends (chars bytes)))) (length (line_ends (chars bytes))) (length (chars bytes)) (length bytes) a b c d e
  where
    chain : (a b c d e f : ℕ) → a ≤ 0 + b → b ≤ c → c ≤ d → d ≤ e → e ≤ f → a ≤ f
    chain a b c d e f h i j k l = omega arith
