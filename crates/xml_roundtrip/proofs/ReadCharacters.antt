-- What is read of characters of a document is made of such characters.
use Rattle.std.proofs.Common.{◌≡◌, refl, sym, subst, ap, ap₂, ◌∙◌, ℕ, ◌+◌, ◌*◌, List, [], ◌∷◌, ◌++◌, take, drop, take-append-drop, append-nil, Bool, true, false, cond, ◌&&◌, nat_eq, Option, Some, None, codes, chars, encode_utf8, encode_utf8_all}
use Rattle.std.specs.List.{list_all, prefix_len, AllByRecursion}
use Rattle.std.specs.Str.{is_utf8}
use Rattle.std.proofs.lemmas.Option.{some_pair_parts}
use Rattle.std.proofs.lemmas.Str.{is_utf8-from_IsUtf8, IsUtf8-from_is_utf8, encodes-append, encodes-chars, chars-encodes}
use Rattle.at_base.specs.Chars.{is_xml_char}
use Rattle.xml_profile.specs.SpellableTrees as spellable
use Rattle.xml_grammar.specs.Characters.{◌>>=◌, found, is_white, strip_at, behind_white, until, name_at, parts, is_name_char}
use Rattle.xml_grammar.specs.Tokens.{Value, Pair, PairAt, Pairs, Tag, StartAt, Token, TokenAt, digits_from, hexadecimal, decimal_digit, numbered, reference_at, spaced}
use Rattle.xml_grammar.specs.Tokens.Token.{Plain, Meant, Comment, Start, End}
use Rattle.xml_grammar.specs.Spells.{begins_feed, line_end, line_ends, body}
use Rattle.xml_grammar.proofs.TokenLaws.{bind_some}
use Rattle.xml_roundtrip.proofs.Bools.{and_true, both_true, all_both, all_parts}
use Rattle.xml_roundtrip.proofs.Scalars.{all_scalars}
use Rattle.xml_roundtrip.proofs.Suffixes.{behind_word, past_white, behind_until, of_body}

abbrev pub Fine : List ℕ → Type 0
Fine cs = list_all is_xml_char cs ≡ true

fine_behind : (c : ℕ) (cs : List ℕ) → Fine (c ∷ cs) → Fine cs
fine_behind c cs h = (and_true (is_xml_char c) (list_all is_xml_char cs) h).1

strip_fine : (w cs r : List ℕ) → strip_at w cs ≡ Some r → Fine cs → Fine r
strip_fine w cs r e h = behind_word Fine fine_behind w cs r e h

white_fine : (cs : List ℕ) → Fine cs → Fine (behind_white cs)
white_fine cs h = past_white Fine fine_behind cs h

pub name_fine : (cs n r : List ℕ) → name_at cs ≡ Some (n, r) → Fine cs → Fine n × Fine r
name_fine cs n r e h =
    let k = prefix_len is_name_char cs in
    let (p, a, f) = bind_some (parts (take k cs)) (λ p. Some (take k cs, drop k cs)) (n, r) e in
    let i = some_pair_parts (take k cs) n (drop k cs) r f in
    let (x, y) = all_parts is_xml_char (take k cs) (drop k cs) (subst (λ v. list_all is_xml_char v ≡ true) (sym (take-append-drop k cs)) h) in
    (subst (λ v. list_all is_xml_char v ≡ true) i.0 x, subst (λ v. list_all is_xml_char v ≡ true) i.1 y)

-- what stands before a word
until_fine : (word cs a r : List ℕ) → until word cs ≡ Some (a, r) → Fine cs → Fine a
until_fine word [] a r e h = cc
until_fine word (c ∷ cs) a r e h = step (strip_at word (c ∷ cs)) refl (λ b i. until_fine word cs b r i (fine_behind c cs h)) e
  where
    step : (o : Option (List ℕ)) → strip_at word (c ∷ cs) ≡ o → ((b : List ℕ) → until word cs ≡ Some (b, r) → Fine b)
        → found {B = Option (List ℕ × List ℕ)} o (λ rest. Some ([], rest)) (until word cs >>= (λ p. Some (c ∷ p.0, p.1))) ≡ Some (a, r) → Fine a
    step (Some x) p go e = subst (λ v. list_all is_xml_char v ≡ true) (some_pair_parts [] a x r e).0 refl
    step None p go e =
        let ((b, q), f, g) = bind_some (until word cs) (λ p. Some (c ∷ p.0, p.1)) (a, r) e in
        let k = some_pair_parts (c ∷ b) a q r g in
        let x = go b (f ∙ ap (λ v. Some (b, v)) k.1) in
        subst (λ v. list_all is_xml_char v ≡ true) k.0 (both_true (is_xml_char c) (list_all is_xml_char b) (and_true (is_xml_char c) (list_all is_xml_char cs) h).0 x)

-- References

abbrev Good : Option (ℕ × List ℕ) → Type 0
Good o = (c : ℕ) (r : List ℕ) → o ≡ Some (c, r) → (is_xml_char c ≡ true) × Fine r

found_good : (w cs : List ℕ) (f : List ℕ → Option (ℕ × List ℕ)) (g : Option (ℕ × List ℕ)) → Fine cs → ((r : List ℕ) → Fine r → Good (f r)) → Good g → Good (found (strip_at w cs) f g)
found_good w cs f g h k l = step (strip_at w cs) refl
  where
    step : (o : Option (List ℕ)) → strip_at w cs ≡ o → Good (found o f g)
    step None p = l
    step (Some r) p = k r (strip_fine w cs r p h)

gives_good : (x : ℕ) (r : List ℕ) → is_xml_char x ≡ true → Fine r → Good (Some (x, r))
gives_good x r h k c q e =
    let i = some_pair_parts x c r q e in
    (subst (λ v. is_xml_char v ≡ true) i.0 h, subst (λ v. list_all is_xml_char v ≡ true) i.1 k)

none_good : Good None
none_good c r e = cc

digits_fine : (base : ℕ) (digit : ℕ → Option ℕ) (any : Bool) (n : ℕ) (cs : List ℕ) → Fine cs → (a : ℕ) (r : List ℕ) → digits_from base digit any n cs ≡ Some (a, r) → Fine r
digits_fine base digit any n [] h a r e = cc
digits_fine base digit any n (c ∷ cs) h a r e = step (digit c) (λ d. digits_fine base digit true (n * base + d) cs (and_true (is_xml_char c) (list_all is_xml_char cs) h).1 a r) e
  where
    closing : (b : Bool) → cond {A = Option (ℕ × List ℕ)} b (Some (n, cs)) None ≡ Some (a, r) → Fine r
    closing true e = subst (λ v. list_all is_xml_char v ≡ true) (some_pair_parts n a cs r e).1 (and_true (is_xml_char c) (list_all is_xml_char cs) h).1
    closing false e = cc

    step : (o : Option ℕ) → ((d : ℕ) → digits_from base digit true (n * base + d) cs ≡ Some (a, r) → Fine r)
        → found {B = Option (ℕ × List ℕ)} o (λ d. digits_from base digit true (n * base + d) cs) (cond (any && nat_eq c 59) (Some (n, cs)) None) ≡ Some (a, r) → Fine r
    step None go e = closing (any && nat_eq c 59) e
    step (Some d) go e = go d e

numbered_good : (o : Option (ℕ × List ℕ)) → ((a : ℕ) (r : List ℕ) → o ≡ Some (a, r) → Fine r) → Good (numbered o)
numbered_good None h = none_good
numbered_good (Some (c, q)) h = step (is_xml_char c) refl
  where
    step : (b : Bool) → is_xml_char c ≡ b → Good (cond {A = Option (ℕ × List ℕ)} b (Some (c, q)) None)
    step true e = gives_good c q e (h c q refl)
    step false e = none_good

pub reference_fine : (cs : List ℕ) → Fine cs → (c : ℕ) (r : List ℕ) → reference_at cs ≡ Some (c, r) → (is_xml_char c ≡ true) × Fine r
reference_fine cs h =
    found_good (codes "&amp;") cs _ _ h (λ r k. gives_good 38 r refl k) (
    found_good (codes "&lt;") cs _ _ h (λ r k. gives_good 60 r refl k) (
    found_good (codes "&gt;") cs _ _ h (λ r k. gives_good 62 r refl k) (
    found_good (codes "&apos;") cs _ _ h (λ r k. gives_good 39 r refl k) (
    found_good (codes "&quot;") cs _ _ h (λ r k. gives_good 34 r refl k) (
    found_good (codes "&#x") cs _ _ h (λ r k. numbered_good _ (digits_fine 16 hexadecimal false 0 r k)) (
    found_good (codes "&#") cs _ _ h (λ r k. numbered_good _ (digits_fine 10 decimal_digit false 0 r k)) none_good))))))

-- Texts

pub record XmlText (bytes : List ℕ) : Type 0 where
  pub characters : List ℕ
  pub encoded : encode_utf8_all characters ≡ bytes
  pub fine : Fine characters

pub chars_back : (cs : List ℕ) → Fine cs → chars (encode_utf8_all cs) ≡ cs
chars_back cs h = chars-encodes cs (all_scalars cs h)

pub utf8_back : (cs : List ℕ) → Fine cs → is_utf8 (encode_utf8_all cs) ≡ true
utf8_back cs h = is_utf8-from_IsUtf8 (encode_utf8_all cs) (cs, (all_scalars cs h, refl))

text_back : (cs : List ℕ) → Fine cs → spellable.is_text (encode_utf8_all cs) ≡ true
text_back cs h = both_true (is_utf8 (encode_utf8_all cs)) (list_all is_xml_char (chars (encode_utf8_all cs))) (utf8_back cs h) (ap (list_all is_xml_char) (chars_back cs h) ∙ h)

pub is_text : (bytes : List ℕ) → XmlText bytes → spellable.is_text bytes ≡ true
is_text bytes t = subst (λ v. spellable.is_text v ≡ true) t.encoded (text_back t.characters t.fine)

pub text_of : (bytes : List ℕ) → spellable.is_text bytes ≡ true → XmlText bytes
text_of bytes h =
    let (a, b) = and_true (is_utf8 bytes) (list_all is_xml_char (chars bytes)) h in
    record { characters = chars bytes; encoded = encodes-chars bytes (IsUtf8-from_is_utf8 bytes a); fine = b }

pub text_all : (cs : List ℕ) → Fine cs → XmlText (encode_utf8_all cs)
text_all cs h = record { characters = cs; encoded = refl; fine = h }

pub text_one : (c : ℕ) → is_xml_char c ≡ true → XmlText (encode_utf8 c)
text_one c h = record { characters = c ∷ []; encoded = append-nil (encode_utf8 c); fine = both_true (is_xml_char c) true h refl }

pub text_both : (a b : List ℕ) → XmlText a → XmlText b → XmlText (a ++ b)
text_both a b h k = record {
  characters = h.characters ++ k.characters;
  encoded = encodes-append h.characters k.characters ∙ ap₂ (λ u v. u ++ v) h.encoded k.encoded;
  fine = all_both is_xml_char h.characters k.characters h.fine k.fine;
}

spaced_fine : (c : ℕ) → is_xml_char c ≡ true → is_xml_char (spaced c) ≡ true
spaced_fine c h = by_case (is_white c)
  where
    by_case : (b : Bool) → is_xml_char (cond b 32 c) ≡ true
    by_case true = refl
    by_case false = h

pub value_fine : {quote : ℕ} {cs v rest : List ℕ} → Value quote cs v rest → Fine cs → XmlText v × Fine rest
value_fine {quote} {cs} {v} {rest} (Value.close e f) h =
    (subst XmlText (sym f) (text_all [] refl), (and_true (is_xml_char quote) (list_all is_xml_char rest) (subst (λ x. list_all is_xml_char x ≡ true) e h)).1)
value_fine {quote} {cs} {v} {rest} (Value.plain {more = more} {value = w} c e ne p k f) h =
    let (a, b) = and_true (is_xml_char c) (list_all is_xml_char more) (subst (λ x. list_all is_xml_char x ≡ true) e h) in
    let (x, y) = value_fine k b in
    (subst XmlText (sym f) (text_both (encode_utf8 (spaced c)) w (text_one (spaced c) (spaced_fine c a)) x), y)
value_fine {quote} {cs} {v} {rest} (Value.reference {more = more} {value = w} c ne e k f) h =
    let (a, b) = reference_fine cs h c more e in
    let (x, y) = value_fine k b in
    (subst XmlText (sym f) (text_both (encode_utf8 c) w (text_one c a) x), y)

-- Tags

pub record FinePair (p : Pair) : Type 0 where
  pub name : Fine p.name
  pub value : XmlText p.value

pair_fine : (cs : List ℕ) (p : Pair) (rest : List ℕ) → PairAt cs p rest → Fine cs → FinePair p × Fine rest
pair_fine cs p rest h k =
    let (a, b) = name_fine cs p.name h.behind_name h.named k in
    let c = strip_fine (codes "=") (behind_white h.behind_name) h.behind_sign h.sign (white_fine h.behind_name b) in
    let d = subst (λ v. list_all is_xml_char v ≡ true) h.opens (white_fine h.behind_sign c) in
    let (x, y) = value_fine h.value (and_true (is_xml_char h.quote) (list_all is_xml_char h.inside) d).1 in
    (record { name = a; value = x }, y)

pairs_fine : {cs : List ℕ} {ps : List Pair} {empty : Bool} {rest : List ℕ} → Pairs cs ps empty rest → Fine cs → AllByRecursion FinePair ps × Fine rest
pairs_fine {cs} {ps} {empty} {rest} (Pairs.start e f g) h = (subst (AllByRecursion FinePair) (sym f) tt, strip_fine (codes ">") (behind_white cs) rest e (white_fine cs h))
pairs_fine {cs} {ps} {empty} {rest} (Pairs.empty e f g) h = (subst (AllByRecursion FinePair) (sym f) tt, strip_fine (codes "/>") (behind_white cs) rest e (white_fine cs h))
pairs_fine {cs} {ps} {empty} {rest} (Pairs.pair {more = more} {ps = qs} p w at k f) h =
    let (a, b) = pair_fine (behind_white cs) p more at (white_fine cs h) in
    let (x, y) = pairs_fine k b in
    (subst (AllByRecursion FinePair) (sym f) (a, x), y)

pub record FineTag (t : Tag) : Type 0 where
  pub name : Fine t.name
  pub pairs : AllByRecursion FinePair t.pairs

start_fine : (cs : List ℕ) (t : Tag) (rest : List ℕ) → StartAt cs t rest → Fine cs → FineTag t × Fine rest
start_fine cs t rest h k =
    let (a, b) = name_fine h.inside t.name h.behind_name h.named (strip_fine (codes "<") cs h.inside h.opens k) in
    let (x, y) = pairs_fine h.pairs b in
    (record { name = a; pairs = x }, y)

-- Tokens

abbrev pub FineToken : Token → Type 0
FineToken (Plain c) = is_xml_char c ≡ true
FineToken (Meant text) = XmlText text
FineToken Comment = Unit {0}
FineToken (Start tag) = FineTag tag
FineToken (End name) = Unit {0}

pub token_fine : {cs : List ℕ} {t : Token} {rest : List ℕ} → TokenAt cs t rest → Fine cs → FineToken t × Fine rest
token_fine {cs} {t} {rest} (TokenAt.plain c e p s f) h =
    let (a, b) = and_true (is_xml_char c) (list_all is_xml_char rest) (subst (λ x. list_all is_xml_char x ≡ true) e h) in
    (subst FineToken (sym f) a, b)
token_fine {cs} {t} {rest} (TokenAt.reference c e f) h =
    let (a, b) = reference_fine cs h c rest e in
    (subst FineToken (sym f) (text_one c a), b)
token_fine {cs} {t} {rest} (TokenAt.section inside e f) h =
    let (x, a, b) = bind_some (strip_at (codes "<![CDATA[") cs) (until (codes "]]>")) (inside, rest) e in
    let c = strip_fine (codes "<![CDATA[") cs x a h in
    (subst FineToken (sym f) (text_all inside (until_fine (codes "]]>") x inside rest b c)), behind_until Fine fine_behind (codes "]]>") x inside rest b c)
token_fine {cs} {t} {rest} (TokenAt.comment e f) h =
    let (x, a, b) = bind_some (strip_at (codes "<!--") cs) (λ inside. until (codes "--") inside >>= (λ closing. strip_at (codes ">") closing.1)) rest e in
    let ((y, z), c, d) = bind_some (until (codes "--") x) (λ closing. strip_at (codes ">") closing.1) rest b in
    let i = behind_until Fine fine_behind (codes "--") x y z c (strip_fine (codes "<!--") cs x a h) in
    (subst FineToken (sym f) tt, strip_fine (codes ">") z rest d i)
token_fine {cs} {t} {rest} (TokenAt.start tag at f) h =
    let (a, b) = start_fine cs tag rest at h in
    (subst FineToken (sym f) a, b)
token_fine {cs} {t} {rest} (TokenAt.end name e f) h =
    let (x, a, b) = bind_some (strip_at (codes "</") cs) (λ inside. name_at inside >>= (λ name. strip_at (codes ">") (behind_white name.1) >>= (λ rest. Some (name.0, rest)))) (name, rest) e in
    let ((n, y), c, d) = bind_some (name_at x) (λ name. strip_at (codes ">") (behind_white name.1) >>= (λ rest. Some (name.0, rest))) (name, rest) b in
    let (z, g, i) = bind_some (strip_at (codes ">") (behind_white y)) (λ rest. Some (n, rest)) (name, rest) d in
    let (j, k) = name_fine x n y c (strip_fine (codes "</") cs x a h) in
    let l = strip_fine (codes ">") (behind_white y) z g (white_fine y k) in
    (subst FineToken (sym f) tt, subst (λ v. list_all is_xml_char v ≡ true) (some_pair_parts n name z rest i).1 l)

-- What is in front of a document

ends_fine : (cs : List ℕ) → Fine cs → Fine (line_ends cs)
ends_fine [] h = refl
ends_fine (c ∷ cs) h =
    let (a, b) = and_true (is_xml_char c) (list_all is_xml_char cs) h in
    all_both is_xml_char (line_end c cs) (line_ends cs) (by_case a (nat_eq c 13) (begins_feed cs)) (ends_fine cs b)
  where
    by_case : is_xml_char c ≡ true → (x y : Bool) → Fine (cond x (cond y [] (10 ∷ [])) (c ∷ []))
    by_case a true true = refl
    by_case a true false = refl
    by_case a false y = both_true (is_xml_char c) true a refl

pub document_fine : (cs : List ℕ) → Fine cs → Fine (body (line_ends cs))
document_fine cs h = of_body Fine fine_behind (line_ends cs) (ends_fine cs h)
