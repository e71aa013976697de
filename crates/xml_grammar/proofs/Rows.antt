-- A row of empty elements is spelled, however long it is.
use Rattle.std.proofs.Common.{inl, ◌≡◌, refl, sym, ap, subst, ◌∙◌, arith, ℕ, zero, suc, ◌+◌, ◌*◌, ◌<◌, ◌≤◌, List, [], ◌∷◌, ◌++◌, Bool, true, false, not, ◌&&◌, Some, length}
use Rattle.std.specs.Prelude.{codes, nat_eq, nat_lt}
use Rattle.std.specs.List.{list_all}
use Rattle.std.specs.Str.{IsAscii, chars}
use Rattle.std.proofs.lemmas.Bool.{and_parts, ltb-true}
use Rattle.std.proofs.lemmas.Str.Ascii.{IsAscii-nil, IsAscii-cons}
use Rattle.std.proofs.lemmas.Str.{IsUtf8-from_ascii, chars-IsAscii}
use Rattle.at_base.specs.Chars.{is_xml_char}
use Rattle.xml_grammar.specs.Limits.{elements, levels, widest}
use Rattle.xml_grammar.specs.Namespaces.{Meaning, means}
use Rattle.xml_grammar.specs.Refusals.{IsShort, Reads, Refuses}
use Rattle.xml_grammar.specs.declared.reader.TreeRefusal.TheVariants.{TooMany}
use Rattle.xml_grammar.specs.Samples.{kids, kids_text, plain, row, row_text}
use Rattle.xml_grammar.specs.Spells.{Content, Document, Epilog, Spells, body, declaration_at, line_ends}
use Rattle.xml_grammar.specs.Tokens.{Tag, TokenAt, Token}
use Rattle.xml_grammar.specs.Code.Reading.{markup_at, pair_at, start_at}
use Rattle.xml_grammar.proofs.TokenLaws.{next_sound}

-- a character of ASCII that a document may have, and no return
abbrev is_simple : ℕ → Bool
is_simple c = nat_lt c 128 && (is_xml_char c && not (nat_eq c 13))

kids_simple : (n : ℕ) (rest : List ℕ) → list_all is_simple rest ≡ true → list_all is_simple (kids_text n rest) ≡ true
kids_simple zero rest h = h
kids_simple (suc n) rest h = kids_simple n rest h

row_simple : (n : ℕ) → list_all is_simple (row_text n) ≡ true
row_simple n = kids_simple n (codes "</r>") refl

-- what the test says of a first character and the others
record IsSimple (c : ℕ) (cs : List ℕ) : Type 0 where
  pub low : c < 128
  pub character : is_xml_char c ≡ true
  pub other : nat_eq c 13 ≡ false
  pub rest : list_all is_simple cs ≡ true

not_true : (x : Bool) → not x ≡ true → x ≡ false
not_true false e = refl
not_true true e = sym e

first_simple : (c : ℕ) (cs : List ℕ) → list_all is_simple (c ∷ cs) ≡ true → IsSimple c cs
first_simple c cs h =
    let (here, rest) = and_parts (is_simple c) (list_all is_simple cs) h in
    let (low, more) = and_parts (nat_lt c 128) (is_xml_char c && not (nat_eq c 13)) here in
    let (character, other) = and_parts (is_xml_char c) (not (nat_eq c 13)) more in
    record { low = ltb-true c 128 low; character = character; other = not_true (nat_eq c 13) other; rest = rest }

ascii : (cs : List ℕ) → list_all is_simple cs ≡ true → IsAscii cs
ascii [] h = IsAscii-nil
ascii (c ∷ cs) h = let s : IsSimple c cs = first_simple c cs h in IsAscii-cons c cs s.low (ascii cs s.rest)

characters : (cs : List ℕ) → list_all is_simple cs ≡ true → list_all is_xml_char cs ≡ true
characters [] h = refl
characters (c ∷ cs) h = let s : IsSimple c cs = first_simple c cs h in rw (s.character, characters cs s.rest) refl

same_lines : (cs : List ℕ) → list_all is_simple cs ≡ true → line_ends cs ≡ cs
same_lines [] h = refl
same_lines (c ∷ cs) h = let s : IsSimple c cs = first_simple c cs h in rw (s.other, same_lines cs s.rest) refl

-- tokens

abbrev kid_tag : Tag
kid_tag = record { name = codes "a"; pairs = []; is_empty = true }

abbrev row_tag : Tag
row_tag = record { name = codes "r"; pairs = []; is_empty = false }

abbrev meant : List ℕ → Meaning
meant name = record { name = plain name; attributes = []; bindings = [] }

kid_at : (rest : List ℕ) → TokenAt (codes "<a/>" ++ rest) (Token.Start kid_tag) rest
unfolding markup_at start_at pair_at
kid_at rest = next_sound (codes "<a/>" ++ rest) (Token.Start kid_tag) rest refl

row_at : (rest : List ℕ) → TokenAt (codes "<r>" ++ rest) (Token.Start row_tag) rest
unfolding markup_at start_at pair_at
row_at rest = next_sound (codes "<r>" ++ rest) (Token.Start row_tag) rest refl

end_at : TokenAt (codes "</r>") (Token.End (codes "r")) []
unfolding markup_at start_at pair_at
end_at = next_sound (codes "</r>") (Token.End (codes "r")) [] refl

kid_means : means [] kid_tag ≡ Some (meant (codes "a"))
unfolding means lib.Utf8.encode
kid_means = refl

row_means : means [] row_tag ≡ Some (meant (codes "r"))
unfolding means lib.Utf8.encode
row_means = refl

content : (n : ℕ) (rest : List ℕ) → Content [] (kids_text n rest) (kids n) rest
content zero rest = Content.stop refl refl
content (suc n) rest = Content.empty kid_tag (meant (codes "a")) (kid_at (kids_text n rest)) refl kid_means (content n rest) refl

document : (n : ℕ) → Document [] (row_text n) (row n)
document n =
    Document.nested row_tag (meant (codes "r")) (kids n) (row_at (kids_text n (codes "</r>"))) refl row_means (content n (codes "</r>")) end_at
    (Epilog.stop refl) refl

same_body : (cs : List ℕ) → body (codes "<r>" ++ cs) ≡ codes "<r>" ++ cs
unfolding body declaration_at
same_body cs = refl

pub row_spelled : (n : ℕ) → Spells (row_text n) (row n)
row_spelled n =
    let simple = row_simple n in
    let same : chars (row_text n) ≡ row_text n = chars-IsAscii (row_text n) (ascii (row_text n) simple) in
    let read : body (line_ends (chars (row_text n))) ≡ row_text n =
    ap (λ (cs : List ℕ). body (line_ends cs)) same ∙ (ap body (same_lines (row_text n) simple) ∙ same_body (kids_text n (codes "</r>"))) in
    record {
      utf8 = IsUtf8-from_ascii (row_text n) (ascii (row_text n) simple);
      characters = ap (list_all is_xml_char) same ∙ characters (row_text n) simple;
      document = subst (λ (cs : List ℕ). Document [] cs (row n)) (sym read) (document n);
    }

-- sizes

pub kids_counted : (n : ℕ) → elements (kids n) ≡ n
kids_counted zero = refl
kids_counted (suc n) = let rest = kids_counted n in omega (arith, rest)

pub kids_flat : (n : ℕ) → levels (kids n) ≤ 1
kids_flat zero = omega arith
kids_flat (suc n) = let rest = kids_flat n in omega (arith, rest)

pub kids_bare : (n : ℕ) → widest (kids n) ≤ 0
kids_bare zero = omega arith
kids_bare (suc n) = let rest = kids_bare n in omega (arith, rest)

pub kids_length : (n : ℕ) (rest : List ℕ) → length (kids_text n rest) ≡ 4 * n + length rest
kids_length zero rest = omega arith
kids_length (suc n) rest = let more = kids_length n rest in omega (arith, more)

row_short : (n : ℕ) → n ≤ 16000 → IsShort (row_text n)
row_short n h = let size = kids_length n (codes "</r>") in omega (arith, h, size)

pub row_reads : (n : ℕ) → n < 4096 → Reads (row_text n) (row n)
row_reads n h =
    let flat = kids_flat n in
    let count = kids_counted n in
    let bare = kids_bare n in
    record {
      short = row_short n (omega (arith, h));
      spells = row_spelled n;
      within = record { levels = omega (arith, flat); elements = omega (arith, h, count); attributes = omega (arith, bare) };
    }

pub row_refused : (n : ℕ) → 4096 ≤ n → n ≤ 16000 → Refuses (row_text n) TooMany
row_refused n h k =
    let flat = kids_flat n in
    let count = kids_counted n in
    record { short = row_short n k; tree = row n; spells = row_spelled n; shallow = omega (arith, flat); many = inl (omega (arith, h, count)) }
