-- Tags, references, sections and comments: what begins at a place of a text whose line ends are read.
use Rattle.std.specs.Prelude.{ℕ, List, [], ◌∷◌, ◌++◌, ◌+◌, ◌*◌, ◌-◌, Bool, true, false, cond, not, ◌&&◌, nat_eq, nat_le, Option, Some, None, ◌≡◌, codes, encode_utf8, encode_utf8_all}
use Rattle.at_base.specs.Chars.{is_xml_char}
use Rattle.xml_grammar.specs.Characters.{◌>>=◌, found, is_white, is_digit, is_quote, strip_at, behind_white, begins_white, until, name_at}

-- References

-- the value of a hexadecimal digit
abbrev pub hexadecimal : ℕ → Option ℕ
hexadecimal c =
    cond (is_digit c) (Some (c - 48)) (cond (nat_le 97 c && nat_le c 102) (Some (c - 87)) (cond (nat_le 65 c && nat_le c 70) (Some (c - 55)) None))

abbrev pub decimal_digit : ℕ → Option ℕ
decimal_digit c = cond (is_digit c) (Some (c - 48)) None

-- digits in a base as long as they go, behind a number so far, up to a `;`: none where there is no digit
abbrev pub digits_from : ℕ → (ℕ → Option ℕ) → Bool → ℕ → List ℕ → Option (ℕ × List ℕ)
digits_from base digit any so_far [] = None
digits_from base digit any so_far (c ∷ cs) = found (digit c) (λ d. digits_from base digit true (so_far * base + d) cs) (cond (any && nat_eq c 59) (Some (so_far, cs)) None)

-- XML 1.0, section 4.1, the production CharRef, and its constraint Legal Character
abbrev pub numbered : Option (ℕ × List ℕ) → Option (ℕ × List ℕ)
numbered None = None
numbered (Some (c, rest)) = cond (is_xml_char c) (Some (c, rest)) None

-- a reference: the character that it stands for, and what is behind it (XML 1.0, sections 4.1 and 4.6)
abbrev pub reference_at : List ℕ → Option (ℕ × List ℕ)
reference_at cs =
    found (strip_at (codes "&amp;") cs) (λ r. Some (38, r)) (
    found (strip_at (codes "&lt;") cs) (λ r. Some (60, r)) (
    found (strip_at (codes "&gt;") cs) (λ r. Some (62, r)) (
    found (strip_at (codes "&apos;") cs) (λ r. Some (39, r)) (
    found (strip_at (codes "&quot;") cs) (λ r. Some (34, r)) (
    found (strip_at (codes "&#x") cs) (λ r. numbered (digits_from 16 hexadecimal false 0 r)) (
    found (strip_at (codes "&#") cs) (λ r. numbered (digits_from 10 decimal_digit false 0 r)) None))))))

-- Attribute values

-- a TAB or LF that stands in the text is read as a space (XML 1.0, section 3.3.3)
abbrev pub spaced : ℕ → ℕ
spaced c = cond (is_white c) 32 c

-- neither `<` nor `&` (XML 1.0, section 2.4, the production CharData, and section 2.3, AttValue)
abbrev pub is_plain : ℕ → Bool
is_plain c = not (nat_eq c 60) && not (nat_eq c 38)

-- a value up to its closing quote, as it is read in UTF-8, and what is behind the quote (XML 1.0, sections 2.3 and 3.3.3)
pub data Value : ℕ → List ℕ → List ℕ → List ℕ → Type 0 where
  -- the closing quote
  close : {quote : ℕ} {cs value rest : List ℕ} → cs ≡ quote ∷ rest → value ≡ [] → Value quote cs value rest
  -- a character other than the quote, `<` and `&`
  plain : {quote : ℕ} {cs more all value rest : List ℕ} (c : ℕ) → cs ≡ c ∷ more → nat_eq c quote ≡ false → is_plain c ≡ true → Value quote more value rest
      → all ≡ encode_utf8 (spaced c) ++ value → Value quote cs all rest
  -- a reference: its character stays as it is
  reference : {quote : ℕ} {cs more all value rest : List ℕ} (c : ℕ) → nat_eq 38 quote ≡ false → reference_at cs ≡ Some (c, more) → Value quote more value rest
      → all ≡ encode_utf8 c ++ value → Value quote cs all rest

-- Tags

-- an attribute or a declaration of a namespace as it is spelled, its value as it is read
pub record Pair : Type 0 where
  pub name : List ℕ
  pub value : List ℕ

-- `name = "value"`, white space round `=` (XML 1.0, section 3.1, the production Attribute)
pub record PairAt (cs : List ℕ) (pair : Pair) (rest : List ℕ) : Type 0 where
  pub behind_name : List ℕ
  pub behind_sign : List ℕ
  pub inside : List ℕ
  pub quote : ℕ
  pub named : name_at cs ≡ Some (pair.name, behind_name)
  pub sign : strip_at (codes "=") (behind_white behind_name) ≡ Some behind_sign
  pub opens : behind_white behind_sign ≡ quote ∷ inside
  pub quotes : is_quote quote ≡ true
  pub value : Value quote inside pair.value rest

-- the pairs of a tag and its end: white space before each pair, white space before the end (XML 1.0, section 3.1, STag and EmptyElemTag)
pub data Pairs : List ℕ → List Pair → Bool → List ℕ → Type 0 where
  start : {cs rest : List ℕ} {ps : List Pair} {empty : Bool} → strip_at (codes ">") (behind_white cs) ≡ Some rest → ps ≡ [] → empty ≡ false → Pairs cs ps empty rest
  empty : {cs rest : List ℕ} {ps : List Pair} {empty : Bool} → strip_at (codes "/>") (behind_white cs) ≡ Some rest → ps ≡ [] → empty ≡ true → Pairs cs ps empty rest
  pair : {cs more rest : List ℕ} {all ps : List Pair} {empty : Bool} (p : Pair) → begins_white cs ≡ true → PairAt (behind_white cs) p more
      → Pairs more ps empty rest → all ≡ p ∷ ps → Pairs cs all empty rest

pub record Tag : Type 0 where
  pub name : List ℕ
  pub pairs : List Pair
  pub is_empty : Bool

-- Tokens

pub data Token : Type 0 where
  -- a character that stands for itself
  Plain : ℕ → Token
  -- a reference, or a CDATA section: what it is read as
  Meant : List ℕ → Token
  Comment : Token
  -- a start tag or an empty tag
  Start : Tag → Token
  End : List ℕ → Token

-- `<` name pairs
pub record StartAt (cs : List ℕ) (tag : Tag) (rest : List ℕ) : Type 0 where
  pub inside : List ℕ
  pub behind_name : List ℕ
  pub opens : strip_at (codes "<") cs ≡ Some inside
  pub named : name_at inside ≡ Some (tag.name, behind_name)
  pub pairs : Pairs behind_name tag.pairs tag.is_empty rest

-- XML 1.0, section 3.1, the production ETag
abbrev pub end_at : List ℕ → Option (List ℕ × List ℕ)
end_at cs = do
  inside ← strip_at (codes "</") cs
  name ← name_at inside
  rest ← strip_at (codes ">") (behind_white name.1)
  Some (name.0, rest)

-- XML 1.0, section 2.7, the production CDSect
abbrev pub section_at : List ℕ → Option (List ℕ × List ℕ)
section_at cs = do
  inside ← strip_at (codes "<![CDATA[") cs
  until (codes "]]>") inside

-- XML 1.0, section 2.5, the production Comment: no `--` inside, and no `-` before the end
abbrev pub comment_at : List ℕ → Option (List ℕ)
comment_at cs = do
  inside ← strip_at (codes "<!--") cs
  closing ← until (codes "--") inside
  strip_at (codes ">") closing.1

-- what begins at a place, and what is behind it
pub data TokenAt : List ℕ → Token → List ℕ → Type 0 where
  -- XML 1.0, section 2.4, the production CharData: no `]]>`
  plain : {cs rest : List ℕ} {token : Token} (c : ℕ) → cs ≡ c ∷ rest → is_plain c ≡ true → strip_at (codes "]]>") cs ≡ None → token ≡ Plain c → TokenAt cs token rest
  reference : {cs rest : List ℕ} {token : Token} (c : ℕ) → reference_at cs ≡ Some (c, rest) → token ≡ Meant (encode_utf8 c) → TokenAt cs token rest
  section : {cs rest : List ℕ} {token : Token} (inside : List ℕ) → section_at cs ≡ Some (inside, rest) → token ≡ Meant (encode_utf8_all inside) → TokenAt cs token rest
  comment : {cs rest : List ℕ} {token : Token} → comment_at cs ≡ Some rest → token ≡ Comment → TokenAt cs token rest
  start : {cs rest : List ℕ} {token : Token} (tag : Tag) → StartAt cs tag rest → token ≡ Start tag → TokenAt cs token rest
  end : {cs rest : List ℕ} {token : Token} (name : List ℕ) → end_at cs ≡ Some (name, rest) → token ≡ End name → TokenAt cs token rest
