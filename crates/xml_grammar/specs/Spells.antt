-- The grammar of a document: which trees a text spells.
use Rattle.std.specs.Prelude.{ℕ, List, [], ◌∷◌, ◌++◌, ◌+◌, Bool, true, false, cond, not, ◌&&◌, ◌||◌, nat_eq, nat_le, Option, Some, None, IsTrue, ◌≡◌, codes, chars, IsUtf8, map, encode_utf8}
use Rattle.std.specs.List.{list_all}
use Rattle.at_base.specs.Chars.{is_xml_char}
use Rattle.xml_grammar.specs.Characters.{◌>>=◌, found, given, same, is_white, is_digit, is_quote, strip_at, behind_white, begins_white, until}
use Rattle.xml_grammar.specs.Tokens.{Token, TokenAt, Tag}
use Rattle.xml_grammar.specs.Tokens.Token.{Plain, Meant, Comment, Start, End}
use Rattle.xml_grammar.specs.Namespaces.{Binding, Meaning, means}
use Rattle.xml_profile.specs.Forest.{Forest}
use Rattle.xml_profile.specs.Forest.Forest.{End as Nothing, Text_then, Element_then}
use Rattle.xml_profile.specs.declared.tree.Tree.{Tree}

-- a text in front of nodes, joined with a text that stands first: so no text is empty, and no two are adjacent
abbrev pub add_text : List ℕ → Forest → Forest
add_text [] ns = ns
add_text (c ∷ cs) Nothing = Text_then (c ∷ cs) Nothing
add_text (c ∷ cs) (Text_then t rest) = Text_then (c ∷ cs ++ t) rest
add_text (c ∷ cs) (Element_then n a kids rest) = Text_then (c ∷ cs) (Element_then n a kids rest)

abbrev pub said : Token → Option (List ℕ)
said (Plain c) = Some (encode_utf8 c)
said (Meant text) = Some text
said Comment = None
said (Start tag) = None
said (End name) = None

-- the content of an element under its bindings, up to some place (XML 1.0, section 3.1, the production content)
pub data Content : List Binding → List ℕ → Forest → List ℕ → Type 0 where
  stop : {bs : List Binding} {cs rest : List ℕ} {ns : Forest} → cs ≡ rest → ns ≡ Nothing → Content bs cs ns rest
  -- character data, a reference or a CDATA section (sections 2.4, 4.1 and 2.7)
  text : {bs : List Binding} {cs more rest : List ℕ} {all ns : Forest} (t : Token) (bytes : List ℕ) → TokenAt cs t more → said t ≡ Some bytes → Content bs more ns rest
      → all ≡ add_text bytes ns → Content bs cs all rest
  -- a comment, which vanishes (section 2.5)
  comment : {bs : List Binding} {cs more rest : List ℕ} {ns : Forest} → TokenAt cs Comment more → Content bs more ns rest → Content bs cs ns rest
  -- an empty tag (section 3.1)
  empty : {bs : List Binding} {cs more rest : List ℕ} {all ns : Forest} (tag : Tag) (m : Meaning) → TokenAt cs (Start tag) more → tag.is_empty ≡ true → means bs tag ≡ Some m
      → Content bs more ns rest → all ≡ Element_then m.name m.attributes Nothing ns → Content bs cs all rest
  -- a start tag, content, and an end tag that repeats the start tag's spelling (section 3, Element Type Match)
  nested : {bs : List Binding} {cs inner close more rest : List ℕ} {all kids ns : Forest} (tag : Tag) (m : Meaning) → TokenAt cs (Start tag) inner → tag.is_empty ≡ false
      → means bs tag ≡ Some m → Content m.bindings inner kids close → TokenAt close (End tag.name) more → Content bs more ns rest
      → all ≡ Element_then m.name m.attributes kids ns → Content bs cs all rest

-- comments and white space up to the end (XML 1.0, section 2.8, the production Misc)
pub data Epilog : List ℕ → Type 0 where
  stop : {cs : List ℕ} → cs ≡ [] → Epilog cs
  white : {cs more : List ℕ} (c : ℕ) → TokenAt cs (Plain c) more → is_white c ≡ true → Epilog more → Epilog cs
  comment : {cs more : List ℕ} → TokenAt cs Comment more → Epilog more → Epilog cs

abbrev pub tree : Meaning → Forest → Tree
tree m kids = record { name = m.name; attributes = m.attributes; children = kids }

-- comments and white space, one element, comments and white space (XML 1.0, section 2.1, the production document)
pub data Document : List Binding → List ℕ → Tree → Type 0 where
  white : {bs : List Binding} {cs more : List ℕ} {all : Tree} (c : ℕ) → TokenAt cs (Plain c) more → is_white c ≡ true → Document bs more all → Document bs cs all
  comment : {bs : List Binding} {cs more : List ℕ} {all : Tree} → TokenAt cs Comment more → Document bs more all → Document bs cs all
  empty : {bs : List Binding} {cs more : List ℕ} {all : Tree} (tag : Tag) (m : Meaning) → TokenAt cs (Start tag) more → tag.is_empty ≡ true → means bs tag ≡ Some m
      → Epilog more → all ≡ tree m Nothing → Document bs cs all
  nested : {bs : List Binding} {cs inner close more : List ℕ} {all : Tree} (tag : Tag) (m : Meaning) (kids : Forest) → TokenAt cs (Start tag) inner → tag.is_empty ≡ false
      → means bs tag ≡ Some m → Content m.bindings inner kids close → TokenAt close (End tag.name) more → Epilog more
      → all ≡ tree m kids → Document bs cs all

-- Line ends (XML 1.0, section 2.11): CR LF, and a CR alone, are read as LF

abbrev pub begins_feed : List ℕ → Bool
begins_feed [] = false
begins_feed (c ∷ cs) = nat_eq c 10

abbrev pub line_end : ℕ → List ℕ → List ℕ
line_end c rest = cond (nat_eq c 13) (cond (begins_feed rest) [] (10 ∷ [])) (c ∷ [])

abbrev pub line_ends : List ℕ → List ℕ
line_ends [] = []
line_ends (c ∷ rest) = line_end c rest ++ line_ends rest

-- The XML declaration (XML 1.0, section 2.8, the production XMLDecl)

-- what stands between quotes, and what is behind the closing quote
abbrev pub quoted_at : List ℕ → Option (List ℕ × List ℕ)
quoted_at [] = None
quoted_at (q ∷ cs) = cond (is_quote q) (until (q ∷ []) cs) None

-- white space, a word, `=` and a value in quotes
abbrev pub written_at : List ℕ → List ℕ → Option (List ℕ × List ℕ)
written_at word cs = do
  _ ← given (begins_white cs)
  behind ← strip_at word (behind_white cs)
  value ← strip_at (codes "=") (behind_white behind)
  quoted_at (behind_white value)

-- the same with a value that passes a test: what is behind it
abbrev pub passed : (List ℕ → Bool) → Option (List ℕ × List ℕ) → Option (List ℕ)
passed test None = None
passed test (Some v) = cond (test v.0) (Some v.1) None

abbrev pub setting_at : List ℕ → (List ℕ → Bool) → List ℕ → Option (List ℕ)
setting_at word test cs = passed test (written_at word cs)

abbrev pub lower : ℕ → ℕ
lower c = cond (nat_le 65 c && nat_le c 90) (c + 32) c

-- `1.` and digits
abbrev pub is_version : List ℕ → Bool
is_version cs = found (strip_at (codes "1.") cs) (λ digits. not (same digits []) && list_all is_digit digits) false

abbrev pub is_utf_8 : List ℕ → Bool
is_utf_8 cs = same (map lower cs) (codes "utf-8")

abbrev pub is_yes_or_no : List ℕ → Bool
is_yes_or_no cs = same cs (codes "yes") || same cs (codes "no")

abbrev pub optional : Option (List ℕ) → List ℕ → List ℕ
optional None cs = cs
optional (Some rest) cs = rest

-- what is behind an XML declaration
unfoldable pub declaration_at : List ℕ → Option (List ℕ)
declaration_at cs = do
  inside ← strip_at (codes "<?xml") cs
  version ← setting_at (codes "version") is_version inside
  let encoding = optional (setting_at (codes "encoding") is_utf_8 version) version in
      let standalone = optional (setting_at (codes "standalone") is_yes_or_no encoding) encoding in
      strip_at (codes "?>") (behind_white standalone)

-- the document behind a byte order mark and an XML declaration, where they stand
unfoldable pub body : List ℕ → List ℕ
body cs = let unmarked = optional (strip_at (0xFEFF ∷ []) cs) cs in optional (declaration_at unmarked) unmarked

-- the bytes, as a whole, spell the tree
pub record Spells (bytes : List ℕ) (t : Tree) : Type 0 where
  pub utf8 : IsUtf8 bytes
  -- XML 1.0, section 2.2, the production Char
  pub characters : IsTrue (list_all is_xml_char (chars bytes))
  pub document : Document [] (body (line_ends (chars bytes))) t
