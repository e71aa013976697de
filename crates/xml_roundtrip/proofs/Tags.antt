-- Tags that are written are read back.
use Rattle.std.proofs.Common.{◌≡◌, refl, sym, subst, ap, ◌∙◌, ℕ, List, [], ◌∷◌, ◌++◌, append_assoc, Bool, true, false, Some, codes, chars, IsUtf8}
use Rattle.std.specs.List.{flat_map, AllByRecursion}
use Rattle.std.proofs.lemmas.Str.{encodes-chars}
use Rattle.xml_profile.specs.CanonicalText.{value_byte}
use Rattle.xml_grammar.specs.Characters.{◌>>=◌, strip_at, behind_white, is_name_char, Parts}
use Rattle.xml_grammar.specs.Tokens.{Value, Pair, PairAt, Pairs, Tag, StartAt, TokenAt}
use Rattle.xml_grammar.specs.Tokens.Token.{Start, End}
use Rattle.xml_roundtrip.proofs.CanonicalCharacters.{quoted, pair_chars, closing, tag_chars}
use Rattle.xml_roundtrip.proofs.Names.{stops, Named, name_reads, name_stands}
use Rattle.xml_roundtrip.proofs.Pieces.{value_reads}

pub record IsPair (p : Pair) : Type 0 where
  pub parts : Parts
  pub named : Named p.name parts
  pub utf8 : IsUtf8 p.value

quoted_in : (value rest : List ℕ) → quoted value ++ rest ≡ 61 ∷ 34 ∷ (flat_map value_byte (chars value) ++ 34 ∷ rest)
quoted_in value rest = ap (λ v. 61 ∷ 34 ∷ v) (append_assoc (flat_map value_byte (chars value)) (34 ∷ []) rest)

pair_reads : (p : Pair) (rest : List ℕ) → IsPair p → PairAt (p.name ++ (61 ∷ 34 ∷ (flat_map value_byte (chars p.value) ++ 34 ∷ rest))) p rest
pair_reads p rest h = record {
  behind_name = 61 ∷ 34 ∷ (flat_map value_byte (chars p.value) ++ 34 ∷ rest);
  behind_sign = 34 ∷ (flat_map value_byte (chars p.value) ++ 34 ∷ rest);
  inside = flat_map value_byte (chars p.value) ++ 34 ∷ rest;
  quote = 34;
  named = name_reads p.name h.parts (61 ∷ 34 ∷ (flat_map value_byte (chars p.value) ++ 34 ∷ rest)) h.named refl;
  sign = refl;
  opens = refl;
  quotes = refl;
  value = subst (λ v. Value 34 (flat_map value_byte (chars p.value) ++ 34 ∷ rest) v rest) (encodes-chars p.value h.utf8) (value_reads (chars p.value) rest);
}

-- a pair, further pairs and the end
regrouped : (p : Pair) (more rest : List ℕ) → (pair_chars p ++ more) ++ rest ≡ 32 ∷ (p.name ++ (61 ∷ 34 ∷ (flat_map value_byte (chars p.value) ++ 34 ∷ (more ++ rest))))
regrouped p more rest =
    append_assoc (pair_chars p) more rest ∙ ap (λ v. 32 ∷ v) (append_assoc p.name (quoted p.value) (more ++ rest) ∙ ap (λ v. p.name ++ v) (quoted_in p.value (more ++ rest)))

pair_in_tag : (p : Pair) (ps : List Pair) (empty : Bool) (more rest : List ℕ) → IsPair p → Pairs more ps empty rest
    → Pairs (32 ∷ (p.name ++ (61 ∷ 34 ∷ (flat_map value_byte (chars p.value) ++ 34 ∷ more)))) (p ∷ ps) empty rest
pair_in_tag p ps empty more rest h k =
    Pairs.pair p refl (subst (λ x. PairAt x p more) (sym (name_stands p.name (61 ∷ 34 ∷ (flat_map value_byte (chars p.value) ++ 34 ∷ more)) h.named.begins)) (pair_reads p more h)) k refl

pairs_read : (ps : List Pair) (empty : Bool) (rest : List ℕ) → AllByRecursion IsPair ps → Pairs (flat_map pair_chars ps ++ (closing empty ++ rest)) ps empty rest
pairs_read [] true rest h = Pairs.empty refl refl refl
pairs_read [] false rest h = Pairs.start refl refl refl
pairs_read (p ∷ ps) empty rest h =
    subst (λ x. Pairs x (p ∷ ps) empty rest) (sym (regrouped p (flat_map pair_chars ps) (closing empty ++ rest)))
    (pair_in_tag p ps empty (flat_map pair_chars ps ++ (closing empty ++ rest)) rest h.0 (pairs_read ps empty rest h.1))

name_ends : (ps : List Pair) (empty : Bool) (rest : List ℕ) → stops is_name_char (flat_map pair_chars ps ++ (closing empty ++ rest)) ≡ true
name_ends [] true rest = refl
name_ends [] false rest = refl
name_ends (p ∷ ps) empty rest = refl

tag_regrouped : (t : Tag) (rest : List ℕ) → tag_chars t ++ rest ≡ 60 ∷ (t.name ++ (flat_map pair_chars t.pairs ++ (closing t.is_empty ++ rest)))
tag_regrouped t rest =
    ap (λ v. 60 ∷ v) (append_assoc t.name (flat_map pair_chars t.pairs ++ closing t.is_empty) rest
    ∙ ap (λ v. t.name ++ v) (append_assoc (flat_map pair_chars t.pairs) (closing t.is_empty) rest))

-- a start tag, or an empty one
pub tag_reads : (t : Tag) (name : Parts) (rest : List ℕ) → Named t.name name → AllByRecursion IsPair t.pairs → TokenAt (tag_chars t ++ rest) (Start t) rest
tag_reads t name rest h k =
    let inside = t.name ++ (flat_map pair_chars t.pairs ++ (closing t.is_empty ++ rest)) in
    let starts : StartAt (60 ∷ inside) t rest = record {
      inside = inside;
      behind_name = flat_map pair_chars t.pairs ++ (closing t.is_empty ++ rest);
      opens = refl;
      named = name_reads t.name name (flat_map pair_chars t.pairs ++ (closing t.is_empty ++ rest)) h (name_ends t.pairs t.is_empty rest);
      pairs = pairs_read t.pairs t.is_empty rest k;
    } in
    subst (λ x. TokenAt x (Start t) rest) (sym (tag_regrouped t rest)) (TokenAt.start t starts refl)

-- an end tag
pub end_reads : (n : List ℕ) (name : Parts) (rest : List ℕ) → Named n name → TokenAt (60 ∷ 47 ∷ (n ++ 62 ∷ rest)) (End n) rest
end_reads n name rest h =
    TokenAt.end n (ap (λ o. o >>= (λ name. strip_at (codes ">") (behind_white name.1) >>= (λ rest. Some (name.0, rest)))) (name_reads n name (62 ∷ rest) h refl)) refl
