-- What a text is read as, place by place: the same as the grammar says, as functions.
use Rattle.std.specs.Prelude.{ℕ, zero, suc, List, [], ◌∷◌, ◌++◌, Bool, true, false, cond, nat_eq, Option, Some, None, length, codes, encode_utf8, encode_utf8_all}
use Rattle.xml_grammar.specs.Characters.{◌>>=◌, found, given, is_quote, strip_at, behind_white, begins_white, name_at}
use Rattle.xml_grammar.specs.Tokens.{Pair, Token, reference_at, is_plain, spaced, end_at, section_at, comment_at}
use Rattle.xml_grammar.specs.Tokens.Token.{Plain, Meant, Comment, Start, End}

abbrev pub with_front : List ℕ → Option (List ℕ × List ℕ) → Option (List ℕ × List ℕ)
with_front front None = None
with_front front (Some p) = Some (front ++ p.0, p.1)

-- the closing quote, or else what the next piece of a value is read as; and what is behind it
abbrev pub piece_of : Option (ℕ × List ℕ) → Option (Option (List ℕ) × List ℕ)
piece_of None = None
piece_of (Some r) = Some (Some (encode_utf8 r.0), r.1)

abbrev pub piece_at : ℕ → List ℕ → Option (Option (List ℕ) × List ℕ)
piece_at quote [] = None
piece_at quote (c ∷ cs) =
    cond (nat_eq c quote) (Some (None, cs)) (cond (is_plain c) (Some (Some (encode_utf8 (spaced c)), cs)) (piece_of (reference_at (c ∷ cs))))

abbrev pub value_behind : Option (List ℕ) → List ℕ → (List ℕ → Option (List ℕ × List ℕ)) → Option (List ℕ × List ℕ)
value_behind None rest go = Some ([], rest)
value_behind (Some front) rest go = with_front front (go rest)

-- a value up to its closing quote, in at most so many pieces
abbrev pub value_at : ℕ → ℕ → List ℕ → Option (List ℕ × List ℕ)
value_at zero quote cs = None
value_at (suc n) quote cs = piece_at quote cs >>= (λ p. value_behind p.0 p.1 (λ rest. value_at n quote rest))

abbrev pub value_in : List ℕ → Option (List ℕ × List ℕ)
value_in [] = None
value_in (q ∷ cs) = cond (is_quote q) (value_at (suc (length cs)) q cs) None

abbrev pub valued : List ℕ → Option (List ℕ × List ℕ) → Option (Pair × List ℕ)
valued name None = None
valued name (Some v) = Some (record { name = name; value = v.0 }, v.1)

unfoldable pub pair_at : List ℕ → Option (Pair × List ℕ)
pair_at cs = do
  name ← name_at cs
  sign ← strip_at (codes "=") (behind_white name.1)
  valued name.0 (value_in (behind_white sign))

-- the pairs of a tag, whether it is an empty tag, and what is behind it
pub record Ending : Type 0 where
  pub pairs : List Pair
  pub is_empty : Bool
  pub rest : List ℕ

abbrev pub with_pair : Pair → Option Ending → Option Ending
with_pair p None = None
with_pair p (Some e) = Some (record { pairs = p ∷ e.pairs; is_empty = e.is_empty; rest = e.rest })

abbrev pub pairs_at : ℕ → List ℕ → Option Ending
pairs_at zero cs = None
pairs_at (suc n) cs =
    found (strip_at (codes ">") (behind_white cs)) (λ r. Some (record { pairs = []; is_empty = false; rest = r })) (
    found (strip_at (codes "/>") (behind_white cs)) (λ r. Some (record { pairs = []; is_empty = true; rest = r })) (
    given (begins_white cs) >>= (λ _. pair_at (behind_white cs) >>= (λ p. with_pair p.0 (pairs_at n p.1)))))

abbrev pub tagged : List ℕ → Option Ending → Option (Token × List ℕ)
tagged name None = None
tagged name (Some e) = Some (Start (record { name = name; pairs = e.pairs; is_empty = e.is_empty }), e.rest)

unfoldable pub start_at : List ℕ → Option (Token × List ℕ)
start_at cs = do
  inside ← strip_at (codes "<") cs
  name ← name_at inside
  tagged name.0 (pairs_at (suc (length name.1)) name.1)

abbrev pub end_token : Option (List ℕ × List ℕ) → Option (Token × List ℕ)
end_token None = None
end_token (Some p) = Some (End p.0, p.1)

abbrev pub section_token : Option (List ℕ × List ℕ) → Option (Token × List ℕ)
section_token None = None
section_token (Some p) = Some (Meant (encode_utf8_all p.0), p.1)

abbrev pub comment_token : Option (List ℕ) → Option (Token × List ℕ)
comment_token None = None
comment_token (Some rest) = Some (Comment, rest)

abbrev pub reference_token : Option (ℕ × List ℕ) → Option (Token × List ℕ)
reference_token None = None
reference_token (Some p) = Some (Meant (encode_utf8 p.0), p.1)

abbrev pub plain_token : ℕ → List ℕ → Option (List ℕ) → Option (Token × List ℕ)
plain_token c rest None = Some (Plain c, rest)
plain_token c rest (Some behind) = None

unfoldable pub markup_at : List ℕ → Option (Token × List ℕ)
markup_at cs =
    found (strip_at (codes "</") cs) (λ r. end_token (end_at cs)) (
    found (strip_at (codes "<!--") cs) (λ r. comment_token (comment_at cs)) (
    found (strip_at (codes "<![CDATA[") cs) (λ r. section_token (section_at cs)) (start_at cs)))

-- the token that begins at a place, and what is behind it
abbrev pub next_at : List ℕ → Option (Token × List ℕ)
next_at [] = None
next_at (c ∷ cs) =
    cond (nat_eq c 60) (markup_at (c ∷ cs)) (cond (nat_eq c 38) (reference_token (reference_at (c ∷ cs))) (plain_token c cs (strip_at (codes "]]>") (c ∷ cs))))
