-- What begins at a place is read, and what is read begins there.
use Rattle.std.proofs.Common.{◌≡◌, ◌⊎◌, inl, inr, refl, sym, subst, ap, ◌∙◌, arith, ℕ, zero, suc, ◌+◌, ◌*◌, ◌<◌, ◌≤◌, List, [], ◌∷◌, ◌++◌, Bool, true, false, cond, Option, Some, None, length, nat_eq, codes, length-drop, take, drop, encode_utf8, encode_utf8_all, not, ◌&&◌}
use Rattle.std.specs.List.{prefix_len}
use Rattle.at_base.specs.Chars.{is_xml_char}
use Rattle.std.proofs.lemmas.Option.{some_pair_parts, none-some}
use Rattle.std.proofs.lemmas.Bool.{eqb-true, eq-eqb}
use Rattle.xml_grammar.specs.Characters.{◌>>=◌, found, given, is_white, is_quote, strip_at, behind_white, begins_white, name_at, parts, is_name_char, name_before, until}
use Rattle.xml_grammar.specs.Tokens.{Pair, Tag, Token, TokenAt, StartAt, PairAt, Pairs, Value, reference_at, is_plain, spaced, end_at, section_at, comment_at, numbered, digits_from, hexadecimal, decimal_digit}
use Rattle.xml_grammar.specs.Tokens.Token.{Plain, Meant, Comment, Start, End}
use Rattle.xml_grammar.specs.Code.Reading.{with_front, piece_of, piece_at, value_behind, value_at, value_in, valued, pair_at, Ending, with_pair, pairs_at, tagged, start_at, end_token, section_token, comment_token, reference_token, plain_token, markup_at, next_at}

pub nat_eq_same : (c : ℕ) → nat_eq c c ≡ true
nat_eq_same c = eq-eqb c c refl

pub nat_eq_is : (a b : ℕ) → nat_eq a b ≡ true → a ≡ b
nat_eq_is a b e = eqb-true a b e

pub bind_some : {A B : Type 0} (o : Option A) (f : A → Option B) (z : B) → (o >>= f) ≡ Some z → (a : A) × (o ≡ Some a) × (f a ≡ Some z)
bind_some None f z e = cc
bind_some (Some a) f z e = (a, refl, e)

pub strip_is : (w cs r : List ℕ) → strip_at w cs ≡ Some r → cs ≡ w ++ r
strip_is [] cs r e = cc
strip_is (w ∷ ws) [] r e = cc
strip_is (w ∷ ws) (c ∷ cs) r e = strip_step w c ws cs r (nat_eq w c) refl e (strip_is ws cs r)
  where
    strip_step : (w c : ℕ) (ws cs r : List ℕ) (b : Bool) → nat_eq w c ≡ b → cond b (strip_at ws cs) None ≡ Some r → (strip_at ws cs ≡ Some r → cs ≡ ws ++ r) → c ∷ cs ≡ w ∷ ws ++ r
    strip_step w c ws cs r true p e go = let k = go e in let q = nat_eq_is w c p in cc
    strip_step w c ws cs r false p e go = cc

pub strip_length : (w cs r : List ℕ) → strip_at w cs ≡ Some r → length cs ≡ length w + length r
strip_length w cs r e = rw (strip_is w cs r e) (length_both w r)
  where
    length_both : (a b : List ℕ) → length (a ++ b) ≡ length a + length b
    length_both [] b = omega arith
    length_both (x ∷ a) b = omega (arith, length_both a b)

abbrev pub IsShorter : List ℕ → Option (ℕ × List ℕ) → Type 0
IsShorter cs o = (a : ℕ) (r : List ℕ) → o ≡ Some (a, r) → length r < length cs

found_shorter : (w : ℕ) (ws cs : List ℕ) (f : List ℕ → Option (ℕ × List ℕ)) (g : Option (ℕ × List ℕ)) → ((r : List ℕ) → length r < length cs → IsShorter cs (f r)) → IsShorter cs g
    → IsShorter cs (found (strip_at (w ∷ ws) cs) f g)
found_shorter w ws cs f g h k = step (strip_at (w ∷ ws) cs) refl
  where
    step : (o : Option (List ℕ)) → strip_at (w ∷ ws) cs ≡ o → IsShorter cs (found o f g)
    step None p = k
    step (Some r) p = h r (omega (arith, strip_length (w ∷ ws) cs r p))

gives_shorter : (cs r : List ℕ) (x : ℕ) → length r < length cs → IsShorter cs (Some (x, r))
gives_shorter cs r x h a q e = subst (λ v. length v < length cs) (some_pair_parts x a r q e).1 h

none_shorter : (cs : List ℕ) → IsShorter cs None
none_shorter cs a r e = cc

digits_shorter : (base : ℕ) (digit : ℕ → Option ℕ) (any : Bool) (n : ℕ) (cs : List ℕ) → IsShorter cs (digits_from base digit any n cs)
digits_shorter base digit any n [] a r e = cc
digits_shorter base digit any n (c ∷ cs) a r e = step (digit c) (λ d. digits_shorter base digit true (n * base + d) cs a r) e
  where
    closing : (b : Bool) → cond {A = Option (ℕ × List ℕ)} b (Some (n, cs)) None ≡ Some (a, r) → length r < length (c ∷ cs)
    closing true e = subst (λ v. length v < length (c ∷ cs)) (some_pair_parts n a cs r e).1 (omega arith)
    closing false e = cc

    step : (o : Option ℕ) → ((d : ℕ) → digits_from base digit true (n * base + d) cs ≡ Some (a, r) → length r < length cs)
        → found {B = Option (ℕ × List ℕ)} o (λ d. digits_from base digit true (n * base + d) cs) (cond (any && nat_eq c 59) (Some (n, cs)) None) ≡ Some (a, r) → length r < length (c ∷ cs)
    step None go e = closing (any && nat_eq c 59) e
    step (Some d) go e = let h = go d e in omega arith

numbered_shorter : (cs : List ℕ) (o : Option (ℕ × List ℕ)) → IsShorter cs o → IsShorter cs (numbered o)
numbered_shorter cs None h a r e = cc
numbered_shorter cs (Some (c, q)) h a r e = step (is_xml_char c) e
  where
    step : (b : Bool) → cond {A = Option (ℕ × List ℕ)} b (Some (c, q)) None ≡ Some (a, r) → length r < length cs
    step true e = h a r e
    step false e = cc

further_shorter : (cs r : List ℕ) (o : Option (ℕ × List ℕ)) → length r < length cs → IsShorter r o → IsShorter cs o
further_shorter cs r o h k a q e = omega (arith, k a q e)

pub reference_shorter : (cs : List ℕ) (c : ℕ) (r : List ℕ) → reference_at cs ≡ Some (c, r) → length r < length cs
reference_shorter cs =
    found_shorter 38 (codes "amp;") cs _ _ (λ r h. gives_shorter cs r 38 h) (
    found_shorter 38 (codes "lt;") cs _ _ (λ r h. gives_shorter cs r 60 h) (
    found_shorter 38 (codes "gt;") cs _ _ (λ r h. gives_shorter cs r 62 h) (
    found_shorter 38 (codes "apos;") cs _ _ (λ r h. gives_shorter cs r 39 h) (
    found_shorter 38 (codes "quot;") cs _ _ (λ r h. gives_shorter cs r 34 h) (
    found_shorter 38 (codes "#x") cs _ _ (λ r h. numbered_shorter cs _ (further_shorter cs r _ h (digits_shorter 16 hexadecimal false 0 r))) (
    found_shorter 38 (codes "#") cs _ _ (λ r h. numbered_shorter cs _ (further_shorter cs r _ h (digits_shorter 10 decimal_digit false 0 r))) (none_shorter cs)))))))

pub record Ampersand (cs : List ℕ) : Type 0 where
  pub tail : List ℕ
  pub is : cs ≡ 38 ∷ tail

-- a reference begins with `&`
pub reference_begins : (cs : List ℕ) (c : ℕ) (r : List ℕ) → reference_at cs ≡ Some (c, r) → Ampersand cs
reference_begins [] c r e = cc
reference_begins (x ∷ xs) c r e = step (nat_eq 38 x) refl
  where
    step : (b : Bool) → nat_eq 38 x ≡ b → Ampersand (x ∷ xs)
    step true p = record { tail = xs; is = ap (λ v. v ∷ xs) (sym (nat_eq_is 38 x p)) }
    step false p = absurd (none-some (c, r) (rw p at e))

-- Values

front_some : (front : List ℕ) (o : Option (List ℕ × List ℕ)) (v r : List ℕ) → with_front front o ≡ Some (v, r) → (w : List ℕ) × (o ≡ Some (w, r)) × (v ≡ front ++ w)
front_some front None v r e = cc
front_some front (Some (w, q)) v r e = let k = some_pair_parts (front ++ w) v q r e in (w, ap (λ x. Some (w, x)) k.1, sym k.0)

-- the last piece, and any other
value_last : (n quote : ℕ) (cs rest : List ℕ) → piece_at quote cs ≡ Some (None, rest) → value_at (suc n) quote cs ≡ Some ([], rest)
value_last n quote cs rest e = ap (λ o. o >>= (λ p. value_behind p.0 p.1 (λ rest. value_at n quote rest))) e

value_next : (n quote : ℕ) (cs front more v r : List ℕ) → piece_at quote cs ≡ Some (Some front, more) → value_at n quote more ≡ Some (v, r)
    → value_at (suc n) quote cs ≡ Some (front ++ v, r)
value_next n quote cs front more v r e g = ap (λ o. o >>= (λ p. value_behind p.0 p.1 (λ rest. value_at n quote rest))) e ∙ ap (with_front front) g

piece_close : (quote c : ℕ) (cs : List ℕ) → nat_eq c quote ≡ true → piece_at quote (c ∷ cs) ≡ Some (None, cs)
piece_close quote c cs e = rw e refl

piece_plain : (quote c : ℕ) (cs : List ℕ) → nat_eq c quote ≡ false → is_plain c ≡ true → piece_at quote (c ∷ cs) ≡ Some (Some (encode_utf8 (spaced c)), cs)
piece_plain quote c cs e f = rw (e, f) refl

piece_reference : (quote c x : ℕ) (cs more : List ℕ) → nat_eq c quote ≡ false → is_plain c ≡ false → reference_at (c ∷ cs) ≡ Some (x, more)
    → piece_at quote (c ∷ cs) ≡ Some (Some (encode_utf8 x), more)
piece_reference quote c x cs more e f g = rw (e, f) (ap piece_of g)

pub value_complete : {quote : ℕ} {cs v rest : List ℕ} → Value quote cs v rest → (n : ℕ) → length cs < n → value_at n quote cs ≡ Some (v, rest)
value_complete v zero h = absurd (omega (arith, h))
value_complete {quote} {cs} {v} {rest} (Value.close e f) (suc n) h = rw f (value_last n quote cs rest (subst (λ x. piece_at quote x ≡ Some (None, rest)) (sym e) (piece_close quote quote rest (nat_eq_same quote))))
value_complete {quote} {cs} {v} {rest} (Value.plain {more = more} {value = w} c e ne p k f) (suc n) h =
    let l : length more < n = omega (arith, ap length e) in
    let step : piece_at quote cs ≡ Some (Some (encode_utf8 (spaced c)), more) = subst (λ x. piece_at quote x ≡ Some (Some (encode_utf8 (spaced c)), more)) (sym e) (piece_plain quote c more ne p) in
    rw f (value_next n quote cs (encode_utf8 (spaced c)) more w rest step (value_complete k n l))
value_complete {quote} {cs} {v} {rest} (Value.reference {more = more} {value = w} c ne e k f) (suc n) h =
    let a = reference_begins cs c more e in
    let l : length more < n = omega (arith, reference_shorter cs c more e) in
    let step : piece_at quote cs ≡ Some (Some (encode_utf8 c), more) = subst (λ x. piece_at quote x ≡ Some (Some (encode_utf8 c), more)) (sym a.is)
    (piece_reference quote 38 c a.tail more ne refl (subst (λ x. reference_at x ≡ Some (c, more)) a.is e)) in
    rw f (value_next n quote cs (encode_utf8 c) more w rest step (value_complete k n l))

pub value_shorter : {quote : ℕ} {cs v rest : List ℕ} → Value quote cs v rest → length rest < length cs
value_shorter (Value.close e f) = omega (arith, ap length e)
value_shorter (Value.plain c e ne p k f) = omega (arith, ap length e, value_shorter k)
value_shorter {quote} {cs} {v} {rest} (Value.reference {more = more} c ne e k f) = omega (arith, reference_shorter cs c more e, value_shorter k)

-- what a piece is
abbrev pub IsPiece : ℕ → List ℕ → Option (List ℕ) → List ℕ → Type 0
IsPiece quote cs None more = cs ≡ quote ∷ more
IsPiece quote cs (Some front) more = (c : ℕ) × (((cs ≡ c ∷ more) × (nat_eq c quote ≡ false) × (is_plain c ≡ true) × (front ≡ encode_utf8 (spaced c)))
    ⊎ ((nat_eq 38 quote ≡ false) × (reference_at cs ≡ Some (c, more)) × (front ≡ encode_utf8 c)))

piece_of_some : (r : Option (ℕ × List ℕ)) (o : Option (List ℕ)) (more : List ℕ) → piece_of r ≡ Some (o, more) → (x : ℕ) × (r ≡ Some (x, more)) × (o ≡ Some (encode_utf8 x))
piece_of_some None o more e = cc
piece_of_some (Some (x, q)) o more e = let k = some_pair_parts (Some (encode_utf8 x)) o q more e in (x, ap (λ v. Some (x, v)) k.1, sym k.0)

abbrev piece : Option (List ℕ) → List ℕ → Option (Option (List ℕ) × List ℕ)
piece o rest = Some (o, rest)

module _ (quote c : ℕ) (cs : List ℕ) (o : Option (List ℕ)) (more : List ℕ) where
  piece_end : nat_eq c quote ≡ true → piece None cs ≡ piece o more → IsPiece quote (c ∷ cs) o more
  piece_end p e =
      let k = some_pair_parts None o cs more e in
      subst (λ v. IsPiece quote (c ∷ cs) v more) k.0 (ap (λ v. v ∷ cs) (nat_eq_is c quote p) ∙ ap (λ v. quote ∷ v) k.1)

  piece_char : nat_eq c quote ≡ false → is_plain c ≡ true → piece (Some (encode_utf8 (spaced c))) cs ≡ piece o more → IsPiece quote (c ∷ cs) o more
  piece_char p q e =
      let k = some_pair_parts (Some (encode_utf8 (spaced c))) o cs more e in
      subst (λ v. IsPiece quote (c ∷ cs) v more) k.0 (c, inl (ap (λ v. c ∷ v) k.1, p, q, refl))

  piece_meant : nat_eq c quote ≡ false → piece_of (reference_at (c ∷ cs)) ≡ Some (o, more) → IsPiece quote (c ∷ cs) o more
  piece_meant p e =
      let k = piece_of_some (reference_at (c ∷ cs)) o more e in
      let a = reference_begins (c ∷ cs) k.0 more k.1 in
      let same : c ≡ 38 = let i = a.is in cc in
      subst (λ v. IsPiece quote (c ∷ cs) v more) (sym k.2) (k.0, inr (subst (λ v. nat_eq v quote ≡ false) same p, k.1, refl))

  piece_other : (b : Bool) → is_plain c ≡ b → nat_eq c quote ≡ false → cond b (piece (Some (encode_utf8 (spaced c))) cs) (piece_of (reference_at (c ∷ cs))) ≡ piece o more → IsPiece quote (c ∷ cs) o more
  piece_other true q p e = piece_char p q e
  piece_other false q p e = piece_meant p e

  piece_cases : (b : Bool) → nat_eq c quote ≡ b
      → cond b (piece None cs) (cond (is_plain c) (piece (Some (encode_utf8 (spaced c))) cs) (piece_of (reference_at (c ∷ cs)))) ≡ piece o more → IsPiece quote (c ∷ cs) o more
  piece_cases true p e = piece_end p e
  piece_cases false p e = piece_other (is_plain c) refl p e

piece_is : (quote : ℕ) (cs : List ℕ) (o : Option (List ℕ)) (more : List ℕ) → piece_at quote cs ≡ Some (o, more) → IsPiece quote cs o more
piece_is quote [] o more e = cc
piece_is quote (c ∷ cs) o more e = piece_cases quote c cs o more (nat_eq c quote) refl e

value_from : (n quote : ℕ) (cs v r : List ℕ) (o : Option (List ℕ)) (more : List ℕ) → ((w : List ℕ) → value_at n quote more ≡ Some (w, r) → Value quote more w r) → IsPiece quote cs o more
    → value_behind o more (λ rest. value_at n quote rest) ≡ Some (v, r) → Value quote cs v r
value_from n quote cs v r None more go h e = let k = some_pair_parts [] v more r e in Value.close (h ∙ ap (λ x. quote ∷ x) k.1) (sym k.0)
value_from n quote cs v r (Some front) more go (c, h) e =
    let (w, k, f) = front_some front (value_at n quote more) v r e in
    elim h [
      | inl (i, ne, p, fr) ↦ Value.plain c i ne p (go w k) (f ∙ ap (λ x. x ++ w) fr)
      | inr (ne, i, fr) ↦ Value.reference c ne i (go w k) (f ∙ ap (λ x. x ++ w) fr)
    ]

pub value_sound : (n quote : ℕ) (cs v r : List ℕ) → value_at n quote cs ≡ Some (v, r) → Value quote cs v r
value_sound zero quote cs v r e = cc
value_sound (suc n) quote cs v r e =
    let ((o, more), p, f) = bind_some (piece_at quote cs) (λ p. value_behind p.0 p.1 (λ rest. value_at n quote rest)) (v, r) e in
    value_from n quote cs v r o more (λ w. value_sound n quote more w r) (piece_is quote cs o more p) f

-- Pairs

pub white_length : (cs : List ℕ) → length (behind_white cs) ≤ length cs
white_length [] = omega arith
white_length (c ∷ cs) = step (is_white c) (white_length cs)
  where
    step : (b : Bool) → length (behind_white cs) ≤ length cs → length (cond b (behind_white cs) (c ∷ cs)) ≤ length (c ∷ cs)
    step true h = omega arith
    step false h = omega arith

pub begins_length : (cs : List ℕ) → begins_white cs ≡ true → length (behind_white cs) < length cs
begins_length [] e = cc
begins_length (c ∷ cs) e = rw e (omega (arith, white_length cs))

name_before_some : (n rest m r : List ℕ) → name_before n rest ≡ Some (m, r) → (n ≡ m) × (rest ≡ r)
name_before_some n rest m r e =
    let (p, k, f) = bind_some (parts n) (λ p. Some (n, rest)) (m, r) e in
    some_pair_parts n m rest r f

pub name_length : (cs n r : List ℕ) → name_at cs ≡ Some (n, r) → length r ≤ length cs
name_length cs n r e =
    let k = name_before_some (take (prefix_len is_name_char cs) cs) (drop (prefix_len is_name_char cs) cs) n r e in
    subst (λ v. length v ≤ length cs) k.1 (omega (arith, length-drop (prefix_len is_name_char cs) cs))

no_name : (w : ℕ) (ws x : List ℕ) (z : List ℕ × List ℕ) → ((cs : List ℕ) → name_at (w ∷ cs) ≡ None) → name_at x ≡ Some z → strip_at (w ∷ ws) x ≡ None
no_name w ws [] z h e = refl
no_name w ws (c ∷ cs) z h e = step (nat_eq w c) refl
  where
    step : (b : Bool) → nat_eq w c ≡ b → cond b (strip_at ws cs) None ≡ None
    step true p = absurd (none-some z (sym (subst (λ v. name_at (v ∷ cs) ≡ None) (nat_eq_is w c p) (h cs)) ∙ e))
    step false p = refl

value_in_is : (q : ℕ) (cs v r : List ℕ) → is_quote q ≡ true → value_at (suc (length cs)) q cs ≡ Some (v, r) → value_in (q ∷ cs) ≡ Some (v, r)
value_in_is q cs v r e f = rw e f

pair_found : (cs name behind sign v rest : List ℕ) → name_at cs ≡ Some (name, behind) → strip_at (codes "=") (behind_white behind) ≡ Some sign → value_in (behind_white sign) ≡ Some (v, rest)
    → pair_at cs ≡ Some (record { name = name; value = v }, rest)
unfolding pair_at
pair_found cs name behind sign v rest e f g =
    ap (λ o. o >>= (λ name. strip_at (codes "=") (behind_white name.1) >>= (λ sign. valued name.0 (value_in (behind_white sign))))) e
    ∙ ap (λ o. o >>= (λ sign. valued name (value_in (behind_white sign)))) f ∙ ap (valued name) g

pub pair_complete : (cs : List ℕ) (p : Pair) (rest : List ℕ) → PairAt cs p rest → pair_at cs ≡ Some (p, rest)
pair_complete cs p rest h = pair_found cs p.name h.behind_name h.behind_sign p.value rest h.named h.sign
    (subst (λ x. value_in x ≡ Some (p.value, rest)) (sym h.opens) (value_in_is h.quote h.inside p.value rest h.quotes (value_complete h.value (suc (length h.inside)) (omega arith))))

pub pair_shorter : (cs : List ℕ) (p : Pair) (rest : List ℕ) → PairAt cs p rest → length rest < length cs
pair_shorter cs p rest h =
    let a = name_length cs p.name h.behind_name h.named in
    let b = white_length h.behind_name in
    let c = strip_length (codes "=") (behind_white h.behind_name) h.behind_sign h.sign in
    let d = white_length h.behind_sign in
    let e = ap length h.opens in
    let f = value_shorter h.value in
    omega arith

valued_some : (name : List ℕ) (o : Option (List ℕ × List ℕ)) (p : Pair) (r : List ℕ) → valued name o ≡ Some (p, r) → (o ≡ Some (p.value, r)) × (name ≡ p.name)
valued_some name None p r e = cc
valued_some name (Some (v, q)) p r e =
    let k = some_pair_parts (record { name = name; value = v }) p q r e in
    (ap (λ x. Some (x, q)) (ap (λ x. x.value) k.0) ∙ ap (λ x. Some (p.value, x)) k.1, ap (λ x. x.name) k.0)

record Quoted (cs v r : List ℕ) : Type 0 where
  quote : ℕ
  inside : List ℕ
  opens : cs ≡ quote ∷ inside
  quotes : is_quote quote ≡ true
  value : Value quote inside v r

quoted_sound : (cs v r : List ℕ) → value_in cs ≡ Some (v, r) → Quoted cs v r
quoted_sound [] v r e = cc
quoted_sound (q ∷ cs) v r e = step (is_quote q) refl e
  where
    step : (b : Bool) → is_quote q ≡ b → cond b (value_at (suc (length cs)) q cs) None ≡ Some (v, r) → Quoted (q ∷ cs) v r
    step true p e = record { quote = q; inside = cs; opens = refl; quotes = p; value = value_sound (suc (length cs)) q cs v r e }
    step false p e = cc

pub pair_sound : (cs : List ℕ) (p : Pair) (rest : List ℕ) → pair_at cs ≡ Some (p, rest) → PairAt cs p rest
unfolding pair_at
pair_sound cs p rest e =
    let ((name, behind), a, f) = bind_some (name_at cs) (λ name. strip_at (codes "=") (behind_white name.1) >>= (λ sign. valued name.0 (value_in (behind_white sign)))) (p, rest) e in
    let (sign, b, g) = bind_some (strip_at (codes "=") (behind_white behind)) (λ sign. valued name (value_in (behind_white sign))) (p, rest) f in
    let (c, d) = valued_some name (value_in (behind_white sign)) p rest g in
    let q = quoted_sound (behind_white sign) p.value rest c in
    record { behind_name = behind; behind_sign = sign; inside = q.inside; quote = q.quote; named = a ∙ ap (λ x. Some (x, behind)) d; sign = b; opens = q.opens; quotes = q.quotes; value = q.value }

-- The pairs of a tag

abbrev ending : List Pair → Bool → List ℕ → Ending
ending ps empty rest = record { pairs = ps; is_empty = empty; rest = rest }

pairs_start : (n : ℕ) (cs rest : List ℕ) → strip_at (codes ">") (behind_white cs) ≡ Some rest → pairs_at (suc n) cs ≡ Some (ending [] false rest)
pairs_start n cs rest e = rw e refl

pairs_empty : (n : ℕ) (cs rest : List ℕ) → strip_at (codes ">") (behind_white cs) ≡ None → strip_at (codes "/>") (behind_white cs) ≡ Some rest → pairs_at (suc n) cs ≡ Some (ending [] true rest)
pairs_empty n cs rest d e = rw (d, e) refl

pairs_pair : (n : ℕ) (cs more : List ℕ) (p : Pair) (o : Option Ending) → strip_at (codes ">") (behind_white cs) ≡ None → strip_at (codes "/>") (behind_white cs) ≡ None → begins_white cs ≡ true
    → pair_at (behind_white cs) ≡ Some (p, more) → pairs_at n more ≡ o → pairs_at (suc n) cs ≡ with_pair p o
pairs_pair n cs more p o d e f g h = rw (d, e, f, g) (ap (with_pair p) h)

empty_not_start : (x r : List ℕ) → strip_at (codes "/>") x ≡ Some r → strip_at (codes ">") x ≡ None
empty_not_start x r e = rw (strip_is (codes "/>") x r e) refl

pub pairs_complete : {cs : List ℕ} {ps : List Pair} {empty : Bool} {rest : List ℕ} → Pairs cs ps empty rest → (n : ℕ) → length cs < n → pairs_at n cs ≡ Some (ending ps empty rest)
pairs_complete h zero l = absurd (omega (arith, l))
pairs_complete {cs} {ps} {empty} {rest} (Pairs.start e f g) (suc n) l = rw (f, g) (pairs_start n cs rest e)
pairs_complete {cs} {ps} {empty} {rest} (Pairs.empty e f g) (suc n) l = rw (f, g) (pairs_empty n cs rest (empty_not_start (behind_white cs) rest e) e)
pairs_complete {cs} {ps} {empty} {rest} (Pairs.pair {more = more} {ps = qs} p w h k f) (suc n) l =
    let a = begins_length cs w in
    let b = pair_shorter (behind_white cs) p more h in
    let c : length more < n = omega arith in
    rw f (pairs_pair n cs more p (Some (ending qs empty rest)) (no_name 62 [] (behind_white cs) (p.name, h.behind_name) (λ x. refl) h.named)
    (no_name 47 (62 ∷ []) (behind_white cs) (p.name, h.behind_name) (λ x. refl) h.named) w (pair_complete (behind_white cs) p more h) (pairs_complete k n c))

with_pair_some : (p : Pair) (o : Option Ending) (ps : List Pair) (empty : Bool) (rest : List ℕ) → with_pair p o ≡ Some (ending ps empty rest)
    → (qs : List Pair) × (o ≡ Some (ending qs empty rest)) × (ps ≡ p ∷ qs)
with_pair_some p None ps empty rest e = cc
with_pair_some p (Some x) ps empty rest e =
    let k : record { pairs = p ∷ x.pairs; is_empty = x.is_empty; rest = x.rest } ≡ ending ps empty rest = cc in
    let a = ap (λ v. v.is_empty) k in
    let b = ap (λ v. v.rest) k in
    (x.pairs, ap (λ v. Some (ending x.pairs v x.rest)) a ∙ ap (λ v. Some (ending x.pairs empty v)) b, sym (ap (λ v. v.pairs) k))

given_true : (b : Bool) (u : Unit {0}) → given b ≡ Some u → b ≡ true
given_true true u e = refl
given_true false u e = cc

pub pairs_sound : (n : ℕ) (cs : List ℕ) (ps : List Pair) (empty : Bool) (rest : List ℕ) → pairs_at n cs ≡ Some (ending ps empty rest) → Pairs cs ps empty rest
pairs_sound zero cs ps empty rest e = cc
pairs_sound (suc n) cs ps empty rest e = step (strip_at (codes ">") (behind_white cs)) (strip_at (codes "/>") (behind_white cs)) refl refl (λ more qs. pairs_sound n more qs empty rest) e
  where
    parts_of : (x y : Ending) → Some x ≡ Some y → (x.pairs ≡ y.pairs) × (x.is_empty ≡ y.is_empty) × (x.rest ≡ y.rest)
    parts_of x y e = let k : x ≡ y = cc in (ap (λ v. v.pairs) k, ap (λ v. v.is_empty) k, ap (λ v. v.rest) k)

    pair_step : ((more : List ℕ) (qs : List Pair) → pairs_at n more ≡ Some (ending qs empty rest) → Pairs more qs empty rest)
        → (given (begins_white cs) >>= (λ _. pair_at (behind_white cs) >>= (λ p. with_pair p.0 (pairs_at n p.1)))) ≡ Some (ending ps empty rest) → Pairs cs ps empty rest
    pair_step go e =
        let (u, w, f) = bind_some (given (begins_white cs)) (λ _. pair_at (behind_white cs) >>= (λ p. with_pair p.0 (pairs_at n p.1))) (ending ps empty rest) e in
        let ((p, more), a, g) = bind_some (pair_at (behind_white cs)) (λ p. with_pair p.0 (pairs_at n p.1)) (ending ps empty rest) f in
        let (qs, k, h) = with_pair_some p (pairs_at n more) ps empty rest g in
        Pairs.pair p (given_true (begins_white cs) u w) (pair_sound (behind_white cs) p more a) (go more qs k) h

    step : (o q : Option (List ℕ)) → strip_at (codes ">") (behind_white cs) ≡ o → strip_at (codes "/>") (behind_white cs) ≡ q
        → ((more : List ℕ) (qs : List Pair) → pairs_at n more ≡ Some (ending qs empty rest) → Pairs more qs empty rest)
        → found o (λ r. Some (ending [] false r)) (found q (λ r. Some (ending [] true r))
        (given (begins_white cs) >>= (λ _. pair_at (behind_white cs) >>= (λ p. with_pair p.0 (pairs_at n p.1))))) ≡ Some (ending ps empty rest) → Pairs cs ps empty rest
    step (Some r) q a b go e = let k = parts_of (ending [] false r) (ending ps empty rest) e in Pairs.start (a ∙ ap Some k.2) (sym k.0) (sym k.1)
    step None (Some r) a b go e = let k = parts_of (ending [] true r) (ending ps empty rest) e in Pairs.empty (b ∙ ap Some k.2) (sym k.0) (sym k.1)
    step None None a b go e = pair_step go e

-- Tokens

start_found : (cs name inside behind : List ℕ) (ps : List Pair) (empty : Bool) (rest : List ℕ) → strip_at (codes "<") cs ≡ Some inside → name_at inside ≡ Some (name, behind)
    → pairs_at (suc (length behind)) behind ≡ Some (ending ps empty rest) → start_at cs ≡ Some (Start (record { name = name; pairs = ps; is_empty = empty }), rest)
unfolding start_at
start_found cs name inside behind ps empty rest e f g =
    ap (λ o. o >>= (λ inside. name_at inside >>= (λ name. tagged name.0 (pairs_at (suc (length name.1)) name.1)))) e
    ∙ ap (λ o. o >>= (λ name. tagged name.0 (pairs_at (suc (length name.1)) name.1))) f ∙ ap (tagged name) g

pub start_complete : (cs : List ℕ) (tag : Tag) (rest : List ℕ) → StartAt cs tag rest → start_at cs ≡ Some (Start tag, rest)
start_complete cs tag rest h = start_found cs tag.name h.inside h.behind_name tag.pairs tag.is_empty rest h.opens h.named (pairs_complete h.pairs (suc (length h.behind_name)) (omega arith))

tagged_some : (name : List ℕ) (o : Option Ending) (t : Token) (r : List ℕ) → tagged name o ≡ Some (t, r)
    → (ps : List Pair) × (empty : Bool) × (o ≡ Some (ending ps empty r)) × (t ≡ Start (record { name = name; pairs = ps; is_empty = empty }))
tagged_some name None t r e = cc
tagged_some name (Some x) t r e =
    let k = some_pair_parts (Start (record { name = name; pairs = x.pairs; is_empty = x.is_empty })) t x.rest r e in
    (x.pairs, x.is_empty, ap (λ v. Some (ending x.pairs x.is_empty v)) k.1, sym k.0)

pub start_sound : (cs : List ℕ) (t : Token) (rest : List ℕ) → start_at cs ≡ Some (t, rest) → TokenAt cs t rest
unfolding start_at
start_sound cs t rest e =
    let (inside, a, f) = bind_some (strip_at (codes "<") cs) (λ inside. name_at inside >>= (λ name. tagged name.0 (pairs_at (suc (length name.1)) name.1))) (t, rest) e in
    let ((name, behind), b, g) = bind_some (name_at inside) (λ name. tagged name.0 (pairs_at (suc (length name.1)) name.1)) (t, rest) f in
    let (ps, empty, c, d) = tagged_some name (pairs_at (suc (length behind)) behind) t rest g in
    TokenAt.start (record { name = name; pairs = ps; is_empty = empty })
    (record { inside = inside; behind_name = behind; opens = a; named = b; pairs = pairs_sound (suc (length behind)) behind ps empty rest c }) d

-- each kind of markup is told by its first characters
next_markup : (cs : List ℕ) → next_at (60 ∷ cs) ≡ markup_at (60 ∷ cs)
next_markup cs = refl

markup_end : (cs : List ℕ) → markup_at (60 ∷ 47 ∷ cs) ≡ end_token (end_at (60 ∷ 47 ∷ cs))
unfolding markup_at
markup_end cs = refl

markup_comment : (cs : List ℕ) → markup_at (60 ∷ 33 ∷ 45 ∷ 45 ∷ cs) ≡ comment_token (comment_at (60 ∷ 33 ∷ 45 ∷ 45 ∷ cs))
unfolding markup_at
markup_comment cs = refl

markup_section : (cs : List ℕ) → markup_at (codes "<![CDATA[" ++ cs) ≡ section_token (section_at (codes "<![CDATA[" ++ cs))
unfolding markup_at
markup_section cs = refl

markup_start : (cs : List ℕ) (z : List ℕ × List ℕ) → name_at cs ≡ Some z → markup_at (60 ∷ cs) ≡ start_at (60 ∷ cs)
unfolding markup_at
markup_start cs z e = rw (no_name 47 [] cs z (λ x. refl) e, no_name 33 (codes "--") cs z (λ x. refl) e, no_name 33 (codes "[CDATA[") cs z (λ x. refl) e) refl

plain_apart : (a b : Bool) → (not a && not b) ≡ true → (a ≡ false) × (b ≡ false)
plain_apart true true e = cc
plain_apart true false e = cc
plain_apart false true e = cc
plain_apart false false e = (refl, refl)

next_plain : (c : ℕ) (rest : List ℕ) → is_plain c ≡ true → strip_at (codes "]]>") (c ∷ rest) ≡ None → next_at (c ∷ rest) ≡ Some (Plain c, rest)
next_plain c rest p s = let (a, b) = plain_apart (nat_eq c 60) (nat_eq c 38) p in rw (a, b) (ap (plain_token c rest) s)

pub next_complete : {cs : List ℕ} {t : Token} {rest : List ℕ} → TokenAt cs t rest → next_at cs ≡ Some (t, rest)
next_complete {cs} {t} {rest} (TokenAt.plain c e p s f) = rw (e, f) (next_plain c rest p (subst (λ x. strip_at (codes "]]>") x ≡ None) e s))
next_complete {cs} {t} {rest} (TokenAt.reference c e f) =
    let a = reference_begins cs c rest e in
    rw (a.is, f) (ap reference_token (subst (λ x. reference_at x ≡ Some (c, rest)) a.is e))
next_complete {cs} {t} {rest} (TokenAt.section inside e f) =
    let (x, a, b) = bind_some (strip_at (codes "<![CDATA[") cs) (until (codes "]]>")) (inside, rest) e in
    let i = strip_is (codes "<![CDATA[") cs x a in
    rw f (subst (λ v. next_at v ≡ section_token (section_at v)) (sym i) (markup_section x) ∙ ap section_token e)
next_complete {cs} {t} {rest} (TokenAt.comment e f) =
    let (x, a, b) = bind_some (strip_at (codes "<!--") cs) (λ inside. until (codes "--") inside >>= (λ closing. strip_at (codes ">") closing.1)) rest e in
    let i = strip_is (codes "<!--") cs x a in
    rw f (subst (λ v. next_at v ≡ comment_token (comment_at v)) (sym i) (markup_comment x) ∙ ap comment_token e)
next_complete {cs} {t} {rest} (TokenAt.start tag h f) =
    let i = strip_is (codes "<") cs h.inside h.opens in
    rw f (subst (λ v. next_at v ≡ start_at v) (sym i) (markup_start h.inside (tag.name, h.behind_name) h.named) ∙ start_complete cs tag rest h)
next_complete {cs} {t} {rest} (TokenAt.end name e f) =
    let (x, a, b) = bind_some (strip_at (codes "</") cs) (λ inside. name_at inside >>= (λ name. strip_at (codes ">") (behind_white name.1) >>= (λ rest. Some (name.0, rest)))) (name, rest) e in
    let i = strip_is (codes "</") cs x a in
    rw f (subst (λ v. next_at v ≡ end_token (end_at v)) (sym i) (markup_end x) ∙ ap end_token e)

-- a place begins with one token
pub one_token : (cs : List ℕ) (t u : Token) (r q : List ℕ) → TokenAt cs t r → TokenAt cs u q → (t ≡ u) × (r ≡ q)
one_token cs t u r q h k = some_pair_parts t u r q (sym (next_complete h) ∙ next_complete k)

end_token_some : (cs : List ℕ) (t : Token) (r : List ℕ) → end_token (end_at cs) ≡ Some (t, r) → TokenAt cs t r
end_token_some cs t r e = step (end_at cs) refl e
  where
    step : (o : Option (List ℕ × List ℕ)) → end_at cs ≡ o → end_token o ≡ Some (t, r) → TokenAt cs t r
    step None p e = cc
    step (Some (n, x)) p e = let k = some_pair_parts (End n) t x r e in TokenAt.end n (p ∙ ap (λ v. Some (n, v)) k.1) (sym k.0)

section_token_some : (cs : List ℕ) (t : Token) (r : List ℕ) → section_token (section_at cs) ≡ Some (t, r) → TokenAt cs t r
section_token_some cs t r e = step (section_at cs) refl e
  where
    step : (o : Option (List ℕ × List ℕ)) → section_at cs ≡ o → section_token o ≡ Some (t, r) → TokenAt cs t r
    step None p e = cc
    step (Some (n, x)) p e = let k = some_pair_parts (Meant (encode_utf8_all n)) t x r e in TokenAt.section n (p ∙ ap (λ v. Some (n, v)) k.1) (sym k.0)

comment_token_some : (cs : List ℕ) (t : Token) (r : List ℕ) → comment_token (comment_at cs) ≡ Some (t, r) → TokenAt cs t r
comment_token_some cs t r e = step (comment_at cs) refl e
  where
    step : (o : Option (List ℕ)) → comment_at cs ≡ o → comment_token o ≡ Some (t, r) → TokenAt cs t r
    step None p e = cc
    step (Some x) p e = let k = some_pair_parts Comment t x r e in TokenAt.comment (p ∙ ap Some k.1) (sym k.0)

reference_token_some : (cs : List ℕ) (t : Token) (r : List ℕ) → reference_token (reference_at cs) ≡ Some (t, r) → TokenAt cs t r
reference_token_some cs t r e = step (reference_at cs) refl e
  where
    step : (o : Option (ℕ × List ℕ)) → reference_at cs ≡ o → reference_token o ≡ Some (t, r) → TokenAt cs t r
    step None p e = cc
    step (Some (c, x)) p e = let k = some_pair_parts (Meant (encode_utf8 c)) t x r e in TokenAt.reference c (p ∙ ap (λ v. Some (c, v)) k.1) (sym k.0)

found_cases : (o : Option (List ℕ)) (a b : Option (Token × List ℕ)) (z : Token × List ℕ) → found o (λ r. a) b ≡ Some z → (a ≡ Some z) ⊎ (b ≡ Some z)
found_cases None a b z e = inr e
found_cases (Some x) a b z e = inl e

markup_sound : (cs : List ℕ) (t : Token) (r : List ℕ) → markup_at cs ≡ Some (t, r) → TokenAt cs t r
unfolding markup_at
markup_sound cs t r e =
    elim (found_cases (strip_at (codes "</") cs) (end_token (end_at cs)) (found (strip_at (codes "<!--") cs) (λ r. comment_token (comment_at cs)) (found (strip_at (codes "<![CDATA[") cs) (λ r. section_token (section_at cs)) (start_at cs))) (t, r) e) [
      | inl a ↦ end_token_some cs t r a
      | inr b ↦ elim (found_cases (strip_at (codes "<!--") cs) (comment_token (comment_at cs)) (found (strip_at (codes "<![CDATA[") cs) (λ r. section_token (section_at cs)) (start_at cs)) (t, r) b) [
        | inl a ↦ comment_token_some cs t r a
        | inr b ↦ elim (found_cases (strip_at (codes "<![CDATA[") cs) (section_token (section_at cs)) (start_at cs) (t, r) b) [
          | inl a ↦ section_token_some cs t r a
          | inr b ↦ start_sound cs t r b
        ]
      ]
    ]

plain_sound : (c : ℕ) (rest : List ℕ) (o : Option (List ℕ)) (t : Token) (r : List ℕ) → is_plain c ≡ true → strip_at (codes "]]>") (c ∷ rest) ≡ o → plain_token c rest o ≡ Some (t, r) → TokenAt (c ∷ rest) t r
plain_sound c rest None t r p s e = let k = some_pair_parts (Plain c) t rest r e in TokenAt.plain c (ap (λ v. c ∷ v) k.1) p s (sym k.0)
plain_sound c rest (Some x) t r p s e = cc

pub next_sound : (cs : List ℕ) (t : Token) (r : List ℕ) → next_at cs ≡ Some (t, r) → TokenAt cs t r
next_sound [] t r e = cc
next_sound (c ∷ cs) t r e = step (nat_eq c 60) (nat_eq c 38) refl refl e
  where
    plainly : (a b : Bool) → a ≡ false → b ≡ false → (not a && not b) ≡ true
    plainly a b p q = rw (p, q) refl

    step : (a b : Bool) → nat_eq c 60 ≡ a → nat_eq c 38 ≡ b
        → cond a (markup_at (c ∷ cs)) (cond b (reference_token (reference_at (c ∷ cs))) (plain_token c cs (strip_at (codes "]]>") (c ∷ cs)))) ≡ Some (t, r) → TokenAt (c ∷ cs) t r
    step true b p q e = markup_sound (c ∷ cs) t r e
    step false true p q e = reference_token_some (c ∷ cs) t r e
    step false false p q e = plain_sound c cs (strip_at (codes "]]>") (c ∷ cs)) t r (plainly (nat_eq c 60) (nat_eq c 38) p q) refl e
