-- Names that are read back: prefixes, parts, and names of one or two parts.
use Rattle.std.proofs.Common.{◌≡◌, refl, sym, subst, ap, ap₂, ◌∙◌, arith, ℕ, ◌+◌, ◌%◌, ◌^◌, ◌≤◌, ◌<◌, List, [], ◌∷◌, ◌++◌, length, take, drop, append-nil, Bool, true, false, not, cond, ◌&&◌, ◌||◌, nat_eq, nat_le, nat_lt, Some, None, unwrap_or, codes, decimal, chars, encode_utf8_all}
use Rattle.std.specs.List.{list_all, prefix_len, position_or_len}
use Rattle.std.specs.Str.{bytes_eq, is_utf8}
use Rattle.std.proofs.Math.Seq.{take-append_seam, drop-append_seam}
use Rattle.std.proofs.lemmas.Bool.{le-leb, leb-true, lt-ltb, leb-false}
use Rattle.std.proofs.lemmas.Fmt.{decimal_by_steps}
use Rattle.std.proofs.lemmas.List.Sums.{prefix_len-le-length}
use Rattle.std.proofs.lemmas.Str.{IsUtf8-from_is_utf8, encodes-chars, byte_from_char}
use Rattle.at_base.specs.Chars.{is_xml_char}
use Rattle.xml_profile.specs.Prefixes.{soap, addressing, coordination, transaction, work, xml}
use Rattle.xml_profile.specs.CanonicalText.{prefix_of}
use Rattle.xml_profile.specs.SpellableTrees as spellable
use Rattle.xml_grammar.specs.Characters.{◌>>=◌, same, is_white, is_letter, is_digit, begins_part, continues_part, is_name_char, Parts, is_part, parts_before, parts, name_before, name_at, behind_white}
use Rattle.xml_grammar.specs.Namespaces.{is_empty}
use Rattle.xml_roundtrip.proofs.Bools.{and_true, both_true, not_true, not_false, false_unless, equal_numbers, differs, all_both, all_imply}
use Rattle.xml_roundtrip.proofs.CanonicalBytes.{is_written, is_low, Written}

-- Runs of characters

abbrev pub stops : (ℕ → Bool) → List ℕ → Bool
stops p [] = true
stops p (c ∷ cs) = not (p c)

pub whole_run : (p : ℕ → Bool) (xs ys : List ℕ) → list_all p xs ≡ true → stops p ys ≡ true → prefix_len p (xs ++ ys) ≡ length xs
whole_run p [] [] h k = refl
whole_run p [] (y ∷ ys) h k = rw (not_true (p y) k) refl
whole_run p (x ∷ xs) ys h k =
    let (a, b) = and_true (p x) (list_all p xs) h in
    let e = whole_run p xs ys b k in
    rw (a, e) (omega arith)

-- Characters of names

continues_first : (c : ℕ) → begins_part c ≡ true → continues_part c ≡ true
continues_first c h = rw h refl

is_named : (c : ℕ) → continues_part c ≡ true → is_name_char c ≡ true
is_named c h = rw h refl

no_colon : (c : ℕ) → continues_part c ≡ true → not (nat_eq c 58) ≡ true
no_colon c h = not_false (nat_eq c 58) (differs continues_part 58 c refl h)

pub all_continue : (n : List ℕ) → is_part n ≡ true → list_all continues_part n ≡ true
all_continue [] h = cc
all_continue (c ∷ cs) h = let (a, b) = and_true (begins_part c) (list_all continues_part cs) h in both_true (continues_part c) (list_all continues_part cs) (continues_first c a) b

all_named : (n : List ℕ) → is_part n ≡ true → list_all is_name_char n ≡ true
all_named n h = all_imply continues_part is_name_char is_named n (all_continue n h)

-- Names taken apart

abbrev pub begins_name : List ℕ → Bool
begins_name [] = false
begins_name (c ∷ cs) = begins_part c

pub record Named (n : List ℕ) (p : Parts) : Type 0 where
  pub apart : parts n ≡ Some p
  pub named : list_all is_name_char n ≡ true
  pub begins : begins_name n ≡ true

begins_of : (n : List ℕ) → is_part n ≡ true → begins_name n ≡ true
begins_of [] h = cc
begins_of (c ∷ cs) h = (and_true (begins_part c) (list_all continues_part cs) h).0

cut : (a b : List ℕ) (k : ℕ) → prefix_len (λ c. not (nat_eq c 58)) (a ++ b) ≡ k → k ≡ length a → parts (a ++ b) ≡ parts_before a b
cut a b k e f =
    let g : prefix_len (λ c. not (nat_eq c 58)) (a ++ b) ≡ length a = e ∙ f in
    ap (λ k. parts_before (take k (a ++ b)) (drop k (a ++ b))) g ∙ ap₂ parts_before (take-append_seam a b) (drop-append_seam a b)

one_part : (n : List ℕ) → is_part n ≡ true → parts n ≡ Some (record { prefix = []; local = n })
one_part n h =
    let e = whole_run (λ c. not (nat_eq c 58)) n [] (all_imply continues_part (λ c. not (nat_eq c 58)) no_colon n (all_continue n h)) refl in
    let f = cut n [] (length n) e refl in
    sym (ap parts (append-nil n)) ∙ (f ∙ ap (λ b. cond b (Some (record { prefix = []; local = n })) None) h)

two_parts : (p n : List ℕ) → is_part p ≡ true → is_part n ≡ true → parts (p ++ 58 ∷ n) ≡ Some (record { prefix = p; local = n })
two_parts p n h k =
    let e = whole_run (λ c. not (nat_eq c 58)) p (58 ∷ n) (all_imply continues_part (λ c. not (nat_eq c 58)) no_colon p (all_continue p h)) refl in
    let f = cut p (58 ∷ n) (length p) e refl in
    f ∙ ap (λ b. cond b (Some (record { prefix = p; local = n })) None) (both_true (is_part p) (is_part n) h k)

pub named_alone : (n : List ℕ) → is_part n ≡ true → Named n (record { prefix = []; local = n })
named_alone n h = record { apart = one_part n h; named = all_named n h; begins = begins_of n h }

begins_before : (p n : List ℕ) → begins_name p ≡ true → begins_name (p ++ n) ≡ true
begins_before [] n h = cc
begins_before (c ∷ p) n h = h

pub named_within : (p n : List ℕ) → is_part p ≡ true → is_part n ≡ true → Named (p ++ 58 ∷ n) (record { prefix = p; local = n })
named_within p n h k = record {
  apart = two_parts p n h k;
  named = all_both is_name_char p (58 ∷ n) (all_named p h) (all_named n k);
  begins = begins_before p (58 ∷ n) (begins_of p h);
}

-- a name is read up to what is none of it
pub name_reads : (n : List ℕ) (p : Parts) (rest : List ℕ) → Named n p → stops is_name_char rest ≡ true → name_at (n ++ rest) ≡ Some (n, rest)
name_reads n p rest h k =
    let e = whole_run is_name_char n rest h.named k in
    ap (λ k. name_before (take k (n ++ rest)) (drop k (n ++ rest))) e ∙ (ap₂ name_before (take-append_seam n rest) (drop-append_seam n rest)
    ∙ ap (λ o. o >>= (λ p. Some (n, rest))) h.apart)

not_white : (c : ℕ) → begins_part c ≡ true → is_white c ≡ false
not_white c h = by_case (nat_eq c 32) (nat_eq c 9) (nat_eq c 10) (nat_eq c 13) (differs begins_part 32 c refl h) (differs begins_part 9 c refl h) (differs begins_part 10 c refl h) (differs begins_part 13 c refl h)
  where
    by_case : (x y z w : Bool) → x ≡ false → y ≡ false → z ≡ false → w ≡ false → (x || y || z || w) ≡ false
    by_case x y z w a b d e = rw (a, b, d, e) refl

pub name_stands : (n rest : List ℕ) → begins_name n ≡ true → behind_white (n ++ rest) ≡ n ++ rest
name_stands [] rest h = cc
name_stands (c ∷ n) rest h = ap (λ b. cond b (behind_white (n ++ rest)) (c ∷ (n ++ rest))) (not_white c h)

-- Prefixes

pub record IsPrefix (p : List ℕ) : Type 0 where
  pub part : is_part p ≡ true
  pub low : list_all is_low p ≡ true
  pub no_xmlns : same p (codes "xmlns") ≡ false
  pub some : is_empty p ≡ false

digits : (n : ℕ) → n < 2 ^ 64 → list_all is_digit (decimal n) ≡ true
digits n h = decimal_by_steps (λ n ds. list_all is_digit ds ≡ true) one more n h
  where
    digit : (k : ℕ) → k < 10 → is_digit (48 + k) ≡ true
    digit k l = both_true (nat_le 48 (48 + k)) (nat_le (48 + k) 57) (le-leb 48 (48 + k) (omega arith)) (le-leb (48 + k) 57 (omega arith))

    one : (k : ℕ) → k < 10 → list_all is_digit ((48 + k) ∷ []) ≡ true
    one k l = both_true (is_digit (48 + k)) true (digit k l) refl

    more : (k : ℕ) (ds : List ℕ) → 10 ≤ k → list_all is_digit ds ≡ true → list_all is_digit (ds ++ ((48 + k % 10) ∷ [])) ≡ true
    more k ds l e = all_both is_digit ds ((48 + k % 10) ∷ []) e (one (k % 10) (omega arith))

digit_continues : (c : ℕ) → is_digit c ≡ true → continues_part c ≡ true
digit_continues c h = by_case (begins_part c) (is_digit c) (nat_eq c 45) (nat_eq c 46) h
  where
    by_case : (x y z w : Bool) → y ≡ true → (x || y || z || w) ≡ true
    by_case true y z w e = refl
    by_case false true z w e = refl
    by_case false false z w e = cc

-- XML 1.0 characters from 32 up to the surrogates
pub middle_char : (c : ℕ) → 32 ≤ c → c ≤ 0xD7FF → is_xml_char c ≡ true
middle_char c l h = by_case (nat_eq c 0x9) (nat_eq c 0xA) (nat_eq c 0xD) (nat_le 0x20 c) (nat_le c 0xD7FF) (nat_le 0xE000 c) (nat_le c 0xFFFD) (nat_le 0x10000 c) (nat_le c 0x10FFFF) (le-leb 32 c l) (le-leb c 0xD7FF h)
  where
    by_case : (a b d e f g i j k : Bool) → e ≡ true → f ≡ true → (a || b || d || (e && f) || (g && i) || (j && k)) ≡ true
    by_case true b d e f g i j k p q = refl
    by_case false true d e f g i j k p q = refl
    by_case false false true e f g i j k p q = refl
    by_case false false false e f g i j k p q = rw (p, q) refl

low_char : (c : ℕ) → 32 ≤ c → c < 128 → is_low c ≡ true
low_char c l h =
    let e : nat_eq c 13 ≡ false = false_unless (nat_eq c 13) (λ k. let i = equal_numbers c 13 k in absurd (omega arith)) in
    both_true (nat_lt c 128) (is_written c) (lt-ltb c 128 h) (both_true (is_xml_char c) (not (nat_eq c 13)) (middle_char c l (omega arith)) (not_false (nat_eq c 13) e))

digit_low : (c : ℕ) → is_digit c ≡ true → is_low c ≡ true
digit_low c h =
    let (a, b) = and_true (nat_le 48 c) (nat_le c 57) h in
    let l = leb-true 48 c a in
    let k = leb-true c 57 b in
    low_char c (omega arith) (omega arith)

number_prefix : (n : ℕ) → n < 2 ^ 64 → IsPrefix (codes "n" ++ decimal n)
number_prefix n h =
    let d = digits n h in
    record { part = all_imply is_digit continues_part digit_continues (decimal n) d; low = all_imply is_digit is_low digit_low (decimal n) d; no_xmlns = refl; some = refl }

pub is_prefix : (numbered : List (List ℕ)) → length numbered < 2 ^ 63 → (s : List ℕ) → IsPrefix (prefix_of numbered s)
is_prefix numbered small s =
    let a : position_or_len (bytes_eq s) numbered ≤ length numbered = prefix_len-le-length (λ x. not (bytes_eq s x)) numbered in
    by_case (bytes_eq s soap) (bytes_eq s addressing) (bytes_eq s coordination) (bytes_eq s transaction) (bytes_eq s work) (bytes_eq s xml) (position_or_len (bytes_eq s) numbered + 1) (omega arith)
  where
    by_case : (b1 b2 b3 b4 b5 b6 : Bool) (n : ℕ) → n < 2 ^ 64
        → IsPrefix (unwrap_or (cond b1 (Some (codes "s")) (cond b2 (Some (codes "wsa")) (cond b3 (Some (codes "wscoor")) (cond b4 (Some (codes "wsat")) (cond b5 (Some (codes "work")) (cond b6 (Some (codes "xml")) None))))))
        (codes "n" ++ decimal n))
    by_case true b2 b3 b4 b5 b6 n h = record { part = refl; low = refl; no_xmlns = refl; some = refl }
    by_case false true b3 b4 b5 b6 n h = record { part = refl; low = refl; no_xmlns = refl; some = refl }
    by_case false false true b4 b5 b6 n h = record { part = refl; low = refl; no_xmlns = refl; some = refl }
    by_case false false false true b5 b6 n h = record { part = refl; low = refl; no_xmlns = refl; some = refl }
    by_case false false false false true b6 n h = record { part = refl; low = refl; no_xmlns = refl; some = refl }
    by_case false false false false false true n h = record { part = refl; low = refl; no_xmlns = refl; some = refl }
    by_case false false false false false false n h = number_prefix n h

-- The parts of a name that can be spelled

part_continues : (c : ℕ) → spellable.is_part_char c ≡ true → continues_part c ≡ true
part_continues c h = by_case (nat_le 97 c && nat_le c 122) (nat_le 65 c && nat_le c 90) (nat_le 48 c && nat_le c 57) (nat_eq c 95) (nat_eq c 45) (nat_eq c 46) (nat_le 128 c) (is_xml_char c) h
  where
    by_case : (low up digit line dash dot high xml : Bool) → (low || up || digit || line || dash || dot || (high && xml)) ≡ true → (((up || low) || line || high) || digit || dash || dot) ≡ true
    by_case low true digit line dash dot high xml e = refl
    by_case true false digit line dash dot high xml e = refl
    by_case false false digit true dash dot high xml e = refl
    by_case false false digit false dash dot true xml e = refl
    by_case false false true false dash dot false xml e = refl
    by_case false false false false true dot false xml e = refl
    by_case false false false false false true false xml e = refl
    by_case false false false false false false false xml e = cc

-- a character of a name is one of a document, and no CR
part_written : (c : ℕ) → spellable.is_part_char c ≡ true → is_written c ≡ true
part_written c h = by_case (nat_le 97 c && nat_le c 122) (nat_le 65 c && nat_le c 90) (nat_le 48 c && nat_le c 57) (nat_eq c 95) (nat_eq c 45) (nat_eq c 46) (nat_le 128 c) (is_xml_char c) refl refl refl refl refl refl refl refl h
  where
    between : (lo hi : ℕ) → 32 ≤ lo → hi < 128 → (nat_le lo c && nat_le c hi) ≡ true → is_written c ≡ true
    between lo hi a b e =
        let (f, g) = and_true (nat_le lo c) (nat_le c hi) e in
        let l = leb-true lo c f in
        let k = leb-true c hi g in
        (and_true (nat_lt c 128) (is_written c) (low_char c (omega arith) (omega arith))).1

    exactly : (k : ℕ) → 32 ≤ k → k < 128 → nat_eq c k ≡ true → is_written c ≡ true
    exactly k a b e = let i = equal_numbers c k e in (and_true (nat_lt c 128) (is_written c) (low_char c (omega arith) (omega arith))).1

    beyond : nat_le 128 c ≡ true → is_xml_char c ≡ true → is_written c ≡ true
    beyond e f =
        let l = leb-true 128 c e in
        both_true (is_xml_char c) (not (nat_eq c 13)) f (not_false (nat_eq c 13) (false_unless (nat_eq c 13) (λ k. let i = equal_numbers c 13 k in absurd (omega arith))))

    by_case : (low up digit line dash dot high xml : Bool) → (nat_le 97 c && nat_le c 122) ≡ low → (nat_le 65 c && nat_le c 90) ≡ up → (nat_le 48 c && nat_le c 57) ≡ digit → nat_eq c 95 ≡ line → nat_eq c 45 ≡ dash
        → nat_eq c 46 ≡ dot → nat_le 128 c ≡ high → is_xml_char c ≡ xml → (low || up || digit || line || dash || dot || (high && xml)) ≡ true → is_written c ≡ true
    by_case true up digit line dash dot high xml a b d e f g i j k = between 97 122 (omega arith) (omega arith) a
    by_case false true digit line dash dot high xml a b d e f g i j k = between 65 90 (omega arith) (omega arith) b
    by_case false false true line dash dot high xml a b d e f g i j k = between 48 57 (omega arith) (omega arith) d
    by_case false false false true dash dot high xml a b d e f g i j k = exactly 95 (omega arith) (omega arith) e
    by_case false false false false true dot high xml a b d e f g i j k = exactly 45 (omega arith) (omega arith) f
    by_case false false false false false true high xml a b d e f g i j k = exactly 46 (omega arith) (omega arith) g
    by_case false false false false false false true true a b d e f g i j k = beyond i j
    by_case false false false false false false true false a b d e f g i j k = cc
    by_case false false false false false false false xml a b d e f g i j k = cc

begins_first : (c : ℕ) → continues_part c ≡ true → ((c < 128) → not ((nat_le 48 c && nat_le c 57) || nat_eq c 45 || nat_eq c 46) ≡ true) → begins_part c ≡ true
begins_first c h k = by_case (nat_le 128 c) refl
  where
    up_to : (low digit dash dot : Bool) → (low || digit || dash || dot) ≡ true → not (digit || dash || dot) ≡ true → low ≡ true
    up_to true digit dash dot e f = refl
    up_to false true dash dot e f = cc
    up_to false false true dot e f = cc
    up_to false false false true e f = cc
    up_to false false false false e f = cc

    high : (x y z : Bool) → z ≡ true → (x || y || z) ≡ true
    high true y z e = refl
    high false true z e = refl
    high false false z e = e

    by_case : (b : Bool) → nat_le 128 c ≡ b → begins_part c ≡ true
    by_case true e = high (is_letter c) (nat_eq c 95) (nat_le 128 c) e
    by_case false e = up_to (begins_part c) (is_digit c) (nat_eq c 45) (nat_eq c 46) h (k (leb-false 128 c e))

pub record IsLocal (bytes : List ℕ) : Type 0 where
  pub part : is_part (chars bytes) ≡ true
  pub written : Written bytes (chars bytes)

pub is_local : (bytes : List ℕ) → spellable.is_part bytes ≡ true → IsLocal bytes
is_local bytes h =
    let (a, b) = and_true (spellable.begins_part bytes) (spellable.has_part_chars bytes) h in
    let (u, d) = and_true (is_utf8 bytes) (list_all spellable.is_part_char (chars bytes)) b in
    let utf8 = IsUtf8-from_is_utf8 bytes u in
    let e = encodes-chars bytes utf8 in
    record {
      part = first bytes (chars bytes) e a (all_imply spellable.is_part_char continues_part part_continues (chars bytes) d);
      written = record { encoded = e; fine = all_imply spellable.is_part_char is_written part_written (chars bytes) d };
    }
  where
    head_byte : (b : ℕ) (bs : List ℕ) (c : ℕ) → b ≡ c → spellable.begins_part (b ∷ bs) ≡ true → not ((nat_le 48 c && nat_le c 57) || nat_eq c 45 || nat_eq c 46) ≡ true
    head_byte b bs c e h = subst (λ v. not ((nat_le 48 v && nat_le v 57) || nat_eq v 45 || nat_eq v 46) ≡ true) e h

    first : (bytes cs : List ℕ) → encode_utf8_all cs ≡ bytes → spellable.begins_part bytes ≡ true → list_all continues_part cs ≡ true → is_part cs ≡ true
    first [] cs e a d = cc
    first (b ∷ bs) [] e a d = cc
    first (b ∷ bs) (c ∷ cs) e a d =
        let (f, g) = and_true (continues_part c) (list_all continues_part cs) d in
        both_true (begins_part c) (list_all continues_part cs) (begins_first c f (λ l. head_byte b bs c (byte_from_char (b ∷ bs) (encode_utf8_all cs) c (sym e) l) a)) g
