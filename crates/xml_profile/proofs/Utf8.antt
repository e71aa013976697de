-- What the writer adds is UTF-8 where the texts are that it is made of.
use lib.Utf8.{encode, scalar, scalars, low_scalar}
use Rattle.std.proofs.Common.{◌≡◌, refl, sym, ap, ap₂, subst, ◌∙◌, arith, ℕ, ◌+◌, ◌/◌, ◌%◌, ◌≤◌, ◌<◌, List, [], ◌∷◌, ◌++◌, append-nil, append_assoc, Bool, true, false, cond, ◌&&◌, nat_eq, nat_le, ltb, codes, encode_utf8, encode_utf8_all, IsUtf8, Result, Ok, Err, OnOk, OnErr, take, drop, drop-cons, get_or, add-one, length}
use Rattle.std.specs.List.{list_all, flat_map}
use Rattle.std.proofs.lemmas.Str.{IsUtf8-append, IsUtf8-nil, IsUtf8-encode, encode_ascii}
use Rattle.std.proofs.lemmas.List.{append_cancel_left}
use Rattle.std.proofs.Math.Seq.{take-append_seam}
use Rattle.std.proofs.lemmas.List.Concat.{flat_map-append}
use Rattle.std.proofs.lemmas.Bool.{le-leb, leb-true, ltb-true, ltb-false, eqb-true}
use Rattle.xml_profile.specs.Extensions.{AddsText}
use Rattle.xml_profile.specs.CanonicalText.{text_byte, value_byte, text_text, value_text}

pub none : (a : List ℕ) → AddsText a a
unfolding AddsText
none a = record { more = []; is = sym (append-nil a); utf8 = IsUtf8-nil }

by : (a b x : List ℕ) → b ≡ a ++ x → IsUtf8 x → AddsText a b
unfolding AddsText
by a b x e u = record { more = x; is = e; utf8 = u }

pub through : (a b c : List ℕ) → AddsText a b → AddsText b c → AddsText a c
unfolding AddsText
through a b c h k = record { more = h.more ++ k.more; is = k.is ∙ (ap (λ x. x ++ k.more) h.is ∙ append_assoc a h.more k.more); utf8 = IsUtf8-append h.more k.more h.utf8 k.utf8 }

added : (a b x : List ℕ) → b ≡ a ++ x → AddsText a b → IsUtf8 x
unfolding AddsText
added a b x e h = subst IsUtf8 (append_cancel_left a h.more x (sym h.is ∙ e)) h.utf8

pub added_if : {E : Type 0} (r : Result (Unit {0}) E) (a b x : List ℕ) → OnOk r (b ≡ a ++ x) → AddsText a b → OnOk r (IsUtf8 x)
added_if (Ok y) a b x e h = added a b x e h
added_if (Err y) a b x e h = tt

-- what was there before is there where what was added is cut off
pub cut : (a b : List ℕ) → AddsText a b → take (length a) b ≡ a
unfolding AddsText
cut a b h = ap (take (length a)) h.is ∙ take-append_seam a h.more

split : (a b : Bool) → (a && b) ≡ true → (a ≡ true) × (b ≡ true)
split true b h = (refl, h)
split false b h = (cc, cc)

other : (b : Bool) → (b ≡ true → ⊥) → b ≡ false
other true h = absurd (h refl)
other false h = refl

-- a byte above ASCII is none of the escaped ones
higher : (k c : ℕ) → k < 128 → 128 ≤ c → nat_eq c k ≡ false
higher k c h l = other (nat_eq c k) (λ e. let same = eqb-true c k e in absurd (omega arith))

text_high : (b : ℕ) → 128 ≤ b → text_byte b ≡ b ∷ []
text_high b h = rw (higher 38 b (omega arith) h, higher 60 b (omega arith) h, higher 62 b (omega arith) h, higher 13 b (omega arith) h) refl

value_high : (b : ℕ) → 128 ≤ b → value_byte b ≡ b ∷ []
value_high b h = rw (higher 34 b (omega arith) h, higher 9 b (omega arith) h, higher 10 b (omega arith) h) (text_high b h)

ascii : (c : ℕ) → c < 128 → IsUtf8 (c ∷ [])
ascii c h = subst IsUtf8 (encode_ascii c h) (IsUtf8-encode c (low_scalar c (omega (arith, h))))

-- an ASCII character and what follows it
low : (c : ℕ) (rest : List ℕ) → ltb c 128 ≡ true → IsUtf8 rest → IsUtf8 (c ∷ rest)
low c rest l u = IsUtf8-append (c ∷ []) rest (ascii c (ltb-true c 128 l)) u

all_ascii : (bytes : List ℕ) → list_all (λ c. ltb c 128) bytes ≡ true → IsUtf8 bytes
all_ascii [] h = IsUtf8-nil
all_ascii (c ∷ cs) h = let (l, k) = split (ltb c 128) (list_all (λ c. ltb c 128) cs) h in low c cs l (all_ascii cs k)

text_low : (c : ℕ) → c < 128 → IsUtf8 (text_byte c)
text_low c h = by_case (nat_eq c 38) (nat_eq c 60) (nat_eq c 62) (nat_eq c 13)
  where
    by_case : (a b d e : Bool) → IsUtf8 (cond a (codes "&amp;") (cond b (codes "&lt;") (cond d (codes "&gt;") (cond e (codes "&#13;") (c ∷ [])))))
    by_case true b d e = all_ascii (codes "&amp;") refl
    by_case false true d e = all_ascii (codes "&lt;") refl
    by_case false false true e = all_ascii (codes "&gt;") refl
    by_case false false false true = all_ascii (codes "&#13;") refl
    by_case false false false false = ascii c h

value_low : (c : ℕ) → c < 128 → IsUtf8 (value_byte c)
value_low c h = by_case (nat_eq c 34) (nat_eq c 9) (nat_eq c 10)
  where
    by_case : (a b d : Bool) → IsUtf8 (cond a (codes "&quot;") (cond b (codes "&#9;") (cond d (codes "&#10;") (text_byte c))))
    by_case true b d = all_ascii (codes "&quot;") refl
    by_case false true d = all_ascii (codes "&#9;") refl
    by_case false false true = all_ascii (codes "&#10;") refl
    by_case false false false = text_low c h

next_high : (c : ℕ) → nat_le 128 (128 + c % 64) ≡ true
next_high c = le-leb 128 (128 + c % 64) (omega arith)

high_bytes : (c : ℕ) → 128 ≤ c → list_all (nat_le 128) (encode_utf8 c) ≡ true
unfolding encode
high_bytes c h = by_size (ltb c 128) (ltb c 2048) (ltb c 65536) refl
  where
    by_size : (x y z : Bool) → ltb c 128 ≡ x → list_all (nat_le 128) (cond x (c ∷ []) (cond y ((192 + c / 64) ∷ (128 + c % 64) ∷ [])
        (cond z ((224 + c / 4096) ∷ (128 + c / 64 % 64) ∷ (128 + c % 64) ∷ []) ((240 + c / 262144) ∷ (128 + c / 4096 % 64) ∷ (128 + c / 64 % 64) ∷ (128 + c % 64) ∷ [])))) ≡ true
    by_size true y z e = let l = ltb-true c 128 e in absurd (omega arith)
    by_size false true z e = rw (le-leb 128 (192 + c / 64) (omega arith), next_high c) refl
    by_size false false true e = rw (le-leb 128 (224 + c / 4096) (omega arith), next_high (c / 64), next_high c) refl
    by_size false false false e = rw (le-leb 128 (240 + c / 262144) (omega arith), next_high (c / 4096), next_high (c / 64), next_high c) refl

-- an escape of bytes is one of characters
module _ (escape : ℕ → List ℕ) (low : (c : ℕ) → c < 128 → IsUtf8 (escape c)) (high : (b : ℕ) → 128 ≤ b → escape b ≡ b ∷ []) where
  all_high : (bs : List ℕ) → list_all (nat_le 128) bs ≡ true → flat_map escape bs ≡ bs
  all_high [] h = refl
  all_high (b ∷ bs) h = let (l, k) = split (nat_le 128 b) (list_all (nat_le 128) bs) h in ap₂ (λ u v. u ++ v) (high b (leb-true 128 b l)) (all_high bs k)

  one_escaped : (c : ℕ) → scalar c ≡ true → IsUtf8 (flat_map escape (encode_utf8 c))
  one_escaped c s = by_size (ltb c 128) refl
    where
      by_size : (b : Bool) → ltb c 128 ≡ b → IsUtf8 (flat_map escape (encode_utf8 c))
      by_size true e =
          let l = ltb-true c 128 e in
          subst IsUtf8 (sym (ap (flat_map escape) (encode_ascii c l) ∙ append-nil (escape c))) (low c l)
      by_size false e = subst IsUtf8 (sym (all_high (encode_utf8 c) (high_bytes c (ltb-false c 128 e)))) (IsUtf8-encode c s)

  each_escaped : (cs : List ℕ) → scalars cs ≡ true → IsUtf8 (flat_map escape (encode_utf8_all cs))
  each_escaped [] s = IsUtf8-nil
  each_escaped (c ∷ cs) s =
      let (one, rest) = split (scalar c) (scalars cs) s in
      subst IsUtf8 (sym (flat_map-append escape (encode_utf8 c) (encode_utf8_all cs)))
      (IsUtf8-append (flat_map escape (encode_utf8 c)) (flat_map escape (encode_utf8_all cs)) (one_escaped c one) (each_escaped cs rest))

  escaped : (bytes : List ℕ) → IsUtf8 bytes → IsUtf8 (flat_map escape bytes)
  escaped bytes u = subst (λ b. IsUtf8 (flat_map escape b)) u.1.1 (each_escaped u.0 u.1.0)

-- all of a text was added, or nothing
module _ {E : Type 0} (r : Result (Unit {0}) E) (a b x : List ℕ) where
  whole : IsUtf8 x → OnOk r (b ≡ a ++ x) → OnErr r (b ≡ a) → AddsText a b
  whole u h k = by_case r h k
    where
      by_case : (q : Result (Unit {0}) E) → OnOk q (b ≡ a ++ x) → OnErr q (b ≡ a) → AddsText a b
      by_case (Ok y) h k = by a b x h u
      by_case (Err e) h k = subst (AddsText a) (sym k) (none a)

pub one_by : {E : Type 0} (r : Result (Unit {0}) E) (a b bytes : List ℕ) → IsUtf8 bytes → OnOk r (b ≡ a ++ bytes) → OnErr r (b ≡ a) → AddsText a b
one_by r a b bytes u = whole r a b bytes u

pub text_by : {E : Type 0} (r : Result (Unit {0}) E) (a b bytes : List ℕ) → IsUtf8 bytes → OnOk r (b ≡ a ++ text_text bytes) → OnErr r (b ≡ a) → AddsText a b
text_by r a b bytes u = whole r a b (text_text bytes) (escaped text_byte text_low text_high bytes u)

pub value_by : {E : Type 0} (r : Result (Unit {0}) E) (a b bytes : List ℕ) → IsUtf8 bytes → OnOk r (b ≡ a ++ value_text bytes) → OnErr r (b ≡ a) → AddsText a b
value_by r a b bytes u = whole r a b (value_text bytes) (escaped value_byte value_low value_high bytes u)

-- a loop over a list writes item by item
pub written : {X : Type 0} (F : List X → List ℕ) (f : X → List ℕ) → ((x : X) (r : List X) → F (x ∷ r) ≡ f x ++ F r)
    → (xs : List X) (i : ℕ) (x d : X) (before after all : List ℕ) → i < length xs → x ≡ get_or xs i d → after ≡ before ++ f x
    → before ++ F (drop i xs) ≡ all → after ++ F (drop (i + 1) xs) ≡ all
written F f cons xs i x d before after all l e m h =
    let next : drop i xs ≡ x ∷ drop (i + 1) xs = drop-cons xs i d l ∙ ap₂ (λ y k. y ∷ drop k xs) (sym e) (sym (add-one i)) in
    ap (λ b. b ++ F (drop (i + 1) xs)) m ∙ append_assoc before (f x) (F (drop (i + 1) xs))
    ∙ ap (λ b. before ++ b) (sym (ap F next ∙ cons x (drop (i + 1) xs))) ∙ h
