-- What is read stands there as it is written.
use Rattle.std.proofs.Common.{ℕ, List, length, ◌≡◌, ◌++◌, ◌<◌, ◌≤◌, ◌^◌, ◌&&◌, ◌⊎◌, inl, inr, Bool, true, false, refl, sym, ◌∙◌, ap, subst, take, drop, arith, rules, nat_le, nat_lt, Option, Some, None, cond}
use Rattle.std.specs.Int.{Width, from_be_bytes, to_be_bytes, w16, w32}
use Rattle.std.specs.Str.{bytes_eq, IsUtf8, is_utf8}
use Rattle.std.proofs.lemmas.List.{append_assoc, length-take, take-append-drop}
use Rattle.std.proofs.lemmas.Slice.Eq.{bytes_eq-Decides}
use Rattle.std.proofs.lemmas.Str.{IsUtf8-from_is_utf8}
use Rattle.at_base.specs.Numbers.{Numbers}
use Rattle.record_bytes.specs.Bytes.{id_bytes, text_bytes}
use Rattle.record_bytes.specs.RecordReaders.{Taken, id_if, id_in, letters_in, number_in, short_in, text_in, word_in, ◌>>=◌}

-- the value, and what stands behind it
abbrev pub taken : {A : Type 0} → A → List ℕ → Taken A
taken x rest = Some (x, rest)

abbrev pub nothing : {A : Type 0} → Taken A
nothing = None

abbrev value : {A : Type 0} → A → Option A → A
value d (Some x) = x
value d None = d

pub some_is : {A : Type 0} (x y : A) → Some x ≡ Some y → x ≡ y
some_is x y e = ap (value x) e

pub same : {A : Type 0} (x y : A) (r s : List ℕ) → taken x r ≡ taken y s → (x ≡ y) × (r ≡ s)
same x y r s e = let k = some_is (x, r) (y, s) e in ((ap (λ p. p.0) k), (ap (λ p. p.1) k))

-- what a row gives, its first gave something of
pub parts : {A B : Type 0} (o : Option A) (next : A → Option B) (y : B) → (o >>= next) ≡ Some y → (x : A) × (o ≡ Some x) × (next x ≡ Some y)
parts None next y e = absurd cc
parts (Some x) next y e = (x, refl, e)

pub either : {A : Type 0} (b : Bool) (x y o : A) → cond b x y ≡ o → ((b ≡ true) × (x ≡ o)) ⊎ ((b ≡ false) × (y ≡ o))
either true x y o e = inl (refl, e)
either false x y o e = inr (refl, e)

both : (a b : Bool) → (a && b) ≡ true → (a ≡ true) × (b ≡ true)
both true b e = (refl, e)
both false b e = absurd cc

pub record IsNumber (n bound : ℕ) (spelled rest bytes : List ℕ) : Type 0 where
  pub fits : n < bound
  pub is : bytes ≡ spelled ++ rest

number_spelled : (w : Width) (size bound n : ℕ) (bytes rest : List ℕ) → number_in w size bound bytes ≡ Some (n, rest) → IsNumber n bound (to_be_bytes w n) rest bytes
number_spelled w size bound n bytes rest e =
    let m = from_be_bytes w (take size bytes) in
    by_case (either (nat_lt m bound && bytes_eq (to_be_bytes w m) (take size bytes)) (Some (m, drop size bytes)) None (Some (n, rest)) e) where
      by_case : let m = from_be_bytes w (take size bytes) in
          (((nat_lt m bound && bytes_eq (to_be_bytes w m) (take size bytes)) ≡ true) × (taken m (drop size bytes) ≡ taken n rest))
          ⊎ (((nat_lt m bound && bytes_eq (to_be_bytes w m) (take size bytes)) ≡ false) × (nothing ≡ taken n rest))
          → IsNumber n bound (to_be_bytes w n) rest bytes
      by_case (inl h) =
          let m = from_be_bytes w (take size bytes) in
          let k = same m n (drop size bytes) rest h.1 in
          let t = both (nat_lt m bound) (bytes_eq (to_be_bytes w m) (take size bytes)) h.0 in
          let less : m < bound = search (rules, t.0) in
          let front : to_be_bytes w m ≡ take size bytes = (bytes_eq-Decides (to_be_bytes w m) (take size bytes)).0 t.1 in
          record {
            fits = subst (λ x. x < bound) k.0 less;
            is = sym (take-append-drop size bytes) ∙ (λ i. sym front i ++ k.1 i) ∙ ap (λ x. to_be_bytes w x ++ rest) k.0;
          }
      by_case (inr h) = absurd cc

pub short_spelled : (bytes : List ℕ) (n : ℕ) (rest : List ℕ) → short_in bytes ≡ Some (n, rest) → IsNumber n (2 ^ 16) (to_be_bytes w16 n) rest bytes
unfolding short_in
short_spelled bytes n rest e = number_spelled w16 2 (2 ^ 16) n bytes rest e

pub word_spelled : (bytes : List ℕ) (n : ℕ) (rest : List ℕ) → word_in bytes ≡ Some (n, rest) → IsNumber n (2 ^ 32) (to_be_bytes w32 n) rest bytes
unfolding word_in
word_spelled bytes n rest e = number_spelled w32 4 (2 ^ 32) n bytes rest e

abbrev numbers : ℕ → ℕ → Numbers
numbers i c = record { incarnation = i; counter = c }

id_parts : (i c : ℕ) (more : List ℕ) (id : Numbers) (rest : List ℕ) → id_if i c more ≡ Some (id, rest) → (numbers i c ≡ id) × (more ≡ rest)
id_parts i c more id rest e = by_case (either (nat_le 1 i && nat_le 1 c) (Some (record { incarnation = i; counter = c }, more)) None (Some (id, rest)) e) where
  by_case : (((nat_le 1 i && nat_le 1 c) ≡ true) × (taken (numbers i c) more ≡ taken id rest))
      ⊎ (((nat_le 1 i && nat_le 1 c) ≡ false) × (nothing ≡ taken id rest)) → (numbers i c ≡ id) × (more ≡ rest)
  by_case (inl h) = same _ _ _ _ h.1
  by_case (inr h) = absurd cc

pub id_spelled : (bytes : List ℕ) (id : Numbers) (rest : List ℕ) → id_in bytes ≡ Some (id, rest) → bytes ≡ id_bytes id ++ rest
unfolding id_in
id_spelled bytes id rest e =
    let (i, first, e1) = parts (word_in bytes) (λ x. word_in x.1 >>= (λ y. id_if x.0 y.0 y.1)) (id, rest) e in
    let (c, second, e2) = parts (word_in i.1) (λ y. id_if i.0 y.0 y.1) (id, rest) e1 in
    let k = id_parts i.0 c.0 c.1 id rest e2 in
    (word_spelled bytes i.0 i.1 first).is ∙ ap (λ b. to_be_bytes w32 i.0 ++ b) ((word_spelled i.1 c.0 c.1 second).is)
    ∙ sym (append_assoc (to_be_bytes w32 i.0) (to_be_bytes w32 c.0) c.1)
    ∙ (λ j. id_bytes (k.0 j) ++ k.1 j)

pub record IsSpelledText (text rest bytes : List ℕ) : Type 0 where
  pub utf8 : IsUtf8 text
  pub is : bytes ≡ text_bytes text ++ rest

letters_parts : (n : ℕ) (bytes text rest : List ℕ) → letters_in n bytes ≡ Some (text, rest) → (length text ≡ n) × IsUtf8 text × (bytes ≡ text ++ rest)
unfolding letters_in
letters_parts n bytes text rest e = by_case (either (nat_le n (length bytes)) (cond (is_utf8 (take n bytes)) (Some (take n bytes, drop n bytes)) None) None (Some (text, rest)) e) where
  inside : (nat_le n (length bytes) ≡ true) → ((is_utf8 (take n bytes) ≡ true) × (taken (take n bytes) (drop n bytes) ≡ taken text rest)) ⊎ ((is_utf8 (take n bytes) ≡ false) × (nothing ≡ taken text rest))
      → (length text ≡ n) × IsUtf8 text × (bytes ≡ text ++ rest)
  inside l (inl h) =
      let k = same (take n bytes) text (drop n bytes) rest h.1 in
      let m : n ≤ length bytes = search (rules, l) in
      let long = length-take n bytes in
      let size : length text ≡ n = sym (ap length k.0) ∙ omega (arith, long, m) in
      (size, subst IsUtf8 k.0 (IsUtf8-from_is_utf8 (take n bytes) h.0), sym (take-append-drop n bytes) ∙ (λ i. k.0 i ++ k.1 i))
  inside l (inr h) = absurd cc

  by_case : ((nat_le n (length bytes) ≡ true) × (cond (is_utf8 (take n bytes)) (taken (take n bytes) (drop n bytes)) nothing ≡ taken text rest)) ⊎ ((nat_le n (length bytes) ≡ false) × (nothing ≡ taken text rest))
      → (length text ≡ n) × IsUtf8 text × (bytes ≡ text ++ rest)
  by_case (inl h) = inside h.0 (either (is_utf8 (take n bytes)) (Some (take n bytes, drop n bytes)) None (Some (text, rest)) h.1)
  by_case (inr h) = absurd cc

pub text_spelled : (bytes text rest : List ℕ) → text_in bytes ≡ Some (text, rest) → IsSpelledText text rest bytes
unfolding text_in
text_spelled bytes text rest e =
    let (n, first, e1) = parts (short_in bytes) (λ x. letters_in x.0 x.1) (text, rest) e in
    let k = letters_parts n.0 n.1 text rest e1 in
    record {
      utf8 = k.1;
      is = (short_spelled bytes n.0 n.1 first).is ∙ (λ i. to_be_bytes w16 (sym k.0 i) ++ k.2 i) ∙ sym (append_assoc (to_be_bytes w16 (length text)) text rest);
    }
