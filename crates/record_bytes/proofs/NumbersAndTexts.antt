-- Numbers and texts in front of other bytes, and what a row of reads misses where its first does.
use Rattle.std.proofs.Common.{ℕ, List, length, ◌≡◌, ◌<◌, ◌≤◌, ◌^◌, ◌&&◌, Bool, true, false, refl, sym, ◌∙◌, ap, take, drop, arith, rules, nat_le, nat_lt, Some, None, Err, cond}
use Rattle.std.specs.Int.{Width, from_be_bytes, to_be_bytes, w16, w32}
use Rattle.std.specs.Str.{bytes_eq, IsUtf8, is_utf8}
use Rattle.std.proofs.lemmas.List.{length-take}
use Rattle.std.proofs.lemmas.Slice.Eq.{bytes_eq-Decides}
use Rattle.std.proofs.lemmas.Str.{is_utf8-from_IsUtf8, IsUtf8-from_is_utf8}
use Rattle.record_bytes.specs.declared.cursor.ReadFault.{ReadFault}
use Rattle.record_bytes.specs.declared.cursor.ReadFault.TheVariants.{NoMemory, Misspelled}
use Rattle.record_bytes.specs.RecordReaders.{Reads, Taken, letters_in, number_if, number_in, short_in, word_in, ◌>>=◌}

pub two : (n : ℕ) → length (to_be_bytes w16 n) ≡ 2
two n = search rules

pub four : (n : ℕ) → length (to_be_bytes w32 n) ≡ 4
four n = search rules

false_unless : (b : Bool) → ((b ≡ true) → ⊥) → b ≡ false
false_unless true h = absurd (h refl)
false_unless false h = refl

second_false : (a b : Bool) → b ≡ false → (a && b) ≡ false
second_false true b e = e
second_false false b e = refl

none_if : (w : Width) (size bound : ℕ) (bytes : List ℕ) → length bytes < size → ((n : ℕ) → length (to_be_bytes w n) ≡ size) → number_in w size bound bytes ≡ None
none_if w size bound bytes l long =
    let n = from_be_bytes w (take size bytes) in
    let unequal : bytes_eq (to_be_bytes w n) (take size bytes) ≡ false =
    false_unless _ (λ e. let k = ap length ((bytes_eq-Decides (to_be_bytes w n) (take size bytes)).0 e) in omega (arith, k, long n, length-take size bytes, l)) in
    ap (λ b. cond b (Some (n, drop size bytes)) None) (second_false (nat_lt n bound) _ unequal)

pub no_short : (bytes : List ℕ) → length bytes < 2 → short_in bytes ≡ None
unfolding short_in
no_short bytes l = none_if w16 2 (2 ^ 16) bytes l two

pub no_word : (bytes : List ℕ) → length bytes < 4 → word_in bytes ≡ None
unfolding word_in
no_word bytes l = none_if w32 4 (2 ^ 32) bytes l four

-- these bytes are the number's, and the number fits them
some_if : (w : Width) (bound n : ℕ) (front rest : List ℕ) → n < bound → to_be_bytes w n ≡ front → number_if w bound front rest n ≡ Some (n, rest)
some_if w bound n front rest l e =
    let less : nat_lt n bound ≡ true = search rules in
    λ i. cond (less i && (bytes_eq-Decides (to_be_bytes w n) front).1 e i) (Some (n, rest)) None

pub is_short : (bytes front rest : List ℕ) (n : ℕ) → front ≡ take 2 bytes → rest ≡ drop 2 bytes → n ≡ from_be_bytes w16 front → n < 2 ^ 16 → to_be_bytes w16 n ≡ front → short_in bytes ≡ Some (n, rest)
unfolding short_in
is_short bytes front rest n f r e l b =
    (ap (λ x. number_if w16 (2 ^ 16) (take 2 bytes) (drop 2 bytes) x) (ap (from_be_bytes w16) (sym f) ∙ sym e) ∙ some_if w16 (2 ^ 16) n (take 2 bytes) (drop 2 bytes) l (b ∙ f) ∙ ap (λ x. Some (n, x)) (sym r))

pub is_word : (bytes front rest : List ℕ) (n : ℕ) → front ≡ take 4 bytes → rest ≡ drop 4 bytes → n ≡ from_be_bytes w32 front → n < 2 ^ 32 → to_be_bytes w32 n ≡ front → word_in bytes ≡ Some (n, rest)
unfolding word_in
is_word bytes front rest n f r e l b =
    ap (λ x. number_if w32 (2 ^ 32) (take 4 bytes) (drop 4 bytes) x) (ap (from_be_bytes w32) (sym f) ∙ sym e) ∙ some_if w32 (2 ^ 32) n (take 4 bytes) (drop 4 bytes) l (b ∙ f) ∙ ap (λ x. Some (n, x)) (sym r)

-- a row misses what its first misses
pub lacks : {A B : Type 0} (first : Taken A) (next : A × List ℕ → Taken B) (fault : ReadFault) (rest more : List ℕ)
    → Reads {A = A} (Err fault) rest first → Reads {A = B} (Err fault) more (first >>= next)
lacks first next NoMemory rest more h = tt
lacks first next Misspelled rest more h = ap (λ o. o >>= next) h

pub not_long : (n : ℕ) (bytes : List ℕ) → length bytes < n → letters_in n bytes ≡ None
unfolding letters_in
not_long n bytes l =
    let more : nat_le n (length bytes) ≡ false = search rules in
    ap (λ b. cond b (cond (is_utf8 (take n bytes)) (Some (take n bytes, drop n bytes)) None) None) more

letters_if : (n : ℕ) (bytes : List ℕ) (b : Bool) → n ≤ length bytes → is_utf8 (take n bytes) ≡ b → letters_in n bytes ≡ cond b (Some (take n bytes, drop n bytes)) None
unfolding letters_in
letters_if n bytes b l e =
    let fits : nat_le n (length bytes) ≡ true = search rules in
    λ i. cond (fits i) (cond (e i) (Some (take n bytes, drop n bytes)) None) None

pub is_text : (n : ℕ) (bytes front rest text : List ℕ) → n ≤ length bytes → front ≡ take n bytes → rest ≡ drop n bytes → text ≡ front → IsUtf8 text → letters_in n bytes ≡ Some (text, rest)
is_text n bytes front rest text l f r t u =
    letters_if n bytes true l (ap is_utf8 (sym (t ∙ f)) ∙ is_utf8-from_IsUtf8 text u) ∙ (λ i. Some (sym (t ∙ f) i, sym r i))

pub no_text : (n : ℕ) (bytes front : List ℕ) → n ≤ length bytes → front ≡ take n bytes → (IsUtf8 front → ⊥) → letters_in n bytes ≡ None
no_text n bytes front l f u =
    letters_if n bytes false l (ap is_utf8 (sym f) ∙ false_unless (is_utf8 front) (λ e. u (IsUtf8-from_is_utf8 front e)))
