-- Words of a line, told apart by the bytes that stand between them.
use Rattle.std.proofs.Common.{ℕ, zero, suc, List, [], ◌∷◌, ◌++◌, ◌≡◌, ◌==◌, ◌+◌, ◌/◌, ◌%◌, ◌<◌, ◌≤◌, ◌^◌, Bool, true, false, refl, sym, ap, ◌∙◌, arith, nat_lt, length, get_or}
use Rattle.std.specs.Prelude.{decimal, if◌then◌else◌, ◌||◌}
use Rattle.std.specs.Fmt.{digit_glyph, digits, digits_onto}
use Rattle.std.specs.List.{list_any}
use Rattle.std.specs.Str.Parse.{digits_value}
use Rattle.std.proofs.lemmas.Bool.Decides.{nat_tests}
use Rattle.std.proofs.lemmas.Bool.{ltb-true, eq-eqb, eqb-true}
use Rattle.std.proofs.lemmas.Fmt.{decimal_is_IsNumeral_wide, length-decimal-le}
use native.Mathlib.Nat.{pow-suc}
use Rattle.at_base.specs.IdText.{IsId, hyphen, id_text}
use Rattle.at_base.specs.Numbers.{Numbers}

-- a text without this byte
abbrev pub Lacks : ℕ → List ℕ → Type 0
Lacks s text = list_any (λ b. b == s) text ≡ false

pub both_false : (a b : Bool) → (a || b) ≡ false → (a ≡ false) × (b ≡ false)
both_false true b e = absurd cc
both_false false b e = (refl, e)

pub heads : (x y : ℕ) (xs ys : List ℕ) → x ∷ xs ≡ y ∷ ys → (x ≡ y) × (xs ≡ ys)
heads x y xs ys e = (cc, cc)

itself : (x y : ℕ) → x ≡ y → (x == y) ≡ false → ⊥
itself x y e f = absurd (let t = eq-eqb x y e in cc)

-- texts that differ at this place
pub apart : (k : ℕ) (a b : List ℕ) → a ≡ b → (get_or a k 0 == get_or b k 0) ≡ false → ⊥
apart k a b e f = itself (get_or a k 0) (get_or b k 0) (ap (λ t. get_or t k 0) e) f

-- what stands before a byte that neither text before it has, and what behind
pub parted : (s : ℕ) (a b rest more : List ℕ) → Lacks s a → Lacks s b → a ++ s ∷ rest ≡ b ++ s ∷ more → (a ≡ b) × (rest ≡ more)
parted s [] [] rest more h k e = (refl, (heads s s rest more e).1)
parted s [] (y ∷ ys) rest more h k e =
    absurd (itself y s (sym (heads s y rest (ys ++ s ∷ more) e).0) (both_false (y == s) (list_any (λ c. c == s) ys) k).0)
parted s (x ∷ xs) [] rest more h k e =
    absurd (itself x s (heads x s (xs ++ s ∷ rest) more e).0 (both_false (x == s) (list_any (λ c. c == s) xs) h).0)
parted s (x ∷ xs) (y ∷ ys) rest more h k e =
    let (first, tail) = heads x y (xs ++ s ∷ rest) (ys ++ s ∷ more) e in
    let (same, left) =
    parted s xs ys rest more (both_false (x == s) (list_any (λ c. c == s) xs) h).1 (both_false (y == s) (list_any (λ c. c == s) ys) k).1 tail in
    ((λ i. first i ∷ same i), left)

pub lacks_both : (s : ℕ) (a b : List ℕ) → Lacks s a → Lacks s b → Lacks s (a ++ b)
lacks_both s [] b h k = k
lacks_both s (x ∷ xs) b h k =
    let p = both_false (x == s) (list_any (λ c. c == s) xs) h in
    rw p.0 (lacks_both s xs b p.1 k)

-- numbers

-- a byte that is no digit, and no small letter
abbrev pub IsNoDigit : ℕ → Type 0
IsNoDigit s = (d : ℕ) → (digit_glyph false d == s) ≡ false

no_digit : (s d : ℕ) → s < 48 → (b : Bool) → nat_lt d 10 ≡ b → ((if b then 48 + d else 87 + d) == s) ≡ false
no_digit s d low true e = grind (arith, nat_tests)
no_digit s d low false e = grind (arith, nat_tests)

pub below_digits : (s : ℕ) → s < 48 → IsNoDigit s
below_digits s low d = no_digit s d low (nat_lt d 10) refl

arrow : (d : ℕ) (b : Bool) → nat_lt d 10 ≡ b → ((if b then 48 + d else 87 + d) == 62) ≡ false
arrow d true e = grind (arith, nat_tests)
arrow d false e = grind (arith, nat_tests)

pub no_arrow : IsNoDigit 62
no_arrow d = arrow d (nat_lt d 10) refl

glyph_lacks : (s d : ℕ) (acc : List ℕ) → IsNoDigit s → Lacks s acc → Lacks s (digit_glyph false d ∷ acc)
glyph_lacks s d acc g h = rw (g d) h

digits_lack : (s k n : ℕ) (acc : List ℕ) → IsNoDigit s → Lacks s acc → Lacks s (digits_onto k 10 false n acc)
digits_lack s zero n acc g h = h
digits_lack s (suc k) n acc g h =
    by_last (digits_lack s k (n / 10) (digit_glyph false (n % 10) ∷ acc) g (glyph_lacks s (n % 10) acc g h)) (n / 10 == 0)
  where
    next : List ℕ
    next = digits_onto k 10 false (n / 10) (digit_glyph false (n % 10) ∷ acc)

    by_last : Lacks s next → (b : Bool) → Lacks s (if b then digit_glyph false (n % 10) ∷ acc else next)
    by_last more true = glyph_lacks s (n % 10) acc g h
    by_last more false = more

pub decimal_lacks : (s n : ℕ) → IsNoDigit s → Lacks s (decimal n)
unfolding digits
decimal_lacks s n g = digits_lack s 64 n [] g refl

pow_some : (k : ℕ) → 1 ≤ 10 ^ k
pow_some zero = omega arith
pow_some (suc k) = omega (arith, pow_some k, pow-suc 10 k)

-- a number of more digits than are printed
long : (k n : ℕ) (acc : List ℕ) → 10 ^ k ≤ n → length (digits_onto k 10 false n acc) ≡ k + length acc
long zero n acc h = omega arith
long (suc k) n acc h = by_last (long k (n / 10) (digit_glyph false (n % 10) ∷ acc) less) (n / 10 == 0) refl
  where
    less : 10 ^ k ≤ n / 10
    less = omega (arith, h, pow-suc 10 k)

    some : 1 ≤ 10 ^ k
    some = pow_some k

    next : List ℕ
    next = digits_onto k 10 false (n / 10) (digit_glyph false (n % 10) ∷ acc)

    by_last : length next ≡ k + suc (length acc) → (b : Bool) → (n / 10 == 0) ≡ b
        → length (if b then digit_glyph false (n % 10) ∷ acc else next) ≡ suc k + length acc
    by_last more true e = absurd (let z = eqb-true (n / 10) 0 e in omega (arith, less, some, z))
    by_last more false e = omega (arith, more)

decimal_long : (n : ℕ) → 10 ^ 64 ≤ n → length (decimal n) ≡ 64
unfolding digits
decimal_long n h = long 64 n [] h

-- a number of 64 bits is printed as no other
pub number_alone : (a b : ℕ) → a < 2 ^ 64 → decimal b ≡ decimal a → b ≡ a
number_alone a b small e = by_size (nat_lt b (10 ^ 64)) refl
  where
    by_size : (t : Bool) → nat_lt b (10 ^ 64) ≡ t → b ≡ a
    by_size true l =
        sym (decimal_is_IsNumeral_wide b (ltb-true b (10 ^ 64) l)).1 ∙ ap (digits_value 10) e ∙ (decimal_is_IsNumeral_wide a (omega (arith, small))).1
    by_size false l =
        absurd (let large : 10 ^ 64 ≤ b = grind (arith, nat_tests) in
        let more = decimal_long b large in
        let less = length-decimal-le 20 a (omega arith) (omega (arith, small)) small in
        let same = ap length e in
        omega (arith, more, less, same))

-- and so an id
pub id_alone : (a b : Numbers) → IsId a → id_text b ≡ id_text a → b ≡ a
id_alone a b h e =
    let (first, second) =
    parted hyphen (decimal b.incarnation) (decimal a.incarnation) (decimal b.counter) (decimal a.counter)
    (decimal_lacks hyphen b.incarnation (below_digits hyphen (omega arith))) (decimal_lacks hyphen a.incarnation (below_digits hyphen (omega arith))) e in
    let one = number_alone a.incarnation b.incarnation (omega (arith, h.incarnation_most)) first in
    let two = number_alone a.counter b.counter (omega (arith, h.counter_most)) second in
    λ i. record { incarnation = one i; counter = two i }

pub id_lacks : (s : ℕ) (id : Numbers) → IsNoDigit s → (hyphen == s) ≡ false → Lacks s (id_text id)
id_lacks s id g h =
    lacks_both s (decimal id.incarnation) (hyphen ∷ decimal id.counter) (decimal_lacks s id.incarnation g) (rw h (decimal_lacks s id.counter g))
