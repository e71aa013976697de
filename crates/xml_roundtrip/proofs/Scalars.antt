-- Characters of a document are scalar values.
use Rattle.std.proofs.Common.{◌≡◌, refl, ap, arith, ℕ, ◌<◌, ◌≤◌, List, [], ◌∷◌, Bool, true, false, cond, ◌&&◌, ◌||◌, nat_eq, nat_le, ltb, leb}
use lib.Utf8.{scalar, scalars}
use Rattle.std.specs.List.{list_all}
use Rattle.std.proofs.lemmas.Bool.{le-leb, leb-true, lt-ltb}
use Rattle.at_base.specs.Chars.{is_xml_char}
use Rattle.xml_roundtrip.proofs.Bools.{and_true, both_true, equal_numbers}

char_scalar : (c : ℕ) → is_xml_char c ≡ true → scalar c ≡ true
char_scalar c h = by_case (nat_eq c 0x9) (nat_eq c 0xA) (nat_eq c 0xD) (nat_le 0x20 c && nat_le c 0xD7FF) (nat_le 0xE000 c && nat_le c 0xFFFD) (nat_le 0x10000 c && nat_le c 0x10FFFF) refl refl refl refl refl refl h
  where
    low : c < 55296 → scalar c ≡ true
    low l = ap (λ b. cond b true (leb 57344 c && ltb c 1114112)) (lt-ltb c 55296 l)

    high : 57344 ≤ c → c < 1114112 → scalar c ≡ true
    high l k = by_first (ltb c 55296)
      where
        by_first : (b : Bool) → cond b true (leb 57344 c && ltb c 1114112) ≡ true
        by_first true = refl
        by_first false = both_true (leb 57344 c) (ltb c 1114112) (le-leb 57344 c l) (lt-ltb c 1114112 k)

    exactly : (k : ℕ) → k < 55296 → nat_eq c k ≡ true → scalar c ≡ true
    exactly k l e = let i = equal_numbers c k e in low (omega arith)

    up_to : (lo hi : ℕ) → hi < 55296 → (nat_le lo c && nat_le c hi) ≡ true → scalar c ≡ true
    up_to lo hi l e = let k = leb-true c hi (and_true (nat_le lo c) (nat_le c hi) e).1 in low (omega arith)

    from : (lo hi : ℕ) → 57344 ≤ lo → hi < 1114112 → (nat_le lo c && nat_le c hi) ≡ true → scalar c ≡ true
    from lo hi l m e =
        let (f, g) = and_true (nat_le lo c) (nat_le c hi) e in
        let i = leb-true lo c f in
        let k = leb-true c hi g in
        high (omega arith) (omega arith)

    by_case : (x y z u v w : Bool) → nat_eq c 0x9 ≡ x → nat_eq c 0xA ≡ y → nat_eq c 0xD ≡ z → (nat_le 0x20 c && nat_le c 0xD7FF) ≡ u → (nat_le 0xE000 c && nat_le c 0xFFFD) ≡ v → (nat_le 0x10000 c && nat_le c 0x10FFFF) ≡ w
        → (x || y || z || u || v || w) ≡ true → scalar c ≡ true
    by_case true y z u v w p1 p2 p3 p4 p5 p6 h = exactly 9 (omega arith) p1
    by_case false true z u v w p1 p2 p3 p4 p5 p6 h = exactly 10 (omega arith) p2
    by_case false false true u v w p1 p2 p3 p4 p5 p6 h = exactly 13 (omega arith) p3
    by_case false false false true v w p1 p2 p3 p4 p5 p6 h = up_to 0x20 0xD7FF (omega arith) p4
    by_case false false false false true w p1 p2 p3 p4 p5 p6 h = from 0xE000 0xFFFD (omega arith) (omega arith) p5
    by_case false false false false false true p1 p2 p3 p4 p5 p6 h = from 0x10000 0x10FFFF (omega arith) (omega arith) p6
    by_case false false false false false false p1 p2 p3 p4 p5 p6 h = cc

pub all_scalars : (cs : List ℕ) → list_all is_xml_char cs ≡ true → scalars cs ≡ true
all_scalars [] h = refl
all_scalars (c ∷ cs) h = let (a, b) = and_true (is_xml_char c) (list_all is_xml_char cs) h in both_true (scalar c) (scalars cs) (char_scalar c a) (all_scalars cs b)
