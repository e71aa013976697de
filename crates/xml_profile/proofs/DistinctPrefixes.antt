-- Two namespaces never share a prefix.
use Rattle.std.proofs.Common.{◌≡◌, refl, sym, ap, subst, ◌∙◌, arith, ℕ, suc, ◌+◌, ◌<◌, ◌≤◌, ◌^◌, List, [], ◌∷◌, ◌++◌, length, Bool, true, false, not, cond, ◌||◌, Option, Some, None, is_some, get_or, codes, decimal}
use Rattle.std.proofs.lemmas.Fmt.{decimal_injective}
use Rattle.std.proofs.lemmas.List.Sums.{prefix_len-le-length}
use Rattle.std.proofs.lemmas.Slice.Eq.{bytes_eq-Decides}
use Rattle.std.specs.List.{list_any, position_or_len}
use Rattle.std.specs.Option.{unwrap_or}
use Rattle.std.specs.Str.{bytes_eq}
use Rattle.xml_profile.specs.Prefixes.{soap, addressing, coordination, transaction, work, xml, fixed_prefix}
use Rattle.xml_profile.specs.Declarations.{PrefixesDiffer}

-- the namespace of a fixed prefix
abbrev space_of : List ℕ → List ℕ
space_of p =
    cond (bytes_eq p (codes "s")) soap (cond (bytes_eq p (codes "wsa")) addressing (cond (bytes_eq p (codes "wscoor")) coordination
    (cond (bytes_eq p (codes "wsat")) transaction (cond (bytes_eq p (codes "work")) work xml))))

some_is : (a b : List ℕ) → Some a ≡ Some b → a ≡ b
some_is a b e = cc

chain : (s p : List ℕ) (b1 b2 b3 b4 b5 b6 : Bool) → bytes_eq s soap ≡ b1 → bytes_eq s addressing ≡ b2 → bytes_eq s coordination ≡ b3 → bytes_eq s transaction ≡ b4 → bytes_eq s work ≡ b5 → bytes_eq s xml ≡ b6
    → cond b1 (Some (codes "s")) (cond b2 (Some (codes "wsa")) (cond b3 (Some (codes "wscoor")) (cond b4 (Some (codes "wsat")) (cond b5 (Some (codes "work")) (cond b6 (Some (codes "xml")) None))))) ≡ Some p
    → s ≡ space_of p
chain s p true b2 b3 b4 b5 b6 e1 e2 e3 e4 e5 e6 h = subst (λ q. s ≡ space_of q) (some_is (codes "s") p h) ((bytes_eq-Decides s soap).0 e1)
chain s p false true b3 b4 b5 b6 e1 e2 e3 e4 e5 e6 h = subst (λ q. s ≡ space_of q) (some_is (codes "wsa") p h) ((bytes_eq-Decides s addressing).0 e2)
chain s p false false true b4 b5 b6 e1 e2 e3 e4 e5 e6 h = subst (λ q. s ≡ space_of q) (some_is (codes "wscoor") p h) ((bytes_eq-Decides s coordination).0 e3)
chain s p false false false true b5 b6 e1 e2 e3 e4 e5 e6 h = subst (λ q. s ≡ space_of q) (some_is (codes "wsat") p h) ((bytes_eq-Decides s transaction).0 e4)
chain s p false false false false true b6 e1 e2 e3 e4 e5 e6 h = subst (λ q. s ≡ space_of q) (some_is (codes "work") p h) ((bytes_eq-Decides s work).0 e5)
chain s p false false false false false true e1 e2 e3 e4 e5 e6 h = subst (λ q. s ≡ space_of q) (some_is (codes "xml") p h) ((bytes_eq-Decides s xml).0 e6)
chain s p false false false false false false e1 e2 e3 e4 e5 e6 h = cc

fixed_back : (s p : List ℕ) → fixed_prefix s ≡ Some p → s ≡ space_of p
fixed_back s p h = chain s p (bytes_eq s soap) (bytes_eq s addressing) (bytes_eq s coordination) (bytes_eq s transaction) (bytes_eq s work) (bytes_eq s xml) refl refl refl refl refl refl h

abbrev begins_n : List ℕ → Bool
begins_n [] = false
begins_n (c ∷ cs) = bytes_eq (c ∷ []) (codes "n")

abbrev fixed_begins : Option (List ℕ) → Bool
fixed_begins None = false
fixed_begins (Some p) = begins_n p

no_n : (b1 b2 b3 b4 b5 b6 : Bool) → fixed_begins (cond b1 (Some (codes "s")) (cond b2 (Some (codes "wsa")) (cond b3 (Some (codes "wscoor")) (cond b4 (Some (codes "wsat")) (cond b5 (Some (codes "work")) (cond b6 (Some (codes "xml")) None)))))) ≡ false
no_n true b2 b3 b4 b5 b6 = refl
no_n false true b3 b4 b5 b6 = refl
no_n false false true b4 b5 b6 = refl
no_n false false false true b5 b6 = refl
no_n false false false false true b6 = refl
no_n false false false false false true = refl
no_n false false false false false false = refl

fixed_no_n : (s : List ℕ) → fixed_begins (fixed_prefix s) ≡ false
fixed_no_n s = no_n (bytes_eq s soap) (bytes_eq s addressing) (bytes_eq s coordination) (bytes_eq s transaction) (bytes_eq s work) (bytes_eq s xml)

never_n : (s p : List ℕ) (n : ℕ) → fixed_prefix s ≡ Some p → p ≡ codes "n" ++ decimal n → ⊥
never_n s p n e f =
    let a : begins_n p ≡ false = subst (λ o. fixed_begins o ≡ false) e (fixed_no_n s) in
    let b : begins_n p ≡ true = ap begins_n f in
    let c : true ≡ false = sym b ∙ a in cc

-- the place of a namespace that is there
behind : (x : List ℕ) (xs : List (List ℕ)) (n : ℕ) → get_or (x ∷ xs) (1 + n) [] ≡ get_or xs n []
behind x xs n = let e : 1 + n ≡ suc n = omega arith in ap (λ i. get_or (x ∷ xs) i []) e

at_first : (s x : List ℕ) (xs : List (List ℕ)) (b : Bool) → bytes_eq s x ≡ b → (b || list_any (bytes_eq s) xs) ≡ true
    → (list_any (bytes_eq s) xs ≡ true → get_or xs (position_or_len (bytes_eq s) xs) [] ≡ s) → get_or (x ∷ xs) (cond (not b) (1 + position_or_len (bytes_eq s) xs) 0) [] ≡ s
at_first s x xs true e h k = sym ((bytes_eq-Decides s x).0 e)
at_first s x xs false e h k = behind x xs (position_or_len (bytes_eq s) xs) ∙ k h

at_place : (s : List ℕ) (xs : List (List ℕ)) → list_any (bytes_eq s) xs ≡ true → get_or xs (position_or_len (bytes_eq s) xs) [] ≡ s
at_place s [] h = cc
at_place s (x ∷ xs) h = at_first s x xs (bytes_eq s x) refl h (at_place s xs)

number_of : (xs : List (List ℕ)) (s t : List ℕ) → length xs < 2 ^ 63 → decimal (position_or_len (bytes_eq s) xs + 1) ≡ decimal (position_or_len (bytes_eq t) xs + 1) → position_or_len (bytes_eq s) xs ≡ position_or_len (bytes_eq t) xs
number_of xs s t small e =
    let a : position_or_len (bytes_eq s) xs ≤ length xs = prefix_len-le-length (λ x. not (bytes_eq s x)) xs in
    let b : position_or_len (bytes_eq t) xs ≤ length xs = prefix_len-le-length (λ x. not (bytes_eq t x)) xs in
    let m : position_or_len (bytes_eq s) xs + 1 < 2 ^ 64 = omega arith in
    let n : position_or_len (bytes_eq t) xs + 1 < 2 ^ 64 = omega arith in
    let f : position_or_len (bytes_eq s) xs + 1 ≡ position_or_len (bytes_eq t) xs + 1 = decimal_injective (position_or_len (bytes_eq s) xs + 1) (position_or_len (bytes_eq t) xs + 1) m n e in
    omega arith

tail_is : (a b : List ℕ) → codes "n" ++ a ≡ codes "n" ++ b → a ≡ b
tail_is a b e = cc

differ : (xs : List (List ℕ)) (s t : List ℕ) (o q : Option (List ℕ)) → length xs < 2 ^ 63 → fixed_prefix s ≡ o → fixed_prefix t ≡ q
    → (is_some o || list_any (bytes_eq s) xs) ≡ true → (is_some q || list_any (bytes_eq t) xs) ≡ true
    → unwrap_or o (codes "n" ++ decimal (position_or_len (bytes_eq s) xs + 1)) ≡ unwrap_or q (codes "n" ++ decimal (position_or_len (bytes_eq t) xs + 1)) → s ≡ t
differ xs s t (Some p) (Some q) small e f h k same = fixed_back s p e ∙ (ap space_of same ∙ sym (fixed_back t q f))
differ xs s t (Some p) None small e f h k same = absurd (never_n s p (position_or_len (bytes_eq t) xs + 1) e same)
differ xs s t None (Some q) small e f h k same = absurd (never_n t q (position_or_len (bytes_eq s) xs + 1) f (sym same))
differ xs s t None None small e f h k same =
    let number = number_of xs s t small (tail_is (decimal (position_or_len (bytes_eq s) xs + 1)) (decimal (position_or_len (bytes_eq t) xs + 1)) same) in
    sym (at_place s xs h) ∙ (ap (λ i. get_or xs i []) number ∙ at_place t xs k)

pub prefixes_differ : (xs : List (List ℕ)) → length xs < 2 ^ 63 → PrefixesDiffer xs
prefixes_differ xs small s t h k same = differ xs s t (fixed_prefix s) (fixed_prefix t) small refl refl h k same
