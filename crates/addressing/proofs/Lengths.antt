-- A canonical text is no shorter than a namespace that it declares.
use Rattle.std.proofs.Common.{◌≡◌, refl, sym, ap, ◌∙◌, arith, ℕ, ◌+◌, ◌<◌, ◌≤◌, List, [], ◌∷◌, ◌++◌, length, Bool, true, false, cond, ◌&&◌, ◌||◌, not, Option, Some, None, nat_lt, nat_le, codes, IsTrue}
use Rattle.std.proofs.lemmas.Bool.Decides.{nat_tests}
use Rattle.std.proofs.lemmas.List.{length-append}
use Rattle.std.proofs.lemmas.List.Folds.{list_any-append}
use Rattle.std.proofs.lemmas.Slice.Eq.{bytes_eq-Decides}
use Rattle.std.specs.List.{flat_map, list_all, list_any}
use Rattle.std.specs.Str.{bytes_eq}
use Rattle.at_base.specs.declared.limits.TheConstants.{MOST_ENDPOINT}
use Rattle.soap_profile.specs.Values.{is_empty}
use Rattle.xml_profile.specs.CanonicalText.{attribute_text, canonical_text, content_text, declaration_text, declared_by, end_text, equals_text, is_end, name_text, numbered_by, prefix_of, spaces_at, spaces_in, spaces_of, start_text, text_byte, value_byte, value_text}
use Rattle.xml_profile.specs.Declarations.{is_declared}
use Rattle.xml_profile.specs.Forest.{Forest}
use Rattle.xml_profile.specs.Prefixes.{xml}
use Rattle.xml_profile.specs.declared.name.Attribute.{Attribute}
use Rattle.xml_profile.specs.declared.name.QName.{QName}
use Rattle.xml_profile.specs.declared.tree.Tree.{Tree}
use Rattle.addressing.specs.Endpoints.{bounded, is_within}
use Rattle.addressing.specs.Lengths.{is_long}

-- whether one of the names has it

pub any_of_both : (n : QName) (a : List Attribute) (c : Forest) (p q : Bool) → p ≡ list_any is_long (spaces_at n a) → q ≡ list_any is_long (spaces_in c)
    → (p || q) ≡ list_any is_long (spaces_at n a ++ spaces_in c)
any_of_both n a c p q e f = ap (λ b. b || q) e ∙ (ap (λ b. list_any is_long (spaces_at n a) || b) f ∙ sym (list_any-append is_long (spaces_at n a) (spaces_in c)))

any_of_three : (xs ys zs : List (Option (List ℕ))) → list_any is_long (xs ++ (ys ++ zs)) ≡ (list_any is_long xs || (list_any is_long ys || list_any is_long zs))
any_of_three xs ys zs = list_any-append is_long xs (ys ++ zs) ∙ ap (λ b. list_any is_long xs || b) (list_any-append is_long ys zs)

first_is : (p q r : Bool) → p ≡ true → true ≡ (p || (q || r))
first_is true q r e = refl
first_is false q r e = cc

second_is : (p q r : Bool) → q ≡ true → true ≡ (p || (q || r))
second_is true q r e = refl
second_is false true r e = refl
second_is false false r e = cc

third_is : (p q r : Bool) → p ≡ false → q ≡ false → r ≡ (p || (q || r))
third_is true q r e f = cc
third_is false true r e f = cc
third_is false false r e f = refl

pub any_of_names : (xs ys zs : List (Option (List ℕ))) (all : Bool) → list_any is_long xs ≡ true → list_any is_long (xs ++ (ys ++ zs)) ≡ all → true ≡ all
any_of_names xs ys zs all e f = first_is (list_any is_long xs) (list_any is_long ys) (list_any is_long zs) e ∙ (sym (any_of_three xs ys zs) ∙ f)

pub any_inside : (xs ys zs : List (Option (List ℕ))) (all : Bool) → list_any is_long ys ≡ true → list_any is_long (xs ++ (ys ++ zs)) ≡ all → true ≡ all
any_inside xs ys zs all e f = second_is (list_any is_long xs) (list_any is_long ys) (list_any is_long zs) e ∙ (sym (any_of_three xs ys zs) ∙ f)

pub none_of_both : (xs ys zs : List (Option (List ℕ))) (all : Bool) → list_any is_long xs ≡ false → list_any is_long ys ≡ false → list_any is_long (xs ++ (ys ++ zs)) ≡ all → list_any is_long zs ≡ all
none_of_both xs ys zs all e f g = third_is (list_any is_long xs) (list_any is_long ys) (list_any is_long zs) e f ∙ (sym (any_of_three xs ys zs) ∙ g)

-- a value has no fewer bytes than what it is the text of

text_part : (b1 b2 b3 b4 : Bool) (c : ℕ) → 1 ≤ length (cond b1 (codes "&amp;") (cond b2 (codes "&lt;") (cond b3 (codes "&gt;") (cond b4 (codes "&#13;") (c ∷ [])))))
text_part true b2 b3 b4 c = omega arith
text_part false true b3 b4 c = omega arith
text_part false false true b4 c = omega arith
text_part false false false true c = omega arith
text_part false false false false c = omega arith

value_part : (b1 b2 b3 : Bool) (rest : List ℕ) → 1 ≤ length rest → 1 ≤ length (cond b1 (codes "&quot;") (cond b2 (codes "&#9;") (cond b3 (codes "&#10;") rest)))
value_part true b2 b3 rest h = omega arith
value_part false true b3 rest h = omega arith
value_part false false true rest h = omega arith
value_part false false false rest h = h

some_byte : (c : ℕ) → 1 ≤ length (value_byte c)
some_byte c = value_part _ _ _ (text_byte c) (text_part _ _ _ _ c)

value_holds : (s : List ℕ) → length s ≤ length (value_text s)
value_holds [] = omega arith
value_holds (c ∷ s) = omega (arith, length-append (value_byte c) (value_text s), some_byte c, value_holds s)

-- a declaration has no fewer than its namespace

declaration_holds : (numbered : List (List ℕ)) (s : List ℕ) → length s ≤ length (declaration_text numbered s)
declaration_holds numbered s =
    omega (
      arith,
      length-append (codes " xmlns:") (prefix_of numbered s ++ equals_text s),
      length-append (prefix_of numbered s) (equals_text s),
      length-append (codes "=\"") (value_text s ++ codes "\""),
      length-append (value_text s) (codes "\""),
      value_holds s,
    )

first_or_later : (numbered : List (List ℕ)) (s x : List ℕ) (xs : List (List ℕ)) (b : Bool) → bytes_eq s x ≡ b → (b || list_any (bytes_eq s) xs) ≡ true
    → (list_any (bytes_eq s) xs ≡ true → length s ≤ length (flat_map (declaration_text numbered) xs)) → length s ≤ length (declaration_text numbered x ++ flat_map (declaration_text numbered) xs)
first_or_later numbered s x xs true e h k =
    let same : length s ≡ length x = ap length ((bytes_eq-Decides s x).0 e) in
    omega (arith, length-append (declaration_text numbered x) (flat_map (declaration_text numbered) xs), declaration_holds numbered x, same)
first_or_later numbered s x xs false e h k = omega (arith, length-append (declaration_text numbered x) (flat_map (declaration_text numbered) xs), k h)

declarations_hold : (numbered : List (List ℕ)) (s : List ℕ) (xs : List (List ℕ)) → list_any (bytes_eq s) xs ≡ true → length s ≤ length (flat_map (declaration_text numbered) xs)
declarations_hold numbered s [] h = cc
declarations_hold numbered s (x ∷ xs) h = first_or_later numbered s x xs (bytes_eq s x) refl h (declarations_hold numbered s xs)

-- the whole has no fewer than its declarations

whole_holds : (t : Tree) → length (flat_map (declaration_text (numbered_by t)) (declared_by t)) ≤ length (canonical_text t)
whole_holds t =
    let n = numbered_by t in
    let declared = flat_map (declaration_text n) (declared_by t) in
    let close = cond (is_end t.children) (codes "/>") (codes ">") in
    let attributes = flat_map (attribute_text n) t.attributes in
    let start = start_text n (declared_by t) t.name t.attributes t.children in
    let rest = content_text n t.children ++ end_text n t.name t.children in
    omega (
      arith,
      length-append start rest,
      length-append (codes "<") (name_text n t.name ++ (declared ++ (attributes ++ close))),
      length-append (name_text n t.name) (declared ++ (attributes ++ close)),
      length-append declared (attributes ++ close),
    )

-- a long one among those that are declared

record IsLong (xs : List (List ℕ)) : Type 0 where
  space : List ℕ
  long : MOST_ENDPOINT < length space
  there : list_any (bytes_eq space) xs ≡ true

is_more : (n : ℕ) → nat_lt MOST_ENDPOINT n ≡ true → MOST_ENDPOINT < n
is_more n e = grind (arith, nat_tests, e)

not_xml : (s : List ℕ) (xs : List (List ℕ)) (b : Bool) → bytes_eq s xml ≡ b → MOST_ENDPOINT < length s → (b || list_any (bytes_eq s) xs) ≡ true → list_any (bytes_eq s) xs ≡ true
not_xml s xs true e long h =
    let same : length s ≡ length xml = ap length ((bytes_eq-Decides s xml).0 e) in
    let short : length xml ≡ 36 = refl in
    absurd (omega (arith, long, same, short))
not_xml s xs false e long h = h

at_space : (s : List ℕ) (os : List (Option (List ℕ))) (xs : List (List ℕ)) (b c : Bool) → nat_lt MOST_ENDPOINT (length s) ≡ b → is_declared xs (Some s) ≡ c
    → (list_all (is_declared xs) os ≡ true → list_any is_long os ≡ true → IsLong xs) → (c && list_all (is_declared xs) os) ≡ true → (b || list_any is_long os) ≡ true → IsLong xs
at_space s os xs true true e f later h k = record { space = s; long = is_more (length s) e; there = not_xml s xs (bytes_eq s xml) refl (is_more (length s) e) f }
at_space s os xs false true e f later h k = later h k
at_space s os xs b false e f later h k = absurd cc

long_one : (os : List (Option (List ℕ))) (xs : List (List ℕ)) → list_all (is_declared xs) os ≡ true → list_any is_long os ≡ true → IsLong xs
long_one [] xs h k = absurd cc
long_one (None ∷ os) xs h k = long_one os xs h k
long_one (Some s ∷ os) xs h k = at_space s os xs (nat_lt MOST_ENDPOINT (length s)) (is_declared xs (Some s)) refl refl (long_one os xs) h k

pub is_longer : (t : Tree) (b : Bool) → list_all (is_declared (declared_by t)) (spaces_of t) ≡ true → b ≡ list_any is_long (spaces_of t) → IsTrue b → MOST_ENDPOINT < length (canonical_text t)
is_longer t true h e k =
    let found = long_one (spaces_of t) (declared_by t) h (sym e) in
    omega (arith, found.long, declarations_hold (numbered_by t) found.space (declared_by t) found.there, whole_holds t)
is_longer t false h e k = absurd cc

-- what is too long is no endpoint

too_many : (n : ℕ) (address : List ℕ) → MOST_ENDPOINT < n → nat_le (length address + n) MOST_ENDPOINT ≡ false
too_many n address h = grind (arith, nat_tests, h)

no_room : (b : Bool) → (b && false) ≡ false
no_room true = refl
no_room false = refl

pub no_endpoint : (address params : List ℕ) → MOST_ENDPOINT < length params → bounded address params ≡ None
no_endpoint address params h =
    let outside : is_within address params ≡ false =
    ap (λ b. not (is_empty address) && b) (too_many (length params) address h) ∙ no_room (not (is_empty address)) in
    ap (λ b. cond b (Some (record { address = address; params = params })) None) outside
