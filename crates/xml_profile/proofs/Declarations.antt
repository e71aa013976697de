-- Each namespace is declared, once, under a prefix of its own.
use Rattle.std.proofs.Common.{◌≡◌, refl, sym, ap, ◌∙◌, ℕ, List, [], ◌∷◌, ◌++◌, Bool, true, false, not, cond, ◌&&◌, ◌||◌, Option, Some, None, is_some}
use Rattle.std.proofs.lemmas.Slice.Eq.{bytes_eq-Decides}
use Rattle.std.proofs.lemmas.List.Folds.{list_any-append}
use Rattle.std.specs.List.{list_all, list_any, fold}
use Rattle.std.specs.Str.{bytes_eq}
use Rattle.xml_profile.specs.Prefixes.{xml, fixed_prefix}
use Rattle.xml_profile.specs.CanonicalText.{with_space, declare, enumerate}
use Rattle.xml_profile.specs.Declarations.{is_declared, has_prefix, is_once}

or_right : (a b : Bool) → b ≡ true → (a || b) ≡ true
or_right true b h = refl
or_right false b h = h

or_left : (a b : Bool) → a ≡ true → (a || b) ≡ true
or_left true b h = refl
or_left false b h = cc

same_self : (s : List ℕ) → bytes_eq s s ≡ true
same_self s = (bytes_eq-Decides s s).1 refl

-- a namespace among those that are there stays among them
any_more : (p : List ℕ → Bool) (xs ys : List (List ℕ)) → list_any p xs ≡ true → list_any p (xs ++ ys) ≡ true
any_more p xs ys h = list_any-append p xs ys ∙ or_left (list_any p xs) (list_any p ys) h

kept_by : (p : List ℕ → Bool) (xs : List (List ℕ)) (s : List ℕ) (b : Bool) → list_any p xs ≡ true → list_any p (cond b xs (xs ++ s ∷ [])) ≡ true
kept_by p xs s true h = h
kept_by p xs s false h = any_more p xs (s ∷ []) h

stays : (p : List ℕ → Bool) (xs : List (List ℕ)) (s : List ℕ) → list_any p xs ≡ true → list_any p (with_space xs s) ≡ true
stays p xs s h = kept_by p xs s (list_any (bytes_eq s) xs) h

last : (s : List ℕ) (xs : List (List ℕ)) → list_any (bytes_eq s) (xs ++ s ∷ []) ≡ true
last s xs = list_any-append (bytes_eq s) xs (s ∷ []) ∙ or_right (list_any (bytes_eq s) xs) (bytes_eq s s || false) (or_left (bytes_eq s s) false (same_self s))

added_by : (s : List ℕ) (xs : List (List ℕ)) (b : Bool) → list_any (bytes_eq s) xs ≡ b → list_any (bytes_eq s) (cond b xs (xs ++ s ∷ [])) ≡ true
added_by s xs true e = e
added_by s xs false e = last s xs

is_there : (s : List ℕ) (xs : List (List ℕ)) → list_any (bytes_eq s) (with_space xs s) ≡ true
is_there s xs = added_by s xs (list_any (bytes_eq s) xs) refl

-- each namespace of a name is declared

declare_kept : (p : List ℕ → Bool) (xs : List (List ℕ)) (s : List ℕ) (b : Bool) → list_any p xs ≡ true → list_any p (cond b xs (with_space xs s)) ≡ true
declare_kept p xs s true h = h
declare_kept p xs s false h = stays p xs s h

declare_stays : (p : List ℕ → Bool) (xs : List (List ℕ)) (o : Option (List ℕ)) → list_any p xs ≡ true → list_any p (declare xs o) ≡ true
declare_stays p xs None h = h
declare_stays p xs (Some s) h = declare_kept p xs s (bytes_eq s xml) h

all_stay : (p : List ℕ → Bool) (xs : List (List ℕ)) (os : List (Option (List ℕ))) → list_any p xs ≡ true → list_any p (fold declare xs os) ≡ true
all_stay p xs [] h = h
all_stay p xs (o ∷ os) h = all_stay p (declare xs o) os (declare_stays p xs o h)

declared_by_case : (s : List ℕ) (xs : List (List ℕ)) (os : List (Option (List ℕ))) (b : Bool) → (b || list_any (bytes_eq s) (fold declare (cond b xs (with_space xs s)) os)) ≡ true
declared_by_case s xs os true = refl
declared_by_case s xs os false = all_stay (bytes_eq s) (with_space xs s) os (is_there s xs)

declared_first : (xs : List (List ℕ)) (o : Option (List ℕ)) (os : List (Option (List ℕ))) → is_declared (fold declare (declare xs o) os) o ≡ true
declared_first xs None os = refl
declared_first xs (Some s) os = declared_by_case s xs os (bytes_eq s xml)

pub all_declared : (xs : List (List ℕ)) (os : List (Option (List ℕ))) → list_all (is_declared (fold declare xs os)) os ≡ true
all_declared xs [] = refl
all_declared xs (o ∷ os) =
    ap (λ b. b && list_all (is_declared (fold declare (declare xs o) os)) os) (declared_first xs o os) ∙ all_declared (declare xs o) os

-- and each has a prefix

enumerate_kept : (p : List ℕ → Bool) (xs : List (List ℕ)) (s : List ℕ) (b : Bool) → list_any p xs ≡ true → list_any p (cond b xs (with_space xs s)) ≡ true
enumerate_kept = declare_kept

enumerate_stays : (p : List ℕ → Bool) (xs : List (List ℕ)) (o : Option (List ℕ)) → list_any p xs ≡ true → list_any p (enumerate xs o) ≡ true
enumerate_stays p xs None h = h
enumerate_stays p xs (Some s) h = enumerate_kept p xs s (is_some (fixed_prefix s)) h

all_kept : (p : List ℕ → Bool) (xs : List (List ℕ)) (os : List (Option (List ℕ))) → list_any p xs ≡ true → list_any p (fold enumerate xs os) ≡ true
all_kept p xs [] h = h
all_kept p xs (o ∷ os) h = all_kept p (enumerate xs o) os (enumerate_stays p xs o h)

prefixed_by_case : (s : List ℕ) (xs : List (List ℕ)) (os : List (Option (List ℕ))) (b : Bool) → (b || list_any (bytes_eq s) (fold enumerate (cond b xs (with_space xs s)) os)) ≡ true
prefixed_by_case s xs os true = refl
prefixed_by_case s xs os false = all_kept (bytes_eq s) (with_space xs s) os (is_there s xs)

prefixed_first : (xs : List (List ℕ)) (o : Option (List ℕ)) (os : List (Option (List ℕ))) → has_prefix (fold enumerate (enumerate xs o) os) o ≡ true
prefixed_first xs None os = refl
prefixed_first xs (Some s) os = prefixed_by_case s xs os (is_some (fixed_prefix s))

pub all_prefixed : (xs : List (List ℕ)) (os : List (Option (List ℕ))) → list_all (has_prefix (fold enumerate xs os)) os ≡ true
all_prefixed xs [] = refl
all_prefixed xs (o ∷ os) =
    ap (λ b. b && list_all (has_prefix (fold enumerate (enumerate xs o) os)) os) (prefixed_first xs o os) ∙ all_prefixed (enumerate xs o) os

-- none is declared twice

tells : (a b : List ℕ) (r : Bool) → bytes_eq a b ≡ r → bytes_eq b a ≡ r
tells a b true e = (bytes_eq-Decides b a).1 (sym ((bytes_eq-Decides a b).0 e))
tells a b false e = turned a b (bytes_eq b a) refl e
  where
    turned : (a b : List ℕ) (r : Bool) → bytes_eq b a ≡ r → bytes_eq a b ≡ false → r ≡ false
    turned a b true e f = let g : bytes_eq a b ≡ true = (bytes_eq-Decides a b).1 (sym ((bytes_eq-Decides b a).0 e)) in cc
    turned a b false e f = refl

or_false : (a b : Bool) → (a || b) ≡ false → (a ≡ false) × (b ≡ false)
or_false true b h = (cc, cc)
or_false false b h = (refl, h)

and_true : (a b : Bool) → (a && b) ≡ true → (a ≡ true) × (b ≡ true)
and_true true b h = (refl, h)
and_true false b h = (cc, cc)

not_false : (a : Bool) → not a ≡ true → a ≡ false
not_false true h = cc
not_false false h = refl

none_more : (x s : List ℕ) (xs : List (List ℕ)) → list_any (bytes_eq x) xs ≡ false → bytes_eq x s ≡ false → list_any (bytes_eq x) (xs ++ s ∷ []) ≡ false
none_more x s xs h e = list_any-append (bytes_eq x) xs (s ∷ []) ∙ ap (λ b. b || (bytes_eq x s || false)) h ∙ ap (λ b. b || false) e

once_more : (s : List ℕ) (xs : List (List ℕ)) → list_any (bytes_eq s) xs ≡ false → is_once xs ≡ true → is_once (xs ++ s ∷ []) ≡ true
once_more s [] n h = refl
once_more s (x ∷ xs) n h =
    let (first, rest) = or_false (bytes_eq s x) (list_any (bytes_eq s) xs) n in
    let (apart, once) = and_true (not (list_any (bytes_eq x) xs)) (is_once xs) h in
    ap (λ b. not b && is_once (xs ++ s ∷ [])) (none_more x s xs (not_false (list_any (bytes_eq x) xs) apart) (tells s x false first)) ∙ once_more s xs rest once

once_by_case : (s : List ℕ) (xs : List (List ℕ)) (b : Bool) → list_any (bytes_eq s) xs ≡ b → is_once xs ≡ true → is_once (cond b xs (xs ++ s ∷ [])) ≡ true
once_by_case s xs true e h = h
once_by_case s xs false e h = once_more s xs e h

declare_once_case : (s : List ℕ) (xs : List (List ℕ)) (b : Bool) → is_once xs ≡ true → is_once (cond b xs (with_space xs s)) ≡ true
declare_once_case s xs true h = h
declare_once_case s xs false h = once_by_case s xs (list_any (bytes_eq s) xs) refl h

declare_once : (xs : List (List ℕ)) (o : Option (List ℕ)) → is_once xs ≡ true → is_once (declare xs o) ≡ true
declare_once xs None h = h
declare_once xs (Some s) h = declare_once_case s xs (bytes_eq s xml) h

pub all_once : (xs : List (List ℕ)) (os : List (Option (List ℕ))) → is_once xs ≡ true → is_once (fold declare xs os) ≡ true
all_once xs [] h = h
all_once xs (o ∷ os) h = all_once (declare xs o) os (declare_once xs o h)
