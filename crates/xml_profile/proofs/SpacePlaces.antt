-- The places of namespaces, as one more comes behind the others.
use Rattle.std.proofs.Common.{◌≡◌, refl, sym, ap, ◌∙◌, ℕ, suc, ◌+◌, List, [], ◌∷◌, ◌++◌, map, length, Bool, true, false, not, cond, ◌||◌, Option, Some, None, option_map, is_some, Bor, arith}
use Rattle.std.proofs.lemmas.List.{map-append, length-map}
use Rattle.std.proofs.lemmas.Slice.Eq.{bytes_eq-Decides}
use Rattle.std.specs.BTreeMap.{BTreeMap}
use Rattle.std.specs.List.{list_any, position_or_len}
use Rattle.std.specs.Map.{update}
use Rattle.std.specs.Option.{unwrap_or}
use Rattle.std.specs.Str.{bytes_eq}
use Rattle.xml_profile.specs.CanonicalText.{with_space}
use Rattle.xml_profile.specs.Places.{Finds, place_in, place_of}

-- a text has a place where it is among the others

there : (b : Bool) (o : Option ℕ) (c : Bool) → is_some o ≡ c → is_some (cond b (Some 0) (option_map (λ n. suc n) o)) ≡ (b || c)
there true o c e = refl
there false None c e = e
there false (Some n) c e = e

pub is_there : (s : List ℕ) (xs : List (List ℕ)) → is_some (place_of s xs) ≡ list_any (bytes_eq s) xs
is_there s [] = refl
is_there s (x ∷ xs) = there (bytes_eq s x) (place_of s xs) (list_any (bytes_eq s) xs) (is_there s xs)

-- the first place, or the number of all

next : (b : Bool) (o : Option ℕ) (m n : ℕ) → unwrap_or o m ≡ n → unwrap_or (cond b (Some 0) (option_map (λ k. suc k) o)) (suc m) ≡ cond (not b) (1 + n) 0
next true o m n e = refl
next false None m n e = omega (arith, e)
next false (Some k) m n e = omega (arith, e)

pub first_place : (s : List ℕ) (xs : List (List ℕ)) → unwrap_or (place_of s xs) (length xs) ≡ position_or_len (bytes_eq s) xs
first_place s [] = refl
first_place s (x ∷ xs) = next (bytes_eq s x) (place_of s xs) (length xs) (position_or_len (bytes_eq s) xs) (first_place s xs)

-- one more behind the others

abbrev or_else : Option ℕ → Option ℕ → Option ℕ
or_else None other = other
or_else (Some n) other = Some n

behind : (b c : Bool) (o : Option ℕ) (n : ℕ) → cond b (Some 0) (option_map (λ k. suc k) (or_else o (cond c (Some n) None))) ≡ or_else (cond b (Some 0) (option_map (λ k. suc k) o)) (cond c (Some (suc n)) None)
behind true c o n = refl
behind false true None n = refl
behind false false None n = refl
behind false c (Some k) n = refl

place_behind : (q s : List ℕ) (xs : List (List ℕ)) → place_of q (xs ++ s ∷ []) ≡ or_else (place_of q xs) (cond (bytes_eq q s) (Some (length xs)) None)
place_behind q s [] = refl
place_behind q s (x ∷ xs) =
    ap (λ o. cond (bytes_eq q x) (Some 0) (option_map (λ k. suc k) o)) (place_behind q s xs) ∙ behind (bytes_eq q x) (bytes_eq q s) (place_of q xs) (length xs)

is_none : (o : Option ℕ) → is_some o ≡ false → o ≡ None
is_none None e = refl
is_none (Some n) e = cc

differs : (q s : List ℕ) → bytes_eq s q ≡ false → bytes_eq q s ≡ false
differs q s e = by_case (bytes_eq q s) refl where
  by_case : (b : Bool) → bytes_eq q s ≡ b → b ≡ false
  by_case false f = refl
  by_case true f =
      let same : bytes_eq s q ≡ true = (bytes_eq-Decides s q).1 (sym ((bytes_eq-Decides q s).0 f)) in
      absurd cc

or_none : (o : Option ℕ) → or_else o None ≡ o
or_none None = refl
or_none (Some n) = refl

more : (q s : List ℕ) (xs : List (List ℕ)) (b : Bool) → bytes_eq s q ≡ b → place_of s xs ≡ None → or_else (place_of q xs) (cond (bytes_eq q s) (Some (length xs)) None) ≡ cond b (Some (length xs)) (place_of q xs)
more q s xs true e absent =
    let same : s ≡ q = (bytes_eq-Decides s q).0 e in
    let here : bytes_eq q s ≡ true = (bytes_eq-Decides q s).1 (sym same) in
    ap (λ b. or_else (place_of q xs) (cond b (Some (length xs)) None)) here ∙ ap (λ o. or_else o (Some (length xs))) (ap (λ t. place_of t xs) (sym same) ∙ absent)
more q s xs false e absent = ap (λ b. or_else (place_of q xs) (cond b (Some (length xs)) None)) (differs q s e) ∙ or_none (place_of q xs)

pub one_more : (m n : BTreeMap (Bor (List ℕ)) ℕ) (xs : List (Bor (List ℕ))) (x : Bor (List ℕ)) → Finds m xs → is_some (place_in m x.now) ≡ false
    → ((q : List ℕ) → place_in n q ≡ update bytes_eq (place_in m) x.now (Some (length xs)) q) → Finds n (xs ++ x ∷ [])
one_more m n xs x f absent u q =
    let ys = map (λ x. x.now) xs in
    let none : place_of x.now ys ≡ None = sym (f x.now) ∙ is_none (place_in m x.now) absent in
    u q
    ∙ (ap (λ o. cond (bytes_eq x.now q) (Some (length xs)) o) (f q)
    ∙ (ap (λ k. cond (bytes_eq x.now q) (Some k) (place_of q ys)) (sym (length-map xs (λ x. x.now)))
    ∙ (sym (more q x.now ys (bytes_eq x.now q) refl none)
    ∙ (sym (place_behind q x.now ys) ∙ ap (place_of q) (sym (map-append (λ x. x.now) xs (x ∷ [])))))))

-- what is added

pub was_there : (m : BTreeMap (Bor (List ℕ)) ℕ) (xs : List (Bor (List ℕ))) (x : Bor (List ℕ)) → Finds m xs → is_some (place_in m x.now) ≡ true → map (λ x. x.now) xs ≡ with_space (map (λ x. x.now) xs) x.now
was_there m xs x f e =
    let ys = map (λ x. x.now) xs in
    ap (λ b. cond b ys (ys ++ x.now ∷ [])) (sym (sym (is_there x.now ys) ∙ (ap is_some (sym (f x.now)) ∙ e)))

pub is_added : (m : BTreeMap (Bor (List ℕ)) ℕ) (xs : List (Bor (List ℕ))) (x : Bor (List ℕ)) → Finds m xs → is_some (place_in m x.now) ≡ false → map (λ x. x.now) (xs ++ x ∷ []) ≡ with_space (map (λ x. x.now) xs) x.now
is_added m xs x f e =
    let ys = map (λ x. x.now) xs in
    map-append (λ x. x.now) xs (x ∷ []) ∙ ap (λ b. cond b ys (ys ++ x.now ∷ [])) (sym (sym (is_there x.now ys) ∙ (ap is_some (sym (f x.now)) ∙ e)))
