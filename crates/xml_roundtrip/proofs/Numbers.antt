-- There are no more numbered prefixes than bytes of the canonical text.
use Rattle.std.proofs.Common.{◌≡◌, refl, sym, subst, ap, ◌∙◌, arith, ℕ, ◌≤◌, List, [], ◌∷◌, ◌++◌, length, length-append, le_trans, Bool, true, false, not, cond, ◌||◌, Option, Some, None, is_some, codes}
use Rattle.std.specs.List.{filter, fold, flat_map, list_any}
use Rattle.std.specs.Str.{bytes_eq}
use Rattle.std.proofs.lemmas.Slice.Eq.{bytes_eq-Decides}
use Rattle.xml_profile.specs.declared.tree.Tree.{Tree}
use Rattle.xml_profile.specs.Prefixes.{xml, fixed_prefix}
use Rattle.xml_profile.specs.CanonicalText.{declare, enumerate, spaces_of, declared_by, numbered_by, name_text, declaration_text, attribute_text, is_end, start_text, content_text, end_text, canonical_text}

-- without a fixed prefix
abbrev has_number : List ℕ → Bool
has_number s = not (is_some (fixed_prefix s))

kept_last : {X : Type 0} (p : X → Bool) (xs : List X) (x : X) → filter p (xs ++ x ∷ []) ≡ cond (p x) (filter p xs ++ x ∷ []) (filter p xs)
kept_last p [] x = refl
kept_last p (y ∷ xs) x = ap (λ v. cond (p y) (y ∷ v) v) (kept_last p xs x) ∙ by_case (p y) (p x)
  where
    by_case : (a b : Bool) → cond a (y ∷ cond b (filter p xs ++ x ∷ []) (filter p xs)) (cond b (filter p xs ++ x ∷ []) (filter p xs)) ≡ cond b (cond a (y ∷ filter p xs) (filter p xs) ++ x ∷ []) (cond a (y ∷ filter p xs) (filter p xs))
    by_case true true = refl
    by_case true false = refl
    by_case false true = refl
    by_case false false = refl

-- what passes is found among what is kept
found_kept : (p : List ℕ → Bool) (s : List ℕ) → p s ≡ true → (xs : List (List ℕ)) → list_any (bytes_eq s) (filter p xs) ≡ list_any (bytes_eq s) xs
found_kept p s h [] = refl
found_kept p s h (x ∷ xs) = by_case (p x) (bytes_eq s x) refl refl (found_kept p s h xs)
  where
    by_case : (a b : Bool) → p x ≡ a → bytes_eq s x ≡ b → list_any (bytes_eq s) (filter p xs) ≡ list_any (bytes_eq s) xs → list_any (bytes_eq s) (cond a (x ∷ filter p xs) (filter p xs)) ≡ (bytes_eq s x || list_any (bytes_eq s) xs)
    by_case true b e f go = ap (λ v. bytes_eq s x || v) go
    by_case false true e f go = let same : p s ≡ p x = ap p ((bytes_eq-Decides s x).0 f) in let k : true ≡ false = sym h ∙ (same ∙ e) in cc
    by_case false false e f go = go ∙ ap (λ v. v || list_any (bytes_eq s) xs) (sym f)

step : (xs : List (List ℕ)) (o : Option (List ℕ)) → enumerate (filter has_number xs) o ≡ filter has_number (declare xs o)
step xs None = refl
step xs (Some s) = by_case (bytes_eq s xml) (is_some (fixed_prefix s)) (list_any (bytes_eq s) xs) refl refl refl
  where
    by_case : (a b d : Bool) → bytes_eq s xml ≡ a → is_some (fixed_prefix s) ≡ b → list_any (bytes_eq s) xs ≡ d
        → cond b (filter has_number xs) (cond (list_any (bytes_eq s) (filter has_number xs)) (filter has_number xs) (filter has_number xs ++ s ∷ [])) ≡ filter has_number (cond a xs (cond d xs (xs ++ s ∷ [])))
    by_case true true d e f g = refl
    by_case true false d e f g = let k : is_some (fixed_prefix s) ≡ true = ap (λ v. is_some (fixed_prefix v)) ((bytes_eq-Decides s xml).0 e) in let l : true ≡ false = sym k ∙ f in cc
    by_case false true true e f g = refl
    by_case false true false e f g = sym (kept_last has_number xs s ∙ ap (λ b. cond (not b) (filter has_number xs ++ s ∷ []) (filter has_number xs)) f)
    by_case false false true e f g = ap (λ b. cond b (filter has_number xs) (filter has_number xs ++ s ∷ [])) (found_kept has_number s (ap not f) xs ∙ g)
    by_case false false false e f g =
        ap (λ b. cond b (filter has_number xs) (filter has_number xs ++ s ∷ [])) (found_kept has_number s (ap not f) xs ∙ g)
        ∙ sym (kept_last has_number xs s ∙ ap (λ b. cond (not b) (filter has_number xs ++ s ∷ []) (filter has_number xs)) f)

all_steps : (xs : List (List ℕ)) (os : List (Option (List ℕ))) → fold enumerate (filter has_number xs) os ≡ filter has_number (fold declare xs os)
all_steps xs [] = refl
all_steps xs (o ∷ os) = ap (λ v. fold enumerate v os) (step xs o) ∙ all_steps (declare xs o) os

fewer_kept : {X : Type 0} (p : X → Bool) (xs : List X) → length (filter p xs) ≤ length xs
fewer_kept p [] = omega arith
fewer_kept p (x ∷ xs) = by_case (p x) (fewer_kept p xs)
  where
    by_case : (b : Bool) → length (filter p xs) ≤ length xs → length (cond b (x ∷ filter p xs) (filter p xs)) ≤ length (x ∷ xs)
    by_case true h = omega arith
    by_case false h = omega arith

-- each declaration takes some bytes
some_bytes : (numbered ds : List (List ℕ)) → length ds ≤ length (flat_map (declaration_text numbered) ds)
some_bytes numbered [] = omega arith
some_bytes numbered (d ∷ ds) =
    let e = length-append (declaration_text numbered d) (flat_map (declaration_text numbered) ds) in
    let f = some_bytes numbered ds in
    omega arith

inner_le : (a b c : List ℕ) → length b ≤ length (a ++ (b ++ c))
inner_le a b c = omega (arith, length-append a (b ++ c), length-append b c)

first_le : (a b : List ℕ) → length a ≤ length (a ++ b)
first_le a b = omega (arith, length-append a b)

start_le : (numbered ds : List (List ℕ)) (name attributes : List ℕ) → length (flat_map (declaration_text numbered) ds) ≤ length (60 ∷ (name ++ (flat_map (declaration_text numbered) ds ++ attributes)))
start_le numbered ds name attributes = let h = inner_le name (flat_map (declaration_text numbered) ds) attributes in omega arith

pub fewer_numbers : (t : Tree) → length (numbered_by t) ≤ length (canonical_text t)
fewer_numbers t =
    let numbered : numbered_by t ≡ filter has_number (declared_by t) = all_steps [] (spaces_of t) in
    let a : length (numbered_by t) ≤ length (declared_by t) = subst (λ v. length v ≤ length (declared_by t)) (sym numbered) (fewer_kept has_number (declared_by t)) in
    let b = some_bytes (numbered_by t) (declared_by t) in
    let c = start_le (numbered_by t) (declared_by t) (name_text (numbered_by t) t.name) (flat_map (attribute_text (numbered_by t)) t.attributes ++ cond (is_end t.children) (codes "/>") (codes ">")) in
    let d = first_le (start_text (numbered_by t) (declared_by t) t.name t.attributes t.children) (content_text (numbered_by t) t.children ++ end_text (numbered_by t) t.name t.children) in
    le_trans a (le_trans b (le_trans c d))
