-- Names and prefixes as they are kept apart.
use Rattle.std.proofs.Common.{◌≡◌, refl, ap, ◌∙◌, ℕ, zero, suc, List, [], ◌∷◌, Bool, true, false, cond, not, ◌&&◌, ◌||◌, Option, Some, None, option_map, map, drop, Bor, Ordering}
use Rattle.std.proofs.lemmas.Map.Text.{is_eq-slice_cmp}
use Rattle.std.specs.BTreeSet.{BTreeSet, Updates, contains}
use Rattle.std.specs.declared.cmp.Ordering.TheVariants.{Less, Equal, Greater}
use Rattle.std.specs.Cmp.Lexicographic.{slice_cmp}
use Rattle.std.specs.Option.{option_cmp}
use Rattle.std.specs.Ordering.{nat_cmp, is_eq, ordering_then}
use Rattle.xml_grammar.specs.Characters.{same}
use Rattle.xml_grammar.specs.Namespaces.{are_apart, names, same_name, same_space, Binding, declares, may_bind, may_declare}
use Rattle.xml_grammar.specs.Code.Keys.{name_of}
use Rattle.xml_grammar.specs.Code.Places.{binding_of}
use Rattle.xml_grammar.specs.declared.scope.Binding.{Binding as BindingRead}
use Rattle.xml_grammar.proofs.MeaningLaws.{bytes_same, same_sym}
use Rattle.xml_profile.specs.declared.name.QName.{QName}
use Rattle.xml_profile.specs.declared.name.Attribute.{Attribute}

abbrev pub key_cmp : Bor (List ℕ) × Option (Bor (List ℕ)) → Bor (List ℕ) × Option (Bor (List ℕ)) → Ordering
key_cmp x y = ordering_then (slice_cmp nat_cmp x.0.now y.0.now) (option_cmp (λ a b. slice_cmp nat_cmp a.now b.now) x.1 y.1)

abbrev pub has_name : BTreeSet (Bor (List ℕ) × Option (Bor (List ℕ))) → Bor (List ℕ) × Option (Bor (List ℕ)) → Bool
has_name s q = contains key_cmp s q

text_same : (a b : List ℕ) → is_eq (slice_cmp nat_cmp a b) ≡ same a b
text_same a b = is_eq-slice_cmp a b ∙ bytes_same a b

both_equal : (a b : Ordering) → is_eq (ordering_then a b) ≡ is_eq a && is_eq b
both_equal Less b = refl
both_equal Equal b = refl
both_equal Greater b = refl

space_same : (a b : Option (Bor (List ℕ))) → is_eq (option_cmp (λ x y. slice_cmp nat_cmp x.now y.now) a b) ≡ same_space (option_map (λ s. s.now) a) (option_map (λ s. s.now) b)
space_same None None = refl
space_same None (Some b) = refl
space_same (Some a) None = refl
space_same (Some a) (Some b) = text_same a.now b.now

key_same : (x y : Bor (List ℕ) × Option (Bor (List ℕ))) → is_eq (key_cmp x y) ≡ same_name (name_of x) (name_of y)
key_same x y =
    both_equal (slice_cmp nat_cmp x.0.now y.0.now) (option_cmp (λ a b. slice_cmp nat_cmp a.now b.now) x.1 y.1)
    ∙ (ap (λ b. b && is_eq (option_cmp (λ a b. slice_cmp nat_cmp a.now b.now) x.1 y.1)) (text_same x.0.now y.0.now)
    ∙ ap (λ b. same x.0.now y.0.now && b) (space_same x.1 y.1))

same_space_sym : (a b : Option (List ℕ)) → same_space a b ≡ same_space b a
same_space_sym None None = refl
same_space_sym None (Some b) = refl
same_space_sym (Some a) None = refl
same_space_sym (Some a) (Some b) = same_sym a b

same_name_sym : (m n : QName) → same_name m n ≡ same_name n m
same_name_sym m n =
    ap (λ b. b && same_space m.space n.space) (same_sym m.local n.local)
    ∙ ap (λ b. same n.local m.local && b) (same_space_sym m.space n.space)

-- The names behind a place

cond_or : (b c : Bool) → cond b true c ≡ b || c
cond_or true c = refl
cond_or false c = refl

pub name_added : (s t : BTreeSet (Bor (List ℕ) × Option (Bor (List ℕ)))) (k : Bor (List ℕ) × Option (Bor (List ℕ))) (a : Attribute) (rest : List Attribute) → name_of k ≡ a.name
    → ((q : Bor (List ℕ) × Option (Bor (List ℕ))) → has_name s q ≡ names (name_of q) rest) → Updates key_cmp s t k true
    → (q : Bor (List ℕ) × Option (Bor (List ℕ))) → has_name t q ≡ names (name_of q) (a ∷ rest)
name_added s t k a rest e h u q =
    u.0 q
    ∙ (cond_or (is_eq (key_cmp k q)) (has_name s q)
    ∙ (ap (λ b. b || has_name s q) (key_same k q ∙ (same_name_sym (name_of k) (name_of q) ∙ ap (same_name (name_of q)) e))
    ∙ ap (λ b. same_name (name_of q) a.name || b) (h q)))

pub apart_added : (a : Attribute) (rest : List Attribute) → names a.name rest ≡ false → are_apart rest ≡ true → are_apart (a ∷ rest) ≡ true
apart_added a rest e f = ap (λ b. not b && are_apart rest) e ∙ f

pub not_apart : (a : Attribute) (rest : List Attribute) → names a.name rest ≡ true → are_apart (a ∷ rest) ≡ false
not_apart a rest e = ap (λ b. not b && are_apart rest) e

and_false : (b : Bool) → b && false ≡ false
and_false true = refl
and_false false = refl

pub not_apart_behind : (xs : List Attribute) (i : ℕ) → are_apart (drop i xs) ≡ false → are_apart xs ≡ false
not_apart_behind xs zero e = e
not_apart_behind [] (suc i) e = e
not_apart_behind (x ∷ xs) (suc i) e = ap (λ b. not (names x.name xs) && b) (not_apart_behind xs i e) ∙ and_false (not (names x.name xs))

-- The prefixes behind a place

abbrev pub has_prefix : BTreeSet (Bor (List ℕ)) → Bor (List ℕ) → Bool
has_prefix s q = contains (λ x y. slice_cmp nat_cmp x.now y.now) s q

pub prefix_added : (s t : BTreeSet (Bor (List ℕ))) (p : Bor (List ℕ)) (b : Binding) (bs : List Binding) → p.now ≡ b.prefix
    → ((q : Bor (List ℕ)) → has_prefix s q ≡ declares q.now bs) → Updates (λ x y. slice_cmp nat_cmp x.now y.now) s t p true
    → (q : Bor (List ℕ)) → has_prefix t q ≡ declares q.now (b ∷ bs)
prefix_added s t p b bs e h u q =
    u.0 q
    ∙ (cond_or (is_eq (slice_cmp nat_cmp p.now q.now)) (has_prefix s q)
    ∙ (ap (λ c. c || has_prefix s q) (text_same p.now q.now ∙ (same_sym p.now q.now ∙ ap (same q.now) e))
    ∙ ap (λ c. same q.now b.prefix || c) (h q)))

pub may_add : (b : Binding) (bs : List Binding) → may_bind b ≡ true → declares b.prefix bs ≡ false → may_declare bs ≡ true → may_declare (b ∷ bs) ≡ true
may_add b bs e f g = ap (λ c. c && not (declares b.prefix bs) && may_declare bs) e ∙ (ap (λ c. not c && may_declare bs) f ∙ g)

pub declared_twice : (b : Binding) (bs : List Binding) → declares b.prefix bs ≡ true → may_declare (b ∷ bs) ≡ false
declared_twice b bs e = ap (λ c. may_bind b && not c && may_declare bs) e ∙ ap (λ c. c && may_declare bs) (and_false (may_bind b))

pub may_not_bind : (b : Binding) (bs : List Binding) → may_bind b ≡ false → may_declare (b ∷ bs) ≡ false
may_not_bind b bs e = ap (λ c. c && not (declares b.prefix bs) && may_declare bs) e

pub may_not_behind : (xs : List BindingRead) (i : ℕ) → may_declare (map binding_of (drop i xs)) ≡ false → may_declare (map binding_of xs) ≡ false
may_not_behind xs zero e = e
may_not_behind [] (suc i) e = e
may_not_behind (x ∷ xs) (suc i) e =
    let b = binding_of x in
    ap (λ c. may_bind b && not (declares b.prefix (map binding_of xs)) && c) (may_not_behind xs i e)
    ∙ and_false (may_bind b && not (declares b.prefix (map binding_of xs)))
