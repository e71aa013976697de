-- What a tag says, piece by piece.
use Rattle.std.proofs.Common.{◌≡◌, refl, sym, ap, ◌∙◌, ℕ, List, [], ◌∷◌, ◌++◌, Bool, true, false, Option, Some, None}
use Rattle.std.specs.Str.{bytes_eq}
use Rattle.std.proofs.lemmas.Slice.Eq.{bytes_eq-Decides}
use Rattle.xml_grammar.specs.Characters.{◌>>=◌, same, Parts, parts}
use Rattle.xml_grammar.specs.Tokens.{Pair}
use Rattle.xml_grammar.specs.Namespaces.{Binding, Spelled, Sorted, sort, sort_in, declared_by, attribute_name, attributes_of}
use Rattle.xml_grammar.specs.Code.Joining.{joined, sort_one}
use Rattle.xml_grammar.proofs.StepLaws.{same_is, same_same}
use Rattle.xml_profile.specs.declared.name.Attribute.{Attribute}
use Rattle.xml_profile.specs.declared.name.QName.{QName}

-- Texts are compared as names are

both_ways : (b c : Bool) → (b ≡ true → c ≡ true) → (c ≡ true → b ≡ true) → b ≡ c
both_ways true true f g = refl
both_ways true false f g = sym (f refl)
both_ways false true f g = g refl
both_ways false false f g = refl

pub bytes_same : (a b : List ℕ) → bytes_eq a b ≡ same a b
bytes_same a b = both_ways (bytes_eq a b) (same a b) (λ e. ap (same a) (sym ((bytes_eq-Decides a b).0 e)) ∙ same_same a) (λ e. (bytes_eq-Decides a b).1 (same_is a b e))

pub same_sym : (a b : List ℕ) → same a b ≡ same b a
same_sym a b = both_ways (same a b) (same b a) (λ e. ap (λ v. same v a) (sym (same_is a b e)) ∙ same_same a) (λ e. ap (λ v. same v b) (sym (same_is b a e)) ∙ same_same b)

-- Sorting

joined_in : (name : Parts) (value : List ℕ) (d : Option Binding) (s t : Sorted) → sort_in name value d (joined s t) ≡ joined (sort_in name value d s) t
joined_in name value None s t = refl
joined_in name value (Some b) s t = refl

sort_first : (o : Option Parts) (value : List ℕ) (a b : Option Sorted)
    → (o >>= (λ name. (a >>= (λ s. b >>= (λ t. Some (joined s t)))) >>= (λ rest. Some (sort_in name value (declared_by name value) rest))))
    ≡ ((o >>= (λ name. a >>= (λ rest. Some (sort_in name value (declared_by name value) rest)))) >>= (λ s. b >>= (λ t. Some (joined s t))))
sort_first None value a b = refl
sort_first (Some name) value None b = refl
sort_first (Some name) value (Some s) None = refl
sort_first (Some name) value (Some s) (Some t) = ap Some (joined_in name value (declared_by name value) s t)

nothing_joined : (b : Option Sorted) → b ≡ (b >>= (λ t. Some (joined (record { declarations = []; attributes = [] }) t)))
nothing_joined None = refl
nothing_joined (Some t) = refl

pub sort-append : (xs ys : List Pair) → sort (xs ++ ys) ≡ (sort xs >>= (λ s. sort ys >>= (λ t. Some (joined s t))))
sort-append [] ys = nothing_joined (sort ys)
sort-append (x ∷ xs) ys =
    ap (λ o. parts x.name >>= (λ name. o >>= (λ rest. Some (sort_in name x.value (declared_by name x.value) rest)))) (sort-append xs ys)
    ∙ sort_first (parts x.name) x.value (sort xs) (sort ys)

pub sort_more : (xs : List Pair) (p : Pair) (name : Parts) (s : Sorted) → sort xs ≡ Some s → parts p.name ≡ Some name → sort (xs ++ p ∷ []) ≡ Some (joined s (sort_one name p.value))
sort_more xs p name s e f =
    sort-append xs (p ∷ []) ∙ (ap (λ o. o >>= (λ s. sort (p ∷ []) >>= (λ t. Some (joined s t)))) e
    ∙ ap (λ o. (o >>= (λ name. Some (sort_in name p.value (declared_by name p.value) (record { declarations = []; attributes = [] })))) >>= (λ t. Some (joined s t))) f)

pub sort_stops : (xs ys : List Pair) (p : Pair) (s : Sorted) → sort xs ≡ Some s → parts p.name ≡ None → sort (xs ++ p ∷ ys) ≡ None
sort_stops xs ys p s e f =
    sort-append xs (p ∷ ys) ∙ (ap (λ o. o >>= (λ s. sort (p ∷ ys) >>= (λ t. Some (joined s t)))) e
    ∙ ap (λ o. (o >>= (λ name. sort ys >>= (λ rest. Some (sort_in name p.value (declared_by name p.value) rest)))) >>= (λ t. Some (joined s t))) f)

-- Attributes

attributes_first : (o : Option QName) (value : List ℕ) (a b : Option (List Attribute))
    → (o >>= (λ name. (a >>= (λ s. b >>= (λ t. Some (s ++ t)))) >>= (λ more. Some (record { name = name; value = value } ∷ more))))
    ≡ ((o >>= (λ name. a >>= (λ more. Some (record { name = name; value = value } ∷ more)))) >>= (λ s. b >>= (λ t. Some (s ++ t))))
attributes_first None value a b = refl
attributes_first (Some name) value None b = refl
attributes_first (Some name) value (Some s) None = refl
attributes_first (Some name) value (Some s) (Some t) = refl

nothing_before : (b : Option (List Attribute)) → b ≡ (b >>= (λ t. Some t))
nothing_before None = refl
nothing_before (Some t) = refl

pub attributes-append : (bs : List Binding) (xs ys : List Spelled) → attributes_of bs (xs ++ ys) ≡ (attributes_of bs xs >>= (λ s. attributes_of bs ys >>= (λ t. Some (s ++ t))))
attributes-append bs [] ys = nothing_before (attributes_of bs ys)
attributes-append bs (x ∷ xs) ys =
    ap (λ o. attribute_name bs x.name >>= (λ name. o >>= (λ more. Some (record { name = name; value = x.value } ∷ more)))) (attributes-append bs xs ys)
    ∙ attributes_first (attribute_name bs x.name) x.value (attributes_of bs xs) (attributes_of bs ys)

pub attributes_more : (bs : List Binding) (xs : List Spelled) (a : Spelled) (name : QName) (s : List Attribute) → attributes_of bs xs ≡ Some s → attribute_name bs a.name ≡ Some name
    → attributes_of bs (xs ++ a ∷ []) ≡ Some (s ++ record { name = name; value = a.value } ∷ [])
attributes_more bs xs a name s e f =
    attributes-append bs xs (a ∷ []) ∙ (ap (λ o. o >>= (λ s. attributes_of bs (a ∷ []) >>= (λ t. Some (s ++ t)))) e
    ∙ ap (λ o. (o >>= (λ name. Some (record { name = name; value = a.value } ∷ []))) >>= (λ t. Some (s ++ t))) f)

pub attributes_stop : (bs : List Binding) (xs ys : List Spelled) (a : Spelled) (s : List Attribute) → attributes_of bs xs ≡ Some s → attribute_name bs a.name ≡ None → attributes_of bs (xs ++ a ∷ ys) ≡ None
attributes_stop bs xs ys a s e f =
    attributes-append bs xs (a ∷ ys) ∙ (ap (λ o. o >>= (λ s. attributes_of bs (a ∷ ys) >>= (λ t. Some (s ++ t)))) e
    ∙ ap (λ o. (o >>= (λ name. attributes_of bs ys >>= (λ more. Some (record { name = name; value = a.value } ∷ more)))) >>= (λ t. Some (s ++ t))) f)
