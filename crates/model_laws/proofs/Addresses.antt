-- Where an address leads: an endpoint that a node wrote leads to that node and that target.
use Rattle.std.proofs.Common.{ℕ, List, [], ◌∷◌, ◌++◌, ◌≡◌, ◌<◌, ◌≤◌, ◌+◌, ◌-◌, ◌^◌, drop, Bool, true, false, Option, Some, None, sym, ap, subst, ◌∙◌, arith, refl, suc, zero}
use Rattle.std.specs.Prelude.{nat_eq, codes, decimal, option_and_then}
use Rattle.std.specs.Str.Parse.{digits_value_after}
use Rattle.std.proofs.lemmas.Bool.{eqb-true, eqb-false}
use Rattle.std.proofs.lemmas.List.{append_assoc}
use Rattle.std.proofs.lemmas.Fmt.{decimal_is_IsNumeral}
use Rattle.at_base.specs.declared.target.Target.{Target}
use Rattle.endpoints.specs.Addresses.{IsWritten, path_of, endpoint_of, after_prefix, split_at, target_of, target_at}
use Rattle.at_model.specs.World.{Node, new_nodes, place_or, place_of, Hosts, HaveOwnAddresses, IsNumber, example_base}
use Rattle.endpoints.proofs.Inverses.{behind_prefix, no_digit, prefix_back, target_back}
use Rattle.endpoints.proofs.TextSplits.{Lacks, split_first}
use Rattle.model_laws.specs.ReachedWorlds.{ExamplesAreApart}

-- numbers in decimal
same_decimal : (m n : ℕ) → m < 2 ^ 64 → n < 2 ^ 64 → decimal m ≡ decimal n → m ≡ n
same_decimal m n h k e = sym (decimal_is_IsNumeral m h).1 ∙ ap (digits_value_after 10 0) e ∙ (decimal_is_IsNumeral n k).1

-- what stands before the first of a byte
split_same : (c : ℕ) (a b x y : List ℕ) → Lacks c a → Lacks c b → a ++ c ∷ x ≡ b ++ c ∷ y → a ≡ b
split_same c a b x y h k e = front_same (sym (split_first c a x h) ∙ ap (split_at c) e ∙ split_first c b y k)
  where
    front : Option (List ℕ × List ℕ) → List ℕ
    front None = []
    front (Some p) = p.0

    front_same : ◌≡◌ {A = Option (List ℕ × List ℕ)} (Some (a, x)) (Some (b, y)) → a ≡ b
    front_same e = ap front e

-- the bases of examples
base_parts : (m n : ℕ) (rest path : List ℕ) → m < 2 ^ 64 → n < 2 ^ 64 → example_base m ++ rest ≡ example_base n ++ path → m ≡ n
base_parts m n rest path h k e =
    let cut : decimal m ++ (codes ".example" ++ rest) ≡ decimal n ++ (codes ".example" ++ path) =
    sym (append_assoc (decimal m) (codes ".example") rest) ∙ ap (drop 8) e ∙ append_assoc (decimal n) (codes ".example") path in
    same_decimal m n h k (split_same 46 (decimal m) (decimal n) (codes "example" ++ rest) (codes "example" ++ path)
    (no_digit 46 m (omega arith) h) (no_digit 46 n (omega arith) k) cut)

pub examples_apart : ExamplesAreApart
examples_apart count small m n rest path S T (least, most) (low, high) there here = base_parts m n rest path (omega (arith, most, small)) (omega (arith, high, small))

-- addresses on the nodes of a world
pub record IsPlace (base_of : ℕ → List ℕ) (first count : ℕ) (address : List ℕ) (p : ℕ × Target) : Type 0 where
  pub least : first ≤ p.0
  pub most : p.0 < first + count
  pub target : target_at (base_of p.0) address ≡ Some p.1

place_at : (base_of : ℕ → List ℕ) (first count : ℕ) (address : List ℕ) (t : Option Target) (rest : Option (ℕ × Target)) (p : ℕ × Target) → target_at (base_of first) address ≡ t
    → (rest ≡ Some p → IsPlace base_of (first + 1) count address p) → place_or first t rest ≡ Some p → IsPlace base_of first (suc count) address p
place_at base_of first count address None rest p e f g =
    let h : IsPlace base_of (first + 1) count address p = f g in
    record { least = omega (arith, h.least); most = omega (arith, h.most); target = h.target }
place_at base_of first count address (Some T) rest p e f g =
    let q : ℕ × Target = (first, T) in
    let same : q ≡ p = cc in
    subst (IsPlace base_of first (suc count) address) same (record { least = omega arith; most = omega arith; target = e })

pub place_is : (base_of : ℕ → List ℕ) (count first : ℕ) (address : List ℕ) (p : ℕ × Target) → place_of first (new_nodes base_of count first) address ≡ Some p → IsPlace base_of first count address p
place_is base_of zero first address p e = absurd cc
place_is base_of (suc count) first address p e =
    place_at base_of first count address (target_at (base_of first) address) (place_of (first + 1) (new_nodes base_of count (first + 1)) address) p refl
    (place_is base_of count (first + 1) address p) e

pub other_base : (hosts : Hosts) (m n : ℕ) (T : Target) → HaveOwnAddresses hosts → IsNumber hosts m → IsNumber hosts n → (m ≡ n → ⊥) → IsWritten T
    → target_at (hosts.base_of m) (hosts.base_of n ++ path_of T) ≡ None
other_base hosts m n T apart h k differ written = by_prefix (after_prefix (hosts.base_of m) (hosts.base_of n ++ path_of T)) refl
  where
    by_target : (rest : List ℕ) (o : Option Target) → target_of rest ≡ o → hosts.base_of m ++ rest ≡ hosts.base_of n ++ path_of T → o ≡ None
    by_target rest None e f = refl
    by_target rest (Some S) e f = absurd (differ (apart m n rest (path_of T) S T h k e (target_back T written) f))

    by_prefix : (o : Option (List ℕ)) → after_prefix (hosts.base_of m) (hosts.base_of n ++ path_of T) ≡ o → option_and_then target_of o ≡ None
    by_prefix None e = refl
    by_prefix (Some rest) e = by_target rest (target_of rest) refl (sym (behind_prefix (hosts.base_of m) (hosts.base_of n ++ path_of T) rest e))

place_back : (hosts : Hosts) (k first n : ℕ) (T : Target) → HaveOwnAddresses hosts → 1 ≤ first → first + k ≤ hosts.count + 1 → first ≤ n → n < first + k → IsWritten T
    → place_of first (new_nodes hosts.base_of k first) (hosts.base_of n ++ path_of T) ≡ Some (n, T)
place_back hosts zero first n T apart one within least most h = absurd (omega (arith, least, most))
place_back hosts (suc k) first n T apart one within least most h =
    by_number (λ i. place_back hosts k (first + 1) n T apart (omega (arith, one)) (omega (arith, within)) i (omega (arith, most)) h) (nat_eq first n) refl
  where
    here : target_at (hosts.base_of n) (hosts.base_of n ++ path_of T) ≡ Some T
    here = ap (option_and_then target_of) (prefix_back (hosts.base_of n) (path_of T)) ∙ target_back T h

    later : Option (ℕ × Target)
    later = place_of (first + 1) (new_nodes hosts.base_of k (first + 1)) (hosts.base_of n ++ path_of T)

    by_number : (first + 1 ≤ n → later ≡ Some (n, T)) → (c : Bool) → nat_eq first n ≡ c → place_or first (target_at (hosts.base_of first) (hosts.base_of n ++ path_of T)) later ≡ Some (n, T)
    by_number rest true c =
        let same : first ≡ n = eqb-true first n c in
        subst (λ m. place_or m (target_at (hosts.base_of m) (hosts.base_of n ++ path_of T)) later ≡ Some (n, T)) (sym same) (ap (λ o. place_or n o later) here)
    by_number rest false c =
        let other : first ≡ n → ⊥ = eqb-false first n c in
        ap (λ o. place_or first o later)
        (other_base hosts first n T apart (one, omega (arith, within)) (omega (arith, one, least), omega (arith, most, within)) other h)
        ∙ rest (omega (arith, least, other))

-- An endpoint that a node wrote leads to that node and that target.
pub leads_home : (hosts : Hosts) (n : ℕ) (T : Target) → HaveOwnAddresses hosts → 1 ≤ n → n ≤ hosts.count → IsWritten T
    → place_of 1 (new_nodes hosts.base_of hosts.count 1) (endpoint_of (hosts.base_of n) T).address ≡ Some (n, T)
leads_home hosts n T apart least most h = place_back hosts hosts.count 1 n T apart (omega arith) (omega arith) least (omega (arith, most)) h

-- where an address leads depends on the bases of the nodes alone
abbrev pub HaveBases : List Node → List Node → Type 0
HaveBases [] [] = Unit {0}
HaveBases [] (y ∷ ys) = ⊥
HaveBases (x ∷ xs) [] = ⊥
HaveBases (x ∷ xs) (y ∷ ys) = (x.base ≡ y.base) × HaveBases xs ys

pub same_place : (n : ℕ) (xs ys : List Node) (address : List ℕ) → HaveBases xs ys → place_of n xs address ≡ place_of n ys address
same_place n [] [] address h = refl
same_place n [] (y ∷ ys) address h = absurd h
same_place n (x ∷ xs) [] address h = absurd h
same_place n (x ∷ xs) (y ∷ ys) address (e, h) = λ i. place_or n (target_at (e i) address) (same_place (n + 1) xs ys address h i)
