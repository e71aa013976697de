-- The declarations of a root bind each prefix to its namespace.
use Rattle.std.proofs.Common.{◌≡◌, refl, sym, subst, ap, ap₂, ◌∙◌, ℕ, ◌^◌, ◌<◌, List, [], ◌∷◌, ◌++◌, length, map, Bool, true, false, not, cond, ◌&&◌, ◌||◌, Option, Some, None, codes}
use Rattle.std.specs.List.{list_all, list_any, fold}
use Rattle.std.specs.Str.{bytes_eq}
use Rattle.std.proofs.lemmas.Slice.Eq.{bytes_eq-Decides}
use Rattle.xml_profile.specs.Prefixes.{xml, xmlns}
use Rattle.xml_profile.specs.CanonicalText.{prefix_of, with_space, declare}
use Rattle.xml_profile.specs.Declarations.{is_declared, has_prefix, is_once, PrefixesDiffer}
use Rattle.xml_profile.specs.SpellableTrees as spellable
use Rattle.xml_grammar.specs.Characters.{same}
use Rattle.xml_grammar.specs.Namespaces.{xml_space, xmlns_space, Binding, is_empty, may_bind, declares, may_declare, or_else, lookup, space_of}
use Rattle.xml_grammar.proofs.StepLaws.{same_is, same_same}
use Rattle.xml_roundtrip.proofs.Bools.{and_true, both_true, not_true, not_false, tells_same, all_both}
use Rattle.xml_roundtrip.proofs.Names.{is_prefix}

pub same_bytes : (a b : List ℕ) → same a b ≡ bytes_eq a b
same_bytes a b = tells_same (same a b) (bytes_eq a b) (λ e. (bytes_eq-Decides a b).1 (same_is a b e))
    (λ e. subst (λ v. same a v ≡ true) ((bytes_eq-Decides a b).0 e) (same_same a))

abbrev pub binding : List (List ℕ) → List ℕ → Binding
binding numbered s = record { prefix = prefix_of numbered s; space = s }

abbrev pub bindings : List (List ℕ) → List (List ℕ) → List Binding
bindings numbered spaces = map (binding numbered) spaces

-- a namespace that a declaration may name
abbrev pub may_name : List (List ℕ) → List ℕ → Bool
may_name numbered s = not (bytes_eq s xml) && (spellable.is_space s && has_prefix numbered (Some s))

-- what the declarations of a root come to
pub record Declares (numbered declared : List (List ℕ)) : Type 0 where
  pub small : length numbered < 2 ^ 63
  pub differ : PrefixesDiffer numbered
  pub once : is_once declared ≡ true
  pub all_named : list_all (may_name numbered) declared ≡ true

-- What all namespaces of names have, all that are declared have

abbrev fits : (Option (List ℕ) → Bool) → List ℕ → Bool
fits p s = not (bytes_eq s xml) && p (Some s)

declare_fits : (p : Option (List ℕ) → Bool) (xs : List (List ℕ)) (o : Option (List ℕ)) → list_all (fits p) xs ≡ true → p o ≡ true → list_all (fits p) (declare xs o) ≡ true
declare_fits p xs None h k = h
declare_fits p xs (Some s) h k = by_xml (bytes_eq s xml) refl
  where
    by_place : (b : Bool) → fits p s ≡ true → list_all (fits p) (cond b xs (xs ++ s ∷ [])) ≡ true
    by_place true e = h
    by_place false e = all_both (fits p) xs (s ∷ []) h (both_true (fits p s) true e refl)

    by_xml : (b : Bool) → bytes_eq s xml ≡ b → list_all (fits p) (cond b xs (with_space xs s)) ≡ true
    by_xml true e = h
    by_xml false e = by_place (list_any (bytes_eq s) xs) (both_true (not (bytes_eq s xml)) (p (Some s)) (not_false (bytes_eq s xml) e) k)

pub declared_fit : (p : Option (List ℕ) → Bool) (xs : List (List ℕ)) (os : List (Option (List ℕ))) → list_all (fits p) xs ≡ true → list_all p os ≡ true → list_all (fits p) (fold declare xs os) ≡ true
declared_fit p xs [] h k = h
declared_fit p xs (o ∷ os) h k = let (a, b) = and_true (p o) (list_all p os) k in declared_fit p (declare xs o) os (declare_fits p xs o h a) b

-- Look-ups

module _ (numbered : List (List ℕ)) (differ : PrefixesDiffer numbered) where
  same_prefix : (s x : List ℕ) → has_prefix numbered (Some s) ≡ true → has_prefix numbered (Some x) ≡ true → same (prefix_of numbered s) (prefix_of numbered x) ≡ bytes_eq s x
  same_prefix s x h k = tells_same (same (prefix_of numbered s) (prefix_of numbered x)) (bytes_eq s x)
      (λ e. (bytes_eq-Decides s x).1 (differ s x h k (same_is (prefix_of numbered s) (prefix_of numbered x) e)))
      (λ e. subst (λ v. same (prefix_of numbered s) (prefix_of numbered v) ≡ true) ((bytes_eq-Decides s x).0 e) (same_same (prefix_of numbered s)))

  name_parts : (s : List ℕ) → may_name numbered s ≡ true → (bytes_eq s xml ≡ false) × (spellable.is_space s ≡ true) × (has_prefix numbered (Some s) ≡ true)
  name_parts s h =
      let (a, b) = and_true (not (bytes_eq s xml)) (spellable.is_space s && has_prefix numbered (Some s)) h in
      let (c, d) = and_true (spellable.is_space s) (has_prefix numbered (Some s)) b in
      (not_true (bytes_eq s xml) a, c, d)

  looked_up : (s : List ℕ) → has_prefix numbered (Some s) ≡ true → (xs : List (List ℕ)) → list_all (may_name numbered) xs ≡ true
      → lookup (prefix_of numbered s) (bindings numbered xs) ≡ cond (list_any (bytes_eq s) xs) (Some s) None
  looked_up s h [] k = refl
  looked_up s h (x ∷ xs) k =
      let (a, b) = and_true (may_name numbered x) (list_all (may_name numbered) xs) k in
      ap₂ (λ o t. or_else o (cond t (Some x) None)) (looked_up s h xs b) (same_prefix s x h (name_parts x a).2) ∙ by_case (bytes_eq s x) (list_any (bytes_eq s) xs) refl
    where
      by_case : (t u : Bool) → bytes_eq s x ≡ t → or_else (cond u (Some s) None) (cond t (Some x) None) ≡ cond (t || u) (Some s) None
      by_case true true e = refl
      by_case true false e = ap Some (sym ((bytes_eq-Decides s x).0 e))
      by_case false true e = refl
      by_case false false e = refl

  declared_later : (s : List ℕ) → has_prefix numbered (Some s) ≡ true → (xs : List (List ℕ)) → list_all (may_name numbered) xs ≡ true
      → declares (prefix_of numbered s) (bindings numbered xs) ≡ list_any (bytes_eq s) xs
  declared_later s h [] k = refl
  declared_later s h (x ∷ xs) k =
      let (a, b) = and_true (may_name numbered x) (list_all (may_name numbered) xs) k in
      ap₂ (λ t u. t || u) (same_prefix s x h (name_parts x a).2) (declared_later s h xs b)

-- no default namespace is declared
pub no_default : (numbered : List (List ℕ)) → length numbered < 2 ^ 63 → (xs : List (List ℕ)) → lookup [] (bindings numbered xs) ≡ None
no_default numbered small [] = refl
no_default numbered small (x ∷ xs) = ap₂ (λ o b. or_else o (cond b (Some x) None)) (no_default numbered small xs) (not_same (prefix_of numbered x) (is_prefix numbered small x).some)
  where
    not_same : (p : List ℕ) → is_empty p ≡ false → same [] p ≡ false
    not_same [] h = cc
    not_same (c ∷ p) h = refl

pub space_found : (numbered declared : List (List ℕ)) → Declares numbered declared → (s : List ℕ) → is_declared declared (Some s) ≡ true → has_prefix numbered (Some s) ≡ true
    → space_of (bindings numbered declared) (prefix_of numbered s) ≡ Some s
space_found numbered declared d s h k =
    ap₂ (λ b o. cond b (Some xml_space) o) (same_prefix numbered d.differ s xml k refl) (looked_up numbered d.differ s k declared d.all_named) ∙ by_case (bytes_eq s xml) (list_any (bytes_eq s) declared) refl h
  where
    by_case : (t u : Bool) → bytes_eq s xml ≡ t → (t || u) ≡ true → cond t (Some xml_space) (cond u (Some s) None) ≡ Some s
    by_case true u e h = ap Some (sym ((bytes_eq-Decides s xml).0 e))
    by_case false true e h = refl
    by_case false false e h = cc

-- The declarations may stand

same_empty : (s : List ℕ) → not (spellable.is_empty s) ≡ true → not (is_empty s) ≡ true
same_empty [] h = cc
same_empty (c ∷ s) h = refl

binds : (numbered : List (List ℕ)) → length numbered < 2 ^ 63 → PrefixesDiffer numbered → (s : List ℕ) → may_name numbered s ≡ true → may_bind (binding numbered s) ≡ true
binds numbered small differ s h =
    let (a, b, c) = name_parts numbered differ s h in
    let (d, e) = and_true (not (spellable.is_empty s)) (not (bytes_eq s xmlns) && spellable.is_text s) b in
    let (f, g) = and_true (not (bytes_eq s xmlns)) (spellable.is_text s) e in
    let p = is_prefix numbered small s in
    by_case (same (prefix_of numbered s) (codes "xmlns")) (same (prefix_of numbered s) (codes "xml")) (same s xml_space) (same s xmlns_space) (is_empty (prefix_of numbered s)) (is_empty s)
    p.no_xmlns (same_prefix numbered differ s xml c refl ∙ a) (same_bytes s xml ∙ a) (same_bytes s xmlns ∙ not_true (bytes_eq s xmlns) f) (not_true (is_empty s) (same_empty s d))
  where
    by_case : (t u v w x y : Bool) → t ≡ false → u ≡ false → v ≡ false → w ≡ false → y ≡ false → (not t && cond u v (not v && not w && (x || not y))) ≡ true
    by_case t u v w true y a b c d e = rw (a, b, c, d) refl
    by_case t u v w false y a b c d e = rw (a, b, c, d, e) refl

pub may_stand : (numbered : List (List ℕ)) → length numbered < 2 ^ 63 → PrefixesDiffer numbered → (xs : List (List ℕ)) → is_once xs ≡ true → list_all (may_name numbered) xs ≡ true
    → may_declare (bindings numbered xs) ≡ true
may_stand numbered small differ [] h k = refl
may_stand numbered small differ (x ∷ xs) h k =
    let (a, b) = and_true (not (list_any (bytes_eq x) xs)) (is_once xs) h in
    let (c, d) = and_true (may_name numbered x) (list_all (may_name numbered) xs) k in
    let e : declares (prefix_of numbered x) (bindings numbered xs) ≡ false = declared_later numbered differ x (name_parts numbered differ x c).2 xs d ∙ not_true (list_any (bytes_eq x) xs) a in
    both_true (may_bind (binding numbered x) && not (declares (prefix_of numbered x) (bindings numbered xs))) (may_declare (bindings numbered xs))
    (both_true (may_bind (binding numbered x)) (not (declares (prefix_of numbered x) (bindings numbered xs))) (binds numbered small differ x c)
    (not_false (declares (prefix_of numbered x) (bindings numbered xs)) e)) (may_stand numbered small differ xs b d)
