-- A fault that is written says what it was made of, and is read as the local name of its code.
use Rattle.std.proofs.Common.{◌≡◌, refl, ap, ◌∙◌, arith, ℕ, ◌≤◌, List, [], ◌∷◌, ◌++◌, length, Bool, true, false, cond, ◌&&◌, Option, Some, None, Ok, IfSome, append_assoc}
use Rattle.std.specs.Prelude.{codes}
use Rattle.std.specs.Option.{option_map}
use Rattle.std.specs.Str.{bytes_eq}
use Rattle.xml_profile.specs.declared.name.QName.{QName}
use Rattle.xml_profile.specs.declared.tree.Tree.{Tree}
use Rattle.xml_profile.specs.Prefixes.{addressing, coordination, fixed_prefix, soap, transaction, work, xml}
use Rattle.soap_profile.specs.Values.{is_empty, is_white, trim, trim_end, trim_start}
use Rattle.soap_profile.specs.Faults.{code_text, fault_code, fault_detail, fault_of, fault_text, fault_tree, has_colon, local_part, prefixed}
use Rattle.soap_profile.proofs.Colons.{local_last, local_stops}
use Rattle.soap_profile.proofs.Lists.{direct_text_of_children}

module _ (space local text : List ℕ) where
  abbrev made : Option QName → Tree
  made detail = fault_tree space local text detail

  code_of : (detail : Option QName) → fault_code (made detail) ≡ Some (trim (code_text space local))
  code_of detail = ap (λ (bytes : List ℕ). Some (trim bytes)) (direct_text_of_children (code_text space local))

  text_of : (detail : Option QName) → fault_text (made detail) ≡ Some (trim text)
  text_of detail = ap (λ (bytes : List ℕ). Some (trim bytes)) (direct_text_of_children text)

  detail_of : (detail : Option QName) → fault_detail (made detail) ≡ option_map (λ name. name ∷ []) detail
  detail_of None = refl
  detail_of (Some name) = refl

  read_of : (detail : Option QName) → fault_of (made detail) ≡ Ok (local_part (trim (code_text space local)))
  read_of None = ap (λ (bytes : List ℕ). Ok (local_part (trim bytes))) (direct_text_of_children (code_text space local))
  read_of (Some name) = ap (λ (bytes : List ℕ). Ok (local_part (trim bytes))) (direct_text_of_children (code_text space local))

-- a prefix, a colon and a local name

ends_shorter : (bytes : List ℕ) → length (trim_end bytes) ≤ length bytes
ends_shorter [] = omega arith
ends_shorter (c ∷ cs) = by_test (is_white c && is_empty (trim_end cs)) (ends_shorter cs)
  where
    by_test : (b : Bool) → length (trim_end cs) ≤ length cs → length (cond b [] (c ∷ trim_end cs)) ≤ length (c ∷ cs)
    by_test true h = omega arith
    by_test false h = omega arith

starts_shorter : (bytes : List ℕ) → length (trim_start bytes) ≤ length bytes
starts_shorter [] = omega arith
starts_shorter (c ∷ cs) = by_test (is_white c) (starts_shorter cs)
  where
    by_test : (b : Bool) → length (trim_start cs) ≤ length cs → length (cond b (trim_start cs) (c ∷ cs)) ≤ length (c ∷ cs)
    by_test true h = omega arith
    by_test false h = omega arith

-- a text that is trimmed has no white space at its end
ends_well : (bytes : List ℕ) → trim bytes ≡ bytes → trim_end bytes ≡ bytes
ends_well [] h = refl
ends_well (c ∷ cs) h = by_test (is_white c) h
  where
    by_test : (b : Bool) → trim_end (cond b (trim_start cs) (c ∷ cs)) ≡ c ∷ cs → trim_end (c ∷ cs) ≡ c ∷ cs
    by_test true e =
        let size : length (trim_end (trim_start cs)) ≡ length (c ∷ cs) = ap length e in
        let short = ends_shorter (trim_start cs) in
        let shorter = starts_shorter cs in
        absurd (omega (arith, size, short, shorter))
    by_test false e = e

some_end : (front back : List ℕ) → is_empty (front ++ 58 ∷ back) ≡ false
some_end [] back = refl
some_end (c ∷ front) back = refl

not_both : (white : Bool) (rest : List ℕ) (c : ℕ) → is_empty rest ≡ false → cond (white && is_empty rest) [] (c ∷ rest) ≡ c ∷ rest
not_both true rest c h = rw h refl
not_both false rest c h = refl

end_kept : (front back : List ℕ) → trim_end back ≡ back → trim_end (front ++ 58 ∷ back) ≡ front ++ 58 ∷ back
end_kept [] back h = ap (λ (bytes : List ℕ). 58 ∷ bytes) h
end_kept (c ∷ front) back h =
    ap (λ (bytes : List ℕ). cond (is_white c && is_empty bytes) [] (c ∷ bytes)) (end_kept front back h)
    ∙ not_both (is_white c) (front ++ 58 ∷ back) c (some_end front back)

-- a prefix begins with no white space
abbrev BeginsWell : List ℕ → Type 0
BeginsWell [] = ⊥
BeginsWell (c ∷ cs) = is_white c ≡ false

behind_prefix : (prefix local : List ℕ) → BeginsWell prefix → has_colon local ≡ false → trim local ≡ local
    → local_part (trim (prefix ++ codes ":" ++ local)) ≡ local
behind_prefix [] local b h e = absurd b
behind_prefix (c ∷ cs) local b h e =
    let whole : (c ∷ cs) ++ codes ":" ++ local ≡ (c ∷ cs) ++ 58 ∷ local = append_assoc (c ∷ cs) (codes ":") local in
    let start : trim_start ((c ∷ cs) ++ 58 ∷ local) ≡ (c ∷ cs) ++ 58 ∷ local = rw b refl in
    let trimmed : trim ((c ∷ cs) ++ 58 ∷ local) ≡ (c ∷ cs) ++ 58 ∷ local = ap trim_end start ∙ end_kept (c ∷ cs) local (ends_well local e) in
    ap (λ (bytes : List ℕ). local_part (trim bytes)) whole ∙ (ap local_part trimmed ∙ local_last (c ∷ cs) local h)

choice : (b : Bool) (prefix : List ℕ) (others : Option (List ℕ)) → BeginsWell prefix → IfSome others BeginsWell → IfSome (cond b (Some prefix) others) BeginsWell
choice true prefix others h k = h
choice false prefix others h k = k

begins : (space : List ℕ) → IfSome (fixed_prefix space) BeginsWell
begins space =
    choice (bytes_eq space soap) (codes "s") _ refl
    (choice (bytes_eq space addressing) (codes "wsa") _ refl
    (choice (bytes_eq space coordination) (codes "wscoor") _ refl
    (choice (bytes_eq space transaction) (codes "wsat") _ refl
    (choice (bytes_eq space work) (codes "work") _ refl
    (choice (bytes_eq space xml) (codes "xml") _ refl tt)))))

name_behind : (prefix : Option (List ℕ)) (local : List ℕ) → IfSome prefix BeginsWell → has_colon local ≡ false → trim local ≡ local
    → local_part (trim (prefixed prefix local)) ≡ local
name_behind None local b h e = ap local_part e ∙ local_stops local h
name_behind (Some prefix) local b h e = behind_prefix prefix local b h e

pub name_read : (space local text : List ℕ) (detail : Option QName) → has_colon local ≡ false → trim local ≡ local
    → fault_of (fault_tree space local text detail) ≡ Ok local
name_read space local text detail h e =
    read_of space local text detail ∙ ap Ok (name_behind (fixed_prefix space) local (begins space) h e)

-- of a tree that is one

pub code_said : (t : Tree) (space local text : List ℕ) (detail : Option QName) → t ≡ fault_tree space local text detail
    → fault_code t ≡ Some (trim (code_text space local))
code_said t space local text detail e = ap fault_code e ∙ code_of space local text detail

pub text_said : (t : Tree) (space local text : List ℕ) (detail : Option QName) → t ≡ fault_tree space local text detail → fault_text t ≡ Some (trim text)
text_said t space local text detail e = ap fault_text e ∙ text_of space local text detail

pub detail_said : (t : Tree) (space local text : List ℕ) (detail : Option QName) → t ≡ fault_tree space local text detail
    → fault_detail t ≡ option_map (λ name. name ∷ []) detail
detail_said t space local text detail e = ap fault_detail e ∙ detail_of space local text detail

pub reads_back : (t : Tree) (space local text : List ℕ) (detail : Option QName) → t ≡ fault_tree space local text detail
    → fault_of t ≡ Ok (local_part (trim (code_text space local)))
reads_back t space local text detail e = ap fault_of e ∙ read_of space local text detail

pub name_reads_back : (t : Tree) (space local text : List ℕ) (detail : Option QName) → t ≡ fault_tree space local text detail
    → has_colon local ≡ false → trim local ≡ local → fault_of t ≡ Ok local
name_reads_back t space local text detail e h k = ap fault_of e ∙ name_read space local text detail h k
