-- What a map of fields has under each name.
use Rattle.std.proofs.Common.{ℕ, List, [], ◌∷◌, ◌++◌, ◌≡◌, true, false, bytes_eq, map, take, get_or, length, ◌+◌, ◌<◌, refl, sym, ap, ◌∙◌, inl, inr, append-nil}
use Rattle.std.proofs.lemmas.Bool.{cases_Bool, true≢false}
use Rattle.std.proofs.lemmas.Slice.Eq.{bytes_eq-Decides}
use Rattle.http_header.specs.FieldValue.{FieldValue, plain_value}
use Rattle.http_header.specs.HeaderMap.{Entries, append, get_all}
use Rattle.http_header.specs.Token.{lowercase}
use Rattle.http_header.proofs.HeaderMapLemmas.{get_all-append_same, get_all-append_other}
use Rattle.httparse.specs.Spans.{header_bytes, span_bytes}
use Rattle.httparse.specs.declared.spans.HeaderSpan.{HeaderSpan}
use Rattle.std.proofs.lemmas.List.{take_more, map-append}
use Rattle.http_post.specs.FieldMaps.{named}

abbrev Pair : Type 0
Pair = List ℕ × List ℕ

named_append : (name : List ℕ) (ps qs : List Pair) → named name (ps ++ qs) ≡ named name ps ++ named name qs
named_append name [] qs = refl
named_append name (p ∷ ps) qs = elim (cases_Bool (bytes_eq (lowercase p.0) name)) [
  | inl t ↦ rw t (ap (λ z. plain_value p.1 ∷ z) (named_append name ps qs))
  | inr n ↦ rw n (named_append name ps qs)
]

pub one_more : (m : Entries FieldValue) (ps : List Pair) (p : Pair) → ((name : List ℕ) → get_all m name ≡ named name ps)
    → (name : List ℕ) → get_all (append m (lowercase p.0) (plain_value p.1)) name ≡ named name (ps ++ p ∷ [])
one_more m ps p h name = elim (cases_Bool (bytes_eq (lowercase p.0) name)) [
  | inl t ↦ same ((bytes_eq-Decides (lowercase p.0) name).0 t) t
  | inr n ↦ other n
]
  where
    same : lowercase p.0 ≡ name → bytes_eq (lowercase p.0) name ≡ true → get_all (append m (lowercase p.0) (plain_value p.1)) name ≡ named name (ps ++ p ∷ [])
    same e t = ap (λ z. get_all (append m z (plain_value p.1)) name) e ∙ get_all-append_same m name (plain_value p.1) ∙ ap (λ z. z ++ plain_value p.1 ∷ []) (h name)
        ∙ sym (named_append name ps (p ∷ []) ∙ ap (λ z. named name ps ++ z) (rw t refl))

    other : bytes_eq (lowercase p.0) name ≡ false → get_all (append m (lowercase p.0) (plain_value p.1)) name ≡ named name (ps ++ p ∷ [])
    other f = get_all-append_other m (lowercase p.0) name (plain_value p.1) differ ∙ h name
        ∙ sym (named_append name ps (p ∷ []) ∙ ap (λ z. named name ps ++ z) (rw f refl) ∙ append-nil (named name ps))
      where
        differ : lowercase p.0 ≡ name → ⊥
        differ e = true≢false (sym ((bytes_eq-Decides (lowercase p.0) name).1 e) ∙ f)

-- one place further
pub kept_more : (bytes : List ℕ) (places : List HeaderSpan) (i : ℕ) (nowhere : HeaderSpan) (before after : Entries FieldValue) (name value : List ℕ)
    → i < length places
    → ((n : List ℕ) → get_all before n ≡ named n (map (header_bytes bytes) (take i places)))
    → name ≡ span_bytes bytes (get_or places i nowhere).name → value ≡ span_bytes bytes (get_or places i nowhere).value
    → after ≡ append before (lowercase name) (plain_value value)
    → (n : List ℕ) → get_all after n ≡ named n (map (header_bytes bytes) (take (i + 1) places))
kept_more bytes places i nowhere before after name value lt h en ev ea n =
    let place : HeaderSpan = get_or places i nowhere in
    ap (λ m. get_all m n) (ea ∙ ap (λ z. append before (lowercase z) (plain_value value)) en ∙ ap (λ z. append before (lowercase (span_bytes bytes place.name)) (plain_value z)) ev)
    ∙ one_more before (map (header_bytes bytes) (take i places)) (header_bytes bytes place) h n
    ∙ sym (ap (λ z. named n (map (header_bytes bytes) z)) (take_more places i nowhere lt)
    ∙ ap (named n) (map-append (header_bytes bytes) (take i places) (place ∷ [])))
