-- The fields of a head can be kept, and are found.
use Rattle.std.proofs.Common.{ℕ, List, [], ◌∷◌, ◌≡◌, ◌≤◌, bytes_eq, map, take, get_or, length, drop, refl, sym, ap, subst, ◌∙◌, inl, inr, arith}
use Rattle.std.specs.Prelude.{All, IsTrue}
use Rattle.std.proofs.lemmas.Bool.{cases_Bool}
use Rattle.std.proofs.lemmas.List.Elements.{All-nil, All-cons, All-head, All-tail}
use Rattle.httparse.specs.Grammar.{Field, IsField, RequestHead, field_value, is_value_byte, is_token_byte}
use Rattle.httparse.specs.Spans.{IsHeaderWithin, IsRequestAt, IsRequestWithin, header_bytes, name_and_value, span_bytes}
use Rattle.httparse.specs.declared.spans.HeaderSpan.{HeaderSpan}
use Rattle.httparse.specs.declared.spans.Span.{Span}
use Rattle.httparse.specs.declared.spans.RequestSpans.{RequestSpans}
use Rattle.httparse.proofs.RunLemmas.{length-slice_range}
use Rattle.httparse.proofs.TrimLemmas.{AllPass-trim_ows}
use Rattle.http_header.specs.FieldName.{IsFieldName}
use Rattle.http_header.specs.FieldValue.{FieldValue, IsFieldValue}
use Rattle.http_header.specs.HeaderMap.{Entries, get_all}
use Rattle.http_header.specs.Token.{lowercase, is_token_byte as is_name_byte, is_value_byte as is_kept_byte}
use Rattle.http_post.specs.Heads.{values_in}
use Rattle.http_post.specs.FieldMaps.{CanBeKept, HasFields, named}

abbrev Pair : Type 0
Pair = List ℕ × List ℕ

-- both grammars have the same bytes
one_token : (b : ℕ) → is_token_byte b ≡ is_name_byte b
unfolding is_token_byte is_name_byte
one_token b = refl

one_value : (b : ℕ) → is_value_byte b ≡ is_kept_byte b
one_value b = refl

name_kept : (bytes : List ℕ) → All (λ b. IsTrue (is_token_byte b)) bytes → All (λ b. IsTrue (is_name_byte b)) bytes
name_kept bytes h k d lt = sym (one_token (get_or bytes k d)) ∙ h k d lt

value_kept : (bytes : List ℕ) → All (λ b. IsTrue (is_value_byte b)) bytes → All (λ b. IsTrue (is_kept_byte b)) bytes
value_kept bytes h k d lt = sym (one_value (get_or bytes k d)) ∙ h k d lt

span_long : (bytes : List ℕ) (s : Span) → s.end ≤ length bytes → s.start ≤ s.end → length (span_bytes bytes s) ≤ length bytes
span_long bytes s e o = omega (arith, length-slice_range bytes s.start s.end o e, e)

within_more : (n m : ℕ) (p : HeaderSpan) → n ≤ m → IsHeaderWithin n p → IsHeaderWithin m p
within_more n m p le h = ((h.0.0, omega (arith, h.0.1, le)), (h.1.0, omega (arith, h.1.1, le)))

-- one place, of one field
one_kept : (bytes : List ℕ) (p : HeaderSpan) (f : Field) → length bytes ≤ 8192 → IsHeaderWithin (length bytes) p → header_bytes bytes p ≡ name_and_value f → IsField f → CanBeKept bytes p
one_kept bytes p f fits within same field =
    let name : span_bytes bytes p.name ≡ f.name = λ i. (same i).0 in
    let value : span_bytes bytes p.value ≡ field_value f = λ i. (same i).1 in
    let long : length (span_bytes bytes p.name) ≤ length bytes = span_long bytes p.name within.0.1 within.0.0 in (
      within,
      (
        subst IsFieldName (sym name) ((field.name.0, name_kept f.name field.name.1), omega (arith, long, ap length name, fits)),
        subst IsFieldValue (sym value) (value_kept (field_value f) (AllPass-trim_ows is_value_byte f.raw field.raw)),
      ),
    )

all_kept : (bytes : List ℕ) (ps : List HeaderSpan) (fs : List Field) → length bytes ≤ 8192 → All (IsHeaderWithin (length bytes)) ps
    → map (header_bytes bytes) ps ≡ map name_and_value fs → All IsField fs → All (CanBeKept bytes) ps
all_kept bytes [] fs fits within same fields = All-nil (CanBeKept bytes)
all_kept bytes (p ∷ ps) [] fits within same fields = absurd (omega (arith, ap length same))
all_kept bytes (p ∷ ps) (f ∷ fs) fits within same fields =
    All-cons (CanBeKept bytes) p ps
    (one_kept bytes p f fits (All-head (IsHeaderWithin (length bytes)) p ps within) (ap (λ xs. get_or xs 0 ([], [])) same) (All-head IsField f fs fields))
    (all_kept bytes ps fs fits (All-tail (IsHeaderWithin (length bytes)) p ps within) (ap (drop 1) same) (All-tail IsField f fs fields))

pub keepable : (bytes : List ℕ) (places : List HeaderSpan) (spans : RequestSpans) (h : RequestHead) → IsRequestAt bytes places spans h
    → IsRequestWithin bytes places spans → length bytes ≤ 8192 → All (CanBeKept bytes) (take spans.headers places)
keepable bytes places spans h at within fits =
    all_kept bytes (take spans.headers places) h.fields fits
    (λ k d lt. within_more spans.len (length bytes) (get_or (take spans.headers places) k d) within.section.len_fits (within.section.headers_fit k d lt))
    at.fields at.reads.0.fields

-- the values under a name are those of the fields of that name
found_values : (name : List ℕ) (fs : List Field) → map (λ v. v.bytes) (named name (map name_and_value fs)) ≡ values_in name fs
found_values name [] = refl
found_values name (f ∷ fs) = elim (cases_Bool (bytes_eq (lowercase f.name) name)) [
  | inl t ↦ rw t (ap (λ z. field_value f ∷ z) (found_values name fs))
  | inr n ↦ rw n (found_values name fs)
]

pub found : (bytes : List ℕ) (places : List HeaderSpan) (spans : RequestSpans) (m : Entries FieldValue)
    → ((name : List ℕ) → get_all m name ≡ named name (map (header_bytes bytes) (take spans.headers places))) → HasFields bytes places spans m
found bytes places spans m h head at name =
    ap (map (λ v. v.bytes)) (h name ∙ ap (named name) at.fields) ∙ found_values name head.fields
