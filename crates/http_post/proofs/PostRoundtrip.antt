-- What is written of a post is read as it.
use Rattle.std.proofs.Common.{ℕ, List, [], ◌∷◌, ◌++◌, ◌≡◌, ◌≤◌, ◌<◌, ◌-◌, Bool, true, false, Ok, length, take, drop, refl, sym, ap, subst, ◌∙◌, arith, append_assoc, append-nil}
use Rattle.std.specs.Prelude.{All, codes, decimal, slice_index}
use Rattle.std.specs.Prelude.{◌&&◌, not, reverse}
use Rattle.std.specs.Char.{is_ascii_digit}
use Rattle.std.specs.Int.{IsInRange}
use Rattle.std.specs.List.{list_all}
use Rattle.std.specs.Str.Parse.{AllDigits, IsNumeral, digits_value}
use Rattle.std.proofs.lemmas.Bool.{eq-eqb, le-leb, ne_eqb, true≢false}
use Rattle.std.proofs.lemmas.Fmt.{decimal_is_IsNumeral}
use Rattle.std.proofs.lemmas.List.{drop_at, length-append, reverse-append, take_all}
use Rattle.std.proofs.lemmas.List.Elements.{All-cons, All-nil}
use Rattle.std.proofs.lemmas.List.Folds.{list_all-append}
use Rattle.std.proofs.lemmas.List.Sums.{AllPass-from_list_all}
use Rattle.std.proofs.lemmas.Str.Parse.{tells_digits}
use Rattle.httparse.proofs.TrimLemmas.{trim_ows_space}
use Rattle.http_post.specs.Heads.{framed_by, framing_of, is_decimal}
use Rattle.http_post.specs.ReadablePosts.{CanBeRead}
use Rattle.http_post.specs.Requests.{Asks, Body, all_there, asking, framed, path_of, without_query}
use Rattle.http_post.specs.declared.framing.Framing.TheVariants.{Sized}
use Rattle.http_post.proofs.PartialHeads.{front}
use Rattle.httparse.specs.Grammar.{Field, IsField, IsRequestHead, ReadsRequest, RequestHead, crlf, is_ows, is_token_byte, is_uri_byte, is_value_byte, print_blank, print_end, print_field, print_request, print_section, print_version, skip_ows, trim_ows}
use Rattle.http_post.specs.Laws.{PostsAreReadBack}
use Rattle.http_post.specs.OutBytes.{authority, post_of, action_field, field, head_end, line, request_line, type_field}

abbrev of : List ℕ → List ℕ → Field
of name value = record { name = name; raw = 32 ∷ value; end = crlf }

field_is : (name value : List ℕ) → field name value ≡ print_field (of name value)
unfolding line field
field_is name value = simp append_assoc refl

abbrev quoted : List ℕ → List ℕ
quoted action = codes "\"" ++ action ++ codes "\""

abbrev fields_of : List ℕ → List ℕ → ℕ → List Field
fields_of host action count =
    of (codes "Host") host ∷ of (codes "Content-Type") (codes "text/xml; charset=utf-8") ∷ of (codes "SOAPAction") (quoted action)
    ∷ of (codes "Content-Length") (decimal count) ∷ of (codes "Connection") (codes "close") ∷ []

abbrev head_of : List ℕ → List ℕ → List ℕ → ℕ → RequestHead
head_of path host action count =
    record { blank = []; method = codes "POST"; target = path; minor = 1; line_end = crlf; fields = fields_of host action count; last = crlf }

abbrev written : List ℕ → List ℕ → List ℕ → ℕ → List ℕ → List ℕ
written path host action count body =
    request_line path ++ field (codes "Host") host ++ type_field ++ action_field action ++ head_end count ++ body

start_is : (path rest : List ℕ) → request_line path ++ rest ≡ codes "POST " ++ (path ++ (codes " HTTP/1.1\r\n" ++ rest))
unfolding line request_line
start_is path rest = simp append_assoc refl

section_is : (host action : List ℕ) (count : ℕ) (body : List ℕ)
    → field (codes "Host") host ++ (type_field ++ (action_field action ++ (head_end count ++ body))) ≡ print_section (fields_of host action count) crlf ++ body
unfolding type_field action_field head_end line
section_is host action count body =
    sections _ _ _ _ _ _ _ _ _ _ body (field_is (codes "Host") host) (field_is (codes "Content-Type") (codes "text/xml; charset=utf-8")) (field_is (codes "SOAPAction") (quoted action))
    (field_is (codes "Content-Length") (decimal count)) (field_is (codes "Connection") (codes "close"))
  where
    sections : (a b c d e a' b' c' d' e' body : List ℕ) → a ≡ a' → b ≡ b' → c ≡ c' → d ≡ d' → e ≡ e'
        → a ++ (b ++ (c ++ ((d ++ e ++ (13 ∷ 10 ∷ [])) ++ body))) ≡ ((a' ++ (b' ++ (c' ++ (d' ++ (e' ++ []))))) ++ (13 ∷ 10 ∷ [])) ++ body
    sections a b c d e a' b' c' d' e' body p q r s t =
        (λ i. p i ++ (q i ++ (r i ++ ((s i ++ t i ++ (13 ∷ 10 ∷ [])) ++ body)))) ∙ simp (append_assoc, append-nil) refl

moved : (path section body : List ℕ) → codes "POST " ++ (path ++ (codes " HTTP/1.1\r\n" ++ (section ++ body))) ≡ (codes "POST " ++ (path ++ (codes " HTTP/1.1\r\n" ++ section))) ++ body
moved path section body = simp append_assoc refl

shape : (path section : List ℕ) → codes "POST " ++ (path ++ (codes " HTTP/1.1\r\n" ++ section))
    ≡ print_blank [] ++ codes "POST" ++ 32 ∷ path ++ 32 ∷ print_version 1 ++ print_end crlf ++ section
shape path section = simp append_assoc refl

flat : (a b c d e body : List ℕ) → a ++ b ++ c ++ d ++ e ++ body ≡ a ++ (b ++ (c ++ (d ++ (e ++ body))))
flat a b c d e body = simp append_assoc refl

pub written_is : (path host action : List ℕ) (count : ℕ) (body : List ℕ) → written path host action count body ≡ print_request (head_of path host action count) ++ body
unfolding print_request
written_is path host action count body =
    flat (request_line path) (field (codes "Host") host) type_field (action_field action) (head_end count) body
    ∙ start_is path (field (codes "Host") host ++ (type_field ++ (action_field action ++ (head_end count ++ body))))
    ∙ ap (λ z. codes "POST " ++ (path ++ (codes " HTTP/1.1\r\n" ++ z))) (section_is host action count body)
    ∙ moved path (print_section (fields_of host action count) crlf) body
    ∙ ap (λ z. z ++ body) (shape path (print_section (fields_of host action count) crlf))

-- digits
passing : (test : ℕ → Bool) → ((c : ℕ) → IsInRange 48 57 c → test c ≡ true) → (ds : List ℕ) → AllDigits 10 ds → list_all test ds ≡ true
passing test digit [] h = refl
passing test digit (c ∷ cs) h =
    let k = tells_digits.parts c cs h in
    rw (digit c k.0) (passing test digit cs k.1)

digit_passes : (c : ℕ) → IsInRange 48 57 c → is_ascii_digit c ≡ true
digit_passes c r = rw (le-leb 48 c r.0, le-leb c 57 r.1) refl

digit_is_value : (c : ℕ) → IsInRange 48 57 c → is_value_byte c ≡ true
digit_is_value c r = rw (ne_eqb c 9 (λ e. omega (arith, r.0, e)), le-leb 32 c (omega (arith, r.0)), ne_eqb c 127 (λ e. omega (arith, r.1, e))) refl

digit_is_no_space : (c : ℕ) → IsInRange 48 57 c → not (is_ows c) ≡ true
digit_is_no_space c r = rw (ne_eqb c 32 (λ e. omega (arith, r.0, e)), ne_eqb c 9 (λ e. omega (arith, r.0, e))) refl

kept : (xs : List ℕ) → list_all (λ c. not (is_ows c)) xs ≡ true → skip_ows xs ≡ xs
kept [] h = refl
kept (c ∷ cs) h = by_case (is_ows c) refl
  where
    by_case : (b : Bool) → is_ows c ≡ b → skip_ows (c ∷ cs) ≡ c ∷ cs
    by_case true e = absurd (true≢false (sym h ∙ ap (λ b. not b && list_all (λ c. not (is_ows c)) cs) e))
    by_case false e = rw e refl

two : (a b : Bool) → (a && b) ≡ true → (a ≡ true) × (b ≡ true)
two true true e = (refl, refl)
two true false e = absurd (true≢false (sym e))
two false b e = absurd (true≢false (sym e))

backwards : (test : ℕ → Bool) (xs : List ℕ) → list_all test xs ≡ true → list_all test (reverse xs) ≡ true
backwards test [] h = refl
backwards test (c ∷ cs) h =
    let parts = two (test c) (list_all test cs) h in
    ap (list_all test) (reverse-append (c ∷ []) cs) ∙ list_all-append test (reverse cs) (c ∷ []) ∙ rw (backwards test cs parts.1, parts.0) refl

count_is : (n : ℕ) → n ≤ 65536 → IsNumeral 10 (decimal n) × (digits_value 10 (decimal n) ≡ n)
count_is n le = decimal_is_IsNumeral n (omega (arith, le))

trimmed : (n : ℕ) → n ≤ 65536 → trim_ows (32 ∷ decimal n) ≡ decimal n
trimmed n le =
    let plain : list_all (λ c. not (is_ows c)) (decimal n) ≡ true = passing (λ c. not (is_ows c)) digit_is_no_space (decimal n) (count_is n le).0.1 in
    trim_ows_space (decimal n) (kept (decimal n) plain) (kept (reverse (decimal n)) (backwards (λ c. not (is_ows c)) (decimal n) plain))

decimal_so : (ds : List ℕ) → 0 < length ds → list_all is_ascii_digit ds ≡ true → is_decimal ds ≡ true
decimal_so [] lt h = absurd (omega (arith, lt))
decimal_so (d ∷ ds) lt h = h

one_length : (v : List ℕ) (n : ℕ) → is_decimal v ≡ true → digits_value 10 v ≡ n → n ≤ 65536 → framed_by (v ∷ []) ≡ Ok (Sized n)
one_length v n d e le = rw (d, e, eq-eqb n n refl, le-leb n 65536 le) refl

framing_is : (path host action : List ℕ) (n : ℕ) → n ≤ 65536 → framing_of (head_of path host action n) ≡ Ok (Sized n)
framing_is path host action n le =
    ap (λ v. framed_by (v ∷ [])) (trimmed n le)
    ∙ one_length (decimal n) n (decimal_so (decimal n) (count_is n le).0.0 (passing is_ascii_digit digit_passes (decimal n) (count_is n le).0.1)) (count_is n le).1 le

-- the head is one of the grammar
valued : (name value : List ℕ) → list_all is_token_byte name ≡ true → 0 < length name → list_all is_value_byte value ≡ true → IsField (of name value)
valued name value token some h =
    record { name = (some, AllPass-from_list_all is_token_byte name token); raw = AllPass-from_list_all is_value_byte (32 ∷ value) h }

quoted_so : (action : List ℕ) → list_all is_value_byte action ≡ true → list_all is_value_byte (quoted action) ≡ true
quoted_so action h = list_all-append is_value_byte action (34 ∷ []) ∙ rw h refl

fields_so : (host action : List ℕ) (n : ℕ) → n ≤ 65536 → list_all is_value_byte host ≡ true → list_all is_value_byte action ≡ true → All IsField (fields_of host action n)
unfolding is_token_byte
fields_so host action n le h k =
    All-cons IsField (of (codes "Host") host) (drop 1 (fields_of host action n)) (valued (codes "Host") host refl (omega arith) h)
    (All-cons IsField (of (codes "Content-Type") (codes "text/xml; charset=utf-8")) (drop 2 (fields_of host action n)) (valued (codes "Content-Type") (codes "text/xml; charset=utf-8") refl (omega arith) refl)
    (All-cons IsField (of (codes "SOAPAction") (quoted action)) (drop 3 (fields_of host action n)) (valued (codes "SOAPAction") (quoted action) refl (omega arith) (quoted_so action k))
    (All-cons IsField (of (codes "Content-Length") (decimal n)) (drop 4 (fields_of host action n)) (valued (codes "Content-Length") (decimal n) refl (omega arith) (passing is_value_byte digit_is_value (decimal n) (count_is n le).0.1))
    (All-cons IsField (of (codes "Connection") (codes "close")) [] (valued (codes "Connection") (codes "close") refl (omega arith) refl) (All-nil IsField)))))

some_path : (path : List ℕ) → slice_index path 0 ≡ 47 → 0 < length path
some_path [] e = absurd (omega (arith, e))
some_path (c ∷ cs) e = omega arith

module _ (path host action body post : List ℕ) (can : CanBeRead path host action body post) where
  head_so : IsRequestHead (head_of path host action (length body))
  unfolding is_token_byte
  head_so = record {
    method = (omega arith, AllPass-from_list_all is_token_byte (codes "POST") refl);
    target = (some_path path can.slash, AllPass-from_list_all is_uri_byte path can.target);
    target_text = can.text;
    minor = omega arith;
    fields = fields_so host action (length body) can.most can.name can.value;
  }

  module _ (is : post ≡ written path host action (length body) body) where
    head : RequestHead
    head = head_of path host action (length body)

    post_is : post ≡ print_request (head_of path host action (length body)) ++ body
    post_is = is ∙ written_is path host action (length body) body

    short : length (print_request (head_of path host action (length body))) ≤ 8192
    short = omega (arith, can.fits, ap length post_is, length-append (print_request (head_of path host action (length body))) body)

    reads : ReadsRequest (take 8192 post) (head_of path host action (length body)) (take (8192 - length (print_request (head_of path host action (length body)))) body)
    reads = (head_so, ap (take 8192) post_is ∙ front 8192 (print_request (head_of path host action (length body))) body short)

    behind : body ≡ drop (length (print_request (head_of path host action (length body)))) post
    behind = sym (ap (drop (length (print_request (head_of path host action (length body))))) post_is ∙ drop_at (print_request (head_of path host action (length body))) body (length (print_request (head_of path host action (length body)))) refl)

    whole : Body (Sized (length body)) body (Ok body)
    whole = subst (λ z. Body (Sized (length body)) body (Ok z)) (take_all (length body) body (omega arith)) (all_there (length body) body (omega arith))

    path_so : path_of path ≡ without_query path
    path_so = rw can.slash refl

    pub read_back : Asks post (Ok (record { path = without_query path; body = body }))
    read_back =
        subst (λ z. Asks post (asking z (Ok body))) path_so
        (framed (head_of path host action (length body)) (take (8192 - length (print_request (head_of path host action (length body)))) body) (Sized (length body)) reads
        (framing_is path host action (length body) can.most)
        (subst (λ z. Body (Sized (length body)) z (Ok body)) behind whole))

pub posts_are_read_back : PostsAreReadBack
posts_are_read_back to action body can = read_back to.path (authority to) action body (post_of to action body) can refl
