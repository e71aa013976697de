-- A post whose envelope is longer than the body of a request may be asks for nothing: its head is refused for the length that it tells.
use Rattle.std.proofs.Common.{◌≡◌, ℕ, ◌^◌, ◌<◌, Bool, true, false, not, ◌&&◌, List, [], ◌∷◌, ◌++◌, Result, Ok, Err, length, take, drop, refl, sym, ap, subst, ◌∙◌, arith, append_assoc, append-nil}
use Rattle.std.specs.Prelude.{All, codes, decimal, reverse, slice_index}
use Rattle.std.specs.Char.{is_ascii_digit}
use Rattle.std.specs.List.{list_all}
use Rattle.std.specs.Str.Parse.{digits_value}
use Rattle.std.proofs.lemmas.Bool.{eq-eqb, lt-leb}
use Rattle.std.proofs.lemmas.Fmt.{decimal_is_IsNumeral}
use Rattle.std.proofs.lemmas.List.{take-append-drop}
use Rattle.std.proofs.lemmas.List.Elements.{All-from_recursion}
use Rattle.std.proofs.lemmas.List.Folds.{list_all-append}
use Rattle.std.proofs.lemmas.List.Sums.{AllPass-from_list_all, list_all-from_AllPass}
use Rattle.httparse.specs.Grammar.{Field, IsField, IsRequestHead, ReadsRequest, RequestHead, crlf, is_ows, is_token_byte, is_uri_byte, is_value_byte, print_field, print_request, skip_ows, trim_ows}
use Rattle.httparse.proofs.GrammarLemmas.{ReadsRequest-append, print_request-append, request_unique}
use Rattle.httparse.proofs.TrimLemmas.{AllPass-reverse, trim_ows_space}
use Rattle.addressing.specs.declared.post_to.PostTo.{PostTo}
use Rattle.http_post.specs.Heads.{framed_by, framing_of, is_decimal}
use Rattle.http_post.specs.OutBytes.{action_field, authority, field, head_end, line, post_of, request_line, type_field}
use Rattle.http_post.specs.ReadablePosts.{CanBeRead}
use Rattle.http_post.specs.Requests.{Asked, Asks, framed, no_head, refused}
use Rattle.http_post.specs.declared.framing.Framing.{Framing}
use Rattle.http_post.specs.declared.refusal.HttpRefusal.{HttpRefusal}
use Rattle.http_post.specs.declared.refusal.HttpRefusal.TheVariants.{ContentTooLarge}
use Rattle.wire_posts.specs.Envelopes.{action_in}
use Rattle.deliverables.specs.Deliverables.{LongPostsAskNothing}
use Rattle.deliverables.proofs.ReadablePosts.{posts_can_be_read}
use Rattle.deliverables.proofs.VisibleTexts.{decimal_passes}

abbrev of : List ℕ → List ℕ → Field
of name value = record { name = name; raw = 32 ∷ value; end = crlf }

abbrev quoted : List ℕ → List ℕ
quoted action = codes "\"" ++ action ++ codes "\""

abbrev fields_of : List ℕ → List ℕ → ℕ → List Field
fields_of host action count =
    of (codes "Host") host ∷ of (codes "Content-Type") (codes "text/xml; charset=utf-8") ∷ of (codes "SOAPAction") (quoted action)
    ∷ of (codes "Content-Length") (decimal count) ∷ of (codes "Connection") (codes "close") ∷ []

abbrev with_fields : List ℕ → List Field → RequestHead
with_fields path fields = record { blank = []; method = codes "POST"; target = path; minor = 1; line_end = crlf; fields = fields; last = crlf }

-- the head of a post of so many bytes of content
abbrev head_of : List ℕ → List ℕ → List ℕ → ℕ → RequestHead
head_of path host action count = with_fields path (fields_of host action count)

-- such a post is its head and then its content

field_is : (name value : List ℕ) → field name value ≡ print_field (of name value)
unfolding line field
field_is name value = simp append_assoc refl

regrouped : (post path version end a b c d e body : List ℕ)
    → (post ++ path ++ version ++ end) ++ a ++ b ++ c ++ (d ++ e ++ end) ++ body ≡ post ++ (path ++ (version ++ (end ++ (((a ++ (b ++ (c ++ (d ++ (e ++ []))))) ++ end) ++ body))))
regrouped post path version end a b c d e body = simp (append_assoc, append-nil) refl

of_fields : (path : List ℕ) (a b c d e : Field) (body : List ℕ)
    → request_line path ++ print_field a ++ print_field b ++ print_field c ++ (print_field d ++ print_field e ++ line []) ++ body ≡ print_request (with_fields path (a ∷ b ∷ c ∷ d ∷ e ∷ [])) ++ body
unfolding line request_line
of_fields path a b c d e body =
    regrouped (codes "POST ") path (codes " HTTP/1.1") (codes "\r\n") (print_field a) (print_field b) (print_field c) (print_field d) (print_field e) body
    ∙ sym (print_request-append (with_fields path (a ∷ b ∷ c ∷ d ∷ e ∷ [])) body)

written_is : (to : PostTo) (action body : List ℕ) → post_of to action body ≡ print_request (head_of to.path (authority to) action (length body)) ++ body
unfolding type_field action_field head_end
written_is to action body = simp field_is (of_fields to.path _ _ _ _ _ body)

-- its length is told by digits, with no white space at their ends

none_skipped : (xs : List ℕ) → list_all (λ c. not (is_ows c)) xs ≡ true → skip_ows xs ≡ xs
none_skipped [] h = refl
none_skipped (c ∷ cs) h = by_case (is_ows c) refl
  where
    by_case : (b : Bool) → is_ows c ≡ b → skip_ows (c ∷ cs) ≡ c ∷ cs
    by_case true e = absurd (let same : true ≡ false = sym h ∙ ap (λ b. not b && list_all (λ c. not (is_ows c)) cs) e in cc)
    by_case false e = rw e refl

trimmed : (n : ℕ) → n < 2 ^ 64 → trim_ows (32 ∷ decimal n) ≡ decimal n
trimmed n small =
    let dense : list_all (λ c. not (is_ows c)) (decimal n) ≡ true = decimal_passes (λ c. not (is_ows c)) refl n small in
    let back : list_all (λ c. not (is_ows c)) (reverse (decimal n)) ≡ true =
    list_all-from_AllPass (λ c. not (is_ows c)) (reverse (decimal n)) (AllPass-reverse (λ c. not (is_ows c)) (decimal n) (AllPass-from_list_all (λ c. not (is_ows c)) (decimal n) dense)) in
    trim_ows_space (decimal n) (none_skipped (decimal n) dense) (none_skipped (reverse (decimal n)) back)

some_digits : (ds : List ℕ) → 0 < length ds → list_all is_ascii_digit ds ≡ true → is_decimal ds ≡ true
some_digits [] some h = absurd (omega (arith, some))
some_digits (d ∷ ds) some h = h

too_large : (ds : List ℕ) → is_decimal ds ≡ true → 65536 < digits_value 10 ds → framed_by (ds ∷ []) ≡ Err ContentTooLarge
too_large ds h large = rw (h, eq-eqb (digits_value 10 ds) (digits_value 10 ds) refl, lt-leb (digits_value 10 ds) 65536 large) refl

denied : (path host action : List ℕ) (n : ℕ) → 65536 < n → n < 2 ^ 64 → framing_of (head_of path host action n) ≡ Err ContentTooLarge
denied path host action n large small =
    let ((some, digits), same) = decimal_is_IsNumeral n small in
    ap (λ v. framed_by (v ∷ [])) (trimmed n small)
    ∙ too_large (decimal n) (some_digits (decimal n) some (decimal_passes is_ascii_digit refl n small)) (omega (arith, same, large))

-- the head is one of the grammar

valued : (name value : List ℕ) → list_all is_token_byte name ≡ true → 0 < length name → list_all is_value_byte value ≡ true → IsField (of name value)
valued name value token some h =
    record { name = (some, AllPass-from_list_all is_token_byte name token); raw = AllPass-from_list_all is_value_byte (32 ∷ value) h }

quoted_so : (action : List ℕ) → list_all is_value_byte action ≡ true → list_all is_value_byte (quoted action) ≡ true
quoted_so action h = list_all-append is_value_byte action (34 ∷ []) ∙ rw h refl

some_path : (path : List ℕ) → slice_index path 0 ≡ 47 → 0 < length path
some_path [] e = absurd (omega (arith, e))
some_path (c ∷ cs) e = omega arith

fields_so : (host action : List ℕ) (n : ℕ) → n < 2 ^ 64 → list_all is_value_byte host ≡ true → list_all is_value_byte action ≡ true → All IsField (fields_of host action n)
unfolding is_token_byte
fields_so host action n small h k =
    All-from_recursion IsField (fields_of host action n) (
      valued (codes "Host") host refl (omega arith) h,
      (
        valued (codes "Content-Type") (codes "text/xml; charset=utf-8") refl (omega arith) refl,
        (
          valued (codes "SOAPAction") (quoted action) refl (omega arith) (quoted_so action k),
          (
            valued (codes "Content-Length") (decimal n) refl (omega arith) (decimal_passes is_value_byte refl n small),
            (valued (codes "Connection") (codes "close") refl (omega arith) refl, tt),
          ),
        ),
      ),
    )

head_so : (path host action post : List ℕ) (n : ℕ) → n < 2 ^ 64 → CanBeRead path host action [] post → IsRequestHead (head_of path host action n)
unfolding is_token_byte
head_so path host action post n small can = record {
  method = (omega arith, AllPass-from_list_all is_token_byte (codes "POST") refl);
  target = (some_path path can.slash, AllPass-from_list_all is_uri_byte path can.target);
  target_text = can.text;
  minor = omega arith;
  fields = fields_so host action n small can.name can.value;
}

-- what asks for something has a head that frames it
framed_head : (input : List ℕ) (out : Result Asked HttpRefusal) (asked : Asked) → Asks input out → out ≡ Ok asked
    → (h : RequestHead) × (rest : List ℕ) × (framing : Framing) × (ReadsRequest (take 8192 input) h rest × (framing_of h ≡ Ok framing))
framed_head input out asked (no_head none) e = absurd cc
framed_head input out asked (refused h rest reads is) e = absurd cc
framed_head input out asked (framed h rest framing reads is inside) e = (h, rest, framing, (reads, is))

-- and bytes that begin with a refused head have no other
asks_nothing : (input rest : List ℕ) (head : RequestHead) (refusal : HttpRefusal) (asked : Asked) → ReadsRequest input head rest → framing_of head ≡ Err refusal → Asks input (Ok asked) → ⊥
asks_nothing input rest head refusal asked reads denies asks =
    let (h, more, framing, (seen, frames)) = framed_head input (Ok asked) asked asks refl in
    let whole : ReadsRequest input h (more ++ drop 8192 input) =
    subst (λ z. ReadsRequest z h (more ++ drop 8192 input)) (take-append-drop 8192 input) (ReadsRequest-append (take 8192 input) h more (drop 8192 input) seen) in
    let same : h ≡ head = (request_unique input h head (more ++ drop 8192 input) rest whole reads).0 in
    let both : Ok framing ≡ Err refusal = sym frames ∙ ap framing_of same ∙ denies in
    cc

pub long_posts_ask_nothing : LongPostsAskNothing
long_posts_ask_nothing base target post endpoint to text path body own named there long small asks =
    let action = action_in post.message in
    let can : CanBeRead to.path (authority to) action [] (post_of to action []) = posts_can_be_read base target post endpoint to [] own named there (omega arith) in
    asks_nothing (post_of to action text) text (head_of to.path (authority to) action (length text)) ContentTooLarge (record { path = path; body = body })
    (head_so to.path (authority to) action (post_of to action []) (length text) small can, written_is to action text)
    (denied to.path (authority to) action (length text) long small) asks
