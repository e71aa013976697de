-- Nobody waits behind a post: its head expects nothing.
use Rattle.std.proofs.Common.{◌≡◌, ℕ, ◌<◌, true, false, List, [], ◌∷◌, ◌++◌, Result, Ok, length, take, drop, refl, sym, subst, ◌∙◌, arith, append_assoc, append-nil}
use Rattle.std.specs.Prelude.{codes, decimal, slice_index}
use Rattle.std.specs.List.{list_all}
use Rattle.std.proofs.lemmas.List.{take-append-drop}
use Rattle.std.proofs.lemmas.List.Elements.{All-from_recursion}
use Rattle.std.proofs.lemmas.List.Folds.{list_all-append}
use Rattle.std.proofs.lemmas.List.Sums.{AllPass-from_list_all}
use Rattle.httparse.specs.Grammar.{Field, IsField, IsRequestHead, ReadsRequest, RequestHead, crlf, is_token_byte, is_uri_byte, is_value_byte, print_field, print_request}
use Rattle.httparse.proofs.GrammarLemmas.{ReadsRequest-append, print_request-append, request_unique}
use Rattle.addressing.specs.declared.post_to.PostTo.{PostTo}
use Rattle.http_post.specs.Conversations.{Waits, is_framed}
use Rattle.http_post.specs.Heads.{expects, framing_of}
use Rattle.http_post.specs.OutBytes.{action_field, authority, field, head_end, line, post_of, request_line, type_field}
use Rattle.http_post.specs.ReadablePosts.{CanBeRead}
use Rattle.http_post.specs.Requests.{Asked, Asks, framed, no_head, refused}
use Rattle.http_post.specs.declared.framing.Framing.{Framing}
use Rattle.http_post.specs.declared.refusal.HttpRefusal.{HttpRefusal}
use Rattle.deliverables.proofs.VisibleTexts.{decimal_passes}

abbrev pub of : List ℕ → List ℕ → Field
of name value = record { name = name; raw = 32 ∷ value; end = crlf }

abbrev pub with_fields : List ℕ → List Field → RequestHead
with_fields path fields = record { blank = []; method = codes "POST"; target = path; minor = 1; line_end = crlf; fields = fields; last = crlf }

abbrev quoted : List ℕ → List ℕ
quoted action = codes "\"" ++ action ++ codes "\""

-- the head of a post of so many bytes of content
abbrev head_of : List ℕ → List ℕ → List ℕ → ℕ → RequestHead
head_of path host action count =
    with_fields path
    (of (codes "Host") host ∷ of (codes "Content-Type") (codes "text/xml; charset=utf-8") ∷ of (codes "SOAPAction") (quoted action)
    ∷ of (codes "Content-Length") (decimal count) ∷ of (codes "Connection") (codes "close") ∷ [])

-- such a post is its head and then its content

field_is : (name value : List ℕ) → field name value ≡ print_field (of name value)
unfolding line field
field_is name value = simp append_assoc refl

regrouped : (post path version end a b c d e body : List ℕ)
    → (post ++ path ++ version ++ end) ++ a ++ b ++ c ++ (d ++ e ++ end) ++ body ≡ post ++ (path ++ (version ++ (end ++ (((a ++ (b ++ (c ++ (d ++ (e ++ []))))) ++ end) ++ body))))
regrouped post path version end a b c d e body = simp (append_assoc, append-nil) refl

of_fields : (path : List ℕ) (a b c d e : Field) (body : List ℕ)
    → request_line path ++ print_field a ++ print_field b ++ print_field c ++ (print_field d ++ print_field e ++ line []) ++ body ≡ print_request (with_fields path (a ∷ b ∷ c ∷ d ∷ e ∷ [])) ++ body
unfolding line request_line
of_fields path a b c d e body =
    regrouped (codes "POST ") path (codes " HTTP/1.1") (codes "\r\n") (print_field a) (print_field b) (print_field c) (print_field d) (print_field e) body
    ∙ sym (print_request-append (with_fields path (a ∷ b ∷ c ∷ d ∷ e ∷ [])) body)

written_is : (to : PostTo) (action body : List ℕ) → post_of to action body ≡ print_request (head_of to.path (authority to) action (length body)) ++ body
unfolding type_field action_field head_end
written_is to action body = simp field_is (of_fields to.path _ _ _ _ _ body)

-- the head is one of the grammar

pub valued : (name value : List ℕ) → list_all is_token_byte name ≡ true → 0 < length name → list_all is_value_byte value ≡ true → IsField (of name value)
valued name value token some h =
    record { name = (some, AllPass-from_list_all is_token_byte name token); raw = AllPass-from_list_all is_value_byte (32 ∷ value) h }

quoted_so : (action : List ℕ) → list_all is_value_byte action ≡ true → list_all is_value_byte (quoted action) ≡ true
quoted_so action h = list_all-append is_value_byte action (34 ∷ []) ∙ rw h refl

some_path : (path : List ℕ) → slice_index path 0 ≡ 47 → 0 < length path
some_path [] e = absurd (omega (arith, e))
some_path (c ∷ cs) e = omega arith

head_so : (path host action body post : List ℕ) → CanBeRead path host action body post → IsRequestHead (head_of path host action (length body))
unfolding is_token_byte
head_so path host action body post can = record {
  method = (omega arith, AllPass-from_list_all is_token_byte (codes "POST") refl);
  target = (some_path path can.slash, AllPass-from_list_all is_uri_byte path can.target);
  target_text = can.text;
  minor = omega arith;
  fields =
      All-from_recursion IsField (head_of path host action (length body)).fields (
        valued (codes "Host") host refl (omega arith) can.name,
        (
          valued (codes "Content-Type") (codes "text/xml; charset=utf-8") refl (omega arith) refl,
          (
            valued (codes "SOAPAction") (quoted action) refl (omega arith) (quoted_so action can.value),
            (
              valued (codes "Content-Length") (decimal (length body)) refl (omega arith) (decimal_passes is_value_byte refl (length body) (omega (arith, can.most))),
              (valued (codes "Connection") (codes "close") refl (omega arith) refl, tt),
            ),
          ),
        ),
      );
}

-- what asks for something has a head that frames it
framed_head : (input : List ℕ) (out : Result Asked HttpRefusal) (asked : Asked) → Asks input out → out ≡ Ok asked
    → (h : RequestHead) × (rest : List ℕ) × (framing : Framing) × (ReadsRequest (take 8192 input) h rest × (framing_of h ≡ Ok framing))
framed_head input out asked (no_head none) e = absurd cc
framed_head input out asked (refused h rest reads is) e = absurd cc
framed_head input out asked (framed h rest framing reads is inside) e = (h, rest, framing, (reads, is))

-- which is the one that the bytes begin with
head_waits : (input rest : List ℕ) (head : RequestHead) (asked : Asked) → ReadsRequest input head rest → Asks input (Ok asked) → Waits input (expects head)
head_waits input rest head asked reads asks =
    let (h, more, framing, (seen, frames)) = framed_head input (Ok asked) asked asks refl in
    let whole : ReadsRequest input h (more ++ drop 8192 input) =
    subst (λ z. ReadsRequest z h (more ++ drop 8192 input)) (take-append-drop 8192 input) (ReadsRequest-append (take 8192 input) h more (drop 8192 input) seen) in
    let same : h ≡ head = (request_unique input h head (more ++ drop 8192 input) rest whole reads).0 in
    subst (λ z. Waits input (expects z)) same (is_framed h more framing seen frames)

pub post_waits : (to : PostTo) (action body : List ℕ) (asked : Asked) → CanBeRead to.path (authority to) action body (post_of to action body) → Asks (post_of to action body) (Ok asked)
    → Waits (post_of to action body) false
post_waits to action body asked can asks =
    head_waits (post_of to action body) body (head_of to.path (authority to) action (length body)) asked
    (head_so to.path (authority to) action body (post_of to action body) can, written_is to action body) asks
