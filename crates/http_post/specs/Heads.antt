-- What the head of a request says of the request's body (RFC 9110, sections 7.2, 8.4, 8.6 and 10.1.1; RFC 9112, section 6).
use Rattle.std.specs.Prelude.{ℕ, List, [], ◌∷◌, Bool, true, false, not, ◌&&◌, Result, Ok, Err, codes, map, filter, length, nat_eq, nat_le, bytes_eq, if◌then◌else◌}
use Rattle.std.specs.List.{list_all, list_any}
use Rattle.std.specs.Char.{is_ascii_digit}
use Rattle.std.specs.Str.{str_eq_ignore_ascii_case}
use Rattle.std.specs.Str.Parse.{digits_value}
use Rattle.httparse.specs.Grammar.{Field, RequestHead, field_value}
use Rattle.http_header.specs.Token.{lowercase}
use Rattle.http_post.specs.declared.framing.Framing.{Framing}
use Rattle.http_post.specs.declared.framing.Framing.TheVariants.{Sized, Chunked}
use Rattle.http_post.specs.declared.refusal.HttpRefusal.{HttpRefusal}
use Rattle.http_post.specs.declared.refusal.HttpRefusal.TheVariants as refusals

-- the values of a field, in the order of its lines; its name is written in any case
abbrev pub values_in : List ℕ → List Field → List (List ℕ)
values_in name fields = map field_value (filter (λ f. bytes_eq (lowercase f.name) name) fields)

-- the value is that word, in any case
abbrev pub is_word : List ℕ → List ℕ → Bool
is_word word value = str_eq_ignore_ascii_case value word

-- the value is a number: one digit or more
abbrev pub is_decimal : List ℕ → Bool
is_decimal [] = false
is_decimal (d ∷ ds) = list_all is_ascii_digit (d ∷ ds)

-- a 1.1 request has exactly one Host
abbrev pub lacks_host : ℕ → List (List ℕ) → Bool
lacks_host minor hosts = nat_eq minor 1 && not (nat_eq (length hosts) 1)

-- a number that is the first's
abbrev pub agrees : List ℕ → List ℕ → Bool
agrees first value = is_decimal value && nat_eq (digits_value 10 first) (digits_value 10 value)

abbrev pub most_content : ℕ
most_content = 65536

abbrev pub sized : ℕ → Result Framing HttpRefusal
sized n = if nat_le n most_content then Ok (Sized n) else Err refusals.ContentTooLarge

abbrev pub is_none : List (List ℕ) → Bool
is_none [] = true
is_none (v ∷ vs) = false

-- by the lengths alone, all of them the same number
abbrev pub framed_by : List (List ℕ) → Result Framing HttpRefusal
framed_by [] = Err refusals.LengthRequired
framed_by (v ∷ vs) = if list_all (agrees v) (v ∷ vs) then sized (digits_value 10 v) else Err refusals.BadRequest

-- by the transfer codings, all chunked and without a length beside them, or else by the lengths
abbrev pub framed : List (List ℕ) → List (List ℕ) → Result Framing HttpRefusal
framed transfers lengths =
    if is_none transfers then framed_by lengths else
    if is_none lengths && list_all (is_word (codes "chunked")) transfers then Ok Chunked else Err refusals.BadRequest

-- how the body is framed, or the first refusal that a head with these fields draws
abbrev pub framing_in : ℕ → List ℕ → (List ℕ → List (List ℕ)) → Result Framing HttpRefusal
framing_in minor method values =
    if lacks_host minor (values (codes "host")) then Err refusals.BadRequest else
    if not (bytes_eq method (codes "POST")) then Err refusals.MethodNotAllowed else
    if not (list_all (is_word (codes "identity")) (values (codes "content-encoding"))) then Err refusals.UnsupportedMediaType else
    framed (values (codes "transfer-encoding")) (values (codes "content-length"))

abbrev pub framing_of : RequestHead → Result Framing HttpRefusal
framing_of h = framing_in h.minor h.method (λ name. values_in name h.fields)

-- the client waits for an interim answer before it sends the body; an expectation in a 1.0 request is ignored
abbrev pub expects_in : ℕ → (List ℕ → List (List ℕ)) → Bool
expects_in minor values = nat_eq minor 1 && list_any (is_word (codes "100-continue")) (values (codes "expect"))

abbrev pub expects : RequestHead → Bool
expects h = expects_in h.minor (λ name. values_in name h.fields)
