-- The bytes of an answer and of a post (RFC 9112, sections 2 to 6; SOAP 1.1, section 6). A line ends in CR LF.
use Rattle.std.specs.Prelude.{ℕ, List, [], ◌∷◌, ◌++◌, Option, Some, None, Bool, true, false, codes, decimal, length, nat_eq, if◌then◌else◌, ◌≡◌, refl}
use Rattle.std.specs.Fmt.{digits}
use Rattle.addressing.specs.declared.post_to.PostTo.{PostTo}

-- the reason phrases of the statuses that are answered (RFC 9110, section 15)
abbrev pub reason_of : ℕ → List ℕ
reason_of status =
    if nat_eq status 200 then codes "OK" else
    if nat_eq status 202 then codes "Accepted" else
    if nat_eq status 400 then codes "Bad Request" else
    if nat_eq status 404 then codes "Not Found" else
    if nat_eq status 405 then codes "Method Not Allowed" else
    if nat_eq status 411 then codes "Length Required" else
    if nat_eq status 413 then codes "Content Too Large" else
    if nat_eq status 415 then codes "Unsupported Media Type" else
    if nat_eq status 500 then codes "Internal Server Error" else
    if nat_eq status 503 then codes "Service Unavailable" else []

abbrev pub is_some_text : List ℕ → Bool
is_some_text [] = false
is_some_text (b ∷ text) = true

-- such a status
abbrev pub has_reason : ℕ → Bool
has_reason status = is_some_text (reason_of status)

-- a line with its end
unfoldable pub line : List ℕ → List ℕ
line text = text ++ codes "\r\n"

-- a field line (RFC 9112, section 5)
unfoldable pub field : List ℕ → List ℕ → List ℕ
field name value = line (name ++ codes ": " ++ value)

abbrev pub status_line : ℕ → List ℕ
status_line status = line (codes "HTTP/1.1 " ++ decimal status ++ codes " " ++ reason_of status)

-- a 405 says which method is allowed (RFC 9110, section 15.5.6)
abbrev pub allow_field : ℕ → List ℕ
allow_field status = if nat_eq status 405 then field (codes "Allow") (codes "POST") else []

unfoldable pub type_field : List ℕ
type_field = field (codes "Content-Type") (codes "text/xml; charset=utf-8")

-- the length of the content, the end of the connection, and the empty line behind the fields
unfoldable pub head_end : ℕ → List ℕ
head_end count = field (codes "Content-Length") (decimal count) ++ field (codes "Connection") (codes "close") ++ line []

abbrev pub answer_of : ℕ → Option (List ℕ) → List ℕ
answer_of status None = status_line status ++ allow_field status ++ head_end 0
answer_of status (Some body) = status_line status ++ type_field ++ allow_field status ++ head_end (length body) ++ body

-- the host, with the port where it isn't that of http (RFC 9110, sections 4.2.1 and 7.2)
abbrev pub authority : PostTo → List ℕ
authority to = if nat_eq to.port 80 then to.host else to.host ++ codes ":" ++ decimal to.port

unfoldable pub request_line : List ℕ → List ℕ
request_line path = line (codes "POST " ++ path ++ codes " HTTP/1.1")

unfoldable pub action_field : List ℕ → List ℕ
action_field action = field (codes "SOAPAction") (codes "\"" ++ action ++ codes "\"")

abbrev pub post_of : PostTo → List ℕ → List ℕ → List ℕ
post_of to action body =
    request_line to.path ++ field (codes "Host") (authority to) ++ type_field ++ action_field action ++ head_end (length body) ++ body

-- a post without content, which asks for what is due
abbrev pub tick_of : PostTo → List ℕ
tick_of to = request_line to.path ++ field (codes "Host") (authority to) ++ head_end 0

pub an_accepted_post_is_answered :
    answer_of 202 None ≡ codes "HTTP/1.1 202 Accepted\r\nContent-Length: 0\r\nConnection: close\r\n\r\n"
unfolding digits line field head_end
an_accepted_post_is_answered = refl

pub another_method_is_answered :
    answer_of 405 None ≡ codes "HTTP/1.1 405 Method Not Allowed\r\nAllow: POST\r\nContent-Length: 0\r\nConnection: close\r\n\r\n"
unfolding digits line field head_end
another_method_is_answered = refl
