-- What the bytes of a connection ask: a path and a body, or the first refusal (RFC 9110; RFC 9112).
use Rattle.std.specs.Prelude.{ℕ, List, [], ◌∷◌, ◌<◌, ◌≤◌, ◌≡◌, None, Result, Ok, Err, length, take, drop, nat_eq, slice_index, if◌then◌else◌}
use Rattle.httparse.specs.Grammar.{RequestHead, ReadsRequest, HasNoRequest, print_request}
use Rattle.url.specs.Parts.{Parts}
use Rattle.url.specs.Parser.{parse_url, Parsed}
use Rattle.http_post.specs.declared.refusal.HttpRefusal.{HttpRefusal}
use Rattle.http_post.specs.declared.refusal.HttpRefusal.TheVariants as refusals
use Rattle.http_post.specs.declared.framing.Framing.{Framing}
use Rattle.http_post.specs.declared.framing.Framing.TheVariants.{Sized, Chunked}
use Rattle.http_post.specs.Heads.{framing_of}
use Rattle.http_post.specs.Chunks.{Chunks, cut_at_end, most_raw}

abbrev pub most_head : ℕ
most_head = 8192

abbrev pub without_query : List ℕ → List ℕ
without_query [] = []
without_query (b ∷ bytes) = if nat_eq b 63 then [] else b ∷ without_query bytes

abbrev pub path_in : List ℕ → Parsed Parts → List ℕ
path_in target (Ok url) = url.path
path_in target (Err fault) = without_query target

-- the path of a request target: of an absolute URL its path, else what stands before a `?` (RFC 9112, section 3.2)
abbrev pub path_of : List ℕ → List ℕ
path_of target = if nat_eq (slice_index target 0) 47 then without_query target else path_in target (parse_url None target)

pub record Asked : Type 0 where
  pub path : List ℕ
  pub body : List ℕ

abbrev pub asking : List ℕ → Result (List ℕ) HttpRefusal → Result Asked HttpRefusal
asking path (Ok body) = Ok (record { path = path; body = body })
asking path (Err refusal) = Err refusal

-- what a framed body of these bytes is
pub data Body : Framing → List ℕ → Result (List ℕ) HttpRefusal → Type 0 where
  all_there : (count : ℕ) (rest : List ℕ) → count ≤ length rest → Body (Sized count) rest (Ok (take count rest))
  cut_off : (count : ℕ) (rest : List ℕ) → length rest < count → Body (Sized count) rest (Err refusals.BadRequest)
  chunked : {out : Result (List ℕ) HttpRefusal} (rest : List ℕ) → Chunks (cut_at_end rest) 0 (take most_raw rest) out → Body Chunked rest out

-- what all the bytes of a connection ask
pub data Asks (input : List ℕ) : Result Asked HttpRefusal → Type 0 where
  no_head : HasNoRequest (take most_head input) → Asks input (Err refusals.BadRequest)
  refused : {refusal : HttpRefusal} (h : RequestHead) (rest : List ℕ)
      → ReadsRequest (take most_head input) h rest → framing_of h ≡ Err refusal → Asks input (Err refusal)
  framed : {out : Result (List ℕ) HttpRefusal} (h : RequestHead) (rest : List ℕ) (framing : Framing)
      → ReadsRequest (take most_head input) h rest → framing_of h ≡ Ok framing
      → Body framing (drop (length (print_request h)) input) out → Asks input (asking (path_of h.target) out)
