-- A body in chunks (RFC 9112, section 7.1), and the first fault in one. `seen` is the raw body as far as it may go, and
-- `cut` is what is answered where it breaks off there.
use Rattle.std.specs.Prelude.{ℕ, List, [], ◌∷◌, ◌++◌, ◌+◌, ◌<◌, ◌≤◌, ◌≡◌, ◌≢◌, Result, Ok, Err, length, nat_lt, nat_eq, if◌then◌else◌, Bool, true, false, codes, refl}
use Rattle.httparse.specs.Grammar.{ChunkLine, ReadsChunkLine, HasNoChunkLine, NeverHasChunkLine, chunk_size}
use Rattle.http_post.specs.declared.refusal.HttpRefusal.{HttpRefusal}
use Rattle.http_post.specs.declared.refusal.HttpRefusal.TheVariants as refusals
use Rattle.http_post.specs.declared.trailers.Line.{Line}
use Rattle.http_post.specs.declared.trailers.Line.TheVariants.{Fresh, Returned, Filled}
use Rattle.http_post.specs.Heads.{most_content}

-- the most bytes of a body in chunks, from behind the head through the empty line behind the trailers
abbrev pub most_raw : ℕ
most_raw = 131072

-- what breaks off is too large where more bytes follow, and else is cut short
abbrev pub cut_at_end : List ℕ → HttpRefusal
cut_at_end raw = if nat_lt most_raw (length raw) then refusals.ContentTooLarge else refusals.BadRequest

-- an empty line comes, with a CR or without; what else stands in trailers isn't looked at
abbrev pub has_empty_line : Line → List ℕ → Bool
has_empty_line line [] = false
has_empty_line Filled (b ∷ rest) = if nat_eq b 10 then has_empty_line Fresh rest else has_empty_line Filled rest
has_empty_line Returned (b ∷ rest) = if nat_eq b 10 then true else has_empty_line Filled rest
has_empty_line Fresh (b ∷ rest) =
    if nat_eq b 10 then true else if nat_eq b 13 then has_empty_line Returned rest else has_empty_line Filled rest

abbrev pub ends_trailers : List ℕ → Bool
ends_trailers rest = has_empty_line Fresh rest

pub no_trailers : ends_trailers (codes "\r\n") ≡ true
no_trailers = refl

pub one_trailer : ends_trailers (codes "a: b\r\n\n") ≡ true
one_trailer = refl

pub no_end_of_trailers : ends_trailers (codes "a: b\r\n\r\r\n") ≡ false
no_end_of_trailers = refl

-- another byte stands where the data of a chunk are to end in CR LF
pub data IsUnended : List ℕ → Type 0 where
  no_return : (b : ℕ) (after : List ℕ) → b ≢ 13 → IsUnended (b ∷ after)
  no_feed : (b : ℕ) (after : List ℕ) → b ≢ 10 → IsUnended (13 ∷ b ∷ after)

-- the bytes break off before the data and the CR LF behind them are whole
pub data IsCutShort (size : ℕ) : List ℕ → Type 0 where
  in_data : (rest : List ℕ) → length rest < size → IsCutShort size rest
  before_return : (content : List ℕ) → length content ≡ size → IsCutShort size content
  before_feed : (content : List ℕ) → length content ≡ size → IsCutShort size (content ++ 13 ∷ [])

abbrev pub prefixed : List ℕ → Result (List ℕ) HttpRefusal → Result (List ℕ) HttpRefusal
prefixed content (Ok body) = Ok (content ++ body)
prefixed content (Err refusal) = Err refusal

-- `sum` is the size of the chunks before
pub data Chunks (cut : HttpRefusal) : (sum : ℕ) → (seen : List ℕ) → Result (List ℕ) HttpRefusal → Type 0 where
  chunk : {sum : ℕ} {seen : List ℕ} {out : Result (List ℕ) HttpRefusal} (l : ChunkLine) (content rest : List ℕ)
      → ReadsChunkLine seen l (content ++ 13 ∷ 10 ∷ rest) → length content ≡ chunk_size l → 0 < chunk_size l
      → sum + chunk_size l ≤ most_content → Chunks cut (sum + chunk_size l) rest out → Chunks cut sum seen (prefixed content out)
  last : {sum : ℕ} {seen : List ℕ} (l : ChunkLine) (rest : List ℕ)
      → ReadsChunkLine seen l rest → chunk_size l ≡ 0 → ends_trailers rest ≡ true → Chunks cut sum seen (Ok [])
  in_trailers : {sum : ℕ} {seen : List ℕ} (l : ChunkLine) (rest : List ℕ)
      → ReadsChunkLine seen l rest → chunk_size l ≡ 0 → ends_trailers rest ≡ false → Chunks cut sum seen (Err cut)
  in_chunk : {sum : ℕ} {seen : List ℕ} (l : ChunkLine) (rest : List ℕ)
      → ReadsChunkLine seen l rest → 0 < chunk_size l → sum + chunk_size l ≤ most_content → IsCutShort (chunk_size l) rest → Chunks cut sum seen (Err cut)
  in_line : {sum : ℕ} {seen : List ℕ} → HasNoChunkLine seen → ¬ (NeverHasChunkLine seen) → Chunks cut sum seen (Err cut)
  no_line : {sum : ℕ} {seen : List ℕ} → NeverHasChunkLine seen → Chunks cut sum seen (Err refusals.BadRequest)
  unended : {sum : ℕ} {seen : List ℕ} (l : ChunkLine) (content after : List ℕ)
      → ReadsChunkLine seen l (content ++ after) → length content ≡ chunk_size l → 0 < chunk_size l → sum + chunk_size l ≤ most_content
      → IsUnended after → Chunks cut sum seen (Err refusals.BadRequest)
  too_large : {sum : ℕ} {seen : List ℕ} (l : ChunkLine) (rest : List ℕ)
      → ReadsChunkLine seen l rest → most_content < sum + chunk_size l → Chunks cut sum seen (Err refusals.ContentTooLarge)
