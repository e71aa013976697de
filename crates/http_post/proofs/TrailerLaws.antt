-- Trailers are read byte by byte.
use Rattle.std.proofs.Common.{ℕ, List, Option, Some, None, [], ◌∷◌, ◌++◌, ◌≡◌, ◌≤◌, ◌<◌, ◌+◌, min, zero, suc, true, false, length, take, drop, get_or, refl, subst, ap, ◌∙◌, arith}
use Rattle.std.proofs.lemmas.List.{length-append, length-take}
use Rattle.http_post.specs.declared.refusal.HttpRefusal.{HttpRefusal}
use Rattle.http_post.specs.declared.trailers.Line.{Line}
use Rattle.http_post.specs.declared.trailers.Line.TheVariants.{Fresh, Returned, Filled}
use Rattle.http_post.specs.Chunks.{cut_at_end, ends_trailers, has_empty_line}
use Rattle.http_post.specs.Lines.{IsAfter}
use Rattle.http_post.specs.RawBytes.{EndsBefore, IsFault, IsRaw, seen}
use Rattle.http_post.proofs.ChunkLines.{seen_front}
use Rattle.http_post.proofs.RawBytes.{fault_on}

drop_one : (xs : List ℕ) (i : ℕ) → i < length xs → drop i xs ≡ get_or xs i 0 ∷ drop (i + 1) xs
drop_one [] i lt = absurd (omega (arith, lt))
drop_one (x ∷ xs) zero lt = refl
drop_one (x ∷ xs) (suc i) lt =
    let on : i + 1 ≡ i + 1 = refl in
    drop_one xs i (omega (arith, lt)) ∙ ap (λ k. get_or xs i 0 ∷ drop k (x ∷ xs)) (next i)
  where
    next : (i : ℕ) → suc (i + 1) ≡ suc i + 1
    next i = omega arith

get_taken : (n : ℕ) (xs : List ℕ) (i : ℕ) → i < n → i < length xs → get_or (take n xs) i 0 ≡ get_or xs i 0
get_taken zero xs i lt le = absurd (omega (arith, lt))
get_taken (suc n) [] i lt le = absurd (omega (arith, le))
get_taken (suc n) (x ∷ xs) zero lt le = refl
get_taken (suc n) (x ∷ xs) (suc i) lt le = get_taken n xs i (omega (arith, lt)) (omega (arith, le))

get_front : (xs ys : List ℕ) (i : ℕ) → i < length xs → get_or (xs ++ ys) i 0 ≡ get_or xs i 0
get_front [] ys i lt = absurd (omega (arith, lt))
get_front (x ∷ xs) ys zero lt = refl
get_front (x ∷ xs) ys (suc i) lt = get_front xs ys i (omega (arith, lt))

-- a byte that is held and counts is one of those that are seen
pub seen_at : (left : Option (List ℕ)) (bytes raw : List ℕ) (at : ℕ) → IsRaw left bytes raw → at + 1 ≤ min (length bytes) 131072
    → drop at (seen raw) ≡ get_or bytes at 0 ∷ drop (at + 1) (seen raw)
seen_at left bytes raw at k le =
    let f = seen_front left bytes raw k in
    let long : length (take 131072 bytes) ≡ min 131072 (length bytes) = length-take 131072 bytes in
    let whole : length (seen raw) ≡ length (take 131072 bytes) + length f.0 = ap length f.1 ∙ length-append (take 131072 bytes) f.0 in
    let in_seen : at < length (seen raw) = omega (arith, le, long, whole) in
    let in_taken : at < length (take 131072 bytes) = omega (arith, le, long) in
    let byte : get_or (seen raw) at 0 ≡ get_or bytes at 0
    = ap (λ z. get_or z at 0) f.1 ∙ get_front (take 131072 bytes) f.0 at in_taken ∙ get_taken 131072 bytes at (omega (arith, le)) (omega (arith, le)) in
    drop_one (seen raw) at in_seen ∙ ap (λ b. b ∷ drop (at + 1) (seen raw)) byte

none_dropped : (xs : List ℕ) (n : ℕ) → length xs ≤ n → drop n xs ≡ []
none_dropped [] zero le = refl
none_dropped [] (suc n) le = refl
none_dropped (x ∷ xs) zero le = absurd (omega (arith, le))
none_dropped (x ∷ xs) (suc n) le = none_dropped xs n (omega (arith, le))

-- from that place on the trailers go on as they began
module _ (first left : Option (List ℕ)) (old bytes : List ℕ) (from at : ℕ) (line : Line)
    (same : (raw : List ℕ) → IsRaw first old raw → ends_trailers (drop from (seen raw)) ≡ has_empty_line line (drop at (seen raw))) where
  pub goes_on : (kept : (raw : List ℕ) → IsRaw first old raw → IsRaw left bytes raw) → at + 1 ≤ min (length bytes) 131072 → (next : Line) → IsAfter line (get_or bytes at 0) (Some next)
      → (raw : List ℕ) → IsRaw first old raw → ends_trailers (drop from (seen raw)) ≡ has_empty_line next (drop (at + 1) (seen raw))
  goes_on kept le next after raw k = same raw k ∙ ap (has_empty_line line) (seen_at left bytes raw at (kept raw k) le) ∙ after (drop (at + 1) (seen raw))

  pub goes_out : (kept : (raw : List ℕ) → IsRaw first old raw → IsRaw left bytes raw) → at + 1 ≤ min (length bytes) 131072 → IsAfter line (get_or bytes at 0) None
      → (raw : List ℕ) → IsRaw first old raw → ends_trailers (drop from (seen raw)) ≡ true
  goes_out kept le after raw k = same raw k ∙ ap (has_empty_line line) (seen_at left bytes raw at (kept raw k) le) ∙ after (drop (at + 1) (seen raw))

  no_more : (l : Line) → has_empty_line l [] ≡ false
  no_more Fresh = refl
  no_more Returned = refl
  no_more Filled = refl

  pub goes_short : (mid : Option (List ℕ)) (held : List ℕ) → ((raw : List ℕ) → IsRaw first old raw → IsRaw mid held raw) → (e : HttpRefusal)
      → IsFault e (λ r. (raw : List ℕ) → IsRaw mid held raw → EndsBefore (at + 1) raw r)
      → IsFault e (λ r. (raw : List ℕ) → IsRaw first old raw → (ends_trailers (drop from (seen raw)) ≡ false) × (r ≡ cut_at_end raw))
  goes_short mid held kept e h =
      fault_on e (λ r. (raw : List ℕ) → IsRaw mid held raw → EndsBefore (at + 1) raw r) (λ r. (raw : List ℕ) → IsRaw first old raw → (ends_trailers (drop from (seen raw)) ≡ false) × (r ≡ cut_at_end raw)) h
      (λ r b raw k.
      let ends = b raw (kept raw k) in
      (same raw k ∙ ap (has_empty_line line) (none_dropped (seen raw) at (omega (arith, ends.short))) ∙ no_more line, ends.is_cut))

-- the byte that an index gives
pub byte_at : (xs : List ℕ) (i b : ℕ) → i < length xs → b ≡ get_or xs i b → b ≡ get_or xs i 0
byte_at [] i b lt e = absurd (omega (arith, lt))
byte_at (x ∷ xs) zero b lt e = e
byte_at (x ∷ xs) (suc i) b lt e = byte_at xs i b (omega (arith, lt)) e

pub after_byte : (line : Line) (xs : List ℕ) (i b : ℕ) (next : Option Line) → i + 1 ≤ min (length xs) 131072 → b ≡ get_or xs i b → IsAfter line b next → IsAfter line (get_or xs i 0) next
after_byte line xs i b next le e h = subst (λ z. IsAfter line z next) (byte_at xs i b (omega (arith, le)) e) h
