-- One chunk, from what was read of it.
use Rattle.std.proofs.Common.{ℕ, List, Option, Some, None, Result, Ok, Err, [], ◌∷◌, ◌++◌, ◌≡◌, ◌≤◌, ◌<◌, ◌+◌, ◌-◌, inl, inr, min, zero, suc, true, false, length, take, drop, refl, sym, subst, ap, ◌∙◌, arith, append-nil, append_assoc}
use Rattle.std.specs.Prelude.{slice_range, IfSome}
use Rattle.http_post.specs.declared.framing.Framing.TheVariants.{Chunked, Sized}
use Rattle.http_post.specs.Requests.{Body, all_there, chunked, cut_off}
use Rattle.std.proofs.lemmas.List.{length-append, length-take, length-drop, length-take-le, take-append-le}
use Rattle.httparse.specs.Grammar.{ChunkLine, ReadsChunkLine, chunk_size}
use Rattle.httparse.specs.Spans.{IsChunkLineAt}
use Rattle.http_post.specs.declared.refusal.HttpRefusal.{HttpRefusal}
use Rattle.http_post.specs.declared.refusal.HttpRefusal.TheVariants.{BadRequest, ContentTooLarge}
use Rattle.http_post.specs.Chunks.{Chunks, chunk, last, in_trailers, in_chunk, in_line, no_line, unended, too_large, cut_at_end, ends_trailers, IsCutShort, prefixed}
use Rattle.http_post.specs.Lines.{IsBadContent, IsChunkStep, IsNoLine}
use Rattle.http_post.specs.RawBytes.{IsFault, IsRaw, seen}
use Rattle.http_post.proofs.ChunkLines.{seen_front}
use Rattle.http_post.proofs.RawBytes.{fault_on}
use Rattle.http_post.proofs.Contents.{dropped}

module _ (cut : HttpRefusal) (s : List ℕ) (at sum : ℕ) where
  pub lacks_line : (r : HttpRefusal) → IsNoLine (drop at s) cut r → Chunks cut sum (drop at s) (Err r)
  lacks_line r (inl (never, is)) = subst (λ x. Chunks cut sum (drop at s) (Err x)) (sym is) (no_line never)
  lacks_line r (inr (none, (may, is))) = subst (λ x. Chunks cut sum (drop at s) (Err x)) (sym is) (in_line none may)

  module _ (len size : ℕ) (line : (l : ChunkLine) × IsChunkLineAt (drop at s) len size l) where
    abbrev l : ChunkLine
    l = line.0

    reads : ReadsChunkLine (drop at s) l (drop (at + len) s)
    reads = subst (ReadsChunkLine (drop at s) l) (dropped s at len) line.1.reads

    sized : size ≡ chunk_size l
    sized = line.1.size_is

    pub is_last : size ≡ 0 → ends_trailers (drop (at + len) s) ≡ true → Chunks cut sum (drop at s) (Ok [])
    is_last none ends = last l (drop (at + len) s) reads (sym sized ∙ none) ends

    pub breaks_in_trailers : (r : HttpRefusal) → size ≡ 0 → (ends_trailers (drop (at + len) s) ≡ false) × (r ≡ cut) → Chunks cut sum (drop at s) (Err r)
    breaks_in_trailers r none (ends, is) = subst (λ x. Chunks cut sum (drop at s) (Err x)) (sym is) (in_trailers l (drop (at + len) s) reads (sym sized ∙ none) ends)

    pub is_too_large : 65536 < sum + size → Chunks cut sum (drop at s) (Err ContentTooLarge)
    is_too_large lt = too_large l (drop (at + len) s) reads (subst (λ k. 65536 < sum + k) sized lt)

    module _ (some : 0 < size) (fits : sum + size ≤ 65536) where
      pub has_bad_content : (r : HttpRefusal) → IsBadContent size (drop (at + len) s) cut r → Chunks cut sum (drop at s) (Err r)
      has_bad_content r (inl (short, is)) =
          subst (λ x. Chunks cut sum (drop at s) (Err x)) (sym is)
          (in_chunk l (drop (at + len) s) reads (subst (λ k. 0 < k) sized some) (subst (λ k. sum + k ≤ 65536) sized fits) (subst (λ k. IsCutShort k (drop (at + len) s)) sized short))
      has_bad_content r (inr (content, after, (e, (long, (bad, is))))) =
          subst (λ x. Chunks cut sum (drop at s) (Err x)) (sym is)
          (unended l content after (subst (ReadsChunkLine (drop at s) l) e reads) (long ∙ sized) (subst (λ k. 0 < k) sized some) (subst (λ k. sum + k ≤ 65536) sized fits) bad)

      pub has_content : drop (at + len) s ≡ take size (drop (at + len) s) ++ 13 ∷ 10 ∷ drop (at + len + size + 2) s → length (take size (drop (at + len) s)) ≡ size
          → (out : Result (List ℕ) HttpRefusal) → Chunks cut (sum + size) (drop (at + len + size + 2) s) out → Chunks cut sum (drop at s) (prefixed (take size (drop (at + len) s)) out)
      has_content e long out h =
          chunk l (take size (drop (at + len) s)) (drop (at + len + size + 2) s) (subst (ReadsChunkLine (drop at s) l) e reads) (long ∙ sized)
          (subst (λ k. 0 < k) sized some) (subst (λ k. sum + k ≤ 65536) sized fits) (subst (λ k. Chunks cut (sum + k) (drop (at + len + size + 2) s) out) sized h)

front_part : (size from : ℕ) (xs ys : List ℕ) → from + size ≤ length xs → take size (drop from (xs ++ ys)) ≡ take size (drop from xs)
front_part size zero xs ys le = take-append-le size xs ys (omega (arith, le))
front_part size (suc from) [] ys le = absurd (omega (arith, le))
front_part size (suc from) (x ∷ xs) ys le = front_part size from xs ys (omega (arith, le))

taken_part : (size from n : ℕ) (xs : List ℕ) → from + size ≤ n → take size (drop from (take n xs)) ≡ take size (drop from xs)
taken_part size zero n xs le = take_take size n xs (omega (arith, le))
  where
    take_take : (m n : ℕ) (xs : List ℕ) → m ≤ n → take m (take n xs) ≡ take m xs
    take_take zero n xs le = refl
    take_take (suc m) zero xs le = absurd (omega (arith, le))
    take_take (suc m) (suc n) [] le = refl
    take_take (suc m) (suc n) (x ∷ xs) le = ap (λ z. x ∷ z) (take_take m n xs (omega (arith, le)))
taken_part size (suc from) zero xs le = absurd (omega (arith, le))
taken_part size (suc from) (suc n) [] le = refl
taken_part size (suc from) (suc n) (x ∷ xs) le = taken_part size from n xs (omega (arith, le))

-- a part of what is held and counts is that part of what is seen
pub seen_part : (left : Option (List ℕ)) (bytes raw : List ℕ) (from size : ℕ) → IsRaw left bytes raw → from + size ≤ min (length bytes) 131072
    → (take size (drop from (seen raw)) ≡ slice_range bytes from (from + size)) × (length (take size (drop from (seen raw))) ≡ size)
seen_part left bytes raw from size k le =
    let f = seen_front left bytes raw k in
    let in_taken : from + size ≤ length (take 131072 bytes) = omega (arith, le, length-take 131072 bytes) in
    let count : (from + size) - from ≡ size = omega arith in
    let e : take size (drop from (seen raw)) ≡ take size (drop from bytes)
    = ap (λ z. take size (drop from z)) f.1 ∙ front_part size from (take 131072 bytes) f.0 in_taken ∙ taken_part size from 131072 bytes (omega (arith, le)) in (
      e ∙ ap (λ n. take n (drop from bytes)) (sym count),
      ap length e ∙ length-take-le size (drop from bytes) (omega (arith, le, length-drop from bytes)),
    )

-- the same of what a reader holds; `old` is what it held at first
module _ (first : Option (List ℕ)) (old before : List ℕ) (at : ℕ) where
  abbrev Faulty : HttpRefusal → Type 0
  Faulty r = (raw : List ℕ) → IsRaw first old raw → Chunks (cut_at_end raw) (length before) (drop at (seen raw)) (Err r)

  pub fault_no_line : (e : HttpRefusal) → IsFault e (λ r. (raw : List ℕ) → IsRaw first old raw → IsNoLine (drop at (seen raw)) (cut_at_end raw) r)
      → IsFault e (λ r. (raw : List ℕ) → IsRaw first old raw → Chunks (cut_at_end raw) (length before) (drop at (seen raw)) (Err r))
  fault_no_line e h = fault_on e (λ r. (raw : List ℕ) → IsRaw first old raw → IsNoLine (drop at (seen raw)) (cut_at_end raw) r) Faulty h
      (λ r b raw k. lacks_line (cut_at_end raw) (seen raw) at (length before) r (b raw k))

  module _ (one : Option (List ℕ)) (held : List ℕ) (kept : (raw : List ℕ) → IsRaw first old raw → IsRaw one held raw) (len size : ℕ)
      (line : (raw : List ℕ) → IsRaw first old raw → (l : ChunkLine) × IsChunkLineAt (drop at (seen raw)) len size l) where
    pub step_last : size ≡ 0 → ((raw : List ℕ) → IsRaw one held raw → ends_trailers (drop (at + len) (seen raw)) ≡ true)
        → (raw : List ℕ) → IsRaw first old raw → (before ≡ before) × Chunks (cut_at_end raw) (length before) (drop at (seen raw)) (Ok [])
    step_last none ends raw k = (refl, is_last (cut_at_end raw) (seen raw) at (length before) len size (line raw k) none (ends raw (kept raw k)))

    pub fault_in_trailers : (e : HttpRefusal) → size ≡ 0
        → IsFault e (λ r. (raw : List ℕ) → IsRaw one held raw → (ends_trailers (drop (at + len) (seen raw)) ≡ false) × (r ≡ cut_at_end raw))
        → IsFault e (λ r. (raw : List ℕ) → IsRaw first old raw → Chunks (cut_at_end raw) (length before) (drop at (seen raw)) (Err r))
    fault_in_trailers e none h = fault_on e (λ r. (raw : List ℕ) → IsRaw one held raw → (ends_trailers (drop (at + len) (seen raw)) ≡ false) × (r ≡ cut_at_end raw)) Faulty h
        (λ r b raw k. breaks_in_trailers (cut_at_end raw) (seen raw) at (length before) len size (line raw k) r none (b raw (kept raw k)))

    pub fault_too_large : 65536 < length before + size → (raw : List ℕ) → IsRaw first old raw → Chunks (cut_at_end raw) (length before) (drop at (seen raw)) (Err ContentTooLarge)
    fault_too_large lt raw k = is_too_large (cut_at_end raw) (seen raw) at (length before) len size (line raw k) lt

    pub fault_in_content : (e : HttpRefusal) → 0 < size → length before + size ≤ 65536
        → IsFault e (λ r. (raw : List ℕ) → IsRaw one held raw → IsBadContent size (drop (at + len) (seen raw)) (cut_at_end raw) r)
        → IsFault e (λ r. (raw : List ℕ) → IsRaw first old raw → Chunks (cut_at_end raw) (length before) (drop at (seen raw)) (Err r))
    fault_in_content e some fits h = fault_on e (λ r. (raw : List ℕ) → IsRaw one held raw → IsBadContent size (drop (at + len) (seen raw)) (cut_at_end raw) r) Faulty h
        (λ r b raw k. has_bad_content (cut_at_end raw) (seen raw) at (length before) len size (line raw k) some fits r (b raw (kept raw k)))

    pub step_chunk : (two : Option (List ℕ)) (more after : List ℕ) → ((raw : List ℕ) → IsRaw one held raw → IsRaw two more raw) → 0 < size → length before + size ≤ 65536
        → at + len + size + 2 ≤ min (length more) 131072
        → ((raw : List ℕ) → IsRaw one held raw → drop (at + len) (seen raw) ≡ take size (drop (at + len) (seen raw)) ++ 13 ∷ 10 ∷ drop (at + len + size + 2) (seen raw))
        → after ≡ before ++ slice_range more (at + len) (at + len + size)
        → (raw : List ℕ) → IsRaw first old raw → IsChunkStep (cut_at_end raw) (seen raw) at before after (Some (at + len + size + 2))
    step_chunk two more after kept_more some fits full whole e raw k =
        let part = seen_part two more raw (at + len) size (kept_more raw (kept raw k)) (omega (arith, full)) in
        let content : List ℕ = take size (drop (at + len) (seen raw)) in
        let grown : after ≡ before ++ content = e ∙ ap (λ z. before ++ z) (sym part.0) in
        let long : length after ≡ length before + size = ap length grown ∙ length-append before content ∙ ap (λ n. length before + n) part.1 in (
          content,
          grown,
          λ out h.
              has_content (cut_at_end raw) (seen raw) at (length before) len size (line raw k) some fits (whole raw (kept raw k)) part.1 out
              (subst (λ n. Chunks (cut_at_end raw) n (drop (at + len + size + 2) (seen raw)) out) long h),
        )

-- the chunks, one after another
module _ (first left : Option (List ℕ)) (old bytes body : List ℕ) (at : ℕ)
    (kept : (raw : List ℕ) → IsRaw first old raw → IsRaw left bytes raw)
    (so_far : (raw : List ℕ) → IsRaw first old raw → (out : Result (List ℕ) HttpRefusal)
    → Chunks (cut_at_end raw) (length body) (drop at (seen raw)) out → Chunks (cut_at_end raw) 0 (seen raw) (prefixed body out)) where
  pub all_fault : (e : HttpRefusal) → IsFault e (λ r. (raw : List ℕ) → IsRaw left bytes raw → Chunks (cut_at_end raw) (length body) (drop at (seen raw)) (Err r))
      → IsFault e (λ r. (raw : List ℕ) → IsRaw first old raw → Chunks (cut_at_end raw) 0 (seen raw) (Err r))
  all_fault e h = fault_on e (λ r. (raw : List ℕ) → IsRaw left bytes raw → Chunks (cut_at_end raw) (length body) (drop at (seen raw)) (Err r))
      (λ r. (raw : List ℕ) → IsRaw first old raw → Chunks (cut_at_end raw) 0 (seen raw) (Err r)) h (λ r b raw k. so_far raw k (Err r) (b raw (kept raw k)))

  pub all_read : (after : List ℕ) → ((raw : List ℕ) → IsRaw left bytes raw → IsChunkStep (cut_at_end raw) (seen raw) at body after None)
      → (raw : List ℕ) → IsRaw first old raw → Chunks (cut_at_end raw) 0 (seen raw) (Ok after)
  all_read after h raw k =
      let end = h raw (kept raw k) in
      subst (λ z. Chunks (cut_at_end raw) 0 (seen raw) (Ok z)) (append-nil body ∙ sym end.0) (so_far raw k (Ok []) end.1)

  pub one_further : (after : List ℕ) (next : ℕ) → ((raw : List ℕ) → IsRaw left bytes raw → IsChunkStep (cut_at_end raw) (seen raw) at body after (Some next))
      → (raw : List ℕ) → IsRaw first old raw → (out : Result (List ℕ) HttpRefusal)
      → Chunks (cut_at_end raw) (length after) (drop next (seen raw)) out → Chunks (cut_at_end raw) 0 (seen raw) (prefixed after out)
  one_further after next h raw k out c =
      let step = h raw (kept raw k) in
      subst (Chunks (cut_at_end raw) 0 (seen raw)) (joined step.0 out ∙ ap (λ z. prefixed z out) (sym step.1)) (so_far raw k (prefixed step.0 out) (step.2 out c))
    where
      joined : (content : List ℕ) (o : Result (List ℕ) HttpRefusal) → prefixed body (prefixed content o) ≡ prefixed (body ++ content) o
      joined content (Ok x) = ap Ok (sym (append_assoc body content x))
      joined content (Err r) = refl

pub nothing_first : (out : Result (List ℕ) HttpRefusal) → out ≡ prefixed [] out
nothing_first (Ok x) = refl
nothing_first (Err r) = refl

pub step_is : (left : Option (List ℕ)) (bytes body after : List ℕ) (at : ℕ) (o p : Option ℕ) → o ≡ p
    → ((raw : List ℕ) → IsRaw left bytes raw → IsChunkStep (cut_at_end raw) (seen raw) at body after o) → (raw : List ℕ) → IsRaw left bytes raw → IsChunkStep (cut_at_end raw) (seen raw) at body after p
step_is left bytes body after at o p e h raw k = subst (IsChunkStep (cut_at_end raw) (seen raw) at body after) e (h raw k)

pub place_is : (o : Option ℕ) (place at most : ℕ) → o ≡ Some place → IfSome o (λ next. (at < next) × (next ≤ most)) → (at < place) × (place ≤ most)
place_is o place at most e h = subst (λ z. IfSome z (λ next. (at < next) × (next ≤ most))) e h

-- a body of a known length
pub short_body : (left : Option (List ℕ)) (bytes raw : List ℕ) (count : ℕ) → length bytes < count → raw ≡ bytes → Body (Sized count) raw (Err BadRequest)
short_body left bytes raw count lt e = cut_off count raw (omega (arith, lt, ap length e))

pub whole_body : (left : Option (List ℕ)) (bytes raw body : List ℕ) (count : ℕ) → IsRaw left bytes raw → count ≤ length bytes → body ≡ take count bytes → Body (Sized count) raw (Ok body)
whole_body None bytes raw body count k le e = absurd k
whole_body (Some l) bytes raw body count k le e =
    subst (λ z. Body (Sized count) raw (Ok z)) (ap (take count) k ∙ take-append-le count bytes l le ∙ sym e)
    (all_there count raw (omega (arith, le, ap length k, length-append bytes l)))

pub in_chunks : (r : Result (List ℕ) HttpRefusal) (raw : List ℕ) → Chunks (cut_at_end raw) 0 (seen raw) r → Body Chunked raw r
in_chunks r raw h = chunked raw h

pub chunked_fault : (first : Option (List ℕ)) (old : List ℕ) (e : HttpRefusal) → IsFault e (λ r. (raw : List ℕ) → IsRaw first old raw → Chunks (cut_at_end raw) 0 (seen raw) (Err r))
    → IsFault e (λ r. (raw : List ℕ) → IsRaw first old raw → Body Chunked raw (Err r))
chunked_fault first old e h = fault_on e (λ r. (raw : List ℕ) → IsRaw first old raw → Chunks (cut_at_end raw) 0 (seen raw) (Err r)) (λ r. (raw : List ℕ) → IsRaw first old raw → Body Chunked raw (Err r)) h
    (λ r b raw k. chunked raw (b raw k))
