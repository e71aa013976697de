-- A chunk line that is found in what came is that of all that counts.
use Rattle.std.proofs.Common.{ℕ, List, Option, Some, None, [], ◌∷◌, ◌++◌, ◌≡◌, ◌≤◌, ◌+◌, ◌-◌, inl, inr, min, zero, suc, length, take, drop, refl, sym, subst, ap, ◌∙◌, arith, append_assoc}
use Rattle.std.proofs.Common.{Bool, true, false, Result, Ok, Err}
use Rattle.std.specs.Prelude.{IfOk, IfErr, OnOk}
use Rattle.std.proofs.lemmas.Bool.{true≢false}
use Rattle.std.proofs.lemmas.List.{length-append, length-take, length-drop, drop-append-le}
use Rattle.httparse.specs.Grammar.{ChunkLine, HasNoChunkLine, MayBecomeChunkLine, NeverHasChunkLine, ReadsChunkLine, print_chunk_line}
use Rattle.httparse.specs.Spans.{IsChunkLineAt}
use Rattle.httparse.proofs.ChunkLemmas.{ReadsChunkLine-append}
use Rattle.http_post.specs.declared.refusal.HttpRefusal.{HttpRefusal}
use Rattle.http_post.specs.Causes.{HasLinkCause, UnlessLink}
use Rattle.http_post.specs.Lines.{IsLast, IsNoLine}
use Rattle.http_post.specs.declared.refusal.HttpRefusal.TheVariants.{BadRequest, ContentTooLarge, Link, LengthRequired, MethodNotAllowed, NoMemory, UnsupportedMediaType}
use Rattle.http_post.specs.Chunks.{cut_at_end}
use Rattle.http_post.specs.RawBytes.{BreaksOff, IsFault, IsRaw, is_cut, seen}
use Rattle.http_post.proofs.RawBytes.{fault_on}

-- what counts begins with what counts of the bytes that are held
pub seen_front : (left : Option (List ℕ)) (bytes raw : List ℕ) → IsRaw left bytes raw → (more : List ℕ) × (seen raw ≡ take 131072 bytes ++ more)
seen_front None bytes raw k = absurd k
seen_front (Some l) bytes raw k = (take (131072 - length bytes) l, ap (take 131072) k ∙ taken 131072 bytes l)
  where
    less : (n : ℕ) (xs : List ℕ) → n - length xs ≡ suc n - suc (length xs)
    less n xs = omega arith

    taken : (n : ℕ) (xs ys : List ℕ) → take n (xs ++ ys) ≡ take n xs ++ take (n - length xs) ys
    taken zero xs ys =
        let nothing : 0 ≡ 0 - length xs = omega arith in
        ap (λ k. take k ys) nothing
    taken (suc n) [] ys =
        let all : suc n ≡ suc n - 0 = omega arith in
        ap (λ k. take k ys) all
    taken (suc n) (x ∷ xs) ys = ap (λ z. x ∷ z) (taken n xs ys ∙ ap (λ k. take n xs ++ take k ys) (less n xs))

-- a line that may come is none that never comes
pub not_yet : (rest : List ℕ) (cut : HttpRefusal) → HasNoChunkLine rest × MayBecomeChunkLine rest → IsNoLine rest cut cut
not_yet rest cut (none, may) = inr (none, ((λ never. never may.0 may.1 [] may.2), refl))

-- what holds of the rest of what is held, of the rest of all that counts
module _ (left : Option (List ℕ)) (bytes raw : List ℕ) (k : IsRaw left bytes raw) (at : ℕ) (le : at ≤ min (length bytes) 131072) where
  abbrev more : List ℕ
  more = (seen_front left bytes raw k).0

  rest_is : drop at (seen raw) ≡ drop at (take 131072 bytes) ++ more
  rest_is =
      let short : at ≤ length (take 131072 bytes) = omega (arith, le, length-take 131072 bytes) in
      ap (drop at) (seen_front left bytes raw k).1 ∙ drop-append-le at (take 131072 bytes) more short

  pub line_seen : (len size : ℕ) → (l : ChunkLine) × IsChunkLineAt (drop at (take 131072 bytes)) len size l → (l : ChunkLine) × IsChunkLineAt (drop at (seen raw)) len size l
  line_seen len size (l, h) =
      let part = drop at (take 131072 bytes) in
      let within : len ≤ length part = omega (arith, h.len_is, ap length h.reads.1, length-append (print_chunk_line l) (drop len part)) in (
        l,
        record {
          reads = subst (λ z. ReadsChunkLine z l (drop len z)) (sym rest_is)
              (subst (λ z. ReadsChunkLine (part ++ more) l z) (sym (drop-append-le len part more within)) (ReadsChunkLine-append part l (drop len part) more h.reads));
          len_is = h.len_is;
          size_is = h.size_is;
        },
      )

  pub never_seen : (cut : HttpRefusal) → NeverHasChunkLine (drop at (take 131072 bytes)) → IsNoLine (drop at (seen raw)) cut BadRequest
  never_seen cut h = inl (never, refl)
    where
      never : NeverHasChunkLine (drop at (seen raw))
      never others l rest reads =
          h (more ++ others) l rest (subst (λ z. ReadsChunkLine z l rest) (ap (λ z. z ++ others) rest_is ∙ append_assoc (drop at (take 131072 bytes)) more others) reads)

pub line_within : (bytes : List ℕ) (at len size : ℕ) → at ≤ min (length bytes) 131072 → (l : ChunkLine) × IsChunkLineAt (drop at (take 131072 bytes)) len size l
    → at + len ≤ min (length bytes) 131072
line_within bytes at len size le (l, h) =
    omega (arith, le, h.len_is, ap length h.reads.1, length-append (print_chunk_line l) (drop len (drop at (take 131072 bytes))), length-drop at (take 131072 bytes), length-take 131072 bytes)

-- the same of what another slice holds
pub line_of : (bytes other : List ℕ) (at len size : ℕ) → other ≡ bytes → (l : ChunkLine) × IsChunkLineAt (drop at (take 131072 other)) len size l → (l : ChunkLine) × IsChunkLineAt (drop at (take 131072 bytes)) len size l
line_of bytes other at len size e h = subst (λ z. (l : ChunkLine) × IsChunkLineAt (drop at (take 131072 z)) len size l) e h

pub never_of : (bytes other : List ℕ) (at : ℕ) → other ≡ bytes → NeverHasChunkLine (drop at (take 131072 other)) → NeverHasChunkLine (drop at (take 131072 bytes))
never_of bytes other at e h = subst (λ z. NeverHasChunkLine (drop at (take 131072 z))) e h

pub last_of : (bytes other : List ℕ) (at : ℕ) (refusal e : HttpRefusal) → other ≡ bytes → IsLast (drop at (take 131072 other)) refusal e → IsLast (drop at (take 131072 bytes)) refusal e
last_of bytes other at refusal e same h = subst (λ z. IsLast (drop at (take 131072 z)) refusal e) same h

pub if_ok : {T E : Type 0} (r : Result T E) (P Q : T → Type 0) → IfOk r P → ((x : T) → P x → Q x) → IfOk r Q
if_ok (Ok x) P Q h k = k x h
if_ok (Err e) P Q h k = tt

pub if_err : {T E : Type 0} (r : Result T E) (P Q : E → Type 0) → IfErr r P → ((e : E) → P e → Q e) → IfErr r Q
if_err (Ok x) P Q h k = tt
if_err (Err e) P Q h k = k e h

fault_real : (e : HttpRefusal) (P : HttpRefusal → Type 0) → is_cut e ≡ true → IsFault e P → P e
fault_real Link P c h = absurd (true≢false (sym c))
fault_real NoMemory P c h = absurd (true≢false (sym c))
fault_real BadRequest P c h = h
fault_real MethodNotAllowed P c h = h
fault_real LengthRequired P c h = h
fault_real ContentTooLarge P c h = h
fault_real UnsupportedMediaType P c h = h

fault_free : (e : HttpRefusal) (P : HttpRefusal → Type 0) → is_cut e ≡ false → IsFault e P
fault_free Link P c = tt
fault_free NoMemory P c = tt
fault_free BadRequest P c = absurd (true≢false c)
fault_free MethodNotAllowed P c = absurd (true≢false c)
fault_free LengthRequired P c = absurd (true≢false c)
fault_free ContentTooLarge P c = absurd (true≢false c)
fault_free UnsupportedMediaType P c = absurd (true≢false c)

-- what is answered where the body breaks off in a line, of the bytes that were there when reading began
module _ (first left now : Option (List ℕ)) (old bytes new : List ℕ) (at : ℕ) (refusal : HttpRefusal)
    (kept : (raw : List ℕ) → IsRaw first old raw → IsRaw left bytes raw) (le : at ≤ min (length bytes) 131072)
    (fault : IsFault refusal (λ r. (raw : List ℕ) → IsRaw left bytes raw → BreaksOff bytes raw r))
    (cut_kept : IsFault refusal (λ r. (raw : List ℕ) → IsRaw left bytes raw → IsRaw now new raw))
    (held : take 131072 new ≡ take 131072 bytes) where
  pub last_kept : is_cut refusal ≡ true → (raw : List ℕ) → IsRaw first old raw → IsRaw now new raw
  last_kept c raw k = fault_real refusal (λ r. (raw : List ℕ) → IsRaw left bytes raw → IsRaw now new raw) c cut_kept raw (kept raw k)

  pub last_seen : (len size : ℕ) → (l : ChunkLine) × IsChunkLineAt (drop at (take 131072 new)) len size l
      → (raw : List ℕ) → IsRaw first old raw → (l : ChunkLine) × IsChunkLineAt (drop at (seen raw)) len size l
  last_seen len size h raw k =
      line_seen left bytes raw (kept raw k) at le len size (subst (λ z. (l : ChunkLine) × IsChunkLineAt (drop at z) len size l) held h)

  pub last_fault : (e : HttpRefusal) → IsLast (drop at (take 131072 new)) refusal e → IsFault e (λ r. (raw : List ℕ) → IsRaw first old raw → IsNoLine (drop at (seen raw)) (cut_at_end raw) r)
  last_fault e (inl (no_cut, is)) = fault_free e _ (ap is_cut is ∙ no_cut)
  last_fault e (inr (c, inl (never, is))) =
      subst (λ x. IsFault x (λ r. (raw : List ℕ) → IsRaw first old raw → IsNoLine (drop at (seen raw)) (cut_at_end raw) r)) (sym is)
      (λ raw k. never_seen left bytes raw (kept raw k) at le (cut_at_end raw) (subst (λ z. NeverHasChunkLine (drop at z)) held never))
  last_fault e (inr (c, inr (none, (may, is)))) =
      subst (λ x. IsFault x (λ r. (raw : List ℕ) → IsRaw first old raw → IsNoLine (drop at (seen raw)) (cut_at_end raw) r)) (sym is)
      (fault_on refusal (λ r. (raw : List ℕ) → IsRaw left bytes raw → BreaksOff bytes raw r) (λ r. (raw : List ℕ) → IsRaw first old raw → IsNoLine (drop at (seen raw)) (cut_at_end raw) r) fault
      (λ r b raw k.
      let off = b raw (kept raw k) in
      let all : take 131072 new ≡ seen raw = held ∙ sym off.held in
      inr (subst (λ z. HasNoChunkLine (drop at z)) all none, (subst (λ z. ¬ (NeverHasChunkLine (drop at z))) all may, off.is_cut))))

-- where the bytes that count stay, a place in them stays one
pub still_within : (old new : List ℕ) (at : ℕ) → take 131072 new ≡ take 131072 old → at ≤ min (length old) 131072 → at ≤ min (length new) 131072
still_within old new at e le = omega (arith, le, ap length e, length-take 131072 old, length-take 131072 new)

pub on_ok : {T E : Type 0} (r : Result T E) (P : T → Type 0) (Q : Type 0) → IfOk r P → ((x : T) → P x → Q) → OnOk r Q
on_ok (Ok x) P Q h k = k x h
on_ok (Err e) P Q h k = tt

-- what failed where the body broke off in a line
received : {P : Type 0} (r : HttpRefusal) → is_cut r ≡ true → UnlessLink r P → P
received Link cut h = absurd (true≢false (sym cut))
received NoMemory cut h = absurd (true≢false (sym cut))
received BadRequest cut h = h
received MethodNotAllowed cut h = h
received LengthRequired cut h = h
received ContentTooLarge cut h = h
received UnsupportedMediaType cut h = h

unless : {P : Type 0} (e : HttpRefusal) → P → UnlessLink e P
unless Link h = tt
unless NoMemory h = h
unless BadRequest h = h
unless MethodNotAllowed h = h
unless LengthRequired h = h
unless ContentTooLarge h = h
unless UnsupportedMediaType h = h

fault_or : {T : Type 0} → Result T HttpRefusal → HttpRefusal
fault_or (Ok x) = NoMemory
fault_or (Err e) = e

still_cut : (rest : List ℕ) (refusal e : HttpRefusal) → is_cut refusal ≡ true → IsNoLine rest refusal e → is_cut e ≡ true
still_cut rest refusal e cut (inl (never, is)) = ap is_cut is
still_cut rest refusal e cut (inr (none, (may, is))) = ap is_cut is ∙ cut

pub last_cause : {T V : Type 0} (before now : ℕ) (refusal : HttpRefusal) → HasLinkCause {T = V} before now (Err refusal) → (rest : List ℕ) (X : T → Type 0) (r : Result T HttpRefusal)
    → IfOk r (λ line. (is_cut refusal ≡ true) × X line) → IfErr r (IsLast rest refusal) → HasLinkCause before now r
unfolding fault_or
last_cause {T} {V} before now refusal cause rest X (Ok x) (cut, line) last =
    record { later = cause.later; failed = (λ is. absurd (true≢false (ap {A = Result T HttpRefusal} is_taken is))); quiet = received refusal cut cause.refused; refused = tt }
  where
    is_taken : Result T HttpRefusal → Bool
    is_taken (Ok x) = true
    is_taken (Err e) = false
last_cause {T} {V} before now refusal cause rest X (Err e) line (inl (machine, is)) =
    subst (λ z. HasLinkCause {T = T} before now (Err z)) (sym is)
    (record { later = cause.later; failed = (λ same. cause.failed (ap {A = Result T HttpRefusal} {B = Result V HttpRefusal} (λ z. Err (fault_or z)) same)); quiet = tt; refused = cause.refused })
last_cause {T} {V} before now refusal cause rest X (Err e) line (inr (cut, none)) =
    let same : now ≡ before = received refusal cut cause.refused in
    record { later = cause.later; failed = (λ is. absurd (true≢false (sym (still_cut rest refusal e cut none) ∙ ap {A = Result T HttpRefusal} (λ z. is_cut (fault_or z)) is))); quiet = tt; refused = unless e same }
