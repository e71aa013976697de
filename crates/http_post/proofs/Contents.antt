-- The data of a chunk, read on step by step.
use Rattle.std.proofs.Common.{ℕ, List, Option, [], ◌∷◌, ◌++◌, ◌≡◌, ◌≢◌, ◌≤◌, ◌<◌, ◌+◌, inl, inr, min, zero, suc, length, take, drop, refl, sym, subst, ap, ◌∙◌, arith}
use Rattle.std.proofs.lemmas.List.{length-append, length-take, length-drop, length-take-le, take-append-drop}
use Rattle.http_post.specs.declared.refusal.HttpRefusal.{HttpRefusal}
use Rattle.http_post.specs.declared.refusal.HttpRefusal.TheVariants.{BadRequest}
use Rattle.http_post.specs.Chunks.{cut_at_end, IsCutShort, in_data, before_return, before_feed, IsUnended, no_return, no_feed}
use Rattle.http_post.specs.Lines.{IsBadContent}
use Rattle.http_post.specs.RawBytes.{EndsBefore, IsFault, IsRaw, seen}
use Rattle.http_post.proofs.ChunkLines.{seen_front}
use Rattle.http_post.proofs.RawBytes.{fault_on}

-- what counts of the bytes that are held is seen
pub seen_long : (left : Option (List ℕ)) (bytes raw : List ℕ) → IsRaw left bytes raw → min (length bytes) 131072 ≤ length (seen raw)
seen_long left bytes raw k =
    let f = seen_front left bytes raw k in
    let whole : length (seen raw) ≡ length (take 131072 bytes) + length f.0 = ap length f.1 ∙ length-append (take 131072 bytes) f.0 in
    omega (arith, whole, length-take 131072 bytes)

none_left : (xs : List ℕ) (n : ℕ) → length xs ≤ n → drop n xs ≡ []
none_left [] zero le = refl
none_left [] (suc n) le = refl
none_left (x ∷ xs) zero le = absurd (omega (arith, le))
none_left (x ∷ xs) (suc n) le = none_left xs n (omega (arith, le))

pub dropped : (xs : List ℕ) (m n : ℕ) → drop n (drop m xs) ≡ drop (m + n) xs
dropped xs zero n = ap (λ k. drop k xs) (plus n)
  where
    plus : (n : ℕ) → n ≡ 0 + n
    plus n = omega arith
dropped [] (suc m) n = none_left [] n (omega arith) ∙ sym (none_left [] (suc m + n) (omega arith))
dropped (x ∷ xs) (suc m) n = dropped xs m n ∙ ap (λ k. drop k (x ∷ xs)) (plus m n)
  where
    plus : (m n : ℕ) → suc (m + n) ≡ suc m + n
    plus m n = omega arith

module _ (s : List ℕ) (from size : ℕ) (le : from ≤ length s) where
  abbrev rest : List ℕ
  rest = drop from s

  apart : rest ≡ take size rest ++ drop (from + size) s
  apart = sym (take-append-drop size rest) ∙ ap (λ z. take size rest ++ z) (dropped s from size)

  whole_length : from + size ≤ length s → length (take size rest) ≡ size
  whole_length in_s = length-take-le size rest (omega (arith, in_s, length-drop from s))

  pub breaks_in_data : length s < from + size → IsCutShort size rest
  breaks_in_data short = in_data rest (omega (arith, short, le, length-drop from s))

  pub breaks_behind : from + size ≤ length s → length s < from + size + 1 → IsCutShort size rest
  breaks_behind in_s short = before_return rest (omega (arith, in_s, short, length-drop from s))

  pub breaks_in_end : from + size + 1 ≤ length s → length s < from + size + 2 → drop (from + size) s ≡ 13 ∷ drop (from + size + 1) s → IsCutShort size rest
  breaks_in_end in_s short byte =
      let last : drop (from + size + 1) s ≡ [] = none_left s (from + size + 1) (omega (arith, short)) in
      subst (IsCutShort size) (sym (apart ∙ ap (λ z. take size rest ++ z) (byte ∙ ap (λ z. 13 ∷ z) last)))
      (before_feed (take size rest) (whole_length (omega (arith, in_s))))

  pub other_byte : (b : ℕ) → from + size ≤ length s → drop (from + size) s ≡ b ∷ drop (from + size + 1) s → b ≢ 13
      → (content : List ℕ) × (after : List ℕ) × ((rest ≡ content ++ after) × ((length content ≡ size) × IsUnended after))
  other_byte b in_s byte n =
      (take size rest, b ∷ drop (from + size + 1) s, (apart ∙ ap (λ z. take size rest ++ z) byte, (whole_length in_s, no_return b (drop (from + size + 1) s) n)))

  pub other_feed : (b : ℕ) → from + size ≤ length s → drop (from + size) s ≡ 13 ∷ drop (from + size + 1) s → drop (from + size + 1) s ≡ b ∷ drop (from + size + 1 + 1) s → b ≢ 10
      → (content : List ℕ) × (after : List ℕ) × ((rest ≡ content ++ after) × ((length content ≡ size) × IsUnended after))
  other_feed b in_s byte next n = (
    take size rest,
    13 ∷ b ∷ drop (from + size + 1 + 1) s,
    (apart ∙ ap (λ z. take size rest ++ z) (byte ∙ ap (λ z. 13 ∷ z) next), (whole_length in_s, no_feed b (drop (from + size + 1 + 1) s) n)),
  )

  pub whole_content : drop (from + size) s ≡ 13 ∷ drop (from + size + 1) s → drop (from + size + 1) s ≡ 10 ∷ drop (from + size + 1 + 1) s
      → rest ≡ take size rest ++ 13 ∷ 10 ∷ drop (from + size + 2) s
  whole_content byte next =
      let two : from + size + 1 + 1 ≡ from + size + 2 = omega arith in
      apart ∙ ap (λ z. take size rest ++ z) (byte ∙ ap (λ z. 13 ∷ z) (next ∙ ap (λ k. 10 ∷ drop k s) two))

-- the same of what a reader holds, step by step; `old` is what it held at first
module _ (first : Option (List ℕ)) (old : List ℕ) (from size : ℕ) (le : from ≤ min (length old) 131072) where
  abbrev Bad : HttpRefusal → Type 0
  Bad r = (raw : List ℕ) → IsRaw first old raw → IsBadContent size (drop from (seen raw)) (cut_at_end raw) r

  in_seen : (raw : List ℕ) → IsRaw first old raw → from ≤ length (seen raw)
  in_seen raw k = omega (arith, le, seen_long first old raw k)

  pub fault_in_data : (e : HttpRefusal) → IsFault e (λ r. (raw : List ℕ) → IsRaw first old raw → EndsBefore (from + size) raw r)
      → IsFault e (λ r. (raw : List ℕ) → IsRaw first old raw → IsBadContent size (drop from (seen raw)) (cut_at_end raw) r)
  fault_in_data e h =
      fault_on e (λ r. (raw : List ℕ) → IsRaw first old raw → EndsBefore (from + size) raw r) Bad h
      (λ r b raw k. inl (breaks_in_data (seen raw) from size (in_seen raw k) (b raw k).short, (b raw k).is_cut))

  module _ (one : Option (List ℕ)) (held : List ℕ) (kept : (raw : List ℕ) → IsRaw first old raw → IsRaw one held raw) (full : from + size ≤ min (length held) 131072) where
    filled : (raw : List ℕ) → IsRaw first old raw → from + size ≤ length (seen raw)
    filled raw k = omega (arith, full, seen_long one held raw (kept raw k))

    pub fault_behind : (e : HttpRefusal) → IsFault e (λ r. (raw : List ℕ) → IsRaw one held raw → EndsBefore (from + size + 1) raw r)
        → IsFault e (λ r. (raw : List ℕ) → IsRaw first old raw → IsBadContent size (drop from (seen raw)) (cut_at_end raw) r)
    fault_behind e h =
        fault_on e (λ r. (raw : List ℕ) → IsRaw one held raw → EndsBefore (from + size + 1) raw r) Bad h
        (λ r b raw k. inl (breaks_behind (seen raw) from size (in_seen raw k) (filled raw k) (b raw (kept raw k)).short, (b raw (kept raw k)).is_cut))

    module _ (b : ℕ) (byte : (raw : List ℕ) → IsRaw one held raw → drop (from + size) (seen raw) ≡ b ∷ drop (from + size + 1) (seen raw)) where
      pub bad_return : b ≢ 13 → (raw : List ℕ) → IsRaw first old raw → IsBadContent size (drop from (seen raw)) (cut_at_end raw) BadRequest
      bad_return n raw k =
          let o = other_byte (seen raw) from size (in_seen raw k) b (filled raw k) (byte raw (kept raw k)) n in
          inr (o.0, o.1, (o.2.0, (o.2.1.0, (o.2.1.1, refl))))

      module _ (is : b ≡ 13) (two : Option (List ℕ)) (more : List ℕ) (kept_more : (raw : List ℕ) → IsRaw first old raw → IsRaw two more raw)
          (fuller : from + size + 1 ≤ min (length more) 131072) where
        returned : (raw : List ℕ) → IsRaw first old raw → drop (from + size) (seen raw) ≡ 13 ∷ drop (from + size + 1) (seen raw)
        returned raw k = byte raw (kept raw k) ∙ ap (λ z. z ∷ drop (from + size + 1) (seen raw)) is

        pub fault_in_end : (e : HttpRefusal) → IsFault e (λ r. (raw : List ℕ) → IsRaw two more raw → EndsBefore (from + size + 1 + 1) raw r)
            → IsFault e (λ r. (raw : List ℕ) → IsRaw first old raw → IsBadContent size (drop from (seen raw)) (cut_at_end raw) r)
        fault_in_end e h =
            fault_on e (λ r. (raw : List ℕ) → IsRaw two more raw → EndsBefore (from + size + 1 + 1) raw r) Bad h
            (λ r b raw k. inl (breaks_in_end (seen raw) from size (in_seen raw k) (omega (arith, fuller, seen_long two more raw (kept_more raw k))) (omega (arith, (b raw (kept_more raw k)).short)) (returned raw k), (b raw (kept_more raw k)).is_cut))

        module _ (f : ℕ) (feed : (raw : List ℕ) → IsRaw two more raw → drop (from + size + 1) (seen raw) ≡ f ∷ drop (from + size + 1 + 1) (seen raw)) where
          pub bad_feed : f ≢ 10 → (raw : List ℕ) → IsRaw first old raw → IsBadContent size (drop from (seen raw)) (cut_at_end raw) BadRequest
          bad_feed n raw k =
              let o = other_feed (seen raw) from size (in_seen raw k) f (filled raw k) (returned raw k) (feed raw (kept_more raw k)) n in
              inr (o.0, o.1, (o.2.0, (o.2.1.0, (o.2.1.1, refl))))

          pub whole_seen : f ≡ 10 → (raw : List ℕ) → IsRaw first old raw → drop from (seen raw) ≡ take size (drop from (seen raw)) ++ 13 ∷ 10 ∷ drop (from + size + 2) (seen raw)
          whole_seen ten raw k =
              whole_content (seen raw) from size (in_seen raw k) (returned raw k) (feed raw (kept_more raw k) ∙ ap (λ z. z ∷ drop (from + size + 1 + 1) (seen raw)) ten)
